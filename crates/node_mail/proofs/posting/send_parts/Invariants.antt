use Rattle.std.proofs.Common.{◌≡◌, map}
use Rattle.std.specs.List.{list_all, range_with_len}
use Rattle.xt_parts.specs.Part.{part_of}
use Rattle.node_runs.specs.Posting.{sent_to}
use Rattle.node_runs.specs.Links.{Sends}
use Rattle.node_mail.proofs.posting.send_parts.Given as goal

-- the parts below the index were handed to the link
abbrev pub invariant-loop-index : goal.invariant-loop-index
invariant-loop-index g l =
    (g.L.Link.given l.link ≡ g.L.Link.given l.fn.link)
    × (g.L.Link.fault_count l.link ≡ g.L.Link.fault_count l.fn.link)
    × ((sends : Sends (g.L.Link.sent l.fn.link) (g.L.Link.sent l.link) (g.L.Link.loss_count l.fn.link) (g.L.Link.loss_count l.link)
    (sent_to l.to (map (part_of l.id l.message) (range_with_len 0 l.index))))
    × (l.all ≡ list_all (λ ok. ok) sends.taken))
