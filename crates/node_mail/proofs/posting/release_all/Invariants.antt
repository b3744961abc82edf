use Rattle.std.proofs.Common.{◌≡◌, take}
use Rattle.node_runs.specs.Links.{Sends}
use Rattle.node_mail.specs.Posts.{datagrams_of_all}
use Rattle.node_mail.proofs.posting.release_all.Given as goal

-- the messages before this one were sent
abbrev pub invariant-loop-post : goal.invariant-loop-post
invariant-loop-post g l =
    (g.L.Link.given l.link ≡ g.L.Link.given l.fn.link)
    × (g.L.Link.fault_count l.link ≡ g.L.Link.fault_count l.fn.link)
    × Sends (g.L.Link.sent l.fn.link) (g.L.Link.sent l.link) (g.L.Link.loss_count l.fn.link) (g.L.Link.loss_count l.link) (datagrams_of_all (take l.post-index l.posts))
