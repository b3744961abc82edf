use Rattle.std.proofs.Common.{ℕ, List, ◌≡◌, subst}
use Rattle.std.specs.List.{list_all}
use Rattle.xt_parts.specs.Part.{parts_of}
use Rattle.node_runs.specs.Links.{Sends}
use Rattle.node_runs.specs.Posting.{sent_to}
use Rattle.node_mail.proofs.packed.Post.release.Goals as goal

pub returns-clause-sends : goal.returns-clause-sends
returns-clause-sends g c =
    let post = c.args.self.now in
    subst (λ (bytes : List ℕ). (sends : Sends (g.L.Link.sent c.args.link.now) (g.L.Link.sent c.send_parts.new.link) (g.L.Link.loss_count c.args.link.now) (g.L.Link.loss_count c.send_parts.new.link)
    (sent_to post.address (parts_of post.id bytes))) × (c.send_parts.result ≡ list_all (λ ok. ok) sends.taken)) c.as_slice.ensures c.send_parts.ensures.sends
