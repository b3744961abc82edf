use Rattle.std.proofs.Common.{List, ◌≡◌, subst}
use Rattle.std.specs.List.{list_all}
use Rattle.node_links.specs.declared.link.Datagram.{Datagram}
use Rattle.node_runs.specs.Links.{Sends}
use Rattle.node_mail.proofs.posting.Sender.post.Goals as goal

pub returns-clause-sends : goal.returns-clause-sends
returns-clause-sends g c =
    subst (λ (datagrams : List Datagram). (sends : Sends (g.L.Link.sent c.args.link.now) (g.L.Link.sent c.release.new.link) (g.L.Link.loss_count c.args.link.now)
    (g.L.Link.loss_count c.release.new.link) datagrams) × (c.release.result ≡ list_all (λ ok. ok) sends.taken)) c.in_ok-post.ensures.packed c.release.ensures.sends
