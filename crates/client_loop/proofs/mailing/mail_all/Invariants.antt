use Rattle.std.proofs.Common.{◌≡◌, take}
use Rattle.client_loop.specs.Mailing.{mailed}
use Rattle.node_runs.specs.Posting.{none_posted, HasPosted}
use Rattle.node_runs.specs.Links.{Sends}
use Rattle.client_loop.proofs.mailing.mail_all.Given as goal

abbrev pub invariant-loop-msg : goal.invariant-loop-msg
invariant-loop-msg g l =
    (g.L.Link.given l.link ≡ g.L.Link.given l.fn.link)
    × (g.L.Link.fault_count l.link ≡ g.L.Link.fault_count l.fn.link)
    × (l.sender.node ≡ l.fn.sender.node)
    × (l.sender.boot ≡ l.fn.sender.boot)
    × HasPosted (mailed l.fn.sender.node l.fn.sender.boot l.book (none_posted l.fn.sender.count) (take l.msg-index l.msgs)) l.sender.count
    (Sends (g.L.Link.sent l.fn.link) (g.L.Link.sent l.link) (g.L.Link.loss_count l.fn.link) (g.L.Link.loss_count l.link))
