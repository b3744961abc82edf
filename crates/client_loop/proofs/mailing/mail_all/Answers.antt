use Rattle.std.proofs.Common.{take, subst, sym, ◌∙◌, ℕ}
use Rattle.client_loop.specs.Mailing.{one_mailed, mailed}
use Rattle.xt_base.specs.declared.ids.NodeId.{NodeId}
use Rattle.xt_base.specs.declared.ids.Boot.{Boot}
use Rattle.node_runs.specs.Posting.{Posted, none_posted, HasPosted}
use Rattle.node_runs.specs.Links.{Sends}
use Rattle.client_loop.proofs.Mailed.{mailed_more, has_more}
use Rattle.client_loop.proofs.mailing.mail_all.Goals as goal

pub loop-msg-preserved : goal.loop-msg-preserved
loop-msg-preserved g c =
    let i = c.loop-msg.msg-index in
    let s = c.args.sender.now in
    let inv = c.loop-msg.invariant in
    let e = c.in_ok-mail.ensures in
    let p : Posted = mailed s.node s.boot c.args.book.now (none_posted s.count) (take i c.args.msgs.now) in
    let sent = λ (n : NodeId) (b : Boot) (count : ℕ).
    HasPosted (one_mailed n b c.args.book.now (none_posted count) c.msg-item.result) c.mail.new.sender.count
    (Sends (g.L.Link.sent c.loop-msg.link) (g.L.Link.sent c.mail.new.link) (g.L.Link.loss_count c.loop-msg.link) (g.L.Link.loss_count c.mail.new.link)) in
    let as_told : sent c.loop-msg.sender.node c.loop-msg.sender.boot c.loop-msg.sender.count = e.sends in
    let told : sent s.node s.boot p.count =
    subst (sent s.node s.boot) inv.4.counted (subst (λ b. sent s.node b c.loop-msg.sender.count) inv.3 (subst (λ n. sent n c.loop-msg.sender.boot c.loop-msg.sender.count) inv.2 as_told)) in
    let more = has_more s.node s.boot c.args.book.now p c.msg-item.result c.mail.new.sender.count
    (g.L.Link.sent c.args.link.now) (g.L.Link.sent c.loop-msg.link) (g.L.Link.sent c.mail.new.link)
    (g.L.Link.loss_count c.args.link.now) (g.L.Link.loss_count c.loop-msg.link) (g.L.Link.loss_count c.mail.new.link) inv.4.went told in (
      e.given ∙ inv.0,
      e.faults ∙ inv.1,
      e.same.0 ∙ inv.2,
      e.same.1 ∙ inv.3,
      subst (λ q. HasPosted q c.mail.new.sender.count
          (Sends (g.L.Link.sent c.args.link.now) (g.L.Link.sent c.mail.new.link) (g.L.Link.loss_count c.args.link.now) (g.L.Link.loss_count c.mail.new.link)))
          (sym (mailed_more s.node s.boot c.args.book.now (none_posted s.count) c.args.msgs.now i c.msg-item.result c.loop-msg-test.true c.msg-item.is)) more,
    )
