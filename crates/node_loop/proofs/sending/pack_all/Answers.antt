use Rattle.std.proofs.Common.{take, subst, sym, ◌∙◌, ℕ}
use Rattle.xt_base.specs.declared.ids.NodeId.{NodeId}
use Rattle.xt_base.specs.declared.ids.Boot.{Boot}
use Rattle.node_runs.specs.Posting.{Posted, posted, one_posted, none_posted, HasPosted}
use Rattle.node_loop.specs.Batched.{WaitsAfter}
use Rattle.node_loop.proofs.Sent.{posted_more}
use Rattle.node_loop.proofs.Packed.{waits_more}
use Rattle.node_loop.proofs.sending.pack_all.Goals as goal

pub loop-msg-preserved : goal.loop-msg-preserved
loop-msg-preserved c =
    let i = c.loop-msg.msg-index in
    let s = c.args.sender.now in
    let inv = c.loop-msg.invariant in
    let e = c.in_ok-pack_one.ensures in
    let p : Posted = posted s.node s.boot c.args.book.now (none_posted s.count) (take i c.args.msgs.now) in
    let waits = λ (n : NodeId) (b : Boot) (count : ℕ).
    HasPosted (one_posted n b c.args.book.now (none_posted count) c.msg-item.result) c.pack_one.new.sender.count (WaitsAfter c.loop-msg.posts.items c.pack_one.new.posts.items) in
    let as_told : waits c.loop-msg.sender.node c.loop-msg.sender.boot c.loop-msg.sender.count = e.waits in
    let told : waits s.node s.boot p.count =
    subst (waits s.node s.boot) inv.2.counted (subst (λ b. waits s.node b c.loop-msg.sender.count) inv.1 (subst (λ n. waits n c.loop-msg.sender.boot c.loop-msg.sender.count) inv.0 as_told)) in
    let more = waits_more s.node s.boot c.args.book.now p c.msg-item.result c.pack_one.new.sender.count c.args.posts.now.items c.loop-msg.posts.items c.pack_one.new.posts.items
    inv.2.went told in (
      e.same.0 ∙ inv.0,
      e.same.1 ∙ inv.1,
      subst (λ q. HasPosted q c.pack_one.new.sender.count (WaitsAfter c.args.posts.now.items c.pack_one.new.posts.items))
          (sym (posted_more s.node s.boot c.args.book.now (none_posted s.count) c.args.msgs.now i c.msg-item.result c.loop-msg-test.true c.msg-item.is)) more,
    )
