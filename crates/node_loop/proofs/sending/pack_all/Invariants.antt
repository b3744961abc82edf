use Rattle.std.proofs.Common.{◌≡◌, take}
use Rattle.node_runs.specs.Posting.{posted, none_posted, HasPosted}
use Rattle.node_loop.specs.Batched.{WaitsAfter}
use Rattle.node_loop.proofs.sending.pack_all.Given as goal

abbrev pub invariant-loop-msg : goal.invariant-loop-msg
invariant-loop-msg l =
    (l.sender.node ≡ l.fn.sender.node)
    × (l.sender.boot ≡ l.fn.sender.boot)
    × HasPosted (posted l.fn.sender.node l.fn.sender.boot l.book (none_posted l.fn.sender.count) (take l.msg-index l.msgs)) l.sender.count
    (WaitsAfter l.fn.posts.items l.posts.items)
