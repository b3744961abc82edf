use Rattle.std.proofs.Common.{◌≡◌, ◌+◌, ℕ, length, subst, arith}
use Rattle.std.specs.Prelude.{max}
use Rattle.xt_base.specs.Overlay.{overlay}
use Rattle.sparse_bytes.specs.Sparse.{Tells}
use Rattle.sparse_bytes.proofs.Written.{ArePut, all_put}
use Rattle.sparse_bytes.proofs.SparseBytes.write.Goals as goal

pub returns : goal.returns
returns c = λ content tells.
    let whole : c.loop-i.i ≡ length c.args.bytes.now = omega (arith, c.loop-i-test.false, c.loop-i.auto.i-end) in
    let long : max c.args.self.now.size (c.args.at + length c.args.bytes.now) ≡ c.max-self.result = omega (arith, c.max-self.ensures, c.loop-i.invariant.0) in
    let put = subst (ArePut c.args.self.now.written c.loop-i.self.written c.args.at c.args.bytes.now) whole c.loop-i.invariant.1 in
    subst (λ (n : ℕ). Tells n c.loop-i.self.written (overlay content c.args.at c.args.bytes.now)) long
    (all_put c.args.self.now.written c.loop-i.self.written c.args.self.now.size c.args.at c.args.bytes.now content put tells)
