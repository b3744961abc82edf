-- Which counts of faults rose, from a node's start to its end.
use Rattle.std.proofs.Common.{ℕ, ◌≡◌, subst, inl}
use Rattle.xt_messages.specs.declared.status.Status.{Status}
use Rattle.xt_messages.specs.declared.status.Status.TheVariants as status
use Rattle.node_runs.specs.BatchEnds.{HasBatchCause}
use Rattle.node_runs.specs.Serving.{HasServeCause}

-- where no call had failed before
pub cause_from : (l0 l1 l2 c0 c1 c2 : ℕ) (said : Status) → l1 ≡ l0 → c1 ≡ c0 → HasServeCause l1 l2 c1 c2 said → HasServeCause l0 l2 c0 c2 said
cause_from l0 l1 l2 c0 c1 c2 said e f is = subst (λ n. HasServeCause n l2 c0 c2 said) e (subst (λ n. HasServeCause l1 l2 n c2 said) f is)

-- of a node that served
pub served_from : (l0 l1 l2 c0 c1 c2 : ℕ) (said : Status) → l1 ≡ l0 → c1 ≡ c0 → HasBatchCause l1 l2 c1 c2 said → HasBatchCause l0 l2 c0 c2 said
served_from l0 l1 l2 c0 c1 c2 said e f is = subst (λ n. HasBatchCause n l2 c0 c2 said) e (subst (λ n. HasBatchCause l1 l2 n c2 said) f is)

-- of a node that ended before it served
pub ended_early_by : (l0 l2 c0 c2 : ℕ) (said : Status) → HasServeCause l0 l2 c0 c2 said → HasBatchCause l0 l2 c0 c2 said
ended_early_by l0 l2 c0 c2 (status.DiskFault count) cause = inl cause
ended_early_by l0 l2 c0 c2 status.OutOfMemory cause = inl cause
ended_early_by l0 l2 c0 c2 _ cause = cause
