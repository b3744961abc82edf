use Rattle.std.proofs.Common.{◌≡◌, ◌<◌, ℕ, get_or}
use Rattle.object_store.specs.declared.read_body.ReadBody.{ReadBody}
use Rattle.object_store.proofs.sought.sought.Given as goal

-- those so far are others
abbrev pub invariant-loop-body : goal.invariant-loop-body
invariant-loop-body l = (k : ℕ) (d : ReadBody) → k < l.body-index → (get_or l.read k d).key ≡ l.key → ⊥
