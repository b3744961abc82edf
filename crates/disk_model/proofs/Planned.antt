-- A plan one call on.
use Rattle.std.proofs.Common.{◌≡◌, ℕ, ◌+◌, Bool, ◌∙◌, ap, arith}
use Rattle.disk_model.specs.Disk.{GoesByPlan}
use Rattle.xt_base.specs.Faults.{counted}
use Rattle.disk_model.specs.Plan.{planned, fails_at}
use Rattle.disk_model.specs.declared.plan.Plan.{Plan}

-- the numbers of the calls that come are those from before, one call on
pub goes_by_plan : (old new : Plan) (looks changes calls made : ℕ) (failed : Bool) → failed ≡ fails_at old.failing old.stop (counted calls) (counted made)
    → new.failing ≡ old.failing → new.stop ≡ old.stop → new.calls ≡ calls → new.changes ≡ made
    → ((n : ℕ) → counted (calls + n) ≡ counted (old.calls + (looks + changes + n))) → ((n : ℕ) → counted (made + n) ≡ counted (old.changes + (changes + n)))
    → GoesByPlan looks changes (planned old) (planned new) failed
goes_by_plan old new looks changes calls made failed answer failing stop is_calls is_made number count =
    let fails = λ (m k : ℕ). fails_at old.failing old.stop m k in
    record {
      answer =
          let first : counted calls ≡ counted (old.calls + (looks + changes)) = omega (arith, number 0) in
          let second : counted made ≡ counted (old.changes + changes) = omega (arith, count 0) in
          answer ∙ ap (λ (m : ℕ). fails m (counted made)) first ∙ ap (λ (k : ℕ). fails (counted (old.calls + (looks + changes))) k) second;
      rest = λ l c.
          let first : counted (new.calls + (l + c)) ≡ counted (old.calls + ((looks + l) + (changes + c))) = omega (arith, is_calls, number (l + c)) in
          let second : counted (new.changes + c) ≡ counted (old.changes + (changes + c)) = omega (arith, is_made, count c) in
          ap (λ (f : _). fails_at f new.stop (counted (new.calls + (l + c))) (counted (new.changes + c))) failing
          ∙ ap (λ (s : _). fails_at old.failing s (counted (new.calls + (l + c))) (counted (new.changes + c))) stop
          ∙ ap (λ (m : ℕ). fails m (counted (new.changes + c))) first
          ∙ ap (λ (k : ℕ). fails (counted (old.calls + ((looks + l) + (changes + c)))) k) second;
    }
