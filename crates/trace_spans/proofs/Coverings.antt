-- spans, as they are found
use Rattle.std.proofs.Common.{◌≡◌, ℕ, ◌<◌, ◌≤◌, List, true, false, Bool}
use Rattle.std.specs.Prelude.{Some, slice_get}
use Rattle.trace_spans.specs.declared.spans.Span.{Span}
use Rattle.trace_spans.specs.Covering.{is_covered}

-- The spans have the places before `from` at which the flag is up, and no others; from there on up to `at` it is up.
pub record Covering (flags : List Bool) (from at : ℕ) (spans : List Span) : Type 0 where
  pub order : from ≤ at
  pub exact : (k : ℕ) → k < from → slice_get flags k ≡ Some (is_covered k spans)
  pub up : (k : ℕ) → from ≤ k → k < at → slice_get flags k ≡ Some true
  pub later : (k : ℕ) → from ≤ k → is_covered k spans ≡ false
