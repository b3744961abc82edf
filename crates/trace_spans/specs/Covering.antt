-- spans of the entries after which something holds
use Rattle.std.specs.Prelude.{ℕ, Bool, ◌≡◌, ◌≤◌, ◌<◌, ◌&&◌, nat_le, nat_lt, Some, List, length, slice_get}
use Rattle.std.specs.List.{list_any}
use Rattle.trace_spans.specs.declared.spans.Span.{Span}

-- whether the entry at this place is in the span
abbrev pub is_in : ℕ → Span → Bool
is_in place span = nat_le span.from place && nat_lt place span.to

-- whether it is in one of these
abbrev pub is_covered : ℕ → List Span → Bool
is_covered place spans = list_any (is_in place) spans

-- The spans have exactly the places at which the flag is up.
pub record Cover (flags : List Bool) (spans : List Span) : Type 0 where
  pub exact : (k : ℕ) → k < length flags → slice_get flags k ≡ Some (is_covered k spans)
  pub inside : (k : ℕ) → length flags ≤ k → is_covered k spans ≡ Bool.false
