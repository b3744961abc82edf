-- Shorter than how a node stands: a clock that no tick touches, with the sum of the ticks when it was reported.
use Rattle.std.specs.Prelude.{ℕ, Bool, false, ◌≡◌, ◌≤◌, ◌&&◌, ◌==◌, ◌+◌, ◌-◌, if◌then◌else◌, Option, Some, None}
use Rattle.xt_base.specs.declared.ids.NodeId.{NodeId}
use Rattle.time_line.specs.declared.entry.Entry.{Entry}
use Rattle.time_line.specs.declared.entry.Entry.TheVariants as entry
use Rattle.trace_judge.specs.declared.readings.Reading.{Reading}
use Rattle.time_line.specs.TimeLine.{RunningBoot, standing_after, holds_as, is_before_end}

-- the sum of the ticks after an entry
abbrev pub ticks_after : ℕ → Entry → ℕ
ticks_after ticks (entry.Tick count) = ticks + count
ticks_after ticks _ = ticks

abbrev pub told_at : ℕ → ℕ → Option Reading → Option Reading
told_at ticks clock None = None
told_at ticks clock (Some r) = Some (record { clock = clock; ticks = ticks; end = r.end })

abbrev pub ends_at : ℕ → Option Reading → Option Reading
ends_at end None = None
ends_at end (Some r) = Some (record { clock = r.clock; ticks = r.ticks; end = Some end })

-- what is kept of a node after an entry
abbrev pub reading_after : NodeId → ℕ → ℕ → Option Reading → Entry → Option Reading
reading_after node file ticks before (entry.Up n boot clock) =
    if n.0 == node.0 then Some (record { clock = clock; ticks = ticks; end = None }) else before
reading_after node file ticks before (entry.Down n clock how) = if n.0 == node.0 then None else before
reading_after node file ticks before (entry.Clock n clock) = if n.0 == node.0 then told_at ticks clock before else before
reading_after node file ticks before (entry.Held n f end) = if (n.0 == node.0) && (f == file) then ends_at end before else before
reading_after node file ticks before _ = before

abbrev pub holds_at : ℕ → ℕ → Option Reading → Bool
holds_at drift ticks None = false
holds_at drift ticks (Some r) = is_before_end (r.clock + (ticks - r.ticks)) drift r.end

-- the reading says how the node stands
abbrev pub TellsStanding : ℕ → Option Reading → Option RunningBoot → Type 0
TellsStanding ticks None None = Unit {0}
TellsStanding ticks None (Some s) = ⊥
TellsStanding ticks (Some r) None = ⊥
TellsStanding ticks (Some r) (Some s) = (r.ticks ≤ ticks) × (s.clock ≡ r.clock + (ticks - r.ticks)) × (s.end ≡ r.end)

-- Readings go on to say how nodes stand, and so who holds.
pub record ReadingsTell : Type 0 where
  pub more :
      (node : NodeId) (file ticks : ℕ) (r : Option Reading) (s : Option RunningBoot) (e : Entry)
      → TellsStanding ticks r s → TellsStanding (ticks_after ticks e) (reading_after node file ticks r e) (standing_after node file s e)
  pub hold : (drift ticks : ℕ) (r : Option Reading) (s : Option RunningBoot) → TellsStanding ticks r s → holds_at drift ticks r ≡ holds_as drift s
  pub all_hold :
      (drift ticks : ℕ) (row : NodeId → Option Reading) (stand : NodeId → Option RunningBoot)
      → ((n : NodeId) → TellsStanding ticks (row n) (stand n)) → ◌≡◌ {A = NodeId → Bool} (λ n. holds_at drift ticks (row n)) (λ n. holds_as drift (stand n))
