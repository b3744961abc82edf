-- A clock that no tick touches says the same.
use Rattle.std.proofs.Common.{◌≡◌, ℕ, ◌+◌, ◌-◌, ◌≤◌, Bool, true, false, Option, Some, None, refl, sym, ap, ◌∙◌, arith}
use Rattle.std.specs.Prelude.{◌==◌, ◌&&◌, if◌then◌else◌}
use Rattle.xt_base.specs.declared.ids.NodeId.{NodeId}
use Rattle.time_line.specs.declared.entry.Entry.{Entry}
use Rattle.time_line.specs.declared.entry.Entry.TheVariants as entry
use Rattle.time_line.specs.TimeLine.{RunningBoot, standing_after, advances, reads, held_until, holds_as, is_before_end}
use Rattle.trace_judge.specs.declared.readings.Reading.{Reading}
use Rattle.trace_judge.specs.Short.{ticks_after, told_at, ends_at, reading_after, holds_at, TellsStanding, ReadingsTell}

ticked : (ticks count : ℕ) (r : Option Reading) (s : Option RunningBoot) → TellsStanding ticks r s → TellsStanding (ticks + count) r (standing_after (record { 0 = 0 }) 0 s (entry.Tick count))
ticked ticks count None None tells = tt
ticked ticks count None (Some s) tells = tells
ticked ticks count (Some r) None tells = tells
ticked ticks count (Some r) (Some s) (before, clock, end) = (omega (arith, before), (let same : s.clock ≡ r.clock + (ticks - r.ticks) = clock in omega (arith, before, same)), end)

module _ (node : NodeId) (file ticks : ℕ) where
  up : (b : Bool) (boot_clock : ℕ) (up_s : RunningBoot) → up_s.clock ≡ boot_clock → up_s.end ≡ None → (r : Option Reading) (s : Option RunningBoot) → TellsStanding ticks r s
      → TellsStanding ticks (if b then Some (let x : Reading = record { clock = boot_clock; ticks = ticks; end = None } in x) else r) (if b then Some up_s else s)
  up true clock up_s is none r s tells = (omega arith, (let same : up_s.clock ≡ clock = is in omega (arith, same)), none)
  up false clock up_s is none r s tells = tells

  down : (b : Bool) (r : Option Reading) (s : Option RunningBoot) → TellsStanding ticks r s → TellsStanding ticks (if b then None else r) (if b then None else s)
  down true r s tells = tt
  down false r s tells = tells

  told : (clock : ℕ) (b : Bool) (r : Option Reading) (s : Option RunningBoot) → TellsStanding ticks r s → TellsStanding ticks (if b then told_at ticks clock r else r) (if b then reads clock s else s)
  told clock false r s tells = tells
  told clock true None None tells = tt
  told clock true None (Some s) tells = tells
  told clock true (Some r) None tells = tells
  told clock true (Some r) (Some s) tells = (omega arith, omega arith, tells.2)

  ends : (end : ℕ) (b : Bool) (r : Option Reading) (s : Option RunningBoot) → TellsStanding ticks r s → TellsStanding ticks (if b then ends_at end r else r) (if b then held_until end s else s)
  ends end false r s tells = tells
  ends end true None None tells = tt
  ends end true None (Some s) tells = tells
  ends end true (Some r) None tells = tells
  ends end true (Some r) (Some s) tells = (tells.0, tells.1, refl)

  more : (r : Option Reading) (s : Option RunningBoot) (e : Entry) → TellsStanding ticks r s → TellsStanding (ticks_after ticks e) (reading_after node file ticks r e) (standing_after node file s e)
  more r s (entry.Clock m clock) tells = told clock (m.0 == node.0) r s tells
  more r s (entry.Tick count) tells = ticked ticks count r s tells
  more r s (entry.Up m boot clock) tells = up (m.0 == node.0) clock (record { boot = boot; clock = clock; end = None }) refl refl r s tells
  more r s (entry.Down m clock how) tells = down (m.0 == node.0) r s tells
  more r s (entry.Held m f end) tells = ends end ((m.0 == node.0) && (f == file)) r s tells
  more r s _ tells = tells

-- where the clocks have advanced to these ticks
pub advanced_stands : (ticks later : ℕ) (r : Option Reading) (s : Option RunningBoot) → ticks ≤ later → TellsStanding ticks r s → TellsStanding later r (advances (later - ticks) s)
advanced_stands ticks later None None less tells = tt
advanced_stands ticks later None (Some s) less tells = tells
advanced_stands ticks later (Some r) None less tells = tells
advanced_stands ticks later (Some r) (Some s) less (before, clock, end) =
    (omega (arith, before, less), (let same : s.clock ≡ r.clock + (ticks - r.ticks) = clock in omega (arith, before, less, same)), end)

hold : (drift ticks : ℕ) (r : Option Reading) (s : Option RunningBoot) → TellsStanding ticks r s → holds_at drift ticks r ≡ holds_as drift s
hold drift ticks None None tells = refl
hold drift ticks None (Some s) tells = absurd tells
hold drift ticks (Some r) None tells = absurd tells
hold drift ticks (Some r) (Some s) (before, clock, end) = ap (λ (c : ℕ). is_before_end c drift r.end) (sym clock) ∙ ap (is_before_end s.clock drift) (sym end)

pub readings_tell : ReadingsTell
readings_tell = record { more = more; hold = hold; all_hold = λ drift ticks row stand tells. λ i n. hold drift ticks (row n) (stand n) (tells n) i }
