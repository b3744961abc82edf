-- what a dealt trace keeps of its entries
use Rattle.std.specs.Prelude.{ℕ, ◌≡◌, ◌≤◌, ◌*◌, ◌^◌, length}
use Rattle.std.specs.List.{sum_by}
use Rattle.time_line.specs.TimeLine.{begun, location_in, times_of}
use Rattle.judging.specs.Dealt.{is_common, ticks_of}
use Rattle.trace_judge.specs.Deals.{places_from, ticks_from, is_of, location_at, places_in}
use Rattle.trace_judge.specs.declared.dealing.DealtTrace.TheInside.{Inside}

pub record IsDealtOut (t : Inside) : Type 0 where
  pub drift : t.drift ≡ (times_of t.entries.now).drift
  pub locations : (file : ℕ) → location_at t.locations.rows file ≡ location_in file t.entries.now
  pub places : (file : ℕ) → places_in t.places.rows file ≡ places_from (is_of (λ id. begun id t.entries.now) file) 0 t.entries.now
  pub common : t.common.items ≡ places_from is_common 0 t.entries.now
  pub ticks : t.ticks.items ≡ ticks_from 0 t.entries.now
  pub few : sum_by ticks_of t.entries.now ≤ length t.entries.now * 2 ^ 64
