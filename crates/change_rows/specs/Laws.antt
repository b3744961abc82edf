-- what holds of every change, of every choice and of every Wake
use Rattle.std.specs.Prelude.{ℕ, ◌≡◌, ◌<◌, ◌+◌, ◌^◌, ◌⊎◌, ◌↔◌, Option, Some, None, List, ◌∷◌, ◌++◌, length}
use Rattle.std.specs.List.{AllByRecursion}
use Rattle.xt_base.specs.TimeSettings.{TimeSettings}
use Rattle.xt_base.specs.declared.ids.NodeId.{NodeId}
use Rattle.xt_messages.specs.declared.file.FileHead.{FileHead}
use Rattle.change_rows.specs.declared.Choice.{Choice}
use Rattle.change_rows.specs.Changes.{ChangeState, majority_of, choice_at}
use Rattle.change_rows.specs.Coordinating.{Running, Step, chosen}

-- fewer than a majority of the old members are counted
abbrev pub IsFew : ChangeState → Type 0
IsFew c = length c.reports < majority_of (length c.before.members)

-- less than the length of a lease and the drift have passed since then
abbrev pub IsShort : TimeSettings → Option ℕ → ℕ → Type 0
IsShort times None now = Unit {0}
IsShort times (Some moment) now = now < moment + times.lease + times.drift

abbrev pub IsEarly : ChangeState → ℕ → Type 0
IsEarly c now = IsFew c ⊎ IsShort c.times c.since now

-- the clock of the majority is known exactly from the majority on
abbrev pub IsTimed : ChangeState → Type 0
IsTimed c = (c.since ≡ None) ↔ IsFew c

-- a head that was reported under a lesser promise
abbrev pub IsBelow : Choice → NodeId × FileHead → Type 0
IsBelow choice report = report.1.promised.number < choice.head.promised.number

-- whatever is chosen is promised to an epoch above each that was reported
abbrev pub IsAbove : ChangeState → Type 0
IsAbove c = (now : ℕ) (choice : Choice) → choice_at c now ≡ Some choice → AllByRecursion (IsBelow choice) c.reports

-- one file without a choice gets this one, for which it was ready at this clock; all others are as they were
pub record Chooses (now : ℕ) (choice : Choice) (before after : List Running) : Type 0 where
  pub earlier : List Running
  pub later : List Running
  pub file : Running
  pub free : file.choice ≡ None
  pub ready : choice_at file.change now ≡ Some choice
  pub numbered : choice.head.promised.number < 2 ^ 62
  pub was : before ≡ earlier ++ file ∷ later
  pub is : after ≡ earlier ++ record { change = file.change; choice = Some choice; listed = file.listed } ∷ later

-- What a Wake keeps: nothing, and the changes are as they were; or one choice, and one file has it.
pub data WakeKeeps (now : ℕ) (before : List Running) : Step → Type 0 where
  nothing : (step : Step) → step.turned.rec ≡ None → step.running ≡ before → WakeKeeps now before step
  one : (step : Step) (choice : Choice) → step.turned.rec ≡ Some (chosen choice) → Chooses now choice before step.running → WakeKeeps now before step
