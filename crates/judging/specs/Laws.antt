-- what the pass gives: the verdict of the definition
use Rattle.std.specs.Prelude.{ℕ, ◌≡◌, Option, Some, None, List, [], ◌∷◌}
use Rattle.xt_base.specs.declared.ids.OpId.{OpId}
use Rattle.xt_base.specs.declared.ids.NodeId.{NodeId}
use Rattle.time_line.specs.declared.entry.Entry.TheVariants as entry
use Rattle.time_line.specs.Clauses.{IsBefore, HasBegunOn}
use Rattle.time_line.specs.declared.entry.Entry.{Entry}
use Rattle.time_line.specs.TimeLine.{times_told}
use Rattle.time_line.specs.Verdicts.{Break, HoldsUpTo, IsBrokenAt}
use Rattle.judging.specs.Pass.{judged}

abbrev pub HaveNoTimes : List Entry → Type 0
HaveNoTimes [] = Unit {0}
HaveNoTimes (e ∷ es) = (times_told e ≡ None) × HaveNoTimes es

-- The times stand first, if anywhere.
abbrev pub TimesStandFirst : List Entry → Type 0
TimesStandFirst [] = Unit {0}
TimesStandFirst (e ∷ es) = HaveNoTimes es

-- What a verdict says of a file: that no front of the trace breaks a clause, or where it is broken first.
abbrev pub IsVerdict : ℕ → List Entry → Option Break → Type 0
IsVerdict file entries None = (b : Break) → HoldsUpTo b file entries
IsVerdict file entries (Some b) = IsBrokenAt b file entries

-- The pass gives the verdict.
abbrev pub PassesJudge : Type 0
PassesJudge = (file : ℕ) (entries : List Entry) → TimesStandFirst entries → IsVerdict file entries (judged file entries)

-- an answer on the file to a call that had begun on it
abbrev pub IsAnswered : ℕ → List Entry → OpId → ℕ → List ℕ → Type 0
IsAnswered file es id count bytes = (first : List Entry) × (node : NodeId) × IsBefore first (entry.Answer node file id count bytes) es × HasBegunOn file first id
