-- a verdict, as the code has it
use Rattle.std.specs.Prelude.{◌≡◌, ◌||◌, ◌&&◌, ◌==◌, nat_lt, if◌then◌else◌, Option, Some, None, List, [], ◌∷◌}
use Rattle.time_line.specs.declared.entry.Entry.{Entry}
use Rattle.time_line.specs.Verdicts.{Break, number_of, IsSafe, IsBroken}
use Rattle.trace_judge.specs.declared.verdict.Verdict.{Verdict}
use Rattle.trace_judge.specs.declared.verdict.Verdict.TheVariants as verdict

abbrev pub verdict_of : Option Break → Verdict
verdict_of None = verdict.Safe
verdict_of (Some b) = verdict.Broken (number_of b.clause) b.entry

-- the verdict of a break, if there is one
abbrev pub some_verdict : Option Break → Option Verdict
some_verdict None = None
some_verdict (Some b) = Some (verdict.Broken (number_of b.clause) b.entry)

-- of two verdicts the lesser, of equal ones the first
abbrev pub lesser_verdict : Verdict → Verdict → Verdict
lesser_verdict verdict.Safe other = other
lesser_verdict (verdict.Broken clause entry) verdict.Safe = verdict.Broken clause entry
lesser_verdict (verdict.Broken clause entry) (verdict.Broken clause_other entry_other) =
    if nat_lt entry_other entry || ((entry_other == entry) && nat_lt clause_other clause) then verdict.Broken clause_other entry_other
    else verdict.Broken clause entry

unfoldable pub least_verdict : List Verdict → Verdict
least_verdict [] = verdict.Safe
least_verdict (v ∷ vs) = lesser_verdict v (least_verdict vs)

-- What a verdict says of the trace: that it is safe, or by which entry and in which clause it is broken first.
abbrev pub IsVerdictOn : List Entry → Verdict → Type 0
IsVerdictOn entries verdict.Safe = IsSafe entries
IsVerdictOn entries (verdict.Broken clause entry) = (b : Break) × (number_of b.clause ≡ clause) × (b.entry ≡ entry) × IsBroken b entries
