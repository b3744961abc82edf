-- The least of the verdicts is that of the least break.
use Rattle.std.proofs.Common.{◌≡◌, ◌∙◌, ℕ, ◌+◌, ◌<◌, Bool, true, false, List, [], ◌∷◌, ◌++◌, map, length, get_or, drop, Option, Some, None, refl, sym, ap, subst, append-nil, arith}
use Rattle.std.proofs.Math.ListN.{drop_of_length-le}
use Rattle.std.specs.Prelude.{if◌then◌else◌}
use Rattle.std.proofs.lemmas.List.{drop_more}
use Rattle.time_line.specs.declared.entry.Entry.{Entry}
use Rattle.time_line.specs.Verdicts.{Break, number_of}
use Rattle.judging.specs.Pass.{judged}
use Rattle.judging.specs.Laws.{TimesStandFirst}
use Rattle.judging.specs.Audit.{audited, files_of, with_file, is_less, lesser_of, least_of, IsWholeVerdict}
use Rattle.judging.proofs.Audited.{audits}
use Rattle.trace_judge.specs.declared.verdict.Verdict.{Verdict}
use Rattle.trace_judge.specs.declared.verdict.Verdict.TheVariants as verdict
use Rattle.trace_judge.specs.Found.{verdict_of, lesser_verdict, least_verdict, IsVerdictOn}

lesser_same : (a b : Option Break) → lesser_verdict (verdict_of a) (verdict_of b) ≡ verdict_of (lesser_of a b)
lesser_same None b = refl
lesser_same (Some a) None = refl
lesser_same (Some a) (Some b) = by (is_less b a)
  where
    by : (t : Bool) → (if t then verdict.Broken (number_of b.clause) b.entry else verdict.Broken (number_of a.clause) a.entry) ≡ verdict_of (if t then Some b else Some a)
    by true = refl
    by false = refl

least_same : (entries : List Entry) (files : List ℕ) → least_verdict (map (λ file. verdict_of (judged file entries)) files) ≡ verdict_of (least_of (map (λ file. judged file entries) files))
unfolding least_verdict least_of
least_same entries [] = refl
least_same entries (f ∷ fs) =
    ap (lesser_verdict (verdict_of (judged f entries))) (least_same entries fs) ∙ lesser_same (judged f entries) (least_of (map (λ file. judged file entries) fs))

pub least_judged : (entries : List Entry) (files : List ℕ) (verdicts : List Verdict) (v : Verdict) → files ≡ files_of entries → verdicts ≡ map (λ file. verdict_of (judged file entries)) files
    → v ≡ least_verdict verdicts → v ≡ verdict_of (audited entries)
least_judged entries files verdicts v files_are verdicts_are is =
    is ∙ ap least_verdict verdicts_are ∙ least_same entries files ∙ ap (λ (fs : List ℕ). verdict_of (least_of (map (λ file. judged file entries) fs))) files_are

said : (entries : List Entry) (o : Option Break) → IsWholeVerdict entries o → IsVerdictOn entries (verdict_of o)
said entries None is = is
said entries (Some b) is = (b, refl, refl, is)

pub is_verdict : (entries : List Entry) (v : Verdict) → TimesStandFirst entries → v ≡ verdict_of (audited entries) → IsVerdictOn entries v
is_verdict entries v first is = subst (IsVerdictOn entries) (sym is) (said entries (audited entries) (audits entries first))

-- the lesser of a verdict and the least of those after it
pub least_more : (verdicts : List Verdict) (count : ℕ) (v d : Verdict) → count < length verdicts → v ≡ get_or verdicts count d → least_verdict (drop count verdicts) ≡ lesser_verdict v (least_verdict (drop (count + 1) verdicts))
unfolding least_verdict
least_more verdicts count v d inside is =
    ap least_verdict (drop_more verdicts count d inside) ∙ ap (λ (x : Verdict). lesser_verdict x (least_verdict (drop (count + 1) verdicts))) (sym is)

pub least_none : (verdicts : List Verdict) → verdict.Safe ≡ least_verdict (drop (length verdicts) verdicts)
unfolding least_verdict
least_none verdicts = sym (ap least_verdict (drop_of_length-le verdicts (omega arith)))

-- ---- the files

pub files_more : (files new all : List ℕ) (rest behind : List Entry) (e : Entry) → rest ≡ e ∷ behind → ((more : List ℕ) → new ++ more ≡ files ++ with_file e more)
    → files ++ files_of rest ≡ all → new ++ files_of behind ≡ all
unfolding files_of
files_more files new all rest behind e split noted before = noted (files_of behind) ∙ sym (ap (λ (es : List Entry). files ++ files_of es) split) ∙ before

pub files_end : (files all : List ℕ) (rest : List Entry) → rest ≡ [] → files ++ files_of rest ≡ all → files ≡ all
unfolding files_of
files_end files all rest none before = sym (append-nil files) ∙ sym (ap (λ (es : List Entry). files ++ files_of es) none) ∙ before
