-- what is put of the report of a scrub
use Rattle.std.specs.Prelude.{ℕ, ◌==◌, if◌then◌else◌, List, ◌++◌, codes}
use Rattle.std.specs.List.{count_by}
use Rattle.std.specs.Fmt.{decimal}
use Rattle.xt_messages.specs.declared.status.Status.{Status}
use Rattle.xt_messages.specs.declared.status.Status.TheVariants as status
use Rattle.scrub.specs.declared.found.Found.{Found}
use Rattle.scrub.specs.Report.{is_new, is_good, is_damaged}

-- how many bodies are new, how many are good, and how many are damaged, of which none is mended
abbrev pub counts_line : ℕ → ℕ → ℕ → List ℕ
counts_line new good damaged =
    codes "new " ++ (decimal new ++ (codes " good " ++ (decimal good ++ (codes " damaged " ++ (decimal damaged ++ codes " mended 0\n")))))

abbrev pub counts_text : List Found → List ℕ
counts_text report = counts_line (count_by is_new report) (count_by is_good report) (count_by is_damaged report)

-- a damaged body stays unmended
abbrev pub status_by : ℕ → Status
status_by damaged = if damaged == 0 then status.Done else status.Unmended damaged

abbrev pub status_of : List Found → Status
status_of report = status_by (count_by is_damaged report)
