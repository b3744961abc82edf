-- the numbers of the files that were ever made rise
use Rattle.std.proofs.Common.{ℕ, ◌+◌, ◌≤◌, subst}
use Rattle.std.specs.Prelude.{List, [], ◌∷◌}
use Rattle.xt_messages.specs.declared.record.Record.{Record}
use Rattle.server_rows.specs.Metadata.{catalogue_of}
use Rattle.server_rows.specs.Laws.{RiseFrom, files_made}
use Rattle.server_rows.specs.Naming.{Made, RisesTo}
use Rattle.server_rows.proofs.Naming.{records_hold}

files_rise : (least next : ℕ) (es : Made) → RisesTo least next es → RiseFrom least (files_made es)
files_rise least next [] rises = tt
files_rise least next (e ∷ es) rises =
    (subst (λ (n : ℕ). least ≤ n) rises.0 rises.1, subst (λ (n : ℕ). RiseFrom (n + 1) (files_made es)) rises.0 (files_rise (e.0 + 1) next es rises.2))

pub made_files_rise : (key : List ℕ) (records : List Record) → RiseFrom 1000000 (files_made (catalogue_of key records).made)
made_files_rise key records =
    files_rise 1000000 (catalogue_of key records).volumes.next (catalogue_of key records).made (records_hold key records).rises
