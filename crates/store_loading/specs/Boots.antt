-- the boot of a node, by its records
use Rattle.std.specs.Prelude.{ℕ, ◌+◌, List, [], ◌∷◌, ◌++◌, fold}
use Rattle.xt_base.specs.declared.ids.Boot.{Boot}
use Rattle.xt_messages.specs.declared.record.Record.{Record}
use Rattle.xt_messages.specs.declared.record.Record.TheVariants as kept
use Rattle.xt_protocol.specs.Folds.{boot_after}

-- the last boot in these records, or 0
abbrev pub stored_boot : List Record → ℕ
stored_boot records = fold boot_after 0 records

-- the boot after it, its record, and the records with that one
abbrev pub next_boot : List Record → Boot
next_boot records = record { 0 = stored_boot records + 1 }

abbrev pub boot_record : List Record → Record
boot_record records = kept.Boot (next_boot records)

abbrev pub booted : List Record → List Record
booted records = records ++ boot_record records ∷ []
