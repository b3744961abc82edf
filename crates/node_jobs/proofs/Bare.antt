-- What a store has of its records in memory, without their bodies, says what they say.
use Rattle.std.proofs.Common.{ℕ, ◌≡◌, ◌∙◌, Bool, true, false, List, [], get_or, refl, ap, sym, subst}
use Rattle.std.specs.List.{All}
use Rattle.std.proofs.lemmas.List.Elements.{All-map}
use Rattle.xt_base.specs.declared.ids.Boot.{Boot}
use Rattle.xt_messages.specs.declared.record.Folded.{Folded}
use Rattle.xt_messages.specs.declared.record.Record.{Record}
use Rattle.xt_messages.specs.declared.record.Record.TheVariants as kept
use Rattle.xt_protocol.specs.Folds.{fold_of}
use Rattle.replica_records.specs.Known.{as_known}
use Rattle.replica_records.proofs.BodyLaws.{unseen}
use Rattle.object_store.specs.Bare.{bare, bare_of}
use Rattle.object_store.proofs.BareFolds.{fold_bare, fold_of_bare}
use Rattle.osd_core.specs.Slots.{AreRows}
use Rattle.server_rows.specs.Directory.{DirState, dir_of, empty_dir}
use Rattle.server_rows.specs.Directory as directory
use Rattle.server_rows.specs.Metadata.{Catalogue, catalogue_of, empty_catalogue}
use Rattle.server_rows.specs.Metadata as metadata
use Rattle.mrc_core.specs.Picking.{CanTake}

-- all of a boot is known
pub boot_known : (told : Bool) (boot : Boot) → as_known told (kept.Boot boot) ≡ kept.Boot boot
boot_known true boot = refl
boot_known false boot = refl

pub rows_bare : (given records : List Record) → given ≡ bare_of records → AreRows (fold_of records).files → AreRows (fold_of given).files
rows_bare given records is rows = subst (λ (f : Folded). AreRows f.files) (sym (ap fold_of is ∙ fold_bare records)) rows

dir_same : (dir : DirState) (rec : Record) → directory.after_record dir (bare rec) ≡ directory.after_record dir rec
dir_same dir =
    unseen (λ r s. directory.after_record dir r ≡ directory.after_record dir s) (λ file update body. refl) (λ file object version bytes body. refl)
    (λ file update body. refl) (λ file object version bytes body. refl) (λ r. refl) []

pub dir_bare : (records : List Record) → dir_of (bare_of records) ≡ dir_of records
dir_bare records = fold_of_bare directory.after_record dir_same empty_dir records
