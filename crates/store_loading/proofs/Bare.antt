-- What a store has of its records in memory, without their bodies, says the last boot, and what a metadata server knows.
use Rattle.std.proofs.Common.{ℕ, ◌≡◌, List, [], get_or, refl, subst, sym}
use Rattle.std.specs.List.{All}
use Rattle.std.proofs.lemmas.List.Elements.{All-map}
use Rattle.xt_messages.specs.declared.record.Record.{Record}
use Rattle.xt_protocol.specs.Folds.{boot_after}
use Rattle.replica_records.proofs.BodyLaws.{unseen}
use Rattle.object_store.specs.Bare.{bare, bare_of}
use Rattle.object_store.proofs.BareFolds.{boot_bare, fold_of_bare}
use Rattle.server_rows.specs.Metadata.{Catalogue, catalogue_of, empty_catalogue}
use Rattle.server_rows.specs.Metadata as metadata
use Rattle.mrc_core.specs.Picking.{CanTake}
use Rattle.store_loading.specs.Boots.{stored_boot}

pub stored_bare : (records : List Record) → stored_boot (bare_of records) ≡ stored_boot records
stored_bare records = fold_of_bare boot_after boot_bare 0 records

mrc_same : (key : List ℕ) (catalogue : Catalogue) (rec : Record) → metadata.after_record key catalogue (bare rec) ≡ metadata.after_record key catalogue rec
mrc_same key catalogue =
    unseen (λ r s. metadata.after_record key catalogue r ≡ metadata.after_record key catalogue s) (λ file update body. refl)
    (λ file object version bytes body. refl) (λ file update body. refl) (λ file object version bytes body. refl) (λ r. refl) []

pub mrc_bare : (key : List ℕ) (records : List Record) → catalogue_of key (bare_of records) ≡ catalogue_of key records
mrc_bare key records = fold_of_bare (metadata.after_record key) (mrc_same key) empty_catalogue records

taken_same : (rec : Record) → CanTake rec → CanTake (bare rec)
taken_same =
    unseen (λ r s. CanTake s → CanTake r) (λ file update body can. can) (λ file object version bytes body can. can)
    (λ file update body can. can) (λ file object version bytes body can. can) (λ r can. can) []

-- and each can be taken
pub taken_bare : (given records : List Record) → given ≡ bare_of records → All CanTake records → All CanTake given
taken_bare given records is can =
    subst (All CanTake) (sym is) (All-map CanTake bare records (λ k d less. taken_same (get_or records k d) (can k d less)))
