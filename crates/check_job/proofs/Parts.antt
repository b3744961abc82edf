-- how long an area is of the records that a compaction makes
use Rattle.std.proofs.Common.{◌≡◌, ◌∙◌, ◌+◌, ℕ, List, [], ◌∷◌, length, map, refl, sym, ap, arith, subst, length-append}
use Rattle.std.specs.List.{All, sum_by}
use Rattle.std.proofs.lemmas.List.Sums.{sum_by-cons}
use Rattle.disk_model.specs.declared.disk.Disk.{Ghosts}
use Rattle.xt_base.specs.Faults.{counted}
use Rattle.xt_messages.specs.declared.record.Record.{Record}
use Rattle.xt_messages.specs.declared.record.Record.TheVariants as kept
use Rattle.xt_messages.specs.declared.record.Folded.{Folded}
use Rattle.xt_messages.specs.declared.record.KeepBody.{KeepBody}
use Rattle.xt_protocol.specs.Folds.{fold_of, logged_of}
use Rattle.xt_protocol.specs.Forgetting.{rewritten}
use Rattle.replica_records.specs.Heads.{heads_of}
use Rattle.replica_records.specs.RecordText.{record_text}
use Rattle.journal_areas.specs.Format.{record_of, records}
use Rattle.journal_areas.specs.Sites.{area_size}
use Rattle.journal_areas.proofs.Records.{length-record}
use Rattle.journal_moves.specs.Gathering.{size_of_area}
use Rattle.journal_moves.proofs.Areas.{all_in, size_area}
use Rattle.object_store.specs.declared.copied.Copied.{Copied}
use Rattle.object_store.specs.declared.store.Store.{Store}
use Rattle.object_store.specs.Bare.{bare_of}
use Rattle.object_store.specs.Access.{area_of, disk_of}
use Rattle.object_store.specs.Copying.{IsCopiedFrom, copied}
use Rattle.object_store.specs.Logs.{places_in}
use Rattle.object_store.specs.Swapping.{FitsCopied, payload_of}
use Rattle.object_store.specs.Swaps.{size_of}
use Rattle.object_store.specs.Texts.{AreRecords}
use Rattle.object_store.proofs.BareFolds.{fold_bare}
use Rattle.object_store.proofs.Copies.{fit, there, whole}
use Rattle.object_store.proofs.Copying.{gathered_texts}
use Rattle.check_job.specs.Reports.{area_part, compacted_size}
use Rattle.check_job.proofs.Bare.{boot_length}

-- an area of one record of nine bytes
one_size : (payload : List ℕ) → length payload ≡ 9 → counted (area_size (payload ∷ [])) ≡ 15
one_size payload nine = omega (arith, nine, length-append (record_of payload) (records []), length-record payload)

-- no records are moved as the boot 0
pub none_size : compacted_size [] ≡ 15
unfolding rewritten fold_of logged_of
none_size = one_size (record_text (kept.Boot (record { 0 = 0 }))) (boot_length (record { 0 = 0 }))

parts_are : (records : List Copied) → sum_by area_part records + 1 ≡ size_of_area (map payload_of records)
parts_are [] = refl
parts_are (c ∷ records) = omega (arith, parts_are records, sum_by-cons area_part c records)

module _ {D : Type 0} {g : Ghosts D} (store : Store D g) (made : List Copied) (from : All (IsCopiedFrom (places_in store.log)) made)
    (known : List Record) (is : copied g.is_told (g.kept (disk_of store)).read made ≡ known) (are : AreRecords known) where
  stand : AreRecords (copied g.is_told (g.kept (disk_of store)).read made)
  stand = subst AreRecords (sym is) are

  pub all_fit : All FitsCopied made
  all_fit = fit {g = g} store made from stand

  pub size_is : sum_by area_part made + 1 ≡ size_of known
  size_is =
      let read = (g.kept (disk_of store)).read in
      parts_are made
      ∙ sym (size_area g.is_told read (map payload_of made) (all_in g.is_told read (area_of store) (map payload_of made) (there {g = g} store made from stand)))
      ∙ ap area_size (gathered_texts g.is_told read made (whole {g = g} store made from stand))
      ∙ ap size_of is

-- ---- what a compaction keeps

pub keep_is : (records given : List Record) (folded : Folded) (keep : List KeepBody) → given ≡ bare_of records → folded ≡ fold_of given
    → keep ≡ heads_of folded → keep ≡ heads_of (fold_of records)
keep_is records given folded keep bare folds heads = heads ∙ ap heads_of (folds ∙ ap fold_of bare ∙ fold_bare records)

pub compacted_is : (records : List Record) (keep : List KeepBody) (parts size : ℕ) → keep ≡ heads_of (fold_of records) → parts ≡ size_of (rewritten keep records)
    → size ≡ counted parts → size ≡ compacted_size records
compacted_is records keep parts size kept parts_is is = is ∙ ap counted parts_is ∙ ap (λ (k : List KeepBody). counted (size_of (rewritten k records))) kept
