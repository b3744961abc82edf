-- what is found of the bodies of a store, by whoever reads them
use Rattle.std.proofs.Common.{◌≡◌, ◌∙◌, ℕ, suc, Bool, true, false, List, [], ◌∷◌, ◌++◌, length, map, replicate, Some, None, append-nil, append_assoc, refl, sym, ap, subst, arith}
use Rattle.std.specs.Prelude.{IsTrue, Contains, flat_map}
use Rattle.std.specs.List.{All}
use Rattle.std.proofs.lemmas.List.Elements.{All-cons, All-contains, All-head, All-nil, All-tail, Contains-append_right}
use Rattle.disk_model.specs.declared.disk.Disk.{Ghosts}
use Rattle.par_halves.proofs.Lists.{zip_both, zip_map}
use Rattle.xt_base.specs.declared.ids.FileId.{FileId}
use Rattle.xt_base.specs.declared.ids.Stamp.{Stamp}
use Rattle.xt_messages.specs.declared.record.Folded.{Folded}
use Rattle.xt_messages.specs.declared.record.Record.{Record}
use Rattle.xt_protocol.specs.Folds.{AreInPlace, digests_after, digests_kept, fold_of, nothing_kept}
use Rattle.replica_records.specs.Bare.{body_in}
use Rattle.replica_records.specs.Known.{as_known, known_of, Sees}
use Rattle.replica_records.proofs.BodyLaws.{digests_set, fold_map}
use Rattle.replica_records.proofs.Known.{fold_known, known_are_in_place, known_told}
use Rattle.object_store.specs.Access.{records_of}
use Rattle.object_store.specs.Bare.{bare, bare_of}
use Rattle.object_store.specs.Readers.{seen_of}
use Rattle.object_store.specs.Seen.{agreed, read_of, store_of}
use Rattle.object_store.specs.Texts.{AreRecords}
use Rattle.object_store.specs.declared.reader.Reader.{Reader}
use Rattle.object_store.specs.declared.store.Store.{Store}
use Rattle.object_store.proofs.BareFolds.{fold_bare}
use Rattle.object_store.proofs.Stored.{known_there}
use Rattle.scrub.specs.declared.found.Found.{Found}
use Rattle.scrub.specs.declared.listing.Item.{Item}
use Rattle.scrub.specs.declared.reading.ScrubErr.TheVariants as error
use Rattle.scrub.specs.Items.{items_of, last_of}
use Rattle.scrub.specs.Laws.{BodiesAreThere}
use Rattle.scrub.specs.Reading.{CannotRead, HasBody}
use Rattle.scrub.specs.Report.{body_of_item, found_of, report_of, seals_of}
use Rattle.scrub.specs.Scrubbing.{HaveBeenScrubbed}
use Rattle.scrub_job.specs.Checked.{items_in, AreFound, IsFound, IsReportOn, IsThere}

-- ---- records with other bodies

-- the items by the digests that are kept of each version
abbrev items_by : (FileId → ℕ → Stamp → List (List ℕ)) → Folded → List Item
items_by digests folded =
    flat_map (λ row. map (λ v. record { file = row.file; object = v.object; version = v.version; seal = last_of (digests row.file v.object v.version) }) row.head.versions) folded.files

items_are : (folded : Folded) (records : List Record) → items_of folded records ≡ items_by (digests_kept records) folded
unfolding items_of
items_are folded records = refl

digests_bare : (records : List Record) → digests_kept (bare_of records) ≡ digests_kept records
unfolding digests_kept
digests_bare records = λ i file object version.
    fold_map (digests_after file object version) bare (λ digests rec. digests_set file object version digests [] rec) [] records i

digests_known : (told : Bool) (records : List Record) → digests_kept (known_of told records) ≡ digests_kept records
unfolding digests_kept
digests_known true records = ap digests_kept (known_told records)
digests_known false records = λ i file object version.
    fold_map (digests_after file object version) (as_known false)
    (λ digests rec. digests_set file object version digests (replicate (length (body_in rec)) 0) rec) [] records i

-- what a store has of its records in memory has their items
pub items_bare : (records : List Record) → items_in (bare_of records) ≡ items_in records
items_bare records =
    items_are (fold_of (bare_of records)) (bare_of records)
    ∙ (λ i. items_by (digests_bare records i) (fold_bare records i))
    ∙ sym (items_are (fold_of records) records)

-- whoever reads their bodies sees the same items
items_known : (told : Bool) (records : List Record) → items_in (known_of told records) ≡ items_in records
items_known told records =
    items_are (fold_of (known_of told records)) (known_of told records)
    ∙ (λ i. items_by (digests_known told records i) (fold_known told records i))
    ∙ sym (items_are (fold_of records) records)

items_seen : (told : Bool) (known seen : List Record) → Sees told known seen → items_in seen ≡ items_in known
items_seen told known seen sees = sym (items_known told seen) ∙ ap items_in sees.same

-- ---- the bodies are there

pub all_there : BodiesAreThere → (told : Bool) (known : List Record) → AreRecords known → All (IsThere told known) (items_in known)
all_there there told known are k d less seen sees =
    let placed : AreInPlace nothing_kept seen = known_are_in_place told nothing_kept seen (subst (AreInPlace nothing_kept) (sym sees.same) are.placed) in
    subst (All (HasBody seen)) (items_seen told known seen sees) (there seen placed) k d less

-- records that agree with all that was read of a store
record SeenBy {D : Type 0} {g : Ghosts D} (store : Store D g) (after : Reader D g) : Type 0 where
  pub seen : List Record
  pub sees : Sees g.is_told (records_of store) seen
  pub agrees : agreed after seen

module _ {D : Type 0} {g : Ghosts D} (store : Store D g) (before after : Reader D g) (is : store_of before ≡ store)
    (later : (records : List Record) → agreed after records → agreed before records) where
  seen_by : SeenBy store after
  seen_by =
      let seen = seen_of g.is_told (records_of (store_of after)) (read_of after) in
      record {
        seen = seen;
        sees = subst (λ (s : Store D g). Sees g.is_told (records_of s) seen) is (later seen after.seen).sees;
        agrees = after.seen;
      }

  -- no item is without its body
  pub none_lost : (sound risen : ℕ) (items : List Item) (index : ℕ) → All (IsThere g.is_told (records_of store)) items
      → CannotRead (agreed after) sound risen items 0 (error.NoBody index) → ⊥
  none_lost sound risen items index all cannot =
      let by : SeenBy store after = seen_by in
      let lost = cannot.1 by.seen by.agrees in
      let among : Contains items lost.item =
      subst (λ (xs : List Item). Contains xs lost.item) (sym lost.split)
      (Contains-append_right lost.before (lost.item ∷ lost.rest) lost.item (0, omega arith, refl)) in
      let has = All-contains (IsThere g.is_told (records_of store)) items lost.item all among by.seen by.sees in
      let no_way : None ≡ Some has.body = sym lost.lost ∙ has.kept in
      absurd cc

  -- what a reader finds
  pub found_by_reader : (sound risen : ℕ) (items : List Item) (report : List Found) → HaveBeenScrubbed (agreed after) sound risen items report
      → AreFound g.is_told (records_of store) items report
  found_by_reader sound risen items report scrubbed =
      let by : SeenBy store after = seen_by in
      subst (AreFound g.is_told (records_of store) items) (sym (scrubbed.is by.seen by.agrees).is) (each_found by items)
    where
      each_found : (by : SeenBy store after) (items : List Item) → AreFound g.is_told (records_of store) items (report_of by.seen items)
      each_found by [] = tt
      each_found by (item ∷ items) = (record { seen = by.seen; sees = by.sees; is = refl }, each_found by items)

-- ---- the report

-- This was found of the items before those that are left.
pub record HasGoneOn (told : Bool) (known : List Record) (items rest : List Item) (report : List Found) : Type 0 where
  pub done : List Item
  pub split : items ≡ done ++ rest
  pub there : All (IsThere told known) rest
  pub found : AreFound told known done report

pub gone_none : (told : Bool) (known : List Record) (items : List Item) → All (IsThere told known) items → HasGoneOn told known items items []
gone_none told known items there = record { done = []; split = refl; there = there; found = tt }

there_left : (P : Item → Type 0) (front back : List Item) → All P (front ++ back) → All P front
there_left P [] back all = All-nil P
there_left P (item ∷ front) back all =
    All-cons P item front (All-head P item (front ++ back) all) (there_left P front back (All-tail P item (front ++ back) all))

there_right : (P : Item → Type 0) (front back : List Item) → All P (front ++ back) → All P back
there_right P [] back all = all
there_right P (item ∷ front) back all = there_right P front back (All-tail P item (front ++ back) all)

pub front_there : (told : Bool) (known : List Record) (rest front back : List Item) → rest ≡ front ++ back → All (IsThere told known) rest → All (IsThere told known) front
front_there told known rest front back split there =
    there_left (IsThere told known) front back (subst (All (IsThere told known)) split there)

-- it goes on with the next items
pub gone_more : (told : Bool) (known : List Record) (items rest front back : List Item) (report found : List Found) → rest ≡ front ++ back
    → HasGoneOn told known items rest report → AreFound told known front found → HasGoneOn told known items back (report ++ found)
gone_more told known items rest front back report found split gone now = record {
  done = gone.done ++ front;
  split = gone.split ∙ ap (λ (xs : List Item). gone.done ++ xs) split ∙ sym (append_assoc gone.done front back);
  there = there_right (IsThere told known) front back (subst (All (IsThere told known)) split gone.there);
  found = zip_both (IsFound told known) gone.done report front found gone.found now;
}

pub gone_all : (told : Bool) (known : List Record) (items rest : List Item) (report : List Found) → length rest ≡ 0 → HasGoneOn told known items rest report
    → AreFound told known items report
gone_all told known items [] report none gone =
    subst (λ (xs : List Item). AreFound told known xs report) (sym (gone.split ∙ append-nil gone.done)) gone.found
gone_all told known items (item ∷ rest) report none gone = absurd (omega (arith, none))

-- where contracts know what the disk keeps
found_sure : (told : Bool) (known : List Record) (items : List Item) (report : List Found) → IsTrue told → AreFound told known items report
    → report ≡ report_of known items
found_sure told known items report is all =
    zip_map (IsFound told known) (λ item. found_of item (body_of_item known item))
    (λ item found by. by.is ∙ ap (λ (records : List Record). found_of item (body_of_item records item)) (sym (known_there told by.seen is) ∙ by.sees.same))
    items report all

pub report_on : (told : Bool) (known : List Record) (items : List Item) (report : List Found) → items ≡ items_in known → AreFound told known items report
    → IsReportOn told known report
report_on told known items report is all =
    let each = subst (λ (xs : List Item). AreFound told known xs report) is all in
    record { each = each; sure = λ sure. found_sure told known (items_in known) report sure each }

-- ---- the items

-- those that are listed of what a store has of its records in memory
pub items_loaded : (records given again : List Record) (folded : Folded) (items : List Item) → given ≡ bare_of records → again ≡ bare_of records
    → folded ≡ fold_of given → items ≡ items_of folded again → items ≡ items_in records
items_loaded records given again folded items bare more is items_is =
    items_is ∙ (λ i. items_of ((is ∙ ap fold_of bare) i) (more i)) ∙ items_bare records

-- there is one report for each
pub as_long : (told : Bool) (known : List Record) (items : List Item) (report : List Found) → AreFound told known items report → length report ≡ length items
as_long told known [] [] all = refl
as_long told known [] (found ∷ report) all = absurd all
as_long told known (item ∷ items) [] all = absurd all
as_long told known (item ∷ items) (found ∷ report) all = ap suc (as_long told known items report all.1)
