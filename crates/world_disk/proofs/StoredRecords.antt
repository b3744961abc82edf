-- bytes stand for one list of records
use Rattle.std.proofs.Common.{◌≡◌, ℕ, ◌≤◌, List, [], ◌∷◌, ◌++◌, ◌<◌, length, refl, sym, ◌∙◌, ap, subst, inl, ⊎_elim, arith, Option, None, Some, length-append}
use Rattle.std.proofs.Math.Logic.{∥∥₁_elim, ∥∥₁_map}
use Rattle.std.proofs.Math.Seq.{take-nil}
use Rattle.std.proofs.Props.{props}
use Rattle.std.proofs.lemmas.List.{map-append}
use Rattle.std.specs.Coded.{Coded-set, coded_list}
use Rattle.xt_messages.specs.contracts.record.Record as record_type
use Rattle.xt_messages.specs.declared.record.Record.{Record}
use Rattle.replica_records.specs.RecordText.{record_text}
use Rattle.xt_journal.specs.Placed.{Placed}
use Rattle.disk_model.specs.Changes.{Memory, Change, memory_kept, kept_after, MightHaveLeft}
use Rattle.disk_model.specs.Disk.{Kept, IsImage, LeavesOnly, at_rest}
use Rattle.disk_model.proofs.Images.{rest_stays}
use Rattle.xt_journal.specs.Format.{KeepsIn, KeepsJournal, StandsIn, end_in, end_of, header, open_gate, record_of, records}
use Rattle.xt_journal.specs.Loaded.{IsReady, LeavesAsBefore}
use Rattle.xt_journal.specs.Reading.{Reading, Stands, ReadsAs, IsTheReading, payloads_of, placed_in}
use Rattle.xt_journal.proofs.Push.{end_of-push, payloads_in}
use Rattle.xt_journal.proofs.Steps.{each_stands_in}
use Rattle.journal_areas.specs.declared.superblock.Superblock.{Superblock}
use Rattle.journal_areas.specs.Areas.{HasSuperblock}
use Rattle.journal_areas.proofs.Once.{stands_once}
use Rattle.journal_areas.proofs.Reaching.{end_of_reached}
use Rattle.journal_areas.proofs.Records.{length-record}
use Rattle.object_store.specs.Texts.{texts_of, AreRecords, IsFirstBad}
use Rattle.object_store.proofs.Again.{are_of_one_list, none_is_bad}
use Rattle.world_disk.specs.Disks.{AreOn, HasRecords}
use Rattle.world_disk.specs.Ends.{IsLoadedWith, IsStartedFrom, IsReadAgain}
use Rattle.world_disk.specs.Room.{place_in}
use Rattle.world_disk.specs.Stored.{Stored, none_stored}
use Rattle.world_disk.specs.declared.TheConstants.{JOURNAL}

-- the same bytes stand for the same records
pub one_on : (bytes : List ℕ) (xs ys : List Record) → ∥ AreOn bytes xs ∥₁ → ∥ AreOn bytes ys ∥₁ → xs ≡ ys
one_on bytes xs ys on_a on_b =
    ∥∥₁_elim on_a (Coded-set (coded_list record_type.the_row.coded) xs ys) (λ a.
    ∥∥₁_elim on_b (Coded-set (coded_list record_type.the_row.coded) xs ys) (λ b.
    are_of_one_list ys xs b.sound a.sound ((stands_once bytes a.superblock b.superblock (texts_of xs) (texts_of ys) a.stand b.stand).1)))

-- in one journal
pub one_superblock : (bytes : List ℕ) (super other : Option Superblock) (ps qs : List (List ℕ)) → StandsIn super bytes ps → StandsIn other bytes qs → super ≡ other
one_superblock bytes super other ps qs stands also = (stands_once bytes super other ps qs stands also).0

-- ---- loading

reads_so : (bytes : List ℕ) (super : Option Superblock) (payloads : List (List ℕ)) → StandsIn super bytes payloads → ReadsAs bytes (Stands (placed_in super payloads))
reads_so bytes super payloads stands =
    let same : payloads ≡ payloads_of (placed_in super payloads) = sym (payloads_in super payloads) in
    ∣ (super, record { stands = subst (λ (ps : List (List ℕ)). StandsIn super bytes ps) same stands; places = ap (placed_in super) same }) ∣₁

-- where the bytes stand for records, nothing else is read
pub nothing_else : (bytes : List ℕ) (reading : Reading) → HasRecords bytes → IsTheReading bytes reading → ((placed : List Placed) → reading ≡ Stands placed → ⊥) → ⊥
nothing_else bytes reading has is other =
    ∥∥₁_elim has (λ x y. absurd x) (λ some.
    let placed = placed_in some.1.superblock (texts_of some.0) in
    other _ (sym (is.no_other (Stands placed) (reads_so bytes some.1.superblock (texts_of some.0) some.1.stand))))

-- a new disk that is loaded
pub is_loaded : (old new : Memory) → old.changes ≡ []
    → LeavesOnly (λ (d : Memory). length d.changes) (λ (d : Memory) t image. MightHaveLeft d.first d.changes t image) old new (LeavesAsBefore (memory_kept old))
    → IsLoadedWith old.first new
is_loaded old new made leaves image left =
    subst (λ (changes : List Change). LeavesAsBefore (kept_after changes (at_rest old.first)) image) made
    (leaves.each image (subst (λ (t : ℕ). MightHaveLeft new.first new.changes t image) (sym (ap length made)) left))

-- ---- no record is bad

pub none_bad : (bytes : List ℕ) (super : Option Superblock) (payloads : List (List ℕ)) (index : ℕ) → HasRecords bytes → StandsIn super bytes payloads
    → IsFirstBad payloads index → ⊥
none_bad bytes super payloads index has stands bad =
    ∥∥₁_elim has (λ x y. absurd x) (λ some.
    let same : payloads ≡ texts_of some.0 = (stands_once bytes super some.1.superblock payloads (texts_of some.0) stands some.1.stand).1 in
    none_is_bad some.0 index some.1.sound (subst (λ (ps : List (List ℕ)). IsFirstBad ps index) same bad))

-- the same bytes end at the same place
pub short_payloads : (bytes : List ℕ) (super : Option Superblock) (payloads : List (List ℕ)) → HasRecords bytes → StandsIn super bytes payloads → end_in super payloads ≤ JOURNAL
short_payloads bytes super payloads has stands =
    ∥∥₁_elim has (hlevel props) (λ some.
    let one = stands_once bytes super some.1.superblock payloads (texts_of some.0) stands some.1.stand in
    subst (λ (s : Option Superblock). end_in s payloads ≤ JOURNAL) (sym one.0)
    (subst (λ (ps : List (List ℕ)). end_in some.1.superblock ps ≤ JOURNAL) (sym one.1) some.1.short))

pub short_on : (bytes : List ℕ) (super : Option Superblock) (records : List Record) → ∥ AreOn bytes records ∥₁ → StandsIn super bytes (texts_of records) → place_in super records ≤ JOURNAL
short_on bytes super records on stands = short_payloads bytes super (texts_of records) (∥∥₁_map on (λ are. (records, are))) stands

pub are_on : (bytes : List ℕ) (super : Option Superblock) (payloads : List (List ℕ)) (records : List Record) → StandsIn super bytes payloads → texts_of records ≡ payloads
    → ∥ AreRecords records ∥₁ → end_in super payloads ≤ JOURNAL → ∥ AreOn bytes records ∥₁
are_on bytes super payloads records stands same sound short =
    ∥∥₁_map sound (λ are. record {
      superblock = super;
      stand = subst (λ (ps : List (List ℕ)). StandsIn super bytes ps) (sym same) stands;
      sound = are;
      short = subst (λ (ps : List (List ℕ)). end_in super ps ≤ JOURNAL) (sym same) short;
    })

pub has : (bytes : List ℕ) (records : List Record) → ∥ AreOn bytes records ∥₁ → HasRecords bytes
has bytes records on = ∥∥₁_map on (λ are. (records, are))

-- ---- a record more

pub none_in : StandsIn None [] []
none_in = ∣ inl (record { short = omega arith; none = refl; no_superblock = refl }) ∣₁

pub none_stand : ∥ AreOn [] [] ∥₁
none_stand = ∣ record { superblock = None; stand = none_in; sound = record { fit = λ k d less. absurd (omega arith); placed = tt }; short = omega arith } ∣₁

-- a crash leaves a disk without a byte as it is
pub none_left : IsImage (memory_kept none_stored.disk) []
none_left = record { no_shorter = omega arith; no_longer = omega arith; same = λ place synced. refl }

-- and it is read again as it is
pub none_read : IsReadAgain none_stored.disk none_stored.disk []
none_read = record {
  image = [];
  left = none_left;
  started = record {
    loaded = λ image left. inl (subst (λ (changes : List Change). IsImage (kept_after changes (at_rest [])) image) (take-nil left.moment) left.is_image);
    stand = none_stand;
  };
}

pub read_again : (old : Memory) (image : List ℕ) (node : Stored) → IsImage (memory_kept old) image → IsStartedFrom image node.disk node.records
    → IsReadAgain old node.disk node.records
read_again old image node left started = record { image = image; left = left; started = started }

-- ---- ready

-- a journal with a superblock has more than 13 bytes
superblock_long : (bytes : List ℕ) (s : Superblock) (before : List (List ℕ)) (rest : List ℕ) → HasSuperblock bytes s before rest → 13 < length bytes
superblock_long bytes s before rest has =
    omega (
      arith,
      ap length has.are,
      length-append header (records before ++ open_gate ∷ (record_of has.payload ++ rest)),
      length-append (records before) (open_gate ∷ (record_of has.payload ++ rest)),
      length-append (record_of has.payload) rest,
      length-record has.payload,
      has.size,
    )

pub ready_moved : (kept : Kept) (s : Superblock) (payloads : List (List ℕ)) → KeepsIn (Some s) kept payloads → IsReady kept.read
ready_moved kept s payloads keeps =
    inl (∥∥₁_elim keeps.journal (hlevel props) (λ is.
    ⊎_elim (λ unmoved. superblock_long kept.read s _ _ unmoved.has) (λ moved. superblock_long kept.read s _ _ moved.has) is.reached))

-- and so has one with a record
pub ready_with : (super : Option Superblock) (kept : Kept) (new rs : List Record) (rec : Record) → new ≡ rs ++ rec ∷ [] → KeepsIn super kept (texts_of new) → IsReady kept.read
ready_with None kept new rs rec more keeps =
    let texts : texts_of new ≡ texts_of rs ++ record_text rec ∷ [] = ap texts_of more ∙ map-append record_text rs (rec ∷ []) in
    inl (∥∥₁_elim keeps.journal (hlevel props) (λ is.
    omega (arith, end_of_reached None kept.read (texts_of new) (is.gate ∷ is.rest) is.reached, ap end_of texts, end_of-push (texts_of rs) (record_text rec))))
ready_with (Some s) kept new rs rec more keeps = ready_moved kept s (texts_of new) keeps

-- what a crash leaves of a disk at rest
pub image_on : (super : Option Superblock) (kept : Kept) (records : List Record) (image : List ℕ) → KeepsIn super kept (texts_of records) → ∥ AreRecords records ∥₁
    → place_in super records ≤ JOURNAL → IsImage kept image → ∥ AreOn image records ∥₁
image_on super kept records image keeps sound short is =
    are_on image super (texts_of records) records (each_stands_in super kept (texts_of records) image keeps is) refl sound short

pub image_ready : (kept : Kept) (records : List Record) (image : List ℕ) → KeepsJournal kept (texts_of records) → IsReady kept.read → IsImage kept image → IsReady image
image_ready kept records image keeps ready is =
    subst IsReady (sym (rest_stays kept.read image (subst (λ (k : Kept). IsImage k image) keeps.rests is))) ready
