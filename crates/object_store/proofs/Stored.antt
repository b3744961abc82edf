-- what is known of the records of a store, from its log and its journal
use Rattle.std.proofs.Common.{◌≡◌, ℕ, ◌<◌, ◌^◌, true, false, Bool, List, ◌∷◌, ◌++◌, refl, sym, ◌∙◌, ap, subst, Option}
use Rattle.std.specs.Prelude.{IsTrue, Contains}
use Rattle.std.proofs.Props.{props}
use Rattle.std.proofs.Math.Logic.{∥∥₁_elim, ∥∥₁_map}
use Rattle.std.proofs.lemmas.List.{map-append}
use Rattle.std.proofs.lemmas.List.Elements.{All-from_recursion}
use Rattle.disk_model.specs.declared.disk.Disk.{Ghosts}
use Rattle.journal_areas.specs.declared.superblock.Superblock.{Superblock}
use Rattle.journal_areas.proofs.Once.{one_journal}
use Rattle.xt_messages.specs.declared.record.Record.{Record}
use Rattle.xt_journal.specs.declared.journal.Journal.{Journal}
use Rattle.xt_journal.specs.Placed.{Placed}
use Rattle.xt_journal.specs.Access.{disk_of, place_of, superblock_of}
use Rattle.xt_journal.specs.Format.{end_in, IsJournal, KeepsJournal}
use Rattle.xt_journal.specs.Reading.{payloads_of, placed_from, placed_in}
use Rattle.xt_journal.proofs.Push.{payloads_in}
use Rattle.replica_records.specs.Known.{as_known, known_of}
use Rattle.replica_records.specs.RecordText.{record_text}
use Rattle.replica_records.proofs.Known.{known_told}
use Rattle.object_store.specs.declared.log.StoreLog.{StoreLog}
use Rattle.object_store.specs.declared.place.BodyPlace.{BodyPlace}
use Rattle.object_store.specs.Bare.{bare_of}
use Rattle.object_store.specs.Laid.{IsLaid}
use Rattle.object_store.specs.Logs.{bare_in, places_in, records_in}
use Rattle.object_store.specs.Places as places
use Rattle.object_store.specs.Texts.{texts_of}
use Rattle.object_store.proofs.Filled.{bare_filled, filled-append, filled_known}
use Rattle.object_store.proofs.Standing.{AreInside, inside_in, placed_in-append}
use Rattle.object_store.proofs.ReadBack.{IsReadable, filled_back, filled_zeros, places-append, places_inside}

records_set : (a b : List Record) → IsProp (a ≡ b)
records_set a b = hlevel props

-- where contracts know what the disk keeps, they know the records
pub known_there : (told : Bool) (records : List Record) → IsTrue told → known_of told records ≡ records
known_there told records is = ap (λ (t : Bool). known_of t records) is ∙ known_told records

pub as_known_there : (told : Bool) (rec : Record) → IsTrue told → as_known told rec ≡ rec
as_known_there told rec is = ap (λ (t : Bool). as_known t rec) is

-- ---- a journal of these payloads

-- these bytes are it, and it ends there
pub record IsHere (super : Option Superblock) (bytes : List ℕ) (end : ℕ) (payloads : List (List ℕ)) : Type 0 where
  pub journal : IsJournal super bytes payloads
  pub place : end ≡ end_in super payloads

pub is_here : {D : Type 0} {g : Ghosts D} (journal : Journal D g) (payloads : List (List ℕ)) → IsTrue g.is_told → KeepsJournal (g.kept (disk_of journal)) payloads
    → ∥ IsHere (superblock_of journal) (g.kept (disk_of journal)).read (place_of journal) payloads ∥₁
is_here {g = g} journal payloads told keeps =
    let read = (g.kept (disk_of journal)).read in
    let super = superblock_of journal in
    ∥∥₁_elim (journal.ends told) (hlevel props)
    (λ ends. ∥∥₁_elim ends.keeps.journal (hlevel props)
    (λ own. ∥∥₁_map keeps.journal
    (λ other.
    let same = one_journal read super other.0 ends.payloads payloads own other.1 in
    record { journal = subst (IsJournal super read) same.1 own; place = ends.place ∙ ap (end_in super) same.1 })))

pub inside_here : (super : Option Superblock) (bytes : List ℕ) (end : ℕ) (payloads : List (List ℕ)) → IsHere super bytes end payloads → AreInside bytes end (placed_in super payloads)
inside_here super bytes end payloads here =
    subst (λ (e : ℕ). AreInside bytes e (placed_in super payloads)) (sym here.place) (inside_in super bytes payloads (here.journal.gate ∷ here.journal.rest) here.journal.reached)

-- ---- what a log shows

-- with the bodies that are in their places it shows what is known of these records
pub known_read : (told : Bool) (read : List ℕ) (super : Option Superblock) (end : ℕ) (placed : List Placed) (records : List Record) (log : StoreLog)
    → bare_in log ≡ bare_of records → places_in log ≡ places.places_of placed records → payloads_of placed ≡ texts_of records → end < 2 ^ 64
    → (IsTrue told → placed ≡ placed_in super (texts_of records)) → (IsTrue told → ∥ IsHere super read end (texts_of records) ∥₁)
    → records_in told read log ≡ known_of told records
known_read told read super end placed records log bare_is places_is texts small placed_is here =
    ap (λ (rs : List Record). places.filled (places.bytes_at told read) rs (places_in log)) bare_is
    ∙ ap (λ (ps : List BodyPlace). places.filled (places.bytes_at told read) (bare_of records) ps) places_is
    ∙ at told placed_is here
  where
    at : (t : Bool) → (IsTrue t → placed ≡ placed_in super (texts_of records)) → (IsTrue t → ∥ IsHere super read end (texts_of records) ∥₁)
        → places.filled (places.bytes_at t read) (bare_of records) (places.places_of placed records) ≡ known_of t records
    at true is there =
        ∥∥₁_elim (there refl) (records_set _ _)
        (λ here. filled_back read end placed records small (subst (AreInside read end) (sym (is refl)) (inside_here super read end (texts_of records) here)) texts)
        ∙ sym (known_told records)
    at false is there = filled_zeros read placed records texts

-- the places of the bodies in the journal of these records
pub places_known : (read : List ℕ) (super : Option Superblock) (end : ℕ) (records : List Record) (log : StoreLog) → end < 2 ^ 64 → IsLaid super records log
    → ∥ IsHere super read end (texts_of records) ∥₁ → (place : BodyPlace) → Contains (places_in log) place → IsReadable read place
places_known read super end records log small laid here place among =
    ∥∥₁_elim here (hlevel props)
    (λ is.
    let all = All-from_recursion (IsReadable read) (places.places_of (placed_in super (texts_of records)) records)
    (places_inside read end (placed_in super (texts_of records)) records small (inside_here super read end (texts_of records) is) (payloads_in super (texts_of records))) in
    let moved = subst (λ (ps : List BodyPlace). Contains ps place) laid among in
    subst (IsReadable read) moved.2 (all moved.0 place moved.1))

-- ---- records more

-- the first payload's gate is where the journal ended
pub laid-append : (super : Option Superblock) (read : List ℕ) (end : ℕ) (records recs : List Record) (old new : StoreLog) → ∥ IsHere super read end (texts_of records) ∥₁
    → IsLaid super records old → places_in new ≡ places_in old ++ places.places_of (placed_from end (texts_of recs)) recs
    → places_in new ≡ places.places_of (placed_in super (texts_of (records ++ recs))) (records ++ recs)
laid-append super read end records recs old new here laid more =
    let texts = texts_of records in
    let placed = placed_in super texts in
    let next = placed_from end (texts_of recs) in
    let pushed : placed_in super (texts_of (records ++ recs)) ≡ placed ++ next =
    ∥∥₁_elim here (hlevel props)
    (λ is.
    ap (placed_in super) (map-append record_text records recs)
    ∙ placed_in-append super read texts (texts_of recs) (is.journal.gate ∷ is.journal.rest) is.journal.reached
    ∙ ap (λ (g : ℕ). placed ++ placed_from g (texts_of recs)) (sym is.place)) in
    more
    ∙ ap (λ (ps : List BodyPlace). ps ++ places.places_of next recs) laid
    ∙ sym (places-append placed next records recs (payloads_in super texts))
    ∙ ap (λ (ps : List Placed). places.places_of ps (records ++ recs)) (sym pushed)

-- what is known of a log with these more, where contracts don't know what the disk keeps
pub zeros-append : (before after : List ℕ) (placed : List Placed) (recs : List Record) (old new : StoreLog) → bare_in new ≡ bare_in old ++ bare_of recs
    → places_in new ≡ places_in old ++ places.places_of placed recs → payloads_of placed ≡ texts_of recs
    → records_in false after new ≡ records_in false before old ++ known_of false recs
zeros-append before after placed recs old new bare_is places_is texts =
    ap (λ (rs : List Record). places.filled (places.bytes_at false after) rs (places_in new)) bare_is
    ∙ ap (λ (ps : List BodyPlace). places.filled (places.bytes_at false after) (bare_in old ++ bare_of recs) ps) places_is
    ∙ filled-append (places.bytes_at false after) (bare_in old) (places_in old) (bare_of recs) (places.places_of placed recs) old.pairs
    ∙ ap (λ (l : List Record). records_in false before old ++ l) (filled_zeros after placed recs texts)

-- the log has the records without their bodies
pub bare_known : (told : Bool) (read : List ℕ) (log : StoreLog) → bare_of (records_in told read log) ≡ bare_in log
bare_known told read log = bare_filled (places.bytes_at told read) (bare_in log) (places_in log) log.pairs

pub known_in : (told : Bool) (read : List ℕ) (log : StoreLog) → known_of told (records_in told read log) ≡ records_in told read log
known_in told read log = filled_known told read (bare_in log) (places_in log)
