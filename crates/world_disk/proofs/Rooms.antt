-- how much room a node's journal has
use Rattle.std.proofs.Common.{◌≡◌, ℕ, ◌+◌, ◌<◌, ◌≤◌, nat_lt, List, [], ◌∷◌, ◌++◌, length, if◌then◌else◌, Option, Some, None, Result, Err, IsTrue, sym, ◌∙◌, ap, subst, arith}
use Rattle.std.proofs.lemmas.Bool.Decides.{nat_tests}
use Rattle.std.proofs.lemmas.List.{map-append}
use Rattle.std.proofs.lemmas.Result.{err_from_is_err_and}
use Rattle.std.specs.Result.{IsErrAnd}
use Rattle.xt_base.specs.Faults.{counted}
use Rattle.disk_model.specs.declared.disk.Disk.{Ghosts}
use Rattle.xt_messages.specs.Limits.{FitsRecord}
use Rattle.xt_messages.specs.declared.record.Record.{Record}
use Rattle.replica_records.specs.RecordText.{record_text}
use Rattle.replica_records.proofs.PayloadLength.{text_bound}
use Rattle.xt_journal.specs.Access.{place_of, limit_of, superblock_of}
use Rattle.journal_areas.specs.declared.superblock.Superblock.{Superblock}
use Rattle.xt_journal.specs.Format.{end_in, KeepsIn}
use Rattle.xt_journal.proofs.Push.{end_in-push}
use Rattle.xt_journal.proofs.Steps.{keeps_in, place_of_end}
use Rattle.object_store.specs.declared.store.Store.{Store}
use Rattle.object_store.specs.Access.{journal_of, disk_of, records_of}
use Rattle.object_store.specs.Texts.{texts_of}
use Rattle.world_spec.specs.NodeSteps.{Overflow}
use Rattle.world_hull.specs.Answers.{IsFullExactly}
use Rattle.world_hull.specs.declared.errors.WorldErr.{WorldErr}
use Rattle.world_hull.specs.declared.errors.WorldErr.TheVariants as error
use Rattle.world_disk.specs.Room.{journal_need, journal_overflow, place_in}
use Rattle.world_disk.specs.declared.TheConstants.{JOURNAL}

within : (n limit : ℕ) (over : Overflow) → n ≤ limit → (if nat_lt limit n then Some over else None) ≡ None
within n limit over le = grind (arith, nat_tests)

past : (n limit : ℕ) (over : Overflow) → limit < n → (if nat_lt limit n then Some over else None) ≡ Some over
past n limit over lt = grind (arith, nat_tests)

uncounted : (n len : ℕ) → n ≤ JOURNAL → len ≤ 1048576 → counted (n + (6 + len)) ≡ n + (6 + len)
uncounted n len short few = omega arith

-- what the disk of a store keeps
pub keeps_here : {D : Type 0} {g : Ghosts D} (store : Store D g) → IsTrue g.is_told
    → KeepsIn (superblock_of (journal_of store)) (g.kept (disk_of store)) (texts_of (records_of store))
keeps_here {g = g} store told =
    keeps_in (superblock_of (journal_of store)) (g.kept (disk_of store)) (place_of (journal_of store)) (texts_of (records_of store)) (store.journal.ends told) (store.keeps told)

-- where its journal ends
pub place_here : {D : Type 0} {g : Ghosts D} (store : Store D g) → IsTrue g.is_told
    → place_of (journal_of store) ≡ place_in (superblock_of (journal_of store)) (records_of store)
place_here {g = g} store told =
    place_of_end (superblock_of (journal_of store)) (g.kept (disk_of store)) (place_of (journal_of store)) (texts_of (records_of store)) (store.journal.ends told) (store.keeps told)

-- what the result of a put says of the room in its journal
module _ {D : Type 0} {g : Ghosts D} (store : Store D g) (told : IsTrue g.is_told) (rec : Record) (limited : limit_of (journal_of store) ≡ JOURNAL) where
  abbrev records : List Record
  records = records_of store

  abbrev super : Option Superblock
  super = superblock_of (journal_of store)

  abbrev place : ℕ
  place = place_of (journal_of store)

  ends : place ≡ place_in super records
  ends = place_here store told

  needed : journal_need super records rec ≡ place + (6 + length (record_text rec))
  unfolding journal_need
  needed = ap (λ (n : ℕ). n + (6 + length (record_text rec))) (sym ends)

  -- the record was put, or would have been but for a stop
  pub has_room : place_of (journal_of store) + (6 + length (record_text rec)) ≤ limit_of (journal_of store)
      → journal_overflow (superblock_of (journal_of store)) (records_of store) rec ≡ None
  has_room le = within (journal_need super records rec) JOURNAL _ (omega (arith, le, needed, limited))

  pub short_with : place_of (journal_of store) + (6 + length (record_text rec)) ≤ limit_of (journal_of store)
      → place_in (superblock_of (journal_of store)) (records_of store ++ rec ∷ []) ≤ JOURNAL
  short_with le =
      let texts : texts_of (records ++ rec ∷ []) ≡ texts_of records ++ record_text rec ∷ [] = map-append record_text records (rec ∷ []) in
      omega (arith, le, ends, limited, ap (end_in super) texts, end_in-push super (texts_of records) (record_text rec))

  pub has_none : (need limit : ℕ) → FitsRecord rec → place_in (superblock_of (journal_of store)) (records_of store) ≤ JOURNAL
      → limit_of (journal_of store) < place_of (journal_of store) + (6 + length (record_text rec))
      → need ≡ counted (place_of (journal_of store) + (6 + length (record_text rec))) → limit ≡ limit_of (journal_of store)
      → journal_overflow (superblock_of (journal_of store)) (records_of store) rec ≡ Some (record { need = need; limit = limit })
  has_none need limit fits short more is_need is_limit =
      let whole : counted (place + (6 + length (record_text rec))) ≡ place + (6 + length (record_text rec))
      = uncounted place (length (record_text rec)) (omega (arith, ends, short)) (text_bound rec fits).1 in
      let n : journal_need super records rec ≡ need = needed ∙ sym whole ∙ sym is_need in
      let l : JOURNAL ≡ limit = sym limited ∙ sym is_limit in
      past (journal_need super records rec) JOURNAL _ (omega (arith, more, needed, limited)) ∙ cc (n, l)

-- an error that a call gave is passed on
pub passed_on : (A B : Type 0) (overflow : Option Overflow) (e : WorldErr) (result : Result B WorldErr)
    → IsFullExactly {T = A} overflow (Err e) → IsErrAnd result (λ given. given ≡ e) → IsFullExactly overflow result
passed_on A B overflow e result told given =
    let found = err_from_is_err_and result given in
    subst (λ (r : Result B WorldErr). IsFullExactly overflow r) (sym (found.1 ∙ ap Err found.2)) (same_error overflow e told)
  where
    same_error : (over : Option Overflow) (x : WorldErr) → IsFullExactly {T = A} over (Err x) → IsFullExactly {T = B} over (Err x)
    same_error over (error.Illegal rule) is = is
    same_error over (error.Limit what limit) is = is
    same_error over (error.Full need limit) is = is
    same_error over error.OutOfMemory is = is
