-- a disk that stops in a call of an append
use Rattle.std.proofs.Common.{◌≡◌, ℕ, ◌+◌, ◌≤◌, ◌&&◌, ◌==◌, Bool, true, false, if◌then◌else◌, nat_le, List, [], ◌∷◌, ◌++◌, Option, None, Some, refl, sym, ◌∙◌, ap, subst, arith}
use Rattle.std.proofs.lemmas.Bool.{leb-true, leb-false, le-leb}
use Rattle.std.proofs.lemmas.Bool.Decides.{nat_tests}
use Rattle.xt_base.specs.Faults.{counted}
use Rattle.std.proofs.Math.Logic.{∥∥₁_map}
use Rattle.std.proofs.lemmas.List.{map-append}
use Rattle.disk_model.specs.Gate.{open_gate}
use Rattle.disk_model.specs.declared.plan.Stop.{Stop}
use Rattle.disk_model.specs.Changes.{Memory}
use Rattle.disk_model.specs.Disk.{Kept, IsFilled}
use Rattle.disk_model.specs.Plan.{planned}
use Rattle.xt_messages.specs.Limits.{FitsRecord}
use Rattle.xt_messages.specs.declared.record.Record.{Record}
use Rattle.xt_protocol.specs.Folds.{fold_of, IsInPlace}
use Rattle.replica_records.specs.RecordText.{record_text}
use Rattle.xt_journal.specs.Append.{IsStopped, payloads_after_stop}
use Rattle.journal_records.specs.Calls.{IsFirstFailure, AllSucceed}
use Rattle.journal_areas.specs.declared.superblock.Superblock.{Superblock}
use Rattle.xt_journal.specs.Format.{StandsIn, StandsFor}
use Rattle.xt_journal.specs.Loaded.{IsReady, MadeCalls}
use Rattle.object_store.specs.Texts.{texts_of, AreRecords}
use Rattle.world_hull.specs.declared.hull.Kept.TheVariants.{StoppedKept, StoppedLost}
use Rattle.world_hull.specs.Appends.{kept_by}
use Rattle.world_disk.specs.Disks.{AreOn, IsToStop}
use Rattle.world_disk.specs.Ends.{own_after}
use Rattle.world_disk.specs.Room.{place_in}
use Rattle.world_disk.specs.declared.TheConstants.{JOURNAL}
use Rattle.object_store.proofs.Reading.{are-push}

-- a disk that was just made
abbrev pub made : List ℕ → List ℕ → Option Stop → Memory
made bytes failing stop = record {
  first = bytes;
  changes = [];
  reserved = 0;
  room = 0;
  plan = record { failing = failing; stop = stop; calls = 0; changes = 0; faults = 0 };
}

-- none of its calls fails where none is to fail
pub never : (disk : Memory) (bytes failing : List ℕ) → disk ≡ made bytes failing None → failing ≡ [] → (looks changes : ℕ) → planned disk.plan looks changes ≡ false
never disk bytes failing is none looks changes =
    ap (λ (d : Memory). planned d.plan looks changes) is ∙ ap (λ (f : List ℕ). planned (made bytes f None).plan looks changes) none

one_later : (call changes : ℕ) → changes ≤ 4 → nat_le (call + 1) (counted (0 + (1 + changes))) ≡ nat_le call changes
one_later call changes few = grind (arith, nat_tests)

-- and where it stops one call later than this one, it stops in this one once it was loaded, which takes one call
pub stops_then : (disk : Memory) (bytes failing read : List ℕ) (call fill : ℕ) (new : ℕ → ℕ → Bool) → disk ≡ made bytes failing (Some (record { call = call + 1; fill = fill }))
    → failing ≡ [] → IsReady read → MadeCalls (planned disk.plan) new read → IsToStop call new
stops_then disk bytes failing read call fill new is none ready calls changes few =
    calls.goes_on 0 changes
    ∙ ap (λ (first : ℕ). planned disk.plan 1 (first + changes)) (calls.one ready)
    ∙ ap (λ (d : Memory). planned d.plan 1 (1 + changes)) is
    ∙ ap (λ (f : List ℕ). planned (made bytes f (Some (record { call = call + 1; fill = fill }))).plan 1 (1 + changes)) none
    ∙ one_later call changes few

pub false_ne_true : false ≡ true → ⊥
false_ne_true h = cc

pub calm_after : (old new : ℕ → ℕ → Bool) (bytes : List ℕ) → ((looks changes : ℕ) → old looks changes ≡ false) → MadeCalls old new bytes
    → (looks changes : ℕ) → new looks changes ≡ false
calm_after old new bytes never calls looks changes = calls.goes_on looks changes ∙ never (1 + looks) (calls.changes + changes)

le_itself : (n : ℕ) → nat_le n n ≡ true
le_itself n = le-leb n n (omega arith)

module _ (fails : ℕ → ℕ → Bool) (call : ℕ) (stops : IsToStop call fails) (some : 1 ≤ call) (four : call ≤ 4) where
  fails_then : fails 0 call ≡ true
  fails_then = stops call four ∙ le_itself call

  pub must_fail : AllSucceed fails 4 → ⊥
  must_fail all = false_ne_true (sym (all call some four) ∙ fails_then)

  -- the put fails in the call where the disk is to stop
  the_call : (failed : ℕ) → failed ≤ 4 → IsFirstFailure fails failed → failed ≡ call
  the_call failed few first = at (nat_le failed call) refl
    where
      low : call ≤ failed
      low = leb-true call failed (sym (stops failed few) ∙ first.fails_there)

      at : (b : Bool) → nat_le failed call ≡ b → failed ≡ call
      at true high = omega (arith, low, leb-true failed call high)
      at false later = absurd (false_ne_true (sym (first.not_before call some (leb-false failed call later)) ∙ fails_then))

  told_in : (super : Option Superblock) (records : List Record) (rec : Record) (kept : Kept) → IsStopped super fails kept (texts_of records) (record_text rec)
      → (fill : ℕ) (bytes : List ℕ) → IsFilled fill kept bytes → StandsIn super bytes (payloads_after_stop call fill (texts_of records) (record_text rec))
  told_in super records rec kept stopped fill bytes filled =
      subst (λ (c : ℕ). StandsIn super bytes (payloads_after_stop c fill (texts_of records) (record_text rec)))
      (the_call stopped.call stopped.four stopped.first) (stopped.image fill bytes filled)

  -- what a crash leaves is a journal of the records that the stop's call leaves
  pub told_by_call : (super : Option Superblock) (records : List Record) (rec : Record) (kept : Kept) → IsStopped super fails kept (texts_of records) (record_text rec)
      → (fill : ℕ) (bytes : List ℕ) → IsFilled fill kept bytes → StandsFor bytes (payloads_after_stop call fill (texts_of records) (record_text rec))
  told_by_call super records rec kept stopped fill bytes filled = ∣ (super, told_in super records rec kept stopped fill bytes filled) ∣₁

  -- these are the records after the stop
  pub left_in : (super : Option Superblock) (fill : ℕ) (records : List Record) (rec : Record) (kept : Kept) (bytes : List ℕ)
      → IsStopped super fails kept (texts_of records) (record_text rec) → IsFilled fill kept bytes
      → StandsIn super bytes (texts_of (own_after records rec (kept_by (Some (record { call = call; fill = fill })))))
  left_in super fill records rec kept bytes stopped filled = at (nat_le 3 call && (fill == open_gate)) (told_in super records rec kept stopped fill bytes filled)
    where
      at : (b : Bool) → StandsIn super bytes (if b then texts_of records ++ record_text rec ∷ [] else texts_of records)
          → StandsIn super bytes (texts_of (own_after records rec (if b then StoppedKept else StoppedLost)))
      at true stands = subst (λ (ps : List (List ℕ)). StandsIn super bytes ps) (sym (map-append record_text records (rec ∷ []))) stands
      at false stands = stands

  pub left_on : (super : Option Superblock) (fill : ℕ) (records : List Record) (rec : Record) (kept : Kept) (bytes : List ℕ)
      → IsStopped super fails kept (texts_of records) (record_text rec) → IsFilled fill kept bytes
      → ∥ AreRecords records ∥₁ → FitsRecord rec → IsInPlace (fold_of records) rec
      → place_in super records ≤ JOURNAL → place_in super (records ++ rec ∷ []) ≤ JOURNAL
      → ∥ AreOn bytes (own_after records rec (kept_by (Some (record { call = call; fill = fill })))) ∥₁
  left_on super fill records rec kept bytes stopped filled sound fits place short short_with =
      at (nat_le 3 call && (fill == open_gate)) (left_in super fill records rec kept bytes stopped filled)
    where
      at : (b : Bool) → StandsIn super bytes (texts_of (own_after records rec (if b then StoppedKept else StoppedLost)))
          → ∥ AreOn bytes (own_after records rec (if b then StoppedKept else StoppedLost)) ∥₁
      at true stands = ∥∥₁_map sound (λ are. record { superblock = super; stand = stands; sound = are-push records rec are fits place; short = short_with })
      at false stands = ∥∥₁_map sound (λ are. record { superblock = super; stand = stands; sound = are; short = short })
