-- several records that are put at once
use Rattle.std.proofs.Common.{◌≡◌, ℕ, ◌-◌, ◌≤◌, List, [], ◌∷◌, ◌++◌, length, drop, take, sym, ◌∙◌, ap, subst, arith}
use Rattle.std.proofs.lemmas.List.{length-drop, map-append, take_all}
use Rattle.disk_model.specs.Disk.{Kept}
use Rattle.xt_messages.specs.declared.record.Record.{Record}
use Rattle.xt_journal.specs.Append.{IsRunOf}
use Rattle.xt_journal.specs.Format.{KeepsJournal, StandsFor, records}
use Rattle.replica_records.specs.RecordText.{record_text}
use Rattle.object_store.specs.declared.waiting.Waiting.{Waiting}
use Rattle.object_store.specs.Texts.{texts_of}
use Rattle.object_store.specs.Waits.{bytes_of, recs_of}
use Rattle.object_store.proofs.Waited.{run_of}

-- ---- the piece that is appended: all bytes but the first, which are as many as there are

pub but_first : (bytes : List ℕ) → take (length bytes - 1) (drop 1 bytes) ≡ drop 1 bytes
but_first bytes = take_all (length bytes - 1) (drop 1 bytes) (omega (arith, length-drop 1 bytes))

some_bytes : (bytes : List ℕ) (recs : List Record) → bytes ≡ records (texts_of recs) → 1 ≤ length recs → 1 ≤ length bytes
some_bytes bytes [] are some = absurd (omega (arith, some))
some_bytes bytes (r ∷ recs) are some = omega (arith, ap length are)

module _ (waiting : Waiting) (some : 1 ≤ length (recs_of waiting)) where
  pub some_wait : 1 ≤ length (bytes_of waiting)
  some_wait = some_bytes (bytes_of waiting) (recs_of waiting) waiting.written some

  module _ (bytes : List ℕ) (is : bytes ≡ bytes_of waiting ++ 0 ∷ []) where
    pub their_run : IsRunOf (take (length bytes - 1) (drop 1 bytes)) (texts_of (recs_of waiting))
    their_run =
        run_of (bytes_of waiting) (take (length bytes - 1) (drop 1 bytes)) (recs_of waiting) waiting.fit waiting.written some (but_first bytes ∙ ap (drop 1) is)

-- ---- what is kept then

pub all_kept : (kept : Kept) (old recs : List Record) → KeepsJournal kept (texts_of old ++ texts_of recs) → KeepsJournal kept (texts_of (old ++ recs))
all_kept kept old recs keeps = subst (λ (l : List (List ℕ)). KeepsJournal kept l) (sym (map-append record_text old recs)) keeps

pub all_stand : (image : List ℕ) (old recs : List Record) → StandsFor image (texts_of old ++ texts_of recs) → StandsFor image (texts_of (old ++ recs))
all_stand image old recs stands = subst (λ (l : List (List ℕ)). StandsFor image l) (sym (map-append record_text old recs)) stands
