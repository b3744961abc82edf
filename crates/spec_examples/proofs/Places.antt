-- Which payloads are records in their places.
use Rattle.std.proofs.Common.{◌≡◌, ◌<◌, ◌^◌, ◌&&◌, ltb, ℕ, zero, suc, Bool, true, List, [], ◌∷◌, ◌++◌, length, Ok, Err}
use Rattle.std.proofs.Common.{inl, inr, refl, ap, sym, ◌∙◌, arith, subst}
use Rattle.std.proofs.lemmas.Bool.{and_parts, ltb-true}
use Rattle.std.specs.Prelude.{Contains}
use Rattle.std.specs.List.{AllByRecursion}
use Rattle.std.proofs.lemmas.List.Elements.{All-from_recursion}
use Rattle.xt_base.specs.FieldLimits.{AreBytes, FitsBytes}
use Rattle.xt_messages.specs.Limits.{FitsRecord, FitsHead, FitsFile, is_at_most}
use Rattle.xt_messages.specs.declared.record.Record.{Record}
use Rattle.xt_protocol.specs.Folds.{fold_of, row_in, with_row, IsInPlace, AreInPlace, nothing_kept}
use Rattle.xt_protocol.specs.Stamps.{with_held}
use Rattle.xt_protocol.specs.Heads.{new_head, head_after}
use Rattle.replica_records.specs.RecordText.{record_text}
use Rattle.replica_records.specs.declared.errors.RecordErr.TheVariants as error
use Rattle.replica_records.specs.RecordFields.{recorded, record_at, record_arms, written_arms, boot_record_at}
use Rattle.xt_fields.specs.BasicFields.{byte_at, count_at, long_at}
use Rattle.xt_wire.specs.IdFields.{boot_at}
use Rattle.replica_records.proofs.RecordLaws.{recorded_again}
use Rattle.object_store.specs.Texts.{texts_of, AreRecords, IsFirstBad}
use Rattle.spec_examples.proofs.Readings.{◌▷◌}
use Rattle.spec_examples.specs.StoredRecords.{file, promise, boot, update, stage, abc, first_write, version, head, long, AreBad, bad}
use Rattle.spec_examples.specs.Values.{epoch}

module _ (before : List Record) where
  -- after records in their places: bytes that are no record
  no_record : (payload : List ℕ) (rest : List (List ℕ)) → AreRecords before → recorded payload ≡ Err error.BadRecord
      → IsFirstBad (texts_of before ++ payload ∷ rest) (length before)
  no_record payload rest are none = record {
    before = before;
    are = are;
    payload = payload;
    rest = rest;
    split = refl;
    place = refl;
    bad = λ rec fits is placed.
        let both : Err error.BadRecord ≡ Ok rec = sym none ∙ ap recorded is ∙ recorded_again rec fits in cc;
  }

  -- a record that isn't in its place
  out_of_place : (rec : Record) (rest : List (List ℕ)) → AreRecords before → FitsRecord rec
      → (IsInPlace (fold_of before) rec → ⊥) → IsFirstBad (texts_of before ++ record_text rec ∷ rest) (length before)
  out_of_place rec rest are fits isnt = record {
    before = before;
    are = are;
    payload = record_text rec;
    rest = rest;
    split = refl;
    place = refl;
    bad = λ other others is placed.
        let both : Ok rec ≡ Ok other = sym (recorded_again rec fits) ∙ ap recorded is ∙ recorded_again other others in
        let same : other ≡ rec = cc in
        isnt (subst (IsInPlace (fold_of before)) same placed);
  }

abbrev are_bytes : List ℕ → Bool
are_bytes [] = true
are_bytes (b ∷ bs) = ltb b 256 && are_bytes bs

bytes_fit : (bytes : List ℕ) → are_bytes bytes ≡ true → AreBytes bytes
bytes_fit [] is i = omega arith
bytes_fit (b ∷ bs) is zero = ltb-true b 256 (and_parts (ltb b 256) (are_bytes bs) is).0
bytes_fit (b ∷ bs) is (suc i) = bytes_fit bs (and_parts (ltb b 256) (are_bytes bs) is).1 i

file_fits : FitsFile file
file_fits = record { all = bytes_fit file.volume refl; whole = refl; own = omega arith }

abc_fits : FitsBytes abc
abc_fits = record { all = bytes_fit abc refl; few = omega arith }

stage_fits : FitsRecord (stage abc)
stage_fits = (file_fits, omega arith, omega arith, abc_fits)

promise_fits : (number : ℕ) → number < 2 ^ 62 → FitsRecord (promise number)
promise_fits number below = (file_fits, omega arith)

update_fits : FitsRecord update
update_fits = (
  file_fits,
  record {
    place = omega arith;
    operation = omega arith;
    after = omega arith;
    drops = inr refl;
    gets = inl (omega arith);
    bytes = abc_fits;
    empty = refl;
  },
)

head_fits : FitsRecord head
head_fits = (
  file_fits,
  record {
    promise = omega arith;
    place = omega arith;
    operation = omega arith;
    after = omega arith;
    objects = record { few = omega arith; each = omega arith; rising = refl };
    clients = record { few = omega arith; each = omega arith; rising = refl };
    kept = refl;
  },
)

-- the head after the write, whatever number was promised
write_fits : (number : ℕ) → number < 2 ^ 62 → is_at_most (epoch 0 0) (epoch number 0) ≡ true
    → FitsHead (head_after (record new_head { promised = epoch number 0 }) first_write)
write_fits number below most = record {
  promise = omega arith;
  place = omega arith;
  operation = omega arith;
  after = omega arith;
  objects = record { few = omega arith; each = omega arith; rising = refl };
  clients = record { few = omega arith; each = omega arith; rising = refl };
  kept = most;
}

placed : (records : List Record) → AllByRecursion FitsRecord records → AreInPlace nothing_kept records → AreRecords records
placed records fit are = record { fit = All-from_recursion FitsRecord records fit; placed = are }

pub two_promises : AreRecords (promise 1 ∷ promise 2 ∷ update ∷ [])
unfolding row_in with_row
two_promises =
    placed (promise 1 ∷ promise 2 ∷ update ∷ []) (promise_fits 1 (omega arith), (promise_fits 2 (omega arith), (update_fits, tt)))
    (refl, (refl, ((inr refl, refl, write_fits 2 (omega arith) refl), tt)))

pub a_start : AreRecords (promise 1 ∷ boot 1 ∷ [])
unfolding row_in with_row
a_start = placed (promise 1 ∷ boot 1 ∷ []) (promise_fits 1 (omega arith), (omega arith, tt)) (refl, (tt, tt))

pub a_head : AreRecords (stage abc ∷ head ∷ [])
unfolding row_in with_row with_held
a_head =
    placed (stage abc ∷ head ∷ []) (stage_fits, (head_fits, tt))
    (tt, (All-from_recursion (Contains (version 0 1 ∷ [])) (version 0 1 ∷ []) ((0, omega arith, refl), tt), tt))

one_promise : (number : ℕ) → number < 2 ^ 62 → is_at_most (epoch 0 0) (epoch number 0) ≡ true → AreRecords (promise number ∷ [])
unfolding row_in
one_promise number below most = placed (promise number ∷ []) (promise_fits number below, tt) (most, tt)

one_update : AreRecords (update ∷ [])
unfolding row_in
one_update = placed (update ∷ []) (update_fits, tt) ((inl refl, refl, write_fits 0 (omega arith) refl), tt)

of_each : AreRecords (stage abc ∷ promise 2 ∷ update ∷ [])
unfolding row_in with_row with_held
of_each =
    placed (stage abc ∷ promise 2 ∷ update ∷ []) (stage_fits, (promise_fits 2 (omega arith), (update_fits, tt)))
    (tt, (refl, ((inr refl, refl, write_fits 2 (omega arith) refl), tt)))

lower : IsInPlace (fold_of (promise 2 ∷ [])) (promise 1) → ⊥
unfolding fold_of row_in with_row
lower is = absurd cc

repeated : IsInPlace (fold_of (update ∷ [])) update → ⊥
unfolding fold_of row_in with_row with_held
repeated is = omega (arith, is.1)

repeated_later : IsInPlace (fold_of (stage abc ∷ promise 2 ∷ update ∷ [])) update → ⊥
unfolding fold_of row_in with_row with_held
repeated_later is = omega (arith, is.1)

unheld : IsInPlace (fold_of []) head → ⊥
unfolding fold_of row_in
unheld is = omega (arith, (is 0 (version 0 1) (omega arith)).1)

none : recorded (20 ∷ []) ≡ Err error.BadRecord
unfolding recorded record_at record_arms written_arms byte_at
none = refl

too_long : recorded (1 ∷ long 1 ++ 0 ∷ []) ≡ Err error.BadRecord
unfolding recorded record_at record_arms written_arms byte_at boot_record_at boot_at count_at long_at
too_long = refl

pub are_bad : AreBad bad
are_bad =
    let one = one_promise 1 (omega arith) refl in
    let two = one_promise 2 (omega arith) refl in
    no_record [] (20 ∷ []) (texts_of (promise 1 ∷ [])) (placed [] tt tt) none
    ▷ no_record (promise 1 ∷ []) (20 ∷ []) [] one none
    ▷ no_record (promise 1 ∷ []) (1 ∷ long 1 ++ 0 ∷ []) [] one too_long
    ▷ out_of_place (promise 2 ∷ []) (promise 1) [] two (promise_fits 1 (omega arith)) lower
    ▷ out_of_place (promise 2 ∷ []) (promise 1) ((20 ∷ []) ∷ []) two (promise_fits 1 (omega arith)) lower
    ▷ out_of_place (update ∷ []) update [] one_update update_fits repeated
    ▷ out_of_place [] head [] (placed [] tt tt) head_fits unheld
    ▷ out_of_place (stage abc ∷ promise 2 ∷ update ∷ []) update (texts_of (head ∷ [])) of_each update_fits repeated_later
    ▷ tt
