-- What a crash leaves in each part of a move, and what the disk has once it is done.
use Rattle.std.proofs.Common.{◌≡◌, ◌≢◌, ◌⊎◌, inl, inr, ℕ, ◌+◌, ◌-◌, ◌<◌, ◌≤◌, Bool, true, false, Option, Some, None, List, [], ◌∷◌, ◌++◌, length, drop, get_or, refl, sym, ◌∙◌, ap, subst, arith, append_assoc, take-append-drop, ◌==◌}
use Rattle.std.specs.Prelude.{IsTrue}
use Rattle.std.specs.List.{All}
use Rattle.std.proofs.lemmas.List.{get_or-drop}
use Rattle.std.proofs.lemmas.Bool.{cases_eq, cond-true, cond-false, eq-eqb, ne_eqb}
use Rattle.std.proofs.Math.Logic.{∥∥₁_map, ∥∥₁_elim}
use Rattle.std.proofs.Props.{props}
use Rattle.xt_base.specs.Overlay.{overlay}
use Rattle.disk_model.specs.Disk.{Kept, IsImage, Elapses, LeavesOnly, at_rest}
use Rattle.disk_model.proofs.Images.{rest_stays}
use Rattle.disk_model.proofs.Moments.{elapsed}
use Rattle.disk_model.proofs.Filled.{filled_is_image}
use Rattle.journal_records.specs.Calls.{MayBeTorn, IsTornAt}
use Rattle.journal_areas.specs.declared.superblock.Slot.{Slot}
use Rattle.journal_areas.specs.declared.superblock.Superblock.{Superblock}
use Rattle.journal_areas.specs.Format.{open_gate, records, end_of, AreGiven}
use Rattle.journal_areas.specs.Superblocks.{base_of, current, number_bytes, slot_in}
use Rattle.journal_areas.specs.Areas.{IsJournal, StandsFor, end_by, end_in}
use Rattle.journal_areas.specs.Kept.{KeepsIn}
use Rattle.journal_areas.specs.Sites.{area_of, slot_of, new_slot, site, is_second, put, slot_at, slot_place, superblock_at, number_after, area_size, with_slot, moved, need_for}
use Rattle.journal_areas.proofs.Slots.{current_open, current_shut, still_second}
use Rattle.journal_areas.proofs.Moving.{Agrees, torn_agrees, written_agrees, written_there, records_stay, standing, area_written, gate_left, gate_same, numbers_left, gate_opened, numbers_written, put_same, slot_before, long, here, slot_here}
use Rattle.journal_areas.proofs.Adding.{new_record, not_yet, still_none, has_one, site_away}
use Rattle.journal_moves.specs.Moves.{shut_calls, FailsWithin, IsMove, IsMoveStopped, end_ready, IsEither, IsAt, IsNewArea, Stages, IsNextSlot, Fits, shut_gate, with_shut, numbered}
use Rattle.journal_moves.specs.Answers.{located_after}
use Rattle.journal_moves.specs.declared.gathered.Gathered.{Gathered}
use Rattle.journal_moves.specs.declared.moving.Located.{Located}
use Rattle.journal_moves.specs.Gathering.{IsThere, gathered, size_of_area}
use Rattle.journal_moves.specs.Writing.{IsApart, IsWritten, StaysOutside}
use Rattle.journal_moves.proofs.Areas.{all_in, size_area}
use Rattle.journal_moves.proofs.Underway.{agrees_of, all_before_end, all_ready, all_stay, apart, stays_of, stays_on, stays_same}
use Rattle.journal_moves.proofs.Stopped.{torn_image, gate_filled, open_is, shut_is}

-- ---- journals at rest

pub stands : (super : Option Superblock) (bytes : List ℕ) (old : List (List ℕ)) → ∥ IsJournal super bytes old ∥₁ → StandsFor bytes old
stands super bytes old is = ∣ (super, ∥∥₁_map is (λ j. inr j)) ∣₁

-- a crash leaves a disk at rest as it is
pub rests_in : (super : Option Superblock) (kept : Kept) (old : List (List ℕ)) (image : List ℕ) → KeepsIn super kept old → IsImage kept image → StandsFor image old
rests_in super kept old image keeps is =
    let stays : image ≡ kept.read = rest_stays kept.read image (subst (λ (k : Kept). IsImage k image) keeps.rests is) in
    subst (λ (b : List ℕ). StandsFor b old) (sym stays) (stands super kept.read old keeps.journal)

pub keeps_now : (super : Option Superblock) (bytes : List ℕ) (old : List (List ℕ)) → ∥ IsJournal super bytes old ∥₁ → KeepsIn super (at_rest bytes) old
keeps_now super bytes old is = record { rests = refl; journal = is }

-- a gate that was put
gate_put : (bytes : List ℕ) (at gate : ℕ) → get_or (overlay bytes at (gate ∷ [])) at 0 ≡ gate
gate_put bytes at gate =
    let here : at + 0 ≡ at = omega arith in
    sym (ap (λ (n : ℕ). get_or (overlay bytes at (gate ∷ [])) n 0) here)
    ∙ sym (get_or-drop at (overlay bytes at (gate ∷ [])) 0 0)
    ∙ ap (λ (l : List ℕ). get_or l 0 0) (written_there bytes at (gate ∷ []))

-- ---- a superblock is appended

module _ (kept : Kept) (end : ℕ) (old : List (List ℕ)) (is : IsAt None kept end old) where
  pub add_first : (image : List ℕ) → MayBeTorn (end + 1) new_record kept.read image → StandsFor image old
  add_first image torn =
      let agrees = subst (λ (n : ℕ). Agrees kept.read image (n + 1) (n + 1 + length new_record)) is.ends (torn_agrees kept.read (end + 1) new_record image torn) in
      stands None image old (∥∥₁_map is.keeps.journal (λ j. not_yet kept.read old j image (end_of old + 1 + length new_record) agrees))

  gate_agrees : (image : List ℕ) → Agrees (overlay kept.read (end + 1) new_record) image end (end + 1)
      → Agrees (overlay kept.read (end_of old + 1) new_record) image (end_of old) (end_of old + 1)
  gate_agrees image agrees = subst (λ (n : ℕ). Agrees (overlay kept.read (n + 1) new_record) image n (n + 1)) is.ends agrees

  pub add_second : (image : List ℕ) → MayBeTorn end (open_gate ∷ []) (overlay kept.read (end + 1) new_record) image → StandsFor image old
  add_second image torn =
      let agrees = gate_agrees image (torn_agrees (overlay kept.read (end + 1) new_record) end (open_gate ∷ []) image torn) in
      elim (cases_eq (get_or image (end_of old) 0) open_gate) [
        | inl opens ↦ stands (Some (superblock_at None (end_of old))) image old (∥∥₁_map is.keeps.journal (λ j. has_one kept.read old j image agrees opens))
        | inr shut ↦ stands None image old (∥∥₁_map is.keeps.journal (λ j. still_none kept.read old j image agrees shut))
      ]

  pub add_done : IsAt (Some (superblock_at None end)) (at_rest (overlay (overlay kept.read (end + 1) new_record) end (open_gate ∷ []))) (end + 56) old
  add_done =
      let first = overlay kept.read (end + 1) new_record in
      let image = overlay first end (open_gate ∷ []) in
      let agrees = gate_agrees image (written_agrees first end (open_gate ∷ [])) in
      let opens : get_or image (end_of old) 0 ≡ open_gate = subst (λ (n : ℕ). get_or image n 0 ≡ open_gate) is.ends (gate_put first end open_gate) in
      record {
        keeps = keeps_now (Some (superblock_at None end)) image old
            (∥∥₁_map is.keeps.journal (λ j. subst (λ (n : ℕ). IsJournal (Some (superblock_at None n)) image old) (sym is.ends) (has_one kept.read old j image agrees opens)));
        ends = omega (arith, is.ends);
      }

-- the bytes before the gate stay
pub add_stays : (bytes : List ℕ) (end : ℕ) → StaysOutside bytes (overlay (overlay bytes (end + 1) new_record) end (open_gate ∷ [])) end (end + 57)
add_stays bytes end =
    let first = overlay bytes (end + 1) new_record in
    let image = overlay first end (open_gate ∷ []) in
    let record_only : StaysOutside bytes first (end + 1) (end + 1 + 56) = stays_of bytes first (end + 1) (end + 1 + 56) (written_agrees bytes (end + 1) new_record) in
    let gate_only : StaysOutside first image end (end + 1) = stays_of first image end (end + 1) (written_agrees first end (open_gate ∷ [])) in
    stays_on bytes first image end (end + 57) end (end + 1)
    (stays_on bytes bytes first end (end + 57) (end + 1) (end + 1 + 56) (stays_same bytes end (end + 57)) record_only (omega arith) (omega arith))
    gate_only (omega arith) (omega arith)

-- ---- the area is written

module _ (s : Superblock) (kept : Kept) (old : List (List ℕ)) (place : ℕ) (payloads : List Gathered) (lists : List (List ℕ)) (is : IsNewArea s kept old place payloads lists) where
  size_is : size_of_area payloads ≡ area_size lists
  size_is = sym (ap area_size is.are ∙ size_area true kept.read payloads (all_in true kept.read (area_of (Some s) is.end) payloads (λ told. is.there)))

  away : (j : IsJournal (Some s) kept.read old) → (base_of s ≤ place)
      × ((place + area_size lists ≤ (standing kept.read s old j).start) ⊎ ((standing kept.read s old j).start + length (records (standing kept.read s old j).list) < place))
  away j = site_away kept.read s old (standing kept.read s old j) is.end (area_size lists) place is.is_at.ends is.goes

  area_image : (image : List ℕ) → StaysOutside kept.read image place (place + size_of_area payloads) → ∥ IsJournal (Some s) image old ∥₁
  area_image image stays =
      let agrees = subst (λ (n : ℕ). Agrees kept.read image place (place + n)) size_is (agrees_of kept.read image place (place + size_of_area payloads) stays) in
      ∥∥₁_map is.is_at.keeps.journal (λ j. area_written kept.read s old (standing kept.read s old j) image place (place + area_size lists) agrees (away j).0 (away j).1)

  pub area_stays : (image : List ℕ) → StaysOutside kept.read image place (place + size_of_area payloads) → StandsFor image old
  area_stays image stays = stands (Some s) image old (area_image image stays)

  -- what the disk has of the payloads isn't where they go
  pub area_apart : All (IsApart kept.read place (place + size_of_area payloads)) payloads
  area_apart =
      subst (λ (n : ℕ). All (IsApart kept.read place (place + n)) payloads) (sym size_is)
      (apart kept.read s is.end (area_size lists) place payloads is.there is.goes)

  pub area_done : (new : Kept) → new ≡ at_rest new.read
      → IsWritten kept.read new.read place (place + size_of_area payloads) (records (gathered true kept.read payloads) ++ 0 ∷ []) → Stages s new old place lists
  area_done new rests written =
      let all = records (gathered true kept.read payloads) in
      let tail = drop (length (all ++ 0 ∷ [])) (drop place new.read) in
      record {
        keeps = record { rests = rests; journal = area_image new.read written.stays };
        given = is.given;
        far = ∥∥₁_elim is.is_at.keeps.journal (hlevel props) (λ j. (away j).0);
        more = tail;
        there =
            sym (take-append-drop (length (all ++ 0 ∷ [])) (drop place new.read))
            ∙ ap (λ (l : List ℕ). l ++ tail) written.there
            ∙ append_assoc all (0 ∷ []) tail
            ∙ ap (λ (l : List (List ℕ)). records l ++ 0 ∷ tail) (sym is.are);
      }

-- ---- the slot is written

pub put_gate : (second : Bool) (s : Superblock) (slot : Slot) → (put second s slot).gate ≡ s.gate
put_gate true s slot = refl
put_gate false s slot = refl

pub shut_is_shut : (gate : ℕ) → shut_gate gate ≢ open_gate
shut_is_shut gate =
    elim (cases_eq gate open_gate) [
      | inl opens ↦ λ is. omega (arith, sym (cond-true (gate == open_gate) 0 gate (eq-eqb gate open_gate opens)) ∙ is)
      | inr shut ↦ λ is. shut (sym (cond-false (gate == open_gate) 0 gate (ne_eqb gate open_gate shut)) ∙ is)
    ]

module _ (s : Superblock) (kept : Kept) (old : List (List ℕ)) (place : ℕ) (payloads : List (List ℕ)) (is : Stages s kept old place payloads) where
  -- the area stays while a slot is written
  pub stages_on : (t : Superblock) → t.gate ≡ s.gate → (image : List ℕ) (lo hi : ℕ) → Agrees kept.read image lo hi → hi ≤ s.gate + 57 → ∥ IsJournal (Some t) image old ∥₁
      → Stages t (at_rest image) old place payloads
  stages_on t same image lo hi agrees before journal = record {
    keeps = keeps_now (Some t) image old journal;
    given = is.given;
    far = omega (arith, same, is.far);
    more = drop (length (records payloads) + 1) (drop place image);
    there = records_stay kept.read image lo hi place payloads 0 is.more agrees is.there (inl (omega (arith, before, is.far)));
  }

  module _ (second : Bool) (which : second ≡ is_second s) where
    at : ℕ
    at = slot_place second s.gate

    -- it is shut, or left as it is
    pub shut_torn : (slot_at second s).gate ≡ open_gate → (image : List ℕ) → MayBeTorn (slot_place second s.gate) (0 ∷ []) kept.read image → StandsFor image old
    shut_torn was image torn =
        let agrees : Agrees kept.read image (slot_place second s.gate) (slot_place second s.gate + 1) = torn_agrees kept.read (slot_place second s.gate) (0 ∷ []) image torn in
        elim (cases_eq (get_or image (slot_place second s.gate) 0) open_gate) [
          | inl opens ↦ stands (Some s) image old
              (∥∥₁_map is.keeps.journal (λ j. gate_same kept.read s old (standing kept.read s old j) second which image agrees was opens))
          | inr shut ↦ stands (Some (put second s (record (slot_at second s) { gate = get_or image (slot_place second s.gate) 0 }))) image old
              (∥∥₁_map is.keeps.journal (λ j. gate_left kept.read s old (standing kept.read s old j) second which image agrees shut))
        ]

    pub shut_done : (slot_at second s).gate ≡ open_gate → Stages (with_shut second s) (at_rest (overlay kept.read (slot_place second s.gate) (0 ∷ []))) old place payloads
    shut_done was =
        let image = overlay kept.read (slot_place second s.gate) (0 ∷ []) in
        let agrees : Agrees kept.read image (slot_place second s.gate) (slot_place second s.gate + 1) = written_agrees kept.read (slot_place second s.gate) (0 ∷ []) in
        let gate = gate_put kept.read (slot_place second s.gate) 0 in
        let shut : get_or image (slot_place second s.gate) 0 ≢ open_gate = λ opens. absurd (omega (arith, gate, opens)) in
        let new : get_or image (slot_place second s.gate) 0 ≡ shut_gate (slot_at second s).gate =
        gate ∙ sym (cond-true ((slot_at second s).gate == open_gate) 0 (slot_at second s).gate (eq-eqb (slot_at second s).gate open_gate was)) in
        stages_on (with_shut second s) (put_gate second s (record (slot_at second s) { gate = shut_gate (slot_at second s).gate })) image
        (slot_place second s.gate) (slot_place second s.gate + 1) agrees (omega (arith, slot_before second s.gate))
        (∥∥₁_map is.keeps.journal (λ j.
        subst (λ (g : ℕ). IsJournal (Some (put second s (record (slot_at second s) { gate = g }))) image old) new
        (gate_left kept.read s old (standing kept.read s old j) second which image agrees shut)))

    -- with a gate that is shut already
    pub shut_already : (slot_at second s).gate ≢ open_gate → with_shut second s ≡ s
    shut_already shut =
        put_same second s (shut_gate (slot_at second s).gate) (cond-false ((slot_at second s).gate == open_gate) 0 (slot_at second s).gate (ne_eqb (slot_at second s).gate open_gate shut))

    module _ (shut : (slot_at second s).gate ≢ open_gate) where
      -- its numbers are written
      numbers_in : (image : List ℕ) → Agrees kept.read image (slot_place second s.gate + 1) (slot_place second s.gate + 25)
          → ∥ IsJournal (Some (put second s (slot_in (drop (slot_place second s.gate) image)))) image old ∥₁
      numbers_in image agrees = ∥∥₁_map is.keeps.journal (λ j. numbers_left kept.read s old (standing kept.read s old j) second which image agrees shut)

      piece_agrees : (image numbers : List ℕ) → length numbers ≡ 24 → Agrees kept.read image (slot_place second s.gate + 1) (slot_place second s.gate + 1 + length numbers)
          → Agrees kept.read image (slot_place second s.gate + 1) (slot_place second s.gate + 25)
      piece_agrees image numbers size agrees =
          let end : slot_place second s.gate + 1 + length numbers ≡ slot_place second s.gate + 25 = omega (arith, size) in
          subst (λ (n : ℕ). Agrees kept.read image (slot_place second s.gate + 1) n) end agrees

      pub numbers_torn : (numbers : List ℕ) → length numbers ≡ 24 → (image : List ℕ) → MayBeTorn (slot_place second s.gate + 1) numbers kept.read image → StandsFor image old
      numbers_torn numbers size image torn =
          stands (Some (put second s (slot_in (drop (slot_place second s.gate) image)))) image old
          (numbers_in image (piece_agrees image numbers size (torn_agrees kept.read (slot_place second s.gate + 1) numbers image torn)))

      pub numbers_done : (numbers : List ℕ) (slot : Slot) → length numbers ≡ 24 → numbers ≡ number_bytes slot → Fits slot
          → Stages (put second s (record slot { gate = (slot_at second s).gate })) (at_rest (overlay kept.read (slot_place second s.gate + 1) numbers)) old place payloads
      numbers_done numbers slot size are fits =
          let image = overlay kept.read (slot_place second s.gate + 1) numbers in
          let agrees = piece_agrees image numbers size (written_agrees kept.read (slot_place second s.gate + 1) numbers) in
          stages_on (put second s (record slot { gate = (slot_at second s).gate })) (put_gate second s (record slot { gate = (slot_at second s).gate })) image
          (slot_place second s.gate + 1) (slot_place second s.gate + 25) agrees (omega (arith, slot_before second s.gate))
          (∥∥₁_elim is.keeps.journal (hlevel props) (λ j.
          let st = standing kept.read s old j in
          let inside = long kept.read s old st in
          let gate : get_or kept.read (slot_place second s.gate) 0 ≡ (slot_at second s).gate =
          let none : slot_place second s.gate + 0 ≡ slot_place second s.gate = omega arith in
          sym (ap (λ (n : ℕ). get_or kept.read n 0) none) ∙ sym (get_or-drop (slot_place second s.gate) kept.read 0 0) ∙ ap (λ (o : Slot). o.gate) (slot_here second kept.read s (here kept.read s old st)) in
          let reads : slot_in (drop (slot_place second s.gate) image) ≡ record slot { gate = (slot_at second s).gate } =
          ap (λ (l : List ℕ). slot_in (drop (slot_place second s.gate) (overlay kept.read (slot_place second s.gate + 1) l))) are
          ∙ numbers_written kept.read (slot_place second s.gate) slot (omega (arith, slot_before second s.gate, inside)) fits.number fits.place fits.first
          ∙ ap (λ (g : ℕ). record slot { gate = g }) gate in
          subst (λ (o : Slot). ∥ IsJournal (Some (put second s o)) image old ∥₁) reads (numbers_in image agrees)))

    -- its gate is opened
    module _ (next : IsNextSlot s (slot_at second s) place) where
      opens_in : (image : List ℕ) → Agrees kept.read image (slot_place second s.gate) (slot_place second s.gate + 1) → get_or image (slot_place second s.gate) 0 ≡ open_gate
          → ∥ IsJournal (Some (put second s (record (slot_at second s) { gate = open_gate }))) image payloads ∥₁
      opens_in image agrees opens =
          ∥∥₁_map is.keeps.journal (λ j.
          gate_opened kept.read s old (standing kept.read s old j) second which image payloads is.more agrees opens next.number (omega (arith, is.far, next.place_is)) is.given
          (ap (λ (n : ℕ). drop n kept.read) next.place_is ∙ is.there))

      open_now : (image : List ℕ) → MayBeTorn (slot_place second s.gate) (open_gate ∷ []) kept.read image → get_or image (slot_place second s.gate) 0 ≡ open_gate → StandsFor image payloads
      open_now image torn opens =
          stands (Some (put second s (record (slot_at second s) { gate = open_gate }))) image payloads
          (opens_in image (torn_agrees kept.read (slot_place second s.gate) (open_gate ∷ []) image torn) opens)

      still_shut : (image : List ℕ) → MayBeTorn (slot_place second s.gate) (open_gate ∷ []) kept.read image → get_or image (slot_place second s.gate) 0 ≢ open_gate → StandsFor image old
      still_shut image torn shut =
          let agrees : Agrees kept.read image (slot_place second s.gate) (slot_place second s.gate + 1) = torn_agrees kept.read (slot_place second s.gate) (open_gate ∷ []) image torn in
          stands (Some (put second s (record (slot_at second s) { gate = get_or image (slot_place second s.gate) 0 }))) image old
          (∥∥₁_map is.keeps.journal (λ j. gate_left kept.read s old (standing kept.read s old j) second which image agrees shut))

      pub open_torn : (image : List ℕ) → MayBeTorn (slot_place second s.gate) (open_gate ∷ []) kept.read image → IsEither old payloads image
      open_torn image torn =
          elim (cases_eq (get_or image (slot_place second s.gate) 0) open_gate) [
            | inl opens ↦ inr (open_now image torn opens)
            | inr shut ↦ inl (still_shut image torn shut)
          ]

      -- one of the two calls failed
      pub open_stopped : (fails : ℕ → ℕ → Bool) (left : Kept) → FailsWithin 2 fails → IsTornAt (slot_place second s.gate) (open_gate ∷ []) kept.read left
          → IsMoveStopped 2 fails left old payloads
      open_stopped fails left failed torn = record {
        call = failed.0;
        some = failed.1;
        within = failed.2;
        first = failed.3;
        image = λ fill bytes filled.
            let may_be = torn_image (slot_place second s.gate) (open_gate ∷ []) kept.read left bytes torn (filled_is_image fill left bytes filled) in
            let gate = gate_filled (slot_place second s.gate) open_gate kept.read left fill bytes torn filled in
            elim (cases_eq fill open_gate) [
              | inl opens ↦ subst (StandsFor bytes) (sym (open_is 2 failed.0 fill old payloads (omega (arith, failed.1)) opens)) (open_now bytes may_be (gate ∙ opens))
              | inr shut ↦ subst (StandsFor bytes) (sym (shut_is 2 failed.0 fill old payloads shut)) (still_shut bytes may_be (λ opens. shut (sym gate ∙ opens)))
            ];
      }

      pub open_done : KeepsIn (Some (put second s (record (slot_at second s) { gate = open_gate }))) (at_rest (overlay kept.read (slot_place second s.gate) (open_gate ∷ []))) payloads
      open_done =
          let image = overlay kept.read (slot_place second s.gate) (open_gate ∷ []) in
          keeps_now (Some (put second s (record (slot_at second s) { gate = open_gate }))) image payloads
          (opens_in image (written_agrees kept.read (slot_place second s.gate) (open_gate ∷ [])) (gate_put kept.read (slot_place second s.gate) open_gate))

-- ---- the parts after one another

slot_of_put : (second : Bool) (s : Superblock) (slot : Slot) → slot_at second (put second s slot) ≡ slot
slot_of_put true s slot = refl
slot_of_put false s slot = refl

-- once the slot is shut it is still the one that doesn't count
pub shut_facts : (second : Bool) (s t : Superblock) → second ≡ is_second s → t ≡ with_shut second s → (second ≡ is_second t) × ((slot_at second t).gate ≢ open_gate)
shut_facts second s t which is =
    let slot = record (slot_at second s) { gate = shut_gate (slot_at second s).gate } in
    let shut = shut_is_shut (slot_at second s).gate in
    subst (λ (u : Superblock). (second ≡ is_second u) × ((slot_at second u).gate ≢ open_gate)) (sym is) (
      still_second second s slot which shut,
      λ opens. shut (sym (ap (λ (o : Slot). o.gate) (slot_of_put second s slot)) ∙ opens),
    )

-- and so it is once it has its numbers
pub numbered_facts : (second : Bool) (s t : Superblock) (slot : Slot) → second ≡ is_second s → slot.number ≡ number_after (current s) → t ≡ numbered second s slot
    → (second ≡ is_second t) × IsNextSlot t (slot_at second t) slot.place
numbered_facts second s t slot which next is =
    let new = record slot { gate = shut_gate (slot_at second s).gate } in
    let shut = shut_is_shut (slot_at second s).gate in
    let there = slot_of_put second s new in
    subst (λ (u : Superblock). (second ≡ is_second u) × IsNextSlot u (slot_at second u) slot.place) (sym is) (
      still_second second s new which shut,
      record {
        number = ap (λ (o : Slot). o.number) there ∙ next ∙ ap number_after (sym (current_shut second s new which shut));
        place_is = ap (λ (o : Slot). o.place) there;
      },
    )

put_twice : (second : Bool) (s : Superblock) (one two : Slot) → put second (put second s one) two ≡ put second s two
put_twice true s one two = refl
put_twice false s one two = refl

-- the superblock at the end of a move
pub opened_is : (second : Bool) (s t first : Superblock) (slot : Slot) → second ≡ is_second s → slot.gate ≡ open_gate → t ≡ numbered second s slot → s ≡ first
    → put second t (record (slot_at second t) { gate = open_gate }) ≡ with_slot first slot
opened_is second s t first slot which opens is same =
    let new = record slot { gate = shut_gate (slot_at second s).gate } in
    ap (λ (u : Superblock). put second u (record (slot_at second u) { gate = open_gate })) is
    ∙ ap (λ (o : Slot). put second (put second s new) (record o { gate = open_gate })) (slot_of_put second s new)
    ∙ put_twice second s new (record slot { gate = open_gate })
    ∙ ap (λ (g : ℕ). put second s (record slot { gate = g })) (sym opens)
    ∙ ap (λ (b : Bool). put b s slot) which
    ∙ ap (λ (u : Superblock). with_slot u slot) same

-- where there is a superblock now, the new area goes to the same place
site_ready : (super : Option Superblock) (end size : ℕ) → site super end size ≡ site (Some (superblock_at super end)) (end_ready super end) size
site_ready None end size = omega arith
site_ready (Some s) end size = refl

pub new_area : (super : Option Superblock) (kept after : Kept) (end : ℕ) (old : List (List ℕ)) (slot : Slot) (payloads : List Gathered) (numbers : List ℕ) (lists : List (List ℕ)) (s : Superblock)
    → IsMove super kept end old slot payloads numbers lists → s ≡ superblock_at super end → IsAt (Some (superblock_at super end)) after (end_ready super end) old
    → StaysOutside kept.read after.read end (end + 57) → IsNewArea s after old slot.place payloads lists
new_area super kept after end old slot payloads numbers lists s move is there stays =
    subst (λ (u : Superblock). IsNewArea u after old slot.place payloads lists) (sym is)
    (record {
      end = end_ready super end;
      is_at = there;
      given = move.given;
      goes = move.goes ∙ site_ready super end (area_size lists);
      there = all_ready super end kept.read after.read payloads stays.long move.there;
      are = move.are ∙ sym (all_stay kept.read after.read end (end + 57) stays payloads (all_before_end kept.read super end (end + 57) payloads move.there));
    })

-- a reservation first
pub reserved_in : {D : Type 0} (moment : D → ℕ) (left_since : D → ℕ → List ℕ → Type 0) (before after : D) (super : Option Superblock) (kept same : Kept) (old : List (List ℕ))
    → KeepsIn super kept old → same ≡ kept → ((image : List ℕ) → left_since before (moment before) image → IsImage kept image)
    → Elapses (moment before) (moment after) (left_since before) (left_since after) same → LeavesOnly moment left_since before after (λ image. StandsFor image old)
reserved_in moment left_since before after super kept same old keeps is only time =
    elapsed moment left_since before after same (λ (image : List ℕ). StandsFor image old) (λ image left. rests_in super kept old image keeps (only image left)) time
    (λ image was. rests_in super kept old image keeps (subst (λ (k : Kept). IsImage k image) is was))

-- what is written for a new area
slot_counts : (super : Option Superblock) (end : ℕ) → slot_of super ≡ current (superblock_at super end)
slot_counts None end = refl
slot_counts (Some s) end = refl

pub is_move : (told : Bool) → IsTrue told → (super : Option Superblock) (kept : Kept) (end : ℕ) (old : List (List ℕ)) (slot : Slot) (payloads : List Gathered) (numbers : List ℕ) → KeepsIn super kept old
    → end ≡ end_in super old → AreGiven (gathered told kept.read payloads) → (IsTrue told → All (IsThere kept.read (area_of super end)) payloads)
    → slot ≡ new_slot super end (size_of_area payloads) → numbers ≡ number_bytes slot → Fits slot → IsMove super kept end old slot payloads numbers (gathered told kept.read payloads)
is_move told is_told super kept end old slot payloads numbers keeps ends given there is numbers_are fits =
    let size = size_area told kept.read payloads (all_in told kept.read (area_of super end) payloads there) in
    record {
      is_at = record { keeps = keeps; ends = ends };
      given = given;
      opens = ap (λ (o : Slot). o.gate) is;
      number = ap (λ (o : Slot). o.number) is ∙ ap number_after (slot_counts super end);
      goes = ap (λ (o : Slot). o.place) is ∙ ap (site super end) (sym size);
      there = there is_told;
      are = ap (λ (b : Bool). gathered b kept.read payloads) is_told;
      numbers_are = numbers_are;
      fits = fits;
    }

-- ---- where the journal is once it has moved

located : Option Superblock → ℕ → Located
located super end = record { superblock = super; end = end }

module _ (super : Option Superblock) (end size : ℕ) (slot : Slot) (s : Superblock) (lists : List (List ℕ)) (is : s ≡ with_slot (superblock_at super end) slot) (slot_is : slot ≡ new_slot super end size)
    (long : area_size lists ≡ size) where
  pub located_is : record { superblock = Some s; end = slot.place + (slot.first - 1) } ≡ located_after super end (area_size lists)
  unfolding located
  located_is =
      let last : site super end size + (size - 1) ≡ need_for super end size - 1 = omega (arith, long) in
      ap (λ (u : Superblock). located (Some u) (slot.place + (slot.first - 1))) is
      ∙ ap (λ (o : Slot). located (Some (with_slot (superblock_at super end) o)) (o.place + (o.first - 1))) slot_is
      ∙ ap (λ (n : ℕ). located (Some (moved super end size)) n) last
      ∙ ap (λ (n : ℕ). located_after super end n) (sym long)

  pub ends_is : slot.place + (slot.first - 1) ≡ end_in (Some s) lists
  ends_is =
      let before = superblock_at super end in
      let new = new_slot super end size in
      let counts : current (with_slot before new) ≡ Some new = current_open (is_second before) before new refl refl (ap number_after (slot_counts super end)) in
      let last : site super end size + (size - 1) ≡ site super end size + length (records lists) = omega (arith, long) in
      ap (λ (o : Slot). o.place + (o.first - 1)) slot_is
      ∙ last
      ∙ ap (λ (o : Option Slot). end_by (with_slot before new) o lists) (sym counts)
      ∙ ap (λ (u : Superblock). end_in (Some u) lists) (sym (is ∙ ap (λ (o : Slot). with_slot before o) slot_is))

-- how many calls shut its slot
pub shut_same : (second : Bool) (s first : Superblock) → s ≡ first → second ≡ is_second s → shut_calls (slot_at second s).gate ≡ shut_calls (slot_at (is_second first) first).gate
shut_same second s first same which =
    ap (λ (b : Bool). shut_calls (slot_at b s).gate) which ∙ ap (λ (u : Superblock). shut_calls (slot_at (is_second u) u).gate) same
