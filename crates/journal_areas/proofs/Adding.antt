-- What a journal without a superblock stands for while one is appended, and where a new area goes.
use Rattle.std.proofs.Common.{◌≡◌, ◌≢◌, ◌⊎◌, inl, inr, ⊎_elim, ℕ, ◌+◌, ◌-◌, ◌<◌, ◌≤◌, nat_le, if◌then◌else◌, Option, Some, None, List, [], ◌∷◌, ◌++◌, length, take, drop, get_or, refl, sym, ◌∙◌, ap, arith, append_assoc, length-append, length-drop, take-append-drop}
use Rattle.std.proofs.lemmas.List.{drop_more, take_at, append-nil, get_or-append_right}
use Rattle.std.proofs.lemmas.Bool.{cases_Bool, cond-true, cond-false, leb-true}
use Rattle.xt_base.specs.Overlay.{overlay}
use Rattle.journal_areas.specs.declared.superblock.Slot.{Slot}
use Rattle.journal_areas.specs.declared.superblock.Superblock.{Superblock}
use Rattle.journal_areas.specs.Format.{open_gate, header, records, record_of, end_of, AreGiven}
use Rattle.journal_areas.specs.Superblocks.{superblock_bytes, base_of, current}
use Rattle.journal_areas.specs.Areas.{IsJournal, end_in}
use Rattle.journal_areas.specs.Sites.{shut_slot, superblock_at, fits_below, site}
use Rattle.journal_areas.proofs.Moving.{Agrees, written_agrees, written_there, slice_same, Standing}

-- ---- appending the superblock

-- the bytes up to the gate at which the journal ends
before : List (List ℕ) → List ℕ
before old = header ++ records old

length-before : (old : List (List ℕ)) → length (before old) ≡ end_of old
unfolding before
length-before old = length-append header (records old)

-- the record of a superblock whose slots are shut, and the gate after it
abbrev pub new_record : List ℕ
new_record = record_of (superblock_bytes shut_slot shut_slot) ++ 0 ∷ []

module _ (bytes : List ℕ) (old : List (List ℕ)) (rest : List ℕ) (are : bytes ≡ header ++ (records old ++ rest)) (some : 1 ≤ length rest) where
  split : bytes ≡ before old ++ rest
  unfolding before
  split = are ∙ sym (append_assoc header (records old) rest)

  pub inside : end_of old < length bytes
  inside = omega (arith, ap length split, length-before old, length-append (before old) rest, some)

  -- a write from that gate on leaves what comes before it
  pub cut_at : (image : List ℕ) (lo hi : ℕ) → Agrees bytes image lo hi → end_of old ≤ lo
      → image ≡ header ++ (records old ++ get_or image (end_of old) 0 ∷ drop (end_of old + 1) image)
  unfolding before
  cut_at image lo hi agrees after =
      let end = end_of old in
      let start : take end image ≡ take end bytes =
      slice_same bytes image 0 end (omega (arith, inside)) (omega (arith, inside, agrees.long)) (λ k from less. agrees.same k (omega (arith, less, inside)) (inl (omega (arith, less, after)))) in
      sym (take-append-drop end image)
      ∙ ap (λ (l : List ℕ). l ++ drop end image) (start ∙ ap (λ (l : List ℕ). take end l) split ∙ take_at (before old) rest end (length-before old))
      ∙ ap (λ (l : List ℕ). before old ++ l) (drop_more image end 0 (omega (arith, inside, agrees.long)))
      ∙ append_assoc header (records old) (get_or image end 0 ∷ drop (end + 1) image)

-- with a gate that isn't open, the journal ends there
ends_there : (image : List ℕ) (old : List (List ℕ)) (gate : ℕ) (rest : List ℕ) → AreGiven old → gate ≢ open_gate → image ≡ header ++ (records old ++ gate ∷ rest) → IsJournal None image old
ends_there image old gate rest given shut are = record { gate = gate; rest = rest; shut = shut; reached = record { given = given; are = are } }

-- after an open one comes the superblock
has_new : (image : List ℕ) (old : List (List ℕ)) (more : List ℕ) → AreGiven old → image ≡ header ++ (records old ++ open_gate ∷ (record_of (superblock_bytes shut_slot shut_slot) ++ 0 ∷ more))
    → IsJournal (Some (superblock_at None (end_of old))) image old
has_new image old more given are = record {
  gate = 0;
  rest = more;
  shut = omega arith;
  reached = inl (record {
    before = old;
    after = [];
    has = record {
      plain = given;
      payload = superblock_bytes shut_slot shut_slot;
      kind = refl;
      size = refl;
      says = refl;
      sound = record { one = λ opens. absurd (omega (arith, opens)); two = λ opens. absurd (omega (arith, opens)); differ = λ one two. absurd (omega (arith, one)) };
      some = omega arith;
      are = are;
    };
    none = refl;
    given = λ k d inside. absurd (omega (arith, inside));
    all = sym (append-nil old);
  });
}

module _ (bytes : List ℕ) (old : List (List ℕ)) (is : IsJournal None bytes old) where
  -- while its record is written after the last gate, nothing changes
  pub not_yet : (image : List ℕ) (hi : ℕ) → Agrees bytes image (end_of old + 1) hi → IsJournal None image old
  unfolding before
  not_yet image hi agrees =
      let at = cut_at bytes old (is.gate ∷ is.rest) is.reached.are (omega arith) image (end_of old + 1) hi agrees (omega arith) in
      let end = end_of old in
      let within = inside bytes old (is.gate ∷ is.rest) is.reached.are (omega arith) in
      let none : end - end ≡ 0 = omega arith in
      let was : get_or bytes end 0 ≡ is.gate =
      ap (λ (l : List ℕ). get_or l end 0) (split bytes old (is.gate ∷ is.rest) is.reached.are (omega arith))
      ∙ get_or-append_right (before old) (is.gate ∷ is.rest) end end 0 (length-before old) (omega arith)
      ∙ ap (λ (n : ℕ). get_or (is.gate ∷ is.rest) n 0) none in
      let stays : get_or image end 0 ≡ is.gate = agrees.same end within (inl (omega arith)) ∙ was in
      ends_there image old (get_or image end 0) (drop (end + 1) image) is.reached.given (λ opens. is.shut (sym stays ∙ opens)) at

  -- once it is written, the gate before it makes the difference
  module _ (image : List ℕ) (agrees : Agrees (overlay bytes (end_of old + 1) new_record) image (end_of old) (end_of old + 1)) where
    written : List ℕ
    written = overlay bytes (end_of old + 1) new_record

    first : Agrees bytes (overlay bytes (end_of old + 1) new_record) (end_of old + 1) (end_of old + 1 + length new_record)
    first = written_agrees bytes (end_of old + 1) new_record

    same_start : overlay bytes (end_of old + 1) new_record
        ≡ header ++ (records old ++ get_or (overlay bytes (end_of old + 1) new_record) (end_of old) 0 ∷ drop (end_of old + 1) (overlay bytes (end_of old + 1) new_record))
    same_start =
        cut_at bytes old (is.gate ∷ is.rest) is.reached.are (omega arith) (overlay bytes (end_of old + 1) new_record) (end_of old + 1) (end_of old + 1 + length new_record) first (omega arith)

    at_gate : image ≡ header ++ (records old ++ get_or image (end_of old) 0 ∷ drop (end_of old + 1) image)
    at_gate =
        let new = overlay bytes (end_of old + 1) new_record in
        cut_at new old (get_or new (end_of old) 0 ∷ drop (end_of old + 1) new) same_start (omega arith) image (end_of old) (end_of old + 1) agrees (omega arith)

    pub still_none : get_or image (end_of old) 0 ≢ open_gate → IsJournal None image old
    still_none shut = ends_there image old (get_or image (end_of old) 0) (drop (end_of old + 1) image) is.reached.given shut at_gate

    pub has_one : get_or image (end_of old) 0 ≡ open_gate → IsJournal (Some (superblock_at None (end_of old))) image old
    has_one opens =
        let end = end_of old in
        let new = overlay bytes (end + 1) new_record in
        let more = drop 56 (drop (end + 1) image) in
        let there = written_there bytes (end + 1) new_record in
        let long : end + 1 + 56 ≤ length new =
        omega (arith, ap length there, length-drop (end + 1) new, length-append new_record (drop (end + 1 + length new_record) bytes)) in
        let stays : take 56 (drop (end + 1) image) ≡ new_record =
        slice_same new image (end + 1) 56 long (omega (arith, long, agrees.long)) (λ k from less. agrees.same k (omega (arith, less, long)) (inr from))
        ∙ ap (λ (l : List ℕ). take 56 l) there ∙ take_at new_record (drop (end + 1 + length new_record) bytes) 56 refl in
        has_new image old more is.reached.given
        (at_gate
        ∙ ap (λ (g : ℕ). header ++ (records old ++ g ∷ drop (end + 1) image)) opens
        ∙ ap (λ (l : List ℕ). header ++ (records old ++ open_gate ∷ l))
        (sym (take-append-drop 56 (drop (end + 1) image)) ∙ ap (λ (l : List ℕ). l ++ more) stays ∙ append_assoc (record_of (superblock_bytes shut_slot shut_slot)) (0 ∷ []) more))

-- ---- where a new area goes

site_by : (base end size : ℕ) (c : Option Slot) (start : ℕ) → ((slot : Slot) → c ≡ Some slot → slot.place ≡ start) → (place : ℕ) → place ≡ (if fits_below base c size then base else end + 1)
    → ((place ≡ base) × (base + size ≤ start)) ⊎ (place ≡ end + 1)
site_by base end size None start at place is = inr is
site_by base end size (Some slot) start at place is =
    ⊎_elim (λ yes. inl (is ∙ cond-true _ _ _ yes, omega (arith, leb-true (base + size) slot.place yes, at slot refl))) (λ no. inr (is ∙ cond-false _ _ _ no)) (cases_Bool (nat_le (base + size) slot.place))

-- below the current area, or after its last gate
pub site_away : (bytes : List ℕ) (s : Superblock) (old : List (List ℕ)) (st : Standing bytes s old) (end size place : ℕ) → end ≡ end_in (Some s) old → place ≡ site (Some s) end size
    → (base_of s ≤ place) × ((place + size ≤ st.start) ⊎ (st.start + length (records st.list) < place))
site_away bytes s old st end size place is_end is_place =
    ⊎_elim
    (λ below. (omega (arith, below.0), inl (omega (arith, below.0, below.1))))
    (λ above. (omega (arith, above, is_end, st.ends, st.far), inr (omega (arith, above, is_end, st.ends))))
    (site_by (base_of s) end size (current s) st.start st.place place is_place)
