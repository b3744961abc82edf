-- What a journal with a superblock stands for, once something was written where nothing counts, or a slot of it.
use Rattle.std.proofs.Common.{◌≡◌, ◌≢◌, ◌⊎◌, inl, inr, ⊎_elim, ℕ, suc, zero, ◌+◌, ◌-◌, ◌*◌, ◌^◌, ◌<◌, ◌≤◌, Bool, true, false, Option, Some, List, [], ◌∷◌, ◌++◌, length, take, drop, get_or, refl, sym, ◌∙◌, ap, subst, arith, append_assoc, length-append, length-drop, length-take, take-append-drop}
use Rattle.std.specs.Prelude.{slice_index}
use Rattle.std.proofs.lemmas.List.{get_or-take, get_or-drop, length-take-le, drop_more, drop-drop, take_at, drop_at, length-replicate}
use Rattle.std.proofs.lemmas.Bool.{and_from, and_left, and_right, not_from_false, or_from, lt-leb, le-ltb, lt-ltb}
use Rattle.std.proofs.lemmas.Grind.{same_number_lists}
use Rattle.byteorder.specs.Endian.{big_bytes, big_number, big_from}
use Rattle.byteorder.specs.Numbers.{big_number-reads_back, length-bytes_high_first}
use Rattle.xt_base.specs.Overlay.{overlay, zeros}
use Rattle.disk_model.specs.Disk.{is_inside, range_of}
use Rattle.disk_model.specs.Laws.{length-overlay, overlay_outside}
use Rattle.journal_records.specs.Calls.{MayBeTorn}
use Rattle.journal_areas.specs.declared.superblock.Slot.{Slot}
use Rattle.journal_areas.specs.declared.superblock.Superblock.{Superblock}
use Rattle.journal_areas.specs.Format.{open_gate, header, records, record_of, end_of, AreGiven}
use Rattle.journal_areas.specs.Superblocks.{slot_in, number_bytes, superblock_in, current, base_of, IsSound}
use Rattle.journal_areas.specs.Areas.{HasSuperblock, IsUnmoved, IsMoved, IsJournal, end_by, end_in}
use Rattle.journal_areas.specs.Sites.{put, slot_at, slot_place, is_second, number_after}
use Rattle.journal_areas.proofs.Slots.{counts_site, sound_longer, current_shut, sound_shut, current_open, sound_open}

-- ---- lists that agree outside a range

-- the bytes of one list are those of the other, but for a range; and it is no shorter
pub record Agrees (bytes image : List ℕ) (lo hi : ℕ) : Type 0 where
  pub long : length bytes ≤ length image
  pub same : (k : ℕ) → k < length bytes → (k < lo) ⊎ (hi ≤ k) → get_or image k 0 ≡ get_or bytes k 0

-- what a crash leaves while a piece is written
pub torn_agrees : (bytes : List ℕ) (at : ℕ) (piece image : List ℕ) → MayBeTorn at piece bytes image → Agrees bytes image at (at + length piece)
torn_agrees bytes at piece image is = record { long = is.no_shorter; same = same }
  where
    outside : (k : ℕ) → (k < at) ⊎ (at + length piece ≤ k) → is_inside k (range_of at piece) ≡ false
    outside k (inl before) = and_left _ _ (lt-leb at k before)
    outside k (inr past) = and_right _ _ (le-ltb k (at + length piece) past)

    same : (k : ℕ) → k < length bytes → (k < at) ⊎ (at + length piece ≤ k) → get_or image k 0 ≡ get_or bytes k 0
    same k inside out = is.same k (and_from _ _ (lt-ltb k (length bytes) inside) (not_from_false _ (or_from _ _ (outside k out) refl)))

-- and once it is written
pub written_agrees : (bytes : List ℕ) (at : ℕ) (piece : List ℕ) → Agrees bytes (overlay bytes at piece) at (at + length piece)
written_agrees bytes at piece = record {
  long = omega (arith, length-overlay at piece bytes);
  same = λ k inside out. overlay_outside at piece bytes k inside out;
}

-- from its place on stands then the piece
pub written_there : (bytes : List ℕ) (at : ℕ) (piece : List ℕ) → drop at (overlay bytes at piece) ≡ piece ++ drop (at + length piece) bytes
written_there bytes at piece =
    let front = take at bytes ++ zeros (at - length bytes) in
    let size : length front ≡ at = omega (arith, length-append (take at bytes) (zeros (at - length bytes)), length-take at bytes, length-replicate {A = ℕ} (at - length bytes) 0) in
    ap (λ (l : List ℕ). drop at l) (append_assoc front piece (drop (at + length piece) bytes)) ∙ drop_at front (piece ++ drop (at + length piece) bytes) at size

pub slice_same : (bytes image : List ℕ) (a n : ℕ) → a + n ≤ length bytes → a + n ≤ length image → ((k : ℕ) → a ≤ k → k < a + n → get_or image k 0 ≡ get_or bytes k 0)
    → take n (drop a image) ≡ take n (drop a bytes)
slice_same bytes image a n here there same =
    let one : length (take n (drop a image)) ≡ n = length-take-le n (drop a image) (omega (arith, there, length-drop a image)) in
    let two : length (take n (drop a bytes)) ≡ n = length-take-le n (drop a bytes) (omega (arith, here, length-drop a bytes)) in
    same_number_lists (take n (drop a image)) (take n (drop a bytes)) (one ∙ sym two)
    (λ k inside.
    let less : k < n = omega (arith, inside, one) in
    get_or-take n (drop a image) k 0 less
    ∙ get_or-drop a image k 0
    ∙ same (a + k) (omega arith) (omega (arith, less))
    ∙ sym (get_or-drop a bytes k 0)
    ∙ sym (get_or-take n (drop a bytes) k 0 less))

-- the records from a place on stay with the gate after them, where the range lies elsewhere
pub records_stay : (bytes image : List ℕ) (lo hi a : ℕ) (list : List (List ℕ)) (gate : ℕ) (more : List ℕ) → Agrees bytes image lo hi → drop a bytes ≡ records list ++ gate ∷ more
    → (hi ≤ a) ⊎ (a + length (records list) < lo) → drop a image ≡ records list ++ gate ∷ drop (length (records list) + 1) (drop a image)
records_stay bytes image lo hi a list gate more agrees are away =
    let n = length (records list) + 1 in
    let long : a + n ≤ length bytes = omega (arith, ap length are, length-drop a bytes, length-append (records list) (gate ∷ more)) in
    let size : length (records list ++ gate ∷ []) ≡ n = length-append (records list) (gate ∷ []) in
    let front : take n (drop a bytes) ≡ records list ++ gate ∷ [] =
    ap (λ (l : List ℕ). take n l) (are ∙ sym (append_assoc (records list) (gate ∷ []) more)) ∙ take_at (records list ++ gate ∷ []) more n size in
    let stay : take n (drop a image) ≡ take n (drop a bytes) =
    slice_same bytes image a n long (omega (arith, long, agrees.long))
    (λ k from less. agrees.same k (omega (arith, less, long)) (⊎_elim (λ past. inr (omega (arith, past, from))) (λ before. inl (omega (arith, before, less))) away)) in
    sym (take-append-drop n (drop a image)) ∙ ap (λ (l : List ℕ). l ++ drop n (drop a image)) (stay ∙ front) ∙ append_assoc (records list) (gate ∷ []) (drop n (drop a image))

-- ---- what a superblock's bytes say

big_same : (n i : ℕ) (xs ys : List ℕ) → ((k : ℕ) → i ≤ k → k < i + n → slice_index xs k ≡ slice_index ys k) → big_from i n xs ≡ big_from i n ys
big_same zero i xs ys same = refl
big_same (suc n) i xs ys same =
    ap (λ (x : ℕ). x * 256 ^ n + big_from (suc i) n xs) (same i (omega arith) (omega arith))
    ∙ ap (λ (x : ℕ). slice_index ys i * 256 ^ n + x) (big_same n (suc i) xs ys (λ k from less. same k (omega (arith, from)) (omega (arith, less))))

number_same : (at : ℕ) (xs ys : List ℕ) → ((k : ℕ) → at ≤ k → k < at + 8 → get_or xs k 0 ≡ get_or ys k 0) → big_number 8 (drop at xs) ≡ big_number 8 (drop at ys)
number_same at xs ys same =
    big_same 8 0 (drop at xs) (drop at ys) (λ k from less. get_or-drop at xs k 0 ∙ same (at + k) (omega arith) (omega (arith, less)) ∙ sym (get_or-drop at ys k 0))

-- a slot of its four parts
slot_of_parts : (gate number place first : ℕ) → Slot
slot_of_parts gate number place first = record { gate = gate; number = number; place = place; first = first }

same_slots : (g g2 n n2 p p2 f f2 : ℕ) → g ≡ g2 → n ≡ n2 → p ≡ p2 → f ≡ f2 → slot_of_parts g n p f ≡ slot_of_parts g2 n2 p2 f2
same_slots g g2 n n2 p p2 f f2 a b c d = cc (a, b, c, d)

-- the numbers that a slot says go by its bytes after the gate
numbers_same : (xs ys : List ℕ) → ((k : ℕ) → 1 ≤ k → k < 25 → get_or xs k 0 ≡ get_or ys k 0) → slot_in xs ≡ record (slot_in ys) { gate = slice_index xs 0 }
unfolding slot_of_parts
numbers_same xs ys same =
    same_slots (slice_index xs 0) (slice_index xs 0) (big_number 8 (drop 1 xs)) (big_number 8 (drop 1 ys)) (big_number 8 (drop 9 xs)) (big_number 8 (drop 9 ys))
    (big_number 8 (drop 17 xs)) (big_number 8 (drop 17 ys)) refl
    (number_same 1 xs ys (λ k from less. same k from (omega (arith, less))))
    (number_same 9 xs ys (λ k from less. same k (omega (arith, from)) (omega (arith, less))))
    (number_same 17 xs ys (λ k from less. same k (omega (arith, from)) (omega (arith, less))))

slot_same : (xs ys : List ℕ) → ((k : ℕ) → k < 25 → get_or xs k 0 ≡ get_or ys k 0) → slot_in xs ≡ slot_in ys
slot_same xs ys same = numbers_same xs ys (λ k some less. same k less) ∙ ap (λ (g : ℕ). record (slot_in ys) { gate = g }) (same 0 (omega arith))

-- what the slots say, whose superblock's record has its gate at this place
pub said : ℕ → List ℕ → Superblock
said gate bytes = record { gate = gate; one = slot_in (drop (gate + 6) bytes); two = slot_in (drop (gate + 31) bytes) }

payload_at : ℕ → List ℕ → List ℕ
payload_at gate bytes = take 51 (drop (gate + 5) bytes)

part_said : (gate n : ℕ) (bytes : List ℕ) → n + 25 ≤ 51 → slot_in (drop n (payload_at gate bytes)) ≡ slot_in (drop (gate + 5 + n) bytes)
unfolding payload_at
part_said gate n bytes fits =
    slot_same (drop n (payload_at gate bytes)) (drop (gate + 5 + n) bytes)
    (λ k less.
    let there : gate + 5 + (n + k) ≡ gate + 5 + n + k = omega arith in
    get_or-drop n (payload_at gate bytes) k 0
    ∙ get_or-take 51 (drop (gate + 5) bytes) (n + k) 0 (omega (arith, less, fits))
    ∙ get_or-drop (gate + 5) bytes (n + k) 0
    ∙ ap (λ (i : ℕ). get_or bytes i 0) there
    ∙ sym (get_or-drop (gate + 5 + n) bytes k 0))

payload_says : (gate : ℕ) (bytes : List ℕ) → superblock_in gate (payload_at gate bytes) ≡ said gate bytes
unfolding said
payload_says gate bytes =
    let six : gate + 5 + 1 ≡ gate + 6 = omega arith in
    let more : gate + 5 + 26 ≡ gate + 31 = omega arith in
    let one : slot_in (drop 1 (payload_at gate bytes)) ≡ slot_in (drop (gate + 6) bytes) = part_said gate 1 bytes (omega arith) ∙ ap (λ (i : ℕ). slot_in (drop i bytes)) six in
    let two : slot_in (drop 26 (payload_at gate bytes)) ≡ slot_in (drop (gate + 31) bytes) = part_said gate 26 bytes (omega arith) ∙ ap (λ (i : ℕ). slot_in (drop i bytes)) more in
    ap (λ (s : Slot). record { gate = gate; one = s; two = slot_in (drop 26 (payload_at gate bytes)) }) one
    ∙ ap (λ (s : Slot). record { gate = gate; one = slot_in (drop (gate + 6) bytes); two = s }) two

-- the bytes up to a superblock's payload
front : List (List ℕ) → List ℕ
front before = header ++ (records before ++ open_gate ∷ big_bytes 4 51)

length-front : (before : List (List ℕ)) → length (front before) ≡ end_of before + 5
unfolding front
length-front before =
    omega (arith, length-append header (records before ++ open_gate ∷ big_bytes 4 51), length-append (records before) (open_gate ∷ big_bytes 4 51), length-bytes_high_first 4 51)

grouped : (before : List (List ℕ)) (payload rest : List ℕ) → length payload ≡ 51
    → header ++ (records before ++ open_gate ∷ (record_of payload ++ rest)) ≡ front before ++ (payload ++ rest)
unfolding front
grouped before payload rest size =
    ap (λ (n : ℕ). header ++ (records before ++ open_gate ∷ ((big_bytes 4 n ++ payload) ++ rest))) size
    ∙ ap (λ (l : List ℕ). header ++ (records before ++ open_gate ∷ l)) (append_assoc (big_bytes 4 51) payload rest)
    ∙ ap (λ (l : List ℕ). header ++ l) (sym (append_assoc (records before) (open_gate ∷ big_bytes 4 51) (payload ++ rest)))
    ∙ sym (append_assoc header (records before ++ open_gate ∷ big_bytes 4 51) (payload ++ rest))

module _ (bytes : List ℕ) (s : Superblock) (before : List (List ℕ)) (rest : List ℕ) (has : HasSuperblock bytes s before rest) where
  parted : bytes ≡ front before ++ (has.payload ++ rest)
  parted = has.are ∙ grouped before has.payload rest has.size

  pub gate_is : s.gate ≡ end_of before
  gate_is = ap (λ (b : Superblock). b.gate) has.says

  pub long_enough : s.gate + 57 ≤ length bytes
  long_enough = omega (arith, ap length parted, gate_is, length-front before, length-append (front before) (has.payload ++ rest), length-append has.payload rest, has.size, has.some)

  payload_is : has.payload ≡ payload_at (end_of before) bytes
  unfolding payload_at
  payload_is =
      sym (take_at has.payload rest 51 has.size)
      ∙ ap (λ (l : List ℕ). take 51 l)
      (sym (drop_at (front before) (has.payload ++ rest) (end_of before + 5) (length-front before)) ∙ ap (λ (l : List ℕ). drop (end_of before + 5) l) (sym parted))

  -- its slots are what the bytes say
  pub is_said : s ≡ said s.gate bytes
  is_said =
      has.says ∙ ap (λ (l : List ℕ). superblock_in (end_of before) l) payload_is ∙ payload_says (end_of before) bytes ∙ ap (λ (g : ℕ). said g bytes) (sym gate_is)

  pub rest_there : drop (s.gate + 56) bytes ≡ rest
  rest_there =
      let size : length (front before ++ has.payload) ≡ s.gate + 56 = omega (arith, length-append (front before) has.payload, length-front before, has.size, gate_is) in
      ap (λ (l : List ℕ). drop (s.gate + 56) l) (parted ∙ sym (append_assoc (front before) has.payload rest)) ∙ drop_at (front before ++ has.payload) rest (s.gate + 56) size

  -- a write after the superblock's first bytes leaves it where it is
  pub has_in : (image : List ℕ) (lo hi : ℕ) → Agrees bytes image lo hi → s.gate + 6 ≤ lo → IsSound (length image) (said s.gate image)
      → HasSuperblock image (said s.gate image) before (drop (s.gate + 56) image)
  unfolding payload_at
  has_in image lo hi agrees after sound =
      let g = end_of before in
      let long : s.gate + 57 ≤ length image = omega (arith, long_enough, agrees.long) in
      let payload = payload_at g image in
      let size : length payload ≡ 51 = length-take-le 51 (drop (g + 5) image) (omega (arith, long, gate_is, length-drop (g + 5) image)) in
      let start : take (g + 5) image ≡ take (g + 5) bytes =
      slice_same bytes image 0 (g + 5) (omega (arith, long_enough, gate_is)) (omega (arith, long, gate_is))
      (λ k from less. agrees.same k (omega (arith, less, long_enough, gate_is)) (inl (omega (arith, less, after, gate_is)))) in
      let there : drop 51 (drop (g + 5) image) ≡ drop (s.gate + 56) image =
      let is : (g + 5) + 51 ≡ s.gate + 56 = omega (arith, gate_is) in drop-drop 51 (g + 5) image ∙ ap (λ (n : ℕ). drop n image) is in
      record {
        plain = has.plain;
        payload = payload;
        kind =
            let at : g + 5 + 0 ≡ g + 5 = omega arith in
            get_or-take 51 (drop (g + 5) image) 0 0 (omega arith)
            ∙ get_or-drop (g + 5) image 0 0
            ∙ agrees.same (g + 5 + 0) (omega (arith, long_enough, gate_is)) (inl (omega (arith, after, gate_is)))
            ∙ sym (get_or-drop (g + 5) bytes 0 0)
            ∙ sym (get_or-take 51 (drop (g + 5) bytes) 0 0 (omega arith))
            ∙ ap (λ (l : List ℕ). slice_index l 0) (sym payload_is)
            ∙ has.kind;
        size = size;
        says = ap (λ (n : ℕ). said n image) gate_is ∙ sym (payload_says g image);
        sound = sound;
        some = omega (arith, long, length-drop (s.gate + 56) image);
        are =
            sym (take-append-drop (g + 5) image)
            ∙ ap (λ (l : List ℕ). l ++ drop (g + 5) image)
            (start ∙ ap (λ (l : List ℕ). take (g + 5) l) parted ∙ take_at (front before) (has.payload ++ rest) (g + 5) (length-front before))
            ∙ ap (λ (l : List ℕ). front before ++ l) (sym (take-append-drop 51 (drop (g + 5) image)) ∙ ap (λ (l : List ℕ). payload ++ l) there)
            ∙ sym (grouped before payload (drop (s.gate + 56) image) size);
      }

-- ---- what such a journal stands for

pub records-append : (first last : List (List ℕ)) → length (records (first ++ last)) ≡ length (records first) + length (records last)
records-append [] last = omega arith
records-append (p ∷ first) last =
    omega (arith, records-append first last, length-append (record_of p) (records (first ++ last)), length-append (record_of p) (records first))

-- The records that come last, from a place on, up to a gate that isn't open. What they and the superblock say is what the journal stands for.
pub record Standing (bytes : List ℕ) (s : Superblock) (old : List (List ℕ)) : Type 0 where
  pub before : List (List ℕ)
  pub rest : List ℕ
  pub has : HasSuperblock bytes s before rest
  pub start : ℕ
  pub list : List (List ℕ)
  pub gate : ℕ
  pub more : List ℕ
  pub shut : gate ≢ open_gate
  pub far : s.gate + 56 ≤ start
  pub area : drop start bytes ≡ records list ++ gate ∷ more
  pub ends : end_in (Some s) old ≡ start + length (records list)
  pub place : (slot : Slot) → current s ≡ Some slot → slot.place ≡ start
  pub again : (image : List ℕ) (t : Superblock) (rest2 : List ℕ) → HasSuperblock image t before (drop (s.gate + 56) image) → current t ≡ current s
      → drop start image ≡ records list ++ gate ∷ rest2 → IsJournal (Some t) image old

module _ (bytes : List ℕ) (s : Superblock) (old : List (List ℕ)) (gate : ℕ) (rest : List ℕ) (shut : gate ≢ open_gate) where
  unmoved : IsUnmoved bytes s old (gate ∷ rest) → Standing bytes s old
  unmoved is = record {
    before = is.before;
    rest = records is.after ++ gate ∷ rest;
    has = is.has;
    start = s.gate + 56;
    list = is.after;
    gate = gate;
    more = rest;
    shut = shut;
    far = omega arith;
    area = rest_there bytes s is.before (records is.after ++ gate ∷ rest) is.has;
    ends =
        ap (λ (c : Option Slot). end_by s c old) is.none
        ∙ omega (arith, ap (λ (l : List (List ℕ)). length (records l)) is.all, records-append is.before is.after, gate_is bytes s is.before (records is.after ++ gate ∷ rest) is.has);
    place = λ slot counts. absurd (cc (is.none, counts));
    again = λ image t rest2 has same there. record {
      gate = gate;
      rest = rest2;
      shut = shut;
      reached = inl (record {
        before = is.before;
        after = is.after;
        has = subst (λ (l : List ℕ). HasSuperblock image t is.before l) there has;
        none = same ∙ is.none;
        given = is.given;
        all = is.all;
      });
    };
  }

  moved_there : IsMoved bytes s old (gate ∷ rest) → Standing bytes s old
  moved_there is = record {
    before = is.before;
    rest = is.between;
    has = is.has;
    start = is.slot.place;
    list = old;
    gate = gate;
    more = rest;
    shut = shut;
    far = omega (arith, (counts_site (length bytes) s is.slot is.has.sound is.counts).0);
    area = is.are;
    ends = ap (λ (c : Option Slot). end_by s c old) is.counts;
    place = λ slot counts. cc (is.counts, counts);
    again = λ image t rest2 has same there. record {
      gate = gate;
      rest = rest2;
      shut = shut;
      reached = inr (record {
        before = is.before;
        between = drop (s.gate + 56) image;
        has = has;
        slot = is.slot;
        counts = same ∙ is.counts;
        given = is.given;
        are = there;
      });
    };
  }

pub standing : (bytes : List ℕ) (s : Superblock) (old : List (List ℕ)) → IsJournal (Some s) bytes old → Standing bytes s old
standing bytes s old is = ⊎_elim (unmoved bytes s old is.gate is.rest is.shut) (moved_there bytes s old is.gate is.rest is.shut) is.reached

module _ (bytes : List ℕ) (s : Superblock) (old : List (List ℕ)) (st : Standing bytes s old) (image : List ℕ) (lo hi : ℕ) (agrees : Agrees bytes image lo hi) (after : s.gate + 6 ≤ lo)
    (sound : IsSound (length image) (said s.gate image)) where
  -- a write that leaves the records which count, and which slot counts
  pub stays : (hi ≤ st.start) ⊎ (st.start + length (records st.list) < lo) → current (said s.gate image) ≡ current s → IsJournal (Some (said s.gate image)) image old
  stays away same =
      st.again image (said s.gate image) (drop (length (records st.list) + 1) (drop st.start image)) (has_in bytes s st.before st.rest st.has image lo hi agrees after sound) same
      (records_stay bytes image lo hi st.start st.list st.gate st.more agrees st.area away)

  -- a slot that counts from now on
  pub goes_over : (payloads : List (List ℕ)) (slot : Slot) (more : List ℕ) → AreGiven payloads → current (said s.gate image) ≡ Some slot → drop slot.place image ≡ records payloads ++ 0 ∷ more
      → IsJournal (Some (said s.gate image)) image payloads
  goes_over payloads slot more given counts there = record {
    gate = 0;
    rest = more;
    shut = omega arith;
    reached = inr (record {
      before = st.before;
      between = drop (s.gate + 56) image;
      has = has_in bytes s st.before st.rest st.has image lo hi agrees after sound;
      slot = slot;
      counts = counts;
      given = given;
      are = there;
    });
  }

-- ---- one slot's bytes

-- a slot away from the range is as it was
other : (bytes image : List ℕ) (lo hi at : ℕ) → Agrees bytes image lo hi → at + 25 ≤ length bytes → (at + 25 ≤ lo) ⊎ (hi ≤ at) → slot_in (drop at image) ≡ slot_in (drop at bytes)
other bytes image lo hi at agrees inside away =
    slot_same (drop at image) (drop at bytes)
    (λ k less.
    get_or-drop at image k 0
    ∙ agrees.same (at + k) (omega (arith, less, inside)) (⊎_elim (λ below. inl (omega (arith, below, less))) (λ above. inr (omega (arith, above))) away)
    ∙ sym (get_or-drop at bytes k 0))

-- a write after the superblock's record leaves it
pub unwritten : (bytes : List ℕ) (s : Superblock) → s ≡ said s.gate bytes → s.gate + 57 ≤ length bytes → (image : List ℕ) (lo hi : ℕ) → Agrees bytes image lo hi → s.gate + 56 ≤ lo
    → said s.gate image ≡ s
unfolding said
unwritten bytes s is long image lo hi agrees from =
    ap (λ (o : Slot). record { gate = s.gate; one = o; two = slot_in (drop (s.gate + 31) image) })
    (other bytes image lo hi (s.gate + 6) agrees (omega (arith, long)) (inl (omega (arith, from))))
    ∙ ap (λ (o : Slot). record { gate = s.gate; one = slot_in (drop (s.gate + 6) bytes); two = o })
    (other bytes image lo hi (s.gate + 31) agrees (omega (arith, long)) (inl (omega (arith, from))))
    ∙ sym is

-- a write in one slot's bytes leaves the other one
pub slot_written : (second : Bool) (bytes : List ℕ) (s : Superblock) → s ≡ said s.gate bytes → s.gate + 57 ≤ length bytes → (image : List ℕ) (lo hi : ℕ) → Agrees bytes image lo hi
    → slot_place second s.gate ≤ lo → hi ≤ slot_place second s.gate + 25 → said s.gate image ≡ put second s (slot_in (drop (slot_place second s.gate) image))
unfolding said
slot_written true bytes s is long image lo hi agrees from until =
    ap (λ (o : Slot). record { gate = s.gate; one = o; two = slot_in (drop (s.gate + 31) image) })
    (other bytes image lo hi (s.gate + 6) agrees (omega (arith, long)) (inl (omega (arith, from))) ∙ ap (λ (b : Superblock). b.one) (sym is))
slot_written false bytes s is long image lo hi agrees from until =
    ap (λ (o : Slot). record { gate = s.gate; one = slot_in (drop (s.gate + 6) image); two = o })
    (other bytes image lo hi (s.gate + 31) agrees (omega (arith, long)) (inr (omega (arith, until))) ∙ ap (λ (b : Superblock). b.two) (sym is))

-- what a slot is read from
pub slot_here : (second : Bool) (bytes : List ℕ) (s : Superblock) → s ≡ said s.gate bytes → slot_in (drop (slot_place second s.gate) bytes) ≡ slot_at second s
unfolding said
slot_here true bytes s is = ap (λ (b : Superblock). b.two) (sym is)
slot_here false bytes s is = ap (λ (b : Superblock). b.one) (sym is)

pub slot_after : (second : Bool) (gate : ℕ) → gate + 6 ≤ slot_place second gate
slot_after true gate = omega arith
slot_after false gate = omega arith

pub slot_before : (second : Bool) (gate : ℕ) → slot_place second gate + 25 ≤ gate + 56
slot_before true gate = omega arith
slot_before false gate = omega arith

pub put_same : (second : Bool) (s : Superblock) (g : ℕ) → g ≡ (slot_at second s).gate → put second s (record (slot_at second s) { gate = g }) ≡ s
put_same true s g is = ap (λ (n : ℕ). record s { two = record s.two { gate = n } }) is
put_same false s g is = ap (λ (n : ℕ). record s { one = record s.one { gate = n } }) is

-- where only its gate may have changed
pub gate_written : (bytes image : List ℕ) (at : ℕ) → Agrees bytes image at (at + 1) → at + 25 ≤ length bytes
    → slot_in (drop at image) ≡ record (slot_in (drop at bytes)) { gate = get_or image at 0 }
gate_written bytes image at agrees inside =
    let here : at + 0 ≡ at = omega arith in
    numbers_same (drop at image) (drop at bytes)
    (λ k some less. get_or-drop at image k 0 ∙ agrees.same (at + k) (omega (arith, less, inside)) (inr (omega (arith, some))) ∙ sym (get_or-drop at bytes k 0))
    ∙ ap (λ (g : ℕ). record (slot_in (drop at bytes)) { gate = g }) (get_or-drop at image 0 0 ∙ ap (λ (n : ℕ). get_or image n 0) here)

-- where only its numbers may have
pub gate_kept : (bytes image : List ℕ) (at hi : ℕ) → Agrees bytes image (at + 1) hi → at < length bytes → (slot_in (drop at image)).gate ≡ (slot_in (drop at bytes)).gate
gate_kept bytes image at hi agrees inside =
    get_or-drop at image 0 0 ∙ agrees.same (at + 0) (omega (arith, inside)) (inl (omega arith)) ∙ sym (get_or-drop at bytes 0 0)

-- the three numbers of a slot, read back
pub numbers_read : (gate : ℕ) (slot : Slot) (tail : List ℕ) → slot.number < 2 ^ 64 → slot.place < 2 ^ 64 → slot.first < 2 ^ 64
    → slot_in (gate ∷ (number_bytes slot ++ tail)) ≡ record slot { gate = gate }
unfolding slot_of_parts
numbers_read gate slot tail n p f =
    let number = big_bytes 8 slot.number in
    let place = big_bytes 8 slot.place in
    let first = big_bytes 8 slot.first in
    let all : number_bytes slot ++ tail ≡ number ++ (place ++ (first ++ tail)) =
    append_assoc number (place ++ first) tail ∙ ap (λ (l : List ℕ). number ++ l) (append_assoc place first tail) in
    let long = length-bytes_high_first 8 slot.number in
    let size = length-bytes_high_first 8 slot.place in
    let second : drop 8 (number_bytes slot ++ tail) ≡ place ++ (first ++ tail) = ap (λ (l : List ℕ). drop 8 l) all ∙ drop_at number (place ++ (first ++ tail)) 8 long in
    let third : drop 16 (number_bytes slot ++ tail) ≡ first ++ tail =
    sym (drop-drop 8 8 (number_bytes slot ++ tail)) ∙ ap (λ (l : List ℕ). drop 8 l) second ∙ drop_at place (first ++ tail) 8 size in
    same_slots gate gate (big_number 8 (number_bytes slot ++ tail)) slot.number (big_number 8 (drop 8 (number_bytes slot ++ tail))) slot.place
    (big_number 8 (drop 16 (number_bytes slot ++ tail))) slot.first refl
    (ap (λ (l : List ℕ). big_number 8 l) all ∙ big_number-reads_back 8 slot.number (place ++ (first ++ tail)) (omega (arith, n)))
    (ap (λ (l : List ℕ). big_number 8 l) second ∙ big_number-reads_back 8 slot.place (first ++ tail) (omega (arith, p)))
    (ap (λ (l : List ℕ). big_number 8 l) third ∙ big_number-reads_back 8 slot.first tail (omega (arith, f)))

-- once the numbers are written after a gate
pub numbers_written : (bytes : List ℕ) (at : ℕ) (slot : Slot) → at < length bytes → slot.number < 2 ^ 64 → slot.place < 2 ^ 64 → slot.first < 2 ^ 64
    → slot_in (drop at (overlay bytes (at + 1) (number_bytes slot))) ≡ record slot { gate = get_or bytes at 0 }
numbers_written bytes at slot inside n p f =
    let new = overlay bytes (at + 1) (number_bytes slot) in
    let agrees = written_agrees bytes (at + 1) (number_bytes slot) in
    let tail = drop (at + 1 + length (number_bytes slot)) bytes in
    ap (λ (l : List ℕ). slot_in l) (drop_more new at 0 (omega (arith, inside, agrees.long)))
    ∙ ap (λ (l : List ℕ). slot_in (get_or new at 0 ∷ l)) (written_there bytes (at + 1) (number_bytes slot))
    ∙ numbers_read (get_or new at 0) slot tail n p f
    ∙ ap (λ (g : ℕ). record slot { gate = g }) (agrees.same at inside (inl (omega arith)))

-- ---- the steps of a move

module _ (bytes : List ℕ) (s : Superblock) (old : List (List ℕ)) (st : Standing bytes s old) where
  pub here : s ≡ said s.gate bytes
  here = is_said bytes s st.before st.rest st.has

  pub long : s.gate + 57 ≤ length bytes
  long = long_enough bytes s st.before st.rest st.has

  -- the new area's bytes are none that count
  pub area_written : (image : List ℕ) (lo hi : ℕ) → Agrees bytes image lo hi → s.gate + 57 ≤ lo → (hi ≤ st.start) ⊎ (st.start + length (records st.list) < lo) → IsJournal (Some s) image old
  area_written image lo hi agrees far away =
      let same = unwritten bytes s here long image lo hi agrees (omega (arith, far)) in
      let sound = subst (λ (t : Superblock). IsSound (length image) t) (sym same) (sound_longer (length bytes) (length image) s agrees.long st.has.sound) in
      subst (λ (t : Superblock). IsJournal (Some t) image old) same
      (stays bytes s old st image lo hi agrees (omega (arith, far)) sound away (ap (λ (t : Superblock). current t) same))

  module _ (second : Bool) (which : second ≡ is_second s) (image : List ℕ) where
    at : ℕ
    at = slot_place second s.gate

    -- the slot that doesn't count is as it is read, and shut
    shut_as : (lo hi : ℕ) → Agrees bytes image lo hi → slot_place second s.gate ≤ lo → hi ≤ slot_place second s.gate + 25 → (slot : Slot)
        → slot_in (drop (slot_place second s.gate) image) ≡ slot → slot.gate ≢ open_gate → IsJournal (Some (put second s slot)) image old
    shut_as lo hi agrees from until slot is shut =
        let same : said s.gate image ≡ put second s slot = slot_written second bytes s here long image lo hi agrees from until ∙ ap (λ (o : Slot). put second s o) is in
        let sound = sound_shut (length image) second s slot (sound_longer (length bytes) (length image) s agrees.long st.has.sound) shut in
        subst (λ (t : Superblock). IsJournal (Some t) image old) same
        (stays bytes s old st image lo hi agrees (omega (arith, from, slot_after second s.gate)) (subst (λ (t : Superblock). IsSound (length image) t) (sym same) sound)
        (inl (omega (arith, until, slot_before second s.gate, st.far))) (ap (λ (t : Superblock). current t) same ∙ current_shut second s slot which shut))

    as_read : Agrees bytes image (slot_place second s.gate) (slot_place second s.gate + 1)
        → slot_in (drop (slot_place second s.gate) image) ≡ record (slot_at second s) { gate = get_or image (slot_place second s.gate) 0 }
    as_read agrees =
        gate_written bytes image (slot_place second s.gate) agrees (omega (arith, slot_before second s.gate, long))
        ∙ ap (λ (o : Slot). record o { gate = get_or image (slot_place second s.gate) 0 }) (slot_here second bytes s here)

    -- its gate may have changed, to one that isn't open
    pub gate_left : Agrees bytes image (slot_place second s.gate) (slot_place second s.gate + 1) → get_or image (slot_place second s.gate) 0 ≢ open_gate
        → IsJournal (Some (put second s (record (slot_at second s) { gate = get_or image (slot_place second s.gate) 0 }))) image old
    gate_left agrees shut =
        shut_as (slot_place second s.gate) (slot_place second s.gate + 1) agrees (omega arith) (omega arith) (record (slot_at second s) { gate = get_or image (slot_place second s.gate) 0 })
        (as_read agrees) shut

    -- it was open, and still is
    pub gate_same : Agrees bytes image (slot_place second s.gate) (slot_place second s.gate + 1) → (slot_at second s).gate ≡ open_gate → get_or image (slot_place second s.gate) 0 ≡ open_gate
        → IsJournal (Some s) image old
    gate_same agrees was is =
        let same : said s.gate image ≡ s =
        slot_written second bytes s here long image (slot_place second s.gate) (slot_place second s.gate + 1) agrees (omega arith) (omega arith)
        ∙ ap (λ (o : Slot). put second s o) (as_read agrees) ∙ put_same second s (get_or image (slot_place second s.gate) 0) (is ∙ sym was) in
        let sound = subst (λ (t : Superblock). IsSound (length image) t) (sym same) (sound_longer (length bytes) (length image) s agrees.long st.has.sound) in
        subst (λ (t : Superblock). IsJournal (Some t) image old) same
        (stays bytes s old st image (slot_place second s.gate) (slot_place second s.gate + 1) agrees (slot_after second s.gate) sound
        (inl (omega (arith, slot_before second s.gate, st.far))) (ap (λ (t : Superblock). current t) same))

    -- its numbers may be any
    pub numbers_left : Agrees bytes image (slot_place second s.gate + 1) (slot_place second s.gate + 25) → (slot_at second s).gate ≢ open_gate
        → IsJournal (Some (put second s (slot_in (drop (slot_place second s.gate) image)))) image old
    numbers_left agrees shut =
        let kept =
        gate_kept bytes image (slot_place second s.gate) (slot_place second s.gate + 25) agrees (omega (arith, slot_before second s.gate, long))
        ∙ ap (λ (o : Slot). o.gate) (slot_here second bytes s here) in
        shut_as (slot_place second s.gate + 1) (slot_place second s.gate + 25) agrees (omega arith) (omega arith) (slot_in (drop (slot_place second s.gate) image)) refl
        (λ is. shut (sym kept ∙ is))

    -- with its gate open, what counts is the area that stands at its place
    pub gate_opened : (payloads : List (List ℕ)) (more : List ℕ) → Agrees bytes image (slot_place second s.gate) (slot_place second s.gate + 1)
        → get_or image (slot_place second s.gate) 0 ≡ open_gate → (slot_at second s).number ≡ number_after (current s) → base_of s ≤ (slot_at second s).place → AreGiven payloads
        → drop (slot_at second s).place bytes ≡ records payloads ++ 0 ∷ more → IsJournal (Some (put second s (record (slot_at second s) { gate = open_gate }))) image payloads
    gate_opened payloads more agrees opens number far given are =
        let slot = record (slot_at second s) { gate = open_gate } in
        let place = (slot_at second s).place in
        let same : said s.gate image ≡ put second s slot =
        slot_written second bytes s here long image (slot_place second s.gate) (slot_place second s.gate + 1) agrees (omega arith) (omega arith)
        ∙ ap (λ (o : Slot). put second s o) (as_read agrees ∙ ap (λ (g : ℕ). record (slot_at second s) { gate = g }) opens) in
        let inside : place < length bytes = omega (arith, ap length are, length-drop place bytes, length-append (records payloads) (0 ∷ more)) in
        let sound = sound_open (length image) second s slot which number far (omega (arith, inside, agrees.long)) (sound_longer (length bytes) (length image) s agrees.long st.has.sound) in
        subst (λ (t : Superblock). IsJournal (Some t) image payloads) same
        (goes_over bytes s old st image (slot_place second s.gate) (slot_place second s.gate + 1) agrees (slot_after second s.gate) (subst (λ (t : Superblock). IsSound (length image) t) (sym same) sound)
        payloads slot (drop (length (records payloads) + 1) (drop place image)) given (ap (λ (t : Superblock). current t) same ∙ current_open second s slot which refl number)
        (records_stay bytes image (slot_place second s.gate) (slot_place second s.gate + 1) place payloads 0 more agrees are (inl (omega (arith, slot_before second s.gate, far)))))
