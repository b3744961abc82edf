-- How far a journal is read: what stays where bytes after that change, and what comes with a record more.
use Rattle.std.proofs.Common.{◌≡◌, inl, inr, ⊎_elim, ℕ, ◌+◌, ◌≤◌, ◌==◌, ◌&&◌, nat_lt, Bool, true, false, if◌then◌else◌, List, [], ◌∷◌, ◌++◌, length, take, drop, refl, sym, ◌∙◌, ap, subst, arith, append_assoc, length-append, take-append-drop, Option, Some, None}
use Rattle.std.specs.Prelude.{slice_index}
use Rattle.std.proofs.lemmas.List.{append_cancel_right, take_at, take-append-le, drop-append-le, length-take-le, length-drop, append-nil}
use Rattle.std.proofs.lemmas.List.Elements.{All-push}
use Rattle.std.proofs.lemmas.Bool.{eqb-true}
use Rattle.journal_areas.specs.declared.superblock.Slot.{Slot}
use Rattle.journal_areas.specs.declared.superblock.Superblock.{Superblock}
use Rattle.journal_areas.specs.Format.{open_gate, header, records, record_of, end_of, superblock_kind, IsGiven}
use Rattle.journal_areas.specs.Superblocks.{superblock_in, superblock_size, current, IsOpen, IsSite, IsSound}
use Rattle.journal_areas.specs.Areas.{IsPlain, HasSuperblock, IsUnmoved, IsMoved, Reached, end_by, end_in}
use Rattle.journal_areas.proofs.Records.{length-record, records-append, records-push}

-- ---- the slot that counts

-- the area of the slot that counts begins from the base on, inside the journal
pub counts_inside : (size : ℕ) (s : Superblock) (slot : Slot) → IsSound size s → current s ≡ Some slot → IsSite s size slot
counts_inside size s slot sound counts =
    at (s.one.gate == open_gate) (s.two.gate == open_gate) (nat_lt s.one.number s.two.number) (eqb-true s.one.gate open_gate) (eqb-true s.two.gate open_gate) counts
  where
    at : (one two less : Bool) → (one ≡ true → IsOpen s.one) → (two ≡ true → IsOpen s.two)
        → (if one then (if two && less then Some s.two else Some s.one) else (if two then Some s.two else None)) ≡ Some slot → IsSite s size slot
    at true true true o t is = let same : s.two ≡ slot = cc is in subst (IsSite s size) same (sound.two (t refl))
    at true true false o t is = let same : s.one ≡ slot = cc is in subst (IsSite s size) same (sound.one (o refl))
    at true false less o t is = let same : s.one ≡ slot = cc is in subst (IsSite s size) same (sound.one (o refl))
    at false true less o t is = let same : s.two ≡ slot = cc is in subst (IsSite s size) same (sound.two (t refl))
    at false false less o t is = absurd cc

pub sound_longer : (size more : ℕ) (s : Superblock) → size ≤ more → IsSound size s → IsSound more s
sound_longer size more s longer sound = record {
  one = λ is. ((sound.one is).0, omega (arith, longer, (sound.one is).1));
  two = λ is. ((sound.two is).0, omega (arith, longer, (sound.two is).1));
  differ = sound.differ;
}

-- ---- what was read is a front of the bytes

-- up to the superblock's record
pub up_to : List (List ℕ) → List ℕ → List ℕ
up_to before payload = header ++ (records before ++ open_gate ∷ record_of payload)

up_to_then : (before : List (List ℕ)) (payload tail : List ℕ) → header ++ (records before ++ open_gate ∷ (record_of payload ++ tail)) ≡ up_to before payload ++ tail
unfolding up_to
up_to_then before payload tail =
    ap (λ (l : List ℕ). header ++ l) (sym (append_assoc (records before) (open_gate ∷ record_of payload) tail))
    ∙ sym (append_assoc header (records before ++ open_gate ∷ record_of payload) tail)

length-up_to : (before : List (List ℕ)) (payload : List ℕ) → length payload ≡ superblock_size → length (up_to before payload) ≡ end_of before + 56
unfolding up_to
length-up_to before payload size =
    omega (arith, size, length-record payload, length-append header (records before ++ open_gate ∷ record_of payload), length-append (records before) (open_gate ∷ record_of payload))

module _ (bytes : List ℕ) (s : Superblock) (before : List (List ℕ)) (between : List ℕ) (has : HasSuperblock bytes s before between) where
  pub has_gate : s.gate ≡ end_of before
  has_gate = ap (λ (x : Superblock). x.gate) has.says

  pub has_front : bytes ≡ up_to before has.payload ++ between
  has_front = has.are ∙ up_to_then before has.payload between

  pub has_length : length (up_to before has.payload) ≡ s.gate + 56
  has_length = omega (arith, has_gate, length-up_to before has.payload has.size)

  -- in longer bytes with the same front
  pub has_stays : (image later : List ℕ) → length bytes ≤ length image → 1 ≤ length later → image ≡ up_to before has.payload ++ later → HasSuperblock image s before later
  has_stays image later longer some are = record {
    plain = has.plain;
    payload = has.payload;
    kind = has.kind;
    size = has.size;
    says = has.says;
    sound = sound_longer (length bytes) (length image) s longer has.sound;
    some = some;
    are = are ∙ sym (up_to_then before has.payload later);
  }

-- a front of the bytes that ends where reading has come
pub record IsFront (super : Option Superblock) (bytes : List ℕ) (payloads : List (List ℕ)) (rest : List ℕ) : Type 0 where
  pub front : List ℕ
  pub are : bytes ≡ front ++ rest
  pub size : length front ≡ end_in super payloads

plain_front : (bytes : List ℕ) (payloads : List (List ℕ)) (rest : List ℕ) → IsPlain bytes payloads rest → IsFront None bytes payloads rest
plain_front bytes payloads rest is = record {
  front = header ++ records payloads;
  are = is.are ∙ sym (append_assoc header (records payloads) rest);
  size = omega (arith, length-append header (records payloads));
}

module _ (bytes : List ℕ) (s : Superblock) (payloads : List (List ℕ)) (rest : List ℕ) where
  unmoved_front : IsUnmoved bytes s payloads rest → IsFront (Some s) bytes payloads rest
  unmoved_front is =
      let whole = has_front bytes s is.before (records is.after ++ rest) is.has in
      let start = has_length bytes s is.before (records is.after ++ rest) is.has in
      let gate = has_gate bytes s is.before (records is.after ++ rest) is.has in
      let size : length (records payloads) ≡ length (records is.before) + length (records is.after) =
      ap (λ (ps : List (List ℕ)). length (records ps)) is.all ∙ ap length (records-append is.before is.after) ∙ length-append (records is.before) (records is.after) in
      let ends : end_in (Some s) payloads ≡ 68 + length (records payloads) = ap (λ (c : Option Slot). end_by s c payloads) is.none in
      record {
        front = up_to is.before is.has.payload ++ records is.after;
        are = whole ∙ sym (append_assoc (up_to is.before is.has.payload) (records is.after) rest);
        size = omega (arith, length-append (up_to is.before is.has.payload) (records is.after), start, gate, size, ends);
      }

  moved_front : IsMoved bytes s payloads rest → IsFront (Some s) bytes payloads rest
  moved_front is =
      let site = counts_inside (length bytes) s is.slot is.has.sound is.counts in
      let ends : end_in (Some s) payloads ≡ is.slot.place + length (records payloads) = ap (λ (c : Option Slot). end_by s c payloads) is.counts in
      let start : length (take is.slot.place bytes) ≡ is.slot.place = length-take-le is.slot.place bytes (omega (arith, site.1)) in
      record {
        front = take is.slot.place bytes ++ records payloads;
        are =
            sym (take-append-drop is.slot.place bytes) ∙ ap (λ (l : List ℕ). take is.slot.place bytes ++ l) is.are
            ∙ sym (append_assoc (take is.slot.place bytes) (records payloads) rest);
        size = omega (arith, length-append (take is.slot.place bytes) (records payloads), start, ends);
      }

pub reached_front : (super : Option Superblock) (bytes : List ℕ) (payloads : List (List ℕ)) (rest : List ℕ) → Reached super bytes payloads rest → IsFront super bytes payloads rest
reached_front None bytes payloads rest is = plain_front bytes payloads rest is
reached_front (Some s) bytes payloads rest is = ⊎_elim (unmoved_front bytes s payloads rest) (moved_front bytes s payloads rest) is

pub end_of_reached : (super : Option Superblock) (bytes : List ℕ) (payloads : List (List ℕ)) (rest : List ℕ) → Reached super bytes payloads rest
    → length bytes ≡ end_in super payloads + length rest
end_of_reached super bytes payloads rest is =
    let front = reached_front super bytes payloads rest is in
    omega (arith, ap length front.are, length-append front.front rest, front.size)

-- ---- what stays

module _ (bytes image front rest later : List ℕ) (was : bytes ≡ front ++ rest) (are : image ≡ front ++ later) (longer : length rest ≤ length later) where
  longer_whole : length bytes ≤ length image
  longer_whole = omega (arith, longer, ap length was, ap length are, length-append front rest, length-append front later)

  -- a front of the bytes that is no longer is one of the others too
  same_front : (start tail : List ℕ) → bytes ≡ start ++ tail → length start ≤ length front → image ≡ start ++ drop (length start) image
  same_front start tail is short =
      let same : take (length start) image ≡ start =
      ap (take (length start)) are ∙ take-append-le (length start) front later short ∙ sym (take-append-le (length start) front rest short)
      ∙ ap (take (length start)) (sym was ∙ is) ∙ take_at start tail (length start) refl in
      sym (take-append-drop (length start) image) ∙ ap (λ (l : List ℕ). l ++ drop (length start) image) same

  plain_stays : (payloads : List (List ℕ)) → IsPlain bytes payloads rest → IsPlain image payloads later
  plain_stays payloads is =
      let same : front ≡ header ++ records payloads =
      append_cancel_right front (header ++ records payloads) rest (sym was ∙ is.are ∙ sym (append_assoc header (records payloads) rest)) in
      record { given = is.given; are = are ∙ ap (λ (l : List ℕ). l ++ later) same ∙ append_assoc header (records payloads) later }

  unmoved_stays : (s : Superblock) (payloads : List (List ℕ)) → IsUnmoved bytes s payloads rest → IsUnmoved image s payloads later
  unmoved_stays s payloads is =
      let start = up_to is.before is.has.payload in
      let whole = has_front bytes s is.before (records is.after ++ rest) is.has in
      let same : front ≡ start ++ records is.after =
      append_cancel_right front (start ++ records is.after) rest (sym was ∙ whole ∙ sym (append_assoc start (records is.after) rest)) in
      let now : image ≡ start ++ (records is.after ++ later) = are ∙ ap (λ (l : List ℕ). l ++ later) same ∙ append_assoc start (records is.after) later in
      let some : 1 ≤ length (records is.after ++ later) =
      omega (arith, is.has.some, longer, length-append (records is.after) rest, length-append (records is.after) later) in
      record {
        before = is.before;
        after = is.after;
        has = has_stays bytes s is.before (records is.after ++ rest) is.has image (records is.after ++ later) longer_whole some now;
        none = is.none;
        given = is.given;
        all = is.all;
      }

  moved_stays : (s : Superblock) (payloads : List (List ℕ)) → IsMoved bytes s payloads rest → IsMoved image s payloads later
  moved_stays s payloads is =
      let start = up_to is.before is.has.payload in
      let whole = has_front bytes s is.before is.between is.has in
      let size = has_length bytes s is.before is.between is.has in
      let site = counts_inside (length bytes) s is.slot is.has.sound is.counts in
      let place = is.slot.place in
      let room : length front ≡ place + length (records payloads) =
      omega (arith, ap length was, length-append front rest, ap length is.are, length-append (records payloads) rest, length-drop place bytes, site.1) in
      let parted : drop place front ≡ records payloads =
      append_cancel_right (drop place front) (records payloads) rest
      (sym (drop-append-le place front rest (omega (arith, room))) ∙ ap (drop place) (sym was) ∙ is.are) in
      let inside : length start ≤ length front = omega (arith, size, site.0, room) in
      let now = same_front start is.between whole inside in
      let some : 1 ≤ length (drop (length start) image) =
      omega (arith, is.has.some, ap length whole, length-append start is.between, longer_whole, length-drop (length start) image) in
      record {
        before = is.before;
        between = drop (length start) image;
        has = has_stays bytes s is.before is.between is.has image (drop (length start) image) longer_whole some now;
        slot = is.slot;
        counts = is.counts;
        given = is.given;
        are = ap (drop place) are ∙ drop-append-le place front later (omega (arith, room)) ∙ ap (λ (l : List ℕ). l ++ later) parted;
      }

  -- bytes that begin as these do, up to where reading has come, and that aren't shorter, are read as far with the same payloads
  pub reached_stays : (super : Option Superblock) (payloads : List (List ℕ)) → Reached super bytes payloads rest → Reached super image payloads later
  reached_stays None payloads is = plain_stays payloads is
  reached_stays (Some s) payloads is = ⊎_elim (λ u. inl (unmoved_stays s payloads u)) (λ m. inr (moved_stays s payloads m)) is

-- the same, by the place where reading has come
pub reached_stays_from : (super : Option Superblock) (bytes image : List ℕ) (payloads : List (List ℕ)) (rest : List ℕ) → Reached super bytes payloads rest
    → length bytes ≤ length image → take (end_in super payloads) image ≡ take (end_in super payloads) bytes
    → Reached super image payloads (drop (end_in super payloads) image)
reached_stays_from super bytes image payloads rest is longer same =
    let end = end_in super payloads in
    let f = reached_front super bytes payloads rest is in
    let start : take end image ≡ f.front = same ∙ ap (take end) f.are ∙ take_at f.front rest end f.size in
    let now : image ≡ f.front ++ drop end image = sym (take-append-drop end image) ∙ ap (λ (l : List ℕ). l ++ drop end image) start in
    reached_stays bytes image f.front rest (drop end image) f.are now
    (omega (arith, longer, ap length f.are, length-append f.front rest, ap length now, length-append f.front (drop end image))) super payloads is

-- ---- what is added

-- a record after an open gate is read
pub reached_more : (super : Option Superblock) (bytes : List ℕ) (payloads : List (List ℕ)) (payload more : List ℕ) → IsGiven payload
    → Reached super bytes payloads (open_gate ∷ (record_of payload ++ more)) → Reached super bytes (payloads ++ payload ∷ []) more
reached_more None bytes payloads payload more given is = record {
  given = All-push IsGiven payloads payload is.given given;
  are = is.are ∙ ap (λ (l : List ℕ). header ++ l) (sym (records-push payloads payload more));
}
reached_more (Some s) bytes payloads payload more given (inl is) = inl (record {
  before = is.before;
  after = is.after ++ payload ∷ [];
  has = subst (HasSuperblock bytes s is.before) (sym (records-push is.after payload more)) is.has;
  none = is.none;
  given = All-push IsGiven is.after payload is.given given;
  all = ap (λ (ps : List (List ℕ)). ps ++ payload ∷ []) is.all ∙ append_assoc is.before is.after (payload ∷ []);
})
reached_more (Some s) bytes payloads payload more given (inr is) = inr (record {
  before = is.before;
  between = is.between;
  has = is.has;
  slot = is.slot;
  counts = is.counts;
  given = All-push IsGiven payloads payload is.given given;
  are = is.are ∙ sym (records-push payloads payload more);
})

-- a superblock after an open gate, where there is none yet
pub record Meets (bytes : List ℕ) (payloads : List (List ℕ)) (payload more : List ℕ) (s : Superblock) : Type 0 where
  pub reached : Reached None bytes payloads (open_gate ∷ (record_of payload ++ more))
  pub kind : slice_index payload 0 ≡ superblock_kind
  pub size : length payload ≡ superblock_size
  pub says : s ≡ superblock_in (end_of payloads) payload
  pub sound : IsSound (length bytes) s
  pub some : 1 ≤ length more

module _ (bytes : List ℕ) (payloads : List (List ℕ)) (payload more : List ℕ) (s : Superblock) (met : Meets bytes payloads payload more s) where
  pub met_has : HasSuperblock bytes s payloads more
  met_has = record {
    plain = met.reached.given;
    payload = payload;
    kind = met.kind;
    size = met.size;
    says = met.says;
    sound = met.sound;
    some = met.some;
    are = met.reached.are;
  }

  -- both slots are shut
  pub met_shut : current s ≡ None → Reached (Some s) bytes payloads more
  met_shut none = inl (record {
    before = payloads;
    after = [];
    has = met_has;
    none = none;
    given = λ k d less. absurd (omega (arith, less));
    all = sym (append-nil payloads);
  })

  -- one counts
  pub met_open : (slot : Slot) → current s ≡ Some slot → Reached (Some s) bytes [] (drop slot.place bytes)
  met_open slot counts = inr (record {
    before = payloads;
    between = more;
    has = met_has;
    slot = slot;
    counts = counts;
    given = λ k d less. absurd (omega (arith, less));
    are = refl;
  })
