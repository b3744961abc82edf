-- What a disk has while an area is written, step by step, and what a crash leaves then.
use Rattle.std.proofs.Common.{◌≡◌, ◌⊎◌, inl, inr, ⊎_elim, ℕ, suc, Option, Some, None, nat_le, if◌then◌else◌, slice_index_or, length-take, ◌+◌, ◌-◌, ◌<◌, ◌≤◌, true, false, Bool, List, [], ◌∷◌, ◌++◌, length, take, drop, get_or, refl, sym, ◌∙◌, ap, subst, arith, append_assoc, length-append, length-drop, take-append-drop}
use Rattle.std.specs.List.{All, list_any}
use Rattle.std.proofs.lemmas.List.{append-nil, drop-drop, take_at}
use Rattle.std.proofs.lemmas.List.Elements.{All-append}
use Rattle.std.proofs.lemmas.Bool.{cases_lt, cases_Bool, cond-true, cond-false, leb-true, and_from, and_left, and_right, not_from_false, or_from, lt-leb, le-ltb, lt-ltb}
use Rattle.byteorder.specs.Endian.{big_bytes}
use Rattle.xt_base.specs.Overlay.{overlay}
use Rattle.disk_model.specs.Disk.{Kept, Range, IsImage, Syncs, at_rest, after_write, is_inside, range_of}
use Rattle.disk_model.proofs.Images.{rest_stays}
use Rattle.journal_areas.specs.declared.superblock.Slot.{Slot}
use Rattle.journal_areas.specs.declared.superblock.Superblock.{Superblock}
use Rattle.journal_areas.specs.Format.{open_gate, record_of, records}
use Rattle.journal_areas.specs.Superblocks.{base_of, current}
use Rattle.journal_areas.specs.Sites.{area_by, area_of, fits_below, site, slot_of, superblock_at}
use Rattle.journal_areas.proofs.Moving.{Agrees, slice_same, written_agrees, written_there}
use Rattle.journal_moves.specs.declared.gathered.Gathered.{Gathered}
use Rattle.journal_moves.specs.Gathering.{IsThere, gathered, gathered_in, size_in}
use Rattle.journal_moves.specs.Moves.{end_ready}
use Rattle.journal_moves.proofs.Areas.{size_gathered}
use Rattle.journal_moves.specs.Writing.{IsApart, IsIn, IsBetween, IsUnderway, IsWritten, StaysOutside}

pub agrees_of : (bytes image : List ℕ) (place end : ℕ) → StaysOutside bytes image place end → Agrees bytes image place end
agrees_of bytes image place end stays = record { long = stays.long; same = stays.same }

pub stays_of : (bytes image : List ℕ) (place end : ℕ) → Agrees bytes image place end → StaysOutside bytes image place end
stays_of bytes image place end agrees = record { long = agrees.long; same = agrees.same }

-- what is there stays in wider places, and over one change after the other
pub stays_on : (bytes mid image : List ℕ) (place end lo hi : ℕ) → StaysOutside bytes mid place end → StaysOutside mid image lo hi → place ≤ lo → hi ≤ end → StaysOutside bytes image place end
stays_on bytes mid image place end lo hi one two from until = record {
  long = omega (arith, one.long, two.long);
  same = λ k inside out.
      let longer : k < length mid = omega (arith, inside, one.long) in
      two.same k longer (⊎_elim (λ below. inl (omega (arith, below, from))) (λ above. inr (omega (arith, above, until))) out) ∙ one.same k inside out;
}

pub stays_same : (bytes : List ℕ) (place end : ℕ) → StaysOutside bytes bytes place end
stays_same bytes place end = record { long = omega arith; same = λ k inside out. refl }

-- ---- what a crash leaves

outside : (place end k : ℕ) (range : Range) → IsBetween place end range → (k < place) ⊎ (end ≤ k) → is_inside k range ≡ false
outside place end k range between (inl below) = and_left _ _ (lt-leb range.start k (omega (arith, below, between.from)))
outside place end k range between (inr above) = and_right _ _ (le-ltb k range.end (omega (arith, above, between.until)))

in_none : (place end k : ℕ) (ranges : List Range) → All (IsBetween place end) ranges → (k < place) ⊎ (end ≤ k) → list_any (is_inside k) ranges ≡ false
in_none place end k [] within out = refl
in_none place end k (range ∷ ranges) within out =
    or_from _ _ (outside place end k range (within 0 range (omega arith)) out) (in_none place end k ranges (λ i d inside. within (suc i) d (omega (arith, inside))) out)

module _ (bytes : List ℕ) (place end : ℕ) where
  leaves : (kept : Kept) → kept.synced ≡ bytes → All (IsBetween place end) kept.written → (image : List ℕ) → IsImage kept image → StaysOutside bytes image place end
  leaves kept synced within image is = record {
    long = omega (arith, is.no_shorter, ap length synced);
    same = λ k inside out.
        let long : k < length kept.synced = omega (arith, inside, ap length synced) in
        is.same k (and_from _ _ (lt-ltb k (length kept.synced) long) (not_from_false _ (in_none place end k kept.written within out))) ∙ ap (λ (l : List ℕ). get_or l k 0) synced;
  }

  -- one more write
  within_more : (ranges : List Range) (at : ℕ) (piece : List ℕ) → All (IsBetween place end) ranges → place ≤ at → at + length piece ≤ end → All (IsBetween place end) (ranges ++ range_of at piece ∷ [])
  within_more ranges at piece within from until =
      All-append (IsBetween place end) ranges (range_of at piece ∷ []) within
      (λ k d inside.
      let here : k ≡ 0 = omega (arith, inside) in
      let is : IsBetween place end (range_of at piece) = record { from = from; until = until } in
      subst (λ (n : ℕ). IsBetween place end (slice_index_or (range_of at piece ∷ []) n d)) (sym here) is)

  -- ---- the bytes that are there

  module _ (kept : Kept) (at : ℕ) (held so_far : List ℕ) (is : IsUnderway bytes place end kept at held so_far) where
    -- more is held
    pub holds : (new more : List ℕ) → new ≡ held ++ more → IsUnderway bytes place end kept at new (so_far ++ more)
    holds new more put = record {
      synced = is.synced;
      within = is.within;
      stays = is.stays;
      from = is.from;
      are = ap (λ (l : List ℕ). take (at - place) (drop place kept.read) ++ l) put ∙ sym (append_assoc (take (at - place) (drop place kept.read)) held more) ∙ ap (λ (l : List ℕ). l ++ more) is.are;
      size = omega (arith, is.size, ap length put, length-append held more, length-append so_far more);
    }

    -- the bytes that are there stay while those after them are written
    front_stays : take (at - place) (drop place (overlay kept.read at held)) ≡ take (at - place) (drop place kept.read)
    front_stays =
        let n = at - place in
        let image = overlay kept.read at held in
        let front = take n (drop place kept.read) in
        let whole : length front ≡ n = omega (arith, is.size, ap length is.are, length-append front held, is.from) in
        let agrees = written_agrees kept.read at held in
        ⊎_elim
        (λ some.
        let short : place + n ≤ length kept.read = omega (arith, some, whole, length-take n (drop place kept.read), length-drop place kept.read) in
        slice_same kept.read image place n short (omega (arith, short, agrees.long)) (λ k from less. agrees.same k (omega (arith, less, short)) (inl (omega (arith, less, is.from)))))
        (λ none.
        let zero_is : n ≡ 0 = omega (arith, none) in
        ap (λ (m : ℕ). take m (drop place image)) zero_is ∙ sym (ap (λ (m : ℕ). take m (drop place kept.read)) zero_is))
        (cases_lt 0 n)

    written_so_far : take (at + length held - place) (drop place (overlay kept.read at held)) ≡ so_far
    written_so_far =
        let n = at - place in
        let image = overlay kept.read at held in
        let tail = drop (at + length held) kept.read in
        let front = take n (drop place image) in
        let whole : length front ≡ n = ap length front_stays ∙ omega (arith, is.size, ap length is.are, length-append (take n (drop place kept.read)) held, is.from) in
        let after : place + n ≡ at = omega (arith, is.from) in
        let behind : drop n (drop place image) ≡ held ++ tail =
        drop-drop n place image ∙ ap (λ (m : ℕ). drop m image) after ∙ written_there kept.read at held in
        let all : drop place image ≡ (front ++ held) ++ tail =
        sym (take-append-drop n (drop place image)) ∙ ap (λ (l : List ℕ). front ++ l) behind ∙ sym (append_assoc front held tail) in
        let size : at + length held - place ≡ length (front ++ held) = omega (arith, whole, length-append front held, is.from) in
        ap (take (at + length held - place)) all ∙ take_at (front ++ held) tail (at + length held - place) (sym size)
        ∙ ap (λ (l : List ℕ). l ++ held) front_stays ∙ is.are

    -- they are written
    pub writes : (new : Kept) → new ≡ after_write at held kept → at + length held ≤ end → IsUnderway bytes place end new (at + length held) [] so_far
    writes new done until =
        let image = overlay kept.read at held in
        let step : IsUnderway bytes place end (after_write at held kept) (at + length held) [] so_far = record {
          synced = is.synced;
          within = within_more kept.written at held is.within is.from until;
          stays = stays_on bytes kept.read image place end at (at + length held) is.stays (stays_of kept.read image at (at + length held) (written_agrees kept.read at held)) is.from until;
          from = omega (arith, is.from);
          are = append-nil (take (at + length held - place) (drop place image)) ∙ written_so_far;
          size = omega (arith, is.size);
        } in
        subst (λ (k : Kept). IsUnderway bytes place end k (at + length held) [] so_far) (sym done) step

    pub leaves_now : (image : List ℕ) → IsImage kept image → StaysOutside bytes image place end
    leaves_now = leaves kept is.synced is.within

    -- also where a write of what is held failed
    pub leaves_then : (new : Kept) → new.synced ≡ kept.synced → new.written ≡ kept.written ++ range_of at held ∷ [] → at + length held ≤ end → (image : List ℕ) → IsImage new image
        → StaysOutside bytes image place end
    leaves_then new synced written until =
        leaves new (synced ∙ is.synced) (subst (λ (r : List Range). All (IsBetween place end) r) (sym written) (within_more kept.written at held is.within is.from until))

    -- while they are synced
    pub leaves_synced : (new : Kept) (failed : Bool) → Syncs kept new failed → (image : List ℕ) → IsImage new image → StaysOutside bytes image place end
    leaves_synced new true syncs image now = leaves_now image (subst (λ (k : Kept). IsImage k image) (syncs.undone refl) now)
    leaves_synced new false syncs image now =
        let stays : image ≡ kept.read = rest_stays kept.read image (subst (λ (k : Kept). IsImage k image) (syncs.done refl) now) in
        subst (λ (l : List ℕ). StaysOutside bytes l place end) (sym stays) is.stays

  -- nothing is held
  pub all_there : (kept : Kept) (at : ℕ) (piece : List ℕ) → IsUnderway bytes place end kept at [] piece → IsWritten bytes kept.read place end piece
  all_there kept at piece is =
      let size : length piece ≡ at - place = omega (arith, is.size, is.from) in
      record {
        stays = is.stays;
        there = ap (λ (n : ℕ). take n (drop place kept.read)) size ∙ sym (append-nil (take (at - place) (drop place kept.read))) ∙ is.are;
      }

-- ---- the rests

module _ (bytes image : List ℕ) (place end : ℕ) (stays : StaysOutside bytes image place end) where
  -- a read gives them as it did
  pub same_rest : (payload : Gathered) → IsApart bytes place end payload → gathered_in true image payload ≡ gathered_in true bytes payload
  same_rest payload (inl none) =
      ap (λ (n : ℕ). payload.front ++ take n (drop payload.rest.at image)) none ∙ sym (ap (λ (n : ℕ). payload.front ++ take n (drop payload.rest.at bytes)) none)
  same_rest payload (inr aside) =
      ap (λ (l : List ℕ). payload.front ++ l)
      (slice_same bytes image payload.rest.at payload.rest.len aside.inside (omega (arith, aside.inside, stays.long))
      (λ k from less.
      stays.same k (omega (arith, less, aside.inside))
      (⊎_elim (λ below. inl (omega (arith, below, less))) (λ above. inr (omega (arith, above, from))) aside.away)))

  pub all_stay : (payloads : List Gathered) → All (IsApart bytes place end) payloads → gathered true image payloads ≡ gathered true bytes payloads
  all_stay [] apart = refl
  all_stay (payload ∷ payloads) apart =
      ap (λ (l : List ℕ). l ∷ gathered true image payloads) (same_rest payload (apart 0 payload (omega arith)))
      ∙ ap (λ (l : List (List ℕ)). gathered_in true bytes payload ∷ l) (all_stay payloads (λ k d inside. apart (suc k) d (omega (arith, inside))))

in_apart : (read : List ℕ) (place end : ℕ) (payload : Gathered) → IsApart read place end payload → IsIn read payload.rest
in_apart read place end payload (inl none) = inl none
in_apart read place end payload (inr aside) = inr aside.inside

-- a payload is put after what is held
pub adds : (bytes : List ℕ) (place end : ℕ) (kept : Kept) (at : ℕ) (held so_far : List ℕ) → IsUnderway bytes place end kept at held so_far → (payload : Gathered) → IsApart bytes place end payload
    → (new : List ℕ) → new ≡ held ++ open_gate ∷ (big_bytes 4 (size_in payload) ++ gathered_in true kept.read payload)
    → IsUnderway bytes place end kept at new (so_far ++ open_gate ∷ record_of (gathered_in true bytes payload))
adds bytes place end kept at held so_far is payload apart new put =
    let list = gathered_in true bytes payload in
    let size : size_in payload ≡ length list = sym (size_gathered true bytes payload (λ told. in_apart bytes place end payload apart)) in
    holds bytes place end kept at held so_far is new (open_gate ∷ record_of list)
    (put
    ∙ ap (λ (l : List ℕ). held ++ open_gate ∷ (big_bytes 4 (size_in payload) ++ l)) (same_rest bytes kept.read place end is.stays payload apart)
    ∙ ap (λ (n : ℕ). held ++ open_gate ∷ (big_bytes 4 n ++ list)) size)

-- the records of the payloads that are left
pub records_next : (bytes so_far all : List ℕ) (payloads rest : List Gathered) (payload : Gathered) → payloads ≡ payload ∷ rest → so_far ++ records (gathered true bytes payloads) ≡ all
    → (so_far ++ open_gate ∷ record_of (gathered_in true bytes payload)) ++ records (gathered true bytes rest) ≡ all
records_next bytes so_far all payloads rest payload is was =
    append_assoc so_far (open_gate ∷ record_of (gathered_in true bytes payload)) (records (gathered true bytes rest))
    ∙ ap (λ (l : List Gathered). so_far ++ records (gathered true bytes l)) (sym is)
    ∙ was

-- what the area that counts has isn't where a new one goes
apart_by : (read : List ℕ) (base end size place : ℕ) (c : Option Slot) (payload : Gathered) → IsThere read (area_by end c) payload → place ≡ (if fits_below base c size then base else end + 1)
    → IsApart read place (place + size) payload
apart_by read base end size place c payload (inl none) is = inl none
apart_by read base end size place None payload (inr held) is = inr (record { inside = held.inside; away = inl (omega (arith, held.from, held.until, is)) })
apart_by read base end size place (Some slot) payload (inr held) is =
    ⊎_elim
    (λ yes. inr (record { inside = held.inside; away = inr (omega (arith, held.from, leb-true (base + size) slot.place yes, is ∙ cond-true _ _ _ yes)) }))
    (λ no. inr (record { inside = held.inside; away = inl (omega (arith, held.from, held.until, is ∙ cond-false _ _ _ no)) }))
    (cases_Bool (nat_le (base + size) slot.place))

-- nor where a journal gets a superblock
before_end : (read : List ℕ) (end hi : ℕ) (c : Option Slot) (payload : Gathered) → IsThere read (area_by end c) payload → IsApart read end hi payload
before_end read end hi c payload (inl none) = inl none
before_end read end hi None payload (inr held) = inr (record { inside = held.inside; away = inl (omega (arith, held.from, held.until)) })
before_end read end hi (Some slot) payload (inr held) = inr (record { inside = held.inside; away = inl (omega (arith, held.from, held.until)) })

pub all_before_end : (read : List ℕ) (super : Option Superblock) (end hi : ℕ) (payloads : List Gathered) → All (IsThere read (area_of super end)) payloads → All (IsApart read end hi) payloads
all_before_end read super end hi payloads there = λ k d inside. before_end read end hi (slot_of super) (slice_index_or payloads k d) (there k d inside)

-- and it is still there once the journal has one
there_ready : (super : Option Superblock) (end : ℕ) (read after : List ℕ) (payload : Gathered) → length read ≤ length after → IsThere read (area_of super end) payload
    → IsThere after (area_of (Some (superblock_at super end)) (end_ready super end)) payload
there_ready super end read after payload long (inl none) = inl none
there_ready None end read after payload long (inr held) = inr (record { from = held.from; until = omega (arith, held.until); inside = omega (arith, held.inside, long) })
there_ready (Some s) end read after payload long (inr held) = inr (record { from = held.from; until = held.until; inside = omega (arith, held.inside, long) })

pub all_ready : (super : Option Superblock) (end : ℕ) (read after : List ℕ) (payloads : List Gathered) → length read ≤ length after → All (IsThere read (area_of super end)) payloads
    → All (IsThere after (area_of (Some (superblock_at super end)) (end_ready super end))) payloads
all_ready super end read after payloads long there = λ k d inside. there_ready super end read after (slice_index_or payloads k d) long (there k d inside)

pub apart : (read : List ℕ) (s : Superblock) (end size place : ℕ) (payloads : List Gathered) → All (IsThere read (area_of (Some s) end)) payloads → place ≡ site (Some s) end size
    → All (IsApart read place (place + size)) payloads
apart read s end size place payloads there is =
    λ k d inside. apart_by read (base_of s) end size place (current s) (slice_index_or payloads k d) (there k d inside) is
