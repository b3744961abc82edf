-- How far reading has come, from the first gate on.
use Rattle.std.proofs.Common.{◌≡◌, ◌≢◌, inl, inr, ℕ, ◌+◌, ◌-◌, ◌<◌, ◌≤◌, true, List, [], ◌∷◌, ◌++◌, length, drop, refl, sym, ◌∙◌, ap, subst, arith, length-append, take, Option, Some, None, Result, Ok, Err, IfOk}
use Rattle.std.proofs.lemmas.List.{length-drop, map-append, take-append-drop}
use Rattle.byteorder.specs.Endian.{big_number}
use Rattle.disk_model.specs.Disk.{Kept, at_rest}
use Rattle.journal_records.specs.Records.{IsCut}
use Rattle.journal_areas.specs.declared.superblock.Slot.{Slot}
use Rattle.journal_areas.specs.declared.superblock.Superblock.{Superblock}
use Rattle.journal_areas.specs.Superblocks.{superblock_in, current, IsSound}
use Rattle.journal_areas.specs.Areas.{IsUnfit, end_by}
use Rattle.journal_areas.proofs.Reaching.{Meets, met_open, met_shut, reached_more}
use Rattle.journal_moves.specs.declared.extent.Extent.{Extent}
use Rattle.xt_journal.specs.declared.format.Found.{Found}
use Rattle.xt_journal.specs.declared.format.Trouble.{Trouble}
use Rattle.xt_journal.specs.declared.format.Trouble.TheVariants as trouble
use Rattle.xt_journal.specs.Format.{sign, header, open_gate, record_of, superblock_kind, Reached, end_in, IsJournal, IsDamaged, StandsIn, KeepsIn}
use Rattle.xt_journal.specs.Nexts.{HasRecord, payload_at}
use Rattle.xt_journal.specs.Parsed.{Finds, Gives, IsRead, IsReadWhole}
use Rattle.xt_journal.specs.Placed.{Placed, placed_at, placed_on}
use Rattle.xt_journal.specs.Reading.{StandsAt, payloads_of, payloads_on, placed_by, placed_in}
use Rattle.xt_journal.proofs.Records.{length-record}
use Rattle.xt_journal.proofs.Push.{end_in-push, none_past, payloads_in, placed_in-push}

one_there : (xs : List ℕ) → 4 ≤ length xs → big_number 4 xs ≡ 1 → xs ≡ 0 ∷ 0 ∷ 0 ∷ 1 ∷ drop 4 xs
one_there [] long is = absurd (omega arith)
one_there (a ∷ []) long is = absurd (omega arith)
one_there (a ∷ b ∷ []) long is = absurd (omega arith)
one_there (a ∷ b ∷ c ∷ []) long is = absurd (omega arith)
one_there (a ∷ b ∷ c ∷ d ∷ xs) long is =
    let first : a ≡ 0 = omega (arith, is) in
    let second : b ≡ 0 = omega (arith, is) in
    let third : c ≡ 0 = omega (arith, is) in
    let fourth : d ≡ 1 = omega (arith, is) in
    cc (first, second, third, fourth)

-- the sign and the known layout are the header
pub headed : (bytes : List ℕ) → 13 < length bytes → take 8 bytes ≡ sign → big_number 4 (drop 8 bytes) ≡ 1 → (later : List ℕ) × (bytes ≡ header ++ later)
headed bytes long signed layout = (
  drop 4 (drop 8 bytes),
  sym (take-append-drop 8 bytes) ∙ ap (λ (l : List ℕ). l ++ drop 8 bytes) signed
      ∙ ap (λ (l : List ℕ). sign ++ l) (one_there (drop 8 bytes) (omega (arith, long, length-drop 8 bytes)) layout),
)

pub begins : (bytes later : List ℕ) → bytes ≡ header ++ later → IsRead bytes None 12 []
begins bytes later is =
    let same : drop 12 bytes ≡ later = ap (drop 12) is in
    record {
      payloads = [];
      reached = record { given = λ k d less. absurd (omega (arith, less)); are = is ∙ ap (λ (l : List ℕ). header ++ l) (sym same) };
      is_end = refl;
      places = refl;
    }

module _ (bytes : List ℕ) (super : Option Superblock) (end : ℕ) (extents : List Extent) (old : IsRead bytes super end extents) where
  module _ (len kind : ℕ) (is : HasRecord bytes end len kind) where
    payload_length : length (payload_at bytes end len) ≡ len
    payload_length =
        omega (
          arith,
          ap length is.is.are,
          is.is.some,
          length-append (record_of (payload_at bytes end len)) (drop (end + (5 + len)) bytes),
          length-record (payload_at bytes end len),
          length-drop end bytes,
          length-drop (end + (5 + len)) bytes,
        )

    here : Reached super bytes old.payloads (open_gate ∷ (record_of (payload_at bytes end len) ++ drop (end + (5 + len)) bytes))
    here = subst (Reached super bytes old.payloads) is.is.are old.reached

    -- a payload that is handed up
    pub one_read : kind ≢ superblock_kind → (after : List Extent) → after ≡ extents ++ record { at = end + 5; len = len } ∷ [] → IsRead bytes super (end + (5 + len)) after
    one_read other after is_after =
        let payload = payload_at bytes end len in
        let gate : end + 5 - 5 ≡ end_in super old.payloads = omega (arith, old.is_end) in
        record {
          payloads = old.payloads ++ payload ∷ [];
          reached = reached_more super bytes old.payloads payload (drop (end + (5 + len)) bytes) (record { fits = is.is.is_payload; kind = λ same. other (is.kind_is ∙ same) }) here;
          is_end = omega (arith, payload_length, old.is_end, end_in-push super old.payloads payload);
          places =
              ap (placed_on true bytes) is_after ∙ map-append (placed_at true bytes) extents (record { at = end + 5; len = len } ∷ [])
              ∙ ap (λ (l : List Placed). l ++ record { gate = end + 5 - 5; bytes = payload } ∷ []) old.places
              ∙ ap (λ (g : ℕ). placed_in super old.payloads ++ record { gate = g; bytes = payload } ∷ []) gate
              ∙ sym (placed_in-push super bytes old.payloads (drop end bytes) payload old.reached);
        }

    -- one that can't be a superblock there
    pub unfit_there : 13 < length bytes → kind ≡ superblock_kind → IsUnfit super (length bytes) end (payload_at bytes end len) → IsDamaged bytes end
    unfit_there long same unfit = record {
      long = long;
      super = super;
      payloads = old.payloads;
      rest = record_of (payload_at bytes end len) ++ drop (end + (5 + len)) bytes;
      reached = here;
      is_place = old.is_end;
      ends = inr (record {
        payload = payload_at bytes end len;
        more = drop (end + (5 + len)) bytes;
        is_payload = is.is.is_payload;
        kind = sym is.kind_is ∙ same;
        some = is.is.some;
        are = refl;
        unfit = unfit;
      });
    }

  -- what comes after an open gate is no record
  pub cut_there : 13 < length bytes → IsCut (drop end bytes) → IsDamaged bytes end
  cut_there long cut = record {
    long = long;
    super = super;
    payloads = old.payloads;
    rest = cut.rest;
    reached = subst (Reached super bytes old.payloads) cut.are old.reached;
    is_place = old.is_end;
    ends = inl cut.cut_off;
  }

-- ---- the superblock

module _ (bytes : List ℕ) (end : ℕ) (extents : List Extent) (len kind : ℕ) (old : IsRead bytes None end extents) (is : HasRecord bytes end len kind) (same : kind ≡ superblock_kind)
    (size : len ≡ 51) (s : Superblock) (says : s ≡ superblock_in end (payload_at bytes end len)) (sound : IsSound (length bytes) s) where
  meets : Meets bytes old.payloads (payload_at bytes end len) (drop (end + (5 + len)) bytes) s
  meets = record {
    reached = here bytes None end extents old len kind is;
    kind = sym is.kind_is ∙ same;
    size = payload_length bytes None end extents old len kind is ∙ size;
    says = says ∙ ap (λ (g : ℕ). superblock_in g (payload_at bytes end len)) old.is_end;
    sound = sound;
    some = is.is.some;
  }

  gate : s.gate ≡ end
  gate = ap (λ (x : Superblock). x.gate) says

  pub shut_read : current s ≡ None → IsRead bytes (Some s) (end + 56) extents
  shut_read none =
      let ends : end_in (Some s) old.payloads ≡ end + 56 = ap (λ (c : Option Slot). end_by s c old.payloads) none ∙ omega (arith, old.is_end) in
      let later : end + (5 + len) ≡ end + 56 = omega (arith, size) in
      let unmoved : placed_in (Some s) old.payloads ≡ placed_in None old.payloads =
      ap (λ (c : Option Slot). placed_by s c old.payloads) none ∙ none_past s.gate 12 old.payloads (omega (arith, gate, old.is_end)) in
      record {
        payloads = old.payloads;
        reached =
            subst (λ (n : ℕ). Reached (Some s) bytes old.payloads (drop n bytes)) later
            (met_shut bytes old.payloads (payload_at bytes end len) (drop (end + (5 + len)) bytes) s meets none);
        is_end = sym ends;
        places = old.places ∙ sym unmoved;
      }

  pub open_read : (slot : Slot) → current s ≡ Some slot → (none : List Extent) → none ≡ [] → IsRead bytes (Some s) slot.place none
  open_read slot counts none is_none =
      let ends : end_in (Some s) [] ≡ slot.place + 0 = ap (λ (c : Option Slot). end_by s c []) counts in
      record {
        payloads = [];
        reached = met_open bytes old.payloads (payload_at bytes end len) (drop (end + (5 + len)) bytes) s meets slot counts;
        is_end = omega (arith, ends);
        places = ap (placed_on true bytes) is_none ∙ sym (ap (λ (c : Option Slot). placed_by s c []) counts);
      }

-- ---- all of it

module _ (bytes : List ℕ) (found : Found) (whole : IsReadWhole bytes found) where
  same_payloads : payloads_on bytes found.extents.items ≡ whole.read.payloads
  same_payloads = ap payloads_of whole.read.places ∙ payloads_in found.superblock whole.read.payloads

  is_journal : IsJournal found.superblock bytes (payloads_on bytes found.extents.items)
  is_journal = subst (IsJournal found.superblock bytes) (sym same_payloads) (record {
    gate = whole.closed.gate;
    rest = whole.closed.rest;
    shut = whole.closed.shut;
    reached = subst (Reached found.superblock bytes whole.read.payloads) whole.closed.are whole.read.reached;
  })

  stands_in : StandsIn found.superblock bytes (payloads_on bytes found.extents.items)
  stands_in = ∣ inr is_journal ∣₁

  stands_at : StandsAt found.superblock bytes (placed_on true bytes found.extents.items)
  stands_at = record { stands = stands_in; places = whole.read.places ∙ ap (placed_in found.superblock) (sym same_payloads) }

  ends_there : found.end ≡ end_in found.superblock (payloads_on bytes found.extents.items)
  ends_there = whole.read.is_end ∙ ap (end_in found.superblock) (sym same_payloads)

-- what is found is the reading of the bytes
pub gives : (bytes : List ℕ) (result : Result Found Trouble) → Finds bytes result → Gives bytes result
gives bytes (Ok found) whole = ∣ (found.superblock, stands_at bytes found whole) ∣₁
gives bytes (Err (trouble.NotOurs first)) is = is
gives bytes (Err (trouble.Layout version)) is = is
gives bytes (Err (trouble.Damaged place)) is = is
gives bytes (Err trouble.DiskFault) is = is
gives bytes (Err trouble.OutOfMemory) is = is

pub found_stands : (bytes : List ℕ) (result : Result Found Trouble) → Finds bytes result
    → IfOk result (λ found. StandsIn found.superblock bytes (payloads_on bytes found.extents.items))
found_stands bytes (Ok found) whole = stands_in bytes found whole
found_stands bytes (Err why) is = tt

-- a disk at rest keeps it
pub found_keeps : (kept : Kept) (result : Result Found Trouble) → kept ≡ at_rest kept.read → Finds kept.read result
    → IfOk result (λ found. KeepsIn found.superblock kept (payloads_on kept.read found.extents.items) × (found.end ≡ end_in found.superblock (payloads_on kept.read found.extents.items)))
found_keeps kept (Ok found) rests whole = (record { rests = rests; journal = ∣ is_journal kept.read found whole ∣₁ }, ends_there kept.read found whole)
found_keeps kept (Err why) rests is = tt
