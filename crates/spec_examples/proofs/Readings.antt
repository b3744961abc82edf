-- What bytes are read as, by the payloads in them.
use Rattle.std.proofs.Common.{◌≡◌, ◌^◌, ◌<◌, ℕ, inl, inr, Bool, true, ◌&&◌, not, eqb, ltb, leb, false, List, [], ◌∷◌, ◌++◌, drop}
use Rattle.std.proofs.Common.{length, refl, ap, sym, subst, arith, Option, Some, None}
use Rattle.std.specs.Prelude.{slice_index}
use Rattle.std.specs.List.{AllByRecursion}
use Rattle.std.proofs.lemmas.Bool.{and_parts, eqb-false, ltb-true, leb-true}
use Rattle.std.proofs.lemmas.List.Elements.{All-from_recursion}
use Rattle.journal_records.specs.Records.{IsCutOff}
use Rattle.journal_areas.specs.declared.superblock.Slot.{Slot}
use Rattle.journal_areas.specs.declared.superblock.Superblock.{Superblock}
use Rattle.journal_areas.specs.Superblocks.{superblock_in, superblock_size, current, IsSound}
use Rattle.journal_areas.specs.Areas.{HasSuperblock, IsUnsound}
use Rattle.journal_areas.proofs.Reaching.{Meets, met_has, met_shut}
use Rattle.xt_journal.specs.Format.{header, open_gate, records, record_of, end_of, end_in, superblock_kind, IsGiven, AreGiven, IsJournal, Reached, StandsIn}
use Rattle.xt_journal.specs.Reading.{ReadsAs, Stands, Damaged, placed_from, placed_in}
use Rattle.xt_journal.proofs.Push.{payloads_in}

-- this, and what follows
infixr 5 ◌▷◌
pub ◌▷◌ : {A B : Type 0} → A → B → A × B
a ▷ b = (a, b)

-- whether each is a payload that is handed up
abbrev pub are_payloads : List (List ℕ) → Bool
are_payloads [] = true
are_payloads (p ∷ ps) = (leb 1 (length p) && ltb (length p) (2 ^ 32)) && (not (eqb (slice_index p 0) superblock_kind) && are_payloads ps)

is_not : (b : Bool) → not b ≡ true → b ≡ false
is_not true is = absurd cc
is_not false is = refl

each_given : (payloads : List (List ℕ)) → are_payloads payloads ≡ true → AllByRecursion IsGiven payloads
each_given [] is = tt
each_given (p ∷ ps) is =
    let parts = and_parts (leb 1 (length p) && ltb (length p) (2 ^ 32)) (not (eqb (slice_index p 0) superblock_kind) && are_payloads ps) is in
    let here = and_parts (leb 1 (length p)) (ltb (length p) (2 ^ 32)) parts.0 in
    let later = and_parts (not (eqb (slice_index p 0) superblock_kind)) (are_payloads ps) parts.1 in (
      record {
        fits = record { some = leb-true _ _ here.0; fits = ltb-true _ _ here.1 };
        kind = eqb-false (slice_index p 0) superblock_kind (is_not (eqb (slice_index p 0) superblock_kind) later.0);
      },
      each_given ps later.1,
    )

given : (payloads : List (List ℕ)) → are_payloads payloads ≡ true → AreGiven payloads
given payloads is = All-from_recursion IsGiven payloads (each_given payloads is)

-- a journal with this superblock or none stands for its payloads, each in its place
stands_placed : {bytes : List ℕ} (super : Option Superblock) (payloads : List (List ℕ)) → IsJournal super bytes payloads → ReadsAs bytes (Stands (placed_in super payloads))
stands_placed {bytes = bytes} super payloads journal =
    let same = sym (payloads_in super payloads) in
    ∣ (super, record { stands = subst (StandsIn super bytes) same ∣ inr journal ∣₁; places = ap (placed_in super) same }) ∣₁

-- in 13 bytes no record stands
pub short : {bytes : List ℕ} → ltb (length bytes) 14 ≡ true → ReadsAs bytes (Stands [])
short {bytes = bytes} few =
    let less : length bytes < 14 = ltb-true _ _ few in
    ∣ (None, record { stands = ∣ inl (record { short = omega (arith, less); none = refl; no_superblock = refl }) ∣₁; places = refl }) ∣₁

module _ {bytes : List ℕ} (payloads : List (List ℕ)) where
  -- these payloads, and a gate that isn't open
  pub stand : (gate : ℕ) (rest : List ℕ) → are_payloads payloads ≡ true → eqb gate open_gate ≡ false
      → bytes ≡ header ++ (records payloads ++ gate ∷ rest) → ReadsAs bytes (Stands (placed_from 12 payloads))
  stand gate rest is shut are =
      stands_placed None payloads (record { gate = gate; rest = rest; shut = eqb-false gate open_gate shut; reached = record { given = given payloads is; are = are } })

  -- these payloads, and an open gate that no record follows
  pub cut : (rest : List ℕ) → are_payloads payloads ≡ true → ltb 13 (length bytes) ≡ true
      → bytes ≡ header ++ (records payloads ++ open_gate ∷ rest) → IsCutOff rest → ReadsAs bytes (Damaged (end_of payloads))
  cut rest is long are cut_off = record {
    long = ltb-true _ _ long;
    super = None;
    payloads = payloads;
    rest = rest;
    reached = record { given = given payloads is; are = are };
    is_place = refl;
    ends = inl cut_off;
  }

  -- after these, a record of a superblock's kind that can't be one in its place
  pub unfit : (payload more : List ℕ) → are_payloads payloads ≡ true → ltb 13 (length bytes) ≡ true
      → bytes ≡ header ++ (records payloads ++ open_gate ∷ (record_of payload ++ more)) → slice_index payload 0 ≡ superblock_kind → ltb 0 (length payload) ≡ true
      → ltb (length payload) (2 ^ 32) ≡ true → ltb 0 (length more) ≡ true → IsUnsound (length bytes) (end_of payloads) payload → ReadsAs bytes (Damaged (end_of payloads))
  unfit payload more is long are kind some fits more_some unsound = record {
    long = ltb-true _ _ long;
    super = None;
    payloads = payloads;
    rest = record_of payload ++ more;
    reached = record { given = given payloads is; are = are };
    is_place = refl;
    ends = inr (record {
      payload = payload;
      more = more;
      is_payload = record { some = ltb-true _ _ some; fits = ltb-true _ _ fits };
      kind = kind;
      some = ltb-true _ _ more_some;
      are = refl;
      unfit = unsound;
    });
  }

  -- a superblock after these
  module _ (payload more : List ℕ) (s : Superblock) where
    pub meets : are_payloads payloads ≡ true → bytes ≡ header ++ (records payloads ++ open_gate ∷ (record_of payload ++ more))
        → slice_index payload 0 ≡ superblock_kind → length payload ≡ superblock_size → s ≡ superblock_in (end_of payloads) payload
        → IsSound (length bytes) s → ltb 0 (length more) ≡ true → Meets bytes payloads payload more s
    meets is are kind size says sound some = record {
      reached = record { given = given payloads is; are = are };
      kind = kind;
      size = size;
      says = says;
      sound = sound;
      some = ltb-true _ _ some;
    }

    -- one of its slots counts
    pub moved : (slot : Slot) (standing : List (List ℕ)) (gate : ℕ) (rest : List ℕ) → Meets bytes payloads payload more s → current s ≡ Some slot
        → are_payloads standing ≡ true → eqb gate open_gate ≡ false → drop slot.place bytes ≡ records standing ++ gate ∷ rest
        → ReadsAs bytes (Stands (placed_in (Some s) standing))
    moved slot standing gate rest met counts is shut are = stands_placed (Some s) standing (record {
      gate = gate;
      rest = rest;
      shut = eqb-false gate open_gate shut;
      reached = inr (record {
        before = payloads;
        between = more;
        has = met_has bytes payloads payload more s met;
        slot = slot;
        counts = counts;
        given = given standing is;
        are = are;
      });
    })

    -- none does, and these stand after it
    pub unmoved : (later : List (List ℕ)) (gate : ℕ) (rest : List ℕ) → Meets bytes payloads payload more s → current s ≡ None
        → are_payloads later ≡ true → eqb gate open_gate ≡ false → more ≡ records later ++ gate ∷ rest
        → ReadsAs bytes (Stands (placed_in (Some s) (payloads ++ later)))
    unmoved later gate rest met none is shut are = stands_placed (Some s) (payloads ++ later) (record {
      gate = gate;
      rest = rest;
      shut = eqb-false gate open_gate shut;
      reached = inl (record {
        before = payloads;
        after = later;
        has = subst (HasSuperblock bytes s payloads) are (met_has bytes payloads payload more s met);
        none = none;
        given = given later is;
        all = refl;
      });
    })

    -- a second one after it
    pub second : (other last : List ℕ) → Meets bytes payloads payload more s → current s ≡ None → ltb 13 (length bytes) ≡ true
        → more ≡ open_gate ∷ (record_of other ++ last) → slice_index other 0 ≡ superblock_kind → ltb 0 (length other) ≡ true → ltb (length other) (2 ^ 32) ≡ true
        → ltb 0 (length last) ≡ true → ReadsAs bytes (Damaged (end_in (Some s) payloads))
    second other last met none long are kind some fits last_some = record {
      long = ltb-true _ _ long;
      super = Some s;
      payloads = payloads;
      rest = record_of other ++ last;
      reached = subst (Reached (Some s) bytes payloads) are (met_shut bytes payloads payload more s met none);
      is_place = refl;
      ends = inr (record {
        payload = other;
        more = last;
        is_payload = record { some = ltb-true _ _ some; fits = ltb-true _ _ fits };
        kind = kind;
        some = ltb-true _ _ last_some;
        are = refl;
        unfit = tt;
      });
    }
