-- where the payloads of a journal are among its bytes
use Rattle.std.proofs.Common.{◌≡◌, ⊎_elim, ℕ, ◌+◌, ◌≤◌, suc, List, [], ◌∷◌, ◌++◌, length, map, take, refl, sym, ◌∙◌, ap, subst, arith, append_assoc, length-append, take-append-drop, Option, Some, None}
use Rattle.std.specs.Prelude.{nat_lt, if◌then◌else◌}
use Rattle.std.specs.List.{AllByRecursion}
use Rattle.std.proofs.lemmas.Bool.{cond-false, le-ltb}
use Rattle.std.proofs.lemmas.List.{length-take-le, map-append}
use Rattle.journal_areas.specs.declared.superblock.Slot.{Slot}
use Rattle.journal_areas.specs.declared.superblock.Superblock.{Superblock}
use Rattle.journal_areas.specs.Areas.{IsUnmoved, IsMoved, end_by}
use Rattle.journal_areas.proofs.Reaching.{counts_inside, has_front, has_gate, has_length, up_to}
use Rattle.journal_areas.proofs.Records.{length-record, records-append}
use Rattle.xt_journal.specs.Placed.{Placed}
use Rattle.xt_journal.specs.Format.{open_gate, header, record_of, records, Reached, end_in, AreGiven}
use Rattle.xt_journal.specs.Parsed.{IsAt}
use Rattle.xt_journal.specs.Reading.{placed_from, past, placed_by, placed_in}
use Rattle.xt_journal.proofs.Push.{none_past}

-- a payload is there, and what comes after it is not past an end
pub record IsInside (bytes : List ℕ) (end : ℕ) (p : Placed) : Type 0 where
  pub there : IsAt bytes p
  pub before : p.gate + (5 + length p.bytes) ≤ end

abbrev pub AreInside : List ℕ → ℕ → List Placed → Type 0
AreInside bytes end placed = AllByRecursion (IsInside bytes end) placed

inside-append : (bytes : List ℕ) (end : ℕ) (ps qs : List Placed) → AreInside bytes end ps → AreInside bytes end qs → AreInside bytes end (ps ++ qs)
inside-append bytes end [] qs first second = second
inside-append bytes end (p ∷ ps) qs first second = (first.0, inside-append bytes end ps qs first.1 second)

rest_given : (p : List ℕ) (ps : List (List ℕ)) → AreGiven (p ∷ ps) → AreGiven ps
rest_given p ps given = λ k d less. given (suc k) d (omega (arith, less))

-- one after the other
pub inside_from : (bytes front : List ℕ) (gate end : ℕ) (payloads : List (List ℕ)) (rest : List ℕ) → AreGiven payloads → bytes ≡ front ++ (records payloads ++ rest)
    → length front ≡ gate → gate + length (records payloads) ≤ end → AreInside bytes end (placed_from gate payloads)
inside_from bytes front gate end [] rest given are size below = tt
inside_from bytes front gate end (p ∷ ps) rest given are size below =
    let first = given 0 p (omega arith) in
    let whole : length (records (p ∷ ps)) ≡ (5 + length p) + length (records ps) = omega (arith, length-append (record_of p) (records ps), length-record p) in
    let here : bytes ≡ front ++ open_gate ∷ (record_of p ++ (records ps ++ rest)) = are ∙ ap (λ (l : List ℕ). front ++ open_gate ∷ l) (append_assoc (record_of p) (records ps) rest) in
    let next : bytes ≡ (front ++ open_gate ∷ record_of p) ++ (records ps ++ rest) = here ∙ sym (append_assoc front (open_gate ∷ record_of p) (records ps ++ rest)) in (
      record {
        there = record { front = front; later = records ps ++ rest; are = here; place = size; fits = omega (arith, first.fits.fits) };
        before = omega (arith, whole, below);
      },
      inside_from bytes (front ++ open_gate ∷ record_of p) (gate + (5 + length p)) end ps rest (rest_given p ps given) next
          (omega (arith, length-append front (open_gate ∷ record_of p), length-record p, size)) (omega (arith, whole, below)),
    )

-- ---- payloads before and after a superblock

placed_from-append : (gate : ℕ) (ps qs : List (List ℕ)) → placed_from gate (ps ++ qs) ≡ placed_from gate ps ++ placed_from (gate + length (records ps)) qs
placed_from-append gate [] qs = let here : gate ≡ gate + 0 = omega arith in ap (λ (g : ℕ). placed_from g qs) here
placed_from-append gate (p ∷ ps) qs =
    let there : (gate + (5 + length p)) + length (records ps) ≡ gate + length (records (p ∷ ps)) = omega (arith, length-append (record_of p) (records ps), length-record p) in
    ap (λ (l : List Placed). record { gate = gate; bytes = p } ∷ l)
    (placed_from-append (gate + (5 + length p)) ps qs ∙ ap (λ (g : ℕ). placed_from (gate + (5 + length p)) ps ++ placed_from g qs) there)

all_past : (place gate : ℕ) (payloads : List (List ℕ)) → place ≤ gate → map (past place) (placed_from gate payloads) ≡ placed_from (gate + 56) payloads
all_past place gate [] below = refl
all_past place gate (p ∷ payloads) below =
    let here : (if nat_lt gate place then gate else gate + 56) ≡ gate + 56 = cond-false (nat_lt gate place) gate (gate + 56) (le-ltb gate place below) in
    let there : (gate + (5 + length p)) + 56 ≡ (gate + 56) + (5 + length p) = omega arith in
    ap (λ (g : ℕ). record { gate = g; bytes = p } ∷ map (past place) (placed_from (gate + (5 + length p)) payloads)) here
    ∙ ap (λ (l : List Placed). record { gate = gate + 56; bytes = p } ∷ l)
    (all_past place (gate + (5 + length p)) payloads (omega (arith, below)) ∙ ap (λ (g : ℕ). placed_from g payloads) there)

-- ---- payloads after those of a journal: the first one's gate is where it ends

past-append : (place : ℕ) (payloads more : List (List ℕ)) → place ≤ 12 + length (records payloads)
    → map (past place) (placed_from 12 (payloads ++ more)) ≡ map (past place) (placed_from 12 payloads) ++ placed_from (68 + length (records payloads)) more
past-append place payloads more below =
    let gate = 12 + length (records payloads) in
    let there : gate + 56 ≡ 68 + length (records payloads) = omega arith in
    ap (map (past place)) (placed_from-append 12 payloads more) ∙ map-append (past place) (placed_from 12 payloads) (placed_from gate more)
    ∙ ap (λ (l : List Placed). map (past place) (placed_from 12 payloads) ++ l) (all_past place gate more below ∙ ap (λ (g : ℕ). placed_from g more) there)

module _ (bytes : List ℕ) (s : Superblock) (payloads more : List (List ℕ)) (rest : List ℕ) where
  abbrev placed_then : Option Slot → List Placed
  placed_then slot = placed_by s slot payloads ++ placed_from (end_by s slot payloads) more

  unmoved-append : IsUnmoved bytes s payloads rest → placed_in (Some s) (payloads ++ more) ≡ placed_in (Some s) payloads ++ placed_from (end_in (Some s) payloads) more
  unmoved-append is =
      let gate = has_gate bytes s is.before (records is.after ++ rest) is.has in
      let size : length (records payloads) ≡ length (records is.before) + length (records is.after) =
      ap (λ (ps : List (List ℕ)). length (records ps)) is.all ∙ ap length (records-append is.before is.after) ∙ length-append (records is.before) (records is.after) in
      ap (λ (c : Option Slot). placed_by s c (payloads ++ more)) is.none ∙ past-append s.gate payloads more (omega (arith, gate, size)) ∙ sym (ap placed_then is.none)

  moved-append : IsMoved bytes s payloads rest → placed_in (Some s) (payloads ++ more) ≡ placed_in (Some s) payloads ++ placed_from (end_in (Some s) payloads) more
  moved-append is =
      ap (λ (c : Option Slot). placed_by s c (payloads ++ more)) is.counts ∙ placed_from-append is.slot.place payloads more ∙ sym (ap placed_then is.counts)

pub placed_in-append : (super : Option Superblock) (bytes : List ℕ) (payloads more : List (List ℕ)) (rest : List ℕ) → Reached super bytes payloads rest
    → placed_in super (payloads ++ more) ≡ placed_in super payloads ++ placed_from (end_in super payloads) more
placed_in-append None bytes payloads more rest is = placed_from-append 12 payloads more
placed_in-append (Some s) bytes payloads more rest is = ⊎_elim (unmoved-append bytes s payloads more rest) (moved-append bytes s payloads more rest) is

-- ---- payloads among the bytes

module _ (bytes : List ℕ) (s : Superblock) (payloads : List (List ℕ)) (rest : List ℕ) where
  unmoved : IsUnmoved bytes s payloads rest → AreInside bytes (end_in (Some s) payloads) (placed_in (Some s) payloads)
  unmoved is =
      let has = is.has in
      let after = records is.after ++ rest in
      let gate = has_gate bytes s is.before after has in
      let end = end_in (Some s) payloads in
      let size : length (records payloads) ≡ length (records is.before) + length (records is.after) =
      ap (λ (ps : List (List ℕ)). length (records ps)) is.all ∙ ap length (records-append is.before is.after) ∙ length-append (records is.before) (records is.after) in
      let ends : end ≡ 68 + length (records payloads) = ap (λ (c : Option Slot). end_by s c payloads) is.none in
      let there : 12 + length (records is.before) ≡ s.gate = sym gate in
      let split : placed_in (Some s) payloads ≡ placed_from 12 is.before ++ placed_from (s.gate + 56) is.after =
      ap (λ (c : Option Slot). placed_by s c payloads) is.none
      ∙ ap (λ (ps : List (List ℕ)). map (past s.gate) (placed_from 12 ps)) is.all
      ∙ ap (map (past s.gate)) (placed_from-append 12 is.before is.after ∙ ap (λ (g : ℕ). placed_from 12 is.before ++ placed_from g is.after) there)
      ∙ map-append (past s.gate) (placed_from 12 is.before) (placed_from s.gate is.after)
      ∙ ap (λ (l : List Placed). l ++ map (past s.gate) (placed_from s.gate is.after)) (none_past s.gate 12 is.before (omega (arith, there)))
      ∙ ap (λ (l : List Placed). placed_from 12 is.before ++ l) (all_past s.gate s.gate is.after (omega arith)) in
      subst (AreInside bytes end) (sym split)
      (inside-append bytes end (placed_from 12 is.before) (placed_from (s.gate + 56) is.after)
      (inside_from bytes header 12 end is.before (open_gate ∷ (record_of has.payload ++ after)) has.plain has.are refl (omega (arith, ends, size)))
      (inside_from bytes (up_to is.before has.payload) (s.gate + 56) end is.after rest is.given (has_front bytes s is.before after has) (has_length bytes s is.before after has)
      (omega (arith, ends, size, there))))

  moved : IsMoved bytes s payloads rest → AreInside bytes (end_in (Some s) payloads) (placed_in (Some s) payloads)
  moved is =
      let site = counts_inside (length bytes) s is.slot is.has.sound is.counts in
      let end = end_in (Some s) payloads in
      let ends : end ≡ is.slot.place + length (records payloads) = ap (λ (c : Option Slot). end_by s c payloads) is.counts in
      let places : placed_in (Some s) payloads ≡ placed_from is.slot.place payloads = ap (λ (c : Option Slot). placed_by s c payloads) is.counts in
      let split : bytes ≡ take is.slot.place bytes ++ (records payloads ++ rest) =
      sym (take-append-drop is.slot.place bytes) ∙ ap (λ (l : List ℕ). take is.slot.place bytes ++ l) is.are in
      subst (AreInside bytes end) (sym places)
      (inside_from bytes (take is.slot.place bytes) is.slot.place end payloads rest is.given split (length-take-le is.slot.place bytes (omega (arith, site.1))) (omega (arith, ends)))

-- the payloads that count
pub inside_in : (super : Option Superblock) (bytes : List ℕ) (payloads : List (List ℕ)) (rest : List ℕ) → Reached super bytes payloads rest
    → AreInside bytes (end_in super payloads) (placed_in super payloads)
inside_in None bytes payloads rest is = inside_from bytes header 12 (end_in None payloads) payloads rest is.given is.are refl (omega arith)
inside_in (Some s) bytes payloads rest is = ⊎_elim (unmoved bytes s payloads rest) (moved bytes s payloads rest) is
