-- Bytes are read once: they have one superblock at most, stand for one list at most, and are damaged at one place at most.
use Rattle.std.proofs.Common.{◌≡◌, ◌≢◌, ◌⊎◌, inl, inr, ⊎_elim, ℕ, ◌<◌, ◌≤◌, List, [], ◌∷◌, ◌++◌, length, drop, refl, sym, ◌∙◌, ap, subst, arith, length-append, Option, Some, None}
use Rattle.std.proofs.Props.{props}
use Rattle.std.proofs.Math.Logic.{∥∥₁_elim}
use Rattle.journal_records.specs.Records.{IsCutOff}
use Rattle.journal_areas.specs.declared.superblock.Slot.{Slot}
use Rattle.journal_areas.specs.declared.superblock.Superblock.{Superblock}
use Rattle.journal_areas.specs.Format.{open_gate, header, records, record_of, end_of, IsPayload}
use Rattle.journal_areas.specs.Superblocks.{superblock_in, current, IsSound}
use Rattle.journal_areas.specs.Areas.{IsPlain, HasSuperblock, IsUnmoved, IsMoved, Reached, end_in, IsJournal, IsShort, StandsIn, StandsFor, IsNoSuperblock, IsDamaged}
use Rattle.journal_areas.proofs.Records.{EndsRun, IsOfKind, heads, length-record, not_cut_off, same_run}
use Rattle.journal_areas.proofs.Reaching.{end_of_reached}

-- reading ends at this gate
abbrev pub EndsReading : Option Superblock → ℕ → ℕ → ℕ → List ℕ → Type 0
EndsReading super size place gate rest = (gate ≢ open_gate) ⊎ (IsCutOff rest ⊎ IsNoSuperblock super size place rest)

ends_run : (super : Option Superblock) (size place gate : ℕ) (rest : List ℕ) → EndsReading super size place gate rest → EndsRun gate rest
ends_run super size place gate rest (inl shut) = inl shut
ends_run super size place gate rest (inr (inl cut)) = inr (inl cut)
ends_run super size place gate rest (inr (inr n)) = inr (inr (record {
  payload = n.payload;
  more = n.more;
  is_payload = n.is_payload;
  kind = n.kind;
  some = n.some;
  are = n.are;
}))

after_header : (a b : List ℕ) → header ++ a ≡ header ++ b → a ≡ b
after_header a b same = ap (drop 12) same

-- ---- the superblock

fits : (bytes : List ℕ) (s : Superblock) (before : List (List ℕ)) (between : List ℕ) (has : HasSuperblock bytes s before between) → IsPayload has.payload
fits bytes s before between has = record { some = omega (arith, has.size); fits = omega (arith, has.size) }

is_kind : (bytes : List ℕ) (s : Superblock) (before : List (List ℕ)) (between : List ℕ) (has : HasSuperblock bytes s before between) → IsOfKind (record_of has.payload ++ between)
is_kind bytes s before between has = record {
  payload = has.payload;
  more = between;
  is_payload = fits bytes s before between has;
  kind = has.kind;
  some = has.some;
  are = refl;
}

-- there is one at most
same_superblock : (bytes : List ℕ) (s t : Superblock) (before after : List (List ℕ)) (x y : List ℕ) → HasSuperblock bytes s before x → HasSuperblock bytes t after y
    → (s ≡ t) × (before ≡ after) × (x ≡ y)
same_superblock bytes s t before after x y one two =
    let run = same_run before after open_gate open_gate (record_of one.payload ++ x) (record_of two.payload ++ y) one.plain two.plain
    (inr (inr (is_kind bytes s before x one))) (inr (inr (is_kind bytes t after y two))) (after_header _ _ (sym one.are ∙ two.are)) in
    let parts = heads one.payload two.payload x y (fits bytes s before x one) (fits bytes t after y two) run.2 in
    (one.says ∙ ap (λ (ps : List (List ℕ)). superblock_in (end_of ps) one.payload) run.0 ∙ ap (superblock_in (end_of after)) parts.0 ∙ sym two.says, run.0, parts.1)

-- where there is one, reading doesn't end before it
past_superblock : (bytes : List ℕ) (t : Superblock) (ps before : List (List ℕ)) (g : ℕ) (r between : List ℕ) → IsPlain bytes ps (g ∷ r)
    → EndsReading None (length bytes) (end_of ps) g r → HasSuperblock bytes t before between → ⊥
past_superblock bytes t ps before g r between plain ends has =
    let run = same_run ps before g open_gate r (record_of has.payload ++ between) plain.given has.plain
    (ends_run None (length bytes) (end_of ps) g r ends) (inr (inr (is_kind bytes t before between has))) (after_header _ _ (sym plain.are ∙ has.are)) in
    at run.1 run.2 (ap end_of run.0) ends
  where
    at : g ≡ open_gate → r ≡ record_of has.payload ++ between → end_of ps ≡ end_of before → EndsReading None (length bytes) (end_of ps) g r → ⊥
    at opened is place (inl shut) = shut opened
    at opened is place (inr (inl cut)) = not_cut_off has.payload between (fits bytes t before between has) has.some (subst IsCutOff is cut)
    at opened is place (inr (inr n)) =
        let parts = heads n.payload has.payload n.more between n.is_payload (fits bytes t before between has) (sym n.are ∙ is) in
        let says : superblock_in (end_of ps) n.payload ≡ t = ap (λ (m : ℕ). superblock_in m n.payload) place ∙ ap (superblock_in (end_of before)) parts.0 ∙ sym has.says in
        ⊎_elim (λ size. size (ap length parts.0 ∙ has.size)) (λ unsound. unsound (subst (IsSound (length bytes)) (sym says) has.sound)) n.unfit

-- ---- how far bytes are read

pub record IsOneReading (super other : Option Superblock) (ps qs : List (List ℕ)) (g h : ℕ) (r s : List ℕ) : Type 0 where
  pub superblock : super ≡ other
  pub payloads : ps ≡ qs
  pub gate : g ≡ h
  pub rest : r ≡ s

module _ (bytes : List ℕ) (s t : Superblock) (ps qs : List (List ℕ)) (g h : ℕ) (x y : List ℕ) (end_p : EndsRun g x) (end_q : EndsRun h y) where
  both_unmoved : IsUnmoved bytes s ps (g ∷ x) → IsUnmoved bytes t qs (h ∷ y) → IsOneReading (Some s) (Some t) ps qs g h x y
  both_unmoved one two =
      let same = same_superblock bytes s t one.before two.before (records one.after ++ g ∷ x) (records two.after ++ h ∷ y) one.has two.has in
      let run = same_run one.after two.after g h x y one.given two.given end_p end_q same.2 in
      record {
        superblock = ap Some same.0;
        payloads = one.all ∙ ap (λ (l : List (List ℕ)). l ++ one.after) same.1 ∙ ap (λ (l : List (List ℕ)). two.before ++ l) run.0 ∙ sym two.all;
        gate = run.1;
        rest = run.2;
      }

  both_moved : IsMoved bytes s ps (g ∷ x) → IsMoved bytes t qs (h ∷ y) → IsOneReading (Some s) (Some t) ps qs g h x y
  both_moved one two =
      let same = same_superblock bytes s t one.before two.before one.between two.between one.has two.has in
      let some : Some one.slot ≡ Some two.slot = sym one.counts ∙ ap current same.0 ∙ two.counts in
      let slot : one.slot ≡ two.slot = cc some in
      let run = same_run ps qs g h x y one.given two.given end_p end_q (sym one.are ∙ ap (λ (c : Slot). drop c.place bytes) slot ∙ two.are) in
      record { superblock = ap Some same.0; payloads = run.0; gate = run.1; rest = run.2 }

  moved_or_not : IsUnmoved bytes s ps (g ∷ x) → IsMoved bytes t qs (h ∷ y) → ⊥
  moved_or_not one two =
      let same = same_superblock bytes s t one.before two.before (records one.after ++ g ∷ x) two.between one.has two.has in
      let none : None ≡ Some two.slot = sym one.none ∙ ap current same.0 ∙ two.counts in
      absurd (cc none)

some_superblock : (bytes : List ℕ) (t : Superblock) (qs : List (List ℕ)) (rest : List ℕ) → Reached (Some t) bytes qs rest → (before : List (List ℕ)) × (between : List ℕ) × HasSuperblock bytes t before between
some_superblock bytes t qs rest (inl is) = (is.before, records is.after ++ rest, is.has)
some_superblock bytes t qs rest (inr is) = (is.before, is.between, is.has)

pub read_once : (bytes : List ℕ) (super other : Option Superblock) (ps qs : List (List ℕ)) (g h : ℕ) (x y : List ℕ)
    → Reached super bytes ps (g ∷ x) → Reached other bytes qs (h ∷ y)
    → EndsReading super (length bytes) (end_in super ps) g x → EndsReading other (length bytes) (end_in other qs) h y
    → IsOneReading super other ps qs g h x y
read_once bytes None None ps qs g h x y one two end_p end_q =
    let run = same_run ps qs g h x y one.given two.given (ends_run None (length bytes) (end_of ps) g x end_p) (ends_run None (length bytes) (end_of qs) h y end_q)
    (after_header _ _ (sym one.are ∙ two.are)) in
    record { superblock = refl; payloads = run.0; gate = run.1; rest = run.2 }
read_once bytes None (Some t) ps qs g h x y one two end_p end_q =
    let has = some_superblock bytes t qs (h ∷ y) two in
    absurd (past_superblock bytes t ps has.0 g x has.1 one end_p has.2)
read_once bytes (Some s) None ps qs g h x y one two end_p end_q =
    let has = some_superblock bytes s ps (g ∷ x) one in
    absurd (past_superblock bytes s qs has.0 h y has.1 two end_q has.2)
read_once bytes (Some s) (Some t) ps qs g h x y one two end_p end_q =
    let run_p = ends_run (Some s) (length bytes) (end_in (Some s) ps) g x end_p in
    let run_q = ends_run (Some t) (length bytes) (end_in (Some t) qs) h y end_q in
    ⊎_elim
    (λ u. ⊎_elim (λ v. both_unmoved bytes s t ps qs g h x y run_p run_q u v) (λ m. absurd (moved_or_not bytes s t ps qs g h x y run_p run_q u m)) two)
    (λ m. ⊎_elim (λ v. absurd (moved_or_not bytes t s qs ps h g y x run_q run_p v m)) (λ n. both_moved bytes s t ps qs g h x y run_p run_q m n) two)
    one

-- ---- what bytes stand for

pub one_journal : (bytes : List ℕ) (super other : Option Superblock) (ps qs : List (List ℕ)) → IsJournal super bytes ps → IsJournal other bytes qs → (super ≡ other) × (ps ≡ qs)
one_journal bytes super other ps qs one two =
    let once = read_once bytes super other ps qs one.gate two.gate one.rest two.rest one.reached two.reached (inl one.shut) (inl two.shut) in
    (once.superblock, once.payloads)

no_records : (payloads : List (List ℕ)) → length (records payloads) ≤ 0 → payloads ≡ []
no_records [] none = refl
no_records (p ∷ payloads) none = absurd (omega arith)

-- a journal of 13 bytes at most has no record
short_journal : (bytes : List ℕ) (super : Option Superblock) (payloads : List (List ℕ)) → length bytes ≤ 13 → IsJournal super bytes payloads → (super ≡ None) × (payloads ≡ [])
short_journal bytes None payloads short is =
    (refl, no_records payloads (omega (arith, short, end_of_reached None bytes payloads (is.gate ∷ is.rest) is.reached)))
short_journal bytes (Some s) payloads short is =
    let has = some_superblock bytes s payloads (is.gate ∷ is.rest) is.reached in
    absurd (omega (
      arith,
      short,
      has.2.size,
      ap length has.2.are,
      length-append (records has.0) (open_gate ∷ (record_of has.2.payload ++ has.1)),
      length-append (record_of has.2.payload) has.1,
      length-record has.2.payload,
    ))

stands_as_one : (bytes : List ℕ) (super other : Option Superblock) (ps qs : List (List ℕ)) → IsShort super bytes ps ⊎ IsJournal super bytes ps → IsShort other bytes qs ⊎ IsJournal other bytes qs
    → (super ≡ other) × (ps ≡ qs)
stands_as_one bytes super other ps qs (inl p) (inl q) = (p.no_superblock ∙ sym q.no_superblock, p.none ∙ sym q.none)
stands_as_one bytes super other ps qs (inl p) (inr q) = let is = short_journal bytes other qs p.short q in (p.no_superblock ∙ sym is.0, p.none ∙ sym is.1)
stands_as_one bytes super other ps qs (inr p) (inl q) = let is = short_journal bytes super ps q.short p in (is.0 ∙ sym q.no_superblock, is.1 ∙ sym q.none)
stands_as_one bytes super other ps qs (inr p) (inr q) = one_journal bytes super other ps qs p q

-- one superblock at most, and one list
pub stands_once : (bytes : List ℕ) (super other : Option Superblock) (ps qs : List (List ℕ)) → StandsIn super bytes ps → StandsIn other bytes qs → (super ≡ other) × (ps ≡ qs)
stands_once bytes super other ps qs one two =
    ∥∥₁_elim one (hlevel props) (λ p. ∥∥₁_elim two (hlevel props) (λ q. stands_as_one bytes super other ps qs p q))

pub stands_for_one : (bytes : List ℕ) (ps qs : List (List ℕ)) → StandsFor bytes ps → StandsFor bytes qs → ps ≡ qs
stands_for_one bytes ps qs one two =
    ∥∥₁_elim one (hlevel props) (λ p. ∥∥₁_elim two (hlevel props) (λ q. (stands_once bytes p.0 q.0 ps qs p.1 q.1).1))

-- more than 13 bytes
pub long_stands : (bytes : List ℕ) (super : Option Superblock) (payloads : List (List ℕ)) → 13 < length bytes → IsShort super bytes payloads ⊎ IsJournal super bytes payloads → IsJournal super bytes payloads
long_stands bytes super payloads long (inl short) = absurd (omega (arith, long, short.short))
long_stands bytes super payloads long (inr is) = is

damaged_ends : (bytes : List ℕ) (place : ℕ) (is : IsDamaged bytes place) → EndsReading is.super (length bytes) (end_in is.super is.payloads) open_gate is.rest
damaged_ends bytes place is = inr (subst (λ (n : ℕ). IsCutOff is.rest ⊎ IsNoSuperblock is.super (length bytes) n is.rest) is.is_place is.ends)

pub damaged_no_journal : (bytes : List ℕ) (super : Option Superblock) (payloads : List (List ℕ)) (place : ℕ) → IsJournal super bytes payloads → IsDamaged bytes place → ⊥
damaged_no_journal bytes super payloads place is damaged =
    is.shut ((read_once bytes super damaged.super payloads damaged.payloads is.gate open_gate is.rest damaged.rest is.reached damaged.reached (inl is.shut) (damaged_ends bytes place damaged)).gate)

-- damaged bytes stand for no list
pub damaged_stands_not : (bytes : List ℕ) (payloads : List (List ℕ)) (place : ℕ) → IsDamaged bytes place → StandsFor bytes payloads → ⊥
damaged_stands_not bytes payloads place damaged stands =
    ∥∥₁_elim stands (λ x y. absurd x) (λ is. ∥∥₁_elim is.1 (λ x y. absurd x)
    (λ one. damaged_no_journal bytes is.0 payloads place (long_stands bytes is.0 payloads damaged.long one) damaged))

-- and are damaged at one place
pub damaged_once : (bytes : List ℕ) (place other : ℕ) → IsDamaged bytes place → IsDamaged bytes other → place ≡ other
damaged_once bytes place other one two =
    let once = read_once bytes one.super two.super one.payloads two.payloads open_gate open_gate one.rest two.rest one.reached two.reached
    (damaged_ends bytes place one) (damaged_ends bytes other two) in
    one.is_place ∙ ap (λ (super : Option Superblock). end_in super one.payloads) once.superblock ∙ ap (end_in two.super) once.payloads ∙ sym two.is_place

-- they have the header
pub reached_header : (super : Option Superblock) (bytes : List ℕ) (payloads : List (List ℕ)) (rest : List ℕ) → Reached super bytes payloads rest → (behind : List ℕ) × (bytes ≡ header ++ behind)
reached_header None bytes payloads rest is = (records payloads ++ rest, is.are)
reached_header (Some s) bytes payloads rest is =
    let has = some_superblock bytes s payloads rest is in
    (records has.0 ++ open_gate ∷ (record_of has.2.payload ++ has.1), has.2.are)
