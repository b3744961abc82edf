-- A disk has one reading.
use Rattle.std.proofs.Common.{◌≡◌, ◌≢◌, ℕ, ◌<◌, true, List, ◌∷◌, ◌++◌, length, take, drop, sym, ◌∙◌, ap, subst, Option, Result, Ok, Err, IfSome}
use Rattle.std.proofs.Props.{props}
use Rattle.std.proofs.Math.Logic.{∥∥₁_elim, ∥∥₁_map}
use Rattle.byteorder.specs.Endian.{big_number}
use Rattle.journal_areas.specs.declared.superblock.Superblock.{Superblock}
use Rattle.journal_areas.proofs.Once.{damaged_once, damaged_stands_not, long_stands, reached_header, stands_once}
use Rattle.xt_journal.specs.Placed.{Placed, placed_on}
use Rattle.xt_journal.specs.declared.format.Found.{Found}
use Rattle.xt_journal.specs.Format.{sign, header, StandsFor, IsDamaged}
use Rattle.xt_journal.specs.Reading.{Reading, Stands, Foreign, Unknown, Damaged, ReadsAs, StandsAt, IsTheReading, payloads_of, placed_in}
use Rattle.xt_journal.specs.Parsed.{Gives, reading_found}
use Rattle.xt_journal.specs.declared.format.Trouble.{Trouble}
use Rattle.xt_journal.specs.declared.format.Trouble.TheVariants as trouble
pub use Rattle.journal_areas.proofs.Once.{stands_for_one}

module _ (bytes behind : List ℕ) (are : bytes ≡ header ++ behind) where
  own_sign : take 8 bytes ≡ sign
  own_sign = ap (λ (l : List ℕ). take 8 l) are

  own_layout : big_number 4 (drop 8 bytes) ≡ 1
  own_layout = ap (λ (l : List ℕ). big_number 4 (drop 8 l)) are

-- payloads that stand have the header before them
stands_header : (bytes : List ℕ) (placed : List Placed) → 13 < length bytes → ReadsAs bytes (Stands placed) → ∥ ((behind : List ℕ) × (bytes ≡ header ++ behind)) ∥₁
stands_header bytes placed long reads =
    ∥∥₁_elim reads (hlevel props) (λ is. ∥∥₁_map is.1.stands
    (λ either. let journal = long_stands bytes is.0 (payloads_of placed) long either in
    reached_header is.0 bytes (payloads_of placed) (journal.gate ∷ journal.rest) journal.reached))

damaged_header : (bytes : List ℕ) (place : ℕ) → IsDamaged bytes place → (behind : List ℕ) × (bytes ≡ header ++ behind)
damaged_header bytes place is = reached_header is.super bytes is.payloads _ is.reached

-- bytes that are read so stand for the payloads
pub reads_stand : (bytes : List ℕ) (placed : List Placed) → ReadsAs bytes (Stands placed) → StandsFor bytes (payloads_of placed)
reads_stand bytes placed reads = ∥∥₁_map reads (λ is. (is.0, is.1.stands))

same_places : (bytes : List ℕ) (p q : List Placed) → (super : Option Superblock) × StandsAt super bytes p → (other : Option Superblock) × StandsAt other bytes q → p ≡ q
same_places bytes p q one two =
    let once = stands_once bytes one.0 two.0 (payloads_of p) (payloads_of q) one.1.stands two.1.stands in
    one.1.places ∙ ap (λ (super : Option Superblock). placed_in super (payloads_of p)) once.0 ∙ ap (placed_in two.0) once.1 ∙ sym two.1.places

no_sign : (bytes first : List ℕ) → first ≡ take 8 bytes → first ≢ sign → ∥ ((behind : List ℕ) × (bytes ≡ header ++ behind)) ∥₁ → ⊥
no_sign bytes first is other has = ∥∥₁_elim has (λ x y. absurd x) (λ h. other (is ∙ own_sign bytes h.0 h.1))

no_layout : (bytes : List ℕ) (version : ℕ) → version ≡ big_number 4 (drop 8 bytes) → version ≢ 1 → ∥ ((behind : List ℕ) × (bytes ≡ header ++ behind)) ∥₁ → ⊥
no_layout bytes version is other has = ∥∥₁_elim has (λ x y. absurd x) (λ h. other (is ∙ own_layout bytes h.0 h.1))

pub one_reading : (bytes : List ℕ) (one two : Reading) → ReadsAs bytes one → ReadsAs bytes two → one ≡ two
one_reading bytes (Stands p) (Stands q) one two =
    let same : p ≡ q = ∥∥₁_elim one (hlevel props) (λ x. ∥∥₁_elim two (hlevel props) (λ y. same_places bytes p q x y)) in
    ap Stands same
one_reading bytes (Stands p) (Foreign first) one two = absurd (no_sign bytes first two.1 two.2 (stands_header bytes p two.0 one))
one_reading bytes (Stands p) (Unknown version) one two = absurd (no_layout bytes version two.2 two.3 (stands_header bytes p two.0 one))
one_reading bytes (Stands p) (Damaged place) one two = absurd (damaged_stands_not bytes (payloads_of p) place two (reads_stand bytes p one))
one_reading bytes (Foreign first) (Stands q) one two = absurd (no_sign bytes first one.1 one.2 (stands_header bytes q one.0 two))
one_reading bytes (Foreign first) (Foreign other) one two = ap Foreign (one.1 ∙ sym two.1)
one_reading bytes (Foreign first) (Unknown version) one two = absurd (one.2 (one.1 ∙ two.1))
one_reading bytes (Foreign first) (Damaged place) one two = absurd (no_sign bytes first one.1 one.2 ∣ damaged_header bytes place two ∣₁)
one_reading bytes (Unknown version) (Stands q) one two = absurd (no_layout bytes version one.2 one.3 (stands_header bytes q one.0 two))
one_reading bytes (Unknown version) (Foreign first) one two = absurd (two.2 (two.1 ∙ one.1))
one_reading bytes (Unknown version) (Unknown other) one two = ap Unknown (one.2 ∙ sym two.2)
one_reading bytes (Unknown version) (Damaged place) one two = absurd (no_layout bytes version one.2 one.3 ∣ damaged_header bytes place two ∣₁)
one_reading bytes (Damaged place) (Stands q) one two = absurd (damaged_stands_not bytes (payloads_of q) place one (reads_stand bytes q two))
one_reading bytes (Damaged place) (Foreign first) one two = absurd (no_sign bytes first two.1 two.2 ∣ damaged_header bytes place one ∣₁)
one_reading bytes (Damaged place) (Unknown version) one two = absurd (no_layout bytes version two.2 two.3 ∣ damaged_header bytes place one ∣₁)
one_reading bytes (Damaged place) (Damaged other) one two = ap Damaged (damaged_once bytes place other one two)

read : (bytes same : List ℕ) (reading : Reading) → same ≡ bytes → ReadsAs same reading → IsTheReading bytes reading
read bytes same reading is reads =
    let here : ReadsAs bytes reading = subst (λ (l : List ℕ). ReadsAs l reading) is reads in
    record { reads = here; no_other = λ other also. one_reading bytes other reading also here }

pub the_reading : (bytes same : List ℕ) (result : Result Found Trouble) → same ≡ bytes → Gives same result → IfSome (reading_found bytes result) (IsTheReading bytes)
the_reading bytes same (Ok found) is gives =
    let extents = found.extents.items in
    read bytes same (Stands (placed_on true bytes extents)) is (subst (λ (l : List ℕ). ReadsAs same (Stands (placed_on true l extents))) is gives)
the_reading bytes same (Err (trouble.NotOurs first)) is gives = read bytes same (Foreign first) is gives
the_reading bytes same (Err (trouble.Layout version)) is gives = read bytes same (Unknown version) is gives
the_reading bytes same (Err (trouble.Damaged place)) is gives = read bytes same (Damaged place) is gives
the_reading bytes same (Err trouble.DiskFault) is gives = gives
the_reading bytes same (Err trouble.OutOfMemory) is gives = gives
