-- Which slot counts, once the other one gets other numbers or another gate.
use Rattle.std.proofs.Common.{◌≡◌, ◌≢◌, ℕ, ◌+◌, ◌<◌, ◌≤◌, ◌&&◌, ◌==◌, not, nat_lt, if◌then◌else◌, Bool, true, false, Option, Some, None, refl, ◌∙◌, subst, arith}
use Rattle.std.proofs.lemmas.Bool.{eq-eqb, eqb-true, ne_eqb, lt-ltb, le-ltb}
use Rattle.journal_areas.specs.declared.superblock.Slot.{Slot}
use Rattle.journal_areas.specs.declared.superblock.Superblock.{Superblock}
use Rattle.journal_areas.specs.Format.{open_gate}
use Rattle.journal_areas.specs.Superblocks.{current, base_of, IsOpen, IsSite, IsSound}
use Rattle.journal_areas.specs.Sites.{is_second, put, number_after}

-- the slot that counts, by what is asked of the two
pick : Bool → Bool → Bool → Slot → Slot → Option Slot
pick a b l one two = if a then (if b && l then Some two else Some one) else (if b then Some two else None)

-- the second slot is the one that doesn't count
shut_second : (a b l c m : Bool) (one two g : Slot) → true ≡ (a && not (b && l)) → c ≡ false → pick a c m one g ≡ pick a b l one two
unfolding pick
shut_second true true true c m one two g is shut = absurd cc
shut_second true true false false m one two g is shut = refl
shut_second true true false true m one two g is shut = absurd cc
shut_second true false l false m one two g is shut = refl
shut_second true false l true m one two g is shut = absurd cc
shut_second false b l c m one two g is shut = absurd cc

shut_first : (a b l c m : Bool) (one two g : Slot) → false ≡ (a && not (b && l)) → c ≡ false → pick c b m g two ≡ pick a b l one two
unfolding pick
shut_first a b l true m one two g is shut = absurd cc
shut_first true true true false m one two g is shut = refl
shut_first true true false false m one two g is shut = absurd cc
shut_first true false l false m one two g is shut = absurd cc
shut_first false b l false m one two g is shut = refl

second_number : (a b l : Bool) (one two : Slot) → true ≡ (a && not (b && l)) → number_after (pick a b l one two) ≡ one.number + 1
unfolding pick
second_number true true true one two is = absurd cc
second_number true true false one two is = refl
second_number true false l one two is = refl
second_number false b l one two is = absurd cc

first_number : (a b l : Bool) (one two : Slot) → false ≡ (a && not (b && l)) → b ≡ true → number_after (pick a b l one two) ≡ two.number + 1
unfolding pick
first_number true true true one two is opens = refl
first_number true true false one two is opens = absurd cc
first_number a false l one two is opens = absurd cc
first_number false true l one two is opens = refl

second_open : (a b l c m : Bool) (one n : Slot) → true ≡ (a && not (b && l)) → c ≡ true → m ≡ true → pick a c m one n ≡ Some n
unfolding pick
second_open true b l true true one n is opens more = refl
second_open true b l true false one n is opens more = absurd cc
second_open true b l false m one n is opens more = absurd cc
second_open false b l c m one n is opens more = absurd cc

first_open : (b c m : Bool) (n two : Slot) → c ≡ true → (b ≡ true → m ≡ false) → pick c b m n two ≡ Some n
unfolding pick
first_open true true true n two opens less = let no = less refl in absurd cc
first_open true true false n two opens less = refl
first_open false true m n two opens less = refl
first_open b false m n two opens less = absurd cc

again_second : (a b l c m : Bool) → true ≡ (a && not (b && l)) → c ≡ false → true ≡ (a && not (c && m))
again_second true b l false m is shut = refl
again_second true b l true m is shut = absurd cc
again_second false b l c m is shut = absurd cc

again_first : (c b m : Bool) → c ≡ false → false ≡ (c && not (b && m))
again_first false b m shut = refl
again_first true b m shut = absurd cc

picked : (P : Slot → Type 0) (a b l : Bool) (one two slot : Slot) → (a ≡ true → P one) → (b ≡ true → P two) → pick a b l one two ≡ Some slot → P slot
unfolding pick
picked P true true true one two slot f g is = subst P (cc is) (g refl)
picked P true true false one two slot f g is = subst P (cc is) (f refl)
picked P true false l one two slot f g is = subst P (cc is) (f refl)
picked P false true l one two slot f g is = subst P (cc is) (g refl)
picked P false false l one two slot f g is = absurd cc

-- the slot that counts is open, and so its area may begin where it says
pub counts_site : (size : ℕ) (s : Superblock) (slot : Slot) → IsSound size s → current s ≡ Some slot → IsSite s size slot
unfolding pick
counts_site size s slot sound is =
    picked (IsSite s size) (s.one.gate == open_gate) (s.two.gate == open_gate) (nat_lt s.one.number s.two.number) s.one s.two slot
    (λ opens. sound.one (eqb-true s.one.gate open_gate opens)) (λ opens. sound.two (eqb-true s.two.gate open_gate opens)) is

-- in a longer journal what is sound stays so
pub sound_longer : (size more : ℕ) (s : Superblock) → size ≤ more → IsSound size s → IsSound more s
sound_longer size more s le sound = record {
  one = λ opens. ((sound.one opens).0, omega (arith, le, (sound.one opens).1));
  two = λ opens. ((sound.two opens).0, omega (arith, le, (sound.two opens).1));
  differ = sound.differ;
}

-- while the other slot is shut, the same one counts
pub current_shut : (second : Bool) (s : Superblock) (g : Slot) → second ≡ is_second s → g.gate ≢ open_gate → current (put second s g) ≡ current s
unfolding pick
current_shut true s g is shut =
    shut_second (s.one.gate == open_gate) (s.two.gate == open_gate) (nat_lt s.one.number s.two.number) (g.gate == open_gate) (nat_lt s.one.number g.number) s.one s.two g is
    (ne_eqb g.gate open_gate shut)
current_shut false s g is shut =
    shut_first (s.one.gate == open_gate) (s.two.gate == open_gate) (nat_lt s.one.number s.two.number) (g.gate == open_gate) (nat_lt g.number s.two.number) s.one s.two g is
    (ne_eqb g.gate open_gate shut)

pub sound_shut : (size : ℕ) (second : Bool) (s : Superblock) (g : Slot) → IsSound size s → g.gate ≢ open_gate → IsSound size (put second s g)
sound_shut size true s g sound shut = record { one = sound.one; two = λ opens. absurd (shut opens); differ = λ one opens. absurd (shut opens) }
sound_shut size false s g sound shut = record { one = λ opens. absurd (shut opens); two = sound.two; differ = λ opens two. absurd (shut opens) }

-- once it is open with the next number, it counts
pub current_open : (second : Bool) (s : Superblock) (n : Slot) → second ≡ is_second s → IsOpen n → n.number ≡ number_after (current s) → current (put second s n) ≡ Some n
unfolding pick
current_open true s n is opens next =
    let number = second_number (s.one.gate == open_gate) (s.two.gate == open_gate) (nat_lt s.one.number s.two.number) s.one s.two is in
    second_open (s.one.gate == open_gate) (s.two.gate == open_gate) (nat_lt s.one.number s.two.number) (n.gate == open_gate) (nat_lt s.one.number n.number) s.one n is
    (eq-eqb n.gate open_gate opens) (lt-ltb s.one.number n.number (omega (arith, next ∙ number)))
current_open false s n is opens next =
    first_open (s.two.gate == open_gate) (n.gate == open_gate) (nat_lt n.number s.two.number) n s.two (eq-eqb n.gate open_gate opens)
    (λ two.
    let number = first_number (s.one.gate == open_gate) (s.two.gate == open_gate) (nat_lt s.one.number s.two.number) s.one s.two is two in
    le-ltb n.number s.two.number (omega (arith, next ∙ number)))

pub sound_open : (size : ℕ) (second : Bool) (s : Superblock) (n : Slot) → second ≡ is_second s → n.number ≡ number_after (current s) → base_of s ≤ n.place → n.place < size
    → IsSound size s → IsSound size (put second s n)
unfolding pick
sound_open size true s n is next far inside sound = record {
  one = sound.one;
  two = λ opens. (far, inside);
  differ = λ one two same.
      let number = second_number (s.one.gate == open_gate) (s.two.gate == open_gate) (nat_lt s.one.number s.two.number) s.one s.two is in
      omega (arith, same, next ∙ number);
}
sound_open size false s n is next far inside sound = record {
  one = λ opens. (far, inside);
  two = sound.two;
  differ = λ one two same.
      let number = first_number (s.one.gate == open_gate) (s.two.gate == open_gate) (nat_lt s.one.number s.two.number) s.one s.two is (eq-eqb s.two.gate open_gate two) in
      omega (arith, same, next ∙ number);
}

-- and while it is shut it is still the one that doesn't count
pub still_second : (second : Bool) (s : Superblock) (g : Slot) → second ≡ is_second s → g.gate ≢ open_gate → second ≡ is_second (put second s g)
still_second true s g is shut =
    again_second (s.one.gate == open_gate) (s.two.gate == open_gate) (nat_lt s.one.number s.two.number) (g.gate == open_gate) (nat_lt s.one.number g.number) is
    (ne_eqb g.gate open_gate shut)
still_second false s g is shut = again_first (g.gate == open_gate) (s.two.gate == open_gate) (nat_lt g.number s.two.number) (ne_eqb g.gate open_gate shut)
