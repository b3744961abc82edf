-- What is gathered is that of the entries so far, and of the rest.
use Rattle.std.proofs.Common.{◌≡◌, ◌≤◌, ◌<◌, ◌∙◌, ◌-◌, ℕ, List, [], ◌∷◌, length, take, drop, get_or, Option, Some, None, refl, sym, ap, arith}
use Rattle.std.proofs.Math.Seq.{take-length}
use Rattle.std.specs.Option.{option_or}
use Rattle.xt_base.specs.declared.ids.OpId.{OpId}
use Rattle.xt_messages.specs.declared.event.Call.{Call}
use Rattle.xt_messages.specs.declared.file.Location.{Location}
use Rattle.time_line.specs.declared.entry.Entry.{Entry}
use Rattle.time_line.specs.TimeLine.{begun, call_begun, location_in, location_told}

-- ---- the entries one by one

-- the first entry of the rest, and those after it
pub first_and_others : (rest : List Entry) (e : Entry) → 1 ≤ length rest → e ≡ get_or rest 0 e → rest ≡ e ∷ take (length rest - 1) (drop 1 rest)
first_and_others [] e some is = absurd (omega (arith, some))
first_and_others (x ∷ rest) e some is =
    ap (λ (y : Entry). y ∷ rest) (sym is) ∙ ap (λ (ys : List Entry). e ∷ ys) (sym (take_all rest (length (x ∷ rest) - 1) (omega arith)))
  where
    take_all : (ys : List Entry) (n : ℕ) → n ≡ length ys → take n ys ≡ ys
    take_all ys n same = ap (λ (m : ℕ). take m ys) same ∙ take-length ys

pub none : (rest : List Entry) → length rest < 1 → rest ≡ []
none [] few = refl
none (x ∷ rest) few = absurd (omega (arith, few))

-- ---- what they report

or_assoc : {X : Type 0} (o p q : Option X) → option_or (option_or o p) q ≡ option_or o (option_or p q)
or_assoc None p q = refl
or_assoc (Some x) p q = refl

or_none : {X : Type 0} (o : Option X) → option_or o None ≡ o
or_none None = refl
or_none (Some x) = refl

pub calls_more : (id : OpId) (old new whole : Option Call) (rest behind : List Entry) (e : Entry) → rest ≡ e ∷ behind → new ≡ option_or old (call_begun id e)
    → option_or old (begun id rest) ≡ whole → option_or new (begun id behind) ≡ whole
unfolding begun
calls_more id old new whole rest behind e split more before =
    ap (λ (o : Option Call). option_or o (begun id behind)) more ∙ or_assoc old (call_begun id e) (begun id behind)
    ∙ sym (ap (λ (es : List Entry). option_or old (begun id es)) split) ∙ before

pub calls_end : (id : OpId) (old whole : Option Call) (rest : List Entry) → rest ≡ [] → option_or old (begun id rest) ≡ whole → old ≡ whole
unfolding begun
calls_end id old whole rest none before = sym (or_none old) ∙ sym (ap (λ (es : List Entry). option_or old (begun id es)) none) ∙ before

pub locations_more : (file : ℕ) (old new whole : Option Location) (rest behind : List Entry) (e : Entry) → rest ≡ e ∷ behind → new ≡ option_or old (location_told file e)
    → option_or old (location_in file rest) ≡ whole → option_or new (location_in file behind) ≡ whole
unfolding location_in
locations_more file old new whole rest behind e split more before =
    ap (λ (o : Option Location). option_or o (location_in file behind)) more ∙ or_assoc old (location_told file e) (location_in file behind)
    ∙ sym (ap (λ (es : List Entry). option_or old (location_in file es)) split) ∙ before

pub locations_end : (file : ℕ) (old whole : Option Location) (rest : List Entry) → rest ≡ [] → option_or old (location_in file rest) ≡ whole → old ≡ whole
unfolding location_in
locations_end file old whole rest none before = sym (or_none old) ∙ sym (ap (λ (es : List Entry). option_or old (location_in file es)) none) ∙ before
