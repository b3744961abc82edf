-- What is read from the front of bytes is spelled so, and what is spelled so is read: once for each way to put fields together.
use Rattle.std.proofs.Common.{◌≡◌, ℕ, Bool, true, false, cond, ◌&&◌, eqb, List, [], ◌∷◌, ◌++◌, Result, Ok, Err, refl, sym, ap, subst, ◌∙◌, append_assoc}
use Rattle.std.specs.Prelude.{IsTrue}
use Rattle.std.proofs.lemmas.Bool.{eqb-true}
use Rattle.xt_base.specs.FieldLimits.{AreBytes}
use Rattle.xt_fields.specs.declared.fault.FieldErr.{FieldErr}
use Rattle.xt_fields.specs.declared.fault.FieldErr.TheVariants as fault
use Rattle.xt_fields.specs.OneSpelling.{Taken, IsField}
use Rattle.xt_fields.specs.Reading.{Field, ◌>>=◌, ◌&◌, made, fit}

abbrev done : {A : Type 0} → A → Result A FieldErr
done x = Ok x

pub ok_is : {A : Type 0} (x y : A) → done x ≡ done y → x ≡ y
ok_is x y e = cc

-- the value of a step that did not fail
pub bind_ok : {A B : Type 0} (r : Result A FieldErr) (f : A → Result B FieldErr) (y : B) → (r >>= f) ≡ Ok y → (x : A) × (r ≡ Ok x) × (f x ≡ Ok y)
bind_ok (Ok x) f y e = (x, refl, e)
bind_ok (Err d) f y e = absurd cc

-- a test that passed, or that did not stop
pub passed : {A : Type 0} (b : Bool) (d : FieldErr) (x y : A) → cond b (Ok x) (Err d) ≡ Ok y → (b ≡ true) × (x ≡ y)
passed true d x y e = (refl, cc)
passed false d x y e = absurd cc

pub went_on : {A : Type 0} (b : Bool) (d : FieldErr) (r : Result A FieldErr) (y : A) → cond b (Err d) r ≡ Ok y → (b ≡ false) × (r ≡ Ok y)
went_on true d r y e = absurd cc
went_on false d r y e = (refl, e)

-- one field and then another
pub both : {A B : Type 0} {ba : A → List ℕ} {bb : B → List ℕ} {fa : A → Type 0} {fb : B → Type 0} {ra : Field A} {rb : Field B}
    → IsField ba fa ra → IsField bb fb rb → IsField (λ (p : A × B). ba p.0 ++ bb p.1) (λ (p : A × B). fa p.0 × fb p.1) (ra & rb)
both {A} {B} {ba} {bb} {fa} {fb} {ra} {rb} p q = record {
  takes = λ given x all e.
      let a = bind_ok (ra given) (λ first. rb first.1 >>= λ second. Ok ((first.0, second.0), second.1)) x e in
      let b = bind_ok (rb a.0.1) (λ second. Ok ((a.0.0, second.0), second.1)) x a.2 in
      let s = p.takes given a.0 all a.1 in
      let t = q.takes a.0.1 b.0 s.left b.1 in
      let made_of : (A × B) × List ℕ = ((a.0.0, b.0.0), b.0.1) in
      subst (λ (y : (A × B) × List ℕ). Taken given (ba y.0.0 ++ bb y.0.1) y.1 (fa y.0.0 × fb y.0.1)) (ok_is made_of x b.2)
      (record { parts = s.parts ∙ ap (λ (t : List ℕ). ba a.0.0 ++ t) t.parts ∙ sym (append_assoc (ba a.0.0) (bb b.0.0) b.0.1); left = t.left; within = (s.within, t.within) });
  again = λ v rest fits.
      ap (ra & rb) (append_assoc (ba v.0) (bb v.1) rest) ∙ rw (p.again v.0 (bb v.1 ++ rest) fits.0, q.again v.1 rest fits.1) refl;
}

-- what is made of a field
pub made_field : {A B : Type 0} {bytes : A → List ℕ} {fits : A → Type 0} {at : Field A} (make : A → B) (see : B → A)
    → ((a : A) → see (make a) ≡ a) → ((b : B) → make (see b) ≡ b) → IsField bytes fits at
    → IsField (λ (b : B). bytes (see b)) (λ (b : B). fits (see b)) (made make at)
made_field {A} {B} {bytes} {fits} {at} make see back forth p = record {
  takes = λ given x all e.
      let a = bind_ok (at given) (λ read. Ok (make read.0, read.1)) x e in
      let s = p.takes given a.0 all a.1 in
      let made_of : B × List ℕ = (make a.0.0, a.0.1) in
      subst (λ (y : B × List ℕ). Taken given (bytes (see y.0)) y.1 (fits (see y.0))) (ok_is made_of x a.2)
      (subst (λ (v : A). Taken given (bytes v) a.0.1 (fits v)) (sym (back a.0.0)) s);
  again = λ b rest within.
      let one : made make at (bytes (see b) ++ rest) ≡ Ok (make (see b), rest) = rw (p.again (see b) rest within) refl in
      one ∙ ap (λ (v : B). Ok (v, rest)) (forth b);
}

-- a field that passes a test
pub fit_field : {A : Type 0} {bytes : A → List ℕ} {fits : A → Type 0} {at : Field A} (test : A → Bool) → IsField bytes fits at
    → IsField bytes (λ (a : A). fits a × IsTrue (test a)) (fit test at)
fit_field {A} {bytes} {fits} {at} test p = record {
  takes = λ given x all e.
      let a = bind_ok (at given) (λ read. cond (test read.0) (Ok read) (Err fault.Unfit)) x e in
      let g = passed (test a.0.0) fault.Unfit a.0 x a.2 in
      let s = p.takes given a.0 all a.1 in
      subst (λ (y : A × List ℕ). Taken given (bytes y.0) y.1 (fits y.0 × IsTrue (test y.0))) g.1
      (record { parts = s.parts; left = s.left; within = (s.within, g.0) });
  again = λ a rest within. rw (p.again a rest within.0, within.1) refl;
}

-- the same limits in other words
pub as_field : {A : Type 0} {bytes : A → List ℕ} {fits limits : A → Type 0} {at : Field A}
    → ((a : A) → fits a → limits a) → ((a : A) → limits a → fits a) → IsField bytes fits at → IsField bytes limits at
as_field to from p = record {
  takes = λ given x all e. let s = p.takes given x all e in record { parts = s.parts; left = s.left; within = to x.0 s.within };
  again = λ a rest within. p.again a rest (from a within);
}

-- ---- fields after a tag

-- what is read after a tag is spelled with it
pub record IsArm {B : Type 0} (bytes : B → List ℕ) (fits : B → Type 0) (tag : ℕ) (at : Field B) : Type 0 where
  pub takes : (given : List ℕ) (x : B × List ℕ) → AreBytes given → at given ≡ Ok x → Taken (tag ∷ given) (bytes x.0) x.1 (fits x.0)

pub arm : {A B : Type 0} {ba : A → List ℕ} {fa : A → Type 0} {at : Field A} {bytes : B → List ℕ} {fits : B → Type 0} (tag : ℕ) → IsField ba fa at → (make : A → B)
    → ((a : A) → bytes (make a) ≡ tag ∷ ba a) → ((a : A) → fa a → fits (make a)) → IsArm bytes fits tag (made make at)
arm {A} {B} {ba} {fa} {at} {bytes} {fits} tag p make spelled limits = record {
  takes = λ given x all e.
      let a = bind_ok (at given) (λ read. Ok (make read.0, read.1)) x e in
      let s = p.takes given a.0 all a.1 in
      let made_of : B × List ℕ = (make a.0.0, a.0.1) in
      let whole : tag ∷ given ≡ bytes (make a.0.0) ++ a.0.1 = ap (λ (t : List ℕ). tag ∷ t) s.parts ∙ ap (λ (t : List ℕ). t ++ a.0.1) (sym (spelled a.0.0)) in
      subst (λ (y : B × List ℕ). Taken (tag ∷ given) (bytes y.0) y.1 (fits y.0)) (ok_is made_of x a.2)
      (record { parts = whole; left = s.left; within = limits a.0.0 s.within });
}

pub arm_again : {A B : Type 0} {ba : A → List ℕ} {fa : A → Type 0} {at : Field A} → IsField ba fa at → (make : A → B)
    → (a : A) (rest : List ℕ) → fa a → made make at (ba a ++ rest) ≡ Ok (make a, rest)
arm_again p make a rest within = rw (p.again a rest within) refl

-- an arm without fields
pub lone_arm : {B : Type 0} {bytes : B → List ℕ} {fits : B → Type 0} (tag : ℕ) (b : B) → bytes b ≡ tag ∷ [] → fits b → IsArm bytes fits tag (λ given. Ok (b, given))
lone_arm {B} {bytes} {fits} tag b spelled within = record {
  takes = λ given x all e.
      let made_of : B × List ℕ = (b, given) in
      subst (λ (y : B × List ℕ). Taken (tag ∷ given) (bytes y.0) y.1 (fits y.0)) (ok_is made_of x e)
      (record { parts = ap (λ (t : List ℕ). t ++ given) (sym spelled); left = all; within = within });
}

-- what is read after any tag is spelled with it
pub record AreArms {B : Type 0} (bytes : B → List ℕ) (fits : B → Type 0) (at : ℕ → Field B) : Type 0 where
  pub takes : (tag : ℕ) (given : List ℕ) (x : B × List ℕ) → AreBytes given → at tag given ≡ Ok x → Taken (tag ∷ given) (bytes x.0) x.1 (fits x.0)

pub no_more : {B : Type 0} {bytes : B → List ℕ} {fits : B → Type 0} → AreArms bytes fits (λ tag given. Err fault.Unfit)
no_more = record { takes = λ tag given x all e. absurd cc }

chosen : {A : Type 0} (b : Bool) (x y z : A) → cond b x y ≡ z → (goal : Type 0) → (b ≡ true → x ≡ z → goal) → (y ≡ z → goal) → goal
chosen true x y z e goal f g = f refl e
chosen false x y z e goal f g = g e

pub or_arm : {B : Type 0} {bytes : B → List ℕ} {fits : B → Type 0} {at : Field B} {others : ℕ → Field B} (k : ℕ)
    → IsArm bytes fits k at → AreArms bytes fits others → AreArms bytes fits (λ tag given. cond (eqb tag k) (at given) (others tag given))
or_arm {B} {bytes} {fits} {at} {others} k p q = record {
  takes = λ tag given x all e.
      chosen (eqb tag k) (at given) (others tag given) (Ok x) e (Taken (tag ∷ given) (bytes x.0) x.1 (fits x.0))
      (λ same read. subst (λ (t : ℕ). Taken (t ∷ given) (bytes x.0) x.1 (fits x.0)) (sym (eqb-true tag k same)) (p.takes given x all read))
      (λ read. q.takes tag given x all read);
}

pub and_is : (a b : Bool) → (a && b) ≡ true → (a ≡ true) × (b ≡ true)
and_is true b h = (refl, h)
and_is false b h = absurd cc

pub is_and : (a b : Bool) → a ≡ true → b ≡ true → (a && b) ≡ true
is_and true b h g = g
is_and false b h g = h

-- the arms of what a value is made of
pub more_arms : {A B : Type 0} {ba : A → List ℕ} {fa : A → Type 0} {at : ℕ → Field A} {bytes : B → List ℕ} {fits : B → Type 0} (make : A → B)
    → ((a : A) → bytes (make a) ≡ ba a) → ((a : A) → fa a → fits (make a)) → AreArms ba fa at → AreArms bytes fits (λ tag given. made make (at tag) given)
more_arms {A} {B} {ba} {fa} {at} {bytes} {fits} make spelled limits p = record {
  takes = λ tag given x all e.
      let a = bind_ok (at tag given) (λ read. Ok (make read.0, read.1)) x e in
      let s = p.takes tag given a.0 all a.1 in
      let made_of : B × List ℕ = (make a.0.0, a.0.1) in
      subst (λ (y : B × List ℕ). Taken (tag ∷ given) (bytes y.0) y.1 (fits y.0)) (ok_is made_of x a.2)
      (record { parts = s.parts ∙ ap (λ (t : List ℕ). t ++ a.0.1) (sym (spelled a.0.0)); left = s.left; within = limits a.0.0 s.within });
}
