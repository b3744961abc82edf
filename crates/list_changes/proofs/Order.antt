-- where a file stands among those with a change
use Rattle.std.proofs.Common.{◌≡◌, inl, inr, List, [], ◌∷◌, ◌++◌, refl, ap, sym, ◌∙◌, subst, Option, Some, None, Bool, true, false}
use Rattle.std.specs.Prelude.{◌⊎◌, cond, not}
use Rattle.std.specs.declared.cmp.Ordering.{Ordering}
use Rattle.std.specs.declared.cmp.Ordering.TheVariants.{Less, Equal, Greater}
use Rattle.std.specs.Ordering.{is_lt, is_eq, ordering_reverse}
use Rattle.xt_base.specs.declared.ids.FileId.{FileId}
use Rattle.xt_protocol.specs.FileIds.{is_file, is_before, file_cmp}
use Rattle.xt_protocol.proofs.Folds.{file-equal, file-itself, file-back, file-along, is_file-file_cmp, file_cmp_total}
use Rattle.lease_safety.specs.State.{Has}
use Rattle.change_rows.specs.Coordinating.{Running, file_of, running_of, with_running, without_file}
use Rattle.list_changes.specs.Laws.{AreAfter, Rise}

-- ---- the order of files

is_less : (o : Ordering) → is_lt o ≡ true → o ≡ Less
is_less Less is = refl
is_less Equal is = absurd (cc)
is_less Greater is = absurd (cc)

before_along : (a b c : FileId) → is_before a b ≡ true → is_before b c ≡ true → is_before a c ≡ true
before_along a b c first second = ap is_lt (file_cmp_total.trans a b c (is_less (file_cmp a b) first) (is_less (file_cmp b c) second))

otherwise : (o : Ordering) → is_eq (ordering_reverse o) ≡ false → is_lt o ≡ false → is_lt (ordering_reverse o) ≡ true
otherwise Less differs not_before = absurd (cc)
otherwise Equal differs not_before = absurd (cc)
otherwise Greater differs not_before = refl

before_else : (x k : FileId) → is_file x k ≡ false → is_before k x ≡ false → is_before x k ≡ true
before_else x k differs not_before =
    let turns = file_cmp_total.antisymm x k in
    ap is_lt turns ∙ otherwise (file_cmp k x) (sym (ap is_eq turns) ∙ (sym (is_file-file_cmp x k) ∙ differs)) not_before

never_both : (o : Ordering) → is_eq o ≡ true → is_lt o ≡ true → ⊥
never_both Less same before = cc
never_both Equal same before = cc
never_both Greater same before = cc

before_itself : (a b : FileId) → is_file a b ≡ true → is_before a b ≡ true → ⊥
before_itself a b same before = never_both (file_cmp a b) (sym (is_file-file_cmp a b) ∙ same) before

-- a file that comes before another is another one, and doesn't come after it
differs_before : (a b : FileId) → is_before a b ≡ true → is_file a b ≡ false
differs_before a b before = go (is_file a b) refl
  where
    go : (t : Bool) → is_file a b ≡ t → is_file a b ≡ false
    go true is = absurd (before_itself a b is before)
    go false is = is

not_after : (a b : FileId) → is_before a b ≡ true → is_before b a ≡ false
not_after a b before = go (is_before b a) refl
  where
    go : (t : Bool) → is_before b a ≡ t → is_before b a ≡ false
    go true is = absurd (before_itself a a (file-itself a) (before_along a b a before is))
    go false is = is

-- ---- lists

pub has_middle : (xs ys : List Running) (r : Running) → Has r (xs ++ r ∷ ys)
has_middle [] ys r = inl refl
has_middle (x ∷ xs) ys r = inr (has_middle xs ys r)

-- what stands in a list in which one has another's place
pub has_replaced : (xs ys : List Running) (r new x : Running) → Has x (xs ++ new ∷ ys) → (x ≡ new) ⊎ Has x (xs ++ r ∷ ys)
has_replaced [] ys r new x (inl e) = inl e
has_replaced [] ys r new x (inr h) = inr (inr h)
has_replaced (y ∷ xs) ys r new x (inl e) = inr (inl e)
has_replaced (y ∷ xs) ys r new x (inr h) = elim (has_replaced xs ys r new x h) [ inl e ↦ inl e | inr i ↦ inr (inr i) ]

-- ---- the place of a file's change

-- one of these is the file's change
pub record IsFound (rs : List Running) (file : FileId) (r : Running) : Type 0 where
  pub earlier : List Running
  pub later : List Running
  pub split : rs ≡ earlier ++ r ∷ later
  pub same : file_of r ≡ file

pub found : (rs : List Running) (file : FileId) (r : Running) → running_of rs file ≡ Some r → IsFound rs file r
found [] file r is = absurd (cc)
found (x ∷ xs) file r is = at (found xs file r) (is_file (file_of x) file) refl is
  where
    at : (running_of xs file ≡ Some r → IsFound xs file r) → (t : Bool) → is_file (file_of x) file ≡ t → cond t (Some x) (running_of xs file) ≡ Some r → IsFound (x ∷ xs) file r
    at later true same is =
        let this : x ≡ r = cc in
        record {
          earlier = [];
          later = xs;
          split = ap (λ (y : Running). y ∷ xs) this;
          same = ap (λ (y : Running). y.change.file) (sym this) ∙ file-equal (file_of x) file same;
        }
    at later false other is =
        let rest = later is in
        record { earlier = x ∷ rest.earlier; later = rest.later; split = ap (λ (ys : List Running). x ∷ ys) rest.split; same = rest.same }

-- a change in the place of its file's
pub put_over : (earlier later : List Running) (old new : Running) → file_of new ≡ file_of old → Rise (earlier ++ old ∷ later)
    → with_running (earlier ++ old ∷ later) new ≡ earlier ++ new ∷ later
put_over [] later old new same rise =
    let here : is_file (file_of old) (file_of new) ≡ true = subst (λ (f : FileId). is_file (file_of old) f ≡ true) (sym same) (file-itself (file_of old)) in
    ap (λ (t : Bool). cond t (new ∷ later) (cond (is_before (file_of new) (file_of old)) (new ∷ old ∷ later) (old ∷ with_running later new))) here
put_over (x ∷ xs) later old new same rise =
    let before : is_before (file_of x) (file_of new) ≡ true =
    subst (λ (f : FileId). is_before (file_of x) f ≡ true) (sym same) (rise.0 old (has_middle xs later old)) in
    let rest = xs ++ old ∷ later in
    ap (λ (t : Bool). cond t (new ∷ rest) (cond (is_before (file_of new) (file_of x)) (new ∷ x ∷ rest) (x ∷ with_running rest new))) (differs_before (file_of x) (file_of new) before)
    ∙ ap (λ (t : Bool). cond t (new ∷ x ∷ rest) (x ∷ with_running rest new)) (not_after (file_of x) (file_of new) before)
    ∙ ap (λ (ys : List Running). x ∷ ys) (put_over xs later old new same rise.1)

-- the file's change is found in its place
pub find_over : (earlier later : List Running) (r : Running) → Rise (earlier ++ r ∷ later) → running_of (earlier ++ r ∷ later) (file_of r) ≡ Some r
find_over [] later r rise = ap (λ (t : Bool). cond t (Some r) (running_of later (file_of r))) (file-itself (file_of r))
find_over (x ∷ xs) later r rise =
    ap (λ (t : Bool). cond t (Some x) (running_of (xs ++ r ∷ later) (file_of r))) (differs_before (file_of x) (file_of r) (rise.0 r (has_middle xs later r)))
    ∙ find_over xs later r rise.1

-- ---- rising

-- one that stands in the place of another of its file
pub rise_over : (earlier later : List Running) (old new : Running) → file_of new ≡ file_of old → Rise (earlier ++ old ∷ later) → Rise (earlier ++ new ∷ later)
rise_over [] later old new same rise = ((λ r h. subst (λ (f : FileId). is_before f (file_of r) ≡ true) (sym same) (rise.0 r h)), rise.1)
rise_over (x ∷ xs) later old new same rise = (after, rise_over xs later old new same rise.1)
  where
    after : AreAfter (file_of x) (xs ++ new ∷ later)
    after r h =
        elim (has_replaced xs later old new r h) [
          | inl e ↦ subst (λ (f : FileId). is_before (file_of x) f ≡ true) (sym same ∙ ap (λ (y : Running). y.change.file) (sym e)) (rise.0 old (has_middle xs later old))
          | inr i ↦ rise.0 r i
        ]

-- what stands where a change was put
pub has_put : (rs : List Running) (r x : Running) → Has x (with_running rs r) → (x ≡ r) ⊎ Has x rs
has_put [] r x (inl e) = inl e
has_put [] r x (inr h) = absurd h
has_put (f ∷ fs) r x h = at (is_file (file_of f) (file_of r)) (is_before (file_of r) (file_of f)) h (has_put fs r x)
  where
    at : (same before : Bool) → Has x (cond same (r ∷ fs) (cond before (r ∷ f ∷ fs) (f ∷ with_running fs r))) → (Has x (with_running fs r) → (x ≡ r) ⊎ Has x fs) → (x ≡ r) ⊎ Has x (f ∷ fs)
    at true before (inl e) rest = inl e
    at true before (inr h) rest = inr (inr h)
    at false true (inl e) rest = inl e
    at false true (inr h) rest = inr h
    at false false (inl e) rest = inr (inl e)
    at false false (inr h) rest = elim (rest h) [ inl e ↦ inl e | inr i ↦ inr (inr i) ]

pub rise_put : (rs : List Running) (r : Running) → Rise rs → Rise (with_running rs r)
rise_put [] r rise = ((λ x h. absurd h), tt)
rise_put (f ∷ fs) r rise = at (rise_put fs r rise.1) (is_file (file_of f) (file_of r)) (is_before (file_of r) (file_of f)) refl refl
  where
    at : Rise (with_running fs r) → (same before : Bool) → is_file (file_of f) (file_of r) ≡ same → is_before (file_of r) (file_of f) ≡ before
        → Rise (cond same (r ∷ fs) (cond before (r ∷ f ∷ fs) (f ∷ with_running fs r)))
    at rest true before same is =
        ((λ x h. subst (λ (k : FileId). is_before k (file_of x) ≡ true) (file-equal (file_of f) (file_of r) same) (rise.0 x h)), rise.1)
    at rest false true differs is = (after, rise)
      where
        after : AreAfter (file_of r) (f ∷ fs)
        after x (inl e) = subst (λ (y : Running). is_before (file_of r) (file_of y) ≡ true) (sym e) is
        after x (inr h) = before_along (file_of r) (file_of f) (file_of x) is (rise.0 x h)
    at rest false false differs is = (after, rest)
      where
        after : AreAfter (file_of f) (with_running fs r)
        after x h =
            elim (has_put fs r x h) [
              | inl e ↦ subst (λ (y : Running). is_before (file_of f) (file_of y) ≡ true) (sym e) (before_else (file_of f) (file_of r) differs is)
              | inr i ↦ rise.0 x i
            ]

-- what is left without a file's change
pub has_left : (rs : List Running) (file : FileId) (x : Running) → Has x (without_file rs file) → Has x rs
has_left [] file x h = absurd h
has_left (f ∷ fs) file x h = at (has_left fs file x) (not (is_file (file_of f) file)) h
  where
    at : (Has x (without_file fs file) → Has x fs) → (t : Bool) → Has x (cond t (f ∷ without_file fs file) (without_file fs file)) → Has x (f ∷ fs)
    at later true (inl e) = inl e
    at later true (inr h) = inr (later h)
    at later false h = inr (later h)

pub rise_left : (rs : List Running) (file : FileId) → Rise rs → Rise (without_file rs file)
rise_left [] file rise = tt
rise_left (f ∷ fs) file rise = at (rise_left fs file rise.1) (not (is_file (file_of f) file))
  where
    at : Rise (without_file fs file) → (t : Bool) → Rise (cond t (f ∷ without_file fs file) (without_file fs file))
    at later true = ((λ x h. rise.0 x (has_left fs file x h)), later)
    at later false = later

-- ---- what is found

-- two files are looked through in either order, where they are different ones
apart : (f r : Running) (other : Option Running) (file : FileId) (a b : Bool) → is_file (file_of f) file ≡ a → is_file (file_of r) file ≡ b
    → is_file (file_of f) (file_of r) ≡ false → cond a (Some f) (cond b (Some r) other) ≡ cond b (Some r) (cond a (Some f) other)
apart f r other file true true first second differ =
    absurd (let same : is_file (file_of f) (file_of r) ≡ true = file-along (file_of f) file (file_of r) first (file-back (file_of r) file second) in cc (same, differ))
apart f r other file true false first second differ = refl
apart f r other file false b first second differ = refl

-- a change that is put over one of its file hides it
over : (f r : Running) (other : Option Running) (file : FileId) → is_file (file_of f) (file_of r) ≡ true
    → cond (is_file (file_of r) file) (Some r) other ≡ cond (is_file (file_of r) file) (Some r) (cond (is_file (file_of f) file) (Some f) other)
over f r other file same =
    sym (ap (λ x. cond (is_file (file_of r) file) (Some r) (cond (is_file x file) (Some f) other)) (file-equal (file_of f) (file_of r) same)
    ∙ hides (is_file (file_of r) file))
  where
    hides : (t : Bool) → cond t (Some r) (cond t (Some f) other) ≡ cond t (Some r) other
    hides true = refl
    hides false = refl

-- the change of a file after one was put: that one where it is the file's, else the one before
pub find_put : (rs : List Running) (r : Running) (file : FileId) → running_of (with_running rs r) file ≡ cond (is_file (file_of r) file) (Some r) (running_of rs file)
find_put [] r file = refl
find_put (f ∷ fs) r file = at (find_put fs r file) (is_file (file_of f) (file_of r)) (is_before (file_of r) (file_of f)) refl
  where
    at : running_of (with_running fs r) file ≡ cond (is_file (file_of r) file) (Some r) (running_of fs file) → (same before : Bool)
        → is_file (file_of f) (file_of r) ≡ same
        → running_of (cond same (r ∷ fs) (cond before (r ∷ f ∷ fs) (f ∷ with_running fs r))) file
        ≡ cond (is_file (file_of r) file) (Some r) (cond (is_file (file_of f) file) (Some f) (running_of fs file))
    at rest true before same = over f r (running_of fs file) file same
    at rest false true differ = refl
    at rest false false differ =
        ap (λ x. cond (is_file (file_of f) file) (Some f) x) rest
        ∙ apart f r (running_of fs file) file (is_file (file_of f) file) (is_file (file_of r) file) refl refl differ

-- the change of a file after one was dropped: none where it is the file's, else the one before
find_without : (rs : List Running) (gone file : FileId) → running_of (without_file rs gone) file ≡ cond (is_file gone file) None (running_of rs file)
find_without [] gone file = nothing (is_file gone file)
  where
    nothing : (t : Bool) → (let none : Option Running = None in none ≡ cond t none none)
    nothing true = refl
    nothing false = refl
find_without (f ∷ fs) gone file = at (find_without fs gone file) (is_file (file_of f) gone) (is_file gone file) refl refl
  where
    at : running_of (without_file fs gone) file ≡ cond (is_file gone file) None (running_of fs file) → (dropped its : Bool) → is_file (file_of f) gone ≡ dropped → is_file gone file ≡ its
        → running_of (cond (not dropped) (f ∷ without_file fs gone) (without_file fs gone)) file ≡ cond its None (cond (is_file (file_of f) file) (Some f) (running_of fs file))
    at rest true true is own = rest ∙ ap (λ (t : Bool). cond t None (running_of fs file)) own
    at rest true false is own =
        let differs : is_file (file_of f) file ≡ false = subst (λ (x : FileId). is_file x file ≡ false) (sym (file-equal (file_of f) gone is)) own in
        rest ∙ ap (λ (t : Bool). cond t None (running_of fs file)) own ∙ sym (ap (λ (t : Bool). cond t (Some f) (running_of fs file)) differs)
    at rest false true is own =
        let differs : is_file (file_of f) file ≡ false = subst (λ (x : FileId). is_file (file_of f) x ≡ false) (file-equal gone file own) is in
        ap (λ (t : Bool). cond t (Some f) (running_of (without_file fs gone) file)) differs ∙ rest ∙ ap (λ (t : Bool). cond t None (running_of fs file)) own
    at rest false false is own =
        ap (λ (o : Option Running). cond (is_file (file_of f) file) (Some f) o) (rest ∙ ap (λ (t : Bool). cond t None (running_of fs file)) own)

-- the change of a file that is left is the one before
pub find_left : (rs : List Running) (gone file : FileId) (r : Running) → running_of (without_file rs gone) file ≡ Some r → (x : Running) → running_of rs file ≡ Some x → r ≡ x
find_left rs gone file r is x was = at (is_file gone file) (sym (find_without rs gone file) ∙ is)
  where
    at : (t : Bool) → cond t None (running_of rs file) ≡ Some r → r ≡ x
    at true is = absurd (cc)
    at false is = (let same : Some r ≡ Some x = sym is ∙ was in cc)
