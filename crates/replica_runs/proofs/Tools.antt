-- Cases on nodes and epochs, and small facts on lists.
use Rattle.std.proofs.Common.{◌≡◌, ℕ, suc, ◌<◌, ◌≤◌, ◌⊎◌, Bool, true, false, List, [], ◌∷◌, ◌++◌, length, take, zero, append-nil, append_assoc, refl, sym, ap, ◌∙◌, subst, inl, inr, arith, true≢false, ◌==◌, ◌||◌, ◌&&◌, if◌then◌else◌, Some}
use Rattle.std.specs.Prelude.{slice_get}
use Rattle.xt_base.specs.declared.TheConstants.{NO_OBJECT}
use Rattle.replica_runs.specs.FileHeads.{Body, body_of, bodies_in}
use Rattle.std.proofs.lemmas.Bool.Decides.{nat_tests}
use Rattle.xt_protocol.specs.Stamps.{is_earlier, is_epoch}
use Rattle.replica_safety.specs.Epochs.{Epoch, Write, at_epoch, at_node}
use Rattle.replica_safety.specs.Lists.{Has}
use Rattle.replica_safety.specs.Protocol.{last_write}
use Rattle.replica_safety.proofs.Orders.{same_is, same_self}
use Rattle.replica_runs.specs.Marks.{AreMadeAfter}
use Rattle.replica_runs.specs.World.{Counted, among, counted_from}

pub true_false : {A : Type 0} {b : Bool} → b ≡ true → b ≡ false → A
true_false p q = absurd (true≢false (sym p ∙ q))

pub not_true : (b : Bool) → (b ≡ true → ⊥) → b ≡ false
not_true true h = absurd (h refl)
not_true false h = refl

pub by_epoch : (P : Bool → Type 0) (d e : Epoch) → (d ≡ e → P true) → (is_epoch d e ≡ false → P false) → P (is_epoch d e)
by_epoch P d e is other = go (is_epoch d e) refl
  where
    go : (b : Bool) → is_epoch d e ≡ b → P b
    go true p = is (same_is d e p)
    go false p = other p

pub by_node : (P : Bool → Type 0) (m n : ℕ) → (m ≡ n → P true) → ((m ≡ n → ⊥) → P false) → P (m == n)
by_node P m n is other = go (m == n) refl
  where
    go : (b : Bool) → (m == n) ≡ b → P b
    go true p = is (grind (arith, nat_tests))
    go false p = other (λ e. grind (arith, nat_tests))

pub some_epoch : {d e : Epoch} → Some d ≡ Some e → d ≡ e
some_epoch p = cc

pub some_node : {m n : ℕ} → Some m ≡ Some n → m ≡ n
some_node p = cc

pub some_write : {v w : Write} → Some v ≡ Some w → v ≡ w
some_write p = cc

pub at_same : {A : Type 0} (e : Epoch) (v : A) (f : Epoch → A) → at_epoch e v f e ≡ v
at_same e v f = rw (same_self e)

pub put_true : (e : Epoch) (f : Epoch → Bool) (d : Epoch) → f d ≡ true → at_epoch e true f d ≡ true
put_true e f d h = by_epoch (λ b. (if b then true else f d) ≡ true) d e (λ _. refl) (λ _. h)

pub was_true : (e : Epoch) (f : Epoch → Bool) (d : Epoch) → at_epoch e true f d ≡ true → (d ≡ e) ⊎ (f d ≡ true)
was_true e f d = by_epoch (λ b. (if b then true else f d) ≡ true → (d ≡ e) ⊎ (f d ≡ true)) d e (λ p _. inl p) (λ _ h. inr h)

pub lower_number : (d e : Epoch) → d.number < e.number → is_earlier d e ≡ true
lower_number d e l = grind (arith, nat_tests)

pub number_up : (d e : Epoch) → is_earlier d e ≡ true → d.number ≤ e.number
number_up d e l = grind (arith, nat_tests)

pub last_push : (ws : List Write) (w : Write) → last_write (ws ++ w ∷ []) ≡ w
last_push [] w = refl
last_push (v ∷ []) w = refl
last_push (v ∷ u ∷ ws) w = last_push (u ∷ ws) w

pub among_has : (r : ℕ) (qs : List ℕ) → among r qs ≡ true → Has r qs
among_has r [] h = true_false h refl
among_has r (q ∷ qs) h = go (q == r) refl h (among_has r qs)
  where
    go : (b : Bool) → (q == r) ≡ b → (b || among r qs) ≡ true → (among r qs ≡ true → Has r qs) → (r ≡ q) ⊎ Has r qs
    go true e k rest = inl (grind (arith, nat_tests))
    go false e k rest = inr (rest k)

pub counted_has : (r : ℕ) (cs : List Counted) → counted_from r cs ≡ true → (c : Counted) × Has c cs × (c.replica ≡ r)
counted_has r [] h = true_false h refl
counted_has r (d ∷ cs) h = go (d.replica == r) refl h (counted_has r cs)
  where
    go : (b : Bool) → (d.replica == r) ≡ b → (b || counted_from r cs) ≡ true → (counted_from r cs ≡ true → (c : Counted) × Has c cs × (c.replica ≡ r)) →
        (c : Counted) × ((c ≡ d) ⊎ Has c cs) × (c.replica ≡ r)
    go true e k rest = (d, inl refl, grind (arith, nat_tests))
    go false e k rest = let f : (c : Counted) × Has c cs × (c.replica ≡ r) = rest k in (f.0, inr f.1, f.2)

pub number_not_below : (d e : Epoch) → is_earlier d e ≡ false → e.number ≤ d.number
number_not_below d e l = grind (arith, nat_tests)

-- a function that is put at a place as it was there is the same function
pub unchanged : {A : Type 0} (f : ℕ → A) (r : ℕ) → f ≡ at_node r (f r) f
unchanged {A} f r = λ i q. same q i
  where
    same : (q : ℕ) → f q ≡ at_node r (f r) f q
    same q = by_node (λ b. f q ≡ (if b then f r else f q)) q r (λ e. ap f e) (λ _. refl)

pub by_test : (P : Bool → Type 0) (b : Bool) → (b ≡ true → P true) → (b ≡ false → P false) → P b
by_test P true t f = t refl
by_test P false t f = f refl

pub both_true : (a b : Bool) → (a && b) ≡ true → (a ≡ true) × (b ≡ true)
both_true true b h = (refl, h)
both_true false b h = true_false h refl

pub at_own : {A : Type 0} (f : ℕ → A) (n : ℕ) (a : A) → at_node n a f n ≡ a
at_own f n a = by_node (λ b. (if b then a else f n) ≡ a) n n (λ _. refl) (λ ne. absurd (ne refl))

pub same_at : {A : Type 0} (f : ℕ → A) (n q : ℕ) → at_node n (f n) f q ≡ f q
same_at f n q = by_node (λ b. (if b then f n else f q) ≡ f q) q n (λ e. ap f (sym e)) (λ _. refl)

pub twice : {A : Type 0} (f : ℕ → A) (n : ℕ) (a b c : A) → c ≡ b → (q : ℕ) → at_node n c f q ≡ at_node n b (at_node n a f) q
twice f n a b c e q = by_node (λ t. (if t then c else f q) ≡ (if t then b else (if t then a else f q))) q n (λ _. e) (λ _. refl)

pub get_push : (ws : List Write) (v : Write) → slice_get (ws ++ v ∷ []) (length ws) ≡ Some v
get_push [] v = refl
get_push (w ∷ ws) v = get_push ws v

pub has-right : {A : Type 0} (x : A) (xs ys : List A) → Has x ys → Has x (xs ++ ys)
has-right x [] ys h = h
has-right x (y ∷ xs) ys h = inr (has-right x xs ys h)

pub has-front : {A : Type 0} (x : A) (n : ℕ) (xs : List A) → Has x (take n xs) → Has x xs
has-front x zero xs h = absurd h
has-front x (suc n) [] h = absurd h
has-front x (suc n) (y ∷ xs) (inl p) = inl p
has-front x (suc n) (y ∷ xs) (inr h) = inr (has-front x n xs h)

pub made_front : (makes : List Write → Write → Type 0) (done xs ys : List Write) → AreMadeAfter makes done (xs ++ ys) → AreMadeAfter makes done xs
made_front makes done [] ys m = tt
made_front makes done (x ∷ xs) ys m = (m.0, made_front makes (done ++ x ∷ []) xs ys m.1)

pub made_push : (makes : List Write → Write → Type 0) (done xs : List Write) (v : Write) → AreMadeAfter makes done xs → makes (done ++ xs) v → AreMadeAfter makes done (xs ++ v ∷ [])
made_push makes done [] v m h = (subst (λ l. makes l v) (append-nil done) h, tt)
made_push makes done (x ∷ xs) v m h = (m.0, made_push makes (done ++ x ∷ []) xs v m.1 (subst (λ l. makes l v) (sym (append_assoc done (x ∷ []) xs)) h))

pub same_place : {A : Type 0} (xs ys : List A) (x y : A) (xs2 ys2 : List A) → xs ++ x ∷ xs2 ≡ ys ++ y ∷ ys2 → length xs ≡ length ys → x ≡ y
same_place [] [] x y xs2 ys2 e l = cc
same_place [] (v ∷ ys) x y xs2 ys2 e l = absurd (omega arith)
same_place (u ∷ xs) [] x y xs2 ys2 e l = absurd (omega arith)
same_place (u ∷ xs) (v ∷ ys) x y xs2 ys2 e l = same_place xs ys x y xs2 ys2 (cc) (omega arith)

-- the bodies of writes
pub has_body : (b : Body) (us : List Write) → Has b (bodies_in us) → (u : Write) × Has u us × (b ≡ body_of u)
has_body b [] h = absurd h
has_body b (u ∷ us) h = at (u.object == NO_OBJECT) h (λ g. has_body b us g)
  where
    at : (t : Bool) → Has b (if t then bodies_in us else body_of u ∷ bodies_in us)
        → (Has b (bodies_in us) → (v : Write) × Has v us × (b ≡ body_of v)) → (v : Write) × Has v (u ∷ us) × (b ≡ body_of v)
    at true g rest = let r = rest g in (r.0, inr r.1, r.2)
    at false (inl p) rest = (u, inl refl, p)
    at false (inr g) rest = let r = rest g in (r.0, inr r.1, r.2)

pub body_there : (u : Write) (us : List Write) → (u.object ≡ NO_OBJECT → ⊥) → Has u us → Has (body_of u) (bodies_in us)
body_there u [] some h = absurd h
body_there u (v ∷ us) some (inl p) =
    by_node (λ t. Has (body_of u) (if t then bodies_in us else body_of v ∷ bodies_in us)) v.object NO_OBJECT
    (λ none. absurd (some (ap (λ (w : Write). w.object) p ∙ none))) (λ _. inl (ap body_of p))
body_there u (v ∷ us) some (inr h) =
    by_test (λ t. Has (body_of u) (if t then bodies_in us else body_of v ∷ bodies_in us)) (v.object == NO_OBJECT)
    (λ _. body_there u us some h) (λ _. inr (body_there u us some h))
