-- What is put into a set is in it, and nothing else is new.
use Rattle.std.proofs.Common.{◌≡◌, ◌∙◌, ℕ, zero, suc, ◌-◌, Bool, true, false, List, [], ◌∷◌, ◌++◌, refl, sym, ap, arith}
use Rattle.std.specs.Prelude.{◌==◌, ◌&&◌, ◌||◌, Option, Some, None, option_map, cond, if◌then◌else◌, slice_get, Decides, IsTrue, ◌↔◌, length}
use Rattle.std.specs.declared.cmp.Ordering.{Ordering}
use Rattle.std.specs.declared.cmp.Ordering.TheVariants.{Less, Equal, Greater}
use Rattle.std.specs.Ordering.{nat_cmp, is_eq, ordering_then}
use Rattle.std.specs.Cmp.Lexicographic.{slice_cmp}
use Rattle.std.specs.BTreeSet.{BTreeSet, Updates}
use Rattle.std.specs.BTreeMap as tree
use Rattle.std.specs.Borrow.{Bor}
use Rattle.std.specs.Option.{option_or, is_some}
use Rattle.xt_base.specs.declared.ids.NodeId.{NodeId}
use Rattle.xt_messages.specs.declared.event.Call.{Call}
use Rattle.time_line.specs.declared.entry.Entry.TheVariants as entry
use Rattle.time_line.specs.TimeLine.{call_begun, operation_on}
use Rattle.xt_messages.specs.declared.event.Call.TheVariants as call
use Rattle.xt_messages.specs.declared.file.Op.TheVariants as op
use Rattle.std.proofs.lemmas.Bool.{le-leb}
use Rattle.std.proofs.lemmas.Bool.Decides.{nat_tests, Decides-and, Decides-eqb}
use Rattle.xt_base.specs.declared.ids.OpId.{OpId}
use Rattle.time_line.specs.TimeLine.{is_id, id_of, Claim}
use Rattle.judging.proofs.Tests.{same_bytes, same_id}
use Rattle.judging.specs.Pass.{is_same, is_answer, is_in, is_at, is_that}
use Rattle.trace_judge.specs.declared.told.Answer.{Answer}
use Rattle.trace_judge.specs.Rows.{pair_cmp, has_id, IsSetOf, call_in, Told, answer_cmp, id_told, has_answer}
use Rattle.trace_judge.specs.Views.{answer_of}

eq_then : (a b : Ordering) → is_eq (ordering_then a b) ≡ (is_eq a && is_eq b)
eq_then Less b = refl
eq_then Equal b = refl
eq_then Greater b = refl

eq_number : (x y : ℕ) → is_eq (nat_cmp x y) ≡ (x == y)
eq_number x y = grind (arith, nat_tests)

eq_pair : (x y : ℕ × ℕ) → is_eq (pair_cmp x y) ≡ ((x.0 == y.0) && (x.1 == y.1))
eq_pair x y = eq_then (nat_cmp x.0 y.0) (nat_cmp x.1 y.1) ∙ ap (λ b. b && is_eq (nat_cmp x.1 y.1)) (eq_number x.0 y.0) ∙ ap (λ b. (x.0 == y.0) && b) (eq_number x.1 y.1)

eq_bytes : (xs ys : List ℕ) → is_eq (slice_cmp nat_cmp xs ys) ≡ is_same xs ys
unfolding is_same
eq_bytes [] [] = refl
eq_bytes [] (y ∷ ys) = refl
eq_bytes (x ∷ xs) [] = refl
eq_bytes (x ∷ xs) (y ∷ ys) = eq_then (nat_cmp x y) (slice_cmp nat_cmp xs ys) ∙ ap (λ b. b && is_eq (slice_cmp nat_cmp xs ys)) (eq_number x y) ∙ ap (λ b. (x == y) && b) (eq_bytes xs ys)

either : (b c : Bool) → cond b true c ≡ (c || b)
either true true = refl
either true false = refl
either false true = refl
either false false = refl

pub id_put : (old new : BTreeSet (ℕ × ℕ)) (id : OpId) → Updates pair_cmp old new (id.client.0, id.number) true
    → (other : OpId) → has_id new other ≡ (has_id old other || is_id id other)
id_put old new id updates other =
    updates.0 (other.client.0, other.number) ∙ either _ (has_id old other)
    ∙ ap (λ b. has_id old other || b) (eq_pair (id.client.0, id.number) (other.client.0, other.number))

eq_answer : (x y : Told) → is_eq (answer_cmp x y) ≡ (((x.0.0 == y.0.0) && (x.0.1 == y.0.1)) && ((x.1.0 == y.1.0) && is_same x.1.1.now y.1.1.now))
eq_answer x y =
    eq_then (pair_cmp x.0 y.0) (ordering_then (nat_cmp x.1.0 y.1.0) (slice_cmp nat_cmp x.1.1.now y.1.1.now))
    ∙ ap (λ b. b && is_eq (ordering_then (nat_cmp x.1.0 y.1.0) (slice_cmp nat_cmp x.1.1.now y.1.1.now))) (eq_pair x.0 y.0)
    ∙ ap (λ b. ((x.0.0 == y.0.0) && (x.0.1 == y.0.1)) && b)
    (eq_then (nat_cmp x.1.0 y.1.0) (slice_cmp nat_cmp x.1.1.now y.1.1.now)
    ∙ ap (λ b. b && is_eq (slice_cmp nat_cmp x.1.1.now y.1.1.now)) (eq_number x.1.0 y.1.0)
    ∙ ap (λ b. (x.1.0 == y.1.0) && b) (eq_bytes x.1.1.now y.1.1.now))

pub answer_put : (old new : BTreeSet Told) (answer : Answer) → Updates answer_cmp old new ((answer.id.client.0, answer.id.number), (answer.count, answer.bytes)) true
    → (told : Told) → has_answer new told ≡ (has_answer old told || is_answer (id_told told) told.1.0 told.1.1.now (Some (answer_of answer)))
answer_put old new answer updates told =
    updates.0 told ∙ either _ (has_answer old told)
    ∙ ap (λ b. has_answer old told || b) (eq_answer ((answer.id.client.0, answer.id.number), (answer.count, answer.bytes)) told)

-- ---- calls

same_pair : (a b c d : ℕ) → ((a == c) && (b == d)) ≡ true → ◌≡◌ {A = ℕ × ℕ} (c, d) (a, b)
same_pair a b c d is =
    let both = (Decides-and (a == c) (b == d) (Decides-eqb a c) (Decides-eqb b d)).0 is in
    ap (λ (n : ℕ). let p : ℕ × ℕ = (n, d) in p) (sym both.0) ∙ ap (λ (n : ℕ). let p : ℕ × ℕ = (a, n) in p) (sym both.1)

pub is_none : {X : Type 0} (o : Option X) → is_some o ≡ false → o ≡ None
is_none None is = refl
is_none (Some x) is = absurd (cc (is))

eq_back : (x y : ℕ) → (x == y) ≡ (y == x)
eq_back x y = grind (arith, nat_tests)

or_none : (o : Option Call) → o ≡ option_or o None
or_none None = refl
or_none (Some c) = refl

pub call_put : (old new : tree.BTreeMap (ℕ × ℕ) (Bor Call)) (client : NodeId) (number : ℕ) (call : Bor Call) → tree.get pair_cmp old (client.0, number) ≡ None
    → tree.Updates pair_cmp old new (client.0, number) (Some call)
    → (id : OpId) → call_in new id ≡ option_or (call_in old id) (call_begun id (entry.Begin client number call.now))
call_put old new client number call none updates id = by (is_eq (pair_cmp (client.0, number) (id.client.0, id.number))) refl
  where
    same : ((client.0 == id.client.0) && (number == id.number)) ≡ is_id id (id_of client number)
    same = ap (λ b. b && (number == id.number)) (eq_back client.0 id.client.0) ∙ ap (λ b. (id.client.0 == client.0) && b) (eq_back number id.number)

    told : (b : Bool) → is_eq (pair_cmp (client.0, number) (id.client.0, id.number)) ≡ b → is_id id (id_of client number) ≡ b
    told b is = sym same ∙ sym (eq_pair (client.0, number) (id.client.0, id.number)) ∙ is

    now : (b : Bool) → is_eq (pair_cmp (client.0, number) (id.client.0, id.number)) ≡ b → call_in new id ≡ option_map (λ c. c.now) (cond b (Some call) (tree.get pair_cmp old (id.client.0, id.number)))
    now b is = ap (λ (o : Option (Bor Call)). option_map (λ c. c.now) o) (updates.0 (id.client.0, id.number) ∙ ap (λ t. cond t (Some call) (tree.get pair_cmp old (id.client.0, id.number))) is)

    by : (b : Bool) → is_eq (pair_cmp (client.0, number) (id.client.0, id.number)) ≡ b → call_in new id ≡ option_or (call_in old id) (call_begun id (entry.Begin client number call.now))
    by true is =
        let key : ◌≡◌ {A = ℕ × ℕ} (id.client.0, id.number) (client.0, number) = same_pair client.0 number id.client.0 id.number (sym (eq_pair (client.0, number) (id.client.0, id.number)) ∙ is) in
        let before : call_in old id ≡ None = ap (λ (o : Option (Bor Call)). option_map (λ c. c.now) o) (ap (tree.get pair_cmp old) key ∙ none) in
        now true is ∙ sym (ap (λ (o : Option Call). option_or o (call_begun id (entry.Begin client number call.now))) before ∙ ap (λ b. if b then Some call.now else None) (told true is))
    by false is =
        now false is ∙ or_none (call_in old id) ∙ sym (ap (λ b. option_or (call_in old id) (if b then Some call.now else None)) (told false is))

-- ---- the order

is_in-push : (other id : OpId) (ids : List OpId) → is_in other (ids ++ id ∷ []) ≡ (is_in other ids || is_id id other)
unfolding is_in
is_in-push other id [] = last (is_id id other)
  where
    last : (b : Bool) → (b || false) ≡ b
    last true = refl
    last false = refl
is_in-push other id (o ∷ ids) = ap (λ b. is_id o other || b) (is_in-push other id ids) ∙ or_assoc (is_id o other) (is_in other ids) (is_id id other)
  where
    or_assoc : (a b c : Bool) → (a || (b || c)) ≡ ((a || b) || c)
    or_assoc true b c = refl
    or_assoc false b c = refl

pub set_push : (old new : BTreeSet (ℕ × ℕ)) (ids : List OpId) (id : OpId) → ((other : OpId) → has_id new other ≡ (has_id old other || is_id id other))
    → IsSetOf old ids → IsSetOf new (ids ++ id ∷ [])
set_push old new ids id more is other = more other ∙ ap (λ b. b || is_id id other) (is other) ∙ sym (is_in-push other id ids)

pub set_none : (set : BTreeSet (ℕ × ℕ)) → ((id : OpId) → has_id set id ≡ false) → IsSetOf set []
unfolding is_in
set_none set none id = none id

-- where a position is counted from 1, none is not after it
pub borne_at : (order : List OpId) (claim : Claim) → ((claim.count == 0) || is_at order claim.id claim.count) ≡ ((claim.count == 0) || is_that (slice_get order (claim.count - 1)) claim.id)
borne_at order claim = by claim.count
  where
    by : (n : ℕ) → ((n == 0) || is_at order claim.id n) ≡ ((n == 0) || is_that (slice_get order (n - 1)) claim.id)
    by zero = refl
    by (suc n) = ap (λ b. (suc n == 0) || (b && is_that (slice_get order (suc n - 1)) claim.id)) (le-leb 1 (suc n) (omega arith))

-- ---- answers

pub none_same : (bytes : List ℕ) → (length bytes == 0) ≡ is_same bytes []
unfolding is_same
none_same [] = refl
none_same (byte ∷ bytes) = never (length bytes)
  where
    never : (n : ℕ) → (suc n == 0) ≡ false
    never n = grind (arith, nat_tests)

same_truth : (r b : Bool) (P : Type 0) → IsTrue r ↔ P → Decides b P → r ≡ b
same_truth true true P is decides = refl
same_truth false false P is decides = refl
same_truth true false P is decides = absurd (let nay : false ≡ true = decides.1 (is.0 refl) in cc nay)
same_truth false true P is decides = absurd (let nay : false ≡ true = is.1 (decides.0 refl) in cc nay)

pub same_bytes_told : (r : Bool) (xs ys : List ℕ) → IsTrue r ↔ (xs ≡ ys) → r ≡ is_same xs ys
same_bytes_told r xs ys is = same_truth r (is_same xs ys) (xs ≡ ys) is (same_bytes xs ys)

pub write_on : (file : ℕ) (made : Call) (f object at : ℕ) (bytes : List ℕ) → made ≡ call.Write f object at bytes → f ≡ file
    → operation_on file (Some made) ≡ Some (op.Write object at bytes)
write_on file made f object at bytes is same =
    ap (λ (c : Call). operation_on file (Some c)) is
    ∙ ap (λ b. if b then Some (op.Write object at bytes) else None) ((Decides-eqb f file).1 same)

-- ---- what is reported

or_false : (b : Bool) → b ≡ (b || false)
or_false true = refl
or_false false = refl

answered_id : (a : Answer) (told : Told) → is_answer (id_told told) told.1.0 told.1.1.now (Some (answer_of a)) ≡ true → id_told told ≡ a.id
answered_id a told t =
    let both = (Decides-and (is_id a.id (id_told told)) ((a.count == told.1.0) && is_same a.bytes.now told.1.1.now) (same_id a.id (id_told told)) (Decides-and (a.count == told.1.0) (is_same a.bytes.now told.1.1.now) (Decides-eqb a.count told.1.0) (same_bytes a.bytes.now told.1.1.now))).0 t in
    sym both.0

pub answers_more : (old new : BTreeSet Told) (on : OpId → Bool) (a : Answer) → on a.id ≡ true
    → ((told : Told) → has_answer new told ≡ (has_answer old told || is_answer (id_told told) told.1.0 told.1.1.now (Some (answer_of a))))
    → (told : Told) → has_answer new told ≡ (has_answer old told || (is_answer (id_told told) told.1.0 told.1.1.now (Some (answer_of a)) && on (id_told told)))
answers_more old new on a is more told = more told ∙ ap (λ b. has_answer old told || b) (by (is_answer (id_told told) told.1.0 told.1.1.now (Some (answer_of a))) refl)
  where
    by : (b : Bool) → is_answer (id_told told) told.1.0 told.1.1.now (Some (answer_of a)) ≡ b → b ≡ (b && on (id_told told))
    by false t = refl
    by true t = sym (ap on (answered_id a told t) ∙ is)

pub answers_same : (old : BTreeSet Told) (on : OpId → Bool) (a : Answer) → on a.id ≡ false
    → (told : Told) → has_answer old told ≡ (has_answer old told || (is_answer (id_told told) told.1.0 told.1.1.now (Some (answer_of a)) && on (id_told told)))
answers_same old on a is told = or_false (has_answer old told) ∙ ap (λ b. has_answer old told || b) (by (is_answer (id_told told) told.1.0 told.1.1.now (Some (answer_of a))) refl)
  where
    by : (b : Bool) → is_answer (id_told told) told.1.0 told.1.1.now (Some (answer_of a)) ≡ b → false ≡ (b && on (id_told told))
    by false t = refl
    by true t = sym (ap on (answered_id a told t) ∙ is)
