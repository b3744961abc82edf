-- the members of a list one by one
use Rattle.std.proofs.Common.{◌≡◌, ℕ, zero, suc, ◌<◌, ◌≤◌, inl, inr, Bool, true, false, cond, List, [], ◌∷◌, length, refl, ap, sym, ◌∙◌, subst, arith, Option, Some, None}
use Rattle.std.specs.Prelude.{◌==◌, ◌&&◌, not, slice_get, unwrap_or}
use Rattle.std.proofs.lemmas.Bool.{cases_lt}
use Rattle.std.proofs.lemmas.Bool.Decides.{nat_tests}
use Rattle.xt_base.specs.MemberList.{has_node, are_distinct}
use Rattle.xt_base.specs.declared.ids.NodeId.{NodeId}
use Rattle.client_rows.specs.Requests.{member_after, or_nobody}
use Rattle.client_rows.specs.Clients.{first_member}
use Rattle.striped_safety.proofs.MemberRows.{got, has_got}

parts : (n : NodeId) (ns : List NodeId) → are_distinct (n ∷ ns) ≡ true → (has_node ns n.0 ≡ false) × (are_distinct ns ≡ true)
parts n ns is = at (has_node ns n.0) refl is
  where
    at : (b : Bool) → has_node ns n.0 ≡ b → (not b && are_distinct ns) ≡ true → (has_node ns n.0 ≡ false) × (are_distinct ns ≡ true)
    at true has is = absurd (cc is)
    at false has is = (has, is)

-- the member after the one at a place stands at the next place
pub member_next : (nodes : List NodeId) (i : ℕ) (node : NodeId) → are_distinct nodes ≡ true → slice_get nodes i ≡ Some node → member_after nodes node ≡ slice_get nodes (suc i)
member_next [] i node differ is = absurd (cc is)
member_next (n ∷ ns) zero node differ is =
    (let same : n ≡ node = cc is in subst (λ (x : NodeId). member_after (n ∷ ns) x ≡ slice_get ns 0) same (ap (λ (b : Bool). cond b (slice_get ns 0) (member_after ns n)) (itself n.0)))
  where
    itself : (k : ℕ) → (k == k) ≡ true
    itself k = grind (arith, nat_tests)
member_next (n ∷ ns) (suc i) node differ is = at (n.0 == node.0) refl (member_next ns i node (parts n ns differ).1 is)
  where
    at : (b : Bool) → (n.0 == node.0) ≡ b → member_after ns node ≡ slice_get ns (suc i) → cond b (slice_get ns 0) (member_after ns node) ≡ slice_get ns (suc i)
    at false other later = later
    at true same later = absurd (let there = has_got ns i node n.0 is (number node.0 n.0 same) in let none = (parts n ns differ).0 in cc (there, none))
      where
        number : (a b : ℕ) → (b == a) ≡ true → a ≡ b
        number a b e = grind (arith, nat_tests)

-- where there is a next place
pub next_there : (nodes : List NodeId) (i : ℕ) (t : NodeId) → slice_get nodes i ≡ Some t → (i < length nodes) × (t ≡ unwrap_or (slice_get nodes i) (record { 0 = 0 }))
next_there [] i t is = absurd (cc is)
next_there (n ∷ ns) zero t is = (omega arith, sym (ap (λ (o : Option NodeId). unwrap_or o (record { 0 = 0 })) is))
next_there (n ∷ ns) (suc i) t is = (let rest = next_there ns i t is in let low = rest.0 in (omega (arith, low), rest.1))

-- and where there is none
pub next_none : (nodes : List NodeId) (i : ℕ) → slice_get nodes i ≡ None → length nodes ≤ i
next_none nodes i none = elim (cases_lt i (length nodes)) as (λ _. length nodes ≤ i) [
  | inl low ↦ absurd (let some = got nodes i low in let both : None ≡ Some (unwrap_or (slice_get nodes i) (record { 0 = 0 })) = sym none ∙ some in cc both)
  | inr high ↦ high
]

-- the owner of an object, and the first member
pub owner_is : (nodes : List NodeId) (place : ℕ) → or_nobody (slice_get nodes place) ≡ unwrap_or (slice_get nodes place) (record { 0 = 0 })
owner_is nodes place = at (slice_get nodes place)
  where
    at : (o : Option NodeId) → or_nobody o ≡ unwrap_or o (record { 0 = 0 })
    at None = refl
    at (Some node) = refl

pub first_is : (nodes : List NodeId) → first_member nodes ≡ unwrap_or (slice_get nodes 0) (record { 0 = 0 })
first_is [] = refl
first_is (n ∷ ns) = refl
