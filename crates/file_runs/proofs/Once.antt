-- Each write stands once in the order of a trace, and had begun before it was put there.
use Rattle.std.proofs.Common.{◌≡◌, ◌⊎◌, ℕ, ◌+◌, ◌-◌, true, List, [], ◌∷◌, ◌++◌, length, map, Option, Some, None, refl, sym, ap, ◌∙◌, subst, inl, inr, arith, append_assoc}
use Rattle.std.specs.List.{fold}
use Rattle.xt_base.specs.declared.ids.OpId.{OpId}
use Rattle.xt_messages.specs.declared.file.Op.{Op}
use Rattle.xt_messages.specs.declared.file.Op.TheVariants as op
use Rattle.time_line.specs.declared.entry.Entry.{Entry}
use Rattle.time_line.specs.declared.entry.Entry.TheVariants as entry
use Rattle.time_line.specs.TimeLine.{Claim, claim_on, order_by, write_order, operation_begun}
use Rattle.time_line.specs.Clauses.{IsBefore, IsMoment, Bears, is_change}
use Rattle.replica_safety.specs.Lists.{Has}
use Rattle.replica_runs.specs.HeadOrder.{IsChange}
use Rattle.replica_runs.specs.Seen.{name_of}
use Rattle.file_runs.specs.Traces.{IsIssued, TracesAreOnce}
use Rattle.file_runs.proofs.Lists.{got_has, has_mapped}
use Rattle.file_runs.proofs.Order.{hold, same_order}
use Rattle.file_runs.proofs.Shown.{grows}

folded : {A B : Type 0} (f : B → A → B) (b : B) (xs ys : List A) → fold f b (xs ++ ys) ≡ fold f (fold f b xs) ys
folded f b [] ys = refl
folded f b (x ∷ xs) ys = folded f (f b x) xs ys

changes : (o : Op) → IsChange o → is_change (Some o) ≡ true
changes (op.Read object at len) is = absurd is
changes (op.Write object at bytes) is = refl
changes (op.Truncate size) is = refl

-- the write of a claim that agrees with the order, and isn't of place 0, is in the order
stands : (order : List OpId) (claim : Claim) (n : ℕ) → claim.count ≡ n + 1 → Bears order claim → Has claim.id order
stands order claim n past (long, inl none) = (let no : ⊥ = omega (arith, past, none) in absurd no)
stands order claim n past (long, inr place) = got_has order (claim.count - 1) claim.id place

stays : (file : ℕ) (id : OpId) (before : List Entry) (e : Entry) (after : List Entry) → Has id (write_order file (before ++ e ∷ [])) → Has (name_of id) (map name_of (write_order file (before ++ e ∷ after)))
unfolding write_order
stays file id before e after has =
    subst (λ (es : List Entry). Has (name_of id) (map name_of (fold (λ (o : List OpId) e. order_by o (claim_on file e)) [] es))) (append_assoc before (e ∷ []) after)
    (subst (λ (os : List OpId). Has (name_of id) (map name_of os)) (sym (folded (λ (o : List OpId) e. order_by o (claim_on file e)) [] (before ++ e ∷ []) after))
    (grows file (name_of id) after (fold (λ (o : List OpId) e. order_by o (claim_on file e)) [] (before ++ e ∷ [])) (has_mapped name_of (fold (λ (o : List OpId) e. order_by o (claim_on file e)) [] (before ++ e ∷ [])) id has)))

-- an entry of a list with one more is one before, or the last
one_of : (before : List Entry) (e : Entry) (front : List Entry) (x : Entry) (rest : List Entry) → before ++ e ∷ [] ≡ front ++ x ∷ rest → IsBefore front x before ⊎ (x ≡ e)
one_of [] e [] x rest is = (let same : e ≡ x = cc in inr (sym same))
one_of [] e (f ∷ []) x rest is = absurd (cc)
one_of [] e (f ∷ g ∷ front) x rest is = absurd (cc)
one_of (b ∷ before) e [] x rest is = (let same : b ≡ x = cc in inl (before, ap (λ y. y ∷ before) same))
one_of (b ∷ before) e (f ∷ front) x rest is =
    let first : b ≡ f = cc in
    let tail : before ++ e ∷ [] ≡ front ++ x ∷ rest = cc in
    elim (one_of before e front x rest tail) [
      | inl m ↦ inl (m.0, (let here : before ≡ front ++ x ∷ m.0 = m.1 in ap (λ y. y ∷ before) first ∙ ap (λ ys. f ∷ ys) here))
      | inr same ↦ inr same
    ]

-- a claim isn't an issue
issued_before : (file : ℕ) (before : List Entry) (e : Entry) (claim : Claim) (id : OpId) → claim_on file e ≡ Some claim → IsIssued file (before ++ e ∷ []) id → IsIssued file before id
issued_before file before e claim id claims (front, node, count, (rest, is)) = at (one_of before e front (entry.Issue node file count id) rest is)
  where
    at : IsBefore front (entry.Issue node file count id) before ⊎ (entry.Issue node file count id ≡ e) → IsIssued file before id
    at (inl m) = (front, node, count, m)
    at (inr same) = (let none : None ≡ Some claim = ap (claim_on file) same ∙ claims in absurd (cc))

pub once : TracesAreOnce
once stripe ops file entries es told holds are issued have = record { distinct = (hold stripe ops file entries es told holds).1; begun = begun }
  where
    begun : (before : List Entry) (e : Entry) (claim : Claim) → IsBefore before e entries → claim_on file e ≡ Some claim → claim.count ≡ length (write_order file before) + 1 → is_change (operation_begun file before claim.id) ≡ true
    begun before e claim is claims past =
        subst (λ (o : Option Op). is_change o ≡ true)
        (sym (have.issued before claim.id (e ∷ is.0, is.1) (issued_before file before e claim claim.id claims (issued (before ++ e ∷ []) claim.id behind there))))
        (changes (ops (name_of claim.id)) (are (name_of claim.id)
        (subst (Has (name_of claim.id)) (same_order stripe ops file entries es told)
        (subst (λ (xs : List Entry). Has (name_of claim.id) (map name_of (write_order file xs))) (sym is.1) (stays file claim.id before e is.0 there)))))
      where
        there : Has claim.id (write_order file (before ++ e ∷ []))
        there = stands (write_order file (before ++ e ∷ [])) claim (length (write_order file before)) past ((hold stripe ops file entries es told holds).0 before e claim is claims)

        behind : IsMoment (before ++ e ∷ []) entries
        behind = (is.0, is.1 ∙ sym (append_assoc before (e ∷ []) is.0))
