-- The order of writes of a trace is that of the entries which it reports.
use Rattle.std.proofs.Common.{◌≡◌, ℕ, zero, suc, ◌+◌, ◌-◌, ◌≤◌, ◌==◌, ◌⊎◌, Bool, true, false, if◌then◌else◌, List, [], ◌∷◌, ◌++◌, length, map, Some, None, refl, sym, ap, ◌∙◌, subst, inl, inr, arith}
use Rattle.std.specs.Prelude.{slice_get}
use Rattle.std.specs.List.{fold}
use Rattle.xt_base.specs.declared.ids.OpId.{OpId}
use Rattle.xt_messages.specs.declared.file.Op.{Op}
use Rattle.time_line.specs.declared.entry.Entry.{Entry}
use Rattle.time_line.specs.declared.entry.Entry.TheVariants as entry
use Rattle.time_line.specs.TimeLine.{Claim, claim_on, order_by, write_order}
use Rattle.time_line.specs.Clauses.{IsBefore, Bears, IsOneOrder}
use Rattle.time_line.specs.Clauses as clauses
use Rattle.replica_safety.specs.Lists.{AreDistinct}
use Rattle.replica_runs.specs.HeadWorld.{TellsActive, TellsIssue, TellsCommit, ReadOk, WriteOk}
use Rattle.replica_runs.specs.HeadWorld as heads
use Rattle.replica_runs.specs.HeadOrder.{AreOnOneOrder, IsEnd, order_of, order_told, last_of}
use Rattle.replica_runs.specs.Seen.{IsAnswer, name_of}
use Rattle.file_runs.specs.Traces.{Tells, TellsOne, AnswerTells, TracesAreOnOneOrder}
use Rattle.file_runs.proofs.Lists.{length_mapped, mapped_append, get_mapped, get_last, distinct_get}

pub name_is : (a b : OpId) → name_of a ≡ name_of b → a ≡ b
name_is a b is = ap (λ (p : ℕ × ℕ). let o : OpId = record { client = record { 0 = p.0 }; number = p.1 } in o) is

pub named : (id : OpId) (os : List OpId) (c : ℕ) (n : ℕ × ℕ) → slice_get (map name_of os) c ≡ Some n → n ≡ name_of id → slice_get os c ≡ Some id
named id [] c n is same = absurd (cc)
named id (o ∷ os) zero n is same = ap Some (name_is o id (let first : name_of o ≡ n = cc in first ∙ same))
named id (o ∷ os) (suc c) n is same = named id os c n is same

-- a claim appends to both orders, or to none
claimed : (order : List OpId) (claim : Claim) → map name_of (order_by order (Some claim)) ≡ order_told claim.count (name_of claim.id) (map name_of order)
claimed order claim =
    at (claim.count == length order + 1)
    ∙ ap (λ (b : Bool). if b then map name_of order ++ name_of claim.id ∷ [] else map name_of order) (ap (λ n. claim.count == n) (omega (arith, length_mapped name_of order)))
  where
    at : (b : Bool) → map name_of (if b then order ++ claim.id ∷ [] else order) ≡ (if b then map name_of order ++ name_of claim.id ∷ [] else map name_of order)
    at true = mapped_append name_of order (claim.id ∷ [])
    at false = refl

module _ (stripe : ℕ) (ops : ℕ × ℕ → Op) (file : ℕ) where
  abbrev pub Same : List OpId → List heads.Entry → Type 0
  Same order es = map name_of order ≡ order_of [] es

  same_after : (order : List OpId) (before after : List heads.Entry) → after ≡ before → Same order before → Same order after
  same_after order before after is same = same ∙ ap (order_of []) (sym is)

  by_claim : (order : List OpId) (before after : List heads.Entry) (claim : Claim) → order_of [] after ≡ order_told claim.count (name_of claim.id) (order_of [] before) → Same order before → Same (order_by order (Some claim)) after
  by_claim order before after claim is same = claimed order claim ∙ ap (order_told claim.count (name_of claim.id)) same ∙ sym is

  answered : (n : ℕ) (id : OpId) (count : ℕ) (bytes : List ℕ) (x : heads.Entry) (before : List heads.Entry) → IsAnswer stripe ops n id count bytes x → order_of [] (x ∷ before) ≡ order_of [] before
  answered n id count bytes (TellsActive node c i) before is = absurd is
  answered n id count bytes (TellsIssue node c i) before is = absurd is
  answered n id count bytes (TellsCommit node c i) before is = absurd is
  answered n id count bytes (ReadOk node c size object body) before is = refl
  answered n id count bytes (WriteOk node c i) before is = refl

  pub one : (e : Entry) (order : List OpId) (before after : List heads.Entry) → TellsOne stripe ops file e before after → Same order before → Same (order_by order (claim_on file e)) after
  one (entry.Active node f count id) order before after told same = at (f == file) told
    where
      at : (here : Bool) → after ≡ (if here then TellsActive node.0 count (name_of id) ∷ before else before) → Same (order_by order (if here then Some (let c : Claim = record { count = count; id = id } in c) else None)) after
      at true told = by_claim order before after (record { count = count; id = id }) (ap (order_of []) told) same
      at false told = same_after order before after told same
  one (entry.Issue node f count id) order before after told same = at (f == file) told
    where
      at : (here : Bool) → after ≡ (if here then TellsIssue node.0 count (name_of id) ∷ before else before) → Same order after
      at true told = same ∙ sym (ap (order_of []) told)
      at false told = same_after order before after told same
  one (entry.Commit node f count id) order before after told same = at (f == file) told
    where
      at : (here : Bool) → after ≡ (if here then TellsCommit node.0 count (name_of id) ∷ before else before) → Same (order_by order (if here then Some (let c : Claim = record { count = count; id = id } in c) else None)) after
      at true told = by_claim order before after (record { count = count; id = id }) (ap (order_of []) told) same
      at false told = same_after order before after told same
  one (entry.Answer node f id count bytes) order before after told same = at (f == file) told
    where
      at : (here : Bool) → AnswerTells stripe ops node.0 id count bytes before after here → Same order after
      at true (x, is, told) = same ∙ sym (ap (order_of []) told ∙ answered node.0 id count bytes x before is)
      at false told = same_after order before after told same
  one _ order before after told same = same_after order before after told same

  pub all : (entries : List Entry) (order : List OpId) (before after : List heads.Entry) → Tells stripe ops file entries before after → Same order before → Same (fold (λ (o : List OpId) e. order_by o (claim_on file e)) order entries) after
  all [] order before after told same = same_after order before after told same
  all (e ∷ r) order before after (mid, told, rest) same = all r (order_by order (claim_on file e)) mid after rest (one e order before mid told same)

  -- what is on one order was on it before
  abbrev pub Holds : List heads.Entry → Type 0
  Holds es = AreOnOneOrder stripe ops [] es

  was : (e : Entry) (before after : List heads.Entry) → TellsOne stripe ops file e before after → Holds after → Holds before
  was (entry.Active node f count id) before after told holds = at (f == file) (subst Holds told holds)
    where
      at : (here : Bool) → Holds (if here then TellsActive node.0 count (name_of id) ∷ before else before) → Holds before
      at true holds = holds.2
      at false holds = holds
  was (entry.Issue node f count id) before after told holds = at (f == file) (subst Holds told holds)
    where
      at : (here : Bool) → Holds (if here then TellsIssue node.0 count (name_of id) ∷ before else before) → Holds before
      at true holds = holds.2
      at false holds = holds
  was (entry.Commit node f count id) before after told holds = at (f == file) (subst Holds told holds)
    where
      at : (here : Bool) → Holds (if here then TellsCommit node.0 count (name_of id) ∷ before else before) → Holds before
      at true holds = holds.2
      at false holds = holds
  was (entry.Answer node f id count bytes) before after told holds = at (f == file) told
    where
      at : (here : Bool) → AnswerTells stripe ops node.0 id count bytes before after here → Holds before
      at true (x, is, told) = (subst Holds told holds).2
      at false told = subst Holds told holds
  was _ before after told holds = subst Holds told holds

  pub was_all : (entries : List Entry) (before after : List heads.Entry) → Tells stripe ops file entries before after → Holds after → Holds before
  was_all [] before after told holds = subst Holds told holds
  was_all (e ∷ r) before after (mid, told, rest) holds = was e before mid told (was_all r mid after rest holds)

  -- a claim reports the end of the order
  abbrev Ends : List heads.Entry → Claim → Type 0
  Ends es claim = IsEnd (order_of [] es) claim.count (name_of claim.id)

  ends : (e : Entry) (before after : List heads.Entry) (claim : Claim) → TellsOne stripe ops file e before after → claim_on file e ≡ Some claim → Holds after → Ends after claim
  ends (entry.Active node f count id) before after claim told is holds = at (f == file) told is
    where
      at : (here : Bool) → after ≡ (if here then TellsActive node.0 count (name_of id) ∷ before else before) → (if here then Some (let c : Claim = record { count = count; id = id } in c) else None) ≡ Some claim → Ends after claim
      at true told is =
          (let same : (let c : Claim = record { count = count; id = id } in c) ≡ claim = cc in
          subst (Ends after) same (subst (λ es. IsEnd (order_of [] es) count (name_of id)) (sym told) (subst Holds told holds).0))
      at false told is = absurd (cc)
  ends (entry.Commit node f count id) before after claim told is holds = at (f == file) told is
    where
      at : (here : Bool) → after ≡ (if here then TellsCommit node.0 count (name_of id) ∷ before else before) → (if here then Some (let c : Claim = record { count = count; id = id } in c) else None) ≡ Some claim → Ends after claim
      at true told is =
          (let same : (let c : Claim = record { count = count; id = id } in c) ≡ claim = cc in
          subst (Ends after) same (subst (λ es. IsEnd (order_of [] es) count (name_of id)) (sym told) (subst Holds told holds).0))
      at false told is = absurd (cc)
  ends _ before after claim told is holds = absurd (cc)

  -- an order that ends so agrees with the claim
  borne : (order : List OpId) (claim : Claim) → IsEnd (map name_of order) claim.count (name_of claim.id) → Bears order claim
  borne order claim (long, last) = (sym (length_mapped name_of order) ∙ long, at claim.count long last)
    where
      at : (count : ℕ) → length (map name_of order) ≡ count → last_of (map name_of order) ≡ name_of claim.id → (count ≡ 0) ⊎ (slice_get order (count - 1) ≡ Some claim.id)
      at zero long last = inl refl
      at (suc c) long last = inr (ap (slice_get order) (let one_less : suc c - 1 ≡ c = omega (arith) in one_less) ∙ named claim.id order c (last_of (map name_of order)) (get_last (map name_of order) c long) last)

  bears : (before : List Entry) (e : Entry) (after : List Entry) (claim : Claim) (order : List OpId) (first last : List heads.Entry) → Tells stripe ops file (before ++ e ∷ after) first last → Same order first → claim_on file e ≡ Some claim → Holds last → Bears (fold (λ (o : List OpId) e. order_by o (claim_on file e)) order (before ++ e ∷ [])) claim
  bears [] e after claim order first last (mid, told, rest) same is holds =
      borne (order_by order (claim_on file e)) claim
      (subst (λ (os : List (ℕ × ℕ)). IsEnd os claim.count (name_of claim.id)) (sym (one e order first mid told same)) (ends e first mid claim told is (was_all after mid last rest holds)))
  bears (x ∷ before) e after claim order first last (mid, told, rest) same is holds =
      bears before e after claim (order_by order (claim_on file x)) mid last rest (one x order first mid told same) is holds

  apart : (es : List heads.Entry) → Holds es → AreDistinct (order_of [] es)
  apart [] holds = tt
  apart (x ∷ es) holds = holds.1

  on_one_order : (entries : List Entry) (es : List heads.Entry) → Tells stripe ops file entries [] es → Holds es → IsOneOrder file entries
  unfolding write_order
  on_one_order entries es told holds before e claim (after, is) claims =
      bears before e after claim [] [] es (subst (λ (xs : List Entry). Tells stripe ops file xs [] es) is told) refl claims holds

  distinct : (entries : List Entry) (es : List heads.Entry) → Tells stripe ops file entries [] es → Holds es → clauses.AreDistinct file entries
  unfolding write_order
  distinct entries es told holds id a b (above_a, is_a) (above_b, is_b) =
      less a b above_a above_b
      (distinct_get (order_of [] es) (a - 1) (b - 1) (name_of id) (apart es holds) (at a is_a) (at b is_b))
    where
      order : List OpId
      order = fold (λ (o : List OpId) e. order_by o (claim_on file e)) [] entries

      at : (i : ℕ) → slice_get order (i - 1) ≡ Some id → slice_get (order_of [] es) (i - 1) ≡ Some (name_of id)
      at i is = subst (λ (os : List (ℕ × ℕ)). slice_get os (i - 1) ≡ Some (name_of id)) (all entries [] [] es told refl) (get_mapped name_of order (i - 1) id is)

      less : (i j : ℕ) → 1 ≤ i → 1 ≤ j → i - 1 ≡ j - 1 → i ≡ j
      less i j ai aj is = omega (arith, ai, aj, is)

pub same_order : (stripe : ℕ) (ops : ℕ × ℕ → Op) (file : ℕ) (entries : List Entry) (es : List heads.Entry) → Tells stripe ops file entries [] es → map name_of (write_order file entries) ≡ order_of [] es
unfolding write_order
same_order stripe ops file entries es told = all stripe ops file entries [] [] es told refl

pub hold : TracesAreOnOneOrder
hold stripe ops file entries es told holds = (on_one_order stripe ops file entries es told holds, distinct stripe ops file entries es told holds)
