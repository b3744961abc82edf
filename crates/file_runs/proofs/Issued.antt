-- Each write of a trace's order had been issued before.
use Rattle.std.proofs.Common.{◌≡◌, ◌⊎◌, ℕ, ◌==◌, Bool, true, false, if◌then◌else◌, List, [], ◌∷◌, ◌++◌, refl, ap, ap₂, subst, inl, inr, arith}
use Rattle.std.proofs.lemmas.Bool.Decides.{nat_tests}
use Rattle.xt_base.specs.declared.ids.NodeId.{NodeId}
use Rattle.xt_base.specs.declared.ids.OpId.{OpId}
use Rattle.xt_messages.specs.declared.file.Op.{Op}
use Rattle.time_line.specs.declared.entry.Entry.{Entry}
use Rattle.time_line.specs.declared.entry.Entry.TheVariants as entry
use Rattle.time_line.specs.TimeLine.{write_order}
use Rattle.replica_safety.specs.Lists.{Has}
use Rattle.replica_runs.specs.HeadOrder.{IssuesComeFirst, order_of}
use Rattle.replica_runs.specs.HeadOrder as order
use Rattle.replica_runs.specs.HeadWorld.{TellsActive, TellsIssue, TellsCommit, ReadOk, WriteOk}
use Rattle.replica_runs.specs.HeadWorld as heads
use Rattle.replica_runs.specs.Seen.{IsAnswer, name_of}
use Rattle.file_runs.specs.Traces.{Tells, TellsOne, AnswerTells, IsIssued, TracesIssueFirst}
use Rattle.file_runs.proofs.Lists.{has_mapped}
use Rattle.file_runs.proofs.Order.{name_is, same_order}

-- where each is issued first, what stands in the order is issued
ordered : (es : List heads.Entry) → IssuesComeFirst [] [] es → (k : ℕ × ℕ) → Has k (order_of [] es) → order.IsIssued es k
ordered [] first k h = absurd h
ordered (x ∷ es) first k h = later (first.0 k h)
  where
    later : Has k [] ⊎ order.IsIssued es k → order.IsIssued (x ∷ es) k
    later (inl none) = absurd none
    later (inr is) = (is.0, is.1, inr is.2)

module _ (stripe : ℕ) (ops : ℕ × ℕ → Op) (file : ℕ) where
  -- an issue that is reported is one of the entry
  abbrev Says : Entry → heads.Entry → Type 0
  Says e x = (n count : ℕ) (k : ℕ × ℕ) → TellsIssue n count k ≡ x → (node : NodeId) × (id : OpId) × (e ≡ entry.Issue node file count id) × (name_of id ≡ k)

  -- an entry reports nothing, or one thing
  abbrev Adds : Entry → List heads.Entry → List heads.Entry → Type 0
  Adds e before after = (after ≡ before) ⊎ ((x : heads.Entry) × (after ≡ x ∷ before) × Says e x)

  no_issue : (n : ℕ) (id : OpId) (count : ℕ) (bytes : List ℕ) (x : heads.Entry) → IsAnswer stripe ops n id count bytes x → (m c : ℕ) (k : ℕ × ℕ) → TellsIssue m c k ≡ x → ⊥
  no_issue n id count bytes (TellsActive node c i) is m d k p = is
  no_issue n id count bytes (TellsIssue node c i) is m d k p = is
  no_issue n id count bytes (TellsCommit node c i) is m d k p = is
  no_issue n id count bytes (ReadOk node c size object body) is m d k p = cc
  no_issue n id count bytes (WriteOk node c i) is m d k p = cc

  adds : (e : Entry) (before after : List heads.Entry) → TellsOne stripe ops file e before after → Adds e before after
  adds (entry.Active node f count id) before after told = at (f == file) told
    where
      at : (here : Bool) → after ≡ (if here then TellsActive node.0 count (name_of id) ∷ before else before) → Adds (entry.Active node f count id) before after
      at true is = inr (TellsActive node.0 count (name_of id), is, λ n c k p. absurd (cc))
      at false is = inl is
  adds (entry.Issue node f count id) before after told = at (f == file) refl told
    where
      its : (f == file) ≡ true → f ≡ file
      its here = grind (arith, nat_tests)

      at : (here : Bool) → (f == file) ≡ here → after ≡ (if here then TellsIssue node.0 count (name_of id) ∷ before else before) → Adds (entry.Issue node f count id) before after
      at true here is = inr (
        TellsIssue node.0 count (name_of id),
        is,
        λ n c k p.
            let same_count : count ≡ c = cc in
            let same_name : name_of id ≡ k = cc in
            (node, id, ap₂ (λ g d. entry.Issue node g d id) (its here) same_count, same_name),
      )
      at false here is = inl is
  adds (entry.Commit node f count id) before after told = at (f == file) told
    where
      at : (here : Bool) → after ≡ (if here then TellsCommit node.0 count (name_of id) ∷ before else before) → Adds (entry.Commit node f count id) before after
      at true is = inr (TellsCommit node.0 count (name_of id), is, λ n c k p. absurd (cc))
      at false is = inl is
  adds (entry.Answer node f id count bytes) before after told = at (f == file) told
    where
      at : (here : Bool) → AnswerTells stripe ops node.0 id count bytes before after here → Adds (entry.Answer node f id count bytes) before after
      at true (x, is, told) = inr (x, told, λ n c k p. absurd (no_issue node.0 id count bytes x is n c k p))
      at false told = inl told
  adds _ before after told = inl told

  -- what was issued first was so before
  was : (e : Entry) (before after : List heads.Entry) → Adds e before after → IssuesComeFirst [] [] after → IssuesComeFirst [] [] before
  was e before after (inl same) first = subst (IssuesComeFirst [] []) same first
  was e before after (inr a) first = (subst (IssuesComeFirst [] []) a.1 first).1

  was_all : (entries : List Entry) (before after : List heads.Entry) → Tells stripe ops file entries before after → IssuesComeFirst [] [] after → IssuesComeFirst [] [] before
  was_all [] before after told first = subst (IssuesComeFirst [] []) told first
  was_all (e ∷ r) before after (mid, told, rest) first = was e before mid (adds e before mid told) (was_all r mid after rest first)

  -- a write of this name is issued by one of these
  abbrev IsTold : List Entry → ℕ × ℕ → Type 0
  IsTold entries k = (id : OpId) × (name_of id ≡ k) × IsIssued file entries id

  behind_one : (e : Entry) (entries : List Entry) (k : ℕ × ℕ) → IsTold entries k → IsTold (e ∷ entries) k
  behind_one e entries k t = (t.0, t.1, (e ∷ t.2.0, t.2.1, t.2.2, (t.2.3.0, ap (λ (es : List Entry). e ∷ es) t.2.3.1)))

  by_one : (e : Entry) (rest : List Entry) (before after : List heads.Entry) (n count : ℕ) (k : ℕ × ℕ) → Adds e before after → Has (TellsIssue n count k) after
      → Has (TellsIssue n count k) before ⊎ IsTold (e ∷ rest) k
  by_one e rest before after n count k (inl same) h = inl (subst (Has (TellsIssue n count k)) same h)
  by_one e rest before after n count k (inr a) h = at (subst (Has (TellsIssue n count k)) a.1 h)
    where
      at : Has (TellsIssue n count k) (a.0 ∷ before) → Has (TellsIssue n count k) before ⊎ IsTold (e ∷ rest) k
      at (inl p) = let s = a.2 n count k p in inr (s.1, s.3, ([], s.0, count, (rest, ap (λ (x : Entry). x ∷ rest) s.2)))
      at (inr there) = inl there

  -- an issue that is reported was reported before, or is an entry
  sources : (entries : List Entry) (before after : List heads.Entry) (n count : ℕ) (k : ℕ × ℕ) → Tells stripe ops file entries before after → Has (TellsIssue n count k) after
      → Has (TellsIssue n count k) before ⊎ IsTold entries k
  sources [] before after n count k told h = inl (subst (Has (TellsIssue n count k)) told h)
  sources (e ∷ r) before after n count k (mid, told, rest) h = at (sources r mid after n count k rest h)
    where
      at : Has (TellsIssue n count k) mid ⊎ IsTold r k → Has (TellsIssue n count k) before ⊎ IsTold (e ∷ r) k
      at (inl there) = by_one e r before mid n count k (adds e before mid told) there
      at (inr later) = inr (behind_one e r k later)

  split : (xs ys : List Entry) (before after : List heads.Entry) → Tells stripe ops file (xs ++ ys) before after
      → (mid : List heads.Entry) × Tells stripe ops file xs before mid × Tells stripe ops file ys mid after
  split [] ys before after told = (before, refl, told)
  split (x ∷ xs) ys before after (mid, told, rest) = let more = split xs ys mid after rest in (more.0, (mid, told, more.1), more.2)

pub issue_first : TracesIssueFirst
issue_first stripe ops file entries es told first moment id is has =
    let cut = split stripe ops file moment is.0 [] es (subst (λ (xs : List Entry). Tells stripe ops file xs [] es) is.1 told) in
    let here : Has (name_of id) (order_of [] cut.0) = subst (Has (name_of id)) (same_order stripe ops file moment cut.0 cut.1) (has_mapped name_of (write_order file moment) id has) in
    let issue = ordered cut.0 (was_all stripe ops file is.0 cut.0 es cut.2 first) (name_of id) here in
    found (sources stripe ops file moment [] cut.0 issue.0 issue.1 (name_of id) cut.1 issue.2)
  where
    found : ⊥ ⊎ IsTold stripe ops file moment (name_of id) → IsIssued file moment id
    found (inl none) = absurd none
    found (inr t) = subst (IsIssued file moment) (name_is t.0 id t.1) t.2
