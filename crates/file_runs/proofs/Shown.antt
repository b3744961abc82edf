-- Each answer of a trace shows the order of writes that the trace gives before it.
use Rattle.std.proofs.Common.{◌≡◌, ℕ, zero, suc, pred, ◌+◌, ◌-◌, ◌≤◌, ◌==◌, Bool, true, false, List, [], ◌∷◌, ◌++◌, length, map, Option, Some, None, refl, sym, ap, ◌∙◌, subst, inl, inr, arith, if◌then◌else◌}
use Rattle.std.specs.Prelude.{slice_get}
use Rattle.std.specs.List.{fold}
use Rattle.std.proofs.lemmas.Bool.Decides.{nat_tests}
use Rattle.xt_base.specs.declared.ids.NodeId.{NodeId}
use Rattle.xt_base.specs.declared.ids.OpId.{OpId}
use Rattle.xt_messages.specs.declared.file.Op.{Op}
use Rattle.xt_messages.specs.declared.file.Op.TheVariants as op
use Rattle.time_line.specs.Content.{place_of, content_of, range_of}
use Rattle.time_line.specs.declared.entry.Entry.{Entry}
use Rattle.time_line.specs.declared.entry.Entry.TheVariants as entry
use Rattle.time_line.specs.TimeLine.{Claim, claim_on, order_by, write_order}
use Rattle.replica_safety.specs.Lists.{Has}
use Rattle.replica_runs.specs.HeadWorld.{TellsActive, TellsIssue, TellsCommit, ReadOk, WriteOk}
use Rattle.replica_runs.specs.HeadWorld as heads
use Rattle.replica_runs.specs.HeadOrder.{AreChanges, IsChange, Fits, order_of}
use Rattle.replica_runs.specs.Seen.{IsAnswer, name_of}
use Rattle.file_runs.specs.Traces.{Tells, AnswerTells, Shows, TracesShow}
use Rattle.file_runs.proofs.Lists.{length_mapped, mapped_append, got_has}
use Rattle.file_runs.proofs.Order.{Same, Holds, one, all, was_all, named}

has_left : {A : Type 0} (x : A) (xs ys : List A) → Has x xs → Has x (xs ++ ys)
has_left x [] ys has = absurd has
has_left x (y ∷ xs) ys (inl same) = inl same
has_left x (y ∷ xs) ys (inr has) = inr (has_left x xs ys has)

-- what stands in an order stands in every later one
grows_one : (x : ℕ × ℕ) (order : List OpId) (claim : Option Claim) → Has x (map name_of order) → Has x (map name_of (order_by order claim))
grows_one x order None has = has
grows_one x order (Some claim) has = at (claim.count == length order + 1)
  where
    at : (b : Bool) → Has x (map name_of (if b then order ++ claim.id ∷ [] else order))
    at true = subst (Has x) (sym (mapped_append name_of order (claim.id ∷ []))) (has_left x (map name_of order) (name_of claim.id ∷ []) has)
    at false = has

pub grows : (file : ℕ) (x : ℕ × ℕ) (entries : List Entry) (order : List OpId) → Has x (map name_of order) → Has x (map name_of (fold (λ (o : List OpId) e. order_by o (claim_on file e)) order entries))
grows file x [] order has = has
grows file x (e ∷ r) order has = grows file x r (order_by order (claim_on file e)) (grows_one x order (claim_on file e) has)

-- a change is answered with its place
placed : (stripe : ℕ) (ops : ℕ × ℕ → Op) (order : List OpId) (id : OpId) (count : ℕ) (bytes : List ℕ) (o : Op) → IsChange o → 1 ≤ count → slice_get order (count - 1) ≡ Some id → bytes ≡ [] → Shows stripe ops order id count bytes o
placed stripe ops order id count bytes (op.Read object at len) change some place none = absurd change
placed stripe ops order id count bytes (op.Write object at body) change some place none = (some, place, none)
placed stripe ops order id count bytes (op.Truncate size) change some place none = (some, place, none)

less : (c : ℕ) → c - 1 ≡ pred c
less zero = omega (arith)
less (suc c) = omega (arith)

module _ (stripe : ℕ) (ops : ℕ × ℕ → Op) (file : ℕ) where
  answer : (order : List OpId) (first : List heads.Entry) (n : ℕ) (id : OpId) (count : ℕ) (bytes : List ℕ) (x : heads.Entry) → IsAnswer stripe ops n id count bytes x → Fits stripe ops [] (x ∷ first) → Same stripe ops file order first → (Has (name_of id) (map name_of order) → IsChange (ops (name_of id))) → Shows stripe ops order id count bytes (ops (name_of id))
  answer order first n id count bytes (TellsActive node c i) is fits same change = absurd is
  answer order first n id count bytes (TellsIssue node c i) is fits same change = absurd is
  answer order first n id count bytes (TellsCommit node c i) is fits same change = absurd is
  answer order first n id count bytes (ReadOk node c size object body) (at, len, node_is, c_is, asks, inside, shows) (long, content) same change =
      subst (Shows stripe ops order id count bytes) (sym asks) (
        sym c_is ∙ long ∙ ap length (sym same) ∙ length_mapped name_of order,
        shows ∙ content at len inside ∙ ap (λ (os : List (ℕ × ℕ)). range_of (content_of stripe (map ops os)) (place_of stripe object at) len) (sym same),
      )
  answer order first n id count bytes (WriteOk node c i) (node_is, c_is, i_is, none) (some, place) same change =
      placed stripe ops order id count bytes (ops (name_of id))
      (change (subst (λ (k : ℕ × ℕ). Has k (map name_of order)) i_is (got_has (map name_of order) (pred c) i here)))
      (subst (λ k. 1 ≤ k) c_is some)
      (ap (slice_get order) (less count ∙ ap pred (sym c_is)) ∙ named id order (pred c) i here i_is)
      none
    where
      here : slice_get (map name_of order) (pred c) ≡ Some i
      here = subst (λ (os : List (ℕ × ℕ)). slice_get os (pred c) ≡ Some i) (sym same) place

  shown : (before : List Entry) (node : NodeId) (id : OpId) (count : ℕ) (bytes : List ℕ) (after : List Entry) (order : List OpId) (first last : List heads.Entry) → Tells stripe ops file (before ++ entry.Answer node file id count bytes ∷ after) first last → Same stripe ops file order first → Holds stripe ops file last → AreChanges ops (order_of [] last) → Shows stripe ops (fold (λ (o : List OpId) e. order_by o (claim_on file e)) order before) id count bytes (ops (name_of id))
  shown [] node id count bytes after order first last (mid, told, rest) same holds changes = at (file == file) refl told
    where
      later : Same stripe ops file order mid
      later = one stripe ops file (entry.Answer node file id count bytes) order first mid told same

      change : Has (name_of id) (map name_of order) → IsChange (ops (name_of id))
      change has = changes (name_of id) (subst (Has (name_of id)) (all stripe ops file after order mid last rest later) (grows file (name_of id) after order has))

      at : (here : Bool) → (file == file) ≡ here → AnswerTells stripe ops node.0 id count bytes first mid here → Shows stripe ops order id count bytes (ops (name_of id))
      at true own (x, is, told) =
          answer order first node.0 id count bytes x is (subst (Holds stripe ops file) told (was_all stripe ops file after mid last rest holds)).0 same change
      at false own told = grind (arith, nat_tests)
  shown (x ∷ before) node id count bytes after order first last (mid, told, rest) same holds changes =
      shown before node id count bytes after (order_by order (claim_on file x)) mid last rest (one stripe ops file x order first mid told same) holds changes

pub show : TracesShow
unfolding write_order
show stripe ops file entries es told holds changes before node id count bytes (after, is) =
    shown stripe ops file before node id count bytes after [] [] es (subst (λ (xs : List Entry). Tells stripe ops file xs [] es) is told) refl holds changes
