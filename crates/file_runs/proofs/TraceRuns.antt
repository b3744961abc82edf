-- What the tales of a run report is what their trace reports.
use Rattle.std.proofs.Common.{◌≡◌, ℕ, ◌==◌, Bool, true, false, List, [], ◌∷◌, ◌++◌, map, refl, sym, ap, subst, arith, if◌then◌else◌}
use Rattle.std.proofs.lemmas.Bool.Decides.{nat_tests}
use Rattle.xt_base.specs.declared.ids.NodeId.{NodeId}
use Rattle.xt_messages.specs.declared.event.Mark.{Mark}
use Rattle.xt_messages.specs.declared.event.Mark.TheVariants as mark
use Rattle.xt_messages.specs.declared.file.Op.{Op}
use Rattle.time_line.specs.declared.entry.Entry.{Entry}
use Rattle.world_spec.specs.NodeSteps.{entry_of}
use Rattle.replica_safety.specs.Epochs.{name, Write}
use Rattle.replica_runs.specs.HeadWorld.{TellsActive, TellsIssue, TellsCommit}
use Rattle.replica_runs.specs.HeadWorld as heads
use Rattle.replica_runs.specs.HeadOrder.{AreOnOneOrder, AreChanges, order_of}
use Rattle.replica_runs.specs.Seen.{AreTold, name_of}
use Rattle.file_runs.specs.FileRuns.{Tale, after_all, IsOnOneOrder}
use Rattle.file_runs.specs.FileRuns as files
use Rattle.file_runs.proofs.Runs.{begins_inv, on_one_order}
use Rattle.file_runs.specs.Traces.{Tells, AnswerTells}
use Rattle.file_runs.specs.TraceRuns.{trace_of, RunsAreSafe}
use Rattle.file_runs.proofs.Named.{AreOf, TalesAreOf, all_named}
use Rattle.file_runs.proofs.Order.{hold}
use Rattle.file_runs.proofs.Shown.{show}

own : (f file : ℕ) → f ≡ file → true ≡ (f == file)
own f file is = at (f == file) refl
  where
    at : (b : Bool) → (f == file) ≡ b → true ≡ b
    at true same = refl
    at false other = grind (arith, nat_tests)

module _ (stripe : ℕ) (ops : ℕ × ℕ → Op) (file : ℕ) where
  pub joined : (xs ys : List Entry) (a b c : List heads.Entry) → Tells stripe ops file xs a b → Tells stripe ops file ys b c → Tells stripe ops file (xs ++ ys) a c
  joined [] ys a b c is told = subst (λ (es : List heads.Entry). Tells stripe ops file ys es c) is told
  joined (x ∷ xs) ys a b c (mid, one, rest) told = (mid, one, joined xs ys mid b c rest told)

  pub marked : (node : NodeId) (ms : List Mark) (before after : List heads.Entry) → AreOf file ms → AreTold stripe ops node.0 ms before after → Tells stripe ops file (map (entry_of node) ms) before after
  marked node [] before after of told = sym told
  marked node (mark.Active f count id ∷ ms) before after of told = (
    TellsActive node.0 count (name_of id) ∷ before,
    ap (λ (b : Bool). if b then TellsActive node.0 count (name_of id) ∷ before else before) (own f file of.0),
    marked node ms (TellsActive node.0 count (name_of id) ∷ before) after of.1 told,
  )
  marked node (mark.Issue f count id ∷ ms) before after of told = (
    TellsIssue node.0 count (name_of id) ∷ before,
    ap (λ (b : Bool). if b then TellsIssue node.0 count (name_of id) ∷ before else before) (own f file of.0),
    marked node ms (TellsIssue node.0 count (name_of id) ∷ before) after of.1 told,
  )
  marked node (mark.Commit f count id ∷ ms) before after of told = (
    TellsCommit node.0 count (name_of id) ∷ before,
    ap (λ (b : Bool). if b then TellsCommit node.0 count (name_of id) ∷ before else before) (own f file of.0),
    marked node ms (TellsCommit node.0 count (name_of id) ∷ before) after of.1 told,
  )
  marked node (mark.Answer f id count bytes ∷ ms) before after of (x, is, told) = (
    x ∷ before,
    subst (AnswerTells stripe ops node.0 id count bytes before (x ∷ before)) (own f file of.0) (x, is, refl),
    marked node ms (x ∷ before) after of.1 told,
  )
  marked node (_ ∷ ms) before after of told = (before, refl, marked node ms before after of.1 told)

  traced : (ts : List Tale) (es : List heads.Entry) → TalesAreOf file ts → files.Tells stripe ops ts es → Tells stripe ops file (trace_of ts) [] es
  traced [] es of told = told
  traced (t ∷ ts) es of (before, told, last) =
      joined (trace_of ts) (map (entry_of (let node : NodeId = record { 0 = t.node } in node)) t.marks) [] before es (traced ts before of.1 told)
      (marked (record { 0 = t.node }) t.marks before es of.0 last)

pub runs : RunsAreSafe
runs stripe ops file members start w events some distinct begins empty at are may =
    record { one_order = (hold stripe ops file entries is.entries told fit).0; distinct = (hold stripe ops file entries is.entries told fit).1; answers = show stripe ops file entries is.entries told fit changes }
  where
    of : TalesAreOf file (after_all w events).tales
    of = (all_named stripe some ops members distinct start file w events may (begins_inv stripe some ops members distinct start w begins at) (are, subst (TalesAreOf file) (sym at.untold) tt)).1

    entries : List Entry
    entries = trace_of (after_all w events).tales

    is : IsOnOneOrder stripe ops start (after_all w events)
    is = on_one_order stripe some ops members distinct start w events begins at may

    told : Tells stripe ops file (trace_of (after_all w events).tales) [] is.entries
    told = traced stripe ops file (after_all w events).tales is.entries of is.told

    fit : AreOnOneOrder stripe ops [] is.entries
    fit = subst (λ (line : List Write). AreOnOneOrder stripe ops (map name line) is.entries) empty is.fit

    changes : AreChanges ops (order_of [] is.entries)
    changes = subst (λ (line : List Write). AreChanges ops (order_of (map name line) is.entries)) empty is.changes
