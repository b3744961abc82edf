-- what the trace of a world reports of a file, and what the tales of the file's world do
use Rattle.std.proofs.Common.{◌≡◌, ◌≤◌, ◌==◌, ℕ, List, [], ◌∷◌, map, refl, ap, sym, ◌∙◌, subst, Some, None, Bool, true, false, if◌then◌else◌}
use Rattle.xt_base.specs.declared.ids.NodeId.{NodeId}
use Rattle.xt_base.specs.declared.ids.OpId.{OpId}
use Rattle.xt_messages.specs.declared.event.Mark.{Mark}
use Rattle.xt_messages.specs.declared.event.Mark.TheVariants as mark
use Rattle.xt_messages.specs.declared.file.Op.{Op}
use Rattle.lease_runs.specs.ActsView.{AreActs}
use Rattle.replica_runs.specs.Seen.{name_of}
use Rattle.replica_safety.specs.Epochs.{name, Write}
use Rattle.replica_safety.specs.Lists.{AreDistinct}
use Rattle.replica_safety.specs.Rules.{Start}
use Rattle.replica_runs.specs.Made.{IsMade}
use Rattle.replica_runs.specs.Marks.{Begins}
use Rattle.replica_runs.specs.HeadOrder.{AreOnOneOrder, AreChanges, order_of}
use Rattle.replica_runs.specs.HeadWorld.{TellsActive, TellsIssue, TellsCommit}
use Rattle.replica_runs.specs.HeadWorld as heads
use Rattle.file_runs.specs.FileRuns.{FileWorld, Event, BeginsFile, MayAll, after_all, IsOnOneOrder}
use Rattle.file_runs.proofs.Runs.{on_one_order}
use Rattle.file_runs.specs.Traces.{Tells, TellsOne, AnswerTells}
use Rattle.file_runs.specs.TraceRuns.{IsSafe}
use Rattle.file_runs.proofs.Named.{of_step}
use Rattle.file_runs.proofs.Order.{hold}
use Rattle.file_runs.proofs.TraceRuns.{joined, marked}
use Rattle.file_runs.proofs.Shown.{show}
use Rattle.time_line.specs.declared.entry.Entry.{Entry}
use Rattle.time_line.specs.declared.entry.Entry.TheVariants as entry
use Rattle.time_line.specs.Clauses.{acts_on}
use Rattle.world_spec.specs.NodeSteps.{entry_of}
use Rattle.world_safety.specs.Tellings.{TellsAs, Telling}

some_number : (a b : ℕ) → Some a ≡ Some b → a ≡ b
some_number a b is = cc

-- an act isn't of the file
apart : (b : Bool) (node : NodeId) → (if b then Some node else None) ≡ None → b ≡ false
apart true node is = absurd (cc)
apart false node is = refl

module _ (stripe : ℕ) (ops : ℕ × ℕ → Op) (file : ℕ) where
  -- an act on another file reports nothing
  skips : (b : Bool) (x : heads.Entry) (before : List heads.Entry) → b ≡ false → before ≡ (if b then x ∷ before else before)
  skips b x before is = sym (ap (λ (b : Bool). if b then x ∷ before else before) is)

  passes : (n : ℕ) (id : OpId) (count : ℕ) (bytes : List ℕ) (before : List heads.Entry) (b : Bool) → b ≡ false → AnswerTells stripe ops n id count bytes before before b
  passes n id count bytes before b is = subst (AnswerTells stripe ops n id count bytes before before) (sym is) refl

  tells_none : (e : Entry) (before : List heads.Entry) → acts_on file e ≡ None → TellsOne stripe ops file e before before
  tells_none (entry.Active node f count id) before is = skips (f == file) (TellsActive node.0 count (name_of id)) before (apart (f == file) node is)
  tells_none (entry.Issue node f count id) before is = skips (f == file) (TellsIssue node.0 count (name_of id)) before (apart (f == file) node is)
  tells_none (entry.Commit node f count id) before is = skips (f == file) (TellsCommit node.0 count (name_of id)) before (apart (f == file) node is)
  tells_none (entry.Answer node f id count bytes) before is = passes node.0 id count bytes before (f == file) (apart (f == file) node is)
  tells_none _ before is = refl

  elsewhere_none : (f other : ℕ) (node : NodeId) → Some f ≡ Some other → (other == file) ≡ false → (if f == file then Some node else None) ≡ None
  elsewhere_none f other node is differ =
      ap (λ (k : ℕ). if k == file then Some node else None) (some_number f other is) ∙ ap (λ (b : Bool). if b then Some node else None) differ

  mark_none : (node : NodeId) (other : ℕ) (m : Mark) (ms : List Mark) → (other == file) ≡ false → AreActs other (m ∷ ms) → acts_on file (entry_of node m) ≡ None
  mark_none node other (mark.Active f count id) ms differ are = elsewhere_none f other node are.0 differ
  mark_none node other (mark.Issue f count id) ms differ are = elsewhere_none f other node are.0 differ
  mark_none node other (mark.Commit f count id) ms differ are = elsewhere_none f other node are.0 differ
  mark_none node other (mark.Answer f id count bytes) ms differ are = elsewhere_none f other node are.0 differ
  mark_none node other _ ms differ are = refl

  marks_none : (node : NodeId) (other : ℕ) (ms : List Mark) (before : List heads.Entry) → (other == file) ≡ false → AreActs other ms → Tells stripe ops file (map (entry_of node) ms) before before
  marks_none node other [] before differ are = refl
  marks_none node other (m ∷ ms) before differ are = (before, tells_none (entry_of node m) before (mark_none node other m ms differ are), marks_none node other ms before differ are.1)

pub telling : (stripe : ℕ) (ops : ℕ × ℕ → Op) (file : ℕ) → Telling stripe ops file
telling stripe ops file =
    record {
      begins = λ es is. is;
      entry = λ entries tales e none so es told.
          joined stripe ops file entries (e ∷ []) [] es es (so es told) (es, tells_none stripe ops file e es none, refl);
      elsewhere = λ entries tales node other marks differ are so es told.
          joined stripe ops file entries (map (entry_of node) marks) [] es es (so es told) (marks_none stripe ops file node other marks es differ are);
      step = λ entries tales node site s happens of so es told.
          joined stripe ops file entries (map (entry_of node) _) [] told.0 es (so told.0 told.1) (marked stripe ops file node _ told.0 es (of_step file site s happens of) told.2);
    }

pub telling_is_safe : (stripe : ℕ) (ops : ℕ × ℕ → Op) (file : ℕ) (members : List ℕ) (start : Start) (v : FileWorld) (events : List Event) (entries : List Entry) → 1 ≤ stripe
    → AreDistinct members → Begins (IsMade stripe ops) members start → start.line ≡ [] → BeginsFile stripe members start v
    → MayAll stripe ops members v events → TellsAs stripe ops file entries (after_all v events).tales → IsSafe stripe ops file entries
telling_is_safe stripe ops file members start v events entries some distinct begins empty at may so =
    record { one_order = (hold stripe ops file entries is.entries told fit).0; distinct = (hold stripe ops file entries is.entries told fit).1; answers = show stripe ops file entries is.entries told fit changes }
  where
    is : IsOnOneOrder stripe ops start (after_all v events)
    is = on_one_order stripe some ops members distinct start v events begins at may

    told : Tells stripe ops file entries [] is.entries
    told = so is.entries is.told

    fit : AreOnOneOrder stripe ops [] is.entries
    fit = subst (λ (line : List Write). AreOnOneOrder stripe ops (map name line) is.entries) empty is.fit

    changes : AreChanges ops (order_of [] is.entries)
    changes = subst (λ (line : List Write). AreChanges ops (order_of (map name line) is.entries)) empty is.changes
