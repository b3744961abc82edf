-- All that the nodes of a file mark names the file.
use Rattle.std.proofs.Common.{◌≡◌, ℕ, ◌<◌, List, [], ◌∷◌, Option, Some, None, sym, ap, ◌∙◌, subst, if◌then◌else◌}
use Rattle.xt_base.specs.declared.ids.FileId.{FileId}
use Rattle.xt_messages.specs.declared.event.Mark.{Mark}
use Rattle.xt_messages.specs.declared.event.Mark.TheVariants as mark
use Rattle.xt_messages.specs.declared.file.Op.{Op}
use Rattle.xt_messages.specs.declared.record.FileRow.{FileRow}
use Rattle.xt_messages.specs.declared.record.Record.{Record}
use Rattle.xt_protocol.specs.LeaseRows.{LeaseState}
use Rattle.xt_protocol.specs.FileStates.{FileState, Site, FileStep, file_from}
use Rattle.xt_protocol.specs.ReplicaRows.{kept_after, stage_record}
use Rattle.lease_runs.specs.ActsView.{AreActs, MarksAre, no_marks, won, acting}
use Rattle.lease_runs.proofs.ActSteps.{step_marks, wake_step_marks}
use Rattle.replica_runs.proofs.Replicas.{same_file}
use Rattle.replica_safety.specs.Epochs.{at_node}
use Rattle.replica_safety.specs.Lists.{AreDistinct}
use Rattle.replica_safety.specs.Rules.{Start}
use Rattle.replica_runs.proofs.Tools.{by_node, some_node}
use Rattle.file_runs.specs.FileRuns.{FileNode, Tale, FileWorld, Happening, message, wake, step_on, Ending, goes_on, stops, stops_kept, stops_lost, Event, acts, starts, forgets, lapses, takes, gets, drops, raises, stores, joins, parts, keeping, raised, acted, after, May, MayAll, after_all}
use Rattle.file_runs.proofs.Runs.{Inv, Up, Shape, next_inv}

-- a mark that acts on a file acts on this one
abbrev pub IsOf : ℕ → Mark → Type 0
IsOf file (mark.Active f count id) = f ≡ file
IsOf file (mark.Issue f count id) = f ≡ file
IsOf file (mark.Commit f count id) = f ≡ file
IsOf file (mark.Answer f id count bytes) = f ≡ file
IsOf file _ = Unit {0}

abbrev pub AreOf : ℕ → List Mark → Type 0
AreOf file [] = Unit {0}
AreOf file (m ∷ ms) = IsOf file m × AreOf file ms

abbrev pub TalesAreOf : ℕ → List Tale → Type 0
TalesAreOf file [] = Unit {0}
TalesAreOf file (t ∷ ts) = AreOf file t.marks × TalesAreOf file ts

of_acts : (file n : ℕ) (ms : List Mark) → n ≡ file → AreActs n ms → AreOf file ms
of_acts file n [] is are = tt
of_acts file n (mark.Active f count id ∷ ms) is are = (some_node are.0 ∙ is, of_acts file n ms is are.1)
of_acts file n (mark.Issue f count id ∷ ms) is are = (some_node are.0 ∙ is, of_acts file n ms is are.1)
of_acts file n (mark.Commit f count id ∷ ms) is are = (some_node are.0 ∙ is, of_acts file n ms is are.1)
of_acts file n (mark.Answer f id count bytes ∷ ms) is are = (some_node are.0 ∙ is, of_acts file n ms is are.1)
of_acts file n (_ ∷ ms) is are = (tt, of_acts file n ms is are.1)

of_marks : (file : ℕ) (f : FileId) (l : LeaseState) (ms : List Mark) → f.number ≡ file → MarksAre f l ms → AreOf file ms
of_marks file f l ms is (no_marks none) = subst (AreOf file) (sym none) tt
of_marks file f l ms is (won end busy one) = subst (AreOf file) (sym one) (tt, tt)
of_marks file f l ms is (acting leads are) = of_acts file f.number ms is are

pub of_step : (file : ℕ) (site : Site) (s : FileState) (happens : Happening) → s.kept.file.number ≡ file → AreOf file (step_on site s happens).turned.marks
of_step file site s (message from content) is = of_marks file s.kept.file _ _ is (step_marks site s from content)
of_step file site s wake is = subst (AreOf file) (sym (wake_step_marks site s)) tt

-- all nodes keep the file of this number
abbrev AreFor : ℕ → (ℕ → FileNode) → Type 0
AreFor file nodes = (r : ℕ) → (nodes r).kept.file.number ≡ file

for_node : (file : ℕ) (nodes : ℕ → FileNode) (n : ℕ) (x : FileNode) → x.kept.file.number ≡ file → AreFor file nodes → AreFor file (at_node n x nodes)
for_node file nodes n x is are r = by_node (λ b. (if b then x else nodes r).kept.file.number ≡ file) r n (λ here. is) (λ there. are r)

module _ (stripe : ℕ) (some : 0 < stripe) (ops : ℕ × ℕ → Op) (members : List ℕ) (distinct : AreDistinct members) (start : Start) (file : ℕ) where
  abbrev Named : FileWorld → Type 0
  Named w = AreFor file w.nodes × TalesAreOf file w.tales

  kept_for : (w : FileWorld) (n : ℕ) (rec : Option Record) → AreFor file w.nodes → (keeping (w.nodes n) None rec).kept.file.number ≡ file
  kept_for w n rec are = ap (λ (f : FileId). f.number) (same_file (w.nodes n).kept rec) ∙ are n

  ended : (w : FileWorld) (n : ℕ) (step : FileStep) (how : Ending) → Named w → AreOf file step.turned.marks → Named (acted w n step how)
  ended w n step goes_on (are, told) of = (for_node file w.nodes n (keeping (w.nodes n) (Some step.state) step.turned.rec) (kept_for w n step.turned.rec are) are, (of, told))
  ended w n step stops (are, told) of = (for_node file w.nodes n (keeping (w.nodes n) None step.turned.rec) (kept_for w n step.turned.rec are) are, (of, told))
  ended w n step stops_kept (are, told) of = (for_node file w.nodes n (keeping (w.nodes n) None step.turned.rec) (kept_for w n step.turned.rec are) are, told)
  ended w n step stops_lost (are, told) of = (for_node file w.nodes n (keeping (w.nodes n) None None) (are n) are, told)

  next : (w : FileWorld) (e : Event) → May stripe ops members w e → Inv stripe some ops members distinct start w → Named w → Named (after w e)
  next w (acts n s site happens how) may inv named =
      let u : Up stripe some ops members distinct start (w.nodes n) inv.world n s = subst (Shape stripe some ops members distinct start (w.nodes n) inv.world n) may.runs (inv.nodes n) in
      ended w n (step_on site s happens) how named (of_step file site s happens (ap (λ (k : FileRow). k.file.number) u.same ∙ named.0 n))
  next w (starts n awake) may inv (are, told) = (for_node file w.nodes n (record (w.nodes n) { state = Some (file_from awake (w.nodes n).kept) }) (are n) are, told)
  next w (forgets n s held body) may inv (are, told) =
      (for_node file w.nodes n (record { state = Some (record s { kept = record s.kept { held = held } }); kept = record (w.nodes n).kept { held = held }; body = body }) (are n) are, told)
  next w (lapses n) may inv named = named
  next w (takes n s o v bytes) may inv (are, told) =
      let rec = stage_record (w.nodes n).kept.file (w.nodes n).kept.held o v bytes in
      (for_node file w.nodes n (keeping (w.nodes n) (Some (record s { kept = kept_after s.kept rec })) rec) (kept_for w n rec are) are, told)
  next w (gets n o v bytes) may inv (are, told) =
      let rec = stage_record (w.nodes n).kept.file (w.nodes n).kept.held o v bytes in
      (for_node file w.nodes n (keeping (w.nodes n) None rec) (kept_for w n rec are) are, told)
  next w (drops n held body) may inv (are, told) =
      (for_node file w.nodes n (record { state = None; kept = record (w.nodes n).kept { held = held }; body = body }) (are n) are, told)
  next w (raises n e) may inv (are, told) = (for_node file w.nodes n (record { state = None; kept = raised (w.nodes n).kept e; body = (w.nodes n).body }) (are n) are, told)
  next w (stores n kept) may inv (are, told) =
      (for_node file w.nodes n (record { state = None; kept = kept; body = (w.nodes n).body }) (ap (λ (f : FileId). f.number) may.file ∙ are n) are, told)
  next w (joins n s) may inv (are, told) = (for_node file w.nodes n (record (w.nodes n) { state = Some s }) (are n) are, told)
  next w (parts n) may inv (are, told) = (for_node file w.nodes n (record (w.nodes n) { state = None }) (are n) are, told)

  pub all_named : (w : FileWorld) (es : List Event) → MayAll stripe ops members w es → Inv stripe some ops members distinct start w → Named w → Named (after_all w es)
  all_named w [] may inv named = named
  all_named w (e ∷ es) may inv named = all_named (after w e) es may.1 (next_inv stripe some ops members distinct start w e may.0 inv) (next w e may.0 inv named)
