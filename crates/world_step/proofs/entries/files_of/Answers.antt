use Rattle.std.proofs.Common.{◌≡◌, ◌∙◌, ◌<◌, ℕ, ◌+◌, ◌++◌, ◌∷◌, [], List, Option, Some, None, length, take, get_or, sym, ap, add-one}
use Rattle.std.specs.List.{cons_option}
use Rattle.std.proofs.Math.Seq.{take-suc}
use Rattle.std.proofs.lemmas.List.{append-nil}
use Rattle.std.proofs.lemmas.List.Elements.{filter_map-append}
use Rattle.xt_messages.specs.declared.event.Mark.{Mark}
use Rattle.world_spec.specs.declared.PlacedFile.{PlacedFile}
use Rattle.world_spec.specs.NodeSteps.{file_marked, files_marked}
use Rattle.world_step.proofs.entries.files_of.Goals as goal
use Rattle.world_step.proofs.entries.files_of.Goals.{in-Some+in_ok-push, in_default}

-- one mark more
marked_next : (marks : List Mark) (i : ℕ) (mark : Mark) → i < length marks → mark ≡ get_or marks i mark → files_marked (take (i + 1) marks) ≡ files_marked (take i marks) ++ cons_option (file_marked mark) []
marked_next marks i mark lt is =
    let front : take (i + 1) marks ≡ take i marks ++ mark ∷ [] = rw add-one (take-suc marks i mark lt ∙ ap (λ (m : Mark). take i marks ++ m ∷ []) (sym is)) in
    ap files_marked front ∙ filter_map-append file_marked (take i marks) (mark ∷ [])

pub loop-mark-preserved : goal.loop-mark-preserved
loop-mark-preserved c =
    let mark = c.mark-item.result in
    let before = files_marked (take c.loop-mark.mark-index c.args.marks.now) in
    let next = marked_next c.args.marks.now c.loop-mark.mark-index mark c.loop-mark-test.true c.mark-item.is in
    elim c.match-file_marked.branch [
      | in-Some+in_ok-push w ↦
          let found : file_marked mark ≡ Some w.in-Some.file = sym c.file_marked.ensures ∙ w.in-Some.is in
          ap (λ v. v.items) w.files-is ∙ w.in_ok-push.ensures.items
          ∙ ap (λ (fs : List PlacedFile). fs ++ w.in-Some.file ∷ []) c.loop-mark.invariant
          ∙ sym (next ∙ ap (λ (o : Option PlacedFile). before ++ cons_option o []) found)
      | in_default w ↦
          let none : file_marked mark ≡ None = sym c.file_marked.ensures ∙ w.in_default.is in
          ap (λ v. v.items) w.files-is ∙ c.loop-mark.invariant
          ∙ sym (next ∙ ap (λ (o : Option PlacedFile). before ++ cons_option o []) none ∙ append-nil before)
    ]
