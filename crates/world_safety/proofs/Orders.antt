-- What a trace says of a file where what it reports of it fits one order, and its acts are of calls that have begun.
use Rattle.std.proofs.Common.{◌≡◌, ℕ, ◌==◌, if◌then◌else◌, List, ◌∷◌, ◌++◌, Some, None, refl, sym, ap, ◌∙◌, subst, append_assoc}
use Rattle.xt_base.specs.declared.ids.OpId.{OpId}
use Rattle.time_line.specs.declared.entry.Entry.{Entry}
use Rattle.time_line.specs.declared.entry.Entry.TheVariants as entry
use Rattle.time_line.specs.TimeLine.{operation_begun, stripe_of}
use Rattle.time_line.specs.Clauses.{IsBefore, IsMoment, HasBegunOn, AreOnce, AnswersShow}
use Rattle.replica_runs.specs.Seen.{name_of}
use Rattle.replica_runs.proofs.Tools.{by_node}
use Rattle.file_runs.specs.Traces.{IsIssued, AreIssued, HaveBegun}
use Rattle.file_runs.proofs.Issued.{issue_first}
use Rattle.file_runs.proofs.Once.{once}
use Rattle.file_runs.proofs.Standing.{stand}
use Rattle.world_runs.specs.Acts.{ActsHaveBegun}
use Rattle.world_runs.proofs.Entries.{begun_on-grown}
use Rattle.world_safety.specs.Asks.{operations_of}
use Rattle.world_safety.specs.Runs.{HasOneOrder}
use Rattle.world_safety.proofs.Asks.{operations_are}

module _ (file : ℕ) (entries : List Entry) (acts : ActsHaveBegun file entries) where
  -- a call that has begun on the file by a moment does what it does in the whole trace
  does : (moment after : List Entry) (id : OpId) → entries ≡ moment ++ after → HasBegunOn file moment id
      → operation_begun file moment id ≡ Some (operations_of file entries (name_of id))
  does moment after id whole is = is.1 ∙ ap Some (sym (operations_are file entries moment after whole id is.0 is.1))

  own : (id : OpId) → (if file == file then Some id else None) ≡ Some id
  own id = by_node (λ b. (if b then Some id else None) ≡ Some id) file file (λ _. refl) (λ ne. absurd (ne refl))

  issued : (moment : List Entry) (id : OpId) → IsMoment moment entries → IsIssued file moment id → HasBegunOn file moment id
  issued moment id whole (front, node, count, (rest, split)) =
      subst (λ (es : List Entry). HasBegunOn file es id) (sym split)
      (begun_on-grown file front (entry.Issue node file count id ∷ rest) id (acts front (entry.Issue node file count id) id there (own id)))
    where
      there : IsBefore front (entry.Issue node file count id) entries
      there = (
        rest ++ whole.0,
        whole.1 ∙ ap (λ (es : List Entry). es ++ whole.0) split ∙ append_assoc front (entry.Issue node file count id ∷ rest) whole.0,
      )

  pub have_begun : HaveBegun (operations_of file entries) file entries
  have_begun = record {
    answered = λ before node id count bytes is.
        does before (entry.Answer node file id count bytes ∷ is.0) id is.1 (acts before (entry.Answer node file id count bytes) id is (own id));
    issued = λ moment id is issue. does moment is.0 id is.1 (issued moment id is issue);
  }

  module _ (has : HasOneOrder (stripe_of file entries) (operations_of file entries) file entries) where
    issues : AreIssued file entries
    issues = issue_first (stripe_of file entries) (operations_of file entries) file entries has.told has.tells has.issued

    pub stand_once : AreOnce file entries
    stand_once = once (stripe_of file entries) (operations_of file entries) file entries has.told has.tells has.fit has.changes issues have_begun

    pub answers_show : AnswersShow file entries
    answers_show = stand (stripe_of file entries) (operations_of file entries) file entries refl issues have_begun has.safe.answers
