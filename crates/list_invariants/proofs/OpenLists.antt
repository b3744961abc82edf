-- whether a message is of the open list, before and after what is overdue
use Rattle.std.proofs.Common.{◌≡◌, ◌∙◌, ℕ, true, sym, ap}
use Rattle.xt_base.specs.declared.ids.NodeId.{NodeId}
use Rattle.xt_messages.specs.Limits.{is_of_list}
use Rattle.xt_messages.specs.declared.file.Capability.{Capability}
use Rattle.xt_messages.specs.declared.file.Op.{Op}
use Rattle.xt_messages.specs.declared.message.Payload.{Payload}
use Rattle.xt_messages.specs.declared.message.Payload.TheVariants as payload
use Rattle.xt_messages.specs.declared.record.FileRow.{FileRow}
use Rattle.xt_protocol.specs.FileStates.{FileState, Site, FileStep, and_then}
use Rattle.xt_protocol.specs.Overdue.{expired}
use Rattle.xt_protocol.specs.FileSteps.{message_comes, step_of_file}
use Rattle.osd_invariants.proofs.Kept.{expired_quiet}
use Rattle.list_rows.specs.ListRows.{list_version, is_closed, step_of_message, message_taken, with_version}
use Rattle.list_laws.specs.Takes.{IsOpenAt, AskPasses, PassesRows, of_list, asks, StepTakes, steps, settles}
use Rattle.list_laws.proofs.Taken.{step_taken}
use Rattle.list_laws.proofs.Outcomes.{given}
use Rattle.list_laws.proofs.Open.{open_taken, open_ask}
use Rattle.list_invariants.specs.OpenLists.{StepIs, by_rows, by_own}

-- what is kept is the same after what is overdue
pub kept_settled : (site : Site) (s : FileState) → (expired site s).state.kept ≡ s.kept
kept_settled site s = (expired_quiet site s).1

pub open_along : (s t : FileState) (version : ℕ) → s.kept ≡ t.kept → IsOpenAt s version → IsOpenAt t version
open_along s t version same is =
    record {
      same = is.same ∙ ap (λ (k : FileRow). list_version k.location) same;
      open_list = sym (ap (λ (k : FileRow). is_closed k) same) ∙ is.open_list;
    }

ask_along : (site : Site) (s t : FileState) (content : Payload) → s.kept ≡ t.kept → AskPasses site s content → AskPasses site t content
ask_along site s t (payload.Ask number capability asked) same passes = λ replicated allowed. open_along s t capability.location.version same (passes replicated allowed)
ask_along site s t _ same passes = absurd passes

pub passes_along : (site : Site) (s t : FileState) (list : ℕ) (content : Payload) → s.kept ≡ t.kept → PassesRows site s list content → PassesRows site t list content
passes_along site s t list content same (of_list among is) = of_list among (open_along s t list same is)
passes_along site s t list content same (asks passes) = asks (ask_along site s t content same passes)

pub step_is : (site : Site) (s : FileState) (from : NodeId) (list : ℕ) (content : Payload) → StepIs site s from list content (step_of_message site s from list content)
step_is site s from list content = of_takes (step_taken site s from list content)
  where
    of_takes : StepTakes site s from list content (step_of_message site s from list content) → StepIs site s from list content (step_of_message site s from list content)
    of_takes (steps passes is) = by_rows (passes_along site (expired site s).state s list content (kept_settled site s) passes) is
    of_takes (settles row gives is) = by_own row (given site (expired site s).state from content (row (expired site s).state) gives) is

-- the step where the message comes to the rows of one list
stepped : (site : Site) (s : FileState) (from : NodeId) (list : ℕ) (content : Payload)
    → message_taken site (expired site s).state from list content ≡ message_comes site (expired site s).state from content
    → step_of_message site s from list content ≡ with_version (list_version s.kept.location) (step_of_file site s from content)
unfolding step_of_message step_of_file
stepped site s from list content is = ap (λ (rest : FileStep). with_version (list_version s.kept.location) (and_then (expired site s) (λ state. rest))) is

pub open_message : (site : Site) (s : FileState) (from : NodeId) (list : ℕ) (content : Payload) → is_of_list content ≡ true → IsOpenAt s list
    → step_of_message site s from list content ≡ with_version (list_version s.kept.location) (step_of_file site s from content)
open_message site s from list content among is =
    stepped site s from list content (open_taken site (expired site s).state from list content among (open_along s (expired site s).state list (sym (kept_settled site s)) is))

pub open_asked : (site : Site) (s : FileState) (from : NodeId) (list number : ℕ) (capability : Capability) (asked : Op) → IsOpenAt s capability.location.version
    → step_of_message site s from list (payload.Ask number capability asked) ≡ with_version (list_version s.kept.location) (step_of_file site s from (payload.Ask number capability asked))
open_asked site s from list number capability asked is =
    stepped site s from list (payload.Ask number capability asked)
    (open_ask site (expired site s).state from list number capability asked (open_along s (expired site s).state capability.location.version (sym (kept_settled site s)) is))
