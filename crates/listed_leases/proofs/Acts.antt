-- what the steps of a file mark and record, where lists change
use Rattle.std.proofs.Common.{◌≡◌, ◌∙◌, ℕ, Bool, true, false, refl, ap, sym, subst, List, [], ◌++◌, Option, Some, None, cond}
use Rattle.xt_base.specs.declared.ids.NodeId.{NodeId}
use Rattle.xt_base.specs.declared.ids.FileId.{FileId}
use Rattle.xt_base.specs.declared.ids.Stamp.{Stamp}
use Rattle.xt_messages.specs.declared.file.Location.{Location}
use Rattle.xt_messages.specs.declared.event.Mark.{Mark}
use Rattle.xt_messages.specs.declared.message.Payload.{Payload}
use Rattle.xt_messages.specs.declared.record.FileRow.{FileRow}
use Rattle.xt_messages.specs.declared.record.Record.{Record}
use Rattle.xt_messages.specs.declared.record.Record.TheVariants as kept
use Rattle.xt_protocol.specs.Folds.{body_of}
use Rattle.xt_protocol.specs.Stamps.{has_version}
use Rattle.xt_protocol.specs.Turns.{the_record}
use Rattle.xt_protocol.specs.FileStates.{FileState, Site, FileStep}
use Rattle.xt_protocol.specs.Overdue.{expired}
use Rattle.xt_protocol.specs.FileSteps.{step_of_file}
use Rattle.osd_invariants.proofs.Kept.{expired_quiet}
use Rattle.lease_runs.specs.LeaseView.{settled_row}
use Rattle.lease_runs.specs.ActsView.{ListAsked, MarksAre, no_marks}
use Rattle.lease_runs.specs.ActsView as before_lists
use Rattle.lease_runs.proofs.ActSteps as act_steps
use Rattle.list_rows.specs.ListRows.{list_version, step_of_message, wake_of_listed}
use Rattle.list_laws.specs.Outcomes.{RowGives, speaks, stages, closing, installing}
use Rattle.list_invariants.specs.OpenLists.{StepIs, by_rows, by_own}
use Rattle.list_invariants.proofs.OpenLists.{kept_settled, passes_along, step_is}
use Rattle.listed_leases.specs.LeaseView.{listed_wake}
use Rattle.listed_leases.specs.ActsView.{RecordIs, StoresFirst}
use Rattle.listed_leases.proofs.Records.{StoresOpen, rows_store}

-- ---- marks

own_marks : (site : Site) (s : FileState) (from : NodeId) (content : Payload) (step : FileStep) → RowGives site s from content step → step.turned.marks ≡ []
own_marks site s from content step (speaks outs aside is) = ap (λ (st : FileStep). st.turned.marks) is
own_marks site s from content step (stages file object version bytes outs said aside is) = ap (λ (st : FileStep). st.turned.marks) is
own_marks site s from content step (closing version at is) = ap (λ (st : FileStep). st.turned.marks) is
own_marks site s from content step (installing location head on is) = ap (λ (st : FileStep). st.turned.marks) is

pub step_marks : (site : Site) (s : FileState) (from : NodeId) (list : ℕ) (content : Payload)
    → MarksAre s.kept.file (settled_row site s).lease (step_of_message site s from list content).turned.marks
step_marks site s from list content = of_is (step_is site s from list content)
  where
    Marked : FileStep → Type 0
    Marked st = MarksAre s.kept.file (settled_row site s).lease st.turned.marks

    of_is : StepIs site s from list content (step_of_message site s from list content) → Marked (step_of_message site s from list content)
    of_is (by_rows passes is) = subst Marked (sym is) (act_steps.step_marks site s from content)
    of_is (by_own row gives is) =
        let e = (expired site s).state in
        subst Marked (sym is)
        (no_marks (ap (λ (ms : List Mark). ms ++ (row e).turned.marks) (act_steps.expired_marks site s) ∙ own_marks site e from content (row e) gives))

-- ---- records

-- a record of the rows of one list, where a list is stored only as the first
wider : (row : FileRow) (content : Payload) (rec : Option Record) → before_lists.RecordIs row.file content rec
    → ((f : FileId) (location : Location) → rec ≡ Some (kept.View f location) → ListAsked content location → StoresFirst row content location) → RecordIs row content rec
wider row content None is stores = tt
wider row content (Some (kept.Promise f epoch)) is stores = is
wider row content (Some (kept.Update f update)) is stores = is
wider row content (Some (kept.Stage f object version bytes)) is stores = is
wider row content (Some (kept.Head f head)) is stores = is
wider row content (Some (kept.View f location)) is stores = (is.0, stores f location refl is.1)
wider row content (Some _) is stores = absurd is

first_of : (site : Site) (s : FileState) (content : Payload) (location : Location) → StoresOpen site s content location → StoresFirst s.kept content location
first_of site s content location q = record { asked = q.asked; version = q.same ∙ ap list_version q.unlisted; unlisted = q.unlisted }

staged_rec : (row : FileRow) (content : Payload) (object : ℕ) (version : Stamp) (bytes : List ℕ) (here : Bool)
    → RecordIs row content (cond here None (Some (kept.Stage row.file object version bytes)))
staged_rec row content object version bytes true = tt
staged_rec row content object version bytes false = refl

own_rec : (site : Site) (s : FileState) (from : NodeId) (content : Payload) (step : FileStep) → RowGives site s from content step → RecordIs s.kept content step.turned.rec
own_rec site s from content step (speaks outs aside is) = subst (λ (st : FileStep). RecordIs s.kept content st.turned.rec) (sym is) tt
own_rec site s from content step (stages file object version bytes outs said aside is) =
    subst (λ (st : FileStep). RecordIs s.kept content st.turned.rec) (sym is)
    (staged_rec s.kept content object version bytes (has_version s.kept.held (body_of object version)))
own_rec site s from content step (closing version at is) = subst (λ (st : FileStep). RecordIs s.kept content st.turned.rec) (sym is) (refl, at)
own_rec site s from content step (installing location head on is) = subst (λ (st : FileStep). RecordIs s.kept content st.turned.rec) (sym is) (refl, on)

pub step_rec : (site : Site) (s : FileState) (from : NodeId) (list : ℕ) (content : Payload) → RecordIs s.kept content (step_of_message site s from list content).turned.rec
step_rec site s from list content = of_is (step_is site s from list content)
  where
    of_is : StepIs site s from list content (step_of_message site s from list content) → RecordIs s.kept content (step_of_message site s from list content).turned.rec
    of_is (by_rows passes is) =
        let there = passes_along site s (expired site s).state list content (sym (kept_settled site s)) passes in
        subst (λ (st : FileStep). RecordIs s.kept content st.turned.rec) (sym is)
        (wider s.kept content (step_of_file site s from content).turned.rec (act_steps.step_rec site s from content)
        (λ f location rec named. first_of site s content location (rows_store site s from list content there f location named rec)))
    of_is (by_own row gives is) =
        let e = (expired site s).state in
        subst (λ (st : FileStep). RecordIs s.kept content st.turned.rec) (sym is)
        (subst (λ (r : Option Record). RecordIs s.kept content (the_record r (row e).turned.rec)) (sym (expired_quiet site s).0)
        (subst (λ (k : FileRow). RecordIs k content (row e).turned.rec) (kept_settled site s) (own_rec site e from content (row e) gives)))

-- ---- Wakes

pub wake_marks : (site : Site) (s : FileState) → (listed_wake site s).turned.marks ≡ []
unfolding wake_of_listed
wake_marks site s = act_steps.wake_step_marks site s

pub wake_rec : (site : Site) (s : FileState) → (listed_wake site s).turned.rec ≡ None
unfolding wake_of_listed
wake_rec site s = act_steps.wake_step_rec site s
