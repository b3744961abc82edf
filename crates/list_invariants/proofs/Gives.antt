-- what holds of a file at every moment, row by row where lists change
use Rattle.std.proofs.Common.{◌≡◌, ◌∙◌, ℕ, Bool, true, false, refl, ap, sym, subst, List, [], Option, Some, None, cond}
use Rattle.xt_base.specs.declared.ids.NodeId.{NodeId}
use Rattle.xt_base.specs.declared.ids.Stamp.{Stamp}
use Rattle.xt_messages.specs.declared.file.Location.{Location}
use Rattle.xt_messages.specs.declared.message.Payload.{Payload}
use Rattle.xt_messages.specs.declared.record.Record.{Record}
use Rattle.xt_messages.specs.declared.record.Record.TheVariants as kept
use Rattle.xt_messages.specs.declared.record.FileRow.{FileRow}
use Rattle.xt_protocol.specs.declared.turned.Turned.{Turned}
use Rattle.xt_protocol.specs.declared.states.WaitingAsk.{WaitingAsk}
use Rattle.xt_protocol.specs.Folds.{body_of}
use Rattle.xt_protocol.specs.Stamps.{has_version}
use Rattle.xt_protocol.specs.Turns.{sends, the_record}
use Rattle.xt_protocol.specs.ReplicaRows.{kept_after, stage_record}
use Rattle.xt_protocol.specs.FileStates.{FileState, Site, FileStep, and_then, steps_to, members_of}
use Rattle.xt_protocol.specs.Overdue.{expired}
use Rattle.osd_invariants.specs.Sound.{IsSound, ListUnder, PeersAre}
use Rattle.osd_invariants.specs.Keeping.{FollowsRecord}
use Rattle.osd_invariants.specs.OpenAsks.{AskIs, AsksAre}
use Rattle.osd_invariants.proofs.Kept as kept_steps
use Rattle.osd_invariants.proofs.SoundSteps as sound_steps
use Rattle.osd_invariants.proofs.OpenAsks as open_asks
use Rattle.list_rows.specs.ListRows.{step_of_message, wake_of_listed}
use Rattle.list_laws.specs.Outcomes.{RowGives, speaks, stages, closing, installing}
use Rattle.list_invariants.specs.OpenLists.{StepIs, by_rows, by_own}
use Rattle.list_invariants.proofs.OpenLists.{step_is}

-- ---- what is kept

row_follows : (site : Site) (s : FileState) (from : NodeId) (content : Payload) (step : FileStep) → RowGives site s from content step → FollowsRecord s.kept step
row_follows site s from content step (speaks outs aside is) = subst (λ (st : FileStep). FollowsRecord s.kept st) (sym is) refl
row_follows site s from content step (stages file object version bytes outs said aside is) = subst (λ (st : FileStep). FollowsRecord s.kept st) (sym is) refl
row_follows site s from content step (closing version at is) = subst (λ (st : FileStep). FollowsRecord s.kept st) (sym is) refl
row_follows site s from content step (installing location head on is) = subst (λ (st : FileStep). FollowsRecord s.kept st) (sym is) refl

-- after what is overdue, which makes no record
after_expired : (site : Site) (s : FileState) (row : FileState → FileStep) → FollowsRecord (expired site s).state.kept (row (expired site s).state)
    → FollowsRecord s.kept (and_then (expired site s) row)
after_expired site s row follows =
    let rest = row (expired site s).state in
    let q = kept_steps.expired_quiet site s in
    follows
    ∙ ap (λ (k : FileRow). kept_after k rest.turned.rec) q.1
    ∙ sym (ap (λ (r : Option Record). kept_after s.kept (the_record r rest.turned.rec)) q.0)

pub follows_record : (site : Site) (s : FileState) (from : NodeId) (list : ℕ) (content : Payload) → FollowsRecord s.kept (step_of_message site s from list content)
follows_record site s from list content = of_is (step_is site s from list content)
  where
    of_is : StepIs site s from list content (step_of_message site s from list content) → FollowsRecord s.kept (step_of_message site s from list content)
    of_is (by_rows passes is) = subst (λ (st : FileStep). FollowsRecord s.kept st) (sym is) (kept_steps.step_follows site s from content)
    of_is (by_own row gives is) =
        subst (λ (st : FileStep). FollowsRecord s.kept st) (sym is)
        (after_expired site s row (row_follows site (expired site s).state from content (row (expired site s).state) gives))

pub wake_follows_record : (site : Site) (s : FileState) → FollowsRecord s.kept (wake_of_listed site s)
unfolding wake_of_listed
wake_follows_record site s = kept_steps.wake_follows site s

-- ---- soundness

-- a body that is staged leaves the list
staged_list : (s : FileState) (object : ℕ) (version : Stamp) (bytes : List ℕ) (here : Bool)
    → (kept_after s.kept (cond here None (Some (kept.Stage s.kept.file object version bytes)))).location ≡ s.kept.location
staged_list s object version bytes true = refl
staged_list s object version bytes false = refl

keeps_sound : (s : FileState) (turned : Turned) → (kept_after s.kept turned.rec).location ≡ s.kept.location → IsSound s → IsSound (steps_to s turned).state
keeps_sound s turned same q =
    record {
      led = q.led;
      issued = q.issued;
      waits = q.waits;
      list = subst (λ (k : Option Location). ListUnder s.lease k) (sym same) q.list;
      peers = subst (λ (k : Option Location). PeersAre (members_of k) s.primary.tenure) (sym same) q.peers;
      ready = q.ready;
    }

row_sound : (site : Site) (s : FileState) (from : NodeId) (content : Payload) (step : FileStep) → RowGives site s from content step → IsSound s → IsSound step.state
row_sound site s from content step (speaks outs aside is) q =
    subst (λ (st : FileStep). IsSound st.state) (sym is) (keeps_sound s (sends outs) refl q)
row_sound site s from content step (stages file object version bytes outs said aside is) q =
    subst (λ (st : FileStep). IsSound st.state) (sym is)
    (keeps_sound s (record { rec = stage_record s.kept.file s.kept.held object version bytes; outs = outs; marks = [] })
    (staged_list s object version bytes (has_version s.kept.held (body_of object version))) q)
row_sound site s from content step (closing version at is) q =
    subst (λ (st : FileStep). IsSound st.state) (sym is) (record { led = tt; issued = tt; waits = refl; list = tt; peers = tt; ready = λ r. refl })
row_sound site s from content step (installing location head on is) q =
    subst (λ (st : FileStep). IsSound st.state) (sym is) (record { led = tt; issued = tt; waits = refl; list = tt; peers = tt; ready = λ r. refl })

pub stays_sound : (site : Site) (s : FileState) (from : NodeId) (list : ℕ) (content : Payload) → IsSound s → IsSound (step_of_message site s from list content).state
stays_sound site s from list content q = of_is (step_is site s from list content)
  where
    of_is : StepIs site s from list content (step_of_message site s from list content) → IsSound (step_of_message site s from list content).state
    of_is (by_rows passes is) = subst (λ (st : FileStep). IsSound st.state) (sym is) (sound_steps.step_so site s from content q)
    of_is (by_own row gives is) =
        subst (λ (st : FileStep). IsSound st.state) (sym is)
        (row_sound site (expired site s).state from content (row (expired site s).state) gives (sound_steps.expired_so site s q))

pub wake_stays_sound : (site : Site) (s : FileState) → IsSound s → IsSound (wake_of_listed site s).state
unfolding wake_of_listed
wake_stays_sound site s q = sound_steps.wake_so site s q

-- ---- open asks

row_asks_are : (P : WaitingAsk → Type 0) (site : Site) (s : FileState) (from : NodeId) (content : Payload) (step : FileStep) → RowGives site s from content step
    → AsksAre P s.asks → AsksAre P step.state.asks
row_asks_are P site s from content step (speaks outs aside is) q = subst (λ (st : FileStep). AsksAre P st.state.asks) (sym is) q
row_asks_are P site s from content step (stages file object version bytes outs said aside is) q = subst (λ (st : FileStep). AsksAre P st.state.asks) (sym is) q
row_asks_are P site s from content step (closing version at is) q = subst (λ (st : FileStep). AsksAre P st.state.asks) (sym is) (open_asks.none_are P)
row_asks_are P site s from content step (installing location head on is) q = subst (λ (st : FileStep). AsksAre P st.state.asks) (sym is) (open_asks.none_are P)

pub asks_are : (P : WaitingAsk → Type 0) (site : Site) (s : FileState) (from : NodeId) (list : ℕ) (content : Payload) → AsksAre P s.asks → AskIs P from content
    → AsksAre P (step_of_message site s from list content).state.asks
asks_are P site s from list content q of = of_is (step_is site s from list content)
  where
    of_is : StepIs site s from list content (step_of_message site s from list content) → AsksAre P (step_of_message site s from list content).state.asks
    of_is (by_rows passes is) = subst (λ (st : FileStep). AsksAre P st.state.asks) (sym is) (open_asks.step_are P site s from content q of)
    of_is (by_own row gives is) =
        subst (λ (st : FileStep). AsksAre P st.state.asks) (sym is)
        (row_asks_are P site (expired site s).state from content (row (expired site s).state) gives (open_asks.expired_are P site s q))

pub wake_asks_are : (P : WaitingAsk → Type 0) (site : Site) (s : FileState) → AsksAre P s.asks → AsksAre P (wake_of_listed site s).state.asks
unfolding wake_of_listed
wake_asks_are P site s q = open_asks.wake_are P site s q
