-- the step of an OSD, from the steps of its slots
use Rattle.std.proofs.Common.{◌≡◌, ℕ, Bool, true, false, cond, max, List, [], ◌∷◌, Option, Some, None, Result, IfOk, OnErr, is_eq, refl, ap, sym, subst, ◌∙◌, true≢false}
use Rattle.std.specs.Prelude.{IsSome}
use Rattle.std.specs.List.Sorted.{IsStrictlySortedBy}
use Rattle.std.specs.Map.{keys_of}
use Rattle.std.specs.BTreeMap.{BTreeMap, WritesThrough}
use Rattle.std.specs.BTreeSet as busy_set
use Rattle.std.specs.BTreeSet.{BTreeSet}
use Rattle.xt_base.specs.declared.ids.FileId.{FileId}
use Rattle.xt_base.specs.declared.ids.NodeId.{NodeId}
use Rattle.xt_base.specs.declared.ids.Stamp.{Stamp}
use Rattle.xt_messages.specs.declared.file.Capability.{Capability}
use Rattle.xt_messages.specs.declared.message.Msg.{Msg}
use Rattle.xt_messages.specs.declared.message.Payload.{Payload}
use Rattle.xt_messages.specs.declared.event.Event.{Event}
use Rattle.xt_messages.specs.declared.record.FileRow.{FileRow}
use Rattle.xt_messages.specs.declared.record.Record.{Record}
use Rattle.xt_protocol.specs.FileIds.{file_cmp}
use Rattle.xt_protocol.specs.Folds.{new_row}
use Rattle.xt_protocol.specs.LeaseRows.{Silent, Awake, awake_at, is_silent}
use Rattle.xt_protocol.specs.declared.turned.Turned.{Turned}
use Rattle.xt_protocol.specs.SeenBodies.{body_by}
use Rattle.xt_protocol.specs.Turns.{quiet, joined, sends}
use Rattle.xt_protocol.specs.FileStates.{FileState, FileStep, Site}
use Rattle.xt_protocol.specs.Overdue.{expired}
use Rattle.xt_protocol.specs.FileSteps.{step_of_file, wake_of_file}
use Rattle.xt_protocol.specs.OsdSteps.{Outside, OsdState, OsdStep, FilesStep, file_at, with_file, each_file, asks_dir, file_concerned, handle_message, woken, handle_event, handled_awake, step_of_osd}
use Rattle.osd_invariants.proofs.Kept.{step_follows}
use Rattle.osd_files.specs.Views.{FileView, site_at}
use Rattle.osd_files.specs.declared.waking.Woken.{Woken}
use Rattle.osd_files.specs.Whole.{IsRowOn, IsSealedBy}
use Rattle.osd_core.specs.declared.slot.Slot.{Slot}
use Rattle.osd_core.specs.declared.slot.Slot.TheVariants as slot
use Rattle.osd_core.specs.declared.met.MetFiles.{MetFiles}
use Rattle.osd_core.specs.FileSlots.{id_of, state_of, view_of, IsSoundSlot}
use Rattle.osd_core.specs.Slots.{Slots, awake_of, is_among, states_of, AreMet, AreSlots, EndsAll, GivesAll, PutsNew, PutsSlot, SameFiles, StepsFiles}
use Rattle.osd_core.proofs.Standing.{AreOwn, state_of-file, state_in, slot_at, slot_put, each_slot, file_is, file_put, put_found, put_same}
use Rattle.osd_core.proofs.Steps.{if_ok, on_err}
use Rattle.osd_core.proofs.Waking.{kept_file}

-- ---- a message at the slots

-- a message leaves a file what it is
step_keeps : (site : Site) (s : FileState) (from : NodeId) (content : Payload) → (step_of_file site s from content).state.kept.file ≡ s.kept.file
step_keeps site s from content =
    ap (λ (row : FileRow). row.file) (step_follows site s from content) ∙ kept_file s.kept (step_of_file site s from content).turned.rec

-- no file became busy
pub busy_same : (awake : Awake) (old : MetFiles) (busy : BTreeSet FileId) → AreMet awake old → busy.keys ≡ old.busy.keys → SameFiles awake old (record { slots = old.slots; busy = busy })
busy_same awake old busy are same = record { met = subst (λ ks. AreSlots awake (is_among ks) old.slots) (sym same) are; files = refl }

module _ (awake : Awake) (file : FileId) (old : MetFiles) (busy : BTreeSet FileId) (are : AreMet awake old) (is_busy : busy_set.Updates file_cmp old.busy busy file true) where
  abbrev with_slots : BTreeMap FileId Slot → MetFiles
  with_slots slots = record { slots = slots; busy = busy }

  busier : (f : FileId) → is_among busy.keys f ≡ false → is_among old.busy.keys f ≡ false
  busier f idle = test (is_eq (file_cmp file f)) (sym (is_busy.0 f) ∙ idle)
    where
      test : (t : Bool) → cond t true (is_among old.busy.keys f) ≡ false → is_among old.busy.keys f ≡ false
      test true none = absurd cc
      test false none = none

  -- the file is busy
  busy_met : AreMet awake (with_slots old.slots)
  busy_met =
      record {
        rising = are.rising;
        each = λ f s found. (let was = are.each f s found in record { own = was.own; sound = was.sound; resting = λ idle. was.resting (busier f idle) });
      }

  own_slots : AreOwn old.slots.entries
  own_slots = each_slot (λ f s. id_of s ≡ f) old.slots.entries are.rising (λ f s found. (are.each f s found).own)

  -- its slot was put
  put_met : (q : Slot) (new : BTreeMap FileId Slot) → PutsSlot file q old.slots new → id_of q ≡ file → IsSoundSlot awake q → AreMet awake (with_slots new)
  put_met q new put own sound =
      record {
        rising = put.rising;
        each = slot_put awake (is_among busy.keys) file q old.slots new busy_met put.updates.0 (record { own = own; sound = sound; resting = λ idle. absurd (true≢false (sym is_busy.1 ∙ idle)) });
      }

  put_states : (q : Slot) (new : BTreeMap FileId Slot) → PutsSlot file q old.slots new → id_of q ≡ file → states_of awake new.entries ≡ with_file (states_of awake old.slots.entries) (state_of awake q)
  put_states q new put own = ap (states_of awake) put.entries ∙ sym (file_put awake old.slots.entries file q own_slots own)

  -- what it had was replaced
  put_there : (p q : Slot) (new : BTreeMap FileId Slot) → slot_at file old.slots.entries ≡ Some p → WritesThrough file_cmp (file_cmp file) old.slots q new → PutsSlot file q old.slots new
  put_there p q new there writes =
      record {
        entries = writes.0 ∙ put_found old.slots.entries file p q are.rising there;
        updates = writes.3 (subst (λ (o : Option Slot). IsSome o) (sym there) refl);
        rising = writes.4;
      }

  met_take : (site : Site) (msg : Msg) (p q : Slot) (new : BTreeMap FileId Slot) (turned : Turned) → id_of p ≡ file → state_of awake p ≡ file_at awake (states_of awake old.slots.entries) file
      → PutsSlot file q old.slots new → IsSoundSlot awake q → step_of_file site (state_of awake p) msg.from msg.payload ≡ record { state = state_of awake q; turned = turned }
      → StepsFiles (λ files. handle_message site awake files msg (Some file)) awake old (with_slots new) turned
  met_take site msg p q new turned own state put sound step =
      let files = states_of awake old.slots.entries in
      let its : id_of q ≡ file =
      sym (state_of-file awake q) ∙ sym (ap (λ (one : FileStep). one.state.kept.file) step) ∙ step_keeps site (state_of awake p) msg.from msg.payload
      ∙ state_of-file awake p ∙ own in
      let after : FileStep → FilesStep = λ one. record { files = with_file files one.state; turned = one.turned } in
      record {
        met = put_met q new put its sound;
        step =
            ap after (ap (λ s. step_of_file site s msg.from msg.payload) (sym state) ∙ step)
            ∙ ap (λ fs. let step : FilesStep = record { files = fs; turned = turned } in step) (sym (put_states q new put its));
      }

  module _ (agrees : List Record → Type 0) (now : ℕ) (sealed : Bool) (msg : Msg) (new : BTreeMap FileId Slot) (concerns : file_concerned msg.payload ≡ Some file) where
    -- a message's row at the file
    abbrev Takes : FileView → FileView → Turned → Type 0
    Takes one other turned = (records : List Record) → agrees records → IsRowOn (λ site s. step_of_file site s msg.from msg.payload) msg.payload sealed now (body_by records) one other turned

    -- and what it makes of the files
    abbrev Took : Turned → Type 0
    Took turned =
        (records : List Record) → agrees records → (test : Capability → Bool) → IsSealedBy test msg.payload sealed
        → StepsFiles (λ files. handle_message (site_at awake now test (body_by records)) awake files msg (file_concerned msg.payload)) awake old (with_slots new) turned

    took : (p q : Slot) (turned : Turned) → id_of p ≡ file → state_of awake p ≡ file_at awake (states_of awake old.slots.entries) file → PutsSlot file q old.slots new → IsSoundSlot awake q
        → Takes (view_of awake p) (view_of awake q) turned → Took turned
    took p q turned own state put sound takes =
        λ records agree test is_sealed.
        let site = site_at awake now test (body_by records) in
        subst (λ o. StepsFiles (λ files. handle_message site awake files msg o) awake old (with_slots new) turned) (sym concerns)
        (met_take site msg p q new turned own state put sound (takes records agree test is_sealed).step)

    -- a file that has a slot
    pub found_took : {E : Type 0} (p q : Slot) (r : Result Turned E) → slot_at file old.slots.entries ≡ Some p → WritesThrough file_cmp (file_cmp file) old.slots q new → IsSoundSlot awake q
        → IfOk r (Takes (view_of awake p) (view_of awake q)) → IfOk r Took
    found_took p q r there writes sound =
        if_ok (Takes (view_of awake p) (view_of awake q)) Took r
        (λ turned. took p q turned (are.each file p there).own (sym (file_is awake old.slots.entries file own_slots ∙ ap (state_in awake file) there)) (put_there p q new there writes) sound)

    -- a file that has none
    pub new_took : {E : Type 0} (had : BTreeMap FileId Slot) (r : Result Turned E) → had ≡ old.slots → slot_at file old.slots.entries ≡ None
        → IfOk r (λ turned. PutsNew (λ one other. Takes one other turned) awake file had new) → IfOk r Took
    new_took had r same missing =
        if_ok (λ turned. PutsNew (λ one other. Takes one other turned) awake file had new) Took r
        (λ turned puts.
        let put = subst (λ m. PutsSlot file puts.made m new) same puts.put in
        took (slot.Row (new_row file)) puts.made turned refl (sym (file_is awake old.slots.entries file own_slots ∙ ap (state_in awake file) missing)) put puts.sound puts.step)

  -- after an error
  pub found_same : {A E : Type 0} (p q : Slot) (new : BTreeMap FileId Slot) (r : Result A E) → slot_at file old.slots.entries ≡ Some p → WritesThrough file_cmp (file_cmp file) old.slots q new
      → IsSoundSlot awake q → OnErr r (view_of awake q ≡ view_of awake p) → OnErr r (SameFiles awake old (with_slots new))
  found_same p q new r there writes sound =
      on_err (view_of awake q ≡ view_of awake p) (SameFiles awake old (with_slots new)) r
      (λ same.
      let es = old.slots.entries in
      let state = ap (λ (v : FileView). v.state) same in
      let own : id_of p ≡ file = (are.each file p there).own in
      let its : id_of q ≡ file = sym (state_of-file awake q) ∙ ap (λ (s : FileState). s.kept.file) state ∙ state_of-file awake p ∙ own in
      let put = put_there p q new there writes in
      record {
        met = put_met q new put its sound;
        files =
            put_states q new put its ∙ ap (with_file (states_of awake es)) state ∙ file_put awake es file p own_slots own
            ∙ ap (states_of awake) (sym (put_found es file p p are.rising there) ∙ put_same file es p there);
      })

  pub new_same : {A E : Type 0} (had new : BTreeMap FileId Slot) (r : Result A E) → had ≡ old.slots → OnErr r (new.entries ≡ had.entries) → OnErr r (SameFiles awake old (with_slots new))
  new_same had new r is =
      on_err (new.entries ≡ had.entries) (SameFiles awake old (with_slots new)) r
      (λ stays.
      let same : new.entries ≡ old.slots.entries = stays ∙ ap (λ (m : BTreeMap FileId Slot). m.entries) is in
      record {
        met = record {
          rising = subst (λ (es : Slots). IsStrictlySortedBy file_cmp (keys_of es)) (sym same) are.rising;
          each = λ f s found. busy_met.each f s (sym (ap (slot_at f) same) ∙ found);
        };
        files = ap (states_of awake) same;
      })

-- ---- a Wake

pub met_woke : (now : ℕ) (awake : Awake) (old : MetFiles) (new : BTreeMap FileId Slot) (gave : Woken) (turned : Turned) → GivesAll now awake (states_of awake old.slots.entries) gave
    → EndsAll now awake (is_among old.busy.keys) old.slots new → turned ≡ joined (sends (asks_dir awake.node ∷ [])) (joined gave.overdue gave.again)
    → (sealed : Capability → Bool) (body : FileId → ℕ → Stamp → List ℕ) → StepsFiles (woken (site_at awake now sealed body)) awake old (record { slots = new; busy = old.busy }) turned
met_woke now awake old new gave turned gives ends turned_is sealed body =
    let site = site_at awake now sealed body in
    let settled = each_file (expired site) (states_of awake old.slots.entries) in
    let last = each_file (wake_of_file site) settled.files in
    let files = states_of awake new.entries in
    let whole : List FileState → Turned → Turned → FilesStep = λ fs o a. record { files = fs; turned = joined (sends (asks_dir awake.node ∷ [])) (joined o a) } in
    record {
      met = ends.slots;
      step =
          ap (λ fs. whole fs settled.turned last.turned) (ends.files sealed body)
          ∙ ap (λ o. whole files o last.turned) (gives.overdue sealed body)
          ∙ ap (whole files gave.overdue) (gives.again sealed body)
          ∙ ap (λ t. let step : FilesStep = record { files = files; turned = t } in step) (sym turned_is);
    }

-- ---- an event

abbrev osd_of : Silent → ℕ → List FileState → OsdState
osd_of silent last files = record { started = silent; last = last; files = files }

awake_is : (s : Silent) (now : ℕ) (awake : Awake) → awake_at s now ≡ Some awake → awake ≡ awake_of s
awake_is s now awake is = at (is_silent s now) is
  where
    at : (silent : Bool) → cond silent None (Some (awake_of s)) ≡ Some awake → awake ≡ awake_of s
    at true no_one = absurd cc
    at false same = cc

pub silent_step : (outside : Outside) (silent : Silent) (last : ℕ) (files : List FileState) (reading now : ℕ) (happens : Event) (turned : Turned) → now ≡ max reading last → awake_at silent now ≡ None
    → turned ≡ quiet → step_of_osd outside (osd_of silent last files) reading happens ≡ record { osd = osd_of silent last files; turned = turned }
unfolding step_of_osd
silent_step outside silent last files reading now happens turned is is_silent quiet_is =
    let osd = osd_of silent last files in
    ap (λ n. handled_awake outside osd n happens (awake_at silent n)) (sym is)
    ∙ ap (handled_awake outside osd now happens) is_silent
    ∙ ap (λ t. let step : OsdStep = record { osd = osd; turned = t } in step) (sym quiet_is)

module _ (silent : Silent) (now : ℕ) (awake : Awake) (is_awake : awake_at silent now ≡ Some awake) where
  pub met_here : (met : MetFiles) → AreMet awake met → AreMet (awake_of silent) met
  met_here met = subst (λ a. AreMet a met) (awake_is silent now awake is_awake)

  pub met_there : (met : MetFiles) → AreMet (awake_of silent) met → AreMet awake met
  met_there met = subst (λ a. AreMet a met) (sym (awake_is silent now awake is_awake))

  pub same_here : (old new : MetFiles) → SameFiles awake old new → SameFiles (awake_of silent) old new
  same_here old new = subst (λ a. SameFiles a old new) (awake_is silent now awake is_awake)

  pub awake_step : (outside : Outside) (last reading : ℕ) (happens : Event) (old new : MetFiles) (turned : Turned) → now ≡ max reading last
      → StepsFiles (λ files. handle_event (site_at awake now outside.sealed outside.body) awake files happens) awake old new turned
      → step_of_osd outside (osd_of silent last (states_of (awake_of silent) old.slots.entries)) reading happens ≡ record { osd = osd_of silent now (states_of (awake_of silent) new.slots.entries); turned = turned }
  unfolding step_of_osd
  awake_step outside last reading happens old new turned is steps =
      let osd = osd_of silent last (states_of (awake_of silent) old.slots.entries) in
      let after : FilesStep → OsdStep = λ step. record { osd = osd_of silent now step.files; turned = step.turned } in
      let here = subst (λ a. StepsFiles (λ files. handle_event (site_at a now outside.sealed outside.body) a files happens) a old new turned) (awake_is silent now awake is_awake) steps in
      ap (λ n. handled_awake outside osd n happens (awake_at silent n)) (sym is)
      ∙ ap (handled_awake outside osd now happens) (is_awake ∙ ap (λ a. Some a) (awake_is silent now awake is_awake))
      ∙ ap after here.step
