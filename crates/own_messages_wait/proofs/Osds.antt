-- what an event comes to at an OSD: each of its files stands, and what goes to the OSD itself stands there
use Rattle.std.proofs.Common.{◌≡◌, ℕ, ◌≤◌, ◌+◌, inl, inr, Bool, true, false, List, [], ◌∷◌, refl, sym, ap, subst, ◌∙◌, arith, Option, Some, None}
use Rattle.std.specs.Prelude.{◌||◌, cond, ◌==◌, ◌-◌}
use Rattle.std.proofs.lemmas.Bool.{eqb-true}
use Rattle.xt_base.specs.MemberList.{are_distinct}
use Rattle.xt_base.specs.declared.ids.NodeId.{NodeId}
use Rattle.xt_base.specs.declared.ids.FileId.{FileId}
use Rattle.xt_messages.specs.declared.file.ObjectVersion.{ObjectVersion}
use Rattle.xt_messages.specs.declared.message.Msg.{Msg}
use Rattle.xt_messages.specs.declared.message.Payload.{Payload}
use Rattle.xt_messages.specs.declared.message.Payload.TheVariants as payload
use Rattle.xt_messages.specs.declared.record.FileRow.{FileRow}
use Rattle.xt_messages.specs.declared.record.Record.{Record}
use Rattle.xt_messages.specs.declared.record.Record.TheVariants as kept
use Rattle.xt_base.specs.declared.TheConstants.{OBJECTS, NO_OBJECT}
use Rattle.xt_protocol.specs.FileIds.{is_file}
use Rattle.xt_protocol.specs.Folds.{new_row, body_of}
use Rattle.xt_protocol.specs.LeaseRows.{Awake}
use Rattle.xt_protocol.specs.Stamps.{is_version, has_version, with_held}
use Rattle.xt_protocol.proofs.Stamps.{has_version-with_held}
use Rattle.lease_safety.specs.State.{Has}
use Rattle.lease_runs.specs.ActsView.{RecordIs}
use Rattle.lease_runs.specs.LeaseView.{is_ask}
use Rattle.lease_runs.proofs.ActSteps.{step_rec}
use Rattle.xt_protocol.specs.ReplicaRows.{kept_after}
use Rattle.xt_protocol.specs.FileStates.{FileState, Site, FileStep, file_from, members_of}
use Rattle.xt_protocol.specs.FileSteps.{step_of_file, wake_of_file}
use Rattle.xt_protocol.specs.Overdue.{expired}
use Rattle.xt_protocol.specs.OsdSteps.{file_at, file_concerned}
use Rattle.osd_invariants.specs.Sound.{IsSound}
use Rattle.osd_invariants.proofs.Kept.{step_follows}
use Rattle.lease_runs.specs.OsdView.{wake_step}
use Rattle.world_spec.specs.NodeSteps.{to_itself}
use Rattle.osd_invariants.proofs.SoundSteps.{start_so}
use Rattle.world_runs.proofs.Lists.{has_in}
use Rattle.world_runs.proofs.FileIds.{HasCome, step_is, expired_is, wake_is}
use Rattle.world_runs.proofs.OsdIds.{new_is}
use Rattle.own_messages_wait.proofs.Weights.{is_lease}
use Rattle.own_messages_wait.proofs.Standing.{IsPast, IfAbout, IfMessage, Stands}
use Rattle.own_messages_wait.proofs.Tests.{false_true}
use Rattle.own_messages_wait.proofs.Moves.{Moves, moves_none}
use Rattle.own_messages_wait.proofs.Mine.{token}
use Rattle.own_messages_wait.proofs.Hearing.{IsApart}
use Rattle.own_messages_wait.proofs.Leases.{IsLeaseOf}
use Rattle.own_messages_wait.proofs.Files.{FileStands}
use Rattle.own_messages_wait.proofs.Messages.{Gives}
use Rattle.own_messages_wait.proofs.FileSteps.{stands_after, step_given, ask_step_given, wake_step_given}
use Rattle.own_messages_wait.proofs.Sizes.{both_small}
use Rattle.own_messages_wait.proofs.FileSizes.{FileSmall, StepSmall, expired_small, wake_small}

-- ---- what is kept of a file grows, by the node's own messages

pub record KeptMoves (row next : FileRow) : Type 0 where
  pub head : Moves row.head next.head
  pub held : (v : ObjectVersion) → has_version row.held v ≡ true → has_version next.held v ≡ true

or_right : (a b : Bool) → b ≡ true → (a || b) ≡ true
or_right true b is = refl
or_right false b is = is

pub held_grows : (row : FileRow) (content : Payload) (rec : Option Record) (v : ObjectVersion) → RecordIs row.file content rec → has_version row.held v ≡ true → has_version (kept_after row rec).held v ≡ true
held_grows row content None v of is = is
held_grows row content (Some (kept.Update file update)) v of is = at (update.object == NO_OBJECT)
  where
    at : (b : Bool) → has_version (cond b row.held (with_held row.held (body_of update.object update.stamp))) v ≡ true
    at true = is
    at false = has_version-with_held row.held (body_of update.object update.stamp) v ∙ or_right (is_version v (body_of update.object update.stamp)) (has_version row.held v) is
held_grows row content (Some (kept.Stage file object version bytes)) v of is =
    has_version-with_held row.held (body_of object version) v ∙ or_right (is_version v (body_of object version)) (has_version row.held v) is
held_grows row content (Some (kept.OldUpdate file update)) v of is = absurd of
held_grows row content (Some (kept.OldStage file object version bytes)) v of is = absurd of
held_grows row content (Some (kept.Forget file)) v of is = absurd of
held_grows row content (Some _) v of is = is

pub kept_same : (row next : FileRow) → next ≡ row → KeptMoves row next
kept_same row next same = record { head = moves_none row.head next.head (ap (λ (r : FileRow). r.head) same); held = λ v is. subst (λ (r : FileRow). has_version r.held v ≡ true) (sym same) is }

-- what stood stands
pub stands_more : (row next : FileRow) (content : Payload) → KeptMoves row next → Stands row content → Stands next content
stands_more row next (payload.Gather file epoch) moves is = moves.head.promised epoch is
stands_more row next (payload.Status file epoch head) moves is = tt
stands_more row next (payload.Head file epoch head) moves is = moves.head.promised epoch is
stands_more row next (payload.Stage file epoch object version bytes) moves is = moves.head.promised epoch is
stands_more row next (payload.Staged file epoch object version) moves is = tt
stands_more row next (payload.Missing file epoch object version) moves is = tt
stands_more row next (payload.Update file update) moves is = (
  moves.head.promised update.stamp.epoch is.0,
  λ now.
      let one : IsPast next.head update.stamp.epoch (record row.head { stamp = record { epoch = row.head.stamp.epoch; count = update.stamp.count - 1 } }) = moves.head.past update.stamp.epoch (record row.head { stamp = record { epoch = row.head.stamp.epoch; count = update.stamp.count - 1 } }) is.0 (λ old. let was = is.1 old in (was.0, lower was.1)) in
      let there = one now in
      (there.0, upper there.1),
)
  where
    lower : {a b : ℕ} → a ≤ b + 1 → a - 1 ≤ b
    lower low = omega (arith, low)

    upper : {a b : ℕ} → a - 1 ≤ b → a ≤ b + 1
    upper low = omega (arith, low)
stands_more row next (payload.Ack file stamp) moves is = (moves.head.promised stamp.epoch is.0, moves.head.of_epoch stamp.epoch is.0 is.1)
stands_more row next (payload.Refused file epoch promised) moves is = moves.head.promised promised is
stands_more row next _ moves is = absurd is

-- a message that stands is no ask
pub not_ask : (row : FileRow) (content : Payload) → Stands row content → is_ask content ≡ false
not_ask row (payload.Ask number capability asked) is = absurd is
not_ask row _ is = refl

pub lease_no_ask : (content : Payload) → is_lease content ≡ true → is_ask content ≡ false
lease_no_ask (payload.Ask number capability asked) is = absurd (false_true is)
lease_no_ask _ is = refl

-- ---- the files of an OSD

-- a message of the OSD to itself, as its files stand
pub record OwnFits (awake : Awake) (files : List FileState) (content : Payload) : Type 0 where
  pub no_ask : is_ask content ≡ false
  pub stands : (file : FileId) → file_concerned content ≡ Some file → is_lease content ≡ false → Stands (file_at awake files file).kept content

-- a file of an OSD is sound, and the members of its list are different
pub record FileHolds (f : FileState) : Type 0 where
  pub sound : IsSound f
  pub apart : are_distinct (members_of f.kept.location) ≡ true

-- the members of the list that an ask brings are different
abbrev pub AskHolds : Payload → Type 0
AskHolds (payload.Ask number capability asked) = are_distinct capability.location.members ≡ true
AskHolds _ = Unit {0}

module _ (site : Site) (awake : Awake)
    (files : List FileState) (fits : (f : FileState) → Has f files → FileHolds f) (stands : (f : FileState) → Has f files → FileStands site.node f × FileSmall f) where
  fresh : (file : FileId) → FileStands site.node (file_from awake (new_row file)) × FileSmall (file_from awake (new_row file))
  fresh file =
      let none : 0 ≤ OBJECTS = omega arith in
      (record { head = refl; tenure = tt; ids = new_is (IsApart site.node) awake (new_row file); seats = tt; few = omega arith }, record { head = none; tenure = tt })

  go : (fs : List FileState) (file : FileId) → ((f : FileState) → Has f fs → FileStands site.node f × FileSmall f) → FileStands site.node (file_at awake fs file) × FileSmall (file_at awake fs file)
  unfolding file_at
  go [] file are = fresh file
  go (f ∷ fs) file are = at (is_file f.kept.file file) (go fs file (λ x h. are x (inr h)))
    where
      at : (b : Bool) → FileStands site.node (file_at awake fs file) × FileSmall (file_at awake fs file) → FileStands site.node (cond b f (file_at awake fs file)) × FileSmall (cond b f (file_at awake fs file))
      at true rest = are f (inl refl)
      at false rest = rest

  pub at_stands : (file : FileId) → FileStands site.node (file_at awake files file) × FileSmall (file_at awake files file)
  at_stands file = go files file stands

  pub sound_of : (f : FileState) → FileHolds f → IsSound f
  sound_of f fit = fit.sound

  pub apart_of : (f : FileState) → FileHolds f → are_distinct (members_of f.kept.location) ≡ true
  apart_of f fit = fit.apart

  pub at_holds : (file : FileId) → FileHolds (file_at awake files file)
  unfolding file_at
  at_holds file = hold files fits
    where
      hold : (fs : List FileState) → ((f : FileState) → Has f fs → FileHolds f) → FileHolds (file_at awake fs file)
      hold [] each = record { sound = start_so awake (new_row file); apart = refl }
      hold (f ∷ fs) each = one_of (is_file f.kept.file file) (hold fs (λ x h. each x (inr h)))
        where
          one_of : (b : Bool) → FileHolds (file_at awake fs file) → FileHolds (cond b f (file_at awake fs file))
          one_of true rest = each f (inl refl)
          one_of false rest = rest

  -- ---- a message that concerns a file

  -- what may be heard from the own node
  abbrev pub Heard : NodeId → FileRow → Payload → Type 0
  Heard from row content = from.0 ≡ site.node.0 → (is_ask content ≡ false) × (is_lease content ≡ false → Stands row content)

  other_asks : (from : NodeId) (content : Payload) (row : FileRow) → Heard from row content → is_ask content ≡ true → (from.0 == site.node.0) ≡ false
  other_asks from content row heard asks = at (from.0 == site.node.0) refl
    where
      at : (b : Bool) → (from.0 == site.node.0) ≡ b → b ≡ false
      at true mine = absurd (false_true (sym (heard (eqb-true from.0 site.node.0 mine)).0 ∙ asks))
      at false other = refl

  -- the file's step
  pub step_any : (f : FileState) (from : NodeId) (content : Payload) → FileStands site.node f → FileHolds f → AskHolds content → Heard from f.kept content → Gives site.node from f (step_of_file site f from content)
  step_any f from (payload.Ask number capability asked) its fit ask heard =
      ask_step_given site from f its (sound_of f fit) (apart_of f fit) number capability asked (other_asks from (payload.Ask number capability asked) f.kept heard refl) ask
  step_any f from (payload.Read file ballot) its fit ask heard = (step_given site from f its (sound_of f fit) (apart_of f fit) (payload.Read file ballot) refl (λ mine. (heard mine).1)).gives
  step_any f from (payload.Promise file ballot boot report) its fit ask heard = (step_given site from f its (sound_of f fit) (apart_of f fit) (payload.Promise file ballot boot report) refl (λ mine. (heard mine).1)).gives
  step_any f from (payload.Write file ballot boot x) its fit ask heard = (step_given site from f its (sound_of f fit) (apart_of f fit) (payload.Write file ballot boot x) refl (λ mine. (heard mine).1)).gives
  step_any f from (payload.Accepted file ballot boot) its fit ask heard = (step_given site from f its (sound_of f fit) (apart_of f fit) (payload.Accepted file ballot boot) refl (λ mine. (heard mine).1)).gives
  step_any f from content its fit ask heard = (step_given site from f its (sound_of f fit) (apart_of f fit) content refl (λ mine. (heard mine).1)).gives

  come : (f : FileState) (from : NodeId) (content : Payload) → Heard from f.kept content → HasCome (IsApart site.node) site from content
  come f from (payload.Ask number capability asked) heard = other_asks from (payload.Ask number capability asked) f.kept heard refl
  come f from _ heard = tt

  -- the file after it
  pub step_stands : (f : FileState) (from : NodeId) (content : Payload) → FileStands site.node f → FileHolds f → AskHolds content → Heard from f.kept content → FileStands site.node (step_of_file site f from content).state
  step_stands f from content its fit ask heard =
      stands_after site.node from f (step_of_file site f from content) (step_any f from content its fit ask heard)
      (step_is (IsApart site.node) site f from content its.ids (come f from content heard)).state

  pub step_moves : (f : FileState) (from : NodeId) (content : Payload) → FileStands site.node f → FileHolds f → AskHolds content → Heard from f.kept content → from.0 ≡ site.node.0 → KeptMoves f.kept (step_of_file site f from content).state.kept
  step_moves f from content its fit ask heard mine =
      record {
        head = (step_any f from content its fit ask heard).moves mine;
        held = λ v is. subst (λ (r : FileRow). has_version r.held v ≡ true) (sym (step_follows site f from content)) (held_grows f.kept content (step_of_file site f from content).turned.rec v (step_rec site f from content) is);
      }

  -- ---- a Wake

  pub wake_any : (f : FileState) → FileStands site.node f → FileHolds f → Gives site.node (record { 0 = site.node.0 + 1 }) f (wake_step site f)
  wake_any f its fit = wake_step_given site (record { 0 = site.node.0 + 1 }) f its (sound_of f fit) (apart_of f fit)

  pub wake_stands : (f : FileState) → FileStands site.node f → FileHolds f → FileStands site.node (wake_step site f).state
  wake_stands f its fit =
      stands_after site.node (record { 0 = site.node.0 + 1 }) f (wake_step site f) (wake_any f its fit)
      (wake_is (IsApart site.node) site (expired site f).state.kept.file.number (expired site f).state (expired_is (IsApart site.node) site f.kept.file.number f its.ids).state).state

  pub wake_step_small : (f : FileState) → FileSmall f → StepSmall site.node (wake_step site f)
  wake_step_small f small =
      let first = expired_small site f small in
      let rest = wake_small site (expired site f).state first.state in
      record { state = rest.state; outs = both_small site.node (expired site f).turned.outs (wake_of_file site (expired site f).state).turned.outs first.outs rest.outs }

  -- ---- what goes to the OSD itself

  sent_fits : (after : List FileState) (f : FileState) (o : Option Payload) → IfMessage f.kept o → IfAbout f.kept.file o → file_at awake after f.kept.file ≡ f → (content : Payload) → o ≡ Some content → OwnFits awake after content
  sent_fits after f None is about there content e = absurd (cc)
  sent_fits after f (Some c) is about there content e =
      let same : c ≡ content = cc in
      subst (OwnFits awake after) same (record {
        no_ask = not_ask f.kept c is.0;
        stands = λ file concerns primary.
            let its : f.kept.file ≡ file = some_same f.kept.file file (sym about ∙ concerns) in
            subst (λ (r : FileState). Stands r.kept c) (sym (ap (file_at awake after) (sym its) ∙ there)) is.0;
      })
    where
      some_same : (a b : FileId) → Some a ≡ Some b → a ≡ b
      some_same a b e = cc

  told_fits : (after : List FileState) (o : Option Payload) → IsLeaseOf 4 o → (content : Payload) → o ≡ Some content → OwnFits awake after content
  told_fits after None is content e = absurd (cc)
  told_fits after (Some c) is content e =
      let same : c ≡ content = cc in
      subst (OwnFits awake after) same (record { no_ask = lease_no_ask c is.0; stands = λ file concerns primary. absurd (false_true (sym primary ∙ is.0)) })

  -- one of the two that a step of this file sends
  pub own_fits : (from : NodeId) (f : FileState) (step : FileStep) (after : List FileState) (q : Gives site.node from f step) → step.state.kept.file ≡ f.kept.file → file_at awake after f.kept.file ≡ step.state → (m : Msg) → Has m (to_itself site.node step.turned.outs)
      → OwnFits awake after m.payload
  own_fits from f step after q same there m h =
      elim (has_in m (token site.node q.sent) (token site.node q.told) (subst (Has m) q.outs h)) [
        | inl mine ↦ (let one = token_is q.sent m mine in sent_fits after step.state q.sent q.stands (subst (λ (k : FileId). IfAbout k q.sent) (sym same) q.about_sent) (ap (file_at awake after) same ∙ there) m.payload one)
        | inr mine ↦ told_fits after q.told q.told_is m.payload (token_is q.told m mine)
      ]
    where
      token_is : (o : Option Payload) (m : Msg) → Has m (token site.node o) → o ≡ Some m.payload
      token_is None m h = absurd h
      token_is (Some c) m (inl e) = ap (λ (k : Msg). Some k.payload) (sym e)
      token_is (Some c) m (inr h) = absurd h
