-- an OSD that works on its messages to itself: what holds of it, and that it comes to an end
use Rattle.std.proofs.Common.{◌≡◌, ℕ, ◌≤◌, ◌<◌, ◌^◌, ◌+◌, ◌*◌, ◌⊎◌, inl, inr, Bool, true, false, List, [], ◌∷◌, ◌++◌, map, length, max, refl, sym, ap, subst, ◌∙◌, arith, Option, Some, None}
use Rattle.std.specs.Prelude.{cond, ◌==◌, suc, fold}
use Rattle.std.specs.Option.{IfSome}
use Rattle.std.specs.List.{AllByRecursion}
use Rattle.std.proofs.lemmas.Bool.Decides.{nat_tests}
use Rattle.xt_base.specs.MemberList.{are_distinct}
use Rattle.xt_base.specs.TimeSettings.{AreTimes}
use Rattle.xt_base.specs.declared.ids.NodeId.{NodeId}
use Rattle.xt_base.specs.declared.ids.FileId.{FileId}
use Rattle.xt_base.specs.declared.ids.Epoch.{Epoch}
use Rattle.xt_messages.specs.declared.file.Capability.{Capability}
use Rattle.xt_messages.specs.declared.file.FileHead.{FileHead}
use Rattle.xt_messages.specs.declared.file.Location.{Location}
use Rattle.xt_messages.specs.declared.event.Event.{Event}
use Rattle.xt_messages.specs.declared.event.Event.TheVariants as event
use Rattle.xt_messages.specs.declared.message.Msg.{Msg}
use Rattle.xt_messages.specs.declared.message.Payload.{Payload}
use Rattle.xt_messages.specs.declared.message.Payload.TheVariants as payload
use Rattle.xt_messages.specs.declared.record.FileRow.{FileRow}
use Rattle.xt_messages.specs.declared.record.Folded.{Folded}
use Rattle.xt_messages.specs.declared.record.KeepBody.{KeepBody}
use Rattle.xt_messages.specs.declared.record.Record.{Record}
use Rattle.xt_messages.specs.declared.record.Record.TheVariants as kept
use Rattle.xt_messages.specs.Limits.{FitsEvent, FitsHead, FitsLocation, FitsMessage, FitsPayload, is_at_most}
use Rattle.xt_protocol.specs.Folds.{fold_of, folded_after, nothing_kept, file_of}
use Rattle.xt_protocol.specs.Forgetting.{keep_of, file_without, osd_without}
use Rattle.xt_protocol.specs.LeaseRows.{Awake, Silent, is_silent}
use Rattle.xt_protocol.specs.Stamps.{is_earlier}
use Rattle.xt_protocol.specs.declared.states.Peer.{Peer}
use Rattle.xt_protocol.specs.declared.states.PeerState.{PeerState}
use Rattle.xt_protocol.specs.declared.states.PeerState.TheVariants as peer
use Rattle.xt_protocol.specs.declared.states.Progress.{Progress}
use Rattle.xt_protocol.specs.declared.states.Progress.TheVariants as progress
use Rattle.xt_protocol.specs.declared.states.Tenure.{Tenure}
use Rattle.xt_protocol.specs.FileStates.{FileState, file_from, members_of}
use Rattle.xt_protocol.specs.FileSteps.{step_of_file}
use Rattle.xt_protocol.specs.OsdSteps.{Outside, OsdState, OsdStep, osd_from, step_of_osd, file_at, file_concerned, handled_awake, handle_event, handle_message}
use Rattle.osd_invariants.specs.Sound.{IsSound}
use Rattle.lease_safety.specs.State.{Has}
use Rattle.lease_runs.specs.OsdView.{site_of, wake_step}
use Rattle.world_spec.specs.Lines.{OWN}
use Rattle.world_spec.specs.NodeSteps.{to_itself}
use Rattle.world_runs.specs.View.{awake_as}
use Rattle.world_runs.specs.Worlds.{Rises, files_of, row_files}
use Rattle.world_runs.proofs.Lists.{has_in, has_filter, has_map}
use Rattle.world_runs.proofs.OsdIds.{new_is}
use Rattle.world_runs.proofs.Rising.{with_file_rises, rows_after_rise}
use Rattle.world_runs.proofs.Woken.{mapped_files}
use Rattle.world_limits.specs.Fits.{FitsKept}
use Rattle.world_limits.specs.States.{RowIs, FileIs, KeptIs, PeerIs, PeerStateIs, ProgressIs, TenureIs, outside_by}
use Rattle.world_limits.proofs.Kept.{kept_so}
use Rattle.osd_limits.specs.Keeping.{RunsOn, StepsOn}
use Rattle.osd_limits.proofs.Steps as keeping
use Rattle.osd_limits.proofs.Forgets.{forgot}
use Rattle.own_messages_wait.proofs.Standing.{HeadStands}
use Rattle.own_messages_wait.proofs.Hearing.{IsApart}
use Rattle.own_messages_wait.proofs.Files.{FileStands}
use Rattle.own_messages_wait.proofs.Sizes.{IsSmall, ContentSmall, StateSmall, PeersSmall, ProgressSmall, TenureSmall, small_of}
use Rattle.own_messages_wait.proofs.FileSizes.{FileSmall}
use Rattle.own_messages_wait.proofs.Osds.{FileHolds, AskHolds, OwnFits, stands_more}
use Rattle.own_messages_wait.proofs.OsdEvents.{IsOwn, OsdAfter, Arrives, event_after, woken_files, woke_file}
use Rattle.own_messages_wait.proofs.Chains.{Chain}
use Rattle.own_messages_wait.proofs.ChainSteps.{handled_falls}
use Rattle.own_messages_wait.proofs.Starts.{event_starts, room_of, count_busy, found_here, loosen}
use Rattle.own_messages_wait.proofs.Starts as starting
use Rattle.own_messages_wait.proofs.Rows.{one_if}
use Rattle.own_messages_wait.proofs.Running.{awake_step, awake_is, silent_is}
use Rattle.own_messages_wait.proofs.Keeping.{distinct_of, own_then}
use Rattle.own_messages_wait.proofs.Forgets.{chain_then}
use Rattle.own_messages_end.specs.Queues.{AreEnough, IsOutside, Move, Reaches, Working, after_step, forget, forgets, forgotten, goes_on, handle, handled, handles, handles_first, meets, starts, tells_itself}

-- ---- what fits is small, and what fits holds

small_head : (head : FileHead) → FitsHead head → IsSmall head
small_head head fits = fits.objects.few

small_state : (state : PeerState) → PeerStateIs state → StateSmall state
small_state peer.Unknown is = tt
small_state (peer.Reported head) is = small_head head is
small_state (peer.Feeding known object version body) is = tt
small_state (peer.Heading known head) is = small_head head is
small_state peer.Current is = tt

small_peers : (peers : List Peer) → AllByRecursion PeerIs peers → PeersSmall peers
small_peers [] all = tt
small_peers (p ∷ ps) all = (small_state p.state all.0.1, small_peers ps all.1)

small_progress : (peers : List Peer) (p : Progress) → ProgressIs peers p → ProgressSmall p
small_progress peers progress.Gathering is = tt
small_progress peers (progress.Fetching chosen source asked later) is = small_head chosen is.0
small_progress peers (progress.Installing chosen acked) is = small_head chosen is.0
small_progress peers (progress.Active committed issued) is = tt

small_tenure : (o : Option Tenure) → IfSome o TenureIs → TenureSmall o
small_tenure None is = tt
small_tenure (Some t) is = (small_peers t.peers is.each, small_progress t.peers t.progress is.stands)

small_file : (f : FileState) → FileIs f → FileSmall f
small_file f is = record { head = small_head f.kept.head is.row.stands; tenure = small_tenure f.primary.tenure is.leads.leads }

small_content : (content : Payload) → FitsPayload content → ContentSmall content
small_content (payload.Status file epoch head) fits = small_head head fits.2
small_content (payload.Head file epoch head) fits = small_head head fits.2
small_content _ fits = tt

ask_holds : (content : Payload) → FitsPayload content → AskHolds content
ask_holds (payload.Ask number capability asked) fits = distinct_of capability.location fits.1.place
ask_holds _ fits = tt

apart_in : (o : Option Location) → IfSome o FitsLocation → are_distinct (members_of o) ≡ true
apart_in None is = refl
apart_in (Some location) is = distinct_of location is

each_of : {A : Type 0} (P : A → Type 0) (xs : List A) (x : A) → AllByRecursion P xs → Has x xs → P x
each_of P [] x all h = absurd h
each_of P (y ∷ ys) x all (inl e) = subst P (sym e) all.0
each_of P (y ∷ ys) x all (inr h) = each_of P ys x all.1 h

-- ---- what holds of an OSD that works

pub record Holds (w : Working) : Type 0 where
  pub kept : KeptIs w.kept
  pub runs : RunsOn w.kept w.osd
  pub rises : Rises (files_of w.osd.files)
  pub stands : (f : FileState) → Has f w.osd.files → FileStands w.osd.started.node f
  pub own : (m : Msg) → Has m w.own → (m.from ≡ w.osd.started.node) × FitsMessage m × OwnFits (awake_as w.osd.started) w.osd.files m.payload

module _ (w : Working) (h : Holds w) where
  all_hold : (f : FileState) → Has f w.osd.files → FileHolds f
  all_hold f has = record {
    sound = subst IsSound (found_here (awake_as w.osd.started) w.osd.files f h.rises has) (h.runs.sound f.kept.file);
    apart = apart_in f.kept.location (each_of FileIs w.osd.files f h.runs.limits.each has).row.place;
  }

  all_stand : (f : FileState) → Has f w.osd.files → FileStands w.osd.started.node f × FileSmall f
  all_stand f has = (h.stands f has, small_file f (each_of FileIs w.osd.files f h.runs.limits.each has))

  -- what comes from outside, or is one of its messages to itself
  abbrev pub MayCome : Event → Type 0
  MayCome (event.Deliver m) = m.from.0 ≡ w.osd.started.node.0 → OwnFits (awake_as w.osd.started) w.osd.files m.payload
  MayCome _ = Unit {0}

  arrives : (happens : Event) → FitsEvent happens → MayCome happens → Arrives w.osd happens
  arrives (event.Deliver m) fits own = (ask_holds m.payload fits.content, small_content m.payload fits.content, own)
  arrives event.Wake fits own = tt
  arrives (event.Call call) fits own = tt

-- ---- files rise

rise_message : (outside : Outside) (s : OsdState) (now : ℕ) (m : Msg) (o : Option FileId) → Rises (files_of s.files)
    → Rises (files_of (handle_message (site_of outside (awake_as s.started) now) (awake_as s.started) s.files m o).files)
rise_message outside s now m None rises = rises
rise_message outside s now m (Some file) rises = with_file_rises s.files (step_of_file (site_of outside (awake_as s.started) now) (file_at (awake_as s.started) s.files file) m.from m.payload).state rises

rise_handled : (outside : Outside) (s : OsdState) (now : ℕ) (happens : Event)
    → ((f : FileState) → Has f s.files → FileHolds f) → ((f : FileState) → Has f s.files → FileStands s.started.node f × FileSmall f)
    → Rises (files_of s.files) → Rises (files_of (handle_event (site_of outside (awake_as s.started) now) (awake_as s.started) s.files happens).files)
rise_handled outside s now (event.Deliver m) hold stand rises = rise_message outside s now m (file_concerned m.payload) rises
rise_handled outside s now event.Wake hold stand rises =
    subst (λ (fs : List FileState). Rises (files_of fs)) (sym (woken_files outside s now hold stand rises s.files))
    (subst Rises (sym (mapped_files (λ (f : FileState). (wake_step (site_of outside (awake_as s.started) now) f).state) s.files (woke_file outside s now hold stand rises))) rises)
rise_handled outside s now (event.Call call) hold stand rises = rises

rise_step : (outside : Outside) (s : OsdState) (reading : ℕ) (happens : Event)
    → ((f : FileState) → Has f s.files → FileHolds f) → ((f : FileState) → Has f s.files → FileStands s.started.node f × FileSmall f)
    → Rises (files_of s.files) → Rises (files_of (step_of_osd outside s reading happens).osd.files)
unfolding step_of_osd
rise_step outside s reading happens hold stand rises = at (is_silent s.started (max reading s.last))
  where
    at : (b : Bool) → Rises (files_of (handled_awake outside s (max reading s.last) happens (cond b None (Some (awake_as s.started)))).osd.files)
    at true = rises
    at false = rise_handled outside s (max reading s.last) happens hold stand rises

-- ---- a step

module _ (sealed : Capability → Bool) (w : Working) (h : Holds w) (reading : ℕ) (happens : Event) (clock : reading < 2 ^ 62) (fits : FitsEvent happens) (may : MayCome w h happens)
    (calm : (w.own ≡ []) ⊎ IsOwn w.osd happens) where
  abbrev its : OsdStep
  its = step_of_osd (outside_by sealed w.kept) w.osd reading happens

  stepped : StepsOn w.kept (step_of_osd (outside_by sealed w.kept) w.osd reading happens)
  stepped = keeping.steps sealed w.kept w.osd reading happens h.kept h.runs clock fits

  after : OsdAfter w.osd happens (step_of_osd (outside_by sealed w.kept) w.osd reading happens)
  unfolding step_of_osd
  after = event_after (outside_by sealed w.kept) w.osd (max reading w.osd.last) (all_hold w h) (all_stand w h) h.rises happens (is_silent w.osd.started (max reading w.osd.last)) (arrives w h happens fits may)

  moved : (content : Payload) → IsOwn w.osd happens → OwnFits (awake_as w.osd.started) w.osd.files content → OwnFits (awake_as w.osd.started) (step_of_osd (outside_by sealed w.kept) w.osd reading happens).osd.files content
  moved content mine own =
      record {
        no_ask = own.no_ask;
        stands = λ file concerns primary. stands_more (file_at (awake_as w.osd.started) w.osd.files file).kept (file_at (awake_as w.osd.started) (step_of_osd (outside_by sealed w.kept) w.osd reading happens).osd.files file).kept content
            (after.moves mine file) (own.stands file concerns primary);
      }

  -- where a message to itself was left, it is one that comes
  own_comes : (m : Msg) → Has m w.own → (w.own ≡ []) ⊎ IsOwn w.osd happens → IsOwn w.osd happens
  own_comes m old (inl none) = absurd (subst (Has m) none old)
  own_comes m old (inr mine) = mine

  pub step_holds : Holds (handles sealed w reading happens)
  step_holds =
      record {
        kept = stepped.kept;
        runs = stepped.runs;
        rises = rise_step (outside_by sealed w.kept) w.osd reading happens (all_hold w h) (all_stand w h) h.rises;
        stands = λ f has. subst (λ (n : NodeId). FileStands n f) (sym (ap (λ (t : Silent). t.node) after.started)) (after.stands f has).0;
        own = λ m has. elim (has_in m w.own (to_itself w.osd.started.node its.turned.outs) has) [
          | inl old ↦ (let x = h.own m old in (
            x.0 ∙ sym (ap (λ (t : Silent). t.node) after.started),
            x.1,
            subst (λ (t : Silent). OwnFits (awake_as t) its.osd.files m.payload) (sym after.started) (moved m.payload (own_comes m old calm) x.2),
          ))
          | inr new ↦ (
              let out = (has_filter (λ (k : Msg). k.to.0 == w.osd.started.node.0) m its.turned.outs new).0 in (
                (small_of w.osd.started.node its.turned.outs m after.outs out).0 ∙ sym (ap (λ (t : Silent). t.node) after.started),
                each_of FitsMessage its.turned.outs m stepped.outs out,
                subst (λ (t : Silent). OwnFits (awake_as t) its.osd.files m.payload) (sym after.started) (after.own m new),
              ))
        ];
      }

-- ---- it forgets

stands_without : (n : NodeId) (keep : List KeepBody) (f : FileState) → FileStands n f → FileStands n (file_without keep f)
stands_without n keep f is = record { head = is.head; tenure = is.tenure; ids = record { asks = is.ids.asks; tenure = is.ids.tenure }; seats = is.seats; few = is.few }

all_stand_then : (n : NodeId) (keep : List KeepBody) (s : OsdState) → ((f : FileState) → Has f s.files → FileStands n f) → (f : FileState) → Has f (osd_without keep s).files → FileStands n f
unfolding osd_without
all_stand_then n keep s stand f has = let from = has_map (file_without keep) s.files f has in subst (FileStands n) (sym from.2) (stands_without n keep from.0 (stand from.0 from.1))

rises_then : (keep : List KeepBody) (s : OsdState) → Rises (files_of s.files) → Rises (files_of (osd_without keep s).files)
unfolding osd_without
rises_then keep s rises = subst Rises (sym (mapped_files (file_without keep) s.files (λ x. refl))) rises

same_start : (keep : List KeepBody) (s : OsdState) → (osd_without keep s).started ≡ s.started
unfolding osd_without
same_start keep s = refl

forgotten_holds : (w : Working) → Holds w → Holds (forgotten w)
forgotten_holds w h =
    let its = forgot w.kept w.osd h.kept h.runs in
    let node = ap (λ (t : Silent). t.node) (same_start (keep_of w.osd) w.osd) in
    record {
      kept = its.0;
      runs = its.1;
      rises = rises_then (keep_of w.osd) w.osd h.rises;
      stands = subst (λ (n : NodeId). (f : FileState) → Has f (osd_without (keep_of w.osd) w.osd).files → FileStands n f) (sym node) (all_stand_then w.osd.started.node (keep_of w.osd) w.osd h.stands);
      own = λ m has. (let x = h.own m has in (x.0 ∙ sym node, x.1, own_then (keep_of w.osd) w.osd m.payload x.2));
    }

-- ---- what is left to handle

still_awake : (a b : ℕ) → max a (max a b) ≡ max a b
still_awake a b = grind (arith, nat_tests)

-- The OSD is awake at this reading, and its messages to itself weigh no more than so much.
record InChain (reading : ℕ) (w : Working) (k : ℕ) : Type 0 where
  awake : is_silent w.osd.started (max reading w.osd.last) ≡ false
  chain : Chain (awake_as w.osd.started) w.osd.started.node w.osd.files w.own k

awake_then : (reading : ℕ) (s : OsdState) → is_silent s.started (max reading s.last) ≡ false → is_silent (osd_without (keep_of s) s).started (max reading (osd_without (keep_of s) s).last) ≡ false
unfolding osd_without
awake_then reading s is = is

-- as much is left where it forgets
chain_stays : (reading : ℕ) (w : Working) (k : ℕ) → InChain reading w k → InChain reading (forgotten w) k
chain_stays reading w k c = record { awake = awake_then reading w.osd c.awake; chain = chain_then w.osd w.own k c.chain }

module _ (sealed : Capability → Bool) (reading : ℕ) where
  -- what the OSD becomes, as it is awake
  abbrev woken_to : Working → Event → Working
  woken_to w happens = after_step w (awake_step (outside_by sealed w.kept) w.osd reading happens)

  awake_so : (w : Working) (happens : Event) → is_silent w.osd.started (max reading w.osd.last) ≡ false → handles sealed w reading happens ≡ woken_to w happens
  awake_so w happens is = ap (after_step w) (awake_is (outside_by sealed w.kept) w.osd reading happens is)

  record Less (w : Working) (k : ℕ) : Type 0 where
    j : ℕ
    less : j + 1 ≤ k
    chain : InChain reading w j

  -- the next message to itself
  own_falls : (w : Working) (m : Msg) (rest : List Msg) (k : ℕ) → Holds w → w.own ≡ m ∷ rest → InChain reading w k → Less (handles sealed (record w { own = rest }) reading (event.Deliver m)) k
  own_falls w m rest k h own c =
      let mine = h.own m (subst (Has m) (sym own) (inl refl)) in
      let falls = handled_falls (outside_by sealed w.kept) w.osd (max reading w.osd.last) (all_hold w h) (all_stand w h) h.rises m rest k
      (subst (λ (ms : List Msg). Chain (awake_as w.osd.started) w.osd.started.node w.osd.files ms k) own c.chain) (file_concerned m.payload) refl (ap (λ (n : NodeId). n.0) mine.0) mine.2 in
      subst (λ (x : Working). Less x k) (sym (awake_so (record w { own = rest }) (event.Deliver m) c.awake))
      (record { j = falls.j; less = falls.less; chain = record { awake = ap (is_silent w.osd.started) (still_awake reading w.osd.last) ∙ c.awake; chain = falls.chain } })

  -- with none left none comes
  rests : (moves : List Move) (w : Working) → w.own ≡ [] → (goes_on sealed reading moves w).own ≡ []
  unfolding goes_on
  rests [] w none = none
  rests (handle ∷ moves) w none = subst (λ (ms : List Msg). (goes_on sealed reading moves (handles_first sealed reading w ms)).own ≡ []) (sym none) (rests moves w none)
  rests (forget ∷ moves) w none = rests moves (forgotten w) none

  not_none : (j : ℕ) → j + 1 ≤ 0 → ⊥
  not_none j less = omega (arith, less)

  lower : (j k n : ℕ) → j + 1 ≤ k → k ≤ suc n → j ≤ n
  lower j k n less most = omega (arith, less, most)

  module _ (clock : reading < 2 ^ 62) where
    own_step : (w : Working) (m : Msg) (rest : List Msg) → Holds w → w.own ≡ m ∷ rest → Holds (handles sealed (record w { own = rest }) reading (event.Deliver m))
    own_step w m rest h own =
        let mine = h.own m (subst (Has m) (sym own) (inl refl)) in
        step_holds sealed (record w { own = rest })
        (record { kept = h.kept; runs = h.runs; rises = h.rises; stands = h.stands; own = λ x has. h.own x (subst (Has x) (sym own) (inr has)) })
        reading (event.Deliver m) clock mine.1 (λ same. mine.2) (inr (ap (λ (n : NodeId). n.0) mine.0))

    ends : (moves : List Move) (w : Working) (k : ℕ) → Holds w → InChain reading w k → k ≤ handled moves → (goes_on sealed reading moves w).own ≡ []
    unfolding goes_on handled
    ends [] w k h c low = at w.own refl
      where
        at : (ms : List Msg) → w.own ≡ ms → w.own ≡ []
        at [] own = own
        at (m ∷ rest) own = absurd (let less = own_falls w m rest k h own c in not_none less.j (let a = less.less in omega (arith, a, low)))
    ends (forget ∷ moves) w k h c low = ends moves (forgotten w) k (forgotten_holds w h) (chain_stays reading w k c) low
    ends (handle ∷ moves) w k h c low = at w.own refl (λ x j hx cx few. ends moves x j hx cx few)
      where
        at : (ms : List Msg) → w.own ≡ ms → ((x : Working) (j : ℕ) → Holds x → InChain reading x j → j ≤ handled moves → (goes_on sealed reading moves x).own ≡ []) → (goes_on sealed reading moves (handles_first sealed reading w w.own)).own ≡ []
        at [] own more = subst (λ (ms : List Msg). (goes_on sealed reading moves (handles_first sealed reading w ms)).own ≡ []) (sym own) (rests moves w own)
        at (m ∷ rest) own more =
            let less = own_falls w m rest k h own c in
            subst (λ (ms : List Msg). (goes_on sealed reading moves (handles_first sealed reading w ms)).own ≡ []) (sym own)
            (more (handles sealed (record w { own = rest }) reading (event.Deliver m)) less.j (own_step w m rest h own) less.chain (lower less.j k (handled moves) less.less low))

-- ---- what an OSD can reach

may_outside : (w : Working) (h : Holds w) (happens : Event) → IsOutside w.osd.started.node happens → MayCome w h happens
may_outside w h (event.Deliver m) outside = λ same. absurd (differ (m.from.0) (w.osd.started.node.0) outside same)
  where
    differ : (a b : ℕ) → (a == b) ≡ false → a ≡ b → ⊥
    differ a b is same = grind (arith, nat_tests)
may_outside w h event.Wake outside = tt
may_outside w h (event.Call call) outside = tt

rows_rise : (records : List Record) (folded : Folded) → Rises (row_files folded.files) → Rises (row_files (fold folded_after folded records).files)
rows_rise [] folded rises = rises
rows_rise (r ∷ rs) folded rises = rows_rise rs (folded_after folded r) (rows_after_rise folded.files r (file_of r) rises)

of_files : (awake : Awake) (rows : List FileRow) → files_of (map (file_from awake) rows) ≡ row_files rows
of_files awake [] = refl
of_files awake (r ∷ rs) = ap (λ (others : List FileId). r.file ∷ others) (of_files awake rs)

-- the head of a row isn't of a later epoch than the promised one
head_stands : (head : FileHead) → FitsHead head → HeadStands head
head_stands head fits = up_to head.stamp.epoch head.promised fits.kept
  where
    up_to : (a b : Epoch) → is_at_most a b ≡ true → is_earlier b a ≡ false
    up_to a b is = grind (arith, nat_tests)

start_holds : (records : List Record) (silent : Silent) → FitsKept records → silent.node.0 < 2 ^ 32 → silent.boot.0 < 2 ^ 62 → AreTimes silent.times.lease silent.times.drift → silent.start < 2 ^ 62
    → Holds (record { osd = osd_from silent (fold_of records).files; kept = records ++ kept.Boot silent.boot ∷ []; own = [] })
unfolding fold_of
start_holds records silent fits who number times bound =
    let kept = kept_so records fits in
    let start = keeping.started records silent kept who number times bound in
    record {
      kept = start.0;
      runs = start.1;
      rises = subst Rises (sym (of_files (awake_as silent) (fold_of records).files)) (rows_rise records nothing_kept tt);
      stands = λ f has.
          let from = has_map (file_from (awake_as silent)) (fold_of records).files f has in
          subst (FileStands silent.node) (sym from.2)
          (record { head = head_stands from.0.head (each_of RowIs (fold_of records).files from.0 kept.rows from.1).stands; tenure = tt; ids = new_is (IsApart silent.node) (awake_as silent) from.0; seats = tt; few = omega arith });
      own = λ m has. absurd has;
    }

holds_all : (sealed : Capability → Bool) (w : Working) → Reaches sealed w → Holds w
holds_all sealed _ (starts records silent fits who number times bound) = start_holds records silent fits who number times bound
holds_all sealed _ (meets w reading happens before none clock fits outside) =
    let h = holds_all sealed w before in
    step_holds sealed w h reading happens clock fits (may_outside w h happens outside) (inl none)
holds_all sealed _ (tells_itself w reading m rest before own clock) = own_step sealed reading clock w m rest (holds_all sealed w before) own
holds_all sealed _ (forgets w before) = forgotten_holds w (holds_all sealed w before)

-- ---- an event from outside

few_busy : (fs : List FileState) → count_busy fs ≤ length fs
few_busy [] = omega arith
few_busy (f ∷ fs) = let rest = few_busy fs in let here = one (starting.is_busy f.lease) in omega (arith, rest, here)
  where
    one : (b : Bool) → one_if b ≤ 1
    one true = omega arith
    one false = omega arith

is_outside : (n : NodeId) (happens : Event) → IsOutside n happens → starting.IsOutside n happens
is_outside n (event.Deliver m) is = is
is_outside n event.Wake is = tt
is_outside n (event.Call call) is = tt

pub all_end : (sealed : Capability → Bool) (w : Working) (reading : ℕ) (happens : Event) → Reaches sealed w → w.own ≡ [] → reading < 2 ^ 62 → FitsEvent happens → IsOutside w.osd.started.node happens
    → AreEnough sealed reading (1 + OWN * length (handles sealed w reading happens).osd.files) (handles sealed w reading happens)
all_end sealed w reading happens reaches none clock fits outside moves low = at (is_silent w.osd.started (max reading w.osd.last)) refl
  where
    h : Holds w
    h = holds_all sealed w reaches

    may : MayCome w h happens
    may = may_outside w h happens outside

    then : Working
    then = handles sealed w reading happens

    holds_then : Holds (handles sealed w reading happens)
    holds_then = step_holds sealed w h reading happens clock fits may (inl none)

    at : (b : Bool) → is_silent w.osd.started (max reading w.osd.last) ≡ b → (goes_on sealed reading moves (handles sealed w reading happens)).own ≡ []
    at true silent =
        rests sealed reading moves then
        (ap (λ (ms : List Msg). ms ++ to_itself w.osd.started.node (step_of_osd (outside_by sealed w.kept) w.osd reading happens).turned.outs) none
        ∙ ap (to_itself w.osd.started.node) (silent_is (outside_by sealed w.kept) w.osd reading happens silent))
    at false awake =
        ends sealed reading clock moves then (1 + OWN * length then.osd.files) holds_then (in_chain awake) low
      where
        within : Holds (woken_to sealed reading w happens) → InChain reading (woken_to sealed reading w happens) (1 + OWN * length (woken_to sealed reading w happens).osd.files)
        within later =
            let here = awake_as w.osd.started in
            let files = (woken_to sealed reading w happens).osd.files in
            let chain = event_starts (outside_by sealed w.kept) w.osd (max reading w.osd.last) (all_hold w h) (all_stand w h) h.rises happens (arrives w h happens fits may) (is_outside w.osd.started.node happens outside)
            (record { all_stand = all_stand (woken_to sealed reading w happens) later; all_rise = later.rises }) in
            record {
              awake = ap (is_silent w.osd.started) (still_awake reading w.osd.last) ∙ awake;
              chain = subst (λ (ms : List Msg). Chain here w.osd.started.node files (ms ++ to_itself w.osd.started.node (awake_step (outside_by sealed w.kept) w.osd reading happens).turned.outs) (1 + OWN * length files)) (sym none)
                  (loosen here w.osd.started.node files (to_itself w.osd.started.node (awake_step (outside_by sealed w.kept) w.osd reading happens).turned.outs) (room_of happens + OWN * count_busy files) (1 + OWN * length files) (most files happens) chain);
            }
          where
            most : (files : List FileState) (happens : Event) → room_of happens + OWN * count_busy files ≤ 1 + OWN * length files
            most files event.Wake = (let few = few_busy files in omega (arith, few))
            most files (event.Deliver m) = (let few = few_busy files in omega (arith, few))
            most files (event.Call call) = (let few = few_busy files in omega (arith, few))

        in_chain : is_silent w.osd.started (max reading w.osd.last) ≡ false → InChain reading (handles sealed w reading happens) (1 + OWN * length (handles sealed w reading happens).osd.files)
        in_chain awake = subst (λ (x : Working). InChain reading x (1 + OWN * length x.osd.files)) (sym (awake_so sealed reading w happens awake)) (within (subst Holds (awake_so sealed reading w happens awake) holds_then))
