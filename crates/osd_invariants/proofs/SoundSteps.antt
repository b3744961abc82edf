-- every step of a file keeps what holds of its state
use Rattle.std.proofs.Common.{◌≡◌, ℕ, refl, ap, sym, subst, ◌∙◌, List, [], ◌∷◌, ◌++◌, Bool, true, false}
use Rattle.std.specs.Prelude.{Option, Some, None, cond, not, ◌&&◌, ◌==◌, ◌+◌, nat_lt, nat_le, length, filter}
use Rattle.xt_base.specs.declared.ids.NodeId.{NodeId}
use Rattle.xt_base.specs.declared.ids.FileId.{FileId}
use Rattle.xt_base.specs.declared.ids.OpId.{OpId}
use Rattle.xt_base.specs.declared.ids.Epoch.{Epoch}
use Rattle.xt_base.specs.declared.ids.Stamp.{Stamp}
use Rattle.xt_base.specs.declared.ids.Boot.{Boot}
use Rattle.xt_base.specs.declared.ids.Ballot.{Ballot}
use Rattle.xt_base.specs.declared.ids.Lease.{Lease}
use Rattle.xt_messages.specs.declared.file.Kind.{Kind}
use Rattle.xt_messages.specs.declared.file.Kind.TheVariants as kind
use Rattle.xt_messages.specs.declared.file.Location.{Location}
use Rattle.xt_messages.specs.declared.file.Capability.{Capability}
use Rattle.xt_messages.specs.declared.file.FileHead.{FileHead}
use Rattle.xt_messages.specs.declared.file.ObjectVersion.{ObjectVersion}
use Rattle.xt_messages.specs.declared.file.Update.{Update}
use Rattle.xt_messages.specs.declared.file.Op.{Op}
use Rattle.xt_messages.specs.declared.reply.Reply.{Reply}
use Rattle.xt_messages.specs.declared.reply.Reply.TheVariants as reply
use Rattle.xt_messages.specs.declared.message.Payload.{Payload}
use Rattle.xt_messages.specs.declared.message.Payload.TheVariants as payload
use Rattle.xt_messages.specs.declared.record.Record.{Record}
use Rattle.xt_messages.specs.declared.record.Record.TheVariants as kept
use Rattle.xt_messages.specs.declared.record.FileRow.{FileRow}
use Rattle.xt_base.specs.declared.TheConstants.{COUNTS}
use Rattle.xt_protocol.specs.Heads.{head_after}
use Rattle.xt_protocol.specs.Folds.{body_of}
use Rattle.xt_protocol.specs.Register.{Round, same_ballot, lease_of, on_promise}
use Rattle.xt_protocol.specs.LeaseRows.{Awake, LeaseState, LeaseStep, LeaseNews, Proposer, Held, free, asking, writing, held, sends_write, holds, finds, ends, lease_expired, has_run_out, has_turn, round_over, renewal_left, on_answer, can_ask, is_renewal_due, round_starts, Asked, asked_still, asked_write, asked_found, Written, written_still, written_won, written_late, Renewal, no_news, renewal_write, renewed, step_of_asking, step_of_written, news_of_targets, news_of_renewal, answer_asking, asking_promised, answer_writing, writing_accepted, on_renewal, outrun_learnt}
use Rattle.xt_protocol.specs.LeaseRows as lease
use Rattle.xt_protocol.specs.declared.turned.Turned.{Turned}
use Rattle.xt_protocol.specs.declared.states.Acted.{Acted}
use Rattle.xt_protocol.specs.declared.states.Asks.{Asks}
use Rattle.xt_protocol.specs.declared.states.IssuedAsk.{IssuedAsk}
use Rattle.xt_protocol.specs.declared.states.IssuedUpdate.{IssuedUpdate}
use Rattle.xt_protocol.specs.declared.states.Place.{Place}
use Rattle.xt_protocol.specs.declared.states.Progress.TheVariants as progress
use Rattle.xt_protocol.specs.declared.states.WaitingAsk.{WaitingAsk}
use Rattle.xt_protocol.specs.declared.states.Tenure.{Tenure}
use Rattle.xt_protocol.specs.Stamps.{is_epoch, is_earlier, is_below, has_version}
use Rattle.xt_protocol.specs.Turns.{quiet, keeps}
use Rattle.xt_protocol.specs.ReplicaRows.{kept_after, gathered, staged, headed, updated, as_promised, head_offered, head_taken, update_offered, first_missing, head_fits, stage_record}
use Rattle.xt_protocol.specs.Primaries.{Ground, Led, is_ready, is_active, issued_by, if_any}
use Rattle.xt_protocol.specs.PrimaryRows.{draw_epoch, epoch_above, hears, hears_in, hears_epoch, message_epoch}
use Rattle.xt_protocol.specs.Serving.{wakes}
use Rattle.xt_protocol.specs.Asks.{Served, asks_follow, serves, waits, asked_already, WAITING}
use Rattle.xt_protocol.specs.FileStates.{FileState, Site, FileStep, steps_to, serves_to, ground_of, members_of, file_from}
use Rattle.xt_protocol.specs.Overdue.{expired, lease_became, deadlines_under, issued_due, is_due, no_lease_for_all}
use Rattle.xt_protocol.specs.AskRows.{handle_ask, ask_let_in, ask_rows, ask_under, ask_without_lease, ask_waits, serve_ask, round_for, refusal_of, elsewhere, view_record, waiting_ask}
use Rattle.xt_protocol.specs.StripedRows.{handle_striped}
use Rattle.xt_protocol.specs.FileLeases.{read_comes, write_comes, answer_comes, end_after_answer, lease_news, led_on, answer_waiting}
use Rattle.xt_protocol.specs.FileSteps.{step_of_file, message_comes, ask_comes, primary_hears, replica_acts, renews, wakes_under_lease, wake_of_file}
use Rattle.osd_invariants.specs.Sound.{IsHeld, LedUnder, AreOne, WaitsUnder, IsStored, ListUnder, PeersAre, IsSound}
use Rattle.osd_invariants.proofs.Kept.{served_none, wake_keeps}
use Rattle.osd_invariants.proofs.StripedAsks.{striped_outcome}
use Rattle.osd_invariants.proofs.Leads.{KeepsList, drawn_leads, epoch_leads}
use Rattle.osd_invariants.proofs.Served.{Fits, Followed, inactive, back_fits, follow_fits, serves_fits, false_true}

-- ---- parts

led_if : (l : LeaseState) (o : Option Tenure) → IsHeld l → LedUnder l o
led_if l None is = tt
led_if l (Some t) is = is

waits_if : (l : LeaseState) (w : List WaitingAsk) → IsHeld l → WaitsUnder l w
waits_if (held h) w is = tt
waits_if (free p) w is = absurd is
waits_if (asking r) w is = tt
waits_if (writing r) w is = tt

none_wait : (l : LeaseState) → WaitsUnder l []
none_wait (free p) = refl
none_wait (asking r) = tt
none_wait (writing r) = tt
none_wait (held h) = tt

list_if : (l : LeaseState) (location : Option Location) → IsStored location → ListUnder l location
list_if (free p) location is = tt
list_if (asking r) location is = is
list_if (writing r) location is = is
list_if (held h) location is = is

-- without a lease there is no tenure
unled : (l m : LeaseState) (o : Option Tenure) → (IsHeld l → ⊥) → LedUnder l o → LedUnder m o
unled l m None no_lease led = tt
unled l m (Some t) no_lease led = absurd (no_lease led)

unled_ready : (l : LeaseState) (o : Option Tenure) → (IsHeld l → ⊥) → LedUnder l o → is_ready o ≡ false
unled_ready l None no_lease led = refl
unled_ready l (Some t) no_lease led = absurd (no_lease led)

unled_issued : (l : LeaseState) (o : Option Tenure) → (IsHeld l → ⊥) → LedUnder l o → AreOne (issued_by o) None
unled_issued l None no_lease led = tt
unled_issued l (Some t) no_lease led = absurd (no_lease led)

not_so : {P : Type 0} (b : Bool) → b ≡ false → b ≡ true → P
not_so b no_b yes_b = absurd (false_true (sym no_b ∙ yes_b))

-- a file of which something else changes
packed : (s t : FileState) → s.lease ≡ t.lease → s.kept.location ≡ t.kept.location → s.primary.tenure ≡ t.primary.tenure → s.asks ≡ t.asks → IsSound s → IsSound t
packed s t l k p a q =
    record {
      led = subst (λ (l : LeaseState). LedUnder l t.primary.tenure) l (subst (λ (o : Option Tenure). LedUnder s.lease o) p q.led);
      issued = subst (λ (a : Asks). AreOne (issued_by t.primary.tenure) a.issued) a (subst (λ (o : Option Tenure). AreOne (issued_by o) s.asks.issued) p q.issued);
      waits = subst (λ (l : LeaseState). WaitsUnder l t.asks.waiting) l (subst (λ (a : Asks). WaitsUnder s.lease a.waiting) a q.waits);
      list = subst (λ (l : LeaseState). ListUnder l t.kept.location) l (subst (λ (k : Option Location). ListUnder s.lease k) k q.list);
      peers = subst (λ (k : Option Location). PeersAre (members_of k) t.primary.tenure) k (subst (λ (o : Option Tenure). PeersAre (members_of s.kept.location) o) p q.peers);
      ready = λ r. ap (λ (a : Asks). a.waiting) (sym a) ∙ q.ready (ap is_ready p ∙ r);
    }

kept_so : (s : FileState) (turned : Turned) → KeepsList turned.rec → IsSound s → IsSound (steps_to s turned).state
kept_so s turned same q = packed s (steps_to s turned).state refl (sym (same s.kept)) refl refl q

-- other asks
asked_so : (s : FileState) (asks : Asks) → asks.issued ≡ s.asks.issued → WaitsUnder s.lease asks.waiting → (is_ready s.primary.tenure ≡ true → asks.waiting ≡ [])
    → IsSound s → IsSound (record s { asks = asks })
asked_so s asks issued waiting ready q =
    record { led = q.led; issued = subst (λ a. AreOne (issued_by s.primary.tenure) a) (sym issued) q.issued; waits = waiting; list = q.list; peers = q.peers; ready = ready }

either : (b : Bool) (x y : FileStep) → IsSound x.state → IsSound y.state → IsSound (cond b x y).state
either true x y p q = p
either false x y p q = q

-- ---- overdue

due_one : (i : Option IssuedUpdate) (a : Option IssuedAsk) (now : ℕ) → AreOne i a → AreOne i (issued_due now a)
due_one i None now one = one
due_one None (Some a) now one = one
due_one (Some u) (Some a) now one = one

left_waits : (l : LeaseState) (w : List WaitingAsk) (keep : WaitingAsk → Bool) → WaitsUnder l w → WaitsUnder l (filter keep w)
left_waits (free p) w keep q = ap (filter keep) q
left_waits (asking r) w keep q = tt
left_waits (writing r) w keep q = tt
left_waits (held h) w keep q = tt

deadlines_so : (site : Site) (s : FileState) (o : Option Tenure) → IsSound s → IsSound (deadlines_under site s o).state
deadlines_so site s None q = q
deadlines_so site s (Some t) q =
    record {
      led = q.led;
      issued = due_one (issued_by s.primary.tenure) s.asks.issued site.now q.issued;
      waits = left_waits s.lease s.asks.waiting (λ w. not (is_due site.now w)) q.waits;
      list = q.list;
      peers = q.peers;
      ready = λ r. ap (filter (λ w. not (is_due site.now w))) (q.ready r);
    }

-- a round that ran out
ran_out : (site : Site) (s : FileState) (l : LeaseState) (p : Proposer) → (IsHeld l → ⊥) → IsSound (record s { lease = l })
    → IsSound (no_lease_for_all site (record s { lease = free p })).state
ran_out site s l p no_lease q =
    record {
      led = unled l (free p) s.primary.tenure no_lease q.led;
      issued = unled_issued l s.primary.tenure no_lease q.led;
      waits = refl;
      list = tt;
      peers = q.peers;
      ready = λ r. refl;
    }

became_so : (site : Site) (s : FileState) (l : LeaseState) → IsSound (record s { lease = l })
    → IsSound (lease_became site (record s { lease = lease_expired l site.now }) l (lease_expired l site.now)).state
became_so site s (free p) q = deadlines_so site (record s { lease = free p }) s.primary.tenure q
became_so site s (asking r) q = one_of (has_run_out r site.now)
  where
    one_of : (b : Bool) → IsSound (lease_became site (record s { lease = cond b (free (round_over r)) (asking r) }) (asking r) (cond b (free (round_over r)) (asking r))).state
    one_of true = ran_out site s (asking r) (round_over r) (λ is. is) q
    one_of false = deadlines_so site (record s { lease = asking r }) s.primary.tenure q
became_so site s (writing r) q = one_of (has_run_out r site.now)
  where
    one_of : (b : Bool) → IsSound (lease_became site (record s { lease = cond b (free (round_over r)) (writing r) }) (writing r) (cond b (free (round_over r)) (writing r))).state
    one_of true = ran_out site s (writing r) (round_over r) (λ is. is) q
    one_of false = deadlines_so site (record s { lease = writing r }) s.primary.tenure q
became_so site s (held h) q = one_of (has_turn h site.now)
  where
    later : Held
    later = record h { renewal = renewal_left h.renewal site.now }

    one_of : (b : Bool) → IsSound (lease_became site (record s { lease = cond b (held later) (free h.proposer) }) (held h) (cond b (held later) (free h.proposer))).state
    one_of true =
        deadlines_so site (record s { lease = held later }) s.primary.tenure
        (record { led = led_if (held later) s.primary.tenure tt; issued = q.issued; waits = tt; list = q.list; peers = q.peers; ready = q.ready })
    one_of false = record { led = tt; issued = tt; waits = refl; list = tt; peers = tt; ready = λ r. refl }

pub expired_so : (site : Site) (s : FileState) → IsSound s → IsSound (expired site s).state
unfolding expired
expired_so site s q = became_so site s s.lease q

-- ---- asks

waits_issued : (asks : Asks) (ask : WaitingAsk) → (waits asks ask).issued ≡ asks.issued
waits_issued asks ask = one_of (nat_lt (length asks.waiting) WAITING)
  where
    one_of : (b : Bool) → (cond b (record asks { waiting = asks.waiting ++ ask ∷ [] }) asks).issued ≡ asks.issued
    one_of true = refl
    one_of false = refl

-- a primary and asks that fit, while the lease is held
served_so : (s : FileState) (served : Served) → IsHeld s.lease → Followed (members_of s.kept.location) served → IsSound s → IsSound (serves_to s served).state
served_so s served is f q =
    kept_so (record s { primary = served.primary; asks = served.asks }) served.turned f.rec
    (record {
      led = led_if s.lease served.primary.tenure is;
      issued = f.fits.one;
      waits = waits_if s.lease served.asks.waiting is;
      list = q.list;
      peers = f.fits.peers;
      ready = f.fits.ready;
    })

fits_of : (s : FileState) → IsSound s → Fits (members_of s.kept.location) s.primary.tenure s.asks
fits_of s q = record { one = q.issued; peers = q.peers; ready = q.ready }

none_keeps : (rec : Option Record) → rec ≡ None → KeepsList rec
none_keeps rec none row = ap (λ r. (kept_after row r).location) none

-- served by an active primary
active_has : {P : Type 0} (o : Option Tenure) → is_active o ≡ true → ((t : Tenure) → o ≡ Some t → P) → P
active_has None a then = absurd (false_true a)
active_has (Some t) a then = then t refl

served_ask : (site : Site) (s : FileState) (ask : WaitingAsk) → IsHeld s.lease → is_active s.primary.tenure ≡ true → IsSound s → IsSound (serve_ask site s ask).state
served_ask site s ask is active q =
    let g = ground_of site s in
    let before : Served = record { primary = s.primary; asks = s.asks; turned = quiet } in
    let left = waits s.asks ask in
    active_has s.primary.tenure active (λ t has. served_so s (serves g before ask left) is
    (record {
      rec = none_keeps (serves g before ask left).turned.rec (served_none g before ask left refl);
      fits = serves_fits (members_of s.kept.location) g before t ask left has (fits_of s q) (waits_issued s.asks ask);
    }) q)

unserved : (s : FileState) (ask : WaitingAsk) → WaitsUnder s.lease (waits s.asks ask).waiting → is_ready s.primary.tenure ≡ false → IsSound s → IsSound (ask_waits s ask).state
unserved s ask waiting unready q = asked_so s (waits s.asks ask) (waits_issued s.asks ask) waiting (λ r. not_so (is_ready s.primary.tenure) unready r) q

round_so : (site : Site) (s : FileState) (p : Proposer) (ask : WaitingAsk) → s.lease ≡ free p → IsStored s.kept.location → IsSound s → IsSound (round_for site s p ask).state
round_so site s p ask is stored q =
    let led = subst (λ (l : LeaseState). LedUnder l s.primary.tenure) is q.led in
    either (can_ask p) _ _
    (record {
      led = unled (free p) (asking (round_starts p site.now (members_of s.kept.location))) s.primary.tenure (λ x. x) led;
      issued = subst (λ a. AreOne (issued_by s.primary.tenure) a) (sym (waits_issued s.asks ask)) q.issued;
      waits = tt;
      list = stored;
      peers = q.peers;
      ready = λ r. not_so (is_ready s.primary.tenure) (unled_ready (free p) s.primary.tenure (λ x. x) led) r;
    })
    q

without_so : (site : Site) (s : FileState) (p : Proposer) (ask : WaitingAsk) (answer : Option Reply) → s.lease ≡ free p → IsStored s.kept.location → IsSound s
    → IsSound (ask_without_lease site s p ask answer).state
without_so site s p ask (Some answer) is stored q = q
without_so site s p ask None is stored q = round_so site s p ask is stored q

by_test : (P : FileStep → Type 0) (b : Bool) (x y : FileStep) → (b ≡ true → P x) → (b ≡ false → P y) → P (cond b x y)
by_test P true x y p q = p refl
by_test P false x y p q = q refl

under_so : (site : Site) (s : FileState) (l : LeaseState) (ask : WaitingAsk) → s.lease ≡ l → IsStored s.kept.location → IsSound s → IsSound (ask_under site s l ask).state
under_so site s (held h) ask is stored q =
    let has : IsHeld s.lease = subst IsHeld (sym is) tt in
    by_test (λ step. IsSound step.state) (is_active s.primary.tenure) (serve_ask site s ask) (ask_waits s ask) (λ active. served_ask site s ask has active q)
    (λ no_more. unserved s ask (waits_if s.lease (waits s.asks ask).waiting has) (inactive s.primary.tenure no_more).unready q)
under_so site s (asking r) ask is stored q =
    unserved s ask (subst (λ (l : LeaseState). WaitsUnder l (waits s.asks ask).waiting) (sym is) tt)
    (unled_ready (asking r) s.primary.tenure (λ x. x) (subst (λ (l : LeaseState). LedUnder l s.primary.tenure) is q.led)) q
under_so site s (writing r) ask is stored q =
    unserved s ask (subst (λ (l : LeaseState). WaitsUnder l (waits s.asks ask).waiting) (sym is) tt)
    (unled_ready (writing r) s.primary.tenure (λ x. x) (subst (λ (l : LeaseState). LedUnder l s.primary.tenure) is q.led)) q
under_so site s (free p) ask is stored q = without_so site s p ask (elsewhere site s.acceptor.accepted) is stored q

rows_so : (site : Site) (s : FileState) (ask : WaitingAsk) → IsStored s.kept.location → IsSound s → IsSound (ask_rows site s ask).state
rows_so site s ask stored q = either (asked_already s.asks ask.id) _ _ q (under_so site s s.lease ask refl stored q)

-- a list is stored
unlisted : (members : List NodeId) (l : LeaseState) (o : Option Tenure) → ListUnder l None → LedUnder l o → PeersAre members o
unlisted members l None list led = tt
unlisted members (held h) (Some t) list led = absurd list
unlisted members (free p) (Some t) list led = absurd led
unlisted members (asking r) (Some t) list led = absurd led
unlisted members (writing r) (Some t) list led = absurd led

record IsListed (s : FileState) : Type 0 where
  sound : IsSound s
  stored : IsStored s.kept.location

viewed : (s : FileState) (location : Location) (used : ℕ) (stored : Option Location) → s.kept.location ≡ stored → IsSound s
    → IsListed (steps_to (record s { used = used }) (keeps (view_record s location stored))).state
viewed s location used None is q =
    record {
      sound = record {
        led = q.led;
        issued = q.issued;
        waits = q.waits;
        list = list_if s.lease (Some location) tt;
        peers = unlisted location.members s.lease s.primary.tenure (subst (λ (k : Option Location). ListUnder s.lease k) is q.list) q.led;
        ready = q.ready;
      };
      stored = tt;
    }
viewed s location used (Some stored) is q =
    record { sound = record { led = q.led; issued = q.issued; waits = q.waits; list = q.list; peers = q.peers; ready = q.ready }; stored = subst IsStored (sym is) tt }

let_in_so : (site : Site) (s : FileState) (id : OpId) (capability : Capability) (asked : Op) (refusal : Option Reply) → IsSound s
    → IsSound (ask_let_in site s id capability asked refusal).state
let_in_so site s id capability asked (Some answer) q = q
let_in_so site s id capability asked None q =
    let v = viewed s capability.location site.now s.kept.location refl q in
    rows_so site (steps_to (record s { used = site.now }) (keeps (view_record s capability.location s.kept.location))).state
    (waiting_ask site id capability.epoch asked) v.stored v.sound

-- an ask on a striped file leaves the stored list
striped_keeps : (site : Site) (row : FileRow) (id : OpId) (capability : Capability) (asked : Op) → KeepsList (handle_striped site row id capability asked).rec
striped_keeps site row id capability asked =
    striped_outcome (λ (acted : Acted). KeepsList acted.rec) site row id capability asked
    (record { nothing = λ r. refl; tells = λ answer r. refl; keeps = λ update is r. refl })

kind_so : (site : Site) (s : FileState) (k : Kind) (id : OpId) (capability : Capability) (asked : Op) → IsSound s → IsSound (ask_comes site s k id capability asked).state
unfolding handle_ask
kind_so site s kind.Replicated id capability asked q = let_in_so site s id capability asked (refusal_of site s.kept.location capability asked) q
kind_so site s kind.Striped id capability asked q =
    let acted = handle_striped site s.kept id capability asked in
    kept_so s (record { rec = acted.rec; outs = if_any site.node id.client acted.answer; marks = [] }) (striped_keeps site s.kept id capability asked) q

-- ---- the lease

-- how the lease goes on
record GoesOn (l m : LeaseState) : Type 0 where
  led : IsHeld l → IsHeld m
  waits : (w : List WaitingAsk) → WaitsUnder l w → WaitsUnder m w
  list : (k : Option Location) → ListUnder l k → ListUnder m k

record Wins (l m : LeaseState) : Type 0 where
  held_now : IsHeld m
  list : (k : Option Location) → ListUnder l k → ListUnder m k

record IsOver (l m : LeaseState) : Type 0 where
  unheld : IsHeld l → ⊥
  list : (k : Option Location) → ListUnder m k

abbrev NewsFit : LeaseState → LeaseState → LeaseNews → Type 0
NewsFit l m lease.nothing = GoesOn l m
NewsFit l m (sends_write ballot x targets) = GoesOn l m
NewsFit l m (holds end) = Wins l m
NewsFit l m (finds x) = IsOver l m
NewsFit l m ends = IsOver l m

abbrev StepFit : LeaseState → LeaseStep → Type 0
StepFit l step = NewsFit l step.state step.news

either_fit : (l : LeaseState) (b : Bool) (x y : LeaseStep) → StepFit l x → StepFit l y → StepFit l (cond b x y)
either_fit l true x y p q = p
either_fit l false x y p q = q

asked_fit : (r : Round) (ballot : Ballot) (x : Lease) (a : Asked) → StepFit (asking r) (step_of_asking ballot x a)
asked_fit r ballot x (asked_still q) = record { led = λ i. i; waits = λ w i. i; list = λ k i. i }
asked_fit r ballot x (asked_write q targets) = record { led = λ i. i; waits = λ w i. i; list = λ k i. i }
asked_fit r ballot x (asked_found p found) = record { unheld = λ i. i; list = λ k. tt }

asking_fit : (r : Round) (now : ℕ) (from : NodeId) (content : Payload) → StepFit (asking r) (answer_asking r now from content)
asking_fit r now from (payload.Promise file ballot boot report) =
    either_fit (asking r) (same_ballot ballot r.ballot) _ _ (asked_fit r r.ballot (lease_of r) (asking_promised r now from boot report))
    (record { led = λ i. i; waits = λ w i. i; list = λ k i. i })
asking_fit r now from (payload.Outrun file ballot seen) =
    either_fit (asking r) (same_ballot ballot r.ballot) _ _ (record { unheld = λ i. i; list = λ k. tt }) (record { led = λ i. i; waits = λ w i. i; list = λ k i. i })
asking_fit r now from _ = record { led = λ i. i; waits = λ w i. i; list = λ k i. i }

written_fit : (r : Round) (w : Written) → StepFit (writing r) (step_of_written w)
written_fit r (written_still q) = record { led = λ i. i; waits = λ w i. i; list = λ k i. i }
written_fit r (written_won h) = record { held_now = tt; list = λ k i. i }
written_fit r (written_late p) = record { unheld = λ i. i; list = λ k. tt }

targets_fit : (r q : Round) (ballot : Ballot) (x : Lease) (targets : Option (List (NodeId × Boot))) → NewsFit (writing r) (writing q) (news_of_targets ballot x targets)
targets_fit r q ballot x None = record { led = λ i. i; waits = λ w i. i; list = λ k i. i }
targets_fit r q ballot x (Some targets) = record { led = λ i. i; waits = λ w i. i; list = λ k i. i }

writing_fit : (r : Round) (now : ℕ) (from : NodeId) (content : Payload) → StepFit (writing r) (answer_writing r now from content)
writing_fit r now from (payload.Promise file ballot boot report) =
    either_fit (writing r) (same_ballot ballot r.ballot) _ _ (targets_fit r (on_promise r now from boot report).round r.ballot (lease_of r) (lease.targets_of (on_promise r now from boot report).took))
    (record { led = λ i. i; waits = λ w i. i; list = λ k i. i })
writing_fit r now from (payload.Accepted file ballot boot) =
    either_fit (writing r) (same_ballot ballot r.ballot) _ _ (written_fit r (writing_accepted r now from boot)) (record { led = λ i. i; waits = λ w i. i; list = λ k i. i })
writing_fit r now from (payload.Outrun file ballot seen) =
    either_fit (writing r) (same_ballot ballot r.ballot) _ _ (record { unheld = λ i. i; list = λ k. tt }) (record { led = λ i. i; waits = λ w i. i; list = λ k i. i })
writing_fit r now from _ = record { led = λ i. i; waits = λ w i. i; list = λ k i. i }

renewal_fit : (h k : Held) (o : Option Round) (n : Renewal) → NewsFit (held h) (held k) (news_of_renewal o n)
renewal_fit h k None n = record { led = λ i. i; waits = λ w i. i; list = λ x i. i }
renewal_fit h k (Some r) no_news = record { led = λ i. i; waits = λ w i. i; list = λ x i. i }
renewal_fit h k (Some r) (renewal_write targets) = record { led = λ i. i; waits = λ w i. i; list = λ x i. i }
renewal_fit h k (Some r) (renewed end) = record { held_now = tt; list = λ x i. i }

answer_fit : (l : LeaseState) (now : ℕ) (from : NodeId) (content : Payload) → StepFit l (on_answer l now from content)
answer_fit (free p) now from content = record { led = λ i. i; waits = λ w i. i; list = λ k i. i }
answer_fit (asking r) now from content = asking_fit r now from content
answer_fit (writing r) now from content = writing_fit r now from content
answer_fit (held h) now from content = renewal_fit h (on_renewal h now from content).held h.renewal (on_renewal h now from content).renewal

goes_led : (l m : LeaseState) (o : Option Tenure) → (IsHeld l → IsHeld m) → LedUnder l o → LedUnder m o
goes_led l m None f led = tt
goes_led l m (Some t) f led = f led

goes_on : (s : FileState) (l : LeaseState) → IsSound (record s { lease = l }) → GoesOn l s.lease → IsSound s
goes_on s l q f =
    record { led = goes_led l s.lease s.primary.tenure f.led q.led; issued = q.issued; waits = f.waits s.asks.waiting q.waits; list = f.list s.kept.location q.list; peers = q.peers; ready = q.ready }

told_so : (site : Site) (s : FileState) (l : LeaseState) (answer : Reply) → IsSound (record s { lease = l }) → IsOver l s.lease → IsSound (answer_waiting site s answer).state
told_so site s l answer q f =
    record {
      led = unled l s.lease s.primary.tenure f.unheld q.led;
      issued = q.issued;
      waits = none_wait s.lease;
      list = f.list s.kept.location;
      peers = q.peers;
      ready = λ r. refl;
    }

drawn_inactive : (place : Place) (learnt : ℕ) (own : FileHead) (members : List NodeId) → is_active (draw_epoch place learnt own members).primary.tenure ≡ false
unfolding draw_epoch
drawn_inactive place learnt own members = one_of (nat_lt (epoch_above place learnt own).number COUNTS) _ _ refl refl
  where
    one_of : (b : Bool) (x y : Led) → is_active x.primary.tenure ≡ false → is_active y.primary.tenure ≡ false → is_active (cond b x y).primary.tenure ≡ false
    one_of true x y p q = p
    one_of false x y p q = q

none_asked : (a : Option IssuedAsk) → AreOne None a → a ≡ None
none_asked None one = refl
none_asked (Some a) one = absurd one

led_on_so : (site : Site) (s : FileState) (o : Option Tenure) → s.primary.tenure ≡ o → IsHeld s.lease → IsSound s → IsSound (led_on site s o).state
led_on_so site s (Some t) is has q = q
led_on_so site s None is has q =
    let members = members_of s.kept.location in
    let led = draw_epoch (ground_of site s).place s.primary.learnt s.kept.head members in
    let d = drawn_leads members progress.Gathering (ground_of site s).place s.primary.learnt s.kept.head members refl in
    let i = inactive led.primary.tenure (drawn_inactive (ground_of site s).place s.primary.learnt s.kept.head members) in
    kept_so (record s { primary = led.primary }) led.turned d.rec
    (record {
      led = led_if s.lease led.primary.tenure has;
      issued = subst (λ a. AreOne (issued_by led.primary.tenure) a)
          (sym (none_asked s.asks.issued (subst (λ (o : Option Tenure). AreOne (issued_by o) s.asks.issued) is q.issued))) i.free;
      waits = q.waits;
      list = q.list;
      peers = d.peers;
      ready = λ r. not_so (is_ready led.primary.tenure) i.unready r;
    })

news_so : (site : Site) (s : FileState) (l : LeaseState) (news : LeaseNews) → IsSound (record s { lease = l }) → NewsFit l s.lease news → IsSound (lease_news site s news).state
news_so site s l lease.nothing q f = goes_on s l q f
news_so site s l (sends_write ballot x targets) q f = goes_on s l q f
news_so site s l (holds end) q f =
    led_on_so site (record s { last_end = end }) s.primary.tenure refl f.held_now
    (record { led = led_if s.lease s.primary.tenure f.held_now; issued = q.issued; waits = waits_if s.lease s.asks.waiting f.held_now; list = f.list s.kept.location q.list; peers = q.peers; ready = q.ready })
news_so site s l (finds x) q f = either (x.node.0 == site.node.0) _ _ (told_so site s l (reply.NoLease s.last_end) q f) (told_so site s l (reply.Elsewhere x.node x.end) q f)
news_so site s l ends q f = told_so site s l (reply.NoLease s.last_end) q f

answer_so : (site : Site) (s : FileState) (from : NodeId) (content : Payload) → IsSound s → IsSound (answer_comes site s from content).state
unfolding answer_comes
answer_so site s from content q =
    let step = on_answer s.lease site.now from content in
    news_so site (record s { lease = step.state; last_end = end_after_answer site s from content }) s.lease step.news
    (record { led = q.led; issued = q.issued; waits = q.waits; list = q.list; peers = q.peers; ready = q.ready }) (answer_fit s.lease site.now from content)

-- ---- the replica and the primary

either_keeps : (b : Bool) (x y : Acted) → KeepsList x.rec → KeepsList y.rec → KeepsList (cond b x y).rec
either_keeps true x y p q = p
either_keeps false x y p q = q

promised_keeps : (file : FileId) (own : FileHead) (epoch : Epoch) (row : Acted) → KeepsList row.rec → KeepsList (as_promised file own epoch row).rec
promised_keeps file own epoch row p =
    either_keeps (is_earlier epoch own.promised) _ _ (λ r. refl) (either_keeps (is_earlier own.promised epoch) _ _ (λ r. refl) p)

gathered_keeps : (file : FileId) (own : FileHead) (epoch : Epoch) → KeepsList (gathered file own epoch).rec
unfolding gathered
gathered_keeps file own epoch =
    either_keeps (is_earlier epoch own.promised) _ _ (λ r. refl) (either_keeps (is_earlier own.promised epoch) _ _ (λ r. refl) (λ r. refl))

stage_keeps : (file : FileId) (here : List ObjectVersion) (object : ℕ) (version : Stamp) (bytes : List ℕ) → KeepsList (stage_record file here object version bytes)
stage_keeps file here object version bytes row = one_of (has_version here (body_of object version))
  where
    one_of : (b : Bool) → (kept_after row (cond b None (Some (kept.Stage file object version bytes)))).location ≡ row.location
    one_of true = refl
    one_of false = refl

staged_keeps : (file : FileId) (own : FileHead) (here : List ObjectVersion) (epoch : Epoch) (object : ℕ) (version : Stamp) (bytes : List ℕ)
    → KeepsList (staged file own here epoch object version bytes).rec
unfolding staged
staged_keeps file own here epoch object version bytes =
    promised_keeps file own epoch (record { rec = stage_record file here object version bytes; answer = Some (payload.Staged file epoch object version) })
    (stage_keeps file here object version bytes)

taken_keeps : (file : FileId) (epoch : Epoch) (head : FileHead) (lacks : Option ObjectVersion) → KeepsList (head_taken file epoch head lacks).rec
taken_keeps file epoch head None = λ r. refl
taken_keeps file epoch head (Some v) = λ r. refl

headed_keeps : (file : FileId) (own : FileHead) (here : List ObjectVersion) (epoch : Epoch) (head : FileHead) → KeepsList (headed file own here epoch head).rec
unfolding headed
headed_keeps file own here epoch head =
    either_keeps (is_epoch head.promised epoch && is_epoch head.stamp.epoch epoch) _ _
    (promised_keeps file own epoch (head_offered file own here epoch head)
    (either_keeps (is_below own.stamp head.stamp) _ _ (taken_keeps file epoch head (first_missing here head.versions)) (λ r. refl))) (λ r. refl)

updated_keeps : (file : FileId) (own : FileHead) (update : Update) → KeepsList (updated file own update).rec
unfolding updated
updated_keeps file own update =
    promised_keeps file own update.stamp.epoch (update_offered file own update)
    (either_keeps (not (is_epoch own.stamp.epoch update.stamp.epoch)) _ _ (λ r. refl)
    (either_keeps (nat_le update.stamp.count own.stamp.count) _ _ (λ r. refl)
    (either_keeps (update.stamp.count == own.stamp.count + 1) _ _
    (either_keeps (head_fits (head_after own update)) _ _ (λ r. refl) (λ r. refl)) (λ r. refl))))

acted_so : (site : Site) (s : FileState) (from : NodeId) (acted : Acted) → KeepsList acted.rec → IsSound s → IsSound (replica_acts site s from acted).state
acted_so site s from acted same q = kept_so s (record { rec = acted.rec; outs = if_any site.node from acted.answer; marks = [] }) same q

heard_fits : (members : List NodeId) (g : Ground) (learnt : ℕ) (o : Option Tenure) (asks : Asks) (from : NodeId) (content : Payload) → Fits members o asks
    → Followed members (asks_follow g o asks (hears_in g learnt o from content))
heard_fits members g learnt None asks from content f =
    record { rec = λ r. refl; fits = back_fits members None asks tt (inactive None refl) }
heard_fits members g learnt (Some t) asks from content f =
    follow_fits members g t asks (hears_epoch g learnt t from (message_epoch content) content) f (epoch_leads members g learnt t from (message_epoch content) content f.peers)

primary_so : (site : Site) (s : FileState) (l : LeaseState) (from : NodeId) (content : Payload) → s.lease ≡ l → IsSound s → IsSound (primary_hears site s l from content).state
unfolding hears
primary_so site s (held h) from content is q =
    let g = ground_of site s in
    served_so s (asks_follow g s.primary.tenure s.asks (hears_in g s.primary.learnt s.primary.tenure from content)) (subst IsHeld (sym is) tt)
    (heard_fits (members_of s.kept.location) g s.primary.learnt s.primary.tenure s.asks from content (fits_of s q)) q
primary_so site s (free p) from content is q = q
primary_so site s (asking r) from content is q = q
primary_so site s (writing r) from content is q = q

-- ---- messages and Wakes

message_so : (site : Site) (s : FileState) (from : NodeId) (content : Payload) → IsSound s → IsSound (message_comes site s from content).state
unfolding read_comes write_comes
message_so site s from (payload.Ask number capability asked) q = kind_so site s capability.location.kind (record { client = from; number = number }) capability asked q
message_so site s from (payload.Read file ballot) q = record { led = q.led; issued = q.issued; waits = q.waits; list = q.list; peers = q.peers; ready = q.ready }
message_so site s from (payload.Write file ballot boot l) q = record { led = q.led; issued = q.issued; waits = q.waits; list = q.list; peers = q.peers; ready = q.ready }
message_so site s from (payload.Promise file ballot boot report) q = answer_so site s from _ q
message_so site s from (payload.Accepted file ballot boot) q = answer_so site s from _ q
message_so site s from (payload.Outrun file ballot seen) q = answer_so site s from _ q
message_so site s from (payload.Gather file epoch) q = acted_so site s from (gathered s.kept.file s.kept.head epoch) (gathered_keeps s.kept.file s.kept.head epoch) q
message_so site s from (payload.Fetch file epoch object version) q = q
message_so site s from (payload.Stage file epoch object version bytes) q = acted_so site s from (staged s.kept.file s.kept.head s.kept.held epoch object version bytes) (staged_keeps s.kept.file s.kept.head s.kept.held epoch object version bytes) q
message_so site s from (payload.Head file epoch head) q = acted_so site s from (headed s.kept.file s.kept.head s.kept.held epoch head) (headed_keeps s.kept.file s.kept.head s.kept.held epoch head) q
message_so site s from (payload.Update file update) q = acted_so site s from (updated s.kept.file s.kept.head update) (updated_keeps s.kept.file s.kept.head update) q
message_so site s from content q = primary_so site s s.lease from content refl q

pub step_so : (site : Site) (s : FileState) (from : NodeId) (content : Payload) → IsSound s → IsSound (step_of_file site s from content).state
unfolding step_of_file
step_so site s from content q = message_so site (expired site s).state from content (expired_so site s q)

renews_so : (site : Site) (s : FileState) (h : Held) → IsStored s.kept.location → IsSound s → IsSound (renews site s h).state
renews_so site s h stored q =
    either (is_renewal_due h site.now s.used) _ _
    (record { led = led_if (held (lease.renewal_starts h site.now (members_of s.kept.location))) s.primary.tenure tt; issued = q.issued; waits = tt; list = stored; peers = q.peers; ready = q.ready })
    q

under_lease_so : (site : Site) (s : FileState) (l : LeaseState) → s.lease ≡ l → IsSound s → IsSound (wakes_under_lease site s l).state
under_lease_so site s (held h) is q =
    let woke = wakes (ground_of site s).place s.primary in
    let same = none_keeps woke.rec (wake_keeps (ground_of site s).place s.primary) in
    renews_so site (steps_to s woke).state h
    (subst IsStored (sym (same s.kept)) (subst (λ (l : LeaseState). ListUnder l s.kept.location) is q.list)) (kept_so s woke same q)
under_lease_so site s (free p) is q = q
under_lease_so site s (asking r) is q = q
under_lease_so site s (writing r) is q = q

pub wake_so : (site : Site) (s : FileState) → IsSound s → IsSound (wake_of_file site s).state
unfolding wake_of_file
wake_so site s q = under_lease_so site s s.lease refl q

pub start_so : (awake : Awake) (row : FileRow) → IsSound (file_from awake row)
start_so awake row = record { led = tt; issued = tt; waits = refl; list = tt; peers = tt; ready = λ r. refl }
