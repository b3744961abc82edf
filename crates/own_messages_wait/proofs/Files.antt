-- what holds of a file at its node, and what comes of what is overdue there
use Rattle.std.proofs.Common.{◌≡◌, ℕ, ◌≤◌, ◌+◌, ◌*◌, ◌⊎◌, inl, inr, Bool, true, false, List, [], ◌∷◌, ◌++◌, length, refl, sym, ap, ap₂, subst, ◌∙◌, arith, Option, Some, None, is_some, le_refl, le_trans}
use Rattle.std.specs.Prelude.{not, cond, filter}
use Rattle.std.proofs.lemmas.List.Sums.{length-filter, count_by-le-length}
use Rattle.xt_base.specs.declared.ids.NodeId.{NodeId}
use Rattle.xt_base.specs.declared.ids.FileId.{FileId}
use Rattle.xt_messages.specs.declared.message.Msg.{Msg}
use Rattle.xt_messages.specs.declared.message.Payload.{Payload}
use Rattle.xt_messages.specs.declared.message.Payload.TheVariants as payload
use Rattle.xt_messages.specs.declared.record.FileRow.{FileRow}
use Rattle.xt_messages.specs.declared.reply.Reply.{Reply}
use Rattle.xt_messages.specs.declared.reply.Reply.TheVariants as reply
use Rattle.xt_protocol.specs.LeaseRows.{LeaseState, running_round, free, asking, writing, held, Held, lease_expired, has_run_out, round_over, has_turn, renewal_left}
use Rattle.xt_protocol.specs.Register.{Round}
use Rattle.lease_safety.specs.State.{Has}
use Rattle.xt_protocol.specs.declared.states.Asks.{Asks}
use Rattle.xt_protocol.specs.declared.states.IssuedAsk.{IssuedAsk}
use Rattle.xt_protocol.specs.declared.states.Tenure.{Tenure}
use Rattle.xt_protocol.specs.declared.states.WaitingAsk.{WaitingAsk}
use Rattle.xt_protocol.specs.Turns.{reply_to}
use Rattle.xt_protocol.specs.Primaries.{have_in, majority_among, issued_by, issued_in}
use Rattle.xt_protocol.specs.Asks.{no_asks, tells_each, tells_untold, WAITING}
use Rattle.xt_protocol.specs.FileStates.{FileState, Site, FileStep, nothing}
use Rattle.xt_protocol.specs.Overdue.{is_due, issued_due, newly_due, no_lease_for_all, lease_lapses, deadlines_come, deadlines_under, lease_became, expired}
use Rattle.osd_invariants.specs.Sound.{IsHeld, AreOne}
use Rattle.xt_protocol.specs.declared.states.IssuedUpdate.{IssuedUpdate}
use Rattle.world_spec.specs.NodeSteps.{to_itself}
use Rattle.world_runs.proofs.Lists.{has_filter}
use Rattle.world_runs.proofs.FileIds.{FileIs, IssuedAskIs, expired_is}
use Rattle.own_messages_wait.proofs.Weights.{asks_left, epoch_left, rank, settles, stand_of, tenure_left}
use Rattle.own_messages_wait.proofs.Standing.{HeadStands, IfTenure}
use Rattle.own_messages_wait.proofs.Tests.{false_true}
use Rattle.own_messages_wait.proofs.Mine.{mine-append}
use Rattle.own_messages_wait.proofs.Rows.{one_if, three_if, four_if}
use Rattle.own_messages_wait.proofs.Hearing.{IsApart}
use Rattle.own_messages_wait.proofs.Serving.{reply_mine}
use Rattle.own_messages_wait.proofs.Leases.{IfSeated, IsFree}

-- What holds of a file at its node: the asks are those of other nodes, and few.
pub record FileStands (n : NodeId) (s : FileState) : Type 0 where
  pub head : HeadStands s.kept.head
  pub tenure : IfTenure n s.kept.head s.primary.tenure
  pub ids : FileIs (IsApart n) s
  pub seats : IfSeated (running_round s.lease)
  pub few : asks_left s.asks ≤ WAITING + 1

-- ---- the weight of the message of the primary, or of none

abbrev pub chain_weight : NodeId → FileState → Option Payload → ℕ
chain_weight n s None = tenure_left s.lease s.primary.tenure s.asks
chain_weight n s (Some content) = epoch_left s.kept s.primary.tenure + 2 * asks_left s.asks + rank (stand_of n s.kept s.primary.tenure) content

-- while there is such a message the lease is held with a tenure, or it has lapsed
abbrev pub IsLed : FileState → Type 0
IsLed s = IsFree s.lease ⊎ (IsHeld s.lease × (is_some s.primary.tenure ≡ true))

abbrev pub IfLed : Option Payload → FileState → Type 0
IfLed None s = Unit {0}
IfLed (Some content) s = IsLed s

-- then nothing is left without it
none_in : (l : LeaseState) (o : Option Tenure) (asks : Asks) → IsFree l ⊎ (IsHeld l × (is_some o ≡ true)) → tenure_left l o asks ≡ 0
none_in (free p) o asks led = refl
none_in (asking r) o asks (inl is) = absurd is
none_in (asking r) o asks (inr is) = absurd is.0
none_in (writing r) o asks (inl is) = absurd is
none_in (writing r) o asks (inr is) = absurd is.0
none_in (held h) None asks (inl is) = absurd is
none_in (held h) None asks (inr is) = absurd (false_true is.1)
none_in (held h) (Some t) asks led = refl

pub none_left : (s : FileState) → IsLed s → tenure_left s.lease s.primary.tenure s.asks ≡ 0
none_left s led = none_in s.lease s.primary.tenure s.asks led

-- less is left with fewer asks
left_less : (l m : LeaseState) (o : Option Tenure) (a b : Asks) → (IsFree l → IsFree m) → asks_left a ≤ asks_left b → tenure_left m o a ≤ tenure_left l o b
left_less l (free p) o a b f few = zero_le (tenure_left l o b)
  where
    zero_le : (k : ℕ) → 0 ≤ k
    zero_le k = omega arith
left_less (free p) (asking r) o a b f few = absurd (f tt)
left_less (free p) (writing r) o a b f few = absurd (f tt)
left_less (free p) (held h) o a b f few = absurd (f tt)
left_less (asking q) (asking r) None a b f few = omega (arith, few)
left_less (asking q) (writing r) None a b f few = omega (arith, few)
left_less (asking q) (held h) None a b f few = omega (arith, few)
left_less (writing q) (asking r) None a b f few = omega (arith, few)
left_less (writing q) (writing r) None a b f few = omega (arith, few)
left_less (writing q) (held h) None a b f few = omega (arith, few)
left_less (held q) (asking r) None a b f few = omega (arith, few)
left_less (held q) (writing r) None a b f few = omega (arith, few)
left_less (held q) (held h) None a b f few = omega (arith, few)
left_less (asking q) (asking r) (Some t) a b f few = le_refl 0
left_less (asking q) (writing r) (Some t) a b f few = le_refl 0
left_less (asking q) (held h) (Some t) a b f few = le_refl 0
left_less (writing q) (asking r) (Some t) a b f few = le_refl 0
left_less (writing q) (writing r) (Some t) a b f few = le_refl 0
left_less (writing q) (held h) (Some t) a b f few = le_refl 0
left_less (held q) (asking r) (Some t) a b f few = le_refl 0
left_less (held q) (writing r) (Some t) a b f few = le_refl 0
left_less (held q) (held h) (Some t) a b f few = le_refl 0

-- ---- a part of a step that leaves the messages of the primary as they are

pub record Settles (n : NodeId) (s : FileState) (step : FileStep) : Type 0 where
  pub kept : step.state.kept ≡ s.kept
  pub tenure : IfTenure n s.kept.head step.state.primary.tenure
  pub over : (step.state.primary.tenure ≡ s.primary.tenure) ⊎ (step.state.primary.tenure ≡ None)
  pub seats : IfSeated (running_round step.state.lease)
  pub few : asks_left step.state.asks ≤ asks_left s.asks
  pub lighter : (p : Option Payload) → IfLed p s → chain_weight n step.state p ≤ chain_weight n s p
  pub led : (p : Option Payload) → IfLed p s → IfLed p step.state

-- one that leaves the tenure
pub leaves : (n : NodeId) (s : FileState) (step : FileStep) → IfTenure n s.kept.head s.primary.tenure → step.state.kept ≡ s.kept → step.state.primary.tenure ≡ s.primary.tenure → IfSeated (running_round step.state.lease)
    → asks_left step.state.asks ≤ asks_left s.asks → (IsFree s.lease → IsFree step.state.lease) → (IsHeld s.lease → IsHeld step.state.lease) → Settles n s step
leaves n s step stands kept tenure seats few frees holds =
    record {
      kept = kept;
      tenure = subst (IfTenure n s.kept.head) (sym tenure) stands;
      over = inl tenure;
      seats = seats;
      few = few;
      lighter = lighter;
      led = led;
    }
  where
    lighter : (p : Option Payload) → IfLed p s → chain_weight n step.state p ≤ chain_weight n s p
    lighter None led = le_trans (left_less s.lease step.state.lease step.state.primary.tenure step.state.asks s.asks frees few) (same_left (ap (λ (o : Option Tenure). tenure_left s.lease o s.asks) tenure))
      where
        same_left : {a b : ℕ} → a ≡ b → a ≤ b
        same_left is = omega (arith, is)
    lighter (Some content) led =
        let same : epoch_left step.state.kept step.state.primary.tenure + rank (stand_of n step.state.kept step.state.primary.tenure) content ≡ epoch_left s.kept s.primary.tenure + rank (stand_of n s.kept s.primary.tenure) content
        = ap₂ (λ (k : FileRow) (o : Option Tenure). epoch_left k o + rank (stand_of n k o) content) kept tenure in
        omega (arith, same, few)

    led : (p : Option Payload) → IfLed p s → IfLed p step.state
    led None is = tt
    led (Some content) (inl is) = inl (frees is)
    led (Some content) (inr is) = inr (holds is.0, ap (λ (o : Option Tenure). is_some o) tenure ∙ is.1)

-- ---- what clients are answered

tell_mine : (n : NodeId) (file : FileId) (waiting : List WaitingAsk) (answer : Reply) → ((w : WaitingAsk) → Has w waiting → IsApart n w.id) → to_itself n (tells_each n file waiting answer) ≡ []
tell_mine n file [] answer apart = refl
tell_mine n file (w ∷ ws) answer apart =
    mine-append n (reply_to n file w.id answer ∷ []) (tells_each n file ws answer)
    ∙ ap₂ (λ (a b : List Msg). a ++ b) (reply_mine n w.id (payload.Reply w.id.number file answer) (apart w (inl refl))) (tell_mine n file ws answer (λ x h. apart x (inr h)))

pub tells_mine : (n : NodeId) (file : FileId) (waiting : List WaitingAsk) (answer : Reply) → ((w : WaitingAsk) → Has w waiting → IsApart n w.id) → to_itself n (tells_each n file waiting answer) ≡ []
tells_mine = tell_mine

untold_mine : (n : NodeId) (file : FileId) (o : Option IssuedAsk) (answer : Reply) → IssuedAskIs (IsApart n) o → to_itself n (tells_untold n file o answer) ≡ []
untold_mine n file None answer apart = refl
untold_mine n file (Some i) answer apart = at i.told
  where
    at : (b : Bool) → to_itself n (cond b [] (reply_to n file i.ask.id answer ∷ [])) ≡ []
    at true = refl
    at false = reply_mine n i.ask.id (payload.Reply i.ask.id.number file answer) apart

both_mine : (n : NodeId) (xs ys : List Msg) → to_itself n xs ≡ [] → to_itself n ys ≡ [] → to_itself n (xs ++ ys) ≡ []
both_mine n xs ys p q = mine-append n xs ys ∙ ap₂ (λ (a b : List Msg). a ++ b) p q

-- ---- what is overdue

module _ (site : Site) where
  pub record Overdue (s : FileState) (step : FileStep) : Type 0 where
    pub settles : Settles site.node s step
    pub outs : to_itself site.node step.turned.outs ≡ []

  due_apart : (o : Option IssuedAsk) → IssuedAskIs (IsApart site.node) o → IssuedAskIs (IsApart site.node) (newly_due site.now o)
  due_apart None q = tt
  due_apart (Some i) q = at (is_due site.now i.ask)
    where
      at : (b : Bool) → IssuedAskIs (IsApart site.node) (cond b (Some i) None)
      at true = q
      at false = tt

  due_left : (asks : Asks) → asks_left (record { waiting = filter (λ (w : WaitingAsk). not (is_due site.now w)) asks.waiting; issued = issued_due site.now asks.issued }) ≤ asks_left asks
  due_left asks = at asks.issued refl
    where
      shorter : length (filter (λ (w : WaitingAsk). not (is_due site.now w)) asks.waiting) ≤ length asks.waiting
      shorter =
          let counted = length-filter (λ (w : WaitingAsk). not (is_due site.now w)) asks.waiting in
          let low = count_by-le-length (λ (w : WaitingAsk). not (is_due site.now w)) asks.waiting in
          omega (arith, counted, low)

      at : (o : Option IssuedAsk) → asks.issued ≡ o → length (filter (λ (w : WaitingAsk). not (is_due site.now w)) asks.waiting) + one_if (is_some (issued_due site.now o)) ≤ asks_left asks
      at None is = (let none : one_if (is_some asks.issued) ≡ 0 = ap (λ (o : Option IssuedAsk). one_if (is_some o)) is in let low = shorter in omega (arith, none, low))
      at (Some i) is = (let one : one_if (is_some asks.issued) ≡ 1 = ap (λ (o : Option IssuedAsk). one_if (is_some o)) is in let low = shorter in omega (arith, one, low))

  -- deadlines, where the lease is as it was but for its renewal
  deadlines : (s : FileState) (l : LeaseState) → IfTenure site.node s.kept.head s.primary.tenure → FileIs (IsApart site.node) s → IfSeated (running_round l) → (IsFree s.lease → IsFree l) → (IsHeld s.lease → IsHeld l)
      → (o : Option Tenure) → Overdue s (deadlines_under site (record s { lease = l }) o)
  deadlines s l stands ids seats frees holds None =
      record { settles = leaves site.node s (nothing (record s { lease = l })) stands refl refl seats (le_refl (asks_left s.asks)) frees holds; outs = refl }
  deadlines s l stands ids seats frees holds (Some t) =
      let answer = reply.NoMajority (have_in t.peers t.progress) (majority_among t.peers) in
      record {
        settles = leaves site.node s (deadlines_come site (record s { lease = l }) (reply.NoMajority (have_in t.peers t.progress) (majority_among t.peers))) stands refl refl seats (due_left s.asks) frees holds;
        outs = both_mine site.node (tells_each site.node s.kept.file (filter (is_due site.now) s.asks.waiting) answer) (tells_untold site.node s.kept.file (newly_due site.now s.asks.issued) answer)
            (tell_mine site.node s.kept.file (filter (is_due site.now) s.asks.waiting) answer (λ w h. ids.asks.waiting w (has_filter (is_due site.now) w s.asks.waiting h).0))
            (untold_mine site.node s.kept.file (newly_due site.now s.asks.issued) answer (due_apart s.asks.issued ids.asks.issued));
      }

  told_outs : (s : FileState) (l : LeaseState) → FileIs (IsApart site.node) s → to_itself site.node (no_lease_for_all site (record s { lease = l })).turned.outs ≡ []
  told_outs s l ids =
      both_mine site.node (tells_untold site.node s.kept.file s.asks.issued (reply.NoLease s.last_end)) (tells_each site.node s.kept.file s.asks.waiting (reply.NoLease s.last_end))
      (untold_mine site.node s.kept.file s.asks.issued (reply.NoLease s.last_end) ids.asks.issued) (tell_mine site.node s.kept.file s.asks.waiting (reply.NoLease s.last_end) ids.asks.waiting)

  none_few : (asks : Asks) → asks_left no_asks ≤ asks_left asks
  none_few asks = omega arith

  ran_out : (s : FileState) (r : Round) (l : LeaseState) → s.lease ≡ l → (IsFree l → ⊥) → (IsHeld l → ⊥) → IfTenure site.node s.kept.head s.primary.tenure → FileIs (IsApart site.node) s
      → Overdue s (no_lease_for_all site (record s { lease = free (round_over r) }))
  ran_out s r l is not_free unheld stands ids =
      record {
        settles = leaves site.node s (no_lease_for_all site (record s { lease = free (round_over r) })) stands refl refl tt (none_few s.asks) (λ f. tt) (λ h. absurd (unheld (subst IsHeld is h)));
        outs = told_outs s (free (round_over r)) ids;
      }

  -- without a tenure a message has no more weight than in it, with the issued update
  base : (n : NodeId) (row : FileRow) (o : Option Tenure) (content : Payload) → rank (stand_of n row None) content ≤ rank (stand_of n row o) content + 2 * one_if (is_some (issued_by o))
  base n row None content = omega arith
  base n row (Some t) (payload.Gather file epoch) = omega arith
  base n row (Some t) (payload.Status file epoch head) = omega arith
  base n row (Some t) (payload.Head file epoch head) = omega arith
  base n row (Some t) (payload.Missing file epoch object version) = omega arith
  base n row (Some t) (payload.Stage file epoch object version bytes) = omega arith
  base n row (Some t) (payload.Staged file epoch object version) = omega arith
  base n row (Some t) (payload.Update file update) = at (issued_in t.progress)
    where
      which : (b : Bool) → 4 ≤ four_if b + 2 * 1
      which true = omega arith
      which false = omega arith

      at : (i : Option IssuedUpdate) → 4 ≤ four_if (settles i update.stamp) + 2 * one_if (is_some i)
      at None = omega arith
      at (Some u) = which (settles (Some u) update.stamp)
  base n row (Some t) (payload.Ack file stamp) = at (issued_in t.progress)
    where
      which : (b : Bool) → 3 ≤ three_if b + 2 * 1
      which true = omega arith
      which false = omega arith

      at : (i : Option IssuedUpdate) → 3 ≤ three_if (settles i stamp) + 2 * one_if (is_some i)
      at None = omega arith
      at (Some u) = which (settles (Some u) stamp)
  base n row (Some t) _ = omega arith

  issued_few : (o : Option IssuedUpdate) (asks : Asks) → AreOne o asks.issued → one_if (is_some o) ≤ asks_left asks
  issued_few o asks one = at o asks.issued refl one
    where
      at : (o : Option IssuedUpdate) (a : Option IssuedAsk) → asks.issued ≡ a → AreOne o a → one_if (is_some o) ≤ asks_left asks
      at None a is one = omega arith
      at (Some u) None is one = absurd one
      at (Some u) (Some a) is one = (let here : one_if (is_some asks.issued) ≡ 1 = ap (λ (i : Option IssuedAsk). one_if (is_some i)) is in omega (arith, here))

  lapsed : (s : FileState) (h : Held) → AreOne (issued_by s.primary.tenure) s.asks.issued → FileIs (IsApart site.node) s → Overdue s (lease_lapses site (record s { lease = free h.proposer }))
  lapsed s h one ids =
      record {
        settles = record {
          kept = refl;
          tenure = tt;
          over = inr refl;
          seats = tt;
          few = none_few s.asks;
          lighter = lighter;
          led = led;
        };
        outs = told_outs s (free h.proposer) ids;
      }
    where
      lighter : (p : Option Payload) → IfLed p s → chain_weight site.node (lease_lapses site (record s { lease = free h.proposer })).state p ≤ chain_weight site.node s p
      lighter None led = omega arith
      lighter (Some content) led =
          let low = base site.node s.kept s.primary.tenure content in
          let few = issued_few (issued_by s.primary.tenure) s.asks one in
          omega (arith, low, few)

      led : (p : Option Payload) → IfLed p s → IfLed p (lease_lapses site (record s { lease = free h.proposer })).state
      led None is = tt
      led (Some content) is = inl tt

  became : (s : FileState) (l : LeaseState) → s.lease ≡ l → FileStands site.node s → AreOne (issued_by s.primary.tenure) s.asks.issued
      → Overdue s (lease_became site (record s { lease = lease_expired l site.now }) l (lease_expired l site.now))
  became s (free p) is stands one = deadlines s (free p) stands.tenure stands.ids tt (λ f. tt) (λ h. absurd (subst IsHeld is h)) s.primary.tenure
  became s (asking r) is stands one = at (has_run_out r site.now)
    where
      at : (b : Bool) → Overdue s (lease_became site (record s { lease = cond b (free (round_over r)) (asking r) }) (asking r) (cond b (free (round_over r)) (asking r)))
      at true = ran_out s r (asking r) is (λ x. x) (λ x. x) stands.tenure stands.ids
      at false = deadlines s (asking r) stands.tenure stands.ids (subst (λ (l : LeaseState). IfSeated (running_round l)) is stands.seats) (λ f. subst IsFree is f) (λ h. subst IsHeld is h) s.primary.tenure
  became s (writing r) is stands one = at (has_run_out r site.now)
    where
      at : (b : Bool) → Overdue s (lease_became site (record s { lease = cond b (free (round_over r)) (writing r) }) (writing r) (cond b (free (round_over r)) (writing r)))
      at true = ran_out s r (writing r) is (λ x. x) (λ x. x) stands.tenure stands.ids
      at false = deadlines s (writing r) stands.tenure stands.ids (subst (λ (l : LeaseState). IfSeated (running_round l)) is stands.seats) (λ f. subst IsFree is f) (λ h. subst IsHeld is h) s.primary.tenure
  became s (held h) is stands one = at (has_turn h site.now)
    where
      later : Held
      later = record h { renewal = renewal_left h.renewal site.now }

      still_seated : (o : Option Round) → IfSeated o → IfSeated (renewal_left o site.now)
      still_seated None fit = tt
      still_seated (Some r) fit = run_out (has_run_out r site.now)
        where
          run_out : (b : Bool) → IfSeated (cond b None (Some r))
          run_out true = tt
          run_out false = fit

      at : (b : Bool) → Overdue s (lease_became site (record s { lease = cond b (held (record h { renewal = renewal_left h.renewal site.now })) (free h.proposer) }) (held h) (cond b (held (record h { renewal = renewal_left h.renewal site.now })) (free h.proposer)))
      at true =
          deadlines s (held (record h { renewal = renewal_left h.renewal site.now })) stands.tenure stands.ids (still_seated h.renewal (subst (λ (l : LeaseState). IfSeated (running_round l)) is stands.seats))
          (λ f. absurd (subst IsFree is f)) (λ k. tt) s.primary.tenure
      at false = lapsed s h one stands.ids

  -- What is overdue leaves what stood, and no more weight.
  pub overdue : (s : FileState) → FileStands site.node s → AreOne (issued_by s.primary.tenure) s.asks.issued → Overdue s (expired site s)
  unfolding expired
  overdue s stands one = became s s.lease refl stands one

  pub overdue_stands : (s : FileState) → FileStands site.node s → AreOne (issued_by s.primary.tenure) s.asks.issued → FileStands site.node (expired site s).state
  overdue_stands s stands one =
      let q = (overdue s stands one).settles in
      record {
        head = subst (λ (k : FileRow). HeadStands k.head) (sym q.kept) stands.head;
        tenure = subst (λ (k : FileRow). IfTenure site.node k.head (expired site s).state.primary.tenure) (sym q.kept) q.tenure;
        ids = (expired_is (IsApart site.node) site s.kept.file.number s stands.ids).state;
        seats = q.seats;
        few = le_trans q.few stands.few;
      }
