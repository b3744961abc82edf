-- what a message that concerns a file comes to at its node, and how much less is left where it was the node's own
use Rattle.std.proofs.Common.{◌≡◌, ℕ, ◌≤◌, ◌+◌, ◌*◌, inl, inr, Bool, true, false, [], ◌∷◌, ◌++◌, refl, sym, ap, subst, ◌∙◌, arith, Option, Some, None, is_some, le_refl, le_trans, append-nil}
use Rattle.std.specs.Prelude.{cond, ◌==◌, ◌⊎◌}
use Rattle.std.proofs.lemmas.Bool.{and_parts, eqb-true}
use Rattle.std.proofs.lemmas.Bool.Decides.{nat_tests}
use Rattle.xt_base.specs.MemberList.{are_distinct}
use Rattle.xt_base.specs.declared.ids.NodeId.{NodeId}
use Rattle.xt_base.specs.declared.ids.Boot.{Boot}
use Rattle.xt_base.specs.declared.ids.Ballot.{Ballot}
use Rattle.xt_base.specs.declared.ids.Lease.{Lease}
use Rattle.xt_messages.specs.declared.message.Payload.{Payload}
use Rattle.xt_messages.specs.declared.message.Payload.TheVariants as payload
use Rattle.xt_messages.specs.declared.record.FileRow.{FileRow}
use Rattle.xt_messages.specs.declared.reply.Reply.{Reply}
use Rattle.xt_messages.specs.declared.reply.Reply.TheVariants as reply
use Rattle.xt_messages.specs.declared.event.Mark.TheVariants as mark
use Rattle.xt_protocol.specs.Register.{ReadAnswer, promise, read_refused, WriteAnswer, accepted, write_refused, other_boot, on_read, on_write}
use Rattle.xt_protocol.specs.LeaseRows.{LeaseState, running_round, free, asking, writing, held, LeaseNews, LeaseStep, sends_write, holds, finds, ends, on_answer}
use Rattle.xt_protocol.specs.LeaseRows as lease
use Rattle.lease_runs.specs.LeaseView.{is_ask}
use Rattle.xt_protocol.specs.declared.states.Acted.{Acted}
use Rattle.xt_protocol.specs.declared.states.Asks.{Asks}
use Rattle.xt_protocol.specs.declared.states.Place.{Place}
use Rattle.xt_protocol.specs.declared.states.Tenure.{Tenure}
use Rattle.xt_protocol.specs.Turns.{sends, shows, message}
use Rattle.xt_protocol.specs.ReplicaRows.{kept_after, gathered, fetched_from, staged, headed, updated}
use Rattle.xt_protocol.specs.Primaries.{Led, if_any, is_ready, issued_by, nodes_of}
use Rattle.xt_protocol.specs.PrimaryRows.{draw_epoch, message_epoch, hears, hears_in}
use Rattle.xt_protocol.specs.Asks.{Served, asks_follow, asks_behind, WAITING}
use Rattle.xt_protocol.specs.FileStates.{FileState, Site, FileStep, nothing, steps_to, and_then, serves_to, members_of, ground_of}
use Rattle.xt_protocol.specs.FileLeases.{read_comes, write_comes, answer_comes, answer_to_read, answers_to_write, end_after_answer, lease_news, answer_waiting, led_on}
use Rattle.xt_protocol.specs.FileSteps.{replica_acts, primary_hears, message_comes}
use Rattle.osd_invariants.specs.Sound.{AreOne, IsHeld, IsSound, PeersAre}
use Rattle.world_spec.specs.NodeSteps.{to_itself}
use Rattle.world_runs.proofs.PrimaryIds.{TenureIs}
use Rattle.own_messages_wait.proofs.Weights.{asks_left, epoch_left, is_lease, lease_rank, rank, stand_of, tenure_left}
use Rattle.own_messages_wait.proofs.Standing.{IfAbout, HeadStands, IfMessage, IfTenure, BodyStays, Stands}
use Rattle.own_messages_wait.proofs.Tests.{false_true, not_both}
use Rattle.own_messages_wait.proofs.Moves.{Moves, moves_none, if_moves}
use Rattle.own_messages_wait.proofs.Mine.{token, mine-if, mine-one}
use Rattle.own_messages_wait.proofs.Rows.{IfLeads, Row, Next, plain, readied, draws}
use Rattle.own_messages_wait.proofs.Replicas.{Acts, IfLess, gather_acts, stage_acts, head_acts, update_acts}
use Rattle.own_messages_wait.proofs.Hearing.{IsApart, rank_some, epoch_heard}
use Rattle.own_messages_wait.proofs.Following.{burden, Followed, follow, with_asks, behind_left}
use Rattle.own_messages_wait.proofs.Leases.{IfSeated, IsFree, IsLeaseOf, IsOver, IsWon, NewsFits, WritesBehind, answer_fits, one_write}
use Rattle.own_messages_wait.proofs.Files.{FileStands, chain_weight, IsLed, IfLed, none_left, Settles, leaves, tells_mine}

-- ---- what must hold of a step

abbrev pub lease_of : Option Payload → ℕ
lease_of None = 0
lease_of (Some content) = lease_rank content

-- The file stands, and at most one message of the lease and one of the primary go to the own node.
pub record Gives (n : NodeId) (from : NodeId) (s : FileState) (step : FileStep) : Type 0 where
  pub head : HeadStands step.state.kept.head
  -- how the head moves is said of the node's own messages alone
  pub moves : from.0 ≡ n.0 → Moves s.kept.head step.state.kept.head
  pub tenure : IfTenure n step.state.kept.head step.state.primary.tenure
  pub seats : IfSeated (running_round step.state.lease)
  pub few : asks_left step.state.asks ≤ WAITING + 1
  pub told : Option Payload
  pub sent : Option Payload
  pub outs : to_itself n step.turned.outs ≡ token n sent ++ token n told
  pub told_is : IsLeaseOf 4 told
  pub about_sent : IfAbout s.kept.file sent
  pub about_told : IfAbout s.kept.file told
  pub stands : IfMessage step.state.kept sent
  pub led : (from.0 ≡ n.0 → IsLed s) → IfLed sent step.state
  -- without a lease and a round none goes there, unless one came from there
  pub idle : (from.0 == n.0) ≡ false → IsFree step.state.lease → (told ≡ None) × (sent ≡ None)

-- less is left after a message of the lease: alone, and beside one of the primary, which stays as it is
pub record LeaseLess (n : NodeId) (s : FileState) (content : Payload) (step : FileStep) (told sent : Option Payload) : Type 0 where
  pub alone : chain_weight n step.state sent + lease_of told + 1 ≤ chain_weight n s None + lease_rank content
  pub led_alone : IfLed sent step.state
  pub sent_none : IsLed s → sent ≡ None
  pub still_led : IsLed s → IsLed step.state
  pub kept : IsLed s → step.state.kept ≡ s.kept
  pub tenure : IsLed s → (step.state.primary.tenure ≡ s.primary.tenure) ⊎ (step.state.primary.tenure ≡ None)
  pub beside : (c : Payload) → IsLed s → chain_weight n step.state (Some c) + lease_of told + 1 ≤ chain_weight n s (Some c) + lease_rank content

-- less is left after a message of the primary
pub record PrimaryLess (n : NodeId) (s : FileState) (content : Payload) (step : FileStep) (told sent : Option Payload) : Type 0 where
  pub told_none : told ≡ None
  pub less : chain_weight n step.state sent + 1 ≤ chain_weight n s (Some content)

abbrev pub Less : Bool → NodeId → FileState → Payload → FileStep → Option Payload → Option Payload → Type 0
Less true n s content step told sent = LeaseLess n s content step told sent
Less false n s content step told sent = BodyStays s.kept s.primary.tenure content → IsLed s → PrimaryLess n s content step told sent

pub record Comes (n : NodeId) (from : NodeId) (content : Payload) (s : FileState) (step : FileStep) : Type 0 where
  pub gives : Gives n from s step
  pub less : from.0 ≡ n.0 → Less (is_lease content) n s content step gives.told gives.sent

-- ---- steps that leave the primary as it is

weaker : (k : ℕ) (o : Option Payload) → k ≤ 4 → IsLeaseOf k o → IsLeaseOf 4 o
weaker k None low is = tt
weaker k (Some content) low is = (is.0, le_trans is.1 low)

lease_low : (k : ℕ) (o : Option Payload) → IsLeaseOf k o → lease_of o ≤ k
lease_low k None is = omega arith
lease_low k (Some content) is = is.1

-- one that sends at most this message of the lease
settled_gives : (n from : NodeId) (s : FileState) (step : FileStep) (told : Option Payload) (k : ℕ) → FileStands n s → Settles n s step → to_itself n step.turned.outs ≡ token n told → IsLeaseOf k told → k ≤ 4 → IfAbout s.kept.file told
    → ((from.0 == n.0) ≡ false → IsFree step.state.lease → told ≡ None) → Gives n from s step
settled_gives n from s step told k stands q outs told_is low about idle =
    record {
      head = subst (λ (r : FileRow). HeadStands r.head) (sym q.kept) stands.head;
      moves = λ mine. moves_none s.kept.head step.state.kept.head (ap (λ (r : FileRow). r.head) q.kept);
      tenure = subst (λ (r : FileRow). IfTenure n r.head step.state.primary.tenure) (sym q.kept) q.tenure;
      seats = q.seats;
      few = le_trans q.few stands.few;
      told = told;
      sent = None;
      outs = outs;
      told_is = weaker k told low told_is;
      about_sent = tt;
      about_told = about;
      stands = tt;
      led = λ mine. tt;
      idle = λ other is. (idle other is, refl);
    }

settled_less : (n : NodeId) (s : FileState) (content : Payload) (step : FileStep) (told : Option Payload) (k : ℕ) → Settles n s step → IsLeaseOf k told → k + 1 ≤ lease_rank content → LeaseLess n s content step told None
settled_less n s content step told k q told_is low =
    let few = lease_low k told told_is in
    record {
      alone = let less = q.lighter None tt in omega (arith, less, few, low);
      led_alone = tt;
      sent_none = λ led. refl;
      still_led = λ led. q.led (Some content) led;
      kept = λ led. q.kept;
      tenure = λ led. q.over;
      beside = λ c led. let less = q.lighter (Some c) led in omega (arith, less, few, low);
    }

-- ---- the register

module _ (site : Site) (s : FileState) (from : NodeId) (stands : FileStands site.node s) where
  same_leaves : (step : FileStep) → step.state.kept ≡ s.kept → step.state.primary.tenure ≡ s.primary.tenure → step.state.lease ≡ s.lease → step.state.asks ≡ s.asks → Settles site.node s step
  same_leaves step kept tenure same asks =
      leaves site.node s step stands.tenure kept tenure (subst (λ (l : LeaseState). IfSeated (running_round l)) (sym same) stands.seats) (few (ap asks_left asks)) (λ f. subst IsFree (sym same) f) (λ h. subst IsHeld (sym same) h)
    where
      few : {a b : ℕ} → a ≡ b → a ≤ b
      few is = omega (arith, is)

  no_own : (answer : Option Payload) → (from.0 == site.node.0) ≡ false → cond (from.0 == site.node.0) answer None ≡ None
  no_own answer other = ap (λ (b : Bool). cond b answer None) other

  if_own : (b : Bool) (k : ℕ) (o : Option Payload) → IsLeaseOf k o → IsLeaseOf k (cond b o None)
  if_own true k o is = is
  if_own false k o is = tt

  if_about : (b : Bool) (o : Option Payload) → IfAbout s.kept.file o → IfAbout s.kept.file (cond b o None)
  if_about true o is = is
  if_about false o is = tt

  pub read_given : (content : Payload) (ballot : Ballot) → is_lease content ≡ true → 4 ≤ lease_rank content → Comes site.node from content s (read_comes site s from ballot)
  unfolding read_comes settled_gives
  read_given content ballot is_one four =
      let answer = answer_to_read s.kept.file s.acceptor.boot ballot (on_read s.acceptor ballot).answer in
      let told = cond (from.0 == site.node.0) (Some answer) None in
      let q = same_leaves (read_comes site s from ballot) refl refl refl refl in
      let low = if_own (from.0 == site.node.0) 3 (Some answer) (three (on_read s.acceptor ballot).answer) in
      record {
        gives = settled_gives site.node from s (read_comes site s from ballot) told 3 stands q (mine-one site.node from answer) low (omega arith) (if_about (from.0 == site.node.0) (Some answer) (its (on_read s.acceptor ballot).answer)) (λ other free_now. no_own (Some answer) other);
        less = λ mine. subst (λ (b : Bool). Less b site.node s content (read_comes site s from ballot) told None) (sym is_one) (settled_less site.node s content (read_comes site s from ballot) told 3 q low four);
      }
    where
      three : (a : ReadAnswer) → IsLeaseOf 3 (Some (answer_to_read s.kept.file s.acceptor.boot ballot a))
      three (promise report) = (refl, le_refl 3)
      three (read_refused seen) = (refl, omega arith)

      its : (a : ReadAnswer) → IfAbout s.kept.file (Some (answer_to_read s.kept.file s.acceptor.boot ballot a))
      its (promise report) = refl
      its (read_refused seen) = refl

  -- what answers a Write of the own node
  abbrev written_to : Ballot → Boot → WriteAnswer → Option Payload
  written_to ballot boot accepted = cond (from.0 == site.node.0) (Some (payload.Accepted s.kept.file ballot boot)) None
  written_to ballot boot (write_refused seen) = cond (from.0 == site.node.0) (Some (payload.Outrun s.kept.file ballot seen)) None
  written_to ballot boot other_boot = None

  written_outs : (ballot : Ballot) (boot : Boot) (a : WriteAnswer) → to_itself site.node (answers_to_write site s from ballot boot a) ≡ token site.node (written_to ballot boot a)
  written_outs ballot boot accepted = mine-one site.node from (payload.Accepted s.kept.file ballot boot)
  written_outs ballot boot (write_refused seen) = mine-one site.node from (payload.Outrun s.kept.file ballot seen)
  written_outs ballot boot other_boot = refl

  written_low : (ballot : Ballot) (boot : Boot) (a : WriteAnswer) → IsLeaseOf 1 (written_to ballot boot a)
  written_low ballot boot accepted = if_own (from.0 == site.node.0) 1 (Some (payload.Accepted s.kept.file ballot boot)) (refl, le_refl 1)
  written_low ballot boot (write_refused seen) = if_own (from.0 == site.node.0) 1 (Some (payload.Outrun s.kept.file ballot seen)) (refl, le_refl 1)
  written_low ballot boot other_boot = tt

  written_about : (ballot : Ballot) (boot : Boot) (a : WriteAnswer) → IfAbout s.kept.file (written_to ballot boot a)
  written_about ballot boot accepted = if_about (from.0 == site.node.0) (Some (payload.Accepted s.kept.file ballot boot)) refl
  written_about ballot boot (write_refused seen) = if_about (from.0 == site.node.0) (Some (payload.Outrun s.kept.file ballot seen)) refl
  written_about ballot boot other_boot = tt

  written_none : (ballot : Ballot) (boot : Boot) (a : WriteAnswer) → (from.0 == site.node.0) ≡ false → written_to ballot boot a ≡ None
  written_none ballot boot accepted other = no_own (Some (payload.Accepted s.kept.file ballot boot)) other
  written_none ballot boot (write_refused seen) other = no_own (Some (payload.Outrun s.kept.file ballot seen)) other
  written_none ballot boot other_boot other = refl

  pub write_given : (content : Payload) (ballot : Ballot) (boot : Boot) (x : Lease) → is_lease content ≡ true → 2 ≤ lease_rank content → Comes site.node from content s (write_comes site s from ballot boot x)
  unfolding write_comes settled_gives
  write_given content ballot boot x is_one two =
      let answer = (on_write s.acceptor ballot boot x).answer in
      let q = same_leaves (write_comes site s from ballot boot x) refl refl refl refl in
      let told = written_to ballot boot answer in
      let low = written_low ballot boot answer in
      record {
        gives = settled_gives site.node from s (write_comes site s from ballot boot x) told 1 stands q (written_outs ballot boot answer) low (omega arith) (written_about ballot boot answer) (λ other free_now. written_none ballot boot answer other);
        less = λ mine. subst (λ (b : Bool). Less b site.node s content (write_comes site s from ballot boot x) told None) (sym is_one) (settled_less site.node s content (write_comes site s from ballot boot x) told 1 q low two);
      }

  -- ---- answers to the round

  -- nothing is sent to the own node
  quiet_comes : (content : Payload) (step : FileStep) → is_lease content ≡ true → 1 ≤ lease_rank content → Settles site.node s step → to_itself site.node step.turned.outs ≡ [] → Comes site.node from content s step
  unfolding settled_gives
  quiet_comes content step is_one one q outs =
      record {
        gives = settled_gives site.node from s step None 0 stands q outs tt (omega arith) tt (λ other free_now. refl);
        less = λ mine. subst (λ (b : Bool). Less b site.node s content step None None) (sym is_one) (settled_less site.node s content step None 0 q tt one);
      }

  told_off : (content : Payload) (l : LeaseState) (end : ℕ) (answer : Reply) → is_lease content ≡ true → 1 ≤ lease_rank content → IsOver s.lease l → Comes site.node from content s (answer_waiting site (record s { lease = l; last_end = end }) answer)
  told_off content l end answer is_one one over =
      quiet_comes content (answer_waiting site (record s { lease = l; last_end = end }) answer) is_one one
      (leaves site.node s (answer_waiting site (record s { lease = l; last_end = end }) answer) stands.tenure refl refl (seated l over.free_now) fewer (λ f. over.free_now) (λ h. absurd (over.unheld h)))
      (tells_mine site.node s.kept.file s.asks.waiting answer stands.ids.asks.waiting)
    where
      seated : (l : LeaseState) → IsFree l → IfSeated (running_round l)
      seated (free p) is = tt
      seated (asking r) is = absurd is
      seated (writing r) is = absurd is
      seated (held h) is = absurd is

      fewer : asks_left (record s.asks { waiting = [] }) ≤ asks_left s.asks
      fewer = omega arith

  not_free_left : (l : LeaseState) (asks : Asks) → (IsFree l → ⊥) → tenure_left l None asks ≡ 6 + 2 * asks_left asks
  not_free_left (free p) asks never = absurd (never tt)
  not_free_left (asking r) asks never = refl
  not_free_left (writing r) asks never = refl
  not_free_left (held h) asks never = refl

  held_left : (l : LeaseState) (o : Option Tenure) (kept : FileRow) (asks : Asks) (sent : Option Payload) (t : FileState) → IsHeld l → t.lease ≡ l → t.primary.tenure ≡ o → t.kept ≡ kept → t.asks ≡ asks → chain_weight site.node t sent ≡ burden site.node sent kept o asks
  held_left l o kept asks None t is lease_is tenure_is kept_is asks_is =
      ap (λ (l : LeaseState). tenure_left l t.primary.tenure t.asks) lease_is ∙ ap (λ (o : Option Tenure). tenure_left l o t.asks) tenure_is ∙ ap (λ (a : Asks). tenure_left l o a) asks_is ∙ at l o is
    where
      at : (l : LeaseState) (o : Option Tenure) → IsHeld l → tenure_left l o asks ≡ burden site.node None kept o asks
      at (held h) None is = refl
      at (held h) (Some t) is = refl
      at (free p) o is = absurd is
      at (asking r) o is = absurd is
      at (writing r) o is = absurd is
  held_left l o kept asks (Some content) t is lease_is tenure_is kept_is asks_is =
      ap (λ (k : FileRow). epoch_left k t.primary.tenure + 2 * asks_left t.asks + rank (stand_of site.node k t.primary.tenure) content) kept_is
      ∙ ap (λ (o : Option Tenure). epoch_left kept o + 2 * asks_left t.asks + rank (stand_of site.node kept o) content) tenure_is
      ∙ ap (λ (a : Asks). epoch_left kept o + 2 * asks_left a + rank (stand_of site.node kept o) content) asks_is

  -- an idle primary draws its epoch
  won_idle : (content : Payload) (l : LeaseState) (end : ℕ) → is_lease content ≡ true → 1 ≤ lease_rank content → s.primary.tenure ≡ None → IsWon s.lease l → IfSeated (running_round l) → are_distinct (members_of s.kept.location) ≡ true
      → Comes site.node from content s (and_then (steps_to (record s { lease = l; last_end = end }) (shows (mark.Held s.kept.file.number end))) (λ state. led_on site state None))
  won_idle content l end is_one one none won seats apart =
      record {
        gives = record {
          head = q.head;
          moves = λ mine. q.moves;
          tenure = q.tenure;
          seats = seats;
          few = stands.few;
          told = None;
          sent = q.sent;
          outs = q.outs ∙ sym (append-nil (token site.node q.sent));
          told_is = tt;
          about_sent = q.about;
          about_told = tt;
          stands = q.stands;
          led = λ mine. led_by q.sent q.leads;
          idle = λ other is. absurd (not_both_ways l is won.held_now);
        };
        less = λ mine. subst (λ (b : Bool). Less b site.node s content (and_then (steps_to (record s { lease = l; last_end = end }) (shows (mark.Held s.kept.file.number end))) (λ state. led_on site state None)) None q.sent) (sym is_one) less;
      }
    where
      place : Place
      place = (ground_of site s).place

      led : Led
      led = draw_epoch (ground_of site s).place s.primary.learnt s.kept.head (members_of s.kept.location)

      q : Row site.node s.kept None (Unit {0}) 7 (draw_epoch (ground_of site s).place s.primary.learnt s.kept.head (members_of s.kept.location))
      q = draws (ground_of site s).place s.kept refl s.primary.learnt (members_of s.kept.location) None (Unit {0}) 7 apart stands.head (λ own. le_refl 7)

      not_both_ways : (l : LeaseState) → IsFree l → IsHeld l → ⊥
      not_both_ways (free p) f h = h
      not_both_ways (asking r) f h = f
      not_both_ways (writing r) f h = f
      not_both_ways (held p) f h = f

      led_by : (sent : Option Payload) → IfLeads sent (draw_epoch (ground_of site s).place s.primary.learnt s.kept.head (members_of s.kept.location)).primary.tenure
          → IfLed sent (and_then (steps_to (record s { lease = l; last_end = end }) (shows (mark.Held s.kept.file.number end))) (λ state. led_on site state None)).state
      led_by None is = tt
      led_by (Some c) is = inr (won.held_now, is)

      unled : IsLed s → ⊥
      unled (inl f) = won.not_free f
      unled (inr h) = false_true (ap (λ (o : Option Tenure). is_some o) (sym none) ∙ h.1)

      low : burden site.node q.sent (kept_after s.kept led.turned.rec) led.primary.tenure s.asks + 1 ≤ 7 + 2 * asks_left s.asks
      low = at q.next
        where
          ready_some : (o : Option Tenure) → is_ready o ≡ true → burden site.node None (kept_after s.kept led.turned.rec) o s.asks ≡ 0
          ready_some None is = absurd (false_true is)
          ready_some (Some t) is = refl

          at : Next site.node s.kept None (Unit {0}) 7 led q.sent → burden site.node q.sent (kept_after s.kept led.turned.rec) led.primary.tenure s.asks + 1 ≤ 7 + 2 * asks_left s.asks
          at (plain is room) = with_asks site.node q.sent (kept_after s.kept led.turned.rec) led.primary.tenure s.asks 7 (asks_left s.asks) (room tt) (le_refl (asks_left s.asks))
          at (readied is rec nothing_sent room) =
              let zero = ap (λ (o : Option Payload). burden site.node o (kept_after s.kept led.turned.rec) led.primary.tenure s.asks) nothing_sent ∙ ready_some led.primary.tenure (and_parts (is_ready led.primary.tenure) true is).0 in
              omega (arith, zero)

      less : LeaseLess site.node s content (and_then (steps_to (record s { lease = l; last_end = end }) (shows (mark.Held s.kept.file.number end))) (λ state. led_on site state None)) None q.sent
      less =
          let before : tenure_left s.lease s.primary.tenure s.asks ≡ 6 + 2 * asks_left s.asks = ap (λ (o : Option Tenure). tenure_left s.lease o s.asks) none ∙ not_free_left s.lease s.asks won.not_free in
          let now = held_left l led.primary.tenure (kept_after s.kept led.turned.rec) s.asks q.sent (and_then (steps_to (record s { lease = l; last_end = end }) (shows (mark.Held s.kept.file.number end))) (λ state. led_on site state None)).state won.held_now refl refl refl refl in
          let fewer = low in
          record {
            alone = omega (arith, before, now, fewer, one);
            led_alone = led_by q.sent q.leads;
            sent_none = λ is. absurd (unled is);
            still_led = λ is. absurd (unled is);
            kept = λ is. absurd (unled is);
            tenure = λ is. absurd (unled is);
            beside = λ c is. absurd (unled is);
          }

  won : (content : Payload) (l : LeaseState) (end : ℕ) (o : Option Tenure) → is_lease content ≡ true → 1 ≤ lease_rank content → s.primary.tenure ≡ o → IsWon s.lease l → IfSeated (running_round l) → are_distinct (members_of s.kept.location) ≡ true
      → Comes site.node from content s (and_then (steps_to (record s { lease = l; last_end = end }) (shows (mark.Held s.kept.file.number end))) (λ state. led_on site state o))
  won content l end None is_one one is wins seats apart = won_idle content l end is_one one is wins seats apart
  won content l end (Some t) is_one one is wins seats apart =
      quiet_comes content (and_then (steps_to (record s { lease = l; last_end = end }) (shows (mark.Held s.kept.file.number end))) (λ state. led_on site state (Some t))) is_one one
      (leaves site.node s (and_then (steps_to (record s { lease = l; last_end = end }) (shows (mark.Held s.kept.file.number end))) (λ state. led_on site state (Some t))) stands.tenure refl refl seats (le_refl (asks_left s.asks)) (λ f. absurd (wins.not_free f)) (λ h. wins.held_now))
      refl

  news_comes : (content : Payload) (l : LeaseState) (end : ℕ) (news : LeaseNews) → is_lease content ≡ true → 1 ≤ lease_rank content → NewsFits s.lease l news → WritesBehind content news → IfSeated (running_round l) → are_distinct (members_of s.kept.location) ≡ true
      → Comes site.node from content s (lease_news site (record s { lease = l; last_end = end }) news)
  unfolding settled_gives
  news_comes content l end lease.nothing is_one one fits writes seats apart =
      quiet_comes content (nothing (record s { lease = l; last_end = end })) is_one one
      (leaves site.node s (nothing (record s { lease = l; last_end = end })) stands.tenure refl refl seats (le_refl (asks_left s.asks)) fits.still_free fits.still_held) refl
  news_comes content l end (sends_write ballot x targets) is_one one fits writes seats apart =
      let q = leaves site.node s (lease_news site (record s { lease = l; last_end = end }) (sends_write ballot x targets)) stands.tenure refl refl seats (le_refl (asks_left s.asks)) fits.0.still_free fits.0.still_held in
      let w = one_write site.node s.kept.file ballot x targets fits.1 in
      record {
        gives = settled_gives site.node from s (lease_news site (record s { lease = l; last_end = end }) (sends_write ballot x targets)) w.content 2 stands q w.is w.low (omega arith) w.about (λ other free_now. absurd (fits.2 free_now));
        less = λ mine. subst (λ (b : Bool). Less b site.node s content (lease_news site (record s { lease = l; last_end = end }) (sends_write ballot x targets)) w.content None) (sym is_one) (settled_less site.node s content (lease_news site (record s { lease = l; last_end = end }) (sends_write ballot x targets)) w.content 2 q w.low writes);
      }
  news_comes content l end (holds e) is_one one fits writes seats apart = won content l e s.primary.tenure is_one one refl fits seats apart
  news_comes content l end (finds x) is_one one fits writes seats apart =
      either_comes (x.node.0 == site.node.0) _ _ (told_off content l end (reply.NoLease end) is_one one fits) (told_off content l end (reply.Elsewhere x.node x.end) is_one one fits)
    where
      either_comes : (b : Bool) (p q : FileStep) → Comes site.node from content s p → Comes site.node from content s q → Comes site.node from content s (cond b p q)
      either_comes true p q x y = x
      either_comes false p q x y = y
  news_comes content l end ends is_one one fits writes seats apart = told_off content l end (reply.NoLease end) is_one one fits

  pub answer_given : (content : Payload) → is_lease content ≡ true → 1 ≤ lease_rank content → are_distinct (members_of s.kept.location) ≡ true → Comes site.node from content s (answer_comes site s from content)
  unfolding answer_comes
  answer_given content is_one one apart =
      let fits = answer_fits s.lease site.now from content stands.seats in
      news_comes content (on_answer s.lease site.now from content).state (end_after_answer site s from content) (on_answer s.lease site.now from content).news is_one one fits.news fits.writes fits.seats apart

  -- ---- the replica

  -- a message of the primary weighs something
  weighs : (content : Payload) → 1 ≤ chain_weight site.node s (Some content)
  weighs content = let one = rank_some (stand_of site.node s.kept s.primary.tenure) content in omega (arith, one)

  not_own : (from.0 == site.node.0) ≡ false → from.0 ≡ site.node.0 → ⊥
  not_own other mine = false_true (sym other ∙ itself from.0 site.node.0 mine)
    where
      itself : (a b : ℕ) → a ≡ b → (a == b) ≡ true
      itself a b is = grind (arith, nat_tests)

  acted_given : (content : Payload) (acted : Acted) → is_lease content ≡ false → Acts site.node s.kept from content acted → Comes site.node from content s (replica_acts site s from acted)
  acted_given content acted is_primary acts = at (from.0 == site.node.0) refl
    where
      step : FileStep
      step = replica_acts site s from acted

      outs_are : (b : Bool) → (from.0 == site.node.0) ≡ b → to_itself site.node (if_any site.node from acted.answer) ≡ token site.node (cond b acted.answer None) ++ []
      outs_are b is = mine-if site.node from acted.answer ∙ ap (λ (c : Bool). token site.node (cond c acted.answer None)) is ∙ sym (append-nil (token site.node (cond b acted.answer None)))

      tenure : IfTenure site.node (kept_after s.kept acted.rec).head s.primary.tenure
      tenure = if_moves site.node s.kept.head (kept_after s.kept acted.rec).head s.primary.tenure acts.moves stands.tenure

      led_by : (o : Option Payload) → IsLed s → IfLed o (replica_acts site s from acted).state
      led_by None is = tt
      led_by (Some c) is = is

      lower : (o : Option Payload) → IfLess site.node s.kept (kept_after s.kept acted.rec) content o → IsLed s → chain_weight site.node (replica_acts site s from acted).state o + 1 ≤ chain_weight site.node s (Some content)
      lower None less led = (let zero = none_left s led in let one = weighs content in omega (arith, zero, one))
      lower (Some c) less led = (let low = less s.primary.tenure in omega (arith, low))

      at : (b : Bool) → (from.0 == site.node.0) ≡ b → Comes site.node from content s (replica_acts site s from acted)
      at true is =
          let mine = eqb-true from.0 site.node.0 is in
          record {
            gives = record {
              head = acts.head;
              moves = λ mine. acts.moves;
              tenure = tenure;
              seats = stands.seats;
              few = stands.few;
              told = None;
              sent = acted.answer;
              outs = outs_are true is;
              told_is = tt;
              about_sent = acts.about;
              about_told = tt;
              stands = acts.stands mine;
              led = λ led. led_by acted.answer (led mine);
              idle = λ other free_now. not_both (from.0 == site.node.0) is other;
            };
            less = λ own. subst (λ (b : Bool). Less b site.node s content (replica_acts site s from acted) None acted.answer) (sym is_primary) (λ bodies led. record { told_none = refl; less = lower acted.answer (acts.less mine) led });
          }
      at false other =
          record {
            gives = record {
              head = acts.head;
              moves = λ mine. acts.moves;
              tenure = tenure;
              seats = stands.seats;
              few = stands.few;
              told = None;
              sent = None;
              outs = outs_are false other;
              told_is = tt;
              about_sent = tt;
              about_told = tt;
              stands = tt;
              led = λ led. tt;
              idle = λ o free_now. (refl, refl);
            };
            less = λ own. absurd (not_own other own);
          }

  -- a step of which nothing comes
  nothing_gives : Gives site.node from s (nothing s)
  nothing_gives =
      record {
        head = stands.head;
        moves = λ mine. moves_none s.kept.head s.kept.head refl;
        tenure = stands.tenure;
        seats = stands.seats;
        few = stands.few;
        told = None;
        sent = None;
        outs = refl;
        told_is = tt;
        about_sent = tt;
        about_told = tt;
        stands = tt;
        led = λ led. tt;
        idle = λ other free_now. (refl, refl);
      }

  nothing_comes : (content : Payload) → is_lease content ≡ false → Comes site.node from content s (nothing s)
  unfolding nothing_gives
  nothing_comes content is_primary =
      record {
        gives = nothing_gives;
        less = λ own. subst (λ (b : Bool). Less b site.node s content (nothing s) None None) (sym is_primary)
            (λ bodies led. record { told_none = refl; less = let zero = none_left s led in let one = weighs content in omega (arith, zero, one) });
      }

  -- a body is asked for by another node
  fetch_given : (content answer : Payload) → is_lease content ≡ false → (from.0 ≡ site.node.0 → ⊥) → Comes site.node from content s (steps_to s (sends (message site.node from answer ∷ [])))
  fetch_given content answer is_primary never = at (from.0 == site.node.0) refl
    where
      at : (b : Bool) → (from.0 == site.node.0) ≡ b → Comes site.node from content s (steps_to s (sends (message site.node from answer ∷ [])))
      at true is = absurd (never (eqb-true from.0 site.node.0 is))
      at false other =
          record {
            gives = record {
              head = stands.head;
              moves = λ mine. moves_none s.kept.head s.kept.head refl;
              tenure = stands.tenure;
              seats = stands.seats;
              few = stands.few;
              told = None;
              sent = None;
              outs = mine-one site.node from answer ∙ ap (λ (b : Bool). token site.node (cond b (Some answer) None)) other;
              told_is = tt;
              about_sent = tt;
              about_told = tt;
              stands = tt;
              led = λ led. tt;
              idle = λ o free_now. (refl, refl);
            };
            less = λ own. absurd (never own);
          }

  -- ---- the primary

  module _ (sound : IsSound s) (apart : are_distinct (members_of s.kept.location) ≡ true) where
    heard_at : (content : Payload) (l : LeaseState) (o : Option Tenure) → is_lease content ≡ false → (from.0 ≡ site.node.0 → Stands s.kept content) → s.lease ≡ l → IsHeld l → s.primary.tenure ≡ o
        → Comes site.node from content s (serves_to s (asks_follow (ground_of site s) o s.asks (hears_in (ground_of site s) s.primary.learnt o from content)))
    heard_at content l None is_primary heard lease_is is_held is =
        record {
          gives = record {
            head = stands.head;
            moves = λ mine. moves_none s.kept.head s.kept.head refl;
            tenure = tt;
            seats = stands.seats;
            few = few (behind_left None s.asks);
            told = None;
            sent = None;
            outs = refl;
            told_is = tt;
            about_sent = tt;
            about_told = tt;
            stands = tt;
            led = λ led. tt;
            idle = λ other free_now. (refl, refl);
          };
          less = λ own. subst (λ (b : Bool). Less b site.node s content (serves_to s (asks_follow (ground_of site s) None s.asks (hears_in (ground_of site s) s.primary.learnt None from content))) None None) (sym is_primary) (λ bodies led. absurd (unled led));
        }
      where
        few : asks_left (asks_behind None s.asks) ≡ asks_left s.asks → asks_left (asks_behind None s.asks) ≤ WAITING + 1
        few same = let low = stands.few in omega (arith, low, same)

        free_held : (l : LeaseState) → IsFree l → IsHeld l → ⊥
        free_held (free p) f h = h
        free_held (asking r) f h = f
        free_held (writing r) f h = f
        free_held (held p) f h = f

        unled : IsLed s → ⊥
        unled (inl f) = free_held l (subst IsFree lease_is f) is_held
        unled (inr h) = false_true (ap (λ (o : Option Tenure). is_some o) (sym is) ∙ h.1)
    heard_at content l (Some t) is_primary heard lease_is is_held is =
        record {
          gives = record {
            head = f.head;
            moves = λ mine. f.moves;
            tenure = f.tenure;
            seats = stands.seats;
            few = le_trans f.few stands.few;
            told = None;
            sent = f.sent;
            outs = f.outs ∙ sym (append-nil (token site.node f.sent));
            told_is = tt;
            about_sent = f.about;
            about_told = tt;
            stands = f.stands;
            led = λ led. led_by f.sent f.leads;
            idle = λ other free_now. absurd (free_held l (subst IsFree lease_is free_now) is_held);
          };
          less = λ own. subst (λ (b : Bool). Less b site.node s content (serves_to s (asks_follow (ground_of site s) (Some t) s.asks (hears_in (ground_of site s) s.primary.learnt (Some t) from content))) None f.sent) (sym is_primary)
              (λ bodies led. record { told_none = refl; less = lower own (subst (λ (o : Option Tenure). BodyStays s.kept o content) is bodies) });
        }
      where
        free_held : (l : LeaseState) → IsFree l → IsHeld l → ⊥
        free_held (free p) f h = h
        free_held (asking r) f h = f
        free_held (writing r) f h = f
        free_held (held p) f h = f

        place : Place
        place = (ground_of site s).place

        served : Served
        served = asks_follow (ground_of site s) (Some t) s.asks (hears_in (ground_of site s) s.primary.learnt (Some t) from content)

        peers_apart : are_distinct (nodes_of t.peers) ≡ true
        peers_apart = ap are_distinct (subst (λ (o : Option Tenure). PeersAre (members_of s.kept.location) o) is sound.peers) ∙ apart

        f : Followed site.node s.kept s.asks ((from.0 ≡ site.node.0) × BodyStays s.kept (Some t) content) (epoch_left s.kept (Some t) + rank (stand_of site.node s.kept (Some t)) content)
            (asks_follow (ground_of site s) (Some t) s.asks (hears_in (ground_of site s) s.primary.learnt (Some t) from content))
        f =
            follow (ground_of site s).place s.kept refl (site.body s.kept.file) (Some t) s.asks ((from.0 ≡ site.node.0) × BodyStays s.kept (Some t) content) (epoch_left s.kept (Some t) + rank (stand_of site.node s.kept (Some t)) content)
            stands.ids.asks.waiting (subst (λ (o : Option Tenure). AreOne (issued_by o) s.asks.issued) is sound.issued) (hears_in (ground_of site s) s.primary.learnt (Some t) from content)
            (epoch_heard (ground_of site s).place s.kept refl (site.body s.kept.file) s.primary.learnt t from stands.head (subst (IfTenure site.node s.kept.head) is stands.tenure) peers_apart
            (subst (TenureIs (IsApart site.node)) is stands.ids.tenure) content (message_epoch content) refl heard)

        led_by : (sent : Option Payload) → IfLeads sent (asks_follow (ground_of site s) (Some t) s.asks (hears_in (ground_of site s) s.primary.learnt (Some t) from content)).primary.tenure
            → IfLed sent (serves_to s (asks_follow (ground_of site s) (Some t) s.asks (hears_in (ground_of site s) s.primary.learnt (Some t) from content))).state
        led_by None is = tt
        led_by (Some c) is = inr (subst IsHeld (sym lease_is) is_held, is)

        lower : from.0 ≡ site.node.0 → BodyStays s.kept (Some t) content
            → chain_weight site.node (serves_to s (asks_follow (ground_of site s) (Some t) s.asks (hears_in (ground_of site s) s.primary.learnt (Some t) from content))).state f.sent + 1 ≤ chain_weight site.node s (Some content)
        lower own bodies =
            let low = f.lighter (own, bodies) in
            let now = held_left s.lease served.primary.tenure (kept_after s.kept served.turned.rec) served.asks f.sent (serves_to s (asks_follow (ground_of site s) (Some t) s.asks (hears_in (ground_of site s) s.primary.learnt (Some t) from content))).state (subst IsHeld (sym lease_is) is_held) refl refl refl refl in
            let before : epoch_left s.kept s.primary.tenure + rank (stand_of site.node s.kept s.primary.tenure) content ≡ epoch_left s.kept (Some t) + rank (stand_of site.node s.kept (Some t)) content
            = ap (λ (o : Option Tenure). epoch_left s.kept o + rank (stand_of site.node s.kept o) content) is in
            omega (arith, low, now, before)

    primary_given : (content : Payload) (l : LeaseState) → is_lease content ≡ false → (from.0 ≡ site.node.0 → Stands s.kept content) → s.lease ≡ l → Comes site.node from content s (primary_hears site s l from content)
    unfolding hears
    primary_given content (held h) is_primary heard is = heard_at content (held h) s.primary.tenure is_primary heard is tt refl
    primary_given content (free p) is_primary heard is = nothing_comes content is_primary
    primary_given content (asking r) is_primary heard is = nothing_comes content is_primary
    primary_given content (writing r) is_primary heard is = nothing_comes content is_primary

    -- ---- any message but an ask

    -- Any message but an ask; one of the primary stands, where it came from the own node.
    pub message_given : (content : Payload) → is_ask content ≡ false → (from.0 ≡ site.node.0 → is_lease content ≡ false → Stands s.kept content) → Comes site.node from content s (message_comes site s from content)
    message_given (payload.Ask number capability asked) no_ask heard = absurd (false_true (sym no_ask))
    message_given (payload.Read file ballot) no_ask heard = read_given (payload.Read file ballot) ballot refl (le_refl 4)
    message_given (payload.Write file ballot boot x) no_ask heard = write_given (payload.Write file ballot boot x) ballot boot x refl (le_refl 2)
    message_given (payload.Promise file ballot boot report) no_ask heard = answer_given (payload.Promise file ballot boot report) refl (omega arith) apart
    message_given (payload.Accepted file ballot boot) no_ask heard = answer_given (payload.Accepted file ballot boot) refl (omega arith) apart
    message_given (payload.Outrun file ballot seen) no_ask heard = answer_given (payload.Outrun file ballot seen) refl (omega arith) apart
    message_given (payload.Gather file epoch) no_ask heard =
        acted_given (payload.Gather file epoch) (gathered s.kept.file s.kept.head epoch) refl (gather_acts site.node s.kept from stands.head file epoch (λ mine. heard mine refl))
    message_given (payload.Fetch file epoch object version) no_ask heard =
        fetch_given (payload.Fetch file epoch object version) (fetched_from s.kept.file s.kept.held (site.body s.kept.file) epoch object version) refl (λ mine. heard mine refl)
    message_given (payload.Stage file epoch object version bytes) no_ask heard =
        acted_given (payload.Stage file epoch object version bytes) (staged s.kept.file s.kept.head s.kept.held epoch object version bytes) refl (stage_acts site.node s.kept from stands.head file epoch object version bytes (λ mine. heard mine refl))
    message_given (payload.Head file epoch head) no_ask heard =
        acted_given (payload.Head file epoch head) (headed s.kept.file s.kept.head s.kept.held epoch head) refl (head_acts site.node s.kept from stands.head file epoch head (λ mine. heard mine refl))
    message_given (payload.Update file update) no_ask heard =
        acted_given (payload.Update file update) (updated s.kept.file s.kept.head update) refl (update_acts site.node s.kept from stands.head file update (λ mine. heard mine refl))
    message_given content no_ask heard = primary_given content s.lease refl (λ mine. heard mine refl) refl
