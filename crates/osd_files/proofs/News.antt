-- what the news of a round say of the lease
use Rattle.std.proofs.Common.{◌≡◌, ◌∙◌, ℕ, Bool, true, false, refl, ap, sym, Option, Some, None, cond, IsTrue}
use Rattle.std.specs.Option.{is_some}
use Rattle.xt_base.specs.TimeSettings.{TimeSettings}
use Rattle.xt_base.specs.declared.ids.NodeId.{NodeId}
use Rattle.xt_base.specs.declared.ids.Boot.{Boot}
use Rattle.xt_base.specs.declared.ids.Ballot.{Ballot}
use Rattle.xt_base.specs.declared.ids.Lease.{Lease}
use Rattle.xt_messages.specs.declared.file.Location.{Location}
use Rattle.xt_messages.specs.declared.message.Payload.{Payload}
use Rattle.xt_messages.specs.declared.message.Payload.TheVariants as payload
use Rattle.flease.specs.Answers.{shown_read, shown_write}
use Rattle.flease.specs.Shown.{shown_news}
use Rattle.flease.specs.Moves.{turn_of}
use Rattle.osd_invariants.specs.Sound.{IsStored, ListUnder}
use Rattle.xt_protocol.specs.Register as register
use Rattle.xt_protocol.specs.Register.{Round, Took, ignored, counted, write_to, alive, on_promise, same_ballot, lease_of, on_acceptance}
use Rattle.xt_protocol.specs.LeaseRows.{LeaseState, LeaseStep, LeaseNews, Held, Renewing, Written, Turn, free, asking, writing, held, has_turn, is_inside, on_answer, renewal_under, renewal_answered, renewal_promised, renewal_accepted, renewal_won, news_of_renewal, news_of_targets, targets_of, asked_by, answer_asking, answer_writing, writing_accepted, step_of_asking, step_of_written, round_won, lease_won, won_too_late, written_won, written_still, round_over, outrun_learnt, without_renewal, with_renewal, renewed, no_news, renewal_ignores, renewal_outrun, nothing, sends_write, holds, finds, ends}
use Rattle.osd_files.specs.Answers.{read_answer, write_answer, news_of, HoldBy}
use Rattle.osd_files.specs.Owners.{Owner, owner_of, owner_of_proposer, renewer_in}
use Rattle.osd_files.proofs.Owned.{IsOwn, either}

pub read_back : (a : register.ReadAnswer) → read_answer (shown_read a) ≡ a
read_back (register.promise report) = refl
read_back (register.read_refused seen) = refl

pub write_back : (a : register.WriteAnswer) → write_answer (shown_write a) ≡ a
write_back register.accepted = refl
write_back (register.write_refused seen) = refl
write_back register.other_boot = refl

pub news_back : (n : LeaseNews) → news_of (shown_news n) ≡ n
news_back nothing = refl
news_back (sends_write ballot lease targets) = refl
news_back (holds end) = refl
news_back (finds found) = refl
news_back ends = refl

-- whose a turn is
pub turn_node : (l : LeaseState) (now : ℕ) (turn : Turn) → turn_of l now ≡ Some turn → turn.node ≡ (owner_of l).node
turn_node (held h) now turn is = of (has_turn h now) is
  where
    of : (b : Bool) → cond b (Some (record { node = h.proposer.node; moment = now })) None ≡ Some turn → turn.node ≡ h.proposer.node
    of true is = sym (ap (λ (t : Option Turn). elim t [ None ↦ h.proposer.node | Some t ↦ t.node ]) is)
    of false is = absurd cc
turn_node (free p) now turn is = absurd cc
turn_node (asking r) now turn is = absurd cc
turn_node (writing r) now turn is = absurd cc

-- A lease that is held by the news gives a turn.

pub either_by : {A : Type 0} (P : A → Type 0) (b : Bool) (x y : A) → (b ≡ true → P x) → P y → P (cond b x y)
either_by P true x y px py = px refl
either_by P false x y px py = py

some_when : (b : Bool) (t : Turn) → b ≡ true → IsTrue (is_some (cond b (Some t) None))
some_when true t is = refl
some_when false t is = absurd cc

abbrev holds_so : ℕ → Option Location → LeaseStep → Type 0
holds_so now location s = HoldBy (shown_news s.news) s.state now location

asked_so : (now : ℕ) (location : Option Location) (took : Took) (r : Round) (ballot : Ballot) (lease : Lease) → holds_so now location (step_of_asking ballot lease (asked_by took r))
asked_so now location ignored r ballot lease = tt
asked_so now location counted r ballot lease = tt
asked_so now location (write_to targets) r ballot lease = tt
asked_so now location (alive found) r ballot lease = tt

asking_so : (location : Option Location) (r : Round) (now : ℕ) (from : NodeId) (content : Payload) → holds_so now location (answer_asking r now from content)
asking_so location r now from (payload.Promise file ballot boot report) =
    let promised = on_promise r now from boot report in
    let still : LeaseStep = record { state = asking r; news = nothing } in
    either (holds_so now location) (same_ballot ballot r.ballot) (step_of_asking r.ballot (lease_of r) (asked_by promised.took promised.round)) still
    (asked_so now location promised.took promised.round r.ballot (lease_of r)) tt
asking_so location r now from (payload.Outrun file ballot seen) =
    let over : LeaseStep = record { state = free (outrun_learnt (round_over r) seen); news = ends } in
    let still : LeaseStep = record { state = asking r; news = nothing } in
    either (holds_so now location) (same_ballot ballot r.ballot) over still tt tt
asking_so location r now from _ = tt

targets_so : (now : ℕ) (location : Option Location) (l : LeaseState) (took : Took) (ballot : Ballot) (lease : Lease)
    → holds_so now location (record { state = l; news = news_of_targets ballot lease (targets_of took) })
targets_so now location l ignored ballot lease = tt
targets_so now location l counted ballot lease = tt
targets_so now location l (write_to targets) ballot lease = tt
targets_so now location l (alive found) ballot lease = tt

won_so : (location : Option Location) (r : Round) (now : ℕ) → IsStored location → holds_so now location (step_of_written (round_won r now))
won_so location r now stored =
    let P : Written → Type 0 = λ w. holds_so now location (step_of_written w) in
    let inside = is_inside (lease_of r).end r.times now in
    either_by P inside (written_won (lease_won r)) (won_too_late r) (λ is. (some_when inside (record { node = r.ballot.node; moment = now }) is, stored)) tt

written_so : (location : Option Location) (r : Round) (now : ℕ) (from : NodeId) (boot : Boot) → IsStored location → holds_so now location (step_of_written (writing_accepted r now from boot))
written_so location r now from boot stored =
    let P : Written → Type 0 = λ w. holds_so now location (step_of_written w) in
    let taken = on_acceptance r from boot in
    either P taken.wins (round_won taken.round now) (written_still taken.round) (won_so location taken.round now stored) tt

writing_so : (location : Option Location) (r : Round) (now : ℕ) (from : NodeId) (content : Payload) → IsStored location → holds_so now location (answer_writing r now from content)
writing_so location r now from (payload.Promise file ballot boot report) stored =
    let promised = on_promise r now from boot report in
    let counted_on : LeaseStep = record { state = writing promised.round; news = news_of_targets r.ballot (lease_of r) (targets_of promised.took) } in
    let still : LeaseStep = record { state = writing r; news = nothing } in
    either (holds_so now location) (same_ballot ballot r.ballot) counted_on still
    (targets_so now location (writing promised.round) promised.took r.ballot (lease_of r)) tt
writing_so location r now from (payload.Accepted file ballot boot) stored =
    let still : LeaseStep = record { state = writing r; news = nothing } in
    either (holds_so now location) (same_ballot ballot r.ballot) (step_of_written (writing_accepted r now from boot)) still
    (written_so location r now from boot stored) tt
writing_so location r now from (payload.Outrun file ballot seen) stored =
    let over : LeaseStep = record { state = free (outrun_learnt (round_over r) seen); news = ends } in
    let still : LeaseStep = record { state = writing r; news = nothing } in
    either (holds_so now location) (same_ballot ballot r.ballot) over still tt tt
writing_so location r now from _ stored = tt

-- a renewal
abbrev renews_so : ℕ → Option Location → Round → Renewing → Type 0
renews_so now location r n = HoldBy (shown_news (news_of_renewal (Some r) n.renewal)) (held n.held) now location

took_so : (now : ℕ) (location : Option Location) (took : Took) (h : Held) (r old : Round) → renews_so now location old (renewal_promised took h r)
took_so now location ignored h r old = tt
took_so now location counted h r old = tt
took_so now location (write_to targets) h r old = tt
took_so now location (alive found) h r old = tt

renewed_so : (location : Option Location) (h : Held) (r old : Round) (now : ℕ) → r.times ≡ h.proposer.times → IsStored location → renews_so now location old (renewal_won h r now)
renewed_so location h r old now same stored =
    let end = (lease_of r).end in
    let later : Renewing = record { held = record { proposer = h.proposer; end = end; renewal = None }; renewal = renewed end } in
    let late : Renewing = record { held = without_renewal h; renewal = no_news } in
    either_by (renews_so now location old) (is_inside end r.times now) later late
    (λ is. (some_when (is_inside end h.proposer.times now) (record { node = h.proposer.node; moment = now }) (ap (λ (t : TimeSettings). is_inside end t now) (sym same) ∙ is), stored))
    tt

accepted_so : (location : Option Location) (h : Held) (r : Round) (now : ℕ) (from : NodeId) (boot : Boot) → r.times ≡ h.proposer.times → IsStored location
    → renews_so now location r (renewal_accepted h r now from boot)
accepted_so location h r now from boot same stored =
    let taken = on_acceptance r from boot in
    let still : Renewing = record { held = with_renewal h taken.round; renewal = no_news } in
    either (renews_so now location r) taken.wins (renewal_won h taken.round now) still (renewed_so location h taken.round r now same stored) tt

renewing_so : (location : Option Location) (h : Held) (r : Round) (now : ℕ) (from : NodeId) (content : Payload) → r.times ≡ h.proposer.times → IsStored location
    → renews_so now location r (renewal_answered h r now from content)
renewing_so location h r now from (payload.Promise file ballot boot report) same stored =
    let promised = on_promise r now from boot report in
    either (renews_so now location r) (same_ballot ballot r.ballot) (renewal_promised promised.took h promised.round) (renewal_ignores h)
    (took_so now location promised.took h promised.round r) tt
renewing_so location h r now from (payload.Accepted file ballot boot) same stored =
    either (renews_so now location r) (same_ballot ballot r.ballot) (renewal_accepted h r now from boot) (renewal_ignores h)
    (accepted_so location h r now from boot same stored) tt
renewing_so location h r now from (payload.Outrun file ballot seen) same stored =
    either (renews_so now location r) (same_ballot ballot r.ballot) (renewal_outrun h seen) (renewal_ignores h) tt tt
renewing_so location h r now from _ same stored = tt

held_so : (owner : Owner) (location : Option Location) (renewal : Option Round) (h : Held) (now : ℕ) (from : NodeId) (content : Payload) → owner_of_proposer h.proposer ≡ owner
    → renewer_in owner renewal ≡ owner → IsStored location
    → HoldBy (shown_news (news_of_renewal renewal (renewal_under renewal h now from content).renewal)) (held (renewal_under renewal h now from content).held) now location
held_so owner location None h now from content own mine stored = tt
held_so owner location (Some r) h now from content own mine stored =
    renewing_so location h r now from content (ap (λ (o : Owner). o.times) (mine ∙ sym own)) stored

pub answer_holds : (owner : Owner) (location : Option Location) (l : LeaseState) (now : ℕ) (from : NodeId) (content : Payload) → IsOwn owner l → ListUnder l location
    → HoldBy (shown_news (on_answer l now from content).news) (on_answer l now from content).state now location
answer_holds owner location (free p) now from content own stored = tt
answer_holds owner location (asking r) now from content own stored = asking_so location r now from content
answer_holds owner location (writing r) now from content own stored = writing_so location r now from content stored
answer_holds owner location (held h) now from content own stored = held_so owner location h.renewal h now from content own.lease own.renewal stored
