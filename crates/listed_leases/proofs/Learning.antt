-- the count of rounds over the rows of a lease: it doesn't fall, and all else of who asks stays
use Rattle.std.proofs.Common.{◌≡◌, ◌≤◌, ◌∙◌, ◌+◌, ℕ, Bool, true, false, refl, ap, sym, subst, [], ◌∷◌, Option, Some, None, cond, arith}
use Rattle.std.specs.Prelude.{◌==◌, max, nat_le, count_by, map}
use Rattle.std.specs.List.{list_any}
use Rattle.xt_base.specs.TimeSettings.{TimeSettings}
use Rattle.xt_base.specs.declared.ids.NodeId.{NodeId}
use Rattle.xt_base.specs.declared.ids.Boot.{Boot}
use Rattle.xt_base.specs.declared.ids.Ballot.{Ballot}
use Rattle.xt_base.specs.declared.ids.Lease.{Lease}
use Rattle.xt_messages.specs.declared.message.Payload.{Payload}
use Rattle.xt_messages.specs.declared.message.Payload.TheVariants as payload
use Rattle.xt_protocol.specs.Register.{Acceptor, Promised, Read, Round, Took, Write, alive, awaits_promise, ballot_lt, bars, counted, counted_pairs, has_promise, ignored, live_report, majority_of, new_acceptor, on_acceptance, on_promise, on_write, promise_counted, promise_ignored, read_outrun, read_promised, read_under, report_after_write, report_taken, same_ballot, with_promise, write_accepted, write_other_boot, write_outrun, write_to, write_under, lease_of}
use Rattle.xt_protocol.specs.LeaseRows.{Held, LeaseState, LeaseStep, Proposer, Renewing, asked_by, asking, free, has_run_out, has_turn, held, is_inside, lease_expired, lease_won, no_news, on_answer, outrun_learnt, renewal_accepted, renewal_answered, renewal_ignores, renewal_left, renewal_outrun, renewal_promised, renewal_under, renewal_won, renewed, round_over, round_starts, round_won, step_of_asking, step_of_written, with_renewal, without_renewal, won_too_late, writing, written_still, written_won}
use Rattle.lease_runs.specs.LeaseWorld.{LeaseRow, LeaseSetting, row_asks, row_handles, row_learns, row_lets_go, expired_row}
use Rattle.lease_runs.specs.LeaseWorld as world
use Rattle.list_rows.specs.ListRows.{proposer_of}
use Rattle.listed_leases.specs.LeaseView as view

-- the same node, boot and times, and a count that isn't below
pub record Learns (p q : Proposer) : Type 0 where
  pub node : q.node ≡ p.node
  pub boot : q.boot ≡ p.boot
  pub times : q.times ≡ p.times
  pub known : p.known ≤ q.known

at_least : (n : ℕ) → n ≤ n
at_least n = grind (arith)

pub learns_itself : (p : Proposer) → Learns p p
learns_itself p = record { node = refl; boot = refl; times = refl; known = at_least p.known }

pub learns_as : (p q : Proposer) → q ≡ p → Learns p q
learns_as p q is = subst (λ (x : Proposer). Learns p x) (sym is) (learns_itself p)

rises : (a b c : ℕ) → a ≤ b → b ≤ c → a ≤ c
rises a b c first second = grind (arith, first, second)

pub learns_then : (p q r : Proposer) → Learns p q → Learns q r → Learns p r
learns_then p q r first second =
    record {
      node = second.node ∙ first.node;
      boot = second.boot ∙ first.boot;
      times = second.times ∙ first.times;
      known = rises p.known q.known r.known first.known second.known;
    }

below_max : (a b : ℕ) → a ≤ max a b
below_max a b = grind (arith)

learns_outrun : (p : Proposer) (seen : Ballot) → Learns p (outrun_learnt p seen)
learns_outrun p seen = record { node = refl; boot = refl; times = refl; known = below_max p.known seen.count }

one_more : (n : ℕ) → n ≤ n + 1
one_more n = grind (arith)

-- so it is what learning of a ballot leaves
abbrev pub as_ballot : Proposer → Ballot
as_ballot q = record { count = q.known; node = q.node; boot = q.boot }

max_is : (a b : ℕ) → a ≤ b → max a b ≡ b
max_is a b le = grind (arith, le)

pub learnt_so : (p q : Proposer) → Learns p q → outrun_learnt p (as_ballot q) ≡ q
learnt_so p q l =
    ap (λ (n : ℕ). let x : Proposer = record { node = p.node; boot = p.boot; times = p.times; known = n } in x) (max_is p.known q.known l.known)
    ∙ ap (λ (n : NodeId). let x : Proposer = record { node = n; boot = p.boot; times = p.times; known = q.known } in x) (sym l.node)
    ∙ ap (λ (b : Boot). let x : Proposer = record { node = q.node; boot = b; times = p.times; known = q.known } in x) (sym l.boot)
    ∙ ap (λ (t : TimeSettings). let x : Proposer = record { node = q.node; boot = q.boot; times = t; known = q.known } in x) (sym l.times)

-- ---- a round keeps its ballot and its times

over_promise : (r : Round) (now : ℕ) (from : NodeId) (boot : Boot) (report : Option Lease) → round_over (on_promise r now from boot report).round ≡ round_over r
over_promise r now from boot report = one_of (list_any (awaits_promise from) r.seats) (report_taken report r now from boot) (promise_ignored r) (taken report) refl
  where
    So : Promised → Type 0
    So p = round_over p.round ≡ round_over r

    one_of : (b : Bool) (x y : Promised) → So x → So y → So (cond b x y)
    one_of true x y p q = p
    one_of false x y p q = q

    counts : So (promise_counted r from boot)
    counts =
        let seats = map (with_promise from boot) r.seats in
        let counting = record r { seats = seats } in
        one_of r.written (record { round = counting; took = write_to ((from, boot) ∷ []) }) _ refl
        (one_of (nat_le (majority_of r) (count_by has_promise seats)) (record { round = record counting { written = true }; took = write_to (counted_pairs seats) })
        (record { round = counting; took = counted }) refl refl)

    taken : (o : Option Lease) → So (report_taken o r now from boot)
    taken None = counts
    taken (Some l) =
        one_of (bars r now l) _ (promise_counted r from boot) (one_of r.written (report_after_write r) (live_report r l) refl refl) counts

-- ---- an answer

abbrev Taught : LeaseState → LeaseStep → Type 0
Taught l step = Learns (proposer_of l) (proposer_of step.state)

either : (l : LeaseState) (b : Bool) (x y : LeaseStep) → Taught l x → Taught l y → Taught l (cond b x y)
either l true x y p q = p
either l false x y p q = q

asked_over : (k : Ballot) (l : Lease) (took : Took) (round : Round) → proposer_of (step_of_asking k l (asked_by took round)).state ≡ round_over round
asked_over k l ignored round = refl
asked_over k l counted round = refl
asked_over k l (write_to targets) round = refl
asked_over k l (alive found) round = refl

asking_taught : (r : Round) (now : ℕ) (from : NodeId) (content : Payload) → Taught (asking r) (on_answer (asking r) now from content)
asking_taught r now from (payload.Promise file ballot boot report) =
    let promised = on_promise r now from boot report in
    either (asking r) (same_ballot ballot r.ballot) _ _
    (learns_as (round_over r) _ (asked_over r.ballot (lease_of r) promised.took promised.round ∙ over_promise r now from boot report))
    (learns_itself (round_over r))
asking_taught r now from (payload.Outrun file ballot seen) =
    either (asking r) (same_ballot ballot r.ballot) _ _ (learns_outrun (round_over r) seen) (learns_itself (round_over r))
asking_taught r now from _ = learns_itself (round_over r)

won_over : (r : Round) (now : ℕ) (b : Bool) → Taught (writing r) (step_of_written (cond b (written_won (lease_won r)) (won_too_late r)))
won_over r now true = learns_itself (round_over r)
won_over r now false = learns_itself (round_over r)

writing_over : (r : Round) (now : ℕ) (b : Bool) → Taught (writing r) (step_of_written (cond b (round_won r now) (written_still r)))
writing_over r now true = won_over r now (is_inside (lease_of r).end r.times now)
writing_over r now false = learns_itself (round_over r)

writing_taught : (r : Round) (now : ℕ) (from : NodeId) (content : Payload) → Taught (writing r) (on_answer (writing r) now from content)
writing_taught r now from (payload.Promise file ballot boot report) =
    either (writing r) (same_ballot ballot r.ballot) _ _ (learns_as (round_over r) _ (over_promise r now from boot report)) (learns_itself (round_over r))
writing_taught r now from (payload.Accepted file ballot boot) =
    let taken = on_acceptance r from boot in
    either (writing r) (same_ballot ballot r.ballot) _ _ (writing_over taken.round now taken.wins) (learns_itself (round_over r))
writing_taught r now from (payload.Outrun file ballot seen) =
    either (writing r) (same_ballot ballot r.ballot) _ _ (learns_outrun (round_over r) seen) (learns_itself (round_over r))
writing_taught r now from _ = learns_itself (round_over r)

abbrev Renewed : Held → Renewing → Type 0
Renewed h n = Learns h.proposer n.held.proposer

either_held : (h : Held) (b : Bool) (x y : Renewing) → Renewed h x → Renewed h y → Renewed h (cond b x y)
either_held h true x y p q = p
either_held h false x y p q = q

promised_held : (took : Took) (h : Held) (r : Round) → Renewed h (renewal_promised took h r)
promised_held ignored h r = learns_itself h.proposer
promised_held counted h r = learns_itself h.proposer
promised_held (write_to targets) h r = learns_itself h.proposer
promised_held (alive found) h r = learns_itself h.proposer

accepted_held : (h : Held) (r : Round) (now : ℕ) (from : NodeId) (boot : Boot) → Renewed h (renewal_accepted h r now from boot)
accepted_held h r now from boot =
    let taken = on_acceptance r from boot in
    let end = (lease_of taken.round).end in
    either_held h taken.wins (renewal_won h taken.round now) (record { held = with_renewal h taken.round; renewal = no_news })
    (either_held h (is_inside end taken.round.times now) (record { held = record { proposer = h.proposer; end = end; renewal = None }; renewal = renewed end })
    (record { held = without_renewal h; renewal = no_news }) (learns_itself h.proposer) (learns_itself h.proposer))
    (learns_itself h.proposer)

answered_held : (h : Held) (r : Round) (now : ℕ) (from : NodeId) (content : Payload) → Renewed h (renewal_answered h r now from content)
answered_held h r now from (payload.Promise file ballot boot report) =
    let promised = on_promise r now from boot report in
    either_held h (same_ballot ballot r.ballot) (renewal_promised promised.took h promised.round) (renewal_ignores h) (promised_held promised.took h promised.round) (learns_itself h.proposer)
answered_held h r now from (payload.Accepted file ballot boot) =
    either_held h (same_ballot ballot r.ballot) (renewal_accepted h r now from boot) (renewal_ignores h) (accepted_held h r now from boot) (learns_itself h.proposer)
answered_held h r now from (payload.Outrun file ballot seen) =
    either_held h (same_ballot ballot r.ballot) (renewal_outrun h seen) (renewal_ignores h) (learns_outrun h.proposer seen) (learns_itself h.proposer)
answered_held h r now from _ = learns_itself h.proposer

under_held : (o : Option Round) (h : Held) (now : ℕ) (from : NodeId) (content : Payload) → Renewed h (renewal_under o h now from content)
under_held None h now from content = learns_itself h.proposer
under_held (Some r) h now from content = answered_held h r now from content

answer_taught : (l : LeaseState) (now : ℕ) (from : NodeId) (content : Payload) → Taught l (on_answer l now from content)
answer_taught (free p) now from content = learns_itself p
answer_taught (asking r) now from content = asking_taught r now from content
answer_taught (writing r) now from content = writing_taught r now from content
answer_taught (held h) now from content = under_held h.renewal h now from content

-- ---- rows

-- the same boot of the acceptor, and who asks has at most learnt
pub record GoesOn (x y : LeaseRow) : Type 0 where
  pub boot : y.acceptor.boot ≡ x.acceptor.boot
  pub learns : Learns (proposer_of x.lease) (proposer_of y.lease)

pub stays_on : (x : LeaseRow) → GoesOn x x
stays_on x = record { boot = refl; learns = learns_itself (proposer_of x.lease) }

pub on_then : (x y z : LeaseRow) → GoesOn x y → GoesOn y z → GoesOn x z
on_then x y z first second =
    record {
      boot = second.boot ∙ first.boot;
      learns = learns_then (proposer_of x.lease) (proposer_of y.lease) (proposer_of z.lease) first.learns second.learns;
    }

read_boot : (a : Acceptor) (ballot : Ballot) (o : Option Ballot) → (read_under o a ballot).acceptor.boot ≡ a.boot
read_boot a ballot None = refl
read_boot a ballot (Some promised) = one_of (ballot_lt promised ballot) (read_promised a ballot) (read_outrun a promised) refl refl
  where
    one_of : (b : Bool) (x y : Read) → x.acceptor.boot ≡ a.boot → y.acceptor.boot ≡ a.boot → (cond b x y).acceptor.boot ≡ a.boot
    one_of true x y p q = p
    one_of false x y p q = q

write_boot : (a : Acceptor) (ballot : Ballot) (boot : Boot) (l : Lease) → (on_write a ballot boot l).acceptor.boot ≡ a.boot
write_boot a ballot boot l = one_of (a.boot.0 == boot.0) (write_under a.promised a ballot l) (write_other_boot a) (under a.promised) refl
  where
    one_of : (b : Bool) (x y : Write) → x.acceptor.boot ≡ a.boot → y.acceptor.boot ≡ a.boot → (cond b x y).acceptor.boot ≡ a.boot
    one_of true x y p q = p
    one_of false x y p q = q

    under : (o : Option Ballot) → (write_under o a ballot l).acceptor.boot ≡ a.boot
    under None = refl
    under (Some promised) = one_of (same_ballot promised ballot) (write_accepted a l) (write_outrun a promised) refl refl

pub handles_on : (g : LeaseSetting) (n : NodeId) (now : ℕ) (x : LeaseRow) (from : NodeId) (content : Payload) → GoesOn x (row_handles g n now x from content).row
handles_on g n now x from (payload.Read file k) = record { boot = read_boot x.acceptor k x.acceptor.promised; learns = learns_itself (proposer_of x.lease) }
handles_on g n now x from (payload.Write file k b l) = record { boot = write_boot x.acceptor k b l; learns = learns_itself (proposer_of x.lease) }
handles_on g n now x from (payload.Promise file k b report) = record { boot = refl; learns = answer_taught x.lease now from (payload.Promise file k b report) }
handles_on g n now x from (payload.Accepted file k b) = record { boot = refl; learns = answer_taught x.lease now from (payload.Accepted file k b) }
handles_on g n now x from (payload.Outrun file k seen) = record { boot = refl; learns = answer_taught x.lease now from (payload.Outrun file k seen) }
handles_on g n now x from _ = stays_on x

pub asks_on : (g : LeaseSetting) (n : NodeId) (now : ℕ) (x : LeaseRow) (l : LeaseState) → x.lease ≡ l → GoesOn x (row_asks g n now x l).row
asks_on g n now x (free p) is =
    record {
      boot = refl;
      learns = subst (λ (m : LeaseState). Learns (proposer_of m) (round_over (round_starts p now g.members))) (sym is)
          (record { node = refl; boot = refl; times = refl; known = one_more p.known });
    }
asks_on g n now x (asking r) is = stays_on x
asks_on g n now x (writing r) is = stays_on x
asks_on g n now x (held h) is =
    record {
      boot = refl;
      learns = subst (λ (m : LeaseState). Learns (proposer_of m) (record h.proposer { known = h.proposer.known + 1 })) (sym is)
          (record { node = refl; boot = refl; times = refl; known = one_more h.proposer.known });
    }

pub lets_go_on : (x : LeaseRow) → GoesOn x (row_lets_go x).row
lets_go_on x = record { boot = refl; learns = same x.lease }
  where
    same : (l : LeaseState) → Learns (proposer_of l) (world.proposer_of l)
    same (free p) = learns_itself p
    same (asking r) = learns_itself (round_over r)
    same (writing r) = learns_itself (round_over r)
    same (held h) = learns_itself h.proposer

pub renewed_on : (x : LeaseRow) → GoesOn x (view.renewed x)
renewed_on x = record { boot = refl; learns = learns_itself (proposer_of x.lease) }

pub expired_on : (now : ℕ) (x : LeaseRow) → GoesOn x (expired_row now x)
expired_on now x = record { boot = refl; learns = over x.lease }
  where
    over : (l : LeaseState) → Learns (proposer_of l) (proposer_of (lease_expired l now))
    over (free p) = learns_itself p
    over (asking r) = one_of (has_run_out r now)
      where
        one_of : (b : Bool) → Learns (round_over r) (proposer_of (cond b (free (round_over r)) (asking r)))
        one_of true = learns_itself (round_over r)
        one_of false = learns_itself (round_over r)
    over (writing r) = one_of (has_run_out r now)
      where
        one_of : (b : Bool) → Learns (round_over r) (proposer_of (cond b (free (round_over r)) (writing r)))
        one_of true = learns_itself (round_over r)
        one_of false = learns_itself (round_over r)
    over (held h) = one_of (has_turn h now)
      where
        one_of : (b : Bool) → Learns h.proposer (proposer_of (cond b (held (record h { renewal = renewal_left h.renewal now })) (free h.proposer)))
        one_of true = learns_itself h.proposer
        one_of false = learns_itself h.proposer

-- seen before the node comes to the list, a row that goes on has learnt of a count
pub renewed_learns : (x y : LeaseRow) → GoesOn x y → view.renewed y ≡ (row_learns (as_ballot (proposer_of y.lease)) (view.renewed x)).row
renewed_learns x y on =
    ap (λ (b : Boot). let r : LeaseRow = record { acceptor = new_acceptor b; lease = free (proposer_of y.lease) } in r) on.boot
    ∙ ap (λ (p : Proposer). let r : LeaseRow = record { acceptor = new_acceptor x.acceptor.boot; lease = free p } in r)
    (sym (learnt_so (proposer_of x.lease) (proposer_of y.lease) on.learns))
