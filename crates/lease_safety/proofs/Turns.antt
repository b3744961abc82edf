-- The moves of the file's proposers and acceptors.
use Rattle.std.proofs.Common.{◌≡◌, ℕ, ◌+◌, ◌<◌, ◌≤◌, ◌∷◌, arith, refl, sym, ◌∙◌, ap, inl, inr, subst}
use Rattle.std.specs.Prelude.{◌⊎◌, true, Option, Some, None, IfSome}
use Rattle.lease_safety.specs.Rounds.{Ballot, Round, IsBelow, IsSameProposer, end_of}
use Rattle.lease_safety.specs.State.{Setting, Nodes, Promise, Vote, State, Has, put}
use Rattle.lease_safety.specs.Moves.{Round_begins, Round_promised, Promise_counted, Round_accepted, Round_held, after}
use Rattle.lease_safety.specs.Legal.{every_rule, RoundMayBegin, MayPromise, MayCount, MayAccept, MayHold, IsHarmless, Majority, HasAccepted}
use Rattle.lease_safety.specs.Leases.{IsOver}
use Rattle.lease_safety.proofs.Lists.{put-same, put-other, same_or_other, each, each_two}
use Rattle.lease_safety.proofs.Moments.{votes_begun}
use Rattle.lease_safety.proofs.Sound.{Sound, IsAtMost, IsPromised, PromisesSound, HeldSound}

-- The order of ballots.
below_both_ways : (j k : Ballot) → IsBelow j k → IsBelow k j → ⊥
below_both_ways j k a b = grind arith

below_itself : (j : Ballot) → IsBelow j j → ⊥
below_itself j a = grind arith

below_trans : (i j k : Ballot) → IsBelow i j → IsBelow j k → IsBelow i k
below_trans i j k a b = grind arith

pub below_or_same : (j k : Ballot) → IsSameProposer j k ⊎ (IsBelow j k ⊎ IsBelow k j)
below_or_same j k = grind arith

below_count : (j k : Ballot) → IsSameProposer j k → IsBelow j k → j.count < k.count
below_count j k a b = grind arith

-- What is at most the last one, is below what is above that.
at_most_below : (j k : Round) (last : Option Round) → IsAtMost j last → IfSome last (λ l. IsBelow l.ballot k.ballot) → IsBelow j.ballot k.ballot
at_most_below j k None a b = absurd a
at_most_below j k (Some l) (inl e) b = subst (λ (r : Round). IsBelow r.ballot k.ballot) (sym e) b
at_most_below j k (Some l) (inr less) b = below_trans j.ballot l.ballot k.ballot less b

-- What is at most the last one is not above it.
at_most_not_above : (j k : Round) (last : Option Round) → IsAtMost j last → last ≡ Some k → IsBelow k.ballot j.ballot → ⊥
at_most_not_above j k None a is b = a
at_most_not_above j k (Some l) (inl e) is b = let same : j ≡ k = cc in below_itself k.ballot (subst (λ (r : Round). IsBelow k.ballot r.ballot) same b)
at_most_not_above j k (Some l) (inr less) is b =
    let same : l ≡ k = cc in
    below_both_ways j.ballot k.ballot (subst (λ (r : Round). IsBelow j.ballot r.ballot) same less) b

-- What an acceptor's present boot has promised is at most what it promised last.
promised_now : (s : State) (v : Vote) → PromisesSound s.nodes s.rounds s.promised s.promises → IsPromised s.promises v → v.boot ≡ s.nodes.boot v.node
    → IsAtMost v.round (s.promised v.node)
promised_now s v sound is now =
    let p = is.promise in
    subst (λ (r : Round). IsAtMost r (s.promised v.node)) is.round
    (subst (λ (n : ℕ). IsAtMost p.round (s.promised n)) is.node
    (sound.now p is.made (is.boot ∙ (now ∙ ap s.nodes.boot (sym is.node)))))

pub begin_keeps : (g : Setting) (s : State) (round : Round) → RoundMayBegin every_rule s round → Sound g s → Sound g (after s (Round_begins round))
begin_keeps g s round may sound =
    record {
      close = sound.close;
      rounds = record {
        boot = each (λ (r : Round). r.ballot.boot ≤ s.nodes.boot r.ballot.node) round s.rounds (omega (arith, may.boot)) sound.rounds.boot;
        clock = each (λ (r : Round). s.nodes.runs r.ballot.node ≡ true → s.nodes.boot r.ballot.node ≡ r.ballot.boot → r.began ≤ s.nodes.clock r.ballot.node) round s.rounds
            (λ runs boot. omega (arith, may.clock)) sound.rounds.clock;
        order = each_two (λ (j k : Round). IsSameProposer j.ballot k.ballot → j.ballot.count < k.ballot.count
            → s.nodes.runs j.ballot.node ≡ true → s.nodes.boot j.ballot.node ≡ j.ballot.boot → j.began ≤ k.began) round s.rounds
            (λ same less runs boot. absurd (omega arith))
            (λ k h same less runs boot. absurd (omega (arith, may.rises k h (sym same.0, sym same.1))))
            (λ j h same less runs boot.
            let clock : round.began ≡ s.nodes.clock round.ballot.node = may.clock in
            omega (arith, sound.rounds.clock j h runs boot, ap s.nodes.clock same.0))
            sound.rounds.order;
        one = each_two (λ (j k : Round). IsSameProposer j.ballot k.ballot → j.ballot.count ≡ k.ballot.count → j ≡ k) round s.rounds
            (λ same is. refl)
            (λ k h same is. absurd (omega (arith, may.rises k h (sym same.0, sym same.1))))
            (λ j h same is. absurd (omega (arith, may.rises j h same)))
            sound.rounds.one;
      };
      promises = record {
        begun = λ p h. inr (sound.promises.begun p h);
        boot = sound.promises.boot;
        now = sound.promises.now;
      };
      restarts = sound.restarts;
      votes = sound.votes;
      accepted = sound.accepted;
      reports = sound.reports;
      acceptors = sound.acceptors;
      held = sound.held;
      leases = sound.leases;
    }

-- A promise.
promise_now : (s : State) (node : ℕ) (round : Round) → IfSome (s.promised node) (λ last. IsBelow last.ballot round.ballot)
    → PromisesSound s.nodes s.rounds s.promised s.promises
    → (p : Promise) → Has p s.promises → p.boot ≡ s.nodes.boot p.node → IsAtMost p.round (put s.promised node (Some round) p.node)
promise_now s node round rises sound p h is =
    elim (same_or_other p.node node) [
      | inl e ↦ rw (put-same s.promised node p.node (Some round) e)
          (inr (at_most_below p.round round (s.promised p.node) (sound.now p h is) (subst (λ (n : ℕ). IfSome (s.promised n) (λ last. IsBelow last.ballot round.ballot)) (sym e) rises)))
      | inr ne ↦ rw (put-other s.promised node p.node (Some round) ne) (sound.now p h is)
    ]

-- The silence: when a boot promises, what the node's earlier boots promised is over.
silence_is_enough : (g : Setting) (s : State) (node : ℕ) (p : Promise) → s.nodes.runs node ≡ true → s.nodes.started node + (g.lease + g.drift) ≤ s.nodes.clock node
    → Sound g s → Has p s.promises → p.node ≡ node → p.boot < s.nodes.boot node → IsOver g s.nodes p.round
silence_is_enough g s node p running silent sound h is less runs boot =
    let began = sound.restarts.restarted p h (omega (arith, ap s.nodes.boot is)) runs boot in
    omega (arith, began, ap s.nodes.started is, sound.close node p.round.ballot.node running runs)

-- What the present boot accepted is below what it may promise.
accepted_below : (g : Setting) (s : State) (node : ℕ) (round r : Round) → IfSome (s.promised node) (λ last. IsBelow last.ballot round.ballot)
    → Sound g s → s.accepted node ≡ Some r → IsBelow r.ballot round.ballot
accepted_below g s node round r rises sound is =
    let v : Vote = record { node = node; boot = s.nodes.boot node; round = r } in
    let promised = sound.votes.promised v (sound.votes.first v (sound.accepted.was node r is)) in
    at_most_below r round (s.promised node) (promised_now s v sound.promises promised refl) rises

pub promise_keeps : (g : Setting) (s : State) (node : ℕ) (round : Round) → MayPromise every_rule g s node round → Sound g s → Sound g (after s (Round_promised node round))
promise_keeps g s node round may sound =
    let new : Promise = record { node = node; boot = s.nodes.boot node; round = round; report = s.accepted node } in
    record {
      close = sound.close;
      rounds = sound.rounds;
      promises = record {
        begun = each (λ (p : Promise). Has p.round s.rounds) new s.promises may.begun sound.promises.begun;
        boot = each (λ (p : Promise). p.boot ≤ s.nodes.boot p.node) new s.promises (omega arith) sound.promises.boot;
        now = each (λ (p : Promise). p.boot ≡ s.nodes.boot p.node → IsAtMost p.round (put s.promised node (Some round) p.node)) new s.promises
            (λ is. rw (put-same s.promised node node (Some round) refl) (inl refl))
            (promise_now s node round may.rises sound.promises);
      };
      restarts = record {
        restarted = each (λ (p : Promise). p.boot < s.nodes.boot p.node → s.nodes.runs p.round.ballot.node ≡ true
            → s.nodes.boot p.round.ballot.node ≡ p.round.ballot.boot → p.round.began ≤ s.nodes.started p.node + g.drift) new s.promises
            (λ less runs boot. absurd (omega arith))
            sound.restarts.restarted;
        forgotten = each_two (λ (p q : Promise). p.node ≡ q.node → p.boot < q.boot → IsOver g s.nodes p.round) new s.promises
            (λ is less. absurd (omega arith))
            (λ q h is less. absurd (omega (arith, sound.promises.boot q h, ap s.nodes.boot is)))
            (λ p h is less. silence_is_enough g s node p may.runs may.silent sound h is less)
            sound.restarts.forgotten;
      };
      votes = record {
        promised = λ v h. let was = sound.votes.promised v h in record { promise = was.promise; made = inr was.made; node = was.node; boot = was.boot; round = was.round };
        first = sound.votes.first;
      };
      accepted = sound.accepted;
      reports = record {
        was = λ p r h. each (λ (p : Promise). p.report ≡ Some r → Has (record { node = p.node; boot = p.boot; round = r }) s.accepts × IsBelow r.ballot p.round.ballot) new s.promises
            (λ is. (sound.accepted.was node r is, accepted_below g s node round r may.rises sound is))
            (λ p h is. sound.reports.was p r h is) p h;
        told = λ p v h hv. each (λ (p : Promise). p.node ≡ v.node → p.boot ≡ v.boot → IsBelow v.round.ballot p.round.ballot → IsAtMost v.round p.report) new s.promises
            (λ is boot below. subst (λ (n : ℕ). IsAtMost v.round (s.accepted n)) (sym is) (sound.accepted.now v hv (sym boot ∙ ap s.nodes.boot is)))
            (λ p h is boot below. sound.reports.told p v h hv is boot below) p h;
      };
      acceptors = sound.acceptors;
      held = sound.held;
      leases = sound.leases;
    }

-- A promise is counted.
over_by_clock : (g : Setting) (s : State) (ballot : Ballot) (r : Round) → Sound g s → s.nodes.runs ballot.node ≡ true → end_of g.lease r ≤ s.nodes.clock ballot.node
    → IsOver g s.nodes r
over_by_clock g s ballot r sound running over runs boot = omega (arith, sound.close ballot.node r.ballot.node running runs)

-- If a proposer's later round is over, so is its earlier one.
earlier_is_over : (g : Setting) (nodes : Nodes) (j k : Round) → IsSameProposer j.ballot k.ballot
    → (nodes.runs j.ballot.node ≡ true → nodes.boot j.ballot.node ≡ j.ballot.boot → j.began ≤ k.began) → IsOver g nodes k → IsOver g nodes j
earlier_is_over g nodes j k same order over runs boot =
    let before = order runs boot in
    let over_k = over (ap nodes.runs (sym same.0) ∙ runs) (ap nodes.boot (sym same.0) ∙ (boot ∙ same.1)) in
    omega (arith, ap nodes.clock same.0)

told_enough : (g : Setting) (s : State) (p : Promise) (v : Vote) (report : Option Round) → p.report ≡ report → IsHarmless every_rule g s.nodes p.round.ballot report
    → Sound g s → Has p s.promises → Has v s.accepts → v.node ≡ p.node → v.boot ≡ p.boot → IsAtMost v.round report
    → IsSameProposer v.round.ballot p.round.ballot ⊎ IsOver g s.nodes v.round
told_enough g s p v None is harmless sound hp hv node boot less = absurd less
told_enough g s p v (Some k) is harmless sound hp hv node boot (inl e) =
    elim harmless [
      | inl own ↦ inl (subst (λ (r : Round). IsSameProposer r.ballot p.round.ballot) (sym e) own)
      | inr over ↦ inr (subst (λ (r : Round). IsOver g s.nodes r) (sym e) (over_by_clock g s p.round.ballot k sound over.0 over.1))
    ]
told_enough g s p v (Some k) is harmless sound hp hv node boot (inr less) =
    let w : Vote = record { node = p.node; boot = p.boot; round = k } in
    let hw : Has w s.accepts = (sound.reports.was p k hp is).0 in
    elim (sound.acceptors v w hv (sound.votes.first w hw) node boot less) [
      | inl same ↦ elim harmless [
        | inl own ↦ inl (same.0 ∙ own.0, same.1 ∙ own.1)
        | inr over ↦
            let begun_v = votes_begun s.nodes s.rounds s.promised s.promises v sound.promises (sound.votes.promised v (sound.votes.first v hv)) in
            let begun_k = votes_begun s.nodes s.rounds s.promised s.promises w sound.promises (sound.votes.promised w (sound.votes.first w hw)) in
            let order = sound.rounds.order v.round k begun_v begun_k same (below_count v.round.ballot k.ballot same less) in
            inr (earlier_is_over g s.nodes v.round k same order (over_by_clock g s p.round.ballot k sound over.0 over.1))
      ]
      | inr over ↦ inr over
    ]

pub count_keeps : (g : Setting) (s : State) (p : Promise) → MayCount every_rule g s p → Sound g s → Sound g (after s (Promise_counted p))
count_keeps g s p may sound =
    let new : Vote = record { node = p.node; boot = p.boot; round = p.round } in
    record {
      close = sound.close;
      rounds = sound.rounds;
      promises = sound.promises;
      restarts = sound.restarts;
      votes = record {
        promised = each (λ (v : Vote). IsPromised s.promises v) new s.counted (record { promise = p; made = may.made; node = refl; boot = refl; round = refl }) sound.votes.promised;
        first = λ v h. inr (sound.votes.first v h);
      };
      accepted = sound.accepted;
      reports = sound.reports;
      acceptors = λ v w hv hw. each (λ (w : Vote). v.node ≡ w.node → v.boot ≡ w.boot → IsBelow v.round.ballot w.round.ballot
          → IsSameProposer v.round.ballot w.round.ballot ⊎ IsOver g s.nodes v.round) new s.counted
          (λ node boot below. told_enough g s p v p.report refl may.harmless sound may.made hv node boot (sound.reports.told p v may.made hv (sym node) (sym boot) below))
          (λ w hw node boot below. sound.acceptors v w hv hw node boot below) w hw;
      held = sound.held;
      leases = sound.leases;
    }

-- A round is accepted.
nothing_above : (s : State) (node : ℕ) (round : Round) (p : Promise) → PromisesSound s.nodes s.rounds s.promised s.promises → s.promised node ≡ Some round
    → Has p s.promises → p.node ≡ node → p.boot ≡ s.nodes.boot node → IsBelow round.ballot p.round.ballot → ⊥
nothing_above s node round p sound is h at boot below =
    at_most_not_above p.round round (s.promised p.node) (sound.now p h (boot ∙ ap s.nodes.boot (sym at))) (ap s.promised at ∙ is) below

accepted_now : (g : Setting) (s : State) (node : ℕ) (round : Round) → s.promised node ≡ Some round → Sound g s
    → (v : Vote) → Has v s.accepts → v.boot ≡ s.nodes.boot v.node → IsAtMost v.round (put s.accepted node (Some round) v.node)
accepted_now g s node round is sound v h boot =
    elim (same_or_other v.node node) [
      | inl e ↦ rw (put-same s.accepted node v.node (Some round) e)
          (rw (ap s.promised e ∙ is) at (promised_now s v sound.promises (sound.votes.promised v (sound.votes.first v h)) boot))
      | inr ne ↦ rw (put-other s.accepted node v.node (Some round) ne) (sound.accepted.now v h boot)
    ]

accepted_was : (g : Setting) (s : State) (node : ℕ) (round : Round) → Sound g s → (n : ℕ) (r : Round) → put s.accepted node (Some round) n ≡ Some r
    → Has (record { node = n; boot = s.nodes.boot n; round = r }) (record { node = node; boot = s.nodes.boot node; round = round } ∷ s.accepts)
accepted_was g s node round sound n r is =
    elim (same_or_other n node) [
      | inl e ↦
          let found = sym (put-same s.accepted node n (Some round) e) ∙ is in
          let same : r ≡ round = cc in
          inl (cc (ap s.nodes.boot e))
      | inr ne ↦ inr (sound.accepted.was n r (sym (put-other s.accepted node n (Some round) ne) ∙ is))
    ]

pub accept_keeps : (g : Setting) (s : State) (node : ℕ) (round : Round) → MayAccept every_rule s node round → Sound g s → Sound g (after s (Round_accepted node round))
accept_keeps g s node round may sound =
    let new : Vote = record { node = node; boot = s.nodes.boot node; round = round } in
    record {
      close = sound.close;
      rounds = sound.rounds;
      promises = sound.promises;
      restarts = sound.restarts;
      votes = record {
        promised = sound.votes.promised;
        first = each (λ (v : Vote). Has v s.counted) new s.accepts may.counted sound.votes.first;
      };
      accepted = record {
        now = each (λ (v : Vote). v.boot ≡ s.nodes.boot v.node → IsAtMost v.round (put s.accepted node (Some round) v.node)) new s.accepts
            (λ is. rw (put-same s.accepted node node (Some round) refl) (inl refl))
            (accepted_now g s node round may.promised sound);
        was = accepted_was g s node round sound;
      };
      reports = record {
        was = λ p r h is. let was = sound.reports.was p r h is in (inr was.0, was.1);
        told = λ p v hp hv. each (λ (v : Vote). p.node ≡ v.node → p.boot ≡ v.boot → IsBelow v.round.ballot p.round.ballot → IsAtMost v.round p.report) new s.accepts
            (λ at boot below. absurd (nothing_above s node round p sound.promises may.promised hp at boot below))
            (λ v hv. sound.reports.told p v hp hv) v hv;
      };
      acceptors = λ v w hv hw. each (λ (v : Vote). v.node ≡ w.node → v.boot ≡ w.boot → IsBelow v.round.ballot w.round.ballot
          → IsSameProposer v.round.ballot w.round.ballot ⊎ IsOver g s.nodes v.round) new s.accepts
          (λ at boot below.
          let is = sound.votes.promised w hw in
          absurd (nothing_above s node round is.promise sound.promises may.promised is.made (is.node ∙ sym at) (is.boot ∙ sym boot)
          (subst (λ (r : Round). IsBelow round.ballot r.ballot) (sym is.round) below)))
          (λ v hv. sound.acceptors v w hv hw) v hv;
      held = sound.held;
      leases = λ r h. let m = sound.leases r h in (m.0, m.1, λ n is. let old = m.2 n is in (old.0, inr old.1));
    }

-- A round is held.
held_now : (s : State) (round : Round) → s.nodes.boot round.ballot.node ≡ round.ballot.boot → HeldSound s.nodes s.held s.leases
    → HeldSound s.nodes (put s.held round.ballot.node (Some round)) (round ∷ s.leases)
held_now s round boot sound n r is =
    elim (same_or_other n round.ballot.node) [
      | inl e ↦
          let found = sym (put-same s.held round.ballot.node n (Some round) e) ∙ is in
          let same : r ≡ round = cc in
          (inl same, ap (λ (x : Round). x.ballot.node) same ∙ sym e, ap (λ (x : Round). x.ballot.boot) same ∙ (sym boot ∙ ap s.nodes.boot (sym e)))
      | inr ne ↦ let old = sound n r (sym (put-other s.held round.ballot.node n (Some round) ne) ∙ is) in (inr old.0, old.1, old.2)
    ]

pub hold_keeps : (g : Setting) (s : State) (round : Round) → MayHold every_rule g s round → Sound g s → Sound g (after s (Round_held round))
hold_keeps g s round may sound =
    record {
      close = sound.close;
      rounds = sound.rounds;
      promises = sound.promises;
      restarts = sound.restarts;
      votes = sound.votes;
      accepted = sound.accepted;
      reports = sound.reports;
      acceptors = sound.acceptors;
      held = held_now s round may.boot sound.held;
      leases = each (λ (r : Round). Majority g.members (HasAccepted s.accepts r)) round s.leases may.majority sound.leases;
    }
