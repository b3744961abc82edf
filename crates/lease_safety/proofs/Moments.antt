-- The moves of the nodes: a boot starts or stops, clocks advance.
use Rattle.std.proofs.Common.{◌≡◌, ℕ, ◌+◌, ◌<◌, ◌≤◌, List, None, arith, refl, sym, ◌∙◌, inl, inr, subst}
use Rattle.std.proofs.lemmas.Bool.Decides.{nat_tests}
use Rattle.std.specs.Prelude.{◌≢◌, ◌⊎◌, true, Option}
use Rattle.lease_safety.specs.Rounds.{Round}
use Rattle.lease_safety.specs.State.{Setting, Nodes, Promise, Vote, State, Has, put}
use Rattle.lease_safety.specs.Moves.{Boot_starts, Boot_stops, Clocks_advance, after, nodes_after_start, nodes_after_stop, nodes_after_advance}
use Rattle.lease_safety.specs.Legal.{every_rule, BootMayStart, ClocksMayAdvance}
use Rattle.lease_safety.specs.Leases.{IsOver}
use Rattle.lease_safety.proofs.Lists.{put-same, put-other, same_or_other}
use Rattle.lease_safety.proofs.Sound.{Sound, IsPromised, AreClose, RoundsSound, PromisesSound, RestartsSound, AcceptedSound, HeldSound}

-- What any move does to the nodes: boots rise, and a boot that runs now has run before, with a clock no later.
pub record IsLater (old new : Nodes) : Type 0 where
  pub boot : (n : ℕ) → old.boot n ≤ new.boot n
  pub ran : (n : ℕ) → new.runs n ≡ true → new.boot n ≡ old.boot n → old.runs n ≡ true
  pub clock : (n : ℕ) → new.runs n ≡ true → new.boot n ≡ old.boot n → old.clock n ≤ new.clock n

-- What a boot knows is kept while the boot is the same, and forgotten by the next boot.
abbrev pub Forgets : Nodes → Nodes → (ℕ → Option Round) → (ℕ → Option Round) → Type 0
Forgets old new f f' = (n : ℕ) → ((new.boot n ≡ old.boot n) × (f' n ≡ f n)) ⊎ ((old.boot n < new.boot n) × (f' n ≡ None))

pub over_stays : (g : Setting) (old new : Nodes) (r : Round) → IsLater old new → r.ballot.boot ≤ old.boot r.ballot.node → IsOver g old r → IsOver g new r
over_stays g old new r later began over runs boot =
    let n = r.ballot.node in
    let up = later.boot n in
    let same : new.boot n ≡ old.boot n = omega arith in
    let ran = later.ran n runs same in
    let rose = later.clock n runs same in
    let was = over ran (omega arith) in
    omega arith

pub rounds_later : (old new : Nodes) (rounds : List Round) → IsLater old new → RoundsSound old rounds → RoundsSound new rounds
rounds_later old new rounds later sound =
    record {
      boot = λ r h. omega (arith, sound.boot r h, later.boot r.ballot.node);
      clock = λ r h runs boot.
          let same : new.boot r.ballot.node ≡ old.boot r.ballot.node = omega (arith, sound.boot r h, later.boot r.ballot.node) in
          omega (arith, sound.clock r h (later.ran _ runs same) (omega arith), later.clock _ runs same);
      order = λ j k hj hk same less runs boot.
          let kept : new.boot j.ballot.node ≡ old.boot j.ballot.node = omega (arith, sound.boot j hj, later.boot j.ballot.node) in
          sound.order j k hj hk same less (later.ran _ runs kept) (sym kept ∙ boot);
      one = sound.one;
    }

pub promises_later : (old new : Nodes) (rounds : List Round) (promised promised' : ℕ → Option Round) (promises : List Promise)
    → IsLater old new → Forgets old new promised promised' → PromisesSound old rounds promised promises → PromisesSound new rounds promised' promises
promises_later old new rounds promised promised' promises later forgets sound =
    record {
      begun = sound.begun;
      boot = λ p h. omega (arith, sound.boot p h, later.boot p.node);
      now = λ p h is. elim (forgets p.node) [
        | inl same ↦ rw same.1 (sound.now p h (is ∙ same.0))
        | inr more ↦ absurd (omega (arith, sound.boot p h, more.0))
      ];
    }

pub accepted_later : (old new : Nodes) (accepted accepted' : ℕ → Option Round) (accepts : List Vote)
    → Forgets old new accepted accepted' → ((v : Vote) → Has v accepts → v.boot ≤ old.boot v.node) → AcceptedSound old accepted accepts → AcceptedSound new accepted' accepts
accepted_later old new accepted accepted' accepts forgets boots sound =
    record {
      now = λ v h is. elim (forgets v.node) [
        | inl same ↦ rw same.1 (sound.now v h (is ∙ same.0))
        | inr more ↦ absurd (omega (arith, boots v h, more.0))
      ];
      was = λ n r is. elim (forgets n) [
        | inl same ↦ rw same.0 (sound.was n r (sym same.1 ∙ is))
        | inr more ↦ absurd (cc (more.1, is))
      ];
    }

pub held_later : (old new : Nodes) (held held' : ℕ → Option Round) (leases : List Round)
    → Forgets old new held held' → HeldSound old held leases → HeldSound new held' leases
held_later old new held held' leases forgets sound n r is =
    elim (forgets n) [
      | inl same ↦ let was = sound n r (sym same.1 ∙ is) in (was.0, was.1, was.2 ∙ sym same.0)
      | inr more ↦ absurd (cc (more.1, is))
    ]

pub votes_boot : (nodes : Nodes) (rounds : List Round) (promised : ℕ → Option Round) (promises : List Promise) (v : Vote)
    → PromisesSound nodes rounds promised promises → IsPromised promises v → v.boot ≤ nodes.boot v.node
votes_boot nodes rounds promised promises v sound is =
    subst (λ (b : ℕ). b ≤ nodes.boot v.node) is.boot (subst (λ (n : ℕ). is.promise.boot ≤ nodes.boot n) is.node (sound.boot is.promise is.made))

pub votes_begun : (nodes : Nodes) (rounds : List Round) (promised : ℕ → Option Round) (promises : List Promise) (v : Vote)
    → PromisesSound nodes rounds promised promises → IsPromised promises v → Has v.round rounds
votes_begun nodes rounds promised promises v sound is =
    subst (λ (r : Round). Has r rounds) is.round (sound.begun is.promise is.made)

pub forgotten_later : (g : Setting) (old new : Nodes) (rounds : List Round) (promises : List Promise) (p q : Promise)
    → IsLater old new → RoundsSound old rounds → Has p.round rounds → RestartsSound g old promises
    → Has p promises → Has q promises → p.node ≡ q.node → p.boot < q.boot → IsOver g new p.round
forgotten_later g old new rounds promises p q later rounds_sound begun sound hp hq node boot =
    over_stays g old new p.round later (rounds_sound.boot p.round begun) (sound.forgotten p q hp hq node boot)

-- The nodes' parts of what is sound, after any move of the nodes.
pub nodes_move : (g : Setting) (s : State) (new : Nodes) (promised accepted held : ℕ → Option Round)
    → IsLater s.nodes new → Forgets s.nodes new s.promised promised → Forgets s.nodes new s.accepted accepted → Forgets s.nodes new s.held held
    → AreClose g.drift new
    → ((p : Promise) → Has p s.promises → p.boot < new.boot p.node → new.runs p.round.ballot.node ≡ true
    → new.boot p.round.ballot.node ≡ p.round.ballot.boot → p.round.began ≤ new.started p.node + g.drift)
    → Sound g s → Sound g (record s { nodes = new; promised = promised; accepted = accepted; held = held })
nodes_move g s new promised accepted held later fp fa fh close restarted sound =
    record {
      close = close;
      rounds = rounds_later s.nodes new s.rounds later sound.rounds;
      promises = promises_later s.nodes new s.rounds s.promised promised s.promises later fp sound.promises;
      restarts = record {
        restarted = restarted;
        forgotten = λ p q hp hq node boot. forgotten_later g s.nodes new s.rounds s.promises p q later sound.rounds (sound.promises.begun p hp) sound.restarts hp hq node boot;
      };
      votes = sound.votes;
      accepted = accepted_later s.nodes new s.accepted accepted s.accepts fa
          (λ v h. votes_boot s.nodes s.rounds s.promised s.promises v sound.promises (sound.votes.promised v (sound.votes.first v h))) sound.accepted;
      reports = sound.reports;
      acceptors = λ v w hv hw node boot below. elim (sound.acceptors v w hv hw node boot below) [
        | inl same ↦ inl same
        | inr over ↦
            let begun = votes_begun s.nodes s.rounds s.promised s.promises v sound.promises (sound.votes.promised v (sound.votes.first v hv)) in
            inr (over_stays g s.nodes new v.round later (sound.rounds.boot v.round begun) over)
      ];
      held = held_later s.nodes new s.held held s.leases fh sound.held;
      leases = sound.leases;
    }

keeps : (old new : Nodes) (f : ℕ → Option Round) → ((n : ℕ) → new.boot n ≡ old.boot n) → Forgets old new f f
keeps old new f same n = inl (same n, refl)

forgets_one : (old new : Nodes) (node : ℕ) (f : ℕ → Option Round) → old.boot node < new.boot node → ((n : ℕ) → n ≢ node → new.boot n ≡ old.boot n)
    → Forgets old new f (put f node None)
forgets_one old new node f rises same n =
    elim (same_or_other n node) [
      | inl e ↦ inr (subst (λ (m : ℕ). old.boot m < new.boot m) (sym e) rises, put-same f node n None e)
      | inr ne ↦ inl (same n ne, put-other f node n None ne)
    ]

-- A stop.
pub stop_is_later : (nodes : Nodes) (node : ℕ) → IsLater nodes (nodes_after_stop nodes node)
stop_is_later nodes node = record { boot = λ n. omega arith; ran = λ n runs same. grind (arith, nat_tests); clock = λ n runs same. omega arith }

pub stop_keeps : (g : Setting) (s : State) (node : ℕ) → Sound g s → Sound g (after s (Boot_stops node))
stop_keeps g s node sound =
    let new = nodes_after_stop s.nodes node in
    let later = stop_is_later s.nodes node in
    nodes_move g s new s.promised s.accepted s.held later
    (keeps s.nodes new s.promised (λ n. refl)) (keeps s.nodes new s.accepted (λ n. refl)) (keeps s.nodes new s.held (λ n. refl))
    (λ a b ra rb. sound.close a b (later.ran a ra refl) (later.ran b rb refl))
    (λ p h less runs boot. sound.restarts.restarted p h less (later.ran p.round.ballot.node runs refl) boot)
    sound

-- An advance of clocks.
pub advance_is_later : (drift : ℕ) (nodes : Nodes) (now : ℕ → ℕ) → ClocksMayAdvance every_rule drift nodes now → IsLater nodes (nodes_after_advance nodes now)
advance_is_later drift nodes now may = record { boot = λ n. omega arith; ran = λ n runs same. runs; clock = λ n runs same. may.rises n runs }

pub advance_keeps : (g : Setting) (s : State) (now : ℕ → ℕ) → ClocksMayAdvance every_rule g.drift s.nodes now → Sound g s → Sound g (after s (Clocks_advance now))
advance_keeps g s now may sound =
    let new = nodes_after_advance s.nodes now in
    nodes_move g s new s.promised s.accepted s.held (advance_is_later g.drift s.nodes now may)
    (keeps s.nodes new s.promised (λ n. refl)) (keeps s.nodes new s.accepted (λ n. refl)) (keeps s.nodes new s.held (λ n. refl))
    may.close
    sound.restarts.restarted
    sound

-- A start.
start_boot : (nodes : Nodes) (node boot clock n : ℕ) → n ≢ node → (nodes_after_start nodes node boot clock).boot n ≡ nodes.boot n
start_boot nodes node boot clock n ne = put-other nodes.boot node n boot ne

pub start_is_later : (drift : ℕ) (nodes : Nodes) (node boot clock : ℕ) → BootMayStart every_rule drift nodes node boot clock
    → IsLater nodes (nodes_after_start nodes node boot clock)
start_is_later drift nodes node boot clock may =
    let rises : nodes.boot node < boot = may.rises in
    record {
      boot = λ n. grind (arith, nat_tests);
      ran = λ n runs same. grind (arith, nat_tests);
      clock = λ n runs same. grind (arith, nat_tests);
    }

start_close : (drift : ℕ) (nodes : Nodes) (node boot clock : ℕ) → BootMayStart every_rule drift nodes node boot clock → AreClose drift nodes
    → AreClose drift (nodes_after_start nodes node boot clock)
start_close drift nodes node boot clock may close a b ra rb =
    elim (same_or_other a node) [
      | inl ea ↦ elim (same_or_other b node) [
        | inl eb ↦ rw (put-same nodes.clock node a clock ea, put-same nodes.clock node b clock eb) (omega arith)
        | inr nb ↦ rw (put-same nodes.clock node a clock ea, put-other nodes.clock node b clock nb) (may.close b (rw (put-other nodes.runs node b true nb) at rb)).0
      ]
      | inr na ↦ elim (same_or_other b node) [
        | inl eb ↦ rw (put-other nodes.clock node a clock na, put-same nodes.clock node b clock eb) (may.close a (rw (put-other nodes.runs node a true na) at ra)).1
        | inr nb ↦ rw (put-other nodes.clock node a clock na, put-other nodes.clock node b clock nb) (close a b (rw (put-other nodes.runs node a true na) at ra) (rw (put-other nodes.runs node b true nb) at rb))
      ]
    ]

start_restarted : (g : Setting) (s : State) (node boot clock : ℕ) → BootMayStart every_rule g.drift s.nodes node boot clock → Sound g s
    → (p : Promise) → Has p s.promises → p.boot < put s.nodes.boot node boot p.node → put s.nodes.runs node true p.round.ballot.node ≡ true
    → put s.nodes.boot node boot p.round.ballot.node ≡ p.round.ballot.boot → p.round.began ≤ put s.nodes.started node clock p.node + g.drift
start_restarted g s node boot clock may sound p h less runs is =
    let proposer = p.round.ballot.node in
    let begun = sound.promises.begun p h in
    let numbered = sound.rounds.boot p.round begun in
    elim (same_or_other proposer node) [
      | inl e ↦ absurd (
          let mine : boot ≡ p.round.ballot.boot = rw (put-same s.nodes.boot node proposer boot e) at is in
          let last : s.nodes.boot node < boot = may.rises in
          omega (arith, subst (λ (n : ℕ). p.round.ballot.boot ≤ s.nodes.boot n) e numbered))
      | inr ne ↦
          let ran = rw (put-other s.nodes.runs node proposer true ne) at runs in
          let was = rw (put-other s.nodes.boot node proposer boot ne) at is in
          elim (same_or_other p.node node) [
            | inl e ↦ rw (put-same s.nodes.started node p.node clock e) (omega (arith, sound.rounds.clock p.round begun ran was, (may.close proposer ran).1))
            | inr other ↦ rw (put-other s.nodes.started node p.node clock other) (sound.restarts.restarted p h (rw (put-other s.nodes.boot node p.node boot other) at less) ran was)
          ]
    ]

pub start_keeps : (g : Setting) (s : State) (node boot clock : ℕ) → BootMayStart every_rule g.drift s.nodes node boot clock → Sound g s
    → Sound g (after s (Boot_starts node boot clock))
start_keeps g s node boot clock may sound =
    let new = nodes_after_start s.nodes node boot clock in
    let rises : s.nodes.boot node < new.boot node = rw (put-same s.nodes.boot node node boot refl) may.rises in
    let others = λ (n : ℕ). λ (ne : n ≢ node). start_boot s.nodes node boot clock n ne in
    nodes_move g s new (put s.promised node None) (put s.accepted node None) (put s.held node None)
    (start_is_later g.drift s.nodes node boot clock may)
    (forgets_one s.nodes new node s.promised rises others)
    (forgets_one s.nodes new node s.accepted rises others)
    (forgets_one s.nodes new node s.held rises others)
    (start_close g.drift s.nodes node boot clock may sound.close)
    (start_restarted g s node boot clock may sound)
    sound
