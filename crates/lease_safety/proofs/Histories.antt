-- What is sound stays sound along a history; and what that gives.
use Rattle.std.proofs.Common.{◌≡◌, ℕ, ◌+◌, ◌<◌, List, [], ◌∷◌, ◌++◌, arith, refl, sym, ◌∙◌, ap, inl, inr, subst}
use Rattle.std.specs.Prelude.{◌≢◌, ◌⊎◌, true, Option, Some, None, IsSomeAnd}
use Rattle.lease_safety.specs.Rounds.{Ballot, Round, end_of}
use Rattle.lease_safety.specs.State.{Setting, Nodes, Vote, State, Has, empty}
use Rattle.lease_safety.specs.Moves.{Move, Boot_starts, Boot_stops, Clocks_advance, Round_begins, Round_promised, Promise_counted, Round_accepted, Round_held, after, state_after}
use Rattle.lease_safety.specs.Legal.{IsLegal, IsHistory, HasAccepted}
use Rattle.lease_safety.specs.Leases.{Holds, IsOver}
use Rattle.lease_safety.proofs.Lists.{put-same}
use Rattle.lease_safety.proofs.Majorities.{majorities_meet}
use Rattle.lease_safety.proofs.Sound.{Sound}
use Rattle.lease_safety.proofs.Moments.{IsLater, over_stays, stop_is_later, advance_is_later, start_is_later, votes_begun, stop_keeps, advance_keeps, start_keeps}
use Rattle.lease_safety.proofs.Turns.{below_or_same, begin_keeps, promise_keeps, count_keeps, accept_keeps, hold_keeps}

pub empty_sound : (g : Setting) → Sound g empty
empty_sound g =
    record {
      close = λ a b ra rb. absurd (cc);
      rounds = record { boot = λ r h. absurd h; clock = λ r h. absurd h; order = λ j k h. absurd h; one = λ j k h. absurd h };
      promises = record { begun = λ p h. absurd h; boot = λ p h. absurd h; now = λ p h. absurd h };
      restarts = record { restarted = λ p h. absurd h; forgotten = λ p q h. absurd h };
      votes = record { promised = λ v h. absurd h; first = λ v h. absurd h };
      accepted = record { now = λ v h. absurd h; was = λ n r is. absurd (cc) };
      reports = record { was = λ p r h. absurd h; told = λ p v h. absurd h };
      acceptors = λ v w h. absurd h;
      held = λ n r is. absurd (cc);
      leases = λ r h. absurd h;
    }

pub move_sound : (g : Setting) (s : State) (move : Move) → IsLegal g s move → Sound g s → Sound g (after s move)
move_sound g s (Boot_starts node boot clock) may sound = start_keeps g s node boot clock may sound
move_sound g s (Boot_stops node) may sound = stop_keeps g s node sound
move_sound g s (Clocks_advance now) may sound = advance_keeps g s now may sound
move_sound g s (Round_begins round) may sound = begin_keeps g s round may sound
move_sound g s (Round_promised node round) may sound = promise_keeps g s node round may sound
move_sound g s (Promise_counted promise) may sound = count_keeps g s promise may sound
move_sound g s (Round_accepted node round) may sound = accept_keeps g s node round may sound
move_sound g s (Round_held round) may sound = hold_keeps g s round may sound

pub history_sound : (g : Setting) (moves : List Move) → IsHistory g moves → Sound g (state_after moves)
history_sound g [] history = empty_sound g
history_sound g (move ∷ moves) history = move_sound g (state_after moves) move history.0 (history_sound g moves history.1)

same_nodes : (nodes : Nodes) → IsLater nodes nodes
same_nodes nodes = record { boot = λ n. omega arith; ran = λ n runs same. runs; clock = λ n runs same. omega arith }

pub move_is_later : (g : Setting) (s : State) (move : Move) → IsLegal g s move → IsLater s.nodes (after s move).nodes
move_is_later g s (Boot_starts node boot clock) may = start_is_later g.drift s.nodes node boot clock may
move_is_later g s (Boot_stops node) may = stop_is_later s.nodes node
move_is_later g s (Clocks_advance now) may = advance_is_later g.drift s.nodes now may
move_is_later g s (Round_begins round) may = same_nodes s.nodes
move_is_later g s (Round_promised node round) may = same_nodes s.nodes
move_is_later g s (Promise_counted promise) may = same_nodes s.nodes
move_is_later g s (Round_accepted node round) may = same_nodes s.nodes
move_is_later g s (Round_held round) may = same_nodes s.nodes

-- What a majority accepted has begun.
pub lease_begun : (g : Setting) (s : State) (r : Round) → Sound g s → Has r s.leases → Has r s.rounds
lease_begun g s r sound h =
    let m = sound.leases r h in
    let one = majorities_meet g.members (HasAccepted s.accepts r) (HasAccepted s.accepts r) m m in
    let v : Vote = record { node = one.0; boot = one.1.0; round = r } in
    votes_begun s.nodes s.rounds s.promised s.promises v sound.promises (sound.votes.promised v (sound.votes.first v one.1.1))

-- What a list kept, a longer history keeps.
pub rounds_grow : (later moves : List Move) (r : Round) → Has r (state_after moves).rounds → Has r (state_after (later ++ moves)).rounds
rounds_grow [] moves r h = h
rounds_grow (move ∷ later) moves r h = round_stays (state_after (later ++ moves)) move r (rounds_grow later moves r h)
  where
    round_stays : (s : State) (move : Move) (r : Round) → Has r s.rounds → Has r (after s move).rounds
    round_stays s (Boot_starts node boot clock) r h = h
    round_stays s (Boot_stops node) r h = h
    round_stays s (Clocks_advance now) r h = h
    round_stays s (Round_begins round) r h = inr h
    round_stays s (Round_promised node round) r h = h
    round_stays s (Promise_counted promise) r h = h
    round_stays s (Round_accepted node round) r h = h
    round_stays s (Round_held round) r h = h

-- A round that is over stays over.
pub stays_over : (g : Setting) (later moves : List Move) (r : Round) → IsHistory g (later ++ moves) → Has r (state_after moves).rounds
    → IsOver g (state_after moves).nodes r → IsOver g (state_after (later ++ moves)).nodes r
stays_over g [] moves r history h over = over
stays_over g (move ∷ later) moves r history h over =
    let s = state_after (later ++ moves) in
    let sound = history_sound g (later ++ moves) history.1 in
    over_stays g s.nodes (after s move).nodes r (move_is_later g s move history.0)
    (sound.rounds.boot r (rounds_grow later moves r h))
    (stays_over g later moves r history.1 h over)

-- Of two leases of different nodes one is over.
two_leases : (g : Setting) (s : State) (j k : Round) → Sound g s → Has j s.leases → Has k s.leases → j.ballot.node ≢ k.ballot.node → IsOver g s.nodes j ⊎ IsOver g s.nodes k
two_leases g s j k sound hj hk differ =
    let both = majorities_meet g.members (HasAccepted s.accepts j) (HasAccepted s.accepts k) (sound.leases j hj) (sound.leases k hk) in
    let v : Vote = record { node = both.0; boot = both.1.0; round = j } in
    let w : Vote = record { node = both.0; boot = both.2.0; round = k } in
    let hv : Has v s.accepts = both.1.1 in
    let hw : Has w s.accepts = both.2.1 in
    elim (order v.boot w.boot) [
      | inl earlier ↦ inl (forgotten v w hv hw refl earlier)
      | inr rest ↦ elim rest [
        | inl later ↦ inr (forgotten w v hw hv refl later)
        | inr same ↦ elim (below_or_same j.ballot k.ballot) [
          | inl proposer ↦ absurd (differ proposer.0)
          | inr less ↦ elim less [
            | inl below ↦ elim (sound.acceptors v w hv (sound.votes.first w hw) refl same below) [
              | inl proposer ↦ absurd (differ proposer.0)
              | inr over ↦ inl over
            ]
            | inr above ↦ elim (sound.acceptors w v hw (sound.votes.first v hv) refl (sym same) above) [
              | inl proposer ↦ absurd (differ (sym proposer.0))
              | inr over ↦ inr over
            ]
          ]
        ]
      ]
    ]
  where
    order : (a b : ℕ) → (a < b) ⊎ ((b < a) ⊎ (a ≡ b))
    order a b = grind arith

    -- the later boot of one node has promised: what the earlier one accepted is over
    forgotten : (v w : Vote) → Has v s.accepts → Has w s.accepts → v.node ≡ w.node → v.boot < w.boot → IsOver g s.nodes v.round
    forgotten v w hv hw node less =
        let p = sound.votes.promised v (sound.votes.first v hv) in
        let q = sound.votes.promised w (sound.votes.first w hw) in
        subst (λ (r : Round). IsOver g s.nodes r) p.round
        (sound.restarts.forgotten p.promise q.promise p.made q.made (p.node ∙ (node ∙ sym q.node)) (omega (arith, p.boot, q.boot)))

-- The lease that a node holds, and that it isn't over.
pub record HeldLease (g : Setting) (s : State) (node : ℕ) : Type 0 where
  pub lease : Round
  pub was_held : Has lease s.leases
  pub node_is : lease.ballot.node ≡ node
  pub lives : IsOver g s.nodes lease → ⊥

held_lease_of : (g : Setting) (s : State) (node : ℕ) (held : Option Round) → s.held node ≡ held → Sound g s → s.nodes.runs node ≡ true
    → IsSomeAnd held (λ round. s.nodes.clock node + g.drift < end_of g.lease round) → HeldLease g s node
held_lease_of g s node None is sound runs holds = absurd holds
held_lease_of g s node (Some lease) is sound runs holds =
    let known = sound.held node lease is in
    record {
      lease = lease;
      was_held = known.0;
      node_is = known.1;
      lives = λ over.
          let ended = over (ap s.nodes.runs known.1 ∙ runs) (ap s.nodes.boot known.1 ∙ sym known.2) in
          omega (arith, ended, holds, ap s.nodes.clock known.1);
    }

pub held_lease : (g : Setting) (s : State) (node : ℕ) → Sound g s → Holds g s node → HeldLease g s node
held_lease g s node sound holds = held_lease_of g s node (s.held node) refl sound holds.0 holds.1

-- While a node holds, every lease that another node ever held is over.
pub others_over_now : (g : Setting) (s : State) (node : ℕ) (lease : Round) → Sound g s → Holds g s node → Has lease s.leases → lease.ballot.node ≢ node
    → IsOver g s.nodes lease
others_over_now g s node lease sound holds h differ =
    let mine = held_lease g s node sound holds in
    elim (two_leases g s lease mine.lease sound h mine.was_held (λ is. differ (is ∙ mine.node_is))) [
      | inl over ↦ over
      | inr over ↦ absurd (mine.lives over)
    ]

pub others_over : (g : Setting) (later moves : List Move) (node : ℕ) (lease : Round) → IsHistory g (later ++ moves) → IsHistory g moves → Holds g (state_after moves) node
    → Has lease (state_after moves).leases → lease.ballot.node ≢ node → IsOver g (state_after (later ++ moves)).nodes lease
others_over g later moves node lease history before holds h differ =
    let s = state_after moves in
    let sound = history_sound g moves before in
    stays_over g later moves lease history (lease_begun g s lease sound h) (others_over_now g s node lease sound holds h differ)

-- The front of a history is one.
pub history_before : (g : Setting) (later moves : List Move) → IsHistory g (later ++ moves) → IsHistory g moves
history_before g [] moves history = history
history_before g (move ∷ later) moves history = history_before g later moves history.1

same_or_different : (a b : ℕ) → (a ≡ b) ⊎ (a ≢ b)
same_or_different a b = grind arith

pub one_holder : (g : Setting) (moves : List Move) (a b : ℕ) → IsHistory g moves → Holds g (state_after moves) a → Holds g (state_after moves) b → a ≡ b
one_holder g moves a b history ha hb =
    elim (same_or_different a b) [
      | inl is ↦ is
      | inr differ ↦
          let s = state_after moves in
          let sound = history_sound g moves history in
          let hers = held_lease g s a sound ha in
          absurd (hers.lives (others_over_now g s b hers.lease sound hb hers.was_held (λ is. differ (sym hers.node_is ∙ is))))
    ]

pub one_round : (g : Setting) (moves : List Move) (j k : Round) → IsHistory g moves → Has j (state_after moves).rounds → Has k (state_after moves).rounds → j.ballot ≡ k.ballot → j ≡ k
one_round g moves j k history hj hk same =
    (history_sound g moves history).rounds.one j k hj hk (ap (λ (b : Ballot). b.node) same, ap (λ (b : Ballot). b.boot) same) (ap (λ (b : Ballot). b.count) same)

-- A node that runs holds what it was just granted, if that isn't over.
pub granted_holds : (g : Setting) (s : State) (lease : Round) → s.nodes.runs lease.ballot.node ≡ true → s.nodes.clock lease.ballot.node + g.drift < end_of g.lease lease
    → Holds g (after s (Round_held lease)) lease.ballot.node
granted_holds g s lease runs lives =
    (runs, rw (put-same s.held lease.ballot.node lease.ballot.node (Some lease) refl) lives)

-- A node whose last lease is over doesn't hold.
pub over_is_not_held : (g : Setting) (moves : List Move) (node : ℕ) (lease : Round) → IsHistory g moves → (state_after moves).held node ≡ Some lease
    → IsOver g (state_after moves).nodes lease → Holds g (state_after moves) node → ⊥
over_is_not_held g moves node lease history is over holds =
    let s = state_after moves in
    let known = (history_sound g moves history).held node lease is in
    let lives : s.nodes.clock node + g.drift < end_of g.lease lease = rw is at holds.1 in
    let ended = over (ap s.nodes.runs known.1 ∙ holds.0) (ap s.nodes.boot known.1 ∙ sym known.2) in
    omega (arith, ended, lives, ap s.nodes.clock known.1)
