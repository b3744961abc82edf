-- What is issued is of a later epoch than the start. No history is needed for it.
use Rattle.std.proofs.Common.{◌≡◌, ℕ, ◌<◌, ◌≤◌, ◌⊎◌, List, [], ◌∷◌, refl, sym, ap, ◌∙◌, subst, inl, inr, arith, if◌then◌else◌, Some, None}
use Rattle.replica_safety.specs.Epochs.{Epoch, Stamp, Write}
use Rattle.replica_safety.specs.Lists.{Has}
use Rattle.replica_safety.specs.Rules.{Start}
use Rattle.replica_runs.specs.World.{Primary, Idle, Gathering, Installing, Active, epoch_of, Node, Message, Update, World}
use Rattle.replica_runs.specs.Steps.{Step, Gains, Loses, Promises, SendsStatus, TakesHead, TakesUpdate, SendsAck, KeepsUpdate, SendsBody, KeepsBody, Forgets, Draws, SendsGather, CountsStatus, Chooses, SendsChosen, SendsOwn, CountsInstalled, Activates, Issues, SendsUpdate, CountsUpdated, Commits, AnswersRead, AnswersWrite, renoded, sends, after, May}
use Rattle.replica_runs.proofs.Tools.{by_node, number_up}
use Rattle.replica_runs.proofs.Fits.{Apart}

-- an issued update is stamped with its epoch
abbrev pub IsStamped : Primary → Type 0
IsStamped (Active e ws (Some v) acked) = v.stamp.epoch ≡ e
IsStamped (Active e ws None acked) = Unit {0}
IsStamped Idle = Unit {0}
IsStamped (Gathering e counted) = Unit {0}
IsStamped (Installing e ws acked) = Unit {0}

pub record LateNode (start : Start) (x : Node) : Type 0 where
  pub floor : start.floor ≤ x.promised.number
  pub later : (e : Epoch) → epoch_of x.primary ≡ Some e → start.floor < e.number
  pub stamped : IsStamped x.primary

pub record Late (start : Start) (w : World) : Type 0 where
  pub apart : Apart start
  pub nodes : (r : ℕ) → LateNode start (w.nodes r)
  pub updates : (v : Write) → Has (Update v) w.messages → start.floor < v.stamp.epoch.number

module _ (start : Start) where
  at : (w : World) (n : ℕ) (x : Node) → LateNode start x → Late start w → Late start (renoded w n x)
  at w n x new ok = record {
    apart = ok.apart;
    nodes = λ r. by_node (λ b. LateNode start (if b then x else w.nodes r)) r n (λ _. new) (λ _. ok.nodes r);
    updates = ok.updates;
  }

  -- a message that is no update
  other : (w : World) (m : Message) → ((v : Write) → Update v ≡ m → ⊥) → Late start w → Late start (sends w m)
  other w m never ok = record { apart = ok.apart; nodes = ok.nodes; updates = λ v h. old v h }
    where
      old : (v : Write) → (Update v ≡ m) ⊎ Has (Update v) w.messages → start.floor < v.stamp.epoch.number
      old v (inl p) = absurd (never v p)
      old v (inr h) = ok.updates v h

  some_epoch : {d e : Epoch} → Some d ≡ Some e → d ≡ e
  some_epoch p = cc

  -- the same epoch goes on
  goes_on : (w : World) (n : ℕ) (p q : Primary) (e : Epoch) → (w.nodes n).primary ≡ p → epoch_of p ≡ Some e → epoch_of q ≡ Some e → IsStamped q → Late start w →
      Late start (renoded w n (record { promised = (w.nodes n).promised; head = (w.nodes n).head; primary = q }))
  goes_on w n p q e is here there stamped ok = at w n (record { promised = (w.nodes n).promised; head = (w.nodes n).head; primary = q }) (record {
    floor = (ok.nodes n).floor;
    later = λ d r. subst (λ (x : Epoch). start.floor < x.number) (some_epoch (sym there ∙ r)) ((ok.nodes n).later e (ap epoch_of is ∙ here));
    stamped = stamped;
  }) ok

  pub stays_late : (makes : List Write → Write → Type 0) (members : List ℕ) (w : World) (s : Step) → May makes members w s → Late start w → Late start (after w s)
  stays_late makes members w (Gains n) may ok = record { apart = ok.apart; nodes = ok.nodes; updates = ok.updates }
  stays_late makes members w (Loses n) may ok = let t = at w n (record { promised = (w.nodes n).promised; head = (w.nodes n).head; primary = Idle }) (record { floor = (ok.nodes n).floor; later = λ e p. absurd cc; stamped = tt }) ok in
      record { apart = t.apart; nodes = t.nodes; updates = t.updates }
  stays_late makes members w (Promises r e) may ok = at w r _ (record { floor = omega (arith, (ok.nodes r).floor, number_up (w.nodes r).promised e may.above); later = (ok.nodes r).later; stamped = (ok.nodes r).stamped }) ok
  stays_late makes members w (SendsStatus r e) may ok = other w _ (λ v p. cc) ok
  stays_late makes members w (TakesHead r e ws) may ok = at w r _ (record { floor = (ok.nodes r).floor; later = (ok.nodes r).later; stamped = (ok.nodes r).stamped }) ok
  stays_late makes members w (TakesUpdate r v) may ok = at w r _ (record { floor = (ok.nodes r).floor; later = (ok.nodes r).later; stamped = (ok.nodes r).stamped }) ok
  stays_late makes members w (SendsAck r t) may ok = other w _ (λ v p. cc) ok
  stays_late makes members w (KeepsUpdate r v) may ok = record { apart = ok.apart; nodes = ok.nodes; updates = ok.updates }
  stays_late makes members w (SendsBody r b) may ok = other w _ (λ v p. cc) ok
  stays_late makes members w (KeepsBody r b) may ok = record { apart = ok.apart; nodes = ok.nodes; updates = ok.updates }
  stays_late makes members w (Forgets r held) may ok = record { apart = ok.apart; nodes = ok.nodes; updates = ok.updates }
  stays_late makes members w (Draws n e) may ok = at w n _ (record {
    floor = omega (arith, (ok.nodes n).floor, may.above);
    later = λ d p. subst (λ (x : Epoch). start.floor < x.number) (some_epoch p) (omega (arith, (ok.nodes n).floor, may.above));
    stamped = tt;
  }) ok
  stays_late makes members w (SendsGather n e) may ok = other w _ (λ v p. cc) ok
  stays_late makes members w (CountsStatus n e counted r h) may ok = goes_on w n (Gathering e counted) _ e may.gathers refl refl tt ok
  stays_late makes members w (Chooses n e counted r found) may ok = goes_on w n (Gathering e counted) _ e may.gathers refl refl tt ok
  stays_late makes members w (SendsChosen n e ws acked) may ok = other w _ (λ v p. cc) ok
  stays_late makes members w (SendsOwn n) may ok = other w _ (λ v p. cc) ok
  stays_late makes members w (CountsInstalled n e ws acked r t) may ok = goes_on w n (Installing e ws acked) _ e may.installs refl refl tt ok
  stays_late makes members w (Activates n e ws acked) may ok = let t = goes_on w n (Installing e ws acked) (Active e (w.nodes n).head.writes None []) e may.installs refl refl tt ok in
      record { apart = t.apart; nodes = t.nodes; updates = t.updates }
  stays_late makes members w (Issues n e ws acked v) may ok = let t = goes_on w n (Active e ws None acked) (Active e ws (Some v) []) e may.serves refl refl (ap (λ (t : Stamp). t.epoch) may.stamped) ok in
      record { apart = t.apart; nodes = t.nodes; updates = t.updates }
  stays_late makes members w (SendsUpdate n e ws v acked) may ok = record { apart = ok.apart; nodes = ok.nodes; updates = λ u h. new u h }
    where
      new : (u : Write) → (Update u ≡ Update v) ⊎ Has (Update u) w.messages → start.floor < u.stamp.epoch.number
      new u (inl p) = subst (λ (x : Write). start.floor < x.stamp.epoch.number) (sym (same p))
          (subst (λ (d : Epoch). start.floor < d.number) (sym (subst IsStamped may (ok.nodes n).stamped)) ((ok.nodes n).later e (ap epoch_of may)))
        where
          same : Update u ≡ Update v → u ≡ v
          same q = cc
      new u (inr h) = ok.updates u h
  stays_late makes members w (CountsUpdated n e ws v acked r t) may ok = goes_on w n (Active e ws (Some v) acked) (Active e ws (Some v) (r ∷ acked)) e may.serves refl refl (subst IsStamped may.serves (ok.nodes n).stamped) ok
  stays_late makes members w (Commits n e ws v acked) may ok = let t = goes_on w n (Active e ws (Some v) acked) (Active e (w.nodes n).head.writes None []) e may.serves refl refl tt ok in
      record { apart = t.apart; nodes = t.nodes; updates = t.updates }
  stays_late makes members w (AnswersRead n e ws issued acked o body) may ok = record { apart = ok.apart; nodes = ok.nodes; updates = ok.updates }
  stays_late makes members w (AnswersWrite n e ws issued acked place v) may ok = record { apart = ok.apart; nodes = ok.nodes; updates = ok.updates }

  pub seems_late : (w w2 : World) → ((n : ℕ) → w2.nodes n ≡ w.nodes n) → ((m : Message) → Has m w2.messages → Has m w.messages) → Late start w → Late start w2
  seems_late w w2 nodes messages ok = record { apart = ok.apart; nodes = λ r. subst (LateNode start) (sym (nodes r)) (ok.nodes r); updates = λ v h. ok.updates v (messages (Update v) h) }
