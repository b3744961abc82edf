-- A node holds the bodies that its head names, and a primary those of the writes that it serves. No history is needed for it.
use Rattle.std.proofs.Common.{◌≡◌, ℕ, ◌<◌, List, [], ◌∷◌, ◌++◌, refl, sym, ◌∙◌, subst, subst₂, inl, inr, arith, if◌then◌else◌, Option, Some, None}
use Rattle.std.specs.Prelude.{take}
use Rattle.replica_safety.specs.Rules.{Start}
use Rattle.replica_runs.specs.Made.{bodies_of}
use Rattle.std.proofs.lemmas.Bool.{cases_eq}
use Rattle.xt_base.specs.declared.TheConstants.{NO_OBJECT}
use Rattle.xt_messages.specs.declared.file.FileHead.{FileHead}
use Rattle.xt_protocol.specs.Heads.{new_head, head_after, version_of}
use Rattle.replica_safety.specs.Epochs.{Epoch, Stamp, Write}
use Rattle.replica_safety.specs.Lists.{Has}
use Rattle.replica_runs.specs.FileHeads.{Body, body_of, bodies_in, folded, versions_of}
use Rattle.replica_runs.specs.World.{Primary, Idle, Gathering, Installing, Active, Node, World}
use Rattle.replica_runs.specs.Steps.{Step, Gains, Loses, Promises, SendsStatus, TakesHead, TakesUpdate, SendsAck, KeepsUpdate, SendsBody, KeepsBody, Forgets, Draws, SendsGather, CountsStatus, Chooses, SendsChosen, SendsOwn, CountsInstalled, Activates, Issues, SendsUpdate, CountsUpdated, Commits, AnswersRead, AnswersWrite, renoded, keeps, after, May, IsHeld, Holds, AreHeld, begin, ServesHeld}
use Rattle.replica_runs.proofs.Tools.{by_node, body_there}
use Rattle.replica_runs.proofs.Content.{by_less}
use Rattle.replica_runs.proofs.Versions.{IsNamed, versions_named, folded_push, version_next, version_here}

pub record Present (w : World) : Type 0 where
  pub heads : (r : ℕ) → AreHeld (w.held r) (w.nodes r).head.writes
  pub served : (r : ℕ) → ServesHeld (w.held r) (w.nodes r).primary

-- another state of a node
turned : (w : World) (n : ℕ) (x : Node) → AreHeld (w.held n) x.head.writes → ServesHeld (w.held n) x.primary → Present w → Present (renoded w n x)
turned w n x head serves ok = record {
  heads = λ r. by_node (λ b. AreHeld (w.held r) (if b then x else w.nodes r).head.writes) r n (λ e. subst (λ k. AreHeld (w.held k) x.head.writes) (sym e) head) (λ _. ok.heads r);
  served = λ r. by_node (λ b. ServesHeld (w.held r) (if b then x else w.nodes r).primary) r n (λ e. subst (λ k. ServesHeld (w.held k) x.primary) (sym e) serves) (λ _. ok.served r);
}

-- one body more
more : (held : List Body) (b : Body) (ws : List Write) → AreHeld held ws → AreHeld (b ∷ held) ws
more held b ws all o v low is = let h : Holds held o v = all o v low is in (h.0, inr h.1)

more_served : (held : List Body) (b : Body) (p : Primary) → ServesHeld held p → ServesHeld (b ∷ held) p
more_served held b (Active e ws issued acked) s = more held b ws s
more_served held b Idle s = tt
more_served held b (Gathering e counted) s = tt
more_served held b (Installing e ws acked) s = tt

kept : (w : World) (n : ℕ) (b : Body) → Present w → Present (keeps w n b)
kept w n b ok = record {
  heads = λ r. by_node (λ t. AreHeld (if t then b ∷ w.held n else w.held r) (w.nodes r).head.writes) r n
      (λ e. subst (λ k. AreHeld (b ∷ w.held n) (w.nodes k).head.writes) (sym e) (more (w.held n) b (w.nodes n).head.writes (ok.heads n))) (λ _. ok.heads r);
  served = λ r. by_node (λ t. ServesHeld (if t then b ∷ w.held n else w.held r) (w.nodes r).primary) r n
      (λ e. subst (λ k. ServesHeld (b ∷ w.held n) (w.nodes k).primary) (sym e) (more_served (w.held n) b (w.nodes n).primary (ok.served n))) (λ _. ok.served r);
}

low_some : (o : ℕ) → o < NO_OBJECT → o ≡ NO_OBJECT → ⊥
low_some o low e = omega (arith, low, e)

-- an update that is held too
pushed : (held : List Body) (ws : List Write) (u : Write) → ((u.object ≡ NO_OBJECT → ⊥) → Holds held u.object u.stamp) → AreHeld held ws → AreHeld held (ws ++ u ∷ [])
pushed held ws u here all o v low is = at (subst (λ (h : FileHead). version_of h.versions o ≡ Some v) (folded_push new_head ws u) is)
  where
    at : version_of (head_after (folded new_head ws) u).versions o ≡ Some v → Holds held o v
    at is2 = elim (cases_eq o u.object) as (λ w. Holds held o v) [
      | inl e ↦ subst (Holds held o) (some_stamp (sym (version_here (versions_of ws) u (λ n. low_some o low (e ∙ n))) ∙ subst (λ k. version_of (head_after (folded new_head ws) u).versions k ≡ Some v) e is2))
          (subst (λ k. Holds held k u.stamp) (sym e) (here (λ n. low_some o low (e ∙ n))))
      | inr ne ↦ by_less (λ b. (if b then version_of (versions_of ws) o else None) ≡ Some v → Holds held o v) o u.drop_from (λ _ k. all o v low k) (λ _ k. absurd cc)
          (sym (version_next (versions_of ws) u o ne) ∙ is2)
    ]
      where
        some_stamp : {a b : Stamp} → Some a ≡ Some b → a ≡ b
        some_stamp p = cc

module _ (makes : List Write → Write → Type 0) (members : List ℕ) where
  pub stays_present : (w : World) (s : Step) → May makes members w s → Present w → Present (after w s)
  stays_present w (Gains n) may ok = record { heads = ok.heads; served = ok.served }
  stays_present w (Loses n) may ok = let t = turned w n (record { promised = (w.nodes n).promised; head = (w.nodes n).head; primary = Idle }) (ok.heads n) tt ok in record { heads = t.heads; served = t.served }
  stays_present w (Promises r e) may ok = turned w r _ (ok.heads r) (ok.served r) ok
  stays_present w (SendsStatus r e) may ok = record { heads = ok.heads; served = ok.served }
  stays_present w (TakesHead r e ws) may ok = turned w r _ may.held (ok.served r) ok
  stays_present w (TakesUpdate r v) may ok = turned w r _ (pushed (w.held r) (w.nodes r).head.writes v may.held (ok.heads r)) (ok.served r) ok
  stays_present w (SendsAck r t) may ok = record { heads = ok.heads; served = ok.served }
  stays_present w (KeepsUpdate r v) may ok = kept w r (body_of v) ok
  stays_present w (SendsBody r b) may ok = record { heads = ok.heads; served = ok.served }
  stays_present w (KeepsBody r b) may ok = kept w r b ok
  stays_present w (Forgets r held) may ok = record {
    heads = λ q. by_node (λ t. AreHeld (if t then held else w.held q) (w.nodes q).head.writes) q r (λ e. subst (λ k. AreHeld held (w.nodes k).head.writes) (sym e) may.heads) (λ _. ok.heads q);
    served = λ q. by_node (λ t. ServesHeld (if t then held else w.held q) (w.nodes q).primary) q r (λ e. subst (λ k. ServesHeld held (w.nodes k).primary) (sym e) may.served) (λ _. ok.served q);
  }
  stays_present w (Draws n e) may ok = turned w n _ (ok.heads n) tt ok
  stays_present w (SendsGather n e) may ok = record { heads = ok.heads; served = ok.served }
  stays_present w (CountsStatus n e counted r h) may ok = turned w n _ (ok.heads n) tt ok
  stays_present w (Chooses n e counted r found) may ok = turned w n _ (ok.heads n) tt ok
  stays_present w (SendsChosen n e ws acked) may ok = record { heads = ok.heads; served = ok.served }
  stays_present w (SendsOwn n) may ok = record { heads = ok.heads; served = ok.served }
  stays_present w (CountsInstalled n e ws acked r t) may ok = turned w n _ (ok.heads n) tt ok
  stays_present w (Activates n e ws acked) may ok = let t = turned w n (record { promised = (w.nodes n).promised; head = (w.nodes n).head; primary = Active e (w.nodes n).head.writes None [] }) (ok.heads n) (ok.heads n) ok in record { heads = t.heads; served = t.served }
  stays_present w (Issues n e ws acked v) may ok = let t = turned w n (record { promised = (w.nodes n).promised; head = (w.nodes n).head; primary = Active e ws (Some v) [] }) (ok.heads n) (subst (ServesHeld (w.held n)) may.serves (ok.served n)) ok in record { heads = t.heads; served = t.served }
  stays_present w (SendsUpdate n e ws v acked) may ok = record { heads = ok.heads; served = ok.served }
  stays_present w (CountsUpdated n e ws v acked r t) may ok = turned w n _ (ok.heads n) (subst (ServesHeld (w.held n)) may.serves (ok.served n)) ok
  stays_present w (Commits n e ws v acked) may ok = let t = turned w n (record { promised = (w.nodes n).promised; head = (w.nodes n).head; primary = Active e (w.nodes n).head.writes None [] }) (ok.heads n) (ok.heads n) ok in record { heads = t.heads; served = t.served }
  stays_present w (AnswersRead n e ws issued acked o body) may ok = record { heads = ok.heads; served = ok.served }
  stays_present w (AnswersWrite n e ws issued acked place v) may ok = record { heads = ok.heads; served = ok.served }

  -- so what a read asks for is there
  pub read_there : (w : World) (n : ℕ) (e : Epoch) (ws : List Write) (issued : Option Write) (acked : List ℕ) → Present w → (w.nodes n).primary ≡ Active e ws issued acked → (o : ℕ) → o < NO_OBJECT →
      (body : List ℕ) × IsHeld (w.held n) o (version_of (versions_of ws) o) body
  read_there w n e ws issued acked ok is o low = at (version_of (versions_of ws) o) refl
    where
      at : (v : Option Stamp) → version_of (versions_of ws) o ≡ v → (body : List ℕ) × IsHeld (w.held n) o v body
      at None q = ([], refl)
      at (Some v) q = subst (ServesHeld (w.held n)) is (ok.served n) o v low q

-- a start holds what its heads name
mapped : (us : List Write) → AreHeld (bodies_in us) us
mapped us o v low is = at (subst (IsNamed us (bodies_of us) o) is (versions_named us o (λ e. absurd (low_some o low e))))
  where
    at : (u : Write) × Has u us × (u.object ≡ o) × (u.stamp ≡ v) × (u.body ≡ bodies_of us o) → Holds (bodies_in us) o v
    at n = (n.0.body, subst₂ (λ x y. Has (record { object = x; version = y; bytes = n.0.body }) (bodies_in us)) n.2 n.3 (body_there n.0 us (λ e. low_some o low (sym n.2 ∙ e)) n.1))

pub starts_present : (start : Start) → Present (begin start)
starts_present start = record {
  heads = λ r. mapped (take (start.holds r) (start.line ++ start.open_writes));
  served = λ r. tt;
}
