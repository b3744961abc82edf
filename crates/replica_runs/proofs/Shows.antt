-- A world shows a history, and each step that it may take goes on with that history by moves that are legal.
use Rattle.std.proofs.Common.{◌≡◌, ℕ, suc, pred, ◌<◌, ◌≤◌, ◌⊎◌, true, false, List, [], ◌∷◌, ◌++◌, length, take, drop, refl, sym, ap, ap₂, ◌∙◌, subst, subst₂, inl, inr, arith, append_assoc, append-nil, length-append, take_all, if◌then◌else◌, Option, Some, None}
use Rattle.std.specs.Prelude.{slice_get, map}
use Rattle.std.proofs.Math.Seq.{drop-append_seam, take-append_seam}
use Rattle.xt_protocol.specs.Stamps.{is_earlier}
use Rattle.replica_safety.specs.Epochs.{Epoch, Stamp, Below, AtMost, Write, name, Head, stamp_of, at_node}
use Rattle.replica_safety.specs.Lists.{Has}
use Rattle.replica_safety.specs.Protocol.{Act, Activated, Issued, Committed, State, writes_of, last_write, Move, Draw, Promise, Report, Choose, Take_head, Take_update, Acknowledge, Activate, Issue, Commit, Lose}
use Rattle.replica_safety.specs.Protocol as history
use Rattle.replica_safety.specs.Rules as rule
use Rattle.replica_safety.specs.Rules.{every_rule, Legal, Start, IsStart, HasReported, HasAcknowledged}
use Rattle.replica_safety.specs.Line.{line_of}
use Rattle.replica_safety.proofs.Orders.{same_is, not_before_self, not_after, at_most_trans, at_most_cases, at_most_count}
use Rattle.replica_safety.proofs.Lists.{IsFront, has-left, has-append, whole_front}
use Rattle.replica_safety.proofs.Sound.{IsOfEpoch, Sound, moved, begun}
use Rattle.replica_safety.proofs.Conclusions.{line_served}
use Rattle.replica_runs.specs.World.{Counted, Primary, Idle, Gathering, Installing, Active, epoch_of, Node, Message, Gather, Status, Install, Update, Ack, Piece, Mark, Told, World, among, counted_from, issued_writes}
use Rattle.replica_runs.specs.Steps.{Step, Gains, Loses, Promises, SendsStatus, TakesHead, TakesUpdate, SendsAck, KeepsUpdate, SendsBody, KeepsBody, Forgets, Draws, SendsGather, CountsStatus, Chooses, SendsChosen, SendsOwn, CountsInstalled, Activates, Issues, SendsUpdate, CountsUpdated, Commits, AnswersRead, AnswersWrite, renoded, leads, sends, keeps, IsHeld, without, after, May, IsAsked, after_all, MayAll, begin}
use Rattle.replica_runs.specs.Marks.{acts_of, line_at, AnswersShow, AreMade, Begins}
use Rattle.replica_runs.proofs.Tools.{true_false, not_true, by_epoch, by_node, some_write, at_same, was_true, lower_number, number_not_below, unchanged, made_front, made_push, has_body, has-front, last_push, among_has, counted_has}
use Rattle.xt_protocol.specs.Heads.{version_of}
use Rattle.replica_runs.specs.FileHeads.{Body, body_of, versions_of}
use Rattle.replica_runs.specs.Made.{bodies_of}
use Rattle.replica_runs.proofs.Versions.{IsNamed, versions_named}
use Rattle.replica_runs.proofs.Late.{Late, stays_late, seems_late}
use Rattle.replica_runs.proofs.Fits.{BodyFits, old_pieces, no_updates, IsKnown, Apart, known_grows, one_known, body_grows, GatheringFits, InstallingFits, ActiveFits, PrimaryFits, leads_current, leads_held, idle_else, idle_all, Steady, primary_steady, InstallFits, UpdateFits, AckFits, Justified, Grows, grows_self, grows_on, grows, justified_grows}

pub record Shows (makes : List Write → Write → Type 0) (members : List ℕ) (start : Start) (w : World) (s : State) : Type 0 where
  pub sound : Sound members start s
  pub promised : (r : ℕ) → (w.nodes r).promised ≡ s.promised r
  pub head : (r : ℕ) → (w.nodes r).head ≡ s.head r
  pub drawn : (e : Epoch) → s.drawn e ≡ true → e.number ≤ (s.promised e.node.0).number
  pub primaries : (n : ℕ) → PrimaryFits s w.holder n (w.nodes n).primary
  pub messages : (m : Message) → Has m w.messages → Justified start s m
  pub acts : acts_of w.marks ≡ s.acts
  pub answers : AnswersShow start w.marks
  pub made : (e : Epoch) → s.chosen e ≡ true → AreMade makes (writes_of s e)
  pub fits : (e : Epoch) → s.chosen e ≡ true → (u : Write) → Has u (writes_of s e) → IsKnown start s u
  pub bodies : (r : ℕ) (b : Body) → Has b (w.held r) → BodyFits start s b

-- the world shows some history
pub record InState (makes : List Write → Write → Type 0) (members : List ℕ) (start : Start) (w : World) : Type 0 where
  pub state : State
  pub shows : Shows makes members start w state

-- with what is issued late
pub record IsShown (makes : List Write → Write → Type 0) (members : List ℕ) (start : Start) (w : World) : Type 0 where
  pub state : State
  pub shows : Shows makes members start w state
  pub late : Late start w

module _ (makes : List Write → Write → Type 0) (members : List ℕ) (start : Start) where
  fits_on : (s s2 : State) → Grows s s2 → ((e : Epoch) → s2.chosen e ≡ true → s.chosen e ≡ true) → ((e : Epoch) → writes_of s2 e ≡ writes_of s e) →
      ((e : Epoch) → s.chosen e ≡ true → (u : Write) → Has u (writes_of s e) → IsKnown start s u) → (e : Epoch) → s2.chosen e ≡ true → (u : Write) → Has u (writes_of s2 e) → IsKnown start s2 u
  fits_on s s2 g chosen writes fits e h u has = known_grows start s s2 g u (fits e (chosen e h) u (subst (Has u) (writes e) has))

  fits_steady : (s s2 : State) → Grows s s2 → Steady s s2 → ((e : Epoch) → s.chosen e ≡ true → (u : Write) → Has u (writes_of s e) → IsKnown start s u) →
      (e : Epoch) → s2.chosen e ≡ true → (u : Write) → Has u (writes_of s2 e) → IsKnown start s2 u
  fits_steady s s2 g k = fits_on s s2 g (λ e h. ap (λ c. c e) (sym k.chosen) ∙ h) (λ e. ap₂ (λ b l. b e ++ l e) k.base k.log)

  made_steady : (s s2 : State) → Steady s s2 → ((e : Epoch) → s.chosen e ≡ true → AreMade makes (writes_of s e)) → (e : Epoch) → s2.chosen e ≡ true → AreMade makes (writes_of s2 e)
  made_steady s s2 k made e h = subst₂ (λ b l. AreMade makes (b e ++ l e)) (sym k.base) (sym k.log) (made e (ap (λ c. c e) (sym k.chosen) ∙ h))

  -- what is in a world stays justified
  same_messages : (s s2 : State) → Grows s s2 → (ms : List Message) → ((m : Message) → Has m ms → Justified start s m) → (m : Message) → Has m ms → Justified start s2 m
  same_messages s s2 g ms ok m h = justified_grows start s s2 g m (ok m h)

  more_messages : (s s2 : State) → Grows s s2 → (ms : List Message) → ((m : Message) → Has m ms → Justified start s m) → (new : Message) → Justified start s2 new → (m : Message) → Has m (new ∷ ms) → Justified start s2 m
  more_messages s s2 g ms ok new j m (inl p) = subst (Justified start s2) (sym p) j
  more_messages s s2 g ms ok new j m (inr h) = justified_grows start s s2 g m (ok m h)

  -- a message alone
  says : (w : World) (s : State) (m : Message) → Justified start s m → Shows makes members start w s → Shows makes members start (sends w m) s
  says w s m j ok = record {
    sound = ok.sound;
    promised = ok.promised;
    head = ok.head;
    drawn = ok.drawn;
    primaries = ok.primaries;
    messages = more_messages s s (grows_self s) w.messages ok.messages m j;
    acts = ok.acts;
    answers = ok.answers;
    made = ok.made;
    fits = ok.fits;
    bodies = ok.bodies;
  }

  -- a message, and a replica's move that it reports
  tells : (w : World) (s : State) (move : Move) (m : Message) → Legal every_rule members s move → Steady s (history.after s move) →
      ((r : ℕ) → (history.after s move).promised r ≡ s.promised r) → ((r : ℕ) → (history.after s move).head r ≡ s.head r) →
      (history.after s move).drawn ≡ s.drawn → (history.after s move).acts ≡ s.acts →
      Justified start (history.after s move) m → Shows makes members start w s → Shows makes members start (sends w m) (history.after s move)
  tells w s move m legal k promised head drawn acts j ok = record {
    sound = moved members start s move legal ok.sound;
    promised = λ r. ok.promised r ∙ sym (promised r);
    head = λ r. ok.head r ∙ sym (head r);
    drawn = λ e h. subst (λ p. e.number ≤ p.number) (sym (promised e.node.0)) (ok.drawn e (ap (λ f. f e) (sym drawn) ∙ h));
    primaries = λ n. primary_steady s (history.after s move) k w.holder n (w.nodes n).primary (ok.primaries n);
    messages = more_messages s (history.after s move) (grows members s move legal) w.messages ok.messages m j;
    acts = ok.acts ∙ sym acts;
    answers = ok.answers;
    made = made_steady s (history.after s move) k ok.made;
    fits = fits_steady s (history.after s move) (grows members s move legal) k ok.fits;
    bodies = λ q b h. body_grows start s (history.after s move) (grows members s move legal) b (ok.bodies q b h);
  }

  sends_status : (w : World) (s : State) (r : ℕ) (e : Epoch) → May makes members w (SendsStatus r e) → Shows makes members start w s → Shows makes members start (after w (SendsStatus r e)) (history.after s (Report r e))
  sends_status w s r e may ok = tells w s (Report r e) (Status r e (w.nodes r).head)
      (record { drawn = ok.messages (Gather e) may.asked; promised = sym (ok.promised r) ∙ may.promised })
      (record { current = refl; chosen = refl; active = refl; base = refl; log = refl; committed = refl; reports = λ x h. inr h; acknowledged = λ x h. h })
      (λ r. refl) (λ r. refl) refl refl (inl (ap (λ h. record { replica = r; epoch = e; head = h }) (ok.head r))) ok

  -- what is asked for is a stamp that was chosen, and no shorter
  record Reaches (s : State) (t : Stamp) : Type 0 where
    chosen : s.chosen t.epoch ≡ true
    whole : length (s.base t.epoch) ≤ t.count

  asked_reaches : (w : World) (s : State) (t : Stamp) → Shows makes members start w s → IsAsked t w.messages → Reaches s t
  asked_reaches w s t ok (inl h) = let j : InstallFits s t.epoch h.0 = ok.messages (Install t.epoch h.0) h.1 in record { chosen = j.chosen; whole = omega (arith, j.whole, h.2) }
  asked_reaches w s t ok (inr h) = let j : UpdateFits s h.0 = ok.messages (Update h.0) h.1 in record { chosen = subst (λ x. s.chosen x.epoch ≡ true) h.2 j.chosen; whole = subst (λ x. length (s.base x.epoch) ≤ x.count) h.2 j.whole }

  sends_ack : (w : World) (s : State) (r : ℕ) (t : Stamp) → May makes members w (SendsAck r t) → Shows makes members start w s → Shows makes members start (after w (SendsAck r t)) (history.after s (Acknowledge r t))
  sends_ack w s r t may ok = tells w s (Acknowledge r t) (Ack r t)
      (record { reached = subst (λ h. AtMost t (stamp_of h)) (ok.head r) may.reached })
      (record { current = refl; chosen = refl; active = refl; base = refl; log = refl; committed = refl; reports = λ x h. h; acknowledged = λ x h. inr h })
      (λ r. refl) (λ r. refl) refl refl
      (let a : Reaches s t = asked_reaches w s t ok may.asked in record { chosen = a.chosen; whole = a.whole; has = inl refl }) ok

  -- bodies
  keeps_body : (w : World) (s : State) (r : ℕ) (b : Body) → BodyFits start s b → Shows makes members start w s → Shows makes members start (keeps w r b) s
  keeps_body w s r b fit ok = record {
    sound = ok.sound;
    promised = ok.promised;
    head = ok.head;
    drawn = ok.drawn;
    primaries = ok.primaries;
    messages = ok.messages;
    acts = ok.acts;
    answers = ok.answers;
    made = ok.made;
    fits = ok.fits;
    bodies = λ q c. by_node (λ t. Has c (if t then b ∷ w.held r else w.held q) → BodyFits start s c) q r (λ _ h. either c h) (λ _ h. ok.bodies q c h);
  }
    where
      either : (c : Body) → Has c (b ∷ w.held r) → BodyFits start s c
      either c (inl p) = subst (BodyFits start s) (sym p) fit
      either c (inr h) = ok.bodies r c h

  forgets : (w : World) (s : State) (r : ℕ) (held : List Body) → ((b : Body) → Has b held → Has b (w.held r)) → Shows makes members start w s → Shows makes members start (after w (Forgets r held)) s
  forgets w s r held less ok = record {
    sound = ok.sound;
    promised = ok.promised;
    head = ok.head;
    drawn = ok.drawn;
    primaries = ok.primaries;
    messages = ok.messages;
    acts = ok.acts;
    answers = ok.answers;
    made = ok.made;
    fits = ok.fits;
    bodies = λ q c. by_node (λ t. Has c (if t then held else w.held q) → BodyFits start s c) q r (λ _ h. ok.bodies r c (less c h)) (λ _ h. ok.bodies q c h);
  }

  sends_gather : (w : World) (s : State) (n : ℕ) (e : Epoch) → May makes members w (SendsGather n e) → Shows makes members start w s → Shows makes members start (after w (SendsGather n e)) s
  sends_gather w s n e may ok = says w s (Gather e) (ok.sound.choices.current_drawn e (leads_current s w.holder n (w.nodes n).primary e may (ok.primaries n))) ok

  sends_chosen : (w : World) (s : State) (n : ℕ) (e : Epoch) (ws : List Write) (acked : List ℕ) → May makes members w (SendsChosen n e ws acked) → Shows makes members start w s → Shows makes members start (after w (SendsChosen n e ws acked)) s
  sends_chosen w s n e ws acked may ok = says w s (Install e ws) (record {
    chosen = f.chosen;
    whole = omega (arith, ap length f.base_is);
    front = (s.log e, ap (λ b. b ++ s.log e) (sym f.base_is));
  }) ok
    where
      f : InstallingFits s w.holder n e ws acked
      f = subst (PrimaryFits s w.holder n) may (ok.primaries n)

  sends_own : (w : World) (s : State) (n : ℕ) → Shows makes members start w s → Shows makes members start (after w (SendsOwn n)) s
  sends_own w s n ok = says w s (Install (w.nodes n).head.epoch (w.nodes n).head.writes) (subst (λ h. InstallFits s h.epoch h.writes) (sym (ok.head n)) (record {
    chosen = (ok.sound.heads.own n).has_one;
    whole = (ok.sound.heads.own n).whole;
    front = (ok.sound.heads.own n).front;
  })) ok

  pub active_fits : (w : World) (s : State) (n : ℕ) (e : Epoch) (ws : List Write) (issued : Option Write) (acked : List ℕ) → (w.nodes n).primary ≡ Active e ws issued acked → Shows makes members start w s → ActiveFits s w.holder n e ws issued acked
  active_fits w s n e ws issued acked is ok = subst (PrimaryFits s w.holder n) is (ok.primaries n)

  sends_update : (w : World) (s : State) (n : ℕ) (e : Epoch) (ws : List Write) (v : Write) (acked : List ℕ) → May makes members w (SendsUpdate n e ws v acked) → Shows makes members start w s → Shows makes members start (after w (SendsUpdate n e ws v acked)) s
  sends_update w s n e ws v acked may ok = says w s (Update v) (record {
    chosen = subst (λ t. s.chosen t.epoch ≡ true) (sym (f.stamped v refl)) (ok.sound.line.active_chosen e f.active);
    whole = subst (λ t. length (s.base t.epoch) ≤ t.count) (sym (f.stamped v refl)) (omega (arith, ap length f.writes, length-append (s.base e) (s.log e), length-append ws (v ∷ [])));
    before = ws;
    later = [];
    is = subst (λ t. ws ++ v ∷ [] ≡ writes_of s t.epoch) (sym (f.stamped v refl)) (sym f.writes);
    place = ap (λ (t : Stamp). t.count) (sym (f.stamped v refl));
  }) ok
    where
      f : ActiveFits s w.holder n e ws (Some v) acked
      f = active_fits w s n e ws (Some v) acked may ok

  -- a replica's state, and a move of that replica alone
  takes : (w : World) (s : State) (move : Move) (r : ℕ) (p : Epoch) (h : Head) → Legal every_rule members s move → Steady s (history.after s move) →
      (history.after s move).promised ≡ at_node r p s.promised → (history.after s move).head ≡ at_node r h s.head →
      (history.after s move).drawn ≡ s.drawn → (history.after s move).acts ≡ s.acts → is_earlier p (s.promised r) ≡ false →
      Shows makes members start w s → Shows makes members start (renoded w r (record { promised = p; head = h; primary = (w.nodes r).primary })) (history.after s move)
  takes w s move r p h legal k promised head drawn acts up ok = record {
    sound = moved members start s move legal ok.sound;
    promised = λ q. by_node (λ b. (if b then new else w.nodes q).promised ≡ (if b then p else s.promised q)) q r (λ _. refl) (λ _. ok.promised q) ∙ ap (λ f. f q) (sym promised);
    head = λ q. by_node (λ b. (if b then new else w.nodes q).head ≡ (if b then h else s.head q)) q r (λ _. refl) (λ _. ok.head q) ∙ ap (λ f. f q) (sym head);
    drawn = λ e d. subst (λ f. e.number ≤ (f e.node.0).number) (sym promised) (omega (arith, ok.drawn e (ap (λ f. f e) (sym drawn) ∙ d), rises e.node.0));
    primaries = λ n. primary_steady s (history.after s move) k w.holder n _ (by_node (λ b. PrimaryFits s w.holder n (if b then new else w.nodes n).primary) n r
        (λ e. subst (λ m. PrimaryFits s w.holder n (w.nodes m).primary) e (ok.primaries n)) (λ _. ok.primaries n));
    messages = same_messages s (history.after s move) (grows members s move legal) w.messages ok.messages;
    acts = ok.acts ∙ sym acts;
    answers = ok.answers;
    made = made_steady s (history.after s move) k ok.made;
    fits = fits_steady s (history.after s move) (grows members s move legal) k ok.fits;
    bodies = λ q b h. body_grows start s (history.after s move) (grows members s move legal) b (ok.bodies q b h);
  }
    where
      new : Node
      new = record { promised = p; head = h; primary = (w.nodes r).primary }

      rises : (q : ℕ) → (s.promised q).number ≤ (at_node r p s.promised q).number
      rises q = by_node (λ b. (s.promised q).number ≤ (if b then p else s.promised q).number) q r
          (λ e. subst (λ m. (s.promised m).number ≤ p.number) (sym e) (number_not_below p (s.promised r) up)) (λ _. omega arith)

  promises : (w : World) (s : State) (r : ℕ) (e : Epoch) → May makes members w (Promises r e) → Shows makes members start w s → Shows makes members start (after w (Promises r e)) (history.after s (Promise r e))
  promises w s r e may ok = subst (λ h. Shows makes members start (renoded w r (record { promised = e; head = h; primary = (w.nodes r).primary })) (history.after s (Promise r e))) (sym (ok.head r))
      (takes w s (Promise r e) r e (s.head r) (record { above = above })
      (record { current = refl; chosen = refl; active = refl; base = refl; log = refl; committed = refl; reports = λ x h. h; acknowledged = λ x h. h })
      refl (unchanged s.head r) refl refl (not_after (s.promised r) e above) ok)
    where
      above : is_earlier (s.promised r) e ≡ true
      above = subst (λ p. is_earlier p e ≡ true) (ok.promised r) may.above

  takes_head : (w : World) (s : State) (r : ℕ) (e : Epoch) (ws : List Write) → May makes members w (TakesHead r e ws) → Shows makes members start w s →
      Shows makes members start (after w (TakesHead r e ws)) (history.after s (Take_head r (record { epoch = e; count = length ws })))
  takes_head w s r e ws may ok = subst (λ p. Shows makes members start (renoded w r (record { promised = p; head = record { epoch = e; writes = ws }; primary = (w.nodes r).primary })) (history.after s (Take_head r t))) (sym (ok.promised r))
      (takes w s (Take_head r t) r (s.promised r) (record { epoch = e; writes = ws }) (record {
        chosen = j.chosen;
        whole = j.whole;
        known = omega (arith, ap length j.front.1, length-append ws j.front.0);
        above = subst (λ h. Below (stamp_of h) t) (ok.head r) may.above;
      })
      (record { current = refl; chosen = refl; active = refl; base = refl; log = refl; committed = refl; reports = λ x h. h; acknowledged = λ x h. h })
      (unchanged s.promised r)
      (ap (λ l. at_node r (record { epoch = e; writes = l }) s.head) (subst (λ l. take (length ws) l ≡ ws) j.front.1 (take-append_seam ws j.front.0)))
      refl refl (not_before_self (s.promised r)) ok)
    where
      t : Stamp
      t = record { epoch = e; count = length ws }

      j : InstallFits s e ws
      j = ok.messages (Install e ws) may.asked

  takes_update : (w : World) (s : State) (r : ℕ) (v : Write) → May makes members w (TakesUpdate r v) → Shows makes members start w s →
      Shows makes members start (after w (TakesUpdate r v)) (history.after s (Take_update r v.stamp))
  takes_update w s r v may ok = subst₂ (λ p ws. Shows makes members start (renoded w r (record { promised = p; head = record { epoch = v.stamp.epoch; writes = ws ++ v ∷ [] }; primary = (w.nodes r).primary })) (history.after s (Take_update r v.stamp)))
      (sym (ok.promised r)) (ap (λ (h : Head). h.writes) (sym (ok.head r)))
      (takes w s (Take_update r v.stamp) r (s.promised r) (record { epoch = v.stamp.epoch; writes = (s.head r).writes ++ v ∷ [] }) (record {
        same = ap (λ (h : Head). h.epoch) (sym (ok.head r)) ∙ may.same;
        next = next;
        known = omega (arith, ap length j.is, length-append j.before (v ∷ j.later), j.place);
      })
      (record { current = refl; chosen = refl; active = refl; base = refl; log = refl; committed = refl; reports = λ x h. h; acknowledged = λ x h. h })
      (unchanged s.promised r)
      (ap (λ l. at_node r (record { epoch = v.stamp.epoch; writes = (s.head r).writes ++ l }) s.head) taken)
      refl refl (not_before_self (s.promised r)) ok)
    where
      j : UpdateFits s v
      j = ok.messages (Update v) may.asked

      next : suc (length (s.head r).writes) ≡ v.stamp.count
      next = ap (λ (h : Head). suc (length h.writes)) (sym (ok.head r)) ∙ may.next

      taken : take 1 (drop (pred v.stamp.count) (writes_of s v.stamp.epoch)) ≡ v ∷ []
      taken = subst (λ l. take 1 (drop (pred v.stamp.count) l) ≡ v ∷ []) j.is
          (subst (λ n. take 1 (drop (pred n) (j.before ++ v ∷ j.later)) ≡ v ∷ []) j.place
          (ap (take 1) (drop-append_seam j.before (v ∷ j.later))))

  -- another state of the primary that holds, perhaps with a move and marks
  acts : (w : World) (s s2 : State) (n : ℕ) (p : Primary) (ms : List Mark) → Sound members start s2 → Grows s s2 →
      s2.promised ≡ s.promised → s2.head ≡ s.head → s2.drawn ≡ s.drawn → w.holder ≡ Some n → PrimaryFits s2 w.holder n p →
      acts_of ms ≡ s2.acts → AnswersShow start ms → ((e : Epoch) → s2.chosen e ≡ true → AreMade makes (writes_of s2 e)) →
      ((e : Epoch) → s2.chosen e ≡ true → (u : Write) → Has u (writes_of s2 e) → IsKnown start s2 u) → Shows makes members start w s → Shows makes members start (record (leads w n p) { marks = ms }) s2
  acts w s s2 n p ms sound g promised head drawn held fits told answers made fit ok = record {
    sound = sound;
    promised = λ r. by_node (λ b. (if b then new else w.nodes r).promised ≡ s.promised r) r n (λ e. subst (λ m. (w.nodes m).promised ≡ s.promised r) e (ok.promised r)) (λ _. ok.promised r) ∙ ap (λ f. f r) (sym promised);
    head = λ r. by_node (λ b. (if b then new else w.nodes r).head ≡ s.head r) r n (λ e. subst (λ m. (w.nodes m).head ≡ s.head r) e (ok.head r)) (λ _. ok.head r) ∙ ap (λ f. f r) (sym head);
    drawn = λ e h. subst (λ f. e.number ≤ (f e.node.0).number) (sym promised) (ok.drawn e (ap (λ f. f e) (sym drawn) ∙ h));
    primaries = λ m. by_node (λ b. PrimaryFits s2 w.holder m (if b then new else w.nodes m).primary) m n
        (λ e. subst (λ k. PrimaryFits s2 w.holder k p) (sym e) fits) (λ ne. idle_else s s2 w.holder w.holder n m (w.nodes m).primary held ne (ok.primaries m));
    messages = same_messages s s2 g w.messages ok.messages;
    acts = told;
    answers = answers;
    made = made;
    fits = fit;
    bodies = λ q b h. body_grows start s s2 g b (ok.bodies q b h);
  }
    where
      new : Node
      new = record { promised = (w.nodes n).promised; head = (w.nodes n).head; primary = p }

  counts_status : (w : World) (s : State) (n : ℕ) (e : Epoch) (counted : List Counted) (r : ℕ) (h : Head) → May makes members w (CountsStatus n e counted r h) → Shows makes members start w s →
      Shows makes members start (after w (CountsStatus n e counted r h)) s
  counts_status w s n e counted r h may ok = acts w s s n (Gathering e (new ∷ counted)) w.marks ok.sound (grows_self s) refl refl refl f.held (record {
    held = f.held;
    current = f.current;
    free = f.free;
    told = told;
  }) ok.acts ok.answers ok.made ok.fits ok
    where
      new : Counted
      new = record { replica = r; head = h }

      f : GatheringFits s w.holder n e counted
      f = subst (PrimaryFits s w.holder n) may.gathers (ok.primaries n)

      told : (x : Counted) → Has x (new ∷ counted) → Has (record { replica = x.replica; epoch = e; head = x.head }) s.reports
      told x (inl p) = subst (λ (y : Counted). Has (record { replica = y.replica; epoch = e; head = y.head }) s.reports) (sym p) (ok.messages (Status r e h) may.told)
      told x (inr has) = f.told x has

  chooses : (w : World) (s : State) (n : ℕ) (e : Epoch) (counted : List Counted) (r : ℕ) (found : Head) → May makes members w (Chooses n e counted r found) → Shows makes members start w s →
      Shows makes members start (after w (Chooses n e counted r found)) (history.after s (Choose e found))
  chooses w s n e counted r found may ok = acts w s (history.after s (Choose e found)) n (Installing e found.writes []) w.marks
      (moved members start s (Choose e found) legal ok.sound) (grows members s (Choose e found) legal) refl refl refl f.held (record {
        held = f.held;
        current = f.current;
        chosen = at_same e true s.chosen;
        idle = not_true (s.active e) (λ a. true_false (ok.sound.line.active_chosen e a) f.free);
        base_is = at_same e found.writes s.base;
        told = λ q has. absurd has;
      }) ok.acts ok.answers made fit ok
    where
      f : GatheringFits s w.holder n e counted
      f = subst (PrimaryFits s w.holder n) may.gathers (ok.primaries n)

      of : IsOfEpoch s.chosen s.base s.log found
      of = ok.sound.heads.told (record { replica = r; epoch = e; head = found }) (f.told (record { replica = r; head = found }) may.one)

      no_log : s.log e ≡ []
      no_log = ok.sound.line.idle e (not_true (s.active e) (λ a. true_false (ok.sound.line.active_chosen e a) f.free))

      made : (d : Epoch) → (history.after s (Choose e found)).chosen d ≡ true → AreMade makes (writes_of (history.after s (Choose e found)) d)
      made d = by_epoch (λ b. (if b then true else s.chosen d) ≡ true → AreMade makes ((if b then found.writes else s.base d) ++ s.log d)) d e
          (λ p _. subst (λ l. AreMade makes (found.writes ++ l)) (sym no_log ∙ ap s.log (sym p)) (subst (AreMade makes) (sym (append-nil found.writes))
          (made_front makes [] found.writes of.front.0 (subst (AreMade makes) (sym of.front.1) (ok.made found.epoch of.has_one)))))
          (λ _ h. ok.made d h)

      reported : (m : ℕ) → counted_from m counted ≡ true → HasReported true s.reports e found m
      reported m t = at (counted_has m counted t)
        where
          at : (c : Counted) × Has c counted × (c.replica ≡ m) → HasReported true s.reports e found m
          at c = (c.0.head, subst (λ q. Has (record { replica = q; epoch = e; head = c.0.head }) s.reports) c.2 (f.told c.0 c.1), may.greatest c.0 c.1)

      legal : Legal every_rule members s (Choose e found)
      legal = record {
        current = f.current;
        first = f.free;
        reported = (r, f.told (record { replica = r; head = found }) may.one);
        greatest = record { those = λ m. counted_from m counted; more_than_half = may.most; each = reported };
      }

      fit : (d : Epoch) → (history.after s (Choose e found)).chosen d ≡ true → (u : Write) → Has u (writes_of (history.after s (Choose e found)) d) → IsKnown start (history.after s (Choose e found)) u
      fit d h u has = known_grows start s (history.after s (Choose e found)) (grows members s (Choose e found) legal) u (at_d h has)
        where
          at_d : (history.after s (Choose e found)).chosen d ≡ true → Has u (writes_of (history.after s (Choose e found)) d) → IsKnown start s u
          at_d = by_epoch (λ b. (if b then true else s.chosen d) ≡ true → Has u ((if b then found.writes else s.base d) ++ s.log d) → IsKnown start s u) d e
              (λ p _ g. ok.fits found.epoch of.has_one u (subst (Has u) of.front.1 (has-left u found.writes of.front.0
              (subst (Has u) (append-nil found.writes) (subst (λ l. Has u (found.writes ++ l)) (ap s.log p ∙ no_log) g)))))
              (λ _ k g. ok.fits d k u g)

  counts_installed : (w : World) (s : State) (n : ℕ) (e : Epoch) (ws : List Write) (acked : List ℕ) (r : ℕ) (t : Stamp) → May makes members w (CountsInstalled n e ws acked r t) → Shows makes members start w s →
      Shows makes members start (after w (CountsInstalled n e ws acked r t)) s
  counts_installed w s n e ws acked r t may ok = acts w s s n (Installing e ws (r ∷ acked)) w.marks ok.sound (grows_self s) refl refl refl f.held (record {
    held = f.held;
    current = f.current;
    chosen = f.chosen;
    idle = f.idle;
    base_is = f.base_is;
    told = told;
  }) ok.acts ok.answers ok.made ok.fits ok
    where
      f : InstallingFits s w.holder n e ws acked
      f = subst (PrimaryFits s w.holder n) may.installs (ok.primaries n)

      j : AckFits s r t
      j = ok.messages (Ack r t) may.told

      new : HasAcknowledged s.acknowledged (record { epoch = e; count = length ws }) r
      new = (
        t,
        j.has,
        subst (λ d. AtMost (record { epoch = d; count = length ws }) t) may.same (at_most_count t.epoch (length ws) t.count
            (subst (λ b. length b ≤ t.count) (subst (λ d. s.base d ≡ ws) (sym may.same) f.base_is) j.whole)),
      )

      told : (q : ℕ) → Has q (r ∷ acked) → HasAcknowledged s.acknowledged (record { epoch = e; count = length ws }) q
      told q (inl p) = subst (HasAcknowledged s.acknowledged (record { epoch = e; count = length ws })) (sym p) new
      told q (inr has) = f.told q has

  counts_updated : (w : World) (s : State) (n : ℕ) (e : Epoch) (ws : List Write) (v : Write) (acked : List ℕ) (r : ℕ) (t : Stamp) → May makes members w (CountsUpdated n e ws v acked r t) → Shows makes members start w s →
      Shows makes members start (after w (CountsUpdated n e ws v acked r t)) s
  counts_updated w s n e ws v acked r t may ok = acts w s s n (Active e ws (Some v) (r ∷ acked)) w.marks ok.sound (grows_self s) refl refl refl f.held (record {
    held = f.held;
    current = f.current;
    active = f.active;
    count = f.count;
    writes = f.writes;
    stamped = f.stamped;
    told = told;
  }) ok.acts ok.answers ok.made ok.fits ok
    where
      f : ActiveFits s w.holder n e ws (Some v) acked
      f = active_fits w s n e ws (Some v) acked may.serves ok

      j : AckFits s r t
      j = ok.messages (Ack r t) may.told

      new : HasAcknowledged s.acknowledged (record { epoch = e; count = suc (length ws) }) r
      new = (t, j.has, subst (λ d. AtMost (record { epoch = d; count = suc (length ws) }) t) may.same (at_most_count t.epoch (suc (length ws)) t.count may.reached))

      told : (q : ℕ) → Has q (r ∷ acked) → HasAcknowledged s.acknowledged (record { epoch = e; count = suc (length ws) }) q
      told q (inl p) = subst (HasAcknowledged s.acknowledged (record { epoch = e; count = suc (length ws) })) (sym p) new
      told q (inr has) = f.told q has

  -- a replica that has acknowledged writes of the current epoch has a head of that epoch with as many
  own_head : (s : State) (e : Epoch) (n count : ℕ) → Sound members start s → s.current ≡ Some e → s.chosen e ≡ true → HasAcknowledged s.acknowledged (record { epoch = e; count = count }) n →
      ((s.head n).epoch ≡ e) × (count ≤ length (s.head n).writes)
  own_head s e n count ok current chosen acked = at (at_most_cases e count (stamp_of (s.head n))
      (at_most_trans (record { epoch = e; count = count }) acked.0 (stamp_of (s.head n)) acked.2 (ok.acknowledgements.reached (record { replica = n; stamp = acked.0 }) acked.1)))
    where
      at : (is_earlier e (s.head n).epoch ≡ true) ⊎ ((e ≡ (s.head n).epoch) × (count ≤ length (s.head n).writes)) → ((s.head n).epoch ≡ e) × (count ≤ length (s.head n).writes)
      at (inl later) = true_false later (ok.choices.newest e (s.head n).epoch current chosen (ok.heads.own n).has_one)
      at (inr same) = (sym same.0, same.1)

  -- and all of them, where there are no more
  own_writes : (s : State) (e : Epoch) (n count : ℕ) → Sound members start s → s.current ≡ Some e → s.chosen e ≡ true → HasAcknowledged s.acknowledged (record { epoch = e; count = count }) n →
      length (writes_of s e) ≤ count → (s.head n).writes ≡ writes_of s e
  own_writes s e n count ok current chosen acked all = whole_front (s.head n).writes (writes_of s e) (subst (λ d. IsFront (s.head n).writes (writes_of s d)) h.0 (ok.heads.own n).front) (omega (arith, h.1))
    where
      h : ((s.head n).epoch ≡ e) × (count ≤ length (s.head n).writes)
      h = own_head s e n count ok current chosen acked

  activates : (w : World) (s : State) (n : ℕ) (e : Epoch) (ws : List Write) (acked : List ℕ) → May makes members w (Activates n e ws acked) → Shows makes members start w s →
      Shows makes members start (after w (Activates n e ws acked)) (history.after s (Activate e))
  activates w s n e ws acked may ok = acts w s (history.after s (Activate e)) n (Active e (w.nodes n).head.writes None [])
      (Told n (Activated (length (w.nodes n).head.writes) (last_write (w.nodes n).head.writes)) ∷ w.marks)
      (moved members start s (Activate e) legal ok.sound) (grows members s (Activate e) legal) refl refl refl f.held (record {
        held = f.held;
        current = f.current;
        active = at_same e true s.active;
        count = at_same e (length (s.base e)) s.committed ∙ sym (ap length own);
        writes = all ∙ sym own ∙ sym (append-nil (w.nodes n).head.writes);
        stamped = λ v p. absurd cc;
        told = λ q has. absurd has;
      }) (ap₂ (λ h rest. Activated (length h) (last_write h) ∷ rest) own ok.acts) ok.answers ok.made (fits_on s (history.after s (Activate e)) (grows members s (Activate e) legal) (λ d h. h) (λ d. refl) ok.fits) ok
    where
      f : InstallingFits s w.holder n e ws acked
      f = subst (PrimaryFits s w.holder n) may.installs (ok.primaries n)

      all : s.base e ++ s.log e ≡ s.base e
      all = ap (λ l. s.base e ++ l) (ok.sound.line.idle e f.idle) ∙ append-nil (s.base e)

      own : (w.nodes n).head.writes ≡ s.base e
      own = ap (λ (h : Head). h.writes) (ok.head n) ∙
          own_writes s e n (length ws) ok.sound f.current f.chosen (f.told n (among_has n acked may.own)) (omega (arith, ap length all, ap length f.base_is)) ∙ all

      legal : Legal every_rule members s (Activate e)
      legal = record {
        current = f.current;
        chosen = f.chosen;
        first = f.idle;
        acknowledged = record {
          those = λ m. among m acked;
          more_than_half = may.most;
          each = λ m t. subst (λ b. HasAcknowledged s.acknowledged (record { epoch = e; count = length b }) m) (sym f.base_is) (f.told m (among_has m acked t));
        };
      }

  issues : (w : World) (s : State) (n : ℕ) (e : Epoch) (ws : List Write) (acked : List ℕ) (v : Write) → May makes members w (Issues n e ws acked v) → start.floor < e.number → Shows makes members start w s →
      Shows makes members start (after w (Issues n e ws acked v)) (history.after s (Issue e v))
  issues w s n e ws acked v may late ok = acts w s (history.after s (Issue e v)) n (Active e ws (Some v) []) (Told n (Issued (suc (length ws)) v) ∷ w.marks)
      (moved members start s (Issue e v) legal ok.sound) (grows members s (Issue e v) legal) refl refl refl f.held (record {
        held = f.held;
        current = f.current;
        active = f.active;
        count = f.count;
        writes = ap (λ l. s.base e ++ l) (at_same e (s.log e ++ v ∷ []) s.log) ∙ sym (append_assoc (s.base e) (s.log e) (v ∷ [])) ∙ ap (λ l. l ++ v ∷ []) all;
        stamped = λ u p. subst (λ x. x.stamp ≡ record { epoch = e; count = suc (length ws) }) (some_write p) may.stamped;
        told = λ q has. absurd has;
      }) (ap₂ (λ l rest. Issued (suc (length l)) v ∷ rest) (sym all) ok.acts) ok.answers made fit ok
    where
      f : ActiveFits s w.holder n e ws None acked
      f = active_fits w s n e ws None acked may.serves ok

      all : writes_of s e ≡ ws
      all = f.writes ∙ append-nil ws

      legal : Legal every_rule members s (Issue e v)
      legal = record {
        current = f.current;
        active = f.active;
        none_open = f.count ∙ sym (ap length all);
        new = λ h. may.new (subst (λ l. Has (name v) (map name l)) all h);
      }

      made : (d : Epoch) → s.chosen d ≡ true → AreMade makes (writes_of (history.after s (Issue e v)) d)
      made d h = by_epoch (λ b. AreMade makes (s.base d ++ (if b then s.log e ++ v ∷ [] else s.log d))) d e
          (λ p. subst (λ x. AreMade makes (s.base x ++ (s.log e ++ v ∷ []))) (sym p) (subst (AreMade makes) (append_assoc (s.base e) (s.log e) (v ∷ []))
          (made_push makes [] (s.base e ++ s.log e) v (ok.made e (ok.sound.line.active_chosen e f.active)) (subst (λ l. makes l v) (sym all) may.made))))
          (λ _. ok.made d h)

      next_state : State
      next_state = history.after s (Issue e v)

      whole : writes_of next_state e ≡ ws ++ v ∷ []
      whole = ap (λ l. s.base e ++ l) (at_same e (s.log e ++ v ∷ []) s.log) ∙ sym (append_assoc (s.base e) (s.log e) (v ∷ [])) ∙ ap (λ l. l ++ v ∷ []) all

      own_fits : UpdateFits next_state v
      own_fits = record {
        chosen = subst (λ t. s.chosen t.epoch ≡ true) (sym may.stamped) (ok.sound.line.active_chosen e f.active);
        whole = subst (λ t. length (s.base t.epoch) ≤ t.count) (sym may.stamped) (omega (arith, ap length all, length-append (s.base e) (s.log e)));
        before = ws;
        later = [];
        is = subst (λ t. ws ++ v ∷ [] ≡ writes_of next_state t.epoch) (sym may.stamped) (sym whole);
        place = ap (λ (t : Stamp). t.count) (sym may.stamped);
      }

      old_fits : (d : Epoch) → s.chosen d ≡ true → (u : Write) → Has u (writes_of s d) → IsKnown start next_state u
      old_fits d h u has = known_grows start s next_state (grows members s (Issue e v) legal) u (ok.fits d h u has)

      fit : (d : Epoch) → s.chosen d ≡ true → (u : Write) → Has u (writes_of next_state d) → IsKnown start next_state u
      fit d h u = by_epoch (λ b. Has u (s.base d ++ (if b then s.log e ++ v ∷ [] else s.log d)) → IsKnown start next_state u) d e
          (λ p g. either (has-append u (s.base e ++ s.log e) (v ∷ []) (subst (Has u) (sym (append_assoc (s.base e) (s.log e) (v ∷ []))) (subst (λ x. Has u (s.base x ++ (s.log e ++ v ∷ []))) p g))))
          (λ _ g. old_fits d h u g)
        where
          either : Has u (s.base e ++ s.log e) ⊎ Has u (v ∷ []) → IsKnown start next_state u
          either (inl g) = old_fits e (ok.sound.line.active_chosen e f.active) u g
          either (inr (inl p)) = subst (IsKnown start next_state) (sym p) (inr (own_fits, subst (λ (t : Stamp). start.floor < t.epoch.number) (sym may.stamped) late))
          either (inr (inr g)) = absurd g

  commits : (w : World) (s : State) (n : ℕ) (e : Epoch) (ws : List Write) (v : Write) (acked : List ℕ) → May makes members w (Commits n e ws v acked) → Shows makes members start w s →
      Shows makes members start (after w (Commits n e ws v acked)) (history.after s (Commit e))
  commits w s n e ws v acked may ok = acts w s (history.after s (Commit e)) n (Active e (w.nodes n).head.writes None []) (Told n (Committed (suc (length ws)) v) ∷ w.marks)
      (moved members start s (Commit e) legal ok.sound) (grows members s (Commit e) legal) refl refl refl f.held (record {
        held = f.held;
        current = f.current;
        active = f.active;
        count = at_same e (suc (s.committed e)) s.committed ∙ ap suc f.count ∙ sym (ap length own ∙ many);
        writes = sym own ∙ sym (append-nil (w.nodes n).head.writes);
        stamped = λ u p. absurd cc;
        told = λ q has. absurd has;
      }) (ap₂ (λ a rest. a ∷ rest) same ok.acts) ok.answers ok.made (fits_on s (history.after s (Commit e)) (grows members s (Commit e) legal) (λ d h. h) (λ d. refl) ok.fits) ok
    where
      f : ActiveFits s w.holder n e ws (Some v) acked
      f = active_fits w s n e ws (Some v) acked may.serves ok

      many : length (writes_of s e) ≡ suc (length ws)
      many = omega (arith, ap length f.writes, length-append ws (v ∷ []))

      own : (w.nodes n).head.writes ≡ writes_of s e
      own = ap (λ (h : Head). h.writes) (ok.head n) ∙
          own_writes s e n (suc (length ws)) ok.sound f.current (ok.sound.line.active_chosen e f.active) (f.told n (among_has n acked may.own)) (omega (arith, many))

      same : Committed (suc (length ws)) v ≡ Committed (suc (s.committed e)) (last_write (take (suc (s.committed e)) (writes_of s e)))
      same = ap₂ (λ k u. Committed (suc k) u) (sym f.count)
          (sym (ap last_write (take_all (suc (s.committed e)) (writes_of s e) (omega (arith, many, f.count)) ∙ f.writes) ∙ last_push ws v))

      legal : Legal every_rule members s (Commit e)
      legal = record {
        current = f.current;
        active = f.active;
        open_write = omega (arith, many, f.count);
        acknowledged = record {
          those = λ m. among m acked;
          more_than_half = may.most;
          each = λ m t. subst (λ k. HasAcknowledged s.acknowledged (record { epoch = e; count = suc k }) m) (sym f.count) (f.told m (among_has m acked t));
        };
      }

  -- a node draws an epoch, and promises it
  draws : (w : World) (s : State) (n : ℕ) (e : Epoch) → May makes members w (Draws n e) → Shows makes members start w s →
      Shows makes members start (after w (Draws n e)) (history.after (history.after s (Draw e)) (Promise n e))
  draws w s n e may ok = record {
    sound = moved members start s1 (Promise n e) (record { above = above }) (moved members start s (Draw e) legal ok.sound);
    promised = λ r. by_node (λ b. (if b then new else w.nodes r).promised ≡ (if b then e else s.promised r)) r n (λ _. refl) (λ _. ok.promised r);
    head = λ r. by_node (λ b. (if b then new else w.nodes r).head ≡ s.head r) r n (λ p. subst (λ m. (w.nodes m).head ≡ s.head r) p (ok.head r)) (λ _. ok.head r);
    drawn = λ d h. drawn_too d (was_true e s.drawn d h);
    primaries = λ m. by_node (λ b. PrimaryFits s2 w.holder m (if b then new else w.nodes m).primary) m n
        (λ p. subst (λ k. PrimaryFits s2 w.holder k (Gathering e [])) (sym p) fits) (λ ne. idle_else s s2 w.holder w.holder n m (w.nodes m).primary may.holds ne (ok.primaries m));
    messages = same_messages s s2 (grows_on s s1 s2 (grows members s (Draw e) legal) (grows members s1 (Promise n e) (record { above = above }))) w.messages ok.messages;
    acts = ok.acts;
    answers = ok.answers;
    made = ok.made;
    fits = fits_on s s2 both_grow (λ d h. h) (λ d. refl) ok.fits;
    bodies = λ q b h. body_grows start s s2 both_grow b (ok.bodies q b h);
  }
    where
      new : Node
      new = record { promised = e; head = (w.nodes n).head; primary = Gathering e [] }

      s1 : State
      s1 = history.after s (Draw e)

      s2 : State
      s2 = history.after s1 (Promise n e)

      higher : (s.promised n).number < e.number
      higher = subst (λ p. p.number < e.number) (ok.promised n) may.above

      above : is_earlier (s.promised n) e ≡ true
      above = lower_number (s.promised n) e higher

      fresh : s.drawn e ≡ true → ⊥
      fresh h = absurd (omega (arith, subst (λ m. e.number ≤ (s.promised m).number) may.own (ok.drawn e h), higher))

      legal : Legal every_rule members s (Draw e)
      legal = record { new = not_true (s.drawn e) fresh }

      both_grow : Grows s s2
      both_grow = grows_on s s1 s2 (grows members s (Draw e) legal) (grows members s1 (Promise n e) (record { above = above }))

      fits : GatheringFits s2 w.holder n e []
      fits = record {
        held = may.holds;
        current = refl;
        free = not_true (s.chosen e) (λ h. fresh (ok.sound.choices.drawn_first e h));
        told = λ x has. absurd has;
      }

      drawn_too : (d : Epoch) → (d ≡ e) ⊎ (s.drawn d ≡ true) → d.number ≤ (at_node n e s.promised d.node.0).number
      drawn_too d (inl p) = subst (λ x. x.number ≤ (at_node n e s.promised x.node.0).number) (sym p)
          (by_node (λ b. e.number ≤ (if b then e else s.promised e.node.0).number) e.node.0 n (λ _. omega arith) (λ ne. absurd (ne may.own)))
      drawn_too d (inr h) = by_node (λ b. d.number ≤ (if b then e else s.promised d.node.0).number) d.node.0 n
          (λ p. omega (arith, higher, subst (λ m. d.number ≤ (s.promised m).number) p (ok.drawn d h))) (λ _. ok.drawn d h)

  -- a node gains the lease
  gains : (w : World) (s : State) (n : ℕ) → May makes members w (Gains n) → Shows makes members start w s → Shows makes members start (after w (Gains n)) s
  gains w s n may ok = record {
    sound = ok.sound;
    promised = ok.promised;
    head = ok.head;
    drawn = ok.drawn;
    primaries = λ m. idle_all s s w.holder (Some n) m (w.nodes m).primary may (ok.primaries m);
    messages = ok.messages;
    acts = ok.acts;
    answers = ok.answers;
    made = ok.made;
    fits = ok.fits;
    bodies = ok.bodies;
  }

  -- a node loses it, or stops; where it isn't the holder nothing is lost
  loses_in : (w : World) (s : State) (n : ℕ) → Shows makes members start w s → InState makes members start (after w (Loses n))
  loses_in w s n ok = at w.holder refl
    where
      idle : Node
      idle = record { promised = (w.nodes n).promised; head = (w.nodes n).head; primary = Idle }

      -- in the state after, where the other primaries still fit
      in_state : (s2 : State) (h : Option ℕ) → Sound members start s2 → Grows s s2 → s2.promised ≡ s.promised → s2.head ≡ s.head → s2.drawn ≡ s.drawn → s2.acts ≡ s.acts →
          ((m : ℕ) → (m ≡ n → ⊥) → PrimaryFits s2 h m (w.nodes m).primary) → ((e : Epoch) → s2.chosen e ≡ true → AreMade makes (writes_of s2 e)) → ((e : Epoch) → s2.chosen e ≡ true → s.chosen e ≡ true) → ((e : Epoch) → writes_of s2 e ≡ writes_of s e) → InState makes members start (record (leads w n Idle) { holder = h })
      in_state s2 h sound g promised head drawn told others made chosen writes = record {
        state = s2;
        shows = record {
          sound = sound;
          promised = λ r. by_node (λ b. (if b then idle else w.nodes r).promised ≡ s.promised r) r n (λ e. subst (λ m. (w.nodes m).promised ≡ s.promised r) e (ok.promised r)) (λ _. ok.promised r) ∙ ap (λ f. f r) (sym promised);
          head = λ r. by_node (λ b. (if b then idle else w.nodes r).head ≡ s.head r) r n (λ e. subst (λ m. (w.nodes m).head ≡ s.head r) e (ok.head r)) (λ _. ok.head r) ∙ ap (λ f. f r) (sym head);
          drawn = λ e h. subst (λ f. e.number ≤ (f e.node.0).number) (sym promised) (ok.drawn e (ap (λ f. f e) (sym drawn) ∙ h));
          primaries = λ m. by_node (λ b. PrimaryFits s2 h m (if b then idle else w.nodes m).primary) m n (λ _. tt) (λ ne. others m ne);
          messages = same_messages s s2 g w.messages ok.messages;
          acts = ok.acts ∙ sym told;
          answers = ok.answers;
          made = made;
          fits = fits_on s s2 g chosen writes ok.fits;
          bodies = λ q b h. body_grows start s s2 g b (ok.bodies q b h);
        };
      }

      at : (h : Option ℕ) → w.holder ≡ h → InState makes members start (record (leads w n Idle) { holder = without n h })
      at None e = in_state s None ok.sound (grows_self s) refl refl refl refl (λ m ne. idle_all s s w.holder None m (w.nodes m).primary e (ok.primaries m)) ok.made (λ d h. h) (λ d. refl)
      at (Some k) e = by_node (λ b. InState makes members start (record (leads w n Idle) { holder = if b then None else Some k })) k n
          (λ same. in_state (history.after s Lose) None (moved members start s Lose tt ok.sound) (grows members s Lose tt) refl refl refl refl
          (λ m ne. idle_else s (history.after s Lose) w.holder None n m (w.nodes m).primary (e ∙ ap Some same) ne (ok.primaries m)) ok.made (λ d h. h) (λ d. refl))
          (λ other. in_state s (Some k) ok.sound (grows_self s) refl refl refl refl (λ m ne. subst (λ h. PrimaryFits s h m (w.nodes m).primary) e (ok.primaries m)) ok.made (λ d h. h) (λ d. refl))

  -- an answer
  shows_all : (w : World) (s : State) (n : ℕ) (e : Epoch) (ws : List Write) (issued : Option Write) (acked : List ℕ) → (w.nodes n).primary ≡ Active e ws issued acked → Shows makes members start w s →
      ws ≡ line_at start w.marks
  shows_all w s n e ws issued acked is ok = sym (take-append_seam ws (issued_writes issued)) ∙
      subst₂ (λ k l. take k l ≡ line_at start w.marks) f.count f.writes (line_served members start s ok.sound e f.current f.active ∙ ap (line_of start.line) (sym ok.acts))
    where
      f : ActiveFits s w.holder n e ws issued acked
      f = active_fits w s n e ws issued acked is ok

  -- what is held of a version that a line names is the body of its write
  pub held_is : (w : World) (s : State) (n : ℕ) (ws : List Write) (o : ℕ) (v : Option Stamp) (body : List ℕ) → Shows makes members start w s → Apart start → ((u : Write) → Has u ws → IsKnown start s u) →
      IsNamed ws (bodies_of ws) o v → IsHeld (w.held n) o v body → body ≡ bodies_of ws o
  held_is w s n ws o None body ok apart fit named held = held ∙ sym named
  held_is w s n ws o (Some v) body ok apart fit named held = by (ok.bodies n b held)
    where
      b : Body
      b = record { object = o; version = v; bytes = body }

      -- a body of a write before is named where that write was taken over
      old_is : Has b start.old → IsKnown start s named.0 → body ≡ bodies_of ws o
      old_is old (inl h) = sym (apart.old_right b named.0 old h named.3) ∙ named.4
      old_is old (inr k) = absurd (omega (arith, apart.old_older b old, k.1, ap (λ (t : Stamp). t.epoch.number) named.3))

      by : BodyFits start s b → body ≡ bodies_of ws o
      by (inl k) = sym k.is_bytes ∙ ap (λ (u : Write). u.body) (one_known start s k.update named.0 apart k.fits (fit named.0 named.1) (k.is_version ∙ sym named.3)) ∙ named.4
      by (inr old) = old_is old (fit named.0 named.1)

  answers_read : (w : World) (s : State) (n : ℕ) (e : Epoch) (ws : List Write) (issued : Option Write) (acked : List ℕ) (o : ℕ) (body : List ℕ) → May makes members w (AnswersRead n e ws issued acked o body) → Apart start → Shows makes members start w s →
      Shows makes members start (after w (AnswersRead n e ws issued acked o body)) s
  answers_read w s n e ws issued acked o body may apart ok = record {
    sound = ok.sound;
    promised = ok.promised;
    head = ok.head;
    drawn = ok.drawn;
    primaries = ok.primaries;
    messages = ok.messages;
    acts = ok.acts;
    answers = ((shows_all w s n e ws issued acked may.serves ok, held_is w s n ws o (version_of (versions_of ws) o) body ok apart fit (versions_named ws o may.none) may.held), ok.answers);
    made = ok.made;
    fits = ok.fits;
    bodies = ok.bodies;
  }
    where
      f : ActiveFits s w.holder n e ws issued acked
      f = active_fits w s n e ws issued acked may.serves ok

      fit : (u : Write) → Has u ws → IsKnown start s u
      fit u has = ok.fits e (ok.sound.line.active_chosen e f.active) u (subst (Has u) (sym f.writes) (has-left u ws (issued_writes issued) has))

  answers_write : (w : World) (s : State) (n : ℕ) (e : Epoch) (ws : List Write) (issued : Option Write) (acked : List ℕ) (place : ℕ) (v : Write) → May makes members w (AnswersWrite n e ws issued acked place v) → Shows makes members start w s →
      Shows makes members start (after w (AnswersWrite n e ws issued acked place v)) s
  answers_write w s n e ws issued acked place v may ok = record {
    sound = ok.sound;
    promised = ok.promised;
    head = ok.head;
    drawn = ok.drawn;
    primaries = ok.primaries;
    messages = ok.messages;
    acts = ok.acts;
    answers = ((v, subst (λ l. slice_get l (pred place) ≡ Some v) (shows_all w s n e ws issued acked may.serves ok) may.stands, refl, may.placed), ok.answers);
    made = ok.made;
    fits = ok.fits;
    bodies = ok.bodies;
  }

  -- what a primary has when it commits
  pub commits_own : (w : World) (s : State) (n : ℕ) (e : Epoch) (ws : List Write) (v : Write) (acked : List ℕ) → May makes members w (Commits n e ws v acked) → Shows makes members start w s →
      (w.nodes n).head.writes ≡ ws ++ v ∷ []
  commits_own w s n e ws v acked may ok = ap (λ (h : Head). h.writes) (ok.head n) ∙
      own_writes s e n (suc (length ws)) ok.sound f.current (ok.sound.line.active_chosen e f.active) (f.told n (among_has n acked may.own)) (omega (arith, ap length f.writes, length-append ws (v ∷ []))) ∙ f.writes
    where
      f : ActiveFits s w.holder n e ws (Some v) acked
      f = active_fits w s n e ws (Some v) acked may.serves ok

  -- each step
  in_state : (w : World) (step : Step) → May makes members w step → IsShown makes members start w → InState makes members start (after w step)
  in_state w (Gains n) may is = record { state = is.state; shows = gains w is.state n may is.shows }
  in_state w (Loses n) may is = loses_in w is.state n is.shows
  in_state w (Promises r e) may is = record { state = history.after is.state (Promise r e); shows = promises w is.state r e may is.shows }
  in_state w (SendsStatus r e) may is = record { state = history.after is.state (Report r e); shows = sends_status w is.state r e may is.shows }
  in_state w (TakesHead r e ws) may is = record { state = history.after is.state (Take_head r (record { epoch = e; count = length ws })); shows = takes_head w is.state r e ws may is.shows }
  in_state w (TakesUpdate r v) may is = record { state = history.after is.state (Take_update r v.stamp); shows = takes_update w is.state r v may is.shows }
  in_state w (SendsAck r t) may is = record { state = history.after is.state (Acknowledge r t); shows = sends_ack w is.state r t may is.shows }
  in_state w (Draws n e) may is = record { state = history.after (history.after is.state (Draw e)) (Promise n e); shows = draws w is.state n e may is.shows }
  in_state w (SendsGather n e) may is = record { state = is.state; shows = sends_gather w is.state n e may is.shows }
  in_state w (CountsStatus n e counted r h) may is = record { state = is.state; shows = counts_status w is.state n e counted r h may is.shows }
  in_state w (Chooses n e counted r found) may is = record { state = history.after is.state (Choose e found); shows = chooses w is.state n e counted r found may is.shows }
  in_state w (SendsChosen n e ws acked) may is = record { state = is.state; shows = sends_chosen w is.state n e ws acked may is.shows }
  in_state w (SendsOwn n) may is = record { state = is.state; shows = sends_own w is.state n is.shows }
  in_state w (CountsInstalled n e ws acked r t) may is = record { state = is.state; shows = counts_installed w is.state n e ws acked r t may is.shows }
  in_state w (Activates n e ws acked) may is = record { state = history.after is.state (Activate e); shows = activates w is.state n e ws acked may is.shows }
  in_state w (Issues n e ws acked v) may is = record { state = history.after is.state (Issue e v); shows = issues w is.state n e ws acked v may ((is.late.nodes n).later e (ap epoch_of may.serves)) is.shows }
  in_state w (SendsUpdate n e ws v acked) may is = record { state = is.state; shows = sends_update w is.state n e ws v acked may is.shows }
  in_state w (CountsUpdated n e ws v acked r t) may is = record { state = is.state; shows = counts_updated w is.state n e ws v acked r t may is.shows }
  in_state w (Commits n e ws v acked) may is = record { state = history.after is.state (Commit e); shows = commits w is.state n e ws v acked may is.shows }
  in_state w (KeepsUpdate r v) may is = record {
    state = is.state;
    shows = keeps_body w is.state r (body_of v)
        (inl (record { update = v; fits = inr (is.shows.messages (Update v) may.0, is.late.updates v may.0); is_object = refl; is_version = refl; is_bytes = refl })) is.shows;
  }
  in_state w (SendsBody r b) may is = record { state = is.state; shows = says w is.state (Piece b) (is.shows.bodies r b may) is.shows }
  in_state w (KeepsBody r b) may is = record { state = is.state; shows = keeps_body w is.state r b (is.shows.messages (Piece b) may) is.shows }
  in_state w (Forgets r held) may is = record { state = is.state; shows = forgets w is.state r held may.less is.shows }
  in_state w (AnswersRead n e ws issued acked o body) may is = record { state = is.state; shows = answers_read w is.state n e ws issued acked o body may is.late.apart is.shows }
  in_state w (AnswersWrite n e ws issued acked place v) may is = record { state = is.state; shows = answers_write w is.state n e ws issued acked place v may is.shows }

  pub steps : (w : World) (step : Step) → May makes members w step → IsShown makes members start w → IsShown makes members start (after w step)
  steps w step may is = let x = in_state w step may is in record { state = x.state; shows = x.shows; late = stays_late start makes members w step may is.late }

  -- who leads holds the lease
  pub holds : (w : World) (n : ℕ) (e : Epoch) → epoch_of (w.nodes n).primary ≡ Some e → IsShown makes members start w → w.holder ≡ Some n
  holds w n e q is = leads_held is.state w.holder n (w.nodes n).primary e q (is.shows.primaries n)

  -- a world that looks the same, perhaps with fewer messages
  pub seems : (w w2 : World) → ((n : ℕ) → w2.nodes n ≡ w.nodes n) → w2.holder ≡ w.holder → ((m : Message) → Has m w2.messages → Has m w.messages) → w2.marks ≡ w.marks → ((r : ℕ) (b : Body) → Has b (w2.held r) → Has b (w.held r)) →
      IsShown makes members start w → IsShown makes members start w2
  seems w w2 nodes holder messages marks held is = let ok = is.shows in record {
    state = is.state;
    shows = record {
      sound = ok.sound;
      promised = λ r. ap (λ (x : Node). x.promised) (nodes r) ∙ ok.promised r;
      head = λ r. ap (λ (x : Node). x.head) (nodes r) ∙ ok.head r;
      drawn = ok.drawn;
      primaries = λ n. subst₂ (λ h p. PrimaryFits is.state h n p) (sym holder) (ap (λ (x : Node). x.primary) (sym (nodes n))) (ok.primaries n);
      messages = λ m h. ok.messages m (messages m h);
      acts = ap acts_of marks ∙ ok.acts;
      answers = subst (AnswersShow start) (sym marks) ok.answers;
      made = ok.made;
      fits = ok.fits;
      bodies = λ r b h. ok.bodies r b (held r b h);
    };
    late = seems_late start w w2 nodes messages is.late;
  }

  pub all_steps : (w : World) (ss : List Step) → MayAll makes members w ss → IsShown makes members start w → IsShown makes members start (after_all w ss)
  all_steps w [] may is = is
  all_steps w (s ∷ ss) may is = all_steps (after w s) ss may.1 (steps w s may.0 is)

  pub begins : Begins makes members start → IsShown makes members start (begin start)
  begins b = record {
    state = rule.begin start;
    shows = record {
      sound = begun members start b.is;
      promised = λ r. refl;
      head = λ r. refl;
      drawn = λ e h. subst (λ d. d.number ≤ (start.promised e.node.0).number) (sym (same_is e start.epoch h)) (omega (arith, b.own, b.promised e.node.0));
      primaries = λ n. tt;
      messages = old_pieces start (rule.begin start) start.old (λ c h. h);
      acts = refl;
      answers = tt;
      made = λ e h. subst (AreMade makes) (sym (rw h)) b.made;
      fits = λ e h u has. inl (subst (Has u) (ap (λ t. if t then start.line ++ start.open_writes else []) h) has);
      bodies = λ r body h. at r body (has_body body (take (start.holds r) (start.line ++ start.open_writes)) h);
    };
    late = record {
      apart = record { older = b.older; apart = b.apart; old_older = b.old_older; old_right = b.old_right };
      nodes = λ r. record { floor = b.promised r; later = λ e p. absurd cc; stamped = tt };
      updates = λ v h. absurd (no_updates start.old v h);
    };
  }
    where
      at : (r : ℕ) (body : Body) → (u : Write) × Has u (take (start.holds r) (start.line ++ start.open_writes)) × (body ≡ body_of u) → BodyFits start (rule.begin start) body
      at r body f = subst (BodyFits start (rule.begin start)) (sym f.2) (inl (record { update = f.0; fits = inl (has-front f.0 (start.holds r) (start.line ++ start.open_writes) f.1); is_object = refl; is_version = refl; is_bytes = refl }))

  -- the writes of the line are made in order
  pub line_made : (w : World) → IsShown makes members start w → AreMade makes (line_at start w.marks)
  line_made w is = let ok = is.shows in let holds = ok.sound.line.writes ok.sound.latest ok.sound.line.latest_chosen (not_before_self ok.sound.latest) in
      subst (λ acts. AreMade makes (line_of start.line acts)) (sym ok.acts)
      (made_front makes [] (line_of start.line is.state.acts) holds.near.more (subst (AreMade makes) (sym holds.near.is) (ok.made ok.sound.latest ok.sound.line.latest_chosen)))

  -- the writes that a primary serves are made in order, and each was issued
  pub served_made : (w : World) (s : State) (n : ℕ) (e : Epoch) (ws : List Write) (issued : Option Write) (acked : List ℕ) → (w.nodes n).primary ≡ Active e ws issued acked → Shows makes members start w s → AreMade makes ws
  served_made w s n e ws issued acked is ok = let f = active_fits w s n e ws issued acked is ok in
      made_front makes [] ws (issued_writes issued) (subst (AreMade makes) f.writes (ok.made e (ok.sound.line.active_chosen e f.active)))

  pub served_fit : (w : World) (s : State) (n : ℕ) (e : Epoch) (ws : List Write) (issued : Option Write) (acked : List ℕ) → (w.nodes n).primary ≡ Active e ws issued acked → Shows makes members start w s → (u : Write) → Has u ws → IsKnown start s u
  served_fit w s n e ws issued acked is ok u has = let f = active_fits w s n e ws issued acked is ok in
      ok.fits e (ok.sound.line.active_chosen e f.active) u (subst (Has u) (sym f.writes) (has-left u ws (issued_writes issued) has))

  pub issued_stamp : (w : World) (s : State) (n : ℕ) (e : Epoch) (ws : List Write) (v : Write) (acked : List ℕ) → (w.nodes n).primary ≡ Active e ws (Some v) acked → Shows makes members start w s → v.stamp ≡ record { epoch = e; count = suc (length ws) }
  issued_stamp w s n e ws v acked is ok = (active_fits w s n e ws (Some v) acked is ok).stamped v refl
