-- How a row shows: first the steps that change its node, and then one for each message that wasn't sent before.
use Rattle.std.proofs.Common.{◌≡◌, ℕ, ◌⊎◌, true, List, [], ◌∷◌, ◌++◌, refl, sym, ap, ◌∙◌, subst, inl, inr, append_assoc, Some, None}
use Rattle.std.specs.Prelude.{flat_map, map}
use Rattle.xt_base.specs.declared.ids.Epoch.{Epoch}
use Rattle.xt_messages.specs.declared.file.FileHead.{FileHead}
use Rattle.xt_messages.specs.declared.message.Msg.{Msg}
use Rattle.xt_protocol.specs.declared.turned.Turned.{Turned}
use Rattle.xt_messages.specs.declared.file.Op.{Op}
use Rattle.xt_protocol.specs.PrimaryRows.{body_beyond}
use Rattle.xt_protocol.specs.Primaries.{last_sent, is_ready}
use Rattle.xt_protocol.specs.ReplicaRows.{kept_after}
use Rattle.xt_protocol.specs.declared.states.Peer.{Peer}
use Rattle.xt_protocol.specs.declared.states.Tenure.{Tenure}
use Rattle.replica_safety.specs.Lists.{Has}
use Rattle.replica_safety.proofs.Lists.{has-append}
use Rattle.replica_runs.specs.HeadSteps.{Step, May, MayAll, after, after_steps}
use Rattle.replica_runs.specs.HeadWorld.{Message, Status, shown, shown_if, Local}
use Rattle.replica_runs.proofs.Tools.{has-right}
use Rattle.replica_runs.specs.Seen.{Seen, local_of, AreIn, AreTold, AreUntold, NamesHeld, ProgressFits, nodes_in, TenureFits, Leads}

-- ---- lists

pub are_in : (xs sent : List Message) → ((x : Message) → Has x xs → Has x sent) → AreIn xs sent
are_in [] sent f = tt
are_in (x ∷ xs) sent f = (f x (inl refl), are_in xs sent (λ y h. f y (inr h)))

pub in_are : (xs sent : List Message) → AreIn xs sent → (x : Message) → Has x xs → Has x sent
in_are [] sent all x h = absurd h
in_are (y ∷ xs) sent all x (inl p) = subst (λ z. Has z sent) (sym p) all.0
in_are (y ∷ xs) sent all x (inr h) = in_are xs sent all.1 x h

pub flat_has : {A B : Type 0} (f : A → List B) (ys : List A) (x : B) → Has x (flat_map f ys) → (y : A) × Has y ys × Has x (f y)
flat_has f [] x h = absurd h
flat_has {A} {B} f (y ∷ ys) x h = at (has-append x (f y) (flat_map f ys) h) (flat_has f ys x)
  where
    at : Has x (f y) ⊎ Has x (flat_map f ys) → (Has x (flat_map f ys) → (z : A) × Has z ys × Has x (f z)) → (z : A) × Has z (y ∷ ys) × Has x (f z)
    at (inl k) rest = (y, inl refl, k)
    at (inr k) rest = let r = rest k in (r.0, inr r.1, r.2)

pub has-left : (x : Message) (xs ys : List Message) → Has x xs → Has x (xs ++ ys)
has-left x [] ys h = absurd h
has-left x (y ∷ xs) ys (inl p) = inl p
has-left x (y ∷ xs) ys (inr h) = inr (has-left x xs ys h)

pub has_flat : {A : Type 0} (f : A → List Message) (ys : List A) (y : A) (x : Message) → Has y ys → Has x (f y) → Has x (flat_map f ys)
has_flat f [] y x h k = absurd h
has_flat f (z ∷ ys) y x (inl p) k = has-left x (f z) (flat_map f ys) (subst (λ w. Has x (f w)) p k)
has_flat f (z ∷ ys) y x (inr h) k = has-right x (f z) (flat_map f ys) (has_flat f ys y x h k)

pub map_has : {A B : Type 0} (f : A → B) (ys : List A) (x : B) → Has x (map f ys) → (y : A) × Has y ys × (x ≡ f y)
map_has f [] x h = absurd h
map_has f (y ∷ ys) x (inl p) = (y, inl refl, p)
map_has f (y ∷ ys) x (inr h) = let r = map_has f ys x h in (r.0, inr r.1, r.2)

abbrev pub with_sent : Seen → List Message → Seen
with_sent a sent = record a { sent = sent }

module _ (stripe : ℕ) (ops : ℕ × ℕ → Op) (members : List ℕ) (n : ℕ) where
  -- ---- chains of steps

  pub steps_append : (l : Local) (xs ys : List Step) → after_steps n l (xs ++ ys) ≡ after_steps n (after_steps n l xs) ys
  steps_append l [] ys = refl
  steps_append l (x ∷ xs) ys = steps_append (after n l x) xs ys

  pub may_append : (l : Local) (xs ys : List Step) → MayAll stripe ops members n l xs → MayAll stripe ops members n (after_steps n l xs) ys → MayAll stripe ops members n l (xs ++ ys)
  may_append l [] ys first later = later
  may_append l (x ∷ xs) ys first later = (first.0, may_append (after n l x) xs ys first.1 later)

  -- ---- messages

  -- a message that may be sent, whatever was sent before; it is no status
  pub record Sendable (a : Seen) (x : Message) : Type 0 where
    pub step : Step
    pub may : (sent : List Message) → May stripe ops members n (local_of (with_sent a sent)) step
    pub gives : (sent : List Message) → after n (local_of (with_sent a sent)) step ≡ local_of (with_sent a (x ∷ sent))
    pub calm : (e : Epoch) (h : FileHead) → Status n e h ≡ x → ⊥

  -- one that may be sent, or was sent before
  abbrev pub IsReady : Seen → Message → Type 0
  IsReady a x = Sendable a x ⊎ Has x a.sent

  -- all of these are sent
  pub record AllSent (a : Seen) (ms : List Message) : Type 0 where
    pub more : List Message
    pub steps : List Step
    pub may : MayAll stripe ops members n (local_of a) steps
    pub leads : after_steps n (local_of a) steps ≡ local_of (with_sent a (more ++ a.sent))
    pub all : (x : Message) → Has x ms → Has x (more ++ a.sent)
    pub calm : (e : Epoch) (h : FileHead) → Has (Status n e h) more → ⊥

  pub send_all : (a : Seen) (ms : List Message) → ((x : Message) → Has x ms → IsReady a x) → AllSent a ms
  send_all a [] ready = record { more = []; steps = []; may = tt; leads = refl; all = λ x h. absurd h; calm = λ e h k. k }
  send_all a (m ∷ ms) ready = at (ready m (inl refl)) (λ b more. send_all b ms more)
    where
      at : IsReady a m → ((b : Seen) → ((x : Message) → Has x ms → IsReady b x) → AllSent b ms) → AllSent a (m ∷ ms)
      at (inr had) rest = before (rest a (λ x h. ready x (inr h)))
        where
          before : AllSent a ms → AllSent a (m ∷ ms)
          before r = record { more = r.more; steps = r.steps; may = r.may; leads = r.leads; all = all; calm = r.calm }
            where
              all : (x : Message) → Has x (m ∷ ms) → Has x (r.more ++ a.sent)
              all x (inl p) = subst (λ z. Has z (r.more ++ a.sent)) (sym p) (has-right m r.more a.sent had)
              all x (inr h) = r.all x h
      at (inl can) rest = first (rest (with_sent a (m ∷ a.sent)) (λ x h. still x (ready x (inr h))))
        where
          still : (x : Message) → IsReady a x → IsReady (with_sent a (m ∷ a.sent)) x
          still x (inl s) = inl (record { step = s.step; may = s.may; gives = s.gives; calm = s.calm })
          still x (inr h) = inr (inr h)

          first : AllSent (with_sent a (m ∷ a.sent)) ms → AllSent a (m ∷ ms)
          first r = record {
            more = r.more ++ m ∷ [];
            steps = can.step ∷ r.steps;
            may = (can.may a.sent, subst (λ l. MayAll stripe ops members n l r.steps) (sym (can.gives a.sent)) r.may);
            leads = ap (λ l. after_steps n l r.steps) (can.gives a.sent) ∙ r.leads ∙ ap (λ s. local_of (with_sent a s)) (sym joined);
            all = all;
            calm = calm;
          }
            where
              joined : (r.more ++ m ∷ []) ++ a.sent ≡ r.more ++ m ∷ a.sent
              joined = append_assoc r.more (m ∷ []) a.sent

              all : (x : Message) → Has x (m ∷ ms) → Has x ((r.more ++ m ∷ []) ++ a.sent)
              all x (inl p) = subst (Has x) (sym joined) (has-right x r.more (m ∷ a.sent) (inl p))
              all x (inr h) = subst (Has x) (sym joined) (r.all x h)

              calm : (e : Epoch) (h : FileHead) → Has (Status n e h) (r.more ++ m ∷ []) → ⊥
              calm e h k = of (has-append (Status n e h) r.more (m ∷ []) k)
                where
                  of : Has (Status n e h) r.more ⊎ Has (Status n e h) (m ∷ []) → ⊥
                  of (inl g) = r.calm e h g
                  of (inr (inl p)) = can.calm e h p
                  of (inr (inr g)) = g

  -- ---- rows

  -- The first part of a row: the steps that change its node. All that it sends, and all that is to be sent to its peers, may be
  -- sent after it or was sent before.
  pub record Core (a : Seen) (t : Tenure) (turned : Turned) : Type 0 where
    pub seen : Seen
    pub steps : List Step
    pub may : MayAll stripe ops members n (local_of a) steps
    pub leads : after_steps n (local_of a) steps ≡ local_of seen
    pub is_tenure : seen.tenure ≡ Some t
    pub grows : (x : Message) → Has x a.sent → Has x seen.sent
    pub calm : (e : Epoch) (h : FileHead) → Has (Status n e h) seen.sent → Has (Status n e h) a.sent
    pub told : AreTold stripe ops n turned.marks a.entries seen.entries
    pub kept : seen.kept ≡ kept_after a.kept turned.rec
    pub body : seen.body ≡ body_beyond a.kept.file turned.rec a.body
    pub holds : seen.holder ≡ Some n
    pub names : NamesHeld seen.kept.held seen.kept.head.versions
    pub peers : nodes_in t.peers ≡ members
    pub progress : ProgressFits members n seen.kept.held t.peers t.progress
    pub outs : (m : Msg) → Has m turned.outs → (x : Message) → Has x (shown n m.payload) → IsReady seen x
    pub calm_marks : (turned.rec ≡ None) ⊎ AreUntold turned.marks
    pub steady : is_ready (Some t) ≡ true → turned.rec ≡ None
    pub fed : (p : Peer) → Has p t.peers → (x : Message) → Has x (shown_if n (last_sent seen.kept.file t.epoch p.state)) → IsReady seen x

  pub build : (a : Seen) (t : Tenure) (turned : Turned) → Core a t turned → Leads stripe ops members n a (Some t) turned
  build a t turned c = at (send_all c.seen (to_others ++ to_peers) ready)
    where
      to_others : List Message
      to_others = flat_map (λ (m : Msg). shown n m.payload) turned.outs

      to_peers : List Message
      to_peers = flat_map (λ (p : Peer). shown_if n (last_sent c.seen.kept.file t.epoch p.state)) t.peers

      ready : (x : Message) → Has x (to_others ++ to_peers) → IsReady c.seen x
      ready x h = of (has-append x to_others to_peers h)
        where
          of : Has x to_others ⊎ Has x to_peers → IsReady c.seen x
          of (inl k) = let r = flat_has (λ (m : Msg). shown n m.payload) turned.outs x k in c.outs r.0 r.1 x r.2
          of (inr k) = let r = flat_has (λ (p : Peer). shown_if n (last_sent c.seen.kept.file t.epoch p.state)) t.peers x k in c.fed r.0 r.1 x r.2

      at : AllSent c.seen (to_others ++ to_peers) → Leads stripe ops members n a (Some t) turned
      at s = record {
        behind = b;
        shows = record {
          steps = c.steps ++ s.steps;
          may = may_append (local_of a) c.steps s.steps c.may (subst (λ l. MayAll stripe ops members n l s.steps) (sym c.leads) s.may);
          leads = steps_append (local_of a) c.steps s.steps ∙ ap (λ l. after_steps n l s.steps) c.leads ∙ s.leads;
          outs = λ m h. are_in (shown n m.payload) b.sent (λ x k. s.all x (has-left x to_others to_peers (has_flat (λ (m : Msg). shown n m.payload) turned.outs m x h k)));
          grows = λ x h. has-right x s.more c.seen.sent (c.grows x h);
          told = c.told;
        };
        kept = c.kept;
        body = c.body;
        is_tenure = c.is_tenure;
        calm = c.calm_marks;
        steady = c.steady;
        fits = record {
          names = c.names;
          tenure = subst (TenureFits members n b) (sym c.is_tenure) (
            c.holds,
            record {
              peers = c.peers;
              sent = λ p h. are_in (shown_if n (last_sent c.seen.kept.file t.epoch p.state)) b.sent
                  (λ x k. s.all x (has-right x to_others to_peers (has_flat (λ (p : Peer). shown_if n (last_sent c.seen.kept.file t.epoch p.state)) t.peers p x h k)));
              progress = c.progress;
            },
          );
        };
      }
        where
          b : Seen
          b = with_sent c.seen (s.more ++ c.seen.sent)
