-- A node stops after a step, and leaves who holds else.
use Rattle.std.proofs.Common.{◌≡◌, ℕ, ◌⊎◌, List, [], ◌∷◌, ◌++◌, refl, sym, ap, ◌∙◌, subst, inl, inr, Option, Some, None, if◌then◌else◌}
use Rattle.xt_base.specs.declared.ids.Epoch.{Epoch}
use Rattle.xt_messages.specs.declared.file.FileHead.{FileHead}
use Rattle.xt_messages.specs.declared.file.Op.{Op}
use Rattle.xt_messages.specs.declared.message.Payload.{Payload}
use Rattle.xt_messages.specs.declared.message.Payload.TheVariants as payload
use Rattle.xt_messages.specs.declared.record.FileRow.{FileRow}
use Rattle.xt_messages.specs.declared.record.Record.{Record}
use Rattle.xt_protocol.specs.declared.turned.Turned.{Turned}
use Rattle.xt_protocol.specs.ReplicaRows.{kept_after, gathered, headed, updated}
use Rattle.xt_protocol.specs.Turns.{quiet}
use Rattle.xt_protocol.specs.declared.states.Acted.{Acted}
use Rattle.xt_protocol.specs.declared.states.Tenure.{Tenure}
use Rattle.replica_safety.specs.Lists.{Has}
use Rattle.replica_safety.proofs.Lists.{has-append}
use Rattle.replica_runs.specs.HeadSteps.{Step, May, MayAll, after, after_steps}
use Rattle.replica_runs.specs.HeadSteps as heads
use Rattle.replica_runs.specs.HeadWorld.{Message, Gather, Head, UpdateSent, Piece, Status, shown, shown_if, Local}
use Rattle.replica_runs.specs.Steps.{without}
use Rattle.replica_runs.proofs.Tools.{by_node}
use Rattle.replica_runs.specs.FileView.{Reaches, Stops}
use Rattle.replica_runs.specs.Seen.{Seen, local_of, AreUntold, NamesHeld, Fits}
use Rattle.replica_runs.proofs.Choosing.{not_after_loss}
use Rattle.replica_runs.proofs.Reaching.{untold_same}
use Rattle.replica_runs.proofs.Sending.{steps_append, may_append}

module _ (stripe : ℕ) (ops : ℕ × ℕ → Op) (members : List ℕ) (n : ℕ) where
  pub stops : (a : Seen) (t : Option Tenure) (u : Turned) → Reaches stripe ops members n a t u → Stops stripe ops members n a u
  stops a t u r = record {
    holder = without n b.holder;
    sent = b.sent;
    entries = b.entries;
    steps = r.shows.steps ++ heads.Loses ∷ [];
    may = may_append stripe ops members n (local_of a) r.shows.steps (heads.Loses ∷ []) r.shows.may (tt, tt);
    leads = steps_append stripe ops members n (local_of a) r.shows.steps (heads.Loses ∷ []) ∙ ap (λ l. after n l heads.Loses) r.shows.leads
        ∙ ap (λ k. local_of (record b { kept = k; tenure = None; holder = without n b.holder })) r.kept
        ∙ ap (λ f. local_of (record b { kept = kept_after a.kept u.rec; body = f; tenure = None; holder = without n b.holder })) r.body;
    gone = not_after_loss n b.holder;
    outs = r.shows.outs;
    grows = r.shows.grows;
    told = r.shows.told;
    untold = λ rec is. of r.calm rec is;
    fits = record {
      names = subst (λ (k : FileRow). NamesHeld k.held k.head.versions) r.kept r.fits.names;
      tenure = not_after_loss n b.holder;
    };
  }
    where
      b : Seen
      b = r.behind

      of : (u.rec ≡ None) ⊎ AreUntold u.marks → (rec : Record) → u.rec ≡ Some rec → b.entries ≡ a.entries
      of (inl none) rec is = absurd (cc (sym none ∙ is))
      of (inr un) rec is = sym (untold_same stripe ops members n u.marks un a.entries b.entries r.shows.told)

  pub lost : (a : Seen) → Fits members n a → Stops stripe ops members n a quiet
  lost a fits = record {
    holder = without n a.holder;
    sent = a.sent;
    entries = a.entries;
    steps = heads.Loses ∷ [];
    may = (tt, tt);
    leads = refl;
    gone = not_after_loss n a.holder;
    outs = λ m h. absurd h;
    grows = λ x h. h;
    told = refl;
    untold = λ rec is. refl;
    fits = record { names = fits.names; tenure = not_after_loss n a.holder };
  }

  -- ---- who holds else

  abbrev Same : Option ℕ → Option ℕ → ℕ → Type 0
  Same before behind m = (behind ≡ Some m → before ≡ Some m) × (before ≡ Some m → behind ≡ Some m)

  same_holder : (h : Option ℕ) (m : ℕ) → Same h h m
  same_holder h m = (λ e. e, λ e. e)

  some_is : {a b : ℕ} → Some a ≡ Some b → a ≡ b
  some_is p = cc

  loses_same : (h : Option ℕ) (m : ℕ) → (m ≡ n → ⊥) → Same h (without n h) m
  loses_same None m ne = (λ e. e, λ e. e)
  loses_same (Some k) m ne = by_node (λ b. ((if b then None else Some k) ≡ Some m → Some k ≡ Some m) × (Some k ≡ Some m → (if b then None else Some k) ≡ Some m)) k n
      (λ is. (λ e. absurd cc, λ e. absurd (ne (sym (some_is e) ∙ is)))) (λ _. (λ e. e, λ e. e))

  one_same : (l : Local) (x : Step) → May stripe ops members n l x → (m : ℕ) → (m ≡ n → ⊥) → Same l.holder (after n l x).holder m
  one_same l heads.Gains may m ne = (λ e. absurd (ne (sym (some_is e))), λ e. absurd (cc (sym may ∙ e)))
  one_same l heads.Loses may m ne = loses_same l.holder m ne
  one_same l (heads.Cuts sent) may m ne = same_holder l.holder m
  one_same l (heads.StoresList location) may m ne = same_holder l.holder m
  one_same l (heads.StoresElse k) may m ne = same_holder l.holder m
  one_same l (heads.Raises e) may m ne = same_holder l.holder m
  one_same l (heads.Gathers e) may m ne = same_holder l.holder m
  one_same l (heads.TakesHead e h) may m ne = same_holder l.holder m
  one_same l (heads.TakesUpdate u) may m ne = same_holder l.holder m
  one_same l (heads.SendsBody o v) may m ne = same_holder l.holder m
  one_same l (heads.KeepsBody o v bytes) may m ne = same_holder l.holder m
  one_same l (heads.Forgets held body) may m ne = same_holder l.holder m
  one_same l (heads.Draws learnt) may m ne = same_holder l.holder m
  one_same l (heads.SendsGather e) may m ne = same_holder l.holder m
  one_same l (heads.CountsStatus e statuses r h) may m ne = same_holder l.holder m
  one_same l (heads.Chooses e statuses source h) may m ne = same_holder l.holder m
  one_same l (heads.SendsChosen e chosen acked) may m ne = same_holder l.holder m
  one_same l (heads.SendsOwn e) may m ne = same_holder l.holder m
  one_same l (heads.CountsInstalled e chosen acked r t) may m ne = same_holder l.holder m
  one_same l (heads.Activates e chosen acked) may m ne = same_holder l.holder m
  one_same l (heads.Issues e c acked id truncation u) may m ne = same_holder l.holder m
  one_same l (heads.SendsUpdate e c u acked) may m ne = same_holder l.holder m
  one_same l (heads.CountsUpdated e c u acked r t) may m ne = same_holder l.holder m
  one_same l (heads.Commits e c u acked) may m ne = same_holder l.holder m
  one_same l (heads.AnswersRead e c issued acked o) may m ne = same_holder l.holder m
  one_same l (heads.AnswersRepeated e c issued acked client s) may m ne = same_holder l.holder m

  pub others_same : (l : Local) (xs : List Step) → MayAll stripe ops members n l xs → (m : ℕ) → (m ≡ n → ⊥) → Same l.holder (after_steps n l xs).holder m
  others_same l [] may m ne = same_holder l.holder m
  others_same l (x ∷ xs) may m ne =
      let one = one_same l x may.0 m ne in
      let rest = others_same (after n l x) xs may.1 m ne in
      (λ e. one.0 (rest.0 e), λ e. rest.1 (one.1 e))

  -- ---- statuses of others

  no_other : (answer : Payload) (m : ℕ) (e : Epoch) (h : FileHead) → Has (Status m e h) (shown n answer) → m ≡ n
  no_other (payload.Status file d head) m e h (inl k) = from k
    where
      from : Status m e h ≡ Status n d head → m ≡ n
      from p = cc
  no_other (payload.Status file d head) m e h (inr k) = absurd k
  no_other (payload.Gather file d) m e h (inl k) = absurd cc
  no_other (payload.Gather file d) m e h (inr k) = absurd k
  no_other (payload.Object file d object version bytes) m e h (inl k) = absurd cc
  no_other (payload.Object file d object version bytes) m e h (inr k) = absurd k
  no_other (payload.Stage file d object version bytes) m e h (inl k) = absurd cc
  no_other (payload.Stage file d object version bytes) m e h (inr k) = absurd k
  no_other (payload.Head file d head) m e h (inl k) = absurd cc
  no_other (payload.Head file d head) m e h (inr k) = absurd k
  no_other (payload.Update file update) m e h (inl k) = absurd cc
  no_other (payload.Update file update) m e h (inr k) = absurd k
  no_other (payload.Ack file stamp) m e h (inl k) = absurd cc
  no_other (payload.Ack file stamp) m e h (inr k) = absurd k
  no_other _ m e h k = absurd k

  abbrev Before : Local → Local → ℕ → Type 0
  Before l k m = (e : Epoch) (h : FileHead) → Has (Status m e h) k.sent → Has (Status m e h) l.sent

  acted_before : (l : Local) (acted : Acted) (m : ℕ) → (m ≡ n → ⊥) → Before l (heads.with_acted n l acted) m
  acted_before l acted m ne e h k = of acted.answer (has-append (Status m e h) (shown_if n acted.answer) l.sent k)
    where
      of : (o : Option Payload) → Has (Status m e h) (shown_if n o) ⊎ Has (Status m e h) l.sent → Has (Status m e h) l.sent
      of None (inl g) = absurd g
      of (Some answer) (inl g) = absurd (ne (no_other answer m e h g))
      of o (inr g) = g

  sent_before : (l : Local) (x : Message) (m : ℕ) → ((e : Epoch) (h : FileHead) → Status m e h ≡ x → ⊥) → Before l (heads.sends l x) m
  sent_before l x m other e h (inl p) = absurd (other e h p)
  sent_before l x m other e h (inr k) = k

  same_before : (l : Local) (m : ℕ) → Before l l m
  same_before l m e h k = k

  one_before : (l : Local) (x : Step) → May stripe ops members n l x → (m : ℕ) → (m ≡ n → ⊥) → Before l (after n l x) m
  one_before l heads.Gains may m ne = same_before l m
  one_before l heads.Loses may m ne = same_before l m
  one_before l (heads.Cuts sent) may m ne = λ e h k. may (Status m e h) k
  one_before l (heads.StoresList location) may m ne = same_before l m
  one_before l (heads.StoresElse k) may m ne = same_before l m
  one_before l (heads.Raises e) may m ne = same_before l m
  one_before l (heads.Gathers e) may m ne = acted_before l (gathered l.node.kept.file l.node.kept.head e) m ne
  one_before l (heads.TakesHead e h) may m ne = acted_before l (headed l.node.kept.file l.node.kept.head l.node.kept.held e h) m ne
  one_before l (heads.TakesUpdate u) may m ne = acted_before l (updated l.node.kept.file l.node.kept.head u) m ne
  one_before l (heads.SendsBody o v) may m ne = sent_before l (Piece o v (l.node.body o v)) m (λ e h p. cc p)
  one_before l (heads.KeepsBody o v bytes) may m ne = same_before l m
  one_before l (heads.Forgets held body) may m ne = same_before l m
  one_before l (heads.Draws learnt) may m ne = sent_before l (Gather (heads.drawn n learnt l.node)) m (λ e h p. cc p)
  one_before l (heads.SendsGather e) may m ne = sent_before l (Gather e) m (λ d h p. cc p)
  one_before l (heads.CountsStatus e statuses r h) may m ne = same_before l m
  one_before l (heads.Chooses e statuses source h) may m ne = same_before l m
  one_before l (heads.SendsChosen e chosen acked) may m ne = sent_before l (Head e (heads.target_of e chosen)) m (λ d h p. cc p)
  one_before l (heads.SendsOwn e) may m ne = sent_before l (Head e l.node.kept.head) m (λ d h p. cc p)
  one_before l (heads.CountsInstalled e chosen acked r t) may m ne = same_before l m
  one_before l (heads.Activates e chosen acked) may m ne = same_before l m
  one_before l (heads.Issues e c acked id truncation u) may m ne = sent_before l (UpdateSent u) m (λ d h p. cc p)
  one_before l (heads.SendsUpdate e c u acked) may m ne = sent_before l (UpdateSent u) m (λ d h p. cc p)
  one_before l (heads.CountsUpdated e c u acked r t) may m ne = same_before l m
  one_before l (heads.Commits e c u acked) may m ne = same_before l m
  one_before l (heads.AnswersRead e c issued acked o) may m ne = same_before l m
  one_before l (heads.AnswersRepeated e c issued acked client s) may m ne = same_before l m

  -- a node's steps send no status of another one
  pub statuses_before : (l : Local) (xs : List Step) → MayAll stripe ops members n l xs → (m : ℕ) → (m ≡ n → ⊥) → Before l (after_steps n l xs) m
  statuses_before l [] may m ne = same_before l m
  statuses_before l (x ∷ xs) may m ne = λ e h k. one_before l x may.0 m ne e h (statuses_before (after n l x) xs may.1 m ne e h k)
