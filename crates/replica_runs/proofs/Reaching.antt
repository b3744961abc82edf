-- Rows of a file that don't go through its primary: those of the replica, and those that say nothing here.
use Rattle.std.proofs.Common.{◌≡◌, ℕ, ◌⊎◌, List, [], ◌∷◌, ◌++◌, refl, sym, ap, ◌∙◌, subst, inl, inr, Option, Some, None}
use Rattle.std.specs.Prelude.{cond}
use Rattle.xt_base.specs.declared.ids.NodeId.{NodeId}
use Rattle.xt_base.specs.declared.ids.Epoch.{Epoch}
use Rattle.xt_base.specs.declared.ids.Stamp.{Stamp}
use Rattle.xt_messages.specs.declared.event.Mark.{Mark}
use Rattle.xt_messages.specs.declared.event.Mark.TheVariants as mark
use Rattle.xt_messages.specs.declared.file.FileHead.{FileHead}
use Rattle.xt_messages.specs.declared.file.Location.{Location}
use Rattle.xt_messages.specs.declared.file.Op.{Op}
use Rattle.xt_messages.specs.declared.file.Update.{Update}
use Rattle.xt_messages.specs.declared.message.Msg.{Msg}
use Rattle.xt_messages.specs.declared.message.Payload.{Payload}
use Rattle.xt_messages.specs.declared.message.Payload.TheVariants as payload
use Rattle.xt_messages.specs.declared.record.Record.TheVariants as kept
use Rattle.xt_protocol.specs.declared.turned.Turned.{Turned}
use Rattle.xt_protocol.specs.Folds.{body_of}
use Rattle.xt_protocol.specs.Stamps.{is_earlier, has_version}
use Rattle.xt_protocol.specs.declared.states.Acted.{Acted}
use Rattle.xt_protocol.specs.declared.states.Tenure.{Tenure}
use Rattle.xt_protocol.specs.PrimaryRows.{body_beyond}
use Rattle.xt_protocol.specs.Primaries.{if_any}
use Rattle.xt_protocol.specs.ReplicaRows.{kept_after, only, refused, behind, gathered, fetched_from, stage_record, staged, headed, updated}
use Rattle.xt_protocol.specs.Turns.{sends, message, joined, the_record}
use Rattle.replica_safety.specs.Lists.{Has}
use Rattle.replica_safety.proofs.Lists.{has-append}
use Rattle.replica_runs.specs.HeadSteps.{Step, Gains, StoresList, Gathers, TakesHead, TakesUpdate, SendsBody, KeepsBody, with_acted, keeping, May, after}
use Rattle.replica_runs.specs.HeadWorld.{Message, Gather, Head, UpdateSent, Status, Piece, shown, shown_if, Entry}
use Rattle.replica_runs.proofs.HeldVersions.{held_more}
use Rattle.replica_runs.proofs.Tools.{by_test, has-right}
use Rattle.replica_runs.specs.FileView.{Reaches}
use Rattle.replica_runs.specs.Seen.{Seen, local_of, AreIn, AreTold, AreUntold, Fits, Leads}
use Rattle.replica_runs.proofs.Feeding.{if_any_shown}
use Rattle.replica_runs.proofs.Replicas.{same_file, tenure_grows, ActsWell, gathers_well, takes_head_well, takes_update_well}
use Rattle.replica_runs.proofs.Sending.{are_in, has-left}
use Rattle.replica_runs.proofs.Serving.{told_append, joined_none}

module _ (stripe : ℕ) (ops : ℕ × ℕ → Op) (members : List ℕ) (n : ℕ) where
  -- a row of a primary is one
  pub reaches : (a : Seen) (t : Option Tenure) (u : Turned) → Leads stripe ops members n a t u → Reaches stripe ops members n a t u
  reaches a t u l = record { behind = l.behind; shows = l.shows; kept = l.kept; body = l.body; is_tenure = l.is_tenure; fits = l.fits; calm = l.calm }

  -- ---- rows that say nothing here

  -- messages of which none is shown
  abbrev pub AreSilent : List Msg → Type 0
  AreSilent outs = (m : Msg) → Has m outs → shown n m.payload ≡ []

  -- a row that keeps nothing and shows nothing
  pub silent : (a : Seen) (outs : List Msg) (marks : List Mark) → Fits members n a → AreSilent outs → AreTold stripe ops n marks a.entries a.entries
      → Reaches stripe ops members n a a.tenure (record { rec = None; outs = outs; marks = marks })
  silent a outs marks fits mute told = record {
    behind = a;
    shows = record { steps = []; may = tt; leads = refl; outs = λ m h. are_in (shown n m.payload) a.sent (λ x k. absurd (subst (Has x) (mute m h) k)); grows = λ x h. h; told = told };
    kept = refl;
    body = refl;
    is_tenure = refl;
    fits = fits;
    calm = inl refl;
  }

  -- ---- rows of a replica

  -- a row that is one small step
  acts : (a : Seen) (from : NodeId) (acted : Acted) (step : Step) → Fits members n a → May stripe ops members n (local_of a) step → after n (local_of a) step ≡ with_acted n (local_of a) acted
      → ActsWell n a.kept acted → Reaches stripe ops members n a a.tenure (record { rec = acted.rec; outs = if_any (record { 0 = n }) from acted.answer; marks = [] })
  acts a from acted step fits may is well = record {
    behind = b;
    shows = record {
      steps = step ∷ [];
      may = (may, tt);
      leads = is;
      outs = λ m h. are_in (shown n m.payload) b.sent (λ x k. has-left x (shown_if n acted.answer) a.sent (if_any_shown n (record { 0 = n }) from acted.answer m x h k));
      grows = λ x h. has-right x (shown_if n acted.answer) a.sent h;
      told = refl;
    };
    kept = refl;
    body = refl;
    is_tenure = refl;
    calm = inr tt;
    fits = record {
      names = well.names fits.names;
      tenure = tenure_grows members n a b a.tenure refl (same_file a.kept acted.rec) well.grows (λ x h. has-right x (shown_if n acted.answer) a.sent h) fits.tenure;
    };
  }
    where
      b : Seen
      b = record {
        kept = kept_after a.kept acted.rec;
        body = body_beyond a.kept.file acted.rec a.body;
        tenure = a.tenure;
        holder = a.holder;
        sent = shown_if n acted.answer ++ a.sent;
        entries = a.entries;
      }

  pub gather_acts : (a : Seen) (from : NodeId) (e : Epoch) → Fits members n a → Has (Gather e) a.sent
      → Reaches stripe ops members n a a.tenure (record { rec = (gathered a.kept.file a.kept.head e).rec; outs = if_any (record { 0 = n }) from (gathered a.kept.file a.kept.head e).answer; marks = [] })
  gather_acts a from e fits has = acts a from (gathered a.kept.file a.kept.head e) (Gathers e) fits has refl (gathers_well n a.kept e)

  pub head_acts : (a : Seen) (from : NodeId) (e : Epoch) (head : FileHead) → Fits members n a → Has (Head e head) a.sent
      → Reaches stripe ops members n a a.tenure (record { rec = (headed a.kept.file a.kept.head a.kept.held e head).rec; outs = if_any (record { 0 = n }) from (headed a.kept.file a.kept.head a.kept.held e head).answer; marks = [] })
  head_acts a from e head fits has = acts a from (headed a.kept.file a.kept.head a.kept.held e head) (TakesHead e head) fits has refl (takes_head_well n a.kept e head)

  pub update_acts : (a : Seen) (from : NodeId) (u : Update) → Fits members n a → Has (UpdateSent u) a.sent
      → Reaches stripe ops members n a a.tenure (record { rec = (updated a.kept.file a.kept.head u).rec; outs = if_any (record { 0 = n }) from (updated a.kept.file a.kept.head u).answer; marks = [] })
  update_acts a from u fits has = acts a from (updated a.kept.file a.kept.head u) (TakesUpdate u) fits has refl (takes_update_well n a.kept u)

  abbrev Acts : Seen → NodeId → Acted → Type 0
  Acts a from acted = Reaches stripe ops members n a a.tenure (record { rec = acted.rec; outs = if_any (record { 0 = n }) from acted.answer; marks = [] })

  -- an answer that isn't shown
  unshown : (a : Seen) (from : NodeId) (answer : Payload) → Fits members n a → shown n answer ≡ [] → Acts a from (only answer)
  unshown a from answer fits nothing = silent a (message (record { 0 = n }) from answer ∷ []) [] fits mute refl
    where
      mute : AreSilent (message (record { 0 = n }) from answer ∷ [])
      mute m (inl p) = ap (λ (y : Msg). shown n y.payload) p ∙ nothing
      mute m (inr h) = absurd h

  -- a body is kept, and that is answered
  keeps : (a : Seen) (from : NodeId) (object : ℕ) (version : Stamp) (bytes : List ℕ) (answer : Payload) → Fits members n a → Has (Piece object version bytes) a.sent → shown n answer ≡ []
      → Acts a from (record { rec = stage_record a.kept.file a.kept.held object version bytes; answer = Some answer })
  keeps a from object version bytes answer fits has nothing =
      acts a from (record { rec = stage_record a.kept.file a.kept.held object version bytes; answer = Some answer }) (KeepsBody object version bytes) fits has
      (ap (λ (xs : List Message). record (with_acted n (local_of a) (keeping (local_of a) object version bytes)) { sent = xs ++ a.sent }) (sym nothing))
      (by_test (λ b. ActsWell n a.kept (record { rec = cond b None (Some (kept.Stage a.kept.file object version bytes)); answer = Some answer })) (has_version a.kept.held (body_of object version))
      (λ _. record { grows = λ v g. g; names = λ k. k; told = λ k e h g. absurd (subst (Has (Status n e h)) nothing g) })
      (λ _. record {
        grows = held_more a.kept.held (body_of object version);
        names = λ k v g. held_more a.kept.held (body_of object version) v (k v g);
        told = λ k e h g. absurd (subst (Has (Status n e h)) nothing g);
      }))

  pub stage_acts : (a : Seen) (from : NodeId) (e : Epoch) (object : ℕ) (version : Stamp) (bytes : List ℕ) → Fits members n a → Has (Piece object version bytes) a.sent
      → Acts a from (staged a.kept.file a.kept.head a.kept.held e object version bytes)
  unfolding staged
  stage_acts a from e object version bytes fits has =
      by_test (λ b. Acts a from (cond b (refused a.kept.file a.kept.head e) (cond (is_earlier a.kept.head.promised e) (behind a.kept.file a.kept.head e) taken))) (is_earlier e a.kept.head.promised)
      (λ _. unshown a from (payload.Refused a.kept.file e a.kept.head.promised) fits refl)
      (λ _. by_test (λ b. Acts a from (cond b (behind a.kept.file a.kept.head e) taken)) (is_earlier a.kept.head.promised e)
      (λ _. unshown a from (payload.Behind a.kept.file e a.kept.head.stamp) fits refl)
      (λ _. keeps a from object version bytes (payload.Staged a.kept.file e object version) fits has refl))
    where
      taken : Acted
      taken = record { rec = stage_record a.kept.file a.kept.held object version bytes; answer = Some (payload.Staged a.kept.file e object version) }

  -- fetched from
  pub fetch_acts : (a : Seen) (from : NodeId) (e : Epoch) (object : ℕ) (version : Stamp) → Fits members n a
      → Reaches stripe ops members n a a.tenure (sends (message (record { 0 = n }) from (fetched_from a.kept.file a.kept.held a.body e object version) ∷ []))
  unfolding fetched_from
  fetch_acts a from e object version fits =
      by_test (λ b. has_version a.kept.held (body_of object version) ≡ b → Reaches stripe ops members n a a.tenure (sends (message (record { 0 = n }) from
      (cond b (payload.Object a.kept.file e object version (a.body object version)) (payload.Missing a.kept.file e object version)) ∷ []))) (has_version a.kept.held (body_of object version))
      (λ _ held. acts a from (only (payload.Object a.kept.file e object version (a.body object version))) (SendsBody object version) fits held refl
      (record { grows = λ v g. g; names = λ k. k; told = λ k d h g. absurd (no_status d h g) }))
      (λ _ _. unshown a from (payload.Missing a.kept.file e object version) fits refl) refl
    where
      no_status : (d : Epoch) (h : FileHead) → Has (Status n d h) (Piece object version (a.body object version) ∷ []) → ⊥
      no_status d h (inl k) = cc k
      no_status d h (inr k) = k

  -- ---- a row, and one that says nothing here

  untold_told : (ms : List Mark) → AreUntold ms → (es : List Entry) → AreTold stripe ops n ms es es
  untold_told [] un es = refl
  untold_told (mark.Active file count id ∷ ms) un es = absurd un
  untold_told (mark.Issue file count id ∷ ms) un es = absurd un
  untold_told (mark.Commit file count id ∷ ms) un es = absurd un
  untold_told (mark.Answer file id count bytes ∷ ms) un es = absurd un
  untold_told (_ ∷ ms) un es = untold_told ms un es

  -- marks that report nothing leave the entries
  pub untold_same : (ms : List Mark) → AreUntold ms → (es es2 : List Entry) → AreTold stripe ops n ms es es2 → es ≡ es2
  untold_same [] un es es2 told = told
  untold_same (mark.Active file count id ∷ ms) un es es2 told = absurd un
  untold_same (mark.Issue file count id ∷ ms) un es es2 told = absurd un
  untold_same (mark.Commit file count id ∷ ms) un es es2 told = absurd un
  untold_same (mark.Answer file id count bytes ∷ ms) un es es2 told = absurd un
  untold_same (_ ∷ ms) un es es2 told = untold_same ms un es es2 told

  untold_append : (first later : List Mark) → AreUntold first → AreUntold later → AreUntold (first ++ later)
  untold_append [] later a b = b
  untold_append (mark.Active file count id ∷ ms) later a b = absurd a
  untold_append (mark.Issue file count id ∷ ms) later a b = absurd a
  untold_append (mark.Commit file count id ∷ ms) later a b = absurd a
  untold_append (mark.Answer file id count bytes ∷ ms) later a b = absurd a
  untold_append (_ ∷ ms) later a b = untold_append ms later a b

  -- a part of a step that keeps nothing and shows nothing
  pub record IsMute (turned : Turned) : Type 0 where
    pub none : turned.rec ≡ None
    pub mute : AreSilent turned.outs
    pub untold : AreUntold turned.marks

  pub mute_first : (a : Seen) (t : Option Tenure) (u1 u2 : Turned) → IsMute u1 → Reaches stripe ops members n a t u2 → Reaches stripe ops members n a t (joined u1 u2)
  mute_first a t u1 u2 m next = record {
    behind = next.behind;
    shows = record {
      steps = next.shows.steps;
      may = next.shows.may;
      leads = next.shows.leads;
      outs = λ k h. outs k (has-append k u1.outs u2.outs h);
      grows = next.shows.grows;
      told = told_append stripe ops members n u1.marks u2.marks a.entries a.entries next.behind.entries (untold_told u1.marks m.untold a.entries) next.shows.told;
    };
    kept = next.kept ∙ ap (λ r. kept_after a.kept (the_record r u2.rec)) (sym m.none);
    body = next.body ∙ ap (λ r. body_beyond a.kept.file (the_record r u2.rec) a.body) (sym m.none);
    is_tenure = next.is_tenure;
    fits = next.fits;
    calm = of next.calm;
  }
    where
      of : (u2.rec ≡ None) ⊎ AreUntold u2.marks → ((joined u1 u2).rec ≡ None) ⊎ AreUntold (joined u1 u2).marks
      of (inl none) = inl (ap (λ r. the_record r u2.rec) m.none ∙ none)
      of (inr un) = inr (untold_append u1.marks u2.marks m.untold un)

      outs : (k : Msg) → Has k u1.outs ⊎ Has k u2.outs → AreIn (shown n k.payload) next.behind.sent
      outs k (inl h) = are_in (shown n k.payload) next.behind.sent (λ x g. absurd (subst (Has x) (m.mute k h) g))
      outs k (inr h) = next.shows.outs k h

  pub mute_last : (a : Seen) (t : Option Tenure) (u1 u2 : Turned) → Reaches stripe ops members n a t u1 → IsMute u2 → Reaches stripe ops members n a t (joined u1 u2)
  mute_last a t u1 u2 first m = record {
    behind = first.behind;
    shows = record {
      steps = first.shows.steps;
      may = first.shows.may;
      leads = first.shows.leads;
      outs = λ k h. outs k (has-append k u1.outs u2.outs h);
      grows = first.shows.grows;
      told = told_append stripe ops members n u1.marks u2.marks a.entries first.behind.entries first.behind.entries first.shows.told (untold_told u2.marks m.untold first.behind.entries);
    };
    kept = first.kept ∙ ap (kept_after a.kept) (sym rec_is);
    body = first.body ∙ ap (λ r. body_beyond a.kept.file r a.body) (sym rec_is);
    is_tenure = first.is_tenure;
    fits = first.fits;
    calm = of first.calm;
  }
    where
      rec_is : the_record u1.rec u2.rec ≡ u1.rec
      rec_is = ap (the_record u1.rec) m.none ∙ joined_none stripe ops members n u1.rec

      of : (u1.rec ≡ None) ⊎ AreUntold u1.marks → ((joined u1 u2).rec ≡ None) ⊎ AreUntold (joined u1 u2).marks
      of (inl none) = inl (rec_is ∙ none)
      of (inr un) = inr (untold_append u1.marks u2.marks un m.untold)

      outs : (k : Msg) → Has k u1.outs ⊎ Has k u2.outs → AreIn (shown n k.payload) first.behind.sent
      outs k (inl h) = first.shows.outs k h
      outs k (inr h) = are_in (shown n k.payload) first.behind.sent (λ x g. absurd (subst (Has x) (m.mute k h) g))

  -- a list is stored, and then a row that keeps nothing
  pub stores_first : (a : Seen) (location : Location) (t : Option Tenure) (u : Turned) → Reaches stripe ops members n (record a { kept = record a.kept { location = Some location } }) t u → u.rec ≡ None → AreUntold u.marks
      → Reaches stripe ops members n a t (joined (record { rec = Some (kept.View a.kept.file location); outs = []; marks = [] }) u)
  stores_first a location t u next none un = record {
    behind = next.behind;
    shows = record {
      steps = StoresList location ∷ next.shows.steps;
      may = (tt, next.shows.may);
      leads = next.shows.leads;
      outs = next.shows.outs;
      grows = next.shows.grows;
      told = next.shows.told;
    };
    kept = next.kept ∙ ap (kept_after (record a.kept { location = Some location })) none;
    body = next.body ∙ ap (λ r. body_beyond a.kept.file r a.body) none;
    is_tenure = next.is_tenure;
    fits = next.fits;
    calm = inr un;
  }

  -- the lease is gained, and then a row
  pub gains_first : (a : Seen) (t : Option Tenure) (u : Turned) → a.holder ≡ None → Reaches stripe ops members n (record a { holder = Some n }) t u → Reaches stripe ops members n a t u
  gains_first a t u free next = record {
    behind = next.behind;
    shows = record {
      steps = Gains ∷ next.shows.steps;
      may = (free, next.shows.may);
      leads = next.shows.leads;
      outs = next.shows.outs;
      grows = next.shows.grows;
      told = next.shows.told;
    };
    kept = next.kept;
    body = next.body;
    is_tenure = next.is_tenure;
    fits = next.fits;
    calm = next.calm;
  }
