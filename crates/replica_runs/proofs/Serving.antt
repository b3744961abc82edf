-- Each ask that a primary serves is a small step, or none; so are all that wait, one after the other, and what a wake sends again.
use Rattle.std.proofs.Common.{◌≡◌, ℕ, ◌⊎◌, true, false, List, [], ◌∷◌, ◌++◌, refl, sym, ap, ap₂, ◌∙◌, subst, inl, inr, arith, ◌+◌, ◌≤◌, Option, Some, None}
use Rattle.std.specs.Prelude.{cond, nat_lt, length}
use Rattle.std.proofs.lemmas.Bool.Decides.{nat_tests}
use Rattle.xt_base.specs.declared.TheConstants.{OBJECTS, CLIENTS, COUNTS}
use Rattle.xt_base.specs.declared.ids.NodeId.{NodeId}
use Rattle.xt_base.specs.declared.ids.Epoch.{Epoch}
use Rattle.xt_base.specs.declared.ids.OpId.{OpId}
use Rattle.xt_base.specs.declared.ids.Stamp.{Stamp}
use Rattle.xt_messages.specs.declared.event.Mark.{Mark}
use Rattle.xt_messages.specs.declared.event.Mark.TheVariants as mark
use Rattle.xt_messages.specs.declared.file.FileHead.{FileHead}
use Rattle.xt_messages.specs.declared.file.Op.{Op}
use Rattle.xt_messages.specs.declared.file.Op.TheVariants as op
use Rattle.xt_messages.specs.declared.file.Session.{Session}
use Rattle.xt_messages.specs.declared.file.Update.{Update}
use Rattle.xt_messages.specs.declared.message.Msg.{Msg}
use Rattle.xt_messages.specs.declared.message.Payload.{Payload}
use Rattle.xt_messages.specs.declared.message.Payload.TheVariants as payload
use Rattle.xt_messages.specs.declared.record.FileRow.{FileRow}
use Rattle.xt_messages.specs.declared.record.Record.{Record}
use Rattle.xt_messages.specs.declared.reply.Reply.{Reply}
use Rattle.xt_messages.specs.declared.reply.Reply.TheVariants as reply
use Rattle.xt_protocol.specs.Heads.{session_of, version_of}
use Rattle.xt_protocol.specs.Objects.{present_body}
use Rattle.xt_protocol.specs.declared.turned.Turned.{Turned}
use Rattle.xt_protocol.specs.Asks.{is_read, read_answer}
use Rattle.xt_protocol.specs.Primaries.{Led, Ground, last_sent}
use Rattle.xt_protocol.specs.PrimaryRows.{body_beyond}
use Rattle.xt_protocol.specs.ReplicaRows.{kept_after}
use Rattle.xt_protocol.specs.Serving.{reads_in, current_others, issues, next_update_of, write_stands, writes_in}
use Rattle.xt_protocol.specs.Turns.{quiet, the_record, joined, message, answers}
use Rattle.xt_protocol.specs.Writes.{bytes_shown, WriteStanding, repeated, older, turned_away, fresh, standing, by_session, judged, reach, is_old_epoch, too_far, update_of}
use Rattle.xt_protocol.specs.declared.states.IssuedUpdate.{IssuedUpdate}
use Rattle.xt_protocol.specs.declared.states.Peer.{Peer}
use Rattle.xt_protocol.specs.declared.states.Progress.{Progress}
use Rattle.xt_protocol.specs.declared.states.Progress.TheVariants as progress
use Rattle.xt_protocol.specs.declared.states.Tenure.{Tenure}
use Rattle.xt_protocol.specs.declared.states.WaitingAsk.{WaitingAsk}
use Rattle.replica_safety.specs.Lists.{Has}
use Rattle.replica_safety.proofs.Lists.{has-append}
use Rattle.replica_runs.specs.HeadSteps.{Step, Issues, AnswersRead, AnswersRepeated, none_acked, MayAll, after_steps, IsAllowed, IsMadeOver}
use Rattle.replica_runs.specs.HeadWorld.{Message, UpdateSent, Status, shown, shown_if, Entry, TellsActive, TellsIssue, TellsCommit, ReadOk, WriteOk}
use Rattle.replica_runs.proofs.Tools.{true_false, by_node, by_test}
use Rattle.replica_runs.specs.Seen.{Seen, local_of, ground_at, AreIn, AreTold, name_of, acked_by, Leads}
use Rattle.replica_runs.specs.AskFits.{AskFits}
use Rattle.replica_runs.proofs.Choosing.{Ready, still}
use Rattle.replica_runs.proofs.Feeding.{tenure_of, seen_in, sent_ready}
use Rattle.replica_runs.proofs.Hearing.{IsFit, row}
use Rattle.replica_runs.proofs.Sending.{build, map_has, are_in, in_are, steps_append, may_append}

-- ---- what a standing says

not_repeated : (why : Reply) (n : ℕ) → turned_away why ≡ repeated n → ⊥
not_repeated why n e = cc e

reached_none : (head : FileHead) (s : Option Session) (far : Option ℕ) (n : ℕ) → reach head s far ≡ repeated n → ⊥
reached_none head s (Some o) n e = not_repeated (reply.TooFar o) n e
reached_none head (Some s) None n e = cc e
reached_none head None None n e =
    by_test (λ b. cond b fresh (turned_away reply.ClientsFull) ≡ repeated n → ⊥) (nat_lt (length head.sessions) CLIENTS) (λ _ k. not_fresh k) (λ _ k. not_repeated reply.ClientsFull n k) e
  where
    not_fresh : fresh ≡ repeated n → ⊥
    not_fresh k = cc k

judged_none : (objects stripe : ℕ) (head : FileHead) (s : Option Session) (epoch : ℕ) (asked : Op) (n : ℕ) → judged objects stripe head s epoch asked ≡ repeated n → ⊥
judged_none objects stripe head s epoch asked n =
    by_test (λ b. cond b (turned_away (reply.OldEpoch head.mark.epoch)) (reach head s (too_far objects stripe asked)) ≡ repeated n → ⊥) (is_old_epoch head.mark epoch asked)
    (λ _ e. not_repeated (reply.OldEpoch head.mark.epoch) n e) (λ _ e. reached_none head s (too_far objects stripe asked) n e)

-- a repeated write is its client's last one
pub record IsRepeated (s : Option Session) (number count : ℕ) : Type 0 where
  pub session : Session
  pub is : s ≡ Some session
  pub is_number : session.number ≡ number
  pub is_count : session.count ≡ count

repeats_by : (objects stripe : ℕ) (head : FileHead) (s : Option Session) (number epoch : ℕ) (asked : Op) (n : ℕ) → by_session objects stripe head s number epoch asked ≡ repeated n → IsRepeated s number n
repeats_by objects stripe head None number epoch asked n e = absurd (judged_none objects stripe head None epoch asked n e)
repeats_by objects stripe head (Some s) number epoch asked n e =
    by_node (λ b. cond b (repeated s.count) (cond (nat_lt number s.number) older (judged objects stripe head (Some s) epoch asked)) ≡ repeated n → IsRepeated (Some s) number n) number s.number
    (λ same k. record { session = s; is = refl; is_number = sym same; is_count = count k })
    (λ _. by_test (λ b. cond b older (judged objects stripe head (Some s) epoch asked) ≡ repeated n → IsRepeated (Some s) number n) (nat_lt number s.number)
    (λ _ k. absurd (old k)) (λ _ k. absurd (judged_none objects stripe head (Some s) epoch asked n k))) e
  where
    count : {a b : ℕ} → repeated a ≡ repeated b → a ≡ b
    count k = cc

    old : older ≡ repeated n → ⊥
    old k = cc k

repeats : (objects stripe : ℕ) (head : FileHead) (id : OpId) (epoch : ℕ) (asked : Op) (n : ℕ) → standing objects stripe head id epoch asked ≡ repeated n
    → IsRepeated (session_of head.sessions id.client.0) id.number n
unfolding standing
repeats objects stripe head id epoch asked n e = repeats_by objects stripe head (session_of head.sessions id.client.0) id.number epoch asked n e

-- ---- one row after another

module _ (stripe : ℕ) (ops : ℕ × ℕ → Op) (members : List ℕ) (n : ℕ) where
  pub told_append : (first later : List Mark) (es es1 es2 : List Entry) → AreTold stripe ops n first es es1 → AreTold stripe ops n later es1 es2 → AreTold stripe ops n (first ++ later) es es2
  told_append [] later es es1 es2 a b = subst (λ k. AreTold stripe ops n later k es2) (sym a) b
  told_append (mark.Active file count id ∷ ms) later es es1 es2 a b = told_append ms later (TellsActive n count (name_of id) ∷ es) es1 es2 a b
  told_append (mark.Issue file count id ∷ ms) later es es1 es2 a b = told_append ms later (TellsIssue n count (name_of id) ∷ es) es1 es2 a b
  told_append (mark.Commit file count id ∷ ms) later es es1 es2 a b = told_append ms later (TellsCommit n count (name_of id) ∷ es) es1 es2 a b
  told_append (mark.Answer file id count bytes ∷ ms) later es es1 es2 a b = (a.0, a.1, told_append ms later (a.0 ∷ es) es1 es2 a.2 b)
  told_append (_ ∷ ms) later es es1 es2 a b = told_append ms later es es1 es2 a b

  pub joined_none : (first : Option Record) → the_record first None ≡ first
  joined_none None = refl
  joined_none (Some rec) = refl

  -- of two rows the later one keeps nothing
  pub compose : (a : Seen) (t1 t2 : Option Tenure) (u1 u2 : Turned) → (first : Leads stripe ops members n a t1 u1) → Leads stripe ops members n first.behind t2 u2 → u2.rec ≡ None
      → u1.rec ≡ None → Leads stripe ops members n a t2 (joined u1 u2)
  compose a t1 t2 u1 u2 first later none ready = record {
    behind = later.behind;
    shows = record {
      steps = first.shows.steps ++ later.shows.steps;
      may = may_append stripe ops members n (local_of a) first.shows.steps later.shows.steps first.shows.may (subst (λ l. MayAll stripe ops members n l later.shows.steps) (sym first.shows.leads) later.shows.may);
      leads = steps_append stripe ops members n (local_of a) first.shows.steps later.shows.steps ∙ ap (λ l. after_steps n l later.shows.steps) first.shows.leads ∙ later.shows.leads;
      outs = λ m h. outs m (has-append m u1.outs u2.outs h);
      grows = λ x h. later.shows.grows x (first.shows.grows x h);
      told = told_append u1.marks u2.marks a.entries first.behind.entries later.behind.entries first.shows.told later.shows.told;
    };
    kept = later.kept ∙ ap (kept_after first.behind.kept) none ∙ first.kept ∙ ap (kept_after a.kept) (sym rec_is);
    body = later.body ∙ ap (λ r. body_beyond first.behind.kept.file r first.behind.body) none ∙ first.body ∙ ap (λ r. body_beyond a.kept.file r a.body) (sym rec_is);
    is_tenure = later.is_tenure;
    fits = later.fits;
    calm = inl (rec_is ∙ ready);
    steady = λ r. rec_is ∙ ready;
  }
    where
      rec_is : the_record u1.rec u2.rec ≡ u1.rec
      rec_is = ap (the_record u1.rec) none ∙ joined_none u1.rec

      outs : (m : Msg) → Has m u1.outs ⊎ Has m u2.outs → AreIn (shown n m.payload) later.behind.sent
      outs m (inl h) = are_in (shown n m.payload) later.behind.sent (λ x k. later.shows.grows x (in_are (shown n m.payload) first.behind.sent (first.shows.outs m h) x k))
      outs m (inr h) = later.shows.outs m h

  -- what a primary may look at besides its tenure stays where nothing is kept
  pub same_ground : (a : Seen) (t : Option Tenure) (u : Turned) → (l : Leads stripe ops members n a t u) → u.rec ≡ None → ground_at stripe n l.behind ≡ ground_at stripe n a
  same_ground a t u l none = ap₂ of (l.kept ∙ ap (kept_after a.kept) none) (l.body ∙ ap (λ r. body_beyond a.kept.file r a.body) none)
    where
      of : FileRow → (ℕ → Stamp → List ℕ) → Ground
      of k b = record { place = record { node = record { 0 = n }; file = k.file; stripe = stripe }; own = k.head; held = k.held; body = b }

  -- ---- one ask

  -- a row that keeps nothing
  pub record Quietly (a : Seen) (t : Option Tenure) (u : Turned) : Type 0 where
    pub lead : Leads stripe ops members n a t u
    pub none : u.rec ≡ None

  unshown : (b : Seen) (own to : NodeId) (content : Payload) → shown n content ≡ [] → (m : Msg) → Has m (message own to content ∷ []) → (x : Message) → Has x (shown n m.payload) → Ready stripe ops members n b x
  unshown b own to content nothing m (inl p) x k = absurd (subst (Has x) nothing (subst (λ (y : Msg). Has x (shown n y.payload)) p k))
  unshown b own to content nothing m (inr h) x k = absurd h

  -- an answer leaves the tenure
  answers_row : (z : Seen) (e : Epoch) (peers : List Peer) (p : Progress) (to : NodeId) (content : Payload) (marks : List Mark) (entries : List Entry) (steps : List Step) → IsFit stripe ops members n (seen_in z (tenure_of e peers p)) → shown n content ≡ []
      → MayAll stripe ops members n (local_of (seen_in z (tenure_of e peers p))) steps
      → after_steps n (local_of (seen_in z (tenure_of e peers p))) steps ≡ local_of (record (seen_in z (tenure_of e peers p)) { entries = entries }) → AreTold stripe ops n marks z.entries entries
      → Quietly (seen_in z (tenure_of e peers p)) (Some (tenure_of e peers p)) (record { rec = None; outs = message (record { 0 = n }) to content ∷ []; marks = marks })
  answers_row z e peers p to content marks entries steps fits nothing may leads told = record {
    lead = row stripe ops members n z e peers p peers p (message (record { 0 = n }) to content ∷ []) marks entries steps fits may leads told fits.tenure.1.peers fits.tenure.1.progress
        (unshown (record (seen_in z (tenure_of e peers p)) { entries = entries }) (record { 0 = n }) to content nothing)
        (sent_ready stripe ops members n (record (seen_in z (tenure_of e peers p)) { entries = entries }) z.kept.file e peers fits.tenure.1.sent);
    none = refl;
  }

  quietly : (z : Seen) (t : Tenure) (learnt : ℕ) → IsFit stripe ops members n (seen_in z t) → Quietly (seen_in z t) (Some t) quiet
  quietly z t learnt fits = record { lead = still stripe ops members n z t learnt fits; none = refl }

  lower : (a b c : ℕ) → nat_lt a (b + c) ≡ false → b + c ≤ a
  lower a b c h = grind (arith, nat_tests)

  -- read served
  read_active : (z : Seen) (e : Epoch) (peers : List Peer) (c : FileHead) (issued : Option IssuedUpdate) (id : OpId) (asked : Op) → IsFit stripe ops members n (seen_in z (tenure_of e peers (progress.Active c issued)))
      → IsAllowed stripe asked → ops (name_of id) ≡ asked → is_read asked ≡ true
      → Quietly (seen_in z (tenure_of e peers (progress.Active c issued))) (Some (tenure_of e peers (progress.Active c issued))) (read_answer (ground_at stripe n z) id (reads_in (ground_at stripe n z) (progress.Active c issued) asked))
  read_active z e peers c issued id (op.Read object at len) fits allowed is reads_it = by_issued issued fits
    where
      bytes : List ℕ
      bytes = bytes_shown stripe z.body c (op.Read object at len)

      entry : Entry
      entry = ReadOk n c.stamp.count c.mark.size object (present_body z.body (version_of c.versions object) object)

      marks : List Mark
      marks = mark.Answer z.kept.file.number id c.stamp.count bytes ∷ []

      told : AreTold stripe ops n marks z.entries (entry ∷ z.entries)
      told = (entry, (at, len, refl, refl, is, lower stripe at len allowed.inside, refl), refl)

      by_issued : (i : Option IssuedUpdate) → IsFit stripe ops members n (seen_in z (tenure_of e peers (progress.Active c i)))
          → Quietly (seen_in z (tenure_of e peers (progress.Active c i))) (Some (tenure_of e peers (progress.Active c i))) (answers (record { 0 = n }) z.kept.file id c.stamp.count c.mark bytes)
      by_issued None fit = answers_row z e peers (progress.Active c None) id.client (payload.Reply id.number z.kept.file (reply.Ok c.stamp.count c.mark bytes)) marks (entry ∷ z.entries) (AnswersRead e c None none_acked object ∷ []) fit refl
          ((refl, allowed.fits.0), tt) refl told
      by_issued (Some i) fit = answers_row z e peers (progress.Active c (Some i)) id.client (payload.Reply id.number z.kept.file (reply.Ok c.stamp.count c.mark bytes)) marks (entry ∷ z.entries) (AnswersRead e c (Some i.update) (acked_by i.acked) object ∷ []) fit refl
          ((refl, allowed.fits.0), tt) refl told
  read_active z e peers c issued id (op.Write object at bytes) fits allowed is reads_it = true_false reads_it refl
  read_active z e peers c issued id (op.Truncate size) fits allowed is reads_it = true_false reads_it refl

  pub read_serves : (z : Seen) (e : Epoch) (peers : List Peer) (p : Progress) (learnt : ℕ) (ask : WaitingAsk) → IsFit stripe ops members n (seen_in z (tenure_of e peers p)) → AskFits stripe ops ask → is_read ask.op ≡ true
      → Quietly (seen_in z (tenure_of e peers p)) (Some (tenure_of e peers p)) (read_answer (ground_at stripe n z) ask.id (reads_in (ground_at stripe n z) p ask.op))
  read_serves z e peers progress.Gathering learnt ask fits of reads_it = quietly z (tenure_of e peers progress.Gathering) learnt fits
  read_serves z e peers (progress.Fetching chosen source asked later) learnt ask fits of reads_it = quietly z (tenure_of e peers (progress.Fetching chosen source asked later)) learnt fits
  read_serves z e peers (progress.Installing chosen acked) learnt ask fits of reads_it = quietly z (tenure_of e peers (progress.Installing chosen acked)) learnt fits
  read_serves z e peers (progress.Active c issued) learnt ask fits of reads_it = read_active z e peers c issued ask.id ask.op fits of.allowed of.asked reads_it

  -- ---- writes

  some_update : {u v : Update} → Some u ≡ Some v → u ≡ v
  some_update k = cc

  -- issued
  issue_serves : (z : Seen) (e : Epoch) (peers : List Peer) (c : FileHead) (id : OpId) (epoch : ℕ) (asked : Op) (learnt : ℕ) → IsFit stripe ops members n (seen_in z (tenure_of e peers (progress.Active c None)))
      → IsAllowed stripe asked → ops (name_of id) ≡ asked → standing OBJECTS stripe c id epoch asked ≡ fresh → (o : Option Update)
      → next_update_of (ground_at stripe n z) (tenure_of e peers (progress.Active c None)) c id epoch asked ≡ o
      → Quietly (seen_in z (tenure_of e peers (progress.Active c None))) (issues (ground_at stripe n z) learnt (tenure_of e peers (progress.Active c None)) c o).primary.tenure
      (issues (ground_at stripe n z) learnt (tenure_of e peers (progress.Active c None)) c o).turned
  issue_serves z e peers c id epoch asked learnt fits allowed is stands None makes = quietly z (tenure_of e peers (progress.Active c None)) learnt fits
  issue_serves z e peers c id epoch asked learnt fits allowed is stands (Some u) makes = record {
    lead = build stripe ops members n (seen_in z (tenure_of e peers (progress.Active c None))) t turned (record {
      seen = b;
      steps = Issues e c none_acked id epoch u ∷ [];
      may = ((refl, over), tt);
      leads = refl;
      is_tenure = refl;
      grows = λ x h. inr h;
      calm = calm;
      told = refl;
      kept = refl;
      body = refl;
      holds = fits.tenure.0;
      names = fits.names;
      peers = fits.tenure.1.peers;
      progress = omega arith;
      calm_marks = inl refl;
      steady = λ r. true_false r refl;
      outs = λ m h x k. goes m x (map_has (λ (to : NodeId). message (record { 0 = n }) to (payload.Update z.kept.file u)) (record { 0 = n } ∷ current_others (ground_at stripe n z).place peers) m h) k;
      fed = sent_ready stripe ops members n b z.kept.file e peers (λ q h. are_in (shown_if n (last_sent z.kept.file e q.state)) b.sent (λ x k. inr (in_are (shown_if n (last_sent z.kept.file e q.state)) z.sent (fits.tenure.1.sent q h) x k)));
    });
    none = refl;
  }
    where
      t : Tenure
      t = tenure_of e peers (progress.Active c (Some (record { update = u; acked = [] })))

      turned : Turned
      turned = (issues (ground_at stripe n z) learnt (tenure_of e peers (progress.Active c None)) c (Some u)).turned

      b : Seen
      b = record (seen_in z t) { sent = UpdateSent u ∷ z.sent; entries = TellsIssue n u.stamp.count (name_of u.id) ∷ z.entries }

      update_is : update_of stripe z.body c (record { epoch = e; count = c.stamp.count + 1 }) id epoch asked ≡ Some u
      update_is = by_test (λ k. cond k (update_of stripe z.body c (record { epoch = e; count = c.stamp.count + 1 }) id epoch asked) None ≡ Some u
          → update_of stripe z.body c (record { epoch = e; count = c.stamp.count + 1 }) id epoch asked ≡ Some u) (nat_lt (c.stamp.count + 1) COUNTS) (λ _ k. k) (λ _ k. absurd cc) makes

      over : IsMadeOver stripe ops z.body e c id epoch u
      over = record {
        allowed = subst (IsAllowed stripe) (sym is) allowed;
        stands = subst (λ o. standing OBJECTS stripe c id epoch o ≡ fresh) (sym is) stands;
        makes = subst (λ o. update_of stripe z.body c (record { epoch = e; count = c.stamp.count + 1 }) id epoch o ≡ Some u) (sym is) update_is;
      }

      calm : (d : Epoch) (h : FileHead) → Has (Status n d h) (UpdateSent u ∷ z.sent) → Has (Status n d h) z.sent
      calm d h (inl k) = absurd cc
      calm d h (inr k) = k

      goes : (m : Msg) (x : Message) → (to : NodeId) × Has to (record { 0 = n } ∷ current_others (ground_at stripe n z).place peers) × (m ≡ message (record { 0 = n }) to (payload.Update z.kept.file u))
          → Has x (shown n m.payload) → Ready stripe ops members n b x
      goes m x r k = there (subst (λ (y : Msg). Has x (shown n y.payload)) r.2 k)
        where
          there : Has x (UpdateSent u ∷ []) → Ready stripe ops members n b x
          there (inl q) = inr (inl q)
          there (inr q) = absurd q

  -- repeated: a client's last write is answered again
  repeat_serves : (z : Seen) (e : Epoch) (peers : List Peer) (c : FileHead) (issued : Option IssuedUpdate) (id : OpId) (count : ℕ) → IsFit stripe ops members n (seen_in z (tenure_of e peers (progress.Active c issued)))
      → IsRepeated (session_of c.sessions id.client.0) id.number count
      → Quietly (seen_in z (tenure_of e peers (progress.Active c issued))) (Some (tenure_of e peers (progress.Active c issued))) (answers (record { 0 = n }) z.kept.file id count c.mark [])
  repeat_serves z e peers c issued id count fits r = by_issued issued fits
    where
      entry : Entry
      entry = WriteOk n r.session.count (id.client.0, r.session.number)

      told : AreTold stripe ops n (mark.Answer z.kept.file.number id count [] ∷ []) z.entries (entry ∷ z.entries)
      told = (entry, (refl, r.is_count, ap (λ k. (id.client.0, k)) r.is_number, refl), refl)

      by_issued : (i : Option IssuedUpdate) → IsFit stripe ops members n (seen_in z (tenure_of e peers (progress.Active c i)))
          → Quietly (seen_in z (tenure_of e peers (progress.Active c i))) (Some (tenure_of e peers (progress.Active c i))) (answers (record { 0 = n }) z.kept.file id count c.mark [])
      by_issued None fit = answers_row z e peers (progress.Active c None) id.client (payload.Reply id.number z.kept.file (reply.Ok count c.mark [])) (mark.Answer z.kept.file.number id count [] ∷ []) (entry ∷ z.entries)
          (AnswersRepeated e c None none_acked id.client.0 r.session ∷ []) fit refl ((refl, r.is), tt) refl told
      by_issued (Some i) fit = answers_row z e peers (progress.Active c (Some i)) id.client (payload.Reply id.number z.kept.file (reply.Ok count c.mark [])) (mark.Answer z.kept.file.number id count [] ∷ []) (entry ∷ z.entries)
          (AnswersRepeated e c (Some i.update) (acked_by i.acked) id.client.0 r.session ∷ []) fit refl ((refl, r.is), tt) refl told

  some_led : {a b : Led} → Some a ≡ Some b → a ≡ b
  some_led k = cc

  abbrev LedQuietly : Seen → Led → Type 0
  LedQuietly a led = Quietly a led.primary.tenure led.turned

  -- a write by how it stands to the committed head
  stands_serves : (z : Seen) (e : Epoch) (peers : List Peer) (c : FileHead) (issued : Option IssuedUpdate) (learnt : ℕ) (ask : WaitingAsk) (led : Led) → IsFit stripe ops members n (seen_in z (tenure_of e peers (progress.Active c issued))) → AskFits stripe ops ask
      → (how : WriteStanding) → standing OBJECTS stripe c ask.id ask.epoch ask.op ≡ how
      → write_stands (ground_at stripe n z) learnt (tenure_of e peers (progress.Active c issued)) c issued ask.id ask.epoch ask.op how ≡ Some led
      → LedQuietly (seen_in z (tenure_of e peers (progress.Active c issued))) led
  stands_serves z e peers c issued learnt ask led fits of (repeated count) how is =
      subst (LedQuietly (seen_in z (tenure_of e peers (progress.Active c issued)))) (some_led is)
      (repeat_serves z e peers c issued ask.id count fits (repeats OBJECTS stripe c ask.id ask.epoch ask.op count how))
  stands_serves z e peers c issued learnt ask led fits of older how is =
      subst (LedQuietly (seen_in z (tenure_of e peers (progress.Active c issued)))) (some_led is) (quietly z (tenure_of e peers (progress.Active c issued)) learnt fits)
  stands_serves z e peers c issued learnt ask led fits of (turned_away why) how is =
      subst (LedQuietly (seen_in z (tenure_of e peers (progress.Active c issued)))) (some_led is)
      (answers_row z e peers (progress.Active c issued) ask.id.client (payload.Reply ask.id.number z.kept.file why) [] z.entries [] fits refl tt refl refl)
  stands_serves z e peers c (Some i) learnt ask led fits of fresh how is = absurd cc
  stands_serves z e peers c None learnt ask led fits of fresh how is =
      subst (LedQuietly (seen_in z (tenure_of e peers (progress.Active c None)))) (some_led is)
      (issue_serves z e peers c ask.id ask.epoch ask.op learnt fits of.allowed of.asked how (next_update_of (ground_at stripe n z) (tenure_of e peers (progress.Active c None)) c ask.id ask.epoch ask.op) refl)

  pub write_serves : (z : Seen) (e : Epoch) (peers : List Peer) (p : Progress) (learnt : ℕ) (ask : WaitingAsk) (led : Led) → IsFit stripe ops members n (seen_in z (tenure_of e peers p)) → AskFits stripe ops ask
      → writes_in (ground_at stripe n z) learnt (tenure_of e peers p) p ask.id ask.epoch ask.op ≡ Some led → LedQuietly (seen_in z (tenure_of e peers p)) led
  write_serves z e peers progress.Gathering learnt ask led fits of is = absurd cc
  write_serves z e peers (progress.Fetching chosen source asked later) learnt ask led fits of is = absurd cc
  write_serves z e peers (progress.Installing chosen acked) learnt ask led fits of is = absurd cc
  write_serves z e peers (progress.Active c issued) learnt ask led fits of is = stands_serves z e peers c issued learnt ask led fits of (standing OBJECTS stripe c ask.id ask.epoch ask.op) refl is
