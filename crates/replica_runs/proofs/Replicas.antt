-- The rows of a replica, and rows that say nothing here.
use Rattle.std.proofs.Common.{◌≡◌, ℕ, ◌⊎◌, Bool, true, List, [], ◌∷◌, refl, sym, ap, ◌∙◌, subst, inl, inr, if◌then◌else◌, ◌==◌, ◌&&◌, not, Option, Some, None}
use Rattle.std.specs.Prelude.{cond, filter, nat_lt, nat_le, ◌+◌}
use Rattle.xt_base.specs.declared.TheConstants.{NO_OBJECT}
use Rattle.xt_base.specs.declared.ids.FileId.{FileId}
use Rattle.xt_base.specs.declared.ids.Epoch.{Epoch}
use Rattle.xt_base.specs.declared.ids.Stamp.{Stamp}
use Rattle.xt_messages.specs.declared.file.FileHead.{FileHead}
use Rattle.xt_messages.specs.declared.file.ObjectVersion.{ObjectVersion}
use Rattle.xt_messages.specs.declared.file.Update.{Update}
use Rattle.xt_messages.specs.declared.message.Payload.{Payload}
use Rattle.xt_messages.specs.declared.message.Payload.TheVariants as payload
use Rattle.xt_messages.specs.declared.record.FileRow.{FileRow}
use Rattle.xt_messages.specs.declared.record.Record.{Record}
use Rattle.xt_messages.specs.declared.record.Record.TheVariants as kept
use Rattle.xt_protocol.specs.Folds.{body_of, held_after}
use Rattle.xt_protocol.specs.Heads.{head_after, with_version, versions_below}
use Rattle.xt_protocol.specs.Stamps.{is_epoch, is_earlier, is_below, has_version, with_held}
use Rattle.xt_protocol.proofs.Folds.{row_after-file}
use Rattle.xt_protocol.specs.declared.states.Acted.{Acted}
use Rattle.xt_protocol.specs.declared.states.Peer.{Peer}
use Rattle.xt_protocol.specs.declared.states.Progress.{Progress}
use Rattle.xt_protocol.specs.declared.states.Progress.TheVariants as progress
use Rattle.xt_protocol.specs.declared.states.Tenure.{Tenure}
use Rattle.xt_protocol.specs.Primaries.{last_sent}
use Rattle.xt_protocol.specs.ReplicaRows.{kept_after, unanswered, only, after_record, refused, behind, as_promised, gathered, head_taken, first_missing, head_offered, headed, head_fits, next_update, update_offered, updated, stage_record}
use Rattle.replica_safety.specs.Lists.{Has}
use Rattle.replica_runs.specs.HeadWorld.{Message, Status, shown, shown_if}
use Rattle.replica_runs.proofs.HeldVersions.{held_new, held_more}
use Rattle.replica_runs.proofs.Tools.{by_test}
use Rattle.replica_runs.specs.Seen.{Seen, AreIn, NamesHeld, PeersSent, ProgressFits, TenureFits}
use Rattle.replica_runs.proofs.Sending.{are_in, in_are}

-- ---- what holds goes on to hold

abbrev pub Grows : List ObjectVersion → List ObjectVersion → Type 0
Grows held more = (v : ObjectVersion) → has_version held v ≡ true → has_version more v ≡ true

update_grows : (held : List ObjectVersion) (u : Update) → Grows held (held_after held u)
update_grows held u v h =
    by_test (λ b. has_version (cond b held (with_held held (body_of u.object u.stamp))) v ≡ true) (u.object == NO_OBJECT) (λ _. h) (λ _. held_more held (body_of u.object u.stamp) v h)

pub stage_grows : (row : FileRow) (object : ℕ) (version : Stamp) (bytes : List ℕ) → Grows row.held (kept_after row (stage_record row.file row.held object version bytes)).held
stage_grows row object version bytes v h =
    by_test (λ b. has_version (kept_after row (cond b None (Some (kept.Stage row.file object version bytes)))).held v ≡ true) (has_version row.held (body_of object version))
    (λ _. h) (λ _. held_more row.held (body_of object version) v h)

pub same_file : (row : FileRow) (rec : Option Record) → (kept_after row rec).file ≡ row.file
same_file row None = refl
same_file row (Some rec) = row_after-file row rec

progress_grows : (members : List ℕ) (n : ℕ) (held more : List ObjectVersion) (peers : List Peer) (p : Progress) → Grows held more → ProgressFits members n held peers p → ProgressFits members n more peers p
progress_grows members n held more peers progress.Gathering grows fits = λ h is v k. grows v (fits h is v k)
progress_grows members n held more peers (progress.Fetching chosen source asked later) grows fits = λ v h. of v (fits v h)
  where
    of : (v : ObjectVersion) → (has_version held v ≡ true) ⊎ ((v ≡ asked) ⊎ Has v later) → (has_version more v ≡ true) ⊎ ((v ≡ asked) ⊎ Has v later)
    of v (inl k) = inl (grows v k)
    of v (inr k) = inr k
progress_grows members n held more peers (progress.Installing chosen acked) grows fits = (λ v h. grows v (fits.0 v h), fits.1)
progress_grows members n held more peers (progress.Active c issued) grows fits = fits

-- what was sent to a peer doesn't speak of the file's name
pub peers_grow : (n : ℕ) (file other : FileId) (e : Epoch) (peers : List Peer) (sent more : List Message) → other ≡ file → ((x : Message) → Has x sent → Has x more) → PeersSent n file e peers sent → PeersSent n other e peers more
peers_grow n file other e peers sent more same grows all p h =
    subst (λ f. AreIn (shown_if n (last_sent f e p.state)) more) (sym same)
    (are_in (shown_if n (last_sent file e p.state)) more (λ x k. grows x (in_are (shown_if n (last_sent file e p.state)) sent (all p h) x k)))

module _ (members : List ℕ) (n : ℕ) where
  pub tenure_grows : (a b : Seen) (o : Option Tenure) → b.holder ≡ a.holder → b.kept.file ≡ a.kept.file → Grows a.kept.held b.kept.held → ((x : Message) → Has x a.sent → Has x b.sent) → TenureFits members n a o → TenureFits members n b o
  tenure_grows a b None holder file held sent fits = λ is. fits (sym holder ∙ is)
  tenure_grows a b (Some t) holder file held sent fits = (
    holder ∙ fits.0,
    record {
      peers = fits.1.peers;
      sent = peers_grow n a.kept.file b.kept.file t.epoch t.peers a.sent b.sent file sent fits.1.sent;
      progress = progress_grows members n a.kept.held b.kept.held t.peers t.progress held fits.1.progress;
    },
  )

-- ---- what a row of a replica keeps and answers

-- what is held stays held, the bodies that the head names among it, and a status reports a head whose bodies are held
pub record ActsWell (n : ℕ) (row : FileRow) (acted : Acted) : Type 0 where
  pub grows : Grows row.held (kept_after row acted.rec).held
  pub names : NamesHeld row.held row.head.versions → NamesHeld (kept_after row acted.rec).held (kept_after row acted.rec).head.versions
  pub told : NamesHeld row.held row.head.versions → (e : Epoch) (h : FileHead) → Has (Status n e h) (shown_if n acted.answer) → NamesHeld row.held h.versions

-- an answer that is no status, without a record
answers_well : (n : ℕ) (row : FileRow) (answer : Payload) → ((e : Epoch) (h : FileHead) → Has (Status n e h) (shown n answer) → ⊥) → ActsWell n row (only answer)
answers_well n row answer silent = record { grows = λ v h. h; names = λ k. k; told = λ k e h has. absurd (silent e h has) }

nothing_well : (n : ℕ) (row : FileRow) → ActsWell n row unanswered
nothing_well n row = record { grows = λ v h. h; names = λ k. k; told = λ k e h has. absurd has }

promised_well : (n : ℕ) (row : FileRow) (e : Epoch) (acted : Acted) → ActsWell n row acted → ActsWell n row (as_promised row.file row.head e acted)
promised_well n row e acted well =
    by_test (λ b. ActsWell n row (cond b (refused row.file row.head e) (cond (is_earlier row.head.promised e) (behind row.file row.head e) acted))) (is_earlier e row.head.promised)
    (λ _. answers_well n row (payload.Refused row.file e row.head.promised) (λ d h k. k))
    (λ _. by_test (λ b. ActsWell n row (cond b (behind row.file row.head e) acted)) (is_earlier row.head.promised e)
    (λ _. answers_well n row (payload.Behind row.file e row.head.stamp) (λ d h k. k)) (λ _. well))

status_same : (n : ℕ) (held versions : List ObjectVersion) (e : Epoch) (head : FileHead) → head.versions ≡ versions → NamesHeld held versions → (d : Epoch) (h : FileHead) → Has (Status n d h) (Status n e head ∷ []) → NamesHeld held h.versions
status_same n held versions e head same are d h (inl k) = subst (NamesHeld held) (sym (ap (λ (x : FileHead). x.versions) (is k) ∙ same)) are
  where
    is : Status n d h ≡ Status n e head → h ≡ head
    is p = cc
status_same n held versions e head same are d h (inr k) = absurd k

pub gathers_well : (n : ℕ) (row : FileRow) (e : Epoch) → ActsWell n row (gathered row.file row.head e)
unfolding gathered
gathers_well n row e =
    by_test (λ b. ActsWell n row (cond b (refused row.file row.head e) (cond (is_earlier row.head.promised e)
    (after_record (kept.Promise row.file e) (payload.Status row.file e (record row.head { promised = e }))) (only (payload.Status row.file e row.head))))) (is_earlier e row.head.promised)
    (λ _. answers_well n row (payload.Refused row.file e row.head.promised) (λ d h k. k))
    (λ _. by_test (λ b. ActsWell n row (cond b (after_record (kept.Promise row.file e) (payload.Status row.file e (record row.head { promised = e }))) (only (payload.Status row.file e row.head)))) (is_earlier row.head.promised e)
    (λ _. record { grows = λ v h. h; names = λ k. k; told = λ k. status_same n row.held row.head.versions e (record row.head { promised = e }) refl k })
    (λ _. record { grows = λ v h. h; names = λ k. k; told = λ k. status_same n row.held row.head.versions e row.head refl k }))

all_held : (held vs : List ObjectVersion) → first_missing held vs ≡ None → NamesHeld held vs
all_held held [] none v h = absurd h
all_held held (w ∷ vs) none v h =
    by_test (λ b. has_version held w ≡ b → cond (not b) (Some w) (first_missing held vs) ≡ None → has_version held v ≡ true) (has_version held w)
    (λ _ is rest. of h is rest (all_held held vs rest v)) (λ _ _ k. absurd cc) refl none
  where
    of : (v ≡ w) ⊎ Has v vs → has_version held w ≡ true → first_missing held vs ≡ None → (Has v vs → has_version held v ≡ true) → has_version held v ≡ true
    of (inl p) is rest later = subst (λ x. has_version held x ≡ true) (sym p) is
    of (inr k) is rest later = later k

pub takes_head_well : (n : ℕ) (row : FileRow) (e : Epoch) (head : FileHead) → ActsWell n row (headed row.file row.head row.held e head)
unfolding headed
takes_head_well n row e head =
    by_test (λ b. ActsWell n row (cond b (as_promised row.file row.head e (head_offered row.file row.head row.held e head)) unanswered)) (is_epoch head.promised e && is_epoch head.stamp.epoch e)
    (λ _. promised_well n row e (head_offered row.file row.head row.held e head)
    (by_test (λ b. ActsWell n row (cond b (head_taken row.file e head (first_missing row.held head.versions)) (only (payload.Ack row.file head.stamp)))) (is_below row.head.stamp head.stamp)
    (λ _. takes (first_missing row.held head.versions) refl) (λ _. answers_well n row (payload.Ack row.file head.stamp) no_status)))
    (λ _. nothing_well n row)
  where
    no_status : (d : Epoch) (h : FileHead) → Has (Status n d h) (shown n (payload.Ack row.file head.stamp)) → ⊥
    no_status d h (inl k) = cc k
    no_status d h (inr k) = k

    takes : (o : Option ObjectVersion) → first_missing row.held head.versions ≡ o → ActsWell n row (head_taken row.file e head o)
    takes None is = record { grows = λ v h. h; names = λ k. all_held row.held head.versions is; told = λ k d h has. absurd (no_status d h has) }
    takes (Some v) is = answers_well n row (payload.Missing row.file e v.object v.version) (λ d h k. k)

in_filter : (test : ObjectVersion → Bool) (vs : List ObjectVersion) (v : ObjectVersion) → Has v (filter test vs) → Has v vs
in_filter test [] v h = absurd h
in_filter test (w ∷ vs) v h = by_test (λ b. Has v (if b then w ∷ filter test vs else filter test vs) → Has v (w ∷ vs)) (test w) (λ _ k. of k (in_filter test vs v)) (λ _ k. inr (in_filter test vs v k)) h
  where
    of : (v ≡ w) ⊎ Has v (filter test vs) → (Has v (filter test vs) → Has v vs) → (v ≡ w) ⊎ Has v vs
    of (inl p) rest = inl p
    of (inr k) rest = inr (rest k)

in_with_version : (vs : List ObjectVersion) (object : ℕ) (version : Stamp) (v : ObjectVersion) → Has v (with_version vs object version) → (v ≡ body_of object version) ⊎ Has v vs
in_with_version [] object version v (inl p) = inl p
in_with_version [] object version v (inr h) = absurd h
in_with_version (w ∷ vs) object version v h =
    by_test (λ b. Has v (cond b (body_of object version ∷ vs) (cond (nat_lt object w.object) (body_of object version ∷ w ∷ vs) (w ∷ with_version vs object version))) → (v ≡ body_of object version) ⊎ Has v (w ∷ vs)) (w.object == object)
    (λ _ k. here vs k (λ g. inr g)) (λ _ k. by_test (λ b. Has v (cond b (body_of object version ∷ w ∷ vs) (w ∷ with_version vs object version)) → (v ≡ body_of object version) ⊎ Has v (w ∷ vs)) (nat_lt object w.object)
    (λ _ g. here (w ∷ vs) g (λ q. q)) (λ _ g. later g (in_with_version vs object version v)) k) h
  where
    here : (rest : List ObjectVersion) → (v ≡ body_of object version) ⊎ Has v rest → (Has v rest → Has v (w ∷ vs)) → (v ≡ body_of object version) ⊎ Has v (w ∷ vs)
    here rest (inl p) f = inl p
    here rest (inr k) f = inr (f k)

    later : (v ≡ w) ⊎ Has v (with_version vs object version) → (Has v (with_version vs object version) → (v ≡ body_of object version) ⊎ Has v vs) → (v ≡ body_of object version) ⊎ Has v (w ∷ vs)
    later (inl p) rest = inr (inl p)
    later (inr k) rest = of (rest k)
      where
        of : (v ≡ body_of object version) ⊎ Has v vs → (v ≡ body_of object version) ⊎ Has v (w ∷ vs)
        of (inl p) = inl p
        of (inr g) = inr (inr g)

pub update_names : (row : FileRow) (u : Update) → NamesHeld row.held row.head.versions → NamesHeld (held_after row.held u) (head_after row.head u).versions
update_names row u are v h =
    by_test (λ b. Has v (cond b (versions_below row.head.versions u.drop_from) (with_version (versions_below row.head.versions u.drop_from) u.object u.stamp))
    → has_version (cond b row.held (with_held row.held (body_of u.object u.stamp))) v ≡ true) (u.object == NO_OBJECT)
    (λ _ k. are v (in_filter (λ w. nat_lt w.object u.drop_from) row.head.versions v k))
    (λ _ k. of (in_with_version (versions_below row.head.versions u.drop_from) u.object u.stamp v k)) h
  where
    of : (v ≡ body_of u.object u.stamp) ⊎ Has v (versions_below row.head.versions u.drop_from) → has_version (with_held row.held (body_of u.object u.stamp)) v ≡ true
    of (inl p) = subst (λ w. has_version (with_held row.held (body_of u.object u.stamp)) w ≡ true) (sym p) (held_new row.held (body_of u.object u.stamp))
    of (inr k) = held_more row.held (body_of u.object u.stamp) v (are v (in_filter (λ w. nat_lt w.object u.drop_from) row.head.versions v k))

pub takes_update_well : (n : ℕ) (row : FileRow) (u : Update) → ActsWell n row (updated row.file row.head u)
unfolding updated
takes_update_well n row u = promised_well n row u.stamp.epoch (update_offered row.file row.head u)
    (by_test (λ b. ActsWell n row (cond (not b) (behind row.file row.head u.stamp.epoch) (cond (nat_le u.stamp.count row.head.stamp.count) (only (payload.Ack row.file u.stamp))
    (cond (u.stamp.count == row.head.stamp.count + 1) (next_update row.file row.head u) (behind row.file row.head u.stamp.epoch))))) (is_epoch row.head.stamp.epoch u.stamp.epoch)
    (λ _. by_test (λ b. ActsWell n row (cond b (only (payload.Ack row.file u.stamp)) (cond (u.stamp.count == row.head.stamp.count + 1) (next_update row.file row.head u) (behind row.file row.head u.stamp.epoch))))
    (nat_le u.stamp.count row.head.stamp.count)
    (λ _. answers_well n row (payload.Ack row.file u.stamp) no_status)
    (λ _. by_test (λ b. ActsWell n row (cond b (next_update row.file row.head u) (behind row.file row.head u.stamp.epoch))) (u.stamp.count == row.head.stamp.count + 1)
    (λ _. by_test (λ b. ActsWell n row (cond b (after_record (kept.Update row.file u) (payload.Ack row.file u.stamp)) unanswered)) (head_fits (head_after row.head u))
    (λ _. record { grows = update_grows row.held u; names = update_names row u; told = λ k d h has. absurd (no_status d h has) }) (λ _. nothing_well n row))
    (λ _. answers_well n row (payload.Behind row.file u.stamp.epoch row.head.stamp) (λ d h k. k))))
    (λ _. answers_well n row (payload.Behind row.file u.stamp.epoch row.head.stamp) (λ d h k. k)))
  where
    no_status : (d : Epoch) (h : FileHead) → Has (Status n d h) (shown n (payload.Ack row.file u.stamp)) → ⊥
    no_status d h (inl k) = cc k
    no_status d h (inr k) = k
