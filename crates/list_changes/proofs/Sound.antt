-- the files with a change stay in order, and each change stays sound
use Rattle.std.proofs.Common.{◌≡◌, ℕ, inl, inr, List, [], ◌∷◌, map, refl, ap, sym, ◌∙◌, subst, Option, Some, None, Bool, true, false, cond}
use Rattle.std.specs.Prelude.{◌+◌, max, not, ◌&&◌, Result, Ok, Err, if◌then◌else◌}
use Rattle.xt_protocol.specs.FileIds.{is_before}
use Rattle.std.specs.Option.{is_some}
use Rattle.xt_base.specs.TimeSettings.{TimeSettings}
use Rattle.xt_base.specs.declared.ids.NodeId.{NodeId}
use Rattle.xt_base.specs.declared.ids.FileId.{FileId}
use Rattle.xt_messages.specs.declared.file.FileHead.{FileHead}
use Rattle.xt_messages.specs.declared.file.Location.{Location}
use Rattle.xt_messages.specs.declared.meta.MetaReq.{MetaReq}
use Rattle.xt_messages.specs.declared.meta.MetaReq.TheVariants as ask
use Rattle.xt_messages.specs.declared.meta.MetaRefusal.{MetaRefusal}
use Rattle.xt_messages.specs.declared.meta.MetaAnswer.{MetaAnswer}
use Rattle.xt_messages.specs.declared.message.Payload.{Payload}
use Rattle.xt_messages.specs.declared.message.Payload.TheVariants as payload
use Rattle.xt_messages.specs.declared.event.Event.{Event}
use Rattle.xt_messages.specs.declared.event.Event.TheVariants as event
use Rattle.lease_safety.specs.State.{Has}
use Rattle.reply_cache.specs.declared.Standing.{Standing}
use Rattle.reply_cache.specs.declared.Standing.TheVariants as standing
use Rattle.reply_cache.specs.Standings.{standing_of}
use Rattle.volume_rows.specs.declared.Asker.{Asker}
use Rattle.volume_rows.specs.Paths.{path_in}
use Rattle.volume_rows.specs.Rows.{Volumes}
use Rattle.volume_rows.specs.Grants.{file_at}
use Rattle.server_rows.specs.Requests.{is_done}
use Rattle.server_rows.specs.Metadata as plain
use Rattle.change_rows.specs.declared.Choice.{Choice}
use Rattle.change_rows.specs.Changes.{ChangeState, Seat, Installed, with_seats, new_change, next_location, next_members, with_installation, awaits_installation, closed_by, installed_by, awaits_closing, with_report}
use Rattle.change_rows.specs.Coordinating.{Running, Step, file_of, running_of, with_running, unmoved, lists, closing_under, installation_under, installation_of, wanted_under, wanted_of, woken}
use Rattle.change_rows.specs.Laws.{IsTimed, WakeKeeps, nothing as no_choice, one as one_choice}
use Rattle.change_rows.proofs.Waiting.{timed_first, closed_timed}
use Rattle.change_rows.proofs.Wakes.{wakes_once}
use Rattle.change_rows.proofs.Seats.{empty_seats, same_members}
use Rattle.list_changes.specs.Lists.{Beginning}
use Rattle.list_changes.specs.Requests.{nodes_with, outcome_with, beginning_on, is_recorded_with, is_spent_with, begun_by, ended_by, running_after}
use Rattle.list_changes.specs.Recorded.{uncounted}
use Rattle.list_changes.specs.Steps.{ChangingMrc, beside, recorded_on, fresh_on, by_standing, told_by, wakes, handled, at_reading, step_with_changes}
use Rattle.list_changes.specs.Laws.{Rise, AreAfter, IsChosen, IsCounted, IsSound, AreSound, IsInOrder, Follows, stays, begins, counts, chooses, installs}
use Rattle.list_changes.proofs.Order.{rise_put, rise_left, rise_over}
use Rattle.list_changes.proofs.Counted.{counted_more}
use Rattle.list_changes.proofs.Following.{own_choice, step_follows}

-- ---- rising

after_rise : (times : TimeSettings) (volumes : Volumes) (rs : List Running) (who : Asker) (nodes : Option (List NodeId)) (request : MetaReq) (told : MetaAnswer)
    → Rise rs → Rise (running_after times volumes rs who nodes request told)
after_rise times volumes rs who nodes (ask.Change path next) told rise = by (beginning_on volumes rs who nodes path next)
  where
    by : (b : Result Beginning MetaRefusal) → Rise (begun_by times rs b)
    by (Err why) = rise
    by (Ok begun) = rise_put rs _ rise
after_rise times volumes rs who nodes (ask.Unlink path) told rise = by (file_at volumes (path_in path)) (is_done told)
  where
    by : (file : Option FileId) (done : Bool) → Rise (cond done (ended_by rs file) rs)
    by None true = rise
    by (Some file) true = rise_left rs file rise
    by file false = rise
after_rise times volumes rs who nodes _ told rise = rise

module _ (key : List ℕ) (times : TimeSettings) (s : ChangingMrc) (rise : Rise s.running) where
  fresh_rise : (client : NodeId) (number : ℕ) (nodes : Option (List NodeId)) (who : Asker) (wanted : MetaReq) → Rise (fresh_on key times s client number nodes who wanted).server.running
  fresh_rise client number nodes who wanted = go (is_spent_with s.mrc.catalogue.volumes s.running who nodes wanted) (is_recorded_with key s.mrc.catalogue.volumes s.mrc.last wanted)
    where
      go : (spent records : Bool)
          → Rise (cond spent (beside s.running (plain.nothing s.mrc)) (cond records (recorded_on key times s client number nodes who wanted)
          (beside s.running (plain.answered s.mrc client number (outcome_with key s.mrc.catalogue.volumes s.running who s.mrc.last None wanted).answer)))).server.running
      go true records = rise
      go false true =
          after_rise times s.mrc.catalogue.volumes s.running who nodes wanted
          (outcome_with key s.mrc.catalogue.volumes s.running who s.mrc.last nodes wanted).answer rise
      go false false = rise

  stands_rise : (client : NodeId) (number : ℕ) (who : Asker) (wanted : MetaReq) (stands : Standing MetaAnswer)
      → Rise (by_standing key times s client number who wanted stands).server.running
  stands_rise client number who wanted standing.Fresh = fresh_rise client number (nodes_with s.mrc.osds s.mrc.catalogue.volumes.next wanted) who wanted
  stands_rise client number who wanted (standing.Again answer) = rise
  stands_rise client number who wanted standing.Older = rise

  closed_rise : (now : ℕ) (from : NodeId) (version : ℕ) (head : FileHead) (o : Option Running) → Rise (closing_under s.running now from version head o).running
  closed_rise now from version head None = rise
  closed_rise now from version head (Some r) = rise_put s.running _ rise

  installed_by_choice : (from : NodeId) (version : ℕ) (r : Running) (o : Option Choice) → Rise (installation_under s.running from version r o).running
  installed_by_choice from version r None = rise
  installed_by_choice from version r (Some it) = at ((installed_by r.change from version).wins && not r.listed)
    where
      after : Running
      after = record { change = (installed_by r.change from version).change; choice = r.choice; listed = r.listed }

      at : (t : Bool) → Rise (cond t (lists s.running after it) (unmoved (with_running s.running after))).running
      at true = rise_put s.running _ rise
      at false = rise_put s.running _ rise

  installed_rise : (from : NodeId) (version : ℕ) (o : Option Running) → Rise (installation_of s.running from version o).running
  installed_rise from version None = rise
  installed_rise from version (Some r) = installed_by_choice from version r r.choice

  wanted_rise : (from : NodeId) (o : Option Running) → Rise (wanted_of s.running from o).running
  wanted_rise from None = rise
  wanted_rise from (Some r) = by_choice r.choice
    where
      by_choice : (o : Option Choice) → Rise (wanted_under s.running from o).running
      by_choice None = rise
      by_choice (Some it) = rise

  woken_rise : (now : ℕ) (step : Step) → WakeKeeps now s.running step → Rise step.running
  woken_rise now step (no_choice _ none same) = subst Rise (sym same) rise
  woken_rise now step (one_choice _ it kept h) =
      let new : Running = record { change = h.file.change; choice = Some it; listed = h.file.listed } in
      subst Rise (sym h.is) (rise_over h.earlier h.later h.file new refl (subst Rise h.was rise))

  told_rise : (from : NodeId) (content : Payload) → Rise (told_by key times s from content).server.running
  told_rise from (payload.Meta number user group wanted) =
      stands_rise from number (record { user = user; group = group }) wanted (standing_of s.mrc.catalogue.clients from number)
  told_rise from (payload.Closed file version head) = closed_rise s.mrc.last from version head (running_of s.running file)
  told_rise from (payload.Installed file version) = installed_rise from version (running_of s.running file)
  told_rise from (payload.Wanted file) = wanted_rise from (running_of s.running file)
  told_rise from _ = rise

  handled_rise : (happens : Event) → Rise (handled key times s happens).server.running
  handled_rise (event.Deliver msg) = told_rise msg.from msg.payload
  handled_rise event.Wake = woken_rise s.mrc.last (woken s.mrc.last s.running) (wakes_once s.mrc.last s.running)
  handled_rise (event.Call call) = rise

step_rises : (key : List ℕ) (times : TimeSettings) (s : ChangingMrc) (reading : ℕ) (happens : Event) → Rise s.running
    → Rise (step_with_changes key times s reading happens).server.running
unfolding step_with_changes
step_rises key times s reading happens rise = handled_rise key times (at_reading reading s) rise happens

-- ---- soundness

-- an installation leaves all but the seats, and who sits there
next_same : (c : ChangeState) (from : NodeId) (version : ℕ) → next_location (installed_by c from version).change ≡ next_location c
next_same c from version = at (awaits_installation c from version)
  where
    at : (t : Bool) →
        let made : Installed = if t then with_seats c (map (with_installation from) c.seats) else record { change = c; wins = false } in
        next_location made.change ≡ next_location c
    at true =
        ap
        (λ (nodes : List NodeId).
        (let place : Location = record { version = c.before.version + 1; kind = c.before.kind; stripe = c.before.stripe; members = nodes } in place))
        (same_members from c.seats)
    at false = refl

-- what holds of a change whatever the seats, holds after an installation
spares_seats : (P : ChangeState → Type 0) (c : ChangeState) (from : NodeId) (version : ℕ) → ((seats : List Seat) → P (record c { seats = seats }))
    → P (installed_by c from version).change
spares_seats P c from version all = at (awaits_installation c from version)
  where
    at : (t : Bool) →
        let made : Installed = if t then with_seats c (map (with_installation from) c.seats) else record { change = c; wins = false } in
        P made.change
    at true = all (map (with_installation from) c.seats)
    at false = all c.seats

file_same : (c : ChangeState) (from : NodeId) (version : ℕ) → (installed_by c from version).change.file ≡ c.file
file_same c from version = spares_seats (λ (x : ChangeState). x.file ≡ c.file) c from version (λ seats. refl)

closed_times : (c : ChangeState) (now : ℕ) (from : NodeId) (version : ℕ) (head : FileHead) → (closed_by c now from version head).times ≡ c.times
closed_times c now from version head = at (awaits_closing c from version)
  where
    at : (t : Bool) → (if t then with_report c now from head else c).times ≡ c.times
    at true = refl
    at false = refl

chosen_still : (c new : ChangeState) (o : Option Choice) → new.file ≡ c.file → next_location new ≡ next_location c → IsChosen c o → IsChosen new o
chosen_still c new None file place h = tt
chosen_still c new (Some it) file place h = record { file = h.file ∙ sym file; location = h.location ∙ sym place }

module _ (times : TimeSettings) (volumes : Volumes) (now : ℕ) (happens : Event) (before : List Running) (sound : AreSound times before) where
  pub follows_sound : (r : Running) → Follows times volumes now happens before r → IsSound times r
  follows_sound _ (stays r h) = sound r h
  follows_sound _ (begins begun from) =
      record {
        settings = refl;
        counted = record { members = tt; once = tt };
        timed = timed_first (new_change times begun.file begun.old begun.next) refl refl;
        choice = tt;
        ended = (λ is. absurd (cc));
      }
  follows_sound _ (counts r from version head h none says awaited) =
      let old = sound r h in
      record {
        settings = closed_times r.change now from version head ∙ old.settings;
        counted = counted_more r.change now from version head old.counted;
        timed = closed_timed r.change now from head old.timed version;
        choice = subst (IsChosen (closed_by r.change now from version head)) (sym none) tt;
        ended = old.ended;
      }
  follows_sound _ (chooses r it h none wakes ready numbered) =
      let old = sound r h in record { settings = old.settings; counted = old.counted; timed = old.timed; choice = own_choice r.change now it ready; ended = (λ is. refl) }
  follows_sound _ (installs r it from version ended h has says) =
      let old = sound r h in
      record {
        settings = spares_seats (λ (c : ChangeState). c.times ≡ times) r.change from version (λ seats. old.settings);
        counted = spares_seats IsCounted r.change from version (λ seats. record { members = old.counted.members; once = old.counted.once });
        timed = spares_seats IsTimed r.change from version (λ seats. old.timed);
        choice = chosen_still r.change (installed_by r.change from version).change r.choice (file_same r.change from version) (next_same r.change from version) old.choice;
        ended = (λ is. ap is_some has);
      }

pub step_in_order : (key : List ℕ) (times : TimeSettings) (s : ChangingMrc) (reading : ℕ) (happens : Event) → IsInOrder times s.running
    → IsInOrder times (step_with_changes key times s reading happens).server.running
step_in_order key times s reading happens order =
    record {
      rise = step_rises key times s reading happens order.rise;
      sound = (λ r h. follows_sound times s.mrc.catalogue.volumes (max reading s.mrc.last) happens s.running order.sound r (step_follows key times s reading happens r h));
    }

-- ---- a start

has_mapped : (rs : List Running) (x : Running) → Has x (map uncounted rs) → (r : Running) × Has r rs × (x ≡ uncounted r)
has_mapped [] x h = absurd h
has_mapped (r ∷ rs) x (inl e) = (r, inl refl, e)
has_mapped (r ∷ rs) x (inr h) = (let at = has_mapped rs x h in (at.0, inr at.1, at.2))

uncounted_rise : (rs : List Running) → Rise rs → Rise (map uncounted rs)
uncounted_rise [] rise = tt
uncounted_rise (r ∷ rs) rise = (after, uncounted_rise rs rise.1)
  where
    after : AreAfter (file_of r) (map uncounted rs)
    after x h = (let at = has_mapped rs x h in subst (λ (y : Running). is_before (file_of r) (file_of y) ≡ true) (sym at.2) (rise.0 at.0 at.1))

next_again : (c : ChangeState) → next_location (new_change c.times c.file c.before (next_members c)) ≡ next_location c
next_again c =
    ap (λ (nodes : List NodeId). (let place : Location = record { version = c.before.version + 1; kind = c.before.kind; stripe = c.before.stripe; members = nodes } in place)) (empty_seats (next_members c))

pub none_in_order : (times : TimeSettings) → IsInOrder times []
none_in_order times = record { rise = tt; sound = (λ r h. absurd h) }

-- what the records tell of changes in order is in order
pub start_in_order : (times : TimeSettings) (rs : List Running) → IsInOrder times rs → IsInOrder times (map uncounted rs)
start_in_order times rs order = record { rise = uncounted_rise rs order.rise; sound = all }
  where
    all : AreSound times (map uncounted rs)
    all x h =
        let at = has_mapped rs x h in
        let r = at.0 in
        let old = order.sound r at.1 in
        subst (IsSound times) (sym at.2)
        (record {
          settings = old.settings;
          counted = record { members = tt; once = tt };
          timed = timed_first (new_change r.change.times r.change.file r.change.before (next_members r.change)) refl refl;
          choice = chosen_still r.change (new_change r.change.times r.change.file r.change.before (next_members r.change)) r.choice refl (next_again r.change) old.choice;
          ended = old.ended;
        })
