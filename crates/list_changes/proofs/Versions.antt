-- the list in force of each file rises by one version at a time
use Rattle.std.proofs.Common.{◌≡◌, ℕ, inl, inr, List, refl, ap, sym, ◌∙◌, subst, Option, Some, None, Bool, true, false, cond}
use Rattle.std.specs.Prelude.{◌⊎◌, ◌+◌, not, ◌&&◌, Result, Ok, Err, if◌then◌else◌}
use Rattle.std.specs.Option.{is_some}
use Rattle.xt_base.specs.TimeSettings.{TimeSettings}
use Rattle.xt_base.specs.declared.ids.NodeId.{NodeId}
use Rattle.xt_base.specs.declared.ids.FileId.{FileId}
use Rattle.xt_messages.specs.declared.file.FileHead.{FileHead}
use Rattle.xt_messages.specs.declared.file.Location.{Location}
use Rattle.xt_messages.specs.declared.meta.MetaReq.{MetaReq}
use Rattle.xt_messages.specs.declared.meta.MetaReq.TheVariants as ask
use Rattle.xt_messages.specs.declared.meta.MetaRefusal.{MetaRefusal}
use Rattle.xt_messages.specs.declared.meta.MetaAnswer.{MetaAnswer}
use Rattle.xt_messages.specs.declared.message.Payload.{Payload}
use Rattle.xt_messages.specs.declared.message.Payload.TheVariants as payload
use Rattle.xt_messages.specs.declared.event.Event.{Event}
use Rattle.xt_messages.specs.declared.event.Event.TheVariants as event
use Rattle.xt_messages.specs.declared.record.Record.{Record}
use Rattle.xt_protocol.specs.FileIds.{is_file}
use Rattle.xt_protocol.proofs.Folds.{file-equal}
use Rattle.lease_safety.specs.State.{Has}
use Rattle.reply_cache.specs.declared.Standing.{Standing}
use Rattle.reply_cache.specs.declared.Standing.TheVariants as standing
use Rattle.reply_cache.specs.Standings.{standing_of}
use Rattle.volume_rows.specs.declared.Asker.{Asker}
use Rattle.volume_rows.specs.Paths.{path_in}
use Rattle.volume_rows.specs.Rows.{Volumes}
use Rattle.volume_rows.specs.Requests.{has_names}
use Rattle.volume_rows.specs.Grants.{file_at}
use Rattle.server_rows.specs.Requests.{nodes_in, is_done}
use Rattle.server_rows.specs.Metadata as plain
use Rattle.change_rows.specs.declared.Choice.{Choice}
use Rattle.change_rows.specs.Changes.{installed_by, new_change}
use Rattle.change_rows.specs.Coordinating.{Running, Step, file_of, running_of, with_running, unmoved, lists, listed, counts_closing, closing_under, installation_under, installation_of, wanted_under, wanted_of, woken}
use Rattle.change_rows.specs.Laws.{WakeKeeps, nothing as no_choice, one as one_choice}
use Rattle.change_rows.proofs.Wakes.{wakes_once}
use Rattle.list_changes.specs.Lists.{Beginning, in_force, placed_by}
use Rattle.list_changes.specs.Requests.{nodes_with, outcome_with, beginning_on, is_recorded_with, is_spent_with, begun_by, ended_by, running_after}
use Rattle.list_changes.specs.Steps.{ChangingMrc, ChangingStep, beside, recorded_on, fresh_on, by_standing, told_by, handled, at_reading, step_with_changes}
use Rattle.list_changes.specs.Laws.{Rise, IsChoiceOf, IsChosen, IsInOrder, Rises, Moves}
use Rattle.list_changes.proofs.Order.{has_middle, found, put_over, find_over, find_put, find_left}
use Rattle.list_changes.proofs.Uncounted.{Alike, force_same, closed_alike, installed_alike}
use Rattle.list_changes.proofs.Following.{begins_at}

-- changes that are told alike have one list in force
alike_force : (a b : Running) → Alike a b → in_force a a.choice ≡ in_force b b.choice
alike_force a b alike =
    sym (force_same a a.choice) ∙ ap (λ (r : Running). in_force r r.choice) alike ∙ force_same b b.choice

module _ (times : TimeSettings) (rs : List Running) (order : IsInOrder times rs) where
  -- what is said of the list in force before and after
  abbrev Goes : Option Record → FileId → Running → Running → Type 0
  Goes rec file old new = (in_force new new.choice ≡ in_force old old.choice) ⊎ Rises rec file (in_force old old.choice) (in_force new new.choice)

  one_change : (file : FileId) (a b : Running) → running_of rs file ≡ Some a → running_of rs file ≡ Some b → a ≡ b
  one_change file a b first second = (let same : Some a ≡ Some b = sym first ∙ second in cc)

  all_same : (rec : Option Record) → Moves rs rec rs
  all_same rec file old new was is = inl (ap (λ (r : Running). in_force r r.choice) (one_change file new old is was))

  its_own : (file : FileId) (r : Running) → running_of rs file ≡ Some r → Has r rs × (file_of r ≡ file)
  its_own file r is =
      let at = found rs file r is in (subst (λ (all : List Running). Has r all) (sym at.split) (has_middle at.earlier at.later r), at.same)

  -- one change is put in its place
  put_moves : (rec : Option Record) (new : Running) → ((old : Running) → running_of rs (file_of new) ≡ Some old → Goes rec (file_of new) old new) → Moves rs rec (with_running rs new)
  put_moves rec new own file old r was is = at (is_file (file_of new) file) refl (sym (find_put rs new file) ∙ is)
    where
      at : (t : Bool) → is_file (file_of new) file ≡ t → cond t (Some new) (running_of rs file) ≡ Some r → Goes rec file old r
      at true same is =
          let this : new ≡ r = cc in
          let its : file_of new ≡ file = file-equal (file_of new) file same in
          subst (λ (x : Running). Goes rec file old x) this
          (subst (λ (f : FileId). Goes rec f old new) its (own old (ap (running_of rs) its ∙ was)))
      at false differs is = inl (ap (λ (x : Running). in_force x x.choice) (one_change file r old is was))

  -- ---- requests

  begun_moves : (rec : Option Record) (volumes : Volumes) (who : Asker) (nodes : Option (List NodeId)) (path : List ℕ) (next : List NodeId) (b : Result Beginning MetaRefusal)
      → beginning_on volumes rs who nodes path next ≡ b → Moves rs rec (begun_by times rs b)
  begun_moves rec volumes who nodes path next (Err why) asked = all_same rec
  begun_moves rec volumes who nodes path next (Ok begun) asked = put_moves rec new own
    where
      new : Running
      new = record { change = new_change times begun.file begun.old begun.next; choice = None; listed = false }

      own : (old : Running) → running_of rs begun.file ≡ Some old → Goes rec begun.file old new
      own old was =
          let at = begins_at times volumes 0 event.Wake rs who (nodes_in nodes) next (has_names 1 (path_in path)) begun asked in
          inl (at.2 ∙ ap (placed_by at.1) was)

  ended_moves : (rec : Option Record) (file : Option FileId) (done : Bool) → Moves rs rec (cond done (ended_by rs file) rs)
  ended_moves rec None true = all_same rec
  ended_moves rec (Some gone) true = (λ file old new was is. inl (ap (λ (r : Running). in_force r r.choice) (find_left rs gone file new is old was)))
  ended_moves rec file false = all_same rec

  after_moves : (rec : Option Record) (volumes : Volumes) (who : Asker) (nodes : Option (List NodeId)) (request : MetaReq) (told : MetaAnswer)
      → Moves rs rec (running_after times volumes rs who nodes request told)
  after_moves rec volumes who nodes (ask.Change path next) told = begun_moves rec volumes who nodes path next (beginning_on volumes rs who nodes path next) refl
  after_moves rec volumes who nodes (ask.Unlink path) told = ended_moves rec (file_at volumes (path_in path)) (is_done told)
  after_moves rec volumes who nodes _ told = all_same rec

  -- ---- what members answer, and a Wake

  -- a change in the place of one that is told alike
  alike_moves : (rec : Option Record) (file : FileId) (r new : Running) → running_of rs file ≡ Some r → Alike new r → Moves rs rec (with_running rs new)
  alike_moves rec file r new is alike = put_moves rec new own
    where
      its : file_of new ≡ file
      its = ap (λ (x : Running). x.change.file) alike ∙ (its_own file r is).1

      own : (old : Running) → running_of rs (file_of new) ≡ Some old → Goes rec (file_of new) old new
      own old was =
          let same : r ≡ old = one_change file r old is (ap (running_of rs) (sym its) ∙ was) in
          inl (alike_force new r alike ∙ ap (λ (x : Running). in_force x x.choice) same)

  closed_moves : (now : ℕ) (from : NodeId) (version : ℕ) (head : FileHead) (file : FileId) (o : Option Running) → running_of rs file ≡ o
      → Moves rs (closing_under rs now from version head o).turned.rec (closing_under rs now from version head o).running
  closed_moves now from version head file None is = all_same None
  closed_moves now from version head file (Some r) is =
      alike_moves None file r (counts_closing r now from version head r.choice) is (closed_alike r now from version head r.choice)

  installed_moves : (from : NodeId) (version : ℕ) (file : FileId) (r : Running) (o : Option Choice) → running_of rs file ≡ Some r → r.choice ≡ o
      → Moves rs (installation_under rs from version r o).turned.rec (installation_under rs from version r o).running
  installed_moves from version file r None is has = all_same None
  installed_moves from version file r (Some it) is has = at (installed_by r.change from version).wins r.listed refl
    where
      after : Running
      after = record { change = (installed_by r.change from version).change; choice = r.choice; listed = r.listed }

      ended : Running
      ended = record after { listed = true }

      choice_own : IsChoiceOf r.change it
      choice_own = subst (λ (c : Option Choice). IsChosen r.change c) has (order.sound r (its_own file r is).0).choice

      its : file_of ended ≡ file
      its = ap (λ (x : Running). x.change.file) (installed_alike r.change r.choice true from version) ∙ (its_own file r is).1

      force_old : r.listed ≡ false → (o : Option Choice) → in_force r o ≡ r.change.before
      force_old unlisted None = refl
      force_old unlisted (Some c) = ap (λ (t : Bool). if t then c.location else r.change.before) unlisted

      force_new : in_force ended ended.choice ≡ it.location
      force_new = ap (in_force ended) has

      rises : r.listed ≡ false → Rises (Some (listed it)) (file_of ended) (in_force r r.choice) (in_force ended ended.choice)
      rises unlisted =
          record {
            choice = it;
            kept = refl;
            own = choice_own.file ∙ (its_own file r is).1 ∙ sym its;
            place = force_new;
            next =
                ap (λ (place : Location). place.version) (force_new ∙ choice_own.location)
                ∙ ap (λ (place : Location). place.version + 1) (sym (force_old unlisted r.choice));
          }

      own : r.listed ≡ false → (old : Running) → running_of rs (file_of ended) ≡ Some old → Goes (Some (listed it)) (file_of ended) old ended
      own unlisted old was =
          let same : r ≡ old = one_change file r old is (ap (running_of rs) (sym its) ∙ was) in
          subst (λ (x : Running). Goes (Some (listed it)) (file_of ended) x ended) same (inr (rises unlisted))

      stays : Moves rs None (with_running rs after)
      stays = alike_moves None file r after is (installed_alike r.change r.choice r.listed from version)

      at : (wins unlisted : Bool) → r.listed ≡ unlisted
          → Moves rs (cond (wins && not unlisted) (lists rs after it) (unmoved (with_running rs after))).turned.rec (cond (wins && not unlisted) (lists rs after it) (unmoved (with_running rs after))).running
      at true false unlisted = put_moves (Some (listed it)) ended (own unlisted)
      at true true unlisted = stays
      at false unlisted is_unlisted = stays

  installed_of_moves : (from : NodeId) (version : ℕ) (file : FileId) (o : Option Running) → running_of rs file ≡ o
      → Moves rs (installation_of rs from version o).turned.rec (installation_of rs from version o).running
  installed_of_moves from version file None is = all_same None
  installed_of_moves from version file (Some r) is = installed_moves from version file r r.choice is refl

  wanted_moves : (from : NodeId) (o : Option Running) → Moves rs (wanted_of rs from o).turned.rec (wanted_of rs from o).running
  wanted_moves from None = all_same None
  wanted_moves from (Some r) = by_choice r.choice
    where
      by_choice : (o : Option Choice) → Moves rs (wanted_under rs from o).turned.rec (wanted_under rs from o).running
      by_choice None = all_same None
      by_choice (Some it) = all_same None

  woken_moves : (now : ℕ) (step : Step) → WakeKeeps now rs step → Moves rs step.turned.rec step.running
  woken_moves now step (no_choice _ none same) = subst (Moves rs step.turned.rec) (sym same) (all_same step.turned.rec)
  woken_moves now step (one_choice _ it kept h) =
      subst (Moves rs step.turned.rec) (sym place) (put_moves step.turned.rec new own)
    where
      new : Running
      new = record { change = h.file.change; choice = Some it; listed = h.file.listed }

      place : step.running ≡ with_running rs new
      place =
          h.is ∙ sym (put_over h.earlier h.later h.file new refl (subst Rise h.was order.rise))
          ∙ ap (λ (all : List Running). with_running all new) (sym h.was)

      there : Has h.file rs
      there = subst (λ (all : List Running). Has h.file all) (sym h.was) (has_middle h.earlier h.later h.file)

      unlisted : h.file.listed ≡ false
      unlisted = by h.file.listed refl
        where
          by : (t : Bool) → h.file.listed ≡ t → h.file.listed ≡ false
          by false is = is
          by true is = absurd (let some : is_some h.file.choice ≡ true = (order.sound h.file there).ended is in let none = h.free in cc)

      force : (c : Option Choice) → in_force (record { change = h.file.change; choice = c; listed = h.file.listed }) c ≡ h.file.change.before
      force None = refl
      force (Some c) = ap (λ (t : Bool). if t then c.location else h.file.change.before) unlisted

      own : (old : Running) → running_of rs (file_of h.file) ≡ Some old → Goes step.turned.rec (file_of h.file) old new
      own old was =
          let at : running_of rs (file_of h.file) ≡ Some h.file =
          ap (λ (all : List Running). running_of all (file_of h.file)) h.was ∙ find_over h.earlier h.later h.file (subst Rise h.was order.rise) in
          let same : h.file ≡ old = one_change (file_of h.file) h.file old at was in
          inl (force (Some it) ∙ sym (force h.file.choice) ∙ ap (λ (x : Running). in_force x x.choice) same)

-- ---- the step

module _ (key : List ℕ) (times : TimeSettings) (s : ChangingMrc) (order : IsInOrder times s.running) where
  fresh_moves : (client : NodeId) (number : ℕ) (nodes : Option (List NodeId)) (who : Asker) (wanted : MetaReq)
      → Moves s.running (fresh_on key times s client number nodes who wanted).turned.rec (fresh_on key times s client number nodes who wanted).server.running
  fresh_moves client number nodes who wanted = go (is_spent_with s.mrc.catalogue.volumes s.running who nodes wanted) (is_recorded_with key s.mrc.catalogue.volumes s.mrc.last wanted)
    where
      step : Bool → Bool → ChangingStep
      step spent records =
          cond spent (beside s.running (plain.nothing s.mrc)) (cond records (recorded_on key times s client number nodes who wanted)
          (beside s.running (plain.answered s.mrc client number (outcome_with key s.mrc.catalogue.volumes s.running who s.mrc.last None wanted).answer)))

      go : (spent records : Bool) → Moves s.running (step spent records).turned.rec (step spent records).server.running
      go true records = all_same times s.running order None
      go false true =
          after_moves times s.running order (recorded_on key times s client number nodes who wanted).turned.rec s.mrc.catalogue.volumes who nodes wanted
          (outcome_with key s.mrc.catalogue.volumes s.running who s.mrc.last nodes wanted).answer
      go false false = all_same times s.running order None

  stands_move : (client : NodeId) (number : ℕ) (who : Asker) (wanted : MetaReq) (stands : Standing MetaAnswer)
      → Moves s.running (by_standing key times s client number who wanted stands).turned.rec (by_standing key times s client number who wanted stands).server.running
  stands_move client number who wanted standing.Fresh = fresh_moves client number (nodes_with s.mrc.osds s.mrc.catalogue.volumes.next wanted) who wanted
  stands_move client number who wanted (standing.Again answer) = all_same times s.running order None
  stands_move client number who wanted standing.Older = all_same times s.running order None

  told_moves : (from : NodeId) (content : Payload) → Moves s.running (told_by key times s from content).turned.rec (told_by key times s from content).server.running
  told_moves from (payload.Meta number user group wanted) =
      stands_move from number (record { user = user; group = group }) wanted (standing_of s.mrc.catalogue.clients from number)
  told_moves from (payload.Closed file version head) = closed_moves times s.running order s.mrc.last from version head file (running_of s.running file) refl
  told_moves from (payload.Installed file version) = installed_of_moves times s.running order from version file (running_of s.running file) refl
  told_moves from (payload.Wanted file) = wanted_moves times s.running order from (running_of s.running file)
  told_moves from content = all_same times s.running order (told_by key times s from content).turned.rec

  handled_moves : (happens : Event) → Moves s.running (handled key times s happens).turned.rec (handled key times s happens).server.running
  handled_moves (event.Deliver msg) = told_moves msg.from msg.payload
  handled_moves event.Wake = woken_moves times s.running order s.mrc.last (woken s.mrc.last s.running) (wakes_once s.mrc.last s.running)
  handled_moves (event.Call call) = all_same times s.running order None

pub step_moves : (key : List ℕ) (times : TimeSettings) (s : ChangingMrc) (reading : ℕ) (happens : Event) → IsInOrder times s.running
    → Moves s.running (step_with_changes key times s reading happens).turned.rec (step_with_changes key times s reading happens).server.running
unfolding step_with_changes
step_moves key times s reading happens order = handled_moves key times (at_reading reading s) order happens
