-- what a step keeps, and the orders that it sends
use Rattle.std.proofs.Common.{◌≡◌, ℕ, inl, inr, List, [], ◌∷◌, ◌++◌, map, refl, sym, subst, Option, Some, None, Bool, true, false, cond}
use Rattle.std.specs.Prelude.{max, not, ◌&&◌}
use Rattle.xt_base.specs.MemberList.{has_node}
use Rattle.xt_base.specs.TimeSettings.{TimeSettings}
use Rattle.xt_base.specs.declared.ids.NodeId.{NodeId}
use Rattle.xt_base.specs.declared.ids.FileId.{FileId}
use Rattle.xt_messages.specs.declared.file.FileHead.{FileHead}
use Rattle.xt_messages.specs.declared.meta.MetaReq.{MetaReq}
use Rattle.xt_messages.specs.declared.meta.MetaAnswer.{MetaAnswer}
use Rattle.xt_messages.specs.declared.registry.RegistryRow.{RegistryRow}
use Rattle.xt_messages.specs.declared.registry.RegistryAnswer.{RegistryAnswer}
use Rattle.xt_messages.specs.declared.registry.RegistryAnswer.TheVariants as told
use Rattle.xt_messages.specs.declared.message.Payload.{Payload}
use Rattle.xt_messages.specs.declared.message.Payload.TheVariants as payload
use Rattle.xt_messages.specs.declared.message.Msg.{Msg}
use Rattle.xt_messages.specs.declared.event.Event.{Event}
use Rattle.xt_messages.specs.declared.event.Event.TheVariants as event
use Rattle.xt_messages.specs.declared.record.Logged.TheVariants as logged
use Rattle.xt_messages.specs.declared.record.Record.{Record}
use Rattle.lease_safety.specs.State.{Has}
use Rattle.reply_cache.specs.declared.Standing.{Standing}
use Rattle.reply_cache.specs.declared.Standing.TheVariants as standing
use Rattle.reply_cache.specs.Standings.{standing_of}
use Rattle.volume_rows.specs.declared.Asker.{Asker}
use Rattle.server_rows.specs.Metadata as plain
use Rattle.change_rows.specs.declared.Choice.{Choice}
use Rattle.change_rows.specs.Changes.{installed_by, next_members}
use Rattle.change_rows.specs.Coordinating.{Running, Step, file_of, running_of, with_running, close_to, install_to, asked_again, to_close, to_install, reminders, all_reminders, ripe, has_number, chooses as makes_choice, passes, woken_by, woken, unmoved, lists, closing_under, installation_under, installation_of, wanted_under, wanted_of}
use Rattle.change_rows.specs.Laws.{WakeKeeps, nothing as no_choice, one as one_choice}
use Rattle.change_rows.proofs.Wakes.{wakes_once}
use Rattle.list_changes.specs.Requests.{nodes_with, outcome_with, is_recorded_with, is_spent_with}
use Rattle.list_changes.specs.Steps.{ChangingMrc, beside, recorded_on, fresh_on, by_standing, told_by, wakes, handled, at_reading, step_with_changes}
use Rattle.list_changes.specs.Laws.{Says, IsOrdered, AreOrdered, StepKeeps, keeps_nothing, keeps_request, keeps_choice, keeps_list}
use Rattle.list_changes.proofs.Order.{has_middle, IsFound, found}

-- ---- what a step keeps

module _ (key : List ℕ) (times : TimeSettings) (s : ChangingMrc) (happens : Event) where
  abbrev Keeps : Option Record → Type 0
  Keeps rec = StepKeeps s.mrc.last happens s.running rec

  fresh_keeps : (client : NodeId) (number : ℕ) (nodes : Option (List NodeId)) (who : Asker) (wanted : MetaReq)
      → Keeps (fresh_on key times s client number nodes who wanted).turned.rec
  fresh_keeps client number nodes who wanted = go (is_spent_with s.mrc.catalogue.volumes s.running who nodes wanted) (is_recorded_with key s.mrc.catalogue.volumes s.mrc.last wanted)
    where
      go : (spent records : Bool)
          → Keeps (cond spent (beside s.running (plain.nothing s.mrc)) (cond records (recorded_on key times s client number nodes who wanted)
          (beside s.running (plain.answered s.mrc client number (outcome_with key s.mrc.catalogue.volumes s.running who s.mrc.last None wanted).answer)))).turned.rec
      go true records = keeps_nothing
      go false true = keeps_request client number s.mrc.last nodes (logged.Meta who.user who.group wanted)
      go false false = keeps_nothing

  stands_keep : (client : NodeId) (number : ℕ) (who : Asker) (wanted : MetaReq) (stands : Standing MetaAnswer)
      → Keeps (by_standing key times s client number who wanted stands).turned.rec
  stands_keep client number who wanted standing.Fresh = fresh_keeps client number (nodes_with s.mrc.osds s.mrc.catalogue.volumes.next wanted) who wanted
  stands_keep client number who wanted (standing.Again answer) = keeps_nothing
  stands_keep client number who wanted standing.Older = keeps_nothing

  rows_keep : (from : NodeId) (rows : List RegistryRow) → Keeps (plain.rows_heard s.mrc from rows).turned.rec
  rows_keep from rows = go (plain.is_dir from)
    where
      go : (dir : Bool) → Keeps (cond dir (plain.nothing (record s.mrc { osds = plain.nodes_of rows })) (plain.nothing s.mrc)).turned.rec
      go true = keeps_nothing
      go false = keeps_nothing

  answer_keeps : (from : NodeId) (number : ℕ) (answer : RegistryAnswer) → Keeps (plain.told_by key s.mrc from (payload.RegistryReply number answer)).turned.rec
  answer_keeps from number (told.Rows rows) = rows_keep from rows
  answer_keeps from number _ = keeps_nothing

  closed_keeps : (now : ℕ) (from : NodeId) (version : ℕ) (head : FileHead) (o : Option Running) → Keeps (closing_under s.running now from version head o).turned.rec
  closed_keeps now from version head None = keeps_nothing
  closed_keeps now from version head (Some r) = keeps_nothing

  installed_keeps : (from : NodeId) (file : FileId) (version : ℕ) → Says happens from (payload.Installed file version)
      → (o : Option Running) → running_of s.running file ≡ o → Keeps (installation_of s.running from version o).turned.rec
  installed_keeps from file version says None is = keeps_nothing
  installed_keeps from file version says (Some r) is = by_choice r.choice refl
    where
      place : IsFound s.running file r
      place = found s.running file r is

      own : Has r s.running
      own = subst (λ (rs : List Running). Has r rs) (sym place.split) (has_middle place.earlier place.later r)

      after : Running
      after = record { change = (installed_by r.change from version).change; choice = r.choice; listed = r.listed }

      by_choice : (o : Option Choice) → r.choice ≡ o → Keeps (installation_under s.running from version r o).turned.rec
      by_choice None has = keeps_nothing
      by_choice (Some it) has = at (installed_by r.change from version).wins r.listed refl refl
        where
          at : (wins ended : Bool) → (installed_by r.change from version).wins ≡ wins → r.listed ≡ ended
              → Keeps (cond (wins && not ended) (lists s.running after it) (unmoved (with_running s.running after))).turned.rec
          at true true won is_listed = keeps_nothing
          at true false won is_listed =
              keeps_list r it from version own has is_listed (subst (λ (f : FileId). Says happens from (payload.Installed f version)) (sym place.same) says) won
          at false ended won is_listed = keeps_nothing

  wanted_keeps : (from : NodeId) (o : Option Running) → Keeps (wanted_of s.running from o).turned.rec
  wanted_keeps from None = keeps_nothing
  wanted_keeps from (Some r) = by_choice r.choice
    where
      by_choice : (o : Option Choice) → Keeps (wanted_under s.running from o).turned.rec
      by_choice None = keeps_nothing
      by_choice (Some it) = keeps_nothing

  woken_keeps : happens ≡ event.Wake → (step : Step) → WakeKeeps s.mrc.last s.running step → Keeps step.turned.rec
  woken_keeps wakes step (no_choice _ none same) = subst (StepKeeps s.mrc.last happens s.running) (sym none) keeps_nothing
  woken_keeps wakes step (one_choice _ it kept h) =
      subst (StepKeeps s.mrc.last happens s.running) (sym kept)
      (keeps_choice h.file it (subst (λ (rs : List Running). Has h.file rs) (sym h.was) (has_middle h.earlier h.later h.file)) h.free wakes h.ready h.numbered)

told_keeps : (key : List ℕ) (times : TimeSettings) (s : ChangingMrc) (msg : Msg) (content : Payload) → msg.payload ≡ content
    → StepKeeps s.mrc.last (event.Deliver msg) s.running (told_by key times s msg.from content).turned.rec
told_keeps key times s msg (payload.Meta number user group wanted) is =
    stands_keep key times s (event.Deliver msg) msg.from number (record { user = user; group = group }) wanted (standing_of s.mrc.catalogue.clients msg.from number)
told_keeps key times s msg (payload.Closed file version head) is = closed_keeps key times s (event.Deliver msg) s.mrc.last msg.from version head (running_of s.running file)
told_keeps key times s msg (payload.Installed file version) is = installed_keeps key times s (event.Deliver msg) msg.from file version (refl, is) (running_of s.running file) refl
told_keeps key times s msg (payload.Wanted file) is = wanted_keeps key times s (event.Deliver msg) msg.from (running_of s.running file)
told_keeps key times s msg (payload.RegistryReply number answer) is = answer_keeps key times s (event.Deliver msg) msg.from number answer
told_keeps key times s msg _ is = keeps_nothing

handled_keeps : (key : List ℕ) (times : TimeSettings) (s : ChangingMrc) (happens : Event) → StepKeeps s.mrc.last happens s.running (handled key times s happens).turned.rec
handled_keeps key times s (event.Deliver msg) = told_keeps key times s msg msg.payload refl
handled_keeps key times s event.Wake = woken_keeps key times s event.Wake refl (woken s.mrc.last s.running) (wakes_once s.mrc.last s.running)
handled_keeps key times s (event.Call call) = keeps_nothing

pub step_keeps : (key : List ℕ) (times : TimeSettings) (s : ChangingMrc) (reading : ℕ) (happens : Event)
    → StepKeeps (max reading s.mrc.last) happens s.running (step_with_changes key times s reading happens).turned.rec
unfolding step_with_changes
step_keeps key times s reading happens = handled_keeps key times (at_reading reading s) happens

-- ---- the orders that a step sends

ordered_more : (rs more : List Running) → ((r : Running) → Has r rs → Has r more) → (to : NodeId) (content : Payload) → IsOrdered rs to content → IsOrdered more to content
ordered_more rs more all to (payload.Install file location head source) h = (h.0, all h.0 h.1, h.2)
ordered_more rs more all to (payload.Close file version) h = (h.0, all h.0 h.1, h.2, h.3, h.4)
ordered_more rs more all to _ h = tt

all_more : (rs more : List Running) → ((r : Running) → Has r rs → Has r more) → (outs : List Msg) → AreOrdered rs outs → AreOrdered more outs
all_more rs more all [] h = tt
all_more rs more all (msg ∷ msgs) h = (ordered_more rs more all msg.to msg.payload h.0, all_more rs more all msgs h.1)

both_ordered : (rs : List Running) (first next : List Msg) → AreOrdered rs first → AreOrdered rs next → AreOrdered rs (first ++ next)
both_ordered rs [] next h others = others
both_ordered rs (msg ∷ msgs) next h others = (h.0, both_ordered rs msgs next h.1 others)

-- Installs of a choice, and Closes of a file without one
installs_ordered : (rs : List Running) (r : Running) (it : Choice) → Has r rs → r.choice ≡ Some it → (nodes : List NodeId) → AreOrdered rs (map (install_to it) nodes)
installs_ordered rs r it h has [] = tt
installs_ordered rs r it h has (node ∷ nodes) = ((r, h, has), installs_ordered rs r it h has nodes)

closes_ordered : (rs : List Running) (r : Running) → Has r rs → r.choice ≡ None → (nodes : List NodeId) → AreOrdered rs (map (close_to (file_of r) r.change.before.version) nodes)
closes_ordered rs r h none [] = tt
closes_ordered rs r h none (node ∷ nodes) = ((r, h, none, refl, refl), closes_ordered rs r h none nodes)

reminders_ordered : (rs : List Running) (r : Running) → Has r rs → AreOrdered rs (reminders r)
reminders_ordered rs r h = by_choice r.choice refl
  where
    by_choice : (o : Option Choice) → r.choice ≡ o → AreOrdered rs (asked_again r.change o)
    by_choice None none = closes_ordered rs r h none (to_close r.change)
    by_choice (Some it) has = installs_ordered rs r it h has (to_install r.change)

all_reminders_ordered : (rs later : List Running) → ((r : Running) → Has r later → Has r rs) → AreOrdered rs (all_reminders later)
all_reminders_ordered rs [] all = tt
all_reminders_ordered rs (r ∷ later) all =
    both_ordered rs (reminders r) (all_reminders later) (reminders_ordered rs r (all r (inl refl))) (all_reminders_ordered rs later (λ x h. all x (inr h)))

passes_ordered : (r : Running) (outs : List Msg) (later : Step) → AreOrdered (r ∷ later.running) outs → AreOrdered later.running later.turned.outs
    → AreOrdered (passes r outs later).running (passes r outs later).turned.outs
passes_ordered r outs later own rest =
    both_ordered (r ∷ later.running) outs later.turned.outs own (all_more later.running (r ∷ later.running) (λ x h. inr h) later.turned.outs rest)

one_ordered : (r : Running) (rs : List Running) (later : Step) (o : Option Choice) → AreOrdered later.running later.turned.outs
    → AreOrdered (woken_by r rs later o).running (woken_by r rs later o).turned.outs
one_ordered r rs later None rest = passes_ordered r (reminders r) later (reminders_ordered (r ∷ later.running) r (inl refl)) rest
one_ordered r rs later (Some it) rest = at (has_number it)
  where
    new : Running
    new = record { change = r.change; choice = Some it; listed = r.listed }

    at : (t : Bool) → AreOrdered (cond t (makes_choice r rs it) (passes r [] later)).running (cond t (makes_choice r rs it) (passes r [] later)).turned.outs
    at true =
        both_ordered (new ∷ rs) (map (install_to it) (next_members r.change)) (all_reminders rs) (installs_ordered (new ∷ rs) new it (inl refl) refl (next_members r.change))
        (all_reminders_ordered (new ∷ rs) rs (λ x h. inr h))
    at false = passes_ordered r [] later tt rest

woken_ordered : (now : ℕ) (rs : List Running) → AreOrdered (woken now rs).running (woken now rs).turned.outs
woken_ordered now [] = tt
woken_ordered now (r ∷ rs) = one_ordered r rs (woken now rs) (ripe now r) (woken_ordered now rs)

module _ (key : List ℕ) (times : TimeSettings) (s : ChangingMrc) where
  fresh_ordered : (rs : List Running) (client : NodeId) (number : ℕ) (nodes : Option (List NodeId)) (who : Asker) (wanted : MetaReq)
      → AreOrdered rs (fresh_on key times s client number nodes who wanted).turned.outs
  fresh_ordered rs client number nodes who wanted = go (is_spent_with s.mrc.catalogue.volumes s.running who nodes wanted) (is_recorded_with key s.mrc.catalogue.volumes s.mrc.last wanted)
    where
      go : (spent records : Bool)
          → AreOrdered rs (cond spent (beside s.running (plain.nothing s.mrc)) (cond records (recorded_on key times s client number nodes who wanted)
          (beside s.running (plain.answered s.mrc client number (outcome_with key s.mrc.catalogue.volumes s.running who s.mrc.last None wanted).answer)))).turned.outs
      go true records = tt
      go false true = (tt, tt)
      go false false = (tt, tt)

  stands_ordered : (rs : List Running) (client : NodeId) (number : ℕ) (who : Asker) (wanted : MetaReq) (stands : Standing MetaAnswer)
      → AreOrdered rs (by_standing key times s client number who wanted stands).turned.outs
  stands_ordered rs client number who wanted standing.Fresh = fresh_ordered rs client number (nodes_with s.mrc.osds s.mrc.catalogue.volumes.next wanted) who wanted
  stands_ordered rs client number who wanted (standing.Again answer) = (tt, tt)
  stands_ordered rs client number who wanted standing.Older = tt

  rows_ordered : (rs : List Running) (from : NodeId) (rows : List RegistryRow) → AreOrdered rs (plain.rows_heard s.mrc from rows).turned.outs
  rows_ordered rs from rows = go (plain.is_dir from)
    where
      go : (dir : Bool) → AreOrdered rs (cond dir (plain.nothing (record s.mrc { osds = plain.nodes_of rows })) (plain.nothing s.mrc)).turned.outs
      go true = tt
      go false = tt

  answer_ordered : (rs : List Running) (from : NodeId) (number : ℕ) (answer : RegistryAnswer) → AreOrdered rs (plain.told_by key s.mrc from (payload.RegistryReply number answer)).turned.outs
  answer_ordered rs from number (told.Rows rows) = rows_ordered rs from rows
  answer_ordered rs from number _ = tt

  closed_ordered : (rs : List Running) (now : ℕ) (from : NodeId) (version : ℕ) (head : FileHead) (o : Option Running) → AreOrdered rs (closing_under s.running now from version head o).turned.outs
  closed_ordered rs now from version head None = tt
  closed_ordered rs now from version head (Some r) = tt

  installed_ordered : (rs : List Running) (from : NodeId) (version : ℕ) (o : Option Running) → AreOrdered rs (installation_of s.running from version o).turned.outs
  installed_ordered rs from version None = tt
  installed_ordered rs from version (Some r) = by_choice r.choice
    where
      after : Running
      after = record { change = (installed_by r.change from version).change; choice = r.choice; listed = r.listed }

      by_choice : (o : Option Choice) → AreOrdered rs (installation_under s.running from version r o).turned.outs
      by_choice None = tt
      by_choice (Some it) = at ((installed_by r.change from version).wins && not r.listed)
        where
          at : (t : Bool) → AreOrdered rs (cond t (lists s.running after it) (unmoved (with_running s.running after))).turned.outs
          at true = tt
          at false = tt

  wanted_ordered : (from : NodeId) (file : FileId) (o : Option Running) → running_of s.running file ≡ o
      → AreOrdered (wanted_of s.running from o).running (wanted_of s.running from o).turned.outs
  wanted_ordered from file None is = tt
  wanted_ordered from file (Some r) is = by_choice r.choice refl
    where
      place : IsFound s.running file r
      place = found s.running file r is

      own : Has r s.running
      own = subst (λ (rs : List Running). Has r rs) (sym place.split) (has_middle place.earlier place.later r)

      by_choice : (o : Option Choice) → r.choice ≡ o → AreOrdered (wanted_under s.running from o).running (wanted_under s.running from o).turned.outs
      by_choice None none = tt
      by_choice (Some it) has = at (has_node it.location.members from.0)
        where
          at : (t : Bool) → AreOrdered s.running (cond t (install_to it from ∷ []) [])
          at true = ((r, own, has), tt)
          at false = tt

  told_ordered : (from : NodeId) (content : Payload) → AreOrdered (told_by key times s from content).server.running (told_by key times s from content).turned.outs
  told_ordered from (payload.Meta number user group wanted) =
      stands_ordered (told_by key times s from (payload.Meta number user group wanted)).server.running from number (record { user = user; group = group }) wanted
      (standing_of s.mrc.catalogue.clients from number)
  told_ordered from (payload.Closed file version head) =
      closed_ordered (told_by key times s from (payload.Closed file version head)).server.running s.mrc.last from version head (running_of s.running file)
  told_ordered from (payload.Installed file version) =
      installed_ordered (told_by key times s from (payload.Installed file version)).server.running from version (running_of s.running file)
  told_ordered from (payload.Wanted file) = wanted_ordered from file (running_of s.running file) refl
  told_ordered from (payload.RegistryReply number answer) = answer_ordered s.running from number answer
  told_ordered from _ = tt

  handled_ordered : (happens : Event) → AreOrdered (handled key times s happens).server.running (handled key times s happens).turned.outs
  handled_ordered (event.Deliver msg) = told_ordered msg.from msg.payload
  handled_ordered event.Wake = (tt, woken_ordered s.mrc.last s.running)
  handled_ordered (event.Call call) = tt

pub step_ordered : (key : List ℕ) (times : TimeSettings) (s : ChangingMrc) (reading : ℕ) (happens : Event)
    → AreOrdered (step_with_changes key times s reading happens).server.running (step_with_changes key times s reading happens).turned.outs
unfolding step_with_changes
step_ordered key times s reading happens = handled_ordered key times (at_reading reading s) happens
