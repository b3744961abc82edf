-- what each step of a metadata server marks, keeps and sends
use Rattle.std.proofs.Common.{◌≡◌, ◌∙◌, ℕ, refl, ap, sym, subst, Bool, true, false, cond, List, [], ◌∷◌, ◌++◌, map, Option, Some, None}
use Rattle.std.specs.Prelude.{max, not, ◌&&◌}
use Rattle.xt_base.specs.MemberList.{has_node}
use Rattle.xt_base.specs.TimeSettings.{TimeSettings}
use Rattle.xt_base.specs.declared.ids.NodeId.{NodeId}
use Rattle.xt_base.specs.declared.ids.FileId.{FileId}
use Rattle.xt_messages.specs.declared.file.FileHead.{FileHead}
use Rattle.xt_messages.specs.declared.meta.MetaReq.{MetaReq}
use Rattle.xt_messages.specs.declared.meta.MetaAnswer.{MetaAnswer}
use Rattle.xt_messages.specs.declared.registry.RegistryRow.{RegistryRow}
use Rattle.xt_messages.specs.declared.registry.RegistryAnswer.{RegistryAnswer}
use Rattle.xt_messages.specs.declared.registry.RegistryAnswer.TheVariants as told
use Rattle.xt_messages.specs.declared.message.Msg.{Msg}
use Rattle.xt_messages.specs.declared.message.Payload.{Payload}
use Rattle.xt_messages.specs.declared.message.Payload.TheVariants as payload
use Rattle.xt_messages.specs.declared.event.Event.{Event}
use Rattle.xt_messages.specs.declared.event.Event.TheVariants as event
use Rattle.xt_messages.specs.declared.record.Record.TheVariants as kept
use Rattle.reply_cache.specs.declared.Standing.{Standing}
use Rattle.reply_cache.specs.declared.Standing.TheVariants as standing
use Rattle.reply_cache.specs.Standings.{standing_of}
use Rattle.volume_rows.specs.declared.Asker.{Asker}
use Rattle.server_rows.specs.Metadata as plain
use Rattle.server_rows.specs.Metadata.{MrcState}
use Rattle.change_rows.specs.declared.Choice.{Choice}
use Rattle.change_rows.specs.Changes.{ChangeState, installed_by, next_members}
use Rattle.change_rows.specs.Coordinating.{Running, Step, running_of, with_running, close_to, install_to, asked_again, to_close, to_install, reminders, all_reminders, ripe, has_number, chooses, passes, wanted_from, woken_by, woken, unmoved, lists, closing_under, installation_under, installation_of, wanted_under, wanted_of}
use Rattle.list_changes.specs.Requests.{nodes_with, outcome_with, is_recorded_with, is_spent_with}
use Rattle.list_changes.specs.Steps.{ChangingMrc, ChangingStep, alone, beside, recorded_on, fresh_on, by_standing, told_by, wakes, handled, at_reading, step_with_changes}
use Rattle.xt_messages.specs.declared.event.Mark.{Mark}
use Rattle.world_spec.specs.NodeSteps.{files_marked}
use Rattle.server_says.specs.Says.{AreFileMarks, ListsNone, of_files, of_list, AreServed, places, StepSays, ServersSay}
use Rattle.server_says.proofs.Making.{adds_none, after_adds, made_marks}

none_listed : ListsNone None
none_listed file version is = absurd (let none : None ≡ Some (kept.Listed file version) = is in cc)

-- ---- messages

all_served : (first next : List Msg) → AreServed first → AreServed next → AreServed (first ++ next)
all_served [] next h others = others
all_served (m ∷ ms) next h others = (h.0, all_served ms next h.1 others)

closes_served : (file : FileId) (version : ℕ) (nodes : List NodeId) → AreServed (map (close_to file version) nodes)
closes_served file version [] = tt
closes_served file version (node ∷ nodes) = (tt, closes_served file version nodes)

installs_served : (choice : Choice) (nodes : List NodeId) → AreServed (map (install_to choice) nodes)
installs_served choice [] = tt
installs_served choice (node ∷ nodes) = (tt, installs_served choice nodes)

again_served : (c : ChangeState) (o : Option Choice) → AreServed (asked_again c o)
again_served c None = closes_served c.file c.before.version (to_close c)
again_served c (Some choice) = installs_served choice (to_install c)

all_again : (rs : List Running) → AreServed (all_reminders rs)
all_again [] = tt
all_again (r ∷ rs) = all_served (reminders r) (all_reminders rs) (again_served r.change r.choice) (all_again rs)

wanted_served : (from : NodeId) (choice : Choice) → AreServed (wanted_from from choice)
wanted_served from choice = at (has_node choice.location.members from.0)
  where
    at : (b : Bool) → AreServed (cond b (install_to choice from ∷ []) [])
    at true = (tt, tt)
    at false = tt

-- ---- a Wake goes through the files with a change

pub record WakeSays (step : Step) : Type 0 where
  pub rec : ListsNone step.turned.rec
  pub marks : step.turned.marks ≡ []
  pub outs : AreServed step.turned.outs

passes_says : (r : Running) (outs : List Msg) (later : Step) → AreServed outs → WakeSays later → WakeSays (passes r outs later)
passes_says r outs later own rest = record { rec = rest.rec; marks = rest.marks; outs = all_served outs later.turned.outs own rest.outs }

by_says : (r : Running) (rs : List Running) (later : Step) (o : Option Choice) → WakeSays later → WakeSays (woken_by r rs later o)
by_says r rs later None rest = passes_says r (reminders r) later (again_served r.change r.choice) rest
by_says r rs later (Some choice) rest = at (has_number choice)
  where
    at : (b : Bool) → WakeSays (cond b (chooses r rs choice) (passes r [] later))
    at true =
        record {
          rec = λ file version is. absurd (cc);
          marks = refl;
          outs = all_served (map (install_to choice) (next_members r.change)) (all_reminders rs) (installs_served choice (next_members r.change)) (all_again rs);
        }
    at false = passes_says r [] later tt rest

woken_says : (now : ℕ) (rs : List Running) → WakeSays (woken now rs)
woken_says now [] = record { rec = none_listed; marks = refl; outs = tt }
woken_says now (r ∷ rs) = by_says r rs (woken now rs) (ripe now r) (woken_says now rs)

-- ---- steps

module _ (key : List ℕ) (times : TimeSettings) (s : ChangingMrc) where
  abbrev Says : ChangingStep → Type 0
  Says step = StepSays s.mrc.last s step

  -- nothing comes of it but perhaps an answer
  rests : (osds : List NodeId) → Says (beside s.running (plain.nothing (record s.mrc { osds = osds })))
  rests osds = record { last = refl; marks = of_files tt none_listed; outs = tt; made = λ rises. adds_none s.mrc.catalogue.made }

  nothing_says : Says (beside s.running (plain.nothing s.mrc))
  nothing_says = record { last = refl; marks = of_files tt none_listed; outs = tt; made = λ rises. adds_none s.mrc.catalogue.made }

  answers : (client : NodeId) (number : ℕ) (what : MetaAnswer) → Says (beside s.running (plain.answered s.mrc client number what))
  answers client number what = record { last = refl; marks = of_files tt none_listed; outs = (tt, tt); made = λ rises. adds_none s.mrc.catalogue.made }

  -- a request that is kept
  records : (client : NodeId) (number : ℕ) (nodes : Option (List NodeId)) (who : Asker) (request : MetaReq) → Says (recorded_on key times s client number nodes who request)
  records client number nodes who request =
      let volumes = s.mrc.catalogue.volumes in
      let told = (outcome_with key volumes s.running who s.mrc.last nodes request).answer in
      record {
        last = refl;
        marks = of_files (made_marks volumes.next nodes request told) (λ file version is. absurd (cc));
        outs = (tt, tt);
        made = λ rises. after_adds s.mrc.catalogue.made volumes s.mrc.last nodes request told rises;
      }

  fresh_says : (client : NodeId) (number : ℕ) (nodes : Option (List NodeId)) (who : Asker) (wanted : MetaReq) → Says (fresh_on key times s client number nodes who wanted)
  fresh_says client number nodes who wanted = go (is_spent_with s.mrc.catalogue.volumes s.running who nodes wanted) (is_recorded_with key s.mrc.catalogue.volumes s.mrc.last wanted)
    where
      go : (spent recorded : Bool)
          → Says (cond spent (beside s.running (plain.nothing s.mrc)) (cond recorded (recorded_on key times s client number nodes who wanted)
          (beside s.running (plain.answered s.mrc client number (outcome_with key s.mrc.catalogue.volumes s.running who s.mrc.last None wanted).answer))))
      go true recorded = nothing_says
      go false true = records client number nodes who wanted
      go false false = answers client number (outcome_with key s.mrc.catalogue.volumes s.running who s.mrc.last None wanted).answer

  stands_says : (client : NodeId) (number : ℕ) (who : Asker) (wanted : MetaReq) (how : Standing MetaAnswer) → Says (by_standing key times s client number who wanted how)
  stands_says client number who wanted standing.Fresh = fresh_says client number (nodes_with s.mrc.osds s.mrc.catalogue.volumes.next wanted) who wanted
  stands_says client number who wanted (standing.Again what) = answers client number what
  stands_says client number who wanted standing.Older = nothing_says

  -- what the directory service lists
  heard_says : (from : NodeId) (rows : List RegistryRow) → Says (beside s.running (plain.rows_heard s.mrc from rows))
  heard_says from rows = go (plain.is_dir from)
    where
      go : (dir : Bool) → Says (beside s.running (cond dir (plain.nothing (record s.mrc { osds = plain.nodes_of rows })) (plain.nothing s.mrc)))
      go true = rests (plain.nodes_of rows)
      go false = nothing_says

  listing_says : (from : NodeId) (number : ℕ) (what : RegistryAnswer) → Says (beside s.running (plain.told_by key s.mrc from (payload.RegistryReply number what)))
  listing_says from number (told.Rows rows) = heard_says from rows
  listing_says from number _ = nothing_says

  -- what the changes do alone
  abbrev Alone : Step → Type 0
  Alone step = Says (alone s.mrc step)

  unmoved_says : (running : List Running) → Alone (unmoved running)
  unmoved_says running = record { last = refl; marks = of_files tt none_listed; outs = tt; made = λ rises. adds_none s.mrc.catalogue.made }

  closing_says : (now : ℕ) (from : NodeId) (version : ℕ) (head : FileHead) (o : Option Running) → Alone (closing_under s.running now from version head o)
  closing_says now from version head None = unmoved_says s.running
  closing_says now from version head (Some r) = unmoved_says _

  lists_says : (r : Running) (choice : Choice) → Alone (lists s.running r choice)
  lists_says r choice = record { last = refl; marks = of_list choice refl refl; outs = tt; made = λ rises. adds_none s.mrc.catalogue.made }

  installs_says : (from : NodeId) (version : ℕ) (r : Running) (o : Option Choice) → Alone (installation_under s.running from version r o)
  installs_says from version r None = unmoved_says s.running
  installs_says from version r (Some choice) = at ((installed_by r.change from version).wins && not r.listed)
    where
      after : Running
      after = record { change = (installed_by r.change from version).change; choice = r.choice; listed = r.listed }

      at : (b : Bool) → Alone (cond b (lists s.running after choice) (unmoved (with_running s.running after)))
      at true = lists_says after choice
      at false = unmoved_says (with_running s.running after)

  installation_says : (from : NodeId) (version : ℕ) (o : Option Running) → Alone (installation_of s.running from version o)
  installation_says from version None = unmoved_says s.running
  installation_says from version (Some r) = installs_says from version r r.choice

  wants_says : (from : NodeId) (o : Option Choice) → Alone (wanted_under s.running from o)
  wants_says from None = unmoved_says s.running
  wants_says from (Some choice) = record { last = refl; marks = of_files tt none_listed; outs = wanted_served from choice; made = λ rises. adds_none s.mrc.catalogue.made }

  wanted_says : (from : NodeId) (o : Option Running) → Alone (wanted_of s.running from o)
  wanted_says from None = unmoved_says s.running
  wanted_says from (Some r) = wants_says from r.choice

  -- a Wake
  wakes_says : (step : Step) → WakeSays step → Says (wakes s step)
  wakes_says step is =
      record {
        last = refl;
        marks = of_files (subst AreFileMarks (sym is.marks) tt) is.rec;
        outs = (tt, is.outs);
        made = λ rises. adds_none s.mrc.catalogue.made ∙ ap (λ (marks : List Mark). places s.mrc.catalogue.made ++ files_marked marks) (sym is.marks);
      }

  told_says : (msg : Msg) (content : Payload) → Says (told_by key times s msg.from content)
  told_says msg (payload.Meta number user group wanted) =
      stands_says msg.from number (record { user = user; group = group }) wanted (standing_of s.mrc.catalogue.clients msg.from number)
  told_says msg (payload.Closed file version head) = closing_says s.mrc.last msg.from version head (running_of s.running file)
  told_says msg (payload.Installed file version) = installation_says msg.from version (running_of s.running file)
  told_says msg (payload.Wanted file) = wanted_says msg.from (running_of s.running file)
  told_says msg (payload.RegistryReply number what) = listing_says msg.from number what
  told_says msg _ = nothing_says

  handled_says : (happens : Event) → Says (handled key times s happens)
  handled_says (event.Deliver msg) = told_says msg msg.payload
  handled_says event.Wake = wakes_says (woken s.mrc.last s.running) (woken_says s.mrc.last s.running)
  handled_says (event.Call call) = nothing_says

pub step_says : ServersSay
unfolding step_with_changes
step_says key times s reading happens = again (handled_says key times (at_reading reading s) happens)
  where
    again : StepSays (max reading s.mrc.last) (at_reading reading s) (handled key times (at_reading reading s) happens) → StepSays (max reading s.mrc.last) s (handled key times (at_reading reading s) happens)
    again says = record { last = says.last; marks = says.marks; outs = says.outs; made = says.made }
