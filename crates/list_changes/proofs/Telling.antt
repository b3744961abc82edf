-- the record of a step says what the server knows after it
use Rattle.std.proofs.Common.{◌≡◌, ℕ, List, ◌∷◌, ◌++◌, refl, ap, sym, ◌∙◌, subst, Option, Some, None, Bool, true, false, cond}
use Rattle.std.specs.Prelude.{fold, not, ◌&&◌, if◌then◌else◌}
use Rattle.std.specs.Option.{option_map, option_to_list}
use Rattle.std.proofs.lemmas.List.Sums.{fold-append}
use Rattle.xt_base.specs.TimeSettings.{TimeSettings}
use Rattle.xt_base.specs.declared.ids.NodeId.{NodeId}
use Rattle.xt_base.specs.declared.ids.FileId.{FileId}
use Rattle.xt_messages.specs.declared.file.FileHead.{FileHead}
use Rattle.xt_messages.specs.declared.meta.MetaReq.{MetaReq}
use Rattle.xt_messages.specs.declared.meta.MetaAnswer.{MetaAnswer}
use Rattle.xt_messages.specs.declared.registry.RegistryRow.{RegistryRow}
use Rattle.xt_messages.specs.declared.registry.RegistryAnswer.{RegistryAnswer}
use Rattle.xt_messages.specs.declared.registry.RegistryAnswer.TheVariants as told
use Rattle.xt_messages.specs.declared.message.Payload.{Payload}
use Rattle.xt_messages.specs.declared.message.Payload.TheVariants as payload
use Rattle.xt_messages.specs.declared.event.Event.{Event}
use Rattle.xt_messages.specs.declared.event.Event.TheVariants as event
use Rattle.xt_messages.specs.declared.record.Record.{Record}
use Rattle.lease_safety.specs.State.{Has}
use Rattle.reply_cache.specs.declared.Standing.{Standing}
use Rattle.reply_cache.specs.declared.Standing.TheVariants as standing
use Rattle.reply_cache.specs.Standings.{standing_of}
use Rattle.volume_rows.specs.declared.Asker.{Asker}
use Rattle.volume_rows.specs.Requests.{Outcome}
use Rattle.server_rows.specs.Requests.{made_after}
use Rattle.server_rows.specs.Metadata as plain
use Rattle.server_rows.specs.Metadata.{Catalogue, MrcState}
use Rattle.reply_cache.specs.Standings.{with_answer}
use Rattle.change_rows.specs.declared.Choice.{Choice}
use Rattle.change_rows.specs.Changes.{ChangeState, installed_by, is_ready, choice_of, best_in, choice_at}
use Rattle.change_rows.specs.Coordinating.{Running, Step, file_of, running_of, with_running, after_choice, after_listing, with_choice, with_listed, on_running, lists, unmoved, woken, closing_under, counts_closing, installation_under, installation_of, wanted_under, wanted_of}
use Rattle.change_rows.specs.Laws.{Chooses, WakeKeeps, nothing, one}
use Rattle.change_rows.proofs.Wakes.{wakes_once}
use Rattle.list_changes.specs.Requests.{nodes_with, outcome_with, is_recorded_with, is_spent_with, running_after}
use Rattle.list_changes.specs.Recorded.{Recorded, uncounted, after_request_with, after_record_with, recorded_of}
use Rattle.list_changes.specs.Steps.{ChangingMrc, ChangingStep, known_in, beside, alone, recorded_on, fresh_on, by_standing, told_by, wakes, handled, at_reading, step_with_changes}
use Rattle.list_changes.specs.Laws.{Rise, IsChosen, IsInOrder}
use Rattle.list_changes.proofs.Order.{IsFound, found, put_over, find_over, has_middle}
use Rattle.list_changes.proofs.Uncounted.{untold, outcome_untold, spent_untold, after_untold, put_untold, choice_untold, listing_untold, middle_alike, closed_alike, installed_alike}

-- what is known after a step is what was known before it with what the record says
abbrev pub IsTold : List ℕ → TimeSettings → ChangingMrc → ChangingStep → Type 0
IsTold key times s step = known_in step.server ≡ fold (after_record_with key times) (known_in s) (option_to_list step.turned.rec)

-- ---- requests

module _ (key : List ℕ) (times : TimeSettings) (s : ChangingMrc) (client : NodeId) (number : ℕ) (nodes : Option (List NodeId)) (who : Asker) (request : MetaReq) where
  abbrev here : Recorded
  here = record { catalogue = s.mrc.catalogue; running = s.running }

  abbrev with_outcome : Outcome → Catalogue
  with_outcome o =
      record {
        volumes = o.volumes;
        made = made_after s.mrc.catalogue.volumes s.mrc.last nodes request o.answer s.mrc.catalogue.made;
        clients = with_answer s.mrc.catalogue.clients client number o.answer;
      }

  abbrev known_with : Catalogue → List Running → Recorded
  known_with catalogue running = record { catalogue = catalogue; running = running }

  -- what the record says of what is known, and what the server knows after it
  after_same : after_request_with key times (known_in s) client number s.mrc.last nodes who request
      ≡ known_with (after_request_with key times here client number s.mrc.last nodes who request).catalogue (untold (after_request_with key times here client number s.mrc.last nodes who request).running)
  after_same =
      let same = outcome_untold s.running key s.mrc.catalogue.volumes who s.mrc.last nodes request in
      ap (λ (o : Outcome). known_with (with_outcome o) (running_after times s.mrc.catalogue.volumes (untold s.running) who nodes request o.answer)) same
      ∙ ap (known_with (with_outcome (outcome_with key s.mrc.catalogue.volumes s.running who s.mrc.last nodes request)))
      (after_untold s.running times s.mrc.catalogue.volumes who nodes request (outcome_with key s.mrc.catalogue.volumes s.running who s.mrc.last nodes request).answer)

  recorded_told : is_spent_with s.mrc.catalogue.volumes s.running who nodes request ≡ false → is_recorded_with key s.mrc.catalogue.volumes s.mrc.last request ≡ true
      → IsTold key times s (recorded_on key times s client number nodes who request)
  recorded_told left kept =
      let after = after_request_with key times (known_in s) client number s.mrc.last nodes who request in
      sym after_same
      ∙ sym (ap (λ (b : Bool). cond b after (known_in s)) kept)
      ∙ sym (ap (λ (b : Bool). cond b (known_in s) (cond (is_recorded_with key s.mrc.catalogue.volumes s.mrc.last request) after (known_in s)))
      (spent_untold s.running s.mrc.catalogue.volumes who nodes request ∙ left))

  fresh_told : IsTold key times s (fresh_on key times s client number nodes who request)
  fresh_told = go (is_spent_with s.mrc.catalogue.volumes s.running who nodes request) (is_recorded_with key s.mrc.catalogue.volumes s.mrc.last request) refl refl where
    go : (spent records : Bool) → is_spent_with s.mrc.catalogue.volumes s.running who nodes request ≡ spent
        → is_recorded_with key s.mrc.catalogue.volumes s.mrc.last request ≡ records
        → IsTold key times s
        (cond spent (beside s.running (plain.nothing s.mrc))
        (cond records (recorded_on key times s client number nodes who request)
        (beside s.running (plain.answered s.mrc client number (outcome_with key s.mrc.catalogue.volumes s.running who s.mrc.last None request).answer))))
    go true records left kept = refl
    go false true left kept = recorded_told left kept
    go false false left kept = refl

standing_told : (key : List ℕ) (times : TimeSettings) (s : ChangingMrc) (client : NodeId) (number : ℕ) (who : Asker) (request : MetaReq) (stands : Standing MetaAnswer)
    → IsTold key times s (by_standing key times s client number who request stands)
standing_told key times s client number who request standing.Fresh =
    fresh_told key times s client number (nodes_with s.mrc.osds s.mrc.catalogue.volumes.next request) who request
standing_told key times s client number who request (standing.Again answer) = refl
standing_told key times s client number who request standing.Older = refl

-- ---- what a server without changes takes

rows_told : (key : List ℕ) (times : TimeSettings) (s : ChangingMrc) (from : NodeId) (rows : List RegistryRow) → IsTold key times s (beside s.running (plain.rows_heard s.mrc from rows))
rows_told key times s from rows = go (plain.is_dir from) where
  go : (dir : Bool) → IsTold key times s (beside s.running (cond dir (plain.nothing (record s.mrc { osds = plain.nodes_of rows })) (plain.nothing s.mrc)))
  go true = refl
  go false = refl

answer_told : (key : List ℕ) (times : TimeSettings) (s : ChangingMrc) (from : NodeId) (number : ℕ) (answer : RegistryAnswer)
    → IsTold key times s (told_by key times s from (payload.RegistryReply number answer))
answer_told key times s from number (told.Rows rows) = rows_told key times s from rows
answer_told key times s from number _ = refl

-- ---- changes

-- the state with these changes
abbrev with_changes : ChangingMrc → List Running → Recorded
with_changes s running = record { catalogue = s.mrc.catalogue; running = untold running }

module _ (key : List ℕ) (times : TimeSettings) (s : ChangingMrc) (order : IsInOrder times s.running) where
  -- one in the place of its file's that is told alike
  replaced : (file : FileId) (r new : Running) → running_of s.running file ≡ Some r → file_of new ≡ file_of r → uncounted new ≡ uncounted r
      → untold (with_running s.running new) ≡ untold s.running
  replaced file r new is same alike =
      let at = found s.running file r is in
      let put = put_over at.earlier at.later r new same (subst Rise at.split order.rise) in
      ap (λ (rs : List Running). untold (with_running rs new)) at.split ∙ ap untold put ∙ middle_alike at.earlier at.later r new alike ∙ sym (ap untold at.split)

  closed_under : (now : ℕ) (from : NodeId) (version : ℕ) (head : FileHead) (file : FileId) (o : Option Running) → running_of s.running file ≡ o
      → IsTold key times s (alone s.mrc (closing_under s.running now from version head o))
  closed_under now from version head file None is = refl
  closed_under now from version head file (Some r) is =
      ap (λ (running : List Running). (let known : Recorded = record { catalogue = s.mrc.catalogue; running = running } in known))
      (replaced file r (counts_closing r now from version head r.choice) is (ap (λ (x : Running). x.change.file) (closed_alike r now from version head r.choice))
      (closed_alike r now from version head r.choice))

  installed_under : (from : NodeId) (version : ℕ) (file : FileId) (r : Running) (o : Option Choice) → running_of s.running file ≡ Some r → r.choice ≡ o
      → IsTold key times s (alone s.mrc (installation_under s.running from version r o))
  installed_under from version file r None is has = refl
  installed_under from version file r (Some choice) is has = at ((installed_by r.change from version).wins && not r.listed)
    where
      counted : Running
      counted = record { change = (installed_by r.change from version).change; choice = r.choice; listed = r.listed }

      place : IsFound s.running file r
      place = found s.running file r is

      own : Has r s.running
      own = subst (λ (rs : List Running). Has r rs) (sym place.split) (has_middle place.earlier place.later r)

      its_file : choice.file ≡ file
      its_file = (subst (λ (c : Option Choice). IsChosen r.change c) has (order.sound r own).choice).file ∙ place.same

      ended : untold (with_running s.running (record counted { listed = true })) ≡ after_listing (untold s.running) choice.file
      ended =
          put_untold s.running (record counted { listed = true })
          ∙ ap (with_running (untold s.running)) (installed_alike r.change r.choice true from version)
          ∙ sym (put_untold s.running (with_listed r))
          ∙ ap (λ (x : Option Running). untold (on_running with_listed s.running x)) (sym is)
          ∙ sym (listing_untold s.running file)
          ∙ ap (after_listing (untold s.running)) (sym its_file)

      at : (t : Bool) → IsTold key times s (alone s.mrc (cond t (lists s.running counted choice) (unmoved (with_running s.running counted))))
      at true = ap (λ (running : List Running). (let known : Recorded = record { catalogue = s.mrc.catalogue; running = running } in known)) ended
      at false =
          ap (λ (running : List Running). (let known : Recorded = record { catalogue = s.mrc.catalogue; running = running } in known))
          (replaced file r counted is (ap (λ (x : Running). x.change.file) (installed_alike r.change r.choice r.listed from version))
          (installed_alike r.change r.choice r.listed from version))

  installed_of : (from : NodeId) (version : ℕ) (file : FileId) (o : Option Running) → running_of s.running file ≡ o
      → IsTold key times s (alone s.mrc (installation_of s.running from version o))
  installed_of from version file None is = refl
  installed_of from version file (Some r) is = installed_under from version file r r.choice is refl

  wanted_told : (from : NodeId) (o : Option Running) → IsTold key times s (alone s.mrc (wanted_of s.running from o))
  wanted_told from None = refl
  wanted_told from (Some r) = by_choice r.choice
    where
      by_choice : (c : Option Choice) → IsTold key times s (alone s.mrc (wanted_under s.running from c))
      by_choice None = refl
      by_choice (Some choice) = refl

  payload_told : (from : NodeId) (content : Payload) → IsTold key times s (told_by key times s from content)
  payload_told from (payload.Meta number user group request) =
      standing_told key times s from number (record { user = user; group = group }) request (standing_of s.mrc.catalogue.clients from number)
  payload_told from (payload.Closed file version head) = closed_under s.mrc.last from version head file (running_of s.running file) refl
  payload_told from (payload.Installed file version) = installed_of from version file (running_of s.running file) refl
  payload_told from (payload.Wanted file) = wanted_told from (running_of s.running file)
  payload_told from (payload.RegistryReply number answer) = answer_told key times s from number answer
  payload_told from _ = refl

  -- a choice is of its change's file
  chosen_file : (c : ChangeState) (now : ℕ) (choice : Choice) → choice_at c now ≡ Some choice → choice.file ≡ c.file
  chosen_file c now choice is = at (is_ready c now) is
    where
      of_best : (o : Option (NodeId × FileHead)) → option_map (choice_of c) o ≡ Some choice → choice.file ≡ c.file
      of_best None is = absurd (cc)
      of_best (Some best) is =
          let same : choice_of c best ≡ choice = cc in sym (ap (λ (made : Choice). made.file) same)

      at : (t : Bool) → (if t then option_map (choice_of c) (best_in c.reports) else None) ≡ Some choice → choice.file ≡ c.file
      at true is = of_best (best_in c.reports) is
      at false is = absurd (cc)

  -- at a Wake a choice is put in its file's place
  chosen_told : (now : ℕ) (choice : Choice) (after : List Running) → Chooses now choice s.running after → untold after ≡ after_choice (untold s.running) choice
  chosen_told now choice after h =
      let rise : Rise (h.earlier ++ h.file ∷ h.later) = subst Rise h.was order.rise in
      let its_file : choice.file ≡ file_of h.file = chosen_file h.file.change now choice h.ready in
      let there : running_of (h.earlier ++ h.file ∷ h.later) choice.file ≡ Some h.file =
      ap (running_of (h.earlier ++ h.file ∷ h.later)) its_file ∙ find_over h.earlier h.later h.file rise in
      let new : Running = with_choice choice h.file in
      ap untold h.is
      ∙ ap untold (sym (put_over h.earlier h.later h.file new refl rise))
      ∙ ap (λ (o : Option Running). untold (on_running (with_choice choice) (h.earlier ++ h.file ∷ h.later) o)) (sym there)
      ∙ ap (λ (rs : List Running). untold (after_choice rs choice)) (sym h.was)
      ∙ sym (choice_untold s.running choice)

  woken_told : (now : ℕ) (step : Step) → WakeKeeps now s.running step → IsTold key times s (wakes s step)
  woken_told now step (nothing _ none same) =
      ap (with_changes s) same ∙ sym (ap (λ (rec : Option Record). fold (after_record_with key times) (known_in s) (option_to_list rec)) none)
  woken_told now step (one _ choice is h) =
      ap (λ (running : List Running). (let known : Recorded = record { catalogue = s.mrc.catalogue; running = running } in known)) (chosen_told now choice step.running h)
      ∙ sym (ap (λ (rec : Option Record). fold (after_record_with key times) (known_in s) (option_to_list rec)) is)

  event_told : (happens : Event) → IsTold key times s (handled key times s happens)
  event_told (event.Deliver msg) = payload_told msg.from msg.payload
  event_told event.Wake = woken_told s.mrc.last (woken s.mrc.last s.running) (wakes_once s.mrc.last s.running)
  event_told (event.Call call) = refl

pub step_told : (key : List ℕ) (times : TimeSettings) (s : ChangingMrc) (reading : ℕ) (happens : Event) → IsInOrder times s.running
    → IsTold key times s (step_with_changes key times s reading happens)
unfolding step_with_changes
step_told key times s reading happens order = event_told key times (at_reading reading s) order happens

pub all_told : (key : List ℕ) (times : TimeSettings) (records : List Record) (s : ChangingMrc) (reading : ℕ) (happens : Event)
    → IsInOrder times s.running → known_in s ≡ recorded_of key times records
    → known_in (step_with_changes key times s reading happens).server ≡ recorded_of key times (records ++ option_to_list (step_with_changes key times s reading happens).turned.rec)
all_told key times records s reading happens order known =
    let rec = option_to_list (step_with_changes key times s reading happens).turned.rec in
    step_told key times s reading happens order ∙ ap (λ (k : Recorded). fold (after_record_with key times) k rec) known
    ∙ sym (fold-append (after_record_with key times) _ records rec)
