-- where no change is asked for, the step is that of a server without changes
use Rattle.std.proofs.Common.{◌≡◌, ℕ, List, [], ◌∷◌, refl, ap, sym, ◌∙◌, Option, Some, None, Bool, true, false, cond}
use Rattle.std.specs.Prelude.{fold, max, Result, Ok, Err}
use Rattle.std.specs.List.{AllByRecursion}
use Rattle.xt_base.specs.TimeSettings.{TimeSettings}
use Rattle.xt_base.specs.declared.ids.NodeId.{NodeId}
use Rattle.xt_base.specs.declared.ids.FileId.{FileId}
use Rattle.xt_messages.specs.declared.file.Kind.{Kind}
use Rattle.xt_messages.specs.declared.file.Kind.TheVariants as kind
use Rattle.xt_messages.specs.declared.file.Location.{Location}
use Rattle.xt_messages.specs.declared.meta.MetaReq.{MetaReq}
use Rattle.xt_messages.specs.declared.meta.MetaReq.TheVariants as ask
use Rattle.xt_messages.specs.declared.meta.MetaRefusal.{MetaRefusal}
use Rattle.xt_messages.specs.declared.meta.MetaAnswer.{MetaAnswer}
use Rattle.xt_messages.specs.declared.message.Payload.{Payload}
use Rattle.xt_messages.specs.declared.message.Payload.TheVariants as payload
use Rattle.xt_messages.specs.declared.event.Event.{Event}
use Rattle.xt_messages.specs.declared.event.Event.TheVariants as event
use Rattle.xt_messages.specs.declared.record.Logged.TheVariants as logged
use Rattle.xt_messages.specs.declared.record.Record.{Record}
use Rattle.xt_messages.specs.declared.record.Record.TheVariants as kept
use Rattle.reply_cache.specs.declared.Standing.{Standing}
use Rattle.reply_cache.specs.declared.Standing.TheVariants as standing
use Rattle.reply_cache.specs.Standings.{standing_of, with_answer}
use Rattle.volume_rows.specs.declared.Asker.{Asker}
use Rattle.volume_rows.specs.declared.Granting.{Granting}
use Rattle.volume_rows.specs.Paths.{path_in}
use Rattle.volume_rows.specs.Rows.{Volumes}
use Rattle.volume_rows.specs.Requests.{Outcome, tells}
use Rattle.volume_rows.specs.Grants as grants
use Rattle.volume_rows.specs.Grants.{file_at}
use Rattle.server_rows.specs.Requests.{grant_at, grant_settled, settled, is_done, is_taken, is_recorded, is_spent, nodes_for, outcome_of, made_after, marks_of}
use Rattle.server_rows.specs.Metadata as plain
use Rattle.server_rows.specs.Metadata.{Catalogue, MrcState, MrcStep, record_of, reply_to, step_of_mrc}
use Rattle.change_rows.specs.Coordinating.{Running}
use Rattle.list_changes.specs.Lists.{with_list, located_as, located}
use Rattle.list_changes.specs.Requests.{nodes_with, outcome_with, is_recorded_with, is_spent_with, ended_by, running_after}
use Rattle.list_changes.specs.Recorded.{Recorded, after_request_with, after_meta_with, after_record_with, recorded_of}
use Rattle.list_changes.specs.Steps.{ChangingMrc, ChangingStep, beside, recorded_on, fresh_on, fresh, by_standing, requested, told_by, handled, step_with_changes}
use Rattle.list_changes.specs.Laws.{AsksNoChange, CarriesNoChange, BringsNoChange, TellsNoChange}

-- ---- requests

list_plain : (granted : Result Granting MetaRefusal) → with_list [] granted ≡ granted
list_plain (Err why) = refl
list_plain (Ok grant) = refl

located_kind : (kind : Kind) (location : Location) → located_as false kind location ≡ grants.located_as kind location
located_kind kind.Replicated location = refl
located_kind kind.Striped location = refl

located_plain : (granted : Result Granting MetaRefusal) → located [] (with_list [] granted) ≡ grants.located granted
located_plain (Err why) = refl
located_plain (Ok grant) = located_kind grant.location.kind grant.location

outcome_plain : (key : List ℕ) (volumes : Volumes) (who : Asker) (now : ℕ) (nodes : Option (List NodeId)) (request : MetaReq) → AsksNoChange request
    → outcome_with key volumes [] who now nodes request ≡ outcome_of key volumes who now nodes request
outcome_plain key volumes who now nodes (ask.Grant path want) h =
    ap (λ (granted : Result Granting MetaRefusal). settled volumes (grant_settled key now want granted)) (list_plain (grant_at volumes who want path))
outcome_plain key volumes who now nodes (ask.Locate path) h = ap (tells volumes) (located_plain (grant_at volumes who 1 path))
outcome_plain key volumes who now nodes (ask.Change path next) h = absurd h
outcome_plain key volumes who now nodes _ h = refl

pub spent_plain : (volumes : Volumes) (rs : List Running) (who : Asker) (nodes : Option (List NodeId)) (request : MetaReq) → AsksNoChange request
    → is_spent_with volumes rs who nodes request ≡ is_spent volumes who request
spent_plain volumes rs who nodes (ask.Change path next) h = absurd h
spent_plain volumes rs who nodes _ h = refl

pub recorded_plain : (key : List ℕ) (volumes : Volumes) (now : ℕ) (request : MetaReq) → AsksNoChange request
    → is_recorded_with key volumes now request ≡ is_recorded key volumes now request
recorded_plain key volumes now (ask.Change path next) h = absurd h
recorded_plain key volumes now _ h = refl

pub nodes_plain : (osds : List NodeId) (next : ℕ) (request : MetaReq) → AsksNoChange request → nodes_with osds next request ≡ nodes_for osds next request
nodes_plain osds next (ask.Change path nodes) h = absurd h
nodes_plain osds next _ h = refl

ended_plain : (file : Option FileId) (done : Bool) → cond done (ended_by [] file) [] ≡ []
ended_plain None true = refl
ended_plain (Some file) true = refl
ended_plain file false = refl

running_plain : (times : TimeSettings) (volumes : Volumes) (who : Asker) (nodes : Option (List NodeId)) (request : MetaReq) (told : MetaAnswer) → AsksNoChange request
    → running_after times volumes [] who nodes request told ≡ []
running_plain times volumes who nodes (ask.Change path next) told h = absurd h
running_plain times volumes who nodes (ask.Unlink path) told h = ended_plain (file_at volumes (path_in path)) (is_done told)
running_plain times volumes who nodes _ told h = refl

pub taken_plain : (request : MetaReq) → AsksNoChange request → is_taken request ≡ true
taken_plain (ask.Change path nodes) h = absurd h
taken_plain _ h = refl

-- two choices made beside no changes
spread : (a b : Bool) (x z u : MrcStep) (y : ChangingStep) → y ≡ beside [] u → cond a (beside [] x) (cond b y (beside [] z)) ≡ beside [] (cond a x (cond b u z))
spread true b x z u y is = refl
spread false true x z u y is = is
spread false false x z u y is = refl

module _ (key : List ℕ) (times : TimeSettings) (mrc : MrcState) (client : NodeId) (number : ℕ) (who : Asker) (request : MetaReq) (h : AsksNoChange request) where
  abbrev s : ChangingMrc
  s = record { mrc = mrc; running = [] }

  module _ (nodes : Option (List NodeId)) where
    abbrev made_of : Outcome → List Running → ChangingStep
    made_of o running =
        record {
          server =
              record {
                mrc =
                    record mrc {
                      catalogue =
                          (let after : Catalogue = record {
                            volumes = o.volumes;
                            made = made_after mrc.catalogue.volumes mrc.last nodes request o.answer mrc.catalogue.made;
                            clients = with_answer mrc.catalogue.clients client number o.answer;
                          } in after);
                    };
                running = running;
              };
          turned =
              record {
                rec = Some (record_of client number mrc.last nodes who request);
                outs = reply_to client number o.answer ∷ [];
                marks = marks_of mrc.catalogue.volumes.next nodes request o.answer;
              };
        }

    recorded_same : recorded_on key times s client number nodes who request ≡ beside [] (plain.recorded_on key mrc client number nodes who request)
    recorded_same =
        let told = outcome_with key mrc.catalogue.volumes [] who mrc.last nodes request in
        ap (made_of told) (running_plain times mrc.catalogue.volumes who nodes request told.answer h)
        ∙ ap (λ (o : Outcome). made_of o []) (outcome_plain key mrc.catalogue.volumes who mrc.last nodes request h)

    fresh_same : fresh_on key times s client number nodes who request
        ≡ beside [] (cond (is_spent mrc.catalogue.volumes who request) (plain.nothing mrc)
        (cond (is_recorded key mrc.catalogue.volumes mrc.last request) (plain.recorded_on key mrc client number nodes who request)
        (plain.answered mrc client number (outcome_of key mrc.catalogue.volumes who mrc.last None request).answer)))
    fresh_same =
        let vs = mrc.catalogue.volumes in
        let rests = beside [] (plain.nothing mrc) in
        let keeps = recorded_on key times s client number nodes who request in
        let answers = λ (o : Outcome). beside [] (plain.answered mrc client number o.answer) in
        ap (λ (b : Bool). cond b rests (cond (is_recorded_with key vs mrc.last request) keeps (answers (outcome_with key vs [] who mrc.last None request)))) (spent_plain vs [] who nodes request h)
        ∙ ap (λ (b : Bool). cond (is_spent vs who request) rests (cond b keeps (answers (outcome_with key vs [] who mrc.last None request)))) (recorded_plain key vs mrc.last request h)
        ∙ ap (λ (o : Outcome). cond (is_spent vs who request) rests (cond (is_recorded key vs mrc.last request) keeps (answers o))) (outcome_plain key vs who mrc.last None request h)
        ∙ spread (is_spent vs who request) (is_recorded key vs mrc.last request) (plain.nothing mrc) (plain.answered mrc client number (outcome_of key vs who mrc.last None request).answer)
        (plain.recorded_on key mrc client number nodes who request) keeps recorded_same

  all_fresh : fresh key times s client number who request ≡ beside [] (plain.fresh key mrc client number who request)
  all_fresh =
      ap (λ (nodes : Option (List NodeId)). fresh_on key times s client number nodes who request) (nodes_plain mrc.osds mrc.catalogue.volumes.next request h)
      ∙ fresh_same (nodes_for mrc.osds mrc.catalogue.volumes.next request)

  stands_same : (stands : Standing MetaAnswer) → by_standing key times s client number who request stands ≡ beside [] (plain.by_standing key mrc client number who request stands)
  stands_same standing.Fresh = all_fresh
  stands_same (standing.Again answer) = refl
  stands_same standing.Older = refl

  requested_same : requested key times s client number who request ≡ beside [] (plain.requested key mrc client number who request)
  requested_same =
      let stands = standing_of mrc.catalogue.clients client number in
      stands_same stands
      ∙ ap (λ (b : Bool). beside [] (cond b (plain.by_standing key mrc client number who request stands) (plain.nothing mrc))) (sym (taken_plain request h))

-- ---- messages and events

told_same : (key : List ℕ) (times : TimeSettings) (mrc : MrcState) (from : NodeId) (content : Payload) → CarriesNoChange content
    → told_by key times (record { mrc = mrc; running = [] }) from content ≡ beside [] (plain.told_by key mrc from content)
told_same key times mrc from (payload.Meta number user group request) h = requested_same key times mrc from number (record { user = user; group = group }) request h
told_same key times mrc from (payload.Closed file version head) h = refl
told_same key times mrc from (payload.Installed file version) h = refl
told_same key times mrc from (payload.Wanted file) h = refl
told_same key times mrc from _ h = refl

handled_same : (key : List ℕ) (times : TimeSettings) (mrc : MrcState) (happens : Event) → BringsNoChange happens
    → handled key times (record { mrc = mrc; running = [] }) happens ≡ beside [] (plain.handled key mrc happens)
handled_same key times mrc (event.Deliver msg) h = told_same key times mrc msg.from msg.payload h
handled_same key times mrc event.Wake h = refl
handled_same key times mrc (event.Call call) h = refl

pub step_same : (key : List ℕ) (times : TimeSettings) (mrc : MrcState) (reading : ℕ) (happens : Event) → BringsNoChange happens
    → step_with_changes key times (record { mrc = mrc; running = [] }) reading happens ≡ beside [] (step_of_mrc key mrc reading happens)
unfolding step_with_changes step_of_mrc
step_same key times mrc reading happens h = handled_same key times (record mrc { last = max reading mrc.last }) happens h

-- ---- records

abbrev bare : Catalogue → Recorded
bare catalogue = record { catalogue = catalogue; running = [] }

spread_known : (a b : Bool) (catalogue after : Catalogue) (known : Recorded) → known ≡ bare after
    → cond a (bare catalogue) (cond b known (bare catalogue)) ≡ bare (cond a catalogue (cond b after catalogue))
spread_known true b catalogue after known is = refl
spread_known false true catalogue after known is = is
spread_known false false catalogue after known is = refl

module _ (key : List ℕ) (times : TimeSettings) (catalogue : Catalogue) (client : NodeId) (number now : ℕ) (nodes : Option (List NodeId)) (who : Asker) (request : MetaReq) (h : AsksNoChange request) where
  abbrev known_of : Outcome → List Running → Recorded
  known_of o running =
      record {
        catalogue =
            (let after : Catalogue = record {
              volumes = o.volumes;
              made = made_after catalogue.volumes now nodes request o.answer catalogue.made;
              clients = with_answer catalogue.clients client number o.answer;
            } in after);
        running = running;
      }

  after_same : after_request_with key times (bare catalogue) client number now nodes who request ≡ bare (plain.after_request key catalogue client number now nodes who request)
  after_same =
      let told = outcome_with key catalogue.volumes [] who now nodes request in
      ap (known_of told) (running_plain times catalogue.volumes who nodes request told.answer h)
      ∙ ap (λ (o : Outcome). known_of o []) (outcome_plain key catalogue.volumes who now nodes request h)

  meta_same : after_meta_with key times (bare catalogue) client number now nodes who request ≡ bare (plain.after_meta key catalogue client number now nodes who request)
  meta_same =
      let after = after_request_with key times (bare catalogue) client number now nodes who request in
      ap (λ (b : Bool). cond b (bare catalogue) (cond (is_recorded_with key catalogue.volumes now request) after (bare catalogue))) (spent_plain catalogue.volumes [] who nodes request h)
      ∙ ap (λ (b : Bool). cond (is_spent catalogue.volumes who request) (bare catalogue) (cond b after (bare catalogue))) (recorded_plain key catalogue.volumes now request h)
      ∙ spread_known (is_spent catalogue.volumes who request) (is_recorded key catalogue.volumes now request) catalogue
      (plain.after_request key catalogue client number now nodes who request) after after_same

record_same : (key : List ℕ) (times : TimeSettings) (catalogue : Catalogue) (rec : Record) → TellsNoChange rec
    → after_record_with key times (bare catalogue) rec ≡ bare (plain.after_record key catalogue rec)
record_same key times catalogue (kept.Meta client number now nodes (logged.Meta user group request)) h =
    meta_same key times catalogue client number now nodes (record { user = user; group = group }) request h
record_same key times catalogue (kept.Choice file location head source) h = refl
record_same key times catalogue (kept.OldChoice file location head source) h = refl
record_same key times catalogue (kept.Listed file version) h = refl
record_same key times catalogue _ h = refl

from_same : (key : List ℕ) (times : TimeSettings) (catalogue : Catalogue) (records : List Record) → AllByRecursion TellsNoChange records
    → fold (after_record_with key times) (bare catalogue) records ≡ bare (fold (plain.after_record key) catalogue records)
from_same key times catalogue [] all = refl
from_same key times catalogue (rec ∷ records) all =
    ap (λ (known : Recorded). fold (after_record_with key times) known records) (record_same key times catalogue rec all.0)
    ∙ from_same key times (plain.after_record key catalogue rec) records all.1

pub records_same : (key : List ℕ) (times : TimeSettings) (records : List Record) → AllByRecursion TellsNoChange records
    → recorded_of key times records ≡ bare (plain.catalogue_of key records)
records_same key times records all = from_same key times plain.empty_catalogue records all
