-- What the records of a metadata server say where lists change.
use Rattle.std.specs.Prelude.{ℕ, if◌then◌else◌, Option, List, [], fold}
use Rattle.xt_base.specs.TimeSettings.{TimeSettings}
use Rattle.xt_base.specs.declared.ids.NodeId.{NodeId}
use Rattle.xt_messages.specs.declared.meta.MetaReq.{MetaReq}
use Rattle.xt_messages.specs.declared.record.Logged.TheVariants as logged
use Rattle.xt_messages.specs.declared.record.Record.{Record}
use Rattle.xt_messages.specs.declared.record.Record.TheVariants as kept
use Rattle.reply_cache.specs.Standings.{with_answer}
use Rattle.volume_rows.specs.declared.Asker.{Asker}
use Rattle.server_rows.specs.Requests.{made_after}
use Rattle.server_rows.specs.Metadata.{Catalogue, empty_catalogue}
use Rattle.change_rows.specs.Changes.{new_change, next_members}
use Rattle.change_rows.specs.Coordinating.{Running, after_choice, after_listing}
use Rattle.list_changes.specs.Requests.{outcome_with, is_recorded_with, is_spent_with, running_after}

-- What the records say: the catalogue, whose rows have each file where it was made; and the files with a change, in their order. They say
-- nothing of closings and installations.
pub record Recorded : Type 0 where
  pub catalogue : Catalogue
  pub running : List Running

-- before any record
abbrev pub nothing_recorded : Recorded
nothing_recorded = record { catalogue = empty_catalogue; running = [] }

-- a change as the records tell it: nothing of it is counted
abbrev pub uncounted : Running → Running
uncounted r =
    record {
      change = new_change r.change.times r.change.file r.change.before (next_members r.change);
      choice = r.choice;
      listed = r.listed;
    }

-- what the records say after that of a request: what it does, and its answer as the client's last one
abbrev pub catalogue_after : List ℕ → Catalogue → List Running → NodeId → ℕ → ℕ → Option (List NodeId) → Asker → MetaReq → Catalogue
catalogue_after key catalogue running client number now nodes who request =
    let outcome = outcome_with key catalogue.volumes running who now nodes request in
    record {
      volumes = outcome.volumes;
      made = made_after catalogue.volumes now nodes request outcome.answer catalogue.made;
      clients = with_answer catalogue.clients client number outcome.answer;
    }

abbrev pub after_request_with : List ℕ → TimeSettings → Recorded → NodeId → ℕ → ℕ → Option (List NodeId) → Asker → MetaReq → Recorded
after_request_with key times known client number now nodes who request =
    let volumes = known.catalogue.volumes in
    record {
      catalogue = catalogue_after key known.catalogue known.running client number now nodes who request;
      running = running_after times volumes known.running who nodes request (outcome_with key volumes known.running who now nodes request).answer;
    }

-- one that a server doesn't record says nothing
abbrev pub after_meta_with : List ℕ → TimeSettings → Recorded → NodeId → ℕ → ℕ → Option (List NodeId) → Asker → MetaReq → Recorded
after_meta_with key times known client number now nodes who request =
    if is_spent_with known.catalogue.volumes known.running who nodes request then known
    else if is_recorded_with key known.catalogue.volumes now request then after_request_with key times known client number now nodes who request
    else known

-- What the records say after one more: those of requests, of choices and of lists matter for it.
abbrev pub after_record_with : List ℕ → TimeSettings → Recorded → Record → Recorded
after_record_with key times known (kept.Meta client number now nodes (logged.Meta user group request)) =
    after_meta_with key times known client number now nodes (record { user = user; group = group }) request
after_record_with key times known (kept.Choice file location head source) =
    record known { running = after_choice known.running (record { file = file; location = location; head = head; source = source }) }
after_record_with key times known (kept.OldChoice file location head source) =
    record known { running = after_choice known.running (record { file = file; location = location; head = head; source = source }) }
after_record_with key times known (kept.Listed file version) = record known { running = after_listing known.running file }
after_record_with key times known _ = known

-- what records say, in their order
abbrev pub recorded_of : List ℕ → TimeSettings → List Record → Recorded
recorded_of key times records = fold (after_record_with key times) nothing_recorded records
