-- What a request to a metadata server does where lists change: a grant is of the list in force, and a change of a list may begin or end.
use Rattle.std.specs.Prelude.{ℕ, Bool, true, if◌then◌else◌, Option, Some, None, Result, Ok, Err, List}
use Rattle.xt_base.specs.TimeSettings.{TimeSettings}
use Rattle.xt_base.specs.declared.ids.NodeId.{NodeId}
use Rattle.xt_base.specs.declared.ids.FileId.{FileId}
use Rattle.xt_messages.specs.declared.meta.MetaReq.{MetaReq}
use Rattle.xt_messages.specs.declared.meta.MetaReq.TheVariants as ask
use Rattle.xt_messages.specs.declared.meta.MetaRefusal.{MetaRefusal}
use Rattle.xt_messages.specs.declared.meta.MetaAnswer.{MetaAnswer}
use Rattle.volume_rows.specs.declared.Asker.{Asker}
use Rattle.volume_rows.specs.Paths.{path_in}
use Rattle.volume_rows.specs.Rows.{Volumes}
use Rattle.volume_rows.specs.Requests.{Outcome, tells, has_names}
use Rattle.volume_rows.specs.Grants.{file_at}
use Rattle.server_rows.specs.Requests.{some_nodes, nodes_for, nodes_in, grant_at, grant_settled, settled, is_done, is_recorded, is_spent, outcome_of}
use Rattle.change_rows.specs.Coordinating.{Running, begins, without_file}
use Rattle.list_changes.specs.Lists.{Beginning, with_list, located, beginning, beginning_answer, is_last_version, known_among}

-- the nodes in the record of a request
abbrev pub nodes_with : List NodeId → ℕ → MetaReq → Option (List NodeId)
nodes_with osds next (ask.Change path nodes) = some_nodes (known_among osds nodes)
nodes_with osds next request = nodes_for osds next request

-- the change that a request asks for, by the nodes in its record
abbrev pub beginning_on : Volumes → List Running → Asker → Option (List NodeId) → List ℕ → List NodeId → Result Beginning MetaRefusal
beginning_on volumes running who nodes path next = beginning volumes running who (nodes_in nodes) next (has_names 1 (path_in path))

-- What a request does to the volumes, and its answer.
abbrev pub outcome_with : List ℕ → Volumes → List Running → Asker → ℕ → Option (List NodeId) → MetaReq → Outcome
outcome_with key volumes running who now nodes (ask.Grant path want) =
    settled volumes (grant_settled key now want (with_list running (grant_at volumes who want path)))
outcome_with key volumes running who now nodes (ask.Locate path) = tells volumes (located running (with_list running (grant_at volumes who 1 path)))
outcome_with key volumes running who now nodes (ask.Change path next) =
    tells volumes (beginning_answer (beginning_on volumes running who nodes path next))
outcome_with key volumes running who now nodes request = outcome_of key volumes who now nodes request

-- a request to change a list is recorded too, refused or not
abbrev pub is_recorded_with : List ℕ → Volumes → ℕ → MetaReq → Bool
is_recorded_with key volumes now (ask.Change path next) = true
is_recorded_with key volumes now request = is_recorded key volumes now request

-- whether no number is left for a request: also the version of a list that is to change
abbrev pub is_spent_with : Volumes → List Running → Asker → Option (List NodeId) → MetaReq → Bool
is_spent_with volumes running who nodes (ask.Change path next) = is_last_version (beginning_on volumes running who nodes path next)
is_spent_with volumes running who nodes request = is_spent volumes who request

-- ---- the files with a change

abbrev pub begun_by : TimeSettings → List Running → Result Beginning MetaRefusal → List Running
begun_by times running (Err why) = running
begun_by times running (Ok begun) = begins times running begun.file begun.old begun.next

abbrev pub ended_by : List Running → Option FileId → List Running
ended_by running None = running
ended_by running (Some file) = without_file running file

-- the files with a change after a request that was answered so: a change begins; the one of a file that is unlinked ends
abbrev pub running_after : TimeSettings → Volumes → List Running → Asker → Option (List NodeId) → MetaReq → MetaAnswer → List Running
running_after times volumes running who nodes (ask.Change path next) answer = begun_by times running (beginning_on volumes running who nodes path next)
running_after times volumes running who nodes (ask.Unlink path) answer = if is_done answer then ended_by running (file_at volumes (path_in path)) else running
running_after times volumes running who nodes _ answer = running
