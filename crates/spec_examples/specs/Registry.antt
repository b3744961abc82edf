-- requests to a directory service about node 1, one after the other, what each is answered, and whether it is recorded
use Rattle.std.specs.Prelude.{ℕ, Bool, true, false, List, [], ◌∷◌, map, codes}
use Rattle.std.specs.Option.{is_some}
use Rattle.xt_base.specs.declared.ids.NodeId.{NodeId}
use Rattle.xt_messages.specs.declared.registry.RegistryReq.{RegistryReq}
use Rattle.xt_messages.specs.declared.registry.RegistryReq.TheVariants as ask
use Rattle.xt_messages.specs.declared.registry.RegistryAnswer.{RegistryAnswer}
use Rattle.xt_messages.specs.declared.registry.RegistryAnswer.TheVariants as told
use Rattle.xt_messages.specs.declared.registry.RegistryRow.{RegistryRow}
use Rattle.xt_messages.specs.declared.message.Payload.TheVariants as payload
use Rattle.xt_messages.specs.declared.message.Msg.{Msg}
use Rattle.xt_messages.specs.declared.event.Event.TheVariants as event
use Rattle.xt_protocol.specs.Turns.{message}
use Rattle.server_rows.specs.Directory.{DirState, DirStep, reply_to, step_of_dir}

-- who asks, under which number, and what; what is answered, and whether the request is recorded
abbrev pub Row : Type 0
Row = ℕ × ℕ × RegistryReq × List RegistryAnswer × Bool

abbrev one : NodeId
one = record { 0 = 1 }

-- node 1 as an OSD at `a`
abbrev set : ℕ → RegistryReq
set expected = ask.Set one 1 (codes "a") expected

abbrev get : RegistryReq
get = ask.Get one

abbrev list : ℕ → RegistryReq
list kind = ask.List kind (record { 0 = 0 })

abbrev remove : ℕ → RegistryReq
remove expected = ask.Remove one expected

abbrev row : RegistryRow
row = record { node = one; kind = 1; address = codes "a"; version = 1 }

abbrev pub rows : List Row
rows =
    (10, 1, get, told.Absent ∷ [], false)
    ∷ (10, 2, set 0, told.Done 1 ∷ [], true)
    -- again under its number, and under an older one
    ∷ (10, 2, set 0, told.Done 1 ∷ [], false)
    ∷ (10, 1, get, [], false)
    ∷ (10, 3, set 0, told.Changed 1 ∷ [], true)
    ∷ (10, 4, get, told.Row row ∷ [], false)
    ∷ (10, 4, list 1, told.Rows (row ∷ []) ∷ [], false)
    ∷ (10, 4, list 2, told.Rows [] ∷ [], false)
    -- other clients, whose numbers are their own
    ∷ (1, 0, list 1, told.Rows (row ∷ []) ∷ [], false)
    ∷ (11, 1, remove 0, told.Changed 1 ∷ [], true)
    ∷ (11, 2, remove 1, told.Done 0 ∷ [], true)
    ∷ (11, 3, remove 0, told.Absent ∷ [], true)
    ∷ (11, 4, get, told.Absent ∷ [], false)
    ∷ (10, 3, set 0, told.Changed 1 ∷ [], false)
    ∷ []

-- the steps of a service as the requests come
abbrev pub steps_from : DirState → List Row → List DirStep
steps_from dir [] = []
steps_from dir (row ∷ later) =
    let msg = message (record { 0 = row.0 }) (record { 0 = 900 }) (payload.Registry row.1 row.2) in
    let step = step_of_dir dir (event.Deliver msg) in
    step ∷ steps_from step.dir later

abbrev pub seen_in : DirStep → List Msg × Bool
seen_in step = (step.turned.outs, is_some step.turned.rec)

abbrev pub wanted_of : Row → List Msg × Bool
wanted_of row = (map (reply_to (record { 0 = row.0 }) row.1) row.3, row.4)
