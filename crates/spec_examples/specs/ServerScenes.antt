-- calls to the metadata server, 901, and to the directory service, 900
use Rattle.std.specs.Prelude.{ℕ, List, [], ◌∷◌, codes}
use Rattle.xt_messages.specs.declared.reply.Reply.TheVariants as reply
use Rattle.xt_messages.specs.declared.reply.Denial.TheVariants as denial
use Rattle.xt_messages.specs.declared.reply.Retry.TheVariants as retry
use Rattle.xt_messages.specs.declared.meta.MetaReq.TheVariants as wish
use Rattle.xt_messages.specs.declared.meta.MetaAnswer.{MetaAnswer}
use Rattle.xt_messages.specs.declared.meta.MetaAnswer.TheVariants as answer
use Rattle.xt_messages.specs.declared.meta.MetaRefusal.TheVariants as meta_refusal
use Rattle.xt_messages.specs.declared.meta.RowKind.TheVariants as row_kind
use Rattle.xt_messages.specs.declared.registry.RegistryReq.TheVariants as listing
use Rattle.xt_messages.specs.declared.registry.RegistryRow.{RegistryRow}
use Rattle.xt_messages.specs.declared.registry.RegistryAnswer.{RegistryAnswer}
use Rattle.xt_messages.specs.declared.registry.RegistryAnswer.TheVariants as told
use Rattle.xt_messages.specs.declared.message.Payload.TheVariants as payload
use Rattle.xt_messages.specs.declared.event.Call.{Call}
use Rattle.xt_messages.specs.declared.event.Call.TheVariants as call
use Rattle.spec_examples.specs.Values.{node}
use Rattle.spec_examples.specs.ClientScenes.{Row, last_number, write, ok, no_lease, makes, makes_again, gets, shows, wakes, hears, replies, nothing, begins, asks, reports, done, repeats, answers, lists, held_at, not_held, by, capability, size_at, Happens}

-- Calls and answers.

-- of the user 1 in the group 1
abbrev pub mkdir : Call
mkdir = call.Meta 1 1 (wish.Mkdir (codes "/v") 493)

abbrev pub grant : Call
grant = call.Meta 1 1 (wish.Grant (codes "/v/a") 1)

abbrev pub report : ℕ → Call
report file = call.Report 1 1 file

abbrev pub row_asked : Call
row_asked = call.Registry (listing.Get (node 1))

abbrev pub directory : MetaAnswer
directory = answer.Row row_kind.Directory 1 1 493 (size_at 0 0)

-- the file 3, which has a truncate epoch of 7 and a size of 5 under it
abbrev pub granted : MetaAnswer
granted = answer.Granted (capability 3 7) (size_at 7 5)

abbrev pub first_row : RegistryRow
first_row = record { node = node 1; kind = 1; address = codes "a"; version = 1 }

-- a server answers the call of this number
abbrev pub meta_replies : ℕ → ℕ → MetaAnswer → Happens
meta_replies from number what = hears from (payload.MetaReply number what)

abbrev pub registry_replies : ℕ → ℕ → RegistryAnswer → Happens
registry_replies from number what = hears from (payload.RegistryReply number what)

-- Scenes.

-- the metadata server answers, under the number of the call
abbrev pub meta : List Row
meta =
    (0, makes mkdir, begins 901 1)
    ∷ (0, meta_replies 900 1 answer.Done, nothing)
    ∷ (0, meta_replies 901 2 answer.Done, nothing)
    ∷ (0, replies 901 1 no_lease, nothing)
    ∷ (0, replies 901 1 (ok 1 1 []), nothing)
    ∷ (0, replies 901 1 (reply.Denied denial.Mode), nothing)
    ∷ (0, replies 901 1 (reply.OldEpoch 5), nothing)
    ∷ (0, registry_replies 901 1 told.Absent, nothing)
    ∷ (0, meta_replies 901 1 answer.Done, answers 1 answer.Done)
    ∷ (0, meta_replies 901 1 answer.Done, nothing)
    ∷ (0, makes mkdir, begins 901 2)
    ∷ (0, meta_replies 901 2 (answer.Refused meta_refusal.NotFound), answers 2 (answer.Refused meta_refusal.NotFound))
    ∷ (0, makes mkdir, begins 901 3)
    ∷ (0, meta_replies 901 3 (answer.Names []), answers 3 (answer.Names []))
    ∷ (0, makes mkdir, begins 901 4)
    ∷ (0, meta_replies 901 4 directory, answers 4 directory)
    -- silent
    ∷ (0, makes mkdir, begins 901 5)
    ∷ (999, wakes, nothing)
    ∷ (1000, wakes, repeats 5 (by 901 retry.Silent ∷ []))
    ∷ (1000, makes_again, asks 901 5)
    ∷ (1000, meta_replies 901 5 answer.Done, answers 5 answer.Done)
    ∷ []

-- a file that is granted is held, and its greatest size is reported
abbrev pub granted_file : List Row
granted_file =
    (0, shows 3, not_held)
    ∷ (0, makes (write 3 0), not_held)
    ∷ (0, makes (report 3), not_held)
    ∷ (0, makes grant, begins 901 1)
    ∷ (0, meta_replies 901 1 granted, answers 1 granted)
    ∷ (0, shows 3, held_at 7)
    ∷ (0, makes (write 3 0), begins 1 2)
    -- a size under a lower truncate epoch doesn't count
    ∷ (0, replies 1 2 (ok 1 9000 []), done 2 1 5 0)
    ∷ (0, makes (report 3), reports 3 7 5)
    ∷ (0, meta_replies 901 3 answer.Done, answers 3 answer.Done)
    ∷ (0, gets 3 6 8, nothing)
    ∷ (0, shows 3, held_at 6)
    ∷ (0, makes (report 3), reports 4 7 5)
    ∷ (0, meta_replies 901 4 answer.Done, answers 4 answer.Done)
    ∷ (0, gets 3 7 8, nothing)
    ∷ (0, makes (report 3), reports 5 7 8)
    ∷ []

-- the directory service answers, under the number of the call
abbrev pub registry : List Row
registry =
    (0, makes row_asked, begins 900 1)
    ∷ (0, registry_replies 901 1 (told.Done 1), nothing)
    ∷ (0, registry_replies 900 2 (told.Done 1), nothing)
    ∷ (0, meta_replies 900 1 answer.Done, nothing)
    ∷ (0, registry_replies 900 1 (told.Done 1), lists 1 (told.Done 1))
    ∷ (0, makes row_asked, begins 900 2)
    ∷ (0, registry_replies 900 2 (told.Changed 1), lists 2 (told.Changed 1))
    ∷ (0, makes row_asked, begins 900 3)
    ∷ (0, registry_replies 900 3 told.Absent, lists 3 told.Absent)
    ∷ (0, makes row_asked, begins 900 4)
    ∷ (0, registry_replies 900 4 (told.Row first_row), lists 4 (told.Row first_row))
    ∷ (0, makes row_asked, begins 900 5)
    ∷ (0, registry_replies 900 5 (told.Rows (first_row ∷ [])), lists 5 (told.Rows (first_row ∷ [])))
    -- silent
    ∷ (0, makes row_asked, begins 900 6)
    ∷ (1000, wakes, repeats 6 (by 900 retry.Silent ∷ []))
    ∷ []

-- after the last number there is none
abbrev pub last : List Row
last =
    (0, makes mkdir, begins 901 last_number)
    ∷ (0, meta_replies 901 last_number answer.Done, answers last_number answer.Done)
    ∷ (0, makes mkdir, nothing)
    ∷ []
