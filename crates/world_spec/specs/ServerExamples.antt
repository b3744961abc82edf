-- examples of runs with a metadata server and a directory service, with ample room
use Rattle.std.specs.Prelude.{ℕ, List, [], ◌∷◌, ◌++◌, codes}
use Rattle.xt_base.specs.declared.ids.OpId.{OpId}
use Rattle.xt_messages.specs.declared.file.Kind.TheVariants as kind
use Rattle.xt_messages.specs.declared.meta.MetaReq.{MetaReq}
use Rattle.xt_messages.specs.declared.meta.MetaReq.TheVariants as ask
use Rattle.xt_messages.specs.declared.meta.MetaRefusal.TheVariants as meta_refusal
use Rattle.xt_messages.specs.declared.meta.RowKind.TheVariants as row_kind
use Rattle.xt_messages.specs.declared.registry.RegistryReq.TheVariants as wish
use Rattle.xt_messages.specs.declared.event.Call.{Call}
use Rattle.xt_messages.specs.declared.event.Call.TheVariants as call
use Rattle.xt_messages.specs.declared.event.MetaOutcome.{MetaOutcome}
use Rattle.xt_messages.specs.declared.event.MetaOutcome.TheVariants as shown
use Rattle.xt_messages.specs.declared.event.RegistryOutcome.{RegistryOutcome}
use Rattle.xt_messages.specs.declared.event.RegistryOutcome.TheVariants as told
use Rattle.xt_messages.specs.declared.event.Outcome.TheVariants as outcome
use Rattle.time_line.specs.declared.line.Line.{Line}
use Rattle.time_line.specs.declared.line.Line.TheVariants as line
use Rattle.time_line.specs.declared.entry.Halt.TheVariants as halt
use Rattle.time_line.specs.declared.entry.Entry.{Entry}
use Rattle.time_line.specs.declared.entry.Entry.TheVariants as entry
use Rattle.world_spec.specs.Examples.{node, id_of, list_of, short_times, osd_is, client_at, start_at, settled, is_up, is_done}

abbrev pub asks : ℕ → Call → List Line
asks id c = line.Call (node id) c ∷ settled ∷ []

abbrev pub begun : ℕ → ℕ → Call → Entry
begun id number c = entry.Begin (node id) number c

abbrev pub meta_done : ℕ → ℕ → MetaOutcome → Entry
meta_done id number how = entry.Done (node id) number (outcome.Meta how)

abbrev pub row_done : ℕ → ℕ → RegistryOutcome → Entry
row_done id number how = entry.Done (node id) number (outcome.Registry how)

-- A file of the metadata server: an OSD is registered, the server asks for the OSDs, and a client makes a file, is granted it and writes.
abbrev pub sets_first : Call
sets_first = call.Registry (wish.Set (node 1) 1 (codes "a") 0)

abbrev pub meta_of : ℕ → MetaReq → Call
meta_of user asked = call.Meta user user asked

abbrev pub makes_volume : Call
makes_volume = meta_of 1 (ask.Mkdir (codes "/v") 493)

abbrev pub makes_file : Call
makes_file = meta_of 1 (ask.Create (codes "/v/a") 420 kind.Replicated 1 131072)

abbrev pub grants_write : Call
grants_write = meta_of 1 (ask.Grant (codes "/v/a") 2)

abbrev pub serving : List Line
serving =
    short_times ∷ osd_is 1 ∷ line.Mrc ∷ line.Dir ∷ client_at 10 0 ∷ start_at 1 0 ∷ start_at 901 0 ∷ start_at 900 0
    ∷ asks 10 sets_first ++ line.Wake (node 901) ∷ settled ∷ asks 10 makes_volume

abbrev pub serving_trace : List Entry
serving_trace =
    entry.Times 1000 100 ∷ is_up 10 1 0 ∷ is_up 1 1 0 ∷ is_up 901 1 0 ∷ is_up 900 1 0
    ∷ begun 10 1 sets_first ∷ row_done 10 1 (told.Done 1) ∷ begun 10 2 makes_volume ∷ meta_done 10 2 shown.Done ∷ []

abbrev pub granted : List Line
granted =
    serving ++ asks 10 makes_file ++ asks 10 grants_write ++ line.Tick 1100 ∷ asks 10 (call.Write 1000000 0 0 (codes "a"))

-- acts on the new file
abbrev pub new_file : ℕ
new_file = 1000000

abbrev pub first_write : OpId
first_write = id_of 10 5

abbrev pub granted_trace : List Entry
granted_trace =
    serving_trace
    ++ begun 10 3 makes_file ∷ entry.File new_file (list_of (1 ∷ [])) ∷ meta_done 10 3 shown.Done
    ∷ begun 10 4 grants_write ∷ meta_done 10 4 (shown.Granted new_file (record { epoch = 0; size = 0 })) ∷ entry.Tick 1100
    ∷ begun 10 5 (call.Write new_file 0 0 (codes "a")) ∷ entry.Held (node 1) new_file 2100 ∷ entry.Active (node 1) new_file 0 (id_of 0 0)
    ∷ entry.Issue (node 1) new_file 1 first_write ∷ entry.Commit (node 1) new_file 1 first_write ∷ entry.Answer (node 1) new_file first_write 1 []
    ∷ is_done 10 5 1 [] ∷ []

-- A stop leaves out the entry of a file whose record is kept: the next start reports it. A later one doesn't report it again.
abbrev pub left_out : List Line
left_out =
    serving ++ line.Crash (node 901) 3 165 ∷ asks 10 makes_file ++ start_at 901 0 ∷ line.Stop (node 901) ∷ start_at 901 0 ∷ []

abbrev pub left_out_trace : List Entry
left_out_trace =
    serving_trace
    ++ begun 10 3 makes_file ∷ entry.Down (node 901) 0 halt.Kept ∷ is_up 901 2 0 ∷ entry.File new_file (list_of (1 ∷ []))
    ∷ entry.Down (node 901) 0 halt.Idle ∷ is_up 901 3 0 ∷ []

-- Requests to the metadata server, without a directory service.
abbrev pub metadata : List Line
metadata =
    line.Mrc ∷ client_at 10 0 ∷ start_at 901 0
    ∷ asks 10 makes_volume ++ asks 10 makes_volume ++ asks 10 (meta_of 1 (ask.Create (codes "/v/a") 420 kind.Replicated 3 131072))
    ++ asks 10 (meta_of 2 (ask.Mkdir (codes "/v/d") 493)) ++ asks 10 (meta_of 1 (ask.Stat (codes "/v")))

abbrev pub metadata_trace : List Entry
metadata_trace =
    is_up 10 1 0 ∷ is_up 901 1 0 ∷ begun 10 1 makes_volume ∷ meta_done 10 1 shown.Done
    ∷ begun 10 2 makes_volume ∷ meta_done 10 2 (shown.Refused meta_refusal.Exists)
    ∷ begun 10 3 (meta_of 1 (ask.Create (codes "/v/a") 420 kind.Replicated 3 131072)) ∷ meta_done 10 3 (shown.Refused (meta_refusal.TooFew 0))
    ∷ begun 10 4 (meta_of 2 (ask.Mkdir (codes "/v/d") 493)) ∷ meta_done 10 4 (shown.Refused (meta_refusal.Forbidden 2))
    ∷ begun 10 5 (meta_of 1 (ask.Stat (codes "/v"))) ∷ meta_done 10 5 (shown.Row row_kind.Directory 1 1 493 (record { epoch = 0; size = 0 })) ∷ []

-- Requests to the directory service.
abbrev pub removes_first : Call
removes_first = call.Registry (wish.Remove (node 1) 1)

abbrev pub gets_first : Call
gets_first = call.Registry (wish.Get (node 1))

abbrev pub registry : List Line
registry =
    line.Dir ∷ client_at 10 0 ∷ start_at 900 0 ∷ asks 10 sets_first ++ asks 10 sets_first ++ asks 10 removes_first ++ asks 10 gets_first

abbrev pub registry_trace : List Entry
registry_trace =
    is_up 10 1 0 ∷ is_up 900 1 0 ∷ begun 10 1 sets_first ∷ row_done 10 1 (told.Done 1) ∷ begun 10 2 sets_first ∷ row_done 10 2 (told.Changed 1)
    ∷ begun 10 3 removes_first ∷ row_done 10 3 (told.Done 0) ∷ begun 10 4 gets_first ∷ row_done 10 4 told.Absent ∷ []
