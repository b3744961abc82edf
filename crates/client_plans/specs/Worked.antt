-- worked commands: what they ask, what they come to and what they write
use Rattle.std.specs.Prelude.{◌≡◌, ℕ, Bool, true, false, Option, Some, None, List, [], ◌∷◌, ◌++◌, codes, replicate}
use Rattle.xt_base.specs.declared.ids.SizeMark.{SizeMark}
use Rattle.xt_messages.specs.declared.event.Call.TheVariants as call
use Rattle.xt_messages.specs.declared.file.Kind.TheVariants as kind
use Rattle.xt_messages.specs.declared.file.Capability.{Capability}
use Rattle.xt_messages.specs.declared.meta.MetaReq.TheVariants as meta
use Rattle.xt_messages.specs.declared.meta.MetaAnswer.TheVariants as told
use Rattle.xt_messages.specs.declared.meta.MetaRefusal.TheVariants as refusal_of
use Rattle.xt_messages.specs.declared.meta.RowKind.TheVariants as row_kind
use Rattle.xt_messages.specs.declared.registry.RegistryReq.TheVariants as registry
use Rattle.xt_messages.specs.declared.registry.RegistryRow.{RegistryRow}
use Rattle.xt_messages.specs.declared.registry.RegistryAnswer.TheVariants as row
use Rattle.xt_messages.specs.declared.status.Refusal.TheVariants as ends_by
use Rattle.xt_messages.specs.declared.status.Status.TheVariants as status
use Rattle.client_rows.specs.declared.requests.CallResult.{CallResult}
use Rattle.client_rows.specs.declared.requests.CallResult.TheVariants as how
use Rattle.command_words.specs.declared.job.Layout.TheVariants as layout
use Rattle.command_words.specs.declared.job.Order.{Order}
use Rattle.command_words.specs.declared.job.Order.TheVariants as order
use Rattle.client_plans.specs.declared.stage.Stage.{Stage}
use Rattle.client_plans.specs.declared.stage.Stage.TheVariants as next
use Rattle.client_plans.specs.Plans.{Task, Progress, begins, nobody, operation_of, after}

-- a user's command
abbrev pub asked_for : Order → Task
asked_for wish = record { wish = wish; user = 1; group = 2 }

abbrev pub mark_of : ℕ → ℕ → SizeMark
mark_of epoch size = record { epoch = epoch; size = size }

-- a right on a file with objects of four bytes
abbrev pub right : Capability
right = record {
  file = record { volume = []; number = 1000000 };
  mode = 2;
  expiry = 600000;
  epoch = 3;
  location = record { version = 1; kind = kind.Replicated; stripe = 4; members = [] };
  tag = [];
}

-- both lists were short, and then came this
abbrev pub listed : List CallResult → List CallResult
listed results = how.Registry (row.Rows []) ∷ how.Registry (row.Rows []) ∷ results

abbrev pub comes_to : Task → List CallResult → Progress
comes_to task results = after task [] 0 (begins task.wish) results

-- it is done, and has written this
abbrev pub done : List ℕ → Progress
done text = record { stage = next.Over status.Done; taken = 0; text = text }

abbrev pub quiet : Stage → Progress
quiet stage = record { stage = stage; taken = 0; text = [] }

abbrev pub a_put : Task
a_put = asked_for (order.Put (codes "/v/f") None (layout.Replicated 3) 131072)

-- a command that writes these bytes, once it may
abbrev pub put_comes_to : List ℕ → SizeMark → List CallResult → Progress
put_comes_to bytes mark results = after a_put bytes 0 (begins a_put.wish) (listed (how.Meta told.Done ∷ how.Meta (told.Granted right mark) ∷ results))

abbrev pub a_get : Option (ℕ × ℕ) → Order
a_get range = order.Get (codes "/v/f") range false

abbrev pub a_registration : Order
a_registration = order.Register (record { 0 = 7 }) 1 (codes "127.0.0.1:7402")

abbrev pub a_row : RegistryRow
a_row = record { node = record { 0 = 7 }; kind = 1; address = codes "127.0.0.1:7402"; version = 3 }

abbrev pub an_mrc : RegistryRow
an_mrc = record { node = record { 0 = 901 }; kind = 2; address = codes "127.0.0.1:7401"; version = 1 }

abbrev pub an_osd : RegistryRow
an_osd = record { node = record { 0 = 4294967295 }; kind = 1; address = codes "[::1]:7403"; version = 12 }

abbrev pub a_removal : Order
a_removal = order.Unregister (record { 0 = 7 })

abbrev pub IsStat : Type 0
IsStat =
    comes_to (asked_for (order.Stat (codes "/v/f"))) (listed (how.Meta (told.Row row_kind.File 1 2 420 (mark_of 2 200000)) ∷ []))
    ≡ done (codes "file 1 2 644 2 200000" ++ 10 ∷ [])

abbrev pub IsStatOfRoot : Type 0
IsStatOfRoot =
    comes_to (asked_for (order.Stat (codes "/"))) (listed (how.Meta (told.Row row_kind.Directory 0 0 511 (mark_of 5 7)) ∷ []))
    ≡ done (codes "dir 0 0 777 0 0" ++ 10 ∷ [])

-- a file on three OSDs
abbrev pub located : Bool → List CallResult
located changing = listed (how.Meta (told.Located (record {
  version = 2;
  kind = kind.Replicated;
  stripe = 131072;
  members = record { 0 = 3 } ∷ record { 0 = 1 } ∷ record { 0 = 40 } ∷ [];
}) changing) ∷ [])

-- the nodes of a file's list are shown in their order
abbrev pub AreLocated : Type 0
AreLocated =
    (operation_of (asked_for (order.Replicas (codes "/v/f"))) next.AsksOnce ≡ Some (call.Meta 1 2 (meta.Locate (codes "/v/f"))))
    × (comes_to (asked_for (order.Replicas (codes "/v/f"))) (located false) ≡ done (codes "2 3 1 40" ++ 10 ∷ []))
    × (comes_to (asked_for (order.Replicas (codes "/v/f"))) (located true) ≡ done (codes "2 3 1 40 changing" ++ 10 ∷ []))

abbrev pub IsListed : Type 0
IsListed =
    comes_to (asked_for (order.Ls (codes "/v"))) (listed (how.Meta (told.Names (codes "a" ∷ codes "bc" ∷ [])) ∷ []))
    ≡ done (codes "a" ++ 10 ∷ codes "bc" ++ 10 ∷ [])

-- no bytes need no write, and the size is the file's
abbrev pub IsEmptyPut : Type 0
IsEmptyPut = put_comes_to [] (mark_of 0 9) (how.Meta told.Done ∷ []) ≡ done (codes "9" ++ 10 ∷ [])

-- bytes are taken as they are written, and the end of them is found after the last one
abbrev pub IsPut : Type 0
IsPut =
    (put_comes_to (codes "abcdef") (mark_of 0 0) []
    ≡ record { stage = next.Writes right 0 (mark_of 0 0) (codes "abcd"); taken = 4; text = [] })
    × (put_comes_to (codes "abcdef") (mark_of 0 0) (how.Ok 1 (mark_of 0 4) [] ∷ [])
    ≡ record { stage = next.Writes right 4 (mark_of 0 4) (codes "ef"); taken = 6; text = [] })
    × (put_comes_to (codes "abcdef") (mark_of 0 0) (how.Ok 1 (mark_of 0 4) [] ∷ how.Ok 2 (mark_of 0 6) [] ∷ [])
    ≡ record { stage = next.Reports right (mark_of 0 6); taken = 6; text = [] })
    × (put_comes_to (codes "abcdef") (mark_of 0 0) (how.Ok 1 (mark_of 0 4) [] ∷ how.Ok 2 (mark_of 0 6) [] ∷ how.Meta told.Done ∷ [])
    ≡ record { stage = next.Over status.Done; taken = 6; text = codes "6" ++ 10 ∷ [] })

-- a file that is there already is written
abbrev pub IsExisting : Type 0
IsExisting = comes_to a_put (listed (how.Meta (told.Refused refusal_of.Exists) ∷ [])) ≡ quiet next.Grants

abbrev pub IsGet : Type 0
IsGet =
    comes_to (asked_for (a_get None))
    (listed (how.Meta (told.Granted right (mark_of 0 6)) ∷ how.Ok 2 (mark_of 0 6) (codes "abcd") ∷ how.Ok 2 (mark_of 0 6) (codes "ef") ∷ []))
    ≡ done (codes "abcdef")

-- in hex the line ends, also where there is nothing
abbrev pub IsHexGet : Type 0
IsHexGet =
    (comes_to (asked_for (order.Get (codes "/v/f") (Some (1, 2)) true))
    (listed (how.Meta (told.Granted right (mark_of 0 6)) ∷ how.Ok 2 (mark_of 0 6) (codes "bz") ∷ []))
    ≡ done (codes "627a" ++ 10 ∷ []))
    × (comes_to (asked_for (order.Get (codes "/v/f") (Some (1, 0)) true)) (listed (how.Meta (told.Granted right (mark_of 0 6)) ∷ []))
    ≡ done (10 ∷ []))

-- one piece is asked for also where the file's known size is below it
abbrev pub IsPastEnd : Type 0
IsPastEnd =
    comes_to (asked_for (a_get (Some (9, 9)))) (listed (how.Meta (told.Granted right (mark_of 0 6)) ∷ [])) ≡ quiet (next.Reads right 9 (mark_of 0 6))

abbrev pub IsTruncate : Type 0
IsTruncate =
    (comes_to (asked_for (order.Truncate (codes "/v/f") 5))
    (listed (how.Meta (told.Granted right (mark_of 2 6)) ∷ how.Ok 3 (mark_of 3 5) [] ∷ how.Meta told.Done ∷ [])) ≡ done [])
    × (operation_of (asked_for (order.Truncate (codes "/v/f") 5)) (next.Truncates right (mark_of 2 6)) ≡ Some (call.Truncate 1000000 5 3))

-- a row is set over the version that it has, and 0 where it isn't there
abbrev pub IsRegistered : Type 0
IsRegistered =
    (comes_to (asked_for a_registration) (how.Registry (row.Row a_row) ∷ []) ≡ quiet (next.Sets 3))
    × (operation_of (asked_for a_registration) (next.Sets 3)
    ≡ Some (call.Registry (registry.Set (record { 0 = 7 }) 1 (codes "127.0.0.1:7402") 3)))

abbrev pub IsAbsent : Type 0
IsAbsent =
    (comes_to (asked_for a_registration) (how.Registry row.Absent ∷ []) ≡ quiet (next.Sets 0))
    × (comes_to (asked_for a_registration) (how.Registry row.Absent ∷ how.Registry (row.Changed 1) ∷ [])
    ≡ quiet (next.Over (status.Refused (ends_by.Changed 1))))

-- a row is removed under the version that it has
abbrev pub IsUnregistered : Type 0
IsUnregistered =
    (comes_to (asked_for a_removal) (how.Registry (row.Row a_row) ∷ []) ≡ quiet (next.Sets 3))
    × (operation_of (asked_for a_removal) next.Looks ≡ Some (call.Registry (registry.Get (record { 0 = 7 }))))
    × (operation_of (asked_for a_removal) (next.Sets 3) ≡ Some (call.Registry (registry.Remove (record { 0 = 7 }) 3)))
    × (comes_to (asked_for a_removal) (how.Registry (row.Row a_row) ∷ how.Registry (row.Done 0) ∷ []) ≡ done [])
    × (comes_to (asked_for a_removal) (how.Registry (row.Row a_row) ∷ how.Registry (row.Changed 4) ∷ [])
    ≡ quiet (next.Over (status.Refused (ends_by.Changed 4))))

-- what the DIR answers to the removal of a row that isn't there
abbrev pub IsNotThere : Type 0
IsNotThere =
    (comes_to (asked_for a_removal) (how.Registry row.Absent ∷ []) ≡ quiet (next.Sets 0))
    × (comes_to (asked_for a_removal) (how.Registry row.Absent ∷ how.Registry row.Absent ∷ [])
    ≡ quiet (next.Over (status.Refused ends_by.Absent)))

-- All rows are shown by their nodes, those of the MRCs among those of the OSDs, once the last page was told.
abbrev pub AreShown : Type 0
AreShown =
    (operation_of (asked_for order.Nodes) (begins order.Nodes) ≡ Some (call.Registry (registry.List 2 nobody)))
    × (comes_to (asked_for order.Nodes) (how.Registry (row.Rows (an_mrc ∷ [])) ∷ []) ≡ quiet (next.Collects 1 nobody (an_mrc ∷ [])))
    × (comes_to (asked_for order.Nodes)
    (how.Registry (row.Rows (an_mrc ∷ [])) ∷ how.Registry (row.Rows (a_row ∷ an_osd ∷ [])) ∷ [])
    ≡ done (codes "7 1 127.0.0.1:7402 3" ++ 10 ∷ codes "901 2 127.0.0.1:7401 1" ++ 10 ∷ codes "4294967295 1 [::1]:7403 12" ++ 10 ∷ []))
    × (comes_to (asked_for order.Nodes) (how.Registry (row.Rows []) ∷ how.Registry (row.Rows []) ∷ []) ≡ done [])

abbrev pub IsRefused : Type 0
IsRefused =
    comes_to (asked_for (order.Mkdir (codes "/v/d"))) (listed (how.Meta (told.Refused refusal_of.NotFound) ∷ []))
    ≡ quiet (next.Over (status.Refused (ends_by.Meta refusal_of.NotFound)))

-- a list that nobody answers ends a command as any call does
abbrev pub IsRetried : Type 0
IsRetried = comes_to (asked_for (order.Mkdir (codes "/v/d"))) (how.Retry [] ∷ []) ≡ quiet (next.Over (status.Retry []))

-- a whole page isn't the last one
abbrev pub AsksPages : Type 0
AsksPages =
    (comes_to (asked_for (order.Ls (codes "/"))) (how.Registry (row.Rows (replicate 256 a_row)) ∷ []) ≡ quiet (next.Lists 2 (record { 0 = 7 })))
    × (comes_to (asked_for (order.Ls (codes "/"))) (how.Registry (row.Rows (replicate 255 a_row)) ∷ []) ≡ quiet (next.Lists 1 nobody))
    × (comes_to (asked_for order.Nodes) (how.Registry (row.Rows (replicate 256 a_row)) ∷ [])
    ≡ quiet (next.Collects 2 (record { 0 = 7 }) (replicate 256 a_row)))
    × (operation_of (asked_for (order.Ls (codes "/"))) (next.Pages (codes "m")) ≡ Some (call.Meta 1 2 (meta.List (codes "/") (codes "m"))))

-- where the pieces of writes and reads lie on their objects
abbrev pub AsksPieces : Type 0
AsksPieces =
    (operation_of a_put (next.Writes right 0 (mark_of 0 0) (codes "abcd")) ≡ Some (call.Write 1000000 0 0 (codes "abcd")))
    × (operation_of a_put (next.Writes right 4 (mark_of 0 4) (codes "ef")) ≡ Some (call.Write 1000000 1 0 (codes "ef")))
    × (operation_of (asked_for (a_get (Some (6, 9)))) (next.Reads right 6 (mark_of 0 6)) ≡ Some (call.Read 1000000 1 2 2))
    × (operation_of a_put next.Creates ≡ Some (call.Meta 1 2 (meta.Create (codes "/v/f") 420 kind.Replicated 3 131072)))
