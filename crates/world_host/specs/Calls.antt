-- a client's calls and aims, by the file that a schedule declares, if it does
use Rattle.std.specs.Prelude.{ℕ, true, ◌≡◌, Option, Some, None, List}
use Rattle.std.specs.Option.{option_or}
use Rattle.xt_base.specs.declared.ids.NodeId.{NodeId}
use Rattle.xt_base.specs.declared.ids.FileId.{FileId}
use Rattle.xt_messages.specs.declared.event.Call.{Call}
use Rattle.client_rows.specs.Clients.{knows, aimed}
use Rattle.client_rows.specs.Holding.{Held, held_of}
use Rattle.client_rows.specs.Requests.{is_ready}
use Rattle.world_spec.specs.declared.PlacedFile.{PlacedFile}
use Rattle.world_spec.specs.World.{Running, Core, osd, client, mrc, dir, file_in}
use Rattle.world_spec.specs.Rules.{file_held, held_by}
use Rattle.world_spec.specs.Lines.{about_to_use}

-- the file of a call, if a schedule declares it
abbrev pub declared_of : List PlacedFile → Option ℕ → Option PlacedFile
declared_of files None = None
declared_of files (Some number) = file_in files number

-- A client's call uses a declared file, or one that it holds, or none.
abbrev pub IsUsable : Option PlacedFile → Call → Core → Type 0
IsUsable declared c (osd state) = Unit {0}
IsUsable declared c (client state) = is_ready (about_to_use state c declared).held c ≡ true
IsUsable declared c (mrc state) = Unit {0}
IsUsable declared c (dir state) = Unit {0}

-- a client's first target for a file is this member
abbrev pub aims_on : FileId → NodeId → Core → Core
aims_on file node (osd state) = osd state
aims_on file node (client state) = client (record state { replicas = knows state.replicas file (aimed node) })
aims_on file node (mrc state) = mrc state
aims_on file node (dir state) = dir state

-- the file of this number, as a client may use it that holds so much: the declared one, or else the one that it holds
abbrev pub found_with : Option PlacedFile → Held → ℕ → Option PlacedFile
found_with declared held number = option_or declared (file_held (held_of held number))

abbrev pub aims_at_found : Option PlacedFile → NodeId → Core → Core
aims_at_found None node core = core
aims_at_found (Some f) node core = aims_on f.file node core

-- a client's first target for the file of this number, which is declared or else held, is this member
abbrev pub targets : Option PlacedFile → ℕ → NodeId → Running → Running
targets declared number node running =
    record running { core = aims_at_found (found_with declared (held_by running.core) number) node running.core }
