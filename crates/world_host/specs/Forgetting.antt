-- what a running node needs of the bodies that it holds, and what it is once it has forgotten the others
use Rattle.std.specs.Prelude.{Option, Some, None, List}
use Rattle.xt_messages.specs.declared.record.KeepBody.{KeepBody}
use Rattle.xt_protocol.specs.Forgetting.{keep_of, osd_without}
use Rattle.world_spec.specs.World.{Core, osd, client, mrc, dir, Running}

-- the held bodies that an OSD needs; no other node holds one
abbrev pub needed_at : Core → Option (List KeepBody)
needed_at (osd state) = Some (keep_of state)
needed_at (client state) = None
needed_at (mrc state) = None
needed_at (dir state) = None

-- a core without the held bodies that aren't among these
abbrev pub forgets : List KeepBody → Core → Core
forgets keep (osd state) = osd (osd_without keep state)
forgets keep (client state) = client state
forgets keep (mrc state) = mrc state
forgets keep (dir state) = dir state

-- what is needed where an OSD runs
abbrev pub needed_by : Option Running → Option (List KeepBody)
needed_by None = None
needed_by (Some running) = needed_at running.core

-- a running node without the held bodies that aren't among these
abbrev pub running_without : List KeepBody → Running → Running
running_without keep running = record running { core = forgets keep running.core }
