-- A short run of a file at one OSD: a byte is written by one call, and read by the next.
use Rattle.std.specs.Prelude.{◌≡◌, ℕ, true, ◌==◌, if◌then◌else◌, List, [], ◌∷◌, flat_map, Option, None, Some, replicate}
use Rattle.xt_base.specs.declared.ids.NodeId.{NodeId}
use Rattle.xt_base.specs.declared.ids.FileId.{FileId}
use Rattle.xt_base.specs.declared.ids.OpId.{OpId}
use Rattle.xt_messages.specs.declared.event.Mark.TheVariants as mark
use Rattle.xt_messages.specs.declared.file.Capability.{Capability}
use Rattle.xt_messages.specs.declared.file.Kind.TheVariants as kind
use Rattle.xt_messages.specs.declared.file.Op.{Op}
use Rattle.xt_messages.specs.declared.file.Op.TheVariants as op
use Rattle.xt_messages.specs.declared.message.Payload.TheVariants as payload
use Rattle.xt_protocol.specs.Folds.{new_row}
use Rattle.xt_protocol.specs.LeaseRows.{Awake}
use Rattle.xt_protocol.specs.FileStates.{FileState, Site, file_from}
use Rattle.replica_safety.specs.Rules.{first_start}
use Rattle.file_runs.specs.FileRuns.{Sent, FileWorld, Happening, message, wake, goes_on, Event, acts, starts, after, first_world, after_all, MayAll, BeginsFile}

abbrev pub the_file : FileId
the_file = record { volume = replicate 16 0; number = 1 }

abbrev pub node_one : NodeId
node_one = record { 0 = 1 }

abbrev pub client : NodeId
client = record { 0 = 900 }

abbrev pub awake_one : Awake
awake_one = record { node = node_one; boot = record { 0 = 1 }; times = record { lease = 14000; drift = 1000 } }

abbrev pub the_capability : Capability
the_capability = record {
  file = the_file;
  mode = 2;
  expiry = 1000000;
  epoch = 0;
  location = record { kind = kind.Replicated; version = 1; stripe = 1024; members = node_one ∷ [] };
  tag = replicate 32 0;
}

-- the first call writes a byte, the second one reads it
abbrev pub calls : ℕ × ℕ → Op
calls id = if id.1 == 1 then op.Write 0 0 (97 ∷ []) else op.Read 0 0 1

abbrev pub id_of : ℕ → OpId
id_of number = record { client = client; number = number }

abbrev pub asks : ℕ → Op → Happening
asks number asked = message client (payload.Ask number the_capability asked)

abbrev pub empty_world : FileWorld
empty_world = first_world the_file

abbrev pub site_in : FileWorld → Site
site_in w = record { node = node_one; times = awake_one.times; now = 0; sealed = λ c. true; body = λ f. (w.nodes 1).body }

abbrev pub state_of : Option FileState → FileState
state_of None = file_from awake_one (new_row the_file)
state_of (Some s) = s

abbrev pub does : FileWorld → Happening → Event
does w happens = acts 1 (state_of (w.nodes 1).state) (site_in w) happens goes_on

-- the newest message comes
abbrev pub newest : List Sent → Happening
newest [] = wake
newest (x ∷ xs) = message (record { 0 = x.from }) x.content

abbrev pub delivers : FileWorld → Event
delivers w = does w (newest w.sent)

abbrev pub world_1 : FileWorld
world_1 = after empty_world (starts 1 awake_one)

abbrev pub world_2 : FileWorld
world_2 = after world_1 (does world_1 (asks 1 (op.Write 0 0 (97 ∷ []))))

abbrev pub world_3 : FileWorld
world_3 = after world_2 (delivers world_2)

abbrev pub world_4 : FileWorld
world_4 = after world_3 (delivers world_3)

abbrev pub world_5 : FileWorld
world_5 = after world_4 (delivers world_4)

abbrev pub world_6 : FileWorld
world_6 = after world_5 (delivers world_5)

abbrev pub world_7 : FileWorld
world_7 = after world_6 (delivers world_6)

abbrev pub world_8 : FileWorld
world_8 = after world_7 (delivers world_7)

abbrev pub world_9 : FileWorld
world_9 = after world_8 (delivers world_8)

abbrev pub world_10 : FileWorld
world_10 = after world_9 (delivers world_9)

abbrev pub world_11 : FileWorld
world_11 = after world_10 (delivers world_10)

abbrev pub world_12 : FileWorld
world_12 = after world_11 (delivers world_11)

-- The round is read and written, the epoch drawn, gathered and installed; the write is issued, taken and committed; then the read.
abbrev pub sample : List Event
sample =
    starts 1 awake_one ∷ does world_1 (asks 1 (op.Write 0 0 (97 ∷ []))) ∷ delivers world_2 ∷ delivers world_3 ∷ delivers world_4 ∷ delivers world_5
    ∷ delivers world_6 ∷ delivers world_7 ∷ delivers world_8 ∷ delivers world_9 ∷ delivers world_10 ∷ delivers world_11 ∷ does world_12 (asks 2 (op.Read 0 0 1)) ∷ []

pub record SampleRuns : Type 0 where
  pub begins : BeginsFile 1024 (1 ∷ []) first_start empty_world
  pub runs : MayAll 1024 calls (1 ∷ []) empty_world sample
  pub marks : flat_map (λ t. t.marks) (after_all empty_world sample).tales
      ≡ mark.Answer 1 (id_of 2) 1 (97 ∷ []) ∷ mark.Commit 1 1 (id_of 1) ∷ mark.Answer 1 (id_of 1) 1 [] ∷ mark.Active 1 0 (record { client = record { 0 = 0 }; number = 0 }) ∷ mark.Issue 1 1 (id_of 1) ∷ mark.Held 1 14000 ∷ []
