-- the servers and an OSD as roles of nodes
use Rattle.std.specs.Prelude.{ℕ, Option, Some, None, List}
use Rattle.xt_base.specs.declared.ids.NodeId.{NodeId}
use Rattle.xt_messages.specs.declared.record.Record.{Record}
use Rattle.xt_protocol.specs.Forgetting.{keep_of, osd_without}
use Rattle.xt_protocol.specs.OsdSteps.{OsdState, OsdStep, step_of_osd}
use Rattle.osd_core.specs.Keys.{outside_of, stops_by}
use Rattle.world_limits.specs.States.{KeptIs}
use Rattle.osd_limits.specs.Keeping.{RunsOn}
use Rattle.client_rows.specs.Steps.{Step}
use Rattle.capabilities.specs.Stops.{is_stop}
use Rattle.server_rows.specs.Directory.{DirState, DirStep, step_of_dir}
use Rattle.server_rows.specs.Metadata.{MrcState, MrcStep, step_of_mrc}
use Rattle.node_runs.specs.Runs.{Role}

abbrev pub dir_steps : DirStep → Step DirState
dir_steps step = record { state = step.dir; turned = step.turned }

-- the directory service under a key: its steps need no clock and no records, and it holds no bodies
abbrev pub dir_role : List ℕ → Role DirState
dir_role key = record {
  node = record { 0 = 900 };
  step = λ kept state clock happens. dir_steps (step_of_dir state happens);
  stops = λ msg. is_stop key msg.payload;
  keeps = λ state. None;
  without = λ keep state. state;
}

abbrev pub mrc_steps : MrcStep → Step MrcState
mrc_steps step = record { state = step.mrc; turned = step.turned }

-- the metadata server under a key: its steps need no records, and it holds no bodies
abbrev pub mrc_role : List ℕ → Role MrcState
mrc_role key = record {
  node = record { 0 = 901 };
  step = λ kept state clock happens. mrc_steps (step_of_mrc key state clock happens);
  stops = λ msg. is_stop key msg.payload;
  keeps = λ state. None;
  without = λ keep state. state;
}

abbrev pub osd_steps : OsdStep → Step OsdState
osd_steps step = record { state = step.osd; turned = step.turned }

-- this OSD under a key, where it has one
abbrev pub osd_role : NodeId → Option (List ℕ) → Role OsdState
osd_role node key = record {
  node = node;
  step = λ kept state clock happens. osd_steps (step_of_osd (outside_of key kept) state clock happens);
  stops = λ msg. stops_by key msg.payload;
  keeps = λ state. Some (keep_of state);
  without = osd_without;
}

-- An OSD runs on these records: they are within their limits and in their places, it has of each file what they say, and all that
-- it may send or keep is within the limits.
pub record OsdRunsOn (records : List Record) (osd : OsdState) : Type 0 where
  pub kept : KeptIs records
  pub runs : RunsOn records osd
