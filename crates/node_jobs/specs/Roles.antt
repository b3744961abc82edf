-- the jobs of the three kinds of nodes
use Rattle.std.specs.Prelude.{ℕ, ◌++◌, ◌∷◌, [], Some, List, codes}
use Rattle.xt_base.specs.declared.ids.NodeId.{NodeId}
use Rattle.xt_protocol.specs.OsdSteps.{OsdState}
use Rattle.command_words.specs.declared.job.Serving.{Serving}
use Rattle.server_rows.specs.Directory.{DirState, dir_of}
use Rattle.server_rows.specs.Metadata.{MrcState, mrc_of}
use Rattle.node_runs.specs.Hearing.{no_ears}
use Rattle.node_roles.specs.Roles.{dir_role, mrc_role, osd_role}
use Rattle.node_jobs.specs.Jobs.{NodeJob, knows_dir, period_of, osd_at, osd_ready}

-- the directory service
abbrev pub dir_job : Serving → NodeJob DirState
dir_job serving = record {
  role = dir_role serving.key;
  state_of = λ records reading. dir_of records;
  ready = codes "ready 900" ++ 10 ∷ [];
  ears = no_ears;
  period = period_of serving.settings.times;
  turns = serving.settings.turns;
  limit = serving.settings.limit;
}

-- a metadata server, where the directory service is reached at this address
abbrev pub mrc_job : List ℕ → Serving → NodeJob MrcState
mrc_job directory serving = record {
  role = mrc_role serving.key;
  state_of = λ records reading. mrc_of serving.key records reading;
  ready = codes "ready 901" ++ 10 ∷ [];
  ears = knows_dir directory;
  period = period_of serving.settings.times;
  turns = serving.settings.turns;
  limit = serving.settings.limit;
}

-- this OSD, where it is reached there
abbrev pub osd_job : NodeId → List ℕ → Serving → NodeJob OsdState
osd_job id directory serving = record {
  role = osd_role id (Some serving.key);
  state_of = osd_at id serving.settings.times;
  ready = osd_ready id;
  ears = knows_dir directory;
  period = period_of serving.settings.times;
  turns = serving.settings.turns;
  limit = serving.settings.limit;
}
