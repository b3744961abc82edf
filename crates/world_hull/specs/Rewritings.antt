-- what a hull makes of a node's records where it rewrites them
use Rattle.std.specs.Prelude.{ℕ, Bool, true, false, ◌≡◌, ◌==◌, if◌then◌else◌, List}
use Rattle.std.specs.List.{All}
use Rattle.xt_base.specs.declared.ids.NodeId.{NodeId}
use Rattle.xt_messages.specs.Limits.{FitsRecord}
use Rattle.xt_messages.specs.declared.record.KeepBody.{KeepBody}
use Rattle.xt_messages.specs.declared.record.Record.{Record}
use Rattle.xt_protocol.specs.Folds.{nothing_kept, AreInPlace}
use Rattle.xt_protocol.specs.Forgetting.{rewritten}
use Rattle.world_spec.specs.NodeSteps.{Doing, Room}
use Rattle.world_spec.specs.World.{Deed, rewrites}
use Rattle.world_hull.specs.Appends.{Logs, with_deed}

-- Records may be rewritten with these bodies: each record that they become is within its limits, and in its place after those
-- before it. So no version that a head names is forgotten.
pub record MayBecome (keep : List KeepBody) (records : List Record) : Type 0 where
  pub limits : All FitsRecord (rewritten keep records)
  pub places : AreInPlace nothing_kept (rewritten keep records)

-- the records are rewritten at no choice of bodies
abbrev pub IsNeverNow : Room → List Deed → Type 0
IsNeverNow room past = (keep : List KeepBody) → room.rewrites_now past keep ≡ false

-- no records are rewritten after a step that put none
abbrev pub RewritesAfterPuts : Room → Type 0
RewritesAfterPuts room = (d : Doing) (id : NodeId) (past : List Deed) (keep : List KeepBody) → room.rewrites_idle d id past keep ≡ false

-- the records of each node, those of this node rewritten with these bodies
abbrev pub with_rewritten : (ℕ → List Record) → NodeId → List KeepBody → ℕ → List Record
with_rewritten records node keep n = if n == node.0 then rewritten keep (records n) else records n

-- each node's records, and what was done to them, where this node's were rewritten or weren't
abbrev pub logs_after : Logs → NodeId → List KeepBody → Bool → Logs
logs_after old node keep true = (with_rewritten old.0 node keep, with_deed old.1 node (rewrites keep))
logs_after old node keep false = old

-- The node's records were rewritten with these bodies exactly where they are to be, and nothing else has changed.
pub record IsCompacted (room : Room) (old new : Logs) (node : NodeId) (keep : List KeepBody) (rewrote : Bool) : Type 0 where
  pub due : rewrote ≡ room.rewrites_now (old.1 node.0) keep
  pub kept : new.0 ≡ (logs_after old node keep rewrote).0
  pub past : new.1 ≡ (logs_after old node keep rewrote).1
