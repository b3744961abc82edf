-- what a node finds that starts again
use Rattle.std.specs.Prelude.{◌≡◌, List}
use Rattle.xt_base.specs.declared.ids.NodeId.{NodeId}
use Rattle.xt_messages.specs.declared.record.Record.{Record}
use Rattle.xt_protocol.specs.Folds.{fold_of, logged_of}
use Rattle.world_spec.specs.World.{loads}
use Rattle.world_hull.specs.Appends.{Logs, with_deed}

-- These records say what the node's records say, with its requests in their order. They were loaded, and each node keeps what it kept.
pub record IsRevived (old new : Logs) (node : NodeId) (found : List Record) : Type 0 where
  pub says : fold_of found ≡ fold_of (old.0 node.0)
  pub logged : logged_of found ≡ logged_of (old.0 node.0)
  pub kept : new.0 ≡ old.0
  pub past : new.1 ≡ with_deed old.1 node loads
