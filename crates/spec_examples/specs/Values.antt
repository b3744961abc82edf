-- nodes, files, epochs and stamps by their numbers
use Rattle.std.specs.Prelude.{ℕ, replicate}
use Rattle.xt_base.specs.declared.ids.NodeId.{NodeId}
use Rattle.xt_base.specs.declared.ids.FileId.{FileId}
use Rattle.xt_base.specs.declared.ids.Epoch.{Epoch}
use Rattle.xt_base.specs.declared.ids.Stamp.{Stamp}

abbrev pub node : ℕ → NodeId
node number = record { 0 = number }

-- this file of the nil volume
abbrev pub file : ℕ → FileId
file number = record { volume = replicate 16 0; number = number }

abbrev pub epoch : ℕ → ℕ → Epoch
epoch number owner = record { number = number; node = node owner }

abbrev pub stamp : ℕ → ℕ → ℕ → Stamp
stamp number owner count = record { epoch = epoch number owner; count = count }
