-- what is reserved on the disk that is attached
use Rattle.std.specs.Prelude.{ℕ, Option, None, Some}
use Rattle.named_disks.specs.declared.chosen.Chosen.{Chosen}

abbrev pub reserved_in : Option Chosen → ℕ
reserved_in None = 0
reserved_in (Some chosen) = chosen.disk.reserved

abbrev pub room_in : Option Chosen → ℕ
room_in None = 0
room_in (Some chosen) = chosen.disk.room
