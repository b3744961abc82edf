-- what a read-ahead shows
use Rattle.std.specs.Prelude.{ℕ}
use Rattle.disk_model.specs.declared.disk.Disk.{Ghosts}
use Rattle.xt_journal.specs.declared.ahead.ReadAhead.{ReadAhead}

module _ {D : Type 0} {g : Ghosts D} where
  -- the disk that it reads
  abbrev pub source_of : ReadAhead D g → D
  source_of ahead = ahead.disk.now

  -- where what it reads ends at the latest
  abbrev pub size_of : ReadAhead D g → ℕ
  size_of ahead = ahead.size
