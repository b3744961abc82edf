-- the number with which the program ends
use Rattle.std.specs.Prelude.{ℕ}
use Rattle.xt_messages.specs.declared.status.Status.{Status}
use Rattle.xt_messages.specs.declared.status.Status.TheVariants as status

abbrev pub code_of : Status → ℕ
code_of status.Done = 0
code_of status.Usage = 2
code_of (status.Malformed line) = 3
code_of (status.Illegal line rule) = 4
code_of (status.DiskFault count) = 5
code_of (status.LinkFault count) = 6
code_of (status.SourceFault count) = 7
code_of (status.SinkFault count) = 8
code_of (status.ClockFault count) = 9
code_of (status.ChildFault count) = 10
code_of (status.TurnsSpent turns) = 11
code_of status.OutOfMemory = 12
code_of (status.NotOurs first) = 13
code_of (status.Layout version) = 14
code_of (status.Limit what limit) = 15
code_of (status.JournalFull need limit) = 16
code_of (status.Broken clause entry) = 17
code_of (status.Damaged place) = 18
code_of (status.Retry answers) = 20
code_of (status.Refused rule) = 21
code_of (status.Unmended count) = 22
code_of (status.Moved count) = 23
code_of status.NotReplicated = 24
code_of (status.PinStore pins) = 25
