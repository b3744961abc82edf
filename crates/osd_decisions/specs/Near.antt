-- which operations a file can take at all
use Rattle.std.specs.Prelude.{◌<◌, ◌^◌}
use Rattle.xt_messages.specs.declared.file.Op.{Op}
use Rattle.xt_messages.specs.declared.file.Op.TheVariants as op

-- no file has as many objects as a word counts
abbrev pub IsNear : Op → Type 0
IsNear (op.Write object at bytes) = object < 2 ^ 32
IsNear (op.Read object at len) = Unit {0}
IsNear (op.Truncate size) = Unit {0}
