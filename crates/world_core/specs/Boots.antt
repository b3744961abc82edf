-- the numbers of starts
use Rattle.std.specs.Prelude.{◌+◌, nat_lt, if◌then◌else◌, Option, Some, None}
use Rattle.xt_base.specs.declared.ids.Boot.{Boot}
use Rattle.xt_base.specs.declared.TheConstants.{COUNTS}

-- the start after the last one, where there is one within the limit
abbrev pub boot_behind : Boot → Option Boot
boot_behind last = if nat_lt (last.0 + 1) COUNTS then Some (record { 0 = last.0 + 1 }) else None
