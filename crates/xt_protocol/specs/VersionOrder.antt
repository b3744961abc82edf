-- stamps and versions compared
use Rattle.std.specs.Ordering.{ordering_then, nat_cmp}
use Rattle.std.specs.declared.cmp.Ordering.{Ordering}
use Rattle.xt_base.specs.declared.ids.Stamp.{Stamp}
use Rattle.xt_messages.specs.declared.file.ObjectVersion.{ObjectVersion}

-- by epoch, then count
abbrev pub stamp_cmp : Stamp → Stamp → Ordering
stamp_cmp a b =
    ordering_then (ordering_then (nat_cmp a.epoch.number b.epoch.number) (nat_cmp a.epoch.node.0 b.epoch.node.0)) (nat_cmp a.count b.count)

-- by object, then stamp
abbrev pub version_cmp : ObjectVersion → ObjectVersion → Ordering
version_cmp a b = ordering_then (nat_cmp a.object b.object) (stamp_cmp a.version b.version)
