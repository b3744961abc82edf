use Rattle.std.proofs.Common.{◌≡◌, ◌++◌, map, take}
use Rattle.xt_messages.specs.declared.record.KeepBody.{KeepBody}
use Rattle.replica_records.proofs.keeping.put_named.Given as goal

-- the versions so far are named
abbrev pub invariant-loop-version : goal.invariant-loop-version
invariant-loop-version l =
    l.keep
    ≡ l.initial.keep
    ++ map (λ v. let body : KeepBody = record { file = l.row.file; object = v.object; version = v.version } in body) (take l.version-index l.version-items)
