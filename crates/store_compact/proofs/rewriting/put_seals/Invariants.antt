use Rattle.std.proofs.Common.{◌≡◌, ◌++◌, map, take}
use Rattle.xt_messages.specs.declared.record.Record.TheVariants as kept
use Rattle.store_compact.specs.Adding.{plain}
use Rattle.store_compact.proofs.rewriting.put_seals.Given as goal

-- the digests so far are put
abbrev pub invariant-loop-digest : goal.invariant-loop-digest
invariant-loop-digest l =
    l.made.items ≡ l.initial.made.items ++ map plain (map (λ digest. kept.Seal l.file l.version.object l.version.version digest) (take l.digest-index l.digests))
