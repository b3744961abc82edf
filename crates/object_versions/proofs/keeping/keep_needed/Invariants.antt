use Rattle.std.proofs.Common.{◌≡◌, ◌++◌}
use Rattle.object_versions.specs.Keeping.{needed_among}
use Rattle.object_versions.proofs.keeping.keep_needed.Given as goal

-- what is kept so far, and what is needed of the held bodies that are left
abbrev pub invariant-loop-version : goal.invariant-loop-version
invariant-loop-version l =
    l.keep ++ needed_among l.file l.needed.head l.needed.led l.needed.staged.now l.version-iterator
    ≡ l.initial.keep ++ needed_among l.file l.needed.head l.needed.led l.needed.staged.now l.held
