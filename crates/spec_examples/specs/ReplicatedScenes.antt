-- calls on a replicated file
use Rattle.std.specs.Prelude.{List, [], ◌∷◌, codes}
use Rattle.xt_messages.specs.declared.reply.Reply.TheVariants as reply
use Rattle.xt_messages.specs.declared.reply.Denial.TheVariants as denial
use Rattle.xt_messages.specs.declared.reply.Retry.TheVariants as retry
use Rattle.xt_messages.specs.declared.status.AskRefusal.TheVariants as refusal
use Rattle.spec_examples.specs.Values.{node}
use Rattle.spec_examples.specs.PartRows.{abc}
use Rattle.spec_examples.specs.ClientScenes.{Row, last_number, read, write, truncate, ok, no_lease, no_majority, elsewhere, makes, makes_again, aims, wakes, replies, nothing, begins, asks, done, repeats, refuses, busy, no_call, by}

-- silent replicas, of which the last one answers
abbrev pub silent : List Row
silent =
    (1100, makes (read 1 0 1), begins 1 1)
    ∷ (1100, makes (read 2 0 1), busy)
    ∷ (2099, wakes, nothing)
    ∷ (2100, wakes, asks 2 1)
    ∷ (3100, wakes, asks 3 1)
    ∷ (3100, replies 3 1 (ok 0 0 []), done 1 0 0 0)
    -- the next call begins there
    ∷ (3100, makes (read 1 0 1), begins 3 2)
    ∷ (4100, wakes, asks 1 2)
    ∷ (5100, wakes, asks 2 2)
    ∷ (6099, wakes, nothing)
    ∷ (6100, wakes, repeats 2 (by 1 retry.Silent ∷ by 2 retry.Silent ∷ by 3 retry.Silent ∷ []))
    ∷ (7100, wakes, nothing)
    ∷ []

-- silent replicas, and the call made again
abbrev pub silent_again : List Row
silent_again =
    (0, makes_again, no_call)
    ∷ (1100, makes (read 1 0 1), begins 1 1)
    ∷ (2100, wakes, asks 2 1)
    ∷ (3100, wakes, asks 3 1)
    ∷ (4100, wakes, repeats 1 (by 1 retry.Silent ∷ by 2 retry.Silent ∷ by 3 retry.Silent ∷ []))
    ∷ (4100, makes_again, asks 1 1)
    ∷ (4100, makes_again, busy)
    -- this try hasn't asked it
    ∷ (4100, replies 2 1 (ok 7 7 (codes "a")), nothing)
    ∷ (4100, replies 1 1 (ok 0 0 []), done 1 0 0 0)
    ∷ (4100, makes_again, no_call)
    ∷ (4100, makes (read 1 0 1), begins 1 2)
    ∷ []

-- Turned away by each member. One that was asked isn't asked again.
abbrev pub turned_away : List Row
turned_away =
    (0, makes (write 1 0), begins 1 1)
    ∷ (0, replies 1 1 no_lease, asks 2 1)
    ∷ (0, replies 2 1 no_majority, asks 3 1)
    ∷ (
      0,
      replies 3 1 (elsewhere 1),
      repeats 1 (by 1 (retry.NoLease 9000) ∷ by 2 (retry.NoMajority 1 2) ∷ by 3 (retry.Elsewhere (node 1) 9000) ∷ []),
    )
    ∷ (0, replies 1 1 (ok 5 5 []), nothing)
    ∷ []

-- sent on, and answered by one that turned the call away before
abbrev pub sent_on : List Row
sent_on =
    (0, makes (truncate 1), begins 1 1)
    ∷ (0, replies 1 1 (elsewhere 3), asks 3 1)
    -- no longer the target; of another call; not asked
    ∷ (0, replies 1 1 no_lease, nothing)
    ∷ (0, replies 3 2 no_majority, nothing)
    ∷ (0, replies 2 1 (ok 7 7 []), nothing)
    -- the named node isn't a member
    ∷ (0, replies 3 1 (elsewhere 9), asks 2 1)
    ∷ (0, replies 1 1 (ok 7 4 []), done 1 7 4 0)
    ∷ (0, makes (read 1 0 3), begins 1 2)
    ∷ (999, replies 1 2 no_majority, asks 2 2)
    -- a clock that goes back counts as the last one
    ∷ (0, wakes, nothing)
    ∷ (1998, wakes, nothing)
    ∷ (1999, wakes, asks 3 2)
    -- the greatest size that was learnt is known
    ∷ (1999, replies 3 2 (ok 7 3 abc), done 2 7 4 3)
    ∷ []

-- refused by a member that was asked, also where it isn't the target any more
abbrev pub refused : List Row
refused =
    (0, makes (read 1 0 1), begins 1 1)
    ∷ (0, replies 2 1 (reply.Denied denial.Mode), nothing)
    ∷ (0, replies 1 1 (reply.Denied denial.Mode), refuses 1 (refusal.Denied denial.Mode))
    ∷ (0, makes_again, no_call)
    ∷ (0, makes (read 1 0 1), begins 1 2)
    ∷ (0, replies 1 2 (reply.OldList 2), refuses 2 (refusal.OldList 2))
    ∷ (0, makes (write 1 0), begins 1 3)
    ∷ (0, replies 1 3 no_lease, asks 2 3)
    ∷ (0, replies 1 3 (reply.OldEpoch 5), refuses 3 (refusal.OldEpoch 5))
    ∷ (0, makes (write 1 16384), begins 1 4)
    ∷ (0, replies 1 4 (reply.TooFar 16384), refuses 4 (refusal.TooFar 16384))
    ∷ (0, makes (write 1 0), begins 1 5)
    ∷ (0, replies 1 5 reply.ClientsFull, refuses 5 refusal.ClientsFull)
    ∷ []

-- aimed at a member, and at a node that is none
abbrev pub aimed : List Row
aimed =
    (0, aims 2, nothing)
    ∷ (0, makes (read 1 0 1), begins 2 1)
    ∷ (0, replies 2 1 no_lease, asks 1 1)
    ∷ (0, replies 1 1 (ok 0 0 []), done 1 0 0 0)
    ∷ (0, aims 9, nothing)
    ∷ (0, makes (read 1 0 1), begins 1 2)
    ∷ []

-- after the last number there is none
abbrev pub last : List Row
last =
    (0, makes (read 1 0 1), begins 1 last_number)
    ∷ (0, replies 1 last_number (ok 0 0 []), done last_number 0 0 0)
    ∷ (0, makes (read 1 0 1), nothing)
    ∷ []
