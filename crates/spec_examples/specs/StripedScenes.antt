-- calls on a striped file
use Rattle.std.specs.Prelude.{List, [], ◌∷◌}
use Rattle.xt_messages.specs.declared.reply.Reply.TheVariants as reply
use Rattle.xt_messages.specs.declared.reply.Denial.TheVariants as denial
use Rattle.xt_messages.specs.declared.reply.Retry.TheVariants as retry
use Rattle.xt_messages.specs.declared.status.AskRefusal.TheVariants as refusal
use Rattle.spec_examples.specs.Values.{node}
use Rattle.spec_examples.specs.PartRows.{abc}
use Rattle.spec_examples.specs.ClientScenes.{Row, read, write, truncate, ok, no_lease, no_majority, elsewhere, makes, makes_again, gets, wakes, replies, nothing, begins, asks, done, repeats, refuses, no_call, by}

-- A read is cut where the file ends by all that was learnt. The object 4 is the second member's, and begins at byte
-- 4096.
abbrev pub cut : List Row
cut =
    (0, gets 2 0 1, nothing)
    ∷ (0, makes (read 2 4 3), begins 2 1)
    ∷ (0, replies 3 1 (ok 9 9000 abc), nothing)
    ∷ (0, replies 2 2 (ok 9 9000 abc), nothing)
    ∷ (0, replies 2 1 (ok 1 4098 abc), done 1 1 4098 2)
    ∷ (0, makes (read 2 4 3), begins 2 2)
    ∷ (0, replies 2 2 (ok 1 4097 abc), done 2 1 4098 2)
    ∷ (0, makes (read 2 4 3), begins 2 3)
    ∷ (0, replies 2 3 (ok 2 9000 abc), done 3 2 9000 3)
    -- an object after the end, and one whose bytes have no number of 64 bits
    ∷ (0, makes (read 2 9 3), begins 1 4)
    ∷ (0, replies 1 4 (ok 2 1 abc), done 4 2 9000 0)
    ∷ (0, makes (read 2 18446744073709551615 3), begins 1 5)
    ∷ (0, replies 1 5 (ok 2 1 abc), done 5 2 9000 0)
    -- a size under a greater truncate epoch takes the place of all others
    ∷ (0, gets 2 1 2, nothing)
    ∷ (0, makes (read 2 0 3), begins 1 6)
    ∷ (0, replies 1 6 (ok 2 9000 abc), done 6 2 2 2)
    ∷ []

-- only the owner of the object is asked
abbrev pub away : List Row
away =
    (0, makes (read 2 1 3), begins 2 1)
    ∷ (0, replies 1 1 no_lease, nothing)
    ∷ (0, replies 2 1 (elsewhere 3), repeats 1 (by 2 (retry.Elsewhere (node 3) 9000) ∷ []))
    ∷ (0, makes_again, asks 2 1)
    ∷ (999, wakes, nothing)
    ∷ (1000, wakes, repeats 1 (by 2 retry.Silent ∷ []))
    ∷ (1000, makes_again, asks 2 1)
    ∷ (1000, replies 2 1 no_majority, repeats 1 (by 2 (retry.NoMajority 1 2) ∷ []))
    ∷ (1000, makes_again, asks 2 1)
    ∷ (1000, replies 2 1 no_lease, repeats 1 (by 2 (retry.NoLease 9000) ∷ []))
    ∷ (1000, makes_again, asks 2 1)
    ∷ (1000, replies 2 1 (ok 1 1 []), done 1 1 1 0)
    ∷ []

-- refused by the owner of the object; another member does nothing
abbrev pub refused : List Row
refused =
    (0, makes (write 2 2), begins 3 1)
    ∷ (0, replies 1 1 (reply.Denied denial.Mode), nothing)
    ∷ (0, replies 3 1 (reply.Denied denial.Mode), refuses 1 (refusal.Denied denial.Mode))
    ∷ (0, makes_again, no_call)
    ∷ (0, makes (write 2 2), begins 3 2)
    ∷ (0, replies 3 2 (reply.OldList 2), refuses 2 (refusal.OldList 2))
    ∷ (0, makes (write 2 2), begins 3 3)
    ∷ (0, replies 1 3 (reply.OldEpoch 5), nothing)
    ∷ (0, replies 3 3 (reply.OldEpoch 5), refuses 3 (refusal.OldEpoch 5))
    ∷ (0, makes (write 2 12288), begins 1 4)
    ∷ (0, replies 1 4 (reply.TooFar 4096), refuses 4 (refusal.TooFar 4096))
    ∷ (0, makes (write 2 2), begins 3 5)
    ∷ (0, replies 3 5 reply.ClientsFull, refuses 5 refusal.ClientsFull)
    ∷ []

-- a truncation goes through the members, each with a deadline of its own
abbrev pub truncated : List Row
truncated =
    (0, makes (truncate 2), begins 1 1)
    ∷ (0, replies 2 1 (ok 1 0 []), nothing)
    ∷ (0, replies 2 1 reply.ClientsFull, nothing)
    ∷ (500, replies 1 1 (ok 1 0 []), asks 2 1)
    ∷ (500, replies 1 1 (ok 1 0 []), nothing)
    ∷ (1499, wakes, nothing)
    ∷ (1499, replies 2 1 (ok 1 0 []), asks 3 1)
    ∷ (1499, replies 1 1 no_lease, nothing)
    ∷ (1499, replies 3 1 (ok 2 0 []), done 1 2 0 0)
    -- one that has truncated refuses
    ∷ (1499, makes (truncate 2), begins 1 2)
    ∷ (1499, replies 1 2 (ok 1 0 []), asks 2 2)
    ∷ (1499, replies 1 2 reply.ClientsFull, refuses 2 refusal.ClientsFull)
    -- the second one is silent; made again, it begins with the first one
    ∷ (1499, makes (truncate 2), begins 1 3)
    ∷ (1499, replies 1 3 (ok 1 0 []), asks 2 3)
    ∷ (2499, wakes, repeats 3 (by 2 retry.Silent ∷ []))
    ∷ (2499, makes_again, asks 1 3)
    ∷ (2499, replies 2 3 (ok 1 0 []), nothing)
    ∷ []
