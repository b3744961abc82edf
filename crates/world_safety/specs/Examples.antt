-- A run in which a replica that lacked writes makes the majority.
use Rattle.std.specs.Prelude.{ℕ, List, [], ◌∷◌, ◌++◌}
use Rattle.time_line.specs.declared.entry.Halt.TheVariants as halt
use Rattle.time_line.specs.declared.line.Line.{Line}
use Rattle.time_line.specs.declared.line.Line.TheVariants as line
use Rattle.time_line.specs.declared.entry.Entry.{Entry}
use Rattle.time_line.specs.declared.entry.Entry.TheVariants as entry
use Rattle.world_spec.specs.Examples.{node, trio, short_times, osd_is, client_at, start_at, file_on, write_at, read_byte, list_of, is_up, is_held, is_active, is_issued, is_committed, is_answered, is_done, reads_byte, writes_at}

-- two of three OSDs run, and a byte is written
abbrev pub two_of_three : List Line
two_of_three =
    short_times ∷ osd_is 1 ∷ osd_is 2 ∷ osd_is 3 ∷ client_at 10 0 ∷ start_at 1 0 ∷ start_at 2 0
    ∷ file_on trio ∷ line.Tick 1100 ∷ write_at 10 0 (97 ∷ []) ∷ line.Settle 100 ∷ []

-- some time passes at the primary, and all messages come
abbrev pub waits : ℕ → List Line
waits count = line.Tick count ∷ line.Wake (node 1) ∷ line.Settle 100 ∷ []

-- The third one starts, with nothing kept. While it is silent the lease is renewed; then it reports, and is fed the body and the head.
-- Then the second one stops, and the next write is committed by the first and the third.
abbrev pub caught_up : List Line
caught_up =
    two_of_three ++ start_at 3 1100 ∷ [] ++ waits 500 ++ read_byte 10 ∷ line.Settle 100 ∷ [] ++ waits 500 ++ waits 100
    ++ line.Stop (node 2) ∷ write_at 10 1 (98 ∷ []) ∷ line.Settle 100 ∷ []

abbrev pub caught_up_trace : List Entry
caught_up_trace =
    entry.Times 1000 100 ∷ is_up 10 1 0 ∷ is_up 1 1 0 ∷ is_up 2 1 0 ∷ entry.File 1 (list_of trio) ∷ entry.Tick 1100
    ∷ writes_at 10 1 0 (97 ∷ []) ∷ is_held 1 2100 ∷ is_active 1 0 0 0 ∷ is_issued 1 1 10 1 ∷ is_committed 1 1 10 1
    ∷ is_answered 1 10 1 1 [] ∷ is_done 10 1 1 []
    ∷ is_up 3 1 1100 ∷ entry.Tick 500 ∷ is_held 1 2600
    ∷ reads_byte 10 2 ∷ is_answered 1 10 2 1 (97 ∷ []) ∷ is_done 10 2 1 (97 ∷ [])
    ∷ entry.Tick 500 ∷ is_held 1 3100 ∷ entry.Tick 100
    ∷ entry.Down (node 2) 2200 halt.Idle ∷ writes_at 10 3 1 (98 ∷ [])
    ∷ is_issued 1 2 10 3 ∷ is_committed 1 2 10 3 ∷ is_answered 1 10 3 2 [] ∷ is_done 10 3 2 [] ∷ []
