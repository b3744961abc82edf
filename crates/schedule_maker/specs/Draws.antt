-- the numbers that a seed determines
use Rattle.std.specs.Prelude.{ℕ, ◌+◌, ◌*◌, ◌/◌, ◌%◌, ◌^◌, ◌==◌}
use Rattle.schedule_maker.specs.declared.draws.Choice.{Choice}

-- the state after a draw: a linear congruential generator of 64 bits
unfoldable pub next_state : ℕ → ℕ
next_state x = (x * 6364136223846793005 + 1442695040888963407) % 2 ^ 64

-- what is drawn below a bound, by the state after the draw: its upper 31 bits, modulo the bound
unfoldable pub drawn_in : ℕ → ℕ → ℕ
drawn_in x bound = (x / 2 ^ 33) % bound

-- What is drawn for a call, by the state before it: its client, 10 to 13, its file, 1 to 4, an object, 0 to 3, a place in it, 0 to
-- 3,999, and whether it is a read, as one in three is. Each takes one draw.
abbrev pub choice_from : ℕ → Choice
choice_from x =
    let for_client = next_state x in
    let for_file = next_state for_client in
    let for_object = next_state for_file in
    let for_place = next_state for_object in
    let for_kind = next_state for_place in
    record {
      client = 10 + drawn_in for_client 4;
      file = 1 + drawn_in for_file 4;
      object = drawn_in for_object 4;
      at = drawn_in for_place 4000;
      is_read = drawn_in for_kind 3 == 0;
    }

-- the state after these five draws
abbrev pub after_choice : ℕ → ℕ
after_choice x = next_state (next_state (next_state (next_state (next_state x))))
