-- how a request's number stands to what is kept of its client
use Rattle.std.specs.Prelude.{ℕ, ◌==◌, nat_eq, nat_lt, if◌then◌else◌, Option, Some, None, List}
use Rattle.std.specs.Map.{lookup}
use Rattle.indexmap.specs.IndexMap.{insert_entry}
use Rattle.xt_base.specs.declared.ids.NodeId.{NodeId}
use Rattle.reply_cache.specs.declared.Kept.{Kept}
use Rattle.reply_cache.specs.declared.Standing.{Standing}
use Rattle.reply_cache.specs.declared.Standing.TheVariants as standing

-- what is kept, by client, and how many more clients there is room for
pub record Clients (A : Type 0) : Type 0 where
  pub kept : List (ℕ × Kept A)
  pub room : ℕ

-- the test on a number: the same one gets the same answer; an older one gets none; any other is fresh
abbrev pub compared : {A : Type 0} → ℕ → Option (Kept A) → Standing A
compared number None = standing.Fresh
compared number (Some last) =
    if number == last.number then standing.Again last.answer
    else if nat_lt number last.number then standing.Older
    else standing.Fresh

abbrev pub standing_of : {A : Type 0} → List (ℕ × Kept A) → NodeId → ℕ → Standing A
standing_of clients client number = compared number (lookup (nat_eq client.0) clients)

-- with this number and answer of a client, in place of what was kept of it
abbrev pub with_answer : {A : Type 0} → List (ℕ × Kept A) → NodeId → ℕ → A → List (ℕ × Kept A)
with_answer clients client number answer =
    insert_entry nat_eq clients client.0 (record { number = number; answer = answer })
