-- calls, ends and answers by their ids, as maps and sets give them
use Rattle.std.specs.Prelude.{ℕ, Bool, ◌≡◌, Option, option_map, List}
use Rattle.std.specs.Borrow.{Bor}
use Rattle.std.specs.declared.cmp.Ordering.{Ordering}
use Rattle.std.specs.Ordering.{nat_cmp, ordering_then}
use Rattle.std.specs.Cmp.Lexicographic.{slice_cmp}
use Rattle.std.specs.BTreeMap.{BTreeMap, get}
use Rattle.std.specs.BTreeSet.{BTreeSet, contains}
use Rattle.xt_base.specs.declared.ids.OpId.{OpId}
use Rattle.xt_messages.specs.declared.event.Call.{Call}
use Rattle.judging.specs.Pass.{is_in}

-- ids as pairs of a client and a number, by the client first
abbrev pub pair_cmp : ℕ × ℕ → ℕ × ℕ → Ordering
pair_cmp x y = ordering_then (nat_cmp x.0 y.0) (nat_cmp x.1 y.1)

-- the call of an id
abbrev pub call_in : BTreeMap (ℕ × ℕ) (Bor Call) → OpId → Option Call
call_in rows id = option_map (λ c. c.now) (get pair_cmp rows (id.client.0, id.number))

-- whether the id is among these
abbrev pub has_id : BTreeSet (ℕ × ℕ) → OpId → Bool
has_id ids id = contains pair_cmp ids (id.client.0, id.number)

-- the set has the ids of the list
abbrev pub IsSetOf : BTreeSet (ℕ × ℕ) → List OpId → Type 0
IsSetOf ids order = (id : OpId) → has_id ids id ≡ is_in id order

-- answers by their ids, counts and bytes
abbrev pub Told : Type 0
Told = (ℕ × ℕ) × (ℕ × Bor (List ℕ))

abbrev pub answer_cmp : Told → Told → Ordering
answer_cmp x y = ordering_then (pair_cmp x.0 y.0) (ordering_then (nat_cmp x.1.0 y.1.0) (slice_cmp nat_cmp x.1.1.now y.1.1.now))

abbrev pub id_told : Told → OpId
id_told told = record { client = record { 0 = told.0.0 }; number = told.0.1 }

-- whether there was this answer
abbrev pub has_answer : BTreeSet Told → Told → Bool
has_answer answers told = contains answer_cmp answers told

-- the set says which answers there were
abbrev pub AreAnswers : BTreeSet Told → (OpId → ℕ → List ℕ → Bool) → Type 0
AreAnswers answers answered = (told : Told) → has_answer answers told ≡ answered (id_told told) told.1.0 told.1.1.now
