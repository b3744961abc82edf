-- what an entry reports of a file, as the code has it
use Rattle.std.specs.Prelude.{ℕ, ◌+◌, ◌==◌, if◌then◌else◌, Bool, true, not, ◌||◌, Option, Some, None, option_map, List, length}
use Rattle.std.specs.Borrow.{Bor}
use Rattle.std.specs.BTreeSet.{BTreeSet}
use Rattle.time_line.specs.declared.entry.Entry.{Entry}
use Rattle.time_line.specs.declared.entry.Entry.TheVariants as entry
use Rattle.trace_judge.specs.Rows.{Told, has_answer}
use Rattle.xt_base.specs.declared.ids.OpId.{OpId}
use Rattle.xt_messages.specs.declared.event.Call.{Call}
use Rattle.time_line.specs.TimeLine as line
use Rattle.judging.specs.Pass as pass
use Rattle.trace_judge.specs.declared.told.Claim.{Claim}
use Rattle.trace_judge.specs.declared.told.Answer.{Answer}

abbrev pub claim_of : Claim → line.Claim
claim_of claim = record { count = claim.count; id = claim.id }

abbrev pub answer_of : Answer → pass.Answer
answer_of answer = record { id = answer.id; count = answer.count; bytes = answer.bytes.now }

-- the call that a reference refers to, if there is one
abbrev pub call_of : Option (Bor Call) → Option Call
call_of call = option_map (λ c. c.now) call

-- the content after a claim, which the write that it appends changes
abbrev pub content_then : ℕ → ℕ → List OpId → (OpId → Option Call) → List ℕ → Option line.Claim → List ℕ
content_then stripe file order calls content None = content
content_then stripe file order calls content (Some claim) =
    if claim.count == length order + 1 then pass.content_with stripe content (line.operation_on file (calls claim.id)) else content

-- A call that ends on the file was answered so.
abbrev pub ends_well : ℕ → (OpId → Option Call) → BTreeSet Told → Option Answer → Bool
ends_well file calls answers None = true
ends_well file calls answers (Some a) =
    not (pass.is_told (line.operation_on file (calls a.id))) || has_answer answers ((a.id.client.0, a.id.number), (a.count, a.bytes))

-- A call that begins on the file hasn't ended yet.
abbrev pub begins_well : ℕ → (OpId → Option Call) → (OpId → Bool) → Entry → Bool
begins_well file calls ended (entry.Begin client number c) =
    pass.is_told (calls (line.id_of client number))
    || (not (pass.is_told (line.operation_on file (Some c))) || not (ended (line.id_of client number)))
begins_well file calls ended _ = true

-- The answer, if it is one, shows the file as it stands.
abbrev pub shown_by : ℕ → ℕ → List OpId → List ℕ → (OpId → Option Call) → Option pass.Answer → Bool
shown_by stripe file order content calls None = true
shown_by stripe file order content calls (Some a) = pass.shows stripe order content a.id a.count a.bytes (line.operation_on file (calls a.id))
