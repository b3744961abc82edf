-- the lines of a trace: how each is spelled
use Rattle.std.specs.Prelude.{ℕ, Bool, IsTrue, List, [], ◌∷◌, ◌++◌, codes}
use Rattle.std.specs.List.{flat_map}
use Rattle.std.specs.Fmt.{decimal}
use Rattle.xt_base.specs.declared.ids.NodeId.{NodeId}
use Rattle.xt_base.specs.declared.ids.OpId.{OpId}
use Rattle.time_line.specs.declared.entry.Entry.{Entry}
use Rattle.time_line.specs.declared.entry.Entry.TheVariants as entry
use Rattle.time_line.specs.declared.entry.Halt.{Halt}
use Rattle.time_line.specs.declared.entry.Halt.TheVariants as halt
use Rattle.time_line.specs.Bounds.{FitsEntry}
use Rattle.server_text.specs.Words.{spaced, hex_or_dash, node_words}
use Rattle.schedule_text.specs.LineText.{IsPlace}
use Rattle.schedule_text.specs.CallText.{file_words, call_name, call_words, IsSpellableCall}
use Rattle.schedule_text.specs.OutcomeText.{outcome_words, IsSpellableOutcome}

-- N F COUNT CLIENT NUMBER
abbrev pub update_words : NodeId → ℕ → ℕ → OpId → List (List ℕ)
update_words node file count id =
    decimal node.0 ∷ decimal file ∷ decimal count ∷ decimal id.client.0 ∷ decimal id.number ∷ []

-- the word of how a node stopped
abbrev pub halt_word : Halt → List ℕ
halt_word halt.Idle = codes "idle"
halt_word halt.Kept = codes "kept"
halt_word halt.Lost = codes "lost"
halt_word halt.Cut = codes "cut"

-- the words of a trace's line
unfoldable pub entry_words : Entry → List (List ℕ)
entry_words (entry.Times lease drift) = codes "times" ∷ decimal lease ∷ decimal drift ∷ []
entry_words (entry.File number location) = codes "file" ∷ file_words number location
entry_words (entry.List number version members) = codes "list" ∷ decimal number ∷ decimal version ∷ node_words members
entry_words (entry.Clock node clock) = codes "clock" ∷ decimal node.0 ∷ decimal clock ∷ []
entry_words (entry.Tick count) = codes "tick" ∷ decimal count ∷ []
entry_words (entry.Up node boot clock) = codes "up" ∷ decimal node.0 ∷ decimal boot.0 ∷ decimal clock ∷ []
entry_words (entry.Down node clock how) = codes "down" ∷ decimal node.0 ∷ decimal clock ∷ halt_word how ∷ []
entry_words (entry.Begin client number call) =
    codes "begin" ∷ decimal client.0 ∷ decimal number ∷ call_name call ∷ call_words call
entry_words (entry.Held node file end) = codes "held" ∷ decimal node.0 ∷ decimal file ∷ decimal end ∷ []
entry_words (entry.Active node file count id) = codes "active" ∷ update_words node file count id
entry_words (entry.Issue node file count id) = codes "issue" ∷ update_words node file count id
entry_words (entry.Commit node file count id) = codes "commit" ∷ update_words node file count id
entry_words (entry.Answer node file id count bytes) =
    codes "answer" ∷ decimal node.0 ∷ decimal file ∷ decimal id.client.0 ∷ decimal id.number ∷ decimal count ∷ hex_or_dash bytes ∷ []
entry_words (entry.Done client number outcome) =
    codes "done" ∷ decimal client.0 ∷ decimal number ∷ outcome_words outcome

-- the one spelling of an entry, without the line feed that ends it
unfoldable pub entry_text : Entry → List ℕ
entry_text e = spaced (entry_words e)

-- a trace: its entries, a line feed after each
unfoldable pub trace_text : List Entry → List ℕ
trace_text entries = flat_map (λ e. entry_text e ++ 10 ∷ []) entries

-- an entry that has words, of those that fit: a location in words is of version 1
abbrev pub IsSpellableEntry : Entry → Type 0
IsSpellableEntry (entry.File number location) = IsPlace location
IsSpellableEntry (entry.Begin client number made) = IsSpellableCall made
IsSpellableEntry (entry.Done client number ended) = IsSpellableOutcome ended
IsSpellableEntry _ = Unit {0}

-- an entry of a schedule's trace, within the limits of its values
abbrev pub IsEntry : Entry → Type 0
IsEntry e = IsSpellableEntry e × FitsEntry e

-- the times stand first, if anywhere
abbrev pub IsInPlace : Bool → Entry → Type 0
IsInPlace first (entry.Times lease drift) = IsTrue first
IsInPlace first _ = Unit {0}

-- an entry of a schedule's trace, as its first one or a later one
abbrev pub IsEntryAt : Bool → Entry → Type 0
IsEntryAt first e = IsInPlace first e × IsEntry e
