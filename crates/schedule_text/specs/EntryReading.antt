-- how an entry of each form is read, loosely, since its spelling is compared with it afterwards
use Rattle.std.specs.Prelude.{ℕ, ◌==◌, if◌then◌else◌, List, length, Option, Some, None, option_map, codes}
use Rattle.std.specs.List.{before_first, after_first}
use Rattle.std.specs.Str.{bytes_eq}
use Rattle.xt_base.specs.declared.ids.NodeId.{NodeId}
use Rattle.xt_base.specs.declared.ids.OpId.{OpId}
use Rattle.xt_messages.specs.declared.event.Call.{Call}
use Rattle.xt_messages.specs.declared.event.Call.TheVariants as call
use Rattle.xt_messages.specs.declared.event.Outcome.{Outcome}
use Rattle.xt_messages.specs.declared.event.Outcome.TheVariants as outcome
use Rattle.xt_messages.specs.declared.status.AskRefusal.{AskRefusal}
use Rattle.xt_messages.specs.declared.status.AskRefusal.TheVariants as refusal
use Rattle.xt_messages.specs.declared.reply.Answered.{Answered}
use Rattle.xt_messages.specs.declared.reply.Retry.{Retry}
use Rattle.xt_messages.specs.declared.reply.Retry.TheVariants as retry
use Rattle.time_line.specs.declared.entry.Entry.{Entry}
use Rattle.time_line.specs.declared.entry.Entry.TheVariants as entry
use Rattle.time_line.specs.declared.entry.Halt.{Halt}
use Rattle.time_line.specs.declared.entry.Halt.TheVariants as halt
use Rattle.server_text.specs.Reading.{first_word, other_words, number_of, number_at, each_word, bytes_of, node_of, members_at}
use Rattle.server_text.specs.RequestReading.{meta_call_in, registry_call_in}
use Rattle.server_text.specs.AnswerReading.{denial_of, meta_outcome_in, registry_outcome_in}
use Rattle.schedule_text.specs.LineReading.{location_at}

-- The parts of a word, at a byte.

abbrev pub front : ℕ → List ℕ → List ℕ
front mark word = before_first (λ byte. byte == mark) word

abbrev pub back : ℕ → List ℕ → List ℕ
back mark word = after_first (λ byte. byte == mark) word

-- what a member gave, by its name and values
unfoldable pub retry_of : List ℕ → List ℕ → Retry
retry_of name values =
    if bytes_eq name (codes "nolease") then retry.NoLease (number_of 64 values)
    else if bytes_eq name (codes "nomajority") then retry.NoMajority (number_of 8 (front 47 values)) (number_of 8 (back 47 values))
    else if bytes_eq name (codes "elsewhere") then retry.Elsewhere (node_of (number_of 32 (front 58 values))) (number_of 64 (back 58 values))
    else retry.Silent

unfoldable pub retry_in : List ℕ → Retry
retry_in word = retry_of (front 58 word) (back 58 word)

unfoldable pub answered_in : List ℕ → Answered
answered_in word = record { node = node_of (number_of 32 (front 61 word)); outcome = retry_in (back 61 word) }

unfoldable pub answers_in : List ℕ → List Answered
answers_in words = each_word answered_in (length words) words

-- Readers, of what stands after the name of an entry.

unfoldable pub times_in : List ℕ → Option Entry
times_in words =
    let lease = number_at 64 words in
    let drift = number_at 64 lease.1 in
    Some (entry.Times lease.0 drift.0)

unfoldable pub file_in : List ℕ → Option Entry
file_in words =
    let number = number_at 64 words in
    option_map (λ location. entry.File number.0 location) (location_at number.1)

unfoldable pub list_in : List ℕ → Option Entry
list_in words =
    let number = number_at 64 words in
    let version = number_at 32 number.1 in
    option_map (λ members. entry.List number.0 version.0 members) (members_at version.1)

unfoldable pub clock_in : List ℕ → Option Entry
clock_in words =
    let node = number_at 32 words in
    let clock = number_at 64 node.1 in
    Some (entry.Clock (node_of node.0) clock.0)

unfoldable pub tick_in : List ℕ → Option Entry
tick_in words =
    let count = number_at 64 words in
    Some (entry.Tick count.0)

unfoldable pub up_in : List ℕ → Option Entry
up_in words =
    let node = number_at 32 words in
    let boot = number_at 64 node.1 in
    let clock = number_at 64 boot.1 in
    Some (entry.Up (node_of node.0) (record { 0 = boot.0 }) clock.0)

unfoldable pub halt_of : List ℕ → Option Halt
halt_of word =
    if bytes_eq word (codes "idle") then Some halt.Idle
    else if bytes_eq word (codes "kept") then Some halt.Kept
    else if bytes_eq word (codes "lost") then Some halt.Lost
    else Some halt.Cut

unfoldable pub down_in : List ℕ → Option Entry
down_in words =
    let node = number_at 32 words in
    let clock = number_at 64 node.1 in
    option_map (λ how. entry.Down (node_of node.0) clock.0 how) (halt_of (first_word clock.1))

unfoldable pub call_of : List ℕ → ℕ → ℕ → ℕ → List ℕ → Option Call
call_of name file object at words =
    if bytes_eq name (codes "read") then (
    let len = number_at 32 words in
    Some (call.Read file object at len.0))
    else Some (call.Write file object at (bytes_of (first_word words)))

unfoldable pub call_on : List ℕ → ℕ → List ℕ → Option Call
call_on name file words =
    if bytes_eq name (codes "truncate") then (
    let size = number_at 64 words in
    let epoch = number_at 64 size.1 in
    Some (call.Truncate file size.0 epoch.0))
    else (
    let object = number_at 64 words in
    let at = number_at 32 object.1 in
    call_of name file object.0 at.0 at.1)

-- the call of this name, of those on a file
unfoldable pub file_call_in : List ℕ → List ℕ → Option Call
file_call_in name words =
    let file = number_at 64 words in
    call_on name file.0 file.1

unfoldable pub call_in : List ℕ → List ℕ → Option Call
call_in name words =
    if bytes_eq name (codes "meta") then Some (meta_call_in words)
    else if bytes_eq name (codes "registry") then Some (registry_call_in words)
    else file_call_in name words

unfoldable pub begin_in : List ℕ → Option Entry
begin_in words =
    let client = number_at 32 words in
    let number = number_at 64 client.1 in
    option_map (λ made. entry.Begin (node_of client.0) number.0 made) (call_in (first_word number.1) (other_words number.1))

unfoldable pub held_in : List ℕ → Option Entry
held_in words =
    let node = number_at 32 words in
    let file = number_at 64 node.1 in
    let end = number_at 64 file.1 in
    Some (entry.Held (node_of node.0) file.0 end.0)

unfoldable pub id_of : ℕ → ℕ → OpId
id_of client number = record { client = node_of client; number = number }

unfoldable pub update_in : (NodeId → ℕ → ℕ → OpId → Entry) → List ℕ → Option Entry
update_in made words =
    let node = number_at 32 words in
    let file = number_at 64 node.1 in
    let count = number_at 64 file.1 in
    let client = number_at 32 count.1 in
    let number = number_at 64 client.1 in
    Some (made (node_of node.0) file.0 count.0 (id_of client.0 number.0))

unfoldable pub answer_in : List ℕ → Option Entry
answer_in words =
    let node = number_at 32 words in
    let file = number_at 64 node.1 in
    let client = number_at 32 file.1 in
    let number = number_at 64 client.1 in
    let count = number_at 64 number.1 in
    Some (entry.Answer (node_of node.0) file.0 (id_of client.0 number.0) count.0 (bytes_of (first_word count.1)))

unfoldable pub refusal_of : List ℕ → List ℕ → Option AskRefusal
refusal_of name word =
    if bytes_eq name (codes "denied") then Some (refusal.Denied (denial_of (number_of 64 word)))
    else if bytes_eq name (codes "oldlist") then Some (refusal.OldList (number_of 32 word))
    else if bytes_eq name (codes "oldepoch") then Some (refusal.OldEpoch (number_of 64 word))
    else Some (refusal.TooFar (number_of 64 word))

unfoldable pub refusal_in : List ℕ → List ℕ → Option AskRefusal
refusal_in name words =
    if bytes_eq name (codes "clientsfull") then Some refusal.ClientsFull
    else refusal_of name (first_word words)

unfoldable pub outcome_in : List ℕ → List ℕ → Option Outcome
outcome_in name words =
    if bytes_eq name (codes "ok") then (
    let count = number_at 64 words in
    Some (outcome.Ok count.0 (bytes_of (first_word count.1))))
    else if bytes_eq name (codes "retry") then Some (outcome.Retry (answers_in words))
    else if bytes_eq name (codes "meta") then Some (outcome.Meta (meta_outcome_in words))
    else if bytes_eq name (codes "registry") then Some (outcome.Registry (registry_outcome_in words))
    else option_map (λ why. outcome.Refused why) (refusal_in name words)

unfoldable pub done_in : List ℕ → Option Entry
done_in words =
    let client = number_at 32 words in
    let number = number_at 64 client.1 in
    option_map (λ ended. entry.Done (node_of client.0) number.0 ended) (outcome_in (first_word number.1) (other_words number.1))

-- the entry of this name, of those on clocks and nodes
unfoldable pub node_entry : List ℕ → List ℕ → Option Entry
node_entry name words =
    if bytes_eq name (codes "times") then times_in words
    else if bytes_eq name (codes "file") then file_in words
    else if bytes_eq name (codes "list") then list_in words
    else if bytes_eq name (codes "clock") then clock_in words
    else if bytes_eq name (codes "tick") then tick_in words
    else if bytes_eq name (codes "up") then up_in words
    else if bytes_eq name (codes "down") then down_in words
    else None

-- the entry of this name, of those that a primary makes, and those before
unfoldable pub update_entry : List ℕ → List ℕ → Option Entry
update_entry name words =
    if bytes_eq name (codes "held") then held_in words
    else if bytes_eq name (codes "active") then update_in entry.Active words
    else if bytes_eq name (codes "issue") then update_in entry.Issue words
    else if bytes_eq name (codes "commit") then update_in entry.Commit words
    else node_entry name words

unfoldable pub entry_of : List ℕ → List ℕ → Option Entry
entry_of name words =
    if bytes_eq name (codes "begin") then begin_in words
    else if bytes_eq name (codes "answer") then answer_in words
    else if bytes_eq name (codes "done") then done_in words
    else update_entry name words

-- the entry that the bytes may spell
unfoldable pub entry_at : List ℕ → Option Entry
entry_at bytes = entry_of (first_word bytes) (other_words bytes)
