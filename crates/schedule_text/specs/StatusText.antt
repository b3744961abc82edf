-- the last line of a job, as its status says
use Rattle.std.specs.Prelude.{ℕ, List, [], ◌∷◌, ◌++◌, codes}
use Rattle.std.specs.Fmt.{decimal}
use Rattle.xt_messages.specs.declared.status.Rule.{Rule}
use Rattle.xt_messages.specs.declared.status.Rule.TheVariants as rule
use Rattle.xt_messages.specs.declared.status.Limited.{Limited}
use Rattle.xt_messages.specs.declared.status.Limited.TheVariants as limited
use Rattle.xt_messages.specs.declared.status.Refusal.{Refusal}
use Rattle.xt_messages.specs.declared.status.Refusal.TheVariants as refusal
use Rattle.xt_messages.specs.declared.status.Status.{Status}
use Rattle.xt_messages.specs.declared.status.Status.TheVariants as status
use Rattle.server_text.specs.Words.{spaced, hex_of}
use Rattle.server_text.specs.AnswerText.{meta_refusal_words}
use Rattle.schedule_text.specs.OutcomeText.{answer_words, ask_refusal_words}

-- a rule's name in lower case and its values
unfoldable pub rule_words : Rule → List (List ℕ)
rule_words (rule.Drift a b) = codes "drift" ∷ decimal a ∷ decimal b ∷ []
rule_words (rule.NoSuchMessage number) = codes "nosuchmessage" ∷ decimal number ∷ []
rule_words (rule.NotRunning node) = codes "notrunning" ∷ decimal node.0 ∷ []
rule_words (rule.Running node) = codes "running" ∷ decimal node.0 ∷ []
rule_words (rule.NoSuchNode node) = codes "nosuchnode" ∷ decimal node.0 ∷ []
rule_words (rule.ClientBusy client) = codes "clientbusy" ∷ decimal client.0 ∷ []
rule_words (rule.ClockBack last) = codes "clockback" ∷ decimal last ∷ []
rule_words (rule.Declared number) = codes "declared" ∷ decimal number ∷ []
rule_words (rule.NoSuchFile number) = codes "nosuchfile" ∷ decimal number ∷ []
rule_words (rule.NoCall client) = codes "nocall" ∷ decimal client.0 ∷ []
rule_words (rule.ClockEnd node) = codes "clockend" ∷ decimal node.0 ∷ []

-- the word of a count that has a limit
abbrev pub limited_word : Limited → List ℕ
limited_word limited.Lines = codes "lines"
limited_word limited.Line = codes "line"
limited_word limited.Nodes = codes "nodes"
limited_word limited.Messages = codes "messages"
limited_word limited.Bytes = codes "bytes"
limited_word limited.Boots = codes "boots"
limited_word limited.Numbers = codes "numbers"

-- the words of a refusal
unfoldable pub refusal_words : Refusal → List (List ℕ)
refusal_words (refusal.Ask why) = ask_refusal_words why
refusal_words (refusal.Meta why) = meta_refusal_words why
refusal_words (refusal.Changed version) = codes "changed" ∷ decimal version ∷ []
refusal_words refusal.Absent = codes "absent" ∷ []

-- the words of a status after the exclamation mark; none for a job that is complete
unfoldable pub status_words : Status → List (List ℕ)
status_words status.Done = []
status_words status.Usage = codes "usage" ∷ []
status_words (status.Malformed line) = codes "malformed" ∷ decimal line ∷ []
status_words (status.Illegal line broken) = codes "illegal" ∷ decimal line ∷ rule_words broken
status_words (status.DiskFault count) = codes "disk" ∷ decimal count ∷ []
status_words (status.LinkFault count) = codes "link" ∷ decimal count ∷ []
status_words (status.SourceFault count) = codes "source" ∷ decimal count ∷ []
status_words (status.SinkFault count) = codes "sink" ∷ decimal count ∷ []
status_words (status.ClockFault count) = codes "clock" ∷ decimal count ∷ []
status_words (status.ChildFault count) = codes "child" ∷ decimal count ∷ []
status_words (status.TurnsSpent turns) = codes "turns" ∷ decimal turns ∷ []
status_words status.OutOfMemory = codes "memory" ∷ []
status_words (status.NotOurs first) = codes "notours" ∷ hex_of first ∷ []
status_words (status.Layout version) = codes "layout" ∷ decimal version ∷ []
status_words (status.Limit what limit) = codes "limit" ∷ limited_word what ∷ decimal limit ∷ []
status_words (status.JournalFull need limit) = codes "full" ∷ decimal need ∷ decimal limit ∷ []
status_words (status.Broken clause entry) = codes "broken" ∷ decimal clause ∷ decimal entry ∷ []
status_words (status.Damaged place) = codes "damaged" ∷ decimal place ∷ []
status_words (status.Retry answers) = codes "retry" ∷ answer_words answers
status_words (status.Refused why) = codes "refused" ∷ refusal_words why
status_words (status.Unmended count) = codes "unmended" ∷ decimal count ∷ []
status_words (status.Moved count) = codes "moved" ∷ decimal count ∷ []
status_words status.NotReplicated = codes "notreplicated" ∷ []
status_words (status.PinStore pins) = codes "pins" ∷ decimal pins ∷ []

-- the last line of a job, without the line feed that ends it
abbrev pub status_text : Status → List ℕ
status_text ended = spaced (codes "!" ∷ status_words ended)

-- what a job writes last: nothing where it is complete, else its last line and a line feed
unfoldable pub last_line : Status → List ℕ
last_line status.Done = []
last_line ended = status_text ended ++ 10 ∷ []
