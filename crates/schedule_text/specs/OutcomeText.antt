-- the end of a call in words
use Rattle.std.specs.Prelude.{ℕ, List, [], ◌∷◌, ◌++◌, map, codes}
use Rattle.std.specs.Fmt.{decimal}
use Rattle.xt_messages.specs.declared.reply.Retry.{Retry}
use Rattle.xt_messages.specs.declared.reply.Retry.TheVariants as retry
use Rattle.xt_messages.specs.declared.reply.Answered.{Answered}
use Rattle.xt_messages.specs.declared.status.AskRefusal.{AskRefusal}
use Rattle.xt_messages.specs.declared.status.AskRefusal.TheVariants as ask
use Rattle.xt_messages.specs.declared.event.Outcome.{Outcome}
use Rattle.xt_messages.specs.declared.event.Outcome.TheVariants as outcome
use Rattle.server_text.specs.Words.{hex_or_dash}
use Rattle.server_text.specs.AnswerText.{denial_number, meta_outcome_words, registry_outcome_words}
use Rattle.server_text.specs.Spellable.{IsSpellableMeta, IsSpellableRegistry}

-- denied R, oldlist V, oldepoch E, toofar O, clientsfull
unfoldable pub ask_refusal_words : AskRefusal → List (List ℕ)
ask_refusal_words (ask.Denied rule) = codes "denied" ∷ decimal (denial_number rule) ∷ []
ask_refusal_words (ask.OldList version) = codes "oldlist" ∷ decimal version ∷ []
ask_refusal_words (ask.OldEpoch epoch) = codes "oldepoch" ∷ decimal epoch ∷ []
ask_refusal_words (ask.TooFar object) = codes "toofar" ∷ decimal object ∷ []
ask_refusal_words ask.ClientsFull = codes "clientsfull" ∷ []

-- what one member gave, after its number
unfoldable pub retry_text : Retry → List ℕ
retry_text (retry.NoLease end) = codes "=nolease:" ++ decimal end
retry_text (retry.NoMajority have need) = codes "=nomajority:" ++ decimal have ++ 47 ∷ decimal need
retry_text (retry.Elsewhere node end) = codes "=elsewhere:" ++ decimal node.0 ++ 58 ∷ decimal end
retry_text retry.Silent = codes "=silent"

-- N=nolease:END, N=nomajority:HAVE/NEED, N=elsewhere:NODE:END, N=silent
abbrev pub answer_word : Answered → List ℕ
answer_word answered = decimal answered.node.0 ++ retry_text answered.outcome

-- a word for each member
abbrev pub answer_words : List Answered → List (List ℕ)
answer_words answers = map answer_word answers

-- ok COUNT HEX, retry ANSWERS, a refusal, meta ANSWER, registry ANSWER
unfoldable pub outcome_words : Outcome → List (List ℕ)
outcome_words (outcome.Ok count bytes) = codes "ok" ∷ decimal count ∷ hex_or_dash bytes ∷ []
outcome_words (outcome.Retry answers) = codes "retry" ∷ answer_words answers
outcome_words (outcome.Refused why) = ask_refusal_words why
outcome_words (outcome.Meta answer) = codes "meta" ∷ meta_outcome_words answer
outcome_words (outcome.Registry answer) = codes "registry" ∷ registry_outcome_words answer

-- an end that has words, of those that fit
abbrev pub IsSpellableOutcome : Outcome → Type 0
IsSpellableOutcome (outcome.Ok count bytes) = Unit {0}
IsSpellableOutcome (outcome.Retry answers) = Unit {0}
IsSpellableOutcome (outcome.Refused why) = Unit {0}
IsSpellableOutcome (outcome.Meta answer) = IsSpellableMeta answer
IsSpellableOutcome (outcome.Registry answer) = IsSpellableRegistry answer
