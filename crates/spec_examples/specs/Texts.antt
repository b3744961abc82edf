-- lines of traces, and a last line, that schedules seldom come to
use Rattle.std.specs.Prelude.{ℕ, List, [], ◌∷◌, codes, true, false}
use Rattle.std.specs.Fmt.{digits}
use Rattle.xt_messages.specs.declared.reply.Retry.TheVariants as retry
use Rattle.xt_messages.specs.declared.status.AskRefusal.TheVariants as ask
use Rattle.xt_messages.specs.declared.meta.MetaReq.TheVariants as wish
use Rattle.xt_messages.specs.declared.meta.MetaRefusal.TheVariants as refusal
use Rattle.xt_messages.specs.declared.event.Call.TheVariants as call
use Rattle.xt_messages.specs.declared.event.MetaOutcome.TheVariants as told
use Rattle.xt_messages.specs.declared.event.Outcome.TheVariants as outcome
use Rattle.time_line.specs.declared.entry.Entry.{Entry}
use Rattle.time_line.specs.declared.entry.Entry.TheVariants as entry
use Rattle.schedule_text.specs.RequestText.{meta_words}
use Rattle.schedule_text.specs.AnswerText.{meta_refusal_words, meta_outcome_words}
use Rattle.schedule_text.specs.CallText.{call_name, call_words}
use Rattle.schedule_text.specs.OutcomeText.{ask_refusal_words, retry_text, outcome_words}
use Rattle.schedule_text.specs.EntryText.{entry_words, entry_text}
use Rattle.schedule_text.specs.StatusText.{status_words, last_line}
use Rattle.spec_examples.specs.Values.{node}

-- opens what prints entries and last lines
unfoldable pub texts : Unit {0}
unfolding
    digits meta_words meta_refusal_words meta_outcome_words call_name call_words ask_refusal_words retry_text outcome_words entry_words
    entry_text status_words last_line
texts = tt

-- entries, and their lines; the four members of the third gave each something else
abbrev pub entries : List (Entry × List ℕ)
entries =
    (entry.Held (node 1) 2 3, codes "held 1 2 3")
    ∷ (entry.Active (node 1) 2 0 (record { client = node 0; number = 0 }), codes "active 1 2 0 0 0")
    ∷ (
      entry.Done (node 10) 4
          (outcome.Retry
          (record { node = node 1; outcome = retry.NoLease 1100 }
          ∷ record { node = node 2; outcome = retry.NoMajority 1 2 }
          ∷ record { node = node 3; outcome = retry.Elsewhere (node 2) 18446744073709551615 }
          ∷ record { node = node 4; outcome = retry.Silent }
          ∷ [])),
      codes "done 10 4 retry 1=nolease:1100 2=nomajority:1/2 3=elsewhere:2:18446744073709551615 4=silent",
    )
    ∷ (entry.Done (node 143) 1 (outcome.Refused ask.ClientsFull), codes "done 143 1 clientsfull")
    -- lists, what is asked of them, and what is answered
    ∷ (entry.List 1000000 2 (node 1 ∷ node 2 ∷ node 3 ∷ []), codes "list 1000000 2 1 2 3")
    ∷ (entry.Begin (node 10) 7 (call.Meta 1 1 (wish.Change (codes "/v/a") (node 2 ∷ []))), codes "begin 10 7 meta 1 1 change /v/a 2")
    ∷ (entry.Begin (node 10) 20 (call.Meta 1 1 (wish.Locate (codes "/v/f0"))), codes "begin 10 20 meta 1 1 locate /v/f0")
    ∷ (
      entry.Done (node 10) 3 (outcome.Meta (told.Located 1 true (node 5 ∷ node 6 ∷ node 1 ∷ []))),
      codes "done 10 3 meta located 1 changing 5 6 1",
    )
    ∷ (
      entry.Done (node 9) 9 (outcome.Meta (told.Located 1 false (node 2 ∷ node 3 ∷ node 4 ∷ []))),
      codes "done 9 9 meta located 1 still 2 3 4",
    )
    ∷ (entry.Done (node 10) 16 (outcome.Meta (told.Refused (refusal.Changing 2))), codes "done 10 16 meta changing 2")
    ∷ (entry.Done (node 9) 17 (outcome.Meta (told.Refused (refusal.UnknownOsd (node 77)))), codes "done 9 17 meta unknownosd 77")
    ∷ (entry.Done (node 9) 18 (outcome.Meta (told.Refused refusal.NotReplicated)), codes "done 9 18 meta notreplicated")
    ∷ []
