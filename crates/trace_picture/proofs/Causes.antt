-- what is drawn, and its cause
use Rattle.std.proofs.Common.{ℕ, List, Option, refl, inl}
use Rattle.xt_messages.specs.declared.status.Status.{Status}
use Rattle.xt_messages.specs.declared.status.Status.TheVariants as status
use Rattle.time_line.specs.declared.entry.Entry.{Entry}
use Rattle.schedule_lines.specs.Causes.{CausesEnd, HasCause}
use Rattle.trace_picture.specs.Pictured.{IsDrawn}

-- where a trace is drawn only the sink can have failed
pub drawn_cause :
    (source before later : ℕ) (entries : List Entry) (held held_after : Option (List ℕ)) (s : Status)
    → IsDrawn entries held held_after s → CausesEnd before later s → HasCause source source before later s
drawn_cause source before later entries held held_after status.Done drawn cause = (refl, cause)
drawn_cause source before later entries held held_after (status.SinkFault count) drawn cause = (cause.0, cause.1, inl refl)
drawn_cause source before later entries held held_after status.OutOfMemory drawn cause = (inl refl, cause)
drawn_cause source before later entries held held_after (status.Limit what limit) drawn cause = (refl, cause)
drawn_cause source before later entries held held_after _ drawn cause = absurd drawn
