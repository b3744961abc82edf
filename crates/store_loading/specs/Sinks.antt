-- the sink of a job
use Rattle.std.specs.Prelude.{ℕ, ◌≡◌, Option, List}
use Rattle.xt_base.specs.Faults.{Rose}
use Rattle.xt_messages.specs.declared.status.Status.{Status}
use Rattle.xt_messages.specs.declared.status.Status.TheVariants as status
use Rattle.node_links.specs.Streams.{Puts}
use Rattle.schedule_lines.specs.Fronts.{PutsFront}

-- the count of faults of the sink rose exactly where the status reports it
abbrev pub HasSinkCause : ℕ → ℕ → Status → Type 0
HasSinkCause before after (status.SinkFault count) = Rose before after × (count ≡ after)
HasSinkCause before after _ = after ≡ before

-- A report is put, and the status is this one; or memory runs out before, or the sink fails over it.
abbrev pub Reports : List ℕ → Status → Option (List ℕ) → Option (List ℕ) → Status → Type 0
Reports text then held later (status.SinkFault count) = PutsFront held later text
Reports text then held later status.OutOfMemory = later ≡ held
Reports text then held later said = Puts held later text × (said ≡ then)
