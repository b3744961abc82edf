use Rattle.std.proofs.Common.{◌≡◌, ◌∙◌, ◌==◌, ◌-◌, ◌+◌, ℕ, length, refl, subst, arith}
use Rattle.xt_messages.specs.declared.status.Status.TheVariants as status
use Rattle.schedule_text.specs.EntryText.{IsEntryAt}
use Rattle.trace_audit.proofs.EntryByEntry.{begun, goes_on, read_to}
use Rattle.trace_audit.proofs.reading.read_trace.Goals as goal

pub loop-entry-init : goal.loop-entry-init
loop-entry-init g c = record { so_far = begun _ _ c.new-entries.ensures.items; sound = refl }

pub loop-entry-preserved : goal.loop-entry-preserved
loop-entry-preserved g c =
    let read = c.in-Entry.ensures.reading in
    let es = c.loop-entry.entries.items in
    let bytes = c.next_entry.new.raw.items in
    let count : c.len.result ≡ length es = omega (arith, c.len.ensures, c.loop-entry.entries.ok.0) in
    let less : c.loop-entry.room - (c.len-in-Ok.result + 1) ≡ c.loop-entry.room - (length bytes + 1) = omega (arith, c.len-in-Ok.ensures, c.next_entry.new.raw.ok.0) in
    record {
      so_far = goes_on _ _ _ es c.push.new.self.items c.in-Entry.entry c.loop-entry.room _ bytes c.loop-entry.invariant.so_far read.0
          (subst (λ (n : ℕ). IsEntryAt (n == 0) c.in-Entry.entry) count read.1) read.2 read.3 c.in-Ok.ensures.items less;
      sound = c.in-Entry.ensures.faults ∙ c.loop-entry.invariant.sound;
    }

pub returns-in-Err-clause-trace : goal.returns-in-Err-clause-trace
returns-in-Err-clause-trace g c =
    read_to _ _ _ c.loop-entry.entries.items c.loop-entry.room status.OutOfMemory _ c.loop-entry.invariant.so_far c.in-Entry.ensures.reading.0 tt
