use Rattle.std.proofs.Common.{ℕ, ◌≤◌, ◌<◌, Option, List, length, refl, subst, inl}
use Rattle.xt_messages.specs.declared.status.Status.TheVariants as status
use Rattle.node_links.specs.Streams.{Takes}
use Rattle.time_line.specs.declared.TheConstants.{LINE_BYTES}
use Rattle.schedule_lines.specs.RawLine.{IsInLine}
use Rattle.schedule_lines.specs.NextLine.{ended}
use Rattle.std.proofs.Common.{◌∷◌, [], arith, length-append}
use Rattle.trace_audit.specs.NextEntry.{IsNextEntry, IsEntryOf}
use Rattle.trace_audit.specs.declared.next.NextEntry.{NextEntry}
use Rattle.trace_audit.specs.declared.next.NextEntry.TheVariants as next
use Rattle.trace_audit.proofs.next.next_entry.Goals as goal

-- what the bytes of a whole line are read as
whole : (before room : ℕ) (old new : Option (List ℕ)) (text : List ℕ) (r : NextEntry) → Takes old new (ended text) → IsInLine text → length text ≤ LINE_BYTES → length text < room → IsEntryOf before text r → IsNextEntry before room old new text r
whole before room old new text (next.Entry e) taken inside short less of = (subst (λ (t : List ℕ). Takes old new (ended t)) of.0 taken, of.1, of.0, less)
whole before room old new text next.End taken inside short less of = absurd of
whole before room old new text (next.Stopped (status.Malformed number)) taken inside short less of =
    (ended text, taken, (text, inside, short, omega (arith, length-append text (10 ∷ [])), of.1, inl (refl, of.0)))
whole before room old new text (next.Stopped status.OutOfMemory) taken inside short less of = (ended text, taken, tt)
whole before room old new text (next.Stopped _) taken inside short less of = absurd of

pub returns-in-Whole-clause-reading : goal.returns-in-Whole-clause-reading
returns-in-Whole-clause-reading g c =
    whole c.args.before c.args.room _ _ _ c.entry_of.result c.in-Whole.ensures.line.0 c.in-Whole.ensures.line.1 c.in-Whole.ensures.line.2
    (omega (arith, c.if-len-room.true, c.len.ensures))
    (subst (λ (t : List ℕ). IsEntryOf c.args.before t c.entry_of.result) c.as_slice.ensures.value c.entry_of.ensures)
