use Rattle.std.proofs.Common.{ℕ, ◌≤◌, Option, List, length, refl, subst, inl}
use Rattle.xt_messages.specs.declared.status.Status.TheVariants as status
use Rattle.node_links.specs.Streams.{Takes}
use Rattle.time_line.specs.declared.TheConstants.{LINE_BYTES}
use Rattle.schedule_lines.specs.RawLine.{IsInLine}
use Rattle.schedule_lines.specs.NextLine.{IsReading, IsLineOf, ended}
use Rattle.schedule_lines.specs.declared.next.NextLine.{NextLine}
use Rattle.schedule_lines.specs.declared.next.NextLine.TheVariants as next
use Rattle.schedule_lines.proofs.next.next_line.Goals as goal

-- what the bytes of a whole line are read as
whole : (before : ℕ) (old new : Option (List ℕ)) (text : List ℕ) (r : NextLine) → Takes old new (ended text) → IsInLine text → length text ≤ LINE_BYTES → IsLineOf before text r → IsReading before old new r
whole before old new text (next.Line line) taken inside short of = (subst (λ (t : List ℕ). Takes old new (ended t)) of.0 taken, of.1)
whole before old new text next.End taken inside short of = absurd of
whole before old new text (next.Stopped (status.Malformed number)) taken inside short of = (ended text, taken, (text, inside, short, of.1, inl (refl, of.0)))
whole before old new text (next.Stopped status.OutOfMemory) taken inside short of = (ended text, taken, tt)
whole before old new text (next.Stopped _) taken inside short of = absurd of

pub returns-in-Whole-clause-reading : goal.returns-in-Whole-clause-reading
returns-in-Whole-clause-reading g c =
    whole c.args.before _ _ _ c.line_of.result c.in-Whole.ensures.line.0 c.in-Whole.ensures.line.1 c.in-Whole.ensures.line.2
    (subst (λ (t : List ℕ). IsLineOf c.args.before t c.line_of.result) c.as_slice.ensures.value c.line_of.ensures)
