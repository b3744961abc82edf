-- the body of a record, and the record with another
use Rattle.std.specs.Prelude.{ℕ, List, []}
use Rattle.xt_messages.specs.declared.record.Record.{Record}
use Rattle.xt_messages.specs.declared.record.Record.TheVariants as kept

-- the body that a record puts; empty where it puts none
abbrev pub body_in : Record → List ℕ
body_in (kept.Update file update) = update.body
body_in (kept.Stage file object version bytes) = bytes
body_in (kept.OldUpdate file update) = update.body
body_in (kept.OldStage file object version bytes) = bytes
body_in _ = []

-- a record with these bytes for its body, where it puts one
abbrev pub with_body : List ℕ → Record → Record
with_body body (kept.Update file update) = kept.Update file (record update { body = body })
with_body body (kept.Stage file object version bytes) = kept.Stage file object version body
with_body body (kept.OldUpdate file update) = kept.OldUpdate file (record update { body = body })
with_body body (kept.OldStage file object version bytes) = kept.OldStage file object version body
with_body body rec = rec
