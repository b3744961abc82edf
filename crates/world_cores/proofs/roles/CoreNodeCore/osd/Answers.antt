use Rattle.std.proofs.Common.{sym, subst}
use Rattle.xt_messages.specs.declared.record.Folded.{Folded}
use Rattle.osd_core.specs.Slots.{AreRows}
use Rattle.world_cores.proofs.Rows.{rows_are}
use Rattle.world_cores.proofs.roles.CoreNodeCore.osd.Goals as goal

pub start-requires-clause-rows : goal.start-requires-clause-rows
start-requires-clause-rows c =
    subst (λ (f : Folded). AreRows f.files) (sym c.requires.records.2) (rows_are c.requires.records.0 c.requires.records.1)
