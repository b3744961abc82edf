use Rattle.std.proofs.Common.{sym, ◌∙◌}
use Rattle.object_store.proofs.Stored.{bare_known}
use Rattle.object_store.proofs.store.Store.records.Goals as goal

pub returns : goal.returns
returns G c = c.as_slice.ensures ∙ sym (bare_known G.D.Disk.is_told (G.D.Disk.kept c.args.self.now.journal.disk).read c.args.self.now.log)
