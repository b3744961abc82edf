use Rattle.std.proofs.Common.{◌+◌, drop, refl}
use Rattle.node_links.proofs.Ahead.{taken, still_ahead}
use Rattle.node_links.proofs.source.MemorySourceSource.consume.Goals as goal

pub returns-clause-taken : goal.returns-clause-taken
returns-clause-taken c = (
  drop (c.args.self.now.place + c.args.count) c.args.self.now.bytes,
  taken c.args.self.now.bytes c.args.self.now.place c.args.self.now.filled c.args.count c.requires,
  refl,
)

pub returns-clause-rest : goal.returns-clause-rest
returns-clause-rest c = still_ahead c.args.self.now.bytes c.args.self.now.place c.args.self.now.filled c.args.count c.requires
