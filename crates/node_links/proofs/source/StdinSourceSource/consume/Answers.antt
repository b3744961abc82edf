use Rattle.node_links.proofs.Ahead.{still_ahead}
use Rattle.node_links.proofs.source.StdinSourceSource.consume.Goals as goal

pub returns-clause-rest : goal.returns-clause-rest
returns-clause-rest g c = still_ahead c.args.self.now.buffer.items c.args.self.now.place c.args.self.now.filled c.args.count c.requires
