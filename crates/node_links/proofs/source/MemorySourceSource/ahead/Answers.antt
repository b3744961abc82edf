use Rattle.std.proofs.Common.{◌-◌, drop, sym}
use Rattle.std.proofs.lemmas.List.{take-append-drop}
use Rattle.node_links.proofs.source.MemorySourceSource.ahead.Goals as goal

pub returns-clause-front : goal.returns-clause-front
returns-clause-front c = (
  drop (c.args.self.now.filled - c.args.self.now.place) (drop c.args.self.now.place c.args.self.now.bytes),
  sym (take-append-drop (c.args.self.now.filled - c.args.self.now.place) (drop c.args.self.now.place c.args.self.now.bytes)),
)
