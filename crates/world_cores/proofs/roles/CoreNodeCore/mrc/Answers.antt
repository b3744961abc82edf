use Rattle.world_cores.proofs.Requests.{all_taken}
use Rattle.world_cores.proofs.roles.CoreNodeCore.mrc.Goals as goal

pub start-requires-clause-can : goal.start-requires-clause-can
start-requires-clause-can c = all_taken c.args.records.now c.requires.records
