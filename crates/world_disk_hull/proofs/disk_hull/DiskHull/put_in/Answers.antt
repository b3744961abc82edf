use Rattle.std.proofs.Math.Path.{fun_ext}
use Rattle.world_disk_hull.proofs.Hulls.{put_at}
use Rattle.world_disk_hull.proofs.disk_hull.DiskHull.put_in.Goals as goal

pub returns-clause-ok : goal.returns-clause-ok
returns-clause-ok c = fun_ext (put_at c.args.self.now.nodes c.insert.new.self c.args.node.0 c.args.own c.in_ok-insert.ensures.updates)
