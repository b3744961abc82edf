use Rattle.std.proofs.Common.{refl}
use Rattle.xt_protocol.specs.Folds.{body_kept}
use Rattle.object_store.specs.Access.{records_of}
use Rattle.world_disk.proofs.Bodies.{gives_body}
use Rattle.world_disk.proofs.node_store.NodeStore.body.Goals as goal

pub returns : goal.returns
returns c =
    let kept = body_kept (records_of c.self.inside.store) c.args.file.now c.args.object c.args.version.now in
    rw (← c.self.view_is) (gives_body kept c.find.result (c.find.ensures.value refl) c.find.ensures.missing (c.find.ensures.sure refl))
