use Rattle.std.proofs.Common.{ap, ◌∙◌}
use Rattle.body_digests.specs.Digests.{under_or_none}
use Rattle.body_digests.proofs.Noting.{put_under}
use Rattle.body_digests.proofs.digests.Digests.put.Goals as goal

pub returns : goal.returns
returns c =
    put_under c.args.self.now (record { files = c.remove.new.self }) (record { files = c.insert.new.self }) c.args.file.now c.args.version c.args.digest
    c.bodies_or_none-bodies.result c.note.new.bodies c.remove.ensures.updates.0 c.in_ok-insert.ensures.updates.0
    (λ v. c.bodies_or_none-bodies.ensures v ∙ ap (λ o. under_or_none o v) c.remove.ensures.value) c.in_ok-note.ensures
