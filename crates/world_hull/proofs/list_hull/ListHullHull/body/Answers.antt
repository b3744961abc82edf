use Rattle.std.proofs.Common.{sym, ◌∙◌, ap, unwrap_or, []}
use Rattle.std.specs.Option.{option_map}
use Rattle.xt_protocol.specs.Folds.{body_kept}
use Rattle.xt_protocol.proofs.Folds.{body_kept-nothing}
use Rattle.replica_records.specs.Logs.{records_in}
use Rattle.world_hull.proofs.list_hull.ListHullHull.body.Goals as goal

pub returns-in-None : goal.returns-in-None
returns-in-None c =
    ap (λ log. body_kept (unwrap_or (option_map (λ own. records_in own.log) log) []) c.args.file.now c.args.object c.args.version.now) (sym c.in-None.ensures.value)
    ∙ body_kept-nothing c.args.file.now c.args.object c.args.version.now
