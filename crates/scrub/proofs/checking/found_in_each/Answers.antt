use Rattle.std.proofs.Common.{ap, ◌∙◌}
use Rattle.std.proofs.lemmas.Result.{IfOk-weaker}
use Rattle.par_halves.proofs.Lists.{zip_map}
use Rattle.scrub.specs.Reading.{found_in}
use Rattle.scrub.proofs.checking.found_in_each.Goals as goal

pub returns : goal.returns
returns g c =
    IfOk-weaker c.map_halves.result _ _ (λ v h. zip_map _ found_in (λ x y r. r.says.met ∙ ap found_in r.shows) c.args.items.now v.items h) c.map_halves.ensures
