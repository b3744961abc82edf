use Rattle.std.proofs.Common.{◌∙◌, map, refl, sym, ap}
use Rattle.volume_rows.specs.Requests.{Outcome}
use Rattle.volume_tree.specs.Calls.{in_result}
use Rattle.volume_tree.proofs.Moves.{source_refused, all_passed, target_named}
use Rattle.volume_tree.proofs.Placing.{place_tested}
use Rattle.volume_tree.proofs.requests.move_path.Goals as goal

pub returns-in-Some : goal.returns-in-Some
returns-in-Some c = (source_refused c.args.table.now c.args.who (map (λ name. name.now) c.args.from.now) (map (λ name. name.now) c.args.to.now) c.no_source.result c.in-Some.why c.no_source.ensures c.in-Some.is, refl)

pub rename-requires-clause-place : goal.rename-requires-clause-place
rename-requires-clause-place c =
    place_tested c.args.who c.args.table.now.rows c.args.to.now _ (sym c.no_target.ensures.why ∙ c.in_default-no_target.is) (target_named c.args.table.now c.args.who (map (λ name. name.now) c.args.from.now) c.args.to.now (sym c.no_source.ensures ∙ c.in_default.is))

pub returns : goal.returns
returns c =
    (ap (λ (o : Outcome). in_result o.answer) (sym (all_passed c.args.table.now c.args.who (map (λ name. name.now) c.args.from.now) (map (λ name. name.now) c.args.to.now) c.no_source.result c.no_target.result c.no_source.ensures c.in_default.is c.no_target.ensures.why c.in_default-no_target.is)), c.in_ok-rename.ensures.ok ∙ ap (λ (o : Outcome). o.volumes) (sym (all_passed c.args.table.now c.args.who (map (λ name. name.now) c.args.from.now) (map (λ name. name.now) c.args.to.now) c.no_source.result c.no_target.result c.no_source.ensures c.in_default.is c.no_target.ensures.why c.in_default-no_target.is)))
