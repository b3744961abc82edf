use Rattle.std.proofs.Common.{◌++◌, ◌∷◌, [], refl, ap, ◌∙◌, List}
use Rattle.std.proofs.lemmas.Result.{err_from_is_err_and}
use Rattle.time_line.specs.declared.entry.Entry.{Entry}
use Rattle.time_line.specs.declared.entry.Entry.TheVariants as entry
use Rattle.world_nodes.specs.Nodes.{after_append}
use Rattle.world_step.specs.Steps.{working}
use Rattle.world_step.proofs.Endings.{changed_inside}
use Rattle.world_step.proofs.Given.{append_limit, append_told}
use Rattle.world_step.proofs.stepper.Stepper.stop_in_append.Goals as goal

pub halt-requires : goal.halt-requires
halt-requires g c =
    changed_inside c.args.self.now.nodes c.append.new.self c.args.place c.id-node.ensures.there.0 (after_append c.args.rec.now c.in_ok-end.end c.id-node.ensures.there.0) c.id-node.ensures.there.1 refl
    (c.in_ok-end.ensures.done.1 c.id-node.ensures.there.0 c.id-node.ensures.there.1)

pub returns-in_err-test_limits : goal.returns-in_err-test_limits
returns-in_err-test_limits g c = λ around node running at up clock.
    let p = err_from_is_err_and c.from_residual-in_err-test_limits.result c.from_residual-in_err-test_limits.ensures.1 in
    rw (p.1, p.2)
    (append_limit (Unit {0}) g.H.Hull.room (working around c.args.self.now) (working around c.args.self.now) _ c.args.place node running c.args.stop c.args.rec.now c.in_err-test_limits.field-0.0 refl at
    c.in_ok-end.ensures.room c.in_err-test_limits.ensures (record { entries = c.reserve.ensures.items; lines = refl; begun = refl; ended = refl }))

pub returns : goal.returns
returns g c = λ around node running at up clock.
    append_told g.H.Hull.room (working around c.args.self.now) (working around c.args.self.now) (working around c.halt.new.self) c.args.place node running c.args.stop c.args.rec.now c.in_ok-end.end c.id-node.result c.args.clock c.halt_of-how.result c.append.new.self c.tell.new.entries.items
    refl at clock c.id-node.ensures.id c.in_ok-end.ensures.done.0 c.in_ok-end.ensures.done.1 c.in_ok-end.ensures.room c.in_ok-test_limits.ensures c.halt_of-how.ensures
    (c.in_ok-tell.ensures.items ∙ ap (λ (es : List Entry). es ++ entry.Down c.id-node.result c.args.clock c.halt_of-how.result ∷ []) c.reserve.ensures.items)
    (c.halt.ensures around)
