use Rattle.schedule_maker.specs.Generated.{generated}
use Rattle.schedule_maker.proofs.Turns.{begun, goes_on, is_over}
use Rattle.schedule_maker.proofs.lines.generate.Goals as goal

pub loop-turn-init : goal.loop-turn-init
loop-turn-init c = begun c.in_ok-lines.lines.items c.args.number c.args.size c.in_ok-lines.ensures

pub loop-turn-preserved : goal.loop-turn-preserved
loop-turn-preserved c =
    let l = c.loop-turn in
    let next = c.in_ok-push_turn.ensures in
    goes_on l.lines.items c.push_turn.new.lines.items (generated c.args.number c.args.size) c.args.size l.turn l.draws.state c.push_turn.new.draws.state
    c.loop-turn-test.true next.lines next.state l.invariant

pub returns : goal.returns
returns c =
    let l = c.loop-turn in
    is_over l.lines.items (generated c.args.number c.args.size) c.args.size l.turn l.draws.state c.loop-turn-test.false l.invariant
