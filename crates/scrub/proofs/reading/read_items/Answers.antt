use Rattle.std.proofs.Common.{◌+◌, List, take, subst, sym}
use Rattle.scrub.specs.declared.reading.ReadItem.{ReadItem}
use Rattle.scrub.proofs.Reports.{HasReadOn, read_fails, read_more}
use Rattle.scrub.proofs.reading.read_items.Goals as goal

pub returns-in-Err-clause-cannot : goal.returns-in-Err-clause-cannot
returns-in-Err-clause-cannot g c =
    read_fails g.B.Bodies.agrees g.B.Bodies.fault_count c.args.bodies.now c.loop-i.bodies c.read_item.new.bodies c.args.items.now c.args.first c.loop-i.i
    c.index-items-i.result c.loop-i.read.items c.in-Err.error c.loop-i-test.true c.index-items-i.is c.loop-i.invariant c.in-Err.ensures.later c.in-Err.ensures.ends

pub loop-i-preserved : goal.loop-i-preserved
loop-i-preserved g c =
    subst (λ (read : List ReadItem). HasReadOn g.B.Bodies.agrees g.B.Bodies.fault_count c.args.bodies.now c.read_item.new.bodies (take (c.loop-i.i + 1) c.args.items.now) read)
    (sym c.in_ok-put-in-Ok.ensures)
    (read_more g.B.Bodies.agrees g.B.Bodies.fault_count c.args.bodies.now c.loop-i.bodies c.read_item.new.bodies c.args.items.now c.loop-i.i c.index-items-i.result
    c.loop-i.read.items c.in-Ok.item c.loop-i-test.true c.index-items-i.is c.loop-i.invariant c.in-Ok.ensures.later c.in-Ok.ensures.ends)
