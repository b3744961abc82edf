use Rattle.xt_protocol.specs.FileSteps.{step_of_file}
use Rattle.osd_core.proofs.Steps.{slot_row, slot_same, slot_stays}
use Rattle.osd_core.proofs.slot.Slot.take.Goals as goal

pub returns-clause-sound : goal.returns-clause-sound
returns-clause-sound g c =
    let payload = c.args.msg.now.payload in
    let from = c.args.msg.now.from in
    let bodies = c.take.new.bodies in
    slot_stays (g.B.Bodies.agrees bodies) (λ site s. step_of_file site s from payload) payload c.args.sealed c.args.now c.args.awake c.args.self.now c.in-File.file c.take.new.self c.take.result
    (g.B.Bodies.some bodies) (let opened = c.open.ensures in let is = c.in-File.is in cc) c.take.ensures.row c.take.ensures.same

pub returns-clause-row : goal.returns-clause-row
returns-clause-row g c =
    let payload = c.args.msg.now.payload in
    let from = c.args.msg.now.from in
    slot_row (g.B.Bodies.agrees c.take.new.bodies) (λ site s. step_of_file site s from payload) payload c.args.sealed c.args.now c.args.awake c.args.self.now c.in-File.file c.take.new.self c.take.result
    (let opened = c.open.ensures in let is = c.in-File.is in cc) c.take.ensures.row

pub returns-clause-same : goal.returns-clause-same
returns-clause-same g c =
    slot_same c.args.awake c.args.self.now c.in-File.file c.take.new.self c.take.result (let opened = c.open.ensures in let is = c.in-File.is in cc) c.take.ensures.same
