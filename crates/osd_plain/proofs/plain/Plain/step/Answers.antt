use Rattle.osd_plain.proofs.Records.{updated_alone}
use Rattle.osd_plain.proofs.plain.Plain.step.Goals as goal

-- the row is the same for any records that agree with what was read, and there are such records
pub take-requires : goal.take-requires
take-requires g c =
    let found = g.B.Bodies.some c.step.new.bodies in
    updated_alone _ _ _ _ _ _ _ (c.in_ok-acted.ensures.row found.0 found.1)
