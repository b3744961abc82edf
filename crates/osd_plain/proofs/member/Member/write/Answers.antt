use Rattle.std.proofs.Common.{◌*◌, ◌∙◌, length, sym, arith}
use Rattle.xt_base.specs.declared.TheConstants.{OBJECTS}
use Rattle.osd_decisions.proofs.Near.{fresh_near}
use Rattle.osd_plain.proofs.member.Member.write.Goals as goal

-- src/member.rt:134:13
pub fresh_write-requires-clause-near : goal.fresh_write-requires-clause-near
fresh_write-requires-clause-near g c =
    fresh_near (OBJECTS * length c.as_slice.result.now) c.args.location.now.stripe c.self.inside.head.now c.args.id c.args.epoch c.args.op.now
    (omega (arith, c.as_slice.ensures.few)) (sym c.standing_of.ensures ∙ c.in-Fresh.is)
