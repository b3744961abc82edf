use Rattle.std.proofs.Common.{subst}
use Rattle.world_safety.proofs.Fronts.{never_broken}
use Rattle.trace_judge.specs.Found.{IsVerdictOn}
use Rattle.make_job.proofs.making.audited.Goals as goal

pub unreachable-requires : goal.unreachable-requires
unreachable-requires g c =
    let broken = subst (IsVerdictOn c.args.entries.now) c.in-Broken.is (c.in_ok-audit_halves.ensures.verdict c.requires.times) in
    never_broken c.args.entries.now broken.0 c.requires.safe broken.3
