use Rattle.std.proofs.Common.{◌≡◌, arith}
use Rattle.cluster_job.specs.Registering.{at_clock}
use Rattle.cluster_job.proofs.Registered.{registers_first, registers_osd, fails_first, fails_osd, registers_all, reads_once, closes_unread}
use Rattle.cluster_job.proofs.registering.register_all.Goals as goal

pub loop-before-init : goal.loop-before-init
loop-before-init g c left source = registers_first c.args.job.now _ _ (c.in-Ok.ensures.registered left source)

pub loop-before-preserved : goal.loop-before-preserved
loop-before-preserved g c left source =
    registers_osd c.args.job.now _ _ _ c.loop-before.before (c.loop-before.invariant left source) (c.in-Ok-register.ensures.registered left source)

pub returns-in-Err-clause-cannot : goal.returns-in-Err-clause-cannot
returns-in-Err-clause-cannot g c left source = fails_first c.args.job.now _ _ _ (c.in-Err.ensures.cannot left source)

pub returns-in-Err-register-clause-cannot : goal.returns-in-Err-register-clause-cannot
returns-in-Err-register-clause-cannot g c left source =
    fails_osd c.args.job.now _ _ _ c.loop-before.before _ c.loop-before-test.true (c.loop-before.invariant left source) (c.in-Err-register.ensures.cannot left source)

pub returns-in-Ok-read-clause-registered : goal.returns-in-Ok-read-clause-registered
returns-in-Ok-read-clause-registered g c left source =
    let all : c.loop-before.before ≡ c.args.job.now.osds = omega arith in
    record {
      last = _;
      registers = registers_all c.args.job.now _ _ c.loop-before.before all (c.loop-before.invariant left source);
      reads = reads_once c.loop-before.session _ _ _ _ left _ _ _ source _ _ _ _ c.in-Ok-read.ensures.sound c.in-Ok-read.ensures.reads;
    }

pub returns-in-Err-read-clause-cannot : goal.returns-in-Err-read-clause-cannot
returns-in-Err-read-clause-cannot g c left source =
    let all : c.loop-before.before ≡ c.args.job.now.osds = omega arith in
    at_clock _ _ (registers_all c.args.job.now _ _ c.loop-before.before all (c.loop-before.invariant left source))
    (closes_unread c.loop-before.session _ _ _ _ left _ _ _ source _ _ _ _ _ _ _ _ c.in-Err-read.ensures.unread.0 c.in-Err-read.ensures.unread.1
    (c.in-Err-read.ensures.cause _ source) c.close.ensures)
