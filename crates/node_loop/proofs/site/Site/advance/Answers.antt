use Rattle.std.proofs.Common.{refl}
use Rattle.object_store.specs.Access.{records_of, disk_of}
use Rattle.node_loop.specs.Batched.{held_of, posts_of, puts_of}
use Rattle.node_loop.specs.Passing.{by_pass}
use Rattle.node_loop.proofs.Advancing.{commit_ends, commit_goes_on, look_cause, look_ends_it, look_goes_on}
use Rattle.node_loop.proofs.Finishing.{ended_then, finished_cause}
use Rattle.node_loop.proofs.site.Site.advance.Goals as goal

pub returns-in-Ok-Pass-clause-advanced : goal.returns-in-Ok-Pass-clause-advanced
returns-in-Ok-Pass-clause-advanced g c = by_pass (rw c.in-Ok-Pass.field-0-is at c.in-Ok-Pass.ensures.went) refl refl refl

pub returns-in-Ok-Commit-clause-advanced : goal.returns-in-Ok-Commit-clause-advanced
returns-in-Ok-Commit-clause-advanced g c =
    let D = g.D.Disk in
    let s = c.args.self.now in
    let store = c.args.store in
    let old = held_of g.N.Node.state s store c.args.batch.now in
    let role = g.N.Node.role s.node in
    let site = c.pass.new.self in
    let batch = c.pass.new.batch in
    let e = c.flush.ensures in
    commit_goes_on role s.sender.boot c.args.bounds.period c.args.bounds.turns c.args.spent.now c.pass.new.spent g.N.Node.state site store batch old _ _ _ _ _ _ _ _
    (rw c.in-Ok-Commit.field-0-is at c.in-Ok-Commit.ensures.went) _ _ _ c.flush.new.self e.given c.flush.result e.records e.journal e.empty e.changes e.sends

pub returns-in-Ok-Commit-clause-ended : goal.returns-in-Ok-Commit-clause-ended
returns-in-Ok-Commit-clause-ended g c =
    let D = g.D.Disk in
    let s = c.args.self.now in
    let store = c.args.store in
    let old = held_of g.N.Node.state s store c.args.batch.now in
    let role = g.N.Node.role s.node in
    let site = c.pass.new.self in
    let batch = c.pass.new.batch in
    let e = c.flush.ensures in
    commit_ends role s.sender.boot c.args.bounds.period c.args.bounds.turns c.args.spent.now c.pass.new.spent g.N.Node.state site store batch old _ _ _ _ _ _ _ _
    (rw c.in-Ok-Commit.field-0-is at c.in-Ok-Commit.ensures.went) _ _ _ c.flush.new.self e.given c.flush.result e.quiet e.some e.ends

pub returns-in-Ok-Look-clause-advanced : goal.returns-in-Ok-Look-clause-advanced
returns-in-Ok-Look-clause-advanced g c =
    let D = g.D.Disk in
    let s = c.args.self.now in
    let store = c.args.store in
    let old = held_of g.N.Node.state s store c.args.batch.now in
    let role = g.N.Node.role s.node in
    let site = c.pass.new.self in
    let batch = c.pass.new.batch in
    let same = c.in-Ok-Look.ensures.same in
    let went = rw c.in-Ok-Look.field-0-is at c.in-Ok-Look.ensures.went in
    look_goes_on role s.sender.boot c.args.bounds.period c.args.bounds.turns c.args.spent.now c.pass.new.spent g.N.Node.state site store batch old _ _ _ _ _ _ _ _
    went.0 g.N.Node.role g.N.Node.runs_on same.2 same.1 went.1.nothing_waits c.settle.new.self (λ disk image told left. g.met.D.Disk.only_now disk image told left)
    c.settle.result c.settle.ensures

pub returns-in-Ok-Look-clause-ended : goal.returns-in-Ok-Look-clause-ended
returns-in-Ok-Look-clause-ended g c =
    let D = g.D.Disk in
    let s = c.args.self.now in
    let store = c.args.store in
    let old = held_of g.N.Node.state s store c.args.batch.now in
    let role = g.N.Node.role s.node in
    let site = c.pass.new.self in
    let batch = c.pass.new.batch in
    let same = c.in-Ok-Look.ensures.same in
    let went = rw c.in-Ok-Look.field-0-is at c.in-Ok-Look.ensures.went in
    look_ends_it role s.sender.boot c.args.bounds.period c.args.bounds.turns c.args.spent.now c.pass.new.spent g.N.Node.state site store batch old _ _ _ _ _ _ _ _
    went.0 g.N.Node.role g.N.Node.runs_on same.2 same.1 went.1.nothing_waits c.settle.new.self (λ disk image told left. g.met.D.Disk.only_now disk image told left)
    g.met.D.Disk.counts_now refl c.settle.result c.settle.ensures

pub returns-in-Ok-Look-clause-cause : goal.returns-in-Ok-Look-clause-cause
returns-in-Ok-Look-clause-cause g c =
    let faults = c.in-Ok-Look.ensures.faults in
    look_cause g.N.Node.role g.N.Node.state g.N.Node.runs_on c.pass.new.self c.settle.new.self c.args.store c.args.bounds.period _ _ _ _ faults.0 faults.1 c.settle.result c.settle.ensures

pub returns-in-Err-clause-ended : goal.returns-in-Err-clause-ended
returns-in-Err-clause-ended g c =
    let D = g.D.Disk in
    let s = c.args.self.now in
    ended_then D.is_told D.kept D.moment D.left_since g.met.D.Disk.counts_now (g.N.Node.role s.node) s.sender.boot c.args.bounds.period c.args.bounds.turns c.args.spent.now
    (held_of g.N.Node.state s c.args.store c.args.batch.now) (records_of c.args.store) (disk_of c.args.store) c.finish.result.disk refl _ _ _ _ _ _ _ _ _ _
    (puts_of D.is_told c.pass.new.batch) (posts_of c.pass.new.batch) _ _ _ c.finish.result.status c.finish.ensures.given c.in-Err.ensures.stopped c.finish.ensures.finished

pub returns-in-Err-clause-cause : goal.returns-in-Err-clause-cause
returns-in-Err-clause-cause g c =
    let D = g.D.Disk in
    let link = g.L.Link.fault_count in
    let clock = g.C.Clock.fault_count in
    finished_cause D.is_told D.kept D.moment D.left_since _ _ _ _ _ _ _ _ _ _ _ _ (link c.args.link.now) (link c.pass.new.link) (link c.finish.new.link)
    (clock c.args.clock.now) (clock c.pass.new.clock) c.finish.ensures.finished c.finish.ensures.faults c.in-Err.ensures.cause
