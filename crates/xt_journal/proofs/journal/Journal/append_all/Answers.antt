use Rattle.std.proofs.Common.{◌-◌, [], ◌∷◌, ◌++◌, arith}
use Rattle.disk_model.proofs.Moments.{begun}
use Rattle.xt_journal.specs.Append.{IsWithAllOrNone}
use Rattle.xt_journal.proofs.Located.{located_later}
use Rattle.xt_journal.proofs.Steps.{all_stopped_at, each_stands, ends_after, go_at, keeps_any, rests_with_all}
use Rattle.xt_journal.proofs.journal.Journal.append_all.Goals as goal

pub returns-in-Err-clause-any_moment : goal.returns-in-Err-clause-any_moment
returns-in-Err-clause-any_moment g c told payloads more keeps run =
    let D = g.D.Disk in
    begun D.moment D.left_since c.args.self.disk (IsWithAllOrNone payloads more)
    (λ image left. rests_with_all (D.kept c.args.self.disk) payloads more image keeps (g.met.D.Disk.only_now c.args.self.disk image told left))

pub invariant_of-result : goal.invariant_of-result
invariant_of-result g c = record {
  located = located_later c.args.self.superblock c.args.self.end (c.in-Ok.need - 1) (omega (arith, c.in-Ok.ensures.0)) (omega (arith, c.in-Ok.ensures.0, c.in-Ok.ensures.2)) c.args.self.located;
  ends = λ told.
      let D = g.D.Disk in
      ends_after c.args.self.superblock (D.kept c.args.self.disk) (D.kept c.append_run.new.disk) c.args.self.end (c.in-Ok.need - 1) c.args.piece.now (omega (arith, c.in-Ok.ensures.0)) (c.args.self.ends told)
      c.requires.run
      (λ payloads more keeps run. c.in-Ok-append_run.ensures.turn told c.args.self.superblock payloads more (go_at c.args.self.superblock (D.kept c.args.self.disk) c.args.self.end payloads more (c.args.self.ends told) run.given keeps) run);
}

pub returns-in-Ok-append_run-clause-done : goal.returns-in-Ok-append_run-clause-done
returns-in-Ok-append_run-clause-done g c told payloads more keeps run =
    let D = g.D.Disk in
    keeps_any c.args.self.superblock (D.kept c.append_run.new.disk) (payloads ++ more) (c.in-Ok-append_run.ensures.turn told c.args.self.superblock payloads more (go_at c.args.self.superblock (D.kept c.args.self.disk) c.args.self.end payloads more (c.args.self.ends told) run.given keeps) run)

pub returns-in-Ok-append_run-clause-acknowledged : goal.returns-in-Ok-append_run-clause-acknowledged
returns-in-Ok-append_run-clause-acknowledged g c told payloads more keeps run image is =
    let D = g.D.Disk in
    each_stands (D.kept c.append_run.new.disk) (payloads ++ more) image
    (keeps_any c.args.self.superblock (D.kept c.append_run.new.disk) (payloads ++ more) (c.in-Ok-append_run.ensures.turn told c.args.self.superblock payloads more (go_at c.args.self.superblock (D.kept c.args.self.disk) c.args.self.end payloads more (c.args.self.ends told) run.given keeps) run)) is

pub returns-in-Ok-append_run-clause-any_moment : goal.returns-in-Ok-append_run-clause-any_moment
returns-in-Ok-append_run-clause-any_moment g c told payloads more keeps run =
    let D = g.D.Disk in
    c.append_run.ensures.any_moment told c.args.self.superblock payloads more (go_at c.args.self.superblock (D.kept c.args.self.disk) c.args.self.end payloads more (c.args.self.ends told) run.given keeps) run

pub returns-in-Err-Broken-clause-any_moment : goal.returns-in-Err-Broken-clause-any_moment
returns-in-Err-Broken-clause-any_moment g c told payloads more keeps run =
    let D = g.D.Disk in
    c.append_run.ensures.any_moment told c.args.self.superblock payloads more (go_at c.args.self.superblock (D.kept c.args.self.disk) c.args.self.end payloads more (c.args.self.ends told) run.given keeps) run

pub returns-in-Err-OutOfMemory-clause-any_moment : goal.returns-in-Err-OutOfMemory-clause-any_moment
returns-in-Err-OutOfMemory-clause-any_moment g c told payloads more keeps run =
    let D = g.D.Disk in
    c.append_run.ensures.any_moment told c.args.self.superblock payloads more (go_at c.args.self.superblock (D.kept c.args.self.disk) c.args.self.end payloads more (c.args.self.ends told) run.given keeps) run

pub returns-in-Err-Broken-clause-broken : goal.returns-in-Err-Broken-clause-broken
returns-in-Err-Broken-clause-broken g c told payloads more keeps run broken image is =
    let D = g.D.Disk in
    let left = c.append_run.ensures.any_moment told c.args.self.superblock payloads more (go_at c.args.self.superblock (D.kept c.args.self.disk) c.args.self.end payloads more (c.args.self.ends told) run.given keeps) run in
    left.each image (g.met.D.Disk.counts_now c.append_run.new.disk (D.moment c.args.self.disk) image told left.later is)

pub returns-in-Err-Broken-clause-stopped : goal.returns-in-Err-Broken-clause-stopped
returns-in-Err-Broken-clause-stopped g c told payloads more keeps run broken =
    let D = g.D.Disk in
    all_stopped_at c.args.self.superblock (D.fails c.args.self.disk) (D.kept c.append_run.new.disk) payloads more c.in-Err-Broken.field-0 c.in-Err-Broken.field-0-is
    (c.in-Err-Broken.ensures.turn told c.args.self.superblock payloads more (go_at c.args.self.superblock (D.kept c.args.self.disk) c.args.self.end payloads more (c.args.self.ends told) run.given keeps) run)
