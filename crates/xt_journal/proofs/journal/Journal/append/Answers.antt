use Rattle.std.proofs.Common.{◌-◌, [], ◌∷◌, ◌++◌, arith}
use Rattle.disk_model.proofs.Moments.{begun}
use Rattle.xt_journal.specs.Append.{IsWithOrWithout}
use Rattle.xt_journal.proofs.Located.{located_later}
use Rattle.xt_journal.proofs.Steps.{each_stands, ends_later, goes_at, keeps_any, rests_with, stopped_at}
use Rattle.xt_journal.proofs.journal.Journal.append.Goals as goal

pub returns-in-Err-clause-any_moment : goal.returns-in-Err-clause-any_moment
returns-in-Err-clause-any_moment g c told payloads keeps =
    let D = g.D.Disk in
    begun D.moment D.left_since c.args.self.disk (IsWithOrWithout payloads c.args.payload.now)
    (λ image left. rests_with (D.kept c.args.self.disk) payloads c.args.payload.now image keeps (g.met.D.Disk.only_now c.args.self.disk image told left))

pub invariant_of-result : goal.invariant_of-result
invariant_of-result g c = record {
  located = located_later c.args.self.superblock c.args.self.end (c.in-Ok.need - 1) (omega (arith, c.in-Ok.ensures.0)) (omega (arith, c.in-Ok.ensures.0, c.in-Ok.ensures.2)) c.args.self.located;
  ends = λ told.
      let D = g.D.Disk in
      let payload = c.args.payload.now in
      ends_later c.args.self.superblock (D.kept c.args.self.disk) (D.kept c.append_to.new.disk) c.args.self.end (c.in-Ok.need - 1) payload (omega (arith, c.in-Ok.ensures.0)) (c.args.self.ends told)
      (λ payloads keeps. c.in-Ok-append_to.ensures.turn told c.args.self.superblock payloads (goes_at c.args.self.superblock (D.kept c.args.self.disk) c.args.self.end payloads c.args.payload.now (c.args.self.ends told) c.requires.some c.requires.fits c.requires.kind keeps));
}

pub returns-in-Ok-append_to-clause-done : goal.returns-in-Ok-append_to-clause-done
returns-in-Ok-append_to-clause-done g c told payloads keeps =
    let D = g.D.Disk in
    keeps_any c.args.self.superblock (D.kept c.append_to.new.disk) (payloads ++ c.args.payload.now ∷ []) (c.in-Ok-append_to.ensures.turn told c.args.self.superblock payloads (goes_at c.args.self.superblock (D.kept c.args.self.disk) c.args.self.end payloads c.args.payload.now (c.args.self.ends told) c.requires.some c.requires.fits c.requires.kind keeps))

pub returns-in-Ok-append_to-clause-acknowledged : goal.returns-in-Ok-append_to-clause-acknowledged
returns-in-Ok-append_to-clause-acknowledged g c told payloads keeps image is =
    let D = g.D.Disk in
    each_stands (D.kept c.append_to.new.disk) (payloads ++ c.args.payload.now ∷ []) image
    (keeps_any c.args.self.superblock (D.kept c.append_to.new.disk) (payloads ++ c.args.payload.now ∷ []) (c.in-Ok-append_to.ensures.turn told c.args.self.superblock payloads (goes_at c.args.self.superblock (D.kept c.args.self.disk) c.args.self.end payloads c.args.payload.now (c.args.self.ends told) c.requires.some c.requires.fits c.requires.kind keeps))) is

pub returns-in-Ok-append_to-clause-any_moment : goal.returns-in-Ok-append_to-clause-any_moment
returns-in-Ok-append_to-clause-any_moment g c told payloads keeps =
    let D = g.D.Disk in
    c.append_to.ensures.any_moment told c.args.self.superblock payloads (goes_at c.args.self.superblock (D.kept c.args.self.disk) c.args.self.end payloads c.args.payload.now (c.args.self.ends told) c.requires.some c.requires.fits c.requires.kind keeps)

pub returns-in-Err-Broken-clause-any_moment : goal.returns-in-Err-Broken-clause-any_moment
returns-in-Err-Broken-clause-any_moment g c told payloads keeps =
    let D = g.D.Disk in
    c.append_to.ensures.any_moment told c.args.self.superblock payloads (goes_at c.args.self.superblock (D.kept c.args.self.disk) c.args.self.end payloads c.args.payload.now (c.args.self.ends told) c.requires.some c.requires.fits c.requires.kind keeps)

pub returns-in-Err-OutOfMemory-clause-any_moment : goal.returns-in-Err-OutOfMemory-clause-any_moment
returns-in-Err-OutOfMemory-clause-any_moment g c told payloads keeps =
    let D = g.D.Disk in
    c.append_to.ensures.any_moment told c.args.self.superblock payloads (goes_at c.args.self.superblock (D.kept c.args.self.disk) c.args.self.end payloads c.args.payload.now (c.args.self.ends told) c.requires.some c.requires.fits c.requires.kind keeps)

pub returns-in-Err-Broken-clause-broken : goal.returns-in-Err-Broken-clause-broken
returns-in-Err-Broken-clause-broken g c told payloads keeps broken image is =
    let D = g.D.Disk in
    let run = c.append_to.ensures.any_moment told c.args.self.superblock payloads (goes_at c.args.self.superblock (D.kept c.args.self.disk) c.args.self.end payloads c.args.payload.now (c.args.self.ends told) c.requires.some c.requires.fits c.requires.kind keeps) in
    run.each image (g.met.D.Disk.counts_now c.append_to.new.disk (D.moment c.args.self.disk) image told run.later is)

pub returns-in-Err-Broken-clause-stopped : goal.returns-in-Err-Broken-clause-stopped
returns-in-Err-Broken-clause-stopped g c told payloads keeps broken =
    let D = g.D.Disk in
    stopped_at c.args.self.superblock (D.fails c.args.self.disk) (D.kept c.append_to.new.disk) payloads c.args.payload.now c.in-Err-Broken.field-0 c.in-Err-Broken.field-0-is
    (c.in-Err-Broken.ensures.turn told c.args.self.superblock payloads (goes_at c.args.self.superblock (D.kept c.args.self.disk) c.args.self.end payloads c.args.payload.now (c.args.self.ends told) c.requires.some c.requires.fits c.requires.kind keeps))
