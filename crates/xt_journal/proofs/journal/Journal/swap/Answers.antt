use Rattle.std.proofs.Common.{ap, arith, Err}
use Rattle.journal_areas.specs.Sites.{area_size}
use Rattle.journal_moves.specs.Gathering.{gathered}
use Rattle.xt_journal.proofs.Steps.{each_stands, keeps_any, keeps_in, place_of_end}
use Rattle.xt_journal.proofs.Swapping.{ends_there, located_moved, new_area}
use Rattle.xt_journal.proofs.journal.Journal.swap.Goals as goal

pub invariant_of-result : goal.invariant_of-result
invariant_of-result g c =
    let D = g.D.Disk in
    let facts = c.in-Ok.ensures in
    record {
      located = located_moved c.args.self.superblock c.args.self.end (area_size (gathered D.is_told (D.kept c.args.self.disk).read c.args.payloads.now)) c.in-Ok.new (omega arith) facts.located facts.small facts.placed;
      ends = λ told.
          ends_there c.args.self.superblock (D.kept c.args.self.disk) c.args.self.end c.in-Ok.new.superblock (D.kept c.move_to.new.disk) c.in-Ok.new.end (gathered D.is_told (D.kept c.args.self.disk).read c.args.payloads.now)
          (c.args.self.ends told) facts.ends (facts.done told);
    }

pub returns-in-Ok-clause-done : goal.returns-in-Ok-clause-done
returns-in-Ok-clause-done g c told old keeps =
    let D = g.D.Disk in
    keeps_any c.in-Ok.new.superblock (D.kept c.move_to.new.disk) (gathered D.is_told (D.kept c.args.self.disk).read c.args.payloads.now)
    (c.in-Ok.ensures.done told old (keeps_in c.args.self.superblock (D.kept c.args.self.disk) c.args.self.end old (c.args.self.ends told) keeps)
    (place_of_end c.args.self.superblock (D.kept c.args.self.disk) c.args.self.end old (c.args.self.ends told) keeps))

pub returns-in-Ok-clause-acknowledged : goal.returns-in-Ok-clause-acknowledged
returns-in-Ok-clause-acknowledged g c told old keeps image is =
    let D = g.D.Disk in
    each_stands (D.kept c.move_to.new.disk) (gathered D.is_told (D.kept c.args.self.disk).read c.args.payloads.now) image
    (keeps_any c.in-Ok.new.superblock (D.kept c.move_to.new.disk) (gathered D.is_told (D.kept c.args.self.disk).read c.args.payloads.now)
    (c.in-Ok.ensures.done told old (keeps_in c.args.self.superblock (D.kept c.args.self.disk) c.args.self.end old (c.args.self.ends told) keeps)
    (place_of_end c.args.self.superblock (D.kept c.args.self.disk) c.args.self.end old (c.args.self.ends told) keeps))) is

pub returns-in-Ok-clause-area : goal.returns-in-Ok-clause-area
returns-in-Ok-clause-area g c =
    let D = g.D.Disk in
    new_area c.args.self.superblock c.args.self.end (area_size (gathered D.is_told (D.kept c.args.self.disk).read c.args.payloads.now)) c.in-Ok.new (omega arith) c.in-Ok.ensures.located

pub returns-in-Ok-clause-any_moment : goal.returns-in-Ok-clause-any_moment
returns-in-Ok-clause-any_moment g c told old keeps =
    let D = g.D.Disk in
    c.move_to.ensures.any_moment told old (keeps_in c.args.self.superblock (D.kept c.args.self.disk) c.args.self.end old (c.args.self.ends told) keeps)
    (place_of_end c.args.self.superblock (D.kept c.args.self.disk) c.args.self.end old (c.args.self.ends told) keeps)

pub returns-in-Err-Broken-clause-any_moment : goal.returns-in-Err-Broken-clause-any_moment
returns-in-Err-Broken-clause-any_moment g c told old keeps =
    let D = g.D.Disk in
    c.move_to.ensures.any_moment told old (keeps_in c.args.self.superblock (D.kept c.args.self.disk) c.args.self.end old (c.args.self.ends told) keeps)
    (place_of_end c.args.self.superblock (D.kept c.args.self.disk) c.args.self.end old (c.args.self.ends told) keeps)

pub returns-in-Err-Broken-clause-broken : goal.returns-in-Err-Broken-clause-broken
returns-in-Err-Broken-clause-broken g c told old keeps broken image is =
    let D = g.D.Disk in
    let run =
    c.move_to.ensures.any_moment told old (keeps_in c.args.self.superblock (D.kept c.args.self.disk) c.args.self.end old (c.args.self.ends told) keeps)
    (place_of_end c.args.self.superblock (D.kept c.args.self.disk) c.args.self.end old (c.args.self.ends told) keeps) in
    run.each image (g.met.D.Disk.counts_now c.move_to.new.disk (D.moment c.args.self.disk) image told run.later is)

pub returns-in-Err-Broken-clause-stopped : goal.returns-in-Err-Broken-clause-stopped
returns-in-Err-Broken-clause-stopped g c told old keeps broken =
    let D = g.D.Disk in
    c.in-Err-Broken.ensures.stopped told old (keeps_in c.args.self.superblock (D.kept c.args.self.disk) c.args.self.end old (c.args.self.ends told) keeps)
    (place_of_end c.args.self.superblock (D.kept c.args.self.disk) c.args.self.end old (c.args.self.ends told) keeps)
    (ap Err c.in-Err-Broken.field-0-is)

pub returns-in-Err-Full-clause-any_moment : goal.returns-in-Err-Full-clause-any_moment
returns-in-Err-Full-clause-any_moment g c told old keeps =
    let D = g.D.Disk in
    c.move_to.ensures.any_moment told old (keeps_in c.args.self.superblock (D.kept c.args.self.disk) c.args.self.end old (c.args.self.ends told) keeps)
    (place_of_end c.args.self.superblock (D.kept c.args.self.disk) c.args.self.end old (c.args.self.ends told) keeps)

pub returns-in-Err-OutOfMemory-clause-any_moment : goal.returns-in-Err-OutOfMemory-clause-any_moment
returns-in-Err-OutOfMemory-clause-any_moment g c told old keeps =
    let D = g.D.Disk in
    c.move_to.ensures.any_moment told old (keeps_in c.args.self.superblock (D.kept c.args.self.disk) c.args.self.end old (c.args.self.ends told) keeps)
    (place_of_end c.args.self.superblock (D.kept c.args.self.disk) c.args.self.end old (c.args.self.ends told) keeps)
