use Rattle.std.proofs.Common.{refl, sym, subst, List}
use Rattle.xt_messages.specs.declared.record.Record.{Record}
use Rattle.object_store.specs.Access.{records_of}
use Rattle.node_loop.specs.Settling.{served_of}
use Rattle.node_loop.proofs.Settling.{has_rewritten, has_no_room}
use Rattle.node_loop.proofs.site.Site.settle_with.Goals as goal

pub returns-in-Ok-Done : goal.returns-in-Ok-Done
returns-in-Ok-Done g c =
    let s = c.args.self.now in
    let store = c.args.store in
    let N = g.N.Node in
    let made = rw c.in-Ok-Done.field-0-is at c.in-Ok-Done.ensures.made in
    record {
      same = (refl, refl, refl, refl, refl);
      same_role = c.forget.ensures.same;
      runs = subst (λ (rs : List Record). N.runs_on c.forget.new.self rs) (sym made.0) (c.forget.ensures.runs c.requires.needs (records_of store) c.requires.runs);
      settles = λ period. has_rewritten g.D.Disk.is_told (N.role s.node) s.sender.boot period (served_of N.state s store) c.args.keep.now
          (record { woken = c.requires.woken; due = c.requires.due; needs = c.requires.needs }) _ _ _ (c.forget.ensures.state c.requires.needs) made.0 made.1 made.2;
      ends = λ period. tt;
      keeps = rw c.in-Ok-Done.field-0-is at c.in-Ok-Done.ensures.keeps;
      disk = rw c.in-Ok-Done.field-0-is at c.in-Ok-Done.ensures.disk;
      disk_cause = tt;
    }

pub returns-in-Ok-NoRoom : goal.returns-in-Ok-NoRoom
returns-in-Ok-NoRoom g c =
    let s = c.args.self.now in
    let store = c.args.store in
    let N = g.N.Node in
    let made = rw c.in-Ok-NoRoom.field-0-is at c.in-Ok-NoRoom.ensures.made in
    record {
      same = (refl, refl, refl, refl, refl);
      same_role = refl;
      runs = subst (λ (rs : List Record). N.runs_on s.node rs) (sym made.0) c.requires.runs;
      settles = λ period. has_no_room g.D.Disk.is_told (N.role s.node) s.sender.boot period (served_of N.state s store) c.args.keep.now
          (record { woken = c.requires.woken; due = c.requires.due; needs = c.requires.needs }) _ _ made.2.0 made.0 made.1 made.2.1;
      ends = λ period. tt;
      keeps = rw c.in-Ok-NoRoom.field-0-is at c.in-Ok-NoRoom.ensures.keeps;
      disk = rw c.in-Ok-NoRoom.field-0-is at c.in-Ok-NoRoom.ensures.disk;
      disk_cause = tt;
    }
