use Rattle.std.proofs.Common.{◌≤◌, ◌<◌, [], inr, length, refl, rules, subst, sym}
use Rattle.std.specs.Prelude.{IsTrue}
use Rattle.store_loading.proofs.Disks.{medium_of}
use Rattle.check_job.specs.Checking.{IsCheck}
use Rattle.check_job.proofs.Found.{finds_some, none_are, none_told, unwritten_chosen}
use Rattle.check_job.proofs.checking.check_store.Goals as goal

pub returns-in-Ok-2 : goal.returns-in-Ok-2
returns-in-Ok-2 g c =
    let D = g.D.Disk in
    let short : IsTrue D.is_told → length (D.kept c.args.disk).read ≤ 13 = search rules in
    record {
      finds = inr (record {
        found = record { records = []; long = 13; limit = c.args.limit };
        are = none_are;
        room = refl;
        stood = λ told. inr (short told, refl, refl);
        reports = none_told c.args.limit (g.K.Sink.held c.args.out.now) (g.K.Sink.held c.tell.new.out) c.tell.result c.tell.ensures.reports;
        cause = c.tell.ensures.cause;
        disk_count = c.in-Ok.ensures.count;
      });
      unwritten = unwritten_chosen (medium_of D) c.args.disk c.opened.new.disk c.opened.ensures.same c.opened.ensures.each;
    }

pub returns-in-Ok-loaded : goal.returns-in-Ok-loaded
returns-in-Ok-loaded g c =
    let D = g.D.Disk in
    let K = g.K.Sink in
    let long : IsTrue D.is_told → 13 < length (D.kept c.args.disk).read = search rules in
    subst
    (λ d. IsCheck (medium_of D) c.args.limit c.args.disk d (K.held c.args.out.now) (K.held c.tell_of-status.new.out) (K.fault_count c.args.out.now)
    (K.fault_count c.tell_of-status.new.out) c.tell_of-status.result)
    (sym c.close.ensures)
    (finds_some D c.args.disk c.opened.new.disk c.opened.ensures.same c.opened.ensures.each c.in-Ok.ensures.count long c.args.limit
    (K.held c.args.out.now) (K.held c.tell_of-status.new.out) (K.fault_count c.args.out.now) (K.fault_count c.tell_of-status.new.out) c.tell_of-status.result
    c.in-Ok-loaded.store c.in-Ok-loaded.ensures.loads c.tell_of-status.ensures.reports c.tell_of-status.ensures.cause)
