use Rattle.std.proofs.Common.{rules, refl, sym, ap, ◌∙◌, ◌≡◌, false, inl, inr}
use Rattle.object_store.specs.Access.{records_of, disk_of}
use Rattle.node_runs.specs.Runs.{is_due, area_at}
use Rattle.node_runs.proofs.Keeping.{stays_so, stays_closed}
use Rattle.node_loop.specs.Settling.{served_of}
use Rattle.node_loop.specs.Stores.{journal_at}
use Rattle.node_loop.proofs.Settling.{has_rested}
use Rattle.node_loop.proofs.site.Site.settle.Goals as goal

pub returns-then-not-is_due : goal.returns-then-not-is_due
returns-then-not-is_due g c =
    let no : c.is_due.result ≡ false = search rules in
    let due : is_due (area_at (journal_at c.args.store)) ≡ false = sym (c.is_due.ensures ∙ ap is_due c.area.ensures) ∙ no in
    let D = g.D.Disk in
    let s = c.args.self.now in
    let store = c.args.store in
    record {
      same = (refl, refl, refl, refl, refl);
      same_role = refl;
      runs = c.requires.runs;
      settles = λ period. has_rested D.is_told (g.N.Node.role s.node) s.sender.boot period (served_of g.N.Node.state s store) (record { woken = c.requires.woken; why = inl due });
      ends = λ period. tt;
      keeps = stays_so D.is_told D.kept D.moment D.left_since (disk_of store) (records_of store) store.keeps
          (λ image told left. g.met.D.Disk.only_now (disk_of store) image told left);
      disk = refl;
      disk_cause = tt;
    }

pub returns-in-Ok-None : goal.returns-in-Ok-None
returns-in-Ok-None g c =
    let D = g.D.Disk in
    let s = c.args.self.now in
    let store = c.args.store in
    record {
      same = (refl, refl, refl, refl, refl);
      same_role = refl;
      runs = c.requires.runs;
      settles = λ period. has_rested D.is_told (g.N.Node.role s.node) s.sender.boot period (served_of g.N.Node.state s store)
          (record { woken = c.requires.woken; why = inr (sym c.in-Ok-None.ensures.needs ∙ c.in-Ok-None.field-0-is) });
      ends = λ period. tt;
      keeps = stays_so D.is_told D.kept D.moment D.left_since (disk_of store) (records_of store) store.keeps
          (λ image told left. g.met.D.Disk.only_now (disk_of store) image told left);
      disk = refl;
      disk_cause = tt;
    }

pub returns-in-Err : goal.returns-in-Err
returns-in-Err g c =
    let D = g.D.Disk in
    let s = c.args.self.now in
    let store = c.args.store in
    record {
      same = (refl, refl, refl, refl, refl);
      same_role = tt;
      runs = tt;
      settles = λ period. tt;
      ends = λ period. inl (stays_closed D.is_told D.kept D.moment D.left_since (disk_of store) c.close.result (records_of store) c.close.ensures store.keeps
          (λ image told left. g.met.D.Disk.only_now (disk_of store) image told left));
      keeps = tt;
      disk = tt;
      disk_cause = ap D.fault_count c.close.ensures;
    }
