use Rattle.std.proofs.Common.{arith, refl, sym, ap, subst, ◌∙◌, List}
use Rattle.xt_messages.specs.declared.record.Record.{Record}
use Rattle.object_store.specs.Access.{records_of, disk_of}
use Rattle.object_store.specs.Waits.{recs_of}
use Rattle.node_runs.proofs.Keeping.{keeps_now}
use Rattle.node_loop.specs.Batched.{held_of, posts_of, puts_of}
use Rattle.node_loop.specs.Settling.{served_of}
use Rattle.node_loop.proofs.Counting.{cause_since}
use Rattle.node_loop.proofs.Coming.{comes_first, comes_on, is_served_on}
use Rattle.node_loop.proofs.Finishing.{cause_from, ended_then, finished_cause, gives_up}
use Rattle.node_loop.proofs.Holding.{held_alone, is_held, kept_alone, none_can}
use Rattle.node_loop.proofs.serving.serve.Goals as goal

pub loop-init : goal.loop-init
loop-init g c =
    let D = g.D.Disk in
    let store = c.args.store in
    let s = c.args.site.now in
    let batch = c.new-batch.result in
    let none = c.new-batch.ensures.records in
    let start = served_of g.N.Node.state s store in (
      refl,
      refl,
      refl,
      c.requires.clocks.1,
      c.requires.own,
      subst (λ (rs : List Record). g.N.Node.runs_on s.node rs) (sym (kept_alone g.N.Node.state s store batch none)) c.requires.runs,
      omega arith,
      refl,
      refl,
      refl,
      none_can store (recs_of batch.records) none,
      comes_first D.is_told (g.N.Node.role s.node) s.sender.boot c.args.bounds.period start
          (g.L.Link.given c.args.link.now) (g.L.Link.sent c.args.link.now) (g.L.Link.loss_count c.args.link.now) (g.C.Clock.readings c.args.clock.now)
          D.moment D.left_since (disk_of store)
          (held_of g.N.Node.state s store batch) (records_of store) (held_alone g.N.Node.state s store batch none c.new-batch.ensures.posts) refl
          (keeps_now D.is_told D.kept D.moment D.left_since (disk_of store) (records_of store) store.keeps
          (λ image told left. g.met.D.Disk.only_now (disk_of store) image told left)),
    )

pub advance-requires-clause-clocks : goal.advance-requires-clause-clocks
advance-requires-clause-clocks g c = (c.requires.clocks.0, c.loop.invariant.3)

pub advance-requires-clause-home : goal.advance-requires-clause-home
advance-requires-clause-home g c = c.loop.invariant.2 ∙ c.requires.home ∙ ap (λ r. r.node) (sym c.loop.invariant.0)

pub advance-requires-clause-own : goal.advance-requires-clause-own
advance-requires-clause-own g c = c.loop.invariant.4

pub advance-requires-clause-spent : goal.advance-requires-clause-spent
advance-requires-clause-spent g c = c.loop.invariant.6

pub advance-requires-clause-runs : goal.advance-requires-clause-runs
advance-requires-clause-runs g c = c.loop.invariant.5

pub advance-requires-clause-may : goal.advance-requires-clause-may
advance-requires-clause-may g c = c.loop.invariant.10

pub loop-preserved : goal.loop-preserved
loop-preserved g c =
    let D = g.D.Disk in
    let s = c.args.site.now in
    let start = served_of g.N.Node.state s c.args.store in
    let inv = c.loop.invariant in
    let e = c.in-Ok.ensures in (
      e.same.2 ∙ inv.0,
      e.same.1 ∙ inv.1,
      e.same.0 ∙ inv.2,
      e.clocks.0,
      e.own,
      e.runs,
      e.clocks.1,
      e.faults.0 ∙ inv.7,
      e.faults.1 ∙ inv.8,
      e.disk ∙ inv.9,
      e.may,
      comes_on D.is_told (g.N.Node.role s.node) s.sender.boot c.args.bounds.period start _ _ _ _ D.moment D.left_since (disk_of c.args.store)
          (held_of g.N.Node.state c.loop.site c.loop.store c.loop.batch) (records_of c.loop.store) (disk_of c.loop.store) _ _ _ _ _ inv.11
          (is_held g.N.Node.state c.loop.site c.loop.store c.loop.batch inv.10)
          D.kept (disk_of c.in-Ok.kept) _ _ _ _ (g.N.Node.role c.loop.site.node) c.loop.site.sender.boot inv.0 inv.1
          (held_of g.N.Node.state c.advance.new.self c.in-Ok.kept c.advance.new.batch) (records_of c.in-Ok.kept) _ e.advanced
          (is_held g.N.Node.state c.advance.new.self c.in-Ok.kept c.advance.new.batch e.may),
    )

pub returns-in-Err-clause-keeps : goal.returns-in-Err-clause-keeps
returns-in-Err-clause-keeps g c =
    let D = g.D.Disk in
    let s = c.args.site.now in
    let start = served_of g.N.Node.state s c.args.store in
    let inv = c.loop.invariant in
    is_served_on D.is_told (g.N.Node.role s.node) s.sender.boot c.args.bounds.period start _ _ _ _ D.moment D.left_since (disk_of c.args.store)
    (held_of g.N.Node.state c.loop.site c.loop.store c.loop.batch) (records_of c.loop.store) (disk_of c.loop.store) _ _ _ _ _ inv.11
    (is_held g.N.Node.state c.loop.site c.loop.store c.loop.batch inv.10)
    D.kept _ _ _ _ _ c.args.bounds.turns (g.N.Node.role c.loop.site.node) c.loop.site.sender.boot inv.0 inv.1 _ c.in-Err.ensures.ended

pub returns-in-Err-clause-served : goal.returns-in-Err-clause-served
returns-in-Err-clause-served g c =
    let D = g.D.Disk in
    let s = c.args.site.now in
    let start = served_of g.N.Node.state s c.args.store in
    let inv = c.loop.invariant in
    (is_served_on D.is_told (g.N.Node.role s.node) s.sender.boot c.args.bounds.period start _ _ _ _ D.moment D.left_since (disk_of c.args.store)
    (held_of g.N.Node.state c.loop.site c.loop.store c.loop.batch) (records_of c.loop.store) (disk_of c.loop.store) _ _ _ _ _ inv.11
    (is_held g.N.Node.state c.loop.site c.loop.store c.loop.batch inv.10)
    D.kept _ _ _ _ _ c.args.bounds.turns (g.N.Node.role c.loop.site.node) c.loop.site.sender.boot inv.0 inv.1 _ c.in-Err.ensures.ended).0

pub returns-in-Err-clause-cause : goal.returns-in-Err-clause-cause
returns-in-Err-clause-cause g c = cause_from _ _ _ _ _ _ _ c.loop.invariant.7 c.loop.invariant.8 c.in-Err.ensures.cause

pub returns-in-Err-clause-disk_cause : goal.returns-in-Err-clause-disk_cause
returns-in-Err-clause-disk_cause g c = cause_since _ _ _ _ c.loop.invariant.9 c.in-Err.ensures.disk_cause

pub returns-clause-keeps : goal.returns-clause-keeps
returns-clause-keeps g c =
    let D = g.D.Disk in
    let s = c.args.site.now in
    let now = c.loop.site in
    let store = c.loop.store in
    let start = served_of g.N.Node.state s c.args.store in
    let inv = c.loop.invariant in
    let role = g.N.Node.role s.node in
    let held = held_of g.N.Node.state now store c.loop.batch in
    let fin = c.finish-status in
    let stopped = gives_up D.is_told role s.sender.boot c.args.bounds.period c.args.bounds.turns c.loop.spent held
    (g.L.Link.given c.loop.link) (g.L.Link.sent c.loop.link) (g.L.Link.loss_count c.loop.link) (g.C.Clock.readings c.loop.clock) in
    let ended = ended_then D.is_told D.kept D.moment D.left_since g.met.D.Disk.counts_now role s.sender.boot c.args.bounds.period c.args.bounds.turns c.loop.spent held
    (records_of store) (disk_of store) fin.result.disk refl _ _ _ _ _ _ _ _ _ _ (puts_of D.is_told c.loop.batch) (posts_of c.loop.batch) _ _ _ fin.result.status fin.ensures.given stopped fin.ensures.finished in
    is_served_on D.is_told role s.sender.boot c.args.bounds.period start _ _ _ _ D.moment D.left_since (disk_of c.args.store)
    held (records_of store) (disk_of store) _ _ _ _ _ inv.11
    (is_held g.N.Node.state now store c.loop.batch inv.10)
    D.kept _ _ _ _ _ c.args.bounds.turns role s.sender.boot refl refl _ ended

pub returns-clause-served : goal.returns-clause-served
returns-clause-served g c =
    let D = g.D.Disk in
    let s = c.args.site.now in
    let now = c.loop.site in
    let store = c.loop.store in
    let start = served_of g.N.Node.state s c.args.store in
    let inv = c.loop.invariant in
    let role = g.N.Node.role s.node in
    let held = held_of g.N.Node.state now store c.loop.batch in
    let fin = c.finish-status in
    let stopped = gives_up D.is_told role s.sender.boot c.args.bounds.period c.args.bounds.turns c.loop.spent held
    (g.L.Link.given c.loop.link) (g.L.Link.sent c.loop.link) (g.L.Link.loss_count c.loop.link) (g.C.Clock.readings c.loop.clock) in
    let ended = ended_then D.is_told D.kept D.moment D.left_since g.met.D.Disk.counts_now role s.sender.boot c.args.bounds.period c.args.bounds.turns c.loop.spent held
    (records_of store) (disk_of store) fin.result.disk refl _ _ _ _ _ _ _ _ _ _ (puts_of D.is_told c.loop.batch) (posts_of c.loop.batch) _ _ _ fin.result.status fin.ensures.given stopped fin.ensures.finished in
    (is_served_on D.is_told role s.sender.boot c.args.bounds.period start _ _ _ _ D.moment D.left_since (disk_of c.args.store)
    held (records_of store) (disk_of store) _ _ _ _ _ inv.11
    (is_held g.N.Node.state now store c.loop.batch inv.10)
    D.kept _ _ _ _ _ c.args.bounds.turns role s.sender.boot refl refl _ ended).0

pub returns-clause-cause : goal.returns-clause-cause
returns-clause-cause g c =
    let D = g.D.Disk in
    let fin = c.finish-status in
    cause_from _ _ _ _ _ _ _ c.loop.invariant.7 c.loop.invariant.8
    (finished_cause D.is_told D.kept D.moment D.left_since _ _ _ _ _ _ _ _ _ _ _ _ (g.L.Link.fault_count c.loop.link) (g.L.Link.fault_count c.loop.link) (g.L.Link.fault_count fin.new.link)
    (g.C.Clock.fault_count c.loop.clock) (g.C.Clock.fault_count c.loop.clock) fin.ensures.finished fin.ensures.faults (refl, refl))
