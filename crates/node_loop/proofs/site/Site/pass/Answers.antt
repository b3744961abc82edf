use Rattle.std.proofs.Common.{refl}
use Rattle.node_runs.proofs.Sending.{sends_none}
use Rattle.node_loop.specs.Batched.{held_of, posts_of, puts_of}
use Rattle.node_loop.proofs.Turning.{first_fits, has_spent, has_told, has_told_failed, rest_fit}
use Rattle.node_loop.proofs.site.Site.pass.Goals as goal
use Rattle.node_loop.proofs.site.Site.pass.Goals.{in-Ok, in-Err}

pub act-requires-clause-event : goal.act-requires-clause-event
act-requires-clause-event g c = first_fits c.args.self.now.own c.take.new.self c.in-Some.msg c.in-Some.ensures c.requires.own

pub act-requires-clause-own : goal.act-requires-clause-own
act-requires-clause-own g c = rest_fit c.args.self.now.own c.take.new.self c.in-Some.msg c.in-Some.ensures c.requires.own

pub returns-in-Some-clause-went : goal.returns-in-Some-clause-went
returns-in-Some-clause-went g c =
    let told = g.D.Disk.is_told in
    let s = c.args.self.now in
    let role = g.N.Node.role s.node in
    let store = c.args.store.now in
    let batch = c.args.batch.now in
    let old = held_of g.N.Node.state s store batch in
    elim c.match-act.branch [
      | in-Ok w ↦
          rw w.result-is
          (has_told told role s.sender.boot c.args.bounds.period c.args.bounds.turns c.args.spent.now old _ _ _ _ _ _ _ _ c.in-Some.msg c.take.new.self
          c.in-Some.ensures c.act.ensures.given refl (held_of g.N.Node.state c.act.new.self store c.act.new.batch) _ refl w.in-Ok.ensures.acted)
      | in-Err w ↦ rw w.result-is tt
    ]

pub returns-in-Some-clause-stopped : goal.returns-in-Some-clause-stopped
returns-in-Some-clause-stopped g c =
    let told = g.D.Disk.is_told in
    let s = c.args.self.now in
    let role = g.N.Node.role s.node in
    let store = c.args.store.now in
    let batch = c.args.batch.now in
    let old = held_of g.N.Node.state s store batch in
    elim c.match-act.branch [
      | in-Ok w ↦ rw w.result-is tt
      | in-Err w ↦
          let is = w.in-Err.ensures.ends in
          rw w.result-is
          (has_told_failed told role s.sender.boot c.args.bounds.period c.args.bounds.turns c.args.spent.now old _ _ _ _ _ _ _ _ (puts_of told c.act.new.batch) (posts_of c.act.new.batch)
          c.in-Some.msg c.take.new.self c.in-Some.ensures c.act.ensures.given refl w.in-Err.why is.0 is.1 is.2)
    ]

pub returns-then-spent-bounds-clause-stopped : goal.returns-then-spent-bounds-clause-stopped
returns-then-spent-bounds-clause-stopped g c =
    let told = g.D.Disk.is_told in
    let s = c.args.self.now in
    let role = g.N.Node.role s.node in
    let store = c.args.store.now in
    let batch = c.args.batch.now in
    let old = held_of g.N.Node.state s store batch in
    has_spent told role s.sender.boot c.args.bounds.period c.args.bounds.turns c.args.spent.now old _ _ _ _ _ _ _ _ (puts_of told batch) (posts_of batch) refl refl
    (c.in_default.ensures.0, c.if-self.false) c.if-spent-bounds.true refl refl (sends_none _ _)
