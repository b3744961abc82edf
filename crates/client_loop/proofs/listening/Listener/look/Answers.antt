use Rattle.std.proofs.Common.{rules, ◌<◌, refl, sym, subst}
use Rattle.std.proofs.lemmas.Result.{IfOk-weaker, IfErr-weaker}
use Rattle.client_loop.specs.Listening.{HasDriveCause}
use Rattle.client_loop.proofs.Looking.{was_late, has_looked, clock_failed, turns_spent, cannot_look}
use Rattle.client_loop.proofs.listening.Listener.look.Goals as goal

pub returns-in-Err-clause-cannot : goal.returns-in-Err-clause-cannot
returns-in-Err-clause-cannot g c =
    let failed = c.in-Err.ensures.failed in
    clock_failed c.args.until c.args.self.now _ _ _ _ _ _ refl failed.1 failed.0

pub returns-then-until-reading-clause-looked : goal.returns-then-until-reading-clause-looked
returns-then-until-reading-clause-looked g c =
    was_late c.args.until c.in-Ok.reading c.args.self.now c.args.self.now _ _ _ _ c.if-until-reading.true refl c.in-Ok.ensures.reads refl

pub returns-then-self-clause-cannot : goal.returns-then-self-clause-cannot
returns-then-self-clause-cannot g c =
    turns_spent c.args.until c.in-Ok.reading c.args.self.now _ _ _ _ (let early : c.in-Ok.reading < c.args.until = search rules in early) c.if-self.true refl c.in-Ok.ensures.reads

pub returns-clause-looked : goal.returns-clause-looked
returns-clause-looked g c =
    let early : c.in-Ok.reading < c.args.until = search rules in
    let more : c.args.self.now.spent < c.args.self.now.turns = search rules in
    IfOk-weaker c.receive.result _ _ (λ made has. has_looked c.args.until c.in-Ok.reading c.args.self.now c.receive.new.self _ _ _ _ made early more c.in-Ok.ensures.reads has) c.receive.ensures.received

pub returns-clause-cannot : goal.returns-clause-cannot
returns-clause-cannot g c =
    let early : c.in-Ok.reading < c.args.until = search rules in
    let more : c.args.self.now.spent < c.args.self.now.turns = search rules in
    IfErr-weaker c.receive.result _ _ (λ why has. cannot_look c.args.until c.in-Ok.reading c.args.self.now _ _ _ _ why early more c.in-Ok.ensures.reads has) c.receive.ensures.cannot

pub returns-clause-cause : goal.returns-clause-cause
returns-clause-cause g c =
    let as_was = g.C.Clock.fault_count c.args.clock.now in
    IfErr-weaker c.receive.result _ _ (λ why has. subst (λ n. HasDriveCause (g.L.Link.fault_count c.args.link.now) (g.L.Link.fault_count c.receive.new.link) as_was n why) (sym c.in-Ok.ensures.faults) has)
    (c.receive.ensures.cause as_was)
