use Rattle.std.proofs.Common.{refl, ap, sym, ◌∙◌, subst}
use Rattle.std.proofs.lemmas.Result.{IfOk-weaker, IfErr-weaker}
use Rattle.client_loop.specs.declared.listening.Listener.{Listener}
use Rattle.client_loop.specs.Listening.{FitsListened, MayLook}
use Rattle.client_loop.specs.Carrying.{Driven, handed_by}
use Rattle.client_loop.proofs.Carried.{not_looked, nothing_brought, brought_and_done, brought_not_done}
use Rattle.client_loop.proofs.Ending.{nears, rests_rightly, both_ok}
use Rattle.client_loop.proofs.driver.Driver.advance.Goals as goal

pub returns-in-Err-clause-not : goal.returns-in-Err-clause-not
returns-in-Err-clause-not g c =
    not_looked (record { driver = c.args.self.now; client = c.args.client.now; course = c.args.course }) _ _ c.stop.result c.stop.ensures c.look.ensures.sent.0 c.look.ensures.sent.1
    c.args.client.now _ refl c.in-Err.ensures.cannot

pub returns-in-None-clause-moved : goal.returns-in-None-clause-moved
returns-in-None-clause-moved g c =
    nothing_brought (record { driver = c.args.self.now; client = c.args.client.now; course = c.args.course }) _ _ c.stop.result c.stop.ensures c.look.ensures.sent.0 c.look.ensures.sent.1
    c.look.new.self c.in-Ok.listened c.look.ensures.same.0 c.look.ensures.same.1 c.in-Ok.ensures.looked c.requires.goes_on (sym c.brings.ensures ∙ c.in-None.is)

pub returns-in-Some-clause-moved : goal.returns-in-Some-clause-moved
returns-in-Some-clause-moved g c =
    IfOk-weaker c.hand_over.result _ _ (λ next has.
    brought_and_done (record { driver = c.args.self.now; client = c.args.client.now; course = c.args.course }) _ _ c.stop.result c.stop.ensures c.look.ensures.sent.0 c.look.ensures.sent.1
    c.look.new.self c.in-Ok.listened c.look.ensures.same.0 c.look.ensures.same.1 c.in-Ok.ensures.looked _ c.in-Some.handed (sym c.brings.ensures ∙ c.in-Some.is)
    _ c.requires.goes_on c.hand_over.ensures.given has) c.hand_over.ensures.handed

pub returns-in-Some-clause-nears : goal.returns-in-Some-clause-nears
returns-in-Some-clause-nears g c =
    let s : Driven = record { driver = c.args.self.now; client = c.args.client.now; course = c.args.course } in
    let one = c.in-Ok.ensures.looked in
    IfOk-weaker c.hand_over.result _ _ (λ next has.
    nears s one.look c.in-Some.handed c.look.new.self.times has.0.now c.hand_over.new.self.listener.spent next _
    (subst (λ n. MayLook n s.driver.listener one.look) c.stop.ensures one.may)
    (sym (ap (handed_by c.args.course.rest) one.told) ∙ (sym c.brings.ensures ∙ c.in-Some.is))
    (subst FitsListened one.told c.in-Ok.ensures.fits)
    (ap (λ (x : Driven). x.course) has.0.is) has.1
    (ap (λ (l : Listener). l.spent) (c.hand_over.ensures.same.3 ∙ one.is)) c.requires.within)
    (both_ok _ _ c.hand_over.result c.hand_over.ensures.handed c.hand_over.ensures.wakes)

pub returns-in-Some-clause-rests : goal.returns-in-Some-clause-rests
returns-in-Some-clause-rests g c =
    IfOk-weaker c.hand_over.result _ _ (λ next has.
    rests_rightly (record { driver = c.look.new.self; client = c.args.client.now; course = c.args.course })
    (record { driver = c.hand_over.new.self; client = c.hand_over.new.client; course = next }) has.now c.in-Some.handed c.requires.rests has.is)
    c.hand_over.ensures.handed

pub returns-in-Some-clause-not : goal.returns-in-Some-clause-not
returns-in-Some-clause-not g c =
    IfErr-weaker c.hand_over.result _ _ (λ why has.
    brought_not_done (record { driver = c.args.self.now; client = c.args.client.now; course = c.args.course }) _ _ c.stop.result c.stop.ensures c.look.ensures.sent.0 c.look.ensures.sent.1
    c.look.new.self c.in-Ok.listened c.look.ensures.same.0 c.look.ensures.same.1 c.in-Ok.ensures.looked _ c.in-Some.handed (sym c.brings.ensures ∙ c.in-Some.is)
    c.hand_over.new.client why has) c.hand_over.ensures.not
