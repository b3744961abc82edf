use Rattle.std.proofs.Common.{◌++◌, refl, ap, sym, ◌∙◌, subst, List, map}
use Rattle.world_spec.specs.NodeSteps.{Doing, after_turn, to_itself, numbered, entry_of, files_marked}
use Rattle.std.specs.List.{AllByRecursion}
use Rattle.std.proofs.lemmas.Result.{err_from_is_err_and}
use Rattle.xt_messages.specs.Limits.{FitsMessage}
use Rattle.xt_messages.specs.declared.message.Msg.{Msg}
use Rattle.world_step.specs.Steps.{working}
use Rattle.world_step.specs.Endings.{given_by}
use Rattle.world_step.proofs.Endings.{gave_not, gave_inside, gave_may, forgot_not, forgot_untold, whole_told, nothing_around}
use Rattle.world_step.proofs.stepper.Stepper.end_whole.Goals as goal

pub give-requires-clause-messages : goal.give-requires-clause-messages
give-requires-clause-messages g c =
    subst (λ (outs : List Msg). AllByRecursion FitsMessage outs) (sym c.as_slice-2.ensures)
    (c.requires.fits c.id-node.ensures.there.0 c.id-node.ensures.there.1).0.messages

pub returns-in_err-give : goal.returns-in_err-give
returns-in_err-give g c = λ around node running at up.
    let p = err_from_is_err_and c.from_residual-in_err-give.result c.from_residual-in_err-give.ensures.1 in
    rw (p.1, p.2)
    (gave_not (Unit {0}) g.H.Hull.room (working around c.args.self.now) (working around c.args.self.now) (working around c.give.new.self) c.args.place node c.args.rec.now c.as_slice-2.result.now c.in_err-give.field-0.0
    (λ (d : Doing). record d { world = after_turn d.world node running (given_by c.args.rec.now c.args.outs.now c.args.marks.now); own = d.own ++ to_itself node.id c.args.outs.now }) refl at
    (ap (λ (outs : List Msg). c.args.self.now.sent ++ numbered c.args.self.now.nodes.nodes node.id outs) (sym c.as_slice-2.ensures)) (c.in_err-give.ensures around))

pub forget-requires-clause-fits : goal.forget-requires-clause-fits
forget-requires-clause-fits g c = λ node at.
    let before = c.id-node.ensures.there in
    gave_may (Unit {0}) g.H.Hull.room (working nothing_around c.args.self.now) (working nothing_around c.give.new.self) c.args.place before.0 node c.args.rec.now c.as_slice-2.result.now tt before.1
    (c.in_ok-give.ensures nothing_around before.0 before.1) at (c.requires.fits before.0 before.1).1

pub forget-requires-clause-inside : goal.forget-requires-clause-inside
forget-requires-clause-inside g c =
    gave_inside (Unit {0}) g.H.Hull.room (working nothing_around c.args.self.now) (working nothing_around c.give.new.self) (working nothing_around c.give.new.self) c.args.place c.id-node.ensures.there.0 c.args.rec.now c.as_slice-2.result.now tt c.id-node.ensures.there.1
    (c.in_ok-give.ensures nothing_around c.id-node.ensures.there.0 c.id-node.ensures.there.1) refl

pub returns-in_err-forget : goal.returns-in_err-forget
returns-in_err-forget g c = λ around node running at up.
    let p = err_from_is_err_and c.from_residual-in_err-forget.result c.from_residual-in_err-forget.ensures.1 in
    rw (p.1, p.2)
    (forgot_not (Unit {0}) (Unit {0}) g.H.Hull.room (working around c.args.self.now) (working around c.give.new.self) (working around c.forget.new.self) c.args.place node c.args.rec.now c.as_slice-2.result.now tt _ c.in_err-forget.field-0.0 at
    (c.in_ok-give.ensures around node at) (c.in_err-forget.ensures around))

pub returns-in_err-put : goal.returns-in_err-put
returns-in_err-put g c = λ around node running at up.
    let p = err_from_is_err_and c.from_residual-in_err-put.result c.from_residual-in_err-put.ensures.1 in
    rw (p.1, p.2) (
      tt,
      forgot_untold (Unit {0}) (Unit {0}) g.H.Hull.room g.H.Hull.waits (working around c.args.self.now) (working around c.give.new.self) (working around c.forget.new.self) _ c.args.place node c.args.rec.now c.as_slice-2.result.now tt tt at
          (c.in_ok-give.ensures around node at) (c.in_ok-forget.ensures around) (record { entries = refl; lines = refl; begun = refl; ended = refl }),
    )

pub returns-in_err-tell_all : goal.returns-in_err-tell_all
returns-in_err-tell_all g c = λ around node running at up.
    let p = err_from_is_err_and c.from_residual-in_err-tell_all.result c.from_residual-in_err-tell_all.ensures.1 in
    rw (p.1, p.2) (
      tt,
      forgot_untold (Unit {0}) (Unit {0}) g.H.Hull.room g.H.Hull.waits (working around c.args.self.now) (working around c.give.new.self) (working around c.forget.new.self) _ c.args.place node c.args.rec.now c.as_slice-2.result.now tt tt at
          (c.in_ok-give.ensures around node at) (c.in_ok-forget.ensures around) (record { entries = c.in_err-tell_all.ensures.err; lines = refl; begun = refl; ended = refl }),
    )

pub returns : goal.returns
returns g c = λ around node running at up.
    whole_told (Unit {0}) (Unit {0}) g.H.Hull.room g.H.Hull.waits (working around c.args.self.now) (working around c.args.self.now) (working around c.give.new.self) (working around c.forget.new.self) _ c.args.place node running (given_by c.args.rec.now c.args.outs.now c.args.marks.now) tt tt c.as_slice-2.result.now c.id-node.result
    c.in_ok-told.told.items c.tell_all.new.entries.items c.in_ok-files.files.items c.tell_all.new.made.items c.put.new.self refl at up (c.in_ok-give.ensures around) (c.in_ok-forget.ensures around) c.as_slice-2.ensures c.id-node.ensures.id (c.in_ok-told.ensures ∙ ap (map (entry_of c.id-node.result)) c.replace.ensures.value)
    (c.in_ok-files.ensures ∙ ap files_marked c.as_slice.ensures)
    c.in_ok-tell_all.ensures.entries c.in_ok-tell_all.ensures.made (c.in_ok-put.ensures ∙ ap (λ (outs : List Msg). c.forget.new.self.own ++ to_itself c.id-node.result outs) c.replace-2.ensures.value) refl
