use Rattle.std.proofs.Common.{◌++◌, ◌∷◌, [], ℕ, refl, ap, sym, ◌∙◌, subst, List, map}
use Rattle.std.specs.List.{AllByRecursion}
use Rattle.std.proofs.lemmas.Result.{err_from_is_err_and}
use Rattle.xt_messages.specs.Limits.{FitsMessage}
use Rattle.xt_messages.specs.declared.message.Msg.{Msg}
use Rattle.xt_messages.specs.declared.event.Mark.{Mark}
use Rattle.time_line.specs.declared.entry.Halt.TheVariants as halt
use Rattle.time_line.specs.declared.entry.Entry.{Entry}
use Rattle.time_line.specs.declared.entry.Entry.TheVariants as entry
use Rattle.world_spec.specs.NodeSteps.{Doing, loses_own, cut_in_sending, numbered, entry_of, files_marked}
use Rattle.world_step.specs.Steps.{working}
use Rattle.world_step.specs.Endings.{given_by}
use Rattle.world_step.proofs.Endings.{gave_not, given_untold, gave_inside, sending_told, fits_front, nothing_around}
use Rattle.world_step.proofs.stepper.Stepper.cut_sending.Goals as goal

pub give-requires-clause-messages : goal.give-requires-clause-messages
give-requires-clause-messages g c =
    subst (λ (outs : List Msg). AllByRecursion FitsMessage outs) (sym c.front.ensures)
    (fits_front c.args.count c.args.outs.now (c.requires.fits c.id-node.ensures.there.0 c.id-node.ensures.there.1).messages)

pub returns-in_err-give : goal.returns-in_err-give
returns-in_err-give g c = λ around node running at up clock.
    let p = err_from_is_err_and c.from_residual-in_err-give.result c.from_residual-in_err-give.ensures.1 in
    rw (p.1, p.2)
    (gave_not (Unit {0}) g.H.Hull.room (working around c.args.self.now) (working around c.args.self.now) (working around c.give.new.self) c.args.place node c.args.rec.now c.front.result.now c.in_err-give.field-0.0
    (λ (d : Doing). loses_own d (cut_in_sending d.world node running c.args.count (given_by c.args.rec.now c.args.outs.now c.args.marks.now))) refl at
    (ap (λ (outs : List Msg). c.args.self.now.sent ++ numbered c.args.self.now.nodes.nodes node.id outs) (sym c.front.ensures)) (c.in_err-give.ensures around))

pub returns-in_err-tell_all : goal.returns-in_err-tell_all
returns-in_err-tell_all g c = λ around node running at up clock.
    let p = err_from_is_err_and c.from_residual-in_err-tell_all.result c.from_residual-in_err-tell_all.ensures.1 in
    rw (p.1, p.2)
    (tt, given_untold (Unit {0}) g.H.Hull.room (working around c.args.self.now) (working around c.give.new.self) _ node c.args.rec.now c.front.result.now tt (c.in_ok-give.ensures around node at) (record { entries = c.in_err-tell_all.ensures.err; lines = refl; begun = refl; ended = refl }))

pub halt-requires : goal.halt-requires
halt-requires g c =
    gave_inside (Unit {0}) g.H.Hull.room (working nothing_around c.args.self.now) (working nothing_around c.give.new.self) (working nothing_around c.give.new.self) c.args.place c.id-node.ensures.there.0 c.args.rec.now c.front.result.now tt c.id-node.ensures.there.1
    (c.in_ok-give.ensures nothing_around c.id-node.ensures.there.0 c.id-node.ensures.there.1) refl

pub returns : goal.returns
returns g c = λ around node running at up clock.
    let told : ℕ → List Mark → List Entry = λ k marks. map (entry_of c.id-node.result) marks ++ entry.Down c.id-node.result k halt.Cut ∷ [] in
    sending_told (Unit {0}) g.H.Hull.room (working around c.args.self.now) (working around c.args.self.now) (working around c.give.new.self) (working around c.give.new.self) (working around c.halt.new.self) c.args.place node running c.args.count (given_by c.args.rec.now c.args.outs.now c.args.marks.now) tt c.front.result.now c.id-node.result
    (map (entry_of c.id-node.result) c.args.marks.now) c.in_ok-told.told.items c.tell_all.new.entries.items c.in_ok-files.files.items c.tell_all.new.made.items refl at up (c.in_ok-give.ensures around) c.front.ensures c.id-node.ensures.id refl
    (c.in_ok-told.ensures ∙ ap (told c.args.clock) c.replace-marks.ensures.value ∙ ap (λ (k : ℕ). told k c.args.marks.now) (sym clock))
    (c.in_ok-files.ensures ∙ ap files_marked c.as_slice.ensures)
    refl c.in_ok-tell_all.ensures.entries c.in_ok-tell_all.ensures.made (c.halt.ensures around)
