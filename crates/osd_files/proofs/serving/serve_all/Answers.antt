use Rattle.std.proofs.Common.{◌≡◌, ◌∙◌, ap, sym, subst, refl, List, ◌∷◌, rules}
use Rattle.std.specs.List.{fold, AllByRecursion}
use Rattle.std.specs.Vec.Iter.{into_iter_items}
use Rattle.xt_protocol.specs.declared.turned.Turned.{Turned}
use Rattle.xt_protocol.specs.declared.states.Asks.{Asks}
use Rattle.xt_protocol.specs.declared.states.WaitingAsk.{WaitingAsk}
use Rattle.xt_protocol.specs.Asks.{Served, no_asks, serves_all, serves_waiting}
use Rattle.xt_protocol.specs.Primaries.{Ground}
use Rattle.xt_protocol.specs.Turns.{quiet}
use Rattle.osd_invariants.specs.OpenAsks.{IsWithinLimits}
use Rattle.osd_files.specs.Serves.{ground_at, served_in}
use Rattle.osd_files.specs.Views.{FileView, shown}
use Rattle.osd_files.proofs.serving.serve_all.Goals as goal

pub loop-ask-init : goal.loop-ask-init
unfolding serves_all
loop-ask-init g c =
    let f = c.args.file.now in
    let left = into_iter_items c.into_iter-ask-iterator.result in
    let is : left ≡ f.asks.waiting = c.into_iter-ask-iterator.ensures.into_iter_gives.0 ∙ c.waiting.view_is ∙ c.take_waiting-waiting.ensures.waited in
    record {
      rest = refl;
      all = λ records agree own held.
          let stands = ground_at (shown f) records own held in
          let by : Asks → Turned → List WaitingAsk → Served = λ a t ws. fold (serves_waiting stands) (record { primary = f.lead.primary; asks = a; turned = t }) ws in
          ap (λ (a : Asks). by a c.quiet-served.result left) c.take_waiting-waiting.ensures.left
          ∙ ap (λ (t : Turned). by no_asks t left) c.quiet-served.ensures
          ∙ ap (by no_asks quiet) is;
      fit = subst (AllByRecursion IsWithinLimits) (sym is) c.requires.fits;
      count = search rules;
      later = λ records agree. agree;
      sound = refl;
    }

pub loop-ask-preserved : goal.loop-ask-preserved
loop-ask-preserved g c =
    let before = c.loop-ask.invariant in
    let turn = c.in_ok-served.ensures in
    let mid = shown c.loop-ask.file in
    let new = shown c.serve_next.new.file in
    let ask = c.in-Some.ask in
    let left = into_iter_items c.next.new.self in
    let goes : into_iter_items c.loop-ask.ask-iterator ≡ ask ∷ left = c.in-Some.ensures.steps.0 in
    let fit : AllByRecursion IsWithinLimits (ask ∷ left) = subst (AllByRecursion IsWithinLimits) goes before.fit in
    let one = g.B.Bodies.some c.serve_next.new.bodies in
    let then : FileView → FileView = λ v. record v { state = record v.state { primary = new.state.primary; asks = new.state.asks } } in
    record {
      rest = (turn.served one.0 one.1).rest ∙ ap then before.rest;
      all = λ records agree own held.
          let stands : FileView → Ground = λ v. ground_at v records own held in
          let serves = serves_waiting (stands (shown c.args.file.now)) in
          let at = served_in mid c.loop-ask.served in
          ap (λ (s : Served). fold serves s left) ((turn.served records agree).step own held ∙ ap (λ (v : FileView). serves_waiting (stands v) at ask) before.rest)
          ∙ sym (ap (fold serves at) goes)
          ∙ before.all records (turn.reads.later records agree) own held;
      fit = fit.1;
      count = search rules;
      later = λ records agree. before.later records (turn.reads.later records agree);
      sound = turn.reads.sound ∙ before.sound;
    }
