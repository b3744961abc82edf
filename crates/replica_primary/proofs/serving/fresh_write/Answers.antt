use Rattle.std.proofs.Common.{◌≡◌, ◌∙◌, ap, sym, refl, false, Option, Some, None}
use Rattle.std.specs.Option.{is_some}
use Rattle.xt_messages.specs.declared.file.Update.{Update}
use Rattle.xt_protocol.specs.declared.states.IssuedUpdate.{IssuedUpdate}
use Rattle.xt_protocol.specs.declared.states.Progress.TheVariants as progress
use Rattle.xt_protocol.specs.Serving.{issues, issues_unless}
use Rattle.replica_primary.specs.Written.{ground}
use Rattle.replica_primary.proofs.serving.fresh_write.Goals as goal

none_issued : (issued : Option IssuedUpdate) → is_some issued ≡ false → issued ≡ None
none_issued None is = refl
none_issued (Some i) is = absurd cc

pub returns-clause-value : goal.returns-clause-value
returns-clause-value g c =
    λ records agrees learnt own held.
    let head = c.args.head.now in
    let stands = ground c.args.place.now records own held in
    let none : c.args.issued.now ≡ None = none_issued c.args.issued.now (sym c.is_some.ensures ∙ c.if-is_some.false) in
    let active = c.requires.active ∙ ap (λ (i : Option IssuedUpdate). progress.Active head i) none in
    ap Some
    (c.in_ok-issues.ensures records learnt own head held active
    ∙ ap (λ (u : Option Update). issues stands learnt c.args.tenure.now head u) (c.in_ok-update.ensures.value records agrees own held))
    ∙ ap (λ (i : Option IssuedUpdate). issues_unless stands learnt c.args.tenure.now head i c.args.id c.args.epoch c.args.op.now) (sym none)
