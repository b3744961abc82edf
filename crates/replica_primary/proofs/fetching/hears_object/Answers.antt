use Rattle.std.proofs.Common.{◌∙◌, ℕ, List, ap, sym}
use Rattle.std.specs.Prelude.{reverse}
use Rattle.xt_protocol.specs.PrimaryRows.{take_body}
use Rattle.replica_primary.specs.declared.moving.Next.{Next}
use Rattle.replica_primary.specs.Shown.{shown_tenure}
use Rattle.replica_primary.specs.Written.{ground}
use Rattle.replica_primary.specs.Moves.{next_of}
use Rattle.replica_primary.proofs.Given.{if_so}
use Rattle.replica_primary.proofs.Hears.{asked_object, other_object}
use Rattle.replica_primary.proofs.fetching.hears_object.Goals as goal

pub returns-then-not-is_asked : goal.returns-then-not-is_asked
returns-then-not-is_asked c =
    λ learnt records own.
    let t = c.args.tenure.now in
    let stands = ground c.args.place.now records own c.args.held.now in
    ap (λ (n : Next). next_of stands learnt c.args.from (shown_tenure t) n) c.unmoved.ensures
    ∙ other_object stands learnt (shown_tenure t) t.progress c.args.from c.args.version c.args.bytes.now (sym c.is_asked.ensures ∙ c.if-not-is_asked.true)

pub returns : goal.returns
returns c =
    if_so _ _ c.take_body.result c.take_body.ensures
    (λ next of learnt records own.
    let t = c.args.tenure.now in
    let v = c.args.version in
    let from = c.args.from in
    let stands = ground c.args.place.now records own c.args.held.now in
    asked_object stands learnt (shown_tenure t) t.progress from v c.args.bytes.now (next_of stands learnt from (shown_tenure c.take_body.new.tenure) next) (sym c.is_asked.ensures ∙ c.if-not-is_asked.false)
    (λ chosen source asked later is.
    of learnt from records own chosen source asked later is
    ∙ ap (λ (bytes : List ℕ). take_body stands learnt (shown_tenure t) chosen source (reverse later) v.object v.version bytes) c.in_ok-copy.ensures))
