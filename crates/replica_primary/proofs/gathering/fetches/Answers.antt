use Rattle.std.proofs.Common.{List, ap, sym}
use Rattle.std.specs.Prelude.{reverse}
use Rattle.xt_messages.specs.declared.file.ObjectVersion.{ObjectVersion}
use Rattle.xt_protocol.specs.PrimaryRows.{after_keeping, fetches}
use Rattle.replica_primary.specs.Moves.{ground_beyond, kept_of}
use Rattle.replica_primary.specs.Shown.{shown_tenure}
use Rattle.replica_primary.proofs.Hears.{fetched_next}
use Rattle.replica_primary.proofs.InOrder.{split_none, split_some}
use Rattle.replica_primary.proofs.gathering.fetches.Goals as goal

pub returns-in_default : goal.returns-in_default
returns-in_default c =
    λ learnt from records own held.
    let place = c.args.place.now in
    let fetched = c.args.fetched in
    ap (λ (wanted : List ObjectVersion). after_keeping (kept_of place.file fetched) (fetches (ground_beyond place records fetched own held) learnt (shown_tenure c.args.tenure.now) c.args.chosen c.args.source wanted))
    (sym (split_none c.args.wanted c.split.result c.split.ensures c.in_default.is))

pub returns : goal.returns
returns c =
    λ learnt from records own held.
    let place = c.args.place.now in
    let fetched = c.args.fetched in
    fetched_next (ground_beyond place records fetched own held) learnt (shown_tenure c.args.tenure.now) (shown_tenure c.advance.new.tenure) c.args.chosen c.args.source c.in-Some.asked (reverse c.in-Some.later) (reverse c.args.wanted) (kept_of place.file fetched) c.in_ok-turned.turned
    (ap shown_tenure c.advance.ensures) (split_some c.args.wanted c.split.result c.in-Some.asked c.in-Some.later c.split.ensures c.in-Some.is) c.in_ok-turned.ensures
