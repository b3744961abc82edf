use Rattle.std.proofs.Common.{◌∙◌, sym, refl, ap}
use Rattle.flease.specs.declared.news.Expiry.TheVariants.{Stands, RanOut, Lapsed}
use Rattle.xt_protocol.specs.declared.states.Asks.{Asks}
use Rattle.xt_protocol.specs.FileStates.{FileState}
use Rattle.osd_files.specs.Views.{FileView, shown, with_lease}
use Rattle.osd_files.proofs.Over.{becomes_overdue, settled_after}
use Rattle.osd_files.proofs.overdue.end_overdue.Goals as goal

pub returns-in-Lapsed-clause-row : goal.returns-in-Lapsed-clause-row
returns-in-Lapsed-clause-row c =
    becomes_overdue c.args.now (shown c.args.file.now) (shown c.end_lapsed.new.file) c.expire.new.self Lapsed c.expire.ensures.state (sym c.in-Lapsed.is ∙ c.expire.ensures.expiry)
    (c.end_lapsed.ensures c.args.now)

pub returns-in-Lapsed-clause-settled : goal.returns-in-Lapsed-clause-settled
returns-in-Lapsed-clause-settled c = settled_after c.args.now (shown c.args.file.now) (shown c.end_lapsed.new.file) (returns-in-Lapsed-clause-row c)

pub returns-in-RanOut-clause-row : goal.returns-in-RanOut-clause-row
returns-in-RanOut-clause-row c =
    let now = c.args.now in
    let old = shown c.args.file.now in
    let mid = with_lease old c.expire.new.self in
    let left : Asks → FileState = λ asks. record mid.state { asks = asks } in
    let new : FileView = record { awake = old.awake; state = left c.drop_all.new.self } in
    becomes_overdue now old new c.expire.new.self RanOut c.expire.ensures.state (sym c.in-RanOut.is ∙ c.expire.ensures.expiry)
    (record { here = refl; state = λ sealed body. ap left (sym c.drop_all.ensures) })

pub returns-in-Stands-clause-row : goal.returns-in-Stands-clause-row
returns-in-Stands-clause-row c =
    becomes_overdue c.args.now (shown c.args.file.now) (shown c.end_due.new.file) c.expire.new.self Stands c.expire.ensures.state (sym c.in-Stands.is ∙ c.expire.ensures.expiry)
    c.end_due.ensures

pub returns-in-Stands-clause-settled : goal.returns-in-Stands-clause-settled
returns-in-Stands-clause-settled c = settled_after c.args.now (shown c.args.file.now) (shown c.end_due.new.file) (returns-in-Stands-clause-row c)
