use Rattle.std.proofs.Common.{[], refl, ap, ◌∙◌, subst}
use Rattle.xt_messages.specs.declared.event.Event.TheVariants as event
use Rattle.time_line.specs.declared.line.Line.TheVariants as line
use Rattle.world_spec.specs.NodeSteps.{Doing}
use Rattle.world_spec.specs.Lines.{first_step}
use Rattle.world_limits.proofs.Coming.{coming, delivered, calling, calling_again, kept_fits}
use Rattle.world_core.specs.RunStates.{MayStand}
use Rattle.world_core.proofs.FirstSteps.{from_view}
use Rattle.world_core.proofs.Opening.{legal_so, osd_own, mrc_own, dir_own, osd_first, mrc_first, dir_first, client_own, file_own, tick_ends, call_usable, call_free, again_free, again_may, deliver_number, drop_number, wake_first, call_first, again_first, deliver_first, drop_first, settle_first, steps_as}
use Rattle.world_core.proofs.state.State.open.Goals as goal

pub declare-requires : goal.declare-requires
declare-requires g c =
    osd_own c.args.self.now.doing.world c.in-Osd.node (legal_so c.args.self.now.doing.world c.args.line.now (line.Osd c.in-Osd.node) c.in-Osd.is c.requires.legal)

pub declare-requires-in-Mrc : goal.declare-requires-in-Mrc
declare-requires-in-Mrc g c =
    mrc_own c.args.self.now.doing.world (legal_so c.args.self.now.doing.world c.args.line.now line.Mrc c.in-Mrc.is c.requires.legal)

pub declare-requires-in-Dir : goal.declare-requires-in-Dir
declare-requires-in-Dir g c =
    dir_own c.args.self.now.doing.world (legal_so c.args.self.now.doing.world c.args.line.now line.Dir c.in-Dir.is c.requires.legal)

pub declare_client-requires-clause-own : goal.declare_client-requires-clause-own
declare_client-requires-clause-own g c =
    client_own c.args.self.now.doing.world c.in-Client.node c.in-Client.clock (legal_so c.args.self.now.doing.world c.args.line.now (line.Client c.in-Client.node c.in-Client.clock) c.in-Client.is c.requires.legal)

pub declare_file-requires : goal.declare_file-requires
declare_file-requires g c =
    file_own c.args.self.now.doing.world c.in-File.number c.in-File.location (legal_so c.args.self.now.doing.world c.args.line.now (line.File c.in-File.number c.in-File.location) c.in-File.is c.requires.legal)

pub start-requires-clause-kept : goal.start-requires-clause-kept
start-requires-clause-kept g c =
    λ found is. kept_fits c.args.self.now.doing.world [] c.in-Start.node found c.requires.fits is

pub tick-requires : goal.tick-requires
tick-requires g c =
    tick_ends c.args.self.now.doing.world c.in-Tick.count (legal_so c.args.self.now.doing.world c.args.line.now (line.Tick c.in-Tick.count) c.in-Tick.is c.requires.legal)

pub event_comes-requires : goal.event_comes-requires
event_comes-requires g c =
    coming c.args.self.now.doing.world [] c.in-Wake.node event.Wake c.requires.fits tt

pub call-requires-clause-fits : goal.call-requires-clause-fits
call-requires-clause-fits g c =
    let stands = subst (MayStand c.args.self.now.doing.world) c.in-Call.is c.requires.values in
    calling c.args.self.now.doing.world [] c.in-Call.client c.in-Call.call c.requires.fits stands.1

pub call-requires-clause-usable : goal.call-requires-clause-usable
call-requires-clause-usable g c =
    call_usable c.args.self.now.doing.world c.in-Call.client c.in-Call.call (legal_so c.args.self.now.doing.world c.args.line.now (line.Call c.in-Call.client c.in-Call.call) c.in-Call.is c.requires.legal)

pub call-requires-clause-free : goal.call-requires-clause-free
call-requires-clause-free g c =
    call_free c.args.self.now.doing.world c.in-Call.client c.in-Call.call (legal_so c.args.self.now.doing.world c.args.line.now (line.Call c.in-Call.client c.in-Call.call) c.in-Call.is c.requires.legal)

pub again-requires-clause-fits : goal.again-requires-clause-fits
again-requires-clause-fits g c =
    calling_again c.args.self.now.doing.world [] c.in-Again.client c.requires.fits

pub again-requires-clause-free : goal.again-requires-clause-free
again-requires-clause-free g c =
    again_free c.args.self.now.doing.world c.in-Again.client (legal_so c.args.self.now.doing.world c.args.line.now (line.Again c.in-Again.client) c.in-Again.is c.requires.legal)

pub again-requires-clause-may : goal.again-requires-clause-may
again-requires-clause-may g c =
    again_may c.args.self.now.doing.world c.in-Again.client (legal_so c.args.self.now.doing.world c.args.line.now (line.Again c.in-Again.client) c.in-Again.is c.requires.legal)

pub deliver-requires-clause-sent : goal.deliver-requires-clause-sent
deliver-requires-clause-sent g c =
    deliver_number c.args.self.now.doing.world c.in-Deliver.number (legal_so c.args.self.now.doing.world c.args.line.now (line.Deliver c.in-Deliver.number) c.in-Deliver.is c.requires.legal)

pub deliver-requires-clause-fits : goal.deliver-requires-clause-fits
deliver-requires-clause-fits g c =
    delivered c.args.self.now.doing.world [] c.in-Deliver.number c.requires.fits

pub settle-requires : goal.settle-requires
settle-requires g c =
    drop_number c.args.self.now.doing.world c.in-Drop.number (legal_so c.args.self.now.doing.world c.args.line.now (line.Drop c.in-Drop.number) c.in-Drop.is c.requires.legal)

pub returns-in-Osd : goal.returns-in-Osd
returns-in-Osd g c =
    steps_as (Unit {0}) g.H.Hull.room c.args.self.now c.declare.new.self c.args.line.now (line.Osd c.in-Osd.node) _ c.declare.result c.in-Osd.is (osd_first g.H.Hull.room c.args.self.now.doing c.in-Osd.node) c.declare.ensures

pub returns-in-Mrc : goal.returns-in-Mrc
returns-in-Mrc g c =
    steps_as (Unit {0}) g.H.Hull.room c.args.self.now c.declare-in-Mrc.new.self c.args.line.now line.Mrc _ c.declare-in-Mrc.result c.in-Mrc.is (mrc_first g.H.Hull.room c.args.self.now.doing) c.declare-in-Mrc.ensures

pub returns-in-Dir : goal.returns-in-Dir
returns-in-Dir g c =
    steps_as (Unit {0}) g.H.Hull.room c.args.self.now c.declare-in-Dir.new.self c.args.line.now line.Dir _ c.declare-in-Dir.result c.in-Dir.is (dir_first g.H.Hull.room c.args.self.now.doing) c.declare-in-Dir.ensures

pub returns-in-Wake : goal.returns-in-Wake
returns-in-Wake g c =
    steps_as (Unit {0}) g.H.Hull.room c.args.self.now c.event_comes.new.self c.args.line.now (line.Wake c.in-Wake.node) _ c.event_comes.result c.in-Wake.is (wake_first g.H.Hull.room c.args.self.now.doing c.in-Wake.node) c.event_comes.ensures

pub returns-in-Call : goal.returns-in-Call
returns-in-Call g c =
    steps_as (Unit {0}) g.H.Hull.room c.args.self.now c.call.new.self c.args.line.now (line.Call c.in-Call.client c.in-Call.call) _ c.call.result c.in-Call.is (call_first g.H.Hull.room c.args.self.now.doing c.in-Call.client c.in-Call.call) c.call.ensures

pub returns-in-Again : goal.returns-in-Again
returns-in-Again g c =
    steps_as (Unit {0}) g.H.Hull.room c.args.self.now c.again.new.self c.args.line.now (line.Again c.in-Again.client) _ c.again.result c.in-Again.is (again_first g.H.Hull.room c.args.self.now.doing c.in-Again.client) c.again.ensures

pub returns-in-Deliver : goal.returns-in-Deliver
returns-in-Deliver g c =
    steps_as (Unit {0}) g.H.Hull.room c.args.self.now c.deliver.new.self c.args.line.now (line.Deliver c.in-Deliver.number) _ c.deliver.result c.in-Deliver.is (deliver_first g.H.Hull.room c.args.self.now.doing c.in-Deliver.number) c.deliver.ensures

pub returns-in-Drop : goal.returns-in-Drop
returns-in-Drop g c =
    from_view _ _ _ (λ (d : Doing). first_step g.H.Hull.room d c.args.line.now) c.self.view_is
    (ap (first_step g.H.Hull.room _) c.in-Drop.is ∙ drop_first g.H.Hull.room _ c.in-Drop.number c.settle.new.self c.settle.ensures, record { rest = refl; lines = refl; ended = refl })

pub returns-in-Settle : goal.returns-in-Settle
returns-in-Settle g c =
    (ap (first_step g.H.Hull.room c.args.self.now.doing) c.in-Settle.is ∙ settle_first g.H.Hull.room c.args.self.now.doing c.in-Settle.count, record { rest = refl; lines = refl; ended = refl })
