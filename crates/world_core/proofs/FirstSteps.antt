-- what the first step of each line does
use Rattle.std.proofs.Common.{◌≡◌, ℕ, ◌<◌, ◌≤◌, Bool, true, false, cond, Option, Some, None, Result, Ok, Err, List, [], ◌∷◌, ◌++◌, map, length, refl, ap, sym, ◌∙◌, subst, arith}
use Rattle.std.specs.Prelude.{nat_lt}
use Rattle.std.specs.Option.{option_map, option_or}
use Rattle.std.proofs.lemmas.Bool.Decides.{nat_tests}
use Rattle.std.proofs.lemmas.List.{append-nil}
use Rattle.xt_base.specs.declared.ids.NodeId.{NodeId}
use Rattle.xt_messages.specs.declared.message.Msg.{Msg}
use Rattle.xt_base.specs.declared.times.BadTimes.{BadTimes}
use Rattle.xt_messages.specs.declared.file.Location.{Location}
use Rattle.xt_messages.specs.declared.status.Limited.TheVariants as limited
use Rattle.time_line.specs.declared.entry.Halt.TheVariants as halt
use Rattle.time_line.specs.declared.line.Line.TheVariants as line
use Rattle.world_spec.specs.declared.TheConstants.{NODES}
use Rattle.world_spec.specs.declared.Role.{Role}
use Rattle.world_spec.specs.declared.Role.TheVariants as role
use Rattle.world_spec.specs.declared.PlacedFile.{PlacedFile}
use Rattle.time_line.specs.declared.entry.Entry.{Entry}
use Rattle.time_line.specs.declared.entry.Entry.TheVariants as entry
use Rattle.world_spec.specs.World.{World, Node, Running, client, node_in, with_node, file_in, up_of}
use Rattle.time_line.specs.declared.line.Line.{Line}
use Rattle.xt_messages.specs.declared.status.Rule.{Rule}
use Rattle.world_spec.specs.Rules.{refusal, no_server, no_node, runs_already, runs_not, goes_back, drifts}
use Rattle.world_spec.specs.NodeSteps.{Room, Cause, came_to, Doing, halted}
use Rattle.world_spec.specs.Lines.{does, tells, declares, declared_file, never_started, runs, first_boot, changed, stops, crashes, cuts, reads_clock, aims, ticked, first_step, whole_client}
use Rattle.world_host.specs.declared.running.Moment.{Moment}
use Rattle.world_host.specs.Turns.{moment_of}
use Rattle.world_host.specs.Calls.{targets}
use Rattle.world_host.proofs.Usable.{targets_is}
use Rattle.world_nodes.specs.Nodes.{NodesView, IsAt, IsPlace, ChangesUp}
use Rattle.world_step.specs.Steps.{Working, WentOn, IsUntold, Tells, limit_of, cause_of}
use Rattle.world_hull.specs.declared.errors.WorldErr.{WorldErr}
use Rattle.world_hull.specs.declared.errors.WorldErr.TheVariants as error
use Rattle.xt_messages.specs.declared.status.Limited.{Limited}
use Rattle.xt_base.specs.TimeSettings.{TimeSettings}
use Rattle.std.proofs.Common.{IfOk}
use Rattle.world_step.proofs.Endings.{stepped_ok}
use Rattle.world_nodes.proofs.Changes.{same_there}

-- what holds of a state holds of its view
pub from_view : (was self new : Working) (f : Doing → Result Doing Cause) → was ≡ self → (f was.doing ≡ Ok new.doing) × WentOn was new → (f self.doing ≡ Ok new.doing) × WentOn self new
from_view was self new f is so = subst (λ (x : Working). (f x.doing ≡ Ok new.doing) × WentOn x new) is so

pub at_view : (was self : Working) (f : Doing → Result Doing Cause) (d : Doing) → was ≡ self → f was.doing ≡ Ok d → f self.doing ≡ Ok d
at_view was self f d is so = subst (λ (x : Working). f x.doing ≡ Ok d) is so

-- a state that stays as it is
pub stayed : (was self : Working) (f : Doing → Result Doing Cause) → was ≡ self → f was.doing ≡ Ok was.doing → (f self.doing ≡ Ok self.doing) × WentOn self self
stayed was self f is so = subst (λ (x : Working). (f x.doing ≡ Ok x.doing) × WentOn x x) is (so, record { rest = refl; lines = refl; ended = refl })

pub same_untold : (s : Working) → IsUntold s s
same_untold s = record { entries = refl; lines = refl; begun = refl; ended = refl }

-- a limit is reported
pub limit_said : (was self : Working) (f : Doing → Result Doing Cause) (what : Limited) (e : WorldErr) → was ≡ self → e ≡ error.Limit what (limit_of what)
    → cause_of (f was.doing) ≡ Some (came_to what) → Tells (cause_of (f self.doing)) e
limit_said was self f what e is said so =
    subst (λ (x : Working). Tells (cause_of (f x.doing)) e) is (subst (Tells (cause_of (f was.doing))) (sym said) (so, refl))

-- ---- a node that is there, and one that isn't

pub found_at : (nodes : List Node) (id : NodeId) (place : ℕ) (node : Node) → IsAt nodes place node → node.id ≡ id → node_in nodes id.0 ≡ Some node
found_at nodes id place node at its = ap (λ (i : NodeId). node_in nodes i.0) (sym its) ∙ at.found

changed_none : (w : World) (found : Option Node) (change : Running → Running) → found ≡ None → changed w found change ≡ w
changed_none w found change is = ap (λ (o : Option Node). changed w o change) is

changed_at : (w : World) (id : NodeId) (place : ℕ) (change : Running → Running) (after : NodesView) → IsPlace w.nodes id (Some place)
    → ChangesUp (record { times = w.times; nodes = w.nodes }) place change after → changed w (node_in w.nodes id.0) change ≡ record w { times = after.times; nodes = after.nodes }
changed_at w id place change after is changes =
    ap (λ (o : Option Node). changed w o change) (found_at w.nodes id place is.0 is.1 is.2) ∙ at is.0.up refl
    ∙ sym (ap (λ (v : NodesView). record w { times = v.times; nodes = v.nodes }) (changes is.0 is.1))
  where
    at : (up : Option Running) → is.0.up ≡ up
        → (elim up [ None ↦ w | Some running ↦ record w { nodes = with_node w.nodes (record is.0 { up = Some (change running) }) } ])
        ≡ record w { nodes = with_node w.nodes (record is.0 { up = option_map change is.0.up }) }
    at None e =
        ap (λ (v : NodesView). record w { nodes = v.nodes }) (same_there (record { times = w.times; nodes = w.nodes }) place is.0 is.1)
        ∙ ap (λ (o : Option Running). record w { nodes = with_node w.nodes (record is.0 { up = o }) }) (e ∙ sym (ap (option_map change) e))
    at (Some r) e = ap (λ (o : Option Running). record w { nodes = with_node w.nodes (record is.0 { up = option_map change o }) }) (sym e)

-- ---- plans, clocks and targets

pub crash_nowhere : (room : Room) (d : Doing) (id : NodeId) (k fill : ℕ) → node_in d.world.nodes id.0 ≡ None → first_step room d (line.Crash id k fill) ≡ Ok d
unfolding first_step
crash_nowhere room d id k fill none = ap (λ (w : World). Ok (record d { world = w })) (changed_none d.world (node_in d.world.nodes id.0) (crashes k fill) none)

pub crash_planned : (room : Room) (d : Doing) (id : NodeId) (k fill place : ℕ) (after : NodesView) → IsPlace d.world.nodes id (Some place)
    → ChangesUp (record { times = d.world.times; nodes = d.world.nodes }) place (crashes k fill) after
    → first_step room d (line.Crash id k fill) ≡ Ok (record d { world = record d.world { times = after.times; nodes = after.nodes } })
unfolding first_step
crash_planned room d id k fill place after is changes = ap (λ (w : World). Ok (record d { world = w })) (changed_at d.world id place (crashes k fill) after is changes)

pub cut_nowhere : (room : Room) (d : Doing) (id : NodeId) (count : ℕ) → node_in d.world.nodes id.0 ≡ None → first_step room d (line.Cut id count) ≡ Ok d
unfolding first_step
cut_nowhere room d id count none = ap (λ (w : World). Ok (record d { world = w })) (changed_none d.world (node_in d.world.nodes id.0) (cuts count) none)

pub cut_planned : (room : Room) (d : Doing) (id : NodeId) (count place : ℕ) (after : NodesView) → IsPlace d.world.nodes id (Some place)
    → ChangesUp (record { times = d.world.times; nodes = d.world.nodes }) place (cuts count) after
    → first_step room d (line.Cut id count) ≡ Ok (record d { world = record d.world { times = after.times; nodes = after.nodes } })
unfolding first_step
cut_planned room d id count place after is changes = ap (λ (w : World). Ok (record d { world = w })) (changed_at d.world id place (cuts count) after is changes)

pub clock_nowhere : (room : Room) (d : Doing) (id : NodeId) (clock : ℕ) (es : List Entry) → node_in d.world.nodes id.0 ≡ None → es ≡ d.world.entries ++ entry.Clock id clock ∷ []
    → first_step room d (line.Clock id clock) ≡ Ok (record d { world = record d.world { entries = es } })
unfolding first_step
clock_nowhere room d id clock es none is =
    ap (λ (w : World). Ok (record d { world = tells w (entry.Clock id clock ∷ []) })) (changed_none d.world (node_in d.world.nodes id.0) (reads_clock clock) none)
    ∙ ap (λ (xs : List Entry). Ok (record d { world = record d.world { entries = xs } })) (sym is)

pub clock_placed : (room : Room) (d : Doing) (id : NodeId) (clock place : ℕ) (after : NodesView) (es : List Entry) → IsPlace d.world.nodes id (Some place)
    → ChangesUp (record { times = d.world.times; nodes = d.world.nodes }) place (reads_clock clock) after → es ≡ d.world.entries ++ entry.Clock id clock ∷ []
    → first_step room d (line.Clock id clock) ≡ Ok (record d { world = record d.world { times = after.times; nodes = after.nodes; entries = es } })
unfolding first_step
clock_placed room d id clock place after es is changes told =
    ap (λ (w : World). Ok (record d { world = tells w (entry.Clock id clock ∷ []) })) (changed_at d.world id place (reads_clock clock) after is changes)
    ∙ ap (λ (xs : List Entry). Ok (record d { world = record d.world { times = after.times; nodes = after.nodes; entries = xs } })) (sym told)

pub aim_nowhere : (room : Room) (d : Doing) (id : NodeId) (file : ℕ) (node : NodeId) → node_in d.world.nodes id.0 ≡ None → first_step room d (line.Aim id file node) ≡ Ok d
unfolding first_step
aim_nowhere room d id file node none = ap (λ (w : World). Ok (record d { world = w })) (changed_none d.world (node_in d.world.nodes id.0) (aims d.world.files file node) none)

-- changes that are the same
changes_so : (old new : NodesView) (place : ℕ) (f g : Running → Running) → ((r : Running) → f r ≡ g r) → ChangesUp old place f new → ChangesUp old place g new
changes_so old new place f g same changes = λ node at. changes node at ∙ ap (λ (up : Option Running). record old { nodes = with_node old.nodes (record node { up = up }) }) (maps node.up)
  where
    maps : (up : Option Running) → option_map f up ≡ option_map g up
    maps None = refl
    maps (Some r) = ap (λ (q : Running). Some q) (same r)

pub aim_placed : (room : Room) (d : Doing) (id : NodeId) (file : ℕ) (node : NodeId) (place : ℕ) (declared : Option PlacedFile) (after : NodesView) → IsPlace d.world.nodes id (Some place)
    → declared ≡ file_in d.world.files file → ChangesUp (record { times = d.world.times; nodes = d.world.nodes }) place (targets declared file node) after
    → first_step room d (line.Aim id file node) ≡ Ok (record d { world = record d.world { times = after.times; nodes = after.nodes } })
unfolding first_step
aim_placed room d id file node place declared after is is_declared changes =
    ap (λ (w : World). Ok (record d { world = w }))
    (changed_at d.world id place (aims d.world.files file node) after is
    (changes_so (record { times = d.world.times; nodes = d.world.nodes }) after place (targets declared file node) (aims d.world.files file node)
    (λ r. ap (λ (f : Option PlacedFile). targets f file node r) is_declared ∙ targets_is d.world.files file node r) changes))

pub tick_done : (room : Room) (d : Doing) (count : ℕ) (after : NodesView) (es : List Entry) → after ≡ record { times = d.world.times; nodes = map (ticked count) d.world.nodes }
    → es ≡ d.world.entries ++ entry.Tick count ∷ []
    → first_step room d (line.Tick count) ≡ Ok (record d { world = record d.world { times = after.times; nodes = after.nodes; entries = es } })
unfolding first_step
tick_done room d count after es is told =
    ap (λ (v : NodesView). Ok (record d { world = record d.world { times = v.times; nodes = v.nodes; entries = d.world.entries ++ entry.Tick count ∷ [] } })) (sym is)
    ∙ ap (λ (xs : List Entry). Ok (record d { world = record d.world { times = after.times; nodes = after.nodes; entries = xs } })) (sym told)

pub times_set : (room : Room) (d : Doing) (lease drift : ℕ) (after : NodesView) (es : List Entry) → after ≡ record { times = record { lease = lease; drift = drift }; nodes = d.world.nodes }
    → es ≡ d.world.entries ++ entry.Times lease drift ∷ []
    → first_step room d (line.Times lease drift) ≡ Ok (record d { world = record d.world { times = after.times; nodes = after.nodes; entries = es } })
unfolding first_step
times_set room d lease drift after es is told =
    ap (λ (v : NodesView). Ok (record d { world = record d.world { times = v.times; nodes = v.nodes; entries = d.world.entries ++ entry.Times lease drift ∷ [] } })) (sym is)
    ∙ ap (λ (xs : List Entry). Ok (record d { world = record d.world { times = after.times; nodes = after.nodes; entries = xs } })) (sym told)

-- ---- declarations

many : (d : Doing) (node : Node) (es : List Entry) → NODES ≤ length d.world.nodes → declares d node es ≡ Err (came_to limited.Nodes)
many d node es full = at (nat_lt (length d.world.nodes) NODES) (less (length d.world.nodes) NODES full)
  where
    less : (a b : ℕ) → b ≤ a → nat_lt a b ≡ false
    less a b le = grind (arith, nat_tests)

    at : (b : Bool) → b ≡ false → cond b (does d (tells (record d.world { nodes = d.world.nodes ++ node ∷ [] }) es)) (Err (came_to limited.Nodes)) ≡ Err (came_to limited.Nodes)
    at true e = absurd (cc)
    at false e = refl

few : (d : Doing) (node : Node) (es : List Entry) → length d.world.nodes < NODES → declares d node es ≡ does d (tells (record d.world { nodes = d.world.nodes ++ node ∷ [] }) es)
few d node es room = at (nat_lt (length d.world.nodes) NODES) (less (length d.world.nodes) NODES room)
  where
    less : (a b : ℕ) → a < b → nat_lt a b ≡ true
    less a b lt = grind (arith, nat_tests)

    at : (b : Bool) → b ≡ true → cond b (does d (tells (record d.world { nodes = d.world.nodes ++ node ∷ [] }) es)) (Err (came_to limited.Nodes)) ≡ does d (tells (record d.world { nodes = d.world.nodes ++ node ∷ [] }) es)
    at true e = refl
    at false e = absurd (cc)

pub resting_refused : (d : Doing) (id : NodeId) (its : Role) → NODES ≤ length d.world.nodes → cause_of (declares d (never_started id its) []) ≡ Some (came_to limited.Nodes)
resting_refused d id its full = ap cause_of (many d (never_started id its) [] full)

pub resting_declared : (d : Doing) (id : NodeId) (its : Role) (after : NodesView) → length d.world.nodes < NODES
    → after ≡ record { times = d.world.times; nodes = d.world.nodes ++ never_started id its ∷ [] }
    → declares d (never_started id its) [] ≡ Ok (record d { world = record d.world { times = after.times; nodes = after.nodes } })
resting_declared d id its after some is =
    few d (never_started id its) [] some
    ∙ ap (λ (es : List Entry). Ok (record d { world = record d.world { nodes = d.world.nodes ++ never_started id its ∷ []; entries = es } })) (append-nil d.world.entries)
    ∙ ap (λ (v : NodesView). Ok (record d { world = record d.world { times = v.times; nodes = v.nodes } })) (sym is)

pub client_refused : (room : Room) (d : Doing) (id : NodeId) (clock : ℕ) → NODES ≤ length d.world.nodes → cause_of (first_step room d (line.Client id clock)) ≡ Some (came_to limited.Nodes)
unfolding first_step
client_refused room d id clock full =
    ap cause_of (many d (record { id = id; role = role.Client; kept = []; past = []; up = Some (runs first_boot clock (client (whole_client clock))) }) (entry.Up id first_boot clock ∷ []) full)

pub client_declared : (room : Room) (d : Doing) (id : NodeId) (clock : ℕ) (after : NodesView) (es : List Entry) → length d.world.nodes < NODES
    → after ≡ record { times = d.world.times; nodes = d.world.nodes ++ record { id = id; role = role.Client; kept = []; past = []; up = Some (runs first_boot clock (client (whole_client clock))) } ∷ [] }
    → es ≡ d.world.entries ++ entry.Up id first_boot clock ∷ []
    → first_step room d (line.Client id clock) ≡ Ok (record d { world = record d.world { times = after.times; nodes = after.nodes; entries = es } })
unfolding first_step
client_declared room d id clock after es some is told =
    few d (record { id = id; role = role.Client; kept = []; past = []; up = Some (runs first_boot clock (client (whole_client clock))) }) (entry.Up id first_boot clock ∷ []) some
    ∙ ap (λ (v : NodesView). Ok (record d { world = record d.world { times = v.times; nodes = v.nodes; entries = d.world.entries ++ entry.Up id first_boot clock ∷ [] } })) (sym is)
    ∙ ap (λ (xs : List Entry). Ok (record d { world = record d.world { times = after.times; nodes = after.nodes; entries = xs } })) (sym told)

pub file_declared : (room : Room) (d : Doing) (number : ℕ) (location : Location) (files : List PlacedFile) (es : List Entry)
    → files ≡ d.world.files ++ record { file = declared_file number; location = location } ∷ [] → es ≡ d.world.entries ++ entry.File number location ∷ []
    → first_step room d (line.File number location) ≡ Ok (record d { world = record d.world { files = files; entries = es } })
unfolding first_step
file_declared room d number location files es is told =
    ap (λ (fs : List PlacedFile). Ok (record d { world = record d.world { files = fs; entries = d.world.entries ++ entry.File number location ∷ [] } })) (sym is)
    ∙ ap (λ (xs : List Entry). Ok (record d { world = record d.world { files = files; entries = xs } })) (sym told)

-- ---- stops

pub stop_nowhere : (room : Room) (d : Doing) (id : NodeId) → node_in d.world.nodes id.0 ≡ None → first_step room d (line.Stop id) ≡ Ok d
unfolding first_step
stop_nowhere room d id none = ap (λ (o : Option Node). Ok (record d { world = stops d.world o })) none

down : (up : Option Running) → None ≡ option_map moment_of up → up ≡ None
down None is = refl
down (Some r) is = absurd (cc)

running_at : (up : Option Running) (moment : Moment) → Some moment ≡ option_map moment_of up → (running : Running) × (up ≡ Some running) × (moment ≡ moment_of running)
running_at None moment is = absurd (cc)
running_at (Some r) moment is = (r, refl, cc)

-- the node in a place doesn't run, or it does
pub is_down : (nodes : List Node) (id : NodeId) (place : ℕ) (place_is : IsPlace nodes id (Some place)) → ((node : Node) → IsAt nodes place node → None ≡ option_map moment_of node.up) → place_is.0.up ≡ None
is_down nodes id place place_is told = down place_is.0.up (told place_is.0 place_is.1)

pub is_running : (nodes : List Node) (place : ℕ) (node : Node) (moment : Moment) → IsAt nodes place node → ((n : Node) → IsAt nodes place n → Some moment ≡ option_map moment_of n.up)
    → (running : Running) × (node.up ≡ Some running) × (moment ≡ moment_of running)
is_running nodes place node moment at told = running_at node.up moment (told node at)

pub stop_down : (room : Room) (d : Doing) (id : NodeId) (place : ℕ) → IsPlace d.world.nodes id (Some place) → ((node : Node) → IsAt d.world.nodes place node → None ≡ option_map moment_of node.up)
    → first_step room d (line.Stop id) ≡ Ok d
unfolding first_step
stop_down room d id place is told =
    ap (λ (o : Option Node). Ok (record d { world = stops d.world o })) (found_at d.world.nodes id place is.0 is.1 is.2)
    ∙ ap (λ (up : Option Running). Ok (record d { world = elim up [ None ↦ d.world | Some running ↦ halted d.world is.0 running halt.Idle ] })) (is_down d.world.nodes id place is told)

pub stop_done : (room : Room) (d : Doing) (id : NodeId) (place : ℕ) (is : IsPlace d.world.nodes id (Some place)) (moment : Moment) (es : List Entry)
    → ((node : Node) → IsAt d.world.nodes place node → Some moment ≡ option_map moment_of node.up) → es ≡ d.world.entries ++ entry.Down id moment.clock halt.Idle ∷ []
    → first_step room d (line.Stop id) ≡ Ok (record d { world = record d.world { nodes = with_node d.world.nodes (record is.0 { up = None }); entries = es } })
unfolding first_step
stop_done room d id place is moment es told said =
    let run = is_running d.world.nodes place is.0 moment is.1 told in
    ap (λ (o : Option Node). Ok (record d { world = stops d.world o })) (found_at d.world.nodes id place is.0 is.1 is.2)
    ∙ ap (λ (up : Option Running). Ok (record d { world = elim up [ None ↦ d.world | Some running ↦ halted d.world is.0 running halt.Idle ] })) run.1
    ∙ ap (λ (i : NodeId). Ok (record d { world = record d.world { nodes = with_node d.world.nodes (record is.0 { up = None }); entries = d.world.entries ++ entry.Down i run.0.clock halt.Idle ∷ [] } })) is.2
    ∙ ap (λ (m : Moment). Ok (record d { world = record d.world { nodes = with_node d.world.nodes (record is.0 { up = None }); entries = d.world.entries ++ entry.Down id m.clock halt.Idle ∷ [] } })) (sym run.2)
    ∙ ap (λ (xs : List Entry). Ok (record d { world = record d.world { nodes = with_node d.world.nodes (record is.0 { up = None }); entries = xs } })) (sym said)

pub stop_told : (room : Room) (s new : Working) (id : NodeId) (place : ℕ) (is : IsPlace s.doing.world.nodes id (Some place)) (moment : Moment) (es : List Entry)
    → ((node : Node) → IsAt s.doing.world.nodes place node → Some moment ≡ option_map moment_of node.up) → es ≡ s.doing.world.entries ++ entry.Down id moment.clock halt.Idle ∷ []
    → s.doing.own ≡ []
    → new ≡ record s { doing = record s.doing { world = record s.doing.world { nodes = with_node s.doing.world.nodes (record is.0 { up = None }); entries = es }; own = [] } }
    → (first_step room s.doing (line.Stop id) ≡ Ok new.doing) × WentOn s new
stop_told room s new id place is moment es told said idle so =
    let w : World = record s.doing.world { nodes = with_node s.doing.world.nodes (record is.0 { up = None }); entries = es } in
    stepped_ok s (first_step room s.doing (line.Stop id)) (record s.doing { world = w }) new (stop_done room s.doing id place is moment es told said)
    (so ∙ ap (λ (own : List Msg). record s { doing = record s.doing { world = w; own = own } }) (sym idle)) refl refl

-- the times that a line gives
pub times_are : (result : Result TimeSettings BadTimes) (times : TimeSettings) (lease drift : ℕ) → result ≡ Ok times → IfOk result (λ (t : TimeSettings). (t.lease ≡ lease) × (t.drift ≡ drift))
    → times ≡ record { lease = lease; drift = drift }
times_are result times lease drift is so =
    let p = subst (λ (r : Result TimeSettings BadTimes). IfOk r (λ (t : TimeSettings). (t.lease ≡ lease) × (t.drift ≡ drift))) is so in
    ap (λ (l : ℕ). record { lease = l; drift = times.drift }) p.0 ∙ ap (λ (d : ℕ). record { lease = lease; drift = d }) p.1

-- ---- rules

pub start_rule : (w : World) (l : Line) (node : NodeId) (clock : ℕ) (first second third behind all : Option Rule) → l ≡ line.Start node clock → first ≡ no_server w.nodes node → second ≡ runs_already w.nodes node
    → third ≡ drifts w node clock → behind ≡ option_or second third → all ≡ option_or first behind → all ≡ refusal w l
unfolding refusal
start_rule w l node clock first second third behind all is one two three four five =
    five ∙ ap (λ (x : Option Rule). option_or x behind) one
    ∙ ap (option_or (no_server w.nodes node)) (four ∙ ap (λ (x : Option Rule). option_or x third) two ∙ ap (option_or (runs_already w.nodes node)) three)
    ∙ ap (refusal w) (sym is)

pub clock_rule : (w : World) (l : Line) (node : NodeId) (clock : ℕ) (first second third fourth rises behind all : Option Rule) → l ≡ line.Clock node clock → first ≡ no_node w.nodes node → second ≡ runs_not w.nodes node
    → third ≡ goes_back clock (up_of (node_in w.nodes node.0)) → fourth ≡ drifts w node clock → rises ≡ option_or third fourth → behind ≡ option_or second rises → all ≡ option_or first behind → all ≡ refusal w l
unfolding refusal
clock_rule w l node clock first second third fourth rises behind all is one two three four five six seven =
    seven ∙ ap (λ (x : Option Rule). option_or x behind) one
    ∙ ap (option_or (no_node w.nodes node))
    (six ∙ ap (λ (x : Option Rule). option_or x rises) two
    ∙ ap (option_or (runs_not w.nodes node))
    (five ∙ ap (λ (x : Option Rule). option_or x fourth) three ∙ ap (option_or (goes_back clock (up_of (node_in w.nodes node.0)))) four))
    ∙ ap (refusal w) (sym is)
