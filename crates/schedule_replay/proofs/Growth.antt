-- The steps of a line add entries after those that are there, leave the lines so far as they are, and end no world.
use Rattle.std.proofs.Common.{◌≡◌, ◌∙◌, ℕ, zero, suc, Bool, true, false, if◌then◌else◌, ◌-◌, arith, nat_lt, take, length, slice_get, Option, Some, None, Result, Ok, Err, List, [], ◌∷◌, ◌++◌, refl, sym, ap, subst, append_assoc, append-nil}
use Rattle.xt_base.specs.declared.ids.NodeId.{NodeId}
use Rattle.xt_messages.specs.declared.event.Call.{Call}
use Rattle.xt_messages.specs.declared.event.Event.{Event}
use Rattle.xt_messages.specs.declared.event.Event.TheVariants as event
use Rattle.xt_messages.specs.declared.message.Msg.{Msg}
use Rattle.xt_messages.specs.declared.record.Record.{Record}
use Rattle.xt_messages.specs.declared.record.Record.TheVariants as kept
use Rattle.xt_messages.specs.declared.status.Limited.TheVariants as limited
use Rattle.xt_base.specs.declared.TheConstants.{COUNTS}
use Rattle.disk_model.specs.declared.plan.Stop.{Stop}
use Rattle.xt_protocol.specs.declared.turned.Turned.{Turned}
use Rattle.time_line.specs.declared.line.Line.{Line}
use Rattle.time_line.specs.declared.line.Line.TheVariants as line
use Rattle.time_line.specs.declared.entry.Entry.{Entry}
use Rattle.time_line.specs.declared.entry.Entry.TheVariants as entry
use Rattle.time_line.specs.declared.entry.Halt.{Halt}
use Rattle.time_line.specs.declared.entry.Halt.TheVariants as halt
use Rattle.world_spec.specs.declared.TheConstants.{MESSAGES, MESSAGE_BYTES, NODES}
use Rattle.world_spec.specs.declared.Sent.{Sent}
use Rattle.client_rows.specs.Steps.{Step}
use Rattle.world_spec.specs.World.{World, Node, puts, loads, Running, Core, osd, client, mrc, dir, node_in, with_node}
use Rattle.world_spec.specs.NodeSteps.{Room, Overflow, Cause, came_to, has_no_room, Doing, frame_bytes, core_step, after_turn, halted, keeps_record, one_more, one_put, rewrites_after, forgets_if, cut_in_sending, sends, appends, within_limits, overflow_of, end_of_step, event_at, event_comes}
use Rattle.world_spec.specs.Lines.{Next, finished, opens, goes_on, ends, opening, begins, does, declares, next_boot, starts, starts_as, changed, stops, crashes, cuts, reads_clock, core_calls, calls, core_calls_again, calls_again, aims, no_longer_pending, delivers, least_pending, first_step, went, settles, works_on, next_step, steps, so_far, enough, done}
use Rattle.world_spec.specs.Runs.{IsPartOf}
use Rattle.world_step.proofs.Forgetting.{only_nodes}

-- the later world has the lines of the earlier one, has ended where that had, and has its entries with more after them
pub record Grows (old new : World) : Type 0 where
  pub same : new.lines ≡ old.lines
  pub ended : new.ended ≡ old.ended
  pub more : List Entry
  pub entries : new.entries ≡ old.entries ++ more

stays : (w : World) → Grows w w
stays w = record { same = refl; ended = refl; more = []; entries = sym (append-nil w.entries) }

grows_on : (a b c : World) → Grows a b → Grows b c → Grows a c
grows_on a b c first second =
    record {
      same = second.same ∙ first.same;
      ended = second.ended ∙ first.ended;
      more = first.more ++ second.more;
      entries = second.entries ∙ ap (λ (es : List Entry). es ++ second.more) first.entries ∙ append_assoc a.entries first.more second.more;
    }

-- a step that is finished grows the world
abbrev GoesOn : World → Result Doing Cause → Type 0
GoesOn w (Ok d) = Grows w d.world
GoesOn w (Err cause) = Unit {0}

-- a world with the same lines and entries, that has ended as well, may stand in its place
goes_from : (w v : World) (r : Result Doing Cause) → v.lines ≡ w.lines → v.ended ≡ w.ended → v.entries ≡ w.entries → GoesOn v r → GoesOn w r
goes_from w v (Ok d) lines ended entries grows =
    record {
      same = grows.same ∙ lines;
      ended = grows.ended ∙ ended;
      more = grows.more;
      entries = grows.entries ∙ ap (λ (es : List Entry). es ++ grows.more) entries;
    }
goes_from w v (Err cause) lines ended entries grows = tt

either : {A : Type 0} (P : A → Type 0) (here : Bool) (x y : A) → P x → P y → P (if here then x else y)
either P true x y first second = first
either P false x y first second = second

-- ---- the end of a node's step

turn_grows : (w : World) (node : Node) (running : Running) (turned : Turned) → Grows w (after_turn w node running turned)
turn_grows w node running turned = record { same = refl; ended = refl; more = _; entries = refl }

halted_grows : (w : World) (node : Node) (running : Running) (how : Halt) → Grows w (halted w node running how)
halted_grows w node running how = record { same = refl; ended = refl; more = _; entries = refl }

sends_grows : (d : Doing) (node : Node) (running : Running) (cut : Option ℕ) (outs : List Msg) (turned : Turned) → Grows d.world (sends d node running cut outs turned).world
sends_grows d node running None outs turned = turn_grows d.world node running turned
sends_grows d node running (Some count) [] turned = turn_grows d.world node running turned
sends_grows d node running (Some count) (out ∷ outs) turned =
    let less : Turned = record turned { outs = take count turned.outs } in
    let there : Node = record node { kept = one_more node.kept turned.rec; past = one_put node.past turned.rec } in
    grows_on d.world (after_turn d.world node running less) (cut_in_sending d.world node running count turned)
    (turn_grows d.world node running less) (halted_grows (after_turn d.world node running less) there running halt.Cut)

appends_grows : (d : Doing) (node : Node) (running : Running) (crash : Option Stop) (rec : Option Record) (turned : Turned) → Grows d.world (appends d node running crash rec turned).world
appends_grows d node running (Some stop) (Some rec) turned =
    let put : Node = record node { kept = node.kept ++ rec ∷ []; past = node.past ++ puts rec ∷ [] } in
    either (Grows d.world) (keeps_record stop) (halted d.world put running halt.Kept) (halted d.world node running halt.Lost)
    (halted_grows d.world put running halt.Kept) (halted_grows d.world node running halt.Lost)
appends_grows d node running None rec turned = sends_grows d node running running.cut turned.outs turned
appends_grows d node running (Some stop) None turned = sends_grows d node running running.cut turned.outs turned

within_grows : (w : World) (d : Doing) → Grows w d.world → GoesOn w (within_limits d)
within_grows w d grows =
    either (GoesOn w) (nat_lt MESSAGES (length d.world.sent)) (Err (came_to limited.Messages))
    (if nat_lt MESSAGE_BYTES (frame_bytes d.world.sent) then Err (came_to limited.Bytes) else Ok d)
    tt
    (either (GoesOn w) (nat_lt MESSAGE_BYTES (frame_bytes d.world.sent)) (Err (came_to limited.Bytes)) (Ok d) tt grows)

with_room : (w : World) (found : Option Overflow) (r : Result Doing Cause) → GoesOn w r → GoesOn w (elim found [ Some overflow ↦ Err (has_no_room overflow) | None ↦ r ])
with_room w (Some overflow) r goes = tt
with_room w None r goes = goes

-- what a node forgets is in no entry
forgets_grows : (room : Room) (w : World) (id : NodeId) (rec : Option Record) (r : Result Doing Cause) → GoesOn w r → GoesOn w (forgets_if room id rec r)
forgets_grows room w id rec (Err cause) goes = tt
forgets_grows room w id rec (Ok d) goes =
    let only = only_nodes (rewrites_after room d id rec) d.world (node_in d.world.nodes id.0) in
    record {
      same = ap (λ (v : World). v.lines) only ∙ goes.same;
      ended = ap (λ (v : World). v.ended) only ∙ goes.ended;
      more = goes.more;
      entries = ap (λ (v : World). v.entries) only ∙ goes.entries;
    }

step_grows : (room : Room) (d : Doing) (node : Node) (running : Running) (step : Step Core) → GoesOn d.world (end_of_step room d node running step)
step_grows room d node running step =
    let next : Running = record running { core = step.state } in
    let ended : Result Doing Cause = within_limits (appends d node next running.crash step.turned.rec step.turned) in
    with_room d.world (overflow_of room node.past step.turned.rec) (forgets_if room node.id step.turned.rec ended)
    (forgets_grows room d.world node.id step.turned.rec ended
    (within_grows d.world (appends d node next running.crash step.turned.rec step.turned) (appends_grows d node next running.crash step.turned.rec step.turned)))

-- ---- events

at_grows : (room : Room) (d : Doing) (happens : Event) (node : Option Node) → GoesOn d.world (event_at room d happens node)
at_grows room d happens None = stays d.world
at_grows room d happens (Some node) = up node.up
  where
    up : (o : Option Running) → GoesOn d.world (elim o [ None ↦ Ok d | Some running ↦ end_of_step room d node running (core_step d.world.times node running.core running.clock happens) ])
    up None = stays d.world
    up (Some running) = step_grows room d node running (core_step d.world.times node running.core running.clock happens)

event_grows : (room : Room) (d : Doing) (id : NodeId) (happens : Event) → GoesOn d.world (event_comes room d id happens)
unfolding event_comes
event_grows room d id happens = at_grows room d happens (node_in d.world.nodes id.0)

-- with a message no longer pending
abbrev without : Doing → ℕ → Doing
without d number = record d { world = record d.world { sent = no_longer_pending d.world.sent number } }

delivers_grows : (room : Room) (d : Doing) (number : ℕ) → GoesOn d.world (delivers room d number)
delivers_grows room d number = found (slice_get d.world.sent (number - 1))
  where
    found : (o : Option Sent) → GoesOn d.world (elim o [ None ↦ Ok (without d number) | Some s ↦ event_comes room (without d number) s.message.to (event.Deliver s.message) ])
    found None = record { same = refl; ended = refl; more = []; entries = sym (append-nil d.world.entries) }
    found (Some s) =
        goes_from d.world (without d number).world (event_comes room (without d number) s.message.to (event.Deliver s.message)) refl refl refl
        (event_grows room (without d number) s.message.to (event.Deliver s.message))

-- ---- the first steps of lines

declares_grows : (d : Doing) (node : Node) (entries : List Entry) → GoesOn d.world (declares d node entries)
declares_grows d node entries =
    either (GoesOn d.world) (nat_lt (length d.world.nodes) NODES) _ _ (record { same = refl; ended = refl; more = entries; entries = refl }) tt

starts_grows : (room : Room) (d : Doing) (clock : ℕ) (node : Option Node) → GoesOn d.world (starts room d clock node)
starts_grows room d clock None = stays d.world
starts_grows room d clock (Some node) =
    let boot = next_boot node.kept in
    either (GoesOn d.world) (nat_lt boot.0 COUNTS) _ (Err (came_to limited.Boots))
    (with_room d.world (room.overflow (node.past ++ loads ∷ []) (kept.Boot boot)) (does d (starts_as d.world node boot clock)) (record { same = refl; ended = refl; more = _; entries = refl })) tt

stops_grow : (w : World) (node : Option Node) → Grows w (stops w node)
stops_grow w None = stays w
stops_grow w (Some node) = up node.up
  where
    up : (o : Option Running) → Grows w (elim o [ None ↦ w | Some running ↦ halted w node running halt.Idle ])
    up None = stays w
    up (Some running) = halted_grows w node running halt.Idle

-- a node that runs is changed so
abbrev changed_up : World → Node → (Running → Running) → Option Running → World
changed_up w node change o =
    elim o [ None ↦ w | Some running ↦ record w { nodes = with_node w.nodes (record node { up = Some (change running) }) } ]

-- a world is as before, but for its nodes
record AsBefore (w v : World) : Type 0 where
  lines : v.lines ≡ w.lines
  ended : v.ended ≡ w.ended
  entries : v.entries ≡ w.entries

changed_as_before : (w : World) (node : Option Node) (change : Running → Running) → AsBefore w (changed w node change)
changed_as_before w None change = record { lines = refl; ended = refl; entries = refl }
changed_as_before w (Some node) change = up node.up
  where
    up : (o : Option Running) → AsBefore w (changed_up w node change o)
    up None = record { lines = refl; ended = refl; entries = refl }
    up (Some running) = record { lines = refl; ended = refl; entries = refl }

changed_grows : (w : World) (node : Option Node) (change : Running → Running) → Grows w (changed w node change)
changed_grows w node change =
    let before = changed_as_before w node change in
    record { same = before.lines; ended = before.ended; more = []; entries = before.entries ∙ sym (append-nil w.entries) }

core_grows : (room : Room) (d : Doing) (node : Node) (running : Running) (core : Core) (c : Call) → GoesOn d.world (core_calls room d node running core c)
core_grows room d node running (client state) c = step_grows room d node running _
core_grows room d node running (osd state) c = stays d.world
core_grows room d node running (mrc state) c = stays d.world
core_grows room d node running (dir state) c = stays d.world

calls_grow : (room : Room) (d : Doing) (node : Option Node) (c : Call) → GoesOn d.world (calls room d node c)
calls_grow room d None c = stays d.world
calls_grow room d (Some node) c = up node.up
  where
    up : (o : Option Running) → GoesOn d.world (elim o [ None ↦ Ok d | Some running ↦ core_calls room d node running running.core c ])
    up None = stays d.world
    up (Some running) = core_grows room d node running running.core c

core_grows_again : (room : Room) (d : Doing) (node : Node) (running : Running) (core : Core) → GoesOn d.world (core_calls_again room d node running core)
core_grows_again room d node running (client state) = step_grows room d node running _
core_grows_again room d node running (osd state) = stays d.world
core_grows_again room d node running (mrc state) = stays d.world
core_grows_again room d node running (dir state) = stays d.world

calls_again_grow : (room : Room) (d : Doing) (node : Option Node) → GoesOn d.world (calls_again room d node)
calls_again_grow room d None = stays d.world
calls_again_grow room d (Some node) = up node.up
  where
    up : (o : Option Running) → GoesOn d.world (elim o [ None ↦ Ok d | Some running ↦ core_calls_again room d node running running.core ])
    up None = stays d.world
    up (Some running) = core_grows_again room d node running running.core

first_grows : (room : Room) (d : Doing) (l : Line) → GoesOn d.world (first_step room d l)
unfolding first_step
first_grows room d (line.Times lease drift) = record { same = refl; ended = refl; more = _; entries = refl }
first_grows room d (line.Osd node) = declares_grows d _ []
first_grows room d line.Mrc = declares_grows d _ []
first_grows room d line.Dir = declares_grows d _ []
first_grows room d (line.Client node clock) = declares_grows d _ _
first_grows room d (line.File number location) = record { same = refl; ended = refl; more = _; entries = refl }
first_grows room d (line.Start node clock) = starts_grows room d clock (node_in d.world.nodes node.0)
first_grows room d (line.Stop node) = stops_grow d.world (node_in d.world.nodes node.0)
first_grows room d (line.Crash node k fill) = changed_grows d.world (node_in d.world.nodes node.0) (crashes k fill)
first_grows room d (line.Cut node count) = changed_grows d.world (node_in d.world.nodes node.0) (cuts count)
first_grows room d (line.Clock node clock) =
    let before = changed_as_before d.world (node_in d.world.nodes node.0) (reads_clock clock) in
    record {
      same = before.lines;
      ended = before.ended;
      more = entry.Clock node clock ∷ [];
      entries = ap (λ (es : List Entry). es ++ entry.Clock node clock ∷ []) before.entries;
    }
first_grows room d (line.Tick count) = record { same = refl; ended = refl; more = _; entries = refl }
first_grows room d (line.Wake node) = event_grows room d node event.Wake
first_grows room d (line.Call id c) = calls_grow room d (node_in d.world.nodes id.0) c
first_grows room d (line.Again id) = calls_again_grow room d (node_in d.world.nodes id.0)
first_grows room d (line.Aim id file node) = changed_grows d.world (node_in d.world.nodes id.0) (aims d.world.files file node)
first_grows room d (line.Deliver number) = delivers_grows room d number
first_grows room d (line.Drop number) = record { same = refl; ended = refl; more = []; entries = sym (append-nil d.world.entries) }
first_grows room d (line.Settle count) = stays d.world

-- ---- steps

went_grows : (w : World) (r : Result Doing Cause) → GoesOn w r → Grows w (so_far (went w r))
went_grows w (Ok d) goes = goes
went_grows w (Err cause) goes = stays w

settles_grow : (room : Room) (d : Doing) (left : ℕ) → Grows d.world (so_far (settles room d left))
settles_grow room d zero = stays d.world
settles_grow room d (suc left) = found (least_pending 1 d.world.sent)
  where
    found : (o : Option ℕ) → Grows d.world (so_far (elim o [ None ↦ finished d.world | Some number ↦ went d.world (delivers room (record d { left = left }) number) ]))
    found None = stays d.world
    found (Some number) = went_grows d.world (delivers room (record d { left = left }) number) (delivers_grows room (record d { left = left }) number)

works_grow : (room : Room) (d : Doing) (own : List Msg) → Grows d.world (so_far (works_on room d own))
works_grow room d [] = settles_grow room d d.left
works_grow room d (m ∷ own) =
    went_grows d.world (event_comes room (record d { own = own }) m.to (event.Deliver m)) (event_grows room (record d { own = own }) m.to (event.Deliver m))

next_grows : (room : Room) (next : Next) → Grows (so_far next) (so_far (next_step room next))
unfolding next_step
next_grows room (finished w) = stays w
next_grows room (opens l w) =
    let d : Doing = record { world = w; own = []; left = 0 } in
    went_grows w (first_step room d l) (first_grows room d l)
next_grows room (goes_on d) = works_grow room d d.own
next_grows room (ends cause w) = stays w

steps_grow : (k : ℕ) (room : Room) (next : Next) → Grows (so_far next) (so_far (steps k room next))
unfolding steps
steps_grow zero room next = stays (so_far next)
steps_grow (suc k) room (finished w) = stays w
steps_grow (suc k) room (ends cause w) = stays w
steps_grow (suc k) room (opens l w) =
    grows_on w (so_far (next_step room (opens l w))) (so_far (steps k room (next_step room (opens l w)))) (next_grows room (opens l w)) (steps_grow k room (next_step room (opens l w)))
steps_grow (suc k) room (goes_on d) =
    grows_on d.world (so_far (next_step room (goes_on d))) (so_far (steps k room (next_step room (goes_on d)))) (next_grows room (goes_on d)) (steps_grow k room (next_step room (goes_on d)))

opening_at : (w : World) (l : Line) → so_far (opening w l) ≡ w
opening_at w (line.Settle count) = refl
opening_at w _ = refl

begins_at : (w : World) (l : Line) → so_far (begins w l) ≡ w
begins_at w l = at w.ended
  where
    at : (ended : Bool) → so_far (if ended then finished w else opening w l) ≡ w
    at true = refl
    at false = opening_at w l

-- the world after some finished steps of a line
pub part_grows : (room : Room) (w : World) (l : Line) (part : World) → IsPartOf room w l part → Grows w part
part_grows room w l part (k, some, is) =
    subst (λ (v : World). Grows v part) (begins_at w l) (subst (Grows (so_far (begins w l))) is (steps_grow k room (begins w l)))

-- the world that a line leaves is after some finished steps
pub done_part : (room : Room) (w : World) (l : Line) → IsPartOf room w l (so_far (done room w l))
unfolding done
done_part room w l = (enough w l, omega arith, refl)

pub done_grows : (room : Room) (w : World) (l : Line) → Grows w (so_far (done room w l))
done_grows room w l = part_grows room w l (so_far (done room w l)) (done_part room w l)
