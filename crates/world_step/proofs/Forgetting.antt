-- what a step leaves when its node forgets
use Rattle.std.proofs.Common.{◌≡◌, Bool, true, false, cond, Option, Some, None, Result, Ok, Err, List, [], refl, ap, sym, ◌∙◌}
use Rattle.xt_base.specs.declared.ids.NodeId.{NodeId}
use Rattle.xt_messages.specs.declared.message.Msg.{Msg}
use Rattle.xt_messages.specs.declared.record.Record.{Record}
use Rattle.xt_messages.specs.declared.record.KeepBody.{KeepBody}
use Rattle.xt_protocol.specs.Forgetting.{keep_of}
use Rattle.xt_protocol.specs.OsdSteps.{OsdState}
use Rattle.time_line.specs.declared.entry.Entry.{Entry}
use Rattle.world_spec.specs.declared.PlacedFile.{PlacedFile}
use Rattle.world_spec.specs.World.{World, Node, Deed, Running, Core, osd, client, mrc, dir, node_in, with_node}
use Rattle.world_spec.specs.NodeSteps.{Room, Cause, Doing, rewritten_at, rewrites_after, forgets_at, forgets_in, forgets_if}
use Rattle.world_hull.specs.Rewritings.{RewritesAfterPuts}
use Rattle.world_hull.specs.declared.errors.WorldErr.{WorldErr}
use Rattle.world_hull.specs.declared.errors.WorldErr.TheVariants as error
use Rattle.world_nodes.specs.Nodes.{forgotten_in}
use Rattle.world_step.specs.Steps.{Tells, cause_of}

-- where no records are rewritten, nothing is forgotten
forgets_none : (decides : List Deed → List KeepBody → Bool) (w : World) (found : Option Node) → ((past : List Deed) (keep : List KeepBody) → decides past keep ≡ false)
    → forgets_in decides w found ≡ w
forgets_none decides w None never = refl
forgets_none decides w (Some node) never = by_up node.up
  where
    by_core : (running : Running) (core : Core) → forgets_at decides w node running core ≡ w
    by_core running (client c) = refl
    by_core running (mrc m) = refl
    by_core running (dir s) = refl
    by_core running (osd s) = ap (λ (b : Bool). cond b (record w { nodes = with_node w.nodes (rewritten_at node running s) }) w) (never node.past (keep_of s))

    by_up : (up : Option Running) → (elim up [ None ↦ w | Some running ↦ forgets_at decides w node running running.core ]) ≡ w
    by_up None = refl
    by_up (Some running) = by_core running running.core

-- the line at work, once the node of this id forgot after a step that put a record
abbrev pub forgot : Room → NodeId → Option Record → Doing → Doing
forgot room id None d = d
forgot room id (Some rec) d = record d { world = forgets_in room.rewrites_now d.world (node_in d.world.nodes id.0) }

pub forgot_is : (room : Room) → RewritesAfterPuts room → (id : NodeId) (rec : Option Record) (d : Doing) → forgets_if room id rec (Ok d) ≡ Ok (forgot room id rec d)
forgot_is room waits id None d = ap (λ (w : World). Ok (record d { world = w })) (forgets_none (room.rewrites_idle d id) d.world (node_in d.world.nodes id.0) (waits d id))
forgot_is room waits id (Some rec) d = refl

pub forgot_to : (room : Room) → RewritesAfterPuts room → (id : NodeId) (rec : Option Record) (d left : Doing) → forgets_if room id rec (Ok d) ≡ Ok left → forgot room id rec d ≡ left
forgot_to room waits id rec d left is = the_same (forgets_if room id rec (Ok d)) (forgot room id rec d) left (forgot_is room waits id rec d) is
  where
    the_same : (result : Result Doing Cause) (a b : Doing) → result ≡ Ok a → result ≡ Ok b → a ≡ b
    the_same result a b one two = let same : Ok a ≡ Ok b = sym one ∙ two in cc same

-- forgetting ends no step early
pub forgets_cause : (room : Room) (id : NodeId) (rec : Option Record) (result : Result Doing Cause) → cause_of (forgets_if room id rec result) ≡ cause_of result
forgets_cause room id rec (Ok d) = refl
forgets_cause room id rec (Err cause) = refl

-- it changes nothing but the nodes, and sees nothing else
pub only_nodes : (decides : List Deed → List KeepBody → Bool) (w : World) (found : Option Node)
    → forgets_in decides w found ≡ record w { nodes = forgotten_in decides (record { times = w.times; nodes = w.nodes }) found }
only_nodes decides w None = refl
only_nodes decides w (Some node) = by_up node.up
  where
    bare_world : World
    bare_world = record { times = w.times; nodes = w.nodes; files = []; made = []; sent = []; entries = []; lines = []; ended = false }

    by_bool : (running : Running) (s : OsdState) (now : Bool)
        → cond now (record w { nodes = with_node w.nodes (rewritten_at node running s) }) w
        ≡ record w { nodes = (cond now (record bare_world { nodes = with_node w.nodes (rewritten_at node running s) }) bare_world).nodes }
    by_bool running s true = refl
    by_bool running s false = refl

    by_core : (running : Running) (core : Core) → forgets_at decides w node running core ≡ record w { nodes = (forgets_at decides bare_world node running core).nodes }
    by_core running (client c) = refl
    by_core running (mrc m) = refl
    by_core running (dir s) = refl
    by_core running (osd s) = by_bool running s (decides node.past (keep_of s))

    by_up : (up : Option Running)
        → (elim up [ None ↦ w | Some running ↦ forgets_at decides w node running running.core ])
        ≡ record w { nodes = (elim up as (λ x. World) [ None ↦ bare_world | Some running ↦ forgets_at decides bare_world node running running.core ]).nodes }
    by_up None = refl
    by_up (Some running) = by_core running running.core

pub forgot_entries : (room : Room) (id : NodeId) (rec : Option Record) (d : Doing) → (forgot room id rec d).world.entries ≡ d.world.entries
forgot_entries room id None d = refl
forgot_entries room id (Some rec) d = ap (λ (w : World). w.entries) (only_nodes room.rewrites_now d.world (node_in d.world.nodes id.0))

pub forgot_made : (room : Room) (id : NodeId) (rec : Option Record) (d : Doing) → (forgot room id rec d).world.made ≡ d.world.made
forgot_made room id None d = refl
forgot_made room id (Some rec) d = ap (λ (w : World). w.made) (only_nodes room.rewrites_now d.world (node_in d.world.nodes id.0))

pub forgot_own : (room : Room) (id : NodeId) (rec : Option Record) (d : Doing) → (forgot room id rec d).own ≡ d.own
forgot_own room id None d = refl
forgot_own room id (Some rec) d = refl

pub forgot_lines : (room : Room) (id : NodeId) (rec : Option Record) (d : Doing) → (forgot room id rec d).world.lines ≡ d.world.lines
forgot_lines room id None d = refl
forgot_lines room id (Some rec) d = ap (λ (w : World). w.lines) (only_nodes room.rewrites_now d.world (node_in d.world.nodes id.0))

pub forgot_ended : (room : Room) (id : NodeId) (rec : Option Record) (d : Doing) → (forgot room id rec d).world.ended ≡ d.world.ended
forgot_ended room id None d = refl
forgot_ended room id (Some rec) d = ap (λ (w : World). w.ended) (only_nodes room.rewrites_now d.world (node_in d.world.nodes id.0))

-- what is reported, made and queued then doesn't matter to it
pub told_later : (room : Room) (id : NodeId) (rec : Option Record) (d : Doing) (entries : List Entry) (made : List PlacedFile) (own : List Msg)
    → (let told : Doing → Doing = λ x. record x { world = record x.world { made = made; entries = entries }; own = own } in forgot room id rec (told d) ≡ told (forgot room id rec d))
told_later room id None d entries made own = refl
told_later room id (Some rec) d entries made own =
    let found : Option Node = node_in d.world.nodes id.0 in
    ap (λ (w : World). record d { world = w; own = own }) (only_nodes room.rewrites_now (record d.world { made = made; entries = entries }) found)
    ∙ sym (ap (λ (w : World). record d { world = record w { made = made; entries = entries }; own = own }) (only_nodes room.rewrites_now d.world found))

-- a node that is down forgets nothing
pub stays_down : (room : Room) (id : NodeId) (rec : Option Record) (d : Doing) (node : Node) → node_in d.world.nodes id.0 ≡ Some node → node.up ≡ None → forgets_if room id rec (Ok d) ≡ Ok d
stays_down room id rec d node found down =
    ap (λ (w : World). Ok (record d { world = w })) (ap (forgets_in decides d.world) found ∙ at node.up down)
  where
    decides : List Deed → List KeepBody → Bool
    decides = rewrites_after room d id rec

    at : (up : Option Running) → up ≡ None → (elim up [ None ↦ d.world | Some running ↦ forgets_at decides d.world node running running.core ]) ≡ d.world
    at None is = refl
    at (Some running) is = absurd (cc)

-- an error that reports no cause is out of memory, which can happen whatever the cause is
pub tells_any : (cause : Option Cause) (e : WorldErr) → Tells None e → Tells cause e
tells_any cause (error.Illegal rule) told = told
tells_any cause (error.Limit what limit) told = absurd (let none = told.0 in cc none)
tells_any cause (error.Full need limit) told = absurd (cc told)
tells_any cause error.OutOfMemory told = tt
