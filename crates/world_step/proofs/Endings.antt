-- how steps end
use Rattle.std.proofs.Common.{◌≡◌, ℕ, zero, suc, Bool, true, false, cond, is_some, Option, Some, None, Result, Ok, Err, List, [], ◌∷◌, ◌++◌, map, refl, ap, sym, ◌∙◌, subst, append_assoc, arith, ◌<◌, length}
use Rattle.std.specs.Prelude.{filter, not, ◌&&◌, ◌==◌, take, slice_get, slice_set}
use Rattle.std.proofs.lemmas.Bool.Decides.{nat_tests}
use Rattle.std.proofs.lemmas.List.{append-nil, length-set, set-set}
use Rattle.world_runs.proofs.Tables.{node_in-new}
use Rattle.disk_model.specs.declared.plan.Stop.{Stop}
use Rattle.xt_base.specs.declared.ids.NodeId.{NodeId}
use Rattle.xt_messages.specs.declared.message.Msg.{Msg}
use Rattle.xt_messages.specs.declared.record.Record.{Record}
use Rattle.xt_messages.specs.declared.status.Limited.{Limited}
use Rattle.xt_protocol.specs.declared.turned.Turned.{Turned}
use Rattle.time_line.specs.declared.entry.Halt.{Halt}
use Rattle.time_line.specs.declared.entry.Halt.TheVariants as halt
use Rattle.world_hull.specs.declared.hull.Kept.{Kept}
use Rattle.world_hull.specs.declared.hull.Kept.TheVariants as kept
use Rattle.time_line.specs.declared.entry.Entry.{Entry}
use Rattle.time_line.specs.declared.entry.Entry.TheVariants as entry
use Rattle.world_spec.specs.declared.PlacedFile.{PlacedFile}
use Rattle.world_spec.specs.declared.Sent.{Sent}
use Rattle.client_rows.specs.Steps.{Step}
use Rattle.world_spec.specs.World.{World, Node, Deed, puts, Running, Core, node_in, with_node}
use Rattle.world_spec.specs.NodeSteps.{Room, Cause, has_no_room, Overflow, Doing, pending, numbered, one_more, overflow_of, within_limits, forgets_if, after_turn, to_itself, entry_of, files_marked, halted, keeps_record, stopped_in_append, cut_in_sending, loses_own, sends, appends, end_of_step}
use Rattle.world_tables.specs.Limits.{limit_passed, within}
use Rattle.world_tables.proofs.Limits.{within_limits_is}
use Rattle.world_hull.specs.Appends.{kept_by}
use Rattle.world_hull.specs.Rewritings.{RewritesAfterPuts}
use Rattle.world_hull.specs.declared.errors.WorldErr.{WorldErr}
use Rattle.std.specs.List.{AllByRecursion}
use Rattle.std.specs.Option.{IfSome}
use Rattle.world_limits.specs.Fits.{MayForget}
use Rattle.xt_messages.specs.Limits.{FitsMessage}
use Rattle.world_nodes.specs.Nodes.{NodesView, IsAt, after_append, after_put}
use Rattle.world_step.specs.Steps.{Around, Working, WentOn, IsStepped, IsUntold, Tells, cause_of}
use Rattle.world_step.proofs.Forgetting.{forgot, forgot_is, forgot_to, forgot_entries, forgot_made, forgot_lines, forgot_ended, forgot_own, told_later, stays_down, forgets_cause, tells_any}
use Rattle.world_step.specs.Endings.{given, hindrance, cause_against, IsGiven, Halts, ended, ended_whole, ended_sending, ended_in_append, halt_of}

-- ---- tables of nodes

with_cons : (n : Node) (ns : List Node) (x : Node) → with_node (n ∷ ns) x ≡ cond (n.id.0 == x.id.0) (x ∷ ns) (n ∷ with_node ns x)
unfolding with_node
with_cons n ns x = refl

with_none : (x : Node) → with_node [] x ≡ []
unfolding with_node
with_none x = refl

pub twice : (nodes : List Node) (a b : Node) → a.id ≡ b.id → with_node (with_node nodes a) b ≡ with_node nodes b
twice [] a b same = ap (λ (ns : List Node). with_node ns b) (with_none a)
twice (n ∷ ns) a b same =
    ap (λ (xs : List Node). with_node xs b) (with_cons n ns a)
    ∙ at (n.id.0 == a.id.0) (n.id.0 == b.id.0) refl (ap (λ (i : NodeId). n.id.0 == i.0) same) (twice ns a b same)
    ∙ sym (with_cons n ns b)
  where
    itself : (k : ℕ) → (k == k) ≡ true
    itself k = grind (arith, nat_tests)

    at : (one two : Bool) → (n.id.0 == a.id.0) ≡ one → one ≡ two → with_node (with_node ns a) b ≡ with_node ns b
        → with_node (cond one (a ∷ ns) (n ∷ with_node ns a)) b ≡ cond two (b ∷ ns) (n ∷ with_node ns b)
    at true true is is_same rest =
        with_cons a ns b
        ∙ ap (λ (here : Bool). cond here (b ∷ ns) (a ∷ with_node ns b)) (ap (λ (i : NodeId). a.id.0 == i.0) (sym same) ∙ itself a.id.0)
    at true false is is_same rest = absurd (cc)
    at false true is is_same rest = absurd (cc)
    at false false is is_same rest =
        with_cons n (with_node ns a) b
        ∙ ap (λ (here : Bool). cond here (b ∷ with_node ns a) (n ∷ with_node (with_node ns a) b)) (ap (λ (i : NodeId). n.id.0 == i.0) (sym same) ∙ is)
        ∙ ap (λ (later : List Node). n ∷ later) rest

declared_same : (nodes : List Node) (x : Node) (id : ℕ) → is_some (node_in (with_node nodes x) id) ≡ is_some (node_in nodes id)
unfolding node_in with_node
declared_same [] x id = refl
declared_same (n ∷ ns) x id = at (n.id.0 == x.id.0) refl (declared_same ns x id)
  where
    equal : (a b : ℕ) → (a == b) ≡ true → a ≡ b
    equal a b is = grind (arith, nat_tests)

    some_if : (here : Bool) (a b : Node) (o : Option Node) → is_some (cond here (Some a) o) ≡ is_some (cond here (Some b) o)
    some_if true a b o = refl
    some_if false a b o = refl

    later_if : (here : Bool) (a : Node) (o p : Option Node) → is_some o ≡ is_some p → is_some (cond here (Some a) o) ≡ is_some (cond here (Some a) p)
    later_if true a o p same = refl
    later_if false a o p same = same

    at : (same : Bool) → (n.id.0 == x.id.0) ≡ same → is_some (node_in (with_node ns x) id) ≡ is_some (node_in ns id)
        → is_some (node_in (cond same (x ∷ ns) (n ∷ with_node ns x)) id) ≡ is_some (cond (n.id.0 == id) (Some n) (node_in ns id))
    at true is rest =
        ap (λ (k : ℕ). is_some (cond (k == id) (Some x) (node_in ns id))) (sym (equal n.id.0 x.id.0 is)) ∙ some_if (n.id.0 == id) x n (node_in ns id)
    at false is rest = later_if (n.id.0 == id) n (node_in (with_node ns x) id) (node_in ns id) rest

filter_same : {A : Type 0} (p q : A → Bool) (xs : List A) → ((x : A) → p x ≡ q x) → filter p xs ≡ filter q xs
filter_same p q [] same = refl
filter_same p q (x ∷ xs) same = at (p x) (q x) (same x) (filter_same p q xs same)
  where
    at : (a b : Bool) → a ≡ b → filter p xs ≡ filter q xs → cond a (x ∷ filter p xs) (filter p xs) ≡ cond b (x ∷ filter q xs) (filter q xs)
    at true true is rest = ap (λ ys. x ∷ ys) rest
    at true false is rest = absurd (cc)
    at false true is rest = absurd (cc)
    at false false is rest = rest

pub numbered_same : (nodes : List Node) (x : Node) (id : NodeId) (outs : List Msg) → numbered (with_node nodes x) id outs ≡ numbered nodes id outs
numbered_same nodes x id outs =
    ap (map pending)
    (filter_same (λ (m : Msg). not (m.to.0 == id.0) && is_some (node_in (with_node nodes x) m.to.0)) (λ (m : Msg). not (m.to.0 == id.0) && is_some (node_in nodes m.to.0)) outs
    (λ m. ap (λ (b : Bool). not (m.to.0 == id.0) && b) (declared_same nodes x m.to.0)))

-- ---- what is reported

pub stepped_ok : (old : Working) (stepped : Result Doing Cause) (d : Doing) (new : Working) → stepped ≡ Ok d → new ≡ record old { doing = d }
    → d.world.lines ≡ old.doing.world.lines → d.world.ended ≡ old.doing.world.ended → (stepped ≡ Ok new.doing) × WentOn old new
stepped_ok old stepped d new done is lines ended =
    let at : d ≡ new.doing = ap (λ (x : Working). x.doing) (sym is) in (
      done ∙ ap (λ (x : Doing). Ok x) at,
      record {
        rest = is ∙ ap (λ (x : Doing). record old { doing = x }) at;
        lines = ap (λ (x : Doing). x.world.lines) (sym at) ∙ lines;
        ended = ap (λ (x : Doing). x.world.ended) (sym at) ∙ ended;
      },
    )

by_limit : (d : Doing) (passed : Option Limited) → cause_of (within d passed) ≡ hindrance passed
by_limit d None = refl
by_limit d (Some what) = refl

pub cause_is : (room : Room) (w : World) (node : Node) (rec : Option Record) (outs : List Msg) (d : Doing) → d.world.sent ≡ (given w node rec outs).sent
    → cause_of (ended room node rec d) ≡ cause_against room w node rec outs
cause_is room w node rec outs d same = at (overflow_of room node.past rec)
  where
    at : (o : Option Overflow)
        → cause_of (elim o [ Some overflow ↦ Err (has_no_room overflow) | None ↦ forgets_if room node.id rec (within_limits d) ])
        ≡ (elim o [ Some overflow ↦ Some (has_no_room overflow) | None ↦ hindrance (limit_passed (given w node rec outs).sent) ])
    at (Some overflow) = refl
    at None = forgets_cause room node.id rec (within_limits d) ∙ ap cause_of (within_limits_is d) ∙ by_limit d (limit_passed d.world.sent) ∙ ap (λ (s : List Sent). hindrance (limit_passed s)) same

pub done_is : (room : Room) (w : World) (node : Node) (rec : Option Record) (outs : List Msg) (d : Doing) → d.world.sent ≡ (given w node rec outs).sent
    → cause_against room w node rec outs ≡ None → ended room node rec d ≡ forgets_if room node.id rec (Ok d)
done_is room w node rec outs d same none = at (overflow_of room node.past rec) none
  where
    limit : (passed : Option Limited) → hindrance passed ≡ None → within d passed ≡ Ok d
    limit None is = refl
    limit (Some what) is = absurd (cc)

    causes : Option Overflow → Option Cause
    causes o = elim o [ Some overflow ↦ Some (has_no_room overflow) | None ↦ hindrance (limit_passed (given w node rec outs).sent) ]

    comes : Option Overflow → Result Doing Cause
    comes o = elim o [ Some overflow ↦ Err (has_no_room overflow) | None ↦ forgets_if room node.id rec (within_limits d) ]

    at : (o : Option Overflow) → causes o ≡ None → comes o ≡ forgets_if room node.id rec (Ok d)
    at (Some overflow) is = absurd (cc)
    at None is =
        ap (forgets_if room node.id rec)
        (within_limits_is d ∙ limit (limit_passed d.world.sent) (ap (λ (s : List Sent). hindrance (limit_passed s)) same ∙ is))

-- ---- the node that steps

-- it stands where it stood
pub at_again : (nodes : List Node) (place : ℕ) (node next : Node) → IsAt nodes place node → next.id ≡ node.id → IsAt (with_node nodes next) place next
at_again nodes place node next at same =
    let is : with_node nodes next ≡ slice_set nodes place next = at.put next same in record {
      inside = subst (λ (ns : List Node). place < length ns) (sym is) (subst (λ (n : ℕ). place < n) (sym (length-set nodes place next)) at.inside);
      here = subst (λ (ns : List Node). slice_get ns place ≡ Some next) (sym is) (got_set nodes place next at.inside);
      found = found_again nodes next node (ap (λ (i : NodeId). node_in nodes i.0) same ∙ at.found);
      put = λ other its.
          twice nodes next other (sym its) ∙ at.put other (its ∙ same)
          ∙ sym (set-set nodes place next other) ∙ ap (λ (ns : List Node). slice_set ns place other) (sym is);
    }
  where
    got_set : (xs : List Node) (k : ℕ) (x : Node) → k < length xs → slice_get (slice_set xs k x) k ≡ Some x
    got_set [] k x lt = absurd (omega arith)
    got_set (y ∷ ys) zero x lt = refl
    got_set (y ∷ ys) (suc k) x lt = got_set ys k x (omega arith)

    found_again : (xs : List Node) (x old : Node) → node_in xs x.id.0 ≡ Some old → node_in (with_node xs x) x.id.0 ≡ Some x
    found_again xs x old is = node_in-new xs x old is

-- one node stands in a place
pub one_node : (nodes : List Node) (place : ℕ) (a b : Node) → IsAt nodes place a → IsAt nodes place b → a ≡ b
one_node nodes place a b one two = the_same a b (sym one.here ∙ two.here)
  where
    the_same : (x y : Node) → Some x ≡ Some y → x ≡ y
    the_same x y e = cc

-- a step that is made in place ends as one that puts the new state in afterwards
pub end_again : (room : Room) (d : Doing) (node : Node) (running : Running) (step : Step Core)
    → (let after : Running = record running { core = step.state } in let there : Node = record node { up = Some after } in
    end_of_step room (record d { world = record d.world { nodes = with_node d.world.nodes there } }) there after (record { state = after.core; turned = step.turned }) ≡ end_of_step room d node running step)
end_again room d node running step =
    ap (ended room node step.turned.rec)
    (ways running.crash step.turned.rec)
  where
    after : Running
    after = record running { core = step.state }

    there : Node
    there = record node { up = Some after }

    later : Doing
    later = record d { world = record d.world { nodes = with_node d.world.nodes there } }

    put : (x : Node) → x.id ≡ node.id → with_node (with_node d.world.nodes there) x ≡ with_node d.world.nodes x
    put x same = twice d.world.nodes there x (sym same)

    whole : (turned : Turned) → after_turn later.world there after turned ≡ after_turn d.world node after turned
    whole turned =
        let x : Node = record (after_put turned.rec node) { up = Some after } in
        ap (λ (ns : List Node). record d.world { nodes = ns; made = d.world.made ++ files_marked turned.marks; entries = d.world.entries ++ map (entry_of node.id) turned.marks; sent = d.world.sent ++ numbered (with_node d.world.nodes there) node.id turned.outs }) (put x refl)
        ∙ ap (λ (more : List Sent). record d.world { nodes = with_node d.world.nodes x; made = d.world.made ++ files_marked turned.marks; entries = d.world.entries ++ map (entry_of node.id) turned.marks; sent = d.world.sent ++ more }) (numbered_same d.world.nodes there node.id turned.outs)

    by_cut : (cut : Option ℕ) (outs : List Msg) → sends later there after cut outs step.turned ≡ sends d node after cut outs step.turned
    by_cut None outs = ap (λ (w : World). record d { world = w; own = d.own ++ to_itself node.id outs }) (whole step.turned)
    by_cut (Some count) [] = ap (λ (w : World). record d { world = w; own = d.own ++ to_itself node.id [] }) (whole step.turned)
    by_cut (Some count) (out ∷ outs) =
        ap (λ (w : World). record d { world = halted w (record (after_put step.turned.rec node) { up = Some after }) after halt.Cut; own = [] })
        (whole (record step.turned { outs = take count step.turned.outs }))

    by_stop : (stop : Stop) (rec : Record) → stopped_in_append later.world there after stop rec ≡ stopped_in_append d.world node after stop rec
    by_stop stop rec = at (keeps_record stop)
      where
        halting : (rs : List Record) (ds : List Deed) (how : Halt)
            → halted later.world (record there { kept = rs; past = ds }) after how ≡ halted d.world (record node { kept = rs; past = ds }) after how
        halting rs ds how =
            ap (λ (ns : List Node). record d.world { nodes = ns; entries = d.world.entries ++ entry.Down node.id after.clock how ∷ [] })
            (put (record node { kept = rs; past = ds; up = None }) refl)

        at : (keeps : Bool)
            → cond keeps (halted later.world (record there { kept = node.kept ++ rec ∷ []; past = node.past ++ puts rec ∷ [] }) after halt.Kept) (halted later.world there after halt.Lost)
            ≡ cond keeps (halted d.world (record node { kept = node.kept ++ rec ∷ []; past = node.past ++ puts rec ∷ [] }) after halt.Kept) (halted d.world node after halt.Lost)
        at true = halting (node.kept ++ rec ∷ []) (node.past ++ puts rec ∷ []) halt.Kept
        at false = halting node.kept node.past halt.Lost

    ways : (crash : Option Stop) (rec : Option Record) → appends later there after crash rec step.turned ≡ appends d node after crash rec step.turned
    ways None rec = by_cut running.cut step.turned.outs
    ways (Some stop) None = by_cut running.cut step.turned.outs
    ways (Some stop) (Some rec) = ap (λ (w : World). record d { world = w; own = [] }) (by_stop stop rec)

-- ---- the ways in which a step ends

-- the line at work after a step that gave all of this, where nothing is reported or queued yet
abbrev pub gave_of : Working → Node → Option Record → List Msg → Doing
gave_of was node rec outs = record was.doing { world = given was.doing.world node rec outs }

-- what was reported, made and queued then
abbrev pub told_of : Doing → List Entry → List PlacedFile → List Msg → Doing
told_of d entries made own = record d { world = record d.world { made = made; entries = entries }; own = own }

pub whole_done : (room : Room) → RewritesAfterPuts room → (old new : Working) (node : Node) (running : Running) (turned : Turned) (told : List Entry) (files : List PlacedFile) → node.up ≡ Some running
    → told ≡ map (entry_of node.id) turned.marks → files ≡ files_marked turned.marks → cause_against room old.doing.world node turned.rec turned.outs ≡ None
    → new ≡ record old { doing = told_of (forgot room node.id turned.rec (gave_of old node turned.rec turned.outs)) (old.doing.world.entries ++ told) (old.doing.world.made ++ files) (old.doing.own ++ to_itself node.id turned.outs) }
    → (ended_whole room old.doing node running turned ≡ Ok new.doing) × WentOn old new
whole_done room waits old new node running turned told files is_up is_told is_files none is =
    let w : World = old.doing.world in
    let own : List Msg = old.doing.own ++ to_itself node.id turned.outs in
    let marks : List Entry = w.entries ++ map (entry_of node.id) turned.marks in
    let made : List PlacedFile = w.made ++ files_marked turned.marks in
    let after : Doing = record old.doing { world = after_turn w node running turned; own = own } in
    stepped_ok old (ended_whole room old.doing node running turned) (forgot room node.id turned.rec after) new
    (done_is room w node turned.rec turned.outs after refl none ∙ forgot_is room waits node.id turned.rec after)
    (is
    ∙ ap (λ (es : List Entry). record old { doing = told_of (forgot room node.id turned.rec (gave_of old node turned.rec turned.outs)) (w.entries ++ es) (w.made ++ files) own }) is_told
    ∙ ap (λ (fs : List PlacedFile). record old { doing = told_of (forgot room node.id turned.rec (gave_of old node turned.rec turned.outs)) marks (w.made ++ fs) own }) is_files
    ∙ ap (λ (d : Doing). record old { doing = d }) (sym (told_later room node.id turned.rec (gave_of old node turned.rec turned.outs) marks made own))
    ∙ ap (λ (up : Option Running).
    record old { doing = forgot room node.id turned.rec (record old.doing { world = record w { nodes = with_node w.nodes (record (after_put turned.rec node) { up = up }); made = made; entries = marks; sent = w.sent ++ numbered w.nodes node.id turned.outs }; own = own }) })
    is_up)
    (forgot_lines room node.id turned.rec after) (forgot_ended room node.id turned.rec after)

pub sending_done : (room : Room) (old new : Working) (place : ℕ) (node : Node) (running : Running) (count : ℕ) (turned : Turned) (told : List Entry) (files : List PlacedFile)
    → IsAt old.doing.world.nodes place node → node.up ≡ Some running
    → told ≡ map (entry_of node.id) turned.marks ++ entry.Down node.id running.clock halt.Cut ∷ [] → files ≡ files_marked turned.marks
    → cause_against room old.doing.world node turned.rec (take count turned.outs) ≡ None
    → new ≡ record old {
      doing = record old.doing {
        world = record (given old.doing.world node turned.rec (take count turned.outs)) {
          nodes = with_node (with_node old.doing.world.nodes (after_put turned.rec node)) (record (after_put turned.rec node) { up = None });
          made = old.doing.world.made ++ files;
          entries = old.doing.world.entries ++ told;
        };
        own = [];
      };
    }
    → (ended_sending room old.doing node running count turned ≡ Ok new.doing) × WentOn old new
sending_done room old new place node running count turned told files at is_up is_told is_files none is =
    let w : World = old.doing.world in
    let outs : List Msg = take count turned.outs in
    let put : Node = after_put turned.rec node in
    let next : Node = record put { up = Some running } in
    let down : Entry = entry.Down node.id running.clock halt.Cut in
    let marks : List Entry = map (entry_of node.id) turned.marks in
    let after : Doing = loses_own old.doing (cut_in_sending w node running count turned) in
    let stays = stays_down room node.id turned.rec after (record put { up = None })
    (at_again (with_node w.nodes next) place next (record put { up = None }) (at_again w.nodes place node next at refl) refl).found refl in
    stepped_ok old (ended_sending room old.doing node running count turned) after new (done_is room w node turned.rec outs after refl none ∙ stays)
    (is
    ∙ ap (λ (es : List Entry). record old { doing = record old.doing { world = record (given w node turned.rec outs) { nodes = with_node (with_node w.nodes put) (record put { up = None }); made = w.made ++ files; entries = es }; own = [] } })
    (ap (λ (es : List Entry). w.entries ++ es) is_told ∙ sym (append_assoc w.entries marks (down ∷ [])))
    ∙ ap (λ (fs : List PlacedFile). record old { doing = record old.doing { world = record (given w node turned.rec outs) { nodes = with_node (with_node w.nodes put) (record put { up = None }); made = w.made ++ fs; entries = (w.entries ++ marks) ++ down ∷ [] }; own = [] } }) is_files
    ∙ ap (λ (up : Option Running). record old { doing = record old.doing { world = record (given w node turned.rec outs) { nodes = with_node (with_node w.nodes (record put { up = up })) (record put { up = None }); made = w.made ++ files_marked turned.marks; entries = (w.entries ++ marks) ++ down ∷ [] }; own = [] } }) is_up)
    refl refl

pub append_sent : (d : Doing) (node : Node) (running : Running) (stop : Stop) (rec : Record) → (stopped_in_append d.world node running stop rec).sent ≡ d.world.sent ++ []
append_sent d node running stop rec = at (keeps_record stop)
  where
    at : (keeps : Bool)
        → (cond keeps (halted d.world (record node { kept = node.kept ++ rec ∷ []; past = node.past ++ puts rec ∷ [] }) running halt.Kept) (halted d.world node running halt.Lost)).sent ≡ d.world.sent ++ []
    at true = sym (append-nil d.world.sent)
    at false = sym (append-nil d.world.sent)

pub append_done : (room : Room) (old new : Working) (place : ℕ) (node : Node) (running : Running) (stop : Stop) (rec : Record) (end : Kept)
    → IsAt old.doing.world.nodes place node → end ≡ kept_by (Some stop)
    → cause_against room old.doing.world node (Some rec) [] ≡ None
    → new ≡ record old {
      doing = record old.doing {
        world = record old.doing.world {
          nodes = with_node (with_node old.doing.world.nodes (after_append rec end node)) (record (after_append rec end node) { up = None });
          entries = old.doing.world.entries ++ entry.Down node.id running.clock (halt_of end) ∷ [];
        };
        own = [];
      };
    }
    → (ended_in_append room old.doing node running stop rec ≡ Ok new.doing) × WentOn old new
append_done room old new place node running stop rec end there is_end none is =
    let w : World = old.doing.world in
    let after : Doing = loses_own old.doing (stopped_in_append w node running stop rec) in
    stepped_ok old (ended_in_append room old.doing node running stop rec) after new
    (done_is room w node (Some rec) [] after (append_sent old.doing node running stop rec) none ∙ stays (keeps_record stop))
    (is
    ∙ ap (λ (ns : List Node). record old { doing = record old.doing { world = record w { nodes = ns; entries = w.entries ++ entry.Down node.id running.clock (halt_of end) ∷ [] }; own = [] } })
    (twice w.nodes (after_append rec end node) (record (after_append rec end node) { up = None }) refl)
    ∙ ap (λ (e : Kept). record old { doing = record old.doing { world = record w { nodes = with_node w.nodes (record (after_append rec e node) { up = None }); entries = w.entries ++ entry.Down node.id running.clock (halt_of e) ∷ [] }; own = [] } }) is_end
    ∙ ap (λ (x : World). record old { doing = record old.doing { world = x; own = [] } }) (by_keeps (keeps_record stop)))
    (same_lines (keeps_record stop)) (same_ended (keeps_record stop))
  where
    w : World
    w = old.doing.world

    stopped : Bool → World
    stopped keeps =
        cond keeps (halted w (record node { kept = node.kept ++ rec ∷ []; past = node.past ++ puts rec ∷ [] }) running halt.Kept) (halted w node running halt.Lost)

    same_lines : (keeps : Bool) → (stopped keeps).lines ≡ w.lines
    same_lines true = refl
    same_lines false = refl

    same_ended : (keeps : Bool) → (stopped keeps).ended ≡ w.ended
    same_ended true = refl
    same_ended false = refl

    by_keeps : (keeps : Bool)
        → (let e : Kept = cond keeps kept.StoppedKept kept.StoppedLost in
        record w { nodes = with_node w.nodes (record (after_append rec e node) { up = None }); entries = w.entries ++ entry.Down node.id running.clock (halt_of e) ∷ [] })
        ≡ stopped keeps
    by_keeps true = refl
    by_keeps false = refl

    found : (down : Node) → down.id ≡ node.id → node_in (with_node w.nodes down) down.id.0 ≡ Some down
    found down same = (at_again w.nodes place node down there same).found

    stays : (keeps : Bool) → forgets_if room node.id (Some rec) (Ok (loses_own old.doing (stopped keeps))) ≡ Ok (loses_own old.doing (stopped keeps))
    stays true =
        let down : Node = record node { kept = node.kept ++ rec ∷ []; past = node.past ++ puts rec ∷ []; up = None } in
        stays_down room node.id (Some rec) (loses_own old.doing (stopped true)) down (found down refl) refl
    stays false =
        let down : Node = record node { up = None } in
        stays_down room node.id (Some rec) (loses_own old.doing (stopped false)) down (found down refl) refl

-- ---- by the state as code has it

-- the node is there, with its record put
pub gave_at : (T : Type 0) (room : Room) (was gave : Working) (place : ℕ) (node : Node) (rec : Option Record) (outs : List Msg) (value : T)
    → IsAt was.doing.world.nodes place node → IsGiven {T = T} room was node rec outs gave (Ok value) → IsAt gave.doing.world.nodes place (after_put rec node)
gave_at T room was gave place node rec outs value at gives =
    subst (λ (x : Working). IsAt x.doing.world.nodes place (after_put rec node)) (sym gives.1) (at_again was.doing.world.nodes place node (after_put rec node) at refl)

-- and it may forget what it could before
pub gave_may : (T : Type 0) (room : Room) (was gave : Working) (place : ℕ) (node other : Node) (rec : Option Record) (outs : List Msg) (value : T)
    → IsAt was.doing.world.nodes place node → IsGiven {T = T} room was node rec outs gave (Ok value) → IsAt gave.doing.world.nodes place other
    → IfSome node.up (λ (r : Running). MayForget (one_more node.kept rec) r.core) → IfSome other.up (λ (r : Running). MayForget other.kept r.core)
gave_may T room was gave place node other rec outs value at gives there may =
    subst (λ (n : Node). IfSome n.up (λ (r : Running). MayForget n.kept r.core))
    (one_node gave.doing.world.nodes place (after_put rec node) other (gave_at T room was gave place node rec outs value at gives) there) may

-- it isn't finished
pub gave_not : (T : Type 0) (room : Room) (was self new : Working) (place : ℕ) (node : Node) (rec : Option Record) (outs : List Msg) (e : WorldErr) (after : Doing → Doing)
    → was ≡ self → IsAt self.doing.world.nodes place node → (after was.doing).world.sent ≡ (given was.doing.world node rec outs).sent
    → ((n : Node) → IsAt was.doing.world.nodes place n → IsGiven {T = T} room was n rec outs new (Err e))
    → Tells (cause_of (ended room node rec (after self.doing))) e × IsUntold self new
gave_not T room was self new place node rec outs e after is at same gives =
    let given = gives node (subst (λ (x : Working). IsAt x.doing.world.nodes place node) (sym is) at) in
    subst (λ (x : Working). Tells (cause_of (ended room node rec (after x.doing))) e × IsUntold x new) is
    (subst (λ (k : Option Cause). Tells k e) (sym (cause_is room was.doing.world node rec outs (after was.doing) same)) given.0, given.1)

-- what is given isn't reported yet
pub given_untold : (T : Type 0) (room : Room) (was gave new : Working) (node : Node) (rec : Option Record) (outs : List Msg) (value : T) → IsGiven {T = T} room was node rec outs gave (Ok value) → IsUntold gave new → IsUntold was new
given_untold T room was gave new node rec outs value gives untold =
    record {
      entries = untold.entries ∙ ap (λ (x : Working). x.doing.world.entries) gives.1;
      lines = untold.lines ∙ ap (λ (x : Working). x.doing.world.lines) gives.1;
      begun = untold.begun ∙ ap (λ (x : Working). x.begun) gives.1;
      ended = untold.ended ∙ ap (λ (x : Working). x.doing.world.ended) gives.1;
    }

-- the node is still there
pub gave_inside : (T : Type 0) (room : Room) (was gave between : Working) (place : ℕ) (node : Node) (rec : Option Record) (outs : List Msg) (value : T)
    → IsAt was.doing.world.nodes place node → IsGiven {T = T} room was node rec outs gave (Ok value) → between ≡ gave → place < length between.doing.world.nodes
gave_inside T room was gave between place node rec outs value at gives is =
    subst (λ (x : Working). place < length x.doing.world.nodes) (sym is) (gave_at T room was gave place node rec outs value at gives).inside

pub changed_inside : (v after : NodesView) (place : ℕ) (node next : Node) → IsAt v.nodes place node → next.id ≡ node.id → after ≡ record v { nodes = with_node v.nodes next } → place < length after.nodes
changed_inside v after place node next at same is = subst (λ (x : NodesView). place < length x.nodes) (sym is) (at_again v.nodes place node next at same).inside

pub fits_front : (n : ℕ) (outs : List Msg) → AllByRecursion FitsMessage outs → AllByRecursion FitsMessage (take n outs)
fits_front zero outs all = tt
fits_front (suc n) [] all = tt
fits_front (suc n) (m ∷ ms) all = (all.0, fits_front n ms all.1)

-- it can't forget
pub forgot_not : (T S : Type 0) (room : Room) (was gave new : Working) (place : ℕ) (node : Node) (rec : Option Record) (outs : List Msg) (value : T) (cause : Option Cause) (e : WorldErr)
    → IsAt was.doing.world.nodes place node → IsGiven {T = T} room was node rec outs gave (Ok value)
    → ((n : Node) → IsAt gave.doing.world.nodes place n → IsStepped {T = S} gave (forgets_if room n.id rec (Ok gave.doing)) new (Err e))
    → Tells cause e × IsUntold was new
forgot_not T S room was gave new place node rec outs value cause e at gives forgets =
    let ended_so = forgets (after_put rec node) (gave_at T room was gave place node rec outs value at gives) in (
      tells_any cause e (subst (λ (k : Option Cause). Tells k e) (forgets_cause room node.id rec (Ok gave.doing)) ended_so.0),
      given_untold T room was gave new node rec outs value gives ended_so.1,
    )

-- what it forgot isn't reported
pub forgot_untold : (T S : Type 0) (room : Room) → RewritesAfterPuts room → (was gave between new : Working) (place : ℕ) (node : Node) (rec : Option Record) (outs : List Msg) (value : T) (done : S)
    → IsAt was.doing.world.nodes place node → IsGiven {T = T} room was node rec outs gave (Ok value)
    → ((n : Node) → IsAt gave.doing.world.nodes place n → IsStepped {T = S} gave (forgets_if room n.id rec (Ok gave.doing)) between (Ok done))
    → IsUntold between new → IsUntold was new
forgot_untold T S room waits was gave between new place node rec outs value done at gives forgets untold =
    let so = forgets (after_put rec node) (gave_at T room was gave place node rec outs value at gives) in
    given_untold T room was gave new node rec outs value gives (record {
      entries = untold.entries ∙ ap (λ (d : Doing). d.world.entries) (sym (forgot_to room waits node.id rec gave.doing between.doing so.0)) ∙ forgot_entries room node.id rec gave.doing;
      lines = untold.lines ∙ so.1.lines;
      begun = untold.begun ∙ ap (λ (x : Working). x.begun) so.1.rest;
      ended = untold.ended ∙ so.1.ended;
    })

-- all comes of it
pub whole_told : (T S : Type 0) (room : Room) → RewritesAfterPuts room → (was self gave between new : Working) (place : ℕ) (node : Node) (running : Running) (turned : Turned) (value : T) (done : S) (outs : List Msg) (id : NodeId) (told es : List Entry) (files fs : List PlacedFile) (own : List Msg)
    → was ≡ self → IsAt self.doing.world.nodes place node → node.up ≡ Some running
    → ((n : Node) → IsAt was.doing.world.nodes place n → IsGiven {T = T} room was n turned.rec outs gave (Ok value))
    → ((n : Node) → IsAt gave.doing.world.nodes place n → IsStepped {T = S} gave (forgets_if room n.id turned.rec (Ok gave.doing)) between (Ok done))
    → outs ≡ turned.outs → ((n : Node) → IsAt was.doing.world.nodes place n → id ≡ n.id) → told ≡ map (entry_of id) turned.marks → files ≡ files_marked turned.marks
    → es ≡ between.doing.world.entries ++ told → fs ≡ between.doing.world.made ++ files → own ≡ between.doing.own ++ to_itself id turned.outs
    → new ≡ record between { doing = told_of between.doing es fs own }
    → (ended_whole room self.doing node running turned ≡ Ok new.doing) × WentOn self new
whole_told T S room waits was self gave between new place node running turned value done outs id told es files fs own is at up gives forgets is_outs its is_told is_files is_es is_fs is_own is_new =
    let there = subst (λ (x : Working). IsAt x.doing.world.nodes place node) (sym is) at in
    let given_so = gives node there in
    let so = forgets (after_put turned.rec node) (gave_at T room was gave place node turned.rec outs value there given_so) in
    let left : Doing = forgot room node.id turned.rec (gave_of was node turned.rec turned.outs) in
    let gave_is : gave ≡ record was { doing = gave_of was node turned.rec turned.outs } =
    given_so.1 ∙ ap (λ (o : List Msg). record was { doing = gave_of was node turned.rec o }) is_outs in
    let all : between ≡ record was { doing = left } =
    so.1.rest ∙ ap (λ (d : Doing). record gave { doing = d }) (sym (forgot_to room waits node.id turned.rec gave.doing between.doing so.0))
    ∙ ap (λ (x : Working). record x { doing = forgot room node.id turned.rec x.doing }) gave_is in
    subst (λ (x : Working). (ended_whole room x.doing node running turned ≡ Ok new.doing) × WentOn x new) is
    (whole_done room waits was new node running turned told files up (is_told ∙ ap (λ (i : NodeId). map (entry_of i) turned.marks) (its node there)) is_files
    (ap (cause_against room was.doing.world node turned.rec) (sym is_outs) ∙ given_so.0)
    (is_new
    ∙ ap (λ (xs : List Entry). record between { doing = told_of between.doing xs fs own }) is_es
    ∙ ap (λ (ys : List PlacedFile). record between { doing = told_of between.doing (between.doing.world.entries ++ told) ys own }) is_fs
    ∙ ap (λ (ms : List Msg). record between { doing = told_of between.doing (between.doing.world.entries ++ told) (between.doing.world.made ++ files) ms }) (is_own ∙ ap (λ (i : NodeId). between.doing.own ++ to_itself i turned.outs) (its node there))
    ∙ ap (λ (x : Working). record x { doing = told_of x.doing (x.doing.world.entries ++ told) (x.doing.world.made ++ files) (x.doing.own ++ to_itself node.id turned.outs) }) all
    ∙ ap (λ (xs : List Entry). record was { doing = told_of left (xs ++ told) (left.world.made ++ files) (left.own ++ to_itself node.id turned.outs) }) (forgot_entries room node.id turned.rec (gave_of was node turned.rec turned.outs))
    ∙ ap (λ (ys : List PlacedFile). record was { doing = told_of left (was.doing.world.entries ++ told) (ys ++ files) (left.own ++ to_itself node.id turned.outs) }) (forgot_made room node.id turned.rec (gave_of was node turned.rec turned.outs))
    ∙ ap (λ (ms : List Msg). record was { doing = told_of left (was.doing.world.entries ++ told) (was.doing.world.made ++ files) (ms ++ to_itself node.id turned.outs) }) (forgot_own room node.id turned.rec (gave_of was node turned.rec turned.outs))))

-- the node stops after some of its messages
pub sending_told : (T : Type 0) (room : Room) (was self gave between new : Working) (place : ℕ) (node : Node) (running : Running) (count : ℕ) (turned : Turned) (value : T) (outs : List Msg) (id : NodeId) (marks told es : List Entry) (files fs : List PlacedFile)
    → was ≡ self → IsAt self.doing.world.nodes place node → node.up ≡ Some running
    → ((n : Node) → IsAt was.doing.world.nodes place n → IsGiven {T = T} room was n turned.rec outs gave (Ok value))
    → outs ≡ take count turned.outs → ((n : Node) → IsAt was.doing.world.nodes place n → id ≡ n.id)
    → marks ≡ map (entry_of id) turned.marks → told ≡ marks ++ entry.Down id running.clock halt.Cut ∷ [] → files ≡ files_marked turned.marks → between ≡ gave
    → es ≡ between.doing.world.entries ++ told → fs ≡ between.doing.world.made ++ files
    → Halts (record between { doing = record between.doing { world = record between.doing.world { made = fs; entries = es } } }) place new
    → (ended_sending room self.doing node running count turned ≡ Ok new.doing) × WentOn self new
sending_told T room was self gave between new place node running count turned value outs id marks told es files fs is at up gives is_outs its is_marks is_told is_files is_gave is_es is_fs halts =
    let there = subst (λ (x : Working). IsAt x.doing.world.nodes place node) (sym is) at in
    let given_so = gives node there in
    let fewer : List Msg = take count turned.outs in
    let next : Node = after_put turned.rec node in
    let all : between ≡ record was { doing = gave_of was node turned.rec fewer } =
    is_gave ∙ given_so.1 ∙ ap (λ (o : List Msg). record was { doing = gave_of was node turned.rec o }) is_outs in
    let stands_there : IsAt between.doing.world.nodes place next = subst (λ (x : Working). IsAt x.doing.world.nodes place next) (sym all) (at_again was.doing.world.nodes place node next there refl) in
    subst (λ (x : Working). (ended_sending room x.doing node running count turned ≡ Ok new.doing) × WentOn x new) is
    (sending_done room was new place node running count turned told files there up
    (is_told ∙ ap (λ (xs : List Entry). xs ++ entry.Down id running.clock halt.Cut ∷ []) is_marks
    ∙ ap (λ (i : NodeId). map (entry_of i) turned.marks ++ entry.Down i running.clock halt.Cut ∷ []) (its node there)) is_files
    (ap (cause_against room was.doing.world node turned.rec) (sym is_outs) ∙ given_so.0)
    (halts next stands_there
    ∙ ap (λ (xs : List Entry). record between { doing = record between.doing { world = record between.doing.world { nodes = with_node between.doing.world.nodes (record next { up = None }); made = fs; entries = xs }; own = [] } }) is_es
    ∙ ap (λ (ys : List PlacedFile). record between { doing = record between.doing { world = record between.doing.world { nodes = with_node between.doing.world.nodes (record next { up = None }); made = ys; entries = between.doing.world.entries ++ told }; own = [] } }) is_fs
    ∙ ap (λ (x : Working). record x { doing = record x.doing { world = record x.doing.world { nodes = with_node x.doing.world.nodes (record next { up = None }); made = x.doing.world.made ++ files; entries = x.doing.world.entries ++ told }; own = [] } }) all))

-- by the plans and by what the step gives
pub ending_is : (room : Room) (d : Doing) (node : Node) (running : Running) (turned : Turned)
    → end_of_step room d node running (record { state = running.core; turned = turned })
    ≡ ended room node turned.rec (appends d node running running.crash turned.rec turned)
ending_is room d node running turned = refl

-- a world in which there is nothing but what steps change
pub nothing_around : Around
nothing_around = record { files = []; lines = []; left = 0; begun = []; ended = false }
