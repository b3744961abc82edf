use Rattle.std.proofs.Common.{take, ◌++◌, ◌∷◌, refl, ap, sym, ◌∙◌, subst, List, map}
use Rattle.std.proofs.lemmas.Result.{err_from_is_err_and}
use Rattle.xt_messages.specs.declared.status.Limited.TheVariants as limited
use Rattle.world_hull.specs.declared.hull.Kept.{Kept}
use Rattle.time_line.specs.declared.line.Line.TheVariants as line
use Rattle.world_spec.specs.declared.PlacedFile.{PlacedFile}
use Rattle.world_spec.specs.World.{node_in}
use Rattle.world_spec.specs.Lines.{file_entry, files_left, first_step}
use Rattle.time_line.specs.declared.entry.Entry.{Entry}
use Rattle.time_line.specs.declared.entry.Entry.TheVariants as entry
use Rattle.world_spec.specs.NodeSteps.{Doing}
use Rattle.world_step.specs.Steps.{Working, Tells, cause_of}
use Rattle.world_core.proofs.FirstSteps.{from_view, stayed, limit_said, found_at}
use Rattle.world_core.proofs.Starting.{start_nowhere, behind_is, start_passed, start_full, started_is, started_at, left_at, start_done}
use Rattle.world_core.proofs.state.State.start.Goals as goal

pub returns-in_default : goal.returns-in_default
returns-in_default g c = stayed _ _ (λ (d : Doing). first_step g.H.Hull.room d (line.Start c.args.node c.args.clock)) c.self.view_is (start_nowhere g.H.Hull.room _ c.args.node c.args.clock c.in_default.ensures)

pub returns-in_default-next_boot : goal.returns-in_default-next_boot
returns-in_default-next_boot g c =
    let said = c.in_ok-loaded.ensures.found c.in-Some.ensures.0 c.in-Some.ensures.1 in (
      limit_said _ _ (λ (d : Doing). first_step g.H.Hull.room d (line.Start c.args.node c.args.clock)) limited.Boots c.limit.result c.self.view_is c.limit.ensures
          (start_passed g.H.Hull.room _ c.args.node c.args.clock c.in-Some.place c.in-Some.ensures
          (behind_is c.in_ok-loaded.loaded.folded _ c.next_boot.result _ (c.in_ok-loaded.ensures.folded ∙ said.rows) c.next_boot.ensures c.in_default-next_boot.is)),
      record {
        entries = ap (λ (x : Working). x.doing.world.entries) c.self.view_is;
        lines = ap (λ (x : Working). x.doing.world.lines) c.self.view_is;
        begun = ap (λ (x : Working). x.begun) c.self.view_is;
        ended = ap (λ (x : Working). x.doing.world.ended) c.self.view_is;
      },
    )

pub start-requires-clause-loaded : goal.start-requires-clause-loaded
start-requires-clause-loaded g c =
    let fits = c.requires.kept c.in-Some.ensures.0
    (sym (ap (λ (x : Working). node_in x.doing.world.nodes c.args.node.0) c.self.view_is) ∙ found_at c.self.inside.stepper.nodes.nodes c.args.node c.in-Some.place c.in-Some.ensures.0 c.in-Some.ensures.1 c.in-Some.ensures.2) in (
      record {
        kept = c.in-Some.ensures.0.kept;
        may = (fits.limits, fits.places);
        same = c.in_ok-loaded.ensures.found c.in-Some.ensures.0 c.in-Some.ensures.1;
      },
      c.in_ok-loaded.ensures.folded,
    )

pub files_left-requires : goal.files_left-requires
files_left-requires g c =
    let room = g.H.Hull.room in
    let d : Doing = record {
      world = record {
        times = c.self.inside.stepper.nodes.times;
        nodes = c.self.inside.stepper.nodes.nodes;
        files = c.self.inside.files;
        made = c.self.inside.stepper.made.items;
        sent = c.self.inside.stepper.sent;
        entries = c.self.inside.stepper.entries.items;
        lines = take c.self.inside.shown c.self.inside.lines.items;
        ended = c.self.inside.ended;
      };
      own = c.self.inside.stepper.own;
      left = c.self.inside.left;
    } in
    let is = c.in-Some.ensures in
    let boot = c.in-Some-next_boot.boot in
    let said = c.in_ok-loaded.ensures.found is.0 is.1 in
    let started = started_is room d c.args.node c.args.clock c.in-Some.place is boot c.in_ok-loaded.loaded.records.items c.load.new.self c.start.new.self c.in_ok-loaded.ensures.loaded c.in_ok-start.ensures said in
    (started_at room d c.args.node c.args.clock c.in-Some.place is boot c.start.new.self started).inside

pub keep_boot-requires-clause-inside : goal.keep_boot-requires-clause-inside
keep_boot-requires-clause-inside g c =
    let room = g.H.Hull.room in
    let d : Doing = record {
      world = record {
        times = c.self.inside.stepper.nodes.times;
        nodes = c.self.inside.stepper.nodes.nodes;
        files = c.self.inside.files;
        made = c.self.inside.stepper.made.items;
        sent = c.self.inside.stepper.sent;
        entries = c.self.inside.stepper.entries.items;
        lines = take c.self.inside.shown c.self.inside.lines.items;
        ended = c.self.inside.ended;
      };
      own = c.self.inside.stepper.own;
      left = c.self.inside.left;
    } in
    let is = c.in-Some.ensures in
    let boot = c.in-Some-next_boot.boot in
    let said = c.in_ok-loaded.ensures.found is.0 is.1 in
    let started = started_is room d c.args.node c.args.clock c.in-Some.place is boot c.in_ok-loaded.loaded.records.items c.load.new.self c.start.new.self c.in_ok-loaded.ensures.loaded c.in_ok-start.ensures said in
    (started_at room d c.args.node c.args.clock c.in-Some.place is boot c.start.new.self started).inside

pub returns-in_err-keep_boot : goal.returns-in_err-keep_boot
returns-in_err-keep_boot g c =
    let p = err_from_is_err_and c.from_residual-in_err-keep_boot.result c.from_residual-in_err-keep_boot.ensures.1 in
    let room = g.H.Hull.room in
    let d : Doing = record {
      world = record {
        times = c.self.inside.stepper.nodes.times;
        nodes = c.self.inside.stepper.nodes.nodes;
        files = c.self.inside.files;
        made = c.self.inside.stepper.made.items;
        sent = c.self.inside.stepper.sent;
        entries = c.self.inside.stepper.entries.items;
        lines = take c.self.inside.shown c.self.inside.lines.items;
        ended = c.self.inside.ended;
      };
      own = c.self.inside.stepper.own;
      left = c.self.inside.left;
    } in
    let is = c.in-Some.ensures in
    let boot = c.in-Some-next_boot.boot in
    let said = c.in_ok-loaded.ensures.found is.0 is.1 in
    let started = started_is room d c.args.node c.args.clock c.in-Some.place is boot c.in_ok-loaded.loaded.records.items c.load.new.self c.start.new.self c.in_ok-loaded.ensures.loaded c.in_ok-start.ensures said in
    rw (p.1, p.2) (
      subst (λ (x : Working). Tells (cause_of (first_step room x.doing (line.Start c.args.node c.args.clock))) c.in_err-keep_boot.field-0.0) c.self.view_is
          (start_full room d c.args.node c.args.clock c.in-Some.place is Kept boot c.in_err-keep_boot.field-0.0 (behind_is c.in_ok-loaded.loaded.folded _ c.next_boot.result _ (c.in_ok-loaded.ensures.folded ∙ said.rows) c.next_boot.ensures c.in-Some-next_boot.is) c.in_err-keep_boot.ensures.error
          (c.in_err-keep_boot.ensures.room _ (started_at room d c.args.node c.args.clock c.in-Some.place is boot c.start.new.self started))),
      record {
        entries = c.reserve.ensures.items ∙ ap (λ (x : Working). x.doing.world.entries) c.self.view_is;
        lines = ap (λ (x : Working). x.doing.world.lines) c.self.view_is;
        begun = ap (λ (x : Working). x.begun) c.self.view_is;
        ended = ap (λ (x : Working). x.doing.world.ended) c.self.view_is;
      },
    )

pub returns : goal.returns
returns g c =
    let room = g.H.Hull.room in
    let d : Doing = record {
      world = record {
        times = c.self.inside.stepper.nodes.times;
        nodes = c.self.inside.stepper.nodes.nodes;
        files = c.self.inside.files;
        made = c.self.inside.stepper.made.items;
        sent = c.self.inside.stepper.sent;
        entries = c.self.inside.stepper.entries.items;
        lines = take c.self.inside.shown c.self.inside.lines.items;
        ended = c.self.inside.ended;
      };
      own = c.self.inside.stepper.own;
      left = c.self.inside.left;
    } in
    let is = c.in-Some.ensures in
    let boot = c.in-Some-next_boot.boot in
    let said = c.in_ok-loaded.ensures.found is.0 is.1 in
    let started = started_is room d c.args.node c.args.clock c.in-Some.place is boot c.in_ok-loaded.loaded.records.items c.load.new.self c.start.new.self c.in_ok-loaded.ensures.loaded c.in_ok-start.ensures said in
    let told : List PlacedFile → List Entry = λ files. entry.Up c.args.node boot c.args.clock ∷ map file_entry files in
    from_view _ _ _ (λ (d : Doing). first_step g.H.Hull.room d (line.Start c.args.node c.args.clock)) c.self.view_is (
      start_done room d c.args.node c.args.clock c.in-Some.place is boot c.start.new.self c.keep_boot.new.nodes c.in_ok-keep_boot.field-0 c.in_ok-left.left.items c.tell_all.new.made.items c.tell_all.new.entries.items (behind_is c.in_ok-loaded.loaded.folded _ c.next_boot.result _ (c.in_ok-loaded.ensures.folded ∙ said.rows) c.next_boot.ensures c.in-Some-next_boot.is)
          (c.in_ok-keep_boot.ensures.room _ (started_at room d c.args.node c.args.clock c.in-Some.place is boot c.start.new.self started)) started
          c.in_ok-keep_boot.ensures.done.0 c.in_ok-keep_boot.ensures.done.1
          (left_at room d c.args.node c.args.clock c.in-Some.place is boot c.as_slice-made.result.now c.in_ok-left.left.items
          (c.in_ok-left.ensures _ (started_at room d c.args.node c.args.clock c.in-Some.place is boot c.start.new.self started))
          ∙ ap (λ (ms : List PlacedFile). files_left ms is.0) c.as_slice-made.ensures.value)
          (c.in_ok-tell_all.ensures.made ∙ ap (λ (ms : List PlacedFile). ms ++ c.in_ok-left.left.items) c.reserve-2.ensures.items)
          (c.in_ok-tell_all.ensures.entries ∙ ap (λ (es : List Entry). es ++ c.in_ok-told.told.items) c.reserve.ensures.items
          ∙ ap (λ (es : List Entry). c.self.inside.stepper.entries.items ++ es) (c.in_ok-told.ensures ∙ ap told c.as_slice.ensures.value)),
      record { rest = refl; lines = refl; ended = refl },
    )
