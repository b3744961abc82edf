-- a node starts
use Rattle.std.proofs.Common.{◌≡◌, ℕ, Bool, true, false, cond, Option, Some, None, Result, Ok, Err, List, [], ◌∷◌, ◌++◌, refl, ap, sym, ◌∙◌, subst, append_assoc}
use Rattle.std.specs.Prelude.{nat_lt, filter, map}
use Rattle.xt_base.specs.declared.ids.NodeId.{NodeId}
use Rattle.xt_base.specs.declared.ids.Boot.{Boot}
use Rattle.xt_messages.specs.declared.record.Record.{Record}
use Rattle.xt_messages.specs.declared.record.Record.TheVariants as kept
use Rattle.xt_messages.specs.declared.record.Folded.{Folded}
use Rattle.xt_messages.specs.declared.status.Limited.TheVariants as limited
use Rattle.xt_base.specs.declared.TheConstants.{COUNTS}
use Rattle.xt_protocol.specs.Folds.{fold_of}
use Rattle.time_line.specs.declared.line.Line.TheVariants as line
use Rattle.time_line.specs.declared.entry.Entry.{Entry}
use Rattle.time_line.specs.declared.entry.Entry.TheVariants as entry
use Rattle.world_spec.specs.declared.PlacedFile.{PlacedFile}
use Rattle.world_spec.specs.World.{Node, Deed, loads, puts, Core, node_in, with_node}
use Rattle.world_spec.specs.NodeSteps.{Room, Overflow, Cause, came_to, has_no_room, Doing}
use Rattle.world_spec.specs.Lines.{does, next_boot, core_starting, file_entry, files_left, is_untold, starts_as, starts, first_step}
use Rattle.world_spec.specs.Lines as lines
use Rattle.world_hull.specs.Answers.{IsFullOrMemory, IsFullExactly}
use Rattle.world_hull.specs.Appends.{kept_by}
use Rattle.world_hull.specs.declared.hull.Kept.{Kept}
use Rattle.world_hull.specs.declared.errors.WorldErr.{WorldErr}
use Rattle.world_hull.specs.declared.errors.WorldErr.TheVariants as error
use Rattle.world_host.specs.Cores.{SayTheSame, made_at}
use Rattle.world_host.proofs.Starting.{starts_alike, made_starting}
use Rattle.world_nodes.specs.Nodes.{NodesView, IsAt, IsPlace, Changes, after_append, after_load}
use Rattle.world_step.specs.Steps.{Tells, cause_of}
use Rattle.world_core.specs.Boots.{boot_behind}
use Rattle.world_step.proofs.Endings.{twice, at_again}
use Rattle.world_core.proofs.FirstSteps.{found_at}

pub start_nowhere : (room : Room) (d : Doing) (id : NodeId) (clock : ℕ) → node_in d.world.nodes id.0 ≡ None → first_step room d (line.Start id clock) ≡ Ok d
unfolding first_step
start_nowhere room d id clock none = ap (starts room d clock) none

-- the next boot, as the code has it
pub behind_is : (folded said : Folded) (found : Option Boot) (boot : Option Boot) → folded ≡ said → found ≡ boot_behind folded.boot → found ≡ boot → boot_behind said.boot ≡ boot
behind_is folded said found boot is so got = ap (λ (f : Folded). boot_behind f.boot) (sym is) ∙ sym so ∙ got

module _ (told : Room) (d : Doing) (id : NodeId) (clock place : ℕ) (is : IsPlace d.world.nodes id (Some place)) where
  abbrev by_room : Boot → Option Overflow → Result Doing Cause
  by_room boot o = elim o [ Some overflow ↦ Err (has_no_room overflow) | None ↦ does d (starts_as d.world is.0 boot clock) ]

  abbrev by_boot : Bool → Result Doing Cause
  by_boot b = cond b (by_room (next_boot is.0.kept) (told.overflow (is.0.past ++ loads ∷ []) (kept.Boot (next_boot is.0.kept)))) (Err (came_to limited.Boots))

  here : first_step told d (line.Start id clock) ≡ by_boot (nat_lt (next_boot is.0.kept).0 COUNTS)
  unfolding first_step
  here = ap (starts told d clock) (found_at d.world.nodes id place is.0 is.1 is.2)

  -- no start is left
  pub start_passed : boot_behind (fold_of is.0.kept).boot ≡ None → cause_of (first_step told d (line.Start id clock)) ≡ Some (came_to limited.Boots)
  start_passed none = ap cause_of here ∙ at (nat_lt (next_boot is.0.kept).0 COUNTS) none
    where
      at : (b : Bool) → cond b (Some (next_boot is.0.kept)) None ≡ None → cause_of (by_boot b) ≡ Some (came_to limited.Boots)
      at true e = absurd (cc)
      at false e = refl

  -- this is the next one
  starts_is : (boot : Boot) → boot_behind (fold_of is.0.kept).boot ≡ Some boot → first_step told d (line.Start id clock) ≡ by_room boot (told.overflow (is.0.past ++ loads ∷ []) (kept.Boot boot))
  starts_is boot some = here ∙ at (nat_lt (next_boot is.0.kept).0 COUNTS) some
    where
      the_same : (a b : Boot) → Some a ≡ Some b → a ≡ b
      the_same a b e = cc

      at : (b : Bool) → cond b (Some (next_boot is.0.kept)) None ≡ Some boot → by_boot b ≡ by_room boot (told.overflow (is.0.past ++ loads ∷ []) (kept.Boot boot))
      at true e = ap (λ (x : Boot). by_room x (told.overflow (is.0.past ++ loads ∷ []) (kept.Boot x))) (the_same (next_boot is.0.kept) boot e)
      at false e = absurd (cc)

  -- its record has no room
  pub start_full : (T : Type 0) (boot : Boot) (e : WorldErr) → boot_behind (fold_of is.0.kept).boot ≡ Some boot → IsFullOrMemory e → IsFullExactly {T = T} (told.overflow (is.0.past ++ loads ∷ []) (kept.Boot boot)) (Err e)
      → Tells (cause_of (first_step told d (line.Start id clock))) e
  start_full T boot (error.Illegal rule) some may full = may
  start_full T boot (error.Limit what limit) some may full = absurd (may)
  start_full T boot (error.Full need limit) some may full =
      ap cause_of (starts_is boot some) ∙ ap (λ (o : Option Overflow). cause_of (by_room boot o)) full
  start_full T boot error.OutOfMemory some may full = tt

  -- the node as it started from its loaded records, before its start is put
  abbrev pub started_from : Boot → Node
  started_from boot = record (after_load is.0) { up = Some (lines.runs boot clock (core_starting d.world.times is.0 boot clock is.0.role)) }

  abbrev pub started_in : Boot → NodesView
  started_in boot = record { times = d.world.times; nodes = with_node d.world.nodes (started_from boot) }

  -- where its records were loaded
  pub loaded_at : (loaded : NodesView) → Changes (record { times = d.world.times; nodes = d.world.nodes }) place after_load loaded → IsAt loaded.nodes place (after_load is.0)
  loaded_at loaded changes =
      subst (λ (v : NodesView). IsAt v.nodes place (after_load is.0)) (sym (changes is.0 is.1)) (at_again d.world.nodes place is.0 (after_load is.0) is.1 refl)

  -- its records were loaded, and it started
  pub started_is : (boot : Boot) (found : List Record) (loaded between : NodesView) → Changes (record { times = d.world.times; nodes = d.world.nodes }) place after_load loaded
      → ((node : Node) → IsAt loaded.nodes place node → SayTheSame found node.kept
      → between ≡ record loaded { nodes = with_node loaded.nodes (record node { up = Some (lines.runs boot clock (core_starting loaded.times node boot clock node.role)) }) })
      → SayTheSame found is.0.kept → between ≡ started_in boot
  started_is boot found loaded between changes started said =
      started (after_load is.0) (loaded_at loaded changes) said
      ∙ ap (λ (v : NodesView). record v { nodes = with_node v.nodes (record (after_load is.0) { up = Some (lines.runs boot clock (core_starting v.times (after_load is.0) boot clock is.0.role)) }) }) (changes is.0 is.1)
      ∙ ap (λ (core : Core). record { times = d.world.times; nodes = with_node (with_node d.world.nodes (after_load is.0)) (record (after_load is.0) { up = Some (lines.runs boot clock core) }) })
      (starts_alike d.world.times (after_load is.0) is.0 boot clock is.0.role refl (record { rows = refl; requests = refl }))
      ∙ ap (λ (ns : List Node). record { times = d.world.times; nodes = ns }) (twice d.world.nodes (after_load is.0) (started_from boot) refl)

  -- the node is there, as it started
  pub started_at : (boot : Boot) (between : NodesView) → between ≡ started_in boot → IsAt between.nodes place (started_from boot)
  started_at boot between was = subst (λ (v : NodesView). IsAt v.nodes place (started_from boot)) (sym was) (at_again d.world.nodes place is.0 (started_from boot) is.1 refl)

  -- the files that it has made and that the trace doesn't report
  pub left_at : (boot : Boot) (made left : List PlacedFile) → left ≡ filter (is_untold made) (made_at (started_from boot).up) → left ≡ files_left made is.0
  left_at boot made left so = so ∙ ap (filter (is_untold made)) (made_starting d.world.times is.0 boot clock is.0.role)

  -- it has started
  pub start_done : (boot : Boot) (between after : NodesView) (end : Kept) (left made : List PlacedFile) (es : List Entry) → boot_behind (fold_of is.0.kept).boot ≡ Some boot
      → told.overflow (is.0.past ++ loads ∷ []) (kept.Boot boot) ≡ None → between ≡ started_in boot
      → end ≡ kept_by None → Changes between place (after_append (kept.Boot boot) end) after
      → left ≡ files_left d.world.made is.0 → made ≡ d.world.made ++ left
      → es ≡ d.world.entries ++ entry.Up id boot clock ∷ map file_entry left
      → first_step told d (line.Start id clock) ≡ Ok (record d { world = record d.world { times = after.times; nodes = after.nodes; made = made; entries = es } })
  start_done boot between after end left made es some fits was is_end changes is_left is_made said =
      let there : Node = started_from boot in
      let next : Node = record there { kept = is.0.kept ++ kept.Boot boot ∷ []; past = is.0.past ++ loads ∷ puts (kept.Boot boot) ∷ [] } in
      let its : after ≡ record { times = d.world.times; nodes = with_node d.world.nodes next } =
      changes there (started_at boot between was)
      ∙ ap (λ (k : Kept). record between { nodes = with_node between.nodes (after_append (kept.Boot boot) k there) }) is_end
      ∙ ap (λ (ds : List Deed). record between { nodes = with_node between.nodes (record next { past = ds }) }) (append_assoc is.0.past (loads ∷ []) (puts (kept.Boot boot) ∷ []))
      ∙ ap (λ (v : NodesView). record v { nodes = with_node v.nodes next }) was
      ∙ ap (λ (ns : List Node). record { times = d.world.times; nodes = ns }) (twice d.world.nodes there next refl) in
      starts_is boot some
      ∙ ap (λ (o : Option Overflow). by_room boot o) fits
      ∙ ap (λ (fs : List PlacedFile). Ok (record d { world = record d.world { nodes = with_node d.world.nodes next; made = d.world.made ++ fs; entries = d.world.entries ++ entry.Up is.0.id boot clock ∷ map file_entry fs } })) (sym is_left)
      ∙ ap (λ (i : NodeId). Ok (record d { world = record d.world { nodes = with_node d.world.nodes next; made = d.world.made ++ left; entries = d.world.entries ++ entry.Up i boot clock ∷ map file_entry left } })) is.2
      ∙ ap (λ (v : NodesView). Ok (record d { world = record d.world { times = v.times; nodes = v.nodes; made = d.world.made ++ left; entries = d.world.entries ++ entry.Up id boot clock ∷ map file_entry left } })) (sym its)
      ∙ ap (λ (fs : List PlacedFile). Ok (record d { world = record d.world { times = after.times; nodes = after.nodes; made = fs; entries = d.world.entries ++ entry.Up id boot clock ∷ map file_entry left } })) (sym is_made)
      ∙ ap (λ (xs : List Entry). Ok (record d { world = record d.world { times = after.times; nodes = after.nodes; made = made; entries = xs } })) (sym said)
