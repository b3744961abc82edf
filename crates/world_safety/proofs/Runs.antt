-- every run: each of its files is a run of its own, and has one order of writes
use Rattle.std.proofs.Common.{◌≡◌, ◌≤◌, ◌<◌, ◌*◌, ℕ, inl, inr, List, [], ◌∷◌, ◌++◌, length, map, refl, arith, ap, sym, ◌∙◌, subst, Option, Some, None, Bool, true, false}
use Rattle.std.specs.Prelude.{◌==◌, ◌&&◌, ◌||◌, not, nat_le, filter, count_by}
use Rattle.std.proofs.lemmas.Bool.Decides.{nat_tests}
use Rattle.std.proofs.lemmas.List.{append-nil}
use Rattle.std.proofs.lemmas.List.Sums.{length-filter}
use Rattle.xt_messages.specs.Limits.{FitsLocation}
use Rattle.xt_base.specs.MemberList.{has_node, are_distinct}
use Rattle.xt_base.specs.declared.ids.NodeId.{NodeId}
use Rattle.xt_base.specs.declared.ids.FileId.{FileId}
use Rattle.xt_messages.specs.declared.file.Kind.{Kind}
use Rattle.xt_messages.specs.declared.file.Kind.TheVariants as kind
use Rattle.xt_messages.specs.declared.file.Location.{Location}
use Rattle.xt_messages.specs.declared.file.Op.{Op}
use Rattle.replica_safety.specs.Lists.{Has, AreDistinct}
use Rattle.replica_safety.specs.Rules.{first_start}
use Rattle.replica_runs.specs.Made.{IsMade}
use Rattle.replica_runs.specs.Marks.{Begins}
use Rattle.file_runs.specs.FileRuns.{first_world, after_all, BeginsFile, IsOnOneOrder}
use Rattle.file_runs.proofs.Runs.{on_one_order}
use Rattle.file_runs.proofs.Lists.{length_mapped}
use Rattle.time_line.specs.declared.entry.Entry.{Entry}
use Rattle.time_line.specs.declared.line.Line.{Line}
use Rattle.time_line.specs.Bounds.{AreLines}
use Rattle.world_spec.specs.Rules.{refusal}
use Rattle.time_line.specs.TimeLine.{location_in, is_replicated_at, stripe_at}
use Rattle.world_spec.specs.declared.PlacedFile.{PlacedFile}
use Rattle.world_spec.specs.World.{World, file_in, known}
use Rattle.world_spec.specs.Lines.{Next, finished, opens, goes_on, ends, begins, steps, so_far}
use Rattle.world_spec.specs.NodeSteps.{Room}
use Rattle.world_spec.specs.Runs.{run_of, IsPartOf, IsRunInto}
use Rattle.world_runs.proofs.Tables.{file_in-id}
use Rattle.world_runs.proofs.Walk.{NextIs, run_kept, steps_into, so_far_kept}
use Rattle.world_safety.specs.Asks.{operations_of, KnownList}
use Rattle.world_safety.specs.Runs.{IsRunOfFile, FilesAreRuns, NextAreRuns, place_of, ArePlaced, HasOneOrder, FilesAreSafe}
use Rattle.world_limits.proofs.Worlds as limits
use Rattle.world_safety.proofs.Asks.{operations_are}
use Rattle.world_safety.proofs.Placed.{are_placed}
use Rattle.world_safety.proofs.Tellings.{telling_is_safe}
use Rattle.world_safety.proofs.Walk.{Stage, stage_kept}

-- ---- a file begins

all_count : {A : Type 0} (xs : List A) → filter (λ x. true) xs ≡ xs
all_count [] = refl
all_count (x ∷ xs) = ap (λ ys. x ∷ ys) (all_count xs)

more_than_half : (members : List ℕ) → 1 ≤ length members → length members < 2 * count_by (λ r. true) members
more_than_half members some = (let all : length members ≡ count_by (λ (r : ℕ). true) members = sym (ap length (all_count members)) ∙ length-filter (λ (r : ℕ). true) members in omega (arith, all, some))

first_begins : (stripe : ℕ) (ops : ℕ × ℕ → Op) (members : List ℕ) → 1 ≤ length members → Begins (IsMade stripe ops) members first_start
first_begins stripe ops members some =
    record {
      is = record {
        at_most_one_open = omega arith;
        different = tt;
        kept = record { those = λ r. true; more_than_half = more_than_half members some; each = λ r h. (omega arith, refl) };
      };
      promised = λ r. omega arith;
      older = λ u h. absurd h;
      own = omega arith;
      apart = λ u v h k e. absurd h;
      made = tt;
      old_older = λ b h. absurd h;
      old_right = λ b u h k e. absurd h;
    }

first_file : (stripe : ℕ) (members : List ℕ) (file : FileId) → BeginsFile stripe members first_start (first_world file)
first_file stripe members file =
    record {
      stopped = λ r. refl;
      head = λ r. refl;
      bodies = λ r. record { has = λ o v h. absurd cc; holds = λ o v low h. absurd h.1 };
      names = λ r v h. absurd h;
      list = λ r. tt;
      free = refl;
      silent = λ x h. absurd h;
      untold = refl;
    }

-- ---- members

either_false : (a b : Bool) → (a || b) ≡ false → (a ≡ false) × (b ≡ false)
either_false true b is = absurd (cc)
either_false false b is = (refl, is)

both_true : (a b : Bool) → (a && b) ≡ true → (a ≡ true) × (b ≡ true)
both_true true b is = (refl, is)
both_true false b is = absurd (cc)

not_true : (a : Bool) → not a ≡ true → a ≡ false
not_true true is = absurd (cc)
not_true false is = refl

not_itself : (a b : ℕ) → (b == a) ≡ false → a ≡ b → ⊥
not_itself a b is same = (let itself : (b == a) ≡ true = grind (arith, nat_tests) in cc (itself, is))

absent : (nodes : List NodeId) (n : ℕ) → has_node nodes n ≡ false → Has n (map (λ (m : NodeId). m.0) nodes) → ⊥
absent [] n is h = h
absent (x ∷ xs) n is (inl e) = not_itself n x.0 (either_false (x.0 == n) (has_node xs n) is).0 e
absent (x ∷ xs) n is (inr h) = absent xs n (either_false (x.0 == n) (has_node xs n) is).1 h

distinct_members : (nodes : List NodeId) → are_distinct nodes ≡ true → AreDistinct (map (λ (m : NodeId). m.0) nodes)
distinct_members [] is = tt
distinct_members (x ∷ xs) is =
    let parts = both_true (not (has_node xs x.0)) (are_distinct xs) is in
    (absent xs x.0 (not_true (has_node xs x.0) parts.0), distinct_members xs parts.1)

at_least : (a b : ℕ) → nat_le a b ≡ true → a ≤ b
at_least a b is = grind (arith, nat_tests)

-- ---- a replicated file

-- it has its place
placed_at : (o : Option Location) → is_replicated_at o ≡ true → (location : Location) × (o ≡ Some location) × (location.kind ≡ kind.Replicated)
placed_at None is = absurd (cc)
placed_at (Some location) is = (location, refl, at location.kind is)
  where
    at : (k : Kind) → elim k [ kind.Replicated ↦ true | kind.Striped ↦ false ] ≡ true → k ≡ kind.Replicated
    at kind.Replicated is = refl
    at kind.Striped is = absurd (cc)

some_file : (a b : PlacedFile) → Some a ≡ Some b → a ≡ b
some_file a b is = cc

-- a place that is reported is that of a file
placed_file : (o : Option PlacedFile) (location : Location) → place_of o ≡ Some location → (f : PlacedFile) × (o ≡ Some f) × (location ≡ f.location)
placed_file None location is = absurd (cc)
placed_file (Some f) location is = (f, refl, (let same : f.location ≡ location = cc in sym same))

-- what the trace of a stage reports of it
pub was_told : (w : World) → ArePlaced w → Stage w [] → FilesAreSafe w.entries
was_told w placed stage number is =
    let place = placed_at (location_in number w.entries) is in
    let found = placed_file (file_in (known w) number) place.0 (sym (placed.told number) ∙ place.1) in
    subst (λ (o : Option Location). HasOneOrder (stripe_at o) (operations_of number w.entries) number w.entries) (sym (place.1 ∙ ap (λ (l : Location). Some l) found.2))
    (subst (λ (n : ℕ). HasOneOrder found.0.location.stripe (operations_of n w.entries) n w.entries) (file_in-id (known w) number found.0 found.1)
    (ordered found.0 (placed.fit number found.0 found.1) (ap (file_in (known w)) (file_in-id (known w) number found.0 found.1) ∙ found.1) (ap (λ (l : Location). l.kind) (sym found.2) ∙ place.2)))
  where
    ordered : (f : PlacedFile) → FitsLocation f.location → file_in (known w) f.file.number ≡ Some f → f.location.kind ≡ kind.Replicated
        → HasOneOrder f.location.stripe (operations_of f.file.number w.entries) f.file.number w.entries
    ordered f bound found replicated =
        record {
          told = fits.entries;
          tells = run.is.told fits.entries fits.told;
          fit = fits.fit;
          changes = fits.changes;
          issued = fits.issued;
          safe = telling_is_safe stripe ops f.file.number members first_start (first_world f.file) run.events w.entries some distinct begun refl begins_so run.may run.is.told;
        }
      where
        stripe : ℕ
        stripe = f.location.stripe

        ops : ℕ × ℕ → Op
        ops = operations_of f.file.number w.entries

        members : List ℕ
        members = map (λ (m : NodeId). m.0) f.location.members

        tests : ((nat_le 1 (length f.location.members) && nat_le (length f.location.members) 9) ≡ true) × (are_distinct f.location.members ≡ true)
        tests = both_true (nat_le 1 (length f.location.members) && nat_le (length f.location.members) 9) (are_distinct f.location.members) bound.nodes.different

        some : 1 ≤ stripe
        some = (let least = bound.size.least in omega (arith, least))

        distinct : AreDistinct members
        distinct = distinct_members f.location.members tests.1

        several : 1 ≤ length members
        several = subst (λ (n : ℕ). 1 ≤ n) (sym (length_mapped (λ (m : NodeId). m.0) f.location.members)) (at_least 1 (length f.location.members) (both_true (nat_le 1 (length f.location.members)) (nat_le (length f.location.members) 9) tests.0).0)

        begun : Begins (IsMade stripe ops) members first_start
        begun = first_begins stripe ops members several

        begins_so : BeginsFile stripe members first_start (first_world f.file)
        begins_so = first_file stripe members f.file

        listed : KnownList (known w) f.file stripe members
        listed other there =
            let same = some_file f other (sym found ∙ there) in (
              ap (λ (k : PlacedFile). k.file) (sym same),
              (
                ap (λ (k : PlacedFile). k.location.stripe) (sym same),
                ap (λ (k : PlacedFile). map (λ (m : NodeId). m.0) k.location.members) (sym same),
                ap (λ (k : PlacedFile). k.location.kind) (sym same) ∙ replicated,
              ),
            )

        run : IsRunOfFile stripe ops members f.file w []
        run = stage.runs f.file stripe ops members listed (operations_are f.file.number w.entries w.entries [] (sym (append-nil w.entries)))

        fits : IsOnOneOrder stripe ops first_start (after_all (first_world f.file) run.events)
        fits = on_one_order stripe some ops members distinct first_start (first_world f.file) run.events begun begins_so run.may

-- ---- every run

run_stage : (room : Room) (lines : List Line) → AreLines lines → Stage (run_of room lines) []
run_stage room lines are = run_kept Stage stage_kept room lines are

next_runs : (next : Next) → NextIs Stage stage_kept next → NextAreRuns next
next_runs (finished w) p = p.runs
next_runs (opens l w) p = p.0.runs
next_runs (goes_on d) p = p.runs
next_runs (ends cause w) p = p.runs

part_stage : (room : Room) (lines : List Line) (l : Line) (k : ℕ) → AreLines (lines ++ l ∷ []) → refusal (run_of room lines) l ≡ None → Stage (so_far (steps k room (begins (run_of room lines) l))) []
part_stage room lines l k are allowed = so_far_kept Stage stage_kept (steps k room (begins (run_of room lines) l)) (steps_into Stage stage_kept room lines l k are allowed)

pub runs_are_runs : (room : Room) (lines : List Line) → AreLines lines → FilesAreRuns (run_of room lines) []
runs_are_runs room lines are = (run_stage room lines are).runs

pub steps_are_runs : (room : Room) (lines : List Line) (l : Line) (k : ℕ) → AreLines (lines ++ l ∷ []) → refusal (run_of room lines) l ≡ None → NextAreRuns (steps k room (begins (run_of room lines) l))
steps_are_runs room lines l k are allowed = next_runs (steps k room (begins (run_of room lines) l)) (steps_into Stage stage_kept room lines l k are allowed)

pub runs_are_placed : (room : Room) (lines : List Line) → AreLines lines → ArePlaced (run_of room lines)
runs_are_placed room lines are = are_placed (run_of room lines) [] (run_kept limits.Stage limits.stage_kept room lines are).is (run_stage room lines are).ends

part_placed : (room : Room) (lines : List Line) (l : Line) (k : ℕ) → AreLines (lines ++ l ∷ []) → refusal (run_of room lines) l ≡ None → ArePlaced (so_far (steps k room (begins (run_of room lines) l)))
part_placed room lines l k are allowed =
    let part = steps k room (begins (run_of room lines) l) in
    are_placed (so_far part) [] (so_far_kept limits.Stage limits.stage_kept part (steps_into limits.Stage limits.stage_kept room lines l k are allowed)).is (part_stage room lines l k are allowed).ends

pub parts_are_placed : (room : Room) (lines : List Line) (l : Line) (part : World) → AreLines (lines ++ l ∷ []) → refusal (run_of room lines) l ≡ None → IsPartOf room (run_of room lines) l part → ArePlaced part
parts_are_placed room lines l part are allowed is = subst ArePlaced is.2 (part_placed room lines l is.0 are allowed)

pub runs_are_safe : (room : Room) (lines : List Line) → AreLines lines → FilesAreSafe (run_of room lines).entries
runs_are_safe room lines are = was_told (run_of room lines) (runs_are_placed room lines are) (run_stage room lines are)

pub parts_are_safe : (room : Room) (lines : List Line) (l : Line) (entries : List Entry) → AreLines (lines ++ l ∷ []) → refusal (run_of room lines) l ≡ None → IsRunInto room lines l entries → FilesAreSafe entries
parts_are_safe room lines l entries are allowed into =
    subst FilesAreSafe into.2
    (subst (λ (part : World). FilesAreSafe part.entries) into.1.2
    (was_told (so_far (steps into.1.0 room (begins (run_of room lines) l))) (part_placed room lines l into.1.0 are allowed) (part_stage room lines l into.1.0 are allowed)))
