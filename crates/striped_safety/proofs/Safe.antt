-- the trace of every run is safe for striped files
use Rattle.std.proofs.Common.{◌≡◌, ℕ, ◌⊎◌, inl, inr, List, [], ◌∷◌, ◌++◌, refl, ap, sym, ◌∙◌, subst, arith, Option, Some, None, true, false}
use Rattle.std.proofs.lemmas.Bool.Decides.{nat_tests}
use Rattle.xt_base.specs.declared.ids.NodeId.{NodeId}
use Rattle.xt_messages.specs.declared.event.Call.TheVariants as call
use Rattle.xt_messages.specs.declared.file.Kind.{Kind}
use Rattle.xt_messages.specs.declared.file.Kind.TheVariants as kind
use Rattle.xt_messages.specs.declared.file.Location.{Location}
use Rattle.xt_messages.specs.declared.file.Op.TheVariants as op
use Rattle.xt_messages.specs.Limits.{FitsLocation}
use Rattle.lease_safety.specs.State.{Has}
use Rattle.time_line.specs.Content.{content_of, place_of, range_of}
use Rattle.time_line.specs.Bounds.{AreLines}
use Rattle.time_line.specs.declared.entry.Entry.{Entry}
use Rattle.time_line.specs.declared.entry.Entry.TheVariants as entry
use Rattle.time_line.specs.declared.line.Line.{Line}
use Rattle.time_line.specs.TimeLine.{id_of, location_in, operation_on, stripe_at, stripe_of}
use Rattle.time_line.specs.Clauses.{IsBefore, HasBegunOn, ok_entry}
use Rattle.world_spec.specs.NodeSteps.{Room}
use Rattle.world_spec.specs.Rules.{refusal}
use Rattle.world_spec.specs.declared.PlacedFile.{PlacedFile}
use Rattle.world_spec.specs.World.{World, file_in, known}
use Rattle.world_spec.specs.Lines.{begins, steps, so_far}
use Rattle.world_spec.specs.Runs.{run_of, IsRunInto}
use Rattle.world_runs.proofs.Places as places
use Rattle.world_runs.proofs.Tables.{file_in-id}
use Rattle.world_safety.specs.Runs.{ArePlaced}
use Rattle.world_safety.proofs.Runs.{runs_are_placed, parts_are_placed}
use Rattle.world_runs.proofs.Walk.{run_kept, steps_into, so_far_kept}
use Rattle.striped_safety.specs.StripedFiles.{is_striped_at, operations_on, ReadsShow, IsStripedSafe}
use Rattle.striped_safety.specs.StripedWorld.{StripedWorld, IsSetting, IsRight}
use Rattle.striped_safety.proofs.Follows.{setting_of, IsListed, Follows, IsLost, strange, given_up, FileFollows}
use Rattle.striped_safety.proofs.Trace.{has_contained, begun_there}
use Rattle.striped_safety.proofs.Walk.{Whole, whole_kept}

reads_itself : (file object at len : ℕ) → operation_on file (Some (call.Read file object at len)) ≡ Some (op.Read object at len)
reads_itself file object at len = grind (arith, nat_tests)

striped_kind : (o : Option Location) → is_striped_at o ≡ true → (location : Location) × (o ≡ Some location) × (location.kind ≡ kind.Striped)
striped_kind None is = absurd (cc is)
striped_kind (Some location) is = (location, refl, at location.kind is)
  where
    at : (k : Kind) → elim k [ kind.Replicated ↦ false | kind.Striped ↦ true ] ≡ true → k ≡ kind.Striped
    at kind.Replicated is = absurd (cc is)
    at kind.Striped is = refl

setting_fits : (vol : List ℕ) (number : ℕ) (location : Location) (who : NodeId) → FitsLocation location → IsSetting (setting_of vol number location who)
setting_fits vol number location who fits = record { members = fits.nodes.different; stripe = (let least = fits.size.least in omega (arith, least)) }

module _ (w : World) (whole : Whole w []) (placed : ArePlaced w) where
  world_safe : IsStripedSafe w.entries
  world_safe file is_a used = at (striped_kind (location_in file w.entries) is_a)
    where
      at : (location : Location) × (location_in file w.entries ≡ Some location) × (location.kind ≡ kind.Striped) → ReadsShow file w.entries
      at (location, told, of_kind) = by_fares follows.fares
        where
          -- what is reported of the file is known
          found : (f : PlacedFile) × (file_in (known w) file ≡ Some f) × (f.location ≡ location)
          found = by_table (file_in (known w) file) refl (sym (whole.fits.places file) ∙ told)
            where
              by_table : (o : Option PlacedFile) → file_in (known w) file ≡ o → places.place_of o ≡ Some location → (f : PlacedFile) × (file_in (known w) file ≡ Some f) × (f.location ≡ location)
              by_table None found is = absurd (let none : None ≡ Some location = is in cc none)
              by_table (Some f) found is = (f, found, (let same : f.location ≡ location = cc is in same))

          vol : List ℕ
          vol = found.0.file.volume

          listed : IsListed (known w) found.0.file.volume file location
          listed f is =
              let same : f ≡ found.0 = (let both : Some f ≡ Some found.0 = sym is ∙ found.1 in cc both) in
              let number : found.0.file.number ≡ file = file_in-id (known w) file found.0 found.1 in
              same ∙ (ap (λ (n : ℕ). let p : PlacedFile = record { file = record { volume = found.0.file.volume; number = n }; location = found.0.location } in p) number
              ∙ ap (λ (l : Location). let p : PlacedFile = record { file = record { volume = found.0.file.volume; number = file }; location = l } in p) found.2)

          follows : FileFollows found.0.file.volume file location used.client w []
          follows = whole.shows.files found.0.file.volume file location used.client of_kind (setting_fits found.0.file.volume file location used.client (subst FitsLocation found.2 (placed.fit file found.0 found.1))) listed

          stripe : stripe_of file w.entries ≡ location.stripe
          stripe = ap stripe_at told

          by_fares : IsLost (setting_of found.0.file.volume file location used.client) w ⊎ ((m : StripedWorld) × Follows (setting_of found.0.file.volume file location used.client) w [] m) → ReadsShow file w.entries
          by_fares (inl (strange id has stranger)) before who number object from len count bytes there ok = absurd (stranger (used.alone id has))
          by_fares (inl (given_up g)) before who number object from len count bytes there ok = absurd (let ended = used.ended (id_of used.client g.number) g.begun in g.unheard ended.0 ended.1.0 (has_contained w.entries (ok_entry (id_of used.client g.number) ended.0 ended.1.0) ended.1.1))
          by_fares (inr (m, f)) before who number object from len count bytes there ok =
              let has : HasBegunOn file w.entries (id_of who number) = (op.Read object from len, ap (operation_on file) (begun_there w.entries before who number (call.Read file object from len) whole.shows.once there) ∙ reads_itself file object from len) in
              let its_client : who ≡ used.client = used.alone (id_of who number) has in
              let read = f.reads before number object from len count bytes (subst (λ (x : NodeId). IsBefore before (entry.Begin x number (call.Read file object from len)) w.entries) its_client there)
              (subst (λ (x : NodeId). Has (ok_entry (id_of x number) count bytes) w.entries) its_client (has_contained w.entries (ok_entry (id_of who number) count bytes) ok)) in
              let right : IsRight (setting_of found.0.file.volume file location used.client) (record { before = operations_on file before; object = object; at = from; len = len; bytes = bytes }) = f.stands.reads (record { before = operations_on file before; object = object; at = from; len = len; bytes = bytes }) read in
              subst (λ (size : ℕ). bytes ≡ range_of (content_of size (operations_on file before)) (place_of size object from) len) (sym stripe) right

-- In every run,
pub run_safe : (room : Room) (lines : List Line) → AreLines lines → IsStripedSafe (run_of room lines).entries
run_safe room lines are = world_safe (run_of room lines) (run_kept Whole whole_kept room lines are) (runs_are_placed room lines are)

-- and after some steps of a line more.
pub part_safe : (room : Room) (lines : List Line) (l : Line) (entries : List Entry) → AreLines (lines ++ l ∷ []) → refusal (run_of room lines) l ≡ None → IsRunInto room lines l entries → IsStripedSafe entries
part_safe room lines l entries are allowed into =
    let part = so_far (steps into.1.0 room (begins (run_of room lines) l)) in
    let whole : Whole (so_far (steps into.1.0 room (begins (run_of room lines) l))) []
    = so_far_kept Whole whole_kept (steps into.1.0 room (begins (run_of room lines) l)) (steps_into Whole whole_kept room lines l into.1.0 are allowed) in
    subst IsStripedSafe into.2 (world_safe into.0 (subst (λ (w : World). Whole w []) into.1.2 whole) (parts_are_placed room lines l into.0 are allowed into.1))
