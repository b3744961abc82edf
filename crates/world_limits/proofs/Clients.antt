-- a client of a world is within its limits, with what it is given of declared files, and so is each of its calls
use Rattle.std.proofs.Common.{◌≡◌, ◌<◌, ℕ, List, refl, Option, Some, None, arith}
use Rattle.std.specs.Option.{IfSome}
use Rattle.xt_base.specs.FieldLimits.{IsCount}
use Rattle.xt_base.specs.Overlay.{zeros}
use Rattle.xt_base.specs.TimeSettings.{TimeSettings}
use Rattle.xt_base.specs.declared.ids.NodeId.{NodeId}
use Rattle.xt_base.specs.declared.ids.FileId.{FileId}
use Rattle.xt_messages.specs.declared.file.Capability.{Capability}
use Rattle.xt_messages.specs.declared.file.Location.{Location}
use Rattle.xt_messages.specs.declared.event.Call.{Call}
use Rattle.xt_messages.specs.declared.event.Call.TheVariants as call
use Rattle.xt_messages.specs.Limits.{FitsNode, FitsFile, FitsCapability, FitsLocation, FitsMark}
use Rattle.time_line.specs.Bounds.{FitsCall}
use Rattle.client_rows.specs.Called.{called_file}
use Rattle.client_rows.specs.Clients.{raised}
use Rattle.client_rows.specs.Rows.{WholeClient, called}
use Rattle.client_limits.specs.Fits.{FitsClient, FitsStep}
use Rattle.client_limits.specs.Fits as client
use Rattle.client_limits.proofs.Bytes.{are_bytes}
use Rattle.client_limits.proofs.Limits.{holds_fits, called_fits}
use Rattle.client_limits.proofs.Replicas.{known_fits, learns_fits, raised_fits}
use Rattle.client_limits.proofs.Tags.{tag_fits}
use Rattle.world_spec.specs.declared.PlacedFile.{PlacedFile}
use Rattle.world_spec.specs.World.{file_in, world_key}
use Rattle.world_spec.specs.Lines.{declared_file, declared_capability, epoch_of, about_to_use, ready_for}
use Rattle.world_limits.proofs.Bytes.{each-zeros}

-- what a call asks
asked_fits : (k : Call) → FitsCall k → client.FitsCall k
asked_fits (call.Read file object at len) bound = (bound.1, bound.2, bound.3, bound.4)
asked_fits (call.Write file object at bytes) bound = (bound.1, bound.2, bound.3, bound.4)
asked_fits (call.Truncate file size epoch) bound = bound.1
asked_fits (call.Report user group file) bound = (bound.0, bound.1)
asked_fits (call.Meta user group request) bound = (bound.0, bound.1, bound.2)
asked_fits (call.Registry request) bound = bound

-- the truncate epoch of a call
epoch_fits : (c : WholeClient) (file : FileId) (k : Call) → FitsCall k → FitsClient c → IsCount (epoch_of c file k)
epoch_fits c file (call.Truncate number size epoch) fits is = fits.2
epoch_fits c file (call.Read number object at len) fits is = known_fits c.replicas.files file is.calls.known
epoch_fits c file (call.Write number object at bytes) fits is = known_fits c.replicas.files file is.calls.known
epoch_fits c file (call.Report user group number) fits is = known_fits c.replicas.files file is.calls.known
epoch_fits c file (call.Meta user group request) fits is = known_fits c.replicas.files file is.calls.known
epoch_fits c file (call.Registry request) fits is = known_fits c.replicas.files file is.calls.known

-- a file and where it is are within their limits
pub record FitsPlaced (f : PlacedFile) : Type 0 where
  pub which : FitsFile f.file
  pub place : FitsLocation f.location

-- a file that a schedule declares
pub declared_placed : (number : ℕ) (location : Location) → number < 1000000 → FitsLocation location → FitsPlaced (record { file = declared_file number; location = location })
declared_placed number location small place = record {
  which = record { all = are_bytes (zeros 16) (each-zeros 16); whole = refl; own = omega (arith, small) };
  place = place;
}

-- the capability of a declared file, which is sealed
capability_fits : (f : PlacedFile) (epoch : ℕ) → FitsPlaced f → IsCount epoch → FitsCapability (declared_capability f epoch)
capability_fits f epoch placed truncation = record {
  subject = placed.which;
  low = omega arith;
  high = omega arith;
  clock = omega arith;
  truncation = truncation;
  place = placed.place;
  seal = tag_fits world_key bare;
}
  where
    bare : Capability
    bare = record { file = f.file; mode = 2; expiry = 4611686018427387904; epoch = epoch; location = f.location; tag = zeros 32 }

no_bytes : FitsMark (record { epoch = 0; size = 0 })
no_bytes = record { truncation = omega arith; bytes = omega arith }

-- a client that is about to use a file
use_fits : (c : WholeClient) (k : Call) (o : Option PlacedFile) → FitsClient c → FitsCall k → IfSome o FitsPlaced → FitsClient (about_to_use c k o)
use_fits c k None is bound placed = is
use_fits c k (Some f) is bound placed =
    let epoch = epoch_of c f.file k in
    let small = epoch_fits c f.file k bound is in
    record {
      calls = learns_fits c.replicas f.file (raised epoch) is.calls (λ known fine. raised_fits epoch known small fine);
      holds = holds_fits c.held (declared_capability f epoch) (record { epoch = 0; size = 0 }) is.holds (capability_fits f epoch placed small) no_bytes;
      last = is.last;
    }

module _ (files : List PlacedFile) (places : (number : ℕ) (f : PlacedFile) → file_in files number ≡ Some f → FitsPlaced f) (c : WholeClient) (is : FitsClient c) where
  place_fits : (number : ℕ) (o : Option PlacedFile) → file_in files number ≡ o → IfSome o FitsPlaced
  place_fits number None there = tt
  place_fits number (Some f) there = places number f there

  ready_fits : (k : Call) → FitsCall k → (o : Option ℕ) → FitsClient (ready_for files c k o)
  ready_fits k bound None = is
  ready_fits k bound (Some number) = use_fits c k (file_in files number) is bound (place_fits number (file_in files number) refl)

  -- the step of a call
  pub call_fits : (node : NodeId) (times : TimeSettings) (reading : ℕ) (k : Call) → FitsNode node → FitsCall k → FitsStep (called node times (ready_for files c k (called_file k)) reading k)
  call_fits node times reading k who bound = called_fits node times (ready_for files c k (called_file k)) reading k who (ready_fits k bound (called_file k)) (asked_fits k bound)
