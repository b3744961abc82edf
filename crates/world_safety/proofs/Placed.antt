-- the trace reports where each file is, within the limits
use Rattle.std.proofs.Common.{◌≡◌, ℕ, inl, inr, List, [], ◌∷◌, sym, subst, Some}
use Rattle.std.specs.List.{AllByRecursion}
use Rattle.xt_messages.specs.Limits.{FitsLocation}
use Rattle.xt_messages.specs.declared.message.Msg.{Msg}
use Rattle.lease_safety.specs.State.{Has}
use Rattle.world_spec.specs.declared.PlacedFile.{PlacedFile}
use Rattle.world_spec.specs.World.{World, file_in, known}
use Rattle.world_runs.proofs.Steps.{Fits}
use Rattle.world_runs.proofs.Tables.{file_in-either, file_in-has}
use Rattle.world_limits.proofs.Clients.{FitsPlaced}
use Rattle.world_limits.proofs.Worlds.{WorldIs}
use Rattle.world_safety.specs.Runs.{ArePlaced}

each_fits : (files : List PlacedFile) (f : PlacedFile) → AllByRecursion FitsPlaced files → Has f files → FitsPlaced f
each_fits [] f are h = absurd h
each_fits (x ∷ xs) f are (inl e) = subst FitsPlaced (sym e) are.0
each_fits (x ∷ xs) f are (inr h) = each_fits xs f are.1 h

-- a file that is known is declared or made
known_fits : (w : World) (own : List Msg) → WorldIs w own → (number : ℕ) (f : PlacedFile) → file_in (known w) number ≡ Some f → FitsLocation f.location
known_fits w own is number f there =
    elim (file_in-either w.files w.made number f there) [
      | inl declared ↦ (each_fits w.files f is.files (file_in-has w.files number f declared)).place
      | inr made ↦ (each_fits w.made f is.made (file_in-has w.made number f made.1)).place
    ]

pub are_placed : (w : World) (own : List Msg) → WorldIs w own → Fits w own → ArePlaced w
are_placed w own is ends = record { told = ends.places; fit = known_fits w own is }
