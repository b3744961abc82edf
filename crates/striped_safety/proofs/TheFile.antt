-- a file by its number: what is reported and known of it
use Rattle.std.proofs.Common.{◌≡◌, ◌∙◌, ℕ, refl, sym, ap, Option, Some, None, List}
use Rattle.xt_base.specs.declared.ids.FileId.{FileId}
use Rattle.xt_messages.specs.declared.file.Location.{Location}
use Rattle.time_line.specs.TimeLine.{location_in}
use Rattle.world_spec.specs.declared.PlacedFile.{PlacedFile}
use Rattle.world_spec.specs.World.{World, file_in, known}
use Rattle.world_runs.specs.Worlds.{IsKnown}
use Rattle.world_runs.proofs.Places.{AreTold, place_of}
use Rattle.world_runs.proofs.Tables.{file_in-id}
use Rattle.striped_safety.proofs.Follows.{id_in, IsListed}

-- All that is reported and known of the file of this number is that it is this one, at this place.
pub record IsTheFile (vol : List ℕ) (number : ℕ) (location : Location) (w : World) : Type 0 where
  pub told : (l : Location) → location_in number w.entries ≡ Some l → l ≡ location
  pub known : (file : FileId) (l : Location) → IsKnown (known w) file l → file.number ≡ number → (file ≡ id_in vol number) × (l ≡ location)

pub the_file : (vol : List ℕ) (number : ℕ) (location : Location) (w : World) → AreTold (known w) w.entries → IsListed (known w) vol number location → IsTheFile vol number location w
the_file vol number location w places listed =
    record {
      told = λ l is. by_table l (file_in (known w) number) refl (sym (places number) ∙ is);
      known = λ file l is same.
          let found = listed (record { file = file; location = l }) (ap (file_in (known w)) (sym same) ∙ is) in
          (ap (λ (f : PlacedFile). f.file) found, ap (λ (f : PlacedFile). f.location) found);
    }
  where
    by_table : (l : Location) (o : Option PlacedFile) → file_in (known w) number ≡ o → place_of o ≡ Some l → l ≡ location
    by_table l None found is = absurd (let none : None ≡ Some l = is in cc none)
    by_table l (Some f) found is = (let same : f.location ≡ l = cc is in sym same ∙ ap (λ (x : PlacedFile). x.location) (listed f found))

-- where a file of its number is known, it is this one
pub known_as : (vol : List ℕ) (number : ℕ) (location : Location) (w : World) → IsTheFile vol number location w → (k : PlacedFile) → file_in (known w) number ≡ Some k → k.file ≡ id_in vol number
known_as vol number location w listed k is =
    let same = file_in-id (known w) number k is in
    (listed.known k.file k.location (ap (file_in (known w)) same ∙ is) same).0
