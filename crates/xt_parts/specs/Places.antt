-- where in the list a half joined message stands
use Rattle.std.specs.Prelude.{ℕ, List, Some, ◌≡◌, ◌<◌, length, slice_index_or, slice_set, remove}
use Rattle.message_ids.specs.declared.MessageId.{MessageId}
use Rattle.xt_parts.specs.Joining.{HalfJoined, half_of, without, changed}

-- the half joined message with the id stands at that place
pub record StandsAt (held : List HalfJoined) (id : MessageId) (place : ℕ) : Type 0 where
  pub half : (other : HalfJoined) → half_of held id ≡ Some (slice_index_or held place other)
  pub below : place < length held
  pub others : without held id ≡ remove held place
  pub changes : (new : HalfJoined) → changed held id new ≡ slice_set held place new
