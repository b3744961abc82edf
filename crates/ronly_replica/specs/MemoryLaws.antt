-- a file in memory tells its contents, and they stay
use Rattle.std.proofs.Common.{◌≡◌, ℕ, List, length, ap, sym, ◌∙◌, Some}
use Rattle.std.specs.Prelude.{Result, Ok, slice_get}
use Rattle.xt_base.specs.declared.ids.SizeMark.{SizeMark}
use Rattle.striping.specs.Cover.{object_of}
use Rattle.ronly_replica.specs.declared.origin.Fetched.{Fetched}
use Rattle.ronly_replica.specs.declared.origin.OriginErr.{OriginErr}
use Rattle.ronly_replica.specs.declared.memory_origin.MemoryOrigin.{MemoryOrigin}
use Rattle.ronly_replica.specs.MemoryOrigins.{MemoryFetches}

pub memory_tells : (old new : MemoryOrigin) (object : ℕ) (fetched : Fetched) (whole : List ℕ) → MemoryFetches old object (Ok fetched) new
    → slice_get old.contents fetched.count ≡ Some whole → (fetched.bytes ≡ object_of old.stripe whole object) × (fetched.mark.size ≡ length whole)
memory_tells old new object fetched whole does there =
    let answer = does.answers.0 in
    let at : slice_get old.contents old.at ≡ Some whole = ap (λ count. slice_get old.contents count) (sym answer.count) ∙ there in
    let told = answer.told whole at in
    (told.0, ap (λ (mark : SizeMark). mark.size) told.1)

pub memory_stays : (old new : MemoryOrigin) (object : ℕ) (result : Result Fetched OriginErr) (count : ℕ) → MemoryFetches old object result new
    → (slice_get new.contents count ≡ slice_get old.contents count) × (new.stripe ≡ old.stripe)
memory_stays old new object result count does =
    (ap (λ (contents : List (List ℕ)). slice_get contents count) does.same.contents, does.same.stripe)
