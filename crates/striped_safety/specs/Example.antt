-- two members, two writes, a truncation that cuts the second object, and a read of it
use Rattle.std.specs.Prelude.{◌≡◌, ℕ, List, [], ◌∷◌}
use Rattle.xt_base.specs.declared.ids.SizeMark.{SizeMark}
use Rattle.xt_messages.specs.declared.file.Kind.TheVariants as kind
use Rattle.xt_messages.specs.declared.file.Op.TheVariants as op
use Rattle.striped_safety.specs.StripedWorld.{Setting, Asked, Move, begins, acts, hears, ends, whole, kept_alone, MayAll, after_all, first_world}

abbrev pub two : Setting
two =
    record {
      file = record { volume = []; number = 7 };
      location = record { version = 1; kind = kind.Striped; stripe = 1024; members = record { 0 = 1 } ∷ record { 0 = 2 } ∷ [] };
      client = record { 0 = 200 };
    }

abbrev pub first_write : Asked
first_write = record { number = 1; epoch = 0; op = op.Write 0 3 (97 ∷ 98 ∷ []) }

abbrev pub second_write : Asked
second_write = record { number = 2; epoch = 0; op = op.Write 1 0 (99 ∷ 100 ∷ 101 ∷ []) }

abbrev pub truncation : Asked
truncation = record { number = 3; epoch = 1; op = op.Truncate 1026 }

abbrev pub read : Asked
read = record { number = 4; epoch = 1; op = op.Read 1 1 9 }

abbrev pub mark_of : ℕ → ℕ → SizeMark
mark_of epoch size = record { epoch = epoch; size = size }

-- the second write is lost after its record and comes again; the truncation comes to both; an old ask comes late
abbrev pub moves : List Move
moves =
    begins first_write ∷ acts 0 first_write whole ∷ hears 0 1 1 (mark_of 0 5) [] ∷ ends
    ∷ begins second_write ∷ acts 1 second_write kept_alone ∷ acts 1 second_write whole ∷ hears 1 2 1 (mark_of 0 1027) [] ∷ ends
    ∷ begins truncation ∷ acts 0 truncation whole ∷ hears 0 3 2 (mark_of 1 1026) [] ∷ acts 1 truncation whole ∷ acts 0 first_write whole ∷ hears 1 3 2 (mark_of 1 1026) [] ∷ ends
    ∷ begins read ∷ acts 1 read whole ∷ hears 1 4 2 (mark_of 1 1026) (100 ∷ 0 ∷ 0 ∷ 0 ∷ 0 ∷ 0 ∷ 0 ∷ 0 ∷ 0 ∷ [])
    ∷ []

-- the read shows the one byte that is left
abbrev pub ShowsAByte : Type 0
ShowsAByte =
    MayAll two first_world moves
    × ((after_all two first_world moves).reads ≡ record { before = first_write.op ∷ second_write.op ∷ truncation.op ∷ []; object = 1; at = 1; len = 9; bytes = 100 ∷ [] } ∷ [])
