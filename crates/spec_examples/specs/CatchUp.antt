-- what a peer is sent that lacks some of the versions of a head
use Rattle.std.specs.Prelude.{ℕ, List, [], ◌∷◌, ◌++◌}
use Rattle.xt_messages.specs.declared.file.ObjectVersion.{ObjectVersion}

abbrev pub version : ℕ → ℕ → ObjectVersion
version object count = record { object = object; version = record { epoch = record { number = 1; node = record { 0 = 1 } }; count = count } }

-- The peer has the first object as it is in the head, and an older version of the second one; it hasn't the third.
abbrev pub had : List ObjectVersion
had = version 0 1 ∷ version 1 2 ∷ []

abbrev pub wanted : List ObjectVersion
wanted = version 0 1 ∷ version 1 3 ∷ version 2 4 ∷ []

abbrev pub lacking : List ObjectVersion
lacking = version 1 3 ∷ version 2 4 ∷ []

-- what is known of it once one body is staged, and once both are
abbrev pub after_one : List ObjectVersion
after_one = had ++ version 1 3 ∷ []

abbrev pub after_both : List ObjectVersion
after_both = had ++ lacking
