-- messages with a version put on them
use Rattle.std.specs.Prelude.{◌≡◌, ℕ, true, List, [], ◌∷◌}
use Rattle.xt_messages.specs.Limits.{is_of_list}
use Rattle.xt_messages.specs.declared.message.Msg.{Msg}

-- a message of the rows of one list carries this version
abbrev pub CarriesVersion : ℕ → Msg → Type 0
CarriesVersion version m = is_of_list m.payload ≡ true → m.list ≡ version

-- one message after the other: from and to the same nodes, with the same content
pub record IsTheSame (a b : Msg) : Type 0 where
  pub from : a.from ≡ b.from
  pub to : a.to ≡ b.to
  pub said : a.payload ≡ b.payload

abbrev pub SaysTheSame : List Msg → List Msg → Type 0
SaysTheSame [] [] = Unit {0}
SaysTheSame (a ∷ as_) (b ∷ bs) = IsTheSame a b × SaysTheSame as_ bs
SaysTheSame [] (b ∷ bs) = ⊥
SaysTheSame (a ∷ as_) [] = ⊥
