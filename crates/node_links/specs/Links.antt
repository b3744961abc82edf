-- what comes and goes over a link, and what a clock reads
use Rattle.std.specs.Prelude.{ℕ, ◌≡◌, ◌≤◌, Option, List, [], ◌∷◌, length, take}
use Rattle.std.specs.Option.{IfSome}
use Rattle.node_links.specs.Streams.{Takes}
use Rattle.node_links.specs.declared.link.Datagram.{Datagram}
use Rattle.node_links.specs.declared.link.Got.{Got}
use Rattle.node_links.specs.declared.link.Got.TheVariants as got

-- What a receive gave: a datagram that fits the buffer, with its bytes at the front, or nothing, where there was none to give.
abbrev pub IsGot : Option (List Datagram) → Option (List Datagram) → List ℕ → Got → Type 0
IsGot before after buf (got.Piece from len) =
    (len ≤ length buf) × Takes before after (record { peer = from; bytes = take len buf } ∷ [])
IsGot before after buf got.NothingYet = (after ≡ before) × IfSome before (λ left. left ≡ [])

-- the reading that a clock gives next: the last one is given again, and 0 where there is none
abbrev pub next_reading : List ℕ → ℕ
next_reading [] = 0
next_reading (reading ∷ rest) = reading

abbrev pub readings_left : List ℕ → List ℕ
readings_left [] = []
readings_left (reading ∷ []) = reading ∷ []
readings_left (reading ∷ (next ∷ rest)) = next ∷ rest
