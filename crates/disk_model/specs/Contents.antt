-- How the fields of a disk's contents stand for its bytes.
use Rattle.std.specs.Prelude.{ℕ, ◌≤◌, ◌≡◌, List, Option, None, Some, MatchOption, Vec}
use Rattle.std.specs.Vec.{vec_capacity}
use Rattle.std.specs.declared.alloc.Global.{Global}
use Rattle.disk_model.specs.declared.contents.Contents.TheInside.{Inside}
use Rattle.disk_model.specs.Held.{Held}

-- what a read gives: these bytes, or the first ones where there are none
abbrev pub read_of : List ℕ → Option (Vec ℕ Global) → List ℕ
read_of first None = first
read_of first (Some bytes) = bytes.items

abbrev pub held : Inside → Held
held c = record { first = c.first; read = read_of c.first c.read; reserved = c.reserved }

-- there is room for each write that ends inside what is reserved
abbrev pub HasRoom : Inside → Type 0
HasRoom c = MatchOption c.read (c.reserved ≡ 0) (λ bytes. c.reserved ≤ vec_capacity bytes)
