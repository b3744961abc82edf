-- what always holds of a change in memory
use Rattle.std.specs.Prelude.{ℕ, ◌≡◌, ◌<◌, ◌^◌, Option, List, IfSome, map}
use Rattle.xt_base.specs.declared.ids.NodeId.{NodeId}
use Rattle.xt_messages.specs.declared.file.Location.{Location}
use Rattle.xt_messages.specs.declared.file.FileHead.{FileHead}
use Rattle.change_rows.specs.Changes.{Seat, node_of, greatest_promise}

-- Its numbers are within their limits; the greatest promise is that of the reports; and the seats are the new members'.
pub record IsChange (old : Location) (next : List NodeId) (reports : List (NodeId × FileHead)) (promised : ℕ) (since : Option ℕ) (seats : List Seat) : Type 0 where
  pub version : old.version < 2 ^ 31
  pub clock : IfSome since (λ moment. moment < 2 ^ 62)
  pub limit : promised < 2 ^ 62
  pub greatest : promised ≡ greatest_promise reports
  pub members : map node_of seats ≡ next
