-- the list of a file is never empty
use Rattle.std.proofs.Common.{◌≡◌, ◌&&◌, ◌≤◌, true, nat_le, length, arith}
use Rattle.std.proofs.lemmas.Bool.{and_parts}
use Rattle.std.proofs.lemmas.Bool.Decides.{nat_tests}
use Rattle.xt_base.specs.MemberList.{are_distinct}
use Rattle.xt_messages.specs.declared.file.Location.{Location}
use Rattle.xt_messages.specs.Limits.{FitsLocation}

pub some_member : (location : Location) → FitsLocation location → 1 ≤ length location.members
some_member location fits =
    let members = location.members in
    let lengths = and_parts (nat_le 1 (length members) && nat_le (length members) 9) (are_distinct members) fits.nodes.different in
    let some : nat_le 1 (length members) ≡ true = (and_parts (nat_le 1 (length members)) (nat_le (length members) 9) lengths.0).0 in
    grind (arith, nat_tests, some)
