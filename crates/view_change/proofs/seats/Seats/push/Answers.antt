use Rattle.std.proofs.Common.{◌≡◌, ◌+◌, ◌<◌, ◌++◌, ◌∷◌, [], List, length, set, ap, sym, subst, length-append, arith}
use Rattle.change_rows.specs.Changes.{Seat}
use Rattle.view_change.specs.declared.seats.Seats.TheInside.{Inside}
use Rattle.view_change.specs.SeatList.{blank, filled, seen}
use Rattle.view_change.proofs.Filled.{padded, padded-push, take-padded}
use Rattle.view_change.proofs.seats.Seats.push.Goals as goal

abbrev pushed : Inside → Seat → Inside
pushed s seat = record { places = set s.places s.count seat; count = s.count + 1 }

-- one more seat in the array that holds these
pushed_filled : (seats : List Seat) (seat : Seat) → length seats < 9 → filled (seen (pushed (filled seats) seat)) ≡ pushed (filled seats) seat
pushed_filled seats seat room =
    let places : padded blank (seats ++ seat ∷ []) ≡ set (padded blank seats) (length seats) seat = sym (padded-push blank seats seat room) in
    let count : length (seats ++ seat ∷ []) ≡ length seats + 1 = length-append seats (seat ∷ []) in
    let same : filled (seats ++ seat ∷ []) ≡ pushed (filled seats) seat = cc in
    subst (λ (s : Inside). filled (seen s) ≡ s) same (ap filled (take-padded blank (seats ++ seat ∷ [])))

pub invariant_of-self : goal.invariant_of-self
invariant_of-self c =
    let held = c.self.invariant.1 in
    let count : length (seen c.self.inside) ≡ c.self.inside.count = ap (λ (s : Inside). s.count) held in
    let view : seen c.self.inside ≡ c.args.self.now = c.self.view_is in
    let room : length c.args.self.now < 9 = c.requires in
    let room_here : length (seen c.self.inside) < 9 = subst (λ (seats : List Seat). length seats < 9) (sym view) room in (
      omega arith,
      subst (λ (s : Inside). filled (seen (pushed s c.args.seat)) ≡ pushed s c.args.seat) held (pushed_filled (seen c.self.inside) c.args.seat room_here),
    )
