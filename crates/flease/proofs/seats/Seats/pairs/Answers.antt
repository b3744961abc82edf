use Rattle.std.proofs.Common.{◌≡◌, refl, ◌<◌, ℕ, ◌+◌, ◌++◌, ◌∷◌, [], List, Option, Some, None, length, take, get_or, sym, ap, add-one, ◌∙◌, arith, length-append}
use Rattle.std.proofs.Math.Seq.{take-suc}
use Rattle.std.proofs.lemmas.List.Elements.{filter_map-append}
use Rattle.xt_base.specs.declared.ids.Boot.{Boot}
use Rattle.xt_protocol.specs.Register.{Seat, pair_of, counted_pairs}
use Rattle.flease.proofs.seats.Seats.pairs.Goals as goal
use Rattle.flease.proofs.seats.Seats.pairs.Goals.{in-Some, in_default}

-- one seat more
counted_pairs-next : (seats : List Seat) (i : ℕ) (seat : Seat) → i < length seats → seat ≡ get_or seats i seat → counted_pairs (take (i + 1) seats) ≡ counted_pairs (take i seats) ++ counted_pairs (seat ∷ [])
counted_pairs-next seats i seat lt is =
    let front : take (i + 1) seats ≡ take i seats ++ seat ∷ [] = rw add-one (take-suc seats i seat lt ∙ ap (λ (s : Seat). take i seats ++ s ∷ []) (sym is)) in
    ap counted_pairs front ∙ filter_map-append (λ (s : Seat). pair_of s.node s.counted) (take i seats) (seat ∷ [])

-- a seat whose promise is counted has one pair
counted_pairs-some : (seat : Seat) (boot : Boot) → seat.counted ≡ Some boot → counted_pairs (seat ∷ []) ≡ (seat.node, boot) ∷ []
counted_pairs-some seat boot e = ap (λ (counted : Option Boot). counted_pairs (record { node = seat.node; counted = counted; accepted = seat.accepted } ∷ [])) e

-- another has none
counted_pairs-none : (seat : Seat) → seat.counted ≡ None → counted_pairs (seat ∷ []) ≡ []
counted_pairs-none seat e = ap (λ (counted : Option Boot). counted_pairs (record { node = seat.node; counted = counted; accepted = seat.accepted } ∷ [])) e

-- nothing after a list
append_nil : {A : Type 0} (xs : List A) → xs ++ [] ≡ xs
append_nil [] = refl
append_nil (x ∷ xs) = ap (λ ys. x ∷ ys) (append_nil xs)

pub loop-seat-preserved : goal.loop-seat-preserved
loop-seat-preserved c =
    let seat = c.seat-item.result in
    let next = counted_pairs-next c.as_slice-seat-items.result.now c.loop-seat.seat-index seat c.loop-seat-test.true c.seat-item.is in
    let so_far = c.loop-seat.invariant.0 in
    elim c.match-seat.branch [
      | in-Some w ↦
          let counted : seat.counted ≡ Some w.in-Some.boot = ap (λ (s : Seat). s.counted) (sym c.seat.view_is) ∙ w.in-Some.is in
          let node : c.seat.inside.node ≡ seat.node = ap (λ (s : Seat). s.node) c.seat.view_is in
          let one = counted_pairs-some seat w.in-Some.boot counted in
          let pushed = w.push.ensures in (
            cc,
            omega (arith, ap length w.targets-is, ap length pushed, length-append c.loop-seat.targets ((c.seat.inside.node, w.in-Some.boot) ∷ [])),
          )
      | in_default w ↦
          let counted : seat.counted ≡ None = ap (λ (s : Seat). s.counted) (sym c.seat.view_is) ∙ w.in_default.is in
          let none = counted_pairs-none seat counted in
          let same = append_nil (counted_pairs (take c.loop-seat.seat-index c.as_slice-seat-items.result.now)) in
          (cc, omega (arith, ap length w.targets-is))
    ]
