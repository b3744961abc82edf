use Rattle.std.proofs.Common.{◌≡◌, ◌<◌, ◌≤◌, ◌^◌, ◌+◌, ◌==◌, [], ℕ, List, Option, Some, None, length, get_or, if◌then◌else◌, refl, sym, ap, ◌∙◌, arith, eq-eqb}
use Rattle.std.proofs.lemmas.List.FromFn.{length-map-range_with_len, get_or-map-range_with_len}
use Rattle.std.proofs.lemmas.Option.{same_Some}
use Rattle.xt_base.specs.declared.TheConstants.{FRAME}
use Rattle.xt_base.specs.declared.ids.NodeId.{NodeId}
use Rattle.xt_parts.specs.declared.joining.Whole.{Whole}
use Rattle.xt_parts.specs.Part.{parts_in, part_of, parts_of}
use Rattle.xt_parts.specs.Joining.{HalfJoined, Taken, after_part}
use Rattle.xt_parts.specs.Runs.{CanBeCut, HasRoomFor, after_first, whole_of}
use Rattle.xt_parts.specs.Laws.{StepsInOrder}
use Rattle.world_disk_hull.proofs.carrying.joined.Invariants.{id_of}
use Rattle.world_disk_hull.proofs.carrying.joined.Goals as goal

-- what the next part leads to, by the law that the contract states
abbrev next : NodeId → ℕ → List ℕ → ℕ → Taken
next sender number message taken = record {
  held = after_first [] (id_of sender number) message (taken + 1);
  whole = if taken + 1 == parts_in (length message) then Some (whole_of (id_of sender number) message) else None;
}

module _ (sender : NodeId) (number : ℕ) (message : List ℕ) (law : StepsInOrder) (node : sender.0 < 2 ^ 32) (small : number < 2 ^ 64) (some : 1 ≤ length message)
    (limit : length message ≤ FRAME) (taken : ℕ) (held : List HalfJoined) (part : List ℕ) (parts : List (List ℕ))
    (so_far : held ≡ after_first [] (id_of sender number) message taken) (cut : parts ≡ parts_of (id_of sender number) message)
    (is : part ≡ get_or parts taken part) (below : taken < length parts) where
  within : taken < parts_in (length message)
  within =
      let count : length parts ≡ parts_in (length message)
      = ap length cut ∙ length-map-range_with_len (part_of (id_of sender number) message) 0 (parts_in (length message)) in
      omega arith

  goes_on : after_part held part ≡ Some (next sender number message taken)
  goes_on =
      let can : CanBeCut (id_of sender number) message
      = record { sender = node; boot = omega arith; number = small; some = some; limit = limit } in
      let room : HasRoomFor [] (id_of sender number) = record { unknown = refl; room = omega arith } in
      let that : part ≡ part_of (id_of sender number) message taken
      = is ∙ ap (λ all. get_or all taken part) cut
      ∙ get_or-map-range_with_len (part_of (id_of sender number) message) 0 (parts_in (length message)) taken taken part within (omega arith) in
      ap (λ before. after_part before part) so_far
      ∙ ap (after_part (after_first [] (id_of sender number) message taken)) that
      ∙ law [] (id_of sender number) message can room taken within

pub loop-part-preserved : goal.loop-part-preserved
loop-part-preserved c =
    let step = ap (after_part c.loop-part.joiner) c.as_slice.ensures
    ∙ goes_on c.args.sender c.args.number c.args.message.now c.joins_in_order.ensures.steps c.requires.sender c.ranges.number.fits c.requires.some
    c.requires.limit c.loop-part.part-index c.loop-part.joiner c.part-item.result c.as_slice-part-items.result.now
    c.loop-part.invariant.joiner (c.as_slice-part-items.ensures.value ∙ c.in-Ok.ensures) c.part-item.is c.loop-part-test.true in
    let same = same_Some _ _ (sym c.in-Ok-take.ensures.ok ∙ step) in
    record { joiner = ap (λ taken. taken.held) same; last = ap (λ taken. taken.whole) same }

-- after the last part the message was given
given_at_end : (sender : NodeId) (number : ℕ) (message : List ℕ) (parts : List (List ℕ)) (taken : ℕ) (last : Option Whole) →
    parts ≡ parts_of (id_of sender number) message → length parts ≤ taken → taken ≤ length parts →
    last ≡ (if taken == parts_in (length message) then Some (whole_of (id_of sender number) message) else None) →
    last ≡ Some (whole_of (id_of sender number) message)
given_at_end sender number message parts taken last cut past upto is =
    let count : length parts ≡ parts_in (length message)
    = ap length cut ∙ length-map-range_with_len (part_of (id_of sender number) message) 0 (parts_in (length message)) in
    let end : taken ≡ parts_in (length message) = omega arith in
    is ∙ rw (eq-eqb taken (parts_in (length message)) end) refl

pub unwrap-requires : goal.unwrap-requires
unwrap-requires c =
    rw (given_at_end c.args.sender c.args.number c.args.message.now c.as_slice-part-items.result.now c.loop-part.part-index c.loop-part.last
    (c.as_slice-part-items.ensures.value ∙ c.in-Ok.ensures) c.loop-part-test.false c.loop-part.auto.part-index-end
    c.loop-part.invariant.last) refl
