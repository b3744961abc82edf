use Rattle.std.proofs.Common.{ap, length, arith}
use Rattle.object_store.specs.Waits.{recs_of}
use Rattle.object_store.specs.declared.place.BodyPlace.{BodyPlace}
use Rattle.object_store.specs.declared.waiting.Waiting.{Waiting}
use Rattle.object_store.specs.Logs.{places_in}
use Rattle.std.specs.Prelude.{Contains}
use Rattle.object_store.proofs.ReadBack.{IsReadable}
use Rattle.object_store.proofs.Waited.{waiting_inside}
use Rattle.object_store.proofs.waiting.Waiting.body.Goals as goal

inside : (waiting : Waiting) (place : BodyPlace) → Contains (places_in waiting.log) place → IsReadable waiting.bytes.items place
inside waiting place among =
    let small = waiting.bytes.small in
    waiting_inside waiting.bytes.items (recs_of waiting) (omega (arith, waiting.bytes.ok.0, waiting.bytes.ok.1, small)) waiting.fit waiting.written waiting.log waiting.laid place
    among

pub overflow_add-result : goal.overflow_add-result
overflow_add-result c =
    let waiting = c.args.self.now in
    omega (arith, inside waiting c.in_ok-place.place c.in_ok-place.ensures.among, waiting.bytes.ok.0, waiting.bytes.ok.1, waiting.bytes.small)

pub slice_bounds-result-end : goal.slice_bounds-result-end
slice_bounds-result-end c = omega (arith, inside c.args.self.now c.in_ok-place.place c.in_ok-place.ensures.among, ap length c.as_slice.ensures.value)
