use Rattle.std.proofs.Common.{◌≡◌, ℕ, ◌+◌, ◌≤◌, ◌++◌, ◌∷◌, List, true, length, drop, sym, ◌∙◌, ap, arith, subst}
use Rattle.std.proofs.lemmas.List.{at_drop_all}
use Rattle.disk_model.proofs.Moments.{joined}
use Rattle.journal_areas.specs.Format.{open_gate, record_of, records}
use Rattle.journal_moves.specs.declared.gathered.Gathered.{Gathered}
use Rattle.journal_moves.specs.Gathering.{chunk_calls, chunks, gathered, gathered_in, size_in, size_of_area, sizes_of}
use Rattle.journal_moves.specs.Moves.{MakesCalls}
use Rattle.journal_moves.specs.Writing.{IsApart, StaysOutside}
use Rattle.journal_moves.proofs.Areas.{chunks_next, fits, held_short, next}
use Rattle.journal_moves.proofs.Outcomes.{an_err, failed_more, failed_then, made_then}
use Rattle.journal_moves.proofs.Underway.{records_next}
use Rattle.journal_moves.proofs.writing.write_records.Goals as goal

pub add-requires-clause-fits : goal.add-requires-clause-fits
add-requires-clause-fits g c = omega (arith, c.requires.fit, fits c.args.payloads.now c.loop-payload.payload-index c.payload-item.result c.loop-payload-test.true c.payload-item.is)

pub add-requires-clause-buffer : goal.add-requires-clause-buffer
add-requires-clause-buffer g c =
    omega (arith, c.loop-payload.invariant.short, c.loop-payload.invariant.capacity, fits c.args.payloads.now c.loop-payload.payload-index c.payload-item.result c.loop-payload-test.true c.payload-item.is)

pub returns-in_err-at-clause-any_moment : goal.returns-in_err-at-clause-any_moment
returns-in_err-at-clause-any_moment g c told rests apart =
    let D = g.D.Disk in
    let bytes = (D.kept c.args.disk.now).read in
    let place = c.args.place in
    let end = place + size_of_area c.args.payloads.now in
    let P : List ℕ → Type 0 = λ image. StaysOutside bytes image place end in
    let inv = c.loop-payload.invariant in
    let was = inv.underway told rests apart in
    let is = next c.args.payloads.now c.loop-payload.payload-index c.payload-item.result c.loop-payload-test.true c.payload-item.is in
    let until : c.loop-payload.at + (length c.loop-payload.buffer.items + (5 + size_in c.payload-item.result)) ≤ end = omega (arith, inv.ends, ap size_of_area is) in
    joined D.moment D.left_since c.args.disk.now c.loop-payload.disk c.add.new.disk P P P (inv.any_moment told rests apart)
    (c.add.ensures.any_moment told bytes was.0 place end was.1 until) (λ image p. p) (λ image p. p)

pub returns-in_err-at-clause-failed : goal.returns-in_err-at-clause-failed
returns-in_err-at-clause-failed g c told =
    let D = g.D.Disk in
    let a = D.fails c.args.disk.now in
    let was = c.loop-payload.invariant.made told in
    let all = chunks 0 (sizes_of c.args.payloads.now) in
    let few : was.0 + 1 ≤ all + 1 = omega (arith, was.1) in
    an_err c.from_residual.result (failed_more a (was.0 + 1) (all + 1) few (failed_then a (D.fails c.loop-payload.disk) was.0 1 was.2 (c.in_err-at.ensures.failed told)))

pub loop-payload-preserved : goal.loop-payload-preserved
loop-payload-preserved g c =
    let D = g.D.Disk in
    let payloads = c.args.payloads.now in
    let payload = c.payload-item.result in
    let i = c.loop-payload.payload-index in
    let bytes = (D.kept c.args.disk.now).read in
    let place = c.args.place in
    let end = place + size_of_area payloads in
    let held = length c.loop-payload.buffer.items in
    let count = held + (5 + size_in payload) in
    let inv = c.loop-payload.invariant in
    let facts = c.in_ok-at.ensures in
    let is = next payloads i payload c.loop-payload-test.true c.payload-item.is in
    let until : c.loop-payload.at + count ≤ end = omega (arith, inv.ends, ap size_of_area is) in
    record {
      from = omega (arith, inv.from, facts.next.0);
      ends = omega (arith, inv.ends, facts.next.1, ap size_of_area is);
      short = omega (arith, facts.held, held_short count);
      capacity = omega (arith, inv.capacity, c.add.ensures.capacity);
      reserved = facts.reserved ∙ inv.reserved;
      room = omega (arith, facts.room, inv.room);
      count = facts.count ∙ inv.count;
      longer = λ told. omega (arith, inv.longer told, facts.longer told);
      made = λ told.
          let was = inv.made told in (
            was.0 + chunk_calls count,
            chunks_next held (length c.add.new.buffer.items) was.0 (chunks 0 (sizes_of payloads)) (drop i payloads) (drop (i + 1) payloads) payload is facts.held was.1,
            made_then (D.fails c.args.disk.now) (D.fails c.loop-payload.disk) (D.fails c.add.new.disk) was.0 (chunk_calls count) was.2 (facts.made told),
          );
      underway = λ told rests apart.
          let was = inv.underway told rests apart in
          let here : IsApart bytes place end payload = subst (λ (p : Gathered). IsApart bytes place end p) (sym c.payload-item.is) (apart i payload c.loop-payload-test.true) in (
            was.0 ++ open_gate ∷ record_of (gathered_in true bytes payload),
            facts.underway told bytes was.0 place end was.1 here until,
            records_next bytes was.0 (records (gathered true bytes payloads)) (drop i payloads) (drop (i + 1) payloads) payload is was.2,
          );
      any_moment = λ told rests apart.
          let P : List ℕ → Type 0 = λ image. StaysOutside bytes image place end in
          let was = inv.underway told rests apart in
          joined D.moment D.left_since c.args.disk.now c.loop-payload.disk c.add.new.disk P P P (inv.any_moment told rests apart)
          (c.add.ensures.any_moment told bytes was.0 place end was.1 until) (λ image p. p) (λ image p. p);
    }

pub returns-clause-made : goal.returns-clause-made
returns-clause-made g c told =
    let D = g.D.Disk in
    let payloads = c.args.payloads.now in
    let i = c.loop-payload.payload-index in
    let held = length c.loop-payload.buffer.items in
    let was = c.loop-payload.invariant.made told in
    let past : length payloads ≤ i = omega (arith, c.loop-payload-test.false) in
    let all : was.0 ≡ chunks 0 (sizes_of payloads) = omega (arith, was.1, at_drop_all (λ (l : List Gathered). chunks held (sizes_of l)) payloads i past) in
    subst (λ (n : ℕ). MakesCalls n (D.fails c.args.disk.now) (D.fails c.loop-payload.disk)) all was.2
