use Rattle.std.proofs.Common.{◌≡◌, ℕ, ◌+◌, ◌++◌, ◌∷◌, ◌≤◌, [], List, true, sym, length, arith, subst}
use Rattle.byteorder.specs.Endian.{big_bytes}
use Rattle.disk_model.proofs.Moments.{begun, elapsed}
use Rattle.journal_areas.specs.Format.{open_gate, record_of}
use Rattle.journal_moves.specs.Gathering.{gathered_in, size_in}
use Rattle.journal_moves.specs.Writing.{IsUnderway, StaysOutside}
use Rattle.journal_moves.proofs.Outcomes.{if_ok}
use Rattle.journal_moves.proofs.Underway.{adds, holds, leaves_now, leaves_then, writes}
use Rattle.journal_moves.proofs.writing.add.Goals as goal

pub returns-then-len-lt-CHUNK-clause-underway : goal.returns-then-len-lt-CHUNK-clause-underway
returns-then-len-lt-CHUNK-clause-underway g c told bytes so_far place end is apart until =
    let D = g.D.Disk in
    adds bytes place end (D.kept c.args.disk.now) c.args.at c.args.buffer.now.items so_far is c.args.payload.now apart c.put_payload.new.buffer.items (c.in-Ok.ensures.is told)

pub returns-then-len-lt-CHUNK-clause-any_moment : goal.returns-then-len-lt-CHUNK-clause-any_moment
returns-then-len-lt-CHUNK-clause-any_moment g c told bytes so_far place end is until =
    let D = g.D.Disk in
    begun D.moment D.left_since c.args.disk.now (λ (image : List ℕ). StaysOutside bytes image place end)
    (λ image left. leaves_now bytes place end (D.kept c.args.disk.now) c.args.at c.args.buffer.now.items so_far is image (g.met.D.Disk.only_now c.args.disk.now image told left))

pub returns-clause-underway : goal.returns-clause-underway
returns-clause-underway g c told bytes so_far place end is apart until =
    let D = g.D.Disk in
    let kept = D.kept c.args.disk.now in
    let new = D.kept c.write_out.new.disk in
    let held = c.put_payload.new.buffer.items in
    let more = so_far ++ open_gate ∷ record_of (gathered_in true bytes c.args.payload.now) in
    let put = adds bytes place end kept c.args.at c.args.buffer.now.items so_far is c.args.payload.now apart held (c.in-Ok.ensures.is told) in
    let inside : c.args.at + length held ≤ end = omega (arith, c.put_payload.ensures.size, until) in
    if_ok (λ (next : ℕ). (next ≡ c.args.at + length held) × (c.write_out.new.buffer.items ≡ []))
    (λ (next : ℕ). IsUnderway bytes place end new next c.write_out.new.buffer.items more)
    c.write_out.result c.write_out.ensures.is
    (λ next ok facts.
    let step = writes bytes place end kept c.args.at held more put new ((c.write_out.ensures.writes told).done ok) inside in
    subst (λ (n : ℕ). IsUnderway bytes place end new n c.write_out.new.buffer.items more) (sym facts.0)
    (subst (λ (l : List ℕ). IsUnderway bytes place end new (c.args.at + length held) l more) (sym facts.1) step))

pub returns-clause-any_moment : goal.returns-clause-any_moment
returns-clause-any_moment g c told bytes so_far place end is until =
    let D = g.D.Disk in
    let kept = D.kept c.args.disk.now in
    let new = D.kept c.write_out.new.disk in
    let held = c.put_payload.new.buffer.items in
    let payload = c.args.payload.now in
    let piece = open_gate ∷ (big_bytes 4 (size_in payload) ++ gathered_in true kept.read payload) in
    let put = holds bytes place end kept c.args.at c.args.buffer.now.items so_far is held piece (c.in-Ok.ensures.is told) in
    let inside : c.args.at + length held ≤ end = omega (arith, c.put_payload.ensures.size, until) in
    let wrote = c.write_out.ensures.writes told in
    elapsed D.moment D.left_since c.args.disk.now c.write_out.new.disk new (λ (image : List ℕ). StaysOutside bytes image place end)
    (λ image left. leaves_now bytes place end kept c.args.at c.args.buffer.now.items so_far is image (g.met.D.Disk.only_now c.args.disk.now image told left))
    (c.write_out.ensures.time told)
    (λ image now. leaves_then bytes place end kept c.args.at held (so_far ++ piece) put new wrote.synced wrote.written inside image now)
