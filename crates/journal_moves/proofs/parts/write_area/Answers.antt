use Rattle.std.proofs.Common.{ℕ, ◌+◌, ◌≤◌, List, true, length, arith}
use Rattle.disk_model.proofs.Moments.{joined, weaker}
use Rattle.journal_areas.specs.Areas.{StandsFor}
use Rattle.journal_areas.specs.Format.{records}
use Rattle.journal_moves.specs.Gathering.{chunks, gathered, size_of_area, sizes_of}
use Rattle.journal_moves.specs.Writing.{StaysOutside}
use Rattle.journal_moves.proofs.Outcomes.{an_err, failed_more, failed_then, made_then, on_err, on_ok}
use Rattle.journal_moves.proofs.Steps.{area_apart, area_done, area_stays}
use Rattle.journal_moves.proofs.parts.write_area.Goals as goal

pub returns-in_err-at-clause-any_moment : goal.returns-in_err-at-clause-any_moment
returns-in_err-at-clause-any_moment g c told old lists is =
    let D = g.D.Disk in
    let kept = D.kept c.args.disk.now in
    let place = c.args.place in
    let payloads = c.args.payloads.now in
    let s = c.args.superblock.now in
    weaker D.moment D.left_since c.args.disk.now c.write_records.new.disk (λ (image : List ℕ). StaysOutside kept.read image place (place + size_of_area payloads)) (λ (image : List ℕ). StandsFor image old)
    (c.write_records.ensures.any_moment told is.is_at.keeps.rests (area_apart s kept old place payloads lists is))
    (λ image stays. area_stays s kept old place payloads lists is image stays)

pub returns-clause-done : goal.returns-clause-done
returns-clause-done g c told old lists is =
    let D = g.D.Disk in
    let kept = D.kept c.args.disk.now in
    let place = c.args.place in
    let payloads = c.args.payloads.now in
    let s = c.args.superblock.now in
    let end = place + size_of_area payloads in
    let facts = c.in_ok-at.ensures in
    let until : c.in_ok-at.at + (length c.write_records.new.buffer.items + 1) ≤ end = omega (arith, facts.ends.1) in
    let underway = facts.underway told is.is_at.keeps.rests (area_apart s kept old place payloads lists is) in
    on_ok c.finish.result (c.finish.ensures.done told kept.read (records (gathered true kept.read payloads)) place end underway until)
    (λ done. area_done s kept old place payloads lists is (D.kept c.finish.new.disk) done.0 done.1)

pub returns-clause-any_moment : goal.returns-clause-any_moment
returns-clause-any_moment g c told old lists is =
    let D = g.D.Disk in
    let kept = D.kept c.args.disk.now in
    let place = c.args.place in
    let payloads = c.args.payloads.now in
    let s = c.args.superblock.now in
    let end = place + size_of_area payloads in
    let facts = c.in_ok-at.ensures in
    let P : List ℕ → Type 0 = λ image. StaysOutside kept.read image place end in
    let until : c.in_ok-at.at + (length c.write_records.new.buffer.items + 1) ≤ end = omega (arith, facts.ends.1) in
    let apart = area_apart s kept old place payloads lists is in
    let underway = facts.underway told is.is_at.keeps.rests apart in
    joined D.moment D.left_since c.args.disk.now c.write_records.new.disk c.finish.new.disk P P (λ (image : List ℕ). StandsFor image old)
    (c.write_records.ensures.any_moment told is.is_at.keeps.rests apart)
    (c.finish.ensures.any_moment told kept.read (records (gathered true kept.read payloads)) place end underway until)
    (λ image stays. area_stays s kept old place payloads lists is image stays)
    (λ image stays. area_stays s kept old place payloads lists is image stays)

pub returns-clause-made : goal.returns-clause-made
returns-clause-made g c told =
    let D = g.D.Disk in
    on_ok c.finish.result (c.finish.ensures.made told)
    (λ two. made_then (D.fails c.args.disk.now) (D.fails c.write_records.new.disk) (D.fails c.finish.new.disk) (chunks 0 (sizes_of c.args.payloads.now)) 2 (c.in_ok-at.ensures.made told) two)

pub returns-in_err-at-clause-failed : goal.returns-in_err-at-clause-failed
returns-in_err-at-clause-failed g c told =
    let D = g.D.Disk in
    let n = chunks 0 (sizes_of c.args.payloads.now) in
    an_err c.from_residual.result (failed_more (D.fails c.args.disk.now) (n + 1) (n + 2) (omega arith) (c.in_err-at.ensures.failed told))

pub returns-clause-failed : goal.returns-clause-failed
returns-clause-failed g c told =
    let D = g.D.Disk in
    on_err c.finish.result (c.finish.ensures.failed told)
    (λ failed. failed_then (D.fails c.args.disk.now) (D.fails c.write_records.new.disk) (chunks 0 (sizes_of c.args.payloads.now)) 2 (c.in_ok-at.ensures.made told) failed)
