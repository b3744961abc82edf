use Rattle.std.proofs.Common.{◌+◌, inl, ℕ, List, Some, sym, ◌∙◌, ap, subst, arith}
use Rattle.disk_model.proofs.Moments.{joined, weaker}
use Rattle.journal_areas.specs.Superblocks.{current}
use Rattle.journal_areas.specs.Areas.{StandsFor}
use Rattle.journal_areas.specs.Kept.{KeepsIn}
use Rattle.journal_areas.specs.Sites.{number_after, is_second, superblock_at, slot_at}
use Rattle.journal_moves.specs.Gathering.{area_calls, sizes_of}
use Rattle.journal_moves.specs.Moves.{Stages, IsEither, MakesCalls, FailsWithin, shut_calls, ready_calls, move_calls}
use Rattle.journal_areas.specs.declared.superblock.Superblock.{Superblock}
use Rattle.journal_moves.proofs.Steps.{shut_same, numbered_facts, opened_is, new_area}
use Rattle.journal_moves.proofs.Outcomes.{an_err, made_then, failed_then, failed_more}
use Rattle.journal_moves.proofs.Stopped.{stopped_early, stopped_then}
use Rattle.journal_moves.proofs.moving.move_on.Goals as goal

pub returns-in_err-write_area-clause-any_moment : goal.returns-in_err-write_area-clause-any_moment
returns-in_err-write_area-clause-any_moment g c told old lists move =
    let D = g.D.Disk in
    let P : List ℕ → Type 0 = λ image. StandsFor image old in
    let slot = c.args.slot.now in
    let ready = c.in_ok-superblock.ensures in
    let s = c.in_ok-superblock.superblock in
    let new = new_area c.args.at.now.superblock (D.kept c.args.disk.now) (D.kept c.ready.new.disk) c.args.at.now.end old slot c.args.payloads.now c.args.numbers.now lists s move ready.is
    (ready.done told old move.is_at) (ready.stays told old move.is_at) in
    let one =
    joined D.moment D.left_since c.args.disk.now c.ready.new.disk c.write_area.new.disk P P P (c.ready.ensures.any_moment told old move.is_at)
    (c.write_area.ensures.any_moment told old lists new) (λ image p. p) (λ image p. p) in
    weaker D.moment D.left_since c.args.disk.now c.write_area.new.disk P (IsEither old lists) one (λ image p. inl p)

pub returns-in_err-numbered-clause-any_moment : goal.returns-in_err-numbered-clause-any_moment
returns-in_err-numbered-clause-any_moment g c told old lists move =
    let D = g.D.Disk in
    let P : List ℕ → Type 0 = λ image. StandsFor image old in
    let slot = c.args.slot.now in
    let ready = c.in_ok-superblock.ensures in
    let s = c.in_ok-superblock.superblock in
    let new = new_area c.args.at.now.superblock (D.kept c.args.disk.now) (D.kept c.ready.new.disk) c.args.at.now.end old slot c.args.payloads.now c.args.numbers.now lists s move ready.is
    (ready.done told old move.is_at) (ready.stays told old move.is_at) in
    let one =
    joined D.moment D.left_since c.args.disk.now c.ready.new.disk c.write_area.new.disk P P P (c.ready.ensures.any_moment told old move.is_at)
    (c.write_area.ensures.any_moment told old lists new) (λ image p. p) (λ image p. p) in
    let stage = c.in_ok-write_area.ensures.done told old lists new in
    let which = c.is_second-second.ensures in
    let two =
    joined D.moment D.left_since c.args.disk.now c.write_area.new.disk c.number_slot.new.disk P P P one
    (c.number_slot.ensures.any_moment told old lists slot.place stage which) (λ image p. p) (λ image p. p) in
    weaker D.moment D.left_since c.args.disk.now c.number_slot.new.disk P (IsEither old lists) two (λ image p. inl p)

pub returns-in_err-open_slot-clause-any_moment : goal.returns-in_err-open_slot-clause-any_moment
returns-in_err-open_slot-clause-any_moment g c told old lists move =
    let D = g.D.Disk in
    let P : List ℕ → Type 0 = λ image. StandsFor image old in
    let slot = c.args.slot.now in
    let ready = c.in_ok-superblock.ensures in
    let s = c.in_ok-superblock.superblock in
    let new = new_area c.args.at.now.superblock (D.kept c.args.disk.now) (D.kept c.ready.new.disk) c.args.at.now.end old slot c.args.payloads.now c.args.numbers.now lists s move ready.is
    (ready.done told old move.is_at) (ready.stays told old move.is_at) in
    let one =
    joined D.moment D.left_since c.args.disk.now c.ready.new.disk c.write_area.new.disk P P P (c.ready.ensures.any_moment told old move.is_at)
    (c.write_area.ensures.any_moment told old lists new) (λ image p. p) (λ image p. p) in
    let stage = c.in_ok-write_area.ensures.done told old lists new in
    let which = c.is_second-second.ensures in
    let two =
    joined D.moment D.left_since c.args.disk.now c.write_area.new.disk c.number_slot.new.disk P P P one
    (c.number_slot.ensures.any_moment told old lists slot.place stage which) (λ image p. p) (λ image p. p) in
    let numbered = c.in_ok-numbered.ensures in
    let next = move.number ∙ ap (λ (u : Superblock). number_after (current u)) (sym ready.is) in
    let facts = numbered_facts c.is_second-second.result s c.in_ok-numbered.numbered slot which next numbered.is in
    let last =
    subst (λ (u : Superblock). Stages u (D.kept c.number_slot.new.disk) old slot.place lists) (sym numbered.is) (numbered.done told old lists slot.place stage which move.numbers_are move.fits) in
    joined D.moment D.left_since c.args.disk.now c.number_slot.new.disk c.open_slot.new.disk P (IsEither old lists) (IsEither old lists) two
    (c.open_slot.ensures.any_moment told old lists slot.place last facts.0 facts.1) (λ image p. inl p) (λ image p. p)

pub returns-clause-any_moment : goal.returns-clause-any_moment
returns-clause-any_moment g c told old lists move =
    let D = g.D.Disk in
    let P : List ℕ → Type 0 = λ image. StandsFor image old in
    let slot = c.args.slot.now in
    let ready = c.in_ok-superblock.ensures in
    let s = c.in_ok-superblock.superblock in
    let new = new_area c.args.at.now.superblock (D.kept c.args.disk.now) (D.kept c.ready.new.disk) c.args.at.now.end old slot c.args.payloads.now c.args.numbers.now lists s move ready.is
    (ready.done told old move.is_at) (ready.stays told old move.is_at) in
    let one =
    joined D.moment D.left_since c.args.disk.now c.ready.new.disk c.write_area.new.disk P P P (c.ready.ensures.any_moment told old move.is_at)
    (c.write_area.ensures.any_moment told old lists new) (λ image p. p) (λ image p. p) in
    let stage = c.in_ok-write_area.ensures.done told old lists new in
    let which = c.is_second-second.ensures in
    let two =
    joined D.moment D.left_since c.args.disk.now c.write_area.new.disk c.number_slot.new.disk P P P one
    (c.number_slot.ensures.any_moment told old lists slot.place stage which) (λ image p. p) (λ image p. p) in
    let numbered = c.in_ok-numbered.ensures in
    let next = move.number ∙ ap (λ (u : Superblock). number_after (current u)) (sym ready.is) in
    let facts = numbered_facts c.is_second-second.result s c.in_ok-numbered.numbered slot which next numbered.is in
    let last =
    subst (λ (u : Superblock). Stages u (D.kept c.number_slot.new.disk) old slot.place lists) (sym numbered.is) (numbered.done told old lists slot.place stage which move.numbers_are move.fits) in
    joined D.moment D.left_since c.args.disk.now c.number_slot.new.disk c.open_slot.new.disk P (IsEither old lists) (IsEither old lists) two
    (c.open_slot.ensures.any_moment told old lists slot.place last facts.0 facts.1) (λ image p. inl p) (λ image p. p)

pub returns-clause-done : goal.returns-clause-done
returns-clause-done g c told old lists move =
    let D = g.D.Disk in
    let P : List ℕ → Type 0 = λ image. StandsFor image old in
    let slot = c.args.slot.now in
    let ready = c.in_ok-superblock.ensures in
    let s = c.in_ok-superblock.superblock in
    let new = new_area c.args.at.now.superblock (D.kept c.args.disk.now) (D.kept c.ready.new.disk) c.args.at.now.end old slot c.args.payloads.now c.args.numbers.now lists s move ready.is
    (ready.done told old move.is_at) (ready.stays told old move.is_at) in
    let stage = c.in_ok-write_area.ensures.done told old lists new in
    let which = c.is_second-second.ensures in
    let numbered = c.in_ok-numbered.ensures in
    let next = move.number ∙ ap (λ (u : Superblock). number_after (current u)) (sym ready.is) in
    let facts = numbered_facts c.is_second-second.result s c.in_ok-numbered.numbered slot which next numbered.is in
    let last =
    subst (λ (u : Superblock). Stages u (D.kept c.number_slot.new.disk) old slot.place lists) (sym numbered.is) (numbered.done told old lists slot.place stage which move.numbers_are move.fits) in
    subst (λ (u : Superblock). KeepsIn (Some u) (D.kept c.open_slot.new.disk) lists)
    (opened_is c.is_second-second.result s c.in_ok-numbered.numbered (superblock_at c.args.at.now.superblock c.args.at.now.end) slot which move.opens numbered.is ready.is)
    (c.in_ok-open_slot.ensures.done told old lists slot.place last facts.0 facts.1)

pub returns-in_err-superblock-clause-failed : goal.returns-in_err-superblock-clause-failed
returns-in_err-superblock-clause-failed g c told =
    let D = g.D.Disk in
    let n = ready_calls c.args.at.now.superblock in
    let w = area_calls (sizes_of c.args.payloads.now) in
    let a = D.fails c.args.disk.now in
    an_err c.from_residual.result (failed_more a n (move_calls c.args.at.now.superblock c.args.at.now.end (sizes_of c.args.payloads.now)) (omega arith) (c.in_err-superblock.ensures.failed told))

pub returns-in_err-write_area-clause-failed : goal.returns-in_err-write_area-clause-failed
returns-in_err-write_area-clause-failed g c told =
    let D = g.D.Disk in
    let n = ready_calls c.args.at.now.superblock in
    let w = area_calls (sizes_of c.args.payloads.now) in
    let a = D.fails c.args.disk.now in
    an_err c.from_residual-in_err-write_area.result (failed_more a (n + w) (move_calls c.args.at.now.superblock c.args.at.now.end (sizes_of c.args.payloads.now)) (omega arith)
    (failed_then a (D.fails c.ready.new.disk) n w (c.in_ok-superblock.ensures.made told) (c.in_err-write_area.ensures.failed told)))

pub returns-in_err-numbered-clause-failed : goal.returns-in_err-numbered-clause-failed
returns-in_err-numbered-clause-failed g c told =
    let D = g.D.Disk in
    let n = ready_calls c.args.at.now.superblock in
    let w = area_calls (sizes_of c.args.payloads.now) in
    let a = D.fails c.args.disk.now in
    let one : MakesCalls (n + w) a (D.fails c.write_area.new.disk) =
    made_then a (D.fails c.ready.new.disk) (D.fails c.write_area.new.disk) n w (c.in_ok-superblock.ensures.made told) (c.in_ok-write_area.ensures.made told) in
    let z = superblock_at c.args.at.now.superblock c.args.at.now.end in
    let m = shut_calls (slot_at (is_second z) z).gate + 2 in
    let same = shut_same c.is_second-second.result c.in_ok-superblock.superblock z c.in_ok-superblock.ensures.is c.is_second-second.ensures in
    an_err c.from_residual-in_err-numbered.result (failed_more a (n + w + m) (move_calls c.args.at.now.superblock c.args.at.now.end (sizes_of c.args.payloads.now)) (omega arith)
    (failed_then a (D.fails c.write_area.new.disk) (n + w) m one (subst (λ (k : ℕ). FailsWithin (k + 2) (D.fails c.write_area.new.disk)) same (c.in_err-numbered.ensures.failed told))))

pub returns-in_err-open_slot-clause-failed : goal.returns-in_err-open_slot-clause-failed
returns-in_err-open_slot-clause-failed g c told =
    let D = g.D.Disk in
    let n = ready_calls c.args.at.now.superblock in
    let w = area_calls (sizes_of c.args.payloads.now) in
    let a = D.fails c.args.disk.now in
    let one : MakesCalls (n + w) a (D.fails c.write_area.new.disk) =
    made_then a (D.fails c.ready.new.disk) (D.fails c.write_area.new.disk) n w (c.in_ok-superblock.ensures.made told) (c.in_ok-write_area.ensures.made told) in
    let z = superblock_at c.args.at.now.superblock c.args.at.now.end in
    let m = shut_calls (slot_at (is_second z) z).gate + 2 in
    let same = shut_same c.is_second-second.result c.in_ok-superblock.superblock z c.in_ok-superblock.ensures.is c.is_second-second.ensures in
    let two : MakesCalls (n + w + m) a (D.fails c.number_slot.new.disk) =
    made_then a (D.fails c.write_area.new.disk) (D.fails c.number_slot.new.disk) (n + w) m one
    (subst (λ (k : ℕ). MakesCalls (k + 2) (D.fails c.write_area.new.disk) (D.fails c.number_slot.new.disk)) same (c.in_ok-numbered.ensures.made told)) in
    an_err c.from_residual-in_err-open_slot.result (failed_then a (D.fails c.number_slot.new.disk) (n + w + m) 2 two (c.in_err-open_slot.ensures.failed told))

pub returns-in_err-superblock-clause-stopped : goal.returns-in_err-superblock-clause-stopped
returns-in_err-superblock-clause-stopped g c told old lists move =
    let D = g.D.Disk in
    let n = ready_calls c.args.at.now.superblock in
    let w = area_calls (sizes_of c.args.payloads.now) in
    let run = c.ready.ensures.any_moment told old move.is_at in
    an_err c.from_residual.result
    (stopped_early (D.fails c.args.disk.now) (D.kept c.ready.new.disk) n (move_calls c.args.at.now.superblock c.args.at.now.end (sizes_of c.args.payloads.now)) old lists (omega arith)
    (c.in_err-superblock.ensures.failed told)
    (λ image is. run.each image (g.met.D.Disk.counts_now c.ready.new.disk (D.moment c.args.disk.now) image told run.later is)))

pub returns-in_err-write_area-clause-stopped : goal.returns-in_err-write_area-clause-stopped
returns-in_err-write_area-clause-stopped g c told old lists move =
    let D = g.D.Disk in
    let n = ready_calls c.args.at.now.superblock in
    let w = area_calls (sizes_of c.args.payloads.now) in
    let a = D.fails c.args.disk.now in
    let slot = c.args.slot.now in
    let ready = c.in_ok-superblock.ensures in
    let s = c.in_ok-superblock.superblock in
    let new = new_area c.args.at.now.superblock (D.kept c.args.disk.now) (D.kept c.ready.new.disk) c.args.at.now.end old slot c.args.payloads.now c.args.numbers.now lists s move ready.is
    (ready.done told old move.is_at) (ready.stays told old move.is_at) in
    let run = c.write_area.ensures.any_moment told old lists new in
    an_err c.from_residual-in_err-write_area.result
    (stopped_early a (D.kept c.write_area.new.disk) (n + w) (move_calls c.args.at.now.superblock c.args.at.now.end (sizes_of c.args.payloads.now)) old lists (omega arith)
    (failed_then a (D.fails c.ready.new.disk) n w (ready.made told) (c.in_err-write_area.ensures.failed told))
    (λ image is. run.each image (g.met.D.Disk.counts_now c.write_area.new.disk (D.moment c.ready.new.disk) image told run.later is)))

pub returns-in_err-numbered-clause-stopped : goal.returns-in_err-numbered-clause-stopped
returns-in_err-numbered-clause-stopped g c told old lists move =
    let D = g.D.Disk in
    let n = ready_calls c.args.at.now.superblock in
    let w = area_calls (sizes_of c.args.payloads.now) in
    let a = D.fails c.args.disk.now in
    let slot = c.args.slot.now in
    let ready = c.in_ok-superblock.ensures in
    let s = c.in_ok-superblock.superblock in
    let new = new_area c.args.at.now.superblock (D.kept c.args.disk.now) (D.kept c.ready.new.disk) c.args.at.now.end old slot c.args.payloads.now c.args.numbers.now lists s move ready.is
    (ready.done told old move.is_at) (ready.stays told old move.is_at) in
    let stage = c.in_ok-write_area.ensures.done told old lists new in
    let which = c.is_second-second.ensures in
    let run = c.number_slot.ensures.any_moment told old lists slot.place stage which in
    let one : MakesCalls (n + w) a (D.fails c.write_area.new.disk) =
    made_then a (D.fails c.ready.new.disk) (D.fails c.write_area.new.disk) n w (ready.made told) (c.in_ok-write_area.ensures.made told) in
    let z = superblock_at c.args.at.now.superblock c.args.at.now.end in
    let m = shut_calls (slot_at (is_second z) z).gate + 2 in
    let same = shut_same c.is_second-second.result s z ready.is which in
    an_err c.from_residual-in_err-numbered.result
    (stopped_early a (D.kept c.number_slot.new.disk) (n + w + m) (move_calls c.args.at.now.superblock c.args.at.now.end (sizes_of c.args.payloads.now)) old lists (omega arith)
    (failed_then a (D.fails c.write_area.new.disk) (n + w) m one (subst (λ (k : ℕ). FailsWithin (k + 2) (D.fails c.write_area.new.disk)) same (c.in_err-numbered.ensures.failed told)))
    (λ image is. run.each image (g.met.D.Disk.counts_now c.number_slot.new.disk (D.moment c.write_area.new.disk) image told run.later is)))

pub returns-in_err-open_slot-clause-stopped : goal.returns-in_err-open_slot-clause-stopped
returns-in_err-open_slot-clause-stopped g c told old lists move =
    let D = g.D.Disk in
    let n = ready_calls c.args.at.now.superblock in
    let w = area_calls (sizes_of c.args.payloads.now) in
    let a = D.fails c.args.disk.now in
    let slot = c.args.slot.now in
    let ready = c.in_ok-superblock.ensures in
    let s = c.in_ok-superblock.superblock in
    let new = new_area c.args.at.now.superblock (D.kept c.args.disk.now) (D.kept c.ready.new.disk) c.args.at.now.end old slot c.args.payloads.now c.args.numbers.now lists s move ready.is
    (ready.done told old move.is_at) (ready.stays told old move.is_at) in
    let stage = c.in_ok-write_area.ensures.done told old lists new in
    let which = c.is_second-second.ensures in
    let numbered = c.in_ok-numbered.ensures in
    let next = move.number ∙ ap (λ (u : Superblock). number_after (current u)) (sym ready.is) in
    let facts = numbered_facts c.is_second-second.result s c.in_ok-numbered.numbered slot which next numbered.is in
    let last =
    subst (λ (u : Superblock). Stages u (D.kept c.number_slot.new.disk) old slot.place lists) (sym numbered.is) (numbered.done told old lists slot.place stage which move.numbers_are move.fits) in
    let one : MakesCalls (n + w) a (D.fails c.write_area.new.disk) =
    made_then a (D.fails c.ready.new.disk) (D.fails c.write_area.new.disk) n w (ready.made told) (c.in_ok-write_area.ensures.made told) in
    let z = superblock_at c.args.at.now.superblock c.args.at.now.end in
    let m = shut_calls (slot_at (is_second z) z).gate + 2 in
    let same = shut_same c.is_second-second.result s z ready.is which in
    let two : MakesCalls (n + w + m) a (D.fails c.number_slot.new.disk) =
    made_then a (D.fails c.write_area.new.disk) (D.fails c.number_slot.new.disk) (n + w) m one
    (subst (λ (k : ℕ). MakesCalls (k + 2) (D.fails c.write_area.new.disk) (D.fails c.number_slot.new.disk)) same (numbered.made told)) in
    an_err c.from_residual-in_err-open_slot.result
    (stopped_then a (D.fails c.number_slot.new.disk) (D.kept c.open_slot.new.disk) (n + w + m) 2 old lists two
    (c.in_err-open_slot.ensures.stopped told old lists slot.place last facts.0 facts.1))

pub returns-clause-made : goal.returns-clause-made
returns-clause-made g c told =
    let D = g.D.Disk in
    let n = ready_calls c.args.at.now.superblock in
    let w = area_calls (sizes_of c.args.payloads.now) in
    let a = D.fails c.args.disk.now in
    let one : MakesCalls (n + w) a (D.fails c.write_area.new.disk) =
    made_then a (D.fails c.ready.new.disk) (D.fails c.write_area.new.disk) n w (c.in_ok-superblock.ensures.made told) (c.in_ok-write_area.ensures.made told) in
    let z = superblock_at c.args.at.now.superblock c.args.at.now.end in
    let m = shut_calls (slot_at (is_second z) z).gate + 2 in
    let same = shut_same c.is_second-second.result c.in_ok-superblock.superblock z c.in_ok-superblock.ensures.is c.is_second-second.ensures in
    let two : MakesCalls (n + w + m) a (D.fails c.number_slot.new.disk) =
    made_then a (D.fails c.write_area.new.disk) (D.fails c.number_slot.new.disk) (n + w) m one
    (subst (λ (k : ℕ). MakesCalls (k + 2) (D.fails c.write_area.new.disk) (D.fails c.number_slot.new.disk)) same (c.in_ok-numbered.ensures.made told)) in
    made_then a (D.fails c.number_slot.new.disk) (D.fails c.open_slot.new.disk) (n + w + m) 2 two (c.in_ok-open_slot.ensures.made told)
