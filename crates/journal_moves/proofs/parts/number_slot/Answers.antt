use Rattle.std.proofs.Common.{◌+◌, ℕ, List, sym, subst, arith}
use Rattle.disk_model.proofs.Moments.{joined}
use Rattle.journal_areas.specs.Areas.{StandsFor}
use Rattle.journal_moves.specs.Moves.{Stages, shut_calls}
use Rattle.journal_areas.specs.declared.superblock.Superblock.{Superblock}
use Rattle.journal_moves.proofs.Steps.{shut_facts}
use Rattle.journal_moves.proofs.Outcomes.{an_err, made_then, failed_then, failed_more}
use Rattle.journal_areas.specs.Sites.{slot_at}
use Rattle.journal_moves.proofs.parts.number_slot.Goals as goal

pub returns-in_err-write_numbers-clause-any_moment : goal.returns-in_err-write_numbers-clause-any_moment
returns-in_err-write_numbers-clause-any_moment g c told old payloads place is which =
    let D = g.D.Disk in
    let P : List ℕ → Type 0 = λ image. StandsFor image old in
    let shut = c.in_ok-shut.ensures in
    let facts = shut_facts c.args.second c.args.superblock.now c.in_ok-shut.shut which shut.is in
    let stage = subst (λ (u : Superblock). Stages u (D.kept c.shut_slot.new.disk) old place payloads) (sym shut.is) (shut.done told old payloads place is which) in
    joined D.moment D.left_since c.args.disk.now c.shut_slot.new.disk c.write_numbers.new.disk P P P
    (c.shut_slot.ensures.any_moment told old payloads place is which) (c.write_numbers.ensures.any_moment told old payloads place stage facts.0 facts.1)
    (λ image p. p) (λ image p. p)

pub returns-clause-any_moment : goal.returns-clause-any_moment
returns-clause-any_moment g c told old payloads place is which =
    let D = g.D.Disk in
    let P : List ℕ → Type 0 = λ image. StandsFor image old in
    let shut = c.in_ok-shut.ensures in
    let facts = shut_facts c.args.second c.args.superblock.now c.in_ok-shut.shut which shut.is in
    let stage = subst (λ (u : Superblock). Stages u (D.kept c.shut_slot.new.disk) old place payloads) (sym shut.is) (shut.done told old payloads place is which) in
    joined D.moment D.left_since c.args.disk.now c.shut_slot.new.disk c.write_numbers.new.disk P P P
    (c.shut_slot.ensures.any_moment told old payloads place is which) (c.write_numbers.ensures.any_moment told old payloads place stage facts.0 facts.1)
    (λ image p. p) (λ image p. p)

pub returns-in_err-shut-clause-failed : goal.returns-in_err-shut-clause-failed
returns-in_err-shut-clause-failed g c told =
    let D = g.D.Disk in
    an_err c.from_residual.result (failed_more (D.fails c.args.disk.now) (shut_calls (slot_at c.args.second c.args.superblock.now).gate) (shut_calls (slot_at c.args.second c.args.superblock.now).gate + 2) (omega arith)
    (c.in_err-shut.ensures.failed told))

pub returns-in_err-write_numbers-clause-failed : goal.returns-in_err-write_numbers-clause-failed
returns-in_err-write_numbers-clause-failed g c told =
    let D = g.D.Disk in
    an_err c.from_residual-in_err-write_numbers.result (failed_then (D.fails c.args.disk.now) (D.fails c.shut_slot.new.disk) (shut_calls (slot_at c.args.second c.args.superblock.now).gate) 2
    (c.in_ok-shut.ensures.made told) (c.in_err-write_numbers.ensures.failed told))

pub returns-clause-made : goal.returns-clause-made
returns-clause-made g c told =
    let D = g.D.Disk in
    made_then (D.fails c.args.disk.now) (D.fails c.shut_slot.new.disk) (D.fails c.write_numbers.new.disk) (shut_calls (slot_at c.args.second c.args.superblock.now).gate) 2 (c.in_ok-shut.ensures.made told) (c.in_ok-write_numbers.ensures.made told)
