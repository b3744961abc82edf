use Rattle.std.proofs.Common.{ℕ, List, Option, subst, sym}
use Rattle.disk_model.proofs.Moments.{begun}
use Rattle.journal_areas.specs.Areas.{StandsFor}
use Rattle.journal_moves.proofs.Steps.{rests_in}
use Rattle.journal_moves.proofs.Outcomes.{made_none}
use Rattle.journal_moves.specs.Moves.{MakesCalls, ready_calls}
use Rattle.journal_areas.specs.declared.superblock.Superblock.{Superblock}
use Rattle.journal_moves.proofs.parts.ready.Goals as goal

pub returns-in-Some-clause-any_moment : goal.returns-in-Some-clause-any_moment
returns-in-Some-clause-any_moment g c told old is =
    let D = g.D.Disk in
    begun D.moment D.left_since c.args.disk.now (λ (image : List ℕ). StandsFor image old)
    (λ image left. rests_in c.args.at.now.superblock (D.kept c.args.disk.now) old image is.keeps (g.met.D.Disk.only_now c.args.disk.now image told left))

pub returns-in-Some-clause-made : goal.returns-in-Some-clause-made
returns-in-Some-clause-made g c told =
    let D = g.D.Disk in
    subst (λ (o : Option Superblock). MakesCalls (ready_calls o) (D.fails c.args.disk.now) (D.fails c.args.disk.now)) (sym c.in-Some.is) (made_none (D.fails c.args.disk.now))
