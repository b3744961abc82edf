use Rattle.std.proofs.Common.{sym, subst, Option}
use Rattle.change_rows.specs.Coordinating.{Running, running_of}
use Rattle.list_changes.specs.Lists.{placed_by}
use Rattle.file_numbers.specs.Chosen.{Stands}
use Rattle.file_numbers.specs.Laws.{IsInForce}
use Rattle.file_numbers.proofs.Lists.{force_one, force_version}
use Rattle.file_numbers.proofs.lists_in_force_were_chosen.Goals as goal

pub returns-clause-one : goal.returns-clause-one
returns-clause-one c made chosen listed rows running file follow stands = force_one made chosen listed follow rows (running_of running file) stands

pub returns-clause-version : goal.returns-clause-version
returns-clause-version c made chosen listed rows running file r follow is stands =
    subst (λ (o : Option Running). IsInForce made listed (placed_by made o)) (sym is)
    (force_version made chosen listed follow rows r (subst (λ (o : Option Running). Stands made chosen listed rows o) is stands))
