use Rattle.std.proofs.Common.{◌≡◌, ◌<◌, ◌≤◌, ◌+◌, rules}
use Rattle.xt_base.specs.Faults.{counted}
use Rattle.check_job.proofs.Bare.{has_room, is_full}
use Rattle.check_job.proofs.checking.status_at.Goals as goal

pub returns-then-limit-need : goal.returns-then-limit-need
returns-then-limit-need c =
    let over : c.args.limit < c.saturating_add-need.result = search rules in
    let need : c.saturating_add-need.result ≡ counted (c.args.long + 14) = search rules in
    λ records. is_full records c.args.long c.args.limit c.saturating_add-need.result need over

pub returns-else-limit-need : goal.returns-else-limit-need
returns-else-limit-need c =
    let under : c.saturating_add-need.result ≤ c.args.limit = search rules in
    let need : c.saturating_add-need.result ≡ counted (c.args.long + 14) = search rules in
    λ records. has_room records c.args.long c.args.limit c.saturating_add-need.result need under
