use Rattle.std.proofs.Common.{◌∙◌, map, ap, List, ℕ, Bor}
use Rattle.std.specs.Prelude.{Some}
use Rattle.volume_rows.specs.Paths.{path_in}
use Rattle.volume_rows.specs.Requests.{has_names}
use Rattle.volume_tree.proofs.Calling.{bad_grant, good_grant}
use Rattle.volume_tree.proofs.tree.Tree.grant.Goals as goal

pub returns-in-Ok : goal.returns-in-Ok
returns-in-Ok c =
    good_grant c.grant_file.result c.self.inside.table c.args.self.now c.args.who c.args.want (has_names 1 (path_in c.args.path.now)) (map (λ name. name.now) c.as_slice.result.now) c.self.view_is (ap (λ (names : List (Bor (List ℕ))). Some (map (λ name. name.now) names)) c.as_slice.ensures.value ∙ c.in-Ok.ensures.ok) c.grant_file.ensures

pub returns-in-Err : goal.returns-in-Err
returns-in-Err c = bad_grant c.args.self.now c.args.who c.args.want c.in-Err.why (has_names 1 (path_in c.args.path.now)) c.in-Err.ensures.err
