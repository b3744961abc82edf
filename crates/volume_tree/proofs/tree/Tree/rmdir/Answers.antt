use Rattle.std.proofs.Common.{◌∙◌, map, refl, ap, List, ℕ, Bor}
use Rattle.std.specs.Prelude.{Some}
use Rattle.volume_rows.specs.Paths.{path_in}
use Rattle.volume_rows.specs.Requests.{has_names, directory_removed}
use Rattle.volume_tree.proofs.Calling.{bad_path, good_path}
use Rattle.volume_tree.proofs.tree.Tree.rmdir.Goals as goal

pub returns-in-Ok : goal.returns-in-Ok
returns-in-Ok c =
    good_path c.remove_directory.result c.self.inside.table c.args.self.now c.remove_directory.new.table (has_names 1 (path_in c.args.path.now)) (map (λ name. name.now) c.as_slice.result.now) (λ v. directory_removed v c.args.who) c.self.view_is (ap (λ (names : List (Bor (List ℕ))). Some (map (λ name. name.now) names)) c.as_slice.ensures.value ∙ c.in-Ok.ensures.ok) c.remove_directory.ensures

pub returns-in-Err : goal.returns-in-Err
returns-in-Err c =
    bad_path c.args.self.now c.args.self.now c.in-Err.why (has_names 1 (path_in c.args.path.now)) (directory_removed c.args.self.now c.args.who) refl c.in-Err.ensures.err
