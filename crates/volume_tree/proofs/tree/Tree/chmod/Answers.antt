use Rattle.std.proofs.Common.{◌∙◌, map, refl, ap, List, ℕ, Bor}
use Rattle.std.specs.Prelude.{Some}
use Rattle.volume_rows.specs.Paths.{path_in}
use Rattle.volume_rows.specs.Requests.{has_names, mode_set}
use Rattle.volume_tree.proofs.Calling.{bad_path, good_path}
use Rattle.volume_tree.proofs.tree.Tree.chmod.Goals as goal

pub returns-in-Ok : goal.returns-in-Ok
returns-in-Ok c =
    good_path c.set_mode.result c.self.inside.table c.args.self.now c.set_mode.new.table (has_names 1 (path_in c.args.path.now)) (map (λ name. name.now) c.as_slice.result.now) (λ v. mode_set v c.args.who c.args.mode) c.self.view_is (ap (λ (names : List (Bor (List ℕ))). Some (map (λ name. name.now) names)) c.as_slice.ensures.value ∙ c.in-Ok.ensures.ok) c.set_mode.ensures

pub returns-in-Err : goal.returns-in-Err
returns-in-Err c =
    bad_path c.args.self.now c.args.self.now c.in-Err.why (has_names 1 (path_in c.args.path.now)) (mode_set c.args.self.now c.args.who c.args.mode) refl c.in-Err.ensures.err
