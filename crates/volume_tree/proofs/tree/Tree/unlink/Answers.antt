use Rattle.std.proofs.Common.{◌∙◌, map, refl, ap, List, ℕ, Bor}
use Rattle.std.specs.Prelude.{Some}
use Rattle.volume_rows.specs.Paths.{path_in}
use Rattle.volume_rows.specs.Requests.{has_names, file_unlinked}
use Rattle.volume_tree.proofs.Calling.{bad_path, good_path}
use Rattle.volume_tree.proofs.tree.Tree.unlink.Goals as goal

pub returns-in-Ok : goal.returns-in-Ok
returns-in-Ok c =
    good_path c.unlink_file.result c.self.inside.table c.args.self.now c.unlink_file.new.table (has_names 1 (path_in c.args.path.now)) (map (λ name. name.now) c.as_slice.result.now) (λ v. file_unlinked v c.args.who) c.self.view_is (ap (λ (names : List (Bor (List ℕ))). Some (map (λ name. name.now) names)) c.as_slice.ensures.value ∙ c.in-Ok.ensures.ok) c.unlink_file.ensures

pub returns-in-Err : goal.returns-in-Err
returns-in-Err c =
    bad_path c.args.self.now c.args.self.now c.in-Err.why (has_names 1 (path_in c.args.path.now)) (file_unlinked c.args.self.now c.args.who) refl c.in-Err.ensures.err
