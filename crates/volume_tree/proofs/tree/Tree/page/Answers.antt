use Rattle.std.proofs.Common.{◌∙◌, map, ap, subst, refl, List, ℕ, Bor}
use Rattle.std.specs.Prelude.{Some}
use Rattle.volume_rows.specs.Paths.{path_in}
use Rattle.volume_rows.specs.Requests.{has_names, on_path, names_listed}
use Rattle.volume_rows.specs.Rows.{Volumes}
use Rattle.volume_tree.specs.Calls.{Comes}
use Rattle.volume_tree.proofs.Calling.{bad_path, good_path}
use Rattle.volume_tree.proofs.tree.Tree.page.Goals as goal

pub returns-in-Ok : goal.returns-in-Ok
returns-in-Ok c =
    subst (λ (v : Volumes). Comes c.list.result c.args.self.now v (on_path c.args.self.now (has_names 0 (path_in c.args.path.now)) (names_listed c.args.self.now c.args.who c.args.after.now))) c.self.view_is (good_path c.list.result c.self.inside.table c.args.self.now c.self.inside.table (has_names 0 (path_in c.args.path.now)) (map (λ name. name.now) c.as_slice.result.now) (λ v. names_listed v c.args.who c.args.after.now) c.self.view_is (ap (λ (names : List (Bor (List ℕ))). Some (map (λ name. name.now) names)) c.as_slice.ensures.value ∙ c.in-Ok.ensures.ok) (subst (λ (text : List ℕ). Comes c.list.result c.self.inside.table c.self.inside.table (names_listed c.self.inside.table c.args.who text (map (λ name. name.now) c.as_slice.result.now))) c.as_str.ensures c.list.ensures))

pub returns-in-Err : goal.returns-in-Err
returns-in-Err c =
    bad_path c.args.self.now c.args.self.now c.in-Err.why (has_names 0 (path_in c.args.path.now)) (names_listed c.args.self.now c.args.who c.args.after.now) refl c.in-Err.ensures.err
