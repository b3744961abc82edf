-- what is taken out where nothing is below a path
use Rattle.std.proofs.Common.{◌≡◌, ◌∙◌, List, [], ◌∷◌, map, refl, sym, ap, subst, Bool, true, false, cond}
use Rattle.std.specs.Prelude.{Option, Some, None, IfSome}
use Rattle.std.specs.List.{cons_option}
use Rattle.volume_rows.specs.declared.Entry.{Entry}
use Rattle.volume_rows.specs.Paths.{Path, name_in}
use Rattle.volume_rows.specs.Rows.{Row, entry_in, names_in, rows_within, rows_outside, without_row}
use Rattle.volume_rows.specs.Rights.{is_directory}
use Rattle.name_tree.specs.Trees.{under, rows_under, IsTree}
use Rattle.name_tree.proofs.Removing.{entry_within, names_within, none_out, one_out, under_names, top_path}
use Rattle.volume_tree.specs.Tables.{HasNothing}

-- a subtree that is taken out where nothing is below its top is its top
pub bare : (path : Path) (top : Row) (rest rows : List Row) → IsTree (top ∷ rest) → map (under path) (top ∷ rest) ≡ rows_within path rows → HasNothing (entry_in rows path) (names_in rows path) → rest ≡ []
bare path top rest rows tree taken nothing =
    go (is_directory top.entry.content) refl where
      here : entry_in rows path ≡ Some top.entry
      here = entry_within path rows ∙ ap (λ (list : List Row). entry_in list path) (sym taken) ∙ ap (λ (b : Bool). cond b (Some top.entry) (entry_in (map (under path) rest) path)) (top_path path top tree.at_top)

      names : names_in rows path ≡ names_in rest []
      names = names_within path rows ∙ ap (λ (list : List Row). names_in list path) (sym taken) ∙ under_names path (top ∷ rest) ∙ ap (λ (p : Path). cons_option (name_in [] p) (names_in rest [])) tree.at_top

      go : (b : Bool) → is_directory top.entry.content ≡ b → rest ≡ []
      go false e = tree.leaf e
      go true e = tree.bare (sym names ∙ subst (λ (o : Option Entry). HasNothing o (names_in rows path)) here nothing e)

pub taken_out : (path : Path) (rows : List Row) (taken : Option (List Row)) → IfSome taken (λ node. IsTree node) → rows_under path taken ≡ rows_within path rows → HasNothing (entry_in rows path) (names_in rows path) → rows_outside path rows ≡ without_row rows path
taken_out path rows None tree taken nothing = none_out path rows (sym taken)
taken_out path rows (Some []) tree taken nothing = absurd tree
taken_out path rows (Some (top ∷ rest)) tree taken nothing =
    let alone = bare path top rest rows tree taken nothing in
    one_out path (under path top) rows (sym taken ∙ ap (λ (list : List Row). under path top ∷ map (under path) list) alone) (top_path path top tree.at_top)
