use Rattle.std.proofs.Common.{◌∙◌, ◌≡◌, map, sym}
use Rattle.std.proofs.lemmas.Result.{IfOk-weaker}
use Rattle.volume_rows.specs.Rows.{page_of}
use Rattle.name_tree.proofs.Walking.{page_is}
use Rattle.volume_tree.specs.Tables.{kept_in}
use Rattle.volume_tree.proofs.Tables.{names_found}
use Rattle.volume_tree.proofs.table.Table.page.Goals as goal

pub returns : goal.returns
returns c =
    IfOk-weaker c.page.result (λ page. page ≡ page_of c.self.inside.top (map (λ name. name.now) c.args.names.now) c.args.after.now) (λ page. page ≡ page_of c.args.self.now.rows (map (λ name. name.now) c.args.names.now) c.args.after.now) (λ page is. is ∙ page_is c.args.self.now.rows c.self.inside.top (map (λ name. name.now) c.args.names.now) (map (λ name. name.now) c.args.names.now) c.args.after.now (sym (names_found c.self.inside.top (kept_in c.self.inside.sizes) c.self.inside.next c.args.self.now (map (λ name. name.now) c.args.names.now) c.self.view_is c.self.invariant))) c.page.ensures
