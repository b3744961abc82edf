use Rattle.std.proofs.Common.{Option, subst}
use Rattle.volume_rows.specs.Paths.{Path, path_in}
use Rattle.volume_rows.specs.Requests.{on_path, names_listed}
use Rattle.volume_tree.specs.Calls.{Comes}
use Rattle.server_rows.specs.Metadata.{Catalogue}
use Rattle.mrc_core.proofs.Calling.{any_names}
use Rattle.mrc_core.proofs.catalogue.Catalogue.page.Goals as goal

pub returns : goal.returns
returns c =
    let tree = c.self.inside.tree in
    let path = path_in c.args.path.now in
    let volumes = c.args.self.now.volumes in
    let comes = subst (λ (p : Option Path). Comes c.page.result tree tree (on_path tree p (names_listed tree c.args.who c.args.after.now))) (any_names path) c.page.ensures in
    c.told.ensures volumes (on_path volumes path (names_listed volumes c.args.who c.args.after.now))
    (subst (λ (known : Catalogue). Comes c.page.result known.volumes known.volumes (on_path known.volumes path (names_listed known.volumes c.args.who c.args.after.now))) c.self.view_is comes)
