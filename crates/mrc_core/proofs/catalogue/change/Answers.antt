use Rattle.server_rows.proofs.Refusing.{changes_settle}
use Rattle.volume_rows.specs.Requests.{applied}
use Rattle.mrc_core.proofs.catalogue.change.Goals as goal

pub returns : goal.returns
returns c =
    c.settled.ensures c.args.tree.now c.apply-call.new.self (applied c.args.tree.now c.args.who c.args.place.now c.args.request.now) (changes_settle c.args.tree.now c.args.who c.args.place.now c.args.request.now c.requires.change) c.apply-call.ensures
