use Rattle.sparse_bytes.proofs.Written.{is_cut}
use Rattle.sparse_bytes.proofs.SparseBytes.resize.Goals as goal

pub returns : goal.returns
returns c =
    let e = c.in_ok-_cut.ensures in
    λ content tells. is_cut c.args.self.now.written c.split_off.new.self c.in_ok-_cut._cut c.args.size c.args.self.now.size content c.if-self-size.false e.parts e.all_below e.all_from tells
