use Rattle.std.proofs.Common.{arith}
use Rattle.std.proofs.lemmas.Str.Pattern.{strip_prefix_char}
use Rattle.volume_rows.proofs.Parsing.{not_a_path}
use Rattle.volume_rows.proofs.paths.path_in.Goals as goal

pub returns-in_default : goal.returns-in_default
returns-in_default c =
    let other = rw c.in_default.is at (strip_prefix_char 47 c.args.text.now c.strip_prefix.result c.strip_prefix.ensures.cases (omega arith)) in
    not_a_path c.args.text.now other
