use Rattle.std.proofs.Common.{◌-◌, length, take, drop}
use Rattle.judging.specs.Audit.{files_of}
use Rattle.trace_judge.proofs.Gathered.{first_and_others, none}
use Rattle.trace_judge.proofs.Lesser.{files_more, files_end}
use Rattle.trace_judge.proofs.whole.files_of.Goals as goal

pub loop-rest-preserved : goal.loop-rest-preserved
loop-rest-preserved c =
    let rest = c.loop-rest.rest.now in
    files_more c.loop-rest.files.items c.note_file.new.files.items (files_of c.args.entries.now) rest (take (length rest - 1) (drop 1 rest)) c.e-item.result
    (first_and_others rest c.e-item.result c.in-len1-up.len_at_least c.e-item.is) c.in_ok-note_file.ensures c.loop-rest.invariant

pub returns : goal.returns
returns c = files_end c.loop-rest.files.items (files_of c.args.entries.now) c.loop-rest.rest.now (none c.loop-rest.rest.now c.in_default.len_below) c.loop-rest.invariant
