use Rattle.time_line.specs.Verdicts.{once, shown, fresh}
use Rattle.frozen_content.proofs.WholeReads.{shows_frozen}
use Rattle.frozen_content.proofs.whole_reads_show_frozen_content.Goals as goal

pub returns : goal.returns
returns c = λ file object count entries before id bytes replicated safe ends reads.
    shows_frozen file entries (safe fresh replicated).answered (safe once replicated) (safe shown replicated) before object count id bytes ends reads
