use Rattle.forgetting.proofs.Digests
use Rattle.forgetting.proofs.rewritten_records_keep_digests.Goals as goal

pub returns-clause-kept : goal.returns-clause-kept
returns-clause-kept c = Digests.keeps

pub returns-clause-others : goal.returns-clause-others
returns-clause-others c = Digests.forgets
