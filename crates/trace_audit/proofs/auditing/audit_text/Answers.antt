use Rattle.trace_audit.proofs.Complete.{complete}
use Rattle.trace_audit.proofs.Endings.{told_all}
use Rattle.trace_audit.proofs.auditing.audit_text.Goals as goal

pub returns-clause-cause : goal.returns-clause-cause
returns-clause-cause g c =
    told_all _ _ _ _ _ _ c.found-said.result c.tell.result c.tell.ensures.told c.tell.ensures.cause (c.found-said.ensures.cause (g.K.Sink.fault_count c.args.out.now))

pub returns-clause-complete : goal.returns-clause-complete
returns-clause-complete g c = λ no_source no_sink.
    let found = c.found-said.ensures.found in
    complete _ _ _ _ _ _ _ _ c.tell.result
    (record { entries = found.entries; trace = found.trace; taken = found.taken; source = found.source; said = c.found-said.result; ending = found.ending; told = c.tell.ensures.told })
    (returns-clause-cause g c) no_source no_sink
