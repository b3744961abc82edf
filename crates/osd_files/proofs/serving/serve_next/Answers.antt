use Rattle.std.proofs.Common.{◌≡◌, ◌∙◌, ap, List}
use Rattle.xt_messages.specs.declared.record.Record.{Record}
use Rattle.xt_protocol.specs.declared.turned.Turned.{Turned}
use Rattle.xt_protocol.specs.Turns.{joined}
use Rattle.osd_files.specs.Serves.{ServesNext, ServesOne, served_in}
use Rattle.osd_files.specs.Views.{shown}
use Rattle.osd_files.proofs.Rows.{reads_as, rest_ok}
use Rattle.osd_files.proofs.serving.serve_next.Goals as goal

pub returns-clause-served : goal.returns-clause-served
returns-clause-served g c =
    let old = shown c.args.file.now in
    let new = shown c.serve_one-one.new.file in
    let served = c.args.served in
    let agrees = g.B.Bodies.agrees c.serve_one-one.new.bodies in
    let P : Turned → Type 0 = λ one. (records : List Record) → agrees records → ServesOne c.args.ask records old new one in
    let Q : Turned → Type 0 = λ turned. (records : List Record) → agrees records → ServesNext c.args.ask served records old new turned in
    let all : (one turned : Turned) → P one → turned ≡ joined served one → Q turned = λ one turned of is records agree.
    record { rest = (of records agree).rest; step = λ own held. ap (served_in new) is ∙ (of records agree).step served own held }
    in
    rest_ok P Q served c.serve_one-one.result c.join_rest.result all c.join_rest.ensures.joined c.serve_one-one.ensures.served

pub returns-clause-reads : goal.returns-clause-reads
returns-clause-reads g c = reads_as (g.B.Bodies.agrees) (g.B.Bodies.fault_count) _ _ _ _ c.join_rest.ensures.failed c.serve_one-one.ensures.reads
