use Rattle.std.proofs.Common.{◌≡◌, ◌∙◌, ap, sym}
use Rattle.xt_messages.specs.declared.message.Payload.{Payload}
use Rattle.xt_protocol.specs.declared.states.Acted.{Acted}
use Rattle.xt_protocol.specs.ReplicaRows.{gathered, staged, headed, updated}
use Rattle.osd_files.specs.Kinds.{acted_on}
use Rattle.osd_files.proofs.Rows.{if_ok}
use Rattle.osd_files.proofs.hearing.acts.Goals as goal

pub returns-in-Gather-clause-row : goal.returns-in-Gather-clause-row
returns-in-Gather-clause-row c =
    let r = c.args.replica.now in
    let on : Payload → Acted = acted_on r.file r.head r.held in
    let P : Acted → Type 0 = λ acted. acted ≡ gathered r.file r.head c.in-Gather.epoch in
    let Q : Acted → Type 0 = λ acted. acted ≡ on c.args.content.now in
    let all : (acted : Acted) → P acted → Q acted = λ acted is. is ∙ ap on (sym c.in-Gather.is) in
    if_ok P Q c.on_gather.result all c.on_gather.ensures.row

pub returns-in-Stage-clause-row : goal.returns-in-Stage-clause-row
returns-in-Stage-clause-row c =
    let r = c.args.replica.now in
    let m = c.in-Stage in
    let on : Payload → Acted = acted_on r.file r.head r.held in
    let P : Acted → Type 0 = λ acted. acted ≡ staged r.file r.head r.held m.epoch m.object m.version m.bytes in
    let Q : Acted → Type 0 = λ acted. acted ≡ on c.args.content.now in
    let all : (acted : Acted) → P acted → Q acted = λ acted is. is ∙ ap on (sym m.is) in
    if_ok P Q c.on_stage.result all c.on_stage.ensures.row

pub returns-in-Head-clause-row : goal.returns-in-Head-clause-row
returns-in-Head-clause-row c =
    let r = c.args.replica.now in
    let on : Payload → Acted = acted_on r.file r.head r.held in
    let P : Acted → Type 0 = λ acted. acted ≡ headed r.file r.head r.held c.in-Head.epoch c.in-Head.head in
    let Q : Acted → Type 0 = λ acted. acted ≡ on c.args.content.now in
    let all : (acted : Acted) → P acted → Q acted = λ acted is. is ∙ ap on (sym c.in-Head.is) in
    if_ok P Q c.on_head.result all c.on_head.ensures.row

pub returns-in-Update-clause-row : goal.returns-in-Update-clause-row
returns-in-Update-clause-row c =
    let r = c.args.replica.now in
    let on : Payload → Acted = acted_on r.file r.head r.held in
    let P : Acted → Type 0 = λ acted. acted ≡ updated r.file r.head c.in-Update.update in
    let Q : Acted → Type 0 = λ acted. acted ≡ on c.args.content.now in
    let all : (acted : Acted) → P acted → Q acted = λ acted is. is ∙ ap on (sym c.in-Update.is) in
    if_ok P Q c.on_update.result all c.on_update.ensures.row
