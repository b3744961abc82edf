use Rattle.std.proofs.Common.{◌≡◌, ◌∙◌, sym, List, true, false}
use Rattle.std.specs.Prelude.{◌&&◌, not}
use Rattle.xt_messages.specs.declared.record.Record.{Record}
use Rattle.xt_protocol.specs.declared.turned.Turned.{Turned}
use Rattle.xt_protocol.specs.Asks.{Served, asks_behind, serves_all}
use Rattle.xt_protocol.specs.Primaries.{is_ready}
use Rattle.xt_protocol.specs.Turns.{quiet}
use Rattle.osd_files.specs.Serves.{AsksFollow, ServesAll, ground_at}
use Rattle.osd_files.specs.Views.{shown}
use Rattle.osd_files.proofs.Rows.{if_ok, when_true, when_false}
use Rattle.osd_files.proofs.serving.asks_follow.Goals as goal

pub returns-then-becomes_ready-clause-followed : goal.returns-then-becomes_ready-clause-followed
returns-then-becomes_ready-clause-followed g c =
    let old = shown c.args.file.now in
    let new = shown c.serve_all.new.file in
    let agrees = g.B.Bodies.agrees c.serve_all.new.bodies in
    let test = is_ready old.state.primary.tenure && not c.args.was_ready in
    let is : test ≡ true = sym c.becomes_ready.ensures ∙ c.if-becomes_ready.true in
    let left : Served = record { primary = old.state.primary; asks = asks_behind old.state.primary.tenure old.state.asks; turned = quiet } in
    let P : Turned → Type 0 = λ turned. (records : List Record) → agrees records → ServesAll records old new turned in
    let Q : Turned → Type 0 = λ turned. (records : List Record) → agrees records → AsksFollow c.args.was_ready records old new turned in
    let all : (turned : Turned) → P turned → Q turned = λ turned of records agree.
    record {
      rest = (of records agree).rest;
      step = λ own held. (of records agree).step own held ∙ sym (when_true test (serves_all (ground_at old records own held) old.state.primary old.state.asks.waiting) left is);
    }
    in
    if_ok P Q c.serve_all.result all c.serve_all.ensures.served

pub returns-clause-followed : goal.returns-clause-followed
returns-clause-followed g c =
    λ records agree.
    let old = shown c.args.file.now in
    let test = is_ready old.state.primary.tenure && not c.args.was_ready in
    let no : test ≡ false = sym c.becomes_ready.ensures ∙ c.if-becomes_ready.false in
    let left : Served = record { primary = old.state.primary; asks = asks_behind old.state.primary.tenure old.state.asks; turned = quiet } in
    let wait = c.in_ok-asks_wait.ensures in
    record {
      rest = wait.rest;
      step = λ own held. wait.step ∙ sym (when_false test (serves_all (ground_at old records own held) old.state.primary old.state.asks.waiting) left no);
    }
