use Rattle.std.proofs.Common.{◌∙◌, ap, sym}
use Rattle.xt_protocol.specs.LeaseRows.{LeaseState}
use Rattle.xt_protocol.specs.SeenBodies.{body_by}
use Rattle.xt_protocol.specs.AskRows.{ask_rows, serve_ask, ask_under}
use Rattle.osd_files.specs.Views.{shown, site_at}
use Rattle.osd_files.proofs.Rows.{rows_by}
use Rattle.osd_files.proofs.Served.{free_by, new_ask, serves_under, waits_under}
use Rattle.osd_files.proofs.asks.ask_rows.Goals as goal

pub returns-then-is_free-clause-row : goal.returns-then-is_free-clause-row
returns-then-is_free-clause-row g c =
    let old = shown c.args.file.now in
    let ask = c.args.ask in
    let by = free_by old.state.lease (sym c.is_free.ensures ∙ c.if-is_free.true) in
    λ records agree sealed.
    let body = body_by records in
    let site = site_at old.awake c.args.now sealed body in
    let row = c.in_ok-ask_without_lease.ensures.row by.0 by.1 sealed body in
    record {
      here = row.here;
      step = new_ask site old.state ask (sym c.has.ensures ∙ c.if-has.false) ∙ ap (λ (l : LeaseState). ask_under site old.state l ask) by.1 ∙ row.step;
    }

pub returns-then-may_serve-clause-row : goal.returns-then-may_serve-clause-row
returns-then-may_serve-clause-row g c =
    let old = shown c.args.file.now in
    let ask = c.args.ask in
    let agrees = g.B.Bodies.agrees c.serve_ask.new.bodies in
    rows_by agrees (λ site s. serve_ask site s ask) (λ site s. ask_rows site s ask) c.args.now old.awake old.state old.state (shown c.serve_ask.new.file) c.serve_ask.result
    (λ records sealed.
    let site = site_at old.awake c.args.now sealed (body_by records) in
    new_ask site old.state ask (sym c.has.ensures ∙ c.if-has.false) ∙ serves_under site old.state old.state.lease ask (sym c.may_serve.ensures ∙ c.if-may_serve.true))
    c.serve_ask.ensures.row

pub returns-clause-row : goal.returns-clause-row
returns-clause-row g c =
    let old = shown c.args.file.now in
    let ask = c.args.ask in
    λ records agree sealed.
    let body = body_by records in
    let site = site_at old.awake c.args.now sealed body in
    let row = c.in_ok-ask_waits.ensures.row c.args.now sealed body in
    record {
      here = row.here;
      step =
          new_ask site old.state ask (sym c.has.ensures ∙ c.if-has.false)
          ∙ waits_under site old.state old.state.lease ask (sym c.is_free.ensures ∙ c.if-is_free.false) c.requires.settled (sym c.may_serve.ensures ∙ c.if-may_serve.false)
          ∙ row.step;
    }
