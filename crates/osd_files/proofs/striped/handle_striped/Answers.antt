use Rattle.std.proofs.Common.{◌∙◌, ap, sym}
use Rattle.xt_protocol.specs.SeenBodies.{body_by}
use Rattle.xt_protocol.specs.FileSteps.{replica_acts}
use Rattle.xt_protocol.specs.declared.states.Acted.{Acted}
use Rattle.osd_files.specs.Views.{shown, site_at}
use Rattle.osd_files.proofs.striped.handle_striped.Goals as goal

pub returns-clause-row : goal.returns-clause-row
returns-clause-row g c =
    λ records agree test is.
    let old = shown c.args.file.now in
    let site = site_at old.awake c.args.now test (body_by records) in
    let row = c.in_ok-replica_takes.ensures.row c.args.now test (body_by records) in
    record {
      here = row.here;
      step = ap (λ (a : Acted). replica_acts site old.state c.args.id.client a) (sym (c.in_ok-acted.ensures.row records agree test is)) ∙ row.step;
    }
