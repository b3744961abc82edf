use Rattle.std.proofs.Common.{◌∙◌, ℕ, ap, sym}
use Rattle.xt_protocol.specs.declared.turned.Turned.{Turned}
use Rattle.flease.specs.Shown.{expiry_of}
use Rattle.xt_protocol.specs.LeaseRows.{LeaseState, lease_expired}
use Rattle.xt_protocol.specs.Overdue.{deadlines_under, expired, no_lease_for_all}
use Rattle.osd_files.specs.Rows.{Gives}
use Rattle.osd_files.specs.Views.{shown}
use Rattle.osd_files.proofs.Rows.{if_ok}
use Rattle.osd_files.proofs.Over.{gives_deadlines, gives_no_lease}
use Rattle.osd_files.proofs.overdue.overdue.Goals as goal

pub returns-in-Lapsed : goal.returns-in-Lapsed
returns-in-Lapsed c =
    let now = c.args.now in
    let v = shown c.args.file.now in
    let P : Turned → Type 0 = λ turned. (now : ℕ) → Gives no_lease_for_all now v turned in
    let Q : Turned → Type 0 = λ turned. Gives expired now v turned in
    let all : (turned : Turned) → P turned → Q turned = λ turned given.
    gives_no_lease now v c.expire.new.self c.expire.result turned c.in-Lapsed.is
    (c.expire.ensures.state ∙ ap (λ (l : LeaseState). lease_expired l now) c.same.ensures)
    (c.expire.ensures.expiry ∙ ap (λ (l : LeaseState). expiry_of l now) c.same.ensures) (given now)
    in
    if_ok P Q c.told_no_lease.result all c.told_no_lease.ensures

pub returns-in-Stands : goal.returns-in-Stands
returns-in-Stands c =
    let now = c.args.now in
    let v = shown c.args.file.now in
    let P : Turned → Type 0 = λ turned. Gives (λ site s. deadlines_under site s s.primary.tenure) now v turned in
    let Q : Turned → Type 0 = λ turned. Gives expired now v turned in
    let all : (turned : Turned) → P turned → Q turned = λ turned given.
    gives_deadlines now v c.expire.new.self turned
    (c.expire.ensures.state ∙ ap (λ (l : LeaseState). lease_expired l now) c.same.ensures)
    (sym c.in-Stands.is ∙ c.expire.ensures.expiry ∙ ap (λ (l : LeaseState). expiry_of l now) c.same.ensures) given
    in
    if_ok P Q c.told_under.result all c.told_under.ensures
