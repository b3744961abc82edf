use Rattle.std.proofs.Common.{◌∙◌, ap, subst, List}
use Rattle.xt_messages.specs.declared.record.KeepBody.{KeepBody}
use Rattle.xt_protocol.specs.FileStates.{FileState}
use Rattle.xt_protocol.specs.Forgetting.{osd_without}
use Rattle.osd_core.specs.Slots.{awake_of, ForgetsMet}
use Rattle.osd_core.specs.Views.{OsdView}
use Rattle.osd_core.proofs.Keeping.{states_forgot, still_met}
use Rattle.osd_core.proofs.osd.Osd.forget.Goals as goal

forgot : (c : goal.After-forget_all) → ForgetsMet c.args.keep.now c.self.inside.met c.forget_all.new.met
forgot c = subst (λ (keep : List KeepBody). ForgetsMet keep c.self.inside.met c.forget_all.new.met) c.of-keep.ensures c.forget_all.ensures

pub invariant_of-self : goal.invariant_of-self
invariant_of-self c =
    let o = c.self.inside in
    record {
      fits = c.self.invariant.fits;
      own = c.self.invariant.own;
      clock = c.self.invariant.clock;
      files = still_met c.args.keep.now (awake_of o.silent) o.met c.forget_all.new.met (forgot c) c.self.invariant.files;
    }

pub returns : goal.returns
unfolding osd_without
returns c =
    let o = c.self.inside in
    let after : OsdView → OsdView = λ v. record { key = v.key; state = osd_without c.args.keep.now v.state } in
    let made : List FileState → OsdView = λ files. record { key = o.key; state = record { started = o.silent; last = o.last; files = files } } in
    ap made (states_forgot c.args.keep.now (awake_of o.silent) o.met c.forget_all.new.met (forgot c)) ∙ ap after c.self.view_is
