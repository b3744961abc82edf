use Rattle.std.proofs.Common.{◌≡◌, ◌++◌, ◌∙◌, ap, subst, List}
use Rattle.std.specs.Prelude.{flat_map}
use Rattle.xt_messages.specs.declared.record.KeepBody.{KeepBody}
use Rattle.xt_protocol.specs.Forgetting.{keep_of, needed_of}
use Rattle.osd_core.specs.Slots.{awake_of, states_of}
use Rattle.osd_core.specs.Views.{OsdView}
use Rattle.osd_core.proofs.osd.Osd.keep.Goals as goal

pub returns-in-Ok : goal.returns-in-Ok
unfolding keep_of
returns-in-Ok c =
    let o = c.self.inside in
    let awake = awake_of o.silent in
    let made = c.keep_all.new.keep in
    let needed : List KeepBody = flat_map (needed_of awake.node) (states_of awake o.met.slots.entries) in
    subst (λ (v : OsdView). made ≡ keep_of v.state) c.self.view_is
    (c.in-Ok.ensures awake c.self.invariant.files ∙ ap (λ (xs : List KeepBody). xs ++ needed) c.new-keep.ensures)
