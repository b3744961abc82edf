use Rattle.std.proofs.Common.{◌∙◌, ap, sym, ◌≡◌, true, false}
use Rattle.std.specs.Prelude.{◌==◌}
use Rattle.xt_base.specs.declared.ids.NodeId.{NodeId}
use Rattle.xt_messages.specs.declared.reply.Reply.TheVariants as reply
use Rattle.xt_protocol.specs.FileLeases.{answer_waiting, live_lease}
use Rattle.xt_protocol.specs.FileStates.{FileState, Site, FileStep}
use Rattle.osd_files.specs.Views.{shown, site_at}
use Rattle.osd_files.proofs.Rows.{each_clock, eq_true, eq_false, when_true, when_false}
use Rattle.osd_files.proofs.leases.live_lease.Goals as goal

pub returns-then-lease-node : goal.returns-then-lease-node
returns-then-lease-node c =
    let old = shown c.args.file.now in
    let lease = c.args.lease in
    let is : (lease.node.0 == old.awake.node.0) ≡ true = eq_true _ _ (c.if-lease-node.true ∙ ap (λ (n : NodeId). n.0) c.node.ensures) in
    let none : Site → FileState → FileStep = λ site s. answer_waiting site s (reply.NoLease old.state.last_end) in
    let there : Site → FileState → FileStep = λ site s. answer_waiting site s (reply.Elsewhere lease.node lease.end) in
    each_clock none (λ site s. live_lease site s lease) old.awake old.state old.state (shown c.answer_waiting.new.file) c.answer_waiting.result
    (λ now sealed body. let site = site_at old.awake now sealed body in when_true (lease.node.0 == old.awake.node.0) (none site old.state) (there site old.state) is)
    c.answer_waiting.ensures

pub returns : goal.returns
returns c =
    let old = shown c.args.file.now in
    let lease = c.args.lease in
    let is : (lease.node.0 == old.awake.node.0) ≡ false = eq_false _ _ (λ same. c.if-lease-node.false (same ∙ ap (λ (n : NodeId). n.0) (sym c.node.ensures))) in
    let none : Site → FileState → FileStep = λ site s. answer_waiting site s (reply.NoLease old.state.last_end) in
    let there : Site → FileState → FileStep = λ site s. answer_waiting site s (reply.Elsewhere lease.node lease.end) in
    each_clock there (λ site s. live_lease site s lease) old.awake old.state old.state (shown c.answer_waiting-2.new.file) c.answer_waiting-2.result
    (λ now sealed body. let site = site_at old.awake now sealed body in when_false (lease.node.0 == old.awake.node.0) (none site old.state) (there site old.state) is)
    c.answer_waiting-2.ensures
