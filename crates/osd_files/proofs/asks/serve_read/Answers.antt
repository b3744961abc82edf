use Rattle.std.proofs.Common.{◌≡◌, ◌∙◌, ap, sym, Option}
use Rattle.xt_base.specs.declared.ids.NodeId.{NodeId}
use Rattle.xt_base.specs.declared.ids.FileId.{FileId}
use Rattle.xt_messages.specs.declared.reply.Reply.{Reply}
use Rattle.xt_protocol.specs.declared.states.Place.{Place}
use Rattle.xt_protocol.specs.Asks.{read_answer}
use Rattle.xt_protocol.specs.FileStates.{stripe_of}
use Rattle.xt_protocol.specs.Serving.{reads}
use Rattle.replica_primary.specs.Written.{ground}
use Rattle.osd_files.specs.Leads.{place_of}
use Rattle.osd_files.specs.Serves.{ground_at}
use Rattle.osd_files.specs.Views.{shown}
use Rattle.osd_files.proofs.asks.serve_read.Goals as goal

pub returns-clause-turned : goal.returns-clause-turned
returns-clause-turned g c =
    λ records agree own held.
    let f = c.args.file.now in
    let ask = c.args.ask.now in
    let at : NodeId → FileId → Place = λ n x. record { node = n; file = x; stripe = stripe_of f.lead.location } in
    let here : place_of f.lead ≡ at f.awake.node f.replica.file = ap (λ (n : NodeId). at n f.lead.file) f.node ∙ ap (at f.awake.node) f.file in
    let stands = ground_at (shown f) records own held in
    c.in_ok-read_answer.ensures stands (sym c.node-node.ensures) (sym c.file-id.ensures)
    ∙ ap (λ (answer : Option Reply). read_answer stands ask.id answer) (c.in_ok-answer.ensures.value records agree own held)
    ∙ ap (λ (p : Place). read_answer stands ask.id (reads (ground p records own held) f.lead.primary ask.op)) here
