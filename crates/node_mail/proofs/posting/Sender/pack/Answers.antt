use Rattle.std.proofs.Common.{rules, ℕ, List, ◌≡◌, ◌+◌, ap, ◌∙◌}
use Rattle.message_ids.specs.declared.MessageId.{MessageId}
use Rattle.xt_frames.specs.Frames.{frame_of}
use Rattle.xt_parts.specs.Part.{parts_of}
use Rattle.node_runs.specs.Posting.{sent_to}
use Rattle.node_mail.proofs.posting.Sender.pack.Goals as goal

pub returns-clause-packed : goal.returns-clause-packed
returns-clause-packed c =
    let id : ℕ → MessageId = λ number. record { sender = c.args.self.now.node; boot = c.args.self.now.boot; number = number } in
    let number : c.in-Some.number ≡ c.args.self.now.count + 1 = search rules in
    let frame : c.in_ok-frame.frame ≡ frame_of c.args.msg.now = search rules in
    ap (λ n. sent_to c.args.address.now (parts_of (id n) c.in_ok-frame.frame)) number
    ∙ ap (λ (bytes : List ℕ). sent_to c.args.address.now (parts_of (id (c.args.self.now.count + 1)) bytes)) frame
