use Rattle.std.proofs.Common.{◌≡◌, ◌++◌, ℕ, [], Result, Ok, Err, ap, sym, ◌∙◌, append-nil}
use Rattle.xt_messages.specs.declared.message.Msg.{Msg}
use Rattle.xt_frames.specs.declared.fault.FrameErr.{FrameErr}
use Rattle.xt_frames.specs.Frames.{frame_of}
use Rattle.world_disk_hull.proofs.carrying.carried.Goals as goal

abbrev read : Msg → ℕ → Result (Msg × ℕ) FrameErr
read msg len = Ok (msg, len)

message_of : Msg → Result (Msg × ℕ) FrameErr → Msg
message_of other (Ok x) = x.0
message_of other (Err e) = other

same_message : (sent got : Msg) (m n : ℕ) → read sent m ≡ read got n → got ≡ sent
unfolding message_of
same_message sent got m n same = sym (ap (message_of sent) same)

pub returns-in-Ok : goal.returns-in-Ok
returns-in-Ok c =
    let is : c.as_slice-2.result.now ≡ frame_of c.args.msg.now ++ [] =
    c.as_slice-2.ensures ∙ c.in_ok-bytes.ensures ∙ c.as_slice.ensures ∙ c.in_ok-frame.ensures.frame ∙ sym (append-nil (frame_of c.args.msg.now)) in
    same_message c.args.msg.now c.in-Ok.carried _ _ (c.in-Ok.ensures.only c.args.msg.now [] c.requires is)
