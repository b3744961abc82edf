use Rattle.std.proofs.Common.{◌∙◌, length, ap, arith}
use Rattle.xt_frames.proofs.LengthLaws.{frame_len, frame_bound}
use Rattle.xt_frames.proofs.DecodingLaws.{begun, room, is_frame}
use Rattle.xt_frames.proofs.encoding.encode.Goals as goal

pub set_length-requires-clause-long : goal.set_length-requires-clause-long
set_length-requires-clause-long c =
    (room c.put_content.new.writer c.args.msg.now c.requires (begun _ _ _ _ c.in_ok-writer.ensures c.in_ok-word.ensures.ok c.in_ok-put_content.ensures)).0

pub set_length-requires-clause-short : goal.set_length-requires-clause-short
set_length-requires-clause-short c =
    let r = room c.put_content.new.writer c.args.msg.now c.requires (begun _ _ _ _ c.in_ok-writer.ensures c.in_ok-word.ensures.ok c.in_ok-put_content.ensures) in
    omega arith

pub returns-clause-frame : goal.returns-clause-frame
returns-clause-frame c =
    is_frame c.put_content.new.writer c.in_ok-made.made c.args.msg.now c.requires (begun _ _ _ _ c.in_ok-writer.ensures c.in_ok-word.ensures.ok c.in_ok-put_content.ensures) (c.in_ok-made.ensures ∙ c.set_length.ensures)

pub returns-clause-len : goal.returns-clause-len
returns-clause-len c =
    ap length (is_frame c.put_content.new.writer c.in_ok-made.made c.args.msg.now c.requires (begun _ _ _ _ c.in_ok-writer.ensures c.in_ok-word.ensures.ok c.in_ok-put_content.ensures) (c.in_ok-made.ensures ∙ c.set_length.ensures))
    ∙ frame_len c.args.msg.now c.requires

pub returns-clause-short : goal.returns-clause-short
returns-clause-short c =
    let frame = is_frame c.put_content.new.writer c.in_ok-made.made c.args.msg.now c.requires (begun _ _ _ _ c.in_ok-writer.ensures c.in_ok-word.ensures.ok c.in_ok-put_content.ensures) (c.in_ok-made.ensures ∙ c.set_length.ensures) in
    omega (arith, ap length frame, frame_len c.args.msg.now c.requires, frame_bound c.args.msg.now c.requires)
