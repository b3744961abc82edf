use Rattle.xt_frames.proofs.ReplyLaws.{reply_field}
use Rattle.xt_frames.proofs.MetaAnswerLaws.{meta_answer_field}
use Rattle.xt_frames.proofs.RegistryAnswerLaws.{registry_answer_field}
use Rattle.xt_frames.proofs.spelling.answers_have_one_spelling.Goals as goal

pub returns : goal.returns
returns c = record {
  reply = reply_field;
  meta_answer = meta_answer_field;
  registry_answer = registry_answer_field;
}
