use Rattle.std.proofs.Common.{arith, rules}
use Rattle.std.proofs.lemmas.Str.Pattern.{split_parts}
use Rattle.command_words.specs.Worked.{words_in}
use Rattle.asked_jobs.proofs.Spaces.{word_taken, last_word}
use Rattle.asked_jobs.proofs.line.words_of.Goals as goal

pub loop-word-preserved : goal.loop-word-preserved
loop-word-preserved c =
    let cut = rw c.in-Some.is at (split_parts 32 c.loop-word.rest.now c.split_once.result c.split_once.ensures.cases (omega arith)) in (
      word_taken c.loop-word.words c.push.new.self c.in-Some.word.now c.loop-word.rest.now c.in-Some.later.now (words_in c.args.text.now)
          c.loop-word.invariant.0 c.in_ok-push.ensures.ok cut,
      search rules,
    )

pub returns : goal.returns
returns c =
    let none = rw c.in_default.is at (split_parts 32 c.loop-word.rest.now c.split_once.result c.split_once.ensures.cases (omega arith)) in
    last_word c.loop-word.words c.push-2.new.self c.loop-word.rest.now (words_in c.args.text.now) c.loop-word.invariant.0 c.in_ok-push-2.ensures.ok none
