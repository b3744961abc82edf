use Rattle.std.proofs.Common.{◌≡◌, ◌≢◌, ◌∙◌, ◌+◌, ◌-◌, ℕ, List, [], ◌∷◌, ◌++◌, length, sym, ap, subst, arith}
use Rattle.std.proofs.lemmas.Bool.{eqb-true, eqb-false}
use Rattle.xt_messages.specs.declared.reply.Answered.{Answered}
use Rattle.server_text.specs.Reading.{each_word}
use Rattle.server_text.proofs.WordSteps.{one_more, no_more, all_read}
use Rattle.schedule_text.specs.EntryReading.{answered_in, answers_in}
use Rattle.schedule_text.proofs.answers.answers_in.Goals as goal

pub returns-then-is_empty : goal.returns-then-is_empty
unfolding answers_in
returns-then-is_empty c =
    no_more answered_in c.loop-count.answers (length c.args.words.now - c.loop-count._count) c.loop-count.rest.now c.args.words.now
    (eqb-true _ _ (sym c.if-is_empty.ensures)) c.loop-count.invariant

pub loop-count-preserved : goal.loop-count-preserved
loop-count-preserved c =
    let more : length c.loop-count.rest.now ≢ 0 = eqb-false _ _ (sym c.if-is_empty.ensures) in
    subst (λ (rest : List ℕ). c.push.new.self ++ each_word answered_in (length c.args.words.now - (c.loop-count._count + 1)) rest ≡ each_word answered_in (length c.args.words.now) c.args.words.now) (sym c.cut.ensures.rest)
    (one_more answered_in c.loop-count.answers c.push.new.self (each_word answered_in (length c.args.words.now) c.args.words.now) (length c.args.words.now) c.loop-count._count c.loop-count.rest.now c.loop-count-test.true (omega (arith, more))
    (c.in_ok-push.ensures.ok ∙ ap (λ (a : Answered). c.loop-count.answers ++ a ∷ []) (c.answered_in.ensures ∙ ap answered_in c.cut.ensures.word))
    c.loop-count.invariant)

pub returns : goal.returns
unfolding answers_in
returns c =
    all_read answered_in c.loop-count.answers c.loop-count._count c.loop-count.rest.now c.args.words.now (omega (arith, c.loop-count-test.false, c.loop-count.auto._count-end)) c.loop-count.invariant
