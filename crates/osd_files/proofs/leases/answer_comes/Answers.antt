use Rattle.std.proofs.Common.{◌∙◌, ap, sym, subst}
use Rattle.xt_protocol.specs.LeaseRows.{LeaseState, on_answer}
use Rattle.flease.specs.declared.news.News.{News}
use Rattle.flease.specs.Shown.{shown_news}
use Rattle.xt_protocol.specs.FileLeases.{lease_news, answer_comes}
use Rattle.xt_protocol.specs.FileStates.{FileState}
use Rattle.osd_files.specs.Answers.{news_of, HoldBy}
use Rattle.osd_files.specs.Owners.{owner_at, owner_of, renewer_of}
use Rattle.osd_files.specs.Views.{shown, site_at}
use Rattle.osd_files.proofs.Owned.{answered_own}
use Rattle.osd_files.proofs.News.{answer_holds, news_back}
use Rattle.osd_files.proofs.Rows.{rows_from, answered}
use Rattle.osd_files.proofs.leases.answer_comes.Goals as goal

pub invariant_of-file : goal.invariant_of-file
invariant_of-file c =
    let f = c.args.file.now in
    let own = answered_own (owner_at f.awake) f.lease c.args.now c.args.from c.args.content.now (record { lease = f.owner; renewal = f.renewer }) in
    record {
      node = f.node;
      file = f.file;
      owner = ap owner_of c.answer-news.ensures.state ∙ own.lease;
      renewer = ap (renewer_of (owner_at f.awake)) c.answer-news.ensures.state ∙ own.renewal;
      past = f.past;
      sound = f.sound;
    }

pub lease_news-requires-clause-hold : goal.lease_news-requires-clause-hold
lease_news-requires-clause-hold c =
    let f = c.args.file.now in
    let now = c.args.now in
    let step = on_answer f.lease now c.args.from c.args.content.now in
    let P : News → Type 0 = λ n. HoldBy n c.answer-news.new.self now f.lead.location in
    let Q : LeaseState → Type 0 = λ l. HoldBy (shown_news step.news) l now f.lead.location in
    subst P (sym c.answer-news.ensures.news)
    (subst Q (sym c.answer-news.ensures.state)
    (answer_holds (owner_at f.awake) f.lead.location f.lease now c.args.from c.args.content.now (record { lease = f.owner; renewal = f.renewer }) c.requires.stored))

pub returns : goal.returns
returns c =
    let old = shown c.args.file.now in
    let now = c.args.now in
    let from = c.args.from in
    let content = c.args.content.now in
    let step = on_answer old.state.lease now from content in
    let mid : FileState = record old.state { lease = c.answer-news.new.self; last_end = c.end_after_answer-file.result } in
    rows_from (λ site s. lease_news site s (news_of c.answer-news.result)) (λ site s. answer_comes site s from content) now old.awake old.state mid (shown c.lease_news.new.file) c.lease_news.result
    (λ sealed body.
    answered (site_at old.awake now sealed body) old.state from content c.answer-news.new.self c.end_after_answer-file.result (news_of c.answer-news.result)
    c.answer-news.ensures.state c.end_after_answer-file.ensures (ap news_of c.answer-news.ensures.news ∙ news_back step.news))
    c.lease_news.ensures
