use Rattle.std.proofs.Common.{refl, sym, ap, subst, ◌∙◌, ◌≡◌, ◌++◌}
use Rattle.std.specs.List.{All}
use Rattle.std.proofs.lemmas.List.{append-nil}
use Rattle.replica_records.specs.Known.{known_of}
use Rattle.xt_messages.specs.Limits.{FitsMessage}
use Rattle.object_store.specs.Access.{records_of}
use Rattle.object_store.specs.Waits.{end_with, recs_of}
use Rattle.node_mail.specs.Posts.{datagrams_of_all}
use Rattle.node_runs.proofs.Sending.{sends_none}
use Rattle.object_store.specs.declared.waiting.Waiting.{Waiting}
use Rattle.world_spec.specs.NodeSteps.{to_itself}
use Rattle.node_loop.specs.Batched.{HasMailed, HasStaged, held_of, journal_then, posts_of, puts_of}
use Rattle.node_loop.specs.Stores.{journal_at}
use Rattle.node_loop.proofs.Acting.{acts, all_front, ends_mailed, ends_staging, ends_unmade, own_fits}
use Rattle.node_loop.proofs.Seeing.{sees_all}
use Rattle.node_loop.proofs.Turning.{mailed_from, mails_nothing}
use Rattle.node_loop.proofs.site.Site.act.Goals as goal

pub returns-in-Err-clause-ends : goal.returns-in-Err-clause-ends
returns-in-Err-clause-ends g c =
    let D = g.D.Disk in
    let s = c.args.self.now in
    let store = c.args.store.now in
    let batch = c.args.batch.now in
    let puts = puts_of D.is_told batch in
    let posts = posts_of batch in
    let sent = g.L.Link.sent c.args.link.now in
    let losses = g.L.Link.loss_count c.args.link.now in
    let seen = records_of store ++ recs_of batch.records in
    let step = (g.N.Node.role s.node).step seen (g.N.Node.state s.node) s.clock c.args.happens.now in (
      seen,
      sees_all store (recs_of batch.records) batch.records.fit,
      ends_unmade step (g.N.Node.role s.node).node s.sender.boot s.ears.book s.sender.count (journal_then store batch)
          (HasMailed puts posts posts sent sent losses losses) (HasStaged D.is_told (journal_then store batch) puts puts) c.in-Err.why c.in-Err.ensures.ends
          (mails_nothing puts posts posts sent sent losses losses refl (sends_none sent losses)) (sym (append-nil puts), tt),
    )

pub returns-in-Err-stage-clause-ends : goal.returns-in-Err-stage-clause-ends
returns-in-Err-stage-clause-ends g c =
    let D = g.D.Disk in
    let s = c.args.self.now in
    let store = c.args.store.now in
    let batch = c.args.batch.now in
    let after = c.stage.new.self in
    let e = c.in-Err-stage.ensures in
    let sent = g.L.Link.sent c.args.link.now in
    let losses = g.L.Link.loss_count c.args.link.now in
    let by = c.in-Ok.ensures.step in
    let step = (g.N.Node.role s.node).step by.0 (g.N.Node.state s.node) s.clock c.args.happens.now in
    let rec : step.turned.rec ≡ c.into_parts-rec.result.0 = ap (λ s. s.turned.rec) by.2 ∙ sym c.into_parts-rec.ensures.rec in (
      by.0,
      by.1,
      ends_staging step (g.N.Node.role s.node).node s.sender.boot s.ears.book s.sender.count (journal_then store batch)
          (HasMailed (puts_of D.is_told after) (posts_of batch) (posts_of after) sent sent losses losses)
          (HasStaged D.is_told (journal_then store batch) (puts_of D.is_told batch) (puts_of D.is_told after)) c.into_parts-rec.result.0 c.in-Err-stage.why rec e.some
          (mails_nothing (puts_of D.is_told after) (posts_of batch) (posts_of after) sent sent losses losses (ap (λ v. datagrams_of_all v.items) e.posts) (sends_none sent losses))
          (ap (known_of D.is_told) e.same ∙ sym (append-nil (puts_of D.is_told batch)), tt) e.ends,
    )

pub returns-in-Ok-put-clause-own : goal.returns-in-Ok-put-clause-own
returns-in-Ok-put-clause-own g c =
    own_fits c.mail.new.sender.node c.args.self.now.own _ c.put.new.self c.in-Ok-put.ensures c.requires.own
    (subst (All FitsMessage) (sym c.into_parts-rec.ensures.outs) c.in-Ok.ensures.fits.messages)

pub returns-in_default-clause-ends : goal.returns-in_default-clause-ends
returns-in_default-clause-ends g c =
    let told = g.D.Disk.is_told in
    let s = c.args.self.now in
    let role = g.N.Node.role s.node in
    let store = c.args.store.now in
    let batch = c.args.batch.now in
    let after = c.mail.new.batch in
    let sent = g.L.Link.sent c.args.link.now in
    let sent_after = g.L.Link.sent c.mail.new.link in
    let losses = g.L.Link.loss_count c.args.link.now in
    let losses_after = g.L.Link.loss_count c.mail.new.link in
    let staged = HasStaged told (journal_then store batch) (puts_of told batch) in
    let by = c.in-Ok.ensures.step in (
      by.0,
      by.1,
      ends_mailed (role.step by.0 (g.N.Node.state s.node) s.clock c.args.happens.now) s.sender.node role.node s.sender.boot c.book-book.result.now s.ears.book s.sender.count
          (journal_then store batch) (HasMailed (puts_of told after) (posts_of batch) (posts_of after) sent sent_after losses losses_after)
          (HasMailed (puts_of told after) (posts_of c.stage.new.self) (posts_of after) sent sent_after losses losses_after) (staged (puts_of told after))
          c.into_parts-rec.result.0 c.as_slice.result.now c.requires.home c.book-book.ensures
          (c.as_slice.ensures ∙ c.into_parts-rec.ensures.outs ∙ sym (ap (λ s. s.turned.outs) by.2)) (c.into_parts-rec.ensures.rec ∙ sym (ap (λ s. s.turned.rec) by.2))
          (λ ds. mailed_from (puts_of told after) (posts_of batch) (posts_of c.stage.new.self) (posts_of after) sent sent sent_after losses losses losses_after ds
          (ap (λ v. datagrams_of_all v.items) c.in-Ok-stage.ensures.posts) refl refl)
          (c.in_default.ensures.prefix told)
          (subst (λ (w : Waiting). staged (known_of told (recs_of w)) c.into_parts-rec.result.0) (sym c.in_default.ensures.records) c.in-Ok-stage.ensures.staged),
    )

pub returns-clause-ends : goal.returns-clause-ends
returns-clause-ends g c =
    let told = g.D.Disk.is_told in
    let s = c.args.self.now in
    let role = g.N.Node.role s.node in
    let store = c.args.store.now in
    let batch = c.args.batch.now in
    let after = c.mail.new.batch in
    let sent = g.L.Link.sent c.args.link.now in
    let sent_after = g.L.Link.sent c.mail.new.link in
    let losses = g.L.Link.loss_count c.args.link.now in
    let losses_after = g.L.Link.loss_count c.mail.new.link in
    let staged = HasStaged told (journal_then store batch) (puts_of told batch) in
    let went = HasMailed (puts_of told after) (posts_of c.stage.new.self) (posts_of after) sent sent_after losses losses_after in
    let by = c.in-Ok.ensures.step in (
      by.0,
      by.1,
      ends_mailed (role.step by.0 (g.N.Node.state s.node) s.clock c.args.happens.now) s.sender.node role.node s.sender.boot c.book-book.result.now s.ears.book s.sender.count
          (journal_then store batch) (HasMailed (puts_of told after) (posts_of batch) (posts_of after) sent sent_after losses losses_after) went (staged (puts_of told after))
          c.into_parts-rec.result.0 c.as_slice.result.now c.requires.home c.book-book.ensures
          (c.as_slice.ensures ∙ c.into_parts-rec.ensures.outs ∙ sym (ap (λ s. s.turned.outs) by.2)) (c.into_parts-rec.ensures.rec ∙ sym (ap (λ s. s.turned.rec) by.2))
          (λ ds. mailed_from (puts_of told after) (posts_of batch) (posts_of c.stage.new.self) (posts_of after) sent sent sent_after losses losses losses_after ds
          (ap (λ v. datagrams_of_all v.items) c.in-Ok-stage.ensures.posts) refl refl)
          (all_front s.sender.node s.sender.boot c.book-book.result.now s.sender.count c.mail.new.sender.count c.as_slice.result.now went (c.in-Ok-mail.ensures.mails told))
          (subst (λ (w : Waiting). staged (known_of told (recs_of w)) c.into_parts-rec.result.0) (sym c.in-Ok-mail.ensures.records) c.in-Ok-stage.ensures.staged),
    )

pub returns-in-Ok-put-clause-acted : goal.returns-in-Ok-put-clause-acted
returns-in-Ok-put-clause-acted g c =
    let told = g.D.Disk.is_told in
    let s = c.args.self.now in
    let role = g.N.Node.role s.node in
    let store = c.args.store.now in
    let batch = c.args.batch.now in
    let after = c.mail.new.batch in
    let sent = g.L.Link.sent c.args.link.now in
    let sent_after = g.L.Link.sent c.mail.new.link in
    let losses = g.L.Link.loss_count c.args.link.now in
    let losses_after = g.L.Link.loss_count c.mail.new.link in
    let m = c.in-Ok-mail.ensures in
    let st = c.in-Ok-stage.ensures in
    let outs = c.into_parts-rec.result.1 in
    acts told role s.sender.boot (held_of g.N.Node.state s store batch).now c.args.happens.now s.sender.node c.book-book.result.now (g.N.Node.state c.step_on.new.node) c.in-Ok.turned
    (records_of store) (puts_of told batch) (puts_of told after) (journal_then store after) c.put.new.self c.mail.new.sender.count c.into_parts-rec.result.0 c.as_slice.result.now
    (HasMailed (puts_of told after) (posts_of batch) (posts_of after) sent sent_after losses losses_after)
    (HasMailed (puts_of told after) (posts_of c.stage.new.self) (posts_of after) sent sent_after losses losses_after)
    c.in-Ok.ensures.step c.into_parts-rec.ensures.rec (c.as_slice.ensures ∙ c.into_parts-rec.ensures.outs) c.requires.home c.book-book.ensures refl
    (subst (λ (w : Waiting). HasStaged told (journal_then store batch) (puts_of told batch) (known_of told (recs_of w)) c.into_parts-rec.result.0) (sym m.records) st.staged)
    (ap (λ (w : Waiting). record (journal_at store) { end = end_with store (recs_of w) }) m.records ∙ st.journal)
    (m.mails told)
    (λ ds. mailed_from (puts_of told after) (posts_of batch) (posts_of c.stage.new.self) (posts_of after) sent sent sent_after losses losses losses_after ds
    (ap (λ v. datagrams_of_all v.items) st.posts) refl refl)
    (c.in-Ok-put.ensures ∙ ap (λ n. s.own ++ to_itself n outs) m.same.0 ∙ ap (λ ms. s.own ++ to_itself s.sender.node ms) (sym c.as_slice.ensures))
