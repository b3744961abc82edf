use Rattle.std.proofs.Common.{refl, sym, ap, subst, ◌∙◌, ◌≡◌, true, false, Some, None, List, ◌++◌}
use Rattle.xt_messages.specs.declared.record.Record.{Record}
use Rattle.replica_records.specs.Known.{known_of, Sees}
use Rattle.object_store.specs.declared.waiting.Waiting.{Waiting}
use Rattle.object_store.specs.Access.{records_of}
use Rattle.object_store.specs.Waits.{recs_of}
use Rattle.node_mail.specs.Posts.{datagrams_of_all}
use Rattle.node_runs.specs.Runs.{meets, ends_event}
use Rattle.node_loop.specs.Batched.{held_of, journal_then, kept_of, posts_of, puts_of}
use Rattle.node_loop.specs.Turns.{turn_of}
use Rattle.node_loop.proofs.Holding.{now_with}
use Rattle.node_loop.proofs.Seeing.{sees_all}
use Rattle.node_loop.proofs.Turning.{begun_then, ends_as, has_no_memory, has_not_begun, has_stopped, has_turn_failed, has_turned, has_turned_by, kept_met, mails_nothing, sends_same}
use Rattle.node_loop.proofs.site.Site.turn.Goals as goal

pub returns-in-Err-clause-stopped : goal.returns-in-Err-clause-stopped
returns-in-Err-clause-stopped g c =
    let told = g.D.Disk.is_told in
    let s = c.args.self.now in
    let role = g.N.Node.role s.node in
    let store = c.args.store.now in
    let batch = c.args.batch.now in
    let old = held_of g.N.Node.state s store batch in
    has_not_begun told role s.sender.boot c.args.bounds.period c.args.bounds.turns c.args.spent.now old _ _ _ _ _ _ _ _ (puts_of told batch) (posts_of batch) _ c.in-Err.status refl refl
    c.saturating_sub-left.ensures c.requires.between c.requires.more (sends_same _ _ _ _ c.in-Err.ensures.sent.0 c.in-Err.ensures.sent.1) c.in-Err.ensures.cannot

pub returns-in_default-clause-stopped : goal.returns-in_default-clause-stopped
returns-in_default-clause-stopped g c =
    let told = g.D.Disk.is_told in
    let s = c.args.self.now in
    let role = g.N.Node.role s.node in
    let store = c.args.store.now in
    let batch = c.args.batch.now in
    let old = held_of g.N.Node.state s store batch in
    let noted = c.note_turn.new.self in
    let began = rw c.in-Ok-Some.field-0-is at c.in-Ok-Some.ensures.begun in
    let turn = turn_of c.begin.new.buf c.in-Ok-Some.begun.0 c.in-Ok-Some.begun.1 in
    let puts : puts_of told noted ≡ puts_of told batch = ap (λ (w : Waiting). known_of told (recs_of w)) c.note_turn.ensures.records in
    let posts : posts_of noted ≡ posts_of batch = ap (λ v. datagrams_of_all v.items) c.note_turn.ensures.posts in
    let still = c.in-Ok-Some.ensures.sent in
    has_no_memory told role s.sender.boot c.args.bounds.period c.args.bounds.turns c.args.spent.now old _ _ _ _ _ _ _ _ turn _
    c.saturating_sub-left.ensures (c.requires.between, c.requires.more) began (puts_of told noted) (posts_of noted) puts posts (sends_same _ _ _ _ still.0 still.1)

pub returns-in_default-happens-clause-went : goal.returns-in_default-happens-clause-went
returns-in_default-happens-clause-went g c =
    let told = g.D.Disk.is_told in
    let s = c.args.self.now in
    let role = g.N.Node.role s.node in
    let store = c.args.store.now in
    let batch = c.args.batch.now in
    let old = held_of g.N.Node.state s store batch in
    let noted = c.note_turn.new.self in
    let began = rw c.in-Ok-Some.field-0-is at c.in-Ok-Some.ensures.begun in
    let turn = turn_of c.begin.new.buf c.in-Ok-Some.begun.0 c.in-Ok-Some.begun.1 in
    let puts : puts_of told noted ≡ puts_of told batch = ap (λ (w : Waiting). known_of told (recs_of w)) c.note_turn.ensures.records in
    let posts : posts_of noted ≡ posts_of batch = ap (λ v. datagrams_of_all v.items) c.note_turn.ensures.posts in
    let still = c.in-Ok-Some.ensures.sent in
    let e = c.in-Ok.ensures in
    let happened = e.happens (kept_of store batch) (journal_then store batch) in
    let is_met = now_with g.N.Node.state c.meet.new.self store batch noted (ap recs_of c.note_turn.ensures.records) ∙ e.met (kept_of store batch) (journal_then store batch) in
    let seen = records_of store ++ recs_of batch.records in
    has_turned told role s.sender.boot c.args.bounds.period c.args.bounds.turns c.args.spent.now old _ _ _ _ _ _ _ _ turn _
    c.saturating_sub-left.ensures (c.requires.between, c.requires.more) began None (held_of g.N.Node.state c.meet.new.self store noted) seen
    (subst (λ (rs : List Record). Sees told rs seen) (sym (kept_met role s.sender.boot c.args.bounds.period old.now turn)) (sees_all store (recs_of batch.records) batch.records.fit))
    (sym c.in_default-happens.is ∙ happened) refl is_met
    (mails_nothing (puts_of told noted) (posts_of batch) (posts_of noted) _ _ _ _ posts (sends_same _ _ _ _ still.0 still.1)) _ refl

pub returns-in-Ok-true-clause-stopped : goal.returns-in-Ok-true-clause-stopped
returns-in-Ok-true-clause-stopped g c =
    let told = g.D.Disk.is_told in
    let s = c.args.self.now in
    let role = g.N.Node.role s.node in
    let store = c.args.store.now in
    let batch = c.args.batch.now in
    let old = held_of g.N.Node.state s store batch in
    let noted = c.note_turn.new.self in
    let began = rw c.in-Ok-Some.field-0-is at c.in-Ok-Some.ensures.begun in
    let turn = turn_of c.begin.new.buf c.in-Ok-Some.begun.0 c.in-Ok-Some.begun.1 in
    let puts : puts_of told noted ≡ puts_of told batch = ap (λ (w : Waiting). known_of told (recs_of w)) c.note_turn.ensures.records in
    let posts : posts_of noted ≡ posts_of batch = ap (λ v. datagrams_of_all v.items) c.note_turn.ensures.posts in
    let still = c.in-Ok-Some.ensures.sent in
    let e = c.in-Ok.ensures in
    let happened = e.happens (kept_of store batch) (journal_then store batch) in
    has_stopped told role s.sender.boot c.args.bounds.period c.args.bounds.turns c.args.spent.now old _ _ _ _ _ _ _ _ turn _
    c.saturating_sub-left.ensures (c.requires.between, c.requires.more) began (puts_of told noted) (posts_of noted) puts posts (sends_same _ _ _ _ still.0 still.1)
    (Some c.in-Some.happens) (sym c.in-Some.is ∙ happened)
    (subst (λ r. ends_event r s.sender.boot 0 (Some c.in-Some.happens) ≡ true) (ap g.N.Node.role e.same.0) (sym c.in-Ok-true.ensures ∙ c.in-Ok-true.field-0-test))

pub returns-in-Ok-act-clause-went : goal.returns-in-Ok-act-clause-went
returns-in-Ok-act-clause-went g c =
    let told = g.D.Disk.is_told in
    let s = c.args.self.now in
    let role = g.N.Node.role s.node in
    let store = c.args.store.now in
    let batch = c.args.batch.now in
    let old = held_of g.N.Node.state s store batch in
    let noted = c.note_turn.new.self in
    let began = rw c.in-Ok-Some.field-0-is at c.in-Ok-Some.ensures.begun in
    let turn = turn_of c.begin.new.buf c.in-Ok-Some.begun.0 c.in-Ok-Some.begun.1 in
    let puts : puts_of told noted ≡ puts_of told batch = ap (λ (w : Waiting). known_of told (recs_of w)) c.note_turn.ensures.records in
    let posts : posts_of noted ≡ posts_of batch = ap (λ v. datagrams_of_all v.items) c.note_turn.ensures.posts in
    let still = c.in-Ok-Some.ensures.sent in
    let e = c.in-Ok.ensures in
    let happened = e.happens (kept_of store batch) (journal_then store batch) in
    let is_met = now_with g.N.Node.state c.meet.new.self store batch noted (ap recs_of c.note_turn.ensures.records) ∙ e.met (kept_of store batch) (journal_then store batch) in
    has_turned_by told role s.sender.boot c.args.bounds.period c.args.bounds.turns c.args.spent.now old _ _ _ _ _ _ _ _ turn _
    c.saturating_sub-left.ensures (c.requires.between, c.requires.more) (begun_then _ _ _ _ _ _ _ c.in-Ok-act.ensures.given began) c.in-Some.happens
    (held_of g.N.Node.state c.act.new.self store c.act.new.batch) (g.N.Node.role c.meet.new.self.node) c.meet.new.self.sender.boot
    (held_of g.N.Node.state c.meet.new.self store noted).now (posts_of noted) _ _ (ap g.N.Node.role e.same.0) (ap (λ x. x.boot) e.same.1) is_met posts still.0 still.1
    (sym c.in-Some.is ∙ happened)
    (subst (λ r. ends_event r s.sender.boot 0 (Some c.in-Some.happens) ≡ false) (ap g.N.Node.role e.same.0) (sym c.in-Ok-false.ensures ∙ c.in-Ok-false.field-0-test))
    c.in-Ok-act.ensures.acted _ refl

pub returns-in-Ok-false-clause-stopped : goal.returns-in-Ok-false-clause-stopped
returns-in-Ok-false-clause-stopped g c =
    let told = g.D.Disk.is_told in
    let s = c.args.self.now in
    let role = g.N.Node.role s.node in
    let store = c.args.store.now in
    let batch = c.args.batch.now in
    let old = held_of g.N.Node.state s store batch in
    let noted = c.note_turn.new.self in
    let began = rw c.in-Ok-Some.field-0-is at c.in-Ok-Some.ensures.begun in
    let turn = turn_of c.begin.new.buf c.in-Ok-Some.begun.0 c.in-Ok-Some.begun.1 in
    let puts : puts_of told noted ≡ puts_of told batch = ap (λ (w : Waiting). known_of told (recs_of w)) c.note_turn.ensures.records in
    let posts : posts_of noted ≡ posts_of batch = ap (λ v. datagrams_of_all v.items) c.note_turn.ensures.posts in
    let still = c.in-Ok-Some.ensures.sent in
    let e = c.in-Ok.ensures in
    let happened = e.happens (kept_of store batch) (journal_then store batch) in
    let is_met = now_with g.N.Node.state c.meet.new.self store batch noted (ap recs_of c.note_turn.ensures.records) ∙ e.met (kept_of store batch) (journal_then store batch) in
    let after = c.act.new.batch in
    has_turn_failed told role s.sender.boot c.args.bounds.period c.args.bounds.turns c.args.spent.now old _ _ _ _ _ _ _ _ (puts_of told after) (posts_of after) turn _
    c.saturating_sub-left.ensures (c.requires.between, c.requires.more) (begun_then _ _ _ _ _ _ _ c.in-Err-act.ensures.given began) c.in-Some.happens c.in-Err-act.why
    (sym c.in-Some.is ∙ happened)
    (ends_as told role (g.N.Node.role c.meet.new.self.node) s.sender.boot c.meet.new.self.sender.boot (meets role s.sender.boot c.args.bounds.period old.now turn)
    (held_of g.N.Node.state c.meet.new.self store noted).now c.in-Some.happens c.in-Err-act.why (puts_of told after) (puts_of told batch) (puts_of told noted)
    (posts_of batch) (posts_of noted) (posts_of after) _ _ _ _ _ _ (ap g.N.Node.role e.same.0) (ap (λ x. x.boot) e.same.1) is_met puts posts still.0 still.1 c.in-Err-act.ensures.ends)

pub returns-clause-stopped : goal.returns-clause-stopped
returns-clause-stopped g c =
    let told = g.D.Disk.is_told in
    let s = c.args.self.now in
    let role = g.N.Node.role s.node in
    let store = c.args.store.now in
    let batch = c.args.batch.now in
    let old = held_of g.N.Node.state s store batch in
    let noted = c.note_turn.new.self in
    let began = rw c.in-Ok-Some.field-0-is at c.in-Ok-Some.ensures.begun in
    let turn = turn_of c.begin.new.buf c.in-Ok-Some.begun.0 c.in-Ok-Some.begun.1 in
    let puts : puts_of told noted ≡ puts_of told batch = ap (λ (w : Waiting). known_of told (recs_of w)) c.note_turn.ensures.records in
    let posts : posts_of noted ≡ posts_of batch = ap (λ v. datagrams_of_all v.items) c.note_turn.ensures.posts in
    let still = c.in-Ok-Some.ensures.sent in
    has_no_memory told role s.sender.boot c.args.bounds.period c.args.bounds.turns c.args.spent.now old _ _ _ _ _ _ _ _ turn _
    c.saturating_sub-left.ensures (c.requires.between, c.requires.more) began (puts_of told noted) (posts_of noted) puts posts (sends_same _ _ _ _ still.0 still.1)
