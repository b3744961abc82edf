use Rattle.std.proofs.Common.{◌≡◌, ◌∙◌, ap, sym, subst, refl, IfOk, List, map}
use Rattle.xt_base.specs.declared.ids.NodeId.{NodeId}
use Rattle.xt_base.specs.declared.ids.FileId.{FileId}
use Rattle.xt_base.specs.declared.ids.Boot.{Boot}
use Rattle.xt_messages.specs.declared.message.Payload.TheVariants as payload
use Rattle.xt_protocol.specs.declared.turned.Turned.{Turned}
use Rattle.xt_protocol.specs.Turns.{message, sends}
use Rattle.flease.specs.declared.news.News.TheVariants as news
use Rattle.xt_messages.specs.declared.reply.Reply.TheVariants as reply
use Rattle.flease.specs.declared.news.News.{News}
use Rattle.xt_protocol.specs.FileLeases.{lease_held, live_lease, answer_waiting, lease_news}
use Rattle.xt_protocol.specs.FileStates.{FileState, Site, FileStep}
use Rattle.osd_files.specs.Answers.{news_of}
use Rattle.osd_files.specs.Views.{shown}
use Rattle.osd_files.specs.Rows.{IsRow}
use Rattle.osd_files.proofs.Rows.{if_ok, rows_from, at_clock}
use Rattle.osd_files.proofs.leases.lease_news.Goals as goal

pub returns-in-Holds : goal.returns-in-Holds
returns-in-Holds c =
    let old = shown c.args.file.now in
    let new = shown c.lease_held.new.file in
    let end = c.in-Holds.end in
    let row : News → Site → FileState → FileStep = λ n site s. lease_news site s (news_of n) in
    let P : News → Type 0 = λ n. IfOk c.lease_held.result (λ turned. IsRow (row n) c.args.now old new turned) in
    subst P (sym c.in-Holds.is)
    (rows_from (λ site s. lease_held site s end) (λ site s. lease_held site (record s { last_end = end }) end) c.args.now old.awake old.state (record old.state { last_end = end }) new
    c.lease_held.result (λ sealed body. refl) c.lease_held.ensures)

pub returns-in-Finds : goal.returns-in-Finds
returns-in-Finds c =
    let old = shown c.args.file.now in
    let new = shown c.live_lease.new.file in
    let row : News → Site → FileState → FileStep = λ n site s. lease_news site s (news_of n) in
    let P : News → Type 0 = λ n. IfOk c.live_lease.result (λ turned. IsRow (row n) c.args.now old new turned) in
    subst P (sym c.in-Finds.is) (at_clock (λ site s. live_lease site s c.in-Finds.lease) c.args.now old new c.live_lease.result c.live_lease.ensures)

pub returns-in-Ends : goal.returns-in-Ends
returns-in-Ends c =
    let old = shown c.args.file.now in
    let new = shown c.answer_waiting.new.file in
    let row : News → Site → FileState → FileStep = λ n site s. lease_news site s (news_of n) in
    let none : Site → FileState → FileStep = λ site s. answer_waiting site s (reply.NoLease old.state.last_end) in
    let here : Site → FileState → FileStep = λ site s. answer_waiting site s (reply.NoLease s.last_end) in
    let P : News → Type 0 = λ n. IfOk c.answer_waiting.result (λ turned. IsRow (row n) c.args.now old new turned) in
    subst P (sym c.in-Ends.is)
    (rows_from none here c.args.now old.awake old.state old.state new c.answer_waiting.result (λ sealed body. refl)
    (at_clock none c.args.now old new c.answer_waiting.result c.answer_waiting.ensures))

pub returns-in-Writes : goal.returns-in-Writes
returns-in-Writes c =
    let f = c.args.file.now in
    let old = shown f in
    let m = c.in-Writes in
    let row : News → Site → FileState → FileStep = λ n site s. lease_news site s (news_of n) in
    let P : News → Type 0 = λ n. IfOk c.writes_to.result (λ turned. IsRow (row n) c.args.now old old turned) in
    let told : NodeId → FileId → List (NodeId × Boot) → Turned = λ n x targets. sends (map (λ (t : NodeId × Boot). message n t.0 (payload.Write x m.ballot t.1 m.lease)) targets) in
    let S : Turned → Type 0 = λ turned. turned ≡ told c.node-node.result c.file-id.result c.as_slice.result.now in
    let Q : Turned → Type 0 = λ turned. IsRow (row (news.Writes m.ballot m.lease m.targets)) c.args.now old old turned in
    let all : (turned : Turned) → S turned → Q turned = λ turned is sealed body.
    record {
      here = refl;
      step =
          ap (λ (t : Turned). let made : FileStep = record { state = old.state; turned = t } in made)
          (sym (is
          ∙ ap (λ (n : NodeId). told n c.file-id.result c.as_slice.result.now) c.node-node.ensures
          ∙ ap (λ (x : FileId). told f.awake.node x c.as_slice.result.now) c.file-id.ensures
          ∙ ap (told f.awake.node f.replica.file) c.as_slice.ensures.list));
    }
    in
    subst P (sym m.is) (if_ok S Q c.writes_to.result all c.writes_to.ensures)
