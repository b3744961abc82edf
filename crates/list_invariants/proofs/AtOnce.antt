-- what comes at once, with the version of the list on it
use Rattle.std.proofs.Common.{◌≡◌, ◌∙◌, ℕ, true, refl, ap, sym, subst, List, [], ◌∷◌, None}
use Rattle.std.specs.Prelude.{map}
use Rattle.std.proofs.lemmas.List.{map-append}
use Rattle.xt_base.specs.declared.ids.NodeId.{NodeId}
use Rattle.xt_base.specs.declared.ids.FileId.{FileId}
use Rattle.xt_base.specs.declared.ids.OpId.{OpId}
use Rattle.xt_base.specs.declared.ids.Boot.{Boot}
use Rattle.xt_base.specs.declared.ids.Ballot.{Ballot}
use Rattle.xt_base.specs.declared.ids.Stamp.{Stamp}
use Rattle.xt_messages.specs.declared.file.Capability.{Capability}
use Rattle.xt_messages.specs.declared.file.Op.{Op}
use Rattle.xt_messages.specs.declared.file.Op.TheVariants as op
use Rattle.xt_messages.specs.declared.reply.Reply.{Reply}
use Rattle.xt_messages.specs.declared.reply.Reply.TheVariants as reply
use Rattle.xt_messages.specs.declared.message.Payload.TheVariants as payload
use Rattle.xt_messages.specs.declared.message.Msg.{Msg}
use Rattle.xt_messages.specs.declared.event.Mark.TheVariants as mark
use Rattle.xt_protocol.specs.Register.{lease_of}
use Rattle.xt_protocol.specs.LeaseRows.{Proposer, free, can_ask}
use Rattle.xt_protocol.specs.Turns.{reply_to, to_each}
use Rattle.xt_protocol.specs.Primaries.{is_active}
use Rattle.xt_protocol.specs.AskRows.{elsewhere}
use Rattle.xt_protocol.specs.FileStates.{FileState, Site, FileStep, members_of}
use Rattle.xt_protocol.specs.FileSteps.{step_of_file}
use Rattle.osd_invariants.specs.AtOnce.{AnswersOk, Completes, InTurn, IsNewAsk, RenewsInTime, Sends, ShowsMark, WinsInTime, kept_once_let_in}
use Rattle.osd_invariants.specs.AtOnce as before_lists
use Rattle.osd_invariants.proofs.AtOnce as rows
use Rattle.list_rows.specs.ListRows.{as_version, list_version, step_of_message, with_version}
use Rattle.list_laws.specs.Takes.{IsOpenAt}
use Rattle.list_invariants.specs.AtOnce.{AsksEach}
use Rattle.list_invariants.proofs.OpenLists.{open_message, open_asked}

-- a reply is sent with a version put on the messages of a step as without
reply_sent : (version : ℕ) (node : NodeId) (file : FileId) (id : OpId) (answer : Reply) (step : FileStep) → Sends (reply_to node file id answer) step
    → Sends (reply_to node file id answer) (with_version version step)
reply_sent version node file id answer step sent =
    record {
      before = map (as_version version) sent.before;
      after = map (as_version version) sent.after;
      outs =
          ap (λ (outs : List Msg). map (as_version version) outs) sent.outs
          ∙ map-append (as_version version) sent.before (reply_to node file id answer ∷ sent.after);
    }

pub answers_reads : (site : Site) (s : FileState) (from : NodeId) (list number : ℕ) (capability : Capability) (object at len : ℕ) → InTurn site s → is_active s.primary.tenure ≡ true
    → IsNewAsk site s (record { client = from; number = number }) capability (op.Read object at len) → IsOpenAt s capability.location.version
    → AnswersOk site s.kept.file (record { client = from; number = number }) (step_of_message site s from list (payload.Ask number capability (op.Read object at len)))
answers_reads site s from list number capability object at len turn active new is =
    let id : OpId = record { client = from; number = number } in
    let content = payload.Ask number capability (op.Read object at len) in
    let told = rows.answers_reads site s from number capability object at len turn active new in
    subst (λ (st : FileStep). AnswersOk site s.kept.file id st) (sym (open_asked site s from list number capability (op.Read object at len) is))
    (record {
      count = told.count;
      size = told.size;
      bytes = told.bytes;
      sent = reply_sent (list_version s.kept.location) site.node s.kept.file id (reply.Ok told.count told.size told.bytes) (step_of_file site s from content) told.sent;
    })

pub answers_writes : (site : Site) (s : FileState) (from : NodeId) (list : ℕ) (file : FileId) (stamp : Stamp) → InTurn site s → IsOpenAt s list → (c : Completes site s from stamp)
    → Sends (reply_to site.node s.kept.file c.issued.update.id (reply.Ok c.issued.update.stamp.count c.issued.update.mark []))
    (step_of_message site s from list (payload.Ack file stamp))
answers_writes site s from list file stamp turn is c =
    let u = c.issued.update in
    let answer = reply.Ok u.stamp.count u.mark [] in
    subst (λ (st : FileStep). Sends (reply_to site.node s.kept.file u.id answer) st) (sym (open_message site s from list (payload.Ack file stamp) refl is))
    (reply_sent (list_version s.kept.location) site.node s.kept.file u.id answer (step_of_file site s from (payload.Ack file stamp))
    (rows.answers_writes site s from file stamp turn c))

-- a mark stays as it is
mark_shown : (version : ℕ) (file end : ℕ) (step : FileStep) → ShowsMark (mark.Held file end) step → ShowsMark (mark.Held file end) (with_version version step)
mark_shown version file end step shown = record { before = shown.before; after = shown.after; marks = shown.marks }

pub holds_leases : (site : Site) (s : FileState) (from : NodeId) (list : ℕ) (file : FileId) (ballot : Ballot) (boot : Boot) → IsOpenAt s list → (w : WinsInTime site s from ballot boot)
    → ShowsMark (mark.Held s.kept.file.number (lease_of w.round).end) (step_of_message site s from list (payload.Accepted file ballot boot))
holds_leases site s from list file ballot boot is w =
    let end = (lease_of w.round).end in
    subst (λ (st : FileStep). ShowsMark (mark.Held s.kept.file.number end) st) (sym (open_message site s from list (payload.Accepted file ballot boot) refl is))
    (mark_shown (list_version s.kept.location) s.kept.file.number end (step_of_file site s from (payload.Accepted file ballot boot))
    (rows.holds_leases site s from file ballot boot w))

pub renews_leases : (site : Site) (s : FileState) (from : NodeId) (list : ℕ) (file : FileId) (ballot : Ballot) (boot : Boot) → IsOpenAt s list → (r : RenewsInTime site s from ballot boot)
    → ShowsMark (mark.Held s.kept.file.number (lease_of r.round).end) (step_of_message site s from list (payload.Accepted file ballot boot))
renews_leases site s from list file ballot boot is r =
    let end = (lease_of r.round).end in
    subst (λ (st : FileStep). ShowsMark (mark.Held s.kept.file.number end) st) (sym (open_message site s from list (payload.Accepted file ballot boot) refl is))
    (mark_shown (list_version s.kept.location) s.kept.file.number end (step_of_file site s from (payload.Accepted file ballot boot))
    (rows.renews_leases site s from file ballot boot r))

each_asked : (version : ℕ) (site : Site) (file : FileId) (members : List NodeId) (step : FileStep) → before_lists.AsksEach site file members step
    → AsksEach site file version members (with_version version step)
each_asked version site file members step asks =
    record {
      ballot = asks.ballot;
      before = map (as_version version) asks.before;
      outs =
          ap (λ (outs : List Msg). map (as_version version) outs) asks.outs
          ∙ map-append (as_version version) asks.before (to_each site.node members (payload.Read file asks.ballot));
    }

pub starts_rounds : (site : Site) (s : FileState) (from : NodeId) (list number : ℕ) (capability : Capability) (asked : Op) (p : Proposer) → s.lease ≡ free p → can_ask p ≡ true
    → elsewhere site s.acceptor.accepted ≡ None → IsNewAsk site s (record { client = from; number = number }) capability asked
    → IsOpenAt s capability.location.version
    → AsksEach site s.kept.file (list_version s.kept.location) (members_of (kept_once_let_in s capability).location)
    (step_of_message site s from list (payload.Ask number capability asked))
starts_rounds site s from list number capability asked p without can none new is =
    let members = members_of (kept_once_let_in s capability).location in
    let version = list_version s.kept.location in
    subst (λ (st : FileStep). AsksEach site s.kept.file version members st) (sym (open_asked site s from list number capability asked is))
    (each_asked version site s.kept.file members (step_of_file site s from (payload.Ask number capability asked))
    (rows.starts_rounds site s from number capability asked p without can none new))
