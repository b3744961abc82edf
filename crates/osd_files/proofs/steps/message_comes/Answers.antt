use Rattle.std.proofs.Common.{◌≡◌, ℕ, subst, List, Bool}
use Rattle.xt_messages.specs.declared.file.Capability.{Capability}
use Rattle.xt_base.specs.declared.ids.OpId.{OpId}
use Rattle.xt_messages.specs.declared.message.Payload.{Payload}
use Rattle.xt_messages.specs.declared.message.Payload.TheVariants as payload
use Rattle.xt_messages.specs.declared.record.Record.{Record}
use Rattle.xt_protocol.specs.declared.turned.Turned.{Turned}
use Rattle.xt_protocol.specs.SeenBodies.{body_by}
use Rattle.xt_protocol.specs.FileSteps.{ask_comes, message_comes, primary_hears}
use Rattle.osd_files.specs.Asking.{fetch_row}
use Rattle.osd_files.specs.Rows.{IsRowBy, IsStep}
use Rattle.osd_files.specs.Views.{shown, site_at}
use Rattle.osd_files.specs.Whole.{IsRowOn, IsSealedBy}
use Rattle.osd_files.proofs.Rows.{if_ok}
use Rattle.osd_files.proofs.Stepped.{for_lease, for_replica, heard_row, told_row}
use Rattle.osd_files.proofs.steps.message_comes.Goals as goal

pub returns-in-Ask-clause-row : goal.returns-in-Ask-clause-row
returns-in-Ask-clause-row g c =
    let f = c.args.file.now in
    let old = shown f in
    let new = shown c.ask_comes.new.file in
    let content = c.args.content.now in
    let capability = c.in-Ask.capability in
    let asked = c.in-Ask.op in
    let id : OpId = record { client = c.args.from; number = c.in-Ask.number } in
    let agrees = g.B.Bodies.agrees c.ask_comes.new.bodies in
    let P : Turned → Type 0 = λ turned. (records : List Record) → agrees records → (test : Capability → Bool) → test capability ≡ c.args.sealed
    → IsStep (λ site s. ask_comes site s capability.location.kind id capability asked) (site_at f.awake c.args.now test (body_by records)) old new turned in
    let Q : Turned → Type 0 = λ turned. (records : List Record) → agrees records → IsRowOn (λ site s. message_comes site s c.args.from content) content c.args.sealed c.args.now (body_by records) old new turned in
    let all : (turned : Turned) → P turned → Q turned = λ turned of records agree test sealed.
    told_row content (payload.Ask c.in-Ask.number capability asked) (site_at f.awake c.args.now test (body_by records)) c.args.from old new turned c.in-Ask.is
    (of records agree test (subst (λ (x : Payload). IsSealedBy test x c.args.sealed) c.in-Ask.is sealed))
    in
    if_ok P Q c.ask_comes.result all c.ask_comes.ensures.row

pub returns-in-Fetch-clause-row : goal.returns-in-Fetch-clause-row
returns-in-Fetch-clause-row g c =
    let f = c.args.file.now in
    let old = shown f in
    let content = c.args.content.now in
    let agrees = g.B.Bodies.agrees c.fetch_comes.new.bodies in
    let P : Turned → Type 0 = λ turned. (records : List Record) → agrees records → (now : ℕ)
    → IsRowBy (λ site s. fetch_row site s c.args.from c.in-Fetch.epoch c.in-Fetch.object c.in-Fetch.version) now (body_by records) old old turned in
    let Q : Turned → Type 0 = λ turned. (records : List Record) → agrees records → IsRowOn (λ site s. message_comes site s c.args.from content) content c.args.sealed c.args.now (body_by records) old old turned in
    let all : (turned : Turned) → P turned → Q turned = λ turned of records agree test sealed.
    told_row content (payload.Fetch c.in-Fetch.file c.in-Fetch.epoch c.in-Fetch.object c.in-Fetch.version) (site_at f.awake c.args.now test (body_by records)) c.args.from old old turned c.in-Fetch.is
    (of records agree c.args.now test)
    in
    if_ok P Q c.fetch_comes.result all c.fetch_comes.ensures.row

pub returns-in_default-clause-row : goal.returns-in_default-clause-row
returns-in_default-clause-row g c =
    let f = c.args.file.now in
    let old = shown f in
    let new = shown c.primary_hears.new.file in
    let content = c.args.content.now in
    let agrees = g.B.Bodies.agrees c.primary_hears.new.bodies in
    let no = c.in_default in
    let P : Turned → Type 0 = λ turned. (records : List Record) → agrees records → IsRowBy (λ site s. primary_hears site s s.lease c.args.from content) c.args.now (body_by records) old new turned in
    let Q : Turned → Type 0 = λ turned. (records : List Record) → agrees records → IsRowOn (λ site s. message_comes site s c.args.from content) content c.args.sealed c.args.now (body_by records) old new turned in
    let all : (turned : Turned) → P turned → Q turned = λ turned of records agree test sealed.
    heard_row (site_at f.awake c.args.now test (body_by records)) c.args.from content old new turned
    (record {
      ask = no.not-Ask;
      read = no.not-Read;
      write = no.not-Write;
      promise = no.not-Promise;
      accepted = no.not-Accepted;
      outrun = no.not-Outrun;
      gather = no.not-Gather;
      fetch = no.not-Fetch;
      stage = no.not-Stage;
      head = no.not-Head;
      update = no.not-Update;
    })
    (of records agree test)
    in
    if_ok P Q c.primary_hears.result all c.primary_hears.ensures.row

pub returns-in_ok-lease_comes-in-Read-clause-row : goal.returns-in_ok-lease_comes-in-Read-clause-row
returns-in_ok-lease_comes-in-Read-clause-row g c =
    λ records agree test sealed. c.in_ok-lease_comes-in-Read.ensures (for_lease c.args.content.now c.in-Read.is) test (body_by records)

pub returns-in_ok-replica_comes-in-Gather-clause-row : goal.returns-in_ok-replica_comes-in-Gather-clause-row
returns-in_ok-replica_comes-in-Gather-clause-row g c =
    λ records agree test sealed. c.in_ok-replica_comes-in-Gather.ensures.row (for_replica c.args.content.now c.in-Gather.is) c.args.now test (body_by records)
