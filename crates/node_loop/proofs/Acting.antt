-- what an event leaves
use Rattle.std.proofs.Common.{ℕ, ◌≡◌, ◌≢◌, refl, ◌∷◌, sym, ◌∙◌, ap, subst, Bool, Option, Some, None, List, ◌++◌, length, take, inl, inr, ◌⊎◌}
use Rattle.std.proofs.Math.Seq.{take-length}
use Rattle.std.specs.List.{All}
use Rattle.std.specs.Option.{IfSome, option_map}
use Rattle.std.proofs.lemmas.List.{append-nil, append_assoc}
use Rattle.std.proofs.lemmas.List.Elements.{All-append, All-filter}
use Rattle.std.specs.Prelude.{◌==◌, []}
use Rattle.xt_base.specs.declared.ids.NodeId.{NodeId}
use Rattle.xt_base.specs.declared.ids.Boot.{Boot}
use Rattle.xt_messages.specs.declared.message.Msg.{Msg}
use Rattle.xt_messages.specs.declared.event.Event.{Event}
use Rattle.xt_messages.specs.Limits.{FitsMessage}
use Rattle.xt_messages.specs.declared.record.Record.{Record}
use Rattle.xt_messages.specs.declared.status.Status.TheVariants as status
use Rattle.xt_protocol.specs.declared.turned.Turned.{Turned}
use Rattle.replica_records.specs.Known.{as_known, Sees}
use Rattle.client_rows.specs.Steps.{Step}
use Rattle.world_spec.specs.NodeSteps.{to_itself, one_more}
use Rattle.node_runs.specs.BatchEnds.{listed}
use Rattle.node_links.specs.declared.link.Datagram.{Datagram}
use Rattle.node_runs.specs.Hearing.{Book}
use Rattle.node_runs.specs.Posting.{Posted, posted, none_posted, HasPosted, HasSentFront}
use Rattle.node_runs.specs.Runs.{JournalAt, Role, Served, grown, needed_in}
use Rattle.node_loop.specs.Batched.{HasStaged}
use Rattle.node_loop.specs.Events.{EndsEvent, EndsStage, HasStepped, Seeing}
use Rattle.node_loop.specs.declared.event.Stop.{Stop}
use Rattle.node_loop.specs.declared.event.Stop.TheVariants as stop
use Rattle.node_loop.specs.Turns.{HasActed}

pub own_fits : (node : NodeId) (old outs own : List Msg) → own ≡ old ++ to_itself node outs → All FitsMessage old → All FitsMessage outs → All FitsMessage own
own_fits node old outs own e before new =
    subst (All FitsMessage) (sym e) (All-append FitsMessage old (to_itself node outs) before (All-filter (λ (m : Msg). m.to.0 == node.0) FitsMessage outs new))

-- all of them are a prefix
pub all_front : (node : NodeId) (boot : Boot) (book : Book) (before count : ℕ) (msgs : List Msg) (mailed : List Datagram → Type 0)
    → HasPosted (posted node boot book (none_posted before) msgs) count mailed → HasSentFront node boot book before msgs mailed
all_front node boot book before count msgs mailed has =
    (length msgs, subst (λ ms. mailed (posted node boot book (none_posted before) ms).datagrams) (sym (take-length msgs)) has.went)

-- why a record isn't staged is why its event ends the node; nothing of the event waits
pub ends_stage : {S : Type 0} (step : Step S) (node : NodeId) (boot : Boot) (book : Book) (before : ℕ) (journal : JournalAt)
    (mailed : List Datagram → Type 0) (staged : Option Record → Type 0) (rec : Record) (why : Stop) → step.turned.rec ≡ Some rec → mailed [] → staged None
    → EndsStage journal.limit (needed_in journal rec) why
    → EndsEvent step node boot book before journal mailed staged why
ends_stage step node boot book before journal mailed staged rec (stop.With (status.JournalFull need limit)) is none without full = (none, without, (rec, is, full))
ends_stage step node boot book before journal mailed staged rec (stop.With status.OutOfMemory) is none without full = inl (none, without)
ends_stage step node boot book before journal mailed staged rec _ is none without full = absurd full

-- where it isn't staged, the event has a record
pub ends_staging : {S : Type 0} (step : Step S) (node : NodeId) (boot : Boot) (book : Book) (before : ℕ) (journal : JournalAt)
    (mailed : List Datagram → Type 0) (staged : Option Record → Type 0) (rec : Option Record) (why : Stop) → step.turned.rec ≡ rec → rec ≢ None → mailed [] → staged None
    → IfSome rec (λ rec. EndsStage journal.limit (needed_in journal rec) why)
    → EndsEvent step node boot book before journal mailed staged why
ends_staging step node boot book before journal mailed staged None why is some none without full = absurd (some refl)
ends_staging step node boot book before journal mailed staged (Some rec) why is some none without full =
    ends_stage step node boot book before journal mailed staged rec why is none without full

-- no step was made
pub ends_unmade : {S : Type 0} (step : Step S) (node : NodeId) (boot : Boot) (book : Book) (before : ℕ) (journal : JournalAt)
    (mailed : List Datagram → Type 0) (staged : Option Record → Type 0) (why : Stop) → (why ≡ stop.Unread) ⊎ (why ≡ stop.With status.OutOfMemory) → mailed [] → staged None
    → EndsEvent step node boot book before journal mailed staged why
ends_unmade step node boot book before journal mailed staged why (inl is) none without =
    subst (λ w. EndsEvent step node boot book before journal mailed staged w) (sym is) (none, without)
ends_unmade step node boot book before journal mailed staged why (inr is) none without =
    subst (λ w. EndsEvent step node boot book before journal mailed staged w) (sym is) (inl (none, without))

-- the records with those that wait, where one more does
pub kept_grows : (records puts wait : List Record) (rec : Option Record) → wait ≡ puts ++ listed rec → records ++ wait ≡ one_more (records ++ puts) rec
kept_grows records puts wait None is = ap (λ (rs : List Record). records ++ rs) (is ∙ append-nil puts)
kept_grows records puts wait (Some rec) is = ap (λ (rs : List Record). records ++ rs) is ∙ sym (append_assoc records puts (rec ∷ []))

-- a prefix went, of the same messages
pub front_as : (node home : NodeId) (boot : Boot) (book kept : Book) (before : ℕ) (msgs outs : List Msg) (mailed went : List Datagram → Type 0) → node ≡ home → book ≡ kept → msgs ≡ outs
    → ((ds : List Datagram) → mailed ds → went ds) → HasSentFront node boot book before msgs mailed → HasSentFront home boot kept before outs went
front_as node home boot book kept before msgs outs mailed went e same are as_told is = (
  is.0,
  subst (λ n. went (posted n boot kept (none_posted before) (take is.0 outs)).datagrams) e
      (subst (λ b. went (posted node boot b (none_posted before) (take is.0 outs)).datagrams) same
      (subst (λ ms. went (posted node boot book (none_posted before) (take is.0 ms)).datagrams) are (as_told (posted node boot book (none_posted before) (take is.0 msgs)).datagrams is.1))),
)

-- memory ran out after the record of the event was staged: it waits, and a prefix of the messages waits or was sent
pub ends_mailed : {S : Type 0} (step : Step S) (node home : NodeId) (boot : Boot) (book kept : Book) (before : ℕ) (journal : JournalAt)
    (mailed went : List Datagram → Type 0) (staged : Option Record → Type 0) (rec : Option Record) (msgs : List Msg) → node ≡ home → book ≡ kept
    → msgs ≡ step.turned.outs → rec ≡ step.turned.rec → ((ds : List Datagram) → went ds → mailed ds) → HasSentFront node boot book before msgs went → staged rec
    → EndsEvent step home boot kept before journal mailed staged (stop.With status.OutOfMemory)
ends_mailed step node home boot book kept before journal mailed went staged rec msgs e same are is as_mailed front waits =
    inr (front_as node home boot book kept before msgs step.turned.outs went mailed e same are as_mailed front, subst staged is waits)

-- the node after an event, whose messages to itself were queued
pub has_acted : {S : Type 0} (told : Bool) (role : Role S) (boot : Boot) (old : Served S) (happens : Event) (seen : List Record) (node : NodeId) (book : Book)
    (state : S) (kept : List Record) (journal : JournalAt) (own : List Msg) (count : ℕ) (outs : List Msg) (handed : List Datagram → Type 0)
    → Sees told old.kept seen → node ≡ role.node → book ≡ old.ears.book
    → HasStepped told (role.step seen old.state old.clock happens) node boot book old.count old.kept old.journal state kept journal outs count handed
    → own ≡ old.own ++ to_itself node outs
    → HasActed told role boot old happens (record old { state = state; kept = kept; own = own; count = count; journal = journal }) handed
has_acted told role boot old happens seen node book state kept journal own count outs handed sees home same is queued =
    let step = role.step seen old.state old.clock happens in
    let posts : posted node boot book (none_posted old.count) step.turned.outs ≡ posted role.node boot old.ears.book (none_posted old.count) step.turned.outs =
    λ i. posted (home i) boot (same i) (none_posted old.count) step.turned.outs in
    let owns : own ≡ old.own ++ to_itself role.node step.turned.outs = queued ∙ (λ i. old.own ++ to_itself (home i) (is.outs_are i)) in
    let counts : count ≡ (posted role.node boot old.ears.book (none_posted old.count) step.turned.outs).count =
    is.sent.counted ∙ ap (λ (p : Posted). p.count) posts in
    record {
      seen = seen;
      sees = sees;
      is = λ i. record old { state = is.state_is i; kept = is.kept_is i; own = owns i; count = counts i; journal = is.journal_is i };
      mails_are = subst handed (ap (λ (p : Posted). p.datagrams) posts) is.sent.went;
    }

-- the node after an event, whose record waits after the others
pub acts : {S : Type 0} (told : Bool) (role : Role S) (boot : Boot) (old : Served S) (happens : Event) (node : NodeId) (book : Book) (state : S) (turned : Turned)
    (records puts wait : List Record) (journal : JournalAt) (own : List Msg) (count : ℕ) (rec : Option Record) (outs : List Msg) (handed went : List Datagram → Type 0)
    → Seeing told old.kept (λ seen. role.step seen old.state old.clock happens ≡ record { state = state; turned = turned })
    → rec ≡ turned.rec → outs ≡ turned.outs → node ≡ role.node → book ≡ old.ears.book → old.kept ≡ records ++ puts
    → HasStaged told old.journal puts wait rec → journal ≡ grown old.journal rec
    → HasPosted (posted node boot book (none_posted old.count) outs) count went → ((ds : List Datagram) → went ds → handed ds)
    → own ≡ old.own ++ to_itself node outs
    → HasActed told role boot old happens (record old { state = state; kept = records ++ wait; own = own; count = count; journal = journal }) handed
acts told role boot old happens node book state turned records puts wait journal own count rec outs handed went by r o home same kept staged stands has as_handed queued =
    let step = role.step by.0 old.state old.clock happens in
    let its_rec : rec ≡ step.turned.rec = r ∙ sym (ap (λ (s : Step _). s.turned.rec) by.2) in
    let its_outs : outs ≡ step.turned.outs = o ∙ sym (ap (λ (s : Step _). s.turned.outs) by.2) in
    let grows : wait ≡ puts ++ listed (option_map (as_known told) step.turned.rec) =
    subst (λ (next : Option Record). wait ≡ puts ++ listed (option_map (as_known told) next)) its_rec staged.0 in
    has_acted told role boot old happens by.0 node book state (records ++ wait) journal own count outs handed by.1 home same
    (record {
      state_is = sym (ap (λ (s : Step _). s.state) by.2);
      kept_is = kept_grows records puts wait (option_map (as_known told) step.turned.rec) grows
          ∙ ap (λ (rs : List Record). one_more rs (option_map (as_known told) step.turned.rec)) (sym kept);
      journal_is = stands ∙ ap (grown old.journal) its_rec;
      outs_are = its_outs;
      sent = subst (λ (ms : List Msg). HasPosted (posted node boot book (none_posted old.count) ms) count handed) its_outs
          (record { counted = has.counted; went = as_handed (posted node boot book (none_posted old.count) outs).datagrams has.went });
    })
    queued
