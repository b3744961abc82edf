-- what an ask comes to at its file: a round starts, an update is issued, or it waits
use Rattle.std.proofs.Common.{◌≡◌, ℕ, ◌≤◌, ◌<◌, ◌+◌, inr, Bool, true, false, List, [], ◌∷◌, ◌++◌, map, length, refl, sym, ap, subst, ◌∙◌, arith, Option, Some, None, is_some, le_refl, append-nil, length-append}
use Rattle.std.specs.Prelude.{cond, ◌==◌, nat_lt}
use Rattle.std.proofs.lemmas.Bool.Decides.{nat_tests}
use Rattle.xt_base.specs.MemberList.{has_node, are_distinct}
use Rattle.xt_base.specs.declared.ids.NodeId.{NodeId}
use Rattle.xt_base.specs.declared.ids.OpId.{OpId}
use Rattle.xt_messages.specs.declared.file.Capability.{Capability}
use Rattle.xt_messages.specs.declared.file.Kind.{Kind}
use Rattle.xt_messages.specs.declared.file.Kind.TheVariants as kind
use Rattle.xt_messages.specs.declared.file.Location.{Location}
use Rattle.xt_messages.specs.declared.file.Op.{Op}
use Rattle.xt_messages.specs.declared.message.Payload.{Payload}
use Rattle.xt_messages.specs.declared.message.Payload.TheVariants as payload
use Rattle.xt_messages.specs.declared.reply.Reply.{Reply}
use Rattle.xt_protocol.specs.LeaseRows.{LeaseState, running_round, Proposer, free, asking, writing, held, can_ask, round_starts}
use Rattle.xt_protocol.specs.Register.{empty_seat}
use Rattle.xt_protocol.specs.declared.states.Asks.{Asks}
use Rattle.xt_protocol.specs.declared.states.IssuedAsk.{IssuedAsk}
use Rattle.xt_protocol.specs.declared.states.IssuedUpdate.{IssuedUpdate}
use Rattle.xt_protocol.specs.declared.states.Progress.{Progress}
use Rattle.xt_protocol.specs.declared.states.Progress.TheVariants as progress
use Rattle.xt_protocol.specs.declared.states.Tenure.{Tenure}
use Rattle.xt_protocol.specs.declared.states.WaitingAsk.{WaitingAsk}
use Rattle.xt_protocol.specs.Turns.{quiet, keeps}
use Rattle.xt_protocol.specs.ReplicaRows.{kept_after}
use Rattle.xt_protocol.specs.Primaries.{is_active, is_ready, issued_by, issued_in}
use Rattle.xt_protocol.specs.Serving.{writes}
use Rattle.xt_protocol.specs.Asks.{Served, WAITING, asked_already, is_read, serves, waits, write_done}
use Rattle.xt_protocol.specs.FileStates.{FileState, Site, FileStep, nothing, steps_to, and_then, members_of, ground_of}
use Rattle.xt_protocol.specs.AskRows.{turned_off, refusal_of, waiting_ask, ask_waits, serve_ask, reads_of, round_for, elsewhere, ask_without_lease, ask_under, ask_rows, view_record, ask_let_in, handle_ask}
use Rattle.xt_protocol.specs.FileSteps.{replica_acts, ask_comes}
use Rattle.xt_protocol.specs.Heads.{first_epoch, head_after}
use Rattle.xt_protocol.specs.ReplicaRows.{unanswered}
use Rattle.xt_protocol.specs.Stamps.{is_earlier}
use Rattle.xt_protocol.specs.StripedRows.{handle_striped}
use Rattle.xt_protocol.specs.declared.states.Acted.{Acted}
use Rattle.xt_base.specs.declared.ids.Epoch.{Epoch}
use Rattle.xt_base.specs.declared.ids.Stamp.{Stamp}
use Rattle.xt_messages.specs.declared.reply.Reply.TheVariants as reply
use Rattle.xt_protocol.specs.OsdSteps.{file_concerned}
use Rattle.osd_invariants.specs.Sound.{AreOne, IsHeld, LedUnder, ListUnder, IsSound}
use Rattle.osd_invariants.proofs.StripedAsks.{tells_client, striped_outcome}
use Rattle.lease_runs.proofs.StripedUpdates.{next_stamp}
use Rattle.world_spec.specs.NodeSteps.{to_itself}
use Rattle.xt_messages.specs.declared.file.FileHead.{FileHead}
use Rattle.xt_messages.specs.declared.record.FileRow.{FileRow}
use Rattle.xt_messages.specs.declared.record.Record.{Record}
use Rattle.xt_protocol.specs.declared.states.PrimaryState.{PrimaryState}
use Rattle.xt_protocol.specs.Primaries.{Ground, Led, is_ready_in}
use Rattle.xt_protocol.specs.Turns.{joined}
use Rattle.xt_protocol.specs.Serving.{reads}
use Rattle.xt_protocol.specs.Asks.{newly_issued, read_answer}
use Rattle.xt_protocol.specs.Register.{Round}
use Rattle.own_messages_wait.proofs.Leases.{IsLeaseOf}
use Rattle.own_messages_wait.proofs.Weights.{asks_left}
use Rattle.own_messages_wait.proofs.Standing.{IfAbout, HeadStands, IfMessage, IfTenure, TenureStands}
use Rattle.own_messages_wait.proofs.Tests.{false_true}
use Rattle.own_messages_wait.proofs.Moves.{moves_none}
use Rattle.own_messages_wait.proofs.Mine.{token, mine-each}
use Rattle.own_messages_wait.proofs.Rows.{one_if, next_stands}
use Rattle.own_messages_wait.proofs.Hearing.{IsApart}
use Rattle.own_messages_wait.proofs.Serving.{SentIs, Serves, ask_serves, reply_mine}
use Rattle.own_messages_wait.proofs.Leases.{IfSeated, IsFree, seat_nodes}
use Rattle.own_messages_wait.proofs.Files.{FileStands, IfLed}
use Rattle.own_messages_wait.proofs.Messages.{Gives}

-- a round that starts has a seat for each member
pub fresh_seats : (members : List NodeId) → seat_nodes (map empty_seat members) ≡ members
fresh_seats [] = refl
fresh_seats (m ∷ ms) = ap (λ (ns : List NodeId). m ∷ ns) (fresh_seats ms)

waits_few : (asks : Asks) (ask : WaitingAsk) → asks_left asks ≤ WAITING + 1 → asks_left (waits asks ask) ≤ WAITING + 1
waits_few asks ask few = at (nat_lt (length asks.waiting) WAITING) refl
  where
    below : (a : ℕ) → nat_lt a 64 ≡ true → a < 64
    below a is = grind (arith, nat_tests)

    one : (b : Bool) → one_if b ≤ 1
    one true = omega arith
    one false = omega arith

    at : (b : Bool) → nat_lt (length asks.waiting) WAITING ≡ b → asks_left (cond b (record asks { waiting = asks.waiting ++ ask ∷ [] }) asks) ≤ WAITING + 1
    at false is = few
    at true is =
        let longer = length-append asks.waiting (ask ∷ []) in
        let low = below (length asks.waiting) is in
        let some = one (is_some asks.issued) in
        omega (arith, longer, low, some)

waits_issued : (asks : Asks) (ask : WaitingAsk) → (waits asks ask).issued ≡ asks.issued
waits_issued asks ask = at (nat_lt (length asks.waiting) WAITING)
  where
    at : (b : Bool) → (cond b (record asks { waiting = asks.waiting ++ ask ∷ [] }) asks).issued ≡ asks.issued
    at true = refl
    at false = refl

-- an active primary
pub record IsActive (o : Option Tenure) : Type 0 where
  pub t : Tenure
  pub is : o ≡ Some t
  pub head : FileHead
  pub issued : Option IssuedUpdate
  pub active : t.progress ≡ progress.Active head issued

pub active_is : (o : Option Tenure) → is_active o ≡ true → IsActive o
active_is None is = absurd (false_true is)
active_is (Some t) is = at t.progress refl is
  where
    at : (p : Progress) → t.progress ≡ p → is_active (Some (record t { progress = p })) ≡ true → IsActive (Some t)
    at progress.Gathering e is = absurd (false_true is)
    at (progress.Fetching chosen source asked later) e is = absurd (false_true is)
    at (progress.Installing chosen acked) e is = absurd (false_true is)
    at (progress.Active head issued) e is = record { t = t; is = refl; head = head; issued = issued; active = e }

-- the issued ask is that of the issued update, and nothing waits for a primary that is ready
pub record AsksAgree (s : FileState) : Type 0 where
  pub issued : AreOne (issued_by s.primary.tenure) s.asks.issued
  pub ready : is_ready s.primary.tenure ≡ true → s.asks.waiting ≡ []

pub agree_of : (s : FileState) → IsSound s → AsksAgree s
agree_of s sound = record { issued = sound.issued; ready = sound.ready }

module _ (site : Site) (from : NodeId) (other : (from.0 == site.node.0) ≡ false) where
  -- what an ask leaves, from this head
  abbrev Asked : FileState → FileStep → Type 0
  Asked s step = Gives site.node from s step

  either_asked : (s : FileState) (b : Bool) (x y : FileStep) → (b ≡ true → Asked s x) → (b ≡ false → Asked s y) → Asked s (cond b x y)
  either_asked s true x y p q = p refl
  either_asked s false x y p q = q refl

  module _ (s : FileState) (stands : FileStands site.node s) (sound : AsksAgree s) (apart : are_distinct (members_of s.kept.location) ≡ true) where
    -- other asks, and perhaps a reply
    asks_only : (step : FileStep) → step.state.kept ≡ s.kept → step.state.primary ≡ s.primary → step.state.lease ≡ s.lease → asks_left step.state.asks ≤ WAITING + 1 → to_itself site.node step.turned.outs ≡ [] → Asked s step
    asks_only step kept primary same few outs =
        record {
          head = subst (λ (r : FileRow). HeadStands r.head) (sym kept) stands.head;
          moves = λ mine. moves_none s.kept.head step.state.kept.head (ap (λ (r : FileRow). r.head) kept);
          tenure = subst (λ (r : FileRow). IfTenure site.node r.head step.state.primary.tenure) (sym kept) (subst (λ (p : PrimaryState). IfTenure site.node s.kept.head p.tenure) (sym primary) stands.tenure);
          seats = subst (λ (l : LeaseState). IfSeated (running_round l)) (sym same) stands.seats;
          few = few;
          told = None;
          sent = None;
          outs = outs;
          told_is = tt;
          about_sent = tt;
          about_told = tt;
          stands = tt;
          led = λ led. tt;
          idle = λ o free_now. (refl, refl);
        }

    waits_asked : (ask : WaitingAsk) → Asked s (ask_waits s ask)
    waits_asked ask = asks_only (ask_waits s ask) refl refl refl (waits_few s.asks ask stands.few) refl

    off_asked : (id : OpId) (answer : Reply) → IsApart site.node id → Asked s (turned_off site s id answer)
    off_asked id answer client = asks_only (turned_off site s id answer) refl refl refl stands.few (reply_mine site.node id (payload.Reply id.number s.kept.file answer) client)

    -- a round starts
    round_asked : (p : Proposer) (ask : WaitingAsk) → s.lease ≡ free p → Asked s (round_for site s p ask)
    round_asked p ask is = either_asked s (can_ask p) _ _ (λ can. starts) (λ cannot. asks_only (nothing s) refl refl refl stands.few refl)
      where
        r : Round
        r = round_starts p site.now (members_of s.kept.location)

        content : Payload
        content = payload.Read s.kept.file (round_starts p site.now (members_of s.kept.location)).ballot

        four : (b : Bool) → IsLeaseOf 4 (cond b (Some (payload.Read s.kept.file (round_starts p site.now (members_of s.kept.location)).ballot)) None)
        four true = (refl, le_refl 4)
        four false = tt

        its : (b : Bool) → IfAbout s.kept.file (cond b (Some (payload.Read s.kept.file (round_starts p site.now (members_of s.kept.location)).ballot)) None)
        its true = refl
        its false = tt

        starts : Asked s (steps_to (record s { asks = waits s.asks ask; lease = asking (round_starts p site.now (members_of s.kept.location)) }) (reads_of site s (members_of s.kept.location) (round_starts p site.now (members_of s.kept.location))))
        starts =
            record {
              head = stands.head;
              moves = λ mine. moves_none s.kept.head s.kept.head refl;
              tenure = stands.tenure;
              seats = ap are_distinct (fresh_seats (members_of s.kept.location)) ∙ apart;
              few = waits_few s.asks ask stands.few;
              told = cond (has_node (members_of s.kept.location) site.node.0) (Some content) None;
              sent = None;
              outs = mine-each site.node (members_of s.kept.location) content apart;
              told_is = four (has_node (members_of s.kept.location) site.node.0);
              about_sent = tt;
              about_told = its (has_node (members_of s.kept.location) site.node.0);
              stands = tt;
              led = λ led. tt;
              idle = λ o free_now. absurd free_now;
            }

    without_asked : (p : Proposer) (ask : WaitingAsk) (answer : Option Reply) → s.lease ≡ free p → IsApart site.node ask.id → Asked s (ask_without_lease site s p ask answer)
    without_asked p ask (Some answer) is client = off_asked ask.id answer client
    without_asked p ask None is client = round_asked p ask is

    -- an ask is served
    issued_few : (ask : WaitingAsk) (k : ℕ) → is_some s.asks.issued ≡ true → asks_left s.asks ≤ k → asks_left (waits s.asks ask) ≤ k
        → asks_left (serves (ground_of site s) (record { primary = s.primary; asks = s.asks; turned = quiet }) ask (waits s.asks ask)).asks ≤ k
    issued_few ask k is few more = at (is_read ask.op) (writes (ground_of site s) s.primary ask.id ask.epoch ask.op)
      where
        done : (o : Option Led) → asks_left (write_done (record { primary = s.primary; asks = s.asks; turned = quiet }) ask o (waits s.asks ask)).asks ≤ k
        done None = more
        done (Some led) = subst (λ (b : Bool). asks_left (cond b s.asks (record s.asks { issued = newly_issued led.primary.tenure ask })) ≤ k) (sym is) few

        at : (b : Bool) (o : Option Led)
            → asks_left (cond b (let x : Served = record { primary = s.primary; asks = s.asks; turned = joined quiet (read_answer (ground_of site s) ask.id (reads (ground_of site s) s.primary ask.op)) } in x)
            (write_done (record { primary = s.primary; asks = s.asks; turned = quiet }) ask o (waits s.asks ask))).asks ≤ k
        at true o = few
        at false o = done o

    one_is : (o : Option IssuedUpdate) (a : Option IssuedAsk) → AreOne o a → is_some a ≡ is_some o
    one_is None None one = refl
    one_is (Some u) (Some a) one = refl
    one_is None (Some a) one = absurd one
    one_is (Some u) None one = absurd one

    served_asked : (ask : WaitingAsk) → IsHeld s.lease → is_active s.primary.tenure ≡ true → IsApart site.node ask.id → Asked s (serve_ask site s ask)
    served_asked ask is_held active client = at (active_is s.primary.tenure active)
      where
        at : IsActive s.primary.tenure → Asked s (serve_ask site s ask)
        at a = by_issued (is_some s.asks.issued) refl
          where
            g : Ground
            g = ground_of site s

            now : TenureStands site.node s.kept.head a.t
            now = subst (IfTenure site.node s.kept.head) a.is stands.tenure

            same : is_some s.asks.issued ≡ is_some a.issued
            same = one_is (issued_by s.primary.tenure) s.asks.issued sound.issued ∙ ap (λ (o : Option Tenure). is_some (issued_by o)) a.is ∙ ap (λ (p : Progress). is_some (issued_in p)) a.active

            begins : Serves (ground_of site s).place s.kept a.t.epoch (asks_left s.asks) (record { primary = s.primary; asks = s.asks; turned = quiet })
            begins = record { tenure = a.t; is = a.is; epoch_is = refl; stands = now; head = a.head; issued = a.issued; active = a.active; one = same; sent = None; outs = refl; sent_is = tt; few = le_refl (asks_left s.asks); rec = refl }

            served : (more : ℕ) → asks_left (waits s.asks ask) ≤ more → asks_left s.asks + 1 ≤ more → Serves (ground_of site s).place s.kept a.t.epoch more (serves (ground_of site s) (record { primary = s.primary; asks = s.asks; turned = quiet }) ask (waits s.asks ask))
            served more few up = ask_serves (ground_of site s).place s.kept (site.body s.kept.file) a.t.epoch (asks_left s.asks) more (record { primary = s.primary; asks = s.asks; turned = quiet }) ask (waits s.asks ask) begins client (waits_issued s.asks ask) few up

            gives : (more : ℕ) → Serves (ground_of site s).place s.kept a.t.epoch more (serves (ground_of site s) (record { primary = s.primary; asks = s.asks; turned = quiet }) ask (waits s.asks ask))
                → asks_left (serves (ground_of site s) (record { primary = s.primary; asks = s.asks; turned = quiet }) ask (waits s.asks ask)).asks ≤ WAITING + 1 → Asked s (serve_ask site s ask)
            gives more q few =
                record {
                  head = subst (λ (x : Option Record). HeadStands (kept_after s.kept x).head) (sym q.rec) stands.head;
                  moves = λ mine. moves_none s.kept.head (serve_ask site s ask).state.kept.head (ap (λ (x : Option Record). (kept_after s.kept x).head) q.rec);
                  tenure = subst (λ (x : Option Record). IfTenure site.node (kept_after s.kept x).head (serve_ask site s ask).state.primary.tenure) (sym q.rec) (subst (IfTenure site.node s.kept.head) (sym q.is) q.stands);
                  seats = stands.seats;
                  few = few;
                  told = None;
                  sent = q.sent;
                  outs = q.outs ∙ sym (append-nil (token site.node q.sent));
                  told_is = tt;
                  about_sent = about_by q.issued q.sent q.sent_is;
                  about_told = tt;
                  stands = subst (λ (x : Option Record). IfMessage (kept_after s.kept x) q.sent) (sym q.rec) (sent_stands q.issued q.sent refl q.sent_is);
                  led = λ led. led_by q.sent;
                  idle = λ o free_now. absurd (free_held s.lease free_now is_held);
                }
              where
                about_by : (o : Option IssuedUpdate) (sent : Option Payload) → SentIs (ground_of site s).place o sent → IfAbout s.kept.file sent
                about_by o None is = tt
                about_by None (Some content) is = absurd is
                about_by (Some i) (Some content) is = ap file_concerned is

                sent_stands : (o : Option IssuedUpdate) (sent : Option Payload) → q.issued ≡ o → SentIs (ground_of site s).place o sent → IfMessage s.kept sent
                sent_stands o None is sent_is = tt
                sent_stands None (Some content) is sent_is = absurd sent_is
                sent_stands (Some i) (Some content) is sent_is =
                    subst (λ (c : Payload). IfMessage s.kept (Some c)) (sym sent_is) (next_stands site.node s.kept q.tenure s.kept.file q.head i (q.active ∙ ap (λ (o : Option IssuedUpdate). progress.Active q.head o) is) q.stands, tt)

                led_by : (sent : Option Payload) → IfLed sent (serve_ask site s ask).state
                led_by None = tt
                led_by (Some c) = inr (is_held, ap (λ (o : Option Tenure). is_some o) q.is)

                free_held : (l : LeaseState) → IsFree l → IsHeld l → ⊥
                free_held (free p) f h = h
                free_held (asking r) f h = f
                free_held (writing r) f h = f
                free_held (held p) f h = f

            by_issued : (b : Bool) → is_some s.asks.issued ≡ b → Asked s (serve_ask site s ask)
            by_issued true is =
                gives (WAITING + 2) (served (WAITING + 2) (let low = waits_few s.asks ask stands.few in omega (arith, low)) (let low = stands.few in omega (arith, low)))
                (issued_few ask (WAITING + 1) is stands.few (waits_few s.asks ask stands.few))
            by_issued false is =
                let q = served 1 none_else free_up in
                gives 1 (served 1 none_else free_up) (let low = q.few in omega (arith, low))
              where
                ready : is_ready s.primary.tenure ≡ true
                ready = ap is_ready a.is ∙ ap (λ (p : Progress). is_ready_in p) a.active ∙ free_ready a.issued (sym same ∙ is)
                  where
                    free_ready : (o : Option IssuedUpdate) → is_some o ≡ false → is_ready_in (progress.Active a.head o) ≡ true
                    free_ready None none = refl
                    free_ready (Some i) none = absurd (false_true (sym none))

                zero : asks_left s.asks ≡ 0
                zero = let none : length s.asks.waiting ≡ 0 = ap length (sound.ready ready) in let free_now : one_if (is_some s.asks.issued) ≡ 0 = ap one_if is in omega (arith, none, free_now)

                free_up : asks_left s.asks + 1 ≤ 1
                free_up = let none = zero in omega (arith, none)

                none_else : asks_left (waits s.asks ask) ≤ 1
                none_else = pick (nat_lt (length s.asks.waiting) WAITING)
                  where
                    pick : (b : Bool) → asks_left (cond b (record s.asks { waiting = s.asks.waiting ++ ask ∷ [] }) s.asks) ≤ 1
                    pick true = let longer = length-append s.asks.waiting (ask ∷ []) in let none = zero in omega (arith, longer, none)
                    pick false = let none = zero in omega (arith, none)

    under_asked : (l : LeaseState) (ask : WaitingAsk) → s.lease ≡ l → IsApart site.node ask.id → Asked s (ask_under site s l ask)
    under_asked (held h) ask is client =
        either_asked s (is_active s.primary.tenure) _ _ (λ active. served_asked ask (subst IsHeld (sym is) tt) active client) (λ idle. waits_asked ask)
    under_asked (asking r) ask is client = waits_asked ask
    under_asked (writing r) ask is client = waits_asked ask
    under_asked (free p) ask is client = without_asked p ask (elsewhere site s.acceptor.accepted) is client

    rows_asked : (ask : WaitingAsk) → IsApart site.node ask.id → Asked s (ask_rows site s ask)
    rows_asked ask client = either_asked s (asked_already s.asks ask.id) _ _ (λ already. asks_only (nothing s) refl refl refl stands.few refl) (λ new. under_asked s.lease ask refl client)

  -- ---- an ask that comes

  pub let_in_asked : (s : FileState) (id : OpId) (capability : Capability) (asked : Op) (refusal : Option Reply) → FileStands site.node s → AsksAgree s → are_distinct (members_of s.kept.location) ≡ true → are_distinct capability.location.members ≡ true
      → IsApart site.node id → Asked s (ask_let_in site s id capability asked refusal)
  let_in_asked s id capability asked (Some answer) stands sound apart listed client = off_asked s stands sound apart id answer client
  let_in_asked s id capability asked None stands sound apart listed client = stored s.kept.location refl
    where
      seen : FileStands site.node (record s { used = site.now })
      seen = record { head = stands.head; tenure = stands.tenure; ids = record { asks = stands.ids.asks; tenure = stands.ids.tenure }; seats = stands.seats; few = stands.few }

      stored : (was : Option Location) → s.kept.location ≡ was
          → Asked s (and_then (steps_to (record s { used = site.now }) (keeps (view_record s capability.location was))) (λ (state : FileState). ask_rows site state (waiting_ask site id capability.epoch asked)))
      stored (Some location) is =
          let q = rows_asked (record s { used = site.now }) seen (record { issued = sound.issued; ready = sound.ready }) apart (waiting_ask site id capability.epoch asked) client in
          record { head = q.head; moves = q.moves; tenure = q.tenure; seats = q.seats; few = q.few; told = q.told; sent = q.sent; outs = q.outs; told_is = q.told_is; about_sent = q.about_sent; about_told = q.about_told; stands = q.stands; led = λ led. q.led (λ mine. absurd (never mine)); idle = q.idle }
        where
          never : from.0 ≡ site.node.0 → ⊥
          never mine = false_true (sym other ∙ same from.0 site.node.0 mine)
            where
              same : (a b : ℕ) → a ≡ b → (a == b) ≡ true
              same a b is = grind (arith, nat_tests)
      stored None is =
          let q = rows_asked (record s { used = site.now; kept = record s.kept { location = Some capability.location } })
          (record { head = stands.head; tenure = stands.tenure; ids = record { asks = stands.ids.asks; tenure = stands.ids.tenure }; seats = stands.seats; few = stands.few }) (record { issued = sound.issued; ready = sound.ready }) listed
          (waiting_ask site id capability.epoch asked) client in
          record { head = q.head; moves = q.moves; tenure = q.tenure; seats = q.seats; few = q.few; told = q.told; sent = q.sent; outs = q.outs; told_is = q.told_is; about_sent = q.about_sent; about_told = q.about_told; stands = q.stands; led = λ led. q.led (λ mine. absurd (never mine)); idle = q.idle }
        where
          never : from.0 ≡ site.node.0 → ⊥
          never mine = false_true (sym other ∙ same from.0 site.node.0 mine)
            where
              same : (a b : ℕ) → a ≡ b → (a == b) ≡ true
              same a b is = grind (arith, nat_tests)

  -- an ask on a striped file: an update is kept only where there is no list, and so no primary
  striped_asked : (s : FileState) (id : OpId) (capability : Capability) (asked : Op) → FileStands site.node s → IsSound s → are_distinct (members_of s.kept.location) ≡ true → IsApart site.node id
      → Asked s (replica_acts site s id.client (handle_striped site s.kept id capability asked))
  striped_asked s id capability asked stands sound apart client =
      striped_outcome (λ (acted : Acted). Asked s (replica_acts site s id.client acted)) site s.kept id capability asked
      (record {
        nothing = asks_only s stands (agree_of s sound) apart (replica_acts site s id.client unanswered) refl refl refl stands.few refl;
        tells = λ answer.
            asks_only s stands (agree_of s sound) apart (replica_acts site s id.client (tells_client s.kept id answer)) refl refl refl stands.few
            (reply_mine site.node id (payload.Reply id.number s.kept.file answer) client);
        keeps = λ update keeps. record {
          head = ap (λ (x : Stamp). is_earlier s.kept.head.promised x.epoch) (next_stamp site s.kept id capability asked update keeps) ∙ not_before_first s.kept.head.promised;
          moves = λ mine. absurd (never mine);
          tenure = subst (IfTenure site.node (head_after s.kept.head update))
              (sym (untenured s.lease s.primary.tenure (subst (ListUnder s.lease) keeps.goes.unlisted sound.list) sound.led)) tt;
          seats = stands.seats;
          few = stands.few;
          told = None;
          sent = None;
          outs = reply_mine site.node id (payload.Reply id.number s.kept.file (reply.Ok update.stamp.count update.mark [])) client;
          told_is = tt;
          about_sent = tt;
          about_told = tt;
          stands = tt;
          led = λ led. tt;
          idle = λ o free_now. (refl, refl);
        };
      })
    where
      never : from.0 ≡ site.node.0 → ⊥
      never mine = false_true (sym other ∙ same from.0 site.node.0 mine)
        where
          same : (a b : ℕ) → a ≡ b → (a == b) ≡ true
          same a b is = grind (arith, nat_tests)

      not_before_first : (epoch : Epoch) → is_earlier epoch first_epoch ≡ false
      not_before_first epoch = grind (arith, nat_tests)

      -- without a list there is no lease, and no tenure
      untenured : (l : LeaseState) (o : Option Tenure) → ListUnder l None → LedUnder l o → o ≡ None
      untenured l None listed led = refl
      untenured (free p) (Some t) listed led = absurd led
      untenured (asking r) (Some t) listed led = absurd led
      untenured (writing r) (Some t) listed led = absurd led
      untenured (held h) (Some t) listed led = absurd listed

  pub ask_given : (s : FileState) (k : Kind) (id : OpId) (capability : Capability) (asked : Op) → FileStands site.node s → IsSound s → are_distinct (members_of s.kept.location) ≡ true → are_distinct capability.location.members ≡ true
      → IsApart site.node id → Asked s (ask_comes site s k id capability asked)
  unfolding handle_ask
  ask_given s kind.Replicated id capability asked stands sound apart listed client = let_in_asked s id capability asked (refusal_of site s.kept.location capability asked) stands (agree_of s sound) apart listed client
  ask_given s kind.Striped id capability asked stands sound apart listed client = striped_asked s id capability asked stands sound apart client
