-- In every run a node's messages to itself wait in a chain; so a status that an OSD sends itself is of the head that it has.
use Rattle.std.proofs.Common.{◌≡◌, ℕ, ◌≤◌, ◌+◌, ◌⊎◌, inl, inr, Bool, true, false, List, [], ◌∷◌, ◌++◌, refl, sym, ap, ap₂, subst, ◌∙◌, arith, Option, Some, None, append-nil, append_assoc}
use Rattle.std.specs.Prelude.{cond, ◌==◌, ◌&&◌, max, not}
use Rattle.std.proofs.lemmas.Bool.{eqb-true}
use Rattle.std.proofs.lemmas.Bool.Decides.{nat_tests}
use Rattle.xt_base.specs.declared.ids.NodeId.{NodeId}
use Rattle.xt_base.specs.declared.ids.FileId.{FileId}
use Rattle.xt_messages.specs.declared.event.Event.{Event}
use Rattle.xt_messages.specs.declared.event.Event.TheVariants as event
use Rattle.xt_messages.specs.declared.message.Msg.{Msg}
use Rattle.xt_messages.specs.declared.message.Payload.{Payload}
use Rattle.xt_messages.specs.declared.message.Payload.TheVariants as payload
use Rattle.xt_protocol.specs.declared.turned.Turned.{Turned}
use Rattle.xt_protocol.specs.FileIds.{is_file}
use Rattle.xt_protocol.specs.FileStates.{FileState}
use Rattle.xt_protocol.proofs.Folds.{file-itself}
use Rattle.xt_protocol.specs.LeaseRows.{Awake, is_silent}
use Rattle.xt_protocol.specs.OsdSteps.{OsdState, OsdStep, file_at, file_concerned, step_of_osd}
use Rattle.lease_safety.specs.State.{Has}
use Rattle.lease_runs.specs.LeaseView.{is_about}
use Rattle.lease_runs.proofs.Tests.{same_node}
use Rattle.client_rows.specs.Rows.{stepped, called_again}
use Rattle.server_rows.specs.Metadata.{step_of_mrc}
use Rattle.server_rows.specs.Directory.{step_of_dir}
use Rattle.world_spec.specs.Lines.{no_longer_pending}
use Rattle.world_spec.specs.World.{World, Node, Running, Core, osd, client, mrc, dir, world_key, node_in, with_node}
use Rattle.world_spec.specs.NodeSteps.{to_itself, after_turn, outside_of, rewritten_at}
use Rattle.world_runs.specs.View.{awake_as, messages}
use Rattle.world_runs.proofs.Frame.{next_node}
use Rattle.world_runs.proofs.Lists.{has_in, has_left, has_right, has_filter}
use Rattle.world_runs.proofs.Tables.{same, node_in-new, node_in-other}
use Rattle.world_runs.proofs.Walk.{IsKept, NodeStep, of_osd, of_client, of_mrc, of_dir, of_call, of_again, Reaches, AreLeft, left_within, call_step}
use Rattle.own_messages_wait.proofs.Mine.{mine-append}
use Rattle.own_messages_wait.proofs.Standing.{IfWaits}
use Rattle.own_messages_wait.proofs.Chains.{Chain, about-append, list_of, own_sum, primary_about, total}
use Rattle.own_messages_wait.proofs.Outside.{bound_of, outside_chain}
use Rattle.own_messages_wait.proofs.Weights.{is_lease}
use Rattle.own_messages_wait.proofs.Files.{IfLed}
use Rattle.own_messages_wait.proofs.Keeping.{Stood, stood_kept, node_is}
use Rattle.own_messages_wait.proofs.Running.{InChain, OsdChain, no_own, of_an_osd, of_one_file, of_another, EndsAt, awake_is, silent_is, own_chain, forgotten_chain}
use Rattle.own_messages_wait.proofs.Tests.{false_true}

-- ---- fewer messages

-- A node that is cut off leaves a front of its messages; so there are lists to look at that are parts of a chain's.

-- about each file there is the message that there was, or none
abbrev AreFewer : List Msg → List Msg → Type 0
AreFewer fewer own = (g : FileId) → (primary_about g fewer ≡ []) ⊎ (primary_about g fewer ≡ primary_about g own)

abbrev first_of : List Payload → Option Payload
first_of [] = None
first_of (content ∷ rest) = Some content

one_at_most : (xs : List Payload) (o : Option Payload) → xs ≡ list_of o → xs ≡ list_of (first_of xs)
one_at_most xs None is = subst (λ (ys : List Payload). ys ≡ list_of (first_of ys)) (sym is) refl
one_at_most xs (Some content) is = subst (λ (ys : List Payload). ys ≡ list_of (first_of ys)) (sym is) refl

first_is : (o : Option Payload) → first_of (list_of o) ≡ o
first_is None = refl
first_is (Some content) = refl

module _ (awake : Awake) (n : NodeId) (files : List FileState) (own fewer : List Msg) (k : ℕ) (c : Chain awake n files own k) (are : AreFewer fewer own) where
  none_or_it : (g : FileId) → (first_of (primary_about g fewer) ≡ None) ⊎ (first_of (primary_about g fewer) ≡ c.sent g)
  none_or_it g = elim (are g) [ inl none ↦ inl (ap (λ (xs : List Payload). first_of xs) none) | inr same ↦ inr (ap (λ (xs : List Payload). first_of xs) (same ∙ c.is g) ∙ first_is (c.sent g)) ]

  by_message : (P : Option Payload → Type 0) (g : FileId) → P None → P (c.sent g) → P (first_of (primary_about g fewer))
  by_message P g none it = elim (none_or_it g) [ inl is ↦ subst P (sym is) none | inr is ↦ subst P (sym is) it ]

  fewer_chain : Chain awake n files fewer (own_sum fewer + total n (λ g. first_of (primary_about g fewer)) files)
  fewer_chain = record {
    sent = λ g. first_of (primary_about g fewer);
    is = λ g. elim (are g) [
      | inl none ↦ one_at_most (primary_about g fewer) None none
      | inr same ↦ one_at_most (primary_about g fewer) (c.sent g) (same ∙ c.is g)
    ];
    stands = λ g. by_message (λ (o : Option Payload). IfWaits (file_at awake files g).kept (file_at awake files g).primary.tenure o) g tt (c.stands g);
    led = λ g. by_message (λ (o : Option Payload). IfLed o (file_at awake files g)) g tt (c.led g);
    known = λ g absent. by_message (λ (o : Option Payload). o ≡ None) g refl (c.known g absent);
    low = same_le (own_sum fewer + total n (λ g. first_of (primary_about g fewer)) files);
  }
    where
      same_le : (a : ℕ) → a ≤ a
      same_le a = omega arith

-- of at most one message a part is none, or all
front_few : (xs ys : List Payload) (o : Option Payload) → xs ++ ys ≡ list_of o → (xs ≡ []) ⊎ (xs ≡ xs ++ ys)
front_few [] ys o is = inl refl
front_few (x ∷ xs) ys None is = absurd (cc is)
front_few (x ∷ []) [] (Some content) is = inr refl
front_few (x ∷ []) (y ∷ ys) (Some content) is = absurd (cc is)
front_few (x ∷ y ∷ xs) ys (Some content) is = absurd (cc is)

rest_few : (xs ys : List Payload) (o : Option Payload) → xs ++ ys ≡ list_of o → (ys ≡ []) ⊎ (ys ≡ xs ++ ys)
rest_few [] ys o is = inr refl
rest_few (x ∷ xs) ys None is = absurd (cc is)
rest_few (x ∷ []) [] (Some content) is = inl refl
rest_few (x ∷ []) (y ∷ ys) (Some content) is = absurd (cc is)
rest_few (x ∷ y ∷ xs) ys (Some content) is = absurd (cc is)

none_front : (xs ys : List Payload) → xs ++ ys ≡ [] → xs ≡ []
none_front [] ys is = refl
none_front (x ∷ xs) ys is = absurd (cc is)

middle_few : (xs ys zs : List Payload) (o : Option Payload) → xs ++ (ys ++ zs) ≡ list_of o → (ys ≡ []) ⊎ (ys ≡ xs ++ (ys ++ zs))
middle_few xs ys zs o is = elim (rest_few xs (ys ++ zs) o is) [
  | inl none ↦ inl (none_front ys zs none)
  | inr same ↦ elim (front_few ys zs o (same ∙ is)) [ inl none ↦ inl none | inr all ↦ inr (all ∙ same) ]
]

-- ---- what waits

abbrev pub IsNoOsd : Core → Type 0
IsNoOsd (osd s) = ⊥
IsNoOsd _ = Unit {0}

-- messages to itself of a node that isn't an OSD
pub record AtAnother (w : World) (own : List Msg) : Type 0 where
  pub node : Node
  pub running : Running
  pub found : node_in w.nodes node.id.0 ≡ Some node
  pub up : node.up ≡ Some running
  pub no_osd : IsNoOsd running.core
  pub to : (m : Msg) → Has m own → m.to ≡ node.id

-- A node's messages to itself wait in a chain, or at a node that isn't an OSD.
pub data IsWaiting (w : World) (own : List Msg) : Type 0 where
  none_waits : own ≡ [] → IsWaiting w own
  at_an_osd : (k : ℕ) → OsdChain w own k → IsWaiting w own
  at_another : AtAnother w own → IsWaiting w own

pub record Waiting (w : World) (own : List Msg) : Type 0 where
  pub stood : Stood w own
  pub waits : IsWaiting w own

chain_waits : (w : World) (own : List Msg) (k : ℕ) → InChain w own k → IsWaiting w own
chain_waits w own k (no_own none) = none_waits none
chain_waits w own k (of_an_osd c) = at_an_osd k c
chain_waits w own k (of_one_file whole c file alone) = at_an_osd whole c
chain_waits w own k (of_another c) = another own c.to c.ends
  where
    no_osd : (core : Core) (m : Msg) → EndsAt c.node.id core m → IsNoOsd core
    no_osd (osd s) m ends = ends
    no_osd (client s) m ends = tt
    no_osd (mrc s) m ends = tt
    no_osd (dir s) m ends = tt

    another : (own : List Msg) → ((m : Msg) → Has m own → m.to ≡ c.node.id) → ((m : Msg) → Has m own → EndsAt c.node.id c.running.core m) → IsWaiting w own
    another [] to ends = none_waits refl
    another (m ∷ ms) to ends = at_another (record { node = c.node; running = c.running; found = c.found; up = c.up; no_osd = no_osd c.running.core m (ends m (inl refl)); to = to })

-- a part of what waits, with the same nodes
part_waits : (w v : World) (own xs ys zs : List Msg) → own ≡ xs ++ (ys ++ zs) → v.nodes ≡ w.nodes → IsWaiting w own → IsWaiting v ys
part_waits w v own xs ys zs split nodes waiting = at waiting
  where
    within : (m : Msg) → Has m ys → Has m own
    within m h = subst (Has m) (sym split) (has_right m xs (ys ++ zs) (has_left m ys zs h))

    none_in : (ys : List Msg) → ((m : Msg) → Has m ys → ⊥) → ys ≡ []
    none_in [] never = refl
    none_in (y ∷ ys) never = absurd (never y (inl refl))

    about : (g : FileId) → primary_about g own ≡ primary_about g xs ++ (primary_about g ys ++ primary_about g zs)
    about g = ap (primary_about g) split ∙ about-append g xs (ys ++ zs) ∙ ap (λ (ps : List Payload). primary_about g xs ++ ps) (about-append g ys zs)

    fewer : (c : FileId → Option Payload) → ((g : FileId) → primary_about g own ≡ list_of (c g)) → AreFewer ys own
    fewer c is g = elim (middle_few (primary_about g xs) (primary_about g ys) (primary_about g zs) (c g) (sym (about g) ∙ is g)) [ inl none ↦ inl none | inr all ↦ inr (all ∙ sym (about g)) ]

    at : IsWaiting w own → IsWaiting v ys
    at (none_waits none) = none_waits (none_in ys (λ m h. subst (Has m) none (within m h)))
    at (at_an_osd k c) = at_an_osd (own_sum ys + total c.state.started.node (λ g. first_of (primary_about g ys)) c.state.files) (record {
      node = c.node;
      running = c.running;
      state = c.state;
      found = ap (λ (ns : List Node). node_in ns c.node.id.0) nodes ∙ c.found;
      up = c.up;
      core = c.core;
      awake = c.awake;
      to = λ m h. c.to m (within m h);
      chain = fewer_chain (awake_as c.state.started) c.state.started.node c.state.files own ys k c.chain (fewer c.chain.sent c.chain.is);
    })
    at (at_another c) = at_another (record { node = c.node; running = c.running; found = ap (λ (ns : List Node). node_in ns c.node.id.0) nodes ∙ c.found; up = c.up; no_osd = c.no_osd; to = λ m h. c.to m (within m h) })

-- ---- a step of an OSD

some_node : (a b : Node) → Some a ≡ Some b → a ≡ b
some_node a b e = cc e

some_running : (a b : Running) → Some a ≡ Some b → a ≡ b
some_running a b e = cc e

same_state : (a b : OsdState) → osd a ≡ osd b → a ≡ b
same_state a b e = cc e

other_core : (core : Core) (s : OsdState) → core ≡ osd s → IsNoOsd core → ⊥
other_core core s e no_osd = subst IsNoOsd e no_osd

not_empty : (m : Msg) (rest : List Msg) → m ∷ rest ≡ [] → ⊥
not_empty m rest e = cc e

same_rest : (m k : Msg) (rest own : List Msg) → m ∷ rest ≡ k ∷ own → own ≡ rest
same_rest m k rest own e = cc e

-- the chain of the OSD to which its first message comes
pub record OfOsd (node : Node) (r : Running) (s : OsdState) (own : List Msg) : Type 0 where
  pub k : ℕ
  pub awake : is_silent s.started (max r.clock s.last) ≡ false
  pub to : (m : Msg) → Has m own → m.to ≡ node.id
  pub chain : Chain (awake_as s.started) s.started.node s.files own k

module _ (w : World) (node : Node) (r : Running) (s : OsdState) (found : node_in w.nodes node.id.0 ≡ Some node) (is_up : node.up ≡ Some r) (is_osd : r.core ≡ osd s) where
  pub of_osd_here : (m : Msg) (rest : List Msg) → m.to ≡ node.id → IsWaiting w (m ∷ rest) → OfOsd node r s (m ∷ rest)
  of_osd_here m rest here (none_waits none) = absurd (not_empty m rest none)
  of_osd_here m rest here (at_another c) =
      let is_node = some_node c.node node (sym c.found ∙ ap (λ (n : NodeId). node_in w.nodes n.0) (sym (c.to m (inl refl)) ∙ here) ∙ found) in
      let is_running = some_running c.running r (sym c.up ∙ ap (λ (n : Node). n.up) is_node ∙ is_up) in
      absurd (other_core c.running.core s (ap (λ (q : Running). q.core) is_running ∙ is_osd) c.no_osd)
  of_osd_here m rest here (at_an_osd k c) =
      let is_node = some_node c.node node (sym c.found ∙ ap (λ (n : NodeId). node_in w.nodes n.0) (sym (c.to m (inl refl)) ∙ here) ∙ found) in
      let is_running = some_running c.running r (sym c.up ∙ ap (λ (n : Node). n.up) is_node ∙ is_up) in
      let is_state = same_state c.state s (sym c.core ∙ ap (λ (q : Running). q.core) is_running ∙ is_osd) in
      record {
        k = k;
        awake = ap₂ (λ (q : Running) (x : OsdState). is_silent x.started (max q.clock x.last)) (sym is_running) (sym is_state) ∙ c.awake;
        to = λ x h. c.to x h ∙ ap (λ (n : Node). n.id) is_node;
        chain = subst (λ (x : OsdState). Chain (awake_as x.started) x.started.node x.files (m ∷ rest) k) is_state c.chain;
      }

  abbrev Step : Event → OsdStep
  Step happens = step_of_osd (outside_of node.kept) s r.clock happens

  abbrev Behind : Event → List Msg → World
  Behind happens outs = after_turn w node (record r { core = osd (step_of_osd (outside_of node.kept) s r.clock happens).osd }) (record (step_of_osd (outside_of node.kept) s r.clock happens).turned { outs = outs })

  -- of what would wait after the whole step, what is left waits
  cut_short : (happens : Event) (front own outs rest : List Msg) (k : ℕ) → (step_of_osd (outside_of node.kept) s r.clock happens).turned.outs ≡ outs ++ rest → (own ≡ []) ⊎ (own ≡ front)
      → (let step = step_of_osd (outside_of node.kept) s r.clock happens in InChain (after_turn w node (record r { core = osd step.osd }) step.turned) (front ++ to_itself node.id step.turned.outs) k)
      → IsWaiting (Behind happens outs) (own ++ to_itself node.id outs)
  cut_short happens front own outs rest k split left chain = at left
    where
      all : to_itself node.id (step_of_osd (outside_of node.kept) s r.clock happens).turned.outs ≡ to_itself node.id outs ++ to_itself node.id rest
      all = ap (to_itself node.id) split ∙ mine-append node.id outs rest

      whole : World
      whole = after_turn w node (record r { core = osd (step_of_osd (outside_of node.kept) s r.clock happens).osd }) (step_of_osd (outside_of node.kept) s r.clock happens).turned

      waiting : IsWaiting (after_turn w node (record r { core = osd (step_of_osd (outside_of node.kept) s r.clock happens).osd }) (step_of_osd (outside_of node.kept) s r.clock happens).turned)
          (front ++ to_itself node.id (step_of_osd (outside_of node.kept) s r.clock happens).turned.outs)
      waiting = chain_waits _ _ k chain

      at : (own ≡ []) ⊎ (own ≡ front) → IsWaiting (Behind happens outs) (own ++ to_itself node.id outs)
      at (inl none) = subst (λ (ms : List Msg). IsWaiting (Behind happens outs) (ms ++ to_itself node.id outs)) (sym none)
          (part_waits whole (Behind happens outs) _ front (to_itself node.id outs) (to_itself node.id rest) (ap (λ (ms : List Msg). front ++ ms) all) refl waiting)
      at (inr same) = subst (λ (ms : List Msg). IsWaiting (Behind happens outs) (ms ++ to_itself node.id outs)) (sym same)
          (part_waits whole (Behind happens outs) _ [] (front ++ to_itself node.id outs) (to_itself node.id rest) (ap (λ (ms : List Msg). front ++ ms) all ∙ sym (append_assoc front (to_itself node.id outs) (to_itself node.id rest))) refl waiting)

  -- an event from outside
  outside_waits : (happens : Event) (own outs rest : List Msg) → own ≡ [] → Reaches w [] node.id happens → (step_of_osd (outside_of node.kept) s r.clock happens).turned.outs ≡ outs ++ rest → Stood w []
      → IsWaiting (Behind happens outs) (own ++ to_itself node.id outs)
  outside_waits happens own outs rest none reaches split stood = at (is_silent s.started (max r.clock s.last)) refl
    where
      no_front : (xs ys : List Msg) → xs ++ ys ≡ [] → xs ≡ []
      no_front [] ys is = refl
      no_front (x ∷ xs) ys is = absurd (not_empty x (xs ++ ys) is)

      at : (b : Bool) → is_silent s.started (max r.clock s.last) ≡ b → IsWaiting (Behind happens outs) (own ++ to_itself node.id outs)
      at true silent = none_waits (ap₂ (λ (a b : List Msg). a ++ to_itself node.id b) none (no_front outs rest (sym split ∙ silent_is (outside_of node.kept) s r.clock happens silent)))
      at false awake =
          let k = bound_of w happens in
          cut_short happens [] own outs rest k split (inl none)
          (subst (λ (step : OsdStep). InChain (after_turn w node (record r { core = osd step.osd }) step.turned) ([] ++ to_itself node.id step.turned.outs) k) (sym (awake_is (outside_of node.kept) s r.clock happens awake))
          (outside_chain w node r s found is_up is_osd stood awake happens reaches))

  -- the first of its messages to itself
  own_waits : (m : Msg) (left own outs rest : List Msg) → (own ≡ []) ⊎ (own ≡ left) → m.to ≡ node.id → (step_of_osd (outside_of node.kept) s r.clock (event.Deliver m)).turned.outs ≡ outs ++ rest → Stood w (m ∷ left) → IsWaiting w (m ∷ left)
      → IsWaiting (Behind (event.Deliver m) outs) (own ++ to_itself node.id outs)
  own_waits m left own outs rest is_left here split stood waiting =
      let c = of_osd_here m left here waiting in
      let next = own_chain w node r s found is_up is_osd m left here c.awake (λ x h. c.to x (inr h)) stood c.k c.chain in
      cut_short (event.Deliver m) left own outs rest next.0 split is_left
      (subst (λ (step : OsdStep). InChain (after_turn w node (record r { core = osd step.osd }) step.turned) (left ++ to_itself node.id step.turned.outs) next.0) (sym (awake_is (outside_of node.kept) s r.clock (event.Deliver m) c.awake)) next.2)

  no_first : (own : List Msg) → AreLeft own [] → own ≡ []
  no_first own (inl none) = none
  no_first own (inr some) = absurd (not_empty some.0 own (sym some.1))

  all_or_none : (m : Msg) (rest own : List Msg) → AreLeft own (m ∷ rest) → (own ≡ []) ⊎ (own ≡ rest)
  all_or_none m rest own (inl none) = inl none
  all_or_none m rest own (inr some) = inr (same_rest m some.0 rest own some.1)

  osd_waits : (was own outs rest : List Msg) (happens : Event) → AreLeft own was → Reaches w was node.id happens → (step_of_osd (outside_of node.kept) s r.clock happens).turned.outs ≡ outs ++ rest → Waiting w was
      → IsWaiting (Behind happens outs) (own ++ to_itself node.id outs)
  osd_waits was own outs rest event.Wake left none split p =
      outside_waits event.Wake own outs rest (no_first own (subst (AreLeft own) none left)) refl split (subst (Stood w) none p.stood)
  osd_waits was own outs rest (event.Call call) left none split p =
      outside_waits (event.Call call) own outs rest (no_first own (subst (AreLeft own) none left)) refl split (subst (Stood w) none p.stood)
  osd_waits was own outs rest (event.Deliver m) left reaches split p = elim reaches.2 [
    | inl none ↦
        outside_waits (event.Deliver m) own outs rest (no_first own (subst (AreLeft own) none left)) (reaches.0, subst (λ (ms : List Msg). Has m (ms ++ messages w)) none reaches.1, inl refl) split (subst (Stood w) none p.stood)
    | inr first ↦
        own_waits m first.0 own outs rest (all_or_none m first.0 own (subst (AreLeft own) first.1 left)) reaches.0 split (subst (Stood w) first.1 p.stood) (subst (IsWaiting w) first.1 p.waits)
  ]

-- ---- a step of another node

other_waits : (w : World) (was own : List Msg) (node : Node) (r : Running) (next : Core) (turned : Turned) (outs : List Msg) → AreLeft own was → node_in w.nodes node.id.0 ≡ Some node → node.up ≡ Some r → IsNoOsd r.core → IsNoOsd next
    → ((m : Msg) (rest : List Msg) → was ≡ m ∷ rest → m.to ≡ node.id) → IsWaiting w was
    → IsWaiting (after_turn w node (record r { core = next }) (record turned { outs = outs })) (own ++ to_itself node.id outs)
other_waits w was own node r next turned outs left found is_up no_osd no_osd_then first waiting =
    at_another (record {
      node = next_node node r next turned;
      running = record r { core = next };
      found = node_in-new w.nodes (next_node node r next turned) node found;
      up = refl;
      no_osd = no_osd_then;
      to = λ m h. elim (has_in m own (to_itself node.id outs) h) [
        | inl old ↦ old_to was waiting first m (left_within own was left m old)
        | inr new ↦ same_node m.to node.id (eqb-true m.to.0 node.id.0 (has_filter (λ (k : Msg). k.to.0 == node.id.0) m outs new).1)
      ];
    })
  where
    old_to : (was : List Msg) → IsWaiting w was → ((m : Msg) (rest : List Msg) → was ≡ m ∷ rest → m.to ≡ node.id) → (m : Msg) → Has m was → m.to ≡ node.id
    old_to [] waiting first m h = absurd h
    old_to (x ∷ xs) (none_waits none) first m h = absurd (not_empty x xs none)
    old_to (x ∷ xs) (at_another d) first m h = d.to m h ∙ sym (d.to x (inl refl)) ∙ first x xs refl
    old_to (x ∷ xs) (at_an_osd k d) first m h =
        let is_node = some_node d.node node (sym d.found ∙ ap (λ (n : NodeId). node_in w.nodes n.0) (sym (d.to x (inl refl)) ∙ first x xs refl) ∙ found) in
        let is_running = some_running d.running r (sym d.up ∙ ap (λ (n : Node). n.up) is_node ∙ is_up) in
        absurd (other_core r.core d.state (sym (ap (λ (q : Running). q.core) is_running) ∙ d.core) no_osd)

-- with no message left there is no first one
none_first : (was : List Msg) → was ≡ [] → (node : NodeId) (m : Msg) (rest : List Msg) → was ≡ m ∷ rest → m.to ≡ node
none_first was none node m rest is = absurd (not_empty m rest (sym is ∙ none))

-- its first message comes to it
first_to : (w : World) (was : List Msg) (node : NodeId) (happens : Event) → Reaches w was node happens → (m : Msg) (rest : List Msg) → was ≡ m ∷ rest → m.to ≡ node
first_to w was node event.Wake none = none_first was none node
first_to w was node (event.Call call) none = none_first was none node
first_to w was node (event.Deliver x) reaches = λ m rest is. elim reaches.2 [
  | inl none ↦ absurd (not_empty m rest (sym is ∙ none))
  | inr first ↦ (let same : x ≡ m = same_head (sym first.1 ∙ is) in subst (λ (k : Msg). k.to ≡ node) same reaches.0)
]
  where
    same_head : {a b : Msg} {xs ys : List Msg} → a ∷ xs ≡ b ∷ ys → a ≡ b
    same_head e = cc e

step_waits : (w : World) (was own : List Msg) (node : Node) (r : Running) (next : Core) (turned : Turned) (outs rest : List Msg) → AreLeft own was → node_in w.nodes node.id.0 ≡ Some node → node.up ≡ Some r
    → NodeStep w was node r next turned → turned.outs ≡ outs ++ rest → Waiting w was → IsWaiting (after_turn w node (record r { core = next }) (record turned { outs = outs })) (own ++ to_itself node.id outs)
step_waits w was own node r _ _ outs rest left found is_up (of_osd s happens is_osd reaches) split p = osd_waits w node r s found is_up is_osd was own outs rest happens left reaches split p
step_waits w was own node r _ _ outs rest left found is_up (of_client c happens is_client reaches) split p =
    let step = stepped node.id w.times c r.clock happens in
    other_waits w was own node r (client step.state) step.turned outs left found is_up (subst IsNoOsd (sym is_client) tt) tt (first_to w was node.id happens reaches) p.waits
step_waits w was own node r _ _ outs rest left found is_up (of_mrc m happens is_mrc reaches) split p =
    let step = step_of_mrc world_key m r.clock happens in
    other_waits w was own node r (mrc step.mrc) step.turned outs left found is_up (subst IsNoOsd (sym is_mrc) tt) tt (first_to w was node.id happens reaches) p.waits
step_waits w was own node r _ _ outs rest left found is_up (of_dir s happens is_dir reaches) split p =
    let step = step_of_dir s happens in
    other_waits w was own node r (dir step.dir) step.turned outs left found is_up (subst IsNoOsd (sym is_dir) tt) tt (first_to w was node.id happens reaches) p.waits
step_waits w was own node r _ _ outs rest left found is_up (of_call c k is_client resting may called) split p =
    let step = call_step w node r c k in
    other_waits w was own node r (client step.state) step.turned outs left found is_up (subst IsNoOsd (sym is_client) tt) tt (none_first was resting.1 node.id) p.waits
step_waits w was own node r _ _ outs rest left found is_up (of_again c is_client resting may) split p =
    let step = called_again node.id w.times c r.clock in
    other_waits w was own node r (client step.state) step.turned outs left found is_up (subst IsNoOsd (sym is_client) tt) tt (none_first was resting.1 node.id) p.waits

-- ---- an OSD forgets

forgotten_waits : (w : World) (own : List Msg) (node : Node) (r : Running) (s : OsdState) → node_in w.nodes node.id.0 ≡ Some node → node.up ≡ Some r → r.core ≡ osd s → IsWaiting w own
    → IsWaiting (record w { nodes = with_node w.nodes (rewritten_at node r s) }) own
forgotten_waits w own node r s found is_up is_osd (none_waits none) = none_waits none
forgotten_waits w own node r s found is_up is_osd (at_an_osd k c) = chain_waits _ own k (forgotten_chain w own node r s found is_up is_osd k (of_an_osd c))
forgotten_waits w own node r s found is_up is_osd (at_another c) = elim (same c.node.id.0 node.id.0) [
  | inl e ↦
      (let is_node = some_node c.node node (sym c.found ∙ ap (node_in w.nodes) e ∙ found) in
      let is_running = some_running c.running r (sym c.up ∙ ap (λ (n : Node). n.up) is_node ∙ is_up) in
      absurd (other_core c.running.core s (ap (λ (q : Running). q.core) is_running ∙ is_osd) c.no_osd))
  | inr ne ↦ at_another (record { node = c.node; running = c.running; found = node_in-other w.nodes (rewritten_at node r s) c.node.id.0 ne ∙ c.found; up = c.up; no_osd = c.no_osd; to = c.to })
]

-- ---- every run

lost_waits : (w : World) (own left : List Msg) → AreLeft left own → IsWaiting w own → IsWaiting w left
lost_waits w own left (inl none) waiting = none_waits none
lost_waits w own left (inr some) waiting = part_waits w w own (some.0 ∷ []) left [] (some.1 ∙ ap (λ (ms : List Msg). some.0 ∷ ms) (sym (append-nil left))) refl waiting

pub waiting_kept : IsKept Waiting
waiting_kept = record {
  begins = record { stood = stood_kept.begins; waits = none_waits refl };
  times = λ lease drift bound. record { stood = stood_kept.times lease drift bound; waits = none_waits refl };
  server_declared = λ w id its serves stands bound free p. record { stood = stood_kept.server_declared w id its serves stands bound free p.stood; waits = none_waits refl };
  client_declared = λ w id clock bound free close p. record { stood = stood_kept.client_declared w id clock bound free close p.stood; waits = none_waits refl };
  file_declared = λ w number location bound free p. record { stood = stood_kept.file_declared w number location bound free p.stood; waits = none_waits refl };
  started = λ w node clock serves bound found down close p. record { stood = stood_kept.started w node clock serves bound found down close p.stood; waits = none_waits refl };
  planned = λ w node r q found is_up boot clock core p. record { stood = stood_kept.planned w node r q found is_up boot clock core p.stood; waits = none_waits refl };
  aimed_at = λ w node r c number target found is_up is_client p. record { stood = stood_kept.aimed_at w node r c number target found is_up is_client p.stood; waits = none_waits refl };
  stopped = λ w own node r how found is_up p. record { stood = stood_kept.stopped w own node r how found is_up p.stood; waits = none_waits refl };
  clock_set = λ w node r clock bound found is_up rises close p. record { stood = stood_kept.clock_set w node r clock bound found is_up rises close p.stood; waits = none_waits refl };
  all_ticked = λ w count bound p. record { stood = stood_kept.all_ticked w count bound p.stood; waits = none_waits refl };
  less_pending = λ w own number p. record {
    stood = stood_kept.less_pending w own number p.stood;
    waits = part_waits w (record w { sent = no_longer_pending w.sent number }) own [] own [] (sym (append-nil own)) refl p.waits;
  };
  lost = λ w own left part p. record { stood = stood_kept.lost w own left part p.stood; waits = lost_waits w own left part p.waits };
  stepped = λ w was own node r next turned outs rest left found is_up step split p. record {
    stood = stood_kept.stepped w was own node r next turned outs rest left found is_up step split p.stood;
    waits = step_waits w was own node r next turned outs rest left found is_up step split p;
  };
  stopped_keeping = λ w own node r next turned rec found is_up step e p. record { stood = stood_kept.stopped_keeping w own node r next turned rec found is_up step e p.stood; waits = none_waits refl };
  forgotten = λ w own node r s found is_up is_osd p. record { stood = stood_kept.forgotten w own node r s found is_up is_osd p.stood; waits = forgotten_waits w own node r s found is_up is_osd p.waits };
  lined = λ w l ended p. record { stood = stood_kept.lined w l ended p.stood; waits = none_waits refl };
}

-- ---- statuses

-- a status of the OSD to itself is of the head that it has
abbrev pub TellsOwn : OsdState → NodeId → Payload → Type 0
TellsOwn s from (payload.Status file epoch head) = from.0 ≡ s.started.node.0 → head ≡ (file_at (awake_as s.started) s.files file).kept.head
TellsOwn s from _ = Unit {0}

module _ (w : World) (node : Node) (r : Running) (s : OsdState) (found : node_in w.nodes node.id.0 ≡ Some node) (is_up : node.up ≡ Some r) (is_osd : r.core ≡ osd s) where
  pub first_tells : (m : Msg) (rest : List Msg) → OfOsd node r s (m ∷ rest) → (content : Payload) → m.payload ≡ content → TellsOwn s m.from content
  first_tells m rest c (payload.Status file epoch head) is = λ mine. met (sent_is (sym (picked ∙ itself) ∙ c.chain.is file))
    where
      picked : primary_about file (m ∷ rest) ≡ cond (is_file file file) (payload.Status file epoch head ∷ []) [] ++ primary_about file rest
      picked = ap (λ (p : Payload). cond (not (is_lease p) && is_about file (file_concerned p)) (p ∷ []) [] ++ primary_about file rest) is

      itself : cond (is_file file file) (payload.Status file epoch head ∷ []) [] ++ primary_about file rest ≡ payload.Status file epoch head ∷ primary_about file rest
      itself = ap (λ (b : Bool). cond b (payload.Status file epoch head ∷ []) [] ++ primary_about file rest) (file-itself file)

      sent_is : payload.Status file epoch head ∷ primary_about file rest ≡ list_of (c.chain.sent file) → c.chain.sent file ≡ Some (payload.Status file epoch head)
      sent_is e = at (c.chain.sent file) e
        where
          at : (o : Option Payload) → payload.Status file epoch head ∷ primary_about file rest ≡ list_of o → o ≡ Some (payload.Status file epoch head)
          at None e = absurd (cc e)
          at (Some content) e = cc e

      met : c.chain.sent file ≡ Some (payload.Status file epoch head) → head ≡ (file_at (awake_as s.started) s.files file).kept.head
      met e = (subst (λ (o : Option Payload). IfWaits (file_at (awake_as s.started) s.files file).kept (file_at (awake_as s.started) s.files file).primary.tenure o) e (c.chain.stands file)).1
  first_tells m rest c _ is = tt

  -- from another node it isn't the own one
  other_tells : (from : NodeId) → (from.0 ≡ s.started.node.0 → ⊥) → (content : Payload) → TellsOwn s from content
  other_tells from other (payload.Status file epoch head) = λ mine. absurd (other mine)
  other_tells from other _ = tt

  pub own_status : (was : List Msg) (m : Msg) → Reaches w was node.id (event.Deliver m) → Waiting w was → TellsOwn s m.from m.payload
  own_status was m reaches p = elim reaches.2 [
    | inl none ↦ other_tells m.from (λ mine. elsewhere (subst (λ (ms : List Msg). Has m (ms ++ messages w)) none reaches.1) mine) m.payload
    | inr first ↦ first_tells m first.0 (of_osd_here w node r s found is_up is_osd m first.0 reaches.0 (subst (IsWaiting w) first.1 p.waits)) m.payload refl
  ]
    where
      elsewhere : Has m (messages w) → m.from.0 ≡ s.started.node.0 → ⊥
      elsewhere h mine =
          let here : m.from.0 ≡ m.to.0 = mine ∙ ap (λ (n : NodeId). n.0) (node_is w was node r found is_up p.stood s is_osd ∙ sym reaches.0) in
          false_true (sym (p.stood.mine.others m h).0 ∙ equal m.from.0 m.to.0 here)
        where
          equal : (a b : ℕ) → a ≡ b → (a == b) ≡ true
          equal a b is = grind (arith, nat_tests)
