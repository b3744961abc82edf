-- steps of nodes leave the marks of a file as they should be
use Rattle.std.proofs.Common.{◌≡◌, ◌≢◌, ℕ, ◌⊎◌, inl, inr, List, [], ◌∷◌, ◌++◌, map, refl, ap, sym, ◌∙◌, subst, Option, Some, None, false}
use Rattle.xt_base.specs.declared.ids.NodeId.{NodeId}
use Rattle.xt_base.specs.declared.ids.FileId.{FileId}
use Rattle.xt_base.specs.declared.ids.SizeMark.{SizeMark}
use Rattle.xt_messages.specs.declared.meta.MetaReq.{MetaReq}
use Rattle.xt_messages.specs.declared.meta.MetaReq.TheVariants as wish
use Rattle.xt_messages.specs.declared.meta.MetaAnswer.{MetaAnswer}
use Rattle.xt_messages.specs.declared.meta.MetaAnswer.TheVariants as answer
use Rattle.xt_messages.specs.declared.message.Msg.{Msg}
use Rattle.xt_messages.specs.declared.message.Payload.{Payload}
use Rattle.xt_messages.specs.declared.message.Payload.TheVariants as payload
use Rattle.xt_messages.specs.declared.event.Event.{Event}
use Rattle.xt_messages.specs.declared.event.Event.TheVariants as event
use Rattle.xt_protocol.specs.declared.turned.Turned.{Turned}
use Rattle.lease_safety.specs.State.{Has}
use Rattle.truncate_epochs.specs.SizeMarks.{is_smaller}
use Rattle.server_rows.specs.Metadata.{MrcState, catalogue_of, step_of_mrc}
use Rattle.client_rows.specs.declared.requests.MadeCall.{MadeCall}
use Rattle.client_rows.specs.declared.requests.Request.{Request}
use Rattle.client_rows.specs.declared.requests.Request.TheVariants as request
use Rattle.client_rows.specs.Holding.{held_of}
use Rattle.client_rows.specs.Requests.{file_of}
use Rattle.client_rows.specs.Rows.{WholeClient}
use Rattle.client_rows.specs.Steps.{Step}
use Rattle.client_steps.specs.Asked.{IsOnFile, MadeIs}
use Rattle.time_line.specs.declared.entry.Entry.{Entry}
use Rattle.time_line.specs.declared.entry.Entry.TheVariants as entry
use Rattle.time_line.specs.TimeLine.{id_of}
use Rattle.time_line.specs.Clauses.{HasBegunOn}
use Rattle.world_spec.specs.declared.Role.TheVariants as role
use Rattle.world_spec.specs.declared.PlacedFile.{PlacedFile}
use Rattle.world_spec.specs.World.{World, Node, Running, client, mrc, world_key, node_in, with_node, file_in, known}
use Rattle.world_spec.specs.Lines.{tells, runs, first_boot, whole_client}
use Rattle.world_spec.specs.NodeSteps.{entry_of, one_more, one_put, to_itself, after_turn}
use Rattle.world_runs.specs.View.{messages}
use Rattle.world_runs.specs.Worlds.{AnswerFits, WantFits, PayloadFits, CoreFits, UpFits, role_of}
use Rattle.world_runs.proofs.Calls.{RequestIs}
use Rattle.world_runs.proofs.Entries.{begun_on-grown}
use Rattle.world_runs.proofs.Fit.{IsFit}
use Rattle.world_runs.proofs.Making.{step_kept}
use Rattle.world_runs.proofs.Roles.{role_at}
use Rattle.world_runs.proofs.Steps.{came}
use Rattle.world_runs.proofs.Tables.{same, node_in-new, node_in-other, node_in-last, node_in-before}
use Rattle.world_runs.proofs.Walk.{Reaches}
use Rattle.striped_safety.proofs.Callers.{Ran, put_callers, put_absent, add_absent}
use Rattle.striped_safety.proofs.ClientAside.{IsAside}
use Rattle.striped_safety.proofs.ClientMarks.{StepMarked}
use Rattle.striped_safety.proofs.Follows.{Runs}
use Rattle.striped_safety.proofs.Marks.{StagesFit, ClientWithin, AllWithin, IsAlone, Came, ran, new, Carries, same_within}
use Rattle.striped_safety.proofs.Ready.{where_is}
use Rattle.striped_safety.proofs.RowMarks.{AnswerMarked, ReportMarked, PayloadMarked, EventMarked, Marked, step_marked}
use Rattle.striped_safety.proofs.Within.{IsWithin, mark_held, none_within, itself_within}

-- what comes to a node has marks as they should be
pub comes_marked : (number : ℕ) (bound : SizeMark) (w : World) (was : List Msg) (node : NodeId) (happens : Event) → AllWithin number bound w was → Reaches w was node happens → EventMarked (IsWithin bound number) happens
comes_marked number bound w was node (event.Deliver msg) all reaches = all.sent msg reaches.1
comes_marked number bound w was node event.Wake all reaches = tt
comes_marked number bound w was node (event.Call call) all reaches = tt

-- what is about no known file has no mark
unknown : (number : ℕ) (f : PlacedFile) → file_in [] number ≡ Some f → ⊥
unfolding file_in
unknown number f is = cc is

pub unknown_marked : (Is : FileId → SizeMark → Type 0) (content : Payload) → PayloadFits [] content → PayloadMarked Is content
unknown_marked Is (payload.Meta number user group wanted) fits = at wanted fits
  where
    at : (wanted : MetaReq) → WantFits [] wanted → ReportMarked Is wanted
    at (wish.Report capability mark) fits = absurd (unknown capability.file.number (record { file = capability.file; location = capability.location }) fits)
    at _ fits = tt
unknown_marked Is (payload.MetaReply number what) fits = at what fits
  where
    at : (what : MetaAnswer) → AnswerFits [] what → AnswerMarked Is what
    at (answer.Granted capability mark) fits = absurd (unknown capability.file.number (record { file = capability.file; location = capability.location }) fits)
    at _ fits = tt
unknown_marked Is _ fits = tt

one_node : (a b : Node) → Some a ≡ Some b → a ≡ b
one_node a b is = cc is

-- ---- a node that runs no client steps, or stops

-- the node that is put in the place of another one, with the records that it keeps then
module _ (number : ℕ) (who : NodeId) (w after : World) (own own_after : List Msg) (old there : Node) (more : List Entry) (found : node_in w.nodes there.id.0 ≡ Some old) (nodes : after.nodes ≡ with_node w.nodes there) (split : after.entries ≡ w.entries ++ more)
    (sent : (bound : SizeMark) → AllWithin number bound w own → (k : Msg) → Has k (own_after ++ messages after) → PayloadMarked (IsWithin bound number) k.payload)
    (kept : (bound : SizeMark) → AllWithin number bound w own → there.role ≡ role.Mrc → Marked (IsWithin bound number) (catalogue_of world_key there.kept))
    (no_client : (r : Running) (c : WholeClient) → there.up ≡ Some r → r.core ≡ client c → ⊥) where
  pub put_carries : Carries number who w after own own_after
  put_carries =
      record {
        begun = λ id begun. subst (λ (es : List Entry). HasBegunOn number es id) (sym split) (begun_on-grown number w.entries more id begun);
        sent = sent;
        records = λ bound all n x is its. elim (same n there.id.0) [
          | inl e ↦
              (let now : there ≡ x = one_node there x (sym (ap (node_in (with_node w.nodes there)) e ∙ node_in-new w.nodes there old found) ∙ (sym (ap (λ (ns : List Node). node_in ns n) nodes) ∙ is)) in
              subst (λ (y : Node). Marked (IsWithin bound number) (catalogue_of world_key y.kept)) now (kept bound all (ap (λ (y : Node). y.role) now ∙ its)))
          | inr ne ↦ all.records n x (sym (node_in-other w.nodes there n ne) ∙ (sym (ap (λ (ns : List Node). node_in ns n) nodes) ∙ is)) its
        ];
        others = λ alone bound all n x q d ne is. (let was = callers n x q d is in same_within number bound was.2 d was.4 (all.clients n was.0 was.1 was.2 was.3));
        mine = λ x q d is.
            (let was = callers who.0 x q d is in
            ran was.0 was.1 was.2 was.3 (subst (λ (o : Option _). is_smaller (mark_held o) (mark_held (held_of was.2.held number)) ≡ false) (sym was.4.held) (itself_within (mark_held (held_of was.2.held number))))
            (λ within. (let now = same_within number (mark_held (held_of was.2.held number)) was.2 d was.4 within in (now.made, now.stage))));
        absent = λ none. put_absent w.nodes old there who.0 found (sym (ap (λ (ns : List Node). node_in ns who.0) nodes) ∙ none);
      }
    where
      callers : (n : ℕ) (x : Node) (q : Running) (d : WholeClient) → Runs after n x q d → Ran number w n d
      callers n = put_callers number n w after old there found nodes (λ q d up core. absurd (no_client q d up core))

-- what was sent stays so, with what a step sends
pub turn_sent : (number : ℕ) (bound : SizeMark) (w : World) (was own : List Msg) (node : Node) (running : Running) (turned : Turned) (outs : List Msg) → ((m : Msg) → Has m own → Has m was) → AllWithin number bound w was
    → ((m : Msg) → Has m outs → PayloadMarked (IsWithin bound number) m.payload) → (k : Msg) → Has k ((own ++ to_itself node.id outs) ++ messages (after_turn w node running (record turned { outs = outs }))) → PayloadMarked (IsWithin bound number) k.payload
turn_sent number bound w was own node running turned outs within all sent k h = elim (came own was outs w node.id w.nodes k within h) [
  | inl mine ↦ sent k mine
  | inr old ↦ all.sent k old
]

-- ---- the metadata server

module _ (number : ℕ) (bound : SizeMark) (w : World) (was : List Msg) (node : Node) (r : Running) (m : MrcState) (happens : Event) (fit : IsFit w was) (found : node_in w.nodes node.id.0 ≡ Some node) (up : node.up ≡ Some r) (core : r.core ≡ mrc m)
    (reaches : Reaches w was node.id happens) (all : AllWithin number bound w was) where
  its_role : role.Mrc ≡ node.role
  its_role = ap role_of (sym core) ∙ role_at node r (fit.shape.nodes node.id.0 node found).role_is up

  its_records : m.catalogue ≡ catalogue_of world_key node.kept
  its_records = subst (CoreFits w.times (known w) node.id node.kept r) core (subst (UpFits w.times (known w) node.id node.kept) up (fit.shape.nodes node.id.0 node found).up)

  mrc_step : Marked (IsWithin bound number) (step_of_mrc world_key m r.clock happens).mrc.catalogue × ((k : Msg) → Has k (step_of_mrc world_key m r.clock happens).turned.outs → PayloadMarked (IsWithin bound number) k.payload)
  mrc_step =
      let step = step_marked (IsWithin bound number) (λ file e. none_within bound) world_key m r.clock happens
      (subst (Marked (IsWithin bound number)) (sym its_records) (all.records node.id.0 node found (sym its_role))) (comes_marked number bound w was node.id happens all reaches) in
      (step.marked, step.grants)

  pub mrc_sent : (k : Msg) → Has k (step_of_mrc world_key m r.clock happens).turned.outs → PayloadMarked (IsWithin bound number) k.payload
  mrc_sent = mrc_step.1

  pub mrc_kept : Marked (IsWithin bound number) (catalogue_of world_key (one_more node.kept (step_of_mrc world_key m r.clock happens).turned.rec))
  mrc_kept = subst (Marked (IsWithin bound number)) (step_kept world_key m r.clock happens node.kept its_records) mrc_step.0

-- ---- a client steps

-- another client's last call isn't on the file
pub away_from : (number : ℕ) (who : NodeId) (w : World) (node : NodeId) (c : WholeClient) → IsAlone number who w → node.0 ≢ who.0 → MadeIs (RequestIs w.entries node) c.made → StagesFit c.made → IsAside number c.made
away_from number who w node c alone other is fits = at c.made is fits
  where
    begun : (n : ℕ) (q : Request) → IsOnFile q → RequestIs w.entries node n q → HasBegunOn (file_of q) w.entries (id_of node n)
    begun n (request.Replicated capability asked) on is = (asked, is.0.0)
    begun n (request.Striped capability asked) on is = (asked, is.0.0)
    begun n (request.Meta user group wanted) on is = absurd on
    begun n (request.Registry asked) on is = absurd on

    at : (o : Option MadeCall) → MadeIs (RequestIs w.entries node) o → StagesFit o → IsAside number o
    at None is fits = tt
    at (Some made) is fits = elim (where_is number made.request) [
      | inl here ↦ absurd (other (ap (λ (x : NodeId). x.0) (alone (id_of node made.number) (subst (λ (f : ℕ). HasBegunOn f w.entries (id_of node made.number)) here.1 (begun made.number made.request here.0 is)))))
      | inr away ↦ (away, fits)
    ]

module _ (number : ℕ) (who : NodeId) (w : World) (was own : List Msg) (node : Node) (r : Running) (c : WholeClient) (step : Step WholeClient) (outs : List Msg) (found : node_in w.nodes node.id.0 ≡ Some node) (up : node.up ≡ Some r) (core : r.core ≡ client c)
    (rec : step.turned.rec ≡ None) (within : (k : Msg) → Has k own → Has k was) (fewer : (k : Msg) → Has k outs → Has k step.turned.outs) (role_is : node.role ≡ role.Client)
    (marks : (bound : SizeMark) → ClientWithin number bound c → StepMarked number bound step) (grows : is_smaller (mark_held (held_of step.state.held number)) (mark_held (held_of c.held number)) ≡ false)
    (held : IsAlone number who w → (bound : SizeMark) → AllWithin number bound w was → node.id.0 ≢ who.0 → is_smaller bound (mark_held (held_of step.state.held number)) ≡ false) where
  abbrev there : Node
  there = record node { kept = one_more node.kept step.turned.rec; past = one_put node.past step.turned.rec; up = Some (record r { core = client step.state }) }

  its_own : Runs w node.id.0 node r c
  its_own = record { found = found; up = up; core = core }

  then : (n : ℕ) (x : Node) (q : Running) (d : WholeClient) → Runs (after_turn w node (record r { core = client step.state }) (record step.turned { outs = outs })) n x q d → ((node.id.0 ≡ n) × (d ≡ step.state)) ⊎ (Runs w n x q d × (node.id.0 ≢ n))
  then n x q d is = elim (same n node.id.0) [
    | inl e ↦
        (let now : there ≡ x = one_node there x (sym (ap (node_in (with_node w.nodes there)) e ∙ node_in-new w.nodes there node found) ∙ is.found) in
        let run : record r { core = client step.state } ≡ q = one_running (record r { core = client step.state }) q (ap (λ (y : Node). y.up) now ∙ is.up) in
        inl (sym e, sym (one_client step.state d (ap (λ (y : Running). y.core) run ∙ is.core))))
    | inr ne ↦ inr (record { found = sym (node_in-other w.nodes there n ne) ∙ is.found; up = is.up; core = is.core }, λ e. ne (sym e))
  ]
    where
      one_running : (a b : Running) → Some a ≡ Some b → a ≡ b
      one_running a b is = cc is

      one_client : (a b : WholeClient) → client a ≡ client b → a ≡ b
      one_client a b is = cc is

  pub client_carries : Carries number who w (after_turn w node (record r { core = client step.state }) (record step.turned { outs = outs })) was (own ++ to_itself node.id outs)
  client_carries =
      record {
        begun = λ id begun. begun_on-grown number w.entries (map (entry_of node.id) step.turned.marks) id begun;
        sent = λ bound all. turn_sent number bound w was own node (record r { core = client step.state }) step.turned outs within all (λ k h. (marks bound (all.clients node.id.0 node r c its_own)).sent k (fewer k h));
        records = λ bound all n x is its. elim (same n node.id.0) [
          | inl e ↦
              absurd
              (let now : there ≡ x = one_node there x (sym (ap (node_in (with_node w.nodes there)) e ∙ node_in-new w.nodes there node found) ∙ is) in
              let clash : role.Client ≡ role.Mrc = sym role_is ∙ (ap (λ (y : Node). y.role) now ∙ its) in cc clash)
          | inr ne ↦ all.records n x (sym (node_in-other w.nodes there n ne) ∙ is) its
        ];
        others = λ alone bound all n x q d ne is. elim (then n x q d is) [
          | inl mine ↦ subst (ClientWithin number bound) (sym mine.1)
              (let now = marks bound (all.clients node.id.0 node r c its_own) in
              record { held = held alone bound all (λ e. ne (sym mine.0 ∙ e)); made = now.made; stage = now.stage })
          | inr old ↦ all.clients n x q d old.0
        ];
        mine = λ x q d is. elim (then who.0 x q d is) [
          | inl mine ↦ subst (Came number who w) (sym mine.1)
              (ran node r c (record { found = subst (λ (k : ℕ). node_in w.nodes k ≡ Some node) mine.0 found; up = up; core = core }) grows
              (λ own_within. (let now = marks (mark_held (held_of c.held number)) own_within in (now.made, now.stage))))
          | inr old ↦ ran x q d old.0 (itself_within (mark_held (held_of d.held number))) (λ own_within. (own_within.made, own_within.stage))
        ];
        absent = λ none. put_absent w.nodes node there who.0 found none;
      }

-- ---- a client is declared

pub new_carries : (number : ℕ) (who : NodeId) (w : World) (id : NodeId) (clock : ℕ) → node_in w.nodes id.0 ≡ None
    → Carries number who w (tells (record w { nodes = w.nodes ++ record { id = id; role = role.Client; kept = []; past = []; up = Some (runs first_boot clock (client (whole_client clock))) } ∷ [] }) (entry.Up id first_boot clock ∷ [])) [] []
new_carries number who w id clock free =
    record {
      begun = λ x begun. begun_on-grown number w.entries (entry.Up id first_boot clock ∷ []) x begun;
      sent = λ bound all k h. all.sent k h;
      records = λ bound all n x is its. elim (same n id.0) [
        | inl e ↦
            absurd
            (let now : there ≡ x = one_node there x (sym (ap (node_in (w.nodes ++ there ∷ [])) e ∙ node_in-last w.nodes there free) ∙ is) in
            let clash : role.Client ≡ role.Mrc = ap (λ (y : Node). y.role) now ∙ its in cc clash)
        | inr ne ↦ all.records n x (sym (node_in-before w.nodes there n ne) ∙ is) its
      ];
      others = λ alone bound all n x q d ne is. elim (same n id.0) [
        | inl e ↦ subst (ClientWithin number bound) (its_client n x q d e is.found is.up is.core) (record { held = none_within bound; made = tt; stage = tt })
        | inr other ↦ all.clients n x q d (record { found = sym (node_in-before w.nodes there n other) ∙ is.found; up = is.up; core = is.core })
      ];
      mine = λ x q d is. elim (same who.0 id.0) [
        | inl e ↦ subst (Came number who w) (its_client who.0 x q d e is.found is.up is.core) (new (ap (node_in w.nodes) e ∙ free) refl refl)
        | inr other ↦
            ran x q d (record { found = sym (node_in-before w.nodes there who.0 other) ∙ is.found; up = is.up; core = is.core }) (itself_within (mark_held (held_of d.held number))) (λ own_within. (own_within.made, own_within.stage))
      ];
      absent = λ none. add_absent w.nodes there who.0 free none;
    }
  where
    there : Node
    there = record { id = id; role = role.Client; kept = []; past = []; up = Some (runs first_boot clock (client (whole_client clock))) }

    one_running : (a b : Running) → Some a ≡ Some b → a ≡ b
    one_running a b is = cc is

    one_client : (a b : WholeClient) → client a ≡ client b → a ≡ b
    one_client a b is = cc is

    its_client : (n : ℕ) (x : Node) (q : Running) (d : WholeClient) → n ≡ id.0 → node_in (w.nodes ++ there ∷ []) n ≡ Some x → x.up ≡ Some q → q.core ≡ client d → whole_client clock ≡ d
    its_client n x q d e found up core =
        let now : there ≡ x = one_node there x (sym (ap (node_in (w.nodes ++ there ∷ [])) e ∙ node_in-last w.nodes there free) ∙ found) in
        let run : runs first_boot clock (client (whole_client clock)) ≡ q = one_running (runs first_boot clock (client (whole_client clock))) q (ap (λ (y : Node). y.up) now ∙ up) in
        one_client (whole_client clock) d (ap (λ (y : Running). y.core) run ∙ core)
