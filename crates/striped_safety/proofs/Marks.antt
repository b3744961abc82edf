-- every mark of a file that is anywhere is at most the one that the client has which alone uses the file
use Rattle.std.proofs.Common.{◌≡◌, ◌≢◌, ℕ, ◌⊎◌, inl, inr, List, [], ◌∷◌, ◌++◌, map, refl, ap, sym, ◌∙◌, subst, Option, Some, None, false}
use Rattle.std.specs.Option.{option_map}
use Rattle.xt_base.specs.declared.ids.NodeId.{NodeId}
use Rattle.xt_base.specs.declared.ids.FileId.{FileId}
use Rattle.xt_base.specs.declared.ids.OpId.{OpId}
use Rattle.xt_base.specs.declared.ids.SizeMark.{SizeMark}
use Rattle.xt_messages.specs.declared.meta.MetaReq.{MetaReq}
use Rattle.xt_messages.specs.declared.meta.MetaReq.TheVariants as ask
use Rattle.xt_messages.specs.declared.meta.MetaAnswer.{MetaAnswer}
use Rattle.xt_messages.specs.declared.meta.MetaAnswer.TheVariants as answer
use Rattle.xt_messages.specs.declared.message.Msg.{Msg}
use Rattle.xt_messages.specs.declared.message.Payload.{Payload}
use Rattle.xt_messages.specs.declared.message.Payload.TheVariants as payload
use Rattle.lease_safety.specs.State.{Has}
use Rattle.truncate_epochs.specs.SizeMarks.{is_smaller}
use Rattle.reply_cache.specs.declared.Kept.{Kept}
use Rattle.volume_rows.specs.declared.Content.{Content}
use Rattle.volume_rows.specs.declared.Content.TheVariants as content
use Rattle.volume_rows.specs.Paths.{Path}
use Rattle.volume_rows.specs.Rows.{Row}
use Rattle.server_rows.specs.Metadata.{Catalogue, catalogue_of}
use Rattle.client_rows.specs.declared.requests.MadeCall.{MadeCall}
use Rattle.client_rows.specs.declared.requests.Request.{Request}
use Rattle.client_rows.specs.declared.requests.Request.TheVariants as request
use Rattle.client_rows.specs.Holding.{held_of}
use Rattle.client_rows.specs.Rows.{WholeClient}
use Rattle.client_steps.specs.Asked.{MadeIs}
use Rattle.time_line.specs.Clauses.{HasBegunOn}
use Rattle.world_spec.specs.declared.Role.TheVariants as role
use Rattle.world_spec.specs.World.{World, Node, Running, client, world_key, node_in, with_node}
use Rattle.world_spec.specs.Lines.{ticked}
use Rattle.world_runs.specs.View.{messages}
use Rattle.world_runs.proofs.Tables.{same, node_in-new, node_in-other, node_in-last, node_in-before, node_in-ticked}
use Rattle.striped_safety.proofs.Callers.{Ran}
use Rattle.striped_safety.proofs.Follows.{StageFits, Runs, IsSame}
use Rattle.striped_safety.proofs.RowMarks.{IsMarked, AreMarked, AnswerMarked, ReportMarked, PayloadMarked, AnswersMarked, Marked}
use Rattle.striped_safety.proofs.Within.{IsWithin, mark_held, itself_within, still_within}

-- ---- what holds

-- a report that is asked for
abbrev pub RequestMarked : (FileId → SizeMark → Type 0) → ℕ → Request → Type 0
RequestMarked Is n (request.Meta user group wanted) = ReportMarked Is wanted
RequestMarked Is n _ = Unit {0}

abbrev pub StagesFit : Option MadeCall → Type 0
StagesFit None = Unit {0}
StagesFit (Some made) = StageFits made.stage made.request

-- a client: what it holds of the file, and what it reports of it
pub record ClientWithin (number : ℕ) (bound : SizeMark) (c : WholeClient) : Type 0 where
  pub held : is_smaller bound (mark_held (held_of c.held number)) ≡ false
  pub made : MadeIs (RequestMarked (IsWithin bound number)) c.made
  pub stage : StagesFit c.made

-- Each mark of the file is at most this one: in messages, in what a metadata server's records say, and with clients.
pub record AllWithin (number : ℕ) (bound : SizeMark) (w : World) (own : List Msg) : Type 0 where
  pub sent : (k : Msg) → Has k (own ++ messages w) → PayloadMarked (IsWithin bound number) k.payload
  pub records : (n : ℕ) (node : Node) → node_in w.nodes n ≡ Some node → node.role ≡ role.Mrc → Marked (IsWithin bound number) (catalogue_of world_key node.kept)
  pub clients : (n : ℕ) (node : Node) (r : Running) (c : WholeClient) → Runs w n node r c → ClientWithin number bound c

-- one client alone has begun calls on the file
abbrev pub IsAlone : ℕ → NodeId → World → Type 0
IsAlone number who w = (id : OpId) → HasBegunOn number w.entries id → id.client ≡ who

-- While the client runs, its own mark is the greatest; before it is declared there is none.
pub record Bounded (number : ℕ) (who : NodeId) (w : World) (own : List Msg) : Type 0 where
  pub running : (node : Node) (r : Running) (c : WholeClient) → Runs w who.0 node r c → AllWithin number (mark_held (held_of c.held number)) w own
  pub unborn : node_in w.nodes who.0 ≡ None → AllWithin number (record { epoch = 0; size = 0 }) w own

-- So it is of each file and each client that uses it alone.
abbrev pub MarksAre : ℕ → NodeId → World → List Msg → Type 0
MarksAre number who w own = IsAlone number who w → Bounded number who w own

-- ---- other bounds

module _ (P Q : FileId → SizeMark → Type 0) (follows : (file : FileId) (mark : SizeMark) → P file mark → Q file mark) where
  answer_map : (what : MetaAnswer) → AnswerMarked P what → AnswerMarked Q what
  answer_map (answer.Granted capability mark) is = follows capability.file mark is
  answer_map _ is = tt

  report_map : (wanted : MetaReq) → ReportMarked P wanted → ReportMarked Q wanted
  report_map (ask.Report capability mark) is = follows capability.file mark is
  report_map _ is = tt

  payload_map : (content : Payload) → PayloadMarked P content → PayloadMarked Q content
  payload_map (payload.Meta number user group wanted) is = report_map wanted is
  payload_map (payload.MetaReply number what) is = answer_map what is
  payload_map _ is = tt

  content_map : (path : Path) (what : Content) → IsMarked P path what → IsMarked Q path what
  content_map path content.Directory is = tt
  content_map path (content.File stored) is = follows _ stored.mark is

  rows_map : (rs : List Row) → AreMarked P rs → AreMarked Q rs
  rows_map [] are = tt
  rows_map (r ∷ rs) are = (content_map r.path r.entry.content are.0, rows_map rs are.1)

  answers_map : (kept : List (ℕ × Kept MetaAnswer)) → AnswersMarked P kept → AnswersMarked Q kept
  answers_map [] are = tt
  answers_map (c ∷ cs) are = (answer_map c.1.answer are.0, answers_map cs are.1)

  marked_map : (c : Catalogue) → Marked P c → Marked Q c
  marked_map c is = record { rows = rows_map c.volumes.rows is.rows; answers = answers_map c.clients is.answers }

  request_map : (n : ℕ) (q : Request) → RequestMarked P n q → RequestMarked Q n q
  request_map n (request.Meta user group wanted) is = report_map wanted is
  request_map n _ is = tt

  made_map : (o : Option MadeCall) → MadeIs (RequestMarked P) o → MadeIs (RequestMarked Q) o
  made_map None is = tt
  made_map (Some made) is = request_map made.number made.request is

module _ (number : ℕ) (bound more : SizeMark) (grown : is_smaller more bound ≡ false) where
  further : (file : FileId) (mark : SizeMark) → IsWithin bound number file mark → IsWithin more number file mark
  further file mark within e = still_within more bound mark grown (within e)

  client_more : (c : WholeClient) → ClientWithin number bound c → ClientWithin number more c
  client_more c is =
      record {
        held = still_within more bound (mark_held (held_of c.held number)) grown is.held;
        made = made_map (IsWithin bound number) (IsWithin more number) further c.made is.made;
        stage = is.stage;
      }

-- ---- from a world to the next

-- a client that has its own mark: it ran with one that is no greater; or it is new
pub data Came (number : ℕ) (who : NodeId) (w : World) (c : WholeClient) : Type 0 where
  ran : (old : Node) (q : Running) (b : WholeClient) → Runs w who.0 old q b → is_smaller (mark_held (held_of c.held number)) (mark_held (held_of b.held number)) ≡ false
      → (ClientWithin number (mark_held (held_of b.held number)) b → MadeIs (RequestMarked (IsWithin (mark_held (held_of b.held number)) number)) c.made × StagesFit c.made) → Came number who w c
  new : node_in w.nodes who.0 ≡ None → mark_held (held_of c.held number) ≡ record { epoch = 0; size = 0 } → c.made ≡ None → Came number who w c

pub record Carries (number : ℕ) (who : NodeId) (w after : World) (own own_after : List Msg) : Type 0 where
  pub begun : (id : OpId) → HasBegunOn number w.entries id → HasBegunOn number after.entries id
  pub sent : (bound : SizeMark) → AllWithin number bound w own → (k : Msg) → Has k (own_after ++ messages after) → PayloadMarked (IsWithin bound number) k.payload
  pub records : (bound : SizeMark) → AllWithin number bound w own → (n : ℕ) (node : Node) → node_in after.nodes n ≡ Some node → node.role ≡ role.Mrc → Marked (IsWithin bound number) (catalogue_of world_key node.kept)
  pub others : IsAlone number who w → (bound : SizeMark) → AllWithin number bound w own → (n : ℕ) (node : Node) (r : Running) (c : WholeClient) → n ≢ who.0 → Runs after n node r c → ClientWithin number bound c
  pub mine : (node : Node) (r : Running) (c : WholeClient) → Runs after who.0 node r c → Came number who w c
  pub absent : node_in after.nodes who.0 ≡ None → node_in w.nodes who.0 ≡ None

runs_once : (w : World) (n : ℕ) (a b : Node) (r q : Running) (c d : WholeClient) → Runs w n a r c → Runs w n b q d → c ≡ d
runs_once w n a b r q c d one other =
    let nodes : a ≡ b = one_node a b (sym one.found ∙ other.found) in
    let runs : r ≡ q = one_running r q (sym one.up ∙ (ap (λ (x : Node). x.up) nodes ∙ other.up)) in
    one_client c d (sym one.core ∙ (ap (λ (x : Running). x.core) runs ∙ other.core))
  where
    one_node : (a b : Node) → Some a ≡ Some b → a ≡ b
    one_node a b is = cc is

    one_running : (a b : Running) → Some a ≡ Some b → a ≡ b
    one_running a b is = cc is

    one_client : (a b : WholeClient) → client a ≡ client b → a ≡ b
    one_client a b is = cc is

moved_runs : (w : World) (n m : ℕ) (node : Node) (r : Running) (c : WholeClient) → n ≡ m → Runs w n node r c → Runs w m node r c
moved_runs w n m node r c e runs = record { found = subst (λ (k : ℕ). node_in w.nodes k ≡ Some node) e runs.found; up = runs.up; core = runs.core }

pub carried : (number : ℕ) (who : NodeId) (w after : World) (own own_after : List Msg) → Carries number who w after own own_after → MarksAre number who w own → MarksAre number who after own_after
carried number who w after own own_after t are alone = record { running = λ node r c runs. by_way node r c runs (t.mine node r c runs); unborn = λ none. by_none none (was.unborn (t.absent none)) }
  where
    before : IsAlone number who w
    before id begun = alone id (t.begun id begun)

    was : Bounded number who w own
    was = are before

    by_none : node_in after.nodes who.0 ≡ None → AllWithin number (record { epoch = 0; size = 0 }) w own → AllWithin number (record { epoch = 0; size = 0 }) after own_after
    by_none none all =
        record {
          sent = t.sent (record { epoch = 0; size = 0 }) all;
          records = t.records (record { epoch = 0; size = 0 }) all;
          clients = λ n x q d runs. elim (same n who.0) [
            | inl e ↦ absurd (let both : None ≡ Some x = sym none ∙ (moved_runs after n who.0 x q d e runs).found in cc both)
            | inr ne ↦ t.others before (record { epoch = 0; size = 0 }) all n x q d ne runs
          ];
        }

    by_way : (node : Node) (r : Running) (c : WholeClient) → Runs after who.0 node r c → Came number who w c → AllWithin number (mark_held (held_of c.held number)) after own_after
    by_way node r c runs (ran old q b ran_so grown made) =
        let bound = mark_held (held_of b.held number) in
        let more = mark_held (held_of c.held number) in
        let all = was.running old q b ran_so in
        record {
          sent = λ k h. payload_map (IsWithin bound number) (IsWithin more number) (further number bound more grown) k.payload (t.sent bound all k h);
          records = λ n x found its. marked_map (IsWithin bound number) (IsWithin more number) (further number bound more grown) (catalogue_of world_key x.kept) (t.records bound all n x found its);
          clients = λ n x p d other. elim (same n who.0) [
            | inl e ↦ subst (ClientWithin number (mark_held (held_of c.held number))) (runs_once after who.0 node x r p c d runs (moved_runs after n who.0 x p d e other))
                (own_within (made (all.clients who.0 old q b ran_so)))
            | inr ne ↦ client_more number bound more grown d (t.others before bound all n x p d ne other)
          ];
        }
      where
        own_within : MadeIs (RequestMarked (IsWithin (mark_held (held_of b.held number)) number)) c.made × StagesFit c.made → ClientWithin number (mark_held (held_of c.held number)) c
        own_within is =
            record {
              held = itself_within (mark_held (held_of c.held number));
              made = made_map (IsWithin (mark_held (held_of b.held number)) number) (IsWithin (mark_held (held_of c.held number)) number) (further number (mark_held (held_of b.held number)) (mark_held (held_of c.held number)) grown) c.made is.0;
              stage = is.1;
            }
    by_way node r c runs (new none mark idle) = subst (λ (m : SizeMark). AllWithin number m after own_after) (sym mark) (all_none (was.unborn none))
      where
        all_none : AllWithin number (record { epoch = 0; size = 0 }) w own → AllWithin number (record { epoch = 0; size = 0 }) after own_after
        all_none all =
            record {
              sent = t.sent (record { epoch = 0; size = 0 }) all;
              records = t.records (record { epoch = 0; size = 0 }) all;
              clients = λ n x p d other. elim (same n who.0) [
                | inl e ↦ subst (ClientWithin number (record { epoch = 0; size = 0 })) (runs_once after who.0 node x r p c d runs (moved_runs after n who.0 x p d e other))
                    (record {
                      held = subst (λ (m : SizeMark). is_smaller (record { epoch = 0; size = 0 }) m ≡ false) (sym mark) (itself_within (record { epoch = 0; size = 0 }));
                      made = subst (MadeIs (RequestMarked (IsWithin (record { epoch = 0; size = 0 }) number))) (sym idle) tt;
                      stage = subst StagesFit (sym idle) tt;
                    })
                | inr ne ↦ t.others before (record { epoch = 0; size = 0 }) all n x p d ne other
              ];
            }

-- ---- records of metadata servers

-- a metadata server's records say what they said before, or there are none
abbrev pub RecordsAre : World → World → Type 0
RecordsAre w after =
    (n : ℕ) (node : Node) → node_in after.nodes n ≡ Some node → node.role ≡ role.Mrc
    → ((old : Node) × (node_in w.nodes n ≡ Some old) × (old.role ≡ role.Mrc) × (catalogue_of world_key node.kept ≡ catalogue_of world_key old.kept)) ⊎ (node.kept ≡ [])

one_node : (a b : Node) → Some a ≡ Some b → a ≡ b
one_node a b is = cc is

pub nodes_records : (w after : World) → after.nodes ≡ w.nodes → RecordsAre w after
nodes_records w after nodes n node found its = inl (node, sym (ap (λ (ns : List Node). node_in ns n) nodes) ∙ found, its, refl)

pub put_records : (w after : World) (old there : Node) → node_in w.nodes there.id.0 ≡ Some old → after.nodes ≡ with_node w.nodes there
    → (there.role ≡ role.Mrc → (old.role ≡ role.Mrc) × (catalogue_of world_key there.kept ≡ catalogue_of world_key old.kept)) → RecordsAre w after
put_records w after old there found nodes same_kept n node is its = elim (same n there.id.0) [
  | inl e ↦
      (let now : there ≡ node = one_node there node (sym (ap (node_in (with_node w.nodes there)) e ∙ node_in-new w.nodes there old found) ∙ (sym (ap (λ (ns : List Node). node_in ns n) nodes) ∙ is)) in
      let both = same_kept (ap (λ (x : Node). x.role) now ∙ its) in
      inl (old, ap (node_in w.nodes) e ∙ found, both.0, ap (λ (x : Node). catalogue_of world_key x.kept) (sym now) ∙ both.1))
  | inr ne ↦ inl (node, sym (node_in-other w.nodes there n ne) ∙ (sym (ap (λ (ns : List Node). node_in ns n) nodes) ∙ is), its, refl)
]

pub add_records : (w after : World) (there : Node) → node_in w.nodes there.id.0 ≡ None → after.nodes ≡ w.nodes ++ there ∷ [] → there.kept ≡ [] → RecordsAre w after
add_records w after there free nodes none n node is its = elim (same n there.id.0) [
  | inl e ↦
      (let now : there ≡ node = one_node there node (sym (ap (node_in (w.nodes ++ there ∷ [])) e ∙ node_in-last w.nodes there free) ∙ (sym (ap (λ (ns : List Node). node_in ns n) nodes) ∙ is)) in
      inr (ap (λ (x : Node). x.kept) (sym now) ∙ none))
  | inr ne ↦ inl (node, sym (node_in-before w.nodes there n ne) ∙ (sym (ap (λ (ns : List Node). node_in ns n) nodes) ∙ is), its, refl)
]

pub tick_records : (w after : World) (count : ℕ) → after.nodes ≡ map (ticked count) w.nodes → RecordsAre w after
tick_records w after count nodes n node is its = at (node_in w.nodes n) refl (sym (node_in-ticked w.nodes count n) ∙ (sym (ap (λ (ns : List Node). node_in ns n) nodes) ∙ is))
  where
    at : (o : Option Node) → node_in w.nodes n ≡ o → option_map (ticked count) o ≡ Some node
        → ((old : Node) × (node_in w.nodes n ≡ Some old) × (old.role ≡ role.Mrc) × (catalogue_of world_key node.kept ≡ catalogue_of world_key old.kept)) ⊎ (node.kept ≡ [])
    at None found now = absurd (cc now)
    at (Some old) found now =
        let same_node : ticked count old ≡ node = one_node (ticked count old) node now in
        inl (old, found, ap (λ (x : Node). x.role) same_node ∙ its, ap (λ (x : Node). catalogue_of world_key x.kept) (sym same_node))

pub records_within : (number : ℕ) (w after : World) (own : List Msg) → RecordsAre w after → (bound : SizeMark) → AllWithin number bound w own → (n : ℕ) (node : Node) → node_in after.nodes n ≡ Some node → node.role ≡ role.Mrc
    → Marked (IsWithin bound number) (catalogue_of world_key node.kept)
records_within number w after own are bound all n node found its = elim (are n node found its) [
  | inl old ↦ subst (Marked (IsWithin bound number)) (sym old.3) (all.records n old.0 old.1 old.2)
  | inr none ↦ subst (λ (ks : List _). Marked (IsWithin bound number) (catalogue_of world_key ks)) (sym none) (record { rows = tt; answers = tt })
]

-- ---- what changes no mark

pub same_within : (number : ℕ) (bound : SizeMark) (b c : WholeClient) → IsSame number b c → ClientWithin number bound b → ClientWithin number bound c
same_within number bound b c is within =
    record {
      held = subst (λ (o : Option _). is_smaller bound (mark_held o) ≡ false) (sym is.held) within.held;
      made = subst (MadeIs (RequestMarked (IsWithin bound number))) (sym is.made) within.made;
      stage = subst StagesFit (sym is.made) within.stage;
    }

pub quiet_carries : (number : ℕ) (who : NodeId) (w after : World) (own own_after : List Msg) → ((id : OpId) → HasBegunOn number w.entries id → HasBegunOn number after.entries id)
    → ((k : Msg) → Has k (own_after ++ messages after) → Has k (own ++ messages w)) → RecordsAre w after → ((n : ℕ) (node : Node) (r : Running) (c : WholeClient) → Runs after n node r c → Ran number w n c)
    → (node_in after.nodes who.0 ≡ None → node_in w.nodes who.0 ≡ None) → Carries number who w after own own_after
quiet_carries number who w after own own_after begun fewer records callers absent =
    record {
      begun = begun;
      sent = λ bound all k h. all.sent k (fewer k h);
      records = records_within number w after own records;
      others = λ alone bound all n node r c ne runs. (let was = callers n node r c runs in same_within number bound was.2 c was.4 (all.clients n was.0 was.1 was.2 was.3));
      mine = λ node r c runs.
          (let was = callers who.0 node r c runs in
          ran was.0 was.1 was.2 was.3 (subst (λ (o : Option _). is_smaller (mark_held o) (mark_held (held_of was.2.held number)) ≡ false) (sym was.4.held) (itself_within (mark_held (held_of was.2.held number))))
          (λ within. (let now = same_within number (mark_held (held_of was.2.held number)) was.2 c was.4 within in (now.made, now.stage))));
      absent = absent;
    }
