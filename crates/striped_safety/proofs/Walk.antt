-- what every run keeps: each striped file and each client are as one world of them alone
use Rattle.std.proofs.Common.{◌≡◌, ◌≢◌, ◌<◌, ℕ, ◌⊎◌, inl, inr, List, [], ◌∷◌, ◌++◌, map, refl, arith, ap, sym, ◌∙◌, subst, Option, Some, None, true, false}
use Rattle.std.proofs.lemmas.List.{append-nil}
use Rattle.xt_base.specs.declared.ids.NodeId.{NodeId}
use Rattle.xt_base.specs.declared.ids.FileId.{FileId}
use Rattle.xt_base.specs.declared.ids.OpId.{OpId}
use Rattle.xt_base.specs.declared.ids.SizeMark.{SizeMark}
use Rattle.xt_base.specs.declared.ids.Boot.{Boot}
use Rattle.xt_messages.specs.declared.file.Kind.TheVariants as kind
use Rattle.xt_messages.specs.declared.file.Location.{Location}
use Rattle.xt_messages.specs.declared.event.Call.{Call}
use Rattle.xt_messages.specs.declared.event.Call.TheVariants as call
use Rattle.xt_messages.specs.declared.event.Event.{Event}
use Rattle.xt_messages.specs.declared.event.Mark.{Mark}
use Rattle.xt_messages.specs.declared.message.Msg.{Msg}
use Rattle.xt_messages.specs.declared.message.Payload.{Payload}
use Rattle.xt_messages.specs.declared.message.Payload.TheVariants as payload
use Rattle.xt_messages.specs.declared.record.Record.{Record}
use Rattle.xt_messages.specs.declared.record.Record.TheVariants as kept
use Rattle.xt_protocol.specs.Folds.{fold_of, row_in, body_kept}
use Rattle.xt_protocol.specs.Heads.{new_head}
use Rattle.xt_protocol.specs.OsdSteps.{OsdState, step_of_osd}
use Rattle.xt_protocol.specs.Forgetting.{keep_of, osd_without}
use Rattle.xt_protocol.specs.declared.turned.Turned.{Turned}
use Rattle.lease_safety.specs.State.{Has}
use Rattle.lease_runs.proofs.Tests.{same_node}
use Rattle.file_runs.specs.FileRuns.{FileNode}
use Rattle.xt_base.specs.TimeSettings.{TimeSettings}
use Rattle.client_rows.specs.declared.RunningCall.{RunningCall}
use Rattle.client_rows.specs.declared.requests.MadeCall.{MadeCall}
use Rattle.client_rows.specs.Called.{called_file}
use Rattle.client_rows.specs.Steps.{Step}
use Rattle.server_rows.specs.Metadata.{catalogue_of, step_of_mrc}
use Rattle.server_rows.specs.Directory.{DirState, step_of_dir}
use Rattle.truncate_epochs.specs.SizeMarks.{is_smaller}
use Rattle.client_rows.specs.Holding.{Held, held_of}
use Rattle.client_rows.specs.Rows.{WholeClient, called, called_again}
use Rattle.client_rows.specs.Rows as rows
use Rattle.client_steps.specs.Asked.{RunningIs, MadeIs, CallStepIs, call_passes, call_begins, Tells, tells_none, tells_end}
use Rattle.client_steps.proofs.Steps.{stepped_is, called_is, called_again_is}
use Rattle.time_line.specs.declared.entry.Entry.{Entry}
use Rattle.time_line.specs.declared.entry.Entry.TheVariants as entry
use Rattle.time_line.specs.declared.entry.Halt.{Halt}
use Rattle.time_line.specs.declared.entry.Halt.TheVariants as halt
use Rattle.time_line.specs.TimeLine.{id_of, begun, operation_on}
use Rattle.time_line.specs.Clauses.{IsBefore, HasBegunOn}
use Rattle.world_spec.specs.declared.PlacedFile.{PlacedFile}
use Rattle.world_spec.specs.declared.Role.{Role}
use Rattle.world_spec.specs.declared.Role.TheVariants as role
use Rattle.world_spec.specs.World.{World, start_world, Node, Running, Core, osd, client, mrc, dir, world_key, node_in, with_node, file_in, known, is_server, loads, puts}
use Rattle.world_spec.specs.Rules.{usable}
use Rattle.world_spec.specs.Lines.{declared_file, tells, never_started, runs, first_boot, next_boot, core_starting, starts_as, file_entry, files_left, whole_client, aimed_on, ticked, no_longer_pending, ready_for}
use Rattle.xt_base.specs.declared.TheConstants.{MRC_NODE}
use Rattle.world_spec.specs.NodeSteps.{entry_of, files_marked, outside_of, one_more, one_put, to_itself, after_turn, halted, rewritten_at}
use Rattle.world_spec.specs.Runs.{with_line}
use Rattle.world_runs.specs.View.{messages}
use Rattle.world_runs.specs.Worlds.{role_of}
use Rattle.world_runs.proofs.Calls.{RequestIs}
use Rattle.world_runs.proofs.Entries.{begun_on-grown}
use Rattle.world_runs.proofs.Growth.{CallerIs}
use Rattle.world_runs.proofs.Fit.{IsFit}
use Rattle.world_runs.proofs.Lists.{has_in, has_left, has_right}
use Rattle.world_runs.proofs.Making.{AreFileMarks, told_above, unmade, boot_makes_none, mrc_serves, dir_serves}
use Rattle.world_runs.proofs.OsdSilence.{osd_asks_none}
use Rattle.world_runs.proofs.Roles.{role_at}
use Rattle.world_runs.proofs.Order.{in_order}
use Rattle.world_runs.proofs.EndRuns.{ends_kept}
use Rattle.world_runs.proofs.Steps.{Fits, came, ready_is}
use Rattle.world_runs.proofs.Tables.{same, nobody, node_in-last, file_in-before, AllStay, all_stay, stay_before, stay_both, stay_made}
use Rattle.world_runs.proofs.Walk.{IsKept, NodeStep, of_osd, of_client, of_mrc, of_dir, of_call, of_again, call_step, same_messages, left_within}
use Rattle.world_safety.specs.Seen.{core_state, nodes_seen, IsNotOf}
use Rattle.world_safety.specs.Events.{RunsAs}
use Rattle.world_safety.proofs.Events.{starts_show, servers_rest}
use Rattle.world_safety.proofs.Nodes.{plans_rest, ticks_rest, declared_rest}
use Rattle.world_safety.proofs.Others.{mrc_is, dir_is}
use Rattle.striped_safety.specs.StripedWorld.{Setting, StripedWorld, IsSetting, first_world, node_at}
use Rattle.striped_safety.proofs.Callers.{Ran, same_client, nodes_callers, put_callers, add_callers, tick_callers, put_absent, add_absent, tick_absent}
use Rattle.striped_safety.proofs.ClientCalls.{call_follows}
use Rattle.striped_safety.proofs.ClientEvents.{caller_is, client_fits}
use Rattle.striped_safety.proofs.ClientMarks.{event_marked, event_held, stepped_grows, call_mark, call_marked, again_marked, again_held}
use Rattle.striped_safety.proofs.ClientRepeats.{again_follows}
use Rattle.striped_safety.proofs.ClientSends.{IsRequest, event_asks, call_asks, again_asks}
use Rattle.striped_safety.proofs.ClientSteps.{event_follows}
use Rattle.striped_safety.proofs.Follows.{id_in, setting_of, IsListed, member_seen, not_yet, ClientAt, Runs, IsUnborn, Follows, IsLost, strange, given_up, FileFollows, IsSame, file_rests, begun_before, ok_before, begin_before}
use Rattle.striped_safety.proofs.Forgotten.{forgotten_follows}
use Rattle.striped_safety.proofs.Moves.{start_stands}
use Rattle.striped_safety.proofs.Named.{IsMembers}
use Rattle.striped_safety.proofs.OsdEvents.{at_same, at_body, halted_rests, osd_follows, osd_stops}
use Rattle.striped_safety.proofs.OsdMoves.{view, kept_seen_same, body_seen_same}
use Rattle.striped_safety.proofs.OsdSteps.{osd_still}
use Rattle.striped_safety.proofs.Replies.{RepliesAre, ReplyIs, reply_grown, osd_replies}
use Rattle.striped_safety.proofs.Marks.{AllWithin, Bounded, MarksAre, RecordsAre, carried, quiet_carries, nodes_records, put_records, add_records, tick_records}
use Rattle.striped_safety.proofs.MarkSteps.{comes_marked, turn_sent, put_carries, client_carries, new_carries, away_from, mrc_sent, mrc_kept, unknown_marked}
use Rattle.striped_safety.proofs.Ready.{ready_held}
use Rattle.striped_safety.proofs.Ready as ready
use Rattle.striped_safety.proofs.RowMarks.{PayloadMarked, Marked}
use Rattle.striped_safety.proofs.Within.{IsWithin, mark_held, itself_within}
use Rattle.striped_safety.proofs.Servers.{IsOfServer, mrc_sends, dir_sends}
use Rattle.striped_safety.proofs.ServerSteps.{IsServer, files_still, server_rests}
use Rattle.striped_safety.proofs.TheFile.{the_file}
use Rattle.striped_safety.proofs.Trace.{IsStill, AreStill, none_still, one_still, operations_same, BeginOnce, once_still, once_ends, once_begins}

-- Each Ok is of the file of its call; what is granted was made; each call begins once; and each striped file is followed, with each
-- client.
pub record Shows (w : World) (own : List Msg) : Type 0 where
  pub replies : RepliesAre w own
  pub marks : (number : ℕ) (who : NodeId) → MarksAre number who w own
  pub once : BeginOnce w.entries
  pub files : (vol : List ℕ) (number : ℕ) (location : Location) (who : NodeId) → location.kind ≡ kind.Striped → IsSetting (setting_of vol number location who) → IsListed (known w) vol number location → FileFollows vol number location who w own

pub record Whole (w : World) (own : List Msg) : Type 0 where
  pub fits : Fits w own
  pub shows : Shows w own

-- ---- at first

first_seen : (file : FileId) (n : ℕ) → nodes_seen file start_world n ≡ record { state = None; kept = record { file = file; head = new_head; held = []; location = None; closed = None }; body = λ o v. [] }
unfolding node_in fold_of row_in body_kept
first_seen file n = refl

no_entry : (before : List Entry) (e : Entry) → IsBefore before e [] → ⊥
no_entry [] e (later, is) = cc is
no_entry (x ∷ xs) e (later, is) = cc is

nothing_begun : (file : ℕ) (id : OpId) → HasBegunOn file [] id → ⊥
unfolding begun
nothing_begun file id is = let none : None ≡ Some is.0 = is.1 in cc none

start_follows : (vol : List ℕ) (number : ℕ) (location : Location) (who : NodeId) → FileFollows vol number location who start_world []
start_follows vol number location who =
    record {
      quiet = record {
        members = λ n. subst (λ (x : FileNode). IsMembers x.kept) (sym (first_seen (id_in vol number) n)) (refl, λ v named. absurd named);
        asked = λ m h. absurd h;
      };
      fares = inr (
        first_world,
        record {
          stands = start_stands (setting_of vol number location who);
          members = λ place low. ap member_seen (sym (first_seen (id_in vol number) (node_at (setting_of vol number location who) place).0));
          asks = λ m h. absurd h;
          replies = λ m h. absurd h;
          alone = λ id has. absurd (nothing_begun number id has);
          begun = refl;
          reads = λ before k object at len count bytes there ok. absurd (no_entry before _ there);
          caller = λ node r c runs. absurd (let none : None ≡ Some node = sym (nobody who.0) ∙ runs.found in cc none);
          unborn = λ none. (refl, refl, refl);
        },
      );
    }

-- no mark is anywhere
start_bounded : (number : ℕ) (who : NodeId) → Bounded number who start_world []
start_bounded number who = record { running = λ node r c runs. absurd (let none : None ≡ Some node = sym (nobody who.0) ∙ runs.found in cc none); unborn = λ none. all_none }
  where
    all_none : AllWithin number (record { epoch = 0; size = 0 }) start_world []
    all_none =
        record {
          sent = λ k h. absurd h;
          records = λ n node found its. absurd (let none : None ≡ Some node = sym (nobody n) ∙ found in cc none);
          clients = λ n node r c runs. absurd (let none : None ≡ Some node = sym (nobody n) ∙ runs.found in cc none);
        }

start_shows : Shows start_world []
start_shows =
    record {
      replies = λ m h. absurd h;
      marks = λ number who alone. start_bounded number who;
      once = λ before who k c there. absurd (no_entry before _ there);
      files = λ vol number location who of_kind setting listed. start_follows vol number location who;
    }

-- a file that is declared takes nothing that is known away: what is made has higher numbers
stay_declared : (w : World) (f : PlacedFile) → f.file.number < 1000000 → file_in w.files f.file.number ≡ None → IsFit w [] → AllStay (known w) ((w.files ++ f ∷ []) ++ w.made)
stay_declared w f small new fit = stay_both w.files (w.files ++ f ∷ []) w.made (stay_before w.files (f ∷ [])) others
  where
    unmade_so : file_in w.made f.file.number ≡ None
    unmade_so = unmade w.made f.file.number (told_above w.made (node_in w.nodes MRC_NODE.0) fit.shape.made) small

    others : (number : ℕ) (g : PlacedFile) → file_in w.files number ≡ None → file_in w.made number ≡ Some g → file_in (w.files ++ f ∷ []) number ≡ None
    others number g free there = elim (same number f.file.number) [
      | inl e ↦ absurd (let none : None ≡ Some g = sym (ap (file_in w.made) e ∙ unmade_so) ∙ there in cc none)
      | inr differs ↦ file_in-before w.files f number differs ∙ free
    ]

-- ---- what changes no file

replies_less : (w after : World) (own own_after : List Msg) (more : List Entry) → after.entries ≡ w.entries ++ more → ((k : Msg) → Has k (own_after ++ messages after) → Has k (own ++ messages w)) → AllStay (known w) (known after) → RepliesAre w own → RepliesAre after own_after
replies_less w after own own_after more split fewer stay are k h = subst (λ (es : List Entry). ReplyIs (known after) es k.to k.payload) (sym split) (reply_grown (known w) (known after) w.entries more k.to k.payload stay (are k (fewer k h)))

shows_rest : (w after : World) (own own_after : List Msg) (more : List Entry) → after.entries ≡ w.entries ++ more → AreStill more
    → ((file : FileId) (n : ℕ) → ((nodes_seen file after n).kept ≡ (nodes_seen file w n).kept) × ((nodes_seen file after n).body ≡ (nodes_seen file w n).body))
    → ((k : Msg) → Has k (own_after ++ messages after) → Has k (own ++ messages w))
    → ((file n : ℕ) (node : Node) (r : Running) (c : WholeClient) → Runs after n node r c → Ran file w n c)
    → ((n : ℕ) → node_in after.nodes n ≡ None → node_in w.nodes n ≡ None)
    → AllStay (known w) (known after) → RecordsAre w after → Shows w own → Shows after own_after
shows_rest w after own own_after more split still seen fewer callers absent stay records is =
    record {
      replies = replies_less w after own own_after more split fewer stay is.replies;
      marks = λ number who.
          carried number who w after own own_after
          (quiet_carries number who w after own own_after (λ id begun. subst (λ (es : List Entry). HasBegunOn number es id) (sym split) (begun_on-grown number w.entries more id begun)) fewer records (callers number) (absent who.0))
          (is.marks number who);
      once = subst BeginOnce (sym split) (once_still w.entries more still is.once);
      files = λ vol number location who of_kind setting listed.
          file_rests vol number location who w after own own_after
          (record {
            calm = record { more = more; split = split; still = still; caller = callers number who.0; absent = absent who.0 };
            kept = λ n. (seen (id_in vol number) n).0;
            body = λ n. (seen (id_in vol number) n).1;
            fewer = λ k h about. inl (fewer k h);
          })
          (is.files vol number location who of_kind setting (λ f is. listed f (stay number f is)));
    }

same_entries : (w after : World) → after.entries ≡ w.entries → after.entries ≡ w.entries ++ []
same_entries w after is = is ∙ sym (append-nil w.entries)

seen_same : (w after : World) → ((file : FileId) → nodes_seen file w ≡ nodes_seen file after) → (file : FileId) (n : ℕ) → ((nodes_seen file after n).kept ≡ (nodes_seen file w n).kept) × ((nodes_seen file after n).body ≡ (nodes_seen file w n).body)
seen_same w after is file n = (kept_seen_same file w after (is file) n, body_seen_same file w after (is file) n)

-- a running node is another now, with the same client
put_shows : (w after : World) (node : Node) (r q : Running) (more : List Entry) → node_in w.nodes node.id.0 ≡ Some node → node.up ≡ Some r → after.nodes ≡ with_node w.nodes (record node { up = Some q }) → AllStay (known w) (known after) → after.entries ≡ w.entries ++ more → AreStill more
    → ((k : Msg) → Has k (messages after) → Has k (messages w)) → ((file : FileId) → core_state file q.core ≡ core_state file r.core)
    → ((file : ℕ) (c : WholeClient) → q.core ≡ client c → (b : WholeClient) × (r.core ≡ client b) × IsSame file b c) → Shows w [] → Shows after []
put_shows w after node r q more found up nodes stay split still fewer core same_calls is =
    shows_rest w after [] [] more split still
    (seen_same w after (λ file. plans_rest file w node r q (view file w) found up (core file) refl ∙ ap (λ (ns : List Node). nodes_seen file (record w { nodes = ns })) (sym nodes))) fewer
    (λ file n. put_callers file n w after node (record node { up = Some q }) found nodes
    (λ p c is_up is_core.
    let is_q : q ≡ p = cc is_up in
    let was = same_calls file c (ap (λ (x : Running). x.core) is_q ∙ is_core) in
    (r, was.0, up, was.1, was.2)))
    (λ n none. put_absent w.nodes node (record node { up = Some q }) n found (sym (ap (λ (ns : List Node). node_in ns n) nodes) ∙ none))
    stay (put_records w after node (record node { up = Some q }) found nodes (λ its. (its, refl))) is

-- the same core
same_calls : (r q : Running) → q.core ≡ r.core → (file : ℕ) (c : WholeClient) → q.core ≡ client c → (b : WholeClient) × (r.core ≡ client b) × IsSame file b c
same_calls r q same_core file c is = (c, sym same_core ∙ is, same_client file c)

-- a client's first target is another
aimed_same : (file : ℕ) (c : WholeClient) (target : NodeId) (o : Option PlacedFile) → IsSame file c (aimed_on c target o)
aimed_same file c target None = same_client file c
aimed_same file c target (Some f) = record { next = refl; running = refl; made = refl; held = refl }

-- ---- a client is declared

abbrev new_client : NodeId → ℕ → Node
new_client id clock = record { id = id; role = role.Client; kept = []; past = []; up = Some (runs first_boot clock (client (whole_client clock))) }

abbrev with_client : World → NodeId → ℕ → World
with_client w id clock = tells (record w { nodes = w.nodes ++ new_client id clock ∷ [] }) (entry.Up id first_boot clock ∷ [])

module _ (w : World) (id : NodeId) (clock : ℕ) (free : node_in w.nodes id.0 ≡ None) where
  seen_more : (file : FileId) → nodes_seen file w ≡ nodes_seen file (with_client w id clock)
  seen_more file = declared_rest file w (new_client id clock) (view file w) free refl refl

  up_still : AreStill (entry.Up id first_boot clock ∷ [])
  up_still = one_still (entry.Up id first_boot clock) tt

  -- it has done nothing
  starts_unborn : (s : Setting) (m : StripedWorld) → IsUnborn m → ClientAt s (w.entries ++ entry.Up id first_boot clock ∷ []) m (whole_client clock)
  starts_unborn s m is =
      record {
        numbers = (let next = is.0 in omega (arith, next));
        mark = is.2;
        holds = λ a runs. absurd (let both : None ≡ Some a = sym is.1 ∙ runs in cc both);
        call = not_yet is.1;
      }

  new_runs : (node : Node) (r : Running) (c : WholeClient) → Runs (with_client w id clock) id.0 node r c → whole_client clock ≡ c
  new_runs node r c runs =
      let is_node : new_client id clock ≡ node = one_node (new_client id clock) node (sym (node_in-last w.nodes (new_client id clock) free) ∙ runs.found) in
      let is_running = one_running (runs_as clock) r (ap (λ (x : Node). x.up) is_node ∙ runs.up) in
      one_client (whole_client clock) c (ap (λ (x : Running). x.core) is_running ∙ runs.core)
    where
      runs_as : ℕ → Running
      runs_as clock = record { boot = first_boot; clock = clock; crash = None; cut = None; core = client (whole_client clock) }

      one_node : (a b : Node) → Some a ≡ Some b → a ≡ b
      one_node a b is = cc is

      one_running : (a b : Running) → Some a ≡ Some b → a ≡ b
      one_running a b is = cc is

      one_client : (a b : WholeClient) → client a ≡ client b → a ≡ b
      one_client a b is = cc is

  new_client_follows : (vol : List ℕ) (number : ℕ) (location : Location) → Fits w [] → FileFollows vol number location id w [] → FileFollows vol number location id (with_client w id clock) []
  new_client_follows vol number location fits is =
      record {
        quiet = record { members = λ n. subst IsMembers (sym (kept_seen_same (id_in vol number) w (with_client w id clock) (seen_more (id_in vol number)) n)) (is.quiet.members n); asked = is.quiet.asked };
        fares = elim is.fares [
          | inl lost ↦ inl (lost_still lost)
          | inr follows ↦ inr (follows.0, follows_still follows.0 follows.1)
        ];
      }
    where
      last : List Entry
      last = entry.Up id first_boot clock ∷ []

      lost_still : IsLost (setting_of vol number location id) w → IsLost (setting_of vol number location id) (with_client w id clock)
      lost_still (strange other has stranger) = strange other (begun_on-grown number w.entries (entry.Up id first_boot clock ∷ []) other has) stranger
      lost_still (given_up g) = absurd (let none : None ≡ Some g.begun.0 = sym (ap (operation_on number) (fits.strangers id.0 free g.number (omega arith))) ∙ g.begun.1 in cc none)

      follows_still : (m : StripedWorld) → Follows (setting_of vol number location id) w [] m → Follows (setting_of vol number location id) (with_client w id clock) [] m
      follows_still m f =
          record {
            stands = f.stands;
            members = λ place low. f.members place low ∙ ap (λ (g : ℕ → FileNode). member_seen (g (node_at (setting_of vol number location id) place).0)) (seen_more (id_in vol number));
            asks = f.asks;
            replies = f.replies;
            alone = λ x has. f.alone x (begun_before number w.entries (entry.Up id first_boot clock ∷ []) x up_still has);
            begun = operations_same number w.entries (entry.Up id first_boot clock ∷ []) refl ∙ f.begun;
            reads = λ before k object at len count bytes there ok.
                f.reads before k object at len count bytes (begin_before w.entries (entry.Up id first_boot clock ∷ []) before id k (call.Read number object at len) up_still there)
                (ok_before w.entries (entry.Up id first_boot clock ∷ []) (id_of id k) count bytes up_still ok);
            caller = λ node r c runs. subst (ClientAt (setting_of vol number location id) (w.entries ++ entry.Up id first_boot clock ∷ []) m) (new_runs node r c runs) (starts_unborn (setting_of vol number location id) m (f.unborn free));
            unborn = λ none. f.unborn free;
          }

  client_shows : Fits w [] → Shows w [] → Shows (with_client w id clock) []
  client_shows fits is =
      record {
        replies = replies_less w (with_client w id clock) [] [] (entry.Up id first_boot clock ∷ []) refl (λ k h. h) (all_stay (known w)) is.replies;
        marks = λ number who. carried number who w (with_client w id clock) [] [] (new_carries number who w id clock free) (is.marks number who);
        once = once_still w.entries (entry.Up id first_boot clock ∷ []) up_still is.once;
        files = λ vol number location who of_kind setting listed. by_client vol number location who (is.files vol number location who of_kind setting listed) (same who.0 id.0);
      }
    where
      by_client : (vol : List ℕ) (number : ℕ) (location : Location) (who : NodeId) → FileFollows vol number location who w [] → (who.0 ≡ id.0) ⊎ (who.0 ≢ id.0) → FileFollows vol number location who (with_client w id clock) []
      by_client vol number location who is (inl e) =
          subst (λ (x : NodeId). FileFollows vol number location x (with_client w id clock) []) (sym (same_node who id e)) (new_client_follows vol number location fits (subst (λ (x : NodeId). FileFollows vol number location x w []) (same_node who id e) is))
      by_client vol number location who is (inr ne) =
          file_rests vol number location who w (with_client w id clock) [] []
          (record {
            calm = record {
              more = entry.Up id first_boot clock ∷ [];
              split = refl;
              still = up_still;
              caller = add_callers number who.0 w (with_client w id clock) (new_client id clock) free refl (λ r c e up core. absurd (ne e));
              absent = add_absent w.nodes (new_client id clock) who.0 free;
            };
            kept = kept_seen_same (id_in vol number) w (with_client w id clock) (seen_more (id_in vol number));
            body = body_seen_same (id_in vol number) w (with_client w id clock) (seen_more (id_in vol number));
            fewer = λ k h about. inl h;
          })
          is

-- ---- steps

-- a request says nothing of replies
request_replies : (files : List PlacedFile) (es : List Entry) (to : NodeId) (content : Payload) → IsRequest content → ReplyIs files es to content
request_replies files es to (payload.Reply number file answer) is = absurd is
request_replies files es to _ is = tt

-- nor does a server
server_replies : (files : List PlacedFile) (es : List Entry) (to : NodeId) (content : Payload) → IsOfServer content → ReplyIs files es to content
server_replies files es to (payload.Reply number file answer) is = absurd is
server_replies files es to _ is = tt

-- what is reported and granted in a step of a node
module _ (w : World) (was own : List Msg) (node : Node) (r : Running) (next : Core) (turned : Turned) (outs : List Msg) (within : (m : Msg) → Has m own → Has m was) where
  turn_replies : ((m : Msg) → Has m outs → ReplyIs (known w) w.entries m.to m.payload) → RepliesAre w was
      → RepliesAre (after_turn w node (record r { core = next }) (record turned { outs = outs })) (own ++ to_itself node.id outs)
  turn_replies sent are m h = elim (came own was outs w node.id w.nodes m within h) [
    | inl mine ↦ reply_grown (known w) (w.files ++ (w.made ++ files_marked turned.marks)) w.entries (map (entry_of node.id) turned.marks) m.to m.payload (stay_made w.files w.made (files_marked turned.marks)) (sent m mine)
    | inr old ↦ reply_grown (known w) (w.files ++ (w.made ++ files_marked turned.marks)) w.entries (map (entry_of node.id) turned.marks) m.to m.payload (stay_made w.files w.made (files_marked turned.marks)) (are m old)
  ]

-- a node that is no client steps
turn_marks : (number : ℕ) (who : NodeId) (w : World) (was own : List Msg) (node : Node) (r : Running) (next : Core) (turned : Turned) (outs : List Msg) → ((m : Msg) → Has m own → Has m was) → node_in w.nodes node.id.0 ≡ Some node → ((c : WholeClient) → next ≡ client c → ⊥)
    → ((bound : SizeMark) → AllWithin number bound w was → (m : Msg) → Has m outs → PayloadMarked (IsWithin bound number) m.payload)
    → ((bound : SizeMark) → AllWithin number bound w was → node.role ≡ role.Mrc → Marked (IsWithin bound number) (catalogue_of world_key (one_more node.kept turned.rec)))
    → MarksAre number who w was → MarksAre number who (after_turn w node (record r { core = next }) (record turned { outs = outs })) (own ++ to_itself node.id outs)
turn_marks number who w was own node r next turned outs within found no_client marked kept_so =
    let there : Node = record node { kept = one_more node.kept turned.rec; past = one_put node.past turned.rec; up = Some (record r { core = next }) } in
    let after = after_turn w node (record r { core = next }) (record turned { outs = outs }) in
    carried number who w after was (own ++ to_itself node.id outs)
    (put_carries number who w after was (own ++ to_itself node.id outs) node there (map (entry_of node.id) turned.marks) found refl refl
    (λ bound all. turn_sent number bound w was own node (record r { core = next }) turned outs within all (marked bound all)) kept_so
    (λ q c up core. no_client c (let run : record r { core = next } ≡ q = cc up in ap (λ (x : Running). x.core) run ∙ core)))

-- an OSD, and the directory service, are no metadata server
role_is : (w : World) (own : List Msg) (node : Node) (r : Running) → IsFit w own → node_in w.nodes node.id.0 ≡ Some node → node.up ≡ Some r → role_of r.core ≡ node.role
role_is w own node r fit found up = role_at node r (fit.shape.nodes node.id.0 node found).role_is up

osd_no_mrc : (w : World) (own : List Msg) (node : Node) (r : Running) (s : OsdState) → IsFit w own → node_in w.nodes node.id.0 ≡ Some node → node.up ≡ Some r → r.core ≡ osd s → node.role ≡ role.Mrc → ⊥
osd_no_mrc w own node r s fit found up core is = let clash : role.Osd ≡ role.Mrc = ap role_of (sym core) ∙ (role_is w own node r fit found up ∙ is) in cc clash

dir_no_mrc : (w : World) (own : List Msg) (node : Node) (r : Running) (s : DirState) → IsFit w own → node_in w.nodes node.id.0 ≡ Some node → node.up ≡ Some r → r.core ≡ dir s → node.role ≡ role.Mrc → ⊥
dir_no_mrc w own node r s fit found up core is = let clash : role.Dir ≡ role.Mrc = ap role_of (sym core) ∙ (role_is w own node r fit found up ∙ is) in cc clash

client_role : (w : World) (own : List Msg) (node : Node) (r : Running) (c : WholeClient) → IsFit w own → node_in w.nodes node.id.0 ≡ Some node → node.up ≡ Some r → r.core ≡ client c → node.role ≡ role.Client
client_role w own node r c fit found up core = sym (role_is w own node r fit found up) ∙ ap role_of core

-- what is known later was so before
listed_before : (w : World) (more : List PlacedFile) (vol : List ℕ) (number : ℕ) (location : Location) → IsListed (w.files ++ (w.made ++ more)) vol number location → IsListed (known w) vol number location
listed_before w more vol number location listed f is = listed f (stay_made w.files w.made more number f is)

-- a step of a server
server_shows : (w : World) (was own : List Msg) (node : Node) (r : Running) (next : Core) (turned : Turned) (outs : List Msg) → ((m : Msg) → Has m own → Has m was) → node_in w.nodes node.id.0 ≡ Some node → node.up ≡ Some r
    → IsServer r.core → IsServer next → AreFileMarks turned.marks → ((file : FileId) → IsNotOf file turned.rec) → ((m : Msg) → Has m outs → IsOfServer m.payload)
    → ((number : ℕ) (bound : SizeMark) → AllWithin number bound w was → (m : Msg) → Has m outs → PayloadMarked (IsWithin bound number) m.payload)
    → ((number : ℕ) (bound : SizeMark) → AllWithin number bound w was → node.role ≡ role.Mrc → Marked (IsWithin bound number) (catalogue_of world_key (one_more node.kept turned.rec)))
    → Shows w was → Shows (after_turn w node (record r { core = next }) (record turned { outs = outs })) (own ++ to_itself node.id outs)
server_shows w was own node r next turned outs within found up serves serves_then files rec sends marked kept_so is =
    record {
      replies = turn_replies w was own node r next turned outs within (λ m h. server_replies (known w) w.entries m.to m.payload (sends m h)) is.replies;
      marks = λ number who. turn_marks number who w was own node r next turned outs within found (λ c same. subst IsServer same serves_then) (marked number) (kept_so number) (is.marks number who);
      once = once_still w.entries (map (entry_of node.id) turned.marks) (files_still node.id turned.marks files) is.once;
      files = λ vol number location who of_kind setting listed.
          file_rests vol number location who w (after_turn w node (record r { core = next }) (record turned { outs = outs })) was (own ++ to_itself node.id outs)
          (server_rests (setting_of vol number location who) w was own node r next turned outs found up serves serves_then files (rec (id_in vol number)) within sends)
          (is.files vol number location who of_kind setting (listed_before w (files_marked turned.marks) vol number location listed));
    }

once_told : (es : List Entry) (node : NodeId) (happens : Event) (marks : List Mark) → Tells (RequestIs es node) happens marks → BeginOnce es → BeginOnce (es ++ map (entry_of node) marks)
once_told es node happens _ tells_none once = subst BeginOnce (sym (append-nil es)) once
once_told es node happens _ (tells_end number asked how is so) once = once_ends es node number how once

once_called : (es : List Entry) (node : NodeId) (times : TimeSettings) (d : WholeClient) (reading : ℕ) (k : Call) → CallerIs es node d → BeginOnce es → BeginOnce (es ++ map (entry_of node) (called node times d reading k).turned.marks)
once_called es node times d reading k caller once = at (called node times d reading k) (called_is (λ n asked. Unit {0}) node times d reading k (record { running = running d.replicas.running; made = made d.made }) (λ asked wants room. tt))
  where
    running : (o : Option RunningCall) → RunningIs (λ n asked. Unit {0}) o
    running None = tt
    running (Some x) = tt

    made : (o : Option MadeCall) → MadeIs (λ n asked. Unit {0}) o
    made None = tt
    made (Some x) = tt

    at : (step : Step WholeClient) → CallStepIs (λ n asked. Unit {0}) node d reading k step → BeginOnce (es ++ map (entry_of node) step.turned.marks)
    at step (call_passes is) = subst (λ (x : Step WholeClient). BeginOnce (es ++ map (entry_of node) x.turned.marks)) (sym is) (subst BeginOnce (sym (append-nil es)) once)
    at step (call_begins asked begins) =
        subst (λ (ms : List Mark). BeginOnce (es ++ map (entry_of node) ms)) (sym begins.marks) (once_begins es node d.replicas.next k (caller.fresh d.replicas.next (omega arith)) once)

no_marks_file : (marks : List Mark) → marks ≡ [] → AreFileMarks marks
no_marks_file marks none = subst AreFileMarks (sym none) tt

stepped_shows : (w : World) (was own : List Msg) (node : Node) (r : Running) (next : Core) (turned : Turned) (outs : List Msg) → ((m : Msg) → Has m own → Has m was) → ((m : Msg) → Has m outs → Has m turned.outs)
    → node_in w.nodes node.id.0 ≡ Some node → node.up ≡ Some r → Fits w was → NodeStep w was node r next turned → Shows w was → Shows (after_turn w node (record r { core = next }) (record turned { outs = outs })) (own ++ to_itself node.id outs)
stepped_shows w was own node r _ _ outs within fewer found up fits (of_osd s happens is_osd reaches) is =
    let its : RunsAs w node r s = record { found = found; up = up; core = is_osd } in
    let step = step_of_osd (outside_of node.kept) s r.clock happens in
    record {
      replies = turn_replies w was own node r (osd step.osd) step.turned outs within (λ m h. osd_replies w was node r s fits.fit fits its happens reaches m (fewer m h)) is.replies;
      marks = λ number who.
          turn_marks number who w was own node r (osd step.osd) step.turned outs within found (λ c same. cc same)
          (λ bound all m h. unknown_marked (IsWithin bound number) m.payload (osd_asks_none (outside_of node.kept) s r.clock happens [] m (fewer m h))) (λ bound all its. absurd (osd_no_mrc w was node r s fits.fit found up is_osd its)) (is.marks number who);
      once = once_still w.entries (map (entry_of node.id) step.turned.marks) (osd_still node r s happens) is.once;
      files = λ vol number location who of_kind setting listed.
          osd_follows vol number location who of_kind setting w was fits.fit fits (the_file vol number location w fits.places (listed_before w (files_marked step.turned.marks) vol number location listed)) (is.files vol number location who of_kind setting (listed_before w (files_marked step.turned.marks) vol number location listed)) node r s its happens own outs within fewer reaches;
    }
stepped_shows w was own node r _ _ outs within fewer found up fits (of_client c happens is_client reaches) is =
    let step = rows.stepped node.id w.times c r.clock happens in
    let asks = (event_asks node.id w.times c r.clock happens).asks in
    record {
      replies = turn_replies w was own node r (client step.state) step.turned outs within (λ m h. request_replies (known w) w.entries m.to m.payload (asks m (fewer m h))) is.replies;
      marks = λ number who.
          carried number who w (after_turn w node (record r { core = client step.state }) (record step.turned { outs = outs })) was (own ++ to_itself node.id outs)
          (client_carries number who w was own node r c step outs found up is_client (event_asks node.id w.times c r.clock happens).rec within fewer (client_role w was node r c fits.fit found up is_client)
          (λ bound. event_marked number node.id w.times c r.clock bound happens) (stepped_grows node.id w.times c r.clock happens number)
          (λ alone bound all other.
          let own_within = all.clients node.id.0 node r c (record { found = found; up = up; core = is_client }) in
          event_held number node.id w.times c r.clock bound happens own_within (away_from number who w node.id c alone other (caller_is w was node r c fits found up is_client).calls.made own_within.stage)
          (comes_marked number bound w was node.id happens all reaches)))
          (is.marks number who);
      once = once_told w.entries node.id happens step.turned.marks (stepped_is (RequestIs w.entries node.id) node.id w.times c r.clock happens (caller_is w was node r c fits found up is_client).calls).tells is.once;
      files = λ vol number location who of_kind setting listed.
          event_follows vol number location who of_kind setting w was own fits is.once (the_file vol number location w fits.places (listed_before w (files_marked step.turned.marks) vol number location listed)) node r c outs found up is_client within (is.files vol number location who of_kind setting (listed_before w (files_marked step.turned.marks) vol number location listed)) is.replies happens
          (is.marks number who) reaches fewer;
    }
stepped_shows w was own node r _ _ outs within fewer found up fits (of_mrc m happens is_mrc reaches) is =
    let step = step_of_mrc world_key m r.clock happens in
    server_shows w was own node r (mrc step.mrc) step.turned outs within found up (subst IsServer (sym is_mrc) tt) tt (mrc_serves world_key m r.clock happens).marks (mrc_is world_key m r.clock happens).rec
    (λ k h. mrc_sends world_key m r.clock happens k (fewer k h)) (λ number bound all k h. mrc_sent number bound w was node r m happens fits.fit found up is_mrc reaches all k (fewer k h))
    (λ number bound all its. mrc_kept number bound w was node r m happens fits.fit found up is_mrc reaches all) is
stepped_shows w was own node r _ _ outs within fewer found up fits (of_dir s happens is_dir reaches) is =
    let step = step_of_dir s happens in
    server_shows w was own node r (dir step.dir) step.turned outs within found up (subst IsServer (sym is_dir) tt) tt (no_marks_file step.turned.marks (dir_serves s happens).marks) (dir_is s happens).rec
    (λ k h. dir_sends s happens k (fewer k h)) (λ number bound all k h. unknown_marked (IsWithin bound number) k.payload ((dir_serves s happens).outs [] k (fewer k h)))
    (λ number bound all its. absurd (dir_no_mrc w was node r s fits.fit found up is_dir its)) is
stepped_shows w was own node r _ _ outs within fewer found up fits (of_call c k is_client resting bound usable) is =
    let step = call_step w node r c k in
    let asks = (call_asks node.id w.times (ready_for w.files c k (called_file k)) r.clock k).asks in
    record {
      replies = turn_replies w was own node r (client step.state) step.turned outs within (λ m h. request_replies (known w) w.entries m.to m.payload (asks m (fewer m h))) is.replies;
      marks = λ number who.
          let all_held = ready_held w.files w.made c k (called_file k) (client_fits w was node r c fits.fit found up is_client).held in
          let d = ready_for w.files c k (called_file k) in
          let same_mark = call_mark number (known w) node.id w.times c d r.clock k bound (ready.ready_is w.files number c k (called_file k)) all_held in
          carried number who w (after_turn w node (record r { core = client step.state }) (record step.turned { outs = outs })) was (own ++ to_itself node.id outs)
          (client_carries number who w was own node r c step outs found up is_client (call_asks node.id w.times d r.clock k).rec within fewer (client_role w was node r c fits.fit found up is_client)
          (λ top. call_marked number (known w) node.id w.times c d r.clock k bound (ready.ready_is w.files number c k (called_file k)) all_held top)
          (subst (λ (mark : SizeMark). is_smaller mark (mark_held (held_of c.held number)) ≡ false) (sym same_mark) (itself_within (mark_held (held_of c.held number))))
          (λ alone top all other. subst (λ (mark : SizeMark). is_smaller top mark ≡ false) (sym same_mark) (all.clients node.id.0 node r c (record { found = found; up = up; core = is_client })).held))
          (is.marks number who);
      once = once_called w.entries node.id w.times (ready_for w.files c k (called_file k)) r.clock k (ready_is w.entries node.id w.files w.made c k (called_file k) fits.places (caller_is w was node r c fits found up is_client)) is.once;
      files = λ vol number location who of_kind setting listed.
          call_follows vol number location who of_kind setting w was own fits.fit fits is.once (the_file vol number location w fits.places (listed_before w (files_marked step.turned.marks) vol number location listed)) node r c outs found up is_client within k bound resting.0 (is.files vol number location who of_kind setting (listed_before w (files_marked step.turned.marks) vol number location listed)) fewer;
    }
stepped_shows w was own node r _ _ outs within fewer found up fits (of_again c is_client resting may) is =
    let step = called_again node.id w.times c r.clock in
    let asks = (again_asks node.id w.times c r.clock).asks in
    let again = called_again_is (RequestIs w.entries node.id) node.id w.times c r.clock (caller_is w was node r c fits found up is_client).calls in
    record {
      replies = turn_replies w was own node r (client step.state) step.turned outs within (λ m h. request_replies (known w) w.entries m.to m.payload (asks m (fewer m h))) is.replies;
      marks = λ number who.
          let same_held = again_held number node.id w.times c r.clock in
          carried number who w (after_turn w node (record r { core = client step.state }) (record step.turned { outs = outs })) was (own ++ to_itself node.id outs)
          (client_carries number who w was own node r c step outs found up is_client (again_asks node.id w.times c r.clock).rec within fewer (client_role w was node r c fits.fit found up is_client)
          (λ bound. again_marked number node.id w.times c r.clock bound)
          (subst (λ (h : Held). is_smaller (mark_held (held_of h number)) (mark_held (held_of c.held number)) ≡ false) (sym same_held) (itself_within (mark_held (held_of c.held number))))
          (λ alone bound all other. subst (λ (h : Held). is_smaller bound (mark_held (held_of h number)) ≡ false) (sym same_held) (all.clients node.id.0 node r c (record { found = found; up = up; core = is_client })).held))
          (is.marks number who);
      once = subst (λ (ms : List Mark). BeginOnce (w.entries ++ map (entry_of node.id) ms)) (sym again.marks) (subst BeginOnce (sym (append-nil w.entries)) is.once);
      files = λ vol number location who of_kind setting listed.
          again_follows vol number location who of_kind setting w was own fits is.once (the_file vol number location w fits.places (listed_before w (files_marked step.turned.marks) vol number location listed)) node r c outs found up is_client within may (is.files vol number location who of_kind setting (listed_before w (files_marked step.turned.marks) vol number location listed)) fewer;
    }

-- a node stops with these records
halt_marks : (number : ℕ) (who : NodeId) (w : World) (own : List Msg) (node old : Node) (r : Running) (how : Halt) → node_in w.nodes node.id.0 ≡ Some old
    → ((bound : SizeMark) → AllWithin number bound w own → node.role ≡ role.Mrc → Marked (IsWithin bound number) (catalogue_of world_key node.kept)) → MarksAre number who w own → MarksAre number who (halted w node r how) []
halt_marks number who w own node old r how found kept_so =
    carried number who w (halted w node r how) own []
    (put_carries number who w (halted w node r how) own [] old (record node { up = None }) (entry.Down node.id r.clock how ∷ []) found refl refl (λ bound all k h. all.sent k (has_right k own (messages w) h)) kept_so (λ q c up core. cc up))

-- a node stops
stopped_shows : (w : World) (own : List Msg) (node : Node) (r : Running) (how : Halt) → node_in w.nodes node.id.0 ≡ Some node → Shows w own → Shows (halted w node r how) []
stopped_shows w own node r how found is =
    let last = entry.Down node.id r.clock how ∷ [] in
    record {
      replies = replies_less w (halted w node r how) own [] last refl (λ k h. has_right k own (messages w) h) (all_stay (known w)) is.replies;
      marks = λ number who. halt_marks number who w own node node r how found (λ bound all its. all.records node.id.0 node found its) (is.marks number who);
      once = once_still w.entries last (one_still (entry.Down node.id r.clock how) tt) is.once;
      files = λ vol number location who of_kind setting listed.
          file_rests vol number location who w (halted w node r how) own [] (halted_rests (setting_of vol number location who) w own node r how None found tt) (is.files vol number location who of_kind setting listed);
    }

no_record : (rec : Record) (o : Option Record) → o ≡ None → o ≡ Some rec → ⊥
no_record rec o none some = let both : None ≡ Some rec = sym none ∙ some in cc both

-- a server stops with a record kept
server_stops : (w : World) (own : List Msg) (node : Node) (r : Running) (rec : Record) → node_in w.nodes node.id.0 ≡ Some node → ((file : FileId) → IsNotOf file (Some rec))
    → ((number : ℕ) (bound : SizeMark) → AllWithin number bound w own → node.role ≡ role.Mrc → Marked (IsWithin bound number) (catalogue_of world_key (node.kept ++ rec ∷ []))) → Shows w own
    → Shows (halted w (record node { kept = node.kept ++ rec ∷ []; past = node.past ++ puts rec ∷ [] }) r halt.Kept) []
server_stops w own node r rec found away kept_so is =
    let after = halted w (record node { kept = node.kept ++ rec ∷ []; past = node.past ++ puts rec ∷ [] }) r halt.Kept in
    let last = entry.Down node.id r.clock halt.Kept ∷ [] in
    record {
      replies = replies_less w after own [] last refl (λ k h. has_right k own (messages w) h) (all_stay (known w)) is.replies;
      marks = λ number who. halt_marks number who w own (record node { kept = node.kept ++ rec ∷ []; past = node.past ++ puts rec ∷ [] }) node r halt.Kept found (kept_so number) (is.marks number who);
      once = once_still w.entries last (one_still (entry.Down node.id r.clock halt.Kept) tt) is.once;
      files = λ vol number location who of_kind setting listed.
          file_rests vol number location who w after own [] (halted_rests (setting_of vol number location who) w own node r halt.Kept (Some rec) found (away (id_in vol number))) (is.files vol number location who of_kind setting listed);
    }

-- or in its append, with the record kept
kept_shows : (w : World) (own : List Msg) (node : Node) (r : Running) (next : Core) (turned : Turned) (rec : Record) → node_in w.nodes node.id.0 ≡ Some node → node.up ≡ Some r → Fits w own → NodeStep w own node r next turned → turned.rec ≡ Some rec → Shows w own
    → Shows (halted w (record node { kept = node.kept ++ rec ∷ []; past = node.past ++ puts rec ∷ [] }) (record r { core = next }) halt.Kept) []
kept_shows w own node r _ _ rec found up fits (of_osd s happens is_osd reaches) is_rec is =
    let its : RunsAs w node r s = record { found = found; up = up; core = is_osd } in
    let last = entry.Down node.id r.clock halt.Kept ∷ [] in
    record {
      replies = replies_less w (halted w (record node { kept = node.kept ++ rec ∷ []; past = node.past ++ puts rec ∷ [] }) (record r { core = osd (step_of_osd (outside_of node.kept) s r.clock happens).osd }) halt.Kept) own [] last refl
          (λ k h. has_right k own (messages w) h) (all_stay (known w)) is.replies;
      marks = λ number who. halt_marks number who w own (record node { kept = node.kept ++ rec ∷ []; past = node.past ++ puts rec ∷ [] }) node (record r { core = osd (step_of_osd (outside_of node.kept) s r.clock happens).osd }) halt.Kept found (λ bound all its. absurd (osd_no_mrc w own node r s fits.fit found up is_osd its)) (is.marks number who);
      once = once_still w.entries last (one_still (entry.Down node.id r.clock halt.Kept) tt) is.once;
      files = λ vol number location who of_kind setting listed.
          osd_stops vol number location who of_kind setting w own fits.fit fits (the_file vol number location w fits.places listed) (is.files vol number location who of_kind setting listed) node r s its happens rec halt.Kept reaches is_rec;
    }
kept_shows w own node r _ _ rec found up fits (of_client c happens is_client reaches) is_rec is =
    absurd (no_record rec _ (event_asks node.id w.times c r.clock happens).rec is_rec)
kept_shows w own node r _ _ rec found up fits (of_mrc m happens is_mrc reaches) is_rec is =
    let step = step_of_mrc world_key m r.clock happens in
    server_stops w own node (record r { core = mrc step.mrc }) rec found (λ file. subst (IsNotOf file) is_rec ((mrc_is world_key m r.clock happens).rec file))
    (λ number bound all its. subst (λ (o : Option Record). Marked (IsWithin bound number) (catalogue_of world_key (one_more node.kept o))) is_rec (mrc_kept number bound w own node r m happens fits.fit found up is_mrc reaches all)) is
kept_shows w own node r _ _ rec found up fits (of_dir s happens is_dir reaches) is_rec is =
    let step = step_of_dir s happens in
    server_stops w own node (record r { core = dir step.dir }) rec found (λ file. subst (IsNotOf file) is_rec ((dir_is s happens).rec file))
    (λ number bound all its. absurd (dir_no_mrc w own node r s fits.fit found up is_dir its)) is
kept_shows w own node r _ _ rec found up fits (of_call c k is_client resting bound usable) is_rec is =
    absurd (no_record rec _ (call_asks node.id w.times (ready_for w.files c k (called_file k)) r.clock k).rec is_rec)
kept_shows w own node r _ _ rec found up fits (of_again c is_client resting may) is_rec is =
    absurd (no_record rec _ (again_asks node.id w.times c r.clock).rec is_rec)

-- a server starts
osd_or_not : (its : Role) → (its ≡ role.Osd) ⊎ (its ≢ role.Osd)
osd_or_not role.Osd = inl refl
osd_or_not role.Client = inr (λ is. cc is)
osd_or_not role.Mrc = inr (λ is. cc is)
osd_or_not role.Dir = inr (λ is. cc is)

-- what starts at a server is no client
starts_no_client : (times : TimeSettings) (node : Node) (boot : Boot) (clock : ℕ) (its : Role) (c : WholeClient) → is_server (Some (record node { role = its })) ≡ true → core_starting times node boot clock its ≡ client c → ⊥
starts_no_client times node boot clock role.Osd c serves is = cc is
starts_no_client times node boot clock role.Client c serves is = cc serves
starts_no_client times node boot clock role.Mrc c serves is = cc is
starts_no_client times node boot clock role.Dir c serves is = cc is

entries_still : (files : List PlacedFile) → AreStill (map file_entry files)
entries_still [] e h = absurd h
entries_still (f ∷ fs) e (inl is) = subst IsStill (sym is) tt
entries_still (f ∷ fs) e (inr h) = entries_still fs e h

start_still : (node : NodeId) (boot : Boot) (clock : ℕ) (files : List PlacedFile) → AreStill (entry.Up node boot clock ∷ map file_entry files)
start_still node boot clock files e (inl is) = subst IsStill (sym is) tt
start_still node boot clock files e (inr h) = entries_still files e h

started_shows : (w : World) (node : Node) (clock : ℕ) → is_server (Some node) ≡ true → node_in w.nodes node.id.0 ≡ Some node → node.up ≡ None → Shows w [] → Shows (starts_as w node (next_boot node.kept) clock) []
started_shows w node clock serves found down is =
    let boot = next_boot node.kept in
    let after = starts_as w node (next_boot node.kept) clock in
    let there : Node = record node {
      kept = node.kept ++ kept.Boot (next_boot node.kept) ∷ [];
      past = node.past ++ loads ∷ puts (kept.Boot (next_boot node.kept)) ∷ [];
      up = Some (runs (next_boot node.kept) clock (core_starting w.times node (next_boot node.kept) clock node.role));
    } in
    shows_rest w after [] [] (entry.Up node.id (next_boot node.kept) clock ∷ map file_entry (files_left w.made node)) refl (start_still node.id boot clock (files_left w.made node)) (λ file n. seen file n (osd_or_not node.role))
    (λ k h. h)
    (λ file n. put_callers file n w after node there found refl
    (λ p c up core. absurd (starts_no_client w.times node boot clock node.role c serves (let run : runs (next_boot node.kept) clock (core_starting w.times node (next_boot node.kept) clock node.role) ≡ p = cc up in ap (λ (x : Running). x.core) run ∙ core))))
    (λ n none. put_absent w.nodes node there n found none) (stay_made w.files w.made (files_left w.made node)) (put_records w after node there found refl (λ its. (its, boot_makes_none world_key node.kept (next_boot node.kept)))) is
  where
    seen : (file : FileId) (n : ℕ) → (node.role ≡ role.Osd) ⊎ (node.role ≢ role.Osd)
        → ((nodes_seen file (starts_as w node (next_boot node.kept) clock) n).kept ≡ (nodes_seen file w n).kept) × ((nodes_seen file (starts_as w node (next_boot node.kept) clock) n).body ≡ (nodes_seen file w n).body)
    seen file n (inl is_osd) =
        let sees = starts_show file w node clock (view file w) found down is_osd refl in
        (ap (λ (f : ℕ → FileNode). (f n).kept) (sym sees) ∙ at_same (nodes_seen file w) node.id.0 _ refl n, ap (λ (f : ℕ → FileNode). (f n).body) (sym sees) ∙ at_body (nodes_seen file w) node.id.0 _ refl n)
    seen file n (inr differs) =
        let sees = servers_rest file w node clock (view file w) found down differs refl in
        (kept_seen_same file w (starts_as w node (next_boot node.kept) clock) sees n, body_seen_same file w (starts_as w node (next_boot node.kept) clock) sees n)

rewritten_no_client : (node : Node) (r : Running) (s : OsdState) (q : Running) (c : WholeClient) → (rewritten_at node r s).up ≡ Some q → q.core ≡ client c → ⊥
rewritten_no_client node r s q c up core =
    let run : record r { core = osd (osd_without (keep_of s) s) } ≡ q = cc up in let clash : osd (osd_without (keep_of s) s) ≡ client c = ap (λ (x : Running). x.core) run ∙ core in cc clash

-- ---- every run

pub whole_kept : IsKept Whole
whole_kept =
    record {
      begins = record { fits = ends_kept.begins; shows = start_shows };
      times = λ lease drift bound.
          let after = tells (record start_world { times = record { lease = lease; drift = drift } }) (entry.Times lease drift ∷ []) in
          record {
            fits = ends_kept.times lease drift bound;
            shows = shows_rest start_world after [] [] (entry.Times lease drift ∷ []) refl (one_still (entry.Times lease drift) tt) (λ file n. (refl, refl)) (λ k h. h) (λ file n. nodes_callers file n start_world after refl) (λ n none. none) (all_stay (known start_world)) (nodes_records start_world after refl) start_shows;
          };
      server_declared = λ w id its serves stands bound new p.
          let node = never_started id its in
          let after = tells (record w { nodes = w.nodes ++ node ∷ [] }) [] in
          record {
            fits = ends_kept.server_declared w id its serves stands bound new p.fits;
            shows = shows_rest w after [] [] [] refl none_still (seen_same w after (λ file. declared_rest file w node (view file w) new refl refl)) (λ k h. h)
                (λ file n. add_callers file n w after node new refl (λ r c e up core. absurd (cc up))) (λ n none. add_absent w.nodes node n new none) (all_stay (known w)) (add_records w after node new refl refl) p.shows;
          };
      client_declared = λ w id clock bound new close p. record { fits = ends_kept.client_declared w id clock bound new close p.fits; shows = client_shows w id clock new p.fits p.shows };
      file_declared = λ w number location bound new p.
          let f : PlacedFile = record { file = declared_file number; location = location } in
          let after = tells (record w { files = w.files ++ f ∷ [] }) (entry.File number location ∷ []) in
          record {
            fits = ends_kept.file_declared w number location bound new p.fits;
            shows = shows_rest w after [] [] (entry.File number location ∷ []) refl (one_still (entry.File number location) tt) (λ file n. (refl, refl)) (λ k h. h) (λ file n. nodes_callers file n w after refl) (λ n none. none)
                (stay_declared w f bound.0 new p.fits.fit) (nodes_records w after refl) p.shows;
          };
      started = λ w node clock serves bound found down close p.
          record { fits = ends_kept.started w node clock serves bound found down close p.fits; shows = started_shows w node clock serves found down p.shows };
      planned = λ w node r q found up boot clock core p.
          let after : World = record w { nodes = with_node w.nodes (record node { up = Some q }) } in
          record {
            fits = ends_kept.planned w node r q found up boot clock core p.fits;
            shows = put_shows w after node r q [] found up refl (all_stay (known w)) (same_entries w after refl) none_still (λ k h. h) (λ file. ap (core_state file) core) (same_calls r q core) p.shows;
          };
      aimed_at = λ w node r c number target found up is_client p.
          let d : WholeClient = aimed_on c target (usable w.files c.held number) in
          let after : World = record w { nodes = with_node w.nodes (record node { up = Some (record r { core = client d }) }) } in
          record {
            fits = ends_kept.aimed_at w node r c number target found up is_client p.fits;
            shows = put_shows w after node r (record r { core = client d }) [] found up refl (all_stay (known w)) (same_entries w after refl) none_still (λ k h. h) (λ file. sym (ap (core_state file) is_client))
                (λ file e is. (let same_client_then : d ≡ e = cc is in (c, is_client, subst (IsSame file c) same_client_then (aimed_same file c target (usable w.files c.held number))))) p.shows;
          };
      stopped = λ w own node r how found up p. record { fits = ends_kept.stopped w own node r how found up p.fits; shows = stopped_shows w own node r how found p.shows };
      clock_set = λ w node r clock bound found up rises close p.
          let after = tells (record w { nodes = with_node w.nodes (record node { up = Some (record r { clock = clock }) }) }) (entry.Clock node.id clock ∷ []) in
          record {
            fits = ends_kept.clock_set w node r clock bound found up rises close p.fits;
            shows = put_shows w after node r (record r { clock = clock }) (entry.Clock node.id clock ∷ []) found up refl (all_stay (known w)) refl (one_still (entry.Clock node.id clock) tt) (λ k h. h) (λ file. refl) (same_calls r (record r { clock = clock }) refl) p.shows;
          };
      all_ticked = λ w count bound p.
          let after = tells (record w { nodes = map (ticked count) w.nodes }) (entry.Tick count ∷ []) in
          record {
            fits = ends_kept.all_ticked w count bound p.fits;
            shows = shows_rest w after [] [] (entry.Tick count ∷ []) refl (one_still (entry.Tick count) tt) (seen_same w after (λ file. ticks_rest file w count (view file w) refl)) (λ k h. h)
                (λ file n. tick_callers file n w after count refl) (λ n none. tick_absent w.nodes count n none) (all_stay (known w)) (tick_records w after count refl) p.shows;
          };
      less_pending = λ w own number p.
          let after : World = record w { sent = no_longer_pending w.sent number } in
          record {
            fits = ends_kept.less_pending w own number p.fits;
            shows = shows_rest w after own own [] (same_entries w after refl) none_still (λ file n. (refl, refl))
                (λ k h. elim (has_in k own (messages after) h) [
                  | inl mine ↦ has_left k own (messages w) mine
                  | inr sent ↦ has_right k own (messages w) (same_messages w.sent number k sent)
                ])
                (λ file n. nodes_callers file n w after refl) (λ n none. none) (all_stay (known w)) (nodes_records w after refl) p.shows;
          };
      lost = λ w own left part p.
          record {
            fits = ends_kept.lost w own left part p.fits;
            shows = shows_rest w w own left [] (same_entries w w refl) none_still (λ file n. (refl, refl))
                (λ k h. elim (has_in k left (messages w) h) [
                  | inl mine ↦ has_left k own (messages w) (left_within left own part k mine)
                  | inr sent ↦ has_right k own (messages w) sent
                ])
                (λ file n. nodes_callers file n w w refl) (λ n none. none) (all_stay (known w)) (nodes_records w w refl) p.shows;
          };
      stepped = λ w was own node r next turned outs rest part found up step split p.
          record {
            fits = ends_kept.stepped w was own node r next turned outs rest part found up step split p.fits;
            shows = stepped_shows w was own node r next turned outs (left_within own was part) (λ m h. subst (Has m) (sym split) (has_left m outs rest h)) found up p.fits step p.shows;
          };
      stopped_keeping = λ w own node r next turned rec found up step is_rec p.
          record {
            fits = ends_kept.stopped_keeping w own node r next turned rec found up step is_rec p.fits;
            shows = kept_shows w own node r next turned rec found up p.fits step is_rec p.shows;
          };
      forgotten = λ w own node r s found up is_osd p.
          record {
            fits = ends_kept.forgotten w own node r s found up is_osd p.fits;
            shows = record {
              replies = p.shows.replies;
              marks = λ number who.
                  carried number who w (record w { nodes = with_node w.nodes (rewritten_at node r s) }) own own
                  (put_carries number who w (record w { nodes = with_node w.nodes (rewritten_at node r s) }) own own node (rewritten_at node r s) [] found refl (sym (append-nil w.entries)) (λ bound all k h. all.sent k h)
                  (λ bound all its. absurd (osd_no_mrc w own node r s p.fits.fit found up is_osd its)) (λ q c is_up core. rewritten_no_client node r s q c is_up core))
                  (p.shows.marks number who);
              once = p.shows.once;
              files = λ vol number location who of_kind setting listed.
                  forgotten_follows vol number location who setting w own node r s (in_order w own p.fits.fit) (record { found = found; up = up; core = is_osd }) (p.shows.files vol number location who of_kind setting listed);
            };
          };
      lined = λ w l ended p.
          let later : World = record (with_line w l) { ended = ended } in
          record {
            fits = ends_kept.lined w l ended p.fits;
            shows = shows_rest w later [] [] [] (same_entries w later refl) none_still (λ file n. (refl, refl)) (λ k h. h) (λ file n. nodes_callers file n w later refl) (λ n none. none) (all_stay (known w)) (nodes_records w later refl) p.shows;
          };
    }
