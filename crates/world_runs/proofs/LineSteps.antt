-- a world that fits is what every run keeps
use Rattle.std.proofs.Common.{Bool, ◌≡◌, ℕ, ◌≤◌, inl, inr, List, [], ◌∷◌, ◌++◌, refl, arith, ap, sym, ◌∙◌, subst, Option, Some, None}
use Rattle.xt_base.specs.TimeSettings.{TimeSettings}
use Rattle.xt_base.specs.declared.ids.NodeId.{NodeId}
use Rattle.xt_base.specs.declared.ids.Boot.{Boot}
use Rattle.xt_messages.specs.declared.message.Msg.{Msg}
use Rattle.xt_messages.specs.declared.record.Record.{Record}
use Rattle.time_line.specs.declared.entry.Halt.TheVariants as halt
use Rattle.lease_safety.specs.State.{Has}
use Rattle.xt_protocol.specs.Folds.{fold_of}
use Rattle.lease_runs.specs.LeaseWorld.{LeaseSetting}
use Rattle.lease_runs.proofs.Seen as seen_steps
use Rattle.xt_messages.specs.declared.record.KeepBody.{KeepBody}
use Rattle.xt_protocol.specs.Forgetting.{keep_of, osd_without, rewritten}
use Rattle.xt_protocol.specs.OsdSteps.{OsdState}
use Rattle.world_runs.proofs.Forgotten.{core_then, rows_fit_then, seen_then}
use Rattle.world_spec.specs.declared.PlacedFile.{PlacedFile}
use Rattle.world_spec.specs.declared.Role.TheVariants as role
use Rattle.time_line.specs.declared.line.Line.{Line}
use Rattle.time_line.specs.TimeLine.{RunningBoot, standing}
use Rattle.client_rows.specs.Clients.{aimed}
use Rattle.client_rows.specs.Rows.{WholeClient}
use Rattle.world_spec.specs.NodeSteps.{rewritten_at}
use Rattle.world_spec.specs.World.{World, Node, Running, Core, osd, client, mrc, dir, world_key, node_in, with_node, known, up_of, puts}
use Rattle.world_spec.specs.Rules.{usable}
use Rattle.world_spec.specs.Lines.{aimed_on, no_longer_pending}
use Rattle.world_runs.specs.View.{file_setting, node_id, told, core_seen, node_seen, messages, is_of, lease_view}
use Rattle.world_runs.proofs.Lists.{has_in, has_left, has_right, has_filter, filter_has}
use Rattle.world_runs.proofs.Tables.{same, node_in-new, node_in-other}
use Rattle.world_runs.proofs.Frame.{IsOther, osd_or_other, seen_osd, seen_other}
use Rattle.world_runs.proofs.Roles.{role_at, made_in, one_with, made_with}
use Rattle.world_runs.proofs.Making.{made_more}
use Rattle.world_runs.proofs.Fit.{IsFit, replaced, running_made, halt_fits, fewer_fits, after_fits, fewer_next}
use Rattle.world_runs.proofs.Files.{record_fits}
use Rattle.world_runs.proofs.NodeEvents.{core_at, known_fits, step_next}
use Rattle.world_runs.proofs.Walk.{IsKept, same_messages, left_within}
use Rattle.world_spec.specs.Runs.{with_line}
use Rattle.world_runs.proofs.Declares as declares
use Rattle.world_runs.proofs.Clocks as clocks
use Rattle.server_rows.specs.Metadata.{catalogue_of}
use Rattle.world_spec.specs.Lines.{files_in}
use Rattle.std.proofs.lemmas.List.{append-nil, append_assoc}
use Rattle.world_runs.specs.Worlds.{OsdFits, ClientFits, CoreFits, UpFits, role_of, NodeFits, IsFront, MadeUp, EndFits, Stands}

-- ---- plans

-- a running node is replaced so that nothing of its lease changes
replaced_fits : (w : World) (own : List Msg) (node there : Node) (r q : Running) → node_in w.nodes there.id.0 ≡ Some node → node.up ≡ Some r → there.up ≡ Some q → there.role ≡ node.role
    → ((g : LeaseSetting) (n : ℕ) (end : Option ℕ) → core_seen g n end there.kept q q.core ≡ core_seen g n end node.kept r r.core) → NodeFits w.times (known w) there
    → (there.role ≡ role.Mrc → made_in there ≡ made_in node) → ((o : Option RunningBoot) → Stands o (Some r) → Stands o (Some q)) → IsFit w own → IsFit (record w { nodes = with_node w.nodes there }) own
replaced_fits w own node there r q found is_up now_up its seen fits makes stands fit =
    let next : World = record w { nodes = with_node w.nodes there } in
    record {
      shape =
          record {
            good = λ file members are.
                let g = file_setting w.times file members in
                seen_steps.unmoved g (lease_view g w own) (lease_view g next own) (fit.shape.good file members are)
                (λ n. elim (same n there.id.0) [
                  | inl e ↦ seen_steps.as_it_is _ _
                      (ap (node_seen g n (told file.number n w.entries)) (ap (node_in next.nodes) e ∙ node_in-new w.nodes there node found)
                      ∙ (here_seen g n (told file.number n w.entries)
                      ∙ sym (ap (node_seen g n (told file.number n w.entries)) (ap (node_in w.nodes) e ∙ found))))
                  | inr ne ↦ seen_steps.as_it_is _ _ (ap (node_seen g n (told file.number n w.entries)) (node_in-other w.nodes there n ne))
                ])
                (λ m h. h);
            nodes = λ n x is. replaced (NodeFits w.times (known w)) w.nodes there node n x found fits (λ y was. fit.shape.nodes n y was) is;
            stands = λ n number. elim (same n there.id.0) [
              | inl e ↦ subst (λ (f : Option Node). Stands (standing (node_id n) number w.entries) (up_of f)) (sym (ap (node_in next.nodes) e ∙ node_in-new w.nodes there node found))
                  (subst (λ (u : Option Running). Stands (standing (node_id n) number w.entries) u) (sym now_up)
                  (stands (standing (node_id n) number w.entries) (subst (Stands (standing (node_id n) number w.entries)) (ap up_of (ap (node_in w.nodes) e ∙ found) ∙ is_up) (fit.shape.stands n number))))
              | inr ne ↦ subst (λ (f : Option Node). Stands (standing (node_id n) number w.entries) (up_of f)) (sym (node_in-other w.nodes there n ne)) (fit.shape.stands n number)
            ];
            payloads = fit.shape.payloads;
            declared = fit.shape.declared;
            made = made_with w.nodes there node found its fit.shape.one_server w.made w.made fit.shape.made
                (λ server before. subst (MadeUp w.made (made_in there)) (sym now_up) (running_made w.made (made_in node) node.up r is_up before ∙ sym (makes server))) (λ none. refl);
            one_server = one_with w.nodes there node found its fit.shape.one_server;
            times = fit.shape.times;
          };
      safe = fit.safe;
    }
  where
    here_seen : (g : LeaseSetting) (n : ℕ) (end : Option ℕ) → node_seen g n end (Some there) ≡ node_seen g n end (Some node)
    here_seen g n end = elim (osd_or_other node.role) as (λ o. node_seen g n end (Some there) ≡ node_seen g n end (Some node)) [
      | inl is_osd ↦ seen_osd g n end there q (its ∙ is_osd) now_up ∙ (seen g n end ∙ sym (seen_osd g n end node r is_osd is_up))
      | inr other ↦ seen_other g n end there (subst IsOther (sym its) other) ∙ sym (seen_other g n end node other)
    ]

-- a running node is changed so that nothing of its lease changes
changed_fits : (w : World) (own : List Msg) (node : Node) (r q : Running) → node_in w.nodes node.id.0 ≡ Some node → node.up ≡ Some r → role_of q.core ≡ role_of r.core
    → ((g : LeaseSetting) (n : ℕ) (end : Option ℕ) → core_seen g n end node.kept q q.core ≡ core_seen g n end node.kept r r.core) → CoreFits w.times (known w) node.id node.kept q q.core
    → ((o : Option RunningBoot) → Stands o (Some r) → Stands o (Some q)) → IsFit w own → IsFit (record w { nodes = with_node w.nodes (record node { up = Some q }) }) own
changed_fits w own node r q found is_up its seen core stands fit =
    let was = fit.shape.nodes node.id.0 node found in
    replaced_fits w own node (record node { up = Some q }) r q found is_up refl refl seen (record { role_is = its ∙ role_at node r was.role_is is_up; rows = was.rows; up = core }) (λ server. refl) stands fit

-- an OSD forgets bodies
forgotten_fits : (w : World) (own : List Msg) (node : Node) (r : Running) (s : OsdState) → node_in w.nodes node.id.0 ≡ Some node → node.up ≡ Some r → r.core ≡ osd s → IsFit w own
    → IsFit (record w { nodes = with_node w.nodes (rewritten_at node r s) }) own
forgotten_fits w own node r s found is_up is_osd fit =
    let keep = keep_of s in
    let here = fit.shape.nodes node.id.0 node found in
    let is_role : role.Osd ≡ node.role = sym (ap role_of is_osd) ∙ role_at node r here.role_is is_up in
    let was : CoreFits w.times (known w) node.id node.kept r (osd s)
    = subst (CoreFits w.times (known w) node.id node.kept r) is_osd (subst (UpFits w.times (known w) node.id node.kept) is_up here.up) in
    replaced_fits w own node (rewritten_at node r s) r (record r { core = osd (osd_without keep s) }) found is_up refl refl
    (λ g n end. seen_then g n end keep node.kept (rewritten keep node.kept) r s ∙ ap (core_seen g n end node.kept r) (sym is_osd))
    (record {
      role_is = is_role;
      rows = rows_fit_then (known w) keep node.kept here.rows;
      up = core_then w.times (known w) node.id keep node.kept r s was;
    })
    (λ server. absurd (let none : role.Osd ≡ role.Mrc = is_role ∙ server in cc))
    (λ o stands. forgets_stands r s keep o is_osd stands) fit
  where
    forgets_stands : (r : Running) (s : OsdState) (keep : List KeepBody) (o : Option RunningBoot) → r.core ≡ osd s → Stands o (Some r) → Stands o (Some (record r { core = osd (osd_without keep s) }))
    forgets_stands r s keep None core stands = absurd stands
    forgets_stands r s keep (Some st) core stands = (stands.0, tt)

same_core : (times : TimeSettings) (files : List PlacedFile) (node : NodeId) (records : List Record) (r q : Running) (core : Core) → r.boot ≡ q.boot → r.clock ≡ q.clock → CoreFits times files node records r core → CoreFits times files node records q core
same_core times files node records r q (osd s) boot clock fits =
    (subst (λ (c : ℕ). OsdFits times files node q.boot c s) clock (subst (λ (b : Boot). OsdFits times files node b r.clock s) boot fits.0), subst (λ (b : Boot). b.0 ≤ (fold_of records).boot.0) boot fits.1, fits.2)
same_core times files node records r q (client c) boot clock fits = fits
same_core times files node records r q (mrc m) boot clock fits = fits
same_core times files node records r q (dir s) boot clock fits = fits

same_seen : (g : LeaseSetting) (n : ℕ) (end : Option ℕ) (records : List Record) (r q : Running) (core : Core) → q.boot ≡ r.boot → q.clock ≡ r.clock → core_seen g n end records q core ≡ core_seen g n end records r core
same_seen g n end records r q (osd s) boot clock =
    ap (λ (b : Boot). core_seen g n end records (record q { boot = b }) (osd s)) boot ∙ ap (λ (c : ℕ). core_seen g n end records (record q { boot = r.boot; clock = c }) (osd s)) clock
same_seen g n end records r q (client c) boot clock = refl
same_seen g n end records r q (mrc m) boot clock = refl
same_seen g n end records r q (dir s) boot clock = refl

-- a message is no longer pending
less_sent : (w : World) (own : List Msg) (number : ℕ) → IsFit w own → IsFit (record w { sent = no_longer_pending w.sent number }) own
less_sent w own number fit =
    let next : World = record w { sent = no_longer_pending w.sent number } in
    let within : (m : Msg) → Has m (own ++ messages next) → Has m (own ++ messages w) =
    λ m h. elim (has_in m own (messages next) h) [
      | inl mine ↦ has_left m own (messages w) mine
      | inr sent ↦ has_right m own (messages w) (same_messages w.sent number m sent)
    ] in
    record {
      shape =
          record {
            good = λ file members are.
                let g = file_setting w.times file members in
                seen_steps.unmoved g (lease_view g w own) (lease_view g next own) (fit.shape.good file members are) (λ n. seen_steps.as_it_is _ _ refl)
                (λ m h. let there = has_filter (is_of g.file) m (own ++ messages next) h in filter_has (is_of g.file) m (own ++ messages w) (within m there.0) there.1);
            nodes = fit.shape.nodes;
            stands = fit.shape.stands;
            payloads = λ m h. fit.shape.payloads m (within m h);
            declared = fit.shape.declared;
            made = fit.shape.made;
            one_server = fit.shape.one_server;
            times = fit.shape.times;
          };
      safe = fit.safe;
    }

-- a line more
lined_fits : (w : World) (l : Line) (ended : Bool) → IsFit w [] → IsFit (record (with_line w l) { ended = ended }) []
lined_fits w l ended fit =
    record {
      shape = record {
        good = fit.shape.good;
        nodes = fit.shape.nodes;
        stands = fit.shape.stands;
        payloads = fit.shape.payloads;
        declared = fit.shape.declared;
        made = fit.shape.made;
        one_server = fit.shape.one_server;
        times = fit.shape.times;
      };
      safe = fit.safe;
    }

same_stands : (r q : Running) (o : Option RunningBoot) → q.clock ≡ r.clock → q.core ≡ r.core → Stands o (Some r) → Stands o (Some q)
same_stands r q None clock core stands = absurd stands
same_stands r q (Some st) clock core stands = (stands.0 ∙ sym clock, subst (EndFits st.end) (sym core) stands.1)

aimed_stands : (r : Running) (c d : WholeClient) (o : Option RunningBoot) → r.core ≡ client c → Stands o (Some r) → Stands o (Some (record r { core = client d }))
aimed_stands r c d None core stands = absurd stands
aimed_stands r c d (Some st) core stands = (stands.0, subst (EndFits st.end) core stands.1)

-- a client aims at a file that it may use, if it may
aimed_fits : (files : List PlacedFile) (c : WholeClient) (target : NodeId) (o : Option PlacedFile) → ClientFits files c → ClientFits files (aimed_on c target o)
aimed_fits files c target None fits = fits
aimed_fits files c target (Some f) fits = known_fits files c f.file (aimed target) fits

-- a node that stops leaves a front of what its records made
front_stays : (made records_made : List PlacedFile) (up : Option Running) (r : Running) → up ≡ Some r → MadeUp made records_made up → IsFront made records_made
front_stays made records_made up r is_up is = ([], sym (running_made made records_made up r is_up is) ∙ sym (append-nil made))

-- one record more makes files at the end, if any
front_grows : (made : List PlacedFile) (node : Node) (rec : Record) → IsFront made (made_in node) → IsFront made (files_in (catalogue_of world_key (node.kept ++ rec ∷ [])))
front_grows made node rec front =
    let more = made_more world_key node.kept rec in
    (front.0 ++ more.0, more.1 ∙ (ap (λ (fs : List PlacedFile). fs ++ more.0) front.1 ∙ append_assoc made front.0 more.0))

-- ---- every run

pub fits_kept : IsKept IsFit
fits_kept =
    record {
      begins = declares.start_fits;
      times = λ lease drift bound. declares.times_fit lease drift;
      server_declared = λ w id its serves at bound free fit. declares.server_fits w id its at free fit;
      client_declared = λ w id clock bound free close fit. declares.client_fits w id clock free fit;
      file_declared = λ w number location bound free fit. declares.file_fits w number location bound.0 fit;
      started = λ w node clock serves bound found down close fit. clocks.start_fits w node clock found down close fit;
      planned = λ w node r q found is_up boot clock core fit.
          changed_fits w [] node r q found is_up (ap role_of core)
          (λ g n end. ap (core_seen g n end node.kept q) core ∙ same_seen g n end node.kept r q r.core boot.0 clock)
          (subst (CoreFits w.times (known w) node.id node.kept q) (sym core) (same_core w.times (known w) node.id node.kept r q r.core (sym boot.0) (sym clock) (core_at w [] node r fit.shape found is_up)))
          (λ o stands. same_stands r q o clock core stands) fit;
      aimed_at = λ w node r c number target found is_up is_client fit.
          let d = aimed_on c target (usable w.files c.held number) in
          changed_fits w [] node r (record r { core = client d }) found is_up (sym (ap role_of is_client)) (λ g n end. ap (core_seen g n end node.kept r) (sym is_client))
          (aimed_fits (known w) c target (usable w.files c.held number) (subst (CoreFits w.times (known w) node.id node.kept r) is_client (core_at w [] node r fit.shape found is_up)))
          (λ o stands. aimed_stands r c d o is_client stands) fit;
      stopped = λ w own node r how found is_up fit.
          halt_fits w own node node r how found refl (fit.shape.nodes node.id.0 node found).rows (omega arith) (λ server before. front_stays w.made (made_in node) node.up r is_up before) fit;
      clock_set = λ w node r clock bound found is_up rises close fit. clocks.clock_fits w node r clock found is_up rises close fit;
      all_ticked = λ w count bound fit. clocks.tick_fits w count fit;
      less_pending = less_sent;
      lost = λ w own left part fit. fewer_fits w own left (left_within left own part) fit;
      stepped = λ w was own node r next turned outs rest part found is_up step split fit.
          after_fits w was own node r next (record turned { outs = outs }) (left_within own was part) found is_up
          (fewer_next w was node r next turned outs (λ m h. subst (Has m) (sym split) (has_left m outs rest h)) (step_next w was node r next turned fit.shape found is_up step)) fit;
      stopped_keeping = λ w own node r next turned rec found is_up step e fit.
          let is = step_next w own node r next turned fit.shape found is_up step in
          halt_fits w own (record node { kept = node.kept ++ rec ∷ []; past = node.past ++ puts rec ∷ [] }) node (record r { core = next }) halt.Kept found refl
          (record_fits (known w) node.kept rec (is.rec rec e).0 (fit.shape.nodes node.id.0 node found).rows) (omega (arith, ap (λ (b : Boot). b.0) (is.rec rec e).1))
          (λ server before. front_grows w.made node rec (front_stays w.made (made_in node) node.up r is_up before)) fit;
      forgotten = forgotten_fits;
      lined = lined_fits;
    }
