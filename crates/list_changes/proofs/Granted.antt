-- what is said of the lists of files is so of each granted capability
use Rattle.std.proofs.Common.{◌≡◌, ℕ, List, [], ◌∷◌, ◌++◌, map, refl, ap, sym, ◌∙◌, subst, arith, Option, Some, None, Bool, true, false, cond}
use Rattle.std.specs.Prelude.{max, nat_eq, nat_lt, not, ◌&&◌, Result, Ok, Err}
use Rattle.std.specs.Map.{lookup}
use Rattle.indexmap.specs.IndexMap.{insert_entry}
use Rattle.xt_base.specs.TimeSettings.{TimeSettings}
use Rattle.xt_base.specs.declared.ids.NodeId.{NodeId}
use Rattle.xt_base.specs.declared.ids.FileId.{FileId}
use Rattle.xt_messages.specs.declared.file.Kind.{Kind}
use Rattle.xt_messages.specs.declared.file.Kind.TheVariants as kind
use Rattle.xt_messages.specs.declared.file.Location.{Location}
use Rattle.xt_messages.specs.declared.meta.MetaReq.{MetaReq}
use Rattle.xt_messages.specs.declared.meta.MetaReq.TheVariants as ask
use Rattle.xt_messages.specs.declared.meta.MetaRefusal.{MetaRefusal}
use Rattle.xt_messages.specs.declared.meta.MetaAnswer.{MetaAnswer}
use Rattle.xt_messages.specs.declared.meta.MetaAnswer.TheVariants as answer
use Rattle.xt_messages.specs.declared.registry.RegistryRow.{RegistryRow}
use Rattle.xt_messages.specs.declared.registry.RegistryAnswer.{RegistryAnswer}
use Rattle.xt_messages.specs.declared.registry.RegistryAnswer.TheVariants as told
use Rattle.xt_messages.specs.declared.message.Payload.{Payload}
use Rattle.xt_messages.specs.declared.message.Payload.TheVariants as payload
use Rattle.xt_messages.specs.declared.message.Msg.{Msg}
use Rattle.xt_messages.specs.declared.event.Event.{Event}
use Rattle.xt_messages.specs.declared.event.Event.TheVariants as event
use Rattle.reply_cache.specs.declared.Kept.{Kept}
use Rattle.reply_cache.specs.declared.Standing.{Standing}
use Rattle.reply_cache.specs.declared.Standing.TheVariants as standing
use Rattle.reply_cache.specs.Standings.{compared, standing_of}
use Rattle.volume_rows.specs.declared.Asker.{Asker}
use Rattle.volume_rows.specs.declared.Granting.{Granting}
use Rattle.volume_rows.specs.Rows.{Volumes}
use Rattle.server_rows.specs.Requests.{grant_at, grant_settled, settled, is_done, is_taken, is_recorded, is_spent, nodes_for, outcome_of, made_after}
use Rattle.server_rows.specs.Metadata as plain
use Rattle.server_rows.specs.Metadata.{Catalogue, MrcState, MrcStep, step_of_mrc}
use Rattle.server_rows.specs.Naming.{Made, NamesMade, Holds, Stays}
use Rattle.server_rows.proofs.Naming.{Steps, step_holds}
use Rattle.xt_base.specs.MemberList.{has_node}
use Rattle.xt_messages.specs.declared.file.FileHead.{FileHead}
use Rattle.change_rows.specs.declared.Choice.{Choice}
use Rattle.change_rows.specs.Changes.{ChangeState, installed_by, next_members}
use Rattle.change_rows.specs.Coordinating.{Running, Step, running_of, with_running, unmoved, lists as listing_step, close_to, install_to, to_close, to_install, asked_again, reminders, all_reminders, ripe, has_number, chooses as makes_choice, passes, woken_by, woken, closing_under, installation_of, installation_under, wanted_of, wanted_under}
use Rattle.list_changes.specs.Lists.{Beginning, with_list, located_as, located, is_changing, beginning_answer}
use Rattle.list_changes.specs.Requests.{nodes_with, outcome_with, beginning_on, is_recorded_with, is_spent_with}
use Rattle.list_changes.specs.Recorded.{catalogue_after}
use Rattle.list_changes.specs.Steps.{ChangingMrc, ChangingStep, beside, recorded_on, fresh_on, by_standing, told_by, handled, at_reading, step_with_changes}
use Rattle.list_changes.specs.Laws.{AsksNoChange, Grants, AnswersGrant, MessagesGrant, without_clients, GrantsHold, IsOfLists, GrantsStay}
use Rattle.list_changes.proofs.Plain.{spent_plain, recorded_plain, nodes_plain, taken_plain}

-- ---- the answers that are kept

module _ (P : FileId → Location → Type 0) where
  answers_put : (clients : List (ℕ × Kept MetaAnswer)) (client : ℕ) (last : Kept MetaAnswer) → Grants P last.answer → AnswersGrant P clients → AnswersGrant P (insert_entry nat_eq clients client last)
  answers_put [] client last new h = (new, tt)
  answers_put (c ∷ cs) client last new h = go (nat_eq client c.0) (answers_put cs client last new h.1)
    where
      go : (b : Bool) → AnswersGrant P (insert_entry nat_eq cs client last) → AnswersGrant P (cond b ((c.0, last) ∷ cs) (c ∷ insert_entry nat_eq cs client last))
      go true later = (new, h.1)
      go false later = (h.0, later)

  abbrev StandsGrant : Standing MetaAnswer → Type 0
  StandsGrant standing.Fresh = Unit {0}
  StandsGrant standing.Older = Unit {0}
  StandsGrant (standing.Again what) = Grants P what

  compared_grants : (number : ℕ) (last : Kept MetaAnswer) → Grants P last.answer → StandsGrant (compared number (Some last))
  compared_grants number last h = go (nat_eq number last.number) (nat_lt number last.number)
    where
      go : (a b : Bool) → StandsGrant (cond a (standing.Again last.answer) (cond b standing.Older standing.Fresh))
      go true b = h
      go false true = tt
      go false false = tt

  standing_grants : (clients : List (ℕ × Kept MetaAnswer)) (client : NodeId) (number : ℕ) → AnswersGrant P clients → StandsGrant (standing_of clients client number)
  standing_grants [] client number h = tt
  standing_grants (c ∷ cs) client number h = go (nat_eq client.0 c.0) (standing_grants cs client number h.1)
    where
      go : (b : Bool) → StandsGrant (compared number (lookup (nat_eq client.0) cs)) → StandsGrant (compared number (cond b (Some c.1) (lookup (nat_eq client.0) cs)))
      go true later = compared_grants number c.1 h.0
      go false later = later

-- ---- what a server without changes does with the files

module _ (key : List ℕ) (mrc : MrcState) (holds : Holds (without_clients mrc.catalogue)) (client : NodeId) (number : ℕ) (who : Asker) (request : MetaReq) where
  abbrev bare : Catalogue
  bare = without_clients mrc.catalogue

  abbrev at_last : ℕ → MrcState
  at_last last = record { catalogue = without_clients mrc.catalogue; osds = mrc.osds; last = last }

  abbrev asked : Event
  asked = event.Deliver (record { from = client; to = client; list = 1; payload = payload.Meta number who.user who.group request })

  same_last : max mrc.last mrc.last ≡ mrc.last
  same_last = omega arith

  requested_steps : Steps bare (plain.requested key (at_last mrc.last) client number who request)
  unfolding step_of_mrc
  requested_steps =
      subst (λ (last : ℕ). Steps (without_clients mrc.catalogue) (plain.requested key (at_last last) client number who request)) same_last
      (step_holds key (at_last mrc.last) mrc.last asked holds)

  module _ (taken : is_taken request ≡ true) (left : is_spent mrc.catalogue.volumes who request ≡ false) where
    fresh_steps : Steps bare
        (cond (is_recorded key mrc.catalogue.volumes mrc.last request) (plain.recorded key (at_last mrc.last) client number who request)
        (plain.answered (at_last mrc.last) client number (outcome_of key mrc.catalogue.volumes who mrc.last None request).answer))
    fresh_steps =
        subst
        (λ (b : Bool).
        Steps (without_clients mrc.catalogue)
        (cond b (plain.nothing (at_last mrc.last))
        (cond (is_recorded key mrc.catalogue.volumes mrc.last request) (plain.recorded key (at_last mrc.last) client number who request)
        (plain.answered (at_last mrc.last) client number (outcome_of key mrc.catalogue.volumes who mrc.last None request).answer))))
        left
        (subst
        (λ (b : Bool).
        Steps (without_clients mrc.catalogue)
        (cond b (plain.by_standing key (at_last mrc.last) client number who request standing.Fresh) (plain.nothing (at_last mrc.last))))
        taken
        requested_steps)

    pub kept_steps : is_recorded key mrc.catalogue.volumes mrc.last request ≡ true → Steps bare (plain.recorded key (at_last mrc.last) client number who request)
    kept_steps kept =
        subst
        (λ (b : Bool).
        Steps (without_clients mrc.catalogue)
        (cond b (plain.recorded key (at_last mrc.last) client number who request)
        (plain.answered (at_last mrc.last) client number (outcome_of key mrc.catalogue.volumes who mrc.last None request).answer)))
        kept
        fresh_steps

    pub told_steps : is_recorded key mrc.catalogue.volumes mrc.last request ≡ false
        → Steps bare (plain.answered (at_last mrc.last) client number (outcome_of key mrc.catalogue.volumes who mrc.last None request).answer)
    told_steps aside =
        subst
        (λ (b : Bool).
        Steps (without_clients mrc.catalogue)
        (cond b (plain.recorded key (at_last mrc.last) client number who request)
        (plain.answered (at_last mrc.last) client number (outcome_of key mrc.catalogue.volumes who mrc.last None request).answer)))
        aside
        fresh_steps

-- ---- what a request does to volumes and files is the same

volumes_grant : (key : List ℕ) (volumes : Volumes) (rs : List Running) (now want : ℕ) (granted : Result Granting MetaRefusal)
    → (settled volumes (grant_settled key now want (with_list rs granted))).volumes ≡ (settled volumes (grant_settled key now want granted)).volumes
volumes_grant key volumes rs now want (Err why) = refl
volumes_grant key volumes rs now want (Ok grant) = refl

volumes_same : (key : List ℕ) (volumes : Volumes) (rs : List Running) (who : Asker) (now : ℕ) (nodes : Option (List NodeId)) (request : MetaReq)
    → (outcome_with key volumes rs who now nodes request).volumes ≡ (outcome_of key volumes who now nodes request).volumes
volumes_same key volumes rs who now nodes (ask.Grant path want) = volumes_grant key volumes rs now want (grant_at volumes who want path)
volumes_same key volumes rs who now nodes (ask.Locate path) = refl
volumes_same key volumes rs who now nodes (ask.Change path next) = refl
volumes_same key volumes rs who now nodes _ = refl

either_way : {A : Type 0} (b c : Bool) (x : A) → cond b x x ≡ cond c x x
either_way true true x = refl
either_way true false x = refl
either_way false true x = refl
either_way false false x = refl

made_same : (key : List ℕ) (volumes : Volumes) (rs : List Running) (who : Asker) (now : ℕ) (nodes : Option (List NodeId)) (request : MetaReq) (made : Made)
    → made_after volumes now nodes request (outcome_with key volumes rs who now nodes request).answer made
    ≡ made_after volumes now nodes request (outcome_of key volumes who now nodes request).answer made
made_same key volumes rs who now nodes (ask.Grant path want) made =
    either_way (is_done (outcome_with key volumes rs who now nodes (ask.Grant path want)).answer) (is_done (outcome_of key volumes who now nodes (ask.Grant path want)).answer) made
made_same key volumes rs who now nodes (ask.Locate path) made =
    either_way (is_done (outcome_with key volumes rs who now nodes (ask.Locate path)).answer) (is_done (outcome_of key volumes who now nodes (ask.Locate path)).answer) made
made_same key volumes rs who now nodes (ask.Change path next) made =
    either_way (is_done (outcome_with key volumes rs who now nodes (ask.Change path next)).answer) (is_done (outcome_of key volumes who now nodes (ask.Change path next)).answer) made
made_same key volumes rs who now nodes _ made = refl

-- ---- answers

module _ (P : FileId → Location → Type 0) (rs : List Running) (made : Made) (lists : IsOfLists P rs made) where
  grant_grants : (key : List ℕ) (now want : ℕ) (granted : Result Granting MetaRefusal) → NamesMade made (grant_settled key now want granted).answer
      → Grants P (grant_settled key now want (with_list rs granted)).answer
  grant_grants key now want (Err why) named = tt
  grant_grants key now want (Ok grant) named = (lists grant.file grant.location named).1

  located_kind : (changing : Bool) (k : Kind) (place : Location) → Grants P (located_as changing k place)
  located_kind changing kind.Replicated place = tt
  located_kind changing kind.Striped place = tt

  located_grants : (granted : Result Granting MetaRefusal) → Grants P (located rs granted)
  located_grants (Err why) = tt
  located_grants (Ok grant) = located_kind (is_changing rs grant.file) grant.location.kind grant.location

  beginning_grants : (begun : Result Beginning MetaRefusal) → Grants P (beginning_answer begun)
  beginning_grants (Err why) = tt
  beginning_grants (Ok begun) = tt

  plain_grants : (what : MetaAnswer) → NamesMade made what → Grants P what
  plain_grants (answer.Granted capability mark) named = (lists capability.file capability.location named).0
  plain_grants _ named = tt

  outcome_grants : (key : List ℕ) (volumes : Volumes) (who : Asker) (now : ℕ) (nodes : Option (List NodeId)) (request : MetaReq)
      → NamesMade made (outcome_of key volumes who now nodes request).answer → Grants P (outcome_with key volumes rs who now nodes request).answer
  outcome_grants key volumes who now nodes (ask.Grant path want) named = grant_grants key now want (grant_at volumes who want path) named
  outcome_grants key volumes who now nodes (ask.Locate path) named = located_grants (with_list rs (grant_at volumes who 1 path))
  outcome_grants key volumes who now nodes (ask.Change path next) named = beginning_grants (beginning_on volumes rs who nodes path next)
  outcome_grants key volumes who now nodes request named = plain_grants (outcome_of key volumes who now nodes request).answer named

-- ---- steps

all_stays : (made : Made) → Stays made made
all_stays made file place h = h

module _ (P : FileId → Location → Type 0) (key : List ℕ) (times : TimeSettings) (s : ChangingMrc) (holds : GrantsHold P s.mrc.catalogue) where
  -- a step that leaves what is known of files and clients, and answers nothing
  rests : (step : ChangingStep) → step.server.mrc.catalogue ≡ s.mrc.catalogue → MessagesGrant P step.turned.outs → GrantsStay P s step
  rests step same sends =
      record {
        holds = subst (GrantsHold P) (sym same) holds;
        sends = sends;
        made = subst (λ (c : Catalogue). Stays s.mrc.catalogue.made c.made) (sym same) (all_stays s.mrc.catalogue.made);
      }

  module _ (client : NodeId) (number : ℕ) (nodes : Option (List NodeId)) (who : Asker) (request : MetaReq) where
    abbrev after : Catalogue
    after = catalogue_after key s.mrc.catalogue s.running client number s.mrc.last nodes who request

    abbrev plainly : Catalogue
    plainly = plain.after_request key (without_clients s.mrc.catalogue) client number s.mrc.last nodes who request

    files_same : without_clients after ≡ without_clients plainly
    files_same =
        let vs = s.mrc.catalogue.volumes in
        let parts = λ (volumes : Volumes) (made : Made). (let c : Catalogue = record { volumes = volumes; made = made; clients = [] } in c) in
        ap (λ (volumes : Volumes). parts volumes (made_after vs s.mrc.last nodes request (outcome_with key vs s.running who s.mrc.last nodes request).answer s.mrc.catalogue.made))
        (volumes_same key vs s.running who s.mrc.last nodes request)
        ∙ ap (parts (outcome_of key vs who s.mrc.last nodes request).volumes) (made_same key vs s.running who s.mrc.last nodes request s.mrc.catalogue.made)

    -- a request that is recorded, by what a server without changes does with the files
    kept_by : Holds (without_clients plainly) → Stays s.mrc.catalogue.made plainly.made → Grants P (outcome_with key s.mrc.catalogue.volumes s.running who s.mrc.last nodes request).answer
        → GrantsStay P s (recorded_on key times s client number nodes who request)
    kept_by files stays grants =
        record {
          holds =
              record {
                files = subst Holds (sym files_same) files;
                answers =
                    answers_put P s.mrc.catalogue.clients client.0
                    (record { number = number; answer = (outcome_with key s.mrc.catalogue.volumes s.running who s.mrc.last nodes request).answer })
                    grants
                    holds.answers;
              };
          sends = (grants, tt);
          made = subst (λ (c : Catalogue). Stays s.mrc.catalogue.made c.made) (sym files_same) stays;
        }

  -- a request that isn't one to change a list
  plain_kept : (client : NodeId) (number : ℕ) (who : Asker) (request : MetaReq) → AsksNoChange request → is_spent s.mrc.catalogue.volumes who request ≡ false
      → is_recorded key s.mrc.catalogue.volumes s.mrc.last request ≡ true
      → IsOfLists P s.running (recorded_on key times s client number (nodes_for s.mrc.osds s.mrc.catalogue.volumes.next request) who request).server.mrc.catalogue.made
      → GrantsStay P s (recorded_on key times s client number (nodes_for s.mrc.osds s.mrc.catalogue.volumes.next request) who request)
  plain_kept client number who request h left kept lists =
      let nodes = nodes_for s.mrc.osds s.mrc.catalogue.volumes.next request in
      let steps = kept_steps key s.mrc holds.files client number who request (taken_plain request h) left kept in
      let made_is = made_same key s.mrc.catalogue.volumes s.running who s.mrc.last nodes request s.mrc.catalogue.made in
      kept_by client number nodes who request (bare_again steps.holds) steps.stays
      (outcome_grants P s.running (plainly client number nodes who request).made (subst (IsOfLists P s.running) made_is lists) key s.mrc.catalogue.volumes who s.mrc.last nodes request steps.grants.0)
    where
      bare_again : {c : Catalogue} → Holds c → Holds (without_clients c)
      bare_again h = record { rises = h.rises; rows = h.rows; answers = tt }

  change_kept : (client : NodeId) (number : ℕ) (nodes : Option (List NodeId)) (who : Asker) (path : List ℕ) (next : List NodeId)
      → GrantsStay P s (recorded_on key times s client number nodes who (ask.Change path next))
  change_kept client number nodes who path next =
      kept_by client number nodes who (ask.Change path next)
      (subst (λ (made : Made). Holds (record { volumes = s.mrc.catalogue.volumes; made = made; clients = [] })) (sym made_is) holds.files)
      (subst (Stays s.mrc.catalogue.made) (sym made_is) (all_stays s.mrc.catalogue.made))
      (beginning_grants_of (beginning_on s.mrc.catalogue.volumes s.running who nodes path next))
    where
      made_is : (plainly client number nodes who (ask.Change path next)).made ≡ s.mrc.catalogue.made
      made_is = either_way (is_done (outcome_of key s.mrc.catalogue.volumes who s.mrc.last nodes (ask.Change path next)).answer) true s.mrc.catalogue.made

      beginning_grants_of : (begun : Result Beginning MetaRefusal) → Grants P (beginning_answer begun)
      beginning_grants_of (Err why) = tt
      beginning_grants_of (Ok begun) = tt

  plain_told : (client : NodeId) (number : ℕ) (who : Asker) (request : MetaReq) → AsksNoChange request → is_spent s.mrc.catalogue.volumes who request ≡ false
      → is_recorded key s.mrc.catalogue.volumes s.mrc.last request ≡ false → IsOfLists P s.running s.mrc.catalogue.made
      → Grants P (outcome_with key s.mrc.catalogue.volumes s.running who s.mrc.last None request).answer
  plain_told client number who request h left aside lists =
      outcome_grants P s.running s.mrc.catalogue.made lists key s.mrc.catalogue.volumes who s.mrc.last None request
      (told_steps key s.mrc holds.files client number who request (taken_plain request h) left aside).grants.0

  fresh_grants : (client : NodeId) (number : ℕ) (who : Asker) (request : MetaReq) (nodes : Option (List NodeId)) → nodes ≡ nodes_with s.mrc.osds s.mrc.catalogue.volumes.next request
      → IsOfLists P s.running (fresh_on key times s client number nodes who request).server.mrc.catalogue.made
      → GrantsStay P s (fresh_on key times s client number nodes who request)
  fresh_grants client number who (ask.Change path next) nodes are lists =
      go (is_spent_with s.mrc.catalogue.volumes s.running who nodes (ask.Change path next))
    where
      go : (spent : Bool) → GrantsStay P s (cond spent (beside s.running (plain.nothing s.mrc)) (recorded_on key times s client number nodes who (ask.Change path next)))
      go true = rests (beside s.running (plain.nothing s.mrc)) refl tt
      go false = change_kept client number nodes who path next
  fresh_grants client number who request nodes are lists = plain_fresh client number who request nodes are tt lists
    where
      plain_fresh : (client : NodeId) (number : ℕ) (who : Asker) (request : MetaReq) (nodes : Option (List NodeId)) → nodes ≡ nodes_with s.mrc.osds s.mrc.catalogue.volumes.next request
          → AsksNoChange request → IsOfLists P s.running (fresh_on key times s client number nodes who request).server.mrc.catalogue.made
          → GrantsStay P s (fresh_on key times s client number nodes who request)
      plain_fresh client number who request nodes are h lists =
          go (is_spent_with s.mrc.catalogue.volumes s.running who nodes request) (is_recorded_with key s.mrc.catalogue.volumes s.mrc.last request) refl refl lists
        where
          step : Bool → Bool → ChangingStep
          step spent records =
              cond spent (beside s.running (plain.nothing s.mrc)) (cond records (recorded_on key times s client number nodes who request)
              (beside s.running (plain.answered s.mrc client number (outcome_with key s.mrc.catalogue.volumes s.running who s.mrc.last None request).answer)))

          its_nodes : nodes_for s.mrc.osds s.mrc.catalogue.volumes.next request ≡ nodes
          its_nodes = sym (nodes_plain s.mrc.osds s.mrc.catalogue.volumes.next request h) ∙ sym are

          go : (spent records : Bool) → is_spent_with s.mrc.catalogue.volumes s.running who nodes request ≡ spent
              → is_recorded_with key s.mrc.catalogue.volumes s.mrc.last request ≡ records
              → IsOfLists P s.running (step spent records).server.mrc.catalogue.made → GrantsStay P s (step spent records)
          go true records left kept lists = rests (beside s.running (plain.nothing s.mrc)) refl tt
          go false true left kept lists =
              let spends = sym (spent_plain s.mrc.catalogue.volumes s.running who nodes request h) ∙ left in
              let keeps = sym (recorded_plain key s.mrc.catalogue.volumes s.mrc.last request h) ∙ kept in
              subst (λ (n : Option (List NodeId)). GrantsStay P s (recorded_on key times s client number n who request)) its_nodes
              (plain_kept client number who request h spends keeps
              (subst (λ (n : Option (List NodeId)). IsOfLists P s.running (recorded_on key times s client number n who request).server.mrc.catalogue.made) (sym its_nodes) lists))
          go false false left kept lists =
              let spends = sym (spent_plain s.mrc.catalogue.volumes s.running who nodes request h) ∙ left in
              let keeps = sym (recorded_plain key s.mrc.catalogue.volumes s.mrc.last request h) ∙ kept in
              rests (beside s.running (plain.answered s.mrc client number (outcome_with key s.mrc.catalogue.volumes s.running who s.mrc.last None request).answer)) refl
              (plain_told client number who request h spends keeps lists, tt)

  stands_grant : (client : NodeId) (number : ℕ) (who : Asker) (request : MetaReq) (stands : Standing MetaAnswer) → StandsGrant P stands
      → IsOfLists P s.running (by_standing key times s client number who request stands).server.mrc.catalogue.made
      → GrantsStay P s (by_standing key times s client number who request stands)
  stands_grant client number who request standing.Fresh h lists =
      fresh_grants client number who request (nodes_with s.mrc.osds s.mrc.catalogue.volumes.next request) refl lists
  stands_grant client number who request (standing.Again what) h lists = rests (beside s.running (plain.answered s.mrc client number what)) refl (h, tt)
  stands_grant client number who request standing.Older h lists = rests (beside s.running (plain.nothing s.mrc)) refl tt

  -- ---- all else answers nothing

  both_grant : (first next : List Msg) → MessagesGrant P first → MessagesGrant P next → MessagesGrant P (first ++ next)
  both_grant [] next h others = others
  both_grant (msg ∷ msgs) next h others = (h.0, both_grant msgs next h.1 others)

  installs_grant : (it : Choice) (nodes : List NodeId) → MessagesGrant P (map (install_to it) nodes)
  installs_grant it [] = tt
  installs_grant it (node ∷ nodes) = (tt, installs_grant it nodes)

  closes_grant : (file : FileId) (version : ℕ) (nodes : List NodeId) → MessagesGrant P (map (close_to file version) nodes)
  closes_grant file version [] = tt
  closes_grant file version (node ∷ nodes) = (tt, closes_grant file version nodes)

  asked_again_grant : (c : ChangeState) (o : Option Choice) → MessagesGrant P (asked_again c o)
  asked_again_grant c None = closes_grant c.file c.before.version (to_close c)
  asked_again_grant c (Some it) = installs_grant it (to_install c)

  reminders_grant : (rs : List Running) → MessagesGrant P (all_reminders rs)
  reminders_grant [] = tt
  reminders_grant (r ∷ rs) = both_grant (reminders r) (all_reminders rs) (asked_again_grant r.change r.choice) (reminders_grant rs)

  one_grants : (r : Running) (rs : List Running) (later : Step) (o : Option Choice) → MessagesGrant P later.turned.outs → MessagesGrant P (woken_by r rs later o).turned.outs
  one_grants r rs later None rest = both_grant (reminders r) later.turned.outs (asked_again_grant r.change r.choice) rest
  one_grants r rs later (Some it) rest = at (has_number it)
    where
      at : (t : Bool) → MessagesGrant P (cond t (makes_choice r rs it) (passes r [] later)).turned.outs
      at true = both_grant (map (install_to it) (next_members r.change)) (all_reminders rs) (installs_grant it (next_members r.change)) (reminders_grant rs)
      at false = rest

  woken_grants : (now : ℕ) (rs : List Running) → MessagesGrant P (woken now rs).turned.outs
  woken_grants now [] = tt
  woken_grants now (r ∷ rs) = one_grants r rs (woken now rs) (ripe now r) (woken_grants now rs)

  closed_grants : (now : ℕ) (from : NodeId) (version : ℕ) (head : FileHead) (o : Option Running) → MessagesGrant P (closing_under s.running now from version head o).turned.outs
  closed_grants now from version head None = tt
  closed_grants now from version head (Some r) = tt

  installed_grants : (from : NodeId) (version : ℕ) (o : Option Running) → MessagesGrant P (installation_of s.running from version o).turned.outs
  installed_grants from version None = tt
  installed_grants from version (Some r) = by_choice r.choice
    where
      after_it : Running
      after_it = record { change = (installed_by r.change from version).change; choice = r.choice; listed = r.listed }

      by_choice : (o : Option Choice) → MessagesGrant P (installation_under s.running from version r o).turned.outs
      by_choice None = tt
      by_choice (Some it) = at ((installed_by r.change from version).wins && not r.listed)
        where
          at : (t : Bool) → MessagesGrant P (cond t (listing_step s.running after_it it) (unmoved (with_running s.running after_it))).turned.outs
          at true = tt
          at false = tt

  wanted_grants : (from : NodeId) (o : Option Running) → MessagesGrant P (wanted_of s.running from o).turned.outs
  wanted_grants from None = tt
  wanted_grants from (Some r) = by_choice r.choice
    where
      by_choice : (o : Option Choice) → MessagesGrant P (wanted_under s.running from o).turned.outs
      by_choice None = tt
      by_choice (Some it) = at (has_node it.location.members from.0)
        where
          at : (t : Bool) → MessagesGrant P (cond t (install_to it from ∷ []) [])
          at true = (tt, tt)
          at false = tt

  rows_grant : (from : NodeId) (rows : List RegistryRow) → GrantsStay P s (beside s.running (plain.rows_heard s.mrc from rows))
  rows_grant from rows = go (plain.is_dir from)
    where
      go : (dir : Bool) → GrantsStay P s (beside s.running (cond dir (plain.nothing (record s.mrc { osds = plain.nodes_of rows })) (plain.nothing s.mrc)))
      go true = rests (beside s.running (plain.nothing (record s.mrc { osds = plain.nodes_of rows }))) refl tt
      go false = rests (beside s.running (plain.nothing s.mrc)) refl tt

  answer_grants : (from : NodeId) (number : ℕ) (what : RegistryAnswer) → GrantsStay P s (beside s.running (plain.told_by key s.mrc from (payload.RegistryReply number what)))
  answer_grants from number (told.Rows rows) = rows_grant from rows
  answer_grants from number _ = rests (beside s.running (plain.nothing s.mrc)) refl tt

  told_grants : (from : NodeId) (content : Payload) → IsOfLists P s.running (told_by key times s from content).server.mrc.catalogue.made → GrantsStay P s (told_by key times s from content)
  told_grants from (payload.Meta number user group request) lists =
      stands_grant from number (record { user = user; group = group }) request (standing_of s.mrc.catalogue.clients from number)
      (standing_grants P s.mrc.catalogue.clients from number holds.answers)
      lists
  told_grants from (payload.Closed file version head) lists =
      rests (told_by key times s from (payload.Closed file version head)) refl (closed_grants s.mrc.last from version head (running_of s.running file))
  told_grants from (payload.Installed file version) lists =
      rests (told_by key times s from (payload.Installed file version)) refl (installed_grants from version (running_of s.running file))
  told_grants from (payload.Wanted file) lists = rests (told_by key times s from (payload.Wanted file)) refl (wanted_grants from (running_of s.running file))
  told_grants from (payload.RegistryReply number what) lists = answer_grants from number what
  told_grants from _ lists = rests (beside s.running (plain.nothing s.mrc)) refl tt

  handled_grants : (happens : Event) → IsOfLists P s.running (handled key times s happens).server.mrc.catalogue.made → GrantsStay P s (handled key times s happens)
  handled_grants (event.Deliver msg) lists = told_grants msg.from msg.payload lists
  handled_grants event.Wake lists = rests (handled key times s event.Wake) refl (tt, woken_grants s.mrc.last s.running)
  handled_grants (event.Call call) lists = rests (beside s.running (plain.nothing s.mrc)) refl tt

pub step_grants : (P : FileId → Location → Type 0) (key : List ℕ) (times : TimeSettings) (s : ChangingMrc) (reading : ℕ) (happens : Event) → GrantsHold P s.mrc.catalogue
    → IsOfLists P s.running (step_with_changes key times s reading happens).server.mrc.catalogue.made
    → GrantsStay P s (step_with_changes key times s reading happens)
unfolding step_with_changes
step_grants P key times s reading happens holds lists =
    let stays = handled_grants P key times (at_reading reading s) holds happens lists in
    record { holds = stays.holds; sends = stays.sends; made = stays.made }

-- without clients and files
pub none_granted : (P : FileId → Location → Type 0) → GrantsHold P plain.empty_catalogue
none_granted P = record { files = record { rises = omega arith; rows = tt; answers = tt }; answers = tt }
