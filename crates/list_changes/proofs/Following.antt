-- where the changes after a step come from, and what it keeps and sends
use Rattle.std.proofs.Common.{◌≡◌, ℕ, ◌+◌, ◌<◌, inl, inr, List, [], ◌∷◌, length, refl, ap, sym, ◌∙◌, subst, arith, Option, Some, None, Bool, true, false, cond}
use Rattle.std.specs.Prelude.{◌^◌, max, not, nat_le, ◌&&◌, Result, Ok, Err, if◌then◌else◌}
use Rattle.std.specs.Option.{option_map}
use Rattle.std.proofs.lemmas.Bool.Decides.{nat_tests}
use Rattle.xt_base.specs.TimeSettings.{TimeSettings}
use Rattle.xt_base.specs.declared.ids.NodeId.{NodeId}
use Rattle.xt_base.specs.declared.ids.FileId.{FileId}
use Rattle.xt_messages.specs.declared.file.FileHead.{FileHead}
use Rattle.xt_messages.specs.declared.meta.MetaReq.{MetaReq}
use Rattle.xt_messages.specs.declared.meta.MetaReq.TheVariants as ask
use Rattle.xt_messages.specs.declared.meta.MetaRefusal.{MetaRefusal}
use Rattle.xt_messages.specs.declared.meta.MetaAnswer.{MetaAnswer}
use Rattle.xt_messages.specs.declared.message.Payload.{Payload}
use Rattle.xt_messages.specs.declared.message.Payload.TheVariants as payload
use Rattle.xt_messages.specs.declared.message.Msg.{Msg}
use Rattle.xt_messages.specs.declared.event.Event.{Event}
use Rattle.xt_messages.specs.declared.event.Event.TheVariants as event
use Rattle.lease_safety.specs.State.{Has}
use Rattle.reply_cache.specs.declared.Standing.{Standing}
use Rattle.reply_cache.specs.declared.Standing.TheVariants as standing
use Rattle.reply_cache.specs.Standings.{standing_of}
use Rattle.volume_rows.specs.declared.Asker.{Asker}
use Rattle.xt_messages.specs.declared.file.Location.{Location}
use Rattle.volume_rows.specs.declared.Stored.{Stored}
use Rattle.volume_rows.specs.Paths.{Path, path_in}
use Rattle.volume_rows.specs.Rows.{Volumes, entry_at}
use Rattle.volume_rows.specs.Rights as rights
use Rattle.volume_rows.specs.Requests.{has_names}
use Rattle.volume_rows.specs.Grants.{file_id, file_at, stored_in}
use Rattle.server_rows.specs.Requests.{nodes_in, is_done}
use Rattle.server_rows.specs.Metadata as plain
use Rattle.change_rows.specs.declared.Choice.{Choice}
use Rattle.change_rows.specs.Changes.{ChangeState, new_change, awaits_closing, with_report, closed_by, installed_by, choice_of, best_in, choice_at, has_waited, majority_of}
use Rattle.change_rows.specs.Coordinating.{Running, Step, file_of, running_of, version_to_come, with_running, woken, unmoved, lists, counts_closing, closing_under, closing_comes, installation_under, installation_of, installation_comes, wanted_under, wanted_of, wanted_comes}
use Rattle.change_rows.specs.Laws.{WakeKeeps, nothing as no_choice, one as one_choice}
use Rattle.change_rows.proofs.Wakes.{wakes_once}
use Rattle.list_changes.specs.Lists.{Beginning, location_in, at_rest, unchanging, all_known, replicated, change_refusal, beginning_of, begins_unless, beginning_at, beginning, versions, is_last_version}
use Rattle.list_changes.specs.Requests.{nodes_with, outcome_with, beginning_on, is_recorded_with, is_spent_with, begun_by, ended_by, running_after}
use Rattle.list_changes.specs.Steps.{ChangingMrc, beside, recorded_on, fresh_on, by_standing, told_by, handled, at_reading, step_with_changes}
use Rattle.list_changes.specs.Laws.{IsChoiceOf, Says, Follows, stays, begins, counts, chooses, installs, AllFollow, HasWaited}
use Rattle.list_changes.proofs.Order.{has_put, has_left, has_replaced, has_middle, found}

-- ---- what a choice has waited for

module _ (c : ChangeState) (now : ℕ) (it : Choice) where
  waited_since : (since : Option ℕ) → c.since ≡ since → has_waited c.times since now ≡ true → nat_le (majority_of (length c.before.members)) (length c.reports) ≡ true
      → (o : Option (NodeId × FileHead)) → best_in c.reports ≡ o → option_map (choice_of c) o ≡ Some it → HasWaited c now it
  waited_since None is waits many o top made = absurd (cc)
  waited_since (Some moment) is waits many None top made = absurd (cc)
  waited_since (Some moment) is waits enough (Some report) top made =
      record {
        moment = moment;
        since = is;
        over = grind (arith, nat_tests);
        many = grind (arith, nat_tests);
        best = report;
        reported = top;
        is = (let same : choice_of c report ≡ it = cc in sym same);
      }

  waited_by : (over many : Bool) → has_waited c.times c.since now ≡ over → nat_le (majority_of (length c.before.members)) (length c.reports) ≡ many
      → (if over && many then option_map (choice_of c) (best_in c.reports) else None) ≡ Some it → HasWaited c now it
  waited_by true true over many is = waited_since c.since refl over many (best_in c.reports) refl is
  waited_by true false over many is = absurd (cc)
  waited_by false many over is_many is = absurd (cc)

  pub waited : choice_at c now ≡ Some it → HasWaited c now it
  waited is = waited_by (has_waited c.times c.since now) (nat_le (majority_of (length c.before.members)) (length c.reports)) refl refl is

  pub own_choice : choice_at c now ≡ Some it → IsChoiceOf c it
  own_choice is =
      let h = waited is in
      record { file = ap (λ (x : Choice). x.file) h.is; location = ap (λ (x : Choice). x.location) h.is }

-- ---- requests

module _ (times : TimeSettings) (volumes : Volumes) (now : ℕ) (happens : Event) (rs : List Running) where
  all_stay : AllFollow times volumes now happens rs rs
  all_stay r h = stays r h

  left_version : (begun : Beginning) → nat_le versions (begun.old.version + 1) ≡ false → begun.old.version + 1 < 2 ^ 31
  left_version begun is = grind (arith, nat_tests)

  -- the tests of a change that can begin pass: no change of its file runs
  module _ (path : Path) (next : List NodeId) (begun : Beginning) where
    abbrev BeginsAt : Type 0
    BeginsAt = (version_to_come rs begun.file ≡ None) × (made : Location) × (begun.old ≡ location_in rs begun.file made)

    at_rest_none : (o : Option ℕ) → at_rest o ≡ None → o ≡ None
    at_rest_none None h = refl
    at_rest_none (Some version) h = absurd (cc)

    of_stored : (o : Option Stored) → beginning_of rs path next o ≡ Ok begun → unchanging rs path o ≡ None → BeginsAt
    of_stored None is quiet = absurd (cc)
    of_stored (Some stored) is quiet =
        let made : Beginning = record { file = file_id path stored; old = location_in rs (file_id path stored) stored.location; next = next } in
        let same : made ≡ begun = cc in
        let rests : version_to_come rs made.file ≡ None = at_rest_none (version_to_come rs (file_id path stored)) quiet in
        (ap (λ (b : Beginning). version_to_come rs b.file) (sym same) ∙ rests, stored.location, subst (λ (b : Beginning). b.old ≡ location_in rs b.file stored.location) same refl)

    -- the last two of the tests
    passes_six : (a b c d e f g : Option MetaRefusal) → rights.first_of (a ∷ b ∷ c ∷ d ∷ e ∷ f ∷ g ∷ []) ≡ None → f ≡ None
    passes_six None None None None None None g h = refl
    passes_six None None None None None (Some why) g h = absurd (cc)
    passes_six None None None None (Some why) f g h = absurd (cc)
    passes_six None None None (Some why) e f g h = absurd (cc)
    passes_six None None (Some why) d e f g h = absurd (cc)
    passes_six None (Some why) c d e f g h = absurd (cc)
    passes_six (Some why) b c d e f g h = absurd (cc)

    at_path : (who : Asker) (known : List NodeId) → beginning_at volumes rs who known next path ≡ Ok begun → BeginsAt
    at_path who known is = by (change_refusal volumes rs who known next path) refl is
      where
        by : (o : Option MetaRefusal) → change_refusal volumes rs who known next path ≡ o
            → begins_unless o (beginning_of rs path next (stored_in (entry_at volumes.rows path))) ≡ Ok begun → BeginsAt
        by (Some why) refused is = absurd (cc)
        by None passed is =
            of_stored (stored_in (entry_at volumes.rows path)) is
            (passes_six (rights.ancestors who volumes.rows path) (rights.there (entry_at volumes.rows path)) (rights.file (entry_at volumes.rows path))
            (rights.owned who (entry_at volumes.rows path))
            (replicated (stored_in (entry_at volumes.rows path)))
            (unchanging rs path (stored_in (entry_at volumes.rows path)))
            (all_known known next)
            passed)

  pub begins_at : (who : Asker) (known next : List NodeId) (path : Option Path) (begun : Beginning) → beginning volumes rs who known next path ≡ Ok begun
      → (version_to_come rs begun.file ≡ None) × (made : Location) × (begun.old ≡ location_in rs begun.file made)
  begins_at who known next None begun is = absurd (cc)
  begins_at who known next (Some path) begun is = at_path path next begun who known is

  begun_follow : (who : Asker) (nodes : Option (List NodeId)) (path : List ℕ) (next : List NodeId) (b : Result Beginning MetaRefusal)
      → beginning_on volumes rs who nodes path next ≡ b → is_last_version b ≡ false → AllFollow times volumes now happens rs (begun_by times rs b)
  begun_follow who nodes path next (Err why) asked left r h = stays r h
  begun_follow who nodes path next (Ok begun) asked left r h =
      let new : Running = record { change = new_change times begun.file begun.old begun.next; choice = None; listed = false } in
      let at = begins_at who (nodes_in nodes) next (has_names 1 (path_in path)) begun asked in
      elim (has_put rs new r h) [
        | inl e ↦ subst (Follows times volumes now happens rs) (sym e)
            (begins begun
            (record {
              who = who;
              nodes = nodes;
              path = path;
              next = next;
              asked = asked;
              rests = at.0;
              made = at.1;
              place = at.2;
              left = left_version begun left;
            }))
        | inr i ↦ stays r i
      ]

  ended_follow : (file : Option FileId) (done : Bool) → AllFollow times volumes now happens rs (cond done (ended_by rs file) rs)
  ended_follow None true r h = stays r h
  ended_follow (Some file) true r h = stays r (has_left rs file r h)
  ended_follow file false r h = stays r h

  after_follow : (who : Asker) (nodes : Option (List NodeId)) (request : MetaReq) (told : MetaAnswer) → is_spent_with volumes rs who nodes request ≡ false
      → AllFollow times volumes now happens rs (running_after times volumes rs who nodes request told)
  after_follow who nodes (ask.Change path next) told left = begun_follow who nodes path next (beginning_on volumes rs who nodes path next) refl left
  after_follow who nodes (ask.Unlink path) told left = ended_follow (file_at volumes (path_in path)) (is_done told)
  after_follow who nodes _ told left = all_stay

module _ (key : List ℕ) (times : TimeSettings) (s : ChangingMrc) (happens : Event) where
  abbrev FollowsAll : List Running → Type 0
  FollowsAll after = AllFollow times s.mrc.catalogue.volumes s.mrc.last happens s.running after

  fresh_follow : (client : NodeId) (number : ℕ) (nodes : Option (List NodeId)) (who : Asker) (wanted : MetaReq)
      → FollowsAll (fresh_on key times s client number nodes who wanted).server.running
  fresh_follow client number nodes who wanted = go (is_spent_with vs s.running who nodes wanted) (is_recorded_with key vs s.mrc.last wanted) refl
    where
      vs : Volumes
      vs = s.mrc.catalogue.volumes

      go : (spent records : Bool) → is_spent_with s.mrc.catalogue.volumes s.running who nodes wanted ≡ spent
          → FollowsAll (cond spent (beside s.running (plain.nothing s.mrc)) (cond records (recorded_on key times s client number nodes who wanted)
          (beside s.running (plain.answered s.mrc client number (outcome_with key s.mrc.catalogue.volumes s.running who s.mrc.last None wanted).answer)))).server.running
      go true records left = all_stay times s.mrc.catalogue.volumes s.mrc.last happens s.running
      go false true left =
          after_follow times s.mrc.catalogue.volumes s.mrc.last happens s.running who nodes wanted
          (outcome_with key s.mrc.catalogue.volumes s.running who s.mrc.last nodes wanted).answer left
      go false false left = all_stay times s.mrc.catalogue.volumes s.mrc.last happens s.running

  stands_follow : (client : NodeId) (number : ℕ) (who : Asker) (wanted : MetaReq) (stands : Standing MetaAnswer)
      → FollowsAll (by_standing key times s client number who wanted stands).server.running
  stands_follow client number who wanted standing.Fresh = fresh_follow client number (nodes_with s.mrc.osds s.mrc.catalogue.volumes.next wanted) who wanted
  stands_follow client number who wanted (standing.Again answer) = all_stay times s.mrc.catalogue.volumes s.mrc.last happens s.running
  stands_follow client number who wanted standing.Older = all_stay times s.mrc.catalogue.volumes s.mrc.last happens s.running

  -- ---- what members answer

  its_own : (file : FileId) (r : Running) → running_of s.running file ≡ Some r → Has r s.running × (file_of r ≡ file)
  its_own file r is =
      let at = found s.running file r is in (subst (λ (rs : List Running). Has r rs) (sym at.split) (has_middle at.earlier at.later r), at.same)

  put_follow : (new : Running) → Follows times s.mrc.catalogue.volumes s.mrc.last happens s.running new → FollowsAll (with_running s.running new)
  put_follow new from r h =
      elim (has_put s.running new r h) [
        | inl e ↦ subst (Follows times s.mrc.catalogue.volumes s.mrc.last happens s.running) (sym e) from
        | inr i ↦ stays r i
      ]

  closed_follow : (from : NodeId) (file : FileId) (version : ℕ) (head : FileHead) → Says happens from (payload.Closed file version head)
      → FollowsAll (closing_comes s.running s.mrc.last from file version head).running
  closed_follow from file version head says = under (running_of s.running file) refl
    where
      counted : (r : Running) → running_of s.running file ≡ Some r → (o : Option Choice) → r.choice ≡ o
          → Follows times s.mrc.catalogue.volumes s.mrc.last happens s.running (counts_closing r s.mrc.last from version head o)
      counted r is (Some it) has = stays r (its_own file r is).0
      counted r is None has = at (awaits_closing r.change from version) refl
        where
          own : Has r s.running × (file_of r ≡ file)
          own = its_own file r is

          at : (t : Bool) → awaits_closing r.change from version ≡ t
              → Follows times s.mrc.catalogue.volumes s.mrc.last happens s.running (counts_closing r s.mrc.last from version head None)
          at true awaited =
              counts r from version head own.0 has (subst (λ (f : FileId). Says happens from (payload.Closed f version head)) (sym own.1) says) awaited
          at false ignored =
              subst (λ (c : ChangeState). Follows times s.mrc.catalogue.volumes s.mrc.last happens s.running (record { change = c; choice = r.choice; listed = r.listed }))
              (sym (unmoved_change ignored)) (stays r own.0)
            where
              unmoved_change : awaits_closing r.change from version ≡ false → closed_by r.change s.mrc.last from version head ≡ r.change
              unmoved_change is = ap (λ (t : Bool). if t then with_report r.change s.mrc.last from head else r.change) is

      under : (o : Option Running) → running_of s.running file ≡ o → FollowsAll (closing_under s.running s.mrc.last from version head o).running
      under None is = all_stay times s.mrc.catalogue.volumes s.mrc.last happens s.running
      under (Some r) is = put_follow (counts_closing r s.mrc.last from version head r.choice) (counted r is r.choice refl)

  installed_follow : (from : NodeId) (file : FileId) (version : ℕ) → Says happens from (payload.Installed file version)
      → FollowsAll (installation_comes s.running from file version).running
  installed_follow from file version says = under (running_of s.running file) refl
    where
      by_choice : (r : Running) → running_of s.running file ≡ Some r → (o : Option Choice) → r.choice ≡ o
          → FollowsAll (installation_under s.running from version r o).running
      by_choice r is None has = all_stay times s.mrc.catalogue.volumes s.mrc.last happens s.running
      by_choice r is (Some it) has = at ((installed_by r.change from version).wins && not r.listed)
        where
          own : Has r s.running × (file_of r ≡ file)
          own = its_own file r is

          after : Running
          after = record { change = (installed_by r.change from version).change; choice = r.choice; listed = r.listed }

          follows : (ended : Bool) → Follows times s.mrc.catalogue.volumes s.mrc.last happens s.running (record after { listed = ended })
          follows ended = installs r it from version ended own.0 has (subst (λ (f : FileId). Says happens from (payload.Installed f version)) (sym own.1) says)

          at : (t : Bool) → FollowsAll (cond t (lists s.running after it) (unmoved (with_running s.running after))).running
          at true = put_follow (record after { listed = true }) (follows true)
          at false = put_follow after (follows r.listed)

      under : (o : Option Running) → running_of s.running file ≡ o → FollowsAll (installation_of s.running from version o).running
      under None is = all_stay times s.mrc.catalogue.volumes s.mrc.last happens s.running
      under (Some r) is = by_choice r is r.choice refl

  wanted_follow : (from : NodeId) (file : FileId) → FollowsAll (wanted_comes s.running from file).running
  wanted_follow from file = under (running_of s.running file)
    where
      by_choice : (o : Option Choice) → FollowsAll (wanted_under s.running from o).running
      by_choice None = all_stay times s.mrc.catalogue.volumes s.mrc.last happens s.running
      by_choice (Some it) = all_stay times s.mrc.catalogue.volumes s.mrc.last happens s.running

      under : (o : Option Running) → FollowsAll (wanted_of s.running from o).running
      under None = all_stay times s.mrc.catalogue.volumes s.mrc.last happens s.running
      under (Some r) = by_choice r.choice

  -- ---- a Wake

  woken_follow : happens ≡ event.Wake → (step : Step) → WakeKeeps s.mrc.last s.running step → FollowsAll step.running
  woken_follow is step (no_choice _ none same) r h = stays r (subst (λ (rs : List Running). Has r rs) same h)
  woken_follow is step (one_choice _ it kept h) r has =
      let new : Running = record { change = h.file.change; choice = Some it; listed = h.file.listed } in
      elim (has_replaced h.earlier h.later h.file new r (subst (λ (rs : List Running). Has r rs) h.is has)) [
        | inl e ↦ subst (Follows times s.mrc.catalogue.volumes s.mrc.last happens s.running) (sym e)
            (chooses h.file it (subst (λ (rs : List Running). Has h.file rs) (sym h.was) (has_middle h.earlier h.later h.file)) h.free is h.ready h.numbered)
        | inr i ↦ stays r (subst (λ (rs : List Running). Has r rs) (sym h.was) i)
      ]

told_follow : (key : List ℕ) (times : TimeSettings) (s : ChangingMrc) (msg : Msg) (content : Payload) → msg.payload ≡ content
    → AllFollow times s.mrc.catalogue.volumes s.mrc.last (event.Deliver msg) s.running (told_by key times s msg.from content).server.running
told_follow key times s msg (payload.Meta number user group wanted) is =
    stands_follow key times s (event.Deliver msg) msg.from number (record { user = user; group = group }) wanted (standing_of s.mrc.catalogue.clients msg.from number)
told_follow key times s msg (payload.Closed file version head) is = closed_follow key times s (event.Deliver msg) msg.from file version head (refl, is)
told_follow key times s msg (payload.Installed file version) is = installed_follow key times s (event.Deliver msg) msg.from file version (refl, is)
told_follow key times s msg (payload.Wanted file) is = wanted_follow key times s (event.Deliver msg) msg.from file
told_follow key times s msg _ is = all_stay times s.mrc.catalogue.volumes s.mrc.last (event.Deliver msg) s.running

handled_follow : (key : List ℕ) (times : TimeSettings) (s : ChangingMrc) (happens : Event)
    → AllFollow times s.mrc.catalogue.volumes s.mrc.last happens s.running (handled key times s happens).server.running
handled_follow key times s (event.Deliver msg) = told_follow key times s msg msg.payload refl
handled_follow key times s event.Wake = woken_follow key times s event.Wake refl (woken s.mrc.last s.running) (wakes_once s.mrc.last s.running)
handled_follow key times s (event.Call call) = all_stay times s.mrc.catalogue.volumes s.mrc.last (event.Call call) s.running

pub step_follows : (key : List ℕ) (times : TimeSettings) (s : ChangingMrc) (reading : ℕ) (happens : Event)
    → AllFollow times s.mrc.catalogue.volumes (max reading s.mrc.last) happens s.running (step_with_changes key times s reading happens).server.running
unfolding step_with_changes
step_follows key times s reading happens = handled_follow key times (at_reading reading s) happens
