-- what is counted of a change plays no part in what its records say
use Rattle.std.proofs.Common.{◌≡◌, ℕ, List, [], ◌∷◌, ◌++◌, map, refl, ap, sym, ◌∙◌, Option, Some, None, Bool, true, false}
use Rattle.std.specs.Prelude.{cond, not, if◌then◌else◌, Result, Ok, Err}
use Rattle.std.specs.Option.{option_map, is_some}
use Rattle.xt_base.specs.TimeSettings.{TimeSettings}
use Rattle.xt_base.specs.declared.ids.NodeId.{NodeId}
use Rattle.xt_base.specs.declared.ids.FileId.{FileId}
use Rattle.xt_messages.specs.declared.file.FileHead.{FileHead}
use Rattle.xt_messages.specs.declared.file.Location.{Location}
use Rattle.xt_messages.specs.declared.meta.MetaReq.{MetaReq}
use Rattle.xt_messages.specs.declared.meta.MetaReq.TheVariants as ask
use Rattle.xt_messages.specs.declared.meta.MetaRefusal.{MetaRefusal}
use Rattle.xt_messages.specs.declared.meta.MetaAnswer.{MetaAnswer}
use Rattle.xt_protocol.specs.FileIds.{is_file, is_before}
use Rattle.volume_rows.specs.declared.Asker.{Asker}
use Rattle.volume_rows.specs.declared.Stored.{Stored}
use Rattle.volume_rows.specs.declared.Granting.{Granting}
use Rattle.volume_rows.specs.Paths.{Path, path_in}
use Rattle.volume_rows.specs.Rows.{Volumes, entry_at}
use Rattle.volume_rows.specs.Rights as rights
use Rattle.volume_rows.specs.Requests.{tells, has_names}
use Rattle.volume_rows.specs.Grants.{file_id, file_at, stored_in}
use Rattle.server_rows.specs.Requests.{nodes_in, grant_at, grant_settled, settled, is_done}
use Rattle.change_rows.specs.declared.Choice.{Choice}
use Rattle.change_rows.specs.Changes.{ChangeState, Installed, new_change, with_installation, awaits_installation, awaits_closing, with_report, with_seats, installed_by}
use Rattle.change_rows.specs.Coordinating.{Running, file_of, running_of, with_running, without_file, version_of, version_to_come, on_running, with_choice, with_listed, after_choice, after_listing, counts_closing}
use Rattle.change_rows.proofs.Seats.{empty_seats, same_members}
use Rattle.list_changes.specs.Lists.{Beginning, in_force, placed_by, location_in, with_list, located_as, located, at_rest, unchanging, all_known, replicated, change_refusal, beginning_of, begins_unless, beginning, beginning_answer, is_last_version}
use Rattle.list_changes.specs.Requests.{beginning_on, outcome_with, is_spent_with, begun_by, ended_by, running_after}
use Rattle.list_changes.specs.Recorded.{uncounted}

-- ---- one change

-- two changes that are told alike
abbrev pub Alike : Running → Running → Type 0
Alike a b = uncounted a ≡ uncounted b

-- a change begins with nothing counted
pub begun_uncounted : (times : TimeSettings) (file : FileId) (old : Location) (next : List NodeId) →
    let r : Running = record { change = new_change times file old next; choice = None; listed = false } in uncounted r ≡ r
begun_uncounted times file old next =
    ap (λ (nodes : List NodeId). (let r : Running = record { change = new_change times file old nodes; choice = None; listed = false } in r)) (empty_seats next)

-- an installation that is counted, or isn't
pub installed_alike : (c : ChangeState) (choice : Option Choice) (listed : Bool) (from : NodeId) (version : ℕ)
    → Alike (record { change = (installed_by c from version).change; choice = choice; listed = listed }) (record { change = c; choice = choice; listed = listed })
installed_alike c choice listed from version = at (awaits_installation c from version)
  where
    at : (t : Bool) →
        let made : Installed = if t then with_seats c (map (with_installation from) c.seats) else record { change = c; wins = false } in
        Alike (record { change = made.change; choice = choice; listed = listed }) (record { change = c; choice = choice; listed = listed })
    at true =
        ap (λ (nodes : List NodeId). (let r : Running = record { change = new_change c.times c.file c.before nodes; choice = choice; listed = listed } in r)) (same_members from c.seats)
    at false = refl

-- a closing that is counted, or isn't
pub closed_alike : (r : Running) (now : ℕ) (from : NodeId) (version : ℕ) (head : FileHead) (o : Option Choice) → Alike (counts_closing r now from version head o) r
closed_alike r now from version head (Some choice) = refl
closed_alike r now from version head None = at (awaits_closing r.change from version)
  where
    at : (t : Bool) → Alike (record { change = if t then with_report r.change now from head else r.change; choice = r.choice; listed = r.listed }) r
    at true = refl
    at false = refl

-- ---- the files with a change

abbrev pub untold : List Running → List Running
untold rs = map uncounted rs

pub put_untold : (rs : List Running) (r : Running) → untold (with_running rs r) ≡ with_running (untold rs) (uncounted r)
put_untold [] r = refl
put_untold (f ∷ fs) r = at (is_file (file_of f) (file_of r)) (is_before (file_of r) (file_of f)) (put_untold fs r)
  where
    at : (same before : Bool) → untold (with_running fs r) ≡ with_running (untold fs) (uncounted r)
        → untold (cond same (r ∷ fs) (cond before (r ∷ f ∷ fs) (f ∷ with_running fs r)))
        ≡ cond same (uncounted r ∷ untold fs) (cond before (uncounted r ∷ uncounted f ∷ untold fs) (uncounted f ∷ with_running (untold fs) (uncounted r)))
    at true before rest = refl
    at false true rest = refl
    at false false rest = ap (λ others. uncounted f ∷ others) rest

pub find_untold : (rs : List Running) (file : FileId) → running_of (untold rs) file ≡ option_map uncounted (running_of rs file)
find_untold [] file = refl
find_untold (f ∷ fs) file = at (is_file (file_of f) file) (find_untold fs file)
  where
    at : (t : Bool) → running_of (untold fs) file ≡ option_map uncounted (running_of fs file)
        → cond t (Some (uncounted f)) (running_of (untold fs) file) ≡ option_map uncounted (cond t (Some f) (running_of fs file))
    at true rest = refl
    at false rest = rest

pub left_untold : (rs : List Running) (file : FileId) → untold (without_file rs file) ≡ without_file (untold rs) file
left_untold [] file = refl
left_untold (f ∷ fs) file = at (not (is_file (file_of f) file)) (left_untold fs file)
  where
    at : (t : Bool) → untold (without_file fs file) ≡ without_file (untold fs) file
        → untold (cond t (f ∷ without_file fs file) (without_file fs file)) ≡ cond t (uncounted f ∷ without_file (untold fs) file) (without_file (untold fs) file)
    at true rest = ap (λ others. uncounted f ∷ others) rest
    at false rest = rest

-- one in another's place that is told alike
pub middle_alike : (earlier later : List Running) (old new : Running) → Alike new old → untold (earlier ++ new ∷ later) ≡ untold (earlier ++ old ∷ later)
middle_alike [] later old new alike = ap (λ (r : Running). r ∷ untold later) alike
middle_alike (x ∷ xs) later old new alike = ap (λ others. uncounted x ∷ others) (middle_alike xs later old new alike)

on_untold : (f : Running → Running) → ((r : Running) → f (uncounted r) ≡ uncounted (f r)) → (rs : List Running) (o : Option Running)
    → on_running f (untold rs) (option_map uncounted o) ≡ untold (on_running f rs o)
on_untold f passes rs None = refl
on_untold f passes rs (Some r) = ap (with_running (untold rs)) (passes r) ∙ sym (put_untold rs (f r))

pub choice_untold : (rs : List Running) (choice : Choice) → after_choice (untold rs) choice ≡ untold (after_choice rs choice)
choice_untold rs choice =
    ap (on_running (with_choice choice) (untold rs)) (find_untold rs choice.file) ∙ on_untold (with_choice choice) (λ r. refl) rs (running_of rs choice.file)

pub listing_untold : (rs : List Running) (file : FileId) → after_listing (untold rs) file ≡ untold (after_listing rs file)
listing_untold rs file = ap (on_running with_listed (untold rs)) (find_untold rs file) ∙ on_untold with_listed (λ r. refl) rs (running_of rs file)

-- ---- lists

version_same : (o : Option Running) → version_of (option_map uncounted o) ≡ version_of o
version_same None = refl
version_same (Some r) = refl

pub force_same : (r : Running) (o : Option Choice) → in_force (uncounted r) o ≡ in_force r o
force_same r None = refl
force_same r (Some choice) = refl

place_same : (made : Location) (o : Option Running) → placed_by made (option_map uncounted o) ≡ placed_by made o
place_same made None = refl
place_same made (Some r) = force_same r r.choice

module _ (rs : List Running) where
  version_untold : (file : FileId) → version_to_come (untold rs) file ≡ version_to_come rs file
  version_untold file = ap version_of (find_untold rs file) ∙ version_same (running_of rs file)

  location_untold : (file : FileId) (made : Location) → location_in (untold rs) file made ≡ location_in rs file made
  location_untold file made = ap (placed_by made) (find_untold rs file) ∙ place_same made (running_of rs file)

  list_untold : (granted : Result Granting MetaRefusal) → with_list (untold rs) granted ≡ with_list rs granted
  list_untold (Err why) = refl
  list_untold (Ok grant) = ap (λ (place : Location). Ok (record grant { location = place })) (location_untold grant.file grant.location)

  located_untold : (granted : Result Granting MetaRefusal) → located (untold rs) granted ≡ located rs granted
  located_untold (Err why) = refl
  located_untold (Ok grant) = ap (λ (o : Option ℕ). located_as (is_some o) grant.location.kind grant.location) (version_untold grant.file)

  unchanging_untold : (path : Path) (stored : Option Stored) → unchanging (untold rs) path stored ≡ unchanging rs path stored
  unchanging_untold path None = refl
  unchanging_untold path (Some stored) = ap at_rest (version_untold (file_id path stored))

  begun_untold : (path : Path) (next : List NodeId) (stored : Option Stored) → beginning_of (untold rs) path next stored ≡ beginning_of rs path next stored
  begun_untold path next None = refl
  begun_untold path next (Some stored) =
      ap (λ (old : Location). Ok (let b : Beginning = record { file = file_id path stored; old = old; next = next } in b)) (location_untold (file_id path stored) stored.location)

  refusal_untold : (volumes : Volumes) (who : Asker) (known next : List NodeId) (path : Path)
      → change_refusal volumes (untold rs) who known next path ≡ change_refusal volumes rs who known next path
  refusal_untold volumes who known next path =
      let entry = entry_at volumes.rows path in
      ap
      (λ (test : Option MetaRefusal).
      rights.first_of
      (rights.ancestors who volumes.rows path ∷ rights.there entry ∷ rights.file entry ∷ rights.owned who entry ∷ replicated (stored_in entry) ∷ test
      ∷ all_known known next
      ∷ []))
      (unchanging_untold path (stored_in entry))

  beginning_untold : (volumes : Volumes) (who : Asker) (known next : List NodeId) (path : Option Path)
      → beginning volumes (untold rs) who known next path ≡ beginning volumes rs who known next path
  beginning_untold volumes who known next None = refl
  beginning_untold volumes who known next (Some path) =
      ap (λ (why : Option MetaRefusal). begins_unless why (beginning_of (untold rs) path next (stored_in (entry_at volumes.rows path)))) (refusal_untold volumes who known next path)
      ∙ ap (begins_unless (change_refusal volumes rs who known next path)) (begun_untold path next (stored_in (entry_at volumes.rows path)))

  on_untold_list : (volumes : Volumes) (who : Asker) (nodes : Option (List NodeId)) (path : List ℕ) (next : List NodeId)
      → beginning_on volumes (untold rs) who nodes path next ≡ beginning_on volumes rs who nodes path next
  on_untold_list volumes who nodes path next = beginning_untold volumes who (nodes_in nodes) next (has_names 1 (path_in path))

  -- ---- requests

  pub outcome_untold : (key : List ℕ) (volumes : Volumes) (who : Asker) (now : ℕ) (nodes : Option (List NodeId)) (request : MetaReq)
      → outcome_with key volumes (untold rs) who now nodes request ≡ outcome_with key volumes rs who now nodes request
  outcome_untold key volumes who now nodes (ask.Grant path want) =
      ap (λ (granted : Result Granting MetaRefusal). settled volumes (grant_settled key now want granted)) (list_untold (grant_at volumes who want path))
  outcome_untold key volumes who now nodes (ask.Locate path) =
      ap (λ (granted : Result Granting MetaRefusal). tells volumes (located (untold rs) granted)) (list_untold (grant_at volumes who 1 path))
      ∙ ap (tells volumes) (located_untold (with_list rs (grant_at volumes who 1 path)))
  outcome_untold key volumes who now nodes (ask.Change path next) =
      ap (λ (begun : Result Beginning MetaRefusal). tells volumes (beginning_answer begun)) (on_untold_list volumes who nodes path next)
  outcome_untold key volumes who now nodes _ = refl

  pub spent_untold : (volumes : Volumes) (who : Asker) (nodes : Option (List NodeId)) (request : MetaReq)
      → is_spent_with volumes (untold rs) who nodes request ≡ is_spent_with volumes rs who nodes request
  spent_untold volumes who nodes (ask.Change path next) = ap is_last_version (on_untold_list volumes who nodes path next)
  spent_untold volumes who nodes _ = refl

  begun_by_untold : (times : TimeSettings) (begun : Result Beginning MetaRefusal) → begun_by times (untold rs) begun ≡ untold (begun_by times rs begun)
  begun_by_untold times (Err why) = refl
  begun_by_untold times (Ok begun) =
      let r : Running = record { change = new_change times begun.file begun.old begun.next; choice = None; listed = false } in
      ap (with_running (untold rs)) (sym (begun_uncounted times begun.file begun.old begun.next)) ∙ sym (put_untold rs r)

  ended_by_untold : (file : Option FileId) → ended_by (untold rs) file ≡ untold (ended_by rs file)
  ended_by_untold None = refl
  ended_by_untold (Some file) = sym (left_untold rs file)

  unlinked_untold : (file : Option FileId) (done : Bool) → cond done (ended_by (untold rs) file) (untold rs) ≡ untold (cond done (ended_by rs file) rs)
  unlinked_untold file true = ended_by_untold file
  unlinked_untold file false = refl

  pub after_untold : (times : TimeSettings) (volumes : Volumes) (who : Asker) (nodes : Option (List NodeId)) (request : MetaReq) (told : MetaAnswer)
      → running_after times volumes (untold rs) who nodes request told ≡ untold (running_after times volumes rs who nodes request told)
  after_untold times volumes who nodes (ask.Change path next) told =
      ap (begun_by times (untold rs)) (on_untold_list volumes who nodes path next) ∙ begun_by_untold times (beginning_on volumes rs who nodes path next)
  after_untold times volumes who nodes (ask.Unlink path) told = unlinked_untold (file_at volumes (path_in path)) (is_done told)
  after_untold times volumes who nodes _ told = refl
