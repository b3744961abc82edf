-- what members' answers and the records do to the change of a file, and so to those of a server
use Rattle.std.proofs.Common.{◌≡◌, ℕ, Bool, true, false, cond, List, [], map, set, Option, Some, None, refl, ap, sym, ◌∙◌}
use Rattle.std.specs.Prelude.{◌&&◌, not, IfOk, OnErr, OnOk, Result, Ok, Err}
use Rattle.xt_base.specs.declared.ids.NodeId.{NodeId}
use Rattle.xt_base.specs.declared.ids.FileId.{FileId}
use Rattle.xt_messages.specs.declared.file.FileHead.{FileHead}
use Rattle.xt_protocol.specs.declared.turned.Turned.{Turned}
use Rattle.xt_protocol.specs.Turns.{quiet}
use Rattle.change_rows.specs.declared.Choice.{Choice}
use Rattle.change_rows.specs.Changes.{ChangeState, awaits_closing, with_report, closed_by, Installed, awaits_installation, installed_by, with_installation, with_seats}
use Rattle.change_rows.specs.Coordinating.{Running, Step, file_of, running_of, with_running, counts_closing, closing_under, closing_comes, installation_under, installation_of, installation_comes, wanted_under, wanted_of, wanted_comes, with_choice, with_listed, after_choice, after_listing, on_running}
use Rattle.list_coordinator.specs.Carrying.{FileStep, installs, lists}
use Rattle.list_coordinator.proofs.OneFile.{same_step}
use Rattle.list_coordinator.proofs.Places.{Changed}

-- ---- the file stays

closed_file : (c : ChangeState) (now : ℕ) (from : NodeId) (version : ℕ) (head : FileHead) → (closed_by c now from version head).file ≡ c.file
closed_file c now from version head = at (awaits_closing c from version)
  where
    at : (t : Bool) → (let after : ChangeState = cond t (with_report c now from head) c in after.file ≡ c.file)
    at true = refl
    at false = refl

counts_file : (r : Running) (now : ℕ) (from : NodeId) (version : ℕ) (head : FileHead) (choice : Option Choice) → file_of (counts_closing r now from version head choice) ≡ file_of r
counts_file r now from version head None = closed_file r.change now from version head
counts_file r now from version head (Some choice) = refl

pub closing_file : (r new : Running) (now : ℕ) (from : NodeId) (version : ℕ) (head : FileHead) → new ≡ counts_closing r now from version head r.choice → file_of new ≡ file_of r
closing_file r new now from version head is = ap (λ (x : Running). x.change.file) is ∙ counts_file r now from version head r.choice

installed_file : (c : ChangeState) (from : NodeId) (version : ℕ) → (installed_by c from version).change.file ≡ c.file
installed_file c from version = at (awaits_installation c from version)
  where
    at : (t : Bool) → (let made : Installed = cond t (with_seats c (map (with_installation from) c.seats)) (record { change = c; wins = false }) in made.change.file ≡ c.file)
    at true = refl
    at false = refl

installs_file : (r : Running) (from : NodeId) (version : ℕ) (choice : Option Choice) → file_of (installs r from version choice).running ≡ file_of r
installs_file r from version None = refl
installs_file r from version (Some choice) = at ((installed_by r.change from version).wins && not r.listed) ∙ installed_file r.change from version
  where
    after : Running
    after = record { change = (installed_by r.change from version).change; choice = r.choice; listed = r.listed }

    at : (t : Bool) → (let step : FileStep = cond t (lists after choice) (record { running = after; turned = quiet }) in file_of step.running ≡ (installed_by r.change from version).change.file)
    at true = refl
    at false = refl

pub installation_file : (r new : Running) (turned : Turned) (from : NodeId) (version : ℕ) → installs r from version r.choice ≡ record { running = new; turned = turned } → file_of new ≡ file_of r
installation_file r new turned from version is = sym (ap (λ (s : FileStep). s.running.change.file) is) ∙ installs_file r from version r.choice

-- ---- where memory may run out

pub closing_stays : {A E : Type 0} (result : Result A E) (r new : Running) (now : ℕ) (from : NodeId) (version : ℕ) (head : FileHead) → OnOk result (new ≡ counts_closing r now from version head r.choice)
    → OnErr result (new ≡ r) → file_of new ≡ file_of r
closing_stays (Ok a) r new now from version head counts stays = closing_file r new now from version head counts
closing_stays (Err e) r new now from version head counts stays = ap (λ (x : Running). x.change.file) stays

pub installation_stays : {E : Type 0} (result : Result Turned E) (r new : Running) (from : NodeId) (version : ℕ)
    → IfOk result (λ turned. installs r from version r.choice ≡ record { running = new; turned = turned }) → OnErr result (new ≡ r) → file_of new ≡ file_of r
installation_stays (Ok turned) r new from version counts stays = installation_file r new turned from version counts
installation_stays (Err e) r new from version counts stays = ap (λ (x : Running). x.change.file) stays

-- ---- the table

pub closing_counted : (rs : List Running) (file : FileId) (i : ℕ) (old new : Running) (now : ℕ) (from : NodeId) (version : ℕ) (head : FileHead) → Changed rs file i old new
    → new ≡ counts_closing old now from version head old.choice → set rs i new ≡ (closing_comes rs now from file version head).running
closing_counted rs file i old new now from version head it is =
    sym (ap (λ (o : Option Running). (closing_under rs now from version head o).running) it.read ∙ ap (with_running rs) (sym is) ∙ it.put)

pub closing_counted_if : {A E : Type 0} (result : Result A E) (rs : List Running) (file : FileId) (i : ℕ) (old new : Running) (now : ℕ) (from : NodeId) (version : ℕ) (head : FileHead)
    → Changed rs file i old new → OnOk result (new ≡ counts_closing old now from version head old.choice) → OnOk result (set rs i new ≡ (closing_comes rs now from file version head).running)
closing_counted_if (Ok a) rs file i old new now from version head it is = closing_counted rs file i old new now from version head it is
closing_counted_if (Err e) rs file i old new now from version head it is = tt

pub none_closes : (rs : List Running) (file : FileId) (now : ℕ) (from : NodeId) (version : ℕ) (head : FileHead) → running_of rs file ≡ None
    → rs ≡ (closing_comes rs now from file version head).running
none_closes rs file now from version head none = sym (ap (λ (o : Option Running). (closing_under rs now from version head o).running) none)

-- the step of one file is that of all, with its change in its place
in_place : (rs : List Running) (r : Running) (from : NodeId) (version : ℕ) (choice : Option Choice) → with_running rs r ≡ rs
    → (let step = installs r from version choice in installation_under rs from version r choice ≡ record { running = with_running rs step.running; turned = step.turned })
in_place rs r from version None same = ap (λ (xs : List Running). let step : Step = record { running = xs; turned = quiet } in step) (sym same)
in_place rs r from version (Some choice) same = same_step rs r from version choice

pub installation_counted : (rs : List Running) (file : FileId) (i : ℕ) (old new : Running) (turned : Turned) (from : NodeId) (version : ℕ) → Changed rs file i old new
    → installs old from version old.choice ≡ record { running = new; turned = turned } → installation_comes rs from file version ≡ record { running = set rs i new; turned = turned }
installation_counted rs file i old new turned from version it is =
    ap (installation_of rs from version) it.read
    ∙ in_place rs old from version old.choice it.same
    ∙ ap (λ (s : FileStep). let step : Step = record { running = with_running rs s.running; turned = s.turned } in step) is
    ∙ ap (λ (xs : List Running). let step : Step = record { running = xs; turned = turned } in step) it.put

pub installation_counted_if : {E : Type 0} (result : Result Turned E) (rs : List Running) (file : FileId) (i : ℕ) (old new : Running) (from : NodeId) (version : ℕ) → Changed rs file i old new
    → IfOk result (λ turned. installs old from version old.choice ≡ record { running = new; turned = turned })
    → IfOk result (λ turned. installation_comes rs from file version ≡ record { running = set rs i new; turned = turned })
installation_counted_if (Ok turned) rs file i old new from version it is = installation_counted rs file i old new turned from version it is
installation_counted_if (Err e) rs file i old new from version it is = tt

pub none_installs : (rs : List Running) (file : FileId) (from : NodeId) (version : ℕ) → running_of rs file ≡ None
    → (let nothing : Step = record { running = rs; turned = quiet } in installation_comes rs from file version ≡ nothing)
none_installs rs file from version none = ap (installation_of rs from version) none

pub some_wants : (rs : List Running) (file : FileId) (r : Running) (from : NodeId) → running_of rs file ≡ Some r → (wanted_of [] from (Some r)).turned ≡ (wanted_comes rs from file).turned
some_wants rs file r from found = by r.choice ∙ sym (ap (λ (o : Option Running). (wanted_of rs from o).turned) found)
  where
    by : (choice : Option Choice) → (wanted_under [] from choice).turned ≡ (wanted_under rs from choice).turned
    by None = refl
    by (Some choice) = refl

pub none_wants : (rs : List Running) (file : FileId) (from : NodeId) → running_of rs file ≡ None → quiet ≡ (wanted_comes rs from file).turned
none_wants rs file from none = sym (ap (λ (o : Option Running). (wanted_of rs from o).turned) none)

-- ---- what records say

pub choice_taken : (rs : List Running) (i : ℕ) (old new : Running) (choice : Choice) → Changed rs choice.file i old new → new ≡ with_choice choice old → set rs i new ≡ after_choice rs choice
choice_taken rs i old new choice it is =
    sym (ap (on_running (with_choice choice) rs) it.read ∙ ap (with_running rs) (sym is) ∙ it.put)

pub choice_passed : (rs : List Running) (choice : Choice) → running_of rs choice.file ≡ None → rs ≡ after_choice rs choice
choice_passed rs choice none = sym (ap (on_running (with_choice choice) rs) none)

pub listing_taken : (rs : List Running) (file : FileId) (i : ℕ) (old new : Running) → Changed rs file i old new → new ≡ with_listed old → set rs i new ≡ after_listing rs file
listing_taken rs file i old new it is =
    sym (ap (on_running with_listed rs) it.read ∙ ap (with_running rs) (sym is) ∙ it.put)

pub listing_passed : (rs : List Running) (file : FileId) → running_of rs file ≡ None → rs ≡ after_listing rs file
listing_passed rs file none = sym (ap (on_running with_listed rs) none)
