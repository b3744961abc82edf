-- a Wake goes to the first file that gets a choice
use Rattle.std.proofs.Common.{◌≡◌, ◌∙◌, ℕ, zero, suc, ◌+◌, ◌<◌, ◌≤◌, Bool, true, false, cond, List, [], ◌∷◌, ◌++◌, length, get_or, take, drop, Option, Some, None, refl, ap, sym, arith, add-one, append-nil, append_assoc, map, set}
use Rattle.std.proofs.Math.Seq.{drop-cons}
use Rattle.std.proofs.lemmas.List.{set_split}
use Rattle.std.specs.Prelude.{IfOk, OnOk, Result, Ok, Err}
use Rattle.std.specs.Option.{option_map}
use Rattle.xt_messages.specs.declared.event.Mark.{Mark}
use Rattle.xt_messages.specs.declared.message.Msg.{Msg}
use Rattle.xt_messages.specs.declared.record.Record.{Record}
use Rattle.xt_protocol.specs.declared.turned.Turned.{Turned}
use Rattle.xt_protocol.specs.Turns.{joined, sends}
use Rattle.change_rows.specs.declared.Choice.{Choice}
use Rattle.change_rows.specs.Changes.{next_members}
use Rattle.change_rows.specs.Coordinating.{Running, Step, all_reminders, chooses, chosen, has_number, install_to, passes, reminders, ripe, with_choice, woken, woken_by}
use Rattle.list_coordinator.specs.declared.changes.Ripe.{Ripe}
use Rattle.list_coordinator.specs.Wakes.{asked_alone, asked_before, asked_here, chosen_at, chosen_of, first_ripe, next_place, ripe_here}

-- ---- a Wake by the first that gets a choice

-- the files from a place on
from_place : (rs : List Running) (place : ℕ) (r : Running) → place < length rs → r ≡ get_or rs place r → drop place rs ≡ r ∷ drop (place + 1) rs
from_place rs place r lt is = drop-cons rs place r lt ∙ ap (λ (x : Running). x ∷ drop (suc place) rs) (sym is) ∙ rw add-one refl

abbrev by_first : List Running → List Msg → Option Ripe → Step
by_first rs asked None = record { running = rs; turned = sends asked }
by_first rs asked (Some first) = chosen_at (take first.place rs) (drop first.place rs) asked first.choice

-- a file that passes stands before what the others give
passed : (r : Running) (own : List Msg) (earlier rest : List Running) (asked : List Msg) (choice : Choice)
    → passes r own (chosen_at earlier rest asked choice) ≡ chosen_at (r ∷ earlier) rest (own ++ asked) choice
passed r own earlier [] asked choice = refl
passed r own earlier (x ∷ later) asked choice =
    let chosen = chooses x later choice in
    let step : List Msg → Step = λ outs. record { running = r ∷ (earlier ++ chosen.running); turned = record { rec = chosen.turned.rec; outs = outs; marks = chosen.turned.marks } } in
    ap step (sym (append_assoc own asked chosen.turned.outs))

passed_by : (r : Running) (own : List Msg) (rs : List Running) (asked : List Msg) (first : Option Ripe)
    → passes r own (by_first rs asked first) ≡ by_first (r ∷ rs) (own ++ asked) (option_map next_place first)
passed_by r own rs asked None = refl
passed_by r own rs asked (Some first) = passed r own (take first.place rs) (drop first.place rs) asked first.choice

woken_so : (now : ℕ) (rs : List Running) → woken now rs ≡ by_first rs (asked_before now rs) (first_ripe now rs)
woken_so now [] = refl
woken_so now (r ∷ rs) = by (woken_so now rs) (ripe now r)
  where
    at : woken now rs ≡ by_first rs (asked_before now rs) (first_ripe now rs) → (choice : Choice) → (numbered : Bool)
        → cond numbered (chooses r rs choice) (passes r [] (woken now rs))
        ≡ by_first (r ∷ rs) (cond numbered [] (asked_before now rs)) (cond numbered (Some (record { place = 0; choice = choice })) (option_map next_place (first_ripe now rs)))
    at later choice true = refl
    at later choice false = ap (passes r []) later ∙ passed_by r [] rs (asked_before now rs) (first_ripe now rs)

    by : woken now rs ≡ by_first rs (asked_before now rs) (first_ripe now rs) → (choice : Option Choice)
        → woken_by r rs (woken now rs) choice
        ≡ by_first (r ∷ rs) (asked_here choice (reminders r) (asked_before now rs)) (ripe_here choice (option_map next_place (first_ripe now rs)))
    by later None = ap (passes r (reminders r)) later ∙ passed_by r (reminders r) rs (asked_before now rs) (first_ripe now rs)
    by later (Some choice) = at later choice (has_number choice)

-- none gets a choice
pub woken_without : (now : ℕ) (rs : List Running) → first_ripe now rs ≡ None → (let step : Step = record { running = rs; turned = sends (asked_before now rs) } in woken now rs ≡ step)
woken_without now rs none = woken_so now rs ∙ ap (by_first rs (asked_before now rs)) none

-- this one does
pub woken_with : (now : ℕ) (rs : List Running) (first : Ripe) → first_ripe now rs ≡ Some first
    → woken now rs ≡ chosen_at (take first.place rs) (drop first.place rs) (asked_before now rs) first.choice
woken_with now rs first is = woken_so now rs ∙ ap (by_first rs (asked_before now rs)) is

-- after messages that are sent before
pub none_woken : (now : ℕ) (rs : List Running) (before outs : List Msg) → None ≡ first_ripe now rs → outs ≡ before ++ asked_before now rs
    → (sends outs ≡ joined (sends before) (woken now rs).turned) × (rs ≡ (woken now rs).running)
none_woken now rs before outs none asked =
    let is = woken_without now rs (sym none) in (
      ap sends asked ∙ sym (ap (λ (s : Step). joined (sends before) s.turned) is),
      sym (ap (λ (s : Step). s.running) is),
    )

chosen_after : (earlier rest : List Running) (before asked : List Msg) (choice : Choice)
    → (chosen_at earlier rest (before ++ asked) choice).turned ≡ joined (sends before) (chosen_at earlier rest asked choice).turned
chosen_after earlier [] before asked choice = refl
chosen_after earlier (r ∷ later) before asked choice =
    let step = chooses r later choice in
    ap (λ (outs : List Msg). let turned : Turned = record step.turned { outs = outs } in turned) (append_assoc before asked step.turned.outs)

chosen_running : (earlier rest : List Running) (first second : List Msg) (choice : Choice) → (chosen_at earlier rest first choice).running ≡ (chosen_at earlier rest second choice).running
chosen_running earlier [] first second choice = refl
chosen_running earlier (r ∷ later) first second choice = refl

pub some_woken : (now : ℕ) (rs after : List Running) (before outs : List Msg) (first : Ripe) (turned : Turned) → Some first ≡ first_ripe now rs → outs ≡ before ++ asked_before now rs
    → chosen_at (take first.place rs) (drop first.place rs) outs first.choice ≡ record { running = after; turned = turned }
    → (turned ≡ joined (sends before) (woken now rs).turned) × (after ≡ (woken now rs).running)
some_woken now rs after before outs first turned some asked is =
    let earlier = take first.place rs in
    let rest = drop first.place rs in
    let woke = woken_with now rs first (sym some) in
    let so = ap (λ (ms : List Msg). chosen_at earlier rest ms first.choice) (sym asked) ∙ is in (
      sym (ap (λ (s : Step). s.turned) so) ∙ chosen_after earlier rest before (asked_before now rs) first.choice
          ∙ sym (ap (λ (s : Step). joined (sends before) s.turned) woke),
      sym (ap (λ (s : Step). s.running) so) ∙ chosen_running earlier rest (before ++ asked_before now rs) (asked_before now rs) first.choice
          ∙ sym (ap (λ (s : Step). s.running) woke),
    )

pub some_woken_if : {E : Type 0} (result : Result Turned E) (now : ℕ) (rs after : List Running) (before outs : List Msg) (first : Ripe) → Some first ≡ first_ripe now rs
    → outs ≡ before ++ asked_before now rs
    → IfOk result (λ turned. chosen_at (take first.place rs) (drop first.place rs) outs first.choice ≡ record { running = after; turned = turned })
    → IfOk result (λ turned. turned ≡ joined (sends before) (woken now rs).turned) × OnOk result (after ≡ (woken now rs).running)
some_woken_if (Ok turned) now rs after before outs first some asked is = some_woken now rs after before outs first turned some asked is
some_woken_if (Err e) now rs after before outs first some asked is = (tt, tt)

abbrev step_of : List Running → Option Record → List Msg → List Mark → Step
step_of running rec outs marks = record { running = running; turned = record { rec = rec; outs = outs; marks = marks } }

-- the file at a place gets the choice, and those after it are asked again
pub chosen_there : (rs : List Running) (place : ℕ) (old new : Running) (before installed asked : List Msg) (choice : Choice) (kept : Option Record) (marks : List Mark) → place < length rs
    → old ≡ get_or rs place old → new ≡ with_choice choice old → installed ≡ before ++ map (install_to choice) (next_members old.change)
    → asked ≡ installed ++ all_reminders (drop (place + 1) rs) → kept ≡ Some (chosen choice) → marks ≡ []
    → chosen_at (take place rs) (drop place rs) before choice ≡ record { running = set rs place new; turned = record { rec = kept; outs = asked; marks = marks } }
chosen_there rs place old new before installed asked choice kept marks lt stood is installs asks keeps unmarked =
    ap (λ (xs : List Running). chosen_at (take place rs) xs before choice) there
    ∙ ap (λ (ms : List Msg). step_of (take place rs ++ with_choice choice old ∷ later) (Some (chosen choice)) ms []) (sym outs_so)
    ∙ ap (λ (xs : List Running). step_of xs (Some (chosen choice)) asked []) (sym running_so)
    ∙ ap (λ (o : Option Record). step_of (set rs place new) o asked []) (sym keeps)
    ∙ ap (λ (ms : List Mark). step_of (set rs place new) kept asked ms) (sym unmarked)
  where
    later : List Running
    later = drop (place + 1) rs

    there : drop place rs ≡ old ∷ drop (place + 1) rs
    there = from_place rs place old lt stood

    outs_so : asked ≡ before ++ (map (install_to choice) (next_members old.change) ++ all_reminders (drop (place + 1) rs))
    outs_so =
        asks ∙ ap (λ (ms : List Msg). ms ++ all_reminders (drop (place + 1) rs)) installs
        ∙ append_assoc before (map (install_to choice) (next_members old.change)) (all_reminders (drop (place + 1) rs))

    running_so : set rs place new ≡ take place rs ++ with_choice choice old ∷ drop (place + 1) rs
    running_so =
        set_split rs place new lt ∙ ap (λ (x : Running). take place rs ++ x ∷ drop (suc place) rs) is ∙ rw add-one refl

-- ---- where it stands

next_within : (n : ℕ) (later : Option Ripe) (first : Ripe) → ((r : Ripe) → later ≡ Some r → r.place < n) → option_map next_place later ≡ Some first → first.place < suc n
next_within n None first within is = absurd (cc)
next_within n (Some r) first within is =
    let here : suc r.place ≡ first.place = ap place_or (is) in
    let lt : r.place < n = within r refl in
    omega arith
  where
    place_or : Option Ripe → ℕ
    place_or None = 0
    place_or (Some x) = x.place

pub place_within : (now : ℕ) (rs : List Running) (first : Ripe) → first_ripe now rs ≡ Some first → first.place < length rs
place_within now [] first is = absurd (cc)
place_within now (r ∷ rs) first is = by (place_within now rs) (ripe now r) is
  where
    at : ((x : Ripe) → first_ripe now rs ≡ Some x → x.place < length rs) → (choice : Choice) (numbered : Bool)
        → cond numbered (Some (record { place = 0; choice = choice })) (option_map next_place (first_ripe now rs)) ≡ Some first → first.place < suc (length rs)
    at later choice true is =
        let here : 0 ≡ first.place = ap place_or is in
        omega arith
      where
        place_or : Option Ripe → ℕ
        place_or None = 0
        place_or (Some x) = x.place
    at later choice false is = next_within (length rs) (first_ripe now rs) first later is

    by : ((x : Ripe) → first_ripe now rs ≡ Some x → x.place < length rs) → (choice : Option Choice)
        → ripe_here choice (option_map next_place (first_ripe now rs)) ≡ Some first → first.place < suc (length rs)
    by later None is = next_within (length rs) (first_ripe now rs) first later is
    by later (Some choice) is = at later choice (has_number choice) is

-- ---- going through the files

-- so many places further on
abbrev pub shift : ℕ → Ripe → Ripe
shift places r = record { place = places + r.place; choice = r.choice }

-- a file gets no choice at this clock, and is asked this
pub record Passes (now : ℕ) (r : Running) (own : List Msg) : Type 0 where
  pub first : (later : Option Ripe) → ripe_here (ripe now r) later ≡ later
  pub asks : (later : List Msg) → asked_here (ripe now r) (reminders r) later ≡ own ++ later

passes_so : (now : ℕ) (r : Running) → None ≡ chosen_of (ripe now r) → Passes now r (asked_alone now r)
passes_so now r none = let facts = of_choice (ripe now r) none in record { first = facts.0; asks = facts.1 }
  where
    at : (choice : Choice) (numbered : Bool) → None ≡ cond numbered (Some choice) None
        → ((later : Option Ripe) → cond numbered (Some (record { place = 0; choice = choice })) later ≡ later)
        × ((later : List Msg) → cond numbered [] later ≡ cond numbered [] [] ++ later)
    at choice true none = absurd (cc)
    at choice false none = ((λ later. refl), (λ later. refl))

    of_choice : (o : Option Choice) → None ≡ chosen_of o
        → ((later : Option Ripe) → ripe_here o later ≡ later) × ((later : List Msg) → asked_here o (reminders r) later ≡ asked_here o (reminders r) [] ++ later)
    of_choice None none = ((λ later. refl), (λ later. ap (λ (ms : List Msg). ms ++ later) (sym (append-nil (reminders r)))))
    of_choice (Some choice) none = at choice (has_number choice) none

pub chosen_numbered : (o : Option Choice) (choice : Choice) → Some choice ≡ chosen_of o → (Some choice ≡ o) × (true ≡ has_number choice)
chosen_numbered None choice is = absurd (cc)
chosen_numbered (Some it) choice is = at (has_number it) refl is
  where
    at : (t : Bool) → has_number it ≡ t → Some choice ≡ cond t (Some it) None → (Some choice ≡ Some it) × (true ≡ has_number choice)
    at true numbered is =
        let same : it ≡ choice = cc in
        (is, sym numbered ∙ ap (λ (x : Choice). has_number x) same)
    at false numbered is = absurd (cc)

-- what is known after the files before a place: the first one stands from there on, and those before it were asked
pub record GoneTo (now : ℕ) (rs : List Running) (place : ℕ) (before so_far : List Msg) : Type 0 where
  pub first : first_ripe now rs ≡ option_map (shift place) (first_ripe now (drop place rs))
  pub asked : so_far ++ asked_before now (drop place rs) ≡ before ++ asked_before now rs

same_place : (first : Option Ripe) → first ≡ option_map (shift 0) first
same_place None = refl
same_place (Some r) = ap (λ (place : ℕ). let same : Ripe = record { place = place; choice = r.choice } in Some same) (omega arith)

pub gone_nowhere : (now : ℕ) (rs : List Running) (outs : List Msg) → GoneTo now rs 0 outs outs
gone_nowhere now rs outs = record { first = same_place (first_ripe now rs); asked = refl }

further : (place : ℕ) (first : Option Ripe) → option_map (shift place) (option_map next_place first) ≡ option_map (shift (place + 1)) first
further place None = refl
further place (Some r) =
    let sum : place + suc r.place ≡ (place + 1) + r.place = omega arith in
    ap (λ (p : ℕ). let same : Ripe = record { place = p; choice = r.choice } in Some same) sum

pub gone_on : (now : ℕ) (rs : List Running) (place : ℕ) (before so_far new : List Msg) (r : Running) → place < length rs → r ≡ get_or rs place r → None ≡ chosen_of (ripe now r)
    → new ≡ so_far ++ asked_alone now r → GoneTo now rs place before so_far → GoneTo now rs (place + 1) before new
gone_on now rs place before so_far new r lt is none added gone =
    let own = asked_alone now r in
    let passes = passes_so now r none in
    let left = drop (place + 1) rs in
    let there = from_place rs place r lt is in
    record {
      first =
          gone.first
          ∙ ap (λ (xs : List Running). option_map (shift place) (first_ripe now xs)) there
          ∙ ap (option_map (shift place)) (passes.first (option_map next_place (first_ripe now left)))
          ∙ further place (first_ripe now left);
      asked =
          ap (λ (ms : List Msg). ms ++ asked_before now left) added
          ∙ append_assoc so_far own (asked_before now left)
          ∙ ap (λ (ms : List Msg). so_far ++ ms) (sym (passes.asks (asked_before now left)))
          ∙ ap (λ (xs : List Running). so_far ++ asked_before now xs) (sym there)
          ∙ gone.asked;
    }

-- the file at a place is the first one
pub first_here : (now : ℕ) (rs : List Running) (place : ℕ) (before so_far new : List Msg) (r : Running) (choice : Choice) → place < length rs → r ≡ get_or rs place r
    → Some choice ≡ chosen_of (ripe now r) → new ≡ so_far ++ asked_alone now r → GoneTo now rs place before so_far
    → (let first : Ripe = record { place = place; choice = choice } in Some first ≡ first_ripe now rs) × (new ≡ before ++ asked_before now rs)
first_here now rs place before so_far new r choice lt is chosen added gone = (sym ripe_so, asked_so)
  where
    some : Some choice ≡ ripe now r
    some = (chosen_numbered (ripe now r) choice chosen).0

    numbered : true ≡ has_number choice
    numbered = (chosen_numbered (ripe now r) choice chosen).1

    alone_so : asked_alone now r ≡ []
    alone_so =
        ap (λ (o : Option Choice). asked_here o (reminders r) []) (sym some) ∙ ap (λ (t : Bool). let none : List Msg = [] in cond t none none) (sym numbered)

    left : List Running
    left = drop (place + 1) rs

    there : drop place rs ≡ r ∷ drop (place + 1) rs
    there = from_place rs place r lt is

    here : Ripe
    here = record { place = 0; choice = choice }

    first_so : first_ripe now (drop place rs) ≡ Some here
    first_so =
        ap (first_ripe now) there
        ∙ ap (λ (o : Option Choice). ripe_here o (option_map next_place (first_ripe now (drop (place + 1) rs)))) (sym some)
        ∙ ap (λ (t : Bool). cond t (Some (record { place = 0; choice = choice })) (option_map next_place (first_ripe now (drop (place + 1) rs)))) (sym numbered)

    ripe_so : first_ripe now rs ≡ Some (record { place = place; choice = choice })
    ripe_so =
        gone.first ∙ ap (option_map (shift place)) first_so
        ∙ ap (λ (p : ℕ). let first : Ripe = record { place = p; choice = choice } in Some first) (let sum : place + 0 ≡ place = omega arith in sum)

    none_so : asked_before now (drop place rs) ≡ []
    none_so =
        ap (asked_before now) there
        ∙ ap (λ (o : Option Choice). asked_here o (reminders r) (asked_before now (drop (place + 1) rs))) (sym some)
        ∙ ap (λ (t : Bool). cond t [] (asked_before now (drop (place + 1) rs))) (sym numbered)

    asked_so : new ≡ before ++ asked_before now rs
    asked_so = added ∙ ap (λ (ms : List Msg). so_far ++ ms) (alone_so ∙ sym none_so) ∙ gone.asked

-- no file is left
pub none_first : (now : ℕ) (rs : List Running) (place : ℕ) (before so_far : List Msg) → length rs ≤ place → GoneTo now rs place before so_far
    → (None ≡ first_ripe now rs) × (so_far ≡ before ++ asked_before now rs)
none_first now rs place before so_far past gone =
    let none : drop place rs ≡ [] = drop_past rs place past in (
      sym (gone.first ∙ ap (λ (xs : List Running). option_map (shift place) (first_ripe now xs)) none),
      sym (append-nil so_far) ∙ ap (λ (xs : List Running). so_far ++ asked_before now xs) (sym none) ∙ gone.asked,
    )
  where
    drop_past : (rs : List Running) (place : ℕ) → length rs ≤ place → drop place rs ≡ []
    drop_past [] place past = nothing place
      where
        nothing : (n : ℕ) → (let none : List Running = [] in drop n none ≡ none)
        nothing zero = refl
        nothing (suc n) = refl
    drop_past (x ∷ xs) zero past = absurd (omega arith)
    drop_past (x ∷ xs) (suc place) past = drop_past xs place (omega arith)

-- ---- asking all

pub asked_all_before : (rs : List Running) (place : ℕ) (r : Running) (before so_far own new : List Msg) → place < length rs → r ≡ get_or rs place r → own ≡ reminders r → new ≡ so_far ++ own
    → so_far ++ all_reminders (drop place rs) ≡ before ++ all_reminders rs → new ++ all_reminders (drop (place + 1) rs) ≡ before ++ all_reminders rs
asked_all_before rs place r before so_far own new lt is asks added so =
    let left = all_reminders (drop (place + 1) rs) in
    ap (λ (ms : List Msg). ms ++ left) added
    ∙ append_assoc so_far own left
    ∙ ap (λ (ms : List Msg). so_far ++ (ms ++ left)) asks
    ∙ ap (λ (xs : List Running). so_far ++ all_reminders xs) (sym (from_place rs place r lt is))
    ∙ so
