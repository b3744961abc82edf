-- one choice a Wake
use Rattle.std.proofs.Common.{◌≡◌, ◌<◌, ℕ, List, [], ◌∷◌, refl, ap, arith, Option, Some, None, Bool, true, false, cond}
use Rattle.std.proofs.lemmas.Bool.Decides.{nat_tests}
use Rattle.xt_base.specs.declared.TheConstants.{COUNTS}
use Rattle.xt_messages.specs.declared.message.Msg.{Msg}
use Rattle.change_rows.specs.declared.Choice.{Choice}
use Rattle.change_rows.specs.Changes.{ChangeState, choice_at}
use Rattle.change_rows.specs.Coordinating.{Running, Step, ripe_at, ripe, has_number, reminders, chooses, passes, woken_by, woken}
use Rattle.change_rows.specs.Laws.{WakeKeeps, nothing, one}

-- a file that stays as it is, before the others
keeps_after : (now : ℕ) (r : Running) (outs : List Msg) (rs : List Running) (later : Step) → WakeKeeps now rs later → WakeKeeps now (r ∷ rs) (passes r outs later)
keeps_after now r outs rs later (nothing _ none same) = nothing (passes r outs later) none (ap (λ all. r ∷ all) same)
keeps_after now r outs rs later (one _ choice is h) =
    one (passes r outs later) choice is
    (record {
      earlier = r ∷ h.earlier;
      later = h.later;
      file = h.file;
      free = h.free;
      ready = h.ready;
      numbered = h.numbered;
      was = ap (λ all. r ∷ all) h.was;
      is = ap (λ all. r ∷ all) h.is;
    })

-- a file that is ripe has no choice, and is ready
free_by : (now : ℕ) (c : ChangeState) (o : Option Choice) (choice : Choice) → ripe_at now c o ≡ Some choice → (o ≡ None) × (choice_at c now ≡ Some choice)
free_by now c None choice h = (refl, h)
free_by now c (Some other) choice h = absurd cc

number_below : (choice : Choice) → has_number choice ≡ true → choice.head.promised.number < COUNTS
number_below choice h = grind (arith, nat_tests)

at_one : (now : ℕ) (r : Running) (rs : List Running) (later : Step) (o : Option Choice) → ripe now r ≡ o → WakeKeeps now rs later → WakeKeeps now (r ∷ rs) (woken_by r rs later o)
at_one now r rs later None is h = keeps_after now r (reminders r) rs later h
at_one now r rs later (Some choice) is h = by_number (has_number choice) refl
  where
    by_number : (b : Bool) → has_number choice ≡ b → WakeKeeps now (r ∷ rs) (cond b (chooses r rs choice) (passes r [] later))
    by_number true numbered =
        let found = free_by now r.change r.choice choice is in
        one (chooses r rs choice) choice refl
        (record {
          earlier = [];
          later = rs;
          file = r;
          free = found.0;
          ready = found.1;
          numbered = number_below choice numbered;
          was = refl;
          is = refl;
        })
    by_number false spent = keeps_after now r [] rs later h

pub wakes_once : (now : ℕ) (running : List Running) → WakeKeeps now running (woken now running)
wakes_once now [] = nothing _ refl refl
wakes_once now (r ∷ rs) = at_one now r rs (woken now rs) (ripe now r) refl (wakes_once now rs)
