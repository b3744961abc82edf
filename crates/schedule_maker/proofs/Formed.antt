-- what is generated is a schedule
use Rattle.std.proofs.Common.{◌≡◌, ◌<◌, ◌≤◌, ◌+◌, ◌*◌, ◌/◌, ◌%◌, ◌^◌, ◌==◌, ◌&&◌, nat_lt, ℕ, zero, suc, Bool, true, false, List, [], ◌∷◌, ◌++◌, length, if◌then◌else◌, refl, arith, length-append}
use Rattle.std.specs.Prelude.{slice_index}
use Rattle.std.specs.List.{AllByRecursion}
use Rattle.std.specs.Int.{w64, to_be_bytes}
use Rattle.std.proofs.lemmas.Nat.{mod_below}
use Rattle.xt_base.specs.FieldLimits.{FitsBytes}
use Rattle.xt_messages.specs.Limits.{FitsLocation}
use Rattle.xt_messages.specs.declared.event.Call.TheVariants as call
use Rattle.time_line.specs.declared.line.Line.{Line}
use Rattle.time_line.specs.declared.line.Line.TheVariants as line
use Rattle.schedule_text.specs.LineText.{IsLine}
use Rattle.schedule_maker.specs.declared.draws.Choice.{Choice}
use Rattle.schedule_maker.specs.Draws.{next_state, drawn_in, choice_from, after_choice}
use Rattle.schedule_maker.specs.Generated.{node, on_three, opening, clock_before, restart_before, pause_before, call_of, call_in, turn_from, turns_from, generated}
use Rattle.schedule_maker.specs.Scheduled.{AreFormed, AreSchedule}

-- lines of a schedule after its first
abbrev AreLater : List Line → Type 0
AreLater lines = AllByRecursion (IsLine false) lines

both : (xs ys : List Line) → AreLater xs → AreLater ys → AreLater (xs ++ ys)
both [] ys p q = q
both (x ∷ xs) ys p q = (p.0, both xs ys p.1 q)

either : {A : Type 0} (P : A → Type 0) (here : Bool) (x y : A) → P x → P y → P (if here then x else y)
either P true x y first second = first
either P false x y first second = second

-- ---- draws

drawn_below : (x bound : ℕ) → 0 < bound → drawn_in x bound < bound
unfolding drawn_in
drawn_below x bound some = mod_below (x / 2 ^ 33) bound some

eight_bytes : (n : ℕ) → FitsBytes (to_be_bytes w64 n)
eight_bytes n = record { all = λ i. at i; few = omega arith }
  where
    at : (i : ℕ) → slice_index (to_be_bytes w64 n) i < 256
    at zero = omega arith
    at (suc zero) = omega arith
    at (suc (suc zero)) = omega arith
    at (suc (suc (suc zero))) = omega arith
    at (suc (suc (suc (suc zero)))) = omega arith
    at (suc (suc (suc (suc (suc zero))))) = omega arith
    at (suc (suc (suc (suc (suc (suc zero)))))) = omega arith
    at (suc (suc (suc (suc (suc (suc (suc zero))))))) = omega arith
    at (suc (suc (suc (suc (suc (suc (suc (suc i)))))))) = omega arith

-- a choice within its ranges
pub record IsChoice (c : Choice) : Type 0 where
  pub client : c.client < 14
  pub file : c.file < 5
  pub object : c.object < 4
  pub at : c.at < 4000

chosen : (x : ℕ) → IsChoice (choice_from x)
chosen x =
    let for_client = next_state x in
    let for_file = next_state for_client in
    let for_object = next_state for_file in
    let for_place = next_state for_object in
    record {
      client = omega (arith, drawn_below for_client 4 (omega arith));
      file = omega (arith, drawn_below for_file 4 (omega arith));
      object = drawn_below for_object 4 (omega arith);
      at = drawn_below for_place 4000 (omega arith);
    }

call_formed : (c : Choice) (turn : ℕ) → IsChoice c → IsLine false (line.Call (node c.client) (call_of c turn))
call_formed c turn is =
    let client = is.client in
    let file = is.file in
    let object = is.object in
    let at = is.at in
    either (λ made. IsLine false (line.Call (node c.client) made)) c.is_read (call.Read c.file c.object c.at 16) (call.Write c.file c.object c.at (to_be_bytes w64 turn))
    (tt, (omega arith, (omega arith, omega arith, omega arith, omega arith, omega arith)))
    (tt, (omega arith, (omega arith, omega arith, omega arith, eight_bytes turn, omega arith)))

-- ---- turns

restart_formed : (turn : ℕ) → turn < 2 ^ 32 → AreLater (restart_before turn)
unfolding restart_before
restart_formed turn few =
    either AreLater (nat_lt 0 turn && (turn % 64 == 0)) (line.Stop (node 2) ∷ line.Start (node 2) (clock_before turn) ∷ []) []
    ((tt, omega arith), ((tt, (omega arith, omega arith)), tt)) tt

pause_formed : (turn : ℕ) → AreLater (pause_before turn)
unfolding pause_before
pause_formed turn =
    either AreLater (nat_lt 0 turn && (turn % 16 == 0)) (line.Tick 400 ∷ line.Wake (node 1) ∷ line.Settle 400 ∷ []) []
    ((tt, omega arith), ((tt, omega arith), ((omega arith, tt), tt))) tt

call_in_formed : (turn x : ℕ) → AreLater (call_in turn x)
unfolding call_in
call_in_formed turn x = (call_formed (choice_from x) turn (chosen x), ((omega arith, tt), tt))

turns_formed : (count turn x : ℕ) → turn + count < 2 ^ 32 → AreLater (turns_from count turn x)
unfolding turns_from
turns_formed zero turn x few = tt
turns_formed (suc count) turn x few =
    both (turn_from turn x) (turns_from count (turn + 1) (after_choice x))
    (both (restart_before turn) (pause_before turn ++ call_in turn x) (restart_formed turn (omega arith)) (both (pause_before turn) (call_in turn x) (pause_formed turn) (call_in_formed turn x)))
    (turns_formed count (turn + 1) (after_choice x) (omega arith))

-- ---- what comes before

three_fit : FitsLocation on_three
three_fit = record {
  changes = omega arith;
  size = record { least = omega arith; most = omega arith; step = refl };
  nodes = record { different = refl; each = (omega arith, (omega arith, (omega arith, tt))) };
}

file_formed : (number : ℕ) → number < 5 → IsLine false (line.File number on_three)
file_formed number few = (refl, (omega arith, three_fit))

client_formed : (n : ℕ) → n < 14 → IsLine false (line.Client (node n) 0)
client_formed n few = (tt, (omega arith, omega arith))

osd_formed : (n : ℕ) → n < 4 → IsLine false (line.Osd (node n))
osd_formed n few = (tt, omega arith)

start_formed : (n : ℕ) → n < 4 → IsLine false (line.Start (node n) 0)
start_formed n few = (tt, (omega arith, omega arith))

opening_formed : (later : List Line) → AreLater later → AreFormed (opening ++ later)
unfolding opening
opening_formed later are = (
  (refl, record { some = omega arith; short = omega arith; small = omega arith }),
  (
    osd_formed 1 (omega arith),
    (
      osd_formed 2 (omega arith),
      (
        osd_formed 3 (omega arith),
        (
          client_formed 10 (omega arith),
          (
            client_formed 11 (omega arith),
            (
              client_formed 12 (omega arith),
              (
                client_formed 13 (omega arith),
                (
                  start_formed 1 (omega arith),
                  (
                    start_formed 2 (omega arith),
                    (
                      start_formed 3 (omega arith),
                      (
                        file_formed 1 (omega arith),
                        (
                          file_formed 2 (omega arith),
                          (
                            file_formed 3 (omega arith),
                            (
                              file_formed 4 (omega arith),
                              ((tt, omega arith), are),
                            ),
                          ),
                        ),
                      ),
                    ),
                  ),
                ),
              ),
            ),
          ),
        ),
      ),
    ),
  ),
)

-- ---- how many there are

restart_short : (turn : ℕ) → length (restart_before turn) ≤ 2
unfolding restart_before
restart_short turn =
    either (λ lines. length lines ≤ 2) (nat_lt 0 turn && (turn % 64 == 0)) (line.Stop (node 2) ∷ line.Start (node 2) (clock_before turn) ∷ []) [] (omega arith) (omega arith)

pause_short : (turn : ℕ) → length (pause_before turn) ≤ 3
unfolding pause_before
pause_short turn =
    either (λ lines. length lines ≤ 3) (nat_lt 0 turn && (turn % 16 == 0)) (line.Tick 400 ∷ line.Wake (node 1) ∷ line.Settle 400 ∷ []) [] (omega arith) (omega arith)

call_short : (turn x : ℕ) → length (call_in turn x) ≡ 2
unfolding call_in
call_short turn x = refl

turns_short : (count turn x : ℕ) → length (turns_from count turn x) ≤ 7 * count
unfolding turns_from
turns_short zero turn x = omega arith
turns_short (suc count) turn x =
    omega (
      arith,
      turns_short count (turn + 1) (after_choice x),
      restart_short turn,
      pause_short turn,
      call_short turn x,
      length-append (turn_from turn x) (turns_from count (turn + 1) (after_choice x)),
      length-append (restart_before turn) (pause_before turn ++ call_in turn x),
      length-append (pause_before turn) (call_in turn x),
    )

opening_short : length opening ≡ 16
unfolding opening
opening_short = refl

pub generated_scheduled : (number size : ℕ) → size ≤ 4096 → AreSchedule (generated number size)
unfolding generated
generated_scheduled number size few =
    record {
      formed = opening_formed (turns_from size 0 number) (turns_formed size 0 number (omega arith));
      few = omega (arith, length-append opening (turns_from size 0 number), opening_short, turns_short size 0 number);
    }
