-- a whole line
use Rattle.std.proofs.Common.{◌⊎◌, inl, inr, ◌≡◌, ℕ, zero, suc, ◌+◌, ◌*◌, ◌<◌, ◌≤◌, lit≤, Bool, true, false, if◌then◌else◌, Some, Result, Ok, Err, [], refl, ap, sym, ◌∙◌, subst, arith, length}
use Rattle.time_line.specs.declared.line.Line.{Line}
use Rattle.time_line.specs.declared.line.Line.TheVariants as line
use Rattle.world_spec.specs.World.{World}
use Rattle.world_spec.specs.NodeSteps.{Room, Cause, came_to, has_no_room, Doing}
use Rattle.world_spec.specs.Lines.{Next, finished, opens, goes_on, ends, opening, begins, went, next_step, steps, so_far, first_step, events_of, enough, done, OWN}
use Rattle.world_hull.specs.declared.errors.WorldErr.{WorldErr}
use Rattle.world_hull.specs.declared.errors.WorldErr.TheVariants as error
use Rattle.world_limits.specs.Fits.{FitsAt, FitsWorld}
use Rattle.world_step.specs.Steps.{Working, WentOn, IsUntold, Tells, cause_of}
use Rattle.world_core.specs.RunStates.{IsLeftIn, HasTurned, HasEnded, HasRun, AllFit, begun_with, opening_of, closing_of}
use Rattle.world_core.proofs.Turns.{none_yet, steps-add, done_longer, ended_longer, went_further}

opens_one : (room : Room) (l : Line) (w : World) → steps 1 room (opens l w) ≡ went w (first_step room (record { world = w; own = []; left = 0 }) l)
unfolding steps next_step
opens_one room l w = refl

settling : (room : Room) (d : Doing) (count : ℕ) (so : Result Doing Cause) → first_step room d (line.Settle count) ≡ so → so ≡ Ok d
unfolding first_step
settling room d count so is = sym is

the_doing : (a b : Doing) (so : Result Doing Cause) → so ≡ Ok a → so ≡ Ok b → a ≡ b
the_doing a b so one two = cc

-- the first step leaves the line at work
pub opened : (room : Room) (w : World) (l : Line) (d : Doing) → first_step room (begun_with w l) l ≡ Ok d → steps (opening_of l) room (opening w l) ≡ goes_on d
opened room w (line.Settle count) d is = none_yet room _ ∙ ap goes_on (the_doing (begun_with w (line.Settle count)) d _ (settling room (begun_with w (line.Settle count)) count _ refl) is)
opened room w (line.Times lease drift) d is = opens_one room (line.Times lease drift) w ∙ ap (went w) is
opened room w (line.Osd node) d is = opens_one room (line.Osd node) w ∙ ap (went w) is
opened room w line.Mrc d is = opens_one room line.Mrc w ∙ ap (went w) is
opened room w line.Dir d is = opens_one room line.Dir w ∙ ap (went w) is
opened room w (line.Client node clock) d is = opens_one room (line.Client node clock) w ∙ ap (went w) is
opened room w (line.File number location) d is = opens_one room (line.File number location) w ∙ ap (went w) is
opened room w (line.Start node clock) d is = opens_one room (line.Start node clock) w ∙ ap (went w) is
opened room w (line.Stop node) d is = opens_one room (line.Stop node) w ∙ ap (went w) is
opened room w (line.Crash node k fill) d is = opens_one room (line.Crash node k fill) w ∙ ap (went w) is
opened room w (line.Cut node count) d is = opens_one room (line.Cut node count) w ∙ ap (went w) is
opened room w (line.Clock node clock) d is = opens_one room (line.Clock node clock) w ∙ ap (went w) is
opened room w (line.Tick count) d is = opens_one room (line.Tick count) w ∙ ap (went w) is
opened room w (line.Wake node) d is = opens_one room (line.Wake node) w ∙ ap (went w) is
opened room w (line.Call id c) d is = opens_one room (line.Call id c) w ∙ ap (went w) is
opened room w (line.Again id) d is = opens_one room (line.Again id) w ∙ ap (went w) is
opened room w (line.Aim id file node) d is = opens_one room (line.Aim id file node) w ∙ ap (went w) is
opened room w (line.Deliver number) d is = opens_one room (line.Deliver number) w ∙ ap (went w) is
opened room w (line.Drop number) d is = opens_one room (line.Drop number) w ∙ ap (went w) is

opening_few : (l : Line) → opening_of l ≤ 1
opening_few (line.Settle count) = lit≤ tt
opening_few (line.Times lease drift) = lit≤ tt
opening_few (line.Osd node) = lit≤ tt
opening_few line.Mrc = lit≤ tt
opening_few line.Dir = lit≤ tt
opening_few (line.Client node clock) = lit≤ tt
opening_few (line.File number location) = lit≤ tt
opening_few (line.Start node clock) = lit≤ tt
opening_few (line.Stop node) = lit≤ tt
opening_few (line.Crash node k fill) = lit≤ tt
opening_few (line.Cut node count) = lit≤ tt
opening_few (line.Clock node clock) = lit≤ tt
opening_few (line.Tick count) = lit≤ tt
opening_few (line.Wake node) = lit≤ tt
opening_few (line.Call id c) = lit≤ tt
opening_few (line.Again id) = lit≤ tt
opening_few (line.Aim id file node) = lit≤ tt
opening_few (line.Deliver number) = lit≤ tt
opening_few (line.Drop number) = lit≤ tt

-- what comes before the events of a line, and after them
two_in_all : (l : Line) → opening_of l + closing_of l ≡ 2
two_in_all (line.Settle count) = refl
two_in_all (line.Times lease drift) = refl
two_in_all (line.Osd node) = refl
two_in_all line.Mrc = refl
two_in_all line.Dir = refl
two_in_all (line.Client node clock) = refl
two_in_all (line.File number location) = refl
two_in_all (line.Start node clock) = refl
two_in_all (line.Stop node) = refl
two_in_all (line.Crash node k fill) = refl
two_in_all (line.Cut node count) = refl
two_in_all (line.Clock node clock) = refl
two_in_all (line.Tick count) = refl
two_in_all (line.Wake node) = refl
two_in_all (line.Call id c) = refl
two_in_all (line.Again id) = refl
two_in_all (line.Aim id file node) = refl
two_in_all (line.Deliver number) = refl
two_in_all (line.Drop number) = refl

-- or ends it
pub opened_err : (room : Room) (w : World) (l : Line) (cause : Cause) → first_step room (begun_with w l) l ≡ Err cause → steps 1 room (opening w l) ≡ ends cause w
opened_err room w (line.Settle count) cause is = absurd (let e : Ok (begun_with w (line.Settle count)) ≡ Err cause = sym (settling room _ count _ refl) ∙ is in cc e)
opened_err room w (line.Times lease drift) cause is = opens_one room (line.Times lease drift) w ∙ ap (went w) is
opened_err room w (line.Osd node) cause is = opens_one room (line.Osd node) w ∙ ap (went w) is
opened_err room w line.Mrc cause is = opens_one room line.Mrc w ∙ ap (went w) is
opened_err room w line.Dir cause is = opens_one room line.Dir w ∙ ap (went w) is
opened_err room w (line.Client node clock) cause is = opens_one room (line.Client node clock) w ∙ ap (went w) is
opened_err room w (line.File number location) cause is = opens_one room (line.File number location) w ∙ ap (went w) is
opened_err room w (line.Start node clock) cause is = opens_one room (line.Start node clock) w ∙ ap (went w) is
opened_err room w (line.Stop node) cause is = opens_one room (line.Stop node) w ∙ ap (went w) is
opened_err room w (line.Crash node k fill) cause is = opens_one room (line.Crash node k fill) w ∙ ap (went w) is
opened_err room w (line.Cut node count) cause is = opens_one room (line.Cut node count) w ∙ ap (went w) is
opened_err room w (line.Clock node clock) cause is = opens_one room (line.Clock node clock) w ∙ ap (went w) is
opened_err room w (line.Tick count) cause is = opens_one room (line.Tick count) w ∙ ap (went w) is
opened_err room w (line.Wake node) cause is = opens_one room (line.Wake node) w ∙ ap (went w) is
opened_err room w (line.Call id c) cause is = opens_one room (line.Call id c) w ∙ ap (went w) is
opened_err room w (line.Again id) cause is = opens_one room (line.Again id) w ∙ ap (went w) is
opened_err room w (line.Aim id file node) cause is = opens_one room (line.Aim id file node) w ∙ ap (went w) is
opened_err room w (line.Deliver number) cause is = opens_one room (line.Deliver number) w ∙ ap (went w) is
opened_err room w (line.Drop number) cause is = opens_one room (line.Drop number) w ∙ ap (went w) is

pub opening_in : (w : World) (l : Line) → so_far (opening w l) ≡ w
opening_in w (line.Settle count) = refl
opening_in w (line.Times lease drift) = refl
opening_in w (line.Osd node) = refl
opening_in w line.Mrc = refl
opening_in w line.Dir = refl
opening_in w (line.Client node clock) = refl
opening_in w (line.File number location) = refl
opening_in w (line.Start node clock) = refl
opening_in w (line.Stop node) = refl
opening_in w (line.Crash node k fill) = refl
opening_in w (line.Cut node count) = refl
opening_in w (line.Clock node clock) = refl
opening_in w (line.Tick count) = refl
opening_in w (line.Wake node) = refl
opening_in w (line.Call id c) = refl
opening_in w (line.Again id) = refl
opening_in w (line.Aim id file node) = refl
opening_in w (line.Deliver number) = refl
opening_in w (line.Drop number) = refl

-- ---- the end of a line

caused : (so : Result Doing Cause) (cause : Cause) → cause_of so ≡ Some cause → so ≡ Err cause
caused (Ok d) cause is = absurd (cc)
caused (Err c) cause is = (let same : c ≡ cause = cc in ap Err same)

-- by its first step
pub first_ends : (room : Room) (old new : Working) (l : Line) (total : ℕ) (e : WorldErr) → old.doing ≡ begun_with old.doing.world l → 1 ≤ total
    → Tells (cause_of (first_step room old.doing l)) e × IsUntold old new → HasEnded room old total (opening old.doing.world l) new e
first_ends room old new l total e begun some so = at e so.0
  where
    left : IsLeftIn old new old.doing.world
    left = record { entries = so.1.entries; lines = so.1.lines; begun = so.1.begun; ended = so.1.ended }

    ends_so : (cause : Cause) → cause_of (first_step room old.doing l) ≡ Some cause → steps total room (opening old.doing.world l) ≡ ends cause old.doing.world
    ends_so cause is =
        ended_longer 1 total room (opening old.doing.world l) cause old.doing.world
        (opened_err room old.doing.world l cause (sym (ap (λ (d : Doing). first_step room d l) begun) ∙ caused (first_step room old.doing l) cause is)) some

    at : (e : WorldErr) → Tells (cause_of (first_step room old.doing l)) e → HasEnded room old total (opening old.doing.world l) new e
    at (error.Illegal rule) is = is
    at (error.Limit what limit) is = (old.doing.world, ends_so (came_to what) is.0, is.1, left)
    at (error.Full need limit) is = (old.doing.world, ends_so (has_no_room (record { need = need; limit = limit })) is, left)
    at error.OutOfMemory is = (
      0,
      omega arith,
      record {
        entries = left.entries ∙ ap (λ (w : World). w.entries) (sym (opening_in old.doing.world l)) ∙ ap (λ (n : Next). (so_far n).entries) (sym (none_yet room (opening old.doing.world l)));
        lines = left.lines;
        begun = left.begun;
        ended = left.ended;
      },
    )

-- after so many steps
module _ (room : Room) (old now : Working) (next : Next) (k : ℕ) (came : steps k room next ≡ goes_on now.doing) (on : WentOn old now) where
  pub later_fits : AllFit room next → AllFit room (goes_on now.doing)
  later_fits fits = λ j. subst FitsAt (steps-add k j room next ∙ ap (steps j room) came) (fits (k + j))

  pub done_behind : (n total : ℕ) (w : World) → k + n ≤ total → steps n room (goes_on now.doing) ≡ finished w → steps total room next ≡ finished w
  done_behind n total w le is = done_longer (k + n) total room next w (steps-add k n room next ∙ ap (steps n room) came ∙ is) le

  pub ended_behind : (n total : ℕ) (new : Working) (e : WorldErr) → k + n ≤ total → HasEnded room now n (goes_on now.doing) new e → HasEnded room old total next new e
  ended_behind n total new e le = at e
    where
      moved : (part : World) → IsLeftIn now new part → IsLeftIn old new part
      moved part left = record {
        entries = left.entries;
        lines = left.lines ∙ on.lines;
        begun = left.begun ∙ ap (λ (x : Working). x.begun) on.rest;
        ended = left.ended ∙ on.ended;
      }

      ends_so : (cause : Cause) (part : World) → steps n room (goes_on now.doing) ≡ ends cause part → steps total room next ≡ ends cause part
      ends_so cause part is = ended_longer (k + n) total room next cause part (steps-add k n room next ∙ ap (steps n room) came ∙ is) le

      at : (e : WorldErr) → HasEnded room now n (goes_on now.doing) new e → HasEnded room old total next new e
      at (error.Illegal rule) is = is
      at (error.Limit what limit) is = (is.0, ends_so (came_to what) is.0 is.1, is.2, moved is.0 is.3)
      at (error.Full need limit) is = (is.0, ends_so (has_no_room (record { need = need; limit = limit })) is.0 is.1, moved is.0 is.2)
      at error.OutOfMemory is = (
        k + is.0,
        (let few = is.1 in omega arith),
        (let left = moved (so_far (steps is.0 room (goes_on now.doing))) is.2 in record {
          entries = left.entries ∙ ap (λ (n : Next). (so_far n).entries) (sym (steps-add k is.0 room next ∙ ap (steps is.0 room) came));
          lines = left.lines;
          begun = left.begun;
          ended = left.ended;
        }),
      )

-- so many times
mul_more : (j c : ℕ) → suc j * c ≡ j * c + c
mul_more j c = grind arith

times_more : (i j c : ℕ) → i ≤ j → i * c ≤ j * c
times_more i zero c le = (let none : i ≡ 0 = omega arith in subst (λ (n : ℕ). n * c ≤ 0 * c) (sym none) (omega arith))
times_more i (suc j) c le = at (λ less. times_more i j c less) (cases i j le)
  where
    cases : (i j : ℕ) → i ≤ suc j → (i ≤ j) ⊎ (i ≡ suc j)
    cases i j le = grind arith

    at : (i ≤ j → i * c ≤ j * c) → (i ≤ j) ⊎ (i ≡ suc j) → i * c ≤ suc j * c
    at rest (inl less) = (let before : i * c ≤ j * c = rest less in let more : suc j * c ≡ j * c + c = mul_more j c in omega arith)
    at rest (inr same) = subst (λ (n : ℕ). i * c ≤ n * c) same (omega arith)

within_enough : (w : World) (l : Line) (i count k : ℕ) → i < events_of l → count ≡ 1 + OWN * (1 + length w.files + length w.made) → k ≤ 1 + i * count → k + count ≤ enough w l
within_enough w l i count k less is le =
    let more : suc i * count ≤ events_of l * count = times_more (suc i) (events_of l) count (omega arith) in
    let one : suc i * count ≡ i * count + count = mul_more i count in
    let all : events_of l * count ≡ events_of l * (1 + OWN * (1 + length w.files + length w.made)) = ap (λ (n : ℕ). events_of l * n) is in
    omega arith

-- the steps of a line, with those after its events, are those that it is allowed
all_enough : (w : World) (l : Line) (i count : ℕ) → i ≡ events_of l → count ≡ 1 + OWN * (1 + length w.files + length w.made) → opening_of l + i * count + closing_of l ≡ enough w l
all_enough w l i count same is =
    let all : i * count ≡ events_of l * (1 + OWN * (1 + length w.files + length w.made)) = ap (λ (n : ℕ). n * count) same ∙ ap (λ (n : ℕ). events_of l * n) is in
    let two : opening_of l + closing_of l ≡ 2 = two_in_all l in
    omega arith

begin_fits : (w : World) (l : Line) → FitsAt (opening w l) → FitsWorld w []
begin_fits w (line.Times lease drift) fits = fits
begin_fits w (line.Osd node) fits = fits
begin_fits w line.Mrc fits = fits
begin_fits w line.Dir fits = fits
begin_fits w (line.Client node clock) fits = fits
begin_fits w (line.File number location) fits = fits
begin_fits w (line.Start node clock) fits = fits
begin_fits w (line.Stop node) fits = fits
begin_fits w (line.Crash node k fill) fits = fits
begin_fits w (line.Cut node count) fits = fits
begin_fits w (line.Clock node clock) fits = fits
begin_fits w (line.Tick count) fits = fits
begin_fits w (line.Wake node) fits = fits
begin_fits w (line.Call id c) fits = fits
begin_fits w (line.Again id) fits = fits
begin_fits w (line.Aim id file node) fits = fits
begin_fits w (line.Deliver number) fits = fits
begin_fits w (line.Drop number) fits = fits
begin_fits w (line.Settle count) fits = fits

pub first_fits : (room : Room) (w : World) (l : Line) → AllFit room (opening w l) → FitsWorld w []
first_fits room w l fits = begin_fits w l (subst FitsAt (none_yet room (opening w l)) (fits 0))

-- a world that hasn't ended takes a line
pub takes : (w : World) (l : Line) → w.ended ≡ false → begins w l ≡ opening w l
takes w l going = ap (λ (b : Bool). if b then finished w else opening w l) going

pub done_is : (room : Room) (w : World) (l : Line) → w.ended ≡ false → done room w l ≡ steps (enough w l) room (opening w l)
unfolding done
done_is room w l going = ap (steps (enough w l) room) (takes w l going)

-- ---- the loop over events

module _ (room : Room) (old started now : Working) (l : Line) (i count : ℕ) (begun : old.doing ≡ begun_with old.doing.world l) (first : (first_step room old.doing l ≡ Ok started.doing) × WentOn old started)
    (is_count : count ≡ 1 + OWN * (1 + length old.doing.world.files + length old.doing.world.made)) (came : steps (i * count) room (goes_on started.doing) ≡ goes_on now.doing) (on : WentOn started now) where
  start : steps (opening_of l) room (opening old.doing.world l) ≡ goes_on started.doing
  start = opened room old.doing.world l started.doing (ap (λ (d : Doing). first_step room d l) (sym begun) ∙ first.0)

  bound : opening_of l + i * count ≤ 1 + i * count
  bound = (let le = opening_few l in omega arith)

  all_came : steps (opening_of l + i * count) room (opening old.doing.world l) ≡ goes_on now.doing
  all_came = steps-add (opening_of l) (i * count) room (opening old.doing.world l) ∙ ap (steps (i * count) room) start ∙ came

  all_on : WentOn old now
  all_on = went_further old started now first.1 on

  pub event_fits : AllFit room (opening old.doing.world l) → AllFit room (goes_on now.doing)
  event_fits fits = later_fits room old now (opening old.doing.world l) (opening_of l + i * count) all_came all_on fits

  pub event_ends : (new : Working) (e : WorldErr) → i < events_of l → HasEnded room now count (goes_on now.doing) new e → HasEnded room old (enough old.doing.world l) (opening old.doing.world l) new e
  event_ends new e less so =
      ended_behind room old now (opening old.doing.world l) (opening_of l + i * count) all_came all_on count (enough old.doing.world l) new e
      (within_enough old.doing.world l i count (opening_of l + i * count) less is_count bound) so

  pub event_done : (new : Working) → i < events_of l → (steps count room (goes_on now.doing) ≡ finished new.doing.world) × WentOn now new
      → (steps (enough old.doing.world l) room (opening old.doing.world l) ≡ finished new.doing.world) × WentOn old new
  event_done new less so = (
    done_behind room old now (opening old.doing.world l) (opening_of l + i * count) all_came all_on count (enough old.doing.world l) new.doing.world
        (within_enough old.doing.world l i count (opening_of l + i * count) less is_count bound) so.0,
    went_further old now new all_on so.1,
  )

  whole : i ≡ events_of l → opening_of l + i * count + closing_of l ≡ enough old.doing.world l
  whole same = all_enough old.doing.world l i count same is_count

  pub last_turns : (new : Working) (r : Result Bool WorldErr) → i ≡ events_of l → HasTurned room now (closing_of l) (goes_on now.doing) new r → HasRun room old l new r
  last_turns new (Ok true) same so = (
    done_behind room old now (opening old.doing.world l) (opening_of l + i * count) all_came all_on (closing_of l) (enough old.doing.world l) new.doing.world
        (let all = whole same in omega arith) so.0,
    went_further old now new all_on so.1,
  )
  last_turns new (Ok false) same so = (
    ap (λ (n : ℕ). steps n room (opening old.doing.world l)) (sym (whole same))
        ∙ steps-add (opening_of l + i * count) (closing_of l) room (opening old.doing.world l) ∙ ap (steps (closing_of l) room) all_came ∙ so.0,
    went_further old now new all_on so.1,
  )
  last_turns new (Err e) same so =
      ended_behind room old now (opening old.doing.world l) (opening_of l + i * count) all_came all_on (closing_of l) (enough old.doing.world l) new e
      (let all = whole same in omega arith) so

pub some_enough : (w : World) (l : Line) → 1 ≤ enough w l
some_enough w l = omega arith

pub event_more : (room : Room) (started now new : Working) (i count : ℕ) → steps (i * count) room (goes_on started.doing) ≡ goes_on now.doing → (steps count room (goes_on now.doing) ≡ goes_on new.doing) × WentOn now new
    → steps ((i + 1) * count) room (goes_on started.doing) ≡ goes_on new.doing
event_more room started now new i count came so =
    ap (λ (n : ℕ). steps n room (goes_on started.doing)) (one i count) ∙ steps-add (i * count) count room (goes_on started.doing) ∙ ap (steps count room) came ∙ so.0
  where
    one : (i c : ℕ) → (i + 1) * c ≡ i * c + c
    one i c = (let more = mul_more i c in grind arith)

pub event_none : (room : Room) (d : Doing) (count : ℕ) → steps (0 * count) room (goes_on d) ≡ goes_on d
event_none room d count = ap (λ (n : ℕ). steps n room (goes_on d)) (none count) ∙ none_yet room (goes_on d)
  where
    none : (c : ℕ) → 0 * c ≡ 0
    none c = grind arith
