-- a world that is run by code, and what a line makes of it
use Rattle.std.specs.Prelude.{ℕ, Bool, true, false, ◌≡◌, ◌≤◌, ◌⊎◌, ◌∷◌, ◌++◌, [], Some, None, Result, Ok, Err}
use Rattle.xt_base.specs.TimeSettings.{AreTimes}
use Rattle.time_line.specs.declared.line.Line.{Line}
use Rattle.time_line.specs.declared.line.Line.TheVariants as line
use Rattle.world_spec.specs.World.{World}
use Rattle.world_spec.specs.Rules.{refusal}
use Rattle.world_spec.specs.NodeSteps.{Room, Cause, came_to, has_no_room, Doing}
use Rattle.world_spec.specs.Lines.{Next, finished, goes_on, ends, opening, steps, so_far, enough, done}
use Rattle.time_line.specs.Bounds.{AreLines, FitsLine}
use Rattle.world_spec.specs.Runs.{with_line, run_of, IsPartOf}
use Rattle.world_limits.specs.Fits.{FitsAt}
use Rattle.world_step.specs.Steps.{Working, IsUntold, WentOn, limit_of}
use Rattle.world_hull.specs.declared.errors.WorldErr.{WorldErr}
use Rattle.world_hull.specs.declared.errors.WorldErr.TheVariants as error

-- a world between two lines
abbrev pub resting : World → Working
resting w = record { doing = record { world = w; own = []; left = 0 }; begun = [] }

-- Until a line ends early, the world is the run of its lines, each of which is within its limits.
abbrev pub IsRunSoFar : Room → World → Type 0
IsRunSoFar room w = w.ended ≡ false → (w ≡ run_of room w.lines) × AreLines w.lines

-- the line ended early in this world, and an error reports why
abbrev pub TellsEnd : Next → World → WorldErr → Type 0
TellsEnd next w (error.Illegal rule) = ⊥
TellsEnd next w (error.Limit what limit) = (next ≡ ends (came_to what) w) × (limit ≡ limit_of what)
TellsEnd next w (error.Full need limit) = next ≡ ends (has_no_room (record { need = need; limit = limit })) w
TellsEnd next w error.OutOfMemory = Unit {0}

-- The line at work has come so far by one step: it is done, or goes on, or ended early.
abbrev pub IsTurned : Working → Next → Working → Result Bool WorldErr → Type 0
IsTurned old next new (Ok true) = (next ≡ finished new.doing.world) × WentOn old new
IsTurned old next new (Ok false) = (next ≡ goes_on new.doing) × WentOn old new
IsTurned old next new (Err e) = TellsEnd next old.doing.world e × IsUntold old new

-- ---- how a line ends

-- The entries are those after some of these steps, and the lines are as before.
pub record IsLeftIn (old new : Working) (part : World) : Type 0 where
  pub entries : new.doing.world.entries ≡ part.entries
  pub lines : new.doing.world.lines ≡ old.doing.world.lines
  pub begun : new.begun ≡ old.begun
  pub ended : new.doing.world.ended ≡ old.doing.world.ended

-- A line at this place came to its end by a limit or a full journal; or memory ran out after so many more steps.
abbrev pub HasEnded : Room → Working → ℕ → Next → Working → WorldErr → Type 0
HasEnded room old count next new (error.Illegal rule) = ⊥
HasEnded room old count next new (error.Limit what limit) =
    (part : World) × (steps count room next ≡ ends (came_to what) part) × (limit ≡ limit_of what) × IsLeftIn old new part
HasEnded room old count next new (error.Full need limit) =
    (part : World) × (steps count room next ≡ ends (has_no_room (record { need = need; limit = limit })) part) × IsLeftIn old new part
HasEnded room old count next new error.OutOfMemory = (k : ℕ) × (k ≤ count) × IsLeftIn old new (so_far (steps k room next))

-- A line at this place came so far by so many steps.
abbrev pub HasTurned : Room → Working → ℕ → Next → Working → Result Bool WorldErr → Type 0
HasTurned room old count next new (Ok true) = (steps count room next ≡ finished new.doing.world) × WentOn old new
HasTurned room old count next new (Ok false) = (steps count room next ≡ goes_on new.doing) × WentOn old new
HasTurned room old count next new (Err e) = HasEnded room old count next new e

-- each of the steps that can follow is made in a world that fits
abbrev pub AllFit : Room → Next → Type 0
AllFit room next = (k : ℕ) → FitsAt (steps k room next)

-- how many deliveries a line begins with
abbrev pub left_of : Line → ℕ
left_of (line.Settle count) = count
left_of _ = 0

-- how many steps come before the events of a line, and after them: settling is nothing but its deliveries
abbrev pub opening_of : Line → ℕ
opening_of (line.Settle count) = 0
opening_of _ = 1

abbrev pub closing_of : Line → ℕ
closing_of (line.Settle count) = 2
closing_of _ = 1

-- a line within its limits, where it may stand: the times come before the first node
abbrev pub MayStand : World → Line → Type 0
MayStand w (line.Times lease drift) = AreTimes lease drift × (w.nodes ≡ [])
MayStand w l = FitsLine l

-- a line at its begin
abbrev pub begun_with : World → Line → Doing
begun_with w l = record { world = w; own = []; left = left_of l }

-- what comes of a line of a world that takes one
abbrev pub made_of : Room → World → Line → Next
made_of room w l = steps (enough w l) room (opening w l)

-- A line of this world came to its end; or it isn't done after the steps that it is allowed.
abbrev pub HasRun : Room → Working → Line → Working → Result Bool WorldErr → Type 0
HasRun room old l new (Ok true) = (made_of room old.doing.world l ≡ finished new.doing.world) × WentOn old new
HasRun room old l new (Ok false) = (made_of room old.doing.world l ≡ goes_on new.doing) × WentOn old new
HasRun room old l new (Err e) = HasEnded room old (enough old.doing.world l) (opening old.doing.world l) new e

-- the line isn't taken up; or it is the last line, after the entries of the steps that it finished, if any
abbrev pub IsLeft : Room → World → Line → World → Type 0
IsLeft room old l new =
    ((new.entries ≡ old.entries) × (new.lines ≡ old.lines))
    ⊎ ((new.lines ≡ old.lines ++ l ∷ []) × ((new.entries ≡ old.entries) ⊎ ((part : World) × IsPartOf room old l part × (new.entries ≡ part.entries))))

-- the line came to its end by this cause: the entries are those of the steps that it finished, and it is the last line
pub record CameTo (room : Room) (old : World) (l : Line) (cause : Cause) (new : World) : Type 0 where
  pub part : World
  pub ended : done room old l ≡ ends cause part
  pub entries : new.entries ≡ part.entries
  pub lines : new.lines ≡ old.lines ++ l ∷ []

-- Why a line isn't done: it breaks a rule, and nothing has changed; it came to a limit; a record of it had no room; or memory
-- ran out.
abbrev pub IsRefused : Room → World → Line → World → WorldErr → Type 0
IsRefused room old l new (error.Illegal rule) = (refusal old l ≡ Some rule) × (new ≡ old)
IsRefused room old l new (error.Limit what limit) =
    (refusal old l ≡ None) × CameTo room old l (came_to what) new × (limit ≡ limit_of what) × (new.ended ≡ true)
IsRefused room old l new (error.Full need limit) =
    (refusal old l ≡ None) × CameTo room old l (has_no_room (record { need = need; limit = limit })) new × (new.ended ≡ true)
IsRefused room old l new error.OutOfMemory = (refusal old l ≡ None) × IsLeft room old l new × (new.ended ≡ true)

-- The line is done: it broke no rule, the world is the one after it, and it takes another line.
pub record IsDone (room : Room) (old : World) (l : Line) (new : World) : Type 0 where
  pub legal : refusal old l ≡ None
  pub whole : World
  pub finished_in : done room old l ≡ finished whole
  pub after_it : new ≡ with_line whole l
  pub going : new.ended ≡ false

-- What `apply` does with a line.
abbrev pub IsApplied : {T : Type 0} → Room → World → Line → World → Result T WorldErr → Type 0
IsApplied room old l new (Ok value) = IsDone room old l new
IsApplied room old l new (Err e) = IsRefused room old l new e
