-- the run that a world is
use Rattle.std.proofs.Common.{◌≡◌, ◌⊎◌, inl, inr, ℕ, zero, suc, Bool, true, false, if◌then◌else◌, None, Ok, Err, List, [], ◌∷◌, ◌++◌, refl, ap, sym, ◌∙◌, subst, arith}
use Rattle.std.specs.List.{fold, AllByRecursion}
use Rattle.time_line.specs.declared.line.Line.{Line}
use Rattle.time_line.specs.declared.line.Line.TheVariants as line
use Rattle.world_spec.specs.World.{World, start_world}
use Rattle.world_spec.specs.Rules.{refusal}
use Rattle.world_spec.specs.NodeSteps.{Room, Doing}
use Rattle.world_spec.specs.Lines.{Next, finished, goes_on, opening, begins, steps, so_far, done}
use Rattle.time_line.specs.Bounds.{AreLines, FitsLine, FitsLater, sets_times}
use Rattle.world_spec.specs.Runs.{with_line, left_by, after, after_refusal, run_of, IsPartOf, IsOver, IsEnough}
use Rattle.world_hull.specs.declared.errors.WorldErr.{WorldErr}
use Rattle.world_hull.specs.declared.errors.WorldErr.TheVariants as error
use Rattle.world_step.specs.Steps.{Working}
use Rattle.world_limits.specs.Fits.{FitsAt, DoStepsFit}
use Rattle.world_core.specs.RunStates.{HasRun, IsDone, IsRefused, MayStand, AllFit, begun_with, made_of}
use Rattle.world_core.proofs.Turns.{none_yet}
use Rattle.world_core.proofs.Whole.{opening_in, takes, done_is}

pub no_run : (room : Room) → start_world ≡ run_of room []
unfolding run_of
no_run room = refl

fold_last : (room : Room) (w : World) (ls : List Line) (l : Line) → fold (after room) w (ls ++ l ∷ []) ≡ after room (fold (after room) w ls) l
fold_last room w [] l = refl
fold_last room w (x ∷ xs) l = fold_last room (after room w x) xs l

run_last : (room : Room) (ls : List Line) (l : Line) → run_of room (ls ++ l ∷ []) ≡ after room (run_of room ls) l
unfolding run_of
run_last room ls l = fold_last room start_world ls l

after_is : (room : Room) (w : World) (l : Line) → w.ended ≡ false → refusal w l ≡ None → after room w l ≡ left_by l (done room w l)
unfolding after
after_is room w l going legal = ap (λ (b : Bool). if b then w else after_refusal room w l (refusal w l)) going ∙ ap (after_refusal room w l) legal

-- the world after a line that is done is the run with that line
pub applied_run : (room : Room) (w whole : World) (l : Line) → w.ended ≡ false → w ≡ run_of room w.lines → refusal w l ≡ None → done room w l ≡ finished whole → whole.lines ≡ w.lines
    → with_line whole l ≡ run_of room (whole.lines ++ l ∷ [])
applied_run room w whole l going is legal ended same =
    sym
    (ap (λ (ls : List Line). run_of room (ls ++ l ∷ [])) same ∙ run_last room w.lines l ∙ ap (λ (x : World). after room x l) (sym is) ∙ after_is room w l going legal
    ∙ ap (left_by l) ended)

-- ---- the line is allowed there

last_later : (ls : List Line) (l : Line) → AllByRecursion FitsLater (ls ++ l ∷ []) → FitsLater l
last_later [] l are = are.0
last_later (x ∷ xs) l are = last_later xs l are.1

last_fits : (ls : List Line) (l : Line) → AreLines (ls ++ l ∷ []) → FitsLine l × (sets_times l ≡ true → ls ≡ [])
last_fits [] l are = (are.0, λ e. refl)
last_fits (x ∷ xs) l are = (let later = last_later xs l are.1 in (later.0, λ e. absurd (cc (e, later.1))))

pub may_stand : (room : Room) (w : World) (l : Line) → w ≡ run_of room w.lines → AreLines (w.lines ++ l ∷ []) → MayStand w l
may_stand room w (line.Times lease drift) is are =
    let fits = last_fits w.lines (line.Times lease drift) are in
    (fits.0, ap (λ (x : World). x.nodes) (is ∙ ap (run_of room) (fits.1 refl) ∙ sym (no_run room)))
may_stand room w (line.Osd node) is are = (last_fits w.lines (line.Osd node) are).0
may_stand room w line.Mrc is are = (last_fits w.lines line.Mrc are).0
may_stand room w line.Dir is are = (last_fits w.lines line.Dir are).0
may_stand room w (line.Client node clock) is are = (last_fits w.lines (line.Client node clock) are).0
may_stand room w (line.File number location) is are = (last_fits w.lines (line.File number location) are).0
may_stand room w (line.Start node clock) is are = (last_fits w.lines (line.Start node clock) are).0
may_stand room w (line.Stop node) is are = (last_fits w.lines (line.Stop node) are).0
may_stand room w (line.Crash node k fill) is are = (last_fits w.lines (line.Crash node k fill) are).0
may_stand room w (line.Cut node count) is are = (last_fits w.lines (line.Cut node count) are).0
may_stand room w (line.Clock node clock) is are = (last_fits w.lines (line.Clock node clock) are).0
may_stand room w (line.Tick count) is are = (last_fits w.lines (line.Tick count) are).0
may_stand room w (line.Wake node) is are = (last_fits w.lines (line.Wake node) are).0
may_stand room w (line.Call id c) is are = (last_fits w.lines (line.Call id c) are).0
may_stand room w (line.Again id) is are = (last_fits w.lines (line.Again id) are).0
may_stand room w (line.Aim id file node) is are = (last_fits w.lines (line.Aim id file node) are).0
may_stand room w (line.Deliver number) is are = (last_fits w.lines (line.Deliver number) are).0
may_stand room w (line.Drop number) is are = (last_fits w.lines (line.Drop number) are).0
may_stand room w (line.Settle count) is are = (last_fits w.lines (line.Settle count) are).0

-- ---- what holds of the steps of a line of a run

-- each is made in a world that fits
pub all_fit : (room : Room) (w : World) (l : Line) → w.ended ≡ false → w ≡ run_of room w.lines → refusal w l ≡ None → AreLines (w.lines ++ l ∷ []) → DoStepsFit room → AllFit room (opening w l)
all_fit room w l going is legal are fit = λ k.
    subst (λ (n : Next). FitsAt (steps k room n)) (takes w l going)
    (subst (λ (x : World). FitsAt (steps k room (begins x l))) (sym is) (fit w.lines l k are (subst (λ (x : World). refusal x l ≡ None) is legal)))

-- and after those that it is allowed it is over
pub is_over : (room : Room) (w : World) (l : Line) (d : Doing) → w.ended ≡ false → w ≡ run_of room w.lines → refusal w l ≡ None → AreLines (w.lines ++ l ∷ []) → IsEnough room → made_of room w l ≡ goes_on d → ⊥
is_over room w l d going is legal are enough_so so =
    subst IsOver (done_is room w l going ∙ so)
    (subst (λ (x : World). IsOver (done room x l)) (sym is) (enough_so w.lines l are (subst (λ (x : World). refusal x l ≡ None) is legal)))

-- ---- the end of a line, which is shown

module _ (room : Room) (w : World) (l : Line) (ended shown : Working) (early : Bool)
    (is_shown : shown ≡ record ended { doing = record ended.doing { world = record ended.doing.world { lines = ended.doing.world.lines ++ ended.begun; ended = early } }; begun = [] })
    (legal : refusal w l ≡ None) (going : w.ended ≡ false) where
  abbrev begun : Working
  begun = record { doing = begun_with w l; begun = l ∷ [] }

  its_lines : ended.doing.world.lines ≡ w.lines → ended.begun ≡ l ∷ [] → shown.doing.world.lines ≡ w.lines ++ l ∷ []
  its_lines lines last = ap (λ (x : Working). x.doing.world.lines) is_shown ∙ ap (λ (ls : List Line). ls ++ ended.begun) lines ∙ ap (λ (ls : List Line). w.lines ++ ls) last

  its_entries : shown.doing.world.entries ≡ ended.doing.world.entries
  its_entries = ap (λ (x : Working). x.doing.world.entries) is_shown

  its_end : (b : Bool) → early ≡ b → shown.doing.world.ended ≡ b
  its_end b is = ap (λ (x : Working). x.doing.world.ended) is_shown ∙ is

  by_steps : (k : ℕ) (part : World) → so_far (steps k room (opening w l)) ≡ part → ended.doing.world.entries ≡ part.entries
      → (shown.doing.world.entries ≡ w.entries) ⊎ ((p : World) × IsPartOf room w l p × (shown.doing.world.entries ≡ p.entries))
  by_steps zero part is so =
      inl (its_entries ∙ so ∙ ap (λ (x : World). x.entries) (sym is ∙ ap so_far (none_yet room (opening w l)) ∙ opening_in w l))
  by_steps (suc k) part is so =
      inr (part, (suc k, omega arith, ap (λ (n : Next). so_far (steps (suc k) room n)) (takes w l going) ∙ is), its_entries ∙ so)

  pub refused_is : (old : World) (e : WorldErr) → old ≡ w → early ≡ true → HasRun room begun l ended (Err e) → IsRefused room old l shown.doing.world e
  refused_is old e same late so = subst (λ (x : World). IsRefused room x l shown.doing.world e) (sym same) (at e so)
    where
      at : (e : WorldErr) → HasRun room begun l ended (Err e) → IsRefused room w l shown.doing.world e
      at (error.Illegal rule) is = absurd (is)
      at (error.Limit what limit) is = (
        legal,
        record { part = is.0; ended = done_is room w l going ∙ is.1; entries = its_entries ∙ is.3.entries; lines = its_lines is.3.lines is.3.begun },
        is.2,
        its_end true late,
      )
      at (error.Full need limit) is = (
        legal,
        record { part = is.0; ended = done_is room w l going ∙ is.1; entries = its_entries ∙ is.2.entries; lines = its_lines is.2.lines is.2.begun },
        its_end true late,
      )
      at error.OutOfMemory is = (
        legal,
        inr (its_lines is.2.lines is.2.begun, by_steps is.0 (so_far (steps is.0 room (opening w l))) refl is.2.entries),
        its_end true late,
      )

  -- the line is done
  left_whole : early ≡ false → HasRun room begun l ended (Ok true) → shown.doing.world ≡ with_line ended.doing.world l
  left_whole none so =
      let last : ended.begun ≡ l ∷ [] = ap (λ (x : Working). x.begun) so.1.rest in
      ap (λ (x : Working). x.doing.world) is_shown
      ∙ ap (λ (ls : List Line). record ended.doing.world { lines = ended.doing.world.lines ++ ls; ended = early }) last
      ∙ ap (λ (b : Bool). record (with_line ended.doing.world l) { ended = b }) (none ∙ sym (so.1.ended ∙ going))

  pub done_so : (old : World) → old ≡ w → early ≡ false → HasRun room begun l ended (Ok true) → IsDone room old l shown.doing.world
  done_so old same none so =
      subst (λ (x : World). IsDone room x l shown.doing.world) (sym same)
      (record {
        legal = legal;
        whole = ended.doing.world;
        finished_in = done_is room w l going ∙ so.0;
        after_it = left_whole none so;
        going = its_end false none;
      })

  pub finished_run : early ≡ false → w ≡ run_of room w.lines → AreLines (w.lines ++ l ∷ []) → HasRun room begun l ended (Ok true)
      → (shown.doing.world ≡ run_of room shown.doing.world.lines) × AreLines shown.doing.world.lines
  finished_run none is are so =
      let last : ended.begun ≡ l ∷ [] = ap (λ (x : Working). x.begun) so.1.rest in
      let lines : shown.doing.world.lines ≡ w.lines ++ l ∷ [] = its_lines so.1.lines last in (
        left_whole none so ∙ applied_run room w ended.doing.world l going is legal (done_is room w l going ∙ so.0) so.1.lines
            ∙ ap (run_of room) (ap (λ (ls : List Line). ls ++ l ∷ []) so.1.lines ∙ sym lines),
        subst AreLines (sym lines) are,
      )
