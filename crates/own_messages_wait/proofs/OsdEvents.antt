-- an event at an OSD: its files stand after it, and what goes to the OSD itself stands there
use Rattle.std.proofs.Common.{◌≡◌, ℕ, ◌+◌, ◌⊎◌, inl, inr, Bool, true, false, List, [], ◌∷◌, ◌++◌, map, refl, sym, ap, ap₂, subst, ◌∙◌, Option, Some, None}
use Rattle.std.specs.Prelude.{cond, ◌==◌}
use Rattle.xt_base.specs.declared.ids.FileId.{FileId}
use Rattle.xt_messages.specs.declared.event.Event.{Event}
use Rattle.xt_messages.specs.declared.event.Event.TheVariants as event
use Rattle.xt_messages.specs.declared.message.Msg.{Msg}
use Rattle.xt_messages.specs.declared.record.FileRow.{FileRow}
use Rattle.xt_protocol.specs.FileIds.{is_file}
use Rattle.xt_protocol.specs.LeaseRows.{Awake}
use Rattle.xt_protocol.proofs.Folds.{file-equal, file-itself}
use Rattle.lease_safety.specs.State.{Has}
use Rattle.lease_runs.specs.LeaseView.{is_ask}
use Rattle.xt_protocol.specs.Turns.{quiet}
use Rattle.xt_protocol.specs.FileStates.{FileState, Site, FileStep}
use Rattle.xt_protocol.specs.FileSteps.{step_of_file, wake_of_file}
use Rattle.xt_protocol.specs.Overdue.{expired}
use Rattle.xt_protocol.specs.OsdSteps.{Outside, OsdState, OsdStep, file_at, with_file, each_file, file_concerned, handle_message, asks_dir, woken, handled_awake}
use Rattle.lease_runs.specs.OsdView.{site_of, wake_step}
use Rattle.lease_runs.proofs.OsdLeases.{file_at-with_file, at_file, step_keeps, put_here}
use Rattle.world_spec.specs.NodeSteps.{to_itself}
use Rattle.world_runs.specs.View.{awake_as}
use Rattle.world_runs.specs.Worlds.{Rises, files_of}
use Rattle.world_runs.proofs.Files.{file_after}
use Rattle.world_runs.proofs.Lists.{has_in, has_map, has_filter}
use Rattle.world_runs.proofs.Rising.{before_itself, with_file_has}
use Rattle.osd_invariants.proofs.Kept.{expired_quiet, wake_follows}
use Rattle.own_messages_wait.proofs.Weights.{is_lease}
use Rattle.own_messages_wait.proofs.Standing.{Stands}
use Rattle.own_messages_wait.proofs.Mine.{token, mine-append}
use Rattle.own_messages_wait.proofs.Files.{FileStands, overdue}
use Rattle.own_messages_wait.proofs.Messages.{Gives}
use Rattle.own_messages_wait.proofs.Sizes.{ContentSmall, AreSmall, both_small}
use Rattle.own_messages_wait.proofs.FileSizes.{FileSmall, step_small, expired_small, wake_small}
use Rattle.own_messages_wait.proofs.Osds.{FileHolds, AskHolds, at_holds, KeptMoves, kept_same, OwnFits, at_stands, step_any, step_stands, step_moves, wake_any, wake_stands, wake_step_small, own_fits, sound_of}

-- a message of the OSD to itself comes
abbrev pub IsOwn : OsdState → Event → Type 0
IsOwn s (event.Deliver msg) = msg.from.0 ≡ s.started.node.0
IsOwn s event.Wake = ⊥
IsOwn s (event.Call call) = ⊥

-- what must hold of an event at an OSD
pub record OsdAfter (s : OsdState) (happens : Event) (step : OsdStep) : Type 0 where
  pub started : step.osd.started ≡ s.started
  pub stands : (f : FileState) → Has f step.osd.files → FileStands s.started.node f × FileSmall f
  pub moves : IsOwn s happens → (file : FileId) → KeptMoves (file_at (awake_as s.started) s.files file).kept (file_at (awake_as s.started) step.osd.files file).kept
  pub outs : AreSmall s.started.node step.turned.outs
  pub own : (m : Msg) → Has m (to_itself s.started.node step.turned.outs) → OwnFits (awake_as s.started) step.osd.files m.payload

-- what is heard at an OSD: the members of an ask's list are different, heads are small, and what came from the OSD itself stands there
abbrev pub Arrives : OsdState → Event → Type 0
Arrives s (event.Deliver msg) = AskHolds msg.payload × ContentSmall msg.payload × (msg.from.0 ≡ s.started.node.0 → OwnFits (awake_as s.started) s.files msg.payload)
Arrives s event.Wake = Unit {0}
Arrives s (event.Call call) = Unit {0}

-- the state of a file in a list that rises
pub found_in : (awake : Awake) (files : List FileState) (f : FileState) (st : FileState → FileState) → ((x : FileState) → (st x).kept.file ≡ x.kept.file) → Rises (files_of files) → Has f files → file_at awake (map st files) f.kept.file ≡ st f
unfolding file_at
found_in awake [] f st same rises h = absurd h
found_in awake (x ∷ xs) f st same rises (inl e) =
    ap (λ (b : Bool). cond b (st x) (file_at awake (map st xs) f.kept.file)) (ap (λ (k : FileId). is_file k f.kept.file) (same x ∙ ap (λ (y : FileState). y.kept.file) (sym e)) ∙ file-itself f.kept.file) ∙ ap st (sym e)
found_in awake (x ∷ xs) f st same rises (inr h) = at (is_file (st x).kept.file f.kept.file) refl (found_in awake xs f st same rises.1 h)
  where
    of_files : (fs : List FileState) → Has f fs → Has f.kept.file (files_of fs)
    of_files [] h = absurd h
    of_files (y ∷ ys) (inl e) = inl (ap (λ (z : FileState). z.kept.file) e)
    of_files (y ∷ ys) (inr h) = inr (of_files ys h)

    at : (b : Bool) → is_file (st x).kept.file f.kept.file ≡ b → file_at awake (map st xs) f.kept.file ≡ st f → cond b (st x) (file_at awake (map st xs) f.kept.file) ≡ st f
    at true is rest = absurd (before_itself x.kept.file f.kept.file (ap (λ (k : FileId). is_file k f.kept.file) (sym (same x)) ∙ is) (rises.0 f.kept.file (of_files xs h)))
    at false is rest = rest

module _ (outside : Outside) (s : OsdState) (now : ℕ)
    (fits : (f : FileState) → Has f s.files → FileHolds f) (stands : (f : FileState) → Has f s.files → FileStands s.started.node f × FileSmall f) (rises : Rises (files_of s.files)) where
  abbrev pub here : Awake
  here = awake_as s.started

  abbrev pub place : Site
  place = site_of outside (awake_as s.started) now

  -- nothing comes of it
  rests : (happens : Event) → OsdAfter s happens (record { osd = record { started = s.started; last = now; files = s.files }; turned = quiet })
  rests happens = record { started = refl; stands = stands; moves = λ own file. kept_same (file_at (awake_as s.started) s.files file).kept (file_at (awake_as s.started) s.files file).kept refl; outs = tt; own = λ m h. absurd h }

  -- ---- a message

  pub fit_at : (file : FileId) → FileHolds (file_at (awake_as s.started) s.files file)
  fit_at file = at_holds place (awake_as s.started) s.files fits stands file

  pub stands_at : (file : FileId) → FileStands s.started.node (file_at (awake_as s.started) s.files file) × FileSmall (file_at (awake_as s.started) s.files file)
  stands_at file = at_stands place here s.files fits stands file

  abbrev pub heard_of : (msg : Msg) (file : FileId) → Type 0
  heard_of msg file = msg.from.0 ≡ s.started.node.0 → (is_ask msg.payload ≡ false) × (is_lease msg.payload ≡ false → Stands (file_at (awake_as s.started) s.files file).kept msg.payload)

  pub heard_by : (msg : Msg) (file : FileId) → file_concerned msg.payload ≡ Some file → Arrives s (event.Deliver msg) → heard_of msg file
  heard_by msg file concerns arrives mine = let own = arrives.2 mine in (own.no_ask, λ primary. own.stands file concerns primary)

  abbrev pub step_at : Msg → FileId → FileStep
  step_at msg file = step_of_file place (file_at (awake_as s.started) s.files file) msg.from msg.payload

  pub gives_at : (msg : Msg) (file : FileId) → file_concerned msg.payload ≡ Some file → Arrives s (event.Deliver msg) → Gives s.started.node msg.from (file_at (awake_as s.started) s.files file) (step_at msg file)
  gives_at msg file concerns arrives = step_any place here s.files fits stands (file_at (awake_as s.started) s.files file) msg.from msg.payload (stands_at file).0 (fit_at file) arrives.0 (heard_by msg file concerns arrives)

  pub same_file : (msg : Msg) (file : FileId) → (step_at msg file).state.kept.file ≡ file
  same_file msg file = step_keeps place (file_at (awake_as s.started) s.files file) msg.from msg.payload ∙ at_file (awake_as s.started) s.files file

  pub there_now : (msg : Msg) (file : FileId) → file_at (awake_as s.started) (with_file s.files (step_at msg file).state) file ≡ (step_at msg file).state
  there_now msg file = file_at-with_file (awake_as s.started) s.files (step_at msg file).state file ∙ put_here (step_at msg file).state (file_at (awake_as s.started) s.files file) file (same_file msg file)

  pub stands_now : (msg : Msg) (file : FileId) → file_concerned msg.payload ≡ Some file → Arrives s (event.Deliver msg) → FileStands s.started.node (step_at msg file).state × FileSmall (step_at msg file).state
  stands_now msg file concerns arrives = (
    step_stands place here s.files fits stands (file_at (awake_as s.started) s.files file) msg.from msg.payload (stands_at file).0 (fit_at file) arrives.0 (heard_by msg file concerns arrives),
    (step_small place (file_at (awake_as s.started) s.files file) msg.from msg.payload (stands_at file).1 arrives.1).state,
  )

  concerned : (msg : Msg) (file : FileId) → file_concerned msg.payload ≡ Some file → Arrives s (event.Deliver msg)
      → OsdAfter s (event.Deliver msg) (record { osd = record { started = s.started; last = now; files = with_file s.files (step_at msg file).state }; turned = (step_at msg file).turned })
  concerned msg file concerns arrives =
      record {
        started = refl;
        stands = λ f h. elim (with_file_has s.files (step_at msg file).state f h) [
          | inl e ↦ subst (λ (x : FileState). FileStands s.started.node x × FileSmall x) (sym e) (stands_now msg file concerns arrives)
          | inr old ↦ stands f old
        ];
        moves = λ mine g. subst (λ (x : FileState). KeptMoves (file_at (awake_as s.started) s.files g).kept x.kept) (sym (file_at-with_file (awake_as s.started) s.files (step_at msg file).state g)) (moved mine g (is_file (step_at msg file).state.kept.file g) refl);
        outs = (step_small place (file_at (awake_as s.started) s.files file) msg.from msg.payload (stands_at file).1 arrives.1).outs;
        own = λ m h. own_fits place here s.files fits stands msg.from (file_at (awake_as s.started) s.files file) (step_at msg file) (with_file s.files (step_at msg file).state) (gives_at msg file concerns arrives)
            (step_keeps place (file_at (awake_as s.started) s.files file) msg.from msg.payload)
            (ap (file_at (awake_as s.started) (with_file s.files (step_at msg file).state)) (at_file (awake_as s.started) s.files file) ∙ there_now msg file) m h;
      }
    where
      moved : msg.from.0 ≡ s.started.node.0 → (g : FileId) (b : Bool) → is_file (step_at msg file).state.kept.file g ≡ b → KeptMoves (file_at (awake_as s.started) s.files g).kept (cond b (step_at msg file).state (file_at (awake_as s.started) s.files g)).kept
      moved mine g false is = kept_same (file_at (awake_as s.started) s.files g).kept (file_at (awake_as s.started) s.files g).kept refl
      moved mine g true is =
          let same : file ≡ g = sym (same_file msg file) ∙ file-equal (step_at msg file).state.kept.file g is in
          subst (λ (k : FileId). KeptMoves (file_at (awake_as s.started) s.files k).kept (step_at msg file).state.kept) same
          (step_moves place here s.files fits stands (file_at (awake_as s.started) s.files file) msg.from msg.payload (stands_at file).0 (fit_at file) arrives.0 (heard_by msg file concerns arrives) mine)

  -- ---- a Wake

  pub woke_file : (f : FileState) → (wake_step place f).state.kept.file ≡ f.kept.file
  woke_file f = ap (λ (r : FileRow). r.file) (wake_follows place (expired place f).state) ∙ file_after (expired place f).state.kept (wake_of_file place (expired place f).state).turned.rec ∙ ap (λ (r : FileRow). r.file) (expired_quiet place f).1

  -- what each file sends to the OSD itself, one after the other
  pub record WakeSends (f : FileState) (ms rest : List Msg) : Type 0 where
    pub gives : Gives s.started.node (record { 0 = s.started.node.0 + 1 }) f (wake_step place f)
    pub is : ms ≡ (token s.started.node gives.sent ++ token s.started.node gives.told) ++ rest

  pub data WokenTo : List FileState → List Msg → Type 0 where
    none_woken : WokenTo [] []
    one_woken : (f : FileState) (fs : List FileState) (ms rest : List Msg) → WakeSends f ms rest → WokenTo fs rest → WokenTo (f ∷ fs) ms

  pub gives_woken : (f : FileState) → Has f s.files → Gives s.started.node (record { 0 = s.started.node.0 + 1 }) f (wake_step place f)
  gives_woken f h = wake_any place here s.files fits stands f (stands f h).0 (fits f h)

  due_none : (f : FileState) → Has f s.files → to_itself s.started.node (expired place f).turned.outs ≡ []
  due_none f h = (overdue place f (stands f h).0 (sound_of place here s.files fits stands f (fits f h)).issued).outs

  settled_none : (fs : List FileState) → ((f : FileState) → Has f fs → Has f s.files) → to_itself s.started.node (each_file (expired place) fs).turned.outs ≡ []
  unfolding each_file
  settled_none [] within = refl
  settled_none (f ∷ fs) within =
      mine-append s.started.node (expired place f).turned.outs (each_file (expired place) fs).turned.outs ∙ ap₂ (λ (a b : List Msg). a ++ b) (due_none f (within f (inl refl))) (settled_none fs (λ x h. within x (inr h)))

  pub wakes_to : (fs : List FileState) → ((f : FileState) → Has f fs → Has f s.files) → WokenTo fs (to_itself s.started.node (each_file (wake_of_file place) (each_file (expired place) fs).files).turned.outs)
  unfolding each_file
  wakes_to [] within = none_woken
  wakes_to (f ∷ fs) within =
      let q = gives_woken f (within f (inl refl)) in
      one_woken f fs _ (to_itself s.started.node (each_file (wake_of_file place) (each_file (expired place) fs).files).turned.outs)
      (record {
        gives = q;
        is =
            mine-append s.started.node (wake_of_file place (expired place f).state).turned.outs (each_file (wake_of_file place) (each_file (expired place) fs).files).turned.outs
            ∙ ap (λ (xs : List Msg). xs ++ to_itself s.started.node (each_file (wake_of_file place) (each_file (expired place) fs).files).turned.outs)
            (sym (mine-append s.started.node (expired place f).turned.outs (wake_of_file place (expired place f).state).turned.outs
            ∙ ap (λ (xs : List Msg). xs ++ to_itself s.started.node (wake_of_file place (expired place f).state).turned.outs) (due_none f (within f (inl refl)))) ∙ q.outs);
      })
      (wakes_to fs (λ x h. within x (inr h)))

  -- of whose file a message is
  pub record WokenOf (fs : List FileState) (m : Msg) : Type 0 where
    pub file : FileState
    pub has : Has file fs
    pub out : Has m (to_itself s.started.node (wake_step place file).turned.outs)

  woken_of : (fs : List FileState) (ms : List Msg) (m : Msg) → WokenTo fs ms → Has m ms → WokenOf fs m
  woken_of [] ms m none_woken h = absurd h
  woken_of (f ∷ fs) ms m (one_woken _ _ _ rest sends others) h =
      elim (has_in m (token s.started.node sends.gives.sent ++ token s.started.node sends.gives.told) rest (subst (Has m) sends.is h)) [
        | inl mine ↦ record { file = f; has = inl refl; out = subst (Has m) (sym sends.gives.outs) mine }
        | inr later ↦ (let r = woken_of fs rest m others later in record { file = r.file; has = inr r.has; out = r.out })
      ]

  pub woken_files : (fs : List FileState) → (each_file (wake_of_file place) (each_file (expired place) fs).files).files ≡ map (λ (f : FileState). (wake_step place f).state) fs
  unfolding each_file
  woken_files [] = refl
  woken_files (f ∷ fs) = ap (λ (others : List FileState). (wake_step place f).state ∷ others) (woken_files fs)

  settled_small : (fs : List FileState) → ((f : FileState) → Has f fs → Has f s.files) → AreSmall s.started.node (each_file (expired place) fs).turned.outs
  unfolding each_file
  settled_small [] within = tt
  settled_small (f ∷ fs) within =
      both_small s.started.node (expired place f).turned.outs (each_file (expired place) fs).turned.outs (expired_small place f (stands f (within f (inl refl))).1).outs (settled_small fs (λ x h. within x (inr h)))

  wakes_small : (fs : List FileState) → ((f : FileState) → Has f fs → Has f s.files) → AreSmall s.started.node (each_file (wake_of_file place) (each_file (expired place) fs).files).turned.outs
  unfolding each_file
  wakes_small [] within = tt
  wakes_small (f ∷ fs) within =
      both_small s.started.node (wake_of_file place (expired place f).state).turned.outs (each_file (wake_of_file place) (each_file (expired place) fs).files).turned.outs
      (wake_small place (expired place f).state (expired_small place f (stands f (within f (inl refl))).1).state).outs (wakes_small fs (λ x h. within x (inr h)))

  woken_after : OsdAfter s event.Wake (record { osd = record { started = s.started; last = now; files = (woken place s.files).files }; turned = (woken place s.files).turned })
  woken_after =
      record {
        started = refl;
        stands = λ f h. let x = has_map (λ (f : FileState). (wake_step place f).state) s.files f (subst (λ (fs : List FileState). Has f fs) (woken_files s.files) h) in
            subst (λ (y : FileState). FileStands s.started.node y × FileSmall y) (sym x.2)
            (wake_stands place here s.files fits stands x.0 (stands x.0 x.1).0 (fits x.0 x.1), (wake_step_small place here s.files fits stands x.0 (stands x.0 x.1).1).state);
        moves = λ own. absurd own;
        outs = ((refl, tt), both_small s.started.node (each_file (expired place) s.files).turned.outs (each_file (wake_of_file place) (each_file (expired place) s.files).files).turned.outs (settled_small s.files (λ f h. h)) (wakes_small s.files (λ f h. h)));
        own = λ m h. own m (has_in m (to_itself s.started.node (asks_dir s.started.node ∷ [])) (to_itself s.started.node (each_file (wake_of_file place) (each_file (expired place) s.files).files).turned.outs) (subst (Has m) woken_own h));
      }
    where
      woken_own : to_itself s.started.node (woken place s.files).turned.outs ≡ to_itself s.started.node (asks_dir s.started.node ∷ []) ++ to_itself s.started.node (each_file (wake_of_file place) (each_file (expired place) s.files).files).turned.outs
      woken_own =
          mine-append s.started.node (asks_dir s.started.node ∷ []) ((each_file (expired place) s.files).turned.outs ++ (each_file (wake_of_file place) (each_file (expired place) s.files).files).turned.outs)
          ∙ ap (λ (xs : List Msg). to_itself s.started.node (asks_dir s.started.node ∷ []) ++ xs)
          (mine-append s.started.node (each_file (expired place) s.files).turned.outs (each_file (wake_of_file place) (each_file (expired place) s.files).files).turned.outs
          ∙ ap (λ (xs : List Msg). xs ++ to_itself s.started.node (each_file (wake_of_file place) (each_file (expired place) s.files).files).turned.outs) (settled_none s.files (λ f h. h)))

      dir_fits : (after : List FileState) (m : Msg) → Has m (to_itself s.started.node (asks_dir s.started.node ∷ [])) → OwnFits (awake_as s.started) after m.payload
      dir_fits after m h =
          let at : Has m (asks_dir s.started.node ∷ []) = (has_filter (λ (k : Msg). k.to.0 == s.started.node.0) m (asks_dir s.started.node ∷ []) h).0 in
          is_dir at
        where
          is_dir : Has m (asks_dir s.started.node ∷ []) → OwnFits (awake_as s.started) after m.payload
          is_dir (inl e) = subst (λ (k : Msg). OwnFits (awake_as s.started) after k.payload) (sym e) (record { no_ask = refl; stands = λ file concerns primary. absurd (cc) })
          is_dir (inr h) = absurd h

      own : (m : Msg) → Has m (to_itself s.started.node (asks_dir s.started.node ∷ [])) ⊎ Has m (to_itself s.started.node (each_file (wake_of_file place) (each_file (expired place) s.files).files).turned.outs)
          → OwnFits (awake_as s.started) (woken place s.files).files m.payload
      own m (inl dir) = dir_fits (woken place s.files).files m dir
      own m (inr one) =
          let w = woken_of s.files (to_itself s.started.node (each_file (wake_of_file place) (each_file (expired place) s.files).files).turned.outs) m (wakes_to s.files (λ f h. h)) one in
          own_fits place here s.files fits stands (record { 0 = s.started.node.0 + 1 }) w.file (wake_step place w.file) (woken place s.files).files (gives_woken w.file w.has) (woke_file w.file)
          (ap (λ (fs : List FileState). file_at (awake_as s.started) fs w.file.kept.file) (woken_files s.files) ∙ found_in (awake_as s.started) s.files w.file (λ (f : FileState). (wake_step place f).state) woke_file rises w.has) m w.out

  pub woken_to : to_itself s.started.node (woken place s.files).turned.outs ≡ to_itself s.started.node (asks_dir s.started.node ∷ []) ++ to_itself s.started.node (each_file (wake_of_file place) (each_file (expired place) s.files).files).turned.outs
  woken_to =
      mine-append s.started.node (asks_dir s.started.node ∷ []) ((each_file (expired place) s.files).turned.outs ++ (each_file (wake_of_file place) (each_file (expired place) s.files).files).turned.outs)
      ∙ ap (λ (xs : List Msg). to_itself s.started.node (asks_dir s.started.node ∷ []) ++ xs)
      (mine-append s.started.node (each_file (expired place) s.files).turned.outs (each_file (wake_of_file place) (each_file (expired place) s.files).files).turned.outs
      ∙ ap (λ (xs : List Msg). xs ++ to_itself s.started.node (each_file (wake_of_file place) (each_file (expired place) s.files).files).turned.outs) (settled_none s.files (λ f h. h)))

  -- ---- any event

  message_after : (msg : Msg) (o : Option FileId) → file_concerned msg.payload ≡ o → Arrives s (event.Deliver msg)
      → OsdAfter s (event.Deliver msg) (let step = handle_message place here s.files msg o in record { osd = record { started = s.started; last = now; files = step.files }; turned = step.turned })
  message_after msg None concerns arrives = rests (event.Deliver msg)
  message_after msg (Some file) concerns arrives = concerned msg file concerns arrives

  -- a silent OSD, or one that is awake
  pub event_after : (happens : Event) (silent : Bool) → Arrives s happens → OsdAfter s happens (handled_awake outside s now happens (cond silent None (Some (awake_as s.started))))
  event_after happens true arrives = record { started = refl; stands = stands; moves = λ own file. kept_same (file_at (awake_as s.started) s.files file).kept (file_at (awake_as s.started) s.files file).kept refl; outs = tt; own = λ m h. absurd h }
  event_after (event.Deliver msg) false arrives = message_after msg (file_concerned msg.payload) refl arrives
  event_after event.Wake false arrives = woken_after
  event_after (event.Call call) false arrives = rests (event.Call call)
