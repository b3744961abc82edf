-- What comes of an event from outside at an OSD: its messages to itself weigh no more than so much for each busy file.
use Rattle.std.proofs.Common.{◌≡◌, ℕ, ◌≤◌, ◌+◌, inl, inr, Bool, true, false, List, [], ◌∷◌, ◌++◌, map, refl, sym, ap, ap₂, subst, ◌∙◌, arith, Option, Some, None, append-nil}
use Rattle.std.specs.Prelude.{◌&&◌, ◌||◌, cond, ◌==◌}
use Rattle.xt_base.specs.declared.ids.NodeId.{NodeId}
use Rattle.xt_base.specs.declared.ids.FileId.{FileId}
use Rattle.xt_messages.specs.declared.file.Location.{Location}
use Rattle.xt_messages.specs.declared.event.Event.{Event}
use Rattle.xt_messages.specs.declared.event.Event.TheVariants as event
use Rattle.xt_messages.specs.declared.message.Msg.{Msg}
use Rattle.xt_messages.specs.declared.message.Payload.{Payload}
use Rattle.xt_messages.specs.declared.record.FileRow.{FileRow}
use Rattle.xt_protocol.specs.FileIds.{is_file}
use Rattle.xt_protocol.specs.LeaseRows.{Awake}
use Rattle.xt_protocol.proofs.Folds.{file-equal, file-itself}
use Rattle.lease_safety.specs.State.{Has}
use Rattle.xt_protocol.specs.FileStates.{FileState, Site, FileStep}
use Rattle.xt_protocol.specs.FileSteps.{step_of_file}
use Rattle.xt_protocol.specs.OsdSteps.{Outside, OsdState, FilesStep, file_at, with_file, file_concerned, handle_message, handle_event}
use Rattle.lease_runs.specs.OsdView.{site_of}
use Rattle.lease_runs.proofs.OsdLeases.{file_at-with_file, at_file}
use Rattle.world_spec.specs.declared.PlacedFile.{PlacedFile}
use Rattle.world_spec.specs.World.{file_in}
use Rattle.world_spec.specs.NodeSteps.{to_itself}
use Rattle.world_runs.specs.View.{awake_as}
use Rattle.world_runs.specs.Worlds.{AreBehind, FileFits, IsKnown, Rises, files_of}
use Rattle.own_messages_wait.proofs.Osds.{FileHolds}
use Rattle.world_runs.proofs.Rising.{before_itself}
use Rattle.own_messages_wait.proofs.Weights.{is_lease, tenure_left}
use Rattle.own_messages_wait.proofs.Standing.{IfAbout, IfMessage, IfWaits, waits}
use Rattle.own_messages_wait.proofs.Tests.{false_true}
use Rattle.own_messages_wait.proofs.Mine.{token}
use Rattle.own_messages_wait.proofs.Leases.{IsLeaseOf}
use Rattle.own_messages_wait.proofs.Files.{FileStands, IfLed, IsLed, chain_weight}
use Rattle.own_messages_wait.proofs.Messages.{Gives, lease_of}
use Rattle.own_messages_wait.proofs.FileSizes.{FileSmall}
use Rattle.own_messages_wait.proofs.OsdEvents.{same_file}
use Rattle.own_messages_wait.proofs.Chains.{Chain, primary_about, list_of, own_sum, put, total, total_with, has_file, about-append, sum-append, both_about, both_sum, stands_primary, behind_absent, has_with}
use Rattle.std.proofs.Common.{◌*◌, length, is_some}
use Rattle.std.proofs.lemmas.Bool.Decides.{nat_tests}
use Rattle.std.proofs.lemmas.Bool.{and_parts}
use Rattle.xt_protocol.specs.LeaseRows.{LeaseState, free, asking, writing, held}
use Rattle.osd_invariants.specs.Sound.{IsStored}
use Rattle.lease_runs.specs.ActsView.{IsBusy}
use Rattle.lease_runs.specs.OsdView.{wake_step}
use Rattle.xt_protocol.specs.FileSteps.{wake_of_file}
use Rattle.xt_protocol.specs.Overdue.{expired}
use Rattle.xt_protocol.specs.OsdSteps.{asks_dir, each_file, woken}
use Rattle.world_spec.specs.Lines.{OWN}
use Rattle.world_runs.specs.Worlds.{Listed}
use Rattle.own_messages_wait.proofs.Rows.{one_if}
use Rattle.own_messages_wait.proofs.Leases.{IsFree}
use Rattle.own_messages_wait.proofs.Bounds.{file_low}
use Rattle.own_messages_wait.proofs.OneFile.{AreAbout, IsAlone, idle, idle_with, no_message, tokens_about}
use Rattle.own_messages_wait.proofs.OsdEvents.{Arrives, stands_now, gives_at, gives_woken, WokenTo, none_woken, one_woken, wakes_to, woken_files, woken_to, woke_file}

-- ---- busy files

abbrev pub is_busy : LeaseState → Bool
is_busy (free p) = false
is_busy (asking r) = true
is_busy (writing r) = true
is_busy (held h) = true

busy_so : (l : LeaseState) → is_busy l ≡ true → IsBusy l
busy_so (free p) is = absurd (false_true is)
busy_so (asking r) is = tt
busy_so (writing r) is = tt
busy_so (held h) is = tt

abbrev pub count_busy : List FileState → ℕ
count_busy [] = 0
count_busy (f ∷ fs) = one_if (is_busy f.lease) + count_busy fs

-- what a file's messages can weigh in all, where they go out
pub load : (n : NodeId) (f : FileState) (told sent : Option Payload) → FileStands n f × FileSmall f → IsLeaseOf 4 told → (IsFree f.lease → (told ≡ None) × (sent ≡ None)) → chain_weight n f sent + lease_of told ≤ OWN * one_if (is_busy f.lease)
load n f told sent its lease idle = at f.lease refl
  where
    low : chain_weight n f sent + lease_of told ≤ OWN
    low = file_low n f told sent its.0 its.1 lease

    busy : (b : Bool) → is_busy f.lease ≡ b → b ≡ true → chain_weight n f sent + lease_of told ≤ OWN * one_if (is_busy f.lease)
    busy b is e = (let one = ap one_if (is ∙ e) in let most = low in omega (arith, one, most))

    at : (l : LeaseState) → f.lease ≡ l → chain_weight n f sent + lease_of told ≤ OWN * one_if (is_busy f.lease)
    at (free p) is =
        let none = idle (subst IsFree (sym is) tt) in
        let nothing = ap lease_of none.0 in
        let weight = ap (chain_weight n f) none.1 ∙ ap (λ (l : LeaseState). tenure_left l f.primary.tenure f.asks) is in
        omega (arith, nothing, weight)
    at (asking r) is = busy true (ap is_busy is) refl
    at (writing r) is = busy true (ap is_busy is) refl
    at (held h) is = busy true (ap is_busy is) refl

-- ---- in a world there are no more of them than known files

abbrev pub hits : PlacedFile → FileState → Bool
hits d f = is_busy f.lease && (d.file.number == f.kept.file.number)

abbrev pub count_hits : PlacedFile → List FileState → ℕ
count_hits d [] = 0
count_hits d (f ∷ fs) = one_if (hits d f) + count_hits d fs

abbrev pub count_in : List PlacedFile → List FileState → ℕ
count_in ds [] = 0
count_in ds (f ∷ fs) = one_if (is_busy f.lease && is_some (file_in ds f.kept.file.number)) + count_in ds fs

in_more : (d : PlacedFile) (ds : List PlacedFile) (fs : List FileState) → count_in (d ∷ ds) fs ≤ count_hits d fs + count_in ds fs
unfolding file_in
in_more d ds [] = omega arith
in_more d ds (f ∷ fs) =
    let rest = in_more d ds fs in
    let here = at (is_busy f.lease) (d.file.number == f.kept.file.number) in
    omega (arith, rest, here)
  where
    at : (a b : Bool) → one_if (a && is_some (cond b (Some d) (file_in ds f.kept.file.number))) ≤ one_if (a && b) + one_if (a && is_some (file_in ds f.kept.file.number))
    at true true = omega arith
    at true false = omega arith
    at false b = omega arith

in_none : (fs : List FileState) → count_in [] fs ≡ 0
unfolding file_in
in_none [] = refl
in_none (f ∷ fs) = at (is_busy f.lease) (in_none fs)
  where
    at : (a : Bool) → count_in [] fs ≡ 0 → one_if (a && false) + count_in [] fs ≡ 0
    at true rest = omega (arith, rest)
    at false rest = omega (arith, rest)

-- the busy ones are known
abbrev pub AreKnown : List PlacedFile → List FileState → Type 0
AreKnown known fs = (f : FileState) → Has f fs → IsBusy f.lease → (location : Location) × IsKnown known f.kept.file location

none_hit : (d : PlacedFile) (fs : List FileState) → ((f : FileState) → Has f fs → hits d f ≡ false) → count_hits d fs ≡ 0
none_hit d [] none = refl
none_hit d (f ∷ fs) none = (let rest = none_hit d fs (λ g h. none g (inr h)) in let here = ap one_if (none f (inl refl)) in omega (arith, rest, here))

has_id : (fs : List FileState) (g : FileState) → Has g fs → Has g.kept.file (files_of fs)
has_id [] g h = absurd h
has_id (f ∷ fs) g (inl e) = inl (ap (λ (x : FileState). x.kept.file) e)
has_id (f ∷ fs) g (inr h) = inr (has_id fs g h)

same_known : (known : List PlacedFile) (a b : FileId) (x y : Location) → IsKnown known a x → IsKnown known b y → a.number ≡ b.number → a ≡ b
same_known known a b x y one two e =
    let same : Some (let k : PlacedFile = record { file = a; location = x } in k) ≡ Some (record { file = b; location = y }) = sym one ∙ ap (file_in known) e ∙ two in
    ap (λ (o : Option PlacedFile). elim o [ None ↦ a | Some k ↦ k.file ]) same

hit_once : (known : List PlacedFile) (d : PlacedFile) (fs : List FileState) → Rises (files_of fs) → AreKnown known fs → count_hits d fs ≤ 1
hit_once known d [] rises are = omega arith
hit_once known d (f ∷ fs) rises are = at (hits d f) refl (hit_once known d fs rises.1 (λ g h. are g (inr h)))
  where
    numbers : (a b c : ℕ) → (a == b) ≡ true → (a == c) ≡ true → b ≡ c
    numbers a b c one two = grind (arith, nat_tests)

    again : hits d f ≡ true → (g : FileState) → Has g fs → (b : Bool) → hits d g ≡ b → b ≡ false
    again one g h false is = refl
    again one g h true is =
        let p = and_parts (is_busy f.lease) (d.file.number == f.kept.file.number) one in
        let q = and_parts (is_busy g.lease) (d.file.number == g.kept.file.number) is in
        let first = are f (inl refl) (busy_so f.lease p.0) in
        let other = are g (inr h) (busy_so g.lease q.0) in
        let same : f.kept.file ≡ g.kept.file = same_known known f.kept.file g.kept.file first.0 other.0 first.1 other.1 (numbers d.file.number f.kept.file.number g.kept.file.number p.1 q.1) in
        absurd (before_itself f.kept.file g.kept.file (ap (is_file f.kept.file) (sym same) ∙ file-itself f.kept.file) (rises.0 g.kept.file (has_id fs g h)))

    at : (b : Bool) → hits d f ≡ b → count_hits d fs ≤ 1 → one_if (hits d f) + count_hits d fs ≤ 1
    at true is rest = (let none = none_hit d fs (λ g h. again is g h (hits d g) refl) in let one = ap one_if is in omega (arith, none, one))
    at false is rest = (let one = ap one_if is in omega (arith, rest, one))

in_low : (known ds : List PlacedFile) (fs : List FileState) → Rises (files_of fs) → AreKnown known fs → count_in ds fs ≤ length ds
in_low known [] fs rises are = (let none = in_none fs in omega (arith, none))
in_low known (d ∷ ds) fs rises are =
    let more = in_more d ds fs in
    let once = hit_once known d fs rises are in
    let rest = in_low known ds fs rises are in
    omega (arith, more, once, rest)

-- where a list is stored it is that of a known file
listed_known : (known : List PlacedFile) (file : FileId) (o : Option Location) → Listed known file o → IsStored o → (location : Location) × IsKnown known file location
listed_known known file None listed stored = absurd stored
listed_known known file (Some location) listed stored = (location, listed)

all_known : (known : List PlacedFile) (fs : List FileState) → ((f : FileState) → Has f fs → FileFits known f) → AreKnown known fs
all_known known fs fits f h busy = listed_known known f.kept.file f.kept.location (fits f h).listed ((fits f h).stored busy)

busy_in : (known : List PlacedFile) (fs : List FileState) → AreKnown known fs → count_busy fs ≤ count_in known fs
busy_in known [] are = omega arith
busy_in known (f ∷ fs) are =
    let rest = busy_in known fs (λ g h. are g (inr h)) in
    let here = at (is_busy f.lease) refl in
    omega (arith, rest, here)
  where
    at : (b : Bool) → is_busy f.lease ≡ b → one_if b ≤ one_if (b && is_some (file_in known f.kept.file.number))
    at false is = omega arith
    at true is =
        let found = (are f (inl refl) (busy_so f.lease is)).1 in
        let one = ap one_if (ap (λ (o : Option PlacedFile). is_some o) found) in
        omega (arith, one)

pub busy_low : (known : List PlacedFile) (fs : List FileState) → ((f : FileState) → Has f fs → FileFits known f) → Rises (files_of fs) → count_busy fs ≤ length known
busy_low known fs fits rises =
    let are = all_known known fs fits in
    let one = busy_in known fs are in
    let two = in_low known known fs rises are in
    omega (arith, one, two)

-- ---- the state of a file in the list

pub found_here : (awake : Awake) (fs : List FileState) (f : FileState) → Rises (files_of fs) → Has f fs → file_at awake fs f.kept.file ≡ f
unfolding file_at
found_here awake [] f rises h = absurd h
found_here awake (x ∷ xs) f rises (inl e) = ap (λ (b : Bool). cond b x (file_at awake xs f.kept.file)) (ap (λ (y : FileState). is_file y.kept.file f.kept.file) (sym e) ∙ file-itself f.kept.file) ∙ sym e
found_here awake (x ∷ xs) f rises (inr h) = at (is_file x.kept.file f.kept.file) refl (found_here awake xs f rises.1 h)
  where
    at : (b : Bool) → is_file x.kept.file f.kept.file ≡ b → file_at awake xs f.kept.file ≡ f → cond b x (file_at awake xs f.kept.file) ≡ f
    at true is rest = absurd (before_itself x.kept.file f.kept.file is (rises.0 f.kept.file (has_id xs f h)))
    at false is rest = rest

pub at_has : (awake : Awake) (fs : List FileState) (g : FileId) → has_file fs g ≡ true → Has (file_at awake fs g) fs
unfolding file_at
at_has awake [] g is = absurd (false_true is)
at_has awake (f ∷ fs) g is = at (is_file f.kept.file g) is (at_has awake fs g)
  where
    at : (b : Bool) → (b || has_file fs g) ≡ true → (has_file fs g ≡ true → Has (file_at awake fs g) fs) → Has (cond b f (file_at awake fs g)) (f ∷ fs)
    at true is rest = inl refl
    at false is rest = inr (rest is)

pub in_file : (fs : List FileState) (f : FileState) → Has f fs → has_file fs f.kept.file ≡ true
in_file [] f h = absurd h
in_file (x ∷ xs) f (inl e) = ap (λ (b : Bool). b || has_file xs f.kept.file) (ap (λ (y : FileState). is_file y.kept.file f.kept.file) (sym e) ∙ file-itself f.kept.file)
in_file (x ∷ xs) f (inr h) = ap (λ (b : Bool). is_file x.kept.file f.kept.file || b) (in_file xs f h) ∙ yes_or (is_file x.kept.file f.kept.file)
  where
    yes_or : (b : Bool) → (b || true) ≡ true
    yes_or true = refl
    yes_or false = refl

-- ---- sums

abbrev pub extras : (FileId → ℕ) → List FileState → ℕ
extras extra [] = 0
extras extra (f ∷ fs) = extra f.kept.file + extras extra fs

extra_in : (extra : FileId → ℕ) (fs : List FileState) (g : FileId) → has_file fs g ≡ true → extra g ≤ extras extra fs
extra_in extra [] g is = absurd (false_true is)
extra_in extra (f ∷ fs) g is = at (is_file f.kept.file g) refl is (extra_in extra fs g)
  where
    at : (b : Bool) → is_file f.kept.file g ≡ b → (b || has_file fs g) ≡ true → (has_file fs g ≡ true → extra g ≤ extras extra fs) → extra g ≤ extra f.kept.file + extras extra fs
    at true same is rest = (let its = ap extra (file-equal f.kept.file g same) in omega (arith, its))
    at false same is rest = (let low = rest is in omega (arith, low))

all_low : (n : NodeId) (sent : FileId → Option Payload) (extra : FileId → ℕ) (fs : List FileState) → ((f : FileState) → Has f fs → chain_weight n f (sent f.kept.file) + extra f.kept.file ≤ OWN * one_if (is_busy f.lease))
    → total n sent fs + extras extra fs ≤ OWN * count_busy fs
all_low n sent extra [] each = omega arith
all_low n sent extra (f ∷ fs) each =
    let rest = all_low n sent extra fs (λ g h. each g (inr h)) in
    let here = each f (inl refl) in
    omega (arith, rest, here)

-- ---- the event

-- the first message of the primary
abbrev pub primary_of : List Msg → Option Payload
primary_of [] = None
primary_of (m ∷ ms) = cond (is_lease m.payload) (primary_of ms) (Some m.payload)

primary_is : (n : NodeId) (row : FileRow) (sent told : Option Payload) → IfMessage row sent → IsLeaseOf 4 told → primary_of (token n sent ++ token n told) ≡ sent
primary_is n row None None is lease = refl
primary_is n row None (Some t) is lease = ap (λ (b : Bool). cond b None (Some t)) lease.0
primary_is n row (Some c) told is lease = ap (λ (b : Bool). cond b (primary_of (token n told)) (Some c)) (stands_primary row c is.0)

only : (b : Bool) (o : Option Payload) → cond b (list_of o) [] ≡ list_of (cond b o None)
only true o = refl
only false o = refl

-- a Wake may ask the DIR, which may be the OSD itself
abbrev pub room_of : Event → ℕ
room_of event.Wake = 1
room_of _ = 0

-- not from the node itself
abbrev pub IsOutside : NodeId → Event → Type 0
IsOutside n (event.Deliver m) = (m.from.0 == n.0) ≡ false
IsOutside n _ = Unit {0}

pub loosen : (awake : Awake) (n : NodeId) (files : List FileState) (own : List Msg) (k j : ℕ) → k ≤ j → Chain awake n files own k → Chain awake n files own j
loosen awake n files own k j less c = record { sent = c.sent; is = c.is; stands = c.stands; led = c.led; known = c.known; low = let low = c.low in omega (arith, low, less) }

-- what holds of the files after an event
pub record Behind (n : NodeId) (files : List FileState) : Type 0 where
  pub all_stand : (f : FileState) → Has f files → FileStands n f × FileSmall f
  pub all_rise : Rises (files_of files)

module _ (outside : Outside) (s : OsdState) (now : ℕ)
    (fits : (f : FileState) → Has f s.files → FileHolds f) (stands : (f : FileState) → Has f s.files → FileStands s.started.node f × FileSmall f) (rises : Rises (files_of s.files)) where
  abbrev pub there : Site
  there = site_of outside (awake_as s.started) now

  -- ---- a message from another node

  module _ (m : Msg) (file : FileId) (concerns : file_concerned m.payload ≡ Some file) (arrives : Arrives s (event.Deliver m)) (other : (m.from.0 == s.started.node.0) ≡ false)
      (stands_then : (f : FileState) → Has f (with_file s.files (step_of_file (site_of outside (awake_as s.started) now) (file_at (awake_as s.started) s.files file) m.from m.payload).state) → FileStands s.started.node f × FileSmall f)
      (rises_then : Rises (files_of (with_file s.files (step_of_file (site_of outside (awake_as s.started) now) (file_at (awake_as s.started) s.files file) m.from m.payload).state))) where
    abbrev pub new : FileStep
    new = step_of_file (site_of outside (awake_as s.started) now) (file_at (awake_as s.started) s.files file) m.from m.payload

    abbrev pub files_then : List FileState
    files_then = with_file s.files (step_of_file (site_of outside (awake_as s.started) now) (file_at (awake_as s.started) s.files file) m.from m.payload).state

    pub gives : Gives s.started.node m.from (file_at (awake_as s.started) s.files file) new
    gives = gives_at outside s now fits stands rises m file concerns arrives

    same : new.state.kept.file ≡ file
    same = same_file outside s now fits stands rises m file

    about_sent : IfAbout file gives.sent
    about_sent = subst (λ (k : FileId). IfAbout k gives.sent) (at_file (awake_as s.started) s.files file) gives.about_sent

    about_told : IfAbout file gives.told
    about_told = subst (λ (k : FileId). IfAbout k gives.told) (at_file (awake_as s.started) s.files file) gives.about_told

    abbrev pub sent_for : FileId → Option Payload
    sent_for g = cond (is_file file g) gives.sent None

    abbrev pub told_for : FileId → ℕ
    told_for g = cond (is_file file g) (lease_of gives.told) 0

    at_then : (g : FileId) → file_at (awake_as s.started) files_then g ≡ cond (is_file file g) new.state (file_at (awake_as s.started) s.files g)
    at_then g = file_at-with_file (awake_as s.started) s.files new.state g ∙ ap (λ (k : FileId). cond (is_file k g) new.state (file_at (awake_as s.started) s.files g)) same

    each_low : (f : FileState) → Has f files_then → chain_weight s.started.node f (sent_for f.kept.file) + told_for f.kept.file ≤ OWN * one_if (is_busy f.lease)
    each_low f h = at (is_file file f.kept.file) refl (sym (at_then f.kept.file) ∙ found_here (awake_as s.started) files_then f rises_then h)
      where
        at : (b : Bool) → is_file file f.kept.file ≡ b → cond (is_file file f.kept.file) new.state (file_at (awake_as s.started) s.files f.kept.file) ≡ f
            → chain_weight s.started.node f (cond b gives.sent None) + cond b (lease_of gives.told) 0 ≤ OWN * one_if (is_busy f.lease)
        at true is found =
            let here : new.state ≡ f = sym (ap (λ (b : Bool). cond b new.state (file_at (awake_as s.started) s.files f.kept.file)) is) ∙ found in
            load s.started.node f gives.told gives.sent (stands_then f h) gives.told_is (λ idle. gives.idle other (subst (λ (x : FileState). IsFree x.lease) (sym here) idle))
        at false is found = load s.started.node f None None (stands_then f h) tt (λ idle. (refl, refl))

    none_led : m.from.0 ≡ s.started.node.0 → IsLed (file_at (awake_as s.started) s.files file)
    none_led mine = absurd (false_true (sym other ∙ equal m.from.0 s.started.node.0 mine))
      where
        equal : (a b : ℕ) → a ≡ b → (a == b) ≡ true
        equal a b is = grind (arith, nat_tests)

    -- what it sends itself, within what that weighs
    heard_within : (k : ℕ) → lease_of gives.told + total s.started.node sent_for files_then ≤ k → Chain (awake_as s.started) s.started.node files_then (to_itself s.started.node new.turned.outs) k
    heard_within k within =
        subst (λ (ms : List Msg). Chain (awake_as s.started) s.started.node files_then ms k) (sym gives.outs)
        (record {
          sent = sent_for;
          is = λ g. both_about s.started.node new.state.kept file g gives.sent gives.told about_sent gives.stands gives.told_is ∙ only (is_file file g) gives.sent;
          stands = λ g. subst (λ (x : FileState). IfWaits x.kept x.primary.tenure (sent_for g)) (sym (at_then g)) (stands_at_then g (is_file file g));
          led = λ g. subst (λ (x : FileState). IfLed (sent_for g) x) (sym (at_then g)) (led_at_then g (is_file file g));
          known = λ g none. known_at g (is_file file g) refl (sym (has_with s.files new.state g ∙ ap (λ (k : FileId). is_file k g || has_file s.files g) same) ∙ none);
          low = (let sum = both_sum s.started.node new.state.kept file gives.sent gives.told about_sent gives.stands about_told in omega (arith, sum, within));
        })
      where
        stands_at_then : (g : FileId) (b : Bool) → IfWaits (cond b new.state (file_at (awake_as s.started) s.files g)).kept (cond b new.state (file_at (awake_as s.started) s.files g)).primary.tenure (cond b gives.sent None)
        stands_at_then g true = waits new.state.kept new.state.primary.tenure gives.sent gives.stands
        stands_at_then g false = tt

        led_at_then : (g : FileId) (b : Bool) → IfLed (cond b gives.sent None) (cond b new.state (file_at (awake_as s.started) s.files g))
        led_at_then g true = gives.led none_led
        led_at_then g false = tt

        known_at : (g : FileId) (b : Bool) → is_file file g ≡ b → (is_file file g || has_file s.files g) ≡ false → cond b gives.sent None ≡ None
        known_at g true is none = absurd (false_true (sym none ∙ ap (λ (b : Bool). b || has_file s.files g) is))
        known_at g false is none = refl

    pub heard_starts : Chain (awake_as s.started) s.started.node files_then (to_itself s.started.node new.turned.outs) (OWN * count_busy files_then)
    heard_starts =
        let all = all_low s.started.node sent_for told_for files_then each_low in
        let here = ap (λ (b : Bool). cond b (lease_of gives.told) 0) (file-itself file) in
        let part = extra_in told_for files_then file (has_with s.files new.state file ∙ ap (λ (k : FileId). is_file k file || has_file s.files file) same ∙ ap (λ (b : Bool). b || has_file s.files file) (file-itself file)) in
        heard_within (OWN * count_busy files_then) (omega (arith, all, here, part))

    one_low : (b : Bool) → OWN * one_if b ≤ OWN
    one_low true = omega arith
    one_low false = omega arith

    -- it is all about that file
    pub heard_alone : (whole : ℕ) × Chain (awake_as s.started) s.started.node files_then (to_itself s.started.node new.turned.outs) whole
        × IsAlone (awake_as s.started) s.started.node files_then (to_itself s.started.node new.turned.outs) file whole OWN
    heard_alone = (
      lease_of gives.told + total s.started.node sent_for files_then,
      heard_within (lease_of gives.told + total s.started.node sent_for files_then) (same_le (lease_of gives.told + total s.started.node sent_for files_then)),
      record {
        about = subst (AreAbout file) (sym gives.outs) (tokens_about s.started.node file gives.sent gives.told about_sent about_told);
        bound =
            let its = stands_now outside s now fits stands rises m file concerns arrives in
            let most = load s.started.node new.state gives.told gives.sent its gives.told_is (λ free. gives.idle other free) in
            let one = one_low (is_busy new.state.lease) in
            let sums = subst (λ (k : FileId). total s.started.node (put k gives.sent no_message) files_then + chain_weight s.started.node (file_at (awake_as s.started) s.files k) None ≡ idle s.started.node s.files + chain_weight s.started.node new.state gives.sent) same
            (total_with (awake_as s.started) s.started.node no_message gives.sent new.state s.files rises (λ known. refl)) in
            let moved = subst (λ (k : FileId). idle s.started.node files_then + chain_weight s.started.node (file_at (awake_as s.started) s.files k) None ≡ idle s.started.node s.files + chain_weight s.started.node new.state None) same
            (idle_with (awake_as s.started) s.started.node new.state s.files rises) in
            let now_is = ap (λ (x : FileState). chain_weight s.started.node x None) (at_then file ∙ ap (λ (b : Bool). cond b new.state (file_at (awake_as s.started) s.files file)) (file-itself file)) in
            omega (arith, most, one, sums, moved, now_is);
      },
    )
      where
        same_le : (a : ℕ) → a ≤ a
        same_le a = omega arith

  -- ---- nothing

  -- without messages
  none_starts : Chain (awake_as s.started) s.started.node s.files [] (OWN * count_busy s.files)
  none_starts =
      record {
        sent = λ g. None;
        is = λ g. refl;
        stands = λ g. tt;
        led = λ g. tt;
        known = λ g none. refl;
        low =
            let all = all_low s.started.node (λ (g : FileId). None) (λ (g : FileId). 0) s.files (λ f h. load s.started.node f None None (stands f h) tt (λ idle. (refl, refl))) in
            omega (arith, all);
      }

  -- ---- a Wake

  abbrev pub wakes : FileState → FileStep
  wakes f = wake_step (site_of outside (awake_as s.started) now) f

  abbrev pub mine : FileState → List Msg
  mine f = to_itself s.started.node (wake_step (site_of outside (awake_as s.started) now) f).turned.outs

  -- of the files in a list
  abbrev pub sent_by : List FileState → FileId → Option Payload
  sent_by fs g = cond (has_file fs g) (primary_of (mine (file_at (awake_as s.started) fs g))) None

  abbrev pub mine_sum : List FileState → ℕ
  mine_sum [] = 0
  mine_sum (f ∷ fs) = own_sum (mine f) + mine_sum fs

  woke_sent : (f : FileState) (q : Gives s.started.node (record { 0 = s.started.node.0 + 1 }) f (wakes f)) → primary_of (mine f) ≡ q.sent
  woke_sent f q = ap primary_of q.outs ∙ primary_is s.started.node (wakes f).state.kept q.sent q.told q.stands q.told_is

  woke_sum : (f : FileState) (q : Gives s.started.node (record { 0 = s.started.node.0 + 1 }) f (wakes f)) → own_sum (mine f) ≡ lease_of q.told
  woke_sum f q = ap own_sum q.outs ∙ both_sum s.started.node (wakes f).state.kept f.kept.file q.sent q.told q.about_sent q.stands q.about_told

  woken_about : (fs : List FileState) (ms : List Msg) → Rises (files_of fs) → WokenTo outside s now fits stands rises fs ms → (g : FileId) → primary_about g ms ≡ list_of (sent_by fs g)
  unfolding file_at
  woken_about [] ms up none_woken g = refl
  woken_about (f ∷ fs) ms up (one_woken _ _ _ rest sends others) g =
      let q = sends.gives in
      ap (primary_about g) sends.is ∙ about-append g (token s.started.node q.sent ++ token s.started.node q.told) rest
      ∙ ap₂ (λ (a b : List Payload). a ++ b) (both_about s.started.node (wakes f).state.kept f.kept.file g q.sent q.told q.about_sent q.stands q.told_is) (woken_about fs rest up.1 others g)
      ∙ at (is_file f.kept.file g) refl
    where
      at : (b : Bool) → is_file f.kept.file g ≡ b → cond b (list_of sends.gives.sent) [] ++ list_of (sent_by fs g) ≡ list_of (cond (b || has_file fs g) (primary_of (mine (cond b f (file_at (awake_as s.started) fs g)))) None)
      at true is =
          ap (λ (b : Bool). list_of sends.gives.sent ++ list_of (cond b (primary_of (mine (file_at (awake_as s.started) fs g))) None)) (behind_absent fs g (subst (λ (k : FileId). AreBehind k (files_of fs)) (file-equal f.kept.file g is) up.0))
          ∙ append-nil (list_of sends.gives.sent) ∙ ap list_of (sym (woke_sent f sends.gives))
      at false is = refl

  woken_sum : (fs : List FileState) (ms : List Msg) → WokenTo outside s now fits stands rises fs ms → own_sum ms ≡ mine_sum fs
  woken_sum [] ms none_woken = refl
  woken_sum (f ∷ fs) ms (one_woken _ _ _ rest sends others) =
      let all = ap own_sum sends.is in
      let both = sum-append (token s.started.node sends.gives.sent ++ token s.started.node sends.gives.told) rest in
      let here = ap own_sum sends.gives.outs in
      let later = woken_sum fs rest others in
      omega (arith, all, both, here, later)

  its_file : (f : FileState) → (wakes f).state.kept.file ≡ f.kept.file
  its_file f = woke_file outside s now fits stands rises f

  map_has : (fs : List FileState) (g : FileId) → has_file (map (λ (f : FileState). (wakes f).state) fs) g ≡ has_file fs g
  map_has [] g = refl
  map_has (f ∷ fs) g = ap₂ (λ (a b : Bool). a || b) (ap (λ (k : FileId). is_file k g) (its_file f)) (map_has fs g)

  map_at : (fs : List FileState) (g : FileId) → has_file fs g ≡ true → file_at (awake_as s.started) (map (λ (f : FileState). (wakes f).state) fs) g ≡ (wakes (file_at (awake_as s.started) fs g)).state
  unfolding file_at
  map_at [] g is = absurd (false_true is)
  map_at (f ∷ fs) g is = ap (λ (b : Bool). cond b (wakes f).state (file_at (awake_as s.started) (map (λ (f : FileState). (wakes f).state) fs) g)) (ap (λ (k : FileId). is_file k g) (its_file f)) ∙ at (is_file f.kept.file g) is (map_at fs g)
    where
      at : (b : Bool) → (b || has_file fs g) ≡ true → (has_file fs g ≡ true → file_at (awake_as s.started) (map (λ (f : FileState). (wakes f).state) fs) g ≡ (wakes (file_at (awake_as s.started) fs g)).state)
          → cond b (wakes f).state (file_at (awake_as s.started) (map (λ (f : FileState). (wakes f).state) fs) g) ≡ (wakes (cond b f (file_at (awake_as s.started) fs g))).state
      at true is rest = refl
      at false is rest = rest is

  outsider_led : (f : FileState) → s.started.node.0 + 1 ≡ s.started.node.0 → IsLed f
  outsider_led f e = absurd (never s.started.node.0 e)
    where
      never : (a : ℕ) → a + 1 ≡ a → ⊥
      never a e = omega (arith, e)

  outsider_other : (s.started.node.0 + 1 == s.started.node.0) ≡ false
  outsider_other = at s.started.node.0
    where
      at : (a : ℕ) → (a + 1 == a) ≡ false
      at a = grind (arith, nat_tests)

  gives_of : (f : FileState) → Has f s.files → Gives s.started.node (record { 0 = s.started.node.0 + 1 }) f (wakes f)
  gives_of f h = gives_woken outside s now fits stands rises f h

  -- what stands of a file's message
  woken_stands : (g : FileId) (b : Bool) → has_file s.files g ≡ b → IfWaits (file_at (awake_as s.started) (map (λ (f : FileState). (wakes f).state) s.files) g).kept (file_at (awake_as s.started) (map (λ (f : FileState). (wakes f).state) s.files) g).primary.tenure (cond b (primary_of (mine (file_at (awake_as s.started) s.files g))) None)
  woken_stands g false is = tt
  woken_stands g true is =
      let q = gives_of (file_at (awake_as s.started) s.files g) (at_has (awake_as s.started) s.files g is) in
      let now = (wakes (file_at (awake_as s.started) s.files g)).state in
      subst (λ (x : FileState). IfWaits x.kept x.primary.tenure (primary_of (mine (file_at (awake_as s.started) s.files g)))) (sym (map_at s.files g is))
      (subst (λ (o : Option Payload). IfWaits now.kept now.primary.tenure o) (sym (woke_sent (file_at (awake_as s.started) s.files g) q)) (waits now.kept now.primary.tenure q.sent q.stands))

  woken_led : (g : FileId) (b : Bool) → has_file s.files g ≡ b → IfLed (cond b (primary_of (mine (file_at (awake_as s.started) s.files g))) None) (file_at (awake_as s.started) (map (λ (f : FileState). (wakes f).state) s.files) g)
  woken_led g false is = tt
  woken_led g true is =
      let q = gives_of (file_at (awake_as s.started) s.files g) (at_has (awake_as s.started) s.files g is) in
      subst (λ (x : FileState). IfLed (primary_of (mine (file_at (awake_as s.started) s.files g))) x) (sym (map_at s.files g is))
      (subst (λ (o : Option Payload). IfLed o (wakes (file_at (awake_as s.started) s.files g)).state) (sym (woke_sent (file_at (awake_as s.started) s.files g) q)) (q.led (outsider_led (file_at (awake_as s.started) s.files g))))

  module _ (stands_then : (f : FileState) → Has f (map (λ (f : FileState). (wakes f).state) s.files) → FileStands s.started.node f × FileSmall f)
      (rises_then : Rises (files_of (map (λ (f : FileState). (wakes f).state) s.files))) where
    woke_low : (f : FileState) → Has f s.files → FileStands s.started.node (wakes f).state × FileSmall (wakes f).state → chain_weight s.started.node (wakes f).state (sent_by s.files (wakes f).state.kept.file) + own_sum (mine f) ≤ OWN * one_if (is_busy (wakes f).state.lease)
    woke_low f h its =
        let q = gives_of f h in
        let sent : sent_by s.files (wakes f).state.kept.file ≡ q.sent =
        ap (sent_by s.files) (its_file f)
        ∙ ap₂ (λ (b : Bool) (x : FileState). cond b (primary_of (mine x)) None) (in_file s.files f h) (found_here (awake_as s.started) s.files f rises h) ∙ woke_sent f q in
        let weight = ap (chain_weight s.started.node (wakes f).state) sent in
        let sum = woke_sum f q in
        let low = load s.started.node (wakes f).state q.told q.sent its q.told_is (λ idle. q.idle outsider_other idle) in
        omega (arith, weight, sum, low)

    woken_low : (fs : List FileState) → ((f : FileState) → Has f fs → Has f s.files) → ((f : FileState) → Has f (map (λ (f : FileState). (wakes f).state) fs) → FileStands s.started.node f × FileSmall f)
        → total s.started.node (sent_by s.files) (map (λ (f : FileState). (wakes f).state) fs) + mine_sum fs ≤ OWN * count_busy (map (λ (f : FileState). (wakes f).state) fs)
    woken_low [] within its = omega arith
    woken_low (f ∷ fs) within its =
        let rest = woken_low fs (λ g h. within g (inr h)) (λ g h. its g (inr h)) in
        let here = woke_low f (within f (inl refl)) (its (wakes f).state (inl refl)) in
        omega (arith, rest, here)

    dir_about : (g : FileId) → primary_about g (to_itself s.started.node (asks_dir s.started.node ∷ [])) ≡ []
    dir_about g = at (900 == s.started.node.0)
      where
        at : (b : Bool) → primary_about g (cond b (asks_dir s.started.node ∷ []) []) ≡ []
        at true = refl
        at false = refl

    dir_sum : own_sum (to_itself s.started.node (asks_dir s.started.node ∷ [])) ≤ 1
    dir_sum = at (900 == s.started.node.0)
      where
        at : (b : Bool) → own_sum (cond b (asks_dir s.started.node ∷ []) []) ≤ 1
        at true = omega arith
        at false = omega arith

    woken_chain : Chain (awake_as s.started) s.started.node (map (λ (f : FileState). (wakes f).state) s.files) (to_itself s.started.node (woken (site_of outside (awake_as s.started) now) s.files).turned.outs) (1 + OWN * count_busy (map (λ (f : FileState). (wakes f).state) s.files))
    woken_chain =
        let ms = to_itself s.started.node (each_file (wake_of_file there) (each_file (expired there) s.files).files).turned.outs in
        let to = wakes_to outside s now fits stands rises s.files (λ f h. h) in
        subst (λ (ms : List Msg). Chain (awake_as s.started) s.started.node (map (λ (f : FileState). (wakes f).state) s.files) ms (1 + OWN * count_busy (map (λ (f : FileState). (wakes f).state) s.files))) (sym (woken_to outside s now fits stands rises))
        (record {
          sent = sent_by s.files;
          is = λ g. about-append g (to_itself s.started.node (asks_dir s.started.node ∷ [])) (to_itself s.started.node (each_file (wake_of_file there) (each_file (expired there) s.files).files).turned.outs)
              ∙ ap₂ (λ (a b : List Payload). a ++ b) (dir_about g) (woken_about s.files (to_itself s.started.node (each_file (wake_of_file there) (each_file (expired there) s.files).files).turned.outs) rises to g);
          stands = λ g. woken_stands g (has_file s.files g) refl;
          led = λ g. woken_led g (has_file s.files g) refl;
          known = λ g none. ap (λ (b : Bool). cond b (primary_of (mine (file_at (awake_as s.started) s.files g))) None) (sym (map_has s.files g) ∙ none);
          low =
              let both = sum-append (to_itself s.started.node (asks_dir s.started.node ∷ [])) (to_itself s.started.node (each_file (wake_of_file there) (each_file (expired there) s.files).files).turned.outs) in
              let dir = dir_sum in
              let sum = woken_sum s.files (to_itself s.started.node (each_file (wake_of_file there) (each_file (expired there) s.files).files).turned.outs) to in
              let all = woken_low s.files (λ f h. h) stands_then in
              omega (arith, both, dir, sum, all);
        })

  -- ---- any of them

  abbrev pub handled : Event → FilesStep
  handled happens = handle_event (site_of outside (awake_as s.started) now) (awake_as s.started) s.files happens

  abbrev pub Starts : FilesStep → ℕ → Type 0
  Starts step k = Chain (awake_as s.started) s.started.node step.files (to_itself s.started.node step.turned.outs) k

  message_starts : (m : Msg) (o : Option FileId) → file_concerned m.payload ≡ o → Arrives s (event.Deliver m) → IsOutside s.started.node (event.Deliver m)
      → Behind s.started.node (handle_message (site_of outside (awake_as s.started) now) (awake_as s.started) s.files m o).files → Starts (handle_message (site_of outside (awake_as s.started) now) (awake_as s.started) s.files m o) (OWN * count_busy (handle_message (site_of outside (awake_as s.started) now) (awake_as s.started) s.files m o).files)
  message_starts m None concerns arrives other behind = none_starts
  message_starts m (Some file) concerns arrives other behind = heard_starts m file concerns arrives other behind.all_stand behind.all_rise

  -- After an event from outside.
  pub event_starts : (happens : Event) → Arrives s happens → IsOutside s.started.node happens → Behind s.started.node (handled happens).files → Starts (handled happens) (room_of happens + OWN * count_busy (handled happens).files)
  event_starts (event.Deliver m) arrives other behind =
      loosen (awake_as s.started) s.started.node (handled (event.Deliver m)).files (to_itself s.started.node (handled (event.Deliver m)).turned.outs) (OWN * count_busy (handled (event.Deliver m)).files) (0 + OWN * count_busy (handled (event.Deliver m)).files) (omega arith) (message_starts m (file_concerned m.payload) refl arrives other behind)
  event_starts (event.Call call) arrives other behind =
      loosen (awake_as s.started) s.started.node (handled (event.Call call)).files (to_itself s.started.node (handled (event.Call call)).turned.outs) (OWN * count_busy (handled (event.Call call)).files) (0 + OWN * count_busy (handled (event.Call call)).files) (omega arith) none_starts
  event_starts event.Wake arrives other behind =
      let same = woken_files outside s now fits stands rises s.files in
      let b = subst (Behind s.started.node) same behind in
      subst (λ (fs : List FileState). Chain (awake_as s.started) s.started.node fs (to_itself s.started.node (woken (site_of outside (awake_as s.started) now) s.files).turned.outs) (1 + OWN * count_busy fs)) (sym same)
      (woken_chain b.all_stand b.all_rise)
