-- an own message that an OSD handles
use Rattle.std.proofs.Common.{◌≡◌, ℕ, Bool, true, false, List, [], ◌∷◌, ◌++◌, refl, sym, ap, ap₂, subst, ◌∙◌, arith, Option, Some, None, append-nil}
use Rattle.std.specs.Prelude.{◌&&◌, not, cond}
use Rattle.xt_base.specs.declared.ids.FileId.{FileId}
use Rattle.xt_messages.specs.declared.message.Msg.{Msg}
use Rattle.xt_messages.specs.declared.message.Payload.{Payload}
use Rattle.xt_messages.specs.declared.record.FileRow.{FileRow}
use Rattle.xt_protocol.specs.FileIds.{is_file}
use Rattle.xt_protocol.proofs.Folds.{file-itself}
use Rattle.lease_safety.specs.State.{Has}
use Rattle.xt_protocol.specs.Turns.{message}
use Rattle.xt_protocol.specs.FileStates.{FileState, FileStep}
use Rattle.xt_protocol.specs.FileSteps.{step_of_file}
use Rattle.xt_protocol.specs.OsdSteps.{Outside, OsdState, file_at, with_file, file_concerned, handle_message}
use Rattle.lease_runs.specs.LeaseView.{is_about}
use Rattle.lease_runs.specs.OsdView.{site_of}
use Rattle.lease_runs.proofs.OsdLeases.{at_file, step_keeps}
use Rattle.world_spec.specs.NodeSteps.{to_itself}
use Rattle.world_runs.specs.View.{awake_as}
use Rattle.world_runs.specs.Worlds.{Rises, files_of}
use Rattle.own_messages_wait.proofs.Weights.{is_lease}
use Rattle.own_messages_wait.proofs.Standing.{BodyStays, IfAbout, IfMessage, IfWaits, Stands, body_still, waits}
use Rattle.own_messages_wait.proofs.Mine.{token}
use Rattle.own_messages_wait.proofs.Leases.{IsLeaseOf}
use Rattle.own_messages_wait.proofs.Files.{FileStands, IfLed, IsLed, chain_weight}
use Rattle.own_messages_wait.proofs.Messages.{Less, LeaseLess, PrimaryLess, Comes, lease_of}
use Rattle.own_messages_wait.proofs.FileSteps.{step_given}
use Rattle.own_messages_wait.proofs.FileSizes.{FileSmall}
use Rattle.own_messages_wait.proofs.Osds.{FileHolds, OwnFits, apart_of}
use Rattle.own_messages_wait.proofs.OsdEvents.{fit_at, stands_at}
use Rattle.own_messages_wait.proofs.OneFile.{AreAbout, tokens_about}
use Rattle.own_messages_wait.proofs.Chains.{Chain, Falls, idle_falls, placed, primary_about, list_of, own_sum, about-append, both_about, both_sum}

module _ (outside : Outside) (s : OsdState) (now : ℕ)
    (fits : (f : FileState) → Has f s.files → FileHolds f) (stands : (f : FileState) → Has f s.files → FileStands s.started.node f × FileSmall f) (rises : Rises (files_of s.files)) where
  module _ (m : Msg) (rest : List Msg) (k : ℕ) (c : Chain (awake_as s.started) s.started.node s.files (m ∷ rest) k) where
    abbrev pub it : FileId → FileState
    it file = file_at (awake_as s.started) s.files file

    abbrev pub next : FileId → FileStep
    next file = step_of_file (site_of outside (awake_as s.started) now) (file_at (awake_as s.started) s.files file) m.from m.payload

    -- a message of the lease isn't one of the primary
    rest_same : is_lease m.payload ≡ true → (g : FileId) → primary_about g rest ≡ list_of (c.sent g)
    rest_same is g = sym (ap (λ (b : Bool). cond (not b && is_about g (file_concerned m.payload)) (m.payload ∷ []) [] ++ primary_about g rest) is) ∙ c.is g

    -- one of the primary about a file isn't one about another
    other_same : (file : FileId) → file_concerned m.payload ≡ Some file → is_lease m.payload ≡ false → (g : FileId) → is_file file g ≡ false → primary_about g rest ≡ list_of (c.sent g)
    other_same file concerns is g differ =
        sym (ap (λ (b : Bool). cond (not b && is_about g (file_concerned m.payload)) (m.payload ∷ []) [] ++ primary_about g rest) is
        ∙ ap (λ (o : Option FileId). cond (is_about g o) (m.payload ∷ []) [] ++ primary_about g rest) concerns
        ∙ ap (λ (b : Bool). cond b (m.payload ∷ []) [] ++ primary_about g rest) differ) ∙ c.is g

    this_first : (file : FileId) → file_concerned m.payload ≡ Some file → is_lease m.payload ≡ false → m.payload ∷ primary_about file rest ≡ list_of (c.sent file)
    this_first file concerns is =
        sym (ap (λ (b : Bool). cond (not b && is_about file (file_concerned m.payload)) (m.payload ∷ []) [] ++ primary_about file rest) is
        ∙ ap (λ (o : Option FileId). cond (is_about file o) (m.payload ∷ []) [] ++ primary_about file rest) concerns
        ∙ ap (λ (b : Bool). cond b (m.payload ∷ []) [] ++ primary_about file rest) (file-itself file)) ∙ c.is file

    -- what is about a file then
    then_about : (file g : FileId) (sent told : Option Payload) (row : FileRow) (before : List Payload) → primary_about g rest ≡ before → IfAbout file sent → IfMessage row sent → IsLeaseOf 4 told
        → primary_about g (rest ++ (token s.started.node sent ++ token s.started.node told)) ≡ before ++ cond (is_file file g) (list_of sent) []
    then_about file g sent told row before is about message lease =
        about-append g rest (token s.started.node sent ++ token s.started.node told) ∙ ap₂ (λ (a b : List Payload). a ++ b) is (both_about s.started.node row file g sent told about message lease)

    other_about : (file g : FileId) (sent told : Option Payload) (row : FileRow) → primary_about g rest ≡ list_of (c.sent g) → IfAbout file sent → IfMessage row sent → IsLeaseOf 4 told → is_file file g ≡ false
        → primary_about g (rest ++ (token s.started.node sent ++ token s.started.node told)) ≡ list_of (c.sent g)
    other_about file g sent told row is about message lease differ =
        then_about file g sent told row (list_of (c.sent g)) is about message lease
        ∙ ap (λ (b : Bool). list_of (c.sent g) ++ cond b (list_of sent) []) differ ∙ append-nil (list_of (c.sent g))

    its_about : (file : FileId) (sent told : Option Payload) (row : FileRow) (before : List Payload) → primary_about file rest ≡ before → IfAbout file sent → IfMessage row sent → IsLeaseOf 4 told
        → primary_about file (rest ++ (token s.started.node sent ++ token s.started.node told)) ≡ before ++ list_of sent
    its_about file sent told row before is about message lease =
        then_about file file sent told row before is about message lease ∙ ap (λ (b : Bool). before ++ cond b (list_of sent) []) (file-itself file)

    module _ (file : FileId) (concerns : file_concerned m.payload ≡ Some file) (comes : Comes s.started.node m.from m.payload (file_at (awake_as s.started) s.files file)
        (step_of_file (site_of outside (awake_as s.started) now) (file_at (awake_as s.started) s.files file) m.from m.payload)) (mine : m.from.0 ≡ s.started.node.0) where
      same : (next file).state.kept.file ≡ file
      same = step_keeps (site_of outside (awake_as s.started) now) (it file) m.from m.payload ∙ at_file (awake_as s.started) s.files file

      about_sent : IfAbout file comes.gives.sent
      about_sent = subst (λ (k : FileId). IfAbout k comes.gives.sent) (at_file (awake_as s.started) s.files file) comes.gives.about_sent

      about_told : IfAbout file comes.gives.told
      about_told = subst (λ (k : FileId). IfAbout k comes.gives.told) (at_file (awake_as s.started) s.files file) comes.gives.about_told

      outs_sum : own_sum (token s.started.node comes.gives.sent ++ token s.started.node comes.gives.told) ≡ lease_of comes.gives.told
      outs_sum = both_sum s.started.node (next file).state.kept file comes.gives.sent comes.gives.told about_sent comes.gives.stands about_told

      -- one of the lease
      by_lease : is_lease m.payload ≡ true → LeaseLess s.started.node (it file) m.payload (next file) comes.gives.told comes.gives.sent → (o : Option Payload) → c.sent file ≡ o
          → Falls (awake_as s.started) s.started.node (with_file s.files (next file).state) (rest ++ (token s.started.node comes.gives.sent ++ token s.started.node comes.gives.told)) k
      by_lease lease less None none =
          placed (awake_as s.started) s.started.node s.files rises m rest k c file (next file).state comes.gives.sent (token s.started.node comes.gives.sent ++ token s.started.node comes.gives.told) same concerns
          (its_about file comes.gives.sent comes.gives.told (next file).state.kept [] (rest_same lease file ∙ ap list_of none) about_sent comes.gives.stands comes.gives.told_is)
          (λ g differ. other_about file g comes.gives.sent comes.gives.told (next file).state.kept (rest_same lease g) about_sent comes.gives.stands comes.gives.told_is differ)
          (waits (next file).state.kept (next file).state.primary.tenure comes.gives.sent comes.gives.stands) less.led_alone
          (let fewer = less.alone in let sum = outs_sum in let before = ap (λ (o : Option Payload). chain_weight s.started.node (it file) o) none in omega (arith, fewer, sum, before))
      by_lease lease less (Some content) some =
          let led = subst (λ (o : Option Payload). IfLed o (it file)) some (c.led file) in
          placed (awake_as s.started) s.started.node s.files rises m rest k c file (next file).state (Some content) (token s.started.node comes.gives.sent ++ token s.started.node comes.gives.told) same concerns
          (its_about file comes.gives.sent comes.gives.told (next file).state.kept (content ∷ []) (rest_same lease file ∙ ap list_of some) about_sent comes.gives.stands comes.gives.told_is
          ∙ ap (λ (o : Option Payload). (content ∷ []) ++ list_of o) (less.sent_none led))
          (λ g differ. other_about file g comes.gives.sent comes.gives.told (next file).state.kept (rest_same lease g) about_sent comes.gives.stands comes.gives.told_is differ)
          (let old = subst (λ (o : Option Payload). IfWaits (it file).kept (it file).primary.tenure o) some (c.stands file) in
          subst (λ (row : FileRow). IfWaits row (next file).state.primary.tenure (Some content)) (sym (less.kept led)) (old.0, body_still (it file).kept (it file).primary.tenure (next file).state.primary.tenure content (less.tenure led) old.1)) (less.still_led led)
          (let fewer = less.beside content led in let sum = outs_sum in let before = ap (λ (o : Option Payload). chain_weight s.started.node (it file) o) some in omega (arith, fewer, sum, before))

      -- one of the primary
      by_primary : is_lease m.payload ≡ false → (BodyStays (it file).kept (it file).primary.tenure m.payload → IsLed (it file) → PrimaryLess s.started.node (it file) m.payload (next file) comes.gives.told comes.gives.sent) → (o : Option Payload) → c.sent file ≡ o
          → Falls (awake_as s.started) s.started.node (with_file s.files (next file).state) (rest ++ (token s.started.node comes.gives.sent ++ token s.started.node comes.gives.told)) k
      by_primary primary less None none = absurd (no_first (this_first file concerns primary ∙ ap list_of none))
        where
          no_first : {xs : List Payload} → m.payload ∷ xs ≡ [] → ⊥
          no_first e = cc e
      by_primary primary less (Some content) some =
          let both = this_first file concerns primary ∙ ap list_of some in
          let its : m.payload ≡ content = firsts both in
          let is_some : c.sent file ≡ Some m.payload = some ∙ ap (λ (x : Payload). Some x) (sym its) in
          let led : IsLed (it file) = subst (λ (o : Option Payload). IfLed o (it file)) is_some (c.led file) in
          let message : Stands (it file).kept m.payload × BodyStays (it file).kept (it file).primary.tenure m.payload = subst (λ (o : Option Payload). IfWaits (it file).kept (it file).primary.tenure o) is_some (c.stands file) in
          let low = less message.1 led in
          placed (awake_as s.started) s.started.node s.files rises m rest k c file (next file).state comes.gives.sent (token s.started.node comes.gives.sent ++ token s.started.node comes.gives.told) same concerns
          (its_about file comes.gives.sent comes.gives.told (next file).state.kept [] (lasts both) about_sent comes.gives.stands comes.gives.told_is)
          (λ g differ. other_about file g comes.gives.sent comes.gives.told (next file).state.kept (other_same file concerns primary g differ) about_sent comes.gives.stands comes.gives.told_is differ)
          (waits (next file).state.kept (next file).state.primary.tenure comes.gives.sent comes.gives.stands) (comes.gives.led (λ x. led))
          (let fewer = low.less in let sum = outs_sum in let none = ap lease_of low.told_none in let before = ap (λ (o : Option Payload). chain_weight s.started.node (it file) o) is_some in omega (arith, fewer, sum, none, before))
        where
          firsts : {x y : Payload} {xs ys : List Payload} → x ∷ xs ≡ y ∷ ys → x ≡ y
          firsts e = cc e

          lasts : {x y : Payload} {xs : List Payload} → x ∷ xs ≡ y ∷ [] → xs ≡ []
          lasts e = cc e

      by_kind : (b : Bool) → is_lease m.payload ≡ b → Less b s.started.node (it file) m.payload (next file) comes.gives.told comes.gives.sent
          → Falls (awake_as s.started) s.started.node (with_file s.files (next file).state) (rest ++ (token s.started.node comes.gives.sent ++ token s.started.node comes.gives.told)) k
      by_kind true is less = by_lease is less (c.sent file) refl
      by_kind false is less = by_primary is less (c.sent file) refl

      pub falls : Falls (awake_as s.started) s.started.node (with_file s.files (next file).state) (rest ++ to_itself s.started.node (next file).turned.outs) k
      falls = subst (λ (outs : List Msg). Falls (awake_as s.started) s.started.node (with_file s.files (next file).state) (rest ++ outs) k) (sym comes.gives.outs) (by_kind (is_lease m.payload) refl (comes.less mine))

      -- and what it sends itself is about the file
      pub outs_about : AreAbout file (to_itself s.started.node (next file).turned.outs)
      outs_about = subst (AreAbout file) (sym comes.gives.outs) (tokens_about s.started.node file comes.gives.sent comes.gives.told about_sent about_told)

    its_comes : (file : FileId) → file_concerned m.payload ≡ Some file → OwnFits (awake_as s.started) s.files m.payload
        → Comes s.started.node m.from m.payload (file_at (awake_as s.started) s.files file) (step_of_file (site_of outside (awake_as s.started) now) (file_at (awake_as s.started) s.files file) m.from m.payload)
    its_comes file concerns own =
        let f = file_at (awake_as s.started) s.files file in
        let fit = fit_at outside s now fits stands rises file in
        step_given (site_of outside (awake_as s.started) now) m.from f (stands_at outside s now fits stands rises file).0 fit.sound
        (apart_of (site_of outside (awake_as s.started) now) (awake_as s.started) s.files fits stands f fit) m.payload own.no_ask (λ from primary. own.stands file concerns primary)

    -- any message
    pub handled_falls : (o : Option FileId) → file_concerned m.payload ≡ o → m.from.0 ≡ s.started.node.0 → OwnFits (awake_as s.started) s.files m.payload
        → (let step = handle_message (site_of outside (awake_as s.started) now) (awake_as s.started) s.files m o in Falls (awake_as s.started) s.started.node step.files (rest ++ to_itself s.started.node step.turned.outs) k)
    handled_falls None concerns mine own =
        subst (λ (ms : List Msg). Falls (awake_as s.started) s.started.node s.files ms k) (sym (append-nil rest)) (idle_falls (awake_as s.started) s.started.node s.files rises m rest k c concerns)
    handled_falls (Some file) concerns mine own = falls file concerns (its_comes file concerns own) mine

    -- what the step on a message about a file sends itself is about that file
    pub handled_about : (file : FileId) → file_concerned m.payload ≡ Some file → m.from.0 ≡ s.started.node.0 → OwnFits (awake_as s.started) s.files m.payload
        → AreAbout file (to_itself s.started.node (handle_message (site_of outside (awake_as s.started) now) (awake_as s.started) s.files m (Some file)).turned.outs)
    handled_about file concerns mine own = outs_about file concerns (its_comes file concerns own) mine
