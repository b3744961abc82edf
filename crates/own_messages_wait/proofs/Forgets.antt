-- An OSD forgets: what its messages to itself weigh stays, since no version is forgotten to which a primary brings its peers.
use Rattle.std.proofs.Common.{◌≡◌, ℕ, ◌+◌, ◌*◌, zero, suc, inl, inr, Bool, true, false, cond, List, [], ◌∷◌, map, refl, sym, ap, ap₂, subst, ◌∙◌, arith, Option, Some, None, count_by}
use Rattle.std.specs.Prelude.{◌&&◌, ◌||◌, not, filter, Contains}
use Rattle.std.proofs.lemmas.List.Sums.{sum_by-cons}
use Rattle.xt_base.specs.declared.ids.FileId.{FileId}
use Rattle.xt_messages.specs.declared.file.FileHead.{FileHead}
use Rattle.xt_messages.specs.declared.file.ObjectVersion.{ObjectVersion}
use Rattle.xt_messages.specs.declared.message.Msg.{Msg}
use Rattle.xt_messages.specs.declared.message.Payload.{Payload}
use Rattle.xt_messages.specs.declared.message.Payload.TheVariants as payload
use Rattle.xt_messages.specs.declared.record.KeepBody.{KeepBody}
use Rattle.xt_protocol.specs.FileIds.{is_file}
use Rattle.xt_protocol.specs.FileStates.{FileState}
use Rattle.xt_protocol.specs.Folds.{body_of}
use Rattle.xt_protocol.specs.Forgetting.{keep_of, is_needed, is_kept, row_without, file_without, osd_without, versions_led, versions_under}
use Rattle.xt_protocol.specs.LeaseRows.{Awake}
use Rattle.xt_protocol.specs.OsdSteps.{OsdState, file_at}
use Rattle.xt_protocol.specs.PrimaryRows.{target_in}
use Rattle.xt_protocol.specs.Stamps.{is_epoch, is_version, has_version}
use Rattle.xt_protocol.proofs.Stamps.{version-itself}
use Rattle.xt_protocol.specs.declared.states.PeerState.{PeerState}
use Rattle.xt_protocol.specs.declared.states.PeerState.TheVariants as peer
use Rattle.xt_protocol.specs.declared.states.Progress.{Progress}
use Rattle.xt_protocol.specs.declared.states.Progress.TheVariants as progress
use Rattle.xt_protocol.specs.declared.states.Tenure.{Tenure}
use Rattle.lease_safety.specs.State.{Has}
use Rattle.world_runs.specs.View.{awake_as}
use Rattle.world_runs.proofs.Forgotten.{at_without}
use Rattle.forgetting.proofs.Held.{still_lacks}
use Rattle.forgetting.proofs.Named as named
use Rattle.forgetting.proofs.Named.{or_right}
use Rattle.own_messages_wait.proofs.Weights.{Stand, stand_of, is_lacked, bodies_to, bodies_left, is_wanted, are_named, unless, rank, asks_left, epoch_left}
use Rattle.own_messages_wait.proofs.Standing.{BodyStays, IfWaits, IsHeldIfNamed}
use Rattle.own_messages_wait.proofs.Bodies.{among}
use Rattle.own_messages_wait.proofs.Tests.{false_true}
use Rattle.own_messages_wait.proofs.Files.{IfLed, chain_weight}
use Rattle.own_messages_wait.proofs.Keeping.{stands_then}
use Rattle.own_messages_wait.proofs.Chains.{Chain, total, has_file}
use Rattle.own_messages_wait.proofs.OneFile.{IsAlone, no_message}

-- ---- lists

-- what is kept where it is held is held as before
same_held : (test : ObjectVersion → Bool) (held : List ObjectVersion) (v : ObjectVersion) → (has_version held v ≡ true → has_version (filter test held) v ≡ true) → has_version (filter test held) v ≡ has_version held v
same_held test held v keeps = at (has_version held v) refl
  where
    at : (b : Bool) → has_version held v ≡ b → has_version (filter test held) v ≡ has_version held v
    at true is = keeps is ∙ sym is
    at false is = still_lacks test held v is ∙ sym is

count_same : (p q : ObjectVersion → Bool) (xs : List ObjectVersion) → ((v : ObjectVersion) → Has v xs → p v ≡ q v) → count_by p xs ≡ count_by q xs
count_same p q [] each = refl
count_same p q (x ∷ xs) each =
    let here : cond (p x) 1 0 ≡ cond (q x) 1 0 = ap (λ (b : Bool). cond b 1 0) (each x (inl refl)) in
    let rest = count_same p q xs (λ v h. each v (inr h)) in
    sum_by-cons (λ (y : ObjectVersion). cond (p y) 1 0) x xs ∙ ap₂ (λ (a b : ℕ). a + b) here rest ∙ sym (sum_by-cons (λ (y : ObjectVersion). cond (q y) 1 0) x xs)

pub has_listed : (vs : List ObjectVersion) (v : ObjectVersion) → Has v vs → has_version vs v ≡ true
has_listed [] v h = absurd h
has_listed (x ∷ xs) v (inl is) = ap (λ (y : ObjectVersion). has_version (y ∷ xs) v) (sym is) ∙ ap (λ (b : Bool). b || has_version xs v) (version-itself v)
has_listed (x ∷ xs) v (inr h) = or_right (is_version v x) (has_version xs v) (has_listed xs v h)

-- ---- one file

-- these are held as before
abbrev SameOf : List ObjectVersion → List ObjectVersion → List ObjectVersion → Type 0
SameOf old new versions = (v : ObjectVersion) → Has v versions → has_version new v ≡ has_version old v

bodies_same : (old new : List ObjectVersion) (target : FileHead) (known : List ObjectVersion) → SameOf old new target.versions → bodies_to new known target ≡ bodies_to old known target
bodies_same old new target known same = ap (λ (k : ℕ). 4 * k) (count_same (is_lacked new known) (is_lacked old known) target.versions (λ v h. ap (λ (b : Bool). not (b && has_version known v)) (same v h)))

left_same : (old new : List ObjectVersion) (o : Option FileHead) (state : Option PeerState) → ((target : FileHead) → o ≡ Some target → SameOf old new target.versions) → bodies_left new o state ≡ bodies_left old o state
left_same old new (Some target) (Some peer.Unknown) same = bodies_same old new target [] (same target refl)
left_same old new (Some target) (Some (peer.Feeding known object version body)) same = bodies_same old new target known (same target refl)
left_same old new (Some target) (Some (peer.Heading known head)) same = bodies_same old new target known (same target refl)
left_same old new (Some target) (Some (peer.Reported head)) same = refl
left_same old new (Some target) (Some peer.Current) same = refl
left_same old new (Some target) None same = refl
left_same old new None state same = refl

rank_same : (a : Stand) (new : List ObjectVersion) (content : Payload) → bodies_left new a.target a.state ≡ bodies_left a.held a.target a.state → rank (record a { held = new }) content ≡ rank a content
rank_same a new (payload.Gather file epoch) e = ap (λ (k : ℕ). 6 + k) e
rank_same a new (payload.Status file epoch head) e = ap (λ (k : ℕ). 5 + k) e
rank_same a new (payload.Head file epoch head) e = ap (λ (k : ℕ). 4 + k + unless (are_named a.target head.versions)) e
rank_same a new (payload.Missing file epoch object version) e = ap (λ (k : ℕ). 3 + k + unless (are_named a.target (body_of object version ∷ []))) e
rank_same a new (payload.Stage file epoch object version bytes) e = ap (λ (k : ℕ). 2 + k + unless (is_wanted a.target a.state (body_of object version))) e
rank_same a new (payload.Staged file epoch object version) e = ap (λ (k : ℕ). 1 + k + unless (is_wanted a.target a.state (body_of object version))) e
rank_same a new (payload.Update file update) e = refl
rank_same a new (payload.Ack file stamp) e = refl
rank_same a new _ e = refl

some_head : {a b : FileHead} → Some a ≡ Some b → a ≡ b
some_head e = cc e

module _ (s : OsdState) (f : FileState) (met : Contains s.files f) where
  abbrev held_then : List ObjectVersion
  held_then = (row_without (keep_of s) f.kept).held

  needed_same : (v : ObjectVersion) → is_needed s.started.node f v ≡ true → has_version held_then v ≡ has_version f.kept.held v
  needed_same v need = same_held (is_kept (keep_of s) f.kept.file) f.kept.held v (λ held. named.needed_kept s f v met held need)

  head_same : SameOf f.kept.held held_then f.kept.head.versions
  head_same v h = needed_same v (named.or_left _ _ (named.or_left _ _ (has_listed f.kept.head.versions v h)))

  led_same : SameOf f.kept.held held_then (versions_under s.started.node f.primary.tenure)
  led_same v h = needed_same v (named.or_left _ _ (or_right (has_version f.kept.head.versions v) _ (has_listed (versions_under s.started.node f.primary.tenure) v h)))

  target_same : (t : Tenure) (p : Progress) → SameOf f.kept.held held_then (versions_led s.started.node t.peers p) → (target : FileHead) → target_in f.kept.head t.epoch p ≡ Some target → SameOf f.kept.held held_then target.versions
  target_same t progress.Gathering led target is = absurd cc
  target_same t (progress.Fetching chosen source asked later) led target is = absurd cc
  target_same t (progress.Installing chosen acked) led target is = at (is_epoch f.kept.head.stamp.epoch t.epoch) is
    where
      at : (b : Bool) → Some (cond b f.kept.head (record chosen { promised = t.epoch; stamp = record { epoch = t.epoch; count = chosen.stamp.count } })) ≡ Some target → SameOf f.kept.held held_then target.versions
      at true is = subst (λ (h : FileHead). SameOf f.kept.held held_then h.versions) (some_head is) head_same
      at false is = subst (λ (h : FileHead). SameOf f.kept.held held_then h.versions) (some_head is) led
  target_same t (progress.Active committed issued) led target is = subst (λ (h : FileHead). SameOf f.kept.held held_then h.versions) (some_head is) head_same

  under : (content : Payload) (o : Option Tenure) → SameOf f.kept.held held_then (versions_under s.started.node o)
      → rank (stand_of s.started.node (row_without (keep_of s) f.kept) o) content ≡ rank (stand_of s.started.node f.kept o) content
  under content None led = rank_same (stand_of s.started.node f.kept None) held_then content refl
  under content (Some t) led =
      rank_same (stand_of s.started.node f.kept (Some t)) held_then content
      (left_same f.kept.held held_then (stand_of s.started.node f.kept (Some t)).target (stand_of s.started.node f.kept (Some t)).state (target_same t t.progress led))

  epoch_same : (o : Option Tenure) → epoch_left (row_without (keep_of s) f.kept) o ≡ epoch_left f.kept o
  epoch_same None = refl
  epoch_same (Some t) = refl

  pub weight_same : (o : Option Payload) → chain_weight s.started.node (file_without (keep_of s) f) o ≡ chain_weight s.started.node f o
  weight_same None = refl
  weight_same (Some content) = ap₂ (λ (a b : ℕ). a + 2 * asks_left f.asks + b) (epoch_same f.primary.tenure) (under content f.primary.tenure led_same)

-- ---- all files

total_then : (s : OsdState) (p : FileId → Option Payload) (fs : List FileState) → ((f : FileState) → Contains fs f → Contains s.files f) → total s.started.node p (map (file_without (keep_of s)) fs) ≡ total s.started.node p fs
total_then s p [] within = refl
total_then s p (f ∷ fs) within =
    ap₂ (λ (a b : ℕ). a + b) (weight_same s f (within f (zero, omega arith, refl)) (p f.kept.file)) (total_then s p fs (λ x has. within x (suc has.0, omega (arith, has.1), has.2)))

has_then : (keep : List KeepBody) (fs : List FileState) (g : FileId) → has_file (map (file_without keep) fs) g ≡ has_file fs g
has_then keep [] g = refl
has_then keep (f ∷ fs) g = ap (λ (b : Bool). is_file f.kept.file g || b) (has_then keep fs g)

-- a version of the target that is held stays so
held_then_if : (s : OsdState) (f : FileState) (v : ObjectVersion) → Contains s.files f → IsHeldIfNamed f.kept f.primary.tenure v → IsHeldIfNamed (row_without (keep_of s) f.kept) f.primary.tenure v
held_then_if s f v met is t target led to named =
    target_same s f met t t.progress (subst (λ (o : Option Tenure). SameOf f.kept.held (held_then s f met) (versions_under s.started.node o)) led (led_same s f met)) target to v (among target.versions v named)
    ∙ is t target led to named

body_then : (s : OsdState) (f : FileState) (content : Payload) → Contains s.files f → BodyStays f.kept f.primary.tenure content → BodyStays (row_without (keep_of s) f.kept) f.primary.tenure content
body_then s f (payload.Status file epoch head) met is = is
body_then s f (payload.Missing file epoch object version) met is = still_lacks (is_kept (keep_of s) f.kept.file) f.kept.held (body_of object version) is
body_then s f (payload.Staged file epoch object version) met is = held_then_if s f (body_of object version) met is
body_then s f _ met is = tt

waits_then : (s : OsdState) (f : FileState) (o : Option Payload) → Contains s.files f → IfWaits f.kept f.primary.tenure o → IfWaits (row_without (keep_of s) f.kept) f.primary.tenure o
waits_then s f None met is = tt
waits_then s f (Some content) met is = (stands_then (keep_of s) f.kept content is.0, body_then s f content met is.1)

contains_at : (awake : Awake) (fs : List FileState) (g : FileId) → has_file fs g ≡ true → Contains fs (file_at awake fs g)
unfolding file_at
contains_at awake [] g is = absurd (false_true is)
contains_at awake (f ∷ fs) g is = at (is_file f.kept.file g) is (contains_at awake fs g)
  where
    at : (b : Bool) → (b || has_file fs g) ≡ true → (has_file fs g ≡ true → Contains fs (file_at awake fs g)) → Contains (f ∷ fs) (cond b f (file_at awake fs g))
    at true is rest = (zero, omega arith, refl)
    at false is rest = let has = rest is in (suc has.0, omega (arith, has.1), has.2)

-- a file that isn't there has no message
waits_at : (s : OsdState) (c : FileId → Option Payload) (g : FileId) (b : Bool) → has_file s.files g ≡ b → (b ≡ false → c g ≡ None)
    → IfWaits (file_at (awake_as s.started) s.files g).kept (file_at (awake_as s.started) s.files g).primary.tenure (c g)
    → IfWaits (row_without (keep_of s) (file_at (awake_as s.started) s.files g).kept) (file_at (awake_as s.started) s.files g).primary.tenure (c g)
waits_at s c g true has known is = waits_then s (file_at (awake_as s.started) s.files g) (c g) (contains_at (awake_as s.started) s.files g has) is
waits_at s c g false has known is = subst (λ (o : Option Payload). IfWaits (row_without (keep_of s) (file_at (awake_as s.started) s.files g).kept) (file_at (awake_as s.started) s.files g).primary.tenure o) (sym (known refl)) tt

led_then : (keep : List KeepBody) (o : Option Payload) (f : FileState) → IfLed o f → IfLed o (file_without keep f)
led_then keep None f is = tt
led_then keep (Some content) f is = is

pub chain_then : (s : OsdState) (own : List Msg) (k : ℕ) → Chain (awake_as s.started) s.started.node s.files own k
    → Chain (awake_as (osd_without (keep_of s) s).started) (osd_without (keep_of s) s).started.node (osd_without (keep_of s) s).files own k
unfolding osd_without
chain_then s own k c = record {
  sent = c.sent;
  is = c.is;
  stands = λ g. subst (λ (x : FileState). IfWaits x.kept x.primary.tenure (c.sent g)) (sym (at_without (awake_as s.started) (keep_of s) s.files g)) (waits_at s c.sent g (has_file s.files g) refl (λ none. c.known g none) (c.stands g));
  led = λ g. subst (λ (x : FileState). IfLed (c.sent g) x) (sym (at_without (awake_as s.started) (keep_of s) s.files g)) (led_then (keep_of s) (c.sent g) (file_at (awake_as s.started) s.files g) (c.led g));
  known = λ g none. c.known g (sym (has_then (keep_of s) s.files g) ∙ none);
  low = (let same = total_then s c.sent s.files (λ f has. has) in let low = c.low in omega (arith, same, low));
}

-- and so do those about one file
pub alone_then : (s : OsdState) (own : List Msg) (g : FileId) (K k : ℕ) → IsAlone (awake_as s.started) s.started.node s.files own g K k
    → IsAlone (awake_as (osd_without (keep_of s) s).started) (osd_without (keep_of s) s).started.node (osd_without (keep_of s) s).files own g K k
unfolding osd_without
alone_then s own g K k alone = record {
  about = alone.about;
  bound =
      let bound = alone.bound in
      let all = total_then s no_message s.files (λ f has. has) in
      let its = ap (λ (x : FileState). chain_weight s.started.node x None) (at_without (awake_as s.started) (keep_of s) s.files g) in
      omega (arith, bound, all, its);
}
