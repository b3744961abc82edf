-- heads and held versions still rise, and are within their limits, after an update
use Rattle.std.proofs.Common.{◌≡◌, ◌==◌, ℕ, ◌+◌, ◌≤◌, Bool, true, false, if◌then◌else◌, nat_lt, List, [], ◌∷◌, map, refl, subst, ◌∙◌, arith}
use Rattle.std.specs.List.{AllByRecursion}
use Rattle.std.proofs.lemmas.Bool.{and_parts, and_from}
use Rattle.std.proofs.lemmas.Bool.Decides.{nat_tests}
use Rattle.xt_base.specs.declared.ids.Stamp.{Stamp}
use Rattle.xt_messages.specs.declared.file.ObjectVersion.{ObjectVersion}
use Rattle.xt_messages.specs.declared.file.Session.{Session}
use Rattle.xt_messages.specs.Limits.{rise}
use Rattle.xt_protocol.specs.Stamps.{comes_before, is_version, with_held}
use Rattle.xt_protocol.specs.Heads.{with_version, versions_below, with_session}
use Rattle.object_versions.specs.Rising.{held_rise}
use Rattle.object_versions.proofs.HeldVersions.{version_order}

-- whichever of the two it is
pub either : {A : Type 0} (P : A → Type 0) (here : Bool) (x y : A) → P x → P y → P (if here then x else y)
either P true x y first second = first
either P false x y first second = second

-- a property of the one that is taken, where each has it in its case
pub when : {A : Type 0} (P : A → Type 0) (here : Bool) (x y : A) → (here ≡ true → P x) → (here ≡ false → P y) → P (if here then x else y)
when P true x y taken other = taken refl
when P false x y taken other = other refl

-- ---- numbers that rise

-- each is above the one before it, and the first isn't below this one
abbrev pub RiseFrom : ℕ → List ℕ → Type 0
RiseFrom low [] = Unit {0}
RiseFrom low (x ∷ xs) = (low ≤ x) × RiseFrom (x + 1) xs

pub rise_again : (low : ℕ) (xs : List ℕ) → RiseFrom low xs → rise xs ≡ true
rise_again low [] up = refl
rise_again low (x ∷ []) up = refl
rise_again low (x ∷ y ∷ rest) up =
    let above : x + 1 ≤ y = up.1.0 in
    let later : rise (y ∷ rest) ≡ true = rise_again (x + 1) (y ∷ rest) up.1 in
    grind (arith, nat_tests)

pub rise_from : (xs : List ℕ) → rise xs ≡ true → RiseFrom 0 xs
rise_from [] up = tt
rise_from (x ∷ []) up = (omega arith, tt)
rise_from (x ∷ y ∷ rest) up =
    let above : nat_lt x y ≡ true = grind (arith, nat_tests) in
    let later : rise (y ∷ rest) ≡ true = grind (arith, nat_tests) in
    let least : x + 1 ≤ y = grind (arith, nat_tests, above) in
    let next : RiseFrom 0 (y ∷ rest) = rise_from (y ∷ rest) later in
    (omega arith, (least, next.1))

-- a lower bound may be lowered
lowered : (low least : ℕ) (xs : List ℕ) → least ≤ low → RiseFrom low xs → RiseFrom least xs
lowered low least [] le up = tt
lowered low least (x ∷ xs) le up = (omega arith, up.1)

-- ---- versions

abbrev pub objects_of : List ObjectVersion → List ℕ
objects_of versions = map (λ (v : ObjectVersion). v.object) versions

pub below_all : (P : ObjectVersion → Type 0) (versions : List ObjectVersion) (from : ℕ) → AllByRecursion P versions → AllByRecursion P (versions_below versions from)
below_all P [] from all = tt
below_all P (v ∷ vs) from all =
    either (AllByRecursion P) (nat_lt v.object from) _ _ (all.0, below_all P vs from all.1) (below_all P vs from all.1)

below_rises : (low : ℕ) (versions : List ObjectVersion) (from : ℕ) → RiseFrom low (objects_of versions) → RiseFrom low (objects_of (versions_below versions from))
below_rises low [] from up = tt
below_rises low (v ∷ vs) from up =
    either (λ (xs : List ObjectVersion). RiseFrom low (objects_of xs)) (nat_lt v.object from) _ _ (up.0, below_rises (v.object + 1) vs from up.1)
    (lowered (v.object + 1) low (objects_of (versions_below vs from)) (let least : low ≤ v.object = up.0 in omega arith) (below_rises (v.object + 1) vs from up.1))

pub version_all : (P : ObjectVersion → Type 0) (versions : List ObjectVersion) (object : ℕ) (version : Stamp) → AllByRecursion P versions → P (record { object = object; version = version }) → AllByRecursion P (with_version versions object version)
version_all P [] object version all new = (new, tt)
version_all P (v ∷ vs) object version all new =
    either (AllByRecursion P) (v.object == object) _ _ (new, all.1)
    (either (AllByRecursion P) (nat_lt object v.object) _ _ (new, all) (all.0, version_all P vs object version all.1 new))

version_rises : (low : ℕ) (versions : List ObjectVersion) (object : ℕ) (version : Stamp) → RiseFrom low (objects_of versions) → low ≤ object → RiseFrom low (objects_of (with_version versions object version))
version_rises low [] object version up least = (least, tt)
version_rises low (v ∷ vs) object version up least =
    when (λ (xs : List ObjectVersion). RiseFrom low (objects_of xs)) (v.object == object) _ _
    (λ same. (least, subst (λ (n : ℕ). RiseFrom (n + 1) (objects_of vs)) (let e : v.object ≡ object = grind (arith, nat_tests) in e) up.1))
    (λ differ. when (λ (xs : List ObjectVersion). RiseFrom low (objects_of xs)) (nat_lt object v.object) _ _
    (λ before. (least, (let e : object + 1 ≤ v.object = grind (arith, nat_tests) in e, up.1)))
    (λ behind. (up.0, version_rises (v.object + 1) vs object version up.1 (let e : v.object + 1 ≤ object = grind (arith, nat_tests) in e))))

pub below_still_rise : (versions : List ObjectVersion) (from : ℕ) → rise (objects_of versions) ≡ true → rise (objects_of (versions_below versions from)) ≡ true
below_still_rise versions from up = rise_again 0 (objects_of (versions_below versions from)) (below_rises 0 versions from (rise_from (objects_of versions) up))

pub versions_still_rise : (versions : List ObjectVersion) (object : ℕ) (version : Stamp) → rise (objects_of versions) ≡ true → rise (objects_of (with_version versions object version)) ≡ true
versions_still_rise versions object version up =
    rise_again 0 (objects_of (with_version versions object version)) (version_rises 0 versions object version (rise_from (objects_of versions) up) (omega arith))

-- ---- sessions

abbrev pub clients_of : List Session → List ℕ
clients_of sessions = map (λ (s : Session). s.client.0) sessions

pub session_all : (P : Session → Type 0) (sessions : List Session) (s : Session) → AllByRecursion P sessions → P s → AllByRecursion P (with_session sessions s)
session_all P [] s all new = (new, tt)
session_all P (x ∷ xs) s all new =
    either (AllByRecursion P) (x.client.0 == s.client.0) _ _ (new, all.1)
    (either (AllByRecursion P) (nat_lt s.client.0 x.client.0) _ _ (new, all) (all.0, session_all P xs s all.1 new))

session_rises : (low : ℕ) (sessions : List Session) (s : Session) → RiseFrom low (clients_of sessions) → low ≤ s.client.0 → RiseFrom low (clients_of (with_session sessions s))
session_rises low [] s up least = (least, tt)
session_rises low (x ∷ xs) s up least =
    when (λ (ss : List Session). RiseFrom low (clients_of ss)) (x.client.0 == s.client.0) _ _
    (λ same. (least, subst (λ (n : ℕ). RiseFrom (n + 1) (clients_of xs)) (let e : x.client.0 ≡ s.client.0 = grind (arith, nat_tests) in e) up.1))
    (λ differ. when (λ (ss : List Session). RiseFrom low (clients_of ss)) (nat_lt s.client.0 x.client.0) _ _
    (λ before. (least, (let e : s.client.0 + 1 ≤ x.client.0 = grind (arith, nat_tests) in e, up.1)))
    (λ behind. (up.0, session_rises (x.client.0 + 1) xs s up.1 (let e : x.client.0 + 1 ≤ s.client.0 = grind (arith, nat_tests) in e))))

pub sessions_still_rise : (sessions : List Session) (s : Session) → rise (clients_of sessions) ≡ true → rise (clients_of (with_session sessions s)) ≡ true
sessions_still_rise sessions s up = rise_again 0 (clients_of (with_session sessions s)) (session_rises 0 sessions s (rise_from (clients_of sessions) up) (omega arith))

-- ---- held versions

-- this one comes before the first of these, if there is one
abbrev before_first : ObjectVersion → List ObjectVersion → Type 0
before_first a [] = Unit {0}
before_first a (b ∷ rest) = comes_before a b ≡ true

joins : (a : ObjectVersion) (rest : List ObjectVersion) → before_first a rest → held_rise rest ≡ true → held_rise (a ∷ rest) ≡ true
joins a [] first up = refl
joins a (b ∷ rest) first up = and_from (comes_before a b) (held_rise (b ∷ rest)) first up

parts_of : (a : ObjectVersion) (rest : List ObjectVersion) → held_rise (a ∷ rest) ≡ true → before_first a rest × (held_rise rest ≡ true)
parts_of a [] up = (tt, refl)
parts_of a (b ∷ rest) up = and_parts (comes_before a b) (held_rise (b ∷ rest)) up

still_first : (a : ObjectVersion) (rest : List ObjectVersion) (v : ObjectVersion) → comes_before a v ≡ true → before_first a rest → before_first a (with_held rest v)
unfolding with_held
still_first a [] v is first = is
still_first a (b ∷ rest) v is first =
    either (before_first a) (is_version b v) _ _ first (either (before_first a) (comes_before v b) _ _ is first)

pub held_still_rise : (held : List ObjectVersion) (v : ObjectVersion) → held_rise held ≡ true → held_rise (with_held held v) ≡ true
unfolding with_held
held_still_rise [] v up = refl
held_still_rise (h ∷ hs) v up =
    let parts = parts_of h hs up in
    when (λ (xs : List ObjectVersion). held_rise xs ≡ true) (is_version h v) _ _ (λ same. up)
    (λ differ. when (λ (xs : List ObjectVersion). held_rise xs ≡ true) (comes_before v h) _ _ (λ before. joins v (h ∷ hs) before up)
    (λ behind.
    let above : comes_before h v ≡ true = version_order.total v h behind (version_order.back v h ∙ differ) in
    joins h (with_held hs v) (still_first h hs v above parts.0) (held_still_rise hs v parts.1)))
