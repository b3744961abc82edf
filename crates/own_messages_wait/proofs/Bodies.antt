-- how many bodies a primary still brings to its own node, as each of them is staged or missed
use Rattle.std.proofs.Common.{◌≡◌, ℕ, ◌≤◌, ◌+◌, inl, inr, Bool, true, false, List, [], ◌∷◌, refl, sym, ap, subst, ◌∙◌, arith, Option, Some, None, count_by, find}
use Rattle.std.specs.Prelude.{◌&&◌, ◌||◌, not, cond, ◌==◌}
use Rattle.std.proofs.lemmas.Bool.{and_parts, eqb-true}
use Rattle.std.proofs.lemmas.List.Sums.{sum_by-cons, sum_by-le-sum_by}
use Rattle.xt_base.specs.declared.ids.Stamp.{Stamp}
use Rattle.xt_base.specs.declared.ids.FileId.{FileId}
use Rattle.xt_base.specs.declared.ids.Epoch.{Epoch}
use Rattle.xt_messages.specs.declared.file.ObjectVersion.{ObjectVersion}
use Rattle.xt_messages.specs.declared.file.FileHead.{FileHead}
use Rattle.xt_messages.specs.declared.message.Payload.{Payload}
use Rattle.xt_messages.specs.declared.message.Payload.TheVariants as payload
use Rattle.xt_protocol.specs.Stamps.{is_version, has_version, without_version, with_held}
use Rattle.xt_protocol.proofs.Stamps.{version-equal, version-itself, has_version-with_held}
use Rattle.lease_safety.specs.State.{Has}
use Rattle.xt_protocol.specs.declared.states.IssuedUpdate.{IssuedUpdate}
use Rattle.xt_protocol.specs.declared.states.PeerState.{PeerState}
use Rattle.xt_protocol.specs.declared.states.PeerState.TheVariants as peer
use Rattle.xt_protocol.specs.Primaries.{fed, fed_next, last_sent}
use Rattle.xt_messages.specs.declared.record.FileRow.{FileRow}
use Rattle.xt_protocol.specs.Stamps.{is_earlier}
use Rattle.xt_protocol.specs.OsdSteps.{file_concerned}
use Rattle.own_messages_wait.proofs.Standing.{Stands, TellsBody}
use Rattle.own_messages_wait.proofs.Weights.{is_lacked, bodies_to, are_named, unless, rank}
use Rattle.own_messages_wait.proofs.Tests.{false_true, not_both}

-- ---- counts

abbrev one_if : Bool → ℕ
one_if b = cond b 1 0

module _ (p q : ObjectVersion → Bool) (within : (x : ObjectVersion) → q x ≡ true → p x ≡ true) where
  step : (b a : Bool) → (b ≡ true → a ≡ true) → cond b 1 0 ≤ cond a 1 0
  step true true f = omega arith
  step true false f = absurd (false_true (f refl))
  step false true f = omega arith
  step false false f = omega arith

  pub fewer : (xs : List ObjectVersion) → count_by q xs ≤ count_by p xs
  fewer xs = sum_by-le-sum_by (λ (x : ObjectVersion). cond (q x) 1 0) (λ (x : ObjectVersion). cond (p x) 1 0) xs (λ x. step (q x) (p x) (within x))

  pub one_fewer : (xs : List ObjectVersion) (v : ObjectVersion) → Has v xs → p v ≡ true → q v ≡ false → count_by q xs + 1 ≤ count_by p xs
  one_fewer [] v h is_so isnt = absurd h
  one_fewer (x ∷ xs) v (inl e) is_so isnt =
      let here : one_if (p x) ≡ 1 = ap one_if (ap p (sym e) ∙ is_so) in
      let gone : one_if (q x) ≡ 0 = ap one_if (ap q (sym e) ∙ isnt) in
      let rest = fewer xs in
      let ps = sum_by-cons (λ (x : ObjectVersion). cond (p x) 1 0) x xs in
      let qs = sum_by-cons (λ (x : ObjectVersion). cond (q x) 1 0) x xs in
      omega (arith, here, gone, rest, ps, qs)
  one_fewer (x ∷ xs) v (inr h) is_so isnt =
      let one = step (q x) (p x) (within x) in
      let rest = one_fewer xs v h is_so isnt in
      let ps = sum_by-cons (λ (x : ObjectVersion). cond (p x) 1 0) x xs in
      let qs = sum_by-cons (λ (x : ObjectVersion). cond (q x) 1 0) x xs in
      omega (arith, one, rest, ps, qs)

-- nothing passes
pub none_pass : (p : ObjectVersion → Bool) (xs : List ObjectVersion) → ((v : ObjectVersion) → Has v xs → p v ≡ false) → count_by p xs ≡ 0
none_pass p [] isnt = refl
none_pass p (x ∷ xs) isnt =
    let here : one_if (p x) ≡ 0 = ap one_if (isnt x (inl refl)) in
    let rest = none_pass p xs (λ v h. isnt v (inr h)) in
    let ps = sum_by-cons (λ (x : ObjectVersion). cond (p x) 1 0) x xs in
    omega (arith, here, rest, ps)

pub one_passes : (p : ObjectVersion → Bool) (xs : List ObjectVersion) (v : ObjectVersion) → Has v xs → p v ≡ true → 1 ≤ count_by p xs
one_passes p [] v h is_so = absurd h
one_passes p (x ∷ xs) v (inl e) is_so =
    let here : one_if (p x) ≡ 1 = ap one_if (ap p (sym e) ∙ is_so) in
    let ps = sum_by-cons (λ (x : ObjectVersion). cond (p x) 1 0) x xs in
    omega (arith, here, ps)
one_passes p (x ∷ xs) v (inr h) is_so =
    let rest = one_passes p xs v h is_so in
    let ps = sum_by-cons (λ (x : ObjectVersion). cond (p x) 1 0) x xs in
    omega (arith, rest, ps)

-- ---- versions

pub among : (xs : List ObjectVersion) (v : ObjectVersion) → has_version xs v ≡ true → Has v xs
among [] v is = absurd (false_true is)
among (x ∷ xs) v is = at (is_version v x) refl (λ h. among xs v h) is
  where
    at : (b : Bool) → is_version v x ≡ b → (has_version xs v ≡ true → Has v xs) → (b || has_version xs v) ≡ true → Has v (x ∷ xs)
    at true same rest is = inl (version-equal v x same)
    at false differ rest is = inr (rest is)

pub is_among : (xs : List ObjectVersion) (v : ObjectVersion) → Has v xs → has_version xs v ≡ true
is_among [] v h = absurd h
is_among (x ∷ xs) v (inl e) = ap (λ (b : Bool). b || has_version xs v) (ap (is_version v) (sym e) ∙ version-itself v)
is_among (x ∷ xs) v (inr h) = at (is_version v x) (is_among xs v h)
  where
    at : (b : Bool) → has_version xs v ≡ true → (b || has_version xs v) ≡ true
    at true is = refl
    at false is = is

or_left : (a b : Bool) → a ≡ true → (a || b) ≡ true
or_left a b is = ap (λ (x : Bool). x || b) is

or_right : (a b : Bool) → b ≡ true → (a || b) ≡ true
or_right true b is = refl
or_right false b is = is

pub known_now : (known : List ObjectVersion) (v : ObjectVersion) → has_version (with_held known v) v ≡ true
known_now known v = has_version-with_held known v v ∙ or_left (is_version v v) (has_version known v) (version-itself v)

pub known_still : (known : List ObjectVersion) (v w : ObjectVersion) → has_version known w ≡ true → has_version (with_held known v) w ≡ true
known_still known v w is = has_version-with_held known v w ∙ or_right (is_version w v) (has_version known w) is

pub other_kept : (known : List ObjectVersion) (v w : ObjectVersion) → is_version v w ≡ false → has_version known w ≡ true → has_version (without_version known v) w ≡ true
other_kept [] v w differ is = absurd (false_true is)
other_kept (x ∷ xs) v w differ is = at (is_version v x) (is_version w x) refl refl (λ h. other_kept xs v w differ h) is
  where
    at : (a b : Bool) → is_version v x ≡ a → is_version w x ≡ b → (has_version xs w ≡ true → has_version (without_version xs v) w ≡ true) → (b || has_version xs w) ≡ true → has_version (cond (not a) (x ∷ without_version xs v) (without_version xs v)) w ≡ true
    at true true gone here rest is = not_both (is_version v x) gone (ap (is_version v) (sym (version-equal w x here)) ∙ differ)
    at true false gone here rest is = rest is
    at false true left here rest is = or_left (is_version w x) (has_version (without_version xs v) w) here
    at false false left here rest is = or_right (is_version w x) (has_version (without_version xs v) w) (rest is)

pub unknown_now : (known : List ObjectVersion) (v : ObjectVersion) → has_version (without_version known v) v ≡ false
unknown_now [] v = refl
unknown_now (x ∷ xs) v = at (is_version v x) refl (unknown_now xs v)
  where
    at : (a : Bool) → is_version v x ≡ a → has_version (without_version xs v) v ≡ false → has_version (cond (not a) (x ∷ without_version xs v) (without_version xs v)) v ≡ false
    at true gone rest = rest
    at false left rest = ap (λ (b : Bool). b || has_version (without_version xs v) v) left ∙ rest

-- ---- bodies

-- what is lacked with these is lacked with those
abbrev pub LacksLess : List ObjectVersion → List ObjectVersion → List ObjectVersion → List ObjectVersion → Type 0
LacksLess held known held' known' = (x : ObjectVersion) → is_lacked held' known' x ≡ true → is_lacked held known x ≡ true

no_fewer : (a b c d : Bool) → (a ≡ true → b ≡ true → (c && d) ≡ true) → not (c && d) ≡ true → not (a && b) ≡ true
no_fewer true true c d both is = absurd (false_true (sym (ap not (both refl refl)) ∙ is))
no_fewer true false c d both is = refl
no_fewer false b c d both is = refl

both : (c d : Bool) → c ≡ true → d ≡ true → (c && d) ≡ true
both true d p q = q
both false d p q = absurd (false_true p)

pub held_lacks : (held known : List ObjectVersion) (v : ObjectVersion) → LacksLess held known (with_held held v) known
held_lacks held known v x is =
    no_fewer (has_version held x) (has_version known x) (has_version (with_held held v) x) (has_version known x)
    (λ here there. both (has_version (with_held held v) x) (has_version known x) (has_version-with_held held v x ∙ or_right (is_version x v) (has_version held x) here) there) is

known_lacks : (held known : List ObjectVersion) (v : ObjectVersion) → LacksLess held known held (with_held known v)
known_lacks held known v x is =
    no_fewer (has_version held x) (has_version known x) (has_version held x) (has_version (with_held known v) x)
    (λ here there. both (has_version held x) (has_version (with_held known v) x) here (known_still known v x there)) is

missed_lacks : (held known : List ObjectVersion) (v : ObjectVersion) → has_version held v ≡ false → LacksLess held known held (without_version known v)
missed_lacks held known v none x is =
    no_fewer (has_version held x) (has_version known x) (has_version held x) (has_version (without_version known v) x)
    (λ here there. both (has_version held x) (has_version (without_version known v) x) here (other_kept known v x (apart (is_version v x) refl here) there)) is
  where
    apart : (b : Bool) → is_version v x ≡ b → has_version held x ≡ true → b ≡ false
    apart true same here = absurd (false_true (sym none ∙ ap (has_version held) (version-equal v x same) ∙ here))
    apart false differ here = refl

-- where nothing is known all are lacked
pub none_known_lacks : (held known : List ObjectVersion) → LacksLess held [] held known
none_known_lacks held known x is = at (has_version held x)
  where
    at : (b : Bool) → not (b && false) ≡ true
    at true = refl
    at false = refl

pub lacks_less : (held known held' known' : List ObjectVersion) (target : FileHead) → LacksLess held known held' known' → bodies_to held' known' target ≤ bodies_to held known target
lacks_less held known held' known' target within =
    let less = fewer (is_lacked held known) (is_lacked held' known') within target.versions in omega (arith, less)

-- a staged body is known, and is lacked isnt more
pub staged_less : (held known : List ObjectVersion) (v : ObjectVersion) (target : FileHead) → (has_version target.versions v ≡ true → has_version held v ≡ true)
    → bodies_to held (with_held known v) target + 4 ≤ bodies_to held known target + unless (has_version target.versions v && not (has_version known v))
staged_less held known v target here = at (has_version target.versions v && not (has_version known v)) refl
  where
    not_true : (b : Bool) → not b ≡ true → b ≡ false
    not_true true is = absurd (false_true is)
    not_true false is = refl

    at : (b : Bool) → (has_version target.versions v && not (has_version known v)) ≡ b → bodies_to held (with_held known v) target + 4 ≤ bodies_to held known target + unless b
    at true is =
        let parts = and_parts (has_version target.versions v) (not (has_version known v)) is in
        let new = not_true (has_version known v) parts.1 in
        let lacked : is_lacked held known v ≡ true = ap (λ (b : Bool). not (has_version held v && b)) new ∙ off (has_version held v) in
        let gone : is_lacked held (with_held known v) v ≡ false = ap not (both (has_version held v) (has_version (with_held known v) v) (here parts.0) (known_now known v)) in
        let less = one_fewer (is_lacked held known) (is_lacked held (with_held known v)) (known_lacks held known v) target.versions v (among target.versions v parts.0) lacked gone in
        omega (arith, less)
      where
        off : (b : Bool) → not (b && false) ≡ true
        off true = refl
        off false = refl
    at false is = let less = lacks_less held known held (with_held known v) target (known_lacks held known v) in omega (arith, less)

pub missed_less : (held known : List ObjectVersion) (v : ObjectVersion) (target : FileHead) → has_version held v ≡ false
    → bodies_to held (without_version known v) target ≤ bodies_to held known target
missed_less held known v target none = lacks_less held known held (without_version known v) target (missed_lacks held known v none)

-- ---- what the own node is fed

find_some : (p : ObjectVersion → Bool) (xs : List ObjectVersion) (v : ObjectVersion) → find p xs ≡ Some v → Has v xs × (p v ≡ true)
find_some p [] v is = absurd (cc)
find_some p (x ∷ xs) v is = at (p x) refl (λ f. find_some p xs v f) is
  where
    at : (b : Bool) → p x ≡ b → (find p xs ≡ Some v → Has v xs × (p v ≡ true)) → cond b (Some x) (find p xs) ≡ Some v → Has v (x ∷ xs) × (p v ≡ true)
    at true is_so rest is = (let same : x ≡ v = cc in (inl (sym same), ap p (sym same) ∙ is_so))
    at false isnt rest is = (let found = rest is in (inr found.0, found.1))

find_none : (p : ObjectVersion → Bool) (xs : List ObjectVersion) (v : ObjectVersion) → find p xs ≡ None → Has v xs → p v ≡ false
find_none p [] v is h = absurd h
find_none p (x ∷ xs) v is h = at (p x) refl (λ f k. find_none p xs v f k) is h
  where
    at : (b : Bool) → p x ≡ b → (find p xs ≡ None → Has v xs → p v ≡ false) → cond b (Some x) (find p xs) ≡ None → Has v (x ∷ xs) → p v ≡ false
    at true is_so rest is h = absurd (cc)
    at false isnt rest is (inl e) = ap p e ∙ isnt
    at false isnt rest is (inr h) = rest is h

-- the first version that isn't held
pub first_lacked : (held wanted : List ObjectVersion) (v : ObjectVersion) → find (λ (w : ObjectVersion). not (has_version held w)) wanted ≡ Some v → Has v wanted × (has_version held v ≡ false)
first_lacked held wanted v is = let found = find_some (λ (w : ObjectVersion). not (has_version held w)) wanted v is in (found.0, untrue (has_version held v) found.1)
  where
    untrue : (b : Bool) → not b ≡ true → b ≡ false
    untrue true is = absurd (false_true is)
    untrue false is = refl

-- it is fed a body that isn't known of it, or the head
pub data IsFed (body : ℕ → Stamp → List ℕ) (target : FileHead) (known : List ObjectVersion) (state : PeerState) : Type 0 where
  with_body : (v : ObjectVersion) → state ≡ peer.Feeding known v.object v.version (body v.object v.version) → has_version target.versions v ≡ true → has_version known v ≡ false → IsFed body target known state
  with_head : state ≡ peer.Heading known target → ((v : ObjectVersion) → Has v target.versions → has_version known v ≡ true) → IsFed body target known state

pub is_fed : (body : ℕ → Stamp → List ℕ) (target : FileHead) (known : List ObjectVersion) → IsFed body target known (fed body target known)
unfolding fed
is_fed body target known = at (find (λ (v : ObjectVersion). not (has_version known v)) target.versions) refl
  where
    untrue : (b : Bool) → not b ≡ true → b ≡ false
    untrue true is = absurd (false_true is)
    untrue false is = refl

    is_so : (b : Bool) → not b ≡ false → b ≡ true
    is_so true is = refl
    is_so false is = absurd (false_true (sym is))

    at : (o : Option ObjectVersion) → find (λ (v : ObjectVersion). not (has_version known v)) target.versions ≡ o → IsFed body target known (fed_next body target known o)
    at (Some v) is =
        let found = find_some (λ (w : ObjectVersion). not (has_version known w)) target.versions v is in
        with_body v refl (is_among target.versions v found.0) (untrue (has_version known v) found.1)
    at None is = with_head refl (λ v h. is_so (has_version known v) (find_none (λ (w : ObjectVersion). not (has_version known w)) target.versions v is h))

-- the target names all that it names
pub named_itself : (target : FileHead) → are_named (Some target) target.versions ≡ true
named_itself target = ap (λ (k : ℕ). k == 0) (none_pass (λ (v : ObjectVersion). not (has_version target.versions v)) target.versions (λ v h. ap not (is_among target.versions v h)))

pub named_one : (target : FileHead) (v : ObjectVersion) → are_named (Some target) (v ∷ []) ≡ has_version target.versions v
named_one target v = at (has_version target.versions v)
  where
    at : (b : Bool) → (0 + cond (not b) 1 0 == 0) ≡ b
    at true = refl
    at false = refl

-- of what the target names it names each
pub named_each : (o : Option FileHead) (versions : List ObjectVersion) (v : ObjectVersion) → Has v versions → are_named o versions ≡ true → are_named o (v ∷ []) ≡ true
named_each None versions v h is = refl
named_each (Some target) versions v h is = named_one target v ∙ at (has_version target.versions v) refl
  where
    at : (b : Bool) → has_version target.versions v ≡ b → b ≡ true
    at true here = refl
    at false none =
        let some = one_passes (λ (w : ObjectVersion). not (has_version target.versions w)) versions v h (ap not none) in
        let nothing : count_by (λ (w : ObjectVersion). not (has_version target.versions w)) versions ≡ 0 = eqb-true (count_by (λ (w : ObjectVersion). not (has_version target.versions w)) versions) 0 is in
        absurd (omega (arith, some, nothing))

-- the message that goes to the own node where it is fed
pub record Feeds (file : FileId) (epoch : Epoch) (held : List ObjectVersion) (target : FileHead) (issued : Option IssuedUpdate) (known : List ObjectVersion) (state : PeerState) : Type 0 where
  pub content : Payload
  pub sent : last_sent file epoch state ≡ Some content
  pub stands : (row : FileRow) → is_earlier row.head.promised epoch ≡ false → Stands row content
  pub tells : (row : FileRow) → TellsBody row content
  pub about : file_concerned content ≡ Some file
  pub rank_is : rank (record { held = held; target = Some target; state = Some state; issued = issued }) content ≤ 4 + bodies_to held known target
  -- a body, where a version isn't known
  pub body_rank : (v : ObjectVersion) → has_version target.versions v ≡ true → has_version known v ≡ false
      → rank (record { held = held; target = Some target; state = Some state; issued = issued }) content ≤ 2 + bodies_to held known target

pub fed_sends : (file : FileId) (epoch : Epoch) (held : List ObjectVersion) (body : ℕ → Stamp → List ℕ) (target : FileHead) (issued : Option IssuedUpdate) (known : List ObjectVersion)
    → Feeds file epoch held target issued known (fed body target known)
fed_sends file epoch held body target issued known = at (fed body target known) (is_fed body target known)
  where
    wanted : (v : ObjectVersion) → has_version target.versions v ≡ true → has_version known v ≡ false → unless (has_version target.versions v && not (has_version known v)) ≡ 0
    wanted v here new = ap unless (both (has_version target.versions v) (not (has_version known v)) here (ap not new))

    at : (state : PeerState) → IsFed body target known state → Feeds file epoch held target issued known state
    at state (with_body v is here new) = subst (Feeds file epoch held target issued known) (sym is) (
        let none = wanted v here new in
        record {
          content = payload.Stage file epoch v.object v.version (body v.object v.version);
          sent = refl;
          stands = λ row promised. promised;
          tells = λ row. tt;
          about = refl;
          rank_is = omega (arith, none);
          body_rank = λ w there unknown. omega (arith, none);
        })
    at state (with_head is all) = subst (Feeds file epoch held target issued known) (sym is) (
        let none : unless (are_named (Some target) target.versions) ≡ 0 = ap unless (named_itself target) in
        record {
          content = payload.Head file epoch target;
          sent = refl;
          stands = λ row promised. promised;
          tells = λ row. tt;
          about = refl;
          rank_is = omega (arith, none);
          body_rank = λ w there unknown. not_both (has_version known w) (all w (among target.versions w there)) unknown;
        })
