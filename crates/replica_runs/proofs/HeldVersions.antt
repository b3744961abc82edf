-- The versions that a node holds, as a rising set, and their bodies.
use Rattle.std.proofs.Common.{◌≡◌, ℕ, ◌<◌, ◌⊎◌, Bool, true, false, List, ◌∷◌, refl, sym, ap, ap₂, ◌∙◌, subst, inl, inr, arith, if◌then◌else◌, ◌==◌, ◌&&◌, ◌||◌, not, Some, None}
use Rattle.std.proofs.lemmas.Bool.{and_from}
use Rattle.std.proofs.lemmas.Bool.Decides.{nat_tests}
use Rattle.xt_base.specs.declared.TheConstants.{NO_OBJECT}
use Rattle.xt_base.specs.declared.ids.Stamp.{Stamp}
use Rattle.xt_messages.specs.declared.file.ObjectVersion.{ObjectVersion}
use Rattle.xt_messages.specs.declared.file.Update.{Update}
use Rattle.xt_messages.specs.declared.record.FileRow.{FileRow}
use Rattle.xt_messages.specs.declared.record.Record.TheVariants as kept
use Rattle.xt_protocol.specs.FileIds.{is_file}
use Rattle.xt_protocol.specs.Folds.{body_put, makes_body, held_after}
use Rattle.xt_protocol.specs.Folds as folds
use Rattle.xt_protocol.specs.Stamps.{is_stamp, is_version, has_version, with_held}
use Rattle.xt_protocol.proofs.Folds.{file-itself}
use Rattle.xt_protocol.proofs.Stamps.{stamp-equal, version-equal, version-itself, has_version-with_held}
use Rattle.xt_protocol.specs.PrimaryRows.{body_beyond, newer_body}
use Rattle.replica_safety.specs.Lists.{Has}
use Rattle.replica_runs.specs.FileHeads.{Body, body_of}
use Rattle.replica_runs.specs.HeadWorld.{BodiesAre}
use Rattle.replica_runs.specs.Steps.{Holds}
use Rattle.replica_runs.proofs.Tools.{true_false, by_test, both_true, by_node}

number_is : (a b : ℕ) → (a == b) ≡ true → a ≡ b
number_is a b e = grind (arith, nat_tests)

three_true : (a b c : Bool) → (a && b && c) ≡ true → (a ≡ true) × (b ≡ true) × (c ≡ true)
three_true true true true h = (refl, refl, refl)
three_true true true false h = true_false h refl
three_true true false c h = true_false h refl
three_true false b c h = true_false h refl

three_from : (a b c : Bool) → a ≡ true → b ≡ true → c ≡ true → (a && b && c) ≡ true
three_from true true true p q r = refl
three_from true true false p q r = true_false r refl
three_from true false c p q r = true_false q refl
three_from false b c p q r = true_false p refl

equal_self : (n : ℕ) → (n == n) ≡ true
equal_self n = grind (arith, nat_tests)

stamp_self : (s : Stamp) → is_stamp s s ≡ true
stamp_self s = grind (arith, nat_tests)

-- one more version
pub held_new : (hs : List ObjectVersion) (v : ObjectVersion) → has_version (with_held hs v) v ≡ true
held_new hs v = has_version-with_held hs v v ∙ ap (λ b. b || has_version hs v) (version-itself v)

pub held_more : (hs : List ObjectVersion) (v w : ObjectVersion) → has_version hs w ≡ true → has_version (with_held hs v) w ≡ true
held_more hs v w h = has_version-with_held hs v w ∙ by_test (λ b. (b || has_version hs w) ≡ true) (is_version w v) (λ _. refl) (λ _. h)

pub held_cases : (hs : List ObjectVersion) (v w : ObjectVersion) → has_version (with_held hs v) w ≡ true → (w ≡ v) ⊎ (has_version hs w ≡ true)
held_cases hs v w h =
    by_test (λ b. is_version w v ≡ b → (b || has_version hs w) ≡ true → (w ≡ v) ⊎ (has_version hs w ≡ true)) (is_version w v)
    (λ _ e _. inl (version-equal w v e)) (λ _ _ k. inr k) refl (sym (has_version-with_held hs v w) ∙ h)

-- ---- their bodies

-- a row whose held versions and bodies are as before
pub same_bodies : (row other : FileRow) (body : ℕ → Stamp → List ℕ) (held : List Body) → other.held ≡ row.held → BodiesAre row body held → BodiesAre other body held
same_bodies row other body held same are = record {
  has = λ o v h. are.has o v (subst (λ hs. has_version hs (folds.body_of o v) ≡ true) same h);
  holds = λ o v low h. subst (λ hs. has_version hs (folds.body_of o v) ≡ true) (sym same) (are.holds o v low h);
}

-- one body more, in its place
pub one_body_more : (row other : FileRow) (body more : ℕ → Stamp → List ℕ) (held : List Body) (b : Body)
    → other.held ≡ with_held row.held (folds.body_of b.object b.version) → more b.object b.version ≡ b.bytes
    → ((o : ℕ) (v : Stamp) → (more o v ≡ body o v) ⊎ ((o ≡ b.object) × (v ≡ b.version)))
    → BodiesAre row body held → BodiesAre other more (b ∷ held)
one_body_more row other body more held b same here near are = record { has = has; holds = holds }
  where
    this : (o : ℕ) (v : Stamp) → o ≡ b.object → v ≡ b.version → Has (record { object = o; version = v; bytes = more o v }) (b ∷ held)
    this o v p q =
        let of : ℕ → Stamp → Body = λ x y. record { object = x; version = y; bytes = more x y } in
        let whole : List ℕ → Body = λ bytes. record { object = b.object; version = b.version; bytes = bytes } in
        inl (ap₂ of p q ∙ ap whole here)

    has : (o : ℕ) (v : Stamp) → has_version other.held (folds.body_of o v) ≡ true → Has (record { object = o; version = v; bytes = more o v }) (b ∷ held)
    has o v h = at (held_cases row.held (folds.body_of b.object b.version) (folds.body_of o v) (subst (λ hs. has_version hs (folds.body_of o v) ≡ true) same h)) (near o v)
      where
        at : (folds.body_of o v ≡ folds.body_of b.object b.version) ⊎ (has_version row.held (folds.body_of o v) ≡ true)
            → (more o v ≡ body o v) ⊎ ((o ≡ b.object) × (v ≡ b.version)) → Has (record { object = o; version = v; bytes = more o v }) (b ∷ held)
        at (inl p) w = this o v (ap (λ (x : ObjectVersion). x.object) p) (ap (λ (x : ObjectVersion). x.version) p)
        at (inr k) (inr q) = this o v q.0 q.1
        at (inr k) (inl e) = inr (subst (λ bytes. Has (record { object = o; version = v; bytes = bytes }) held) (sym e) (are.has o v k))

    holds : (o : ℕ) (v : Stamp) → o < NO_OBJECT → Holds (b ∷ held) o v → has_version other.held (folds.body_of o v) ≡ true
    holds o v low h = subst (λ hs. has_version hs (folds.body_of o v) ≡ true) (sym same) (at h.0 h.1)
      where
        at : (bytes : List ℕ) → Has (record { object = o; version = v; bytes = bytes }) (b ∷ held) → has_version (with_held row.held (folds.body_of b.object b.version)) (folds.body_of o v) ≡ true
        at bytes (inl p) = subst (λ (x : Body). has_version (with_held row.held (folds.body_of b.object b.version)) (folds.body_of x.object x.version) ≡ true) (sym p) (held_new row.held (folds.body_of b.object b.version))
        at bytes (inr k) = held_more row.held (folds.body_of b.object b.version) (folds.body_of o v) (are.holds o v low (bytes, k))

-- what a record puts is one body
put_near : (own : ℕ → Stamp → List ℕ) (object : ℕ) (version : Stamp) (bytes : List ℕ) (t : ℕ → Stamp → Bool)
    → ((o : ℕ) (v : Stamp) → t o v ≡ true → (o ≡ object) × (v ≡ version)) → (o : ℕ) (v : Stamp)
    → (newer_body (own o v) (if t o v then Some bytes else None) ≡ own o v) ⊎ ((o ≡ object) × (v ≡ version))
put_near own object version bytes t is o v =
    by_test (λ b. t o v ≡ b → (newer_body (own o v) (if b then Some bytes else None) ≡ own o v) ⊎ ((o ≡ object) × (v ≡ version))) (t o v)
    (λ _ e. inr (is o v e)) (λ _ _. inl refl) refl

put_here : (before bytes : List ℕ) (t : Bool) → t ≡ true → newer_body before (if t then Some bytes else None) ≡ bytes
put_here before bytes true e = refl
put_here before bytes false e = true_false e refl

-- a body that is staged
pub staged_bodies : (row : FileRow) (body : ℕ → Stamp → List ℕ) (held : List Body) (object : ℕ) (version : Stamp) (bytes : List ℕ)
    → BodiesAre row body held
    → BodiesAre (record row { held = with_held row.held (folds.body_of object version) }) (body_beyond row.file (Some (kept.Stage row.file object version bytes)) body)
    (record { object = object; version = version; bytes = bytes } ∷ held)
staged_bodies row body held object version bytes are =
    one_body_more row (record row { held = with_held row.held (folds.body_of object version) }) body (body_beyond row.file (Some (kept.Stage row.file object version bytes)) body) held
    (record { object = object; version = version; bytes = bytes }) refl
    (put_here (body object version) bytes (is_file row.file row.file && (object == object) && is_stamp version version) own)
    (put_near body object version bytes (λ o v. is_file row.file row.file && (object == o) && is_stamp version v)
    (λ o v e. let p = three_true (is_file row.file row.file) (object == o) (is_stamp version v) e in
    (sym (number_is object o p.1), sym (stamp-equal version v p.2)))) are
  where
    own : (is_file row.file row.file && (object == object) && is_stamp version version) ≡ true
    own = three_from (is_file row.file row.file) (object == object) (is_stamp version version) (file-itself row.file) (equal_self object) (stamp_self version)

-- an update that is taken: it has a body where it has an object
pub updated_bodies : (row other : FileRow) (body : ℕ → Stamp → List ℕ) (held : List Body) (u : Update) → other.held ≡ held_after row.held u → BodiesAre row body held
    → ((u.object ≡ NO_OBJECT) × BodiesAre other (body_beyond row.file (Some (kept.Update row.file u)) body) held)
    ⊎ ((u.object ≡ NO_OBJECT → ⊥) × BodiesAre other (body_beyond row.file (Some (kept.Update row.file u)) body) (body_of u ∷ held))
updated_bodies row other body held u same are =
    by_node (λ b. ((o : ℕ) (v : Stamp) → (makes_body u o v) ≡ (not b && (u.object == o) && is_stamp u.stamp v)) → other.held ≡ (if b then row.held else with_held row.held (folds.body_of u.object u.stamp))
    → ((u.object ≡ NO_OBJECT) × BodiesAre other more held) ⊎ ((u.object ≡ NO_OBJECT → ⊥) × BodiesAre other more (body_of u ∷ held))) u.object NO_OBJECT
    (λ none makes k. inl (
      none,
      record {
        has = λ o v h. subst (λ bytes. Has (record { object = o; version = v; bytes = bytes }) held) (sym (unput o v (makes o v))) (are.has o v (subst (λ hs. has_version hs (folds.body_of o v) ≡ true) k h));
        holds = λ o v low h. subst (λ hs. has_version hs (folds.body_of o v) ≡ true) (sym k) (are.holds o v low h);
      },
    ))
    (λ some makes k. inr (
      some,
      one_body_more row other body more held (body_of u) k
          (put_here (body u.object u.stamp) u.body (is_file row.file row.file && makes_body u u.object u.stamp)
          (and_from (is_file row.file row.file) (makes_body u u.object u.stamp) (file-itself row.file)
          (makes u.object u.stamp ∙ three_from true (u.object == u.object) (is_stamp u.stamp u.stamp) refl (equal_self u.object) (stamp_self u.stamp))))
          (put_near body u.object u.stamp u.body (λ o v. is_file row.file row.file && makes_body u o v)
          (λ o v e. let p = both_true (is_file row.file row.file) (makes_body u o v) e in
          let q = three_true true (u.object == o) (is_stamp u.stamp v) (sym (makes o v) ∙ p.1) in
          (sym (number_is u.object o q.1), sym (stamp-equal u.stamp v q.2)))) are,
    ))
    (λ o v. refl) same
  where
    more : ℕ → Stamp → List ℕ
    more = body_beyond row.file (Some (kept.Update row.file u)) body

    unput : (o : ℕ) (v : Stamp) → makes_body u o v ≡ false → body_beyond row.file (Some (kept.Update row.file u)) body o v ≡ body o v
    unput o v puts = ap (λ b. newer_body (body o v) (if (is_file row.file row.file && b) then Some u.body else None)) puts ∙ off (is_file row.file row.file)
      where
        off : (b : Bool) → newer_body (body o v) (if (b && false) then Some u.body else None) ≡ body o v
        off true = refl
        off false = refl
