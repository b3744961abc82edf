-- What a head's versions name: the bodies of its writes.
use Rattle.std.proofs.Common.{◌≡◌, ◌≢◌, ℕ, suc, inl, inr, List, [], ◌∷◌, ◌++◌, length, refl, ap, ap₂, sym, ◌∙◌, subst, subst₂, arith, ◌==◌, if◌then◌else◌, append_assoc, append-nil, length-append, Option, Some, None}
use Rattle.std.specs.Prelude.{nat_lt}
use Rattle.std.proofs.lemmas.Bool.{cases_eq}
use Rattle.xt_base.specs.declared.ids.Epoch.{Epoch}
use Rattle.xt_base.specs.declared.ids.Stamp.{Stamp}
use Rattle.xt_messages.specs.declared.file.FileHead.{FileHead}
use Rattle.xt_messages.specs.declared.file.ObjectVersion.{ObjectVersion}
use Rattle.xt_messages.specs.declared.file.Update.{Update}
use Rattle.xt_base.specs.declared.TheConstants.{NO_OBJECT}
use Rattle.xt_protocol.specs.Heads.{new_head, head_after, version_of, with_version, versions_below}
use Rattle.replica_safety.specs.Lists.{Has}
use Rattle.replica_safety.proofs.Lists.{has-left}
use Rattle.replica_runs.specs.Made.{bodies_after, no_bodies, bodies_of}
use Rattle.replica_runs.specs.FileHeads.{folded, head_of, versions_of}
use Rattle.replica_runs.proofs.Tools.{has-right}
use Rattle.replica_runs.proofs.Content.{by_equal, by_less, at_object, kept, dropped, bodies_push}

pub folded_push : (head : FileHead) (us : List Update) (u : Update) → folded head (us ++ u ∷ []) ≡ head_after (folded head us) u
folded_push head [] u = refl
folded_push head (v ∷ us) u = folded_push (head_after head v) us u

-- An update that is the next one makes of the head of these writes the head of these and its own.
pub head_push : (promised epoch : Epoch) (us : List Update) (u : Update) → u.stamp ≡ record { epoch = epoch; count = suc (length us) } →
    head_after (head_of promised epoch us) u ≡ head_of promised epoch (us ++ u ∷ [])
head_push promised epoch us u stamp = ap₂ (λ (h : FileHead) (t : Stamp). record h { promised = promised; stamp = t }) (sym (folded_push new_head us u))
    (stamp ∙ ap (λ n. record { epoch = epoch; count = n }) (omega (arith, length-append us (u ∷ []))))

-- versions, one by one
version_put : (vs : List ObjectVersion) (o : ℕ) (v : Stamp) → version_of (with_version vs o v) o ≡ Some v
version_put [] o v = by_equal (λ b. (if b then Some v else None) ≡ Some v) o o (λ _. refl) (λ ne. absurd (ne refl))
version_put (x ∷ vs) o v = by_equal (λ b. version_of (if b then record { object = o; version = v } ∷ vs else if nat_lt o x.object then record { object = o; version = v } ∷ x ∷ vs else x ∷ with_version vs o v) o ≡ Some v) x.object o
    (λ _. here vs)
    (λ ne. by_less (λ b. version_of (if b then record { object = o; version = v } ∷ x ∷ vs else x ∷ with_version vs o v) o ≡ Some v) o x.object (λ _. here (x ∷ vs))
    (λ _. by_equal (λ b. (if b then Some x.version else version_of (with_version vs o v) o) ≡ Some v) x.object o (λ e. absurd (ne e)) (λ _. version_put vs o v)))
  where
    here : (rest : List ObjectVersion) → version_of (record { object = o; version = v } ∷ rest) o ≡ Some v
    here rest = by_equal (λ b. (if b then Some v else version_of rest o) ≡ Some v) o o (λ _. refl) (λ ne. absurd (ne refl))

version_skip : (x : ObjectVersion) (rest : List ObjectVersion) (o : ℕ) → x.object ≢ o → version_of (x ∷ rest) o ≡ version_of rest o
version_skip x rest o ne = by_equal (λ b. (if b then Some x.version else version_of rest o) ≡ version_of rest o) x.object o (λ e. absurd (ne e)) (λ _. refl)

version_other : (vs : List ObjectVersion) (o other : ℕ) (v : Stamp) → o ≢ other → version_of (with_version vs o v) other ≡ version_of vs other
version_other [] o other v ne = version_skip (record { object = o; version = v }) [] other ne
version_other (x ∷ vs) o other v ne = by_equal (λ b. version_of (if b then record { object = o; version = v } ∷ vs else if nat_lt o x.object then record { object = o; version = v } ∷ x ∷ vs else x ∷ with_version vs o v) other ≡ version_of (x ∷ vs) other) x.object o
    (λ e. version_skip (record { object = o; version = v }) vs other ne ∙ sym (version_skip x vs other (λ f. ne (sym e ∙ f))))
    (λ _. by_less (λ b. version_of (if b then record { object = o; version = v } ∷ x ∷ vs else x ∷ with_version vs o v) other ≡ version_of (x ∷ vs) other) o x.object
    (λ _. version_skip (record { object = o; version = v }) (x ∷ vs) other ne)
    (λ _. ap (λ r. if x.object == other then Some x.version else r) (version_other vs o other v ne)))

version_below : (vs : List ObjectVersion) (low o : ℕ) → version_of (versions_below vs low) o ≡ (if nat_lt o low then version_of vs o else None)
version_below [] low o = by_less (λ b. version_of [] o ≡ (if b then version_of [] o else None)) o low (λ _. refl) (λ _. refl)
version_below (x ∷ vs) low o = by_less (λ b. version_of (if b then x ∷ versions_below vs low else versions_below vs low) o ≡ (if nat_lt o low then version_of (x ∷ vs) o else None)) x.object low
    (λ below. by_equal (λ b. (if b then Some x.version else version_of (versions_below vs low) o) ≡ (if nat_lt o low then (if b then Some x.version else version_of vs o) else None)) x.object o
    (λ e. by_less (λ b. Some x.version ≡ (if b then Some x.version else None)) o low (λ _. refl) (λ no. absurd (omega arith)))
    (λ _. version_below vs low o))
    (λ above. version_below vs low o ∙ by_equal (λ b. (if nat_lt o low then version_of vs o else None) ≡ (if nat_lt o low then (if b then Some x.version else version_of vs o) else None)) x.object o
    (λ e. by_less (λ b. (if b then version_of vs o else None) ≡ (if b then Some x.version else None)) o low (λ no. absurd (omega arith)) (λ _. refl))
    (λ _. refl))

-- A version names the body of its write; an object without one has none.
abbrev pub IsNamed : List Update → (ℕ → List ℕ) → ℕ → Option Stamp → Type 0
IsNamed us bodies o None = bodies o ≡ []
IsNamed us bodies o (Some v) = (u : Update) × Has u us × (u.object ≡ o) × (u.stamp ≡ v) × (u.body ≡ bodies o)

more_named : (us : List Update) (u : Update) (bodies others : ℕ → List ℕ) (o : ℕ) (v : Option Stamp) → others o ≡ bodies o → IsNamed us bodies o v → IsNamed (us ++ u ∷ []) others o v
more_named us u bodies others o None same n = same ∙ n
more_named us u bodies others o (Some v) same n = (n.0, has-left n.0 us (u ∷ []) n.1, n.2, n.3, n.4 ∙ sym same)

-- the version of an object after an update
pub version_next : (vs : List ObjectVersion) (u : Update) (o : ℕ) → o ≢ u.object →
    version_of (if u.object == NO_OBJECT then versions_below vs u.drop_from else with_version (versions_below vs u.drop_from) u.object u.stamp) o ≡ (if nat_lt o u.drop_from then version_of vs o else None)
version_next vs u o ne = by_equal (λ b. version_of (if b then versions_below vs u.drop_from else with_version (versions_below vs u.drop_from) u.object u.stamp) o ≡ (if nat_lt o u.drop_from then version_of vs o else None)) u.object NO_OBJECT
    (λ _. version_below vs u.drop_from o) (λ _. version_other (versions_below vs u.drop_from) u.object o u.stamp (λ e. ne (sym e)) ∙ version_below vs u.drop_from o)

pub version_here : (vs : List ObjectVersion) (u : Update) → u.object ≢ NO_OBJECT →
    version_of (if u.object == NO_OBJECT then versions_below vs u.drop_from else with_version (versions_below vs u.drop_from) u.object u.stamp) u.object ≡ Some u.stamp
version_here vs u ne = by_equal (λ b. version_of (if b then versions_below vs u.drop_from else with_version (versions_below vs u.drop_from) u.object u.stamp) u.object ≡ Some u.stamp) u.object NO_OBJECT
    (λ e. absurd (ne e)) (λ _. version_put (versions_below vs u.drop_from) u.object u.stamp)

-- no version names the number that stands for no object
pub version_none : (vs : List ObjectVersion) (u : Update) → version_of vs NO_OBJECT ≡ None →
    version_of (if u.object == NO_OBJECT then versions_below vs u.drop_from else with_version (versions_below vs u.drop_from) u.object u.stamp) NO_OBJECT ≡ None
version_none vs u none = by_equal (λ b. version_of (if b then versions_below vs u.drop_from else with_version (versions_below vs u.drop_from) u.object u.stamp) NO_OBJECT ≡ None) u.object NO_OBJECT
    (λ _. below) (λ ne. version_other (versions_below vs u.drop_from) u.object NO_OBJECT u.stamp ne ∙ below)
  where
    below : version_of (versions_below vs u.drop_from) NO_OBJECT ≡ None
    below = version_below vs u.drop_from NO_OBJECT ∙ by_less (λ b. (if b then version_of vs NO_OBJECT else None) ≡ None) NO_OBJECT u.drop_from (λ _. none) (λ _. refl)

none_from : (head : FileHead) (us : List Update) → version_of head.versions NO_OBJECT ≡ None → version_of (folded head us).versions NO_OBJECT ≡ None
none_from head [] none = none
none_from head (u ∷ us) none = none_from (head_after head u) us (version_none head.versions u none)

pub no_version : (us : List Update) → version_of (versions_of us) NO_OBJECT ≡ None
no_version us = none_from new_head us refl

named_push : (us : List Update) (u : Update) (o : ℕ) → o ≢ NO_OBJECT → IsNamed us (bodies_of us) o (version_of (versions_of us) o) →
    IsNamed (us ++ u ∷ []) (bodies_of (us ++ u ∷ [])) o (version_of (versions_of (us ++ u ∷ [])) o)
named_push us u o real n = subst₂ (λ (h : FileHead) b. IsNamed (us ++ u ∷ []) b o (version_of h.versions o)) (sym (folded_push new_head us u)) (sym (bodies_push no_bodies us u))
    (elim (cases_eq o u.object) as (λ w. IsNamed (us ++ u ∷ []) (bodies_after (bodies_of us) u) o (version_of (head_after (folded new_head us) u).versions o)) [
      | inl e ↦ subst (λ k. IsNamed (us ++ u ∷ []) (bodies_after (bodies_of us) u) k (version_of (head_after (folded new_head us) u).versions k)) (sym e)
          (subst (IsNamed (us ++ u ∷ []) (bodies_after (bodies_of us) u) u.object) (sym (version_here (versions_of us) u (subst (λ k. k ≢ NO_OBJECT) e real)))
          (u, has-right u us (u ∷ []) (inl refl), refl, refl, sym (at_object (bodies_of us) u u.object refl)))
      | inr ne ↦ subst (IsNamed (us ++ u ∷ []) (bodies_after (bodies_of us) u) o) (sym (version_next (versions_of us) u o ne))
          (by_less (λ b. IsNamed (us ++ u ∷ []) (bodies_after (bodies_of us) u) o (if b then version_of (versions_of us) o else None)) o u.drop_from
          (λ l. more_named us u (bodies_of us) (bodies_after (bodies_of us) u) o (version_of (versions_of us) o) (kept (bodies_of us) u o ne l) n)
          (λ l. dropped (bodies_of us) u o ne l))
    ])

named_all : (done us : List Update) (o : ℕ) → o ≢ NO_OBJECT → IsNamed done (bodies_of done) o (version_of (versions_of done) o) → IsNamed (done ++ us) (bodies_of (done ++ us)) o (version_of (versions_of (done ++ us)) o)
named_all done [] o real n = subst (λ l. IsNamed l (bodies_of l) o (version_of (versions_of l) o)) (sym (append-nil done)) n
named_all done (u ∷ us) o real n = subst (λ l. IsNamed l (bodies_of l) o (version_of (versions_of l) o)) (append_assoc done (u ∷ []) us) (named_all (done ++ u ∷ []) us o real (named_push done u o real n))

-- The head of these writes names for each object the write that made its body; and none for the number that stands for no object.
pub versions_named : (us : List Update) (o : ℕ) → (o ≡ NO_OBJECT → bodies_of us o ≡ []) → IsNamed us (bodies_of us) o (version_of (versions_of us) o)
versions_named us o none = elim (cases_eq o NO_OBJECT) as (λ w. IsNamed us (bodies_of us) o (version_of (versions_of us) o)) [
  | inl e ↦ subst (IsNamed us (bodies_of us) o) (sym (ap (version_of (versions_of us)) e ∙ no_version us)) (none e)
  | inr real ↦ named_all [] us o real refl
]
