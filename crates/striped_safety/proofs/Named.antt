-- the rows of a striped file at a member: the versions that its head names are held, also after an update
use Rattle.std.proofs.Common.{◌≡◌, ℕ, inl, inr, Bool, true, false, cond, List, [], ◌∷◌, subst, refl, Some, None}
use Rattle.std.specs.Prelude.{◌==◌}
use Rattle.std.proofs.lemmas.Bool.{eqb-true}
use Rattle.xt_base.specs.declared.ids.OpId.{OpId}
use Rattle.xt_base.specs.declared.ids.Stamp.{Stamp}
use Rattle.xt_messages.specs.declared.file.Capability.{Capability}
use Rattle.xt_messages.specs.declared.file.ObjectVersion.{ObjectVersion}
use Rattle.xt_messages.specs.declared.file.Op.{Op}
use Rattle.xt_messages.specs.declared.record.FileRow.{FileRow}
use Rattle.xt_protocol.specs.FileStates.{Site}
use Rattle.xt_protocol.specs.Folds.{body_of}
use Rattle.xt_protocol.specs.Heads.{version_of}
use Rattle.xt_protocol.specs.ReplicaRows.{kept_after}
use Rattle.xt_protocol.specs.StripedRows.{handle_striped}
use Rattle.xt_protocol.specs.declared.states.Acted.{Acted}
use Rattle.osd_invariants.proofs.StripedAsks.{striped_outcome}
use Rattle.replica_safety.specs.Lists.{Has}
use Rattle.replica_runs.specs.Seen.{NamesHeld}
use Rattle.replica_runs.proofs.Replicas.{update_names}

-- a row of a striped file: no list is stored, and each version that the head names is held
abbrev pub IsMembers : FileRow → Type 0
IsMembers row = (row.location ≡ None) × NamesHeld row.held row.head.versions

-- a member's step leaves it so
pub member_stays : (site : Site) (row : FileRow) (id : OpId) (capability : Capability) (asked : Op) → (x : FileRow) → IsMembers x → IsMembers (kept_after x (handle_striped site row id capability asked).rec)
member_stays site row id capability asked x =
    striped_outcome (λ (acted : Acted). IsMembers x → IsMembers (kept_after x acted.rec)) site row id capability asked
    (record { nothing = λ is. is; tells = λ answer is. is; keeps = λ update _ is. (is.0, update_names x update is.1) })

-- a version that is found is named
pub version_named : (vs : List ObjectVersion) (object : ℕ) (version : Stamp) → version_of vs object ≡ Some version → Has (body_of object version) vs
version_named [] object version is = absurd (cc is)
version_named (v ∷ vs) object version is = at (version_named vs object version) (v.object == object) refl is
  where
    at : (version_of vs object ≡ Some version → Has (body_of object version) vs) → (b : Bool) → (v.object == object) ≡ b → cond b (Some v.version) (version_of vs object) ≡ Some version → Has (body_of object version) (v ∷ vs)
    at rest true same is = inl (let its_version : v.version ≡ version = cc is in let its_object = eqb-true v.object object same in
        subst (λ (t : Stamp). body_of object t ≡ v) its_version (subst (λ (o : ℕ). body_of o v.version ≡ v) its_object refl))
    at rest false other is = inr (rest is)
