-- calls on the texts of paths
use Rattle.std.proofs.Common.{◌≡◌, ℕ, sym, ap, subst}
use Rattle.std.specs.Prelude.{Option, Some, Result, Err}
use Rattle.xt_messages.specs.declared.meta.MetaAnswer.{MetaAnswer}
use Rattle.xt_messages.specs.declared.meta.MetaAnswer.TheVariants as answer
use Rattle.xt_messages.specs.declared.meta.MetaRefusal.{MetaRefusal}
use Rattle.volume_rows.specs.declared.Asker.{Asker}
use Rattle.volume_rows.specs.declared.Granting.{Granting}
use Rattle.volume_tree.specs.declared.TreeErr.{TreeErr}
use Rattle.volume_tree.specs.declared.TreeErr.TheVariants as failed
use Rattle.volume_rows.specs.Paths.{Path}
use Rattle.volume_rows.specs.Rows.{Volumes}
use Rattle.volume_rows.specs.Requests.{Outcome, on_path}
use Rattle.volume_rows.specs.Grants.{granted, granted_at}
use Rattle.volume_tree.specs.Calls.{Comes, Grants, IsBadPath}

-- what isn't a path is refused, and changes nothing
pub bad_path : (volumes inside : Volumes) (why : TreeErr) (path : Option Path) (on : Path → Outcome) → inside ≡ volumes → IsBadPath why path → Comes (Err why) volumes inside (on_path volumes path on)
bad_path volumes inside (failed.Refused why) path on view bad =
    subst (λ (p : Option Path). Comes (Err (failed.Refused why)) volumes inside (on_path volumes p on)) (sym bad.1) (ap (λ (w : MetaRefusal). answer.Refused w) bad.0, view)
bad_path volumes inside failed.OutOfMemory path on view bad = view

-- and what is one is handled by its names
pub good_path : (result : Result MetaAnswer TreeErr) (inside old new : Volumes) (path : Option Path) (names : Path) (on : Volumes → Path → Outcome) → inside ≡ old → Some names ≡ path → Comes result inside new (on inside names) → Comes result old new (on_path old path (on old))
good_path result inside old new path names on view is comes =
    subst (λ (p : Option Path). Comes result old new (on_path old p (on old))) is (subst (λ (v : Volumes). Comes result v new (on v names)) view comes)

-- a grant on the text of a path
pub bad_grant : (volumes : Volumes) (who : Asker) (want : ℕ) (why : TreeErr) (path : Option Path) → IsBadPath why path → Grants (Err why) (granted volumes who want path)
bad_grant volumes who want (failed.Refused why) path bad =
    subst (λ (p : Option Path). Grants (Err (failed.Refused why)) (granted volumes who want p)) (sym bad.1) (ap (λ (w : MetaRefusal). Err w) bad.0)
bad_grant volumes who want failed.OutOfMemory path bad = tt

pub good_grant : (result : Result Granting TreeErr) (inside volumes : Volumes) (who : Asker) (want : ℕ) (path : Option Path) (names : Path) → inside ≡ volumes → Some names ≡ path → Grants result (granted_at inside who want names) → Grants result (granted volumes who want path)
good_grant result inside volumes who want path names view is gives =
    subst (λ (p : Option Path). Grants result (granted volumes who want p)) is (subst (λ (v : Volumes). Grants result (granted_at v who want names)) view gives)
