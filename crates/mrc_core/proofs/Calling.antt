-- what the calls on the volumes say of an outcome
use Rattle.std.proofs.Common.{◌≡◌, ◌∙◌, refl, sym, ap, subst, Bool, cond, length}
use Rattle.std.specs.Prelude.{Option, Some, None, Ok, Err}
use Rattle.std.proofs.Math.Dec.{leb-zero}
use Rattle.xt_messages.specs.declared.meta.MetaRefusal.{MetaRefusal}
use Rattle.xt_messages.specs.declared.meta.MetaAnswer.{MetaAnswer}
use Rattle.xt_messages.specs.declared.meta.MetaAnswer.TheVariants as answer
use Rattle.volume_rows.specs.Paths.{Path}
use Rattle.volume_rows.specs.Rows.{Volumes}
use Rattle.volume_rows.specs.Requests.{Outcome, has_names}
use Rattle.volume_tree.specs.declared.TreeErr.TheVariants as failed
use Rattle.volume_tree.specs.Calls.{in_result, Comes}
use Rattle.server_rows.specs.Laws.{SettlesAs, Settles}

-- a change that isn't refused is done
pub done : (old new : Volumes) (what told : MetaAnswer) → SettlesAs old new what → Ok told ≡ in_result what → answer.Done ≡ what
done old new answer.Done told settles is = refl
done old new (answer.Refused why) told settles is = absurd (cc is)
done old new _ told settles is = absurd settles

-- one that is refused changes nothing
pub refused : (old new : Volumes) (what : MetaAnswer) (why : MetaRefusal) → SettlesAs old new what → answer.Refused why ≡ what → new ≡ old
refused old new what why settles is = subst (SettlesAs old new) (sym is) settles

-- what a call comes to
pub call_done : (told : MetaAnswer) (old new : Volumes) (outcome : Outcome) → Settles old outcome → Comes (Ok told) old new outcome → (answer.Done ≡ outcome.answer) × (new ≡ outcome.volumes)
call_done told old new outcome settles comes = (done old outcome.volumes outcome.answer told settles comes.0, comes.1)

pub call_refused : (why : MetaRefusal) (old new : Volumes) (outcome : Outcome) → Settles old outcome → Comes (Err (failed.Refused why)) old new outcome → (answer.Refused why ≡ outcome.answer) × (new ≡ outcome.volumes)
call_refused why old new outcome settles comes = (comes.0, comes.1 ∙ sym (refused old outcome.volumes outcome.answer why settles comes.0))

-- any path has no names at least
pub any_names : (path : Option Path) → has_names 0 path ≡ path
any_names None = refl
any_names (Some path) = ap (λ (b : Bool). cond b (Some path) None) (leb-zero (length path))
