-- A peer ends with one head, whatever was known of it.
use Rattle.std.proofs.Common.{◌≡◌, ℕ, suc, zero, Bool, true, false, cond, List, refl, sym, ap, subst, ◌∙◌, Option, Some, None, find}
use Rattle.std.specs.Prelude.{not, ◌&&◌, if◌then◌else◌}
use Rattle.xt_base.specs.declared.ids.Epoch.{Epoch}
use Rattle.xt_base.specs.declared.ids.Stamp.{Stamp}
use Rattle.xt_messages.specs.declared.file.FileHead.{FileHead}
use Rattle.xt_messages.specs.declared.file.ObjectVersion.{ObjectVersion}
use Rattle.xt_messages.specs.declared.message.Payload.TheVariants as payload
use Rattle.xt_messages.specs.declared.record.FileRow.{FileRow}
use Rattle.xt_messages.specs.declared.record.Record.TheVariants as kept
use Rattle.xt_protocol.specs.Folds.{body_of}
use Rattle.xt_protocol.specs.Stamps.{is_epoch, is_earlier, is_below, has_version}
use Rattle.xt_protocol.specs.Primaries.{fed, fed_next}
use Rattle.xt_protocol.specs.declared.states.Acted.{Acted}
use Rattle.xt_protocol.specs.ReplicaRows.{staged, headed, head_taken, first_missing, refused, behind, unanswered}
use Rattle.catch_up.specs.Exchanges.{Exchange, feeds, acknowledged, acts, goes_to, next, exchanges, ends_with, EndsWithOneHead}

module _ (body : ℕ → Stamp → List ℕ) (epoch : Epoch) (target : FileHead) (own : FileHead) where
  -- where a dialogue with a peer that had this head may be
  abbrev Holds : Exchange → Type 0
  Holds (feeds known row) = row.head ≡ own
  Holds (acknowledged row) = row.head ≡ ends_with own target

  either : (b : Bool) (known : List ObjectVersion) (row : FileRow) (x y : Acted) → (b ≡ true → Holds (acts body epoch target known row x)) → (b ≡ false → Holds (acts body epoch target known row y))
      → Holds (acts body epoch target known row (cond b x y))
  either true known row x y p q = p refl
  either false known row x y p q = q refl

  -- a body leaves the head
  staged_holds : (known : List ObjectVersion) (row : FileRow) (object : ℕ) (version : Stamp) (bytes : List ℕ) → row.head ≡ own
      → Holds (acts body epoch target known row (staged row.file row.head row.held epoch object version bytes))
  unfolding staged
  staged_holds known row object version bytes is =
      either (is_earlier epoch row.head.promised) known row (refused row.file row.head epoch) _ (λ _. is)
      (λ _. either (is_earlier row.head.promised epoch) known row (behind row.file row.head epoch) _ (λ _. is)
      (λ _. held (has_version row.held (body_of object version))))
    where
      held : (b : Bool) → Holds (acts body epoch target known row (record { rec = cond b None (Some (kept.Stage row.file object version bytes)); answer = Some (payload.Staged row.file epoch object version) }))
      held true = is
      held false = is

  -- the head is taken where it is above the own one, and each body is there
  headed_holds : (known : List ObjectVersion) (row : FileRow) → row.head ≡ own → Holds (acts body epoch target known row (headed row.file row.head row.held epoch target))
  unfolding headed
  headed_holds known row is =
      either (is_epoch target.promised epoch && is_epoch target.stamp.epoch epoch) known row _ unanswered
      (λ _. either (is_earlier epoch row.head.promised) known row (refused row.file row.head epoch) _ (λ _. is)
      (λ _. either (is_earlier row.head.promised epoch) known row (behind row.file row.head epoch) _ (λ _. is)
      (λ _. either (is_below row.head.stamp target.stamp) known row (head_taken row.file epoch target (first_missing row.held target.versions)) _
      (λ below. taken below (first_missing row.held target.versions))
      (λ above. is ∙ sym (ap (λ (b : Bool). if b then target else own) (ap (λ (h : FileHead). is_below h.stamp target.stamp) (sym is) ∙ above))))))
      (λ _. is)
    where
      taken : is_below row.head.stamp target.stamp ≡ true → (o : Option ObjectVersion) → Holds (acts body epoch target known row (head_taken row.file epoch target o))
      taken below None = sym (ap (λ (b : Bool). if b then target else own) (ap (λ (h : FileHead). is_below h.stamp target.stamp) (sym is) ∙ below))
      taken below (Some v) = is

  next_holds : (x : Exchange) → Holds x → Holds (next body epoch target x)
  unfolding fed
  next_holds (acknowledged row) is = is
  next_holds (feeds known row) is = at (find (λ v. not (has_version known v)) target.versions)
    where
      at : (o : Option ObjectVersion) → Holds (goes_to body epoch target known row (fed_next body target known o))
      at (Some v) = staged_holds known row v.object v.version (body v.object v.version) is
      at None = headed_holds known row is

  all_hold : (k : ℕ) (x : Exchange) → Holds x → Holds (exchanges body epoch target k x)
  all_hold zero x is = is
  all_hold (suc k) x is = all_hold k (next body epoch target x) (next_holds x is)

pub one_head : EndsWithOneHead
one_head body epoch target k known before after is = subst (Holds body epoch target before.head) is (all_hold body epoch target before.head k (feeds known before) refl)
