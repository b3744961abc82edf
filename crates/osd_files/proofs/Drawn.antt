-- a primary that draws an epoch records a promise that its replica may note
use Rattle.std.proofs.Common.{◌≡◌, ℕ, Bool, true, false, refl, sym, subst, List, arith, ◌<◌, ◌^◌, ◌+◌}
use Rattle.std.specs.Prelude.{IfSome, max, nat_lt, ◌||◌}
use Rattle.std.proofs.lemmas.Bool.{ltb-true}
use Rattle.xt_base.specs.declared.ids.NodeId.{NodeId}
use Rattle.xt_messages.specs.declared.file.FileHead.{FileHead}
use Rattle.xt_messages.specs.declared.record.FileRow.{FileRow}
use Rattle.xt_base.specs.declared.TheConstants.{COUNTS}
use Rattle.xt_messages.specs.Limits.{FitsEpoch, is_at_most}
use Rattle.xt_protocol.specs.declared.turned.Turned.{Turned}
use Rattle.xt_protocol.specs.declared.states.Place.{Place}
use Rattle.xt_protocol.specs.PrimaryRows.{draw_epoch, epoch_above}
use Rattle.replica_state.specs.Kept.{IsNotable}
use Rattle.osd_files.proofs.Rows.{lt_true}

or_true : (a b : Bool) → a ≡ true → (a || b) ≡ true
or_true true b is = refl
or_true false b is = absurd cc

above : (place : Place) (learnt : ℕ) (own : FileHead) → is_at_most own.promised (epoch_above place learnt own) ≡ true
above place learnt own =
    let less : own.promised.number < 1 + max own.promised.number learnt = omega arith in
    or_true _ _ (lt_true own.promised.number (1 + max own.promised.number learnt) less)

fits : (place : Place) (learnt : ℕ) (own : FileHead) → place.node.0 < 2 ^ 32 → nat_lt (epoch_above place learnt own).number COUNTS ≡ true → FitsEpoch (epoch_above place learnt own)
fits place learnt own node is = record { place = ltb-true (1 + max own.promised.number learnt) COUNTS is; primary = node }

pub drawn : (place : Place) (learnt : ℕ) (own : FileHead) (members : List NodeId) (row : FileRow) → place.node.0 < 2 ^ 32 → own ≡ row.head
    → IfSome (draw_epoch place learnt own members).turned.rec (IsNotable row)
unfolding draw_epoch
drawn place learnt own members row node is =
    let test = nat_lt (epoch_above place learnt own).number COUNTS in
    let on : (b : Bool) → test ≡ b → IfSome (draw_epoch place learnt own members).turned.rec (IsNotable row) = λ b same.
    elim b as (λ b. test ≡ b → IfSome (draw_epoch place learnt own members).turned.rec (IsNotable row)) [
      | true ↦ λ same. rw same (fits place learnt own node same, subst (λ (h : FileHead). is_at_most h.promised (epoch_above place learnt own) ≡ true) is (above place learnt own))
      | false ↦ λ same. rw same tt
    ] same
    in
    on test refl

pub drawn_notable : (place : Place) (learnt : ℕ) (own : FileHead) (members : List NodeId) (row : FileRow) (turned : Turned) → place.node.0 < 2 ^ 32 → own ≡ row.head
    → turned ≡ (draw_epoch place learnt own members).turned → IfSome turned.rec (IsNotable row)
drawn_notable place learnt own members row turned node is led =
    let P : Turned → Type 0 = λ t. IfSome t.rec (IsNotable row) in
    subst P (sym led) (drawn place learnt own members row node is)
