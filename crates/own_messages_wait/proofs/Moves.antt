-- how the head of a replica moves, and what stands then
use Rattle.std.proofs.Common.{◌≡◌, ◌≤◌, true, false, sym, ap, subst, ◌∙◌, Option, Some, None, le_trans}
use Rattle.xt_base.specs.declared.ids.NodeId.{NodeId}
use Rattle.xt_base.specs.declared.ids.Epoch.{Epoch}
use Rattle.xt_messages.specs.declared.file.FileHead.{FileHead}
use Rattle.xt_protocol.specs.Stamps.{is_epoch, is_earlier}
use Rattle.replica_safety.proofs.Orders.{is_one, not_after, not_before_self, same_self, up_to_before, up_to_trans}
use Rattle.xt_protocol.specs.declared.states.Progress.{Progress}
use Rattle.xt_protocol.specs.declared.states.Progress.TheVariants as progress
use Rattle.xt_protocol.specs.declared.states.Tenure.{Tenure}
use Rattle.own_messages_wait.proofs.Standing.{HeadStands, IfTenure, IsOfEpoch, IsPast, ProgressStands, TenureStands}
use Rattle.own_messages_wait.proofs.Tests.{not_both}

-- ---- how a head moves

-- a later promise, or more of the promised epoch
pub record Moves (own next : FileHead) : Type 0 where
  pub promised : (e : Epoch) → is_earlier own.promised e ≡ false → is_earlier next.promised e ≡ false
  pub of_epoch : (e : Epoch) → is_earlier own.promised e ≡ false → IsOfEpoch own e → IsOfEpoch next e
  pub past : (e : Epoch) (committed : FileHead) → is_earlier own.promised e ≡ false → IsPast own e committed → IsPast next e committed

pub moves_none : (own next : FileHead) → next ≡ own → Moves own next
moves_none own next same =
    record {
      promised = λ e is. ap (λ (h : FileHead). is_earlier h.promised e) same ∙ is;
      of_epoch = λ e is now. subst (λ (h : FileHead). IsOfEpoch h e) (sym same) now;
      past = λ e committed is now. subst (λ (h : FileHead). IsPast h e committed) (sym same) now;
    }

-- what stood of a tenure stands
pub tenure_moves : (n : NodeId) (own next : FileHead) (t : Tenure) → Moves own next → TenureStands n own t → TenureStands n next t
tenure_moves n own next t moves stands = record { promised = moves.promised t.epoch stands.promised; progress = at t.progress stands.progress }
  where
    at : (p : Progress) → ProgressStands n own t p → ProgressStands n next t p
    at progress.Gathering is = is
    at (progress.Fetching chosen source asked later) is = is
    at (progress.Installing chosen acked) is = λ has. moves.of_epoch t.epoch stands.promised (is has)
    at (progress.Active committed issued) is = (moves.past t.epoch committed stands.promised is.0, is.1)

pub if_moves : (n : NodeId) (own next : FileHead) (o : Option Tenure) → Moves own next → IfTenure n own o → IfTenure n next o
if_moves n own next None moves stands = tt
if_moves n own next (Some t) moves stands = tenure_moves n own next t moves stands

-- a later promise
pub promise_moves : (own : FileHead) (epoch : Epoch) → is_earlier own.promised epoch ≡ true → Moves own (record own { promised = epoch })
promise_moves own epoch later =
    record {
      promised = λ e is. up_to_trans e own.promised epoch is (not_after own.promised epoch later);
      of_epoch = λ e is now here. not_both (is_earlier e epoch) (up_to_before e own.promised epoch is later) here;
      past = λ e committed is now here. not_both (is_earlier e epoch) (up_to_before e own.promised epoch is later) here;
    }

-- more of the promised epoch
pub record IsMore (own next : FileHead) : Type 0 where
  pub promised : next.promised ≡ own.promised
  pub epoch : next.stamp.epoch ≡ own.promised
  pub count : is_epoch own.stamp.epoch own.promised ≡ true → own.stamp.count ≤ next.stamp.count

pub more_moves : (own next : FileHead) → IsMore own next → Moves own next
more_moves own next m =
    record {
      promised = λ e is. ap (λ (p : Epoch). is_earlier p e) m.promised ∙ is;
      of_epoch = λ e is now here. at e is (ap (is_earlier e) (sym m.promised) ∙ here);
      past = λ e committed is now here.
          let there : is_earlier e own.promised ≡ false = ap (is_earlier e) (sym m.promised) ∙ here in
          let old = now there in
          let same : e ≡ own.promised = is_one e own.promised there is in
          (at e is there, le_trans old.1 (m.count (ap (is_epoch own.stamp.epoch) (sym same) ∙ old.0)));
    }
  where
    at : (e : Epoch) → is_earlier own.promised e ≡ false → is_earlier e own.promised ≡ false → is_epoch next.stamp.epoch e ≡ true
    at e is here = (let same : e ≡ own.promised = is_one e own.promised here is in ap (λ (d : Epoch). is_epoch d e) (m.epoch ∙ sym same) ∙ same_self e)

pub more_head : (own next : FileHead) → IsMore own next → HeadStands next
more_head own next m = ap (λ (p : Epoch). is_earlier p next.stamp.epoch) (m.promised ∙ sym m.epoch) ∙ not_before_self next.stamp.epoch
