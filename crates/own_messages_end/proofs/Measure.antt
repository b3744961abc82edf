-- fewer messages to itself are left after each that an OSD handles
use Rattle.std.proofs.Common.{◌≡◌, ℕ, ◌≤◌, ◌-◌, Bool, List, [], ◌∷◌, sym, ap, subst, ◌∙◌, arith}
use Rattle.std.specs.Prelude.{zero, suc}
use Rattle.xt_messages.specs.declared.file.Capability.{Capability}
use Rattle.xt_messages.specs.declared.event.Event.TheVariants as event
use Rattle.xt_messages.specs.declared.message.Msg.{Msg}
use Rattle.own_messages_end.specs.Queues.{AreEnough, Working, forget, forgotten, goes_on, handle, handled, handles, handles_first}

module _ (sealed : Capability → Bool) (reading k : ℕ) (w : Working) (enough : AreEnough sealed reading k w) where
  not_yet : (m : Msg) (rest : List Msg) → w.own ≡ m ∷ rest → (k : ℕ) → AreEnough sealed reading k w → 1 ≤ k
  unfolding goes_on handled
  not_yet m rest own zero none = absurd (no_first (sym own ∙ none [] (omega arith)))
    where
      no_first : m ∷ rest ≡ [] → ⊥
      no_first e = cc e
  not_yet m rest own (suc k) none = omega arith

  falls : (m : Msg) (rest : List Msg) → w.own ≡ m ∷ rest → AreEnough sealed reading (k - 1) (handles sealed (record w { own = rest }) reading (event.Deliver m))
  unfolding goes_on handled
  falls m rest own moves low =
      subst (λ (x : Working). (goes_on sealed reading moves x).own ≡ []) (ap (handles_first sealed reading w) own) (enough (handle ∷ moves) (omega (arith, low)))

  stays : AreEnough sealed reading k (forgotten w)
  unfolding goes_on handled
  stays moves low = enough (forget ∷ moves) low

pub both : (sealed : Capability → Bool) (reading k : ℕ) (w : Working) (m : Msg) (rest : List Msg) → w.own ≡ m ∷ rest → AreEnough sealed reading k w
    → (1 ≤ k) × AreEnough sealed reading (k - 1) (handles sealed (record w { own = rest }) reading (event.Deliver m))
both sealed reading k w m rest own enough = (not_yet sealed reading k w enough m rest own k enough, falls sealed reading k w enough m rest own)

pub kept : (sealed : Capability → Bool) (reading k : ℕ) (w : Working) → AreEnough sealed reading k w → AreEnough sealed reading k (forgotten w)
kept sealed reading k w enough = stays sealed reading k w enough
