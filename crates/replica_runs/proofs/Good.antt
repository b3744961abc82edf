-- Worlds that show a history and hold what they serve.
use Rattle.std.proofs.Common.{◌≡◌, ℕ, List, [], take, zero, suc, refl, sym, subst, subst₂}
use Rattle.replica_safety.specs.Epochs.{Write}
use Rattle.replica_safety.specs.Lists.{Has}
use Rattle.replica_safety.specs.Rules.{Start}
use Rattle.replica_runs.specs.World.{Node, Message, World}
use Rattle.replica_runs.specs.Steps.{Step, Loses, after, May, AreHeld, ServesHeld}
use Rattle.replica_runs.specs.Steps as step
use Rattle.replica_runs.specs.Marks.{Begins}
use Rattle.replica_runs.proofs.Shows as shown
use Rattle.replica_runs.proofs.Present.{Present, stays_present, starts_present}

take-none : (n : ℕ) → take {A = Write} n [] ≡ []
take-none zero = refl
take-none (suc n) = refl

pub record IsGood (makes : List Write → Write → Type 0) (members : List ℕ) (start : Start) (w : World) : Type 0 where
  pub is : shown.IsShown makes members start w
  pub present : Present w

module _ (makes : List Write → Write → Type 0) (members : List ℕ) (start : Start) where
  pub steps : (w : World) (s : Step) → May makes members w s → IsGood makes members start w → IsGood makes members start (after w s)
  steps w s may ok = record { is = shown.steps makes members start w s may ok.is; present = stays_present makes members w s may ok.present }

  pub loses : (w : World) (n : ℕ) → IsGood makes members start w → IsGood makes members start (after w (step.Loses n))
  loses w n ok = steps w (step.Loses n) tt ok

  pub seems : (w w2 : World) → ((n : ℕ) → w2.nodes n ≡ w.nodes n) → w2.holder ≡ w.holder → ((m : Message) → Has m w2.messages → Has m w.messages) → w2.marks ≡ w.marks → ((r : ℕ) → w2.held r ≡ w.held r) →
      IsGood makes members start w → IsGood makes members start w2
  seems w w2 nodes holder messages marks held ok = record {
    is = shown.seems makes members start w w2 nodes holder messages marks (λ r b h. subst (Has b) (held r) h) ok.is;
    present = record {
      heads = λ r. subst₂ (λ b (x : Node). AreHeld b x.head.writes) (sym (held r)) (sym (nodes r)) (ok.present.heads r);
      served = λ r. subst₂ (λ b (x : Node). ServesHeld b x.primary) (sym (held r)) (sym (nodes r)) (ok.present.served r);
    };
  }

  pub good_begins : Begins makes members start → IsGood makes members start (step.begin start)
  good_begins b = record { is = shown.begins makes members start b; present = starts_present start }
