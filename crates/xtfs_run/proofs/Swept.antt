-- a sweep under the secret that words ask for
use Rattle.std.proofs.Common.{◌≡◌, ℕ, List, subst}
use Rattle.xt_base.specs.TimeSettings.{TimeSettings}
use Rattle.xt_messages.specs.declared.status.Status.{Status}
use Rattle.store_loading.specs.Loading.{Medium}
use Rattle.sweep_job.specs.Sweeping.{Around, IsSweep, Task}

abbrev task : List ℕ → TimeSettings → ℕ → Task
task key times limit = record { key = key; times = times; limit = limit }

pub under : {D : Type 0} (m : Medium D) (given key : List ℕ) (times : TimeSettings) (limit : ℕ) (before after : Around D) (said : Status) → given ≡ key
    → IsSweep m (task given times limit) before after said → IsSweep m (task key times limit) before after said
under m given key times limit before after said same is = subst (λ (k : List ℕ). IsSweep m (task k times limit) before after said) same is
