-- the counts of faults where a line is done or refused
use Rattle.std.proofs.Common.{◌≡◌, ℕ, refl, sym, subst, inl}
use Rattle.xt_messages.specs.declared.status.Status.{Status}
use Rattle.world_hull.specs.declared.errors.WorldErr.{WorldErr}
use Rattle.world_hull.specs.declared.errors.WorldErr.TheVariants as error
use Rattle.schedule_lines.specs.Causes.{HasCause}
use Rattle.schedule_replay.specs.Steps.{status_for}

-- a line isn't done, and neither the source nor the sink failed
pub refused_cause : (source_before source_after sink : ℕ) (number : ℕ) (e : WorldErr) (s : Status)
    → source_after ≡ source_before
    → s ≡ status_for number e
    → HasCause source_before source_after sink sink s
refused_cause sb sa k number e s kept same = subst (HasCause sb sa k k) (sym same) (of e)
  where
    of : (e : WorldErr) → HasCause sb sa k k (status_for number e)
    of (error.Illegal rule) = (kept, refl)
    of (error.Limit what limit) = (kept, refl)
    of (error.Full need limit) = (kept, refl)
    of error.OutOfMemory = (inl kept, refl)

-- counts that stayed as they were
pub moved_cause : (source_before source_now source_after sink_before sink_now sink_after : ℕ) (s : Status)
    → source_now ≡ source_before
    → sink_now ≡ sink_before
    → HasCause source_now source_after sink_now sink_after s
    → HasCause source_before source_after sink_before sink_after s
moved_cause sb sn sa kb kn ka s source sink cause =
    subst (λ (k : ℕ). HasCause sb sa k ka s) sink (subst (λ (b : ℕ). HasCause b sa kn ka s) source cause)
