-- what is read as a cluster begins
use Rattle.std.proofs.Common.{ℕ, ◌≡◌, refl, sym, subst, Bool, false, Option, List, []}
use Rattle.xt_messages.specs.declared.status.Status.{Status}
use Rattle.xt_messages.specs.declared.status.Status.TheVariants as status
use Rattle.node_links.specs.declared.link.Datagram.{Datagram}
use Rattle.node_runs.specs.Links.{Reads}
use Rattle.node_runs.proofs.Sending.{reads_none}
use Rattle.client_loop.specs.Carrying.{Around}
use Rattle.xt_base.specs.Faults.{fault_count_after}
use Rattle.client_jobs.specs.Running.{HasWhy}
use Rattle.cluster_job.specs.Opening.{OnlyReads, ReadsUntil, CannotOpen}

-- nothing was read
pub nothing_read : (a : Around) → OnlyReads a a []
nothing_read a = record { reads = reads_none a.to_read; only = refl }

-- of what is around, only the clock gave readings
pub only_reads : (given now : Option (List Datagram)) (sent later : Option (List Datagram)) (losses lost : ℕ) (to_read unread : Option (List ℕ)) (readings : List ℕ)
    → now ≡ given → later ≡ sent → lost ≡ losses → Reads to_read unread readings
    → OnlyReads (record { to_come = given; sent = sent; losses = losses; to_read = to_read }) (record { to_come = now; sent = later; losses = lost; to_read = unread })
    readings
only_reads given now sent later losses lost to_read unread readings same still kept reads = record { reads = reads; only = cc }

-- where the clock can't be read, nothing is
pub unread_until : (before after : Around) (why : Status) (count : ℕ) → why ≡ status.ClockFault count → OnlyReads before after [] → ReadsUntil before after why
unread_until before after why count is only = subst (ReadsUntil before after) (sym is) only

-- the count of faults after a call that went well
pub went_well : (failed : Bool) (count now : ℕ) → failed ≡ false → now ≡ fault_count_after failed count → now ≡ count
went_well failed count now well counts = subst (λ b. now ≡ fault_count_after b count) well counts

-- the clock can't be read, and the link was bound
pub cannot_read : (before after : Around) (link bound clock later source : ℕ) (why : Status) (count : ℕ) → why ≡ status.ClockFault count → OnlyReads before after []
    → bound ≡ link → HasWhy (record { link = bound; clock = clock; source = source }) (record { link = bound; clock = later; source = source }) why
    → CannotOpen before after (record { link = link; clock = clock; source = source }) (record { link = bound; clock = later; source = source }) why
cannot_read before after link bound clock later source why count is only same cause = record {
  reads = unread_until before after why count is only;
  cause = subst (λ n. HasWhy (record { link = n; clock = clock; source = source }) (record { link = bound; clock = later; source = source }) why) same cause;
}

pub unread_same : (given sent : Option (List Datagram)) (losses : ℕ) (to_read unread : Option (List ℕ)) → unread ≡ to_read → (let before : Around = record { to_come = given; sent = sent; losses = losses; to_read = to_read } in
    let after : Around = record { to_come = given; sent = sent; losses = losses; to_read = unread } in after ≡ before)
unread_same given sent losses to_read unread same = cc
