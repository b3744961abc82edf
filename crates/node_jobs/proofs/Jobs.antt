-- how the job of a node ends
use Rattle.std.proofs.Common.{length, ℕ, Bool, Option, ◌≡◌, refl, sym, subst, List, [], ◌∷◌}
use Rattle.std.specs.List.{All, AllByRecursion}
use Rattle.std.proofs.lemmas.List.Elements.{All-append, All-from_recursion, recursion_from_All}
use Rattle.xt_base.specs.declared.ids.Boot.{Boot}
use Rattle.xt_messages.specs.Limits.{FitsBoot, FitsRecord}
use Rattle.xt_messages.specs.declared.record.Record.{Record}
use Rattle.xt_messages.specs.declared.status.Status.{Status}
use Rattle.xt_messages.specs.declared.status.Status.TheVariants as status
use Rattle.object_store.specs.Texts.{AreRecords}
use Rattle.node_links.specs.declared.link.Datagram.{Datagram}
use Rattle.node_runs.specs.BatchEnds.{Unfinished, EndsBatches, IsServedInBatches}
use Rattle.node_runs.specs.Runs.{Role, Served}
use Rattle.server_rows.specs.Directory.{DirState, dir_of}
use Rattle.server_limits.specs.Keeping.{DirRunsOn}
use Rattle.server_limits.proofs.Keeping.{dir_starts}
use Rattle.store_loading.specs.Boots.{next_boot, boot_record, booted}
use Rattle.store_loading.specs.Sinks.{HasSinkCause}

-- records with the next boot are within the limits
pub boot_fits : (records : List Record) → All FitsRecord records → FitsBoot (next_boot records) → AllByRecursion FitsRecord (booted records)
boot_fits records all boot =
    recursion_from_All FitsRecord (booted records)
    (All-append FitsRecord records (boot_record records ∷ []) all (All-from_one (boot_record records) boot))
  where
    All-from_one : (rec : Record) → FitsRecord rec → All FitsRecord (rec ∷ [])
    All-from_one rec fits = All-from_recursion FitsRecord (rec ∷ []) (fits, tt)

pub dir_ready : (records after : List Record) (state : DirState) → AreRecords records → FitsBoot (next_boot records) → after ≡ booted records
    → state ≡ dir_of after → DirRunsOn after state
dir_ready records after state are boot is told =
    subst (DirRunsOn after) (sym told) (subst (λ rs. DirRunsOn rs (dir_of rs)) (sym is) (dir_starts (booted records) (boot_fits records are.fit boot)))

-- serving never ends by a fault of the sink
module _ {S : Type 0} (told : Bool) (role : Role S) (boot : Boot) (period limit : ℕ) where
  ends_no_sink : (sink spent : ℕ) (to_come : Option (List Datagram)) (s : Served S) (left : Unfinished) (said : Status)
      → EndsBatches told role boot period limit spent to_come s left said → HasSinkCause sink sink said
  ends_no_sink sink spent to_come s left (status.SinkFault count) ending = absurd ending
  ends_no_sink sink spent to_come s left _ ending = refl

  pub served_sink : (start : Served S) (given_before given_after sent_before sent_after : Option (List Datagram)) (losses_before losses_after : ℕ)
      (unread read : Option (List ℕ)) (sink : ℕ) (said : Status)
      → IsServedInBatches told role boot period start limit given_before given_after sent_before sent_after losses_before losses_after unread read said
      → HasSinkCause sink sink said
  served_sink start given_before given_after sent_before sent_after losses_before losses_after unread read sink said is =
      ends_no_sink sink (length is.turns) is.to_come is.end is.left said is.ending
