-- what a scrub gives
use Rattle.std.specs.Prelude.{ℕ, ◌≡◌, List}
use Rattle.std.specs.List.{All}
use Rattle.xt_messages.specs.declared.record.Record.{Record}
use Rattle.scrub.specs.declared.listing.Item.{Item}
use Rattle.scrub.specs.declared.found.Found.{Found}
use Rattle.scrub.specs.Report.{report_of}
use Rattle.scrub.specs.Reading.{HasBody}

-- The report on these items, each of which has its body in these records.
pub record IsReport (records : List Record) (items : List Item) (report : List Found) : Type 0 where
  pub there : All (HasBody records) items
  pub is : report ≡ report_of records items

-- These items were scrubbed, and no read failed: for all records that agree with what was read this is the report.
pub record HaveBeenScrubbed (agrees : List Record → Type 0) (before after : ℕ) (items : List Item) (report : List Found) : Type 0 where
  pub sound : after ≡ before
  pub is : (records : List Record) → agrees records → IsReport records items report
