-- What a swap of a journal's payloads answers.
use Rattle.std.specs.Prelude.{ℕ, ◌≡◌, List, Option, None, Some, Result, Ok, Err}
use Rattle.disk_model.specs.declared.disk.Disk.{Ghosts}
use Rattle.journal_moves.specs.declared.gathered.Gathered.{Gathered}
use Rattle.journal_moves.specs.Gathering.{gathered}
use Rattle.xt_journal.specs.declared.journal.Journal.{Journal}
use Rattle.xt_journal.specs.declared.errors.AppendErr.{AppendErr}
use Rattle.xt_journal.specs.declared.errors.AppendErr.TheVariants as append
use Rattle.xt_journal.specs.Access.{disk_of, place_of, limit_of, superblock_of}

module _ {D : Type 0} {g : Ghosts D} where
  -- these payloads, with what the journal's disk has of them
  abbrev pub gathered_on : Journal D g → List Gathered → List (List ℕ)
  gathered_on journal payloads = gathered g.is_told (g.kept (disk_of journal)).read payloads

  -- it is as it was, and so is its disk
  pub record IsAsBefore (old new : Journal D g) : Type 0 where
    pub disk : disk_of new ≡ disk_of old
    pub place : place_of new ≡ place_of old
    pub limit : limit_of new ≡ limit_of old
    pub superblock : superblock_of new ≡ superblock_of old

  -- There is no room exactly where this is needed, and the error reports it. The journal is as it was then.
  abbrev pub IsFullBy : Journal D g → Option ℕ → Result (Journal D g) (AppendErr D g) → Type 0
  IsFullBy old needed (Ok journal) = needed ≡ None
  IsFullBy old needed (Err (append.Broken count disk)) = needed ≡ None
  IsFullBy old needed (Err (append.Full journal need limit)) = (needed ≡ Some need) × IsAsBefore old journal × (limit ≡ limit_of old)
  IsFullBy old needed (Err (append.OutOfMemory journal)) = needed ≡ None
