-- servers that keep their records, each before the messages of its step are sent
use Rattle.std.specs.Prelude.{◌≡◌, ℕ, List, Option}
use Rattle.std.specs.Option.{IfSome}
use Rattle.std.specs.List.{AllByRecursion}
use Rattle.xt_messages.specs.Limits.{FitsMessage, FitsRecord}
use Rattle.xt_messages.specs.declared.record.Record.{Record}
use Rattle.xt_protocol.specs.Folds.{IsInPlace, fold_of}
use Rattle.world_spec.specs.NodeSteps.{one_more}
use Rattle.server_rows.specs.Metadata.{MrcState, MrcStep, catalogue_of}
use Rattle.server_rows.specs.Directory.{DirState, DirStep, dir_of}
use Rattle.server_limits.specs.Limits.{FitsMrc, FitsDir}

-- The metadata server runs on these records: they are within their limits, it is within its own, and it knows what they say.
pub record MrcRunsOn (key : List ℕ) (records : List Record) (mrc : MrcState) : Type 0 where
  pub kept : AllByRecursion FitsRecord records
  pub limits : FitsMrc mrc
  pub agrees : mrc.catalogue ≡ catalogue_of key records

-- and so does the directory service
pub record DirRunsOn (records : List Record) (dir : DirState) : Type 0 where
  pub kept : AllByRecursion FitsRecord records
  pub limits : FitsDir dir
  pub agrees : dir ≡ dir_of records

-- a record that may be kept after these: it is within its limits, and in its place
abbrev pub MayFollow : List Record → Option Record → Type 0
MayFollow records rec = IfSome rec (λ r. FitsRecord r × IsInPlace (fold_of records) r)

-- A step of a metadata server that runs on these records: its record may be kept after them, it runs on the records with that one,
-- and its messages are within their limits.
pub record MrcStepsOn (key : List ℕ) (records : List Record) (step : MrcStep) : Type 0 where
  pub next : MayFollow records step.turned.rec
  pub runs : MrcRunsOn key (one_more records step.turned.rec) step.mrc
  pub outs : AllByRecursion FitsMessage step.turned.outs

-- and one of a directory service
pub record DirStepsOn (records : List Record) (step : DirStep) : Type 0 where
  pub next : MayFollow records step.turned.rec
  pub runs : DirRunsOn (one_more records step.turned.rec) step.dir
  pub outs : AllByRecursion FitsMessage step.turned.outs
