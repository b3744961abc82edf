-- A short run of three replicas, as an OSD's rows make it: a byte is written, committed by two of three, and read.
use Rattle.std.specs.Prelude.{◌≡◌, ℕ, Bool, List, [], ◌∷◌, Option, None, replicate}
use Rattle.xt_base.specs.declared.TheConstants.{NO_OBJECT}
use Rattle.xt_base.specs.declared.ids.Epoch.{Epoch}
use Rattle.xt_base.specs.declared.ids.FileId.{FileId}
use Rattle.xt_messages.specs.declared.file.FileHead.{FileHead}
use Rattle.xt_messages.specs.declared.file.Op.{Op}
use Rattle.xt_messages.specs.declared.file.Op.TheVariants as op
use Rattle.xt_messages.specs.declared.file.Update.{Update}
use Rattle.xt_protocol.specs.Folds.{new_row}
use Rattle.xt_protocol.specs.Heads.{new_head, head_after}
use Rattle.replica_safety.specs.Rules.{first_start}
use Rattle.replica_runs.specs.HeadSteps.{Turn, Gains, Gathers, TakesHead, TakesUpdate, Draws, CountsStatus, Chooses, SendsChosen, CountsInstalled, Activates, Issues, CountsUpdated, Commits, AnswersRead, nobody, none_acked, with_status, with_acked, target_of, after_turns, MayTurn}
use Rattle.replica_runs.specs.HeadWorld.{World, Idle, TellsActive, TellsIssue, TellsCommit, ReadOk, WriteOk, BeginsAt}
use Rattle.replica_runs.specs.Made.{IsMade}
use Rattle.replica_runs.specs.Marks.{Begins}

abbrev pub three : List ℕ
three = 1 ∷ 2 ∷ 3 ∷ []

abbrev pub the_file : FileId
the_file = record { volume = replicate 16 0; number = 1 }

-- nothing is kept, sent or reported yet
abbrev pub first_world : World
first_world = record {
  nodes = λ r. record { kept = new_row the_file; body = λ o v. []; primary = Idle };
  holder = None;
  sent = [];
  entries = [];
}

abbrev pub one : Epoch
one = record { number = 1; node = record { 0 = 1 } }

-- the head that two nodes report
abbrev pub told_head : FileHead
told_head = record new_head { promised = one }

abbrev pub one_status : ℕ → Option FileHead
one_status = with_status nobody 1 told_head

abbrev pub two_statuses : ℕ → Option FileHead
two_statuses = with_status one_status 2 told_head

abbrev pub target : FileHead
target = target_of one told_head

abbrev pub one_acked : ℕ → Bool
one_acked = with_acked none_acked 1

abbrev pub two_acked : ℕ → Bool
two_acked = with_acked one_acked 2

-- client 900's first call writes a byte
abbrev pub writes_a_byte : ℕ × ℕ → Op
writes_a_byte id = op.Write 0 0 (97 ∷ [])

abbrev pub one_byte : Update
one_byte = record {
  stamp = record { epoch = one; count = 1 };
  id = record { client = record { 0 = 900 }; number = 1 };
  mark = record { epoch = 0; size = 1 };
  drop_from = NO_OBJECT;
  object = 0;
  body = 97 ∷ [];
}

abbrev pub written : FileHead
written = head_after target one_byte

abbrev pub sample : List Turn
sample =
    record { node = 1; steps = Gains ∷ Draws 0 ∷ Gathers one ∷ [] } ∷
    record { node = 2; steps = Gathers one ∷ [] } ∷
    record {
      node = 1;
      steps = CountsStatus one nobody 1 told_head ∷ CountsStatus one one_status 2 told_head ∷ Chooses one two_statuses 1 told_head ∷
          SendsChosen one told_head none_acked ∷ TakesHead one target ∷ [];
    } ∷
    record { node = 2; steps = TakesHead one target ∷ [] } ∷
    record {
      node = 1;
      steps = CountsInstalled one told_head none_acked 1 target.stamp ∷ CountsInstalled one told_head one_acked 2 target.stamp ∷
          Activates one told_head two_acked ∷ Issues one target none_acked one_byte.id 0 one_byte ∷ TakesUpdate one_byte ∷ [];
    } ∷
    record { node = 2; steps = TakesUpdate one_byte ∷ [] } ∷
    record {
      node = 1;
      steps = CountsUpdated one target one_byte none_acked 1 one_byte.stamp ∷ CountsUpdated one target one_byte one_acked 2 one_byte.stamp ∷
          Commits one target one_byte two_acked ∷ AnswersRead one written None none_acked 0 ∷ [];
    } ∷ []

-- The sample is a run from the first start, and these are its entries.
pub record SampleRuns : Type 0 where
  pub begins : Begins (IsMade 1024 writes_a_byte) three first_start
  pub begins_at : BeginsAt first_start first_world
  pub runs : MayTurn 1024 writes_a_byte three first_world sample
  pub entries : (after_turns first_world sample).entries
      ≡ ReadOk 1 1 1 0 (97 ∷ []) ∷ WriteOk 1 1 (900, 1) ∷ TellsCommit 1 1 (900, 1) ∷ TellsIssue 1 1 (900, 1) ∷ TellsActive 1 0 (0, 0) ∷ []
