-- what a few messages come to at a metadata server, from no records
use Rattle.std.specs.Prelude.{ℕ, ◌+◌, false, Option, Some, None, List, [], ◌∷◌, ◌++◌, map, codes}
use Rattle.xt_base.specs.declared.ids.NodeId.{NodeId}
use Rattle.xt_base.specs.declared.ids.FileId.{FileId}
use Rattle.xt_base.specs.declared.ids.SizeMark.{SizeMark}
use Rattle.xt_messages.specs.declared.file.Kind.TheVariants as kind
use Rattle.xt_messages.specs.declared.meta.MetaReq.{MetaReq}
use Rattle.xt_messages.specs.declared.meta.MetaReq.TheVariants as ask
use Rattle.xt_messages.specs.declared.meta.MetaRefusal.TheVariants as refusal
use Rattle.xt_messages.specs.declared.meta.MetaAnswer.{MetaAnswer}
use Rattle.xt_messages.specs.declared.meta.MetaAnswer.TheVariants as answer
use Rattle.xt_messages.specs.declared.meta.RowKind.TheVariants as row_kind
use Rattle.xt_messages.specs.declared.registry.RegistryAnswer.TheVariants as told
use Rattle.xt_messages.specs.declared.message.Payload.{Payload}
use Rattle.xt_messages.specs.declared.message.Payload.TheVariants as payload
use Rattle.xt_messages.specs.declared.message.Msg.{Msg}
use Rattle.xt_messages.specs.declared.event.Event.TheVariants as event
use Rattle.volume_rows.specs.Examples.{Asked, by_first, mkdir}
use Rattle.server_rows.specs.declared.NewSizes.{NewSizes}
use Rattle.server_rows.specs.Requests.{report_settled}
use Rattle.server_rows.specs.Metadata.{MrcState, mrc_of, step_of_mrc}

-- a key, of which only tags speak
abbrev pub key : List ℕ
key = 0 ∷ []

abbrev pub client : NodeId
client = record { 0 = 10 }

-- a message to the server, and when it comes
pub record Coming : Type 0 where
  pub at : ℕ
  pub msg : Msg

-- a request of client 10
abbrev pub sent_at : ℕ → ℕ → Asked → Coming
sent_at at number asked =
    record {
      at = at;
      msg =
          record {
            from = client;
            to = record { 0 = 901 };
            list = 1;
            payload = payload.Meta number asked.who.user asked.who.group asked.request;
          };
    }

-- requests at the clock 0, under rising numbers
abbrev pub numbered : ℕ → List Asked → List Coming
numbered number [] = []
numbered number (asked ∷ later) = sent_at 0 number asked ∷ numbered (number + 1) later

-- the server after messages
abbrev pub after : MrcState → List Coming → MrcState
after mrc [] = mrc
after mrc (coming ∷ later) = after (step_of_mrc key mrc coming.at (event.Deliver coming.msg)).mrc later

-- what the messages of a step answer
abbrev pub answer_in : Payload → List MetaAnswer
answer_in (payload.MetaReply number what) = what ∷ []
answer_in _ = []

abbrev pub told_in : List Msg → List MetaAnswer
told_in [] = []
told_in (msg ∷ msgs) = answer_in msg.payload ++ told_in msgs

-- what each of the messages is answered
abbrev pub answers_from : MrcState → List Coming → List (List MetaAnswer)
answers_from mrc [] = []
answers_from mrc (coming ∷ later) =
    let step = step_of_mrc key mrc coming.at (event.Deliver coming.msg) in
    told_in step.turned.outs ∷ answers_from step.mrc later

-- a server without records, at the clock 0
abbrev pub new_server : MrcState
new_server = mrc_of key [] 0

-- an answer each
abbrev pub one_each : List MetaAnswer → List (List MetaAnswer)
one_each told = map (λ what. what ∷ []) told

-- rows of OSDs from a node
abbrev pub rows_from : ℕ → List ℕ → Coming
rows_from node osds =
    record {
      at = 0;
      msg =
          record {
            from = record { 0 = node };
            to = record { 0 = 901 };
            list = 1;
            payload =
                payload.RegistryReply 0
                (told.Rows (map (λ osd. record { node = record { 0 = osd }; kind = 1; address = []; version = 1 }) osds));
          };
    }

-- a file of one replica
abbrev pub create_one : List ℕ → MetaReq
create_one path = ask.Create path 420 kind.Replicated 1 4096

-- rows count from the DIR alone; a file is made and unlinked; a number that comes again gets the same answer, whatever it asks
-- now, and an older one gets none
abbrev pub file_steps : List Coming
file_steps =
    sent_at 5000 1 (by_first (mkdir (codes "/v"))) ∷ rows_from 900 (2 ∷ 1 ∷ 2 ∷ []) ∷ rows_from 10 [] ∷ sent_at 5000 2 (by_first (create_one (codes "/v/a")))
    ∷ sent_at 5000 2 (by_first (ask.Stat (codes "/v")))
    ∷ sent_at 5000 1 (by_first (mkdir (codes "/v")))
    ∷ sent_at 5000 3 (by_first (ask.Stat (codes "/v/a")))
    ∷ []

abbrev pub file_answers : List (List MetaAnswer)
file_answers =
    (answer.Done ∷ []) ∷ [] ∷ [] ∷ (answer.Done ∷ []) ∷ (answer.Done ∷ []) ∷ []
    ∷ (answer.Row row_kind.File 1 1 420 (record { epoch = 0; size = 0 }) ∷ [])
    ∷ []

abbrev pub unlinking : List Coming
unlinking = sent_at 5001 3 (by_first (ask.Unlink (codes "/v/a"))) ∷ []

-- where files are: one of replicas, but neither a striped one nor a directory; a request to change a list isn't taken
abbrev pub located_steps : List Coming
located_steps =
    sent_at 5000 4 (by_first (ask.Create (codes "/v/s") 420 kind.Striped 1 4096)) ∷ sent_at 5000 5 (by_first (ask.Locate (codes "/v/a")))
    ∷ sent_at 5000 6 (by_first (ask.Locate (codes "/v/s")))
    ∷ sent_at 5000 7 (by_first (ask.Locate (codes "/v")))
    ∷ sent_at 5000 4 (by_first (ask.Change (codes "/v/a") (record { 0 = 1 } ∷ [])))
    ∷ sent_at 5000 8 (by_first (ask.Change (codes "/v/a") (record { 0 = 1 } ∷ [])))
    ∷ []

abbrev pub located_answers : List (List MetaAnswer)
located_answers =
    (answer.Done ∷ []) ∷ (answer.Located (record { version = 1; kind = kind.Replicated; stripe = 4096; members = record { 0 = 1 } ∷ [] }) false ∷ [])
    ∷ (answer.Refused refusal.NotReplicated ∷ [])
    ∷ (answer.Refused refusal.IsDir ∷ [])
    ∷ []
    ∷ []
    ∷ []

-- the files that were ever made: their numbers, and when they were unlinked
abbrev pub fates : MrcState → List (ℕ × Option ℕ)
fates mrc = map (λ made. (made.0, made.1.unlinked)) mrc.catalogue.made

-- the new marks of a file, as reports come in
abbrev pub next_mark : SizeMark → Option NewSizes → SizeMark
next_mark mark None = mark
next_mark mark (Some sizes) = sizes.mark

abbrev pub marks_reported : FileId → SizeMark → List SizeMark → List SizeMark
marks_reported file mark [] = []
marks_reported file mark (report ∷ reports) =
    let now = next_mark mark (report_settled file None (Some (0, mark)) report).sets in
    now ∷ marks_reported file now reports

abbrev pub at_epoch : ℕ → ℕ → SizeMark
at_epoch epoch size = record { epoch = epoch; size = size }
