-- a frame, and the frames that it becomes as its front, a byte of its epoch and its length change
use Rattle.std.specs.Prelude.{ℕ, List, [], ◌∷◌, ◌++◌, length, take, drop, replicate, Result, Ok, Err}
use Rattle.xt_messages.specs.declared.message.Msg.{Msg}
use Rattle.xt_messages.specs.declared.message.Payload.TheVariants as payload
use Rattle.xt_frames.specs.declared.fault.FrameErr.{FrameErr}
use Rattle.xt_frames.specs.declared.fault.FrameErr.TheVariants as fault
use Rattle.xt_frames.specs.PayloadFields.{epoch_of_at, gather_fields, replica_arms, payload_arms, first_said_at, said_arms, message_at}
use Rattle.xt_frames.specs.Decoding.{cut_of, first_word, part_of, kind_at, head_at, message_of, decoded}
use Rattle.xt_wire.specs.IdFields.{node_at, file_at, epoch_at}
use Rattle.spec_examples.specs.Fields.{fields}

-- opens what reads and writes frames
unfoldable pub frames : Unit {0}
unfolding
    fields node_at file_at epoch_at epoch_of_at gather_fields replica_arms payload_arms first_said_at said_arms message_at cut_of first_word
    part_of kind_at head_at message_of decoded
frames = tt

-- Gather of file 1 in the nil volume with epoch (1, 1), from 1 to 2
abbrev pub gather : Msg
gather =
    record {
      from = record { 0 = 1 };
      to = record { 0 = 2 };
      list = 1;
      payload = payload.Gather (record { volume = replicate 16 0; number = 1 }) (record { number = 1; node = record { 0 = 1 } });
    }

abbrev pub bytes : List ℕ
bytes =
    0 ∷ 0 ∷ 0 ∷ 0x32 ∷ 2 ∷ 6 ∷ 0 ∷ 0 ∷ 0 ∷ 1 ∷ 0 ∷ 0 ∷ 0 ∷ 2 ∷ replicate 16 0
    ++ 0 ∷ 0 ∷ 0 ∷ 0 ∷ 0 ∷ 0 ∷ 0 ∷ 1 ∷ 0 ∷ 0 ∷ 0 ∷ 0 ∷ 0 ∷ 0 ∷ 0 ∷ 1 ∷ 0 ∷ 0 ∷ 0 ∷ 1 ∷ []

-- what is read from the frame of a message, where it is the frame alone
abbrev pub read_in : Msg × List ℕ → Result (Msg × ℕ) FrameErr
read_in row = Ok (row.0, length row.1)

-- the length of the frame that was read
abbrev pub length_of : Result (Msg × ℕ) FrameErr → Result ℕ FrameErr
length_of (Ok x) = Ok x.1
length_of (Err e) = Err e

-- The first six bytes in place of those of the frame, the first byte of the epoch's number in place of 0, and how many bytes
-- there are; and the length of the frame that they begin with, or why they are refused.
abbrev pub Row : Type 0
Row = List ℕ × ℕ × ℕ × Result ℕ FrameErr

abbrev pub changed : Row → List ℕ
changed row = take row.2 (row.0 ++ take 32 (drop 6 bytes) ++ row.1 ∷ drop 39 bytes ++ 0 ∷ [])

abbrev pub rows : List Row
rows =
    (0 ∷ 0 ∷ 0 ∷ 0x32 ∷ 2 ∷ 6 ∷ [], 0, 50, Ok 50)
    ∷ (0 ∷ 0 ∷ 0 ∷ 0x32 ∷ 2 ∷ 6 ∷ [], 0, 51, Ok 50)
    -- the length
    ∷ (0 ∷ 0x10 ∷ 0 ∷ 0 ∷ 2 ∷ 6 ∷ [], 0, 50, Err fault.Truncated)
    ∷ (0 ∷ 0 ∷ 0 ∷ 0x33 ∷ 2 ∷ 6 ∷ [], 0, 50, Err fault.Truncated)
    ∷ (0 ∷ 0x10 ∷ 0 ∷ 1 ∷ 2 ∷ 6 ∷ [], 0, 50, Err fault.TooLong)
    ∷ (0 ∷ 0x10 ∷ 0 ∷ 1 ∷ 2 ∷ 6 ∷ [], 0, 4, Err fault.TooLong)
    ∷ (0 ∷ 0 ∷ 0 ∷ 0 ∷ 2 ∷ 6 ∷ [], 0, 50, Err fault.Field)
    ∷ (0 ∷ 0 ∷ 0 ∷ 13 ∷ 2 ∷ 6 ∷ [], 0, 50, Err fault.Field)
    ∷ (0 ∷ 0 ∷ 0 ∷ 13 ∷ 1 ∷ 25 ∷ [], 0, 50, Err fault.Field)
    ∷ (0 ∷ 0 ∷ 0 ∷ 14 ∷ 2 ∷ 6 ∷ [], 0, 50, Err fault.Field)
    ∷ (0 ∷ 0 ∷ 0 ∷ 0x31 ∷ 2 ∷ 6 ∷ [], 0, 50, Err fault.Field)
    ∷ (0 ∷ 0 ∷ 0 ∷ 0x33 ∷ 2 ∷ 6 ∷ [], 0, 51, Err fault.Field)
    -- the version
    ∷ (0 ∷ 0 ∷ 0 ∷ 0x32 ∷ 0 ∷ 6 ∷ [], 0, 50, Err fault.Version)
    ∷ (0 ∷ 0 ∷ 0 ∷ 0x32 ∷ 1 ∷ 6 ∷ [], 0, 50, Err fault.Version)
    ∷ (0 ∷ 0 ∷ 0 ∷ 0x32 ∷ 3 ∷ 6 ∷ [], 0, 50, Err fault.Version)
    ∷ (0 ∷ 0 ∷ 0 ∷ 0x32 ∷ 1 ∷ 25 ∷ [], 0, 50, Err fault.Version)
    -- the kind
    ∷ (0 ∷ 0 ∷ 0 ∷ 0x32 ∷ 2 ∷ 0 ∷ [], 0, 50, Err fault.Kind)
    ∷ (0 ∷ 0 ∷ 0 ∷ 0x32 ∷ 2 ∷ 25 ∷ [], 0, 50, Err fault.Kind)
    ∷ (0 ∷ 0 ∷ 0 ∷ 0x32 ∷ 2 ∷ 25 ∷ [], 0x40, 50, Err fault.Kind)
    ∷ (0 ∷ 0 ∷ 0 ∷ 0x32 ∷ 2 ∷ 31 ∷ [], 0, 50, Err fault.Kind)
    ∷ (0 ∷ 0 ∷ 0 ∷ 0x32 ∷ 2 ∷ 40 ∷ [], 0, 50, Err fault.Kind)
    -- the number of the epoch, 2^62 - 2^56 + 1 and 2^62 + 1
    ∷ (0 ∷ 0 ∷ 0 ∷ 0x32 ∷ 2 ∷ 6 ∷ [], 0x3f, 50, Ok 50)
    ∷ (0 ∷ 0 ∷ 0 ∷ 0x32 ∷ 2 ∷ 6 ∷ [], 0x40, 50, Err fault.Field)
    ∷ []
