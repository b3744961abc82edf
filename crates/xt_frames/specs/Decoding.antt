-- how a frame is read from the front of bytes, or the first fault in the order in which it is tested
use Rattle.std.specs.Prelude.{◌≡◌, ℕ, ◌+◌, ◌-◌, Bool, List, length, take, drop, nat_lt, nat_le, ◌==◌, ◌&&◌, ◌||◌, Result, Ok, Err, if◌then◌else◌}
use Rattle.xt_base.specs.declared.TheConstants.{FRAME}
use Rattle.xt_messages.specs.declared.message.Msg.{Msg}
use Rattle.xt_fields.specs.declared.fault.FieldErr.{FieldErr}
use Rattle.xt_fields.specs.declared.fault.FieldErr.TheVariants as field
use Rattle.xt_fields.specs.BasicFields.{byte_at, word_at}
use Rattle.xt_frames.specs.declared.fault.FrameErr.{FrameErr}
use Rattle.xt_frames.specs.declared.fault.FrameErr.TheVariants as fault
use Rattle.xt_frames.specs.PayloadFields.{message_at}

infixl 10 ◌>>=◌
abbrev pub ◌>>=◌ : {A B : Type 0} → Result A FrameErr → (A → Result B FrameErr) → Result B FrameErr
(Ok x) >>= f = f x
(Err e) >>= f = Err e

-- what is no field makes a frame no frame
abbrev pub fault_of : FieldErr → FrameErr
fault_of field.OutOfMemory = fault.OutOfMemory
fault_of field.Short = fault.Field
fault_of field.Over = fault.Field
fault_of field.NotText = fault.Field
fault_of field.Unfit = fault.Field

abbrev pub as_frame : {A : Type 0} → Result A FieldErr → Result A FrameErr
as_frame (Ok x) = Ok x
as_frame (Err e) = Err fault.Field

-- fewer than 4 bytes, a length above 1,048,576, fewer bytes than the length, a length below 14; else what comes after the length
unfoldable pub cut_of : ℕ → List ℕ → Result (List ℕ) FrameErr
cut_of len bytes =
    if nat_lt FRAME len then Err fault.TooLong
    else if nat_lt (length bytes) len then Err fault.Truncated
    else if nat_lt len 14 then Err fault.Field
    else Ok (take (len - 4) (drop 4 bytes))

unfoldable pub first_word : List ℕ → Result (ℕ × List ℕ) FrameErr
first_word bytes = if nat_lt (length bytes) 4 then Err fault.Truncated else as_frame (word_at bytes)

unfoldable pub part_of : List ℕ → Result (List ℕ) FrameErr
part_of bytes = do
  len ← first_word bytes
  cut_of len.0 bytes

-- the numbers of kinds: 1 to 24, and 32 to 39
abbrev pub is_kind : ℕ → Bool
is_kind kind = (nat_le 1 kind && nat_le kind 24) || (nat_le 32 kind && nat_le kind 39)

-- another version, and then another kind
unfoldable pub kind_at : List ℕ → Result (ℕ × List ℕ) FrameErr
kind_at bytes = do
  kind ← as_frame (byte_at bytes)
  if is_kind kind.0 then Ok kind else Err fault.Kind

unfoldable pub head_at : List ℕ → Result (ℕ × List ℕ) FrameErr
head_at bytes = do
  version ← as_frame (byte_at bytes)
  if version.0 == 2 then kind_at version.1 else Err fault.Version

-- the fields are the rest, all of it
abbrev pub whole : {A : Type 0} → Result (A × List ℕ) FieldErr → Result A FrameErr
whole (Ok x) = if length x.1 == 0 then Ok x.0 else Err fault.Field
whole (Err e) = Err fault.Field

unfoldable pub message_of : List ℕ → Result Msg FrameErr
message_of part = do
  kind ← head_at part
  whole (message_at kind.0 kind.1)

-- the message at the front, and the length of its frame
unfoldable pub decoded : List ℕ → Result (Msg × ℕ) FrameErr
decoded bytes = do
  part ← part_of bytes
  msg ← message_of part
  Ok (msg, 4 + length part)

-- A call failed as decoding does, unless memory ran out.
abbrev pub Fails : {A : Type 0} → FrameErr → Result A FrameErr → Type 0
Fails fault.OutOfMemory read = Unit {0}
Fails fault.Truncated read = read ≡ Err fault.Truncated
Fails fault.TooLong read = read ≡ Err fault.TooLong
Fails fault.Version read = read ≡ Err fault.Version
Fails fault.Kind read = read ≡ Err fault.Kind
Fails fault.Field read = read ≡ Err fault.Field

-- What a call gave, seen by view, is what decoding gives, unless memory ran out.
abbrev pub Gives : {X A : Type 0} → (X → A) → Result X FrameErr → Result A FrameErr → Type 0
Gives view (Ok x) read = read ≡ Ok (view x)
Gives view (Err e) read = Fails e read
