-- the lines of a schedule: how each is spelled, and which there are
use Rattle.std.specs.Prelude.{ℕ, Bool, IsTrue, List, [], ◌∷◌, ◌++◌, ◌≡◌, ◌<◌, ◌^◌, codes}
use Rattle.std.specs.List.{flat_map}
use Rattle.std.specs.Fmt.{decimal}
use Rattle.xt_messages.specs.declared.file.Location.{Location}
use Rattle.time_line.specs.declared.line.Line.{Line}
use Rattle.time_line.specs.declared.line.Line.TheVariants as line
use Rattle.time_line.specs.Bounds.{FitsLine}
use Rattle.server_text.specs.Words.{spaced, hex_pair}
use Rattle.schedule_text.specs.CallText.{file_words, call_name, call_words, IsSpellableCall}

-- the words of a schedule's line
unfoldable pub line_words : Line → List (List ℕ)
line_words (line.Times lease drift) = codes "times" ∷ decimal lease ∷ decimal drift ∷ []
line_words (line.Osd node) = codes "osd" ∷ decimal node.0 ∷ []
line_words line.Mrc = codes "mrc" ∷ []
line_words line.Dir = codes "dir" ∷ []
line_words (line.Client node clock) = codes "client" ∷ decimal node.0 ∷ decimal clock ∷ []
line_words (line.File number location) = codes "file" ∷ file_words number location
line_words (line.Start node clock) = codes "start" ∷ decimal node.0 ∷ decimal clock ∷ []
line_words (line.Stop node) = codes "stop" ∷ decimal node.0 ∷ []
line_words (line.Crash node device_call fill) = codes "crash" ∷ decimal node.0 ∷ decimal device_call ∷ hex_pair fill ∷ []
line_words (line.Cut node count) = codes "cut" ∷ decimal node.0 ∷ decimal count ∷ []
line_words (line.Clock node clock) = codes "clock" ∷ decimal node.0 ∷ decimal clock ∷ []
line_words (line.Tick count) = codes "tick" ∷ decimal count ∷ []
line_words (line.Wake node) = codes "wake" ∷ decimal node.0 ∷ []
line_words (line.Call client made) = call_name made ∷ decimal client.0 ∷ call_words made
line_words (line.Again client) = codes "again" ∷ decimal client.0 ∷ []
line_words (line.Aim client file node) = codes "aim" ∷ decimal client.0 ∷ decimal file ∷ decimal node.0 ∷ []
line_words (line.Deliver number) = codes "deliver" ∷ decimal number ∷ []
line_words (line.Drop number) = codes "drop" ∷ decimal number ∷ []
line_words (line.Settle count) = codes "settle" ∷ decimal count ∷ []

-- the one spelling of a line, without the line feed that ends it
unfoldable pub line_text : Line → List ℕ
line_text line = spaced (line_words line)

-- where a schedule may put a file, of the places that fit: its list is the first one
abbrev pub IsPlace : Location → Type 0
IsPlace location = location.version ≡ 1

-- what the language asks of a line, beside the limits of its values; `first` says whether it is the first one
abbrev pub IsForm : Bool → Line → Type 0
IsForm first (line.Times lease drift) = IsTrue first
IsForm first (line.File number location) = IsPlace location
IsForm first (line.Cut node count) = count < 2 ^ 128
IsForm first (line.Call client made) = IsSpellableCall made
IsForm first (line.Deliver number) = number < 2 ^ 128
IsForm first (line.Drop number) = number < 2 ^ 128
IsForm first (line.Settle count) = count < 2 ^ 128
IsForm first _ = Unit {0}

-- a line of a schedule, as its first one or a later one
abbrev pub IsLine : Bool → Line → Type 0
IsLine first line = IsForm first line × FitsLine line

-- a schedule: its lines, a line feed after each
unfoldable pub schedule_text : List Line → List ℕ
schedule_text lines = flat_map (λ l. line_text l ++ 10 ∷ []) lines
