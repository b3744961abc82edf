-- how a line of each form is read, loosely
use Rattle.std.specs.Prelude.{ℕ, List, if◌then◌else◌, Option, Some, None, option_map, codes}
use Rattle.std.specs.Str.{bytes_eq}
use Rattle.xt_base.specs.declared.ids.NodeId.{NodeId}
use Rattle.xt_messages.specs.declared.file.Kind.{Kind}
use Rattle.xt_messages.specs.declared.file.Location.{Location}
use Rattle.xt_messages.specs.declared.event.Call.TheVariants as call
use Rattle.time_line.specs.declared.line.Line.{Line}
use Rattle.time_line.specs.declared.line.Line.TheVariants as line
use Rattle.server_text.specs.Reading.{number_at, first_word, other_words, byte_of, bytes_of, node_in, members_at}
use Rattle.server_text.specs.RequestReading.{kind_in, meta_call_in, registry_call_in}

-- the node that the first word numbers, and the words after it
unfoldable pub node_at : List ℕ → NodeId × List ℕ
node_at words = (node_in (first_word words), other_words words)

-- where a file lies that a schedule declares or the metadata server makes
abbrev pub place_on : Kind → ℕ → List NodeId → Location
place_on kind stripe nodes = record { version = 1; kind = kind; stripe = stripe; members = nodes }

-- where a file lies: rep|str STRIPE NODE .. NODE
unfoldable pub location_at : List ℕ → Option Location
location_at words =
    let stripe = number_at 32 (other_words words) in
    option_map (λ nodes. place_on (kind_in (first_word words)) stripe.0 nodes) (members_at stripe.1)

unfoldable pub times_at : List ℕ → Line
times_at words =
    let lease = number_at 64 words in
    let drift = number_at 64 lease.1 in
    line.Times lease.0 drift.0

unfoldable pub osd_at : List ℕ → Line
osd_at words =
    let node = node_at words in
    line.Osd node.0

unfoldable pub client_at : List ℕ → Line
client_at words =
    let node = node_at words in
    let clock = number_at 64 node.1 in
    line.Client node.0 clock.0

unfoldable pub file_at : List ℕ → Option Line
file_at words =
    let number = number_at 64 words in
    option_map (λ location. line.File number.0 location) (location_at number.1)

unfoldable pub start_at : List ℕ → Line
start_at words =
    let node = node_at words in
    let clock = number_at 64 node.1 in
    line.Start node.0 clock.0

unfoldable pub stop_at : List ℕ → Line
stop_at words =
    let node = node_at words in
    line.Stop node.0

unfoldable pub crash_at : List ℕ → Option Line
crash_at words =
    let node = node_at words in
    let device_call = number_at 8 node.1 in
    option_map (λ fill. line.Crash node.0 device_call.0 fill) (byte_of (first_word device_call.1))

unfoldable pub cut_at : List ℕ → Line
cut_at words =
    let node = node_at words in
    let count = number_at 128 node.1 in
    line.Cut node.0 count.0

unfoldable pub clock_at : List ℕ → Line
clock_at words =
    let node = node_at words in
    let clock = number_at 64 node.1 in
    line.Clock node.0 clock.0

unfoldable pub tick_at : List ℕ → Line
tick_at words =
    let count = number_at 64 words in
    line.Tick count.0

unfoldable pub wake_at : List ℕ → Line
wake_at words =
    let node = node_at words in
    line.Wake node.0

unfoldable pub read_at : List ℕ → Line
read_at words =
    let client = node_at words in
    let file = number_at 64 client.1 in
    let object = number_at 64 file.1 in
    let at = number_at 32 object.1 in
    let len = number_at 32 at.1 in
    line.Call client.0 (call.Read file.0 object.0 at.0 len.0)

unfoldable pub write_at : List ℕ → Line
write_at words =
    let client = node_at words in
    let file = number_at 64 client.1 in
    let object = number_at 64 file.1 in
    let at = number_at 32 object.1 in
    line.Call client.0 (call.Write file.0 object.0 at.0 (bytes_of (first_word at.1)))

unfoldable pub truncate_at : List ℕ → Line
truncate_at words =
    let client = node_at words in
    let file = number_at 64 client.1 in
    let size = number_at 64 file.1 in
    let epoch = number_at 64 size.1 in
    line.Call client.0 (call.Truncate file.0 size.0 epoch.0)

unfoldable pub meta_at : List ℕ → Line
meta_at words =
    let client = node_at words in
    line.Call client.0 (meta_call_in client.1)

unfoldable pub registry_at : List ℕ → Line
registry_at words =
    let client = node_at words in
    line.Call client.0 (registry_call_in client.1)

unfoldable pub again_at : List ℕ → Line
again_at words =
    let client = node_at words in
    line.Again client.0

unfoldable pub aim_at : List ℕ → Line
aim_at words =
    let client = node_at words in
    let file = number_at 64 client.1 in
    let node = node_at file.1 in
    line.Aim client.0 file.0 node.0

unfoldable pub deliver_at : List ℕ → Line
deliver_at words =
    let number = number_at 128 words in
    line.Deliver number.0

unfoldable pub drop_at : List ℕ → Line
drop_at words =
    let number = number_at 128 words in
    line.Drop number.0

unfoldable pub settle_at : List ℕ → Line
settle_at words =
    let count = number_at 128 words in
    line.Settle count.0

-- the line of this name, of those that set the times or declare
unfoldable pub declared_line : List ℕ → List ℕ → Option Line
declared_line name words =
    if bytes_eq name (codes "times") then Some (times_at words)
    else if bytes_eq name (codes "osd") then Some (osd_at words)
    else if bytes_eq name (codes "mrc") then Some line.Mrc
    else if bytes_eq name (codes "dir") then Some line.Dir
    else if bytes_eq name (codes "client") then Some (client_at words)
    else if bytes_eq name (codes "file") then file_at words
    else None

-- the line of this name, of those that start, stop or plan a stop, move a clock or wake, and those before
unfoldable pub node_line : List ℕ → List ℕ → Option Line
node_line name words =
    if bytes_eq name (codes "start") then Some (start_at words)
    else if bytes_eq name (codes "stop") then Some (stop_at words)
    else if bytes_eq name (codes "crash") then crash_at words
    else if bytes_eq name (codes "cut") then Some (cut_at words)
    else if bytes_eq name (codes "clock") then Some (clock_at words)
    else if bytes_eq name (codes "tick") then Some (tick_at words)
    else if bytes_eq name (codes "wake") then Some (wake_at words)
    else declared_line name words

-- the line of this name, of all but those with bytes or texts
unfoldable pub named_line : List ℕ → List ℕ → Option Line
named_line name words =
    if bytes_eq name (codes "read") then Some (read_at words)
    else if bytes_eq name (codes "truncate") then Some (truncate_at words)
    else if bytes_eq name (codes "again") then Some (again_at words)
    else if bytes_eq name (codes "aim") then Some (aim_at words)
    else if bytes_eq name (codes "deliver") then Some (deliver_at words)
    else if bytes_eq name (codes "drop") then Some (drop_at words)
    else if bytes_eq name (codes "settle") then Some (settle_at words)
    else node_line name words

-- the line that the bytes may spell
unfoldable pub line_at : List ℕ → Option Line
line_at bytes =
    if bytes_eq (first_word bytes) (codes "write") then Some (write_at (other_words bytes))
    else if bytes_eq (first_word bytes) (codes "meta") then Some (meta_at (other_words bytes))
    else if bytes_eq (first_word bytes) (codes "registry") then Some (registry_at (other_words bytes))
    else named_line (first_word bytes) (other_words bytes)
