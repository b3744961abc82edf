-- the bytes of a line: no line feed is among them, and there are fewer than a line may have
use Rattle.std.proofs.Common.{◌≡◌, ℕ, zero, suc, ◌+◌, ◌*◌, ◌^◌, ◌<◌, ◌≤◌, Bool, List, [], ◌∷◌, length, length-append, refl, arith}
use Rattle.std.specs.Prelude.{codes}
use Rattle.std.specs.List.{AllByRecursion}
use Rattle.std.specs.Fmt.{decimal}
use Rattle.std.proofs.lemmas.Fmt.{length-decimal-le_wide}
use Rattle.xt_base.specs.declared.ids.NodeId.{NodeId}
use Rattle.xt_messages.specs.declared.file.Kind.{Kind}
use Rattle.xt_messages.specs.declared.file.Kind.TheVariants.{Replicated, Striped}
use Rattle.xt_messages.specs.declared.event.Call.{Call}
use Rattle.xt_messages.specs.declared.event.Call.TheVariants as call
use Rattle.xt_messages.specs.declared.meta.MetaReq.{MetaReq}
use Rattle.xt_messages.specs.declared.meta.MetaReq.TheVariants as ask
use Rattle.xt_messages.specs.declared.registry.RegistryReq.{RegistryReq}
use Rattle.xt_messages.specs.declared.registry.RegistryReq.TheVariants as wish
use Rattle.time_line.specs.declared.line.Line.{Line}
use Rattle.time_line.specs.declared.line.Line.TheVariants as line
use Rattle.schedule_text.specs.Words.{behind, spaced, hex_of, hex_pair, mode_word, node_words}
use Rattle.schedule_text.specs.RequestText.{kind_word, name_or_dash, want_word, meta_words, registry_words}
use Rattle.schedule_text.specs.Spellable.{IsSpellableRequest, IsSpellableWish}
use Rattle.schedule_text.specs.CallText.{call_name, call_words, IsSpellableCall}
use Rattle.xt_base.specs.FieldLimits.{AreBytes}
use Rattle.xt_messages.specs.Limits.{FitsNode, FitsMetaReq, FitsRegistryReq}
use Rattle.time_line.specs.Bounds.{FitsCall}
use Rattle.schedule_text.specs.LineText.{line_words, line_text, IsLine}
use Rattle.schedule_text.proofs.WordsAgain.{IsWord, IsWord-tested, decimal-IsWord, hex-IsWord}
use Rattle.schedule_text.proofs.ManyAgain.{members_few}
use Rattle.schedule_text.proofs.RequestsAgain.{meta-AreWords, registry-AreWords}
use Rattle.schedule_text.proofs.InLine.{spaced_in_line}
use Rattle.time_line.specs.declared.TheConstants.{LINE_BYTES}
use Rattle.schedule_lines.specs.RawLine.{IsInLine}

-- words without a space or a line feed, of so many bytes at most, with one for the space before each
record AreWords (most : ℕ) (words : List (List ℕ)) : Type 0 where
  each : AllByRecursion IsWord words
  few : length (behind words) ≤ most

no_words : AreWords 0 []
no_words = record { each = tt; few = omega arith }

more_words : (most size : ℕ) (word : List ℕ) (words : List (List ℕ)) → IsWord word → length word ≤ size → AreWords most words → AreWords (size + 1 + most) (word ∷ words)
more_words most size word words fits short all = record {
  each = (fits, all.each);
  few = let few = all.few in omega (arith, length-append word (behind words));
}

fewer : (few most : ℕ) (words : List (List ℕ)) → few ≤ most → AreWords few words → AreWords most words
fewer few most words less all = record { each = all.each; few = let least = all.few in omega arith }

-- a number of a line
number_words : (most n : ℕ) (words : List (List ℕ)) → n < 2 ^ 128 → AreWords most words → AreWords (41 + most) (decimal n ∷ words)
number_words most n words small all = more_words most 40 (decimal n) words (decimal-IsWord n (omega arith)) (length-decimal-le_wide 40 n (omega arith) (omega arith) (omega arith)) all

-- the bytes of a line's text
pub record IsLineText (text : List ℕ) : Type 0 where
  pub in_line : IsInLine text
  pub short : length text ≤ LINE_BYTES

spaced_text : (most : ℕ) (words : List (List ℕ)) → most ≤ LINE_BYTES → AreWords most words → IsLineText (spaced words)
spaced_text most [] small all = record { in_line = tt; short = omega arith }
spaced_text most (word ∷ words) small all = record {
  in_line = spaced_in_line (word ∷ words) all.each;
  short = let few = all.few in omega arith;
}

hex_length : (bytes : List ℕ) → length (hex_of bytes) ≡ 2 * length bytes
hex_length [] = refl
hex_length (byte ∷ bytes) = let rest = hex_length bytes in omega arith

hex_words : (bytes : List ℕ) → AreBytes bytes → length bytes ≤ 131072 → AreWords 262145 (hex_of bytes ∷ [])
hex_words bytes fits few = more_words 0 262144 (hex_of bytes) [] (hex-IsWord bytes fits) (omega (arith, hex_length bytes)) no_words

byte_words : (byte : ℕ) → byte < 256 → AreWords 3 (hex_pair byte ∷ [])
byte_words byte fits = more_words 0 2 (hex_pair byte) [] (hex-IsWord (byte ∷ []) one) (omega arith) no_words
  where
    one : AreBytes (byte ∷ [])
    one zero = fits
    one (suc place) = omega arith

place_words : (places : ℕ) (members : List NodeId) → length members ≤ places → AllByRecursion FitsNode members → AreWords (41 * places) (node_words members)
place_words places [] few fits = record { each = tt; few = omega arith }
place_words zero (node ∷ nodes) few fits = absurd (omega arith)
place_words (suc places) (node ∷ nodes) few fits =
    let small : node.0 < 2 ^ 32 = fits.0 in
    fewer (41 + 41 * places) (41 * suc places) (decimal node.0 ∷ node_words nodes) (omega arith)
    (number_words (41 * places) node.0 (node_words nodes) (omega arith) (place_words places nodes (omega arith) fits.1))

kind_words : (kind : Kind) (words : List (List ℕ)) → AreWords 410 words → AreWords 414 (kind_word kind ∷ words)
kind_words Replicated words all = more_words 410 3 (codes "rep") words (IsWord-tested (codes "rep") refl) (omega arith) all
kind_words Striped words all = more_words 410 3 (codes "str") words (IsWord-tested (codes "str") refl) (omega arith) all

-- how long words are, with one for the space before each

none_short : length (behind []) ≤ 0
none_short = omega arith

one_short : (most size : ℕ) (word : List ℕ) (words : List (List ℕ)) → length word ≤ size → length (behind words) ≤ most → length (behind (word ∷ words)) ≤ size + 1 + most
one_short most size word words short few = omega (arith, length-append word (behind words))

number_short : (most n : ℕ) (words : List (List ℕ)) → n < 2 ^ 128 → length (behind words) ≤ most → length (behind (decimal n ∷ words)) ≤ 41 + most
number_short most n words small few =
    one_short most 40 (decimal n) words (length-decimal-le_wide 40 n (omega arith) (omega arith) (omega arith)) few

kind_short : (kind : Kind) → length (kind_word kind) ≤ 3
kind_short Replicated = omega arith
kind_short Striped = omega arith

after_short : (after : List ℕ) → length after ≤ 65535 → length (name_or_dash after) ≤ 65535
after_short [] few = omega arith
after_short (byte ∷ bytes) few = few

want_short : (want : ℕ) → 1 ≤ want → want ≤ 3 → length (want_word want) ≤ 8
want_short zero low high = absurd (omega (arith, low))
want_short (suc zero) low high = omega arith
want_short (suc (suc zero)) low high = omega arith
want_short (suc (suc (suc zero))) low high = omega arith
want_short (suc (suc (suc (suc n)))) low high = absurd (omega (arith, high))

-- a verb, a path and what follows
path_short : (most : ℕ) (verb path : List ℕ) (words : List (List ℕ)) → length verb ≤ 6 → length path ≤ 65535 → length (behind words) ≤ most
    → length (behind (verb ∷ path ∷ words)) ≤ 65543 + most
path_short most verb path words short few rest =
    let all = one_short (65536 + most) 6 verb (path ∷ words) short (one_short most 65535 path words few rest) in omega arith

-- two paths are the longest that a request to the metadata server has
meta_short : (wanted : MetaReq) → IsSpellableRequest wanted → FitsMetaReq wanted → length (behind (meta_words wanted)) ≤ 131079
unfolding meta_words
meta_short (ask.Mkdir path mode) spelled (fits, small) =
    let rest = path_short 4 (codes "mkdir") path (mode_word mode ∷ []) (omega arith) fits.few (one_short 0 3 (mode_word mode) [] (omega arith) none_short) in omega arith
meta_short (ask.Create path mode kind n stripe) spelled (fits, small, least, most, size) =
    let wide : stripe ≤ 131072 = size.most in
    let rest = path_short 90 (codes "create") path (mode_word mode ∷ kind_word kind ∷ decimal n ∷ decimal stripe ∷ []) (omega arith) fits.few
    (one_short 86 3 (mode_word mode) (kind_word kind ∷ decimal n ∷ decimal stripe ∷ []) (omega arith)
    (one_short 82 3 (kind_word kind) (decimal n ∷ decimal stripe ∷ []) (kind_short kind)
    (number_short 41 n (decimal stripe ∷ []) (omega arith) (number_short 0 stripe [] (omega arith) none_short)))) in omega arith
meta_short (ask.Rename from to) spelled (fits, other) =
    let rest = path_short 65536 (codes "rename") from (to ∷ []) (omega arith) fits.few (one_short 0 65535 to [] other.few none_short) in omega arith
meta_short (ask.Unlink path) spelled fits = let rest = path_short 0 (codes "unlink") path [] (omega arith) fits.few none_short in omega arith
meta_short (ask.Rmdir path) spelled fits = let rest = path_short 0 (codes "rmdir") path [] (omega arith) fits.few none_short in omega arith
meta_short (ask.List path after) spelled (fits, other) =
    let rest = path_short 65536 (codes "list") path (name_or_dash after ∷ []) (omega arith) fits.few (one_short 0 65535 (name_or_dash after) [] (after_short after other.few) none_short) in omega arith
meta_short (ask.Stat path) spelled fits = let rest = path_short 0 (codes "stat") path [] (omega arith) fits.few none_short in omega arith
meta_short (ask.Chmod path mode) spelled (fits, small) =
    let rest = path_short 4 (codes "chmod") path (mode_word mode ∷ []) (omega arith) fits.few (one_short 0 3 (mode_word mode) [] (omega arith) none_short) in omega arith
meta_short (ask.Grant path want) spelled (fits, low, high) =
    let rest = path_short 9 (codes "grant") path (want_word want ∷ []) (omega arith) fits.few (one_short 0 8 (want_word want) [] (want_short want low high) none_short) in omega arith
meta_short (ask.Report capability mark) never fits = absurd never
meta_short (ask.Change path nodes) spelled (fits, members) =
    let all = place_words 9 nodes (members_few nodes members.different) members.each in
    let rest = path_short 369 (codes "change") path (node_words nodes) (omega arith) fits.few all.few in omega arith
meta_short (ask.Locate path) spelled fits = let rest = path_short 0 (codes "locate") path [] (omega arith) fits.few none_short in omega arith

registry_short : (wanted : RegistryReq) → IsSpellableWish wanted → FitsRegistryReq wanted → length (behind (registry_words wanted)) ≤ 386
unfolding registry_words
registry_short (wish.Set node kind address expected) spelled (who, small, place, count) =
    let short : node.0 < 2 ^ 32 = who in
    let rest = one_short 379 6 (codes "set") (decimal node.0 ∷ decimal kind ∷ address ∷ decimal expected ∷ []) (omega arith)
    (number_short 338 node.0 (decimal kind ∷ address ∷ decimal expected ∷ []) (omega arith)
    (number_short 297 kind (address ∷ decimal expected ∷ []) (omega arith)
    (one_short 41 255 address (decimal expected ∷ []) place.few (number_short 0 expected [] (omega arith) none_short)))) in omega arith
registry_short (wish.Get node) spelled who =
    let short : node.0 < 2 ^ 32 = who in
    let rest = one_short 41 3 (codes "get") (decimal node.0 ∷ []) (omega arith) (number_short 0 node.0 [] (omega arith) none_short) in omega arith
registry_short (wish.List kind after) spelled (small, who) =
    let short : after.0 < 2 ^ 32 = who in
    let rest = one_short 82 4 (codes "list") (decimal kind ∷ decimal after.0 ∷ []) (omega arith)
    (number_short 41 kind (decimal after.0 ∷ []) (omega arith) (number_short 0 after.0 [] (omega arith) none_short)) in omega arith
registry_short (wish.Remove node expected) spelled (who, count) =
    let short : node.0 < 2 ^ 32 = who in
    let rest = one_short 82 6 (codes "remove") (decimal node.0 ∷ decimal expected ∷ []) (omega arith)
    (number_short 41 node.0 (decimal expected ∷ []) (omega arith) (number_short 0 expected [] (omega arith) none_short)) in omega arith

-- what the words of a line come to
abbrev HasWords : List (List ℕ) → Type 0
HasWords words = (most : ℕ) × (most ≤ LINE_BYTES) × AreWords most words

call_has_words : (client : NodeId) (made : Call) → client.0 < 2 ^ 32 → IsSpellableCall made → FitsCall made → HasWords (line_words (line.Call client made))
unfolding line_words call_name call_words
call_has_words client (call.Read file object at len) small made (file_fits, object_fits, at_fits, some, most) =
    (210, omega arith, more_words 205 4 (codes "read") (decimal client.0 ∷ decimal file ∷ decimal object ∷ decimal at ∷ decimal len ∷ []) (IsWord-tested (codes "read") refl) (omega arith) (number_words 164 client.0 (decimal file ∷ decimal object ∷ decimal at ∷ decimal len ∷ []) (omega arith) (number_words 123 file (decimal object ∷ decimal at ∷ decimal len ∷ []) (omega arith) (number_words 82 object (decimal at ∷ decimal len ∷ []) (omega arith) (number_words 41 at (decimal len ∷ []) (omega arith) (number_words 0 len [] (omega arith) no_words))))))
call_has_words client (call.Write file object at bytes) small made (file_fits, object_fits, at_fits, fits, some) =
    (262315, omega arith, more_words 262309 5 (codes "write") (decimal client.0 ∷ decimal file ∷ decimal object ∷ decimal at ∷ hex_of bytes ∷ []) (IsWord-tested (codes "write") refl) (omega arith) (number_words 262268 client.0 (decimal file ∷ decimal object ∷ decimal at ∷ hex_of bytes ∷ []) (omega arith) (number_words 262227 file (decimal object ∷ decimal at ∷ hex_of bytes ∷ []) (omega arith) (number_words 262186 object (decimal at ∷ hex_of bytes ∷ []) (omega arith) (number_words 262145 at (hex_of bytes ∷ []) (omega arith) (hex_words bytes fits.all fits.few))))))
call_has_words client (call.Truncate file size epoch) small made (file_fits, size_fits, epoch_fits) =
    (173, omega arith, more_words 164 8 (codes "truncate") (decimal client.0 ∷ decimal file ∷ decimal size ∷ decimal epoch ∷ []) (IsWord-tested (codes "truncate") refl) (omega arith) (number_words 123 client.0 (decimal file ∷ decimal size ∷ decimal epoch ∷ []) (omega arith) (number_words 82 file (decimal size ∷ decimal epoch ∷ []) (omega arith) (number_words 41 size (decimal epoch ∷ []) (omega arith) (number_words 0 epoch [] (omega arith) no_words)))))
call_has_words client (call.Meta user group wanted) small spelled (user_fits, group_fits, fits, written) =
    (131207, omega arith, more_words 131202 4 (codes "meta") (decimal client.0 ∷ decimal user ∷ decimal group ∷ meta_words wanted) (IsWord-tested (codes "meta") refl) (omega arith) (number_words 131161 client.0 (decimal user ∷ decimal group ∷ meta_words wanted) (omega arith) (number_words 131120 user (decimal group ∷ meta_words wanted) (omega arith) (number_words 131079 group (meta_words wanted) (omega arith) (record { each = meta-AreWords wanted spelled fits; few = meta_short wanted spelled fits })))))
call_has_words client (call.Report user group file) small spelled (user_fits, group_fits, file_fits) =
    (176, omega arith, more_words 171 4 (codes "meta") (decimal client.0 ∷ decimal user ∷ decimal group ∷ codes "report" ∷ decimal file ∷ []) (IsWord-tested (codes "meta") refl) (omega arith) (number_words 130 client.0 (decimal user ∷ decimal group ∷ codes "report" ∷ decimal file ∷ []) (omega arith) (number_words 89 user (decimal group ∷ codes "report" ∷ decimal file ∷ []) (omega arith) (number_words 48 group (codes "report" ∷ decimal file ∷ []) (omega arith) (more_words 41 6 (codes "report") (decimal file ∷ []) (IsWord-tested (codes "report") refl) (omega arith) (number_words 0 file [] (omega arith) no_words))))))
call_has_words client (call.Registry wanted) small spelled fits =
    (436, omega arith, more_words 427 8 (codes "registry") (decimal client.0 ∷ registry_words wanted) (IsWord-tested (codes "registry") refl) (omega arith) (number_words 386 client.0 (registry_words wanted) (omega arith) (record { each = registry-AreWords wanted spelled fits; few = registry_short wanted spelled fits })))

has_words : (first : Bool) (l : Line) → IsLine first l → HasWords (line_words l)
unfolding line_words
has_words first (line.Times lease drift) (form, fits) =
    let short : 2 * drift < lease = fits.short in
    let few : lease < 2 ^ 40 = fits.small in
    (88, omega arith, more_words 82 5 (codes "times") (decimal lease ∷ decimal drift ∷ []) (IsWord-tested (codes "times") refl) (omega arith) (number_words 41 lease (decimal drift ∷ []) (omega arith) (number_words 0 drift [] (omega arith) no_words)))
has_words first (line.Osd node) (form, fits) = (45, omega arith, more_words 41 3 (codes "osd") (decimal node.0 ∷ []) (IsWord-tested (codes "osd") refl) (omega arith) (number_words 0 node.0 [] (omega arith) no_words))
has_words first line.Mrc (form, fits) = (4, omega arith, more_words 0 3 (codes "mrc") [] (IsWord-tested (codes "mrc") refl) (omega arith) no_words)
has_words first line.Dir (form, fits) = (4, omega arith, more_words 0 3 (codes "dir") [] (IsWord-tested (codes "dir") refl) (omega arith) no_words)
has_words first (line.Client node clock) (form, fits) = (89, omega arith, more_words 82 6 (codes "client") (decimal node.0 ∷ decimal clock ∷ []) (IsWord-tested (codes "client") refl) (omega arith) (number_words 41 node.0 (decimal clock ∷ []) (omega arith) (number_words 0 clock [] (omega arith) no_words)))
has_words first (line.File number location) (form, (small, fits)) =
    let most : location.stripe ≤ 131072 = fits.size.most in
    (460, omega arith, more_words 455 4 (codes "file") (decimal number ∷ kind_word location.kind ∷ decimal location.stripe ∷ node_words location.members) (IsWord-tested (codes "file") refl) (omega arith) (number_words 414 number (kind_word location.kind ∷ decimal location.stripe ∷ node_words location.members) (omega arith) (kind_words location.kind (decimal location.stripe ∷ node_words location.members) (number_words 369 location.stripe (node_words location.members) (omega arith) (place_words 9 location.members (members_few location.members fits.nodes.different) fits.nodes.each)))))
has_words first (line.Start node clock) (form, fits) = (88, omega arith, more_words 82 5 (codes "start") (decimal node.0 ∷ decimal clock ∷ []) (IsWord-tested (codes "start") refl) (omega arith) (number_words 41 node.0 (decimal clock ∷ []) (omega arith) (number_words 0 clock [] (omega arith) no_words)))
has_words first (line.Stop node) (form, fits) = (46, omega arith, more_words 41 4 (codes "stop") (decimal node.0 ∷ []) (IsWord-tested (codes "stop") refl) (omega arith) (number_words 0 node.0 [] (omega arith) no_words))
has_words first (line.Crash node device_call fill) (form, fits) =
    (91, omega arith, more_words 85 5 (codes "crash") (decimal node.0 ∷ decimal device_call ∷ hex_pair fill ∷ []) (IsWord-tested (codes "crash") refl) (omega arith) (number_words 44 node.0 (decimal device_call ∷ hex_pair fill ∷ []) (omega arith) (number_words 3 device_call (hex_pair fill ∷ []) (omega arith) (byte_words fill fits.3))))
has_words first (line.Cut node count) (form, fits) = (86, omega arith, more_words 82 3 (codes "cut") (decimal node.0 ∷ decimal count ∷ []) (IsWord-tested (codes "cut") refl) (omega arith) (number_words 41 node.0 (decimal count ∷ []) (omega arith) (number_words 0 count [] (omega arith) no_words)))
has_words first (line.Clock node clock) (form, fits) = (88, omega arith, more_words 82 5 (codes "clock") (decimal node.0 ∷ decimal clock ∷ []) (IsWord-tested (codes "clock") refl) (omega arith) (number_words 41 node.0 (decimal clock ∷ []) (omega arith) (number_words 0 clock [] (omega arith) no_words)))
has_words first (line.Tick count) (form, fits) = (46, omega arith, more_words 41 4 (codes "tick") (decimal count ∷ []) (IsWord-tested (codes "tick") refl) (omega arith) (number_words 0 count [] (omega arith) no_words))
has_words first (line.Wake node) (form, fits) = (46, omega arith, more_words 41 4 (codes "wake") (decimal node.0 ∷ []) (IsWord-tested (codes "wake") refl) (omega arith) (number_words 0 node.0 [] (omega arith) no_words))
has_words first (line.Call client made) (form, (small, fits)) = call_has_words client made small form fits
has_words first (line.Again client) (form, fits) = (47, omega arith, more_words 41 5 (codes "again") (decimal client.0 ∷ []) (IsWord-tested (codes "again") refl) (omega arith) (number_words 0 client.0 [] (omega arith) no_words))
has_words first (line.Aim client file node) (form, fits) = (127, omega arith, more_words 123 3 (codes "aim") (decimal client.0 ∷ decimal file ∷ decimal node.0 ∷ []) (IsWord-tested (codes "aim") refl) (omega arith) (number_words 82 client.0 (decimal file ∷ decimal node.0 ∷ []) (omega arith) (number_words 41 file (decimal node.0 ∷ []) (omega arith) (number_words 0 node.0 [] (omega arith) no_words))))
has_words first (line.Deliver number) (form, fits) = (49, omega arith, more_words 41 7 (codes "deliver") (decimal number ∷ []) (IsWord-tested (codes "deliver") refl) (omega arith) (number_words 0 number [] (omega arith) no_words))
has_words first (line.Drop number) (form, fits) = (46, omega arith, more_words 41 4 (codes "drop") (decimal number ∷ []) (IsWord-tested (codes "drop") refl) (omega arith) (number_words 0 number [] (omega arith) no_words))
has_words first (line.Settle count) (form, fits) = (48, omega arith, more_words 41 6 (codes "settle") (decimal count ∷ []) (IsWord-tested (codes "settle") refl) (omega arith) (number_words 0 count [] (omega arith) no_words))

-- the text of a line of a schedule
pub line_fits : (first : Bool) (l : Line) → IsLine first l → IsLineText (line_text l)
unfolding line_text
line_fits first l formed = let all = has_words first l formed in spaced_text all.0 (line_words l) all.1 all.2
