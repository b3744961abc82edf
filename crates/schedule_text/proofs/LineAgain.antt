-- A line that was written is read.
use Rattle.std.proofs.Common.{◌≡◌, ℕ, ◌*◌, ◌^◌, ◌<◌, Bool, List, [], ◌∷◌, Some, refl, sym, ap, ◌∙◌, arith}
use Rattle.std.specs.Prelude.{codes}
use Rattle.std.specs.Fmt.{decimal}
use Rattle.xt_messages.specs.declared.file.Location.{Location}
use Rattle.xt_messages.specs.declared.event.Call.{Call}
use Rattle.xt_messages.specs.declared.event.Call.TheVariants as call
use Rattle.xt_messages.specs.declared.meta.MetaReq.{MetaReq}
use Rattle.xt_messages.specs.declared.registry.RegistryReq.{RegistryReq}
use Rattle.time_line.specs.declared.line.Line.{Line}
use Rattle.time_line.specs.declared.line.Line.TheVariants as line
use Rattle.xt_base.specs.declared.ids.NodeId.{NodeId}
use Rattle.server_text.specs.Words.{spaced, hex_of, hex_pair}
use Rattle.xt_base.specs.FieldLimits.{AreBytes}
use Rattle.xt_messages.specs.Limits.{FitsLocation, FitsMetaReq, FitsRegistryReq}
use Rattle.time_line.specs.Bounds.{FitsCall}
use Rattle.schedule_text.specs.LineText.{line_text, line_words, IsLine, IsPlace}
use Rattle.server_text.specs.RequestText.{kind_word, meta_words, registry_words}
use Rattle.server_text.specs.Words.{node_words}
use Rattle.schedule_text.specs.CallText.{call_name, call_words, file_words, IsSpellableCall}
use Rattle.server_text.specs.Spellable.{IsSpellableRequest, IsSpellableWish}
use Rattle.server_text.specs.Reading.{first_word, other_words}
use Rattle.schedule_text.specs.LineReading.{times_at, osd_at, client_at, file_at, start_at, stop_at, crash_at, cut_at, clock_at, tick_at, wake_at, read_at, truncate_at, meta_at, registry_at, again_at, aim_at, write_at, deliver_at, drop_at, settle_at, declared_line, node_line, named_line, line_at}
use Rattle.schedule_text.proofs.PlaceAgain.{node_at_again, place_again}
use Rattle.server_text.proofs.RequestsAgain.{meta_again, report_again, registry_again}
use Rattle.server_text.proofs.WordsAgain.{number_at_again, first_again, hex-IsWord, hex_again, pair-IsWord, byte_again}

abbrev IsRead : Line → Type 0
IsRead line = line_at (line_text line) ≡ Some line

times_again : (lease drift : ℕ) → lease < 2 ^ 64 → drift < 2 ^ 64 → IsRead (line.Times lease drift)
unfolding line_text line_words line_at named_line node_line declared_line times_at first_word other_words
times_again lease drift p q =
    rw (number_at_again 64 lease (decimal drift ∷ []) p (omega arith), number_at_again 64 drift [] q (omega arith)) refl

osd_again : (node : NodeId) → node.0 < 2 ^ 32 → IsRead (line.Osd node)
unfolding line_text line_words line_at named_line node_line declared_line osd_at first_word other_words
osd_again node p = rw (node_at_again node [] p) refl

mrc_again : IsRead line.Mrc
unfolding line_text line_words line_at named_line node_line declared_line first_word other_words
mrc_again = refl

dir_again : IsRead line.Dir
unfolding line_text line_words line_at named_line node_line declared_line first_word other_words
dir_again = refl

client_again : (node : NodeId) (clock : ℕ) → node.0 < 2 ^ 32 → clock < 2 ^ 64 → IsRead (line.Client node clock)
unfolding line_text line_words line_at named_line node_line declared_line client_at first_word other_words
client_again node clock p q =
    rw (node_at_again node (decimal clock ∷ []) p, number_at_again 64 clock [] q (omega arith)) refl

start_again : (node : NodeId) (clock : ℕ) → node.0 < 2 ^ 32 → clock < 2 ^ 64 → IsRead (line.Start node clock)
unfolding line_text line_words line_at named_line node_line declared_line start_at first_word other_words
start_again node clock p q =
    rw (node_at_again node (decimal clock ∷ []) p, number_at_again 64 clock [] q (omega arith)) refl

stop_again : (node : NodeId) → node.0 < 2 ^ 32 → IsRead (line.Stop node)
unfolding line_text line_words line_at named_line node_line declared_line stop_at first_word other_words
stop_again node p = rw (node_at_again node [] p) refl

-- first_word stays as it is here, so the byte is passed by lemma
crash_words_again : (node : NodeId) (device_call fill : ℕ) → node.0 < 2 ^ 32 → device_call < 2 ^ 8 → fill < 256 → crash_at (spaced (decimal node.0 ∷ decimal device_call ∷ hex_pair fill ∷ [])) ≡ Some (line.Crash node device_call fill)
unfolding crash_at
crash_words_again node device_call fill p q r =
    rw (
      node_at_again node (decimal device_call ∷ hex_pair fill ∷ []) p,
      number_at_again 8 device_call (hex_pair fill ∷ []) q (omega arith),
      first_again (hex_pair fill) [] (pair-IsWord fill r),
      byte_again fill r,
    ) refl

crash_again : (node : NodeId) (device_call fill : ℕ) → node.0 < 2 ^ 32 → device_call < 2 ^ 8 → fill < 256 → IsRead (line.Crash node device_call fill)
unfolding line_text line_words line_at named_line node_line first_word other_words
crash_again node device_call fill p q r = crash_words_again node device_call fill p q r

cut_again : (node : NodeId) (count : ℕ) → node.0 < 2 ^ 32 → count < 2 ^ 128 → IsRead (line.Cut node count)
unfolding line_text line_words line_at named_line node_line cut_at first_word other_words
cut_again node count p q =
    rw (node_at_again node (decimal count ∷ []) p, number_at_again 128 count [] q (omega arith)) refl

clock_again : (node : NodeId) (clock : ℕ) → node.0 < 2 ^ 32 → clock < 2 ^ 64 → IsRead (line.Clock node clock)
unfolding line_text line_words line_at named_line node_line clock_at first_word other_words
clock_again node clock p q =
    rw (node_at_again node (decimal clock ∷ []) p, number_at_again 64 clock [] q (omega arith)) refl

wake_again : (node : NodeId) → node.0 < 2 ^ 32 → IsRead (line.Wake node)
unfolding line_text line_words line_at named_line node_line wake_at first_word other_words
wake_again node p = rw (node_at_again node [] p) refl

tick_again : (count : ℕ) → count < 2 ^ 64 → IsRead (line.Tick count)
unfolding line_text line_words line_at named_line node_line tick_at first_word other_words
tick_again count p = rw (number_at_again 64 count [] p (omega arith)) refl

deliver_again : (number : ℕ) → number < 2 ^ 128 → IsRead (line.Deliver number)
unfolding line_text line_words line_at named_line deliver_at first_word other_words
deliver_again number p = rw (number_at_again 128 number [] p (omega arith)) refl

drop_again : (number : ℕ) → number < 2 ^ 128 → IsRead (line.Drop number)
unfolding line_text line_words line_at named_line drop_at first_word other_words
drop_again number p = rw (number_at_again 128 number [] p (omega arith)) refl

settle_again : (count : ℕ) → count < 2 ^ 128 → IsRead (line.Settle count)
unfolding line_text line_words line_at named_line settle_at first_word other_words
settle_again count p = rw (number_at_again 128 count [] p (omega arith)) refl

file_again : (number : ℕ) (location : Location) → number < 1000000 → IsPlace location → FitsLocation location → file_at (spaced (file_words number location)) ≡ Some (line.File number location)
unfolding file_at
file_again number location small place fits =
    rw (
      number_at_again 64 number (kind_word location.kind ∷ decimal location.stripe ∷ node_words location.members) (omega arith) (omega arith),
      place_again location place fits,
    ) refl

file_line_again : (number : ℕ) (location : Location) → number < 1000000 → IsPlace location → FitsLocation location → IsRead (line.File number location)
unfolding line_text line_words line_at named_line node_line declared_line first_word other_words
file_line_again number location small place fits = file_again number location small place fits

read_again : (client : NodeId) (file object at len : ℕ) → client.0 < 2 ^ 32 → file < 2 ^ 64 → object < 2 ^ 64 → at < 2 ^ 32 → len < 2 ^ 32 → IsRead (line.Call client (call.Read file object at len))
unfolding line_text line_words call_name call_words line_at named_line read_at first_word other_words
read_again client file object at len p q r s t =
    rw (
      node_at_again client (decimal file ∷ decimal object ∷ decimal at ∷ decimal len ∷ []) p,
      number_at_again 64 file (decimal object ∷ decimal at ∷ decimal len ∷ []) q (omega arith),
      number_at_again 64 object (decimal at ∷ decimal len ∷ []) r (omega arith),
      number_at_again 32 at (decimal len ∷ []) s (omega arith),
      number_at_again 32 len [] t (omega arith),
    ) refl

truncate_again : (client : NodeId) (file size epoch : ℕ) → client.0 < 2 ^ 32 → file < 2 ^ 64 → size < 2 ^ 64 → epoch < 2 ^ 64 → IsRead (line.Call client (call.Truncate file size epoch))
unfolding line_text line_words call_name call_words line_at named_line truncate_at first_word other_words
truncate_again client file size epoch p q r s =
    rw (
      node_at_again client (decimal file ∷ decimal size ∷ decimal epoch ∷ []) p,
      number_at_again 64 file (decimal size ∷ decimal epoch ∷ []) q (omega arith),
      number_at_again 64 size (decimal epoch ∷ []) r (omega arith),
      number_at_again 64 epoch [] s (omega arith),
    ) refl

again_again : (client : NodeId) → client.0 < 2 ^ 32 → IsRead (line.Again client)
unfolding line_text line_words line_at named_line again_at first_word other_words
again_again client p = rw (node_at_again client [] p) refl

aim_again : (client : NodeId) (file : ℕ) (node : NodeId) → client.0 < 2 ^ 32 → file < 2 ^ 64 → node.0 < 2 ^ 32 → IsRead (line.Aim client file node)
unfolding line_text line_words line_at named_line aim_at first_word other_words
aim_again client file node p q r =
    rw (
      node_at_again client (decimal file ∷ decimal node.0 ∷ []) p,
      number_at_again 64 file (decimal node.0 ∷ []) q (omega arith),
      node_at_again node [] r,
    ) refl

write_words_again : (client : NodeId) (file object at : ℕ) (bytes : List ℕ) → client.0 < 2 ^ 32 → file < 2 ^ 64 → object < 2 ^ 64 → at < 2 ^ 32 → AreBytes bytes → write_at (spaced (decimal client.0 ∷ call_words (call.Write file object at bytes))) ≡ line.Call client (call.Write file object at bytes)
unfolding write_at call_words
write_words_again client file object at bytes p q r s fits =
    rw (
      node_at_again client (decimal file ∷ decimal object ∷ decimal at ∷ hex_of bytes ∷ []) p,
      number_at_again 64 file (decimal object ∷ decimal at ∷ hex_of bytes ∷ []) q (omega arith),
      number_at_again 64 object (decimal at ∷ hex_of bytes ∷ []) r (omega arith),
      number_at_again 32 at (hex_of bytes ∷ []) s (omega arith),
      first_again (hex_of bytes) [] (hex-IsWord bytes fits),
      hex_again bytes fits,
    ) refl

write_again : (client : NodeId) (file object at : ℕ) (bytes : List ℕ) → client.0 < 2 ^ 32 → file < 2 ^ 64 → object < 2 ^ 64 → at < 2 ^ 32 → AreBytes bytes → IsRead (line.Call client (call.Write file object at bytes))
unfolding line_text line_words call_name line_at first_word other_words
write_again client file object at bytes p q r s fits = ap Some (write_words_again client file object at bytes p q r s fits)

meta_line_again : (client : NodeId) (user group : ℕ) (wanted : MetaReq) → client.0 < 2 ^ 32 → user < 2 ^ 32 → group < 2 ^ 32 → IsSpellableRequest wanted → FitsMetaReq wanted
    → meta_at (spaced (decimal client.0 ∷ call_words (call.Meta user group wanted))) ≡ line.Call client (call.Meta user group wanted)
unfolding meta_at call_words
meta_line_again client user group wanted p q r spelled fits =
    rw (
      node_at_again client (decimal user ∷ decimal group ∷ meta_words wanted) p,
      meta_again user group wanted q r spelled fits,
    ) refl

report_line_again : (client : NodeId) (user group file : ℕ) → client.0 < 2 ^ 32 → user < 2 ^ 32 → group < 2 ^ 32 → file < 2 ^ 64
    → meta_at (spaced (decimal client.0 ∷ call_words (call.Report user group file))) ≡ line.Call client (call.Report user group file)
unfolding meta_at call_words
report_line_again client user group file p q r s =
    rw (
      node_at_again client (decimal user ∷ decimal group ∷ codes "report" ∷ decimal file ∷ []) p,
      report_again user group file q r s,
    ) refl

registry_line_again : (client : NodeId) (wanted : RegistryReq) → client.0 < 2 ^ 32 → IsSpellableWish wanted → FitsRegistryReq wanted
    → registry_at (spaced (decimal client.0 ∷ call_words (call.Registry wanted))) ≡ line.Call client (call.Registry wanted)
unfolding registry_at call_words
registry_line_again client wanted p spelled fits =
    rw (node_at_again client (registry_words wanted) p, registry_again wanted spelled fits) refl

call_on_mrc_again : (client : NodeId) (user group : ℕ) (wanted : MetaReq) → client.0 < 2 ^ 32 → user < 2 ^ 32 → group < 2 ^ 32 → IsSpellableRequest wanted → FitsMetaReq wanted → IsRead (line.Call client (call.Meta user group wanted))
unfolding line_text line_words call_name line_at first_word other_words
call_on_mrc_again client user group wanted p q r spelled fits = ap Some (meta_line_again client user group wanted p q r spelled fits)

call_reports_again : (client : NodeId) (user group file : ℕ) → client.0 < 2 ^ 32 → user < 2 ^ 32 → group < 2 ^ 32 → file < 2 ^ 64 → IsRead (line.Call client (call.Report user group file))
unfolding line_text line_words call_name line_at first_word other_words
call_reports_again client user group file p q r s = ap Some (report_line_again client user group file p q r s)

call_on_dir_again : (client : NodeId) (wanted : RegistryReq) → client.0 < 2 ^ 32 → IsSpellableWish wanted → FitsRegistryReq wanted → IsRead (line.Call client (call.Registry wanted))
unfolding line_text line_words call_name line_at first_word other_words
call_on_dir_again client wanted p spelled fits = ap Some (registry_line_again client wanted p spelled fits)

-- a call that was written is read
call_again : (client : NodeId) (made : Call) → client.0 < 2 ^ 32 → IsSpellableCall made → FitsCall made → IsRead (line.Call client made)
call_again client (call.Read file object at len) p made (q, r, s, t, u) = read_again client file object at len p q (omega arith) s (omega arith)
call_again client (call.Write file object at bytes) p made (q, r, s, t, u) = write_again client file object at bytes p q (omega arith) s t.all
call_again client (call.Truncate file size epoch) p made (q, r, s) = truncate_again client file size epoch p q r (omega arith)
call_again client (call.Meta user group wanted) p spelled (q, r, fits, written) = call_on_mrc_again client user group wanted p q r spelled fits
call_again client (call.Report user group file) p spelled (q, r, s) = call_reports_again client user group file p q r s
call_again client (call.Registry wanted) p spelled fits = call_on_dir_again client wanted p spelled fits

-- a line that was written is read
pub line_again : (first : Bool) (l : Line) → IsLine first l → IsRead l
line_again first (line.Times lease drift) (form, fits) =
    let short : 2 * drift < lease = fits.short in
    let small : lease < 2 ^ 40 = fits.small in
    times_again lease drift (omega arith) (omega arith)
line_again first (line.Osd node) (form, fits) = osd_again node fits
line_again first line.Mrc (form, fits) = mrc_again
line_again first line.Dir (form, fits) = dir_again
line_again first (line.Client node clock) (form, (p, q)) = client_again node clock p (omega arith)
line_again first (line.File number location) (form, (p, fits)) = file_line_again number location p form fits
line_again first (line.Start node clock) (form, (p, q)) = start_again node clock p (omega arith)
line_again first (line.Stop node) (form, fits) = stop_again node fits
line_again first (line.Crash node device_call fill) (form, (p, q, r, s)) = crash_again node device_call fill p (omega arith) s
line_again first (line.Cut node count) (form, fits) = cut_again node count fits form
line_again first (line.Clock node clock) (form, (p, q)) = clock_again node clock p (omega arith)
line_again first (line.Tick count) (form, fits) = tick_again count (omega arith)
line_again first (line.Wake node) (form, fits) = wake_again node fits
line_again first (line.Call client made) (form, (p, fits)) = call_again client made p form fits
line_again first (line.Again client) (form, fits) = again_again client fits
line_again first (line.Aim client file node) (form, (p, q, r)) = aim_again client file node p q r
line_again first (line.Deliver number) (form, fits) = deliver_again number form
line_again first (line.Drop number) (form, fits) = drop_again number form
line_again first (line.Settle count) (form, fits) = settle_again count form

-- no two lines are spelled alike
pub one_line : (first second : Bool) (a b : Line) → IsLine first a → IsLine second b → line_text a ≡ line_text b → a ≡ b
one_line first second a b p q e = some_is (sym (line_again first a p) ∙ ap line_at e ∙ line_again second b q)
  where
    some_is : {x y : Line} → Some x ≡ Some y → x ≡ y
    some_is e = cc
