-- An entry that was written is read, so no two are spelled alike.
use Rattle.std.proofs.Common.{◌≡◌, ℕ, ◌*◌, ◌^◌, ◌<◌, List, [], ◌∷◌, Some, refl, sym, ap, ◌∙◌, arith}
use Rattle.std.specs.Prelude.{codes}
use Rattle.std.specs.List.{AllByRecursion}
use Rattle.std.specs.Fmt.{decimal}
use Rattle.xt_base.specs.declared.ids.NodeId.{NodeId}
use Rattle.xt_base.specs.declared.ids.OpId.{OpId}
use Rattle.xt_base.specs.declared.ids.Boot.{Boot}
use Rattle.xt_messages.specs.declared.file.Location.{Location}
use Rattle.xt_messages.specs.declared.event.Call.{Call}
use Rattle.xt_messages.specs.declared.event.Call.TheVariants as call
use Rattle.xt_messages.specs.declared.event.MetaOutcome.{MetaOutcome}
use Rattle.xt_messages.specs.declared.event.RegistryOutcome.{RegistryOutcome}
use Rattle.xt_messages.specs.declared.event.Outcome.{Outcome}
use Rattle.xt_messages.specs.declared.event.Outcome.TheVariants as outcome
use Rattle.xt_messages.specs.declared.status.AskRefusal.{AskRefusal}
use Rattle.xt_messages.specs.declared.status.AskRefusal.TheVariants as refusal
use Rattle.xt_messages.specs.declared.reply.Answered.{Answered}
use Rattle.xt_base.specs.FieldLimits.{AreBytes}
use Rattle.xt_messages.specs.Limits.{FitsMembers, FitsLocation}
use Rattle.time_line.specs.declared.entry.Entry.{Entry}
use Rattle.time_line.specs.declared.entry.Entry.TheVariants as entry
use Rattle.time_line.specs.declared.entry.Halt.{Halt}
use Rattle.time_line.specs.declared.entry.Halt.TheVariants as halt
use Rattle.time_line.specs.Bounds.{FitsCall, FitsAnswered, FitsMetaOutcome, FitsRegistryOutcome, FitsOutcome, FitsRefusal}
use Rattle.server_text.specs.Words.{spaced, hex_of, hex_or_dash, node_words}
use Rattle.server_text.specs.RequestText.{kind_word}
use Rattle.server_text.specs.AnswerText.{denial_number, meta_outcome_words, registry_outcome_words}
use Rattle.server_text.specs.Reading.{first_word, other_words, number_of}
use Rattle.server_text.specs.Spellable.{IsSpellableMeta, IsSpellableRegistry}
use Rattle.server_text.proofs.AnswersAgain as answers
use Rattle.server_text.proofs.AnswersAgain.{denial_again, denial_small}
use Rattle.server_text.proofs.RequestsAgain.{meta_again, report_again, registry_again}
use Rattle.server_text.proofs.ManyAgain.{members_again}
use Rattle.server_text.proofs.WordsAgain.{IsWord, IsWord-tested, decimal-IsWord, number_again, number_at_again, first_again, others_again, hex-IsWord, hex_again, hex_or_dash-IsWord, hex_or_dash_again}
use Rattle.schedule_text.specs.CallText.{call_name, call_words, file_words, IsSpellableCall}
use Rattle.schedule_text.specs.OutcomeText.{ask_refusal_words, answer_words, outcome_words, IsSpellableOutcome}
use Rattle.schedule_text.specs.EntryText.{update_words, halt_word, entry_words, entry_text, IsEntry}
use Rattle.schedule_text.specs.LineText.{IsPlace}
use Rattle.schedule_text.specs.EntryReading.{times_in, file_in, list_in, clock_in, tick_in, up_in, halt_of, down_in, call_of, call_on, file_call_in, call_in, begin_in, held_in, id_of, update_in, answer_in, refusal_of, refusal_in, outcome_in, done_in, node_entry, update_entry, entry_of, entry_at}
use Rattle.schedule_text.proofs.AnswersAgain.{answers_again}
use Rattle.schedule_text.proofs.PlaceAgain.{place_again}

-- What was written is read, form by form.

times_again : (lease drift : ℕ) → lease < 2 ^ 64 → drift < 2 ^ 64 → times_in (spaced (decimal lease ∷ decimal drift ∷ [])) ≡ Some (entry.Times lease drift)
unfolding times_in
times_again lease drift p q =
    rw (number_at_again 64 lease (decimal drift ∷ []) p (omega arith), number_at_again 64 drift [] q (omega arith)) refl

clock_again : (node : NodeId) (clock : ℕ) → node.0 < 2 ^ 32 → clock < 2 ^ 64 → clock_in (spaced (decimal node.0 ∷ decimal clock ∷ [])) ≡ Some (entry.Clock node clock)
unfolding clock_in
clock_again node clock p q =
    rw (number_at_again 32 node.0 (decimal clock ∷ []) p (omega arith), number_at_again 64 clock [] q (omega arith)) refl

tick_again : (count : ℕ) → count < 2 ^ 64 → tick_in (spaced (decimal count ∷ [])) ≡ Some (entry.Tick count)
unfolding tick_in
tick_again count p = rw (number_at_again 64 count [] p (omega arith)) refl

list_again : (number version : ℕ) (members : List NodeId) → number < 2 ^ 64 → version < 2 ^ 32 → FitsMembers members
    → list_in (spaced (decimal number ∷ decimal version ∷ node_words members)) ≡ Some (entry.List number version members)
unfolding list_in
list_again number version members p q fits =
    rw (
      number_at_again 64 number (decimal version ∷ node_words members) p (omega arith),
      number_at_again 32 version (node_words members) q (omega arith),
      members_again members fits,
    ) refl

file_again : (number : ℕ) (location : Location) → number < 2 ^ 62 → IsPlace location → FitsLocation location → file_in (spaced (file_words number location)) ≡ Some (entry.File number location)
unfolding file_in
file_again number location small place fits =
    rw (
      number_at_again 64 number (kind_word location.kind ∷ decimal location.stripe ∷ node_words location.members) (omega arith) (omega arith),
      place_again location place fits,
    ) refl

up_again : (node : NodeId) (boot : Boot) (clock : ℕ) → node.0 < 2 ^ 32 → boot.0 < 2 ^ 64 → clock < 2 ^ 64 → up_in (spaced (decimal node.0 ∷ decimal boot.0 ∷ decimal clock ∷ [])) ≡ Some (entry.Up node boot clock)
unfolding up_in
up_again node boot clock p q r =
    rw (
      number_at_again 32 node.0 (decimal boot.0 ∷ decimal clock ∷ []) p (omega arith),
      number_at_again 64 boot.0 (decimal clock ∷ []) q (omega arith),
      number_at_again 64 clock [] r (omega arith),
    ) refl

pub halt-IsWord : (how : Halt) → IsWord (halt_word how)
halt-IsWord halt.Idle = IsWord-tested (codes "idle") refl
halt-IsWord halt.Kept = IsWord-tested (codes "kept") refl
halt-IsWord halt.Lost = IsWord-tested (codes "lost") refl
halt-IsWord halt.Cut = IsWord-tested (codes "cut") refl

halt_again : (how : Halt) → halt_of (halt_word how) ≡ Some how
unfolding halt_of
halt_again halt.Idle = refl
halt_again halt.Kept = refl
halt_again halt.Lost = refl
halt_again halt.Cut = refl

down_again : (node : NodeId) (clock : ℕ) (how : Halt) → node.0 < 2 ^ 32 → clock < 2 ^ 64 → down_in (spaced (decimal node.0 ∷ decimal clock ∷ halt_word how ∷ [])) ≡ Some (entry.Down node clock how)
unfolding down_in
down_again node clock how p q =
    rw (
      number_at_again 32 node.0 (decimal clock ∷ halt_word how ∷ []) p (omega arith),
      number_at_again 64 clock (halt_word how ∷ []) q (omega arith),
      first_again (halt_word how) [] (halt-IsWord how),
      halt_again how,
    ) refl

call_again : (made : Call) → IsSpellableCall made → FitsCall made → call_in (call_name made) (spaced (call_words made)) ≡ Some made
unfolding call_name call_words call_in file_call_in call_on call_of
call_again (call.Read file object at len) is (p, q, r, s, t) =
    rw (
      number_at_again 64 file (decimal object ∷ decimal at ∷ decimal len ∷ []) p (omega arith),
      number_at_again 64 object (decimal at ∷ decimal len ∷ []) (omega arith) (omega arith),
      number_at_again 32 at (decimal len ∷ []) r (omega arith),
      number_at_again 32 len [] (omega arith) (omega arith),
    ) refl
call_again (call.Write file object at bytes) is (p, q, r, s, t) =
    rw (
      number_at_again 64 file (decimal object ∷ decimal at ∷ hex_of bytes ∷ []) p (omega arith),
      number_at_again 64 object (decimal at ∷ hex_of bytes ∷ []) (omega arith) (omega arith),
      number_at_again 32 at (hex_of bytes ∷ []) r (omega arith),
      first_again (hex_of bytes) [] (hex-IsWord bytes s.all),
      hex_again bytes s.all,
    ) refl
call_again (call.Truncate file size epoch) is (p, q, r) =
    rw (
      number_at_again 64 file (decimal size ∷ decimal epoch ∷ []) p (omega arith),
      number_at_again 64 size (decimal epoch ∷ []) q (omega arith),
      number_at_again 64 epoch [] (omega arith) (omega arith),
    ) refl
call_again (call.Meta user group wanted) spelled (p, q, fits, written) = ap Some (meta_again user group wanted p q spelled fits)
call_again (call.Report user group file) spelled (p, q, r) = ap Some (report_again user group file p q r)
call_again (call.Registry wanted) spelled fits = ap Some (registry_again wanted spelled fits)

pub name-IsWord : (made : Call) → IsWord (call_name made)
unfolding call_name
name-IsWord (call.Read file object at len) = IsWord-tested (codes "read") refl
name-IsWord (call.Write file object at bytes) = IsWord-tested (codes "write") refl
name-IsWord (call.Truncate file size epoch) = IsWord-tested (codes "truncate") refl
name-IsWord (call.Meta user group wanted) = IsWord-tested (codes "meta") refl
name-IsWord (call.Report user group file) = IsWord-tested (codes "meta") refl
name-IsWord (call.Registry wanted) = IsWord-tested (codes "registry") refl

begin_again : (client : NodeId) (number : ℕ) (made : Call) → client.0 < 2 ^ 32 → number < 2 ^ 64 → IsSpellableCall made → FitsCall made
    → begin_in (spaced (decimal client.0 ∷ decimal number ∷ call_name made ∷ call_words made)) ≡ Some (entry.Begin client number made)
unfolding begin_in
begin_again client number made p q is fits =
    rw (
      number_at_again 32 client.0 (decimal number ∷ call_name made ∷ call_words made) p (omega arith),
      number_at_again 64 number (call_name made ∷ call_words made) q (omega arith),
      first_again (call_name made) (call_words made) (name-IsWord made),
      others_again (call_name made) (call_words made) (name-IsWord made),
      call_again made is fits,
    ) refl

held_again : (node : NodeId) (file end : ℕ) → node.0 < 2 ^ 32 → file < 2 ^ 64 → end < 2 ^ 64 → held_in (spaced (decimal node.0 ∷ decimal file ∷ decimal end ∷ [])) ≡ Some (entry.Held node file end)
unfolding held_in
held_again node file end p q r =
    rw (
      number_at_again 32 node.0 (decimal file ∷ decimal end ∷ []) p (omega arith),
      number_at_again 64 file (decimal end ∷ []) q (omega arith),
      number_at_again 64 end [] r (omega arith),
    ) refl

update_again : (made : NodeId → ℕ → ℕ → OpId → Entry) (node : NodeId) (file count : ℕ) (id : OpId) → node.0 < 2 ^ 32 → file < 2 ^ 64 → count < 2 ^ 64 → id.client.0 < 2 ^ 32 → id.number < 2 ^ 64
    → update_in made (spaced (update_words node file count id)) ≡ Some (made node file count id)
unfolding update_in id_of
update_again made node file count id p q r s t =
    rw (
      number_at_again 32 node.0 (decimal file ∷ decimal count ∷ decimal id.client.0 ∷ decimal id.number ∷ []) p (omega arith),
      number_at_again 64 file (decimal count ∷ decimal id.client.0 ∷ decimal id.number ∷ []) q (omega arith),
      number_at_again 64 count (decimal id.client.0 ∷ decimal id.number ∷ []) r (omega arith),
      number_at_again 32 id.client.0 (decimal id.number ∷ []) s (omega arith),
      number_at_again 64 id.number [] t (omega arith),
    ) refl

answer_again : (node : NodeId) (file count : ℕ) (id : OpId) (bytes : List ℕ) → node.0 < 2 ^ 32 → file < 2 ^ 64 → count < 2 ^ 64 → id.client.0 < 2 ^ 32 → id.number < 2 ^ 64 → AreBytes bytes
    → answer_in (spaced (decimal node.0 ∷ decimal file ∷ decimal id.client.0 ∷ decimal id.number ∷ decimal count ∷ hex_or_dash bytes ∷ [])) ≡ Some (entry.Answer node file id count bytes)
unfolding answer_in id_of
answer_again node file count id bytes p q r s t fits =
    rw (
      number_at_again 32 node.0 (decimal file ∷ decimal id.client.0 ∷ decimal id.number ∷ decimal count ∷ hex_or_dash bytes ∷ []) p (omega arith),
      number_at_again 64 file (decimal id.client.0 ∷ decimal id.number ∷ decimal count ∷ hex_or_dash bytes ∷ []) q (omega arith),
      number_at_again 32 id.client.0 (decimal id.number ∷ decimal count ∷ hex_or_dash bytes ∷ []) s (omega arith),
      number_at_again 64 id.number (decimal count ∷ hex_or_dash bytes ∷ []) t (omega arith),
      number_at_again 64 count (hex_or_dash bytes ∷ []) r (omega arith),
      first_again (hex_or_dash bytes) [] (hex_or_dash-IsWord bytes fits),
      hex_or_dash_again bytes fits,
    ) refl

-- the words of a refusal, the first of them apart
abbrev pub refusal_name : AskRefusal → List ℕ
refusal_name (refusal.Denied rule) = codes "denied"
refusal_name (refusal.OldList version) = codes "oldlist"
refusal_name (refusal.OldEpoch epoch) = codes "oldepoch"
refusal_name (refusal.TooFar object) = codes "toofar"
refusal_name refusal.ClientsFull = codes "clientsfull"

abbrev pub refusal_values : AskRefusal → List (List ℕ)
refusal_values (refusal.Denied rule) = decimal (denial_number rule) ∷ []
refusal_values (refusal.OldList version) = decimal version ∷ []
refusal_values (refusal.OldEpoch epoch) = decimal epoch ∷ []
refusal_values (refusal.TooFar object) = decimal object ∷ []
refusal_values refusal.ClientsFull = []

pub refusal_is : (why : AskRefusal) → ask_refusal_words why ≡ refusal_name why ∷ refusal_values why
unfolding ask_refusal_words
refusal_is (refusal.Denied rule) = refl
refusal_is (refusal.OldList version) = refl
refusal_is (refusal.OldEpoch epoch) = refl
refusal_is (refusal.TooFar object) = refl
refusal_is refusal.ClientsFull = refl

pub refusal-IsWord : (why : AskRefusal) → IsWord (refusal_name why)
refusal-IsWord (refusal.Denied rule) = IsWord-tested (codes "denied") refl
refusal-IsWord (refusal.OldList version) = IsWord-tested (codes "oldlist") refl
refusal-IsWord (refusal.OldEpoch epoch) = IsWord-tested (codes "oldepoch") refl
refusal-IsWord (refusal.TooFar object) = IsWord-tested (codes "toofar") refl
refusal-IsWord refusal.ClientsFull = IsWord-tested (codes "clientsfull") refl

value_again : (bits n : ℕ) → n < 2 ^ bits → n < 10 ^ 64 → number_of bits (first_word (spaced (decimal n ∷ []))) ≡ n
value_again bits n small wide = ap (number_of bits) (first_again (decimal n) [] (decimal-IsWord n wide)) ∙ number_again bits n small wide

refusal_again : (why : AskRefusal) → FitsRefusal why → outcome_in (refusal_name why) (spaced (refusal_values why)) ≡ Some (outcome.Refused why)
unfolding outcome_in refusal_in refusal_of
refusal_again (refusal.Denied rule) fits =
    rw (value_again 64 (denial_number rule) (denial_small rule) (let small = denial_small rule in omega arith), denial_again rule) refl
refusal_again (refusal.OldList version) fits = rw (value_again 32 version (omega arith) (omega arith)) refl
refusal_again (refusal.OldEpoch epoch) fits = rw (value_again 64 epoch (omega arith) (omega arith)) refl
refusal_again (refusal.TooFar object) fits = rw (value_again 64 object fits (omega arith)) refl
refusal_again refusal.ClientsFull fits = refl

ok_again : (count : ℕ) (bytes : List ℕ) → count < 2 ^ 64 → AreBytes bytes → outcome_in (codes "ok") (spaced (decimal count ∷ hex_or_dash bytes ∷ [])) ≡ Some (outcome.Ok count bytes)
unfolding outcome_in
ok_again count bytes p fits =
    rw (
      number_at_again 64 count (hex_or_dash bytes ∷ []) p (omega arith),
      first_again (hex_or_dash bytes) [] (hex_or_dash-IsWord bytes fits),
      hex_or_dash_again bytes fits,
    ) refl

tried_again : (answers : List Answered) → AllByRecursion FitsAnswered answers → outcome_in (codes "retry") (spaced (answer_words answers)) ≡ Some (outcome.Retry answers)
unfolding outcome_in
tried_again answers fits = ap (λ (given : List Answered). Some (outcome.Retry given)) (answers_again answers fits)

meta_end_again : (answer : MetaOutcome) → IsSpellableMeta answer → FitsMetaOutcome answer → outcome_in (codes "meta") (spaced (meta_outcome_words answer)) ≡ Some (outcome.Meta answer)
unfolding outcome_in
meta_end_again answer spelled fits = ap (λ (told : MetaOutcome). Some (outcome.Meta told)) (answers.meta_again answer spelled fits)

registry_end_again : (answer : RegistryOutcome) → IsSpellableRegistry answer → FitsRegistryOutcome answer
    → outcome_in (codes "registry") (spaced (registry_outcome_words answer)) ≡ Some (outcome.Registry answer)
unfolding outcome_in
registry_end_again answer spelled fits = ap (λ (told : RegistryOutcome). Some (outcome.Registry told)) (answers.registry_again answer spelled fits)

-- a call's end, the first of its words apart
ended_again : (client : NodeId) (number : ℕ) (ended : Outcome) (name : List ℕ) (values : List (List ℕ)) → client.0 < 2 ^ 32 → number < 2 ^ 64 → IsWord name
    → outcome_in name (spaced values) ≡ Some ended
    → done_in (spaced (decimal client.0 ∷ decimal number ∷ name ∷ values)) ≡ Some (entry.Done client number ended)
unfolding done_in
ended_again client number ended name values p q word again =
    rw (
      number_at_again 32 client.0 (decimal number ∷ name ∷ values) p (omega arith),
      number_at_again 64 number (name ∷ values) q (omega arith),
      first_again name values word,
      others_again name values word,
      again,
    ) refl

done_again : (client : NodeId) (number : ℕ) (ended : Outcome) → client.0 < 2 ^ 32 → number < 2 ^ 64 → IsSpellableOutcome ended → FitsOutcome ended
    → done_in (spaced (decimal client.0 ∷ decimal number ∷ outcome_words ended)) ≡ Some (entry.Done client number ended)
unfolding outcome_words
done_again client number (outcome.Ok count bytes) p q is (r, s) =
    ended_again client number (outcome.Ok count bytes) (codes "ok") (decimal count ∷ hex_or_dash bytes ∷ []) p q (IsWord-tested (codes "ok") refl) (ok_again count bytes (omega arith) s.all)
done_again client number (outcome.Refused why) p q is fits =
    ap (λ (words : List (List ℕ)). done_in (spaced (decimal client.0 ∷ decimal number ∷ words))) (refusal_is why)
    ∙ ended_again client number (outcome.Refused why) (refusal_name why) (refusal_values why) p q (refusal-IsWord why) (refusal_again why fits)
done_again client number (outcome.Retry answers) p q is fits =
    ended_again client number (outcome.Retry answers) (codes "retry") (answer_words answers) p q (IsWord-tested (codes "retry") refl) (tried_again answers fits)
done_again client number (outcome.Meta answer) p q spelled fits =
    ended_again client number (outcome.Meta answer) (codes "meta") (meta_outcome_words answer) p q (IsWord-tested (codes "meta") refl) (meta_end_again answer spelled fits)
done_again client number (outcome.Registry answer) p q spelled fits =
    ended_again client number (outcome.Registry answer) (codes "registry") (registry_outcome_words answer) p q (IsWord-tested (codes "registry") refl) (registry_end_again answer spelled fits)

-- an entry that was written is read
pub entry_again : (e : Entry) → IsEntry e → entry_at (entry_text e) ≡ Some e
unfolding entry_text entry_words first_word other_words entry_at entry_of update_entry node_entry
entry_again (entry.Times lease drift) (is, fits) =
    let short : 2 * drift < lease = fits.short in
    let small : lease < 2 ^ 40 = fits.small in
    times_again lease drift (omega arith) (omega arith)
entry_again (entry.File number location) (is, (p, fits)) = file_again number location p is fits
entry_again (entry.List number version members) (is, (p, q, fits)) = list_again number version members (omega arith) (omega arith) fits
entry_again (entry.Clock node clock) (is, (p, q)) = clock_again node clock p (omega arith)
entry_again (entry.Tick count) (is, fits) = tick_again count (omega arith)
entry_again (entry.Up node boot clock) (is, (p, q, r)) = up_again node boot clock p (omega arith) (omega arith)
entry_again (entry.Down node clock how) (is, (p, q)) = down_again node clock how p (omega arith)
entry_again (entry.Begin client number made) (is, (p, q, fits)) = begin_again client number made p (omega arith) is fits
entry_again (entry.Held node file end) (is, (p, q, r)) = held_again node file end p q r
entry_again (entry.Active node file count id) (is, (p, q, r, s)) =
    let whole = s.operation in update_again entry.Active node file count id p q (omega arith) s.who (omega arith)
entry_again (entry.Issue node file count id) (is, (p, q, r, s)) =
    let whole = s.operation in update_again entry.Issue node file count id p q (omega arith) s.who (omega arith)
entry_again (entry.Commit node file count id) (is, (p, q, r, s)) =
    let whole = s.operation in update_again entry.Commit node file count id p q (omega arith) s.who (omega arith)
entry_again (entry.Answer node file id count bytes) (is, ((p, q, r, s), fits)) =
    let whole = s.operation in answer_again node file count id bytes p q (omega arith) s.who (omega arith) fits.all
entry_again (entry.Done client number ended) (is, (p, q, fits)) = done_again client number ended p (omega arith) is fits

-- no two entries are spelled alike
pub one_entry : (a b : Entry) → IsEntry a → IsEntry b → entry_text a ≡ entry_text b → a ≡ b
one_entry a b p q e = some_is (sym (entry_again a p) ∙ ap entry_at e ∙ entry_again b q)
  where
    some_is : {x y : Entry} → Some x ≡ Some y → x ≡ y
    some_is e = cc
