-- Traces that are spelled alike are one.
use Rattle.std.proofs.Common.{◌≡◌, ◌∙◌, ℕ, ◌^◌, ◌<◌, ◌*◌, List, [], ◌∷◌, ◌++◌, length, length-append, refl, sym, ap, subst, append_assoc, arith}
use Rattle.std.specs.Prelude.{codes}
use Rattle.std.specs.List.{AllByRecursion}
use Rattle.std.specs.Fmt.{decimal}
use Rattle.xt_base.specs.declared.ids.NodeId.{NodeId}
use Rattle.xt_base.specs.declared.ids.OpId.{OpId}
use Rattle.xt_messages.specs.declared.event.Call.{Call}
use Rattle.xt_messages.specs.declared.event.Call.TheVariants as call
use Rattle.xt_messages.specs.declared.event.Outcome.{Outcome}
use Rattle.xt_messages.specs.declared.event.Outcome.TheVariants as outcome
use Rattle.xt_messages.specs.declared.status.AskRefusal.{AskRefusal}
use Rattle.xt_messages.specs.declared.status.AskRefusal.TheVariants as refusal
use Rattle.time_line.specs.declared.entry.Entry.{Entry}
use Rattle.time_line.specs.declared.entry.Entry.TheVariants as entry
use Rattle.time_line.specs.Bounds.{FitsCall, FitsOutcome, FitsRefusal, FitsPosition}
use Rattle.server_text.proofs.AnswersAgain as answers
use Rattle.server_text.proofs.AnswersAgain.{denial_small}
use Rattle.server_text.proofs.InLine.{HasNoFeed, spaced_in_line, same_line}
use Rattle.server_text.proofs.ManyAgain.{nodes-AreWords}
use Rattle.server_text.proofs.RequestsAgain as requests
use Rattle.server_text.proofs.RequestsAgain.{kind-IsWord}
use Rattle.server_text.proofs.WordsAgain.{IsWord, IsWord-tested, decimal-IsWord, hex-IsWord, hex_or_dash-IsWord}
use Rattle.schedule_text.specs.CallText.{call_words, IsSpellableCall}
use Rattle.schedule_text.specs.OutcomeText.{outcome_words, IsSpellableOutcome}
use Rattle.schedule_text.specs.EntryText.{update_words, entry_words, entry_text, trace_text, IsEntry}
use Rattle.schedule_text.proofs.AnswersAgain.{answers-AreWords}
use Rattle.schedule_text.proofs.EntryAgain.{name-IsWord, halt-IsWord, refusal_is, refusal_values, refusal-IsWord, one_entry}

abbrev AreWords : List (List ℕ) → Type 0
AreWords words = AllByRecursion IsWord words

number-IsWord : (n : ℕ) → n < 2 ^ 128 → IsWord (decimal n)
number-IsWord n small = decimal-IsWord n (omega arith)

call_are : (made : Call) → IsSpellableCall made → FitsCall made → AreWords (call_words made)
unfolding call_words
call_are (call.Read file object at len) is (p, q, r, s, t) =
    (number-IsWord file (omega arith), (number-IsWord object (omega arith), (number-IsWord at (omega arith), (number-IsWord len (omega arith), tt))))
call_are (call.Write file object at bytes) is (p, q, r, s, t) =
    (number-IsWord file (omega arith), (number-IsWord object (omega arith), (number-IsWord at (omega arith), (hex-IsWord bytes s.all, tt))))
call_are (call.Truncate file size epoch) is (p, q, r) =
    (number-IsWord file (omega arith), (number-IsWord size (omega arith), (number-IsWord epoch (omega arith), tt)))
call_are (call.Meta user group wanted) spelled (p, q, fits, written) =
    (number-IsWord user (omega arith), (number-IsWord group (omega arith), requests.meta-AreWords wanted spelled fits))
call_are (call.Report user group file) is (p, q, r) =
    (number-IsWord user (omega arith), (number-IsWord group (omega arith), (IsWord-tested (codes "report") refl, (number-IsWord file (omega arith), tt))))
call_are (call.Registry wanted) spelled fits = requests.registry-AreWords wanted spelled fits

update_are : (node : NodeId) (file count : ℕ) (id : OpId) → FitsPosition node file count id → AreWords (update_words node file count id)
update_are node file count id (p, q, r, s) =
    let who = s.who in
    let whole = s.operation in
    (number-IsWord node.0 (omega arith), (number-IsWord file (omega arith), (number-IsWord count (omega arith), (number-IsWord id.client.0 (omega arith), (number-IsWord id.number (omega arith), tt)))))

values_are : (why : AskRefusal) → FitsRefusal why → AreWords (refusal_values why)
values_are (refusal.Denied rule) fits = (let small = denial_small rule in number-IsWord _ (omega arith), tt)
values_are (refusal.OldList version) fits = (number-IsWord version (omega arith), tt)
values_are (refusal.OldEpoch epoch) fits = (number-IsWord epoch (omega arith), tt)
values_are (refusal.TooFar object) fits = (number-IsWord object (omega arith), tt)
values_are refusal.ClientsFull fits = tt

outcome_are : (ended : Outcome) → IsSpellableOutcome ended → FitsOutcome ended → AreWords (outcome_words ended)
unfolding outcome_words
outcome_are (outcome.Ok count bytes) is (p, q) = (IsWord-tested (codes "ok") refl, (number-IsWord count (omega arith), (hex_or_dash-IsWord bytes q.all, tt)))
outcome_are (outcome.Refused why) is fits =
    subst AreWords (sym (refusal_is why)) (refusal-IsWord why, values_are why fits)
outcome_are (outcome.Retry answers) is fits = (IsWord-tested (codes "retry") refl, answers-AreWords answers fits)
outcome_are (outcome.Meta answer) spelled fits = (IsWord-tested (codes "meta") refl, answers.meta-AreWords answer spelled fits)
outcome_are (outcome.Registry answer) spelled fits = (IsWord-tested (codes "registry") refl, answers.registry-AreWords answer spelled fits)

entry_are : (e : Entry) → IsEntry e → AreWords (entry_words e)
unfolding entry_words
entry_are (entry.Times lease drift) (is, fits) =
    let short : 2 * drift < lease = fits.short in
    let small : lease < 2 ^ 40 = fits.small in
    (IsWord-tested (codes "times") refl, (number-IsWord lease (omega arith), (number-IsWord drift (omega arith), tt)))
entry_are (entry.File number location) (is, (p, fits)) =
    let most = fits.size.most in
    (IsWord-tested (codes "file") refl, (number-IsWord number (omega arith), (kind-IsWord location.kind, (number-IsWord location.stripe (omega arith), nodes-AreWords location.members fits.nodes.each))))
entry_are (entry.List number version members) (is, (p, q, fits)) =
    (IsWord-tested (codes "list") refl, (number-IsWord number (omega arith), (number-IsWord version (omega arith), nodes-AreWords members fits.each)))
entry_are (entry.Clock node clock) (is, (p, q)) =
    (IsWord-tested (codes "clock") refl, (number-IsWord node.0 (omega arith), (number-IsWord clock (omega arith), tt)))
entry_are (entry.Tick count) (is, fits) = (IsWord-tested (codes "tick") refl, (number-IsWord count (omega arith), tt))
entry_are (entry.Up node boot clock) (is, (p, q, r)) =
    (IsWord-tested (codes "up") refl, (number-IsWord node.0 (omega arith), (number-IsWord boot.0 (omega arith), (number-IsWord clock (omega arith), tt))))
entry_are (entry.Down node clock how) (is, (p, q)) =
    (IsWord-tested (codes "down") refl, (number-IsWord node.0 (omega arith), (number-IsWord clock (omega arith), (halt-IsWord how, tt))))
entry_are (entry.Begin client number made) (is, (p, q, fits)) =
    (IsWord-tested (codes "begin") refl, (number-IsWord client.0 (omega arith), (number-IsWord number (omega arith), (name-IsWord made, call_are made is fits))))
entry_are (entry.Held node file end) (is, (p, q, r)) =
    (IsWord-tested (codes "held") refl, (number-IsWord node.0 (omega arith), (number-IsWord file (omega arith), (number-IsWord end (omega arith), tt))))
entry_are (entry.Active node file count id) (is, fits) = (IsWord-tested (codes "active") refl, update_are node file count id fits)
entry_are (entry.Issue node file count id) (is, fits) = (IsWord-tested (codes "issue") refl, update_are node file count id fits)
entry_are (entry.Commit node file count id) (is, fits) = (IsWord-tested (codes "commit") refl, update_are node file count id fits)
entry_are (entry.Answer node file id count bytes) (is, ((p, q, r, s), fits)) =
    let who = s.who in
    let whole = s.operation in
    (IsWord-tested (codes "answer") refl, (number-IsWord node.0 (omega arith), (number-IsWord file (omega arith), (number-IsWord id.client.0 (omega arith), (number-IsWord id.number (omega arith), (number-IsWord count (omega arith), (hex_or_dash-IsWord bytes fits.all, tt)))))))
entry_are (entry.Done client number ended) (is, (p, q, fits)) =
    (IsWord-tested (codes "done") refl, (number-IsWord client.0 (omega arith), (number-IsWord number (omega arith), outcome_are ended is fits)))

pub entry_in_line : (e : Entry) → IsEntry e → HasNoFeed (entry_text e)
unfolding entry_text
entry_in_line e is = spaced_in_line (entry_words e) (entry_are e is)

pub first_entry : (e : Entry) (es : List Entry) → trace_text (e ∷ es) ≡ entry_text e ++ 10 ∷ trace_text es
unfolding trace_text
first_entry e es = append_assoc (entry_text e) (10 ∷ []) (trace_text es)

not_empty : (e : Entry) (es : List Entry) → trace_text (e ∷ es) ≡ trace_text [] → ⊥
unfolding trace_text
not_empty e es same =
    absurd (omega (arith, ap length same, ap length (first_entry e es), length-append (entry_text e) (10 ∷ trace_text es)))

pub one_trace : (first second : List Entry) → AllByRecursion IsEntry first → AllByRecursion IsEntry second → trace_text first ≡ trace_text second → first ≡ second
one_trace [] [] p q e = refl
one_trace [] (b ∷ ys) p q e = absurd (not_empty b ys (sym e))
one_trace (a ∷ xs) [] p q e = absurd (not_empty a xs e)
one_trace (a ∷ xs) (b ∷ ys) p q e =
    let split = same_line (entry_text a) (entry_text b) (trace_text xs) (trace_text ys) (entry_in_line a p.0) (entry_in_line b q.0) (sym (first_entry a xs) ∙ e ∙ first_entry b ys) in
    let head : a ≡ b = one_entry a b p.0 q.0 split.0 in
    let rest : xs ≡ ys = one_trace xs ys p.1 q.1 split.1 in
    ap (λ (x : Entry). x ∷ xs) head ∙ ap (λ (es : List Entry). b ∷ es) rest
