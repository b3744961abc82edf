-- how a trace is read, entry by entry
use Rattle.std.proofs.Common.{◌≡◌, ◌∙◌, ℕ, suc, ◌+◌, ◌-◌, ◌<◌, ◌≤◌, ◌==◌, Bool, true, false, Option, None, List, [], ◌∷◌, ◌++◌, length, length-append, refl, sym, ap, subst, append-nil, arith}
use Rattle.std.proofs.lemmas.Grind.{flat_map-append}
use Rattle.std.proofs.lemmas.Bool.Decides.{nat_tests}
use Rattle.node_links.specs.Streams.{Takes, IsAtEnd}
use Rattle.xt_messages.specs.declared.status.Status.{Status}
use Rattle.time_line.specs.declared.entry.Entry.{Entry}
use Rattle.time_line.specs.declared.entry.Entry.TheVariants as entry
use Rattle.time_line.specs.TimeLine.{times_told}
use Rattle.schedule_text.specs.EntryText.{entry_text, trace_text, IsInPlace, IsEntryAt}
use Rattle.schedule_lines.specs.NextLine.{ended}
use Rattle.schedule_lines.proofs.Streamed.{Takes-nothing, Takes-append}
use Rattle.judging.specs.Laws.{HaveNoTimes, TimesStandFirst}
use Rattle.trace_audit.specs.declared.TheConstants.{TRACE_BYTES}
use Rattle.trace_audit.specs.NextEntry.{StopsAudit}
use Rattle.trace_audit.specs.Audit.{AreOfTrace, IsWhole, IsReadTo, room_behind}

-- one entry more
of_trace-more : (before : ℕ) (es : List Entry) (e : Entry) → AreOfTrace before es → IsEntryAt ((before + length es) == 0) e → AreOfTrace before (es ++ e ∷ [])
of_trace-more before [] e all new = (subst (λ (n : ℕ). IsEntryAt (n == 0) e) (let same : before + 0 ≡ before = omega arith in same) new, tt)
of_trace-more before (x ∷ xs) e all new =
    (all.0, of_trace-more (before + 1) xs e all.1 (subst (λ (n : ℕ). IsEntryAt (n == 0) e) (let same : before + suc (length xs) ≡ before + 1 + length xs = omega arith in same) new))

text_more : (es : List Entry) (e : Entry) → trace_text (es ++ e ∷ []) ≡ trace_text es ++ ended (entry_text e)
unfolding trace_text
text_more es e =
    flat_map-append (λ (x : Entry). entry_text x ++ 10 ∷ []) es (e ∷ []) ∙ ap (λ (xs : List ℕ). trace_text es ++ xs) (append-nil (entry_text e ++ 10 ∷ []))

no_text : trace_text [] ≡ []
unfolding trace_text
no_text = refl

-- the entries so far, and how many bytes the trace may have after them
pub record IsReadSoFar (old now : Option (List ℕ)) (entries : List Entry) (room : ℕ) : Type 0 where
  pub formed : AreOfTrace 0 entries
  pub size : length (trace_text entries) + room ≡ TRACE_BYTES
  pub few : length entries + room ≤ TRACE_BYTES
  pub source : Takes old now (trace_text entries)

pub begun : (left : Option (List ℕ)) (entries : List Entry) → entries ≡ [] → IsReadSoFar left left entries TRACE_BYTES
begun left entries none = subst (λ (es : List Entry). IsReadSoFar left left es TRACE_BYTES) (sym none) (record {
  formed = tt;
  size = omega (arith, ap length no_text);
  few = omega arith;
  source = subst (Takes left left) (sym no_text) (Takes-nothing left);
})

pub goes_on : (old mid new : Option (List ℕ)) (es longer : List Entry) (e : Entry) (room less : ℕ) (bytes : List ℕ)
    → IsReadSoFar old mid es room
    → Takes mid new (ended (entry_text e))
    → IsEntryAt (length es == 0) e
    → bytes ≡ entry_text e
    → length bytes < room
    → longer ≡ es ++ e ∷ []
    → less ≡ room - (length bytes + 1)
    → IsReadSoFar old new longer less
goes_on old mid new es longer e room less bytes so_far taken at text below same is =
    let size = so_far.size in
    let few = so_far.few in
    subst (λ (all : List Entry). IsReadSoFar old new all less) (sym same) (record {
      formed = of_trace-more 0 es e so_far.formed (subst (λ (n : ℕ). IsEntryAt (n == 0) e) (let e : length es ≡ 0 + length es = omega arith in e) at);
      size = omega (arith, size, ap length (text_more es e), length-append (trace_text es) (ended (entry_text e)), length-append (entry_text e) (10 ∷ []), ap length text, is);
      few = omega (arith, few, length-append es (e ∷ []), is);
      source = subst (Takes old new) (sym (text_more es e)) (Takes-append old mid new _ _ so_far.source taken);
    })

pub read_to : (old mid new : Option (List ℕ)) (es : List Entry) (room : ℕ) (s : Status) (taken : List ℕ)
    → IsReadSoFar old mid es room
    → Takes mid new taken
    → StopsAudit (length es) room taken new s
    → IsReadTo old new s
read_to old mid new es room s taken so_far took stop =
    let size = so_far.size in
    record {
      entries = es;
      trace = record { formed = so_far.formed; few = omega (arith, size) };
      taken = taken;
      source = Takes-append old mid new _ _ so_far.source took;
      stop = subst (λ (r : ℕ). StopsAudit (length es) r taken new s) (let same : room ≡ room_behind es = omega (arith, size) in same) stop;
    }

pub whole : (old mid new : Option (List ℕ)) (es : List Entry) (room : ℕ)
    → IsReadSoFar old mid es room
    → Takes mid new []
    → IsAtEnd new
    → IsWhole old new es
whole old mid new es room so_far took end =
    let size = so_far.size in
    record {
      trace = record { formed = so_far.formed; few = omega (arith, size) };
      source = subst (Takes old new) (append-nil (trace_text es)) (Takes-append old mid new _ _ so_far.source took);
      end = end;
    }

-- after the first entry none gives the times
tells_none : (first : Bool) (e : Entry) → first ≡ false → IsInPlace first e → times_told e ≡ None
tells_none true e later place = absurd cc
tells_none false (entry.Times lease drift) later place = absurd (let never : false ≡ true = place in cc)
tells_none false _ later place = refl

not_first : (before : ℕ) → 1 ≤ before → (before == 0) ≡ false
not_first before some = grind (arith, nat_tests)

none_told : (before : ℕ) (es : List Entry) → 1 ≤ before → AreOfTrace before es → HaveNoTimes es
none_told before [] some all = tt
none_told before (e ∷ es) some all = (tells_none (before == 0) e (not_first before some) all.0.0, none_told (before + 1) es (omega arith) all.1)

pub times_first : (es : List Entry) → AreOfTrace 0 es → TimesStandFirst es
times_first [] all = tt
times_first (e ∷ es) all = none_told 1 es (omega arith) all.1
