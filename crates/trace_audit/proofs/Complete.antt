-- a trace within the limits is audited whole
use Rattle.std.proofs.Common.{◌≡◌, ◌∙◌, ℕ, suc, ◌+◌, ◌<◌, ◌≤◌, ◌⊎◌, Option, Some, List, [], ◌∷◌, ◌++◌, length, length-append, refl, sym, ap, subst, inl, inr, append_assoc, append-nil, arith}
use Rattle.xt_messages.specs.declared.status.Limited.{Limited}
use Rattle.xt_messages.specs.declared.status.Limited.TheVariants as limited
use Rattle.xt_messages.specs.declared.status.Status.{Status}
use Rattle.xt_messages.specs.declared.status.Status.TheVariants as status
use Rattle.node_links.specs.Streams.{Takes, Puts}
use Rattle.xt_base.specs.Faults.{Rose}
use Rattle.time_line.specs.declared.entry.Entry.{Entry}
use Rattle.time_line.specs.declared.TheConstants.{LINE_BYTES}
use Rattle.schedule_text.specs.EntryText.{entry_text, trace_text}
use Rattle.schedule_text.proofs.EntryAgain.{one_entry}
use Rattle.schedule_text.proofs.TraceAgain.{entry_in_line, first_entry}
use Rattle.schedule_text.proofs.InLine.{same_line}
use Rattle.schedule_lines.specs.RawLine.{line_feed, IsInLine}
use Rattle.schedule_lines.specs.NextLine.{ended}
use Rattle.schedule_lines.specs.Causes.{HasCause}
use Rattle.trace_audit.specs.declared.TheConstants.{TRACE_BYTES}
use Rattle.trace_audit.specs.NextEntry.{IsNoEntry, IsUnended}
use Rattle.trace_audit.specs.Audit.{AreOfTrace, AreShort, room_behind, EndsWith, IsSaid, IsTold, IsAudit, IsWholeAudit, Completes, text_of}

-- what is in a line at the front of a line is no longer than it
no_longer : (xs first ys second : List ℕ) → IsInLine xs → xs ++ first ≡ ys ++ line_feed ∷ second → length xs ≤ length ys
no_longer [] first ys second p e = omega arith
no_longer (x ∷ xs) first [] second p e = absurd (p.0 (let same : x ≡ line_feed = cc in same))
no_longer (x ∷ xs) first (y ∷ ys) second p e =
    let tails : xs ++ first ≡ ys ++ line_feed ∷ second = cc in
    let rest = no_longer xs first ys second p.1 tails in
    omega arith

no_feed : (xs ys second : List ℕ) → IsInLine xs → xs ≡ ys ++ line_feed ∷ second → ⊥
no_feed xs [] second p e = let all : IsInLine (line_feed ∷ second) = subst IsInLine e p in all.0 refl
no_feed [] (y ∷ ys) second p e = cc
no_feed (x ∷ xs) (y ∷ ys) second p e = no_feed xs ys second p.1 (let tails : xs ≡ ys ++ line_feed ∷ second = cc in tails)

no_entries : trace_text [] ≡ []
unfolding trace_text
no_entries = refl

-- the entries of a trace whose text begins with that of others begin with these
entries_behind : (before : ℕ) (all entries : List Entry) (more : List ℕ) → AreOfTrace before all → AreOfTrace before entries → trace_text all ≡ trace_text entries ++ more → (rest : List Entry) × (all ≡ entries ++ rest) × (trace_text rest ≡ more)
entries_behind before all [] more p q e = (all, refl, e ∙ ap (λ (text : List ℕ). text ++ more) no_entries)
entries_behind before [] (x ∷ xs) more p q e =
    absurd (omega (arith, ap length no_entries, ap length e, ap length (first_entry x xs), length-append (trace_text (x ∷ xs)) more, length-append (entry_text x) (line_feed ∷ trace_text xs)))
entries_behind before (k ∷ ks) (x ∷ xs) more p q e =
    let text = sym (first_entry k ks) ∙ e ∙ ap (λ (front : List ℕ). front ++ more) (first_entry x xs) ∙ append_assoc (entry_text x) (line_feed ∷ trace_text xs) more in
    let same = same_line (entry_text k) (entry_text x) (trace_text ks) (trace_text xs ++ more) (entry_in_line k p.0.1) (entry_in_line x q.0.1) text in
    let head : k ≡ x = one_entry k x p.0.1 q.0.1 same.0 in
    let rest = entries_behind (before + 1) ks xs more p.1 q.1 same.1 in
    (rest.0, ap (λ (m : Entry). m ∷ ks) head ∙ ap (λ (ms : List Entry). x ∷ ms) rest.1, rest.2)

-- what holds of the entries that are left
of_trace-rest : (before : ℕ) (entries rest : List Entry) → AreOfTrace before (entries ++ rest) → AreOfTrace (before + length entries) rest
of_trace-rest before [] rest all = subst (λ (n : ℕ). AreOfTrace n rest) (let e : before ≡ before + 0 = omega arith in e) all
of_trace-rest before (x ∷ xs) rest all =
    subst (λ (n : ℕ). AreOfTrace n rest) (let e : before + 1 + length xs ≡ before + suc (length xs) = omega arith in e) (of_trace-rest (before + 1) xs rest all.1)

short-rest : (entries rest : List Entry) → AreShort (entries ++ rest) → AreShort rest
short-rest [] rest all = all
short-rest (x ∷ xs) rest all = short-rest xs rest all.1

nothing : (bytes : List ℕ) → length bytes ≡ 0 → bytes ≡ []
nothing [] none = refl
nothing (b ∷ bs) none = absurd (omega arith)

-- none is malformed
no_malformed : (before : ℕ) (rest : List Entry) (taken behind text : List ℕ) → AreOfTrace before rest → trace_text rest ≡ taken ++ behind → IsInLine text
    → ((taken ≡ ended text) × IsNoEntry before text) ⊎ IsUnended text taken (Some behind)
    → ⊥
no_malformed before [] taken behind text p e inside (inl (whole, none)) =
    absurd (omega (arith, ap length no_entries, ap length e, ap length whole, length-append taken behind, length-append text (line_feed ∷ [])))
no_malformed before [] taken behind text p e inside (inr (same, some, end)) =
    some (nothing text (omega (arith, ap length no_entries, ap length e, ap length same, length-append taken behind)))
no_malformed before (x ∷ xs) taken behind text p e inside (inl (whole, none)) =
    let bytes = sym (append_assoc text (line_feed ∷ []) behind) ∙ ap (λ (front : List ℕ). front ++ behind) (sym whole) ∙ sym e ∙ first_entry x xs in
    let same = same_line text (entry_text x) behind (trace_text xs) inside (entry_in_line x p.0.1) bytes in
    none x p.0 same.0
no_malformed before (x ∷ xs) taken behind text p e inside (inr (same, some, end)) =
    no_feed text (entry_text x) (trace_text xs) inside
    (sym same ∙ sym (append-nil taken) ∙ ap (λ (rest : List ℕ). taken ++ rest) (sym end) ∙ sym e ∙ first_entry x xs)

-- none is too long
no_long : (rest : List Entry) (taken behind : List ℕ) → AreShort rest → trace_text rest ≡ taken ++ behind → IsInLine taken → length taken ≡ LINE_BYTES + 1 → ⊥
no_long [] taken behind short e inside long =
    absurd (omega (arith, ap length no_entries, ap length e, length-append taken behind))
no_long (x ∷ xs) taken behind short e inside long =
    let first : length (entry_text x) ≤ LINE_BYTES = short.0 in
    let within = no_longer taken behind (entry_text x) (trace_text xs) inside (sym e ∙ first_entry x xs) in
    absurd (omega arith)

none_left : (rest : List Entry) → trace_text rest ≡ [] → rest ≡ []
none_left [] e = refl
none_left (x ∷ xs) e = absurd (omega (arith, ap length e, ap length (first_entry x xs), length-append (entry_text x) (line_feed ∷ trace_text xs)))

-- after these entries a trace has these, and these bytes were taken of them
record IsSplit (all entries rest : List Entry) (taken behind : List ℕ) : Type 0 where
  parts : all ≡ entries ++ rest
  formed : AreOfTrace (length entries) rest
  short : AreShort rest
  text : trace_text rest ≡ taken ++ behind
  few : length (trace_text entries) + (length taken + length behind) ≤ TRACE_BYTES

whole_then : (all entries rest : List Entry) (taken behind : List ℕ) → IsSplit all entries rest taken behind → taken ≡ [] → behind ≡ [] → all ≡ entries
whole_then all entries rest taken behind split untaken end =
    let none = none_left rest (split.text ∙ ap (λ (front : List ℕ). front ++ behind) untaken ∙ end) in
    split.parts ∙ ap (λ (es : List Entry). entries ++ es) none ∙ append-nil entries

no_limit : (all entries rest : List Entry) (taken behind : List ℕ) (what : Limited) (limit : ℕ) → IsSplit all entries rest taken behind → EndsWith entries taken (Some behind) (status.Limit what limit) → ⊥
no_limit all entries rest taken behind limited.Line limit split stops = no_long rest taken behind split.short split.text stops.0 stops.1
no_limit all entries rest taken behind limited.Bytes limit split (text, inside, short, past, same, how) =
    let few = split.few in
    let more : room_behind entries < length taken = past in
    absurd (omega arith)
no_limit all entries rest taken behind _ limit split stops = stops

said_whole : (all entries rest : List Entry) (taken behind : List ℕ) (sink_before sink_after : Option (List ℕ)) (sb sa kb ka : ℕ) (s : Status)
    → IsSplit all entries rest taken behind
    → HasCause sb sa kb ka s
    → (Rose sb sa → ⊥)
    → EndsWith entries taken (Some behind) s
    → Puts sink_before sink_after (text_of s)
    → IsWholeAudit all sink_before sink_after s
said_whole all entries rest taken behind before later sb sa kb ka status.Done split cause no_source (untaken, end, safe) put =
    let same : all ≡ entries = whole_then all entries rest taken behind split untaken end in
    (subst (λ (es : List Entry). IsSaid es status.Done) (sym same) safe, put)
said_whole all entries rest taken behind before later sb sa kb ka (status.Broken clause entry) split cause no_source (untaken, end, broken) put =
    let same : all ≡ entries = whole_then all entries rest taken behind split untaken end in
    (subst (λ (es : List Entry). IsSaid es (status.Broken clause entry)) (sym same) broken, put)
said_whole all entries rest taken behind before later sb sa kb ka status.OutOfMemory split cause no_source ends put = tt
said_whole all entries rest taken behind before later sb sa kb ka (status.SourceFault count) split cause no_source ends put = absurd (no_source cause.0)
said_whole all entries rest taken behind before later sb sa kb ka (status.Malformed number) split cause no_source (text, inside, short, within, counted, how) put =
    absurd (no_malformed (length entries) rest taken behind text split.formed split.text inside how)
said_whole all entries rest taken behind before later sb sa kb ka (status.Limit what limit) split cause no_source ends put =
    absurd (no_limit all entries rest taken behind what limit split ends)
said_whole all entries rest taken behind before later sb sa kb ka _ split cause no_source ends put = absurd ends

told_whole : (all entries rest : List Entry) (taken behind : List ℕ) (sink_before sink_after : Option (List ℕ)) (sb sa kb ka : ℕ) (said s : Status)
    → IsSplit all entries rest taken behind
    → HasCause sb sa kb ka s
    → (Rose sb sa → ⊥)
    → (Rose kb ka → ⊥)
    → EndsWith entries taken (Some behind) said
    → IsTold sink_before sink_after said s
    → IsWholeAudit all sink_before sink_after s
told_whole all entries rest taken behind before later sb sa kb ka said s split cause no_source no_sink ends (inl (same, put)) =
    subst (IsWholeAudit all before later) (sym same)
    (said_whole all entries rest taken behind before later sb sa kb ka said split (subst (HasCause sb sa kb ka) same cause) no_source ends put)
told_whole all entries rest taken behind before later sb sa kb ka said s split cause no_source no_sink ends (inr (inl (count, same, front))) =
    let failed : HasCause sb sa kb ka (status.SinkFault count) = subst (HasCause sb sa kb ka) same cause in
    absurd (no_sink failed.0)
told_whole all entries rest taken behind before later sb sa kb ka said s split cause no_source no_sink ends (inr (inr (same, other, put))) =
    subst (IsWholeAudit all before later) (sym same) tt

-- The audit of a trace within the limits, whose source and sink don't fail, gives its verdict, unless memory runs out.
pub complete : (source_before source_after sink_before sink_after : Option (List ℕ)) (sb sa kb ka : ℕ) (s : Status)
    → IsAudit source_before source_after sink_before sink_after s
    → HasCause sb sa kb ka s
    → (Rose sb sa → ⊥)
    → (Rose kb ka → ⊥)
    → Completes source_before sink_before sink_after s
complete source_before source_after sink_before sink_after sb sa kb ka s r cause no_source no_sink = λ all text trace short.
    let took = subst (λ (left : Option (List ℕ)). Takes left source_after (trace_text r.entries ++ r.taken)) text r.source in
    let bytes = took.1 ∙ append_assoc (trace_text r.entries) r.taken took.0 in
    let split = entries_behind 0 all r.entries (r.taken ++ took.0) trace.formed r.trace.formed bytes in
    let few = trace.few in
    told_whole all r.entries split.0 r.taken took.0 sink_before sink_after sb sa kb ka r.said s
    (record {
      parts = split.1;
      formed = subst (λ (n : ℕ). AreOfTrace n split.0) (let e : 0 + length r.entries ≡ length r.entries = omega arith in e) (of_trace-rest 0 r.entries split.0 (subst (AreOfTrace 0) split.1 trace.formed));
      short = short-rest r.entries split.0 (subst AreShort split.1 short);
      text = split.2;
      few = omega (arith, few, ap length bytes, length-append (trace_text r.entries) (r.taken ++ took.0), length-append r.taken took.0);
    })
    cause no_source no_sink
    (subst (λ (left : Option (List ℕ)). EndsWith r.entries r.taken left r.said) took.2 r.ending) r.told
