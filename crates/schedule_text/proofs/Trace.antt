-- Entries, one after the other.
use Rattle.std.proofs.Common.{◌≡◌, ℕ, ◌+◌, ◌<◌, List, [], ◌∷◌, ◌++◌, length, take, get_or, refl, ap, ◌∙◌, append-nil, sym}
use Rattle.std.proofs.lemmas.Grind.{flat_map-append}
use Rattle.std.proofs.lemmas.List.{take_more}
use Rattle.time_line.specs.declared.entry.Entry.{Entry}
use Rattle.schedule_text.specs.EntryText.{entry_text, trace_text}

-- the line of one entry more
pub entry_step : (out : List ℕ) (entries : List Entry) (i : ℕ) (d : Entry) → i < length entries → out ≡ trace_text (take i entries) → out ++ (entry_text (get_or entries i d) ++ 10 ∷ []) ≡ trace_text (take (i + 1) entries)
unfolding trace_text
entry_step out entries i d within e =
    let last : List ℕ = entry_text (get_or entries i d) ++ 10 ∷ [] in
    ap (λ (xs : List ℕ). xs ++ last) e
    ∙ sym (
    ap trace_text (take_more entries i d within)
    ∙ flat_map-append (λ (x : Entry). entry_text x ++ 10 ∷ []) (take i entries) (get_or entries i d ∷ [])
    ∙ ap (λ (xs : List ℕ). trace_text (take i entries) ++ xs) (append-nil last))

pub no_entries : trace_text [] ≡ []
unfolding trace_text
no_entries = refl
