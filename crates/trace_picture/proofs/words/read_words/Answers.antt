use Rattle.std.proofs.Common.{◌∙◌, ap, sym, List, [], ◌∷◌, ℕ, codes}
use Rattle.std.proofs.lemmas.Slice.Eq.{slice_eq-Decides}
use Rattle.std.proofs.lemmas.Bool.Decides.{Decides-eqb}
use Rattle.trace_picture.proofs.Numbers.{pair}
use Rattle.trace_picture.proofs.words.read_words.Goals as goal

pub returns-in-Some-clause-found : goal.returns-in-Some-clause-found
returns-in-Some-clause-found c =
    let both = pair c.args.words.now c.option-item.result c.number-item.result c.in-len2.len_at_least c.in-len2.len_below c.option-item.is c.number-item.is in
    let spelled = (slice_eq-Decides Decides-eqb c.as_bytes.result.now c.as_slice.result.now c.eq.result c.eq.ensures).0 c.if-eq.true in
    let option = sym c.as_str.ensures ∙ sym c.as_bytes.ensures.value ∙ spelled ∙ c.as_slice.ensures in
    let number = sym c.as_str-in-len2.ensures ∙ c.in-Some.ensures.found in
    both ∙ ap (λ (word : List ℕ). word ∷ c.number-item.result ∷ []) option ∙ ap (λ (word : List ℕ). codes "--file" ∷ word ∷ []) number
