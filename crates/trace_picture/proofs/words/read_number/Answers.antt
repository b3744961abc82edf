use Rattle.std.proofs.Common.{◌≡◌, ◌∙◌, ap, sym}
use Rattle.std.specs.Fmt.{decimal}
use Rattle.std.proofs.lemmas.Slice.Eq.{slice_eq-Decides}
use Rattle.std.proofs.lemmas.Bool.Decides.{Decides-eqb}
use Rattle.trace_picture.proofs.Numbers.{read_back}
use Rattle.trace_picture.proofs.words.read_number.Goals as goal

pub returns-in_default-clause-only : goal.returns-in_default-clause-only
returns-in_default-clause-only c n fits is = let same = read_back n c.args.text.now c.parse.result fits is c.parse.ensures.value.0 in cc

pub returns-then-eq-clause-only : goal.returns-then-eq-clause-only
returns-then-eq-clause-only c n fits is = let same = read_back n c.args.text.now c.parse.result fits is c.parse.ensures.value.0 in cc

pub returns-else-eq-clause-only : goal.returns-else-eq-clause-only
returns-else-eq-clause-only c n fits is =
    let same = read_back n c.args.text.now c.parse.result fits is c.parse.ensures.value.0 in
    let number : c.in-Ok.number ≡ n = cc in
    let spelled = c.as_bytes.ensures.value ∙ c.format.ensures.text ∙ ap decimal number ∙ sym is ∙ sym c.as_bytes-2.ensures.value in
    let yes = (slice_eq-Decides Decides-eqb c.as_bytes.result.now c.as_bytes-2.result.now c.eq.result c.eq.ensures).1 spelled in
    cc
