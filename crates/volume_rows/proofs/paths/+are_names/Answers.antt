use Rattle.std.proofs.Common.{◌∙◌, map, ap, sym, List, ℕ, Bor}
use Rattle.std.specs.List.{list_all}
use Rattle.volume_rows.specs.Paths.{is_name}
use Rattle.volume_rows.proofs.Parsing.{all_named, one_unnamed}
use Rattle.volume_rows.proofs.Parsing.{no_names}
use Rattle.volume_rows.proofs.paths.+are_names.Goals as goal

pub returns-in_default : goal.returns-in_default
returns-in_default t c = ap (list_all is_name) (sym (no_names c.args.parts.now c.in_default.ensures.cases))

pub returns-then-is_name : goal.returns-then-is_name
returns-then-is_name t c =
    all_named _ c.in-Some.first.now.now (map (λ part. part.now) c.in-Some.rest.now) c.are_names.result (ap (map (λ (part : Bor (List ℕ)). part.now)) c.in-Some.ensures.cases.0) (sym c.is_name.ensures ∙ c.if-is_name.true) c.are_names.ensures

pub returns-else-is_name : goal.returns-else-is_name
returns-else-is_name t c =
    one_unnamed _ c.in-Some.first.now.now (map (λ part. part.now) c.in-Some.rest.now) (ap (map (λ (part : Bor (List ℕ)). part.now)) c.in-Some.ensures.cases.0) (sym c.is_name.ensures ∙ c.if-is_name.false)
