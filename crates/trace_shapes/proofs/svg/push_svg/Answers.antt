use Rattle.std.proofs.Common.{◌≡◌, ◌++◌, List, [], ◌∷◌, subst, codes, OnOk}
use Rattle.trace_shapes.specs.Elements.{Named, named, front}
use Rattle.trace_shapes.specs.Pictures.{picture_attributes}
use Rattle.trace_shapes.proofs.svg.push_svg.Goals as goal

pub returns : goal.returns
returns c =
    let same : named c.word.result ∷ named c.number.result ∷ named c.number-2.result ∷ named c.area.result ∷ named c.word-2.result ∷ []
    ≡ picture_attributes c.args.size = cc in
    subst
    (λ (attributes : List Named).
    OnOk c.push_start.result
    (c.push_start.new.out.items ≡ c.args.out.now.items ++ (front (codes "svg") attributes ++ codes ">")))
    same c.push_start.ensures
