use Rattle.std.proofs.Common.{◌≡◌, ◌++◌, List, [], ◌∷◌, subst, codes, OnOk}
use Rattle.trace_shapes.specs.Elements.{Named, named, front}
use Rattle.trace_shapes.specs.Pictures.{head_attributes}
use Rattle.trace_shapes.proofs.svg.push_marker.Goals as goal

pub returns : goal.returns
returns c =
    let same : named c.word.result ∷ named c.word-2.result ∷ named c.word-3.result ∷ named c.word-4.result ∷ named c.word-5.result ∷ named c.word-6.result ∷ named c.word-7.result ∷ named c.word-8.result ∷ [] ≡ head_attributes c.args.name.now c.args.size.now = cc in
    subst
    (λ (attributes : List Named).
    OnOk c.push_start.result
    (c.push_start.new.out.items ≡ c.args.out.now.items ++ (front (codes "marker") attributes ++ codes ">")))
    same c.push_start.ensures
