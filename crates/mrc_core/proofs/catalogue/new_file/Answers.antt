use Rattle.std.proofs.Common.{◌≡◌, ◌∙◌, map, ap, sym, List, ℕ, Bor}
use Rattle.std.specs.Prelude.{Option, Some}
use Rattle.volume_rows.specs.Paths.{Path, path_in}
use Rattle.server_rows.specs.Requests.{new_file}
use Rattle.mrc_core.proofs.catalogue.new_file.Goals as goal

pub returns : goal.returns
returns c =
    let whole : Some (map (λ (name : Bor (List ℕ)). name.now) c.in-Some.names.items) ≡ path_in c.args.path.now =
    rw c.in-Some.is at c.in_ok-names.ensures ∙ ap path_in c.as_str.ensures in
    ap (λ (volume : List ℕ). Some (record { volume = volume; number = c.args.number })) c.volume_id-volume.ensures
    ∙ ap (λ (path : Option Path). new_file path c.args.number)
    (ap (λ (names : List (Bor (List ℕ))). Some (map (λ (name : Bor (List ℕ)). name.now) names)) (sym (sym c.deref.ensures.value ∙ c.in-Some-split_first.ensures.cases.0)) ∙ whole)
