-- one packed message more is sent
use Rattle.std.proofs.Common.{ℕ, ◌≡◌, ◌<◌, ◌+◌, sym, ap, subst, ◌∙◌, List, [], ◌∷◌, ◌++◌, length, take, suc, arith, get_or}
use Rattle.std.proofs.Math.Seq.{take-suc}
use Rattle.std.proofs.lemmas.List.{append-nil}
use Rattle.std.proofs.lemmas.Grind.{flat_map-append}
use Rattle.node_mail.specs.declared.packed.Post.{Post}
use Rattle.node_mail.specs.Posts.{datagrams_of, datagrams_of_all}

pub datagrams_more : (posts : List Post) (i : ℕ) (post : Post) → i < length posts → post ≡ get_or posts i post
    → datagrams_of_all (take (i + 1) posts) ≡ datagrams_of_all (take i posts) ++ datagrams_of post
datagrams_more posts i post inside is =
    let next : suc i ≡ i + 1 = omega arith in
    let longer : take (i + 1) posts ≡ take i posts ++ post ∷ [] =
    subst (λ n. take n posts ≡ take i posts ++ post ∷ []) next
    (take-suc posts i post inside ∙ ap (λ x. take i posts ++ x ∷ []) (sym is)) in
    ap datagrams_of_all longer ∙ flat_map-append datagrams_of (take i posts) (post ∷ [])
    ∙ ap (λ ds. datagrams_of_all (take i posts) ++ ds) (append-nil (datagrams_of post))
