-- bodies of records of which the last wait in memory
use Rattle.std.proofs.Common.{◌≡◌, Option, Some, None, List, [], ◌∷◌, ◌++◌, ℕ, refl, sym, ◌∙◌, ap}
use Rattle.std.specs.List.{fold}
use Rattle.std.proofs.lemmas.List.Sums.{fold-append}
use Rattle.xt_base.specs.declared.ids.FileId.{FileId}
use Rattle.xt_base.specs.declared.ids.Stamp.{Stamp}
use Rattle.xt_messages.specs.declared.record.Record.{Record}
use Rattle.xt_protocol.specs.Folds.{body_after, body_kept, body_put, newer}

newer_assoc : (before put next : Option (List ℕ)) → newer (newer before put) next ≡ newer before (newer (newer None put) next)
newer_assoc before None None = refl
newer_assoc before (Some b) None = refl
newer_assoc before put (Some b) = refl

module _ (file : FileId) (object : ℕ) (version : Stamp) where
  -- what is kept already, where these keep none
  newer_kept : (before : Option (List ℕ)) (recs : List Record)
      → fold (body_after file object version) before recs ≡ newer before (fold (body_after file object version) None recs)
  newer_kept before [] = refl
  newer_kept before (r ∷ recs) =
      let put = body_put file object version r in
      let rest = fold (body_after file object version) None recs in
      newer_kept (newer before put) recs ∙ newer_assoc before put rest ∙ ap (newer before) (sym (newer_kept (newer None put) recs))

  kept_last : (lower recs : List Record) → body_kept (lower ++ recs) file object version ≡ newer (body_kept lower file object version) (body_kept recs file object version)
  unfolding body_kept
  kept_last lower recs =
      fold-append (body_after file object version) None lower recs ∙ newer_kept (fold (body_after file object version) None lower) recs

  module _ (lower recs records : List Record) (are : records ≡ lower ++ recs) where
    both : body_kept records file object version ≡ newer (body_kept lower file object version) (body_kept recs file object version)
    both = ap (λ (rs : List Record). body_kept rs file object version) are ∙ kept_last lower recs

    pub kept_here : (bytes : List ℕ) → body_kept recs file object version ≡ Some bytes → body_kept records file object version ≡ Some bytes
    kept_here bytes is = both ∙ ap (newer (body_kept lower file object version)) is

    pub kept_below : body_kept recs file object version ≡ None → body_kept records file object version ≡ body_kept lower file object version
    kept_below none = both ∙ ap (newer (body_kept lower file object version)) none

    -- a body that was put is kept
    pub kept_some : (bytes : List ℕ) → Some bytes ≡ body_kept recs file object version → body_kept records file object version ≡ None → ⊥
    kept_some bytes is none = let there = kept_here bytes (sym is) in cc
