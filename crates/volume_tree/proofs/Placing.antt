-- what tests that pass say of a path
use Rattle.std.proofs.Common.{◌≡◌, ℕ, ◌<◌, List, [], ◌∷◌, ◌++◌, map, length, refl, sym, subst, arith, Bool, true, false, append-nil, append_assoc, Bor}
use Rattle.std.specs.Prelude.{Option, Some, None}
use Rattle.xt_messages.specs.declared.meta.MetaRefusal.{MetaRefusal}
use Rattle.xt_messages.specs.declared.meta.MetaRefusal.TheVariants as refusal
use Rattle.volume_rows.specs.declared.Asker.{Asker}
use Rattle.volume_rows.specs.declared.Entry.{Entry}
use Rattle.volume_rows.specs.Paths.{Name, Path, parent_of}
use Rattle.volume_rows.specs.Rows.{Row, entry_at}
use Rattle.volume_rows.specs.Rights.{first_of, unless, passes, allows, searching, rule_of_search, ancestors, ancestors_from, is_directory}
use Rattle.name_tree.specs.Trees.{IsDirectory}

-- where the first of some tests passes, so do all others that are tested
pub first_none : (test : Option MetaRefusal) (tests : List (Option MetaRefusal)) → first_of (test ∷ tests) ≡ None → (test ≡ None) × (first_of tests ≡ None)
first_none None tests none = (refl, none)
first_none (Some why) tests none = absurd (cc)

-- an ancestor that passes is a directory
passes_directory : (who : Asker) (entry : Option Entry) → passes who entry ≡ None → IsDirectory entry
passes_directory who None none = absurd (cc)
passes_directory who (Some entry) none = go (is_directory entry.content) (first_none (unless (is_directory entry.content) refusal.NotDir) (unless (allows who searching entry) rule_of_search ∷ []) none).0 where
  go : (b : Bool) → unless b refusal.NotDir ≡ None → b ≡ true
  go true h = refl
  go false h = absurd (cc)

walk : (who : Asker) (rows : List Row) (above : Path) (name : Name) (names : Path) → ancestors_from who rows above (name ∷ names) ≡ None → IsDirectory (entry_at rows above) → IsDirectory (entry_at rows (above ++ parent_of (name ∷ names)))
walk who rows above name [] none there = subst (λ (p : Path). IsDirectory (entry_at rows p)) (sym (append-nil above)) there
walk who rows above name (next ∷ names) none there =
    let tests = first_none (passes who (entry_at rows (above ++ name ∷ []))) (ancestors_from who rows (above ++ name ∷ []) (next ∷ names) ∷ []) none in
    let later = first_none (ancestors_from who rows (above ++ name ∷ []) (next ∷ names)) [] tests.1 in
    let here = passes_directory who (entry_at rows (above ++ name ∷ [])) tests.0 in
    subst (λ (p : Path). IsDirectory (entry_at rows p)) (append_assoc above (name ∷ []) (parent_of (next ∷ names))) (walk who rows (above ++ name ∷ []) next names later.0 here)

-- a path whose ancestors pass is in a directory
pub place_of : (who : Asker) (rows : List Row) (names : List (Bor (List ℕ))) → ancestors who rows (map (λ name. name.now) names) ≡ None → 0 < length names → IsDirectory (entry_at rows (parent_of (map (λ name. name.now) names)))
place_of who rows [] none some = absurd (omega arith)
place_of who rows (name ∷ names) none some = walk who rows [] name.now (map (λ name. name.now) names) none refl

-- the same where more tests follow
pub place_tested : (who : Asker) (rows : List Row) (names : List (Bor (List ℕ))) (tests : List (Option MetaRefusal)) → first_of (ancestors who rows (map (λ name. name.now) names) ∷ tests) ≡ None → 0 < length names → IsDirectory (entry_at rows (parent_of (map (λ name. name.now) names)))
place_tested who rows names tests none some = place_of who rows names (first_none (ancestors who rows (map (λ name. name.now) names)) tests none).0 some
