use Rattle.std.proofs.Common.{◌≡◌, ◌⊎◌, inl, inr, ⊎_elim, Bool, true, false, is_err, List, [], ◌∷◌, ◌++◌, ℕ, sym, ◌∙◌, ap, subst}
use Rattle.std.proofs.lemmas.Bool.{cases_Bool}
use Rattle.disk_model.specs.Disk.{Kept, IsImage, LeavesOnly, at_rest, after_write, range_of}
use Rattle.disk_model.proofs.Images.{rest_stays, same_images, unbegun}
use Rattle.disk_model.proofs.Moments.{elapsed, joined}
use Rattle.journal_records.specs.Calls.{MayBeTorn}
use Rattle.journal_records.proofs.calls.write_synced.Goals as goal

pub returns-clause-any_moment : goal.returns-clause-any_moment
returns-clause-any_moment g c told rest =
    let D = g.D.Disk in
    let old = c.args.disk.now in
    let mid = c.write.new.self in
    let new = c.sync.new.self in
    let bytes = (D.kept old).read in
    let P : List ℕ → Type 0 = MayBeTorn c.args.at c.args.piece.now bytes in
    let writes = c.write.ensures.writes told in
    let torn : (image : List ℕ) → IsImage (D.kept mid) image → P image =
    λ image is. same_images (D.kept mid) (after_write c.args.at c.args.piece.now (at_rest bytes)) image
    (writes.synced ∙ ap (λ (k : Kept). k.synced) rest) (writes.written ∙ ap (λ (k : Kept). k.written ++ range_of c.args.at c.args.piece.now ∷ []) rest) is in
    let first : LeavesOnly D.moment D.left_since old mid P =
    elapsed D.moment D.left_since old mid (D.kept mid) P
    (λ image left. unbegun c.args.at c.args.piece.now bytes image (subst (λ (k : Kept). IsImage k image) rest (g.met.D.Disk.only_now old image told left)))
    (c.write.ensures.time told) torn in
    let synced : (image : List ℕ) → IsImage (D.kept new) image → P image =
    λ image is. ⊎_elim
    (λ failed. torn image (subst (λ (k : Kept). IsImage k image) ((c.sync.ensures.syncs told).undone failed) is))
    (λ succeeded.
    let stays = rest_stays (D.kept mid).read image (subst (λ (k : Kept). IsImage k image) ((c.sync.ensures.syncs told).done succeeded) is) in
    torn image (subst (IsImage (D.kept mid)) (sym stays) (g.met.D.Disk.read_is_image mid told)))
    (cases_Bool (is_err c.sync.result)) in
    let second : LeavesOnly D.moment D.left_since mid new P =
    elapsed D.moment D.left_since mid new (D.kept new) P (λ image left. torn image (g.met.D.Disk.only_now mid image told left)) (c.sync.ensures.time told) synced in
    joined D.moment D.left_since old mid new P P P first second (λ image p. p) (λ image p. p)
