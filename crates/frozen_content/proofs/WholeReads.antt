-- What a read of a whole object shows stays true of the whole trace: the order of writes only grows, and calls do what they did.
use Rattle.std.proofs.Common.{◌≡◌, ℕ, suc, ◌*◌, List, [], ◌∷◌, ◌++◌, length, take, refl, ap, sym, ◌∙◌, subst, arith, append_assoc, Option, Some}
use Rattle.std.specs.Prelude.{slice_get}
use Rattle.std.specs.List.{filter_map}
use Rattle.std.proofs.Math.Seq.{take-append_seam}
use Rattle.xt_base.specs.declared.ids.OpId.{OpId}
use Rattle.xt_messages.specs.declared.file.Op.TheVariants as op
use Rattle.time_line.specs.declared.entry.Entry.{Entry}
use Rattle.time_line.specs.declared.entry.Entry.TheVariants as entry
use Rattle.time_line.specs.Content.{content_of, place_of, range_of}
use Rattle.time_line.specs.TimeLine.{operation_begun, stripe_of, write_order, content_at}
use Rattle.time_line.specs.Clauses.{IsBefore, IsShown, AreOnce, AnswersShow, EndsAreAnswered, ok_entry}
use Rattle.judging.proofs.Entries.{operation-same, order-front, order-length}
use Rattle.frozen_content.specs.Frozen.{frozen, ReadsWhole, ShowsFrozen}
use Rattle.frozen_content.proofs.Begun.{all_begun}

-- what two functions give of a list is the same where they agree on each item of it
same_map : {X Y : Type 0} (f g : X → Option Y) (xs : List X) → ((i : ℕ) (x : X) → slice_get xs i ≡ Some x → f x ≡ g x) → filter_map f xs ≡ filter_map g xs
same_map f g [] same = refl
same_map f g (x ∷ xs) same =
    let first : f x ≡ g x = same 0 x refl in
    let rest : filter_map f xs ≡ filter_map g xs = same_map f g xs (λ i y at. same (suc i) y at) in
    rw (first, rest) refl

module _ (file : ℕ) (es : List Entry) (answered : EndsAreAnswered file es) (once : AreOnce file es) (shows : AnswersShow file es) where
  -- where the read was answered, and what it showed there
  at_answer : (first rest : List Entry) (object count : ℕ) (bytes : List ℕ) → es ≡ first ++ rest
      → count ≡ length (write_order file first)
      → bytes ≡ range_of (content_at (stripe_of file es) file first) (place_of (stripe_of file es) object 0) (stripe_of file es)
      → ShowsFrozen file es object count bytes
  at_answer first rest object count bytes whole counted is =
      let front = order-front file first rest in
      let grown : write_order file es ≡ write_order file first ++ front.0 = ap (write_order file) whole ∙ front.1 in
      let taken : take count (write_order file es) ≡ write_order file first
      = rw (grown, counted) (take-append_seam (write_order file first) front.0) in
      let begun = all_begun file es once first rest whole in
      let same : filter_map (operation_begun file first) (write_order file first) ≡ filter_map (operation_begun file es) (write_order file first)
      = same_map (operation_begun file first) (operation_begun file es) (write_order file first)
      (λ i id at. sym (ap (λ xs. operation_begun file xs id) whole ∙ operation-same file first rest id (begun i id at))) in
      let content : content_at (stripe_of file es) file first ≡ frozen file es count
      = ap (content_of (stripe_of file es)) (same ∙ ap (filter_map (operation_begun file es)) (sym taken)) in
      let place : place_of (stripe_of file es) object 0 ≡ object * stripe_of file es = omega arith in
      record {
        there = omega (arith, counted, order-length file first rest, ap (λ xs. length (write_order file xs)) whole);
        bytes_are = is ∙ ap (λ c. range_of c (place_of (stripe_of file es) object 0) (stripe_of file es)) content
            ∙ ap (λ from. range_of (frozen file es count) from (stripe_of file es)) place;
      }

  pub shows_frozen : (before : List Entry) (object count : ℕ) (id : OpId) (bytes : List ℕ)
      → IsBefore before (ok_entry id count bytes) es → ReadsWhole file es id object → ShowsFrozen file es object count bytes
  shows_frozen before object count id bytes ends reads =
      let asked = op.Read object 0 (stripe_of file es) in
      let a = answered before id count bytes ends (asked, reads) in
      let first = a.0 in
      let behind = a.2.0 ++ ok_entry id count bytes ∷ ends.0 in
      let whole : es ≡ first ++ entry.Answer a.1 file id count bytes ∷ behind
      = ends.1 ∙ ap (λ xs. xs ++ ok_entry id count bytes ∷ ends.0) a.2.1
      ∙ append_assoc first (entry.Answer a.1 file id count bytes ∷ a.2.0) (ok_entry id count bytes ∷ ends.0) in
      let same : operation_begun file first id ≡ Some asked
      = sym (ap (λ xs. operation_begun file xs id) whole ∙ operation-same file first (entry.Answer a.1 file id count bytes ∷ behind) id a.3) ∙ reads in
      let shown : IsShown (stripe_of file es) file first id count bytes (Some asked)
      = subst (IsShown (stripe_of file es) file first id count bytes) same (shows first a.1 id count bytes (behind, whole)) in
      at_answer first (entry.Answer a.1 file id count bytes ∷ behind) object count bytes whole shown.0 shown.1
