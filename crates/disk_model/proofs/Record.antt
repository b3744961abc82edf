-- One more line in the record of calls.
use Rattle.std.proofs.Common.{◌≡◌, ◌⊎◌, inl, inr, ℕ, ◌+◌, ◌≤◌, ◌<◌, List, [], ◌∷◌, ◌++◌, length, take, drop, refl, sym, ◌∙◌, ap, subst, arith, length-append}
use Rattle.std.proofs.lemmas.Bool.{cases_lt}
use Rattle.std.proofs.lemmas.List.{take_all, take-append-le, drop-append-le, length-drop}
use Rattle.disk_model.specs.declared.note.Note.{Note}
use Rattle.disk_model.specs.declared.note.Note.TheVariants.{Wrote, Synced}
use Rattle.disk_model.specs.Disk.{Kept, IsImage, Elapses, at_rest, after_write, after_sync}
use Rattle.disk_model.specs.Changes.{Change, Write, Sync, kept_after, MightHaveLeft}
use Rattle.disk_model.specs.Notes.{changes_of, pieces_length, piece_length, ranges_of}

pub kept_after-append : (first last : List Change) (kept : Kept) → kept_after (first ++ last) kept ≡ kept_after last (kept_after first kept)
kept_after-append [] last kept = refl
kept_after-append (Write place piece ∷ first) last kept = kept_after-append first last (after_write place piece kept)
kept_after-append (Sync ∷ first) last kept = kept_after-append first last (after_sync kept)

none_left : (pieces : List ℕ) → 0 ≡ length pieces → pieces ≡ []
none_left [] is = refl
none_left (b ∷ pieces) is = absurd (omega arith)

pub changes_of-write : (notes : List Note) (pieces piece : List ℕ) (place : ℕ) → pieces_length notes ≡ length pieces
    → changes_of (notes ++ Wrote place (length piece) ∷ []) (pieces ++ piece) ≡ changes_of notes pieces ++ Write place piece ∷ []
changes_of-write [] pieces piece place are =
    ap (λ (ps : List ℕ). Write place (take (length piece) (ps ++ piece)) ∷ []) (none_left pieces are)
    ∙ ap (λ (p : List ℕ). Write place p ∷ []) (take_all (length piece) piece (omega arith))
changes_of-write (Wrote at len ∷ notes) pieces piece place are =
    let fits : len ≤ length pieces = omega (arith, are) in
    let rest : pieces_length notes ≡ length (drop len pieces) = omega (arith, are, length-drop len pieces) in
    ap (λ (p : List ℕ). Write at p ∷ changes_of (notes ++ Wrote place (length piece) ∷ []) (drop len (pieces ++ piece))) (take-append-le len pieces piece fits)
    ∙ ap (λ (ps : List ℕ). Write at (take len pieces) ∷ changes_of (notes ++ Wrote place (length piece) ∷ []) ps) (drop-append-le len pieces piece fits)
    ∙ ap (λ (cs : List Change). Write at (take len pieces) ∷ cs) (changes_of-write notes (drop len pieces) piece place rest)
changes_of-write (Synced ∷ notes) pieces piece place are = ap (λ (cs : List Change). Sync ∷ cs) (changes_of-write notes pieces piece place (omega (arith, are)))

pub changes_of-sync : (notes : List Note) (pieces : List ℕ) → changes_of (notes ++ Synced ∷ []) pieces ≡ changes_of notes pieces ++ Sync ∷ []
changes_of-sync [] pieces = refl
changes_of-sync (Wrote at len ∷ notes) pieces = ap (λ (cs : List Change). Write at (take len pieces) ∷ cs) (changes_of-sync notes (drop len pieces))
changes_of-sync (Synced ∷ notes) pieces = ap (λ (cs : List Change). Sync ∷ cs) (changes_of-sync notes pieces)

pub pieces_length-append : (notes : List Note) (note : Note) → pieces_length (notes ++ note ∷ []) ≡ pieces_length notes + piece_length note
pieces_length-append [] note = omega arith
pieces_length-append (n ∷ notes) note = omega (arith, pieces_length-append notes note)

pub ranges_of-append : (notes : List Note) (place len : ℕ) → ranges_of (notes ++ Wrote place len ∷ []) ≡ ranges_of notes ++ record { start = place; end = place + len } ∷ []
ranges_of-append [] place len = refl
ranges_of-append (Wrote at n ∷ notes) place len = ap (λ rs. record { start = at; end = at + n } ∷ rs) (ranges_of-append notes place len)
ranges_of-append (Synced ∷ notes) place len = ranges_of-append notes place len

-- one moment more
pub elapses : (first : List ℕ) (changes later : List Change) (change : Change) → later ≡ changes ++ change ∷ []
    → Elapses (length changes) (length later) (MightHaveLeft first changes) (MightHaveLeft first later) (kept_after later (at_rest first))
elapses first changes later change is = record {
  later = omega (arith, size);
  nothing_else = λ t image le left. was t image le left (cases_lt (length changes) left.moment);
  keeps = λ t image le left. record {
    moment = left.moment;
    since = left.since;
    until = omega (arith, left.until, size);
    is_image = subst (λ (cs : List Change). IsImage (kept_after cs (at_rest first)) image) (sym (front left.moment left.until)) left.is_image;
  };
}
  where
    size : length later ≡ length changes + 1
    size = omega (arith, ap length is, length-append changes (change ∷ []))

    front : (k : ℕ) → k ≤ length changes → take k later ≡ take k changes
    front k le = ap (λ (cs : List Change). take k cs) is ∙ take-append-le k changes (change ∷ []) le

    was : (t : ℕ) (image : List ℕ) → t ≤ length changes → (left : MightHaveLeft first later t image) → (length changes < left.moment) ⊎ (left.moment ≤ length changes)
        → MightHaveLeft first changes t image ⊎ IsImage (kept_after later (at_rest first)) image
    was t image le left (inl now) =
        inr (subst (λ (cs : List Change). IsImage (kept_after cs (at_rest first)) image) (take_all left.moment later (omega (arith, size))) left.is_image)
    was t image le left (inr before) = inl (record {
      moment = left.moment;
      since = left.since;
      until = before;
      is_image = subst (λ (cs : List Change). IsImage (kept_after cs (at_rest first)) image) (front left.moment before) left.is_image;
    })
