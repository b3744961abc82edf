use Rattle.std.proofs.Common.{◌≡◌, ◌+◌, ◌<◌, ◌≤◌, ◌++◌, ◌∷◌, [], length, drop, ℕ, List, sym, ◌∙◌, ap, subst, arith, vec_len, vec_capacity, length-append}
use Rattle.std.proofs.lemmas.Bool.{cond-true}
use Rattle.std.proofs.lemmas.List.{drop-append-le}
use Rattle.disk_model.specs.declared.note.Note.TheVariants.{Wrote}
use Rattle.disk_model.specs.Disk.{Kept, Range, Elapses, at_rest, after_write, range_of}
use Rattle.xt_base.specs.Overlay.{overlay}
use Rattle.disk_model.specs.Held.{Held}
use Rattle.disk_model.specs.Changes.{Change, Write, Memory, kept_after, memory_kept, MightHaveLeft}
use Rattle.disk_model.specs.Notes.{changes_of, pieces_length, ranges_of}
use Rattle.disk_model.specs.Memory.{seen}
use Rattle.disk_model.proofs.Record.{kept_after-append, changes_of-write, pieces_length-append, ranges_of-append, elapses}
use Rattle.disk_model.proofs.memory.MemoryDiskDisk.write.Goals as goal

room_left : (c : goal.After-change) → length c.args.piece.now + 64 ≤ c.self.inside.room
room_left c = omega (arith, c.requires.noted, ap (λ (m : Memory). m.room) c.self.view_is)

notes : (c : goal.After-change) → c.push.new.self.items ≡ c.self.inside.notes.items ++ Wrote c.args.at (length c.args.piece.now) ∷ []
notes c =
    let room : vec_len c.self.inside.notes < vec_capacity c.self.inside.notes = omega (arith, room_left c, c.self.invariant.note_room) in
    c.push.ensures.items ∙ cond-true _ _ _ (c.push.ensures.succeeds room)

pieces : (c : goal.After-change) → c.extend_from_slice.new.self.items ≡ c.self.inside.pieces.items ++ c.args.piece.now
pieces c =
    let room : vec_len c.self.inside.pieces + length c.args.piece.now ≤ vec_capacity c.self.inside.pieces = omega (arith, room_left c, c.self.invariant.piece_room) in
    c.extend_from_slice.ensures.items ∙ cond-true _ _ _ (c.extend_from_slice.ensures.succeeds room)

notes_count : (c : goal.After-change) → vec_len c.push.new.self ≡ vec_len c.self.inside.notes + 1
notes_count c =
    let room : vec_len c.self.inside.notes < vec_capacity c.self.inside.notes = omega (arith, room_left c, c.self.invariant.note_room) in
    c.push.ensures.len ∙ cond-true _ _ _ (c.push.ensures.succeeds room)

pieces_count : (c : goal.After-change) → vec_len c.extend_from_slice.new.self ≡ vec_len c.self.inside.pieces + length c.args.piece.now
pieces_count c =
    let room : vec_len c.self.inside.pieces + length c.args.piece.now ≤ vec_capacity c.self.inside.pieces = omega (arith, room_left c, c.self.invariant.piece_room) in
    c.extend_from_slice.ensures.len ∙ cond-true _ _ _ (c.extend_from_slice.ensures.succeeds room)

changes : (c : goal.After-change) → changes_of c.push.new.self.items c.extend_from_slice.new.self.items ≡ changes_of c.self.inside.notes.items c.self.inside.pieces.items ++ Write c.args.at c.args.piece.now ∷ []
changes c =
    ap (λ ns. changes_of ns c.extend_from_slice.new.self.items) (notes c)
    ∙ ap (λ (ps : List ℕ). changes_of (c.self.inside.notes.items ++ Wrote c.args.at (length c.args.piece.now) ∷ []) ps) (pieces c)
    ∙ changes_of-write c.self.inside.notes.items c.self.inside.pieces.items c.args.piece.now c.args.at c.self.invariant.pieces

first : (c : goal.After-change) → c.write.new.self.first ≡ c.self.inside.contents.first
first c = ap (λ (h : Held). h.first) c.write.ensures

kept : (c : goal.After-change) → kept_after (changes_of c.push.new.self.items c.extend_from_slice.new.self.items) (at_rest c.write.new.self.first) ≡ after_write c.args.at c.args.piece.now (memory_kept (seen c.self.inside))
kept c =
    ap (λ (bytes : List ℕ). kept_after (changes_of c.push.new.self.items c.extend_from_slice.new.self.items) (at_rest bytes)) (first c)
    ∙ ap (λ (cs : List Change). kept_after cs (at_rest c.self.inside.contents.first)) (changes c)
    ∙ kept_after-append (changes_of c.self.inside.notes.items c.self.inside.pieces.items) (Write c.args.at c.args.piece.now ∷ []) (at_rest c.self.inside.contents.first)

pub invariant_of-self : goal.invariant_of-self
invariant_of-self c =
    let old = c.self.invariant in
    let size = length-append c.self.inside.notes.items (Wrote c.args.at (length c.args.piece.now) ∷ []) in
    record {
      pieces = omega (
        arith,
        old.pieces,
        ap length (pieces c),
        length-append c.self.inside.pieces.items c.args.piece.now,
        ap pieces_length (notes c),
        pieces_length-append c.self.inside.notes.items (Wrote c.args.at (length c.args.piece.now)),
      );
      read =
          ap (λ (h : Held). h.read) c.write.ensures
          ∙ ap (λ (bytes : List ℕ). overlay bytes c.args.at c.args.piece.now) old.read
          ∙ sym (ap (λ (k : Kept). k.read) (kept c));
      synced_notes = omega (arith, old.synced_notes, ap length (notes c), size);
      written =
          ap (λ (k : Kept). k.written) (kept c)
          ∙ ap (λ (rs : List Range). rs ++ range_of c.args.at c.args.piece.now ∷ []) old.written
          ∙ sym (ranges_of-append (drop c.self.inside.synced_notes c.self.inside.notes.items) c.args.at (length c.args.piece.now))
          ∙ ap ranges_of (sym (drop-append-le c.self.inside.synced_notes c.self.inside.notes.items (Wrote c.args.at (length c.args.piece.now) ∷ []) old.synced_notes))
          ∙ ap (λ ns. ranges_of (drop c.self.inside.synced_notes ns)) (sym (notes c));
      synced_length = old.synced_length ∙ ap (λ (k : Kept). length k.synced) (sym (kept c));
      piece_room = omega (arith, room_left c, old.piece_room, c.extend_from_slice.ensures.capacity, pieces_count c);
      note_room = omega (arith, room_left c, old.note_room, c.push.ensures.capacity, notes_count c);
    }

pub returns-clause-writes : goal.returns-clause-writes
returns-clause-writes c told =
    let same : memory_kept (seen c.self.inside) ≡ memory_kept c.args.self.now = ap memory_kept c.self.view_is in
    let is = kept c ∙ ap (λ (k : Kept). after_write c.args.at c.args.piece.now k) same in
    record { done = λ ok. is; synced = ap (λ (k : Kept). k.synced) is; written = ap (λ (k : Kept). k.written) is }

pub returns-clause-time : goal.returns-clause-time
returns-clause-time c told =
    let later = changes_of c.push.new.self.items c.extend_from_slice.new.self.items in
    let step = elapses c.self.inside.contents.first (changes_of c.self.inside.notes.items c.self.inside.pieces.items) later (Write c.args.at c.args.piece.now) (changes c) in
    let same = subst
    (λ (bytes : List ℕ). Elapses (length (seen c.self.inside).changes) (length later) (MightHaveLeft (seen c.self.inside).first (seen c.self.inside).changes) (MightHaveLeft bytes later) (kept_after later (at_rest bytes)))
    (sym (first c))
    step in
    subst
    (λ (m : Memory). Elapses (length m.changes) (length later) (MightHaveLeft m.first m.changes) (MightHaveLeft c.write.new.self.first later) (kept_after later (at_rest c.write.new.self.first)))
    c.self.view_is
    same
