use Rattle.std.proofs.Common.{◌≡◌, ◌+◌, ◌<◌, ◌≤◌, ◌++◌, ◌∷◌, [], length, List, sym, ◌∙◌, ap, subst, arith, vec_len, vec_capacity}
use Rattle.std.proofs.lemmas.Bool.{cond-true}
use Rattle.std.proofs.lemmas.List.{drop_all}
use Rattle.disk_model.specs.declared.note.Note.TheVariants.{Synced}
use Rattle.disk_model.specs.Disk.{Kept, Elapses, at_rest, after_sync}
use Rattle.disk_model.specs.Changes.{Change, Sync, Memory, kept_after, memory_kept, MightHaveLeft}
use Rattle.disk_model.specs.Notes.{changes_of, pieces_length, ranges_of}
use Rattle.disk_model.specs.Memory.{seen}
use Rattle.disk_model.proofs.Record.{kept_after-append, changes_of-sync, pieces_length-append, elapses}
use Rattle.disk_model.proofs.memory.MemoryDiskDisk.sync.Goals as goal

room_left : (c : goal.After-self-3-1) → 64 ≤ c.self.inside.room
room_left c = omega (arith, c.requires, ap (λ (m : Memory). m.room) c.self.view_is)

notes : (c : goal.After-self-3-1) → c.push.new.self.items ≡ c.self.inside.notes.items ++ Synced ∷ []
notes c =
    let room : vec_len c.self.inside.notes < vec_capacity c.self.inside.notes = omega (arith, room_left c, c.self.invariant.note_room) in
    c.push.ensures.items ∙ cond-true _ _ _ (c.push.ensures.succeeds room)

notes_count : (c : goal.After-self-3-1) → vec_len c.push.new.self ≡ vec_len c.self.inside.notes + 1
notes_count c =
    let room : vec_len c.self.inside.notes < vec_capacity c.self.inside.notes = omega (arith, room_left c, c.self.invariant.note_room) in
    c.push.ensures.len ∙ cond-true _ _ _ (c.push.ensures.succeeds room)

changes : (c : goal.After-self-3-1) → changes_of c.push.new.self.items c.self.inside.pieces.items ≡ changes_of c.self.inside.notes.items c.self.inside.pieces.items ++ Sync ∷ []
changes c =
    ap (λ ns. changes_of ns c.self.inside.pieces.items) (notes c) ∙ changes_of-sync c.self.inside.notes.items c.self.inside.pieces.items

kept : (c : goal.After-self-3-1) → kept_after (changes_of c.push.new.self.items c.self.inside.pieces.items) (at_rest c.self.inside.contents.first) ≡ after_sync (memory_kept (seen c.self.inside))
kept c =
    ap (λ (cs : List Change). kept_after cs (at_rest c.self.inside.contents.first)) (changes c)
    ∙ kept_after-append (changes_of c.self.inside.notes.items c.self.inside.pieces.items) (Sync ∷ []) (at_rest c.self.inside.contents.first)

pub invariant_of-self-2 : goal.invariant_of-self-2
invariant_of-self-2 c =
    let old = c.self.invariant in
    let all : length c.push.new.self.items ≡ vec_len c.push.new.self = sym c.push.new.self.ok.0 in
    record {
      pieces = omega (arith, old.pieces, ap pieces_length (notes c), pieces_length-append c.self.inside.notes.items Synced);
      read = old.read ∙ ap (λ (k : Kept). k.read) (sym (kept c));
      synced_notes = omega (arith, c.len-self-inside.ensures, all);
      written =
          ap (λ (k : Kept). k.written) (kept c)
          ∙ ap ranges_of (sym (drop_all c.len-self-inside.result c.push.new.self.items (omega (arith, c.len-self-inside.ensures, all))));
      synced_length = ap length c.read.ensures ∙ ap length old.read ∙ ap (λ (k : Kept). length k.synced) (sym (kept c));
      piece_room = omega (arith, old.piece_room);
      note_room = omega (arith, room_left c, old.note_room, c.push.ensures.capacity, notes_count c);
    }

pub returns-clause-syncs : goal.returns-clause-syncs
returns-clause-syncs c told =
    let same : memory_kept (seen c.self.inside) ≡ memory_kept c.args.self.now = ap memory_kept c.self.view_is in
    record { done = λ ok. kept c ∙ ap after_sync same; undone = λ failed. absurd (cc failed) }

pub returns-clause-time : goal.returns-clause-time
returns-clause-time c told =
    let later = changes_of c.push.new.self.items c.self.inside.pieces.items in
    let step = elapses c.self.inside.contents.first (changes_of c.self.inside.notes.items c.self.inside.pieces.items) later Sync (changes c) in
    subst (λ (m : Memory). Elapses (length m.changes) (length later) (MightHaveLeft m.first m.changes) (MightHaveLeft c.self.inside.contents.first later) (kept_after later (at_rest c.self.inside.contents.first))) c.self.view_is step
