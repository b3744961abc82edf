use Rattle.std.proofs.Common.{◌≡◌, ◌<◌, ◌+◌, ◌-◌, ◌∙◌, List, ℕ, Option, length, length-drop, take, drop, subst, sym, ap, arith}
use Rattle.std.proofs.lemmas.List.{take-append-drop}
use Rattle.std.proofs.Math.Seq.{take-add, take-length}
use Rattle.node_links.specs.Streams.{Puts}
use Rattle.schedule_lines.specs.Fronts.{PutsFront}
use Rattle.schedule_lines.proofs.Streamed.{Puts-append}
use Rattle.schedule_lines.proofs.writing.put_all.Goals as goal

-- the rest of a list, taken whole
whole : (list : List ℕ) (place : ℕ) → take (length list - place) (drop place list) ≡ drop place list
whole list place = subst (λ (n : ℕ). take n (drop place list) ≡ drop place list) (length-drop place list) (take-length (drop place list))

-- the front that was put, with what was put of the rest
further : (a b c : Option (List ℕ)) (piece : List ℕ) (place count : ℕ)
    → Puts a b (take place piece)
    → Puts b c (take count (take (length piece - place) (drop place piece)))
    → Puts a c (take (place + count) piece)
further a b c piece place count before now =
    let put : Puts b c (take count (drop place piece)) = subst (λ (rest : List ℕ). Puts b c (take count rest)) (whole piece place) now in
    subst (λ (front : List ℕ). Puts a c front) (sym (take-add place count piece)) (Puts-append a b c _ _ before put)

-- a front is a front
stopped : (a b : Option (List ℕ)) (piece : List ℕ) (place : ℕ) → place < length piece → Puts a b (take place piece) → PutsFront a b piece
stopped a b piece place inside before =
    (take place piece, before, (drop place piece, sym (take-append-drop place piece), λ none. absurd (omega (arith, ap length none, length-drop place piece))))

pub returns-in-Err-clause-front : goal.returns-in-Err-clause-front
returns-in-Err-clause-front g c =
    stopped _ _ c.args.piece.now c.loop-place.place (omega arith)
    (subst (λ (held : Option (List ℕ)). Puts (g.K.Sink.held c.args.out.now) held (take c.loop-place.place c.args.piece.now)) (sym c.in-Err.ensures.kept) c.loop-place.invariant.front)

pub loop-place-preserved : goal.loop-place-preserved
loop-place-preserved g c =
    record {
      inside = omega (arith, c.in-Ok.ensures.count, ap length (whole c.args.piece.now c.loop-place.place), length-drop c.loop-place.place c.args.piece.now);
      front = further _ _ _ c.args.piece.now c.loop-place.place c.in-Ok.count c.loop-place.invariant.front c.in-Ok.ensures.bytes;
      sound = c.in-Ok.ensures.sound ∙ c.loop-place.invariant.sound;
    }
