-- The world of heads stands for a world of writes, whose next start this is.
use Rattle.std.proofs.Common.{◌≡◌, ℕ, ◌<◌, ◌≤◌, ◌⊎◌, Bool, List, ◌++◌, length, refl, sym, ap, ◌∙◌, subst, subst₂, inl, inr}
use Rattle.xt_base.specs.declared.ids.Epoch.{Epoch}
use Rattle.xt_messages.specs.declared.file.FileHead.{FileHead}
use Rattle.xt_messages.specs.declared.file.Op.{Op}
use Rattle.replica_safety.specs.Epochs.{AtMost, Body}
use Rattle.replica_safety.specs.Lists.{Has}
use Rattle.replica_safety.specs.Rules.{Start}
use Rattle.replica_runs.specs.FileHeads.{head_of}
use Rattle.replica_runs.specs.HeadOrder.{order_of, order_at, known_at, IsIssued}
use Rattle.replica_runs.specs.HeadSteps.{Turn, after_turns, MayTurn}
use Rattle.replica_runs.specs.HeadWorld.{World, Piece, BeginsAt}
use Rattle.replica_runs.specs.Made.{IsMade}
use Rattle.replica_runs.specs.Marks.{Begins}
use Rattle.replica_runs.specs.World as world
use Rattle.replica_runs.proofs.HeadLine.{order_marks, has_name, was_issued}
use Rattle.replica_runs.proofs.HeadRun.{turns_there, begins_there}
use Rattle.replica_runs.proofs.HeadStands.{IsReached, head_at}
use Rattle.joined_lists.specs.NextBegins.{IsBestIn, IsAbout, next_in, TakesOver}
use Rattle.joined_lists.specs.NextHeads.{IsBestHead, IsAboutThere, NextStart}
use Rattle.joined_lists.proofs.NextBegins.{takes_over}

module _ (stripe : ℕ) (ops : ℕ × ℕ → Op) (members next_members : List ℕ) (start : Start) (w : World) (closed : ℕ → Bool) (source floor : ℕ) (promised : ℕ → Epoch) (old : List Body)
    (reached : IsReached stripe ops members start w) (best : IsBestHead members w closed source floor) (some : 1 ≤ length next_members)
    (above : (r : ℕ) → floor < (promised r).number) (about : (b : Body) → Has b old → IsAboutThere start w b) where
  abbrev v : world.World
  v = reached.world

  head_is : (r : ℕ) → (w.nodes r).kept.head ≡ head_at (v.nodes r)
  head_is r = (reached.stand.nodes r).head

  best_there : IsBestIn members v closed source floor
  best_there = record {
    most = best.most;
    one = best.one;
    greatest = λ r h. subst₂ (λ (a b : FileHead). AtMost a.stamp b.stamp) (head_is r) (head_is source) (best.greatest r h);
    low = λ r h. subst (λ (a : FileHead). a.promised.number ≤ floor) (head_is r) (best.low r h);
  }

  about_by : (b : Body) → IsAboutThere start w b → IsAbout start v b
  about_by b (inl (r, has)) =
      inl (
        r,
        subst (λ (bytes : List ℕ). Has (let c : Body = record { object = b.object; version = b.version; bytes = bytes } in c) (v.held r)) has.bytes
            ((reached.stand.nodes r).bodies.has b.object b.version has.held),
      )
  about_by b (inr (inl h)) = inr (inl (reached.stand.sent (Piece b.object b.version b.bytes) h))
  about_by b (inr (inr h)) = inr (inr h)

  abbrev next : Start
  next = next_in start v source promised floor old

  over : TakesOver stripe ops next_members start v source next
  over = takes_over stripe ops members next_members start v closed source floor promised old reached.good.is best_there some above (λ b h. about_by b (about b h))

  issued : (id : ℕ × ℕ) → Has id (known_at next) → Has id (known_at start) ⊎ IsIssued w.entries id
  issued id h =
      let one = has_name (next.line ++ next.open_writes) id h in
      subst (λ es. Has id (known_at start) ⊎ IsIssued es id) (sym reached.stand.entries)
      (was_issued start v.marks id one.0 one.2 (over.issued one.0 one.1))

  pub next_start : NextStart stripe ops next_members start w source floor promised old
  next_start = record {
    next = next;
    begins = over.begins;
    head = λ p. ap (head_of p (v.nodes source).head.epoch) over.head ∙ sym (ap (λ (a : FileHead). let b : FileHead = record a { promised = p } in b) (head_is source));
    near = over.near;
    order = sym (order_marks start v.marks) ∙ ap (order_of (order_at start)) (sym reached.stand.entries);
    known = issued;
    promises = refl;
    is_floor = refl;
    is_old = refl;
    whole = λ r. ap length (sym over.head);
  }

pub run_goes_on : (stripe : ℕ) (ops : ℕ × ℕ → Op) (members next_members : List ℕ) (start : Start) (w : World) (turns : List Turn) (closed : ℕ → Bool) (source floor : ℕ) (promised : ℕ → Epoch) (old : List Body)
    → 1 ≤ stripe → Begins (IsMade stripe ops) members start → BeginsAt start w → MayTurn stripe ops members w turns
    → IsBestHead members (after_turns w turns) closed source floor → 1 ≤ length next_members → ((r : ℕ) → floor < (promised r).number)
    → ((b : Body) → Has b old → IsAboutThere start (after_turns w turns) b)
    → NextStart stripe ops next_members start (after_turns w turns) source floor promised old
run_goes_on stripe ops members next_members start w turns closed source floor promised old some b at may best more above about =
    next_start stripe ops members next_members start (after_turns w turns) closed source floor promised old
    (turns_there stripe some ops members start w turns may (begins_there stripe some ops members start w b at)) best more above about
