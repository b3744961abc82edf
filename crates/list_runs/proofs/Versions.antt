-- The file's world stands for a world of heads.
use Rattle.std.proofs.Common.{◌≡◌, ℕ, ◌<◌, ◌≤◌, ◌⊎◌, Bool, true, List, [], ◌∷◌, ◌++◌, length, sym, ap, ◌∙◌, subst, subst₂, inl, inr, Option, Some, None}
use Rattle.xt_base.specs.declared.ids.Epoch.{Epoch}
use Rattle.xt_base.specs.declared.ids.Stamp.{Stamp}
use Rattle.xt_messages.specs.declared.file.FileHead.{FileHead}
use Rattle.xt_messages.specs.declared.file.Op.{Op}
use Rattle.xt_messages.specs.declared.record.FileRow.{FileRow}
use Rattle.xt_protocol.specs.Folds as folds
use Rattle.xt_protocol.specs.FileStates.{FileState}
use Rattle.xt_protocol.specs.Stamps.{has_version}
use Rattle.replica_safety.specs.Epochs.{AtMost, Body}
use Rattle.replica_safety.specs.Lists.{Has, AreDistinct}
use Rattle.replica_safety.specs.Rules.{Start}
use Rattle.replica_runs.specs.HeadOrder.{known_at, IsIssued}
use Rattle.replica_runs.specs.HeadWorld.{Entry, Message, Piece, shown}
use Rattle.replica_runs.specs.HeadWorld as heads
use Rattle.replica_runs.specs.Made.{IsMade}
use Rattle.replica_runs.specs.Marks.{Begins}
use Rattle.replica_runs.specs.Seen.{AreIn}
use Rattle.replica_runs.proofs.HeadLine.{entries_fit_there, order_of_changes, issues_first_there}
use Rattle.file_runs.specs.FileRuns.{FileNode, FileWorld, Event, BeginsFile, MayAll, after_all}
use Rattle.file_runs.proofs.Runs.{Shape, Inv, begins_inv, all_inv}
use Rattle.joined_lists.specs.NextHeads.{IsBestHead, IsAboutThere, NextStart}
use Rattle.joined_lists.specs.Versions.{Version, Follows, entries_of}
use Rattle.joined_lists.proofs.Joined.{issued_over, issued_front}
use Rattle.joined_lists.proofs.NextHeads.{next_start}
use Rattle.list_runs.specs.FileVersions.{IsBestKept, IsAboutFile, GoesOn}

in_has : (xs sent : List Message) (m : Message) → AreIn xs sent → Has m xs → Has m sent
in_has [] sent m are h = absurd h
in_has (x ∷ xs) sent m are (inl p) = subst (λ (y : Message). Has y sent) (sym p) are.0
in_has (x ∷ xs) sent m are (inr h) = in_has xs sent m are.1 h

module _ (stripe : ℕ) (some : 0 < stripe) (ops : ℕ × ℕ → Op) (members : List ℕ) (distinct : AreDistinct members) (start : Start) where
  abbrev In : FileWorld → Type 0
  In w = Inv stripe some ops members distinct start w

  kept_by : (x : FileNode) (v : heads.World) (n : ℕ) (state : Option FileState) → Shape stripe some ops members distinct start x v n state → (v.nodes n).kept ≡ x.kept
  kept_by x v n None is = ap (λ (y : heads.Node). y.kept) is.node
  kept_by x v n (Some s) is = ap (λ (y : heads.Node). y.kept) is.node

  body_by : (x : FileNode) (v : heads.World) (n : ℕ) (state : Option FileState) → Shape stripe some ops members distinct start x v n state → (v.nodes n).body ≡ x.body
  body_by x v n None is = ap (λ (y : heads.Node). y.body) is.node
  body_by x v n (Some s) is = ap (λ (y : heads.Node). y.body) is.node

  module _ (w : FileWorld) (inv : In w) where
    kept_is : (n : ℕ) → (inv.world.nodes n).kept ≡ (w.nodes n).kept
    kept_is n = kept_by (w.nodes n) inv.world n (w.nodes n).state (inv.nodes n)

    body_is : (n : ℕ) → (inv.world.nodes n).body ≡ (w.nodes n).body
    body_is n = body_by (w.nodes n) inv.world n (w.nodes n).state (inv.nodes n)

    best_there : (closed : ℕ → Bool) (source floor : ℕ) → IsBestKept members w closed source floor → IsBestHead members inv.world closed source floor
    best_there closed source floor best = record {
      most = best.most;
      one = best.one;
      greatest = λ r h. subst₂ (λ (a b : FileRow). AtMost a.head.stamp b.head.stamp) (sym (kept_is r)) (sym (kept_is source)) (best.greatest r h);
      low = λ r h. subst (λ (a : FileRow). a.head.promised.number ≤ floor) (sym (kept_is r)) (best.low r h);
    }

    about_there : (b : Body) → IsAboutFile start w b → IsAboutThere start inv.world b
    about_there b (inl (r, has)) = inl (
      r,
      record {
        held = subst (λ (a : FileRow). has_version a.held (folds.body_of b.object b.version) ≡ true) (sym (kept_is r)) has.held;
        bytes = ap (λ (f : ℕ → Stamp → List ℕ). f b.object b.version) (body_is r) ∙ has.bytes;
      },
    )
    about_there b (inr (inl (x, h, brings))) = inr (inl (in_has (shown x.from x.content) inv.world.sent (Piece b.object b.version b.bytes) (inv.sent x h) brings))
    about_there b (inr (inr h)) = inr (inr h)

    pub goes_on : (next_members : List ℕ) (closed : ℕ → Bool) (source floor : ℕ) (promised : ℕ → Epoch) (old : List Body) → IsBestKept members w closed source floor → 1 ≤ length next_members
        → ((r : ℕ) → floor < (promised r).number) → ((b : Body) → Has b old → IsAboutFile start w b) → GoesOn stripe ops next_members start w source floor promised old
    goes_on next_members closed source floor promised old best more above about = record {
      entries = inv.world.entries;
      told = inv.told;
      is = record {
        fit = entries_fit_there stripe ops start members inv.world inv.reached;
        changes = order_of_changes stripe ops start members inv.world inv.reached;
        issued = issues_first_there stripe ops start members inv.world inv.reached;
      };
      next = n.next;
      begins = n.begins;
      head = λ p. n.head p ∙ ap (λ (a : FileRow). let h : FileHead = record a.head { promised = p } in h) (kept_is source);
      near = n.near;
      promises = n.promises;
      is_floor = n.is_floor;
      is_old = n.is_old;
      whole = n.whole;
      follows = λ before later f. record { line = n.order; known = λ id h. known before f id (n.known id h) };
    }
      where
        n : NextStart stripe ops next_members start inv.world source floor promised old
        n = next_start stripe ops members next_members start inv.world closed source floor promised old inv.reached (best_there closed source floor best) more above (λ b h. about_there b (about b h))

        known : (before : List Version) → Follows (record { start = start; entries = inv.world.entries }) before → (id : ℕ × ℕ) → Has id (known_at start) ⊎ IsIssued inv.world.entries id
            → IsIssued (inv.world.entries ++ entries_of before) id
        known before f id (inl h) = issued_over id inv.world.entries (entries_of before) (f.known id h)
        known before f id (inr h) = issued_front id inv.world.entries (entries_of before) h

pub runs_go_on : (stripe : ℕ) (ops : ℕ × ℕ → Op) (members next_members : List ℕ) (start : Start) (w : FileWorld) (events : List Event) (closed : ℕ → Bool) (source floor : ℕ) (promised : ℕ → Epoch) (old : List Body)
    → 1 ≤ stripe → AreDistinct members → Begins (IsMade stripe ops) members start → BeginsFile stripe members start w → MayAll stripe ops members w events
    → IsBestKept members (after_all w events) closed source floor → 1 ≤ length next_members → ((r : ℕ) → floor < (promised r).number)
    → ((b : Body) → Has b old → IsAboutFile start (after_all w events) b) → GoesOn stripe ops next_members start (after_all w events) source floor promised old
runs_go_on stripe ops members next_members start w events closed source floor promised old some distinct b at may best more above about =
    goes_on stripe some ops members distinct start (after_all w events)
    (all_inv stripe some ops members distinct start w events may (begins_inv stripe some ops members distinct start w b at))
    next_members closed source floor promised old best more above about
