-- A node that has come so far by batches has come so far by passes, and its disk kept nothing else in turn than what the node kept.
use Rattle.std.proofs.Common.{ℕ, ◌≡◌, Bool, refl, sym, subst, arith, Option, List, [], ◌++◌}
use Rattle.std.specs.List.{All}
use Rattle.std.proofs.lemmas.List.{append_assoc, append-nil}
use Rattle.std.proofs.lemmas.List.Elements.{All-push}
use Rattle.xt_base.specs.declared.ids.Boot.{Boot}
use Rattle.xt_protocol.specs.Forgetting.{rewritten}
use Rattle.node_links.specs.declared.link.Datagram.{Datagram}
use Rattle.node_runs.specs.Runs.{Role, Turn, Served, by_rewriting, Comes, begun, passed}
use Rattle.node_runs.specs.Batches.{Goes, at_start, then_batch, then_rewritten, kept_at, WasKept}
use Rattle.node_runs.proofs.Sending.{takes_none}

module _ {S : Type 0} (told : Bool) (role : Role S) (boot : Boot) (period : ℕ) (to_come : Option (List Datagram)) (start : Served S) where
  -- by the same turns, with the same posts
  by_same : (left : Option (List Datagram)) (turns turns' : List Turn) (posts posts' : List Datagram) (s : Served S) → turns ≡ turns' → posts ≡ posts'
      → Comes told role boot period to_come start left turns posts s → Comes told role boot period to_come start left turns' posts' s
  by_same left turns turns' posts posts' s is same comes =
      subst (λ (ps : List Datagram). Comes told role boot period to_come start left turns' ps s) same
      (subst (λ (ts : List Turn). Comes told role boot period to_come start left ts posts s) is comes)

  -- so far, and then further
  pub comes_on : (left : Option (List Datagram)) (turns : List Turn) (before : List Datagram) (s : Served S) → Comes told role boot period to_come start left turns before s
      → (after : Option (List Datagram)) (more : List Turn) (mailed : List Datagram) (next : Served S) → Comes told role boot period left s after more mailed next
      → Comes told role boot period to_come start after (turns ++ more) (before ++ mailed) next
  comes_on left turns before s comes after more mailed next begun =
      by_same left turns (turns ++ []) before (before ++ []) s (sym (append-nil turns)) (sym (append-nil before)) comes
  comes_on left turns before s comes after more mailed next (passed between after' turns' more' before' mailed' s' next' further one gives) =
      by_same after ((turns ++ turns') ++ more') (turns ++ (turns' ++ more')) ((before ++ before') ++ mailed') (before ++ (before' ++ mailed')) next
      (append_assoc turns turns' more') (append_assoc before before' mailed')
      (passed between after (turns ++ turns') more' (before ++ before') mailed' s' next (comes_on left turns before s comes between turns' before' s' further) one gives)

  pub comes_of : (left : Option (List Datagram)) (turns : List Turn) (before : List Datagram) (s : Served S) → Goes told role boot period to_come start left turns before s
      → Comes told role boot period to_come start left turns before s
  comes_of left turns before s at_start = begun
  comes_of left turns before s (then_batch between after turns' more before' mailed s' next goes batch) =
      comes_on between turns' before' s' (comes_of between turns' before' s' goes) left more mailed s batch.comes
  comes_of left turns before s (then_rewritten between turns' before' s' keep goes is room) =
      by_same left (turns ++ []) turns (before ++ []) before s (append-nil turns) (append-nil before)
      (passed left left turns [] before [] s' s (comes_of left turns before s' goes) (by_rewriting keep is room) (takes_none left))

  pub each_was_kept : (left : Option (List Datagram)) (turns : List Turn) (before : List Datagram) (s : Served S) (goes : Goes told role boot period to_come start left turns before s)
      → All (WasKept told role boot period to_come start) (kept_at told role boot period to_come start left turns before s goes)
  each_was_kept left turns before s at_start =
      All-push (WasKept told role boot period to_come start) [] start.kept (λ k d inside. absurd (omega (arith, inside)))
      (record { left = to_come; turns = []; posts = []; s = start; comes = begun; is = refl })
  each_was_kept left turns before s (then_batch between after turns' more before' mailed s' next goes batch) =
      All-push (WasKept told role boot period to_come start) (kept_at told role boot period to_come start between turns' before' s' goes) next.kept (each_was_kept between turns' before' s' goes)
      (record {
        left = after;
        turns = turns' ++ more;
        posts = before' ++ mailed;
        s = next;
        comes = comes_on between turns' before' s' (comes_of between turns' before' s' goes) after more mailed next batch.comes;
        is = refl;
      })
  each_was_kept left turns before s (then_rewritten between turns' before' s' keep goes is room) =
      All-push (WasKept told role boot period to_come start) (kept_at told role boot period to_come start between turns' before' s' goes) (rewritten keep s'.kept) (each_was_kept between turns' before' s' goes)
      (record {
        left = left;
        turns = turns;
        posts = before;
        s = s;
        comes = comes_of left turns before s (then_rewritten between turns' before' s' keep goes is room);
        is = refl;
      })
