-- how a node stands after one entry more
use Rattle.std.proofs.Common.{◌≡◌, ℕ, ◌+◌, ◌<◌, List, [], take, length, get_or, Option, Some, None, refl, sym, ap, ◌∙◌}
use Rattle.std.specs.Prelude.{option_map}
use Rattle.std.proofs.lemmas.List.Sums.{fold_more}
use Rattle.xt_base.specs.declared.ids.NodeId.{NodeId}
use Rattle.time_line.specs.declared.entry.Entry.{Entry}
use Rattle.time_line.specs.TimeLine.{RunningBoot, standing, standing_after}
use Rattle.trace_spans.specs.declared.standings.Running.{Running}
use Rattle.trace_spans.specs.Holding.{kept, clock_of, standing_at}

pub standing_first : (node : NodeId) (file : ℕ) → kept (standing node file []) ≡ None
unfolding standing
standing_first node file = refl

pub standing_more :
    (node : NodeId) (file : ℕ) (entries : List Entry) (i : ℕ) (e : Entry)
    → i < length entries
    → standing node file (take (i + 1) entries) ≡ standing_after node file (standing node file (take i entries)) (get_or entries i e)
unfolding standing
standing_more node file entries i e h = fold_more (standing_after node file) None entries i e h

-- what is kept of it, and what is given of it
module _ (node : NodeId) (file : ℕ) (entries : List Entry) (i : ℕ) (e : Entry) where
  pub kept_more :
      (now : Option Running) → i < length entries → e ≡ get_or entries i e
      → now ≡ kept (standing_after node file (standing node file (take i entries)) e)
      → now ≡ kept (standing_at node file entries i)
  kept_more now h is so = so ∙ ap kept (ap (standing_after node file (standing node file (take i entries))) is ∙ sym (standing_more node file entries i e h))

pub clock_kept : (s : Option RunningBoot) → option_map (λ (r : Running). r.clock) (kept s) ≡ option_map clock_of s
clock_kept None = refl
clock_kept (Some s) = refl
