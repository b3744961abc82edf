-- what is counted of a change is of old members, and of each once
use Rattle.std.proofs.Common.{◌≡◌, ℕ, List, [], ◌∷◌, ◌++◌, refl, ap, ◌∙◌, arith, Bool, true, false}
use Rattle.std.specs.Prelude.{◌==◌, ◌&&◌, ◌||◌, not, if◌then◌else◌}
use Rattle.std.proofs.lemmas.Bool.Decides.{nat_tests}
use Rattle.xt_base.specs.MemberList.{has_node}
use Rattle.xt_base.specs.declared.ids.NodeId.{NodeId}
use Rattle.xt_messages.specs.declared.file.FileHead.{FileHead}
use Rattle.change_rows.specs.Changes.{ChangeState, has_report, awaits_closing, with_report, closed_by}
use Rattle.list_changes.specs.Laws.{OnceEach, AreMembers, IsCounted}

both : (a b : Bool) → (a && b) ≡ true → (a ≡ true) × (b ≡ true)
both true b h = (refl, h)
both false b h = absurd (cc)

neither : (a b : Bool) → (a || b) ≡ false → (a ≡ false) × (b ≡ false)
neither true b h = absurd (cc)
neither false b h = (refl, h)

no_more : (a : Bool) → not a ≡ true → a ≡ false
no_more true h = absurd (cc)
no_more false h = refl

other_way : (a b : ℕ) → (a == b) ≡ false → (b == a) ≡ false
other_way a b h = grind (arith, nat_tests)

-- one report more
members_more : (members : List NodeId) (reports : List (NodeId × FileHead)) (node : NodeId) (head : FileHead) → AreMembers members reports → has_node members node.0 ≡ true
    → AreMembers members (reports ++ (node, head) ∷ [])
members_more members [] node head all is = (is, tt)
members_more members (r ∷ rs) node head all is = (all.0, members_more members rs node head all.1 is)

unseen_more : (reports : List (NodeId × FileHead)) (node : NodeId) (head : FileHead) (other : ℕ) → has_report reports other ≡ false → (node.0 == other) ≡ false
    → has_report (reports ++ (node, head) ∷ []) other ≡ false
unseen_more [] node head other none differs = ap (λ (b : Bool). b || false) differs
unseen_more (r ∷ rs) node head other none differs =
    let parts = neither (r.0.0 == other) (has_report rs other) none in
    ap (λ (b : Bool). b || has_report (rs ++ (node, head) ∷ []) other) parts.0 ∙ unseen_more rs node head other parts.1 differs

once_more : (reports : List (NodeId × FileHead)) (node : NodeId) (head : FileHead) → OnceEach reports → has_report reports node.0 ≡ false → OnceEach (reports ++ (node, head) ∷ [])
once_more [] node head once none = (refl, tt)
once_more (r ∷ rs) node head once none =
    let parts = neither (r.0.0 == node.0) (has_report rs node.0) none in
    (unseen_more rs node head r.0.0 once.0 (other_way r.0.0 node.0 parts.0), once_more rs node head once.1 parts.1)

pub counted_more : (c : ChangeState) (now : ℕ) (from : NodeId) (version : ℕ) (head : FileHead) → IsCounted c → IsCounted (closed_by c now from version head)
counted_more c now from version head h = at (awaits_closing c from version) refl
  where
    at : (b : Bool) → awaits_closing c from version ≡ b → IsCounted (if b then with_report c now from head else c)
    at true awaited =
        let last = both (version == c.before.version && has_node c.before.members from.0) (not (has_report c.reports from.0)) awaited in
        let first = both (version == c.before.version) (has_node c.before.members from.0) last.0 in
        record {
          members = members_more c.before.members c.reports from head h.members first.1;
          once = once_more c.reports from head h.once (no_more (has_report c.reports from.0) last.1);
        }
    at false ignored = h
