-- what the code keeps of a trace, against what the pass keeps
use Rattle.std.specs.Prelude.{Bool, true, ◌≡◌}
use Rattle.std.specs.Ordering.{nat_cmp}
use Rattle.std.specs.BTreeMap.{get}
use Rattle.xt_base.specs.declared.ids.NodeId.{NodeId}
use Rattle.xt_base.specs.declared.ids.OpId.{OpId}
use Rattle.time_line.specs.Verdicts.{Clause, apart, acting, one_order, once, shown, fresh}
use Rattle.judging.specs.Pass.{Kept}
use Rattle.sparse_bytes.specs.Sparse.{Tells}
use Rattle.trace_judge.specs.declared.kept.Says.{Says}
use Rattle.trace_judge.specs.declared.kept.Judging.{Judging}
use Rattle.trace_judge.specs.Short.{TellsStanding}
use Rattle.trace_judge.specs.Rows.{IsSetOf, AreAnswers, call_in, has_id}

-- whether a clause holds so far
abbrev pub says_of : Says → Clause → Bool
says_of s apart = s.apart
says_of s acting = s.acting
says_of s one_order = s.one_order
says_of s once = s.once
says_of s shown = s.shown
says_of s fresh = s.fresh

-- The code keeps what the pass keeps. Content and answers count only while each write stands once: after that no verdict looks at them.
pub record Follows (k : Kept) (j : Judging) : Type 0 where
  pub stands : (n : NodeId) → TellsStanding j.leases.readings.ticks (get nat_cmp j.leases.readings.rows n.0) (k.stands n)
  pub holder : j.leases.holder ≡ k.holder
  pub order : j.writes.order.ids.items ≡ k.order
  pub set : IsSetOf j.writes.order.set.set k.order
  pub content : k.says once ≡ true → Tells j.writes.content.size j.writes.content.written k.content
  pub calls : (id : OpId) → call_in j.calls.rows id ≡ k.calls id
  pub answered : AreAnswers j.answers.set k.answered
  pub ended : (id : OpId) → has_id j.ended.set id ≡ k.ended id
  pub says_apart : j.says.apart ≡ k.says apart
  pub says_acting : j.says.acting ≡ k.says acting
  pub says_order : j.says.one_order ≡ k.says one_order
  pub says_once : j.says.once ≡ k.says once
  pub says_shown : k.says once ≡ true → j.says.shown ≡ k.says shown
  pub says_fresh : j.says.fresh ≡ k.says fresh
