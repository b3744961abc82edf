-- the record of a step is kept, and its messages are numbered
use Rattle.std.proofs.Common.{◌≡◌, ℕ, Option, Some, None, Result, Ok, Err, List, [], ◌∷◌, ◌++◌, refl, ap, sym, ◌∙◌, subst}
use Rattle.xt_messages.specs.declared.message.Msg.{Msg}
use Rattle.xt_base.specs.declared.ids.NodeId.{NodeId}
use Rattle.xt_messages.specs.declared.record.Record.{Record}
use Rattle.world_spec.specs.declared.Sent.{Sent}
use Rattle.world_spec.specs.World.{Node, Running, with_node}
use Rattle.world_spec.specs.NodeSteps.{Room, Cause, overflow_of, numbered, loses_own, stopped_in_append}
use Rattle.disk_model.specs.declared.plan.Stop.{Stop}
use Rattle.time_line.specs.declared.entry.Halt.{Halt}
use Rattle.time_line.specs.declared.entry.Entry.{Entry}
use Rattle.time_line.specs.declared.entry.Entry.TheVariants as entry
use Rattle.world_hull.specs.Appends.{kept_by}
use Rattle.world_hull.specs.declared.hull.Kept.{Kept}
use Rattle.std.proofs.lemmas.List.{append-nil}
use Rattle.world_hull.specs.declared.errors.WorldErr.{WorldErr}
use Rattle.world_tables.specs.Limits.{limit_passed}
use Rattle.world_nodes.specs.Nodes.{NodesView, IsAt, Changes, after_append, after_put}
use Rattle.world_step.specs.Steps.{Working, WentOn, IsUntold, Tells, cause_of}
use Rattle.world_step.specs.Endings.{IsGiven, IsWithin, Halts, ended_in_append, halt_of}
use Rattle.world_step.proofs.Endings.{numbered_same, cause_is, append_sent, append_done, at_again}
use Rattle.world_step.proofs.Giving.{limits_kept, limit_told}

pub give_done : {T : Type 0} (told : Room) (was self new : Working) (place : ℕ) (node : Node) (id : NodeId) (rec : Option Record) (outs : List Msg) (r : Result T WorldErr) (between after : NodesView) (sent : List Sent)
    → was ≡ self → IsAt self.doing.world.nodes place node → ((n : Node) → IsAt was.doing.world.nodes place n → id ≡ n.id)
    → Changes (record { times = was.doing.world.times; nodes = was.doing.world.nodes }) place (after_put rec) between
    → ((n : Node) → IsAt was.doing.world.nodes place n → overflow_of told n.past rec ≡ None)
    → after ≡ between → sent ≡ was.doing.world.sent ++ numbered between.nodes id outs → IsWithin {T = T} (limit_passed sent) r
    → new ≡ record was { doing = record was.doing { world = record was.doing.world { times = after.times; nodes = after.nodes; sent = sent } } }
    → IsGiven told self node rec outs new r
give_done {T} told was self new place node id rec outs r between after sent is at its changes room same is_sent passed is_new =
    subst (λ (x : Working). IsGiven told x node rec outs new r) is (ends r passed)
  where
    there : IsAt was.doing.world.nodes place node
    there = subst (λ (x : Working). IsAt x.doing.world.nodes place node) (sym is) at

    its_nodes : after ≡ record { times = was.doing.world.times; nodes = with_node was.doing.world.nodes (after_put rec node) }
    its_nodes = same ∙ changes node there

    its_sent : sent ≡ was.doing.world.sent ++ numbered was.doing.world.nodes node.id outs
    its_sent =
        is_sent
        ∙ ap (λ (v : NodesView). was.doing.world.sent ++ numbered v.nodes id outs) (changes node there)
        ∙ ap (λ (i : NodeId). was.doing.world.sent ++ numbered (with_node was.doing.world.nodes (after_put rec node)) i outs) (its node there)
        ∙ ap (λ (more : List Sent). was.doing.world.sent ++ more) (numbered_same was.doing.world.nodes (after_put rec node) node.id outs)

    ends : (r : Result T WorldErr) → IsWithin {T = T} (limit_passed sent) r → IsGiven told was node rec outs new r
    ends (Ok value) none = (
      limits_kept told was.doing.world node rec outs sent (room node there) its_sent none,
      is_new
          ∙ ap (λ (v : NodesView). record was { doing = record was.doing { world = record was.doing.world { times = v.times; nodes = v.nodes; sent = sent } } }) its_nodes
          ∙ ap (λ (s : List Sent). record was { doing = record was.doing { world = record was.doing.world { nodes = with_node was.doing.world.nodes (after_put rec node); sent = s } } }) its_sent,
    )
    ends (Err e) limit = (
      limit_told told was.doing.world node rec outs T sent e (room node there) its_sent limit,
      record {
        entries = ap (λ (x : Working). x.doing.world.entries) is_new;
        lines = ap (λ (x : Working). x.doing.world.lines) is_new;
        begun = ap (λ (x : Working). x.begun) is_new;
        ended = ap (λ (x : Working). x.doing.world.ended) is_new;
      },
    )

-- an append was stopped, but a limit is passed
pub append_limit : (T : Type 0) (told : Room) (was self new : Working) (place : ℕ) (node : Node) (running : Running) (stop : Stop) (rec : Record) (e : WorldErr)
    → was ≡ self → IsAt self.doing.world.nodes place node → ((n : Node) → IsAt was.doing.world.nodes place n → told.overflow n.past rec ≡ None)
    → IsWithin {T = T} (limit_passed was.doing.world.sent) (Err e) → IsUntold was new
    → Tells (cause_of (ended_in_append told self.doing node running stop rec)) e × IsUntold self new
append_limit T told was self new place node running stop rec e is at room passed untold =
    subst (λ (x : Working). Tells (cause_of (ended_in_append told x.doing node running stop rec)) e × IsUntold x new) is (
      subst (λ (k : Option Cause). Tells k e)
          (sym (cause_is told was.doing.world node (Some rec) [] (loses_own was.doing (stopped_in_append was.doing.world node running stop rec)) (append_sent was.doing node running stop rec)))
          (limit_told told was.doing.world node (Some rec) [] T was.doing.world.sent e (room node there) (sym (append-nil was.doing.world.sent)) passed),
      untold,
    )
  where
    there : IsAt was.doing.world.nodes place node
    there = subst (λ (x : Working). IsAt x.doing.world.nodes place node) (sym is) at

-- an append was stopped, and the node with it
pub append_told : (told : Room) (was self new : Working) (place : ℕ) (node : Node) (running : Running) (stop : Stop) (rec : Record) (end : Kept) (id : NodeId) (clock : ℕ) (how : Halt) (after : NodesView) (es : List Entry)
    → was ≡ self → IsAt self.doing.world.nodes place node → running.clock ≡ clock → ((n : Node) → IsAt was.doing.world.nodes place n → id ≡ n.id)
    → end ≡ kept_by (Some stop) → Changes (record { times = was.doing.world.times; nodes = was.doing.world.nodes }) place (after_append rec end) after
    → ((n : Node) → IsAt was.doing.world.nodes place n → told.overflow n.past rec ≡ None) → limit_passed was.doing.world.sent ≡ None
    → how ≡ halt_of end → es ≡ was.doing.world.entries ++ entry.Down id clock how ∷ []
    → Halts (record was { doing = record was.doing { world = record was.doing.world { times = after.times; nodes = after.nodes; entries = es } } }) place new
    → (ended_in_append told self.doing node running stop rec ≡ Ok new.doing) × WentOn self new
append_told told was self new place node running stop rec end id clock how after es is at is_clock its is_end changes room passed is_how is_es halts =
    subst (λ (x : Working). (ended_in_append told x.doing node running stop rec ≡ Ok new.doing) × WentOn x new) is
    (append_done told was new place node running stop rec end there is_end
    (limits_kept told was.doing.world node (Some rec) [] was.doing.world.sent (room node there) (sym (append-nil was.doing.world.sent)) passed)
    (halts next stands
    ∙ ap (λ (v : NodesView). record was { doing = record was.doing { world = record was.doing.world { times = v.times; nodes = with_node v.nodes (record next { up = None }); entries = es }; own = [] } }) (changes node there)
    ∙ ap (λ (xs : List Entry). record was { doing = record was.doing { world = record was.doing.world { nodes = with_node (with_node was.doing.world.nodes next) (record next { up = None }); entries = xs }; own = [] } })
    (is_es
    ∙ ap (λ (i : NodeId). was.doing.world.entries ++ entry.Down i clock how ∷ []) (its node there)
    ∙ ap (λ (k : ℕ). was.doing.world.entries ++ entry.Down node.id k how ∷ []) (sym is_clock)
    ∙ ap (λ (h : Halt). was.doing.world.entries ++ entry.Down node.id running.clock h ∷ []) is_how)))
  where
    there : IsAt was.doing.world.nodes place node
    there = subst (λ (x : Working). IsAt x.doing.world.nodes place node) (sym is) at

    next : Node
    next = after_append rec end node

    stands : IsAt after.nodes place next
    stands = subst (λ (v : NodesView). IsAt v.nodes place next) (sym (changes node there)) (at_again was.doing.world.nodes place node next there refl)
