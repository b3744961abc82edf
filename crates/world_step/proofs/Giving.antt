-- what hinders a step, by what the hull and the messages report
use Rattle.std.proofs.Common.{◌≡◌, Option, Some, None, Err, List, refl, ap, sym, ◌∙◌, subst}
use Rattle.std.specs.Option.{IfSome}
use Rattle.xt_messages.specs.declared.message.Msg.{Msg}
use Rattle.xt_messages.specs.declared.record.Record.{Record}
use Rattle.xt_messages.specs.declared.status.Limited.{Limited}
use Rattle.world_spec.specs.declared.Sent.{Sent}
use Rattle.world_spec.specs.World.{World, Node}
use Rattle.world_spec.specs.NodeSteps.{Room, Overflow, has_no_room, overflow_of}
use Rattle.world_hull.specs.Answers.{IsFullOrMemory, IsFullExactly}
use Rattle.world_hull.specs.declared.errors.WorldErr.{WorldErr}
use Rattle.world_hull.specs.declared.errors.WorldErr.TheVariants as error
use Rattle.world_tables.specs.Limits.{limit_passed}
use Rattle.world_step.specs.Steps.{Tells, limit_of}
use Rattle.world_step.specs.Endings.{given, hindrance, cause_against, IsWithin}

module _ (told : Room) (w : World) (node : Node) (rec : Option Record) (outs : List Msg) where
  cause_when : (o : Option Overflow) → overflow_of told node.past rec ≡ o
      → cause_against told w node rec outs
      ≡ (elim o [ Some overflow ↦ Some (has_no_room overflow) | None ↦ hindrance (limit_passed (given w node rec outs).sent) ])
  cause_when o is =
      ap (λ (p : Option Overflow). elim p [ Some overflow ↦ Some (has_no_room overflow) | None ↦ hindrance (limit_passed (given w node rec outs).sent) ]) is

  -- the hull has kept the record, or reports why not
  pub full_told : (T : Type 0) (e : WorldErr) → IsFullOrMemory e → IsFullExactly {T = T} (overflow_of told node.past rec) (Err e) → Tells (cause_against told w node rec outs) e
  full_told T (error.Illegal rule) may is = may
  full_told T (error.Limit what limit) may is = absurd (may)
  full_told T (error.Full need limit) may is = cause_when (Some (record { need = need; limit = limit })) is
  full_told T error.OutOfMemory may is = tt

  -- then the messages pass no limit, or a limit is reported
  pub limits_kept : (sent : List Sent) → overflow_of told node.past rec ≡ None → sent ≡ (given w node rec outs).sent → limit_passed sent ≡ None
      → cause_against told w node rec outs ≡ None
  limits_kept sent fits is none = cause_when None fits ∙ ap hindrance (ap limit_passed (sym is) ∙ none)

  pub limit_told : (T : Type 0) (sent : List Sent) (e : WorldErr) → overflow_of told node.past rec ≡ None → sent ≡ (given w node rec outs).sent → IsWithin {T = T} (limit_passed sent) (Err e)
      → Tells (cause_against told w node rec outs) e
  limit_told T sent e fits is passed = at (limit_passed sent) refl passed
    where
      at : (p : Option Limited) → limit_passed sent ≡ p → IfSome p (λ (what : Limited). e ≡ error.Limit what (limit_of what)) × (p ≡ None → ⊥)
          → Tells (cause_against told w node rec outs) e
      at None so isnt = absurd (isnt.1 refl)
      at (Some what) so its =
          subst (Tells (cause_against told w node rec outs)) (sym its.0)
          (cause_when None fits ∙ ap hindrance (ap limit_passed (sym is) ∙ so), refl)
