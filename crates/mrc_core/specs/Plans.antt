-- what is to come of a fresh request
use Rattle.std.specs.Prelude.{◌≡◌, ℕ, true, false, ◌&&◌, Option, None, Result, List}
use Rattle.std.specs.Option.{is_some}
use Rattle.xt_base.specs.declared.ids.NodeId.{NodeId}
use Rattle.xt_messages.specs.declared.meta.MetaReq.{MetaReq}
use Rattle.xt_messages.specs.declared.meta.MetaRefusal.{MetaRefusal}
use Rattle.xt_messages.specs.declared.meta.MetaAnswer.{MetaAnswer}
use Rattle.volume_rows.specs.declared.Asker.{Asker}
use Rattle.volume_rows.specs.declared.Granting.{Granting}
use Rattle.volume_rows.specs.declared.Picked.TheVariants as place
use Rattle.volume_rows.specs.Rows.{Volumes}
use Rattle.server_rows.specs.Laws.{IsChange}
use Rattle.server_rows.specs.Requests.{outcome_of, settled, grant_settled, wants_truncating, is_last_epoch, is_recorded, is_spent, nodes_for, made_by, place_of}
use Rattle.server_rows.specs.declared.MadeFile.{MadeFile}
use Rattle.mrc_core.specs.declared.asking.Site.{Site}
use Rattle.mrc_core.specs.declared.plan.Plan.{Plan}
use Rattle.mrc_core.specs.declared.plan.Plan.TheVariants as plan
use Rattle.mrc_core.specs.declared.settling.Settling.{Settling}
use Rattle.mrc_core.specs.Settling.{answer_of, settlement_of}

-- the request is only answered
pub record Tells (site : Site) (volumes : Volumes) (who : Asker) (request : MetaReq) (answer : MetaAnswer) : Type 0 where
  pub left : is_spent volumes who request ≡ false
  pub aside : is_recorded site.key.now volumes site.clock request ≡ false
  pub told : answer ≡ (outcome_of site.key.now volumes who site.clock None request).answer

-- the request is recorded, and changes names, rights or files
pub record Changes (site : Site) (volumes : Volumes) (who : Asker) (request : MetaReq) : Type 0 where
  pub left : is_spent volumes who request ≡ false
  pub kept : is_recorded site.key.now volumes site.clock request ≡ true
  pub change : IsChange request

-- the request is recorded, and sets sizes at most
pub record Sets (site : Site) (volumes : Volumes) (who : Asker) (request : MetaReq) (settling : Settling) : Type 0 where
  pub left : is_spent volumes who request ≡ false
  pub kept : is_recorded site.key.now volumes site.clock request ≡ true
  pub outcome : (nodes : Option (List NodeId)) → outcome_of site.key.now volumes who site.clock nodes request ≡ settled volumes (settlement_of settling)
  pub no_nodes : (osds : List NodeId) → nodes_for osds volumes.next request ≡ None
  pub no_file : (made : List (ℕ × MadeFile)) → made_by volumes site.clock None request made ≡ made
  pub no_place : place_of None request ≡ place.TooFew 0

abbrev pub IsPlan : Site → Volumes → Asker → MetaReq → Plan → Type 0
IsPlan site volumes who request plan.Nothing = is_spent volumes who request ≡ true
IsPlan site volumes who request (plan.Tell answer) = Tells site volumes who request answer
IsPlan site volumes who request plan.Change = Changes site volumes who request
IsPlan site volumes who request (plan.Set settling) = Sets site volumes who request settling

-- the plan of a Grant, by what is granted
abbrev pub IsGrantPlan : Site → ℕ → Result Granting MetaRefusal → Plan → Type 0
IsGrantPlan site want granted plan.Nothing = (wants_truncating want && is_last_epoch granted) ≡ true
IsGrantPlan site want granted (plan.Tell answer) =
    (wants_truncating want ≡ false) × (answer ≡ (grant_settled site.key.now site.clock want granted).answer)
IsGrantPlan site want granted plan.Change = ⊥
IsGrantPlan site want granted (plan.Set settling) =
    ((wants_truncating want && is_last_epoch granted) ≡ false) × (wants_truncating want ≡ true)
    × (settlement_of settling ≡ grant_settled site.key.now site.clock want granted)

-- the plan of a Report, by what it comes to
abbrev pub IsReportPlan : Settling → Plan → Type 0
IsReportPlan settling plan.Nothing = ⊥
IsReportPlan settling (plan.Tell answer) = (is_some settling.sets ≡ false) × (answer ≡ answer_of settling.settled)
IsReportPlan settling plan.Change = ⊥
IsReportPlan settling (plan.Set planned) = (is_some settling.sets ≡ true) × (planned ≡ settling)
