-- a primary counts each member at most once, when it begins and when it is asked for a write
use Rattle.std.proofs.Common.{◌≡◌, ◌∙◌, ℕ, refl, ap, sym, subst, List, [], ◌∷◌, Bool, true, false, Option, Some, None, Result, Ok, Err, arith, cond}
use Rattle.std.specs.Prelude.{map, nat_lt, IfOk, OnErr, IfNone}
use Rattle.std.specs.Option.{option_map}
use Rattle.xt_base.specs.declared.ids.NodeId.{NodeId}
use Rattle.xt_base.specs.declared.ids.OpId.{OpId}
use Rattle.xt_messages.specs.declared.file.Op.{Op}
use Rattle.xt_messages.specs.declared.file.FileHead.{FileHead}
use Rattle.xt_messages.specs.declared.file.ObjectVersion.{ObjectVersion}
use Rattle.xt_messages.specs.declared.file.Update.{Update}
use Rattle.xt_messages.specs.declared.record.Record.{Record}
use Rattle.xt_base.specs.declared.TheConstants.{OBJECTS, COUNTS}
use Rattle.xt_protocol.specs.Heads.{new_head}
use Rattle.xt_protocol.specs.declared.turned.Turned.{Turned}
use Rattle.xt_protocol.specs.declared.states.IssuedUpdate.{IssuedUpdate}
use Rattle.xt_protocol.specs.declared.states.Place.{Place}
use Rattle.xt_protocol.specs.declared.states.Progress.{Progress}
use Rattle.xt_protocol.specs.declared.states.Progress.TheVariants as progress
use Rattle.xt_protocol.specs.declared.states.Tenure.{Tenure}
use Rattle.xt_protocol.specs.declared.states.PrimaryState.{PrimaryState}
use Rattle.xt_protocol.specs.Primaries.{Ground, Led, nodes_of, unknown_peer}
use Rattle.xt_protocol.specs.PrimaryRows.{draw_epoch, epoch_above}
use Rattle.xt_protocol.specs.Serving.{issues, issues_unless, next_update_of, write_stands, writes, writes_in, writes_under}
use Rattle.xt_protocol.specs.Writes.{WriteStanding, repeated, older, turned_away, fresh, standing}
use Rattle.replica_primary.specs.Written.{ground}
use Rattle.replica_primary.specs.PrimaryViews.{PrimaryView}
use Rattle.osd_files.specs.Counts.{IsCounted}

-- A tenure that begins.

fresh_nodes : (nodes : List NodeId) → nodes_of (map unknown_peer nodes) ≡ nodes
fresh_nodes [] = refl
fresh_nodes (n ∷ ns) = ap (λ others. n ∷ others) (fresh_nodes ns)

either : (P : Led → Type 0) (b : Bool) (x y : Led) → P x → P y → P (cond b x y)
either P true x y l r = l
either P false x y l r = r

pub drawn_counted : (place : Place) (learnt : ℕ) (own : FileHead) (members : List NodeId) → IsCounted members (draw_epoch place learnt own members).primary.tenure
unfolding draw_epoch
drawn_counted place learnt own members =
    let P : Led → Type 0 = λ led. IsCounted members led.primary.tenure in
    either P (nat_lt (epoch_above place learnt own).number COUNTS) _ _ (fresh_nodes members, tt) tt

-- A write.

abbrev GivesCounted : List NodeId → Option Led → Type 0
GivesCounted members None = Unit {0}
GivesCounted members (Some led) = IsCounted members led.primary.tenure

module _ (members : List NodeId) (g : Ground) (learnt : ℕ) where
  issues_counted : (t : Tenure) (head : FileHead) (update : Option Update) → IsCounted members (Some t) → IsCounted members (issues g learnt t head update).primary.tenure
  issues_counted t head None counted = counted
  issues_counted t head (Some update) counted = (counted.0, omega arith)

  unless_counted : (t : Tenure) (head : FileHead) (issued : Option IssuedUpdate) (id : OpId) (epoch : ℕ) (asked : Op) → IsCounted members (Some t)
      → GivesCounted members (issues_unless g learnt t head issued id epoch asked)
  unless_counted t head (Some issued) id epoch asked counted = tt
  unless_counted t head None id epoch asked counted = issues_counted t head (next_update_of g t head id epoch asked) counted

  stands_counted : (t : Tenure) (head : FileHead) (issued : Option IssuedUpdate) (id : OpId) (epoch : ℕ) (asked : Op) (s : WriteStanding) → IsCounted members (Some t)
      → GivesCounted members (write_stands g learnt t head issued id epoch asked s)
  stands_counted t head issued id epoch asked (repeated count) counted = counted
  stands_counted t head issued id epoch asked older counted = counted
  stands_counted t head issued id epoch asked (turned_away why) counted = counted
  stands_counted t head issued id epoch asked fresh counted = unless_counted t head issued id epoch asked counted

  in_counted : (t : Tenure) (p : Progress) (id : OpId) (epoch : ℕ) (asked : Op) → IsCounted members (Some t) → GivesCounted members (writes_in g learnt t p id epoch asked)
  in_counted t (progress.Active head issued) id epoch asked counted =
      stands_counted t head issued id epoch asked (standing OBJECTS g.place.stripe head id epoch asked) counted
  in_counted t progress.Gathering id epoch asked counted = tt
  in_counted t (progress.Fetching chosen source wanted later) id epoch asked counted = tt
  in_counted t (progress.Installing chosen acked) id epoch asked counted = tt

  under_counted : (tenure : Option Tenure) (id : OpId) (epoch : ℕ) (asked : Op) → IsCounted members tenure → GivesCounted members (writes_under g learnt tenure id epoch asked)
  under_counted None id epoch asked counted = tt
  under_counted (Some t) id epoch asked counted = in_counted t t.progress id epoch asked counted

writes_counted : (members : List NodeId) (g : Ground) (p : PrimaryState) (id : OpId) (epoch : ℕ) (asked : Op) → IsCounted members p.tenure
    → GivesCounted members (writes g p id epoch asked)
unfolding writes
writes_counted members g p id epoch asked counted = under_counted members g p.learnt p.tenure id epoch asked counted

-- a primary that was asked for a write, whatever came of it
pub issue_counted : {E : Type 0} (members : List NodeId) (place : Place) (records : List Record) (old new : PrimaryView) (id : OpId) (epoch : ℕ) (asked : Op) (r : Result (Option Turned) E)
    → IsCounted members old.state.tenure
    → IfOk r (λ led. (own : FileHead) (held : List ObjectVersion) → option_map (λ (turned : Turned). let l : Led = record { primary = new.state; turned = turned } in l) led ≡ writes (ground place records own held) old.state id epoch asked)
    → IfOk r (λ led. IfNone led (new ≡ old)) → OnErr r (new ≡ old)
    → IsCounted members new.state.tenure
issue_counted members place records old new id epoch asked (Err e) counted value waits same = subst (λ (v : PrimaryView). IsCounted members v.state.tenure) (sym same) counted
issue_counted members place records old new id epoch asked (Ok None) counted value waits same = subst (λ (v : PrimaryView). IsCounted members v.state.tenure) (sym waits) counted
issue_counted members place records old new id epoch asked (Ok (Some turned)) counted value waits same =
    let g = ground place records new_head [] in
    subst (GivesCounted members) (sym (value new_head [])) (writes_counted members g old.state id epoch asked counted)

-- a primary that was to begin, whatever came of it
pub begin_counted : {E : Type 0} (old new : PrimaryView) (own : FileHead) (members : List NodeId) (r : Result Turned E)
    → IsCounted members old.state.tenure
    → IfOk r (λ led. new ≡ record old { state = (draw_epoch old.place old.state.learnt own members).primary }) → OnErr r (new ≡ old)
    → IsCounted members new.state.tenure
begin_counted old new own members (Ok led) counted state same =
    subst (λ (v : PrimaryView). IsCounted members v.state.tenure) (sym state) (drawn_counted old.place old.state.learnt own members)
begin_counted old new own members (Err e) counted state same = subst (λ (v : PrimaryView). IsCounted members v.state.tenure) (sym same) counted

-- a call that leaves the place where it succeeds, and all where it fails
pub place_kept : {A E : Type 0} (old new : PrimaryView) (place : Place) (r : Result A E) → old.place ≡ place → IfOk r (λ a. new.place ≡ old.place) → OnErr r (new ≡ old)
    → new.place ≡ place
place_kept old new place (Ok a) is kept same = kept ∙ is
place_kept old new place (Err e) is kept same = ap (λ (v : PrimaryView). v.place) same ∙ is

pub place_begun : {A E : Type 0} (old new : PrimaryView) (state : PrimaryState) (place : Place) (r : Result A E) → old.place ≡ place → IfOk r (λ a. new ≡ record old { state = state })
    → OnErr r (new ≡ old) → new.place ≡ place
place_begun old new state place (Ok a) is kept same = ap (λ (v : PrimaryView). v.place) kept ∙ is
place_begun old new state place (Err e) is kept same = ap (λ (v : PrimaryView). v.place) same ∙ is
