-- which way a step ends
use Rattle.std.proofs.Common.{◌≡◌, ℕ, Option, Some, None, Result, List, [], ◌∷◌, ◌++◌, refl, ap, sym, ◌∙◌, subst}
use Rattle.std.specs.Option.{option_map}
use Rattle.disk_model.specs.declared.plan.Stop.{Stop}
use Rattle.xt_messages.specs.declared.message.Msg.{Msg}
use Rattle.xt_messages.specs.declared.record.Record.{Record}
use Rattle.xt_protocol.specs.declared.turned.Turned.{Turned}
use Rattle.world_spec.specs.World.{Node, Running}
use Rattle.world_spec.specs.NodeSteps.{Room, Cause, Doing, end_of_step, appends, sends, loses_own, stopped_in_append, cut_in_sending, after_turn, to_itself}
use Rattle.world_hull.specs.declared.errors.WorldErr.{WorldErr}
use Rattle.world_host.specs.declared.running.Moment.{Moment}
use Rattle.world_host.specs.Turns.{moment_of}
use Rattle.world_step.specs.declared.ending.Ending.{Ending}
use Rattle.world_step.specs.declared.ending.Ending.TheVariants as ending
use Rattle.world_nodes.specs.Nodes.{IsAt}
use Rattle.world_step.specs.Steps.{Working, IsStepped}
use Rattle.world_step.specs.Endings.{ending_of, ended}

module _ (room : Room) (d : Doing) (node : Node) (running : Running) (turned : Turned) where
  abbrev gives : Option Stop → Option ℕ → Option Record → List Msg → Doing
  gives (Some stop) cut (Some rec) outs = loses_own d (stopped_in_append d.world node running stop rec)
  gives crash cut rec outs = sends d node running cut outs turned

  -- what comes of the step that ends so
  abbrev pub way : Ending → Option Record → List Msg → Doing
  way ending.Whole rec outs = record d { world = after_turn d.world node running turned; own = d.own ++ to_itself node.id outs }
  way (ending.InSending count) rec outs = loses_own d (cut_in_sending d.world node running count turned)
  way (ending.InAppend stop) (Some rec) outs = loses_own d (stopped_in_append d.world node running stop rec)
  way (ending.InAppend stop) None outs = d

  appends_is : (crash : Option Stop) (rec : Option Record) → appends d node running crash rec turned ≡ gives crash running.cut rec turned.outs
  appends_is None rec = refl
  appends_is (Some stop) None = refl
  appends_is (Some stop) (Some rec) = refl

  gives_is : (crash : Option Stop) (cut : Option ℕ) (rec : Option Record) (outs : List Msg) → gives crash cut rec outs ≡ way (ending_of crash cut rec outs) rec outs
  gives_is (Some stop) cut (Some rec) outs = refl
  gives_is (Some stop) None None outs = refl
  gives_is (Some stop) (Some count) None [] = refl
  gives_is (Some stop) (Some count) None (out ∷ outs) = refl
  gives_is None None rec outs = refl
  gives_is None (Some count) rec [] = refl
  gives_is None (Some count) rec (out ∷ outs) = refl

  end_by : (e : Ending) (moment : Moment) → moment ≡ moment_of running → e ≡ ending_of moment.crash moment.cut turned.rec turned.outs
      → end_of_step room d node running (record { state = running.core; turned = turned }) ≡ ended room node turned.rec (way e turned.rec turned.outs)
  end_by e moment is so =
      ap (ended room node turned.rec)
      (appends_is running.crash turned.rec ∙ gives_is running.crash running.cut turned.rec turned.outs
      ∙ ap (λ (k : Ending). way k turned.rec turned.outs) (ap (λ (m : Moment). ending_of m.crash m.cut turned.rec turned.outs) (sym is) ∙ sym so))

pub the_moment : (node : Node) (running : Running) (moment : Moment) (found : Option Moment) → node.up ≡ Some running → found ≡ Some moment → found ≡ option_map moment_of node.up → moment ≡ moment_of running
the_moment node running moment found up is so = the_same moment (moment_of running) (sym is ∙ so ∙ ap (option_map moment_of) up)
  where
    the_same : (a b : Moment) → Some a ≡ Some b → a ≡ b
    the_same a b e = cc

pub no_moment : (node : Node) (running : Running) (found : Option Moment) → node.up ≡ Some running → found ≡ None → found ≡ option_map moment_of node.up → ⊥
no_moment node running found up is so = (let e : None ≡ Some (moment_of running) = sym is ∙ so ∙ ap (option_map moment_of) up in cc e)

pub no_append : (stop : Stop) (crash : Option Stop) (cut : Option ℕ) (outs : List Msg) → ending.InAppend stop ≡ ending_of crash cut None outs → ⊥
no_append stop None None outs e = cc e
no_append stop None (Some count) [] e = cc e
no_append stop None (Some count) (out ∷ outs) e = cc e
no_append stop (Some s) None outs e = cc e
no_append stop (Some s) (Some count) [] e = cc e
no_append stop (Some s) (Some count) (out ∷ outs) e = cc e

-- the step of a node that runs ends so
pub step_ends : (T : Type 0) (room : Room) (was self new : Working) (place : ℕ) (node : Node) (running : Running) (turned : Turned) (moment : Moment) (found : Option Moment) (e : Ending) (r : Result T WorldErr)
    → was ≡ self → IsAt self.doing.world.nodes place node → node.up ≡ Some running → found ≡ Some moment → ((n : Node) → IsAt was.doing.world.nodes place n → found ≡ option_map moment_of n.up)
    → e ≡ ending_of moment.crash moment.cut turned.rec turned.outs
    → (IsAt was.doing.world.nodes place node → running.clock ≡ moment.clock → running.crash ≡ moment.crash → IsStepped {T = T} was (ended room node turned.rec (way room was.doing node running turned e turned.rec turned.outs)) new r)
    → IsStepped {T = T} self (end_of_step room self.doing node running (record { state = running.core; turned = turned })) new r
step_ends T room was self new place node running turned moment found e r is at up got told so ends =
    let there = subst (λ (x : Working). IsAt x.doing.world.nodes place node) (sym is) at in
    let m : moment ≡ moment_of running = the_moment node running moment found up got (told node there) in
    subst (λ (x : Working). IsStepped {T = T} x (end_of_step room x.doing node running (record { state = running.core; turned = turned })) new r) is
    (subst (λ (k : Result Doing Cause). IsStepped {T = T} was k new r) (sym (end_by room was.doing node running turned e moment m so))
    (ends there (sym (ap (λ (x : Moment). x.clock) m)) (sym (ap (λ (x : Moment). x.crash) m))))
