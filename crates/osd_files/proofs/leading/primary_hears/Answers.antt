use Rattle.std.proofs.Common.{◌≡◌, ◌∙◌, ap, refl, subst, sym, List, Bool, false, true, None}
use Rattle.std.specs.List.{AllByRecursion}
use Rattle.xt_messages.specs.declared.file.Capability.{Capability}
use Rattle.xt_messages.specs.declared.record.Record.{Record}
use Rattle.xt_protocol.specs.LeaseRows.{LeaseState}
use Rattle.xt_protocol.specs.declared.turned.Turned.{Turned}
use Rattle.xt_protocol.specs.SeenBodies.{body_by}
use Rattle.flease.specs.Moves.{turn_of}
use Rattle.xt_protocol.specs.FileStates.{FileStep}
use Rattle.xt_protocol.specs.FileSteps.{primary_hears}
use Rattle.xt_protocol.specs.Turns.{joined, quiet}
use Rattle.xt_protocol.specs.declared.states.Asks.{Asks}
use Rattle.osd_invariants.specs.OpenAsks.{IsWithinLimits}
use Rattle.osd_invariants.specs.Sound.{IsStored}
use Rattle.osd_files.specs.Answers.{HasTurn}
use Rattle.osd_files.specs.Light.{asks_rest}
use Rattle.osd_files.specs.Rows.{IsRowBy}
use Rattle.osd_files.specs.Serves.{AsksFollow}
use Rattle.osd_files.specs.Views.{shown, site_at}
use Rattle.osd_files.proofs.Followed.{followed_row, same_asks, same_lease, same_list, unheard}
use Rattle.osd_files.proofs.Lightly.{still_rest}
use Rattle.osd_files.proofs.Rows.{on_err, reads_behind, rest_ok}
use Rattle.osd_files.proofs.Waiting.{joined_quiet}
use Rattle.osd_files.proofs.Wakes.{held_by_turn, none_of, stored_by_turn}
use Rattle.osd_files.proofs.leading.primary_hears.Goals as goal

no_seal : Capability → Bool
no_seal capability = true

pub primary_led-requires-clause-turn : goal.primary_led-requires-clause-turn
primary_led-requires-clause-turn g c = sym c.has_turn.ensures ∙ c.if-not-has_turn.false

pub primary_led-requires-clause-stored : goal.primary_led-requires-clause-stored
primary_led-requires-clause-stored g c =
    let f = c.args.file.now in
    stored_by_turn f.lease c.args.now f.lead.location (sym c.has_turn.ensures ∙ c.if-not-has_turn.false) c.requires.stored

pub asks_follow-followed-requires-clause-turn : goal.asks_follow-followed-requires-clause-turn
asks_follow-followed-requires-clause-turn g c =
    let f = c.args.file.now in
    let one = g.B.Bodies.some c.primary_led.new.bodies in
    let same = same_lease f.awake c.args.now no_seal one.0 (shown f).state c.args.from c.args.content.now (shown c.primary_led.new.file) c.in_ok-led.led (c.in_ok-led.ensures.row one.0 one.1 no_seal) in
    let P : LeaseState → Type 0 = λ l. HasTurn l c.args.now in
    subst P same (sym c.has_turn.ensures ∙ c.if-not-has_turn.false)

pub asks_follow-followed-requires-clause-stored : goal.asks_follow-followed-requires-clause-stored
asks_follow-followed-requires-clause-stored g c =
    let f = c.args.file.now in
    let one = g.B.Bodies.some c.primary_led.new.bodies in
    let same = same_list f.awake c.args.now no_seal one.0 (shown f).state c.args.from c.args.content.now (shown c.primary_led.new.file) c.in_ok-led.led (c.in_ok-led.ensures.row one.0 one.1 no_seal) in
    subst IsStored (sym same) (stored_by_turn f.lease c.args.now f.lead.location (sym c.has_turn.ensures ∙ c.if-not-has_turn.false) c.requires.stored)

pub asks_follow-followed-requires-clause-fits : goal.asks_follow-followed-requires-clause-fits
asks_follow-followed-requires-clause-fits g c =
    let f = c.args.file.now in
    let one = g.B.Bodies.some c.primary_led.new.bodies in
    let same = same_asks f.awake c.args.now no_seal one.0 (shown f).state c.args.from c.args.content.now (shown c.primary_led.new.file) c.in_ok-led.led (c.in_ok-led.ensures.row one.0 one.1 no_seal) in
    let P : Asks → Type 0 = λ a. AllByRecursion IsWithinLimits a.waiting in
    subst P same c.requires.fits

pub returns-clause-row : goal.returns-clause-row
returns-clause-row g c =
    let f = c.args.file.now in
    let now = c.args.now in
    let from = c.args.from in
    let content = c.args.content.now in
    let by = held_by_turn f.lease c.args.now (sym c.has_turn.ensures ∙ c.if-not-has_turn.false) in
    let agrees = g.B.Bodies.agrees c.asks_follow-followed.new.bodies in
    let mid = shown c.primary_led.new.file in
    let new = shown c.asks_follow-followed.new.file in
    let led = c.in_ok-led.led in
    let was = c.is_ready-was_ready.result in
    let P : Turned → Type 0 = λ turned. (records : List Record) → agrees records → AsksFollow was records mid new turned in
    let Q : Turned → Type 0 = λ turned. (records : List Record) → agrees records → IsRowBy (λ site s. primary_hears site s s.lease from content) now (body_by records) (shown f) new turned in
    let all : (second turned : Turned) → P second → turned ≡ joined led second → Q turned = λ second turned of is records agree sealed.
    let follow = subst (λ (b : Bool). AsksFollow b records mid new second) c.is_ready-was_ready.ensures (of records agree) in
    let row = c.in_ok-led.ensures.row records (c.asks_follow-followed.ensures.reads.later records agree) sealed in
    followed_row f.awake now sealed records (shown f).state from content by.0 mid new led second turned by.1 row follow is
    in
    rest_ok P Q led c.asks_follow-followed.result c.join_rest.result all c.join_rest.ensures.joined c.asks_follow-followed.ensures.followed

pub returns-clause-reads : goal.returns-clause-reads
returns-clause-reads g c =
    let agrees = g.B.Bodies.agrees in
    let faults = g.B.Bodies.fault_count in
    let old = c.args.bodies.now in
    let mid = c.primary_led.new.bodies in
    reads_behind agrees faults old mid _ _ _ c.join_rest.ensures.failed c.in_ok-led.ensures.reads c.asks_follow-followed.ensures.reads

pub returns-then-not-has_turn-clause-row : goal.returns-then-not-has_turn-clause-row
returns-then-not-has_turn-clause-row g c =
    λ records agree sealed.
    let f = c.args.file.now in
    let old = shown f in
    let site = site_at old.awake c.args.now sealed (body_by records) in
    let none : turn_of f.lease c.args.now ≡ None = none_of (turn_of f.lease c.args.now) (sym c.has_turn.ensures ∙ c.if-not-has_turn.true) in
    record {
      here = refl;
      step =
          unheard site old.state c.args.from c.args.content.now none c.requires.settled
          ∙ ap (λ (t : Turned). let made : FileStep = record { state = old.state; turned = t } in made) (sym c.quiet.ensures);
    }

pub returns-then-asks_rest-clause-row : goal.returns-then-asks_rest-clause-row
returns-then-asks_rest-clause-row g c =
    λ records agree sealed.
    let f = c.args.file.now in
    let by = held_by_turn f.lease c.args.now (sym c.has_turn.ensures ∙ c.if-not-has_turn.false) in
    let mid = shown c.primary_led.new.file in
    let new = shown c.asks_settle.new.file in
    let led = c.in_ok-led.led in
    let follow = subst (λ (b : Bool). AsksFollow b records mid new quiet) c.is_ready-was_ready.ensures (c.asks_settle.ensures records) in
    followed_row f.awake c.args.now sealed records (shown f).state c.args.from c.args.content.now by.0 mid new led quiet led by.1 (c.in_ok-led.ensures.row records agree sealed) follow (sym (joined_quiet led))

pub returns-clause-same : goal.returns-clause-same
returns-clause-same g c =
    let f = c.args.file.now in
    let mid = shown c.primary_led.new.file in
    let one = g.B.Bodies.some c.primary_led.new.bodies in
    let row = c.in_ok-led.ensures.row one.0 one.1 no_seal in
    on_err c.join_rest.result _
    (λ light rest.
    let is = still_rest f.awake c.args.now no_seal one.0 (shown f).state c.args.from c.args.content.now mid c.in_ok-led.led row light rest in
    let not : asks_rest mid.state ≡ false = sym c.asks_rest.ensures ∙ c.if-asks_rest.false in
    absurd (let clash : true ≡ false = sym is ∙ not in cc))
