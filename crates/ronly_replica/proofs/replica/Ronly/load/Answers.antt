use Rattle.std.proofs.Common.{◌≡◌, ◌∷◌, [], length, refl, ap, sym, ◌∙◌, List}
use Rattle.xt_messages.specs.declared.record.Folded.{Folded}
use Rattle.xt_protocol.specs.Folds.{fold_of}
use Rattle.object_store.specs.Access.{records_of}
use Rattle.object_store.proofs.BareFolds.{fold_bare}
use Rattle.ronly_replica.specs.declared.pin.Pin.{Pin}
use Rattle.ronly_replica.specs.Pins.{pins_of, last_of}
use Rattle.ronly_replica.specs.Making.{pins_in}
use Rattle.ronly_replica.proofs.Loading.{loaded_pinned, the_pin, no_pin}
use Rattle.ronly_replica.proofs.replica.Ronly.load.Goals as goal
use Rattle.ronly_replica.proofs.replica.Ronly.load.Goals.{in_default-via-in-Some+else-pins-eq1, in_default-via-in_default}

pub invariant_of-result : goal.invariant_of-result
invariant_of-result g c =
    let records = records_of c.args.store in
    let same : pins_of c.in-Ok.folded.files ≡ pins_in records = ap (λ (f : Folded). pins_of f.files) (c.in-Ok.ensures ∙ ap fold_of c.records.ensures ∙ fold_bare records) in
    let the : pins_in records ≡ c.in-Some.pin ∷ []
    = the_pin (pins_in records) c.in-Some.pin (ap (λ (p : List Pin). length p) (sym same) ∙ sym c.pins_in-pins.ensures.count ∙ c.if-pins-eq1.true)
    (ap last_of (sym same) ∙ sym c.pins_in-pins.ensures.last ∙ c.in-Some.is) in
    record { fits = loaded_pinned records c.in-Some.pin c.args.store.sound the }

pub returns-in-Some : goal.returns-in-Some
returns-in-Some g c =
    let records = records_of c.args.store in
    let same : pins_of c.in-Ok.folded.files ≡ pins_in records = ap (λ (f : Folded). pins_of f.files) (c.in-Ok.ensures ∙ ap fold_of c.records.ensures ∙ fold_bare records) in (
      refl,
      the_pin (pins_in records) c.in-Some.pin (ap (λ (p : List Pin). length p) (sym same) ∙ sym c.pins_in-pins.ensures.count ∙ c.if-pins-eq1.true)
          (ap last_of (sym same) ∙ sym c.pins_in-pins.ensures.last ∙ c.in-Some.is),
    )

pub returns : goal.returns
returns g c =
    let records = records_of c.args.store in
    let same : pins_of c.in-Ok.folded.files ≡ pins_in records = ap (λ (f : Folded). pins_of f.files) (c.in-Ok.ensures ∙ ap fold_of c.records.ensures ∙ fold_bare records) in (
      refl,
      c.pins_in-pins.ensures.count ∙ ap (λ (p : List Pin). length p) same,
      (λ one. elim c.in_default.branch as (λ w. ⊥) [
        | in_default-via-in-Some+else-pins-eq1 w ↦ w.if-pins-eq1.false one
        | in_default-via-in_default w ↦ no_pin (pins_of c.in-Ok.folded.files) (sym c.pins_in-pins.ensures.last ∙ w.in_default.is) (sym c.pins_in-pins.ensures.count ∙ one)
      ]),
    )
