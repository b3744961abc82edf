use Rattle.std.proofs.Common.{◌++◌, ap, List, sym, ◌∙◌}
use Rattle.change_rows.specs.Coordinating.{Running}
use Rattle.list_coordinator.specs.Wakes.{asked_before, first_ripe}
use Rattle.list_coordinator.proofs.Wakes.{none_woken, place_within, some_woken_if}
use Rattle.list_coordinator.proofs.changes.Changes.wake.Goals as goal

pub choose-requires : goal.choose-requires
choose-requires c =
    place_within c.args.now c.args.self.now.files.items c.in-Some.ripe
    (sym (ap (first_ripe c.args.now) c.as_slice.ensures.value) ∙ sym c.in_ok-first_ripe.ensures.ripe ∙ c.in-Some.is)

pub returns-in-None-clause-turned : goal.returns-in-None-clause-turned
returns-in-None-clause-turned c =
    let none = sym c.in-None.is ∙ c.in_ok-first_ripe.ensures.ripe ∙ ap (first_ripe c.args.now) c.as_slice.ensures.value in
    let asked = c.in_ok-first_ripe.ensures.asked ∙ ap (λ (xs : List Running). c.args.outs ++ asked_before c.args.now xs) c.as_slice.ensures.value in
    c.sends.ensures ∙ (none_woken c.args.now c.args.self.now.files.items c.args.outs c.first_ripe.new.outs none asked).0

pub returns-in-None-clause-running : goal.returns-in-None-clause-running
returns-in-None-clause-running c =
    let none = sym c.in-None.is ∙ c.in_ok-first_ripe.ensures.ripe ∙ ap (first_ripe c.args.now) c.as_slice.ensures.value in
    let asked = c.in_ok-first_ripe.ensures.asked ∙ ap (λ (xs : List Running). c.args.outs ++ asked_before c.args.now xs) c.as_slice.ensures.value in
    (none_woken c.args.now c.args.self.now.files.items c.args.outs c.first_ripe.new.outs none asked).1

pub returns-in-Some-clause-turned : goal.returns-in-Some-clause-turned
returns-in-Some-clause-turned c =
    let some = sym c.in-Some.is ∙ c.in_ok-first_ripe.ensures.ripe ∙ ap (first_ripe c.args.now) c.as_slice.ensures.value in
    let asked = c.in_ok-first_ripe.ensures.asked ∙ ap (λ (xs : List Running). c.args.outs ++ asked_before c.args.now xs) c.as_slice.ensures.value in
    (some_woken_if c.choose.result c.args.now c.args.self.now.files.items c.choose.new.self.files.items c.args.outs c.first_ripe.new.outs c.in-Some.ripe some asked c.choose.ensures.ok).0

pub returns-in-Some-clause-running : goal.returns-in-Some-clause-running
returns-in-Some-clause-running c =
    let some = sym c.in-Some.is ∙ c.in_ok-first_ripe.ensures.ripe ∙ ap (first_ripe c.args.now) c.as_slice.ensures.value in
    let asked = c.in_ok-first_ripe.ensures.asked ∙ ap (λ (xs : List Running). c.args.outs ++ asked_before c.args.now xs) c.as_slice.ensures.value in
    (some_woken_if c.choose.result c.args.now c.args.self.now.files.items c.choose.new.self.files.items c.args.outs c.first_ripe.new.outs c.in-Some.ripe some asked c.choose.ensures.ok).1
