use Rattle.std.proofs.Common.{sym, ◌∙◌, subst, ℕ, Some}
use Rattle.std.specs.BTreeMap.{Updates}
use Rattle.replica_records.specs.Places.{body_cmp}
use Rattle.replica_records.proofs.Placing.{ok_of, at_ok}
use Rattle.replica_records.proofs.Placing.{with_place, with_none}
use Rattle.replica_records.proofs.places.Places.put.Goals as goal

pub unwrap-before-requires : goal.unwrap-before-requires
unwrap-before-requires c =
    ok_of c.insert-put.result c.insert-put.ensures.absent (c.requires c.in-Some.key (sym c.of.ensures ∙ c.in-Some.is))

pub returns-in-Some : goal.returns-in-Some
returns-in-Some c = λ records like same is are.
    let puts = sym c.of.ensures ∙ c.in-Some.is in
    let done = ok_of c.insert-put.result c.insert-put.ensures.absent (c.requires c.in-Some.key puts) in
    with_place records like c.args.self.now _ c.in-Some.key (same ∙ puts)
    (subst (λ (place : ℕ). Updates body_cmp c.args.self.now.places c.insert-put.new.self c.in-Some.key (Some (Some place))) is
    (at_ok c.insert-put.result done c.insert-put.ensures.updates)) are

pub returns-in_default : goal.returns-in_default
returns-in_default c = λ records like same is are. with_none records like c.args.self.now (same ∙ sym c.of.ensures ∙ c.in_default.is) are
