use Rattle.std.proofs.Common.{[], ◌<◌, Some, sym, ◌∙◌, ap, arith, length}
use Rattle.std.specs.Option.{option_map}
use Rattle.replica_records.specs.declared.places.BodyKey.{BodyKey}
use Rattle.replica_records.specs.Places.{body_at}
use Rattle.object_store.specs.Logs.{records_in}
use Rattle.object_store.specs.Places.{bytes_at}
use Rattle.object_store.proofs.Filled.{as_many, body_at_place, length-filled}
use Rattle.object_store.proofs.log.StoreLog.place.Goals as goal
use Rattle.object_store.proofs.log.StoreLog.place.Goals.{In-Some}

inside : (c : In-Some) → c.in-Some.index < length c.args.self.now.bodies.items
inside c =
    let log = c.args.self.now in
    let key : BodyKey = record { file = c.args.file.now; object = c.args.object; version = c.args.version.now } in
    let within = (log.found (λ p. [])).inside key c.in-Some.index (sym c.place.ensures ∙ c.in-Some.is) in
    omega (arith, within, length-filled (λ p. []) log.records.items log.bodies.items log.pairs, as_many log.records.items log.bodies.items log.pairs)

pub index-requires : goal.index-requires
index-requires c =
    let is = inside ((goal.at.index-requires c).In-Some) in
    omega (arith, is, c.args.self.now.bodies.ok.0)

pub returns-in-Some-clause-found : goal.returns-in-Some-clause-found
returns-in-Some-clause-found c = λ told read.
    let log = c.args.self.now in
    let key : BodyKey = record { file = c.args.file.now; object = c.args.object; version = c.args.version.now } in
    let is = inside ((goal.at.returns-in-Some-clause-found c).In-Some) in
    ap (λ p. Some (bytes_at told read p)) c.index.ensures
    ∙ ap Some (sym (body_at_place told read log.records.items log.bodies.items c.in-Some.index c.index.result.now log.pairs is))
    ∙ ap (option_map (body_at (records_in told read log))) (sym c.in-Some.is ∙ c.place.ensures)
    ∙ (log.found (bytes_at told read)).found key

pub returns-in-Some-clause-among : goal.returns-in-Some-clause-among
returns-in-Some-clause-among c = (c.in-Some.index, inside ((goal.at.returns-in-Some-clause-among c).In-Some), sym c.index.ensures)
