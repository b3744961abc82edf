use Rattle.std.proofs.Common.{Some, sym, ◌∙◌, ap}
use Rattle.std.proofs.lemmas.Result.{IfOk-weaker}
use Rattle.object_store.specs.Waits.{recs_of}
use Rattle.object_store.proofs.Layering.{kept_below, kept_here, kept_some}
use Rattle.object_store.proofs.layered.LayeredBodies.body.Goals as goal

-- a body of a record that waits
pub returns-in-Ok-clause-found : goal.returns-in-Ok-clause-found
returns-in-Ok-clause-found g c = λ records over.
    kept_here c.args.file.now c.args.object c.args.version.now over.lower (recs_of c.args.self.now.waiting.now) records over.are c.in-Some.bytes.now (sym c.in-Some.ensures)
    ∙ ap Some (sym c.in-Ok.ensures)

pub returns-in-Ok-clause-missing : goal.returns-in-Ok-clause-missing
returns-in-Ok-clause-missing g c = λ records over. (
  λ is. absurd cc,
  λ none.
      absurd
      (kept_some c.args.file.now c.args.object c.args.version.now over.lower (recs_of c.args.self.now.waiting.now) records over.are c.in-Some.bytes.now c.in-Some.ensures none),
)

pub returns-in-Err-clause-missing : goal.returns-in-Err-clause-missing
returns-in-Err-clause-missing g c = λ records over. (
  λ is. absurd cc,
  λ none.
      absurd
      (kept_some c.args.file.now c.args.object c.args.version.now over.lower (recs_of c.args.self.now.waiting.now) records over.are c.in-Some.bytes.now c.in-Some.ensures none),
)

-- any other body
pub returns-in-None-clause-found : goal.returns-in-None-clause-found
returns-in-None-clause-found g c =
    IfOk-weaker c.body-in-None.result _ _
    (λ bytes all records over.
    kept_below c.args.file.now c.args.object c.args.version.now over.lower (recs_of c.args.self.now.waiting.now) records over.are (sym c.in-None.ensures) ∙ all over.lower over.agree)
    c.body-in-None.ensures.found

pub returns-in-None-clause-missing : goal.returns-in-None-clause-missing
returns-in-None-clause-missing g c = λ records over.
    let same = kept_below c.args.file.now c.args.object c.args.version.now over.lower (recs_of c.args.self.now.waiting.now) records over.are (sym c.in-None.ensures) in
    let missing = c.body-in-None.ensures.missing over.lower over.agree in
    (λ is. same ∙ missing.0 is, λ none. missing.1 (sym same ∙ none))

pub returns-in-None-clause-later : goal.returns-in-None-clause-later
returns-in-None-clause-later g c = λ records over. record { lower = over.lower; agree = c.body-in-None.ensures.later over.lower over.agree; are = over.are }
