-- a write by how it stands, as the code reports it
use Rattle.std.proofs.Common.{◌≡◌, ℕ, Option, Some, [], ap, refl}
use Rattle.xt_base.specs.declared.ids.OpId.{OpId}
use Rattle.xt_messages.specs.declared.file.Op.{Op}
use Rattle.xt_messages.specs.declared.file.FileHead.{FileHead}
use Rattle.xt_messages.specs.declared.reply.Reply.{Reply}
use Rattle.xt_protocol.specs.declared.states.IssuedUpdate.{IssuedUpdate}
use Rattle.xt_protocol.specs.declared.states.Tenure.{Tenure}
use Rattle.xt_protocol.specs.Turns.{answers, tells}
use Rattle.xt_protocol.specs.Writes as rows
use Rattle.xt_protocol.specs.Primaries.{Ground}
use Rattle.xt_protocol.specs.PrimaryRows.{goes_on, unmoved}
use Rattle.xt_protocol.specs.Serving.{write_stands, issues_unless}
use Rattle.osd_decisions.specs.declared.judging.WriteStanding.TheVariants as standing
use Rattle.osd_decisions.specs.Shown.{shown_standing}

module _ (g : Ground) (learnt : ℕ) (t : Tenure) (head : FileHead) (issued : Option IssuedUpdate) (id : OpId) (epoch : ℕ) (asked : Op) where
  pub by_repeated : (s : rows.WriteStanding) (count : ℕ) → standing.Repeated count ≡ shown_standing s
      → Some (goes_on learnt t (answers g.place.node g.place.file id count head.mark [])) ≡ write_stands g learnt t head issued id epoch asked s
  by_repeated (rows.repeated n) count is = let same : count ≡ n = cc in ap (λ c. Some (goes_on learnt t (answers g.place.node g.place.file id c head.mark []))) same
  by_repeated rows.older count is = absurd cc
  by_repeated (rows.turned_away why) count is = absurd cc
  by_repeated rows.fresh count is = absurd cc

  pub by_older : (s : rows.WriteStanding) → standing.Older ≡ shown_standing s → Some (unmoved learnt t) ≡ write_stands g learnt t head issued id epoch asked s
  by_older (rows.repeated n) is = absurd cc
  by_older rows.older is = refl
  by_older (rows.turned_away why) is = absurd cc
  by_older rows.fresh is = absurd cc

  pub by_turned_away : (s : rows.WriteStanding) (why : Reply) → standing.TurnedAway why ≡ shown_standing s
      → Some (goes_on learnt t (tells g.place.node g.place.file id why)) ≡ write_stands g learnt t head issued id epoch asked s
  by_turned_away (rows.repeated n) why is = absurd cc
  by_turned_away rows.older why is = absurd cc
  by_turned_away (rows.turned_away other) why is = let same : why ≡ other = cc in ap (λ r. Some (goes_on learnt t (tells g.place.node g.place.file id r))) same
  by_turned_away rows.fresh why is = absurd cc

  pub by_fresh : (s : rows.WriteStanding) → standing.Fresh ≡ shown_standing s → issues_unless g learnt t head issued id epoch asked ≡ write_stands g learnt t head issued id epoch asked s
  by_fresh (rows.repeated n) is = absurd cc
  by_fresh rows.older is = absurd cc
  by_fresh (rows.turned_away why) is = absurd cc
  by_fresh rows.fresh is = refl
