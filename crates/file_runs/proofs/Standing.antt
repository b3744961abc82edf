-- An answer that shows the order shows the file, whose content is that of the operations begun.
use Rattle.std.proofs.Common.{◌≡◌, ℕ, List, [], ◌∷◌, map, Option, Some, refl, sym, ap, ◌∙◌, subst, inl, inr}
use Rattle.std.specs.List.{filter_map}
use Rattle.xt_base.specs.declared.ids.OpId.{OpId}
use Rattle.xt_messages.specs.declared.file.Op.{Op}
use Rattle.xt_messages.specs.declared.file.Op.TheVariants as op
use Rattle.time_line.specs.Content.{place_of, content_of, range_of}
use Rattle.time_line.specs.declared.entry.Entry.{Entry}
use Rattle.time_line.specs.declared.entry.Entry.TheVariants as entry
use Rattle.time_line.specs.TimeLine.{write_order, operation_begun, stripe_of}
use Rattle.time_line.specs.Clauses.{IsMoment, IsShown}
use Rattle.replica_safety.specs.Lists.{Has}
use Rattle.replica_runs.specs.Seen.{name_of}
use Rattle.file_runs.specs.Traces.{Shows, FitsShow}

all_begun : (g : OpId → Option Op) (ops : ℕ × ℕ → Op) (ids : List OpId) → ((id : OpId) → Has id ids → g id ≡ Some (ops (name_of id))) → filter_map g ids ≡ map ops (map name_of ids)
all_begun g ops [] are = refl
all_begun g ops (id ∷ ids) are = rw (are id (inl refl)) (ap (λ (os : List Op). ops (name_of id) ∷ os) (all_begun g ops ids (λ other has. are other (inr has))))

shown : (stripe file : ℕ) (ops : ℕ × ℕ → Op) (before : List Entry) (id : OpId) (count : ℕ) (bytes : List ℕ) (o : Op) → ((other : OpId) → Has other (write_order file before) → operation_begun file before other ≡ Some (ops (name_of other))) → Shows stripe ops (write_order file before) id count bytes o → IsShown stripe file before id count bytes (Some o)
shown stripe file ops before id count bytes (op.Read object at len) begun (long, content) =
    (long, content ∙ ap (λ (os : List Op). range_of (content_of stripe os) (place_of stripe object at) len) (sym (all_begun (operation_begun file before) ops (write_order file before) begun)))
shown stripe file ops before id count bytes (op.Write object at body) begun (some, place, none) = ((some, place), none)
shown stripe file ops before id count bytes (op.Truncate size) begun (some, place, none) = ((some, place), none)

pub stand : FitsShow
stand stripe ops file entries size issued have fit before node id count bytes is =
    subst (λ (o : Option Op). IsShown (stripe_of file entries) file before id count bytes o) (sym (have.answered before node id count bytes is))
    (subst (λ (n : ℕ). IsShown n file before id count bytes (Some (ops (name_of id)))) (sym size)
    (shown stripe file ops before id count bytes (ops (name_of id)) (λ other has. have.issued before other moment (issued before other moment has)) (fit before node id count bytes is)))
  where
    moment : IsMoment before entries
    moment = (entry.Answer node file id count bytes ∷ is.0, is.1)
