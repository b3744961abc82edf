use Rattle.std.proofs.Common.{Some, length, sym, ◌∙◌, ap}
use Rattle.std.specs.Option.{option_map}
use Rattle.object_store.specs.Places.{bytes_at}
use Rattle.object_store.proofs.Looked.{as_many_there, there_told}
use Rattle.object_store.proofs.store.Store.find.Goals as goal

pub returns-in-Ok-clause-size : goal.returns-in-Ok-clause-size
returns-in-Ok-clause-size G c =
    let told = G.D.Disk.is_told in
    let read = (G.D.Disk.kept c.args.self.now.journal.disk).read in
    ap (option_map length) (sym (c.place.ensures.found told read) ∙ ap (option_map (bytes_at told read)) c.in-Some.is)
    ∙ ap Some (as_many_there told read c.in-Some.place c.in-Ok.bytes c.in-Ok.ensures.value c.in-Ok.ensures.size)

pub returns-in-Ok-clause-value : goal.returns-in-Ok-clause-value
returns-in-Ok-clause-value G c = λ is.
    let told = G.D.Disk.is_told in
    let read = (G.D.Disk.kept c.args.self.now.journal.disk).read in
    sym (c.place.ensures.found told read) ∙ ap (option_map (bytes_at told read)) c.in-Some.is
    ∙ ap Some (there_told told read c.in-Some.place is ∙ sym (c.in-Ok.ensures.value is))

pub look-requires : goal.look-requires
look-requires G c = rw c.in-Some.is at c.place.ensures.among
