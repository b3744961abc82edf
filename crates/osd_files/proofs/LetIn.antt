-- what an ask that is let in does, by what the code stores
use Rattle.std.proofs.Common.{◌≡◌, ◌∙◌, ℕ, refl, ap, sym, Option, Some, None, true}
use Rattle.std.specs.Prelude.{is_some}
use Rattle.xt_base.specs.declared.ids.OpId.{OpId}
use Rattle.xt_messages.specs.declared.file.Location.{Location}
use Rattle.xt_messages.specs.declared.file.Capability.{Capability}
use Rattle.xt_messages.specs.declared.file.Op.{Op}
use Rattle.xt_protocol.specs.declared.turned.Turned.{Turned}
use Rattle.xt_protocol.specs.declared.states.WaitingAsk.{WaitingAsk}
use Rattle.xt_protocol.specs.FileStates.{FileState, Site, steps_to, and_then}
use Rattle.xt_protocol.specs.Turns.{keeps}
use Rattle.xt_protocol.specs.AskRows.{ask_rows, ask_let_in, view_record, waiting_ask, handle_ask, refusal_of}
use Rattle.xt_messages.specs.declared.reply.Reply.{Reply}
use Rattle.osd_files.specs.Asking.{first_list, list_after}
use Rattle.osd_files.proofs.Rows.{behind_it}

-- the file with this list, used now
abbrev listed : FileState → ℕ → Option Location → FileState
listed s now location = record s { kept = record s.kept { location = location }; used = now }

stores : (site : Site) (s : FileState) (location : Location) (ask : WaitingAsk) (o : Option Location) → s.kept.location ≡ o
    → and_then (steps_to (record s { used = site.now }) (keeps (view_record s location o))) (λ state. ask_rows site state ask)
    ≡ behind_it (keeps (first_list s.kept.file location o)) (ask_rows site (listed s site.now (list_after o location)) ask)
stores site s location ask None is = refl
stores site s location ask (Some stored) is =
    ap (λ (l : Option Location). behind_it (keeps None) (ask_rows site (listed s site.now l) ask)) is

-- an ask on a file whose list is stored
pub let_again : (site : Site) (s : FileState) (id : OpId) (capability : Capability) (asked : Op) (ask : WaitingAsk) → is_some s.kept.location ≡ true → ask ≡ waiting_ask site id capability.epoch asked
    → ask_let_in site s id capability asked None ≡ ask_rows site (record s { used = site.now }) ask
let_again site s id capability asked ask is_stored is =
    by s.kept.location is_stored ∙ ap (λ (a : WaitingAsk). ask_rows site (record s { used = site.now }) a) (sym is)
  where
    made : WaitingAsk
    made = waiting_ask site id capability.epoch asked

    by : (o : Option Location) → is_some o ≡ true
        → and_then (steps_to (record s { used = site.now }) (keeps (view_record s capability.location o))) (λ state. ask_rows site state made) ≡ ask_rows site (record s { used = site.now }) made
    by None none = absurd cc
    by (Some stored) some = refl

pub let_row : (site : Site) (s : FileState) (id : OpId) (capability : Capability) (asked : Op) (kept : Turned) (location : Option Location) (ask : WaitingAsk)
    → kept ≡ keeps (first_list s.kept.file capability.location s.kept.location) → location ≡ list_after s.kept.location capability.location
    → ask ≡ waiting_ask site id capability.epoch asked
    → ask_let_in site s id capability asked None ≡ behind_it kept (ask_rows site (listed s site.now location) ask)
let_row site s id capability asked kept location ask is-kept is-list is-ask =
    let made = waiting_ask site id capability.epoch asked in
    let list = list_after s.kept.location capability.location in
    stores site s capability.location made s.kept.location refl
    ∙ ap (λ (t : Turned). behind_it t (ask_rows site (listed s site.now list) made)) (sym is-kept)
    ∙ ap (λ (l : Option Location). behind_it kept (ask_rows site (listed s site.now l) made)) (sym is-list)
    ∙ ap (λ (a : WaitingAsk). behind_it kept (ask_rows site (listed s site.now location) a)) (sym is-ask)

-- an ask by what it is answered before any row
pub handled : (site : Site) (s : FileState) (id : OpId) (capability : Capability) (asked : Op) (o : Option Reply) → o ≡ refusal_of site s.kept.location capability asked
    → handle_ask site s id capability asked ≡ ask_let_in site s id capability asked o
unfolding handle_ask
handled site s id capability asked o is = ap (λ (x : Option Reply). ask_let_in site s id capability asked x) (sym is)
