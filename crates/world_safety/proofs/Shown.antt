-- what a file's world shows after what changes nothing of it, and after events more
use Rattle.std.proofs.Common.{◌≡◌, ℕ, inl, inr, List, [], ◌∷◌, ◌++◌, map, refl, ap, sym, ◌∙◌, subst, Some, None, false}
use Rattle.std.specs.Prelude.{◌⊎◌, ◌==◌}
use Rattle.std.proofs.lemmas.List.{append-nil, append_assoc}
use Rattle.xt_base.specs.declared.ids.NodeId.{NodeId}
use Rattle.xt_base.specs.declared.ids.FileId.{FileId}
use Rattle.xt_messages.specs.declared.event.Mark.{Mark}
use Rattle.xt_messages.specs.declared.event.Mark.TheVariants as mark
use Rattle.xt_messages.specs.declared.file.Op.{Op}
use Rattle.xt_messages.specs.declared.message.Msg.{Msg}
use Rattle.xt_protocol.specs.LeaseRows.{LeaseState}
use Rattle.xt_protocol.specs.OsdSteps.{file_concerned}
use Rattle.osd_invariants.specs.Sound.{IsHeld}
use Rattle.lease_runs.specs.ActsView.{MarksAre, no_marks, won, acting}
use Rattle.replica_safety.specs.Lists.{Has}
use Rattle.replica_runs.specs.HeadWorld.{shown}
use Rattle.file_runs.specs.FileRuns.{FileWorld, first_world, Tale, after_all}
use Rattle.time_line.specs.declared.entry.Entry.{Entry}
use Rattle.time_line.specs.declared.entry.Entry.TheVariants as entry
use Rattle.time_line.specs.TimeLine.{operation_begun}
use Rattle.time_line.specs.Clauses.{acts_on}
use Rattle.world_spec.specs.World.{World, known}
use Rattle.world_spec.specs.NodeSteps.{entry_of}
use Rattle.world_runs.specs.View.{messages}
use Rattle.world_runs.specs.Worlds.{Leads}
use Rattle.world_runs.proofs.Standings.{AreInert}
use Rattle.world_runs.proofs.Entries.{operation-grown}
use Rattle.world_safety.specs.Seen.{Sees}
use Rattle.world_safety.specs.Tellings.{TellsAs}
use Rattle.world_safety.specs.Asks.{AreOperations, KnownList}
use Rattle.world_safety.specs.Runs.{IsShownBy, LeadsTo, FilesAreRuns}
use Rattle.world_safety.proofs.Rooms.{may_append, after_append}
use Rattle.world_safety.proofs.Tellings.{telling}

-- ---- entries that say nothing of a file

abbrev pub SaysNothing : ℕ → List Entry → Type 0
SaysNothing number more =
    (stripe : ℕ) (ops : ℕ × ℕ → Op) (entries : List Entry) (tales : List Tale) → TellsAs stripe ops number entries tales → TellsAs stripe ops number (entries ++ more) tales

pub none_says : (number : ℕ) → SaysNothing number []
none_says number stripe ops entries tales so = subst (λ (es : List Entry). TellsAs stripe ops number es tales) (sym (append-nil entries)) so

pub one_says : (number : ℕ) (e : Entry) → acts_on number e ≡ None → SaysNothing number (e ∷ [])
one_says number e none stripe ops entries tales so = (telling stripe ops number).entry entries tales e none so

pub next_says : (number : ℕ) (e : Entry) (more : List Entry) → acts_on number e ≡ None → SaysNothing number more → SaysNothing number (e ∷ more)
next_says number e more none rest stripe ops entries tales so =
    subst (λ (es : List Entry). TellsAs stripe ops number es tales) (append_assoc entries (e ∷ []) more) (rest stripe ops (entries ++ e ∷ []) tales (one_says number e none stripe ops entries tales so))

-- what a client or a server marks
pub inert_says : (number : ℕ) (node : NodeId) (marks : List Mark) → AreInert marks → SaysNothing number (map (entry_of node) marks)
inert_says number node [] are = none_says number
inert_says number node (mark.Held k end ∷ ms) are = absurd are.0
inert_says number node (mark.Active k count write ∷ ms) are = absurd are.0
inert_says number node (mark.Issue k count write ∷ ms) are = absurd are.0
inert_says number node (mark.Commit k count write ∷ ms) are = absurd are.0
inert_says number node (mark.Answer k write count bytes ∷ ms) are = absurd are.0
inert_says number node (m ∷ ms) are = next_says number (entry_of node m) (map (entry_of node) ms) refl (inert_says number node ms are.1)

-- what a step of another file marks
pub others_say : (number : ℕ) (node : NodeId) (file : FileId) (l : LeaseState) (marks : List Mark) → (IsHeld l → (file.number == number) ≡ false) → MarksAre file l marks → SaysNothing number (map (entry_of node) marks)
others_say number node file l marks other (no_marks none) = subst (λ (ms : List Mark). SaysNothing number (map (entry_of node) ms)) (sym none) (none_says number)
others_say number node file l marks other (won end busy is) =
    subst (λ (ms : List Mark). SaysNothing number (map (entry_of node) ms)) (sym is) (one_says number (entry.Held node file.number end) refl)
others_say number node file l marks other (acting is are) = λ stripe ops entries tales so. (telling stripe ops number).elsewhere entries tales node file.number marks (other is) are so

-- ---- a file's world

module _ (stripe : ℕ) (ops : ℕ × ℕ → Op) (members : List ℕ) (file : FileId) where
  -- events and then others
  onward : (w after : World) (own own_after : List Msg) (v : FileWorld) → LeadsTo stripe ops members file w own v
      → ((u : FileWorld) → IsShownBy stripe ops file w own u → LeadsTo stripe ops members file after own_after u) → LeadsTo stripe ops members file after own_after v
  onward w after own own_after v first next =
      let later = next (after_all v first.events) first.is in
      record {
        events = first.events ++ later.events;
        may = may_append stripe ops members v first.events later.events first.may later.may;
        is = subst (IsShownBy stripe ops file after own_after) (sym (after_append v first.events later.events)) later.is;
      }

  -- no event, where nothing of the file changes
  pub rests : (w after : World) (own own_after : List Msg) (more : List Entry) → after.entries ≡ w.entries ++ more → SaysNothing file.number more
      → ((v : FileWorld) → Sees file w v → Sees file after v) → ((m : ℕ) → Leads after file m → Leads w file m)
      → ((m : Msg) → Has m (own_after ++ messages after) → file_concerned m.payload ≡ Some file → (shown m.from.0 m.payload ≡ []) ⊎ Has m (own ++ messages w))
      → (v : FileWorld) → IsShownBy stripe ops file w own v → LeadsTo stripe ops members file after own_after v
  rests w after own own_after more split quiet sees led sent v is =
      record {
        events = [];
        may = tt;
        is =
            record {
              sees = sees v is.sees;
              leaders = λ m lead. is.leaders m (led m lead);
              sent = λ m h about. elim (sent m h about) [
                | inl nothing ↦ inr nothing
                | inr was ↦ is.sent m was about
              ];
              told = subst (λ (es : List Entry). TellsAs stripe ops file.number es v.tales) (sym split) (quiet stripe ops w.entries v.tales is.told);
            };
      }

-- ---- all files

-- what agrees with more entries agrees with fewer
begun_before : (ops : ℕ × ℕ → Op) (number : ℕ) (before after more : List Entry) → after ≡ before ++ more → AreOperations ops number after → AreOperations ops number before
begun_before ops number before after more split are id asked is =
    are id asked (ap (λ (es : List Entry). operation_begun number es id) split ∙ operation-grown number before more id asked is)

abbrev pub ListsWere : World → World → Type 0
ListsWere w after = (file : FileId) (stripe : ℕ) (members : List ℕ) → KnownList (known after) file stripe members → KnownList (known w) file stripe members

-- each file's world leads on
pub carried : (w after : World) (own own_after : List Msg) (more : List Entry) → after.entries ≡ w.entries ++ more → ListsWere w after
    → ((file : FileId) (stripe : ℕ) (ops : ℕ × ℕ → Op) (members : List ℕ) → KnownList (known w) file stripe members → AreOperations ops file.number w.entries
    → (v : FileWorld) → IsShownBy stripe ops file w own v → LeadsTo stripe ops members file after own_after v)
    → FilesAreRuns w own → FilesAreRuns after own_after
carried w after own own_after more split lists each runs file stripe ops members listed are =
    let listed_then = lists file stripe members listed in
    let are_then = begun_before ops file.number w.entries after.entries more split are in
    onward stripe ops members file w after own own_after (first_world file) (runs file stripe ops members listed_then are_then)
    (each file stripe ops members listed_then are_then)

-- or rests
pub all_rest : (w after : World) (own own_after : List Msg) (more : List Entry) → after.entries ≡ w.entries ++ more → ListsWere w after → ((number : ℕ) → SaysNothing number more)
    → ((file : FileId) (v : FileWorld) → Sees file w v → Sees file after v) → ((file : FileId) (m : ℕ) → Leads after file m → Leads w file m)
    → ((m : Msg) → Has m (own_after ++ messages after) → (shown m.from.0 m.payload ≡ []) ⊎ Has m (own ++ messages w))
    → FilesAreRuns w own → FilesAreRuns after own_after
all_rest w after own own_after more split lists quiet sees led sent =
    carried w after own own_after more split lists
    (λ file stripe ops members listed are. rests stripe ops members file w after own own_after more split (quiet file.number) (sees file) (led file) (λ m h about. sent m h))
