-- what every served node keeps to
use Rattle.std.specs.Prelude.{◌≡◌, ◌≤◌, ℕ, Bool, Option, None, List, [], ◌∷◌, ◌++◌}
use Rattle.disk_model.specs.Disk.{LeavesOnly}
use Rattle.xt_base.specs.declared.ids.Boot.{Boot}
use Rattle.xt_messages.specs.declared.record.Record.{Record}
use Rattle.node_links.specs.declared.link.Datagram.{Datagram}
use Rattle.node_runs.specs.Keeping.{StandsForOne, KeptInTurn}
use Rattle.node_runs.specs.Runs.{Role, Turn, Served, Comes}

-- its records are never rewritten
abbrev pub NeverRewrites : {S : Type 0} → Role S → Type 0
NeverRewrites role = (state : _) → role.keeps state ≡ None

-- its clock doesn't fall; and where its records are never rewritten, it has more, or as many
pub record GoesOn {S : Type 0} (role : Role S) (start s : Served S) : Type 0 where
  pub records : NeverRewrites role → (more : List Record) × (s.kept ≡ start.kept ++ more)
  pub clock : start.clock ≤ s.clock

abbrev pub AllGoOn : (S : Type 0) → Type 0
AllGoOn S = (told : Bool) (role : Role S) (boot : Boot) (period : ℕ) (to_come left : Option (List Datagram)) (start s : Served S) (turns : List Turn)
    (posted : List Datagram) → Comes told role boot period to_come start left turns posted s → GoesOn role start s

-- ---- no records come back that are older than those kept

-- moments that rise from this one on, up to that one
abbrev pub AreRising : ℕ → List ℕ → ℕ → Type 0
AreRising from [] until = from ≤ until
AreRising from (moment ∷ moments) until = (from ≤ moment) × AreRising moment moments until

-- To each of these lists belongs one of these moments, in their order: a crash at it or later leaves that list, a later one, or one of the
-- further ones.
abbrev pub LeavesFrom : (ℕ → List ℕ → Type 0) → List ℕ → List (List Record) → List (List Record) → Type 0
LeavesFrom left [] [] further = Unit {0}
LeavesFrom left (since ∷ moments) (records ∷ more) further =
    ((image : List ℕ) → left since image → StandsForOne (records ∷ more ++ further) image) × LeavesFrom left moments more further
LeavesFrom left _ _ further = ⊥

pub record LeavesNoOlder {D : Type 0} (moment : D → ℕ) (left_since : D → ℕ → List ℕ → Type 0) (first after : D) (lists further : List (List Record))
    : Type 0 where
  -- the moments of the lists after the first
  pub later : List ℕ
  pub rise : AreRising (moment first) later (moment after)
  pub each : LeavesFrom (left_since after) (moment first ∷ later) lists further

-- Where lists of records were kept in turn, and after that a crash leaves the last of them or another, it leaves none that is older than
-- what was kept when it came.
abbrev pub NoneComesBack : {D : Type 0} → (D → ℕ) → (D → ℕ → List ℕ → Type 0) → Type 0
NoneComesBack moment left_since =
    (first until after : _) (start now done : List Record) (lists : List (List Record)) → KeptInTurn moment left_since first start lists now until
    → LeavesOnly moment left_since until after (StandsForOne (now ∷ done ∷ [])) → LeavesNoOlder moment left_since first after lists (done ∷ [])
