-- Batches of a served node: passes whose records are put on its disk at once, and whose messages are sent after that.
use Rattle.std.specs.Prelude.{ℕ, ◌≡◌, ◌<◌, Bool, Option, None, List, [], ◌∷◌, ◌++◌}
use Rattle.xt_base.specs.declared.ids.Boot.{Boot}
use Rattle.xt_messages.specs.declared.record.KeepBody.{KeepBody}
use Rattle.xt_messages.specs.declared.record.Record.{Record}
use Rattle.xt_protocol.specs.Forgetting.{rewritten}
use Rattle.node_links.specs.declared.link.Datagram.{Datagram}
use Rattle.node_runs.specs.Runs.{Role, JournalAt, Turn, Served, Comes, Rewrites, rewrites_with, lacks}

-- The journal ends here after these records were put: they lie within its limit, with the gate after the last one.
abbrev pub HasRoom : List Record → JournalAt → Type 0
HasRoom [] journal = Unit {0}
HasRoom (rec ∷ puts) journal = journal.end < journal.limit

module _ {S : Type 0} (told : Bool) (role : Role S) (boot : Boot) (period : ℕ) where
  -- Passes in which no records are rewritten. The disk and the link are as they were before them, until all records of them are put at
  -- once; after that all messages of them are sent, in order.
  pub record IsBatch (to_come : Option (List Datagram)) (s : Served S) (after : Option (List Datagram)) (turns : List Turn) (posts : List Datagram) (next : Served S) : Type 0 where
    pub comes : Comes told role boot period to_come s after turns posts next
    pub puts : List Record
    pub grows : next.kept ≡ s.kept ++ puts
    pub room : HasRoom puts next.journal
    pub same_area : next.journal.superblock ≡ s.journal.superblock

  -- The node has come so far from its start by batches, and its disk and its link with it; between two of them its records can be rewritten.
  pub data Goes (to_come : Option (List Datagram)) (start : Served S)
      : Option (List Datagram) → List Turn → List Datagram → Served S → Type 0 where
    at_start : Goes to_come start to_come [] [] start
    then_batch : (left after : Option (List Datagram)) (turns more : List Turn) (before mailed : List Datagram) (s next : Served S)
        → Goes to_come start left turns before s → IsBatch left s after more mailed next
        → Goes to_come start after (turns ++ more) (before ++ mailed) next
    then_rewritten : (left : Option (List Datagram)) (turns : List Turn) (before : List Datagram) (s : Served S) (keep : List KeepBody)
        → Goes to_come start left turns before s → Rewrites role boot period s keep → lacks s.journal (rewritten keep s.kept) ≡ None
        → Goes to_come start left turns before (rewrites_with role boot period s keep)

  -- What the disk kept in turn: the records of the start, and those after each batch and each rewriting.
  module _ (to_come : Option (List Datagram)) (start : Served S) where
    abbrev pub kept_at : (left : Option (List Datagram)) (turns : List Turn) (before : List Datagram) (s : Served S)
        → Goes to_come start left turns before s → List (List Record)
    kept_at left turns before s at_start = start.kept ∷ []
    kept_at left turns before s (then_batch between after turns' more before' mailed s' next goes batch) =
        kept_at between turns' before' s' goes ++ next.kept ∷ []
    kept_at left turns before s (then_rewritten between turns' before' s' keep goes is room) =
        kept_at between turns' before' s' goes ++ rewritten keep s'.kept ∷ []

    -- a list of records that the node kept at some moment of its run: no disk keeps any other
    pub record WasKept (kept : List Record) : Type 0 where
      pub left : Option (List Datagram)
      pub turns : List Turn
      pub posts : List Datagram
      pub s : Served S
      pub comes : Comes told role boot period to_come start left turns posts s
      pub is : s.kept ≡ kept
