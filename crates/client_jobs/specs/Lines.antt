-- the commands of a session, one after the other, over one end of a link
use Rattle.std.specs.Prelude.{ℕ, ◌≡◌, ◌⊎◌, ◌+◌, ◌-◌, ◌==◌, nat_lt, max, Bool, if◌then◌else◌, Option, Some, None, List, [], ◌∷◌}
use Rattle.xt_messages.specs.declared.status.Status.{Status}
use Rattle.xt_messages.specs.declared.status.Status.TheVariants as status
use Rattle.node_runs.specs.Links.{Reads}
use Rattle.node_mail.specs.declared.posting.Sender.{Sender}
use Rattle.client_loop.specs.declared.terms.Terms.{Terms}
use Rattle.client_loop.specs.Terms.{terms_of, on_terms}
use Rattle.client_loop.specs.Carrying.{Around}
use Rattle.command_words.specs.declared.job.ClientJob.{ClientJob}
use Rattle.command_words.specs.declared.job.Defaults.{Defaults}
use Rattle.command_words.specs.declared.job.Order.TheVariants as order
use Rattle.client_plans.specs.declared.stage.Stage.TheVariants as next
use Rattle.client_plans.specs.Plans.{nobody}
use Rattle.client_jobs.specs.Content.{pattern_from}
use Rattle.client_jobs.specs.Running.{Counts, HasWhy, Closes, HasWorked, Ends, CommandState, first_number, client_of, command_of, starts_in, put_in}
use Rattle.client_jobs.specs.declared.session.CommandSession.{CommandSession}

-- ---- the terms on which a command works

-- The number of its first call, by its clock's first reading: as outside a session, but above all numbers that were used before it.
abbrev pub number_after : CommandSession → ℕ → ℕ
number_after session reading = max (first_number reading) session.client.state.replicas.next

-- whether a command is one of the client whose session it is
abbrev pub is_own : ClientJob → Terms → Bool
is_own job kept = job.who.id.0 == kept.sender.node.0

-- Another client's messages are numbered from 1, in a boot of its own.
abbrev pub sender_for : ClientJob → ℕ → Terms → Sender
sender_for job first kept =
    if is_own job kept then kept.sender else record { node = job.who.id; boot = record { 0 = first }; count = 0 }

-- whether a command names fewer receives than are left
abbrev pub has_fewer : ClientJob → Terms → Bool
has_fewer job kept = nat_lt job.settings.turns (kept.turns - kept.spent)

-- A command has the receives that are left; where it names fewer, so many, which are counted for it alone.
abbrev pub terms_for : ClientJob → ℕ → Terms → Terms
terms_for job first kept = record {
  sender = sender_for job first kept;
  times = job.settings.times;
  turns = if has_fewer job kept then job.settings.turns else kept.turns;
  spent = if has_fewer job kept then 0 else kept.spent;
}

-- the session's terms after it: its client has sent so many messages, and so many receives were made
abbrev pub terms_after : ClientJob → Terms → Terms → Terms
terms_after job kept left = record {
  sender = if is_own job kept then left.sender else kept.sender;
  times = kept.times;
  turns = kept.turns;
  spent = if has_fewer job kept then kept.spent + left.spent else left.spent;
}

-- a session as a command begins in it whose first call has this number
abbrev pub session_for : ClientJob → ℕ → CommandSession → CommandSession
session_for job first session = record {
  driver = on_terms session.driver (terms_for job first (terms_of session.driver));
  client = client_of job first;
}

-- and after a command that left this
abbrev pub session_after : ClientJob → CommandSession → CommandSession → CommandSession
session_after job session left = record {
  driver = on_terms left.driver (terms_after job (terms_of session.driver) (terms_of left.driver));
  client = left.client;
}

-- ---- a command of a session

-- what it writes to a file: bytes of the pattern, so many
abbrev pub bytes_put : Option (Option ℕ) → List ℕ
bytes_put (Some (Some size)) = pattern_from 0 size
bytes_put _ = []

-- Its clock can't be read, and nothing else is done.
pub record IsUnread (old new : CommandSession) (before after : Around) (held later : Option (List ℕ)) (sink risen : ℕ) (counts now : Counts) (ended : Status) : Type 0 where
  pub times : ℕ
  pub cause : HasWhy counts now (status.ClockFault times)
  pub alone : after ≡ before
  pub kept : new ≡ old
  pub closes : Closes held later sink risen (status.ClockFault times) ended

-- Its clock was read once, and its operations are those of the command, with the numbers from there on. What they left goes back to the
-- session.
pub record HasRun (job : ClientJob) (old new : CommandSession) (before after : Around) (held later : Option (List ℕ)) (sink risen : ℕ) (counts now : Counts) (ended : Status)
    : Type 0 where
  pub reading : ℕ
  pub unread : Option (List ℕ)
  pub reads : Reads before.to_read unread (reading ∷ [])
  pub left : CommandSession
  pub taken : ℕ
  pub works : HasWorked (command_of job) (bytes_put (put_in job.order)) (record before { to_read = unread }) after
      (starts_in job (session_for job (number_after old reading) old)) left held later sink risen counts now taken ended
  pub goes_back : new ≡ session_after job old left

-- What a command of a session does.
abbrev pub IsLine : ClientJob → CommandSession → CommandSession → Around → Around → Option (List ℕ) → Option (List ℕ) → ℕ → ℕ → Counts → Counts → Status → Type 0
IsLine job old new before after held later sink risen counts now ended =
    IsUnread old new before after held later sink risen counts now ended ⊎ HasRun job old new before after held later sink risen counts now ended

-- ---- the lists alone

-- A registration has no operation after the lists.
abbrev pub lists_alone : Defaults → ClientJob
lists_alone base = record { settings = base.settings; who = base.who; dir = None; key = None; order = order.Register nobody 0 [] }

-- where the lists begin, with the numbers that follow
abbrev pub before_lists : Defaults → CommandSession → CommandState
before_lists base session = record {
  session = record { driver = session.driver; client = client_of (lists_alone base) session.client.state.replicas.next };
  stage = next.Lists 2 nobody;
}

-- The lists with which commands begin were made, and nothing else; or they ended for this reason.
pub record IsListed (base : Defaults) (old new : CommandSession) (before after : Around) (counts now : Counts) (why : Status) : Type 0 where
  pub taken : ℕ
  pub text : List ℕ
  pub ends : Ends (command_of (lists_alone base)) [] before after (before_lists base old) new counts now why taken text
