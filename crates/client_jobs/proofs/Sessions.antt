-- a command of a session, and the lists
use Rattle.std.proofs.Common.{ℕ, ◌≡◌, ◌∙◌, inr, ap, refl, subst, max, Option, Some, None, IfSome, List, [], ◌∷◌}
use Rattle.xt_messages.specs.declared.status.Status.{Status}
use Rattle.node_links.specs.Links.{next_reading, readings_left}
use Rattle.node_runs.specs.Links.{Reads}
use Rattle.client_core.specs.Views.{ClientView}
use Rattle.client_loop.specs.declared.terms.Terms.{Terms}
use Rattle.client_loop.specs.Terms.{terms_of, on_terms}
use Rattle.client_loop.specs.Listening.{DriverView}
use Rattle.client_loop.specs.Carrying.{Around}
use Rattle.client_plans.specs.declared.stage.Stage.TheVariants as next
use Rattle.client_plans.specs.Plans.{nobody}
use Rattle.command_words.specs.declared.job.ClientJob.{ClientJob}
use Rattle.command_words.specs.declared.job.Defaults.{Defaults}
use Rattle.client_jobs.specs.Running.{Counts, HasWorked, Ends, first_number, client_of, command_of, starts_in, put_in}
use Rattle.client_jobs.specs.Lines.{IsLine, IsListed, number_after, terms_for, terms_after, session_for, session_after, bytes_put, lists_alone}
use Rattle.client_jobs.specs.declared.session.CommandSession.{CommandSession}

-- a clock was read once
pub read_once : (before later : Option (List ℕ)) (reading : ℕ) → IfSome before (λ left. (reading ≡ next_reading left) × (later ≡ Some (readings_left left)))
    → (before ≡ None → later ≡ None) → Reads before later (reading ∷ [])
read_once None later reading told untold = untold refl
read_once (Some left) later reading told untold = (told.0, told.1)

-- a session of these
both : (driver d : DriverView) (client c : ClientView) → driver ≡ d → client ≡ c
    → let made : CommandSession = record { driver = driver; client = client } in let is : CommandSession = record { driver = d; client = c } in made ≡ is
both driver d client c same alike =
    ap (λ (x : DriverView). let s : CommandSession = record { driver = x; client = client } in s) same
    ∙ ap (λ (x : ClientView). let s : CommandSession = record { driver = d; client = x } in s) alike

number : (session : CommandSession) (reading first least asked : ℕ) → first ≡ max least asked → least ≡ first_number reading → asked ≡ session.client.state.replicas.next
    → first ≡ number_after session reading
number session reading first least asked is low above =
    is ∙ ap (λ (n : ℕ). max n asked) low ∙ ap (max (first_number reading)) above

-- what the code makes of a session as a command begins
pub record Begun (job : ClientJob) (old : CommandSession) (reading : ℕ) (driver : DriverView) (client : ClientView) : Type 0 where
  pub first : ℕ
  pub least : ℕ
  pub asked : ℕ
  pub is : first ≡ max least asked
  pub low : least ≡ first_number reading
  pub above : asked ≡ old.client.state.replicas.next
  pub kept : Terms
  pub are : kept ≡ terms_of old.driver
  pub given : Terms
  pub for : given ≡ terms_for job first kept
  pub works : driver ≡ on_terms old.driver given
  pub new : client ≡ client_of job first

begun_in : (job : ClientJob) (old : CommandSession) (reading : ℕ) (driver : DriverView) (client : ClientView) → Begun job old reading driver client
    → let made : CommandSession = record { driver = driver; client = client } in made ≡ session_for job (number_after old reading) old
begun_in job old reading driver client b =
    let n = number old reading b.first b.least b.asked b.is b.low b.above in
    both driver (session_for job (number_after old reading) old).driver client (session_for job (number_after old reading) old).client
    (b.works ∙ ap (on_terms old.driver) (b.for ∙ ap (λ (x : ℕ). terms_for job x b.kept) n ∙ ap (terms_for job (number_after old reading)) b.are))
    (b.new ∙ ap (client_of job) n)

-- and after it
pub record Left (job : ClientJob) (old left : CommandSession) (final : DriverView) : Type 0 where
  pub kept : Terms
  pub are : kept ≡ terms_of old.driver
  pub given : Terms
  pub were : given ≡ terms_of left.driver
  pub taken : Terms
  pub after : taken ≡ terms_after job kept given
  pub works : final ≡ on_terms left.driver taken

goes_back : (job : ClientJob) (old left : CommandSession) (final : DriverView) → Left job old left final
    → let made : CommandSession = record { driver = final; client = left.client } in made ≡ session_after job old left
goes_back job old left final l =
    ap (λ (x : DriverView). let s : CommandSession = record { driver = x; client = left.client } in s)
    (l.works ∙ ap (on_terms left.driver) (l.after ∙ ap (λ (t : Terms). terms_after job t l.given) l.are ∙ ap (terms_after job (terms_of old.driver)) l.were))

pub line_runs : (job : ClientJob) (old left : CommandSession) (reading : ℕ) (unread : Option (List ℕ)) (driver final : DriverView) (client : ClientView) (before after : Around)
    (held later : Option (List ℕ)) (sink risen link clock source clocked : ℕ) (now : Counts) (ended : Status) → Reads before.to_read unread (reading ∷ [])
    → clocked ≡ clock → Begun job old reading driver client → Left job old left final
    → ((taken : ℕ) × HasWorked (command_of job) (bytes_put (put_in job.order)) (record before { to_read = unread }) after (starts_in job (record { driver = driver; client = client })) left
    held later sink risen (record { link = link; clock = clocked; source = source }) now taken ended)
    → IsLine job old (record { driver = final; client = left.client }) before after held later sink risen (record { link = link; clock = clock; source = source }) now ended
line_runs job old left reading unread driver final client before after held later sink risen link clock source clocked now ended reads sound begun back works =
    let P : CommandSession → ℕ → Type 0 =
    λ s n. HasWorked (command_of job) (bytes_put (put_in job.order)) (record before { to_read = unread }) after (starts_in job s) left held later sink risen
    (record { link = link; clock = n; source = source }) now works.0 ended in
    inr (record {
      reading = reading;
      unread = unread;
      reads = reads;
      left = left;
      taken = works.0;
      works =
          subst (P (session_for job (number_after old reading) old)) sound
          (subst (λ (s : CommandSession). P s clocked) (begun_in job old reading driver client begun) works.1);
      goes_back = goes_back job old left final back;
    })

pub lists_end : (base : Defaults) (job : ClientJob) (old new : CommandSession) (first : ℕ) (client : ClientView) (before after : Around) (counts now : Counts) (why : Status)
    → job ≡ lists_alone base → first ≡ old.client.state.replicas.next → client ≡ client_of job first
    → ((taken : ℕ) × (text : List ℕ) × Ends (command_of job) [] before after (record { session = record { driver = old.driver; client = client }; stage = next.Lists 2 nobody }) new counts now why taken text)
    → IsListed base old new before after counts now why
lists_end base job old new first client before after counts now why is follows new_one ends =
    let c = new_one ∙ ap (λ (j : ClientJob). client_of j first) is ∙ ap (client_of (lists_alone base)) follows in
    let P : ClientJob → ClientView → Type 0 =
    λ j x. (taken : ℕ) × (text : List ℕ) × Ends (command_of j) [] before after (record { session = record { driver = old.driver; client = x }; stage = next.Lists 2 nobody }) new counts now why taken text in
    let same = subst (λ (x : ClientView). P (lists_alone base) x) c (subst (λ (j : ClientJob). P j client) is ends) in
    record { taken = same.0; text = same.1; ends = same.2 }
