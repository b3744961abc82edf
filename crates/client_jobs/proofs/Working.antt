-- the operations of a command, one after the other
use Rattle.std.proofs.Common.{ℕ, ◌≡◌, ◌≤◌, ◌^◌, ◌+◌, ◌∙◌, length, take, drop, inl, inr, ap, refl, sym, subst, Option, Some, None, Ok, Err, List, [], ◌∷◌, ◌++◌, append_assoc, append-nil, length-append, arith}
use Rattle.std.proofs.Math.Seq.{take-nil, drop-nil}
use Rattle.xt_base.specs.Faults.{Rose}
use Rattle.xt_messages.specs.declared.status.Status.{Status}
use Rattle.xt_messages.specs.declared.status.Status.TheVariants as status
use Rattle.node_links.specs.Streams.{Takes, Puts}
use Rattle.schedule_lines.specs.Fronts.{PutsFront}
use Rattle.schedule_lines.proofs.Streamed.{Puts-nothing, Puts-append}
use Rattle.node_links.specs.declared.link.Datagram.{Datagram}
use Rattle.client_loop.specs.declared.errors.DriveErr.TheVariants as error
use Rattle.client_loop.specs.Carrying.{Around}
use Rattle.client_plans.specs.declared.stage.Stage.{Stage}
use Rattle.client_rows.specs.declared.requests.CallResult.{CallResult}
use Rattle.client_plans.specs.declared.stage.Goes.{Goes}
use Rattle.client_plans.specs.Plans.{Task, Progress, goes_by, goes_on, room_at, piece_at, with_piece, after, status_at}
use Rattle.client_jobs.specs.declared.running.Advanced.TheVariants as to
use Rattle.client_jobs.specs.declared.session.CommandSession.{CommandSession}
use Rattle.client_jobs.specs.Lines.{bytes_put}
use Rattle.client_jobs.specs.Running.{AreAll, IsPutContent, Counts, Command, CommandState, begun, carried, IsUnderWay, Runs, IsPlanned, HasOperated, HasStepped, HasAdvanced, HasWhy, HasWorked, Ends, Closes, CannotTake, status_of}

pub way_begins : (c : Command) (bytes : List ℕ) (from : Around) (session : CommandSession) (first stage : Stage) (held : Option (List ℕ)) (taken : ℕ) → stage ≡ first
    → taken ≡ 0 → IsUnderWay c bytes from (record { session = session; stage = first }) held 0 from (record { session = session; stage = stage }) taken held
way_begins c bytes from session first stage held taken e none =
    subst (λ (s : Stage). IsUnderWay c bytes from (record { session = session; stage = first }) held 0 from (record { session = session; stage = s }) taken held) (sym e)
    (subst (λ (n : ℕ). IsUnderWay c bytes from (record { session = session; stage = first }) held 0 from (record { session = session; stage = first }) n held) (sym none)
    (record { text = []; runs = begun; puts = Puts-nothing held }))

-- one operation more was carried out, and its piece was taken
run_on : (c : Command) (bytes : List ℕ) (from between after : Around) (start s : CommandState) (count taken drawn : ℕ) (text : List ℕ) (left : CommandSession)
    (ended : CallResult) (went stage : Stage) (piece : List ℕ) → Runs c bytes from start count between s taken text → HasOperated c between after s left ended
    → went ≡ (goes_by c.task.wish s.stage ended).stage → piece ≡ piece_at bytes taken went → stage ≡ with_piece taken piece went → drawn ≡ taken + length piece
    → Runs c bytes from start (count + 1) after (record { session = left; stage = stage }) drawn (text ++ (goes_by c.task.wish s.stage ended).text)
run_on c bytes from between after start s count taken drawn text left ended went stage piece runs operated goes is fed more =
    let at = (goes_by c.task.wish s.stage ended).stage in
    let all = text ++ (goes_by c.task.wish s.stage ended).text in
    let same : piece ≡ piece_at bytes taken at = is ∙ ap (piece_at bytes taken) goes in
    let there : stage ≡ with_piece taken (piece_at bytes taken at) at =
    fed ∙ ap (λ (p : List ℕ). with_piece taken p went) same ∙ ap (with_piece taken (piece_at bytes taken at)) goes in
    let then : drawn ≡ taken + length (piece_at bytes taken at) = more ∙ ap (λ (p : List ℕ). taken + length p) same in
    subst (λ (x : Stage). Runs c bytes from start (count + 1) after (record { session = left; stage = x }) drawn all) (sym there)
    (subst (λ (n : ℕ). Runs c bytes from start (count + 1) after (record { session = left; stage = with_piece taken (piece_at bytes taken at) at }) n all) (sym then)
    (carried count between after s taken text left ended runs operated))

pub way_goes : (c : Command) (bytes : List ℕ) (from between after : Around) (start s : CommandState) (held later put : Option (List ℕ)) (count taken drawn : ℕ) (left : CommandSession)
    (went stage : Stage) (piece : List ℕ) → IsUnderWay c bytes from start held count between s taken later → HasAdvanced c between after s later put left (to.On went)
    → piece ≡ piece_at bytes taken went → stage ≡ with_piece taken piece went → drawn ≡ taken + length piece
    → IsUnderWay c bytes from start held (count + 1) after (record { session = left; stage = stage }) drawn put
way_goes c bytes from between after start s held later put count taken drawn left went stage piece way has is fed more =
    record {
      text = way.text ++ (goes_by c.task.wish s.stage has.0).text;
      runs = run_on c bytes from between after start s count taken drawn way.text left has.0 went stage piece way.runs has.1 has.2 is fed more;
      puts = Puts-append held later put way.text (goes_by c.task.wish s.stage has.0).text way.puts has.3;
    }

-- what was put before the last line, and the sink's count before
put_same : (put later final : Option (List ℕ)) (sink middle risen : ℕ) (why said : Status) → put ≡ later → middle ≡ sink → Closes put final middle risen why said → Closes later final sink risen why said
put_same put later final sink middle risen why said e f closes =
    subst (λ (x : Option (List ℕ)). Closes x final sink risen why said) e (subst (λ (n : ℕ). Closes put final n risen why said) f closes)

pub work_over : (c : Command) (bytes : List ℕ) (from between after : Around) (start s : CommandState) (held later put final : Option (List ℕ)) (count taken : ℕ) (left : CommandSession)
    (sink middle risen : ℕ) (before now : Counts) (why said : Status) → IsUnderWay c bytes from start held count between s taken later
    → HasAdvanced c between after s later put left to.Over → now.link ≡ before.link → now.clock ≡ before.clock → now.source ≡ before.source → middle ≡ sink
    → why ≡ status_at s.stage → Closes put final middle risen why said → HasWorked c bytes from after start left held final sink risen before now taken said
work_over c bytes from between after start s held later put final count taken left sink middle risen before now why said way has link clock source f is closes =
    inl (record {
      why = why;
      text = way.text;
      ends = record { count = count; between = between; s = s; runs = way.runs; ends = inl (has.0, is, has.1, has.3, (link, clock, source)) };
      put = later;
      puts = way.puts;
      closes = put_same put later final sink middle risen why said has.2 f closes;
    })

-- why it ends, by counts that are as they were
counted : (link clock source linked clocked sourced : ℕ) (now : Counts) (why : Status) → linked ≡ link → clocked ≡ clock → sourced ≡ source
    → HasWhy (record { link = linked; clock = clocked; source = sourced }) now why → HasWhy (record { link = link; clock = clock; source = source }) now why
counted link clock source linked clocked sourced now why l k e cause =
    subst (λ (n : ℕ). HasWhy (record { link = n; clock = clock; source = source }) now why) l
    (subst (λ (n : ℕ). HasWhy (record { link = linked; clock = n; source = source }) now why) k
    (subst (λ (n : ℕ). HasWhy (record { link = linked; clock = clocked; source = n }) now why) e cause))

pub work_ends : (c : Command) (bytes : List ℕ) (from between after : Around) (start s : CommandState) (held later put final : Option (List ℕ)) (count taken : ℕ) (left : CommandSession)
    (sink middle risen link clock source linked clocked sourced : ℕ) (now : Counts) (why said : Status) → IsUnderWay c bytes from start held count between s taken later
    → HasAdvanced c between after s later put left (to.Ends why) → linked ≡ link → clocked ≡ clock → sourced ≡ source
    → HasWhy (record { link = linked; clock = clocked; source = sourced }) now why → middle ≡ sink → Closes put final middle risen why said
    → HasWorked c bytes from after start left held final sink risen (record { link = link; clock = clock; source = source }) now taken said
work_ends c bytes from between after start s held later put final count taken left sink middle risen link clock source linked clocked sourced now why said way has l k e cause f closes =
    inl (record {
      why = why;
      text = way.text;
      ends = record {
        count = count;
        between = between;
        s = s;
        runs = way.runs;
        ends = inr (inl (has.0, counted link clock source linked clocked sourced now why l k e cause));
      };
      put = later;
      puts = way.puts;
      closes = put_same put later final sink middle risen why said has.1 f closes;
    })

-- a front of the last text is a front of all, after what was put
front_after : (held later put : Option (List ℕ)) (text last : List ℕ) → Puts held later text → PutsFront later put last → PutsFront held put (text ++ last)
front_after held later put text last before cut = (
  text ++ cut.0,
  Puts-append held later put text cut.0 before cut.1,
  (cut.2.0, ap (λ (rest : List ℕ). text ++ rest) cut.2.1 ∙ sym (append_assoc text cut.0 cut.2.0), cut.2.2),
)

pub work_cut : (c : Command) (bytes : List ℕ) (from between after : Around) (start s : CommandState) (held later put : Option (List ℕ)) (count taken times : ℕ) (left : CommandSession)
    (sink middle risen : ℕ) (before now : Counts) (said : Status) → IsUnderWay c bytes from start held count between s taken later
    → HasAdvanced c between after s later put left (to.Cut times) → now.link ≡ before.link → now.clock ≡ before.clock → now.source ≡ before.source → middle ≡ sink
    → Rose middle risen → times ≡ risen → said ≡ status.SinkFault times → HasWorked c bytes from after start left held put sink risen before now taken said
work_cut c bytes from between after start s held later put count taken times left sink middle risen before now said way has link clock source f rose told is =
    inr (inl (record {
      count = count;
      between = between;
      s = s;
      text = way.text;
      runs = way.runs;
      ended = has.0;
      operated = has.1;
      puts = front_after held later put way.text (goes_by c.task.wish s.stage has.0).text way.puts has.2;
      times = times;
      is = is;
      rose = subst (λ (n : ℕ). Rose n risen) f rose;
      told = told;
      sound = (link, clock, source);
    }))

spent_count : (n : ℕ) → n ≤ 4611686018427387904 → 4611686018427387904 ≤ n → n ≡ 2 ^ 62
spent_count n most least = omega arith

pub work_spent : (c : Command) (bytes : List ℕ) (from between : Around) (start s : CommandState) (held later final : Option (List ℕ)) (count taken : ℕ) (sink middle risen : ℕ) (before now : Counts) (why said : Status)
    → IsUnderWay c bytes from start held count between s taken later → now.link ≡ before.link → now.clock ≡ before.clock → now.source ≡ before.source → middle ≡ sink
    → count ≤ 4611686018427387904 → 4611686018427387904 ≤ count → why ≡ status_of error.NumbersSpent → Closes later final middle risen why said
    → HasWorked c bytes from between start s.session held final sink risen before now taken said
work_spent c bytes from between start s held later final count taken sink middle risen before now why said way link clock source f most less is closes =
    inl (record {
      why = why;
      text = way.text;
      ends = record {
        count = count;
        between = between;
        s = s;
        runs = way.runs;
        ends = inr (inr (spent_count count most less, is, refl, refl, (link, clock, source)));
      };
      put = later;
      puts = way.puts;
      closes = put_same later later final sink middle risen why said refl f closes;
    })

-- the piece after an operation isn't taken
pub work_unfed : (c : Command) (bytes : List ℕ) (from between after : Around) (start s : CommandState) (held later put final : Option (List ℕ)) (count drawn taken : ℕ) (left : CommandSession)
    (went : Stage) (sink middle risen link clock source linked clocked sourced : ℕ) (now : Counts) (why said : Status) → IsUnderWay c bytes from start held count between s drawn later
    → HasAdvanced c between after s later put left (to.On went) → drawn ≤ taken → taken ≤ drawn + room_at drawn went → CannotTake c.task.wish (room_at drawn went) why
    → linked ≡ link → clocked ≡ clock → sourced ≡ source → HasWhy (record { link = linked; clock = clocked; source = sourced }) now why → middle ≡ sink → Closes put final middle risen why said
    → HasWorked c bytes from after start left held final sink risen (record { link = link; clock = clock; source = source }) now taken said
work_unfed c bytes from between after start s held later put final count drawn taken left went sink middle risen link clock source linked clocked sourced now why said way has least most cannot l k e cause f closes =
    inr (inr (record {
      count = count;
      between = between;
      s = s;
      drawn = drawn;
      text = way.text;
      runs = way.runs;
      ended = has.0;
      operated = has.1;
      least = least;
      most = subst (λ (x : Stage). taken ≤ drawn + room_at drawn x) has.2 most;
      why = why;
      cannot = subst (λ (x : Stage). CannotTake c.task.wish (room_at drawn x) why) has.2 cannot;
      cause = counted link clock source linked clocked sourced now why l k e cause;
      put = put;
      puts = Puts-append held later put way.text (goes_by c.task.wish s.stage has.0).text way.puts has.3;
      closes = put_same put put final sink middle risen why said refl f closes;
    }))

least_sum : (a b : ℕ) → a ≤ a + b
least_sum a b = omega arith

same_least : (a : ℕ) → a ≤ a
same_least a = omega arith

-- nothing of the piece after an operation is taken, since memory runs out
pub work_unmade : (c : Command) (bytes : List ℕ) (from between after : Around) (start s : CommandState) (held later put final : Option (List ℕ)) (count taken : ℕ) (left : CommandSession)
    (went : Stage) (sink middle risen : ℕ) (before now : Counts) (said : Status) → IsUnderWay c bytes from start held count between s taken later
    → HasAdvanced c between after s later put left (to.On went) → now.link ≡ before.link → now.clock ≡ before.clock → now.source ≡ before.source → middle ≡ sink
    → Closes put final middle risen status.OutOfMemory said → HasWorked c bytes from after start left held final sink risen before now taken said
work_unmade c bytes from between after start s held later put final count taken left went sink middle risen before now said way has link clock source f closes =
    inr (inr (record {
      count = count;
      between = between;
      s = s;
      drawn = taken;
      text = way.text;
      runs = way.runs;
      ended = has.0;
      operated = has.1;
      least = same_least taken;
      most = least_sum taken (room_at taken (goes_by c.task.wish s.stage has.0).stage);
      why = status.OutOfMemory;
      cannot = tt;
      cause = (link, clock, source);
      put = put;
      puts = Puts-append held later put way.text (goes_by c.task.wish s.stage has.0).text way.puts has.3;
      closes = put_same put put final sink middle risen status.OutOfMemory said refl f closes;
    }))

-- ---- operations of which nothing is written

-- no bytes have no piece
no_piece : (room taken : ℕ) (piece : List ℕ) → piece ≡ [] → piece ≡ take room (drop taken [])
no_piece room taken piece none = none ∙ sym (ap (take room) (drop-nil taken) ∙ take-nil room)

-- one more was carried out, by a command that writes nothing to a file
pub runs_on : (c : Command) (from between after : Around) (start s : CommandState) (count : ℕ) (left : CommandSession) (went : Option Goes) (goes : Goes) (piece : List ℕ) (stage : Stage)
    → ((text : List ℕ) × Runs c [] from start count between s 0 text) → went ≡ Some goes → HasStepped c between after s left (Ok went) → piece ≡ [] → stage ≡ with_piece 0 piece goes.stage
    → (text : List ℕ) × Runs c [] from start (count + 1) after (record { session = left; stage = stage }) 0 text
runs_on c from between after start s count left went goes piece stage runs is stepped none fed =
    let has = subst (λ (x : Option Goes). HasStepped c between after s left (Ok x)) is stepped in
    let at = (goes_by c.task.wish s.stage has.0).stage in
    let same : piece ≡ piece_at [] 0 goes.stage = no_piece (room_at 0 goes.stage) 0 piece none in
    let nothing : 0 ≡ 0 + length piece = sym (ap (λ (p : List ℕ). 0 + length p) none) in (
      runs.0 ++ (goes_by c.task.wish s.stage has.0).text,
      run_on c [] from between after start s count 0 0 runs.0 left has.0 goes.stage stage piece runs.1 has.1 (ap (λ (g : Goes). g.stage) has.2) same fed nothing,
    )

pub ends_over : (c : Command) (from between after : Around) (start s : CommandState) (count : ℕ) (left : CommandSession) (went : Option Goes) (before now : Counts) (why : Status)
    → ((text : List ℕ) × Runs c [] from start count between s 0 text) → went ≡ None → HasStepped c between after s left (Ok went) → now.link ≡ before.link → now.clock ≡ before.clock
    → now.source ≡ before.source → why ≡ status_at s.stage → (taken : ℕ) × (text : List ℕ) × Ends c [] from after start left before now why taken text
ends_over c from between after start s count left went before now why runs none stepped link clock source is =
    let has = subst (λ (x : Option Goes). HasStepped c between after s left (Ok x)) none stepped in
    (0, runs.0, record { count = count; between = between; s = s; runs = runs.1; ends = inl (has.0, is, has.1, has.2, (link, clock, source)) })

pub ends_by : (c : Command) (from between after : Around) (start s : CommandState) (count : ℕ) (left : CommandSession) (link clock source linked clocked : ℕ) (now : Counts) (why : Status)
    → ((text : List ℕ) × Runs c [] from start count between s 0 text) → HasStepped c between after s left (Err why) → linked ≡ link → clocked ≡ clock
    → HasWhy (record { link = linked; clock = clocked; source = source }) now why
    → (taken : ℕ) × (text : List ℕ) × Ends c [] from after start left (record { link = link; clock = clock; source = source }) now why taken text
ends_by c from between after start s count left link clock source linked clocked now why runs has l k cause = (
  0,
  runs.0,
  record {
    count = count;
    between = between;
    s = s;
    runs = runs.1;
    ends = inr (inl (has, counted link clock source linked clocked source now why l k refl cause));
  },
)

pub ends_spent : (c : Command) (from between : Around) (start s : CommandState) (count : ℕ) (before now : Counts) (why : Status)
    → ((text : List ℕ) × Runs c [] from start count between s 0 text) → now.link ≡ before.link → now.clock ≡ before.clock → now.source ≡ before.source → count ≤ 4611686018427387904
    → 4611686018427387904 ≤ count → why ≡ status_of error.NumbersSpent → (taken : ℕ) × (text : List ℕ) × Ends c [] from between start s.session before now why taken text
ends_spent c from between start s count before now why runs link clock source most less is = (
  0,
  runs.0,
  record {
    count = count;
    between = between;
    s = s;
    runs = runs.1;
    ends = inr (inr (spent_count count most less, is, refl, refl, (link, clock, source)));
  },
)

-- ---- a command that has begun

-- what was begun over the link as it was, by counts that are as they were
pub job_works : (c : Command) (bytes : List ℕ) (to_come came sent gone : Option (List Datagram)) (losses lost : ℕ) (unread : Option (List ℕ)) (after : Around) (start : CommandState) (left : CommandSession)
    (held later : Option (List ℕ)) (sink risen link clock source linked clocked : ℕ) (now : Counts) (taken : ℕ) (said : Status)
    → came ≡ to_come → gone ≡ sent → lost ≡ losses → linked ≡ link → clocked ≡ clock
    → HasWorked c bytes (record { to_come = came; sent = gone; losses = lost; to_read = unread }) after start left held later sink risen (record { link = linked; clock = clocked; source = source }) now taken said
    → HasWorked c bytes (record { to_come = to_come; sent = sent; losses = losses; to_read = unread }) after start left held later sink risen (record { link = link; clock = clock; source = source }) now taken said
job_works c bytes to_come came sent gone losses lost unread after start left held later sink risen link clock source linked clocked now taken said a b d l k has =
    let P : Option (List Datagram) → Option (List Datagram) → ℕ → ℕ → ℕ → Type 0 =
    λ x y z m n. HasWorked c bytes (record { to_come = x; sent = y; losses = z; to_read = unread }) after start left held later sink risen (record { link = m; clock = n; source = source }) now taken said in
    subst (λ (x : Option (List Datagram)). P x sent losses link clock) a
    (subst (λ (y : Option (List Datagram)). P came y losses link clock) b
    (subst (λ (z : ℕ). P came gone z link clock) d
    (subst (λ (m : ℕ). P came gone lost m clock) l
    (subst (λ (n : ℕ). P came gone lost linked n) k has))))

-- what a command writes that takes nothing of the source
pub content_made : (put : Option (Option ℕ)) (left : Option (List ℕ)) (taken : ℕ) → (put ≡ Some None → ⊥) → IsPutContent put left left (bytes_put put) taken
content_made None left taken other = (refl, refl)
content_made (Some None) left taken other = absurd (other refl)
content_made (Some (Some size)) left taken other = (refl, refl)

-- and one that does
pub content_read : (put : Option (Option ℕ)) (left rest : Option (List ℕ)) (bytes : List ℕ) (taken : ℕ) → put ≡ Some None → AreAll left bytes → Takes left rest (take taken bytes)
    → IsPutContent put left rest bytes taken
content_read put left rest bytes taken is all takes = subst (λ (o : Option (Option ℕ)). IsPutContent o left rest bytes taken) (sym is) (all, takes)

-- ---- the plan

-- one result more
after_more : (task : Task) (bytes : List ℕ) (taken : ℕ) (stage : Stage) (results : List CallResult) (r : CallResult)
    → let far = after task bytes taken stage results in let last = goes_on task bytes far.taken far.stage r in
    after task bytes taken stage (results ++ r ∷ []) ≡ record { stage = last.stage; taken = last.taken; text = far.text ++ last.text }
unfolding after
after_more task bytes taken stage [] r =
    let last = goes_on task bytes taken stage r in
    ap (λ (text : List ℕ). record { stage = last.stage; taken = last.taken; text = text }) (append-nil last.text)
after_more task bytes taken stage (first ∷ results) r =
    let went = goes_on task bytes taken stage first in
    let rest = after task bytes went.taken went.stage results in
    let last = goes_on task bytes rest.taken rest.stage r in
    ap (λ (x : Progress). record { stage = x.stage; taken = x.taken; text = went.text ++ x.text }) (after_more task bytes went.taken went.stage results r)
    ∙ ap (λ (text : List ℕ). record { stage = last.stage; taken = last.taken; text = text }) (sym (append_assoc went.text rest.text last.text))

pub runs_are_planned : (c : Command) (bytes : List ℕ) (from : Around) (start : CommandState) (now : Around) (s : CommandState) (count taken : ℕ) (text : List ℕ) → Runs c bytes from start count now s taken text
    → IsPlanned c bytes start s count taken text
unfolding after
runs_are_planned c bytes from start now s count taken text begun = record { results = []; each = refl; is = refl }
runs_are_planned c bytes from start now s count taken text (carried n between later s1 drawn before left ended runs op) =
    let so_far = runs_are_planned c bytes from start between s1 n drawn before runs in
    record {
      results = so_far.results ++ ended ∷ [];
      each = length-append so_far.results (ended ∷ []) ∙ ap (λ (k : ℕ). k + 1) so_far.each;
      is =
          after_more c.task bytes 0 start.stage so_far.results ended
          ∙ ap
          (λ (x : Progress).
          let last = goes_on c.task bytes x.taken x.stage ended in
          record { stage = last.stage; taken = last.taken; text = x.text ++ last.text }) so_far.is;
    }
