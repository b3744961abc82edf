-- from the row of a file that has changed to the row of the file before it
use Rattle.std.proofs.Common.{◌≡◌, ◌∙◌, ℕ, Bool, true, false, refl, ap, sym, subst, Result, Ok, Err, Option, Some, None, IfSome, IfNone, List, cond, arith, ◌<◌}
use Rattle.std.specs.Prelude.{◌==◌, nat_lt}
use Rattle.std.specs.Result.{IfOk, OnErr, OnOk}
use Rattle.xt_base.specs.declared.ids.FileId.{FileId}
use Rattle.xt_messages.specs.declared.record.Record.{Record}
use Rattle.xt_base.specs.declared.ids.Stamp.{Stamp}
use Rattle.xt_messages.specs.declared.file.Capability.{Capability}
use Rattle.xt_protocol.specs.declared.turned.Turned.{Turned}
use Rattle.xt_protocol.specs.FileStates.{FileState, Site, FileStep}
use Rattle.xt_protocol.specs.SeenBodies.{body_by}
use Rattle.xt_protocol.specs.Turns.{joined}
use Rattle.xt_base.specs.declared.ids.NodeId.{NodeId}
use Rattle.xt_messages.specs.declared.message.Payload.{Payload}
use Rattle.xt_protocol.specs.LeaseRows.{Awake, LeaseState, LeaseNews, on_answer}
use Rattle.xt_protocol.specs.FileLeases.{answer_comes, end_after_answer, lease_news}
use Rattle.object_versions.specs.KeptBodies.{IsTold, ReadsOnly}
use Rattle.object_versions.specs.declared.errors.StepErr.{StepErr}
use Rattle.osd_files.specs.Views.{FileView, site_at}
use Rattle.osd_files.specs.Rows.{IsRow, IsRowBy}

pub if_ok : {A E : Type 0} (P Q : A → Type 0) (r : Result A E) → ((a : A) → P a → Q a) → IfOk r P → IfOk r Q
if_ok P Q (Ok a) all h = all a h
if_ok P Q (Err e) all h = h

-- what holds in any case, of an error
pub on_err : {A E : Type 0} (r : Result A E) (S : Type 0) → S → OnErr r S
on_err (Ok a) S s = tt
on_err (Err e) S s = s

pub if_both : {A E : Type 0} (P : A → Type 0) (S : Type 0) (Q : A → Type 0) (r : Result A E) → ((a : A) → P a → S → Q a) → IfOk r P → OnOk r S → IfOk r Q
if_both P S Q (Ok a) all h s = all a h s
if_both P S Q (Err e) all h s = h

-- what holds after a call that leaves all as it was where it fails
pub in_both : {A E : Type 0} (P : A → Type 0) (S Q : Type 0) (r : Result A E) → ((a : A) → P a → Q) → (S → Q) → IfOk r P → OnErr r S → Q
in_both P S Q (Ok a) ok err is same = ok a is
in_both P S Q (Err e) ok err is same = err same

-- what a step gave that is kept where it succeeded
pub kept_ok : {A E F : Type 0} (P : F → A → Type 0) (made kept : F) (given r : Result A E) → r ≡ given → OnOk given (kept ≡ made) → IfOk given (P made) → IfOk r (P kept)
kept_ok {A = A} {E = E} P made kept given r is same of =
    subst (λ (x : Result A E). IfOk x (P kept)) (sym is) (if_both (P made) (kept ≡ made) (P kept) given (λ a holds k. subst (λ (f : _). P f a) (sym k) holds) of same)

-- a row on a file is another row on the file as it was before
pub row_from : (first second : Site → FileState → FileStep) (now : ℕ) (awake : Awake) (old mid : FileState) (new : FileView) (turned : Turned)
    → ((sealed : Capability → Bool) (body : FileId → ℕ → Stamp → List ℕ) → second (site_at awake now sealed body) old ≡ first (site_at awake now sealed body) mid)
    → IsRow first now (record { awake = awake; state = mid }) new turned → IsRow second now (record { awake = awake; state = old }) new turned
row_from first second now awake old mid new turned same row =
    λ sealed body. record { here = (row sealed body).here; step = same sealed body ∙ (row sealed body).step }

pub rows_from : {E : Type 0} (first second : Site → FileState → FileStep) (now : ℕ) (awake : Awake) (old mid : FileState) (new : FileView) (r : Result Turned E)
    → ((sealed : Capability → Bool) (body : FileId → ℕ → Stamp → List ℕ) → second (site_at awake now sealed body) old ≡ first (site_at awake now sealed body) mid)
    → IfOk r (λ turned. IsRow first now (record { awake = awake; state = mid }) new turned)
    → IfOk r (λ turned. IsRow second now (record { awake = awake; state = old }) new turned)
rows_from first second now awake old mid new r same rows =
    let P : Turned → Type 0 = λ turned. IsRow first now (record { awake = awake; state = mid }) new turned in
    let Q : Turned → Type 0 = λ turned. IsRow second now (record { awake = awake; state = old }) new turned in
    let all : (turned : Turned) → P turned → Q turned = λ turned row. row_from first second now awake old mid new turned same row in
    if_ok P Q r all rows

-- a row that doesn't look at the clock
pub at_clock : {E : Type 0} (row : Site → FileState → FileStep) (now : ℕ) (old new : FileView) (r : Result Turned E)
    → IfOk r (λ turned. (now : ℕ) → IsRow row now old new turned) → IfOk r (λ turned. IsRow row now old new turned)
at_clock row now old new r rows =
    let P : Turned → Type 0 = λ turned. (now : ℕ) → IsRow row now old new turned in
    let Q : Turned → Type 0 = λ turned. IsRow row now old new turned in
    let all : (turned : Turned) → P turned → Q turned = λ turned row. row now in
    if_ok P Q r all rows

pub each_clock : {E : Type 0} (first second : Site → FileState → FileStep) (awake : Awake) (old mid : FileState) (new : FileView) (r : Result Turned E)
    → ((now : ℕ) (sealed : Capability → Bool) (body : FileId → ℕ → Stamp → List ℕ) → second (site_at awake now sealed body) old ≡ first (site_at awake now sealed body) mid)
    → IfOk r (λ turned. (now : ℕ) → IsRow first now (record { awake = awake; state = mid }) new turned)
    → IfOk r (λ turned. (now : ℕ) → IsRow second now (record { awake = awake; state = old }) new turned)
each_clock first second awake old mid new r same rows =
    let P : Turned → Type 0 = λ turned. (now : ℕ) → IsRow first now (record { awake = awake; state = mid }) new turned in
    let Q : Turned → Type 0 = λ turned. (now : ℕ) → IsRow second now (record { awake = awake; state = old }) new turned in
    let all : (turned : Turned) → P turned → Q turned = λ turned row now. row_from first second now awake old mid new turned (same now) (row now) in
    if_ok P Q r all rows

-- something, and then a row
abbrev pub behind_it : Turned → FileStep → FileStep
behind_it first step = record { state = step.state; turned = joined first step.turned }

-- what two parts of a step give, by what the second one gives
pub rest_ok : {E F : Type 0} (P Q : Turned → Type 0) (first : Turned) (rest : Result Turned E) (r : Result Turned F)
    → ((next turned : Turned) → P next → turned ≡ joined first next → Q turned)
    → IfOk r (λ turned. (next : Turned) × (rest ≡ Ok next) × (turned ≡ joined first next)) → IfOk rest P → IfOk r Q
rest_ok {E = E} P Q first rest (Ok turned) all made of = all made.0 turned (subst (λ (x : Result Turned E). IfOk x P) made.1 of) made.2
rest_ok P Q first rest (Err e) all made of = made

pub joins_next : {E F : Type 0} (row whole : Site → FileState → FileStep) (now : ℕ) (awake : Awake) (old mid : FileState) (new : FileView) (first : Turned) (rest : Result Turned E) (r : Result Turned F)
    → ((sealed : Capability → Bool) (body : FileId → ℕ → Stamp → List ℕ) → whole (site_at awake now sealed body) old ≡ behind_it first (row (site_at awake now sealed body) mid))
    → IfOk rest (λ next. IsRow row now (record { awake = awake; state = mid }) new next)
    → IfOk r (λ turned. (next : Turned) × (rest ≡ Ok next) × (turned ≡ joined first next))
    → IfOk r (λ turned. IsRow whole now (record { awake = awake; state = old }) new turned)
joins_next row whole now awake old mid new first rest r same step made =
    let P : Turned → Type 0 = λ turned. IsRow row now (record { awake = awake; state = mid }) new turned in
    let Q : Turned → Type 0 = λ turned. IsRow whole now (record { awake = awake; state = old }) new turned in
    let all : (next turned : Turned) → P next → turned ≡ joined first next → Q turned = λ next turned of is sealed body.
    record {
      here = (of sealed body).here;
      step =
          same sealed body ∙ ap (behind_it first) (of sealed body).step
          ∙ ap (λ (t : Turned). let made : FileStep = record { state = new.state; turned = t } in made) (sym is);
    }
    in
    rest_ok P Q first rest r all made step

if_none : (o : Option StepErr) (a b c : ℕ) → IfNone o (a ≡ b) → b ≡ c → IfNone o (a ≡ c)
if_none None a b c first next = first ∙ next
if_none (Some n) a b c first next = first

-- a step reads as the part of it that fails
pub reads_as : {B : Type 0} (agrees : B → List Record → Type 0) (faults : B → ℕ) (old new : B) (part whole : Option StepErr) → whole ≡ part
    → ReadsOnly agrees faults old new part → ReadsOnly agrees faults old new whole
reads_as agrees faults old new part whole same reads = subst (λ (f : Option StepErr). ReadsOnly agrees faults old new f) (sym same) reads

-- the same after a part that has not failed
pub reads_behind : {B : Type 0} (agrees : B → List Record → Type 0) (faults : B → ℕ) (old mid new : B) (part whole : Option StepErr) → whole ≡ part
    → ReadsOnly agrees faults old mid None → ReadsOnly agrees faults mid new part → ReadsOnly agrees faults old new whole
reads_behind agrees faults old mid new part whole same first next =
    reads_as agrees faults old new part whole same
    (record {
      later = λ records agree. first.later records (next.later records agree);
      failed = subst (λ (n : ℕ). IfSome part (IsTold (agrees new) n (faults new))) first.sound next.failed;
      sound = if_none part (faults new) (faults mid) (faults old) next.sound first.sound;
    })

-- what holds for each list of records that agrees, for one of them
pub for_one : {A E : Type 0} (agrees : List Record → Type 0) (P : List Record → A → Type 0) (r : Result A E) (one : (records : List Record) × agrees records)
    → IfOk r (λ a. (records : List Record) → agrees records → P records a) → IfOk r (P one.0)
for_one agrees P (Ok a) one each = each one.0 one.1
for_one agrees P (Err e) one each = each

-- Tests.

pub eq_true : (a b : ℕ) → a ≡ b → (a == b) ≡ true
eq_true a b is = grind arith

pub eq_false : (a b : ℕ) → (a ≡ b → ⊥) → (a == b) ≡ false
eq_false a b not = grind arith

pub lt_true : (a b : ℕ) → a < b → nat_lt a b ≡ true
lt_true a b less = grind arith

pub when_true : {A : Type 0} (b : Bool) (x y : A) → b ≡ true → cond b x y ≡ x
when_true true x y is = refl
when_true false x y is = absurd cc

pub when_false : {A : Type 0} (b : Bool) (x y : A) → b ≡ false → cond b x y ≡ y
when_false true x y is = absurd cc
when_false false x y is = refl

-- what an answer to a round makes of a file, by what the lease reports
pub answered : (site : Site) (s : FileState) (from : NodeId) (content : Payload) (l : LeaseState) (end : ℕ) (news : LeaseNews)
    → l ≡ (on_answer s.lease site.now from content).state → end ≡ end_after_answer site s from content → news ≡ (on_answer s.lease site.now from content).news
    → answer_comes site s from content ≡ lease_news site (record s { lease = l; last_end = end }) news
unfolding answer_comes
answered site s from content l end news is-l is-end is-news =
    let step = on_answer s.lease site.now from content in
    let by : LeaseState → ℕ → LeaseNews → FileStep = λ l end news. lease_news site (record s { lease = l; last_end = end }) news in
    ap (λ (x : LeaseState). by x (end_after_answer site s from content) step.news) (sym is-l)
    ∙ ap (λ (e : ℕ). by l e step.news) (sym is-end)
    ∙ ap (λ (n : LeaseNews). by l end n) (sym is-news)

-- the same, where bodies are those of records that agree
pub rows_by : {E : Type 0} (agrees : List Record → Type 0) (first second : Site → FileState → FileStep) (now : ℕ) (awake : Awake) (old mid : FileState) (new : FileView) (r : Result Turned E)
    → ((records : List Record) (sealed : Capability → Bool) → second (site_at awake now sealed (body_by records)) old ≡ first (site_at awake now sealed (body_by records)) mid)
    → IfOk r (λ turned. (records : List Record) → agrees records → IsRowBy first now (body_by records) (record { awake = awake; state = mid }) new turned)
    → IfOk r (λ turned. (records : List Record) → agrees records → IsRowBy second now (body_by records) (record { awake = awake; state = old }) new turned)
rows_by agrees first second now awake old mid new r same rows =
    let P : Turned → Type 0 = λ turned. (records : List Record) → agrees records → IsRowBy first now (body_by records) (record { awake = awake; state = mid }) new turned in
    let Q : Turned → Type 0 = λ turned. (records : List Record) → agrees records → IsRowBy second now (body_by records) (record { awake = awake; state = old }) new turned in
    let all : (turned : Turned) → P turned → Q turned = λ turned of records agree sealed.
    let row = of records agree sealed in
    record { here = row.here; step = same records sealed ∙ row.step }
    in
    if_ok P Q r all rows

pub joins_by : {E F : Type 0} (agrees : List Record → Type 0) (row whole : Site → FileState → FileStep) (now : ℕ) (awake : Awake) (old mid : FileState) (new : FileView) (first : Turned) (rest : Result Turned E) (r : Result Turned F)
    → ((records : List Record) (sealed : Capability → Bool) → whole (site_at awake now sealed (body_by records)) old ≡ behind_it first (row (site_at awake now sealed (body_by records)) mid))
    → IfOk rest (λ next. (records : List Record) → agrees records → IsRowBy row now (body_by records) (record { awake = awake; state = mid }) new next)
    → IfOk r (λ turned. (next : Turned) × (rest ≡ Ok next) × (turned ≡ joined first next))
    → IfOk r (λ turned. (records : List Record) → agrees records → IsRowBy whole now (body_by records) (record { awake = awake; state = old }) new turned)
joins_by agrees row whole now awake old mid new first rest r same step made =
    let P : Turned → Type 0 = λ turned. (records : List Record) → agrees records → IsRowBy row now (body_by records) (record { awake = awake; state = mid }) new turned in
    let Q : Turned → Type 0 = λ turned. (records : List Record) → agrees records → IsRowBy whole now (body_by records) (record { awake = awake; state = old }) new turned in
    let all : (next turned : Turned) → P next → turned ≡ joined first next → Q turned = λ next turned of is records agree sealed.
    let after = of records agree sealed in
    record {
      here = after.here;
      step =
          same records sealed ∙ ap (behind_it first) after.step
          ∙ ap (λ (t : Turned). let made : FileStep = record { state = new.state; turned = t } in made) (sym is);
    }
    in
    rest_ok P Q first rest r all made step
