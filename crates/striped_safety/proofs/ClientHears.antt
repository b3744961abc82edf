-- what a client hears while a call on a striped file waits, as moves of the file's world
use Rattle.std.proofs.Common.{◌≡◌, ℕ, suc, ◌<◌, ◌≤◌, inl, inr, List, ◌++◌, map, take, refl, ap, sym, ◌∙◌, subst, arith, if◌then◌else◌, Option, Some, None, true}
use Rattle.std.specs.Prelude.{slice_get}
use Rattle.xt_base.specs.declared.ids.NodeId.{NodeId}
use Rattle.xt_base.specs.declared.ids.FileId.{FileId}
use Rattle.xt_base.specs.declared.ids.SizeMark.{SizeMark}
use Rattle.xt_messages.specs.declared.file.Capability.{Capability}
use Rattle.xt_messages.specs.declared.file.Location.{Location}
use Rattle.xt_messages.specs.declared.file.Op.{Op}
use Rattle.xt_messages.specs.declared.file.Op.TheVariants as op
use Rattle.xt_messages.specs.declared.reply.Reply.TheVariants as reply
use Rattle.xt_messages.specs.declared.message.Msg.{Msg}
use Rattle.xt_protocol.specs.Objects.{readable}
use Rattle.truncate_epochs.specs.SizeMarks.{merged}
use Rattle.lease_safety.specs.State.{Has}
use Rattle.replica_safety.specs.Epochs.{at_node}
use Rattle.replica_runs.proofs.Tools.{by_node}
use Rattle.client_rows.specs.declared.ClientState.{ClientState}
use Rattle.client_rows.specs.declared.holding.HeldFile.{HeldFile}
use Rattle.client_rows.specs.declared.progress.Learnt.{Learnt}
use Rattle.client_rows.specs.declared.progress.Learnt.TheVariants as learnt
use Rattle.client_rows.specs.declared.progress.Next.{Next}
use Rattle.client_rows.specs.declared.progress.Next.TheVariants as next
use Rattle.client_rows.specs.declared.progress.Progress.{Progress}
use Rattle.client_rows.specs.declared.requests.CallResult.{CallResult}
use Rattle.client_rows.specs.declared.requests.CallResult.TheVariants as result
use Rattle.client_rows.specs.declared.requests.MadeCall.{MadeCall}
use Rattle.client_rows.specs.declared.requests.Request.TheVariants as request
use Rattle.client_rows.specs.declared.requests.Stage.TheVariants as stage
use Rattle.client_rows.specs.Holding.{Held, held_of, joins, mark_with}
use Rattle.client_rows.specs.Requests.{next_asked, outcome_of, bytes_shown, member_after}
use Rattle.client_rows.specs.Rows as rows
use Rattle.client_rows.specs.Rows.{WholeClient}
use Rattle.time_line.specs.declared.entry.Entry.{Entry}
use Rattle.time_line.specs.declared.entry.Entry.TheVariants as entry
use Rattle.world_spec.specs.NodeSteps.{entry_of}
use Rattle.striped_safety.specs.StripedWorld.{Setting, Asked, ReadShown, StripedWorld, IsSetting, Needs, width_of, stripe_of, node_at, ops_of, hears, ends, MayHear, MayEnd}
use Rattle.striped_safety.specs.StripedWorld as striped
use Rattle.striped_safety.specs.After.{Stands}
use Rattle.striped_safety.proofs.ClientMoves.{AreAside, none_aside, one_aside, EndsBadly, goes_aside}
use Rattle.striped_safety.proofs.ClientRows.{NoMore, NoMark, GoesNoFurther}
use Rattle.striped_safety.proofs.Follows.{MarkIs, asked_by, EndsNotOk, IsAt, Goes, goes, has_ended, ClientAt}
use Rattle.striped_safety.proofs.Held.{mark_joined, joins_mark, joins_found}
use Rattle.striped_safety.proofs.MemberRows.{got, distinct_of}
use Rattle.striped_safety.proofs.Moves.{step_stands}
use Rattle.striped_safety.proofs.Places.{member_next, next_there, next_none}

-- what is known of a client whose call on the file waits
pub record Waits (s : Setting) (es : List Entry) (m : StripedWorld) (c : WholeClient) (made : MadeCall) (capability : Capability) (asked : Op) : Type 0 where
  pub request : made.request ≡ request.Striped capability asked
  pub file : capability.file ≡ s.file
  pub location : capability.location ≡ s.location
  pub goes : Goes s es m made capability asked
  pub numbers : m.next ≤ c.replicas.next
  pub mark : MarkIs (held_of c.held s.file.number) m.mark
  pub holds : (a : Asked) → m.runs ≡ Some a → (h : HeldFile) × (held_of c.held s.file.number ≡ Some h)

-- the client once its call goes on so
abbrev pub client_then : WholeClient → ℕ → ℕ → MadeCall → Progress → WholeClient
client_then c now deadline made comes =
    record {
      replicas = rows.knows_learnt (record c.replicas { last = now }) comes.learnt;
      held = rows.holds_learnt c.held comes.learnt;
      made = Some (record made { stage = rows.stage_after deadline made.stage comes.next });
    }

learnt_next : (c : ClientState) (l : Learnt) → (rows.knows_learnt c l).next ≡ c.next
learnt_next c (learnt.Epoch file epoch) = refl
learnt_next c _ = refl

none_held : (held : Held) (l : Learnt) → NoMark l → rows.holds_learnt held l ≡ held
none_held held (learnt.Mark file size) none = absurd none
none_held held (learnt.Capability capability size) none = absurd none
none_held held learnt.Nothing none = refl
none_held held (learnt.Epoch file epoch) none = refl

ends_badly : (how : CallResult) → EndsNotOk how → EndsBadly (outcome_of how)
ends_badly (result.Ok count size bytes) not = absurd not
ends_badly (result.Retry answers) not = tt
ends_badly (result.Refused why) not = tt
ends_badly (result.Meta told) not = tt
ends_badly (result.Registry told) not = tt

-- ---- nothing of the file is joined

module _ (s : Setting) (es : List Entry) (m : StripedWorld) (c : WholeClient) (made : MadeCall) (capability : Capability) (asked : Op) (is : Waits s es m c made capability asked) (node : NodeId) where
  -- what is reported is aside, and nothing is sent
  pub rest_aside : (file : ℕ) (n : Next) → NoMore n → AreAside file es (map (entry_of node) (rows.marks_of made n))
  rest_aside file next.Wait more = none_aside file es
  rest_aside file (next.Ask t) more = absurd more
  rest_aside file (next.End how) more = one_aside file es (entry.Done node made.number (outcome_of how)) (inr (ends_badly how more))

  pub rest_silent : (n : Next) → NoMore n → (k : Msg) → Has k (rows.sent node made n) → ⊥
  rest_silent next.Wait more k h = h
  rest_silent (next.Ask t) more k h = more
  rest_silent (next.End how) more k h = h

  rest_at : (deadline : ℕ) (n : Next) → NoMore n → IsAt s m asked made.stage → IsAt s m asked (rows.stage_after deadline made.stage n)
  rest_at deadline next.Wait more at = at
  rest_at deadline (next.Ask t) more at = absurd more
  rest_at deadline (next.End how) more at = more

  pub rest_at_client : (now deadline : ℕ) (comes : Progress) → GoesNoFurther comes → (more : List Entry) → AreAside s.file.number es more → ClientAt s (es ++ more) m (client_then c now deadline made comes)
  rest_at_client now deadline comes rests more aside =
      let same_held = none_held c.held comes.learnt rests.learns in
      let still = goes_aside s es more m made capability asked aside is.goes in
      record {
        numbers = subst (λ (n : ℕ). m.next ≤ n) (sym (learnt_next (record c.replicas { last = now }) comes.learnt)) is.numbers;
        mark = subst (λ (h : Held). MarkIs (held_of h s.file.number) m.mark) (sym same_held) is.mark;
        holds = λ a runs. subst (λ (x : Held). (h : HeldFile) × (held_of x s.file.number ≡ Some h)) (sym same_held) (is.holds a runs);
        call = goes (record made { stage = rows.stage_after deadline made.stage comes.next }) capability asked is.request is.file is.location
            (record { runs = still.runs; sent = still.sent; unheard = still.unheard; begun = still.begun; before = still.before; at = rest_at deadline comes.next rests.goes is.goes.at });
      }

-- ---- the target's Ok is heard

module _ (s : Setting) (setting : IsSetting s) (es : List Entry) (m : StripedWorld) (stands : Stands s m) (c : WholeClient) (made : MadeCall) (capability : Capability) (asked : Op) (is : Waits s es m c made capability asked)
    (place count : ℕ) (size : SizeMark) (bytes : List ℕ) (low : place < width_of s) (needed : Needs (width_of s) place asked) (sent : Has (record { place = place; number = made.number; answer = reply.Ok count size bytes }) m.replies)
    (before : (q : ℕ) → q < place → Needs (width_of s) q asked → m.told q ≡ true) where
  abbrev pub heard : StripedWorld
  heard = striped.after s m (hears place made.number count size bytes)

  may_hear : MayHear s m place made.number count size bytes
  may_hear = record { asked = asked_by made capability asked; running = is.goes.runs; same = refl; here = low; needed = needed; sent = sent }

  pub heard_stands : Stands s (striped.after s m (hears place made.number count size bytes))
  heard_stands = step_stands s setting m (hears place made.number count size bytes) may_hear stands

  -- those up to the place have answered
  told_up_to : (q : ℕ) → q < suc place → Needs (width_of s) q asked → at_node place true m.told q ≡ true
  told_up_to q less needs = by_node (λ b. (if b then true else m.told q) ≡ true) q place (λ _. refl) (λ ne. before q (under ne) needs)
    where
      under : (q ≡ place → ⊥) → q < place
      under ne = omega arith

  held_here : (h : HeldFile) × (held_of c.held s.file.number ≡ Some h)
  held_here = is.holds (asked_by made capability asked) is.goes.runs

  file_number : capability.file.number ≡ s.file.number
  file_number = ap (λ (f : FileId). f.number) is.file

  pub all_is : mark_with c.held capability.file.number size ≡ merged m.mark size
  all_is = ap (λ (n : ℕ). mark_with c.held n size) file_number ∙ mark_joined c.held s.file.number size m.mark held_here.0 held_here.1 is.mark

  mark_then : MarkIs (held_of (joins c.held capability.file.number size) s.file.number) (merged m.mark size)
  mark_then = subst (λ (n : ℕ). MarkIs (held_of (joins c.held n size) s.file.number) (merged m.mark size)) (sym file_number) (joins_mark c.held s.file.number size m.mark held_here.0 held_here.1 is.mark)

  found_then : (h : HeldFile) × (held_of (joins c.held capability.file.number size) s.file.number ≡ Some h)
  found_then = subst (λ (n : ℕ). (h : HeldFile) × (held_of (joins c.held n size) s.file.number ≡ Some h)) (sym file_number) (joins_found c.held s.file.number size held_here.0 held_here.1)

  -- the client goes on to another member
  module _ (target : NodeId) (at_target : target ≡ node_at s place) where
    after_is : member_after capability.location.members target ≡ slice_get s.location.members (suc place)
    after_is =
        ap (λ (l : Location). member_after l.members target) is.location ∙ (ap (member_after s.location.members) at_target
        ∙ member_next s.location.members place (node_at s place) (distinct_of s.location.members setting.members) (got s.location.members place low))

    pub goes_on_to : (t : NodeId) → next_asked capability.location.members asked target ≡ Some t → (now deadline late : ℕ)
        → ClientAt s es (striped.after s m (hears place made.number count size bytes))
        (client_then c now late made (record { learnt = learnt.Mark capability.file.number size; next = next.Ask t }))
    goes_on_to t is_next now deadline late =
        record {
          numbers = is.numbers;
          mark = mark_then;
          holds = λ a runs. found_then;
          call = goes (record made { stage = stage.Waiting t late }) capability asked is.request is.file is.location
              (record { runs = is.goes.runs; sent = is.goes.sent; unheard = is.goes.unheard; begun = is.goes.begun; before = is.goes.before; at = by_op asked refl is_next });
        }
      where
        by_op : (o : Op) → asked ≡ o → next_asked capability.location.members o target ≡ Some t → IsAt s (striped.after s m (hears place made.number count size bytes)) asked (stage.Waiting t late)
        by_op (op.Read object at len) same none = absurd (cc none)
        by_op (op.Write object at new) same none = absurd (cc none)
        by_op (op.Truncate new) same some =
            let there = next_there s.location.members (suc place) t (sym after_is ∙ some) in
            (suc place, there.0, there.1, subst (Needs (width_of s) (suc place)) (sym same) there.0, told_up_to)

    -- or all that it needs have answered
    pub all_told : next_asked capability.location.members asked target ≡ None → (q : ℕ) → q < width_of s → Needs (width_of s) q asked → at_node place true m.told q ≡ true
    all_told none q low_q needs = by_op asked refl none
      where
        by_op : (o : Op) → asked ≡ o → next_asked capability.location.members o target ≡ None → at_node place true m.told q ≡ true
        by_op (op.Read object at len) same no_next =
            told_up_to q (let mine = subst (Needs (width_of s) q) same needs in let own = subst (Needs (width_of s) place) same needed in let both : q ≡ place = sym mine ∙ own in omega (arith, both)) needs
        by_op (op.Write object at new) same no_next =
            told_up_to q (let mine = subst (Needs (width_of s) q) same needs in let own = subst (Needs (width_of s) place) same needed in let both : q ≡ place = sym mine ∙ own in omega (arith, both)) needs
        by_op (op.Truncate new) same no_next = told_up_to q (let last = next_none s.location.members (suc place) (sym after_is ∙ no_next) in omega (arith, last, low_q)) needs

  -- ---- the call ends well

  module _ (all : (q : ℕ) → q < width_of s → Needs (width_of s) q asked → at_node place true m.told q ≡ true) where
    abbrev pub ended : StripedWorld
    ended = striped.after s (striped.after s m (hears place made.number count size bytes)) ends

    pub ended_stands : Stands s (striped.after s (striped.after s m (hears place made.number count size bytes)) ends)
    ended_stands =
        step_stands s setting (striped.after s m (hears place made.number count size bytes)) ends
        (record { asked = asked_by made capability asked; running = is.goes.runs; all = all }) heard_stands

    pub ended_ops : ops_of (striped.done_with m.done m.runs) ≡ ops_of (striped.after s (striped.after s m (hears place made.number count size bytes)) ends).done
    ended_ops = refl

    -- what a read showed
    pub read_shown : (before_read : List Op) (object at len : ℕ) → asked ≡ op.Read object at len → before_read ≡ ops_of m.done
        → Has (record { before = before_read; object = object; at = at; len = len; bytes = bytes_shown (mark_with c.held capability.file.number size).size capability.location.stripe asked bytes }) (striped.after s m (hears place made.number count size bytes)).reads
    read_shown before_read object at len same ops =
        subst (λ (b : List ℕ). Has (record { before = before_read; object = object; at = at; len = len; bytes = b }) (striped.after s m (hears place made.number count size bytes)).reads) (sym shown_is)
        (subst (λ (o : List Op). Has (record { before = o; object = object; at = at; len = len; bytes = take (readable (merged m.mark size).size (stripe_of s) object at len) bytes }) (striped.after s m (hears place made.number count size bytes)).reads) (sym ops)
        (subst (λ (r : Option Asked). Has (record { before = ops_of m.done; object = object; at = at; len = len; bytes = take (readable (merged m.mark size).size (stripe_of s) object at len) bytes }) (striped.shown_of s m (merged m.mark size) bytes r ++ m.reads)) (sym is.goes.runs)
        (subst (λ (o : Op). Has (record { before = ops_of m.done; object = object; at = at; len = len; bytes = take (readable (merged m.mark size).size (stripe_of s) object at len) bytes }) (striped.shown_by (stripe_of s) (ops_of m.done) (merged m.mark size) bytes o ++ m.reads)) (sym same) (inl refl))))
      where
        shown_is : bytes_shown (mark_with c.held capability.file.number size).size capability.location.stripe asked bytes ≡ take (readable (merged m.mark size).size (stripe_of s) object at len) bytes
        shown_is =
            ap (λ (x : SizeMark). bytes_shown x.size capability.location.stripe asked bytes) all_is
            ∙ (ap (λ (l : Location). bytes_shown (merged m.mark size).size l.stripe asked bytes) is.location ∙ ap (λ (o : Op). bytes_shown (merged m.mark size).size (stripe_of s) o bytes) same)

    -- the client then
    pub ended_client : (more : List Entry) (now late : ℕ) (shown : List ℕ)
        → ClientAt s (es ++ more) (striped.after s (striped.after s m (hears place made.number count size bytes)) ends)
        (client_then c now late made (record { learnt = learnt.Mark capability.file.number size; next = next.End (result.Ok count (mark_with c.held capability.file.number size) shown) }))
    ended_client more now late shown =
        record {
          numbers = is.numbers;
          mark = mark_then;
          holds = λ a runs. absurd (cc runs);
          call = has_ended (record made { stage = stage.Ended (result.Ok count (mark_with c.held capability.file.number size) shown) }) capability asked count (mark_with c.held capability.file.number size) shown is.request refl refl;
        }
