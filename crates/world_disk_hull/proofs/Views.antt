-- the records of a node, and where they are on its disk, are what was done to them has made
use Rattle.std.proofs.Common.{◌≡◌, ◌==◌, ◌%◌, ◌+◌, ◌&&◌, ℕ, Bool, true, false, if◌then◌else◌, List, [], ◌∷◌, ◌++◌, Option, Some, None, refl, sym, ◌∙◌, ap, subst, arith}
use Rattle.std.proofs.lemmas.List.Sums.{fold-append}
use Rattle.journal_areas.specs.declared.superblock.Superblock.{Superblock}
use Rattle.xt_messages.specs.declared.record.KeepBody.{KeepBody}
use Rattle.xt_messages.specs.declared.record.Record.{Record}
use Rattle.xt_protocol.specs.Forgetting.{rewritten}
use Rattle.world_spec.specs.World.{Deed, puts, loads, rewrites}
use Rattle.world_hull.specs.declared.hull.Kept.{Kept}
use Rattle.world_hull.specs.declared.hull.Kept.TheVariants.{Done, StoppedKept, StoppedLost}
use Rattle.world_disk.specs.Ends.{own_after}
use Rattle.world_disk.specs.Room.{Laid, has_room_for, is_due, laid_after, laid_by, moved_to, nothing_laid, rewrites_at}
use Rattle.world_disk.specs.Stored.{Stored, IsRewritten, RewritesTo}
use Rattle.world_disk_hull.specs.Views.{IsLaidBy, OwnRewritten, own_past_after, own_put_after}

-- one deed more
deed_more : (past : List Deed) (deed : Deed) → laid_by (past ++ deed ∷ []) ≡ laid_after (laid_by past) deed
unfolding laid_by
deed_more past deed = fold-append laid_after nothing_laid past (deed ∷ [])

none_laid : laid_by [] ≡ nothing_laid
unfolding laid_by
none_laid = refl

pub none_due : true ≡ is_due (laid_by [])
none_due = ap is_due (sym none_laid)

-- a new node's records
pub new_laid : (records : List Record) (super : Option Superblock) (past : List Deed) → records ≡ [] → super ≡ None → past ≡ [] → IsLaidBy past records super 0
new_laid records super past no_record no_superblock no_deed =
    let laid : laid_by past ≡ nothing_laid = ap laid_by no_deed ∙ none_laid in
    record {
      are = no_record ∙ sym (ap (λ (l : Laid). l.records) laid);
      superblock = no_superblock ∙ sym (ap (λ (l : Laid). l.superblock) laid);
      number = ap (λ (l : Laid). l.put % 64) (sym laid);
    }

one_more : (n : ℕ) → (n % 64 + 1) % 64 ≡ (n + 1) % 64
one_more n = omega arith

module _ (past : List Deed) (records : List Record) (super : Option Superblock) (put : ℕ) (is : IsLaidBy past records super put) where
  one_put : (rec : Record) → IsLaidBy (past ++ puts rec ∷ []) (records ++ rec ∷ []) super ((put + 1) % 64)
  one_put rec =
      let more = sym (deed_more past (puts rec)) in
      record {
        are = ap (λ (rs : List Record). rs ++ rec ∷ []) is.are ∙ ap (λ (l : Laid). l.records) more;
        superblock = is.superblock ∙ ap (λ (l : Laid). l.superblock) more;
        number = ap (λ (n : ℕ). (n + 1) % 64) is.number ∙ one_more (laid_by past).put ∙ ap (λ (l : Laid). l.put % 64) more;
      }

  after : (rec : Record) (end : Kept) → IsLaidBy (own_past_after past rec end) (own_after records rec end) super (own_put_after put end)
  after rec Done = one_put rec
  after rec StoppedKept = one_put rec
  after rec StoppedLost = is

  -- after an append that ended so
  pub appended_laid : (rec : Record) (end : Kept) (later : List Deed) (new : List Record) (now : Option Superblock) (number : ℕ) → new ≡ own_after records rec end → now ≡ super
      → later ≡ own_past_after past rec end → number ≡ own_put_after put end → IsLaidBy later new now number
  appended_laid rec end later new now number own same deeds count =
      subst (λ (p : List Deed). IsLaidBy p new now number) (sym deeds)
      (subst (λ (rs : List Record). IsLaidBy (own_past_after past rec end) rs now number) (sym own)
      (subst (λ (s : Option Superblock). IsLaidBy (own_past_after past rec end) (own_after records rec end) s number) (sym same)
      (subst (λ (n : ℕ). IsLaidBy (own_past_after past rec end) (own_after records rec end) super n) (sym count) (after rec end))))

  -- after a load
  pub loaded_laid : (later : List Deed) (new : List Record) (now : Option Superblock) → later ≡ past ++ loads ∷ [] → new ≡ records → now ≡ super → IsLaidBy later new now 0
  loaded_laid later new now deeds same same_superblock =
      let more = sym (deed_more past loads) ∙ ap laid_by (sym deeds) in
      record {
        are = same ∙ is.are ∙ ap (λ (l : Laid). l.records) more;
        superblock = same_superblock ∙ is.superblock ∙ ap (λ (l : Laid). l.superblock) more;
        number = ap (λ (l : Laid). l.put % 64) more;
      }

  -- whether it is time
  pub due_by : (put == 0) ≡ ((laid_by past).put % 64 == 0)
  due_by = ap (λ (n : ℕ). n == 0) is.number

  pub not_due : (keep : List KeepBody) → (put == 0) ≡ false → false ≡ rewrites_at (laid_by past) keep
  not_due keep early = ap (λ (b : Bool). b && has_room_for (laid_by past).superblock (laid_by past).records (rewritten keep (laid_by past).records)) (sym early ∙ due_by)

  pub due_with_room : (keep : List KeepBody) (rewrote : Bool) → (put == 0) ≡ true → rewrote ≡ has_room_for super records (rewritten keep records)
      → rewrote ≡ rewrites_at (laid_by past) keep
  due_with_room keep rewrote time room =
      room ∙ ap (λ (s : Option Superblock). has_room_for s records (rewritten keep records)) is.superblock
      ∙ ap (λ (rs : List Record). has_room_for (laid_by past).superblock rs (rewritten keep rs)) is.are
      ∙ ap (λ (b : Bool). b && has_room_for (laid_by past).superblock (laid_by past).records (rewritten keep (laid_by past).records)) (sym time ∙ due_by)

-- after the records were rewritten, or weren't
module _ (past : List Deed) (put : ℕ) (old : Stored) (keep : List KeepBody) (is : IsLaidBy past old.records old.superblock put) where
  made_laid : (rewrote : Bool) (new : Stored) → RewritesTo old (rewritten keep old.records) rewrote new
      → IsLaidBy (if rewrote then past ++ rewrites keep ∷ [] else past) new.records new.superblock put
  made_laid true new made =
      let more = sym (deed_more past (rewrites keep)) in
      record {
        are = made.0 ∙ ap (rewritten keep) is.are ∙ ap (λ (l : Laid). l.records) more;
        superblock = made.1 ∙ ap (λ (s : Option Superblock). Some (moved_to s old.records (rewritten keep old.records))) is.superblock
            ∙ ap (λ (rs : List Record). Some (moved_to (laid_by past).superblock rs (rewritten keep rs))) is.are
            ∙ ap (λ (l : Laid). l.superblock) more;
        number = is.number ∙ ap (λ (l : Laid). l.put % 64) more;
      }
  made_laid false new made = subst (λ (s : Stored). IsLaidBy past s.records s.superblock put) (sym made) is

  pub rewritten_laid : (rewrote : Bool) (new : Stored) (later : List Deed) → IsRewritten old keep rewrote new → later ≡ (if rewrote then past ++ rewrites keep ∷ [] else past)
      → IsLaidBy later new.records new.superblock put
  rewritten_laid rewrote new later ended deeds =
      subst (λ (p : List Deed). IsLaidBy p new.records new.superblock put) (sym deeds) (made_laid rewrote new ended.made)

-- what is shown of it
pub own_rewritten : (past later : List Deed) (old new : Stored) (keep : List KeepBody) (rewrote : Bool) → IsRewritten old keep rewrote new
    → later ≡ (if rewrote then past ++ rewrites keep ∷ [] else past)
    → OwnRewritten (record { records = old.records; past = past; disk = old.disk }) keep rewrote (record { records = new.records; past = later; disk = new.disk })
own_rewritten past later old new keep rewrote ended deeds = at rewrote ended.made deeds
  where
    at : (b : Bool) → RewritesTo old (rewritten keep old.records) b new → later ≡ (if b then past ++ rewrites keep ∷ [] else past)
        → OwnRewritten (record { records = old.records; past = past; disk = old.disk }) keep b (record { records = new.records; past = later; disk = new.disk })
    at true made done = (made.0, done)
    at false made done = cc (made, done)
