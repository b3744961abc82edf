-- what is known of a source's bytes while they are taken piece by piece
use Rattle.std.proofs.Common.{◌≡◌, ◌∙◌, ◌<◌, ◌≤◌, ◌+◌, ℕ, zero, suc, Bool, true, false, refl, sym, ap, subst, Option, Some, None, List, [], ◌∷◌, ◌++◌, length, take, drop, append_assoc, append-nil, length-append, arith}
use Rattle.std.proofs.Math.Seq.{take-append_seam, drop-append_seam}
use Rattle.std.proofs.lemmas.Bool.{lt-ltb, ltb-true}
use Rattle.node_links.specs.Streams.{Takes, IsAtEnd}
use Rattle.schedule_lines.proofs.Streamed.{Takes-append, Takes-nothing}
use Rattle.client_loop.specs.Carrying.{Around}
use Rattle.client_plans.specs.declared.stage.Stage.{Stage}
use Rattle.client_plans.specs.Plans.{room_at, with_piece}
use Rattle.client_jobs.specs.declared.content.SourcePieces.{SourcePieces}
use Rattle.client_jobs.specs.declared.running.Advanced.TheVariants as to
use Rattle.client_jobs.specs.declared.session.CommandSession.{CommandSession}
use Rattle.client_jobs.specs.Content.{HasRead, HasPartRead}
use Rattle.client_jobs.specs.Running.{Command, CommandState, AreAll, IsUnderWay, HasAdvanced}
use Rattle.client_jobs.proofs.Working.{way_begins, way_goes}

-- ---- what a source can have

-- what was seen of a source: all that was taken of it
pub record IsFed (left now : Option (List ℕ)) (pieces : SourcePieces) (seen : List ℕ) : Type 0 where
  pub takes : Takes left now seen
  pub place : pieces.taken ≡ length seen
  pub end : pieces.ended ≡ true → IsAtEnd now

-- These can be all its bytes: those that were seen, and others after them where it wasn't at its end.
pub record CanHave (ended : Bool) (seen bytes : List ℕ) : Type 0 where
  pub more : List ℕ
  pub is : bytes ≡ seen ++ more
  pub end : ended ≡ true → more ≡ []

less : (a b : ℕ) → suc a ≤ suc b → a ≤ b
less a b h = omega arith

lesser : (a b : ℕ) → a < b → suc a < suc b
lesser a b h = omega arith

some : (n : ℕ) → 0 < suc n
some n = omega arith

none_below : {A : Type 0} (n : ℕ) → suc n ≤ 0 → A
none_below n h = absurd (omega (arith, h))

-- A piece is the front of what there is, where it is full or nothing comes after it.
take_piece : (room : ℕ) (piece more : List ℕ) → length piece ≤ room → (length piece < room → more ≡ []) → piece ≡ take room (piece ++ more)
take_piece zero [] more few none = refl
take_piece (suc room) [] more few none = sym (ap (take (suc room)) (none (some room)))
take_piece zero (x ∷ piece) more few none = none_below (length piece) few
take_piece (suc room) (x ∷ piece) more few none =
    ap (λ (rest : List ℕ). x ∷ rest) (take_piece room piece more (less (length piece) room few) (λ h. none (lesser (length piece) room h)))

-- ---- a piece more

piece_taken : (was ended : Bool) (before after : Option (List ℕ)) (room : ℕ) (piece : List ℕ) → HasRead was ended before after room piece → Takes before after piece
piece_taken true ended before after room piece read =
    subst (λ (p : List ℕ). Takes before after p) (sym read.0) (subst (λ (a : Option (List ℕ)). Takes before a []) (sym read.1) (Takes-nothing before))
piece_taken false ended before after room piece read = read.0

end_after : (was ended : Bool) (before after : Option (List ℕ)) (room : ℕ) (piece : List ℕ) → (was ≡ true → IsAtEnd before) → HasRead was ended before after room piece
    → ended ≡ true → IsAtEnd after
end_after true ended before after room piece end read now = subst IsAtEnd (sym read.1) (end refl)
end_after false ended before after room piece end read now = read.3 (ltb-true (length piece) room (sym read.2 ∙ now))

none_left : (was ended : Bool) (before after : Option (List ℕ)) (room : ℕ) (piece : List ℕ) → HasRead was ended before after room piece → length piece < room → ended ≡ true
none_left true ended before after room piece read short = read.2
none_left false ended before after room piece read short = read.2 ∙ lt-ltb (length piece) room short

few_bytes : (was ended : Bool) (before after : Option (List ℕ)) (room : ℕ) (piece : List ℕ) → HasRead was ended before after room piece → length piece ≤ room
few_bytes true ended before after room piece read = let none : length piece ≡ 0 = ap length read.0 in omega (arith, none)
few_bytes false ended before after room piece read = read.1

-- what it can have now it could have before
had : (was ended : Bool) (before after : Option (List ℕ)) (room : ℕ) (seen piece bytes : List ℕ) → HasRead was ended before after room piece → CanHave ended (seen ++ piece) bytes
    → CanHave was seen bytes
had true ended before after room seen piece bytes read can =
    record {
      more = piece ++ can.more;
      is = can.is ∙ append_assoc seen piece can.more;
      end = λ h. ap (λ (p : List ℕ). p ++ can.more) read.0 ∙ can.end read.2;
    }
had false ended before after room seen piece bytes read can =
    record {
      more = piece ++ can.more;
      is = can.is ∙ append_assoc seen piece can.more;
      end = λ h. absurd (let wrong : false ≡ true = h in cc);
    }

-- and what was taken is the piece of all of it that comes next
next_is : (was ended : Bool) (before after : Option (List ℕ)) (room taken : ℕ) (seen piece bytes : List ℕ) → HasRead was ended before after room piece
    → taken ≡ length seen → CanHave ended (seen ++ piece) bytes → piece ≡ take room (drop taken bytes)
next_is was ended before after room taken seen piece bytes read place can =
    take_piece room piece can.more (few_bytes was ended before after room piece read) (λ h. can.end (none_left was ended before after room piece read h))
    ∙ ap (take room)
    (sym
    (ap (λ (n : ℕ). drop n bytes) place ∙ ap (drop (length seen)) (can.is ∙ append_assoc seen piece can.more) ∙ drop-append_seam seen (piece ++ can.more)))

fed_more : (left before after : Option (List ℕ)) (old new : SourcePieces) (room : ℕ) (seen piece : List ℕ) → IsFed left before old seen
    → HasRead old.ended new.ended before after room piece → new.taken ≡ old.taken + length piece → IsFed left after new (seen ++ piece)
fed_more left before after old new room seen piece fed read more =
    record {
      takes = Takes-append left before after seen piece fed.takes (piece_taken old.ended new.ended before after room piece read);
      place = more ∙ ap (λ (n : ℕ). n + length piece) fed.place ∙ sym (length-append seen piece);
      end = end_after old.ended new.ended before after room piece fed.end read;
    }

-- ---- all of its bytes

record HasAll (left now : Option (List ℕ)) (ended : Bool) (seen : List ℕ) (taken : ℕ) : Type 0 where
  bytes : List ℕ
  all : AreAll left bytes
  can : CanHave ended seen bytes
  takes : Takes left now (take taken bytes)

-- those that are left, where they are known, and else those that were seen
all_of : (left now : Option (List ℕ)) (ended : Bool) (seen : List ℕ) (taken : ℕ) → Takes left now seen → taken ≡ length seen → (ended ≡ true → IsAtEnd now)
    → HasAll left now ended seen taken
all_of None now ended seen taken takes place end =
    record { bytes = seen; all = tt; can = record { more = []; is = sym (append-nil seen); end = λ h. refl }; takes = takes }
all_of (Some left) now ended seen taken takes place end =
    let front : seen ≡ take taken left =
    sym (ap (λ (n : ℕ). take n left) place ∙ ap (take (length seen)) takes.1 ∙ take-append_seam seen takes.0) in
    record {
      bytes = left;
      all = refl;
      can = record { more = takes.0; is = takes.1; end = λ h. subst IsAtEnd takes.2 (end h) };
      takes = subst (λ (xs : List ℕ). Takes (Some left) now xs) front takes;
    }

-- ---- a command on its way

-- So many operations were carried out, whatever the source has after what was seen of it.
pub record IsOnItsWay (c : Command) (left rest : Option (List ℕ)) (pieces : SourcePieces) (from : Around) (start : CommandState) (held : Option (List ℕ)) (count : ℕ)
    (now : Around) (s : CommandState) (later : Option (List ℕ)) : Type 0 where
  pub seen : List ℕ
  pub fed : IsFed left rest pieces seen
  pub way : (bytes : List ℕ) → CanHave pieces.ended seen bytes → IsUnderWay c bytes from start held count now s pieces.taken later

pub begins_fed : (c : Command) (left : Option (List ℕ)) (pieces : SourcePieces) (from : Around) (session : CommandSession) (first stage : Stage) (held : Option (List ℕ))
    → stage ≡ first → pieces.taken ≡ 0 → pieces.ended ≡ false
    → IsOnItsWay c left left pieces from (record { session = session; stage = first }) held 0 from (record { session = session; stage = stage }) held
begins_fed c left pieces from session first stage held is none open_end =
    record {
      seen = [];
      fed = record {
        takes = Takes-nothing left;
        place = none;
        end = λ h. absurd (let wrong : false ≡ true = sym open_end ∙ h in cc);
      };
      way = λ bytes can. way_begins c bytes from session first stage held pieces.taken is none;
    }

pub goes_fed : (c : Command) (left before after : Option (List ℕ)) (old new : SourcePieces) (from between later : Around) (start s : CommandState)
    (held put final : Option (List ℕ)) (count room : ℕ) (session : CommandSession) (went stage : Stage) (piece : List ℕ)
    → IsOnItsWay c left before old from start held count between s put → HasAdvanced c between later s put final session (to.On went)
    → room ≡ room_at old.taken went → HasRead old.ended new.ended before after room piece → new.taken ≡ old.taken + length piece → stage ≡ with_piece old.taken piece went
    → IsOnItsWay c left after new from start held (count + 1) later (record { session = session; stage = stage }) final
goes_fed c left before after old new from between later start s held put final count room session went stage piece on has most read more is =
    record {
      seen = on.seen ++ piece;
      fed = fed_more left before after old new room on.seen piece on.fed read more;
      way = λ bytes can.
          way_goes c bytes from between later start s held put final count old.taken new.taken session went stage piece
          (on.way bytes (had old.ended new.ended before after room on.seen piece bytes read can)) has
          (next_is old.ended new.ended before after room old.taken on.seen piece bytes read on.fed.place can
          ∙ ap (λ (n : ℕ). take n (drop old.taken bytes)) most) is more;
    }

-- What holds for all bytes that the source can have holds for those that it has.
pub for_all_bytes : (c : Command) (left rest : Option (List ℕ)) (pieces : SourcePieces) (from : Around) (start : CommandState) (held : Option (List ℕ)) (count : ℕ)
    (now : Around) (s : CommandState) (later : Option (List ℕ)) (Is : List ℕ → ℕ → Type 0) → IsOnItsWay c left rest pieces from start held count now s later
    → ((bytes : List ℕ) → IsUnderWay c bytes from start held count now s pieces.taken later → Is bytes pieces.taken)
    → (bytes : List ℕ) × (taken : ℕ) × AreAll left bytes × Takes left rest (take taken bytes) × Is bytes taken
for_all_bytes c left rest pieces from start held count now s later Is on then =
    let all = all_of left rest pieces.ended on.seen pieces.taken on.fed.takes on.fed.place on.fed.end in
    (all.bytes, pieces.taken, all.all, all.takes, then all.bytes (on.way all.bytes all.can))

sum_least : (a b : ℕ) → a ≤ a + b
sum_least a b = omega arith

sum_most : (a b c : ℕ) → b ≤ c → a + b ≤ a + c
sum_most a b c h = omega arith

-- and the same where a piece was taken in part
pub for_part : (c : Command) (left before after : Option (List ℕ)) (pieces : SourcePieces) (from : Around) (start : CommandState) (held : Option (List ℕ)) (count room : ℕ)
    (now : Around) (s : CommandState) (later : Option (List ℕ)) (Is : List ℕ → ℕ → Type 0) → IsOnItsWay c left before pieces from start held count now s later
    → HasPartRead pieces.ended before after room
    → ((bytes : List ℕ) (taken : ℕ) → IsUnderWay c bytes from start held count now s pieces.taken later → pieces.taken ≤ taken → taken ≤ pieces.taken + room → Is bytes taken)
    → (bytes : List ℕ) × (taken : ℕ) × AreAll left bytes × Takes left after (take taken bytes) × Is bytes taken
for_part c left before after pieces from start held count room now s later Is on part then =
    let front = part.front in
    let taken = pieces.taken + length front in
    let place : taken ≡ length (on.seen ++ front) = ap (λ (n : ℕ). n + length front) on.fed.place ∙ sym (length-append on.seen front) in
    let all =
    all_of left after false (on.seen ++ front) taken (Takes-append left before after on.seen front on.fed.takes part.takes) place
    (λ h. absurd (let wrong : false ≡ true = h in cc)) in
    let can : CanHave pieces.ended on.seen all.bytes =
    record {
      more = front ++ all.can.more;
      is = all.can.is ∙ append_assoc on.seen front all.can.more;
      end = λ h. absurd (let wrong : false ≡ true = sym part.open_end ∙ h in cc);
    } in (
      all.bytes,
      taken,
      all.all,
      all.takes,
      then all.bytes taken (on.way all.bytes can) (sum_least pieces.taken (length front)) (sum_most pieces.taken (length front) room part.few),
    )
