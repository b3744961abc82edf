-- what is held of a file once a mark is joined, or the capability of a declared file is held
use Rattle.std.proofs.Common.{◌≡◌, ◌≢◌, ℕ, Bool, true, false, cond, refl, ap, sym, ◌∙◌, subst, arith, Option, Some, None}
use Rattle.std.proofs.lemmas.Bool.Decides.{nat_tests}
use Rattle.xt_base.specs.declared.ids.SizeMark.{SizeMark}
use Rattle.xt_messages.specs.declared.file.Capability.{Capability}
use Rattle.truncate_epochs.specs.SizeMarks.{is_smaller, merged}
use Rattle.client_rows.specs.declared.holding.HeldFile.{HeldFile}
use Rattle.client_rows.specs.Holding.{Held, held_of, joined_with, mark_with, holds, marked, joins}
use Rattle.client_steps.proofs.Held.{put_found, put_others}
use Rattle.striped_safety.proofs.Follows.{MarkIs}

-- ---- marks

abbrev none_written : SizeMark
none_written = record { epoch = 0; size = 0 }

-- a mark of epoch 0 and size 0 changes none
merged_none : (mark : SizeMark) → merged mark (record { epoch = 0; size = 0 }) ≡ mark
merged_none mark = at (is_smaller mark (record { epoch = 0; size = 0 })) refl
  where
    at : (b : Bool) → is_smaller mark (record { epoch = 0; size = 0 }) ≡ b → cond b (record { epoch = 0; size = 0 }) mark ≡ mark
    at true is = absurd (never mark is)
      where
        never : (x : SizeMark) → is_smaller x (record { epoch = 0; size = 0 }) ≡ true → ⊥
        never x is = grind (arith, nat_tests)
    at false is = refl

-- the mark that is held, with another one joined
pub mark_joined : (held : Held) (file : ℕ) (size mark : SizeMark) (h : HeldFile) → held_of held file ≡ Some h → MarkIs (held_of held file) mark → mark_with held file size ≡ merged mark size
mark_joined held file size mark h found is =
    ap (λ (o : Option HeldFile). joined_with o size) found ∙ ap (λ (x : SizeMark). merged x size) (subst (λ (o : Option HeldFile). MarkIs o mark) found is)

-- the capability of the file is held: its mark stays
pub holds_mark : (held : Held) (capability : Capability) (mark : SizeMark) → MarkIs (held_of held capability.file.number) mark
    → MarkIs (held_of (holds held capability (record { epoch = 0; size = 0 })) capability.file.number) mark
holds_mark held capability mark is =
    subst (λ (o : Option HeldFile). MarkIs o mark) (sym (put_found held capability.file.number (record { capability = capability; mark = mark_with held capability.file.number (record { epoch = 0; size = 0 }) })))
    (at (held_of held capability.file.number) is)
  where
    at : (o : Option HeldFile) → MarkIs o mark → joined_with o (record { epoch = 0; size = 0 }) ≡ mark
    at None is = sym is
    at (Some h) is = merged_none h.mark ∙ is

-- the mark of the file is joined
pub joins_mark : (held : Held) (file : ℕ) (size mark : SizeMark) (h : HeldFile) → held_of held file ≡ Some h → MarkIs (held_of held file) mark → MarkIs (held_of (joins held file size) file) (merged mark size)
joins_mark held file size mark h found is =
    let own : MarkIs (Some h) mark = subst (λ (o : Option HeldFile). MarkIs o mark) found is in
    let put : HeldFile = record { capability = h.capability; mark = merged h.mark size } in
    subst (λ (o : Option HeldFile). MarkIs (held_of (marked held file size o) file) (merged mark size)) (sym found)
    (subst (λ (o : Option HeldFile). MarkIs o (merged mark size)) (sym (put_found held file put)) (ap (λ (x : SizeMark). merged x size) own))

-- that of another file
pub joins_others : (held : Held) (file : ℕ) (size : SizeMark) (n : ℕ) → n ≢ file → held_of (joins held file size) n ≡ held_of held n
joins_others held file size n other = at (held_of held file)
  where
    at : (o : Option HeldFile) → held_of (marked held file size o) n ≡ held_of held n
    at None = refl
    at (Some h) = put_others held file (record { capability = h.capability; mark = merged h.mark size }) n other

-- it is held then
pub joins_found : (held : Held) (file : ℕ) (size : SizeMark) (h : HeldFile) → held_of held file ≡ Some h → (k : HeldFile) × (held_of (joins held file size) file ≡ Some k)
joins_found held file size h found =
    let put : HeldFile = record { capability = h.capability; mark = merged h.mark size } in
    (put, ap (λ (o : Option HeldFile). held_of (marked held file size o) file) found ∙ put_found held file put)
