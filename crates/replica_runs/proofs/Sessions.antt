-- What a head's sessions say: of each client its last write, and where that stands.
use Rattle.std.proofs.Common.{◌≡◌, ◌≢◌, ℕ, suc, pred, zero, ◌≤◌, ◌⊎◌, inl, inr, List, [], ◌∷◌, ◌++◌, refl, ap, sym, ◌∙◌, subst, arith, ◌==◌, if◌then◌else◌, append_assoc, append-nil, Option, Some, None}
use Rattle.std.specs.Prelude.{nat_lt, slice_get}
use Rattle.std.proofs.lemmas.Bool.{cases_eq}
use Rattle.xt_messages.specs.declared.file.FileHead.{FileHead}
use Rattle.xt_messages.specs.declared.file.Op.{Op}
use Rattle.xt_messages.specs.declared.file.Session.{Session}
use Rattle.xt_messages.specs.declared.file.Update.{Update}
use Rattle.xt_protocol.specs.Heads.{new_head, session_of, with_session}
use Rattle.replica_safety.specs.Lists.{Has}
use Rattle.replica_safety.proofs.Lists.{has-append}
use Rattle.replica_runs.specs.FileHeads.{folded}
use Rattle.replica_runs.specs.Made.{IsNext, IsMade}
use Rattle.replica_runs.specs.Marks.{AreMade, AreMadeAfter}
use Rattle.replica_runs.proofs.Content.{by_equal, by_less}
use Rattle.replica_runs.proofs.Tools.{get_push}
use Rattle.replica_runs.proofs.Versions.{folded_push}

abbrev pub sessions_of : List Update → List Session
sessions_of us = (folded new_head us).sessions

here : (s : Session) (rest : List Session) → session_of (s ∷ rest) s.client.0 ≡ Some s
here s rest = by_equal (λ b. (if b then Some s else session_of rest s.client.0) ≡ Some s) s.client.0 s.client.0 (λ _. refl) (λ ne. absurd (ne refl))

skip : (s : Session) (rest : List Session) (c : ℕ) → s.client.0 ≢ c → session_of (s ∷ rest) c ≡ session_of rest c
skip s rest c ne = by_equal (λ b. (if b then Some s else session_of rest c) ≡ session_of rest c) s.client.0 c (λ e. absurd (ne e)) (λ _. refl)

session_put : (ss : List Session) (s : Session) → session_of (with_session ss s) s.client.0 ≡ Some s
session_put [] s = here s []
session_put (x ∷ ss) s = by_equal (λ b. session_of (if b then s ∷ ss else if nat_lt s.client.0 x.client.0 then s ∷ x ∷ ss else x ∷ with_session ss s) s.client.0 ≡ Some s) x.client.0 s.client.0
    (λ _. here s ss)
    (λ ne. by_less (λ b. session_of (if b then s ∷ x ∷ ss else x ∷ with_session ss s) s.client.0 ≡ Some s) s.client.0 x.client.0 (λ _. here s (x ∷ ss))
    (λ _. skip x (with_session ss s) s.client.0 ne ∙ session_put ss s))

session_other : (ss : List Session) (s : Session) (c : ℕ) → s.client.0 ≢ c → session_of (with_session ss s) c ≡ session_of ss c
session_other [] s c ne = skip s [] c ne
session_other (x ∷ ss) s c ne = by_equal (λ b. session_of (if b then s ∷ ss else if nat_lt s.client.0 x.client.0 then s ∷ x ∷ ss else x ∷ with_session ss s) c ≡ session_of (x ∷ ss) c) x.client.0 s.client.0
    (λ e. skip s ss c ne ∙ sym (skip x ss c (λ f. ne (sym e ∙ f))))
    (λ _. by_less (λ b. session_of (if b then s ∷ x ∷ ss else x ∷ with_session ss s) c ≡ session_of (x ∷ ss) c) s.client.0 x.client.0
    (λ _. skip s (x ∷ ss) c ne)
    (λ _. ap (λ r. if x.client.0 == c then Some x else r) (session_other ss s c ne)))

get_front : (ws more : List Update) (n : ℕ) (w : Update) → slice_get ws n ≡ Some w → slice_get (ws ++ more) n ≡ Some w
get_front [] more n w p = absurd cc
get_front (v ∷ ws) more zero w p = p
get_front (v ∷ ws) more (suc n) w p = get_front ws more n w p

-- a client's last write, and no later one
pub record IsLast (us : List Update) (c : ℕ) (s : Session) : Type 0 where
  pub write : Update
  pub stands : slice_get us (pred s.count) ≡ Some write
  pub placed : 1 ≤ s.count
  pub is_client : write.id.client.0 ≡ c
  pub is_number : write.id.number ≡ s.number
  pub last : (w : Update) → Has w us → w.id.client.0 ≡ c → w.id.number ≤ s.number

abbrev pub IsSession : List Update → ℕ → Option Session → Type 0
IsSession us c None = (w : Update) → Has w us → w.id.client.0 ≡ c → ⊥
IsSession us c (Some s) = IsLast us c s

after_other : (us : List Update) (u : Update) (c : ℕ) (s : Option Session) → u.id.client.0 ≢ c → IsSession us c s → IsSession (us ++ u ∷ []) c s
after_other us u c None ne n = λ w has same. at w same (has-append w us (u ∷ []) has)
  where
    at : (w : Update) → w.id.client.0 ≡ c → Has w us ⊎ Has w (u ∷ []) → ⊥
    at w same (inl h) = n w h same
    at w same (inr (inl p)) = ne (subst (λ (x : Update). x.id.client.0 ≡ c) p same)
    at w same (inr (inr h)) = h
after_other us u c (Some s) ne n = record {
  write = n.write;
  stands = get_front us (u ∷ []) (pred s.count) n.write n.stands;
  placed = n.placed;
  is_client = n.is_client;
  is_number = n.is_number;
  last = λ w has same. at w same (has-append w us (u ∷ []) has);
}
  where
    at : (w : Update) → w.id.client.0 ≡ c → Has w us ⊎ Has w (u ∷ []) → w.id.number ≤ s.number
    at w same (inl h) = n.last w h same
    at w same (inr (inl p)) = absurd (ne (subst (λ (x : Update). x.id.client.0 ≡ c) p same))
    at w same (inr (inr h)) = absurd h

session_push : (us : List Update) (u : Update) (c : ℕ) → IsNext us u → IsSession us c (session_of (sessions_of us) c) → IsSession (us ++ u ∷ []) c (session_of (sessions_of (us ++ u ∷ [])) c)
session_push us u c next n = subst (λ (h : FileHead). IsSession (us ++ u ∷ []) c (session_of h.sessions c)) (sym (folded_push new_head us u))
    (elim (cases_eq u.id.client.0 c) as (λ w. IsSession (us ++ u ∷ []) c (session_of (with_session (sessions_of us) new) c)) [
      | inl e ↦ subst (λ k. IsSession (us ++ u ∷ []) k (session_of (with_session (sessions_of us) new) k)) e
          (subst (IsSession (us ++ u ∷ []) u.id.client.0) (sym (session_put (sessions_of us) new)) own)
      | inr ne ↦ subst (IsSession (us ++ u ∷ []) c) (sym (session_other (sessions_of us) new c ne)) (after_other us u c (session_of (sessions_of us) c) ne n)
    ])
  where
    new : Session
    new = record { client = u.id.client; number = u.id.number; count = u.stamp.count }

    at_most : (w : Update) → w.id.client.0 ≡ u.id.client.0 → Has w us ⊎ Has w (u ∷ []) → w.id.number ≤ u.id.number
    at_most w same (inl h) = omega (arith, next.above w h same)
    at_most w same (inr (inl p)) = omega (arith, ap (λ (x : Update). x.id.number) p)
    at_most w same (inr (inr h)) = absurd h

    own : IsLast (us ++ u ∷ []) u.id.client.0 new
    own = record {
      write = u;
      stands = subst (λ k. slice_get (us ++ u ∷ []) (pred k) ≡ Some u) (sym next.place) (get_push us u);
      placed = subst (λ k. 1 ≤ k) (sym next.place) (omega arith);
      is_client = refl;
      is_number = refl;
      last = λ w has same. at_most w same (has-append w us (u ∷ []) has);
    }

module _ (stripe : ℕ) (ops : ℕ × ℕ → Op) where
  sessions_all : (done us : List Update) (c : ℕ) → AreMadeAfter (IsMade stripe ops) done us → IsSession done c (session_of (sessions_of done) c) → IsSession (done ++ us) c (session_of (sessions_of (done ++ us)) c)
  sessions_all done [] c m n = subst (λ l. IsSession l c (session_of (sessions_of l) c)) (sym (append-nil done)) n
  sessions_all done (u ∷ us) c m n = subst (λ l. IsSession l c (session_of (sessions_of l) c)) (append_assoc done (u ∷ []) us) (sessions_all (done ++ u ∷ []) us c m.1 (session_push done u c m.0.0 n))

  -- the sessions of a line's head say of each client its last write there
  pub sessions_show : (us : List Update) (c : ℕ) → AreMade (IsMade stripe ops) us → IsSession us c (session_of (sessions_of us) c)
  sessions_show us c m = sessions_all [] us c m (λ w h same. h)
