-- What clients see of the line.
use Rattle.std.proofs.Common.{◌≡◌, ℕ, suc, pred, zero, ◌≤◌, ◌<◌, Bool, true, false, List, [], ◌∷◌, ◌++◌, length, take, refl, sym, ap, ap₂, ◌∙◌, subst, arith, ◌==◌, append-nil, length-append, Some}
use Rattle.std.specs.Prelude.{slice_get}
use Rattle.std.proofs.Math.Seq.{take-append_seam}
use Rattle.xt_messages.specs.declared.file.Op.{Op}
use Rattle.replica_safety.specs.Epochs.{Write, Head}
use Rattle.replica_safety.specs.Protocol.{Act, Activated, Issued, Committed, State}
use Rattle.replica_safety.specs.Rules.{Start}
use Rattle.replica_safety.specs.Line.{with_told, line_after}
use Rattle.replica_safety.proofs.Lists.{IsFront}
use Rattle.replica_runs.specs.Made.{IsMade, bodies_of}
use Rattle.replica_runs.specs.Marks.{line_at, AnswersShow, AreMade}
use Rattle.replica_runs.specs.World.{Mark, Told, ShowsRead, ShowsWrite, Status, Install, Update, World}
use Rattle.replica_runs.specs.Answers.{reply_of, ReadsShow, AreWithin, AreFresh, IsOfEpoch, HasEpochs}
use Rattle.replica_runs.proofs.Content.{made_read}
use Rattle.replica_runs.proofs.Fits.{InstallFits, UpdateFits}
use Rattle.replica_runs.proofs.Shows.{IsShown}
use Rattle.replica_runs.proofs.Tools.{made_front}

-- the line only grows
tells_more : (line : List Write) (n : ℕ) (w : Write) → (more : List Write) × (line ++ more ≡ with_told n w line)
tells_more line n w = go (n == suc (length line)) refl
  where
    go : (b : Bool) → (n == suc (length line)) ≡ b → (more : List Write) × (line ++ more ≡ with_told n w line)
    go true p = (w ∷ [], rw p)
    go false p = ([], rw p (append-nil line))

pub line_grows : (line : List Write) (a : Act) → IsFront line (line_after line a)
line_grows line (Activated n w) = tells_more line n w
line_grows line (Issued n w) = ([], append-nil line)
line_grows line (Committed n w) = tells_more line n w

-- reads
pub reads_show : (stripe : ℕ) (ops : ℕ × ℕ → Op) (start : Start) (ms : List Mark) → AnswersShow start ms → AreMade (IsMade stripe ops) (line_at start ms) → ReadsShow stripe ops start ms
reads_show stripe ops start [] shows made = tt
reads_show stripe ops start (Told n a ∷ ms) shows made = let more = line_grows (line_at start ms) a in
    reads_show stripe ops start ms shows (made_front (IsMade stripe ops) [] (line_at start ms) more.0 (subst (AreMade (IsMade stripe ops)) (sym more.1) made))
reads_show stripe ops start (ShowsWrite n place id ∷ ms) shows made = reads_show stripe ops start ms shows.1 made
reads_show stripe ops start (ShowsRead n ws object body ∷ ms) shows made = (
  reads_show stripe ops start ms shows.1 made,
  λ at len fits. ap₂ (λ l b. reply_of stripe l object b at len) shows.0.0 (shows.0.1 ∙ ap (λ l. bodies_of l object) shows.0.0) ∙ made_read stripe ops (line_at start ms) made object at len fits,
)

-- counts
get_within : (ws : List Write) (n : ℕ) (w : Write) → slice_get ws n ≡ Some w → n < length ws
get_within [] n w p = absurd cc
get_within (v ∷ ws) zero w p = omega arith
get_within (v ∷ ws) (suc n) w p = let h = get_within ws n w p in omega arith

wider : (a b : ℕ) (ms : List Mark) → a ≤ b → AreWithin a ms → AreWithin b ms
wider a b [] l h = tt
wider a b (Told n act ∷ ms) l h = wider a b ms l h
wider a b (ShowsRead n ws object body ∷ ms) l h = (omega (arith, h.0), wider a b ms l h.1)
wider a b (ShowsWrite n place id ∷ ms) l h = (omega (arith, h.0), wider a b ms l h.1)

answers_within : (start : Start) (ms : List Mark) → AnswersShow start ms → AreWithin (length (line_at start ms)) ms
answers_within start [] shows = tt
answers_within start (Told n a ∷ ms) shows = let more = line_grows (line_at start ms) a in
    wider (length (line_at start ms)) (length (line_at start (Told n a ∷ ms))) ms (omega (arith, ap length more.1, length-append (line_at start ms) more.0)) (answers_within start ms shows)
answers_within start (ShowsRead n ws object body ∷ ms) shows = (omega (arith, ap length shows.0.0), answers_within start ms shows.1)
answers_within start (ShowsWrite n place id ∷ ms) shows = (omega (arith, get_within (line_at start ms) (pred place) shows.0.0 shows.0.1), answers_within start ms shows.1)

pub answers_fresh : (start : Start) (ms : List Mark) → AnswersShow start ms → AreFresh ms
answers_fresh start [] shows = tt
answers_fresh start (Told n a ∷ ms) shows = answers_fresh start ms shows
answers_fresh start (ShowsWrite n place id ∷ ms) shows = answers_fresh start ms shows.1
answers_fresh start (ShowsRead n ws object body ∷ ms) shows = (subst (λ k. AreWithin k ms) (sym (ap length shows.0.0)) (answers_within start ms shows.1), answers_fresh start ms shows.1)

-- the heads of an epoch
front_of : (base log ws : List Write) → length base ≤ length ws → IsFront ws (base ++ log) → (k : ℕ) × (ws ≡ base ++ take k log)
front_of [] log ws l f = (length ws, sym (take-append_seam ws f.0) ∙ ap (take (length ws)) f.1)
front_of (b ∷ base) log [] l f = absurd (omega arith)
front_of (b ∷ base) log (w ∷ ws) l f = let r = front_of base log ws (omega arith) (f.0, cc (f.1)) in (r.0, cc (f.1, r.1))

pub has_epochs : (makes : List Write → Write → Type 0) (members : List ℕ) (start : Start) (w : World) → IsShown makes members start w → HasEpochs w
has_epochs makes members start w is = let ok = is.shows in let s : State = is.state in record {
  base = s.base;
  log = s.log;
  kept = λ r. subst (λ (h : Head). IsOfEpoch s.base s.log h.epoch h.writes) (sym (ok.head r)) (front_of (s.base (s.head r).epoch) (s.log (s.head r).epoch) (s.head r).writes (ok.sound.heads.own r).whole (ok.sound.heads.own r).front);
  sent = λ e ws has. let j : InstallFits s e ws = ok.messages (Install e ws) has in front_of (s.base e) (s.log e) ws j.whole j.front;
  told = λ r e h has. let of = ok.sound.heads.told (record { replica = r; epoch = e; head = h }) (ok.messages (Status r e h) has) in front_of (s.base h.epoch) (s.log h.epoch) h.writes of.whole of.front;
  updates = λ v has. let j : UpdateFits s v = ok.messages (Update v) has in (j.before, j.later, j.is, j.place);
}
