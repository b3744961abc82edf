-- datagrams are handed to a link one after the other
use Rattle.std.proofs.Common.{ℕ, ◌≡◌, refl, sym, ◌∙◌, ap, subst, Bool, true, false, not, Option, Some, None, List, [], ◌∷◌, ◌++◌, length, arith, ◌+◌}
use Rattle.std.proofs.lemmas.List.{append_assoc, append-nil, length-append}
use Rattle.std.proofs.lemmas.List.Sums.{fold-append}
use Rattle.xt_base.specs.Faults.{fault_count_after}
use Rattle.node_links.specs.declared.link.Datagram.{Datagram}
use Rattle.node_links.specs.Streams.{Puts, Takes}
use Rattle.node_links.specs.Links.{readings_left}
use Rattle.std.specs.Prelude.{if◌then◌else◌, ◌==◌}
use Rattle.xt_base.specs.declared.ids.NodeId.{NodeId}
use Rattle.xt_base.specs.declared.ids.Boot.{Boot}
use Rattle.xt_messages.specs.declared.message.Msg.{Msg}
use Rattle.node_runs.specs.Hearing.{Book, address_of}
use Rattle.node_runs.specs.Posting.{Posted, posted_to, one_posted, none_posted, HasPosted}
use Rattle.node_runs.specs.Links.{Sends, Reads, taken_of, count_lost, what_went, OneSent}

-- nothing was handed over
pub puts_none : (o : Option (List Datagram)) → Puts o o []
puts_none None = refl
puts_none (Some sent) = ap Some (sym (append-nil sent))

unfoldable pub sends_none : (o : Option (List Datagram)) (losses : ℕ) → Sends o o losses losses []
sends_none o losses = record { taken = []; each = refl; sent = puts_none o; losses = refl }

-- one more
pub taken-snoc : (taken : List Bool) (posted : List Datagram) (ok : Bool) (d : Datagram) → length taken ≡ length posted
    → taken_of (taken ++ ok ∷ []) (posted ++ d ∷ []) ≡ taken_of taken posted ++ what_went ok d
taken-snoc [] [] true d e = refl
taken-snoc [] [] false d e = refl
taken-snoc [] (p ∷ ps) ok d e = absurd (omega arith)
taken-snoc (t ∷ ts) [] ok d e = absurd (omega arith)
taken-snoc (true ∷ ts) (p ∷ ps) ok d e = ap (λ xs. p ∷ xs) (taken-snoc ts ps ok d (omega arith))
taken-snoc (false ∷ ts) (p ∷ ps) ok d e = taken-snoc ts ps ok d (omega arith)

pub puts_more : (before between after : Option (List Datagram)) (went more : List Datagram) → Puts before between went → Puts between after more
    → Puts before after (went ++ more)
puts_more None between after went more p q = subst (λ o. Puts o after more) p q
puts_more (Some sent) between after went more p q = let r : Puts (Some (sent ++ went)) after more = subst (λ o. Puts o after more) p q in
    r ∙ ap Some (append_assoc sent went more)

unfoldable pub sends_more : (before between after : Option (List Datagram)) (first losses later : ℕ) (posted : List Datagram) (d : Datagram) (ok : Bool)
    → Sends before between first losses posted → OneSent between after losses later d ok → Sends before after first later (posted ++ d ∷ [])
sends_more before between after first losses later posted d ok s one = record {
  taken = s.taken ++ ok ∷ [];
  each = length-append s.taken (ok ∷ []) ∙ ap (λ n. n + 1) s.each ∙ sym (length-append posted (d ∷ []));
  sent = subst (Puts before after) (sym (taken-snoc s.taken posted ok d s.each))
      (puts_more before between after (taken_of s.taken posted) (what_went ok d) s.sent one.went);
  losses = one.counts ∙ ap (fault_count_after (not ok)) s.losses ∙ sym (fold-append (λ losses ok. fault_count_after (not ok) losses) first s.taken (ok ∷ []));
}

-- ---- what a link gives, and what a clock reads

pub takes_none : (o : Option (List Datagram)) → Takes o o []
takes_none None = refl
takes_none (Some left) = (left, refl, refl)

pub takes_more : (before between after : Option (List Datagram)) (came more : List Datagram) → Takes before between came → Takes between after more
    → Takes before after (came ++ more)
takes_more None between after came more p q = subst (λ o. Takes o after more) p q
takes_more (Some left) between after came more p q =
    let r : Takes (Some p.0) after more = subst (λ o. Takes o after more) p.2 q in
    (r.0, p.1 ∙ ap (λ xs. came ++ xs) r.1 ∙ sym (append_assoc came more r.0), r.2)

pub reads_none : (o : Option (List ℕ)) → Reads o o []
reads_none None = refl
reads_none (Some left) = refl

pub reads_more : (before between after : Option (List ℕ)) (read more : List ℕ) → Reads before between read → Reads between after more
    → Reads before after (read ++ more)
reads_more None between after read more p q = subst (λ o. Reads o after more) p q
reads_more (Some left) between after [] more p q = subst (λ o. Reads o after more) p q
reads_more (Some left) between after (reading ∷ read) more p q = (p.0, reads_more (Some (readings_left left)) between after read more p.1 q)

-- ---- lists after lists

taken-join : (taken : List Bool) (posted : List Datagram) (more : List Bool) (others : List Datagram) → length taken ≡ length posted
    → taken_of (taken ++ more) (posted ++ others) ≡ taken_of taken posted ++ taken_of more others
taken-join [] [] more others e = refl
taken-join [] (p ∷ ps) more others e = absurd (omega arith)
taken-join (t ∷ ts) [] more others e = absurd (omega arith)
taken-join (true ∷ ts) (p ∷ ps) more others e = ap (λ xs. p ∷ xs) (taken-join ts ps more others (omega arith))
taken-join (false ∷ ts) (p ∷ ps) more others e = taken-join ts ps more others (omega arith)

pub sends_join : (before between after : Option (List Datagram)) (first losses later : ℕ) (posted others : List Datagram)
    → Sends before between first losses posted → Sends between after losses later others → Sends before after first later (posted ++ others)
sends_join before between after first losses later posted others s t = record {
  taken = s.taken ++ t.taken;
  each = length-append s.taken t.taken ∙ ap (λ n. n + length t.taken) s.each ∙ ap (λ n. length posted + n) t.each ∙ sym (length-append posted others);
  sent = subst (Puts before after) (sym (taken-join s.taken posted t.taken others s.each))
      (puts_more before between after (taken_of s.taken posted) (taken_of t.taken others) s.sent t.sent);
  losses = t.losses ∙ ap (λ n. count_lost n t.taken) s.losses ∙ sym (fold-append (λ losses ok. fault_count_after (not ok) losses) first s.taken t.taken);
}

-- ---- messages after messages

pub one-behind : (node : NodeId) (boot : Boot) (book : Book) (before : Posted) (msg : Msg)
    → one_posted node boot book before msg
    ≡ record { count = (one_posted node boot book (none_posted before.count) msg).count; datagrams = before.datagrams ++ (one_posted node boot book (none_posted before.count) msg).datagrams }
one-behind node boot book before msg = by_self (msg.to.0 == node.0) (address_of book msg.to)
  where
    joined : Posted → Posted
    joined p = record { count = p.count; datagrams = before.datagrams ++ p.datagrams }

    kept : before ≡ record { count = before.count; datagrams = before.datagrams ++ [] }
    kept = λ i. record { count = before.count; datagrams = sym (append-nil before.datagrams) i }

    by_address : (address : Option (List ℕ)) → posted_to node boot msg address before
        ≡ record { count = (posted_to node boot msg address (none_posted before.count)).count; datagrams = before.datagrams ++ (posted_to node boot msg address (none_posted before.count)).datagrams }
    by_address None = kept
    by_address (Some address) = refl

    by_self : (self : Bool) (address : Option (List ℕ)) → (if self then before else posted_to node boot msg address before)
        ≡ record { count = (if self then none_posted before.count else posted_to node boot msg address (none_posted before.count)).count; datagrams = before.datagrams ++ (if self then none_posted before.count else posted_to node boot msg address (none_posted before.count)).datagrams }
    by_self true address = kept
    by_self false address = by_address address

pub has_more : (node : NodeId) (boot : Boot) (book : Book) (before : Posted) (msg : Msg) (count : ℕ)
    (start between after : Option (List Datagram)) (first losses later : ℕ)
    → Sends start between first losses before.datagrams
    → HasPosted (one_posted node boot book (none_posted before.count) msg) count (Sends between after losses later)
    → HasPosted (one_posted node boot book before msg) count (Sends start after first later)
has_more node boot book before msg count start between after first losses later s one =
    let at = one-behind node boot book before msg in
    record {
      counted = one.counted ∙ sym (ap (λ (p : Posted). p.count) at);
      went = subst (Sends start after first later) (sym (ap (λ (p : Posted). p.datagrams) at))
          (sends_join start between after first losses later before.datagrams (one_posted node boot book (none_posted before.count) msg).datagrams s one.went);
    }
