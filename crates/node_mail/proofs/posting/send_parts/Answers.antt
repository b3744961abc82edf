use Rattle.std.proofs.Common.{rules, refl, Bool, true, false, ◌&&◌, arith, ℕ, List, ◌≡◌, [], ◌∷◌, ◌++◌, ◌+◌, length, map, subst, sym, ap, ◌∙◌}
use Rattle.node_links.specs.declared.link.Datagram.{Datagram}
use Rattle.node_runs.specs.Links.{Sends}
use Rattle.std.specs.List.{list_all, range_with_len}
use Rattle.std.proofs.lemmas.List.{map-append}
use Rattle.std.proofs.lemmas.List.Folds.{list_all-append}
use Rattle.std.proofs.lemmas.List.FromFn.{map-range_with_len_more}
use Rattle.xt_parts.specs.Part.{part_of, parts_in}
use Rattle.node_runs.specs.Posting.{sent_to}
use Rattle.node_runs.proofs.Sending.{sends_none, sends_more}
use Rattle.node_mail.proofs.posting.send_parts.Goals as goal

all_more : (taken : List Bool) (all ok : Bool) → all ≡ list_all (λ one. one) taken → (all && ok) ≡ list_all (λ one. one) (taken ++ ok ∷ [])
all_more taken all ok is = ap (λ so. so && ok) is ∙ ap (λ so. list_all (λ one. one) taken && so) (alone ok) ∙ sym (list_all-append (λ one. one) taken (ok ∷ []))
  where
    alone : (one : Bool) → one ≡ (one && true)
    alone true = refl
    alone false = refl

abbrev datagram_to : List ℕ → List ℕ → Datagram
datagram_to peer part = record { peer = peer; bytes = part }

pub loop-index-init : goal.loop-index-init
unfolding sends_none
loop-index-init g c = (search rules, search rules, (sends_none (g.L.Link.sent c.args.link.now) (g.L.Link.loss_count c.args.link.now), refl))

pub loop-index-preserved : goal.loop-index-preserved
unfolding sends_more
loop-index-preserved g c =
    let i = c.loop-index.index in
    let part : List ℕ = c.as_slice.result.now in
    let d : Datagram = record { peer = c.args.to.now; bytes = part } in
    let cut : part ≡ part_of c.args.id c.args.message.now i = c.as_slice.ensures ∙ c.cut.ensures in
    let before = map (part_of c.args.id c.args.message.now) (range_with_len 0 i) in
    let longer : sent_to c.args.to.now (map (part_of c.args.id c.args.message.now) (range_with_len 0 (i + 1))) ≡ sent_to c.args.to.now before ++ d ∷ [] =
    ap (sent_to c.args.to.now) (map-range_with_len_more (part_of c.args.id c.args.message.now) 0 i i (omega arith))
    ∙ map-append (λ bytes. datagram_to c.args.to.now bytes) before (part_of c.args.id c.args.message.now i ∷ [])
    ∙ ap (λ x. sent_to c.args.to.now before ++ datagram_to c.args.to.now x ∷ []) (sym cut) in (
      c.hand-all.ensures.given ∙ c.loop-index.invariant.0,
      c.hand-all.ensures.faults ∙ c.loop-index.invariant.1,
      subst (λ posted. (sends : Sends (g.L.Link.sent c.args.link.now) (g.L.Link.sent c.hand-all.new.link) (g.L.Link.loss_count c.args.link.now) (g.L.Link.loss_count c.hand-all.new.link) posted)
          × ((c.loop-index.all && c.hand-all.result) ≡ list_all (λ ok. ok) sends.taken))
          (sym longer) (
            sends_more (g.L.Link.sent c.args.link.now) (g.L.Link.sent c.loop-index.link) (g.L.Link.sent c.hand-all.new.link) (g.L.Link.loss_count c.args.link.now)
                (g.L.Link.loss_count c.loop-index.link) (g.L.Link.loss_count c.hand-all.new.link) (sent_to c.args.to.now before) d c.hand-all.result
                c.loop-index.invariant.2.0 c.hand-all.ensures.sent,
            all_more c.loop-index.invariant.2.0.taken c.loop-index.all c.hand-all.result c.loop-index.invariant.2.1,
          ),
    )

pub returns-clause-sends : goal.returns-clause-sends
returns-clause-sends g c =
    let all : c.loop-index.index ≡ parts_in (length c.args.message.now) = search rules in
    subst (λ n. (sends : Sends (g.L.Link.sent c.args.link.now) (g.L.Link.sent c.loop-index.link) (g.L.Link.loss_count c.args.link.now) (g.L.Link.loss_count c.loop-index.link)
    (sent_to c.args.to.now (map (part_of c.args.id c.args.message.now) (range_with_len 0 n))))
    × (c.loop-index.all ≡ list_all (λ ok. ok) sends.taken)) all c.loop-index.invariant.2
