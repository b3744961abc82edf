-- the calls for the children, one after the other
use Rattle.std.proofs.Common.{ℕ, ℤ, suc, zero, ◌≡◌, ◌<◌, ◌+◌, ◌-◌, refl, sym, ◌∙◌, ap, subst, Bool, true, false, not, Option, Some, None, Result, Ok, Err, OnOk, OnErr, is_err, List, [], ◌∷◌, ◌++◌, length, arith}
use Rattle.std.proofs.lemmas.List.{append_assoc, append-nil, length-append}
use Rattle.std.proofs.lemmas.List.Sums.{fold-append}
use Rattle.xt_base.specs.Faults.{fault_count_after}
use Rattle.node_links.specs.declared.children.ChildCall.{ChildCall}
use Rattle.node_links.specs.declared.children.ChildCall.TheVariants as call
use Rattle.node_links.specs.Streams.{Puts}
use Rattle.command_words.specs.declared.job.ClusterJob.{ClusterJob}
use Rattle.cluster_words.specs.declared.children.ClusterNode.{ClusterNode}
use Rattle.cluster_words.specs.declared.children.ClusterNode.TheVariants as node
use Rattle.cluster_words.specs.Children.{child_words}
use Rattle.cluster_children.specs.Calls.{osds_to, nodes_of, starts_of, StartsOne, Starts, StartsFront, waits_of, HasWaited, WaitsFront, stops_of, Stops}

-- no call was made
pub puts_none : (calls : Option (List ChildCall)) → Puts calls calls []
puts_none None = refl
puts_none (Some calls) = ap Some (sym (append-nil calls))

-- some calls were made, and then others
pub puts_more : (before between after : Option (List ChildCall)) (went more : List ChildCall) → Puts before between went → Puts between after more
    → Puts before after (went ++ more)
puts_more None between after went more p q = subst (λ o. Puts o after more) p q
puts_more (Some calls) between after went more p q =
    let r : Puts (Some (calls ++ went)) after more = subst (λ o. Puts o after more) p q in
    r ∙ ap Some (append_assoc calls went more)

-- ---- starting

starts-snoc : (job : ClusterJob) (nodes : List ClusterNode) (children : List ℕ) (n : ClusterNode) (child : ℕ) → length children ≡ length nodes
    → starts_of job (nodes ++ n ∷ []) (children ++ child ∷ []) ≡ starts_of job nodes children ++ call.Started (child_words job n) child ∷ []
starts-snoc job [] [] n child e = refl
starts-snoc job [] (c ∷ cs) n child e = absurd (omega arith)
starts-snoc job (m ∷ ms) [] n child e = absurd (omega arith)
starts-snoc job (m ∷ ms) (c ∷ cs) n child e = ap (λ xs. call.Started (child_words job m) c ∷ xs) (starts-snoc job ms cs n child (omega arith))

pub starts_none : (job : ClusterJob) (calls : Option (List ChildCall)) → Starts job calls calls [] []
starts_none job calls = record { each = refl; calls = puts_none calls }

-- one more node
pub starts_more : (job : ClusterJob) (before between after : Option (List ChildCall)) (nodes : List ClusterNode) (children : List ℕ) (n : ClusterNode) (child : ℕ)
    → Starts job before between nodes children → Puts between after (call.Started (child_words job n) child ∷ [])
    → Starts job before after (nodes ++ n ∷ []) (children ++ child ∷ [])
starts_more job before between after nodes children n child so_far one = record {
  each = length-append children (child ∷ []) ∙ ap (λ count. count + 1) so_far.each ∙ sym (length-append nodes (n ∷ []));
  calls = subst (Puts before after) (sym (starts-snoc job nodes children n child so_far.each))
      (puts_more before between after (starts_of job nodes children) (call.Started (child_words job n) child ∷ []) so_far.calls one);
}

-- after these nodes one more was started
pub starts_next : (job : ClusterJob) (before between after : Option (List ChildCall)) (nodes : List ClusterNode) (children more : List ℕ) (n : ClusterNode)
    → Starts job before between nodes children → StartsOne job n between after children more → Starts job before after (nodes ++ n ∷ []) more
starts_next job before between after nodes children more n so_far (child, is, one) =
    subst (Starts job before after (nodes ++ n ∷ [])) (sym is) (starts_more job before between after nodes children n child so_far one)

-- one node was started where there was no child
pub starts_first : (job : ClusterJob) (before after : Option (List ChildCall)) (children more : List ℕ) (n : ClusterNode) → children ≡ []
    → StartsOne job n before after children more → Starts job before after (n ∷ []) more
starts_first job before after children more n empty one =
    starts_next job before before after [] children more n (subst (λ (c : List ℕ). Starts job before before [] c) (sym empty) (starts_none job before)) one

-- or it wasn't
pub starts_front : (job : ClusterJob) (before between after : Option (List ChildCall)) (nodes front rest : List ClusterNode) (n : ClusterNode) (children more : List ℕ)
    → nodes ≡ front ++ n ∷ rest → Starts job before between front children → (more ≡ children) × (after ≡ between) → StartsFront job before after nodes more
starts_front job before between after nodes front rest n children more is so_far (same, still) = record {
  front = front;
  next = n;
  rest = rest;
  is = is;
  started = subst (λ (c : List ℕ). Starts job before after front c) (sym same) (subst (λ o. Starts job before o front children) (sym still) so_far);
}

-- one OSD more
pub nodes-more : (osds : ℕ) → nodes_of (osds + 1) ≡ nodes_of osds ++ node.Osd (osds + 1) ∷ []
nodes-more osds =
    let next : osds + 1 ≡ suc osds = omega arith in
    ap nodes_of next ∙ ap (λ n. nodes_of osds ++ node.Osd n ∷ []) (sym next)

pub starts_osd : (job : ClusterJob) (before between after : Option (List ChildCall)) (osds : ℕ) (children more : List ℕ)
    → Starts job before between (nodes_of osds) children → StartsOne job (node.Osd (osds + 1)) between after children more
    → Starts job before after (nodes_of (osds + 1)) more
starts_osd job before between after osds children more so_far one =
    subst (λ nodes. Starts job before after nodes more) (sym (nodes-more osds)) (starts_next job before between after (nodes_of osds) children more _ so_far one)

-- after fewer OSDs comes the next one
pub osds_front : (osds fewer more : ℕ) → osds ≡ fewer + more + 1 → (rest : List ClusterNode) × (osds_to osds ≡ osds_to fewer ++ node.Osd (fewer + 1) ∷ rest)
osds_front zero fewer more e = absurd (omega arith)
osds_front (suc osds) fewer zero e =
    let same : osds ≡ fewer = omega arith in
    let next : suc osds ≡ fewer + 1 = omega arith in
    ([], ap (λ n. osds_to n ++ node.Osd (suc osds) ∷ []) same ∙ ap (λ n. osds_to fewer ++ node.Osd n ∷ []) next)
osds_front (suc osds) fewer (suc more) e =
    let before = osds_front osds fewer more (omega arith) in (
      before.0 ++ node.Osd (suc osds) ∷ [],
      ap (λ nodes. nodes ++ node.Osd (suc osds) ∷ []) before.1 ∙ append_assoc (osds_to fewer) (node.Osd (fewer + 1) ∷ before.0) (node.Osd (suc osds) ∷ []),
    )

pub nodes_front : (osds fewer : ℕ) → fewer < osds → (rest : List ClusterNode) × (nodes_of osds ≡ nodes_of fewer ++ node.Osd (fewer + 1) ∷ rest)
nodes_front osds fewer less =
    let front = osds_front osds fewer (osds - fewer - 1) (omega arith) in
    (front.0, ap (λ nodes. node.Dir ∷ node.Mrc ∷ nodes) front.1)

-- ---- waiting

waits-snoc : (children : List ℕ) (statuses : List ℤ) (child : ℕ) (ended : ℤ) → length statuses ≡ length children
    → waits_of (children ++ child ∷ []) (statuses ++ ended ∷ []) ≡ waits_of children statuses ++ call.Waited child ended ∷ []
waits-snoc [] [] child ended e = refl
waits-snoc [] (s ∷ ss) child ended e = absurd (omega arith)
waits-snoc (c ∷ cs) [] child ended e = absurd (omega arith)
waits-snoc (c ∷ cs) (s ∷ ss) child ended e = ap (λ xs. call.Waited c s ∷ xs) (waits-snoc cs ss child ended (omega arith))

-- nobody was waited for
pub waits_none : (calls : Option (List ChildCall)) (children : List ℕ) → WaitsFront calls calls children children
waits_none calls children = record { waited = []; is = refl; waits = record { statuses = []; each = refl; calls = puts_none calls } }

-- one more was
pub waits_more : (before between after : Option (List ChildCall)) (children others rest : List ℕ) (child : ℕ) (ended : ℤ)
    → WaitsFront before between children others → others ≡ child ∷ rest → Puts between after (call.Waited child ended ∷ [])
    → WaitsFront before after children rest
waits_more before between after children others rest child ended so_far e one = record {
  waited = so_far.waited ++ child ∷ [];
  is = so_far.is ∙ ap (λ xs. so_far.waited ++ xs) e ∙ sym (append_assoc so_far.waited (child ∷ []) rest);
  waits = record {
    statuses = so_far.waits.statuses ++ ended ∷ [];
    each = length-append so_far.waits.statuses (ended ∷ []) ∙ ap (λ count. count + 1) so_far.waits.each ∙ sym (length-append so_far.waited (child ∷ []));
    calls = subst (Puts before after) (sym (waits-snoc so_far.waited so_far.waits.statuses child ended so_far.waits.each))
        (puts_more before between after (waits_of so_far.waited so_far.waits.statuses) (call.Waited child ended ∷ []) so_far.waits.calls one);
  };
}

pub waits_next : (before between after : Option (List ChildCall)) (children others rest : List ℕ) (some : Bool) → some ≡ true
    → WaitsFront before between children others → HasWaited others rest between after some → WaitsFront before after children rest
waits_next before between after children others rest some e so_far has =
    let one = subst (HasWaited others rest between after) e has in
    waits_more before between after children others rest one.0 one.1 so_far one.2 one.3

-- fewer are left then
pub fewer_left : (before after : Option (List ChildCall)) (others rest : List ℕ) (some : Bool) → some ≡ true → HasWaited others rest before after some
    → length rest < length others
fewer_left before after others rest some e has =
    let one = subst (HasWaited others rest before after) e has in
    let longer : length others ≡ length (one.0 ∷ rest) = ap length one.2 in
    omega arith

-- ---- stopping

-- the call of a stop that went well
abbrev pub what_went : ℕ → Bool → List ChildCall
what_went child true = call.Stopped child ∷ []
what_went child false = []

stops-snoc : (children : List ℕ) (went : List Bool) (child : ℕ) (ok : Bool) → length went ≡ length children
    → stops_of (children ++ child ∷ []) (went ++ ok ∷ []) ≡ stops_of children went ++ what_went child ok
stops-snoc [] [] child true e = refl
stops-snoc [] [] child false e = refl
stops-snoc [] (ok' ∷ went) child ok e = absurd (omega arith)
stops-snoc (c ∷ cs) [] child ok e = absurd (omega arith)
stops-snoc (c ∷ cs) (true ∷ went) child ok e = ap (λ xs. call.Stopped c ∷ xs) (stops-snoc cs went child ok (omega arith))
stops-snoc (c ∷ cs) (false ∷ went) child ok e = stops-snoc cs went child ok (omega arith)

pub stops_none : (calls : Option (List ChildCall)) (faults : ℕ) → Stops calls calls faults faults []
stops_none calls faults = record { went = []; each = refl; calls = puts_none calls; counts = refl }

-- one more
pub stops_more : (before between after : Option (List ChildCall)) (faults count later : ℕ) (children : List ℕ) (child : ℕ) (ok : Bool)
    → Stops before between faults count children → Puts between after (what_went child ok) → later ≡ fault_count_after (not ok) count
    → Stops before after faults later (children ++ child ∷ [])
stops_more before between after faults count later children child ok so_far one counted = record {
  went = so_far.went ++ ok ∷ [];
  each = length-append so_far.went (ok ∷ []) ∙ ap (λ n. n + 1) so_far.each ∙ sym (length-append children (child ∷ []));
  calls = subst (Puts before after) (sym (stops-snoc children so_far.went child ok so_far.each))
      (puts_more before between after (stops_of children so_far.went) (what_went child ok) so_far.calls one);
  counts = counted ∙ ap (fault_count_after (not ok)) so_far.counts
      ∙ sym (fold-append (λ count ok. fault_count_after (not ok) count) faults so_far.went (ok ∷ []));
}

-- a stop that was called for
pub stops_next : (before between after : Option (List ChildCall)) (faults count later : ℕ) (children : List ℕ) (child : ℕ) {A E : Type 0} (outcome : Result A E)
    → Stops before between faults count children → OnOk outcome (Puts between after (call.Stopped child ∷ [])) → OnErr outcome (after ≡ between)
    → later ≡ fault_count_after (is_err outcome) count → Stops before after faults later (children ++ child ∷ [])
stops_next before between after faults count later children child (Ok done) so_far went still counts =
    stops_more before between after faults count later children child true so_far went counts
stops_next before between after faults count later children child (Err failed) so_far went still counts =
    stops_more before between after faults count later children child false so_far (subst (λ o. Puts between o []) (sym still) (puts_none between)) counts

-- what holds anyway holds of an error
pub so_of_error : {A E : Type 0} (outcome : Result A E) (P : Type 0) → P → OnErr outcome P
so_of_error (Ok done) P p = tt
so_of_error (Err failed) P p = p
