-- the version that is put on the messages of a step, in what they show of a lease
use Rattle.std.proofs.Common.{◌≡◌, ◌∙◌, ℕ, Bool, true, false, refl, ap, sym, List, [], ◌∷◌, ◌++◌, cond}
use Rattle.std.specs.Prelude.{map, is_some}
use Rattle.std.specs.List.{AllByRecursion}
use Rattle.std.proofs.lemmas.List.Elements.{filter-append, filter_map-append}
use Rattle.xt_base.specs.declared.ids.NodeId.{NodeId}
use Rattle.xt_base.specs.declared.ids.Boot.{Boot}
use Rattle.xt_base.specs.declared.ids.Ballot.{Ballot}
use Rattle.xt_base.specs.declared.ids.Lease.{Lease}
use Rattle.xt_messages.specs.Limits.{is_of_list}
use Rattle.xt_messages.specs.declared.message.Msg.{Msg}
use Rattle.xt_messages.specs.declared.message.Payload.{Payload}
use Rattle.xt_messages.specs.declared.message.Payload.TheVariants as payload
use Rattle.xt_protocol.specs.Register.{ReadAnswer, promise, read_refused, on_read, WriteAnswer, accepted, write_refused, other_boot, on_write}
use Rattle.xt_protocol.specs.LeaseRows.{LeaseState, LeaseNews, free, asking, writing, held, nothing, sends_write, holds, finds, ends, on_answer, round_starts}
use Rattle.xt_protocol.specs.FileStates.{FileState, FileStep, and_then}
use Rattle.lease_runs.specs.LeaseWorld.{LeaseSetting, LeaseRow, RowStep, read_answer, write_answer, news_outs, row_handles, row_asks, lease_file}
use Rattle.lease_runs.specs.LeaseView.{is_lease_or_ask, leases_and_asks, held_end, held_ends, listed, IsBare, ShowsRow}
use Rattle.list_rows.specs.ListRows.{as_version, with_version}
use Rattle.list_laws.specs.Outcomes.{is_aside, IsAside}
use Rattle.list_laws.specs.Versions.{CarriesVersion}
use Rattle.listed_leases.specs.VersionView.{IsOfOther}

-- ---- what is about leases stays so

same_test : (version : ℕ) (m : Msg) → is_lease_or_ask (as_version version m) ≡ is_lease_or_ask m
same_test version m = one_of (is_of_list m.payload)
  where
    one_of : (b : Bool) → is_lease_or_ask (cond b (record m { list = version }) m) ≡ is_lease_or_ask m
    one_of true = refl
    one_of false = refl

pub leases_versioned : (version : ℕ) (outs : List Msg) → leases_and_asks (map (as_version version) outs) ≡ map (as_version version) (leases_and_asks outs)
leases_versioned version [] = refl
leases_versioned version (m ∷ ms) =
    ap (λ (b : Bool). cond b (as_version version m ∷ leases_and_asks (map (as_version version) ms)) (leases_and_asks (map (as_version version) ms))) (same_test version m)
    ∙ one_of (is_lease_or_ask m) (leases_versioned version ms)
  where
    one_of : (b : Bool) → leases_and_asks (map (as_version version) ms) ≡ map (as_version version) (leases_and_asks ms)
        → cond b (as_version version m ∷ leases_and_asks (map (as_version version) ms)) (leases_and_asks (map (as_version version) ms))
        ≡ map (as_version version) (cond b (m ∷ leases_and_asks ms) (leases_and_asks ms))
    one_of true rest = ap (λ (others : List Msg). as_version version m ∷ others) rest
    one_of false rest = rest

-- ---- the same row, with the version on its messages

pub record IsVersioned (version : ℕ) (a b : RowStep) : Type 0 where
  pub row : a.row ≡ b.row
  pub outs : map (as_version version) a.outs ≡ b.outs
  pub end : a.end ≡ b.end

pub versioned_shows : (version : ℕ) (step : FileStep) (a b : RowStep) → IsVersioned version a b → ShowsRow step a → ShowsRow (with_version version step) b
versioned_shows version step a b same p =
    record {
      row = p.row ∙ same.row;
      outs = leases_versioned version step.turned.outs ∙ ap (λ (outs : List Msg). map (as_version version) outs) p.outs ∙ same.outs;
      ends = p.ends ∙ ap listed same.end;
    }

module _ (g : LeaseSetting) (version : ℕ) where
  abbrev here : LeaseSetting
  here = record { file = g.file; list = version; members = g.members; times = g.times }

  reads_to : (n : NodeId) (k : Ballot) (members : List NodeId)
      → map (as_version version) (map (λ (m : NodeId). record { from = n; to = m; list = g.list; payload = payload.Read g.file k }) members)
      ≡ map (λ (m : NodeId). record { from = n; to = m; list = version; payload = payload.Read g.file k }) members
  reads_to n k [] = refl
  reads_to n k (m ∷ ms) = ap (λ (others : List Msg). record { from = n; to = m; list = version; payload = payload.Read g.file k } ∷ others) (reads_to n k ms)

  writes_to : (n : NodeId) (k : Ballot) (l : Lease) (targets : List (NodeId × Boot))
      → map (as_version version) (map (λ (t : NodeId × Boot). record { from = n; to = t.0; list = g.list; payload = payload.Write g.file k t.1 l }) targets)
      ≡ map (λ (t : NodeId × Boot). record { from = n; to = t.0; list = version; payload = payload.Write g.file k t.1 l }) targets
  writes_to n k l [] = refl
  writes_to n k l (t ∷ ts) = ap (λ (others : List Msg). record { from = n; to = t.0; list = version; payload = payload.Write g.file k t.1 l } ∷ others) (writes_to n k l ts)

  read_answered : (n : NodeId) (boot : Boot) (from : NodeId) (k : Ballot) (a : ReadAnswer)
      → map (as_version version) (read_answer g n boot from k a) ≡ read_answer here n boot from k a
  read_answered n boot from k (promise report) = refl
  read_answered n boot from k (read_refused seen) = refl

  write_answered : (n : NodeId) (boot : Boot) (from : NodeId) (k : Ballot) (a : WriteAnswer)
      → map (as_version version) (write_answer g n boot from k a) ≡ write_answer here n boot from k a
  write_answered n boot from k accepted = refl
  write_answered n boot from k (write_refused seen) = refl
  write_answered n boot from k other_boot = refl

  news_sent : (n : NodeId) (news : LeaseNews) → map (as_version version) (news_outs g n news) ≡ news_outs here n news
  news_sent n nothing = refl
  news_sent n (sends_write k l targets) = writes_to n k l targets
  news_sent n (holds end) = refl
  news_sent n (finds lease) = refl
  news_sent n ends = refl

  answered : (n : NodeId) (now : ℕ) (x : LeaseRow) (from : NodeId) (content : Payload)
      → map (as_version version) (news_outs g n (on_answer x.lease now from content).news) ≡ news_outs here n (on_answer x.lease now from content).news
  answered n now x from content = news_sent n (on_answer x.lease now from content).news

  pub handles_versioned : (n : NodeId) (now : ℕ) (x : LeaseRow) (from : NodeId) (content : Payload)
      → IsVersioned version (row_handles g n now x from content) (row_handles here n now x from content)
  handles_versioned n now x from (payload.Read file k) = record { row = refl; outs = read_answered n x.acceptor.boot from k (on_read x.acceptor k).answer; end = refl }
  handles_versioned n now x from (payload.Write file k b l) = record { row = refl; outs = write_answered n x.acceptor.boot from k (on_write x.acceptor k b l).answer; end = refl }
  handles_versioned n now x from (payload.Promise file k b report) = record { row = refl; outs = answered n now x from (payload.Promise file k b report); end = refl }
  handles_versioned n now x from (payload.Accepted file k b) = record { row = refl; outs = answered n now x from (payload.Accepted file k b); end = refl }
  handles_versioned n now x from (payload.Outrun file k seen) = record { row = refl; outs = answered n now x from (payload.Outrun file k seen); end = refl }
  handles_versioned n now x from _ = record { row = refl; outs = refl; end = refl }

  pub asks_versioned : (n : NodeId) (now : ℕ) (x : LeaseRow) (l : LeaseState) → IsVersioned version (row_asks g n now x l) (row_asks here n now x l)
  asks_versioned n now x (free p) = record { row = refl; outs = reads_to n (round_starts p now g.members).ballot g.members; end = refl }
  asks_versioned n now x (asking r) = record { row = refl; outs = refl; end = refl }
  asks_versioned n now x (writing r) = record { row = refl; outs = refl; end = refl }
  asks_versioned n now x (held h) = record { row = refl; outs = reads_to n (round_starts h.proposer now g.members).ballot g.members; end = refl }

-- ---- steps after one that shows nothing

pub shown_then : (version : ℕ) (first : FileStep) (row : FileState → FileStep) (r : RowStep) → IsBare first.turned → r.outs ≡ [] → ShowsRow (row first.state) r
    → ShowsRow (with_version version (and_then first row)) r
shown_then version first row r bare none p =
    let rest = row first.state in
    record {
      row = p.row;
      outs =
          leases_versioned version (first.turned.outs ++ rest.turned.outs)
          ∙ ap (λ (outs : List Msg). map (as_version version) outs)
          (filter-append is_lease_or_ask first.turned.outs rest.turned.outs ∙ ap (λ (ms : List Msg). ms ++ leases_and_asks rest.turned.outs) bare.outs ∙ p.outs ∙ none)
          ∙ sym none;
      ends =
          filter_map-append held_end first.turned.marks rest.turned.marks
          ∙ ap (λ (told : List ℕ). told ++ held_ends rest.turned.marks) bare.ends ∙ p.ends;
    }

-- messages aside aren't about leases
aside_bare : (m : Msg) → IsAside m → is_lease_or_ask m ≡ false
aside_bare m is = at m.payload is
  where
    at : (content : Payload) → is_aside content ≡ true → is_lease_or_ask (record m { payload = content }) ≡ false
    at (payload.Reply number file answer) is = refl
    at (payload.Closed file version head) is = refl
    at (payload.Installed file version) is = refl
    at (payload.Pull file object version) is = refl
    at (payload.Pulled file object version bytes) is = refl
    at (payload.Wanted file) is = refl
    at _ is = absurd (cc)

pub all_aside : (outs : List Msg) → AllByRecursion IsAside outs → leases_and_asks outs ≡ []
all_aside [] all = refl
all_aside (m ∷ ms) all =
    ap (λ (b : Bool). cond b (m ∷ leases_and_asks ms) (leases_and_asks ms)) (aside_bare m all.0) ∙ all_aside ms all.1

-- ---- versions

lease_of_list : (content : Payload) → is_some (lease_file content) ≡ true → is_of_list content ≡ true
lease_of_list (payload.Read file k) is = refl
lease_of_list (payload.Promise file k b report) is = refl
lease_of_list (payload.Write file k b l) is = refl
lease_of_list (payload.Accepted file k b) is = refl
lease_of_list (payload.Outrun file k seen) is = refl
lease_of_list _ is = absurd (cc)

-- what carries one version is of no other
pub all_other : (version other : ℕ) → (version ≡ other → ⊥) → (outs : List Msg) → AllByRecursion (CarriesVersion version) outs → AllByRecursion (IsOfOther other) outs
all_other version other differ [] all = tt
all_other version other differ (m ∷ ms) all =
    (λ about is. differ (sym (all.0 (lease_of_list m.payload about)) ∙ is), all_other version other differ ms all.1)

-- and what isn't about leases is of none
is_lease : (m : Msg) → is_some (lease_file m.payload) ≡ true → is_lease_or_ask m ≡ true
is_lease m is = at m.payload is
  where
    at : (content : Payload) → is_some (lease_file content) ≡ true → is_lease_or_ask (record m { payload = content }) ≡ true
    at (payload.Read file k) is = refl
    at (payload.Promise file k b report) is = refl
    at (payload.Write file k b l) is = refl
    at (payload.Accepted file k b) is = refl
    at (payload.Outrun file k seen) is = refl
    at _ is = absurd (cc)

pub bare_other : (other : ℕ) (outs : List Msg) → leases_and_asks outs ≡ [] → AllByRecursion (IsOfOther other) outs
bare_other other [] none = tt
bare_other other (m ∷ ms) none = at (is_lease_or_ask m) refl none (λ gone. bare_other other ms gone)
  where
    at : (b : Bool) → is_lease_or_ask m ≡ b → cond b (m ∷ leases_and_asks ms) (leases_and_asks ms) ≡ []
        → (leases_and_asks ms ≡ [] → AllByRecursion (IsOfOther other) ms) → IsOfOther other m × AllByRecursion (IsOfOther other) ms
    at true is gone rest = absurd (cc)
    at false is gone rest = (λ about same. let both : true ≡ false = sym (is_lease m about) ∙ is in absurd (cc), rest gone)
