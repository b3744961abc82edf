-- a request that comes to a server, in the words of the step
use Rattle.std.specs.Prelude.{ℕ, ◌≤◌, ◌<◌, ◌^◌, List, length, Option, IsTrue}
use Rattle.xt_base.specs.MemberList.{are_distinct}
use Rattle.xt_base.specs.declared.ids.NodeId.{NodeId}
use Rattle.reply_cache.specs.Standings.{with_answer}
use Rattle.volume_rows.specs.Requests.{Outcome}
use Rattle.server_rows.specs.Requests.{outcome_of, with_sizes}
use Rattle.server_rows.specs.Metadata.{Catalogue, MrcState, MrcStep, after_meta, after_request, requested, fresh}
use Rattle.mrc_core.specs.declared.asking.Site.{Site}
use Rattle.mrc_core.specs.declared.asking.Asking.{Asking}
use Rattle.mrc_core.specs.declared.settling.Settling.{Settling}
use Rattle.mrc_core.specs.Settling.{answer_of}

-- a key has 1 to 64 bytes, the OSDs are different, and the clock is one
pub record IsServer (key : List ℕ) (osds : List NodeId) (clock : ℕ) : Type 0 where
  pub some : 1 ≤ length key
  pub short : length key ≤ 64
  pub different : IsTrue (are_distinct osds)
  pub time : clock < 2 ^ 62

abbrev pub IsSite : Site → Type 0
IsSite site = IsServer site.key.now site.osds.now site.clock

-- a server at a site
abbrev pub server_at : Site → Catalogue → MrcState
server_at site catalogue = record { catalogue = catalogue; osds = site.osds.now; last = site.clock }

-- a server at a clock
abbrev pub at_clock : ℕ → MrcState → MrcState
at_clock clock mrc = record mrc { last = clock }

abbrev pub requested_at : Site → Catalogue → Asking → MrcStep
requested_at site catalogue asking =
    requested site.key.now (server_at site catalogue) asking.client asking.number asking.who asking.request.now

abbrev pub fresh_at : Site → Catalogue → Asking → MrcStep
fresh_at site catalogue asking =
    fresh site.key.now (server_at site catalogue) asking.client asking.number asking.who asking.request.now

abbrev pub outcome_at : Site → Catalogue → Asking → Option (List NodeId) → Outcome
outcome_at site catalogue asking nodes =
    outcome_of site.key.now catalogue.volumes asking.who site.clock nodes asking.request.now

abbrev pub after_asking : Site → Catalogue → Asking → Option (List NodeId) → Catalogue
after_asking site catalogue asking nodes =
    after_request site.key.now catalogue asking.client asking.number site.clock nodes asking.who asking.request.now

abbrev pub after_meta_at : Site → Catalogue → Asking → Option (List NodeId) → Catalogue
after_meta_at site catalogue asking nodes =
    after_meta site.key.now catalogue asking.client asking.number site.clock nodes asking.who asking.request.now

-- what is known after a request that set sizes at most
abbrev pub after_setting : Catalogue → NodeId → ℕ → Settling → Catalogue
after_setting catalogue client number settling =
    record {
      volumes = with_sizes catalogue.volumes settling.sets;
      made = catalogue.made;
      clients = with_answer catalogue.clients client number (answer_of settling.settled);
    }
