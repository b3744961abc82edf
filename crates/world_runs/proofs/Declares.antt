-- the lines that declare: the times, nodes and files
use Rattle.std.proofs.Common.{false, ◌≡◌, ◌≢◌, ℕ, inl, inr, List, [], ◌∷◌, ◌++◌, refl, arith, ap, sym, ◌∙◌, subst, Option, Some, None}
use Rattle.std.specs.Prelude.{◌<◌}
use Rattle.std.proofs.lemmas.List.{append-nil}
use Rattle.xt_base.specs.TimeSettings.{TimeSettings}
use Rattle.xt_base.specs.declared.TheConstants.{MRC_NODE}
use Rattle.xt_base.specs.declared.ids.NodeId.{NodeId}
use Rattle.xt_messages.specs.declared.file.Location.{Location}
use Rattle.lease_safety.specs.State.{Has}
use Rattle.lease_runs.specs.LeaseWorld.{LeaseSetting, IsSeenAs, starts, start_lease_world}
use Rattle.lease_runs.proofs.Seen as seen_steps
use Rattle.world_spec.specs.declared.PlacedFile.{PlacedFile}
use Rattle.time_line.specs.declared.line.Line.{Line}
use Rattle.time_line.specs.declared.entry.Entry.{Entry}
use Rattle.time_line.specs.declared.entry.Entry.TheVariants as entry
use Rattle.world_spec.specs.declared.Role.{Role}
use Rattle.world_spec.specs.declared.Role.TheVariants as role
use Rattle.time_line.specs.TimeLine.{RunningBoot, standing, times_of}
use Rattle.world_spec.specs.World.{World, start_world, Node, client, node_in, known, up_of}
use Rattle.world_spec.specs.Lines.{runs, first_boot, whole_client, declared_file, never_started, tells}
use Rattle.world_runs.specs.View.{file_setting, node_id, end_in, told, unseen, node_seen, lease_view}
use Rattle.world_runs.proofs.Lists.{has_in}
use Rattle.world_runs.proofs.Tables.{same, nobody, node_in-last, node_in-before, file_in-id, file_in-has, file_in-before, AllStay, stay_before, stay_both}
use Rattle.world_runs.proofs.Standings.{standing-push, standing-none, own_up, other_up}
use Rattle.world_runs.proofs.Files.{no_rows, payload_more}
use Rattle.world_runs.proofs.Clients.{nothing_asked, node_more}
use Rattle.world_runs.proofs.Making.{AreMade, told_above}
use Rattle.world_runs.proofs.Roles.{made_in, one_more_server, made_before}
use Rattle.world_runs.proofs.Moments.{IsSafe, safe-nothing, safe-push, times-push, times_nothing, times_first}
use Rattle.world_runs.proofs.Frame.{Good, members_before}
use Rattle.world_runs.proofs.Fit.{IsShaped, IsFit, apart_now}
use Rattle.world_runs.proofs.Walk.{StandsAt}
use Rattle.world_runs.specs.Worlds.{NodeFits, MadeByRole, IsMadeBy, Stands}

-- ---- at first

-- no node is there yet
empty_shape : (times : TimeSettings) (es : List Entry) (ls : List Line) → times_of es ≡ times → ((id : NodeId) (number : ℕ) → standing id number es ≡ None)
    → IsShaped (record { times = times; nodes = []; files = []; made = []; sent = []; entries = es; lines = ls; ended = false }) []
empty_shape times es ls are none =
    let w : World = record { times = times; nodes = []; files = []; made = []; sent = []; entries = es; lines = ls; ended = false } in
    record {
      good = λ file members are_members.
          let g = file_setting times file members in
          seen_steps.unmoved g (start_lease_world g) (lease_view g w []) starts
          (λ n. subst (λ (f : Option Node). IsSeenAs ((start_lease_world g).node n) (node_seen g n (told file.number n es) f)) (sym (nobody n)) (record { runs = refl; boot = omega arith; running = λ runs. absurd (cc) })) (λ m h. h);
      nodes = λ n node is. absurd (let none : None ≡ Some node = sym (nobody n) ∙ is in cc);
      stands = λ n number. subst (λ (f : Option Node). Stands (standing (node_id n) number es) (up_of f)) (sym (nobody n)) (subst (λ (o : Option RunningBoot). Stands o None) (sym (none (node_id n) number)) tt);
      payloads = λ m h. absurd h;
      declared = λ f h. absurd h;
      made = subst (IsMadeBy []) (sym (nobody MRC_NODE.0)) refl;
      one_server = λ n node is server. absurd (let none : None ≡ Some node = sym (nobody n) ∙ is in cc);
      times = are;
    }

pub start_fits : IsFit start_world []
start_fits = record { shape = empty_shape (record { lease = 14000; drift = 1000 }) [] [] times_nothing (λ id number. standing-none id number); safe = safe-nothing }

-- the times are set
pub times_fit : (lease drift : ℕ) → IsFit (tells (record start_world { times = record { lease = lease; drift = drift } }) (entry.Times lease drift ∷ [])) []
times_fit lease drift =
    let w = tells (record start_world { times = record { lease = lease; drift = drift } }) (entry.Times lease drift ∷ []) in
    let shape : IsShaped w [] = empty_shape (record { lease = lease; drift = drift }) (entry.Times lease drift ∷ []) [] (times_first lease drift) (λ id number. standing-push id number [] (entry.Times lease drift) ∙ standing-none id number) in
    record { shape = shape; safe = safe-push [] (entry.Times lease drift) safe-nothing (apart_now w [] shape) (λ number by acting. absurd (cc)) }

-- ---- nodes

-- a node that isn't a running OSD, and keeps nothing
abbrev IsBlank : Node → Type 0
IsBlank node = (g : LeaseSetting) (n : ℕ) (end : Option ℕ) → node_seen g n end (Some node) ≡ unseen g n []

-- it is declared
declared_good : (w : World) (node : Node) (es : List Entry) → node_in w.nodes node.id.0 ≡ None → IsBlank node → ((n number : ℕ) → n ≢ node.id.0 → told number n es ≡ told number n w.entries) → Good w [] → Good (record w { nodes = w.nodes ++ node ∷ []; entries = es }) []
declared_good w node es free blank still good file members are =
    let g = file_setting w.times file members in
    let next : World = record w { nodes = w.nodes ++ node ∷ []; entries = es } in
    seen_steps.unmoved g (lease_view g w []) (lease_view g next []) (good file members are)
    (λ n. elim (same n node.id.0) [
      | inl e ↦ seen_steps.as_it_is _ _
          (ap (node_seen g n (told file.number n es)) (ap (node_in next.nodes) e ∙ node_in-last w.nodes node free) ∙ (blank g n (told file.number n es) ∙ sym (ap (node_seen g n (told file.number n w.entries)) (ap (node_in w.nodes) e ∙ free))))
      | inr ne ↦ seen_steps.as_it_is _ _
          (ap (node_seen g n (told file.number n es)) (node_in-before w.nodes node n ne) ∙ ap (λ (t : Option ℕ). node_seen g n t (node_in w.nodes n)) (still n file.number ne))
    ])
    (λ m h. h)

declared_nodes : (P : Node → Type 0) (nodes : List Node) (node : Node) (n : ℕ) (x : Node) → node_in nodes node.id.0 ≡ None → P node → ((y : Node) → node_in nodes n ≡ Some y → P y) → node_in (nodes ++ node ∷ []) n ≡ Some x → P x
declared_nodes P nodes node n x free here others is =
    elim (same n node.id.0) [
      | inl e ↦ (let now : Some node ≡ Some x = sym (ap (node_in (nodes ++ node ∷ [])) e ∙ node_in-last nodes node free) ∙ is in let is_node : node ≡ x = cc in subst P is_node here)
      | inr ne ↦ others x (sym (node_in-before nodes node n ne) ∙ is)
    ]

unstood : (o : Option RunningBoot) → Stands o None → o ≡ None
unstood None stands = refl
unstood (Some st) stands = absurd stands

-- a server that never started is unseen, and made nothing
server_blank : (id : NodeId) (its : Role) → IsBlank (never_started id its)
server_blank id role.Osd g n end = refl
server_blank id role.Client g n end = refl
server_blank id role.Mrc g n end = refl
server_blank id role.Dir g n end = refl

server_made : (made : List PlacedFile) (id : NodeId) (its : Role) → made ≡ [] → MadeByRole made (never_started id its) its
server_made made id role.Osd none = none
server_made made id role.Client none = none
server_made made id role.Mrc none = (made_in (never_started id role.Mrc), ap (λ (fs : List PlacedFile). fs ++ made_in (never_started id role.Mrc)) (sym none))
server_made made id role.Dir none = none

stands_at : (id : NodeId) (its : Role) → StandsAt id its → its ≡ role.Mrc → id ≡ MRC_NODE
stands_at id role.Osd at is = absurd (cc)
stands_at id role.Client at is = absurd (cc)
stands_at id role.Mrc at is = at
stands_at id role.Dir at is = absurd (cc)

pub server_fits : (w : World) (id : NodeId) (its : Role) → StandsAt id its → node_in w.nodes id.0 ≡ None → IsFit w [] → IsFit (tells (record w { nodes = w.nodes ++ never_started id its ∷ [] }) []) []
server_fits w id its at free fit =
    let es_is : w.entries ++ [] ≡ w.entries = append-nil w.entries in
    let next = tells (record w { nodes = w.nodes ++ new ∷ [] }) [] in
    record {
      shape =
          record {
            good = declared_good w new (w.entries ++ []) free (server_blank id its) (λ n number ne. ap (told number n) es_is) fit.shape.good;
            nodes = λ n x is. declared_nodes (NodeFits w.times (known w)) w.nodes new n x free (record { role_is = tt; rows = no_rows (known w); up = tt }) (λ y was. fit.shape.nodes n y was) is;
            stands = λ n number. subst (λ (es : List Entry). Stands (standing (node_id n) number es) (up_of (node_in (w.nodes ++ new ∷ []) n))) (sym es_is)
                (elim (same n id.0) [
                  | inl e ↦
                      let before = unstood (standing (node_id n) number w.entries) (subst (λ (f : Option Node). Stands (standing (node_id n) number w.entries) (up_of f)) (ap (node_in w.nodes) e ∙ free) (fit.shape.stands n number)) in
                      subst (λ (f : Option Node). Stands (standing (node_id n) number w.entries) (up_of f)) (sym (ap (node_in (w.nodes ++ new ∷ [])) e ∙ node_in-last w.nodes new free)) (subst (λ (o : Option RunningBoot). Stands o None) (sym before) tt)
                  | inr ne ↦ subst (λ (f : Option Node). Stands (standing (node_id n) number w.entries) (up_of f)) (sym (node_in-before w.nodes new n ne)) (fit.shape.stands n number)
                ]);
            payloads = fit.shape.payloads;
            declared = fit.shape.declared;
            made = made_before w.nodes new free (stands_at id its at) w.made fit.shape.made (server_made w.made id its);
            one_server = one_more_server w.nodes new free (stands_at id its at) fit.shape.one_server;
            times = ap times_of es_is ∙ fit.shape.times;
          };
      safe = subst IsSafe (sym es_is) fit.safe;
    }
  where
    new : Node
    new = never_started id its

pub client_fits : (w : World) (id : NodeId) (clock : ℕ) → node_in w.nodes id.0 ≡ None → IsFit w []
    → IsFit (tells (record w { nodes = w.nodes ++ record { id = id; role = role.Client; kept = []; past = []; up = Some (runs first_boot clock (client (whole_client clock))) } ∷ [] }) (entry.Up id first_boot clock ∷ [])) []
client_fits w id clock free fit =
    let next = tells (record w { nodes = w.nodes ++ new ∷ [] }) (entry.Up id first_boot clock ∷ []) in
    let shape : IsShaped next [] =
    record {
      good = declared_good w new (w.entries ++ entry.Up id first_boot clock ∷ []) free (λ g n end. refl)
          (λ n number ne. ap end_in (standing-push (node_id n) number w.entries (entry.Up id first_boot clock) ∙ other_up (node_id n) id number first_boot clock _ (λ e. ne (sym e)))) fit.shape.good;
      nodes = λ n x is. declared_nodes (NodeFits w.times (known w)) w.nodes new n x free (record { role_is = refl; rows = no_rows (known w); up = nothing_asked (known w) clock }) (λ y was. fit.shape.nodes n y was) is;
      stands = λ n number. elim (same n id.0) [
        | inl e ↦ subst (λ (f : Option Node). Stands (standing (node_id n) number next.entries) (up_of f)) (sym (ap (node_in (w.nodes ++ new ∷ [])) e ∙ node_in-last w.nodes new free))
            (subst (λ (o : Option RunningBoot). Stands o (Some (runs first_boot clock (client (whole_client clock))))) (sym (standing-push (node_id n) number w.entries (entry.Up id first_boot clock) ∙ own_up (node_id n) id number first_boot clock _ (sym e))) (refl, refl))
        | inr ne ↦ subst (λ (f : Option Node). Stands (standing (node_id n) number next.entries) (up_of f)) (sym (node_in-before w.nodes new n ne))
            (subst (λ (o : Option RunningBoot). Stands o (up_of (node_in w.nodes n))) (sym (standing-push (node_id n) number w.entries (entry.Up id first_boot clock) ∙ other_up (node_id n) id number first_boot clock _ (λ e. ne (sym e)))) (fit.shape.stands n number))
      ];
      payloads = fit.shape.payloads;
      declared = fit.shape.declared;
      made = made_before w.nodes new free (λ server. absurd (cc)) w.made fit.shape.made (λ none. none);
      one_server = one_more_server w.nodes new free (λ server. absurd (cc)) fit.shape.one_server;
      times = times-push w.entries (entry.Up id first_boot clock) refl ∙ fit.shape.times;
    } in
    record { shape = shape; safe = safe-push w.entries (entry.Up id first_boot clock) fit.safe (apart_now next [] shape) (λ number by acting. absurd (cc)) }
  where
    new : Node
    new = record { id = id; role = role.Client; kept = []; past = []; up = Some (runs first_boot clock (client (whole_client clock))) }

-- ---- files

-- a file that is declared last changes no other: what is made has higher numbers
pub declared_stay : (files made : List PlacedFile) (new : PlacedFile) → AreMade made → new.file.number < 1000000 → AllStay (files ++ made) ((files ++ new ∷ []) ++ made)
declared_stay files made new above low =
    stay_both files (files ++ new ∷ []) made (stay_before files (new ∷ []))
    (λ number f none is.
    let high = above f (file_in-has made number f is) in
    let its = file_in-id made number f is in
    file_in-before files new number (λ same_number. (omega (arith, high, its, low, same_number))) ∙ none)

pub file_fits : (w : World) (number : ℕ) (location : Location) → number < 1000000 → IsFit w []
    → IsFit (tells (record w { files = w.files ++ record { file = declared_file number; location = location } ∷ [] }) (entry.File number location ∷ [])) []
file_fits w number location low fit =
    let next = tells (record w { files = w.files ++ new ∷ [] }) (entry.File number location ∷ []) in
    let e = entry.File number location in
    let still : (id : NodeId) (k : ℕ) → standing id k next.entries ≡ standing id k w.entries = λ id k. standing-push id k w.entries e in
    let shape : IsShaped next [] =
    record {
      good = λ file members are.
          let g = file_setting w.times file members in
          seen_steps.unmoved g (lease_view g w []) (lease_view g next []) (fit.shape.good file members (members_before (known w) later file members stay are))
          (λ n. seen_steps.as_it_is _ _ (ap (λ (t : Option ℕ). node_seen g n t (node_in w.nodes n)) (ap end_in (still (node_id n) file.number)))) (λ m h. h);
      nodes = λ n x is. node_more (known w) later stay w.times x (fit.shape.nodes n x is);
      stands = λ n k. subst (λ (o : Option RunningBoot). Stands o (up_of (node_in w.nodes n))) (sym (still (node_id n) k)) (fit.shape.stands n k);
      payloads = λ m h. payload_more (known w) later stay m.payload (fit.shape.payloads m h);
      declared = λ f h. elim (has_in f w.files (new ∷ []) h) [
        | inl was ↦ fit.shape.declared f was
        | inr last ↦ one f last
      ];
      made = fit.shape.made;
      one_server = fit.shape.one_server;
      times = times-push w.entries e refl ∙ fit.shape.times;
    } in
    record { shape = shape; safe = safe-push w.entries e fit.safe (apart_now next [] shape) (λ k by acting. absurd (cc)) }
  where
    new : PlacedFile
    new = record { file = declared_file number; location = location }

    later : List PlacedFile
    later = (w.files ++ new ∷ []) ++ w.made

    stay : AllStay (known w) later
    stay = declared_stay w.files w.made new (told_above w.made (node_in w.nodes MRC_NODE.0) fit.shape.made) low

    one : (f : PlacedFile) → Has f (new ∷ []) → (f.file ≡ declared_file f.file.number) × (f.file.number < 1000000)
    one f (inl e) = subst (λ (x : PlacedFile). (x.file ≡ declared_file x.file.number) × (x.file.number < 1000000)) (sym e) (refl, low)
    one f (inr h) = absurd h
