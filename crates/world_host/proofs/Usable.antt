-- a file that a client may use, as a world with its table of files gives it, and as a node gets it
use Rattle.std.proofs.Common.{◌≡◌, ℕ, true, is_some, inl, inr, arith, Option, Some, None, List, [], ◌∷◌, refl, ap, subst}
use Rattle.std.specs.Option.{IfSome, option_or}
use Rattle.std.proofs.lemmas.Bool.Decides.{nat_tests}
use Rattle.std.proofs.lemmas.Bool.{cases_eq}
use Rattle.xt_base.specs.declared.ids.NodeId.{NodeId}
use Rattle.xt_base.specs.declared.ids.FileId.{FileId}
use Rattle.xt_messages.specs.declared.event.Call.{Call}
use Rattle.xt_messages.specs.declared.status.Rule.{Rule}
use Rattle.client_rows.specs.Called.{called_file}
use Rattle.client_rows.specs.Holding.{Held, held_of}
use Rattle.client_rows.specs.Requests.{is_held}
use Rattle.client_rows.specs.Rows.{WholeClient}
use Rattle.client_rows.specs.declared.holding.HeldFile.{HeldFile}
use Rattle.client_steps.proofs.Held.{ready_holds}
use Rattle.world_spec.specs.declared.PlacedFile.{PlacedFile}
use Rattle.world_spec.specs.World.{Running, Core, osd, client, mrc, dir, file_in}
use Rattle.world_spec.specs.Rules.{held_by, held_in, file_held, usable, unless_usable}
use Rattle.world_spec.specs.Lines.{ready_for, aims_at, aimed_on, aims, declared_capability, epoch_of, about_to_use}
use Rattle.world_host.specs.Calls.{declared_of, IsUsable, aims_on, found_with, aims_at_found, targets}

-- a client is made ready for its call

pub ready_is : (files : List PlacedFile) (state : WholeClient) (c : Call) → ready_for files state c (called_file c) ≡ about_to_use state c (declared_of files (called_file c))
ready_is files state c = of (called_file c)
  where
    of : (o : Option ℕ) → ready_for files state c o ≡ about_to_use state c (declared_of files o)
    of None = refl
    of (Some number) = refl

-- the first target of a client

found_is : (state : WholeClient) (node : NodeId) (found : Option PlacedFile) → aims_at_found found node (client state) ≡ client (aimed_on state node found)
found_is state node None = refl
found_is state node (Some f) = refl

-- a node that isn't a client aims at nothing
module _ (core : Core) (node : NodeId) (still : (file : FileId) → aims_on file node core ≡ core) where
  aims_not : (found : Option PlacedFile) → aims_at_found found node core ≡ core
  aims_not None = refl
  aims_not (Some f) = still f.file

pub targets_is : (files : List PlacedFile) (number : ℕ) (node : NodeId) (running : Running) → targets (file_in files number) number node running ≡ aims files number node running
targets_is files number node running = ap (λ (core : Core). record running { core = core }) (of running.core)
  where
    of : (core : Core) → aims_at_found (found_with (file_in files number) (held_by core) number) node core ≡ aims_at files number node core
    of (osd state) = aims_not (osd state) node (λ file. refl) (found_with (file_in files number) [] number)
    of (client state) = found_is state node (usable files state.held number)
    of (mrc state) = aims_not (mrc state) node (λ file. refl) (found_with (file_in files number) [] number)
    of (dir state) = aims_not (dir state) node (λ file. refl) (found_with (file_in files number) [] number)

-- what a call uses is declared or held, where no rule on it is broken

-- what is called is neither declared nor held
abbrev pub unless_held : List PlacedFile → Held → Option ℕ → Option Rule
unless_held files held None = None
unless_held files held (Some number) = unless_usable (usable files held number) number

-- a file is found under its number
pub number_of_found : (files : List PlacedFile) (number : ℕ) (f : PlacedFile) → file_in files number ≡ Some f → f.file.number ≡ number
unfolding file_in
number_of_found [] number f is = absurd (cc)
number_of_found (x ∷ xs) number f is =
    elim (cases_eq x.file.number number) as (λ w. f.file.number ≡ number) [
      | inl e ↦ grind (arith, nat_tests)
      | inr ne ↦ number_of_found xs number f (grind (arith, nat_tests))
    ]

module _ (state : WholeClient) (c : Call) where
  held_so : (number : ℕ) (found : Option PlacedFile) → ((f : PlacedFile) → found ≡ Some f → f.file.number ≡ number)
      → unless_usable (option_or found (file_held (held_of state.held number))) number ≡ None
      → is_some (held_of (about_to_use state c found).held number) ≡ true
  held_so number None own none = of (held_of state.held number) none
    where
      of : (h : Option HeldFile) → unless_usable (option_or None (file_held h)) number ≡ None → is_some h ≡ true
      of None none = absurd (cc)
      of (Some h) none = refl
  held_so number (Some f) own none =
      subst (λ (n : ℕ). is_some (held_of (about_to_use state c (Some f)).held n) ≡ true) (own f refl)
      (ap is_some (ready_holds state.held (declared_capability f (epoch_of state f.file c)) (record { epoch = 0; size = 0 })).1)

  ready_so : (files : List PlacedFile) (o : Option ℕ) → unless_held files state.held o ≡ None → is_held (about_to_use state c (declared_of files o)).held o ≡ true
  ready_so files None none = refl
  ready_so files (Some number) none = held_so number (file_in files number) (λ f. number_of_found files number f) none

pub usable_by : (files : List PlacedFile) (up : Option Running) (c : Call) → unless_held files (held_in up) (called_file c) ≡ None
    → IfSome up (λ (running : Running). IsUsable (declared_of files (called_file c)) c running.core)
usable_by files None c none = tt
usable_by files (Some running) c none = of running.core none
  where
    of : (core : Core) → unless_held files (held_by core) (called_file c) ≡ None → IsUsable (declared_of files (called_file c)) c core
    of (osd state) none = tt
    of (client state) none = ready_so state c files (called_file c) none
    of (mrc state) none = tt
    of (dir state) none = tt
