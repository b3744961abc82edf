-- the metadata server among the nodes: it is one, and what is made is what its records say
use Rattle.std.proofs.Common.{◌≡◌, inl, inr, List, [], ◌∷◌, ◌++◌, refl, ap, sym, ◌∙◌, subst, Some, None}
use Rattle.std.specs.Prelude.{◌⊎◌}
use Rattle.xt_base.specs.declared.TheConstants.{MRC_NODE}
use Rattle.xt_base.specs.declared.ids.NodeId.{NodeId}
use Rattle.server_rows.specs.Metadata.{catalogue_of}
use Rattle.world_spec.specs.declared.PlacedFile.{PlacedFile}
use Rattle.world_spec.specs.declared.Role.{Role}
use Rattle.world_spec.specs.declared.Role.TheVariants as role
use Rattle.world_spec.specs.World.{Node, Running, world_key, node_in, with_node}
use Rattle.world_spec.specs.Lines.{files_in}
use Rattle.world_runs.proofs.Tables.{same, node_in-new, node_in-other, node_in-last, node_in-before}
use Rattle.world_runs.specs.Worlds.{role_of, IsOfRole, MadeUp, MadeByRole, IsMadeBy, IsOneServer}

abbrev pub IsNoMrc : Role → Type 0
IsNoMrc role.Mrc = ⊥
IsNoMrc _ = Unit {0}

pub mrc_or_not : (its : Role) → (its ≡ role.Mrc) ⊎ IsNoMrc its
mrc_or_not role.Osd = inr tt
mrc_or_not role.Client = inr tt
mrc_or_not role.Mrc = inl refl
mrc_or_not role.Dir = inr tt

-- what runs is of its node's role
pub role_at : (node : Node) (r : Running) → IsOfRole node.role node.up → node.up ≡ Some r → role_of r.core ≡ node.role
role_at node r of_role is_up = subst (IsOfRole node.role) is_up of_role

-- ---- what is made

abbrev pub made_in : Node → List PlacedFile
made_in node = files_in (catalogue_of world_key node.kept)

pub made_none : (made : List PlacedFile) (node : Node) → MadeByRole made node node.role → IsNoMrc node.role → made ≡ []
made_none made node = at node.role
  where
    at : (its : Role) → MadeByRole made node its → IsNoMrc its → made ≡ []
    at role.Osd is other = is
    at role.Client is other = is
    at role.Mrc is other = absurd other
    at role.Dir is other = is

pub made_up : (made : List PlacedFile) (node : Node) → MadeByRole made node node.role → node.role ≡ role.Mrc → MadeUp made (made_in node) node.up
made_up made node is its = subst (MadeByRole made node) its is

pub made_by : (made : List PlacedFile) (node : Node) → (node.role ≡ role.Mrc → MadeUp made (made_in node) node.up) → (IsNoMrc node.role → made ≡ []) → MadeByRole made node node.role
made_by made node server other = at node.role refl
  where
    at : (its : Role) → node.role ≡ its → MadeByRole made node its
    at role.Osd is = other (subst IsNoMrc (sym is) tt)
    at role.Client is = other (subst IsNoMrc (sym is) tt)
    at role.Mrc is = server is
    at role.Dir is = other (subst IsNoMrc (sym is) tt)

-- ---- a node in the place of one of its id

module _ (nodes : List Node) (there old : Node) (found : node_in nodes there.id.0 ≡ Some old) (its : there.role ≡ old.role) (one : IsOneServer nodes) where
  pub one_with : IsOneServer (with_node nodes there)
  one_with n node is server =
      elim (same n there.id.0) [
        | inl e ↦
            let now : Some there ≡ Some node = sym (ap (node_in (with_node nodes there)) e ∙ node_in-new nodes there old found) ∙ is in
            let is_there : there ≡ node = cc in
            e ∙ one there.id.0 old found (sym its ∙ (ap (λ (x : Node). x.role) is_there ∙ server))
        | inr ne ↦ one n node (sym (node_in-other nodes there n ne) ∙ is) server
      ]

  pub made_with : (made later : List PlacedFile) → IsMadeBy made (node_in nodes MRC_NODE.0) → (there.role ≡ role.Mrc → MadeUp made (made_in old) old.up → MadeUp later (made_in there) there.up)
      → (IsNoMrc there.role → later ≡ made) → IsMadeBy later (node_in (with_node nodes there) MRC_NODE.0)
  made_with made later is server other =
      elim (same MRC_NODE.0 there.id.0) [
        | inl e ↦
            let was : MadeByRole made old old.role = subst (IsMadeBy made) (ap (node_in nodes) e ∙ found) is in
            subst (IsMadeBy later) (sym (ap (node_in (with_node nodes there)) e ∙ node_in-new nodes there old found))
            (made_by later there (λ of_mrc. server of_mrc (made_up made old was (sym its ∙ of_mrc))) (λ none. other none ∙ made_none made old was (subst IsNoMrc its none)))
        | inr ne ↦
            let is_none : IsNoMrc there.role = elim (mrc_or_not there.role) as (λ o. IsNoMrc there.role) [
              | inl of_mrc ↦ absurd (ne (sym (one there.id.0 old found (sym its ∙ of_mrc))))
              | inr none ↦ none
            ] in
            subst (λ (m : List PlacedFile). IsMadeBy m (node_in (with_node nodes there) MRC_NODE.0)) (sym (other is_none))
            (subst (IsMadeBy made) (sym (node_in-other nodes there MRC_NODE.0 ne)) is)
      ]

-- ---- a node that is declared

module _ (nodes : List Node) (new : Node) (free : node_in nodes new.id.0 ≡ None) (stands : new.role ≡ role.Mrc → new.id ≡ MRC_NODE) where
  pub one_more_server : IsOneServer nodes → IsOneServer (nodes ++ new ∷ [])
  one_more_server one n node is server =
      elim (same n new.id.0) [
        | inl e ↦
            let now : Some new ≡ Some node = sym (ap (node_in (nodes ++ new ∷ [])) e ∙ node_in-last nodes new free) ∙ is in
            let is_new : new ≡ node = cc in
            e ∙ ap (λ (id : NodeId). id.0) (stands (ap (λ (x : Node). x.role) is_new ∙ server))
        | inr ne ↦ one n node (sym (node_in-before nodes new n ne) ∙ is) server
      ]

  pub made_before : (made : List PlacedFile) → IsMadeBy made (node_in nodes MRC_NODE.0) → (made ≡ [] → MadeByRole made new new.role) → IsMadeBy made (node_in (nodes ++ new ∷ []) MRC_NODE.0)
  made_before made is here =
      elim (same MRC_NODE.0 new.id.0) [
        | inl e ↦ subst (IsMadeBy made) (sym (ap (node_in (nodes ++ new ∷ [])) e ∙ node_in-last nodes new free)) (here (subst (IsMadeBy made) (ap (node_in nodes) e ∙ free) is))
        | inr ne ↦ subst (IsMadeBy made) (sym (node_in-before nodes new MRC_NODE.0 ne)) is
      ]
