-- The faults that are told of models' links and paths are those of the definitions.
use Rattle.std.proofs.Common.{◌≡◌, ◌⊎◌, inl, inr, List, [], refl, sym, ap, subst}
use Rattle.std.specs.Prelude.{Contains}
use Rattle.ob_definition.specs.declared.definition.ModelDef.{ModelDef}
use Rattle.ob_definition.specs.declared.fault.SchemaFault.{SchemaFault}
use Rattle.ob_definition.specs.declared.fault.SchemaFault.TheVariants as fault
use Rattle.ob_definition.specs.declared.fault.Spot.{Spot}
use Rattle.ob_definition.specs.EntryFaults.{HasNoParent, HasTakenLink, MayNotInherit}
use Rattle.ob_definition.specs.Gathered.{Gathered, gathered}
use Rattle.ob_definition.specs.Making.{AreMadeFaults, IsLinkFault, IsPathFault}
use Rattle.ob_definition.specs.Members.{path_name}
use Rattle.ob_definition.specs.Rooms.{spot_at}
use Rattle.ob_registry.specs.Faults.{AtModel, DeclaresPath, IsModelFault}
use Rattle.ob_registry.proofs.ModelRank.{any_there, spot_is, there_any}

module _ (defs : List ModelDef) where
  abbrev models : List Gathered
  models = gathered defs

  told : (what why : SchemaFault) → why ≡ what → IsModelFault defs what → IsModelFault defs why
  told what why is faulty = subst (λ (y : SchemaFault). IsModelFault defs y) (sym is) faulty

  path_fault : (g : Gathered) (why : SchemaFault) → Contains models g → IsPathFault g why → IsModelFault defs why
  path_fault g why there (tree, (k, f, within, at, taken)) =
      let declares : DeclaresPath defs (spot_at f.entry path_name) = (g, there, refl, tree, (k, f, within, at, (taken.0, refl))) in
      told (fault.Twice (spot_at f.entry path_name)) why taken.1 (inr declares)

  link_fault : (g : Gathered) (why : SchemaFault) → Contains models g → IsLinkFault models g why → IsModelFault defs why
  link_fault g why there (inl none) = told (fault.Model (spot_at g.entry [])) why none.1 (g, there, refl, (refl, none.0))
  link_fault g why there (inr (inl not)) = told (fault.Inherits (spot_at g.entry [])) why not.1 (g, there, refl, (refl, not.0))
  link_fault g why there (inr (inr taken)) = told (fault.Twice (spot_at g.entry [])) why taken.1 (inl (g, there, refl, (refl, taken.0)))

  -- what is told of links and paths is a fault
  pub made_faulty : (why : SchemaFault) → AreMadeFaults models models why → IsModelFault defs why
  made_faulty why faults = by (there_any (λ g. IsPathFault g why ⊎ IsLinkFault models g why) models faults)
    where
      by : (g : Gathered) × Contains models g × (IsPathFault g why ⊎ IsLinkFault models g why) → IsModelFault defs why
      by (g, there, inl path) = path_fault g why there path
      by (g, there, inr link) = link_fault g why there link

  -- and such faults are told
  pub no_parent_made : (spot : Spot) → AtModel defs spot (λ g. (g.entry ≡ spot.entry) × HasNoParent models g) → AreMadeFaults models models (fault.Model spot)
  no_parent_made spot (g, there, whole, at) =
      any_there (λ g. IsPathFault g (fault.Model spot) ⊎ IsLinkFault models g (fault.Model spot)) models g there (inr (inl (at.1, ap fault.Model (sym (spot_is spot g.entry [] at.0 (sym whole))))))

  pub not_inherited_made : (spot : Spot) → AtModel defs spot (λ g. (g.entry ≡ spot.entry) × MayNotInherit models g) → AreMadeFaults models models (fault.Inherits spot)
  not_inherited_made spot (g, there, whole, at) =
      any_there (λ g. IsPathFault g (fault.Inherits spot) ⊎ IsLinkFault models g (fault.Inherits spot)) models g there (inr (inr (inl (at.1, ap fault.Inherits (sym (spot_is spot g.entry [] at.0 (sym whole)))))))

  pub taken_made : (spot : Spot) → AtModel defs spot (λ g. (g.entry ≡ spot.entry) × HasTakenLink models g) → AreMadeFaults models models (fault.Twice spot)
  taken_made spot (g, there, whole, at) =
      any_there (λ g. IsPathFault g (fault.Twice spot) ⊎ IsLinkFault models g (fault.Twice spot)) models g there (inr (inr (inr (at.1, ap fault.Twice (sym (spot_is spot g.entry [] at.0 (sym whole)))))))

  pub path_made : (spot : Spot) → DeclaresPath defs spot → AreMadeFaults models models (fault.Twice spot)
  path_made spot (g, there, name, tree, (k, f, within, at, (is, entry))) =
      any_there (λ g. IsPathFault g (fault.Twice spot) ⊎ IsLinkFault models g (fault.Twice spot)) models g there (inl (tree, (k, f, within, at, (is, ap fault.Twice (sym (spot_is spot f.entry path_name entry (sym name)))))))
