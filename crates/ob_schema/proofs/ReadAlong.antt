-- A cell along a path that a formula's expression reads is one along a declared path, so that the formula means by those alone.
use Rattle.std.proofs.Common.{inl, inr, List, [], ◌∷◌, ◌++◌, Option, Some, sym, subst}
use Rattle.std.specs.Prelude.{All, Any, Contains}
use Rattle.ob_base.specs.declared.id.Cell.{Cell}
use Rattle.ob_base.specs.declared.id.FieldNo.{FieldNo}
use Rattle.ob_base.specs.declared.id.ModelNo.{ModelNo}
use Rattle.ob_base.specs.declared.id.RecId.{RecId}
use Rattle.ob_base.specs.declared.value.Value.{Value}
use Rattle.ob_base.specs.declared.value.Value.TheVariants as value
use Rattle.ob_expr.specs.declared.typed.Link.{Link}
use Rattle.ob_expr.specs.Meaning.{cell_in, row_at}
use Rattle.ob_expr.specs.Reads.{IsAlongAny, IsAlongPath, IsAmong, LeadsTo}
use Rattle.ob_expr.specs.Route.{Route}
use Rattle.ob_expr.specs.TypedTree.{paths_of, typed_tree_of}
use Rattle.ob_expr.proofs.CallerLemmas.{same_meaning}
use Rattle.std.specs.Option.{option_map_or}
use Rattle.std.proofs.lemmas.List.Elements.{All-head, All-tail}
use Rattle.ob_schema.specs.declared.info.FieldInfo.{FieldInfo}
use Rattle.ob_schema.specs.declared.info.Formula.{Formula}
use Rattle.ob_schema.specs.declared.info.ModelInfo.{ModelInfo}
use Rattle.ob_schema.specs.declared.info.Path.{Path}
use Rattle.ob_schema.specs.declared.info.Step.{Step}
use Rattle.ob_schema.specs.Models.{IsFormulaIn}
use Rattle.ob_schema.specs.Paths.{BeginsWith, steps_along, steps_of_route}
use Rattle.ob_schema.specs.Plain.{targets_of}
use Rattle.ob_schema.specs.ReadCells.{IsAlongSteps, MeansByReadCells, ReadsCell}
use Rattle.ob_schema.proofs.Anys.{Any-on}
use Rattle.ob_schema.proofs.LookUps.{contains-first, contains-later}

-- a row that a value leads to is one that it names
among-contained : (target : RecId) (ids : List RecId) → IsAmong target ids → Contains ids target
among-contained target [] among = absurd among
among-contained target (id ∷ ids) (inl same) = subst (λ (x : RecId). Contains (id ∷ ids) x) (sym same) (contains-first id ids)
among-contained target (id ∷ ids) (inr later) = contains-later id ids target (among-contained target ids later)

led-named : (o : Option Value) (target : RecId) → LeadsTo o target → Contains (option_map_or targets_of o []) target
led-named (Some (value.Ref id)) target same = subst (λ (x : RecId). Contains (id ∷ []) x) (sym same) (contains-first id [])
led-named (Some (value.Refs ids)) target among = among-contained target ids among
led-named _ target leads = absurd leads

module _ (held : Cell → Option Value) where
  -- a cell along a path that is read is one along any steps that begin with its
  along-steps : (model : ModelNo) (id : RecId) (links : List Link) (field : FieldNo) (rest : List Step) (cell : Cell) → IsAlongPath held (row_at model id) links field cell
      → IsAlongSteps held id (steps_along model links field ++ rest) cell
  along-steps model id [] field rest cell is = inl is
  along-steps model id (link ∷ links) field rest cell (inl is) = inl is
  along-steps model id (link ∷ links) field rest cell (inr (target, leads, along)) =
      inr (target, led-named (held (cell_in (row_at model id) link.field)) target leads, along-steps link.target target links field rest cell along)

  -- one of the paths that a formula's declared ones cover
  along-any : (model : ModelNo) (id : RecId) (formula : Formula) (routes : List Route) → All (λ route. Any (λ path. BeginsWith path.steps (steps_of_route model route)) formula.depends) routes
      → (cell : Cell) → IsAlongAny held (row_at model id) routes cell → ReadsCell held formula id cell
  along-any model id formula [] covered cell along = absurd along
  along-any model id formula (route ∷ routes) covered cell (inl along) =
      let Covers : Route → Type 0 = λ route. Any (λ path. BeginsWith path.steps (steps_of_route model route)) formula.depends in
      Any-on (λ (path : Path). BeginsWith path.steps (steps_of_route model route)) (λ path. IsAlongSteps held id path.steps cell) formula.depends
      (λ path begins. subst (λ (steps : List Step). IsAlongSteps held id steps cell) (sym begins.1) (along-steps model id route.links route.field begins.0 cell along))
      (All-head Covers route routes covered)
  along-any model id formula (route ∷ routes) covered cell (inr later) =
      let Covers : Route → Type 0 = λ route. Any (λ path. BeginsWith path.steps (steps_of_route model route)) formula.depends in
      along-any model id formula routes (All-tail Covers route routes covered) cell later

-- so what it means depends on the cells along those alone
pub means-by-read : (models : List ModelInfo) (model : ModelNo) (field : FieldInfo) (formula : Formula) → IsFormulaIn models model field formula → MeansByReadCells model formula
means-by-read models model field formula right held other id same =
    let tree = typed_tree_of formula.typed in
    same_meaning held other (row_at model id) tree (λ cell along. same cell (along-any held model id formula (paths_of tree) right.covered cell along))
