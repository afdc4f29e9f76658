-- The values of an expression at the targets of a path.
use Rattle.std.proofs.Common.{◌≡◌, ℕ, ◌<◌, List, drop, get_or, length, Option, Result, Ok, IsOk, sym, ap, subst, ◌∙◌}
use Rattle.std.proofs.lemmas.List.{get_or_default}
use Rattle.ob_base.specs.declared.id.Cell.{Cell}
use Rattle.ob_base.specs.declared.id.ModelNo.{ModelNo}
use Rattle.ob_base.specs.declared.id.RecId.{RecId}
use Rattle.ob_base.specs.declared.value.Value.{Value}
use Rattle.ob_expr.specs.declared.fault.EvalFault.{EvalFault}
use Rattle.ob_expr.specs.declared.kind.Kind.{Kind}
use Rattle.ob_expr.specs.declared.row.Row.{Row}
use Rattle.ob_expr.specs.declared.typed.Aggregate.{Aggregate}
use Rattle.ob_expr.specs.Chain.{and_then, each}
use Rattle.ob_expr.specs.Computing.{Lack, gathered_value}
use Rattle.ob_expr.specs.Meaning.{ids_of, meaning, path_value, row_at}
use Rattle.ob_expr.specs.Outcome.{IsEvalFault}
use Rattle.ob_expr.specs.Reads.{EachInTurn, MayRead}
use Rattle.ob_expr.specs.Route.{Route}
use Rattle.ob_expr.specs.Told.{TellsRead, TellsValue}
use Rattle.ob_expr.specs.TypedTree.{TypedTree, kind_of, over}
use Rattle.ob_expr.proofs.Kept.{EachInTurn-map, MayRead-kept, MayRead-map}
use Rattle.ob_expr.proofs.Outcomes.{after_fault, in_turn, tells_read, then_fault}

-- at each target in its turn, the cells that an evaluation there comes to may be read
abbrev pub MayReadAt : (Cell → Option Value) → (Cell → Type 0) → ModelNo → TypedTree → List RecId → Type 0
MayReadAt held can_read model tree ids = EachInTurn (λ (id : RecId). IsOk (meaning held (row_at model id) tree)) (λ (id : RecId). MayRead held can_read (row_at model id) tree) ids

-- after reads, which change no cell
pub targets-kept : (held after : Cell → Option Value) (P Q : Cell → Type 0) (model : ModelNo) (tree there : TypedTree) (ids theirs : List RecId)
    → after ≡ held → ((c : Cell) → P c → Q c) → there ≡ tree → theirs ≡ ids → MayReadAt held P model tree ids → MayReadAt after Q model there theirs
targets-kept held after P Q model tree there ids theirs kept follows same these may =
    let here : MayReadAt held Q model tree ids =
    EachInTurn-map (λ (id : RecId). IsOk (meaning held (row_at model id) tree)) (λ (id : RecId). MayRead held P (row_at model id) tree)
    (λ (id : RecId). MayRead held Q (row_at model id) tree) ids (λ (id : RecId). MayRead-map held P Q follows (row_at model id) tree) may
    in
    subst (λ (xs : List RecId). MayReadAt after Q model there xs) (sym these)
    (subst (λ (x : TypedTree). MayReadAt after Q model x ids) (sym same)
    (subst (λ (h : Cell → Option Value). MayReadAt h Q model tree ids) (sym kept) here))

-- the target in its turn
pub target-kept : (held after : Cell → Option Value) (P Q : Cell → Type 0) (model : ModelNo) (tree : TypedTree) (ids : List RecId) (i : ℕ) (d : RecId)
    → after ≡ held → ((c : Cell) → P c → Q c) → i < length ids → MayReadAt held P model tree (drop i ids) → MayRead after Q (row_at model (get_or ids i d)) tree
target-kept held after P Q model tree ids i d kept follows lt may =
    MayRead-kept held after P Q (row_at model (get_or ids i d)) tree kept follows
    (in_turn (λ (id : RecId). IsOk (meaning held (row_at model id) tree)) (λ (id : RecId). MayRead held P (row_at model id) tree) ids i (get_or ids i d) lt
    (get_or_default ids i d (get_or ids i d) lt) may).0

module _ (held : Cell → Option Value) (row : Row) where
  -- the values at the targets, by what the cells hold after the path is read
  abbrev values_there : (Cell → Option Value) → ModelNo → TypedTree → List RecId → Result (List Value) Lack
  values_there after target tree ids = each (λ (id : RecId). meaning after (row_at target id) tree) ids

  same_there : (after : Cell → Option Value) (target : ModelNo) (inner there : TypedTree) (ids theirs : List RecId)
      → after ≡ held → there ≡ inner → theirs ≡ ids → values_there after target there theirs ≡ values_there held target inner ids
  same_there after target inner there ids theirs kept same these =
      ap (λ (h : Cell → Option Value). values_there h target there theirs) kept
      ∙ (ap (λ (x : TypedTree). values_there held target x theirs) same ∙ ap (λ (xs : List RecId). values_there held target inner xs) these)

  pub over-fault : {F : Type 0} (failed : F → Cell → Type 0) (aggregate : Aggregate) (route : Route) (target : ModelNo) (inner there : TypedTree) (targets : Value) (theirs : List RecId)
      (after : Cell → Option Value) (fault : EvalFault F) → after ≡ held → there ≡ inner → theirs ≡ ids_of targets → path_value held row route ≡ Ok targets
      → IsEvalFault failed after (each (λ (id : RecId). meaning after (row_at target id) there) theirs) fault → IsEvalFault failed held (meaning held row (over aggregate route target inner)) fault
  over-fault failed aggregate route target inner there targets theirs after fault kept same these is told =
      let here : IsEvalFault failed held (values_there held target inner (ids_of targets)) fault =
      subst (λ (m : Result (List Value) Lack). IsEvalFault failed held m fault) (same_there after target inner there (ids_of targets) theirs kept same these)
      (subst (λ (h : Cell → Option Value). IsEvalFault failed h (values_there after target there theirs) fault) kept told)
      in
      after_fault failed held (path_value held row route) (λ (vs : Value). and_then (values_there held target inner (ids_of vs)) (gathered_value aggregate (kind_of inner))) targets fault is
      (then_fault failed held (values_there held target inner (ids_of targets)) (gathered_value aggregate (kind_of inner)) fault here)

  pub over-tells : {F : Type 0} (failed : F → Cell → Type 0) (aggregate : Aggregate) (route : Route) (target : ModelNo) (inner there : TypedTree) (targets : Value) (theirs : List RecId)
      (after : Cell → Option Value) (k : Kind) (values : List Value) (answer : Result Value (EvalFault F))
      → after ≡ held → there ≡ inner → theirs ≡ ids_of targets → k ≡ kind_of inner → path_value held row route ≡ Ok targets
      → each (λ (id : RecId). meaning after (row_at target id) there) theirs ≡ Ok values → TellsValue answer (gathered_value aggregate k values)
      → TellsRead failed held (λ (v : Value). v) answer (meaning held row (over aggregate route target inner))
  over-tells failed aggregate route target inner there targets theirs after k values answer kept same these kind is all told =
      let here : values_there held target inner (ids_of targets) ≡ Ok values = sym (same_there after target inner there (ids_of targets) theirs kept same these) ∙ all in
      let meant : meaning held row (over aggregate route target inner) ≡ gathered_value aggregate (kind_of inner) values =
      ap (λ (m : Result Value Lack). and_then m (λ (vs : Value). and_then (values_there held target inner (ids_of vs)) (gathered_value aggregate (kind_of inner)))) is
      ∙ ap (λ (m : Result (List Value) Lack). and_then m (gathered_value aggregate (kind_of inner))) here
      in
      let made : TellsValue answer (gathered_value aggregate (kind_of inner) values) = subst (λ (x : Kind). TellsValue answer (gathered_value aggregate x values)) kind told in
      subst (λ (m : Result Value Lack). TellsRead failed held (λ (v : Value). v) answer m) (sym meant) (tells_read failed held answer (gathered_value aggregate (kind_of inner) values) made)
