-- A formula that has no value though all has one that it reads fails by itself.
use Rattle.std.proofs.Common.{◌≡◌, ◌<◌, ◌+◌, inl, inr, ℕ, Bool, true, false, List, [], ◌∷◌, length, get_or, Option, Some, Result, Ok, Err, refl, sym, ap, subst, ◌∙◌, arith}
use Rattle.std.specs.Prelude.{All, Contains, IsSome, IsSomeAnd, if◌then◌else◌}
use Rattle.std.specs.List.{AllWithin}
use Rattle.std.specs.Result.{result_ok}
use Rattle.std.proofs.lemmas.List.{get_or_default}
use Rattle.std.proofs.lemmas.List.Elements.{All-contains, AllWithin-more}
use Rattle.ob_base.specs.declared.id.Cell.{Cell}
use Rattle.ob_base.specs.declared.id.FieldNo.{FieldNo}
use Rattle.ob_base.specs.declared.id.RecId.{RecId}
use Rattle.ob_base.specs.declared.value.Value.{Value}
use Rattle.ob_base.specs.declared.value.Value.TheVariants as value
use Rattle.ob_definition.specs.declared.field_type.FieldType.{FieldType}
use Rattle.ob_expr.specs.Computing.{Lack, overflow, too_long, zero_divisor, unread}
use Rattle.ob_expr.specs.Meaning.{cell_in, meaning, row_at as place_at, row_of}
use Rattle.ob_expr.specs.Reads.{IsAlongAny, IsAlongPath, IsAmong, LacksAlongPaths, LeadsTo}
use Rattle.ob_expr.specs.Route.{Route}
use Rattle.ob_expr.specs.TypedTree.{typed_tree_of}
use Rattle.ob_expr.specs.declared.row.Row.{Row}
use Rattle.ob_expr.specs.declared.typed.Link.{Link}
use Rattle.ob_schema.proofs.CallerLemmas.{contains-first, contains-later}
use Rattle.ob_schema.specs.Broken.{FailsItself}
use Rattle.ob_schema.specs.Limited.{is_short, limited, text_limit}
use Rattle.ob_schema.specs.Models.{field_at}
use Rattle.ob_schema.specs.Plain.{targets_of}
use Rattle.ob_schema.specs.Tables.{Tables, row_at}
use Rattle.ob_schema.specs.Val.{IsVal, formula_value, or_inherited, val}
use Rattle.ob_schema.specs.declared.info.FieldInfo.{FieldInfo}
use Rattle.ob_schema.specs.declared.info.Formula.{Formula}
use Rattle.ob_schema.specs.declared.info.ModelInfo.{ModelInfo}
use Rattle.ob_schema.specs.declared.info.Origin.TheVariants as origin
use Rattle.ob_tables.proofs.CallerLemmas.{is_there, not_there, tell_and, told_and, value_there}
use Rattle.ob_tables.specs.Faults.{HasNoValue}
use Rattle.ob_tables.specs.declared.fault.ScratchFault.{ScratchFault}
use Rattle.ob_tables.specs.declared.fault.ScratchFault.TheVariants as scratch
use Rattle.ob_cache.specs.Failing.{HasAlong, HasRead, TellsStep, held_in, step_by}

-- the rows to which a value leads are its targets
among-listed : (id : RecId) (ids : List RecId) → IsAmong id ids → Contains ids id
among-listed id [] one = absurd one
among-listed id (first ∷ ids) (inl same) = subst (λ (x : RecId). Contains (first ∷ ids) x) (sym same) (contains-first first ids)
among-listed id (first ∷ ids) (inr later) = contains-later first ids id (among-listed id ids later)

leads-listed : (v : Value) (id : RecId) → LeadsTo (Some v) id → Contains (targets_of v) id
leads-listed (value.Ref other) id leads = subst (λ (x : RecId). Contains (other ∷ []) x) (sym leads) (contains-first other [])
leads-listed (value.Refs ids) id leads = among-listed id ids leads
leads-listed value.Nil id leads = absurd leads
leads-listed (value.Bool b) id leads = absurd leads
leads-listed (value.Int n) id leads = absurd leads
leads-listed (value.Word text) id leads = absurd leads
leads-listed (value.Day n) id leads = absurd leads
leads-listed (value.Moment n) id leads = absurd leads

some_is : {X : Type 0} (o : Option X) (x : X) → o ≡ Some x → IsSome o
some_is o x is = subst IsSome (sym is) refl

module _ (models : List ModelInfo) (tables : Tables) where
  value_held : (cell : Cell) (v : Value) → val models tables cell ≡ Ok v → held_in models tables cell ≡ Some v
  value_held cell v is = ap result_ok is

  -- at the end of a path
  pub end-along : (row : Row) (field : FieldNo) (v : Value) → val models tables (cell_in row field) ≡ Ok v → HasAlong models tables row [] field
  end-along row field v is cell same = subst (λ (c : Cell). IsSome (held_in models tables c)) (sym same) (some_is (held_in models tables (cell_in row field)) v (value_held (cell_in row field) v is))

  -- behind a link whose cell has a value, from each of its targets
  abbrev pub FromTarget : Link → List Link → FieldNo → RecId → Type 0
  FromTarget link rest field id = HasAlong models tables (place_at link.target id) rest field

  pub link-along : (row : Row) (link : Link) (rest : List Link) (field : FieldNo) (v : Value) → val models tables (cell_in row link.field) ≡ Ok v → All (FromTarget link rest field) (targets_of v)
      → HasAlong models tables row (link ∷ rest) field
  link-along row link rest field v is all cell (inl same) =
      subst (λ (c : Cell). IsSome (held_in models tables c)) (sym same) (some_is (held_in models tables (cell_in row link.field)) v (value_held (cell_in row link.field) v is))
  link-along row link rest field v is all cell (inr (id, leads, on)) =
      let listed = leads-listed v id (subst (λ (o : Option Value). LeadsTo o id) (value_held (cell_in row link.field) v is) leads) in
      All-contains (FromTarget link rest field) (targets_of v) id all listed cell on

  -- along all paths
  abbrev pub OnRoute : Row → Route → Type 0
  OnRoute row route = HasAlong models tables row route.links route.field

  pub routes-along : (row : Row) (routes : List Route) → All (OnRoute row) routes → (cell : Cell) → IsAlongAny (held_in models tables) row routes cell → IsSome (held_in models tables cell)
  routes-along row routes all cell along = let any = some_route row routes cell along in All-contains (OnRoute row) routes any.0 all any.1 cell any.2
    where
      some_route : (row : Row) (routes : List Route) (cell : Cell) → IsAlongAny (held_in models tables) row routes cell
          → (route : Route) × Contains routes route × IsAlongPath (held_in models tables) row route.links route.field cell
      some_route row [] cell along = absurd along
      some_route row (route ∷ routes) cell (inl on) = (route, contains-first route routes, on)
      some_route row (route ∷ routes) cell (inr later) = let rest = some_route row routes cell later in (rest.0, contains-later route routes rest.0 rest.1, rest.2)

  -- a cell whose formula reads no cell in vain lacks what the formula itself lacks
  module _ (cell : Cell) (formula : Formula) (read : HasRead models tables formula cell) (lacks : LacksAlongPaths (typed_tree_of formula.typed)) where
    limited_lacks : (t : FieldType) (m : Result Value Lack) (other : Cell) → limited t m ≡ Err (unread other) → m ≡ Err (unread other)
    limited_lacks t (Err lack) other is = is
    limited_lacks t (Ok v) other is = by (is_short (text_limit t) v) is
      where
        by : (short : Bool) → (if short then Ok v else Err too_long) ≡ Err (unread other) → Ok v ≡ Err (unread other)
        by true is = is
        by false is = absurd cc

    never_unread : (info : FieldInfo) (other : Cell) → formula_value (val models tables) formula info cell ≡ Err (unread other) → ⊥
    unfolding HasRead
    never_unread info other is =
        let meant = limited_lacks info.field_type (meaning (held_in models tables) (row_of cell) (typed_tree_of formula.typed)) other is in
        let along = lacks (held_in models tables) (row_of cell) other meant in
        not_there (held_in models tables other) along.1 (read other along.0)

    own_lack : (m : Result Value Lack) (why : Lack) → ((other : Cell) → m ≡ Err (unread other) → ⊥) → or_inherited (val models tables) m ≡ Err why → m ≡ Err why
    own_lack (Ok v) why none is = is
    own_lack (Err overflow) why none is = is
    own_lack (Err too_long) why none is = is
    own_lack (Err zero_divisor) why none is = is
    own_lack (Err (unread other)) why none is = absurd (none other refl)

    -- it fails by itself
    pub fails-itself : IsVal models tables (val models tables) → IsSomeAnd (field_at models cell.model cell.field) (λ info. info.origin ≡ origin.Computed formula) → IsSome (row_at tables cell.model cell.id)
        → (why : Lack) → val models tables cell ≡ Err why → FailsItself models tables why cell
    fails-itself law computed there why is =
        let f = told_and (field_at models cell.model cell.field) (λ (info : FieldInfo). info.origin ≡ origin.Computed formula) computed in
        let row = is_there (row_at tables cell.model cell.id) there in
        let meant = sym (law cell ∙ value_there models tables (val models tables) cell row.0 f.0 (origin.Computed formula) row.1 f.1 f.2) ∙ is in (
          there,
          tell_and (field_at models cell.model cell.field) f.0 (λ (info : FieldInfo). (given : Formula) × (info.origin ≡ origin.Computed given) × (formula_value (val models tables) given info cell ≡ Err why)) f.1
              (formula, f.2, own_lack (formula_value (val models tables) formula f.0 cell) why (never_unread f.0) meant),
        )

-- what a cell lacks by its own doing tells why
pub own-step : (models : List ModelInfo) (tables : Tables) (cell : Cell) → ((why : Lack) → val models tables cell ≡ Err why → FailsItself models tables why cell)
    → (fault : ScratchFault) → HasNoValue models tables cell fault → TellsStep models tables cell (step_by fault)
own-step models tables cell fails scratch.Missing lacks = tt
own-step models tables cell fails scratch.Overflow lacks = fails overflow lacks
own-step models tables cell fails scratch.TooLong lacks = fails too_long lacks
own-step models tables cell fails scratch.ZeroDivisor lacks = fails zero_divisor lacks
own-step models tables cell fails scratch.NoMemory lacks = tt

-- one more of a list
pub within-more : {X : Type 0} (P : X → Type 0) (xs : List X) (i : ℕ) (d : X) → i < length xs → AllWithin P xs 0 i → P (get_or xs i d) → AllWithin P xs 0 (i + 1)
within-more P xs i d low all one = AllWithin-more P xs 0 i all (λ e. subst P (get_or_default xs i d e low) one)

pub within-read : {X : Type 0} (P : X → Type 0) (xs : List X) (i : ℕ) (x : X) → i < length xs → x ≡ get_or xs i x → AllWithin P xs 0 i → P x → AllWithin P xs 0 (i + 1)
within-read P xs i x low is all one = AllWithin-more P xs 0 i all (λ e. subst P (is ∙ get_or_default xs i x e low) one)

-- a list of no length has nothing
pub no-links : (links : List Link) → length links ≡ 0 → links ≡ []
no-links [] none = refl
no-links (link ∷ links) none = absurd (omega (arith, none))
