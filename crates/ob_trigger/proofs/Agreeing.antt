-- Cells that no edited cell can reach have the same value before a change and behind it, at each number of steps of the definition.
use Rattle.std.proofs.Common.{◌≡◌, ◌≢◌, ◌⊎◌, inl, inr, ℕ, zero, suc, ◌≤◌, length, Bool, true, false, cond, List, [], ◌∷◌, ◌++◌, Option, Some, None, Result, Ok, Err, refl, sym, ap, subst, ◌∙◌}
use Rattle.std.specs.Prelude.{All, Any, Contains, IsSome}
use Rattle.std.specs.Option.{option_map_or}
use Rattle.std.specs.Ordering.{is_eq}
use Rattle.std.specs.Result.{result_ok}
use Rattle.std.specs.Cmp.{tied_itself}
use Rattle.std.proofs.lemmas.List.Elements.{All-contains, All-head, All-tail}
use Rattle.std.proofs.lemmas.Map.Views.{tells_apart}
use Rattle.ob_base.specs.Limits.{max_path_steps}
use Rattle.ob_base.specs.ValueOrder.{value_order}
use Rattle.ob_base.specs.declared.id.Cell.{Cell}
use Rattle.ob_base.specs.declared.id.FieldNo.{FieldNo}
use Rattle.ob_base.specs.declared.id.ModelNo.{ModelNo}
use Rattle.ob_base.specs.declared.id.RecId.{RecId}
use Rattle.ob_base.specs.declared.value.Value.{Value}
use Rattle.ob_base.specs.declared.value.Value.TheVariants as value
use Rattle.ob_base.proofs.CallerLemmas.{value_order_exact, value_order_total}
use Rattle.ob_definition.specs.declared.field_type.FieldType.{FieldType}
use Rattle.ob_expr.specs.declared.typed.Link.{Link}
use Rattle.ob_expr.specs.Computing.{Lack, overflow, too_long, zero_divisor, unread}
use Rattle.ob_expr.specs.Meaning.{cell_in, meaning, row_at as place_at, row_of, value_at}
use Rattle.ob_expr.specs.Reads.{IsAlongAny, IsAlongPath, IsAmong, LacksAlongPaths, LeadsTo}
use Rattle.ob_expr.specs.Route.{Route}
use Rattle.ob_expr.specs.TypedTree.{TypedTree, paths_of, typed_tree_of}
use Rattle.ob_schema.specs.declared.info.FieldInfo.{FieldInfo}
use Rattle.ob_schema.specs.declared.info.Formula.{Formula}
use Rattle.ob_schema.specs.declared.info.ModelInfo.{ModelInfo}
use Rattle.ob_schema.specs.declared.info.Origin.{Origin}
use Rattle.ob_schema.specs.declared.info.Origin.TheVariants as origin
use Rattle.ob_schema.specs.declared.info.Path.{Path}
use Rattle.ob_schema.specs.declared.info.Step.{Step}
use Rattle.ob_schema.specs.Limited.{is_short, limited, text_limit}
use Rattle.ob_schema.specs.Links.{Sides}
use Rattle.ob_schema.specs.Models.{AreSteps, FieldHas, IsComputedBy, IsRegistry, LeadsOn, MayEnd, field_at, is_delegated_from}
use Rattle.ob_schema.specs.Paths.{BeginsWith, steps_along, steps_of_route}
use Rattle.ob_schema.specs.Plain.{plain_at, targets_of}
use Rattle.ob_schema.specs.ReadCells.{IsAlongSteps, MeansByReadCells, ReadsCell, cell_at, targets_at}
use Rattle.ob_schema.specs.Tables.{PlainRow, Tables, row_at}
use Rattle.ob_schema.specs.Tied.{IsTied}
use Rattle.ob_schema.specs.Val.{formula_value, or_inherited, value_by, value_from, value_in}
use Rattle.ob_schema.proofs.CallerLemmas.{contains-first, contains-later, contains-none}
use Rattle.ob_trigger.specs.Affected.{ReadsIn, cell_step}
use Rattle.ob_trigger.proofs.Known.{Field-at, Formula-at, is_there, plain_is, some_or_none, tell_and, told_and}
use Rattle.ob_trigger.proofs.Lists.{any_on, any_one, any_is}
use Rattle.ob_trigger.proofs.Reading.{computed_at}
use Rattle.ob_trigger.proofs.RowsThere.{step_there}

-- ---- values are one or two

pub same_value : (a b : Value) → (a ≡ b) ⊎ (a ≢ b)
same_value a b = by (is_eq (value_order a b)) refl
  where
    by : (r : Bool) → is_eq (value_order a b) ≡ r → (a ≡ b) ⊎ (a ≢ b)
    by true is = inl (tells_apart value_order_exact a b is)
    by false is = inr (λ same. let both : true ≡ false = sym (ap (λ (v : Value). is_eq (value_order a v)) (sym same) ∙ ap is_eq (tied_itself value_order_total a)) ∙ is in cc)

-- values that may be there are one if they aren't two
pub same_unless : (a b : Option Value) → (a ≢ b → ⊥) → a ≡ b
same_unless None None not = refl
same_unless None (Some v) not = absurd (not (λ is. cc))
same_unless (Some v) None not = absurd (not (λ is. cc))
same_unless (Some v) (Some w) not = elim (same_value v w) [
  | inl is ↦ ap Some is
  | inr apart ↦ absurd (not (λ is. apart (some_same v w is)))
]
  where
    some_same : (v w : Value) → Some v ≡ Some w → v ≡ w
    some_same v w is = cc

-- ---- a cell along a path that a formula's expression reads is one along a declared path

among-contained : (target : RecId) (ids : List RecId) → IsAmong target ids → Contains ids target
among-contained target [] among = absurd among
among-contained target (id ∷ ids) (inl same) = subst (λ (x : RecId). Contains (id ∷ ids) x) (sym same) (contains-first id ids)
among-contained target (id ∷ ids) (inr later) = contains-later id ids target (among-contained target ids later)

led-named : (o : Option Value) (target : RecId) → LeadsTo o target → Contains (option_map_or targets_of o []) target
led-named (Some (value.Ref id)) target same = subst (λ (x : RecId). Contains (id ∷ []) x) (sym same) (contains-first id [])
led-named (Some (value.Refs ids)) target among = among-contained target ids among
led-named _ target leads = absurd leads

module _ (held : Cell → Option Value) where
  along-steps : (model : ModelNo) (id : RecId) (links : List Link) (field : FieldNo) (rest : List Step) (cell : Cell) → IsAlongPath held (place_at model id) links field cell
      → IsAlongSteps held id (steps_along model links field ++ rest) cell
  along-steps model id [] field rest cell is = inl is
  along-steps model id (link ∷ links) field rest cell (inl is) = inl is
  along-steps model id (link ∷ links) field rest cell (inr (target, leads, along)) =
      inr (target, led-named (held (cell_in (place_at model id) link.field)) target leads, along-steps link.target target links field rest cell along)

  along-any : (model : ModelNo) (id : RecId) (formula : Formula) (routes : List Route) → All (λ route. Any (λ path. BeginsWith path.steps (steps_of_route model route)) formula.depends) routes
      → (cell : Cell) → IsAlongAny held (place_at model id) routes cell → ReadsCell held formula id cell
  along-any model id formula [] covered cell along = absurd along
  along-any model id formula (route ∷ routes) covered cell (inl along) =
      let Covers : Route → Type 0 = λ route. Any (λ path. BeginsWith path.steps (steps_of_route model route)) formula.depends in
      any_on (λ (path : Path). BeginsWith path.steps (steps_of_route model route)) (λ path. IsAlongSteps held id path.steps cell) formula.depends
      (λ path begins. subst (λ (steps : List Step). IsAlongSteps held id steps cell) (sym begins.1) (along-steps model id route.links route.field begins.0 cell along))
      (All-head Covers route routes covered)
  along-any model id formula (route ∷ routes) covered cell (inr later) =
      let Covers : Route → Type 0 = λ route. Any (λ path. BeginsWith path.steps (steps_of_route model route)) formula.depends in
      along-any model id formula routes (All-tail Covers route routes covered) cell later

-- ---- values from scratch, a step at a time

-- what cells hold, by what they have
abbrev pub held_by : (Cell → Result Value Lack) → Cell → Option Value
held_by f cell = result_ok (f cell)

held-value_at : (cell : Cell) (o : Option Value) → result_ok (value_at cell o) ≡ o
held-value_at cell None = refl
held-value_at cell (Some v) = refl

-- what a cell inherits is the same where the cell that it lacks has the same
inherit_same : (f g : Cell → Result Value Lack) (m : Result Value Lack) → ((d : Cell) → m ≡ Err (unread d) → f d ≡ g d) → or_inherited f m ≡ or_inherited g m
inherit_same f g (Ok v) same = refl
inherit_same f g (Err overflow) same = refl
inherit_same f g (Err too_long) same = refl
inherit_same f g (Err zero_divisor) same = refl
inherit_same f g (Err (unread d)) same = same d refl

-- a value that is too long is no unread cell
limited_unread : (t : FieldType) (m : Result Value Lack) (d : Cell) → limited t m ≡ Err (unread d) → m ≡ Err (unread d)
limited_unread t (Ok v) d is = absurd (by (is_short (text_limit t) v) is)
  where
    by : (b : Bool) → cond b (Ok v) (Err too_long) ≡ Err (unread d) → ⊥
    by true is = cc
    by false is = cc
limited_unread t (Err lack) d is = is

module _ (models : List ModelInfo) (tables : Tables) where
  -- one step, by where its row and its field are
  value_there : (f : Cell → Result Value Lack) (c : Cell) (row : PlainRow) (info : FieldInfo) (o : Origin) → row_at tables c.model c.id ≡ Some row → field_at models c.model c.field ≡ Some info → info.origin ≡ o
      → value_by models tables f c ≡ value_from models tables f o info c
  value_there f c row info o there at from =
      ap (λ (r : Option PlainRow). option_map_or (λ _. option_map_or (λ i. value_from models tables f i.origin i c) (field_at models c.model c.field) (Err (unread c))) r (Err (unread c))) there
      ∙ ap (λ (i : Option FieldInfo). option_map_or (λ i. value_from models tables f i.origin i c) i (Err (unread c))) at ∙ ap (λ (p : Origin). value_from models tables f p info c) from

  value_absent : (f : Cell → Result Value Lack) (c : Cell) → row_at tables c.model c.id ≡ None → value_by models tables f c ≡ Err (unread c)
  value_absent f c none =
      ap (λ (r : Option PlainRow). option_map_or (λ _. option_map_or (λ i. value_from models tables f i.origin i c) (field_at models c.model c.field) (Err (unread c))) r (Err (unread c))) none

  -- what a plain cell holds at so many steps names no more than its value does
  held-plain : (n : ℕ) (c : Cell) (f : FieldInfo) → field_at models c.model c.field ≡ Some f → f.origin ≡ origin.Plain → (target : RecId)
      → Contains (targets_at (held_by (value_in models tables n)) c) target → Contains (targets_at (plain_at tables models) c) target
  held-plain zero c f at from target among = absurd (contains-none target among)
  held-plain (suc n) c f at from target among = elim (some_or_none (row_at tables c.model c.id)) [
    | inl none ↦ absurd (contains-none target
        (subst (λ (r : Result Value Lack). Contains (option_map_or targets_of (result_ok r) []) target) (value_absent (value_in models tables n) c none) among))
    | inr some ↦ (let is = value_there (value_in models tables n) c some.0 f origin.Plain some.1 at from in
        let held : held_by (value_in models tables (suc n)) c ≡ plain_at tables models c = ap (λ (r : Result Value Lack). result_ok r) is ∙ held-value_at c (plain_at tables models c) in
        subst (λ (o : Option Value). Contains (option_map_or targets_of o []) target) held among)
  ]

-- ---- before and behind

module _ (models : List ModelInfo) (registry : IsRegistry models) (sides : Sides) (tied_before : IsTied models sides.before) (tied_behind : IsTied models sides.behind)
    (Untouched : Cell → Type 0) (plain_same : (cell : Cell) → Untouched cell → plain_at sides.before models cell ≡ plain_at sides.behind models cell)
    (reads_untouched : (cell other : Cell) → Untouched cell → ReadsIn models sides.before cell other → Untouched other) where
  -- its row is there on both sides
  abbrev pub IsInBoth : Cell → Type 0
  IsInBoth cell = IsSome (row_at sides.before cell.model cell.id) × IsSome (row_at sides.behind cell.model cell.id)

  -- the row itself has the value, or a formula gives it
  abbrev pub IsOwn : Cell → Type 0
  IsOwn cell = FieldHas models (λ field. is_delegated_from field.origin ≡ false) cell.model cell.field

  -- a cell that is in both, its own and untouched
  abbrev Kept : Cell → Type 0
  Kept cell = IsInBoth cell × IsOwn cell × Untouched cell

  module _ (n : ℕ) where
    abbrev first : Cell → Result Value Lack
    first = value_in models sides.before n

    abbrev second : Cell → Result Value Lack
    second = value_in models sides.behind n

    -- a plain field isn't delegated
    plain_own : (target model : ModelNo) (field : FieldNo) → FieldHas models (LeadsOn target) model field → FieldHas models (λ f. is_delegated_from f.origin ≡ false) model field
    plain_own target model field has =
        let t = told_and (field_at models model field) (LeadsOn target) has in
        tell_and (field_at models model field) t.0 (λ f. is_delegated_from f.origin ≡ false) t.1 (ap (λ (o : Origin). is_delegated_from o) (plain_is t.0.origin t.2.plain))

    -- a cell along steps from a row that is on both sides is kept, where all along them are untouched
    along-kept : (model : ModelNo) (id : RecId) (steps : List Step) (d : Cell) → AreSteps models model steps → IsSome (row_at sides.before model id) → IsSome (row_at sides.behind model id)
        → ((e : Cell) → IsAlongSteps (plain_at sides.before models) id steps e → Untouched e) → IsAlongSteps (held_by first) id steps d → Kept d
    along-kept model id [] d are old new free along = absurd are
    along-kept model id (step ∷ []) d are old new free (inl is) =
        let end = told_and (field_at models step.model step.field) MayEnd are.1 in
        let own : FieldHas models (λ f. is_delegated_from f.origin ≡ false) step.model step.field = tell_and (field_at models step.model step.field) end.0 (λ f. is_delegated_from f.origin ≡ false) end.1 end.2.1 in
        subst Kept (sym is)
        ((subst (λ (m : ModelNo). IsSome (row_at sides.before m id)) (sym are.0) old, subst (λ (m : ModelNo). IsSome (row_at sides.behind m id)) (sym are.0) new), own, free (cell_at step id) (inl refl))
    along-kept model id (step ∷ []) d are old new free (inr on) = absurd on.2
    along-kept model id (step ∷ next ∷ steps) d are old new free (inl is) =
        subst Kept (sym is) (
          (subst (λ (m : ModelNo). IsSome (row_at sides.before m id)) (sym are.0) old, subst (λ (m : ModelNo). IsSome (row_at sides.behind m id)) (sym are.0) new),
          plain_own next.model step.model step.field are.1,
          free (cell_at step id) (inl refl),
        )
    along-kept model id (step ∷ next ∷ steps) d are old new free (inr (target, leads, on)) =
        let t = told_and (field_at models step.model step.field) (LeadsOn next.model) are.1 in
        let from = plain_is t.0.origin t.2.plain in
        let c = cell_at step id in
        let named = held-plain models sides.before n c t.0 t.1 from target leads in
        let named_behind = subst (λ (o : Option Value). Contains (option_map_or targets_of o []) target) (plain_same c (free c (inl refl))) named in
        let r = is_there (row_at sides.before step.model id) (subst (λ (m : ModelNo). IsSome (row_at sides.before m id)) (sym are.0) old) in
        let s = is_there (row_at sides.behind step.model id) (subst (λ (m : ModelNo). IsSome (row_at sides.behind m id)) (sym are.0) new) in
        along-kept next.model target (next ∷ steps) d are.2
        (step_there models sides.before registry tied_before c r.0 t.0 next.model target r.1 t.1 from t.2.leads named)
        (step_there models sides.behind registry tied_behind c s.0 t.0 next.model target s.1 t.1 from t.2.leads named_behind)
        (λ e along. free e (inr (target, named, along))) on

    module _ (laws : (tree : TypedTree) → LacksAlongPaths tree) (means : (at : Step) (formula : Formula) → IsComputedBy models at formula → MeansByReadCells at.model formula)
        (again : (cell : Cell) → Kept cell → first cell ≡ second cell) where
      -- the value of a computed cell by the values of the others
      computed-same : (cell : Cell) (formula : Formula) (info : FieldInfo) → IsComputedBy models (cell_step cell) formula → IsInBoth cell → Untouched cell
          → or_inherited first (formula_value first formula info cell) ≡ or_inherited second (formula_value second formula info cell)
      computed-same cell formula info computed there free =
          let tree = typed_tree_of formula.typed in
          let at = computed_at models registry (cell_step cell) formula computed in
          let right = Formula-at models cell.model cell.field at.field formula (Field-at models cell.model cell.field at.field registry at.is) at.from in
          let reads : (d : Cell) → ReadsCell (held_by first) formula cell.id d → Kept d = λ d reads. (
          let one = any_one (λ (path : Path). IsAlongSteps (held_by first) cell.id path.steps d) formula.depends reads in
          along-kept cell.model cell.id one.0.steps d (All-contains (λ (path : Path). AreSteps models cell.model path.steps × (length path.steps ≤ max_path_steps)) formula.depends one.0 right.steps one.1).0 there.0 there.1
          (λ e along. reads_untouched cell e free (formula, computed, any_is (λ (path : Path). IsAlongSteps (plain_at sides.before models) cell.id path.steps e) formula.depends one.0 one.1 along)) one.2) in
          let meant : meaning (held_by second) (row_of cell) tree ≡ meaning (held_by first) (row_of cell) tree =
          means (cell_step cell) formula computed (held_by first) (held_by second) cell.id (λ d read. ap (λ (r : Result Value Lack). result_ok r) (sym (again d (reads d read)))) in
          let valued : formula_value second formula info cell ≡ formula_value first formula info cell = ap (limited info.field_type) meant in
          let inherited : or_inherited first (formula_value first formula info cell) ≡ or_inherited second (formula_value first formula info cell) =
          inherit_same first second (formula_value first formula info cell) (λ d is.
          let lacks = laws tree (held_by first) (row_of cell) d (limited_unread info.field_type (meaning (held_by first) (row_of cell) tree) d is) in
          again d (reads d (along-any (held_by first) cell.model cell.id formula (paths_of tree) right.covered d lacks.0))) in
          inherited ∙ ap (or_inherited second) (sym valued)

      -- and of each
      step-same : (cell : Cell) → Kept cell → value_in models sides.before (suc n) cell ≡ value_in models sides.behind (suc n) cell
      step-same cell kept =
          let r = is_there (row_at sides.before cell.model cell.id) kept.0.0 in
          let s = is_there (row_at sides.behind cell.model cell.id) kept.0.1 in
          let t = told_and (field_at models cell.model cell.field) (λ field. is_delegated_from field.origin ≡ false) kept.1 in
          by r.0 s.0 t.0 r.1 s.1 t.1 t.2 t.0.origin refl
        where
          plain : value_at cell (plain_at sides.before models cell) ≡ value_at cell (plain_at sides.behind models cell)
          plain = ap (value_at cell) (plain_same cell kept.2)

          by : (old new : PlainRow) (f : FieldInfo) → row_at sides.before cell.model cell.id ≡ Some old → row_at sides.behind cell.model cell.id ≡ Some new → field_at models cell.model cell.field ≡ Some f
              → is_delegated_from f.origin ≡ false → (o : Origin) → f.origin ≡ o → value_in models sides.before (suc n) cell ≡ value_in models sides.behind (suc n) cell
          by old new f there here at own origin.Id from =
              value_there models sides.before first cell old f origin.Id there at from ∙ plain ∙ sym (value_there models sides.behind second cell new f origin.Id here at from)
          by old new f there here at own origin.Plain from =
              value_there models sides.before first cell old f origin.Plain there at from ∙ plain ∙ sym (value_there models sides.behind second cell new f origin.Plain here at from)
          by old new f there here at own (origin.Delegated to) from = absurd (let both : is_delegated_from (origin.Delegated to) ≡ false = sym (ap (λ (o : Origin). is_delegated_from o) from) ∙ own in cc)
          by old new f there here at own (origin.Computed formula) from =
              value_there models sides.before first cell old f (origin.Computed formula) there at from
              ∙ computed-same cell formula f (tell_and (field_at models cell.model cell.field) f (λ field. field.origin ≡ origin.Computed formula) at from) kept.0 kept.2
              ∙ sym (value_there models sides.behind second cell new f (origin.Computed formula) here at from)

  -- at each number of steps
  pub agree : ((tree : TypedTree) → LacksAlongPaths tree) → ((at : Step) (formula : Formula) → IsComputedBy models at formula → MeansByReadCells at.model formula)
      → (n : ℕ) (cell : Cell) → Kept cell → value_in models sides.before n cell ≡ value_in models sides.behind n cell
  agree laws means zero cell kept = refl
  agree laws means (suc n) cell kept = step-same n laws means (agree laws means n) cell kept
