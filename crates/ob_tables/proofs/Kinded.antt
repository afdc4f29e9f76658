-- What cells hold by outcomes is of the kinds of their fields.
use Rattle.std.proofs.Common.{◌≡◌, List, [], ◌∷◌, Option, Some, None, option_map, true, is_some, false, inl, inr, refl, sym, ap, subst, ◌∙◌}
use Rattle.std.specs.Prelude.{IfSome, IsSomeAnd, option_and_then, unwrap_or}
use Rattle.std.specs.Option.{option_or}
use Rattle.std.specs.FinMap as finite
use Rattle.std.specs.BTreeMap as tree
use Rattle.std.proofs.lemmas.Option.{same_Some}
use Rattle.ob_base.specs.BrokenOrder.{cell_order}
use Rattle.ob_base.specs.declared.id.Cell.{Cell}
use Rattle.ob_base.specs.declared.id.FieldNo.{FieldNo}
use Rattle.ob_base.specs.declared.id.ModelNo.{ModelNo}
use Rattle.ob_base.specs.declared.id.RecId.{RecId}
use Rattle.ob_base.specs.declared.value.Value.{Value}
use Rattle.ob_base.specs.declared.value.Value.TheVariants as value
use Rattle.ob_definition.specs.Keys.{is_many2many}
use Rattle.ob_definition.specs.Types.{is_one2many}
use Rattle.ob_definition.specs.declared.field_type.FieldType.{FieldType}
use Rattle.ob_definition.specs.declared.field_type.FieldType.TheVariants as type
use Rattle.ob_expr.specs.declared.kind.Kind.{Kind}
use Rattle.ob_expr.specs.declared.kind.Kind.TheVariants as kind
use Rattle.ob_expr.specs.declared.typed.Link.{Link}
use Rattle.ob_expr.specs.Kinds.{HasKind}
use Rattle.ob_expr.specs.Meaning.{cell_in, row_at as place_at}
use Rattle.ob_expr.specs.Reads.{PathHolds}
use Rattle.ob_expr.specs.Route.{Route}
use Rattle.ob_expr.specs.TypedTree.{TypedTree, TypedTrees, no_trees, one_more, row_id, integer, a_text, truth, unset, path, prefix, binary, chosen, choice, joined, digits, over, EachPath, EachPathOfAll}
use Rattle.ob_schema.specs.Fields.{has_value_of}
use Rattle.ob_schema.specs.Finds.{kind_of_type}
use Rattle.ob_schema.specs.Models.{IsByRefs, IsOriginIn, IsRefTo, IsRegistry, field_at, kind_of_info}
use Rattle.ob_schema.specs.declared.info.FieldInfo.{FieldInfo}
use Rattle.ob_schema.specs.declared.info.ModelInfo.{ModelInfo}
use Rattle.ob_schema.specs.declared.info.Origin.{Origin}
use Rattle.ob_schema.specs.declared.info.Origin.TheVariants as origin
use Rattle.ob_schema.specs.Fields.{IsGivable}
use Rattle.ob_schema.specs.Plain.{id_value, plain_at, plain_by, plain_from}
use Rattle.ob_tables.specs.Settling.{AreOutcomes, IsFormulaOutcome, IsOutcomeOf, held_in, held_or}
use Rattle.ob_schema.specs.Tables.{Fits, PlainRow, Tables, kept_at, kept_in, row_at}
use Rattle.ob_tables.specs.declared.outcome.Outcome.{Outcome}
use Rattle.ob_tables.specs.declared.outcome.Outcome.TheVariants as outcome
use Rattle.ob_tables.proofs.KnownFields.{Field-at, is_there, known_at, known_if, some_or_none, there_is, told_and}
use Rattle.ob_tables.proofs.Sources.{has-kept}

-- ---- values that rows keep

boolean-kind : (f : FieldInfo) (v : Value) → IsGivable (record f { field_type = type.Boolean }) v → HasKind kind.Bool v
boolean-kind f value.Nil g = absurd g
boolean-kind f (value.Bool b) g = tt
boolean-kind f (value.Int n) g = absurd g
boolean-kind f (value.Word text) g = absurd g
boolean-kind f (value.Day n) g = absurd g
boolean-kind f (value.Moment n) g = absurd g
boolean-kind f (value.Ref id) g = absurd g
boolean-kind f (value.Refs ids) g = absurd g

integer-kind : (f : FieldInfo) (v : Value) → IsGivable (record f { field_type = type.Integer }) v → HasKind kind.Int v
integer-kind f value.Nil g = absurd g
integer-kind f (value.Bool b) g = absurd g
integer-kind f (value.Int n) g = tt
integer-kind f (value.Word text) g = absurd g
integer-kind f (value.Day n) g = absurd g
integer-kind f (value.Moment n) g = absurd g
integer-kind f (value.Ref id) g = absurd g
integer-kind f (value.Refs ids) g = absurd g

char-kind : (f : FieldInfo) (v : Value) → IsGivable (record f { field_type = type.Char }) v → HasKind kind.Word v
char-kind f value.Nil g = tt
char-kind f (value.Bool b) g = absurd g
char-kind f (value.Int n) g = absurd g
char-kind f (value.Word text) g = tt
char-kind f (value.Day n) g = absurd g
char-kind f (value.Moment n) g = absurd g
char-kind f (value.Ref id) g = absurd g
char-kind f (value.Refs ids) g = absurd g

text-kind : (f : FieldInfo) (v : Value) → IsGivable (record f { field_type = type.Text }) v → HasKind kind.Word v
text-kind f value.Nil g = tt
text-kind f (value.Bool b) g = absurd g
text-kind f (value.Int n) g = absurd g
text-kind f (value.Word text) g = tt
text-kind f (value.Day n) g = absurd g
text-kind f (value.Moment n) g = absurd g
text-kind f (value.Ref id) g = absurd g
text-kind f (value.Refs ids) g = absurd g

date-kind : (f : FieldInfo) (v : Value) → IsGivable (record f { field_type = type.Date }) v → HasKind kind.Day v
date-kind f value.Nil g = tt
date-kind f (value.Bool b) g = absurd g
date-kind f (value.Int n) g = absurd g
date-kind f (value.Word text) g = absurd g
date-kind f (value.Day n) g = tt
date-kind f (value.Moment n) g = absurd g
date-kind f (value.Ref id) g = absurd g
date-kind f (value.Refs ids) g = absurd g

datetime-kind : (f : FieldInfo) (v : Value) → IsGivable (record f { field_type = type.Datetime }) v → HasKind kind.Moment v
datetime-kind f value.Nil g = tt
datetime-kind f (value.Bool b) g = absurd g
datetime-kind f (value.Int n) g = absurd g
datetime-kind f (value.Word text) g = absurd g
datetime-kind f (value.Day n) g = absurd g
datetime-kind f (value.Moment n) g = tt
datetime-kind f (value.Ref id) g = absurd g
datetime-kind f (value.Refs ids) g = absurd g

selection-kind : (f : FieldInfo) (v : Value) → IsGivable (record f { field_type = type.Selection }) v → HasKind kind.Word v
selection-kind f value.Nil g = tt
selection-kind f (value.Bool b) g = absurd g
selection-kind f (value.Int n) g = absurd g
selection-kind f (value.Word text) g = tt
selection-kind f (value.Day n) g = absurd g
selection-kind f (value.Moment n) g = absurd g
selection-kind f (value.Ref id) g = absurd g
selection-kind f (value.Refs ids) g = absurd g

many2one-kind : (m : ModelNo) (f : FieldInfo) (v : Value) → IsGivable (record f { field_type = type.Many2one }) v → HasKind (kind.Ref m) v
many2one-kind m f value.Nil g = tt
many2one-kind m f (value.Bool b) g = absurd g
many2one-kind m f (value.Int n) g = absurd g
many2one-kind m f (value.Word text) g = absurd g
many2one-kind m f (value.Day n) g = absurd g
many2one-kind m f (value.Moment n) g = absurd g
many2one-kind m f (value.Ref id) g = tt
many2one-kind m f (value.Refs ids) g = absurd g

many2many-kind : (m : ModelNo) (f : FieldInfo) (v : Value) → IsGivable (record f { field_type = type.Many2many }) v → HasKind (kind.Refs m) v
many2many-kind m f value.Nil g = absurd g
many2many-kind m f (value.Bool b) g = absurd g
many2many-kind m f (value.Int n) g = absurd g
many2many-kind m f (value.Word text) g = absurd g
many2many-kind m f (value.Day n) g = absurd g
many2many-kind m f (value.Moment n) g = absurd g
many2many-kind m f (value.Ref id) g = absurd g
many2many-kind m f (value.Refs ids) g = tt

-- a one2many is kept by no row
no-one2many : (f : FieldInfo) (v : Value) (m : ModelNo) → IsGivable (record f { field_type = type.One2many }) v → HasKind (kind.Refs m) v
no-one2many f value.Nil m g = absurd g
no-one2many f (value.Bool b) m g = absurd g
no-one2many f (value.Int n) m g = absurd g
no-one2many f (value.Word text) m g = absurd g
no-one2many f (value.Day n) m g = absurd g
no-one2many f (value.Moment n) m g = absurd g
no-one2many f (value.Ref id) m g = absurd g
no-one2many f (value.Refs ids) m g = tt

-- of the kind that a relation gives
by_relation : (of : ModelNo → Kind) (v : Value) → ((m : ModelNo) → HasKind (of m) v) → (relation : Option ModelNo) (k : Kind) → option_map of relation ≡ Some k → HasKind k v
by_relation of v has None k is = cc
by_relation of v has (Some m) k is = subst (λ (x : Kind). HasKind x v) (same_Some (of m) k is) (has m)

-- a value that a row may keep is of the field's kind
given-kind : (f : FieldInfo) (t : FieldType) (v : Value) (k : Kind) → kind_of_type t f.relation ≡ Some k → IsGivable (record f { field_type = t }) v → HasKind k v
given-kind f type.Boolean v k is g = subst (λ (x : Kind). HasKind x v) (same_Some kind.Bool k is) (boolean-kind f v g)
given-kind f type.Integer v k is g = subst (λ (x : Kind). HasKind x v) (same_Some kind.Int k is) (integer-kind f v g)
given-kind f type.Char v k is g = subst (λ (x : Kind). HasKind x v) (same_Some kind.Word k is) (char-kind f v g)
given-kind f type.Text v k is g = subst (λ (x : Kind). HasKind x v) (same_Some kind.Word k is) (text-kind f v g)
given-kind f type.Date v k is g = subst (λ (x : Kind). HasKind x v) (same_Some kind.Day k is) (date-kind f v g)
given-kind f type.Datetime v k is g = subst (λ (x : Kind). HasKind x v) (same_Some kind.Moment k is) (datetime-kind f v g)
given-kind f type.Selection v k is g = subst (λ (x : Kind). HasKind x v) (same_Some kind.Word k is) (selection-kind f v g)
given-kind f type.Many2one v k is g = by_relation kind.Ref v (λ m. many2one-kind m f v g) f.relation k is
given-kind f type.Many2many v k is g = by_relation kind.Refs v (λ m. many2many-kind m f v g) f.relation k is
given-kind f type.One2many v k is g = by_relation kind.Refs v (λ m. no-one2many f v m g) f.relation k is

-- the values of a one2many are lists
one2many-refs : (t : FieldType) (relation : Option ModelNo) (ids : List RecId) (k : Kind) → is_one2many t ≡ true → kind_of_type t relation ≡ Some k → HasKind k (value.Refs ids)
one2many-refs type.Boolean relation ids k test is = absurd (let not : false ≡ true = test in cc)
one2many-refs type.Integer relation ids k test is = absurd (let not : false ≡ true = test in cc)
one2many-refs type.Char relation ids k test is = absurd (let not : false ≡ true = test in cc)
one2many-refs type.Text relation ids k test is = absurd (let not : false ≡ true = test in cc)
one2many-refs type.Date relation ids k test is = absurd (let not : false ≡ true = test in cc)
one2many-refs type.Datetime relation ids k test is = absurd (let not : false ≡ true = test in cc)
one2many-refs type.Selection relation ids k test is = absurd (let not : false ≡ true = test in cc)
one2many-refs type.Many2one relation ids k test is = absurd (let not : false ≡ true = test in cc)
one2many-refs type.One2many relation ids k test is = by_relation kind.Refs (value.Refs ids) (λ m. tt) relation k is
one2many-refs type.Many2many relation ids k test is = absurd (let not : false ≡ true = test in cc)

-- the values of a many2many are lists
many2many-refs : (t : FieldType) (relation : Option ModelNo) (ids : List RecId) (k : Kind) → is_many2many t ≡ true → kind_of_type t relation ≡ Some k → HasKind k (value.Refs ids)
many2many-refs type.Boolean relation ids k test is = absurd (let not : false ≡ true = test in cc)
many2many-refs type.Integer relation ids k test is = absurd (let not : false ≡ true = test in cc)
many2many-refs type.Char relation ids k test is = absurd (let not : false ≡ true = test in cc)
many2many-refs type.Text relation ids k test is = absurd (let not : false ≡ true = test in cc)
many2many-refs type.Date relation ids k test is = absurd (let not : false ≡ true = test in cc)
many2many-refs type.Datetime relation ids k test is = absurd (let not : false ≡ true = test in cc)
many2many-refs type.Selection relation ids k test is = absurd (let not : false ≡ true = test in cc)
many2many-refs type.Many2one relation ids k test is = absurd (let not : false ≡ true = test in cc)
many2many-refs type.One2many relation ids k test is = absurd (let not : false ≡ true = test in cc)
many2many-refs type.Many2many relation ids k test is = by_relation kind.Refs (value.Refs ids) (λ m. tt) relation k is

-- ---- plain cells
module _ (models : List ModelInfo) (tables : Tables) (registry : IsRegistry models) (fits : Fits models tables) where
  -- the plain value of a cell of a field
  plain_by_field : (c : Cell) (info : FieldInfo) → field_at models c.model c.field ≡ Some info → plain_at tables models c ≡ option_and_then (plain_from tables info.origin info c.field c.id) (row_at tables c.model c.id)
  plain_by_field c info at = ap (λ (i : Option FieldInfo). option_and_then (λ i. option_and_then (plain_from tables i.origin i c.field c.id) (row_at tables c.model c.id)) i) at

  -- what a row keeps for a field that no other mirrors
  kept-kind : (c : Cell) (info : FieldInfo) (row : PlainRow) (k : Kind) → field_at models c.model c.field ≡ Some info → row_at tables c.model c.id ≡ Some row → info.origin ≡ origin.Plain → kind_of_info info ≡ Some k
      → option_or info.inverse info.mirror ≡ None → HasKind k (kept_in row c.field)
  kept-kind c info row k at there plain is none =
      let field = Field-at models c.model c.field info registry at in
      let has = has-kept models tables c field.info info field.model_is field.valid at fits plain (there_is (row_at tables c.model c.id) row there) none in
      let kept : kept_at tables c ≡ finite.get row c.field.0 = ap (λ (r : Option PlainRow). option_and_then (λ r. finite.get r c.field.0) r) there in
      let w = is_there (finite.get row c.field.0) (sym (ap is_some kept) ∙ has) in
      let values = known_if (finite.get row c.field.0) w.0 (λ v. IsSomeAnd (field_at models c.model c.field) (λ i. IsGivable i v)) w.1
      (known_if (row_at tables c.model c.id) row (λ r. IfSome (finite.get r c.field.0) (λ v. IsSomeAnd (field_at models c.model c.field) (λ i. IsGivable i v))) there (fits.values c.model c.id c.field)) in
      let givable = known_at (field_at models c.model c.field) info (λ i. IsGivable i w.0) at values in
      subst (HasKind k) (sym (ap (λ (o : Option Value). unwrap_or o value.Nil) w.1)) (given-kind info info.field_type w.0 k is givable)

  -- the value of a plain field of a row
  row-kind : (c : Cell) (info : FieldInfo) (row : PlainRow) (k : Kind) → field_at models c.model c.field ≡ Some info → row_at tables c.model c.id ≡ Some row → info.origin ≡ origin.Plain → kind_of_info info ≡ Some k
      → HasKind k (plain_by tables info.inverse info.mirror info c.field c.id row)
  row-kind c info row k at there plain is = by info.inverse info.mirror refl refl
    where
      by : (inverse mirror : Option FieldNo) → info.inverse ≡ inverse → info.mirror ≡ mirror → HasKind k (plain_by tables inverse mirror info c.field c.id row)
      by (Some inverse) mirror p q =
          let right = (Field-at models c.model c.field info registry at).right in
          one2many-refs info.field_type info.relation _ k (sym right.inverse ∙ ap is_some p) is
      by None (Some mirror) p q =
          let right = (Field-at models c.model c.field info registry at).right in
          many2many-refs info.field_type info.relation _ k (right.mirror (ap is_some q)) is
      by None None p q = kept-kind c info row k at there plain is (ap (λ (o : Option FieldNo). option_or o info.mirror) p ∙ q)

  -- a plain cell holds a value of its field's kind
  pub plain-kind : (c : Cell) (info : FieldInfo) (k : Kind) (v : Value) → field_at models c.model c.field ≡ Some info → kind_of_info info ≡ Some k → plain_at tables models c ≡ Some v → HasKind k v
  plain-kind c info k v at is holds = elim (some_or_none (row_at tables c.model c.id)) [
    | inl none ↦ absurd (let both : None ≡ Some v = sym (ap (option_and_then (plain_from tables info.origin info c.field c.id)) none) ∙ sym (plain_by_field c info at) ∙ holds in cc)
    | inr some ↦ by info.origin refl some.0 some.1 (sym (ap (option_and_then (plain_from tables info.origin info c.field c.id)) some.1) ∙ sym (plain_by_field c info at) ∙ holds)
  ]
    where
      by : (o : Origin) → info.origin ≡ o → (row : PlainRow) → row_at tables c.model c.id ≡ Some row → plain_from tables info.origin info c.field c.id row ≡ Some v → HasKind k v
      by origin.Id from row there holds =
          let field = Field-at models c.model c.field info registry at in
          let integer : info.field_type ≡ type.Integer = (let right : IsOriginIn models c.model field.info info origin.Id = subst (λ (o : Origin). IsOriginIn models c.model field.info info o) from field.right.origin in right) in
          let kind_is : kind.Int ≡ k = same_Some kind.Int k (sym (ap (λ (t : FieldType). kind_of_type t info.relation) integer) ∙ is) in
          let v_is : id_value c.id ≡ v = same_Some (id_value c.id) v (sym (ap (λ (o : Origin). plain_from tables o info c.field c.id row) from) ∙ holds) in
          subst (HasKind k) v_is (subst (λ (x : Kind). HasKind x (id_value c.id)) kind_is tt)
      by origin.Plain from row there holds =
          let v_is = same_Some (plain_by tables info.inverse info.mirror info c.field c.id row) v (sym (ap (λ (o : Origin). plain_from tables o info c.field c.id row) from) ∙ holds) in
          subst (HasKind k) v_is (row-kind c info row k at there from is)
      by (origin.Delegated to) from row there holds = absurd (let both : None ≡ Some v = sym (ap (λ (o : Origin). plain_from tables o info c.field c.id row) from) ∙ holds in cc)
      by (origin.Computed formula) from row there holds = absurd (let both : None ≡ Some v = sym (ap (λ (o : Origin). plain_from tables o info c.field c.id row) from) ∙ holds in cc)

  -- ---- what is held

  module _ (held : Cell → Option Value) (of_kind : (c : Cell) (info : FieldInfo) (k : Kind) (v : Value) → field_at models c.model c.field ≡ Some info → kind_of_info info ≡ Some k → held c ≡ Some v → HasKind k v) where
    -- where each cell holds a value of its field's kind, each field along a path by references does
    path-holds : (model : ModelNo) (links : List Link) (field : FieldNo) (k : Kind) → IsByRefs models model links field k → PathHolds held model links field k
    path-holds model [] field k by_refs =
        λ id v holds. let t = told_and (field_at models model field) (λ info. (kind_of_info info ≡ Some k) × (has_value_of info ≡ true)) by_refs in
        of_kind (cell_in (place_at model id) field) t.0 k v t.1 t.2.0 holds
    path-holds model (link ∷ links) field k by_refs = (
      λ id v holds. let t = told_and (field_at models model link.field) (IsRefTo link.target) by_refs.0 in of_kind (cell_in (place_at model id) link.field) t.0 (kind.Ref link.target) v t.1 t.2.one holds,
      path-holds link.target links field k by_refs.1,
    )

    abbrev ByRefs : ModelNo → Route → Type 0
    ByRefs from route = IsByRefs models from route.links route.field route.kind

    abbrev Holds : ModelNo → Route → Type 0
    Holds from route = PathHolds held from route.links route.field route.kind

    -- and each along each path of an expression
    mutual
      pub kinds-held : (model : ModelNo) (tree : TypedTree) → EachPath ByRefs model tree → EachPath Holds model tree
      kinds-held model row_id by_refs = tt
      kinds-held model (integer n) by_refs = tt
      kinds-held model (a_text bytes) by_refs = tt
      kinds-held model (truth b) by_refs = tt
      kinds-held model (unset k) by_refs = tt
      kinds-held model (path route) by_refs = path-holds model route.links route.field route.kind by_refs
      kinds-held model (prefix word inner) by_refs = kinds-held model inner by_refs
      kinds-held model (binary op left right) by_refs = (kinds-held model left by_refs.0, kinds-held model right by_refs.1)
      kinds-held model (chosen which left right) by_refs = (kinds-held model left by_refs.0, kinds-held model right by_refs.1)
      kinds-held model (choice condition first second) by_refs = (kinds-held model condition by_refs.0, kinds-held model first by_refs.1, kinds-held model second by_refs.2)
      kinds-held model (joined all) by_refs = all-held model all by_refs
      kinds-held model (digits inner) by_refs = kinds-held model inner by_refs
      kinds-held model (over aggregate route target inner) by_refs = (path-holds model route.links route.field route.kind by_refs.0, kinds-held target inner by_refs.1)

      all-held : (model : ModelNo) (all : TypedTrees) → EachPathOfAll ByRefs model all → EachPathOfAll Holds model all
      all-held model no_trees by_refs = tt
      all-held model (one_more tree rest) by_refs = (kinds-held model tree by_refs.0, all-held model rest by_refs.1)

  module _ (outcomes : tree.BTreeMap Cell Outcome) (right : AreOutcomes models tables outcomes) where
    -- a cell holds a value of its field's kind
    held-kind : (c : Cell) (info : FieldInfo) (k : Kind) (v : Value) → field_at models c.model c.field ≡ Some info → kind_of_info info ≡ Some k → held_in models tables outcomes c ≡ Some v → HasKind k v
    held-kind c info k v at is holds = by (tree.get cell_order outcomes c) refl holds
      where
        by : (o : Option Outcome) → tree.get cell_order outcomes c ≡ o → held_or o (plain_at tables models c) ≡ Some v → HasKind k v
        by None gets holds = plain-kind c info k v at is holds
        by (Some (outcome.Value w)) gets holds =
            let one = known_if (tree.get cell_order outcomes c) (outcome.Value w) (IsOutcomeOf models tables c) gets (right c) in
            let it = known_at (field_at models c.model c.field) info (IsFormulaOutcome models tables c (outcome.Value w)) at one.1 in
            subst (HasKind k) (same_Some w v holds) (it.3 k is)
        by (Some (outcome.Own why)) gets holds = absurd (let both : None ≡ Some v = holds in cc)
        by (Some (outcome.Inherited why)) gets holds = absurd (let both : None ≡ Some v = holds in cc)

    -- so does each field along each path of an expression
    pub tree-holds : (model : ModelNo) (tree : TypedTree) → EachPath (λ from route. IsByRefs models from route.links route.field route.kind) model tree
        → EachPath (λ from route. PathHolds (held_in models tables outcomes) from route.links route.field route.kind) model tree
    tree-holds model tree by_refs = kinds-held (held_in models tables outcomes) held-kind model tree by_refs
