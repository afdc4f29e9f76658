-- Which cells name a row, as the relations of the registry lead there.
use Rattle.std.proofs.Common.{◌≡◌, ◌↔◌, ◌&&◌, inl, inr, ℕ, Bool, true, false, cond, List, [], ◌∷◌, filter, Option, Some, None, option_map, refl, sym, ap, subst, ◌∙◌}
use Rattle.std.specs.Prelude.{Any, Contains, IsSomeAnd, option_and_then, unwrap_or}
use Rattle.std.specs.List.{slice_get}
use Rattle.std.specs.FinMap as finite
use Rattle.std.proofs.lemmas.Option.{get_or_from_slice_get, same_Some, slice_get_within}
use Rattle.ob_base.specs.declared.id.Cell.{Cell}
use Rattle.ob_base.specs.declared.id.FieldNo.{FieldNo}
use Rattle.ob_base.specs.declared.id.ModelNo.{ModelNo}
use Rattle.ob_base.specs.declared.id.RecId.{RecId}
use Rattle.ob_base.specs.declared.id.RowKey.{RowKey}
use Rattle.ob_base.specs.declared.value.Value.{Value}
use Rattle.ob_base.specs.declared.value.Value.TheVariants as value
use Rattle.ob_definition.specs.Keys.{is_many2one}
use Rattle.ob_definition.specs.declared.field_type.FieldType.{FieldType}
use Rattle.ob_definition.specs.declared.field_type.FieldType.TheVariants as type
use Rattle.ob_definition.specs.declared.field_type.OnDelete.{OnDelete}
use Rattle.ob_definition.specs.declared.field_type.OnDelete.TheVariants as ondelete
use Rattle.ob_unlink.specs.Deletion.{DoesAt, NamesRow, row_of_cell}
use Rattle.ob_rows.specs.Relations.{IsRelation, is_cascade, relation_of}
use Rattle.ob_unlink.specs.DeletionSteps.{LeadsBy, TakesBy, cell_by}
use Rattle.ob_rows.specs.declared.relations.KeptRelation.{KeptRelation}
use Rattle.ob_rows.proofs.CallerLemmas.{any_is, any_one, contains-filter, contains-kept, contains-map, contains-mapped}
use Rattle.ob_unlink.proofs.Searched.{GoesWith}
use Rattle.ob_schema.proofs.CallerLemmas.{contains-cases, contains-none}
use Rattle.ob_schema.specs.Fields.{is_plain_kept}
use Rattle.ob_schema.specs.Models.{field_at}
use Rattle.ob_schema.specs.Plain.{names, naming}
use Rattle.ob_schema.specs.Tables.{PlainRow, Tables, ids_in, kept_at, kept_in, row_at, rows_in}
use Rattle.ob_schema.specs.declared.info.FieldInfo.{FieldInfo}
use Rattle.ob_schema.specs.declared.info.ModelInfo.{ModelInfo}
use Rattle.ob_tables.proofs.CallerLemmas.{Stands, rows_in-there, tell_and, there-ids, there_is, told_and}

-- ---- rows that name one

stands : {X : Type 0} (xs : List X) (x : X) → Contains xs x → Stands x xs
stands [] x c = contains-none x c
stands (y ∷ ys) x c = elim (contains-cases y ys x c) [ inl is ↦ inl (sym is) | inr later ↦ inr (stands ys x later) ]

-- what is at a place is contained
contains-at : {X : Type 0} (xs : List X) (k : ℕ) (x : X) → slice_get xs k ≡ Some x → Contains xs x
contains-at xs k x at = (k, slice_get_within xs k x at, get_or_from_slice_get xs k x x at)

-- a row that is there is among those of its model
row-listed : (tables : Tables) (model : ModelNo) (id : RecId) (row : PlainRow) → row_at tables model id ≡ Some row → Contains (rows_in tables model) (id, row)
row-listed tables model id row at =
    let place = there-ids tables model id (there_is (row_at tables model id) row at) in
    let entry = contains-map (λ (e : RecId × PlainRow). e.0) (rows_in tables model) id (contains-at (ids_in tables model) place.0 id place.1) in
    let is : row_at tables model entry.0.0 ≡ Some entry.0.1 = rows_in-there tables model entry.0 (stands (rows_in tables model) entry.0 entry.1) in
    let same : entry.0.1 ≡ row = same_Some entry.0.1 row (sym is ∙ ap (λ (i : RecId). row_at tables model i) entry.2 ∙ at) in
    let pair : entry.0 ≡ (id, row) = λ i. (entry.2 i, same i) in
    subst (λ (e : RecId × PlainRow). Contains (rows_in tables model) e) pair entry.1

-- a value that names a row, kept in a row that is there
naming-value : (id : RecId) (o : Option Value) → names id (unwrap_or o value.Nil) ≡ true → IsSomeAnd o (λ v. names id v ≡ true)
naming-value id None is = cc
naming-value id (Some v) is = is

value-naming : (id : RecId) (o : Option Value) → IsSomeAnd o (λ v. names id v ≡ true) → names id (unwrap_or o value.Nil) ≡ true
value-naming id None is = absurd is
value-naming id (Some v) is = is

module _ (tables : Tables) (model : ModelNo) (field : FieldNo) (id other : RecId) where
  abbrev test : RecId × PlainRow → Bool
  test entry = names id (kept_in entry.1 field)

  abbrev cell_here : Cell
  cell_here = record { model = model; id = other; field = field }

  -- the rows that are told to name one have cells that do
  pub naming-kept : Contains (naming tables model field id) other → IsSomeAnd (kept_at tables cell_here) (λ v. names id v ≡ true)
  naming-kept c =
      let entry = contains-map (λ (e : RecId × PlainRow). e.0) (filter test (rows_in tables model)) other c in
      let kept = contains-filter test (rows_in tables model) entry.0 entry.1 in
      let at : row_at tables model other ≡ Some entry.0.1 = ap (λ (i : RecId). row_at tables model i) (sym entry.2) ∙ rows_in-there tables model entry.0 (stands (rows_in tables model) entry.0 kept.0) in
      subst (λ (o : Option Value). IsSomeAnd o (λ v. names id v ≡ true)) (sym (ap (option_and_then (λ (row : PlainRow). finite.get row field.0)) at)) (naming-value id (finite.get entry.0.1 field.0) kept.1)

  -- and those whose cells do are told
  pub kept-naming : IsSomeAnd (kept_at tables cell_here) (λ v. names id v ≡ true) → Contains (naming tables model field id) other
  kept-naming named = by (row_at tables model other) refl named
    where
      by : (o : Option PlainRow) → row_at tables model other ≡ o → IsSomeAnd (option_and_then (λ row. finite.get row field.0) o) (λ v. names id v ≡ true) → Contains (naming tables model field id) other
      by None at named = absurd named
      by (Some row) at named =
          contains-mapped (λ (e : RecId × PlainRow). e.0) (filter test (rows_in tables model)) (other, row)
          (contains-kept test (rows_in tables model) (other, row) (row-listed tables model other row at) (value-naming id (finite.get row field.0) named))

-- ---- relations

-- what is known of the field of a relation
pub record RelationAt (models : List ModelInfo) (r : KeptRelation) : Type 0 where
  pub info : FieldInfo
  pub at : field_at models r.model r.field ≡ Some info
  pub kept : is_plain_kept info ≡ true
  pub leads : info.relation ≡ Some r.target
  pub cascades : r.cascades ≡ (is_many2one info.field_type && is_cascade info.ondelete)

module _ (models : List ModelInfo) where
  pub relation-at : (r : KeptRelation) → IsRelation models r → RelationAt models r
  relation-at r is = by (field_at models r.model r.field) refl is
    where
      here : (info : FieldInfo) → field_at models r.model r.field ≡ Some info → (b : Bool) → is_plain_kept info ≡ b → (t : Option ModelNo) → info.relation ≡ t
          → cond b (option_map (λ target. record { model = r.model; field = r.field; target = target; cascades = is_many2one info.field_type && is_cascade info.ondelete }) t) None ≡ Some r → RelationAt models r
      here info at false kept t leads is = absurd cc
      here info at true kept None leads is = absurd cc
      here info at true kept (Some target) leads is =
          let same = same_Some (record { model = r.model; field = r.field; target = target; cascades = is_many2one info.field_type && is_cascade info.ondelete }) r is in
          record { info = info; at = at; kept = kept; leads = leads ∙ ap (λ (x : KeptRelation). Some x.target) same; cascades = sym (ap (λ (x : KeptRelation). x.cascades) same) }

      by : (o : Option FieldInfo) → field_at models r.model r.field ≡ o → option_and_then (relation_of r.model r.field) o ≡ Some r → RelationAt models r
      by None at is = absurd cc
      by (Some info) at is = here info at (is_plain_kept info) refl info.relation refl is

  -- a field that leads to a model makes a relation
  pub relation-there : (model : ModelNo) (field : FieldNo) (target : ModelNo) (info : FieldInfo) → field_at models model field ≡ Some info → is_plain_kept info ≡ true → info.relation ≡ Some target
      → IsRelation models (record { model = model; field = field; target = target; cascades = is_many2one info.field_type && is_cascade info.ondelete })
  relation-there model field target info at kept leads =
      ap (option_and_then (relation_of model field)) at
      ∙ ap (λ (b : Bool). cond b (option_map (λ t. record { model = model; field = field; target = t; cascades = is_many2one info.field_type && is_cascade info.ondelete }) info.relation) None) kept
      ∙ ap (option_map (λ t. record { model = model; field = field; target = t; cascades = is_many2one info.field_type && is_cascade info.ondelete })) leads

-- a many2one with `cascade`, as the code tests it
both_true : (a b : Bool) → (a && b) ≡ true → (a ≡ true) × (b ≡ true)
both_true true b is = (refl, is)
both_true false b is = absurd cc

many2one-is : (t : FieldType) → is_many2one t ≡ true → t ≡ type.Many2one
many2one-is type.Many2one is = refl
many2one-is type.Boolean is = absurd cc
many2one-is type.Integer is = absurd cc
many2one-is type.Char is = absurd cc
many2one-is type.Text is = absurd cc
many2one-is type.Date is = absurd cc
many2one-is type.Datetime is = absurd cc
many2one-is type.Selection is = absurd cc
many2one-is type.One2many is = absurd cc
many2one-is type.Many2many is = absurd cc

cascade-is : (o : OnDelete) → is_cascade o ≡ true → o ≡ ondelete.Cascade
cascade-is ondelete.Cascade is = refl
cascade-is ondelete.SetNull is = absurd cc
cascade-is ondelete.Restrict is = absurd cc

does-cascade : (info : FieldInfo) → (is_many2one info.field_type && is_cascade info.ondelete) ≡ true → DoesAt ondelete.Cascade info
does-cascade info is = let both = both_true (is_many2one info.field_type) (is_cascade info.ondelete) is in (many2one-is info.field_type both.0, cascade-is info.ondelete both.1)

cascade-does : (info : FieldInfo) → DoesAt ondelete.Cascade info → (is_many2one info.field_type && is_cascade info.ondelete) ≡ true
cascade-does info does = ap (λ (t : FieldType). is_many2one t && is_cascade info.ondelete) does.0 ∙ ap is_cascade does.1

module _ (models : List ModelInfo) (tables : Tables) (relations : List KeptRelation) (all : (r : KeptRelation) → Contains relations r ↔ IsRelation models r) (row : RowKey) where
  -- a relation leads from a cell to the row where the cell names it
  names-by : (r : KeptRelation) (cell : Cell) → IsRelation models r → LeadsBy tables r row cell → NamesRow models tables cell row
  names-by r cell is (to, here, among) =
      let known = relation-at models r is in
      subst (λ (c : Cell). NamesRow models tables c row) (sym here) (record {
        leads = tell_and (field_at models r.model r.field) known.info (λ f. (is_plain_kept f ≡ true) × (f.relation ≡ Some row.model)) known.at (known.kept, known.leads ∙ ap Some to);
        named = naming-kept tables r.model r.field row.id cell.id among;
      })

  -- the relation by which a cell names the row
  record NamedBy (cell : Cell) : Type 0 where
    relation : KeptRelation
    is : IsRelation models relation
    leads : LeadsBy tables relation row cell
    known : RelationAt models relation

  named-by : (cell : Cell) → NamesRow models tables cell row → NamedBy cell
  named-by cell names =
      let t = told_and (field_at models cell.model cell.field) (λ f. (is_plain_kept f ≡ true) × (f.relation ≡ Some row.model)) names.leads in
      let is = relation-there models cell.model cell.field row.model t.0 t.1 t.2.0 t.2.1 in
      record {
        relation = record { model = cell.model; field = cell.field; target = row.model; cascades = is_many2one t.0.field_type && is_cascade t.0.ondelete };
        is = is;
        leads = (refl, refl, kept-naming tables cell.model cell.field row.id cell.id names.named);
        known = record { info = t.0; at = t.1; kept = t.2.0; leads = t.2.1; cascades = refl };
      }

  pub leads-all : (cell : Cell) → Any (λ r. LeadsBy tables r row cell) relations ↔ NamesRow models tables cell row
  leads-all cell = (
    λ any. let one = any_one (λ r. LeadsBy tables r row cell) relations any in names-by one.0 cell ((all one.0).0 one.1) one.2,
    λ names. let by = named-by cell names in any_is (λ r. LeadsBy tables r row cell) relations by.relation ((all by.relation).1 by.is) by.leads,
  )

  pub takes-all : (other : RowKey) → Any (λ r. TakesBy tables r row other) relations ↔ GoesWith models tables row other
  takes-all other = (to, from)
    where
      to : Any (λ r. TakesBy tables r row other) relations → GoesWith models tables row other
      to any =
          let one = any_one (λ r. TakesBy tables r row other) relations any in
          let r = one.0 in
          let is = (all r).0 one.1 in
          let known = relation-at models r is in
          let cell = cell_by r other.id in
          let same : row_of_cell cell ≡ other = ap (λ (m : ModelNo). record { model = m; id = other.id }) (sym one.2.2) in (
            cell,
            names-by r cell is (one.2.1, refl, one.2.3),
            tell_and (field_at models r.model r.field) known.info (DoesAt ondelete.Cascade) known.at (does-cascade known.info (sym known.cascades ∙ one.2.0)),
            same,
          )

      from : GoesWith models tables row other → Any (λ r. TakesBy tables r row other) relations
      from (cell, names, action, same) =
          let by = named-by cell names in
          let r = by.relation in
          let here = by.leads.1 in
          let does = told_and (field_at models cell.model cell.field) (DoesAt ondelete.Cascade) action in
          let info : does.0 ≡ by.known.info = same_Some does.0 by.known.info (sym does.1 ∙ ap (λ (c : Cell). field_at models c.model c.field) here ∙ by.known.at) in
          let cascades : r.cascades ≡ true = by.known.cascades ∙ cascade-does by.known.info (subst (DoesAt ondelete.Cascade) info does.2) in
          any_is (λ r. TakesBy tables r row other) relations r ((all r).1 by.is)
          (subst (TakesBy tables r row) same (cascades, by.leads.0, ap (λ (c : Cell). c.model) here, by.leads.2))
