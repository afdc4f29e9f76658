-- The row that a link to a parent names, behind a change, and what is set in it.
use Rattle.std.proofs.Common.{◌≡◌, ◌&&◌, ◌≤◌, ◌++◌, ℕ, Bool, true, false, not, List, [], ◌∷◌, Option, Some, None, is_none, is_some, append-nil, refl, sym, ap, subst, ◌∙◌, eq-eqb}
use Rattle.std.specs.Prelude.{IfSome, IsSome, IsSomeAnd, option_and_then}
use Rattle.std.specs.Option.{option_map_or, option_or}
use Rattle.ob_base.specs.Limits.{max_id}
use Rattle.ob_base.specs.declared.id.Cell.{Cell}
use Rattle.ob_base.specs.declared.id.FieldNo.{FieldNo}
use Rattle.ob_base.specs.declared.id.ModelNo.{ModelNo}
use Rattle.ob_base.specs.declared.id.RecId.{RecId}
use Rattle.ob_base.specs.declared.refusal.BrokenKind.TheVariants as kind
use Rattle.ob_base.specs.declared.value.Value.{Value}
use Rattle.ob_base.specs.declared.value.Value.TheVariants as value
use Rattle.ob_definition.specs.Keys.{is_many2many}
use Rattle.ob_definition.specs.Types.{is_one2many}
use Rattle.ob_definition.specs.declared.field_type.FieldType.{FieldType}
use Rattle.ob_definition.specs.declared.field_type.FieldType.TheVariants as type
use Rattle.ob_definition.specs.declared.field_type.OnDelete.TheVariants as ondelete
use Rattle.ob_rows.specs.LockSteps.{IsSettledAt}
use Rattle.ob_orm.specs.NewRows.{Values, behind, changed_values, filled, row_edits, row_named, value_for}
use Rattle.ob_orm.specs.NewRowSteps.{IsLowRef}
use Rattle.ob_orm.specs.Touched.{linked_in}
use Rattle.ob_orm.specs.Write.{parent_edits}
use Rattle.ob_rows.specs.declared.author.Author.{Author}
use Rattle.ob_rows.proofs.CallerLemmas.{id-within, settled-plain}
use Rattle.ob_schema.specs.Broken.{AreSound}
use Rattle.ob_schema.specs.Fields.{is_own, is_plain_kept}
use Rattle.ob_schema.specs.Models.{FieldHas, IsParentIn, IsPlainTo, IsRegistry, field_at}
use Rattle.ob_schema.specs.Plain.{names, plain_at, plain_from}
use Rattle.ob_schema.specs.Tables.{PlainRow, Tables, row_at}
use Rattle.ob_schema.specs.declared.info.FieldInfo.{FieldInfo}
use Rattle.ob_schema.specs.declared.info.ModelInfo.{ModelInfo}
use Rattle.ob_schema.specs.declared.info.ParentInfo.{ParentInfo}
use Rattle.ob_tables.proofs.CallerLemmas.{Field-at, tell_and, there_is}
use Rattle.ob_tables.specs.Fitting.{IsFitId}
use Rattle.ob_tables.specs.declared.edit.Edit.{Edit}

-- ---- a link is kept in its row

unmirrored : (f : FieldInfo) → f.field_type ≡ type.Many2one → (is_some f.mirror ≡ true → is_many2many f.field_type ≡ true) → is_none f.mirror ≡ true
unmirrored f many mirror = by f.mirror refl where
  never : is_many2many f.field_type ≡ true → ⊥
  never is = let wrong : false ≡ true = sym (ap is_many2many many) ∙ is in absurd cc

  by : (o : Option FieldNo) → f.mirror ≡ o → is_none o ≡ true
  by None is = refl
  by (Some m) is = absurd (never (mirror (ap (λ (o : Option FieldNo). is_some o) is)))

module _ (models : List ModelInfo) (registry : IsRegistry models) (cell : Cell) (parent : ParentInfo) (leads : IsParentIn models cell.model parent) (link : cell.field ≡ parent.link) where
  -- what is known of the link
  pub record Link : Type 0 where
    pub field : FieldInfo
    pub at : field_at models cell.model cell.field ≡ Some field
    pub plain : IsPlainTo parent.model field
    pub many : field.field_type ≡ type.Many2one

  abbrev IsTo : FieldInfo → Type 0
  IsTo f = IsPlainTo parent.model f × (f.field_type ≡ type.Many2one) × (f.required ≡ true) × (f.ondelete ≡ ondelete.Cascade)

  found : Link
  found = by (field_at models cell.model cell.field) refl (subst (λ (n : FieldNo). FieldHas models IsTo cell.model n) (sym link) leads.link) where
    by : (o : Option FieldInfo) → field_at models cell.model cell.field ≡ o → IsSomeAnd o IsTo → Link
    by None at h = absurd h
    by (Some f) at h = record { field = f; at = at; plain = h.0; many = h.1 }

  kept : is_plain_kept found.field ≡ true
  kept =
      let right = (Field-at models cell.model cell.field found.field registry found.at).right in
      ap (λ (b : Bool). b && is_own found.field) found.plain.plain
      ∙ ap (λ (t : FieldType). not (is_one2many t) && is_none found.field.mirror) found.many ∙ unmirrored found.field found.many right.mirror

  -- the field is there
  pub link-there : IsSome (field_at models cell.model cell.field)
  link-there = there_is (field_at models cell.model cell.field) found.field found.at

  module _ (tables : Tables) where
    -- a row that has a plain value is there
    row-there : (v : Value) → plain_at tables models cell ≡ Some v → IsSome (row_at tables cell.model cell.id)
    row-there v is = by (row_at tables cell.model cell.id) refl (sym (ap (option_and_then (λ (i : FieldInfo). option_and_then (plain_from tables i.origin i cell.field cell.id) (row_at tables cell.model cell.id))) found.at) ∙ is) where
      by : (o : Option PlainRow) → row_at tables cell.model cell.id ≡ o → option_and_then (plain_from tables found.field.origin found.field cell.field cell.id) o ≡ Some v → IsSome o
      by None none has = absurd cc
      by (Some row) there has = refl

    -- in sound tables the row that it names is there, so its id is within the limit
    pub row-low : AreSound models tables → (row : RecId) → plain_at tables models cell ≡ Some (value.Ref row) → row.0 ≤ max_id
    row-low sound row is = by (row_at tables parent.model row) refl where
      by : (o : Option PlainRow) → row_at tables parent.model row ≡ o → row.0 ≤ max_id
      by None none =
          absurd (sound.sound (record { kind = kind.MissingRef; cell = cell }) (
            row-there (value.Ref row) is,
            tell_and (field_at models cell.model cell.field) found.field
                (λ info. (is_plain_kept info ≡ true) × IsSomeAnd (plain_at tables models cell) (λ v. (id : RecId) × (names id v ≡ true) × IsSomeAnd info.relation (λ target. row_at tables target id ≡ None))) found.at (
                  kept,
                  tell_and (plain_at tables models cell) (value.Ref row) (λ v. (id : RecId) × (names id v ≡ true) × IsSomeAnd found.field.relation (λ target. row_at tables target id ≡ None)) is
                      (row, eq-eqb row.0 row.0 refl, tell_and found.field.relation parent.model (λ target. row_at tables target row ≡ None) found.plain.leads none),
                ),
          ))
      by (Some there) at = (id-within models tables registry sound parent.model row (there_is (row_at tables parent.model row) there at)).1

    -- what the engine tells of the link names the row
    pub link-told : AreSound models tables → (told : Option Value) (row : Option RecId) → IsSettledAt models tables cell told
        → (IfSome (option_and_then row_named told) (λ id. id.0 ≤ max_id) → row ≡ option_and_then row_named told) → row ≡ option_and_then row_named (plain_at tables models cell)
    link-told sound told row settled named = named (each told plain) ∙ sym (ap (option_and_then row_named) plain) where
      plain : plain_at tables models cell ≡ told
      plain = settled-plain models tables registry cell found.field found.at kept told settled

      each : (o : Option Value) → plain_at tables models cell ≡ o → IfSome (option_and_then row_named o) (λ id. id.0 ≤ max_id)
      each None is = tt
      each (Some (value.Ref id)) is = row-low sound id is
      each (Some _) is = tt

-- ---- the row that a link names behind the change

-- of a typed value
pub named-fit : (v : Value) → IsLowRef v → IfSome (row_named v) IsFitId
named-fit (value.Ref id) low = low
named-fit _ low = tt

module _ (models : List ModelInfo) (model : ModelNo) (tables : Tables) (given : Values) (id : ℕ) (link : FieldNo) where
  abbrev linked_by : Option Value → Option RecId
  linked_by o = option_and_then row_named (option_or o (plain_at tables models (record { model = model; id = record { 0 = id }; field = link })))

  -- by what is given
  pub linked-given : (v : Value) → value_for given link.0 ≡ Some v → row_named v ≡ linked_in models model tables given id link
  linked-given v is = sym (ap linked_by is)

  -- else by what it has
  pub linked-kept : value_for given link.0 ≡ None → option_and_then row_named (plain_at tables models (record { model = model; id = record { 0 = id }; field = link })) ≡ linked_in models model tables given id link
  linked-kept none = sym (ap linked_by none)

-- ---- what is set in the row of a parent

module _ (models : List ModelInfo) (by : Author) (model : ModelNo) (tables : Tables) (given : Values) (id : ℕ) (parent : ParentInfo) where
  abbrev set_in : Values → Option RecId → List Edit
  set_in values o = option_map_or (λ row. row_edits parent.model (changed_values models by parent.model values) row.0) o []

  each-none : (o : Option RecId) → set_in [] o ≡ []
  each-none None = refl
  each-none (Some row) = refl

  -- where nothing is given behind the link nothing is
  pub parent-empty : (edits : List Edit) (values : Values) → values ≡ behind models model parent.link given → values ≡ [] → edits ≡ edits ++ parent_edits models by model tables given id parent
  parent-empty edits values are none =
      let nothing : parent_edits models by model tables given id parent ≡ [] =
      ap (λ (vs : Values). set_in vs (linked_in models model tables given id parent.link)) (sym are ∙ none) ∙ each-none (linked_in models model tables given id parent.link) in
      sym (append-nil edits) ∙ sym (ap (λ (es : List Edit). edits ++ es) nothing)

  -- nor where the link names no row
  pub parent-none : (edits : List Edit) → None ≡ linked_in models model tables given id parent.link → edits ≡ edits ++ parent_edits models by model tables given id parent
  parent-none edits none =
      let nothing : parent_edits models by model tables given id parent ≡ [] = ap (set_in (behind models model parent.link given)) (sym none) in sym (append-nil edits) ∙ sym (ap (λ (es : List Edit). edits ++ es) nothing)

  some_values : (vs : Values) → (vs ≡ [] → ⊥) → changed_values models by parent.model vs ≡ filled models by false parent.model vs
  some_values [] some = absurd (some refl)
  some_values (v ∷ vs) some = refl

  -- else the values are
  pub parent-set : (edits new : List Edit) (row : RecId) (values : Values) → Some row ≡ linked_in models model tables given id parent.link → values ≡ behind models model parent.link given → (values ≡ [] → ⊥)
      → new ≡ edits ++ row_edits parent.model (filled models by false parent.model values) row.0 → new ≡ edits ++ parent_edits models by model tables given id parent
  parent-set edits new row values named are some set =
      let own : row_edits parent.model (filled models by false parent.model values) row.0 ≡ parent_edits models by model tables given id parent =
      ap (λ (vs : Values). row_edits parent.model vs row.0) (sym (some_values values some)) ∙ ap (λ (o : Option RecId). set_in values o) named
      ∙ ap (λ (vs : Values). set_in vs (linked_in models model tables given id parent.link)) are in
      set ∙ ap (λ (es : List Edit). edits ++ es) own
