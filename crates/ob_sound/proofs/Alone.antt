-- A cell whose row is the same on both sides is edited at most through the rows that name it; and a row that is gone is named still where one is listed.
use Rattle.std.proofs.Common.{◌≡◌, ◌&&◌, Bool, true, false, not, is_none, is_some, List, [], Option, Some, None, option_and_then, refl, sym, ap, ◌∙◌}
use Rattle.std.specs.Prelude.{Contains, IsSomeAnd}
use Rattle.std.specs.Option.{option_map_or, option_or}
use Rattle.ob_base.specs.declared.id.Cell.{Cell}
use Rattle.ob_base.specs.declared.id.FieldNo.{FieldNo}
use Rattle.ob_base.specs.declared.id.ModelNo.{ModelNo}
use Rattle.ob_base.specs.declared.id.RecId.{RecId}
use Rattle.ob_base.specs.declared.value.Value.{Value}
use Rattle.ob_base.specs.declared.value.Value.TheVariants as value
use Rattle.ob_definition.specs.Types.{is_one2many}
use Rattle.ob_schema.specs.Fields.{is_plain_from, is_plain_kept}
use Rattle.ob_schema.specs.Links.{Sides}
use Rattle.ob_schema.specs.Models.{FieldHas, IsRegistry, field_at}
use Rattle.ob_schema.specs.Plain.{names, naming, plain_at, plain_by, plain_from}
use Rattle.ob_schema.specs.Tables.{PlainRow, kept_in, row_at}
use Rattle.ob_schema.specs.declared.info.FieldInfo.{FieldInfo}
use Rattle.ob_schema.specs.declared.info.ModelInfo.{ModelInfo}
use Rattle.ob_schema.specs.declared.info.Origin.{Origin}
use Rattle.ob_schema.specs.declared.info.Origin.TheVariants as origin
use Rattle.ob_sound.specs.EditsBreak.{IsGone, NamesGone}
use Rattle.ob_sound.specs.Lists.{IsNamedAlike, IsOfUneditedList}
use Rattle.ob_tables.proofs.CallerLemmas.{Field-at, is_there, plain_is, tell_and, told_and}
use Rattle.ob_sound.proofs.InTrees.{kept_by}
use Rattle.ob_sound.proofs.Named.{contains-stands, naming-has, same_naming}
use Rattle.ob_sound.proofs.Unedited.{plain_there}

module _ (models : List ModelInfo) (sides : Sides) (cell : Cell) (row_same : row_at sides.before cell.model cell.id ≡ row_at sides.behind cell.model cell.id) where
  -- the field gives each row the same on both sides
  abbrev GivesSame : FieldInfo → Type 0
  GivesSame info = (row : PlainRow) → plain_by sides.before info.inverse info.mirror info cell.field cell.id row ≡ plain_by sides.behind info.inverse info.mirror info cell.field cell.id row

  -- so the cell has the same
  same_by : (info : FieldInfo) → field_at models cell.model cell.field ≡ Some info → GivesSame info → plain_at sides.before models cell ≡ plain_at sides.behind models cell
  same_by info at same =
      ap (λ (f : Option FieldInfo). option_and_then (λ i. option_and_then (plain_from sides.before i.origin i cell.field cell.id) (row_at sides.before cell.model cell.id)) f) at
      ∙ ap (λ (r : Option PlainRow). option_and_then (plain_from sides.before info.origin info cell.field cell.id) r) row_same
      ∙ each (row_at sides.behind cell.model cell.id)
      ∙ sym (ap (λ (f : Option FieldInfo). option_and_then (λ i. option_and_then (plain_from sides.behind i.origin i cell.field cell.id) (row_at sides.behind cell.model cell.id)) f) at)
    where
      by : (o : Origin) (row : PlainRow) → plain_from sides.before o info cell.field cell.id row ≡ plain_from sides.behind o info cell.field cell.id row
      by origin.Id row = refl
      by origin.Plain row = ap (λ (v : Value). Some v) (same row)
      by (origin.Delegated to) row = refl
      by (origin.Computed formula) row = refl

      each : (r : Option PlainRow) → option_and_then (plain_from sides.before info.origin info cell.field cell.id) r ≡ option_and_then (plain_from sides.behind info.origin info cell.field cell.id) r
      each None = refl
      each (Some row) = by info.origin row

  -- a value that stands in the row
  pub own_same : FieldHas models (λ info. option_or info.inverse info.mirror ≡ None) cell.model cell.field → plain_at sides.before models cell ≡ plain_at sides.behind models cell
  own_same own =
      let f = told_and (field_at models cell.model cell.field) (λ info. option_or info.inverse info.mirror ≡ None) own in
      same_by f.0 f.1 (λ row. by f.0 row f.0.inverse f.0.mirror f.2)
    where
      by : (info : FieldInfo) (row : PlainRow) (inverse mirror : Option FieldNo) → option_or inverse mirror ≡ None
          → plain_by sides.before inverse mirror info cell.field cell.id row ≡ plain_by sides.behind inverse mirror info cell.field cell.id row
      by info row None None none = refl
      by info row (Some inverse) mirror none = absurd cc
      by info row None (Some mirror) none = absurd cc

  -- a list of no model
  pub unrelated_same : (info : FieldInfo) → field_at models cell.model cell.field ≡ Some info → info.relation ≡ None
      → plain_at sides.before models cell ≡ plain_at sides.behind models cell
  unrelated_same info at none = same_by info at (λ row. by row info.inverse info.mirror)
    where
      nothing : (field : FieldNo) → option_map_or (λ target. naming sides.before target field cell.id) info.relation [] ≡ option_map_or (λ target. naming sides.behind target field cell.id) info.relation []
      nothing field =
          ap (λ (r : Option ModelNo). option_map_or (λ target. naming sides.before target field cell.id) r []) none ∙ sym (ap (λ (r : Option ModelNo). option_map_or (λ target. naming sides.behind target field cell.id) r []) none)

      by : (row : PlainRow) (inverse mirror : Option FieldNo) → plain_by sides.before inverse mirror info cell.field cell.id row ≡ plain_by sides.behind inverse mirror info cell.field cell.id row
      by row None None = refl
      by row (Some inverse) mirror = ap (λ (ids : List RecId). value.Refs ids) (nothing inverse)
      by row None (Some mirror) = ap (λ (ids : List RecId). value.Refs ids) (nothing mirror)

  -- a list of rows that name it on both sides
  pub list_same : FieldHas models (IsOfUneditedList sides cell.id) cell.model cell.field → plain_at sides.before models cell ≡ plain_at sides.behind models cell
  list_same listed =
      let f = told_and (field_at models cell.model cell.field) (IsOfUneditedList sides cell.id) listed in
      same_by f.0 f.1 (λ row. by f.0 row f.0.inverse f.0.mirror f.2)
    where
      back : (info : FieldInfo) (field : FieldNo) (relation : Option ModelNo) → IsSomeAnd relation (λ model. IsNamedAlike sides model field cell.id)
          → option_map_or (λ target. naming sides.before target field cell.id) relation [] ≡ option_map_or (λ target. naming sides.behind target field cell.id) relation []
      back info field None alike = absurd alike
      back info field (Some model) alike = same_naming sides model field cell.id alike

      by : (info : FieldInfo) (row : PlainRow) (inverse mirror : Option FieldNo) → IsSomeAnd (option_or inverse mirror) (λ back. IsSomeAnd info.relation (λ model. IsNamedAlike sides model back cell.id))
          → plain_by sides.before inverse mirror info cell.field cell.id row ≡ plain_by sides.behind inverse mirror info cell.field cell.id row
      by info row None None alike = absurd alike
      by info row (Some inverse) mirror alike = ap (λ (ids : List RecId). value.Refs ids) (back info inverse info.relation alike)
      by info row None (Some mirror) alike = ap (λ (ids : List RecId). value.Refs ids) (back info mirror info.relation alike)

-- the parts of three tests
kept_parts : (p b m : Bool) → (p && (not b && m)) ≡ true → (p ≡ true) × (b ≡ false) × (m ≡ true)
kept_parts true false true kept = (refl, refl, refl)
kept_parts true false false kept = cc
kept_parts true true m kept = cc
kept_parts false b m kept = cc

no_some : {X : Type 0} (o : Option X) → is_none o ≡ true → is_some o ≡ false
no_some None is = refl
no_some (Some x) is = cc

pub gone_listed : (models : List ModelInfo) (sides : Sides) (cell : Cell) → IsRegistry models → NamesGone models sides cell
    → (id : RecId) × FieldHas models (λ info. (is_plain_kept info ≡ true) × IsSomeAnd info.relation (λ target. IsGone models sides target id)) cell.model cell.field × Contains (naming sides.behind cell.model cell.field id) cell.id
gone_listed models sides cell registry (there, named) =
    let Gone : FieldInfo → RecId → Type 0 = λ info id. IsSomeAnd info.relation (λ target. IsGone models sides target id) in
    let One : FieldInfo → Value → Type 0 = λ info v. (id : RecId) × (names id v ≡ true) × Gone info id in
    let f = told_and (field_at models cell.model cell.field) (λ info. (is_plain_kept info ≡ true) × IsSomeAnd (plain_at sides.behind models cell) (One info)) named in
    let v = told_and (plain_at sides.behind models cell) (One f.0) f.2.1 in
    let row = is_there (row_at sides.behind cell.model cell.id) there in
    let right = (Field-at models cell.model cell.field f.0 registry f.1).right in
    let parts = kept_parts (is_plain_from f.0.origin) (is_one2many f.0.field_type) (is_none f.0.mirror) f.2.0 in
    let has : plain_at sides.behind models cell ≡ Some (kept_in row.0 cell.field) =
    plain_there models sides.behind cell row.0 f.0 origin.Plain row.1 f.1 (plain_is f.0.origin parts.0)
    ∙ ap (λ (v : Value). Some v) (kept_by sides.behind f.0 cell.field cell.id row.0 f.0.inverse f.0.mirror (right.inverse ∙ parts.1) (no_some f.0.mirror parts.2)) in
    let value_is : Some v.0 ≡ Some (kept_in row.0 cell.field) = sym v.1 ∙ has in
    let same : v.0 ≡ kept_in row.0 cell.field = one v.0 (kept_in row.0 cell.field) value_is in
    let names_it = sym (ap (λ (w : Value). names v.2.0 w) same) ∙ v.2.1 in (
      v.2.0,
      tell_and (field_at models cell.model cell.field) f.0 (λ info. (is_plain_kept info ≡ true) × Gone info v.2.0) f.1 (f.2.0, v.2.2),
      contains-stands cell.id (naming sides.behind cell.model cell.field v.2.0)
          (naming-has sides.behind cell.model cell.field v.2.0 cell.id (tell_and (row_at sides.behind cell.model cell.id) row.0 (λ row. names v.2.0 (kept_in row cell.field) ≡ true) row.1 names_it)),
    )
  where
    one : (a b : Value) → Some a ≡ Some b → a ≡ b
    one a b is = cc
