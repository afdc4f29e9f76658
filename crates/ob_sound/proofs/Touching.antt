-- Edits touch their own rows alone; and a cell that is edited is of a touched row, or its list has one.
use Rattle.std.proofs.Common.{◌≡◌, ◌≢◌, ◌⊎◌, inl, inr, Bool, true, false, List, [], ◌∷◌, map, Option, Some, None, option_and_then, refl, sym, ap, subst, ◌∙◌}
use Rattle.std.specs.Prelude.{◌↔◌, Contains, IsSomeAnd}
use Rattle.std.specs.Cmp.{tied_itself}
use Rattle.std.specs.Option.{option_or}
use Rattle.std.specs.Ordering.{is_eq}
use Rattle.std.proofs.lemmas.Map.Views.{tells_apart}
use Rattle.ob_base.specs.Ids.{row_key_cmp}
use Rattle.ob_base.specs.declared.id.Cell.{Cell}
use Rattle.ob_base.specs.declared.id.FieldNo.{FieldNo}
use Rattle.ob_base.specs.declared.id.ModelNo.{ModelNo}
use Rattle.ob_base.specs.declared.id.RecId.{RecId}
use Rattle.ob_base.specs.declared.id.RowKey.{RowKey}
use Rattle.ob_schema.proofs.CallerLemmas.{contains-cases, contains-first, contains-later, contains-none}
use Rattle.ob_schema.specs.Links.{Sides}
use Rattle.ob_schema.specs.Models.{field_at}
use Rattle.ob_schema.specs.Plain.{names, plain_at, plain_from}
use Rattle.ob_schema.specs.Tables.{PlainRow, Tables, key_of, kept_in, row_at}
use Rattle.ob_schema.specs.declared.info.FieldInfo.{FieldInfo}
use Rattle.ob_schema.specs.declared.info.ModelInfo.{ModelInfo}
use Rattle.ob_sound.specs.Lists.{IsNamedAlike, IsOfUneditedList, NamesBy}
use Rattle.ob_sound.specs.Touched.{IsOfTouchedList, IsTouched, NamesOneSide, TouchesOnly}
use Rattle.ob_tables.proofs.CallerLemmas.{exact_rows, rows_total, some_or_none, tell_and}
use Rattle.ob_tables.specs.After.{after, edited}
use Rattle.ob_tables.specs.Changes.{edited_row}
use Rattle.ob_tables.specs.declared.edit.Edit.{Edit}
use Rattle.ob_trigger.specs.Affected.{Edited}
use Rattle.ob_sound.proofs.Alone.{list_same, own_same, unrelated_same}

-- rows are one or two
same_key : (a b : RowKey) → (a ≡ b) ⊎ (a ≢ b)
same_key a b = by (is_eq (row_key_cmp a b)) refl
  where
    by : (r : Bool) → is_eq (row_key_cmp a b) ≡ r → (a ≡ b) ⊎ (a ≢ b)
    by true is = inl (tells_apart exact_rows a b is)
    by false is = inr (λ same. let both : true ≡ false = sym (ap (λ (k : RowKey). is_eq (row_key_cmp a k)) (sym same) ∙ ap is_eq (tied_itself rows_total a)) ∙ is in cc)

-- ---- edits

-- one edit leaves other rows
abbrev pub LeavesOthers : List ModelInfo → Type 0
LeavesOthers models = (tables : Tables) (one : Edit) (model : ModelNo) (id : RecId) → key_of model id ≢ edited_row one → row_at (edited models tables one) model id ≡ row_at tables model id

pub touches_own : (models : List ModelInfo) → LeavesOthers models → (tables : Tables) (edits : List Edit) (model : ModelNo) (id : RecId)
    → (row_at tables model id ≡ row_at (after models tables edits) model id) ⊎ Contains (map edited_row edits) (key_of model id)
touches_own models leaves tables [] model id = inl refl
touches_own models leaves tables (one ∷ edits) model id = by (same_key (key_of model id) (edited_row one)) (touches_own models leaves (edited models tables one) edits model id)
  where
    by : (key_of model id ≡ edited_row one) ⊎ (key_of model id ≢ edited_row one)
        → (row_at (edited models tables one) model id ≡ row_at (after models (edited models tables one) edits) model id) ⊎ Contains (map edited_row edits) (key_of model id)
        → (row_at tables model id ≡ row_at (after models (edited models tables one) edits) model id) ⊎ Contains (edited_row one ∷ map edited_row edits) (key_of model id)
    by own (inr later) = inr (contains-later (edited_row one) (map edited_row edits) (key_of model id) later)
    by (inl is) (inl same) = inr (subst (λ (k : RowKey). Contains (edited_row one ∷ map edited_row edits) k) (sym is) (contains-first (edited_row one) (map edited_row edits)))
    by (inr other) (inl same) = inl (sym (leaves tables one model id other) ∙ same)

-- ---- cells

-- a row names another, or doesn't
named_or_not : (tables : Tables) (model : ModelNo) (field : FieldNo) (id child : RecId) → NamesBy tables model field id child ⊎ (NamesBy tables model field id child → ⊥)
named_or_not tables model field id child = by (row_at tables model child)
  where
    tested : (b : Bool) → (b ≡ true) ⊎ (b ≡ true → ⊥)
    tested true = inl refl
    tested false = inr (λ is. cc)

    by : (row : Option PlainRow) → IsSomeAnd row (λ row. names id (kept_in row field) ≡ true) ⊎ (IsSomeAnd row (λ row. names id (kept_in row field) ≡ true) → ⊥)
    by None = inr (λ none. none)
    by (Some row) = tested (names id (kept_in row field))

module _ (sides : Sides) (model : ModelNo) (field : FieldNo) (id : RecId) where
  -- before the change or behind it
  abbrev NamesOnce : RecId → Type 0
  NamesOnce child = NamesBy sides.before model field id child ⊎ NamesBy sides.behind model field id child

  -- it is there and names it
  abbrev IsNaming : Option PlainRow → Type 0
  IsNaming row = IsSomeAnd row (λ row. names id (kept_in row field) ≡ true)

  once_or_not : (child : RecId) → NamesOnce child ⊎ (NamesOnce child → ⊥)
  once_or_not child = by (named_or_not sides.before model field id child) (named_or_not sides.behind model field id child)
    where
      by : NamesBy sides.before model field id child ⊎ (NamesBy sides.before model field id child → ⊥) → NamesBy sides.behind model field id child ⊎ (NamesBy sides.behind model field id child → ⊥)
          → NamesOnce child ⊎ (NamesOnce child → ⊥)
      by (inl was) now = inl (inl was)
      by (inr not) (inl is) = inl (inr is)
      by (inr not) (inr none) = inr (λ either. elim either [ inl was ↦ not was | inr is ↦ none is ])

  -- none of these rows names it
  abbrev NoneNames : List RowKey → Type 0
  NoneNames keys = (child : RecId) → Contains keys (key_of model child) → NamesOnce child → ⊥

  -- one of these rows names it, or none does
  some_or_all_not : (keys : List RowKey) → NamesOneSide keys sides model field id ⊎ NoneNames keys
  some_or_all_not [] = inr (λ child among. absurd (contains-none (key_of model child) among))
  some_or_all_not (key ∷ keys) = by (some_or_all_not keys) (same_key (key_of model key.id) key) (once_or_not key.id)
    where
      by : NamesOneSide keys sides model field id ⊎ NoneNames keys → (key_of model key.id ≡ key) ⊎ (key_of model key.id ≢ key) → NamesOnce key.id ⊎ (NamesOnce key.id → ⊥)
          → NamesOneSide (key ∷ keys) sides model field id ⊎ NoneNames (key ∷ keys)
      by (inl (child, among, named)) own once = inl (child, contains-later key keys (key_of model child) among, named)
      by (inr none) (inl is) (inl named) = inl (key.id, subst (λ (k : RowKey). Contains (key ∷ keys) k) (sym is) (contains-first key keys), named)
      by (inr none) (inl is) (inr not) = inr (λ child among named. elim (contains-cases key keys (key_of model child) among) [
        | inl same ↦ not (subst NamesOnce (sym (ap (λ (k : RowKey). k.id) same)) named)
        | inr later ↦ none child later named
      ])
      by (inr none) (inr other) once = inr (λ child among named. elim (contains-cases key keys (key_of model child) among) [
        | inl same ↦ other (ap (λ (k : RowKey). key_of model k.id) same ∙ sym same)
        | inr later ↦ none child later named
      ])

  -- if none of the touched rows names it, the same rows do on both sides
  alike : (keys : List RowKey) → TouchesOnly keys sides → NoneNames keys → IsNamedAlike sides model field id
  alike keys touches none child = by (touches model child)
    where
      by : (row_at sides.before model child ≡ row_at sides.behind model child) ⊎ Contains keys (key_of model child) → NamesBy sides.before model field id child ↔ NamesBy sides.behind model field id child
      by (inl same) = (λ was. subst IsNaming same was, λ is. subst IsNaming (sym same) is)
      by (inr among) = (λ was. absurd (none child among (inl was)), λ is. absurd (none child among (inr is)))

module _ (models : List ModelInfo) (sides : Sides) (keys : List RowKey) (touches : TouchesOnly keys sides) (cell : Cell) (edited : Edited models sides cell) where
  -- a cell of a row that isn't touched, by its field
  through : row_at sides.before cell.model cell.id ≡ row_at sides.behind cell.model cell.id → (info : FieldInfo) → field_at models cell.model cell.field ≡ Some info → IsTouched models keys sides cell
  through same info at = by (option_or info.inverse info.mirror) refl info.relation refl
    where
      listed : (back : FieldNo) (target : ModelNo) → option_or info.inverse info.mirror ≡ Some back → info.relation ≡ Some target → NamesOneSide keys sides target back cell.id → IsTouched models keys sides cell
      listed back target backs leads found = inr (
          tell_and (field_at models cell.model cell.field) info (IsOfTouchedList keys sides cell.id) at (
          tell_and (option_or info.inverse info.mirror) back (λ back. IsSomeAnd info.relation (λ model. NamesOneSide keys sides model back cell.id)) backs
          (tell_and info.relation target (λ model. NamesOneSide keys sides model back cell.id) leads found)
          )
          )

      unlisted : (back : FieldNo) (target : ModelNo) → option_or info.inverse info.mirror ≡ Some back → info.relation ≡ Some target → IsNamedAlike sides target back cell.id → ⊥
      unlisted back target backs leads named = edited (list_same models sides cell same (
          tell_and (field_at models cell.model cell.field) info (IsOfUneditedList sides cell.id) at (
          tell_and (option_or info.inverse info.mirror) back (λ back. IsSomeAnd info.relation (λ model. IsNamedAlike sides model back cell.id)) backs
          (tell_and info.relation target (λ model. IsNamedAlike sides model back cell.id) leads named)
          )
          ))

      by : (back : Option FieldNo) → option_or info.inverse info.mirror ≡ back → (relation : Option ModelNo) → info.relation ≡ relation → IsTouched models keys sides cell
      by None none relation leads = absurd (edited (own_same models sides cell same (tell_and (field_at models cell.model cell.field) info (λ info. option_or info.inverse info.mirror ≡ None) at none)))
      by (Some back) backs None leads = absurd (edited (unrelated_same models sides cell same info at leads))
      by (Some back) backs (Some target) leads = elim (some_or_all_not sides target back cell.id keys) [
        | inl found ↦ listed back target backs leads found
        | inr none ↦ absurd (unlisted back target backs leads (alike sides target back cell.id keys touches none))
      ]

  -- a cell of no field has no plain value
  no_field : field_at models cell.model cell.field ≡ None → plain_at sides.before models cell ≡ plain_at sides.behind models cell
  no_field none = each sides.before ∙ sym (each sides.behind)
    where
      each : (tables : Tables) → plain_at tables models cell ≡ None
      each tables = ap (λ (f : Option FieldInfo). option_and_then (λ i. option_and_then (plain_from tables i.origin i cell.field cell.id) (row_at tables cell.model cell.id)) f) none

  pub edited_touched : IsTouched models keys sides cell
  edited_touched = elim (touches cell.model cell.id) [
    | inr among ↦ inl among
    | inl same ↦ elim (some_or_none (field_at models cell.model cell.field)) [
      | inl none ↦ absurd (edited (no_field none))
      | inr some ↦ through same some.0 some.1
    ]
  ]
