-- What calls may not do, and rows that modules bring do: it is found, or there is nothing of it.
use Rattle.std.proofs.Common.{◌≡◌, ◌<◌, ◌≤◌, ◌==◌, ◌&&◌, ℕ, suc, min, Bool, true, false, List, length, get_or, slice_index, Option, Some, None, refl, sym, ap, subst, ◌∙◌, inl, inr, arith}
use Rattle.std.specs.Prelude.{All, IfSome, IsSome, IsSomeAnd, position, slice_get, ⊤}
use Rattle.std.proofs.lemmas.Bool.{cases_lt, false≢true}
use Rattle.std.proofs.lemmas.List.Quantifiers.{position-Some}
use Rattle.std.proofs.lemmas.Option.{slice_get-get_or}
use Rattle.ob_base.specs.declared.id.Cell.{Cell}
use Rattle.ob_base.specs.declared.id.FieldNo.{FieldNo}
use Rattle.ob_base.specs.declared.id.ModelNo.{ModelNo}
use Rattle.ob_base.specs.declared.id.RecId.{RecId}
use Rattle.ob_base.specs.declared.refusal.Broken.{Broken}
use Rattle.ob_base.specs.declared.refusal.BrokenKind.{BrokenKind}
use Rattle.ob_base.specs.declared.refusal.BrokenKind.TheVariants as kind
use Rattle.ob_install.proofs.PlacedRows.{count_of}
use Rattle.ob_install.proofs.RowOwners.{a_edit, its-own, makes-row, one-owner, owner-made, past-there, row_key, unmade-absent, upto-absent}
use Rattle.ob_rows.specs.Values.{is_readonly}
use Rattle.ob_install.specs.Install.{Course, IsMadeFor, IsOfManaged, IsValueFor, is_of_group}
use Rattle.ob_orm.specs.NewRowSteps.{MakesRow}
use Rattle.ob_install.specs.InstallSteps.{AreCounted, ArePlaced, FindsBy, FindsManaged, Forbids, HasOwnInfo, IsFound, IsFoundBy, IsOwner, IsWhole, course_of, makes}
use Rattle.ob_install.specs.declared.installing.placing.Placed.{Placed}
use Rattle.ob_schema.specs.Models.{HasField, IsOriginIn, IsParentIn, IsRegistry, field_at, is_given_from, is_id_from, model_at}
use Rattle.ob_schema.specs.Fields.{is_plain_from}
use Rattle.ob_schema.specs.Tables.{Tables, key_of}
use Rattle.ob_schema.specs.declared.info.Delegation.{Delegation}
use Rattle.ob_schema.specs.declared.info.FieldInfo.{FieldInfo}
use Rattle.ob_schema.specs.declared.info.ModelInfo.{ModelInfo}
use Rattle.ob_schema.specs.declared.info.Origin.{Origin}
use Rattle.ob_schema.specs.declared.info.Origin.TheVariants as origin
use Rattle.ob_schema.specs.declared.info.ParentInfo.{ParentInfo}
use Rattle.ob_base.specs.declared.value.Value.{Value}
use Rattle.ob_schema.specs.declared.preset.PresetRow.{PresetRow}
use Rattle.ob_tables.proofs.CallerLemmas.{Any-at_all, Field-at, known_at, tell_and, there_is, told_and}
use Rattle.ob_tables.specs.declared.edit.Edit.{Edit}
use Rattle.ob_tables.specs.declared.edit.Edit.TheVariants as edit

-- ---- delegated fields

-- a plain field is given
plain-given : (o : Origin) → is_plain_from o ≡ true → is_given_from o ≡ true
plain-given origin.Plain is = refl
plain-given _ is = absurd (false≢true is)

module _ (models : List ModelInfo) (registry : IsRegistry models) (model : ModelNo) (number : FieldNo) (field : FieldInfo) (to : Delegation)
    (at : field_at models model number ≡ Some field) (is : field.origin ≡ origin.Delegated to) where
  -- the parent has the field
  pub target-there : HasField models to.model to.field
  target-there =
      let known = Field-at models model number field registry at in
      let right = subst (λ (o : Origin). IsOriginIn models model known.info field o) is known.right.origin in
      let (other, there, keys) = told_and (field_at models to.model to.field) _ right.target in
      there_is (field_at models to.model to.field) other there

  -- and the link is a plain field
  pub link-given : IsSomeAnd (field_at models model to.link) (λ info. is_given_from info.origin ≡ true)
  link-given =
      let known = Field-at models model number field registry at in
      let right = subst (λ (o : Origin). IsOriginIn models model known.info field o) is known.right.origin in
      let (parent, said, leads) = Any-at_all (λ (p : ParentInfo). (p.link ≡ to.link) × (p.model ≡ to.model)) (IsParentIn models model) known.info.inherits known.valid.parents right.link in
      let (link, there, plain) = told_and (field_at models model parent.link) _ leads.link in
      tell_and (field_at models model to.link) link (λ info. is_given_from info.origin ≡ true) (ap (field_at models model) (sym said.0) ∙ there) (plain-given link.origin plain.0.plain)

-- the field of a cell for which a value stands
pub stands-info : (models : List ModelInfo) (at : Course) (tables : Tables) (model : ModelNo) (id : RecId) (field : FieldNo) (own info : FieldInfo) (cell : Cell)
    → field_at models model field ≡ Some own → HasOwnInfo models model field own.origin info
    → IsValueFor models at tables (record { model = model; id = id; field = field }) own.origin cell → field_at models cell.model cell.field ≡ Some info
stands-info models at tables model id field own info cell there = by own.origin where
  by : (o : Origin) → HasOwnInfo models model field o info → IsValueFor models at tables (record { model = model; id = id; field = field }) o cell → field_at models cell.model cell.field ≡ Some info
  by (origin.Delegated to) has stands = (λ i. field_at models (stands.1 i) (stands.2 i)) ∙ has
  by _ has stands = ap (λ (c : Cell). field_at models c.model c.field) stands ∙ has

-- ---- rows of groups

-- the row of a number, by its place
pub at-number : (rows : List PresetRow) (n : ℕ) (row : PresetRow) → n < length rows → row ≡ get_or rows n row → slice_get rows n ≡ Some row
at-number rows n row within own = slice_get-get_or rows n row within ∙ ap Some (sym own)

-- a test that comes out two ways
pub both-ways : {X : Type 0} (o : Option X) (test : X → Bool) → IsSomeAnd o (λ x. test x ≡ false) → IsSomeAnd o (λ x. test x ≡ true) → ⊥
both-ways None test un on = un
both-ways (Some x) test un on = false≢true (sym un ∙ on)

-- what is known of the row of an owner is known of that of another one
pub owner-group : (placed : Placed) (counted : AreCounted placed) (each : length placed.ids.items ≡ length placed.rows.now) (cell : Cell) (m : ℕ) (row : PresetRow) (test : Bool)
    → IsOwner placed cell m → row ≡ get_or placed.rows.now m row
    → is_of_group row ≡ test → (n : ℕ) → IsOwner placed cell n → IsSomeAnd (slice_get placed.rows.now n) (λ r. is_of_group r ≡ test)
owner-group placed counted each cell m row test own is group n other =
    let same : m ≡ n = one-owner placed counted cell m n own other in
    let within = own.within in
    subst (λ (k : ℕ). IsSomeAnd (slice_get placed.rows.now k) (λ r. is_of_group r ≡ test)) same
    (tell_and (slice_get placed.rows.now m) row (λ r. is_of_group r ≡ test) (at-number placed.rows.now m row (omega (arith, each, within)) is) group)

-- ---- edits that make one row

same-makes : (a b : Cell) → row_key a ≡ row_key b → (one : Edit) → makes a one ≡ makes b one
same-makes a b same (edit.Make model id values) = λ i. (model.0 == (same i).model.0) && (id.0 == (same i).id.0)
same-makes a b same (edit.Set cell v) = refl
same-makes a b same (edit.Gone model id) = refl

pub makes-cell : (cell : Cell) (one : Edit) (model : ModelNo) (id : RecId) (values : List (FieldNo × Value)) → one ≡ edit.Make model id values → (cell.model ≡ model) × (cell.id ≡ id) → makes cell one ≡ true
makes-cell cell one model id values is same = ap (makes cell) is ∙ its-own cell model id (λ i. key_of (same.0 i) (same.1 i))

-- the owner of a row is that of each of its cells
pub same-owner : (placed : Placed) (a b : Cell) (n : ℕ) → row_key a ≡ row_key b → IsOwner placed a n → IsOwner placed b n
same-owner placed a b n same own = record {
  place = own.place;
  made = sym (λ i. position (λ (e : Edit). same-makes a b same e i) placed.making.edits.items) ∙ own.made;
  within = own.within;
  before = own.before;
  behind = own.behind;
}

module _ (models : List ModelInfo) (placed : Placed) (fit : ArePlaced models placed) (cell : Cell) where
  -- a row that is made for one of these has it as its owner
  pub made-owned : (n : ℕ) → IsMadeFor models (course_of models placed) n (row_key cell) → IsOwner placed cell n
  made-owned n is = by (position (makes cell) placed.making.edits.items) refl where
    inside : (n place : ℕ) → slice_index placed.counts.items (min n (count_of placed)) ≤ place → place < slice_index placed.counts.items (min (suc n) (count_of placed)) → n < count_of placed
    inside n place low high = elim (cases_lt n (count_of placed)) [
      | inl less ↦ less
      | inr past ↦
          let same : min (suc n) (count_of placed) ≡ min n (count_of placed) = omega arith in
          let e = ap (slice_index placed.counts.items) same in
          absurd (omega (arith, low, high, e))
    ]

    by : (o : Option ℕ) → position (makes cell) placed.making.edits.items ≡ o → IsOwner placed cell n
    by None none = absurd (unmade-absent models placed fit cell none (suc n) is.there)
    by (Some place) found =
        let low = upto-absent models placed fit cell place found n is.absent in
        let high = past-there models placed fit cell place found (suc n) is.there in
        let within : n < count_of placed = inside n place low high in
        let here : min n (count_of placed) ≡ n = omega arith in
        let next : min (suc n) (count_of placed) ≡ suc n = omega arith in
        record {
          place = place;
          made = found;
          within = within;
          before = let e = ap (slice_index placed.counts.items) here in omega (arith, low, e);
          behind = let e = ap (slice_index placed.counts.items) next in omega (arith, high, e);
        }

-- ---- rows of managed models

module _ (models : List ModelInfo) (placed : Placed) (whole : IsWhole models placed) where
  abbrev at : Course
  at = course_of models placed

  -- the cell of the id of a row of a managed model
  pub managed-cell : (model : ModelNo) (id : RecId) (info : ModelInfo) (cell : Cell) → model_at models model ≡ Some info → info.managed ≡ true → (cell.model ≡ model) × (cell.id ≡ id)
      → IsSomeAnd (field_at models model cell.field) (λ f. is_id_from f.origin ≡ true) → IsOfManaged models at cell
  managed-cell model id info cell there managed same of_id = (
    tell_and (model_at models cell.model) info (λ i. i.managed ≡ true) (ap (model_at models) same.0 ∙ there) managed,
    subst (λ (m : ModelNo). IsSomeAnd (field_at models m cell.field) (λ f. is_id_from f.origin ≡ true)) (sym same.0) of_id,
  )

  -- what comes of a row of a managed model that an edit makes
  pub managed-made : (one : Edit) (cell : Cell) (r : Option Broken) → makes cell one ≡ true → IsOfManaged models at cell → IfSome r (λ b. b ≡ record { kind = kind.Managed; cell = cell })
      → (IsSome r → (n : ℕ) × IsOwner placed cell n × IsSomeAnd (slice_get placed.rows.now n) (λ row. is_of_group row ≡ false))
      → (r ≡ None → (n : ℕ) → IsOwner placed cell n → IsSomeAnd (slice_get placed.rows.now n) (λ row. is_of_group row ≡ true))
      → FindsManaged models at (λ other. makes other one ≡ true) r
  managed-made one cell (Some b) made managed is owned none =
      let (n, own, group) = owned refl in
      let (id, there, of_id) = told_and (field_at models cell.model cell.field) (λ info. is_id_from info.origin ≡ true) managed.1 in
      subst (IsFound models at) (sym is) (record {
        number = n;
        field = there_is (field_at models cell.model cell.field) id there;
        owner = owner-made models placed whole.fit cell n own;
        why = (group, inl managed);
      })
  managed-made one cell None made managed is owned none = λ other among row.
      let key : row_key other ≡ row_key cell = same-row other cell one among made in
      let own = same-owner placed other cell row.number key (made-owned models placed whole.fit other row.number row.owner) in
      both-ways (slice_get placed.rows.now row.number) is_of_group row.no_group (none refl row.number own) where
        of-one : (a b : Cell) (e : Edit) → MakesRow (row_key a) e → MakesRow (row_key b) e → row_key a ≡ row_key b
        of-one a b (edit.Make m i values) x y = x ∙ sym y
        of-one a b (edit.Set c v) x y = absurd x
        of-one a b (edit.Gone m i) x y = absurd x

        same-row : (a b : Cell) (e : Edit) → makes a e ≡ true → makes b e ≡ true → row_key a ≡ row_key b
        same-row a b e x y = of-one a b e (makes-row a e x) (makes-row b e y)

  -- there is none among all, where there is none by any edit
  pub unmanaged-all : (edits : List Edit) → edits ≡ placed.making.edits.items → All (λ e. FindsManaged models at (λ cell. makes cell e ≡ true) None) edits → FindsManaged models at (λ _. ⊤) None
  unmanaged-all edits are each = λ cell among row.
      let own = made-owned models placed whole.fit cell row.number row.owner in
      let found = position-Some (makes cell) placed.making.edits.items own.place a_edit own.made in
      let all = subst (All (λ e. FindsManaged models at (λ cell. makes cell e ≡ true) None)) are each in
      all own.place a_edit found.0 cell found.1 row

-- ---- what values give

module _ (models : List ModelInfo) (at : Course) where
  -- what is forbidden of some cells is forbidden of more
  pub forbids-more : (P Q : Cell → Type 0) (by n : ℕ) (k : BrokenKind) (cell : Cell) → (P cell → Q cell) → Forbids models at P by n k cell → Forbids models at Q by n k cell
  forbids-more P Q by n kind.Managed cell more h = (h.0, h.1, more h.2)
  forbids-more P Q by n kind.Fixed cell more h = (h.0, more h.1, h.2)
  forbids-more P Q by n _ cell more h = absurd h

  pub found-more : (P Q : Cell → Type 0) (by : ℕ) (b : Broken) → ((cell : Cell) → P cell → Q cell) → IsFoundBy models at P by b → IsFoundBy models at Q by b
  found-more P Q by b more h = record { number = h.number; field = h.field; owner = h.owner; why = forbids-more P Q by h.number b.kind b.cell (more b.cell) h.why }

  -- nothing is forbidden of fewer cells
  pub none-fewer : (P Q : Cell → Type 0) (by : ℕ) → ((cell : Cell) → P cell → Q cell) → FindsBy models at Q by None → FindsBy models at P by None
  none-fewer P Q by more none = λ n b made h. none n b made (forbids-more P Q by n b.kind b.cell (more b.cell) h)

  -- nothing is where nothing is given
  pub none-given : (P : Cell → Type 0) (by : ℕ) → ((cell : Cell) → P cell → ⊥) → FindsBy models at P by None
  none-given P by never = λ n b made h. away b.kind b.cell n h where
    away : (k : BrokenKind) (cell : Cell) (n : ℕ) → Forbids models at P by n k cell → ⊥
    away kind.Managed cell n h = never cell h.2
    away kind.Fixed cell n h = never cell h.1
    away _ cell n h = h

  -- nor where the fields are free
  pub none-watched : (P : Cell → Type 0) (by : ℕ) (info : FieldInfo)
      → ((cell : Cell) → P cell → field_at models cell.model cell.field ≡ Some info) → info.fixed ≡ false → is_readonly models info ≡ false → FindsBy models at P by None
  none-watched P by info of free let_in = λ n b made h. away b.kind b.cell n h where
    away : (k : BrokenKind) (cell : Cell) (n : ℕ) → Forbids models at P by n k cell → ⊥
    away kind.Managed cell n h = false≢true (sym let_in ∙ known_at (field_at models cell.model cell.field) info (λ i. is_readonly models i ≡ true) (of cell h.2) h.1)
    away kind.Fixed cell n h = false≢true (sym free ∙ known_at (field_at models cell.model cell.field) info (λ i. i.fixed ≡ true) (of cell h.1) h.0)
    away _ cell n h = h
