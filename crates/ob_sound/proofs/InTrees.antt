-- Rows of a tree whose parents aren't edited have the parents that they had.
use Rattle.std.proofs.Common.{◌≡◌, inl, inr, ℕ, zero, suc, ◌≤◌, Bool, true, false, not, ◌&&◌, is_none, is_some, List, Option, Some, None, refl, sym, ap, subst, ◌∙◌, arith, eq-eqb}
use Rattle.std.specs.Prelude.{IsSome, IsSomeAnd}
use Rattle.std.proofs.lemmas.Bool.{cases_lt}
use Rattle.ob_base.specs.declared.id.Cell.{Cell}
use Rattle.ob_base.specs.declared.id.FieldNo.{FieldNo}
use Rattle.ob_base.specs.declared.id.ModelNo.{ModelNo}
use Rattle.ob_base.specs.declared.id.RecId.{RecId}
use Rattle.ob_base.specs.declared.value.Value.{Value}
use Rattle.ob_base.specs.declared.value.Value.TheVariants as value
use Rattle.ob_definition.specs.Keys.{is_many2many}
use Rattle.ob_definition.specs.Types.{is_one2many}
use Rattle.ob_definition.specs.declared.field_type.FieldType.{FieldType}
use Rattle.ob_definition.specs.declared.field_type.FieldType.TheVariants as type
use Rattle.ob_schema.specs.Chains.{Reaches, ReachesOver}
use Rattle.ob_schema.specs.Fields.{is_plain_from, is_plain_kept}
use Rattle.ob_schema.specs.Links.{Sides}
use Rattle.ob_schema.specs.Models.{FieldHas, IsPlainTo, IsRegistry, field_at, model_at}
use Rattle.ob_schema.specs.Plain.{names, plain_at, plain_by}
use Rattle.ob_schema.specs.Tables.{PlainRow, Tables, kept_in, row_at}
use Rattle.ob_schema.specs.Tied.{Dangles, HasDepth, IsCircled, IsLeastOf, IsParentIn, IsTooDeep}
use Rattle.ob_schema.specs.declared.info.FieldInfo.{FieldInfo}
use Rattle.ob_schema.specs.declared.info.ModelInfo.{ModelInfo}
use Rattle.ob_schema.specs.declared.info.Origin.{Origin}
use Rattle.ob_schema.specs.declared.info.Origin.TheVariants as origin
use Rattle.ob_sound.specs.EditsBreak.{IsAtOrBelow}
use Rattle.ob_tables.proofs.CallerLemmas.{Field-at, is_there, known_if, plain_is, some_or_none, tell_and, there_is, told_and}
use Rattle.ob_trigger.specs.Affected.{Edited}
use Rattle.ob_sound.proofs.Chained.{reaches_next, reaches_then}
use Rattle.ob_sound.proofs.Unedited.{plain_there, row_before, value_before}

-- where no row is the least of a kind, no row is of that kind
pub none_of : (models : List ModelInfo) (tables : Tables) (P : ModelNo → FieldNo → RecId → Type 0) (model : ModelNo) (parent : FieldNo) → IsSomeAnd (model_at models model) (λ info. info.parent ≡ Some parent)
    → ((cell : Cell) → IsLeastOf models tables P cell → ⊥) → (n : ℕ) (id : RecId) → id.0 ≤ n → IsSome (row_at tables model id) → P model parent id → ⊥
none_of models tables P model parent tree none zero id le there holds = none (record { model = model; id = id; field = parent }) (tree, there, holds, λ other _ _. omega arith)
none_of models tables P model parent tree none (suc n) id le there holds =
    none (record { model = model; id = id; field = parent }) (
      tree,
      there,
      holds,
      λ other there' holds'. elim (cases_lt other.0 id.0) [ inl less ↦ absurd (none_of models tables P model parent tree none n other (omega arith) there' holds') | inr high ↦ high ],
    )

-- a field with no field back keeps its value in the row
pub kept_by : (tables : Tables) (f : FieldInfo) (field : FieldNo) (id : RecId) (row : PlainRow) (inverse mirror : Option FieldNo) → is_some inverse ≡ false → is_some mirror ≡ false
    → plain_by tables inverse mirror f field id row ≡ kept_in row field
kept_by tables f field id row None None no_inverse no_mirror = refl
kept_by tables f field id row (Some inverse) mirror no_inverse no_mirror = absurd cc
kept_by tables f field id row None (Some mirror) no_inverse no_mirror = absurd cc

-- there is none where it isn't so that there is one
is_none_of : {X : Type 0} (o : Option X) → is_some o ≡ false → is_none o ≡ true
is_none_of None is = refl
is_none_of (Some x) is = absurd cc

no_many2many : (b : Bool) → (b ≡ true → is_many2many type.Many2one ≡ true) → b ≡ false
no_many2many true many = absurd (let both : false ≡ true = many refl in cc)
no_many2many false many = refl

-- what is known of the parent field of a tree
pub record ParentField (models : List ModelInfo) (model : ModelNo) (parent : FieldNo) : Type 0 where
  pub info : FieldInfo
  pub info_at : field_at models model parent ≡ Some info
  pub plain : info.origin ≡ origin.Plain
  pub leads : info.relation ≡ Some model
  pub no_inverse : is_some info.inverse ≡ false
  pub no_mirror : is_some info.mirror ≡ false
  pub kept : is_plain_kept info ≡ true

all_kept : (o : Origin) (t : FieldType) (m : Option FieldNo) → o ≡ origin.Plain → t ≡ type.Many2one → is_some m ≡ false → (is_plain_from o && (not (is_one2many t) && is_none m)) ≡ true
all_kept o t m plain many2one none =
    ap (λ (p : Origin). is_plain_from p && (not (is_one2many t) && is_none m)) plain ∙ ap (λ (u : FieldType). true && (not (is_one2many u) && is_none m)) many2one
    ∙ ap (λ (b : Bool). true && (true && b)) (is_none_of m none)

pub ParentField-at : (models : List ModelInfo) → IsRegistry models → (model : ModelNo) (parent : FieldNo) → IsSomeAnd (model_at models model) (λ info. info.parent ≡ Some parent) → ParentField models model parent
ParentField-at models registry model parent tree =
    let m = told_and (model_at models model) (λ info. info.parent ≡ Some parent) tree in
    let Is : FieldInfo → Type 0 = λ field. IsPlainTo model field × (field.field_type ≡ type.Many2one) in
    let has : FieldHas models Is model parent = known_if m.0.parent parent (FieldHas models Is model) m.2 (registry.each model m.0 m.1).parent in
    let f = told_and (field_at models model parent) Is has in
    let right = (Field-at models model parent f.0 registry f.1).right in
    let plain = plain_is f.0.origin f.2.0.plain in
    let no_mirror = no_many2many (is_some f.0.mirror) (λ some. sym (ap is_many2many f.2.1) ∙ right.mirror some) in
    record {
      info = f.0;
      info_at = f.1;
      plain = plain;
      leads = f.2.0.leads;
      no_inverse = right.inverse ∙ ap is_one2many f.2.1;
      no_mirror = no_mirror;
      kept = all_kept f.0.origin f.0.field_type f.0.mirror plain f.2.1 no_mirror;
    }

module _ (models : List ModelInfo) (sides : Sides) (model : ModelNo) (parent : FieldNo) (field : ParentField models model parent) where
  -- the cell of a row's parent field
  abbrev pub cell_of : RecId → Cell
  cell_of id = record { model = model; id = id; field = parent }

  abbrev Is : Tables → RecId → Type 0
  Is tables id = IsSome (row_at tables model id)

  abbrev Up : Tables → RecId → RecId → Type 0
  Up tables id other = IsParentIn models tables model parent id other

  -- the change doesn't edit a row's parent
  abbrev pub IsQuiet : RecId → Type 0
  IsQuiet id = Edited models sides (cell_of id) → ⊥

  -- what its cell has is what the row keeps
  value_kept : (tables : Tables) (id : RecId) (row : PlainRow) → row_at tables model id ≡ Some row → plain_at tables models (cell_of id) ≡ Some (kept_in row parent)
  value_kept tables id row there =
      plain_there models tables (cell_of id) row field.info origin.Plain there field.info_at field.plain
      ∙ ap Some (kept_by tables field.info parent id row field.info.inverse field.info.mirror field.no_inverse field.no_mirror)

  -- a row and its parent
  up_parts : (tables : Tables) (id other : RecId) → Up tables id other → (row : PlainRow) × (row_at tables model id ≡ Some row) × (kept_in row parent ≡ value.Ref other) × Is tables other
  up_parts tables id other up =
      let t = told_and (row_at tables model id) (λ row. (kept_in row parent ≡ value.Ref other) × IsSome (row_at tables model other)) up in (t.0, t.1, t.2.0, t.2.1)

  up_made : (tables : Tables) (id other : RecId) (row : PlainRow) → row_at tables model id ≡ Some row → kept_in row parent ≡ value.Ref other → Is tables other → Up tables id other
  up_made tables id other row there is has = tell_and (row_at tables model id) row (λ row. (kept_in row parent ≡ value.Ref other) × IsSome (row_at tables model other)) there (is, has)

  -- a row whose parent isn't edited was there, and kept the same parent
  quiet_row : (id : RecId) (row : PlainRow) → IsQuiet id → row_at sides.behind model id ≡ Some row → (old : PlainRow) × (row_at sides.before model id ≡ Some old) × (kept_in old parent ≡ kept_in row parent)
  quiet_row id row quiet there =
      let is = value_kept sides.behind id row there in
      let old = is_there (row_at sides.before model id) (row_before models sides (cell_of id) (kept_in row parent) quiet is) in
      let both : Some (kept_in old.0 parent) ≡ Some (kept_in row parent) = sym (value_kept sides.before id old.0 old.1) ∙ value_before models sides (cell_of id) (kept_in row parent) quiet is in
      (old.0, old.1, some_same (kept_in old.0 parent) (kept_in row parent) both)
    where
      some_same : (v w : Value) → Some v ≡ Some w → v ≡ w
      some_same v w is = cc

  quiet_there : (id : RecId) → IsQuiet id → Is sides.behind id → Is sides.before id
  quiet_there id quiet there =
      let row = is_there (row_at sides.behind model id) there in
      let old = quiet_row id row.0 quiet row.1 in
      there_is (row_at sides.before model id) old.0 old.1

  -- so it had its parent, if that was there
  up_before : (id other : RecId) → IsQuiet id → Up sides.behind id other → Is sides.before other → Up sides.before id other
  up_before id other quiet up was =
      let t = up_parts sides.behind id other up in
      let old = quiet_row id t.0 quiet t.1 in
      up_made sides.before id other old.0 old.1 (old.2 ∙ t.2) was

  -- a parent is there
  up_there : (tables : Tables) (id other : RecId) → Up tables id other → Is tables other
  up_there tables id other up = (up_parts tables id other up).3

  -- and so is the row
  up_from : (tables : Tables) (id other : RecId) → Up tables id other → Is tables id
  up_from tables id other up = let t = up_parts tables id other up in there_is (row_at tables model id) t.0 t.1

  -- rows that are their own parents, or those of their parents, and whose parents aren't edited, were so before
  module _ (quiet : (id : RecId) → IsCircled models sides.behind model parent id → Is sides.behind id → IsQuiet id) where
    -- it was there before
    circled_before : (id : RecId) → IsCircled models sides.behind model parent id → Is sides.behind id → Is sides.before id
    circled_before id circled there = quiet_there id (quiet id circled there) there

    -- from one of a circle on, up to the row at which it begins
    along : (id : RecId) → Is sides.behind id → IsCircled models sides.behind model parent id → (n : ℕ) (a : RecId) → ReachesOver (Up sides.behind) n a id → Reaches (Up sides.behind) id a → ReachesOver (Up sides.before) n a id
    along id there circled zero a up on =
        let round : IsCircled models sides.behind model parent a = reaches_then (Up sides.behind) zero a id a up on in
        up_before a id (quiet a round (up_from sides.behind a id up)) up (circled_before id circled there)
    along id there circled (suc n) a more on =
        let round : IsCircled models sides.behind model parent a = reaches_then (Up sides.behind) (suc n) a id a more on in
        let next : Reaches (Up sides.behind) id more.0 = reaches_next (Up sides.behind) id a more.0 on more.1 in
        let again : IsCircled models sides.behind model parent more.0 = reaches_then (Up sides.behind) n more.0 id more.0 more.2 next in (
          more.0,
          up_before a more.0 (quiet a round (up_from sides.behind a more.0 more.1)) more.1 (circled_before more.0 again (up_there sides.behind a more.0 more.1)),
          along id there circled n more.0 more.2 next,
        )

    pub circle_before : (id : RecId) → Is sides.behind id → IsCircled models sides.behind model parent id → Is sides.before id × IsCircled models sides.before model parent id
    circle_before id there circled = (circled_before id circled there, (circled.0, along id there circled circled.0 id circled.1 circled))

  -- a row that isn't gone behind, if no cell names one that is
  module _ (tied : (cell : Cell) → Dangles models sides.behind cell → ⊥) where
    -- a value of the row's parent field names a row that isn't there
    abbrev NamesNone : FieldInfo → Value → Type 0
    NamesNone info v = (id : RecId) × (names id v ≡ true) × IsSomeAnd info.relation (λ target. row_at sides.behind target id ≡ None)

    abbrev IsLost : RecId → FieldInfo → Type 0
    IsLost id info = (is_plain_kept info ≡ true) × IsSomeAnd (plain_at sides.behind models (cell_of id)) (NamesNone info)

    dangles : (id other : RecId) (row : PlainRow) → row_at sides.behind model id ≡ Some row → kept_in row parent ≡ value.Ref other → row_at sides.behind model other ≡ None → Dangles models sides.behind (cell_of id)
    dangles id other row there is none = (
      there_is (row_at sides.behind model id) row there,
      tell_and (field_at models model parent) field.info (IsLost id) field.info_at (
        field.kept,
        tell_and (plain_at sides.behind models (cell_of id)) (value.Ref other) (NamesNone field.info) (value_kept sides.behind id row there ∙ ap Some is)
            (other, eq-eqb other.0 other.0 refl, tell_and field.info.relation model (λ target. row_at sides.behind target other ≡ None) field.leads none),
      ),
    )

    named_there : (id other : RecId) (row : PlainRow) → row_at sides.behind model id ≡ Some row → kept_in row parent ≡ value.Ref other → Is sides.behind other
    named_there id other row there is = elim (some_or_none (row_at sides.behind model other)) [
      | inr some ↦ there_is (row_at sides.behind model other) some.0 some.1
      | inl none ↦ absurd (tied (cell_of id) (dangles id other row there is none))
    ]

    -- no parent on a row's way up is edited
    abbrev IsQuietUp : RecId → Type 0
    IsQuietUp id = (top : RecId) → IsAtOrBelow models sides model parent top id → IsQuiet top

    -- so the row had the depth that it has
    pub depth_before : (n : ℕ) (id : RecId) → Is sides.behind id → IsQuietUp id → HasDepth models sides.behind model parent n id → HasDepth models sides.before model parent n id
    depth_before zero id there quiet has = absurd has
    depth_before (suc zero) id there quiet has = λ other up.
        let t = up_parts sides.before id other up in
        let row = is_there (row_at sides.behind model id) there in
        let old = quiet_row id row.0 (quiet id (inl refl)) row.1 in
        let same : t.0 ≡ old.0 = row_same t.0 old.0 (sym t.1 ∙ old.1) in
        let is : kept_in row.0 parent ≡ value.Ref other = sym old.2 ∙ sym (ap (λ (r : PlainRow). kept_in r parent) same) ∙ t.2 in
        has other (up_made sides.behind id other row.0 row.1 is (named_there id other row.0 row.1 is))
      where
        row_same : (a b : PlainRow) → Some a ≡ Some b → a ≡ b
        row_same a b is = cc
    depth_before (suc (suc n)) id there quiet (other, up, has) =
        let up_is = up_there sides.behind id other up in (
          other,
          up_before id other (quiet id (inl refl)) up (quiet_there other (quiet other (inr (zero, up))) up_is),
          depth_before (suc n) other up_is (λ top at. quiet top (further top at)) has,
        )
      where
        further : (top : RecId) → IsAtOrBelow models sides model parent top other → IsAtOrBelow models sides model parent top id
        further top (inl is) = inr (zero, subst (λ (x : RecId). Up sides.behind id x) is up)
        further top (inr on) = inr (suc on.0, (other, up, on.1))

    pub deep_before : (id : RecId) → Is sides.behind id → IsQuietUp id → IsTooDeep models sides.behind model parent id → Is sides.before id × IsTooDeep models sides.before model parent id
    deep_before id there quiet deep = (quiet_there id (quiet id (inl refl)) there, (deep.0, depth_before deep.0 id there quiet deep.1, deep.2))
