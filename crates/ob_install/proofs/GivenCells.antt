-- The cell for which a value of a row that modules bring stands, behind a link.
use Rattle.std.proofs.Common.{◌≡◌, ◌≢◌, ◌<◌, ◌≤◌, ◌+◌, ◌⊎◌, ℕ, suc, Bool, false, true, List, length, get_or, slice_index, Option, Some, None, refl, sym, ap, subst, inl, inr, ◌∙◌, arith}
use Rattle.std.specs.Prelude.{◌↔◌, IfSome, IsSome, IsSomeAnd, IsTrue, option_and_then, position, slice_get}
use Rattle.std.proofs.lemmas.Bool.{false≢true}
use Rattle.std.proofs.lemmas.List.{get_or-map}
use Rattle.ob_base.specs.declared.id.Cell.{Cell}
use Rattle.ob_base.specs.declared.id.FieldNo.{FieldNo}
use Rattle.ob_base.specs.declared.id.ModelNo.{ModelNo}
use Rattle.ob_base.specs.declared.id.RecId.{RecId}
use Rattle.ob_base.specs.declared.value.Value.{Value}
use Rattle.ob_base.specs.declared.value.Value.TheVariants as value
use Rattle.ob_install.proofs.BroughtIds.{numbers}
use Rattle.ob_base.specs.declared.refusal.Broken.{Broken}
use Rattle.ob_base.specs.declared.refusal.BrokenKind.{BrokenKind}
use Rattle.ob_base.specs.declared.refusal.BrokenKind.TheVariants as kind
use Rattle.ob_install.proofs.ForbiddenRows.{both-ways, made-owned, stands-info}
use Rattle.ob_install.proofs.RowOwners.{owner-before, owner-made, unmade-absent}
use Rattle.ob_rows.specs.Values.{is_readonly}
use Rattle.ob_install.specs.Install.{ChangesAt, GivesFor, IsValueFor, is_of_group}
use Rattle.ob_install.specs.InstallSteps.{ArePlaced, FindsBy, Forbids, HasOwnInfo, IsFoundBy, IsOwner, course_of, edits_of, makes}
use Rattle.ob_install.specs.declared.installing.placing.Placed.{Placed}
use Rattle.ob_schema.specs.Models.{field_at, is_given_from}
use Rattle.ob_schema.specs.Plain.{plain_at, plain_from}
use Rattle.ob_schema.specs.Tables.{PlainRow, Standing, Tables, empty_tables, row_at}
use Rattle.ob_schema.specs.declared.info.Delegation.{Delegation}
use Rattle.ob_schema.specs.declared.info.FieldInfo.{FieldInfo}
use Rattle.ob_schema.specs.declared.info.ModelInfo.{ModelInfo}
use Rattle.ob_schema.specs.declared.info.Origin.{Origin}
use Rattle.ob_schema.specs.declared.info.Origin.TheVariants as origin
use Rattle.ob_tables.proofs.CallerLemmas.{known_at, tell_and, there_is, told_and}
use Rattle.ob_tables.specs.After.{after}

-- tables with a row more, by its place and by how many there are
pub tables-next : (models : List ModelInfo) (placed : Placed) (n : ℕ) → after models (empty_tables models) (edits_of placed (n + 1)) ≡ (course_of models placed).tables (suc n)
tables-next models placed n = ap (λ (m : ℕ). after models (empty_tables models) (edits_of placed m)) (let e : n + 1 ≡ suc n = omega arith in e)

-- the id of the row of a number
pub id-of : (placed : Placed) (n : ℕ) (id : RecId) → n < length placed.ids.items → id ≡ get_or placed.ids.items n id → id ≡ record { 0 = slice_index (numbers placed.ids.items) n }
id-of placed n id within is =
    let at : slice_index (numbers placed.ids.items) n ≡ (get_or placed.ids.items n id).0 = get_or-map (λ (i : RecId). i.0) placed.ids.items n id 0 within in
    ap (λ (m : ℕ). record { 0 = m }) (ap (λ (i : RecId). i.0) is ∙ sym at)

module _ (models : List ModelInfo) (placed : Placed) (n : ℕ) (model : ModelNo) (field : FieldNo) (id : RecId) (own : FieldInfo) (to : Delegation)
    (within : n < length placed.ids.items) (is : id ≡ get_or placed.ids.items n id)
    (there : field_at models model field ≡ Some own) (delegated : own.origin ≡ origin.Delegated to)
    (tables : Standing) (are : tables ≡ record { models = models; tables = after models (empty_tables models) (edits_of placed (n + 1)) })
    (target : Option Value) (told : target ≡ plain_at tables.tables tables.models (record { model = model; id = id; field = to.link })) where
  -- the field of the row that gives it, and the cell for which its value stands
  abbrev Own : Cell
  Own = record { model = model; id = record { 0 = slice_index (numbers placed.ids.items) n }; field = field }

  abbrev Stands : Cell → Origin → Type 0
  Stands cell o = IsValueFor models (course_of models placed) ((course_of models placed).tables (suc n)) Own o cell

  -- what the link names is what the row's link names behind it
  target-is : target ≡ plain_at ((course_of models placed).tables (suc n)) models (record { model = model; id = record { 0 = slice_index (numbers placed.ids.items) n }; field = to.link })
  target-is =
      told ∙ ap (λ (t : Standing). plain_at t.tables t.models (record { model = model; id = id; field = to.link })) are
      ∙ ap (λ (t : Tables). plain_at t models (record { model = model; id = id; field = to.link })) (tables-next models placed n)
      ∙ ap (λ (i : RecId). plain_at ((course_of models placed).tables (suc n)) models (record { model = model; id = i; field = to.link })) (id-of placed n id within is)

  -- so the cell behind it is the one for which the value stands
  pub behind-gives : (r : Option Cell) (cell : Cell) → (r ≡ Some cell) ↔ ((target ≡ Some (value.Ref cell.id)) × (cell.model ≡ to.model) × (cell.field ≡ to.field))
      → (r ≡ Some cell) ↔ GivesFor models (course_of models placed) n model field cell
  behind-gives r cell behind = (
    λ found.
        let (names, of, at) = behind.0 found in
        tell_and (field_at models model field) own (λ info. Stands cell info.origin) there
        (subst (Stands cell) (sym delegated) (sym target-is ∙ names, of, at)),
    λ gives.
        let stands = known_at (field_at models model field) own (λ info. Stands cell info.origin) there gives in
        let said = subst (Stands cell) delegated stands in
        behind.1 (target-is ∙ said.0, said.1, said.2),
  )

-- ---- whether a value changes

is-there : {X : Type 0} (o : Option X) (P : X → Type 0) → IsSomeAnd o P → IsSome o
is-there None P h = absurd h
is-there (Some x) P h = refl

-- a plain cell with a value is one of a row that is there
plain-of-row : (models : List ModelInfo) (tables : Tables) (cell : Cell) → IsSome (plain_at tables models cell) → IsSome (row_at tables cell.model cell.id)
plain-of-row models tables cell there = by (field_at models cell.model cell.field) (row_at tables cell.model cell.id) there where
  by : (o : Option FieldInfo) (r : Option PlainRow) → IsSome (option_and_then (λ info. option_and_then (plain_from tables info.origin info cell.field cell.id) r) o) → IsSome r
  by None r there = absurd (false≢true there)
  by (Some info) None there = there
  by (Some info) (Some row) there = refl

-- one of a field whose value isn't given has none
not-given : (models : List ModelInfo) (tables : Tables) (cell : Cell) (info : FieldInfo) → field_at models cell.model cell.field ≡ Some info → is_given_from info.origin ≡ false → IsSome (plain_at tables models cell) → ⊥
not-given models tables cell info at away there =
    by info.origin (row_at tables cell.model cell.id) away (subst Has at there) where
      Has : Option FieldInfo → Type 0
      Has o = IsSome (option_and_then (λ i. option_and_then (plain_from tables i.origin i cell.field cell.id) (row_at tables cell.model cell.id)) o)

      by : (o : Origin) (r : Option PlainRow) → is_given_from o ≡ false → IsSome (option_and_then (plain_from tables o info cell.field cell.id) r) → ⊥
      by o None away there = false≢true there
      by origin.Id (Some row) away there = false≢true (sym away)
      by origin.Plain (Some row) away there = false≢true (sym away)
      by (origin.Delegated to) (Some row) away there = false≢true there
      by (origin.Computed formula) (Some row) away there = false≢true there

module _ (models : List ModelInfo) (placed : Placed) (fit : ArePlaced models placed) (cell : Cell) (n : ℕ) where
  abbrev Changes : Type 0
  Changes = ChangesAt models (course_of models placed) n cell

  -- what changes has a value before
  was-there : Changes → IsSome (plain_at ((course_of models placed).tables n) models cell)
  was-there changes = is-there (plain_at ((course_of models placed).tables n) models cell) (λ v. plain_at ((course_of models placed).tables (suc n)) models cell ≢ Some v) changes

  pub computed-stays : (info : FieldInfo) → field_at models cell.model cell.field ≡ Some info → is_given_from info.origin ≡ false → Changes → ⊥
  computed-stays info at away changes = not-given models ((course_of models placed).tables n) cell info at away (was-there changes)

  pub new-stays : (position (makes cell) placed.making.edits.items ≡ None) ⊎ ((m : ℕ) × IsOwner placed cell m × (n ≤ m)) → Changes → ⊥
  new-stays (inl none) changes = unmade-absent models placed fit cell none n (plain-of-row models ((course_of models placed).tables n) cell (was-there changes))
  new-stays (inr (m, own, high)) changes =
      let low = owner-before models placed fit cell n m (plain-of-row models ((course_of models placed).tables n) cell (was-there changes)) own in
      omega (arith, high, low)

  -- it is told by the tables
  pub changes-told : (before behind : Standing) (was is : Option Value) (r : Bool) → before ≡ record { models = models; tables = after models (empty_tables models) (edits_of placed n) }
      → was ≡ plain_at before.tables before.models cell
      → behind ≡ record { models = models; tables = after models (empty_tables models) (edits_of placed (n + 1)) } → is ≡ plain_at behind.tables behind.models cell
      → IsTrue r ↔ IsSomeAnd was (λ v. is ≢ Some v) → IsTrue r ↔ Changes
  changes-told before behind was is r before_are was_is behind_are is_is told =
      let one : was ≡ plain_at ((course_of models placed).tables n) models cell = was_is ∙ ap (λ (t : Standing). plain_at t.tables t.models cell) before_are in
      let two : is ≡ plain_at ((course_of models placed).tables (suc n)) models cell =
      is_is ∙ ap (λ (t : Standing). plain_at t.tables t.models cell) behind_are ∙ ap (λ (t : Tables). plain_at t models cell) (tables-next models placed n) in
      let P : Option Value → Option Value → Type 0 = λ a b. IsTrue r ↔ IsSomeAnd a (λ v. b ≢ Some v) in
      subst (λ (b : Option Value). P (plain_at ((course_of models placed).tables n) models cell) b) two (subst (λ (a : Option Value). P a is) one told)

-- ---- what is forbidden of one cell

module _ (models : List ModelInfo) (placed : Placed) (fit : ArePlaced models placed) (by : ℕ) (cell : Cell) (info : FieldInfo) (at : field_at models cell.model cell.field ≡ Some info) where
  -- a fixed field that changes
  pub fixed-found : info.fixed ≡ true → (n : ℕ) × IsOwner placed cell n → ChangesAt models (course_of models placed) by cell
      → IsFoundBy models (course_of models placed) (λ other. other ≡ cell) by (record { kind = kind.Fixed; cell = cell })
  fixed-found fixed (n, own) changes = record {
    number = n;
    field = there_is (field_at models cell.model cell.field) info at;
    owner = owner-made models placed fit cell n own;
    why = (tell_and (field_at models cell.model cell.field) info (λ f. f.fixed ≡ true) at fixed, refl, changes);
  }

  -- one that calls never give, where it isn't a fixed one that changes
  pub managed-found : (r : Option Broken) → is_readonly models info ≡ true → (info.fixed ≡ true → ChangesAt models (course_of models placed) by cell → ⊥) → IfSome r (λ b. b ≡ record { kind = kind.Managed; cell = cell })
      → (IsSome r → (n : ℕ) × IsOwner placed cell n × IsSomeAnd (slice_get placed.rows.now n) (λ row. is_of_group row ≡ false))
      → (r ≡ None → (n : ℕ) → IsOwner placed cell n → IsSomeAnd (slice_get placed.rows.now n) (λ row. is_of_group row ≡ true))
      → FindsBy models (course_of models placed) (λ other. other ≡ cell) by r
  managed-found (Some b) readonly stays is owned none =
      let (n, own, group) = owned refl in
      subst (IsFoundBy models (course_of models placed) (λ other. other ≡ cell) by) (sym is) (record {
        number = n;
        field = there_is (field_at models cell.model cell.field) info at;
        owner = owner-made models placed fit cell n own;
        why = (group, tell_and (field_at models cell.model cell.field) info (λ f. is_readonly models f ≡ true) at readonly, refl);
      })
  managed-found None readonly stays is owned none = λ n b made h. away b.kind b.cell n (made-owned models placed fit b.cell n made) h where
    away : (k : BrokenKind) (other : Cell) (n : ℕ) → IsOwner placed other n → Forbids models (course_of models placed) (λ c. c ≡ cell) by n k other → ⊥
    away kind.Managed other n own (group, _, same) = both-ways (slice_get placed.rows.now n) is_of_group group (none refl n (subst (λ (c : Cell). IsOwner placed c n) same own))
    away kind.Fixed other n own (fixed, same, changes) =
        stays (known_at (field_at models cell.model cell.field) info (λ f. f.fixed ≡ true) at (subst (λ (c : Cell). IsSomeAnd (field_at models c.model c.field) (λ f. f.fixed ≡ true)) same fixed))
        (subst (ChangesAt models (course_of models placed) by) same changes)
    away _ other n own h = h

-- the field of the cell for which a value stands
pub gives-info : (models : List ModelInfo) (placed : Placed) (n : ℕ) (model : ModelNo) (field : FieldNo) (info : FieldInfo) (cell : Cell) → IsSomeAnd (field_at models model field) (λ own. HasOwnInfo models model field own.origin info)
    → GivesFor models (course_of models placed) n model field cell → field_at models cell.model cell.field ≡ Some info
gives-info models placed n model field info cell has gives =
    let (own, there, says) = told_and (field_at models model field) (λ own. HasOwnInfo models model field own.origin info) has in
    let at = course_of models placed in
    stands-info models at (at.tables (suc n)) model (record { 0 = slice_index at.ids n }) field own info cell there says
    (known_at (field_at models model field) own (λ i. IsValueFor models at (at.tables (suc n)) (record { model = model; id = record { 0 = slice_index at.ids n }; field = field }) i.origin cell) there gives)
