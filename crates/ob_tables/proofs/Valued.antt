-- Where nothing is broken, each field of a row that is there has a value.
use Rattle.std.proofs.Common.{◌≡◌, ℕ, suc, ◌+◌, true, List, Option, Some, None, Result, Ok, Err, refl, sym, ap, subst, ◌∙◌, arith}
use Rattle.std.specs.Prelude.{IsOk, IsSome, is_ok}
use Rattle.std.specs.Result.{result_ok}
use Rattle.ob_base.specs.Limits.{max_stratum}
use Rattle.ob_base.specs.declared.id.Cell.{Cell}
use Rattle.ob_base.specs.declared.id.RecId.{RecId}
use Rattle.ob_base.specs.declared.refusal.BrokenKind.TheVariants as kind
use Rattle.ob_base.specs.declared.value.Value.{Value}
use Rattle.ob_base.specs.declared.value.Value.TheVariants as value
use Rattle.ob_expr.specs.Chain.{and_then}
use Rattle.ob_expr.specs.Computing.{Lack, overflow, too_long, zero_divisor, unread}
use Rattle.ob_expr.specs.Meaning.{follow, meaning, row_of}
use Rattle.ob_expr.specs.Reads.{IsAlong, LeadsTo}
use Rattle.ob_expr.specs.TypedTree.{paths_of, typed_tree_of}
use Rattle.ob_schema.specs.Broken.{AreSound, FailsItself}
use Rattle.ob_schema.specs.declared.info.Delegation.{Delegation}
use Rattle.ob_schema.specs.declared.info.FieldInfo.{FieldInfo}
use Rattle.ob_schema.specs.declared.info.Formula.{Formula}
use Rattle.ob_schema.specs.declared.info.ModelInfo.{ModelInfo}
use Rattle.ob_schema.specs.declared.info.Origin.TheVariants as origin
use Rattle.ob_schema.specs.Models.{IsRegistry, IsRouted, field_at, is_given_from}
use Rattle.ob_definition.specs.Values.{initial_value}
use Rattle.ob_schema.specs.Plain.{plain_at}
use Rattle.ob_schema.specs.Tables.{PlainRow, Tables, row_at}
use Rattle.ob_schema.specs.Tied.{IsTied}
use Rattle.ob_schema.specs.Val.{behind, enough, formula_value, or_inherited, val}
use Rattle.ob_tables.proofs.Along.{along_one}
use Rattle.ob_tables.proofs.Expressions.{AreLaws}
use Rattle.ob_tables.proofs.FromScratch.{is_val, low_strata}
use Rattle.ob_tables.proofs.KnownFields.{Field-at, Formula-at, is_there, tell_and, there_is}
use Rattle.ob_tables.proofs.LedTo.{IsThere, along_there, step_there}
use Rattle.ob_tables.proofs.Settled.{Behind, Behind-at, all_good}
use Rattle.ob_tables.proofs.Stable.{IsDeep, Rules, held_by, law-deep, limited_unread, value_there}
use Rattle.ob_tables.proofs.Whole.{given_value, not_there}

-- rows of sound tables can be followed
pub sound-tied : (models : List ModelInfo) (tables : Tables) → AreSound models tables → IsTied models tables
sound-tied models tables sound = (
  λ cell d. sound.sound (record { kind = kind.MissingRef; cell = cell }) d,
  λ cell d. sound.sound (record { kind = kind.Tree; cell = cell }) d,
  λ cell d. sound.sound (record { kind = kind.Depth; cell = cell }) d,
)

has_ok : (m : Result Value Lack) (v : Value) → m ≡ Ok v → IsOk m
has_ok m v is = ap (λ (r : Result Value Lack). is_ok r) is

none_ok : (m : Result Value Lack) → IsOk m → result_ok m ≡ None → ⊥
none_ok (Ok v) ok none = cc
none_ok (Err lack) ok none = cc

as_ok : (m n : Result Value Lack) → m ≡ n → IsOk n → IsOk m
as_ok m n is ok = subst IsOk (sym is) ok

module _ (laws : AreLaws) (models : List ModelInfo) (tables : Tables) (registry : IsRegistry models) (sound : AreSound models tables) where
  tied : IsTied models tables
  tied = sound-tied models tables sound

  abbrev values : Cell → Result Value Lack
  values = val models tables

  law : (n : ℕ) → IsDeep models tables n values
  law n = law-deep models tables n values (is_val laws models tables registry sound.fits tied)

  -- a cell that is there has a value
  abbrev HasValue : ℕ → Cell → Type 0
  HasValue n c = IsThere models tables registry tied c → IsOk (values c)

  -- one that its row is given
  given_has : (n : ℕ) (c : Cell) (info : FieldInfo) → field_at models c.model c.field ≡ Some info → is_given_from info.origin ≡ true → HasValue n c
  given_has n c info at given = λ there.
      let row = is_there (row_at tables c.model c.id) there.0 in
      let has = given_value models tables 0 values c row.0 info (law 1) row.1 at given in
      has_ok (values c) has.0 has.1

  -- what stands behind a link
  behind_has : (n : ℕ) (c : Cell) (to : Delegation) → Behind models c.model to → (row : PlainRow) → row_at tables c.model c.id ≡ Some row → ((id : RecId) → HasValue n (behind models tables to id)) → (initial v : Value)
      → plain_at tables models (record c { field = to.link }) ≡ Some v → IsOk (follow (λ id. values (behind models tables to id)) (Ok initial) v)
  behind_has n c to known row there target initial (value.Ref id) holds =
      let leads : LeadsTo (plain_at tables models (record c { field = to.link })) id = subst (λ (o : Option Value). LeadsTo o id) (sym holds) refl in
      let there_too = step_there models tables registry tied (record c { field = to.link }) row known.link to.model id there known.link_at known.plain known.leads leads in
      target id (there_too, there_is (field_at models to.model to.field) known.target known.target_at)
  behind_has n c to known row there target initial value.Nil holds = refl
  behind_has n c to known row there target initial (value.Bool b) holds = refl
  behind_has n c to known row there target initial (value.Int i) holds = refl
  behind_has n c to known row there target initial (value.Word text) holds = refl
  behind_has n c to known row there target initial (value.Day d) holds = refl
  behind_has n c to known row there target initial (value.Moment m) holds = refl
  behind_has n c to known row there target initial (value.Refs ids) holds = refl

  -- a delegated one
  delegated_has : (n : ℕ) (c : Cell) (info : FieldInfo) (to : Delegation) → field_at models c.model c.field ≡ Some info → info.origin ≡ origin.Delegated to
      → ((id : RecId) → HasValue n (behind models tables to id)) → HasValue (suc n) c
  delegated_has n c info to found from target = λ there.
      let row = is_there (row_at tables c.model c.id) there.0 in
      let known = Behind-at models c.model c.field info to registry found from in
      let link : Cell = record c { field = to.link } in
      let has = given_value models tables 0 values link row.0 known.link (law 1) row.1 known.link_at (ap is_given_from known.plain) in
      let next = follow (λ id. values (behind models tables to id)) (Ok (initial_value info.field_type)) in
      as_ok (values c) (and_then (values link) next) (is_val laws models tables registry sound.fits tied c ∙ value_there models tables values c row.0 info (origin.Delegated to) row.1 found from)
      (as_ok (and_then (values link) next) (next has.0) (ap (λ (m : Result Value Lack). and_then m next) has.1) (behind_has n c to known row.0 row.1 target (initial_value info.field_type) has.0 has.2))

  fails : (why : Lack) (c : Cell) (info : FieldInfo) (formula : Formula) → IsSome (row_at tables c.model c.id) → field_at models c.model c.field ≡ Some info → info.origin ≡ origin.Computed formula
      → formula_value values formula info c ≡ Err why → FailsItself models tables why c
  fails why c info formula there found from is = (
    there,
    tell_and (field_at models c.model c.field) info (λ info. (formula : Formula) × (info.origin ≡ origin.Computed formula) × (formula_value values formula info c ≡ Err why)) found (formula, from, is),
  )

  -- one whose formula reads cells that have values
  formula_has : (c : Cell) (info : FieldInfo) (formula : Formula) → IsSome (row_at tables c.model c.id) → field_at models c.model c.field ≡ Some info → info.origin ≡ origin.Computed formula
      → ((d : Cell) → formula_value values formula info c ≡ Err (unread d) → ⊥) → (m : Result Value Lack) → formula_value values formula info c ≡ m → IsOk (or_inherited values m)
  formula_has c info formula there found from none (Ok v) is = refl
  formula_has c info formula there found from none (Err overflow) is = absurd (sound.sound (record { kind = kind.Overflow; cell = c }) (tied, fails overflow c info formula there found from is))
  formula_has c info formula there found from none (Err too_long) is = absurd (sound.sound (record { kind = kind.TooLong; cell = c }) (tied, fails too_long c info formula there found from is))
  formula_has c info formula there found from none (Err zero_divisor) is = absurd (sound.sound (record { kind = kind.ZeroDivisor; cell = c }) (tied, fails zero_divisor c info formula there found from is))
  formula_has c info formula there found from none (Err (unread d)) is = absurd (none d is)

  -- a computed one
  computed_has : (n : ℕ) (c : Cell) (info : FieldInfo) (formula : Formula) → field_at models c.model c.field ≡ Some info → info.origin ≡ origin.Computed formula
      → ((f : Cell → Result Value Lack) → IsDeep models tables n f → (d : Cell) → IsAlong (held_by f) (row_of c) (typed_tree_of formula.typed) d → HasValue n d) → HasValue (suc n) c
  computed_has n c info formula found from along = λ there.
      let tree = typed_tree_of formula.typed in
      let row = is_there (row_at tables c.model c.id) there.0 in
      let right = Formula-at models c.model c.field info formula (Field-at models c.model c.field info registry found) from in
      let none : (d : Cell) → formula_value values formula info c ≡ Err (unread d) → ⊥ = λ d lacks.
      let reads = laws.lacks tree (held_by values) (row_of c) d (limited_unread info.field_type (meaning (held_by values) (row_of c) tree) d lacks) in
      let one = along_one (held_by values) (row_of c) (λ route. IsRouted models c.model route.links route.field route.kind) (paths_of tree) d right.routed reads.0 in
      let at = along_there models tables registry tied 0 values (law 1) (row_of c) one.0.links one.0.field one.0.kind there.0 one.1 d one.2 in
      none_ok (values d) (along values (law n) d reads.0 at) reads.1 in
      as_ok (values c) (or_inherited values (formula_value values formula info c)) (is_val laws models tables registry sound.fits tied c ∙ value_there models tables values c row.0 info (origin.Computed formula) row.1 found from)
      (formula_has c info formula there.0 found from none (formula_value values formula info c) refl)

  -- so it is with all
  value_rules : Rules models tables HasValue
  value_rules = record {
    later = λ n m c le has. has;
    absent = λ n c none there. absurd (not_there (row_at tables c.model c.id) none there.0);
    unknown = λ n c none there. absurd (not_there (field_at models c.model c.field) none there.1);
    given = λ n c info at given. given_has (suc n) c info at given;
    delegated = λ n c info to some found from link target. delegated_has n c info to found from target;
    computed = λ n c info formula some found from along. computed_has n c info formula found from along;
  }

  -- each cell of a field of a row that is there has a value
  pub each-valued : (cell : Cell) → IsSome (row_at tables cell.model cell.id) → IsSome (field_at models cell.model cell.field) → IsOk (values cell)
  each-valued cell row field =
      all_good models tables HasValue value_rules registry sound.fits tied (max_stratum + 1) (low_strata models registry) (enough models tables) (omega arith) cell (row, field)
