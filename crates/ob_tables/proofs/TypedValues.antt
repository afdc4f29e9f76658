-- What cells have from scratch is of their fields' kinds, and of their types.
use Rattle.std.proofs.Common.{◌≡◌, ◌⊎◌, inl, inr, ℕ, zero, suc, Bool, true, false, List, Option, Some, None, option_map, length, cond, Result, Ok, Err, refl, sym, ap, subst, ◌∙◌}
use Rattle.std.specs.Prelude.{IfSome, IsSomeAnd, option_and_then, unwrap_or}
use Rattle.std.specs.FinMap as finite
use Rattle.std.specs.Result.{result_ok}
use Rattle.std.proofs.lemmas.Option.{same_Some}
use Rattle.std.proofs.lemmas.Bool.{leb-true}
use Rattle.ob_base.specs.Times.{IsDay, IsMoment}
use Rattle.ob_base.specs.declared.id.Cell.{Cell}
use Rattle.ob_base.specs.declared.id.FieldNo.{FieldNo}
use Rattle.ob_base.specs.declared.id.ModelNo.{ModelNo}
use Rattle.ob_base.specs.declared.id.RecId.{RecId}
use Rattle.ob_base.specs.declared.value.Value.{Value}
use Rattle.ob_base.specs.declared.value.Value.TheVariants as value
use Rattle.ob_definition.specs.Keys.{is_selection}
use Rattle.ob_definition.specs.Types.{is_relation}
use Rattle.ob_definition.specs.Values.{HasType, IsNative, IsText, IsValueOf, initial_value}
use Rattle.ob_definition.specs.declared.field_type.Choice.{Choice}
use Rattle.ob_definition.specs.declared.field_type.FieldType.{FieldType}
use Rattle.ob_definition.specs.declared.field_type.FieldType.TheVariants as type
use Rattle.ob_expr.specs.Chain.{and_then}
use Rattle.ob_expr.specs.Computing.{Lack, overflow, too_long, zero_divisor, unread}
use Rattle.ob_expr.specs.Kinds.{HasKind}
use Rattle.ob_expr.specs.Meaning.{follow, meaning, row_of, value_at}
use Rattle.ob_expr.specs.Reads.{GivesCellsValues, IsMade}
use Rattle.ob_expr.specs.TypedTree.{TypedTree, kind_of, typed_tree_of}
use Rattle.ob_expr.specs.ValueKinds.{GivesItsKind}
use Rattle.ob_expr.specs.declared.kind.Kind.{Kind}
use Rattle.ob_expr.specs.declared.kind.Kind.TheVariants as kind
use Rattle.ob_schema.specs.Fields.{Holds, IsGivable}
use Rattle.ob_schema.specs.Finds.{kind_of_type}
use Rattle.ob_schema.specs.Limited.{is_short, limited, text_limit}
use Rattle.ob_schema.specs.Models.{HasKeysOf, IsDelegatedIn, IsOriginIn, IsRegistry, field_at, is_computed_from, kind_of_info}
use Rattle.ob_schema.specs.Plain.{id_value, plain_at, plain_by, plain_from}
use Rattle.ob_schema.specs.Tables.{Fits, PlainRow, Tables, row_at}
use Rattle.ob_schema.specs.Val.{behind, formula_value, or_inherited, value_from, value_in}
use Rattle.ob_schema.specs.declared.info.Delegation.{Delegation}
use Rattle.ob_schema.specs.declared.info.FieldInfo.{FieldInfo}
use Rattle.ob_schema.specs.declared.info.Formula.{Formula}
use Rattle.ob_schema.specs.declared.info.ModelInfo.{ModelInfo}
use Rattle.ob_schema.specs.declared.info.Origin.{Origin}
use Rattle.ob_schema.specs.declared.info.Origin.TheVariants as origin
use Rattle.ob_tables.proofs.Expressions.{AreLaws}
use Rattle.ob_tables.proofs.Kinded.{kinds-held, plain-kind}
use Rattle.ob_tables.proofs.KnownFields.{Field-at, Formula-at, known_if, told_and}
use Rattle.ob_tables.proofs.Stable.{held_by, limited_unread, value_absent, value_there, value_unknown}

-- ---- steps that have a value

after_ok : (m : Result Value Lack) (next : Value → Result Value Lack) (v : Value) → and_then m next ≡ Ok v → (w : Value) × (m ≡ Ok w) × (next w ≡ Ok v)
after_ok (Ok w) next v is = (w, refl, is)
after_ok (Err lack) next v is = absurd cc

followed_ok : (next : RecId → Result Value Lack) (ended : Result Value Lack) (w v : Value) → follow next ended w ≡ Ok v → ((id : RecId) × (next id ≡ Ok v)) ⊎ (ended ≡ Ok v)
followed_ok next ended (value.Ref id) v is = inl (id, is)
followed_ok next ended value.Nil v is = inr is
followed_ok next ended (value.Bool b) v is = inr is
followed_ok next ended (value.Int n) v is = inr is
followed_ok next ended (value.Word text) v is = inr is
followed_ok next ended (value.Day n) v is = inr is
followed_ok next ended (value.Moment n) v is = inr is
followed_ok next ended (value.Refs ids) v is = inr is

held_ok : (m : Result Value Lack) (v : Value) → result_ok m ≡ Some v → m ≡ Ok v
held_ok (Ok w) v is = ap (λ (x : Value). Ok x) (same_Some w v is)
held_ok (Err lack) v is = absurd cc

same_ok : (a b : Value) → ◌≡◌ {A = Result Value Lack} (Ok a) (Ok b) → a ≡ b
same_ok a b is = cc

none_held : (m : Result Value Lack) (v : Value) → result_ok m ≡ None → m ≡ Ok v → ⊥
none_held (Ok w) v none is = cc
none_held (Err lack) v none is = cc

plain_ok : (c : Cell) (o : Option Value) (v : Value) → value_at c o ≡ Ok v → o ≡ Some v
plain_ok c (Some w) v is = let same : w ≡ v = cc in ap (λ (x : Value). Some x) same
plain_ok c None v is = absurd cc

-- what is inherited has no value of its own
formula_ok : (f : Cell → Result Value Lack) (m : Result Value Lack) (v : Value) → ((d : Cell) → m ≡ Err (unread d) → f d ≡ Ok v → ⊥) → or_inherited f m ≡ Ok v → m ≡ Ok v
formula_ok f (Ok w) v not is = is
formula_ok f (Err overflow) v not is = is
formula_ok f (Err too_long) v not is = is
formula_ok f (Err zero_divisor) v not is = is
formula_ok f (Err (unread d)) v not is = absurd (not d refl is)

-- a value that isn't too long is short
limited_ok : (t : FieldType) (m : Result Value Lack) (v : Value) → limited t m ≡ Ok v → (m ≡ Ok v) × (is_short (text_limit t) v ≡ true)
limited_ok t (Err lack) v is = absurd cc
limited_ok t (Ok w) v is = by (is_short (text_limit t) w) refl is
  where
    by : (b : Bool) → is_short (text_limit t) w ≡ b → cond b (Ok w) (Err too_long) ≡ Ok v → (◌≡◌ {A = Result Value Lack} (Ok w) (Ok v)) × (is_short (text_limit t) v ≡ true)
    by true short is = (is, ap (is_short (text_limit t)) (let same : v ≡ w = cc in same) ∙ short)
    by false short is = absurd cc

-- ---- initial values

same_kind : (k l : Kind) (v : Value) → Some k ≡ Some l → HasKind k v → HasKind l v
same_kind k l v is has = subst (λ (x : Kind). HasKind x v) (same_Some k l is) has

related_kind : (of : ModelNo → Kind) (v : Value) → ((m : ModelNo) → HasKind (of m) v) → (relation : Option ModelNo) (k : Kind) → option_map of relation ≡ Some k → HasKind k v
related_kind of v has None k is = absurd cc
related_kind of v has (Some m) k is = same_kind (of m) k v is (has m)

-- what a field has without a value of its own is of its kind
initial_kind : (t : FieldType) (relation : Option ModelNo) (k : Kind) → kind_of_type t relation ≡ Some k → HasKind k (initial_value t)
initial_kind type.Boolean relation k is = same_kind kind.Bool k (initial_value type.Boolean) is tt
initial_kind type.Integer relation k is = same_kind kind.Int k (initial_value type.Integer) is tt
initial_kind type.Char relation k is = same_kind kind.Word k value.Nil is tt
initial_kind type.Text relation k is = same_kind kind.Word k value.Nil is tt
initial_kind type.Date relation k is = same_kind kind.Day k value.Nil is tt
initial_kind type.Datetime relation k is = same_kind kind.Moment k value.Nil is tt
initial_kind type.Selection relation k is = same_kind kind.Word k value.Nil is tt
initial_kind type.Many2one relation k is = related_kind kind.Ref value.Nil (λ m. tt) relation k is
initial_kind type.One2many relation k is = related_kind kind.Refs (initial_value type.One2many) (λ m. tt) relation k is
initial_kind type.Many2many relation k is = related_kind kind.Refs (initial_value type.Many2many) (λ m. tt) relation k is

-- ---- days and moments

-- a day or a moment that there is
abbrev IsTimed : Value → Type 0
IsTimed (value.Day n) = IsDay n
IsTimed (value.Moment n) = IsMoment n
IsTimed _ = Unit {0}

initial_timed : (t : FieldType) → IsTimed (initial_value t)
initial_timed type.Boolean = tt
initial_timed type.Integer = tt
initial_timed type.Char = tt
initial_timed type.Text = tt
initial_timed type.Date = tt
initial_timed type.Datetime = tt
initial_timed type.Selection = tt
initial_timed type.Many2one = tt
initial_timed type.One2many = tt
initial_timed type.Many2many = tt

day_timed : (t : FieldType) (choices : List Choice) (v : Value) → HasType t choices v → IsTimed v
day_timed type.Date choices (value.Day n) has = has
day_timed type.Boolean choices (value.Day n) has = absurd has
day_timed type.Integer choices (value.Day n) has = absurd has
day_timed type.Char choices (value.Day n) has = absurd has
day_timed type.Text choices (value.Day n) has = absurd has
day_timed type.Datetime choices (value.Day n) has = absurd has
day_timed type.Selection choices (value.Day n) has = absurd has
day_timed type.Many2one choices (value.Day n) has = absurd has
day_timed type.One2many choices (value.Day n) has = absurd has
day_timed type.Many2many choices (value.Day n) has = absurd has
day_timed type.Datetime choices (value.Moment n) has = has
day_timed type.Date choices (value.Moment n) has = absurd has
day_timed type.Boolean choices (value.Moment n) has = absurd has
day_timed type.Integer choices (value.Moment n) has = absurd has
day_timed type.Char choices (value.Moment n) has = absurd has
day_timed type.Text choices (value.Moment n) has = absurd has
day_timed type.Selection choices (value.Moment n) has = absurd has
day_timed type.Many2one choices (value.Moment n) has = absurd has
day_timed type.One2many choices (value.Moment n) has = absurd has
day_timed type.Many2many choices (value.Moment n) has = absurd has
day_timed t choices value.Nil has = tt
day_timed t choices (value.Bool b) has = tt
day_timed t choices (value.Int n) has = tt
day_timed t choices (value.Word text) has = tt
day_timed t choices (value.Ref id) has = tt
day_timed t choices (value.Refs ids) has = tt

made_timed : (v : Value) → IsMade v → IsTimed v
made_timed value.Nil made = tt
made_timed (value.Bool b) made = tt
made_timed (value.Int n) made = tt
made_timed (value.Word text) made = tt
made_timed (value.Day n) made = absurd made
made_timed (value.Moment n) made = absurd made
made_timed (value.Ref id) made = tt
made_timed (value.Refs ids) made = tt

-- ---- values of a type

short_text : (limit : ℕ) (text : List ℕ) → is_short limit (value.Word text) ≡ true → IsNative (value.Word text) → IsText limit text
short_text limit text short native = record { utf8 = native; short = leb-true (length text) limit short }

-- a short value of its kind is one that a field may hold that is no relation and no selection
of_type : (t : FieldType) (relation : Option ModelNo) (choices : List Choice) (k : Kind) (v : Value) → kind_of_type t relation ≡ Some k → is_relation t ≡ false → is_selection t ≡ false
    → HasKind k v → IsTimed v → is_short (text_limit t) v ≡ true → IsNative v → IsValueOf t choices v
of_type type.Boolean relation choices k v is none free has timed short native = boolean v (same_kind k kind.Bool v (sym is) has)
  where
    boolean : (v : Value) → HasKind kind.Bool v → IsValueOf type.Boolean choices v
    boolean (value.Bool b) has = tt
    boolean _ has = absurd has
of_type type.Integer relation choices k v is none free has timed short native = integer v (same_kind k kind.Int v (sym is) has) native
  where
    integer : (v : Value) → HasKind kind.Int v → IsNative v → IsValueOf type.Integer choices v
    integer (value.Int n) has native = native
    integer _ has native = absurd has
of_type type.Char relation choices k v is none free has timed short native = char v (same_kind k kind.Word v (sym is) has) short native
  where
    char : (v : Value) → HasKind kind.Word v → is_short (text_limit type.Char) v ≡ true → IsNative v → IsValueOf type.Char choices v
    char value.Nil has short native = tt
    char (value.Word text) has short native = short_text (text_limit type.Char) text short native
    char _ has short native = absurd has
of_type type.Text relation choices k v is none free has timed short native = text v (same_kind k kind.Word v (sym is) has) short native
  where
    text : (v : Value) → HasKind kind.Word v → is_short (text_limit type.Text) v ≡ true → IsNative v → IsValueOf type.Text choices v
    text value.Nil has short native = tt
    text (value.Word bytes) has short native = short_text (text_limit type.Text) bytes short native
    text _ has short native = absurd has
of_type type.Date relation choices k v is none free has timed short native = date v (same_kind k kind.Day v (sym is) has) timed
  where
    date : (v : Value) → HasKind kind.Day v → IsTimed v → IsValueOf type.Date choices v
    date value.Nil has timed = tt
    date (value.Day n) has timed = timed
    date _ has timed = absurd has
of_type type.Datetime relation choices k v is none free has timed short native = datetime v (same_kind k kind.Moment v (sym is) has) timed
  where
    datetime : (v : Value) → HasKind kind.Moment v → IsTimed v → IsValueOf type.Datetime choices v
    datetime value.Nil has timed = tt
    datetime (value.Moment n) has timed = timed
    datetime _ has timed = absurd has
of_type type.Selection relation choices k v is none free has timed short native = absurd cc
of_type type.Many2one relation choices k v is none free has timed short native = absurd cc
of_type type.One2many relation choices k v is none free has timed short native = absurd cc
of_type type.Many2many relation choices k v is none free has timed short native = absurd cc

-- ---- cells

module _ (laws : AreLaws) (kinds : (tree : TypedTree) → GivesItsKind tree) (gives : (tree : TypedTree) → GivesCellsValues tree) (models : List ModelInfo) (tables : Tables) (registry : IsRegistry models) (fits : Fits models tables) where
  -- what a formula gives, where its cell has a value
  pub formula-gives : (f : Cell → Result Value Lack) (c : Cell) (info : FieldInfo) (formula : Formula) (v : Value) → value_from models tables f (origin.Computed formula) info c ≡ Ok v → formula_value f formula info c ≡ Ok v
  formula-gives f c info formula v is =
      let tree = typed_tree_of formula.typed in
      let m = meaning (held_by f) (row_of c) tree in
      formula_ok f (formula_value f formula info c) v
      (λ d lacks has. none_held (f d) v (laws.lacks tree (held_by f) (row_of c) d (limited_unread info.field_type m d lacks)).1 has) is

  -- what it means
  meant : (f : Cell → Result Value Lack) (c : Cell) (info : FieldInfo) (formula : Formula) (v : Value) → value_from models tables f (origin.Computed formula) info c ≡ Ok v
      → (meaning (held_by f) (row_of c) (typed_tree_of formula.typed) ≡ Ok v) × (is_short (text_limit info.field_type) v ≡ true)
  meant f c info formula v is = limited_ok info.field_type (meaning (held_by f) (row_of c) (typed_tree_of formula.typed)) v (formula-gives f c info formula v is)

  -- a delegated cell has the value of the cell behind its link, or its initial one
  behind_ok : (f : Cell → Result Value Lack) (c : Cell) (info : FieldInfo) (to : Delegation) (v : Value) → value_from models tables f (origin.Delegated to) info c ≡ Ok v
      → ((id : RecId) × (f (behind models tables to id) ≡ Ok v)) ⊎ (initial_value info.field_type ≡ v)
  behind_ok f c info to v is =
      let next = λ (id : RecId). f (behind models tables to id) in
      let t = after_ok (f (record c { field = to.link })) (follow next (Ok (initial_value info.field_type))) v is in
      elim (followed_ok next (Ok (initial_value info.field_type)) t.0 v t.2) [
        | inl on ↦ inl on
        | inr ended ↦ inr (same_ok (initial_value info.field_type) v ended)
      ]

  -- each cell has a value of its field's kind
  abbrev AreOfKinds : (Cell → Result Value Lack) → Type 0
  AreOfKinds f = (c : Cell) (info : FieldInfo) (k : Kind) (v : Value) → field_at models c.model c.field ≡ Some info → kind_of_info info ≡ Some k → f c ≡ Ok v → HasKind k v

  -- the field behind a link has the same keys
  field_behind : (c : Cell) (info : FieldInfo) (to : Delegation) → field_at models c.model c.field ≡ Some info → info.origin ≡ origin.Delegated to
      → (other : FieldInfo) × (field_at models to.model to.field ≡ Some other) × HasKeysOf other info
  field_behind c info to at from =
      let field = Field-at models c.model c.field info registry at in
      let right : IsDelegatedIn models field.info info to = subst (λ (o : Origin). IsOriginIn models c.model field.info info o) from field.right.origin in
      told_and (field_at models to.model to.field) (λ other. HasKeysOf other info) right.target

  kind_from : (f : Cell → Result Value Lack) → AreOfKinds f → (c : Cell) (info : FieldInfo) (k : Kind) (v : Value) → field_at models c.model c.field ≡ Some info → kind_of_info info ≡ Some k
      → (o : Origin) → info.origin ≡ o → value_from models tables f o info c ≡ Ok v → HasKind k v
  kind_from f all c info k v at is origin.Id from has = plain-kind models tables registry fits c info k v at is (plain_ok c (plain_at tables models c) v has)
  kind_from f all c info k v at is origin.Plain from has = plain-kind models tables registry fits c info k v at is (plain_ok c (plain_at tables models c) v has)
  kind_from f all c info k v at is (origin.Delegated to) from has = elim (behind_ok f c info to v has) [
    | inr initial ↦ subst (HasKind k) initial (initial_kind info.field_type info.relation k is)
    | inl on ↦ (let other = field_behind c info to at from in
        let same : kind_of_info other.0 ≡ kind_of_info info = ap (λ (t : FieldType). kind_of_type t other.0.relation) other.2.field_type ∙ ap (λ (r : Option ModelNo). kind_of_type info.field_type r) other.2.relation in
        all (behind models tables to on.0) other.0 k v other.1 (same ∙ is) on.1)
  ]
  kind_from f all c info k v at is (origin.Computed formula) from has =
      let tree = typed_tree_of formula.typed in
      let right = Formula-at models c.model c.field info formula (Field-at models c.model c.field info registry at) from in
      let holds = kinds-held models tables registry fits (held_by f) (λ d i l w there kinded holds. all d i l w there kinded (held_ok (f d) w holds)) c.model tree right.by_refs in
      same_kind (kind_of tree) k v (sym right.kind ∙ is) (kinds tree (held_by f) (row_of c) v right.kinded holds (meant f c info formula v has).0)

  -- so it is with values from scratch
  pub kinds_in : (n : ℕ) → AreOfKinds (value_in models tables n)
  kinds_in zero c info k v at is has = absurd cc
  kinds_in (suc n) c info k v at is has = by (kinds_in n) (row_at tables c.model c.id) refl
    where
      by : AreOfKinds (value_in models tables n) → (r : Option PlainRow) → row_at tables c.model c.id ≡ r → HasKind k v
      by all None none = absurd (let both : Err (unread c) ≡ Ok v = sym (value_absent models tables (value_in models tables n) c none) ∙ has in cc)
      by all (Some row) there =
          kind_from (value_in models tables n) all c info k v at is info.origin refl (sym (value_there models tables (value_in models tables n) c row info info.origin there at refl) ∙ has)

  -- each day and moment that a cell has is one
  abbrev AreTimed : (Cell → Result Value Lack) → Type 0
  AreTimed f = (c : Cell) (v : Value) → f c ≡ Ok v → IsTimed v

  -- so is what rows keep
  kept_timed : (c : Cell) (row : PlainRow) → row_at tables c.model c.id ≡ Some row → (o : Option Value) → finite.get row c.field.0 ≡ o → IsTimed (unwrap_or o value.Nil)
  kept_timed c row there None is = tt
  kept_timed c row there (Some w) is =
      let values = known_if (finite.get row c.field.0) w (λ v. IsSomeAnd (field_at models c.model c.field) (λ i. IsGivable i v)) is
      (known_if (row_at tables c.model c.id) row (λ r. IfSome (finite.get r c.field.0) (λ v. IsSomeAnd (field_at models c.model c.field) (λ i. IsGivable i v))) there (fits.values c.model c.id c.field)) in
      let t = told_and (field_at models c.model c.field) (λ i. IsGivable i w) values in
      day_timed t.0.field_type t.0.selection w t.2

  row_timed : (c : Cell) (info : FieldInfo) (row : PlainRow) → row_at tables c.model c.id ≡ Some row → (inverse mirror : Option FieldNo) → IsTimed (plain_by tables inverse mirror info c.field c.id row)
  row_timed c info row there (Some inverse) mirror = tt
  row_timed c info row there None (Some mirror) = tt
  row_timed c info row there None None = kept_timed c row there (finite.get row c.field.0) refl

  plain_timed : (c : Cell) (info : FieldInfo) (row : PlainRow) (v : Value) → field_at models c.model c.field ≡ Some info → row_at tables c.model c.id ≡ Some row → plain_at tables models c ≡ Some v → IsTimed v
  plain_timed c info row v at there holds =
      by info.origin (sym (ap (option_and_then (plain_from tables info.origin info c.field c.id)) there)
      ∙ sym (ap (λ (i : Option FieldInfo). option_and_then (λ i. option_and_then (plain_from tables i.origin i c.field c.id) (row_at tables c.model c.id)) i) at) ∙ holds)
    where
      by : (o : Origin) → plain_from tables o info c.field c.id row ≡ Some v → IsTimed v
      by origin.Id is = subst IsTimed (same_Some (id_value c.id) v is) tt
      by origin.Plain is = subst IsTimed (same_Some (plain_by tables info.inverse info.mirror info c.field c.id row) v is) (row_timed c info row there info.inverse info.mirror)
      by (origin.Delegated to) is = absurd cc
      by (origin.Computed formula) is = absurd cc

  timed_from : (f : Cell → Result Value Lack) → AreTimed f → (c : Cell) (info : FieldInfo) (row : PlainRow) (v : Value) → field_at models c.model c.field ≡ Some info → row_at tables c.model c.id ≡ Some row
      → (o : Origin) → value_from models tables f o info c ≡ Ok v → IsTimed v
  timed_from f all c info row v at there origin.Id has = plain_timed c info row v at there (plain_ok c (plain_at tables models c) v has)
  timed_from f all c info row v at there origin.Plain has = plain_timed c info row v at there (plain_ok c (plain_at tables models c) v has)
  timed_from f all c info row v at there (origin.Delegated to) has = elim (behind_ok f c info to v has) [
    | inr initial ↦ subst IsTimed initial (initial_timed info.field_type)
    | inl on ↦ all (behind models tables to on.0) v on.1
  ]
  timed_from f all c info row v at there (origin.Computed formula) has =
      let tree = typed_tree_of formula.typed in
      elim (gives tree (held_by f) (row_of c) v (meant f c info formula v has).0) [
        | inl made ↦ made_timed v made
        | inr one ↦ all one.0 v (held_ok (f one.0) v one.1)
      ]

  timed_in : (n : ℕ) → AreTimed (value_in models tables n)
  timed_in zero c v has = absurd cc
  timed_in (suc n) c v has = by (timed_in n) (row_at tables c.model c.id) refl (field_at models c.model c.field) refl
    where
      by : AreTimed (value_in models tables n) → (r : Option PlainRow) → row_at tables c.model c.id ≡ r → (i : Option FieldInfo) → field_at models c.model c.field ≡ i → IsTimed v
      by all None none i at = absurd (let both : Err (unread c) ≡ Ok v = sym (value_absent models tables (value_in models tables n) c none) ∙ has in cc)
      by all (Some row) there None none = absurd (let both : Err (unread c) ≡ Ok v = sym (value_unknown models tables (value_in models tables n) c none) ∙ has in cc)
      by all (Some row) there (Some info) at =
          timed_from (value_in models tables n) all c info row v at there info.origin (sym (value_there models tables (value_in models tables n) c row info info.origin there at refl) ∙ has)

  -- a computed cell has a value that its field may hold
  pub computed-holds : (n : ℕ) (c : Cell) (info : FieldInfo) (formula : Formula) (v : Value) → field_at models c.model c.field ≡ Some info → info.origin ≡ origin.Computed formula
      → value_in models tables n c ≡ Ok v → IsNative v → Holds info v
  computed-holds zero c info formula v at from has native = absurd cc
  computed-holds (suc n) c info formula v at from has native = by (row_at tables c.model c.id) refl
    where
      by : (r : Option PlainRow) → row_at tables c.model c.id ≡ r → Holds info v
      by None none = absurd (let both : Err (unread c) ≡ Ok v = sym (value_absent models tables (value_in models tables n) c none) ∙ has in cc)
      by (Some row) there =
          let f = value_in models tables n in
          let right = Formula-at models c.model c.field info formula (Field-at models c.model c.field info registry at) from in
          let m = meant f c info formula v (sym (value_there models tables f c row info (origin.Computed formula) there at from) ∙ has) in
          of_type info.field_type info.relation info.selection (kind_of (typed_tree_of formula.typed)) v right.kind right.no_relation right.no_selection
          (kinds_in (suc n) c info (kind_of (typed_tree_of formula.typed)) v at right.kind has) (timed_in (suc n) c v has) m.1 native

  pub computed-held : (n : ℕ) (c : Cell) (info : FieldInfo) (v : Value) → field_at models c.model c.field ≡ Some info → is_computed_from info.origin ≡ true → value_in models tables n c ≡ Ok v → IsNative v → Holds info v
  computed-held n c info v at computed has native = by info.origin refl computed
    where
      by : (o : Origin) → info.origin ≡ o → is_computed_from o ≡ true → Holds info v
      by origin.Id from computed = absurd cc
      by origin.Plain from computed = absurd cc
      by (origin.Delegated to) from computed = absurd cc
      by (origin.Computed formula) from computed = computed-holds n c info formula v at from has native
