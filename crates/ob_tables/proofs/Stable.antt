-- From how many steps on the value of a cell stays the same, by what it reads.
use Rattle.std.proofs.Common.{◌≡◌, ℕ, zero, suc, ◌≤◌, Bool, true, false, cond, List, Option, Some, None, Result, Ok, Err, refl, sym, ap, ◌∙◌, arith}
use Rattle.std.specs.Prelude.{option_and_then}
use Rattle.std.specs.Option.{option_map_or}
use Rattle.std.specs.Result.{result_ok}
use Rattle.ob_base.specs.declared.id.Cell.{Cell}
use Rattle.ob_base.specs.declared.id.RecId.{RecId}
use Rattle.ob_base.specs.declared.value.Value.{Value}
use Rattle.ob_definition.specs.declared.field_type.FieldType.{FieldType}
use Rattle.ob_expr.specs.Chain.{and_then}
use Rattle.ob_expr.specs.Computing.{Lack, overflow, too_long, zero_divisor, unread}
use Rattle.ob_expr.specs.Meaning.{follow, meaning, row_of, value_at}
use Rattle.ob_expr.specs.Reads.{IsAlong}
use Rattle.ob_expr.specs.TypedTree.{typed_tree_of}
use Rattle.ob_schema.specs.declared.info.Delegation.{Delegation}
use Rattle.ob_schema.specs.declared.info.FieldInfo.{FieldInfo}
use Rattle.ob_schema.specs.declared.info.Formula.{Formula}
use Rattle.ob_schema.specs.declared.info.ModelInfo.{ModelInfo}
use Rattle.ob_schema.specs.declared.info.Origin.{Origin}
use Rattle.ob_schema.specs.declared.info.Origin.TheVariants as origin
use Rattle.ob_schema.specs.Models.{field_at, is_given_from}
use Rattle.ob_definition.specs.Values.{initial_value}
use Rattle.ob_schema.specs.Limited.{is_short, limited, text_limit}
use Rattle.ob_schema.specs.Plain.{plain_at, plain_from}
use Rattle.ob_schema.specs.Tables.{PlainRow, Tables, row_at}
use Rattle.ob_schema.specs.Val.{IsVal, behind, formula_value, or_inherited, value_by, value_from, value_in}
use Rattle.ob_tables.proofs.Expressions.{AreLaws}

-- what cells hold, by what they have
abbrev pub held_by : (Cell → Result Value Lack) → Cell → Option Value
held_by f cell = result_ok (f cell)

-- what is held of a value that there may be
pub held-value_at : (cell : Cell) (o : Option Value) → result_ok (value_at cell o) ≡ o
held-value_at cell None = refl
held-value_at cell (Some v) = refl

-- what a cell inherits is the same where the cell that it lacks has the same
pub inherit_same : (f g : Cell → Result Value Lack) (m : Result Value Lack) → ((d : Cell) → m ≡ Err (unread d) → f d ≡ g d) → or_inherited f m ≡ or_inherited g m
inherit_same f g (Ok v) same = refl
inherit_same f g (Err overflow) same = refl
inherit_same f g (Err too_long) same = refl
inherit_same f g (Err zero_divisor) same = refl
inherit_same f g (Err (unread d)) same = same d refl

-- a value that is too long is no unread cell
pub limited_unread : (t : FieldType) (m : Result Value Lack) (d : Cell) → limited t m ≡ Err (unread d) → m ≡ Err (unread d)
limited_unread t (Ok v) d is = absurd (by (is_short (text_limit t) v) is)
  where
    by : (b : Bool) → cond b (Ok v) (Err too_long) ≡ Err (unread d) → ⊥
    by true is = cc
    by false is = cc
limited_unread t (Err lack) d is = is

-- a row or none, the same comes of it
same_either : (r : Option PlainRow) (m : Result Value Lack) → option_map_or (λ _. m) r m ≡ m
same_either None m = refl
same_either (Some row) m = refl

module _ (models : List ModelInfo) (tables : Tables) where
  -- so many steps of the definition stand behind it
  abbrev pub IsDeep : ℕ → (Cell → Result Value Lack) → Type 0
  IsDeep zero f = Unit {0}
  IsDeep (suc n) f = (g : Cell → Result Value Lack) × IsDeep n g × ((c : Cell) → f c ≡ value_by models tables g c)

  -- where more steps stand behind it, fewer do
  pub deep_less : (n m : ℕ) (f : Cell → Result Value Lack) → n ≤ m → IsDeep m f → IsDeep n f
  deep_less zero m f le deep = tt
  deep_less (suc n) zero f le deep = absurd (omega arith)
  deep_less (suc n) (suc m) f le deep = (deep.0, deep_less n m deep.0 (omega arith) deep.1, deep.2)

  -- behind so many steps stand so many
  pub value_in-deep : (n : ℕ) → IsDeep n (value_in models tables n)
  value_in-deep zero = tt
  value_in-deep (suc n) = (value_in models tables n, value_in-deep n, λ c. refl)

  -- behind a function with the law stand as many as one likes
  pub law-deep : (n : ℕ) (values : Cell → Result Value Lack) → IsVal models tables values → IsDeep n values
  law-deep zero values law = tt
  law-deep (suc n) values law = (values, law-deep n values law, law)

  -- from so many steps on, the cell has the same value
  abbrev pub Settles : ℕ → Cell → Type 0
  Settles n c = (f g : Cell → Result Value Lack) → IsDeep n f → IsDeep n g → f c ≡ g c

  -- and from more on
  pub settles_later : (n m : ℕ) (c : Cell) → n ≤ m → Settles n c → Settles m c
  settles_later n m c le settles = λ f g deep deeper. settles f g (deep_less n m f le deep) (deep_less n m g le deeper)

  -- one step, by where its row and its field are
  pub value_there : (f : Cell → Result Value Lack) (c : Cell) (row : PlainRow) (info : FieldInfo) (o : Origin) → row_at tables c.model c.id ≡ Some row → field_at models c.model c.field ≡ Some info → info.origin ≡ o
      → value_by models tables f c ≡ value_from models tables f o info c
  value_there f c row info o there at from =
      ap (λ (r : Option PlainRow). option_map_or (λ _. option_map_or (λ i. value_from models tables f i.origin i c) (field_at models c.model c.field) (Err (unread c))) r (Err (unread c))) there
      ∙ ap (λ (i : Option FieldInfo). option_map_or (λ i. value_from models tables f i.origin i c) i (Err (unread c))) at ∙ ap (λ (p : Origin). value_from models tables f p info c) from

  -- one step where the row is none
  pub value_absent : (f : Cell → Result Value Lack) (c : Cell) → row_at tables c.model c.id ≡ None → value_by models tables f c ≡ Err (unread c)
  value_absent f c none =
      ap (λ (r : Option PlainRow). option_map_or (λ _. option_map_or (λ i. value_from models tables f i.origin i c) (field_at models c.model c.field) (Err (unread c))) r (Err (unread c))) none

  -- and where the field is none
  pub value_unknown : (f : Cell → Result Value Lack) (c : Cell) → field_at models c.model c.field ≡ None → value_by models tables f c ≡ Err (unread c)
  value_unknown f c none =
      ap (λ (i : Option FieldInfo). option_map_or (λ _. option_map_or (λ i. value_from models tables f i.origin i c) i (Err (unread c))) (row_at tables c.model c.id) (Err (unread c))) none
      ∙ same_either (row_at tables c.model c.id) (Err (unread c))

  -- of a cell of this field, where one step is the same
  settles_by : (n : ℕ) (c : Cell) (info : FieldInfo) (o : Origin) → field_at models c.model c.field ≡ Some info → info.origin ≡ o
      → ((f g : Cell → Result Value Lack) → IsDeep n f → IsDeep n g → value_from models tables f o info c ≡ value_from models tables g o info c) → Settles (suc n) c
  settles_by n c info o at from same = λ f g deep deeper. deep.2 c ∙ by (row_at tables c.model c.id) refl deep.0 deeper.0 deep.1 deeper.1 ∙ sym (deeper.2 c)
    where
      by : (r : Option PlainRow) → row_at tables c.model c.id ≡ r → (f g : Cell → Result Value Lack) → IsDeep n f → IsDeep n g → value_by models tables f c ≡ value_by models tables g c
      by None is f g deep deeper = value_absent f c is ∙ sym (value_absent g c is)
      by (Some row) is f g deep deeper = value_there f c row info o is at from ∙ same f g deep deeper ∙ sym (value_there g c row info o is at from)

  -- a cell of no row, or of no field
  pub settles_absent : (n : ℕ) (c : Cell) → row_at tables c.model c.id ≡ None → Settles (suc n) c
  settles_absent n c is = λ f g deep deeper. deep.2 c ∙ value_absent deep.0 c is ∙ sym (value_absent deeper.0 c is) ∙ sym (deeper.2 c)

  -- a cell of no field
  pub settles_unknown : (n : ℕ) (c : Cell) → field_at models c.model c.field ≡ None → Settles (suc n) c
  settles_unknown n c is = λ f g deep deeper. deep.2 c ∙ value_unknown deep.0 c is ∙ sym (value_unknown deeper.0 c is) ∙ sym (deeper.2 c)

  -- a cell that its row is given
  pub settles_given : (n : ℕ) (c : Cell) (info : FieldInfo) → field_at models c.model c.field ≡ Some info → is_given_from info.origin ≡ true → Settles (suc n) c
  settles_given n c info at given = by info.origin refl given
    where
      by : (o : Origin) → info.origin ≡ o → is_given_from o ≡ true → Settles (suc n) c
      by origin.Id from given = settles_by n c info origin.Id at from (λ f g _ _. refl)
      by origin.Plain from given = settles_by n c info origin.Plain at from (λ f g _ _. refl)
      by (origin.Delegated at) from given = absurd cc
      by (origin.Computed formula) from given = absurd cc

  -- and what it holds
  pub plain_read : (n : ℕ) (f : Cell → Result Value Lack) (c : Cell) (info : FieldInfo) → IsDeep (suc n) f → field_at models c.model c.field ≡ Some info → info.origin ≡ origin.Plain → held_by f c ≡ plain_at tables models c
  plain_read n f c info deep at from = ap (λ (m : Result Value Lack). result_ok m) (deep.2 c) ∙ by (row_at tables c.model c.id) refl
    where
      by : (r : Option PlainRow) → row_at tables c.model c.id ≡ r → result_ok (value_by models tables deep.0 c) ≡ plain_at tables models c
      by None is =
          ap (λ (m : Result Value Lack). result_ok m) (value_absent deep.0 c is)
          ∙ sym (ap (λ (i : Option FieldInfo). option_and_then (λ i. option_and_then (plain_from tables i.origin i c.field c.id) (row_at tables c.model c.id)) i) at
          ∙ ap (λ (r : Option PlainRow). option_and_then (plain_from tables info.origin info c.field c.id) r) is)
      by (Some row) is = ap (λ (m : Result Value Lack). result_ok m) (value_there deep.0 c row info origin.Plain is at from) ∙ held-value_at c (plain_at tables models c)

  -- a delegated cell, by its link and what may stand behind it
  pub settles_delegated : (n : ℕ) (c : Cell) (info : FieldInfo) (at : Delegation) → field_at models c.model c.field ≡ Some info → info.origin ≡ origin.Delegated at
      → Settles n (record c { field = at.link }) → ((id : RecId) → Settles n (behind models tables at id)) → Settles (suc n) c
  settles_delegated n c info at found from link target =
      settles_by n c info (origin.Delegated at) found from (λ f g deep deeper.
      let first : f (record c { field = at.link }) ≡ g (record c { field = at.link }) = link f g deep deeper in
      let second : (id : RecId) → f (behind models tables at id) ≡ g (behind models tables at id) = λ id. target id f g deep deeper in
      λ i. and_then (first i) (follow (λ id. second id i) (Ok (initial_value info.field_type))))

  -- a computed cell, by those along the paths of its formula
  pub settles_computed : AreLaws → (n : ℕ) (c : Cell) (info : FieldInfo) (formula : Formula) → field_at models c.model c.field ≡ Some info → info.origin ≡ origin.Computed formula
      → ((f : Cell → Result Value Lack) → IsDeep n f → (d : Cell) → IsAlong (held_by f) (row_of c) (typed_tree_of formula.typed) d → Settles n d) → Settles (suc n) c
  settles_computed laws n c info formula found from along =
      settles_by n c info (origin.Computed formula) found from (λ f g deep deeper.
      let tree = typed_tree_of formula.typed in
      let same : (d : Cell) → IsAlong (held_by f) (row_of c) tree d → f d ≡ g d = λ d is. along f deep d is f g deep deeper in
      let means : meaning (held_by g) (row_of c) tree ≡ meaning (held_by f) (row_of c) tree = laws.along tree (held_by f) (held_by g) (row_of c) (λ d is. sym (ap (λ (m : Result Value Lack). result_ok m) (same d is))) in
      inherit_same f g (formula_value f formula info c)
      (λ d lacks. same d (laws.lacks tree (held_by f) (row_of c) d (limited_unread info.field_type (meaning (held_by f) (row_of c) tree) d lacks)).0)
      ∙ ap (λ (m : Result Value Lack). or_inherited g (limited info.field_type m)) (sym means))

-- what is so of each cell once so many steps stand behind it: by what a cell reads
pub record Rules (models : List ModelInfo) (tables : Tables) (Good : ℕ → Cell → Type 0) : Type 0 where
  pub later : (n m : ℕ) (c : Cell) → n ≤ m → Good n c → Good m c
  pub absent : (n : ℕ) (c : Cell) → row_at tables c.model c.id ≡ None → Good (suc n) c
  pub unknown : (n : ℕ) (c : Cell) → field_at models c.model c.field ≡ None → Good (suc n) c
  pub given : (n : ℕ) (c : Cell) (info : FieldInfo) → field_at models c.model c.field ≡ Some info → is_given_from info.origin ≡ true → Good (suc n) c
  pub delegated : (n : ℕ) (c : Cell) (info : FieldInfo) (at : Delegation) → 1 ≤ n → field_at models c.model c.field ≡ Some info → info.origin ≡ origin.Delegated at → Good n (record c { field = at.link })
      → ((id : RecId) → Good n (behind models tables at id)) → Good (suc n) c
  pub computed : (n : ℕ) (c : Cell) (info : FieldInfo) (formula : Formula) → 1 ≤ n → field_at models c.model c.field ≡ Some info → info.origin ≡ origin.Computed formula
      → ((f : Cell → Result Value Lack) → IsDeep models tables n f → (d : Cell) → IsAlong (held_by f) (row_of c) (typed_tree_of formula.typed) d → Good n d) → Good (suc n) c

-- the value of a cell stays the same
pub settles_rules : AreLaws → (models : List ModelInfo) (tables : Tables) → Rules models tables (Settles models tables)
settles_rules laws models tables = record {
  later = settles_later models tables;
  absent = settles_absent models tables;
  unknown = settles_unknown models tables;
  given = settles_given models tables;
  delegated = λ n c info at some found from link target. settles_delegated models tables n c info at found from link target;
  computed = λ n c info formula some found from along. settles_computed models tables laws n c info formula found from along;
}
