-- No field of a row that is there reads a cell that is none.
use Rattle.std.proofs.Common.{◌≡◌, ℕ, suc, ◌+◌, ◌*◌, ◌<◌, ◌≤◌, true, List, Option, Some, None, Result, Ok, Err, refl, sym, ap, subst, ◌∙◌}
use Rattle.std.specs.Prelude.{IsSome, option_and_then}
use Rattle.ob_base.specs.declared.id.Cell.{Cell}
use Rattle.ob_base.specs.declared.id.RecId.{RecId}
use Rattle.ob_base.specs.declared.value.Value.{Value}
use Rattle.ob_base.specs.declared.value.Value.TheVariants as value
use Rattle.ob_expr.specs.Chain.{and_then}
use Rattle.ob_expr.specs.Computing.{Lack, overflow, too_long, zero_divisor, unread}
use Rattle.ob_expr.specs.Meaning.{follow, meaning, row_of, value_at}
use Rattle.ob_expr.specs.Reads.{IsAlong, LeadsTo}
use Rattle.ob_expr.specs.TypedTree.{paths_of, typed_tree_of}
use Rattle.ob_schema.specs.declared.info.Delegation.{Delegation}
use Rattle.ob_schema.specs.declared.info.FieldInfo.{FieldInfo}
use Rattle.ob_schema.specs.declared.info.Formula.{Formula}
use Rattle.ob_schema.specs.declared.info.ModelInfo.{ModelInfo}
use Rattle.ob_schema.specs.declared.info.Origin.{Origin}
use Rattle.ob_schema.specs.declared.info.Origin.TheVariants as origin
use Rattle.ob_schema.specs.Models.{IsRegistry, IsRouted, field_at, is_given_from}
use Rattle.ob_definition.specs.Values.{initial_value}
use Rattle.ob_schema.specs.Tied.{IsTied}
use Rattle.ob_schema.specs.Plain.{id_value, plain_at, plain_by, plain_from}
use Rattle.ob_schema.specs.Tables.{Fits, PlainRow, Tables, row_at}
use Rattle.ob_schema.specs.Val.{behind, formula_value, or_inherited, value_in}
use Rattle.ob_tables.proofs.Along.{along_one}
use Rattle.ob_tables.proofs.KnownFields.{Field-at, Formula-at, is_there, there_is}
use Rattle.ob_tables.proofs.Settled.{Behind, Behind-at, all_good}
use Rattle.ob_tables.proofs.Stable.{IsDeep, Rules, deep_less, held_by, limited_unread, value_in-deep, value_there}
use Rattle.ob_tables.proofs.LedTo.{IsThere, along_there, plain_there, step_there}
use Rattle.ob_tables.proofs.Expressions.{AreLaws}

-- what is inherited as unread is so of the cell that is lacked
inherited_unread : (g : Cell → Result Value Lack) (m : Result Value Lack) (other : Cell) → or_inherited g m ≡ Err (unread other) → (d : Cell) × (m ≡ Err (unread d)) × (g d ≡ Err (unread other))
inherited_unread g (Ok v) other is = absurd cc
inherited_unread g (Err overflow) other is = absurd cc
inherited_unread g (Err too_long) other is = absurd cc
inherited_unread g (Err zero_divisor) other is = absurd cc
inherited_unread g (Err (unread d)) other is = (d, refl, is)

-- nothing is not there
pub not_there : {X : Type 0} (o : Option X) → o ≡ None → IsSome o → ⊥
not_there None is there = cc
not_there (Some x) is there = cc

module _ (models : List ModelInfo) (tables : Tables) where
  -- a cell that its row is given has a value
  pub given_value : (n : ℕ) (f : Cell → Result Value Lack) (c : Cell) (row : PlainRow) (info : FieldInfo) → IsDeep models tables (suc n) f → row_at tables c.model c.id ≡ Some row → field_at models c.model c.field ≡ Some info
      → is_given_from info.origin ≡ true → (v : Value) × (f c ≡ Ok v) × (plain_at tables models c ≡ Some v)
  given_value n f c row info deep there at given = by info.origin refl given
    where
      by : (o : Origin) → info.origin ≡ o → is_given_from o ≡ true → (v : Value) × (f c ≡ Ok v) × (plain_at tables models c ≡ Some v)
      by origin.Id is given =
          let plain : plain_at tables models c ≡ Some (id_value c.id) =
          ap (λ (i : Option FieldInfo). option_and_then (λ i. option_and_then (plain_from tables i.origin i c.field c.id) (row_at tables c.model c.id)) i) at
          ∙ ap (λ (r : Option PlainRow). option_and_then (plain_from tables info.origin info c.field c.id) r) there ∙ ap (λ (o : Origin). plain_from tables o info c.field c.id row) is in
          (id_value c.id, deep.2 c ∙ value_there models tables deep.0 c row info origin.Id there at is ∙ ap (λ (o : Option Value). value_at c o) plain, plain)
      by origin.Plain is given =
          let plain = plain_there models tables c row info there at is in
          (plain_by tables info.inverse info.mirror info c.field c.id row, deep.2 c ∙ value_there models tables deep.0 c row info origin.Plain there at is ∙ ap (λ (o : Option Value). value_at c o) plain, plain)
      by (origin.Delegated to) is given = absurd cc
      by (origin.Computed formula) is given = absurd cc

module _ (laws : AreLaws) (models : List ModelInfo) (tables : Tables) (registry : IsRegistry models) (tied : IsTied models tables) where
  -- of a cell that is there, none is unread after so many steps
  abbrev Reads : ℕ → Cell → Type 0
  Reads n c = IsThere models tables registry tied c → (f : Cell → Result Value Lack) → IsDeep models tables n f → (other : Cell) → f c ≡ Err (unread other) → ⊥

  -- a cell that its row is given
  reads_given : (n : ℕ) (c : Cell) (info : FieldInfo) → field_at models c.model c.field ≡ Some info → is_given_from info.origin ≡ true → Reads (suc n) c
  reads_given n c info at given = λ there f deep other is.
      let row = is_there (row_at tables c.model c.id) there.0 in
      let has = given_value models tables n f c row.0 info deep row.1 at given in
      let both : Ok has.0 ≡ Err (unread other) = sym has.1 ∙ is in cc

  -- a delegated cell
  reads_delegated : (n : ℕ) (c : Cell) (info : FieldInfo) (at : Delegation) → 1 ≤ n → field_at models c.model c.field ≡ Some info → info.origin ≡ origin.Delegated at
      → ((id : RecId) → Reads n (behind models tables at id)) → Reads (suc n) c
  reads_delegated n c info at some found from target = λ there f deep other is.
      let row = is_there (row_at tables c.model c.id) there.0 in
      let known = Behind-at models c.model c.field info at registry found from in
      let has = given_value models tables 0 deep.0 (link_of at) row.0 known.link (deep_less models tables 1 n deep.0 some deep.1) row.1 known.link_at (ap is_given_from known.plain) in
      let went = sym (deep.2 c ∙ value_there models tables deep.0 c row.0 info (origin.Delegated at) row.1 found from) ∙ is in
      by at known row.0 row.1 deep.0 deep.1 other target has.0 has.2 (sym (ap (λ (m : Result Value Lack). and_then m (follow (λ id. deep.0 (behind models tables at id)) (Ok (initial_value info.field_type)))) has.1) ∙ went)
    where
      link_of : Delegation → Cell
      link_of at = record c { field = at.link }

      by : (at : Delegation) → Behind models c.model at → (row : PlainRow) → row_at tables c.model c.id ≡ Some row → (g : Cell → Result Value Lack)
          → IsDeep models tables n g → (other : Cell) → ((id : RecId) → Reads n (behind models tables at id))
          → (v : Value) → plain_at tables models (record c { field = at.link }) ≡ Some v → follow (λ id. g (behind models tables at id)) (Ok (initial_value info.field_type)) v ≡ Err (unread other) → ⊥
      by at known row there g deep other target (value.Ref id) holds is =
          let leads : LeadsTo (plain_at tables models (record c { field = at.link })) id = subst (λ (o : Option Value). LeadsTo o id) (sym holds) refl in
          let there_too = step_there models tables registry tied (record c { field = at.link }) row known.link at.model id there known.link_at known.plain known.leads leads in
          target id (there_too, there_is (field_at models at.model at.field) known.target known.target_at) g deep other is
      by at known row there g deep other target value.Nil holds is = cc
      by at known row there g deep other target (value.Bool b) holds is = cc
      by at known row there g deep other target (value.Int i) holds is = cc
      by at known row there g deep other target (value.Word text) holds is = cc
      by at known row there g deep other target (value.Day d) holds is = cc
      by at known row there g deep other target (value.Moment m) holds is = cc
      by at known row there g deep other target (value.Refs ids) holds is = cc

  -- a computed cell
  reads_computed : (n : ℕ) (c : Cell) (info : FieldInfo) (formula : Formula) → 1 ≤ n → field_at models c.model c.field ≡ Some info → info.origin ≡ origin.Computed formula
      → ((f : Cell → Result Value Lack) → IsDeep models tables n f → (d : Cell) → IsAlong (held_by f) (row_of c) (typed_tree_of formula.typed) d → Reads n d) → Reads (suc n) c
  reads_computed n c info formula some found from along = λ there f deep other is.
      let g = deep.0 in
      let tree = typed_tree_of formula.typed in
      let row = is_there (row_at tables c.model c.id) there.0 in
      let went : or_inherited g (formula_value g formula info c) ≡ Err (unread other) = sym (deep.2 c ∙ value_there models tables g c row.0 info (origin.Computed formula) row.1 found from) ∙ is in
      let lacked = inherited_unread g (formula_value g formula info c) other went in
      let reads = laws.lacks tree (held_by g) (row_of c) lacked.0 (limited_unread info.field_type (meaning (held_by g) (row_of c) tree) lacked.0 lacked.1) in
      let right = Formula-at models c.model c.field info formula (Field-at models c.model c.field info registry found) from in
      let one = along_one (held_by g) (row_of c) (λ route. IsRouted models c.model route.links route.field route.kind) (paths_of tree) lacked.0 right.routed reads.0 in
      let at = along_there models tables registry tied 0 g (deep_less models tables 1 n g some deep.1) (row_of c) one.0.links one.0.field one.0.kind there.0 one.1 lacked.0 one.2 in
      along g deep.1 lacked.0 reads.0 at g deep.1 other lacked.2

  -- so it is with all
  reads_rules : Rules models tables Reads
  reads_rules = record {
    later = λ n m c le reads there f deep other is. reads there f (deep_less models tables n m f le deep) other is;
    absent = λ n c none there f deep other is. not_there (row_at tables c.model c.id) none there.0;
    unknown = λ n c none there f deep other is. not_there (field_at models c.model c.field) none there.1;
    given = reads_given;
    delegated = λ n c info at some found from link target. reads_delegated n c info at some found from target;
    computed = reads_computed;
  }

  -- after enough steps none is unread
  pub reads_none : Fits models tables → (s : ℕ)
      → ((c : Cell) (f : FieldInfo) (formula : Formula) → field_at models c.model c.field ≡ Some f → f.origin ≡ origin.Computed formula → formula.stratum < s) → (n : ℕ) → 64 * s + 2 ≤ n → (cell other : Cell)
      → IsSome (row_at tables cell.model cell.id) → IsSome (field_at models cell.model cell.field) → value_in models tables n cell ≡ Err (unread other) → ⊥
  reads_none fits s top n high cell other row field is =
      all_good models tables Reads reads_rules registry fits tied s top n high cell (row, field) (value_in models tables n) (value_in-deep models tables n) other is
