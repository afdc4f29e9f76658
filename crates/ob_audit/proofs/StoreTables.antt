-- The tables that all rows of a store make: they have its plain values.
use Rattle.std.proofs.Common.{◌≡◌, ◌<◌, ◌≤◌, ◌⊎◌, inl, inr, ℕ, zero, suc, Bool, true, false, List, [], ◌∷◌, map, length, Option, Some, None, is_some, IsSome, refl, sym, ap, subst, ◌∙◌, arith}
use Rattle.std.specs.Prelude.{IsSomeAnd}
use Rattle.std.specs.FinMap as finite
use Rattle.std.specs.List.{AllByRecursion}
use Rattle.std.proofs.lemmas.Option.{same_Some}
use Rattle.ob_base.specs.Ids.{row_key_cmp}
use Rattle.ob_base.specs.Limits.{max_models}
use Rattle.ob_base.specs.declared.id.ModelNo.{ModelNo}
use Rattle.ob_base.specs.declared.id.RecId.{RecId}
use Rattle.ob_base.specs.declared.value.Value.{Value}
use Rattle.ob_audit.specs.Rows.{ArePlain, HasRowsOf, IsReadAs, plain_row}
use Rattle.ob_audit.specs.Reading.{AreTold, IsOneOf, IsReadRow, ReadRow, edit_of}
use Rattle.ob_audit.proofs.MadeTables.{after-none, after-some, is-it, is_it, it-is, next-after, row_for, row_for-plain}
use Rattle.ob_codec.specs.RowForm.{HoldAll, row_form}
use Rattle.ob_io.specs.Store.{Store, row_at as kept_row_at}
use Rattle.ob_io.specs.declared.store.KeptRow.{KeptRow}
use Rattle.ob_schema.specs.Built.{numbered}
use Rattle.ob_schema.specs.Fields.{kept_fields}
use Rattle.ob_schema.specs.Models.{HasModel, IsRegistry, model_at}
use Rattle.ob_schema.specs.Tables.{Fits, PlainRow, Tables, key_of, next_of, row_at}
use Rattle.ob_schema.specs.declared.info.FieldInfo.{FieldInfo}
use Rattle.ob_schema.specs.declared.info.ModelInfo.{ModelInfo}
use Rattle.ob_tables.specs.After.{after}

-- the law of kept forms: lists of values of the same fields that have one body are equal
abbrev pub HaveOneBody : Type 0
HaveOneBody = (fields : List FieldInfo) (a b : List Value) → HoldAll fields a → HoldAll fields b → row_form fields a ≡ row_form fields b → a ≡ b

-- ---- lists

-- what is known of all is known of one
pub of-one : {X : Type 0} (P : X → Type 0) (xs : List X) (x : X) → AllByRecursion P xs → IsOneOf x xs → P x
of-one P [] x all one = absurd one
of-one P (y ∷ xs) x all (inl is) = subst P (sym is) all.0
of-one P (y ∷ xs) x all (inr later) = of-one P xs x all.1 later

-- and what is known of each one is known of all
pub of-each : {X : Type 0} (P : X → Type 0) (xs : List X) → ((x : X) → IsOneOf x xs → P x) → AllByRecursion P xs
of-each P [] each = tt
of-each P (y ∷ xs) each = (each y (inl refl), of-each P xs (λ x later. each x (inr later)))

-- a number at which something stands is within the list
pub within : {X : Type 0} (xs : List X) (n : ℕ) → IsSome (numbered xs n) → n ≤ length xs
within xs zero there = omega arith
within [] (suc n) there = absurd cc
within (x ∷ xs) (suc zero) there = omega arith
within (x ∷ xs) (suc (suc n)) there = let low = within xs (suc n) there in omega arith

-- ---- tables

module _ (models : List ModelInfo) (registry : IsRegistry models) (one : HaveOneBody) (before : Tables) (reads : List ReadRow) (store : Store)
    (each : AllByRecursion (λ r. IsReadRow models r.model (next_of before r.model) r × (r.model.0 ≤ max_models)) reads) (empty : before.rows ≡ finite.empty) (told : AreTold models max_models before reads store) where
  -- the tables that the rows make
  abbrev pub made : Tables
  made = after models before (map edit_of reads)

  low : (model : ModelNo) → HasModel models model → model.0 ≤ max_models
  low model has = let few = registry.few in let in_list = within models model.0 has in omega arith

  read : (r : ReadRow) → IsOneOf r reads → IsReadRow models r.model (next_of before r.model) r
  read r among = (of-one (λ r. IsReadRow models r.model (next_of before r.model) r × (r.model.0 ≤ max_models)) reads r each among).0

  infos : AllByRecursion (λ r. model_at models r.model ≡ Some r.info) reads
  infos = of-each (λ r. model_at models r.model ≡ Some r.info) reads (λ r among. (read r among).info_is)

  kept-there : (r : ReadRow) → IsOneOf r reads → kept_row_at store r.model r.row.id ≡ Some r.row
  kept-there r among = of-one (λ r. kept_row_at store r.model r.row.id ≡ Some r.row) reads r told.row among

  none-before : (model : ModelNo) (id : RecId) → row_at before model id ≡ None
  none-before model id = ap (λ (rows : finite.FinMap row_key_cmp PlainRow). finite.get rows (key_of model id)) empty ∙ finite.get-empty row_key_cmp (key_of model id)

  next-made : (model : ModelNo) → next_of made model ≡ next_of before model
  next-made model = next-after models reads before model (of-each (λ r. (model_at models r.model ≡ Some r.info) × (r.row.id.0 < next_of before r.model)) reads (λ r among. ((read r among).info_is, (read r among).below)))

  -- a row that is kept was read, and it is a row of the tables
  pub record IsMade (model : ModelNo) (info : ModelInfo) (id : RecId) (kept : KeptRow) : Type 0 where
    pub from : ReadRow
    pub among : IsOneOf from reads
    pub model_is : from.model ≡ model
    pub id_is : from.row.id ≡ id
    pub row_is : from.row ≡ kept
    pub info_is : from.info ≡ info
    pub read_as : IsReadAs info kept from.values
    pub made_is : row_at made model id ≡ Some (plain_row info from.values)

  module _ (model : ModelNo) (info : ModelInfo) (is : model_at models model ≡ Some info) (id : RecId) where
    same-info : (r : ReadRow) → IsOneOf r reads → r.model ≡ model → r.info ≡ info
    same-info r among model_is = same_Some r.info info (sym (read r among).info_is ∙ ap (λ (m : ModelNo). model_at models m) model_is ∙ is)

    same-kept : (r : ReadRow) → IsOneOf r reads → r.model ≡ model → r.row.id ≡ id → (kept : KeptRow) → kept_row_at store model id ≡ Some kept → r.row ≡ kept
    same-kept r among model_is id_is kept there = same_Some r.row kept (sym (kept-there r among) ∙ (λ i. kept_row_at store (model_is i) (id_is i)) ∙ there)

    reads-as : (r : ReadRow) → IsOneOf r reads → r.model ≡ model → r.row.id ≡ id → (kept : KeptRow) → kept_row_at store model id ≡ Some kept → IsReadAs info kept r.values
    reads-as r among model_is id_is kept there =
        subst (λ (k : KeptRow). IsReadAs info k r.values) (same-kept r among model_is id_is kept there) (subst (λ (i : ModelInfo). IsReadAs i r.row r.values) (same-info r among model_is) (read r among).read_as)

    pub is-made : (kept : KeptRow) → kept_row_at store model id ≡ Some kept → IsMade model info id kept
    is-made kept there =
        let (r, among, model_is, id_is) = told.all model id kept (ap is_some is) (low model (ap is_some is)) there in
        let as_read = reads-as r among model_is id_is kept there in
        record {
          from = r;
          among = among;
          model_is = model_is;
          id_is = id_is;
          row_is = same-kept r among model_is id_is kept there;
          info_is = same-info r among model_is;
          read_as = as_read;
          made_is = after-some models model id (plain_row info r.values) reads before infos (of-each (λ s. is_it models model id s ≡ true → row_for s ≡ plain_row info r.values) reads (alike r as_read))
              (inr (r, among, it-is models model id r model_is id_is));
        }
      where
        alike : (r : ReadRow) → IsReadAs info kept r.values → (s : ReadRow) → IsOneOf s reads → is_it models model id s ≡ true → row_for s ≡ plain_row info r.values
        alike r as_read s among it =
            let keys = is-it models model id s it in
            let other = reads-as s among keys.0 keys.1 kept there in
            let same : s.values ≡ r.values = one (kept_fields info) s.values r.values other.hold as_read.hold (sym other.body ∙ as_read.body) in
            row_for-plain s ((read s among).read_as.hold) ∙ (λ i. plain_row (same-info s among keys.0 i) (same i))

    pub none-made : kept_row_at store model id ≡ None → row_at made model id ≡ None
    none-made none = after-none models model id reads before infos (of-each (λ r. is_it models model id r ≡ false) reads not-it) (none-before model id)
      where
        not-it : (r : ReadRow) → IsOneOf r reads → is_it models model id r ≡ false
        not-it r among = by (is_it models model id r) refl
          where
            by : (b : Bool) → is_it models model id r ≡ b → b ≡ false
            by true it =
                let keys = is-it models model id r it in
                absurd (let both : Some r.row ≡ None = sym (kept-there r among) ∙ (λ i. kept_row_at store (keys.0 i) (keys.1 i)) ∙ none in cc)
            by false it = refl

  -- they are those of the plain values
  pub are-plain : Fits models made → ArePlain models store made
  are-plain fits = record { fits = fits; rows = rows }
    where
      rows : (model : ModelNo) → IsSomeAnd (model_at models model) (HasRowsOf models store made model) ⊎ (model_at models model ≡ None)
      rows model = by (model_at models model) refl
        where
          by : (o : Option ModelInfo) → model_at models model ≡ o → IsSomeAnd o (HasRowsOf models store made model) ⊎ (o ≡ None)
          by None is = inr refl
          by (Some info) is = inl (record {
            there = λ id kept there. (let m = is-made model info is id kept there in (m.from.values, m.read_as, m.made_is));
            none = λ id none. none-made model info is id none;
            next = told.next model (ap is_some is) (low model (ap is_some is)) ∙ sym (next-made model);
          })
