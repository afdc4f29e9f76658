-- What is told by what was read of a store is told of the store.
use Rattle.std.proofs.Common.{◌≡◌, ◌<◌, inl, inr, ℕ, true, List, [], ◌∷◌, map, length, Option, Some, None, Ok, refl, sym, ap, subst, arith}
use Rattle.std.specs.List.{AllByRecursion, AllZip}
use Rattle.std.specs.Option.{option_map_or}
use Rattle.ob_base.specs.declared.id.Cell.{Cell}
use Rattle.ob_base.specs.declared.id.ModelNo.{ModelNo}
use Rattle.ob_base.specs.declared.id.RecId.{RecId}
use Rattle.ob_base.specs.declared.value.Value.{Value}
use Rattle.ob_audit.specs.Comparing.{AgreesBy, IsFirstWrong, IsFound, IsFull, IsIn, IsRight, LineBy, TellsBy, step_of}
use Rattle.ob_audit.specs.Reading.{AreStored, EachBefore, IsOneOf, IsStoredBefore}
use Rattle.ob_audit.specs.Report.{Agrees, Differs, FieldOf, FirstDiffers, TellsField, TellsTables, cell_in, is_stored, model_name, stored_columns, stored_fields, stored_of_model}
use Rattle.ob_audit.specs.Rows.{ArePlain, Keeps}
use Rattle.ob_audit.specs.declared.comparing.Difference.{Difference}
use Rattle.ob_audit.specs.declared.report.Report.{Report}
use Rattle.ob_audit.proofs.CellOrder.{less-parts, placed}
use Rattle.ob_audit.proofs.KeptForms.{IsColumn, columns-at}
use Rattle.ob_audit.proofs.ModelFields.{field-of}
use Rattle.ob_audit.proofs.PagedRows.{all-appended, one-right}
use Rattle.ob_audit.proofs.StoreTables.{of-each, of-one}
use Rattle.ob_io.specs.Store.{Store}
use Rattle.ob_schema.specs.Broken.{Sound}
use Rattle.ob_schema.specs.Fields.{Column}
use Rattle.ob_schema.specs.Models.{field_at, model_at}
use Rattle.ob_schema.specs.Tables.{Standing, ids_in}
use Rattle.ob_schema.specs.Val.{val}
use Rattle.ob_schema.specs.declared.info.ModelInfo.{ModelInfo}
use Rattle.ob_tables.proofs.CallerLemmas.{tell_and}

-- ---- lists

-- what holds of each of a list's fields, by what holds of another
zip-turned : {A B : Type 0} (P : A → Type 0) (R S : A → B → Type 0) → ((x : A) (y : B) → P x → R x y → S x y) → (xs : List A) (ys : List B) → AllByRecursion P xs → AllZip R xs ys → AllZip S xs ys
zip-turned P R S turn [] [] known all = tt
zip-turned P R S turn [] (y ∷ ys) known all = all
zip-turned P R S turn (x ∷ xs) [] known all = all
zip-turned P R S turn (x ∷ xs) (y ∷ ys) known all = (turn x y known.0 all.0, zip-turned P R S turn xs ys known.1 all.1)

all-turned : {X : Type 0} (P R S : X → Type 0) → ((x : X) → P x → R x → S x) → (xs : List X) → AllByRecursion P xs → AllByRecursion R xs → AllByRecursion S xs
all-turned P R S turn [] known all = tt
all-turned P R S turn (x ∷ xs) known all = (turn x known.0 all.0, all-turned P R S turn xs known.1 all.1)

-- ---- the fields that are told are stored ones

-- a field of the models whose value a formula gives and rows keep
pub record IsStoredField (models : List ModelInfo) (field : FieldOf) : Type 0 where
  pub at : field_at models field.0 (record { 0 = field.1.0 }) ≡ Some field.1.1
  pub stored : is_stored field.1.1 ≡ true

module _ (models : List ModelInfo) where
  of-columns : (model : ModelNo) (info : ModelInfo) → model_at models model ≡ Some info → (cols : List Column) → AllByRecursion (IsColumn is_stored info.fields) cols
      → AllByRecursion (IsStoredField models) (map (λ (column : Column). (model, column)) cols)
  of-columns model info is [] all = tt
  of-columns model info is (c ∷ cols) all = (record { at = field-of models model info c.0 c.1 is all.0.at; stored = all.0.passes }, of-columns model info is cols all.1)

  of-model : (model : ModelNo) → AllByRecursion (IsStoredField models) (stored_of_model models model)
  of-model model = by (model_at models model) refl
    where
      by : (o : Option ModelInfo) → model_at models model ≡ o → AllByRecursion (IsStoredField models) (option_map_or (λ info. map (λ column. (model, column)) (stored_columns info)) o [])
      by None is = tt
      by (Some info) is = of-columns model info is (stored_columns info) (columns-at is_stored info)

  stored-all : (named : List (ModelNo × List ℕ)) → AllByRecursion (IsStoredField models) (stored_fields models named)
  stored-all [] = tt
  stored-all (one ∷ named) = all-appended (IsStoredField models) (stored_of_model models one.0) (stored_fields models named) (of-model one.0) (stored-all named)

-- ---- a field

module _ (standing : Standing) (stored : List (Cell × Value)) (store : Store) (are : AreStored standing.models store stored) where
  -- what is wrong differs
  differs-of : (field : FieldOf) (d : Difference) → IsFirstWrong standing stored (step_of field) d → Differs standing.models store standing.tables (cell_in field d.id) d.kept d.scratch
  differs-of field d wrong =
      let here : Cell × Value = (cell_in field d.id, d.kept) in
      record {
        keeps = of-one (λ s. Keeps standing.models store s.0 s.1) stored here are.right (subst (IsOneOf here) (sym wrong.split) (one-right here wrong.front (here ∷ wrong.rest) (inl refl)));
        valued = wrong.valued;
        other = wrong.other;
      }

  -- a cell of a stored field is among what is kept, where a row keeps it
  among-stored : (field : FieldOf) → IsStoredField standing.models field → (id : RecId) (kept : Value) → Keeps standing.models store (cell_in field id) kept → IsOneOf (cell_in field id, kept) stored
  among-stored field is id kept keeps =
      are.all (cell_in field id) kept (tell_and (field_at standing.models field.0 (record { 0 = field.1.0 })) field.1.1 (λ info. is_stored info ≡ true) is.at is.stored) keeps

  -- where nothing of a field is wrong, no cell of it differs
  pub agrees-of : (field : FieldOf) → IsStoredField standing.models field → AgreesBy standing stored field → Agrees standing.models store standing.tables field
  agrees-of field is right id kept scratch differs =
      of-one (λ s. IsIn (step_of field) s.0 → IsRight standing s) stored (cell_in field id, kept) right (among-stored field is id kept differs.keeps) (refl, refl) scratch differs.valued differs.other

  -- and the other way round
  pub agrees-by : (field : FieldOf) → Agrees standing.models store standing.tables field → AgreesBy standing stored field
  agrees-by field agrees = of-each (λ s. IsIn (step_of field) s.0 → IsRight standing s) stored each
    where
      each : (s : Cell × Value) → IsOneOf s stored → IsIn (step_of field) s.0 → IsRight standing s
      each s among within scratch valued other =
          let cell_is : s.0 ≡ cell_in field s.0.id = λ i. record { model = within.0 i; id = s.0.id; field = within.1 i } in
          agrees s.0.id s.1 scratch (record {
            keeps = subst (λ (c : Cell). Keeps standing.models store c s.1) cell_is (of-one (λ t. Keeps standing.models store t.0 t.1) stored s are.right among);
            valued = subst (λ (c : Cell). val standing.models standing.tables c ≡ Ok scratch) cell_is valued;
            other = other;
          })

  -- the first that is wrong is of the least id
  first-of : (field : FieldOf) → IsStoredField standing.models field → (d : Difference) → IsFirstWrong standing stored (step_of field) d → FirstDiffers standing.models store standing.tables field d.id d.kept d.scratch
  first-of field is d wrong = record { differs = differs-of field d wrong; none_before = none }
    where
      here : Cell × Value
      here = (cell_in field d.id, d.kept)

      itself : (i j : ℕ) → i ≡ j → i < j → ⊥
      itself i j same low = omega arith

      around : (i j : ℕ) → i < j → j < i → ⊥
      around i j low high = omega arith

      none : (other : RecId) (k s : Value) → other.0 < d.id.0 → Differs standing.models store standing.tables (cell_in field other) k s → ⊥
      none other k s low differs =
          let there : Cell × Value = (cell_in field other, k) in
          elim (placed IsStoredBefore wrong.front here wrong.rest there (subst (EachBefore IsStoredBefore) wrong.split are.rising) (subst (IsOneOf there) wrong.split (among-stored field is other k differs.keeps))) [
            | inl ahead ↦ of-one (λ t. IsIn (step_of field) t.0 → IsRight standing t) wrong.front there wrong.before ahead (refl, refl) s differs.valued differs.other
            | inr (inl same) ↦ itself other.0 d.id.0 (ap (λ (t : Cell × Value). t.0.id.0) same) low
            | inr (inr behind) ↦ elim (less-parts (cell_in field d.id) (cell_in field other) behind) [
              | inl (inl models_less) ↦ itself field.0.0 field.0.0 refl models_less
              | inl (inr ids_less) ↦ around other.0 d.id.0 low ids_less.1
              | inr fields_less ↦ itself field.1.0 field.1.0 refl fields_less.2
            ]
          ]

  -- the line of a field
  tells-of : (field : FieldOf) (line : List ℕ) → IsStoredField standing.models field → TellsBy standing stored field line → TellsField standing.models store standing.tables field line
  tells-of field line is by-found = by by-found.found by-found.is by-found.text
    where
      by : (o : Option Difference) → IsFound standing stored (step_of field) o → LineBy (model_name standing.models field.0) field.1.1.name (length (ids_in standing.tables field.0)) o line
          → TellsField standing.models store standing.tables field line
      by None right text = inl (record { agrees = agrees-of field is right; text = text })
      by (Some d) wrong (kept, scratch, kept_is, scratch_is, text) = inr (record {
        id = d.id;
        kept = d.kept;
        scratch = d.scratch;
        first = first-of field is d wrong;
        kept_text = kept;
        scratch_text = scratch;
        kept_is = kept_is;
        scratch_is = scratch_is;
        text = text;
      })

  -- the whole report
  pub tells-tables : ArePlain standing.models store standing.tables → Sound standing.models standing.tables → (report : Report) → IsFull standing stored report → TellsTables standing.models store standing.tables report
  tells-tables plain sound report full =
      let fields = stored_fields standing.models full.named in
      let known = stored-all standing.models full.named in
      record {
        plain = plain;
        sound = sound;
        named = full.named;
        by_name = full.by_name;
        told = full.told;
        fields = zip-turned (IsStoredField standing.models) (TellsBy standing stored) (TellsField standing.models store standing.tables) (λ field line is. tells-of field line is) fields full.told known full.each;
        totals = full.totals;
        sums = full.are;
        lines = full.lines;
        equal = (
          λ yes. (let both = full.equal.0 yes in (all-turned (IsStoredField standing.models) (AgreesBy standing stored) (Agrees standing.models store standing.tables) agrees-of fields known both.0, both.1)),
          λ both. full.equal.1 (all-turned (IsStoredField standing.models) (Agrees standing.models store standing.tables) (AgreesBy standing stored) (λ field is agrees. agrees-by field agrees) fields known both.0, both.1),
        );
      }
