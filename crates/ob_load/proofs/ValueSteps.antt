-- The fields of a model gone through in their order: what a table of values gives to each.
use Rattle.std.proofs.Common.{◌≡◌, ◌≢◌, ℕ, suc, ◌+◌, ◌<◌, ◌≤◌, List, [], ◌∷◌, ◌++◌, length, drop, All, Option, None, Some, refl, sym, ap, subst, append_assoc, ◌∙◌, arith}
use Rattle.std.specs.Prelude.{IsSomeAnd, codes, option_and_then, option_map, slice_get}
use Rattle.std.specs.Option.{option_map_or}
use Rattle.std.proofs.lemmas.List.{append-nil, drop_all}
use Rattle.std.proofs.lemmas.List.Elements.{All-get_or, All-nil, All-push, All-weaker}
use Rattle.std.proofs.lemmas.List.Quantifiers.{all_pairs_push}
use Rattle.std.proofs.lemmas.Option.{slice_get_within}
use Rattle.toml.specs.Data.{Data, get}
use Rattle.ob_base.specs.declared.id.FieldNo.{FieldNo}
use Rattle.ob_base.specs.declared.id.ModelNo.{ModelNo}
use Rattle.ob_load.specs.Preset.{Ref, given, values_given, values_of}
use Rattle.ob_load.specs.Rooms.{AreFitting, AreGivenTo, IsGivenRow, IsPlainHeld}
use Rattle.ob_load.proofs.AccessSteps.{parted-at}
use Rattle.ob_load.proofs.Bringing.{get-front}
use Rattle.ob_load.proofs.Given.{given-fits, map-some, some-weaker, then-some}
use Rattle.ob_schema.specs.Built.{numbered}
use Rattle.ob_schema.specs.Models.{field_at, model_at}
use Rattle.ob_schema.specs.Presets.{FitsModel, IsPresetOf}
use Rattle.ob_schema.specs.declared.info.FieldInfo.{FieldInfo}
use Rattle.ob_schema.specs.declared.info.ModelInfo.{ModelInfo}
use Rattle.ob_schema.specs.declared.preset.PresetRow.{PresetRow}
use Rattle.ob_schema.specs.declared.preset.PresetValue.{PresetValue}

abbrev pub Given : Type 0
Given = FieldNo × PresetValue

module _ (models : List ModelInfo) (groups : List (List ℕ)) (first : ℕ) (refs : List Ref) (values : Data) (fields : List FieldInfo) where
  -- the values so far and those of the fields that are left are all; so far they fit, and name none of the fields that are left
  pub record AreValuesTo (n : ℕ) (so_far : List Given) : Type 0 where
    pub all : so_far ++ values_given models groups first refs values (n + 1) (drop n fields) ≡ values_given models groups first refs values 1 fields
    pub fit : AreGivenTo models groups first refs fields so_far
    pub low : All (λ (g : Given). g.0.0 ≤ n) so_far

  -- none
  pub values-none : AreValuesTo 0 []
  values-none = record {
    all = refl;
    fit = λ have before behind. record {
      apart = λ i j d lt within. absurd (omega (arith, within));
      fit = All-nil (λ (g : Given). IsSomeAnd (numbered fields g.0.0) (λ field. IsPresetOf before field g.1));
    };
    low = All-nil (λ (g : Given). g.0.0 ≤ 0);
  }

  module _ (n : ℕ) (field : FieldInfo) (at : slice_get fields n ≡ Some field) (so_far : List Given) (is : AreValuesTo n so_far) where
    abbrev left : List Given
    left = values_given models groups first refs values (n + 1 + 1) (drop (n + 1) fields)

    abbrev here : Option PresetValue → List Given
    here o = option_map_or (λ v. (record { 0 = n + 1 }, v) ∷ []) o []

    next : (o : Option PresetValue) → option_and_then (given models groups first refs field) (get field.name values) ≡ o → so_far ++ (here o ++ left) ≡ values_given models groups first refs values 1 fields
    next o e =
        ap (λ (k : Option PresetValue). so_far ++ (here k ++ left)) (sym e)
        ∙ ap (λ (l : List FieldInfo). so_far ++ values_given models groups first refs values (n + 1) l) (sym (parted-at fields n field at).0) ∙ is.all

    low-more : All (λ (g : Given). g.0.0 ≤ n + 1) so_far
    low-more = All-weaker (λ (g : Given). g.0.0 ≤ n) (λ (g : Given). g.0.0 ≤ n + 1) (λ g le. omega (arith, le)) so_far is.low

    -- nothing is given to the field
    pub values-without : option_and_then (given models groups first refs field) (get field.name values) ≡ None → AreValuesTo (n + 1) so_far
    values-without none = record { all = next None none; fit = is.fit; low = low-more }

    -- a value is
    pub values-with : (number : FieldNo) (v : PresetValue) → number.0 ≡ n + 1 → option_and_then (given models groups first refs field) (get field.name values) ≡ Some v → IsPlainHeld field v
        → AreValuesTo (n + 1) (so_far ++ (number, v) ∷ [])
    values-with number v named e held = subst (λ (k : FieldNo). AreValuesTo (n + 1) (so_far ++ (k, v) ∷ [])) (ap (λ (m : ℕ). let k : FieldNo = record { 0 = m } in k) (sym named)) (record {
      all = append_assoc so_far ((record { 0 = n + 1 }, v) ∷ []) left ∙ next (Some v) e;
      fit = λ have before behind.
          let own : AreFitting before fields so_far = is.fit have before behind in
          let P : Given → Type 0 = λ g. IsSomeAnd (numbered fields g.0.0) (λ field. IsPresetOf before field g.1) in
          let found = then-some (given models groups first refs field) (get field.name values) v e in
          let fits : IsPresetOf before field v = given-fits models groups first refs have before behind field found.0 field.field_type refl v found.2 held in
          let one : suc n ≡ n + 1 = omega arith in
          record {
            apart = all_pairs_push (λ (a b : Given). a.0 ≢ b.0) so_far (record { 0 = n + 1 }, v) own.apart
                (λ k d lt same. let le = All-get_or (λ (g : Given). g.0.0 ≤ n) so_far k d lt is.low in let eq = ap (λ (m : FieldNo). m.0) same in absurd (omega (arith, le, eq)));
            fit = All-push P so_far (record { 0 = n + 1 }, v) own.fit
                (subst (λ (k : ℕ). IsSomeAnd (numbered fields k) (λ f. IsPresetOf before f v)) one (subst (λ (o : Option FieldInfo). IsSomeAnd o (λ f. IsPresetOf before f v)) (sym at) fits));
          };
      low = All-push (λ (g : Given). g.0.0 ≤ n + 1) so_far (record { 0 = n + 1 }, v) low-more (omega arith);
    })

  -- with no field left they are all
  pub values-end : (n : ℕ) (so_far : List Given) → length fields ≤ n → AreValuesTo n so_far → so_far ≡ values_given models groups first refs values 1 fields
  values-end n so_far high is = sym (append-nil so_far) ∙ ap (λ (l : List FieldInfo). so_far ++ values_given models groups first refs values (n + 1) l) (sym (drop_all n fields high)) ∙ is.all

-- a field that is found at its place is that of its number
pub field-here : (models : List ModelInfo) (model : ModelNo) (fields : List FieldInfo) (i : ℕ) (field : FieldInfo) (number : FieldNo) → option_map (λ (info : ModelInfo). info.fields) (model_at models model) ≡ Some fields
    → slice_get fields i ≡ Some field → number.0 ≡ i + 1 → field_at models model number ≡ Some field
field-here models model fields i field number same at is =
    let own = map-some (λ (info : ModelInfo). info.fields) (model_at models model) fields same in
    let low : i < length fields = slice_get_within fields i field at in
    let place : number.0 ≡ suc i = omega (arith, is) in
    ap (λ (o : Option ModelInfo). option_and_then (λ (info : ModelInfo). numbered (info.fields ++ info.hidden) number.0) o) own.1
    ∙ ap (λ (k : ℕ). numbered (own.0.fields ++ own.0.hidden) k) place
    ∙ ap (λ (l : List FieldInfo). slice_get (l ++ own.0.hidden) i) own.2 ∙ get-front fields own.0.hidden i low ∙ at

-- what is given to the fields of a model is given to the model
pub values-of : (models : List ModelInfo) (groups : List (List ℕ)) (first : ℕ) (refs : List Ref) (model : ModelNo) (d values : Data) (fields : List FieldInfo) (given : List Given)
    → option_map (λ (info : ModelInfo). info.fields) (model_at models model) ≡ Some fields → get (codes "values") d ≡ Some values → given ≡ values_given models groups first refs values 1 fields → given ≡ values_of models groups first refs model d
values-of models groups first refs model d values fields given same at is =
    let own = map-some (λ (info : ModelInfo). info.fields) (model_at models model) fields same in
    is ∙ ap (λ (l : List FieldInfo). values_given models groups first refs values 1 l) (sym own.2)
    ∙ sym (ap (λ (o : Option ModelInfo). option_map_or (λ (info : ModelInfo). option_map_or (λ v. values_given models groups first refs v 1 info.fields) (get (codes "values") d) []) o []) own.1
    ∙ ap (λ (o : Option Data). option_map_or (λ v. values_given models groups first refs v 1 own.0.fields) o []) at)

-- without values nothing is
pub values-of-none : (models : List ModelInfo) (groups : List (List ℕ)) (first : ℕ) (refs : List Ref) (model : ModelNo) (d : Data) → get (codes "values") d ≡ None → [] ≡ values_of models groups first refs model d
values-of-none models groups first refs model d none = by (model_at models model)
  where
    by : (o : Option ModelInfo) → [] ≡ option_map_or (λ (info : ModelInfo). option_map_or (λ v. values_given models groups first refs v 1 info.fields) (get (codes "values") d) []) o []
    by None = refl
    by (Some info) = sym (ap (λ (o : Option Data). option_map_or (λ v. values_given models groups first refs v 1 info.fields) o []) none)

-- they fit the fields of the model
pub given-over : (models : List ModelInfo) (groups : List (List ℕ)) (first : ℕ) (refs : List Ref) (model : ModelNo) (fields : List FieldInfo) (given : List Given)
    → option_map (λ (info : ModelInfo). info.fields) (model_at models model) ≡ Some fields → AreGivenTo models groups first refs fields given
    → IsSomeAnd (model_at models model) (λ info. AreGivenTo models groups first refs info.fields given)
given-over models groups first refs model fields given same are =
    let own = map-some (λ (info : ModelInfo). info.fields) (model_at models model) fields same in
    subst (λ (o : Option ModelInfo). IsSomeAnd o (λ info. AreGivenTo models groups first refs info.fields given)) (sym own.1)
    (subst (λ (l : List FieldInfo). AreGivenTo models groups first refs l given) (sym own.2) are)

-- so a row of them fits its model
pub row-given : (models : List ModelInfo) (groups : List (List ℕ)) (first : ℕ) (refs : List Ref) (row : PresetRow) → IsSomeAnd (model_at models row.model) (λ info. AreGivenTo models groups first refs info.fields row.values)
    → IsGivenRow models groups first refs row
row-given models groups first refs row are have before behind =
    some-weaker (λ (info : ModelInfo). AreGivenTo models groups first refs info.fields row.values) (λ (info : ModelInfo). FitsModel before info row)
    (λ info given. let own = given have before behind in record { apart = own.apart; fit = own.fit }) (model_at models row.model) are
