-- The values of a row that is made, field by field: each fits its field, and none has two.
use Rattle.std.proofs.Common.{◌≡◌, ◌≢◌, ℕ, ◌+◌, ◌<◌, ◌≤◌, true, List, [], ◌∷◌, ◌++◌, length, Option, Some, sym, ap, subst, ◌∙◌, arith}
use Rattle.std.specs.Prelude.{All, IfSome, IsSomeAnd}
use Rattle.std.specs.List.{AllPairs}
use Rattle.std.proofs.lemmas.List.Elements.{All-nil, All-push}
use Rattle.std.proofs.lemmas.List.Quantifiers.{all_pairs_push}
use Rattle.ob_base.specs.declared.id.FieldNo.{FieldNo}
use Rattle.ob_base.specs.declared.id.ModelNo.{ModelNo}
use Rattle.ob_base.specs.declared.value.Value.{Value}
use Rattle.ob_rows.proofs.CallerLemmas.{step_in, tell, told}
use Rattle.ob_effect.proofs.MadeRows.{Values}
use Rattle.ob_schema.specs.Built.{numbered}
use Rattle.ob_schema.specs.Fields.{HasFieldType, IsGivable, is_plain_kept}
use Rattle.ob_schema.specs.Models.{field_at, fields_of, model_at}
use Rattle.ob_schema.specs.declared.info.FieldInfo.{FieldInfo}
use Rattle.ob_schema.specs.declared.info.ModelInfo.{ModelInfo}
use Rattle.ob_tables.specs.Fitting.{AreFitIn, IsFitIn}

-- a value that the row of a plain field keeps
abbrev pub FitsIn : ModelInfo → FieldNo × Value → Type 0
FitsIn info given = IsSomeAnd (numbered (fields_of info) given.0.0) (λ field. IsFitIn field given.1)

-- values of fields up to a place
pub record FitSoFar (info : ModelInfo) (i : ℕ) (values : Values) : Type 0 where
  pub fit : All (FitsIn info) values
  pub apart : AllPairs (λ a b. a.0 ≢ b.0) values
  pub low : All (λ one. one.0.0 ≤ i) values

module _ (info : ModelInfo) where
  -- at first there are none
  pub fit_none : FitSoFar info 0 []
  fit_none = record {
    fit = All-nil (FitsIn info);
    apart = λ j k d lt below. absurd (omega arith);
    low = All-nil (λ (one : FieldNo × Value). one.0.0 ≤ 0);
  }

  -- all stay low
  low_more : (i : ℕ) (values : Values) → All (λ one. one.0.0 ≤ i) values → All (λ one. one.0.0 ≤ i + 1) values
  low_more i values low = λ k d lt. let own = low k d lt in omega arith

  -- a field that gets none
  pub fit_passed : (i : ℕ) (values : Values) → FitSoFar info i values → FitSoFar info (i + 1) values
  fit_passed i values far = record { fit = far.fit; apart = far.apart; low = low_more i values far.low }

  -- and one that gets one
  pub fit_next : (i : ℕ) (f : FieldInfo) (v : Value) (values : Values) → numbered (fields_of info) (i + 1) ≡ Some f → is_plain_kept f ≡ true → IsGivable f v → FitSoFar info i values
      → FitSoFar info (i + 1) (values ++ (record { 0 = i + 1 }, v) ∷ [])
  fit_next i f v values own plain typed far =
      let number : FieldNo = record { 0 = i + 1 } in
      record {
        fit = All-push (FitsIn info) values (number, v) far.fit (subst (λ (o : Option FieldInfo). IsSomeAnd o (λ field. IsFitIn field v)) (sym own) (plain, typed));
        apart = all_pairs_push (λ (a b : FieldNo × Value). a.0 ≢ b.0) values (number, v) far.apart (λ k d lt same. let below = far.low k d lt in let e = ap (λ (n : FieldNo). n.0) same in omega arith);
        low = All-push (λ (one : FieldNo × Value). one.0.0 ≤ i + 1) values (number, v) (low_more i values far.low) (omega arith);
      }

-- ---- as the steps say it

module _ (models : List ModelInfo) (model : ModelNo) (info : ModelInfo) (is : model_at models model ≡ Some info) where
  -- so far
  abbrev pub SoFar : ℕ → Values → Type 0
  SoFar n values = IfSome (model_at models model) (λ own. FitSoFar own n values)

  pub so_far-none : SoFar 0 []
  so_far-none = tell (model_at models model) info (λ own. FitSoFar own 0 []) is (fit_none info)

  pub so_far-passed : (i : ℕ) (values : Values) → SoFar i values → SoFar (i + 1) values
  so_far-passed i values far =
      tell (model_at models model) info (λ own. FitSoFar own (i + 1) values) is (fit_passed info i values (told (model_at models model) info (λ own. FitSoFar own i values) is far))

  pub so_far-more : (i : ℕ) (f : FieldInfo) (v : Value) (values more : Values) → i < length info.fields → field_at models model (record { 0 = i + 1 }) ≡ Some f → is_plain_kept f ≡ true
      → HasFieldType (field_at models model (record { 0 = i + 1 })) v → more ≡ values ++ (record { 0 = i + 1 }, v) ∷ [] → SoFar i values → SoFar (i + 1) more
  so_far-more i f v values more lt at plain typed pushed far =
      let there = step_in models model info i is lt in
      let same : Some there.f ≡ Some f = sym there.at ∙ at in
      let fits : IsGivable f v = told (field_at models model (record { 0 = i + 1 })) f (λ field. IsGivable field v) at typed in
      tell (model_at models model) info (λ own. FitSoFar own (i + 1) more) is
      (subst (FitSoFar info (i + 1)) (sym pushed) (fit_next info i f v values (there.own ∙ same) plain fits (told (model_at models model) info (λ own. FitSoFar own i values) is far)))

  pub so_far-fit : (i : ℕ) (values : Values) → SoFar i values → AreFitIn models model values
  so_far-fit i values far =
      let own = told (model_at models model) info (λ own. FitSoFar own i values) is far in
      subst (λ (o : Option ModelInfo). IsSomeAnd o (λ own. All (FitsIn own) values × AllPairs (λ a b. a.0 ≢ b.0) values)) (sym is) (own.fit, own.apart)
