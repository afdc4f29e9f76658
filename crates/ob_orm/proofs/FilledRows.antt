-- The values of a row from those that are given, field by field.
use Rattle.std.proofs.Common.{◌≡◌, ◌≢◌, ℕ, suc, ◌+◌, ◌<◌, ◌≤◌, Bool, true, false, List, [], ◌∷◌, ◌++◌, length, filter, Option, None, Some, append_assoc, append-nil, refl, sym, ap, subst, ◌∙◌, arith}
use Rattle.std.specs.Prelude.{All, IfSome, IsSomeAnd, slice_get}
use Rattle.std.specs.List.{AllPairs, enumerate_from, flat_map}
use Rattle.std.specs.Option.{option_map_or}
use Rattle.std.proofs.lemmas.List.{drop_all}
use Rattle.std.proofs.lemmas.List.Elements.{All-nil, All-push}
use Rattle.std.proofs.lemmas.List.Quantifiers.{all_pairs_push}
use Rattle.ob_base.specs.declared.id.FieldNo.{FieldNo}
use Rattle.ob_base.specs.declared.id.ModelNo.{ModelNo}
use Rattle.ob_base.specs.declared.value.Value.{Value}
use Rattle.ob_schema.specs.Built.{numbered}
use Rattle.ob_schema.specs.Fields.{Column, HasFieldType, IsGivable, is_plain_kept, plain_columns}
use Rattle.ob_schema.specs.Models.{field_at, fields_of, model_at}
use Rattle.ob_schema.specs.declared.info.FieldInfo.{FieldInfo}
use Rattle.ob_schema.specs.declared.info.ModelInfo.{ModelInfo}
use Rattle.ob_tables.specs.Fitting.{AreFitIn, IsFitIn}
use Rattle.ob_orm.specs.NewRows.{Values, filled, filled_value}
use Rattle.ob_orm.specs.RowValues.{valued}
use Rattle.ob_rows.specs.declared.author.Author.{Author}
use Rattle.ob_rows.proofs.CallerLemmas.{step_in, tell, told}
use Rattle.ob_orm.proofs.RowValues.{FitsIn, left, left_other, left_plain, typed_for}

module _ (models : List ModelInfo) (by : Author) (made : Bool) (given : Values) where
  -- what a field gets, with its number
  abbrev pub gets : Column → Values
  gets column = valued (record { 0 = column.0 }) (filled_value models by made given column)

  -- with what is left to fill the values are those of the row
  pub record FilledSoFar (info : ModelInfo) (i : ℕ) (values : Values) : Type 0 where
    pub same : flat_map gets (plain_columns info) ≡ values ++ flat_map gets (left info i)
    pub fit : All (FitsIn info) values
    pub apart : AllPairs (λ a b. a.0 ≢ b.0) values
    pub low : All (λ one. one.0.0 ≤ i) values

  module _ (info : ModelInfo) where
    -- at first there are none
    pub filled_none : FilledSoFar info 0 []
    filled_none = record {
      same = refl;
      fit = All-nil (FitsIn info);
      apart = λ j k d lt below. absurd (omega arith);
      low = All-nil (λ (one : FieldNo × Value). one.0.0 ≤ 0);
    }

    -- all stay low
    low_more : (i : ℕ) (values : Values) → All (λ one. one.0.0 ≤ i) values → All (λ one. one.0.0 ≤ i + 1) values
    low_more i values low = λ k d lt. let own = low k d lt in omega arith

    -- a field that isn't plain
    pub filled_passed : (i : ℕ) (f : FieldInfo) (values : Values) → slice_get info.fields i ≡ Some f → is_plain_kept f ≡ false → FilledSoFar info i values → FilledSoFar info (i + 1) values
    filled_passed i f values at plain far = record {
      same = far.same ∙ ap (λ (cs : List Column). values ++ flat_map gets cs) (left_other info i f at plain);
      fit = far.fit;
      apart = far.apart;
      low = low_more i values far.low;
    }

    -- what a plain field gets comes before the rest
    step : (i : ℕ) (f : FieldInfo) (values : Values) (got : Option Value) → slice_get info.fields i ≡ Some f → is_plain_kept f ≡ true → got ≡ filled_value models by made given (i + 1, f) → FilledSoFar info i values
        → flat_map gets (plain_columns info) ≡ values ++ (valued (record { 0 = i + 1 }) got ++ flat_map gets (left info (i + 1)))
    step i f values got at plain is far =
        let rest = flat_map gets (left info (i + 1)) in
        let number_is : suc i ≡ i + 1 = omega arith in
        let own : gets (suc i, f) ≡ valued (record { 0 = i + 1 }) got = ap (λ (n : ℕ). gets (n, f)) number_is ∙ ap (valued (record { 0 = i + 1 })) (sym is) in
        far.same ∙ ap (λ (cs : List Column). values ++ flat_map gets cs) (left_plain info i f at plain) ∙ ap (λ (vs : Values). values ++ (vs ++ rest)) own

    -- one more field, which gets a value or none
    pub filled_next : (i : ℕ) (f : FieldInfo) (values : Values) (got : Option Value) → slice_get info.fields i ≡ Some f → numbered (fields_of info) (i + 1) ≡ Some f → is_plain_kept f ≡ true
        → got ≡ filled_value models by made given (i + 1, f) → IfSome got (IsGivable f) → FilledSoFar info i values → FilledSoFar info (i + 1) (values ++ valued (record { 0 = i + 1 }) got)
    filled_next i f values None at own plain is typed far =
        subst (FilledSoFar info (i + 1)) (sym (append-nil values)) (record {
          same = step i f values None at plain is far;
          fit = far.fit;
          apart = far.apart;
          low = low_more i values far.low;
        })
    filled_next i f values (Some v) at own plain is typed far =
        let number : FieldNo = record { 0 = i + 1 } in
        let rest = flat_map gets (left info (i + 1)) in
        record {
          same = step i f values (Some v) at plain is far ∙ sym (append_assoc values ((number, v) ∷ []) rest);
          fit = All-push (FitsIn info) values (number, v) far.fit (subst (λ (o : Option FieldInfo). IsSomeAnd o (λ field. IsFitIn field v)) (sym own) (plain, typed));
          apart = all_pairs_push (λ (a b : FieldNo × Value). a.0 ≢ b.0) values (number, v) far.apart (λ k d lt same. let below = far.low k d lt in let e = ap (λ (n : FieldNo). n.0) same in omega arith);
          low = All-push (λ (one : FieldNo × Value). one.0.0 ≤ i + 1) values (number, v) (low_more i values far.low) (omega arith);
        }

    -- at last they are the row's
    pub filled_all : (i : ℕ) (values : Values) → length info.fields ≤ i → FilledSoFar info i values → flat_map gets (plain_columns info) ≡ values
    filled_all i values past far =
        let none : left info i ≡ [] = ap (λ (fs : List FieldInfo). filter (λ column. is_plain_kept column.1) (enumerate_from (suc i) fs)) (drop_all i info.fields past) in
        far.same ∙ ap (λ (cs : List Column). values ++ flat_map gets cs) none ∙ append-nil values

  -- ---- as the steps say it

  module _ (model : ModelNo) (info : ModelInfo) (is : model_at models model ≡ Some info) where
    -- so far
    abbrev pub SoFar : ℕ → Values → Type 0
    SoFar n values = IfSome (model_at models model) (λ own. FilledSoFar own n values)

    pub so_far-none : SoFar 0 []
    so_far-none = tell (model_at models model) info (λ own. FilledSoFar own 0 []) is (filled_none info)

    module _ (i : ℕ) (f : FieldInfo) (lt : i < length info.fields) (at : field_at models model (record { 0 = i + 1 }) ≡ Some f) where
      here : (slice_get info.fields i ≡ Some f) × (numbered (fields_of info) (i + 1) ≡ Some f)
      here =
          let there = step_in models model info i is lt in
          let same : Some there.f ≡ Some f = sym there.at ∙ at in
          (there.field_is ∙ same, there.own ∙ same)

      pub so_far-passed : (values : Values) → is_plain_kept f ≡ false → SoFar i values → SoFar (i + 1) values
      so_far-passed values plain far =
          tell (model_at models model) info (λ own. FilledSoFar own (i + 1) values) is (filled_passed info i f values here.0 plain (told (model_at models model) info (λ own. FilledSoFar own i values) is far))

      pub so_far-more : (values more : Values) (got : Option Value) → is_plain_kept f ≡ true
          → IfSome (field_at models model (record { 0 = i + 1 })) (λ field. got ≡ filled_value models by made given (i + 1, field)) → IfSome got (HasFieldType (field_at models model (record { 0 = i + 1 })))
          → more ≡ values ++ valued (record { 0 = i + 1 }) got → SoFar i values → SoFar (i + 1) more
      so_far-more values more got plain means typed pushed far =
          let o = field_at models model (record { 0 = i + 1 }) in
          tell (model_at models model) info (λ own. FilledSoFar own (i + 1) more) is
          (subst (FilledSoFar info (i + 1)) (sym pushed) (filled_next info i f values got here.0 here.1 plain (told o f (λ field. got ≡ filled_value models by made given (i + 1, field)) at means) (typed_for o f got at typed)
          (told (model_at models model) info (λ own. FilledSoFar own i values) is far)))

    pub so_far-all : (i : ℕ) (values : Values) → length info.fields ≤ i → SoFar i values → values ≡ filled models by made model given
    so_far-all i values past far =
        sym (ap (λ (o : Option ModelInfo). option_map_or (λ own. flat_map gets (plain_columns own)) o []) is ∙ filled_all info i values past (told (model_at models model) info (λ own. FilledSoFar own i values) is far))

    pub so_far-fit : (i : ℕ) (values : Values) → SoFar i values → AreFitIn models model values
    so_far-fit i values far =
        let own = told (model_at models model) info (λ own. FilledSoFar own i values) is far in
        subst (λ (o : Option ModelInfo). IsSomeAnd o (λ own. All (FitsIn own) values × AllPairs (λ a b. a.0 ≢ b.0) values)) (sym is) (own.fit, own.apart)
