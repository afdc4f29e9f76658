-- Values that fit the fields of a model, inserted in turn into an unset row, make the row of these values.
use Rattle.std.proofs.Common.{◌≡◌, ◌≢◌, ◌==◌, ◌++◌, ℕ, zero, suc, Bool, true, false, ◌&&◌, cond, List, [], ◌∷◌, map, Option, Some, None, unwrap_or, refl, sym, ap, ◌∙◌, arith}
use Rattle.std.specs.Option.{IsSomeAnd, option_or}
use Rattle.std.specs.List.{All, AllPairs, AllByRecursion, IsDistinct, slice_get}
use Rattle.std.specs.Ordering.{nat_cmp, eq_by_cmp}
use Rattle.std.specs.Cmp.{nat_cmp_total, eq_by_cmp_equiv}
use Rattle.std.specs.Map.{keys_of, lookup, update_all}
use Rattle.std.specs.FinMap as finite
use Rattle.std.proofs.lemmas.Bool.{eqb-true}
use Rattle.std.proofs.lemmas.Bool.Decides.{nat_tests}
use Rattle.std.proofs.lemmas.List.Elements.{All-head, All-tail}
use Rattle.std.proofs.lemmas.Map.Made.{update_all_distinct}
use Rattle.ob_base.specs.declared.id.FieldNo.{FieldNo}
use Rattle.ob_base.specs.declared.value.Value.{Value}
use Rattle.ob_schema.specs.Built.{numbered}
use Rattle.ob_schema.specs.Fields.{is_own, is_plain_from, is_plain_kept}
use Rattle.ob_schema.specs.Models.{IsCondition, fields_of, is_computed_from}
use Rattle.ob_schema.specs.declared.info.FieldInfo.{FieldInfo}
use Rattle.ob_schema.specs.declared.info.ModelInfo.{ModelInfo}
use Rattle.ob_schema.specs.declared.info.Origin.{Origin}
use Rattle.ob_schema.specs.declared.info.Origin.TheVariants as origin
use Rattle.ob_definition.specs.Values.{initial_value}
use Rattle.ob_tables.specs.After.{given_for, row_of}
use Rattle.ob_tables.specs.Fitting.{AreFitValues, IsFitIn}
use Rattle.ob_tables.proofs.Shown.{apart, itself}
use Rattle.ob_tables.proofs.Columns.{get-row_of, keeps, kept_as}

-- values by the numbers of their fields
abbrev pub by_number : List (FieldNo × Value) → List (ℕ × Value)
by_number values = map (λ given. (given.0.0, given.1)) values

computed-not_plain : (from : Origin) → is_computed_from from ≡ true → is_plain_from from ≡ false
computed-not_plain origin.Id h = cc
computed-not_plain origin.Plain h = cc
computed-not_plain (origin.Delegated at) h = cc
computed-not_plain (origin.Computed formula) h = refl

not_kept : (field : FieldInfo) → IsCondition field → is_plain_kept field ≡ false
not_kept field h = by_case (is_plain_from field.origin) (is_own field) (computed-not_plain field.origin h.computed)
  where
    by_case : (a b : Bool) → a ≡ false → (a && b) ≡ false
    by_case true b e = cc
    by_case false b e = refl

none-hidden : (hidden : List FieldInfo) → All IsCondition hidden → (n : ℕ) → keeps (slice_get hidden n) ≡ false
none-hidden [] h n = refl
none-hidden (f ∷ hidden) h zero = not_kept f (All-head IsCondition f hidden h)
none-hidden (f ∷ hidden) h (suc n) = none-hidden hidden (All-tail IsCondition f hidden h) n

kept-named : (fields hidden : List FieldInfo) → All IsCondition hidden → (n : ℕ) → keeps (slice_get (fields ++ hidden) n) ≡ keeps (slice_get fields n)
kept-named [] hidden h n = none-hidden hidden h n
kept-named (f ∷ fields) hidden h zero = refl
kept-named (f ∷ fields) hidden h (suc n) = kept-named fields hidden h n

-- no hidden field is kept
pub keeps-fields : (info : ModelInfo) → All IsCondition info.hidden → (q : ℕ) → keeps (numbered (fields_of info) q) ≡ keeps (numbered info.fields q)
keeps-fields info h zero = refl
keeps-fields info h (suc n) = kept-named info.fields info.hidden h n

-- a value that fits is for a field that rows keep
pub fit-keeps : (found : Option FieldInfo) (v : Value) → IsSomeAnd found (λ field. IsFitIn field v) → keeps found ≡ true
fit-keeps None v h = absurd h
fit-keeps (Some field) v h = h.0

same_number : (a b : FieldNo) → a.0 ≡ b.0 → a ≡ b
same_number a b e = ap (λ (n : ℕ). record { 0 = n }) e

apart_first : (x : FieldNo × Value) (xs : List (FieldNo × Value)) → All (λ y. x.0 ≢ y.0) xs → AllByRecursion (λ n. eq_by_cmp nat_cmp x.0.0 n ≡ false) (keys_of (by_number xs))
apart_first x [] h = tt
apart_first x (y ∷ xs) h = (apart x.0.0 y.0.0 (λ e. All-head (λ y. x.0 ≢ y.0) y xs h (same_number x.0 y.0 e)), apart_first x xs (All-tail (λ y. x.0 ≢ y.0) y xs h))

distinct : (values : List (FieldNo × Value)) → AllPairs (λ a b. a.0 ≢ b.0) values → IsDistinct (eq_by_cmp nat_cmp) (keys_of (by_number values))
unfolding IsDistinct
distinct [] h = tt
distinct (x ∷ xs) h = (apart_first x xs (λ k d lt. h 0 (suc k) d (omega arith) (omega arith)), distinct xs (λ i j d lt within. h (suc i) (suc j) d (omega arith) (omega arith)))

-- numbers are tested alike by their order
pub same_test : (q n : ℕ) → eq_by_cmp nat_cmp q n ≡ (n == q)
same_test q n = by_case (n == q) refl
  where
    by_case : (t : Bool) → (n == q) ≡ t → eq_by_cmp nat_cmp q n ≡ t
    by_case true e = itself q n (sym (eqb-true n q e))
    by_case false e = apart q n (λ same. contrary n q same e)
      where
        contrary : (a b : ℕ) → b ≡ a → (a == b) ≡ false → ⊥
        contrary a b same e = grind (arith, nat_tests)

same_lookup : (q : ℕ) (values : List (FieldNo × Value)) → lookup (eq_by_cmp nat_cmp q) (by_number values) ≡ lookup (λ (field : FieldNo). field.0 == q) values
same_lookup q [] = refl
same_lookup q (x ∷ values) = ap (λ b. cond b (Some x.1) (lookup (eq_by_cmp nat_cmp q) (by_number values))) (same_test q x.0.0) ∙ ap (cond (x.0.0 == q) (Some x.1)) (same_lookup q values)

-- no value is given for a field that rows don't keep
none-given : (info : ModelInfo) → All IsCondition info.hidden → (q : ℕ) → keeps (numbered info.fields q) ≡ false → (values : List (FieldNo × Value))
    → All (λ given. IsSomeAnd (numbered (fields_of info) given.0.0) (λ field. IsFitIn field given.1)) values → lookup (eq_by_cmp nat_cmp q) (by_number values) ≡ None
none-given info conditions q none [] h = refl
none-given info conditions q none (x ∷ values) h =
    ap (λ b. cond b (Some x.1) (lookup (eq_by_cmp nat_cmp q) (by_number values))) (apart q x.0.0 (λ same. contrary (sym (kept same) ∙ none)))
    ∙ none-given info conditions q none values (All-tail (λ given. IsSomeAnd (numbered (fields_of info) given.0.0) (λ field. IsFitIn field given.1)) x values h)
  where
    contrary : true ≡ false → ⊥
    contrary e = cc

    kept : q ≡ x.0.0 → keeps (numbered info.fields q) ≡ true
    kept same = ap (λ n. keeps (numbered info.fields n)) same ∙ sym (keeps-fields info conditions x.0.0)
        ∙ fit-keeps (numbered (fields_of info) x.0.0) x.1 (All-head (λ given. IsSomeAnd (numbered (fields_of info) given.0.0) (λ field. IsFitIn field given.1)) x values h)

one_given : (l : Option Value) (u : Value) → option_or l (Some u) ≡ Some (unwrap_or l u)
one_given None u = refl
one_given (Some v) u = refl

-- the values over an unset row are the row of the values
pub given-all : (info : ModelInfo) (values : List (FieldNo × Value)) → All IsCondition info.hidden → AreFitValues info values → (q : ℕ)
    → update_all (eq_by_cmp nat_cmp) (finite.get (row_of info [])) (by_number values) q ≡ finite.get (row_of info values) q
given-all info values conditions fit q =
    update_all_distinct (eq_by_cmp_equiv nat_cmp_total) (eq_by_cmp nat_cmp) (λ x y. refl) (finite.get (row_of info [])) (by_number values) q (distinct values fit.1)
    ∙ ap (option_or (lookup (eq_by_cmp nat_cmp q) (by_number values))) (get-row_of info [] q)
    ∙ by_case (numbered info.fields q) (λ none. none-given info conditions q none values fit.0) ∙ sym (get-row_of info values q)
  where
    l : Option Value
    l = lookup (eq_by_cmp nat_cmp q) (by_number values)

    by_test : (field : FieldInfo) (b : Bool) → (b ≡ false → l ≡ None) → option_or l (cond b (Some (initial_value field.field_type)) None) ≡ cond b (Some (given_for values (q, field))) None
    by_test field true none = one_given l (initial_value field.field_type) ∙ ap (λ o. Some (unwrap_or o (initial_value field.field_type))) (same_lookup q values)
    by_test field false none = ap (λ o. option_or o None) (none refl)

    by_case : (found : Option FieldInfo) → (keeps found ≡ false → l ≡ None) → option_or l (kept_as (given_for []) q found) ≡ kept_as (given_for values) q found
    by_case None none = ap (λ o. option_or o None) (none refl)
    by_case (Some field) none = by_test field (is_plain_kept field) none
