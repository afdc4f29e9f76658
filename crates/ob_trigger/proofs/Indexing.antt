-- Readers that are added to those of each field, one after another.
use Rattle.std.proofs.Common.{◌≡◌, ◌⊎◌, ◌↔◌, ◌&&◌, ◌==◌, ◌<◌, ◌≤◌, ◌+◌, inl, inr, ℕ, zero, suc, Bool, true, false, List, [], ◌++◌, length, get_or, take, Option, Some, None, refl, sym, ap, subst, ◌∙◌, eqb-true, eq-eqb, arith}
use Rattle.std.specs.Prelude.{Any, Contains, IsSome, is_some, option_and_then, slice_get}
use Rattle.std.specs.BTreeMap as tree
use Rattle.std.specs.Map.{lookup}
use Rattle.std.specs.Option.{option_map_or}
use Rattle.std.specs.Ordering.{nat_cmp}
use Rattle.std.proofs.lemmas.Bool.{cases_lt}
use Rattle.std.proofs.lemmas.List.{take_all}
use Rattle.std.proofs.lemmas.Option.{same_Some, slice_get-get_or, slice_get_within}
use Rattle.ob_base.specs.declared.id.FieldNo.{FieldNo}
use Rattle.ob_base.specs.declared.id.ModelNo.{ModelNo}
use Rattle.ob_schema.specs.Built.{numbered}
use Rattle.ob_schema.specs.Models.{IsComputedBy, field_at, fields_of, model_at}
use Rattle.ob_schema.specs.declared.info.FieldInfo.{FieldInfo}
use Rattle.ob_schema.specs.declared.info.Formula.{Formula}
use Rattle.ob_schema.specs.declared.info.ModelInfo.{ModelInfo}
use Rattle.ob_schema.specs.declared.info.Origin.{Origin}
use Rattle.ob_schema.specs.declared.info.Origin.TheVariants as origin
use Rattle.ob_schema.specs.declared.info.Path.{Path}
use Rattle.ob_schema.specs.declared.info.Step.{Step}
use Rattle.ob_schema.proofs.CallerLemmas.{Any-none, contains-none}
use Rattle.ob_trigger.specs.Readers.{AddsReaders, DependsBehind, Fields, IsReaderOf, IsStepBehind, formula_giving, is_step, listed_at, reader_if, readers_at}
use Rattle.ob_trigger.specs.declared.index.Reader.{Reader}
use Rattle.ob_trigger.proofs.Known.{some_or_none, tell_and, told_and}
use Rattle.ob_trigger.proofs.Lists.{any_more, contains-if, contains-if_back, contrary}

abbrev Index : Type 0
Index = tree.BTreeMap ℕ Fields

both_true : (a b : Bool) → (a && b) ≡ true → (a ≡ true) × (b ≡ true)
both_true true b is = (refl, is)
both_true false b is = contrary is

true_both : (a b : Bool) → a ≡ true → b ≡ true → (a && b) ≡ true
true_both true b p q = q
true_both false b p q = contrary p

-- a test tells whether steps are one
one_step : (a b : Step) → is_step a b ≡ true → a ≡ b
one_step a b is =
    let both = both_true (a.model.0 == b.model.0) (a.field.0 == b.field.0) is in
    let models = eqb-true a.model.0 b.model.0 both.0 in
    let fields = eqb-true a.field.0 b.field.0 both.1 in
    λ i. record { model = record { 0 = models i }; field = record { 0 = fields i } }

step_again : (a b : Step) → a ≡ b → is_step a b ≡ true
step_again a b same =
    true_both (a.model.0 == b.model.0) (a.field.0 == b.field.0) (eq-eqb a.model.0 b.model.0 (ap (λ (s : Step). s.model.0) same)) (eq-eqb a.field.0 b.field.0 (ap (λ (s : Step). s.field.0) same))

module _ (old new : Index) where
  -- one reader of one field
  pub adds-one : (step : Step) (reader : Reader) → ((other : Step) → readers_at new other ≡ readers_at old other ++ reader_if (is_step step other) reader)
      → AddsReaders old new (λ other r. (step ≡ other) × (reader ≡ r))
  adds-one step reader is other r = (to, from)
    where
      to : Contains (readers_at new other) r → Contains (readers_at old other) r ⊎ ((step ≡ other) × (reader ≡ r))
      to among = elim (contains-if (is_step step other) (readers_at old other) reader r (subst (λ (l : List Reader). Contains l r) (is other) among)) [
        | inl had ↦ inl had
        | inr (same, equal) ↦ inr (one_step step other same, equal)
      ]

      back : Contains (readers_at old other) r ⊎ ((step ≡ other) × (reader ≡ r)) → Contains (readers_at old other) r ⊎ ((is_step step other ≡ true) × (reader ≡ r))
      back (inl had) = inl had
      back (inr (same, equal)) = inr (step_again step other same, equal)

      from : Contains (readers_at old other) r ⊎ ((step ≡ other) × (reader ≡ r)) → Contains (readers_at new other) r
      from either = subst (λ (l : List Reader). Contains l r) (sym (is other)) (contains-if_back (is_step step other) (readers_at old other) reader r (back either))

  -- the same readers, said otherwise
  pub adds-as : (P Q : Step → Reader → Type 0) → AddsReaders old new P → ((step : Step) (r : Reader) → P step r ↔ Q step r) → AddsReaders old new Q
  adds-as P Q adds same step r = (λ among. to ((adds step r).0 among), λ either. (adds step r).1 (from either))
    where
      to : Contains (readers_at old step) r ⊎ P step r → Contains (readers_at old step) r ⊎ Q step r
      to (inl had) = inl had
      to (inr such) = inr ((same step r).0 such)

      from : Contains (readers_at old step) r ⊎ Q step r → Contains (readers_at old step) r ⊎ P step r
      from (inl had) = inl had
      from (inr such) = inr ((same step r).1 such)

-- none
pub adds-none : (index : Index) (P : Step → Reader → Type 0) → ((step : Step) (r : Reader) → P step r → ⊥) → AddsReaders index index P
adds-none index P none step r = (λ among. inl among, back)
  where
    back : Contains (readers_at index step) r ⊎ P step r → Contains (readers_at index step) r
    back (inl had) = had
    back (inr such) = absurd (none step r such)

-- some, and then others
pub adds-then : (a b c : Index) (P Q : Step → Reader → Type 0) → AddsReaders a b P → AddsReaders b c Q → AddsReaders a c (λ step r. P step r ⊎ Q step r)
adds-then a b c P Q first then step r = (to, from)
  where
    to : Contains (readers_at c step) r → Contains (readers_at a step) r ⊎ (P step r ⊎ Q step r)
    to among = elim ((then step r).0 among) [
      | inr such ↦ inr (inr such)
      | inl was ↦ elim ((first step r).0 was) [ inl had ↦ inl had | inr such ↦ inr (inl such) ]
    ]

    from : Contains (readers_at a step) r ⊎ (P step r ⊎ Q step r) → Contains (readers_at c step) r
    from (inl had) = (then step r).1 (inl ((first step r).1 (inl had)))
    from (inr (inl such)) = (then step r).1 (inl ((first step r).1 (inr such)))
    from (inr (inr such)) = (then step r).1 (inr such)

-- ---- the steps of a path

-- so far, the readers of the first steps
abbrev pub OfFirst : Step → List Step → ℕ → Step → Reader → Type 0
OfFirst computed steps n step r = (r.computed ≡ computed) × ((k : ℕ) × (k < n) × (slice_get steps k ≡ Some step) × (r.front ≡ take k steps))

pub first-more : (computed : Step) (steps front : List Step) (n : ℕ) (at : Step) → n < length steps → at ≡ get_or steps n at → front ≡ take n steps → (step : Step) (r : Reader)
    → (OfFirst computed steps n step r ⊎ ((at ≡ step) × ((let reader : Reader = record { computed = computed; front = front } in reader) ≡ r))) ↔ OfFirst computed steps (n + 1) step r
first-more computed steps front n at within is before step r = (to, from)
  where
    here : slice_get steps n ≡ Some at
    here = slice_get-get_or steps n at within ∙ ap Some (sym is)

    to : OfFirst computed steps n step r ⊎ ((at ≡ step) × ((let reader : Reader = record { computed = computed; front = front } in reader) ≡ r)) → OfFirst computed steps (n + 1) step r
    to (inl (own, (k, low, found, fronts))) = (own, (k, omega arith, found, fronts))
    to (inr (same, equal)) = (sym (ap (λ (q : Reader). q.computed) equal), (n, omega arith, here ∙ ap Some same, sym (ap (λ (q : Reader). q.front) equal) ∙ before))

    last : (k : ℕ) → k < n + 1 → (k < n) ⊎ (k ≡ n)
    last k low = elim (cases_lt k n) [ inl less ↦ inl less | inr above ↦ inr (omega arith) ]

    from : OfFirst computed steps (n + 1) step r → OfFirst computed steps n step r ⊎ ((at ≡ step) × ((let reader : Reader = record { computed = computed; front = front } in reader) ≡ r))
    from (own, (k, low, found, fronts)) = elim (last k low) [
      | inl less ↦ inl (own, (k, less, found, fronts))
      | inr equal ↦ (let same : at ≡ step = same_Some at step (sym here ∙ sym (ap (slice_get steps) equal) ∙ found) in
          let front_is : front ≡ r.front = before ∙ sym (ap (λ (j : ℕ). take j steps) equal) ∙ sym fronts in
          inr (same, λ i. record { computed = sym own i; front = front_is i }))
    ]

pub first-none : (computed : Step) (steps : List Step) (step : Step) (r : Reader) → OfFirst computed steps 0 step r → ⊥
first-none computed steps step r (own, (k, low, found, fronts)) = omega arith

pub first-all : (computed : Step) (steps : List Step) (n : ℕ) → length steps ≤ n → (step : Step) (r : Reader) → OfFirst computed steps n step r ↔ ((r.computed ≡ computed) × IsStepBehind steps r.front step)
first-all computed steps n all step r = (
  λ such. (such.0, (such.1.0, such.1.2, such.1.3)),
  λ such. (such.0, (such.1.0, (let within = slice_get_within steps such.1.0 step such.1.1 in omega (arith, within)), such.1.1, such.1.2)),
)

-- ---- the paths of a formula

-- so far, the readers of the steps of the first paths
abbrev pub OfPaths : Step → List Path → ℕ → Step → Reader → Type 0
OfPaths computed paths n step r = (r.computed ≡ computed) × Any (λ path. IsStepBehind path.steps r.front step) (take n paths)

pub paths-more : (computed : Step) (paths : List Path) (n : ℕ) (path : Path) → n < length paths → path ≡ get_or paths n path → (step : Step) (r : Reader)
    → (OfPaths computed paths n step r ⊎ ((r.computed ≡ computed) × IsStepBehind path.steps r.front step)) ↔ OfPaths computed paths (n + 1) step r
paths-more computed paths n path within is step r = (to, from)
  where
    more : (Any (λ (p : Path). IsStepBehind p.steps r.front step) (take n paths) ⊎ IsStepBehind (get_or paths n path).steps r.front step) ↔ Any (λ (p : Path). IsStepBehind p.steps r.front step) (take (n + 1) paths)
    more = any_more (λ (p : Path). IsStepBehind p.steps r.front step) paths n path within

    to : OfPaths computed paths n step r ⊎ ((r.computed ≡ computed) × IsStepBehind path.steps r.front step) → OfPaths computed paths (n + 1) step r
    to (inl (own, any)) = (own, more.0 (inl any))
    to (inr (own, behind)) = (own, more.0 (inr (subst (λ (p : Path). IsStepBehind p.steps r.front step) is behind)))

    from : OfPaths computed paths (n + 1) step r → OfPaths computed paths n step r ⊎ ((r.computed ≡ computed) × IsStepBehind path.steps r.front step)
    from (own, any) = elim (more.1 any) [ inl before ↦ inl (own, before) | inr behind ↦ inr (own, subst (λ (p : Path). IsStepBehind p.steps r.front step) (sym is) behind) ]

pub paths-none : (computed : Step) (paths : List Path) (step : Step) (r : Reader) → OfPaths computed paths 0 step r → ⊥
paths-none computed paths step r (own, any) = Any-none (λ (path : Path). IsStepBehind path.steps r.front step) any

pub paths-all : (computed : Step) (formula : Formula) (n : ℕ) → length formula.depends ≤ n → (step : Step) (r : Reader)
    → OfPaths computed formula.depends n step r ↔ ((r.computed ≡ computed) × DependsBehind formula r.front step)
paths-all computed formula n all step r =
    let same : take n formula.depends ≡ formula.depends = take_all n formula.depends all in
    let Behind : List Path → Type 0 = λ l. Any (λ path. IsStepBehind path.steps r.front step) l in
    (λ such. (such.0, subst Behind same such.1), λ such. (such.0, subst Behind (sym same) such.1))

-- ---- the fields of a model

module _ (models : List ModelInfo) where
  -- the formula that computes a field
  pub formula_here : (at : Step) (info : FieldInfo) (formula : Formula) → field_at models at.model at.field ≡ Some info → formula_giving info.origin ≡ Some formula → (step : Step) (r : Reader)
      → ((r.computed ≡ at) × DependsBehind formula r.front step) ↔ ((r.computed ≡ at) × IsReaderOf models step r)
  formula_here at info formula found from step r = (to, back)
    where
      is : (o : Origin) → formula_giving o ≡ Some formula → o ≡ origin.Computed formula
      is (origin.Computed own) same = ap (λ (f : Formula). origin.Computed f) (some_formula own formula same)
        where
          some_formula : (a b : Formula) → Some a ≡ Some b → a ≡ b
          some_formula a b e = same_Some a b e
      is origin.Id same = absurd cc
      is origin.Plain same = absurd cc
      is (origin.Delegated to) same = absurd cc

      by : IsComputedBy models at formula
      by = tell_and (field_at models at.model at.field) info (λ field. field.origin ≡ origin.Computed formula) found (is info.origin from)

      to : (r.computed ≡ at) × DependsBehind formula r.front step → (r.computed ≡ at) × IsReaderOf models step r
      to (own, depends) = (own, (formula, subst (λ (s : Step). IsComputedBy models s formula) (sym own) by, depends))

      back : (r.computed ≡ at) × IsReaderOf models step r → (r.computed ≡ at) × DependsBehind formula r.front step
      back (own, (other, computed, depends)) =
          let t = told_and (field_at models at.model at.field) (λ field. field.origin ≡ origin.Computed other) (subst (λ (s : Step). IsComputedBy models s other) own computed) in
          let info_is : info ≡ t.0 = same_Some info t.0 (sym found ∙ t.1) in
          let formulas : formula ≡ other = same_Some formula other (sym from ∙ ap (λ (f : FieldInfo). formula_giving f.origin) info_is ∙ ap formula_giving t.2) in
          (own, subst (λ (f : Formula). DependsBehind f r.front step) (sym formulas) depends)

  -- a field that isn't there, or that no formula computes, reads nothing
  pub none_here : (at : Step) → field_at models at.model at.field ≡ None → (step : Step) (r : Reader) → (r.computed ≡ at) × IsReaderOf models step r → ⊥
  none_here at none step r (own, (formula, computed, depends)) =
      let t = told_and (field_at models at.model at.field) (λ field. field.origin ≡ origin.Computed formula) (subst (λ (s : Step). IsComputedBy models s formula) own computed) in
      let both : None ≡ Some t.0 = sym none ∙ t.1 in cc

  pub no_formula : (at : Step) (info : FieldInfo) → field_at models at.model at.field ≡ Some info → formula_giving info.origin ≡ None → (step : Step) (r : Reader)
      → (r.computed ≡ at) × IsReaderOf models step r → ⊥
  no_formula at info found none step r (own, (formula, computed, depends)) =
      let t = told_and (field_at models at.model at.field) (λ field. field.origin ≡ origin.Computed formula) (subst (λ (s : Step). IsComputedBy models s formula) own computed) in
      let info_is : info ≡ t.0 = same_Some info t.0 (sym found ∙ t.1) in
      let both : None ≡ Some formula = sym none ∙ ap (λ (f : FieldInfo). formula_giving f.origin) info_is ∙ ap formula_giving t.2 in
      cc

  -- so far, the readers among the first fields of a model
  abbrev pub OfFields : ModelNo → ℕ → Step → Reader → Type 0
  OfFields model n step r = (r.computed.model ≡ model) × (r.computed.field.0 ≤ n) × IsReaderOf models step r

  pub fields-more : (model : ModelNo) (n : ℕ) (step : Step) (r : Reader)
      → (OfFields model n step r ⊎ ((r.computed ≡ record { model = model; field = record { 0 = n + 1 } }) × IsReaderOf models step r)) ↔ OfFields model (n + 1) step r
  fields-more model n step r = (to, from)
    where
      to : OfFields model n step r ⊎ ((r.computed ≡ record { model = model; field = record { 0 = n + 1 } }) × IsReaderOf models step r) → OfFields model (n + 1) step r
      to (inl (own, low, reads)) = (own, omega arith, reads)
      to (inr (own, reads)) = (ap (λ (s : Step). s.model) own, (let number = ap (λ (s : Step). s.field.0) own in omega (arith, number)), reads)

      last : (k : ℕ) → k ≤ n + 1 → (k ≤ n) ⊎ (k ≡ n + 1)
      last k low = elim (cases_lt k (n + 1)) [ inl less ↦ inl (omega arith) | inr above ↦ inr (omega arith) ]

      from : OfFields model (n + 1) step r → OfFields model n step r ⊎ ((r.computed ≡ record { model = model; field = record { 0 = n + 1 } }) × IsReaderOf models step r)
      from (own, low, reads) = elim (last r.computed.field.0 low) [
        | inl less ↦ inl (own, less, reads)
        | inr equal ↦ inr (λ i. record { model = own i; field = record { 0 = equal i } }, reads)
      ]

  -- a field that is there has a number from 1
  number_some : (xs : List FieldInfo) (n : ℕ) → IsSome (numbered xs n) → (1 ≤ n) × (n ≤ length xs)
  number_some xs zero there = absurd (let e : false ≡ true = there in cc)
  number_some xs (suc k) there = elim (some_or_none (slice_get xs k)) [
    | inl none ↦ absurd (let e : false ≡ true = sym (ap is_some none) ∙ there in cc)
    | inr some ↦ (let within = slice_get_within xs k some.0 some.1 in (omega arith, omega arith))
  ]

  pub fields-low : (model : ModelNo) (info : ModelInfo) → model_at models model ≡ Some info → (field : FieldNo) → IsSome (field_at models model field) → field.0 ≤ length (fields_of info)
  fields-low model info is field there =
      (number_some (fields_of info) field.0 (subst (λ (o : Option FieldInfo). IsSome o) (ap (λ (m : Option ModelInfo). option_and_then (λ i. numbered (fields_of i) field.0) m) is) there)).1

  pub fields-gone : (model : ModelNo) → model_at models model ≡ None → (field : FieldNo) → IsSome (field_at models model field) → ⊥
  fields-gone model none field there = let e : false ≡ true = sym (ap (λ (m : Option ModelInfo). is_some (option_and_then (λ i. numbered (fields_of i) field.0) m)) none) ∙ there in cc

  -- the field of a reader is there, and so is its model
  pub reader_there : (step : Step) (r : Reader) → IsReaderOf models step r → IsSome (field_at models r.computed.model r.computed.field)
  reader_there step r (formula, computed, depends) =
      let t = told_and (field_at models r.computed.model r.computed.field) (λ field. field.origin ≡ origin.Computed formula) computed in ap (λ (o : Option FieldInfo). is_some o) t.1

  model_some : (xs : List ModelInfo) (n : ℕ) → IsSome (numbered xs n) → (1 ≤ n) × (n ≤ length xs)
  model_some xs zero there = absurd (let e : false ≡ true = there in cc)
  model_some xs (suc k) there = elim (some_or_none (slice_get xs k)) [
    | inl none ↦ absurd (let e : false ≡ true = sym (ap is_some none) ∙ there in cc)
    | inr some ↦ (let within = slice_get_within xs k some.0 some.1 in (omega arith, omega arith))
  ]

  pub model_low : (model : ModelNo) (field : FieldNo) → IsSome (field_at models model field) → (1 ≤ model.0) × (model.0 ≤ length models)
  model_low model field there = elim (some_or_none (model_at models model)) [
    | inl none ↦ absurd (fields-gone model none field there)
    | inr some ↦ model_some models model.0 (ap (λ (o : Option ModelInfo). is_some o) some.1)
  ]

  pub fields-all : (model : ModelNo) (n : ℕ) → ((field : FieldNo) → IsSome (field_at models model field) → field.0 ≤ n) → (step : Step) (r : Reader)
      → OfFields model n step r ↔ ((r.computed.model ≡ model) × IsReaderOf models step r)
  fields-all model n all step r = (
    λ such. (such.0, such.2),
    λ such. (such.0, all r.computed.field (subst (λ (m : ModelNo). IsSome (field_at models m r.computed.field)) such.0 (reader_there step r such.1)), such.1),
  )

  pub fields-none : (model : ModelNo) (step : Step) (r : Reader) → OfFields model 0 step r → ⊥
  fields-none model step r (own, low, reads) = none r.computed.field low (reader_there step r reads)
    where
      none : (field : FieldNo) → field.0 ≤ 0 → IsSome (field_at models r.computed.model field) → ⊥
      none field low there = elim (some_or_none (model_at models r.computed.model)) [
        | inl gone ↦ fields-gone r.computed.model gone field there
        | inr some ↦ (let at = number_some (fields_of some.0) field.0
            (subst (λ (o : Option FieldInfo). IsSome o) (ap (λ (m : Option ModelInfo). option_and_then (λ i. numbered (fields_of i) field.0) m) some.1) there) in
            omega (arith, at.0))
      ]

  -- so far, the readers among the fields of the first models
  abbrev pub OfModels : ℕ → Step → Reader → Type 0
  OfModels n step r = (r.computed.model.0 ≤ n) × IsReaderOf models step r

  pub models-more : (n : ℕ) (step : Step) (r : Reader) → (OfModels n step r ⊎ ((r.computed.model ≡ record { 0 = n + 1 }) × IsReaderOf models step r)) ↔ OfModels (n + 1) step r
  models-more n step r = (to, from)
    where
      to : OfModels n step r ⊎ ((r.computed.model ≡ record { 0 = n + 1 }) × IsReaderOf models step r) → OfModels (n + 1) step r
      to (inl (low, reads)) = (omega arith, reads)
      to (inr (own, reads)) = ((let number = ap (λ (m : ModelNo). m.0) own in omega (arith, number)), reads)

      last : (k : ℕ) → k ≤ n + 1 → (k ≤ n) ⊎ (k ≡ n + 1)
      last k low = elim (cases_lt k (n + 1)) [ inl less ↦ inl (omega arith) | inr above ↦ inr (omega arith) ]

      from : OfModels (n + 1) step r → OfModels n step r ⊎ ((r.computed.model ≡ record { 0 = n + 1 }) × IsReaderOf models step r)
      from (low, reads) = elim (last r.computed.model.0 low) [
        | inl less ↦ inl (less, reads)
        | inr equal ↦ inr (λ i. record { 0 = equal i }, reads)
      ]

  pub models-all : (n : ℕ) → length models ≤ n → (step : Step) (r : Reader) → OfModels n step r ↔ IsReaderOf models step r
  models-all n all step r = (
    λ such. such.1,
    λ reads. ((let at = model_low r.computed.model r.computed.field (reader_there step r reads) in omega (arith, at.1)), reads),
  )

  pub models-none : (step : Step) (r : Reader) → OfModels 0 step r → ⊥
  models-none step r (low, reads) = let at = model_low r.computed.model r.computed.field (reader_there step r reads) in omega (arith, at.0)

  -- a field that is there has a number from 1
  pub fields-low_number : (model : ModelNo) (field : FieldNo) → IsSome (field_at models model field) → 1 ≤ field.0
  fields-low_number model field there = elim (some_or_none (model_at models model)) [
    | inl gone ↦ absurd (fields-gone model gone field there)
    | inr some ↦ (number_some (fields_of some.0) field.0 (subst (λ (o : Option FieldInfo). IsSome o) (ap (λ (m : Option ModelInfo). option_and_then (λ i. numbered (fields_of i) field.0) m) some.1) there)).0
  ]

  -- an index without entries has no readers
  pub index-begun : (index : tree.BTreeMap ℕ Fields) → index.entries ≡ [] → (step : Step) (reader : Reader) → Contains (readers_at index step) reader ↔ OfModels 0 step reader
  index-begun index empty step reader = (
    λ c. absurd (contains-none reader (subst (λ (l : List Reader). Contains l reader) none c)),
    λ such. absurd (models-none step reader such),
  )
    where
      none : readers_at index step ≡ []
      none = ap (λ (es : List (ℕ × Fields)). option_map_or (λ fields. listed_at fields step.field.0) (lookup (tree.is_at (nat_cmp step.model.0)) es) []) empty

  -- the readers of one model more
  pub index-more : (now new : tree.BTreeMap ℕ Fields) (n : ℕ) → ((step : Step) (reader : Reader) → Contains (readers_at now step) reader ↔ OfModels n step reader)
      → AddsReaders now new (λ step reader. (reader.computed.model ≡ record { 0 = n + 1 }) × IsReaderOf models step reader)
      → (step : Step) (reader : Reader) → Contains (readers_at new step) reader ↔ OfModels (n + 1) step reader
  index-more now new n before adds step reader = (to, from)
    where
      more : (OfModels n step reader ⊎ ((reader.computed.model ≡ record { 0 = n + 1 }) × IsReaderOf models step reader)) ↔ OfModels (n + 1) step reader
      more = models-more n step reader

      to : Contains (readers_at new step) reader → OfModels (n + 1) step reader
      to c = elim ((adds step reader).0 c) [ inl was ↦ more.0 (inl ((before step reader).0 was)) | inr such ↦ more.0 (inr such) ]

      from : OfModels (n + 1) step reader → Contains (readers_at new step) reader
      from such = elim (more.1 such) [ inl was ↦ (adds step reader).1 (inl ((before step reader).1 was)) | inr one ↦ (adds step reader).1 (inr one) ]
