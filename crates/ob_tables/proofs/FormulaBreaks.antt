-- What formulas break, by the outcomes of their cells.
use Rattle.std.proofs.Common.{◌≡◌, ◌<◌, ◌≤◌, ◌+◌, ◌++◌, ◌↔◌, ℕ, zero, suc, Bool, true, false, List, [], ◌∷◌, length, Some, None, is_some, IsSome, option_and_then, Result, Ok, Err, refl, sym, ap, subst, ◌∙◌, arith, length-append}
use Rattle.std.specs.Prelude.{All, IsTrue, slice_get}
use Rattle.std.specs.Option.{IsSomeAnd}
use Rattle.std.specs.BTreeMap as tree
use Rattle.std.proofs.lemmas.Option.{slice_get_within}
use Rattle.ob_base.specs.BrokenOrder.{cell_order}
use Rattle.ob_base.specs.declared.id.Cell.{Cell}
use Rattle.ob_base.specs.declared.id.ModelNo.{ModelNo}
use Rattle.ob_base.specs.declared.refusal.Broken.{Broken}
use Rattle.ob_base.specs.declared.refusal.BrokenKind.{BrokenKind}
use Rattle.ob_base.specs.declared.refusal.BrokenKind.TheVariants as kind
use Rattle.ob_base.specs.declared.value.Value.{Value}
use Rattle.ob_base.specs.declared.value.Value.TheVariants as value
use Rattle.ob_expr.specs.Computing.{Lack, overflow, too_long, zero_divisor, unread}
use Rattle.ob_schema.specs.declared.info.FieldInfo.{FieldInfo}
use Rattle.ob_schema.specs.declared.info.Formula.{Formula}
use Rattle.ob_schema.specs.declared.info.ModelInfo.{ModelInfo}
use Rattle.ob_schema.specs.declared.info.Origin.{Origin}
use Rattle.ob_schema.specs.declared.info.Origin.TheVariants as origin
use Rattle.ob_schema.specs.Broken.{BreaksAs, FailsItself, IsFalseCheck}
use Rattle.ob_schema.specs.Built.{numbered}
use Rattle.ob_schema.specs.Checks.{IsCheck}
use Rattle.ob_schema.specs.Models.{IsCondition, IsRegistry, field_at, fields_of, is_computed_from, model_at}
use Rattle.ob_schema.specs.Tables.{Tables, row_at}
use Rattle.ob_schema.specs.Tied.{AtCell}
use Rattle.ob_schema.specs.Val.{formula_value, val}
use Rattle.ob_tables.specs.Finding.{BreaksIn, Finds, Is, IsOf, broken_by, is_of_formulas}
use Rattle.ob_tables.specs.Settling.{IsComputedCell, IsFormulaOutcome, IsOutcomeOf, IsSettled, Tells, lack_for}
use Rattle.ob_tables.specs.declared.findings.Findings.{Findings}
use Rattle.ob_tables.specs.declared.outcome.Outcome.{Outcome}
use Rattle.ob_tables.specs.declared.outcome.Outcome.TheVariants as outcome
use Rattle.ob_tables.specs.declared.outcome.Reason.{Reason}
use Rattle.ob_tables.specs.declared.outcome.Reason.TheVariants as reason
use Rattle.ob_tables.proofs.Finds.{finds-as, finds-none}
use Rattle.ob_tables.proofs.KnownFields.{known_at, tell_and, there_is, told_and}
use Rattle.ob_tables.proofs.PlainCells.{all-at, model-of}
use Rattle.ob_tables.proofs.Settling.{outcome-value, result_of}
use Rattle.ob_tables.proofs.Within.{AreSound, values_are}

contrary : {P : Type 0} → false ≡ true → P
contrary e = cc

-- a result is one thing
apart : (m : Result Value Lack) (v : Value) (lack : Lack) → m ≡ Ok v → m ≡ Err lack → ⊥
apart m v lack p q = let both : Ok v ≡ Err lack = sym p ∙ q in cc

same_lack : (m : Result Value Lack) (a b : Lack) → m ≡ Err a → m ≡ Err b → a ≡ b
same_lack m a b p q = let both : Err a ≡ Err b = sym p ∙ q in cc

same_value : (m : Result Value Lack) (v w : Value) → m ≡ Ok v → m ≡ Ok w → v ≡ w
same_value m v w p q = let both : Ok v ≡ Ok w = sym p ∙ q in cc

one_formula : (o : Origin) (f g : Formula) → o ≡ origin.Computed f → o ≡ origin.Computed g → f ≡ g
one_formula o f g p q = let both : origin.Computed f ≡ origin.Computed g = sym p ∙ q in cc

-- an unread cell is no fault of a formula itself
not_overflow : (other : Cell) → unread other ≡ overflow → ⊥
not_overflow other e = cc

not_too_long : (other : Cell) → unread other ≡ too_long → ⊥
not_too_long other e = cc

not_zero_divisor : (other : Cell) → unread other ≡ zero_divisor → ⊥
not_zero_divisor other e = cc

-- a field behind the named ones is a condition
behind_at : (fields hidden : List FieldInfo) (k : ℕ) (info : FieldInfo) → All IsCondition hidden → length fields ≤ k → slice_get (fields ++ hidden) k ≡ Some info → IsCondition info
behind_at [] hidden k info conditions past is = all-at IsCondition hidden k info conditions is
behind_at (f ∷ fields) hidden zero info conditions past is = absurd (omega arith)
behind_at (f ∷ fields) hidden (suc k) info conditions past is = behind_at fields hidden k info conditions (omega arith) is

behind : (fields hidden : List FieldInfo) (n : ℕ) (info : FieldInfo) → All IsCondition hidden → length fields < n → numbered (fields ++ hidden) n ≡ Some info → IsCondition info
behind fields hidden zero info conditions past is = absurd (omega arith)
behind fields hidden (suc k) info conditions past is = behind_at fields hidden k info conditions (omega arith) is

-- what a cell lacks tells what it breaks
overflow-broken : (why : Reason) → lack_for why ≡ overflow → kind.Overflow ≡ broken_by why
overflow-broken reason.Overflow e = refl
overflow-broken reason.TooLong e = cc
overflow-broken reason.ZeroDivisor e = cc

too_long-broken : (why : Reason) → lack_for why ≡ too_long → kind.TooLong ≡ broken_by why
too_long-broken reason.Overflow e = cc
too_long-broken reason.TooLong e = refl
too_long-broken reason.ZeroDivisor e = cc

zero_divisor-broken : (why : Reason) → lack_for why ≡ zero_divisor → kind.ZeroDivisor ≡ broken_by why
zero_divisor-broken reason.Overflow e = cc
zero_divisor-broken reason.TooLong e = cc
zero_divisor-broken reason.ZeroDivisor e = refl

module _ (models : List ModelInfo) (t : Tables) where
  abbrev Fails : Lack → Cell → FieldInfo → Type 0
  Fails why cell info = (formula : Formula) × (info.origin ≡ origin.Computed formula) × (formula_value (val models t) formula info cell ≡ Err why)

  failing : (why : Lack) (cell : Cell) → FailsItself models t why cell → (info : FieldInfo) × (field_at models cell.model cell.field ≡ Some info) × Fails why cell info
  failing why cell h = told_and (field_at models cell.model cell.field) (Fails why cell) h.1

  -- the model of a check that is false, and its field
  model_of_check : (cell : Cell) → IsFalseCheck models t cell → (m : ModelInfo) × (model_at models cell.model ≡ Some m) × AtCell models t cell (IsCheck m cell.field)
  model_of_check cell h = told_and (model_at models cell.model) (λ m. AtCell models t cell (IsCheck m cell.field)) h.0

  field_of_check : (cell : Cell) (m : ModelInfo) → AtCell models t cell (IsCheck m cell.field) → (info : FieldInfo) × (field_at models cell.model cell.field ≡ Some info) × IsCheck m cell.field info
  field_of_check cell m h = told_and (field_at models cell.model cell.field) (IsCheck m cell.field) h.1

  -- what formulas break is in a row that is there
  pub row-of-formula : (k : BrokenKind) (cell : Cell) → is_of_formulas k ≡ true → BreaksAs models t k cell → IsSome (row_at t cell.model cell.id)
  row-of-formula kind.Overflow cell such h = h.1.0
  row-of-formula kind.TooLong cell such h = h.1.0
  row-of-formula kind.ZeroDivisor cell such h = h.1.0
  row-of-formula kind.Check cell such h = (model_of_check cell h.1).2.0
  row-of-formula _ cell such h = contrary such

  -- and has its field
  field_of : (k : BrokenKind) (cell : Cell) → is_of_formulas k ≡ true → BreaksAs models t k cell → (info : FieldInfo) × (field_at models cell.model cell.field ≡ Some info)
  field_of kind.Overflow cell such h = let f = failing overflow cell h.1 in (f.0, f.1)
  field_of kind.TooLong cell such h = let f = failing too_long cell h.1 in (f.0, f.1)
  field_of kind.ZeroDivisor cell such h = let f = failing zero_divisor cell h.1 in (f.0, f.1)
  field_of kind.Check cell such h = let m = model_of_check cell h.1 in let f = field_of_check cell m.0 m.2 in (f.0, f.1)
  field_of _ cell such h = contrary such

  -- of a model that is there
  pub model-of-formula : (k : BrokenKind) (cell : Cell) → is_of_formulas k ≡ true → BreaksAs models t k cell → IsSome (model_at models cell.model)
  model-of-formula k cell such h =
      let f = field_of k cell such h in
      let m = model-of models cell.model cell.field f.0 f.1 in there_is (model_at models cell.model) m.0 m.1

  -- a field of a model that is there, by the model's fields
  numbered_in : (cell : Cell) (m : ModelInfo) (info : FieldInfo) → model_at models cell.model ≡ Some m → field_at models cell.model cell.field ≡ Some info → numbered (fields_of m) cell.field.0 ≡ Some info
  numbered_in cell m info at field = sym (ap (option_and_then (λ i. numbered (fields_of i) cell.field.0)) at) ∙ field

  -- its place among them
  pub place-of-formula : (m : ModelInfo) (k : BrokenKind) (cell : Cell) → model_at models cell.model ≡ Some m → is_of_formulas k ≡ true → BreaksAs models t k cell
      → (place : ℕ) × (cell.field.0 ≡ suc place) × (place < length m.fields + length m.hidden)
  place-of-formula m k cell at such h = let f = field_of k cell such h in by cell.field.0 f.0 (numbered_in cell m f.0 at f.1)
    where
      by : (n : ℕ) (info : FieldInfo) → numbered (fields_of m) n ≡ Some info → (place : ℕ) × (n ≡ suc place) × (place < length m.fields + length m.hidden)
      by zero info is = cc
      by (suc place) info is = let low = slice_get_within (fields_of m) place info is in (place, refl, omega (arith, low, length-append m.fields m.hidden))

  -- a model that isn't there breaks nothing
  pub no-model-breaks : (model : ModelNo) → model_at models model ≡ None → (b : Broken) → BreaksIn models t is_of_formulas (IsOf model) b → ⊥
  no-model-breaks model none b h =
      let f = field_of b.kind b.cell h.0 h.2 in
      let m = model-of models b.cell.model b.cell.field f.0 f.1 in
      let both : None ≡ Some m.0 = sym none ∙ sym (ap (model_at models) h.1) ∙ m.1 in cc

  computed_by : (cell : Cell) (info : FieldInfo) → field_at models cell.model cell.field ≡ Some info → is_computed_from info.origin ≡ true → IsComputedCell models t cell
  computed_by cell info at computed = tell_and (field_at models cell.model cell.field) info (λ info. is_computed_from info.origin ≡ true) at computed

  fails_computed : (why : Lack) (cell : Cell) → FailsItself models t why cell → IsComputedCell models t cell
  fails_computed why cell h = let f = failing why cell h in computed_by cell f.0 f.1 (ap is_computed_from f.2.1)

  module _ (registry : IsRegistry models) where
    check_computed : (cell : Cell) → IsFalseCheck models t cell → IsComputedCell models t cell
    check_computed cell h =
        let m = model_of_check cell h in
        let f = field_of_check cell m.0 m.2 in
        let law = registry.each cell.model m.0 m.1 in
        computed_by cell f.0 f.1 (behind m.0.fields m.0.hidden cell.field.0 f.0 law.conditions f.2.0 (numbered_in cell m.0 f.0 m.1 f.1)).computed

    -- a formula computes what formulas break
    formula_computed : (k : BrokenKind) (cell : Cell) → is_of_formulas k ≡ true → BreaksAs models t k cell → IsComputedCell models t cell
    formula_computed kind.Overflow cell such h = fails_computed overflow cell h.1
    formula_computed kind.TooLong cell such h = fails_computed too_long cell h.1
    formula_computed kind.ZeroDivisor cell such h = fails_computed zero_divisor cell h.1
    formula_computed kind.Check cell such h = check_computed cell h.1
    formula_computed _ cell such h = contrary such

    -- a settled cell without an outcome breaks nothing
    pub no-outcome-breaks : (outcomes : tree.BTreeMap Cell Outcome) (cell : Cell) → IsSettled models t outcomes cell → tree.get cell_order outcomes cell ≡ None → (b : Broken) → BreaksIn models t is_of_formulas (Is cell) b → ⊥
    no-outcome-breaks outcomes cell settled none b h =
        let there = settled (subst (λ c. IsComputedCell models t c) h.1 (formula_computed b.kind b.cell h.0 h.2)) in
        contrary (sym (ap is_some none) ∙ there)

-- a cell is found to be broken in this way
abbrev pub Found : Cell → Bool → BrokenKind → Broken → Type 0
Found cell is k b = (b ≡ record { kind = k; cell = cell }) × IsTrue is

module _ (models : List ModelInfo) (t : Tables) (known : AreSound models t) (cell : Cell) where
  abbrev Here : Broken → Type 0
  Here = BreaksIn models t is_of_formulas (Is cell)

  abbrev here : BrokenKind → Broken
  here k = record { kind = k; cell = cell }

  in_cell : (b : Broken) → Here b → (b ≡ here b.kind) × BreaksAs models t b.kind cell
  in_cell b h = (ap (λ c. record { kind = b.kind; cell = c }) h.1, subst (λ c. BreaksAs models t b.kind c) h.1 h.2)

  module _ (o : Outcome) (is : IsOutcomeOf models t cell o) where
    -- what is known of a cell that has this outcome
    record Told : Type 0 where
      pub info : FieldInfo
      pub field : field_at models cell.model cell.field ≡ Some info
      pub formula : Formula
      pub from : info.origin ≡ origin.Computed formula
      pub tells : Tells (val models t) o (formula_value (val models t) formula info cell)
      pub value : val models t cell ≡ result_of o

    told : Told
    told =
        let own = told_and (field_at models cell.model cell.field) (IsFormulaOutcome models t cell o) is.1 in
        record {
          info = own.0;
          field = own.1;
          formula = own.2.0;
          from = own.2.1;
          tells = subst (λ (f : Cell → Result Value Lack). Tells f o (formula_value f own.2.0 own.0 cell)) (values_are models t) own.2.2;
          value = ap (λ (f : Cell → Result Value Lack). f cell) (sym (values_are models t)) ∙ outcome-value models t known cell o own.0 is.0 own.1 own.2;
        }

    -- its own formula fails so
    same_fault : (why : Lack) → FailsItself models t why cell → formula_value (val models t) told.formula told.info cell ≡ Err why
    same_fault why h =
        let f = known_at (field_at models cell.model cell.field) told.info (Fails models t why cell) told.field h.1 in
        ap (λ (g : Formula). formula_value (val models t) g told.info cell) (one_formula told.info.origin told.formula f.0 told.from f.1) ∙ f.2

    fails_so : (why : Lack) → formula_value (val models t) told.formula told.info cell ≡ Err why → FailsItself models t why cell
    fails_so why fault = (is.0, tell_and (field_at models cell.model cell.field) told.info (Fails models t why cell) told.field (told.formula, told.from, fault))

  -- a formula that has no value by its own doing
  module _ (why : Reason) (is : IsOutcomeOf models t cell (outcome.Own why)) where
    lacks_same : (lack : Lack) → FailsItself models t lack cell → lack_for why ≡ lack
    lacks_same lack h = same_lack _ (lack_for why) lack (told (outcome.Own why) is).tells (same_fault (outcome.Own why) is lack h)

    own_kind : (k : BrokenKind) → is_of_formulas k ≡ true → BreaksAs models t k cell → k ≡ broken_by why
    own_kind kind.Overflow such h = overflow-broken why (lacks_same overflow h.1)
    own_kind kind.TooLong such h = too_long-broken why (lacks_same too_long h.1)
    own_kind kind.ZeroDivisor such h = zero_divisor-broken why (lacks_same zero_divisor h.1)
    own_kind kind.Check such h = absurd (apart (val models t cell) (value.Bool false) (lack_for why) h.1.1 (told (outcome.Own why) is).value)
    own_kind _ such h = contrary such

    own_breaks : (r : Reason) → r ≡ why → Here (here (broken_by r))
    own_breaks reason.Overflow e = (refl, refl, (known.tied, fails_so (outcome.Own why) is overflow ((told (outcome.Own why) is).tells ∙ ap (λ (r : Reason). Err (lack_for r)) (sym e))))
    own_breaks reason.TooLong e = (refl, refl, (known.tied, fails_so (outcome.Own why) is too_long ((told (outcome.Own why) is).tells ∙ ap (λ (r : Reason). Err (lack_for r)) (sym e))))
    own_breaks reason.ZeroDivisor e = (refl, refl, (known.tied, fails_so (outcome.Own why) is zero_divisor ((told (outcome.Own why) is).tells ∙ ap (λ (r : Reason). Err (lack_for r)) (sym e))))

    pub own-found : (a b : Findings) → Finds (Found cell true (broken_by why)) a b → Finds Here a b
    own-found a b found =
        finds-as (Found cell true (broken_by why)) Here a b (λ x h. subst Here (sym h.0) (own_breaks why refl))
        (λ x h. let i = in_cell x h in (i.0 ∙ ap here (own_kind x.kind h.0 i.1), refl)) found

  -- one that has a value breaks a check alone
  module _ (v : Value) (is : IsOutcomeOf models t cell (outcome.Value v)) where
    no_fault : {P : Type 0} (lack : Lack) → FailsItself models t lack cell → P
    no_fault lack h = absurd (apart _ v lack (told (outcome.Value v) is).tells (same_fault (outcome.Value v) is lack h))

    -- where it is false, and the cell is that of a check
    abbrev pub IsOfCheck : Type 0
    IsOfCheck = IsSomeAnd (model_at models cell.model) (λ m. IsSomeAnd (field_at models cell.model cell.field) (IsCheck m cell.field))

    check_breaks : v ≡ value.Bool false → IsOfCheck → Here (here kind.Check)
    check_breaks false_is check =
        let m = told_and (model_at models cell.model) (λ m. IsSomeAnd (field_at models cell.model cell.field) (IsCheck m cell.field)) check in
        (refl, refl, (known.tied, (tell_and (model_at models cell.model) m.0 (λ m. AtCell models t cell (IsCheck m cell.field)) m.1 (is.0, m.2), (told (outcome.Value v) is).value ∙ ap Ok false_is)))

    value_kind : (k : BrokenKind) → is_of_formulas k ≡ true → BreaksAs models t k cell → (k ≡ kind.Check) × (v ≡ value.Bool false) × IsOfCheck
    value_kind kind.Overflow such h = no_fault overflow h.1
    value_kind kind.TooLong such h = no_fault too_long h.1
    value_kind kind.ZeroDivisor such h = no_fault zero_divisor h.1
    value_kind kind.Check such h =
        let m = model_of_check models t cell h.1 in (
          refl,
          same_value (val models t cell) v (value.Bool false) (told (outcome.Value v) is).value h.1.1,
          tell_and (model_at models cell.model) m.0 (λ m. IsSomeAnd (field_at models cell.model cell.field) (IsCheck m cell.field)) m.1 m.2.1,
        )
    value_kind _ such h = contrary such

    pub value-found : (broken : Bool) → IsTrue broken ↔ ((v ≡ value.Bool false) × IsOfCheck) → (a b : Findings) → Finds (Found cell broken kind.Check) a b → Finds Here a b
    value-found broken test a b found =
        finds-as (Found cell broken kind.Check) Here a b (λ x h. let w = test.0 h.1 in subst Here (sym h.0) (check_breaks w.0 w.1))
        (λ x h. let i = in_cell x h in let w = value_kind x.kind h.0 i.1 in (i.0 ∙ ap here w.0, test.1 (w.1, w.2))) found

  -- one that lacks what it reads breaks nothing itself
  module _ (why : Reason) (is : IsOutcomeOf models t cell (outcome.Inherited why)) where
    inherits : {P : Type 0} (lack : Lack) → ((other : Cell) → unread other ≡ lack → ⊥) → FailsItself models t lack cell → P
    inherits lack not h =
        let tells = (told (outcome.Inherited why) is).tells in
        absurd (not tells.0 (same_lack _ (unread tells.0) lack tells.1 (same_fault (outcome.Inherited why) is lack h)))

    inherited_kind : (k : BrokenKind) → is_of_formulas k ≡ true → BreaksAs models t k cell → ⊥
    inherited_kind kind.Overflow such h = inherits overflow not_overflow h.1
    inherited_kind kind.TooLong such h = inherits too_long not_too_long h.1
    inherited_kind kind.ZeroDivisor such h = inherits zero_divisor not_zero_divisor h.1
    inherited_kind kind.Check such h = apart (val models t cell) (value.Bool false) (lack_for why) h.1.1 (told (outcome.Inherited why) is).value
    inherited_kind _ such h = contrary such

    pub inherited-found : (a : Findings) → Finds Here a a
    inherited-found a = finds-none Here a (λ b h. inherited_kind b.kind h.0 (in_cell b h).1)
