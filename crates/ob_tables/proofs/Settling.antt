-- What is known of cells once all that they read is settled.
use Rattle.std.proofs.Common.{◌≡◌, ◌⊎◌, inl, inr, ℕ, zero, suc, ◌+◌, ◌<◌, get_or, length, take, Bool, true, false, cond, List, [], ◌∷◌, Option, Some, None, Result, Ok, Err, refl, sym, ap, subst, ◌∙◌, arith}
use Rattle.std.specs.Prelude.{All, IfSome, IsSome, IsSomeAnd}
use Rattle.std.specs.FinMap.{IsAntisymmetric}
use Rattle.std.specs.Ordering.{is_eq}
use Rattle.std.specs.Option.{option_map_or}
use Rattle.std.specs.Result.{result_ok}
use Rattle.std.specs.declared.cmp.Ordering.{Ordering}
use Rattle.std.specs.declared.cmp.Ordering.TheVariants.{Less, Equal, Greater}
use Rattle.std.specs.BTreeMap as tree
use Rattle.std.proofs.lemmas.List.{take_more}
use Rattle.std.proofs.lemmas.Option.{same_Some}
use Rattle.ob_base.specs.BrokenOrder.{cell_order}
use Rattle.ob_base.specs.declared.id.Cell.{Cell}
use Rattle.ob_base.specs.declared.id.FieldNo.{FieldNo}
use Rattle.ob_base.specs.declared.id.ModelNo.{ModelNo}
use Rattle.ob_base.specs.declared.id.RecId.{RecId}
use Rattle.ob_base.specs.declared.value.Value.{Value}
use Rattle.ob_base.specs.declared.value.Value.TheVariants as value
use Rattle.ob_expr.specs.declared.fault.EvalFault.{EvalFault}
use Rattle.ob_expr.specs.declared.fault.EvalFault.TheVariants.{Overflow, TooLong, ZeroDivisor, Read}
use Rattle.ob_expr.specs.declared.row.Row.{Row}
use Rattle.ob_expr.specs.Outcome.{IsEvalFault}
use Rattle.ob_expr.specs.Chain.{and_then}
use Rattle.ob_expr.specs.Computing.{Lack, overflow, too_long, zero_divisor, unread}
use Rattle.ob_expr.specs.Meaning.{cell_in, follow, meaning, row_of, value_at}
use Rattle.ob_expr.specs.Reads.{IsAlong, LeadsTo}
use Rattle.ob_expr.specs.declared.kind.Kind.{Kind}
use Rattle.ob_expr.specs.Kinds.{HasKind}
use Rattle.ob_expr.specs.TypedTree.{kind_of, paths_of, typed_tree_of}
use Rattle.ob_schema.specs.declared.info.Delegation.{Delegation}
use Rattle.ob_schema.specs.declared.info.FieldInfo.{FieldInfo}
use Rattle.ob_schema.specs.declared.info.Formula.{Formula}
use Rattle.ob_schema.specs.declared.info.ModelInfo.{ModelInfo}
use Rattle.ob_schema.specs.declared.info.Origin.{Origin}
use Rattle.ob_schema.specs.declared.info.Origin.TheVariants as origin
use Rattle.ob_schema.specs.Models.{IsFormulaIn, IsRouted, field_at, is_computed_from, is_delegated_from, is_given_from}
use Rattle.ob_definition.specs.Values.{initial_value}
use Rattle.ob_schema.specs.Limited.{limited}
use Rattle.ob_schema.specs.Plain.{plain_at}
use Rattle.ob_tables.specs.Settling.{AreOutcomes, FailsAt, KeepsAll, Lacks, IsComputedCell, IsFormulaOutcome, IsOutcomeOf, IsSettled, Tells, ends_of, had_in, held_in, held_or, lack_for, reason_of, row_named, values_of}
use Rattle.ob_schema.specs.Tables.{PlainRow, Tables, row_at}
use Rattle.ob_schema.specs.Val.{behind, formula_value, or_inherited, value_by}
use Rattle.ob_tables.specs.Faults.{HasNoValue}
use Rattle.ob_tables.specs.declared.fault.ScratchFault.{ScratchFault}
use Rattle.ob_tables.specs.declared.fault.ScratchFault.TheVariants as scratch
use Rattle.ob_tables.specs.declared.outcome.Outcome.{Outcome}
use Rattle.ob_tables.specs.declared.outcome.Outcome.TheVariants as outcome
use Rattle.ob_tables.specs.declared.outcome.Reason.{Reason}
use Rattle.ob_tables.specs.declared.outcome.Reason.TheVariants as reason
use Rattle.ob_tables.specs.declared.outcome.Unread.{Unread}
use Rattle.ob_tables.specs.declared.outcome.Unread.TheVariants as fault
use Rattle.ob_tables.proofs.Along.{IsPlainCell, Leads, along_ends, along_one, end_model, leads-model}
use Rattle.ob_tables.proofs.EndsOf.{along-ends, ends-along, stands-either}
use Rattle.ob_tables.proofs.Ends.{RouteOf, own_end, routes_of}
use Rattle.ob_tables.proofs.KnownFields.{Field-at, Formula-at, is_there, known_at, known_if, some_or_none, tell_and, there_is, told_and}
use Rattle.ob_tables.proofs.LedTo.{along_there, step_there}
use Rattle.ob_tables.proofs.NamedBack.{Stands}
use Rattle.ob_tables.proofs.Settled.{Behind-at}
use Rattle.ob_tables.proofs.Stable.{held-value_at, law-deep, limited_unread, value_there}
use Rattle.ob_tables.proofs.Within.{AreSound, given-not_computed, none_unread, not_there, values-law}

-- what an outcome leaves in the cell
abbrev pub result_of : Outcome → Result Value Lack
result_of (outcome.Value v) = Ok v
result_of (outcome.Own why) = Err (lack_for why)
result_of (outcome.Inherited why) = Err (lack_for why)

-- a cell lacks its own reason
own-lack : (held : Cell → Result Value Lack) (why : Reason) → or_inherited held (Err (lack_for why)) ≡ Err (lack_for why)
own-lack held reason.Overflow = refl
own-lack held reason.TooLong = refl
own-lack held reason.ZeroDivisor = refl

-- what a formula gives leaves this in the cell
told-result : (held : Cell → Result Value Lack) (o : Outcome) (given : Result Value Lack) → Tells held o given → or_inherited held given ≡ result_of o
told-result held (outcome.Value v) given tells = ap (or_inherited held) tells
told-result held (outcome.Own why) given tells = ap (or_inherited held) tells ∙ own-lack held why
told-result held (outcome.Inherited why) given tells = ap (or_inherited held) tells.1 ∙ tells.2

-- what is held of an outcome
held-result : (o : Outcome) (plain : Option Value) → held_or (Some o) plain ≡ result_ok (result_of o)
held-result (outcome.Value v) plain = refl
held-result (outcome.Own why) plain = refl
held-result (outcome.Inherited why) plain = refl

-- an outcome without a value has a reason
pub has_reason : (o : Outcome) → result_ok (result_of o) ≡ None → IsSome (reason_of o)
has_reason (outcome.Value v) none = cc
has_reason (outcome.Own why) none = refl
has_reason (outcome.Inherited why) none = refl

-- and leaves that in the cell
pub reason-result : (o : Outcome) (why : Reason) → reason_of o ≡ Some why → result_of o ≡ Err (lack_for why)
reason-result (outcome.Value v) why is = cc
reason-result (outcome.Own own) why is = ap (λ (r : Reason). Err (lack_for r)) (same_Some own why is)
reason-result (outcome.Inherited own) why is = ap (λ (r : Reason). Err (lack_for r)) (same_Some own why is)

-- what an evaluation's fault tells, once it is known which fault it is
fault_of : (P : Unread → Cell → Type 0) (held : Cell → Option Value) (m : Result Value Lack) (e x : EvalFault Unread) → e ≡ x → IsEvalFault P held m e → IsEvalFault P held m x
fault_of P held m e x is told = subst (IsEvalFault P held m) is told

pub fault-overflow : (P : Unread → Cell → Type 0) (held : Cell → Option Value) (m : Result Value Lack) (e : EvalFault Unread) → e ≡ Overflow → IsEvalFault P held m e → m ≡ Err overflow
fault-overflow P held m e is told = fault_of P held m e Overflow is told

pub fault-too_long : (P : Unread → Cell → Type 0) (held : Cell → Option Value) (m : Result Value Lack) (e : EvalFault Unread) → e ≡ TooLong → IsEvalFault P held m e → m ≡ Err too_long
fault-too_long P held m e is told = fault_of P held m e TooLong is told

pub fault-zero_divisor : (P : Unread → Cell → Type 0) (held : Cell → Option Value) (m : Result Value Lack) (e : EvalFault Unread) → e ≡ ZeroDivisor → IsEvalFault P held m e → m ≡ Err zero_divisor
fault-zero_divisor P held m e is told = fault_of P held m e ZeroDivisor is told

pub fault-read : (held later : Cell → Option Value) (m : Result Value Lack) (e : EvalFault Unread) (f : Unread) (other : Cell)
    → later ≡ held → e ≡ Read f → f ≡ fault.NoValue other → IsEvalFault (FailsAt later) held m e → m ≡ Err (unread other)
fault-read held later m e f other kept is which told =
    let it = fault_of (FailsAt later) held m e (Read (fault.NoValue other)) (is ∙ ap Read which) told in
    it.2 (ap (λ (h : Cell → Option Value). h it.0) (sym kept) ∙ it.1.1) ∙ ap (λ (c : Cell). Err (unread c)) (sym it.1.0)

-- a reference leads to the row that it names
named-leads : (v : Value) (id : RecId) → row_named v ≡ Some id → LeadsTo (Some v) id
named-leads (value.Ref other) id named = sym (same_Some other id named)
named-leads (value.Refs ids) id named = cc
named-leads value.Nil id named = cc
named-leads (value.Bool b) id named = cc
named-leads (value.Int n) id named = cc
named-leads (value.Word text) id named = cc
named-leads (value.Day n) id named = cc
named-leads (value.Moment n) id named = cc

-- to follow a value is to go on to that row
follow-named : (next : RecId → Result Value Lack) (ended : Result Value Lack) (v : Value) → follow next ended v ≡ option_map_or next (row_named v) ended
follow-named next ended (value.Ref other) = refl
follow-named next ended (value.Refs ids) = refl
follow-named next ended value.Nil = refl
follow-named next ended (value.Bool b) = refl
follow-named next ended (value.Int n) = refl
follow-named next ended (value.Word text) = refl
follow-named next ended (value.Day n) = refl
follow-named next ended (value.Moment n) = refl

-- the same field
same_field : (o : Option FieldInfo) (f g : FieldInfo) → o ≡ Some f → o ≡ Some g → f ≡ g
same_field o f g p q = let both : Some f ≡ Some g = sym p ∙ q in cc

-- the same formula
same_formula : (o : Origin) (f g : Formula) → o ≡ origin.Computed f → o ≡ origin.Computed g → f ≡ g
same_formula o f g p q = let both : origin.Computed f ≡ origin.Computed g = sym p ∙ q in cc

-- the origin of a field whose value isn't delegated
own-origin : (o : Origin) → is_delegated_from o ≡ false → (is_given_from o ≡ true) ⊎ ((formula : Formula) × (o ≡ origin.Computed formula))
own-origin origin.Id own = inl refl
own-origin origin.Plain own = inl refl
own-origin (origin.Delegated at) own = absurd cc
own-origin (origin.Computed formula) own = inr (formula, refl)

module _ (models : List ModelInfo) (tables : Tables) where
  -- one step of a cell that its row is given
  given-step : (f : Cell → Result Value Lack) (c : Cell) (row : PlainRow) (info : FieldInfo) → row_at tables c.model c.id ≡ Some row → field_at models c.model c.field ≡ Some info → is_given_from info.origin ≡ true
      → value_by models tables f c ≡ value_at c (plain_at tables models c)
  given-step f c row info there at given = by info.origin refl given
    where
      by : (o : Origin) → info.origin ≡ o → is_given_from o ≡ true → value_by models tables f c ≡ value_at c (plain_at tables models c)
      by origin.Id is given = value_there models tables f c row info origin.Id there at is
      by origin.Plain is given = value_there models tables f c row info origin.Plain there at is
      by (origin.Delegated to) is given = absurd cc
      by (origin.Computed formula) is given = absurd cc

module _ (models : List ModelInfo) (tables : Tables) (known : AreSound models tables) where
  -- values from scratch
  abbrev values : Cell → Result Value Lack
  values = values_of models tables

  -- the value of a computed cell that has an outcome
  pub outcome-value : (c : Cell) (o : Outcome) (info : FieldInfo) → IsSome (row_at tables c.model c.id) → field_at models c.model c.field ≡ Some info → IsFormulaOutcome models tables c o info → values c ≡ result_of o
  outcome-value c o info there at is =
      let row = is_there (row_at tables c.model c.id) there in
      values-law models tables known c ∙ value_there models tables values c row.0 info (origin.Computed is.0) row.1 at is.1 ∙ told-result values o (formula_value values is.0 info c) is.2

  -- the value of a cell that its row is given
  pub given-value : (c : Cell) (info : FieldInfo) → IsSome (row_at tables c.model c.id) → field_at models c.model c.field ≡ Some info → is_given_from info.origin ≡ true → values c ≡ value_at c (plain_at tables models c)
  given-value c info there at given = let row = is_there (row_at tables c.model c.id) there in values-law models tables known c ∙ given-step models tables values c row.0 info row.1 at given

  -- it is there
  pub given-there : (c : Cell) (info : FieldInfo) → IsSome (row_at tables c.model c.id) → field_at models c.model c.field ≡ Some info → is_given_from info.origin ≡ true → plain_at tables models c ≡ None → ⊥
  given-there c info there at given none =
      none_unread models tables known c c there (there_is (field_at models c.model c.field) info at) (given-value c info there at given ∙ ap (λ (o : Option Value). value_at c o) none)

  module _ (outcomes : tree.BTreeMap Cell Outcome) (right : AreOutcomes models tables outcomes) where
    -- what an outcome tells of its cell
    pub outcome_of : (c : Cell) (o : Outcome) → tree.get cell_order outcomes c ≡ Some o → IsOutcomeOf models tables c o
    outcome_of c o gets = known_if (tree.get cell_order outcomes c) o (IsOutcomeOf models tables c) gets (right c)

    -- the value of a cell with an outcome
    pub got-value : (c : Cell) (o : Outcome) → tree.get cell_order outcomes c ≡ Some o → values c ≡ result_of o
    got-value c o gets =
        let one = outcome_of c o gets in
        let t = told_and (field_at models c.model c.field) (IsFormulaOutcome models tables c o) one.1 in
        outcome-value c o t.0 one.0 t.1 t.2

    -- a cell that its row is given has none
    pub given-none : (c : Cell) (info : FieldInfo) → field_at models c.model c.field ≡ Some info → is_given_from info.origin ≡ true → tree.get cell_order outcomes c ≡ None
    given-none c info at given = elim (some_or_none (tree.get cell_order outcomes c)) [
      | inl none ↦ none
      | inr some ↦ absurd (let is = known_at (field_at models c.model c.field) info (IsFormulaOutcome models tables c some.0) at (outcome_of c some.0 some.1).1 in given-not_computed info.origin is.0 given is.1)
    ]

    -- a settled cell without an outcome is one that its row is given
    pub none-given : (c : Cell) → IsSomeAnd (field_at models c.model c.field) (λ info. is_delegated_from info.origin ≡ false) → IsSettled models tables outcomes c → tree.get cell_order outcomes c ≡ None
        → (info : FieldInfo) × (field_at models c.model c.field ≡ Some info) × (is_given_from info.origin ≡ true)
    none-given c own settled none =
        let t = told_and (field_at models c.model c.field) (λ info. is_delegated_from info.origin ≡ false) own in
        elim (own-origin t.0.origin t.2) [
          | inl given ↦ (t.0, t.1, given)
          | inr formula ↦ absurd (not_there (tree.get cell_order outcomes c) none (settled (tell_and (field_at models c.model c.field) t.0 (λ info. is_computed_from info.origin ≡ true) t.1 (ap is_computed_from formula.1))))
        ]

    -- a settled cell holds what it has
    pub settled-held : (c : Cell) → IsSome (row_at tables c.model c.id) → IsSomeAnd (field_at models c.model c.field) (λ info. is_delegated_from info.origin ≡ false) → IsSettled models tables outcomes c
        → held_in models tables outcomes c ≡ had_in models tables c
    settled-held c there own settled =
        let t = told_and (field_at models c.model c.field) (λ info. is_delegated_from info.origin ≡ false) own in
        elim (own-origin t.0.origin t.2) [
          | inl given ↦ ap (λ (o : Option Outcome). held_or o (plain_at tables models c)) (given-none c t.0 t.1 given)
              ∙ sym (held-value_at c (plain_at tables models c)) ∙ sym (ap (λ (m : Result Value Lack). result_ok m) (given-value c t.0 there t.1 given))
          | inr formula ↦ (let computed : IsComputedCell models tables c = tell_and (field_at models c.model c.field) t.0 (λ info. is_computed_from info.origin ≡ true) t.1 (ap is_computed_from formula.1) in
              let one = is_there (tree.get cell_order outcomes c) (settled computed) in
              ap (λ (o : Option Outcome). held_or o (plain_at tables models c)) one.1 ∙ held-result one.0 (plain_at tables models c) ∙ sym (ap (λ (m : Result Value Lack). result_ok m) (got-value c one.0 one.1)))
        ]

    -- one that holds nothing has an outcome without a value
    pub held-none : (c : Cell) → IsSome (row_at tables c.model c.id) → IsSomeAnd (field_at models c.model c.field) (λ info. is_delegated_from info.origin ≡ false) → IsSettled models tables outcomes c
        → held_in models tables outcomes c ≡ None → (o : Outcome) × (tree.get cell_order outcomes c ≡ Some o) × (result_ok (result_of o) ≡ None)
    held-none c there own settled none =
        let t = told_and (field_at models c.model c.field) (λ info. is_delegated_from info.origin ≡ false) own in
        elim (own-origin t.0.origin t.2) [
          | inl given ↦ absurd (given-there c t.0 there t.1 given (sym (ap (λ (o : Option Outcome). held_or o (plain_at tables models c)) (given-none c t.0 t.1 given)) ∙ none))
          | inr formula ↦ (let computed : IsComputedCell models tables c = tell_and (field_at models c.model c.field) t.0 (λ info. is_computed_from info.origin ≡ true) t.1 (ap is_computed_from formula.1) in
              let one = is_there (tree.get cell_order outcomes c) (settled computed) in
              (one.0, one.1, sym (held-result one.0 (plain_at tables models c)) ∙ sym (ap (λ (o : Option Outcome). held_or o (plain_at tables models c)) one.1) ∙ none))
        ]

  -- ---- a formula

  module _ (c : Cell) (info : FieldInfo) (formula : Formula) (there : IsSome (row_at tables c.model c.id)) (at : field_at models c.model c.field ≡ Some info) (from : info.origin ≡ origin.Computed formula) where
    -- what the registry tells of it
    pub its_formula : IsFormulaIn models c.model info formula
    its_formula = Formula-at models c.model c.field info formula (Field-at models c.model c.field info known.registry at) from

    -- a cell along its paths is one of a row that is there, and of a field that isn't delegated
    pub along-own : (d : Cell) → IsAlong (had_in models tables) (row_of c) (typed_tree_of formula.typed) d → IsSome (row_at tables d.model d.id) × IsSomeAnd (field_at models d.model d.field) (λ i. is_delegated_from i.origin ≡ false)
    along-own d along =
        let deep = law-deep models tables 1 values (values-law models tables known) in
        let routes = routes_of models c.model info formula its_formula in
        let one = along_one (had_in models tables) (row_of c) (RouteOf models c.model formula) (paths_of (typed_tree_of formula.typed)) d routes along in
        let is = along_there models tables known.registry known.tied 0 values deep (row_of c) one.0.links one.0.field one.0.kind there one.1.routed d one.2 in
        (is.0, by one.0.links one.0.field (own_end models c.model one.0.links one.0.field one.1.own) (along_ends models tables 0 values deep (row_of c) one.0.links one.0.field one.0.kind one.1.routed d one.2))
      where
        Own : Cell → Type 0
        Own e = IsSomeAnd (field_at models e.model e.field) (λ i. is_delegated_from i.origin ≡ false)

        by : (links : List _) (field : FieldNo) → IsSomeAnd (field_at models (end_model c.model links) field) (λ i. is_delegated_from i.origin ≡ false)
            → IsPlainCell models tables d ⊎ ((end : Row) × Leads models tables (row_of c) links end × (d ≡ cell_in end field)) → IsSomeAnd (field_at models d.model d.field) (λ i. is_delegated_from i.origin ≡ false)
        by links field own (inl plain) = tell_and (field_at models d.model d.field) plain.0 (λ i. is_delegated_from i.origin ≡ false) plain.1 (ap is_delegated_from plain.2)
        by links field own (inr (end, leads, is)) =
            subst (λ (e : Cell). IsSomeAnd (field_at models e.model e.field) (λ i. is_delegated_from i.origin ≡ false)) (sym is)
            (subst (λ (m : ModelNo). IsSomeAnd (field_at models m field) (λ i. is_delegated_from i.origin ≡ false)) (sym (leads-model models tables (row_of c) links end leads)) own)

    -- the paths are typed
    routed : All (λ route. IsRouted models c.model route.links route.field route.kind) (paths_of (typed_tree_of formula.typed))
    routed = its_formula.routed

    -- an end of its paths lies along them
    pub end_is-along : (d : Cell) → Stands d (ends_of (plain_at tables models) (row_of c) (typed_tree_of formula.typed)) → IsAlong (had_in models tables) (row_of c) (typed_tree_of formula.typed) d
    end_is-along d among = ends-along models tables values (law-deep models tables 1 values (values-law models tables known)) (row_of c) (paths_of (typed_tree_of formula.typed)) routed d among

    -- where the ends are settled, so is all along the paths
    pub all-settled : (outcomes : tree.BTreeMap Cell Outcome) → ((d : Cell) → Stands d (ends_of (plain_at tables models) (row_of c) (typed_tree_of formula.typed)) → IsSettled models tables outcomes d)
        → (d : Cell) → IsAlong (had_in models tables) (row_of c) (typed_tree_of formula.typed) d → IsSettled models tables outcomes d
    all-settled outcomes ends d along =
        by (along-ends models tables values (law-deep models tables 1 values (values-law models tables known)) (row_of c) (paths_of (typed_tree_of formula.typed)) routed d along)
      where
        by : IsPlainCell models tables d ⊎ Stands d (ends_of (plain_at tables models) (row_of c) (typed_tree_of formula.typed)) → IsSettled models tables outcomes d
        by (inl plain) = λ computed. absurd (let is = known_at (field_at models d.model d.field) plain.0 (λ i. is_computed_from i.origin ≡ true) plain.1 computed in
            let not : false ≡ true = sym (ap is_computed_from plain.2) ∙ is in cc)
        by (inr end) = ends d end

    module _ (outcomes : tree.BTreeMap Cell Outcome) (right : AreOutcomes models tables outcomes)
        (settled : (d : Cell) → IsAlong (had_in models tables) (row_of c) (typed_tree_of formula.typed) d → IsSettled models tables outcomes d) where
      -- the formula means the same by what is held
      pub means-same : meaning (held_in models tables outcomes) (row_of c) (typed_tree_of formula.typed) ≡ meaning (had_in models tables) (row_of c) (typed_tree_of formula.typed)
      means-same =
          known.laws.along (typed_tree_of formula.typed) (had_in models tables) (held_in models tables outcomes) (row_of c)
          (λ d along. let own = along-own d along in settled-held outcomes right d own.0 own.1 (settled d along))

      -- what it gives
      pub gives-same : formula_value values formula info c ≡ limited info.field_type (meaning (held_in models tables outcomes) (row_of c) (typed_tree_of formula.typed))
      gives-same = ap (limited info.field_type) (sym means-same)

      -- where it lacks a cell, that one has an outcome without a value
      pub lacks-one : (other : Cell) → limited info.field_type (meaning (held_in models tables outcomes) (row_of c) (typed_tree_of formula.typed)) ≡ Err (unread other)
          → IsSomeAnd (tree.get cell_order outcomes other) (λ o. IsSome (reason_of o))
      lacks-one other lacks =
          let reads = known.laws.lacks (typed_tree_of formula.typed) (had_in models tables) (row_of c) other
          (sym means-same ∙ limited_unread info.field_type (meaning (held_in models tables outcomes) (row_of c) (typed_tree_of formula.typed)) other lacks) in
          let own = along-own other reads.0 in
          let one = held-none outcomes right other own.0 own.1 (settled other reads.0) (settled-held outcomes right other own.0 own.1 (settled other reads.0) ∙ reads.1) in
          tell_and (tree.get cell_order outcomes other) one.0 (λ o. IsSome (reason_of o)) one.1 (has_reason one.0 one.2)

      -- it lacks what that one lacks
      pub lacks-as : (other : Cell) (why : Reason) → limited info.field_type (meaning (held_in models tables outcomes) (row_of c) (typed_tree_of formula.typed)) ≡ Err (unread other)
          → IsSomeAnd (tree.get cell_order outcomes other) (λ o. reason_of o ≡ Some why) → IsFormulaOutcome models tables c (outcome.Inherited why) info
      lacks-as other why lacks has =
          let t = told_and (tree.get cell_order outcomes other) (λ o. reason_of o ≡ Some why) has in
          (formula, from, (other, gives-same ∙ lacks, got-value outcomes right other t.0 t.1 ∙ reason-result t.0 why t.2), tt)

      -- a fault of its own
      pub lacks-own : (why : Reason) → limited info.field_type (meaning (held_in models tables outcomes) (row_of c) (typed_tree_of formula.typed)) ≡ Err (lack_for why) → IsFormulaOutcome models tables c (outcome.Own why) info
      lacks-own why lacks = (formula, from, gives-same ∙ lacks, tt)

      -- a value
      pub gives-value : (v : Value) → limited info.field_type (meaning (held_in models tables outcomes) (row_of c) (typed_tree_of formula.typed)) ≡ Ok v → HasKind (kind_of (typed_tree_of formula.typed)) v
          → IsFormulaOutcome models tables c (outcome.Value v) info
      gives-value v means kind =
          (formula, from, gives-same ∙ means, λ k is. subst (λ (x : Kind). HasKind x v) (same_Some (kind_of (typed_tree_of formula.typed)) k (sym its_formula.kind ∙ is)) kind)

  -- ---- behind a link

  -- the value of a delegated cell
  pub delegated-value : (c : Cell) (info : FieldInfo) (at : Delegation) → IsSome (row_at tables c.model c.id) → field_at models c.model c.field ≡ Some info → info.origin ≡ origin.Delegated at
      → values c ≡ and_then (values (record c { field = at.link })) (follow (λ id. values (behind models tables at id)) (Ok (initial_value info.field_type)))
  delegated-value c info at there found from =
      let row = is_there (row_at tables c.model c.id) there in values-law models tables known c ∙ value_there models tables values c row.0 info (origin.Delegated at) row.1 found from

  -- by the link's plain value
  pub behind-value : (c : Cell) (info : FieldInfo) (at : Delegation) → IsSome (row_at tables c.model c.id) → field_at models c.model c.field ≡ Some info → info.origin ≡ origin.Delegated at
      → values c ≡ and_then (value_at (record c { field = at.link }) (plain_at tables models (record c { field = at.link }))) (follow (λ id. values (behind models tables at id)) (Ok (initial_value info.field_type)))
  behind-value c info at there found from =
      let to = Behind-at models c.model c.field info at known.registry found from in
      delegated-value c info at there found from
      ∙ ap (λ (m : Result Value Lack). and_then m (follow (λ id. values (behind models tables at id)) (Ok (initial_value info.field_type))))
      (given-value (record c { field = at.link }) to.link there to.link_at (ap is_given_from to.plain))

  -- the link is set or not
  pub link-there : (c : Cell) (info : FieldInfo) (at : Delegation) → IsSome (row_at tables c.model c.id) → field_at models c.model c.field ≡ Some info → info.origin ≡ origin.Delegated at
      → plain_at tables models (record c { field = at.link }) ≡ None → ⊥
  link-there c info at there found from none =
      let to = Behind-at models c.model c.field info at known.registry found from in given-there (record c { field = at.link }) to.link there to.link_at (ap is_given_from to.plain) none

  -- the row behind it is there, and the field there isn't delegated
  pub behind-there : (c : Cell) (info : FieldInfo) (at : Delegation) (v : Value) (id : RecId) → IsSome (row_at tables c.model c.id) → field_at models c.model c.field ≡ Some info → info.origin ≡ origin.Delegated at
      → plain_at tables models (record c { field = at.link }) ≡ Some v → row_named v ≡ Some id → IsSome (row_at tables at.model id) × IsSomeAnd (field_at models at.model at.field) (λ i. is_delegated_from i.origin ≡ false)
  behind-there c info at v id there found from holds named =
      let to = Behind-at models c.model c.field info at known.registry found from in
      let row = is_there (row_at tables c.model c.id) there in
      let leads : LeadsTo (plain_at tables models (record c { field = at.link })) id = subst (λ (o : Option Value). LeadsTo o id) (sym holds) (named-leads v id named) in (
        step_there models tables known.registry known.tied (record c { field = at.link }) row.0 to.link at.model id row.1 to.link_at to.plain to.leads leads,
        tell_and (field_at models at.model at.field) to.target (λ i. is_delegated_from i.origin ≡ false) to.target_at to.own,
      )

  -- by what the link names
  behind-named : (c : Cell) (info : FieldInfo) (at : Delegation) (v : Value) → IsSome (row_at tables c.model c.id) → field_at models c.model c.field ≡ Some info → info.origin ≡ origin.Delegated at
      → plain_at tables models (record c { field = at.link }) ≡ Some v → values c ≡ option_map_or (λ id. values (behind models tables at id)) (row_named v) (Ok (initial_value info.field_type))
  behind-named c info at v there found from holds =
      behind-value c info at there found from
      ∙ ap (λ (o : Option Value). and_then (value_at (record c { field = at.link }) o) (follow (λ id. values (behind models tables at id)) (Ok (initial_value info.field_type)))) holds
      ∙ follow-named (λ id. values (behind models tables at id)) (Ok (initial_value info.field_type)) v

  -- where the link is set, the cell has what the one behind it has
  pub behind-set : (c : Cell) (info : FieldInfo) (at : Delegation) (v : Value) (id : RecId) → IsSome (row_at tables c.model c.id) → field_at models c.model c.field ≡ Some info → info.origin ≡ origin.Delegated at
      → plain_at tables models (record c { field = at.link }) ≡ Some v → row_named v ≡ Some id → values c ≡ values (behind models tables at id)
  behind-set c info at v id there found from holds named =
      behind-named c info at v there found from holds ∙ ap (λ (o : Option RecId). option_map_or (λ id. values (behind models tables at id)) o (Ok (initial_value info.field_type))) named

  -- where it is unset, it is unset
  pub behind-unset : (c : Cell) (info : FieldInfo) (at : Delegation) (v : Value) → IsSome (row_at tables c.model c.id) → field_at models c.model c.field ≡ Some info → info.origin ≡ origin.Delegated at
      → plain_at tables models (record c { field = at.link }) ≡ Some v → row_named v ≡ None → values c ≡ Ok (initial_value info.field_type)
  behind-unset c info at v there found from holds named =
      behind-named c info at v there found from holds ∙ ap (λ (o : Option RecId). option_map_or (λ id. values (behind models tables at id)) o (Ok (initial_value info.field_type))) named

-- ---- many cells

-- what compares as equal
is_equal : (r : Ordering) → is_eq r ≡ true → r ≡ Equal
is_equal Less is = cc
is_equal Equal is = refl
is_equal Greater is = cc

-- an item of a list stands in it
pub stands-item : {X : Type 0} (xs : List X) (i : ℕ) (d : X) → i < length xs → Stands (get_or xs i d) xs
stands-item [] i d within = absurd (omega arith)
stands-item (x ∷ xs) zero d within = inl refl
stands-item (x ∷ xs) (suc i) d within = inr (stands-item xs i d (omega arith))

module _ (models : List ModelInfo) (tables : Tables) where
  -- what was settled is
  pub settled-later : (old new : tree.BTreeMap Cell Outcome) → KeepsAll old new → (c : Cell) → IsSettled models tables old c → IsSettled models tables new c
  settled-later old new keeps c settled = λ computed. keeps c (settled computed)

  -- one more is settled
  pub settled-more : (old new : tree.BTreeMap Cell Outcome) (items : List Cell) (i : ℕ) (d : Cell) → i < length items → KeepsAll old new → ((c : Cell) → Stands c (take i items) → IsSettled models tables old c)
      → IsSettled models tables new (get_or items i d) → (c : Cell) → Stands c (take (i + 1) items) → IsSettled models tables new c
  settled-more old new items i d within keeps before here c among = by (stands-either c (take i items) (get_or items i d ∷ []) (subst (Stands c) (take_more items i d within) among))
    where
      by : Stands c (take i items) ⊎ Stands c (get_or items i d ∷ []) → IsSettled models tables new c
      by (inl earlier) = settled-later old new keeps c (before c earlier)
      by (inr (inl is)) = subst (IsSettled models tables new) (sym is) here
      by (inr (inr none)) = absurd none

  -- ---- one more outcome

  module _ (exact : IsAntisymmetric cell_order) (old new : tree.BTreeMap Cell Outcome) (cell : Cell) (o : Outcome)
      (updates : (q : Cell) → tree.get cell_order new q ≡ cond (is_eq (cell_order cell q)) (Some o) (tree.get cell_order old q)) where
    -- what stood stands
    pub insert-keeps : KeepsAll old new
    insert-keeps q there = by (is_eq (cell_order cell q)) (updates q)
      where
        by : (b : Bool) → tree.get cell_order new q ≡ cond b (Some o) (tree.get cell_order old q) → IsSome (tree.get cell_order new q)
        by true is = there_is (tree.get cell_order new q) o is
        by false is = subst IsSome (sym is) there

    -- and each is right
    pub insert-right : IsOutcomeOf models tables cell o → AreOutcomes models tables old → AreOutcomes models tables new
    insert-right here right q = by (is_eq (cell_order cell q)) refl (updates q)
      where
        by : (b : Bool) → is_eq (cell_order cell q) ≡ b → tree.get cell_order new q ≡ cond b (Some o) (tree.get cell_order old q) → IfSome (tree.get cell_order new q) (IsOutcomeOf models tables q)
        by true same is =
            let one : cell ≡ q = exact cell q (is_equal (cell_order cell q) same) in
            subst (λ (w : Option Outcome). IfSome w (IsOutcomeOf models tables q)) (sym is) (subst (λ (c : Cell). IsOutcomeOf models tables c o) one here)
        by false same is = subst (λ (w : Option Outcome). IfSome w (IsOutcomeOf models tables q)) (sym is) (right q)

-- ---- faults

-- a cell that lacks this has no value
pub lacks-has : (models : List ModelInfo) (tables : Tables) (c : Cell) (f : ScratchFault) → Lacks (values_of models tables c) f → HasNoValue models tables c f
unfolding values_of
lacks-has models tables c scratch.Missing lacks = absurd lacks
lacks-has models tables c scratch.Overflow lacks = lacks
lacks-has models tables c scratch.TooLong lacks = lacks
lacks-has models tables c scratch.ZeroDivisor lacks = lacks
lacks-has models tables c scratch.NoMemory lacks = tt
