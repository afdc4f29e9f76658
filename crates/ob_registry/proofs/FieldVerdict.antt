-- The faults that are told of fields, their keys, their expressions and how they read one another, are those of the definitions.
use Rattle.std.proofs.Common.{◌≡◌, ◌⊎◌, inl, inr, ℕ, zero, suc, true, false, List, ◌++◌, not, Some, refl, sym, ap, subst, ◌∙◌}
use Rattle.std.specs.Prelude.{Contains}
use Rattle.std.proofs.lemmas.Bool.{and_parts, false≢true, not-true}
use Rattle.std.proofs.lemmas.List.Elements.{All-contains, Contains-append_cases, Contains-append_left, Contains-append_right}
use Rattle.ob_base.specs.declared.id.ModelNo.{ModelNo}
use Rattle.ob_base.specs.Limits.{max_stratum}
use Rattle.ob_definition.specs.declared.definition.ModelDef.{ModelDef}
use Rattle.ob_definition.specs.declared.fault.SchemaFault.{SchemaFault}
use Rattle.ob_definition.specs.declared.fault.Spot.{Spot}
use Rattle.ob_definition.specs.declared.wrong.Wrong.{Wrong}
use Rattle.ob_definition.specs.declared.wrong.Wrong.TheVariants as wrong
use Rattle.ob_definition.specs.Definitions.{is_computed}
use Rattle.ob_definition.specs.Findings.{fault_at}
use Rattle.ob_definition.specs.Gathered.{Gathered, gathered}
use Rattle.ob_definition.specs.Members.{Member, delegated_by, hidden_members, is_delegated, is_own_computed, links_of, members_of, model_at, own_members}
use Rattle.ob_schema.specs.declared.info.Step.{Step}
use Rattle.ob_schema.specs.Chains.{HasChain, ReachesOver}
use Rattle.ob_registry.specs.Faults.{AtField, IsFieldAt, IsFieldFault}
use Rattle.ob_schema.specs.Formulas.{Place}
use Rattle.ob_registry.specs.Graphs.{IsChainWrong, IsStepFault}
use Rattle.ob_schema.specs.Strata.{IsCircle, IsMember, Reads, ReadsAnother}
use Rattle.ob_registry.specs.Telling.{AreFormulaFaults, AreKeyFaults, AreKeysWrong, AreMemberFaults, IsFieldKeyFault, IsFormulaFault, IsFormulaWrong, spot_of}
use Rattle.ob_registry.proofs.KeyRooms.{delegated_all}
use Rattle.ob_registry.proofs.ModelRank.{any_there, spot_is, there_any}
use Rattle.ob_registry.proofs.NamedFields.{member_parts}
use Rattle.ob_registry.proofs.SingleFields.{AreSingle}

-- a field whose own expression gives its value isn't delegated
own_kept : (m : Member) → is_own_computed m ≡ true → is_delegated m.role ≡ false
own_kept m computed = not-true (is_delegated m.role) (and_parts (not (is_delegated m.role)) (is_computed m.def) computed).0

-- only such a field has a wrong expression
formula_computed : (p : Place) (w : Wrong) → IsFormulaWrong p w → is_own_computed p.member ≡ true
formula_computed p wrong.Field (inl unknown) = unknown.2
formula_computed p wrong.Field (inr path) = path.0
formula_computed p wrong.Kind kind = kind.2
formula_computed p wrong.Path (inl uncovered) = uncovered.2.computed
formula_computed p wrong.Path (inr path) = path.0
formula_computed p wrong.Limit (inl long) = long.0
formula_computed p wrong.Limit (inr long) = long.1.0
formula_computed p (wrong.Text why) text = text.0
formula_computed p _ is = absurd is

module _ (models : List Gathered) where
  -- a named field that isn't delegated is one of the model's own
  own_among : (g : Gathered) (m : Member) → Contains (members_of models g) m → is_delegated m.role ≡ false → Contains (own_members models g) m
  own_among g m among kept = elim (Contains-append_cases (own_members models g) (delegated_by models g (links_of models g)) m among) as (λ _. Contains (own_members models g) m) [
    | inl mine ↦ mine
    | inr given ↦ absurd (false≢true (sym kept ∙ All-contains (λ m. is_delegated m.role ≡ true) (delegated_by models g (links_of models g)) m (delegated_all models g (links_of models g)) given))
  ]

  -- a field that reads another has a formula of its own
  reads_own : AreSingle models → (at b : Step) (g : Gathered) (m : Member) → IsMember models at g m → Reads models at b → is_own_computed m ≡ true
  reads_own single at b g m is reads =
      let path = reads.1.1 in
      subst (λ (x : Member). is_own_computed x ≡ true) (single at path.model g path.member m path.is_member is) path.depends.0

  cycle_reads : (n : ℕ) (at c : Step) → ReachesOver (ReadsAnother models) n at c → (b : Step) × Reads models at b
  cycle_reads zero at c follows = (c, follows.0)
  cycle_reads (suc n) at c follows = (follows.0, follows.1.0)

  circle_reads : (at : Step) → IsCircle models at → (b : Step) × Reads models at b
  circle_reads at (inl cycle) = cycle_reads cycle.0 at at cycle.1
  circle_reads at (inr itself) = (at, itself.0)

  chain_reads : (n : ℕ) (at : Step) → HasChain (ReadsAnother models) (suc n) at → (b : Step) × Reads models at b
  chain_reads n at chain = (chain.0, chain.1.0)

  chain_own : AreSingle models → (at : Step) (g : Gathered) (m : Member) → IsMember models at g m → (w : Wrong) → IsChainWrong models at m w → is_own_computed m ≡ true
  chain_own single at g m is wrong.Cycle circle = let r = circle_reads at circle in reads_own single at r.0 g m is r.1
  chain_own single at g m is wrong.Recursion itself = reads_own single at at g m is itself.0
  chain_own single at g m is wrong.Limit long = let r = chain_reads max_stratum at long.0 in reads_own single at r.0 g m is r.1
  chain_own single at g m is _ other = absurd other

module _ (defs : List ModelDef) where
  abbrev models : List Gathered
  models = gathered defs

  abbrev place : ModelNo → Member → Place
  place number m = record { models = models; number = number; member = m }

  -- ---- what is told is a fault

  told : (what why : SchemaFault) → why ≡ what → IsFieldFault defs what → IsFieldFault defs why
  told what why is faulty = subst (λ (y : SchemaFault). IsFieldFault defs y) (sym is) faulty

  module _ (number : ModelNo) (g : Gathered) (m : Member) (known : model_at (gathered defs) number.0 ≡ Some g) (among : Contains (own_members (gathered defs) g) m ⊎ Contains (hidden_members g) m) where
    at_spot : (P : Place → Gathered → Type 0) → P (place number m) g → AtField defs (spot_of m) P
    at_spot P is = record { model = g; number = number; member = m; there = known; among = among; entry = refl; name = refl; holds = is }

    key_wrong : (w : Wrong) → AreKeysWrong (place number m) w → IsFieldFault defs (fault_at w (spot_of m))
    key_wrong wrong.Model is = at_spot _ is
    key_wrong wrong.Field (inl inverse) = at_spot _ (inl inverse)
    key_wrong wrong.Field (inr mirror) = at_spot _ (inr (inl mirror))
    key_wrong wrong.Kind is = at_spot _ (inl is)
    key_wrong wrong.Inverse is = at_spot _ is
    key_wrong _ is = absurd is

    formula_wrong : (w : Wrong) → IsFormulaWrong (place number m) w → IsFieldFault defs (fault_at w (spot_of m))
    formula_wrong wrong.Field (inl unknown) = at_spot _ (inr (inr (inl unknown)))
    formula_wrong wrong.Field (inr path) = at_spot _ (inr (inr (inr path)))
    formula_wrong wrong.Kind is = at_spot _ (inr is)
    formula_wrong wrong.Path is = at_spot _ is
    formula_wrong wrong.Limit (inl text) = at_spot _ (inl text)
    formula_wrong wrong.Limit (inr path) = at_spot _ (inr (inl path))
    formula_wrong (wrong.Text why) is = at_spot _ is
    formula_wrong _ is = absurd is

    chain_wrong : (at : Step) → IsFieldAt (place number m) g at → (w : Wrong) → IsChainWrong models at m w → IsFieldFault defs (fault_at w (spot_of m))
    chain_wrong at here wrong.Cycle is = at_spot _ (at, here, is)
    chain_wrong at here wrong.Recursion is = at_spot _ (at, here, is.0, is.1, is.2)
    chain_wrong at here wrong.Limit is = at_spot _ (inr (inr (at, here, is)))
    chain_wrong at here _ is = absurd is

  pub members_faulty : (number : ModelNo) (g : Gathered) → model_at models number.0 ≡ Some g → (why : SchemaFault) → AreMemberFaults models number g why → IsFieldFault defs why
  members_faulty number g known why faults =
      let found = there_any (λ m. IsFieldKeyFault (place number m) why) (own_members models g ++ hidden_members g) faults in
      let among = Contains-append_cases (own_members models g) (hidden_members g) found.0 found.1 in
      told (fault_at found.2.0 (spot_of found.0)) why found.2.2 (key_wrong number g found.0 known among found.2.0 found.2.1)

  named_among : (g : Gathered) (m : Member) → is_own_computed m ≡ true → Contains (members_of models g) m ⊎ Contains (hidden_members g) m → Contains (own_members models g) m ⊎ Contains (hidden_members g) m
  named_among g m computed (inl among) = inl (own_among models g m among (own_kept m computed))
  named_among g m computed (inr hidden) = inr hidden

  pub formulas_faulty : (why : SchemaFault) → AreFormulaFaults models why → IsFieldFault defs why
  formulas_faulty why (number, g, known, faults) =
      let found = there_any (λ m. IsFormulaFault (place number m) why) (members_of models g ++ hidden_members g) faults in
      let computed = formula_computed (place number found.0) found.2.0 found.2.1 in
      let among = named_among g found.0 computed (Contains-append_cases (members_of models g) (hidden_members g) found.0 found.1) in
      told (fault_at found.2.0 (spot_of found.0)) why found.2.2 (formula_wrong number g found.0 known among found.2.0 found.2.1)

  pub steps_faulty : AreSingle models → (why : SchemaFault) → IsStepFault models (IsChainWrong models) why → IsFieldFault defs why
  steps_faulty single why (at, g, m, is, (w, wrong, same)) =
      let parts = member_parts models at g m is in
      let computed = chain_own models single at g m is w wrong in
      let among = named_among g m computed (elim parts.1 as (λ _. Contains (members_of models g) m ⊎ Contains (hidden_members g) m) [ inl n ↦ inl n.0 | inr h ↦ inr h.0 ]) in
      told (fault_at w (spot_of m)) why same (chain_wrong at.model g m parts.0 among at (refl, is) w wrong)

  -- ---- a fault is told

  module _ (spot : Spot) (P : Place → Gathered → Type 0) (at : AtField defs spot P) where
    abbrev own : Place
    own = record { models = gathered defs; number = at.number; member = at.member }

    here : (w : Wrong) → fault_at w spot ≡ fault_at w (spot_of at.member)
    here w = ap (λ (s : Spot). fault_at w s) (sym (spot_is spot at.member.entry at.member.def.name at.entry at.name))

    kept : Contains (own_members models at.model ++ hidden_members at.model) at.member
    kept = elim at.among as (λ _. Contains (own_members models at.model ++ hidden_members at.model) at.member) [
      | inl mine ↦ Contains-append_left (own_members models at.model) (hidden_members at.model) at.member mine
      | inr hidden ↦ Contains-append_right (own_members models at.model) (hidden_members at.model) at.member hidden
    ]

    all : Contains (members_of models at.model ++ hidden_members at.model) at.member
    all = elim at.among as (λ _. Contains (members_of models at.model ++ hidden_members at.model) at.member) [
      | inl mine ↦ Contains-append_left (members_of models at.model) (hidden_members at.model) at.member
          (Contains-append_left (own_members models at.model) (delegated_by models at.model (links_of models at.model)) at.member mine)
      | inr hidden ↦ Contains-append_right (members_of models at.model) (hidden_members at.model) at.member hidden
    ]

    pub keys_told : (w : Wrong) → AreKeysWrong own w → AreKeyFaults models (fault_at w spot)
    keys_told w is = (
      at.number,
      at.model,
      at.there,
      inr (
          any_there (λ m. IsFieldKeyFault (place at.number m) (fault_at w spot)) (own_members models at.model ++ hidden_members at.model) at.member kept (w, is, here w)),
    )

    pub formulas_told : (w : Wrong) → IsFormulaWrong own w → AreFormulaFaults models (fault_at w spot)
    formulas_told w is = (
      at.number,
      at.model,
      at.there,
      any_there (λ m. IsFormulaFault (place at.number m) (fault_at w spot)) (members_of models at.model ++ hidden_members at.model) at.member all (w, is, here w),
    )

    pub steps_told : (step : Step) → IsFieldAt own at.model step → (w : Wrong) → IsChainWrong models step at.member w → IsStepFault models (IsChainWrong models) (fault_at w spot)
    steps_told step field w is = (step, at.model, at.member, field.1, (w, is, here w))
