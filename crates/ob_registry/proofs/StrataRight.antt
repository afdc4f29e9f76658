-- A computed field of the registry reads others of lower strata alone, and itself along its tree.
use Rattle.std.proofs.Common.{◌≡◌, ◌≢◌, ◌⊎◌, ◌++◌, ◌<◌, ◌≤◌, ℕ, Bool, true, false, not, Option, Some, None, option_map, List, [], ◌∷◌, length, get_or, inl, inr, refl, sym, ap, subst, ◌∙◌}
use Rattle.std.specs.Prelude.{All, Contains, IfSome, IsSomeAnd, option_and_then}
use Rattle.std.proofs.lemmas.Bool.{and_parts, cases_lt, false≢true}
use Rattle.std.proofs.lemmas.List.Elements.{All-cons, All-contains, All-contains_itself, All-head, All-nil, All-tail, All-weaker}
use Rattle.std.proofs.lemmas.Option.{none-some, same_Some}
use Rattle.ob_base.specs.Limits.{max_path_steps}
use Rattle.ob_base.specs.declared.id.FieldNo.{FieldNo}
use Rattle.ob_base.specs.declared.id.ModelNo.{ModelNo}
use Rattle.ob_expr.specs.TypedTree.{typed_tree_of}
use Rattle.ob_definition.specs.declared.field_type.FieldType.{FieldType}
use Rattle.ob_definition.specs.declared.field_type.FieldType.TheVariants as type
use Rattle.ob_definition.specs.declared.wrong.Wrong.TheVariants as wrong
use Rattle.ob_definition.specs.Definitions.{is_computed, is_set}
use Rattle.ob_definition.specs.Findings.{fault_at}
use Rattle.ob_definition.specs.Gathered.{Gathered}
use Rattle.ob_definition.specs.Members.{Member, is_delegated, members_of, model_at, named, number_named, number_of}
use Rattle.ob_definition.specs.Types.{is_one2many}
use Rattle.ob_schema.specs.declared.info.FieldInfo.{FieldInfo}
use Rattle.ob_schema.specs.declared.info.Formula.{Formula}
use Rattle.ob_schema.specs.declared.info.ModelInfo.{ModelInfo}
use Rattle.ob_schema.specs.declared.info.Origin.TheVariants as origin
use Rattle.ob_schema.specs.declared.info.Path.{Path}
use Rattle.ob_schema.specs.declared.info.Step.{Step}
use Rattle.ob_schema.specs.Built.{IsFormula, IsOrigin, back_number}
use Rattle.ob_schema.specs.Models.{AreSteps, DependsOn, FieldHas, HoldsChildren, IsComputedBy, IsFormulaIn, IsPlainTo, IsStratified, LeadsDown, LeadsOn, LeadsUp, ReachesItselfBy, field_at, is_computed_from, model_at as info_at}
use Rattle.ob_schema.specs.Paths.{step_at}
use Rattle.ob_registry.specs.RegistryOf.{IsFieldFrom, IsRegistryOf}
use Rattle.ob_schema.specs.Strata.{IsComputedAt, IsPathOf, IsRecursion, IsStratum, IsToChildren, IsToParent, Reads, ReadsAnother, ReadsItselfBy, parent_of}
use Rattle.ob_registry.specs.Telling.{spot_of}
use Rattle.ob_registry.proofs.Circles.{HasChain-shorter}
use Rattle.ob_schema.proofs.CallerLemmas.{DependsAtEnd, IsComputedStep, contains-mapped, depends-ends, known_at, known_by, known_on, value_of}
use Rattle.ob_registry.proofs.Depending.{depends_along}
use Rattle.ob_registry.proofs.FieldsRight.{has}
use Rattle.ob_registry.proofs.FormulasIn.{same_step}
use Rattle.ob_registry.proofs.NameOrder.{named_found}
use Rattle.ob_registry.proofs.Stable.{stable_true}
use Rattle.ob_registry.proofs.WithinLimits.{no_circle}

-- ---- what isn't refuted

stable_all : {X : Type 0} (P : X → Type 0) → ((x : X) → ((P x → ⊥) → ⊥) → P x) → (xs : List X) → ((All P xs → ⊥) → ⊥) → All P xs
stable_all P stable xs twice k d within = stable (get_or xs k d) (λ no. twice (λ all. no (all k d within)))

stable_some : {X : Type 0} (P : X → Type 0) → ((x : X) → ((P x → ⊥) → ⊥) → P x) → (o : Option X) → ((IsSomeAnd o P → ⊥) → ⊥) → IsSomeAnd o P
stable_some P stable None twice = absurd (twice (λ is. is))
stable_some P stable (Some x) twice = stable x twice

stable_step : (a b : Step) → ((a ≡ b → ⊥) → ⊥) → a ≡ b
stable_step a b twice = elim (same_step a b) [
  | inl same ↦ same
  | inr other ↦ absurd (twice other)
]

stable_number : (a b : ModelNo) → ((a ≡ b → ⊥) → ⊥) → a ≡ b
stable_number a b twice =
    let field : FieldNo = record { 0 = 0 } in
    ap (λ (s : Step). s.model) (stable_step (step_at a field) (step_at b field) (λ no. twice (λ same. no (ap (λ (n : ModelNo). step_at n field) same))))

stable_field : (o : Option FieldNo) (b : FieldNo) → ((o ≡ Some b → ⊥) → ⊥) → o ≡ Some b
stable_field None b twice = absurd (twice (λ e. none-some b e))
stable_field (Some a) b twice =
    let model : ModelNo = record { 0 = 0 } in
    let same : step_at model a ≡ step_at model b = stable_step (step_at model a) (step_at model b) (λ no. twice (λ e. no (ap (step_at model) (same_Some a b e)))) in
    ap (λ (s : Step). Some s.field) same

stable_relation : (o : Option ModelNo) (b : ModelNo) → ((o ≡ Some b → ⊥) → ⊥) → o ≡ Some b
stable_relation None b twice = absurd (twice (λ e. none-some b e))
stable_relation (Some a) b twice = ap (λ (n : ModelNo). Some n) (stable_number a b (λ no. twice (λ e. no (same_Some a b e))))

one2many : (t : FieldType) → is_one2many t ≡ true → t ≡ type.One2many
one2many type.One2many e = refl
one2many _ e = absurd (false≢true e)

stable_one2many : (t : FieldType) → ((t ≡ type.One2many → ⊥) → ⊥) → t ≡ type.One2many
stable_one2many t twice = one2many t (stable_true (is_one2many t) (λ no. twice (λ e. no (ap is_one2many e))))

-- ---- chains

-- what is read is of a lower stratum
below : (models : List Gathered) (a b : Step) (n m : ℕ) → IsStratum models a n → IsStratum models b m → ReadsAnother models a b → m < n
below models a b n m high low reads = elim (cases_lt m n) [
  | inl less ↦ less
  | inr over ↦ absurd (high.longest (b, reads, HasChain-shorter (ReadsAnother models) m n b over low.chain))
]

-- ---- the steps of trees

named_number : (models : List Gathered) (g : Gathered) (name : List ℕ) (f : FieldNo) → number_named models g name ≡ Some f → number_of models g name ≡ f
named_number models g name f is = by (named (members_of models g) name) refl is
  where
    by : (o : Option Member) → named (members_of models g) name ≡ o → option_map (λ m. number_of models g m.def.name) o ≡ Some f → number_of models g name ≡ f
    by None e n = absurd (none-some f n)
    by (Some m) e n = ap (number_of models g) (sym (named_found (members_of models g) name m e).1) ∙ same_Some (number_of models g m.def.name) f n

-- a tree's parent field
abbrev HoldsParent : ModelNo → FieldInfo → Type 0
HoldsParent number field = IsPlainTo number field × (field.field_type ≡ type.Many2one)

-- a step to rows whose parent field names the row, from rows of any model
abbrev IsDown : List ModelInfo → ModelNo → FieldNo → Step → Type 0
IsDown infos number parent step = FieldHas infos (HoldsChildren number parent) step.model step.field

-- on a path from rows of the model all of them are from its rows
all_down : (infos : List ModelInfo) (number : ModelNo) (parent : FieldNo) (front : List Step) (last : Step) → AreSteps infos number (front ++ last ∷ []) → All (IsDown infos number parent) front
    → All (LeadsDown infos number parent) front
all_down infos number parent [] last steps all = All-nil (LeadsDown infos number parent)
all_down infos number parent (s ∷ []) last steps all = All-cons (LeadsDown infos number parent) s [] (steps.0, down) (All-nil (LeadsDown infos number parent))
  where
    down : FieldHas infos (HoldsChildren number parent) number s.field
    down = subst (λ (n : ModelNo). IsDown infos number parent (step_at n s.field)) steps.0 (All-head (IsDown infos number parent) s [] all)
all_down infos number parent (s ∷ t ∷ front) last steps all =
    All-cons (LeadsDown infos number parent) s (t ∷ front) (steps.0, down)
    (all_down infos number parent (t ∷ front) last (subst (λ (n : ModelNo). AreSteps infos n (t ∷ front ++ last ∷ [])) next steps.2) (All-tail (IsDown infos number parent) s (t ∷ front) all))
  where
    here : IsDown infos number parent s
    here = All-head (IsDown infos number parent) s (t ∷ front) all

    down : FieldHas infos (HoldsChildren number parent) number s.field
    down = subst (λ (n : ModelNo). IsDown infos number parent (step_at n s.field)) steps.0 here

    next : t.model ≡ number
    next =
        let own = value_of (field_at infos s.model s.field) (LeadsOn t.model) steps.1 in
        let leads = known_at (field_at infos s.model s.field) (HoldsChildren number parent) own.0 own.1 here in
        same_Some t.model number (sym own.2.leads ∙ leads.1)

-- ---- the registry

module _ (models : List Gathered) (infos : List ModelInfo) (registry : IsRegistryOf models infos) where
  -- the parent field that definitions name is the registry's
  parent_is : (number : ModelNo) (info : ModelInfo) → info_at infos number ≡ Some info → (f : FieldNo) → parent_of models number ≡ Some f → info.parent ≡ Some f
  parent_is number info at f is =
      let from = registry.model_back number info at in
      let given : option_and_then (number_named models from.model) from.model.parent ≡ Some f =
      sym (ap (λ (o : Option Gathered). option_and_then (λ g. option_and_then (number_named models g) g.parent) o) from.there) ∙ is in
      from.is.parent ∙ by from.model from.model.parent given
    where
      by : (g : Gathered) (o : Option (List ℕ)) → option_and_then (number_named models g) o ≡ Some f → option_map (number_of models g) o ≡ Some f
      by g None e = absurd (none-some f e)
      by g (Some name) e = ap (λ (n : FieldNo). Some n) (named_number models g name f e)

  -- a step to children is one of the registry
  down_is : (number : ModelNo) (info : ModelInfo) → info_at infos number ≡ Some info → (parent : FieldNo) → info.parent ≡ Some parent → (step : Step) → IsToChildren models number step → IsDown infos number parent step
  down_is number info at parent is step to =
      let own = registry.field step.model step.field to.model to.member to.is_member in
      let same : to.parent ≡ parent = same_Some to.parent parent (sym (parent_is number info at to.parent to.is_parent) ∙ is) in
      let back : back_number models to.member.def to.member.def.inverse ≡ Some parent =
      ap (back_number models to.member.def) to.given
      ∙ ap (option_and_then (λ (target : ModelNo). option_map (λ g. number_of models g to.inverse) (model_at models target.0))) to.back
      ∙ by to.inverse to.parent (model_at models number.0) to.leads_back ∙ ap (λ (n : FieldNo). Some n) same in
      has models infos registry step.model step.field to.model to.member own (HoldsChildren number parent)
      (own.is.field_type ∙ to.one2many, own.is.relation ∙ to.back, own.is.inverse ∙ back)
    where
      by : (name : List ℕ) (f : FieldNo) (o : Option Gathered) → option_and_then (λ g. number_named models g name) o ≡ Some f → option_map (λ g. number_of models g name) o ≡ Some f
      by name f None e = absurd (none-some f e)
      by name f (Some g) e = ap (λ (n : FieldNo). Some n) (named_number models g name f e)

  module _ (number : ModelNo) (field : FieldNo) (info : FieldInfo) (formula : Formula) (at : field_at infos number field ≡ Some info) (from : info.origin ≡ origin.Computed formula) where
    abbrev own : Step
    own = step_at number field

    found : IsFieldFrom models number field info
    found = registry.field_back number field info at

    is_formula : IsFormula (record { models = models; number = number; member = found.member }) field formula
    is_formula = subst (IsOrigin (record { models = models; number = number; member = found.member }) found.model field) from found.is.origin

    computed : IsComputedAt models own
    computed = (found.model, found.member, found.is_member, (and_parts (not (is_delegated found.member.role)) (is_computed found.member.def) is_formula.has.computed).1)

    -- its paths are those of its formula
    path_of : (path : Path) → Contains formula.depends path → IsPathOf models own path.steps
    path_of path here = record {
      model = found.model;
      member = found.member;
      is_member = found.is_member;
      depends = depends_along (record { models = models; number = number; member = found.member }) is_formula.tree (typed_tree_of formula.typed) is_formula.has path.steps
          (subst (λ (l : List (List Step)). Contains l path.steps) is_formula.depends (contains-mapped (λ (p : Path). p.steps) formula.depends path here));
    }

    reads : (other : Step) → DependsAtEnd formula other → IsComputedAt models other → Reads models own other
    reads other (k, path, within, is, (front, e)) read = (read, (front, subst (IsPathOf models own) e (path_of path (k, within, is))))

  -- another computed field that it reads is of a lower stratum
  lower_read : (number : ModelNo) (field : FieldNo) (info : FieldInfo) (formula : Formula) → field_at infos number field ≡ Some info → info.origin ≡ origin.Computed formula
      → IsFormulaIn infos number info formula → (other : Step) (theirs : Formula) → DependsOn formula other → step_at number field ≢ other → IsComputedBy infos other theirs → theirs.stratum < formula.stratum
  lower_read number field info formula at from right other theirs depends apart is =
      let read : IsComputedStep infos other =
      known_on (field_at infos other.model other.field) (λ f. f.origin ≡ origin.Computed theirs) (λ f. is_computed_from f.origin ≡ true) (λ f there by. ap is_computed_from by) is in
      let there = value_of (field_at infos other.model other.field) (λ f. f.origin ≡ origin.Computed theirs) is in
      below models (step_at number field) other formula.stratum theirs.stratum
      (is_formula number field info formula at from).stratum
      (is_formula other.model other.field there.0 theirs there.1 there.2).stratum
      (reads number field info formula at from other (depends-ends infos number info formula other right read depends) (computed other.model other.field there.0 theirs there.1 there.2), apart)

  module _ (number : ModelNo) (minfo : ModelInfo) (here : info_at infos number ≡ Some minfo)
      (tree : IfSome minfo.parent (FieldHas infos (HoldsParent number) number))
      (field : FieldNo) (info : FieldInfo) (formula : Formula) (at : field_at infos number field ≡ Some info) (from : info.origin ≡ origin.Computed formula) (is : IsFormulaIn infos number info formula) where
    abbrev own_step : Step
    own_step = step_at number field

    abbrev member : IsFieldFrom models number field info
    member = found number field info formula at from

    -- a path leads to the field itself through such steps, if it does
    abbrev Returns : (Step → Type 0) → Path → Type 0
    Returns Through path = (front : List Step) → path.steps ≡ front ++ own_step ∷ [] → (front ≢ []) × All Through front

    on_path : (Through : Step → Type 0) → ReachesItselfBy Through own_step formula → (path : Path) → Contains formula.depends path → Returns Through path
    on_path Through all path here = All-contains (Returns Through) formula.depends path all here

    stable_reaches : (Through : Step → Type 0) → ((s : Step) → ((Through s → ⊥) → ⊥) → Through s) → ((ReachesItselfBy Through own_step formula → ⊥) → ⊥) → ReachesItselfBy Through own_step formula
    stable_reaches Through stable twice =
        stable_all (Returns Through)
        (λ path each front e. ((λ none. each (λ of. (of front e).0 none)), stable_all Through stable front (λ no. each (λ of. no (of front e).1)))) formula.depends twice

    -- those that definitions have are those of the registry
    reaches : (Through By : Step → Type 0) → ((path : Path) → Contains formula.depends path → (front : List Step) → path.steps ≡ front ++ own_step ∷ [] → All Through front → All By front)
        → ReadsItselfBy models Through own_step → ReachesItselfBy By own_step formula
    reaches Through By to by =
        All-weaker (Contains formula.depends) (Returns By)
        (λ path among front e.
        (let both = by front (subst (IsPathOf models own_step) e (path_of number field info formula at from path among)) in
        (both.0, to path among front e both.1)))
        formula.depends (All-contains_itself formula.depends)

    -- a field that reads itself is a recursion, and says so
    module _ (depends : DependsAtEnd formula own_step) where
      reads_self : Reads models own_step own_step
      reads_self = reads number field info formula at from own_step depends (computed number field info formula at from)

      recursion : (IsRecursion models own_step → ⊥) → ⊥
      recursion never = no_circle models registry.resolved own_step (inr (reads_self, never))

      says : info.recursive ≡ true
      says = member.is.recursive ∙ by (is_set member.member.def.recursive) refl
        where
          by : (b : Bool) → is_set member.member.def.recursive ≡ b → b ≡ true
          by true e = refl
          by false e = absurd (recursion (λ along.
              registry.resolved.chains (fault_at wrong.Recursion (spot_of member.member)) (own_step, member.model, member.member, member.is_member, (wrong.Recursion, (reads_self, along, e), refl))))

      -- the model is a tree
      has_parent : IsRecursion models own_step → (parent : FieldNo) × (minfo.parent ≡ Some parent)
      has_parent along = elim along [
        | inl up ↦ by (IsToParent models number) (λ s to. (s.field, parent_is number minfo here s.field to.1)) up
        | inr down ↦ by (IsToChildren models number) (λ s to. (to.parent, parent_is number minfo here to.parent to.is_parent)) down
      ]
        where
          first : (Through : Step → Type 0) → ((s : Step) → Through s → (parent : FieldNo) × (minfo.parent ≡ Some parent)) → (front : List Step) → front ≢ [] → All Through front → (parent : FieldNo) × (minfo.parent ≡ Some parent)
          first Through leads [] some all = absurd (some refl)
          first Through leads (s ∷ front) some all = leads s (All-head Through s front all)

          by : (Through : Step → Type 0) → ((s : Step) → Through s → (parent : FieldNo) × (minfo.parent ≡ Some parent)) → ReadsItselfBy models Through own_step → (parent : FieldNo) × (minfo.parent ≡ Some parent)
          by Through leads each = let both = each reads_self.1.0 reads_self.1.1 in first Through leads reads_self.1.0 both.0 both.1

      module _ (parent : FieldNo) (parent_at : minfo.parent ≡ Some parent) where
        abbrev Up : Type 0
        Up = ReachesItselfBy (LeadsUp number parent) own_step formula

        abbrev Down : Type 0
        Down = ReachesItselfBy (LeadsDown infos number parent) own_step formula

        up_is : (s : Step) → IsToParent models number s → LeadsUp number parent s
        up_is s to =
            let same : s.field ≡ parent = same_Some s.field parent (sym (parent_is number minfo here s.field to.1) ∙ parent_at) in
            ap (λ (n : ModelNo). step_at n s.field) to.0 ∙ ap (step_at number) same

        up_of : ReadsItselfBy models (IsToParent models number) own_step → Up
        up_of = reaches (IsToParent models number) (LeadsUp number parent) (λ path among front e all. All-weaker (IsToParent models number) (LeadsUp number parent) up_is front all)

        down_of : ReadsItselfBy models (IsToChildren models number) own_step → Down
        down_of = reaches (IsToChildren models number) (LeadsDown infos number parent) (λ path among front e all.
            (let steps = All-contains (λ path. AreSteps infos number path.steps × (length path.steps ≤ max_path_steps)) formula.depends path is.steps among in
            all_down infos number parent front own_step (subst (AreSteps infos number) e steps.0)
            (All-weaker (IsToChildren models number) (IsDown infos number parent) (down_is number minfo here parent parent_at) front all)))

        either : ((Up ⊎ Down) → ⊥) → ⊥
        either never = recursion (λ along. elim along [
          | inl up ↦ never (inl (up_of up))
          | inr down ↦ never (inr (down_of down))
        ])

        stable_down : (s : Step) → ((LeadsDown infos number parent s → ⊥) → ⊥) → LeadsDown infos number parent s
        stable_down s twice = (
          stable_number s.model number (λ no. twice (λ to. no to.0)),
          stable_some (HoldsChildren number parent)
              (λ own not. (
                stable_one2many own.field_type (λ no. not (λ to. no to.0)),
                stable_relation own.relation number (λ no. not (λ to. no to.1)),
                stable_field own.inverse parent (λ no. not (λ to. no to.2)),
              )) (field_at infos number s.field) (λ no. twice (λ to. no to.1)),
        )

        -- no step leads both up and down
        not_both : (s : Step) → LeadsUp number parent s → LeadsDown infos number parent s → ⊥
        not_both s up down =
            let plain : FieldHas infos (HoldsParent number) number parent =
            subst (λ (o : Option FieldNo). IfSome o (FieldHas infos (HoldsParent number) number)) parent_at tree in
            let own = value_of (field_at infos number parent) (HoldsParent number) plain in
            let through : FieldHas infos (HoldsChildren number parent) number parent =
            subst (λ (t : Step). FieldHas infos (HoldsChildren number parent) number t.field) up down.1 in
            let to = known_at (field_at infos number parent) (HoldsChildren number parent) own.0 own.1 through in
            let both : type.Many2one ≡ type.One2many = sym own.2.1 ∙ to.0 in
            cc

        -- the first step tells which
        along : Up ⊎ Down
        along = by depends
          where
            first : (path : Path) → Contains formula.depends path → (front : List Step) → path.steps ≡ front ++ own_step ∷ [] → Up ⊎ Down
            first path among [] e = absurd (either (λ both. elim both [
              | inl up ↦ (on_path (LeadsUp number parent) up path among [] e).0 refl
              | inr down ↦ (on_path (LeadsDown infos number parent) down path among [] e).0 refl
            ]))
            first path among (s ∷ front) e = elim (same_step s (step_at number parent)) [
              | inl leads ↦ inl (stable_reaches (LeadsUp number parent) (λ t. stable_step t (step_at number parent)) (λ no. either (λ both. elim both [
                | inl up ↦ no up
                | inr down ↦ not_both s leads (All-head (LeadsDown infos number parent) s front (on_path (LeadsDown infos number parent) down path among (s ∷ front) e).1)
              ])))
              | inr other ↦ inr (stable_reaches (LeadsDown infos number parent) stable_down (λ no. either (λ both. elim both [
                | inl up ↦ other (All-head (LeadsUp number parent) s front (on_path (LeadsUp number parent) up path among (s ∷ front) e).1)
                | inr down ↦ no down
              ])))
            ]

            by : DependsAtEnd formula own_step → Up ⊎ Down
            by (k, path, within, same, (front, e)) = first path (k, within, same) front e

      along_tree : IsSomeAnd minfo.parent (λ parent. ReachesItselfBy (LeadsUp number parent) own_step formula ⊎ ReachesItselfBy (LeadsDown infos number parent) own_step formula)
      along_tree = by minfo.parent refl
        where
          by : (o : Option FieldNo) → minfo.parent ≡ o → IsSomeAnd o (λ parent. ReachesItselfBy (LeadsUp number parent) own_step formula ⊎ ReachesItselfBy (LeadsDown infos number parent) own_step formula)
          by None e = recursion (λ along. let parent = has_parent along in none-some parent.0 (sym e ∙ parent.1))
          by (Some parent) e = along parent e

    own_computed : IsComputedStep infos own_step
    own_computed = known_by (field_at infos number field) (λ f. is_computed_from f.origin ≡ true) info at (ap is_computed_from from)

    -- a computed field stands above what it reads
    pub stratified : IsStratified infos minfo own_step info formula
    stratified = record {
      lower = lower_read number field info formula at from is;
      itself = λ depends. (let ends = depends-ends infos number info formula own_step is own_computed depends in (says ends, along_tree ends));
    }
