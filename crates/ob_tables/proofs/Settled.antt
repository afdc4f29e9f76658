-- All cells after enough steps: computed ones by their strata, a delegated one after the one behind its link.
use Rattle.std.proofs.Common.{◌≡◌, inl, inr, ℕ, suc, ◌+◌, ◌*◌, ◌<◌, ◌≤◌, true, false, List, [], Some, Result, refl, sym, ap, subst, ◌∙◌, arith}
use Rattle.std.specs.Prelude.{Any, IsSomeAnd}
use Rattle.ob_base.specs.declared.id.Cell.{Cell}
use Rattle.ob_base.specs.declared.id.FieldNo.{FieldNo}
use Rattle.ob_base.specs.declared.id.ModelNo.{ModelNo}
use Rattle.ob_base.specs.declared.value.Value.{Value}
use Rattle.ob_definition.specs.declared.field_type.FieldType.TheVariants as type
use Rattle.ob_definition.specs.declared.field_type.OnDelete.TheVariants as ondelete
use Rattle.ob_expr.specs.Computing.{Lack}
use Rattle.ob_schema.specs.declared.info.Delegation.{Delegation}
use Rattle.ob_schema.specs.declared.info.FieldInfo.{FieldInfo}
use Rattle.ob_schema.specs.declared.info.Formula.{Formula}
use Rattle.ob_schema.specs.declared.info.ModelInfo.{ModelInfo}
use Rattle.ob_schema.specs.declared.info.Origin.{Origin}
use Rattle.ob_schema.specs.declared.info.Origin.TheVariants as origin
use Rattle.ob_schema.specs.declared.info.ParentInfo.{ParentInfo}
use Rattle.ob_schema.specs.Models.{HasKeysOf, IsDelegatedIn, IsOriginIn, IsParentIn, IsPlainTo, IsRegistry, field_at, is_delegated_from, is_given_from, model_at}
use Rattle.ob_schema.proofs.CallerLemmas.{Any-none}
use Rattle.ob_schema.specs.Tied.{IsTied}
use Rattle.ob_schema.specs.Tables.{Fits, Tables}
use Rattle.ob_schema.specs.Val.{IsVal, behind, value_by, value_in}
use Rattle.ob_tables.proofs.Along.{plain_is}
use Rattle.ob_tables.proofs.Heights.{computed_settles}
use Rattle.ob_tables.proofs.KnownFields.{Any-at_all, Field, Field-at, known_at, some_or_none, told_and}
use Rattle.ob_tables.proofs.Stable.{Rules, Settles, deep_less, law-deep, settles_rules, value_in-deep}
use Rattle.ob_tables.proofs.Expressions.{AreLaws}

-- what is known of a delegated field: a plain link to the parent, and a field there that isn't delegated
pub record Behind (models : List ModelInfo) (model : ModelNo) (at : Delegation) : Type 0 where
  pub link : FieldInfo
  pub link_at : field_at models model at.link ≡ Some link
  pub plain : link.origin ≡ origin.Plain
  pub leads : link.relation ≡ Some at.model
  pub target : FieldInfo
  pub target_at : field_at models at.model at.field ≡ Some target
  pub own : is_delegated_from target.origin ≡ false

-- a delegated field of a registry has these
pub Behind-at : (models : List ModelInfo) (model : ModelNo) (number : FieldNo) (f : FieldInfo) (at : Delegation) → IsRegistry models → field_at models model number ≡ Some f → f.origin ≡ origin.Delegated at
    → Behind models model at
Behind-at models model number f at registry found is =
    let field = Field-at models model number f registry found in
    let right : IsDelegatedIn models field.info f at = subst (λ (o : Origin). IsOriginIn models model field.info f o) is field.right.origin in
    let one = Any-at_all (λ (parent : ParentInfo). (parent.link ≡ at.link) × (parent.model ≡ at.model)) (IsParentIn models model) field.info.inherits field.valid.parents right.link in
    let P : FieldInfo → Type 0 = λ field. IsPlainTo one.0.model field × (field.field_type ≡ type.Many2one) × (field.required ≡ true) × (field.ondelete ≡ ondelete.Cascade) in
    let t = told_and (field_at models model one.0.link) P one.2.link in
    let to = told_and (field_at models at.model at.field) (λ other. HasKeysOf other f) right.target in
    record {
      link = t.0;
      link_at = ap (λ (n : FieldNo). field_at models model n) (sym one.1.0) ∙ t.1;
      plain = plain_is t.0.origin t.2.0.plain;
      leads = t.2.0.leads ∙ ap Some one.1.1;
      target = to.0;
      target_at = to.1;
      own = by to.0 (Field-at models at.model at.field to.0 registry to.1) one.0 one.1.1 one.2.single to.0.origin refl;
    }
  where
    by : (g : FieldInfo) → Field models at.model at.field g → (parent : ParentInfo) → parent.model ≡ at.model → IsSomeAnd (model_at models parent.model) (λ info. info.inherits ≡ [])
        → (o : Origin) → g.origin ≡ o → is_delegated_from g.origin ≡ false
    by g there parent same single origin.Id is = ap is_delegated_from is
    by g there parent same single origin.Plain is = ap is_delegated_from is
    by g there parent same single (origin.Computed formula) is = ap is_delegated_from is
    by g there parent same single (origin.Delegated on) is =
        let right : IsDelegatedIn models there.info g on = subst (λ (o : Origin). IsOriginIn models at.model there.info g o) is there.right.origin in
        let none = known_at (model_at models parent.model) there.info (λ info. info.inherits ≡ []) (ap (λ (m : ModelNo). model_at models m) same ∙ there.model_is) single in
        let Q : ParentInfo → Type 0 = λ parent. (parent.link ≡ on.link) × (parent.model ≡ on.model) in
        absurd (Any-none Q (subst (λ (l : List ParentInfo). Any Q l) none right.link))

module _ (models : List ModelInfo) (tables : Tables) (Good : ℕ → Cell → Type 0) (rules : Rules models tables Good) (registry : IsRegistry models) (fits : Fits models tables) (tied : IsTied models tables)
    (s : ℕ) (top : (c : Cell) (f : FieldInfo) (formula : Formula) → field_at models c.model c.field ≡ Some f → f.origin ≡ origin.Computed formula → formula.stratum < s) where
  -- a cell of a field that isn't delegated
  own_good : (c : Cell) (f : FieldInfo) → field_at models c.model c.field ≡ Some f → is_delegated_from f.origin ≡ false → Good (64 * s + 1) c
  own_good c f at own = by f.origin refl own
    where
      given : is_given_from f.origin ≡ true → Good (64 * s + 1) c
      given is = rules.later 1 (64 * s + 1) c (omega arith) (rules.given 0 c f at is)

      by : (o : Origin) → f.origin ≡ o → is_delegated_from o ≡ false → Good (64 * s + 1) c
      by origin.Id is own = given (ap is_given_from is)
      by origin.Plain is own = given (ap is_given_from is)
      by (origin.Delegated to) is own = absurd cc
      by (origin.Computed formula) is own = computed_settles models tables Good rules registry fits tied s c f formula at is (top c f formula at is)

  -- each cell
  pub all_good : (n : ℕ) → 64 * s + 2 ≤ n → (c : Cell) → Good n c
  all_good n high c = elim (some_or_none (field_at models c.model c.field)) [
    | inl none ↦ rules.later 1 n c (omega arith) (rules.unknown 0 c none)
    | inr some ↦ by some.0 some.1 some.0.origin refl
  ]
    where
      own_one : (f : FieldInfo) → field_at models c.model c.field ≡ Some f → is_delegated_from f.origin ≡ false → Good n c
      own_one f at own = rules.later (64 * s + 1) n c (omega arith) (own_good c f at own)

      by : (f : FieldInfo) → field_at models c.model c.field ≡ Some f → (o : Origin) → f.origin ≡ o → Good n c
      by f at origin.Id is = own_one f at (ap is_delegated_from is)
      by f at origin.Plain is = own_one f at (ap is_delegated_from is)
      by f at (origin.Computed formula) is = own_one f at (ap is_delegated_from is)
      by f at (origin.Delegated to) is =
          let known = Behind-at models c.model c.field f to registry at is in
          rules.later (suc (64 * s + 1)) n c (omega arith)
          (rules.delegated (64 * s + 1) c f to (omega arith) at is
          (rules.later 1 (64 * s + 1) (record c { field = to.link }) (omega arith) (rules.given 0 (record c { field = to.link }) known.link known.link_at (ap is_given_from known.plain)))
          (λ id. own_good (behind models tables to id) known.target known.target_at known.own))

module _ (laws : AreLaws) (models : List ModelInfo) (tables : Tables) (registry : IsRegistry models) (fits : Fits models tables) (tied : IsTied models tables)
    (s : ℕ) (top : (c : Cell) (f : FieldInfo) (formula : Formula) → field_at models c.model c.field ≡ Some f → f.origin ≡ origin.Computed formula → formula.stratum < s) where
  -- so many steps give what one more gives
  pub steps_give : (n : ℕ) → 64 * s + 2 ≤ n → IsVal models tables (value_in models tables n)
  steps_give n high cell =
      all_good models tables (Settles models tables) (settles_rules laws models tables) registry fits tied s top n high cell (value_in models tables n)
      (value_by models tables (value_in models tables n)) (value_in-deep models tables n)
      (deep_less models tables n (suc n) (value_by models tables (value_in models tables n)) (omega arith) (value_in models tables n, value_in-deep models tables n, λ c. refl))

  -- and no others have that law
  pub only_steps : (n : ℕ) → 64 * s + 2 ≤ n → (values : Cell → Result Value Lack) → IsVal models tables values → (cell : Cell) → values cell ≡ value_in models tables n cell
  only_steps n high values law cell =
      all_good models tables (Settles models tables) (settles_rules laws models tables) registry fits tied s top n high cell values (value_in models tables n) (law-deep models tables n values law) (value_in-deep models tables n)
