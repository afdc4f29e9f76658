-- A delegated field has its value behind its link; what is left without a formula is plain.
use Rattle.std.proofs.Common.{◌≡◌, false, List, refl, ap, sym, ◌∙◌, ℕ}
use Rattle.std.proofs.lemmas.Option.{MatchOption-at_none}
use Rattle.std.specs.Borrow.{Bor}
use Rattle.std.specs.Str.{bytes_eq}
use Rattle.std.specs.Prelude.{codes}
use Rattle.ob_definition.specs.declared.definition.Inherits.{Inherits}
use Rattle.ob_definition.specs.Members.{own, delegated, hidden, is_own_computed}
use Rattle.ob_registry.specs.declared.model.Role.{Role as KeptRole}
use Rattle.ob_registry.specs.declared.model.Role.TheVariants as kept
use Rattle.ob_registry.specs.ModelFields.{member_of, role_of}
use Rattle.ob_schema.specs.Paths.{step_at}
use Rattle.ob_registry.proofs.Origins.{IsDelegation-from, delegated_there, plain_own}
use Rattle.ob_registry.proofs.field_building.origin_of.Goals as goal
use Rattle.ob_registry.proofs.field_building.origin_of.Goals.{in-Delegated+in_default-delegation, in_default}

by_role : (r : KeptRole) (i : Inherits) → role_of r ≡ delegated i → ((x : Bor Inherits) → r ≡ kept.Delegated x → ⊥) → ⊥
by_role kept.Own i e none = let both : own ≡ delegated i = e in cc
by_role (kept.Delegated x) i e none = none x refl
by_role kept.Hidden i e none = let both : hidden ≡ delegated i = e in cc

pub returns-in-Some : goal.returns-in-Some
returns-in-Some c = λ g number place placed.
    IsDelegation-from c.args.models.now g (member_of c.args.member.now) c.in-Delegated.link.now c.in-Some.delegation (ap role_of c.in-Delegated.is) (sym (c.in-Some.ensures g placed.modelled))

pub returns-in-None-2 : goal.returns-in-None-2
returns-in-None-2 c = λ g number place placed.
    let models = c.args.models.now in
    let m = member_of c.args.member.now in
    let given : is_own_computed m ≡ false = MatchOption-at_none _ _ (sym c.formula_from.ensures ∙ c.in-None-2.is) placed.formula in
    let other : bytes_eq m.def.name (codes "id") ≡ false = ap (λ (n : List ℕ). bytes_eq n (codes "id")) (sym c.as_str.ensures) ∙ sym c.if-eq.ensures in
    plain_own models (step_at number place) g m placed.member given other (λ i role. elim c.match-member.branch [
      | in-Delegated+in_default-delegation w ↦
          (let link : Inherits = w.in-Delegated.link.now in
          let at = delegated_there models (step_at number place) g m link placed.member (ap role_of w.in-Delegated.is) in
          w.in_default-delegation.not-Some at.0 (w.delegation.ensures g placed.modelled ∙ at.1))
      | in_default w ↦ by_role c.args.member.now.role i role w.in_default.not-Delegated
    ])
