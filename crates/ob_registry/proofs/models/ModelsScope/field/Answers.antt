-- A name stands for the field at its number.
use Rattle.std.proofs.Common.{◌≡◌, Bool, Option, Some, None, option_map, sym, ap, ◌∙◌}
use Rattle.ob_base.specs.declared.id.FieldNo.{FieldNo}
use Rattle.ob_base.specs.declared.id.ModelNo.{ModelNo}
use Rattle.ob_schema.specs.Finds.{is_usable}
use Rattle.ob_registry.specs.ModelFields.{member_of, role_of}
use Rattle.ob_registry.proofs.ScopeFields.{among_at, found_behind, found_delegated, found_missing, found_no_kind, found_of_kind, found_own, named_at, named_missing, not_delegated, number_at_name, some_and, stands_at}
use Rattle.ob_registry.proofs.models.ModelsScope.field.Goals as goal
use Rattle.ob_registry.proofs.models.ModelsScope.field.Goals.{in-Delegated+in_ok-delegation-in-Delegated, in_default}

pub returns-in_err-number : goal.returns-in_err-number
returns-in_err-number c =
    let models = c.args.self.now in
    let of = some_and _ c.in_ok-model.ensures.there in
    let none = named_missing models of.0 c.in_ok-model.model.now of.2 c.args.name.now (sym c.in_err-number.ensures.at) in
    c.from_residual-in_err-number.ensures ∙ sym (found_missing models of.0 c.args.model c.args.name.now of.1 none)

pub returns-in_err-kind : goal.returns-in_err-kind
returns-in_err-kind c =
    let models = c.args.self.now in
    let of = some_and _ c.in_ok-model.ensures.there in
    let m = member_of c.member-member.result.now in
    let number = c.in_ok-number.ensures in
    let there = named_at models of.0 c.in_ok-model.model.now of.2 c.args.name.now c.in_ok-number.number m (sym number.at) number.low number.within c.member-member.ensures in
    c.from_residual-in_err-kind.ensures ∙ sym (found_no_kind models of.0 c.args.model c.args.name.now m of.1 there (sym c.in_err-kind.ensures))

pub returns-in_err-delegation-in-Delegated : goal.returns-in_err-delegation-in-Delegated
returns-in_err-delegation-in-Delegated c =
    let models = c.args.self.now in
    let of = some_and _ c.in_ok-model.ensures.there in
    let m = member_of c.member-member.result.now in
    let number = c.in_ok-number.ensures in
    let model = c.in_ok-model.model.now in
    let there = named_at models of.0 model of.2 c.args.name.now c.in_ok-number.number m (sym number.at) number.low number.within c.member-member.ensures in
    let among = among_at models of.0 model of.2 c.args.name.now c.in_ok-number.number m (sym number.at) number.low number.within c.member-member.ensures in
    let role = ap role_of c.in-Delegated.is in
    let found = found_of_kind models of.0 c.args.model c.args.name.now m c.in_ok-kind.kind of.1 there (sym c.in_ok-kind.ensures) in
    let stands = found_delegated models of.0 m c.in_ok-kind.kind c.in-Delegated.through.now among role in
    c.from_residual-in_err-delegation-in-Delegated.ensures ∙ sym (found ∙ stands ∙ ap (option_map (found_behind models of.0 m.def c.in_ok-kind.kind)) (sym (c.in_err-delegation-in-Delegated.ensures of.0 of.2)))

pub returns : goal.returns
returns c =
    let models = c.args.self.now in
    let of = some_and _ c.in_ok-model.ensures.there in
    let m = member_of c.member-member.result.now in
    let number = c.in_ok-number.ensures in
    let model = c.in_ok-model.model.now in
    let there = named_at models of.0 model of.2 c.args.name.now c.in_ok-number.number m (sym number.at) number.low number.within c.member-member.ensures in
    let found = found_of_kind models of.0 c.args.model c.args.name.now m c.in_ok-kind.kind of.1 there (sym c.in_ok-kind.ensures) in
    let via = λ (v : Option (FieldNo × ModelNo) × FieldNo) (e : c.match-member.via ≡ v). ap (λ (x : Option (FieldNo × ModelNo) × FieldNo). Some (stands_at x c.in_ok-kind.kind c.is_usable-usable.result)) e in
    let usable = λ (v : Option (FieldNo × ModelNo) × FieldNo). ap (λ (u : Bool). Some (stands_at v c.in_ok-kind.kind u)) c.is_usable-usable.ensures in
    elim c.match-member.branch [
      | in-Delegated+in_ok-delegation-in-Delegated w ↦
          (let among = among_at models of.0 model of.2 c.args.name.now c.in_ok-number.number m (sym number.at) number.low number.within c.member-member.ensures in
          let d = w.in_ok-delegation-in-Delegated.delegation in
          let stands = found_delegated models of.0 m c.in_ok-kind.kind w.in-Delegated.through.now among (ap role_of w.in-Delegated.is) in
          via (Some (d.link, d.model), d.field) w.via-is ∙ usable (Some (d.link, d.model), d.field)
          ∙ sym (found ∙ stands ∙ ap (option_map (found_behind models of.0 m.def c.in_ok-kind.kind)) (sym (w.in_ok-delegation-in-Delegated.ensures of.0 of.2))))
      | in_default w ↦
          (let numbered = number_at_name models of.0 model of.2 c.args.name.now c.in_ok-number.number m (sym number.at) number.low number.within c.member-member.ensures in
          let stands = found_own models of.0 m.def c.in_ok-kind.kind m.role (not_delegated c.member-member.result.now.role w.in_default.not-Delegated) in
          via (None, c.in_ok-number.number) w.via-is ∙ usable (None, c.in_ok-number.number) ∙ ap (λ (n : FieldNo). Some (stands_at (None, n) c.in_ok-kind.kind (is_usable m.def))) numbered ∙ sym (found ∙ stands))
    ]
