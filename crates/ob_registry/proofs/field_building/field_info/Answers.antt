-- A field as it is made from its definition.
use Rattle.std.proofs.Common.{◌||◌, rules, Bool, not, ap, sym, ◌∙◌}
use Rattle.ob_definition.specs.Definitions.{is_set}
use Rattle.ob_schema.specs.Formulas.{Place}
use Rattle.ob_registry.specs.ModelFields.{member_of}
use Rattle.ob_registry.proofs.Origins.{named_back-number}
use Rattle.ob_registry.proofs.field_building.field_info.Goals.{then-not-is_computed, else-not-is_computed}
use Rattle.ob_registry.proofs.field_building.field_info.Goals as goal

pub returns-clause-of : goal.returns-clause-of
returns-clause-of c = λ g number place placed.
    let def = c.args.member.now.def.now in
    let at : Place = record { models = c.args.models.now; number = number; member = member_of c.args.member.now } in
    record {
      name = search rules;
      field_type = search rules;
      origin = c.origin_of.ensures g number place placed;
      string = search rules;
      required = search rules;
      default = search rules;
      store = elim c.if-not-is_computed.branch [
        | then-not-is_computed w ↦ w.result-is ∙ ap not w.if-not-is_computed.true ∙ sym (ap (λ (b : Bool). not b || is_set def.store) (sym c.is_computed.ensures ∙ w.if-not-is_computed.true))
        | else-not-is_computed w ↦ w.result-is ∙ w.is_set-else-not-is_computed.ensures ∙ sym (ap (λ (b : Bool). not b || is_set def.store) (sym c.is_computed.ensures ∙ w.if-not-is_computed.false))
      ];
      recursive = search rules;
      relation = search rules;
      inverse = c.back_number.ensures ∙ named_back-number at def.inverse placed.resolved.inverse;
      mirror = c.back_number-2.ensures ∙ named_back-number at def.mirror placed.resolved.mirror;
      ondelete = search rules;
      selection = search rules;
      groups = search rules;
      managed = search rules;
      fixed = search rules;
      secret = search rules;
    }
