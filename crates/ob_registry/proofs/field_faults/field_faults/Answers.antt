use Rattle.std.proofs.Common.{◌≡◌, ◌∙◌, Bool, true, not, cond, ap}
use Rattle.ob_definition.specs.declared.field_type.FieldType.TheVariants as type
use Rattle.ob_definition.specs.declared.wrong.Wrong.TheVariants as wrong
use Rattle.std.specs.Prelude.{◌&&◌}
use Rattle.ob_definition.specs.Keys.{fits}
use Rattle.ob_definition.specs.Members.{is_own}
use Rattle.ob_definition.specs.Names.{is_field_name}
use Rattle.ob_schema.specs.Formulas.{Place}
use Rattle.ob_registry.specs.ModelFields.{member_of}
use Rattle.ob_registry.specs.Telling.{IsBackWrong}
use Rattle.ob_registry.proofs.FieldRooms.{Adds-keys, keys_told, told_when, told_wrong}
use Rattle.ob_registry.proofs.field_faults.field_faults.Goals as goal
use Rattle.ob_registry.proofs.field_faults.field_faults.Goals.{then-not-fits, else-not-fits}

pub returns : goal.returns
returns c =
    let p : Place = record { models = c.args.models.now; number = c.args.number; member = member_of c.args.member.now } in
    let entry = c.args.member.now.entry in
    let text = c.as_str-name.result.now in
    let name = c.args.member.now.def.now.name in
    let own = is_own p.member.role && not (is_field_name name) in
    let is_wrong : c.if-not-fits.is_wrong ≡ cond (not (fits p.member.def)) true own = elim c.if-not-fits.branch [
      | then-not-fits w ↦ (w.is_wrong-is ∙ ap (λ (b : Bool). not b) w.if-not-fits.true ∙ ap (λ (b : Bool). cond (not b) true own) w.if-not-fits.ensures)
      | else-not-fits w ↦ (w.is_wrong-is ∙ w.has_wrong_name-is_wrong.ensures ∙ ap (λ (b : Bool). cond (not b) true own) w.if-not-fits.ensures)
    ] in
    Adds-keys p c.has_unknown_relation-has_no_model.result c.if-not-fits.is_wrong c.has_unknown_relation-has_no_model.ensures (keys_told p own (fits p.member.def) c.if-not-fits.is_wrong is_wrong)
    c.args.first.now c.at_field.new.self c.at_field-2.new.self c.at_field-3.new.self c.at_field-4.new.self
    (told_when c.then_some.result c.has_unknown_relation-has_no_model.result wrong.Model entry text name _ _ c.then_some.ensures c.as_str-name.ensures c.in_ok-at_field.ensures.found)
    (told_when c.then_some-2.result c.if-not-fits.is_wrong wrong.Kind entry text name _ _ c.then_some-2.ensures c.as_str-name.ensures c.in_ok-at_field-2.ensures.found)
    (told_wrong (IsBackWrong p p.member.def.inverse type.Many2one) c.wrong_back-wrong.result entry text name _ _ c.as_str-name.ensures c.wrong_back-wrong.ensures c.in_ok-at_field-3.ensures.found)
    (told_wrong (IsBackWrong p p.member.def.mirror type.Many2many) c.wrong_back-wrong-2.result entry text name _ _ c.as_str-name.ensures c.wrong_back-wrong-2.ensures c.in_ok-at_field-4.ensures.found)
