use Rattle.std.proofs.Common.{rules, ◌≡◌, List, ap, subst, ◌∙◌}
use Rattle.std.proofs.lemmas.List.{take_all}
use Rattle.std.specs.Str.{bytes_eq}
use Rattle.ob_definition.specs.declared.by_name.FieldEntry.{FieldEntry}
use Rattle.ob_definition.specs.ByName.{declared_fields}
use Rattle.ob_definition.specs.Findings.{Adds}
use Rattle.ob_definition.specs.Gathered.{Declared, Gathered}
use Rattle.ob_definition.specs.Making.{TakesPath}
use Rattle.ob_definition.specs.Members.{path_name}
use Rattle.ob_definition.proofs.MadePaths.{taken-more, taken-none}
use Rattle.ob_definition.proofs.made.taken_path.Goals as goal

pub loop-field-init : goal.loop-field-init
loop-field-init c = taken-none c.args.first.now

pub loop-field-preserved : goal.loop-field-preserved
loop-field-preserved c =
    let test : c.eq-is_path.result ≡ bytes_eq c.field-item.result.def.now.name path_name = search rules in
    let told = rw c.then_some.ensures at c.in_ok-at_field.ensures.found in
    taken-more c.as_slice-field-items.result.now c.loop-field.field-index c.field-item.result c.eq-is_path.result c.args.first.now c.loop-field.first c.at_field.new.self c.loop-field-test.true c.field-item.is test
    c.loop-field.invariant told

pub returns : goal.returns
returns c =
    let items = c.as_slice-field-items.result.now in
    let same : declared_fields items ≡ c.args.model.now.fields = c.as_slice-field-items.ensures ∙ ap (λ (g : Gathered). g.fields) c.model.view_is in
    subst (λ (fs : List Declared). Adds (TakesPath fs) c.args.first.now c.loop-field.first) same
    (subst (λ (es : List FieldEntry). Adds (TakesPath (declared_fields es)) c.args.first.now c.loop-field.first) (take_all c.loop-field.field-index items c.loop-field-test.false) c.loop-field.invariant)
