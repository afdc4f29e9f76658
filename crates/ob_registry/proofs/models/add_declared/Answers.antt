use Rattle.std.proofs.Common.{◌++◌, ◌≤◌, List, length, map, ap, ◌∙◌, arith}
use Rattle.std.proofs.lemmas.List.{take_all}
use Rattle.ob_definition.specs.declared.by_name.FieldEntry.{FieldEntry}
use Rattle.ob_definition.specs.Gathered.{Declared, Gathered, field_at}
use Rattle.ob_definition.specs.Members.{Member, own_member}
use Rattle.ob_definition.proofs.CallerLemmas.{map_map}
use Rattle.ob_registry.specs.ModelFields.{members_in}
use Rattle.ob_registry.proofs.models.add_declared.Goals as goal

pub returns : goal.returns
returns c =
    let own = λ (f : Declared). own_member f.entry f.def in
    let items = c.as_slice-field-items.result.now in
    let past : length items ≤ c.loop-field.field-index = omega arith in
    let all = ap (λ (l : List FieldEntry). map (λ f. own_member f.entry f.def.now) l) (take_all c.loop-field.field-index items past) in
    let viewed = map_map (λ (f : FieldEntry). field_at f.entry f.def.now) own items in
    let fields = c.as_slice-field-items.ensures ∙ ap (λ (g : Gathered). g.fields) c.gathered.view_is in
    c.loop-field.invariant ∙ ap (λ (l : List Member). members_in c.args.members.now.items ++ l) (all ∙ viewed ∙ ap (map own) fields)
