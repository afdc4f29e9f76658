-- What the program makes of a model is what its definition says.
use Rattle.std.proofs.Common.{◌≡◌, Option, List, ◌++◌, length, map, ap, sym, subst, ◌∙◌}
use Rattle.std.specs.Prelude.{All, option_and_then, option_map}
use Rattle.std.specs.List.{AllZip}
use Rattle.ob_definition.specs.ByName.{given_order, sets_of}
use Rattle.ob_definition.specs.Gathered.{DeclaredOrder, DeclaredSet, Gathered}
use Rattle.ob_definition.specs.Orders.{Term}
use Rattle.ob_schema.specs.declared.info.FieldInfo.{FieldInfo}
use Rattle.ob_schema.specs.declared.info.OrderTerm.{OrderTerm}
use Rattle.ob_registry.specs.Building.{AreFieldsOf, AreNumbers, HasNativeDefault}
use Rattle.ob_schema.specs.Built.{given_terms}
use Rattle.ob_registry.specs.Faults.{HasUnknown, names_of_terms}
use Rattle.ob_registry.specs.ModelFields.{named_in, number_in}
use Rattle.ob_registry.proofs.ModelBuilt.{model_made}
use Rattle.ob_registry.proofs.building.model_info.Goals as goal
use Rattle.ob_registry.proofs.building.model_info.Goals.{in-Some, in-None}

pub returns-clause-native : goal.returns-clause-native
returns-clause-native c =
    subst (λ (l : List FieldInfo). All HasNativeDefault (l ++ c.hidden.inside.items.items)) (sym c.fields.view_is)
    (subst (λ (l : List FieldInfo). All HasNativeDefault (c.in_ok-fields.fields ++ l)) (sym c.hidden.view_is) c.in_ok-fields.ensures.native)

pub returns-clause-of : goal.returns-clause-of
returns-clause-of c = λ g number placed is_number is resolved.
    let models = c.args.models.now in
    let model = c.args.model.now in
    let front = named_in model.named model.members.items in
    let inside = c.gathered.inside in
    let both : c.fields.inside.items.items ++ c.hidden.inside.items.items ≡ c.in_ok-fields.fields ++ c.in_ok-fields.hidden =
    ap (λ (l : List FieldInfo). l ++ c.hidden.inside.items.items) c.fields.view_is ∙ ap (λ (l : List FieldInfo). c.in_ok-fields.fields ++ l) c.hidden.view_is in
    let view = c.gathered.view_is ∙ is.gathered in
    let parent : option_map (λ text. text.now) inside.parent ≡ g.parent = ap (λ (x : Gathered). x.parent) view in
    let order : given_order inside.order ≡ g.order = ap (λ (x : Gathered). x.order) view in
    let unique : sets_of c.as_slice.result.now ≡ g.unique = ap sets_of c.as_slice.ensures.value ∙ ap (λ (x : Gathered). x.unique) view in
    model_made models g model is resolved number _ is_number
    (record {
      name = c.in_ok-from_text.ensures ∙ ap (λ (x : Gathered). x.name) view;
      managed = ap (λ (x : Gathered). x.managed) view;
      parent = elim c.match-gathered.branch [
        | in-Some w ↦ w.result-is ∙ w.number.ensures.at ∙ ap (λ o. option_and_then (number_in front) (option_map (λ text. text.now) o)) (sym w.in-Some.is) ∙ ap (option_and_then (number_in front)) parent
        | in-None w ↦ w.result-is ∙ ap (λ o. option_and_then (number_in front) (option_map (λ text. text.now) o)) (sym w.in-None.is) ∙ ap (option_and_then (number_in front)) parent
      ];
      links = c.in_ok-parents_of.ensures.links g is;
      parents = c.in_ok-parents_of.ensures.models g is;
      unique = subst (λ (sets : List DeclaredSet). AllZip (λ u. AreNumbers front u.names) sets c.in_ok-unique_sets.field-0) unique c.in_ok-unique_sets.ensures;
      order = subst (λ (o : Option DeclaredOrder). AreNumbers front (names_of_terms (given_terms o)) (map (λ (t : OrderTerm). t.field) c.in_ok-order_of.field-0)) order c.in_ok-order_of.ensures.fields;
      directions = subst (λ (o : Option DeclaredOrder). (HasUnknown front (names_of_terms (given_terms o)) → ⊥)
          → map (λ (t : OrderTerm). t.descending) c.in_ok-order_of.field-0 ≡ map (λ (t : Term). t.descending) (given_terms o)) order c.in_ok-order_of.ensures.directions;
      count = ap length c.fields.view_is ∙ c.in_ok-fields.ensures.named;
      all = ap length both ∙ c.in_ok-fields.ensures.all;
    })
    (subst (λ (l : List FieldInfo). AreFieldsOf models model g number l) (sym both) (c.in_ok-fields.ensures.fields g number placed))
