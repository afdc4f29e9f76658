-- A model of the registry is that of its definition.
use Rattle.std.proofs.Common.{◌≡◌, ℕ, ◌+◌, ◌-◌, true, Option, Some, None, List, [], ◌++◌, length, map, refl, sym, ◌∙◌, length-append, arith}
use Rattle.std.specs.Prelude.{Contains, IfSome, IsSome, IsSomeAnd, option_and_then, option_map, unwrap_or}
use Rattle.std.specs.Option.{is_none}
use Rattle.std.specs.List.{AllZip}
use Rattle.std.proofs.lemmas.Bool.{false≢true}
use Rattle.std.proofs.lemmas.List.{length-drop, length-map}
use Rattle.std.proofs.lemmas.List.Elements.{All-contains_itself}
use Rattle.std.proofs.lemmas.List.Sorted.{length_permutation}
use Rattle.ob_base.specs.declared.id.ModelNo.{ModelNo}
use Rattle.ob_definition.specs.declared.definition.Inherits.{Inherits}
use Rattle.ob_definition.specs.Gathered.{DeclaredOrder, Gathered}
use Rattle.ob_definition.specs.Members.{Member, hidden_members, link_def, links_of, members_of, model_number, named, number_named, number_of, own_member}
use Rattle.ob_definition.specs.Orders.{Term, order_terms}
use Rattle.ob_schema.specs.declared.info.ModelInfo.{ModelInfo}
use Rattle.ob_schema.specs.declared.info.OrderTerm.{OrderTerm}
use Rattle.ob_schema.specs.declared.info.ParentInfo.{ParentInfo}
use Rattle.ob_registry.specs.declared.model.Model.{Model as KeptModel}
use Rattle.ob_registry.specs.Building.{AreFieldsOf, AreNumbers, IsResolved}
use Rattle.ob_schema.specs.Built.{IsModelOf, given_terms}
use Rattle.ob_registry.specs.Faults.{HasUnknown, names_of_terms}
use Rattle.ob_registry.specs.ModelFields.{hidden_in, member_of, members_in, named_in, number_in}
use Rattle.ob_registry.specs.Modelling.{IsModelled}
use Rattle.ob_registry.proofs.Delegated.{link_member, own_among}
use Rattle.ob_registry.proofs.ModelMade.{agree_all, hidden_stand, known_number, named_stand, numbers_known, sets_known, terms_same, unknown_front}
use Rattle.ob_registry.proofs.NamedFields.{hidden_moved, named_count, number_modelled}
use Rattle.ob_registry.proofs.Origins.{number_named-there}

-- what the program makes of a model's keys
pub record AreKeysMade (models : List Gathered) (g : Gathered) (model : KeptModel) (info : ModelInfo) : Type 0 where
  pub name : info.name ≡ g.name
  pub managed : info.managed ≡ g.managed
  pub parent : info.parent ≡ option_and_then (number_in (named_in model.named model.members.items)) g.parent
  pub links : map (λ (i : ParentInfo). Some i.link) info.inherits ≡ map (λ (i : Inherits). number_named models g i.link) (links_of models g)
  pub parents : map (λ (i : ParentInfo). Some i.model) info.inherits ≡ map (λ (i : Inherits). model_number models i.model) (links_of models g)
  pub unique : AllZip (λ u. AreNumbers (named_in model.named model.members.items) u.names) g.unique info.unique
  pub order : AreNumbers (named_in model.named model.members.items) (names_of_terms (given_terms g.order)) (map (λ (t : OrderTerm). t.field) info.order)
  pub directions : (HasUnknown (named_in model.named model.members.items) (names_of_terms (given_terms g.order)) → ⊥)
      → map (λ (t : OrderTerm). t.descending) info.order ≡ map (λ (t : Term). t.descending) (given_terms g.order)
  pub count : length info.fields ≡ model.named
  pub all : length (info.fields ++ info.hidden) ≡ length model.members.items

module _ (models : List Gathered) (g : Gathered) (model : KeptModel) (is : IsModelled models g model) (resolved : IsResolved models g) where
  parent_made : (name : Option (List ℕ)) → IfSome name (λ name. IsSome (named (members_of models g) name))
      → option_and_then (number_in (named_in model.named model.members.items)) name ≡ option_map (number_of models g) name
  parent_made None there = refl
  parent_made (Some name) there =
      number_modelled models g model is name ∙ known_number models g model is name (by (named (members_of models g) name) there)
    where
      by : (o : Option Member) → IsSome o → is_none o ≡ true → ⊥
      by None there e = false≢true there
      by (Some m) there e = false≢true e

  links_made : map (λ (i : Inherits). number_named models g i.link) (links_of models g) ≡ map (λ (i : Inherits). Some (number_of models g i.link)) (links_of models g)
  links_made =
      agree_all (λ (i : Inherits). number_named models g i.link) (λ (i : Inherits). Some (number_of models g i.link)) (links_of models g)
      (λ k d within. linked _ (All-contains_itself (links_of models g) k d within))
    where
      linked : (i : Inherits) → Contains (links_of models g) i → number_named models g i.link ≡ Some (number_of models g i.link)
      linked i here = number_named-there models g (own_member g.entry (link_def i)) i.link (own_among models g (own_member g.entry (link_def i)) (link_member models g i here)) refl

  order_known : (o : Option DeclaredOrder) → IfSome o (λ o. IsSomeAnd (order_terms o.text) (λ terms. HasUnknown (members_of models g) (names_of_terms terms) → ⊥))
      → HasUnknown (members_of models g) (names_of_terms (given_terms o)) → ⊥
  order_known None known e = false≢true e
  order_known (Some o) known e = by (order_terms o.text) known e
    where
      by : (t : Option (List Term)) → IsSomeAnd t (λ terms. HasUnknown (members_of models g) (names_of_terms terms) → ⊥) → HasUnknown (members_of models g) (names_of_terms (unwrap_or t [])) → ⊥
      by None known e = known
      by (Some terms) known e = known e

  hidden_size : (info : ModelInfo) → AreKeysMade models g model info → length info.hidden ≡ length (hidden_members g)
  hidden_size info keys =
      let members = members_in model.members.items in
      let back = hidden_in model.named model.members.items in
      let moved : length back ≡ length (hidden_members g) = length_permutation (hidden_members g) back (hidden_moved models g model is) in
      let size : length back ≡ length members - model.named = length-drop model.named members in
      let same : length members ≡ length model.members.items = length-map model.members.items member_of in
      let both : length (info.fields ++ info.hidden) ≡ length info.fields + length info.hidden = length-append info.fields info.hidden in
      let all = keys.all in
      let count = keys.count in
      omega arith

  -- with its fields, it is the model of its definition
  pub model_made : (number : ModelNo) (info : ModelInfo) → model_number models g.name ≡ Some number → AreKeysMade models g model info → AreFieldsOf models model g number (info.fields ++ info.hidden) → IsModelOf models g info
  model_made number info is_number keys of =
      let known : HasUnknown (members_of models g) (names_of_terms (given_terms g.order)) → ⊥ = order_known g.order resolved.order in
      let own : HasUnknown (named_in model.named model.members.items) (names_of_terms (given_terms g.order)) → ⊥ =
      λ e. known (sym (unknown_front models g model is (names_of_terms (given_terms g.order))) ∙ e) in
      record {
        number = number;
        is_number = is_number;
        name = keys.name;
        managed = keys.managed;
        parent = keys.parent ∙ parent_made g.parent resolved.parent;
        inherits = keys.links ∙ links_made;
        parents = keys.parents;
        unique = sets_known models g model is g.unique info.unique keys.unique resolved.unique;
        order = terms_same info.order (given_terms g.order) (number_of models g)
            (numbers_known models g model is (names_of_terms (given_terms g.order)) (map (λ (t : OrderTerm). t.field) info.order) keys.order known) (keys.directions own);
        named = named_stand models g model is (info.fields ++ info.hidden) number of;
        named_count = keys.count ∙ sym (named_count models g model is);
        hidden = hidden_stand models g model is (info.fields ++ info.hidden) number of;
        hidden_count = hidden_size info keys;
      }
