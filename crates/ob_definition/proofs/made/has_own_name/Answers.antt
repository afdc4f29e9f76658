use Rattle.std.proofs.Common.{rules, ◌≡◌, ◌||◌, ◌&&◌, Bool, true, is_some, sym, ap, ◌∙◌}
use Rattle.std.specs.Str.{bytes_eq}
use Rattle.ob_definition.specs.Definitions.{is_automatic}
use Rattle.ob_definition.specs.Gathered.{Gathered, is_declared}
use Rattle.ob_definition.specs.Members.{path_name}
use Rattle.ob_definition.proofs.LinkSteps.{and_none, or_first, or_second}
use Rattle.ob_definition.proofs.OwnNames.{is_some-held, own_names}
use Rattle.ob_definition.proofs.made.has_own_name.Goals as goal

pub returns-then-is_given_name : goal.returns-then-is_given_name
returns-then-is_given_name c =
    let g = c.args.model.now in
    let name = c.args.name.now in
    or_first (is_automatic name || is_declared g.fields name) (is_some g.parent && bytes_eq name path_name) c.is_given_name.result _ (own_names g name) (sym c.is_given_name.ensures ∙ c.if-is_given_name.true) c.is_given_name.ensures

pub returns-then-is_some : goal.returns-then-is_some
returns-then-is_some c =
    let g = c.args.model.now in
    let name = c.args.name.now in
    let tree : is_some g.parent ≡ true = sym (is_some-held g c.model.inside.parent (ap (λ (m : Gathered). m.parent) c.model.view_is)) ∙ sym c.is_some.ensures ∙ c.if-is_some.true in
    let test : c.eq.result ≡ bytes_eq name path_name = search rules in
    or_second (is_automatic name || is_declared g.fields name) (is_some g.parent && bytes_eq name path_name) c.eq.result _ (own_names g name) (sym c.is_given_name.ensures ∙ c.if-is_given_name.false)
    (test ∙ sym (ap (λ (b : Bool). b && bytes_eq name path_name) tree))

pub returns-else-is_some : goal.returns-else-is_some
returns-else-is_some c =
    let g = c.args.model.now in
    let name = c.args.name.now in
    let tree : c.is_some.result ≡ is_some g.parent = c.is_some.ensures ∙ is_some-held g c.model.inside.parent (ap (λ (m : Gathered). m.parent) c.model.view_is) in
    or_second (is_automatic name || is_declared g.fields name) (is_some g.parent && bytes_eq name path_name) c.is_some.result _ (own_names g name) (sym c.is_given_name.ensures ∙ c.if-is_given_name.false)
    (and_none (is_some g.parent) (bytes_eq name path_name) c.is_some.result (sym tree ∙ c.if-is_some.false) tree)
