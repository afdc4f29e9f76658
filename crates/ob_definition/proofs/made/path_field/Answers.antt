use Rattle.std.proofs.Common.{◌≡◌, Some, None, true, false, refl, sym, ap, ◌∙◌}
use Rattle.ob_definition.specs.Gathered.{Gathered, is_declared}
use Rattle.ob_definition.specs.Members.{path_name}
use Rattle.ob_definition.proofs.MadePaths.{parent-none, parent-some, path-free, path-none, path-taken, path_made-none, path_made-taken}
use Rattle.ob_definition.proofs.made.path_field.Goals as goal

pub returns-in_default : goal.returns-in_default
returns-in_default c =
    let none : c.args.model.now.parent ≡ None = parent-none c.args.model.now c.model.inside.parent (ap (λ (g : Gathered). g.parent) c.model.view_is) c.in_default.is in
    record { path = sym (path_made-none c.args.model.now none); faults = path-none c.args.model.now c.args.first.now none }

pub returns-then-has : goal.returns-then-has
returns-then-has c =
    let g = c.args.model.now in
    let parent = c.in-Some.parent.now in
    let is : g.parent ≡ Some parent = parent-some g c.model.inside.parent c.in-Some.parent (ap (λ (m : Gathered). m.parent) c.model.view_is) c.in-Some.is in
    let taken : is_declared g.fields path_name ≡ true = ap (λ (m : Gathered). is_declared m.fields path_name) (sym c.model.view_is) ∙ sym c.has.ensures ∙ c.if-has.true in
    record { path = sym (path_made-taken g parent is taken); faults = path-taken g parent g.fields c.args.first.now c.taken_path.new.first is refl c.in_ok-taken_path.ensures }

pub returns-clause-faults : goal.returns-clause-faults
returns-clause-faults c =
    let g = c.args.model.now in
    let free : is_declared g.fields path_name ≡ false = ap (λ (m : Gathered). is_declared m.fields path_name) (sym c.model.view_is) ∙ sym c.has.ensures ∙ c.if-has.false in
    path-free g c.args.first.now free
