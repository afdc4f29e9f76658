use Rattle.std.proofs.Common.{◌≡◌, List, ℕ, map, Global, Vec, option_map, sym, ap, subst, ◌∙◌}
use Rattle.std.specs.Borrow.{Bor}
use Rattle.ob_definition.specs.declared.made.Condition.{Condition}
use Rattle.ob_definition.specs.ByName.{AreApart}
use Rattle.ob_definition.specs.Gathered.{Gathered}
use Rattle.ob_definition.specs.Making.{conditions_of}
use Rattle.ob_definition.specs.Members.{check_member, check_members}
use Rattle.ob_definition.proofs.HiddenFields.{hidden-locked, hidden-same}
use Rattle.ob_definition.proofs.made.hidden_fields.Goals as goal
use Rattle.ob_definition.proofs.made.hidden_fields.Goals.{in-Some+in_ok-field+in_ok-push, in_default}

pub returns : goal.returns
returns c =
    let g = c.args.model.now in
    let fields = c.in_ok-fields.fields.items in
    let sorted = c.in_ok-hidden.hidden.items in
    let are : conditions_of fields ≡ check_members g = c.in_ok-fields.ensures ∙ ap (map check_member) (c.as_slice.ensures.same ∙ ap (λ (m : Gathered). m.checks) c.model.view_is) in
    let moved = c.in_ok-hidden.ensures.permutation in
    let ordered = c.in_ok-hidden.ensures.sorted in
    let apart : AreApart g.checks = subst AreApart (ap (λ (m : Gathered). m.checks) c.model.view_is) c.as_slice.ensures.apart in
    let held : option_map (λ text. text.now) c.model.inside.locked ≡ g.locked = ap (λ (m : Gathered). m.locked) c.model.view_is in
    elim c.match-model.branch [
      | in-Some+in_ok-field+in_ok-push w ↦
          hidden-locked g fields sorted are moved ordered apart w.in-Some.locked.now _ c.match-model.hidden.items (sym held ∙ ap (option_map (λ (text : Bor (List ℕ)). text.now)) w.in-Some.is)
          (ap (λ (m : Gathered). m.entry) c.model.view_is) w.in_ok-field.ensures (ap (λ (v : Vec Condition Global). v.items) w.hidden-is ∙ w.in_ok-push.ensures.items)
      | in_default w ↦
          hidden-same g fields sorted are moved ordered apart c.match-model.hidden.items (sym held ∙ ap (option_map (λ (text : Bor (List ℕ)). text.now)) w.in_default.is) (ap (λ (v : Vec Condition Global). v.items) w.hidden-is)
    ]
