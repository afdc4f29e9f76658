-- The list's items, each seen as its data.
use Rattle.std.proofs.Common.{◌≡◌, ℕ, Bool, true, false, List, Option, None, Some, map, refl, sym, ap, ◌∙◌}
use Rattle.std.specs.Prelude.{if◌then◌else◌, is_none, is_some}
use Rattle.std.proofs.lemmas.Bool.{false≢true}
use Rattle.toml.proofs.Views.{view-Array}
use Rattle.toml.specs.Data.{Data, array}
use Rattle.toml.specs.View.{items_view, view}
use Rattle.toml.specs.declared.value.Value.{Value}
use Rattle.ob_base.specs.declared.id.FieldNo.{FieldNo}
use Rattle.ob_module.specs.Meaning.{listed}
use Rattle.ob_load.specs.Preset.{references, rising, rows_given}
use Rattle.ob_module.proofs.CallerLemmas.{listed-view}
use Rattle.ob_load.proofs.values.RowScope.rows_given.Goals as goal
use Rattle.ob_schema.specs.declared.preset.PresetValue.TheVariants as preset

-- no mirror
mirror-none : (o : Option FieldNo) → is_some o ≡ false → is_none o ≡ true
mirror-none None is = refl
mirror-none (Some n) is = absurd (false≢true (sym is))

pub returns-clause-given : goal.returns-clause-given
returns-clause-given c =
    let s = c.args.self.now in
    let field = c.args.field.now in
    let xs = c.in-Array.items.items in
    let seen : view c.args.value.now ≡ array (items_view xs) = ap view c.in-Array.is ∙ view-Array c.in-Array.items in
    let none : is_none field.mirror ≡ true = mirror-none field.mirror (sym c.is_some.ensures ∙ c.if-is_some.false) in
    let numbers : List Data → List ℕ = λ l. rising (references s.scope.schema.now s.scope.groups.now s.first s.refs.now field l) in
    let same : c.in_ok-listed.field-0 ≡ numbers (listed (items_view xs)) =
    c.in_ok-listed.ensures ∙ c.in_ok-rows.ensures ∙ ap (λ (l : List Value). numbers (map view l)) c.as_slice.ensures.value ∙ ap numbers (sym (listed-view xs)) in
    ap (λ (l : List ℕ). Some (preset.Rows l)) same
    ∙ ap (λ (b : Bool). if b then Some (preset.Rows (numbers (listed (items_view xs)))) else None) (sym none)
    ∙ ap (rows_given s.scope.schema.now s.scope.groups.now s.first s.refs.now field) (sym seen)
