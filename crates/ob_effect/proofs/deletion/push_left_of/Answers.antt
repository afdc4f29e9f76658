-- One edit more.
use Rattle.std.proofs.Common.{◌≡◌, List, Some, sym, subst}
use Rattle.std.specs.Prelude.{All}
use Rattle.std.proofs.lemmas.List.Elements.{All-push}
use Rattle.ob_base.specs.declared.id.Cell.{Cell}
use Rattle.ob_base.specs.declared.value.Value.{Value}
use Rattle.ob_cache.specs.Stages.{IsKeptRelation}
use Rattle.ob_effect.specs.Deletion.{IsFitCell}
use Rattle.ob_effect.specs.Effect.{IsFitChange}
use Rattle.ob_effect.proofs.deletion.push_left_of.Goals as goal
use Rattle.ob_schema.specs.Fields.{IsGivable}
use Rattle.ob_schema.specs.Models.{field_at}
use Rattle.ob_schema.specs.declared.info.FieldInfo.{FieldInfo}
use Rattle.ob_schema.specs.declared.info.ModelInfo.{ModelInfo}
use Rattle.ob_tables.proofs.CallerLemmas.{known_at, tell_and}
use Rattle.ob_tables.specs.Fitting.{IsFitIn}
use Rattle.ob_tables.specs.declared.edit.Edit.{Edit}
use Rattle.ob_tables.specs.declared.edit.Edit.TheVariants as edit

-- what is left of a value may be set
left_fit : (models : List ModelInfo) (cell : Cell) (info : FieldInfo) (v : Value) → IsFitCell models cell → field_at models cell.model cell.field ≡ Some info → IsGivable info v → IsFitChange models (edit.Set cell v)
left_fit models cell info v fit at givable =
    let own = known_at (field_at models cell.model cell.field) info IsKeptRelation at fit.0 in
    (fit.1, tell_and (field_at models cell.model cell.field) info (λ i. IsFitIn i v) at (own.0, givable))

pub returns-clause-fit : goal.returns-clause-fit
returns-clause-fit g c = λ all.
    let models = c.args.engine.now.held.models in let cell = c.args.cell in let info = c.info-field.result.now in let value = c.in_ok-value-2.value in
    let at = subst (λ (ms : List ModelInfo). field_at ms cell.model cell.field ≡ Some info) c.requires.over c.info-field.ensures in
    subst (All (IsFitChange models)) (sym {A = List Edit} c.in_ok-push.ensures.items)
    (All-push (IsFitChange models) c.args.edits.now.items (edit.Set cell value) all (left_fit models cell info value c.requires.cell at c.in_ok-value-2.ensures))
