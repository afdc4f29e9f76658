-- One row more.
use Rattle.std.proofs.Common.{◌≡◌, ◌+◌, ◌++◌, ◌∷◌, [], List, subst, sym, ◌∙◌, arith}
use Rattle.std.specs.Prelude.{All}
use Rattle.std.proofs.lemmas.List.Elements.{All-push}
use Rattle.ob_orm.specs.NewRowSteps.{MayFit}
use Rattle.ob_schema.specs.Models.{HasModel}
use Rattle.ob_schema.specs.Tables.{next_of}
use Rattle.ob_schema.specs.declared.info.ModelInfo.{ModelInfo}
use Rattle.ob_stage.proofs.TakenIds.{up_to-made, up_to-more}
use Rattle.ob_stage.proofs.creating.make_one.Goals as goal
use Rattle.ob_stage.specs.StageSteps.{LeaveRoom}
use Rattle.ob_tables.specs.After.{after}
use Rattle.ob_tables.specs.Changes.{MakesBelow}
use Rattle.ob_tables.specs.declared.edit.Edit.{Edit}
use Rattle.ob_tables.specs.declared.edit.Edit.TheVariants as edit

pub next_id-requires-clause-model : goal.next_id-requires-clause-model
next_id-requires-clause-model g c = subst (λ (ms : List ModelInfo). HasModel ms c.args.model) (sym c.requires.schema) c.requires.model

pub next_id-requires-clause-fit : goal.next_id-requires-clause-fit
next_id-requires-clause-fit g c =
    subst (λ (es : List Edit). All (MayFit c.args.engine.now.held.models) es) (sym c.as_slice.ensures.value) (subst (λ (ms : List ModelInfo). All (MayFit ms) c.args.edits.now.items) (sym c.requires.schema) c.requires.fit)

pub next_id-requires-clause-room : goal.next_id-requires-clause-room
next_id-requires-clause-room g c = subst (λ (es : List Edit). LeaveRoom 1 c.args.engine.now.held es) (sym c.as_slice.ensures.value) c.requires.room

pub returns-clause-made : goal.returns-clause-made
returns-clause-made g c = λ at is.
    let models = c.args.maker.now.schema.now in
    let edits = c.args.edits.now.items in
    let id = c.in_ok-id.id in
    let next : id.0 ≡ next_of (after models at.staged edits) c.args.model =
    c.in_ok-id.ensures.next at is ∙ (λ i. next_of (after (c.requires.schema i) at.staged (c.as_slice.ensures.value i)) c.args.model) in (
      c.in_ok-push.ensures.items ∙ (λ i. edits ++ edit.Make c.args.model (record { 0 = next i }) (c.in_ok-values.ensures.value i) ∷ []),
      next,
    )

pub returns-clause-fit : goal.returns-clause-fit
returns-clause-fit g c =
    rw c.in_ok-push.ensures.items
    (All-push (MayFit c.args.maker.now.schema.now) c.args.edits.now.items (edit.Make c.args.model c.in_ok-id.id c.in_ok-values.values) c.requires.fit (c.in_ok-id.ensures.low, c.in_ok-values.ensures.fit))

pub returns-clause-next_ids : goal.returns-clause-next_ids
returns-clause-next_ids g c = λ told bound low up next_ids below.
    let edits = c.args.edits.now.items in
    let within = c.in_ok-id.ensures.bound told bound low up next_ids (subst (λ (es : List Edit). All (MakesBelow c.args.model bound) es) (sym c.as_slice.ensures.value) (below c.args.model)) in
    rw c.in_ok-push.ensures.items
    (up_to-made (bound + 1) edits c.args.model c.in_ok-id.id c.in_ok-values.values (omega (arith, within)) (up_to-more bound (bound + 1) (omega arith) edits below))

pub returns-clause-own : goal.returns-clause-own
returns-clause-own g c = λ bound low below.
    rw c.in_ok-push.ensures.items (up_to-made bound c.args.edits.now.items c.args.model c.in_ok-id.id c.in_ok-values.values low below)
