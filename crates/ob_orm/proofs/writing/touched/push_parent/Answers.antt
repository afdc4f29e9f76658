-- The row that the link names, if it is there.
use Rattle.std.proofs.Common.{◌≡◌, ◌∙◌, List, subst, sym, true}
use Rattle.std.specs.Prelude.{All, Contains}
use Rattle.std.proofs.lemmas.List.Elements.{All-push}
use Rattle.ob_base.specs.declared.id.RowKey.{RowKey}
use Rattle.ob_cache.proofs.CallerLemmas.{stays-then}
use Rattle.ob_orm.proofs.TouchedRows.{parent-model, row-gone, row-pushed, row-unnamed, told-at}
use Rattle.ob_rows.specs.AskingSteps.{AreKnown}
use Rattle.ob_orm.proofs.writing.touched.push_parent.Goals as goal
use Rattle.ob_schema.specs.Models.{HasModel}
use Rattle.ob_schema.specs.Tables.{key_of}
use Rattle.ob_schema.specs.declared.info.ModelInfo.{ModelInfo}

pub returns-in_default-clause-told : goal.returns-in_default-clause-told
returns-in_default-clause-told g c = λ tables rests.
    row-unnamed c.args.engine.now.held.models c.args.model c.args.given.now tables c.args.id c.args.parent c.args.rows.now.items (sym c.in_default.is ∙ c.in_ok-linked.ensures.told tables rests)

pub is_there-requires-clause-model : goal.is_there-requires-clause-model
is_there-requires-clause-model g c =
    subst (λ (ms : List ModelInfo). HasModel ms c.args.parent.model) (sym c.linked_row.ensures.same.models) (parent-model c.args.engine.now.held.models c.args.model c.args.parent c.requires.within)

pub is_there-requires-clause-rest : goal.is_there-requires-clause-rest
is_there-requires-clause-rest g c = c.linked_row.ensures.same.phase_is ∙ c.requires.rest

-- it isn't there

pub returns-then-not-there-clause-told : goal.returns-then-not-there-clause-told
returns-then-not-there-clause-told g c = λ tables rests.
    row-gone c.args.engine.now.held.models c.args.model c.args.given.now tables c.args.id c.args.parent c.args.rows.now.items c.in-Some.row (sym c.in-Some.is ∙ c.in_ok-linked.ensures.told tables rests)
    (sym c.if-not-there.true ∙ told-at _ _ _ _ c.linked_row.ensures.same (λ told. c.in_ok-there.there ≡ told.knows c.args.parent.model c.in-Some.row) c.in_ok-there.ensures.told tables rests)

-- it is

pub returns-clause-told : goal.returns-clause-told
returns-clause-told g c = λ tables rests.
    row-pushed c.args.engine.now.held.models c.args.model c.args.given.now tables c.args.id c.args.parent c.args.rows.now.items c.push.new.self.items c.in-Some.row (sym c.in-Some.is ∙ c.in_ok-linked.ensures.told tables rests)
    (sym c.if-not-there.false ∙ told-at _ _ _ _ c.linked_row.ensures.same (λ told. c.in_ok-there.there ≡ told.knows c.args.parent.model c.in-Some.row) c.in_ok-there.ensures.told tables rests) c.in_ok-push.ensures.items

pub returns-clause-known : goal.returns-clause-known
returns-clause-known g c = λ told tells before.
    let here = sym (c.in_ok-there.ensures.told told (tells.0, c.linked_row.ensures.same.stands tells.0 tells.1, tells.2, tells.3)) ∙ c.if-not-there.false in
    subst (λ (rs : List RowKey). AreKnown rs told) (sym c.in_ok-push.ensures.items) (All-push (λ (row : RowKey). told.knows row.model row.id ≡ true) c.args.rows.now.items (key_of c.args.parent.model c.in-Some.row) before here)

pub returns-clause-models : goal.returns-clause-models
returns-clause-models g c = λ ms of before.
    subst (All (λ (row : RowKey). Contains ms row.model)) (sym c.in_ok-push.ensures.items) (All-push (λ (row : RowKey). Contains ms row.model) c.args.rows.now.items (key_of c.args.parent.model c.in-Some.row) before of)

-- all that was asked left the engine as it was

pub returns-then-not-there-clause-same : goal.returns-then-not-there-clause-same
returns-then-not-there-clause-same g c = stays-then _ _ _ _ _ _ c.linked_row.ensures.same c.is_there.ensures.same

pub returns-clause-same : goal.returns-clause-same
returns-clause-same g c = stays-then _ _ _ _ _ _ c.linked_row.ensures.same c.is_there.ensures.same

pub returns-in_err-there-clause-same : goal.returns-in_err-there-clause-same
returns-in_err-there-clause-same g c = stays-then _ _ _ _ _ _ c.linked_row.ensures.same c.is_there.ensures.same

pub returns-in_err-push-clause-same : goal.returns-in_err-push-clause-same
returns-in_err-push-clause-same g c = stays-then _ _ _ _ _ _ c.linked_row.ensures.same c.is_there.ensures.same
