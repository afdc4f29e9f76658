-- The row itself, then those of its parents.
use Rattle.std.proofs.Common.{◌≡◌, ◌∙◌, ◌++◌, List, ap, subst, sym, true}
use Rattle.std.specs.Prelude.{All, Contains}
use Rattle.std.specs.List.{filter_map}
use Rattle.std.proofs.lemmas.Result.{on_ok_weaker}
use Rattle.std.proofs.lemmas.List.Elements.{All-push}
use Rattle.ob_base.specs.declared.id.RowKey.{RowKey}
use Rattle.ob_cache.proofs.CallerLemmas.{stays-then}
use Rattle.ob_rows.proofs.CallerLemmas.{err-later, rests-tells, stays-rests}
use Rattle.ob_orm.proofs.TouchedRows.{touched-gone, touched-there}
use Rattle.ob_rows.specs.AskingSteps.{AreKnown}
use Rattle.ob_orm.specs.NewRowSteps.{IsTyped}
use Rattle.ob_orm.specs.Touched.{parent_row}
use Rattle.ob_orm.proofs.writing.touched.push_touched.Goals as goal
use Rattle.ob_schema.specs.Facts.{told_by}
use Rattle.ob_schema.specs.Models.{IsParentIn}
use Rattle.ob_schema.specs.Tables.{key_of}
use Rattle.ob_schema.specs.declared.info.ModelInfo.{ModelInfo}

-- the row isn't there

pub returns-then-not-there-clause-told : goal.returns-then-not-there-clause-told
returns-then-not-there-clause-told g c = λ tables rests.
    let models = c.args.engine.now.held.models in
    touched-gone models c.args.model c.args.given.now tables c.args.id c.args.rows.now.items c.push.new.self.items
    (sym c.if-not-there.true ∙ c.in_ok-there.ensures.told (told_by models tables) (rests-tells _ _ tables rests)) c.in_ok-push.ensures.items

pub returns-then-not-there-clause-known : goal.returns-then-not-there-clause-known
returns-then-not-there-clause-known g c = λ told tells here before.
    subst (λ (rs : List RowKey). AreKnown rs told) (sym c.in_ok-push.ensures.items) (All-push (λ (row : RowKey). told.knows row.model row.id ≡ true) c.args.rows.now.items (key_of c.args.model (record { 0 = c.args.id })) before here)

pub returns-then-not-there-clause-models : goal.returns-then-not-there-clause-models
returns-then-not-there-clause-models g c = λ ms own parents before.
    subst (All (λ (row : RowKey). Contains ms row.model)) (sym c.in_ok-push.ensures.items) (All-push (λ (row : RowKey). Contains ms row.model) c.args.rows.now.items (key_of c.args.model (record { 0 = c.args.id })) before own)

-- it is

pub push_parents-requires-clause-within : goal.push_parents-requires-clause-within
push_parents-requires-clause-within g c = subst (λ (ms : List ModelInfo). All (IsParentIn ms c.args.model) c.args.parents.now) (sym c.is_there.ensures.same.models) c.requires.within

pub push_parents-requires-clause-typed : goal.push_parents-requires-clause-typed
push_parents-requires-clause-typed g c = subst (λ (ms : List ModelInfo). All (IsTyped ms c.args.model) c.args.given.now) (sym c.is_there.ensures.same.models) c.requires.typed

pub push_parents-requires-clause-rest : goal.push_parents-requires-clause-rest
push_parents-requires-clause-rest g c = c.is_there.ensures.same.phase_is ∙ c.requires.rest

pub returns-clause-told : goal.returns-clause-told
returns-clause-told g c =
    on_ok_weaker c.push_parents.result (λ pushed tables rests.
    let models = c.args.engine.now.held.models in
    let row = λ (ms : List ModelInfo). parent_row ms c.args.model c.args.given.now tables c.args.id in
    touched-there models c.args.model c.args.given.now tables c.args.id c.args.rows.now.items c.push.new.self.items c.push_parents.new.rows.items c.args.parents.now
    (sym c.if-not-there.false ∙ c.in_ok-there.ensures.told (told_by models tables) (rests-tells _ _ tables rests)) c.requires.parents c.in_ok-push.ensures.items
    (pushed tables (stays-rests _ _ _ _ c.is_there.ensures.same tables rests) ∙ ap (λ (ms : List ModelInfo). c.push.new.self.items ++ filter_map (row ms) c.args.parents.now) c.is_there.ensures.same.models)) c.push_parents.ensures.told

pub returns-clause-known : goal.returns-clause-known
returns-clause-known g c =
    on_ok_weaker c.push_parents.result (λ known told tells here before.
    known told (tells.0, c.is_there.ensures.same.stands tells.0 tells.1, tells.2, tells.3)
    (subst (λ (rs : List RowKey). AreKnown rs told) (sym c.in_ok-push.ensures.items) (All-push (λ (row : RowKey). told.knows row.model row.id ≡ true) c.args.rows.now.items (key_of c.args.model (record { 0 = c.args.id })) before here)))
    c.push_parents.ensures.known

pub returns-clause-models : goal.returns-clause-models
returns-clause-models g c =
    on_ok_weaker c.push_parents.result (λ models ms own parents before.
    models ms parents (subst (All (λ (row : RowKey). Contains ms row.model)) (sym c.in_ok-push.ensures.items) (All-push (λ (row : RowKey). Contains ms row.model) c.args.rows.now.items (key_of c.args.model (record { 0 = c.args.id })) before own)))
    c.push_parents.ensures.models

pub returns-clause-same : goal.returns-clause-same
returns-clause-same g c = stays-then _ _ _ _ _ _ c.is_there.ensures.same c.push_parents.ensures.same

pub returns-clause-causes : goal.returns-clause-causes
returns-clause-causes g c = err-later c.push_parents.result _ _ _ c.is_there.ensures.count (λ _. ⊥) (λ _. ⊥) (λ w h. h) c.push_parents.ensures.causes
