use Rattle.std.proofs.Common.{◌≡◌, List, true, arith, sym, subst, ◌∙◌}
use Rattle.std.proofs.lemmas.Grind.{common_steps}
use Rattle.std.specs.Prelude.{IfSome}
use Rattle.std.proofs.lemmas.Option.{IfSome_then}
use Rattle.serde_json.specs.View.{view}
use Rattle.ob_call.specs.Columns.{columns_at}
use Rattle.ob_query.proofs.Asked.{asked_then}
use Rattle.ob_query.proofs.Callers.{told_back, told_on}
use Rattle.ob_query.specs.Read.{TellsRow}
use Rattle.ob_query.specs.SearchQuestions.{TellsTo}
use Rattle.ob_schema.specs.Facts.{OfAllTold, Told}
use Rattle.ob_schema.specs.Models.{model_at}
use Rattle.ob_schema.specs.declared.info.ModelInfo.{ModelInfo}
use Rattle.ob_query.proofs.told_rows.row_object.Goals as goal

pub known_object-requires-clause-known : goal.known_object-requires-clause-known
known_object-requires-clause-known g c =
    let known : c.in_ok-is_known.field-0 ≡ true = grind (arith, common_steps) in
    told_on g.K.Keeper c.args.by.now c.args.engine.now c.is_known.new.engine (λ (told : Told). told.knows c.args.model c.args.id ≡ true) c.is_known.ensures.asked
    (λ told tells. sym (c.in_ok-is_known.ensures.told told tells) ∙ known)

pub returns-in_err-object-clause-asked : goal.returns-in_err-object-clause-asked
returns-in_err-object-clause-asked g c = asked_then g.K.Keeper c.args.engine.now c.is_known.new.engine c.known_object.new.engine c.is_known.ensures.asked c.known_object.ensures.asked

pub returns-clause-asked : goal.returns-clause-asked
returns-clause-asked g c = asked_then g.K.Keeper c.args.engine.now c.is_known.new.engine c.known_object.new.engine c.is_known.ensures.asked c.known_object.ensures.asked

pub returns-clause-told : goal.returns-clause-told
returns-clause-told g c = λ told tells.
    let old = c.args.engine.now in
    let mid = c.is_known.new.engine in
    let by = c.args.by.now in
    let Tells = λ (models : List ModelInfo) (told : Told). IfSome (model_at models c.args.model) (λ info. TellsRow told c.args.model (columns_at info c.args.fields.now) c.args.id (view c.in_ok-object.object)) in
    let rows = subst (λ (models : List ModelInfo). OfAllTold (TellsTo g.K.Keeper by mid) (Tells models)) c.is_known.ensures.asked.same.models c.in_ok-object.ensures.told in
    let here = told_back g.K.Keeper by old mid (Tells old.held.models) c.is_known.ensures.asked rows in
    let is : c.in_ok-is_known.field-0 ≡ true = grind (arith, common_steps) in
    let known = sym (c.in_ok-is_known.ensures.told told tells) ∙ is in
    IfSome_then (model_at old.held.models c.args.model) (here told tells) (λ info row. (known, row))
