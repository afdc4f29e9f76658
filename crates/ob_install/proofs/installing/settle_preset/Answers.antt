use Rattle.std.proofs.Common.{◌≡◌, List, None, Some, ap, length, subst, ◌∙◌, arith}
use Rattle.ob_cache.specs.Calls.{Refuses, settled_over}
use Rattle.ob_cache.specs.Standing.{RestsAt, Stands, max_next_id}
use Rattle.ob_io.specs.Cause.{Rose}
use Rattle.ob_rows.proofs.CallerLemmas.{author_passed, sound_in}
use Rattle.ob_install.proofs.InstalledRows.{all-installed, all-so-far, broken-refused, course-is, forbidden-refused, handed_on, last-tables, rests-still}
use Rattle.ob_install.proofs.installing.settle_preset.Goals as goal
use Rattle.ob_rows.specs.Settling.{IsBrokenBy}
use Rattle.ob_install.specs.Install.{Course, IsRefused, RefusesRows, course, installed, system_at}
use Rattle.ob_install.specs.InstallSteps.{Finds, IsWhole, course_of}
use Rattle.ob_orm.specs.NewRowSteps.{HoldsNextIds, so_far}
use Rattle.ob_install.specs.declared.installing.InstallFault.{InstallFault}
use Rattle.ob_orm.specs.declared.making.next_ids.Making.{Making}
use Rattle.ob_schema.specs.Broken.{IsBroken}
use Rattle.ob_schema.specs.Tables.{Standing, Tables}
use Rattle.ob_schema.specs.declared.info.ModelInfo.{ModelInfo}

pub returns-in-Ok-Some-clause-rests : goal.returns-in-Ok-Some-clause-rests
returns-in-Ok-Some-clause-rests g c =
    let same = c.begun.ensures.same in record {
      models_are = same.models;
      phase_is = same.phase_is ∙ c.requires.rest.phase_is;
      next_ids = same.next_ids max_next_id (omega arith) c.requires.rest.next_ids;
    }

pub returns-in-Ok-Some-clause-refused : goal.returns-in-Ok-Some-clause-refused
returns-in-Ok-Some-clause-refused g c = λ tables rests.
    let engine = c.args.engine.now in
    let models = engine.held.models in
    let placed = c.in-Ok.placed in
    let rows = c.args.rows.now in
    let making = c.in_ok-making.making in
    let b = c.in-Ok-Some.broken in
    let rose = Rose (g.K.Keeper.faults engine.keeper.now) (g.K.Keeper.faults c.begun.new.engine.keeper.now) in
    let same = c.begun.ensures.same in
    let schema_is : c.schema.result.now ≡ models = c.schema.ensures ∙ same.models in
    let next : HoldsNextIds models tables making =
    handed_on InstallFault c.begun.result making (λ (m : Making). (t : Tables) → RestsAt (g.K.Keeper.kept engine.keeper.now) engine.held t → HoldsNextIds models t m) c.in_ok-making.ensures.cases c.begun.ensures.told tables rests in
    let is : course_of models placed ≡ course models c.args.now rows =
    course-is c.schema.result.now models schema_is _ (system_at c.args.now) (author_passed (system_at c.args.now) c.requires.moment) rows placed making c.in-Ok.ensures.made tables (c.requires.new tables rests) next in
    let whole : IsWhole models placed = subst (λ (ms : List ModelInfo). IsWhole ms placed) schema_is c.in-Ok.ensures.whole in
    let found : Finds models (course_of models placed) (Some b) =
    subst (λ (ms : List ModelInfo). Finds ms (course_of ms placed) (Some b)) schema_is (subst (Finds c.schema.result.now (course_of c.schema.result.now placed)) c.in-Ok-Some.field-0-is c.in-Ok-Some.ensures) in
    let refused = forbidden-refused models placed whole rose b c.refused.result c.refused.ensures found in (
      subst (λ (at : Course). RefusesRows rose (IsRefused models at) c.refused.result) is refused,
      rests-still (g.K.Keeper.kept engine.keeper.now) (g.K.Keeper.kept c.begun.new.engine.keeper.now) engine.held c.begun.new.engine.held same tables rests,
    )

pub returns-in-Ok-settle_rows-clause-settled : goal.returns-in-Ok-settle_rows-clause-settled
returns-in-Ok-settle_rows-clause-settled g c = λ tables rests.
    let engine = c.args.engine.now in
    let models = engine.held.models in
    let placed = c.in-Ok.placed in
    let rows = c.args.rows.now in
    let making = c.in_ok-making.making in
    let before = c.begun.new.engine in
    let same = c.begun.ensures.same in
    let schema_is : c.schema.result.now ≡ models = c.schema.ensures ∙ same.models in
    let empty = c.requires.new tables rests in
    let next : HoldsNextIds models tables making =
    handed_on InstallFault c.begun.result making (λ (m : Making). (t : Tables) → RestsAt (g.K.Keeper.kept engine.keeper.now) engine.held t → HoldsNextIds models t m) c.in_ok-making.ensures.cases c.begun.ensures.told tables rests in
    let is : course_of models placed ≡ course models c.args.now rows =
    course-is c.schema.result.now models schema_is _ (system_at c.args.now) (author_passed (system_at c.args.now) c.requires.moment) rows placed making c.in-Ok.ensures.made tables empty next in
    let whole : IsWhole models placed = subst (λ (ms : List ModelInfo). IsWhole ms placed) schema_is c.in-Ok.ensures.whole in
    let rests_now = rests-still (g.K.Keeper.kept engine.keeper.now) (g.K.Keeper.kept before.keeper.now) engine.held before.held same tables rests in
    let all : so_far before.held.models tables placed.making ≡ (installed models c.args.now rows).tables =
    (λ i. so_far (same.models i) (empty i) placed.making) ∙ all-so-far models placed whole ∙ ap (λ (at : Course). at.tables (length at.rows)) is ∙ last-tables models c.args.now rows in
    let stands : Stands (g.K.Keeper.kept c.settle_rows.new.engine.keeper.now) c.settle_rows.new.engine.held (settled_over models tables (installed models c.args.now rows).tables) =
    subst (Stands (g.K.Keeper.kept c.settle_rows.new.engine.keeper.now) c.settle_rows.new.engine.held) (λ i. settled_over (same.models i) tables (all i)) (c.in-Ok-settle_rows.ensures.settled tables rests_now) in
    let none : Finds models (course_of models placed) None =
    subst (λ (ms : List ModelInfo). Finds ms (course_of ms placed) None) schema_is (subst (Finds c.schema.result.now (course_of c.schema.result.now placed)) c.in-Ok-None.field-0-is c.in-Ok-None.ensures) in (
      all-installed models c.args.now rows (subst (λ (at : Course). Finds models at None) is none)
          (sound_in models tables (installed models c.args.now rows).tables (g.K.Keeper.kept c.settle_rows.new.engine.keeper.now) stands.over),
      stands,
    )

pub returns-in-Err-Constraint-clause-refused : goal.returns-in-Err-Constraint-clause-refused
returns-in-Err-Constraint-clause-refused g c = λ tables rests.
    let engine = c.args.engine.now in
    let models = engine.held.models in
    let placed = c.in-Ok.placed in
    let rows = c.args.rows.now in
    let making = c.in_ok-making.making in
    let before = c.begun.new.engine in
    let same = c.begun.ensures.same in
    let schema_is : c.schema.result.now ≡ models = c.schema.ensures ∙ same.models in
    let empty = c.requires.new tables rests in
    let next : HoldsNextIds models tables making =
    handed_on InstallFault c.begun.result making (λ (m : Making). (t : Tables) → RestsAt (g.K.Keeper.kept engine.keeper.now) engine.held t → HoldsNextIds models t m) c.in_ok-making.ensures.cases c.begun.ensures.told tables rests in
    let is : course_of models placed ≡ course models c.args.now rows =
    course-is c.schema.result.now models schema_is _ (system_at c.args.now) (author_passed (system_at c.args.now) c.requires.moment) rows placed making c.in-Ok.ensures.made tables empty next in
    let whole : IsWhole models placed = subst (λ (ms : List ModelInfo). IsWhole ms placed) schema_is c.in-Ok.ensures.whole in
    let rests_now = rests-still (g.K.Keeper.kept engine.keeper.now) (g.K.Keeper.kept before.keeper.now) engine.held before.held same tables rests in
    let told = c.in-Err-Constraint.ensures.refused tables rests_now in
    let b = c.in-Err-Constraint.broken in
    let rose = Rose (g.K.Keeper.faults engine.keeper.now) (g.K.Keeper.faults c.settle_rows.new.engine.keeper.now) in
    let since = Rose (g.K.Keeper.faults before.keeper.now) (g.K.Keeper.faults c.settle_rows.new.engine.keeper.now) in
    let breaks : IsBroken before.held.models (so_far before.held.models tables placed.making) b =
    subst (Refuses since (IsBrokenBy before.held.models (so_far before.held.models tables placed.making))) c.in-Err-Constraint.field-0-is told.1 in
    let all : so_far before.held.models tables placed.making ≡ (course_of models placed).tables (length placed.rows.now) = (λ i. so_far (same.models i) (empty i) placed.making) ∙ all-so-far models placed whole in
    let broken : IsBroken models ((course_of models placed).tables (length placed.rows.now)) b = subst (λ (at : Standing). IsBroken at.models at.tables b) (λ i. record { models = same.models i; tables = all i }) breaks in
    let refused = broken-refused models placed whole rose b c.refused-in-Err-Constraint.result c.refused-in-Err-Constraint.ensures broken in
    (subst (λ (at : Course). RefusesRows rose (IsRefused models at) c.refused-in-Err-Constraint.result) is refused, told.0)
