-- Where a list stands, as the registry has its field.
use Rattle.std.proofs.Common.{◌≡◌, true}
use Rattle.ob_effect.proofs.FieldLaws.{leads_to_model, list_leads_on, stands_in_inverse, stands_in_mirror, stands_in_own}
use Rattle.ob_effect.proofs.lists.list_of.Goals as goal
use Rattle.ob_definition.specs.Types.{is_list}
use Rattle.ob_schema.specs.Fields.{is_plain_from}
use Rattle.ob_schema.specs.Models.{field_at}
use Rattle.ob_schema.specs.declared.info.FieldInfo.{FieldInfo}
use Rattle.ob_tables.proofs.CallerLemmas.{known_at}

abbrev IsOne : FieldInfo → Type 0
IsOne info = (is_plain_from info.origin ≡ true) × (is_list info.field_type ≡ true)

pub unreachable-requires : goal.unreachable-requires
unreachable-requires c =
    let models = c.args.schema.now in let cell = c.args.cell in let info = c.info-info.result.now in
    let own = known_at (field_at models cell.model cell.field) info IsOne c.info-info.ensures c.requires.field in
    list_leads_on models c.parts_fit_together.ensures cell.model cell.field info c.info-info.ensures own.0 own.1 c.in_default.is

pub returns-in-Some-default-clause-list : goal.returns-in-Some-default-clause-list
returns-in-Some-default-clause-list c =
    let models = c.args.schema.now in let cell = c.args.cell in let info = c.info-info.result.now in let target = c.in-Some.target in
    let registry = c.parts_fit_together.ensures in
    let own = known_at (field_at models cell.model cell.field) info IsOne c.info-info.ensures c.requires.field in
    record {
      field = c.requires.field;
      target = leads_to_model models registry cell.model cell.field info c.info-info.ensures target c.in-Some.is;
      stands = stands_in_inverse models registry cell.model cell.field info c.info-info.ensures own.0 own.1 target c.in-Some.is c.in-Some-default.inverse c.in-Some-default.is-0;
    }

pub returns-in-None-Some-clause-list : goal.returns-in-None-Some-clause-list
returns-in-None-Some-clause-list c =
    let models = c.args.schema.now in let cell = c.args.cell in let info = c.info-info.result.now in let target = c.in-Some.target in
    let registry = c.parts_fit_together.ensures in
    let own = known_at (field_at models cell.model cell.field) info IsOne c.info-info.ensures c.requires.field in
    record {
      field = c.requires.field;
      target = leads_to_model models registry cell.model cell.field info c.info-info.ensures target c.in-Some.is;
      stands = stands_in_mirror models registry cell.model cell.field info c.info-info.ensures own.0 own.1 target c.in-Some.is c.in-None-Some.mirror c.in-None-Some.is-1;
    }

pub returns-in-None-None-clause-list : goal.returns-in-None-None-clause-list
returns-in-None-None-clause-list c =
    let models = c.args.schema.now in let cell = c.args.cell in let info = c.info-info.result.now in
    let registry = c.parts_fit_together.ensures in
    let own = known_at (field_at models cell.model cell.field) info IsOne c.info-info.ensures c.requires.field in
    record {
      field = c.requires.field;
      target = leads_to_model models registry cell.model cell.field info c.info-info.ensures c.in-Some.target c.in-Some.is;
      stands = stands_in_own models registry cell.model cell.field info c.info-info.ensures own.0 own.1 c.in-None-None.is-0 c.in-None-None.is-1;
    }
