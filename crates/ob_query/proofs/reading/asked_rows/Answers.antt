use Rattle.std.proofs.Common.{◌≡◌, ℕ, List, [], filter, map, Option, option_map, Some, Ok, Err, Vec, Global, arith, sym, subst, refl, ap, ◌∙◌}
use Rattle.std.specs.Prelude.{⊤, All, IfSome}
use Rattle.std.specs.Option.{option_map_or}
use Rattle.std.proofs.lemmas.Option.{IfSome_then}
use Rattle.ob_base.specs.declared.id.FieldNo.{FieldNo}
use Rattle.ob_call.specs.Columns.{asked_columns, columns_at}
use Rattle.ob_call.specs.Ids.{named_ids}
use Rattle.ob_query.proofs.NamedBy.{named_is, one_name}
use Rattle.ob_query.specs.declared.naming.Naming.{Naming}
use Rattle.ob_query.specs.declared.reading.Asked.{Asked}
use Rattle.ob_schema.specs.Paths.{step_at}
use Rattle.ob_schema.specs.declared.info.Step.{Step}
use Rattle.std.proofs.lemmas.List.Elements.{All-filter}
use Rattle.std.proofs.lemmas.Result.{IfOk-at_ok, err_from_is_err_and}
use Rattle.serde_json.specs.View.{view}
use Rattle.ob_call.specs.ArgumentsSteps.{all_given_of, given_of}
use Rattle.ob_call.specs.Called.{called_by}
use Rattle.ob_call.specs.Forms.{fields_at}
use Rattle.ob_call.specs.declared.arguments.Given.{Given}
use Rattle.ob_query.proofs.GrantedFields.{allowed_in, denied_asked, denied_by, granted_allowed}
use Rattle.ob_query.proofs.ReadAnswers.{StandsForRead, IsToldRead, meant_by, named_read, read_pairs, read_stands, taken_read, three_are, three_given}
use Rattle.ob_query.specs.Callers.{IsGranted, in_turn, is_first, may_read_field}
use Rattle.ob_query.specs.NamedFields.{name_fields, read_named}
use Rattle.ob_query.specs.ReadArguments.{asked_by, asked_of, read_expects}
use Rattle.ob_schema.specs.Models.{HasField, model_at}
use Rattle.ob_query.proofs.reading.asked_rows.Goals as goal

pub returns-in_err-given-clause-asked : goal.returns-in_err-given-clause-asked
returns-in_err-given-clause-asked c =
    let p = err_from_is_err_and c.from_residual.result c.from_residual.ensures.1 in
    let models = c.args.schema.now in
    let call = c.args.call.now in
    let told = rw c.read_parameters-expected.ensures.expects at c.in_err-given.ensures.told in
    rw (p.1, p.2) (denied_by c.args.by models call.model (λ (given : Vec (Option Given) Global). all_given_of given.items) (StandsForRead c.args.by call.model) read_expects (λ info gs. asked_by info gs)
    (λ info. read_named (called_by call info)) (view call.args.now) (view call.kw.now) c.in_err-given.field-0.0 told)

pub returns-in_err-granted-clause-asked : goal.returns-in_err-granted-clause-asked
returns-in_err-granted-clause-asked c =
    let p = err_from_is_err_and c.from_residual-in_err-granted.result c.from_residual-in_err-granted.ensures.1 in
    let models = c.args.schema.now in
    let call = c.args.call.now in
    let by = c.args.by in
    let items = c.in_ok-given.given.items in
    let expects = c.read_parameters-expected.ensures.expects in
    let given = rw expects at c.in_ok-given.ensures.told in
    let fit = rw expects at c.in_ok-given.ensures.fit in
    let three = three_given (fields_at models call.model) items fit in
    let first = c.in-Some.ids in
    let second = c.index-2.result.now in
    let are = three_are items three first second (rw c.in-Some.is at c.index.ensures) c.index-2.ensures in
    let named = named_read models call items first second three.third are given in
    let pairs = in_turn (read_pairs (fields_at models call.model) call.model second) in
    let naming = c.in_ok-names_naming.field-0 in
    let one = named_is naming (is_first (option_map given_of second)) (map (step_at call.model) (option_map_or (λ g. name_fields (fields_at models call.model) g.json) (option_map given_of second) []))
    c.in_ok-names_naming.ensures.positioned c.in_ok-names_naming.ensures.fields in
    let names = one_name naming naming naming _ _ _ one one one in
    let why = c.in_err-granted.field-0.0 in
    rw (p.1, p.2) (IfSome_then (model_at models call.model) named
    (λ info is. denied_asked by call.model pairs ⊤ (StandsForRead by call.model info) (asked_of (called_by call info)) (read_named (called_by call info)) is why
    (subst (λ (fields : List Step). IsGranted {T = ⊤} by call.model fields (Err why)) names c.in_err-granted.ensures)))

pub returns-clause-asked : goal.returns-clause-asked
returns-clause-asked c =
    let models = c.args.schema.now in
    let call = c.args.call.now in
    let by = c.args.by in
    let items = c.in_ok-given.given.items in
    let expects = c.read_parameters-expected.ensures.expects in
    let given = rw expects at c.in_ok-given.ensures.told in
    let fit = rw expects at c.in_ok-given.ensures.fit in
    let three = three_given (fields_at models call.model) items fit in
    let first = c.in-Some.ids in
    let second = c.index-2.result.now in
    let are = three_are items three first second (rw c.in-Some.is at c.index.ensures) c.index-2.ensures in
    let named = named_read models call items first second three.third are given in
    let pairs = in_turn (read_pairs (fields_at models call.model) call.model second) in
    let naming = c.in_ok-names_naming.field-0 in
    let one = named_is naming (is_first (option_map given_of second)) (map (step_at call.model) (option_map_or (λ g. name_fields (fields_at models call.model) g.json) (option_map given_of second) []))
    c.in_ok-names_naming.ensures.positioned c.in_ok-names_naming.ensures.fields in
    let names = one_name naming naming naming _ _ _ one one one in
    let ids = c.in_ok-ids.ids.items in
    let numbers = c.in_ok-fields.fields.items in
    let may = λ (field : FieldNo). may_read_field by (step_at call.model field) in
    let told = c.in_ok-fields-2.ensures ∙ ap (filter may) c.as_slice.ensures.value in
    let meant = taken_read models call items first second three.third are given ids numbers c.in_ok-ids.ensures c.in_ok-fields.ensures.fields in
    let asked : Asked = record { by = by; model = call.model; ids = c.in_ok-ids.ids; fields = c.in_ok-fields-2.fields } in
    let Own = IsToldRead by call.model ids numbers in
    let granted = subst (λ (fields : List Step). IsGranted by call.model fields (Ok c.in_ok-granted.field-0)) names c.in_ok-granted.ensures in
    allowed_in by call.model (model_at models call.model) (StandsForRead by call.model) (λ info. asked_of (called_by call info)) (λ info. read_named (called_by call info)) pairs Own (λ info. meant_by info ids numbers) (Ok asked) meant named
    (λ info own is. read_stands by call.model info ids numbers own is) (granted_allowed by call.model pairs c.in_ok-granted.field-0 Own (Ok asked) granted (refl, told) tt)

pub returns-clause-over : goal.returns-clause-over
returns-clause-over c =
    let models = c.args.schema.now in
    let model = c.args.call.now.model in
    let by = c.args.by in
    let may = λ (field : FieldNo). may_read_field by (step_at model field) in
    let told = c.in_ok-fields-2.ensures ∙ ap (filter may) c.as_slice.ensures.value in
    record { policy = c.requires.policy; model = c.requires.model; fields = subst (All (HasField models model)) (sym told) (All-filter may (HasField models model) c.in_ok-fields.fields.items c.in_ok-fields.ensures.there) }
