use Rattle.std.proofs.Common.{◌≡◌, List, [], ◌∷◌, map, Option, option_map, Ok, Err, arith, rules, sym, subst, ap, ◌∙◌}
use Rattle.std.specs.Prelude.{⊤, IfErr, IfOk}
use Rattle.std.specs.Option.{option_map_or}
use Rattle.std.proofs.lemmas.Result.{IfOk-at_ok, err_from_is_err_and}
use Rattle.ob_base.specs.declared.refusal.Refusal.TheVariants as refusal
use Rattle.ob_call.specs.ArgumentsSteps.{given_of}
use Rattle.ob_call.specs.Forms.{fields_at}
use Rattle.ob_domain.specs.Naming.{named_fields}
use Rattle.ob_domain.specs.Trees.{tree_of_domain}
use Rattle.ob_query.proofs.GrantedFields.{denied_allowed, granted_allowed}
use Rattle.ob_query.proofs.NamedBy.{named_is, three_names}
use Rattle.ob_query.specs.Callers.{IsGranted, in_turn, is_first}
use Rattle.ob_query.specs.NamedFields.{name_fields}
use Rattle.ob_query.specs.SearchParts.{IsToldObjects}
use Rattle.ob_query.specs.declared.naming.Naming.{Naming}
use Rattle.ob_schema.specs.Paths.{step_at}
use Rattle.ob_schema.specs.declared.info.OrderTerm.{OrderTerm}
use Rattle.ob_schema.specs.declared.info.Step.{Step}
use Rattle.ob_query.proofs.searching.allowed_objects.Goals as goal

pub returns-in_err-granted : goal.returns-in_err-granted
returns-in_err-granted c =
    let p = err_from_is_err_and c.from_residual-in_err-granted.result c.from_residual-in_err-granted.ensures.1 in
    let sought = c.args.asked.sought in
    let by = sought.by in
    let model = sought.model in
    let infos = fields_at c.args.schema.now model in
    let domain = option_map given_of c.args.arguments.domain in
    let fields = option_map given_of c.args.fields in
    let order = option_map given_of c.args.arguments.order in
    let a = c.in_ok-domain_naming.field-0 in
    let b = c.in_ok-names_naming.field-0 in
    let d = c.in_ok-order_naming.field-0 in
    let by_domain = named_fields model (tree_of_domain sought.domain) in
    let by_names = map (step_at model) (option_map_or (λ g. name_fields infos g.json) fields []) in
    let by_order = option_map_or (λ g. map (λ (term : OrderTerm). step_at model term.field) sought.order) order [] in
    let one = named_is a (is_first domain) by_domain c.in_ok-domain_naming.ensures.positioned c.in_ok-domain_naming.ensures.fields in
    let two = named_is b (is_first fields) by_names c.in_ok-names_naming.ensures.positioned c.in_ok-names_naming.ensures.fields in
    let terms = λ (own : List OrderTerm). option_map_or (λ g. map (λ (term : OrderTerm). step_at model term.field) own) order [] in
    let three = named_is d (is_first order) by_order c.in_ok-order_naming.ensures.positioned (c.in_ok-order_naming.ensures.fields ∙ ap terms c.as_slice.ensures) in
    let pairs = in_turn ((is_first domain, by_domain) ∷ (is_first fields, by_names) ∷ (is_first order, by_order) ∷ []) in
    let names = three_names a b d _ _ _ one two three in
    let why = c.in_err-granted.field-0.0 in
    rw (p.1, p.2) (denied_allowed by model pairs ⊤ (IsToldObjects c.args.asked) why (subst (λ (fields : List Step). IsGranted {T = ⊤} by model fields (Err why)) names c.in_err-granted.ensures))

pub returns : goal.returns
returns c =
    let sought = c.args.asked.sought in
    let by = sought.by in
    let model = sought.model in
    let infos = fields_at c.args.schema.now model in
    let domain = option_map given_of c.args.arguments.domain in
    let fields = option_map given_of c.args.fields in
    let order = option_map given_of c.args.arguments.order in
    let a = c.in_ok-domain_naming.field-0 in
    let b = c.in_ok-names_naming.field-0 in
    let d = c.in_ok-order_naming.field-0 in
    let by_domain = named_fields model (tree_of_domain sought.domain) in
    let by_names = map (step_at model) (option_map_or (λ g. name_fields infos g.json) fields []) in
    let by_order = option_map_or (λ g. map (λ (term : OrderTerm). step_at model term.field) sought.order) order [] in
    let one = named_is a (is_first domain) by_domain c.in_ok-domain_naming.ensures.positioned c.in_ok-domain_naming.ensures.fields in
    let two = named_is b (is_first fields) by_names c.in_ok-names_naming.ensures.positioned c.in_ok-names_naming.ensures.fields in
    let terms = λ (own : List OrderTerm). option_map_or (λ g. map (λ (term : OrderTerm). step_at model term.field) own) order [] in
    let three = named_is d (is_first order) by_order c.in_ok-order_naming.ensures.positioned (c.in_ok-order_naming.ensures.fields ∙ ap terms c.as_slice.ensures) in
    let pairs = in_turn ((is_first domain, by_domain) ∷ (is_first fields, by_names) ∷ (is_first order, by_order) ∷ []) in
    let names = three_names a b d _ _ _ one two three in
    granted_allowed by model pairs c.in_ok-granted.field-0 (IsToldObjects c.args.asked) (Ok c.in_ok-told_objects.field-0) (subst (λ (fields : List Step). IsGranted by model fields (Ok c.in_ok-granted.field-0)) names c.in_ok-granted.ensures) c.in_ok-told_objects.ensures tt
