use Rattle.std.proofs.Common.{◌≡◌, List, rules, sym, subst, drop, slice_get, Some, None, false, true, ap, ◌∙◌}
use Rattle.std.specs.Prelude.{option_and_then}
use Rattle.ob_cache.specs.Calls.{standpoint}
use Rattle.ob_rpc.specs.Envelope.{is_text}
use Rattle.ob_schema.specs.Models.{model_named}
use Rattle.serde_json.specs.Find.{as_str}
use Rattle.serde_json.specs.View.{view, items_view}
use Rattle.serde_json.specs.declared.value.Value.{Value}
use Rattle.ob_server.specs.MethodCall.{LooksUpCaller}
use Rattle.ob_server.specs.Request.{call_of, method_named}
use Rattle.ob_server.specs.Setup.{over}
use Rattle.ob_server.proofs.CallFound.{call_found, few_elements, looks_up, named_first, no_caller, no_database, no_method, no_model, with_kw}
use Rattle.ob_server.proofs.Directories.{of_each, then_of}
use Rattle.ob_server.proofs.SixElements.{rest_after_six, six_and_rest}
use Rattle.ob_server.proofs.request.call_of.Goals as goal

pub returns-in_default-clause-found : goal.returns-in_default-clause-found
returns-in_default-clause-found g c =
    let engine = c.args.engine.now in
    of_each (standpoint g.K.Keeper engine) _ (λ directory. few_elements (over c.args.terms.now engine.held.models) directory c.args.layout c.args.elements.now c.in_default.len_below)

pub returns-then-not-is_text-clause-found : goal.returns-then-not-is_text-clause-found
returns-then-not-is_text-clause-found g c =
    let engine = c.args.engine.now in
    let models = engine.held.models in
    let setup = over c.args.terms.now models in
    let whole = six_and_rest c.args.elements.now c.db-item.result c.user-item.result c.key-item.result c.model-item.result c.method-item.result c.args-item.result c.in-len6-up.len_at_least
    (record { first = c.db-item.is; second = c.user-item.is; third = c.key-item.is; fourth = c.model-item.is; fifth = c.method-item.is; sixth = c.args-item.is }) in
    let other : is_text c.args.terms.now.database.now (view c.db-item.result) ≡ false = search rules in
    of_each (standpoint g.K.Keeper engine) _
    (λ directory. ap (λ (xs : List Value). call_of setup directory c.args.layout (items_view xs)) whole ∙ no_database setup directory c.args.layout (view c.db-item.result) (view c.user-item.result) (view c.key-item.result) (view c.model-item.result) (view c.method-item.result) (view c.args-item.result) (items_view (drop 6 c.args.elements.now)) other)

pub returns-in-Err-clause-found : goal.returns-in-Err-clause-found
returns-in-Err-clause-found g c =
    let engine = c.args.engine.now in
    let models = engine.held.models in
    let setup = over c.args.terms.now models in
    let whole = six_and_rest c.args.elements.now c.db-item.result c.user-item.result c.key-item.result c.model-item.result c.method-item.result c.args-item.result c.in-len6-up.len_at_least
    (record { first = c.db-item.is; second = c.user-item.is; third = c.key-item.is; fourth = c.model-item.is; fifth = c.method-item.is; sixth = c.args-item.is }) in
    let is_db : is_text c.args.terms.now.database.now (view c.db-item.result) ≡ true = search rules in
    of_each (standpoint g.K.Keeper engine) _
    (λ directory. subst LooksUpCaller (sym (ap (λ (xs : List Value). call_of setup directory c.args.layout (items_view xs)) whole)) (looks_up setup directory c.args.layout (view c.db-item.result) (view c.user-item.result) (view c.key-item.result) (view c.model-item.result) (view c.method-item.result) (view c.args-item.result) (items_view (drop 6 c.args.elements.now)) is_db))

pub returns-in-Ok-None-clause-found : goal.returns-in-Ok-None-clause-found
returns-in-Ok-None-clause-found g c =
    let engine = c.args.engine.now in
    let models = engine.held.models in
    let setup = over c.args.terms.now models in
    let whole = six_and_rest c.args.elements.now c.db-item.result c.user-item.result c.key-item.result c.model-item.result c.method-item.result c.args-item.result c.in-len6-up.len_at_least
    (record { first = c.db-item.is; second = c.user-item.is; third = c.key-item.is; fourth = c.model-item.is; fifth = c.method-item.is; sixth = c.args-item.is }) in
    let is_db : is_text c.args.terms.now.database.now (view c.db-item.result) ≡ true = search rules in
    then_of (standpoint g.K.Keeper engine) _ _
    (λ directory none. ap (λ (xs : List Value). call_of setup directory c.args.layout (items_view xs)) whole ∙ no_caller setup directory c.args.layout (view c.db-item.result) (view c.user-item.result) (view c.key-item.result) (view c.model-item.result) (view c.method-item.result) (view c.args-item.result) (items_view (drop 6 c.args.elements.now)) is_db (sym none))
    (rw c.in-Ok-None.field-0-is at c.in-Ok-None.ensures.found)

pub returns-in_default-model_named-clause-found : goal.returns-in_default-model_named-clause-found
returns-in_default-model_named-clause-found g c =
    let engine = c.args.engine.now in
    let models = engine.held.models in
    let setup = over c.args.terms.now models in
    let whole = six_and_rest c.args.elements.now c.db-item.result c.user-item.result c.key-item.result c.model-item.result c.method-item.result c.args-item.result c.in-len6-up.len_at_least
    (record { first = c.db-item.is; second = c.user-item.is; third = c.key-item.is; fourth = c.model-item.is; fifth = c.method-item.is; sixth = c.args-item.is }) in
    let is_db : is_text c.args.terms.now.database.now (view c.db-item.result) ≡ true = search rules in
    let schema = c.schema-schema.ensures ∙ c.in-Ok-Some.ensures.asked.same.models in
    let caller = rw c.in-Ok-Some.field-0-is at c.in-Ok-Some.ensures.found in
    let none : option_and_then (model_named models) (as_str (view c.model-item.result)) ≡ None = rw schema at (sym c.model_named.ensures.found ∙ c.in_default-model_named.is) in
    then_of (standpoint g.K.Keeper engine) _ _
    (λ directory is. ap (λ (xs : List Value). call_of setup directory c.args.layout (items_view xs)) whole ∙ no_model setup directory c.args.layout (view c.db-item.result) (view c.user-item.result) (view c.key-item.result) (view c.model-item.result) (view c.method-item.result) (view c.args-item.result) (items_view (drop 6 c.args.elements.now)) is_db c.in-Ok-Some.caller (sym is) none)
    caller

pub returns-in_default-method_named-clause-found : goal.returns-in_default-method_named-clause-found
returns-in_default-method_named-clause-found g c =
    let engine = c.args.engine.now in
    let models = engine.held.models in
    let setup = over c.args.terms.now models in
    let whole = six_and_rest c.args.elements.now c.db-item.result c.user-item.result c.key-item.result c.model-item.result c.method-item.result c.args-item.result c.in-len6-up.len_at_least
    (record { first = c.db-item.is; second = c.user-item.is; third = c.key-item.is; fourth = c.model-item.is; fifth = c.method-item.is; sixth = c.args-item.is }) in
    let is_db : is_text c.args.terms.now.database.now (view c.db-item.result) ≡ true = search rules in
    let schema = c.schema-schema.ensures ∙ c.in-Ok-Some.ensures.asked.same.models in
    let caller = rw c.in-Ok-Some.field-0-is at c.in-Ok-Some.ensures.found in
    let found : option_and_then (model_named models) (as_str (view c.model-item.result)) ≡ Some c.in-Some.model = rw schema at (sym c.in-Some.ensures.found) in
    let named : method_named (view c.method-item.result) ≡ None = sym c.method_named.ensures ∙ c.in_default-method_named.is in
    then_of (standpoint g.K.Keeper engine) _ _
    (λ directory is. ap (λ (xs : List Value). call_of setup directory c.args.layout (items_view xs)) whole ∙ no_method setup directory c.args.layout (view c.db-item.result) (view c.user-item.result) (view c.key-item.result) (view c.model-item.result) (view c.method-item.result) (view c.args-item.result) (items_view (drop 6 c.args.elements.now)) is_db c.in-Ok-Some.caller (sym is) c.in-Some.model found named)
    caller

pub returns-clause-found : goal.returns-clause-found
returns-clause-found g c =
    let engine = c.args.engine.now in
    let models = engine.held.models in
    let setup = over c.args.terms.now models in
    let whole = six_and_rest c.args.elements.now c.db-item.result c.user-item.result c.key-item.result c.model-item.result c.method-item.result c.args-item.result c.in-len6-up.len_at_least
    (record { first = c.db-item.is; second = c.user-item.is; third = c.key-item.is; fourth = c.model-item.is; fifth = c.method-item.is; sixth = c.args-item.is }) in
    let is_db : is_text c.args.terms.now.database.now (view c.db-item.result) ≡ true = search rules in
    let schema = c.schema-schema.ensures ∙ c.in-Ok-Some.ensures.asked.same.models in
    let caller = rw c.in-Ok-Some.field-0-is at c.in-Ok-Some.ensures.found in
    let found : option_and_then (model_named models) (as_str (view c.model-item.result)) ≡ Some c.in-Some.model = rw schema at (sym c.in-Some.ensures.found) in
    let named : method_named (view c.method-item.result) ≡ Some c.in-Some-method_named.method = sym c.in-Some-method_named.ensures in
    then_of (standpoint g.K.Keeper engine) _ _
    (λ directory is. ap (λ (xs : List Value). call_of setup directory c.args.layout (items_view xs)) whole
    ∙ call_found setup directory c.args.layout (view c.db-item.result) (view c.user-item.result) (view c.key-item.result) (view c.model-item.result) (view c.method-item.result) (view c.args-item.result) (items_view (drop 6 c.args.elements.now)) is_db c.in-Ok-Some.caller (sym is) c.in-Some.model found c.in-Some-method_named.method named
    ∙ ap (with_kw c.in-Ok-Some.caller c.args.layout c.in-Some.model c.in-Some-method_named.method (view c.args-item.result)) (named_first (drop 6 c.args.elements.now) c.first.result (c.first.ensures.value ∙ ap
    (λ left. slice_get left 0) (rest_after_six c.args.elements.now))))
    caller

pub returns-clause-model : goal.returns-clause-model
returns-clause-model g c = let schema = c.schema-schema.ensures ∙ c.in-Ok-Some.ensures.asked.same.models in rw schema at c.in-Some.ensures.there
