use Rattle.std.proofs.Common.{◌≡◌, ℕ, List, Ok, Result, Some, None, ap, drop, false, refl, rules, subst, sym, true, ◌∙◌}
use Rattle.ob_base.specs.declared.id.RecId.{RecId}
use Rattle.std.specs.Prelude.{IsOk, Option}
use Rattle.ob_cache.specs.Calls.{standpoint}
use Rattle.ob_rpc.specs.Envelope.{is_text}
use Rattle.serde_json.specs.Data.{Data}
use Rattle.serde_json.specs.Find.{as_str}
use Rattle.serde_json.specs.View.{items_view, view}
use Rattle.serde_json.specs.declared.value.Value.{Value}
use Rattle.ob_server.specs.Request.{login_of, user_json}
use Rattle.ob_server.proofs.Directories.{of_each, then_of}
use Rattle.ob_server.proofs.LoginFound.{few_of_login, login_told, no_key, no_login, no_login_database, three_and_rest}
use Rattle.ob_server.proofs.service.login_of.Goals as goal

pub returns-in_default-clause-found : goal.returns-in_default-clause-found
returns-in_default-clause-found g c = of_each (standpoint g.K.Keeper c.args.engine.now) _ (λ directory. few_of_login c.args.database.now directory c.args.elements.now c.in_default.len_below)

pub returns-then-not-is_text-clause-found : goal.returns-then-not-is_text-clause-found
returns-then-not-is_text-clause-found g c =
    let engine = c.args.engine.now in
    let whole = three_and_rest c.args.elements.now c.db-item.result c.login-item.result c.key-item.result c.in-len3-up.len_at_least
    (record { first = c.db-item.is; second = c.login-item.is; third = c.key-item.is }) in
    let other : is_text c.args.database.now (view c.db-item.result) ≡ false = search rules in
    of_each (standpoint g.K.Keeper engine) _ (λ directory. ap (λ (xs : List Value). login_of c.args.database.now directory (items_view xs)) whole ∙ no_login_database c.args.database.now directory (view c.db-item.result) (view c.login-item.result) (view c.key-item.result) (items_view (drop 3 c.args.elements.now)) other)

pub returns-in_default-as_str-clause-found : goal.returns-in_default-as_str-clause-found
returns-in_default-as_str-clause-found g c =
    let engine = c.args.engine.now in
    let whole = three_and_rest c.args.elements.now c.db-item.result c.login-item.result c.key-item.result c.in-len3-up.len_at_least
    (record { first = c.db-item.is; second = c.login-item.is; third = c.key-item.is }) in
    let is_db : is_text c.args.database.now (view c.db-item.result) ≡ true = search rules in
    let none : as_str (view c.login-item.result) ≡ None = sym (rw c.in_default-as_str.is at c.as_str.ensures) in
    of_each (standpoint g.K.Keeper engine) _ (λ directory. ap (λ (xs : List Value). login_of c.args.database.now directory (items_view xs)) whole ∙ no_login c.args.database.now directory (view c.db-item.result) (view c.login-item.result) (view c.key-item.result) (items_view (drop 3 c.args.elements.now)) is_db none)

pub returns-in_default-as_str-2-clause-found : goal.returns-in_default-as_str-2-clause-found
returns-in_default-as_str-2-clause-found g c =
    let engine = c.args.engine.now in
    let whole = three_and_rest c.args.elements.now c.db-item.result c.login-item.result c.key-item.result c.in-len3-up.len_at_least
    (record { first = c.db-item.is; second = c.login-item.is; third = c.key-item.is }) in
    let is_db : is_text c.args.database.now (view c.db-item.result) ≡ true = search rules in
    let name : as_str (view c.login-item.result) ≡ Some c.in-Some.login.now = sym (rw c.in-Some.is at c.as_str.ensures) in
    let none : as_str (view c.key-item.result) ≡ None = sym (rw c.in_default-as_str-2.is at c.as_str-2.ensures) in
    of_each (standpoint g.K.Keeper engine) _ (λ directory. ap (λ (xs : List Value). login_of c.args.database.now directory (items_view xs)) whole ∙ no_key c.args.database.now directory (view c.db-item.result) (view c.login-item.result) (view c.key-item.result) (items_view (drop 3 c.args.elements.now)) is_db c.in-Some.login.now name none)

pub returns-in-Ok-clause-found : goal.returns-in-Ok-clause-found
returns-in-Ok-clause-found g c =
    let engine = c.args.engine.now in
    let whole = three_and_rest c.args.elements.now c.db-item.result c.login-item.result c.key-item.result c.in-len3-up.len_at_least
    (record { first = c.db-item.is; second = c.login-item.is; third = c.key-item.is }) in
    let is_db : is_text c.args.database.now (view c.db-item.result) ≡ true = search rules in
    let name : as_str (view c.login-item.result) ≡ Some c.in-Some.login.now = sym (rw c.in-Some.is at c.as_str.ensures) in
    let word : as_str (view c.key-item.result) ≡ Some c.in-Some-as_str.key.now = sym (rw c.in-Some-as_str.is at c.as_str-2.ensures) in
    then_of (standpoint g.K.Keeper engine) _ _
    (λ directory is. ap (λ (xs : List Value). login_of c.args.database.now directory (items_view xs)) whole ∙ login_told c.args.database.now directory (view c.db-item.result) (view c.login-item.result) (view c.key-item.result) (items_view (drop 3 c.args.elements.now)) is_db c.in-Some.login.now name c.in-Some-as_str.key.now word
    ∙ ap (λ (user : Option RecId). Ok (user_json user)) (sym is) ∙ ap Ok (sym c.user_json.ensures.told))
    c.in-Ok.ensures.found

pub returns-in-Err-clause-found : goal.returns-in-Err-clause-found
returns-in-Err-clause-found g c =
    let engine = c.args.engine.now in
    let whole = three_and_rest c.args.elements.now c.db-item.result c.login-item.result c.key-item.result c.in-len3-up.len_at_least
    (record { first = c.db-item.is; second = c.login-item.is; third = c.key-item.is }) in
    let is_db : is_text c.args.database.now (view c.db-item.result) ≡ true = search rules in
    let name : as_str (view c.login-item.result) ≡ Some c.in-Some.login.now = sym (rw c.in-Some.is at c.as_str.ensures) in
    let word : as_str (view c.key-item.result) ≡ Some c.in-Some-as_str.key.now = sym (rw c.in-Some-as_str.is at c.as_str-2.ensures) in
    of_each (standpoint g.K.Keeper engine) _
    (λ directory. subst (λ (told : Result Data ℕ). IsOk told)
    (sym (ap (λ (xs : List Value). login_of c.args.database.now directory (items_view xs)) whole ∙ login_told c.args.database.now directory (view c.db-item.result) (view c.login-item.result) (view c.key-item.result) (items_view (drop 3 c.args.elements.now)) is_db c.in-Some.login.now name c.in-Some-as_str.key.now word)) refl)
