use Rattle.std.proofs.Common.{◌≡◌, codes, false, refl, rules, sym, true}
use Rattle.std.proofs.lemmas.Int.{to_z-of_z}
use Rattle.std.specs.Prelude.{bytes_eq}
use Rattle.ob_cache.specs.Calls.{standpoint}
use Rattle.serde_json.specs.View.{items_view, view}
use Rattle.ob_server.specs.Directory.{nobody}
use Rattle.ob_server.specs.Request.{is_login, told_of, version_json}
use Rattle.ob_server.specs.Setup.{over}
use Rattle.ob_server.proofs.AnswerLaws.{asked_same, asks_listed, asks_login, asks_spread, asks_version, plainly_replies, plainly_serves, replied_same, replies_same}
use Rattle.ob_server.proofs.answering.serve.Goals as goal

pub returns-then-eq-clause-served : goal.returns-then-eq-clause-served
returns-then-eq-clause-served g c = λ tables rests.
    let setup = over c.args.terms.now c.args.engine.now.held.models in
    let id = view c.args.envelope.id in
    let is : bytes_eq c.args.envelope.method (codes "version") ≡ true = search rules in
    rw (asks_version setup _ id c.args.envelope.method (items_view c.args.envelope.args) is)
    (plainly_serves setup tables _ _ (told_of id version_json) _ _ _ rests c.version_told.ensures)

pub returns-then-eq-clause-causes : goal.returns-then-eq-clause-causes
returns-then-eq-clause-causes g c =
    let setup = over c.args.terms.now c.args.engine.now.held.models in
    let id = view c.args.envelope.id in
    let is : bytes_eq c.args.envelope.method (codes "version") ≡ true = search rules in
    (nobody, replies_same setup _ c.args.now c.args.now _ _ _ refl (sym (asks_version setup nobody id c.args.envelope.method (items_view c.args.envelope.args) is)) (plainly_replies setup _ c.args.now (told_of id version_json) _ c.version_told.ensures))

pub returns-then-is_login-clause-served : goal.returns-then-is_login-clause-served
returns-then-is_login-clause-served g c =
    let setup = over c.args.terms.now c.args.engine.now.held.models in
    let id = view c.args.envelope.id in
    let other : bytes_eq c.args.envelope.method (codes "version") ≡ false = search rules in
    let is : is_login c.args.envelope.method ≡ true = search rules in
    let served = rw c.as_slice.ensures at c.serve_login.ensures.served in
    asked_same c.args.terms.now _ _ _ _ _ _ _ (to_z-of_z _ _ c.ranges.now) (λ directory. sym (asks_login setup directory id c.args.envelope.method (items_view c.args.envelope.args) other is)) (served _)

pub returns-then-is_login-clause-causes : goal.returns-then-is_login-clause-causes
returns-then-is_login-clause-causes g c =
    let setup = over c.args.terms.now c.args.engine.now.held.models in
    let id = view c.args.envelope.id in
    let other : bytes_eq c.args.envelope.method (codes "version") ≡ false = search rules in
    let is : is_login c.args.envelope.method ≡ true = search rules in
    let causes = rw c.as_slice.ensures at c.serve_login.ensures.causes in
    replied_same c.args.terms.now (standpoint g.K.Keeper c.args.engine.now) (standpoint g.K.Keeper c.serve_login.new.engine) _ _ _ _ _ (to_z-of_z _ _ c.ranges.now) (λ directory. sym (asks_login setup directory id c.args.envelope.method (items_view c.args.envelope.args) other is)) (causes _)

pub returns-then-eq-2-clause-served : goal.returns-then-eq-2-clause-served
returns-then-eq-2-clause-served g c =
    let setup = over c.args.terms.now c.args.engine.now.held.models in
    let id = view c.args.envelope.id in
    let other : bytes_eq c.args.envelope.method (codes "version") ≡ false = search rules in
    let no_login : is_login c.args.envelope.method ≡ false = search rules in
    let is : bytes_eq c.args.envelope.method (codes "execute") ≡ true = search rules in
    asked_same c.args.terms.now _ _ _ _ _ _ _ (to_z-of_z _ _ c.ranges.now) (λ directory. sym (asks_spread setup directory id c.args.envelope.method (items_view c.args.envelope.args) other no_login is)) c.serve_spread.ensures.served

pub returns-then-eq-2-clause-causes : goal.returns-then-eq-2-clause-causes
returns-then-eq-2-clause-causes g c =
    let setup = over c.args.terms.now c.args.engine.now.held.models in
    let id = view c.args.envelope.id in
    let other : bytes_eq c.args.envelope.method (codes "version") ≡ false = search rules in
    let no_login : is_login c.args.envelope.method ≡ false = search rules in
    let is : bytes_eq c.args.envelope.method (codes "execute") ≡ true = search rules in
    replied_same c.args.terms.now (standpoint g.K.Keeper c.args.engine.now) (standpoint g.K.Keeper c.serve_spread.new.engine) _ _ _ _ _ (to_z-of_z _ _ c.ranges.now) (λ directory. sym (asks_spread setup directory id c.args.envelope.method (items_view c.args.envelope.args) other no_login is)) c.serve_spread.ensures.causes

pub returns-clause-served : goal.returns-clause-served
returns-clause-served g c =
    let setup = over c.args.terms.now c.args.engine.now.held.models in
    let id = view c.args.envelope.id in
    let other : bytes_eq c.args.envelope.method (codes "version") ≡ false = search rules in
    let no_login : is_login c.args.envelope.method ≡ false = search rules in
    let no_spread : bytes_eq c.args.envelope.method (codes "execute") ≡ false = search rules in
    let served = rw c.as_slice-2.ensures at c.serve_elements.ensures.served in
    asked_same c.args.terms.now _ _ _ _ _ _ _ (to_z-of_z _ _ c.ranges.now) (λ directory. sym (asks_listed setup directory id c.args.envelope.method (items_view c.args.envelope.args) other no_login no_spread)) served

pub returns-clause-causes : goal.returns-clause-causes
returns-clause-causes g c =
    let setup = over c.args.terms.now c.args.engine.now.held.models in
    let id = view c.args.envelope.id in
    let other : bytes_eq c.args.envelope.method (codes "version") ≡ false = search rules in
    let no_login : is_login c.args.envelope.method ≡ false = search rules in
    let no_spread : bytes_eq c.args.envelope.method (codes "execute") ≡ false = search rules in
    let causes = rw c.as_slice-2.ensures at c.serve_elements.ensures.causes in
    replied_same c.args.terms.now (standpoint g.K.Keeper c.args.engine.now) (standpoint g.K.Keeper c.serve_elements.new.engine) _ _ _ _ _ (to_z-of_z _ _ c.ranges.now) (λ directory. sym (asks_listed setup directory id c.args.envelope.method (items_view c.args.envelope.args) other no_login no_spread)) causes
