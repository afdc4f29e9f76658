-- Each check as the request's head decides it.
use Rattle.std.proofs.Common.{◌≡◌, Ok, Err, true, false, sym, ap, ◌∙◌, codes}
use Rattle.std.specs.Bool.{◌==◌}
use Rattle.std.specs.List.{before_first}
use Rattle.std.specs.Str.{bytes_eq}
use Rattle.std.proofs.lemmas.Bool.{not-false, not-true}
use Rattle.std.proofs.lemmas.Result.{err_from_is_err_and}
use Rattle.ob_http.specs.Message.{path_of}
use Rattle.ob_http.proofs.Messages.{length_asked, elsewhere, not_posted, no_length, of_length, length_is, keeps_is, expects_is, compared}
use Rattle.ob_http.proofs.head.message_of.Goals as goal

pub returns-then-ne : goal.returns-then-ne
returns-then-ne c = λ head covers.
    let path : c.path_of.result.now ≡ path_of head = c.path_of.ensures ∙ ap (before_first (λ byte. byte == 63)) (c.of.ensures ∙ covers.path) in
    sym (elsewhere head (not-true (bytes_eq (path_of head) (codes "/jsonrpc"))
    (compared c.path_of.result.now c.as_slice.result.now (path_of head) (codes "/jsonrpc") c.ne.result true path c.as_slice.ensures c.ne.ensures c.if-ne.true)))

pub returns-then-ne-2 : goal.returns-then-ne-2
returns-then-ne-2 c = λ head covers.
    let path : c.path_of.result.now ≡ path_of head = c.path_of.ensures ∙ ap (before_first (λ byte. byte == 63)) (c.of.ensures ∙ covers.path) in
    let here : bytes_eq (path_of head) (codes "/jsonrpc") ≡ true = not-false (bytes_eq (path_of head) (codes "/jsonrpc"))
    (compared c.path_of.result.now c.as_slice.result.now (path_of head) (codes "/jsonrpc") c.ne.result false path c.as_slice.ensures c.ne.ensures c.if-ne.false) in
    sym (not_posted head here (not-true (bytes_eq head.method (codes "POST"))
    (compared c.of-2.result.now c.as_slice-2.result.now head.method (codes "POST") c.ne-2.result true (c.of-2.ensures ∙ covers.method) c.as_slice-2.ensures c.ne-2.ensures c.if-ne-2.true)))

pub returns-in_err-length : goal.returns-in_err-length
returns-in_err-length c = λ head covers.
    let path : c.path_of.result.now ≡ path_of head = c.path_of.ensures ∙ ap (before_first (λ byte. byte == 63)) (c.of.ensures ∙ covers.path) in
    let here : bytes_eq (path_of head) (codes "/jsonrpc") ≡ true = not-false (bytes_eq (path_of head) (codes "/jsonrpc"))
    (compared c.path_of.result.now c.as_slice.result.now (path_of head) (codes "/jsonrpc") c.ne.result false path c.as_slice.ensures c.ne.ensures c.if-ne.false) in
    let posted : bytes_eq head.method (codes "POST") ≡ true = not-false (bytes_eq head.method (codes "POST"))
    (compared c.of-2.result.now c.as_slice-2.result.now head.method (codes "POST") c.ne-2.result false (c.of-2.ensures ∙ covers.method) c.as_slice-2.ensures c.ne-2.ensures c.if-ne-2.false) in
    let told : length_asked head ≡ Err c.in_err-length.field-0.0 = sym (length_is c.args.bytes.now c.args.spans.now head covers.fields) ∙ sym c.length_of.ensures ∙ c.in_err-length.was in
    let error = err_from_is_err_and c.from_residual.result c.from_residual.ensures.1 in
    rw (error.1, error.2) (sym (no_length head c.in_err-length.field-0.0 here posted told))

pub returns : goal.returns
returns c = λ head covers.
    let path : c.path_of.result.now ≡ path_of head = c.path_of.ensures ∙ ap (before_first (λ byte. byte == 63)) (c.of.ensures ∙ covers.path) in
    let here : bytes_eq (path_of head) (codes "/jsonrpc") ≡ true = not-false (bytes_eq (path_of head) (codes "/jsonrpc"))
    (compared c.path_of.result.now c.as_slice.result.now (path_of head) (codes "/jsonrpc") c.ne.result false path c.as_slice.ensures c.ne.ensures c.if-ne.false) in
    let posted : bytes_eq head.method (codes "POST") ≡ true = not-false (bytes_eq head.method (codes "POST"))
    (compared c.of-2.result.now c.as_slice-2.result.now head.method (codes "POST") c.ne-2.result false (c.of-2.ensures ∙ covers.method) c.as_slice-2.ensures c.ne-2.ensures c.if-ne-2.false) in
    let told : length_asked head ≡ Ok c.in_ok-length.length = sym (length_is c.args.bytes.now c.args.spans.now head covers.fields) ∙ sym c.length_of.ensures ∙ c.in_ok-length.was in
    of_length head c.in_ok-length.length c.keeps_open.result c.expects_interim.result here posted told
    (c.keeps_open.ensures ∙ keeps_is c.args.bytes.now c.args.spans.now c.args.request.version head covers.fields covers.version)
    (c.expects_interim.ensures ∙ expects_is c.args.bytes.now c.args.spans.now c.args.request.version head covers.fields covers.version)
