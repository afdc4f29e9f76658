-- A reply's text is its pieces, one after another.
use Rattle.std.proofs.Common.{◌≡◌, List, ℕ, [], ◌++◌, codes, append_assoc, refl, ap}
use Rattle.std.specs.Fmt.{digits}
use Rattle.serde_json.specs.Data.{Data, string}
use Rattle.serde_json.specs.Written.{compact_text}
use Rattle.serde_json.proofs.OnLiterals.{serde_json_on_literals}
use Rattle.ob_rpc.specs.Reply.{result, error, reply_form}

pub result_pieces : (id value : Data) (a b : List ℕ) → a ≡ compact_text id → b ≡ compact_text value
    → codes "{\"id\":" ++ (a ++ (codes ",\"jsonrpc\":\"2.0\",\"result\":" ++ (b ++ (codes "}" ++ [])))) ≡ reply_form id (result value)
unfolding serde_json_on_literals
result_pieces id value a b ea eb = rw (ea, eb) refl

regroup : (a q b r s t : List ℕ) → a ++ (q ++ (b ++ (r ++ (s ++ t)))) ≡ ((a ++ (q ++ (b ++ r))) ++ s) ++ t
regroup a q b r s t = simp append_assoc

pub error_pieces : (id : Data) (name message a b c : List ℕ) → a ≡ compact_text (string message) → b ≡ compact_text (string name) → c ≡ compact_text id
    → codes "{\"error\":{\"code\":200,\"data\":{\"message\":" ++ (a ++ (codes ",\"name\":" ++ (b ++ (codes "},\"message\":\"Odoo Server Error\"},\"id\":" ++ (c ++
    (codes ",\"jsonrpc\":\"2.0\"}" ++ [])))))) ≡ reply_form id (error name message)
unfolding serde_json_on_literals digits
error_pieces id name message a b c ea eb ec =
    rw (ea, eb, ec)
    (ap (λ text. codes "{\"error\":{\"code\":200,\"data\":{\"message\":" ++ text)
    (regroup (compact_text (string message)) (codes ",\"name\":") (compact_text (string name)) (codes "}") (codes ",\"message\":\"Odoo Server Error\"}") (codes ",\"id\":" ++ (compact_text id ++ codes ",\"jsonrpc\":\"2.0\"}"))))
