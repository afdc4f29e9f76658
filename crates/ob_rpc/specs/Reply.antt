-- What a reply is.
use Rattle.std.specs.Prelude.{◌≡◌, ◌≢◌, ℕ, List, codes, false}
use Rattle.std.specs.List.{AllByRecursion}
use Rattle.serde_json.specs.Data.{unsigned, Data, number, string, object, no_members, member}
use Rattle.serde_json.specs.View.{view}
use Rattle.serde_json.specs.Written.{compact_text, has_float}
use Rattle.ob_rpc.specs.declared.reply.Outcome.{Outcome}
use Rattle.ob_rpc.specs.declared.reply.Outcome.TheVariants as outcomes

-- a result, or the name and the message of an error
pub data Reply : Type 0 where
  result : Data → Reply
  error : (name message : List ℕ) → Reply

-- the object that tells of an error
abbrev pub error_data : (name message : List ℕ) → Data
error_data name message = object (member (codes "code") (number (unsigned 200)) (member (codes "data") (object (member (codes "message") (string message) (member (codes "name")
    (string name) no_members))) (member (codes "message") (string (codes "Odoo Server Error")) no_members)))

-- the reply to the request of an id
abbrev pub reply_data : Data → Reply → Data
reply_data id (result d) = object (member (codes "id") id (member (codes "jsonrpc") (string (codes "2.0")) (member (codes "result") d no_members)))
reply_data id (error name message) = object (member (codes "error") (error_data name message) (member (codes "id") id (member (codes "jsonrpc") (string (codes "2.0")) no_members)))

-- its text: keys in byte order, no spaces
abbrev pub reply_form : Data → Reply → List ℕ
reply_form id reply = compact_text (reply_data id reply)

-- the reply that tells of an outcome
abbrev pub reply_of : Outcome → Reply
reply_of (outcomes.Result value) = result (view value)
reply_of (outcomes.Error name message) = error name message

-- a float has no text that the specs give
abbrev pub OutcomeHasNoFloat : Outcome → Type 0
OutcomeHasNoFloat (outcomes.Result value) = has_float (view value) ≡ false
OutcomeHasNoFloat (outcomes.Error name message) = Unit {0}

-- a text with no line feed
abbrev pub IsOneLine : List ℕ → Type 0
IsOneLine text = AllByRecursion (λ b. b ≢ 10) text
