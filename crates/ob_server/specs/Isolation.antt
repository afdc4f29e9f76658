-- What a caller is told by calls that read goes by his view, up to the bytes of the replies.
use Rattle.std.specs.Prelude.{◌≡◌, ℕ, ℤ, List}
use Rattle.ob_query.specs.Isolation.{AreViewedAlike}
use Rattle.ob_schema.specs.Tables.{Tables}
use Rattle.serde_json.specs.Data.{Data}
use Rattle.ob_server.specs.Machine.{Answers, asked_by}
use Rattle.ob_server.specs.Request.{Call, called}
use Rattle.ob_server.specs.Setup.{Setup}
use Rattle.ob_server.specs.declared.request.Method.TheVariants as method
use Rattle.ob_server.specs.declared.request.ReadMethod.{ReadMethod}

-- the method reads
abbrev pub IsReading : Call → Type 0
IsReading call = (reads : ReadMethod) × (call.method ≡ method.Reads reads)

-- to a call that reads the machine may give the same replies over two databases that its caller sees alike
abbrev pub RepliesGoByViews : Setup → Type 0
RepliesGoByViews setup =
    (id : Data) (call : Call) (now : ℤ) (one other : Tables) → IsReading call → AreViewedAlike setup.models setup.policy call.caller one other
    → (reply : List ℕ) → Answers setup one now (called id call) reply one → Answers setup other now (called id call) reply other

-- so it is with a body that makes such a call: over two databases that its caller sees alike, and of which each lets him make it
abbrev pub BodiesGoByViews : Setup → Type 0
BodiesGoByViews setup =
    (body : List ℕ) (id : Data) (call : Call) (now : ℤ) (one other : Tables) → asked_by setup one body ≡ called id call → asked_by setup other body ≡ called id call
    → IsReading call → AreViewedAlike setup.models setup.policy call.caller one other
    → (reply : List ℕ) → Answers setup one now (asked_by setup one body) reply one → Answers setup other now (asked_by setup other body) reply other
