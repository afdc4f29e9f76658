use Rattle.std.proofs.Common.{rules, ◌≡◌, Bool, true, false, cond, Option, None, refl, sym}
use Rattle.std.specs.Str.{is_utf8}
use Rattle.std.proofs.lemmas.Str.{is_utf8-from_IsUtf8, IsUtf8-from_is_utf8}
use Rattle.serde_json.specs.Data.{Data}
use Rattle.serde_json.specs.Read.{read}
use Rattle.ob_rpc.proofs.read.value_of.Goals as goal

none_of : (b : Bool) (d : Option Data) → (b ≡ true → d ≡ None) → cond b d None ≡ None
none_of true d h = h refl
none_of false d h = refl

pub returns-in-Ok : goal.returns-in-Ok
returns-in-Ok c = rw (is_utf8-from_IsUtf8 c.args.body.now c.in-Ok.ensures.ok.0) (sym c.in-Ok.ensures.ok.1)

pub returns-else-is_memory : goal.returns-else-is_memory
returns-else-is_memory c = sym (none_of (is_utf8 c.args.body.now) (read c.args.body.now) (λ u. c.in-Err.ensures.err (search rules) (IsUtf8-from_is_utf8 c.args.body.now u)))
