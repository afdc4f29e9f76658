use Rattle.std.proofs.Common.{◌≡◌, ℕ, Bool, false, cond, List, Some, None, ap, ◌∙◌, inl, inr}
use Rattle.std.specs.Str.{IsUtf8, is_utf8}
use Rattle.std.proofs.lemmas.Bool.{cases_Bool}
use Rattle.std.proofs.lemmas.Str.{IsUtf8-from_is_utf8, is_utf8-from_IsUtf8}
use Rattle.ob_codec.specs.KeptReading.{body_counted, body_text}
use Rattle.ob_codec.proofs.KeptParts.{bind_at}
use Rattle.ob_codec.proofs.kept_reading.text_of.Goals as goal

-- bytes that are a text
found : (limit : ℕ) (bytes text rest : List ℕ) → body_counted limit bytes ≡ Some (text, rest) → IsUtf8 text → body_text limit bytes ≡ Some (text, rest)
unfolding body_text
found limit bytes text rest counted utf8 =
    bind_at (body_counted limit bytes) _ (text, rest) counted
    ∙ ap (λ (b : Bool). cond b (Some (text, rest)) None) (is_utf8-from_IsUtf8 text utf8)

-- bytes that are none
refused : (limit : ℕ) (bytes text rest : List ℕ) → body_counted limit bytes ≡ Some (text, rest) → (IsUtf8 text → ⊥) → body_text limit bytes ≡ None
unfolding body_text
refused limit bytes text rest counted fault =
    let bad : is_utf8 text ≡ false = elim (cases_Bool (is_utf8 text)) [ inl good ↦ absurd (fault (IsUtf8-from_is_utf8 text good)) | inr other ↦ other ] in
    bind_at (body_counted limit bytes) _ (text, rest) counted
    ∙ ap (λ (b : Bool). cond b (Some (text, rest)) None) bad

pub returns-in-Ok : goal.returns-in-Ok
returns-in-Ok c = rw c.in-Ok.ensures.cases.0 (found c.args.limit c.args.bytes.now c.in_ok-text.text.now c.in_ok-text.rest.now c.in_ok-text.ensures c.in-Ok.ensures.cases.1)

pub returns-in-Err : goal.returns-in-Err
returns-in-Err c = refused c.args.limit c.args.bytes.now c.in_ok-text.text.now c.in_ok-text.rest.now c.in_ok-text.ensures c.in-Err.ensures.cases.0
