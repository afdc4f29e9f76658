-- What a head asks for, by its checks in turn.
use Rattle.std.proofs.Common.{◌≡◌, ℕ, ◌≤◌, nat_lt, Bool, true, false, List, [], length, Some, Result, Err, inr, refl, sym, ap, ◌∙◌, arith}
use Rattle.std.specs.Bool.{MatchBool}
use Rattle.std.proofs.lemmas.Bool.{ltb-true}
use Rattle.httparse.specs.Grammar.{RequestHead, ReadsRequest}
use Rattle.ob_base.specs.Limits.{max_head_fields}
use Rattle.ob_http.specs.declared.head.Message.{Message}
use Rattle.ob_http.specs.Head.{Head, head_of, has_other_version, ReadsMessage, Asks}
use Rattle.ob_http.proofs.HeadLines.{as_many_fields}

-- one head is at the front of bytes
one_head : (bytes : List ℕ) (a b : Head) → head_of bytes ≡ Some a → head_of bytes ≡ Some b → a ≡ b
one_head bytes a b first second = let same : Some a ≡ Some b = sym first ∙ second in cc

-- where the first checks pass, the grammar decides
pub reads_asked : (bytes : List ℕ) (known : Head) (found : Result Message ℕ) → known.fields ≤ max_head_fields → has_other_version known.line ≡ false
    → ReadsMessage bytes found → Asks bytes known found
reads_asked bytes known found few served reads = at (nat_lt max_head_fields known.fields) refl
  where
    version : (b : Bool) → has_other_version known.line ≡ b → MatchBool b (found ≡ Err 505) (ReadsMessage bytes found)
    version true e = let clash : true ≡ false = sym e ∙ served in absurd (cc)
    version false e = reads

    at : (b : Bool) → nat_lt max_head_fields known.fields ≡ b → MatchBool b (found ≡ Err 431) (MatchBool (has_other_version known.line) (found ≡ Err 505) (ReadsMessage bytes found))
    at true e = let many = ltb-true max_head_fields known.fields e in absurd (omega arith)
    at false e = version (has_other_version known.line) refl

-- bytes that are no request with so few fields are no request
pub none_reads : (bytes : List ℕ) (known : Head) (room : ℕ) → head_of bytes ≡ Some known → known.fields ≤ room
    → ((head : RequestHead) → ReadsRequest bytes head [] → length head.fields ≤ room → ⊥) → ReadsMessage bytes (Err 400)
none_reads bytes known room is few none =
    inr ((λ head reads. none head reads (omega (arith, as_many_fields bytes known head is reads))), refl)

-- what stands in the bytes of a head is what is known of it
pub line_known : (bytes : List ℕ) (a b : Head) → head_of bytes ≡ Some a → head_of bytes ≡ Some b → (a.line ≡ b.line) × (a.fields ≡ b.fields)
line_known bytes a b first second = let same = one_head bytes a b first second in (ap (λ h. h.line) same, ap (λ h. h.fields) same)
