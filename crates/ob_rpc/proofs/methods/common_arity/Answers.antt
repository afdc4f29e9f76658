use Rattle.std.proofs.Common.{◌≡◌, ℕ, List, Bool, true, false, codes, refl, sym}
use Rattle.std.proofs.lemmas.Slice.Eq.{bytes_eq-Decides}
use Rattle.std.specs.Str.{bytes_eq}
use Rattle.ob_rpc.proofs.methods.common_arity.Goals as goal

not_true : (b : Bool) → (b ≡ true → ⊥) → b ≡ false
not_true true h = absurd (h refl)
not_true false h = refl

-- a method of another name compares as different
other_name : (name method : List ℕ) → (method ≡ name → ⊥) → bytes_eq name method ≡ false
other_name name method other = not_true (bytes_eq name method) (λ same. other (sym ((bytes_eq-Decides name method).0 same)))

pub returns-in_default : goal.returns-in_default
returns-in_default c =
    let version = other_name (codes "version") _ c.in_default.not-version in
    let login = other_name (codes "login") _ c.in_default.not-login in
    let authenticate = other_name (codes "authenticate") _ c.in_default.not-authenticate in
    rw (version, login, authenticate) refl
