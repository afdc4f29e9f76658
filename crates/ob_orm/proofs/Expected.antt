-- The keys of an object, as the code goes through them.
use Rattle.std.proofs.Common.{◌≡◌, ℕ, Bool, cond, List, [], ◌∷◌, Option, Some, None, String, Global, string_bytes, refl, ap}
use Rattle.std.specs.Map.{keys_of}
use Rattle.std.specs.Prelude.{if◌then◌else◌}
use Rattle.ob_base.specs.declared.place.PathStep.{PathStep}
use Rattle.ob_base.specs.declared.place.PathStep.TheVariants.{Key}
use Rattle.serde_json.specs.View.{members_view}
use Rattle.serde_json.proofs.Views.{Entry}
use Rattle.ob_call.specs.Arguments.{entries}
use Rattle.ob_rows.specs.Values.{first_key}

-- the place of the first of the keys that no call may give
abbrev pub first_refused : (List ℕ → Bool) → List (String Global) → Option (List PathStep)
first_refused test [] = None
first_refused test (k ∷ ks) = if test (string_bytes k) then first_refused test ks else Some (Key (string_bytes k) ∷ [])

-- the keys of a map are those of the object
pub first_key-entries : (test : List ℕ → Bool) (es : List Entry) → first_key test (entries (members_view es)) ≡ first_refused test (keys_of es)
first_key-entries test [] = refl
first_key-entries test (e ∷ es) = ap (λ (o : Option (List PathStep)). cond (test (string_bytes e.0)) o (Some (Key (string_bytes e.0) ∷ []))) (first_key-entries test es)
