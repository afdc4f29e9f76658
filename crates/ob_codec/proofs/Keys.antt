-- The keys of a selection, looked for one after the other.
use Rattle.std.proofs.Common.{◌≡◌, ℕ, ◌||◌, Bool, true, List, [], ◌∷◌, get_or, refl, sym, ap}
use Rattle.std.specs.Prelude.{Contains}
use Rattle.std.specs.List.{list_any}
use Rattle.std.specs.Str.{bytes_eq}
use Rattle.std.proofs.lemmas.List.Folds.{list_any_at}
use Rattle.std.proofs.lemmas.Map.Views.{Contains-from_any}
use Rattle.std.proofs.lemmas.Slice.Eq.{bytes_eq-Decides}
use Rattle.ob_definition.specs.Values.{keys_of}
use Rattle.ob_definition.specs.declared.field_type.Choice.{Choice}

pub any_key : (text : List ℕ) (choices : List Choice) → list_any (λ (choice : Choice). bytes_eq text choice.key) choices ≡ list_any (bytes_eq text) (keys_of choices)
any_key text [] = refl
any_key text (choice ∷ choices) = ap (λ (b : Bool). bytes_eq text choice.key || b) (any_key text choices)

pub contains_key : (text : List ℕ) (keys : List (List ℕ)) → list_any (bytes_eq text) keys ≡ true → Contains keys text
contains_key text keys found = Contains-from_any (λ x y. (bytes_eq-Decides x y).0) text keys found

pub key_found : (text : List ℕ) (keys : List (List ℕ)) → Contains keys text → list_any (bytes_eq text) keys ≡ true
key_found text keys c = list_any_at (bytes_eq text) keys c.0 text c.1 ((bytes_eq-Decides text (get_or keys c.0 text)).1 (sym c.2))
