-- The keys of a selection, looked for one after the other.
use Rattle.std.proofs.Common.{◌≡◌, ◌↔◌, ◌≤◌, ◌||◌, ℕ, Bool, true, List, [], ◌∷◌, get_or, length, refl, sym, ap, subst, ◌∙◌}
use Rattle.std.specs.Prelude.{Contains}
use Rattle.std.specs.List.{list_any}
use Rattle.std.specs.Str.{bytes_eq}
use Rattle.std.proofs.lemmas.List.Folds.{list_any_at}
use Rattle.std.proofs.lemmas.Map.Views.{Contains-from_any}
use Rattle.std.proofs.lemmas.Slice.Eq.{bytes_eq-Decides}
use Rattle.ob_base.specs.Limits.{max_char_bytes}
use Rattle.ob_base.specs.declared.value.Value.TheVariants as value
use Rattle.ob_definition.specs.Values.{HasType, keys_of}
use Rattle.ob_definition.specs.declared.field_type.Choice.{Choice}
use Rattle.ob_definition.specs.declared.field_type.FieldType.{FieldType}
use Rattle.ob_definition.specs.declared.field_type.FieldType.TheVariants as type

any_key : (text : List ℕ) (choices : List Choice) → list_any (λ (choice : Choice). bytes_eq text choice.key) choices ≡ list_any (bytes_eq text) (keys_of choices)
any_key text [] = refl
any_key text (choice ∷ choices) = ap (λ (b : Bool). bytes_eq text choice.key || b) (any_key text choices)

-- a key is found exactly where it is declared
key_told : (text : List ℕ) (choices : List Choice) → (list_any (λ (choice : Choice). bytes_eq text choice.key) choices ≡ true) ↔ Contains (keys_of choices) text
key_told text choices = (
  λ found. Contains-from_any (λ x y. (bytes_eq-Decides x y).0) text (keys_of choices) (sym (any_key text choices) ∙ found),
  λ c. any_key text choices ∙ list_any_at (bytes_eq text) (keys_of choices) c.0 text c.1 ((bytes_eq-Decides text (get_or (keys_of choices) c.0 text)).1 (sym c.2)),
)

-- a text within the limit is one of a selection's exactly where it is found
pub found_tells : (t : FieldType) (choices : List Choice) (text : List ℕ) (found : Bool) → t ≡ type.Selection → length text ≤ max_char_bytes → found ≡ list_any (λ (choice : Choice). bytes_eq text choice.key) choices
    → (found ≡ true) ↔ HasType t choices (value.Word text)
found_tells t choices text found is short told =
    subst (λ (t : FieldType). (found ≡ true) ↔ HasType t choices (value.Word text)) (sym is)
    (λ e. record { short = short; declared = (key_told text choices).0 (sym told ∙ e) }, λ key. told ∙ (key_told text choices).1 key.declared)
