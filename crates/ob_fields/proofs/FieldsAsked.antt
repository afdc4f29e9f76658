-- Which attributes the texts of an argument ask for.
use Rattle.std.proofs.Common.{◌≡◌, ◌==◌, ◌||◌, Bool, false, List, [], ◌∷◌, ℕ, map, length, Option, Some, option_map, Vec, Global, refl, sym, ap, ◌∙◌}
use Rattle.std.specs.List.{list_any}
use Rattle.serde_json.specs.View.{view}
use Rattle.serde_json.specs.declared.value.Value.{Value, Array}
use Rattle.serde_json.proofs.Views.{view-Array}
use Rattle.ob_call.proofs.CallerLemmas.{listed-items_view}
use Rattle.ob_call.specs.ArgumentsSteps.{given_of}
use Rattle.ob_call.specs.declared.arguments.Given.{Given}
use Rattle.ob_fields.specs.FieldsGet.{asks, is_word, items_in, texts_in}

-- one of the texts is the word, whether they are seen as data or not
any_viewed : (word : List ℕ) (words : List Value) → list_any (λ w. is_word word (view w)) words ≡ list_any (is_word word) (map view words)
any_viewed word [] = refl
any_viewed word (w ∷ words) = ap (λ (b : Bool). is_word word (view w) || b) (any_viewed word words)

-- where there are some texts, the word is asked for where it is one of them
pub asks_of : (words : List Value) (word : List ℕ) (empty found : Bool) → empty ≡ (length words == 0) → empty ≡ false → found ≡ list_any (λ w. is_word word (view w)) words → found ≡ asks (map view words) word
asks_of [] word empty found none some is = absurd cc
asks_of (w ∷ words) word empty found none some is = is ∙ any_viewed word (w ∷ words)

-- the texts of a list that was given
pub texts_given : (given : Option Given) (g : Given) (v : Vec Value Global) → given ≡ Some g → g.json.now ≡ Array v → map view v.items ≡ texts_in (option_map given_of given)
texts_given given g v is array =
    sym (ap (λ (o : Option Given). texts_in (option_map given_of o)) is ∙ ap (λ (j : Value). items_in (view j)) array ∙ ap items_in (view-Array v) ∙ listed-items_view v.items)
