-- The numbers of names, of terms and of links, as the program takes them.
use Rattle.std.proofs.Common.{◌≡◌, ℕ, true, Option, Some, None, List, get_or, map, sym, ap, ◌∙◌}
use Rattle.std.specs.Prelude.{option_and_then}
use Rattle.std.specs.Option.{is_none}
use Rattle.ob_base.specs.declared.id.FieldNo.{FieldNo}
use Rattle.ob_definition.specs.Members.{Member}
use Rattle.ob_schema.specs.Built.{numbered}
use Rattle.ob_registry.specs.Building.{AreNumbers}
use Rattle.ob_registry.specs.Faults.{is_unknown}
use Rattle.ob_registry.specs.ModelFields.{number_in}
use Rattle.ob_registry.proofs.ModelNumbers.{named_by_number}
use Rattle.ob_registry.proofs.Somes.{kept_all, none_passes, somes}

-- a name without a number is unknown
pub unknown_name : (members : List Member) (name : List ℕ) → number_in members name ≡ None → is_unknown members name ≡ true
unknown_name members name none =
    ap is_none (named_by_number members name ∙ ap (λ (o : Option FieldNo). option_and_then (λ number. numbered members number.0) o) none)

-- where all names are known, each has its number
pub all_numbers : (members : List Member) (names : List (List ℕ)) → AreNumbers members names (somes (map (number_in members) names))
all_numbers members names known =
    kept_all (number_in members) (λ (n : FieldNo). Some n) (number_in members) (λ name n e. sym e) names
    (λ k d within e. none_passes (is_unknown members) names known k d within (unknown_name members (get_or names k d) e))
