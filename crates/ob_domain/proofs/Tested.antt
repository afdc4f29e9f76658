-- What the kinds of values are to tests.
use Rattle.std.proofs.Common.{◌≡◌, ℕ, false, List, [], ◌∷◌, refl, sym, string_bytes, String, Global}
use Rattle.std.specs.List.{list_any}
use Rattle.ob_base.specs.declared.id.RecId.{RecId}
use Rattle.ob_base.specs.declared.value.Value.{Value}
use Rattle.ob_base.specs.declared.value.Value.TheVariants as value
use Rattle.ob_domain.specs.Passing.{is_among, is_one_of, part_of_path}
use Rattle.ob_domain.specs.declared.term.Operand.{Operand}
use Rattle.ob_domain.proofs.AnyOf.{list_any-map, list_any-never}

pub no_text : (v : Value) (texts : List (String Global)) → ((bytes : List ℕ) → v ≡ value.Word bytes → ⊥) → list_any (λ text. part_of_path (string_bytes text) v) texts ≡ false
no_text value.Nil texts other = list_any-never texts
no_text (value.Bool b) texts other = list_any-never texts
no_text (value.Int n) texts other = list_any-never texts
no_text (value.Word bytes) texts other = absurd (other bytes refl)
no_text (value.Day n) texts other = list_any-never texts
no_text (value.Moment n) texts other = list_any-never texts
no_text (value.Ref id) texts other = list_any-never texts
no_text (value.Refs ids) texts other = list_any-never texts

-- of a list that names rows, one of those is asked
pub named_one : (operands : List Operand) (user : RecId) (ids : List RecId) → (ids ≡ [] → ⊥)
    → list_any (λ id. is_among operands user (value.Ref id)) ids ≡ is_one_of operands user (value.Refs ids)
named_one operands user [] some = absurd (some refl)
named_one operands user (id ∷ ids) some = sym (list_any-map (is_among operands user) value.Ref (id ∷ ids))
