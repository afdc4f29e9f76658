-- A default that fits its field is a value that the field holds.
use Rattle.std.proofs.Common.{◌≡◌, ◌≤◌, ◌||◌, ◌&&◌, ℕ, ℤ, pos, negsuc, ◌≤ℤ◌, Bool, true, false, cond, not, nat_le, List, [], length, Option, Some, None, is_none, refl, sym, subst, arith}
use Rattle.std.specs.Prelude.{Contains, int_le, unwrap_or}
use Rattle.std.specs.Str.{bytes_eq}
use Rattle.std.proofs.lemmas.Bool.{and_parts, false≢true}
use Rattle.std.proofs.lemmas.Bool.Decides.{nat_tests}
use Rattle.std.proofs.lemmas.Int.{ints}
use Rattle.std.proofs.lemmas.List.Folds.{Any-from_list_any}
use Rattle.std.proofs.lemmas.Slice.Eq.{bytes_eq-Decides}
use Rattle.ob_base.specs.declared.value.Value.{Value}
use Rattle.ob_base.specs.declared.value.Value.TheVariants as value
use Rattle.ob_definition.specs.declared.definition.FieldDef.{FieldDef}
use Rattle.ob_definition.specs.declared.field_type.Choice.{Choice}
use Rattle.ob_definition.specs.declared.field_type.FieldType.{FieldType}
use Rattle.ob_definition.specs.declared.field_type.FieldType.TheVariants as type
use Rattle.ob_definition.specs.Definitions.{is_computed, is_set}
use Rattle.ob_definition.specs.Keys.{computed_fits, default_fits, fits, has_choice_key, is_constant, is_selection, ondelete_fits, plain_fits, relation_fits}
use Rattle.ob_definition.specs.Types.{is_relation}
use Rattle.ob_definition.specs.Values.{IsNative, IsValueOf, keys_of}

within : (n limit : ℕ) → nat_le n limit ≡ true → n ≤ limit
within n limit e = grind (arith, nat_tests)

-- a text that is a key is declared
declared_key : (choices : Option (List Choice)) (text : List ℕ) → has_choice_key choices text ≡ true → Contains (keys_of (unwrap_or choices [])) text
declared_key None text e = absurd (false≢true e)
declared_key (Some own) text e =
    let found = Any-from_list_any (bytes_eq text) (keys_of own) e in
    let same : text ≡ found.1 = (bytes_eq-Decides text found.1).0 found.4 in
    subst (Contains (keys_of own)) (sym same) (found.0, found.2, found.3)

above : (low n : ℤ) → int_le low n ≡ true → low ≤ℤ n
above low n e = grind (arith, ints, e)

-- a constant of a type is one of its values
constant_held : (t : FieldType) (choices : Option (List Choice)) (v : Value) → is_constant t choices v ≡ true → IsNative v → IsValueOf t (unwrap_or choices []) v
constant_held type.Boolean choices (value.Bool b) fit native = tt
constant_held type.Integer choices (value.Int n) fit native = native
constant_held type.Char choices (value.Word text) fit native = record { utf8 = native; short = within (length text) 8192 fit }
constant_held type.Text choices (value.Word text) fit native = record { utf8 = native; short = within (length text) 65536 fit }
constant_held type.Date choices (value.Day n) fit native =
    let both = and_parts (int_le (negsuc 719161) n) (int_le n (pos 2932896)) fit in
    record { low = above (negsuc 719161) n both.0; high = above n (pos 2932896) both.1 }
constant_held type.Datetime choices (value.Moment n) fit native =
    let both = and_parts (int_le (negsuc 62135596799) n) (int_le n (pos 253402300799)) fit in
    record { low = above (negsuc 62135596799) n both.0; high = above n (pos 253402300799) both.1 }
constant_held type.Selection choices (value.Word text) fit native =
    let both = and_parts (nat_le (length text) 8192) (has_choice_key choices text) fit in
    record { short = within (length text) 8192 both.0; declared = declared_key choices text both.1 }
constant_held _ _ _ fit native = absurd (false≢true fit)

-- so is a default that fits
pub default_held : (f : FieldDef) (v : Value) → default_fits f ≡ true → f.default ≡ Some v → IsNative v → IsValueOf f.field_type (unwrap_or f.selection []) v
default_held f v fit given native = constant_held f.field_type f.selection v (by f.default given fit) native
  where
    by : (o : Option Value) → o ≡ Some v → default_fits (record f { default = o }) ≡ true → is_constant f.field_type f.selection v ≡ true
    by None e fit = absurd (cc)
    by (Some own) e fit = let same : own ≡ v = cc in subst (λ (w : Value). is_constant f.field_type f.selection w ≡ true) same fit

-- ---- the tests of a field's keys

-- the tests of a plain field's keys, or of a computed one's, pass
pub own_fits : (f : FieldDef) → fits f ≡ true → cond (is_computed f) (computed_fits f) (plain_fits f) ≡ true
own_fits f fit = (and_parts (relation_fits f && ondelete_fits f) (cond (is_computed f) (computed_fits f) (plain_fits f)) fit).1

-- a computed field is not required, no relation and no selection, and has no default
pub record IsBare (f : FieldDef) : Type 0 where
  pub required : is_set f.required ≡ false
  pub relation : is_relation f.field_type ≡ false
  pub selection : is_selection f.field_type ≡ false
  pub default : is_none f.default ≡ true

bare : (a required relation selection default : Bool) → a && not required && not relation && not selection && default ≡ true → (relation ≡ false) × (selection ≡ false) × (default ≡ true) × (required ≡ false)
bare true false false false true e = (refl, refl, refl, refl)
bare _ _ _ _ _ e = absurd (false≢true e)

pub computed_bare : (f : FieldDef) → computed_fits f ≡ true → IsBare f
computed_bare f fit =
    let parts = bare (is_none f.related || (is_none f.compute && is_none f.depends)) (is_set f.required) (is_relation f.field_type) (is_selection f.field_type) (is_none f.default) fit in
    record { required = parts.3; relation = parts.0; selection = parts.1; default = parts.2 }

-- where the keys fit, the default does
pub default_fits-from_fits : (f : FieldDef) → fits f ≡ true → default_fits f ≡ true
default_fits-from_fits f fit = by (is_computed f) (own_fits f fit)
  where
    absent : (o : Option Value) → is_none o ≡ true → default_fits (record f { default = o }) ≡ true
    absent None e = refl
    absent (Some v) e = absurd (false≢true e)

    by : (computed : Bool) → cond computed (computed_fits f) (plain_fits f) ≡ true → default_fits f ≡ true
    by true e = absent f.default (computed_bare f e).default
    by false e = (and_parts (is_none f.depends && is_none f.store && is_none f.recursive) (default_fits f) e).1
