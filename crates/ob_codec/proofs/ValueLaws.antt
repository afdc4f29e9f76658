-- A value that is read is the value that was written, within what the field may hold, and what was written is read again.
use Rattle.std.proofs.Common.{◌≡◌, ℕ, ℤ, zero, suc, pos, negsuc, ◌^◌, ◌<◌, ◌≤◌, ◌&&◌, Bool, true, false, cond, ltb, leb, eqb, List, [], ◌∷◌, ◌++◌, length, Some, None, refl, sym, ap, subst, ◌∙◌, append_assoc, arith, rules, inl, inr}
use Rattle.std.specs.Prelude.{option_and_then}
use Rattle.std.specs.Int.{w32, w64, to_be_bytes, cast_signed, cast_unsigned}
use Rattle.std.specs.Int.RustNames.{FitsSigned, int_le}
use Rattle.std.specs.List.{All, Contains, flat_map, list_any}
use Rattle.std.specs.Str.{IsUtf8, bytes_eq, is_utf8}
use Rattle.std.proofs.lemmas.Bool.{eqb-true, leb-true, le-leb, ltb-true, lt-ltb, and_parts, and_from}
use Rattle.std.proofs.lemmas.Cmp.{nat_list_eq_equiv}
use Rattle.std.proofs.lemmas.Int.{of_z-to_z, to_z-of_z, ints}
use Rattle.std.proofs.lemmas.List.Elements.{recursion_from_All}
use Rattle.std.proofs.lemmas.Map.Views.{list_any-from_Contains, Contains-from_any}
use Rattle.std.proofs.lemmas.Option.{cond_some, same_Some}
use Rattle.std.proofs.lemmas.Slice.Eq.{bytes_eq-Decides}
use Rattle.std.proofs.lemmas.Str.{IsUtf8-from_is_utf8, is_utf8-from_IsUtf8}
use Rattle.ob_base.specs.Ids.{IsId}
use Rattle.ob_base.specs.Times.{IsDay, IsMoment, is_day, is_moment}
use Rattle.ob_base.specs.declared.id.RecId.{RecId}
use Rattle.ob_base.specs.declared.value.Value.{Value}
use Rattle.ob_base.specs.declared.value.Value.TheVariants.{Nil, Bool as Flag, Int, Word, Day, Moment, Ref, Refs}
use Rattle.ob_definition.specs.Values.{IsText, IsKey, IsTargets, IsValueOf, keys_of}
use Rattle.ob_definition.specs.declared.field_type.Choice.{Choice}
use Rattle.ob_definition.specs.declared.field_type.FieldType.{FieldType}
use Rattle.ob_definition.specs.declared.field_type.FieldType.TheVariants as type
use Rattle.ob_codec.specs.KeptForm.{HasContent, content_of}
use Rattle.ob_codec.specs.KeptReading.{first_byte, body_part, body_number, body_counted, body_text}
use Rattle.ob_codec.specs.ValueReading.{tag_of, has_unset, body_content, body_flag, body_integer, body_word, body_key, body_day, body_moment, body_id, body_row_id, body_ids, body_rows}
use Rattle.ob_codec.specs.RowReading.{body_tagged}
use Rattle.ob_codec.proofs.KeptParts.{IsBytes, bind_some, bind_at, chosen, Takes, Takes-then, first_takes, part_takes, part_again, wide32, wide64, number_takes, number_again}
use Rattle.ob_codec.proofs.RisingIds.{Rises, IsRising-from_Rises, All-from_Rises, Rises-from_IsRising, first_id, length-Rises}

-- what was taken after a tag
after_tag : (tag : ℕ) (bytes text rest : List ℕ) → Takes bytes text rest → Takes (tag ∷ bytes) (tag ∷ text) rest
after_tag tag bytes text rest t = record { parts = ap (λ (l : List ℕ). tag ∷ l) t.parts; rest_fits = t.rest_fits }

-- the value that was taken after a tag, of which P holds
abbrev Took : ℕ → (Value → Type 0) → List ℕ → Value × List ℕ → Type 0
Took tag P bytes x = Takes (tag ∷ bytes) (content_of x.0) x.1 × P x.0

took : (tag : ℕ) (P : Value → Type 0) (bytes : List ℕ) (v : Value) (rest : List ℕ) (x : Value × List ℕ) → Some (v, rest) ≡ Some x → Takes (tag ∷ bytes) (content_of v) rest → P v → Took tag P bytes x
took tag P bytes v rest x e t p = subst (λ (y : Value × List ℕ). Took tag P bytes y) (same_Some (v, rest) x e) (t, p)

-- ---- booleans and integers

flag_takes : (choices : List Choice) (bytes : List ℕ) (x : Value × List ℕ) → IsBytes bytes → body_flag bytes ≡ Some x → Took 1 (IsValueOf type.Boolean choices) bytes x
unfolding body_flag
flag_takes choices bytes x fits e =
    let a = bind_some (first_byte bytes) _ x e in
    let t = first_takes bytes a.0 fits a.1 in
    elim (chosen (eqb a.0.0 0) (Some (Flag false, a.0.1)) (cond (eqb a.0.0 1) (Some (Flag true, a.0.1)) None) (Some x) a.2) [
      | inl off ↦ (let same : Takes bytes (0 ∷ []) a.0.1 = subst (λ (b : ℕ). Takes bytes (b ∷ []) a.0.1) (eqb-true a.0.0 0 off.0) t in
          took 1 (IsValueOf type.Boolean choices) bytes (Flag false) a.0.1 x off.1 (after_tag 1 bytes (0 ∷ []) a.0.1 same) tt)
      | inr other ↦ elim (chosen (eqb a.0.0 1) (Some (Flag true, a.0.1)) None (Some x) other.1) [
        | inr wrong ↦ absurd (let n : None ≡ Some x = wrong.1 in cc)
        | inl on ↦ (let same : Takes bytes (1 ∷ []) a.0.1 = subst (λ (b : ℕ). Takes bytes (b ∷ []) a.0.1) (eqb-true a.0.0 1 on.0) t in
            took 1 (IsValueOf type.Boolean choices) bytes (Flag true) a.0.1 x on.1 (after_tag 1 bytes (1 ∷ []) a.0.1 same) tt)
      ]
    ]

flag_again : (b : Bool) (rest : List ℕ) → body_flag (cond b 1 0 ∷ rest) ≡ Some (Flag b, rest)
unfolding body_flag
flag_again true rest = refl
flag_again false rest = refl

bits_fit_32 : (z : ℤ) → FitsSigned w32 z → cast_unsigned w32 z < 2 ^ 32
bits_fit_32 z fits = omega (arith, ints)

bits_fit_64 : (z : ℤ) → FitsSigned w64 z → cast_unsigned w64 z < 2 ^ 64
bits_fit_64 z fits = omega (arith, ints)

fits_from_bits : (n : ℕ) → n < 2 ^ 64 → FitsSigned w64 (cast_signed w64 n)
fits_from_bits n lt = search rules

-- a number that was taken, as a signed one
signed_32 : (bytes : List ℕ) (a : ℕ × List ℕ) → IsBytes bytes → body_number w32 bytes ≡ Some a → Takes bytes (to_be_bytes w32 (cast_unsigned w32 (cast_signed w32 a.0))) a.1
signed_32 bytes a fits e =
    let t = number_takes w32 (2 ^ 32) wide32 bytes a fits e in
    let back : cast_unsigned w32 (cast_signed w32 a.0) ≡ a.0 = of_z-to_z w32 a.0 t.1 in
    subst (λ (k : ℕ). Takes bytes (to_be_bytes w32 k) a.1) (sym back) t.0

signed_64 : (bytes : List ℕ) (a : ℕ × List ℕ) → IsBytes bytes → body_number w64 bytes ≡ Some a → Takes bytes (to_be_bytes w64 (cast_unsigned w64 (cast_signed w64 a.0))) a.1
signed_64 bytes a fits e =
    let t = number_takes w64 (2 ^ 64) wide64 bytes a fits e in
    let back : cast_unsigned w64 (cast_signed w64 a.0) ≡ a.0 = of_z-to_z w64 a.0 t.1 in
    subst (λ (k : ℕ). Takes bytes (to_be_bytes w64 k) a.1) (sym back) t.0

integer_takes : (choices : List Choice) (bytes : List ℕ) (x : Value × List ℕ) → IsBytes bytes → body_integer bytes ≡ Some x → Took 2 (IsValueOf type.Integer choices) bytes x
unfolding body_integer
integer_takes choices bytes x fits e =
    let a = bind_some (body_number w64 bytes) (λ n. Some (Int (cast_signed w64 n.0), n.1)) x e in
    let z = cast_signed w64 a.0.0 in
    let below = number_takes w64 (2 ^ 64) wide64 bytes a.0 fits a.1 in
    took 2 (IsValueOf type.Integer choices) bytes (Int z) a.0.1 x a.2 (after_tag 2 bytes (to_be_bytes w64 (cast_unsigned w64 z)) a.0.1 (signed_64 bytes a.0 fits a.1)) (fits_from_bits a.0.0 below.1)

integer_again : (z : ℤ) (rest : List ℕ) → FitsSigned w64 z → body_integer (to_be_bytes w64 (cast_unsigned w64 z) ++ rest) ≡ Some (Int z, rest)
unfolding body_integer
integer_again z rest fits =
    let n = cast_unsigned w64 z in
    bind_at (body_number w64 (to_be_bytes w64 n ++ rest)) (λ m. Some (Int (cast_signed w64 m.0), m.1)) (n, rest) (number_again w64 (2 ^ 64) wide64 n rest (bits_fit_64 z fits))
    ∙ ap (λ (y : ℤ). Some (Int y, rest)) (to_z-of_z w64 z fits)

-- ---- texts and keys

abbrev text_form : List ℕ → List ℕ
text_form text = to_be_bytes w32 (length text) ++ text

counted_takes : (limit : ℕ) (bytes : List ℕ) (x : List ℕ × List ℕ) → IsBytes bytes → body_counted limit bytes ≡ Some x → Takes bytes (text_form x.0) x.1 × (length x.0 ≤ limit)
unfolding body_counted
counted_takes limit bytes x fits e =
    let a = bind_some (body_number w32 bytes) _ x e in
    elim (chosen (leb a.0.0 limit) (body_part a.0.0 a.0.1) None (Some x) a.2) [
      | inr long ↦ absurd (let n : None ≡ Some x = long.1 in cc)
      | inl short ↦ (let t0 = number_takes w32 (2 ^ 32) wide32 bytes a.0 fits a.1 in
          let t1 = part_takes a.0.0 a.0.1 x t0.0.rest_fits short.1 in
          let both = Takes-then bytes (to_be_bytes w32 a.0.0) a.0.1 x.0 x.1 t0.0 t1.0 in
          let whole : Takes bytes (text_form x.0) x.1 = subst (λ (k : ℕ). Takes bytes (to_be_bytes w32 k ++ x.0) x.1) (sym t1.1) both in
          (whole, omega (arith, t1.1, leb-true _ _ short.0)))
    ]

counted_again : (limit : ℕ) (text rest : List ℕ) → length text ≤ limit → limit < 2 ^ 32 → body_counted limit (text_form text ++ rest) ≡ Some (text, rest)
unfolding body_counted
counted_again limit text rest short small =
    ap (body_counted limit) (append_assoc (to_be_bytes w32 (length text)) text rest)
    ∙ bind_at (body_number w32 (to_be_bytes w32 (length text) ++ (text ++ rest))) _ (length text, text ++ rest) (number_again w32 (2 ^ 32) wide32 (length text) (text ++ rest) (omega arith))
    ∙ ap (λ (b : Bool). cond b (body_part (length text) (text ++ rest)) None) (le-leb _ _ short)
    ∙ part_again text rest

word_takes : (limit : ℕ) (P : Value → Type 0) → ((text : List ℕ) → IsText limit text → P (Word text)) → (bytes : List ℕ) (x : Value × List ℕ) → IsBytes bytes → body_word limit bytes ≡ Some x → Took 3 P bytes x
unfolding body_word body_text
word_takes limit P holds bytes x fits e =
    let a = bind_some (body_text limit bytes) (λ text. Some (Word text.0, text.1)) x e in
    let b = bind_some (body_counted limit bytes) _ a.0 a.1 in
    let g = cond_some (is_utf8 b.0.0) b.0 a.0 b.2 in
    let t = counted_takes limit bytes b.0 fits b.1 in
    let same : Takes bytes (text_form a.0.0) a.0.1 × (length a.0.0 ≤ limit) = subst (λ (y : List ℕ × List ℕ). Takes bytes (text_form y.0) y.1 × (length y.0 ≤ limit)) g.1 t in
    let utf8 : IsUtf8 a.0.0 = subst (λ (y : List ℕ × List ℕ). IsUtf8 y.0) g.1 (IsUtf8-from_is_utf8 b.0.0 g.0) in
    took 3 P bytes (Word a.0.0) a.0.1 x a.2 (after_tag 3 bytes (text_form a.0.0) a.0.1 same.0) (holds a.0.0 (record { utf8 = utf8; short = same.1 }))

word_again : (limit : ℕ) (text rest : List ℕ) → IsText limit text → limit < 2 ^ 32 → body_word limit (text_form text ++ rest) ≡ Some (Word text, rest)
unfolding body_word body_text
word_again limit text rest fits small =
    let read : body_text limit (text_form text ++ rest) ≡ Some (text, rest) = bind_at (body_counted limit (text_form text ++ rest)) (λ t. cond (is_utf8 t.0) (Some t) None) (text, rest) (counted_again limit text rest fits.short small)
    ∙ ap (λ (b : Bool). cond b (Some (text, rest)) None) (is_utf8-from_IsUtf8 text fits.utf8) in
    bind_at (body_text limit (text_form text ++ rest)) (λ t. Some (Word t.0, t.1)) (text, rest) read

key_takes : (choices : List Choice) (bytes : List ℕ) (x : Value × List ℕ) → IsBytes bytes → body_key choices bytes ≡ Some x → Took 3 (IsValueOf type.Selection choices) bytes x
unfolding body_key
key_takes choices bytes x fits e =
    let a = bind_some (body_counted 8192 bytes) _ x e in
    let g = cond_some (list_any (bytes_eq a.0.0) (keys_of choices)) (Word a.0.0, a.0.1) x a.2 in
    let t = counted_takes 8192 bytes a.0 fits a.1 in
    let known : Contains (keys_of choices) a.0.0 = Contains-from_any (λ p q. (bytes_eq-Decides p q).0) a.0.0 (keys_of choices) g.0 in
    took 3 (IsValueOf type.Selection choices) bytes (Word a.0.0) a.0.1 x (ap Some g.1) (after_tag 3 bytes (text_form a.0.0) a.0.1 t.0) (record { short = t.1; declared = known })

key_again : (choices : List Choice) (text rest : List ℕ) → IsKey choices text → body_key choices (text_form text ++ rest) ≡ Some (Word text, rest)
unfolding body_key
key_again choices text rest fits =
    bind_at (body_counted 8192 (text_form text ++ rest)) _ (text, rest) (counted_again 8192 text rest fits.short (omega arith))
    ∙ ap (λ (b : Bool). cond b (Some (Word text, rest)) None) (list_any-from_Contains nat_list_eq_equiv text (keys_of choices) fits.declared)

-- ---- days and moments

IsDay-from_test : (n : ℤ) → is_day n ≡ true → IsDay n
IsDay-from_test n e =
    let tests = and_parts (int_le (negsuc 719161) n) (int_le n (pos 2932896)) e in
    record { low = record { le = search (rules, tests.0) }; high = record { le = search (rules, tests.1) } }

is_day-from_IsDay : (n : ℤ) → IsDay n → is_day n ≡ true
is_day-from_IsDay n fits = and_from (int_le (negsuc 719161) n) (int_le n (pos 2932896)) (grind (arith, ints, fits.low)) (grind (arith, ints, fits.high))

IsMoment-from_test : (n : ℤ) → is_moment n ≡ true → IsMoment n
IsMoment-from_test n e =
    let tests = and_parts (int_le (negsuc 62135596799) n) (int_le n (pos 253402300799)) e in
    record { low = record { le = search (rules, tests.0) }; high = record { le = search (rules, tests.1) } }

is_moment-from_IsMoment : (n : ℤ) → IsMoment n → is_moment n ≡ true
is_moment-from_IsMoment n fits = and_from (int_le (negsuc 62135596799) n) (int_le n (pos 253402300799)) (grind (arith, ints, fits.low)) (grind (arith, ints, fits.high))

FitsSigned-from_IsDay : (n : ℤ) → IsDay n → FitsSigned w32 n
FitsSigned-from_IsDay n fits = search (arith, ints, fits.low, fits.high)

FitsSigned-from_IsMoment : (n : ℤ) → IsMoment n → FitsSigned w64 n
FitsSigned-from_IsMoment n fits = search (arith, ints, fits.low, fits.high)

day_takes : (choices : List Choice) (bytes : List ℕ) (x : Value × List ℕ) → IsBytes bytes → body_day bytes ≡ Some x → Took 4 (IsValueOf type.Date choices) bytes x
unfolding body_day
day_takes choices bytes x fits e =
    let a = bind_some (body_number w32 bytes) _ x e in
    let z = cast_signed w32 a.0.0 in
    let g = cond_some (is_day z) (Day z, a.0.1) x a.2 in
    took 4 (IsValueOf type.Date choices) bytes (Day z) a.0.1 x (ap Some g.1) (after_tag 4 bytes (to_be_bytes w32 (cast_unsigned w32 z)) a.0.1 (signed_32 bytes a.0 fits a.1)) (IsDay-from_test z g.0)

day_again : (z : ℤ) (rest : List ℕ) → IsDay z → body_day (to_be_bytes w32 (cast_unsigned w32 z) ++ rest) ≡ Some (Day z, rest)
unfolding body_day
day_again z rest fits =
    let n = cast_unsigned w32 z in
    let small = FitsSigned-from_IsDay z fits in
    bind_at (body_number w32 (to_be_bytes w32 n ++ rest)) _ (n, rest) (number_again w32 (2 ^ 32) wide32 n rest (bits_fit_32 z small))
    ∙ ap (λ (y : ℤ). cond (is_day y) (Some (Day y, rest)) None) (to_z-of_z w32 z small)
    ∙ ap (λ (b : Bool). cond b (Some (Day z, rest)) None) (is_day-from_IsDay z fits)

moment_takes : (choices : List Choice) (bytes : List ℕ) (x : Value × List ℕ) → IsBytes bytes → body_moment bytes ≡ Some x → Took 5 (IsValueOf type.Datetime choices) bytes x
unfolding body_moment
moment_takes choices bytes x fits e =
    let a = bind_some (body_number w64 bytes) _ x e in
    let z = cast_signed w64 a.0.0 in
    let g = cond_some (is_moment z) (Moment z, a.0.1) x a.2 in
    took 5 (IsValueOf type.Datetime choices) bytes (Moment z) a.0.1 x (ap Some g.1) (after_tag 5 bytes (to_be_bytes w64 (cast_unsigned w64 z)) a.0.1 (signed_64 bytes a.0 fits a.1)) (IsMoment-from_test z g.0)

moment_again : (z : ℤ) (rest : List ℕ) → IsMoment z → body_moment (to_be_bytes w64 (cast_unsigned w64 z) ++ rest) ≡ Some (Moment z, rest)
unfolding body_moment
moment_again z rest fits =
    let n = cast_unsigned w64 z in
    let small = FitsSigned-from_IsMoment z fits in
    bind_at (body_number w64 (to_be_bytes w64 n ++ rest)) _ (n, rest) (number_again w64 (2 ^ 64) wide64 n rest (bits_fit_64 z small))
    ∙ ap (λ (y : ℤ). cond (is_moment y) (Some (Moment y, rest)) None) (to_z-of_z w64 z small)
    ∙ ap (λ (b : Bool). cond b (Some (Moment z, rest)) None) (is_moment-from_IsMoment z fits)

-- ---- ids

abbrev id_form : RecId → List ℕ
id_form id = to_be_bytes w64 id.0

id_takes : (before : ℕ) (bytes : List ℕ) (x : RecId × List ℕ) → IsBytes bytes → body_id before bytes ≡ Some x → Takes bytes (id_form x.0) x.1 × (before < x.0.0) × (x.0.0 ≤ 4294967295)
unfolding body_id
id_takes before bytes x fits e =
    let a = bind_some (body_number w64 bytes) _ x e in
    let g = cond_some (ltb before a.0.0 && leb a.0.0 4294967295) (record { 0 = a.0.0 }, a.0.1) x a.2 in
    let tests = and_parts (ltb before a.0.0) (leb a.0.0 4294967295) g.0 in
    let t = number_takes w64 (2 ^ 64) wide64 bytes a.0 fits a.1 in
    subst (λ (y : RecId × List ℕ). Takes bytes (id_form y.0) y.1 × (before < y.0.0) × (y.0.0 ≤ 4294967295)) g.1 (t.0, ltb-true _ _ tests.0, leb-true _ _ tests.1)

-- an id that was read is above the one before it
pub id_above : (before : ℕ) (bytes : List ℕ) (id : RecId) (rest : List ℕ) → body_id before bytes ≡ Some (id, rest) → before < id.0
unfolding body_id
id_above before bytes id rest e =
    let a = bind_some (body_number w64 bytes) _ (id, rest) e in
    let g = cond_some (ltb before a.0.0 && leb a.0.0 4294967295) (record { 0 = a.0.0 }, a.0.1) (id, rest) a.2 in
    let tests = and_parts (ltb before a.0.0) (leb a.0.0 4294967295) g.0 in
    subst (λ (y : RecId × List ℕ). before < y.0.0) g.1 (ltb-true _ _ tests.0)

id_again : (before : ℕ) (id : RecId) (rest : List ℕ) → before < id.0 → id.0 ≤ 4294967295 → body_id before (id_form id ++ rest) ≡ Some (id, rest)
unfolding body_id
id_again before id rest above within =
    bind_at (body_number w64 (id_form id ++ rest)) _ (id.0, rest) (number_again w64 (2 ^ 64) wide64 id.0 rest (omega arith))
    ∙ ap (λ (b : Bool). cond b (Some (id, rest)) None) (and_from (ltb before id.0) (leb id.0 4294967295) (lt-ltb _ _ above) (le-leb _ _ within))

row_id_takes : (choices : List Choice) (bytes : List ℕ) (x : Value × List ℕ) → IsBytes bytes → body_row_id bytes ≡ Some x → Took 6 (IsValueOf type.Many2one choices) bytes x
unfolding body_row_id
row_id_takes choices bytes x fits e =
    let a = bind_some (body_id 0 bytes) (λ id. Some (Ref id.0, id.1)) x e in
    let t = id_takes 0 bytes a.0 fits a.1 in
    took 6 (IsValueOf type.Many2one choices) bytes (Ref a.0.0) a.0.1 x a.2 (after_tag 6 bytes (id_form a.0.0) a.0.1 t.0) (omega (arith, t.1), t.2)

row_id_again : (id : RecId) (rest : List ℕ) → IsId id → body_row_id (id_form id ++ rest) ≡ Some (Ref id, rest)
unfolding body_row_id
row_id_again id rest fits = bind_at (body_id 0 (id_form id ++ rest)) (λ i. Some (Ref i.0, i.1)) (id, rest) (id_again 0 id rest (omega (arith, fits.0)) fits.1)

ids_takes : (n before : ℕ) (bytes : List ℕ) (x : List RecId × List ℕ) → IsBytes bytes → body_ids n before bytes ≡ Some x → Takes bytes (flat_map id_form x.0) x.1 × (length x.0 ≡ n) × Rises before x.0
unfolding body_ids
ids_takes zero before bytes x fits e =
    subst (λ (y : List RecId × List ℕ). Takes bytes (flat_map id_form y.0) y.1 × (length y.0 ≡ 0) × Rises before y.0) (same_Some ([], bytes) x e) (record { parts = refl; rest_fits = fits }, refl, tt)
ids_takes (suc n) before bytes x fits e =
    let a = bind_some (body_id before bytes) (λ id. option_and_then (λ ids. Some (id.0 ∷ ids.0, ids.1)) (body_ids n id.0.0 id.1)) x e in
    let b = bind_some (body_ids n a.0.0.0 a.0.1) (λ ids. Some (a.0.0 ∷ ids.0, ids.1)) x a.2 in
    let t0 = id_takes before bytes a.0 fits a.1 in
    let t1 = ids_takes n a.0.0.0 a.0.1 b.0 t0.0.rest_fits b.1 in
    let both = Takes-then bytes (id_form a.0.0) a.0.1 (flat_map id_form b.0.0) b.0.1 t0.0 t1.0 in
    subst (λ (y : List RecId × List ℕ). Takes bytes (flat_map id_form y.0) y.1 × (length y.0 ≡ suc n) × Rises before y.0) (same_Some (a.0.0 ∷ b.0.0, b.0.1) x b.2) (both, ap suc t1.1, (t0.1, t0.2, t1.2))

ids_again : (before : ℕ) (ids : List RecId) (rest : List ℕ) → Rises before ids → body_ids (length ids) before (flat_map id_form ids ++ rest) ≡ Some (ids, rest)
unfolding body_ids
ids_again before [] rest rises = refl
ids_again before (id ∷ ids) rest rises =
    let others = flat_map id_form ids in
    ap (body_ids (suc (length ids)) before) (append_assoc (id_form id) others rest)
    ∙ bind_at (body_id before (id_form id ++ (others ++ rest))) (λ i. option_and_then (λ is. Some (i.0 ∷ is.0, is.1)) (body_ids (length ids) i.0.0 i.1)) (id, others ++ rest) (id_again before id (others ++ rest) rises.0 rises.1)
    ∙ bind_at (body_ids (length ids) id.0 (others ++ rest)) (λ is. Some (id ∷ is.0, is.1)) (ids, rest) (ids_again id.0 ids rest rises.2)

abbrev rows_form : List RecId → List ℕ
rows_form ids = to_be_bytes w32 (length ids) ++ flat_map id_form ids

rows_takes : (limit : ℕ) (P : Value → Type 0) → ((ids : List RecId) → IsTargets ids → length ids ≤ limit → P (Refs ids)) → (bytes : List ℕ) (x : Value × List ℕ) → IsBytes bytes
    → body_rows limit bytes ≡ Some x → Took 7 P bytes x
unfolding body_rows
rows_takes limit P holds bytes x fits e =
    let a = bind_some (body_number w32 bytes) _ x e in
    elim (chosen (leb a.0.0 limit) (option_and_then (λ ids. Some (Refs ids.0, ids.1)) (body_ids a.0.0 0 a.0.1)) None (Some x) a.2) [
      | inr long ↦ absurd (let n : None ≡ Some x = long.1 in cc)
      | inl short ↦ (let b = bind_some (body_ids a.0.0 0 a.0.1) (λ ids. Some (Refs ids.0, ids.1)) x short.1 in
          let t0 = number_takes w32 (2 ^ 32) wide32 bytes a.0 fits a.1 in
          let t1 = ids_takes a.0.0 0 a.0.1 b.0 t0.0.rest_fits b.1 in
          let both = Takes-then bytes (to_be_bytes w32 a.0.0) a.0.1 (flat_map id_form b.0.0) b.0.1 t0.0 t1.0 in
          let whole : Takes bytes (rows_form b.0.0) b.0.1 = subst (λ (k : ℕ). Takes bytes (to_be_bytes w32 k ++ flat_map id_form b.0.0) b.0.1) (sym t1.1) both in
          let targets : IsTargets b.0.0 = record { rising = IsRising-from_Rises 0 b.0.0 t1.2; within = All-from_Rises 0 b.0.0 t1.2 } in
          took 7 P bytes (Refs b.0.0) b.0.1 x b.2 (after_tag 7 bytes (rows_form b.0.0) b.0.1 whole) (holds b.0.0 targets (omega (arith, t1.1, leb-true _ _ short.0))))
    ]

-- rows that a list may name rise from above 0
rises_from_targets : (ids : List RecId) → IsTargets ids → Rises 0 ids
rises_from_targets ids fits = Rises-from_IsRising 0 ids (first_id ids fits.within) fits.rising fits.within

-- and are no more than there are ids
length-targets : (ids : List RecId) → IsTargets ids → length ids ≤ 4294967295
length-targets ids fits = omega (arith, length-Rises 0 ids (omega arith) (rises_from_targets ids fits))

rows_again : (limit : ℕ) (ids : List RecId) (rest : List ℕ) → IsTargets ids → length ids ≤ limit → body_rows limit (rows_form ids ++ rest) ≡ Some (Refs ids, rest)
unfolding body_rows
rows_again limit ids rest fits few =
    let all = flat_map id_form ids in
    let small : length ids < 2 ^ 32 = omega (arith, length-targets ids fits) in
    ap (body_rows limit) (append_assoc (to_be_bytes w32 (length ids)) all rest)
    ∙ bind_at (body_number w32 (to_be_bytes w32 (length ids) ++ (all ++ rest))) _ (length ids, all ++ rest) (number_again w32 (2 ^ 32) wide32 (length ids) (all ++ rest) small)
    ∙ ap (λ (b : Bool). cond b (option_and_then (λ is. Some (Refs is.0, is.1)) (body_ids (length ids) 0 (all ++ rest))) None) (le-leb _ _ few)
    ∙ bind_at (body_ids (length ids) 0 (all ++ rest)) (λ is. Some (Refs is.0, is.1)) (ids, rest) (ids_again 0 ids rest (rises_from_targets ids fits))

-- ---- values by the type of the field

content_takes : (t : FieldType) (choices : List Choice) (bytes : List ℕ) (x : Value × List ℕ) → IsBytes bytes → body_content t choices bytes ≡ Some x → Took (tag_of t) (IsValueOf t choices) bytes x
content_takes type.Boolean choices bytes x fits e = flag_takes choices bytes x fits e
content_takes type.Integer choices bytes x fits e = integer_takes choices bytes x fits e
content_takes type.Char choices bytes x fits e = word_takes 8192 (IsValueOf type.Char choices) (λ text h. h) bytes x fits e
content_takes type.Text choices bytes x fits e = word_takes 65536 (IsValueOf type.Text choices) (λ text h. h) bytes x fits e
content_takes type.Date choices bytes x fits e = day_takes choices bytes x fits e
content_takes type.Datetime choices bytes x fits e = moment_takes choices bytes x fits e
content_takes type.Selection choices bytes x fits e = key_takes choices bytes x fits e
content_takes type.Many2one choices bytes x fits e = row_id_takes choices bytes x fits e
content_takes type.One2many choices bytes x fits e = rows_takes 4294967295 (IsValueOf type.One2many choices) (λ ids h few. h) bytes x fits e
content_takes type.Many2many choices bytes x fits e = rows_takes 65536 (IsValueOf type.Many2many choices) (λ ids h few. (h, few)) bytes x fits e

-- a type that has unset values
unset_holds : (t : FieldType) (choices : List Choice) → has_unset t ≡ true → IsValueOf t choices Nil
unset_holds type.Boolean choices e = absurd cc
unset_holds type.Integer choices e = absurd cc
unset_holds type.Char choices e = tt
unset_holds type.Text choices e = tt
unset_holds type.Date choices e = tt
unset_holds type.Datetime choices e = tt
unset_holds type.Selection choices e = tt
unset_holds type.Many2one choices e = tt
unset_holds type.One2many choices e = absurd cc
unset_holds type.Many2many choices e = absurd cc

pub tagged_takes : (t : FieldType) (choices : List Choice) (tag : ℕ) (bytes : List ℕ) (x : Value × List ℕ) → IsBytes bytes → body_tagged t choices tag bytes ≡ Some x
    → Takes (tag ∷ bytes) (content_of x.0) x.1 × IsValueOf t choices x.0
unfolding body_tagged
tagged_takes t choices tag bytes x fits e =
    elim (chosen (eqb tag 0) (cond (has_unset t) (Some (Nil, bytes)) None) (cond (eqb tag (tag_of t)) (body_content t choices bytes) None) (Some x) e) [
      | inl unset ↦ (let g = cond_some (has_unset t) (Nil, bytes) x unset.1 in
          let same : 0 ≡ tag = sym (eqb-true tag 0 unset.0) in
          subst (λ (k : ℕ). Took k (IsValueOf t choices) bytes x) same
          (took 0 (IsValueOf t choices) bytes Nil bytes x (ap Some g.1) (record { parts = refl; rest_fits = fits }) (unset_holds t choices g.0)))
      | inr other ↦ elim (chosen (eqb tag (tag_of t)) (body_content t choices bytes) None (Some x) other.1) [
        | inr wrong ↦ absurd (let n : None ≡ Some x = wrong.1 in cc)
        | inl set ↦ subst (λ (k : ℕ). Took k (IsValueOf t choices) bytes x) (sym (eqb-true tag (tag_of t) set.0)) (content_takes t choices bytes x fits set.1)
      ]
    ]

-- the tag of a value, and what stands after it
abbrev pub value_tag : Value → ℕ
value_tag Nil = 0
value_tag (Flag b) = 1
value_tag (Int n) = 2
value_tag (Word text) = 3
value_tag (Day n) = 4
value_tag (Moment n) = 5
value_tag (Ref id) = 6
value_tag (Refs ids) = 7

abbrev pub value_content : Value → List ℕ
value_content Nil = []
value_content (Flag b) = cond b 1 0 ∷ []
value_content (Int n) = to_be_bytes w64 (cast_unsigned w64 n)
value_content (Word text) = text_form text
value_content (Day n) = to_be_bytes w32 (cast_unsigned w32 n)
value_content (Moment n) = to_be_bytes w64 (cast_unsigned w64 n)
value_content (Ref id) = id_form id
value_content (Refs ids) = rows_form ids

pub content_parts : (v : Value) → content_of v ≡ value_tag v ∷ value_content v
content_parts Nil = refl
content_parts (Flag b) = refl
content_parts (Int n) = refl
content_parts (Word text) = refl
content_parts (Day n) = refl
content_parts (Moment n) = refl
content_parts (Ref id) = refl
content_parts (Refs ids) = refl

pub tagged_again : (t : FieldType) (choices : List Choice) (v : Value) (rest : List ℕ) → IsValueOf t choices v → body_tagged t choices (value_tag v) (value_content v ++ rest) ≡ Some (v, rest)
unfolding body_tagged
tagged_again type.Boolean choices (Flag b) rest h = flag_again b rest
tagged_again type.Boolean choices _ rest h = absurd h
tagged_again type.Integer choices (Int z) rest h = integer_again z rest h
tagged_again type.Integer choices _ rest h = absurd h
tagged_again type.Char choices Nil rest h = refl
tagged_again type.Char choices (Word text) rest h = word_again 8192 text rest h (omega arith)
tagged_again type.Char choices _ rest h = absurd h
tagged_again type.Text choices Nil rest h = refl
tagged_again type.Text choices (Word text) rest h = word_again 65536 text rest h (omega arith)
tagged_again type.Text choices _ rest h = absurd h
tagged_again type.Date choices Nil rest h = refl
tagged_again type.Date choices (Day z) rest h = day_again z rest h
tagged_again type.Date choices _ rest h = absurd h
tagged_again type.Datetime choices Nil rest h = refl
tagged_again type.Datetime choices (Moment z) rest h = moment_again z rest h
tagged_again type.Datetime choices _ rest h = absurd h
tagged_again type.Selection choices Nil rest h = refl
tagged_again type.Selection choices (Word text) rest h = key_again choices text rest h
tagged_again type.Selection choices _ rest h = absurd h
tagged_again type.Many2one choices Nil rest h = refl
tagged_again type.Many2one choices (Ref id) rest h = row_id_again id rest h
tagged_again type.Many2one choices _ rest h = absurd h
tagged_again type.One2many choices (Refs ids) rest h = rows_again 4294967295 ids rest h (length-targets ids h)
tagged_again type.One2many choices _ rest h = absurd h
tagged_again type.Many2many choices (Refs ids) rest h = rows_again 65536 ids rest h.0 h.1
tagged_again type.Many2many choices _ rest h = absurd h

targets_kept : (ids : List RecId) → IsTargets ids → HasContent (Refs ids)
targets_kept ids fits =
    let small : All (λ (id : RecId). id.0 < 2 ^ 64) ids = λ k d h. let here = fits.within k d h in omega (arith, here.1) in
    (omega (arith, length-targets ids fits), recursion_from_All (λ (id : RecId). id.0 < 2 ^ 64) ids small)

-- what a field may hold has a form
pub HasContent-from_IsValueOf : (t : FieldType) (choices : List Choice) (v : Value) → IsValueOf t choices v → HasContent v
HasContent-from_IsValueOf type.Boolean choices (Flag b) h = tt
HasContent-from_IsValueOf type.Boolean choices _ h = absurd h
HasContent-from_IsValueOf type.Integer choices (Int z) h = h
HasContent-from_IsValueOf type.Integer choices _ h = absurd h
HasContent-from_IsValueOf type.Char choices Nil h = tt
HasContent-from_IsValueOf type.Char choices (Word text) h = let short : length text ≤ 8192 = h.short in omega arith
HasContent-from_IsValueOf type.Char choices _ h = absurd h
HasContent-from_IsValueOf type.Text choices Nil h = tt
HasContent-from_IsValueOf type.Text choices (Word text) h = let short : length text ≤ 65536 = h.short in omega arith
HasContent-from_IsValueOf type.Text choices _ h = absurd h
HasContent-from_IsValueOf type.Date choices Nil h = tt
HasContent-from_IsValueOf type.Date choices (Day z) h = FitsSigned-from_IsDay z h
HasContent-from_IsValueOf type.Date choices _ h = absurd h
HasContent-from_IsValueOf type.Datetime choices Nil h = tt
HasContent-from_IsValueOf type.Datetime choices (Moment z) h = FitsSigned-from_IsMoment z h
HasContent-from_IsValueOf type.Datetime choices _ h = absurd h
HasContent-from_IsValueOf type.Selection choices Nil h = tt
HasContent-from_IsValueOf type.Selection choices (Word text) h = let short : length text ≤ 8192 = h.short in omega arith
HasContent-from_IsValueOf type.Selection choices _ h = absurd h
HasContent-from_IsValueOf type.Many2one choices Nil h = tt
HasContent-from_IsValueOf type.Many2one choices (Ref id) h = omega (arith, h.1)
HasContent-from_IsValueOf type.Many2one choices _ h = absurd h
HasContent-from_IsValueOf type.One2many choices (Refs ids) h = targets_kept ids h
HasContent-from_IsValueOf type.One2many choices _ h = absurd h
HasContent-from_IsValueOf type.Many2many choices (Refs ids) h = targets_kept ids h.0
HasContent-from_IsValueOf type.Many2many choices _ h = absurd h
