-- No body has two lists of fields: a reading that gives the fields of each body back.
use Rattle.std.proofs.Common.{◌≡◌, ℕ, ℤ, zero, suc, ◌^◌, ◌<◌, true, false, cond, eqb, List, [], ◌∷◌, ◌++◌, length, Option, Some, None, refl, sym, ap, ◌∙◌, append_assoc, arith}
use Rattle.std.specs.Prelude.{option_and_then}
use Rattle.std.specs.Int.{w16, w32, w64, to_be_bytes, cast_signed, cast_unsigned}
use Rattle.std.specs.Int.RustNames.{FitsSigned}
use Rattle.std.specs.List.{flat_map, AllByRecursion}
use Rattle.std.proofs.lemmas.Int.{to_z-of_z, ints}
use Rattle.std.proofs.lemmas.List.{append-nil}
use Rattle.std.proofs.lemmas.Option.{same_Some}
use Rattle.ob_base.specs.declared.id.RecId.{RecId}
use Rattle.ob_base.specs.declared.value.Value.{Value}
use Rattle.ob_base.specs.declared.value.Value.TheVariants.{Nil, Bool as Flag, Int, Word, Day, Moment, Ref, Refs}
use Rattle.ob_codec.specs.KeptForm.{Field, content_of, field_form, body_form, HasContent, IsField, AreFields}
use Rattle.ob_codec.specs.KeptReading.{first_byte, body_part, body_number}
use Rattle.ob_codec.proofs.KeptParts.{bind_at, part_again, wide16, wide32, wide64, number_again}

bits_fit_32 : (z : ℤ) → FitsSigned w32 z → cast_unsigned w32 z < 2 ^ 32
bits_fit_32 z fits = omega (arith, ints)

bits_fit_64 : (z : ℤ) → FitsSigned w64 z → cast_unsigned w64 z < 2 ^ 64
bits_fit_64 z fits = omega (arith, ints)

-- ---- values

-- so many ids
unfoldable any_ids : ℕ → List ℕ → Option (List RecId × List ℕ)
any_ids zero bytes = Some ([], bytes)
any_ids (suc n) bytes = option_and_then (λ id. option_and_then (λ ids. Some (record { 0 = id.0 } ∷ ids.0, ids.1)) (any_ids n id.1)) (body_number w64 bytes)

ids_again : (ids : List RecId) (rest : List ℕ) → AllByRecursion (λ id. id.0 < 2 ^ 64) ids → any_ids (length ids) (flat_map (λ id. to_be_bytes w64 id.0) ids ++ rest) ≡ Some (ids, rest)
unfolding any_ids
ids_again [] rest fits = refl
ids_again (id ∷ ids) rest fits =
    let others = flat_map (λ (i : RecId). to_be_bytes w64 i.0) ids in
    ap (any_ids (suc (length ids))) (append_assoc (to_be_bytes w64 id.0) others rest)
    ∙ bind_at (body_number w64 (to_be_bytes w64 id.0 ++ (others ++ rest))) (λ i. option_and_then (λ is. Some (record { 0 = i.0 } ∷ is.0, is.1)) (any_ids (length ids) i.1)) (id.0, others ++ rest)
    (number_again w64 (2 ^ 64) wide64 id.0 (others ++ rest) fits.0)
    ∙ bind_at (any_ids (length ids) (others ++ rest)) (λ is. Some (id ∷ is.0, is.1)) (ids, rest) (ids_again ids rest fits.1)

-- the value of a tag and a content
abbrev any_content : List ℕ → Option (Value × List ℕ)
any_content [] = None
any_content (tag ∷ bytes) =
    cond (eqb tag 0) (Some (Nil, bytes))
    (cond (eqb tag 1) (option_and_then (λ b. Some (Flag (eqb b.0 1), b.1)) (first_byte bytes))
    (cond (eqb tag 2) (option_and_then (λ n. Some (Int (cast_signed w64 n.0), n.1)) (body_number w64 bytes))
    (cond (eqb tag 3) (option_and_then (λ n. option_and_then (λ t. Some (Word t.0, t.1)) (body_part n.0 n.1)) (body_number w32 bytes))
    (cond (eqb tag 4) (option_and_then (λ n. Some (Day (cast_signed w32 n.0), n.1)) (body_number w32 bytes))
    (cond (eqb tag 5) (option_and_then (λ n. Some (Moment (cast_signed w64 n.0), n.1)) (body_number w64 bytes))
    (cond (eqb tag 6) (option_and_then (λ n. Some (Ref (record { 0 = n.0 }), n.1)) (body_number w64 bytes))
    (option_and_then (λ n. option_and_then (λ ids. Some (Refs ids.0, ids.1)) (any_ids n.0 n.1)) (body_number w32 bytes))))))))

content_again : (v : Value) (rest : List ℕ) → HasContent v → any_content (content_of v ++ rest) ≡ Some (v, rest)
content_again Nil rest fits = refl
content_again (Flag true) rest fits = refl
content_again (Flag false) rest fits = refl
content_again (Int z) rest fits =
    let n = cast_unsigned w64 z in
    bind_at (body_number w64 (to_be_bytes w64 n ++ rest)) (λ m. Some (Int (cast_signed w64 m.0), m.1)) (n, rest) (number_again w64 (2 ^ 64) wide64 n rest (bits_fit_64 z fits))
    ∙ ap (λ (y : ℤ). Some (Int y, rest)) (to_z-of_z w64 z fits)
content_again (Word text) rest fits =
    let len = to_be_bytes w32 (length text) in
    ap (λ (s : List ℕ). any_content (3 ∷ s)) (append_assoc len text rest)
    ∙ bind_at (body_number w32 (len ++ (text ++ rest))) (λ n. option_and_then (λ t. Some (Word t.0, t.1)) (body_part n.0 n.1)) (length text, text ++ rest) (number_again w32 (2 ^ 32) wide32 (length text) (text ++ rest) fits)
    ∙ bind_at (body_part (length text) (text ++ rest)) (λ t. Some (Word t.0, t.1)) (text, rest) (part_again text rest)
content_again (Day z) rest fits =
    let n = cast_unsigned w32 z in
    bind_at (body_number w32 (to_be_bytes w32 n ++ rest)) (λ m. Some (Day (cast_signed w32 m.0), m.1)) (n, rest) (number_again w32 (2 ^ 32) wide32 n rest (bits_fit_32 z fits))
    ∙ ap (λ (y : ℤ). Some (Day y, rest)) (to_z-of_z w32 z fits)
content_again (Moment z) rest fits =
    let n = cast_unsigned w64 z in
    bind_at (body_number w64 (to_be_bytes w64 n ++ rest)) (λ m. Some (Moment (cast_signed w64 m.0), m.1)) (n, rest) (number_again w64 (2 ^ 64) wide64 n rest (bits_fit_64 z fits))
    ∙ ap (λ (y : ℤ). Some (Moment y, rest)) (to_z-of_z w64 z fits)
content_again (Ref id) rest fits =
    bind_at (body_number w64 (to_be_bytes w64 id.0 ++ rest)) (λ m. Some (Ref (record { 0 = m.0 }), m.1)) (id.0, rest) (number_again w64 (2 ^ 64) wide64 id.0 rest fits)
content_again (Refs ids) rest fits =
    let len = to_be_bytes w32 (length ids) in
    let all = flat_map (λ (id : RecId). to_be_bytes w64 id.0) ids in
    ap (λ (s : List ℕ). any_content (7 ∷ s)) (append_assoc len all rest)
    ∙ bind_at (body_number w32 (len ++ (all ++ rest))) (λ n. option_and_then (λ is. Some (Refs is.0, is.1)) (any_ids n.0 n.1)) (length ids, all ++ rest) (number_again w32 (2 ^ 32) wide32 (length ids) (all ++ rest) fits.0)
    ∙ bind_at (any_ids (length ids) (all ++ rest)) (λ is. Some (Refs is.0, is.1)) (ids, rest) (ids_again ids rest fits.1)

-- ---- fields

unfoldable any_field : List ℕ → Option (Field × List ℕ)
any_field bytes = option_and_then (λ len. option_and_then (λ name. option_and_then (λ v. Some (record { name = name.0; value = v.0 }, v.1)) (any_content name.1)) (body_part len.0 len.1)) (first_byte bytes)

field_again : (field : Field) (rest : List ℕ) → IsField field → any_field (field_form field ++ rest) ≡ Some (field, rest)
unfolding any_field
field_again field rest fits =
    let name = field.name in
    let content = content_of field.value in
    ap (λ (s : List ℕ). any_field (length name ∷ s)) (append_assoc name content rest)
    ∙ bind_at (body_part (length name) (name ++ (content ++ rest))) (λ n. option_and_then (λ v. Some (record { name = n.0; value = v.0 }, v.1)) (any_content n.1)) (name, content ++ rest) (part_again name (content ++ rest))
    ∙ bind_at (any_content (content ++ rest)) (λ v. Some (record { name = name; value = v.0 }, v.1)) (field.value, rest) (content_again field.value rest fits.value)

unfoldable any_fields : ℕ → List ℕ → Option (List Field × List ℕ)
any_fields zero bytes = Some ([], bytes)
any_fields (suc n) bytes = option_and_then (λ f. option_and_then (λ fs. Some (f.0 ∷ fs.0, fs.1)) (any_fields n f.1)) (any_field bytes)

each_again : (fields : List Field) (rest : List ℕ) → AllByRecursion IsField fields → any_fields (length fields) (flat_map field_form fields ++ rest) ≡ Some (fields, rest)
unfolding any_fields
each_again [] rest fits = refl
each_again (f ∷ fs) rest fits =
    let others = flat_map field_form fs in
    ap (any_fields (suc (length fs))) (append_assoc (field_form f) others rest)
    ∙ bind_at (any_field (field_form f ++ (others ++ rest))) (λ x. option_and_then (λ xs. Some (x.0 ∷ xs.0, xs.1)) (any_fields (length fs) x.1)) (f, others ++ rest) (field_again f (others ++ rest) fits.0)
    ∙ bind_at (any_fields (length fs) (others ++ rest)) (λ xs. Some (f ∷ xs.0, xs.1)) (fs, rest) (each_again fs rest fits.1)

-- ---- bodies

abbrev any_body : List ℕ → Option (List Field)
any_body [] = None
any_body (version ∷ bytes) = option_and_then (λ n. option_and_then (λ fs. Some fs.0) (any_fields n.0 n.1)) (body_number w16 bytes)

body_again : (fields : List Field) → AreFields fields → any_body (body_form fields) ≡ Some fields
body_again fields fits =
    let all = flat_map field_form fields in
    bind_at (body_number w16 (to_be_bytes w16 (length fields) ++ all)) (λ n. option_and_then (λ fs. Some fs.0) (any_fields n.0 n.1)) (length fields, all) (number_again w16 (2 ^ 16) wide16 (length fields) all fits.0)
    ∙ bind_at (any_fields (length fields) all) (λ fs. Some fs.0) (fields, []) (ap (any_fields (length fields)) (sym (append-nil all)) ∙ each_again fields [] fits.1)

pub one_body_lem : (a b : List Field) → AreFields a → AreFields b → body_form a ≡ body_form b → a ≡ b
one_body_lem a b p q e = same_Some a b (sym (body_again a p) ∙ ap any_body e ∙ body_again b q)
