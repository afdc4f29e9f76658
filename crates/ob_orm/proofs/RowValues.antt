-- The values that a call gives a row, field by field.
use Rattle.std.proofs.Common.{◌≡◌, ℕ, suc, ◌+◌, Bool, true, false, cond, List, ◌∷◌, filter, drop, Option, None, Some}
use Rattle.std.proofs.Common.{IsSomeAnd, ap, ◌∙◌, arith}
use Rattle.std.specs.Prelude.{IfSome, slice_get}
use Rattle.std.specs.List.{enumerate_from}
use Rattle.std.proofs.lemmas.List.{drop_more}
use Rattle.std.proofs.lemmas.Option.{get_or_from_slice_get, slice_get_within}
use Rattle.ob_base.specs.declared.id.FieldNo.{FieldNo}
use Rattle.ob_base.specs.declared.value.Value.{Value}
use Rattle.ob_schema.specs.Built.{numbered}
use Rattle.ob_schema.specs.Fields.{Column, HasFieldType, IsGivable, is_plain_kept}
use Rattle.ob_schema.specs.Models.{fields_of}
use Rattle.ob_schema.specs.declared.info.FieldInfo.{FieldInfo}
use Rattle.ob_schema.specs.declared.info.ModelInfo.{ModelInfo}
use Rattle.ob_tables.specs.Fitting.{IsFitIn}
use Rattle.ob_rows.proofs.CallerLemmas.{told}

-- ---- rows of given values

-- values by the numbers of their fields
abbrev pub Values : Type 0
Values = List (FieldNo × Value)

-- the plain fields from a place on
abbrev pub left : ModelInfo → ℕ → List Column
left info i = filter (λ column. is_plain_kept column.1) (enumerate_from (suc i) (drop i info.fields))

-- with the field there
left_more : (info : ModelInfo) (i : ℕ) (f : FieldInfo) → slice_get info.fields i ≡ Some f → left info i ≡ cond (is_plain_kept f) ((suc i, f) ∷ left info (i + 1)) (left info (i + 1))
left_more info i f at =
    ap (λ (fs : List FieldInfo). filter (λ column. is_plain_kept column.1) (enumerate_from (suc i) fs))
    (drop_more info.fields i f (slice_get_within info.fields i f at) ∙ ap (λ (g : FieldInfo). g ∷ drop (i + 1) info.fields) (get_or_from_slice_get info.fields i f f at))
    ∙ ap (λ (n : ℕ). cond (is_plain_kept f) ((suc i, f) ∷ filter (λ column. is_plain_kept column.1) (enumerate_from n (drop (i + 1) info.fields)))
    (filter (λ column. is_plain_kept column.1) (enumerate_from n (drop (i + 1) info.fields)))) (let e : suc i + 1 ≡ suc (i + 1) = omega arith in e)

pub left_plain : (info : ModelInfo) (i : ℕ) (f : FieldInfo) → slice_get info.fields i ≡ Some f → is_plain_kept f ≡ true → left info i ≡ (suc i, f) ∷ left info (i + 1)
left_plain info i f at plain = left_more info i f at ∙ ap (λ (b : Bool). cond b ((suc i, f) ∷ left info (i + 1)) (left info (i + 1))) plain

pub left_other : (info : ModelInfo) (i : ℕ) (f : FieldInfo) → slice_get info.fields i ≡ Some f → is_plain_kept f ≡ false → left info i ≡ left info (i + 1)
left_other info i f at plain = left_more info i f at ∙ ap (λ (b : Bool). cond b ((suc i, f) ∷ left info (i + 1)) (left info (i + 1))) plain

-- a value of the type of a field that is there may be given to it
pub typed_for : (o : Option FieldInfo) (f : FieldInfo) (got : Option Value) → o ≡ Some f → IfSome got (HasFieldType o) → IfSome got (IsGivable f)
typed_for o f None at typed = tt
typed_for o f (Some v) at typed = told o f (λ field. IsGivable field v) at typed

-- a value that the row of a plain field keeps
abbrev pub FitsIn : ModelInfo → FieldNo × Value → Type 0
FitsIn info given = IsSomeAnd (numbered (fields_of info) given.0.0) (λ field. IsFitIn field given.1)
