-- What rows sum up to, one row after the other.
use Rattle.std.proofs.Common.{◌≡◌, ℕ, zero, suc, ◌+◌, ◌<◌, ◌≤◌, Bool, true, false, cond, List, [], ◌∷◌, map, filter, length, get_or, drop, Option, Some, None, Vec, Global, refl, sym, ap, ◌∙◌, arith, ℤ, pos, ◌+ℤ◌, add-one}
use Rattle.std.specs.Prelude.{not}
use Rattle.std.specs.Int.{int_max, int_min}
use Rattle.std.specs.Option.{option_map_or}
use Rattle.std.proofs.Math.Seq.{drop-cons}
use Rattle.std.proofs.lemmas.Int.{ints}
use Rattle.ob_base.specs.declared.value.Value.{Value}
use Rattle.ob_base.specs.declared.value.Value.TheVariants as value
use Rattle.ob_domain.specs.Passing.{is_unset}
use Rattle.ob_group.specs.GroupAmounts.{greatest, least, set_values, total, whole_of}
use Rattle.ob_group.specs.GroupValues.{column_of}

-- what a row holds at a number
abbrev pub cell_of : ℕ → Vec Value Global → Value
cell_of number row = get_or row.items number value.Nil

-- the rows from one on are that one, and those behind it
pub column-next : (number : ℕ) (rows : List (Vec Value Global)) (i : ℕ) (row : Vec Value Global) → i < length rows → row ≡ get_or rows i row → column_of number (drop i rows) ≡ cell_of number row ∷ column_of number (drop (i + 1) rows)
column-next number rows i row lt is =
    ap (column_of number) (drop-cons rows i row lt) ∙ ap (λ (n : ℕ). cell_of number (get_or rows i row) ∷ column_of number (drop n rows)) (sym (add-one i))
    ∙ ap (λ (r : Vec Value Global). cell_of number r ∷ column_of number (drop (i + 1) rows)) (sym is)

-- none is left
pub column-end : (number : ℕ) (rows : List (Vec Value Global)) (i : ℕ) → length rows ≤ i → column_of number (drop i rows) ≡ []
column-end number [] zero low = refl
column-end number [] (suc i) low = refl
column-end number (row ∷ rows) zero low = absurd (omega arith)
column-end number (row ∷ rows) (suc i) low = column-end number rows i (omega arith)

-- ---- sums

pub total-more : (all rest : List Value) (v : Value) (old new : ℤ) → new ≡ old +ℤ whole_of v → old +ℤ total (v ∷ rest) ≡ total all → new +ℤ total rest ≡ total all
total-more all rest v old new is so_far = omega (arith, ints, is, so_far)

-- ---- the least and the greatest

-- the lesser of what was found and what is still to come, each where there is one
abbrev pub lesser_of : Option ℤ → Option ℤ → Option ℤ
lesser_of None o = o
lesser_of (Some a) o = Some (option_map_or (int_min a) o a)

abbrev pub greater_of : Option ℤ → Option ℤ → Option ℤ
greater_of None o = o
greater_of (Some a) o = Some (option_map_or (int_max a) o a)

min_min : (a b c : ℤ) → int_min (int_min a b) c ≡ int_min a (int_min b c)
min_min a b c = grind (arith, ints)

max_max : (a b c : ℤ) → int_max (int_max a b) c ≡ int_max a (int_max b c)
max_max a b c = grind (arith, ints)

pub least-more : (before rest : Option ℤ) (n : ℤ) → lesser_of (Some (option_map_or (λ other. int_min other n) before n)) rest ≡ lesser_of before (Some (option_map_or (int_min n) rest n))
least-more None rest n = refl
least-more (Some a) None n = refl
least-more (Some a) (Some b) n = ap Some (min_min a n b)

pub greatest-more : (before rest : Option ℤ) (n : ℤ) → greater_of (Some (option_map_or (λ other. int_max other n) before n)) rest ≡ greater_of before (Some (option_map_or (int_max n) rest n))
greatest-more None rest n = refl
greatest-more (Some a) None n = refl
greatest-more (Some a) (Some b) n = ap Some (max_max a n b)

pub least-end : (o : Option ℤ) → lesser_of o None ≡ o
least-end None = refl
least-end (Some a) = refl

pub greatest-end : (o : Option ℤ) → greater_of o None ≡ o
greatest-end None = refl
greatest-end (Some a) = refl

-- ---- how many are set

pub count-set : (total count : ℕ) (v : Value) (rest : List Value) → not (is_unset v) ≡ true → count + length (set_values (v ∷ rest)) ≡ total → (count + 1) + length (set_values rest) ≡ total
count-set total count v rest set so_far =
    let size : length (set_values (v ∷ rest)) ≡ suc (length (set_values rest)) = ap (λ (b : Bool). length (cond b (v ∷ set_values rest) (set_values rest))) set in
    omega (arith, size, so_far)

pub set-kept : (v : Value) (rest : List Value) → not (is_unset v) ≡ true → set_values (v ∷ rest) ≡ v ∷ set_values rest
set-kept v rest set = ap (λ (b : Bool). cond b (v ∷ set_values rest) (set_values rest)) set

pub unset-dropped : (v : Value) (rest : List Value) → not (is_unset v) ≡ false → set_values (v ∷ rest) ≡ set_values rest
unset-dropped v rest unset = ap (λ (b : Bool). cond b (v ∷ set_values rest) (set_values rest)) unset
