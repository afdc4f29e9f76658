-- A text that is cut at the first byte of a kind.
use Rattle.std.proofs.Common.{◌≡◌, ℕ, ◌+◌, ◌-◌, Bool, true, false, cond, List, [], ◌∷◌, length, take, drop, Some, None, refl, sym, ap, ◌∙◌, arith, nat_lt}
use Rattle.std.specs.List.{slice_split, position, position_or_len, before_first, count_by}
use Rattle.std.specs.Bool.{◌==◌}
use Rattle.std.proofs.lemmas.List.{take_rest, take_all}
use Rattle.std.proofs.lemmas.List.Sums.{fails_before_first}
use Rattle.std.proofs.lemmas.List.Splits.{slice_split_first, slice_split_none, length-slice_split}
use Rattle.std.proofs.lemmas.Bool.{ltb-true, ltb-false}
use Rattle.ob_http.specs.Head.{end_in_other_version, has_other_version}

-- the byte of a space
abbrev is_space : ℕ → Bool
is_space byte = byte == 32

pub cut_some : (p : ℕ → Bool) (text : List ℕ) (end : ℕ) → position p text ≡ Some end
    → slice_split p text ≡ take end text ∷ slice_split p (take (length text - (end + 1)) (drop (end + 1) text))
cut_some p text end is = at (nat_lt (position_or_len p text) (length text)) refl is
  where
    at : (b : Bool) → nat_lt (position_or_len p text) (length text) ≡ b → cond b (Some (position_or_len p text)) None ≡ Some end
        → slice_split p text ≡ take end text ∷ slice_split p (take (length text - (end + 1)) (drop (end + 1) text))
    at true e some =
        let same : position_or_len p text ≡ end = cc in
        slice_split_first p text 0 (ltb-true (position_or_len p text) (length text) e)
        ∙ ap (λ n. take n text ∷ slice_split p (drop (n + 1) text)) same
        ∙ ap (λ rest. take end text ∷ slice_split p rest) (sym (take_rest text (end + 1)))
    at false e some = absurd (cc)

pub cut_none : (p : ℕ → Bool) (text : List ℕ) → position p text ≡ None → slice_split p text ≡ text ∷ []
cut_none p text is = at (nat_lt (position_or_len p text) (length text)) refl is
  where
    at : (b : Bool) → nat_lt (position_or_len p text) (length text) ≡ b → cond b (Some (position_or_len p text)) None ≡ None → slice_split p text ≡ text ∷ []
    at true e none = absurd (cc)
    at false e none =
        let past = ltb-false (position_or_len p text) (length text) e in
        slice_split_none p text (λ k d inside. fails_before_first p text k d (omega arith))

-- the first part is what stands before the first such byte
pub first_is : (p : ℕ → Bool) (text first : List ℕ) (rest : List (List ℕ)) → slice_split p text ≡ first ∷ rest → first ≡ before_first p text
first_is p text first rest is = at (nat_lt (position_or_len p text) (length text)) refl
  where
    at : (b : Bool) → nat_lt (position_or_len p text) (length text) ≡ b → first ≡ before_first p text
    at true e = let known = slice_split_first p text 0 (ltb-true (position_or_len p text) (length text) e) in cc
    at false e =
        let past = ltb-false (position_or_len p text) (length text) e in
        let known : slice_split p text ≡ text ∷ [] = slice_split_none p text (λ k d inside. fails_before_first p text k d (omega arith)) in
        let all : before_first p text ≡ text = take_all (position_or_len p text) text past in
        cc

part_first : (p : ℕ → Bool) (text : List ℕ) → (first : List ℕ) × (rest : List (List ℕ)) × (slice_split p text ≡ first ∷ rest)
part_first p text = at (slice_split p text) (length-slice_split p text)
  where
    at : (parts : List (List ℕ)) → length parts ≡ count_by p text + 1 → (first : List ℕ) × (rest : List (List ℕ)) × (parts ≡ first ∷ rest)
    at [] e = absurd (omega arith)
    at (first ∷ rest) e = (first, rest, refl)

-- three cuts leave four words
pub four_words : (line after_method version after_version method target word : List ℕ)
    → slice_split is_space line ≡ method ∷ slice_split is_space after_method → slice_split is_space after_method ≡ target ∷ slice_split is_space version
    → slice_split is_space version ≡ word ∷ slice_split is_space after_version → has_other_version line ≡ false
four_words line after_method version after_version method target word first second third =
    let more = part_first is_space after_version in
    ap end_in_other_version (first ∙ ap (λ l. method ∷ l) (second ∙ ap (λ l. target ∷ l) (third ∙ ap (λ l. word ∷ l) more.2)))
