-- The spaces and tabs at both ends of bytes, by how many there are.
use Rattle.std.proofs.Common.{◌≡◌, ℕ, suc, ◌+◌, ◌-◌, ◌≤◌, Bool, true, false, cond, List, [], ◌∷◌, ◌++◌, length, take, drop, refl, sym, ap, ◌∙◌, arith, reverse, length-drop}
use Rattle.std.specs.List.{prefix_len, suffix_len}
use Rattle.std.proofs.lemmas.List.{take-append-drop, take_rest, reverse-append, reverse-reverse, length-reverse}
use Rattle.std.proofs.lemmas.List.Sums.{prefix_len-le-length}
use Rattle.std.proofs.Math.Seq.{drop-append_seam}
use Rattle.httparse.specs.Grammar.{is_ows, skip_ows, trim_ows}

skip_is : (bytes : List ℕ) → skip_ows bytes ≡ drop (prefix_len is_ows bytes) bytes
skip_is [] = refl
skip_is (b ∷ bytes) = at (skip_is bytes) (is_ows b)
  where
    at : skip_ows bytes ≡ drop (prefix_len is_ows bytes) bytes → (t : Bool) → cond t (skip_ows bytes) (b ∷ bytes) ≡ drop (cond t (1 + prefix_len is_ows bytes) 0) (b ∷ bytes)
    at rest true = let next : suc (prefix_len is_ows bytes) ≡ 1 + prefix_len is_ows bytes = omega arith in
        rest ∙ ap (λ n. drop n (b ∷ bytes)) next
    at rest false = refl

-- the first bytes from behind are the last
drop_from_behind : (bytes : List ℕ) (k : ℕ) → k ≤ length bytes → reverse (drop k (reverse bytes)) ≡ take (length bytes - k) bytes
drop_from_behind bytes k fits =
    let kept = length bytes - k in
    let parts : reverse bytes ≡ reverse (drop kept bytes) ++ reverse (take kept bytes)
    = ap reverse (sym (take-append-drop kept bytes)) ∙ reverse-append (take kept bytes) (drop kept bytes) in
    let size : k ≡ length (reverse (drop kept bytes)) = omega (arith, length-reverse (drop kept bytes), length-drop kept bytes) in
    ap (λ n. reverse (drop n (reverse bytes))) size ∙ ap (λ l. reverse (drop (length (reverse (drop kept bytes))) l)) parts
    ∙ ap reverse (drop-append_seam (reverse (drop kept bytes)) (reverse (take kept bytes))) ∙ reverse-reverse (take kept bytes)

-- what stands between the blanks
between : List ℕ → List ℕ
between rest = take (length rest - suffix_len is_ows rest) rest

trim_is : (bytes : List ℕ) → trim_ows bytes ≡ between (drop (prefix_len is_ows bytes) bytes)
unfolding trim_ows between
trim_is bytes =
    let rest = drop (prefix_len is_ows bytes) bytes in
    let fits : suffix_len is_ows rest ≤ length rest = omega (arith, prefix_len-le-length is_ows (reverse rest), length-reverse rest) in
    ap (λ r. reverse (skip_ows (reverse r))) (skip_is bytes) ∙ ap reverse (skip_is (reverse rest)) ∙ drop_from_behind rest (suffix_len is_ows rest) fits

pub trimmed_is : (bytes : List ℕ) (first last : ℕ) → first ≡ prefix_len is_ows bytes
    → last ≡ suffix_len is_ows (take (length bytes - first) (drop first bytes))
    → take (length (take (length bytes - first) (drop first bytes)) - last) (take (length bytes - first) (drop first bytes)) ≡ trim_ows bytes
unfolding between
trimmed_is bytes first last first_is last_is =
    let rest = take (length bytes - first) (drop first bytes) in
    let same : rest ≡ drop (prefix_len is_ows bytes) bytes = take_rest bytes first ∙ ap (λ n. drop n bytes) first_is in
    ap (λ n. take (length rest - n) rest) last_is ∙ ap between same ∙ sym (trim_is bytes)

pub suffix_fits : (bytes : List ℕ) → suffix_len is_ows bytes ≤ length bytes
suffix_fits bytes = omega (arith, prefix_len-le-length is_ows (reverse bytes), length-reverse bytes)
