-- Whether the bytes are empty lines alone, by the lines that have come.
use Rattle.std.proofs.Common.{◌≡◌, ℕ, ◌-◌, ◌≤◌, Bool, true, false, List, [], ◌∷◌, ◌++◌, length, drop, refl, ap, ◌∙◌, subst, arith, Option, Some, None}
use Rattle.std.specs.Prelude.{not}
use Rattle.std.specs.List.{list_all, after_last}
use Rattle.std.proofs.lemmas.Bool.{eq-eqb, ne_eqb, and_from, and_left, and_right, not_from_false, not_from_true}
use Rattle.std.proofs.lemmas.List.{length-drop}
use Rattle.std.proofs.lemmas.List.Sums.{list_all-from_AllPass, suffix_len_is}
use Rattle.ob_http.specs.Lines.{ends_line, ended_lines, is_empty_line, are_empty_lines}
use Rattle.ob_http.specs.SoFar.{HasCome, IsSoFar, NoFeed}
use Rattle.ob_http.specs.declared.lines.LinesSoFar.{LinesSoFar}
use Rattle.ob_http.proofs.SoFarLaws.{ended_so_far}

-- how many bytes stand after the last line feed
length-after_last : {bytes : List ℕ} {s : LinesSoFar} → IsSoFar bytes s → s.searched ≡ length bytes → length (after_last ends_line bytes) ≡ length bytes - s.start
length-after_last {bytes} {s} h all =
    let none : NoFeed bytes s.start (length bytes) = subst (NoFeed bytes s.start) all h.no_feed in
    let within : s.start ≤ length bytes = omega (arith, h.start, h.searched) in
    let count = suffix_len_is (λ b. not (ends_line b)) bytes s.start 0 within (λ k low high. not_from_false _ (none k low high)) (λ some. not_from_true _ (h.feed_before some)) in
    ap (λ n. length (drop (length bytes - n) bytes)) count ∙ length-drop (length bytes - (length bytes - s.start)) bytes ∙ omega arith

fails_at : (p : List ℕ → Bool) (xs ys : List (List ℕ)) (y : List ℕ) → p y ≡ false → list_all p (xs ++ y ∷ ys) ≡ false
fails_at p [] ys y fails = and_left (p y) (list_all p ys) fails
fails_at p (x ∷ xs) ys y fails = and_right (p x) (list_all p (xs ++ y ∷ ys)) (fails_at p xs ys y fails)

some_text : (lines : List (List ℕ)) (line : Option (ℕ × ℕ)) (fields : ℕ) → HasCome lines line fields → (line ≡ None → ⊥) → list_all is_empty_line lines ≡ false
some_text lines None fields come some = absurd (some refl)
some_text lines (Some span) fields come some = ap (list_all is_empty_line) come.lines_are ∙ fails_at is_empty_line come.blank come.rest come.text come.text_full

pub ends_empty : {bytes : List ℕ} {s : LinesSoFar} → IsSoFar bytes s → s.searched ≡ length bytes → s.line ≡ None → s.start ≡ length bytes → are_empty_lines bytes ≡ true
ends_empty {bytes} {s} h all none at_end =
    let come : HasCome h.lines None s.fields = subst (λ o. HasCome h.lines o s.fields) none h.come in
    let lines : ended_lines bytes ≡ h.lines = ended_so_far h (subst (NoFeed bytes s.start) all h.no_feed) in
    and_from _ _ (ap (list_all is_empty_line) lines ∙ list_all-from_AllPass is_empty_line h.lines come.0)
    (eq-eqb (length (after_last ends_line bytes)) 0 (length-after_last h all ∙ omega arith))

pub ends_in_text : {bytes : List ℕ} {s : LinesSoFar} → IsSoFar bytes s → s.searched ≡ length bytes → (s.line ≡ None → ⊥) → are_empty_lines bytes ≡ false
ends_in_text {bytes} {s} h all some =
    let lines : ended_lines bytes ≡ h.lines = ended_so_far h (subst (NoFeed bytes s.start) all h.no_feed) in
    and_left _ _ (ap (list_all is_empty_line) lines ∙ some_text h.lines s.line s.fields h.come some)

pub ends_in_line : {bytes : List ℕ} {s : LinesSoFar} → IsSoFar bytes s → s.searched ≡ length bytes → (s.start ≡ length bytes → ⊥) → are_empty_lines bytes ≡ false
ends_in_line {bytes} {s} h all open_line =
    let within : s.start ≤ length bytes = omega (arith, h.start, h.searched) in
    and_right _ _ (ne_eqb (length (after_last ends_line bytes)) 0 (λ e. open_line (omega (arith, length-after_last h all))))
