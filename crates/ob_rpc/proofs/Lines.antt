-- No text that a reply is made of has a line feed in it.
use Rattle.std.proofs.Common.{◌≡◌, ℕ, zero, suc, ◌+◌, ◌/◌, ◌%◌, ◌<◌, pos, negsuc, List, [], ◌∷◌, ◌++◌, Bool, true, false, cond, ◌==◌, ◌||◌, nat_lt, true≢false, refl, sym, subst, arith, rules}
use Rattle.std.proofs.lemmas.Bool.Decides.{nat_tests}
use Rattle.std.specs.Char.{digit_char}
use Rattle.std.specs.Fmt.{digits, digits_onto, digit_glyph, decimal}
use Rattle.std.specs.List.{flat_map}
use Rattle.serde_json.specs.Data.{Num, unsigned, negative, float, Data, null, boolean, number, string, array, object, Items, no_items, item, Members, no_members, member}
use Rattle.serde_json.specs.Written.{number_text, comma_if, compact_text, items_text, members_text}
use Rattle.serde_json.proofs.OnLiterals.{serde_json_on_literals}
use Rattle.ob_rpc.specs.Reply.{IsOneLine}

IsOneLine-append : (xs ys : List ℕ) → IsOneLine xs → IsOneLine ys → IsOneLine (xs ++ ys)
IsOneLine-append [] ys of_xs of_ys = of_ys
IsOneLine-append (x ∷ xs) ys of_xs of_ys = (of_xs.0, IsOneLine-append xs ys of_xs.1 of_ys)

IsOneLine-cond : (b : Bool) (xs ys : List ℕ) → IsOneLine xs → IsOneLine ys → IsOneLine (cond b xs ys)
IsOneLine-cond true xs ys of_xs of_ys = of_xs
IsOneLine-cond false xs ys of_xs of_ys = of_ys

-- ---- numbers

above : (b : Bool) (m n d : ℕ) → 10 < m → 10 < n → cond b (m + d) (n + d) ≡ 10 → ⊥
above true m n d m_above n_above same = omega arith
above false m n d m_above n_above same = omega arith

digits_line : (k n : ℕ) (acc : List ℕ) → IsOneLine acc → IsOneLine (digits_onto k 10 false n acc)
digits_line zero n acc of_acc = of_acc
digits_line (suc k) n acc of_acc =
    let of_more : IsOneLine (digit_glyph false (n % 10) ∷ acc) = (above (nat_lt (n % 10) 10) 48 87 (n % 10) (omega arith) (omega arith), of_acc) in
    IsOneLine-cond (n / 10 == 0) _ _ of_more (digits_line k (n / 10) _ of_more)

decimal_line : (n : ℕ) → IsOneLine (decimal n)
unfolding digits
decimal_line n = digits_line 64 n [] tt

number_line : (n : Num) → IsOneLine (number_text n)
number_line (unsigned n) = decimal_line n
number_line (negative (pos n)) = decimal_line n
number_line (negative (negsuc n)) = (λ same. omega arith, decimal_line (suc n))
number_line (float x) = tt

-- ---- texts

letter_at : (p a b c d e : Bool) (x : ℕ) → (x ≡ 10 → p ≡ false) → cond p x (cond a 98 (cond b 102 (cond c 110 (cond d 114 (cond e 116 0))))) ≡ 10 → ⊥
letter_at true a b c d e x not_both same = absurd (true≢false (not_both same))
letter_at false true b c d e x not_both same = omega arith
letter_at false false true c d e x not_both same = omega arith
letter_at false false false true d e x not_both same = omega arith
letter_at false false false false true e x not_both same = omega arith
letter_at false false false false false true x not_both same = omega arith
letter_at false false false false false false x not_both same = omega arith

-- the letter of a byte's short escape, or 0
abbrev letter : ℕ → ℕ
letter x = cond ((x == 34) || (x == 92)) x (cond (x == 8) 98 (cond (x == 12) 102 (cond (x == 10) 110 (cond (x == 13) 114 (cond (x == 9) 116 0)))))

letter_line : (x : ℕ) → letter x ≡ 10 → ⊥
letter_line x same = letter_at _ _ _ _ _ _ x (λ e. subst (λ (n : ℕ). ((n == 34) || (n == 92)) ≡ false) (sym e) refl) same

unlettered : (x : ℕ) → letter x ≡ 0 → x ≡ 10 → ⊥
unlettered x none same = let P : ℕ → Type 0 = λ n. letter n ≡ 0 in let h : letter 10 ≡ 0 = subst P same none in omega (arith, h)

-- a digit's letter is no line feed
digit_char_line : (d : ℕ) → digit_char d ≡ 10 → ⊥
digit_char_line d = above (nat_lt d 10) 48 87 d (omega arith) (omega arith)

byte_at : (short low : Bool) (l x h k : ℕ) → (l ≡ 10 → ⊥) → (short ≡ false → x ≡ 10 → ⊥)
    → IsOneLine (cond short (92 ∷ l ∷ []) (cond low (92 ∷ 117 ∷ 48 ∷ 48 ∷ digit_char h ∷ digit_char k ∷ []) (x ∷ [])))
byte_at true low l x h k of_l of_x = (λ same. omega arith, (of_l, tt))
byte_at false true l x h k of_l of_x = (λ same. omega arith, (λ same. omega arith, (λ same. omega arith, (λ same. omega arith, (digit_char_line h, (digit_char_line k, tt))))))
byte_at false false l x h k of_l of_x = (of_x refl, tt)

zero_where_false : (l : ℕ) → nat_lt 0 l ≡ false → l ≡ 0
zero_where_false l none = grind (arith, nat_tests)

byte_line : (x : ℕ) → IsOneLine (cond (nat_lt 0 (letter x)) (92 ∷ letter x ∷ []) (cond (nat_lt x 32) (92 ∷ 117 ∷ 48 ∷ 48 ∷ digit_char (x / 16) ∷ digit_char (x % 16) ∷ []) (x ∷ [])))
byte_line x = byte_at (nat_lt 0 (letter x)) (nat_lt x 32) (letter x) x (x / 16) (x % 16) (letter_line x) (λ none. unlettered x (zero_where_false (letter x) none))

flat_map_line : (f : ℕ → List ℕ) → ((x : ℕ) → IsOneLine (f x)) → (s : List ℕ) → IsOneLine (flat_map f s)
flat_map_line f each [] = tt
flat_map_line f each (x ∷ s) = IsOneLine-append (f x) (flat_map f s) (each x) (flat_map_line f each s)

text_line : (s : List ℕ) → IsOneLine (compact_text (string s))
unfolding serde_json_on_literals
text_line s = (λ same. omega arith, IsOneLine-append _ _ (flat_map_line _ byte_line s) (λ same. omega arith, tt))

-- ---- values

boolean_line : (b : Bool) → IsOneLine (compact_text (boolean b))
boolean_line true = search rules
boolean_line false = search rules

comma_line : (later : Bool) → IsOneLine (comma_if later)
comma_line true = (λ same. omega arith, tt)
comma_line false = tt

mutual
  pub compact_text-IsOneLine : (d : Data) → IsOneLine (compact_text d)
  compact_text-IsOneLine null = search rules
  compact_text-IsOneLine (boolean b) = boolean_line b
  compact_text-IsOneLine (number n) = number_line n
  compact_text-IsOneLine (string s) = text_line s
  compact_text-IsOneLine (array ds) = (λ same. omega arith, items_line false ds)
  compact_text-IsOneLine (object ms) = (λ same. omega arith, members_line false ms)

  items_line : (later : Bool) (ds : Items) → IsOneLine (items_text later ds)
  items_line later no_items = (λ same. omega arith, tt)
  items_line later (item d ds) = IsOneLine-append _ _ (comma_line later) (IsOneLine-append _ _ (compact_text-IsOneLine d) (items_line true ds))

  members_line : (later : Bool) (ms : Members) → IsOneLine (members_text later ms)
  members_line later no_members = (λ same. omega arith, tt)
  members_line later (member k d ms) = IsOneLine-append _ _ (comma_line later) (IsOneLine-append (compact_text (string k)) (58 ∷ (compact_text d ++ members_text true ms)) (text_line k)
      (λ same. omega arith, IsOneLine-append _ _ (compact_text-IsOneLine d) (members_line true ms)))
