-- What `{:02}` and `{:04}` write of a number that has the digits.
use Rattle.std.proofs.Common.{◌≡◌, ℕ, ◌+◌, ◌-◌, ◌/◌, ◌%◌, ◌^◌, ◌<◌, ◌≤◌, false, List, [], ◌∷◌, ◌++◌, ap, ◌∙◌, arith, inl, inr}
use Rattle.std.specs.Fmt.{decimal, styled_decimal, char_count, padded_integral, format_spec}
use Rattle.std.proofs.lemmas.Bool.{cases_lt}
use Rattle.std.proofs.lemmas.Fmt.{decimal_digit, decimal_step}
use Rattle.ob_dates.proofs.Places.{two, four}
use Rattle.ob_dates.proofs.Forms.{date_form, time_form}

-- ---- numbers of two, three and four digits

decimal-two : (n : ℕ) → 10 ≤ n → n < 100 → decimal n ≡ two n
decimal-two n low high =
    decimal_step n low (omega arith) ∙ ap (λ (t : List ℕ). t ++ (48 + n % 10) ∷ []) (decimal_digit (n / 10) (omega arith))

decimal-three : (n : ℕ) → 100 ≤ n → n < 1000 → decimal n ≡ (48 + n / 10 / 10) ∷ (48 + n / 10 % 10) ∷ (48 + n % 10) ∷ []
decimal-three n low high =
    decimal_step n (omega arith) (omega arith) ∙ ap (λ (t : List ℕ). t ++ (48 + n % 10) ∷ []) (decimal-two (n / 10) (omega arith) (omega arith))

decimal-four : (n : ℕ) → 1000 ≤ n → n < 10000 → decimal n ≡ four n
decimal-four n low high =
    decimal_step n (omega arith) (omega arith) ∙ ap (λ (t : List ℕ). t ++ (48 + n % 10) ∷ []) (decimal-three (n / 10) (omega arith) (omega arith))

-- ---- with zeros before them

padded_two : (n : ℕ) → n < 100 → padded_integral (format_spec 32 0 4 2 (2 ^ 64 - 1)) false [] (decimal n) ≡ two n
unfolding padded_integral char_count
padded_two n h = elim (cases_lt n 10) [
  | inl one ↦ (let tens : n / 10 ≡ 0 = omega arith in let ones : n % 10 ≡ n = omega arith in rw (decimal_digit n one, tens, ones))
  | inr more ↦ rw (decimal-two n more h)
]

padded_four : (n : ℕ) → n < 10000 → padded_integral (format_spec 32 0 4 4 (2 ^ 64 - 1)) false [] (decimal n) ≡ four n
unfolding padded_integral char_count
padded_four n h = elim (cases_lt n 10) [
  | inl one ↦ (let thousands : n / 10 / 10 / 10 ≡ 0 = omega arith in
      let hundreds : n / 10 / 10 % 10 ≡ 0 = omega arith in
      let tens : n / 10 % 10 ≡ 0 = omega arith in
      let ones : n % 10 ≡ n = omega arith in
      rw (decimal_digit n one, thousands, hundreds, tens, ones))
  | inr ten ↦ elim (cases_lt n 100) [
    | inl few ↦ (let thousands : n / 10 / 10 / 10 ≡ 0 = omega arith in
        let hundreds : n / 10 / 10 % 10 ≡ 0 = omega arith in
        let tens : n / 10 % 10 ≡ n / 10 = omega arith in
        rw (decimal-two n ten few, thousands, hundreds, tens))
    | inr hundred ↦ elim (cases_lt n 1000) [
      | inl some ↦ (let thousands : n / 10 / 10 / 10 ≡ 0 = omega arith in
          let hundreds : n / 10 / 10 % 10 ≡ n / 10 / 10 = omega arith in
          rw (decimal-three n hundred some, thousands, hundreds))
      | inr thousand ↦ rw (decimal-four n thousand h)
    ]
  ]
]

-- what a hole `{:02}` writes, and a hole `{:04}`
abbrev pub hole_two : ℕ → List ℕ
hole_two n = styled_decimal (format_spec 32 0 4 2 (2 ^ 64 - 1)) n

abbrev pub hole_four : ℕ → List ℕ
hole_four n = styled_decimal (format_spec 32 0 4 4 (2 ^ 64 - 1)) n

-- a date's numbers, with `-` between them
pub written_date : (a b c : List ℕ) (y m d : ℕ) → a ≡ hole_four y → b ≡ hole_two m → c ≡ hole_two d → y < 10000 → m < 100 → d < 100 → a ++ (45 ∷ (b ++ (45 ∷ c))) ≡ date_form y m d []
written_date a b c y m d ea eb ec hy hm hd =
    ap (λ (x : List ℕ). x ++ (45 ∷ (b ++ (45 ∷ c)))) (ea ∙ padded_four y hy)
    ∙ ap (λ (x : List ℕ). four y ++ (45 ∷ (x ++ (45 ∷ c)))) (eb ∙ padded_two m hm)
    ∙ ap (λ (x : List ℕ). four y ++ (45 ∷ (two m ++ (45 ∷ x)))) (ec ∙ padded_two d hd)

-- and a time's, with `:` between them, after a date and a space
pub written_time : (date a b c : List ℕ) (h m s : ℕ) → a ≡ hole_two h → b ≡ hole_two m → c ≡ hole_two s → h < 100 → m < 100 → s < 100 → date ++ (32 ∷ (a ++ (58 ∷ (b ++ (58 ∷ c))))) ≡ date ++ time_form h m s
written_time date a b c h m s ea eb ec hh hm hs =
    ap (λ (x : List ℕ). date ++ (32 ∷ (x ++ (58 ∷ (b ++ (58 ∷ c)))))) (ea ∙ padded_two h hh)
    ∙ ap (λ (x : List ℕ). date ++ (32 ∷ (two h ++ (58 ∷ (x ++ (58 ∷ c)))))) (eb ∙ padded_two m hm)
    ∙ ap (λ (x : List ℕ). date ++ (32 ∷ (two h ++ (58 ∷ (two m ++ (58 ∷ x)))))) (ec ∙ padded_two s hs)
