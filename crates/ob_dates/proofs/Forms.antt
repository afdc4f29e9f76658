-- The one text of a date and of a moment: what is read from it, and that no other is read so.
use Rattle.std.proofs.Common.{◌≡◌, ℕ, ◌/◌, ◌%◌, ◌<◌, List, [], ◌∷◌, ◌++◌, length, get_or, drop, codes, refl, ap, ◌∙◌, arith}
use Rattle.std.proofs.lemmas.List.{drop_all}
use Rattle.ob_dates.specs.Digits.{HasDate, HasTime}
use Rattle.ob_dates.specs.Texts.{shape_of, number_in}
use Rattle.ob_dates.proofs.Places.{zeroed-digit, length_from_shape, digits_from_shape, byte_from_shape, two, four, one_front, two_front, four_front}

-- a year, a month and a day of the month as a text, and what comes after
abbrev pub date_form : ℕ → ℕ → ℕ → List ℕ → List ℕ
date_form year month day rest = four year ++ (45 ∷ (two month ++ (45 ∷ (two day ++ rest))))

-- an hour, a minute and a second as a text, after the date
abbrev pub time_form : ℕ → ℕ → ℕ → List ℕ
time_form hour minute second = 32 ∷ (two hour ++ (58 ∷ (two minute ++ (58 ∷ two second))))

-- ---- the shapes

abbrev pub day_shape : List ℕ
day_shape = codes "0000-00-00"

abbrev pub moment_shape : List ℕ
moment_shape = codes "0000-00-00 00:00:00"

pub has_date_of_day : (text : List ℕ) → shape_of text ≡ day_shape → HasDate text
has_date_of_day text e = record {
  year = digits_from_shape text day_shape 0 4 e (omega arith) refl;
  month = digits_from_shape text day_shape 5 2 e (omega arith) refl;
  day = digits_from_shape text day_shape 8 2 e (omega arith) refl;
}

pub has_date_of_moment : (text : List ℕ) → shape_of text ≡ moment_shape → HasDate text
has_date_of_moment text e = record {
  year = digits_from_shape text moment_shape 0 4 e (omega arith) refl;
  month = digits_from_shape text moment_shape 5 2 e (omega arith) refl;
  day = digits_from_shape text moment_shape 8 2 e (omega arith) refl;
}

pub has_time : (text : List ℕ) → shape_of text ≡ moment_shape → HasTime text
has_time text e = record {
  hour = digits_from_shape text moment_shape 11 2 e (omega arith) refl;
  minute = digits_from_shape text moment_shape 14 2 e (omega arith) refl;
  second = digits_from_shape text moment_shape 17 2 e (omega arith) refl;
}

-- ---- a text is the form of the numbers that are read from it

date_split : (text : List ℕ) → HasDate text → get_or text 4 0 ≡ 45 → get_or text 7 0 ≡ 45 → text ≡ date_form (number_in text 0 4) (number_in text 5 2) (number_in text 8 2) (drop 10 text)
date_split text h e4 e7 =
    let year = number_in text 0 4 in
    let month = number_in text 5 2 in
    let l4 : 4 < length text = omega (arith, h.month.within) in
    let l7 : 7 < length text = omega (arith, h.day.within) in
    four_front text 0 h.year
    ∙ ap (λ (t : List ℕ). four year ++ t) (one_front text 4 45 l4 e4)
    ∙ ap (λ (t : List ℕ). four year ++ (45 ∷ t)) (two_front text 5 h.month)
    ∙ ap (λ (t : List ℕ). four year ++ (45 ∷ (two month ++ t))) (one_front text 7 45 l7 e7)
    ∙ ap (λ (t : List ℕ). four year ++ (45 ∷ (two month ++ (45 ∷ t)))) (two_front text 8 h.day)

time_split : (text : List ℕ) → HasTime text → length text ≡ 19 → get_or text 10 0 ≡ 32 → get_or text 13 0 ≡ 58 → get_or text 16 0 ≡ 58 → drop 10 text ≡ time_form (number_in text 11 2) (number_in text 14 2) (number_in text 17 2)
time_split text h len e10 e13 e16 =
    let hour = number_in text 11 2 in
    let minute = number_in text 14 2 in
    let second = number_in text 17 2 in
    let l10 : 10 < length text = omega arith in
    let l13 : 13 < length text = omega arith in
    let l16 : 16 < length text = omega arith in
    one_front text 10 32 l10 e10
    ∙ ap (λ (t : List ℕ). 32 ∷ t) (two_front text 11 h.hour)
    ∙ ap (λ (t : List ℕ). 32 ∷ (two hour ++ t)) (one_front text 13 58 l13 e13)
    ∙ ap (λ (t : List ℕ). 32 ∷ (two hour ++ (58 ∷ t))) (two_front text 14 h.minute)
    ∙ ap (λ (t : List ℕ). 32 ∷ (two hour ++ (58 ∷ (two minute ++ t)))) (one_front text 16 58 l16 e16)
    ∙ ap (λ (t : List ℕ). 32 ∷ (two hour ++ (58 ∷ (two minute ++ (58 ∷ t))))) (two_front text 17 h.second)
    ∙ ap (λ (t : List ℕ). 32 ∷ (two hour ++ (58 ∷ (two minute ++ (58 ∷ (two second ++ t)))))) (drop_all 19 text (omega arith))

pub day_text_is : (text : List ℕ) → shape_of text ≡ day_shape → text ≡ date_form (number_in text 0 4) (number_in text 5 2) (number_in text 8 2) []
day_text_is text e =
    date_split text (has_date_of_day text e) (byte_from_shape text day_shape 4 45 e refl (omega arith)) (byte_from_shape text day_shape 7 45 e refl (omega arith))
    ∙ ap (date_form (number_in text 0 4) (number_in text 5 2) (number_in text 8 2)) (drop_all 10 text (omega (arith, length_from_shape text day_shape e)))

pub moment_text_is : (text : List ℕ) → shape_of text ≡ moment_shape → text ≡ date_form (number_in text 0 4) (number_in text 5 2) (number_in text 8 2) (time_form (number_in text 11 2) (number_in text 14 2) (number_in text 17 2))
moment_text_is text e =
    date_split text (has_date_of_moment text e) (byte_from_shape text moment_shape 4 45 e refl (omega arith)) (byte_from_shape text moment_shape 7 45 e refl (omega arith))
    ∙ ap (date_form (number_in text 0 4) (number_in text 5 2) (number_in text 8 2))
    (time_split text (has_time text e) (length_from_shape text moment_shape e) (byte_from_shape text moment_shape 10 32 e refl (omega arith)) (byte_from_shape text moment_shape 13 58 e refl (omega arith))
    (byte_from_shape text moment_shape 16 58 e refl (omega arith)))

-- ---- and the form has the shape, and gives the numbers again

shape_of-two : (n : ℕ) → n < 100 → shape_of (two n) ≡ 48 ∷ 48 ∷ []
shape_of-two n h =
    let a = zeroed-digit (n / 10) (omega arith) in
    let b = zeroed-digit (n % 10) (omega arith) in
    rw (a, b)

shape_of-four : (n : ℕ) → n < 10000 → shape_of (four n) ≡ 48 ∷ 48 ∷ 48 ∷ 48 ∷ []
shape_of-four n h =
    let a = zeroed-digit (n / 10 / 10 / 10) (omega arith) in
    let b = zeroed-digit (n / 10 / 10 % 10) (omega arith) in
    let c = zeroed-digit (n / 10 % 10) (omega arith) in
    let d = zeroed-digit (n % 10) (omega arith) in
    rw (a, b, c, d)

pub shape_of-date_form : (year month day : ℕ) (rest : List ℕ) → year < 10000 → month < 100 → day < 100 → shape_of (date_form year month day rest) ≡ day_shape ++ shape_of rest
shape_of-date_form year month day rest hy hm hd =
    ap (λ (s : List ℕ). s ++ (45 ∷ (shape_of (two month) ++ (45 ∷ (shape_of (two day) ++ shape_of rest))))) (shape_of-four year hy)
    ∙ ap (λ (s : List ℕ). 48 ∷ 48 ∷ 48 ∷ 48 ∷ 45 ∷ (s ++ (45 ∷ (shape_of (two day) ++ shape_of rest)))) (shape_of-two month hm)
    ∙ ap (λ (s : List ℕ). 48 ∷ 48 ∷ 48 ∷ 48 ∷ 45 ∷ 48 ∷ 48 ∷ 45 ∷ (s ++ shape_of rest)) (shape_of-two day hd)

pub shape_of-time_form : (hour minute second : ℕ) → hour < 100 → minute < 100 → second < 100 → shape_of (time_form hour minute second) ≡ codes " 00:00:00"
shape_of-time_form hour minute second hh hm hs =
    ap (λ (s : List ℕ). 32 ∷ (s ++ (58 ∷ (shape_of (two minute) ++ (58 ∷ shape_of (two second)))))) (shape_of-two hour hh)
    ∙ ap (λ (s : List ℕ). 32 ∷ 48 ∷ 48 ∷ 58 ∷ (s ++ (58 ∷ shape_of (two second)))) (shape_of-two minute hm)
    ∙ ap (λ (s : List ℕ). 32 ∷ 48 ∷ 48 ∷ 58 ∷ 48 ∷ 48 ∷ 58 ∷ s) (shape_of-two second hs)
