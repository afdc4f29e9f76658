-- What a text of a day or of a moment is read as, and that no two are read as one.
use Rattle.std.proofs.Common.{◌≡◌, ℕ, ◌+◌, ◌*◌, ◌/◌, ◌%◌, ◌<◌, ◌≤◌, ◌&&◌, Bool, true, false, inl, inr, cond, refl, sym, ap, ◌∙◌}
use Rattle.std.proofs.Common.{arith, ℤ, pos, negsuc, ◌+ℤ◌, ◌*ℤ◌, ◌≤ℤ◌, ◌<ℤ◌, List, [], ◌++◌, Option, Some, None, FitsSigned, to_z, of_z, to_z-of_z, w32, w64}
use Rattle.std.specs.Prelude.{nat_le, unsigned_abs}
use Rattle.std.specs.Int.{int_div_euclid, int_rem_euclid}
use Rattle.std.specs.Str.{bytes_eq}
use Rattle.std.proofs.lemmas.Bool.{cases_Bool, and_parts, and_from, leb-true, le-leb}
use Rattle.std.proofs.lemmas.Int.{to_z_pos}
use Rattle.std.proofs.lemmas.Option.{cond_some, same_Some}
use Rattle.std.proofs.lemmas.Slice.Eq.{bytes_eq-Decides}
use Rattle.jiff_core.specs.declared.civil.date.Date.{Date}
use Rattle.jiff_core.specs.Date.{epoch_day}
use Rattle.jiff_core.proofs.CalendarLemmas.{days_in_month_bounds}
use Rattle.jiff_core.proofs.SignedLemmas.{signed_arith, unsigned_abs-parts}
use Rattle.ob_base.specs.Times.{IsDay, IsMoment}
use Rattle.ob_dates.specs.Texts.{shape_of, number_in, is_time, day_of_date, seconds_of_time, date_in, time_in, day_from, moment_at, moment_from}
use Rattle.ob_dates.proofs.Dates.{one_date, day_of_date-some, small_numbers, date_numbers}
use Rattle.ob_dates.proofs.Places.{digits_value-two, digits_value-four}
use Rattle.ob_dates.proofs.Forms.{date_form, time_form, day_shape, moment_shape, day_text_is, moment_text_is, shape_of-date_form, shape_of-time_form}

-- a value that stands where a test holds
chosen : (b : Bool) (x : Option ℤ) (y : ℤ) → cond b x None ≡ Some y → (b ≡ true) × (x ≡ Some y)
chosen true x y e = (refl, e)
chosen false x y e = absurd (let n : None ≡ Some y = e in cc)

-- a text of the shape is read by its numbers, and any other is none
pub read_shaped : (text shape : List ℕ) (x : Option ℤ) → shape_of text ≡ shape → cond (bytes_eq (shape_of text) shape) x None ≡ x
read_shaped text shape x e = ap (λ (b : Bool). cond b x None) ((bytes_eq-Decides (shape_of text) shape).1 e)

pub read_unshaped : (text shape : List ℕ) (x : Option ℤ) → (shape_of text ≡ shape → ⊥) → cond (bytes_eq (shape_of text) shape) x None ≡ None
read_unshaped text shape x h =
    let wrong : bytes_eq (shape_of text) shape ≡ false = elim (cases_Bool (bytes_eq (shape_of text) shape)) [ inl holds ↦ absurd (h ((bytes_eq-Decides (shape_of text) shape).0 holds)) | inr fails ↦ fails ] in
    ap (λ (b : Bool). cond b x None) wrong

-- what was read has the shape
read-some : (text shape : List ℕ) (x : Option ℤ) (y : ℤ) → cond (bytes_eq (shape_of text) shape) x None ≡ Some y → (shape_of text ≡ shape) × (x ≡ Some y)
read-some text shape x y e =
    let both = chosen (bytes_eq (shape_of text) shape) x y e in
    ((bytes_eq-Decides (shape_of text) shape).0 both.0, both.1)

-- ---- days

pub date_in-date_form : (y m d : ℕ) (rest : List ℕ) → y < 10000 → m < 100 → d < 100 → date_in (date_form y m d rest) ≡ day_of_date y m d
date_in-date_form y m d rest hy hm hd =
    ap (λ (n : ℕ). day_of_date n (number_in (date_form y m d rest) 5 2) (number_in (date_form y m d rest) 8 2)) (digits_value-four y hy)
    ∙ ap (λ (n : ℕ). day_of_date y n (number_in (date_form y m d rest) 8 2)) (digits_value-two m hm)
    ∙ ap (λ (n : ℕ). day_of_date y m n) (digits_value-two d hd)

pub day_from-date_form : (y m d : ℕ) → y < 10000 → m < 100 → d < 100 → day_from (date_form y m d []) ≡ day_of_date y m d
day_from-date_form y m d hy hm hd =
    read_shaped (date_form y m d []) day_shape (date_in (date_form y m d [])) (shape_of-date_form y m d [] hy hm hd)
    ∙ date_in-date_form y m d [] hy hm hd

-- two texts whose dates are one day have the same numbers
same_dates : (a b : List ℕ) (day : ℤ) → date_in a ≡ Some day → date_in b ≡ Some day → (number_in a 0 4 ≡ number_in b 0 4) × (number_in a 5 2 ≡ number_in b 5 2) × (number_in a 8 2 ≡ number_in b 8 2)
same_dates a b day ea eb =
    let da = day_of_date-some (number_in a 0 4) (number_in a 5 2) (number_in a 8 2) day ea in
    let db = day_of_date-some (number_in b 0 4) (number_in b 5 2) (number_in b 8 2) day eb in
    one_date _ _ _ _ _ _ da.0 db.0 (da.1 ∙ sym db.1)

same_date_form : (y m d y₂ m₂ d₂ : ℕ) (rest : List ℕ) → (y ≡ y₂) × (m ≡ m₂) × (d ≡ d₂) → date_form y m d rest ≡ date_form y₂ m₂ d₂ rest
same_date_form y m d y₂ m₂ d₂ rest h =
    ap (λ (n : ℕ). date_form n m d rest) h.0 ∙ ap (λ (n : ℕ). date_form y₂ n d rest) h.1 ∙ ap (λ (n : ℕ). date_form y₂ m₂ n rest) h.2

pub one_day : (day : ℤ) (a b : List ℕ) → day_from a ≡ Some day → day_from b ≡ Some day → a ≡ b
one_day day a b ea eb =
    let ra = read-some a day_shape (date_in a) day ea in
    let rb = read-some b day_shape (date_in b) day eb in
    day_text_is a ra.0
    ∙ same_date_form _ _ _ _ _ _ [] (same_dates a b day ra.1 rb.1)
    ∙ sym (day_text_is b rb.0)

-- the text of a date's numbers is read as its day
pub date_read : (date : Date) (day : ℤ) (text : List ℕ) → pos 1 ≤ℤ date.year → epoch_day date ≡ day → text ≡ date_form (unsigned_abs date.year) date.month date.day [] → day_from text ≡ Some day
date_read date day text low same e =
    let small = small_numbers date low in
    ap day_from e ∙ day_from-date_form (unsigned_abs date.year) date.month date.day small.year small.month small.day ∙ date_numbers date low ∙ ap (λ (z : ℤ). Some z) same

-- ---- moments

-- an hour, a minute and a second of a day
pub record IsTimeOfDay (h m s : ℕ) : Type 0 where
  pub hour : h ≤ 23
  pub minute : m ≤ 59
  pub second : s ≤ 59

pub time_from_test : (h m s : ℕ) → is_time h m s ≡ true → IsTimeOfDay h m s
time_from_test h m s e =
    let p2 = and_parts (nat_le h 23 && nat_le m 59) (nat_le s 59) e in
    let p1 = and_parts (nat_le h 23) (nat_le m 59) p2.0 in
    record { hour = leb-true h 23 p1.0; minute = leb-true m 59 p1.1; second = leb-true s 59 p2.1 }

pub test_from_time : (h m s : ℕ) → IsTimeOfDay h m s → is_time h m s ≡ true
test_from_time h m s t =
    and_from (nat_le h 23 && nat_le m 59) (nat_le s 59) (and_from (nat_le h 23) (nat_le m 59) (le-leb h 23 t.hour) (le-leb m 59 t.minute)) (le-leb s 59 t.second)

pub seconds_of_time-is : (h m s : ℕ) → IsTimeOfDay h m s → seconds_of_time h m s ≡ Some (h * 3600 + m * 60 + s)
seconds_of_time-is h m s t =
    ap (λ (b : Bool). cond b (Some (h * 3600 + m * 60 + s)) None) (test_from_time h m s t)

pub seconds_of_time-some : (h m s n : ℕ) → seconds_of_time h m s ≡ Some n → IsTimeOfDay h m s × (h * 3600 + m * 60 + s ≡ n)
seconds_of_time-some h m s n e =
    let both = cond_some (is_time h m s) (h * 3600 + m * 60 + s) n e in
    (time_from_test h m s both.0, both.1)

one_time : (h m s h₂ m₂ s₂ : ℕ) → IsTimeOfDay h m s → IsTimeOfDay h₂ m₂ s₂ → h * 3600 + m * 60 + s ≡ h₂ * 3600 + m₂ * 60 + s₂ → (h ≡ h₂) × (m ≡ m₂) × (s ≡ s₂)
one_time h m s h₂ m₂ s₂ t t₂ e =
    let hour : h ≡ h₂ = omega arith in
    let minute : m ≡ m₂ = omega arith in
    (hour, minute, omega arith)

-- the two parts of a moment
pub record HasParts (day : Option ℤ) (seconds : Option ℕ) (moment : ℤ) : Type 0 where
  pub number : ℤ
  pub rest : ℕ
  pub day_is : day ≡ Some number
  pub rest_is : seconds ≡ Some rest
  pub sum : number *ℤ pos 86400 +ℤ pos rest ≡ moment

moment_at-some : (day : Option ℤ) (seconds : Option ℕ) (moment : ℤ) → moment_at day seconds ≡ Some moment → HasParts day seconds moment
moment_at-some None seconds moment e = absurd (let n : None ≡ Some moment = e in cc)
moment_at-some (Some d) None moment e = absurd (let n : None ≡ Some moment = e in cc)
moment_at-some (Some d) (Some s) moment e = record { number = d; rest = s; day_is = refl; rest_is = refl; sum = same_Some _ _ e }

one_sum : (d d₂ : ℤ) (s s₂ : ℕ) → s < 86400 → s₂ < 86400 → d *ℤ pos 86400 +ℤ pos s ≡ d₂ *ℤ pos 86400 +ℤ pos s₂ → (d ≡ d₂) × (s ≡ s₂)
one_sum d d₂ s s₂ h h₂ e =
    let day : d ≡ d₂ = omega (arith, signed_arith) in
    (day, omega (arith, signed_arith))

pub time_in-time_form : (y m d h mi s : ℕ) → h < 100 → mi < 100 → s < 100 → time_in (date_form y m d (time_form h mi s)) ≡ seconds_of_time h mi s
time_in-time_form y m d h mi s hh hm hs =
    ap (λ (n : ℕ). seconds_of_time n (number_in (date_form y m d (time_form h mi s)) 14 2) (number_in (date_form y m d (time_form h mi s)) 17 2)) (digits_value-two h hh)
    ∙ ap (λ (n : ℕ). seconds_of_time h n (number_in (date_form y m d (time_form h mi s)) 17 2)) (digits_value-two mi hm)
    ∙ ap (λ (n : ℕ). seconds_of_time h mi n) (digits_value-two s hs)

pub moment_from-form : (y m d h mi s : ℕ) → y < 10000 → m < 100 → d < 100 → h < 100 → mi < 100 → s < 100 → moment_from (date_form y m d (time_form h mi s)) ≡ moment_at (day_of_date y m d) (seconds_of_time h mi s)
moment_from-form y m d h mi s hy hm hd hh hmi hs =
    let text = date_form y m d (time_form h mi s) in
    let shaped : shape_of text ≡ moment_shape = shape_of-date_form y m d (time_form h mi s) hy hm hd ∙ ap (λ (t : List ℕ). day_shape ++ t) (shape_of-time_form h mi s hh hmi hs) in
    read_shaped text moment_shape (moment_at (date_in text) (time_in text)) shaped
    ∙ ap (λ (o : Option ℤ). moment_at o (time_in text)) (date_in-date_form y m d (time_form h mi s) hy hm hd)
    ∙ ap (moment_at (day_of_date y m d)) (time_in-time_form y m d h mi s hh hmi hs)

same_time_form : (h m s h₂ m₂ s₂ : ℕ) → (h ≡ h₂) × (m ≡ m₂) × (s ≡ s₂) → time_form h m s ≡ time_form h₂ m₂ s₂
same_time_form h m s h₂ m₂ s₂ e =
    ap (λ (n : ℕ). time_form n m s) e.0 ∙ ap (λ (n : ℕ). time_form h₂ n s) e.1 ∙ ap (λ (n : ℕ). time_form h₂ m₂ n) e.2

-- the seconds of a day are fewer than a day has
seconds_below : (h m s n : ℕ) → IsTimeOfDay h m s → h * 3600 + m * 60 + s ≡ n → n < 86400
seconds_below h m s n t e = omega arith

pub one_moment : (moment : ℤ) (a b : List ℕ) → moment_from a ≡ Some moment → moment_from b ≡ Some moment → a ≡ b
one_moment moment a b ea eb =
    let ra = read-some a moment_shape (moment_at (date_in a) (time_in a)) moment ea in
    let rb = read-some b moment_shape (moment_at (date_in b) (time_in b)) moment eb in
    let pa = moment_at-some (date_in a) (time_in a) moment ra.1 in
    let pb = moment_at-some (date_in b) (time_in b) moment rb.1 in
    let ta = seconds_of_time-some (number_in a 11 2) (number_in a 14 2) (number_in a 17 2) pa.rest pa.rest_is in
    let tb = seconds_of_time-some (number_in b 11 2) (number_in b 14 2) (number_in b 17 2) pb.rest pb.rest_is in
    let parts = one_sum pa.number pb.number pa.rest pb.rest (seconds_below _ _ _ pa.rest ta.0 ta.1) (seconds_below _ _ _ pb.rest tb.0 tb.1) (pa.sum ∙ sym pb.sum) in
    let date_b : date_in b ≡ Some pa.number = pb.day_is ∙ ap (λ (d : ℤ). Some d) (sym parts.0) in
    let dates = same_dates a b pa.number pa.day_is date_b in
    let times = one_time _ _ _ _ _ _ ta.0 tb.0 (ta.1 ∙ parts.1 ∙ sym tb.1) in
    moment_text_is a ra.0
    ∙ ap (date_form (number_in a 0 4) (number_in a 5 2) (number_in a 8 2)) (same_time_form _ _ _ _ _ _ times)
    ∙ same_date_form _ _ _ _ _ _ (time_form (number_in b 11 2) (number_in b 14 2) (number_in b 17 2)) dates
    ∙ sym (moment_text_is b rb.0)

-- the text of a day and of a time after it is read as the moment
pub moment_read : (text front : List ℕ) (h m s seconds : ℕ) (day : ℤ) → day_from front ≡ Some day → text ≡ front ++ time_form h m s → IsTimeOfDay h m s → h * 3600 + m * 60 + s ≡ seconds
    → moment_from text ≡ Some (day *ℤ pos 86400 +ℤ pos seconds)
moment_read text front h m s seconds day read e time sum =
    let r = read-some front day_shape (date_in front) day read in
    let year = number_in front 0 4 in
    let month = number_in front 5 2 in
    let date = number_in front 8 2 in
    let common = (day_of_date-some year month date day r.1).0 in
    let written : text ≡ date_form year month date (time_form h m s) = e ∙ ap (λ (t : List ℕ). t ++ time_form h m s) (day_text_is front r.0) in
    ap moment_from written
    ∙ moment_from-form year month date h m s (omega (arith, common.last_year)) (omega (arith, common.last_month)) (omega (arith, common.last_day, days_in_month_bounds (pos year) month))
    (omega (arith, time.hour)) (omega (arith, time.minute)) (omega (arith, time.second))
    ∙ ap (λ (o : Option ℤ). moment_at o (seconds_of_time h m s)) r.1
    ∙ ap (moment_at (Some day)) (seconds_of_time-is h m s time)
    ∙ ap (λ (n : ℕ). Some (day *ℤ pos 86400 +ℤ pos n)) sum

-- ---- the numbers as the code computes them

pub time_of_seconds : (n : ℕ) → n < 86400 → IsTimeOfDay (n / 3600) (n / 60 % 60) (n % 60)
time_of_seconds n h = record { hour = omega arith; minute = omega arith; second = omega arith }

pub seconds_again : (n : ℕ) → n / 3600 * 3600 + n / 60 % 60 * 60 + n % 60 ≡ n
seconds_again n = omega arith

pub moment_number : (day : ℤ) (seconds : ℕ) → IsDay day → seconds < 86400
    → to_z w64 (of_z w64 (to_z w64 (of_z w64 (to_z w64 (of_z w64 (to_z w32 (of_z w32 day))) *ℤ pos 86400)) +ℤ to_z w64 seconds)) ≡ day *ℤ pos 86400 +ℤ pos seconds
moment_number day seconds within below =
    let low = within.low in
    let high = within.high in
    let narrow : FitsSigned w32 day = omega (arith, signed_arith) in
    let wide : FitsSigned w64 day = omega (arith, signed_arith) in
    let product : FitsSigned w64 (day *ℤ pos 86400) = omega (arith, signed_arith) in
    let sum : FitsSigned w64 (day *ℤ pos 86400 +ℤ pos seconds) = omega (arith, signed_arith) in
    let added = to_z_pos w64 seconds (omega arith) in
    rw (to_z-of_z narrow, to_z-of_z wide, to_z-of_z product, added) (to_z-of_z sum)

euclid_sum : (z : ℤ) → int_div_euclid z (pos 86400) *ℤ pos 86400 +ℤ int_rem_euclid z (pos 86400) ≡ z
euclid_sum (pos n) = omega (arith, signed_arith)
euclid_sum (negsuc n) = omega (arith, signed_arith)

-- the day and the seconds of a moment make it up
pub parts_again : (moment quotient rest : ℤ) → IsMoment moment → FitsSigned w64 moment → quotient ≡ int_div_euclid (to_z w64 (of_z w64 moment)) (pos 86400)
    → rest ≡ int_rem_euclid (to_z w64 (of_z w64 moment)) (pos 86400) → pos 0 ≤ℤ rest → unsigned_abs rest < 86400
    → to_z w32 (of_z w32 (to_z w64 (of_z w64 quotient))) *ℤ pos 86400 +ℤ pos (unsigned_abs (to_z w64 (of_z w64 rest))) ≡ moment
parts_again moment quotient rest within fits q r low below =
    let first = within.low in
    let last = within.high in
    let div : quotient ≡ int_div_euclid moment (pos 86400) = q ∙ ap (λ (z : ℤ). int_div_euclid z (pos 86400)) (to_z-of_z fits) in
    let rem : rest ≡ int_rem_euclid moment (pos 86400) = r ∙ ap (λ (z : ℤ). int_rem_euclid z (pos 86400)) (to_z-of_z fits) in
    let sum : quotient *ℤ pos 86400 +ℤ rest ≡ moment = rw (div, rem) (euclid_sum moment) in
    let small : rest <ℤ pos 86400 = omega (arith, signed_arith, unsigned_abs-parts rest) in
    let narrow : FitsSigned w32 quotient = omega (arith, signed_arith) in
    let wide : FitsSigned w64 quotient = omega (arith, signed_arith) in
    let rest_fits : FitsSigned w64 rest = omega (arith, signed_arith) in
    let number : pos (unsigned_abs rest) ≡ rest = omega (arith, signed_arith, unsigned_abs-parts rest) in
    rw (to_z-of_z wide, to_z-of_z narrow, to_z-of_z rest_fits, number) sum
