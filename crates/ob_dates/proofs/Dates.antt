-- Days of the calendar by their years, months and days of the month.
use Rattle.std.proofs.Common.{◌≡◌, ℕ, ◌<◌, ◌≤◌, ◌&&◌, inl, inr, Bool, true, cond, subst, refl, sym, ap, ◌∙◌, arith, ℤ, pos, negsuc, ◌≤ℤ◌, Some, None}
use Rattle.std.specs.Prelude.{nat_le, unsigned_abs}
use Rattle.std.proofs.lemmas.Bool.{and_parts, and_from, leb-true, le-leb}
use Rattle.std.proofs.lemmas.Int.{by_lt_z}
use Rattle.std.proofs.lemmas.Option.{cond_some}
use Rattle.jiff_core.specs.declared.civil.date.Date.{Date}
use Rattle.jiff_core.specs.Calendar.{days_in_month, days_from_civil, IsYear}
use Rattle.jiff_core.specs.Date.{epoch_day}
use Rattle.jiff_core.proofs.SignedLemmas.{signed_arith}
use Rattle.jiff_core.proofs.CalendarLemmas.{days_from_civil-day_count, days_in_month_bounds}
use Rattle.jiff_core.proofs.DateLemmas.{epoch_day_range, epoch_day-lt, cases_date, epoch_day_injective, epoch_day_same}
use Rattle.jiff_core.proofs.MarchLemmas.{day_count-early}
use Rattle.ob_base.specs.Times.{IsDay}
use Rattle.ob_dates.specs.Texts.{is_date, day_of_date}

-- ---- what the test of a date says

-- the numbers of a date, in the years 0001 to 9999
pub record IsCommonDate (year month day : ℕ) : Type 0 where
  pub first_year : 1 ≤ year
  pub last_year : year ≤ 9999
  pub first_month : 1 ≤ month
  pub last_month : month ≤ 12
  pub first_day : 1 ≤ day
  pub last_day : day ≤ days_in_month (pos year) month

pub common_from_test : (year month day : ℕ) → is_date year month day ≡ true → IsCommonDate year month day
common_from_test y m d e =
    let p5 = and_parts (nat_le 1 y && nat_le y 9999 && nat_le 1 m && nat_le m 12 && nat_le 1 d) (nat_le d (days_in_month (pos y) m)) e in
    let p4 = and_parts (nat_le 1 y && nat_le y 9999 && nat_le 1 m && nat_le m 12) (nat_le 1 d) p5.0 in
    let p3 = and_parts (nat_le 1 y && nat_le y 9999 && nat_le 1 m) (nat_le m 12) p4.0 in
    let p2 = and_parts (nat_le 1 y && nat_le y 9999) (nat_le 1 m) p3.0 in
    let p1 = and_parts (nat_le 1 y) (nat_le y 9999) p2.0 in
    record {
      first_year = leb-true 1 y p1.0;
      last_year = leb-true y 9999 p1.1;
      first_month = leb-true 1 m p2.1;
      last_month = leb-true m 12 p3.1;
      first_day = leb-true 1 d p4.1;
      last_day = leb-true d (days_in_month (pos y) m) p5.1;
    }

pub test_from_common : (year month day : ℕ) → IsCommonDate year month day → is_date year month day ≡ true
test_from_common y m d h =
    let t1 = and_from (nat_le 1 y) (nat_le y 9999) (le-leb 1 y h.first_year) (le-leb y 9999 h.last_year) in
    let t2 = and_from (nat_le 1 y && nat_le y 9999) (nat_le 1 m) t1 (le-leb 1 m h.first_month) in
    let t3 = and_from (nat_le 1 y && nat_le y 9999 && nat_le 1 m) (nat_le m 12) t2 (le-leb m 12 h.last_month) in
    let t4 = and_from (nat_le 1 y && nat_le y 9999 && nat_le 1 m && nat_le m 12) (nat_le 1 d) t3 (le-leb 1 d h.first_day) in
    and_from (nat_le 1 y && nat_le y 9999 && nat_le 1 m && nat_le m 12 && nat_le 1 d) (nat_le d (days_in_month (pos y) m)) t4 (le-leb d (days_in_month (pos y) m) h.last_day)

pub is_year : (y : ℕ) → y ≤ 9999 → IsYear (pos y)
is_year y h = omega (arith, signed_arith)

-- the date of these numbers
abbrev pub date_at : (year month day : ℕ) → IsCommonDate year month day → Date
date_at y m d h = record {
  year = pos y;
  month = m;
  day = d;
  year_in = is_year y h.last_year;
  month_in = (h.first_month, h.last_month);
  day_in = (h.first_day, h.last_day);
}

-- one day number is of one year, month and day
pub one_date : (y m d y₂ m₂ d₂ : ℕ) → IsCommonDate y m d → IsCommonDate y₂ m₂ d₂ → days_from_civil (pos y) m d ≡ days_from_civil (pos y₂) m₂ d₂ → (y ≡ y₂) × (m ≡ m₂) × (d ≡ d₂)
one_date y m d y₂ m₂ d₂ h h₂ e =
    let same = epoch_day_injective (date_at y m d h) (date_at y₂ m₂ d₂ h₂) e in
    let year : pos y ≡ pos y₂ = same.0 in
    (cc, same.1, same.2)

-- ---- the first day

first_common : IsCommonDate 1 1 1
first_common = record {
  first_year = omega arith;
  last_year = omega arith;
  first_month = omega arith;
  last_month = omega arith;
  first_day = omega arith;
  last_day = omega arith;
}

first_number : days_from_civil (pos 1) 1 1 ≡ negsuc 719161
first_number =
    omega (arith, signed_arith, days_from_civil-day_count (pos 1) 1 1, day_count-early (pos 1) 10000 1 1 refl (omega arith) (omega arith) (omega arith))

-- no date from the year 1 on comes before the first day
pub first_day_least : (d : Date) → pos 1 ≤ℤ d.year → negsuc 719161 ≤ℤ epoch_day d
first_day_least d h =
    let first = date_at 1 1 1 first_common in
    let number : epoch_day first ≡ negsuc 719161 = first_number in
    elim (cases_date d first) [
      | inl (inl year) ↦ absurd (omega (arith, signed_arith))
      | inl (inr (year, inl month)) ↦ absurd (omega (arith, d.month_in.0))
      | inl (inr (year, inr (month, day))) ↦ absurd (omega (arith, d.day_in.0))
      | inr (inl later) ↦ omega (arith, signed_arith, epoch_day-lt first d later)
      | inr (inr same) ↦ omega (arith, signed_arith, epoch_day_same d first same.0 same.1 same.2)
    ]

-- and a date that doesn't come before it is of the year 1 or later
pub year_of_day : (d : Date) → negsuc 719161 ≤ℤ epoch_day d → pos 1 ≤ℤ d.year
year_of_day d h =
    let first = date_at 1 1 1 first_common in
    let number : epoch_day first ≡ negsuc 719161 = first_number in
    by_lt_z d.year (pos 1) (λ lt. absurd (omega (arith, signed_arith, epoch_day-lt d first (inl lt)))) (λ ge. ge)

pub is_day : (d : Date) → pos 1 ≤ℤ d.year → IsDay (epoch_day d)
is_day d h = record { low = first_day_least d h; high = (epoch_day_range d).1 }

-- ---- the day of a year, a month and a day of the month

pub day_of_date-some : (y m d : ℕ) (day : ℤ) → day_of_date y m d ≡ Some day → IsCommonDate y m d × (days_from_civil (pos y) m d ≡ day)
day_of_date-some y m d day e =
    let both = cond_some (is_date y m d) (days_from_civil (pos y) m d) day e in
    (common_from_test y m d both.0, both.1)

pub day_of_date-is : (y m d : ℕ) → IsCommonDate y m d → day_of_date y m d ≡ Some (days_from_civil (pos y) m d)
day_of_date-is y m d h =
    ap (λ (b : Bool). cond b (Some (days_from_civil (pos y) m d)) None) (test_from_common y m d h)

pub is_day_of_date : (y m d : ℕ) (day : ℤ) → day_of_date y m d ≡ Some day → IsDay day
is_day_of_date y m d day e =
    let both = day_of_date-some y m d day e in
    subst IsDay both.1 (is_day (date_at y m d both.0) (omega (arith, signed_arith, both.0.first_year)))

-- ---- what the library's constructor says of these numbers

pub common_from_date : (y m d : ℕ) (date : Date) → 1 ≤ y → (date.year ≡ pos y) × (pos date.month ≡ pos m) × (pos date.day ≡ pos d) → IsCommonDate y m d × (date.month ≡ m) × (date.day ≡ d)
common_from_date y m d date low e =
    let month : date.month ≡ m = (let same = e.1 in cc) in
    let day : date.day ≡ d = (let same = e.2 in cc) in
    let last : date.day ≤ days_in_month (pos y) m = subst (λ (z : ℤ). date.day ≤ days_in_month z m) e.0 (subst (λ (n : ℕ). date.day ≤ days_in_month date.year n) month date.day_in.1) in (
      record {
        first_year = low;
        last_year = omega (arith, signed_arith, e.0, date.year_in.1);
        first_month = omega (arith, month, date.month_in.0);
        last_month = omega (arith, month, date.month_in.1);
        first_day = omega (arith, day, date.day_in.0);
        last_day = subst (λ (n : ℕ). n ≤ days_in_month (pos y) m) day last;
      },
      month,
      day,
    )

pub made_date : (y m d : ℕ) (date : Date) → 1 ≤ y → (date.year ≡ pos y) × (pos date.month ≡ pos m) × (pos date.day ≡ pos d) → day_of_date y m d ≡ Some (epoch_day date)
made_date y m d date low e =
    let same = common_from_date y m d date low e in
    day_of_date-is y m d same.0 ∙ ap (λ (z : ℤ). Some z) (epoch_day_same (date_at y m d same.0) date (sym e.0) (sym same.1) (sym same.2))

-- a date from the year 1 on has the numbers of a text
pub year_number : (z : ℤ) → pos 1 ≤ℤ z → z ≡ pos (unsigned_abs z)
year_number (pos n) h = refl
year_number (negsuc n) h = absurd (omega (arith, signed_arith))

pub record HasSmallNumbers (date : Date) : Type 0 where
  pub year : unsigned_abs date.year < 10000
  pub month : date.month < 100
  pub day : date.day < 100

pub small_numbers : (date : Date) → pos 1 ≤ℤ date.year → HasSmallNumbers date
small_numbers date low =
    let number = year_number date.year low in
    record {
      year = omega (arith, signed_arith, number, date.year_in.1);
      month = omega (arith, date.month_in.1);
      day = omega (arith, date.day_in.1, days_in_month_bounds date.year date.month);
    }

pub date_numbers : (date : Date) → pos 1 ≤ℤ date.year → day_of_date (unsigned_abs date.year) date.month date.day ≡ Some (epoch_day date)
date_numbers date low =
    let number = year_number date.year low in
    made_date (unsigned_abs date.year) date.month date.day date (omega (arith, signed_arith, number)) (number, refl, refl)
