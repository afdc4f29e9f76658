-- The year and the month of a day, and the first days of periods.
use Rattle.std.proofs.Common.{◌≡◌, ℕ, zero, suc, ◌+◌, ◌-◌, ◌*◌, ◌<◌, ◌≤◌, ◌%◌, ◌⊎◌, inl, inr, Bool, true, false, cond, refl, sym, ap, subst, ◌∙◌, arith, ℤ, pos, negsuc, ◌+ℤ◌, ◌-ℤ◌, ◌≤ℤ◌, ◌<ℤ◌, rules}
use Rattle.std.specs.Prelude.{unsigned_abs}
use Rattle.std.specs.Int.RustNames.{int_le}
use Rattle.std.specs.Int.{IsInRange}
use Rattle.std.proofs.lemmas.Bool.{cases_order}
use Rattle.std.proofs.lemmas.Int.{by_lt_z, ints}
use Rattle.jiff_core.proofs.CalendarLemmas.{day_count-lt_month, day_count-lt_year, days_from_civil-day_count, weekday_number-add, weekday_number_bound}
use Rattle.jiff_core.proofs.DateLemmas.{cases_date, civil, days_from_civil-day, epoch_day-lt, epoch_day_range, epoch_day_same}
use Rattle.jiff_core.proofs.IsoWeekLemmas.{epoch_day-year}
use Rattle.jiff_core.proofs.MarchLemmas.{day_count-early}
use Rattle.jiff_core.proofs.SignedLemmas.{signed_arith}
use Rattle.jiff_core.specs.Calendar.{IsBetween, day_count, days_from_civil, weekday_number}
use Rattle.jiff_core.specs.Date.{epoch_day}
use Rattle.jiff_core.specs.declared.civil.date.Date.{Date}
use Rattle.ob_base.specs.Times.{IsDay}
use Rattle.ob_group.specs.GroupPeriods.{last_passing, month_of, year_of}

-- ---- the last number that passes

module _ (test : ℕ → Bool) where
  last_by : (n k : ℕ) (b : Bool) → test (suc n) ≡ b → k ≤ suc n → test k ≡ true → ((j : ℕ) → k < j → j ≤ suc n → test j ≡ false) → (k ≤ n → last_passing test n ≡ k) → cond b (suc n) (last_passing test n) ≡ k
  last_by n k true e low passes above rest = elim (cases_order k (suc n)) [
    | inl same ↦ sym same
    | inr (inl lt) ↦ absurd (let f = above (suc n) lt (omega arith) in cc)
    | inr (inr gt) ↦ absurd (omega arith)
  ]
  last_by n k false e low passes above rest = elim (cases_order k (suc n)) [
    | inl same ↦ absurd (let f : test (suc n) ≡ true = ap test (sym same) ∙ passes in cc)
    | inr (inl lt) ↦ rest (omega arith)
    | inr (inr gt) ↦ absurd (omega arith)
  ]

  pub last-is : (n k : ℕ) → k ≤ n → test k ≡ true → ((j : ℕ) → k < j → j ≤ n → test j ≡ false) → last_passing test n ≡ k
  unfolding last_passing
  last-is zero k low passes above = omega arith
  last-is (suc n) k low passes above = last_by n k (test (suc n)) refl low passes above (λ within. last-is n k within passes (λ j lt up. above j lt (omega arith)))

-- ---- the first day of the years of dates

le_yes : (a b : ℤ) → a ≤ℤ b → int_le a b ≡ true
le_yes a b h = grind (arith, ints, h)

le_no : (a b : ℤ) → b <ℤ a → int_le a b ≡ false
le_no a b h = grind (arith, ints, h)

first : Date
first = record { year = pos 1; month = 1; day = 1; year_in = search rules; month_in = search rules; day_in = search rules }

first_number : days_from_civil (pos 1) 1 1 ≡ negsuc 719161
first_number = omega (arith, signed_arith, days_from_civil-day_count (pos 1) 1 1, day_count-early (pos 1) 10000 1 1 refl (omega arith) (omega arith) (omega arith))

first_least : (d : Date) → pos 1 ≤ℤ d.year → negsuc 719161 ≤ℤ epoch_day d
unfolding first
first_least d h =
    elim (cases_date d first) [
      | inl (inl year) ↦ absurd (omega (arith, signed_arith))
      | inl (inr (year, inl month)) ↦ absurd (omega (arith, d.month_in.0))
      | inl (inr (year, inr (month, day))) ↦ absurd (omega (arith, d.day_in.0))
      | inr (inl later) ↦ omega (arith, signed_arith, first_number, epoch_day-lt first d later)
      | inr (inr same) ↦ omega (arith, signed_arith, first_number, epoch_day_same d first same.0 same.1 same.2)
    ]

-- a date that doesn't come before it is of the year 1 or later
pub first_year : (d : Date) → negsuc 719161 ≤ℤ epoch_day d → pos 1 ≤ℤ d.year
unfolding first
first_year d h = by_lt_z d.year (pos 1) (λ lt. absurd (omega (arith, signed_arith, first_number, epoch_day-lt d first (inl lt)))) (λ ge. ge)

pub day_within : (d : Date) → pos 1 ≤ℤ d.year → IsDay (epoch_day d)
day_within d h = record { low = first_least d h; high = (epoch_day_range d).1 }

-- ---- the year and the month of a date's day

pub year_is : (d : Date) → pos 1 ≤ℤ d.year → d.year ≡ pos (year_of (epoch_day d))
unfolding year_of
year_is d h =
    let y : ℕ = unsigned_abs d.year in
    let same : d.year ≡ pos y = omega (arith, signed_arith, ints) in
    let within : y ≤ 9999 = omega (arith, signed_arith, ints, d.year_in.1) in
    let begun : days_from_civil (pos y) 1 1 ≤ℤ epoch_day d = subst (λ (z : ℤ). days_from_civil z 1 1 ≤ℤ epoch_day d) same (epoch_day-year d (d.year +ℤ pos 1) refl).0 in
    same ∙ ap pos (sym (last-is (λ (year : ℕ). int_le (days_from_civil (pos year) 1 1) (epoch_day d)) 9999 y within (le_yes _ _ begun)
    (λ j lt up. let later : d.year <ℤ pos j = omega (arith, signed_arith, ints, same) in
    let more = day_count-lt_year d.year d.month d.day (pos j) 1 1 (civil d) (omega arith) later in
    le_no (days_from_civil (pos j) 1 1) (epoch_day d) (omega (arith, signed_arith, days_from_civil-day_count, more)))))

pub month_is : (d : Date) → pos 1 ≤ℤ d.year → d.month ≡ month_of (epoch_day d)
unfolding month_of
month_is d h =
    let year = year_is d h in
    let begun : days_from_civil d.year d.month 1 ≤ℤ epoch_day d = omega (arith, signed_arith, days_from_civil-day d.year d.month d.day 1 d.day_in.0 (omega arith), d.day_in.0) in
    subst (λ (z : ℤ). d.month ≡ last_passing (λ (month : ℕ). int_le (days_from_civil z month 1) (epoch_day d)) 12) year
    (sym (last-is (λ (month : ℕ). int_le (days_from_civil d.year month 1) (epoch_day d)) 12 d.month d.month_in.1 (le_yes _ _ begun)
    (λ j lt up. let more = day_count-lt_month d.year d.month d.day j 1 (civil d) (omega arith) lt in
    le_no (days_from_civil d.year j 1) (epoch_day d) (omega (arith, signed_arith, days_from_civil-day_count, more)))))

-- ---- weeks

first_monday : weekday_number (negsuc 719161) ≡ 0
unfolding weekday_number
first_monday = refl

rest_low : (k : ℕ) → k % 7 ≤ k
rest_low k = omega arith

-- no week begins before the first day
pub week_within : (day : ℤ) → negsuc 719161 ≤ℤ day → negsuc 719161 ≤ℤ (day -ℤ pos (weekday_number day))
week_within day low =
    let k : ℕ = unsigned_abs (day -ℤ negsuc 719161) in
    let is : day ≡ negsuc 719161 +ℤ pos k = omega (arith, signed_arith, ints) in
    let moved = weekday_number-add (negsuc 719161) day k is in
    let short : weekday_number day ≤ k = omega (arith, moved, first_monday, rest_low k) in
    omega (arith, signed_arith, ints, is)
