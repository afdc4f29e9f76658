-- The periods by which days and moments are grouped, each told by its first day.
use Rattle.std.specs.Prelude.{ℕ, zero, suc, ◌-◌, ◌%◌, List, codes, Bool, if◌then◌else◌, Option, Some, None, ℤ, pos, ◌-ℤ◌, int_le}
use Rattle.std.specs.Int.{int_div_euclid}
use Rattle.std.specs.Str.{bytes_eq}
use Rattle.jiff_core.specs.Calendar.{days_from_civil, weekday_number}
use Rattle.ob_base.specs.declared.value.Value.{Value}
use Rattle.ob_base.specs.declared.value.Value.TheVariants as value
use Rattle.ob_group.specs.declared.period.Period.{Period}
use Rattle.ob_group.specs.declared.period.Period.TheVariants as period

-- a period by its name
unfoldable pub period_named : List ℕ → Option Period
period_named name =
    if bytes_eq name (codes "day") then Some period.Day
    else if bytes_eq name (codes "week") then Some period.Week
    else if bytes_eq name (codes "month") then Some period.Month
    else if bytes_eq name (codes "quarter") then Some period.Quarter
    else if bytes_eq name (codes "year") then Some period.Year
    else None

-- the last number up to one that passes a test, else 0
unfoldable pub last_passing : (ℕ → Bool) → ℕ → ℕ
last_passing test zero = zero
last_passing test (suc n) = if test (suc n) then suc n else last_passing test n

-- the year of a day: the last one up to 9999 that had begun by it
unfoldable pub year_of : ℤ → ℕ
year_of day = last_passing (λ year. int_le (days_from_civil (pos year) 1 1) day) 9999

-- the month of a day: the last one of its year that had begun by it
unfoldable pub month_of : ℤ → ℕ
month_of day = last_passing (λ month. int_le (days_from_civil (pos (year_of day)) month 1) day) 12

-- the month with which the quarter of a month begins: 1, 4, 7 or 10
abbrev pub quarter_month : ℕ → ℕ
quarter_month month = month - (month - 1) % 3

-- the first day of the period in which a day lies; a week begins on Monday, as the first one of the years of dates did
abbrev pub first_day : Period → ℤ → ℤ
first_day period.Day day = day
first_day period.Week day = day -ℤ pos (weekday_number day)
first_day period.Month day = days_from_civil (pos (year_of day)) (month_of day) 1
first_day period.Quarter day = days_from_civil (pos (year_of day)) (quarter_month (month_of day)) 1
first_day period.Year day = days_from_civil (pos (year_of day)) 1 1

-- the day of a moment, in UTC
abbrev pub day_of_moment : ℤ → ℤ
day_of_moment moment = int_div_euclid moment (pos 86400)

-- of a day and of a moment the first day of its period; any other value as it is
abbrev pub in_period : Period → Value → Value
in_period p (value.Day day) = value.Day (first_day p day)
in_period p (value.Moment moment) = value.Day (first_day p (day_of_moment moment))
in_period p v = v

-- what a grouping makes of a value, by the period that it may have
abbrev pub group_value : Option Period → Value → Value
group_value None v = v
group_value (Some p) v = in_period p v
