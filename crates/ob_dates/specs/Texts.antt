-- What texts of days and moments mean.
use Rattle.std.specs.Prelude.{ℕ, ◌+◌, ◌*◌, ◌&&◌, nat_le, List, map, take, drop, codes, Bool, if◌then◌else◌, Option, Some, None, option_map, ℤ, pos, ◌+ℤ◌, ◌*ℤ◌}
use Rattle.std.specs.Char.{is_ascii_digit}
use Rattle.std.specs.Str.{bytes_eq}
use Rattle.std.specs.Str.Parse.{digits_value}
use Rattle.jiff_core.specs.Calendar.{days_in_month, days_from_civil}

-- a text with each of its digits as 0
abbrev pub shape_of : List ℕ → List ℕ
shape_of text = map (λ b. if is_ascii_digit b then 48 else b) text

-- the number that two or more digits write, from a place in the text on
abbrev pub number_in : List ℕ → ℕ → ℕ → ℕ
number_in text start len = digits_value 10 (take len (drop start text))

-- the calendar has this day, in the years 0001 to 9999
abbrev pub is_date : ℕ → ℕ → ℕ → Bool
is_date year month day = nat_le 1 year && nat_le year 9999 && nat_le 1 month && nat_le month 12 && nat_le 1 day && nat_le day (days_in_month (pos year) month)

-- a second of a day
abbrev pub is_time : ℕ → ℕ → ℕ → Bool
is_time hour minute second = nat_le hour 23 && nat_le minute 59 && nat_le second 59

-- the day of a year, a month and a day of the month, counted from 1970-01-01
abbrev pub day_of_date : ℕ → ℕ → ℕ → Option ℤ
day_of_date year month day = if is_date year month day then Some (days_from_civil (pos year) month day) else None

-- the seconds of a time since the day began
abbrev pub seconds_of_time : ℕ → ℕ → ℕ → Option ℕ
seconds_of_time hour minute second = if is_time hour minute second then Some (hour * 3600 + minute * 60 + second) else None

-- the day that begins the text: four digits of the year, two of the month, two of the day
abbrev pub date_in : List ℕ → Option ℤ
date_in text = day_of_date (number_in text 0 4) (number_in text 5 2) (number_in text 8 2)

-- the seconds that the text's time gives, after its date
abbrev pub time_in : List ℕ → Option ℕ
time_in text = seconds_of_time (number_in text 11 2) (number_in text 14 2) (number_in text 17 2)

-- the day that a text YYYY-MM-DD names, none where it is of another form or the day doesn't exist
abbrev pub day_from : List ℕ → Option ℤ
day_from text = if bytes_eq (shape_of text) (codes "0000-00-00") then date_in text else None

-- so many seconds of a day, where both are there
abbrev pub moment_at : Option ℤ → Option ℕ → Option ℤ
moment_at None seconds = None
moment_at (Some day) seconds = option_map (λ s. day *ℤ pos 86400 +ℤ pos s) seconds

-- the moment that a text YYYY-MM-DD HH:MM:SS names, in UTC
abbrev pub moment_from : List ℕ → Option ℤ
moment_from text = if bytes_eq (shape_of text) (codes "0000-00-00 00:00:00") then moment_at (date_in text) (time_in text) else None
