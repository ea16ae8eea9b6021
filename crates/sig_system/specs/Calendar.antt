-- Moments of the Gregorian calendar in UTC, counted in seconds since the start of 1970 (POSIX.1-2017, base definitions, 4.16).
use Rattle.std.specs.Prelude.{◌≡◌, ◌<◌, ℕ, zero, suc, ◌+◌, ◌*◌, ◌%◌, Bool, ◌&&◌, ◌||◌, not, nat_eq, if◌then◌else◌}
use Rattle.sig_system.specs.declared.calendar.Moment.{Moment}

-- whether a year has a 29th of February
abbrev pub is_leap : ℕ → Bool
is_leap year = nat_eq (year % 4) 0 && (not (nat_eq (year % 100) 0) || nat_eq (year % 400) 0)

abbrev pub year_days : ℕ → ℕ
year_days year = if is_leap year then 366 else 365

-- the days of a month, counted from 1, in a year that is a leap year or not
abbrev pub month_days : Bool → ℕ → ℕ
month_days leap month =
    if nat_eq month 2 then (if leap then 29 else 28)
    else (if nat_eq month 4 || (nat_eq month 6 || (nat_eq month 9 || nat_eq month 11)) then 30 else 31)

-- the days from the start of 1970 to the start of the year so many years later
abbrev pub days_before_year : ℕ → ℕ
days_before_year zero = 0
days_before_year (suc years) = days_before_year years + year_days (1970 + years)

-- the days from the start of a year to the start of the month so many months later
abbrev pub days_before_month : Bool → ℕ → ℕ
days_before_month leap zero = 0
days_before_month leap (suc months) = days_before_month leap months + month_days leap (1 + months)

-- it is so many seconds after the start of 1970
pub record IsMoment (seconds : ℕ) (m : Moment) : Type 0 where
  pub years : ℕ
  pub months : ℕ
  pub days : ℕ
  pub year : m.year ≡ 1970 + years
  pub month : m.month ≡ 1 + months
  pub day : m.day ≡ 1 + days
  pub in_year : months < 12
  pub in_month : days < month_days (is_leap m.year) m.month
  pub hour : m.hour < 24
  pub minute : m.minute < 60
  pub second : m.second < 60
  pub at : seconds ≡ (days_before_year years + days_before_month (is_leap m.year) months + days) * 86400 + m.hour * 3600 + m.minute * 60 + m.second
