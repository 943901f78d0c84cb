-- How long a node rests between two turns.
use Rattle.std.specs.Prelude.{◌≤◌, ◌+◌, ◌-◌, ◌*◌, ◌/◌, ℕ, min, max, Bool, true, false, if◌then◌else◌, Option, Some, None}
use Rattle.group_udp.specs.declared.limits.TheConstants.{LONG_PAUSE, LONG_REST, SHORT_REST}
use Rattle.group_udp.specs.declared.pace.Pace.{Pace}

-- The pace of a node that starts.
abbrev pub first_pace : Pace
first_pace = record { rest = SHORT_REST; first = SHORT_REST; sent_before = false }

-- A pace whose rest and first pause take 10 to 200 milliseconds.
pub record IsPace (pace : Pace) : Type 0 where
  pub short : SHORT_REST ≤ pace.rest
  pub long : pace.rest ≤ LONG_PAUSE
  pub short_first : SHORT_REST ≤ pace.first
  pub long_first : pace.first ≤ LONG_PAUSE

-- The first pause between repeats, once a place was learned so many milliseconds after something
-- was last sent for it.
abbrev pub first_after : ℕ → Option ℕ → ℕ
first_after first None = first
first_after first (Some took) =
    min (max (max SHORT_REST (first / 2)) (2 * took)) (max (min (4 * first) LONG_PAUSE) SHORT_REST)

-- The time of the next rest, by whether the node sent anything but Asks before the last one, by
-- the first pause, by what it has learned since then, and by whether it has sent any since then.
-- Forbids: a rest that depends on the one before it, though a place was learned or nothing was
-- repeated.
abbrev pub rest_after : Pace → Option ℕ → Bool → ℕ
rest_after p (Some took) true = first_after p.first (Some took)
rest_after p (Some took) false = LONG_REST
rest_after p None true = if p.sent_before then min (2 * p.rest) LONG_PAUSE else p.first
rest_after p None false = LONG_REST

-- The pace at the next rest.
abbrev pub pace_after : Pace → Option ℕ → Bool → Pace
pace_after p learned has_sent = record {
  rest = rest_after p learned has_sent;
  first = first_after p.first learned;
  sent_before = has_sent;
}

-- The time that a rest takes at least in a group of so many nodes while keys are under way, by the
-- first pause.
abbrev pub least_of : ℕ → ℕ → ℕ
least_of first size = (min first LONG_PAUSE - SHORT_REST) * (size + 3) / 12
