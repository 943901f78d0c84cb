-- A rest of a node between two turns: how long it lasts, and what ends it early.
use Rattle.std.specs.Prelude.{◌≡◌, ◌+◌, ◌-◌, ◌*◌, ◌/◌, ◌<◌, ℕ, min, nat_le, nat_lt, true, false, if◌then◌else◌, Option, Some, None}
use Rattle.std.specs.Duration.{as_nanos}
use Rattle.std.specs.declared.time.Duration.{Duration}
use Rattle.std.specs.Time.{FitsClock, instant_nanos}
use Rattle.std.specs.declared.time.Instant.{Instant}
use Rattle.group_udp.specs.declared.limits.TheConstants.{LONG_PAUSE}
use Rattle.group_udp.specs.declared.rest.Rest.{Rest}
use Rattle.group_udp.specs.Pace.{least_of, pace_after}

-- ---- times, each of which the clock may fail to tell

-- The time so many milliseconds after another.
-- Allows: none, where the other is not known, or a clock does not count so far.
abbrev pub IsLater : Option Instant → ℕ → Option Instant → Type 0
IsLater None millis later = later ≡ None
IsLater (Some time) millis None = ¬ FitsClock (instant_nanos time + millis * 1_000_000)
IsLater (Some time) millis (Some later) =
    instant_nanos later ≡ instant_nanos time + millis * 1_000_000

-- The earlier of two times. One that is not known counts as the earliest.
abbrev pub earlier : Option Instant → Option Instant → Option Instant
earlier None other = None
earlier (Some one) None = None
earlier (Some one) (Some other) =
    if nat_le (instant_nanos one) (instant_nanos other) then Some one else Some other

-- The whole milliseconds from one time to another, but not more than the longest pause: a longer
-- time makes no pause longer. They are none where a time is not known.
abbrev pub took : Option Instant → Option Instant → ℕ
took None now = 0
took (Some since) None = 0
took (Some since) (Some now) =
    min ((instant_nanos now - instant_nanos since) / 1_000_000) LONG_PAUSE

-- Less than the longest pause has passed from one time to another, by whole milliseconds.
-- Forbids: a time that is not known.
abbrev pub IsLately : Option Instant → Option Instant → Type 0
IsLately None now = ⊥
IsLately (Some since) None = ⊥
IsLately (Some since) (Some now) = took (Some since) (Some now) < LONG_PAUSE

-- The time that is left until this end, by the time now.
-- Forbids: time that is left of a rest whose end is not known.
abbrev pub IsTimeLeft : Option Instant → Option Instant → Option Duration → Type 0
IsTimeLeft None now left = left ≡ None
IsTimeLeft (Some end) None left = left ≡ None
IsTimeLeft (Some end) (Some now) None = instant_nanos end < instant_nanos now
IsTimeLeft (Some end) (Some now) (Some left) =
    as_nanos left + instant_nanos now ≡ instant_nanos end

-- ---- a rest

-- The time that it took to learn a place, if the known front has moved since the rest began.
abbrev pub time_to_learn : Rest → Option Instant → ℕ → Option ℕ
time_to_learn rest now front =
    if nat_lt rest.front front then Some (took rest.since now) else None

-- A rest that begins now, of a node with this known front. It is as long as the pace says, by what
-- was learned and sent since the last rest began.
-- Forbids: a rest that is as long as the last one, whatever was learned.
pub record BeginsRest (old : Rest) (now : Option Instant) (front : ℕ) (new : Rest)
    : Type 0 where
  pub pace : new.pace ≡ pace_after old.pace (time_to_learn old now front) old.has_sent
  pub begins : new.begun ≡ now
  pub ends : IsLater now new.pace.rest new.until
  pub from : new.front ≡ front
  pub unsent : new.has_sent ≡ false
  pub since : new.since ≡ (if old.has_sent then now else None)
  pub ticked : new.ticked ≡ old.ticked

-- The end of a rest that is to end so many milliseconds after `from` at the latest.
-- Forbids: an end that is put off.
abbrev pub IsCutShort : Option Instant → Option Instant → ℕ → Option Instant → Type 0
IsCutShort until from millis cut =
    (latest : Option Instant) × IsLater from millis latest × (cut ≡ earlier until latest)

-- A rest once something but an Ask is sent in it, first now, or first since a place was learned in
-- it. If nothing such was sent before the rest, it ends after the first pause at the latest, and
-- the time to learn a place counts from now.
-- Allows: no other end, where something was sent before.
pub record NotesSent (old : Rest) (now : Option Instant) (new : Rest) : Type 0 where
  pub rest : new ≡ record old { has_sent = true; until = new.until; since = new.since }
  pub first : old.pace.sent_before ≡ false
      → IsCutShort old.until now old.pace.first new.until × (new.since ≡ now)
  pub again : old.pace.sent_before ≡ true → (new.until ≡ old.until) × (new.since ≡ old.since)

-- A rest once a place is learned, in a group of so many nodes. It ends as soon as a rest may while
-- keys are under way.
pub record NotesLearned (old : Rest) (size : ℕ) (new : Rest) : Type 0 where
  pub rest : new ≡ record old { has_sent = false; until = new.until }
  pub ends : IsCutShort old.until old.begun (least_of old.pace.first size) new.until
