-- A keyboard of which all that it has is known.
use Rattle.std.specs.Prelude.{ℕ, true, List, None, Some}
use Rattle.node_io.specs.Prompts.{KeyboardState, no_keys}

-- A closed keyboard that has these bytes and so many requests left, and has taken in nothing. It
-- does not count looks.
abbrev pub closed_with : List ℕ → ℕ → KeyboardState
closed_with bytes requests =
    record {
      left = record { bytes = bytes; requests = requests };
      is_closed = true;
      taken_in = Some no_keys;
      looks = None;
    }
