-- What a write of a text does.
use Rattle.std.specs.Prelude.{◌≡◌, ℕ, List, ◌++◌, Option, Result, MatchResult}
use Rattle.std.specs.Io.KnownBytes.{Appends}
use Rattle.base.specs.Calls.{Mut}
use Rattle.base.specs.Faults.{HasRisen}

-- What is known of a writer: the bytes that it holds, if they are known, and how many of its
-- writes have failed or taken nothing.
pub record Held : Type 0 where
  pub bytes : Option (List ℕ)
  pub faults : ℕ

-- What is known of a writer: what it holds, and how many of its writes have failed or
-- taken nothing.
abbrev pub held : {W : Type 0} → (W → Option (List ℕ)) → (W → ℕ) → W → Held
held contents faults writer = record { bytes = contents writer; faults = faults writer }

-- A text was appended, and no write failed.
pub record AppendsText (old new : Held) (text : List ℕ) : Type 0 where
  pub bytes : Appends old.bytes new.bytes text
  pub faults : new.faults ≡ old.faults

-- A prefix of a text was appended, perhaps all of it, and then a write failed.
-- Forbids: a text that is not written whole where no write fails.
pub record AppendsPrefix (old new : Held) (text : List ℕ) : Type 0 where
  pub front : List ℕ
  pub rest : List ℕ
  pub whole : text ≡ front ++ rest
  pub bytes : Appends old.bytes new.bytes front
  pub fault : HasRisen old.faults new.faults

-- What a write of a text does: it appends the text, or a prefix of it, if a write has failed.
abbrev pub WritesText : {E : Type 0} → Held → Result (Unit {0}) E → Held → List ℕ → Type 0
WritesText old r new text =
    MatchResult r (λ _. AppendsText old new text) (λ _. AppendsPrefix old new text)

-- A call that writes a text to a writer that it borrows.
abbrev pub PutsText : {W E : Type 0} → (W → Option (List ℕ)) → (W → ℕ) → Mut W
    → Result (Unit {0}) E → List ℕ → Type 0
PutsText contents faults writer r text =
    WritesText (held contents faults writer.entry.now) r (held contents faults writer.exit.now) text
