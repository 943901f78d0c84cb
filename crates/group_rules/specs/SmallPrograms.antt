-- Two small programs, of one call each, which write the letter A.
use Rattle.std.specs.Prelude.{ℕ, [], ◌∷◌}
use Rattle.pcode_file.specs.Parts.{Parts}

-- A program that puts 65 into a word, calls this standard procedure for unit 1 and the first byte
-- of that word, and ends.
abbrev pub one_call : ℕ → Parts
one_call standard = record {
  name = [];
  segment = 65 ∷ 171 ∷ 3 ∷ 1 ∷ 165 ∷ 3 ∷ 0 ∷ 1 ∷ 0 ∷ 0 ∷ 158 ∷ standard ∷ 193 ∷ 0 ∷
      2 ∷ 0 ∷ 4 ∷ 0 ∷ 6 ∷ 0 ∷ 20 ∷ 0 ∷ 1 ∷ 0 ∷ 2 ∷ 0 ∷ 1 ∷ 1 ∷ [];
  number = 1;
  procs =
      (record {
        number = 1;
        level = 0;
        enter = 0;
        exit = 12;
        jtab = 22;
        low = 0;
        params = 2;
        vars = 1;
      }) ∷ [];
}

-- A program that reads one byte from unit 1, which echoes it.
abbrev pub echoes : Parts
echoes = one_call 5

-- A program that writes the letter A to unit 1.
abbrev pub letter_program : Parts
letter_program = one_call 6
