-- Bytes that are written one after the other, or in part.
use Rattle.std.proofs.Common.{◌≡◌, ◌∙◌, ℕ, suc, ◌+◌, ◌<◌, ◌≤◌, ◌-◌, List, [], ◌∷◌, ◌++◌, drop, length, take, Option, None, Some, Result, Ok, Err, MatchResult, refl, ap, append-nil, append_assoc, length-append, arith}
use Rattle.std.proofs.lemmas.Grind.{common_steps}
use Rattle.std.proofs.lemmas.List.{take-append-drop, take_all}
use Rattle.std.proofs.KnownBytes.{Appends-trans}
use Rattle.std.specs.Io.KnownBytes.{Appends, Keeps}
use Rattle.machine_run.specs.Streams.{WritesPart}

-- ---- one byte

-- nothing is the only part of it
no_part : (byte : ℕ) (wrote lost : List ℕ) → byte ∷ [] ≡ wrote ++ lost → 0 < length lost → wrote ≡ []
no_part byte [] lost parts some = refl
no_part byte (x ∷ xs) lost parts some =
    let all : 1 ≡ suc (length xs) + length lost = ap length parts ∙ length-append (x ∷ xs) lost in
    absurd (omega (arith, all, some))

appended_none : (from to : Option (List ℕ)) (none : List ℕ) → none ≡ [] → Appends from to none → Keeps from to
appended_none None to none is h = tt
appended_none (Some x) None none is h = absurd h
appended_none (Some x) (Some y) none is h = grind (arith, append-nil x)

pub one_byte : {E : Type 0} (from to : Option (List ℕ)) (byte : ℕ) (r : Result (Unit {0}) E)
    → MatchResult r (λ x. Appends from to (byte ∷ [])) (λ e. WritesPart from to (byte ∷ []))
    → MatchResult r (λ x. Appends from to (byte ∷ [])) (λ e. Keeps from to)
one_byte from to byte (Ok x) h = h
one_byte from to byte (Err e) h = appended_none from to h.wrote (no_part byte h.wrote h.lost h.parts h.some) h.appended

-- ---- several

-- some first bytes were written, and then n of the others
pub written_on : (from mid to : Option (List ℕ)) (bytes wrote rest : List ℕ) (n : ℕ) → bytes ≡ wrote ++ rest → Appends from mid wrote
    → n ≤ length rest → Appends mid to (take n rest)
    → (now : List ℕ) × (bytes ≡ now ++ take (length rest - n) (drop n rest)) × Appends from to now
written_on from mid to bytes wrote rest n parts before fits more = (
  wrote ++ take n rest,
  grind (arith, common_steps, append_assoc, take-append-drop n rest, take_all),
  Appends-trans from mid to wrote (take n rest) before more,
)
