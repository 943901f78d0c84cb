-- Texts that are written one after the other.
use Rattle.std.proofs.Common.{◌≡◌, ◌∙◌, inl, inr, ℕ, zero, suc, ◌+◌, ◌<◌, ◌≤◌, ◌==◌, false, add-one, append_assoc, append-nil, arith}
use Rattle.std.proofs.Common.{List, [], ◌∷◌, ◌++◌, take, drop, get_or, length, Result, Ok, Err, IsErr}
use Rattle.std.specs.Prelude.{codes}
use Rattle.std.specs.List.{flat_map}
use Rattle.std.proofs.KnownBytes.{Appends-trans}
use Rattle.std.proofs.lemmas.Bool.{cases_lt}
use Rattle.std.proofs.lemmas.Grind.{common_steps, flat_map-append}
use Rattle.std.proofs.lemmas.List.{take-append-drop, take_more}
use Rattle.digits.specs.Digits.{hex_text}
use Rattle.group_sim.specs.Groups.{console_text, lines_below}
use Rattle.group_sim.specs.Texts.{AppendsPrefix, AppendsText, Held, WritesText}

-- two texts that were written are one
pub both-written : {old mid new : Held} {a b : List ℕ} → AppendsText old mid a → AppendsText mid new b → AppendsText old new (a ++ b)
both-written p q = record { bytes = Appends-trans _ _ _ _ _ p.bytes q.bytes; faults = q.faults ∙ p.faults }

-- and so are a text and a front of another one
pub front-after : {old mid new : Held} {a b : List ℕ} → AppendsText old mid a → AppendsPrefix mid new b → AppendsPrefix old new (a ++ b)
front-after {a = a} p q = grind (arith, append_assoc, a ++ q.front, q.rest, Appends-trans _ _ _ _ _ p.bytes q.bytes)

-- ---- one text after another

-- a text, and then these
abbrev pub followed : List ℕ → List (List ℕ) → List ℕ
followed a [] = a
followed a (p ∷ ps) = followed (a ++ p) ps

-- a front of a text is a front of a longer one
one-more : {old new : Held} {a : List ℕ} (p : List ℕ) → AppendsPrefix old new a → AppendsPrefix old new (a ++ p)
one-more p h = grind (arith, append_assoc, h.front, h.rest ++ p)

-- an early return at a text that others would follow
pub failed : {E : Type 0} {old new : Held} {a : List ℕ} (r : Result (Unit {0}) E) (ps : List (List ℕ))
    → IsErr r → AppendsPrefix old new a → WritesText old r new (followed a ps)
failed r [] e h = grind (arith, common_steps)
failed r (p ∷ ps) e h = failed r ps e (one-more p h)

-- a text that another follows
pub appended : {E : Type 0} (old mid new : Held) (r : Result (Unit {0}) E) (a b : List ℕ) → AppendsText old mid a
    → WritesText mid r new b → WritesText old r new (a ++ b)
appended old mid new (Ok x) a b p h = both-written p h
appended old mid new (Err e) a b p h = front-after p h

-- ---- a text for each item of a list

-- a front of the text of an item, after those of the items before it
pub item-front : (f : ℕ → List ℕ) (xs : List ℕ) (i d : ℕ) {old mid new : Held} → i < length xs
    → AppendsText old mid (flat_map f (take i xs)) → AppendsPrefix mid new (f (get_or xs i d)) → AppendsPrefix old new (flat_map f xs)
item-front f xs i d less p q =
    let whole : flat_map f (take i xs) ++ f (get_or xs i d) ++ flat_map f (drop (i + 1) xs) ≡ flat_map f xs =
    rw (← take-append-drop (i + 1) xs, flat_map-append, take_more xs i d less) (grind (arith, common_steps)) in
    rw whole at (one-more (flat_map f (drop (i + 1) xs)) (front-after p q))

-- ---- a text for each number

-- one more is written
pub line-appended : (line : ℕ → List ℕ) (n : ℕ) {old mid new : Held} → AppendsText old mid (lines_below line n)
    → AppendsText mid new (line n) → AppendsText old new (lines_below line (n + 1))
unfolding lines_below
line-appended line n p q = rw (add-one n) (both-written p q)

-- a front of a line, after those below it
pub line-front : (line : ℕ → List ℕ) (i n : ℕ) {old mid new : Held} → i < n → AppendsText old mid (lines_below line i)
    → AppendsPrefix mid new (line i) → AppendsPrefix old new (lines_below line n)
unfolding lines_below
line-front line i zero less p q = absurd (omega arith)
line-front line i (suc n) less p q = elim (cases_lt i n) [
  | inl low ↦ one-more (line n) (line-front line i n low p q)
  | inr high ↦ let last : i ≡ n = omega arith in rw last at (front-after p q)
]

-- ---- a console

-- one that has shown something
pub console_text-some : (bytes : List ℕ) → (length bytes == 0) ≡ false → console_text bytes ≡ codes " console " ++ hex_text bytes
console_text-some bytes some = grind (arith, common_steps)

-- ---- lines that are empty from a number on

-- those below it are all
pub lines-end : (line : ℕ → List ℕ) (n end : ℕ) → end ≤ n → ((s : ℕ) → end ≤ s → line s ≡ [])
    → lines_below line n ≡ lines_below line end
unfolding lines_below
lines-end line zero end few none = grind arith
lines-end line (suc n) end few none = elim (cases_lt n end) [
  | inl low ↦ let all : end ≡ suc n = omega arith in rw all
  | inr high ↦ rw (none n high) (append-nil (lines_below line n) ∙ lines-end line n end high none)
]
