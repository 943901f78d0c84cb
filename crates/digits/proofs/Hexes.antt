-- Pairs of hexadecimal digits, read one after another.
use Rattle.std.proofs.Common.{◌≡◌, ◌⊎◌, ℕ, IsSome, List, [], ◌∷◌, ◌++◌, Option, Some, None, take, refl, sym, ap, ◌∙◌, inl, inr}
use Rattle.std.proofs.lemmas.List.{append_assoc}
use Rattle.digits.specs.Digits.{byte_before, hex_byte_of, hex_bytes_of}

-- bytes in front of those that are there
abbrev pub bytes_before : List ℕ → Option (List ℕ) → Option (List ℕ)
bytes_before done (Some bytes) = Some (done ++ bytes)
bytes_before done None = None

-- of the text these bytes are read, and the rest is left
pub record IsReadUpTo (text rest done : List ℕ) : Type 0 where
  pub spelled : hex_bytes_of text ≡ bytes_before done (hex_bytes_of rest)
  pub begun : (text ≡ rest) ⊎ IsSome (hex_byte_of (take 2 text))

bytes_none : (o : Option (List ℕ)) → bytes_before [] o ≡ o
bytes_none None = refl
bytes_none (Some bytes) = refl

-- nothing is read yet
pub unread : (text : List ℕ) → IsReadUpTo text text []
unread text = record { spelled = sym (bytes_none (hex_bytes_of text)); begun = inl refl }

first_pair : (pair left : List ℕ) (byte : ℕ) → hex_byte_of pair ≡ Some byte
    → hex_bytes_of (pair ++ left) ≡ byte_before (Some byte) (hex_bytes_of left)
first_pair (h ∷ l ∷ []) left byte e = ap (λ o. byte_before o (hex_bytes_of left)) e
first_pair other left byte e = absurd cc

one_after : (done : List ℕ) (byte : ℕ) (o : Option (List ℕ))
    → bytes_before done (byte_before (Some byte) o) ≡ bytes_before (done ++ byte ∷ []) o
one_after done byte None = refl
one_after done byte (Some bytes) = ap (λ it. Some it) (sym (append_assoc done (byte ∷ []) bytes))

begins : (pair left : List ℕ) (byte : ℕ) → hex_byte_of pair ≡ Some byte → hex_byte_of (take 2 (pair ++ left)) ≡ Some byte
begins (h ∷ l ∷ []) left byte e = e
begins other left byte e = absurd cc

some_byte : (o : Option ℕ) (byte : ℕ) → o ≡ Some byte → IsSome o
some_byte None byte e = absurd cc
some_byte (Some b) byte e = refl

-- where a pair of digits is next, the text begins with one
pub is_begun : (text rest done pair left : List ℕ) (byte : ℕ) → IsReadUpTo text rest done → rest ≡ pair ++ left
    → hex_byte_of pair ≡ Some byte → IsSome (hex_byte_of (take 2 text))
is_begun text rest done pair left byte h split e = elim (h.begun) [
  | inl same ↦ some_byte _ byte (ap (λ (t : List ℕ). hex_byte_of (take 2 t)) (same ∙ split) ∙ begins pair left byte e)
  | inr is ↦ is
]

-- the next pair is read
pub read_pair : (text rest done pair left : List ℕ) (byte : ℕ) → IsReadUpTo text rest done → rest ≡ pair ++ left
    → hex_byte_of pair ≡ Some byte → IsReadUpTo text left (done ++ byte ∷ [])
read_pair text rest done pair left byte h split e = record {
  spelled =
      h.spelled ∙ (ap (λ (r : List ℕ). bytes_before done (hex_bytes_of r)) split
      ∙ (ap (bytes_before done) (first_pair pair left byte e) ∙ one_after done byte (hex_bytes_of left)));
  begun = inr (is_begun text rest done pair left byte h split e);
}
