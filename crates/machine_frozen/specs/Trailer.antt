-- What a frozen code file has behind its segment.
use Rattle.std.specs.Prelude.{◌≡◌, ℕ, ◌+◌, ◌*◌, ◌<◌, List, ◌++◌, length, drop, codes}
use Rattle.byteorder.specs.Endian.{little_number}
use Rattle.machine_frozen.specs.declared.trailer.TheConstants.{FOOTER_BYTES, ROW_BYTES}

-- The last bytes of a frozen code file: its footer, which ends in the mark of such files.
pub record IsFooter (footer : List ℕ) : Type 0 where
  pub size : length footer ≡ FOOTER_BYTES
  pub marked : drop 28 footer ≡ codes "PGFROZEN1\n"

-- A file that ends in a footer.
pub record HasFooter (bytes body footer : List ℕ) : Type 0 where
  pub whole : bytes ≡ body ++ footer
  pub is : IsFooter footer

-- How long the rows are by a footer.
abbrev pub rows_length : List ℕ → ℕ
rows_length footer = ROW_BYTES * little_number 4 (drop 20 footer)

-- How long the original is by a footer.
abbrev pub original_length : List ℕ → ℕ
original_length footer = little_number 4 (drop 24 footer)

-- A file whose footer says that there is more before it than there is.
pub record IsDamaged (bytes : List ℕ) : Type 0 where
  pub body : List ℕ
  pub footer : List ℕ
  pub ends : HasFooter bytes body footer
  pub short : length body < rows_length footer + original_length footer

-- A frozen code file that ends in its rows, its original and a footer.
-- The footer has the numbers of bytes that were read and written, how often the original was
-- frozen, the number of rows and the length of the original, each with its low byte first.
-- Forbids: an original, rows or numbers that are others.
pub record HasTrailer (bytes rows original : List ℕ) (read wrote : ℕ) : Type 0 where
  pub front : List ℕ
  pub footer : List ℕ
  pub whole : bytes ≡ front ++ (rows ++ (original ++ footer))
  pub ends : IsFooter footer
  pub read_is : read ≡ little_number 8 (drop 0 footer)
  pub wrote_is : wrote ≡ little_number 8 (drop 8 footer)
  pub rows_are : length rows ≡ rows_length footer
  pub original_is : length original ≡ original_length footer
