-- What the command tells.
use Rattle.std.proofs.Common.{◌≡◌, ℕ, List, Option, Some, None, IsSome, refl}
use Rattle.std.specs.Prelude.{string_bytes}
use Rattle.std.specs.declared.string.String.{String}
use Rattle.machine_state.specs.Command.{text_bytes}

-- the bytes of a text that is there
pub some_text : {Z : Type 0} (text : Option (String Z)) → IsSome text → (bytes : List ℕ) × (text_bytes text ≡ Some bytes)
some_text (Some text) h = (string_bytes text, refl)
some_text None h = absurd cc
