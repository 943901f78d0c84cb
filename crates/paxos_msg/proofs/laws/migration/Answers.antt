-- The theorems of `Migration` at the values of version 1.
use Rattle.std.proofs.Common.{◌≡◌, ℕ, [], ◌∷◌, Option, Some, None, refl, arith}
use Rattle.std.specs.Option.{option_to_list}
use Rattle.std.proofs.lemmas.Bool.Decides.{nat_tests}
use Rattle.paxos_msg.specs.declared.value.Value.{Value}
use Rattle.paxos_msg.specs.declared.value.Value.TheVariants.{Noop, Keys}
use Rattle.paxos_msg.specs.Fits.{IsValue}
use Rattle.paxos_msg.specs.Version1.{IsSingle}
use Rattle.paxos_msg.specs.Keys.{batches, Key, keys_of}
use Rattle.paxos_msg.specs.Migration.{as_batch, single_keys}
use Rattle.paxos_msg.proofs.Migration.{chosen_still, grew_still}
use Rattle.paxos_msg.proofs.laws.migration.Goals as goal

same_keys : (v : Option Key) → keys_of (as_batch v) ≡ option_to_list v
same_keys v = grind (arith, nat_tests)

as_single : (size : ℕ) (v : Value) → IsValue size v → IsSingle v → (old : Option Key) × (v ≡ as_batch old)
as_single size Noop h single = (None, refl)
as_single size (Keys node start first (byte ∷ [])) h single =
    (Some (record { node = node; start = start; serial = first; byte = byte }), refl)
as_single size (Keys node start first other) h single = absurd (omega (arith, h.2.1, single))

pub returns : goal.returns
returns c = record {
  single = λ size v h. (as_single size v h, grind (arith, nat_tests));
  grew = λ size sent records grew. grew_still as_batch single_keys batches refl same_keys grew;
  chosen = λ size s sent v chosen. chosen_still as_batch size sent s v chosen;
  keys = same_keys;
}
