-- Values, in today's spelling and in that of version 1: what is read was written, and what is
-- written is read.
use Rattle.std.proofs.Common.{◌≡◌, ◌↔◌, ℕ, Bool, true, ◌&&◌, not, eqb, List, [], ◌∷◌, ◌++◌, length, Ok, take, drop, arith, ◌<◌}
use Rattle.std.proofs.Math.Seq.{drop-append_seam, take-append_seam}
use Rattle.std.proofs.lemmas.Bool.{cases_lt, le-ltb}
use Rattle.std.proofs.lemmas.List.{get_or-take, get_or_past, length-append, length-take, length-take-le, take-append-drop}
use Rattle.std.proofs.lemmas.Bool.Decides.{nat_tests}
use Rattle.paxos_msg.specs.declared.fault.WireFault.TheVariants as fault
use Rattle.paxos_msg.specs.declared.value.Value.{Value}
use Rattle.paxos_msg.specs.declared.value.Value.TheVariants.{Noop, Keys}
use Rattle.paxos_msg.specs.Fits.{IsBatch, IsCount, IsValue, AreBytes}
use Rattle.paxos_msg.specs.Keys.{AreOwnKeys, batches}
use Rattle.paxos_msg.specs.Reading.{is_node, characters_at, keys_at, value_at, own_keys_at}
use Rattle.paxos_msg.specs.Spelling.{value_bytes}
use Rattle.paxos_msg.proofs.Fields.{Exact, bytes_after, step, step_if, four_again, one_byte, numbers}
use Rattle.paxos_msg.proofs.OwnKeys.{own_keys}
use Rattle.paxos_msg.specs.Version1.{IsSingle, key_at_v1, key_rest_at_v1, value_at_v1, value_bytes_v1}

-- ---- the characters of a batch

-- the first bytes are bytes
bytes_before : (n : ℕ) (bytes : List ℕ) → AreBytes bytes → AreBytes (take n bytes)
bytes_before n bytes h i = grind (arith, nat_tests, cases_lt i n, get_or-take, get_or_past, length-take, h i)

-- the characters of a batch are read as they are spelled
characters : (first : ℕ) → Exact (characters_at first) (IsBatch first) (λ bytes. length bytes ∷ bytes)
unfolding characters_at
characters first = record {
  found = λ bytes are. grind (arith, nat_tests, one_byte, bytes_before, bytes_after, length-take-le, take-append-drop);
  again = λ bytes rest h.
      grind (arith, nat_tests, le-ltb, length-append, take-append_seam, drop-append_seam);
}

-- ---- values

-- keys whose node passes the test
abbrev KeysFit : (ℕ → Bool) → Value → Type 0
KeysFit is_good Noop = ⊥
KeysFit is_good (Keys node start first bytes) = (is_good node ≡ true) × IsCount start × IsBatch first bytes

-- the fields of a batch are spelled after its tag
abbrev fields_bytes : Value → List ℕ
fields_bytes v = drop 1 (value_bytes v)

-- the fields of a batch are read again
keys_again : (is_good : ℕ → Bool) (v : Value) (rest : List ℕ) → KeysFit is_good v → keys_at is_good (fields_bytes v ++ rest) ≡ Ok (v, rest)
unfolding keys_at
keys_again is_good Noop rest h = absurd h
keys_again is_good (Keys node start first bytes) rest h = grind (arith, nat_tests, numbers.again, (characters first).again)

-- they are read as they are spelled
keys : (is_good : ℕ → Bool) → Exact (keys_at is_good) (KeysFit is_good) fields_bytes
unfolding keys_at
keys is_good = record {
  found = λ bytes are.
      step_if one_byte bytes fault.Value (λ node. not (is_good node)) _ _ are (λ node later small parts are good.
      step_if numbers later fault.Value (λ start. eqb start 0) _ _ are (λ start later below parts' are some.
      step numbers later _ _ are (λ first later under parts'' are.
      step (characters first) later _ _ are (λ bytes later batch parts''' are.
      grind (arith, nat_tests)))));
  again = keys_again is_good;
}

-- a value is read as it is spelled
pub values : (size : ℕ) → Exact (value_at size) (IsValue size) value_bytes
unfolding value_at
values size = record {
  found = λ bytes are. step one_byte bytes _ _ are (λ tag later small parts are.
      grind (arith, nat_tests, (keys (is_node size)).found later are));
  again = λ v rest h. grind (arith, nat_tests, (keys (is_node size)).again v rest);
}

-- ---- keys of the sender

-- the node of keys that pass the test, and whose node is the sender
abbrev own_test : ℕ → ℕ → ℕ → Bool
own_test size sender node = is_node size node && eqb node sender

-- keys pass the test just where they are values of the sender's own
own_fits : (size sender : ℕ) (v : Value) → KeysFit (own_test size sender) v ↔ (IsValue size v × AreOwnKeys batches sender v)
own_fits size sender Noop = grind (arith, nat_tests)
own_fits size sender (Keys node start first bytes) = grind (arith, nat_tests, own_keys node start first sender bytes)

-- so are keys of the sender
pub own_values : (size sender : ℕ) → Exact (own_keys_at size sender) (λ v. IsValue size v × AreOwnKeys batches sender v) value_bytes
unfolding own_keys_at
own_values size sender = record {
  found = λ bytes are. step_if one_byte bytes fault.Value (λ tag. not (eqb tag 1)) _ _ are (λ tag later small parts are is_tag.
      grind (arith, nat_tests, own_fits size sender, (keys (own_test size sender)).found later are));
  again = λ v rest h. grind (arith, nat_tests, own_fits size sender v, (keys (own_test size sender)).again v rest);
}

-- ---- values of version 1

-- one byte is a list of bytes
only : (byte : ℕ) → byte < 256 → AreBytes (byte ∷ [])
only byte small i = grind (arith, nat_tests)

-- a value of one key is read again
again_v1 : (size : ℕ) (v : Value) (rest : List ℕ) → IsValue size v × IsSingle v → value_at_v1 size (value_bytes_v1 v ++ rest) ≡ Ok (v, rest)
unfolding value_at_v1 key_at_v1 key_rest_at_v1
again_v1 size (Keys node start first (byte ∷ [])) rest h = grind (arith, nat_tests)
again_v1 size other rest h = grind (arith, nat_tests)

-- such a value is read as it is spelled
pub values_v1 : (size : ℕ) → Exact (value_at_v1 size) (λ v. IsValue size v × IsSingle v) value_bytes_v1
unfolding value_at_v1 key_at_v1 key_rest_at_v1
values_v1 size = record {
  found = λ bytes are. step one_byte bytes _ _ are (λ tag later small parts are.
      let last = one_byte.found _ (bytes_after 4 _ (bytes_after 4 _ (bytes_after 1 later are))) in
      grind (arith, nat_tests, four_again, only, last, are 1, are 2, are 3, are 4, are 5, are 6, are 7, are 8, are 9));
  again = again_v1 size;
}
