-- What places give, one after another, goes into an outbox.
use Rattle.std.proofs.Common.{◌≡◌, ℕ, zero, suc, ◌+◌, ◌-◌, ◌≤◌, List, ◌++◌, length, take, Option, arith, append_assoc}
use Rattle.std.proofs.lemmas.Bool.Decides.{nat_tests}
use Rattle.std.specs.List.{filter_map, range_with_len}
use Rattle.std.specs.Option.{option_to_list}
use Rattle.std.proofs.lemmas.List.{map-append, take_all}
use Rattle.paxos_acceptor.specs.declared.me.Me.{Me}
use Rattle.group_protocol.specs.Packets.{Datagram, Packet, datagrams_of}

-- ---- lists

-- what one place more gives
pub one_more : {X : Type 0} (f : ℕ → Option X) (a n : ℕ)
    → filter_map f (range_with_len a (suc n)) ≡ filter_map f (range_with_len a n) ++ option_to_list (f (a + n))
one_more f a zero = grind (arith, nat_tests)
one_more {X} f a (suc n) =
    grind (arith, one_more f (a + 1) n)

-- the first of what this many places give are all that fewer of them give
first_give : {X : Type 0} (f : ℕ → Option X) (a n m most : ℕ) → n ≤ m → length (filter_map f (range_with_len a n)) ≡ most
    → take most (filter_map f (range_with_len a m)) ≡ filter_map f (range_with_len a n)
first_give f a zero m most few full = grind (arith, nat_tests)
first_give f a (suc n) zero most few full = absurd (omega arith)
first_give f a (suc n) (suc m) most few full =
    grind (arith, nat_tests, first_give f (a + 1) n m most, first_give f (a + 1) n m (most - 1))

-- ---- packets

-- What the places from the first one on, this many, give is in the outbox.
pub record ArePut (me : Me) (f : ℕ → Option Packet) (first : ℕ) (before now : List Datagram) (count : ℕ) : Type 0 where
  pub packets : now ≡ before ++ datagrams_of me (filter_map f (range_with_len first count))

-- of one more
pub more_put : {me : Me} {f : ℕ → Option Packet} {first : ℕ} {before now then : List Datagram} {count : ℕ}
    (place next : ℕ) → ArePut me f first before now count
    → first + count ≡ place → next ≡ suc count → then ≡ now ++ datagrams_of me (option_to_list (f place))
    → ArePut me f first before then next
more_put {me} {f} {first} {before} {now} {then} {count} place next h here is packets =
    grind (arith, append_assoc, map-append, one_more)

-- of this many places that most of what is to be put in is
pub most_put : {me : Me} {f : ℕ → Option Packet} {first : ℕ} {before now : List Datagram} {count : ℕ} (many most : ℕ)
    → ArePut me f first before now count
    → count ≤ many → length (filter_map f (range_with_len first count)) ≡ most
    → now ≡ before ++ datagrams_of me (take most (filter_map f (range_with_len first many)))
most_put many most h few full = grind (arith, nat_tests, first_give)

-- of all, which are no more than that
pub few_put : {me : Me} {f : ℕ → Option Packet} {first : ℕ} {before now : List Datagram} {count : ℕ} (many most : ℕ)
    → ArePut me f first before now count
    → count ≡ many → length (filter_map f (range_with_len first count)) ≤ most
    → now ≡ before ++ datagrams_of me (take most (filter_map f (range_with_len first many)))
few_put many most h all few = grind (arith, nat_tests, take_all)
