-- What messages that are written down by hand choose and what they do not, by tests of the
-- messages; and values and numbers that are written down with their places.
use Rattle.std.proofs.lemmas.Bool.Decides.{nat_tests}
use Rattle.std.proofs.lemmas.Option.{same_Some}
use Rattle.std.proofs.lemmas.Map.Views.{Contains-from_any}
use Rattle.std.proofs.lemmas.List.Elements.{All-contains, All-contains_itself, All-drop, All-take}
use Rattle.std.proofs.lemmas.List.Folds.{list_any_at}
use Rattle.std.proofs.lemmas.List.FromFn.{length-range_with_len}
use Rattle.std.proofs.Common.{All, Contains, IsTrue, ◌≡◌, ◌≢◌, ◌∙◌, ◌==◌, ◌≤◌, ℕ, zero, suc, ◌+◌, Bool, false, List, [], ◌∷◌, map, take, drop, length, slice_get, Some, sym, ap, subst, arith, refl, eq-eqb, nat_cmp}
use Rattle.std.specs.FinMap.{FinMap, insert}
use Rattle.std.specs.List.{AllByRecursion as EachOf, range_with_len, filter}
use Rattle.paxos_msg.specs.declared.ballot.Ballot.{Ballot}
use Rattle.paxos_msg.specs.declared.value.Value.{Value}
use Rattle.paxos_msg.specs.declared.value.Value.TheVariants.{Keys}
use Rattle.paxos_msg.specs.declared.message.Body.TheVariants.{Accepted}
use Rattle.paxos_msg.specs.Ballots.{IsMajority, count_of}
use Rattle.paxos_msg.specs.Batches.{Msg, Sent}
use Rattle.paxos_msg.specs.Chosen.{is_listed, IsChosen, IsChosenBy}
use Rattle.paxos_msg.specs.Keys.{AreOwnKeys, Key, batches, keys_from}
use Rattle.paxos_msg.specs.Messages.{IsSent}
use Rattle.paxos_learner.proofs.OnePlace.{get_here}
use Rattle.group_protocol.proofs.Elements.{each_of, minority}
use Rattle.group_node.specs.Inputs.{AreChosen}
use Rattle.group_rules.specs.Rules.{Up, WorldState}
use Rattle.group_rules.specs.Claims.{HasLearned}
use Rattle.group_rules.proofs.Lists.{in_filter, in_map}

-- ---- what is chosen

-- the messages by which nodes have accepted a value
abbrev pub votes_of : List ℕ → Ballot → ℕ → Value → Sent
votes_of nodes b s v = map (λ i. record { sender = i; body = Accepted b s v }) nodes

-- a node that is listed is in the list
in_listed : (nodes : List ℕ) (i : ℕ) → IsTrue (is_listed nodes i) → Contains nodes i
in_listed nodes i listed = Contains-from_any {eq = λ q x. x == q} (λ x y e. grind (arith, nat_tests)) i nodes listed

-- so what holds of each of some nodes holds of one that is listed
pub at_listed : (P : ℕ → Type 0) (nodes : List ℕ) → EachOf P nodes → (i : ℕ) → IsTrue (is_listed nodes i) → P i
at_listed P nodes each i listed = each_of P nodes i each (in_listed nodes i listed)

-- a majority has accepted the value, one after the other, from message k on
pub chosen_by : {size : ℕ} {b : Ballot} {s : ℕ} {v : Value} (sent : Sent) (nodes : List ℕ) (k : ℕ) → IsMajority size (is_listed nodes)
    → take (length nodes) (drop k sent) ≡ votes_of nodes b s v → IsChosenBy size sent b s v
chosen_by {size} {b} {s} {v} sent nodes k most is = (is_listed nodes, most, each)
  where
    each : (i : ℕ) → IsTrue (is_listed nodes i) → IsSent sent i (Accepted b s v)
    each i listed =
        let some = All-take (Contains sent) (length nodes) (drop k sent) (All-drop (Contains sent) k sent (All-contains_itself sent)) in
        let votes = subst (All (Contains sent)) is some in
        All-contains (Contains sent) (votes_of nodes b s v) _ votes (in_map _ nodes i (in_listed nodes i listed))

-- what holds of each value with its place
abbrev pub AtPlaces : (ℕ → Value → Type 0) → List Value → Type 0
AtPlaces P [] = Unit {0}
AtPlaces P (v ∷ values) = P 0 v × AtPlaces (λ s. P (suc s)) values

at_place : (P : ℕ → Value → Type 0) (values : List Value) → AtPlaces P values → (s : ℕ) (v : Value) → slice_get values s ≡ Some v → P s v
at_place P [] each s v e = absurd cc
at_place P (u ∷ values) each zero v e = subst (P 0) (same_Some u v e) each.0
at_place P (u ∷ values) each (suc s) v e = at_place (λ k. P (suc k)) values each.1 s v e

pub are_chosen : {size : ℕ} {sent : Sent} (values : List Value) → AtPlaces (IsChosen size sent) values → AreChosen size sent values
are_chosen {size} {sent} values each = record { chosen = at_place (IsChosen size sent) values each }

-- ---- what is not chosen

-- whether a message accepts under this round
abbrev accepts_in : ℕ → Msg → Bool
accepts_in round m = elim m.body [ Accepted b s v ↦ b.round == round | _ ↦ false ]

-- the nodes that accept under this round
abbrev pub voters : Sent → ℕ → List ℕ
voters sent round = map (λ m. m.sender) (filter (accepts_in round) sent)

-- where those that accept under each round are half of the group or less
pub not_chosen : {size s : ℕ} {v : Value} (sent : Sent)
    → ((round : ℕ) → count_of (is_listed (voters sent round)) size + count_of (is_listed (voters sent round)) size ≤ size)
    → ¬ IsChosen size sent s v
not_chosen {size} {s} {v} sent few (b, (members, most, each)) =
    minority size members (is_listed (voters sent b.round)) (few b.round) (λ j is. listed j (each j is)) most
  where
    listed : (j : ℕ) → IsSent sent j (Accepted b s v) → IsTrue (is_listed (voters sent b.round) j)
    listed j said =
        let under = in_filter (accepts_in b.round) sent _ said (eq-eqb b.round b.round refl) in
        let (k, below, at) = in_map (λ (m : Msg). m.sender) _ _ under in
        list_any_at (λ node. node == j) (voters sent b.round) k j below (eq-eqb _ j at)

-- ---- keys, what a node has learned, and rows of numbers

-- the keys of a batch are of its node
same_node : (node start serial : ℕ) (bytes : List ℕ) → EachOf (λ (k : Key). k.node ≡ node) (keys_from node start serial bytes)
same_node node start serial [] = tt
same_node node start serial (byte ∷ bytes) = (refl, same_node node start (serial + 1) bytes)

pub own_keys : (node start first byte : ℕ) (bytes : List ℕ) → AreOwnKeys batches node (Keys node start first (byte ∷ bytes))
own_keys node start first byte bytes = record {
  has_key = λ none. absurd cc;
  at_node = λ k among.
      each_of (λ (k : Key). k.node ≡ node) (keys_from node start first (byte ∷ bytes)) k (same_node node start first (byte ∷ bytes)) among;
}

-- a node knows what it has learned last
pub has_learned : {w : WorldState} {i s : ℕ} {v : Value} {u : Up} (m : FinMap nat_cmp Value) → (w.seats i).up ≡ Some u
    → u.learned ≡ insert m s v → HasLearned w i s v
has_learned {s = s} {v = v} {u = u} m up is = record { node = u; up = up; learned = rw is (get_here m s v) }

-- these numbers are no row from 1 on
pub not_row : {xs : List ℕ} → xs ≢ range_with_len 1 (length xs) → (k : ℕ) × (xs ≡ range_with_len 1 k) → ⊥
not_row {xs} ne (k, e) = ne (e ∙ ap (range_with_len 1) (sym (length-range_with_len 1 k) ∙ ap length (sym e)))
