-- Which keys nodes have read: those below their fronts, and nodes that are further have read more.
use Rattle.std.proofs.Common.{length-append, option_map, ◌≡◌, ◌∙◌, ◌↔◌, inl, inr, ℕ, suc, ◌<◌, ◌≤◌, not, Contains, List, [], ◌∷◌, ◌++◌, length, slice_get, flat_map, Some, None, refl, sym, ap, subst, arith, true}
use Rattle.std.proofs.lemmas.Bool.{cases_Bool, not_from_false}
use Rattle.std.proofs.lemmas.List.Elements.{Contains-append_left}
use Rattle.std.proofs.lemmas.Option.{slice_get_within}
use Rattle.std.specs.FinMap.{FinMap, get}
use Rattle.std.specs.Ordering.{nat_cmp}
use Rattle.paxos_msg.specs.declared.value.Value.{Value}
use Rattle.paxos_msg.specs.Keys.{Key, keys_of}
use Rattle.paxos_learner.specs.Input.{firsts, front_values, keys_in_order, same_key, values_below}
use Rattle.paxos_learner.specs.Learner.{IsFront, front_of}
use Rattle.group_protocol.proofs.Elements.{first_in, in_cases, none_in, rest_in}
use Rattle.group_protocol.specs.Known.{Known, front}
use Rattle.group_world.specs.Group.{World, seat_of_member, up_of, world_state}
use Rattle.group_rules.specs.Claims.{HasLearned, LearnedAgree}
use Rattle.group_rules.specs.Invariants.{HoldsByRules}
use Rattle.group_rules.specs.Rules.{WorldState}
use Rattle.group_progress.specs.Below.{KeyLaws, ReadLaws}
use Rattle.group_progress.proofs.Unread.{IsFirstUnread}
use Rattle.group_rules.proofs.Lists.{in_filter, in_flat_map, in_from_place}
use Rattle.group_progress.proofs.Going.{Good}
use Rattle.group_progress.proofs.Steps.{Has}
use Rattle.group_progress.proofs.Telling.{some_at}

-- the keys that a node has read
abbrev pub HasKey : Known → Key → Type 0
HasKey n key = Contains (keys_in_order (front_values n.learner.learned)) key

-- ---- each key is among the first ones

in_firsts : ReadLaws → (keys : List Key) (key : Key) → Contains keys key → Contains (firsts keys) key
in_firsts laws [] key among = absurd (none_in key among)
in_firsts laws (k ∷ keys) key among = elim (in_cases k keys key among) [
  | inl is ↦ subst (Contains (firsts (k ∷ keys))) is (first_in k _)
  | inr later ↦ elim (cases_Bool (same_key k key)) [
    | inl same ↦ subst (Contains (firsts (k ∷ keys))) ((laws.same k key).0 same) (first_in k _)
    | inr other ↦ rest_in k _ key (in_filter (λ o. not (same_key k o)) (firsts keys) key (in_firsts laws keys key later)
        (not_from_false (same_key k key) other))
  ]
]

-- the keys of a value below the front are read
pub read_at : ReadLaws → (learned : FinMap nat_cmp Value) (s : ℕ) (v : Value) (key : Key) → get learned s ≡ Some v → s < front_of learned
    → Contains (keys_of v) key → Contains (keys_in_order (front_values learned)) key
read_at laws learned s v key at below among =
    let there : Contains (front_values learned) v = in_from_place (front_values learned) s v
    (laws.at_place learned (front_of learned) s (omega arith) below ∙ at) in
    in_firsts laws (flat_map keys_of (front_values learned)) key (in_flat_map keys_of (front_values learned) v key there among)

-- ---- nodes that are further

pub prefix_by : (xs ys : List Value) → ((s : ℕ) (v : Value) → slice_get xs s ≡ Some v → slice_get ys s ≡ Some v) → (more : List Value) ×
    (ys ≡ xs ++ more)
prefix_by [] ys h = (ys, refl)
prefix_by (x ∷ xs) [] h = let no : None ≡ Some x = h 0 x refl in absurd cc
prefix_by (x ∷ xs) (y ∷ ys) h =
    let same : y ≡ x = cc (h 0 x refl) in
    let rest = prefix_by xs ys (λ s v e. h (suc s) v e) in
    (rest.0, cc (same, rest.1))

pub has_learned : {w : World} {i : ℕ} {n : Known} → Has w i n → (s : ℕ) (v : Value) → get n.learner.learned s ≡ Some v → HasLearned
    (world_state w) i s v
has_learned {w} {i} {n} has s v e = record {
  node = up_of (record { known = n; progress = has.progress });
  up = ap (λ o. (seat_of_member o).up) has.there ∙ ap (option_map up_of) has.up;
  learned = e;
}

pub read_agree : ReadLaws → KeyLaws → {w : World} → Good w → {i j : ℕ} {a b : Known} → Has w i a → Has w j b → front a ≤ front b →
    (key : Key)
    → HasKey a key → HasKey b key
read_agree laws keys {w} good {i} {j} {a} {b} first second far key read =
    let la : FinMap nat_cmp Value = a.learner.learned in
    let lb : FinMap nat_cmp Value = b.learner.learned in
    let (more, is) = prefix_by (front_values la) (front_values lb) (λ s v e.
    let low : s < front a = omega (arith, slice_get_within (front_values la) s v e, laws.many la (front a) (omega arith)) in
    let at : get la s ≡ Some v = sym (laws.at_place la (front a) s (omega arith) low) ∙ e in
    let (u, there) = some_at lb s ((laws.front lb).below s (omega (arith, low, far))) in
    let one : v ≡ u = laws.agree (world_state w) good.holds.rules i j s v u (has_learned first s v at) (has_learned second s u there) in
    laws.at_place lb (front b) s (omega arith) (omega (arith, low, far)) ∙ there ∙ ap Some (sym one)) in
    let (rest, longer) = keys.more_keys (front_values la) more in
    subst (λ ks. Contains ks key) (sym (ap keys_in_order is ∙ longer))
    (Contains-append_left (keys_in_order (front_values la)) rest key read)

-- ---- keys that wait no more

-- of two ends of one list, the one whose first element is not read is no longer than the one before which all are read
pub no_more : (read gone rest more ws : List Key) → gone ++ rest ≡ more ++ ws → ((key : Key) → Contains gone key → Contains read key)
    → IsFirstUnread read ws → length ws ≤ length rest
no_more read [] rest more ws e all first = omega (arith, ap (λ (ks : List Key). length ks) e, length-append more ws)
no_more read (g ∷ gs) rest [] ws e all first = absurd ((subst (IsFirstUnread read) (sym e) first) (all g (first_in g gs)))
no_more read (g ∷ gs) rest (y ∷ ys) ws e all first =
    no_more read gs rest ys ws (cc e) (λ key among. all key (rest_in g gs key among)) first
