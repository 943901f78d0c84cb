-- What a keyboard has left, as more comes.
use Rattle.std.proofs.lemmas.List.{length-take-le, take-append-drop, take-append-le, take_all}
use Rattle.std.proofs.Common.{◌≡◌, ◌∙◌, ℕ, ◌≤◌, List, [], ◌∷◌, ◌++◌, drop, length, map, take, false, append_assoc, append-nil, refl, sym, ap, arith}
use Rattle.group_node.specs.Deeds.{Press}
use Rattle.node_io.specs.Prompts.{GivesWhatCame, KeyboardState, Remaining, before_gift, bytes_in, campaigns_in, looks_after, no_keys, taken_more, with_more}

-- two that are the same
pub same_left : (a b : Remaining) → a.bytes ≡ b.bytes → a.requests ≡ b.requests → a ≡ b
same_left a b bytes requests = ap (λ x. record { bytes = x; requests = a.requests }) bytes
    ∙ ap (λ r. record { bytes = b.bytes; requests = r }) requests

-- nothing came
pub none_came : (left : Remaining) → left ≡ with_more no_keys left
none_came left = same_left left (with_more no_keys left) (sym (append-nil left.bytes)) (omega arith)

-- what came twice came at once
pub came_twice : (a c d : Remaining) → with_more d (with_more c a) ≡ with_more (with_more d c) a
came_twice a c d = same_left _ _ (append_assoc a.bytes c.bytes d.bytes) (omega arith)

-- a keyboard that has taken in what came
pub takes_in : (old new : KeyboardState) (came : Remaining) → new.left ≡ with_more came old.left → old.is_closed ≡ false
    → new.is_closed ≡ old.is_closed → new.taken_in ≡ taken_more came old.taken_in → new.looks ≡ looks_after 1 old.looks
    → GivesWhatCame old [] new
takes_in old new came left is_open stays more looked = record {
  came = came;
  whole = sym left ∙ same_left new.left (before_gift [] new.left) refl (omega arith);
  none_came = λ closed. absurd cc;
  stays = stays;
  more = more;
  times = 1;
  looked = looked;
}

-- typed bytes ask for no campaign
pressed : (bytes : List ℕ) → (bytes_in (map Press bytes) ≡ bytes) × (campaigns_in (map Press bytes) ≡ 0)
pressed [] = (refl, refl)
pressed (b ∷ bytes) = let (all, none) = pressed bytes in (ap (λ bs. b ∷ bs) all, none)

-- a queue that has given its first bytes, which are at the front of a buffer now
pub given_front : (n : ℕ) (old new : Remaining) (front others back : List ℕ) → n ≤ length old.bytes → front ≡ take n old.bytes ++ others
    → new ≡ record old { bytes = drop n old.bytes }
    → old ≡ before_gift (map Press (take n (front ++ back))) new
given_front n old new front others back few is left =
    let first : take n (front ++ back) ≡ take n old.bytes =
    ap (λ l. take n (l ++ back)) is ∙ ap (take n) (append_assoc (take n old.bytes) others back)
    ∙ take-append-le n (take n old.bytes) (others ++ back) (omega (arith, length-take-le n old.bytes few))
    ∙ take_all n (take n old.bytes) (omega (arith, length-take-le n old.bytes few)) in
    let (typed, none) = pressed (take n (front ++ back)) in
    let bytes : old.bytes ≡ bytes_in (map Press (take n (front ++ back))) ++ new.bytes =
    sym (take-append-drop n old.bytes) ∙ ap (λ l. l ++ drop n old.bytes) (sym (typed ∙ first))
    ∙ ap (λ (r : Remaining). bytes_in (map Press (take n (front ++ back))) ++ r.bytes) (sym left) in
    same_left old (before_gift (map Press (take n (front ++ back))) new) bytes
    (omega (arith, none, ap (λ (r : Remaining). r.requests) left))
