-- One more offset is marked.
use Rattle.std.proofs.Common.{◌≡◌, ℕ, zero, suc, ◌+◌, ◌<◌, ◌≤◌, ◌⊎◌, inl, inr, Bool, true, false, List, [], ◌∷◌, ◌++◌, length, set, replicate, get_or, refl, sym, ◌∙◌, arith, length-set, length-append, ◌↔◌}
use Rattle.std.proofs.lemmas.Grind.{elements}
use Rattle.std.proofs.lemmas.List.{get_or-replicate, get_or_past, length-replicate}
use Rattle.base.proofs.Lists.{get_last, get_longer, get_added, get_there}
use Rattle.pcode_ops.specs.Walks.{Marks, flagged, IsMarked, IsListing, Adds}

-- a flag that is set counts as one more
flagged_set : (flags : List Bool) (i : ℕ) → i < length flags → get_or flags i false ≡ false → flagged (set flags i true) ≡ flagged flags + 1
flagged_set [] i lt e = absurd (omega arith)
flagged_set (b ∷ bs) zero lt e = grind arith
flagged_set (b ∷ bs) (suc i) lt e = omega (arith, flagged_set bs i (omega arith) e)

-- there are at most as many set flags as flags
pub flagged_within : (flags : List Bool) → flagged flags ≤ length flags
flagged_within [] = omega arith
flagged_within (b ∷ bs) = grind (arith, flagged_within bs)

-- flags that are not set count as none
flagged_none : (n : ℕ) → flagged (replicate n false) ≡ 0
flagged_none zero = refl
flagged_none (suc n) = omega (arith, flagged_none n)

-- nothing found is a listing
pub listing_empty : (n : ℕ) → IsListing (record { flags = replicate n false; found = [] })
listing_empty n = grind (arith, get_or-replicate, get_or_past, length-replicate, flagged_none n)

-- ---- one more offset

-- the marks with one more offset
abbrev marked_with : Marks → ℕ → Marks
marked_with m at = record { flags = set m.flags at true; found = m.found ++ at ∷ [] }

module _ (m : Marks) (at : ℕ) (lt : at < length m.flags) where
  -- marked are the offset and what was marked
  marked_is : (i : ℕ) → IsMarked (marked_with m at) i ↔ (IsMarked m i ⊎ (i ≡ at))
  marked_is i = grind (arith, elements)

  -- the list of what was found is a listing again
  pub listing_push : IsListing m → get_or m.flags at false ≡ false → IsListing (marked_with m at)
  listing_push l un = record {
    listed = λ i h. elim ((marked_is i).0 h) [
      | inl old ↦ let place = l.listed i old in (place.0, get_longer m.found (at ∷ []) place.0 i place.1)
      | inr here ↦ (length m.found, rw here (get_last m.found at))
    ];
    marked = λ k i h. grind (arith, marked_is i, get_added m.found at k i h, l.marked k i);
    distinct = λ j k i a b. grind (arith, l.distinct, l.marked, get_added m.found at j i a, get_added m.found at k i b);
    count = omega (arith, flagged_set m.flags at lt un, l.count, length-append m.found (at ∷ []));
  }

  -- one offset was added
  pub adds_push : Adds (λ i. i ≡ at) m (marked_with m at)
  adds_push = record {
    size = length-set m.flags at true;
    kept = λ i h. (marked_is i).1 (inl h);
    added = λ i e. (marked_is i).1 (inr e);
    only = λ i. (marked_is i).0;
    longer = omega (arith, length-append m.found (at ∷ []));
    front = λ k h. let old = get_there m.found k h in get_longer m.found (at ∷ []) k old.0 old.1 ∙ sym old.1;
  }

  -- a flag that is not set leaves room
  pub listing_less : IsListing m → get_or m.flags at false ≡ false → length m.found < length m.flags
  listing_less l un =
      omega (arith, l.count, flagged_set m.flags at lt un, flagged_within (set m.flags at true), length-set m.flags at true)
