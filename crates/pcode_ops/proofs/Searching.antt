-- The search: what is marked is reached, and at its end what is reached is marked.
use Rattle.std.proofs.Common.{◌≡◌, ℕ, ◌+◌, ◌<◌, ◌≤◌, inl, inr, List, length, Some, Ok, Err, slice_get, refl, sym, ◌∙◌, arith, get_or}
use Rattle.std.proofs.lemmas.Bool.{cases_lt}
use Rattle.std.proofs.lemmas.Option.{slice_get_within, slice_get-get_or}
use Rattle.pcode_ops.specs.declared.fault.OpFault.{OpFault}
use Rattle.pcode_file.specs.declared.file.Proc.{Proc}
use Rattle.pcode_file.specs.Parts.{Parts}
use Rattle.pcode_ops.specs.declared.loading.Onward.{Onward}
use Rattle.pcode_ops.specs.Loading.{look, IsFine, LeadsTo}
use Rattle.pcode_ops.specs.Reach.{Reach, entered, exited, followed}
use Rattle.pcode_ops.specs.Walks.{Marks, IsMarked, IsListing, Adds, IsStarted, IsSearch}

-- one more procedure is marked, the next as a loop reads it
pub started_next : (file : Parts) (items : List Proc) (n : ℕ) (d : Proc) (a b c : Marks) → items ≡ file.procs → n < length items
    → IsStarted file n a → Adds (λ i. i ≡ (get_or items n d).enter) a b → Adds (λ i. i ≡ (get_or items n d).exit) b c
    → IsStarted file (n + 1) c
started_next file items n d a b c same lt s p1 p2 =
    let q : Proc = get_or items n d in
    let e : slice_get file.procs n ≡ Some q = rw (← same) (slice_get-get_or items n d lt) in
    let enter : Reach file q.enter = entered n q e in
    let exit : Reach file q.exit = exited n q e in
    record {
      size = p2.size ∙ p1.size ∙ s.size;
      sound = λ i h. grind (arith, p2.only i h, p1.only i, s.sound i, enter, exit);
      starts = λ k r lt er. grind (arith, s.starts k r, p1.kept, p2.kept, p1.added q.enter refl, p2.added q.exit refl);
    }

-- ---- the search

-- one more offset was looked at, and where it leads is marked
pub search_goes_on : (file : Parts) (done : ℕ) (m n : Marks) (at : ℕ) (o : Onward) → IsSearch file done m → IsListing m
    → slice_get m.found done ≡ Some at
    → look file at ≡ Ok o → Adds (LeadsTo file.segment o) m n → IsSearch file (done + 1) n
search_goes_on file done m n at o s l e f a = record {
  started = record {
    size = a.size ∙ s.started.size;
    sound = λ i h. elim (a.only i h) [
      | inl old ↦ s.started.sound i old
      | inr to ↦ followed at i o (s.started.sound at (l.marked done at e)) f to
    ];
    starts = λ k q lt g. let old = s.started.starts k q lt g in (a.kept q.enter old.0, a.kept q.exit old.1);
  };
  within = omega (arith, slice_get_within m.found done at e, a.longer);
  closed = λ k i j p lt g h to. grind (arith, a.kept j, a.added j, a.front k, s.closed k i j p, slice_get_within m.found done at e);
}

-- what was looked at so far has no fault
abbrev pub AreFine : Parts → ℕ → Marks → Type 0
AreFine file done m = (k i : ℕ) → k < done → slice_get m.found k ≡ Some i → IsFine file i

-- and so has one more
pub fine_goes_on : (file : Parts) (done : ℕ) (m n : Marks) (at : ℕ) (o : Onward) → AreFine file done m
    → slice_get m.found done ≡ Some at → look file at ≡ Ok o → Adds (LeadsTo file.segment o) m n → AreFine file (done + 1) n
fine_goes_on file done m n at o fine e f a k i lt is fault =
    let inside = slice_get_within m.found done at e in
    let old : slice_get m.found k ≡ Some i = sym (a.front k (omega (arith, lt, inside))) ∙ is in
    elim (cases_lt k done) [
      | inl below ↦ fine k i below old fault
      | inr last ↦ λ bad. grind (arith, e, f, old, last, bad)
    ]

-- if all that was found was looked at, what is marked has no fault
pub marked_fine : (file : Parts) (done : ℕ) (m : Marks) → AreFine file done m → IsListing m → length m.found ≤ done
    → (i : ℕ) → IsMarked m i → IsFine file i
marked_fine file done m fine l le i marked =
    let place = l.listed i marked in
    let inside = slice_get_within m.found place.0 i place.1 in
    fine place.0 i (omega (arith, inside)) place.1

-- one more offset was looked at, and is faulty
pub search_passes : (file : Parts) (done : ℕ) (m : Marks) (at : ℕ) (f : OpFault) → IsSearch file done m → slice_get m.found done ≡ Some at
    → look file at ≡ Err f → IsSearch file (done + 1) m
search_passes file done m at f s e g = grind (arith, slice_get_within m.found done at e)

-- when all that was found was looked at, what is reached is marked
pub reach_marked : (file : Parts) (done : ℕ) (m : Marks) → IsSearch file done m → IsListing m → length m.found ≤ done
    → (i : ℕ) → Reach file i → IsMarked m i
reach_marked file done m s l le i (entered k q e) = (s.started.starts k q (slice_get_within file.procs k q e) e).0
reach_marked file done m s l le i (exited k q e) = (s.started.starts k q (slice_get_within file.procs k q e) e).1
reach_marked file done m s l le i (followed from to o r e h) =
    let place = l.listed from (reach_marked file done m s l le from r) in
    let inside = slice_get_within m.found place.0 from place.1 in
    s.closed place.0 from to o (omega (arith, inside)) place.1 e h
