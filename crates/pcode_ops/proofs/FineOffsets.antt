-- The checks of an offset without fault: what each of them found.
use Rattle.std.proofs.Common.{◌≡◌, ℕ, suc, true, List, [], ◌∷◌, take, Some, slice_get, Result, Ok, Err, refl}
use Rattle.std.proofs.lemmas.Bool.{cond_both}
use Rattle.base.proofs.Steps.{bind_ok}
use Rattle.pcode_file.specs.declared.file.Proc.{Proc}
use Rattle.pcode_file.specs.Parts.{Parts, end_of}
use Rattle.pcode_ops.specs.declared.fault.OpFault.{OpFault}
use Rattle.pcode_ops.specs.declared.instr.Instr.{Instr}
use Rattle.pcode_ops.specs.declared.loading.Onward.{Onward}
use Rattle.pcode_ops.specs.Decoding.{instr_at}
use Rattle.pcode_ops.specs.Loading.{is_in, owner, legal, onward, look, IsFine}
use Rattle.pcode_ops.proofs.LongerCode.{decoded_longer}

-- ---- the owner

-- q is one of the procedures, and the offset lies in its part
abbrev IsOwner : List Proc → ℕ → Proc → Type 0
IsOwner procs i q = (k : ℕ) × (slice_get procs k ≡ Some q) × (is_in q i ≡ true)

-- the owner of an offset is one of the procedures, and the offset lies in its part
pub owner_is : (procs : List Proc) (i : ℕ) (q : Proc) → owner procs i ≡ Ok q → IsOwner procs i q
owner_is [] i q e = absurd cc
owner_is (d ∷ ds) i q e =
    cond_both (is_in d i) (Ok d) (owner ds i) (λ r. r ≡ Ok q → IsOwner (d ∷ ds) i q)
    (λ t h. (let same : d ≡ q = cc in (0, cc, rw same at t)))
    (λ t h. (let found = owner_is ds i q h in (suc found.0, found.1, found.2))) e

-- ---- the checks, one after the other

-- the offset is owned by q, its instruction is legal there, and leads to `leads`
pub record Looked (p : Parts) (i : ℕ) : Type 0 where
  pub q : Proc
  pub instr : Instr
  pub next : ℕ
  pub leads : Onward
  pub owned : owner p.procs i ≡ Ok q
  pub decoded : instr_at (take (end_of q) p.segment) i ≡ Ok (instr, next)
  pub found : instr_at p.segment i ≡ Ok (instr, next)
  pub legal : legal p.procs q instr ≡ Ok tt
  pub onward : onward p.segment q instr next ≡ Ok leads
  pub looked : look p i ≡ Ok leads

-- what leads somewhere has passed each check
looked_by : (p : Parts) (i : ℕ) (r : Result Onward OpFault) → look p i ≡ r → IsFine p i → Looked p i
unfolding look
looked_by p i (Ok leads) e fine =
    let a = bind_ok (owner p.procs i) _ leads e in
    let b = bind_ok (instr_at (take (end_of a.0) p.segment) i) _ leads a.2 in
    let c = bind_ok (legal p.procs a.0 b.0.0) _ leads b.2 in
    record {
      q = a.0;
      instr = b.0.0;
      next = b.0.1;
      leads = leads;
      owned = a.1;
      decoded = b.1;
      found = (decoded_longer p.segment (end_of a.0) i b.0 b.1).0;
      legal = c.1;
      onward = c.2;
      looked = e;
    }
looked_by p i (Err f) e fine = absurd (fine f e)

-- what the checks of an offset without fault found
pub fine_looked : (p : Parts) (i : ℕ) → IsFine p i → Looked p i
fine_looked p i fine = looked_by p i (look p i) refl fine
