-- Two programs that do the same at pairs of places: the original `p` and another program `q`.
use Rattle.std.specs.Prelude.{◌≡◌, ℕ, ◌≤◌, ◌⊎◌, List, Some, Ok, slice_get, ℤ}
use Rattle.pcode_file.specs.declared.file.Proc.{Proc}
use Rattle.pcode_file.specs.Parts.{Parts, procedure_of}
use Rattle.pcode_ops.specs.declared.instr.Instr.{Instr}
use Rattle.pcode_ops.specs.declared.instr.Instr.TheVariants.{Ujp, Fjp, Efj, Nfj, Xjp, Clp, Cgp, Cip, Rnp, Rbp}
use Rattle.pcode_ops.specs.Decoding.{instr_at}
use Rattle.pcode_ops.specs.Jumps.{jump_in, case_of}
use Rattle.pcode_frozen.specs.declared.pairs.Pair.{Pair}

-- The pairs of places: a procedure of `p` and an offset, and a procedure of `q` and an offset.
abbrev pub PlacePairs : Type 1
PlacePairs = ℕ → ℕ → ℕ → ℕ → Type 0

-- The pairs of places in a list.
abbrev pub listed : List Pair → PlacePairs
listed pairs n i m k =
    (at : ℕ)
    × (slice_get pairs at
    ≡ Some (record { procedure = n; offset = i; other = m; other_offset = k }))

-- The instructions that go on at the next offset and nowhere else.
abbrev pub IsPlain : Instr → Type 0
IsPlain (Ujp sb) = ⊥
IsPlain (Fjp sb) = ⊥
IsPlain (Efj sb) = ⊥
IsPlain (Nfj sb) = ⊥
IsPlain (Xjp low high sb table) = ⊥
IsPlain (Clp n) = ⊥
IsPlain (Cgp n) = ⊥
IsPlain (Cip n) = ⊥
IsPlain (Rnp n) = ⊥
IsPlain (Rbp n) = ⊥
IsPlain _ = Unit {0}

-- The places at which both programs go on alike: they are a pair, or at that of `q` is a UJP to a
-- place which is one with that of `p`.
abbrev pub GoesOn : Parts → PlacePairs → PlacePairs
GoesOn q K n i m k =
    K n i m k
    ⊎ ((sb : ℤ) × (l : ℕ) × (t : ℕ) × (instr_at q.segment k ≡ Ok (Ujp sb, l))
    × (jump_in q m sb l ≡ Some t) × K n i m t)

-- The targets of two jumps, by `sb` and `by`, that end at `j` and `l`: both go on alike there.
pub record AreTargets (p q : Parts) (K : PlacePairs) (n m : ℕ) (sb : ℤ) (j : ℕ) (by : ℤ) (l : ℕ)
    : Type 0 where
  pub target : ℕ
  pub other : ℕ
  pub leads : jump_in p n sb j ≡ Some target
  pub leads_other : jump_in q m by l ≡ Some other
  pub on : GoesOn q K n target m other

-- Two procedures that are called: they have the same sizes and lex level, and both programs go on
-- alike at their ENTERs.
pub record AreCallees (p q : Parts) (K : PlacePairs) (a b : ℕ) : Type 0 where
  pub callee : Proc
  pub other : Proc
  pub named : procedure_of p.procs a ≡ Some callee
  pub named_other : procedure_of q.procs b ≡ Some other
  pub params : callee.params ≡ other.params
  pub vars : callee.vars ≡ other.vars
  pub level : callee.level ≡ other.level
  pub enters : GoesOn q K a callee.enter b other.enter

-- Two procedures of one lex level.
pub record AreLevel (p q : Parts) (n m : ℕ) : Type 0 where
  pub caller : Proc
  pub other : Proc
  pub named : procedure_of p.procs n ≡ Some caller
  pub named_other : procedure_of q.procs m ≡ Some other
  pub level : caller.level ≡ other.level

-- The instructions `a` of procedure `n` of `p`, which ends at `j`, and `b` of procedure `m` of `q`,
-- which ends at `l`: they are the same but for where they lead, and both programs go on alike.
pub data SameInstruction (p q : Parts) (K : PlacePairs) (n m : ℕ) (a : Instr) (j : ℕ) (b : Instr)
    (l : ℕ) : Type 0 where
  -- One instruction that goes on at the next offset.
  Plain : b ≡ a → IsPlain a → GoesOn q K n j m l → SameInstruction p q K n m a j b l
  -- UJP.
  Jumps : (sb by : ℤ) → a ≡ Ujp sb → b ≡ Ujp by → AreTargets p q K n m sb j by l
      → SameInstruction p q K n m a j b l
  -- FJP.
  IfFalse : (sb by : ℤ) → a ≡ Fjp sb → b ≡ Fjp by → AreTargets p q K n m sb j by l
      → GoesOn q K n j m l → SameInstruction p q K n m a j b l
  -- EFJ.
  IfNotEqual : (sb by : ℤ) → a ≡ Efj sb → b ≡ Efj by → AreTargets p q K n m sb j by l
      → GoesOn q K n j m l → SameInstruction p q K n m a j b l
  -- NFJ.
  IfEqual : (sb by : ℤ) → a ≡ Nfj sb → b ≡ Nfj by → AreTargets p q K n m sb j by l
      → GoesOn q K n j m l → SameInstruction p q K n m a j b l
  -- XJP: both go on alike on each word.
  Cases : (low high sb : ℤ) (table : ℕ) (low2 high2 by : ℤ) (other : ℕ)
      → a ≡ Xjp low high sb table → b ≡ Xjp low2 high2 by other
      → ((word : ℕ) → GoesOn q K n (case_of p.segment low high table word) m
      (case_of q.segment low2 high2 other word)) → SameInstruction p q K n m a j b l
  -- CLP.
  Local : (c d : ℕ) → a ≡ Clp c → b ≡ Clp d → AreCallees p q K c d → GoesOn q K n j m l
      → SameInstruction p q K n m a j b l
  -- CGP.
  Global : (c d : ℕ) → a ≡ Cgp c → b ≡ Cgp d → AreCallees p q K c d → GoesOn q K n j m l
      → SameInstruction p q K n m a j b l
  -- CIP, whose static link depends on the caller's level.
  Intermediate : (c d : ℕ) → a ≡ Cip c → b ≡ Cip d → AreCallees p q K c d → AreLevel p q n m
      → GoesOn q K n j m l → SameInstruction p q K n m a j b l
  -- RBP.
  Finishes : (v w : ℕ) → a ≡ Rbp v → b ≡ Rbp w → SameInstruction p q K n m a j b l
  -- RNP, with as many words. The frame below has where it goes on.
  Returns : (words : ℕ) → a ≡ Rnp words → b ≡ Rnp words → 2 ≤ n
      → SameInstruction p q K n m a j b l

-- Two places at which there is the same instruction.
pub record SamePlace (p q : Parts) (K : PlacePairs) (n i m k : ℕ) : Type 0 where
  pub instr : Instr
  pub after : ℕ
  pub other : Instr
  pub after_other : ℕ
  pub here : instr_at p.segment i ≡ Ok (instr, after)
  pub there : instr_at q.segment k ≡ Ok (other, after_other)
  pub same : SameInstruction p q K n m instr after other after_other

-- The claim that two programs are twins by their pairs of places: at each pair there is the same
-- instruction, and both go on at pairs.
abbrev pub AreTwinPrograms : Parts → Parts → PlacePairs → Type 0
AreTwinPrograms p q K = (n i m k : ℕ) → K n i m k → SamePlace p q K n i m k
