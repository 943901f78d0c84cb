use Rattle.std.proofs.Common.{◌≡◌, ◌∙◌, ◌-◌, ℕ, zero, suc, List, [], ◌∷◌, get_or, Option, Some, None, option_map, refl, sym, ap, arith, Bor}
use Rattle.std.specs.Option.{option_copied}
use Rattle.paxos_disk.specs.Disks.{Folder}
use Rattle.paxos_disk.specs.declared.disk.memory_disk.MemoryFile.{MemoryFile}
use Rattle.paxos_disk.specs.MemoryDisks.{file_state, file_state_if, file_states, folder_of, named_in}
use Rattle.paxos_disk.proofs.disk.memory_disk.MemoryDisk.named.Goals as goal
use Rattle.paxos_disk.proofs.disk.memory_disk.MemoryDisk.named.Goals.{then-which-eq0, else-which-eq0+in_ok-file}

-- the state of a file of a list
state_at : (files : List (Option MemoryFile)) (k : ℕ) → get_or (file_states files) k None ≡ file_state_if (get_or files k None)
state_at [] k = refl
state_at (f ∷ files) zero = refl
state_at (f ∷ files) (suc k) = state_at files k

-- a later number
later : (folder : Folder) (which : ℕ) → ¬ (which ≡ 0) → named_in folder which ≡ get_or folder.others (which - 1) None
later folder zero not = absurd (not refl)
later folder (suc k) not = ap (λ n. get_or folder.others n None) (omega arith)

-- the state of what is behind a reference
behind : (r : Option (Bor MemoryFile)) → option_map (λ (file : Bor MemoryFile). file_state file.now) r ≡ file_state_if (option_copied r)
behind None = refl
behind (Some r) = refl

pub returns-in_err-file : goal.returns-in_err-file
returns-in_err-file c =
    let h = c.in_err-file.ensures.lookup in
    let folder : Folder = folder_of c.args.self.now.file c.args.self.now.others.items c.args.self.now.fresh in
    ap (option_map (λ (file : Bor MemoryFile). file_state file.now)) c.from_residual.ensures ∙ ap file_state_if (h.4 (omega arith) None)
    ∙ ap (λ l. file_state_if (get_or l (c.args.which - 1) None)) c.deref.ensures.value
    ∙ sym (state_at c.args.self.now.others.items (c.args.which - 1)) ∙ sym (later folder c.args.which c.if-which-eq0.false)

pub returns : goal.returns
returns c = behind c.as_ref.result ∙ ap file_state_if c.as_ref.ensures.value ∙ elim c.if-which-eq0.branch [
  | then-which-eq0 w ↦
      let folder : Folder = folder_of c.args.self.now.file c.args.self.now.others.items c.args.self.now.fresh in
      ap (λ (b : Bor (Option MemoryFile)). file_state_if b.now) w.file-is ∙ ap (named_in folder) (sym w.if-which-eq0.true)
  | else-which-eq0+in_ok-file w ↦
      let h = w.in_ok-file.ensures.lookup in
      let folder : Folder = folder_of c.args.self.now.file c.args.self.now.others.items c.args.self.now.fresh in
      ap (λ (b : Bor (Option MemoryFile)). file_state_if b.now) w.file-is ∙ ap file_state_if (h.4 (omega arith) None)
      ∙ ap (λ l. file_state_if (get_or l (c.args.which - 1) None)) w.deref.ensures.value
      ∙ sym (state_at c.args.self.now.others.items (c.args.which - 1)) ∙ sym (later folder c.args.which w.if-which-eq0.false)
]
