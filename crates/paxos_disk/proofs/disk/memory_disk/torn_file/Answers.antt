use Rattle.std.proofs.lemmas.List.{append-nil, drop_all, length-append, take_all}
use Rattle.std.proofs.lemmas.Bool.{cases_lt}
use Rattle.std.proofs.lemmas.Grind.{common_steps}
use Rattle.std.proofs.Common.{◌≡◌, ◌∙◌, ℕ, ◌+◌, ◌-◌, ◌<◌, suc, if◌then◌else◌, add-one, append_assoc, drop-cons, get_or, Bool, false, List, [], ◌∷◌, ◌++◌, drop, length, min, take, Some, inl, inr, sym, ap, arith}
use Rattle.paxos_disk.specs.MemoryDisks.{lost_from}
use Rattle.paxos_disk.specs.Sectors.{sector_of, torn}
use Rattle.paxos_disk.proofs.disk.memory_disk.torn_file.Goals as goal

-- the first bytes, as many as there are at most
first_of : (count : ℕ) (xs : List ℕ) → take (min count (length xs)) xs ≡ take count xs
first_of count xs = elim (cases_lt count (length xs)) [
  | inl less ↦ ap (λ n. take n xs) (omega (arith, less))
  | inr all ↦ ap (λ n. take n xs) (omega (arith, all)) ∙ take_all (length xs) xs (omega arith) ∙ sym (take_all count xs all)
]

-- one byte more
torn_more : (lost : ℕ → Bool) (items bytes new all : List ℕ) (i x : ℕ) → i < length items → new ≡ bytes ++ x ∷ []
    → x ≡ (if lost (sector_of (length bytes)) then 0 else get_or items i 0) → bytes ++ torn lost (length bytes) (drop i items) ≡ all
    → new ++ torn lost (length new) (drop (i + 1) items) ≡ all
torn_more lost items bytes new all i x within is byte whole =
    let long : length new ≡ suc (length bytes) = ap length is ∙ length-append bytes (x ∷ []) ∙ add-one (length bytes) in
    let next : torn lost (length bytes) (drop i items) ≡ x ∷ torn lost (length new) (drop (i + 1) items) =
    ap (torn lost (length bytes)) (drop-cons items i 0 within) ∙ cc (byte, long, add-one i) in
    ap (λ l. l ++ torn lost (length new) (drop (i + 1) items)) is ∙ append_assoc bytes (x ∷ []) _ ∙ ap (λ l. bytes ++ l) (sym next) ∙ whole

pub returns : goal.returns
returns c =
    let kept : List ℕ = c.args.file.now.kept.items in
    let lost : ℕ → Bool = lost_from (length kept) c.args.lost in
    let all : List ℕ = take c.min.result c.as_slice-more.result.now in
    let none : torn lost (length c.loop-byte.bytes.items) (drop c.loop-byte.byte-index all) ≡ [] =
    ap (torn lost (length c.loop-byte.bytes.items)) (drop_all c.loop-byte.byte-index all c.loop-byte-test.false) in
    let front : all ≡ take c.args.count c.args.file.now.more.items =
    ap (λ n. take n c.as_slice-more.result.now) c.min.ensures ∙ first_of c.args.count c.as_slice-more.result.now
    ∙ ap (take c.args.count) c.as_slice-more.ensures.value in
    ap Some (sym (append-nil c.loop-byte.bytes.items) ∙ ap (λ l. c.loop-byte.bytes.items ++ l) (sym none) ∙ c.loop-byte.invariant.whole
    ∙ ap (λ l. kept ++ torn lost (length kept) l) front)

pub loop-byte-preserved : goal.loop-byte-preserved
loop-byte-preserved c =
    let kept : List ℕ = c.args.file.now.kept.items in
    let lost : ℕ → Bool = lost_from (length kept) c.args.lost in
    let all : List ℕ = take c.min.result c.as_slice-more.result.now in
    let sector : c.saturating_sub-sector.result ≡ sector_of (length c.loop-byte.bytes.items) - sector_of (length kept) =
    grind (arith, common_steps) in
    record {
      whole = torn_more lost all c.loop-byte.bytes.items c.push.new.self.items _ c.loop-byte.byte-index c.byte_left.result
          c.loop-byte-test.true c.in_ok-push.ensures.items
          (c.byte_left.ensures ∙ ap (λ n. if get_or c.args.lost n false then 0 else get_or all c.loop-byte.byte-index 0) sector)
          c.loop-byte.invariant.whole;
      more = grind (arith, common_steps);
    }
