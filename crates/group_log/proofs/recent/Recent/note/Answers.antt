use Rattle.std.proofs.Common.{◌≡◌, ◌∙◌, ℕ, ◌∷◌, List, map, take, sym, ap, arith, refl}
use Rattle.std.proofs.lemmas.List.{take-map}
use Rattle.group_log.proofs.recent.Recent.note.Goals as goal

pub returns-clause-ok : goal.returns-clause-ok
returns-clause-ok c =
    let kept = c.self.inside.kept.items in
    let bytes = c.in_ok-bytes.bytes in
    let items : c.push_front-oldest.new.self.items ≡ take 1024 (bytes ∷ kept) =
    ap (λ b. b.items) c.push_front-oldest.ensures.items ∙ ap (λ n. take n (bytes ∷ kept)) c.self.invariant
    in (
      c.in_default.ensures.missing refl,
      ap (map (λ v. v.items)) items ∙ sym (take-map (λ v. v.items) 1024 (bytes ∷ kept))
          ∙ ap (λ b. take 1024 (b ∷ map (λ v. v.items) kept)) c.in_ok-bytes.ensures.items
          ∙ ap (λ old. take 1024 (c.args.datagram.now ∷ old)) c.self.view_is,
    )
