-- A file ends in one footer.
use Rattle.std.proofs.Common.{◌≡◌, ◌∙◌, ℕ, ◌+◌, List, ◌++◌, length, drop, sym, ap, arith}
use Rattle.std.proofs.lemmas.List.{length-append}
use Rattle.std.proofs.Math.Seq.{drop-append_seam}

-- the same bytes are cut at the same place, if the last parts have one length
pub same_end : (bytes body footer b f : List ℕ) → bytes ≡ body ++ footer → bytes ≡ b ++ f → length f ≡ length footer → f ≡ footer
same_end bytes body footer b f one two sizes =
    let size_one : length bytes ≡ length body + length footer = ap length one ∙ length-append body footer in
    let size_two : length bytes ≡ length b + length f = ap length two ∙ length-append b f in
    let same : length b ≡ length body = omega (arith, size_one, size_two, sizes) in
    sym (drop-append_seam b f) ∙ ap (λ l. drop (length b) l) (sym two) ∙ ap (λ k. drop k bytes) same
    ∙ ap (λ l. drop (length body) l) one ∙ drop-append_seam body footer
