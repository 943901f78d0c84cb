-- Bodies: what is read was written, and what is written is read.
use Rattle.std.proofs.Common.{◌≡◌, ℕ, zero, suc, ◌<◌, ◌≤◌, leb, ltb, List, ◌++◌, length, Ok, IfOk, refl, arith, lit<}
use Rattle.std.proofs.lemmas.Bool.{le-ltb, lt-leb}
use Rattle.std.proofs.lemmas.Bool.Decides.{nat_tests}
use Rattle.paxos_msg.specs.declared.bodies.TheConstants.{LAST_KIND}
use Rattle.paxos_msg.specs.declared.fault.WireFault.TheVariants as fault
use Rattle.paxos_msg.specs.Batches.{Body}
use Rattle.paxos_msg.specs.declared.message.Body.TheVariants.{Promise}
use Rattle.paxos_msg.specs.Bodies.{IsBody, kind_of, body_bytes, prepare_at, promise_at, accept_at, accepted_at, refused_at, submit_at, ask_at, tell_at, body_at}
use Rattle.paxos_msg.specs.Fits.{AreBytes}
use Rattle.paxos_msg.specs.Spelling.{number_bytes}
use Rattle.paxos_msg.specs.Reading.{place_at}
use Rattle.paxos_msg.proofs.Fields.{Exact, step, step_if, one_byte, ballots, own_ballots, places}
use Rattle.paxos_msg.proofs.ValuesRead.{values, own_values}
use Rattle.paxos_msg.proofs.VotesRead.{votes}

-- a place of a message, and one up to which
place : Exact (place_at 65535) (λ n. n ≤ 65535) number_bytes
place = places 65535 (lit< tt)

end : Exact (place_at 65536) (λ n. n ≤ 65536) number_bytes
end = places 65536 (lit< tt)

module _ (size sender : ℕ) where
  -- a body that is read fits, is of the kind, and is spelled there
  body_found : (kind : ℕ) (bytes : List ℕ) → 0 < kind → kind ≤ LAST_KIND → AreBytes bytes → IfOk (body_at size kind sender bytes)
      (λ p. (IsBody size sender p.0 × (kind_of p.0 ≡ kind)) × (bytes ≡ body_bytes p.0 ++ p.1) × AreBytes p.1)
  unfolding body_at prepare_at promise_at accept_at accepted_at refused_at submit_at ask_at tell_at
  body_found (suc zero) bytes above most are = grind (arith, nat_tests, own_ballots size sender, place)
  body_found (suc (suc zero)) bytes above most are =
      step (ballots size) bytes _ _ are (λ b later good parts are.
      step place later _ _ are (λ first later low parts' are.
      step_if end later fault.Place (λ upto. leb upto first) _ _ are (λ upto later high parts'' are order.
      step_if one_byte later fault.Count (λ count. ltb 8 count) _ _ are (λ count later small parts''' are few.
      let reads = votes size b first upto high count 0 first (omega arith) (omega arith) (λ k le above. above) in
      step reads later _ _ are (λ reported later in_range last are.
      grind (arith, nat_tests))))))
  body_found (suc (suc (suc zero))) bytes above most are = grind (arith, nat_tests, own_ballots size sender, place, values size)
  body_found (suc (suc (suc (suc zero)))) bytes above most are = grind (arith, nat_tests, ballots size, place, values size)
  body_found (suc (suc (suc (suc (suc zero))))) bytes above most are = grind (arith, nat_tests, ballots size)
  body_found (suc (suc (suc (suc (suc (suc zero)))))) bytes above most are = grind (arith, nat_tests, own_values size sender)
  body_found (suc (suc (suc (suc (suc (suc (suc zero))))))) bytes above most are = grind (arith, nat_tests, end)
  body_found (suc (suc (suc (suc (suc (suc (suc (suc zero)))))))) bytes above most are = grind (arith, nat_tests, place, values size)
  body_found _ bytes above most are = absurd (omega arith)

  -- a body that fits is read again
  body_again : (body : Body) (rest : List ℕ) → IsBody size sender body
      → body_at size (kind_of body) sender (body_bytes body ++ rest) ≡ Ok (body, rest)
  unfolding body_at prepare_at promise_at accept_at accepted_at refused_at submit_at ask_at tell_at
  body_again (Promise b first upto reported) rest h =
      let reads = votes size b first upto h.2 (length reported) 0 first (omega arith) (omega arith) (λ k le above. above) in
      let (good, low, high, order, few, in_range) = h in
      rw (
        (ballots size).again,
        place.again,
        end.again,
        lt-leb upto first order,
        le-ltb 8 (length reported) few,
        reads.again reported rest (in_range, refl),
      ) refl
  body_again other rest h =
      grind (arith, nat_tests, ballots size, own_ballots size sender, place.again, end.again, values size, own_values size sender)

  -- a body is read as it is spelled
  pub bodies : (kind : ℕ) → 0 < kind → kind ≤ LAST_KIND
      → Exact (body_at size kind sender) (λ body. IsBody size sender body × (kind_of body ≡ kind)) body_bytes
  bodies kind above most = record {
    found = λ bytes. body_found kind bytes above most;
    again = λ body rest h. rw (← h.1) (body_again body rest h.0);
  }
