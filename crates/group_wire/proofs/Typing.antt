-- Bytes that are typed, one after the other, as deeds.
use Rattle.std.proofs.Common.{◌≡◌, ◌∙◌, ℕ, ◌<◌, Bool, true, if◌then◌else◌, List, [], ◌∷◌, ◌++◌, map, Result, refl, sym, ap, subst, append-nil, append_assoc, arith}
use Rattle.std.proofs.lemmas.Bool.Decides.{nat_tests}
use Rattle.paxos_acceptor.specs.declared.me.Me.{Me}
use Rattle.group_protocol.specs.declared.fault.NodeFault.{NodeFault}
use Rattle.group_protocol.specs.Known.{Known, new_key, on_typed}
use Rattle.group_node.specs.States.{NodeState}
use Rattle.group_node.specs.Deeds.{Press}
use Rattle.group_node.specs.NodeCalls.{Makes, Running, call_of_press, running}
use Rattle.group_wire.specs.Doings.{ActsTyping, DoesAll, pressing, prompts_of, transfers_of}
use Rattle.group_wire.specs.Presses.{AreTyped, HasPressed, HasKeyRoom, after_pressed}
use Rattle.group_wire.specs.Traffic.{grown}
use Rattle.group_wire.proofs.Acting.{nothing_passed}

-- a byte, and then others
pressed_on : (n : Known) (byte : ℕ) (bytes : List ℕ) → after_pressed (on_typed n byte).node bytes ≡ after_pressed n (byte ∷ bytes)
pressed_on n byte bytes = ap (λ waiting. record n { waiting = waiting }) (append_assoc n.waiting (byte ∷ []) bytes)

-- no byte
pressed_none : (n : Known) → after_pressed n [] ≡ n
pressed_none n = ap (λ waiting. record n { waiting = waiting }) (append-nil n.waiting)

-- one byte more
typed_more : (n : Known) (typed : List ℕ) (byte : ℕ) → AreTyped n typed → byte < 256 → HasKeyRoom (after_pressed n typed)
    → AreTyped n (typed ++ byte ∷ [])
typed_more n [] byte all low room = (low, subst HasKeyRoom (pressed_none n) room, tt)
typed_more n (x ∷ typed) byte (first, has, rest) low room =
    (first, has, typed_more (on_typed n x).node typed byte rest low (subst HasKeyRoom (sym (pressed_on n x typed)) room))

-- a byte that is typed after some
pub types_on : {n now new : Known} {before rest others : List ℕ} (byte : ℕ) (has : Bool)
    → (typed : List ℕ) × (before ≡ typed ++ rest) × (now ≡ after_pressed n typed) × AreTyped n typed → rest ≡ byte ∷ others
    → has ≡ true → new ≡ (if has then after_pressed now (byte ∷ []) else now) → (has ≡ true → HasKeyRoom now) → byte < 256
    → (typed : List ℕ) × (before ≡ typed ++ others) × (new ≡ after_pressed n typed) × AreTyped n typed
types_on {n} {now} {new} {before} {rest} {others} byte has (typed, whole, now_is, all) next has_is new_is room low =
    grind (arith, append_assoc, typed_more n typed byte all low (rw now_is at room has_is))

-- nothing passes over the wire
pressing_passes : (me : Me) (n : Known) (bytes : List ℕ) → transfers_of me (pressing n bytes) ≡ []
pressing_passes me n [] = refl
pressing_passes me n (byte ∷ bytes) = pressing_passes me (on_typed n byte).node bytes

-- where there is room for its key a byte is typed
press_made : (n : Known) (byte : ℕ) → HasKeyRoom n → call_of_press n byte ≡ Makes (on_typed n byte) (new_key n byte ∷ [])
press_made n byte room = grind (arith, nat_tests)

-- the deeds
pressing_does : (me : Me) (w : Running) (bytes : List ℕ) → AreTyped w.known bytes
    → DoesAll me w (pressing w.known bytes) (record w { known = after_pressed w.known bytes })
pressing_does me w [] all = ap (λ (n : Known). record w { known = n }) (pressed_none w.known)
pressing_does me w (byte ∷ bytes) (low, room, rest) =
    let mid : Running = record w { known = (on_typed w.known byte).node } in (
      mid,
      (low, refl, rw (press_made w.known byte room) (refl, refl, refl)),
      rw (← pressed_on w.known byte bytes) (pressing_does me mid bytes rest),
    )

-- each byte is a prompt
pressing_prompts : (n : Known) (bytes : List ℕ) → prompts_of (pressing n bytes) ≡ map Press bytes
pressing_prompts n [] = refl
pressing_prompts n (byte ∷ bytes) = ap (λ ds. Press byte ∷ ds) (pressing_prompts (on_typed n byte).node bytes)

-- typing as deeds, whatever has passed
pub typing_acts : {S : Type 0} {old new : NodeState S} {before after : List ℕ} {result : Result (Unit {0}) NodeFault}
    → HasPressed old new before after result → ActsTyping old new before after
typing_acts {old = old} {new} h =
    let me : Me = old.protocol.known.me in
    let w : Running = running old in (
      h.typed,
      h.bytes,
      λ passed_before. (
        pressing w.known h.typed,
        record {
          me = ap (λ (n : Known). n.me) h.known;
          does = rw (h.known, h.progress) (pressing_does me w h.typed h.room);
          traffic = nothing_passed passed_before ∙ ap (grown passed_before) (sym (pressing_passes me w.known h.typed));
          stays = h.same_stop;
        },
        pressing_prompts w.known h.typed,
      ),
    )
