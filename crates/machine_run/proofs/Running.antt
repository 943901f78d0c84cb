-- A run, one step after another.
use Rattle.std.proofs.Common.{◌≡◌, ℕ, suc, ◌+◌, ◌<◌, List, [], ◌++◌, length, Some, None, Ok, Err, refl, ap, append-nil, length-append, arith}
use Rattle.std.proofs.lemmas.Bool.Decides.{nat_tests}
use Rattle.std.proofs.KnownBytes.{Appends-nil, Consumes-nil, Appends-trans, Consumes-trans}
use Rattle.pcode_file.specs.Parts.{Parts}
use Rattle.pcode_machine.specs.Configuration.{State, Configuration, configuration_of, start}
use Rattle.pcode_machine.specs.Runs.{after_steps, out, LeadsIn}
use Rattle.pcode_machine.specs.Turns.{AreQuiet, Makes, WaitsOn}
use Rattle.machine_run.specs.declared.run.RunIo.{RunIo}
use Rattle.machine_run.specs.declared.run.RunIo.TheVariants as io
use Rattle.machine_run.specs.declared.run.Finish.{Finish}
use Rattle.machine_run.specs.Streams.{Streams, HasMoved, HasNoFault, HasReadFault}
use Rattle.machine_run.specs.Run.{LosesByte, HasRunOn, IsRunOver, IsOverAfter, RunsFrom, Stretches, Reached}

-- the laws of runs that a run rests on
pub record Laws : Type 0 where
  pub longer : (p : Parts) (x y : List ℕ) (n : ℕ) (c : Configuration) → LeadsIn p x n c → LeadsIn p (x ++ y) n c
  pub there : (p : Parts) (x : List ℕ) (n : ℕ) (c : Configuration) → LeadsIn p x n c → after_steps p x n ≡ c
  pub quiet : (p : Parts) (x : List ℕ) (n m r : ℕ) (o : List ℕ) (s t : State) → LeadsIn p x n (configuration_of s r o)
      → AreQuiet p m s t → LeadsIn p x (n + m) (configuration_of t r o)

-- what moved, one after another
moved_on : {from mid to : Streams} {a b c d : List ℕ} → HasMoved from mid a b → HasMoved mid to c d → HasMoved from to (a ++ c) (b ++ d)
moved_on h k = grind (arith, Consumes-trans, Appends-trans)

-- ---- steps

pub Reached-start : (p : Parts) (e : Streams) → Reached p e e 0 (start p)
unfolding LeadsIn
Reached-start p e =
    record { input = []; output = []; made = refl; moved = grind (arith, Consumes-nil, Appends-nil); faultless = grind arith }

module _ {p : Parts} {from mid : Streams} {n : ℕ} {s : State} (laws : Laws) (r : Reached p from mid n s) where
  -- a step that takes and writes these bytes
  one_more : {to : Streams} {new : State} {took wrote : List ℕ} → Makes p s new took wrote → HasMoved mid to took wrote
      → HasNoFault mid to → Reached p from to (suc n) new
  unfolding LeadsIn
  one_more {took = took} {wrote} m h f = record {
    input = r.input ++ took;
    output = r.output ++ wrote;
    made = (
      configuration_of s (length r.input) r.output,
      laws.longer p r.input took n _ r.made,
      rw length-append (m.steps r.input r.output),
    );
    moved = moved_on r.moved h;
    faultless = grind (arith, r.faultless);
  }

  -- steps that read and write nothing
  quiet_on : {t : State} (k : ℕ) → AreQuiet p k s t → Reached p from mid (n + k) t
  quiet_on k h = grind arith

  -- a stretch that takes and writes nothing
  idle : {to : Streams} → HasMoved mid to [] [] → HasNoFault mid to → Reached p from to n s
  idle h f = grind (arith, append-nil, moved_on r.moved h)

  -- ---- what was reached, as the run says

  -- the configuration after them
  there : after_steps p r.input n ≡ configuration_of s (length r.input) r.output
  there = laws.there p r.input n _ r.made

  ran : HasRunOn p r.input n
  ran = record { made = rw there r.made; taken = ap (λ (c : Configuration). c.read) there }

  output : out p r.input n ≡ r.output
  unfolding out
  output = ap (λ (c : Configuration). c.output) there

  moved : HasMoved from mid r.input (out p r.input n)
  moved = rw output r.moved

  pub done : {steps : ℕ} (f : Finish) → IsRunOver p mid.reader r.input n steps f → RunsFrom p from mid steps (Ok f)
  done f h = record { input = r.input; n = n; run = ran; moved = moved; faultless = r.faultless; over = h }

  -- the run is over with its last stretch, which made m of at most `most` steps
  over : (steps m most : ℕ) (f : Finish) → IsOverAfter p most m s mid.reader f → n + most ≡ steps + m
      → IsRunOver p mid.reader r.input n steps f
  over steps m most f h all = grind (arith, nat_tests)

  -- a byte was lost in the next step
  lost : {to : Streams} {steps : ℕ} {new : State} → LosesByte p s new mid to → n < steps → RunsFrom p from to steps (Err io.Write)
  lost {new = new} t less = record {
    input = r.input;
    n = n;
    few = less;
    run = ran;
    took = t.took;
    byte = t.byte;
    state = new;
    next = rw (there, output) (t.makes.steps r.input r.output);
    moved = simp append-nil at (moved_on moved t.moved);
    fault = grind (arith, r.faultless, t.fault);
  }

  -- a read failed after these steps
  unread : {to : Streams} {steps : ℕ} → WaitsOn p s → HasMoved mid to [] [] → HasReadFault mid to → n < steps
      → RunsFrom p from to steps (Err io.Read)
  unread w h f less = grind (arith, append-nil, ran, there, moved_on moved h, w.waits r.input r.output)

-- ---- the same by what a stretch of the run says

module _ {p : Parts} {from mid : Streams} {n : ℕ} {old : State} (laws : Laws) (r : Reached p from mid n old) (to : Streams)
    (new : State) where
  pub next_stretch : (m most : ℕ) → Stretches p most old new mid to (Ok (m, None)) → Reached p from to (n + m) new
  next_stretch m most (k, u, took, wrote, is, few, quiet, makes, moved, faultless) =
      grind (arith, one_more laws (quiet_on laws r k quiet) makes moved faultless)

  pub last_stretch : {steps : ℕ} (m most : ℕ) (f : Finish) → Stretches p most old new mid to (Ok (m, Some f)) → n + most ≡ steps
      → RunsFrom p from to steps (Ok f)
  last_stretch m most f (quiet, rests, moved, faultless) all =
      let last = idle laws (quiet_on laws r m quiet) moved faultless in
      done laws last f (over laws last _ m most f rests (omega arith))

  pub failed_stretch : {q : Parts} {steps : ℕ} (most : ℕ) (e : RunIo) → q ≡ p → Stretches q most old new mid to (Err e) → n + most ≡ steps
      → RunsFrom p from to steps (Err e)
  failed_stretch most io.Memory same t all = absurd t
  failed_stretch most io.Read same t all =
      let (k, few, quiet, waits, moved, fault) = rw same at t in
      unread laws (quiet_on laws r k quiet) waits moved fault (omega arith)
  failed_stretch most io.Write same t all =
      let (k, u, few, quiet, loses) = rw same at t in
      lost laws (quiet_on laws r k quiet) loses (omega arith)
