-- What follows if a step did not fail.
use Rattle.std.proofs.Common.{◌≡◌, Bool, true, false, cond, Result, Ok, Err, refl}
use Rattle.base.specs.Steps.{◌>>=◌, unless}

-- a step that did not fail: both parts answered
pub bind_ok : {A B E : Type 0} (r : Result A E) (f : A → Result B E) (y : B) → (r >>= f) ≡ Ok y → (x : A) × (r ≡ Ok x) × (f x ≡ Ok y)
bind_ok (Ok x) f y h = (x, refl, h)
bind_ok (Err e) f y h = absurd cc

-- a test that did not fail
pub unless_ok : {A B E : Type 0} (e : E) (b : Bool) (x : A) (f : A → Result B E) (y : B) → (unless e b x >>= f) ≡ Ok y
    → (b ≡ false) × (f x ≡ Ok y)
unless_ok e true x f y h = absurd cc
unless_ok e false x f y h = (refl, h)

-- the last step, where it is a test
pub last_ok : {A E : Type 0} (e : E) (b : Bool) (x y : A) → unless e b x ≡ Ok y → (b ≡ false) × (x ≡ y)
last_ok e true x y h = absurd cc
last_ok e false x y h = (refl, cc)

-- an answer after a test that refuses: the test failed
pub guard_ok : {A E : Type 0} (b : Bool) (e : E) (r : Result A E) (y : A) → cond b (Err e) r ≡ Ok y → (b ≡ false) × (r ≡ Ok y)
guard_ok true e r y h = absurd cc
guard_ok false e r y h = (refl, h)

-- an answer after a test that has to hold: it held
pub pass_ok : {A E : Type 0} (b : Bool) (e : E) (r : Result A E) (y : A) → cond b r (Err e) ≡ Ok y → (b ≡ true) × (r ≡ Ok y)
pass_ok true e r y h = (refl, h)
pass_ok false e r y h = absurd cc

-- one answer has one value
pub ok_is : {A E : Type 0} (x y : A) → (let r : Result A E = Ok x in r) ≡ Ok y → x ≡ y
ok_is x y h = cc
