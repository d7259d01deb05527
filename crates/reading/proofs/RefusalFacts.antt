-- What a refusal says of the tests that made it.
use Rattle.std.proofs.Common.{◌≡◌, ℕ, Bool, true, false, cond, ◌⊎◌, List, ◌∷◌, Some, None, Ok, Err, Option, Result, refl, ap, inl, inr, arith}
use Rattle.refusals.specs.Faults.{Finding}
use Rattle.reading.specs.Refused.{finding}
use Rattle.reading.specs.Traces.{unless_at, then, push}

pub not_refused : {X E : Type 0} (x : X) (e : E) → Ok x ≡ Err e → ⊥
not_refused x e h = let z : ◌≡◌ {A = ℕ} 0 1 = cc in omega arith

pub then_err : {X Y : Type 0} (a : Result X Finding) (b : Result Y Finding) (f : Finding) → then a b ≡ Err f → (a ≡ Err f) ⊎ ((x : X) × (a ≡ Ok x) × (b ≡ Err f))
then_err (Ok x) b f h = inr (x, refl, h)
then_err (Err e) b f h = let k : e ≡ f = cc in inl (ap Err k)

pub cond_err : {X : Type 0} (t : Bool) (a : Result X Finding) (e f : Finding) → cond t a (Err e) ≡ Err f → ((t ≡ true) × (a ≡ Err f)) ⊎ ((t ≡ false) × (f ≡ e))
cond_err true a e f h = inl (refl, h)
cond_err false a e f h = let k : f ≡ e = cc in inr (refl, k)

pub cond_not_err : {X : Type 0} (t : Bool) (a : Result X Finding) (e f : Finding) → cond t (Err e) a ≡ Err f → ((t ≡ true) × (f ≡ e)) ⊎ ((t ≡ false) × (a ≡ Err f))
cond_not_err true a e f h = let k : f ≡ e = cc in inl (refl, k)
cond_not_err false a e f h = inr (refl, h)

pub unless_err : {X : Type 0} (number line : ℕ) (o : Option ℕ) (r : Result X Finding) (f : Finding) → unless_at number line o r ≡ Err f → ((byte : ℕ) × (o ≡ Some byte) × (f ≡ finding number line byte)) ⊎ ((o ≡ None) × (r ≡ Err f))
unless_err number line None r f h = inr (refl, h)
unless_err number line (Some byte) r f h = let k : f ≡ finding number line byte = cc in inl (byte, refl, k)

pub push_err : {X : Type 0} (a : Result X Finding) (b : Result (List X) Finding) (f : Finding) → push a b ≡ Err f → (a ≡ Err f) ⊎ ((x : X) × (a ≡ Ok x) × (b ≡ Err f))
push_err (Ok x) (Ok xs) f h = absurd (not_refused (x ∷ xs) f h)
push_err (Ok x) (Err e) f h = let k : e ≡ f = cc in inr (x, refl, ap Err k)
push_err (Err e) b f h = let k : e ≡ f = cc in inl (ap Err k)
