-- Lemmas on the order of findings.
use Rattle.std.proofs.Common.{◌≡◌, ℕ, ◌<◌, ◌≤◌, ◌⊎◌, [], ◌∷◌, ap, inl, inr, arith}
use Rattle.refusals.specs.Faults.{Finding}
use Rattle.reading.specs.Refused.{stage, turn, Sooner, Before}

-- in one line the turn decides, and then the byte
pub in_turn : (g f : Finding) → Before g f → stage f ≤ stage g → f.line ≤ g.line → (turn g.number < turn f.number) ⊎ ((turn g.number ≡ turn f.number) × (g.byte < f.byte))
in_turn g f h s l = by_stage (stage g) (stage f) h s
  where
    by_byte : (turn g.number < turn f.number) ⊎ ((turn g.number ≡ turn f.number) × ((g.byte < f.byte) ⊎ ((g.byte ≡ f.byte) × ⊥))) → (turn g.number < turn f.number) ⊎ ((turn g.number ≡ turn f.number) × (g.byte < f.byte))
    by_byte = elim [ inl k ↦ inl k | inr p ↦ elim p.1 [ inl k ↦ inr (p.0, k) | inr q ↦ absurd q.1 ] ]

    by_line : Sooner (g.line ∷ turn g.number ∷ g.byte ∷ []) (f.line ∷ turn f.number ∷ f.byte ∷ []) → (turn g.number < turn f.number) ⊎ ((turn g.number ≡ turn f.number) × (g.byte < f.byte))
    by_line = elim [ inl k ↦ absurd (omega arith) | inr p ↦ by_byte p.1 ]

    by_stage : (a b : ℕ) → Sooner (a ∷ g.line ∷ turn g.number ∷ g.byte ∷ []) (b ∷ f.line ∷ turn f.number ∷ f.byte ∷ []) → b ≤ a → (turn g.number < turn f.number) ⊎ ((turn g.number ≡ turn f.number) × (g.byte < f.byte))
    by_stage a b k m = elim k [ inl j ↦ absurd (omega arith) | inr p ↦ by_line p.1 ]

-- a later line of the same stage is not before
pub later_line : (g f : Finding) → stage f ≤ stage g → f.line < g.line → Before g f → ⊥
later_line g f s l h = go (stage g) (stage f) h s
  where
    by_line : Sooner (g.line ∷ turn g.number ∷ g.byte ∷ []) (f.line ∷ turn f.number ∷ f.byte ∷ []) → ⊥
    by_line = elim [ inl j ↦ omega arith | inr p ↦ let e = p.0 in omega arith ]

    go : (a b : ℕ) → Sooner (a ∷ g.line ∷ turn g.number ∷ g.byte ∷ []) (b ∷ f.line ∷ turn f.number ∷ f.byte ∷ []) → b ≤ a → ⊥
    go a b k m = elim k [ inl j ↦ omega arith | inr p ↦ by_line p.1 ]

pub not_itself : (g f : Finding) → g ≡ f → Before g f → ⊥
not_itself g f e h =
    let b : g.byte ≡ f.byte = ap (λ (x : Finding). x.byte) e in
    let s : stage f ≤ stage g = rw e (omega arith) in
    let l : f.line ≤ g.line = rw e (omega arith) in
    let t : turn g.number ≡ turn f.number = ap (λ (x : Finding). turn x.number) e in
    elim (in_turn g f h s l) [ inl k ↦ omega arith | inr p ↦ let k = p.1 in omega arith ]
