-- What an accepted take may rely on.
use Rattle.std.proofs.Common.{◌≡◌, ℕ, zero, suc, ◌+◌, ◌<◌, ◌≤◌, true, length, None, inl, inr, arith}
use Rattle.std.proofs.lemmas.Bool.{cases_Bool, cases_lt}
use Rattle.kinds.specs.Columns.{within}
use Rattle.kinds.specs.Kinds.{Kind}
use Rattle.refusals.specs.declared.refusal.Refusal.TheVariants.{TooManyDays, MayNotEnter, WorkTooShort, ShelfTooSmall}
use Rattle.transform.specs.Windows.{Record, trace}
use Rattle.splitting.specs.Records.{Accepted, BarredDay}

module _ (K : Kind) (xs : Record K) (entries capacity : ℕ) (A : Accepted K xs entries capacity) where
  pub accepted_few : length xs ≤ 1000
  accepted_few = elim (cases_lt 1000 (length xs)) [ inl h ↦ absurd (A TooManyDays h) | inr h ↦ h ]

  pub accepted_room : length xs + 2 ≤ entries
  accepted_room = elim (cases_lt entries (length xs + 2)) [ inl h ↦ absurd (A WorkTooShort h) | inr h ↦ h ]

  pub accepted_slots : length xs ≤ capacity
  accepted_slots = elim (cases_lt capacity (length xs)) [ inl h ↦ absurd (A ShelfTooSmall h) | inr h ↦ h ]

  enter_below : (n d : ℕ) → d < n → 1 ≤ d → d ≤ length xs → within K.arity K.bound (trace K xs d) ≡ true
  enter_below zero d h = absurd (omega arith)
  enter_below (suc n) d h = elim (cases_lt d n) [
    | inl l ↦ enter_below n d l
    | inr l ↦ λ s e. elim (cases_Bool (within K.arity K.bound (trace K xs d))) [
      | inl q ↦ q
      | inr q ↦ absurd (A (MayNotEnter d) (record { starts = s; ends = e; barred = q; first = λ i f g. enter_below n i (omega arith) f (omega arith) }))
    ]
  ]

  pub accepted_enter : BarredDay K xs None
  accepted_enter d = enter_below (suc d) d (omega arith)
