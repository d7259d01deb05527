-- What a work list holds, place by place.
use Rattle.std.specs.Prelude.{◌≡◌, ℕ, cond, List, map, ◌==◌, slice_index, slice_index_or}
use Rattle.kinds.specs.Columns.{nought}
use Rattle.kinds.specs.Kinds.{Kind, Of}
use Rattle.splitting.specs.declared.work.WorkEntry.{WorkEntry}

-- an entry with which a caller fills a work list: zero, and no days
pub record Cleared {V : Type 0} (K : Kind) (columns : V → Of K) (e : WorkEntry V) : Type 0 where
  pub total : columns e.total ≡ nought K.arity
  pub other : e.other ≡ 0
  pub mark : e.mark ≡ 0

-- the totals and the other ends by day, the marks by their numbers
pub record View (X : Type 0) : Type 0 where
  pub total : ℕ → X
  pub other : ℕ → ℕ
  pub mark : ℕ → ℕ

unfoldable pub view : {V : Type 0} (K : Kind) → (V → Of K) → List (WorkEntry V) → View (Of K)
view K columns work =
    record {
      total = λ d. slice_index_or (map (λ e. columns e.total) work) d (nought K.arity);
      other = λ d. slice_index (map (λ e. e.other) work) d;
      mark = λ n. slice_index (map (λ e. e.mark) work) n;
    }

-- f with v in the place k
unfoldable pub put : {X : Type 0} → (ℕ → X) → ℕ → X → ℕ → X
put f k v d = cond (d == k) v (f d)

-- one end of a run written, a mark written, and both ends of a run written
abbrev pub with_end : {X : Type 0} → View X → ℕ → ℕ → X → View X
with_end v day other total =
    record { total = put v.total day total; other = put v.other day other; mark = v.mark }

abbrev pub with_mark : {X : Type 0} → View X → ℕ → ℕ → View X
with_mark v number first = record { total = v.total; other = v.other; mark = put v.mark number first }

abbrev pub with_run : {X : Type 0} → View X → ℕ → ℕ → X → View X
with_run v first last total = with_end (with_end v first last total) last first total
