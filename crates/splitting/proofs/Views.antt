-- What one write does to a work list's view.
use Rattle.std.proofs.Common.{◌≡◌, ℕ, ◌<◌, List, map, length, get_or, set, sym, refl, ap, ◌∙◌, inl, inr}
use mathlib.Core.Path.{fun_ext}
use Rattle.std.proofs.lemmas.List.{get_or-map, map-set, length-map, get_or-set_same, get_or-set_other}
use Rattle.std.proofs.lemmas.Bool.{cases_eq, eq-eqb, ne_eqb, cond-true, cond-false}
use Rattle.kinds.specs.Columns.{nought}
use Rattle.kinds.specs.Kinds.{Kind, Of}
use Rattle.splitting.specs.declared.work.WorkEntry.{WorkEntry}
use Rattle.splitting.specs.Work.{view, put, with_end, with_mark}

pub put_same : {X : Type 0} (f : ℕ → X) (k : ℕ) (v : X) (d : ℕ) → d ≡ k → put f k v d ≡ v
unfolding put
put_same f k v d h = cond-true _ _ _ (eq-eqb d k h)

pub put_other : {X : Type 0} (f : ℕ → X) (k : ℕ) (v : X) (d : ℕ) → (d ≡ k → ⊥) → put f k v d ≡ f d
unfolding put
put_other f k v d h = cond-false _ _ _ (ne_eqb d k h)

-- what a list shows by f, once v is written in the place k
module _ {X Y : Type 0} (f : X → Y) (xs : List X) (k : ℕ) (v : X) (z : Y) (h : k < length xs) where
  written : (λ d. get_or (map f (set xs k v)) d z) ≡ put (λ d. get_or (map f xs) d z) k (f v)
  written = fun_ext (λ d. elim (cases_eq d k) [
    | inl e ↦ rw (e, map-set f xs k v) (get_or-set_same (map f xs) k (f v) z (simp length-map h)) ∙ sym (put_same (λ d. get_or (map f xs) d z) k (f v) d e)
    | inr n ↦ rw (map-set f xs k v) (get_or-set_other (map f xs) k d (f v) z n) ∙ sym (put_other (λ d. get_or (map f xs) d z) k (f v) d n)
  ])

  kept : (x : X) → f v ≡ f (get_or xs k x) → ◌≡◌ {A = ℕ → Y} (λ d. get_or (map f (set xs k v)) d z) (λ d. get_or (map f xs) d z)
  kept x e = written ∙ fun_ext (λ d. elim (cases_eq d k) [
    | inl q ↦ put_same _ k (f v) d q ∙ (e ∙ (sym (get_or-map f xs k x z h) ∙ ap (λ j. get_or (map f xs) j z) (sym q)))
    | inr n ↦ put_other _ k (f v) d n
  ])

module _ {V : Type 0} (K : Kind) (columns : V → Of K) (work : List (WorkEntry V)) (k : ℕ) (x : WorkEntry V) (h : k < length work) where
  pub end_written : (total : V) (other : ℕ) →
      view K columns (set work k (record { total = total; other = other; mark = (get_or work k x).mark })) ≡ with_end (view K columns work) k other (columns total)
  unfolding view
  end_written total other =
      let v : WorkEntry V = record { total = total; other = other; mark = (get_or work k x).mark } in
      λ i. record {
        total = written (λ e. columns e.total) work k v (nought K.arity) h i;
        other = written (λ e. e.other) work k v 0 h i;
        mark = kept (λ e. e.mark) work k v 0 h x refl i;
      }

  pub mark_written : (first : ℕ) →
      view K columns (set work k (record { total = (get_or work k x).total; other = (get_or work k x).other; mark = first })) ≡ with_mark (view K columns work) k first
  unfolding view
  mark_written first =
      let v : WorkEntry V = record { total = (get_or work k x).total; other = (get_or work k x).other; mark = first } in
      λ i. record {
        total = kept (λ e. columns e.total) work k v (nought K.arity) h x refl i;
        other = kept (λ e. e.other) work k v 0 h x refl i;
        mark = written (λ e. e.mark) work k v 0 h i;
      }
