-- The totals of a slice of values, day by day.
use Rattle.std.proofs.Common.{◌≡◌, ℕ, suc, ◌<◌, List, map, length, get_or, sym, ap, ◌∙◌}
use Rattle.std.proofs.lemmas.List.{get_or-map}
use Rattle.kinds.specs.Columns.{nought}
use Rattle.kinds.specs.Kinds.{Kind, Of}
use Rattle.transform.specs.Windows.{trace}

pub trace_at : {V : Type 0} (K : Kind) (columns : V → Of K) (xs : List V) (i : ℕ) (x : V) → i < length xs → x ≡ get_or xs i x → trace K (map columns xs) (suc i) ≡ columns x
unfolding trace
trace_at K columns xs i x h e = get_or-map columns xs i x (nought K.arity) h ∙ ap columns (sym e)
