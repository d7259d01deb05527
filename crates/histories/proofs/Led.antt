-- What a list of calls does to a sheet.
use Rattle.std.proofs.Common.{◌≡◌, ℕ, ◌+◌, ◌<◌, List, [], ◌∷◌, map, reverse, length, get_or, take, drop, Ok, Err, Result, sym, refl, ap, ◌∙◌, subst, inl, inr}
use Rattle.std.proofs.lemmas.List.{take-map, drop-map, take_more, map_push, reverse-append}
use Rattle.kinds.specs.Kinds.{Kind, Of}
use Rattle.transform.specs.Windows.{Record}
use Rattle.sheets.specs.declared.sheet.Stop.{Stop}
use Rattle.sheets.specs.declared.sheet.Stop.TheVariants.{Refused, Unreachable}
use Rattle.histories.specs.declared.steps.Step.{Step}
use Rattle.sheets.specs.Takes.{State, Take}
use Rattle.sheets.specs.Calls.{Call, taking}
use Rattle.sheets.specs.Marks.{Marked, Stays, Marking}
use Rattle.sheets.specs.History.{Calls, Continues}
use Rattle.sheets.specs.Promise.{Promise, Keeps}
use Rattle.histories.specs.Steps.{call_of, calls_of, Done, Leaves, Lead, LeavesWork, LeadWork, GoesOnWork}

-- a call that marks leaves the work list
pub marking_goes_on : {A W : Type 0} (K : Kind) (c : Call K) (s t : State) (w : List W) (u v : A) (r : Result ℕ Stop) → (Stays s t → Marked {K = K} c s.count s.slots t.slots → Done K c s t) → (v ≡ u → t ≡ s) →
    Marking K c s t u v r → Continues K c s t r → Keeps K c s t → GoesOnWork K c s t w w
marking_goes_on K c s t w u v (Ok n) d y (a, b, m, e) f k h S = (k h S, inl (a, d b m, refl))
marking_goes_on K c s t w u v (Err (Refused r)) d y (g, e) f k h S = (k h S, inr ((r, g), y e, refl))
marking_goes_on K c s t w u v (Err Unreachable) d y e f k h S = absurd ((f h S).1 tt)

-- a take with a part of a work list, from the list w to the list x
pub take_goes_on : {A W : Type 0} (K : Kind) (s t : State) (xs : Record K) (entries : ℕ) (w x : List W) (u v : A) (i o : List W) (r : Result ℕ Stop) → (v ≡ u → t ≡ s) → (o ≡ i → x ≡ w) → drop entries x ≡ drop entries w →
    Take K xs entries s t u v i o r → Continues K (taking xs entries) s t r → Keeps K (taking xs entries) s t → GoesOnWork K (taking xs entries) s t w x
take_goes_on K s t xs entries w x u v i o (Ok n) y z q (a, e, d) f k h S = (k h S, inl (a, d, q))
take_goes_on K s t xs entries w x u v i o (Err (Refused r)) y z q (l, e, d) f k h S = (k h S, inr ((r, l.ground), y e, z d))
take_goes_on K s t xs entries w x u v i o (Err Unreachable) y z q e f k h S = absurd e

-- a take by plain numbers is a take of that part of the totals
pub part_goes_on : {V W : Type 0} (K : Kind) (columns : V → Of K) (s t : State) (w x : List W) (totals record' : List V) (skipped n entries room : ℕ) → record' ≡ take n (drop skipped totals) → entries ≡ room →
    GoesOnWork K (taking (map columns record') entries) s t w x → GoesOnWork K (taking (take n (drop skipped (map columns totals))) room) s t w x
part_goes_on K columns s t w x totals record' skipped n entries room e f G =
    subst (λ xs. GoesOnWork K (taking xs room) s t w x) (ap (map columns) e ∙ sym (take-map columns n (drop skipped totals)) ∙ ap (take n) (sym (drop-map columns skipped totals)))
    (subst (λ m. GoesOnWork K (taking (map columns record') m) s t w x) f G)

-- a list of calls, one call after another
pub calls_more : (K : Kind) (xs : Record K) (room : ℕ) (steps : List Step) (i : ℕ) (d : Step) → i < length steps → calls_of K xs room (take (i + 1) steps) ≡ call_of K xs room (get_or steps i d) ∷ calls_of K xs room (take i steps)
calls_more K xs room steps i d h =
    ap (λ l. reverse (map (call_of K xs room) l)) (take_more steps i d h) ∙
    ap reverse (map_push (call_of K xs room) (take i steps) (get_or steps i d)) ∙
    reverse-append (map (call_of K xs room) (take i steps)) (call_of K xs room (get_or steps i d) ∷ [])

pub led_more : {W : Type 0} (K : Kind) (xs : Record K) (room have : ℕ) (steps : List Step) (i : ℕ) (d : Step) (start s t : State) (w u v : List W) → i < length steps → have ≡ room →
    Promise K (calls_of K xs room (take i steps)) s → LeadWork K (calls_of K xs room (take i steps)) start s w u → GoesOnWork K (call_of K xs have (get_or steps i d)) s t u v →
    Promise K (calls_of K xs room (take (i + 1) steps)) t × LeadWork K (calls_of K xs room (take (i + 1) steps)) start t w v
led_more K xs room have steps i d start s t w u v h e P L G =
    let G' : GoesOnWork K (call_of K xs room (get_or steps i d)) s t u v = subst (λ n. GoesOnWork K (call_of K xs n (get_or steps i d)) s t u v) e G in
    let g = G' (calls_of K xs room (take i steps)) P.shows in (
      subst (λ c. Promise K c t) (sym (calls_more K xs room steps i d h)) g.0,
      subst (λ c. LeadWork K c start t w v) (sym (calls_more K xs room steps i d h)) (s, u, L, g.1),
    )

-- what is said of sheet and work list, said of the sheet alone
leaves_sheet : {W : Type 0} (K : Kind) (c : Call K) (s t : State) (w v : List W) → LeavesWork K c s t w v → Leaves K c s t
leaves_sheet K c s t w v (inl l) = inl (l.0, l.1)
leaves_sheet K c s t w v (inr l) = inr (l.0, l.1)

pub lead_sheet : {W : Type 0} (K : Kind) (h : Calls K) (s t : State) (w v : List W) → LeadWork K h s t w v → Lead K h s t
lead_sheet K [] s t w v l = l.0
lead_sheet K (c ∷ h) s t w v (m, u, l, e) = (m, lead_sheet K h s m w u l, leaves_sheet K c m t u v e)
