-- The edges that a strip meets, one by one, and what its steps need.
use Rattle.std.proofs.Common.{◌≡◌, ◌⊎◌, ◌↔◌, ◌++◌, inl, inr, ℕ, ◌+◌, ◌<◌, ◌≤◌, List, [], ◌∷◌, length, get_or, take, sym, subst, ⊎_elim}
use Rattle.std.specs.Prelude.{ℤ, All, AllPairs, Contains}
use Rattle.std.proofs.lemmas.List.{take_all, take_more}
use Rattle.std.proofs.lemmas.List.Elements.{All-contains, Contains-append_left, Contains-push, Contains-push_cases}
use Rattle.geom.specs.declared.point.Pt.{Pt}
use Rattle.geom.specs.declared.directed.DirectedEdge.{DirectedEdge}
use Rattle.geom.specs.Directed.{IsDirectedBefore}
use Rattle.geom.specs.Limit.{AreInLimit}
use Rattle.geom.specs.Rings.{Closes}
use Rattle.geom.proofs.Lists.{in_contains}
use Rattle.geom.proofs.Owners.{all_in}
use Rattle.polygonize.specs.Closing.{ClosesAt, IsFirstOpen}
use Rattle.polygonize.specs.Next.{edge_at}
use Rattle.strip_polygons.specs.Strips.{AreMet, BeginsIn}

-- ---- one edge after another
module _ (cuts : List ℤ) (strip : ℕ) (waiting : List DirectedEdge) where
  -- met are those that wait and those of the first edges that begin in the strip
  abbrev pub AreMetAmong : List DirectedEdge → List DirectedEdge → Type 0
  AreMetAmong first met = (e : DirectedEdge) → Contains met e ↔ (Contains waiting e ⊎ (Contains first e × BeginsIn cuts strip e))

  pub one_met : (first met : List DirectedEdge) (d : DirectedEdge) → AreMetAmong first met → BeginsIn cuts strip d
      → AreMetAmong (first ++ d ∷ []) (met ++ d ∷ [])
  one_met first met d a b e = (
    (λ i. ⊎_elim
        (λ (j : Contains met e). ⊎_elim (λ (w : Contains waiting e). inl w)
        (λ (f : Contains first e × BeginsIn cuts strip e). inr (Contains-append_left first (d ∷ []) e f.0, f.1)) ((a e).0 j))
        (λ (q : d ≡ e). inr (subst (Contains (first ++ d ∷ [])) q (Contains-push first d), subst (BeginsIn cuts strip) q b))
        (Contains-push_cases met d e i)),
    (λ o. ⊎_elim (λ (w : Contains waiting e). Contains-append_left met (d ∷ []) e ((a e).1 (inl w)))
        (λ (f : Contains (first ++ d ∷ []) e × BeginsIn cuts strip e). ⊎_elim
        (λ (j : Contains first e). Contains-append_left met (d ∷ []) e ((a e).1 (inr (j, f.1))))
        (λ (q : d ≡ e). subst (Contains (met ++ d ∷ [])) q (Contains-push met d))
        (Contains-push_cases first d e f.0)) o),
  )

  pub none_met : (first met : List DirectedEdge) (d : DirectedEdge) → AreMetAmong first met → ¬ (BeginsIn cuts strip d)
      → AreMetAmong (first ++ d ∷ []) met
  none_met first met d a n e = (
    (λ i. ⊎_elim (λ (w : Contains waiting e). inl w)
        (λ (f : Contains first e × BeginsIn cuts strip e). inr (Contains-append_left first (d ∷ []) e f.0, f.1)) ((a e).0 i)),
    (λ o. ⊎_elim (λ (w : Contains waiting e). (a e).1 (inl w))
        (λ (f : Contains (first ++ d ∷ []) e × BeginsIn cuts strip e). ⊎_elim
        (λ (j : Contains first e). (a e).1 (inr (j, f.1)))
        (λ (q : d ≡ e). absurd (n (subst (BeginsIn cuts strip) (sym q) f.1)))
        (Contains-push_cases first d e f.0)) o),
  )

  -- the directed edge at a place is met or not
  pub next_met : (directed met more : List DirectedEdge) (i : ℕ) (d : DirectedEdge) → i < length directed → more ≡ met ++ get_or directed i d ∷ []
      → AreMetAmong (take i directed) met → BeginsIn cuts strip (get_or directed i d) → AreMetAmong (take (i + 1) directed) more
  next_met directed met more i d l e a b = rw (take_more directed i d l, e) (one_met (take i directed) met (get_or directed i d) a b)

  pub next_not_met : (directed met more : List DirectedEdge) (i : ℕ) (d : DirectedEdge) → i < length directed → more ≡ met
      → AreMetAmong (take i directed) met → ¬ (BeginsIn cuts strip (get_or directed i d)) → AreMetAmong (take (i + 1) directed) more
  next_not_met directed met more i d l e a n = rw (take_more directed i d l, e) (none_met (take i directed) met (get_or directed i d) a n)

  -- at last all directed edges were looked at
  pub all_met : (directed met sorted : List DirectedEdge) (i : ℕ) → length directed ≤ i → AreMetAmong (take i directed) met
      → AllPairs IsDirectedBefore sorted → ((d : DirectedEdge) → Contains sorted d ↔ Contains met d) → AreMet cuts strip waiting directed sorted
  all_met directed met sorted i l a ascending same = record {
    ascending = ascending;
    exact = λ d. ((λ h. (all d).0 ((same d).0 h)), (λ o. (same d).1 ((all d).1 o)));
  }
    where
      all : AreMetAmong directed met
      all = subst (λ (first : List DirectedEdge). AreMetAmong first met) (take_all i directed l) a

-- ---- limits
abbrev IsInLimit : DirectedEdge → Type 0
IsInLimit d = AreInLimit d.from d.to

-- what is met is within the limit, as what waits and all directed edges are
pub met_in_limit : (cuts : List ℤ) (strip : ℕ) (waiting directed met : List DirectedEdge) → AreMet cuts strip waiting directed met
    → All (λ d. AreInLimit d.from d.to) waiting → All (λ d. AreInLimit d.from d.to) directed → All (λ d. AreInLimit d.from d.to) met
met_in_limit cuts strip waiting directed met m w a = all_in IsInLimit met (λ d i. ⊎_elim
    (λ (j : Contains waiting d). All-contains IsInLimit waiting d w j)
    (λ (j : Contains directed d × BeginsIn cuts strip d). All-contains IsInLimit directed d a j.0)
    ((m.exact d).0 (in_contains met d i)))

-- ---- edges that close have no first one that is open
closes_at : (directed : List DirectedEdge) → Closes directed → (v : Pt) → ClosesAt directed v
closes_at directed c v = record { one_way = λ u i j. c.are_directed.one_way u v i j; spread = c.spread v; turns = λ u i. c.turns u v i }

pub none_open : (directed : List DirectedEdge) (place : ℕ) → Closes directed → ¬ (IsFirstOpen directed place)
none_open directed place c f = f.not_closed (record { start = closes_at directed c (edge_at directed place).from; stop = closes_at directed c (edge_at directed place).to })
