-- A vertex at which two edges end: the steeper one stands right below the other, and all else that stands is below or above the vertex.
use Rattle.std.proofs.Common.{◌≡◌, ◌⊎◌, inl, inr, ⊎_elim, int_le, int_lt, List, [], ◌∷◌, ◌++◌, map, get_or, refl, sym, ap, ◌∙◌, subst, arith}
use Rattle.std.specs.List.{AllPairs, Contains}
use Rattle.std.specs.List.Sorted.{IsPartitionedBy}
use Rattle.std.specs.Prelude.{pos, ◌<ℤ◌, ◌≤ℤ◌}
use Rattle.std.proofs.Math.IntN.{ℤ, ◌+ℤ◌, ◌-ℤ◌, ◌*ℤ◌}
use Rattle.std.proofs.lemmas.Int.{ints}
use Rattle.geom.specs.declared.point.Pt.{Pt}
use Rattle.geom.specs.declared.edge.Edge.{Edge}
use Rattle.geom.specs.declared.edge.Counted.{Counted}
use Rattle.geom.specs.Determinant.{side}
use Rattle.geom.specs.Rounded.{edges_of}
use Rattle.geom.proofs.Integers.{by_sign, expand, linear, mul_nonneg, once_left}
use Rattle.geom.proofs.ListOrder.{pairs_head, pairs_tail}
use Rattle.geom.proofs.Lists.{In, in_append, in_back, in_contains, in_front, map_in}
use Rattle.geom.proofs.Numbers.{gap_is, never_negative, nonneg, zero_is_nonneg, zero_is_not_positive}
use Rattle.geom.proofs.Tests.{le_told, le_yes, lt_told, lt_yes}
use Rattle.points_law.specs.Law.{AreLayers}
use Rattle.points_law.proofs.Choices.{run, rise}
use Rattle.points_law.proofs.Meet.{slope}
use Rattle.label_sweep.specs.declared.standing.StandingEdge.{StandingEdge}
use Rattle.label_sweep.specs.Endings.{EndsTwice}
use Rattle.label_sweep.specs.Labels.{IsSweptUpTo}
use Rattle.label_sweep.specs.Status.{IsSteeper, IsUnder, IsVertexOf, Reaches, rise_over}
use Rattle.label_sweep.proofs.Around.{Steeper, not_steeper}
use Rattle.label_sweep.proofs.Members.{all_of_in, pairs_across, pairs_back, pairs_of_map}
use Rattle.label_sweep.proofs.Passing.{edge_of}
use Rattle.label_sweep.proofs.Plain.{from_zero, level_at_end, not_from_zero}
use Rattle.label_sweep.proofs.Words.{ends_are_level, search_is_monotone, steeper_of}

-- ---- two edges that end at one point, by their turn
from_end : (ex ey fx fy vx vy x : ℤ) → ((vx -ℤ ex) *ℤ ((fy *ℤ (vx -ℤ fx)) +ℤ ((x -ℤ fx) *ℤ (vy -ℤ fy)))) -ℤ ((vx -ℤ fx) *ℤ ((ey *ℤ (vx -ℤ ex)) +ℤ ((x -ℤ ex) *ℤ (vy -ℤ ey))))
    ≡ (vx -ℤ x) *ℤ ((vx -ℤ fx) *ℤ (vy -ℤ ey) -ℤ (vx -ℤ ex) *ℤ (vy -ℤ fy))
from_end ex ey fx fy vx vy x = simp expand (omega (arith, linear))

rise_to_end : (e f : Edge) → e.q ≡ f.q → (x : ℤ) → rise_over f e x ≡ (e.q.x -ℤ x) *ℤ slope e f
rise_to_end e f h x = subst
    (λ (w : Pt). ((e.q.x -ℤ e.p.x) *ℤ ((f.p.y *ℤ (w.x -ℤ f.p.x)) +ℤ ((x -ℤ f.p.x) *ℤ (w.y -ℤ f.p.y)))) -ℤ ((w.x -ℤ f.p.x) *ℤ ((e.p.y *ℤ (e.q.x -ℤ e.p.x)) +ℤ ((x -ℤ e.p.x) *ℤ (e.q.y -ℤ e.p.y))))
    ≡ (e.q.x -ℤ x) *ℤ ((w.x -ℤ f.p.x) *ℤ (e.q.y -ℤ e.p.y) -ℤ (e.q.x -ℤ e.p.x) *ℤ (w.y -ℤ f.p.y)))
    h (from_end e.p.x e.p.y f.p.x f.p.y e.q.x e.q.y x)

-- the steeper one is under the other
steeper_is_under : (e f : Edge) → e.q ≡ f.q → pos 0 ≤ℤ slope e f → IsUnder e f
steeper_is_under e f h s = λ x a b k l. subst (λ (t : ℤ). pos 0 ≤ℤ t) (sym (rise_to_end e f h x)) (mul_nonneg (e.q.x -ℤ x) (slope e f) (gap_is x e.q.x b) s)

never_both : (rf sf rg sg : ℤ) → pos 0 <ℤ (rg *ℤ sf -ℤ rf *ℤ sg) → pos 0 ≤ℤ (rf *ℤ sg -ℤ rg *ℤ sf) → ⊥
never_both rf sf rg sg h i = omega (arith, ints)

one_left : (x : ℤ) → x -ℤ (x -ℤ pos 1) ≡ pos 1
one_left x = omega (arith, ints)

up_to_one : (p q : ℤ) → p <ℤ q → p ≤ℤ (q -ℤ pos 1)
up_to_one p q h = omega (arith, ints)

one_is_less : (q : ℤ) → (q -ℤ pos 1) ≤ℤ q
one_is_less q = omega (arith, ints)

-- and not the other under it
not_under_steeper : (e f : Edge) → e.q ≡ f.q → e.p.x <ℤ e.q.x → f.p.x <ℤ f.q.x → Steeper e f → IsUnder f e → ⊥
not_under_steeper e f h i j s u = never_both (run e) (rise e) (run f) (rise f) s
    (subst (λ (t : ℤ). pos 0 ≤ℤ t) (rise_to_end f e (sym h) (f.q.x -ℤ pos 1) ∙ ap (λ (t : ℤ). t *ℤ slope f e) (one_left f.q.x) ∙ once_left (slope f e))
    (u (f.q.x -ℤ pos 1) (up_to_one f.p.x f.q.x j) (one_is_less f.q.x) (up_to_one e.p.x f.q.x (subst (λ (w : Pt). e.p.x <ℤ w.x) h i)) (subst (λ (w : Pt). (f.q.x -ℤ pos 1) ≤ℤ w.x) (sym h) (one_is_less f.q.x))))

-- ---- signs
no_sign : (x : ℤ) → pos 0 ≤ℤ x → ¬ (pos 0 <ℤ x) → x ≡ pos 0
no_sign x h n = by_sign x (λ l. absurd (never_negative x h l)) (λ e. e) (λ l. absurd (n l))

-- ---- the two that end
module _ (cs : List Counted) (h : AreLayers cs) (v : Pt) (x : IsVertexOf (edges_of cs) v) (all : List StandingEdge) (u : IsSweptUpTo cs v all) (twice : EndsTwice (edges_of cs) v)
    (lower upper : StandingEdge) (l_in : In lower all) (u_in : In upper all) (l_ends : (edge_of lower).q ≡ v) (u_ends : (edge_of upper).q ≡ v) (steeper : IsSteeper (edge_of lower) (edge_of upper)) where
  reaches : (t : StandingEdge) → In t all → Reaches (edges_of cs) v (edge_of t)
  reaches t i = (u.edges.exact (edge_of t)).0 (in_contains (map edge_of all) (edge_of t) (map_in edge_of all t i))

  differ : ¬ (edge_of lower ≡ edge_of upper)
  differ e = not_steeper (edge_of lower) (edge_of upper) e (steeper_of (edge_of lower) (edge_of upper) steeper)

  at_one_point : (edge_of lower).q ≡ (edge_of upper).q
  at_one_point = l_ends ∙ sym u_ends

  lower_under : IsUnder (edge_of lower) (edge_of upper)
  lower_under = steeper_is_under (edge_of lower) (edge_of upper) at_one_point (nonneg (slope (edge_of lower) (edge_of upper)) (steeper_of (edge_of lower) (edge_of upper) steeper))

  not_upper_under : ¬ (IsUnder (edge_of upper) (edge_of lower))
  not_upper_under = not_under_steeper (edge_of lower) (edge_of upper) at_one_point (reaches lower l_in).slopes (reaches upper u_in).slopes (steeper_of (edge_of lower) (edge_of upper) steeper)

  -- no third one ends there
  no_third : (e : Edge) → Contains (edges_of cs) e → e.q ≡ v → (edge_of lower ≡ e) ⊎ (edge_of upper ≡ e)
  no_third e i q = ⊎_elim (λ k. inl k) (⊎_elim (λ k. inr (sym k)) (λ k. absurd (differ k))) (twice (edge_of lower) e (edge_of upper) (reaches lower l_in).inside i (reaches upper u_in).inside l_ends q u_ends)

  pub highest : (f : Edge) → Contains (edges_of cs) f → f.p.x <ℤ f.q.x → f.q ≡ v → IsUnder f (edge_of upper)
  highest f i l q = ⊎_elim
      (λ e. subst (λ (f : Edge). IsUnder f (edge_of upper)) e lower_under)
      (λ e. subst (λ (f : Edge). IsUnder f (edge_of upper)) e (steeper_is_under (edge_of upper) (edge_of upper) refl (none (run (edge_of upper) *ℤ rise (edge_of upper)))))
      (no_third f i q)
    where
      none : (t : ℤ) → pos 0 ≤ℤ (t -ℤ t)
      none t = omega (arith, ints)

  -- ---- what is level
  is_level : (t : StandingEdge) → In t all → side (edge_of t).p (edge_of t).q v ≡ pos 0 → (edge_of lower ≡ edge_of t) ⊎ (edge_of upper ≡ edge_of t)
  is_level t i z = no_third (edge_of t) (reaches t i).inside (ends_are_level cs h v x (edge_of t) (reaches t i) z)

  parted : IsPartitionedBy (λ t. int_lt (pos 0) (side t.spoke.one.edge.p t.spoke.one.edge.q v)) all × IsPartitionedBy (λ t. int_le (pos 0) (side t.spoke.one.edge.p t.spoke.one.edge.q v)) all
  parted = search_is_monotone (edges_of cs) v all (pairs_of_map IsUnder edge_of all u.edges.order) (all_of_in (λ t. Reaches (edges_of cs) v (edge_of t)) all reaches)

  -- ---- one that stands below another one
  record Goes (s t : StandingEdge) : Type 0 where
    under : IsUnder (edge_of s) (edge_of t)
    apart : ¬ (edge_of s ≡ edge_of t)
    up_to_end : (edge_of t).q ≡ v → pos 0 ≤ℤ side (edge_of s).p (edge_of s).q v
    from_end : (edge_of s).q ≡ v → ¬ (pos 0 <ℤ side (edge_of t).p (edge_of t).q v)

  in_order : AllPairs Goes all
  in_order i j d l m = record {
    under = pairs_of_map IsUnder edge_of all u.edges.order i j d l m;
    apart = u.once i j d l m;
    up_to_end = λ q. le_told (pos 0) (side (edge_of (get_or all i d)).p (edge_of (get_or all i d)).q v)
        (parted.1 i j d (omega (arith, l)) m (le_yes (pos 0) (side (edge_of (get_or all j d)).p (edge_of (get_or all j d)).q v)
        (zero_is_nonneg (side (edge_of (get_or all j d)).p (edge_of (get_or all j d)).q v) (level_at_end (edge_of (get_or all j d)) v q))));
    from_end = λ q k. zero_is_not_positive (side (edge_of (get_or all i d)).p (edge_of (get_or all i d)).q v) (level_at_end (edge_of (get_or all i d)) v q)
        (lt_told (pos 0) (side (edge_of (get_or all i d)).p (edge_of (get_or all i d)).q v)
        (parted.0 i j d (omega (arith, l)) m (lt_yes (pos 0) (side (edge_of (get_or all j d)).p (edge_of (get_or all j d)).q v) k)));
  }

  order_of : (xs : List StandingEdge) → all ≡ xs → AllPairs Goes xs
  order_of xs e = subst (AllPairs Goes) e in_order

  -- what stands between the two would be level
  module _ (low rest : List StandingEdge) (e : all ≡ low ++ (lower ∷ rest)) where
    upper_behind : In upper rest
    upper_behind = ⊎_elim
        (λ i. absurd (not_upper_under (pairs_across Goes low (lower ∷ rest) (order_of (low ++ (lower ∷ rest)) e) upper lower i (inl refl)).under))
        (⊎_elim (λ k. absurd (differ (ap edge_of k))) (λ i. i))
        (in_append low (lower ∷ rest) upper (subst (λ (xs : List StandingEdge). In upper xs) e u_in))

    lower_first : AllPairs Goes (lower ∷ rest)
    lower_first = pairs_back Goes low (lower ∷ rest) (order_of (low ++ (lower ∷ rest)) e)

  none_between : (t : StandingEdge) → In t all → Goes lower t → Goes t upper → ⊥
  none_between t i g k = ⊎_elim g.apart (λ q. k.apart (sym q)) (is_level t i (no_sign (side (edge_of t).p (edge_of t).q v) (k.up_to_end u_ends) (g.from_end l_ends)))

  pub next_is : (low rest : List StandingEdge) → all ≡ low ++ (lower ∷ rest) → (high : List StandingEdge) × (rest ≡ upper ∷ high)
  next_is low [] e = absurd (upper_behind low [] e)
  next_is low (t ∷ high) e = ⊎_elim
      (λ k. (high, ap (λ t. t ∷ high) k))
      (λ i. absurd (none_between t
      (subst (λ (xs : List StandingEdge). In t xs) (sym e) (in_back low (lower ∷ (t ∷ high)) t (inr (inl refl))))
      (pairs_head Goes lower (t ∷ high) (lower_first low (t ∷ high) e) t (inl refl))
      (pairs_head Goes t high (pairs_tail Goes lower (t ∷ high) (lower_first low (t ∷ high) e)) upper i)))
      (upper_behind low (t ∷ high) e)

  -- ---- all else
  module _ (low high : List StandingEdge) (e : all ≡ low ++ (lower ∷ (upper ∷ high))) where
    order : AllPairs Goes (low ++ (lower ∷ (upper ∷ high)))
    order = order_of (low ++ (lower ∷ (upper ∷ high))) e

    from_lower : AllPairs Goes (lower ∷ (upper ∷ high))
    from_lower = pairs_back Goes low (lower ∷ (upper ∷ high)) order

    stands : (t : StandingEdge) → In t (low ++ (lower ∷ (upper ∷ high))) → In t all
    stands t i = subst (λ (xs : List StandingEdge). In t xs) (sym e) i

    pub below : (t : StandingEdge) → In t low → pos 0 <ℤ side (edge_of t).p (edge_of t).q v
    below t i =
        let g = pairs_across Goes low (lower ∷ (upper ∷ high)) order t lower i (inl refl) in
        let k = pairs_across Goes low (lower ∷ (upper ∷ high)) order t upper i (inr (inl refl)) in
        from_zero (side (edge_of t).p (edge_of t).q v) (g.up_to_end l_ends)
        (λ z. ⊎_elim (λ q. g.apart (sym q)) (λ q. k.apart (sym q)) (is_level t (stands t (in_front low (lower ∷ (upper ∷ high)) t i)) z))

    pub above : (t : StandingEdge) → In t high → side (edge_of t).p (edge_of t).q v <ℤ pos 0
    above t i =
        let g = pairs_head Goes lower (upper ∷ high) from_lower t (inr i) in
        let k = pairs_head Goes upper high (pairs_tail Goes lower (upper ∷ high) from_lower) t i in
        not_from_zero (side (edge_of t).p (edge_of t).q v) (k.from_end u_ends)
        (λ z. ⊎_elim g.apart k.apart (is_level t (stands t (in_back low (lower ∷ (upper ∷ high)) t (inr (inr i)))) z))
