-- The least bad pair of all tiles is that of all edges.
use Rattle.std.proofs.Common.{◌≡◌, ◌⊎◌, inl, inr, Bool, true, false, MatchBool, ℕ, ◌+◌, ◌<◌, List, Option, Some, None, Ordering, Less, Equal, Greater, refl, sym, ◌∙◌, arith, subst, get_or, ◌↔◌, ⊎_elim}
use Rattle.std.proofs.Math.Logic.{∥∥₁_elim, ∥∥₁_map}
use Rattle.std.proofs.Props.{props}
use Rattle.std.specs.Prelude.{AllPairs, Contains, MatchOption, ◌*ℤ◌}
use Rattle.std.specs.Ordering.{MatchOrdering, int_cmp, int_eq, is_lt, is_some_and, ordering_then, partial_ordering_then}
use Rattle.std.proofs.lemmas.Bool.{cases_lt}
use Rattle.std.proofs.lemmas.Bool.Decides.{Decides-int_eq}
use Rattle.geom.specs.declared.point.Pt.{Pt}
use Rattle.geom.specs.declared.edge.Edge.{Edge}
use Rattle.geom.specs.declared.edge.Counted.{Counted}
use Rattle.geom.specs.EdgeOrder.{IsEdgeBefore}
use Rattle.geom.specs.Noded.{IsBad, IsEnd, IsNoded, IsPairBefore, IsLeastBad, MeetOnlyAtEnds}
use Rattle.geom.specs.Pixel.{Point, Coincides}
use Rattle.geom.proofs.Orders.{pt_cmp, edge_cmp, edge_ranks, edge_before_itself, edge_before_trans}
use Rattle.grid.specs.Tiles.{Tiling, Owns, tile_count}
use Rattle.linking.proofs.Gathering.{owner_below}
use Rattle.noding_test.specs.Verdicts.{common_corner, IsOwnBad, IsLeastPair}
use Rattle.noding_test.specs.Passes.{IsBadBelow, IsLesser, EdgesHaveTiles}
use Rattle.noding_test.proofs.Deciding.{edge_before, least_shown, shown}
use Rattle.noding_test.proofs.NearEdges.{least_by}
use Rattle.noding_test.proofs.VerdictLaws.{corner_is_common}

-- ---- pairs in order
edge_order : (e f : Edge) → IsEdgeBefore e f ⊎ ((e ≡ f) ⊎ IsEdgeBefore f e)
edge_order e f = tell (edge_cmp e f) (edge_ranks e f)
  where
    tell : (o : Ordering) → MatchOrdering o (IsEdgeBefore e f) (e ≡ f) (IsEdgeBefore f e) → IsEdgeBefore e f ⊎ ((e ≡ f) ⊎ IsEdgeBefore f e)
    tell Less h = inl h
    tell Equal h = inr (inl h)
    tell Greater h = inr (inr h)

-- an order that is known to hold
pub ascends : (counted : List Counted) → ∥ AllPairs (λ c d. IsEdgeBefore c.edge d.edge) counted ∥₁ → AllPairs (λ c d. IsEdgeBefore c.edge d.edge) counted
ascends counted h = λ i j d a b. shown (edge_before (get_or counted i d).edge (get_or counted j d).edge) (∥∥₁_map h (λ p. p i j d a b))

abbrev IsBeforePair : Edge × Edge → Edge × Edge → Type 0
IsBeforePair x y = IsPairBefore x.0 x.1 y.0 y.1

pair_trans : (x y z : Edge × Edge) → IsBeforePair x y → IsBeforePair y z → IsBeforePair x z
pair_trans x y z (inl a) (inl b) = inl (edge_before_trans x.0 y.0 z.0 a b)
pair_trans x y z (inl a) (inr b) = inl (subst (λ (e : Edge). IsEdgeBefore x.0 e) b.0 a)
pair_trans x y z (inr a) (inl b) = inl (subst (λ (e : Edge). IsEdgeBefore e z.0) (sym a.0) b)
pair_trans x y z (inr a) (inr b) = inr (a.0 ∙ b.0, edge_before_trans x.1 y.1 z.1 a.1 b.1)

pair_order : (x y : Edge × Edge) → IsBeforePair x y ⊎ (((x.0 ≡ y.0) × (x.1 ≡ y.1)) ⊎ IsBeforePair y x)
pair_order x y = ⊎_elim (λ l. inl (inl l)) (λ m. ⊎_elim (λ e. ⊎_elim (λ l. inl (inr (e, l))) (λ n. ⊎_elim (λ f. inr (inl (e, f))) (λ g. inr (inr (inr (sym e, g)))) n) (edge_order x.1 y.1)) (λ g. inr (inr (inl g))) m) (edge_order x.0 y.0)

-- what the derived order of edges computes
abbrev pub partial_edge_cmp : Edge → Edge → Option Ordering
partial_edge_cmp e f = partial_ordering_then (partial_ordering_then (Some (int_cmp e.p.x f.p.x)) (Some (int_cmp e.p.y f.p.y))) (partial_ordering_then (Some (int_cmp e.q.x f.q.x)) (Some (int_cmp e.q.y f.q.y)))

then_some : (o u : Ordering) → partial_ordering_then (Some o) (Some u) ≡ Some (ordering_then o u)
then_some Less u = refl
then_some Equal u = refl
then_some Greater u = refl

pub partial_edge_is : (e f : Edge) → partial_edge_cmp e f ≡ Some (edge_cmp e f)
partial_edge_is e f =
    (λ i. partial_ordering_then (then_some (int_cmp e.p.x f.p.x) (int_cmp e.p.y f.p.y) i) (then_some (int_cmp e.q.x f.q.x) (int_cmp e.q.y f.q.y) i)) ∙ then_some (pt_cmp e.p f.p) (pt_cmp e.q f.q)

-- the derived order of pairs is that of the definitions
pub said_before : (x y : Edge × Edge) (b : Bool) → b ≡ is_some_and is_lt (partial_ordering_then (partial_edge_cmp x.0 y.0) (partial_edge_cmp x.1 y.1)) → MatchBool b (IsPairBefore x.0 x.1 y.0 y.1) (¬ (IsPairBefore x.0 x.1 y.0 y.1))
said_before x y b e =
    let f : b ≡ is_some_and is_lt (partial_ordering_then (Some (edge_cmp x.0 y.0)) (Some (edge_cmp x.1 y.1))) = e ∙ (λ i. is_some_and is_lt (partial_ordering_then (partial_edge_is x.0 y.0 i) (partial_edge_is x.1 y.1 i))) in
    subst (λ (a : Bool). MatchBool a (IsPairBefore x.0 x.1 y.0 y.1) (¬ (IsPairBefore x.0 x.1 y.0 y.1))) (sym f) (tell (edge_cmp x.0 y.0) (edge_cmp x.1 y.1) (edge_ranks x.0 y.0) (edge_ranks x.1 y.1))
  where
    not_after : (e f : Edge) → IsEdgeBefore f e → IsEdgeBefore e f → ⊥
    not_after e f h k = edge_before_itself e (edge_before_trans e f e k h)

    tell : (o u : Ordering) → MatchOrdering o (IsEdgeBefore x.0 y.0) (x.0 ≡ y.0) (IsEdgeBefore y.0 x.0) → MatchOrdering u (IsEdgeBefore x.1 y.1) (x.1 ≡ y.1) (IsEdgeBefore y.1 x.1)
        → MatchBool (is_some_and is_lt (partial_ordering_then (Some o) (Some u))) (IsPairBefore x.0 x.1 y.0 y.1) (¬ (IsPairBefore x.0 x.1 y.0 y.1))
    tell Less u h k = inl h
    tell Greater u h k = λ p. ⊎_elim (λ l. not_after x.0 y.0 h l) (λ (s, l). edge_before_itself y.0 (subst (λ (e : Edge). IsEdgeBefore y.0 e) s h)) p
    tell Equal Less h k = inr (h, k)
    tell Equal Equal h k = λ p. ⊎_elim (λ l. edge_before_itself y.0 (subst (λ (e : Edge). IsEdgeBefore e y.0) h l)) (λ (s, l). edge_before_itself y.1 (subst (λ (e : Edge). IsEdgeBefore e y.1) k l)) p
    tell Equal Greater h k = λ p. ⊎_elim (λ l. edge_before_itself y.0 (subst (λ (e : Edge). IsEdgeBefore e y.0) h l)) (λ (s, l). not_after x.1 y.1 k l) p

-- which of two pairs is the lesser one
module _ (x y : Edge × Edge) (b : Bool) (is : b ≡ is_some_and is_lt (partial_ordering_then (partial_edge_cmp y.0 x.0) (partial_edge_cmp y.1 x.1))) where
  pub lesser_second : b ≡ true → IsLesser (Some x) (Some y) (Some y)
  lesser_second e = inr (refl, subst (λ (a : Bool). MatchBool a (IsPairBefore y.0 y.1 x.0 x.1) (¬ (IsPairBefore y.0 y.1 x.0 x.1))) e (said_before y x b is))

  pub lesser_first : b ≡ false → IsLesser (Some x) (Some y) (Some x)
  lesser_first e = inl (refl, subst (λ (a : Bool). MatchBool a (IsPairBefore y.0 y.1 x.0 x.1) (¬ (IsPairBefore y.0 y.1 x.0 x.1))) e (said_before y x b is))

-- ---- the lesser of two least pairs
module _ (P Q : Edge → Edge → Type 0) where
  Either : Edge → Edge → Type 0
  Either e f = P e f ⊎ Q e f

  pub least_of_both : (one other found : Option (Edge × Edge)) → IsLesser one other found → IsLeastPair P one → IsLeastPair Q other → IsLeastPair (λ e f. P e f ⊎ Q e f) found
  least_of_both None None found is a b = subst (IsLeastPair (λ e f. P e f ⊎ Q e f)) (sym is) (λ e f h. ⊎_elim (a e f) (b e f) h)
  least_of_both None (Some y) found is a b = subst (IsLeastPair (λ e f. P e f ⊎ Q e f)) (sym is) (inr b.0, λ e f h. ⊎_elim (λ p. absurd (a e f p)) (λ q. b.1 e f q) h)
  least_of_both (Some x) None found is a b = subst (IsLeastPair (λ e f. P e f ⊎ Q e f)) (sym is) (inl a.0, λ e f h. ⊎_elim (λ p. a.1 e f p) (λ q. absurd (b e f q)) h)
  least_of_both (Some x) (Some y) found (inl is) a b = subst (IsLeastPair (λ e f. P e f ⊎ Q e f)) (sym is.0) (inl a.0, λ e f h. ⊎_elim (λ p. a.1 e f p) (λ q before. not_before e f q before) h)
    where
      not_before : (e f : Edge) → Q e f → IsPairBefore e f x.0 x.1 → ⊥
      not_before e f q before =
          let z : Edge × Edge = (e, f) in
          ⊎_elim
          (λ l. b.1 e f q l)
          (λ m. ⊎_elim
          (λ s. is.1 (subst (λ (u : Edge). IsPairBefore u y.1 x.0 x.1) s.0 (subst (λ (v : Edge). IsPairBefore e v x.0 x.1) s.1 before)))
          (λ l. is.1 (pair_trans y z x l before)) m)
          (pair_order z y)
  least_of_both (Some x) (Some y) found (inr is) a b = subst (IsLeastPair (λ e f. P e f ⊎ Q e f)) (sym is.0) (inr b.0, λ e f h. ⊎_elim (λ p before. let z : Edge × Edge = (e, f) in a.1 e f p (pair_trans z y x before is.1)) (λ q. b.1 e f q) h)

-- ---- one tile more
pub bad_below_more : (g : Tiling) (edges : List Edge) (k : ℕ) (e f : Edge) → (IsBadBelow g k edges e f ⊎ IsOwnBad (Owns g k) edges e f) ↔ IsBadBelow g (k + 1) edges e f
bad_below_more g edges k e f = (
  (λ h. ⊎_elim (λ (j, l, own). (j, weak j l, own)) (λ own. (k, above, own)) h),
  (λ (j, l, own). ⊎_elim (λ m. inl (j, m, own)) (λ m. let s : j ≡ k = omega arith in inr (subst (λ (n : ℕ). IsOwnBad (Owns g n) edges e f) s own)) (cases_lt j k)),
)
  where
    weak : (j : ℕ) → j < k → j < k + 1
    weak j l = omega arith

    above : k < k + 1
    above = omega arith

pub bad_below_none : (g : Tiling) (edges : List Edge) → IsLeastPair (IsBadBelow g 0 edges) None
bad_below_none g edges = λ e f (j, l, own). absurd (omega arith)

pub least_more : (g : Tiling) (edges : List Edge) (k : ℕ) (one other found : Option (Edge × Edge)) → IsLesser one other found → IsLeastPair (IsBadBelow g k edges) one → IsLeastPair (IsOwnBad (Owns g k) edges) other → IsLeastPair (IsBadBelow g (k + 1) edges) found
least_more g edges k one other found is a b = least_by _ (IsBadBelow g (k + 1) edges) found (bad_below_more g edges k) (least_of_both (IsBadBelow g k edges) (IsOwnBad (Owns g k) edges) one other found is a b)

-- ---- all tiles
owned_bad : (g : Tiling) (edges : List Edge) → EdgesHaveTiles g edges → (e f : Edge) → Contains edges e → Contains edges f → IsEdgeBefore e f → IsBad e f → IsBadBelow g (tile_count g) edges e f
owned_bad g edges covered e f e_in f_in ordered bad =
    let c = corner_is_common e f bad in
    let (k, owns) = covered e (common_corner e f) e_in c.in_first in
    (k, owner_below g k (common_corner e f) owns, record { e_in = e_in; f_in = f_in; ordered = ordered; bad = bad; owned = owns })

pub least_is_bad : (g : Tiling) (edges : List Edge) (e f : Edge) → EdgesHaveTiles g edges → IsLeastPair (IsBadBelow g (tile_count g) edges) (Some (e, f)) → IsLeastBad edges e f
least_is_bad g edges e f covered h =
    let own = h.0.2 in
    record {
      e_in = own.e_in;
      f_in = own.f_in;
      ordered = own.ordered;
      bad = own.bad;
      least = λ x y x_in y_in before bad. h.1 x y (owned_bad g edges covered x y x_in y_in before bad);
    }

-- whether a point is an end can be told
whether : (v : Pt) (z : Point) → Coincides v z ⊎ ¬ (Coincides v z)
whether v z = tell (int_eq z.x (z.n *ℤ v.x)) (int_eq z.y (z.n *ℤ v.y)) refl refl
  where
    tell : (a b : Bool) → int_eq z.x (z.n *ℤ v.x) ≡ a → int_eq z.y (z.n *ℤ v.y) ≡ b → Coincides v z ⊎ ¬ (Coincides v z)
    tell true true e f = inl (record { x_is = (Decides-int_eq z.x (z.n *ℤ v.x)).0 e; y_is = (Decides-int_eq z.y (z.n *ℤ v.y)).0 f })
    tell false b e f = inr (λ h. let g = (Decides-int_eq z.x (z.n *ℤ v.x)).1 h.x_is in absurd (cc))
    tell true false e f = inr (λ h. let g = (Decides-int_eq z.y (z.n *ℤ v.y)).1 h.y_is in absurd (cc))

whether_end : (e : Edge) (z : Point) → IsEnd e z ⊎ ¬ (IsEnd e z)
whether_end e z = ⊎_elim (λ h. inl ∣ inl h ∣₁) (λ h. ⊎_elim (λ k. inl ∣ inr k ∣₁) (λ k. inr (λ m. ∥∥₁_elim m (hlevel props) (λ o. ⊎_elim h k o))) (whether e.q z)) (whether e.p z)

pub not_bad_clean : (e f : Edge) → ¬ (IsBad e f) → MeetOnlyAtEnds e f
not_bad_clean e f h = λ z on_e on_f. ⊎_elim
    (λ a. ⊎_elim (λ b. (a, b)) (λ b. absurd (h (z, on_e, on_f, λ p. b p.1))) (whether_end f z))
    (λ a. absurd (h (z, on_e, on_f, λ p. a p.0)))
    (whether_end e z)

pub none_is_noded : (g : Tiling) (edges : List Edge) → EdgesHaveTiles g edges → IsLeastPair (IsBadBelow g (tile_count g) edges) None → IsNoded edges
none_is_noded g edges covered h = λ e f e_in f_in apart. ⊎_elim
    (λ l. not_bad_clean e f (λ bad. h e f (owned_bad g edges covered e f e_in f_in l bad)))
    (λ m. ⊎_elim
    (λ s. absurd (apart s))
    (λ l. let clean = not_bad_clean f e (λ bad. h f e (owned_bad g edges covered f e f_in e_in l bad)) in λ z on_e on_f. let p = clean z on_f on_e in (p.1, p.0)) m)
    (edge_order e f)

-- what the least bad pair of all tiles says of the edges
pub least_of_tiles : (g : Tiling) (edges : List Edge) → EdgesHaveTiles g edges → (bad : Option (Edge × Edge)) → ∥ IsLeastPair (IsBadBelow g (tile_count g) edges) bad ∥₁ → MatchOption bad (IsNoded edges) (λ pair. IsLeastBad edges pair.0 pair.1)
least_of_tiles g edges covered None h = ∥∥₁_elim h (hlevel props) (λ l. none_is_noded g edges covered l)
least_of_tiles g edges covered (Some pair) h = least_shown edges pair.0 pair.1 (∥∥₁_map h (λ l. least_is_bad g edges pair.0 pair.1 covered l))
