-- Edges stand by the vertices that they leave; of those of one vertex, each is looked at.
use Rattle.std.proofs.Common.{◌≡◌, ◌≢◌, ℕ, ◌+◌, ◌<◌, ◌≤◌, true, false, List, length, get_or, refl, sym, ◌∙◌, ap, subst, inl, inr, arith}
use Rattle.std.specs.Prelude.{Contains}
use Rattle.std.specs.List.Sorted.{IsPartitionedBy}
use Rattle.std.proofs.lemmas.Bool.{cases_eq, cases_lt, false≢true}
use Rattle.std.proofs.lemmas.List.{get_or_default}
use Rattle.std.proofs.lemmas.List.Elements.{Contains-get_or}
use Rattle.geom.specs.declared.point.Pt.{Pt}
use Rattle.geom.specs.declared.directed.DirectedEdge.{DirectedEdge}
use Rattle.geom.specs.Directed.{from_to, AreDirected}
use Rattle.geom.specs.Rings.{IsMetBefore, IsNext, Closes}
use Rattle.polygonize.specs.Clockwise.{less}
use Rattle.polygonize.specs.Leaving.{IsFirstAt, IsMetFirst, IsNextPlace, IsNoneAfter, IsNoneBefore}
use Rattle.polygonize.specs.Next.{nothing, edge_at}
use Rattle.polygonize.proofs.CycleRings.{less_apart, less_not}
use Rattle.polygonize.proofs.NextEdge.Turns.{less_is, neither_less}
use Rattle.polygonize.proofs.NextEdge.Sooner.{by_test, less_through, not_less, place_same}

-- ---- an earlier edge leaves no greater vertex
pub not_after : (ds : List DirectedEdge) → AreDirected ds → (i j : ℕ) (d : DirectedEdge) → i ≤ j → j < length ds → less (get_or ds j d).from (get_or ds i d).from ≡ false
not_after ds a i j d h k = elim (cases_eq i j) [
  | inl e ↦ (let P : ℕ → Type 0 = λ t. less (get_or ds t d).from (get_or ds i d).from ≡ false in subst P e (not_less (get_or ds i d).from (get_or ds i d).from (λ m. less_apart (get_or ds i d).from (get_or ds i d).from m refl)))
  | inr n ↦ elim (a.ascending i j d (omega (arith, h, n)) k) [
    | inl m ↦ not_less (get_or ds j d).from (get_or ds i d).from (less_not (get_or ds i d).from (get_or ds j d).from m)
    | inr m ↦ not_less (get_or ds j d).from (get_or ds i d).from (λ q. less_apart (get_or ds j d).from (get_or ds i d).from q (sym m.0))
  ]
]

parted : (ds : List DirectedEdge) (v : Pt) → AreDirected ds → IsPartitionedBy (λ d. less d.from v) ds
parted ds v a i j d h k e = less_through (get_or ds i d).from (get_or ds j d).from v (not_after ds a i j d h k) e

-- where an edge leaves a lesser vertex, so do those before it
pub none_before : (ds : List DirectedEdge) (v : Pt) (i : ℕ) → AreDirected ds → i < length ds → less (edge_at ds i).from v ≡ true → IsNoneBefore ds v (i + 1)
none_before ds v i a h e k d l = let P : DirectedEdge → Type 0 = λ r. less r.from v ≡ true in parted ds v a k i d (omega arith) h (subst P (get_or_default ds i nothing d h) e)

-- where it leaves no lesser one, neither does one behind it
pub none_after : (ds : List DirectedEdge) (v : Pt) (i : ℕ) → AreDirected ds → i < length ds → less (edge_at ds i).from v ≡ false → IsNoneAfter ds v i
none_after ds v i a h e k d l m = let P : DirectedEdge → Type 0 = λ r. less r.from v ≡ false in by_test (less (get_or ds k d).from v) (λ t. absurd (false≢true (sym (subst P (get_or_default ds i nothing d h) e) ∙ parted ds v a i k d l m t))) (λ f. f)

-- ---- what is known when the edges before `past` were looked at
pub record Looked (ds : List DirectedEdge) (first past : ℕ) (u : Pt) (best : ℕ) : Type 0 where
  pub some : first < past
  pub reach : past ≤ length ds
  pub low : first ≤ best
  pub high : best < past
  pub together : (j : ℕ) → first ≤ j → j < past → (edge_at ds j).from ≡ (edge_at ds first).from
  pub best_is : (k : ℕ) → IsMetFirst ds first past (edge_at ds first).from u k → best ≡ k

pub first_looked : (ds : List DirectedEdge) (first : ℕ) (u : Pt) → first < length ds → Looked ds first (first + 1) u first
first_looked ds first u h = record {
  some = omega arith;
  reach = omega (arith, h);
  low = omega arith;
  high = omega arith;
  together = λ j l m. (let at : j ≡ first = omega (arith, l, m) in ap (λ i. (edge_at ds i).from) at);
  best_is = λ k m. (let a = m.behind in let b = m.inside in omega (arith, a, b));
}

-- among fewer edges it is met first, too
fewer : (ds : List DirectedEdge) (first past n : ℕ) (v u : Pt) (k : ℕ) → past ≤ n → k < past → IsMetFirst ds first n v u k → IsMetFirst ds first past v u k
fewer ds first past n v u k h l m = record { behind = m.behind; inside = l; leaves = m.leaves; first = λ j a b. m.first j a (omega (arith, b, h)) }

module _ (ds : List DirectedEdge) (first place : ℕ) (u : Pt) (best : ℕ) (old : Looked ds first place u best) (h : place < length ds) (same : (edge_at ds place).from ≡ (edge_at ds first).from) where
  more : (j : ℕ) → first ≤ j → j < place + 1 → (edge_at ds j).from ≡ (edge_at ds first).from
  more j l m = elim (cases_eq j place) [
    | inl e ↦ ap (λ i. (edge_at ds i).from) e ∙ same
    | inr n ↦ old.together j l (omega (arith, m, n))
  ]

  -- it is met before the best one so far
  pub is_better : ¬ (IsMetBefore (edge_at ds first).from u (edge_at ds best).to (edge_at ds place).to) → Looked ds first (place + 1) u place
  is_better never = record { some = (let a = old.some in omega (arith, a)); reach = omega (arith, h); low = (let a = old.some in omega (arith, a)); high = omega arith; together = more; best_is = best_is }
    where
      best_is : (k : ℕ) → IsMetFirst ds first (place + 1) (edge_at ds first).from u k → place ≡ k
      best_is k m = elim (cases_eq k place) [
        | inl e ↦ sym e
        | inr n ↦ (let i = m.inside in let before : k < place = omega (arith, i, n) in let is = old.best_is k (fewer ds first place (place + 1) (edge_at ds first).from u k (omega arith) before m) in
            let s = old.some in absurd (never (let P : ℕ → Type 0 = λ j. IsMetBefore (edge_at ds first).from u (edge_at ds j).to (edge_at ds place).to in subst P (sym is) (m.first place (omega (arith, s)) (omega arith) same (λ e. n (sym e))))))
      ]

  -- it is not
  pub is_no_better : ¬ (IsMetBefore (edge_at ds first).from u (edge_at ds place).to (edge_at ds best).to) → Looked ds first (place + 1) u best
  is_no_better never = record { some = (let a = old.some in omega (arith, a)); reach = omega (arith, h); low = old.low; high = (let a = old.high in omega (arith, a)); together = more; best_is = best_is }
    where
      best_is : (k : ℕ) → IsMetFirst ds first (place + 1) (edge_at ds first).from u k → best ≡ k
      best_is k m = elim (cases_eq k place) [
        | inl e ↦ (let a = old.high in absurd (never (let P : ℕ → Type 0 = λ j. IsMetBefore (edge_at ds first).from u (edge_at ds j).to (edge_at ds best).to in subst P e (m.first best old.low (omega (arith, a)) (old.together best old.low old.high) (λ f. (omega (arith, a, e, f)))))))
        | inr n ↦ (let i = m.inside in old.best_is k (fewer ds first place (place + 1) (edge_at ds first).from u k (omega arith) (omega (arith, i, n)) m))
      ]

-- behind those that were looked at none leaves the vertex
pub all_looked : (ds : List DirectedEdge) (first past : ℕ) (u : Pt) (best : ℕ) → AreDirected ds → Looked ds first past u best → (past < length ds → (edge_at ds past).from ≢ (edge_at ds first).from) → (k : ℕ) → IsMetFirst ds first (length ds) (edge_at ds first).from u k → best ≡ k
all_looked ds first past u best a l ended k m = elim (cases_lt k past) [
  | inl before ↦ l.best_is k (fewer ds first past (length ds) (edge_at ds first).from u k l.reach before m)
  | inr behind ↦ (let i = m.inside in let s = l.some in absurd (ended (omega (arith, behind, i)) (neither_less (edge_at ds past).from (edge_at ds first).from
      (not_after ds a first past nothing (omega (arith, s)) (omega (arith, behind, i)))
      (let P : Pt → Type 0 = λ p. less p (edge_at ds past).from ≡ false in subst P m.leaves (not_after ds a past k nothing behind i)))))
]

-- ---- the one that is met first is the next edge
module _ (ds : List DirectedEdge) (c : Closes ds) (k first : ℕ) (h : k < length ds) (begins : IsFirstAt (λ (d : DirectedEdge). d.from) ds (edge_at ds k).to first) where
  abbrev u : Pt
  u = (edge_at ds k).from

  abbrev v : Pt
  v = (edge_at ds k).to

  here : Contains ds (from_to u v)
  here = Contains-get_or ds k nothing h

  turn : (w : Pt) × Contains ds (from_to v w) × IsNext ds u v w
  turn = c.turns u v here

  abbrev w : Pt
  w = turn.0

  abbrev p : ℕ
  p = turn.1.0

  inside : p < length ds
  inside = turn.1.1

  is : edge_at ds p ≡ from_to v w
  is = get_or_default ds p nothing (from_to v w) inside ∙ turn.1.2

  behind : first ≤ p
  behind = elim (cases_lt p first) [
    | inl l ↦ (let P : Pt → Type 0 = λ q. less q v ≡ true in absurd (less_apart v v (less_is v v (subst P (ap (λ d. d.from) is) (begins.before p nothing l))) refl))
    | inr l ↦ l
  ]

  -- an edge leaves the end
  pub starts_inside : first < length ds
  starts_inside = let b = behind in let i = inside in omega (arith, b, i)

  pub starts : (edge_at ds first).from ≡ v
  starts = neither_less (edge_at ds first).from v (let i = starts_inside in begins.from first nothing (omega arith) i)
      (let P : Pt → Type 0 = λ q. less q (edge_at ds first).from ≡ false in subst P (ap (λ d. d.from) is) (not_after ds c.are_directed first p nothing behind inside))

  before_others : (j : ℕ) → j < length ds → (edge_at ds j).from ≡ (edge_at ds first).from → j ≢ p → IsMetBefore v u w (edge_at ds j).to
  before_others j m at n = turn.2.first (edge_at ds j).to (inl goes) (λ e. c.are_directed.one_way u v here (let P : Pt → Type 0 = λ q. Contains ds (from_to v q) in subst P e goes))
      (λ e. n (place_same ds c.are_directed j p m inside ((λ i. record { from = (at ∙ starts) i; to = e i }) ∙ sym is)))
    where
      goes : Contains ds (from_to v (edge_at ds j).to)
      goes = let P : Pt → Type 0 = λ q. Contains ds (from_to q (edge_at ds j).to) in subst P (at ∙ starts) (Contains-get_or ds j nothing m)

  met_first : IsMetFirst ds first (length ds) (edge_at ds first).from u p
  met_first = record {
    behind = behind;
    inside = inside;
    leaves = ap (λ d. d.from) is ∙ sym starts;
    first = λ j l m at n. (let P : Pt → Type 0 = λ q. IsMetBefore q u (edge_at ds p).to (edge_at ds j).to in subst P (sym starts)
        (let Q : Pt → Type 0 = λ q. IsMetBefore v u q (edge_at ds j).to in subst Q (sym (ap (λ d. d.to) is)) (before_others j m at n)));
  }

  pub is_next : (n : ℕ) → ((m : ℕ) → IsMetFirst ds first (length ds) (edge_at ds first).from (edge_at ds k).from m → n ≡ m) → IsNextPlace ds k n
  is_next n f = let P : ℕ → Type 0 = IsNextPlace ds k in subst P (sym (f p met_first)) (record {
    inside = inside;
    joins = ap (λ d. d.from) is;
    follows = let Q : Pt → Type 0 = IsNext ds u v in subst Q (sym (ap (λ d. d.to) is)) turn.2;
  })
