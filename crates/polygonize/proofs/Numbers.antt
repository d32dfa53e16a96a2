-- The numbers of vertices.
use Rattle.std.proofs.Common.{◌≡◌, ◌≢◌, ℕ, suc, zero, ◌+◌, ◌<◌, ◌≤◌, List, [], ◌∷◌, ◌++◌, length, length-append, get_or, map, refl, sym, ◌∙◌, ap, subst, inl, inr, arith}
use Rattle.std.specs.Prelude.{All}
use Rattle.std.proofs.lemmas.Bool.{cases_eq, cases_lt}
use Rattle.std.proofs.lemmas.List.Elements.{All-map, All-head, All-tail}
use Rattle.std.proofs.Math.Seq.{get_or-append_seam}
use Rattle.std.proofs.Math.ListN.{get_or-append}
use Rattle.geom.specs.declared.point.Pt.{Pt}
use Rattle.geom.specs.declared.directed.DirectedEdge.{DirectedEdge}
use Rattle.geom.specs.Order.{IsBefore}
use Rattle.geom.specs.Directed.{IsDirectedBefore, AreDirected}
use Rattle.geom.proofs.Edges.{before_strict}
use Rattle.polygonize.specs.Next.{nothing, edge_at, ring_of}
use Rattle.polygonize.specs.Number.{IsNumber, AreNumbers, IsVertex, IsLastNumber}
use Rattle.polygonize.proofs.NextEdge.Turns.{neither_less}
use Rattle.polygonize.proofs.CycleRings.{less_apart}
use Rattle.polygonize.proofs.NextEdge.Sooner.{not_less}

-- the starts don't descend
pub start_order : (ds : List DirectedEdge) → AreDirected ds → (m k : ℕ) → m < k → k < length ds → ¬ (IsBefore (edge_at ds k).from (edge_at ds m).from)
start_order ds a m k h l b = by_kind (a.ascending m k nothing h l)
  where
    by_kind : IsDirectedBefore (edge_at ds m) (edge_at ds k) → ⊥
    by_kind (inl f) = before_strict (edge_at ds m).from (edge_at ds k).from f b
    by_kind (inr e) = less_apart (edge_at ds k).from (edge_at ds m).from b (sym e.0)

-- what stands between two edges with one start has it too
pub amid : (ds : List DirectedEdge) → AreDirected ds → (m k i : ℕ) → m < k → k < i → i < length ds → (edge_at ds m).from ≡ (edge_at ds i).from → (edge_at ds k).from ≡ (edge_at ds i).from
amid ds a m k i h l n e = neither_less (edge_at ds k).from (edge_at ds i).from
    (not_less (edge_at ds k).from (edge_at ds i).from (λ b. start_order ds a m k h (omega (arith, l, n)) (let P : Pt → Type 0 = IsBefore (edge_at ds k).from in subst P (sym e) b)))
    (not_less (edge_at ds i).from (edge_at ds k).from (start_order ds a k i l n))

pub number_new : (ds : List DirectedEdge) → AreDirected ds → (i last : ℕ) → i < length ds → IsLastNumber ds i last → (edge_at ds last).from ≢ (edge_at ds i).from → IsNumber ds i i
number_new ds a zero last h l n = record { low = omega arith; same = refl; before = λ m k e. absurd (omega arith) }
number_new ds a (suc j) last h l n = record { low = same_le (suc j); same = refl; before = before' }
  where
    same_le : (k : ℕ) → k ≤ k
    same_le k = omega arith

    was : IsNumber ds j last
    was = l.of j refl

    below : (m : ℕ) → m < suc j → m ≢ j → m < j
    below m k o = omega arith

    next : (j : ℕ) → j < suc j
    next j = omega arith

    before' : (m : ℕ) → m < suc j → (edge_at ds m).from ≢ (edge_at ds (suc j)).from
    before' m k e = elim (cases_eq m j) [
      | inl q ↦ n (was.same ∙ ap (λ t. (edge_at ds t).from) (sym q) ∙ e)
      | inr o ↦ n (was.same ∙ amid ds a m j (suc j) (below m k o) (next j) h e)
    ]

pub number_same : (ds : List DirectedEdge) (i last : ℕ) → IsLastNumber ds i last → (edge_at ds last).from ≡ (edge_at ds i).from → IsNumber ds i last
number_same ds zero last l e = record { low = l.low; same = e; before = λ m k f. absurd (no l.low k) }
  where
    no : {m : ℕ} → last ≤ 0 → m < last → ⊥
    no h k = omega arith
number_same ds (suc j) last l e = record { low = l.low; same = e; before = λ m k f. (l.of j refl).before m k (f ∙ sym e ∙ (l.of j refl).same) }

pub record Numbering (ds : List DirectedEdge) (i last : ℕ) (numbers : List ℕ) : Type 0 where
  pub bound : i ≤ length ds
  pub count : length numbers ≡ i
  pub latest : IsLastNumber ds i last
  pub each : (m : ℕ) → m < i → IsNumber ds m (get_or numbers m 0)

pub no_numbers : (ds : List DirectedEdge) → Numbering ds 0 0 []
no_numbers ds = record {
  bound = omega arith;
  count = refl;
  latest = record { low = omega arith; of = λ j e. absurd (no j e) };
  each = λ m h. absurd (omega arith);
}
  where
    no : (j : ℕ) → 0 ≡ suc j → ⊥
    no j e = omega arith

pub more_numbers : (ds : List DirectedEdge) (i last number : ℕ) (numbers : List ℕ) → i < length ds → IsNumber ds i number → Numbering ds i last numbers → Numbering ds (i + 1) number (numbers ++ number ∷ [])
more_numbers ds i last number numbers h n w = record {
  bound = omega arith;
  count = length_more numbers i w.count;
  latest = record { low = up number i n.low; of = λ j e. (let P : ℕ → Type 0 = λ t. IsNumber ds t number in subst P (down i j e) n) };
  each = λ m k. elim (cases_lt m i) [
    | inl l ↦ (let P : ℕ → Type 0 = IsNumber ds m in subst P (sym (get_or-append numbers (number ∷ []) 0 m (inside m l))) (w.each m l))
    | inr l ↦ (let q : m ≡ length numbers = at_end m k l in let P : ℕ → Type 0 = IsNumber ds m in subst P (sym (get_or-append_seam numbers number [] 0) ∙ ap (λ t. get_or (numbers ++ number ∷ []) t 0) (sym q)) (let Q : ℕ → Type 0 = λ t. IsNumber ds t number in subst Q (sym w.count ∙ sym q) n))
  ];
}
  where
    length_more : (xs : List ℕ) (k : ℕ) → length xs ≡ k → length (xs ++ number ∷ []) ≡ k + 1
    length_more xs k e = length-append xs (number ∷ []) ∙ ap (λ t. t + 1) e

    len : length numbers ≡ i
    len = w.count

    up : (x y : ℕ) → x ≤ y → x ≤ y + 1
    up x y h = omega arith

    down : (i j : ℕ) → i + 1 ≡ suc j → i ≡ j
    down i j e = omega arith

    inside : (m : ℕ) → m < i → m < length numbers
    inside m l = omega (arith, len, l)

    at_end : (m : ℕ) → m < i + 1 → i ≤ m → m ≡ length numbers
    at_end m k l = omega (arith, len, k, l)

pub all_numbers : (ds : List DirectedEdge) (i last : ℕ) (numbers : List ℕ) → length ds ≤ i → Numbering ds i last numbers → AreNumbers ds numbers
all_numbers ds i last numbers h w = record { same_length = same; each = λ m k. w.each m (omega (arith, k, h)) }
  where
    len : length numbers ≡ i
    len = w.count

    bound : i ≤ length ds
    bound = w.bound

    same : length numbers ≡ length ds
    same = omega (arith, len, bound, h)

-- numbers don't descend
pub number_order : (ds : List DirectedEdge) → AreDirected ds → (i j k m : ℕ) → i ≤ j → j < length ds → IsNumber ds i k → IsNumber ds j m → k ≤ m
number_order ds a i j k m l h n o = elim (cases_lt m k) [
  | inr c ↦ c
  | inl c ↦ absurd (elim (cases_lt i j) [
    | inl d ↦ n.before m c (o.same ∙ sym (amid ds a m i j (below c n.low) d h o.same))
    | inr d ↦ n.before m c (o.same ∙ ap (λ t. (edge_at ds t).from) (same d l))
  ])
]
  where
    below : {m k i : ℕ} → m < k → k ≤ i → m < i
    below c d = omega arith

    same : {i j : ℕ} → j ≤ i → i ≤ j → j ≡ i
    same c d = omega arith

-- ---- rings of vertices
pub is_vertex : (ds : List DirectedEdge) (i k : ℕ) → i < length ds → IsNumber ds i k → IsVertex ds k
is_vertex ds i k h n = record { inside = below k i n.low h; first = λ m l e. n.before m l (e ∙ n.same) }
  where
    below : (k i : ℕ) → k ≤ i → i < length ds → k < length ds
    below k i l h = omega (arith, l, h)

pub same_vertex : (ds : List DirectedEdge) (j k : ℕ) → IsVertex ds j → IsVertex ds k → (edge_at ds j).from ≡ (edge_at ds k).from → j ≡ k
same_vertex ds j k v w e = elim (cases_lt j k) [
  | inl l ↦ absurd (w.first j l e)
  | inr l ↦ elim (cases_lt k j) [ inl m ↦ absurd (v.first k m (sym e)) | inr m ↦ omega (arith, l, m) ]
]

pub numbered_vertices : (ds : List DirectedEdge) (numbers : List ℕ) → AreNumbers ds numbers → (cycle : List ℕ) → All (λ k. k < length ds) cycle → All (IsVertex ds) (map (λ k. get_or numbers k 0) cycle)
numbered_vertices ds numbers n cycle h = All-map (IsVertex ds) (λ k. get_or numbers k 0) cycle (λ i d l. is_vertex ds (get_or cycle i d) (get_or numbers (get_or cycle i d) 0) (h i d l) (n.each (get_or cycle i d) (h i d l)))

pub numbered_ring : (ds : List DirectedEdge) (numbers : List ℕ) → AreNumbers ds numbers → (cycle : List ℕ) → All (λ k. k < length ds) cycle → ring_of ds (map (λ k. get_or numbers k 0) cycle) ≡ ring_of ds cycle
numbered_ring ds numbers n [] h = refl
numbered_ring ds numbers n (x ∷ xs) h = λ i. (n.each x (All-head (λ k. k < length ds) x xs h)).same i ∷ numbered_ring ds numbers n xs (All-tail (λ k. k < length ds) x xs h) i
