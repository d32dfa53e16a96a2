-- Of the pieces that come back to the ring's least vertex, the one with the greatest angle is the first piece.
use Rattle.std.proofs.Common.{◌≡◌, ◌≢◌, ◌+◌, ◌-◌, ℕ, suc, ◌<◌, ◌≤◌, List, [], ◌∷◌, length, get_or, map, refl, sym, ◌∙◌, ap, subst, inl, inr, arith}
use Rattle.std.specs.Prelude.{All, Contains, ℤ, pos, neg_ℤ, ◌<ℤ◌, flat_map}
use Rattle.std.proofs.lemmas.Int.{ints}
use Rattle.std.proofs.lemmas.Bool.{cases_eq, cases_lt, false≢true}
use Rattle.std.proofs.lemmas.List.{get_or_default}
use Rattle.std.proofs.lemmas.List.Elements.{All-contains, All-weaker, Contains-get_or}
use Rattle.geom.specs.declared.point.Pt.{Pt}
use Rattle.geom.specs.declared.directed.DirectedEdge.{DirectedEdge}
use Rattle.geom.specs.Canonical.{IsFirstPiece}
use Rattle.geom.specs.Determinant.{side}
use Rattle.geom.specs.Directed.{from_to}
use Rattle.geom.specs.Holes.{IsLeastVertex}
use Rattle.geom.specs.Order.{IsBefore}
use Rattle.geom.specs.Rings.{ring_edges, Closes, IsCut, IsNeighbour, IsSimple, IsSooner}
use Rattle.geom.proofs.Edges.{before_strict, PtOrder, pt_order}
use Rattle.geom.proofs.Edges.PtOrder.{before, equal, after}
use Rattle.geom.proofs.Lists.{In, contains_in, in_contains, in_map, map_in}
use Rattle.geom.proofs.OneCut.{simple_distinct}
use Rattle.geom.proofs.OneRing.{opposite}
use Rattle.geom.proofs.Owners.{starts_on, ends_on}
use Rattle.geom.proofs.RingEdges.{cut_edges, flat_in, in_permutation, piece_edge}
use Rattle.polygonize.specs.Next.{edge_at, ring_of}
use Rattle.polygonize.specs.Number.{IsVertex}
use Rattle.polygonize.specs.Piece.{last_point, ComesLater, IsFirstAmong, IsRingCut}
use Rattle.polygonize.specs.Written.{IsSound}
use Rattle.polygonize.proofs.RingPieces.Beginnings.{BeginsWith, holders_begin, one_begins, last_of, closes_last, arrives_last}
use Rattle.polygonize.proofs.Holes.{least_point}
use Rattle.polygonize.proofs.RingPieces.Mapping.{cut_all, cut_map, cut_simple}
use Rattle.polygonize.proofs.Numbers.{same_vertex}
use Rattle.polygonize.proofs.NextEdge.Sooner.{is_sooner, same_or_not}
use Rattle.polygonize.proofs.NextEdge.Turns.{chain, one_way}

-- ---- angles right of v: a is met before b where it lies counter-clockwise of b
turned_sign : (a b : ℤ) → a ≡ neg_ℤ b → b <ℤ pos 0 → pos 0 <ℤ a
turned_sign a b e h = omega (arith, ints)

sign_turned : (a b : ℤ) → a ≡ neg_ℤ b → pos 0 <ℤ b → a <ℤ pos 0
sign_turned a b e h = omega (arith, ints)

sooner_right : (v a b : Pt) → IsBefore v a → IsBefore v b → pos 0 <ℤ side v b a → IsSooner v a b
sooner_right v a b h k s = inr (inl (h, k), sign_turned (side v a b) (side v b a) (opposite v a b) s)

right_side : (v a b : Pt) → IsBefore v a → IsBefore v b → IsSooner v a b → pos 0 <ℤ side v b a
right_side v a b h k (inl s) = absurd (before_strict v b k s.1)
right_side v a b h k (inr (inl s, t)) = turned_sign (side v b a) (side v a b) (opposite v b a) t
right_side v a b h k (inr (inr s, t)) = absurd (before_strict v a h s.0)

-- ---- where pieces come back to v

-- the pieces that begin at the vertex come back to it by edges from different points after it
abbrev pub AreReturns : List DirectedEdge → ℕ → List (List ℕ) → Type 0
AreReturns ds v pieces = (m : ℕ) → m < length pieces → get_or (get_or pieces m []) 0 0 ≡ v → IsNeighbour ds (edge_at ds v).from (last_point ds (get_or pieces m [])) × IsBefore (edge_at ds v).from (last_point ds (get_or pieces m []))

-- the piece begins at the vertex where the other one does, and comes back to it with a greater angle
pub record IsUpTo (ds : List DirectedEdge) (v : ℕ) (other piece : List ℕ) : Type 0 where
  pub begins : get_or piece 0 0 ≡ v
  pub greater : last_point ds other ≢ last_point ds piece → pos 0 <ℤ side (edge_at ds v).from (last_point ds other) (last_point ds piece)

-- the best of the first n pieces
abbrev pub IsBest : List DirectedEdge → ℕ → List (List ℕ) → ℕ → ℕ → Type 0
IsBest ds v pieces n best = Closes ds → AreReturns ds v pieces → (m : ℕ) → m < n → get_or (get_or pieces m []) 0 0 ≡ v → IsUpTo ds v (get_or pieces m []) (get_or pieces best [])

-- points right of v, no two of them in one direction from it
further : (ds : List DirectedEdge) → Closes ds → (v a b c : Pt) → IsNeighbour ds v a → IsNeighbour ds v c → IsBefore v a → IsBefore v b → IsBefore v c → a ≢ c → pos 0 <ℤ side v a b → pos 0 <ℤ side v b c → pos 0 <ℤ side v a c
further ds cl v a b c na nc ra rb rc n h k = elim (cl.spread v a c na nc n) [
  | inl s ↦ absurd (false≢true (sym (chain v a b c (one_way v b a (is_sooner v b a (sooner_right v b a rb ra h))) (one_way v c b (is_sooner v c b (sooner_right v c b rc rb k)))) ∙ is_sooner v a c s))
  | inr s ↦ right_side v c a rc ra s
]

-- ---- the loop
pub later_best : (ds : List DirectedEdge) (v : ℕ) (pieces : List (List ℕ)) (i best : ℕ) → i < length pieces → best < length pieces → ComesLater ds v (get_or pieces i []) (get_or pieces best []) → IsBest ds v pieces i best → IsBest ds v pieces (i + 1) i
later_best ds v pieces i best hi hb l b cl r m h s = record {
  begins = l.begins;
  greater = λ n. elim (cases_lt m i) [
    | inl k ↦ (let u = b cl r m k s in elim (same_or_not (last_point ds (get_or pieces m [])) (last_point ds (get_or pieces best []))) [
      | inl e ↦ (let P : Pt → Type 0 = λ t. pos 0 <ℤ side (edge_at ds v).from t (last_point ds (get_or pieces i [])) in subst P (sym e) (l.greater u.begins))
      | inr ne ↦ further ds cl (edge_at ds v).from (last_point ds (get_or pieces m [])) (last_point ds (get_or pieces best [])) (last_point ds (get_or pieces i []))
          (r m (below k) s).0 (r i hi l.begins).0 (r m (below k) s).1 (r best hb u.begins).1 (r i hi l.begins).1 n (u.greater ne) (l.greater u.begins)
    ])
    | inr k ↦ absurd (n (ap (λ t. last_point ds (get_or pieces t [])) (same m i h k)))
  ];
}
  where
    below : m < i → m < length pieces
    below k = omega arith

    same : (m i : ℕ) → m < i + 1 → i ≤ m → m ≡ i
    same m i h k = omega arith

pub still_best : (ds : List DirectedEdge) (v : ℕ) (pieces : List (List ℕ)) (i best : ℕ) → i < length pieces → best < length pieces → ¬ (ComesLater ds v (get_or pieces i []) (get_or pieces best [])) → IsBest ds v pieces i best → IsBest ds v pieces (i + 1) best
still_best ds v pieces i best hi hb l b cl r m h s = elim (cases_lt m i) [
  | inl k ↦ b cl r m k s
  | inr k ↦ (let P : ℕ → Type 0 = λ t. IsUpTo ds v (get_or pieces t []) (get_or pieces best []) in subst P (sym (same m i h k)) (now (let Q : ℕ → Type 0 = λ t. get_or (get_or pieces t []) 0 0 ≡ v in subst Q (same m i h k) s)))
]
  where
    same : (m i : ℕ) → m < i + 1 → i ≤ m → m ≡ i
    same m i h k = omega arith

    here : get_or (get_or pieces i []) 0 0 ≡ v → get_or (get_or pieces best []) 0 0 ≡ v
    here si = elim (cases_eq (get_or (get_or pieces best []) 0 0) v) [ inl e ↦ e | inr n ↦ absurd (l (record { begins = si; greater = λ e. absurd (n e) })) ]

    now : get_or (get_or pieces i []) 0 0 ≡ v → IsUpTo ds v (get_or pieces i []) (get_or pieces best [])
    now si = record {
      begins = here si;
      greater = λ n. elim (cl.spread (edge_at ds v).from (last_point ds (get_or pieces i [])) (last_point ds (get_or pieces best [])) (r i hi si).0 (r best hb (here si)).0 n) [
        | inl t ↦ absurd (l (record { begins = si; greater = λ e. right_side (edge_at ds v).from (last_point ds (get_or pieces i [])) (last_point ds (get_or pieces best [])) (r i hi si).1 (r best hb (here si)).1 t }))
        | inr t ↦ right_side (edge_at ds v).from (last_point ds (get_or pieces best [])) (last_point ds (get_or pieces i [])) (r best hb (here si)).1 (r i hi si).1 t
      ];
    }

-- ---- the last edge of a piece that begins at the vertex
last_place : (ds : List DirectedEdge) (k : ℕ) (ks : List ℕ) → last_of (edge_at ds k).from (ring_of ds ks) ≡ (edge_at ds (get_or (k ∷ ks) (length ks) 0)).from
last_place ds k [] = refl
last_place ds k (j ∷ js) = last_place ds j js

last_is : (ds : List DirectedEdge) (k : ℕ) (ks : List ℕ) → last_of (edge_at ds k).from (ring_of ds ks) ≡ last_point ds (k ∷ ks)
last_is ds k ks = last_place ds k ks ∙ ap (λ n. (edge_at ds (get_or (k ∷ ks) n 0)).from) (less_one (length ks))
  where
    less_one : (n : ℕ) → n ≡ suc n - 1
    less_one n = omega arith

closing_edge : (ds : List DirectedEdge) (v : ℕ) (piece : List ℕ) → 0 < length piece → get_or piece 0 0 ≡ v → In (from_to (last_point ds piece) (edge_at ds v).from) (ring_edges (ring_of ds piece))
closing_edge ds v [] h e = absurd (omega arith)
closing_edge ds v (k ∷ ks) h e = let P : ℕ → Type 0 = λ t. In (from_to (last_point ds (k ∷ ks)) (edge_at ds t).from) (ring_edges (ring_of ds (k ∷ ks))) in subst P e
    (let Q : Pt → Type 0 = λ t. In (from_to t (edge_at ds k).from) (ring_edges (ring_of ds (k ∷ ks))) in subst Q (last_is ds k ks) (closes_last (edge_at ds k).from (ring_of ds ks) (edge_at ds k).from))

arriving_edge : (ds : List DirectedEdge) (v : ℕ) (piece : List ℕ) (u : Pt) → IsSimple (ring_of ds piece) → get_or piece 0 0 ≡ v → In (from_to u (edge_at ds v).from) (ring_edges (ring_of ds piece)) → u ≡ last_point ds piece
arriving_edge ds v [] u s e i = absurd i
arriving_edge ds v (k ∷ ks) u s e i = arrives_last (edge_at ds k).from (ring_of ds ks) (edge_at ds k).from u ((simple_distinct (ring_of ds (k ∷ ks)) s).0)
    (let P : ℕ → Type 0 = λ t. In (from_to u (edge_at ds t).from) (ring_edges (ring_of ds (k ∷ ks))) in subst P (sym e) i) ∙ last_is ds k ks

points_begin : (ds : List DirectedEdge) (v : ℕ) (ring : List ℕ) → 0 < length ring → get_or ring 0 0 ≡ v → BeginsWith (edge_at ds v).from (ring_of ds ring)
points_begin ds v [] h e = absurd (omega arith)
points_begin ds v (k ∷ ks) h e = record { rest = ring_of ds ks; is = ap (λ t. (edge_at ds t).from ∷ ring_of ds ks) e }

numbers_begin : (ds : List DirectedEdge) (v : ℕ) → IsVertex ds v → (piece : List ℕ) → All (IsVertex ds) piece → BeginsWith (edge_at ds v).from (ring_of ds piece) → get_or piece 0 0 ≡ v
numbers_begin ds v w [] h b = absurd (none b.is)
  where
    none : [] ≡ (edge_at ds v).from ∷ b.rest → ⊥
    none e = cc
numbers_begin ds v w (k ∷ ks) h b = same_vertex ds k v (h 0 0 (omega arith)) w (first b.is)
  where
    first : ring_of ds (k ∷ ks) ≡ (edge_at ds v).from ∷ b.rest → (edge_at ds k).from ≡ (edge_at ds v).from
    first e = cc

-- ---- the pieces of a ring
module _ (ds : List DirectedEdge) (closes : Closes ds) (v : ℕ) (ring : List ℕ) (pieces : List (List ℕ)) (r : IsRingCut ds v ring pieces) (long : All (λ p. 0 < length p) pieces) where
  vertex : IsVertex ds v
  vertex = let P : ℕ → Type 0 = IsVertex ds in subst P r.begins (r.vertices 0 0 r.some)

  points_cut : IsCut (ring_of ds ring) (map (ring_of ds) pieces)
  points_cut = cut_map (IsVertex ds) (λ k. (edge_at ds k).from) (same_vertex ds) r.cut r.vertices

  least : IsLeastVertex (ring_of ds ring) (edge_at ds v).from
  least = let P : ℕ → Type 0 = λ t. IsLeastVertex (ring_of ds ring) (edge_at ds t).from in subst P r.begins (least_point ds closes.are_directed ring r.vertices r.least_first r.some)

  inside : (m : ℕ) → m < length pieces → Contains (map (ring_of ds) pieces) (ring_of ds (get_or pieces m []))
  inside m h = in_contains (map (ring_of ds) pieces) (ring_of ds (get_or pieces m [])) (map_in (ring_of ds) pieces (get_or pieces m []) (contains_in pieces (get_or pieces m []) (Contains-get_or pieces m [] h)))

  return_edge : (m : ℕ) → m < length pieces → get_or (get_or pieces m []) 0 0 ≡ v → Contains (ring_edges (ring_of ds (get_or pieces m []))) (from_to (last_point ds (get_or pieces m [])) (edge_at ds v).from)
  return_edge m h s = in_contains (ring_edges (ring_of ds (get_or pieces m []))) (from_to (last_point ds (get_or pieces m [])) (edge_at ds v).from) (closing_edge ds v (get_or pieces m []) (long m [] h) s)

  return_there : (m : ℕ) → m < length pieces → get_or (get_or pieces m []) 0 0 ≡ v → Contains (ring_edges (ring_of ds ring)) (from_to (last_point ds (get_or pieces m [])) (edge_at ds v).from)
  return_there m h s = piece_edge (ring_of ds ring) (map (ring_of ds) pieces) points_cut (ring_of ds (get_or pieces m [])) (inside m h) (from_to (last_point ds (get_or pieces m [])) (edge_at ds v).from) (return_edge m h s)

  right_of : (u : Pt) → Contains (ring_edges (ring_of ds ring)) (from_to u (edge_at ds v).from) → IsBefore (edge_at ds v).from u
  right_of u h = by_order (pt_order (edge_at ds v).from u)
    where
      by_order : PtOrder (edge_at ds v).from u → IsBefore (edge_at ds v).from u
      by_order (before b) = b
      by_order (equal e) = absurd (closes.are_directed.one_way u u loop loop)
        where
          loop : Contains ds (from_to u u)
          loop = let P : Pt → Type 0 = λ t. Contains ds (from_to u t) in subst P e (r.among (from_to u (edge_at ds v).from) h)
      by_order (after b) = absurd (All-contains (λ p. ¬ (IsBefore p (edge_at ds v).from)) (ring_of ds ring) u least.least
          (in_contains (ring_of ds ring) u (starts_on (ring_of ds ring) (from_to u (edge_at ds v).from) (contains_in (ring_edges (ring_of ds ring)) (from_to u (edge_at ds v).from) h))) b)

  pub returns : AreReturns ds v pieces
  returns m h s = (inr (r.among (from_to (last_point ds (get_or pieces m [])) (edge_at ds v).from) (return_there m h s)), right_of (last_point ds (get_or pieces m [])) (return_there m h s))

  -- a piece of points that begins at the vertex has a place
  record Placed (q : List Pt) : Type 0 where
    m : ℕ
    below : m < length pieces
    is : ring_of ds (get_or pieces m []) ≡ q
    begins : get_or (get_or pieces m []) 0 0 ≡ v

  placed : (q : List Pt) → In q (map (ring_of ds) pieces) → BeginsWith (edge_at ds v).from q → Placed q
  placed q i b = record {
    m = at.0;
    below = at.1;
    is = same;
    begins = numbers_begin ds v vertex (get_or pieces at.0 []) (cut_all (IsVertex ds) r.cut r.vertices at.0 [] at.1) (let P : List Pt → Type 0 = BeginsWith (edge_at ds v).from in subst P (sym same) b);
  }
    where
      of : (p : List ℕ) × In p pieces × (ring_of ds p ≡ q)
      of = in_map (ring_of ds) pieces q i

      at : Contains pieces of.0
      at = in_contains pieces of.0 of.1

      same : ring_of ds (get_or pieces at.0 []) ≡ q
      same = ap (ring_of ds) (get_or_default pieces at.0 [] of.0 at.1 ∙ at.2) ∙ of.2

  pub first_of : (best : ℕ) → best < length pieces → IsBest ds v pieces (length pieces) best → IsFirstPiece (ring_of ds ring) (ring_of ds (get_or pieces best []))
  first_of best h b = record {
    from = last_point ds (get_or pieces best []);
    at = (edge_at ds v).from;
    least = least;
    arrives = return_edge best h (b closes returns some.m some.below some.begins).begins;
    greatest = λ u i n. (let p = there u i in let e = arrived u i in let P : Pt → Type 0 = λ t. pos 0 <ℤ side (edge_at ds v).from t (last_point ds (get_or pieces best [])) in
        subst P (sym e) ((b closes returns p.m p.below p.begins).greater (λ q. n (e ∙ q))));
  }
    where
      ring_begins : BeginsWith (edge_at ds v).from (ring_of ds ring)
      ring_begins = points_begin ds v ring r.some r.begins

      some : Placed (one_begins points_cut (edge_at ds v).from ring_begins).piece
      some = let o = one_begins points_cut (edge_at ds v).from ring_begins in placed o.piece o.inside o.begins

      holder : (u : Pt) → Contains (ring_edges (ring_of ds ring)) (from_to u (edge_at ds v).from) → (q : List Pt) × In q (map (ring_of ds) pieces) × In (from_to u (edge_at ds v).from) (ring_edges q)
      holder u i = flat_in ring_edges (map (ring_of ds) pieces) (from_to u (edge_at ds v).from)
          (in_permutation (ring_edges (ring_of ds ring)) (flat_map ring_edges (map (ring_of ds) pieces)) (from_to u (edge_at ds v).from) (cut_edges points_cut) (contains_in (ring_edges (ring_of ds ring)) (from_to u (edge_at ds v).from) i))

      there : (u : Pt) (i : Contains (ring_edges (ring_of ds ring)) (from_to u (edge_at ds v).from)) → Placed (holder u i).0
      there u i = let q = holder u i in placed q.0 q.1 (holders_begin points_cut (edge_at ds v).from ring_begins q.0 q.1 (ends_on q.0 (from_to u (edge_at ds v).from) q.2))

      arrived : (u : Pt) (i : Contains (ring_edges (ring_of ds ring)) (from_to u (edge_at ds v).from)) → u ≡ last_point ds (get_or pieces (there u i).m [])
      arrived u i = let p = there u i in arriving_edge ds v (get_or pieces p.m []) u
          (let P : List Pt → Type 0 = IsSimple in subst P (sym p.is) (All-contains IsSimple (map (ring_of ds) pieces) (holder u i).0 (cut_simple points_cut) (in_contains (map (ring_of ds) pieces) (holder u i).0 (holder u i).1)))
          p.begins
          (let P : List Pt → Type 0 = λ t. In (from_to u (edge_at ds v).from) (ring_edges t) in subst P (sym p.is) (holder u i).2)

-- ---- pieces that are looked at by their places
module _ (ds : List DirectedEdge) (v : ℕ) (ps : List (List ℕ)) where
  held : (i : ℕ) (x p : List ℕ) → i < length ps → x ≡ get_or ps i x → p ≡ x → p ≡ get_or ps i []
  held i x p h e q = q ∙ e ∙ get_or_default ps i x [] h

  pub later_held : (i best : ℕ) (x y p q : List ℕ) → i < length ps → best < length ps → x ≡ get_or ps i x → y ≡ get_or ps best y → p ≡ x → q ≡ y → ComesLater ds v p q → IsBest ds v ps i best → IsBest ds v ps (i + 1) i
  later_held i best x y p q hi hb ex ey ep eq l = later_best ds v ps i best hi hb (rw (sym (held i x p hi ex ep), sym (held best y q hb ey eq)) l)

  pub still_held : (i best : ℕ) (x y p q : List ℕ) → i < length ps → best < length ps → x ≡ get_or ps i x → y ≡ get_or ps best y → p ≡ x → q ≡ y → ¬ (ComesLater ds v p q) → IsBest ds v ps i best → IsBest ds v ps (i + 1) best
  still_held i best x y p q hi hb ex ey ep eq l = still_best ds v ps i best hi hb (rw (sym (held i x p hi ex ep), sym (held best y q hb ey eq)) l)

  pub first_held : (n best : ℕ) → All (IsSound ds) ps → best < length ps → length ps ≤ n → IsBest ds v ps n best → IsFirstAmong ds v ps best
  first_held n best s h k b = λ ring cl r. first_of ds cl v ring ps r (All-weaker (IsSound ds) (λ p. 0 < length p) (λ p t. (let l = t.long in omega arith)) ps s) best h (λ c d m i. b c d m (omega (arith, i, k)))
