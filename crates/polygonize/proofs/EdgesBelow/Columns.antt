-- Vertical columns, and the edges that lie across them.
use Rattle.std.proofs.Common.{◌≡◌, ◌⊎◌, ℕ, ◌+◌, ◌<◌, List, length, get_or, take, refl, sym, ap, subst, inl, inr, Bool, false, arith, ℤ, w32, to_z, of_z}
use Rattle.std.specs.Prelude.{◌≤ℤ◌, ◌<ℤ◌, ◌-ℤ◌, pos, true, All, IsTrue}
use Rattle.std.specs.Int.{int_max, int_min}
use Rattle.std.proofs.lemmas.Int.{ints, by_lt_z, int_max_is, int_min_is}
use Rattle.std.proofs.lemmas.List.Elements.{All-more, All-weaker}
use Rattle.geom.specs.declared.point.Pt.{Pt}
use Rattle.geom.specs.declared.edge.Edge.{Edge}
use Rattle.geom.specs.declared.directed.DirectedEdge.{DirectedEdge}
use Rattle.geom.specs.Directed.{RunsAlong}
use Rattle.geom.specs.Holes.{left_of}
use Rattle.geom.specs.Limit.{AreInLimit, IsWithin, coordinate_limit}
use Rattle.geom.proofs.Edges.{before_by_cases}
use Rattle.geom.proofs.Integers.{linear}
use Rattle.geom.proofs.Numbers.{le_le, lt_le}
use Rattle.geom.proofs.Doubling.{back}
use Rattle.geom.specs.Parity.{covers}
use Rattle.polygonize.specs.Below.{RunsBelow, vertex_at}
use Rattle.polygonize.specs.Column.{IsIn, Meets, Spans}
use Rattle.polygonize.specs.declared.column.Columns.{Columns}
use Rattle.polygonize.proofs.EdgesBelow.GapsBelow.{over_is, over_when}

-- ---- the columns of vertices

pub record SpreadSoFar (vertices : List Pt) (asked : List ℕ) (low high : ℤ) : Type 0 where
  pub low_in : IsWithin coordinate_limit low
  pub high_in : IsWithin coordinate_limit high
  pub each : All (λ r. (low ≤ℤ (vertex_at vertices r).x) × ((vertex_at vertices r).x ≤ℤ high)) asked

least_is : (lo m a b : ℤ) → m ≡ int_min a b → lo ≤ℤ a → lo ≤ℤ b → (lo ≤ℤ m) × ((m ≤ℤ a) × (m ≤ℤ b))
least_is lo m a b e h k = (omega (arith, linear, int_min_is a b), (omega (arith, linear, int_min_is a b), omega (arith, linear, int_min_is a b)))

greatest_is : (hi m a b : ℤ) → m ≡ int_max a b → a ≤ℤ hi → b ≤ℤ hi → (m ≤ℤ hi) × ((a ≤ℤ m) × (b ≤ℤ m))
greatest_is hi m a b e h k = (omega (arith, linear, int_max_is a b), (omega (arith, linear, int_max_is a b), omega (arith, linear, int_max_is a b)))

pub spread_more : (vertices : List Pt) (asked : List ℕ) (i : ℕ) (low high l h x y : ℤ) → i < length asked → x ≡ (vertex_at vertices (get_or asked i 0)).x → y ≡ (vertex_at vertices (get_or asked i 0)).x → IsWithin coordinate_limit (vertex_at vertices (get_or asked i 0)).x
    → l ≡ int_min low x → h ≡ int_max high y → SpreadSoFar vertices (take i asked) low high → SpreadSoFar vertices (take (i + 1) asked) l h
spread_more vertices asked i low high l h x y inside e f limit is_least is_greatest s =
    let within_x : IsWithin coordinate_limit x = let P : ℤ → Type 0 = IsWithin coordinate_limit in subst P (sym e) limit in
    let within_y : IsWithin coordinate_limit y = let P : ℤ → Type 0 = IsWithin coordinate_limit in subst P (sym f) limit in
    let a = least_is _ l low x is_least s.low_in.low within_x.low in
    let b = greatest_is _ h high y is_greatest s.high_in.high within_y.high in
    record {
      low_in = record { low = a.0; high = le_le l low _ a.1.0 s.low_in.high };
      high_in = record { low = le_le _ high h s.high_in.low b.1.0; high = b.0 };
      each = All-more (λ r. (l ≤ℤ (vertex_at vertices r).x) × ((vertex_at vertices r).x ≤ℤ h)) asked i 0 inside
          (All-weaker (λ r. (low ≤ℤ (vertex_at vertices r).x) × ((vertex_at vertices r).x ≤ℤ high)) (λ r. (l ≤ℤ (vertex_at vertices r).x) × ((vertex_at vertices r).x ≤ℤ h))
          (λ r t. (le_le l low (vertex_at vertices r).x a.1.0 t.0, le_le (vertex_at vertices r).x high h t.1 b.1.0)) (take i asked) s.each)
          ((let P : ℤ → Type 0 = λ t. l ≤ℤ t in subst P e a.1.1), (let P : ℤ → Type 0 = λ t. t ≤ℤ h in subst P f b.1.1));
    }

pub spread_back : (vertices : List Pt) (asked : List ℕ) (low high : ℤ) → SpreadSoFar vertices asked low high → SpreadSoFar vertices asked (to_z w32 (of_z w32 low)) (to_z w32 (of_z w32 high))
spread_back vertices asked low high s = let P : ℤ → Type 0 = λ t. SpreadSoFar vertices asked t (to_z w32 (of_z w32 high)) in let Q : ℤ → Type 0 = λ t. SpreadSoFar vertices asked low t in
    subst P (sym (back low s.low_in)) (subst Q (sym (back high s.high_in)) s)

-- ---- edges across columns

either : (a b : ℤ) → (a <ℤ b) ⊎ (b ≤ℤ a)
either a b = by_lt_z a b (λ h. inl h) (λ h. inr h)

not_both : (a b : ℤ) → a <ℤ b → b ≤ℤ a → ⊥
not_both a b h k = omega (arith, linear)

pair : (a b c d : ℤ) → ((a <ℤ b) × (c ≤ℤ d)) ⊎ ¬ ((a <ℤ b) × (c ≤ℤ d))
pair a b c d = elim (either a b) [
  | inl h ↦ elim (either d c) [
    | inl k ↦ inr (λ t. not_both d c k t.1)
    | inr k ↦ inl (h, k)
  ]
  | inr h ↦ inr (λ t. not_both a b t.0 h)
]

one_of : {A B : Type 0} → A ⊎ ¬ A → B ⊎ ¬ B → (A ⊎ B) ⊎ ¬ (A ⊎ B)
one_of (inl a) b = inl (inl a)
one_of (inr n) (inl b) = inl (inr b)
one_of (inr n) (inr m) = inr (λ t. elim t [ inl a ↦ n a | inr b ↦ m b ])

pub spans_or_not : (d : DirectedEdge) (columns : Columns) → Spans d columns ⊎ ¬ (Spans d columns)
spans_or_not d columns = one_of (pair d.from.x columns.low columns.high d.to.x) (pair d.to.x columns.low columns.high d.from.x)

pub meets_or_not : (d : DirectedEdge) (columns : Columns) → Meets d columns ⊎ ¬ (Meets d columns)
meets_or_not d columns = one_of (pair d.from.x columns.high columns.low d.to.x) (pair d.to.x columns.high columns.low d.from.x)

-- an edge below a point of some columns meets them
pub below_meets : (d : DirectedEdge) (columns : Columns) (v : Pt) → IsIn columns v → (f : Edge) → RunsBelow d (left_of v) f → Meets d columns
below_meets d columns v i f r = let o = over_is f.p.x f.q.x v.x r.over in by_end o r.runs
  where
    by_end : (f.p.x <ℤ v.x) × (v.x ≤ℤ f.q.x) → RunsAlong d f → Meets d columns
    by_end o (inl e) = inl ((let P : ℤ → Type 0 = λ t. t <ℤ columns.high in subst P (sym (ap (λ t. t.from.x) e)) (lt_le f.p.x v.x columns.high o.0 i.1)), (let P : ℤ → Type 0 = λ t. columns.low ≤ℤ t in subst P (sym (ap (λ t. t.to.x) e)) (le_le columns.low v.x f.q.x i.0 o.1)))
    by_end o (inr e) = inr ((let P : ℤ → Type 0 = λ t. t <ℤ columns.high in subst P (sym (ap (λ t. t.to.x) e)) (lt_le f.p.x v.x columns.high o.0 i.1)), (let P : ℤ → Type 0 = λ t. columns.low ≤ℤ t in subst P (sym (ap (λ t. t.from.x) e)) (le_le columns.low v.x f.q.x i.0 o.1)))

-- one that spans the columns has an edge over each of their points
pub edge_over : (d : DirectedEdge) (columns : Columns) (v : Pt) → Spans d columns → IsIn columns v → (e : Edge) × RunsAlong d e × (covers e (left_of v) ≡ true)
edge_over d columns v (inl s) i = (
  record { p = d.from; q = d.to; ordered = before_by_cases d.from d.to (inl (lt_le d.from.x columns.low d.to.x s.0 (le_le columns.low columns.high d.to.x (le_le columns.low v.x columns.high i.0 i.1) s.1))) },
  inl refl,
  over_when d.from.x d.to.x v.x (lt_le d.from.x columns.low v.x s.0 i.0) (le_le v.x columns.high d.to.x i.1 s.1),
)
edge_over d columns v (inr s) i = (
  record { p = d.to; q = d.from; ordered = before_by_cases d.to d.from (inl (lt_le d.to.x columns.low d.from.x s.0 (le_le columns.low columns.high d.from.x (le_le columns.low v.x columns.high i.0 i.1) s.1))) },
  inr refl,
  over_when d.to.x d.from.x v.x (lt_le d.to.x columns.low v.x s.0 i.0) (le_le v.x columns.high d.from.x i.1 s.1),
)

right_of : (a b : ℤ) → IsWithin coordinate_limit a → IsWithin coordinate_limit b → a <ℤ b → IsWithin coordinate_limit (b -ℤ pos 1)
right_of a b h k l = record { low = omega (arith, ints); high = omega (arith, ints) }

-- the border left of columns that an edge spans is within the limit
pub left_border : (d : DirectedEdge) (columns : Columns) → AreInLimit d.from d.to → IsWithin coordinate_limit columns.low → Spans d columns → IsWithin coordinate_limit (columns.low -ℤ pos 1)
left_border d columns l h (inl s) = right_of d.from.x columns.low l.a_in.x_in h s.0
left_border d columns l h (inr s) = right_of d.to.x columns.low l.b_in.x_in h s.0

carry_lt : (a b c d : ℤ) → a ≡ c → b ≡ d → a <ℤ b → c <ℤ d
carry_lt a b c d e f h = omega (arith, linear)

carry_le : (a b c d : ℤ) → a ≡ c → b ≡ d → a ≤ℤ b → c ≤ℤ d
carry_le a b c d e f h = omega (arith, linear)

-- the second of two tests, where the first one fails
pub two_ways : (p q a b p' q' a' b' : ℤ) → p' ≡ p → q' ≡ q → a' ≡ a → b' ≡ b → (first second : Bool) → first ≡ false → (IsTrue first → (p' <ℤ a') × (b' ≤ℤ q')) × ((p' <ℤ a') × (b' ≤ℤ q') → IsTrue first) → (IsTrue second → (q' <ℤ a') × (b' ≤ℤ p')) × ((q' <ℤ a') × (b' ≤ℤ p') → IsTrue second)
    → (IsTrue second → ((p <ℤ a) × (b ≤ℤ q)) ⊎ ((q <ℤ a) × (b ≤ℤ p))) × (((p <ℤ a) × (b ≤ℤ q)) ⊎ ((q <ℤ a) × (b ≤ℤ p)) → IsTrue second)
two_ways p q a b p' q' a' b' i j k l first second n f s = (
  λ t. let h = s.0 t in inr (carry_lt q' a' q a j k h.0, carry_le b' p' b p l i h.1),
  λ t. elim t [
    | inl h ↦ absurd (no_true first n (f.1 (carry_lt p a p' a' (sym i) (sym k) h.0, carry_le b q b' q' (sym l) (sym j) h.1)))
    | inr h ↦ s.1 (carry_lt q a q' a' (sym j) (sym k) h.0, carry_le b p b' p' (sym l) (sym i) h.1)
  ],
)
  where
    no_true : (b : Bool) → b ≡ false → IsTrue b → ⊥
    no_true b e t = cc

-- the first of two tests, where it holds
pub first_way : (p q a b p' q' a' b' : ℤ) → p' ≡ p → q' ≡ q → a' ≡ a → b' ≡ b → (first : Bool) → first ≡ true → (IsTrue first → (p' <ℤ a') × (b' ≤ℤ q')) × ((p' <ℤ a') × (b' ≤ℤ q') → IsTrue first)
    → (IsTrue first → ((p <ℤ a) × (b ≤ℤ q)) ⊎ ((q <ℤ a) × (b ≤ℤ p))) × (((p <ℤ a) × (b ≤ℤ q)) ⊎ ((q <ℤ a) × (b ≤ℤ p)) → IsTrue first)
first_way p q a b p' q' a' b' i j k l first y f = (λ t. let h = f.0 t in inl (carry_lt p' a' p a i k h.0, carry_le b' q' b q l j h.1), λ t. y)
