-- The edges of the picture are layers.
use Rattle.std.proofs.Common.{◌≡◌, inl, inr, ℕ, ◌≤◌, List, [], ◌∷◌, refl, sym, ◌∙◌, arith, subst}
use Rattle.std.specs.Prelude.{pos, ◌<ℤ◌, ◌≤ℤ◌, ◌≢◌}
use Rattle.std.proofs.Math.IntN.{ℤ, ◌+ℤ◌, ◌-ℤ◌, ◌*ℤ◌}
use Rattle.std.proofs.lemmas.Int.{ints}
use Rattle.std.proofs.lemmas.List.Elements.{All-cons, All-nil}
use Rattle.std.proofs.lemmas.List.Kept.{AllPairs-cons}
use Rattle.geom.specs.declared.point.Pt.{Pt}
use Rattle.geom.specs.declared.edge.Edge.{Edge}
use Rattle.geom.specs.declared.edge.Counted.{Counted}
use Rattle.geom.specs.EdgeOrder.{IsEdgeBefore}
use Rattle.geom.specs.Limit.{AreInLimit, IsWithin, coordinate_limit}
use Rattle.geom.specs.Order.{IsBefore}
use Rattle.geom.specs.Noded.{MeetOnlyAtEnds}
use Rattle.geom.specs.OnSegment.{IsOn, IsRatio}
use Rattle.geom.specs.Pixel.{Point}
use Rattle.geom.proofs.Integers.{expand, linear, mul_nonneg, unscale_le}
use Rattle.geom.proofs.Lists.{In, contains_in}
use Rattle.points_law.specs.Law.{AreLayers}

-- ---- a coordinate of a point of an edge lies between those of the ends
weighted_most : (m n w a b hi : ℤ) → (n *ℤ (w *ℤ hi)) -ℤ (w *ℤ ((n *ℤ a) +ℤ (m *ℤ (b -ℤ a)))) ≡ w *ℤ (((n -ℤ m) *ℤ (hi -ℤ a)) +ℤ (m *ℤ (hi -ℤ b)))
weighted_most m n w a b hi = simp expand (omega (arith, linear))

weighted_least : (m n w a b lo : ℤ) → (w *ℤ ((n *ℤ a) +ℤ (m *ℤ (b -ℤ a)))) -ℤ (n *ℤ (w *ℤ lo)) ≡ w *ℤ (((n -ℤ m) *ℤ (a -ℤ lo)) +ℤ (m *ℤ (b -ℤ lo)))
weighted_least m n w a b lo = simp expand (omega (arith, linear))

no_gap : (x y : ℤ) → x ≤ℤ y → pos 0 ≤ℤ (y -ℤ x)
no_gap x y h = omega (arith, ints)

both : (x y : ℤ) → pos 0 ≤ℤ x → pos 0 ≤ℤ y → pos 0 ≤ℤ (x +ℤ y)
both x y h k = omega (arith, ints)

from_gap : (x y z : ℤ) → z -ℤ y ≡ x → pos 0 ≤ℤ x → y ≤ℤ z
from_gap x y z e h = omega (arith, ints)

weak : (w : ℤ) → pos 0 <ℤ w → pos 0 ≤ℤ w
weak w h = omega (arith, ints)

most : (m n w x a b hi : ℤ) → IsRatio m n → pos 0 <ℤ w → n *ℤ x ≡ w *ℤ ((n *ℤ a) +ℤ (m *ℤ (b -ℤ a))) → a ≤ℤ hi → b ≤ℤ hi → x ≤ℤ (w *ℤ hi)
most m n w x a b hi r p e h k = unscale_le x (w *ℤ hi) n
    (subst (λ (t : ℤ). t ≤ℤ (n *ℤ (w *ℤ hi))) (sym e) (from_gap _ _ _ (weighted_most m n w a b hi)
    (mul_nonneg w _ (weak w p) (both _ _ (mul_nonneg (n -ℤ m) (hi -ℤ a) (no_gap m n r.to) (no_gap a hi h)) (mul_nonneg m (hi -ℤ b) r.from (no_gap b hi k))))))
    r.positive

least : (m n w x a b lo : ℤ) → IsRatio m n → pos 0 <ℤ w → n *ℤ x ≡ w *ℤ ((n *ℤ a) +ℤ (m *ℤ (b -ℤ a))) → lo ≤ℤ a → lo ≤ℤ b → (w *ℤ lo) ≤ℤ x
least m n w x a b lo r p e h k = unscale_le (w *ℤ lo) x n
    (subst (λ (t : ℤ). (n *ℤ (w *ℤ lo)) ≤ℤ t) (sym e) (from_gap _ _ _ (weighted_least m n w a b lo)
    (mul_nonneg w _ (weak w p) (both _ _ (mul_nonneg (n -ℤ m) (a -ℤ lo) (no_gap m n r.to) (no_gap lo a h)) (mul_nonneg m (b -ℤ lo) r.from (no_gap lo b k))))))
    r.positive

-- ---- three edges: a long one above, an upright one, and a short one that begins where that does
pub record Ends (e : Edge) (px py qx qy : ℤ) : Type 0 where
  pub p_x : e.p.x ≡ px
  pub p_y : e.p.y ≡ py
  pub q_x : e.q.x ≡ qx
  pub q_y : e.q.y ≡ qy

upto : {x y : ℤ} → x ≡ y → x ≤ℤ y
upto {x} {y} e = omega (arith, ints)

from : {x y : ℤ} → x ≡ y → y ≤ℤ x
from {x} {y} e = omega (arith, ints)

meet_turned : (e f : Edge) → MeetOnlyAtEnds e f → MeetOnlyAtEnds f e
meet_turned e f m z h k = let r = m z k h in (r.1, r.0)

module _ (long upright short : Edge) (l : Ends long (pos 0) (pos 5) (pos 4) (pos 5)) (u : Ends upright (pos 1) (pos 0) (pos 1) (pos 3)) (s : Ends short (pos 1) (pos 0) (pos 2) (pos 0)) where
  high : (z : Point) → IsOn long.p long.q z → (z.n *ℤ pos 5) ≤ℤ z.y
  high z h = least h.0 h.1 z.n z.y long.p.y long.q.y (pos 5) h.2.ratio z.positive h.2.y_is (from l.p_y) (from l.q_y)

  lower : (z : Point) → IsOn upright.p upright.q z → z.y ≤ℤ (z.n *ℤ pos 3)
  lower z h = most h.0 h.1 z.n z.y upright.p.y upright.q.y (pos 3) h.2.ratio z.positive h.2.y_is (below u.p_y) (upto u.q_y)
    where
      below : {x : ℤ} → x ≡ pos 0 → x ≤ℤ pos 3
      below {x} e = omega (arith, ints)

  lowest : (z : Point) → IsOn short.p short.q z → z.y ≤ℤ (z.n *ℤ pos 0)
  lowest z h = most h.0 h.1 z.n z.y short.p.y short.q.y (pos 0) h.2.ratio z.positive h.2.y_is (upto s.p_y) (upto s.q_y)

  not_both : (w y : ℤ) → pos 0 <ℤ w → (w *ℤ pos 5) ≤ℤ y → y ≤ℤ (w *ℤ pos 3) → ⊥
  not_both w y p h k = omega (arith, ints)

  nor_both : (w y : ℤ) → pos 0 <ℤ w → (w *ℤ pos 5) ≤ℤ y → y ≤ℤ (w *ℤ pos 0) → ⊥
  nor_both w y p h k = omega (arith, ints)

  one : {x y : ℤ} → x ≤ℤ y → y ≤ℤ x → x ≡ y
  one {x} {y} h k = omega (arith, ints)

  long_upright : MeetOnlyAtEnds long upright
  long_upright z h k = absurd (not_both z.n z.y z.positive (high z h) (lower z k))

  long_short : MeetOnlyAtEnds long short
  long_short z h k = absurd (nor_both z.n z.y z.positive (high z h) (lowest z k))

  upright_short : MeetOnlyAtEnds upright short
  upright_short z h k =
      let x : z.x ≡ z.n *ℤ pos 1 = one (most h.0 h.1 z.n z.x upright.p.x upright.q.x (pos 1) h.2.ratio z.positive h.2.x_is (upto u.p_x) (upto u.q_x)) (least h.0 h.1 z.n z.x upright.p.x upright.q.x (pos 1) h.2.ratio z.positive h.2.x_is (from u.p_x) (from u.q_x)) in
      let y : z.y ≡ z.n *ℤ pos 0 = one (lowest z k) (least k.0 k.1 z.n z.y short.p.y short.q.y (pos 0) k.2.ratio z.positive k.2.y_is (from s.p_y) (from s.q_y)) in (
        ∣ inl (record { x_is = subst (λ (t : ℤ). z.x ≡ z.n *ℤ t) (sym u.p_x) x; y_is = subst (λ (t : ℤ). z.y ≡ z.n *ℤ t) (sym u.p_y) y }) ∣₁,
        ∣ inl (record { x_is = subst (λ (t : ℤ). z.x ≡ z.n *ℤ t) (sym s.p_x) x; y_is = subst (λ (t : ℤ). z.y ≡ z.n *ℤ t) (sym s.p_y) y }) ∣₁,
      )

  abbrev es : List Edge
  es = long ∷ upright ∷ short ∷ []

  same : (g e f : Edge) → g ≡ e → g ≡ f → e ≢ f → MeetOnlyAtEnds e f
  same g e f a b n = absurd (n (sym a ∙ b))

  pair : (g h e f : Edge) → g ≡ e → h ≡ f → MeetOnlyAtEnds g h → MeetOnlyAtEnds e f
  pair g h e f a b m = subst (λ (t : Edge). MeetOnlyAtEnds t f) a (subst (λ (t : Edge). MeetOnlyAtEnds g t) b m)

  from_long : (f : Edge) → In f es → long ≢ f → MeetOnlyAtEnds long f
  from_long f (inl b) n = same long long f refl b n
  from_long f (inr (inl b)) n = pair long upright long f refl b long_upright
  from_long f (inr (inr (inl b))) n = pair long short long f refl b long_short
  from_long f (inr (inr (inr j))) n = absurd j

  from_upright : (f : Edge) → In f es → upright ≢ f → MeetOnlyAtEnds upright f
  from_upright f (inl b) n = pair upright long upright f refl b (meet_turned long upright long_upright)
  from_upright f (inr (inl b)) n = same upright upright f refl b n
  from_upright f (inr (inr (inl b))) n = pair upright short upright f refl b upright_short
  from_upright f (inr (inr (inr j))) n = absurd j

  from_short : (f : Edge) → In f es → short ≢ f → MeetOnlyAtEnds short f
  from_short f (inl b) n = pair short long short f refl b (meet_turned long short long_short)
  from_short f (inr (inl b)) n = pair short upright short f refl b (meet_turned upright short upright_short)
  from_short f (inr (inr (inl b))) n = same short short f refl b n
  from_short f (inr (inr (inr j))) n = absurd j

  meet : (e f : Edge) → In e es → In f es → e ≢ f → MeetOnlyAtEnds e f
  meet e f (inl a) j n = subst (λ (t : Edge). t ≢ f → MeetOnlyAtEnds t f) a (from_long f j) n
  meet e f (inr (inl a)) j n = subst (λ (t : Edge). t ≢ f → MeetOnlyAtEnds t f) a (from_upright f j) n
  meet e f (inr (inr (inl a))) j n = subst (λ (t : Edge). t ≢ f → MeetOnlyAtEnds t f) a (from_short f j) n
  meet e f (inr (inr (inr i))) j n = absurd i

  limited : (e : Edge) (px py qx qy : ℤ) → Ends e px py qx qy → IsWithin coordinate_limit px → IsWithin coordinate_limit py → IsWithin coordinate_limit qx → IsWithin coordinate_limit qy → AreInLimit e.p e.q
  limited e px py qx qy h a b c d = record {
    a_in = record { x_in = subst (IsWithin coordinate_limit) (sym h.p_x) a; y_in = subst (IsWithin coordinate_limit) (sym h.p_y) b };
    b_in = record { x_in = subst (IsWithin coordinate_limit) (sym h.q_x) c; y_in = subst (IsWithin coordinate_limit) (sym h.q_y) d };
  }

  within : (n : ℕ) → n ≤ coordinate_limit → IsWithin coordinate_limit (pos n)
  within n h = record { low = omega (arith, ints); high = omega (arith, ints) }

  abbrev uncounted : Edge → Counted
  uncounted e = record { edge = e; in_a = 0; in_b = 0 }

  left_of : (p q : Pt) → p.x <ℤ q.x → IsBefore p q
  left_of p q h = record { column = omega (arith, ints); row = λ e. absurd (omega (arith, ints)) }

  long_first : (e : Edge) → e.p.x ≡ pos 1 → IsEdgeBefore long e
  long_first e h = inl (left_of long.p e.p (less l.p_x h))
    where
      less : {x y : ℤ} → x ≡ pos 0 → y ≡ pos 1 → x <ℤ y
      less {x} {y} a b = omega (arith, ints)

  upright_second : IsEdgeBefore upright short
  upright_second = inr (
    (λ i. record { x = (u.p_x ∙ sym s.p_x) i; y = (u.p_y ∙ sym s.p_y) i }),
    left_of upright.q short.q (less u.q_x s.q_x),
  )
    where
      less : {x y : ℤ} → x ≡ pos 1 → y ≡ pos 2 → x <ℤ y
      less {x} {y} a b = omega (arith, ints)

  pub are_layers : AreLayers (uncounted long ∷ uncounted upright ∷ uncounted short ∷ [])
  are_layers = record {
    ascending = AllPairs-cons (λ (c d : Counted). IsEdgeBefore c.edge d.edge) (uncounted long) (uncounted upright ∷ uncounted short ∷ [])
        (All-cons (λ (d : Counted). IsEdgeBefore long d.edge) (uncounted upright) (uncounted short ∷ []) (long_first upright u.p_x) (All-cons (λ (d : Counted). IsEdgeBefore long d.edge) (uncounted short) [] (long_first short s.p_x) (All-nil (λ (d : Counted). IsEdgeBefore long d.edge))))
        (AllPairs-cons (λ (c d : Counted). IsEdgeBefore c.edge d.edge) (uncounted upright) (uncounted short ∷ [])
        (All-cons (λ (d : Counted). IsEdgeBefore upright d.edge) (uncounted short) [] upright_second (All-nil (λ (d : Counted). IsEdgeBefore upright d.edge)))
        (λ i j d a b. absurd (omega (arith, a, b))));
    in_limit = All-cons (λ (e : Edge). AreInLimit e.p e.q) long (upright ∷ short ∷ []) (limited long _ _ _ _ l (within 0 (omega arith)) (within 5 (omega arith)) (within 4 (omega arith)) (within 5 (omega arith)))
        (All-cons (λ (e : Edge). AreInLimit e.p e.q) upright (short ∷ []) (limited upright _ _ _ _ u (within 1 (omega arith)) (within 0 (omega arith)) (within 1 (omega arith)) (within 3 (omega arith)))
        (All-cons (λ (e : Edge). AreInLimit e.p e.q) short [] (limited short _ _ _ _ s (within 1 (omega arith)) (within 0 (omega arith)) (within 2 (omega arith)) (within 0 (omega arith)))
        (All-nil (λ (e : Edge). AreInLimit e.p e.q))));
    noded = λ e f i j n. meet e f (contains_in es e i) (contains_in es f j) n;
    even_a = λ v. refl;
    even_b = λ v. refl;
  }
