-- An edge that is cut at a point on it: each of its points is on one of the two portions, and both have its direction.
use Rattle.std.proofs.Common.{◌≡◌, ◌⊎◌, inl, inr, [], ◌∷◌, refl, sym, ◌∙◌, ap, arith, ◌↔◌, ⊎_elim}
use Rattle.std.proofs.Math.IntN.{ℤ, pos, ◌+ℤ◌, ◌-ℤ◌, ◌*ℤ◌}
use Rattle.std.specs.Prelude.{◌<ℤ◌, ◌≤ℤ◌}
use Rattle.std.proofs.lemmas.Int.{by_lt_z}
use Rattle.geom.specs.declared.point.Pt.{Pt}
use Rattle.geom.specs.declared.edge.Edge.{Edge}
use Rattle.geom.specs.Determinant.{side, turn}
use Rattle.geom.specs.OnSegment.{IsOn, IsAt}
use Rattle.geom.specs.Order.{IsBefore}
use Rattle.geom.specs.Pixel.{Point}
use Rattle.geom.proofs.Edges.{before_cases}
use Rattle.geom.proofs.Identity.{var, ◌⊕◌, ◌⊖◌, ◌⊗◌, ring}
use Rattle.geom.proofs.Integers.{linear, mul_comm, mul_nonneg, mul_pos, none_right, unscale_eq, expand}
use Rattle.geom.proofs.Meaning.{on_turned}
use Rattle.geom.proofs.Numbers.{from_no_gap, no_gap_is, strict_gap_is, weak}
use Rattle.routing.specs.Cutting.{IsPortion, LiesBetween}

-- ---- a point on the way from p to q
-- m is from p as far as part / whole of the way to q
record Splits (p m q : Pt) (part whole : ℤ) : Type 0 where
  positive : pos 0 <ℤ part
  less : part <ℤ whole
  x_is : whole *ℤ (m.x -ℤ p.x) ≡ part *ℤ (q.x -ℤ p.x)
  y_is : whole *ℤ (m.y -ℤ p.y) ≡ part *ℤ (q.y -ℤ p.y)

unless_less : (a b : ℤ) → a ≤ℤ b → (a ≡ b → ⊥) → a <ℤ b
unless_less a b h n = by_lt_z a b (λ k. k) (λ k. absurd (n (omega (arith, linear))))

never_less : (a b : ℤ) → a ≡ b → a <ℤ b → ⊥
never_less a b e l = omega (arith, linear)

module _ (p m q : Pt) (level : side p q m ≡ pos 0) (to : IsBefore m q) where
  turned : (q.y -ℤ p.y) *ℤ (m.x -ℤ p.x) ≡ (q.x -ℤ p.x) *ℤ (m.y -ℤ p.y)
  turned = from_no_gap ((q.y -ℤ p.y) *ℤ (m.x -ℤ p.x)) ((q.x -ℤ p.x) *ℤ (m.y -ℤ p.y)) level

  by_columns : p.x <ℤ m.x → Splits p m q (m.x -ℤ p.x) (q.x -ℤ p.x)
  by_columns l = record {
    positive = strict_gap_is p.x m.x l;
    less = gaps m.x q.x (unless_less m.x q.x to.column not_last);
    x_is = mul_comm (q.x -ℤ p.x) (m.x -ℤ p.x);
    y_is = sym turned ∙ mul_comm (q.y -ℤ p.y) (m.x -ℤ p.x);
  }
    where
      gaps : (a b : ℤ) → a <ℤ b → (a -ℤ p.x) <ℤ (b -ℤ p.x)
      gaps a b h = omega (arith, linear)

      not_last : m.x ≡ q.x → ⊥
      not_last e =
          let same = sym turned ∙ mul_comm (q.y -ℤ p.y) (m.x -ℤ p.x) ∙ ap (λ x. (x -ℤ p.x) *ℤ (q.y -ℤ p.y)) e in
          never_less m.y q.y (level_y m.y q.y p.y (unscale_eq (m.y -ℤ p.y) (q.y -ℤ p.y) (q.x -ℤ p.x) same (positive e))) (to.row e)
        where
          level_y : (a b c : ℤ) → a -ℤ c ≡ b -ℤ c → a ≡ b
          level_y a b c h = omega (arith, linear)

          positive : m.x ≡ q.x → pos 0 <ℤ (q.x -ℤ p.x)
          positive e = omega (arith, linear)

  by_rows : p.x ≡ m.x → p.y <ℤ m.y → Splits p m q (m.y -ℤ p.y) (q.y -ℤ p.y)
  by_rows e l = record {
    positive = strict_gap_is p.y m.y l;
    less = gaps m.y q.y (to.row (sym e ∙ same));
    x_is = ap (λ x. (q.y -ℤ p.y) *ℤ x) (no_gap_is p.x m.x e) ∙ none_right (q.y -ℤ p.y) ∙ sym (ap (λ x. (m.y -ℤ p.y) *ℤ x) (no_gap_is p.x q.x same) ∙ none_right (m.y -ℤ p.y));
    y_is = mul_comm (q.y -ℤ p.y) (m.y -ℤ p.y);
  }
    where
      gaps : (a b : ℤ) → a <ℤ b → (a -ℤ p.y) <ℤ (b -ℤ p.y)
      gaps a b h = omega (arith, linear)

      same : p.x ≡ q.x
      same = from_no_gap p.x q.x (unscale_eq (q.x -ℤ p.x) (pos 0) (m.y -ℤ p.y)
          (mul_comm (m.y -ℤ p.y) (q.x -ℤ p.x) ∙ sym turned ∙ ap (λ x. (q.y -ℤ p.y) *ℤ x) (no_gap_is p.x m.x e) ∙ none_right (q.y -ℤ p.y) ∙ sym (none_right (m.y -ℤ p.y)))
          (strict_gap_is p.y m.y l))

  splits : IsBefore p m → (part : ℤ) × (whole : ℤ) × Splits p m q part whole
  splits from = ⊎_elim (λ l. (m.x -ℤ p.x, q.x -ℤ p.x, by_columns l)) (λ r. (m.y -ℤ p.y, q.y -ℤ p.y, by_rows r.0 r.1)) (before_cases p m from)

-- seen from the other end
turn_round : (p m q : Pt) (part whole : ℤ) → Splits p m q part whole → Splits q m p (whole -ℤ part) whole
turn_round p m q part whole h = record { positive = strict_gap_is part whole h.less; less = lower part whole h.positive; x_is = back whole part m.x p.x q.x h.x_is; y_is = back whole part m.y p.y q.y h.y_is }
  where
    lower : (part whole : ℤ) → pos 0 <ℤ part → (whole -ℤ part) <ℤ whole
    lower part whole l = omega (arith, linear)

    back : (n k m p q : ℤ) → n *ℤ (m -ℤ p) ≡ k *ℤ (q -ℤ p) → n *ℤ (m -ℤ q) ≡ (n -ℤ k) *ℤ (p -ℤ q)
    back n k m p q h = let u = simp expand at h in simp expand (omega (arith, linear))

-- ---- points
-- z is on the way to m, so it is on the way to q
module _ (p m q : Pt) (part whole : ℤ) (h : Splits p m q part whole) where
  onward : (l z d k a b c : ℤ) → whole *ℤ (b -ℤ a) ≡ part *ℤ (c -ℤ a) → l *ℤ z ≡ d *ℤ ((l *ℤ a) +ℤ (k *ℤ (b -ℤ a))) → (l *ℤ whole) *ℤ z ≡ d *ℤ (((l *ℤ whole) *ℤ a) +ℤ ((k *ℤ part) *ℤ (c -ℤ a)))
  onward l z d k a b c e at = first ∙ ap (λ x. whole *ℤ x) at ∙ second ∙ ap (λ x. d *ℤ (((l *ℤ whole) *ℤ a) +ℤ (k *ℤ x))) e ∙ third
    where
      first : (l *ℤ whole) *ℤ z ≡ whole *ℤ (l *ℤ z)
      first = ring (l ∷ whole ∷ z ∷ []) ((var 0 ⊗ var 1) ⊗ var 2) (var 1 ⊗ (var 0 ⊗ var 2)) refl

      second : whole *ℤ (d *ℤ ((l *ℤ a) +ℤ (k *ℤ (b -ℤ a)))) ≡ d *ℤ (((l *ℤ whole) *ℤ a) +ℤ (k *ℤ (whole *ℤ (b -ℤ a))))
      second = ring (l ∷ whole ∷ d ∷ k ∷ a ∷ b ∷ []) (var 1 ⊗ (var 2 ⊗ ((var 0 ⊗ var 4) ⊕ (var 3 ⊗ (var 5 ⊖ var 4))))) (var 2 ⊗ (((var 0 ⊗ var 1) ⊗ var 4) ⊕ (var 3 ⊗ (var 1 ⊗ (var 5 ⊖ var 4))))) refl

      third : d *ℤ (((l *ℤ whole) *ℤ a) +ℤ (k *ℤ (part *ℤ (c -ℤ a)))) ≡ d *ℤ (((l *ℤ whole) *ℤ a) +ℤ ((k *ℤ part) *ℤ (c -ℤ a)))
      third = ring (l ∷ whole ∷ d ∷ k ∷ a ∷ c ∷ part ∷ []) (var 2 ⊗ (((var 0 ⊗ var 1) ⊗ var 4) ⊕ (var 3 ⊗ (var 6 ⊗ (var 5 ⊖ var 4))))) (var 2 ⊗ (((var 0 ⊗ var 1) ⊗ var 4) ⊕ ((var 3 ⊗ var 6) ⊗ (var 5 ⊖ var 4)))) refl

  -- z is on the way to q, and not past m, so it is on the way to m
  inward : (l z d k a b c : ℤ) → whole *ℤ (b -ℤ a) ≡ part *ℤ (c -ℤ a) → l *ℤ z ≡ d *ℤ ((l *ℤ a) +ℤ (k *ℤ (c -ℤ a))) → (l *ℤ part) *ℤ z ≡ d *ℤ (((l *ℤ part) *ℤ a) +ℤ ((k *ℤ whole) *ℤ (b -ℤ a)))
  inward l z d k a b c e at = first ∙ ap (λ x. part *ℤ x) at ∙ second ∙ ap (λ x. d *ℤ (((l *ℤ part) *ℤ a) +ℤ (k *ℤ x))) (sym e) ∙ third
    where
      first : (l *ℤ part) *ℤ z ≡ part *ℤ (l *ℤ z)
      first = ring (l ∷ part ∷ z ∷ []) ((var 0 ⊗ var 1) ⊗ var 2) (var 1 ⊗ (var 0 ⊗ var 2)) refl

      second : part *ℤ (d *ℤ ((l *ℤ a) +ℤ (k *ℤ (c -ℤ a)))) ≡ d *ℤ (((l *ℤ part) *ℤ a) +ℤ (k *ℤ (part *ℤ (c -ℤ a))))
      second = ring (l ∷ part ∷ d ∷ k ∷ a ∷ c ∷ []) (var 1 ⊗ (var 2 ⊗ ((var 0 ⊗ var 4) ⊕ (var 3 ⊗ (var 5 ⊖ var 4))))) (var 2 ⊗ (((var 0 ⊗ var 1) ⊗ var 4) ⊕ (var 3 ⊗ (var 1 ⊗ (var 5 ⊖ var 4))))) refl

      third : d *ℤ (((l *ℤ part) *ℤ a) +ℤ (k *ℤ (whole *ℤ (b -ℤ a)))) ≡ d *ℤ (((l *ℤ part) *ℤ a) +ℤ ((k *ℤ whole) *ℤ (b -ℤ a)))
      third = ring (l ∷ part ∷ d ∷ k ∷ a ∷ b ∷ whole ∷ []) (var 2 ⊗ (((var 0 ⊗ var 1) ⊗ var 4) ⊕ (var 3 ⊗ (var 6 ⊗ (var 5 ⊖ var 4))))) (var 2 ⊗ (((var 0 ⊗ var 1) ⊗ var 4) ⊕ ((var 3 ⊗ var 6) ⊗ (var 5 ⊖ var 4)))) refl

  positive_whole : pos 0 <ℤ whole
  positive_whole = let a = h.positive in let b = h.less in omega (arith, linear)

  to_whole : (z : Point) → IsOn p m z → IsOn p q z
  to_whole z (k, l, at) = (
    k *ℤ part,
    l *ℤ whole,
    record {
      ratio = record { positive = mul_pos l whole at.ratio.positive positive_whole; from = mul_nonneg k part at.ratio.from (weak (pos 0) part h.positive); to = smaller };
      x_is = onward l z.x z.n k p.x m.x q.x h.x_is at.x_is;
      y_is = onward l z.y z.n k p.y m.y q.y h.y_is at.y_is;
    },
  )
    where
      smaller : (k *ℤ part) ≤ℤ (l *ℤ whole)
      smaller = products k part l whole at.ratio.to at.ratio.positive (weak (pos 0) part h.positive) (weak part whole h.less)
        where
          products : (k a l b : ℤ) → k ≤ℤ l → pos 0 <ℤ l → pos 0 ≤ℤ a → a ≤ℤ b → (k *ℤ a) ≤ℤ (l *ℤ b)
          products k a l b x y u v =
              let r = mul_nonneg (l -ℤ k) a (gap k l x) u in
              let s = mul_nonneg l (b -ℤ a) (weak (pos 0) l y) (gap a b v) in
              let r' = simp expand at r in
              let s' = simp expand at s in
              omega (arith, linear)
            where
              gap : (a b : ℤ) → a ≤ℤ b → pos 0 ≤ℤ (b -ℤ a)
              gap a b h = omega (arith, linear)

  to_part : (z : Point) (k l : ℤ) → IsAt p q k l z → (k *ℤ whole) ≤ℤ (l *ℤ part) → IsOn p m z
  to_part z k l at before = (
    k *ℤ whole,
    l *ℤ part,
    record {
      ratio = record { positive = mul_pos l part at.ratio.positive h.positive; from = mul_nonneg k whole at.ratio.from (weak (pos 0) whole positive_whole); to = before };
      x_is = inward l z.x z.n k p.x m.x q.x h.x_is at.x_is;
      y_is = inward l z.y z.n k p.y m.y q.y h.y_is at.y_is;
    },
  )

  -- ---- directions
  scaled : (c d : Pt) → whole *ℤ turn p m c d ≡ part *ℤ turn p q c d
  scaled c d = first whole (m.x -ℤ p.x) (m.y -ℤ p.y) (d.x -ℤ c.x) (d.y -ℤ c.y) ∙ (λ i. (h.x_is i *ℤ (d.y -ℤ c.y)) -ℤ (h.y_is i *ℤ (d.x -ℤ c.x))) ∙ sym (first part (q.x -ℤ p.x) (q.y -ℤ p.y) (d.x -ℤ c.x) (d.y -ℤ c.y))
    where
      first : (n a b x y : ℤ) → n *ℤ ((a *ℤ y) -ℤ (b *ℤ x)) ≡ ((n *ℤ a) *ℤ y) -ℤ ((n *ℤ b) *ℤ x)
      first n a b x y = ring (n ∷ a ∷ b ∷ x ∷ y ∷ []) (var 0 ⊗ ((var 1 ⊗ var 4) ⊖ (var 2 ⊗ var 3))) (((var 0 ⊗ var 1) ⊗ var 4) ⊖ ((var 0 ⊗ var 2) ⊗ var 3)) refl

  same_direction : (c d : Pt) → (turn p m c d ≡ pos 0) ↔ (turn p q c d ≡ pos 0)
  same_direction c d = (
    (λ e. unscale_eq (turn p q c d) (pos 0) part (sym (scaled c d) ∙ ap (λ x. whole *ℤ x) e ∙ none_right whole ∙ sym (none_right part)) h.positive),
    (λ e. unscale_eq (turn p m c d) (pos 0) whole (scaled c d ∙ ap (λ x. part *ℤ x) e ∙ none_right part ∙ sym (none_right whole)) positive_whole),
  )

-- ---- portions of an edge
turn_flip : (a b c d : Pt) → turn a b c d ≡ pos 0 → turn b a c d ≡ pos 0
turn_flip a b c d h = let u = simp expand at h in simp expand (omega (arith, linear))

pub itself : (e : Edge) → IsPortion e e
itself e = record { inside = λ z on. on; parallel = λ c d. ((λ h. h), (λ h. h)) }

pub portion_of_portion : (e f g : Edge) → IsPortion e f → IsPortion f g → IsPortion e g
portion_of_portion e f g h k = record { inside = λ z on. h.inside z (k.inside z on); parallel = λ c d. ((λ t. (h.parallel c d).0 ((k.parallel c d).0 t)), (λ t. (k.parallel c d).1 ((h.parallel c d).1 t))) }

module _ (e : Edge) (m : Pt) (at : LiesBetween e m) where
  way : (part : ℤ) × (whole : ℤ) × Splits e.p m e.q part whole
  way = splits e.p m e.q at.level at.to at.from

  back : Splits e.q m e.p (way.1 -ℤ way.0) way.1
  back = turn_round e.p m e.q way.0 way.1 way.2

  pub first_portion : (f : Edge) → f.p ≡ e.p → f.q ≡ m → IsPortion e f
  first_portion f is_p is_q = record {
    inside = λ z on. to_whole e.p m e.q way.0 way.1 way.2 z (rw (is_p, is_q) at on);
    parallel = λ c d. rw (is_p, is_q) (same_direction e.p m e.q way.0 way.1 way.2 c d);
  }

  pub last_portion : (f : Edge) → f.p ≡ m → f.q ≡ e.q → IsPortion e f
  last_portion f is_p is_q = record {
    inside = λ z on. on_turned e.q e.p z (to_whole e.q m e.p (way.1 -ℤ way.0) way.1 back z (on_turned m e.q z (rw (is_p, is_q) at on)));
    parallel = λ c d. let same = same_direction e.q m e.p (way.1 -ℤ way.0) way.1 back c d in rw (is_p, is_q) (
      (λ h. turn_flip e.q e.p c d (same.0 (turn_flip m e.q c d h))),
      (λ h. turn_flip e.q m c d (same.1 (turn_flip e.p e.q c d h))),
    );
  }

  -- each point is on one of both
  pub on_either : (z : Point) → IsOn e.p e.q z → IsOn e.p m z ⊎ IsOn m e.q z
  on_either z (k, l, on) = by_lt_z (l *ℤ way.0) (k *ℤ way.1)
      (λ past. inr (on_turned e.q m z (to_part e.q m e.p (way.1 -ℤ way.0) way.1 back z (l -ℤ k) l (reversed z k l on) (beyond k l way.0 way.1 past))))
      (λ before. inl (to_part e.p m e.q way.0 way.1 way.2 z k l on before))
    where
      beyond : (k l part whole : ℤ) → (l *ℤ part) <ℤ (k *ℤ whole) → ((l -ℤ k) *ℤ whole) ≤ℤ (l *ℤ (whole -ℤ part))
      beyond k l part whole h = simp expand (omega (arith, linear))

      reversed : (z : Point) (k l : ℤ) → IsAt e.p e.q k l z → IsAt e.q e.p (l -ℤ k) l z
      reversed z k l at = record {
        ratio = record { positive = at.ratio.positive; from = (let h = at.ratio.to in omega (arith, linear)); to = (let h = at.ratio.from in omega (arith, linear)) };
        x_is = flipped l k z.x z.n e.p.x e.q.x at.x_is;
        y_is = flipped l k z.y z.n e.p.y e.q.y at.y_is;
      }
        where
          flipped : (n m z d a b : ℤ) → n *ℤ z ≡ d *ℤ ((n *ℤ a) +ℤ (m *ℤ (b -ℤ a))) → n *ℤ z ≡ d *ℤ ((n *ℤ b) +ℤ ((n -ℤ m) *ℤ (a -ℤ b)))
          flipped n m z d a b h = let u = simp expand at h in simp expand (omega (arith, linear))
