-- How far a line comes to the left of a direction in the columns of a rectangle.
use Rattle.std.proofs.Common.{◌≡◌, ◌∷◌, [], refl, sym, ◌∙◌, ap, arith, subst}
use Rattle.std.proofs.Math.IntN.{ℤ, pos, ◌+ℤ◌, ◌-ℤ◌, ◌*ℤ◌, neg_ℤ}
use Rattle.std.specs.Prelude.{◌<ℤ◌, ◌≤ℤ◌}
use Rattle.std.proofs.lemmas.Int.{ints, by_lt_z}
use Rattle.geom.specs.declared.point.Pt.{Pt}
use Rattle.geom.specs.declared.edge.Edge.{Edge}
use Rattle.geom.specs.Determinant.{determinant}
use Rattle.geom.proofs.Along.{size}
use Rattle.geom.proofs.Identity.{var, ◌⊕◌, ◌⊖◌, ◌⊗◌, ring}
use Rattle.geom.proofs.Integers.{linear, neg_mul, scale_le}
use Rattle.hot_region.specs.Halving.{IsMetOn}
use Rattle.hot_region.proofs.NearLaws.{size_from, size_to, times_within}
use Rattle.hot_region.proofs.WallLaws.{out_of_span}

level : (px py qx qy : ℤ) → determinant (qx -ℤ px) (qy -ℤ py) qx qy ≡ determinant (qx -ℤ px) (qy -ℤ py) px py
level px py qx qy = ring (px ∷ py ∷ qx ∷ qy ∷ []) (((var 2 ⊖ var 0) ⊗ var 3) ⊖ ((var 3 ⊖ var 1) ⊗ var 2)) (((var 2 ⊖ var 0) ⊗ var 1) ⊖ ((var 3 ⊖ var 1) ⊗ var 0)) refl

opposite : (d f x y : ℤ) → determinant (neg_ℤ d) (neg_ℤ f) x y ≡ neg_ℤ (determinant d f x y)
opposite d f x y = let a = neg_mul d y in let b = neg_mul f x in omega (arith, linear)

size_opposite : (d : ℤ) → size (neg_ℤ d) ≡ size d
size_opposite d = omega (arith, ints)

itself : (x : ℤ) → x ≤ℤ x
itself x = omega (arith, ints)

carry : (a g b h s s' t t' : ℤ) → a ≡ neg_ℤ g → b ≡ neg_ℤ h → s ≡ s' → t ≡ t' → (pos 2 *ℤ neg_ℤ g) <ℤ ((pos 2 *ℤ neg_ℤ h) -ℤ (s' +ℤ t')) → (pos 2 *ℤ a) <ℤ ((pos 2 *ℤ b) -ℤ (s +ℤ t))
carry a g b h s s' t t' i j k l m = omega (arith, ints)

-- a pixel that a line meets is no farther from the line than half its span
module _ (e : Edge) (c : Pt) (met : IsMetOn e c) (d f : ℤ) (dx : d ≡ e.q.x -ℤ e.p.x) (dy : f ≡ e.q.y -ℤ e.p.y) where
  at_q : determinant d f e.q.x e.q.y ≡ determinant d f e.p.x e.p.y
  at_q = rw (dx, dy) (level e.p.x e.p.y e.q.x e.q.y)

  not_left : ((pos 2 *ℤ determinant d f c.x c.y) -ℤ (size d +ℤ size f)) ≤ℤ (pos 2 *ℤ determinant d f e.p.x e.p.y)
  not_left = by_lt_z (pos 2 *ℤ determinant d f e.p.x e.p.y) ((pos 2 *ℤ determinant d f c.x c.y) -ℤ (size d +ℤ size f))
      (λ l. absurd (out_of_span d f (determinant d f c.x c.y) e c (itself _) met l (subst (λ n. (pos 2 *ℤ n) <ℤ ((pos 2 *ℤ determinant d f c.x c.y) -ℤ (size d +ℤ size f))) (sym at_q) l)))
      (λ l. l)

module _ (e : Edge) (c : Pt) (met : IsMetOn e c) (d f : ℤ) (dx : d ≡ e.q.x -ℤ e.p.x) (dy : f ≡ e.q.y -ℤ e.p.y) where
  not_right : ((pos 2 *ℤ neg_ℤ (determinant d f c.x c.y)) -ℤ (size d +ℤ size f)) ≤ℤ (pos 2 *ℤ neg_ℤ (determinant d f e.p.x e.p.y))
  not_right = by_lt_z (pos 2 *ℤ neg_ℤ (determinant d f e.p.x e.p.y)) ((pos 2 *ℤ neg_ℤ (determinant d f c.x c.y)) -ℤ (size d +ℤ size f))
      (λ l. absurd (out_of_span (neg_ℤ d) (neg_ℤ f) (determinant (neg_ℤ d) (neg_ℤ f) c.x c.y) e c (itself _) met
      (carry _ _ _ _ _ _ _ _ (opposite d f e.p.x e.p.y) (opposite d f c.x c.y) (size_opposite d) (size_opposite f) l)
      (carry _ _ _ _ _ _ _ _ (opposite d f e.q.x e.q.y ∙ ap neg_ℤ (at_q e c met d f dx dy)) (opposite d f c.x c.y) (size_opposite d) (size_opposite f) l)))
      (λ l. l)

  near : (h : ℤ) → (size d +ℤ size f) ≤ℤ ((h +ℤ h) +ℤ pos 1) → (neg_ℤ h ≤ℤ (determinant d f c.x c.y -ℤ determinant d f e.p.x e.p.y)) × ((determinant d f c.x c.y -ℤ determinant d f e.p.x e.p.y) ≤ℤ h)
  near h room = within (determinant d f c.x c.y) (determinant d f e.p.x e.p.y) (size d) (size f) h room (not_left e c met d f dx dy) not_right
    where
      within : (a b s t h : ℤ) → (s +ℤ t) ≤ℤ ((h +ℤ h) +ℤ pos 1) → ((pos 2 *ℤ a) -ℤ (s +ℤ t)) ≤ℤ (pos 2 *ℤ b) → ((pos 2 *ℤ neg_ℤ a) -ℤ (s +ℤ t)) ≤ℤ (pos 2 *ℤ neg_ℤ b) → (neg_ℤ h ≤ℤ (a -ℤ b)) × ((a -ℤ b) ≤ℤ h)
      within a b s t h room l m = (omega (arith, ints), omega (arith, ints))

  -- and so no farther to the left of another direction than the line itself, half its span and the columns let it be
  pub reach_in_columns : (u v b x h : ℤ) → (size d +ℤ size f) ≤ℤ ((h +ℤ h) +ℤ pos 1) → pos 0 ≤ℤ d → b ≤ℤ determinant u v c.x c.y → (determinant u v d f *ℤ c.x) ≤ℤ (determinant u v d f *ℤ x)
      → (d *ℤ b) ≤ℤ (((u *ℤ determinant d f e.p.x e.p.y) +ℤ (determinant u v d f *ℤ x)) +ℤ (size u *ℤ h))
  reach_in_columns u v b x h room n behind most = joined _ _ _ _ _ _ _ _
      (scale_le b (determinant u v c.x c.y) d behind n)
      (apart u v d f c.x c.y)
      most
      (split u (determinant d f c.x c.y) (determinant d f e.p.x e.p.y))
      (times_within u (determinant d f c.x c.y -ℤ determinant d f e.p.x e.p.y) (size u) h (size_from u) (size_to u) (near h room).0 (near h room).1).1
    where
      apart : (u v d f x y : ℤ) → d *ℤ determinant u v x y ≡ (u *ℤ determinant d f x y) +ℤ (determinant u v d f *ℤ x)
      apart u v d f x y = ring (u ∷ v ∷ d ∷ f ∷ x ∷ y ∷ []) (var 2 ⊗ ((var 0 ⊗ var 5) ⊖ (var 1 ⊗ var 4))) ((var 0 ⊗ ((var 2 ⊗ var 5) ⊖ (var 3 ⊗ var 4))) ⊕ (((var 0 ⊗ var 3) ⊖ (var 1 ⊗ var 2)) ⊗ var 4)) refl

      split : (u a o : ℤ) → u *ℤ (a -ℤ o) ≡ (u *ℤ a) -ℤ (u *ℤ o)
      split u a o = ring (u ∷ a ∷ o ∷ []) (var 0 ⊗ (var 1 ⊖ var 2)) ((var 0 ⊗ var 1) ⊖ (var 0 ⊗ var 2)) refl

      joined : (db dw a g gx w o s : ℤ) → db ≤ℤ dw → dw ≡ a +ℤ g → g ≤ℤ gx → w ≡ a -ℤ o → w ≤ℤ s → db ≤ℤ ((o +ℤ gx) +ℤ s)
      joined db dw a g gx w o s h e k i l = omega (arith, linear)
