-- One vertex: the edges that end there stand together, what is put in their place keeps the order, and the next edge above is the lowest.
use mathlib.Core.Path.{◌≡◌, refl, sym, ◌∙◌, ap, subst}
use mathlib.Core.Bool.{true}
use mathlib.Core.List.{List, [], ◌∷◌, ◌++◌}
use mathlib.Core.Logic.{◌⊎◌, inl, inr, ⊎_elim}
use native.Mathlib.Omega.{arith}
use lib.IntN.{ℤ, pos, ◌+ℤ◌, ◌-ℤ◌, ◌*ℤ◌, neg_ℤ}
use lib.Signed.{◌<ℤ◌, ◌≤ℤ◌, lt_z, le_z}
use borrow.Author.Differences.{ints}
use Rattle.geom.specs.declared.point.Pt.{Pt}
use Rattle.geom.specs.declared.edge.Edge.{Edge}
use Rattle.geom.specs.Order.{IsBefore, IsUpTo}
use Rattle.geom.proofs.Lists.{In, in_append, in_front, in_back}
use Rattle.geom.proofs.Edges.{before_cases, before_by_cases, before_strict}
use Rattle.geom.proofs.Orders.{before_itself, before_trans}
use Rattle.geom.proofs.Integers.{expand, linear, mul_pos, by_sign}
use Rattle.geom.proofs.Numbers.{times_no_gap, from_no_gap, from_strict_gap, from_same, zero_is_not_positive, itself, weak, strict_gap_is}
use Rattle.points_law.proofs.Choices.{◌∧∧◌, run, rise, Noded}
use Rattle.points_law.proofs.ResultOfChoices.{Edges}
use Rattle.points_law.proofs.Meet.{off, slope}
use Rattle.points_law.proofs.Column.{cv, cv_low, cv_high}
use Rattle.points_law.proofs.Vertex.{over_pt, EndsAt, Vertex}
use Rattle.label_sweep.specs.Status.{IsUnder}
use Rattle.label_sweep.proofs.Order.{Common, by_turn, under_new, over_new}
use Rattle.label_sweep.proofs.West.{Lowest, ends_there}

-- ---- pairs, by recursion
abbrev pub Pairs : (Edge → Edge → Type 0) → List Edge → Type 0
Pairs R [] = Unit {0}
Pairs R (x ∷ xs) = ((y : Edge) → In y xs → R x y) × Pairs R xs

pub pairs_left : (R : Edge → Edge → Type 0) (xs ys : List Edge) → Pairs R (xs ++ ys) → Pairs R xs
pairs_left R [] ys p = tt
pairs_left R (x ∷ xs) ys p = ((λ y i. p.0 y (in_front xs ys y i)), pairs_left R xs ys p.1)

pub pairs_right : (R : Edge → Edge → Type 0) (xs ys : List Edge) → Pairs R (xs ++ ys) → Pairs R ys
pairs_right R [] ys p = p
pairs_right R (x ∷ xs) ys p = pairs_right R xs ys p.1

pub pairs_across : (R : Edge → Edge → Type 0) (xs ys : List Edge) → Pairs R (xs ++ ys) → (x y : Edge) → In x xs → In y ys → R x y
pairs_across R [] ys p x y i j = absurd i
pairs_across R (z ∷ xs) ys p x y (inl e) j = subst (λ w. R w y) e (p.0 y (in_back xs ys y j))
pairs_across R (z ∷ xs) ys p x y (inr i) j = pairs_across R xs ys p.1 x y i j

pub pairs_append : (R : Edge → Edge → Type 0) (xs ys : List Edge) → Pairs R xs → Pairs R ys → ((x y : Edge) → In x xs → In y ys → R x y) → Pairs R (xs ++ ys)
pairs_append R [] ys p q c = q
pairs_append R (x ∷ xs) ys p q c = ((λ y i. ⊎_elim (λ j. p.0 y j) (λ j. c x y (inl refl) j) (in_append xs ys y i)), pairs_append R xs ys p.1 q (λ z y i j. c z y (inr i) j))

-- ---- numbers
at_p : (r s px py y : ℤ) → (s *ℤ px +ℤ (py *ℤ r -ℤ px *ℤ s)) -ℤ r *ℤ y ≡ neg_ℤ (r *ℤ (y -ℤ py))
at_p r s px py y = simp expand (omega (arith, linear))

at_q : (px py qx qy y : ℤ) → ((qy -ℤ py) *ℤ qx +ℤ (py *ℤ (qx -ℤ px) -ℤ px *ℤ (qy -ℤ py))) -ℤ (qx -ℤ px) *ℤ y ≡ neg_ℤ ((qx -ℤ px) *ℤ (y -ℤ qy))
at_q px py qx qy y = simp expand (omega (arith, linear))

under_zero : (r d x : ℤ) → pos 0 <ℤ r → pos 0 <ℤ d → x ≡ neg_ℤ (r *ℤ d) → x <ℤ pos 0
under_zero r d x h i e = let k = mul_pos r d h i in omega (arith, linear)

pub clash : (x : ℤ) → pos 0 <ℤ x → x <ℤ pos 0 → ⊥
clash x h i = omega (arith, ints)

-- an edge with an end below v, in v's column, is below v
pub below_p : (f : Edge) (v : Pt) → f.p.x <ℤ f.q.x → f.p.x ≡ v.x → f.p.y <ℤ v.y → over_pt f v <ℤ pos 0
below_p f v s e h = under_zero (run f) (v.y -ℤ f.p.y) (over_pt f v) (strict_gap_is f.p.x f.q.x s) (strict_gap_is f.p.y v.y h)
    (ap (λ (t : ℤ). (rise f *ℤ t +ℤ off f) -ℤ run f *ℤ v.y) (sym e) ∙ at_p (run f) (rise f) f.p.x f.p.y v.y)

pub below_q : (f : Edge) (v : Pt) → f.p.x <ℤ f.q.x → f.q.x ≡ v.x → f.q.y <ℤ v.y → over_pt f v <ℤ pos 0
below_q f v s e h = under_zero (run f) (v.y -ℤ f.q.y) (over_pt f v) (strict_gap_is f.p.x f.q.x s) (strict_gap_is f.q.y v.y h)
    (ap (λ (t : ℤ). (rise f *ℤ t +ℤ off f) -ℤ run f *ℤ v.y) (sym e) ∙ at_q f.p.x f.p.y f.q.x f.q.y v.y)

zero_there : (r y x : ℤ) → x ≡ neg_ℤ (r *ℤ (y -ℤ y)) → x ≡ pos 0
zero_there r y x e = let k = times_no_gap r y in omega (arith, linear)

pub level_p : (f : Edge) (v : Pt) → f.p ≡ v → over_pt f v ≡ pos 0
level_p f v e = subst (λ (w : Pt). over_pt f w ≡ pos 0) e (zero_there (run f) f.p.y (over_pt f f.p) (at_p (run f) (rise f) f.p.x f.p.y f.p.y))

pub level_q : (f : Edge) (v : Pt) → f.q ≡ v → over_pt f v ≡ pos 0
level_q f v e = subst (λ (w : Pt). over_pt f w ≡ pos 0) e (zero_there (run f) f.q.y (over_pt f f.q) (at_q f.p.x f.p.y f.q.x f.q.y f.q.y))

-- ---- what reaches v and what goes on from it, by members
pub record Comes (es : List Edge) (v : Pt) (e : Edge) : Type 0 where
  pub inside : In e es
  pub slopes : e.p.x <ℤ e.q.x
  pub begun : IsBefore e.p v
  pub lasts : ¬ (IsBefore e.q v)

pub record Goes (es : List Edge) (v : Pt) (e : Edge) : Type 0 where
  pub inside : In e es
  pub slopes : e.p.x <ℤ e.q.x
  pub begun : IsUpTo e.p v
  pub lasts : IsBefore v e.q

pub record StandingEdge (P : Edge → Type 0) (s : List Edge) : Type 0 where
  pub sound : (e : Edge) → In e s → P e
  pub complete : (e : Edge) → P e → In e s
  pub order : Pairs IsUnder s

-- of two points one is before the other, or they are one
points : (u v : Pt) → {P : Type 0} → (IsBefore u v → P) → (u ≡ v → P) → (IsBefore v u → P) → P
points u v f g k = by_sign (v.x -ℤ u.x)
    (λ s. k (before_by_cases v u (inl (less u.x v.x s))))
    (λ s. by_sign (v.y -ℤ u.y)
    (λ t. k (before_by_cases v u (inr (sym (from_no_gap u.x v.x s), less u.y v.y t))))
    (λ t. g (λ i. record { x = from_no_gap u.x v.x s i; y = from_no_gap u.y v.y t i }))
    (λ t. f (before_by_cases u v (inr (from_no_gap u.x v.x s, from_strict_gap u.y v.y t)))))
    (λ s. f (before_by_cases u v (inl (from_strict_gap u.x v.x s))))
  where
    less : (a b : ℤ) → (b -ℤ a) <ℤ pos 0 → b <ℤ a
    less a b h = omega (arith, ints)

le_of : (u v : Pt) → ¬ (IsBefore u v) → v.x ≤ℤ u.x
le_of u v n = points u v (λ h. absurd (n h)) (λ e. from_same v.x u.x (ap (λ (w : Pt). w.x) (sym e))) (λ h. h.column)

-- v lies in the range of what reaches it
pub comes_common : (es : List Edge) (v : Pt) (e f : Edge) → Comes es v e → Comes es v f → Common e f v.x
comes_common es v e f a b = record { e_low = a.begun.column; e_high = le_of e.q v a.lasts; f_low = b.begun.column; f_high = le_of f.q v b.lasts }

pub comes_run : (es : List Edge) (v : Pt) (e : Edge) → Comes es v e → pos 0 <ℤ run e
comes_run es v e c = strict_gap_is e.p.x e.q.x c.slopes

-- what reaches v at its own height ends there
pub comes_end : (es : List Edge) → Noded es → (v : Pt) → Vertex es v → (e : Edge) → Comes es v e → over_pt e v ≡ pos 0 → e.q ≡ v
comes_end es n v x e c z = which (ends_there es n v x e c.inside (comes_run es v e c) c.begun.column (le_of e.q v c.lasts) z)
  where
    which : EndsAt e v → e.q ≡ v
    which (inl k) = absurd (before_itself v (subst (λ (w : Pt). IsBefore w v) (sym k) c.begun))
    which (inr k) = sym k

-- ---- the vertex
module _ (es : List Edge) (h : Edges es) (v : Pt) (x : Vertex es v) (low mid high fresh : List Edge)
    (s : StandingEdge (Comes es v) (low ++ (mid ++ high)))
    (is_low : (e : Edge) → In e low → over_pt e v <ℤ pos 0)
    (is_mid : (e : Edge) → In e mid → over_pt e v ≡ pos 0)
    (is_high : (e : Edge) → In e high → pos 0 <ℤ over_pt e v) where
  pub from_low : (e : Edge) → In e low → Comes es v e
  from_low e i = s.sound e (in_front low (mid ++ high) e i)

  pub from_mid : (e : Edge) → In e mid → Comes es v e
  from_mid e i = s.sound e (in_back low (mid ++ high) e (in_front mid high e i))

  pub from_high : (e : Edge) → In e high → Comes es v e
  from_high e i = s.sound e (in_back low (mid ++ high) e (in_back mid high e i))

  parts : (e : Edge) → In e (low ++ (mid ++ high)) → {P : Type 0} → (In e low → P) → (In e mid → P) → (In e high → P) → P
  parts e i f g k = ⊎_elim f (λ j. ⊎_elim g k (in_append mid high e j)) (in_append low (mid ++ high) e i)

  zero_not_low : (y : ℤ) → y ≡ pos 0 → y <ℤ pos 0 → ⊥
  zero_not_low y e t = omega (arith, ints)

  -- ---- the lowest above
  column_from : (p q y : ℤ) → p <ℤ y → y ≤ℤ q → le_z p (y -ℤ pos 1) ∧∧ lt_z (y -ℤ pos 1) q ≡ true
  column_from p q y i j = grind (arith, ints)

  left_of : (f : Edge) → Comes es v f → pos 0 <ℤ over_pt f v → f.p.x <ℤ v.x
  left_of f c o = ⊎_elim (λ l. l) (λ e. absurd (clash (over_pt f v) o (below_p f v c.slopes e.0 e.1))) (before_cases f.p v c.begun)

  reach : (f : Edge) → Comes es v f → pos 0 <ℤ over_pt f v → cv f (v.x -ℤ pos 1) ≡ true
  reach f c o = column_from f.p.x f.q.x v.x (left_of f c o) (le_of f.q v c.lasts)

  arrives : (g : Edge) → In g es → cv g (v.x -ℤ pos 1) ≡ true → pos 0 <ℤ over_pt g v → Comes es v g
  arrives g i c o = record {
    inside = i;
    slopes = slope_of g.p.x g.q.x v.x (cv_low g _ c) (cv_high g _ c);
    begun = before_by_cases g.p v (inl (less g.p.x v.x (cv_low g _ c)));
    lasts = λ b. ⊎_elim (λ l. past g.q.x v.x (cv_high g _ c) l)
        (λ e. clash (over_pt g v) o (below_q g v (slope_of g.p.x g.q.x v.x (cv_low g _ c) (cv_high g _ c)) e.0 e.1)) (before_cases g.q v b);
  }
    where
      slope_of : (p q y : ℤ) → p ≤ℤ (y -ℤ pos 1) → (y -ℤ pos 1) <ℤ q → p <ℤ q
      slope_of p q y a b = omega (arith, ints)

      less : (p y : ℤ) → p ≤ℤ (y -ℤ pos 1) → p <ℤ y
      less p y a = omega (arith, ints)

      past : (q y : ℤ) → (y -ℤ pos 1) <ℤ q → q <ℤ y → ⊥
      past q y a b = omega (arith, ints)

  in_high : (g : Edge) → In g es → cv g (v.x -ℤ pos 1) ≡ true → pos 0 <ℤ over_pt g v → In g high
  in_high g i c o = parts g (s.complete g (arrives g i c o))
      (λ j. absurd (clash (over_pt g v) o (is_low g j))) (λ j. absurd (zero_is_not_positive (over_pt g v) (is_mid g j) o)) (λ j. j)

  pub none_above : high ≡ [] → (g : Edge) → In g es → cv g (v.x -ℤ pos 1) ≡ true → pos 0 <ℤ over_pt g v → ⊥
  none_above e g i c o = subst (λ t. In g t) e (in_high g i c o)

  flat_self : (e : Edge) → pos 0 ≤ℤ slope e e
  flat_self e = none (run e) (rise e)
    where
      none : (r t : ℤ) → pos 0 ≤ℤ (r *ℤ t -ℤ r *ℤ t)
      none r t = omega (arith, ints)

  first_under : (f : Edge) (rest : List Edge) → Pairs IsUnder (f ∷ rest) → (g : Edge) → In g (f ∷ rest) → IsUnder f g
  first_under f rest p g (inl e) = subst (λ w. IsUnder f w) e (by_turn f f refl (flat_self f))
  first_under f rest p g (inr i) = p.0 g i

  pairs_high : Pairs IsUnder high
  pairs_high = pairs_right IsUnder mid high (pairs_right IsUnder low (mid ++ high) s.order)

  pub lowest_above : (f : Edge) (rest : List Edge) → high ≡ f ∷ rest → Lowest es v f
  lowest_above f rest e = record {
    inside = (from_high f here).inside;
    reaches = reach f (from_high f here) (is_high f here);
    above = is_high f here;
    least = λ g i c o. first_under f rest (subst (λ t. Pairs IsUnder t) e pairs_high) g (subst (λ t. In g t) e (in_high g i c o));
  }
    where
      here : In f high
      here = subst (λ t. In f t) (sym e) (inl refl)

  -- ---- what stands after v
  module _ (are_fresh : (e : Edge) → In e fresh → In e es × (e.p.x <ℤ e.q.x) × (e.p ≡ v))
      (all_fresh : (e : Edge) → In e es → e.p.x <ℤ e.q.x → e.p ≡ v → In e fresh)
      (fresh_order : Pairs IsUnder fresh) where
    goes_from : (e : Edge) → Comes es v e → (over_pt e v ≡ pos 0 → ⊥) → Goes es v e
    goes_from e c n = record { inside = c.inside; slopes = c.slopes; begun = inr c.begun; lasts = points e.q v (λ b. absurd (c.lasts b)) (λ k. absurd (n (level_q e v k))) (λ b. b) }

    goes_fresh : (e : Edge) → In e fresh → Goes es v e
    goes_fresh e i = let k = are_fresh e i in record { inside = k.0; slopes = k.1; begun = inl k.2; lasts = subst (λ (w : Pt). IsBefore w e.q) k.2 e.ordered }

    sound_after : (e : Edge) → In e (low ++ (fresh ++ high)) → Goes es v e
    sound_after e i = ⊎_elim (λ j. goes_from e (from_low e j) (λ z. zero_not_low (over_pt e v) z (is_low e j)))
        (λ j. ⊎_elim (λ k. goes_fresh e k) (λ k. goes_from e (from_high e k) (λ z. zero_is_not_positive (over_pt e v) z (is_high e k))) (in_append fresh high e j))
        (in_append low (fresh ++ high) e i)

    stays : (e : Edge) → Goes es v e → IsBefore e.p v → In e (low ++ (fresh ++ high))
    stays e g b = parts e (s.complete e (record { inside = g.inside; slopes = g.slopes; begun = b; lasts = λ k. before_strict v e.q g.lasts k }))
        (λ j. in_front low (fresh ++ high) e j)
        (λ j. absurd (before_itself v (subst (λ (w : Pt). IsBefore v w) (comes_end es h.noded v x e (from_mid e j) (is_mid e j)) g.lasts)))
        (λ j. in_back low (fresh ++ high) e (in_back fresh high e j))

    complete_after : (e : Edge) → Goes es v e → In e (low ++ (fresh ++ high))
    complete_after e g = ⊎_elim (λ k. in_back low (fresh ++ high) e (in_front fresh high e (all_fresh e g.inside g.slopes k))) (λ b. stays e g b) g.begun

    at_fresh : (g e : Edge) → Comes es v g → In e fresh → Common g e e.p.x
    at_fresh g e c i = let k = are_fresh e i in record {
      e_low = subst (λ (w : Pt). g.p.x ≤ℤ w.x) (sym k.2) c.begun.column;
      e_high = subst (λ (w : Pt). w.x ≤ℤ g.q.x) (sym k.2) (le_of g.q v c.lasts);
      f_low = itself e.p.x;
      f_high = weak e.p.x e.q.x k.1;
    }

    turned : (g e : Edge) → Common g e e.p.x → Common e g e.p.x
    turned g e c = record { e_low = c.f_low; e_high = c.f_high; f_low = c.e_low; f_high = c.e_high }

    apart : (g e : Edge) → In e fresh → (over_pt g v ≡ pos 0 → ⊥) → ¬ (g ≡ e)
    apart g e i n k = n (subst (λ w. over_pt w v ≡ pos 0) (sym k) (level_p e v (are_fresh e i).2))

    low_fresh : (g e : Edge) → In g low → In e fresh → IsUnder g e
    low_fresh g e i j = let k = are_fresh e j in under_new g e (h.noded g e (from_low g i).inside k.0 (apart g e j (λ z. zero_not_low (over_pt g v) z (is_low g i))))
        (comes_run es v g (from_low g i)) (strict_gap_is e.p.x e.q.x k.1) (at_fresh g e (from_low g i) j) (subst (λ (w : Pt). over_pt g w <ℤ pos 0) (sym k.2) (is_low g i))

    fresh_high : (e g : Edge) → In e fresh → In g high → IsUnder e g
    fresh_high e g j i = let k = are_fresh e j in over_new g e (h.noded e g k.0 (from_high g i).inside (λ t. apart g e j (λ z. zero_is_not_positive (over_pt g v) z (is_high g i)) (sym t)))
        (comes_run es v g (from_high g i)) (strict_gap_is e.p.x e.q.x k.1) (turned g e (at_fresh g e (from_high g i) j)) (subst (λ (w : Pt). pos 0 <ℤ over_pt g w) (sym k.2) (is_high g i))

    order_after : Pairs IsUnder (low ++ (fresh ++ high))
    order_after = pairs_append IsUnder low (fresh ++ high) (pairs_left IsUnder low (mid ++ high) s.order)
        (pairs_append IsUnder fresh high fresh_order pairs_high fresh_high)
        (λ g e i j. ⊎_elim (λ k. low_fresh g e i k) (λ k. pairs_across IsUnder low (mid ++ high) s.order g e i (in_back mid high e k)) (in_append fresh high e j))

    pub step : StandingEdge (Goes es v) (low ++ (fresh ++ high))
    step = record { sound = sound_after; complete = complete_after; order = order_after }

-- ---- from one vertex to the next: nothing begins or ends between them
pub carried : (es : List Edge) (v w : Pt) (s : List Edge) → IsBefore v w
    → ((e : Edge) → In e es → (u : Pt) → (u ≡ e.p) ⊎ (u ≡ e.q) → IsBefore v u → IsBefore u w → ⊥)
    → StandingEdge (Goes es v) s → StandingEdge (Comes es w) s
carried es v w s b n t = record { sound = sound; complete = complete; order = t.order }
  where
    later : (p : Pt) → IsUpTo p v → IsBefore p w
    later p (inl e) = subst (λ (u : Pt). IsBefore u w) (sym e) b
    later p (inr k) = before_trans p v w k b

    sound : (e : Edge) → In e s → Comes es w e
    sound e i = let g = t.sound e i in record { inside = g.inside; slopes = g.slopes; begun = later e.p g.begun; lasts = λ k. n e g.inside e.q (inr refl) g.lasts k }

    complete : (e : Edge) → Comes es w e → In e s
    complete e c = t.complete e (record {
      inside = c.inside;
      slopes = c.slopes;
      begun = points e.p v (λ k. inr k) (λ k. inl k) (λ k. absurd (n e c.inside e.p (inl refl) k c.begun));
      lasts = points v e.q (λ k. k) (λ k. absurd (c.lasts (subst (λ (u : Pt). IsBefore u w) k b))) (λ k. absurd (c.lasts (before_trans e.q v w k b)));
    })
