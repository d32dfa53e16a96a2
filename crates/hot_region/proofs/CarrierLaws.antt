-- Lines that have one strand have one carrier: between the borders the one has the points of the other, and its crossings.
use Rattle.std.proofs.Common.{◌≡◌, ◌⊎◌, ◌+◌, ◌<◌, ◌≤◌, ℕ, inl, inr, List, [], ◌∷◌, ◌++◌, Some, refl, sym, ◌∙◌, ap, arith, subst, get_or, length, take, ⊎_elim}
use Rattle.std.proofs.Math.IntN.{ℤ, pos, ◌+ℤ◌, ◌-ℤ◌, ◌*ℤ◌}
use Rattle.std.specs.Prelude.{◌<ℤ◌, ◌≤ℤ◌, All, Contains, IfSome, Option, slice_get}
use Rattle.std.specs.List.Sorted.{IsPermutation}
use Rattle.std.proofs.lemmas.Int.{ints}
use Rattle.std.proofs.lemmas.List.{take_all}
use Rattle.std.proofs.lemmas.List.Elements.{Contains-get_or, Contains-push, Contains-push_cases}
use Rattle.std.proofs.lemmas.List.Sorted.{Contains-permutation, IsPermutation-sym}
use Rattle.std.proofs.lemmas.Option.{slice_get_within, slice_get-get_or}
use Rattle.geom.specs.declared.point.Pt.{Pt}
use Rattle.geom.specs.declared.edge.Edge.{Edge}
use Rattle.geom.specs.declared.segment.Seg.{Seg}
use Rattle.geom.specs.declared.rect.Rect.{Rect}
use Rattle.geom.specs.Hot.{CrossIn}
use Rattle.geom.specs.OnSegment.{IsOn}
use Rattle.geom.specs.Pixel.{Point, pixel}
use Rattle.geom.proofs.Integers.{mul_add, mul_pos, scale_le, unscale_eq}
use Rattle.geom.proofs.Identity.{var, num, ◌⊕◌, ◌⊖◌, ◌⊗◌, ring}
use Rattle.geom.proofs.Numbers.{from_no_gap, weak}
use Rattle.geom.proofs.Pixels.{in_pixel}
use Rattle.hot_region.specs.declared.bundle.Course.{Course}
use Rattle.hot_region.specs.declared.bundle.Course.TheVariants.{Columns, Rows}
use Rattle.hot_region.specs.declared.bundle.Strand.{Strand}
use Rattle.hot_region.specs.declared.carrier.Carried.{Carried}
use Rattle.hot_region.specs.declared.lines.Line.{Line}
use Rattle.hot_region.specs.Bundle.{exchanged, seen_point, IsStrand, IsStrandSeen}
use Rattle.hot_region.specs.Carriers.{AreCarried, HasOneOfEach, HaveOneStrand, IsCarried, IsStoodFor, KeepsCrossings}
use Rattle.hot_region.specs.Halving.{edges_of, IsCrossing, IsEndOf}
use Rattle.hot_region.specs.Lines.{CrossAt, HasAllCrossed}
use Rattle.hot_region.specs.Rects.{IsIn}
use Rattle.hot_region.proofs.BundleLaws.{base, doubled, flip, flip_back, flip_cross, flip_line, left_of, on_line, right_of, run_positive, same_at, same_parallel}
use Rattle.hot_region.proofs.HalvingLaws.{edge_in, line_at}
use Rattle.hot_region.proofs.HotLaws.{cross_lines}
use Rattle.hot_region.proofs.LineLaws.{cross_at, same_line, segment_line, segment_of}
use Rattle.hot_region.proofs.ListLaws.{in_push, in_take_more, none_in}
use Rattle.hot_region.proofs.CrossingLaws.{cross_turn}

-- ---- numbers
rest : (x b s : ℤ) → x +ℤ (b *ℤ s) ≡ pos 0 → s ≡ pos 0 → x ≡ pos 0
rest x b s h k =
    ring (x ∷ b ∷ s ∷ []) (var 0) ((var 0 ⊕ (var 1 ⊗ var 2)) ⊖ (var 1 ⊗ var 2)) refl
    ∙ ap (λ w. w -ℤ (b *ℤ s)) h
    ∙ ap (λ w. pos 0 -ℤ (b *ℤ w)) k
    ∙ ring (b ∷ []) (num (pos 0) ⊖ (var 0 ⊗ num (pos 0))) (num (pos 0)) refl

-- a point that fits the equation of a line fits that of another one of its carrier
carried_over : (a r d b s g x y n : ℤ) → pos 0 <ℤ r → (r *ℤ g) -ℤ (d *ℤ s) ≡ pos 0 → a *ℤ s ≡ b *ℤ r → (n *ℤ a) +ℤ (x *ℤ d) ≡ r *ℤ y → (n *ℤ b) +ℤ (x *ℤ g) ≡ s *ℤ y
carried_over a r d b s g x y n p slope level at = unscale_eq _ _ r
    (ring (r ∷ b ∷ g ∷ x ∷ n ∷ d ∷ s ∷ []) (var 0 ⊗ ((var 4 ⊗ var 1) ⊕ (var 3 ⊗ var 2))) (((var 4 ⊗ (var 1 ⊗ var 0)) ⊕ (var 3 ⊗ (var 5 ⊗ var 6))) ⊕ (var 3 ⊗ ((var 0 ⊗ var 2) ⊖ (var 5 ⊗ var 6)))) refl
    ∙ ap (λ w. ((n *ℤ w) +ℤ (x *ℤ (d *ℤ s))) +ℤ (x *ℤ ((r *ℤ g) -ℤ (d *ℤ s)))) (sym level)
    ∙ ap (λ w. ((n *ℤ (a *ℤ s)) +ℤ (x *ℤ (d *ℤ s))) +ℤ (x *ℤ w)) slope
    ∙ ring (a ∷ d ∷ s ∷ x ∷ n ∷ []) (((var 4 ⊗ (var 0 ⊗ var 2)) ⊕ (var 3 ⊗ (var 1 ⊗ var 2))) ⊕ (var 3 ⊗ num (pos 0))) (var 2 ⊗ ((var 4 ⊗ var 0) ⊕ (var 3 ⊗ var 1))) refl
    ∙ ap (λ w. s *ℤ w) at
    ∙ ring (r ∷ s ∷ y ∷ []) (var 1 ⊗ (var 0 ⊗ var 2)) (var 0 ⊗ (var 1 ⊗ var 2)) refl) p

x_at : (n r p x : ℤ) → (n *ℤ r) *ℤ x ≡ n *ℤ (((n *ℤ r) *ℤ p) +ℤ ((x -ℤ (n *ℤ p)) *ℤ r))
x_at n r p x = ring (n ∷ r ∷ p ∷ x ∷ []) ((var 0 ⊗ var 1) ⊗ var 3) (var 0 ⊗ (((var 0 ⊗ var 1) ⊗ var 2) ⊕ ((var 3 ⊖ (var 0 ⊗ var 2)) ⊗ var 1))) refl

y_at : (n r d px py x y : ℤ) → (n *ℤ ((r *ℤ (py +ℤ py)) -ℤ (d *ℤ (px +ℤ px)))) +ℤ ((x +ℤ x) *ℤ d) ≡ r *ℤ (y +ℤ y) → (n *ℤ r) *ℤ y ≡ n *ℤ (((n *ℤ r) *ℤ py) +ℤ ((x -ℤ (n *ℤ px)) *ℤ d))
y_at n r d px py x y h = unscale_eq _ _ (pos 2)
    (ring (n ∷ r ∷ y ∷ []) (num (pos 2) ⊗ ((var 0 ⊗ var 1) ⊗ var 2)) (var 0 ⊗ (var 1 ⊗ (var 2 ⊕ var 2))) refl
    ∙ ap (λ w. n *ℤ w) (sym h)
    ∙ ring (n ∷ r ∷ d ∷ px ∷ py ∷ x ∷ []) (var 0 ⊗ ((var 0 ⊗ ((var 1 ⊗ (var 4 ⊕ var 4)) ⊖ (var 2 ⊗ (var 3 ⊕ var 3)))) ⊕ ((var 5 ⊕ var 5) ⊗ var 2))) (num (pos 2) ⊗ (var 0 ⊗ (((var 0 ⊗ var 1) ⊗ var 4) ⊕ ((var 5 ⊖ (var 0 ⊗ var 3)) ⊗ var 2)))) refl)
    (omega (arith, ints))

from_left : (n low p x : ℤ) → pos 0 <ℤ n → p <ℤ low → (n *ℤ ((low +ℤ low) -ℤ pos 1)) ≤ℤ (x +ℤ x) → pos 0 ≤ℤ (x -ℤ (n *ℤ p))
from_left n low p x positive l h = join (n *ℤ p) _ _ x (mul_add p p n) (scale_le (p +ℤ p) ((low +ℤ low) -ℤ pos 1) n (apart low p l) (weak _ _ positive)) h
  where
    apart : (low p : ℤ) → p <ℤ low → (p +ℤ p) ≤ℤ ((low +ℤ low) -ℤ pos 1)
    apart low p l = omega (arith, ints)

    join : (v a b x : ℤ) → a ≡ v +ℤ v → a ≤ℤ b → b ≤ℤ (x +ℤ x) → pos 0 ≤ℤ (x -ℤ v)
    join v a b x e i j = omega (arith, ints)

to_right : (n high p q x : ℤ) → pos 0 <ℤ n → high <ℤ q → (x +ℤ x) ≤ℤ (n *ℤ ((high +ℤ high) +ℤ pos 1)) → (x -ℤ (n *ℤ p)) ≤ℤ (n *ℤ (q -ℤ p))
to_right n high p q x positive l h = join (n *ℤ p) (n *ℤ q) _ _ _ x (mul_add q q n) (split n q p) h (scale_le ((high +ℤ high) +ℤ pos 1) (q +ℤ q) n (apart high q l) (weak _ _ positive))
  where
    apart : (high q : ℤ) → high <ℤ q → ((high +ℤ high) +ℤ pos 1) ≤ℤ (q +ℤ q)
    apart high q l = omega (arith, ints)

    split : (n q p : ℤ) → n *ℤ (q -ℤ p) ≡ (n *ℤ q) -ℤ (n *ℤ p)
    split n q p = ring (n ∷ q ∷ p ∷ []) (var 0 ⊗ (var 1 ⊖ var 2)) ((var 0 ⊗ var 1) ⊖ (var 0 ⊗ var 2)) refl

    join : (v w a b g x : ℤ) → a ≡ w +ℤ w → g ≡ w -ℤ v → (x +ℤ x) ≤ℤ b → b ≤ℤ a → (x -ℤ v) ≤ℤ g
    join v w a b g x e f i j = omega (arith, ints)

-- what is parallel to one of two parallel lines is parallel to the other
still_parallel : (r d s g x y : ℤ) → pos 0 <ℤ s → (r *ℤ g) -ℤ (d *ℤ s) ≡ pos 0 → (s *ℤ y) -ℤ (g *ℤ x) ≡ pos 0 → (r *ℤ y) -ℤ (d *ℤ x) ≡ pos 0
still_parallel r d s g x y p slope h = unscale_eq _ _ s
    (ring (r ∷ d ∷ s ∷ g ∷ x ∷ y ∷ []) (var 2 ⊗ ((var 0 ⊗ var 5) ⊖ (var 1 ⊗ var 4))) ((var 0 ⊗ ((var 2 ⊗ var 5) ⊖ (var 3 ⊗ var 4))) ⊕ (((var 0 ⊗ var 3) ⊖ (var 1 ⊗ var 2)) ⊗ var 4)) refl
    ∙ ap (λ w. (r *ℤ w) +ℤ (((r *ℤ g) -ℤ (d *ℤ s)) *ℤ x)) h
    ∙ ap (λ w. (r *ℤ pos 0) +ℤ (w *ℤ x)) slope
    ∙ ring (r ∷ s ∷ x ∷ []) ((var 0 ⊗ num (pos 0)) ⊕ (num (pos 0) ⊗ var 2)) (var 1 ⊗ num (pos 0)) refl) p

-- ---- two lines that have one strand
module _ (low high : ℤ) (e f : Edge) (s : Strand) (c : Pt) (l : low ≤ℤ c.x) (r : c.x ≤ℤ high) (es : IsStrand low high e s) (fs : IsStrand low high f s) where
  slopes : ((e.q.x -ℤ e.p.x) *ℤ (f.q.y -ℤ f.p.y)) -ℤ ((e.q.y -ℤ e.p.y) *ℤ (f.q.x -ℤ f.p.x)) ≡ pos 0
  slopes = same_parallel low high e f s s c l r es fs (record { left = refl; right = refl })

  bases : base e *ℤ (f.q.x -ℤ f.p.x) ≡ base f *ℤ (e.q.x -ℤ e.p.x)
  bases =
      let border = (low +ℤ low) -ℤ pos 1 in
      let re = e.q.x -ℤ e.p.x in
      let de = e.q.y -ℤ e.p.y in
      let rf = f.q.x -ℤ f.p.x in
      let df = f.q.y -ℤ f.p.y in
      from_no_gap (base e *ℤ rf) (base f *ℤ re) (rest ((base f *ℤ re) -ℤ (base e *ℤ rf)) border ((df *ℤ re) -ℤ (de *ℤ rf)) (same_at low high e f s s c l r es fs border s.left s.left es.left fs.left refl) (turned re df de rf slopes))
    where
      turned : (a b d g : ℤ) → (a *ℤ b) -ℤ (d *ℤ g) ≡ pos 0 → (b *ℤ a) -ℤ (d *ℤ g) ≡ pos 0
      turned a b d g h = ring (a ∷ b ∷ d ∷ g ∷ []) ((var 1 ⊗ var 0) ⊖ (var 2 ⊗ var 3)) ((var 0 ⊗ var 1) ⊖ (var 2 ⊗ var 3)) refl ∙ h

  -- a point of the one between the borders is one of the other
  point_carried : (z : Point) → pixel z ≡ c → IsOn e.p e.q z → IsOn f.p f.q z
  point_carried z in_c on =
      let column = (in_pixel z c in_c).column in
      let run_e = run_positive low high c.x e.p.x e.q.x es.through.from es.through.to l r in
      let run_f = run_positive low high c.x f.p.x f.q.x fs.through.from fs.through.to l r in
      let at_e = doubled (e.q.x -ℤ e.p.x) (e.q.y -ℤ e.p.y) e.p.x e.p.y z.x z.y z.n (on_line e.p e.q z on) in
      let at_f = carried_over (base e) (e.q.x -ℤ e.p.x) (e.q.y -ℤ e.p.y) (base f) (f.q.x -ℤ f.p.x) (f.q.y -ℤ f.p.y) (z.x +ℤ z.x) (z.y +ℤ z.y) z.n run_e slopes bases at_e in (
        z.x -ℤ (z.n *ℤ f.p.x),
        z.n *ℤ (f.q.x -ℤ f.p.x),
        record {
          ratio = record {
            positive = mul_pos z.n (f.q.x -ℤ f.p.x) z.positive run_f;
            from = from_left z.n low f.p.x z.x z.positive fs.through.from (left_of z.n low c.x z.x z.positive l column.from);
            to = to_right z.n high f.p.x f.q.x z.x z.positive fs.through.to (right_of z.n high c.x z.x z.positive r column.below);
          };
          x_is = x_at z.n (f.q.x -ℤ f.p.x) f.p.x z.x;
          y_is = y_at z.n (f.q.x -ℤ f.p.x) (f.q.y -ℤ f.p.y) f.p.x f.p.y z.x z.y at_f;
        },
      )

  cross_carried : (v : Seg) → CrossIn (segment_of e) v c → CrossIn (segment_of f) v c
  unfolding segment_of
  cross_carried v h = record {
    not_parallel = λ q. h.not_parallel (still_parallel (e.q.x -ℤ e.p.x) (e.q.y -ℤ e.p.y) (f.q.x -ℤ f.p.x) (f.q.y -ℤ f.p.y) (v.b.x -ℤ v.a.x) (v.b.y -ℤ v.a.y) (run_positive low high c.x f.p.x f.q.x fs.through.from fs.through.to l r) slopes q);
    z = h.z;
    on_first = point_carried h.z h.in_pixel h.on_first;
    on_second = h.on_second;
    in_pixel = h.in_pixel;
  }

-- a line that crosses one of two lines with one strand crosses the other
cross_either : (course : Course) (low high : ℤ) (e f g : Edge) (s : Strand) (c : Pt) → low ≤ℤ (seen_point course c).x → (seen_point course c).x ≤ℤ high → IsStrandSeen course low high e s → IsStrandSeen course low high f s → CrossAt e g c → CrossAt f g c
cross_either Columns low high e f g s c l r (e', h, es) (f', k, fs) x =
    cross_at f g (segment_of f) (segment_of g) c (segment_line f) (segment_line g)
    (cross_carried low high e f s c l r (subst (λ i. IsStrand low high i s) (sym h) es) (subst (λ i. IsStrand low high i s) (sym k) fs) (segment_of g) (x.cross (segment_of e) (segment_of g) (segment_line e) (segment_line g)))
cross_either Rows low high e f g s c l r (e', h, es) (f', k, fs) x =
    let u = flip (segment_of e) in
    let v = flip (segment_of f) in
    let w = flip (segment_of g) in
    let d = exchanged c in
    let first = flip_cross (segment_of e) (segment_of g) c (x.cross (segment_of e) (segment_of g) (segment_line e) (segment_line g)) in
    let second = cross_lines u w (segment_of e') w d (same_line e' u (segment_of e') (flip_line e e' h) (segment_line e')) (inl (refl, refl)) first in
    let third = cross_carried low high e' f' s d l r es fs w second in
    let fourth = cross_lines (segment_of f') w v w d (same_line f' (segment_of f') v (segment_line f') (flip_line f f' k)) (inl (refl, refl)) third in
    cross_at f g (flip v) (flip w) c (flip_back f) (flip_back g) (flip_cross v w d fourth)

-- ---- the borders of a rectangle, as they are seen
pub after_low : (course : Course) (rect : Rect) (c : Pt) → IsIn rect c → (seen_point course rect.lo).x ≤ℤ (seen_point course c).x
after_low Columns rect c t = t.left
after_low Rows rect c t = t.bottom

pub up_to_high : (course : Course) (rect : Rect) (c : Pt) → IsIn rect c → (seen_point course c).x ≤ℤ (seen_point course rect.hi).x
up_to_high Columns rect c t = t.right
up_to_high Rows rect c t = t.top

pub low_to_high : (course : Course) (rect : Rect) → (seen_point course rect.lo).x ≤ℤ (seen_point course rect.hi).x
low_to_high Columns rect = rect.wide
low_to_high Rows rect = rect.high

-- ---- items of lines
pub some_one : {X : Type 0} (o : Option X) (a b : X) → o ≡ Some a → o ≡ Some b → a ≡ b
some_one o a b h k = let g : Some a ≡ Some b = sym h ∙ k in cc

-- items of the lines before a place
pub record AreCarriedUpTo (course : Course) (low high : ℤ) (lines : List Line) (i : ℕ) (items : List Carried) : Type 0 where
  pub only : (c : Carried) → Contains items c → (l : Line) × IsCarried course low high lines c l
  pub all : (l : Line) → Contains (take i lines) l → (c : Carried) × Contains items c × IsCarried course low high lines c l

module _ (course : Course) (low high : ℤ) (lines : List Line) where
  pub carried_none : AreCarriedUpTo course low high lines 0 []
  carried_none = record { only = λ c h. absurd (none_in c h); all = λ l h. absurd (none_in l h) }

  pub carried_more : (i : ℕ) (items : List Carried) (l : Line) (c : Carried) → i < length lines → l ≡ get_or lines i l → c.place ≡ i → IfSome c.strand (λ s. IsStrandSeen course low high l.edge s) → AreCarriedUpTo course low high lines i items → AreCarriedUpTo course low high lines (i + 1) (items ++ c ∷ [])
  carried_more i items l c below is at strand h = record {
    only = λ d k. ⊎_elim (λ m. h.only d m) (λ e. subst (λ (x : Carried). (m : Line) × IsCarried course low high lines x m) e (l, this)) (Contains-push_cases items c d k);
    all = λ m k. ⊎_elim
        (λ n. let r = h.all m n in (r.0, in_push items r.0 c r.1, r.2))
        (λ e. (c, Contains-push items c, subst (λ (x : Line). IsCarried course low high lines c x) e this))
        ((in_take_more lines i l below is m).0 k);
  }
    where
      this : IsCarried course low high lines c l
      this = record { at = subst (λ k. slice_get lines k ≡ Some l) (sym at) (slice_get-get_or lines i l below ∙ ap Some (sym is)); strand = strand }

  pub carried_all : (i : ℕ) (items : List Carried) → length lines ≤ i → AreCarriedUpTo course low high lines i items → AreCarried course low high lines items
  carried_all i items past h = record { only = h.only; all = λ l k. h.all l (subst (λ (ls : List Line). Contains ls l) (sym (take_all i lines past)) k) }

  module _ (items sorted : List Carried) (are : AreCarried course low high lines items) (moved : IsPermutation items sorted) where
    pub places_below : All (λ c. c.place < length lines) sorted
    places_below = λ k d below.
        let c = get_or sorted k d in
        let r = are.only c (Contains-permutation sorted items c (IsPermutation-sym items sorted moved) (Contains-get_or sorted k d below)) in
        slice_get_within lines c.place r.0 r.1.at

    module _ (kept : List Line) (has : HasOneOfEach lines sorted kept) where
      -- a line's own place, or that of one with its strand
      record IsLike (l m : Line) : Type 0 where
        strand : Strand
        first : IsStrandSeen course low high l.edge strand
        second : IsStrandSeen course low high m.edge strand

      like : (c : Carried) (l : Line) → IsCarried course low high lines c l → (w : IsStoodFor lines sorted kept c) → (c ≡ w.other) ⊎ HaveOneStrand c w.other → (l ≡ w.line) ⊎ IsLike l w.line
      like c l is w (inl e) = inl (some_one _ _ _ (subst (λ (x : Carried). slice_get lines x.place ≡ Some l) e is.at) w.at)
      like c l is w (inr one) =
          let r = are.only w.other (Contains-permutation sorted items w.other (IsPermutation-sym items sorted moved) w.listed) in
          let at = subst (λ o. IfSome o (λ s. IsStrandSeen course low high r.0.edge s)) one.second r.1.strand in
          inr (record {
            strand = one.strand;
            first = subst (λ o. IfSome o (λ s. IsStrandSeen course low high l.edge s)) one.first is.strand;
            second = subst (λ (x : Line). IsStrandSeen course low high x.edge one.strand) (some_one _ _ _ r.1.at w.at) at;
          })

      stood_for : (l : Line) → Contains lines l → (m : Line) × Contains kept m × ((l ≡ m) ⊎ IsLike l m)
      stood_for l h =
          let r = are.all l h in
          let w = has.all r.0 (Contains-permutation items sorted r.0 moved r.1) in
          (w.line, w.is_kept, like r.0 l r.2 w w.like)

      module _ (c : Pt) (from : low ≤ℤ (seen_point course c).x) (to : (seen_point course c).x ≤ℤ high) where
        exchange : (l m : Line) (g : Edge) → (l ≡ m) ⊎ IsLike l m → CrossAt l.edge g c → CrossAt m.edge g c
        exchange l m g (inl e) x = subst (λ (n : Line). CrossAt n.edge g c) e x
        exchange l m g (inr h) x = cross_either course low high l.edge m.edge g h.strand c from to h.first h.second x

        kept_cross : IsCrossing (edges_of lines) c → IsCrossing (edges_of kept) c
        kept_cross k =
            let i = line_at lines k.e k.e_listed in
            let j = line_at lines k.f k.f_listed in
            let m = stood_for i.0 i.1 in
            let n = stood_for j.0 j.1 in
            let x = subst (λ e. CrossAt e j.0.edge c) (sym i.2) (subst (λ f. CrossAt k.e f c) (sym j.2) k.crosses) in
            let y = cross_turn m.0.edge j.0.edge c (exchange i.0 m.0 j.0.edge m.2 x) in
            record {
              e = n.0.edge;
              f = m.0.edge;
              e_listed = edge_in kept n.0 n.1;
              f_listed = edge_in kept m.0 m.1;
              crosses = exchange j.0 n.0 m.0.edge n.2 y;
            }

      pub keeps_crossings : (rect : Rect) → low ≡ (seen_point course rect.lo).x → high ≡ (seen_point course rect.hi).x → KeepsCrossings rect lines kept
      keeps_crossings rect is_low is_high = record { among = has.among; crossings = λ c t k. kept_cross c (subst (λ n. n ≤ℤ (seen_point course c).x) (sym is_low) (after_low course rect c t)) (subst (λ n. (seen_point course c).x ≤ℤ n) (sym is_high) (up_to_high course rect c t)) k }

-- ---- the lines that are kept
module _ (lines : List Line) where
  pub firsts_none : HasOneOfEach lines [] []
  firsts_none = record { among = λ l h. absurd (none_in l h); all = λ c h. absurd (none_in c h) }

  still : (xs ys : List Carried) (kept more : List Line) (c : Carried) → ((d : Carried) → Contains xs d → Contains ys d) → ((l : Line) → Contains kept l → Contains more l) → IsStoodFor lines xs kept c → IsStoodFor lines ys more c
  still xs ys kept more c f g w = record { other = w.other; listed = f w.other w.listed; line = w.line; at = w.at; is_kept = g w.line w.is_kept; like = w.like }

  module _ (items : List Carried) (i : ℕ) (c : Carried) (kept : List Line) (below : i < length items) (is : c ≡ get_or items i c) (h : HasOneOfEach lines (take i items) kept) where
    later : (d : Carried) → Contains (take i items) d → Contains (take (i + 1) items) d
    later d k = (in_take_more items i c below is d).1 (inl k)

    pub firsts_push : (l : Line) → slice_get lines c.place ≡ Some l → Contains lines l → HasOneOfEach lines (take (i + 1) items) (kept ++ l ∷ [])
    firsts_push l at listed = record {
      among = λ m k. ⊎_elim (λ n. h.among m n) (λ e. subst (λ (x : Line). Contains lines x) e listed) (Contains-push_cases kept l m k);
      all = λ d k. ⊎_elim
          (λ n. still (take i items) (take (i + 1) items) kept (kept ++ l ∷ []) d later (λ m n. in_push kept m l n) (h.all d n))
          (λ e. subst (λ (x : Carried). IsStoodFor lines (take (i + 1) items) (kept ++ l ∷ []) x) e (record { other = c; listed = (in_take_more items i c below is c).1 (inr refl); line = l; at = at; is_kept = Contains-push kept l; like = inl refl }))
          ((in_take_more items i c below is d).0 k);
    }

    like_one : (d other : Carried) → HaveOneStrand c d → (d ≡ other) ⊎ HaveOneStrand d other → HaveOneStrand c other
    like_one d other one (inl e) = subst (λ x. HaveOneStrand c x) e one
    like_one d other one (inr k) = record { strand = k.strand; first = one.first ∙ sym one.second ∙ k.first; second = k.second }

    pub firsts_skip : (d : Carried) → Contains (take i items) d → HaveOneStrand c d → HasOneOfEach lines (take (i + 1) items) kept
    firsts_skip d listed one = record {
      among = h.among;
      all = λ x k. ⊎_elim
          (λ n. still (take i items) (take (i + 1) items) kept kept x later (λ m n. n) (h.all x n))
          (λ e. subst (λ y. IsStoodFor lines (take (i + 1) items) kept y) e led)
          ((in_take_more items i c below is x).0 k);
    }
      where
        led : IsStoodFor lines (take (i + 1) items) kept c
        led =
            let w = h.all d listed in
            record { other = w.other; listed = later w.other w.listed; line = w.line; at = w.at; is_kept = w.is_kept; like = inr (like_one d w.other one w.like) }

  pub firsts_all : (items : List Carried) (i : ℕ) (kept : List Line) → length items ≤ i → HasOneOfEach lines (take i items) kept → HasOneOfEach lines items kept
  firsts_all items i kept past h = subst (λ (xs : List Carried). HasOneOfEach lines xs kept) (take_all i items past) h

-- ---- what is kept of a rectangle's lines
pub keeps_on : (rect : Rect) (lines part rest : List Line) → KeepsCrossings rect lines part → KeepsCrossings rect part rest → KeepsCrossings rect lines rest
keeps_on rect lines part rest h k = record { among = λ l m. h.among l (k.among l m); crossings = λ c t x. k.crossings c t (h.crossings c t x) }

module _ (rect : Rect) (lines part : List Line) (h : KeepsCrossings rect lines part) where
  edge_among : (e : Edge) → Contains (edges_of part) e → Contains (edges_of lines) e
  edge_among e k = let r = line_at part e k in subst (λ (x : Edge). Contains (edges_of lines) x) r.2 (edge_in lines r.0 (h.among r.0 r.1))

  pub end_among : (c : Pt) → IsEndOf (edges_of part) c → IsEndOf (edges_of lines) c
  end_among c k = record { e = k.e; listed = edge_among k.e k.listed; is_end = k.is_end }

  pub all_crossed : (old new : List Pt) → HasAllCrossed rect (edges_of part) old new → HasAllCrossed rect (edges_of lines) old new
  all_crossed old new k = record {
    kept = k.kept;
    only = λ c m. ⊎_elim (λ n. inl n) (λ n. inr ((n.0.0, n.0.1, edge_among n.0.0 n.0.2, edge_among n.0.1 n.0.3, n.0.4), n.1)) (k.only c m);
    all = λ e f c i j x t. let w = h.crossings c t (record { e = e; f = f; e_listed = i; f_listed = j; crosses = x }) in k.all w.e w.f c w.e_listed w.f_listed w.crosses t;
  }
