-- Bad pairs among ascending edges.
use Rattle.std.proofs.Common.{◌≡◌, inl, inr, ℕ, ◌+◌, ◌<◌, ◌≤◌, List, Some, None, refl, sym, ◌∙◌, ap, arith, subst, length, get_or, ⊎_elim}
use Rattle.std.proofs.Math.IntN.{ℤ}
use Rattle.std.specs.Prelude.{AllPairs, Contains, slice_get, ◌<ℤ◌, ◌≤ℤ◌}
use Rattle.std.specs.Int.{int_min, int_max}
use Rattle.std.proofs.lemmas.Bool.{cases_lt}
use Rattle.std.proofs.lemmas.Int.{int_min_is, int_max_is}
use Rattle.std.proofs.lemmas.Option.{slice_get-get_or, get_or_from_slice_get, slice_get_within}
use Rattle.geom.specs.declared.point.Pt.{Pt}
use Rattle.geom.specs.declared.edge.Edge.{Edge}
use Rattle.geom.specs.declared.segment.Seg.{Seg}
use Rattle.geom.specs.declared.segment.Source.TheVariants.{A}
use Rattle.geom.specs.Box.{IsInBox, greatest_corner, least_corner}
use Rattle.geom.specs.EdgeOrder.{IsEdgeBefore}
use Rattle.geom.specs.Order.{IsBefore}
use Rattle.geom.specs.Noded.{IsBad, MeetOnlyAtEnds}
use Rattle.geom.specs.Pixel.{pixel}
use Rattle.geom.proofs.Integers.{linear}
use Rattle.geom.proofs.Meaning.{met_pixels_are_in_bounds}
use Rattle.geom.proofs.Orders.{before_itself, edge_before_itself, edge_before_trans}
use Rattle.geom.proofs.Numbers.{itself}
use Rattle.geom.proofs.Lists.{some_same}
use Rattle.noding_test.specs.Verdicts.{common_corner, IsOwnBad, IsLeastPair}
use Rattle.noding_test.specs.Search.{NoneBadTo, IsPartner}

-- ---- a bad pair has a point of the grid in both boxes
seg_of : Edge → Seg
seg_of e = record { a = e.p; b = e.q; layer = A; proper = λ h. before_itself e.q (subst (λ (p : Pt). IsBefore p e.q) h e.ordered) }

-- the pixel of a common point
pub record IsCommon (e f : Edge) (c : Pt) : Type 0 where
  pub in_first : IsInBox (least_corner e.p e.q) (greatest_corner e.p e.q) c
  pub in_second : IsInBox (least_corner f.p f.q) (greatest_corner f.p f.q) c

pub common_pixel : (e f : Edge) → IsBad e f → (c : Pt) × IsCommon e f c
unfolding seg_of
common_pixel e f (z, on_e, on_f, inner) = (pixel z, record { in_first = met_pixels_are_in_bounds (seg_of e) (pixel z) (z, on_e, refl); in_second = met_pixels_are_in_bounds (seg_of f) (pixel z) (z, on_f, refl) })

beyond_x : (p q u v c : ℤ) → p ≤ℤ q → q <ℤ u → u ≤ℤ v → c ≤ℤ int_max p q → int_min u v ≤ℤ c → ⊥
beyond_x p q u v c a b d h k = omega (arith, linear, int_max_is p q, int_min_is u v)

-- an edge that begins to the right of another one
pub beyond : (e f : Edge) → e.q.x <ℤ f.p.x → IsBad e f → ⊥
beyond e f l bad = let m = common_pixel e f bad in beyond_x e.p.x e.q.x f.p.x f.q.x m.0.x e.ordered.column l f.ordered.column m.1.in_first.right m.1.in_second.left

corner_x : (a b c d m : ℤ) → int_min a b ≤ℤ m → m ≤ℤ int_max a b → int_min c d ≤ℤ m → m ≤ℤ int_max c d
    → (int_min a b ≤ℤ int_max (int_min a b) (int_min c d)) × (int_max (int_min a b) (int_min c d) ≤ℤ int_max a b) × (int_min c d ≤ℤ int_max (int_min a b) (int_min c d)) × (int_max (int_min a b) (int_min c d) ≤ℤ int_max c d)
corner_x a b c d m h k u v = (omega (arith, linear, int_max_is (int_min a b) (int_min c d)), omega (arith, linear, int_max_is (int_min a b) (int_min c d)), omega (arith, linear, int_max_is (int_min a b) (int_min c d)), omega (arith, linear, int_max_is (int_min a b) (int_min c d)))

-- the least corner of the common rectangle of a bad pair lies in both boxes
pub corner_is_common : (e f : Edge) → IsBad e f → IsCommon e f (common_corner e f)
corner_is_common e f bad =
    let m = common_pixel e f bad in
    let c = m.0 in
    let g = m.1.in_first in
    let h = m.1.in_second in
    let x = corner_x e.p.x e.q.x f.p.x f.q.x c.x g.left g.right h.left h.right in
    let y = corner_x e.p.y e.q.y f.p.y f.q.y c.y g.bottom g.top h.bottom h.top in
    record {
      in_first = record { left = x.0; right = x.1; bottom = y.0; top = y.1 };
      in_second = record { left = x.2; right = x.3; bottom = y.2; top = y.3 };
    }

pub clean_not_bad : (e f : Edge) → MeetOnlyAtEnds e f → IsBad e f → ⊥
clean_not_bad e f h (z, on_e, on_f, inner) = inner (h z on_e on_f)

-- ---- ascending edges by places
pub record IsEdgeAt (edges : List Edge) (i : ℕ) (e : Edge) : Type 0 where
  pub is_at : slice_get edges i ≡ Some e

pub place_of : (edges : List Edge) (e : Edge) → Contains edges e → (i : ℕ) × IsEdgeAt edges i e
place_of edges e (i, l, is) = (i, record { is_at = slice_get-get_or edges i e l ∙ ap Some is })

pub at_place : (edges : List Edge) (i : ℕ) (e : Edge) → slice_get edges i ≡ Some e → Contains edges e
at_place edges i e h = (i, slice_get_within edges i e h, get_or_from_slice_get edges i e e h)

module _ (edges : List Edge) (up : AllPairs IsEdgeBefore edges) where
  pub before_at : (i j : ℕ) (e f : Edge) → i < j → slice_get edges i ≡ Some e → slice_get edges j ≡ Some f → IsEdgeBefore e f
  before_at i j e f l a b =
      subst (λ (x : Edge). IsEdgeBefore x f) (get_or_from_slice_get edges i e e a)
      (subst (λ (y : Edge). IsEdgeBefore (get_or edges i e) y) (get_or_from_slice_get edges j f e b) (up i j e l (slice_get_within edges j f b)))

  same_at : (i j : ℕ) (e f : Edge) → i ≡ j → slice_get edges i ≡ Some e → slice_get edges j ≡ Some f → e ≡ f
  same_at i j e f k a b = some_same (subst (λ (n : ℕ). slice_get edges n ≡ Some e) k a) b

  pub later_at : (i j : ℕ) (e f : Edge) → IsEdgeBefore e f → slice_get edges i ≡ Some e → slice_get edges j ≡ Some f → i < j
  later_at i j e f h a b = ⊎_elim (λ l. l) (λ l. ⊎_elim
      (λ m. absurd (edge_before_itself e (edge_before_trans e f e h (before_at j i f e m b a))))
      (λ m. let k : i ≡ j = omega arith in absurd (edge_before_itself f (subst (λ (x : Edge). IsEdgeBefore x f) (same_at i j e f k a b) h)))
      (cases_lt j i)) (cases_lt i j)

  pub one_place : (i j : ℕ) (e : Edge) → slice_get edges i ≡ Some e → slice_get edges j ≡ Some e → i ≡ j
  one_place i j e a b = ⊎_elim
      (λ l. absurd (edge_before_itself e (before_at i j e e l a b)))
      (λ l. ⊎_elim (λ m. absurd (edge_before_itself e (before_at j i e e m b a))) (λ m. omega arith) (cases_lt j i))
      (cases_lt i j)

  -- ---- the search
  module _ (Owned : Pt → Type 0) where
    -- the edges from a place on begin to the right
    pub none_beyond : (i j : ℕ) (e f : Edge) → slice_get edges i ≡ Some e → slice_get edges j ≡ Some f → e.q.x <ℤ f.p.x → NoneBadTo Owned edges i j → NoneBadTo Owned edges i (length edges)
    none_beyond i j e f a b past none = λ k g h l m at_g at_h. ⊎_elim
        (λ n. none k g h l n at_g at_h)
        (λ n own. beyond g h (right k g h n at_g at_h) own.0)
        (cases_lt k j)
      where
        left : (k : ℕ) (h : Edge) → j ≤ k → slice_get edges k ≡ Some h → f.p.x ≤ℤ h.p.x
        left k h n at_h = ⊎_elim
            (λ o. begins f h (before_at j k f h o b at_h))
            (λ o. let e : j ≡ k = omega arith in subst (λ (x : Edge). f.p.x ≤ℤ x.p.x) (same_at j k f h e b at_h) (itself f.p.x))
            (cases_lt j k)
          where
            level : {x y : ℤ} → x ≡ y → x ≤ℤ y
            level {x} {y} e = omega (arith, linear)

            begins : (f h : Edge) → IsEdgeBefore f h → f.p.x ≤ℤ h.p.x
            begins f h (inl l) = l.column
            begins f h (inr l) = level (ap (λ (p : Pt). p.x) l.0)

        right : (k : ℕ) (g h : Edge) → j ≤ k → slice_get edges i ≡ Some g → slice_get edges k ≡ Some h → g.q.x <ℤ h.p.x
        right k g h n at_g at_h = subst (λ (x : Edge). x.q.x <ℤ h.p.x) (some_same a at_g) (through past (left k h n at_h))
          where
            through : {x y z : ℤ} → x <ℤ y → y ≤ℤ z → x <ℤ z
            through {x} {y} {z} a b = omega (arith, linear)

    -- places that were passed
    pub none_here : (i : ℕ) → NoneBadTo Owned edges i (i + 1)
    none_here i = λ j e f l m a b own. absurd (omega arith)

    pub none_more : (i j : ℕ) (e f : Edge) → slice_get edges i ≡ Some e → slice_get edges j ≡ Some f → NoneBadTo Owned edges i j → ¬ (IsBad e f × Owned (common_corner e f)) → NoneBadTo Owned edges i (j + 1)
    none_more i j e f a b none fails = λ k g h l m at_g at_h. ⊎_elim
        (λ n. none k g h l n at_g at_h)
        (λ n own. let d : k ≡ j = omega arith in
        let p : e ≡ g = some_same a at_g in
        let q : f ≡ h = sym (same_at k j h f d at_h b) in
        fails (subst (λ (x : Edge). IsBad e x × Owned (common_corner e x)) (sym q) (subst (λ (x : Edge). IsBad x h × Owned (common_corner x h)) (sym p) own)))
        (cases_lt k j)

    -- no pair at all
    pub none_bad : ((i : ℕ) → i < length edges → NoneBadTo Owned edges i (length edges)) → IsLeastPair (IsOwnBad Owned edges) None
    none_bad none = λ e f h.
        let (i, a) = place_of edges e h.e_in in
        let (j, b) = place_of edges f h.f_in in
        none i (slice_get_within edges i e a.is_at) j e f (later_at i j e f h.ordered a.is_at b.is_at) (slice_get_within edges j f b.is_at) a.is_at b.is_at (h.bad, h.owned)

    -- the first pair
    pub first_bad : (i : ℕ) (e f : Edge) → slice_get edges i ≡ Some e → ((j : ℕ) → j < i → NoneBadTo Owned edges j (length edges)) → IsPartner Owned edges i f → IsLeastPair (IsOwnBad Owned edges) (Some (e, f))
    first_bad i e f at none is = (
      record {
        e_in = at_place edges i e at;
        f_in = at_place edges is.place f is.is_at;
        ordered = before_at i is.place e f is.after at is.is_at;
        bad = (is.bad e at).0;
        owned = (is.bad e at).1;
      },
      (λ g h own before.
          let (j, a) = place_of edges g own.e_in in
          let (k, b) = place_of edges h own.f_in in
          let l = later_at j k g h own.ordered a.is_at b.is_at in
          ⊎_elim
          (λ lesser. none j (later_at j i g e lesser a.is_at at) k g h l (slice_get_within edges k h b.is_at) a.is_at b.is_at (own.bad, own.owned))
          (λ (same, lesser).
          let here : slice_get edges j ≡ Some e = subst (λ (x : Edge). slice_get edges j ≡ Some x) same a.is_at in
          let d : j ≡ i = one_place j i e here at in
          let at_g : slice_get edges i ≡ Some g = subst (λ (n : ℕ). slice_get edges n ≡ Some g) d a.is_at in
          is.first k g h (subst (λ (n : ℕ). n < k) d l) (later_at k is.place h f lesser b.is_at is.is_at) at_g b.is_at (own.bad, own.owned))
          before),
    )
