-- Crossings of lines, and lists of those that were found.
use Rattle.std.proofs.Common.{◌≡◌, ◌⊎◌, inl, inr, ℕ, ◌+◌, ◌<◌, List, [], refl, sym, ◌∙◌, arith, subst, length, get_or, take, ◌↔◌, ⊎_elim}
use Rattle.std.proofs.Math.IntN.{pos}
use Rattle.std.specs.Prelude.{Contains, Option, Some}
use Rattle.geom.specs.declared.point.Pt.{Pt}
use Rattle.geom.specs.declared.rect.Rect.{Rect}
use Rattle.geom.specs.declared.segment.Seg.{Seg}
use Rattle.geom.specs.declared.edge.Edge.{Edge}
use Rattle.geom.specs.Hot.{IsHot, CrossIn}
use Rattle.geom.specs.Hot.IsHot.{start, end}
use Rattle.geom.proofs.Integers.{linear, expand}
use Rattle.geom.specs.Determinant.{turn}
use Rattle.hot_region.specs.Lines.{IsLine, CrossAt, HasPushed, HasCrossed, HasAllCrossed}
use Rattle.hot_region.specs.Rects.{IsIn}
use Rattle.hot_region.proofs.ListLaws.{none_in, in_take_more}
use Rattle.hot_region.proofs.HotLaws.{cross_back}
use Rattle.hot_region.proofs.LineLaws.{segment_of, segment_line, cross_at}

-- ---- one line with others
pub crossed_none : (tile : Rect) (e : Edge) (old : List Pt) → HasCrossed tile e [] old old
crossed_none tile e old = record { kept = λ c h. h; only = λ c h. inl h; all = λ f c h x t. absurd (none_in f h) }

module _ (tile : Rect) (e : Edge) (others : List Edge) (i : ℕ) (f : Edge) (old found : List Pt) (l : i < length others) (is : f ≡ get_or others i f) (h : HasCrossed tile e (take i others) old found) where
  more : (x : Edge) → Contains (take (i + 1) others) x ↔ (Contains (take i others) x ⊎ (f ≡ x))
  more x = in_take_more others i f l is x

  -- what they cross in is found
  pub crossed_known : ((c : Pt) → CrossAt f e c → IsIn tile c → Contains old c) → HasCrossed tile e (take (i + 1) others) old found
  crossed_known known = record {
    kept = h.kept;
    only = λ c k. ⊎_elim (λ m. inl m) (λ m. inr ((m.0.0, (more m.0.0).1 (inl m.0.1), m.0.2), m.1)) (h.only c k);
    all = λ x c k a t. ⊎_elim (λ m. h.all x c m a t) (λ m. h.kept c (known c (subst (λ (y : Edge). CrossAt y e c) (sym m) a) t)) ((more x).0 k);
  }

  pub crossed_skip : ((c : Pt) → CrossAt f e c → ⊥) → HasCrossed tile e (take (i + 1) others) old found
  crossed_skip none = crossed_known (λ c a t. absurd (none c a))

  pub crossed_push : (new : List Pt) (p : Pt) → CrossAt f e p → ((c : Pt) → CrossAt f e c → p ≡ c) → HasPushed tile p found new → HasCrossed tile e (take (i + 1) others) old new
  crossed_push new p at only_p g = record {
    kept = λ c k. (g.same c).1 (inl (h.kept c k));
    only = λ c k. ⊎_elim
        (λ n. ⊎_elim (λ m. inl m) (λ m. inr ((m.0.0, (more m.0.0).1 (inl m.0.1), m.0.2), m.1)) (h.only c n))
        (λ n. inr ((f, (more f).1 (inr refl), subst (λ (q : Pt). CrossAt f e q) n.0 at), n.1))
        ((g.same c).0 k);
    all = λ x c k a t. ⊎_elim (λ m. (g.same c).1 (inl (h.all x c m a t))) (λ m. (g.same c).1 (inr (only_p c (subst (λ (y : Edge). CrossAt y e c) (sym m) a), t))) ((more x).0 k);
  }

-- ---- lines that lie apart, and a line with itself
pub crossing_of : (e f : Edge) (c : Pt) → CrossAt e f c → CrossIn (segment_of e) (segment_of f) c
crossing_of e f c h = h.cross (segment_of e) (segment_of f) (segment_line e) (segment_line f)

pub cross_turn : (e f : Edge) (c : Pt) → CrossAt e f c → CrossAt f e c
cross_turn e f c h = cross_at f e (segment_of f) (segment_of e) c (segment_line f) (segment_line e) (cross_back (segment_of e) (segment_of f) c (crossing_of e f c h))

level : (a b : Pt) → turn a b a b ≡ pos 0
level a b = simp expand (omega (arith, linear))

pub not_itself : (s : Seg) (c : Pt) → CrossIn s s c → ⊥
not_itself s c h = h.not_parallel (level s.a s.b)

-- ---- one pair: what `cross` and `may_meet` say of segments on the two lines
module _ (e f : Edge) (s t : Seg) (on_e : IsLine e s) (on_f : IsLine f t) where
  crossing_in : (c : Pt) → CrossAt f e c → CrossIn s t c
  crossing_in c h = (cross_turn f e c h).cross s t on_e on_f

  pub pair_found : (r : Option Pt) → ((p : Pt) → (r ≡ Some p) ↔ CrossIn s t p) → (p : Pt) → r ≡ Some p → CrossAt f e p × ((c : Pt) → CrossAt f e c → p ≡ c)
  pair_found r h p k = (cross_turn e f p (cross_at e f s t p on_e on_f ((h p).0 k)), λ c g. let m : r ≡ Some c = (h c).1 (crossing_in c g) in cc)

  pub pair_none : (r : Option Pt) → ((p : Pt) → (r ≡ Some p) ↔ CrossIn s t p) → ((p : Pt) → r ≡ Some p → ⊥) → (c : Pt) → CrossAt f e c → ⊥
  pair_none r h k c g = k c ((h c).1 (crossing_in c g))

pub all_none : (tile : Rect) (old : List Pt) → HasAllCrossed tile [] old old
all_none tile old = record { kept = λ c h. h; only = λ c h. inl h; all = λ e f c h k a t. absurd (none_in e h) }

-- ---- all that was found
pub start_or_end : (L : List Seg) (e : Edge) (s : Seg) (c : Pt) → Contains L s → IsLine e s → (e.p ≡ c) ⊎ (e.q ≡ c) → IsHot L c
start_or_end L e s c h (inl (p, q)) (inl k) = start s h (sym p ∙ k)
start_or_end L e s c h (inl (p, q)) (inr k) = end s h (sym q ∙ k)
start_or_end L e s c h (inr (p, q)) (inl k) = end s h (sym p ∙ k)
start_or_end L e s c h (inr (p, q)) (inr k) = start s h (sym q ∙ k)

pub start_in : (e : Edge) (s : Seg) (c : Pt) → IsLine e s → s.a ≡ c → (e.p ≡ c) ⊎ (e.q ≡ c)
start_in e s c (inl (p, q)) k = inl (p ∙ k)
start_in e s c (inr (p, q)) k = inr (q ∙ k)

pub end_in : (e : Edge) (s : Seg) (c : Pt) → IsLine e s → s.b ≡ c → (e.p ≡ c) ⊎ (e.q ≡ c)
end_in e s c (inl (p, q)) k = inr (q ∙ k)
end_in e s c (inr (p, q)) k = inl (p ∙ k)
