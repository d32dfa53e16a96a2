-- What copies tell of the segments: each has a kept one with its ends, so that both have the same hot pixels.
use Rattle.std.proofs.Common.{◌≡◌, ◌∙◌, ◌⊎◌, ◌↔◌, inl, inr, ℕ, zero, suc, ◌+◌, ◌*◌, ◌<◌, List, [], ◌∷◌, ◌&&◌, ◌||◌, Bool, true, false, cond, refl, sym, ap, subst, arith, ⊎_elim}
use Rattle.std.proofs.lemmas.List.Sums.{sum_by-cons}
use Rattle.std.specs.Prelude.{Contains}
use Rattle.geom.specs.declared.point.Pt.{Pt}
use Rattle.geom.specs.declared.segment.Seg.{Seg}
use Rattle.geom.specs.declared.segment.Source.{Source}
use Rattle.geom.specs.declared.segment.Source.TheVariants.{A, B}
use Rattle.geom.specs.Hot.{IsHot}
use Rattle.geom.specs.Segments.{same_point, same_source}
use Rattle.geom.proofs.Lists.{In, contains_in, in_contains}
use Rattle.geom.proofs.Points.{and_both, both_and, or_either, same_point_of, same_point_true}
use Rattle.hot_region.proofs.HotLaws.{hot_lines}
use Rattle.distinct.specs.declared.copies.Copies.{Copies}
use Rattle.distinct.specs.Copies.{AreCopies, HaveSameEnds, copies_in, sum_in, sum_of_copies}

-- ---- the same ends

pub ends_refl : (s : Seg) → HaveSameEnds s s
ends_refl s = inl (refl, refl)

pub ends_sym : (s t : Seg) → HaveSameEnds s t → HaveSameEnds t s
ends_sym s t (inl (e, f)) = inl (sym e, sym f)
ends_sym s t (inr (e, f)) = inr (sym f, sym e)

pub ends_trans : (s t u : Seg) → HaveSameEnds s t → HaveSameEnds t u → HaveSameEnds s u
ends_trans s t u (inl (e, f)) (inl (g, h)) = inl (e ∙ g, f ∙ h)
ends_trans s t u (inl (e, f)) (inr (g, h)) = inr (e ∙ g, f ∙ h)
ends_trans s t u (inr (e, f)) (inl (g, h)) = inr (e ∙ h, f ∙ g)
ends_trans s t u (inr (e, f)) (inr (g, h)) = inl (e ∙ h, f ∙ g)

-- as a test
pub same_ends : Seg → Seg → Bool
same_ends s t = (same_point s.a t.a && same_point s.b t.b) || (same_point s.a t.b && same_point s.b t.a)

pub same_ends_true : (s t : Seg) → same_ends s t ≡ true → HaveSameEnds s t
unfolding same_ends
same_ends_true s t h = ⊎_elim (λ k. inl (both s.a t.a s.b t.b k)) (λ k. inr (both s.a t.b s.b t.a k)) (or_either (same_point s.a t.a && same_point s.b t.b) (same_point s.a t.b && same_point s.b t.a) h)
  where
    both : (p q u v : Pt) → same_point p q && same_point u v ≡ true → (p ≡ q) × (u ≡ v)
    both p q u v k = let e = and_both (same_point p q) (same_point u v) k in (same_point_true p q e.0, same_point_true u v e.1)

pub same_ends_of : (s t : Seg) → HaveSameEnds s t → same_ends s t ≡ true
unfolding same_ends
same_ends_of s t h = ⊎_elim
    (λ k. first (same_point s.a t.a && same_point s.b t.b) (same_point s.a t.b && same_point s.b t.a) (both s.a t.a s.b t.b k.0 k.1))
    (λ k. second (same_point s.a t.a && same_point s.b t.b) (same_point s.a t.b && same_point s.b t.a) (both s.a t.b s.b t.a k.0 k.1)) h
  where
    first : (x y : Bool) → x ≡ true → x || y ≡ true
    first true y k = refl
    first false y k = absurd (let e = k in cc)

    second : (x y : Bool) → y ≡ true → x || y ≡ true
    second true y k = refl
    second false y k = k

    both : (p q u v : Pt) → p ≡ q → u ≡ v → same_point p q && same_point u v ≡ true
    both p q u v e f = both_and (same_point p q) (same_point u v) (same_point_of p q e) (same_point_of u v f)

-- the test is of ends too
pub same_ends_equal : (s t u : Seg) → HaveSameEnds t u → same_ends s t ≡ same_ends s u
same_ends_equal s t u h = equal (same_ends s t) (same_ends s u)
    (λ k. same_ends_of s u (ends_trans s t u (same_ends_true s t k) h))
    (λ k. same_ends_of s t (ends_trans s u t (same_ends_true s u k) (ends_sym t u h)))
  where
    equal : (x y : Bool) → (x ≡ true → y ≡ true) → (y ≡ true → x ≡ true) → x ≡ y
    equal true y h k = sym (h refl)
    equal false true h k = k refl
    equal false false h k = refl

-- ---- sums

-- a segment of the layer with a number above 0 makes the sum be above 0
sum_above : (layer : Source) (number : Seg → ℕ) (ss : List Seg) (s : Seg) → In s ss → s.layer ≡ layer → 0 < number s → 0 < sum_in layer number ss
sum_above layer number [] s i e h = absurd i
sum_above layer number (t ∷ ss) s i e h = subst (λ (n : ℕ). 0 < n) (sym (sum_by-cons (λ (u : Seg). cond {A = ℕ} (same_source u.layer layer) (number u) 0) t ss))
    (⊎_elim (λ f. first (cond (same_source t.layer layer) (number t) 0) (sum_in layer number ss) (here f)) (λ j. later (cond (same_source t.layer layer) (number t) 0) (sum_in layer number ss) (sum_above layer number ss s j e h)) i)
  where
    first : (m n : ℕ) → 0 < m → 0 < m + n
    first m n h = omega arith

    later : (m n : ℕ) → 0 < n → 0 < m + n
    later m n h = omega arith

    same_layer : (l : Source) → same_source l l ≡ true
    same_layer A = refl
    same_layer B = refl

    here : t ≡ s → 0 < cond (same_source t.layer layer) (number t) 0
    here f = subst (λ (u : Seg). 0 < cond (same_source u.layer layer) (number u) 0) (sym f)
        (subst (λ (l : Source). 0 < cond (same_source s.layer l) (number s) 0) e (subst (λ (b : Bool). 0 < cond b (number s) 0) (sym (same_layer s.layer)) h))

-- a sum above 0 has a segment with a number above 0
some_counts : (layer : Source) (number : Seg → ℕ) (ts : List Seg) (cs : List Copies) → 0 < sum_of_copies layer number ts cs → (t : Seg) × In t ts × (0 < number t)
some_counts layer number [] cs h = absurd (omega arith)
some_counts layer number (t ∷ ts) [] h = absurd (omega arith)
some_counts layer number (t ∷ ts) (c ∷ cs) h = ⊎_elim (λ k. (t, inl refl, k)) (λ k. let r = some_counts layer number ts cs k in (r.0, inr r.1, r.2)) (either (copies_in layer c) (number t) (sum_of_copies layer number ts cs) h)
  where
    either : (k m n : ℕ) → 0 < k * m + n → (0 < m) ⊎ (0 < n)
    either k zero n h = inr (omega arith)
    either k (suc m) n h = inl (omega arith)

-- ---- kept segments

-- 1 at the ends of s
abbrev at_ends : Seg → Seg → ℕ
at_ends s t = cond (same_ends s t) 1 0

-- each segment has a kept one with its ends
pub has_kept : (segments kept : List Seg) (copies : List Copies) → AreCopies segments kept copies → (s : Seg) → Contains segments s → (t : Seg) × Contains kept t × HaveSameEnds s t
has_kept segments kept copies h s i = let r = some_counts s.layer (at_ends s) kept copies above in (r.0, in_contains kept r.0 r.1, same_ends_true s r.0 (passes (same_ends s r.0) r.2))
  where
    above : 0 < sum_of_copies s.layer (at_ends s) kept copies
    above = subst (λ (n : ℕ). 0 < n) (h.as_many s.layer (at_ends s) (λ t u k. ap (λ (b : Bool). cond {A = ℕ} b 1 0) (same_ends_equal s t u k)))
        (sum_above s.layer (at_ends s) segments s (contains_in segments s i) refl (subst (λ (b : Bool). 0 < cond {A = ℕ} b 1 0) (sym (same_ends_of s s (ends_refl s))) (omega arith)))

    passes : (b : Bool) → 0 < cond {A = ℕ} b 1 0 → b ≡ true
    passes true k = refl
    passes false k = absurd (omega arith)

-- so the kept ones have the same hot pixels
pub copies_hot : (segments kept : List Seg) (copies : List Copies) → AreCopies segments kept copies → (c : Pt) → IsHot segments c ↔ IsHot kept c
copies_hot segments kept copies h c = (
  hot_lines segments kept c (λ s i m. has_kept segments kept copies h s i),
  hot_lines kept segments c (λ s i m. (s, h.among s i, ends_refl s)),
)
