-- Hot pixels: where they lie, and that they depend on the segments' ends alone.
use Rattle.std.proofs.Common.{◌≡◌, ◌⊎◌, inl, inr, List, subst, arith}
use Rattle.std.proofs.Math.IntN.{ℤ, pos, neg_ℤ}
use Rattle.std.specs.Prelude.{All, Contains, ◌≢◌}
use Rattle.std.proofs.lemmas.List.Elements.{All-contains}
use Rattle.geom.specs.declared.point.Pt.{Pt}
use Rattle.geom.specs.declared.segment.Seg.{Seg}
use Rattle.geom.specs.Pixel.{Point}
use Rattle.geom.specs.Determinant.{turn}
use Rattle.geom.specs.OnSegment.{IsOn}
use Rattle.geom.specs.Hot.{IsHot, CrossIn}
use Rattle.geom.specs.Hot.IsHot.{start, end, crossing}
use Rattle.geom.specs.Route.{Meets}
use Rattle.geom.specs.Limit.{InLimit, AreInLimit, IsWithin, coordinate_limit}
use Rattle.geom.proofs.Integers.{linear, expand}
use Rattle.geom.proofs.Along.{Between, meets_box}
use Rattle.geom.proofs.Pixels.{piece, meets_in, meets_out}
use Rattle.geom.proofs.Routes as routes
use Rattle.geom.proofs.Meaning.{on_turned}

-- ---- a segment meets the pixels of its ends, and those of its crossings
pub meets_start : (s : Seg) (c : Pt) → s.a ≡ c → Meets s c
meets_start s c e = subst (λ (p : Pt). Meets s p) e (meets_out s s.a (routes.meets_start (piece s)))

pub meets_end : (s : Seg) (c : Pt) → s.b ≡ c → Meets s c
meets_end s c e = subst (λ (p : Pt). Meets s p) e (meets_out s s.b (routes.meets_end (piece s)))

pub first_meets : (s t : Seg) (c : Pt) → CrossIn s t c → Meets s c
first_meets s t c h = (h.z, h.on_first, h.in_pixel)

pub second_meets : (s t : Seg) (c : Pt) → CrossIn s t c → Meets t c
second_meets s t c h = (h.z, h.on_second, h.in_pixel)

-- some segment meets a hot pixel
pub hot_meets : (segments : List Seg) (c : Pt) → IsHot segments c → (s : Seg) × Contains segments s × Meets s c
hot_meets segments c (start s h e) = (s, h, meets_start s c e)
hot_meets segments c (end s h e) = (s, h, meets_end s c e)
hot_meets segments c (crossing s t h k x) = (s, h, first_meets s t c x)

-- ---- within the limit
limit_between : (n : _) (a b c : ℤ) → IsWithin n a → IsWithin n b → Between a b c → IsWithin n c
limit_between n a b c h k (inl (p, q)) = record { low = omega (arith, linear); high = omega (arith, linear) }
limit_between n a b c h k (inr (p, q)) = record { low = omega (arith, linear); high = omega (arith, linear) }

pub met_limit : (s : Seg) (c : Pt) → AreInLimit s.a s.b → Meets s c → InLimit c
met_limit s c l h = let box = meets_box (piece s) c (meets_in s c h) in record {
  x_in = limit_between coordinate_limit s.a.x s.b.x c.x l.a_in.x_in l.b_in.x_in box.0;
  y_in = limit_between coordinate_limit s.a.y s.b.y c.y l.a_in.y_in l.b_in.y_in box.1;
}

pub hot_limit : (segments : List Seg) (c : Pt) → All (λ s. AreInLimit s.a s.b) segments → IsHot segments c → InLimit c
hot_limit segments c l h = let m = hot_meets segments c h in met_limit m.0 c (All-contains (λ (s : Seg). AreInLimit s.a s.b) segments m.0 l m.1) m.2

-- ---- the direction of a segment, and its layer, have no part in this
-- t has the ends of s, the same way round or turned
abbrev pub HasEndsOf : Seg → Seg → Type 0
HasEndsOf s t = ((s.a ≡ t.a) × (s.b ≡ t.b)) ⊎ ((s.a ≡ t.b) × (s.b ≡ t.a))

pub on_line : (s t : Seg) (z : Point) → HasEndsOf s t → IsOn s.a s.b z → IsOn t.a t.b z
on_line s t z (inl (e, f)) h = subst (λ (p : Pt). IsOn p t.b z) e (subst (λ (p : Pt). IsOn s.a p z) f h)
on_line s t z (inr (e, f)) h = on_turned t.b t.a z (subst (λ (p : Pt). IsOn p t.a z) e (subst (λ (p : Pt). IsOn s.a p z) f h))

pub met_line : (s t : Seg) (c : Pt) → HasEndsOf s t → Meets s c → Meets t c
met_line s t c e (z, on, p) = (z, on_line s t z e on, p)

turn_back : (a b c d : Pt) → turn a b c d ≡ neg_ℤ (turn b a c d)
turn_back a b c d = simp expand (omega (arith, linear))

turn_back' : (a b c d : Pt) → turn a b c d ≡ neg_ℤ (turn a b d c)
turn_back' a b c d = simp expand (omega (arith, linear))

still_apart : (x y : ℤ) → x ≡ neg_ℤ y → x ≢ pos 0 → y ≢ pos 0
still_apart x y e h f = h (omega (arith, linear))

first_apart : (s s' t : Seg) → HasEndsOf s s' → turn s.a s.b t.a t.b ≢ pos 0 → turn s'.a s'.b t.a t.b ≢ pos 0
first_apart s s' t (inl (e, f)) h = subst (λ (p : Pt). turn p s'.b t.a t.b ≢ pos 0) e (subst (λ (p : Pt). turn s.a p t.a t.b ≢ pos 0) f h)
first_apart s s' t (inr (e, f)) h = still_apart _ _ (turn_back s'.b s'.a t.a t.b) (subst (λ (p : Pt). turn p s'.a t.a t.b ≢ pos 0) e (subst (λ (p : Pt). turn s.a p t.a t.b ≢ pos 0) f h))

second_apart : (s t t' : Seg) → HasEndsOf t t' → turn s.a s.b t.a t.b ≢ pos 0 → turn s.a s.b t'.a t'.b ≢ pos 0
second_apart s t t' (inl (e, f)) h = subst (λ (p : Pt). turn s.a s.b p t'.b ≢ pos 0) e (subst (λ (p : Pt). turn s.a s.b t.a p ≢ pos 0) f h)
second_apart s t t' (inr (e, f)) h = still_apart _ _ (turn_back' s.a s.b t'.b t'.a) (subst (λ (p : Pt). turn s.a s.b p t'.a ≢ pos 0) e (subst (λ (p : Pt). turn s.a s.b t.a p ≢ pos 0) f h))

pub cross_lines : (s t s' t' : Seg) (c : Pt) → HasEndsOf s s' → HasEndsOf t t' → CrossIn s t c → CrossIn s' t' c
cross_lines s t s' t' c e f h = record {
  not_parallel = second_apart s' t t' f (first_apart s s' t e h.not_parallel);
  z = h.z;
  on_first = on_line s s' h.z e h.on_first;
  on_second = on_line t t' h.z f h.on_second;
  in_pixel = h.in_pixel;
}

pub cross_back : (s t : Seg) (c : Pt) → CrossIn s t c → CrossIn t s c
cross_back s t c h = record {
  not_parallel = still_apart _ _ (swapped s.a s.b t.a t.b) h.not_parallel;
  z = h.z;
  on_first = h.on_second;
  on_second = h.on_first;
  in_pixel = h.in_pixel;
}
  where
    swapped : (a b c d : Pt) → turn a b c d ≡ neg_ℤ (turn c d a b)
    swapped a b c d = simp expand (omega (arith, linear))

start_line : (ys : List Seg) (s t : Seg) (c : Pt) → Contains ys t → HasEndsOf s t → s.a ≡ c → IsHot ys c
start_line ys s t c h (inl (e, f)) g = start t h (subst (λ (p : Pt). p ≡ c) e g)
start_line ys s t c h (inr (e, f)) g = end t h (subst (λ (p : Pt). p ≡ c) e g)

end_line : (ys : List Seg) (s t : Seg) (c : Pt) → Contains ys t → HasEndsOf s t → s.b ≡ c → IsHot ys c
end_line ys s t c h (inl (e, f)) g = end t h (subst (λ (p : Pt). p ≡ c) f g)
end_line ys s t c h (inr (e, f)) g = start t h (subst (λ (p : Pt). p ≡ c) f g)

-- where ys has, for each segment of xs that meets c, one with its ends
pub hot_lines : (xs ys : List Seg) (c : Pt) → ((s : Seg) → Contains xs s → Meets s c → (t : Seg) × Contains ys t × HasEndsOf s t) → IsHot xs c → IsHot ys c
hot_lines xs ys c in_ys (start s h e) = let t = in_ys s h (meets_start s c e) in start_line ys s t.0 c t.1 t.2 e
hot_lines xs ys c in_ys (end s h e) = let t = in_ys s h (meets_end s c e) in end_line ys s t.0 c t.1 t.2 e
hot_lines xs ys c in_ys (crossing s t h k x) =
    let u = in_ys s h (first_meets s t c x) in
    let v = in_ys t k (second_meets s t c x) in
    crossing u.0 v.0 u.1 v.1 (cross_lines s t u.0 v.0 c u.2 v.2 x)
