-- The corners of a square are four different points.
use Rattle.std.proofs.Common.{[], ◌∷◌, ap, arith}
use Rattle.std.specs.Prelude.{◌≢◌, ◌<ℤ◌, AllPairs}
use Rattle.std.proofs.lemmas.List.Kept.{AllPairs-cons}
use Rattle.geom.specs.declared.point.Pt.{Pt}
use Rattle.geom.proofs.Integers.{linear}
use Rattle.wkt.proofs.Inside.{all_of}

abbrev Apart : Pt → Pt → Type 0
Apart p q = p ≢ q

apart_x : (p q : Pt) → p.x <ℤ q.x → p ≢ q
apart_x p q h e = let f = ap (λ (r : Pt). r.x) e in omega (arith, linear, h, f)

apart_back : (p q : Pt) → q.x <ℤ p.x → p ≢ q
apart_back p q h e = let f = ap (λ (r : Pt). r.x) e in omega (arith, linear, h, f)

apart_y : (p q : Pt) → p.y <ℤ q.y → p ≢ q
apart_y p q h e = let f = ap (λ (r : Pt). r.y) e in omega (arith, linear, h, f)

none : AllPairs Apart []
none i j d h k = absurd (omega (arith, k))

pub square_apart : (a b c d : Pt) → a.x <ℤ b.x → a.x <ℤ c.x → a.y <ℤ d.y → b.y <ℤ c.y → d.x <ℤ b.x → d.x <ℤ c.x → AllPairs (λ p q. p ≢ q) (a ∷ b ∷ c ∷ d ∷ [])
square_apart a b c d ab ac ad bc db dc =
    AllPairs-cons Apart a (b ∷ c ∷ d ∷ []) (all_of (Apart a) (b ∷ c ∷ d ∷ []) (apart_x a b ab, (apart_x a c ac, (apart_y a d ad, tt))))
    (AllPairs-cons Apart b (c ∷ d ∷ []) (all_of (Apart b) (c ∷ d ∷ []) (apart_y b c bc, (apart_back b d db, tt)))
    (AllPairs-cons Apart c (d ∷ []) (all_of (Apart c) (d ∷ []) (apart_back c d dc, tt))
    (AllPairs-cons Apart d [] (all_of (Apart d) [] tt) none)))
