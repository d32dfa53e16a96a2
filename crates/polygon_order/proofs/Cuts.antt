-- The lists that ascending offsets cut, and the coordinates of points next to one another.
use Rattle.std.proofs.Common.{◌≡◌, ◌∙◌, ℕ, zero, suc, ◌+◌, ◌-◌, ◌*◌, ◌%◌, ◌≤◌, ◌<◌, List, [], ◌∷◌, length, get_or, take, drop, refl, ap, arith, ℤ}
use Rattle.std.specs.Prelude.{slice_range}
use Rattle.geom.specs.declared.point.Pt.{Pt}
use Rattle.columns.specs.Answers.{coordinates_of}
use Rattle.columns.specs.Layout.{cut, pairs}
use Rattle.columns.proofs.Cuts.{cut_is, get_cut_from, length_cut_from}
use Rattle.polygon_order.specs.Order.{AreOffsets}

-- ---- lists that are cut

-- one list of them lies between two offsets
pub cut_at : {X : Type 0} (offsets : List ℕ) (items : List X) (k next : ℕ) (d : List X) → next ≡ k + 1 → next < length offsets
    → get_or (cut offsets items) k d ≡ slice_range items (get_or offsets k 0) (get_or offsets next 0)
cut_at offsets items k next d after inside =
    let e : suc k ≡ next = omega arith in
    ap (λ lists. get_or lists k d) (cut_is offsets items)
    ∙ get_cut_from offsets items k 0 (length offsets - 1) k d (omega arith) (omega arith)
    ∙ ap (λ n. slice_range items (get_or offsets k 0) (get_or offsets n 0)) e

-- there is one for each offset but the last one
pub length_cut : {X : Type 0} (offsets : List ℕ) (items : List X) → length (cut offsets items) ≡ length offsets - 1
length_cut offsets items = ap length (cut_is offsets items) ∙ length_cut_from offsets items 0 (length offsets - 1)

-- an offset is below the next one, and that one passes no end
pub offsets_next : (count : ℕ) (offsets : List ℕ) (k next : ℕ) → AreOffsets count offsets → next ≡ k + 1 → next < length offsets
    → (get_or offsets k 0 < get_or offsets next 0) × (get_or offsets next 0 ≤ count)
offsets_next count offsets k next h after inside = (h.ascending k next 0 (omega arith) inside, h.inside next 0 inside)

-- ---- coordinates next to one another

-- whole coordinates are those of their points
pub coordinates_back : (cs : List ℤ) → length cs % 2 ≡ 0 → cs ≡ coordinates_of (pairs cs)
coordinates_back [] whole = refl
coordinates_back (x ∷ []) whole = absurd (omega (arith, whole))
coordinates_back (x ∷ y ∷ rest) whole = ap (λ t. x ∷ y ∷ t) (coordinates_back rest (omega (arith, whole)))

-- two coordinates are left out for each point
drop_coordinates : (n a : ℕ) (ps : List Pt) → n ≡ 2 * a → drop n (coordinates_of ps) ≡ coordinates_of (drop a ps)
drop_coordinates zero zero ps e = refl
drop_coordinates zero (suc a) ps e = absurd (omega (arith, e))
drop_coordinates (suc n) zero ps e = absurd (omega (arith, e))
drop_coordinates (suc zero) (suc a) ps e = absurd (omega (arith, e))
drop_coordinates (suc (suc n)) (suc a) [] e = refl
drop_coordinates (suc (suc n)) (suc a) (p ∷ ps) e = drop_coordinates n a ps (omega (arith, e))

-- two are taken for each point
take_coordinates : (n a : ℕ) (ps : List Pt) → n ≡ 2 * a → take n (coordinates_of ps) ≡ coordinates_of (take a ps)
take_coordinates zero zero ps e = refl
take_coordinates zero (suc a) ps e = absurd (omega (arith, e))
take_coordinates (suc n) zero ps e = absurd (omega (arith, e))
take_coordinates (suc zero) (suc a) ps e = absurd (omega (arith, e))
take_coordinates (suc (suc n)) (suc a) [] e = refl
take_coordinates (suc (suc n)) (suc a) (p ∷ ps) e = ap (λ t. p.x ∷ p.y ∷ t) (take_coordinates n a ps (omega (arith, e)))

-- the coordinates from twice one number to before twice another are those of the points from the one to before the other
pub slice_coordinates : (cs : List ℤ) (a b from past : ℕ) → length cs % 2 ≡ 0 → from ≡ 2 * a → past ≡ 2 * b
    → slice_range cs from past ≡ coordinates_of (slice_range (pairs cs) a b)
slice_coordinates cs a b from past whole first last =
    ap (λ t. slice_range t from past) (coordinates_back cs whole)
    ∙ ap (λ t. take (past - from) t) (drop_coordinates from a (pairs cs) first)
    ∙ take_coordinates (past - from) (b - a) (drop a (pairs cs)) (omega arith)
