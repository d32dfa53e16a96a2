-- How coordinates compare is how their points do.
use Rattle.std.proofs.Common.{◌≡◌, inl, inr, List, [], ◌∷◌, false, Ordering, Less, Equal, Greater, ℤ, refl, sym, subst}
use Rattle.std.specs.Cmp.Lexicographic.{slice_cmp}
use Rattle.std.specs.Ordering.{MatchOrdering, int_cmp, is_lt, ordering_then}
use Rattle.geom.specs.declared.point.Pt.{Pt}
use Rattle.geom.specs.ListOrder.{IsListBefore}
use Rattle.geom.specs.Order.{IsBefore}
use Rattle.geom.proofs.ListOrder.{list_before_itself, list_before_trans}
use Rattle.geom.proofs.Orders.{pt_cmp, pt_ranks}
use Rattle.columns.specs.Answers.{coordinates_of}
use Rattle.polygon_order.specs.Shells.{Compares}

-- the first answer that tells two apart decides, however the answers are grouped
then_then : (o u r : Ordering) → ordering_then (ordering_then o u) r ≡ ordering_then o (ordering_then u r)
then_then Less u r = refl
then_then Equal u r = refl
then_then Greater u r = refl

-- the first point in which they differ decides
point_first : (p q : Pt) (ps qs : List Pt) (o r : Ordering) → MatchOrdering o (IsBefore p q) (p ≡ q) (IsBefore q p) → Compares ps qs r
    → Compares (p ∷ ps) (q ∷ qs) (ordering_then o r)
point_first p q ps qs Less r h k = inl h
point_first p q ps qs Greater r h k = inl h
point_first p q ps qs Equal Less h k = inr (h, k)
point_first p q ps qs Equal Equal h k = cc
point_first p q ps qs Equal Greater h k = inr (sym h, k)

-- the coordinates of two lists of points compare as the lists do
pub coordinates_compare : (ps qs : List Pt) → Compares ps qs (slice_cmp int_cmp (coordinates_of ps) (coordinates_of qs))
coordinates_compare [] [] = refl
coordinates_compare [] (q ∷ qs) = tt
coordinates_compare (p ∷ ps) [] = tt
coordinates_compare (p ∷ ps) (q ∷ qs) =
    let rest = slice_cmp int_cmp (coordinates_of ps) (coordinates_of qs) in
    subst (Compares (p ∷ ps) (q ∷ qs)) (then_then (int_cmp p.x q.x) (int_cmp p.y q.y) rest)
    (point_first p q ps qs (pt_cmp p q) rest (pt_ranks p q) (coordinates_compare ps qs))

-- an answer on coordinates is one on their points
pub compares_coordinates : (s t : List ℤ) (ps qs : List Pt) (order : Ordering) → order ≡ slice_cmp int_cmp s t → s ≡ coordinates_of ps → t ≡ coordinates_of qs
    → Compares ps qs order
compares_coordinates s t ps qs order is e f =
    let same : slice_cmp int_cmp (coordinates_of ps) (coordinates_of qs) ≡ order = cc in
    subst (Compares ps qs) same (coordinates_compare ps qs)

-- an answer that isn't `Less` rules out that the first is before the second
not_before : (ps qs : List Pt) (order : Ordering) → is_lt order ≡ false → Compares ps qs order → IsListBefore ps qs → ⊥
not_before ps qs Less level h k = absurd (cc)
not_before ps qs Equal level h k = list_before_itself qs (subst (λ (t : List Pt). IsListBefore t qs) h k)
not_before ps qs Greater level h k = list_before_itself ps (list_before_trans ps qs ps k h)

-- coordinates that aren't less aren't those of a lesser list
pub none_less : (s t : List ℤ) (ps qs : List Pt) → is_lt (slice_cmp int_cmp s t) ≡ false → s ≡ coordinates_of ps → t ≡ coordinates_of qs
    → ¬ (IsListBefore ps qs)
none_less s t ps qs level e f = not_before ps qs (slice_cmp int_cmp s t) level (compares_coordinates s t ps qs (slice_cmp int_cmp s t) refl e f)
