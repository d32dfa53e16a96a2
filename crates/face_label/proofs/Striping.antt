-- How the edges of the strips are found.
use Rattle.std.proofs.Common.{◌≡◌, ◌⊎◌, ℕ, ◌+◌, ◌<◌, ◌≤◌, Bool, true, false, cond, List, [], ◌∷◌, ◌++◌, length, get_or, map, take, Option, Some, None, refl, sym, ◌∙◌, ap, subst, inl, inr, ⊎_elim, arith, length-append, ℤ, pos, ◌+ℤ◌, ◌*ℤ◌, w32, to_z, of_z, to_z-of_z, FitsSigned}
use Rattle.std.specs.Prelude.{◌≤ℤ◌, All, Contains, slice_get, int_lt, filter}
use Rattle.std.specs.Option.{option_map}
use Rattle.std.specs.Int.{int_min, int_max}
use Rattle.std.proofs.lemmas.Int.{ints, int_min_is, int_max_is}
use Rattle.std.proofs.lemmas.Bool.{cases_lt}
use Rattle.std.proofs.lemmas.List.{get_or_default, take_more}
use Rattle.std.proofs.lemmas.List.Elements.{All-more, All-weaker, All-filter, All-map, Contains-append_left, Contains-push}
use Rattle.std.proofs.lemmas.Option.{slice_get-map, slice_get_within, same_Some}
use Rattle.std.proofs.Math.ListN.{get_or-append}
use Rattle.std.proofs.Math.Seq.{get_or-append_seam}
use Rattle.geom.proofs.Doubling.{back}
use Rattle.geom.specs.declared.edge.Edge.{Edge}
use Rattle.geom.specs.declared.edge.Counted.{Counted}
use Rattle.geom.specs.declared.rect.Rect.{Rect}
use Rattle.geom.specs.declared.segment.Source.{Source}
use Rattle.geom.specs.declared.segment.Source.TheVariants.{A, B}
use Rattle.geom.specs.Limit.{AreInLimit, IsWithin, coordinate_limit}
use Rattle.geom.specs.Rounded.{is_odd, odd_edges}
use Rattle.geom.proofs.Integers.{expand, linear}
use Rattle.geom.proofs.Tests.{lt_no}
use Rattle.geom.proofs.Numbers.{le_le}
use Rattle.lane_tests.specs.Columns.{corners}
use Rattle.tiling.specs.Index.{Item}
use Rattle.tiling.specs.Strips.{IsFill, Striped}
use Rattle.face_label.specs.Strip.{AreBoxesOf, AreColumnsFrom, AreColumnsOf, AreInStrip, AreLayerStrips, AreStriped, IsIndexOf, IsLeastWidth, IsStriped, StripedLayer, edge_corners}

-- ---- columns
pub columns_are : (first : Edge) (cs : List Counted) (low high l h : ℤ) → l ≡ low → h ≡ high → AreColumnsFrom first cs low high → AreColumnsFrom first cs l h
columns_are first cs low high l h e f o = let P : ℤ → Type 0 = λ t. AreColumnsFrom first cs t h in let Q : ℤ → Type 0 = λ t. AreColumnsFrom first cs low t in subst P (sym e) (subst Q (sym f) o)

pub first_columns : (first : Edge) → AreInLimit first.p first.q → AreColumnsFrom first [] (to_z w32 (of_z w32 first.p.x)) (to_z w32 (of_z w32 first.q.x))
first_columns first h = columns_are first [] first.p.x first.q.x _ _ (back first.p.x h.a_in.x_in) (back first.q.x h.b_in.x_in)
    (record { order = first.ordered.column; low_in = h.a_in.x_in; high_in = h.b_in.x_in; spans = λ k d l. absurd (omega arith); starts = inl refl; ends = inl refl })

one_within : (r a b : ℤ) → (r ≡ a) ⊎ (r ≡ b) → IsWithin coordinate_limit a → IsWithin coordinate_limit b → IsWithin coordinate_limit r
one_within r a b (inl e) h k = let P : ℤ → Type 0 = IsWithin coordinate_limit in subst P (sym e) h
one_within r a b (inr e) h k = let P : ℤ → Type 0 = IsWithin coordinate_limit in subst P (sym e) k

-- the lesser and the greater of two numbers
min_left : (a b r : ℤ) → r ≡ int_min a b → r ≤ℤ a
min_left a b r e = grind (arith, ints, int_min_is a b)

min_right : (a b r : ℤ) → r ≡ int_min a b → r ≤ℤ b
min_right a b r e = grind (arith, ints, int_min_is a b)

max_left : (a b r : ℤ) → r ≡ int_max a b → a ≤ℤ r
max_left a b r e = grind (arith, ints, int_max_is a b)

max_right : (a b r : ℤ) → r ≡ int_max a b → b ≤ℤ r
max_right a b r e = grind (arith, ints, int_max_is a b)

one_of : (t : Bool) (x y r : ℤ) → r ≡ cond t x y → (r ≡ x) ⊎ (r ≡ y)
one_of true x y r e = inl e
one_of false x y r e = inr e

min_one : (a b r : ℤ) → r ≡ int_min a b → (r ≡ a) ⊎ (r ≡ b)
min_one a b r e = ⊎_elim (λ h. inr h) (λ h. inl h) (one_of (int_lt b a) b a r e)

max_one : (a b r : ℤ) → r ≡ int_max a b → (r ≡ a) ⊎ (r ≡ b)
max_one a b r e = one_of (int_lt b a) a b r e

-- an item of a list that is read in order
module _ (cs : List Counted) (i : ℕ) (c : Counted) (inside : i < length cs) (here : get_or cs i c ≡ c) where
  taken : take (i + 1) cs ≡ take i cs ++ c ∷ []
  taken = take_more cs i c inside ∙ ap (λ (y : Counted). take i cs ++ y ∷ []) here

  still_there : (d : Counted) → Contains (take i cs) d → Contains (take (i + 1) cs) d
  still_there d h = subst (λ (xs : List Counted). Contains xs d) (sym taken) (Contains-append_left (take i cs) (c ∷ []) d h)

  last_there : Contains (take (i + 1) cs) c
  last_there = subst (λ (xs : List Counted). Contains xs c) (sym taken) (Contains-push (take i cs) c)

  -- the least or the greatest x so far, at either end
  reached : (at : Edge → ℤ) (first old new : ℤ) → (new ≡ old) ⊎ (new ≡ at c.edge) → (old ≡ first) ⊎ ((d : Counted) × Contains (take i cs) d × (old ≡ at d.edge))
      → (new ≡ first) ⊎ ((d : Counted) × Contains (take (i + 1) cs) d × (new ≡ at d.edge))
  reached at first old new (inr e) o = inr (c, last_there, e)
  reached at first old new (inl e) (inl f) = inl (e ∙ f)
  reached at first old new (inl e) (inr (d, k, f)) = inr (d, still_there d k, e ∙ f)

pub more_columns : (first : Edge) (cs : List Counted) (i : ℕ) (c : Counted) (low high a b p q l h : ℤ) → a ≡ low → b ≡ high → p ≡ c.edge.p.x → q ≡ c.edge.q.x → i < length cs → get_or cs i c ≡ c → AreInLimit c.edge.p c.edge.q
    → l ≡ int_min a p → h ≡ int_max b q → AreColumnsFrom first (take i cs) low high → AreColumnsFrom first (take (i + 1) cs) l h
more_columns first cs i c low high a b p q l h ea eb ep eq inside here limit least greatest o = record {
  order = le_le l low h l1 (le_le low high h o.order h1);
  low_in = one_within l low c.edge.p.x l3 o.low_in limit.a_in.x_in;
  high_in = one_within h high c.edge.q.x h3 o.high_in limit.b_in.x_in;
  starts = reached cs i c inside here (λ e. e.p.x) first.p.x low l l3 o.starts;
  ends = reached cs i c inside here (λ e. e.q.x) first.q.x high h h3 o.ends;
  spans = All-more (λ c. (l ≤ℤ c.edge.p.x) × (c.edge.q.x ≤ℤ h)) cs i c inside
      (All-weaker (λ c. (low ≤ℤ c.edge.p.x) × (c.edge.q.x ≤ℤ high)) (λ c. (l ≤ℤ c.edge.p.x) × (c.edge.q.x ≤ℤ h)) (λ d s. (le_le l low d.edge.p.x l1 s.0, le_le d.edge.q.x high h s.1 h1)) (take i cs) o.spans)
      (let P : Counted → Type 0 = λ c. (l ≤ℤ c.edge.p.x) × (c.edge.q.x ≤ℤ h) in subst P (sym here) (l2, h2));
}
  where
    least_is : l ≡ int_min low c.edge.p.x
    least_is = least ∙ (λ j. int_min (ea j) (ep j))

    greatest_is : h ≡ int_max high c.edge.q.x
    greatest_is = greatest ∙ (λ j. int_max (eb j) (eq j))

    l1 : l ≤ℤ low
    l1 = min_left low c.edge.p.x l least_is

    h1 : high ≤ℤ h
    h1 = max_left high c.edge.q.x h greatest_is

    l2 : l ≤ℤ c.edge.p.x
    l2 = min_right low c.edge.p.x l least_is

    h2 : c.edge.q.x ≤ℤ h
    h2 = max_right high c.edge.q.x h greatest_is

    l3 : (l ≡ low) ⊎ (l ≡ c.edge.p.x)
    l3 = min_one low c.edge.p.x l least_is

    h3 : (h ≡ high) ⊎ (h ≡ c.edge.q.x)
    h3 = max_one high c.edge.q.x h greatest_is

-- ---- boxes
min_first : (a b : ℤ) → a ≤ℤ b → int_min a b ≡ a
min_first a b h = ap (λ t. cond t b a) (lt_no b a h)

max_second : (a b : ℤ) → a ≤ℤ b → int_max a b ≡ b
max_second a b h = ap (λ t. cond t a b) (lt_no b a h)

-- the edge and the box of a number
pub record Paired (edges : List Edge) (boxes : List Rect) (k : ℕ) (e : Edge) (b : Rect) : Type 0 where
  pub edge : slice_get edges k ≡ Some e
  pub box : slice_get boxes k ≡ Some b
  pub left : b.lo.x ≡ e.p.x
  pub right : b.hi.x ≡ e.q.x

paired : (edges : List Edge) (boxes : List Rect) (k : ℕ) (e : Edge) (b : Rect) → slice_get edges k ≡ Some e → slice_get boxes k ≡ Some b → corners b ≡ edge_corners e → Paired edges boxes k e b
paired edges boxes k e b f g h = record { edge = f; box = g; left = ap (λ c. c.0.x) h ∙ min_first e.p.x e.q.x e.ordered.column; right = ap (λ c. c.1.x) h ∙ max_second e.p.x e.q.x e.ordered.column }

from_box : (edges : List Edge) (boxes : List Rect) → AreBoxesOf edges boxes → (k : ℕ) (b : Rect) → slice_get boxes k ≡ Some b → (e : Edge) × Paired edges boxes k e b
from_box edges boxes a k b h = told (slice_get edges k) refl (sym (slice_get-map corners boxes k ∙ ap (option_map corners) h) ∙ ap (λ t. slice_get t k) a ∙ slice_get-map edge_corners edges k)
  where
    told : (o : Option Edge) → slice_get edges k ≡ o → Some (corners b) ≡ option_map edge_corners (slice_get edges k) → (e : Edge) × Paired edges boxes k e b
    told None q r = absurd (let s : Some (corners b) ≡ None = r ∙ ap (option_map edge_corners) q in cc)
    told (Some e) q r = (e, paired edges boxes k e b q h (same_Some (corners b) (edge_corners e) (r ∙ ap (option_map edge_corners) q)))

from_edge : (edges : List Edge) (boxes : List Rect) → AreBoxesOf edges boxes → (k : ℕ) (e : Edge) → slice_get edges k ≡ Some e → (b : Rect) × Paired edges boxes k e b
from_edge edges boxes a k e h = told (slice_get boxes k) refl (sym (slice_get-map corners boxes k) ∙ ap (λ t. slice_get t k) a ∙ slice_get-map edge_corners edges k ∙ ap (option_map edge_corners) h)
  where
    told : (o : Option Rect) → slice_get boxes k ≡ o → option_map corners (slice_get boxes k) ≡ Some (edge_corners e) → (b : Rect) × Paired edges boxes k e b
    told None q r = absurd (let s : None ≡ Some (edge_corners e) = sym (ap (option_map corners) q) ∙ r in cc)
    told (Some b) q r = (b, paired edges boxes k e b h q (same_Some (corners b) (edge_corners e) (sym (ap (option_map corners) q) ∙ r)))

-- ---- strips
pub fill_in_range : (edges : List Edge) (items : List Item) (x : IsIndexOf edges items) (s : Striped) (strip : ℕ) (numbers : List ℕ) → IsFill s strip x.boxes numbers → All (λ k. k < length edges) numbers
fill_in_range edges items x s strip numbers f = λ k d h. let m = (f.exact (get_or numbers k d)).0 (k, h, get_or_default numbers k (get_or numbers k d) d h) in let p = from_box edges x.boxes x.are_boxes (get_or numbers k d) m.0 m.1 in slice_get_within edges (get_or numbers k d) p.0 p.1.edge

pub fill_chosen : (edges : List Edge) (items : List Item) (x : IsIndexOf edges items) (s : Striped) (strip : ℕ) (numbers : List ℕ) (chosen : List Edge) → IsFill s strip x.boxes numbers → map (λ e. Some e) chosen ≡ map (slice_get edges) numbers → AreInStrip s strip edges chosen
fill_chosen edges items x s strip numbers chosen f e = record {
  numbers = numbers;
  ascending = f.ascending;
  exact = λ k. (
    (λ c. let m = (f.exact k).0 c in let p = from_box edges x.boxes x.are_boxes k m.0 m.1 in let w = m.2 in
        (p.0, p.1.edge, (w.0, (let P : ℤ → Type 0 = λ t. t ≤ℤ w.0 in subst P p.1.left w.1), (let P : ℤ → Type 0 = λ t. w.0 ≤ℤ t in subst P p.1.right w.2), w.3))),
    (λ m. let p = from_edge edges x.boxes x.are_boxes k m.0 m.1 in let w = m.2 in
        (f.exact k).1 (p.0, p.1.box, (w.0, (let P : ℤ → Type 0 = λ t. t ≤ℤ w.0 in subst P (sym p.1.left) w.1), (let P : ℤ → Type 0 = λ t. w.0 ≤ℤ t in subst P (sym p.1.right) w.2), w.3))),
  );
  are = e;
}

pub more_striped : (edges : List Edge) (s : Striped) (found : List (List Edge)) (strip : ℕ) (chosen : List Edge) → length found ≡ strip → AreInStrip s strip edges chosen → AreStriped edges s found → AreStriped edges s (found ++ chosen ∷ [])
more_striped edges s found strip chosen e a t k h = elim (cases_lt k (length found)) [
  | inl l ↦ (let P : List Edge → Type 0 = AreInStrip s k edges in subst P (sym (get_or-append found (chosen ∷ []) [] k l)) (t k l))
  | inr l ↦ (let q : k ≡ length found = at_end k (length found) l (let P : ℕ → Type 0 = λ n. k < n in subst P (length-append found (chosen ∷ [])) h) in
      let P : List Edge → Type 0 = AreInStrip s k edges in subst P (sym (ap (λ n. get_or (found ++ chosen ∷ []) n []) q ∙ get_or-append_seam found chosen [] [])) (let Q : ℕ → Type 0 = λ n. AreInStrip s n edges chosen in subst Q (sym e ∙ sym q) a))
]
  where
    at_end : (k n : ℕ) → n ≤ k → k < n + 1 → k ≡ n
    at_end k n h l = omega arith

-- ---- the odd edges are in the limit
pub odd_in_limit : (layer : Source) (cs : List Counted) → All (λ c. AreInLimit c.edge.p c.edge.q) cs → All (λ e. AreInLimit e.p e.q) (odd_edges layer cs)
odd_in_limit A cs h = All-map (λ e. AreInLimit e.p e.q) (λ c. c.edge) (filter (λ c. is_odd c.in_a) cs) (All-filter (λ c. is_odd c.in_a) (λ c. AreInLimit c.edge.p c.edge.q) cs h)
odd_in_limit B cs h = All-map (λ e. AreInLimit e.p e.q) (λ c. c.edge) (filter (λ c. is_odd c.in_b) cs) (All-filter (λ c. is_odd c.in_b) (λ c. AreInLimit c.edge.p c.edge.q) cs h)

-- ---- the sum of two ends
pub sum_low : (low p q : ℤ) → low ≤ℤ p → p ≤ℤ q → (pos 2 *ℤ low) ≤ℤ (p +ℤ q)
sum_low low p q h o = simp expand (omega (arith, linear))

pub sum_high : (high p q : ℤ) → q ≤ℤ high → p ≤ℤ q → (p +ℤ q) ≤ℤ (pos 2 *ℤ high)
sum_high high p q h o = simp expand (omega (arith, linear))

pub grown : (edges : List Edge) (s : Striped) (found new : List (List Edge)) (strip : ℕ) (chosen : List Edge) → new ≡ found ++ chosen ∷ [] → length found ≡ strip → AreInStrip s strip edges chosen → AreStriped edges s found → (length new ≡ strip + 1) × AreStriped edges s new
grown edges s found new strip chosen n e a t = (
  ap length n ∙ length-append found (chosen ∷ []) ∙ ap (λ k. k + 1) e,
  let P : List (List Edge) → Type 0 = AreStriped edges s in subst P (sym n) (more_striped edges s found strip chosen e a t),
)

-- ---- the strips of a layer
-- the first edge is one of them, so the columns are those of some edges
columns_of : (cs : List Counted) (first : Counted) (low high : ℤ) → Contains cs first → AreColumnsFrom first.edge cs low high → AreColumnsOf cs low high
columns_of cs first low high i o = record { spans = o.spans; starts = start o.starts; ends = end o.ends }
  where
    start : (low ≡ first.edge.p.x) ⊎ ((c : Counted) × Contains cs c × (low ≡ c.edge.p.x)) → (c : Counted) × Contains cs c × (low ≡ c.edge.p.x)
    start (inl e) = (first, i, e)
    start (inr r) = r

    end : (high ≡ first.edge.q.x) ⊎ ((c : Counted) × Contains cs c × (high ≡ c.edge.q.x)) → (c : Counted) × Contains cs c × (high ≡ c.edge.q.x)
    end (inl e) = (first, i, e)
    end (inr r) = r

pub layer_strips : (cs : List Counted) (first : Counted) (odd : List Edge) (s : StripedLayer) (low high : ℤ) (w : ℕ) → Contains cs first → AreColumnsFrom first.edge cs low high → IsLeastWidth low high w
    → s.strips.low ≡ low → s.strips.high ≡ high → s.strips.width ≡ w → IsStriped odd s → AreLayerStrips cs odd s
layer_strips cs first odd s low high w i o width e f g striped = record {
  columns = rw (e, f) (columns_of cs first low high i o);
  width = rw (e, f, g) width;
  striped = striped;
}

pub width_at : (low high l h : ℤ) (w : ℕ) → l ≡ low → h ≡ high → IsLeastWidth l h w → IsLeastWidth low high w
width_at low high l h w e f i = let P : ℤ → Type 0 = λ t. IsLeastWidth t high w in let Q : ℤ → Type 0 = λ t. IsLeastWidth l t w in subst P e (subst Q f i)
