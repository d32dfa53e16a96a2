-- Copies, how many of them links have, and what makers that have them make.
use Rattle.std.proofs.Common.{◌≡◌, ℕ, ◌+◌, ◌*◌, ◌<◌, List, [], ◌∷◌, Bool, cond, refl, sym, ◌∙◌, ap}
use Rattle.std.proofs.Math.Path.{path_j}
use Rattle.std.proofs.Props.{props}
use Rattle.std.specs.Prelude.{count_by, if◌then◌else◌}
use Rattle.geom.specs.declared.point.Pt.{Pt}
use Rattle.geom.specs.declared.segment.Source.{Source}
use Rattle.geom.specs.declared.segment.Source.TheVariants.{A, B}
use Rattle.geom.specs.declared.segment.Seg.{Seg}
use Rattle.geom.specs.declared.edge.Edge.{Edge}
use Rattle.geom.specs.declared.edge.Counted.{Counted}
use Rattle.geom.specs.Segments.{neighbours, same_source}
use Rattle.geom.specs.Rounded.{joins}
use Rattle.distinct.specs.declared.copies.Copies.{Copies}
use Rattle.distinct.specs.Copies.{AreCopiesRounded, copies_in, count_copies, one_in}
use Rattle.linking.specs.declared.link.Link.{Link}
use Rattle.linking.specs.Links.{AreCounts, AreRouteLinks, PassLinks, copies_link, count_links, layer_link}
use Rattle.linking.proofs.Weighed.{sum_of_steps, weighed_ones, weighed_steps}

-- ---- copies
some_prop : (m n : ℕ) → IsProp (m < n)
some_prop m n = hlevel props

abbrev made : (a b : ℕ) → 0 < a + b → Copies
made a b h = record { in_a = a; in_b = b; some = h }

pub copies_path : (c d : Copies) → c.in_a ≡ d.in_a → c.in_b ≡ d.in_b → c ≡ d
copies_path c d a b = path_j (λ (n : ℕ) _. (m : ℕ) → c.in_b ≡ m → (h : 0 < n + m) → c ≡ made n m h)
    (λ m b. path_j (λ (m : ℕ) _. (h : 0 < c.in_a + m) → c ≡ made c.in_a m h) (λ h i. made c.in_a c.in_b (some_prop 0 (c.in_a + c.in_b) c.some h i)) b) a d.in_b b d.some

-- one copy in a layer is all of it, and none of the other
pub one_copy : (layer s : Source) → copies_in layer (one_in s) ≡ cond (same_source s layer) 1 0
one_copy A A = refl
one_copy A B = refl
one_copy B A = refl
one_copy B B = refl

-- what has these two numbers is one segment of the layer
pub one_is : (s : Source) (c : Copies) → c.in_a ≡ (if same_source s A then 1 else 0) → c.in_b ≡ (if same_source s B then 1 else 0) → c ≡ one_in s
one_is A c a b = copies_path c (one_in A) a b
one_is B c a b = copies_path c (one_in B) a b

-- ---- links of copies
steps_of_copies : (layer : Source) (e : Edge) (copies : List Copies) (routes : List (List Pt)) → sum_of_steps (copies_in layer) e copies routes ≡ count_copies layer e copies routes
steps_of_copies layer e [] routes = refl
steps_of_copies layer e (c ∷ cs) [] = refl
steps_of_copies layer e (c ∷ cs) (route ∷ routes) = ap (λ (n : ℕ). copies_in layer c * count_by (joins e) (neighbours route) + n) (steps_of_copies layer e cs routes)

pub copies_count : (e : Edge) (layer : Source) (segments : List Seg) (copies : List Copies) (links : List Link) (h : AreRouteLinks copies_link segments copies links) → count_links e layer links ≡ count_copies layer e copies h.routes
copies_count e layer segments copies links h =
    weighed_steps copies_link (λ l. l.edge) (λ l. copies_in layer l.copies) (copies_in layer) (λ c f. refl) (λ c f. refl) e links copies h.routes (λ wanted test pass. h.count_is e wanted test pass)
    ∙ steps_of_copies layer e copies h.routes

-- the counts of the links are those of the edges
pub copies_rounded : (segments : List Seg) (copies : List Copies) (links : List Link) (counted : List Counted) → AreRouteLinks copies_link segments copies links → AreCounts links counted → AreCopiesRounded segments copies counted
copies_rounded segments copies links counted h counts = record {
  routes = h.routes;
  are_routes = h.are_routes;
  ascending = counts.ascending;
  exact = λ c. (
    (λ k. let (a, b, p) = (counts.exact c).0 k in (sym (same c.edge A) ∙ a, sym (same c.edge B) ∙ b, p)),
    (λ (a, b, p). (counts.exact c).1 (same c.edge A ∙ a, same c.edge B ∙ b, p)),
  );
}
  where
    same : (e : Edge) (layer : Source) → count_links e layer links ≡ count_copies layer e copies h.routes
    same e layer = copies_count e layer segments copies links h

-- ---- links of segments, each one copy in its layer

-- links that are counted as something else is, whatever passes, have as many copies in a layer as that counts of the layer's segments
pub layer_count : (e : Edge) (layer : Source) (links : List Link) (found : (Seg → Bool) → ℕ) → ((wanted : Seg → Bool) (test : Link → Bool) → PassLinks layer_link e wanted test → count_by test links ≡ found wanted)
    → count_links e layer links ≡ found (λ s. same_source s.layer layer)
layer_count e layer links found all = weighed_ones layer_link (λ l. l.edge) (λ l. copies_in layer l.copies) (λ s. copies_in layer (one_in s.layer)) (λ s f. refl) (λ s f. refl) (λ s. same_source s.layer layer) (λ s. one_copy layer s.layer) e links found all
