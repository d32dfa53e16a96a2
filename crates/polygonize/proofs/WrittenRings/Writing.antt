-- The written rings have the edges of the cycles so far, each once.
use Rattle.std.proofs.Common.{◌≡◌, ℕ, suc, ◌+◌, ◌<◌, ◌≤◌, List, [], ◌∷◌, ◌++◌, length, get_or, map, take, refl, sym, ◌∙◌, ap, subst, arith, add-one, inl, inr, Bool, true, false, cond, Option, None, Some}
use Rattle.std.specs.Prelude.{◌↔◌, All, Contains, IfSome, IsPermutation, IsTrue, flat_map, sum_by, count_by}
use Rattle.std.proofs.lemmas.List.{map-append, append-nil, get_or-map, length-map, take_all}
use Rattle.std.proofs.lemmas.List.Elements.{All-nil, All-cons, All-head, All-tail, All-append, All-map, All-weaker, Contains-get_or}
use Rattle.std.proofs.lemmas.List.Concat.{flat_map-append}
use Rattle.std.proofs.lemmas.List.Sums.{sum_by-append, sum_by-cons}
use Rattle.std.proofs.lemmas.List.Sorted.{IsPermutation-refl, IsPermutation-trans, IsPermutation-append, IsPermutation-append_comm, IsPermutation-sym, sum_by-IsPermutation}
use Rattle.std.proofs.Math.Seq.{take-suc}
use Rattle.geom.specs.declared.point.Pt.{Pt}
use Rattle.geom.specs.declared.directed.DirectedEdge.{DirectedEdge}
use Rattle.geom.specs.Directed.{from_to, AreDirected}
use Rattle.geom.specs.Holes.{IsHole}
use Rattle.geom.specs.Rings.{ring_edges, IsSimple, IsCut, AreRings}
use Rattle.geom.specs.Rings.IsCut.{whole, taken}
use Rattle.geom.specs.Canonical.{Shape, HaveEachEdge, written_rings}
use Rattle.geom.proofs.Lists.{contains_in, in_contains, map_in}
use Rattle.geom.proofs.RingEdges.{in_flat, same_order, in_permutation, cut_edges}
use Rattle.polygonize.specs.declared.cut_ring.CutRing.{CutRing}
use Rattle.polygonize.specs.declared.written.Opening.{Opening}
use Rattle.polygonize.specs.declared.below.Gap.{Gap}
use Rattle.polygonize.specs.Below.{AreFoundBelow, IsFoundBelow}
use Rattle.polygonize.specs.CutRing.{IsCycleCut}
use Rattle.polygonize.specs.Cycle.{AreCycles, IsLeastFirst}
use Rattle.polygonize.specs.Next.{AreNext, edge_at, ring_of}
use Rattle.polygonize.specs.Number.{AreNumbers, IsVertex}
use Rattle.polygonize.specs.Owning.{ArePiecesWritten, IsOwnerFound, IsRingPlaced, KeepsShell, kept_for}
use Rattle.polygonize.specs.Piece.{IsFirstAmong}
use Rattle.polygonize.specs.Placed.{PlacedRing}
use Rattle.polygonize.specs.Written.{IsTurned, AreAdded, IsSound, IsCanonical, ArePlaces, IsRingWritten, HaveEdges, backward}
use Rattle.polygonize.proofs.RingPieces.Pieces.{cut_long, Each}
use Rattle.polygonize.proofs.RingPieces.Mapping.{cut_map, cut_all, cut_simple, all_left, all_right}
use Rattle.polygonize.proofs.Numbers.{same_vertex, number_order, numbered_vertices, numbered_ring}
use Rattle.polygonize.proofs.WrittenRings.Turning.{edges_in, turned_all_edges, turned_all_sound, turned_length}
use Rattle.polygonize.proofs.WrittenRings.Cuts.{first_point}

-- ---- the ring of a cycle and its pieces
pub ring_one_way : (ds : List DirectedEdge) (rings : List (List Pt)) → AreDirected ds → AreRings ds rings → (ring : List Pt) → Contains rings ring → (u v : Pt) → Contains (ring_edges ring) (from_to u v) → ¬ (Contains (ring_edges ring) (from_to v u))
ring_one_way ds rings a r ring i u v j k = a.one_way u v (there (from_to u v) j) (there (from_to v u) k)
  where
    there : (d : DirectedEdge) → Contains (ring_edges ring) d → Contains ds d
    there d j = in_contains ds d (in_permutation (flat_map ring_edges rings) ds d (IsPermutation-sym _ _ r.together) (in_flat ring_edges rings ring d (contains_in rings ring i) (contains_in (ring_edges ring) d j)))

map_contains : {X Y : Type 0} (f : X → Y) (xs : List X) (x : X) → Contains xs x → Contains (map f xs) (f x)
map_contains f xs x c = in_contains (map f xs) (f x) (map_in f xs x (contains_in xs x c))

pub places_of : (ds : List DirectedEdge) (next : List ℕ) → AreDirected ds → AreNext ds next → (cycles : List (List ℕ)) → AreCycles next cycles → AreRings ds (map (ring_of ds) cycles) → All (ArePlaces ds) cycles
places_of ds next a n cycles c r i d h = record {
  some = some (get_or cycles i d) (c.least_first i d h);
  least = c.least_first i d h;
  inside = All-weaker (λ k. k < length next) (λ k. k < length ds) (λ k l. omega (arith, l, len)) (get_or cycles i d) (c.are_cycles i d h).inside;
  one_way = ring_one_way ds (map (ring_of ds) cycles) a r (ring_of ds (get_or cycles i d)) (map_contains (ring_of ds) cycles (get_or cycles i d) (Contains-get_or cycles i d h));
}
  where
    len : length next ≡ length ds
    len = n.same_length

    some : (cycle : List ℕ) → IsLeastFirst cycle → 0 < length cycle
    some [] l = absurd l
    some (x ∷ xs) l = omega arith

each_all : (P : List Pt → Type 0) (ps : List (List Pt)) → Each P ps → All P ps
each_all P [] e = All-nil P
each_all P (p ∷ ps) e = All-cons P p ps e.0 (each_all P ps e.1)

pub unmapped : {X Y : Type 0} (P : Y → Type 0) (f : X → Y) (xs : List X) → All P (map f xs) → All (λ x. P (f x)) xs
unmapped P f [] h = All-nil (λ x. P (f x))
unmapped P f (x ∷ xs) h = All-cons (λ x. P (f x)) x xs (All-head P (f x) (map f xs) h) (unmapped P f xs (All-tail P (f x) (map f xs) h))

naming : (ds : List DirectedEdge) (x y : ℕ) → IsVertex ds x → IsVertex ds y → (edge_at ds x).from ≡ (edge_at ds y).from → x ≡ y
naming ds x y v w e = same_vertex ds x y v w e

pub pieces_of_points : (ds : List DirectedEdge) (ring : List ℕ) (pieces : List (List ℕ)) → All (IsVertex ds) ring → IsCut ring pieces → IsCut (ring_of ds ring) (map (ring_of ds) pieces)
pieces_of_points ds ring pieces v c = cut_map (IsVertex ds) (λ i. (edge_at ds i).from) (naming ds) c v

pub pieces_sound : (ds : List DirectedEdge) (ring : List ℕ) (pieces : List (List ℕ)) → 0 < length ring → All (IsVertex ds) ring → ((u v : Pt) → Contains (ring_edges (ring_of ds ring)) (from_to u v) → ¬ (Contains (ring_edges (ring_of ds ring)) (from_to v u))) → IsCut ring pieces → All (IsSound ds) pieces
pieces_sound ds ring pieces some v o c = sound pieces (unmapped (λ p. 3 ≤ length p) (ring_of ds) pieces (each_all (λ p. 3 ≤ length p) (map (ring_of ds) pieces) (cut_long (pieces_of_points ds ring pieces v c) (not_nil ring some) (λ u w i j. o u w (in_contains _ _ i) (in_contains _ _ j))))) (cut_simple c) (cut_all (IsVertex ds) c v)
  where
    not_nil : (ring : List ℕ) → 0 < length ring → ¬ (ring_of ds ring ≡ [])
    not_nil [] h e = absurd (omega arith)
    not_nil (x ∷ xs) h e = cc

    long : (p : List ℕ) → 3 ≤ length (ring_of ds p) → 3 ≤ length p
    long p h = let e = length-map p (λ i. (edge_at ds i).from) in let P : ℕ → Type 0 = λ n. 3 ≤ n in subst P e h

    sound : (ps : List (List ℕ)) → All (λ p. 3 ≤ length (ring_of ds p)) ps → All IsSimple ps → All (All (IsVertex ds)) ps → All (IsSound ds) ps
    sound [] l s w = All-nil (IsSound ds)
    sound (p ∷ ps) l s w = All-cons (IsSound ds) p ps (record { long = long p (All-head (λ p. 3 ≤ length (ring_of ds p)) p ps l); simple = All-head IsSimple p ps s; vertices = All-head (All (IsVertex ds)) p ps w })
        (sound ps (All-tail (λ p. 3 ≤ length (ring_of ds p)) p ps l) (All-tail IsSimple p ps s) (All-tail (All (IsVertex ds)) p ps w))

-- ---- what the loop keeps
pub record Writing (ds : List DirectedEdge) (cycles : List (List ℕ)) (i : ℕ) (written : List (List ℕ)) : Type 0 where
  pub edges : IsPermutation (edges_in ds (take i cycles)) (edges_in ds written)
  pub sound : All (IsCanonical ds) written

pub nothing_written : (ds : List DirectedEdge) (cycles : List (List ℕ)) → Writing ds cycles 0 []
nothing_written ds cycles = record { edges = IsPermutation-refl []; sound = All-nil (IsCanonical ds) }

edges_append : (ds : List DirectedEdge) (xs ys : List (List ℕ)) → edges_in ds (xs ++ ys) ≡ edges_in ds xs ++ edges_in ds ys
edges_append ds xs ys = ap (flat_map ring_edges) (map-append (ring_of ds) xs ys) ∙ flat_map-append ring_edges (map (ring_of ds) xs) (map (ring_of ds) ys)

edges_backward : (ds : List DirectedEdge) (xs : List (List ℕ)) → IsPermutation (edges_in ds xs) (edges_in ds (backward xs))
edges_backward ds [] = IsPermutation-refl []
edges_backward ds (x ∷ xs) = IsPermutation-trans _ _ _ (IsPermutation-append_comm (ring_edges (ring_of ds x)) (edges_in ds xs))
    (IsPermutation-trans _ _ _ (IsPermutation-append (edges_in ds xs) (edges_in ds (backward xs)) (ring_edges (ring_of ds x)) (edges_in ds (x ∷ [])) (edges_backward ds xs) (same_order _ _ (sym (append-nil (ring_edges (ring_of ds x))))))
    (same_order _ _ (sym (edges_append ds (backward xs) (x ∷ [])))))

all_backward : {X : Type 0} (P : X → Type 0) (xs : List X) → All P xs → All P (backward xs)
all_backward P [] h = h
all_backward P (x ∷ xs) h = All-append P (backward xs) (x ∷ []) (all_backward P xs (All-tail P x xs h)) (All-cons P x [] (All-head P x xs h) (All-nil P))

pub one_written : (ds : List DirectedEdge) (cycles : List (List ℕ)) (i : ℕ) (cycle : List ℕ) (old new : List (List ℕ)) → i < length cycles → get_or cycles i [] ≡ cycle → IsRingWritten ds cycle old new → Writing ds cycles i old → Writing ds cycles (i + 1) new
one_written ds cycles i cycle old new h here r w = record {
  edges = IsPermutation-trans _ _ _ (same_order _ _ (ap (edges_in ds) front ∙ edges_append ds (take i cycles) (cycle ∷ [])))
      (IsPermutation-trans _ _ _ (IsPermutation-append (edges_in ds (take i cycles)) (edges_in ds old) (edges_in ds (cycle ∷ [])) (edges_in ds (backward r.added.turned)) w.edges ring_is)
      (same_order _ _ (sym (ap (edges_in ds) r.added.appended ∙ edges_append ds old (backward r.added.turned)))));
  sound = let P : List (List ℕ) → Type 0 = All (IsCanonical ds) in subst P (sym r.added.appended) (All-append (IsCanonical ds) old (backward r.added.turned) w.sound (all_backward (IsCanonical ds) r.added.turned (turned_all_sound ds r.pieces r.added.turned r.added.each r.sound)));
}
  where
    front : take (i + 1) cycles ≡ take i cycles ++ cycle ∷ []
    front = rw add-one (take-suc cycles i [] h ∙ ap (λ t. take i cycles ++ t ∷ []) here)

    ring_is : IsPermutation (edges_in ds (cycle ∷ [])) (edges_in ds (backward r.added.turned))
    ring_is = IsPermutation-trans _ _ _ (same_order _ _ (append-nil (ring_edges (ring_of ds cycle)) ∙ ap ring_edges (sym r.same)))
        (IsPermutation-trans _ _ _ (cut_edges (pieces_of_points ds r.ring r.pieces r.vertices r.cut))
        (IsPermutation-trans _ _ _ (turned_all_edges ds r.pieces r.added.turned r.added.each) (edges_backward ds r.added.turned)))

pub all_written : (ds : List DirectedEdge) (cycles : List (List ℕ)) (i : ℕ) (written : List (List ℕ)) → AreRings ds (map (ring_of ds) cycles) → length cycles ≤ i → Writing ds cycles i written → HaveEdges ds written
all_written ds cycles i written r h w = IsPermutation-trans _ _ _ r.together (let P : List (List ℕ) → Type 0 = λ t. IsPermutation (edges_in ds t) (edges_in ds written) in subst P (take_all i cycles h) w.edges)

-- ---- the text
count_flat : {X Y Z : Type 0} (test : Z → Bool) (f : Y → List Z) (g : X → Y) (xs : List X) → count_by test (flat_map f (map g xs)) ≡ sum_by (λ x. count_by test (f (g x))) xs
count_flat test f g [] = refl
count_flat test f g (x ∷ xs) = sum_by-append (λ y. cond (test y) 1 0) (f (g x)) (flat_map f (map g xs)) ∙ ap (λ n. count_by test (f (g x)) + n) (count_flat test f g xs) ∙ sym (sum_by-cons (λ x. count_by test (f (g x))) x xs)

pub text_has_each : {W : Type 0} (f : W → List ℕ) (ds : List DirectedEdge) (ws vs : List W) (shapes : List Shape) → HaveEdges ds (map f ws) → IsPermutation ws vs → written_rings shapes ≡ map (λ w. ring_of ds (f w)) vs → HaveEachEdge ds shapes
text_has_each {W = W} f ds ws vs shapes h p e test = ap (λ t. count_by test (flat_map ring_edges t)) e ∙ count_flat test ring_edges (λ w. ring_of ds (f w)) vs
    ∙ sum_by-IsPermutation (λ w. count_by test (ring_edges (ring_of ds (f w)))) ws vs p ∙ sym (count_flat test ring_edges (λ w. ring_of ds (f w)) ws)
    ∙ ap (λ t. count_by test (flat_map ring_edges t)) (two_maps ws) ∙ sum_by-IsPermutation _ ds (flat_map ring_edges (map (ring_of ds) (map f ws))) h
  where
    two_maps : (xs : List W) → map (λ w. ring_of ds (f w)) xs ≡ map (ring_of ds) (map f xs)
    two_maps [] = refl
    two_maps (x ∷ xs) = ap (λ t. ring_of ds (f x) ∷ t) (two_maps xs)

-- ---- one ring of the loop
pub ring_vertices : (ds : List DirectedEdge) (numbers cycle ring : List ℕ) → AreNumbers ds numbers → ArePlaces ds cycle → ring ≡ map (λ k. get_or numbers k 0) cycle → All (IsVertex ds) ring
ring_vertices ds numbers cycle ring n p e = let P : List ℕ → Type 0 = All (IsVertex ds) in subst P (sym e) (numbered_vertices ds numbers n cycle p.inside)

least_all : (cycle : List ℕ) → IsLeastFirst cycle → All (λ k. get_or cycle 0 0 ≤ k) cycle
least_all [] l = absurd l
least_all (i ∷ is) l = All-cons (λ k. i ≤ k) i is (omega arith) l

-- the number of the least place is the least number
pub ring_least : (ds : List DirectedEdge) (numbers cycle ring : List ℕ) → AreDirected ds → AreNumbers ds numbers → ArePlaces ds cycle → ring ≡ map (λ k. get_or numbers k 0) cycle → All (λ k. get_or ring 0 0 ≤ k) ring
ring_least ds numbers cycle ring a n p e = let P : List ℕ → Type 0 = λ t. All (λ k. get_or t 0 0 ≤ k) t in subst P (sym e)
    (let Q : ℕ → Type 0 = λ m. All (λ k. m ≤ k) (map (λ k. get_or numbers k 0) cycle) in subst Q (sym (get_or-map (λ k. get_or numbers k 0) cycle 0 0 0 p.some))
    (All-map (λ k. get_or numbers (get_or cycle 0 0) 0 ≤ k) (λ k. get_or numbers k 0) cycle
    (λ i d h. number_order ds a (get_or cycle 0 0) (get_or cycle i d) (get_or numbers (get_or cycle 0 0) 0) (get_or numbers (get_or cycle i d) 0) (least_all cycle p.least i d h) (p.inside i d h)
    (n.each (get_or cycle 0 0) (p.inside 0 0 p.some)) (n.each (get_or cycle i d) (p.inside i d h)))))

pub ring_some : (numbers cycle ring : List ℕ) → 0 < length cycle → ring ≡ map (λ k. get_or numbers k 0) cycle → 0 < length ring
ring_some numbers cycle ring h e = let P : ℕ → Type 0 = λ n. 0 < n in subst P (sym (ap length e ∙ length-map cycle (λ k. get_or numbers k 0))) h

pub ring_sound : (ds : List DirectedEdge) (numbers cycle ring : List ℕ) (pieces : List (List ℕ)) → AreNumbers ds numbers → ArePlaces ds cycle → ring ≡ map (λ k. get_or numbers k 0) cycle → IsCut ring pieces → All (IsSound ds) pieces
ring_sound ds numbers cycle ring pieces n p e c = pieces_sound ds ring pieces (ring_some numbers cycle ring p.some e) (ring_vertices ds numbers cycle ring n p e) (let P : List Pt → Type 0 = λ t. (u v : Pt) → Contains (ring_edges t) (from_to u v) → ¬ (Contains (ring_edges t) (from_to v u)) in subst P (sym same) p.one_way) c
  where
    same : ring_of ds ring ≡ ring_of ds cycle
    same = ap (ring_of ds) e ∙ numbered_ring ds numbers n cycle p.inside

pub ring_written : {M : Type 0} (ds : List DirectedEdge) (cycle : List ℕ) (ring : CutRing M) (old new : List (List ℕ)) → IsCycleCut ds cycle ring → AreAdded ring.pieces.items old new → IsRingWritten ds cycle old new
ring_written ds cycle ring old new r a = record { ring = r.ring; same = r.same; vertices = r.vertices; pieces = ring.pieces.items; cut = r.cut; sound = r.sound; added = a }

-- ---- what stands at the end of a list
pub last_of : {V : Type 0} (P : V → Type 0) (xs rest : List V) (x : V) → xs ≡ rest ++ x ∷ [] → All P xs → P x
last_of P xs rest x e h = All-head P x [] (all_right P rest (x ∷ []) (let Q : List _ → Type 0 = All P in subst Q e h))

pub rest_of : {V : Type 0} (P : V → Type 0) (xs rest : List V) (x : V) → xs ≡ rest ++ x ∷ [] → All P xs → All P rest
rest_of P xs rest x e h = all_left P rest (x ∷ []) (let Q : List _ → Type 0 = All P in subst Q e h)

pub two_points : (ring turned : List ℕ) → 3 ≤ length ring → IsTurned ring turned → 2 ≤ length turned
two_points ring turned h t = let e = turned_length ring turned t in omega (arith, h, e)

-- ---- what the calls for one ring ask
pub vertices_inside : (ds : List DirectedEdge) (ring : List ℕ) (n : ℕ) → n ≡ length ds → All (IsVertex ds) ring → All (λ k. k < n) ring
vertices_inside ds ring n e v = All-weaker (IsVertex ds) (λ k. k < n) (λ k w. below k w.inside) ring v
  where
    below : (k : ℕ) → k < length ds → k < n
    below k h = omega (arith, h, e)

pub cut_some : {X : Type 0} {ring : List X} {pieces : List (List X)} → IsCut ring pieces → 0 < length pieces
cut_some (whole s) = omega arith
cut_some (taken {ring = r} {pieces = ps} front v mid back e s c) = more (length ps)
  where
    more : (n : ℕ) → 0 < suc n
    more n = omega arith

-- a shell has no owner; that of a hole is kept for the edge below it
owner_found : (ds : List DirectedEdge) (ring : List ℕ) (shell_of : List (Option Opening)) (is_hole : Bool) (below : Option Gap) (owner : Option Opening) → IsTrue is_hole ↔ IsHole (ring_of ds ring) → (IsHole (ring_of ds ring) → IsFoundBelow ds (edge_at ds (get_or ring 0 0)).from below)
    → (is_hole ≡ false → owner ≡ None) → (is_hole ≡ true → owner ≡ kept_for below shell_of) → IsOwnerFound ds ring shell_of owner
owner_found ds ring shell_of false below owner h f n s = inl ((λ q. (let z : false ≡ true = h.1 q in absurd (cc))), n refl)
owner_found ds ring shell_of true None owner h f n s = inr (inr (record { is_hole = h.0 refl; none = f (h.0 refl) }, s refl))
owner_found ds ring shell_of true (Some g) owner h f n s = inr (inl (g.number, record { is_hole = h.0 refl; inside = (f (h.0 refl)).0; nearest = (f (h.0 refl)).1 }, s refl))

below_ring : {M : Type 0} (ds : List DirectedEdge) (cycle : List ℕ) (ring : CutRing M) (below : Option Gap) → ArePlaces ds cycle → (r : IsCycleCut ds cycle ring) → (IsHole (ring_of ds cycle) → IsFoundBelow ds (edge_at ds (get_or cycle 0 0)).from below)
    → IsHole (ring_of ds r.ring) → IsFoundBelow ds (edge_at ds (get_or r.ring 0 0)).from below
below_ring ds cycle ring below p r f h = subst (λ (t : Pt). IsFoundBelow ds t below) (sym (first_point ds r.ring cycle r.same r.some p.some)) (f (subst IsHole r.same h))

-- the edge below a hole has room for its shell
pub below_inside : {M : Type 0} (ds : List DirectedEdge) (cycle : List ℕ) (ring : CutRing M) (below : Option Gap) (n : ℕ) → n ≡ length ds → ArePlaces ds cycle → (r : IsCycleCut ds cycle ring) → (IsHole (ring_of ds cycle) → IsFoundBelow ds (edge_at ds (get_or cycle 0 0)).from below)
    → ring.is_hole ≡ true → IfSome below (λ g. g.number < n)
below_inside ds cycle ring None n e p r f h = tt
below_inside ds cycle ring (Some g) n e p r f h = let b = (below_ring ds cycle ring (Some g) p r f (r.hole.0 h)).0 in omega (arith, b, e)

-- the ring is written, and its owner is known
pub ring_placed : {M : Type 0} (ds : List DirectedEdge) (cycle : List ℕ) (ring : CutRing M) (below : Option Gap) (owner : Option Opening) (shell : Opening) (shells_old shells_new : List (Option Opening)) (old new : List PlacedRing) → ArePlaces ds cycle → IsCycleCut ds cycle ring
    → (IsHole (ring_of ds cycle) → IsFoundBelow ds (edge_at ds (get_or cycle 0 0)).from below) → (ring.is_hole ≡ false → owner ≡ None) → (ring.is_hole ≡ true → owner ≡ kept_for below shells_old)
    → ArePiecesWritten ring.first ring.pieces.items owner shell old new → KeepsShell cycle shell shells_old shells_new → IsRingPlaced ds cycle shells_old shells_new old new
ring_placed ds cycle ring below owner shell shells_old shells_new old new p r f n s w k = record {
  ring = r.ring;
  same = r.same;
  some = r.some;
  vertices = r.vertices;
  least_first = r.least_first;
  pieces = ring.pieces.items;
  cut = r.cut;
  sound = r.sound;
  first = ring.first;
  inside = r.inside;
  is_first = r.is_first;
  owner = owner;
  found = owner_found ds r.ring shells_old ring.is_hole below owner r.hole (below_ring ds cycle ring below p r f) n s;
  shell = shell;
  written = w;
  kept = k;
}

-- ---- the ring of one of the cycles

-- the ring of a cycle by its numbers, and its pieces
pub cycle_cut : {M : Type 0} (ds : List DirectedEdge) (numbers cycle ring : List ℕ) (cut_ring : CutRing M) → AreDirected ds → AreNumbers ds numbers → ArePlaces ds cycle → ring ≡ map (λ k. get_or numbers k 0) cycle → IsCut ring cut_ring.pieces.items → IsTrue cut_ring.is_hole ↔ IsHole (ring_of ds ring)
    → cut_ring.first < length cut_ring.pieces.items → IsFirstAmong ds (get_or ring 0 0) cut_ring.pieces.items cut_ring.first → IsCycleCut ds cycle cut_ring
cycle_cut ds numbers cycle ring cut_ring a n p e c h i f = record {
  ring = ring;
  same = ap (ring_of ds) e ∙ numbered_ring ds numbers n cycle p.inside;
  some = ring_some numbers cycle ring p.some e;
  vertices = ring_vertices ds numbers cycle ring n p e;
  least_first = ring_least ds numbers cycle ring a n p e;
  cut = c;
  sound = ring_sound ds numbers cycle ring cut_ring.pieces.items n p e c;
  hole = h;
  inside = i;
  is_first = f;
}

-- ---- the cycle at a place
pub of_cycle : (P : List ℕ → Type 0) (cycles : List (List ℕ)) (i : ℕ) (cycle : List ℕ) → i < length cycles → cycle ≡ get_or cycles i [] → All P cycles → P cycle
of_cycle P cycles i cycle h e a = subst P (sym e) (a i [] h)

pub below_cycle : (ds : List DirectedEdge) (cycles : List (List ℕ)) (below : List (Option Gap)) (i : ℕ) (cycle : List ℕ) → i < length cycles → cycle ≡ get_or cycles i [] → AreFoundBelow ds cycles below
    → IsHole (ring_of ds cycle) → IsFoundBelow ds (edge_at ds (get_or cycle 0 0)).from (get_or below i None)
below_cycle ds cycles below i cycle h e a = subst (λ (t : List ℕ). IsHole (ring_of ds t) → IsFoundBelow ds (edge_at ds (get_or t 0 0)).from (get_or below i None)) (sym e) (a.each i h)
