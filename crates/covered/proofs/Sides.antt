-- The directed edges by the cover sets on both sides of edges are those of the result.
use Rattle.std.proofs.Common.{◌≡◌, ◌⊎◌, inl, inr, ℕ, zero, suc, ◌+◌, ◌<◌, List, [], ◌∷◌, ◌++◌, length, map, get_or, drop, Bool, true, false, not, refl, sym, ap, ◌∙◌, arith, subst, ⊎_elim, add-one, append_assoc}
use Rattle.std.proofs.Math.Seq.{drop-cons}
use Rattle.std.proofs.lemmas.List.{length-map}
use Rattle.std.specs.List.{All, AllPairs, Contains, slice_get}
use Rattle.std.specs.Prelude.{◌&&◌, Some}
use Rattle.geom.specs.declared.op.Op.{Op}
use Rattle.geom.specs.declared.edge.Edge.{Edge}
use Rattle.geom.specs.declared.directed.DirectedEdge.{DirectedEdge}
use Rattle.geom.specs.Directed.{IsDirectedBefore, RunsAlong, from_to}
use Rattle.geom.specs.Label.{ways}
use Rattle.geom.specs.ResultEdges.{left_side, right_side}
use Rattle.geom.proofs.Doubling.{right_is_left}
use Rattle.geom.proofs.Lists.{In, contains_in, in_append, in_back, in_contains, in_front, in_map, map_in}
use Rattle.geom.proofs.Owners.{all_in}
use Rattle.cover_law.specs.declared.border.Border.{Border}
use Rattle.cover_law.specs.Cover.{Bordered, bordered, cover, edge_in, edges_in}
use Rattle.cover_sets.specs.Covers.{AreCovers}
use Rattle.cover_sets.specs.Sets.{IsNumber, set_of}
use Rattle.covered.specs.Covered.{AreCoveredEdges, IsCoveredEdge, bounds_covered}
use Rattle.covered.specs.Sides.{directed_of, directions_of, holds_of}

-- ---- the loop
module _ (op : Op) (split : ℕ) (sets : List (List ℕ)) where
  pub one_more : (bs : List Border) (ls rs : List ℕ) (n : ℕ) (d : Border) → n < length bs → n < length ls → n < length rs → (list more whole : List DirectedEdge) (way : Bool × Bool)
      → list ++ directed_of op split sets (drop n bs) (drop n ls) (drop n rs) ≡ whole
      → way ≡ directions_of op split (set_of sets (get_or ls n 0)) (set_of sets (get_or rs n 0))
      → more ≡ list ++ ways (get_or bs n d).edge way
      → more ++ directed_of op split sets (drop (n + 1) bs) (drop (n + 1) ls) (drop (n + 1) rs) ≡ whole
  one_more bs ls rs n d h k l list more whole way e f m =
      let b = get_or bs n d in
      let rest : List DirectedEdge = directed_of op split sets (drop (suc n) bs) (drop (suc n) ls) (drop (suc n) rs) in
      let first : List DirectedEdge = ways b.edge (directions_of op split (set_of sets (get_or ls n 0)) (set_of sets (get_or rs n 0))) in
      rw add-one (ap (λ (t : List DirectedEdge). t ++ rest) (m ∙ ap (λ (w : Bool × Bool). list ++ ways b.edge w) f)
      ∙ append_assoc list first rest
      ∙ ap (λ (t : List DirectedEdge). list ++ t) (λ i. directed_of op split sets (sym (drop-cons bs n d h) i) (sym (drop-cons ls n 0 k) i) (sym (drop-cons rs n 0 l) i))
      ∙ e)

-- ---- the directions of one edge
in_ways : (e : Edge) (s t : Bool) (d : DirectedEdge) → In d (ways e (s, t)) → ((s ≡ true) × (d ≡ from_to e.p e.q)) ⊎ ((t ≡ true) × (d ≡ from_to e.q e.p))
in_ways e true true d (inl h) = inl (refl, sym h)
in_ways e true true d (inr (inl h)) = inr (refl, sym h)
in_ways e true true d (inr (inr i)) = absurd i
in_ways e true false d (inl h) = inl (refl, sym h)
in_ways e true false d (inr i) = absurd i
in_ways e false true d (inl h) = inr (refl, sym h)
in_ways e false true d (inr i) = absurd i
in_ways e false false d i = absurd i

along_in : (e : Edge) (s t : Bool) (d : DirectedEdge) → s ≡ true → d ≡ from_to e.p e.q → In d (ways e (s, t))
along_in e true t d h k = inl (sym k)
along_in e false t d h k = absurd (let q = h in cc)

back_in : (e : Edge) (s t : Bool) (d : DirectedEdge) → t ≡ true → d ≡ from_to e.q e.p → In d (ways e (s, t))
back_in e true true d h k = inr (inl (sym k))
back_in e false true d h k = inl (sym k)
back_in e s false d h k = absurd (let q = h in cc)

module _ (op : Op) (split count : ℕ) (es : List Bordered) (sets : List (List ℕ)) where
  -- the numbers are those of the cover sets on the sides of the edge
  record IsTold (b : Border) (l r : ℕ) : Type 0 where
    left_is : set_of sets l ≡ cover count es (left_side b.edge.p b.edge.q)
    right_is : set_of sets r ≡ cover count es (right_side b.edge.p b.edge.q)

  abbrev AreTold : List Border → List ℕ → List ℕ → Type 0
  AreTold [] ls rs = Unit {0}
  AreTold (b ∷ bs) [] rs = ⊥
  AreTold (b ∷ bs) (l ∷ ls) [] = ⊥
  AreTold (b ∷ bs) (l ∷ ls) (r ∷ rs) = IsTold b l r × AreTold bs ls rs

  along_is : (b : Border) (l r : ℕ) → IsTold b l r → holds_of op split (set_of sets l) && not (holds_of op split (set_of sets r)) ≡ bounds_covered op split count es b.edge.p b.edge.q
  along_is b l r h = λ i. holds_of op split (h.left_is i) && not (holds_of op split (h.right_is i))

  back_is : (b : Border) (l r : ℕ) → IsTold b l r → holds_of op split (set_of sets r) && not (holds_of op split (set_of sets l)) ≡ bounds_covered op split count es b.edge.q b.edge.p
  back_is b l r h =
      let right : set_of sets r ≡ cover count es (left_side b.edge.q b.edge.p) = h.right_is ∙ ap (cover count es) (right_is_left b.edge.p b.edge.q) in
      let left : set_of sets l ≡ cover count es (right_side b.edge.q b.edge.p) = h.left_is ∙ ap (cover count es) (sym (right_is_left b.edge.q b.edge.p)) in
      λ i. holds_of op split (right i) && not (holds_of op split (left i))

  -- the directed edges along one border
  is_way : (b : Border) (l r : ℕ) → IsTold b l r → (d : DirectedEdge) → In d (ways b.edge (directions_of op split (set_of sets l) (set_of sets r))) → RunsAlong d b.edge × (bounds_covered op split count es d.from d.to ≡ true)
  is_way b l r h d i = ⊎_elim
      (λ k. (inl k.1, ap (λ (x : DirectedEdge). bounds_covered op split count es x.from x.to) k.1 ∙ sym (along_is b l r h) ∙ k.0))
      (λ k. (inr k.1, ap (λ (x : DirectedEdge). bounds_covered op split count es x.from x.to) k.1 ∙ sym (back_is b l r h) ∙ k.0))
      (in_ways b.edge (holds_of op split (set_of sets l) && not (holds_of op split (set_of sets r))) (holds_of op split (set_of sets r) && not (holds_of op split (set_of sets l))) d i)

  way_is : (b : Border) (l r : ℕ) → IsTold b l r → (d : DirectedEdge) → RunsAlong d b.edge → bounds_covered op split count es d.from d.to ≡ true → In d (ways b.edge (directions_of op split (set_of sets l) (set_of sets r)))
  way_is b l r h d (inl k) t = along_in b.edge (holds_of op split (set_of sets l) && not (holds_of op split (set_of sets r))) (holds_of op split (set_of sets r) && not (holds_of op split (set_of sets l))) d
      (along_is b l r h ∙ sym (ap (λ (x : DirectedEdge). bounds_covered op split count es x.from x.to) k) ∙ t) k
  way_is b l r h d (inr k) t = back_in b.edge (holds_of op split (set_of sets l) && not (holds_of op split (set_of sets r))) (holds_of op split (set_of sets r) && not (holds_of op split (set_of sets l))) d
      (back_is b l r h ∙ sym (ap (λ (x : DirectedEdge). bounds_covered op split count es x.from x.to) k) ∙ t) k

  -- those along all borders
  are_ways : (bs : List Border) (ls rs : List ℕ) → AreTold bs ls rs → (d : DirectedEdge) → In d (directed_of op split sets bs ls rs)
      → (b : Border) × In b bs × RunsAlong d b.edge × (bounds_covered op split count es d.from d.to ≡ true)
  are_ways [] ls rs h d i = absurd i
  are_ways (b ∷ bs) [] rs h d i = absurd i
  are_ways (b ∷ bs) (l ∷ ls) [] h d i = absurd i
  are_ways (b ∷ bs) (l ∷ ls) (r ∷ rs) h d i = ⊎_elim
      (λ j. let w = is_way b l r h.0 d j in (b, inl refl, w.0, w.1))
      (λ j. let w = are_ways bs ls rs h.1 d j in (w.0, inr w.1, w.2, w.3))
      (in_append (ways b.edge (directions_of op split (set_of sets l) (set_of sets r))) (directed_of op split sets bs ls rs) d i)

  ways_are : (bs : List Border) (ls rs : List ℕ) → AreTold bs ls rs → (b : Border) → In b bs → (d : DirectedEdge) → RunsAlong d b.edge → bounds_covered op split count es d.from d.to ≡ true → In d (directed_of op split sets bs ls rs)
  ways_are [] ls rs h b i d r t = absurd i
  ways_are (c ∷ bs) [] rs h b i d r t = absurd h
  ways_are (c ∷ bs) (l ∷ ls) [] h b i d r t = absurd h
  ways_are (c ∷ bs) (l ∷ ls) (m ∷ rs) h b (inl e) d r t = in_front (ways c.edge (directions_of op split (set_of sets l) (set_of sets m))) (directed_of op split sets bs ls rs) d
      (way_is c l m h.0 d (subst (λ (x : Border). RunsAlong d x.edge) (sym e) r) t)
  ways_are (c ∷ bs) (l ∷ ls) (m ∷ rs) h b (inr i) d r t = in_back (ways c.edge (directions_of op split (set_of sets l) (set_of sets m))) (directed_of op split sets bs ls rs) d
      (ways_are bs ls rs h.1 b i d r t)

  told_by : (bs : List Border) (ls rs : List ℕ) → length ls ≡ length bs → length rs ≡ length bs
      → ((k : ℕ) (b : Border) (n : ℕ) → slice_get bs k ≡ Some b → slice_get ls k ≡ Some n → set_of sets n ≡ cover count es (left_side b.edge.p b.edge.q))
      → ((k : ℕ) (b : Border) (n : ℕ) → slice_get bs k ≡ Some b → slice_get rs k ≡ Some n → set_of sets n ≡ cover count es (right_side b.edge.p b.edge.q))
      → AreTold bs ls rs
  told_by [] ls rs h k f g = tt
  told_by (b ∷ bs) [] rs h k f g = absurd (omega (arith, h))
  told_by (b ∷ bs) (l ∷ ls) [] h k f g = absurd (omega (arith, k))
  told_by (b ∷ bs) (l ∷ ls) (r ∷ rs) h k f g = (
    record { left_is = f 0 b l refl refl; right_is = g 0 b r refl refl },
    told_by bs ls rs (omega (arith, h)) (omega (arith, k)) (λ n. f (suc n)) (λ n. g (suc n)),
  )

-- ---- the borders by their places
same : {X : Type 0} {x y : X} → Some x ≡ Some y → x ≡ y
same {X} {x} {y} h = cc

bordered_at : (features : List ℕ) (bs : List Border) (k : ℕ) (b : Border) → slice_get bs k ≡ Some b → slice_get (map (bordered features) bs) k ≡ Some (bordered features b)
bordered_at features [] k b h = absurd (let q = h in cc)
bordered_at features (c ∷ bs) zero b h = ap (λ (x : Border). Some (bordered features x)) (same h)
bordered_at features (c ∷ bs) (suc k) b h = bordered_at features bs k b h

module _ (op : Op) (split count : ℕ) (features : List ℕ) (borders : List Border) (sets : List (List ℕ)) (left right : List ℕ) (c : AreCovers count (map (bordered features) borders) sets left right) where
  abbrev es : List Bordered
  es = map (bordered features) borders

  told : AreTold op split count es sets borders left right
  told = told_by op split count es sets borders left right (c.left_is.one_each ∙ length-map borders (bordered features)) (c.right_is.one_each ∙ length-map borders (bordered features))
      (λ k b n i j. (c.left_is.each k (bordered features b) n (bordered_at features borders k b i) j).1)
      (λ k b n i j. (c.right_is.each k (bordered features b) n (bordered_at features borders k b i) j).1)

  is_covered : (d : DirectedEdge) → In d (directed_of op split sets borders left right) → IsCoveredEdge op split count es d
  is_covered d i =
      let w = are_ways op split count es sets borders left right told d i in
      record { edge = (w.0).edge; rounded = in_contains (edges_in es) (w.0).edge (map_in edge_in es (bordered features w.0) (map_in (bordered features) borders w.0 w.1)); runs = w.2; bounds = w.3 }

  covered_is : (d : DirectedEdge) → IsCoveredEdge op split count es d → In d (directed_of op split sets borders left right)
  covered_is d r =
      let m = in_map edge_in es r.edge (contains_in (edges_in es) r.edge r.rounded) in
      let b = in_map (bordered features) borders m.0 m.1 in
      let e : (b.0).edge ≡ r.edge = ap edge_in b.2 ∙ m.2 in
      ways_are op split count es sets borders left right told b.0 b.1 d (subst (λ (x : Edge). RunsAlong d x) (sym e) r.runs) r.bounds

  pub are_covered_edges : (list : List DirectedEdge) → AllPairs IsDirectedBefore list
      → ((d : DirectedEdge) → (Contains list d → Contains (directed_of op split sets borders left right) d) × (Contains (directed_of op split sets borders left right) d → Contains list d))
      → AreCoveredEdges op split count es list
  are_covered_edges list up same_as = record {
    ascending = up;
    exact = λ d. (
      (λ i. is_covered d (contains_in (directed_of op split sets borders left right) d ((same_as d).0 i))),
      (λ r. (same_as d).1 (in_contains (directed_of op split sets borders left right) d (covered_is d r))),
    );
  }

-- ---- what stands on one side of each edge are numbers of sets
numbers_by : (sets : List (List ℕ)) (es : List Bordered) (ns : List ℕ) → length ns ≡ length es
    → ((k : ℕ) (b : Bordered) (n : ℕ) → slice_get es k ≡ Some b → slice_get ns k ≡ Some n → IsNumber sets n) → (n : ℕ) → In n ns → IsNumber sets n
numbers_by sets es [] h f n i = absurd i
numbers_by sets [] (m ∷ ms) h f n i = absurd (omega (arith, h))
numbers_by sets (e ∷ es) (m ∷ ms) h f n (inl q) = subst (IsNumber sets) q (f 0 e m refl refl)
numbers_by sets (e ∷ es) (m ∷ ms) h f n (inr i) = numbers_by sets es ms (omega (arith, h)) (λ k. f (suc k)) n i

module _ (count : ℕ) (es : List Bordered) (sets : List (List ℕ)) (left right : List ℕ) (c : AreCovers count es sets left right) where
  pub left_numbers : All (IsNumber sets) left
  left_numbers = all_in (IsNumber sets) left (numbers_by sets es left c.left_is.one_each (λ k b n i j. (c.left_is.each k b n i j).0))

  pub right_numbers : All (IsNumber sets) right
  right_numbers = all_in (IsNumber sets) right (numbers_by sets es right c.right_is.one_each (λ k b n i j. (c.right_is.each k b n i j).0))
