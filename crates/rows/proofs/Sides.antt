-- The sides of borders, by the numbers of the cover sets, are the directed edges of all rows.
use Rattle.std.proofs.Common.{◌≡◌, ◌⊎◌, inl, inr, ℕ, zero, suc, ◌+◌, ◌<◌, List, [], ◌∷◌, ◌++◌, length, map, get_or, drop, ◌-◌, Bool, true, false, not, cond, refl, sym, ap, ◌∙◌, arith, subst, ⊎_elim, add-one, append_assoc, eqb-true, eq-eqb}
use Rattle.std.proofs.Math.Seq.{drop-cons}
use Rattle.std.specs.List.{All, AllPairs, Contains, slice_get}
use Rattle.std.specs.Prelude.{◌≢◌, ◌==◌, ◌&&◌, Some, if◌then◌else◌}
use Rattle.std.proofs.lemmas.List.Elements.{All-contains, All-drop, All-take}
use Rattle.geom.specs.declared.point.Pt.{Pt}
use Rattle.geom.specs.declared.edge.Edge.{Edge}
use Rattle.geom.specs.declared.directed.DirectedEdge.{DirectedEdge}
use Rattle.geom.specs.Directed.{RunsAlong, from_to}
use Rattle.geom.specs.Parity.{parity}
use Rattle.geom.specs.Pixel.{Point}
use Rattle.geom.specs.ResultEdges.{left_side, right_side}
use Rattle.geom.proofs.Doubling.{right_is_left}
use Rattle.geom.proofs.Lists.{In, contains_in, in_append, in_back, in_contains, in_front}
use Rattle.cover_law.specs.declared.border.Border.{Border}
use Rattle.cover_law.specs.Changing.{has_some}
use Rattle.cover_law.specs.Cover.{AreBorders, Bordered, border, bordered, cover, edges_in, has}
use Rattle.cover_law.specs.Rows.{IsRowEdge, is_covered_by, same_list}
use Rattle.cover_law.proofs.Covers.{cover_is_exact, right_is_across}
use Rattle.cover_law.proofs.InRow.{same_itself}
use Rattle.cover_sets.specs.Sets.{AreSets, IsListed, IsNumber, set_of}
use Rattle.rows.specs.declared.edges.RowEdge.{RowEdge}
use Rattle.rows.specs.RowEdges.{AreCoveredBorders, AreEdgesOfRows, IsEdgeOfRow, IsRowEdgeBefore, row_edge, side, sides}

-- ---- the loop
abbrev both : Border → ℕ → ℕ → List RowEdge
both b l r = side l (from_to b.edge.p b.edge.q) ++ side r (from_to b.edge.q b.edge.p)

pub side_more : (bs : List Border) (ls rs : List ℕ) (n : ℕ) (d : Border) → n < length bs → n < length ls → n < length rs → (list along more whole : List RowEdge)
    → list ++ sides (drop n bs) (drop n ls) (drop n rs) ≡ whole
    → along ≡ list ++ side (get_or ls n 0) (from_to (get_or bs n d).edge.p (get_or bs n d).edge.q)
    → more ≡ along ++ side (get_or rs n 0) (from_to (get_or bs n d).edge.q (get_or bs n d).edge.p)
    → more ++ sides (drop (n + 1) bs) (drop (n + 1) ls) (drop (n + 1) rs) ≡ whole
side_more bs ls rs n d h k l list along more whole e f m =
    let b = get_or bs n d in
    let x = get_or ls n 0 in
    let y = get_or rs n 0 in
    let rest : List RowEdge = sides (drop (suc n) bs) (drop (suc n) ls) (drop (suc n) rs) in
    let first : List RowEdge = side x (from_to b.edge.p b.edge.q) in
    let second : List RowEdge = side y (from_to b.edge.q b.edge.p) in
    rw add-one (ap (λ (t : List RowEdge). t ++ rest) (m ∙ ap (λ (t : List RowEdge). t ++ second) f)
    ∙ ap (λ (t : List RowEdge). t ++ rest) (append_assoc list first second)
    ∙ append_assoc list (first ++ second) rest
    ∙ ap (λ (t : List RowEdge). list ++ t) (λ i. sides (sym (drop-cons bs n d h) i) (sym (drop-cons ls n 0 k) i) (sym (drop-cons rs n 0 l) i))
    ∙ e)

-- ---- what the sides are
in_side : (n : ℕ) (d : DirectedEdge) (e : RowEdge) → In e (side n d) → (n ≢ 4294967295) × (row_edge n d ≡ e)
in_side n d e i = by_test (n == 4294967295) refl i
  where
    by_test : (t : Bool) → (n == 4294967295) ≡ t → In e (cond t [] (row_edge n d ∷ [])) → (n ≢ 4294967295) × (row_edge n d ≡ e)
    by_test true h i = absurd i
    by_test false h (inl k) = ((λ s. let t = eq-eqb n 4294967295 s in absurd (cc)), k)
    by_test false h (inr k) = absurd k

side_in : (n : ℕ) (d : DirectedEdge) → n ≢ 4294967295 → In (row_edge n d) (side n d)
side_in n d h = by_test (n == 4294967295) refl
  where
    by_test : (t : Bool) → (n == 4294967295) ≡ t → In (row_edge n d) (cond t [] (row_edge n d ∷ []))
    by_test true k = absurd (h (eqb-true n 4294967295 k))
    by_test false k = inl refl

-- the number on the left of a border or on its right, and the border in that direction
abbrev Along : Border → ℕ → ℕ → RowEdge → Type 0
Along b l r e = ((l ≢ 4294967295) × (row_edge l (from_to b.edge.p b.edge.q) ≡ e)) ⊎ ((r ≢ 4294967295) × (row_edge r (from_to b.edge.q b.edge.p) ≡ e))

record Place (bs : List Border) (ls rs : List ℕ) (e : RowEdge) : Type 0 where
  k : ℕ
  b : Border
  l : ℕ
  r : ℕ
  b_is : slice_get bs k ≡ Some b
  l_is : slice_get ls k ≡ Some l
  r_is : slice_get rs k ≡ Some r
  along : Along b l r e

later : (b : Border) (l r : ℕ) {bs : List Border} {ls rs : List ℕ} {e : RowEdge} → Place bs ls rs e → Place (b ∷ bs) (l ∷ ls) (r ∷ rs) e
later b l r p = record { k = suc p.k; b = p.b; l = p.l; r = p.r; b_is = p.b_is; l_is = p.l_is; r_is = p.r_is; along = p.along }

place_of : (bs : List Border) (ls rs : List ℕ) (e : RowEdge) → In e (sides bs ls rs) → Place bs ls rs e
place_of [] ls rs e i = absurd i
place_of (b ∷ bs) [] rs e i = absurd i
place_of (b ∷ bs) (l ∷ ls) [] e i = absurd i
place_of (b ∷ bs) (l ∷ ls) (r ∷ rs) e i = ⊎_elim
    (λ j. ⊎_elim (λ h. here (inl (in_side l (from_to b.edge.p b.edge.q) e h))) (λ h. here (inr (in_side r (from_to b.edge.q b.edge.p) e h))) (in_append (side l (from_to b.edge.p b.edge.q)) (side r (from_to b.edge.q b.edge.p)) e j))
    (λ j. later b l r (place_of bs ls rs e j))
    (in_append (both b l r) (sides bs ls rs) e i)
  where
    here : Along b l r e → Place (b ∷ bs) (l ∷ ls) (r ∷ rs) e
    here a = record { k = 0; b = b; l = l; r = r; b_is = refl; l_is = refl; r_is = refl; along = a }

along_in : (b : Border) (l r : ℕ) (e : RowEdge) → Along b l r e → In e (both b l r)
along_in b l r e (inl h) = in_front (side l (from_to b.edge.p b.edge.q)) (side r (from_to b.edge.q b.edge.p)) e (subst (λ (x : RowEdge). In x (side l (from_to b.edge.p b.edge.q))) h.1 (side_in l (from_to b.edge.p b.edge.q) h.0))
along_in b l r e (inr h) = in_back (side l (from_to b.edge.p b.edge.q)) (side r (from_to b.edge.q b.edge.p)) e (subst (λ (x : RowEdge). In x (side r (from_to b.edge.q b.edge.p))) h.1 (side_in r (from_to b.edge.q b.edge.p) h.0))

some_same : {X : Type 0} {x y : X} → Some x ≡ Some y → x ≡ y
some_same {X} {x} {y} h = cc

place_in : (bs : List Border) (ls rs : List ℕ) (e : RowEdge) (k : ℕ) (b : Border) (l r : ℕ) → slice_get bs k ≡ Some b → slice_get ls k ≡ Some l → slice_get rs k ≡ Some r → Along b l r e → In e (sides bs ls rs)
place_in [] ls rs e k b l r h i j a = absurd (let q = h in cc)
place_in (c ∷ bs) [] rs e k b l r h i j a = absurd (let q = i in cc)
place_in (c ∷ bs) (m ∷ ls) [] e k b l r h i j a = absurd (let q = j in cc)
place_in (c ∷ bs) (m ∷ ls) (n ∷ rs) e zero b l r h i j a =
    let B : Border → Type 0 = λ x. Along x l r e in
    let L : ℕ → Type 0 = λ x. Along c x r e in
    let R : ℕ → Type 0 = λ x. Along c m x e in
    in_front (both c m n) (sides bs ls rs) e (along_in c m n e (subst R (sym (some_same j)) (subst L (sym (some_same i)) (subst B (sym (some_same h)) a))))
place_in (c ∷ bs) (m ∷ ls) (n ∷ rs) e (suc k) b l r h i j a = in_back (both c m n) (sides bs ls rs) e (place_in bs ls rs e k b l r h i j a)

-- ---- a number at each place
number_at : (bs : List Border) (ns : List ℕ) → length ns ≡ length bs → (k : ℕ) (b : Border) → slice_get bs k ≡ Some b → (n : ℕ) × (slice_get ns k ≡ Some n)
number_at [] ns h k b e = absurd (let q = e in cc)
number_at (c ∷ bs) [] h k b e = absurd (omega (arith, h))
number_at (c ∷ bs) (n ∷ ns) h zero b e = (n, refl)
number_at (c ∷ bs) (n ∷ ns) h (suc k) b e = number_at bs ns (omega (arith, h)) k b e

-- ---- the borders by their places
same_length : (features : List ℕ) (bs : List Border) → length (map (bordered features) bs) ≡ length bs
same_length features [] = refl
same_length features (b ∷ bs) = ap suc (same_length features bs)

bordered_at : (features : List ℕ) (bs : List Border) (k : ℕ) (b : Border) → slice_get bs k ≡ Some b → slice_get (map (bordered features) bs) k ≡ Some (bordered features b)
bordered_at features [] k b h = absurd (let q = h in cc)
bordered_at features (c ∷ bs) zero b h = ap (λ (x : Border). Some (bordered features x)) (some_same h)
bordered_at features (c ∷ bs) (suc k) b h = bordered_at features bs k b h

bordered_in : (features : List ℕ) (bs : List Border) (k : ℕ) (b : Border) → slice_get bs k ≡ Some b → In (bordered features b) (map (bordered features) bs)
bordered_in features [] k b h = absurd (let q = h in cc)
bordered_in features (c ∷ bs) zero b h = inl (ap (bordered features) (some_same h))
bordered_in features (c ∷ bs) (suc k) b h = inr (bordered_in features bs k b h)

edge_at : (features : List ℕ) (bs : List Border) (k : ℕ) (b : Border) → slice_get bs k ≡ Some b → In b.edge (edges_in (map (bordered features) bs))
edge_at features [] k b h = absurd (let q = h in cc)
edge_at features (c ∷ bs) zero b h = inl (ap (λ (x : Border). x.edge) (some_same h))
edge_at features (c ∷ bs) (suc k) b h = inr (edge_at features bs k b h)

border_of : (features : List ℕ) (bs : List Border) (e : Edge) → In e (edges_in (map (bordered features) bs)) → (k : ℕ) × (b : Border) × (slice_get bs k ≡ Some b) × (b.edge ≡ e)
border_of features [] e i = absurd i
border_of features (c ∷ bs) e (inl h) = (0, c, refl, h)
border_of features (c ∷ bs) e (inr i) = let r = border_of features bs e i in (suc r.0, r.1, r.2, r.3)

-- ---- lists that are one
both_of : (a b : Bool) → a && b ≡ true → (a ≡ true) × (b ≡ true)
both_of a b h = (grind arith, grind arith)

same_lists : (fs gs : List ℕ) → same_list fs gs ≡ true → fs ≡ gs
same_lists [] [] h = refl
same_lists [] (g ∷ gs) h = absurd (let k = h in cc)
same_lists (f ∷ fs) [] h = absurd (let k = h in cc)
same_lists (f ∷ fs) (g ∷ gs) h = let b = both_of (f == g) (same_list fs gs) h in ap (λ (x : ℕ). x ∷ fs) (eqb-true f g b.0) ∙ ap (λ (xs : List ℕ). g ∷ xs) (same_lists fs gs b.1)

not_same : (fs gs : List ℕ) → fs ≢ gs → same_list fs gs ≡ false
not_same fs gs h = by_test (same_list fs gs) refl
  where
    by_test : (t : Bool) → same_list fs gs ≡ t → t ≡ false
    by_test true k = absurd (h (same_lists fs gs k))
    by_test false k = refl

only_left : (a b : Bool) → a ≡ true → b ≡ false → a && not b ≡ true
only_left a b h k = grind arith

-- ---- across a border of a feature the cover set changes
first_has : (f : ℕ) (fs : List ℕ) → has f (f ∷ fs) ≡ true
first_has f fs = grind (arith, eq-eqb f f refl)

clash : (a : Bool) → a ≡ true → not a ≡ true → ⊥
clash a h k = absurd (grind arith)

or_not : (a : Bool) → (a ≡ true) ⊎ (not a ≡ true)
or_not true = inl refl
or_not false = inr refl

module _ (count : ℕ) (es : List Bordered) (h : AreBorders es) (b : Bordered) (i : Contains es b) where
  abbrev on_left : ℕ → Bool
  on_left f = parity (border f es) (left_side b.edge.p b.edge.q)

  abbrev on_right : ℕ → Bool
  on_right f = parity (border f es) (right_side b.edge.p b.edge.q)

  turned : (f : ℕ) → has f b.features ≡ true → on_right f ≡ not (on_left f)
  turned f t = right_is_across es h b i f ∙ picked (has f b.features) (not (on_left f)) (on_left f) t
    where
      picked : (t x y : Bool) → t ≡ true → (if t then x else y) ≡ x
      picked true x y k = refl
      picked false x y k = absurd (let q = k in cc)

  changed_by : (f : ℕ) → f < count → has f b.features ≡ true → cover count es (left_side b.edge.p b.edge.q) ≢ cover count es (right_side b.edge.p b.edge.q)
  changed_by f l t e =
      let left = (cover_is_exact count es (left_side b.edge.p b.edge.q)).1 f in
      let right = (cover_is_exact count es (right_side b.edge.p b.edge.q)).1 f in
      ⊎_elim
      (λ a. clash (on_left f) a (sym (turned f t) ∙ (right.0 (subst (λ (s : List ℕ). Contains s f) e (left.1 (l, a)))).1))
      (λ a. clash (on_left f) (left.0 (subst (λ (s : List ℕ). Contains s f) (sym e) (right.1 (l, turned f t ∙ a)))).1 a)
      (or_not (on_left f))

  changes : (fs : List ℕ) → fs ≡ b.features → has_some fs ≡ true → All (λ f. f < count) fs → cover count es (left_side b.edge.p b.edge.q) ≢ cover count es (right_side b.edge.p b.edge.q)
  changes [] e s a = absurd (let k = s in cc)
  changes (f ∷ fs) e s a = changed_by f (a 0 f (omega arith)) (subst (λ (gs : List ℕ). has f gs ≡ true) e (first_has f fs))

-- ---- one side
apart_sets : (sets : List (List ℕ)) → AreSets sets → (n : ℕ) → IsNumber sets n → n ≢ 4294967295 → set_of sets n ≢ []
apart_sets sets are n i h e = h (are.apart n 4294967295 i (inr (omega arith, omega arith)) e)

empty_set : (sets : List (List ℕ)) (n : ℕ) → n ≡ 4294967295 → set_of sets n ≡ []
empty_set sets n e = ap (set_of sets) e

module _ (count : ℕ) (es : List Bordered) (sets : List (List ℕ)) (are : AreSets sets) where
  edge_of_row : (u v : Pt) (n : ℕ) (e : Edge) → In e (edges_in es) → RunsAlong (from_to u v) e → n ≢ 4294967295 → IsListed sets (cover count es (left_side u v)) n
      → cover count es (left_side u v) ≢ cover count es (right_side u v) → IsEdgeOfRow count es sets n (from_to u v)
  edge_of_row u v n e i r h l a =
      let L : List ℕ = cover count es (left_side u v) in
      let R : List ℕ = cover count es (right_side u v) in
      record {
        number = l.0;
        covered = apart_sets sets are n l.0 h;
        is_edge = record {
          edge = e;
          rounded = in_contains (edges_in es) e i;
          runs = r;
          bounds = only_left (same_list L (set_of sets n)) (same_list R (set_of sets n)) (subst (λ (s : List ℕ). same_list L s ≡ true) (sym l.1) (same_itself L)) (not_same R (set_of sets n) (λ k. a (sym (k ∙ l.1))));
        };
      }

-- ---- all sides
module _ (count : ℕ) (features : List ℕ) (borders : List Border) (sets : List (List ℕ)) (left right : List ℕ) (c : AreCoveredBorders count features borders sets left right) where
  abbrev es : List Bordered
  es = map (bordered features) borders

  few_features : (b : Border) → All (λ f. f < count) (bordered features b).features
  few_features b = All-take (λ f. f < count) (b.to - b.from) (drop b.from features) (All-drop (λ f. f < count) b.from features c.below)

  across : (k : ℕ) (b : Border) → slice_get borders k ≡ Some b → cover count es (left_side b.edge.p b.edge.q) ≢ cover count es (right_side b.edge.p b.edge.q)
  across k b h =
      let i = in_contains es (bordered features b) (bordered_in features borders k b h) in
      changes count es c.are_borders (bordered features b) i (bordered features b).features refl (All-contains (λ (x : Bordered). has_some x.features ≡ true) es (bordered features b) c.some i) (few_features b)

  is_side : (e : RowEdge) → Place borders left right e → IsEdgeOfRow count es sets e.set e.edge
  is_side e p = by_way p.along
    where
      by_way : Along p.b p.l p.r e → IsEdgeOfRow count es sets e.set e.edge
      by_way (inl h) = subst (λ (x : RowEdge). IsEdgeOfRow count es sets x.set x.edge) h.1
          (edge_of_row count es sets c.covers.are_sets p.b.edge.p p.b.edge.q p.l p.b.edge (edge_at features borders p.k p.b p.b_is) (inl refl) h.0
          (c.covers.left_is.each p.k (bordered features p.b) p.l (bordered_at features borders p.k p.b p.b_is) p.l_is)
          (across p.k p.b p.b_is))
      by_way (inr h) = subst (λ (x : RowEdge). IsEdgeOfRow count es sets x.set x.edge) h.1
          (edge_of_row count es sets c.covers.are_sets p.b.edge.q p.b.edge.p p.r p.b.edge (edge_at features borders p.k p.b p.b_is) (inr refl) h.0
          (subst (λ (z : Point). IsListed sets (cover count es z) p.r) (right_is_left p.b.edge.p p.b.edge.q) (c.covers.right_is.each p.k (bordered features p.b) p.r (bordered_at features borders p.k p.b p.b_is) p.r_is))
          (λ k. across p.k p.b p.b_is (sym (ap (cover count es) (right_is_left p.b.edge.p p.b.edge.q) ∙ k ∙ ap (cover count es) (right_is_left p.b.edge.q p.b.edge.p)))))

  covered_by : (set : List ℕ) (d : DirectedEdge) → IsRowEdge count es set d → cover count es (left_side d.from d.to) ≡ set
  covered_by set d r = same_lists (cover count es (left_side d.from d.to)) set (both_of (is_covered_by count es set (left_side d.from d.to)) (not (is_covered_by count es set (right_side d.from d.to))) r.bounds).0

  some_number : (set : List ℕ) (n : ℕ) → set ≢ [] → set_of sets n ≡ set → n ≢ 4294967295
  some_number set n h e k = h (sym e ∙ empty_set sets n k)

  has_side : (set : List ℕ) (d : DirectedEdge) → set ≢ [] → IsRowEdge count es set d → (n : ℕ) × IsListed sets set n × In (row_edge n d) (sides borders left right)
  has_side set d n r =
      let o = border_of features borders r.edge (contains_in (edges_in es) r.edge r.rounded) in
      let l = number_at borders left (c.covers.left_is.one_each ∙ same_length features borders) o.0 o.1 o.2 in
      let m = number_at borders right (c.covers.right_is.one_each ∙ same_length features borders) o.0 o.1 o.2 in
      by_way o.0 o.1 o.2 l.0 l.1 m.0 m.1 (subst (λ (e : Edge). RunsAlong d e) (sym o.3) r.runs)
    where
      by_way : (k : ℕ) (b : Border) → slice_get borders k ≡ Some b → (l : ℕ) → slice_get left k ≡ Some l → (m : ℕ) → slice_get right k ≡ Some m → RunsAlong d b.edge
          → (n : ℕ) × IsListed sets set n × In (row_edge n d) (sides borders left right)
      by_way k b b_is l l_is m m_is (inl h) =
          let listed = c.covers.left_is.each k (bordered features b) l (bordered_at features borders k b b_is) l_is in
          let is : set_of sets l ≡ set = listed.1 ∙ ap (λ (x : DirectedEdge). cover count es (left_side x.from x.to)) (sym h) ∙ covered_by set d r in
          (l, (listed.0, is), place_in borders left right (row_edge l d) k b l m b_is l_is m_is (inl (some_number set l n is, ap (row_edge l) (sym h))))
      by_way k b b_is l l_is m m_is (inr h) =
          let listed = c.covers.right_is.each k (bordered features b) m (bordered_at features borders k b b_is) m_is in
          let is : set_of sets m ≡ set = listed.1 ∙ ap (cover count es) (right_is_left b.edge.p b.edge.q) ∙ ap (λ (x : DirectedEdge). cover count es (left_side x.from x.to)) (sym h) ∙ covered_by set d r in
          (m, (listed.0, is), place_in borders left right (row_edge m d) k b l m b_is l_is m_is (inr (some_number set m n is, ap (row_edge m) (sym h))))

  pub edges_of_rows : (list : List RowEdge) → AllPairs IsRowEdgeBefore list → ((e : RowEdge) → (Contains list e → Contains (sides borders left right) e) × (Contains (sides borders left right) e → Contains list e)) → AreEdgesOfRows count es sets list
  edges_of_rows list up same = record {
    ascending = up;
    only = λ e i. is_side e (place_of borders left right e (contains_in (sides borders left right) e ((same e).0 i)));
    each = λ set d n r. let s = has_side set d n r in (s.0, s.1, (same (row_edge s.0 d)).1 (in_contains (sides borders left right) (row_edge s.0 d) s.2));
  }
