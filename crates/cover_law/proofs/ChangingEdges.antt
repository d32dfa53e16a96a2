-- Edges that are no feature's border change no cover set, and bound no row.
use Rattle.std.proofs.Common.{◌≡◌, inl, inr, ℕ, List, [], ◌∷◌, Bool, true, false, not, cond, refl, sym, ap, ◌∙◌, arith, subst}
use Rattle.std.specs.List.{filter}
use Rattle.std.specs.Prelude.{◌&&◌, if◌then◌else◌}
use Rattle.std.proofs.lemmas.List.Elements.{All-contains, filter_agree}
use Rattle.std.proofs.lemmas.List.Kept.{AllPairs-filter}
use Rattle.geom.specs.declared.point.Pt.{Pt}
use Rattle.geom.specs.declared.edge.Edge.{Edge}
use Rattle.geom.specs.declared.directed.DirectedEdge.{DirectedEdge}
use Rattle.geom.specs.Directed.{RunsAlong}
use Rattle.geom.specs.EdgeOrder.{IsEdgeBefore}
use Rattle.geom.specs.Limit.{AreInLimit}
use Rattle.geom.specs.Parity as geom
use Rattle.geom.specs.Pixel.{Point}
use Rattle.geom.specs.ResultEdges.{left_side, right_side}
use Rattle.geom.specs.Rounded.{HasEvenDegrees}
use Rattle.geom.proofs.Lists.{In, contains_in, in_contains, in_map, map_in}
use Rattle.geom.proofs.Owners.{all_in}
use Rattle.points_law.proofs.Even.{by_test}
use Rattle.cover_law.specs.Cover.{AreBorders, Bordered, border, cover, edge_in, edges_in, has, numbers_from}
use Rattle.cover_law.specs.Changing.{changing, has_some}
use Rattle.cover_law.specs.Rows.{AreRowEdges, AreRows, IsRow, IsRowEdge, Row, bounds_row, is_covered_by, same_list}
use Rattle.cover_law.specs.Laws.{ChangingHaveSameRows}
use Rattle.cover_law.proofs.AreasAdd.{in_filter}
use Rattle.cover_law.proofs.Covers.{right_is_across}
use Rattle.cover_law.proofs.InRow.{turned}

-- ---- filters
kept_in : {X : Type 0} (t : Bool) (y : X) (ys : List X) (x : X) → In x ys → In x (cond t (y ∷ ys) ys)
kept_in true y ys x i = inr i
kept_in false y ys x i = i

here_in : {X : Type 0} (t : Bool) (y : X) (ys : List X) (x : X) → t ≡ true → y ≡ x → In x (cond t (y ∷ ys) ys)
here_in true y ys x h e = inl e
here_in false y ys x h e = absurd (let k = h in cc)

pub filter_in : {X : Type 0} (p : X → Bool) (xs : List X) (x : X) → In x xs → p x ≡ true → In x (filter p xs)
filter_in p [] x i h = absurd i
filter_in p (y ∷ ys) x (inl e) h = here_in (p y) y (filter p ys) x (subst (λ z. p z ≡ true) (sym e) h) e
filter_in p (y ∷ ys) x (inr i) h = kept_in (p y) y (filter p ys) x (filter_in p ys x i h)

not_kept : {X : Type 0} (t : Bool) (x : X) (xs : List X) → t ≡ false → xs ≡ cond t (x ∷ xs) xs
not_kept true x xs h = absurd (let k = h in cc)
not_kept false x xs h = refl

only_if : (a b : Bool) → (a ≡ true → b ≡ true) → b ≡ false → a ≡ false
only_if a b h k = grind arith

twice_by : {X : Type 0} (p : X → Bool) (t : Bool) (x : X) (ys xs : List X) → (p x ≡ true → t ≡ true) → filter p ys ≡ filter p xs → filter p (cond t (x ∷ ys) ys) ≡ cond (p x) (x ∷ filter p xs) (filter p xs)
twice_by p true x ys xs h e = ap (λ zs. cond (p x) (x ∷ zs) zs) e
twice_by p false x ys xs h e = e ∙ not_kept (p x) x (filter p xs) (only_if (p x) false h refl)

filter_twice : {X : Type 0} (p q : X → Bool) → ((x : X) → p x ≡ true → q x ≡ true) → (xs : List X) → filter p (filter q xs) ≡ filter p xs
filter_twice p q h [] = refl
filter_twice p q h (x ∷ xs) = twice_by p (q x) x (filter q xs) xs (h x) (filter_twice p q h xs)

-- ---- one border, one cover set
has_one : (f : ℕ) (fs : List ℕ) → has f fs ≡ true → has_some fs ≡ true
has_one f [] h = h
has_one f (g ∷ gs) h = refl

same_border : (f : ℕ) (bs : List Bordered) → border f (changing bs) ≡ border f bs
same_border f bs = ap edges_in (filter_twice (λ b. has f b.features) (λ b. has_some b.features) (λ b h. has_one f b.features h) bs)

same_cover : (count : ℕ) (bs : List Bordered) (z : Point) → cover count (changing bs) z ≡ cover count bs z
same_cover count bs z = filter_agree (λ f. geom.parity (border f (changing bs)) z) (λ f. geom.parity (border f bs) z) (λ f. ap (λ (es : List Edge). geom.parity es z) (same_border f bs)) (numbers_from 0 count)

edge_there : (bs : List Bordered) (e : Edge) → In e (edges_in (changing bs)) → In e (edges_in bs)
edge_there bs e i =
    let m = in_map edge_in (changing bs) e i in
    subst (λ (x : Edge). In x (edges_in bs)) m.2 (map_in edge_in bs m.0 (in_filter (λ b. has_some b.features) bs m.0 m.1))

changing_borders : (bs : List Bordered) → AreBorders bs → AreBorders (changing bs)
changing_borders bs h = record {
  ascending = AllPairs-filter (λ (b c : Bordered). IsEdgeBefore b.edge c.edge) (λ b. has_some b.features) bs h.ascending;
  in_limit = all_in (λ (e : Edge). AreInLimit e.p e.q) (edges_in (changing bs)) (λ e i. All-contains (λ (x : Edge). AreInLimit x.p x.q) (edges_in bs) e h.in_limit (in_contains (edges_in bs) e (edge_there bs e i)));
  noded = λ e f i j. h.noded e f (in_contains (edges_in bs) e (edge_there bs e (contains_in (edges_in (changing bs)) e i))) (in_contains (edges_in bs) f (edge_there bs f (contains_in (edges_in (changing bs)) f j)));
  even = λ f. subst (λ (es : List Edge). HasEvenDegrees es) (sym (same_border f bs)) (h.even f);
}

-- ---- an edge without features has one cover set on both sides
none_has : (f : ℕ) (fs : List ℕ) → has_some fs ≡ false → has f fs ≡ false
none_has f [] h = refl
none_has f (g ∷ gs) h = absurd (let k = h in cc)

not_turned : (t a : Bool) → t ≡ false → (if t then not a else a) ≡ a
not_turned true a h = absurd (let k = h in cc)
not_turned false a h = refl

never_both : (a b : Bool) → a ≡ b → a && not b ≡ true → ⊥
never_both a b h k = absurd (grind arith)

module _ (count : ℕ) (bs : List Bordered) (h : AreBorders bs) (set : List ℕ) where
  same_sides : (b : Bordered) → In b bs → has_some b.features ≡ false → is_covered_by count bs set (left_side b.edge.p b.edge.q) ≡ is_covered_by count bs set (right_side b.edge.p b.edge.q)
  same_sides b i n = ap (λ (s : List ℕ). same_list s set) (sym (filter_agree
      (λ f. geom.parity (border f bs) (right_side b.edge.p b.edge.q)) (λ f. geom.parity (border f bs) (left_side b.edge.p b.edge.q))
      (λ f. right_is_across bs h b (in_contains bs b i) f ∙ not_turned (has f b.features) (geom.parity (border f bs) (left_side b.edge.p b.edge.q)) (none_has f b.features n)) (numbers_from 0 count)))

  no_row : (d : DirectedEdge) (b : Bordered) → In b bs → has_some b.features ≡ false → RunsAlong d b.edge → bounds_row count bs set d.from d.to ≡ true → ⊥
  no_row d b i n (inl r) t = never_both (is_covered_by count bs set (left_side b.edge.p b.edge.q)) (is_covered_by count bs set (right_side b.edge.p b.edge.q)) (same_sides b i n)
      (subst (λ (x : DirectedEdge). bounds_row count bs set x.from x.to ≡ true) r t)
  no_row d b i n (inr r) t = never_both (is_covered_by count bs set (left_side b.edge.q b.edge.p)) (is_covered_by count bs set (right_side b.edge.q b.edge.p))
      (turned count bs h set b.edge.p b.edge.q ∙ sym (same_sides b i n) ∙ turned count bs h set b.edge.q b.edge.p)
      (subst (λ (x : DirectedEdge). bounds_row count bs set x.from x.to ≡ true) r t)

  same_points : (z : Point) → is_covered_by count (changing bs) set z ≡ is_covered_by count bs set z
  same_points z = ap (λ (s : List ℕ). same_list s set) (same_cover count bs z)

  same_bounds : (u v : Pt) → bounds_row count (changing bs) set u v ≡ bounds_row count bs set u v
  same_bounds u v = ap (λ (t : Bool). t && not (is_covered_by count (changing bs) set (right_side u v))) (same_points (left_side u v)) ∙ ap (λ (t : Bool). is_covered_by count bs set (left_side u v) && not t) (same_points (right_side u v))

  edge_to : (d : DirectedEdge) → IsRowEdge count bs set d → IsRowEdge count (changing bs) set d
  edge_to d r =
      let m = in_map edge_in bs r.edge (contains_in (edges_in bs) r.edge r.rounded) in
      let some : has_some (m.0).features ≡ true = by_test (has_some (m.0).features) (has_some (m.0).features ≡ true) (λ t. t) (λ n. absurd (no_row d m.0 m.1 n (subst (λ (e : Edge). RunsAlong d e) (sym m.2) r.runs) r.bounds)) in
      record {
        edge = r.edge;
        rounded = in_contains (edges_in (changing bs)) r.edge (subst (λ (e : Edge). In e (edges_in (changing bs))) m.2 (map_in edge_in (changing bs) m.0 (filter_in (λ b. has_some b.features) bs m.0 m.1 some)));
        runs = r.runs;
        bounds = same_bounds d.from d.to ∙ r.bounds;
      }

  edge_back : (d : DirectedEdge) → IsRowEdge count (changing bs) set d → IsRowEdge count bs set d
  edge_back d r = record {
    edge = r.edge;
    rounded = in_contains (edges_in bs) r.edge (edge_there bs r.edge (contains_in (edges_in (changing bs)) r.edge r.rounded));
    runs = r.runs;
    bounds = sym (same_bounds d.from d.to) ∙ r.bounds;
  }

  edges_to : (ds : List DirectedEdge) → AreRowEdges count bs set ds → AreRowEdges count (changing bs) set ds
  edges_to ds o = record { ascending = o.ascending; exact = λ d. ((λ c. edge_to d ((o.exact d).0 c)), (λ k. (o.exact d).1 (edge_back d k))) }

  edges_back : (ds : List DirectedEdge) → AreRowEdges count (changing bs) set ds → AreRowEdges count bs set ds
  edges_back ds o = record { ascending = o.ascending; exact = λ d. ((λ c. edge_back d ((o.exact d).0 c)), (λ k. (o.exact d).1 (edge_to d k))) }

module _ (count : ℕ) (bs : List Bordered) (h : AreBorders bs) where
  row_to : (r : Row) → IsRow count bs r → IsRow count (changing bs) r
  row_to r o = record { covered = o.covered; directed = o.directed; are_edges = edges_to count bs h r.set o.directed o.are_edges; some = o.some; are_polygons = o.are_polygons; each_edge = o.each_edge }

  row_back : (r : Row) → IsRow count (changing bs) r → IsRow count bs r
  row_back r o = record { covered = o.covered; directed = o.directed; are_edges = edges_back count bs h r.set o.directed o.are_edges; some = o.some; are_polygons = o.are_polygons; each_edge = o.each_edge }

  rows_to : (rows : List Row) → AreRows count bs rows → AreRows count (changing bs) rows
  rows_to rows o = record { ascending = o.ascending; only = λ r i. row_to r (o.only r i); each = λ set d n e. o.each set d n (edge_back count bs h set d e) }

  rows_back : (rows : List Row) → AreRows count (changing bs) rows → AreRows count bs rows
  rows_back rows o = record { ascending = o.ascending; only = λ r i. row_back r (o.only r i); each = λ set d n e. o.each set d n (edge_to count bs h set d e) }

pub changing_have_same_rows : ChangingHaveSameRows
changing_have_same_rows bs h = record {
  borders = changing_borders bs h;
  covers = λ count z. same_cover count bs z;
  rows = λ count rows. (rows_to count bs h rows, rows_back count bs h rows);
}
