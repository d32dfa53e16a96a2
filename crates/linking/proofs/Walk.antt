-- The walk from records to links, and from links to the rounded edges.
use Rattle.std.proofs.Common.{◌≡◌, inl, inr, ℕ, ◌+◌, ◌-◌, ◌<◌, ◌≤◌, ◌^◌, List, [], ◌∷◌, ◌++◌, Bool, true, false, cond, refl, sym, ◌∙◌, ap, arith, subst, length, get_or, take, ⊎_elim}
use Rattle.std.specs.Prelude.{All, Some, count_by, slice_get, ◌&&◌, ◌||◌, if◌then◌else◌}
use Rattle.std.proofs.lemmas.List.{take_more}
use Rattle.std.proofs.lemmas.List.Elements.{Contains-get_or}
use Rattle.std.proofs.lemmas.List.Sums.{sum_by_push}
use Rattle.std.proofs.lemmas.Bool.{eq-eqb}
use Rattle.std.proofs.lemmas.Bool.Decides.{eqb_tells}
use Rattle.std.proofs.lemmas.Option.{slice_get_within}
use Rattle.geom.specs.declared.point.Pt.{Pt}
use Rattle.geom.specs.declared.segment.Source.{Source}
use Rattle.geom.specs.declared.segment.Source.TheVariants.{A, B}
use Rattle.geom.specs.declared.segment.Seg.{Seg}
use Rattle.geom.specs.declared.edge.Edge.{Edge}
use Rattle.geom.specs.declared.edge.Counted.{Counted}
use Rattle.geom.specs.Order.{IsBefore}
use Rattle.geom.specs.Segments.{neighbours, same_point, same_source}
use Rattle.geom.specs.Rounded.{AreRounded, joins, route_steps}
use Rattle.geom.proofs.Points.{and_both, same_point_true}
use Rattle.geom.proofs.Edges.{before_strict}
use Rattle.geom.proofs.Lists.{some_same}
use Rattle.hot_region.proofs.ListLaws.{no_one, no_true}
use Rattle.routing.specs.declared.record.Record.{Record}
use Rattle.routing.specs.Steps.{steps_to}
use Rattle.routing.specs.Pieces.{IsRecord}
use Rattle.linking.specs.declared.link.Link.{Link}
use Rattle.linking.specs.Links.{IsBetween, IsRecordBefore, AreRecords, AreApart, AreLinks, AreNeighbourLinks, AreRouteLinks, PassLinks, passes_at, record_pairs, makes, same_edge, layer_link, AreCounts, wanted_steps}
use Rattle.linking.proofs.CopyLinks.{layer_count}
use Rattle.linking.proofs.Flat.{passes_at_is, routes_from, routes_of_records, count_is}

-- ---- an edge joins the two points that it is between
or_false : (b : Bool) → (b || false) ≡ b
or_false true = refl
or_false false = refl

-- the two ends of e the other way round
never_back : (e f : Edge) → (same_point e.p f.q && same_point e.q f.p) ≡ false
never_back e f = no_true _ (λ h. let a = and_both _ _ h in before_strict f.p f.q f.ordered (subst (λ (q : Pt). IsBefore f.q q) (same_point_true e.q f.p a.1) (subst (λ (p : Pt). IsBefore p e.q) (same_point_true e.p f.q a.0) e.ordered)))

pub joins_is : (e f : Edge) (c d : Pt) → IsBetween f c d → joins e (c, d) ≡ same_edge e f
joins_is e f c d (inl (a, b)) = rw (← a, ← b, never_back e f) (or_false (same_edge e f))
joins_is e f c d (inr (a, b)) = rw (← a, ← b, never_back e f) refl

-- ---- one more record
pairs_push : (ys : List Record) (a b : Record) → record_pairs ((ys ++ a ∷ []) ++ b ∷ []) ≡ record_pairs (ys ++ a ∷ []) ++ (a, b) ∷ []
pairs_push [] a b = refl
pairs_push (y ∷ []) a b = refl
pairs_push (y ∷ z ∷ ys) a b = ap (λ (ps : List (Record × Record)). (y, z) ∷ ps) (pairs_push (z ∷ ys) a b)

pairs_more : (records : List Record) (i : ℕ) (start end : Record) → 1 ≤ i → i < length records → start ≡ get_or records (i - 1) start → end ≡ get_or records i end → record_pairs (take (i + 1) records) ≡ record_pairs (take i records) ++ (start, end) ∷ []
pairs_more records i start end l b e f =
    let k = i - 1 in
    let same : k + 1 ≡ i = omega arith in
    let below : k < length records = omega arith in
    let front : take i records ≡ take k records ++ start ∷ [] = ap (λ (n : ℕ). take n records) (sym same) ∙ take_more records k start below ∙ ap (λ (r : Record). take k records ++ r ∷ []) (sym e) in
    let whole : take (i + 1) records ≡ take i records ++ end ∷ [] = take_more records i end b ∙ ap (λ (r : Record). take i records ++ r ∷ []) (sym f) in
    ap record_pairs (whole ∙ ap (λ (rs : List Record). rs ++ end ∷ []) front) ∙ pairs_push (take k records) start end ∙ ap (λ (rs : List Record). record_pairs rs ++ (start, end) ∷ []) (sym front)

module _ {M L : Type 0} (link_of : M → Edge → L) (makers : List M) (records : List Record) (list : List L) (i : ℕ) (start end : Record) (low : 1 ≤ i) (high : i < length records) (start_is : start ≡ get_or records (i - 1) start) (end_is : end ≡ get_or records i end) (e : Edge) (wanted : M → Bool) (test : L → Bool) (pass : PassLinks link_of e wanted test)
    (before : count_by test list ≡ count_by (makes (passes_at wanted makers) e) (record_pairs (take i records))) where
  abbrev is_made : Record × Record → Bool
  is_made pair = makes (passes_at wanted makers) e pair

  made_more : count_by is_made (record_pairs (take (i + 1) records)) ≡ count_by is_made (record_pairs (take i records)) + cond {A = ℕ} (is_made (start, end)) 1 0
  made_more = ap (λ (ps : List (Record × Record)). count_by is_made ps) (pairs_more records i start end low high start_is end_is) ∙ sum_by_push (λ p. cond {A = ℕ} (is_made p) 1 0) (record_pairs (take i records)) (start, end)

  -- of another segment
  pub walk_skip : (start.segment ≡ end.segment → ⊥) → count_by test list ≡ count_by is_made (record_pairs (take (i + 1) records))
  walk_skip apart = let f : is_made (start, end) ≡ false = rw (⊎_elim (λ p. absurd (apart p.1)) (λ p. p.0) (eqb_tells start.segment end.segment)) refl in let g = no_one (is_made (start, end)) f in let h = made_more in omega arith

  -- of the same segment
  pub walk_push : start.segment ≡ end.segment → (maker : M) → slice_get makers start.segment ≡ Some maker → (f : Edge) → IsBetween f start.pixel end.pixel → (link : L) → link ≡ link_of maker f → count_by test (list ++ link ∷ []) ≡ count_by is_made (record_pairs (take (i + 1) records))
  walk_push same maker at f between link is =
      let own : test link ≡ (same_edge e f && wanted maker) = ap test is ∙ pass maker f in
      let passed : is_made (start, end) ≡ (same_edge e f && wanted maker) = rw (eq-eqb start.segment end.segment same, passes_at_is wanted makers start.segment maker at, joins_is e f start.pixel end.pixel between) refl in
      let a : count_by test (list ++ link ∷ []) ≡ count_by test list + cond {A = ℕ} (test link) 1 0 = sum_by_push (λ m. cond {A = ℕ} (test m) 1 0) list link in
      let b : cond {A = ℕ} (test link) 1 0 ≡ cond {A = ℕ} (is_made (start, end)) 1 0 = ap (λ (t : Bool). cond {A = ℕ} t 1 0) (own ∙ sym passed) in
      let h = made_more in
      omega arith

-- ---- what records in order give
pub records_below : (segments : List Seg) (records : List Record) → AreRecords segments records → All (λ r. r.segment < length segments) records
records_below segments records h = λ k d l. let m = (h.exact (get_or records k d)).0 (Contains-get_or records k d l) in slice_get_within segments (get_or records k d).segment m.s m.is_at

-- two records of one segment, of which one goes before the other, have different pixels
pub pixels_differ : (segments : List Seg) (r q : Record) → IsRecord segments r → IsRecord segments q → IsRecordBefore r q → r.segment ≡ q.segment → r.pixel ≡ q.pixel → ⊥
pixels_differ segments r q u v (inl l) e f = omega arith
pixels_differ segments r q u v (inr (g, l)) e f =
    let s : u.s ≡ v.s = some_same (subst (λ (n : ℕ). slice_get segments n ≡ Some u.s) e u.is_at) v.is_at in
    let t : steps_to u.s r.pixel ≡ steps_to v.s q.pixel = ap (λ (p : Pt). steps_to u.s p) f ∙ ap (λ (w : Seg). steps_to w q.pixel) s in
    let m : r.steps ≡ q.steps = u.steps_are ∙ t ∙ sym v.steps_are in
    omega arith

pub records_apart : (segments : List Seg) (records : List Record) → AreRecords segments records → AreApart records
records_apart segments records h = λ i j d a b e f. pixels_differ segments (get_or records i d) (get_or records j d) ((h.exact _).0 (Contains-get_or records i d (omega arith))) ((h.exact _).0 (Contains-get_or records j d b)) (h.ascending i j d a b) e f

-- links that are counted as the neighbours among records are those of the routes
pub route_links : {M L : Type 0} (link_of : M → Edge → L) (segments : List Seg) (makers : List M) (records : List Record) (links : List L) → length makers ≡ length segments → AreRecords segments records → AreNeighbourLinks link_of makers records links → AreRouteLinks link_of segments makers links
route_links link_of segments makers records links size h near = record {
  routes = routes_from 0 segments records;
  are_routes = routes_of_records segments records h;
  count_is = λ e wanted test pass. near.count_is e wanted test pass ∙ count_is segments records h makers size e wanted;
}

-- ---- links of layers
pub layer_steps_are : (layer : Source) (segments : List Seg) (routes : List (List Pt)) → wanted_steps (λ (s : Seg). same_source s.layer layer) segments routes ≡ route_steps layer segments routes
layer_steps_are layer [] routes = refl
layer_steps_are layer (s ∷ ss) [] = refl
layer_steps_are layer (s ∷ ss) (route ∷ routes) = ap (λ (steps : List (Pt × Pt)). (if same_source s.layer layer then neighbours route else []) ++ steps) (layer_steps_are layer ss routes)

pub links_are : (segments : List Seg) (links : List Link) → AreRouteLinks layer_link segments segments links → length links < 2 ^ 32 → AreLinks segments links
links_are segments links h few = record {
  few = few;
  routes = h.routes;
  are_routes = h.are_routes;
  count_is = λ e layer. layer_count e layer links (λ wanted. count_by (joins e) (wanted_steps wanted segments h.routes)) (λ wanted test pass. h.count_is e wanted test pass) ∙ ap (count_by (joins e)) (layer_steps_are layer segments h.routes);
}

-- the counts of the links are those of the edges
pub rounded_are : (segments : List Seg) (links : List Link) (counted : List Counted) → AreLinks segments links → AreCounts links counted → AreRounded segments counted
rounded_are segments links counted h counts = record {
  routes = h.routes;
  are_routes = h.are_routes;
  ascending = counts.ascending;
  exact = λ c. (
    (λ k. let (a, b, p) = (counts.exact c).0 k in (sym (h.count_is c.edge A) ∙ a, sym (h.count_is c.edge B) ∙ b, p)),
    (λ (a, b, p). (counts.exact c).1 (h.count_is c.edge A ∙ a, h.count_is c.edge B ∙ b, p)),
  );
}
