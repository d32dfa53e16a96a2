-- The edges of all strips are the rounded edges of the segments, whichever way round these are.
use Rattle.std.proofs.Common.{◌≡◌, ◌∙◌, inl, inr, ℕ, ◌+◌, List, [], ◌∷◌, ◌++◌, refl, sym, ap, subst, arith, ⊎_elim, length, reverse}
use Rattle.std.proofs.lemmas.List.Elements.{All-cons, All-nil, filter-append}
use Rattle.std.specs.Prelude.{◌<◌, ◌≤◌, ◌↔◌, ℤ, AllPairs, Contains, flat_map, if◌then◌else◌}
use Rattle.geom.specs.declared.edge.Edge.{Edge}
use Rattle.geom.specs.declared.point.Pt.{Pt}
use Rattle.geom.specs.declared.segment.Seg.{Seg}
use Rattle.geom.specs.declared.segment.Source.{Source}
use Rattle.geom.specs.declared.segment.Source.TheVariants.{A, B}
use Rattle.geom.specs.Hot.{IsHot}
use Rattle.geom.specs.OnSegment.{IsAt}
use Rattle.geom.specs.Order.{IsBefore}
use Rattle.geom.specs.Pixel.{Point}
use Rattle.geom.specs.Rounded.{route_steps}
use Rattle.geom.specs.Route.{AreRoutes, IsRoute}
use Rattle.geom.specs.Route.AreRoutes.{none, next}
use Rattle.geom.specs.Segments.{neighbours, same_source}
use Rattle.hot_region.proofs.HotLaws.{HasEndsOf, hot_lines, met_line}
use Rattle.hot_region.proofs.ListLaws.{from_cons, here, in_cons, none_in, pairs_cons}
use Rattle.strips_law.specs.declared.line.Line.{Line}
use Rattle.strips_law.specs.Law.{LinesAreOrdered, LinesFollow, StripsAreRounded}
use Rattle.strips_law.specs.Strips.{AreEdgesOf, AreLinesFrom, IsFrom, IsOriented, IsRouteIn, line_steps, reaches, segments_of}
use Rattle.strips_law.proofs.Edges.{AreEdgesFrom, all_strips}
use Rattle.strips_law.proofs.Parts.{Oriented, RoutesIn}
use Rattle.strips_law.proofs.Steps.{count_if, joining}
use Rattle.strips_law.proofs.Turned.{routes_turn}
use Rattle.strips_law.proofs.TurnedSteps.{steps_turn}

-- ---- lines of segments

from_number : (k : ℕ) (ss : List Seg) (ls : List Line) → AreLinesFrom k ss ls → (m : Line) → Contains ls m → k ≤ m.number
from_number k [] [] h m i = absurd (none_in m i)
from_number k [] (l ∷ ls) h m i = absurd h
from_number k (s ∷ ss) [] h m i = absurd h
from_number k (s ∷ ss) (l ∷ ls) h m i = ⊎_elim (λ e. first (subst (λ (x : Line). x.number ≡ k) e h.0)) (λ j. later (from_number (k + 1) ss ls h.2 m j)) (from_cons l ls m i)
  where
    first : m.number ≡ k → k ≤ m.number
    first e = omega arith

    later : k + 1 ≤ m.number → k ≤ m.number
    later e = omega arith

pub lines_ordered : LinesAreOrdered
lines_ordered k ss ls h = record { oriented = oriented k ss ls h; ascending = ascending k ss ls h }
  where
    oriented : (k : ℕ) (ss : List Seg) (ls : List Line) → AreLinesFrom k ss ls → Oriented ls
    oriented k [] [] h = All-nil (λ (l : Line). IsBefore l.segment.a l.segment.b)
    oriented k [] (l ∷ ls) h = absurd h
    oriented k (s ∷ ss) [] h = absurd h
    oriented k (s ∷ ss) (l ∷ ls) h = let t = h.1 in All-cons (λ (m : Line). IsBefore m.segment.a m.segment.b) l ls t.ordered (oriented (k + 1) ss ls h.2)

    ascending : (k : ℕ) (ss : List Seg) (ls : List Line) → AreLinesFrom k ss ls → AllPairs (λ (l m : Line). l.number < m.number) ls
    ascending k [] [] h = λ i j d a b. absurd (omega arith)
    ascending k [] (l ∷ ls) h = absurd h
    ascending k (s ∷ ss) [] h = absurd h
    ascending k (s ∷ ss) (l ∷ ls) h = pairs_cons (λ (l m : Line). l.number < m.number) l ls (λ m i. below l.number m.number h.0 (from_number (k + 1) ss ls h.2 m i)) (ascending (k + 1) ss ls h.2)
      where
        below : (m n : ℕ) → m ≡ k → k + 1 ≤ n → m < n
        below m n h l = omega arith

follow : (k : ℕ) (first second : List Seg) (ls ms : List Line) → AreLinesFrom k first ls → AreLinesFrom (k + length first) second ms → AreLinesFrom k (first ++ second) (ls ++ ms)
follow k [] second [] ms h more = subst (λ (n : ℕ). AreLinesFrom n second ms) (plain k) more
  where
    plain : (n : ℕ) → n + 0 ≡ n
    plain n = omega arith
follow k [] second (l ∷ ls) ms h more = absurd h
follow k (s ∷ ss) second [] ms h more = absurd h
follow k (s ∷ ss) second (l ∷ ls) ms h more = (h.0, h.1, follow (k + 1) ss second ls ms h.2 (subst (λ (n : ℕ). AreLinesFrom n second ms) (moved (length (s ∷ ss)) (length ss) (omega arith)) more))
  where
    moved : (m n : ℕ) → m ≡ n + 1 → k + m ≡ k + 1 + n
    moved m n h = omega arith

pub lines_follow : LinesFollow
lines_follow k first second ls ms h more = (follow k first second ls ms h more, λ cuts strip. filter-append (λ (l : Line). reaches cuts strip l.segment) ls ms)

-- ---- whichever way round

turned_ends : (s t : Seg) → IsOriented s t → HasEndsOf s t × HasEndsOf t s
turned_ends s t o = ⊎_elim (λ e. (inl (sym e.0, sym e.1), inl (e.0, e.1))) (λ e. (inr (sym e.1, sym e.0), inr (e.0, e.1))) o.ends

-- each segment has a line with its ends, and each line a segment
has_line : (k : ℕ) (ss : List Seg) (ls : List Line) → AreLinesFrom k ss ls → (s : Seg) → Contains ss s → (t : Seg) × Contains (segments_of ls) t × HasEndsOf s t
has_line k [] ls h s i = absurd (none_in s i)
has_line k (r ∷ ss) [] h s i = absurd h
has_line k (r ∷ ss) (l ∷ ls) h s i = ⊎_elim
    (λ e. (l.segment, here l.segment (segments_of ls), subst (λ (x : Seg). HasEndsOf x l.segment) e (turned_ends r l.segment h.1).0))
    (λ j. let t = has_line (k + 1) ss ls h.2 s j in (t.0, in_cons l.segment (segments_of ls) t.0 t.1, t.2)) (from_cons r ss s i)

has_segment : (k : ℕ) (ss : List Seg) (ls : List Line) → AreLinesFrom k ss ls → (t : Seg) → Contains (segments_of ls) t → (s : Seg) × Contains ss s × HasEndsOf t s
has_segment k [] [] h t i = absurd (none_in t i)
has_segment k [] (l ∷ ls) h t i = absurd h
has_segment k (r ∷ ss) [] h t i = absurd h
has_segment k (r ∷ ss) (l ∷ ls) h t i = ⊎_elim
    (λ e. (r, here r ss, subst (λ (x : Seg). HasEndsOf x r) e (turned_ends r l.segment h.1).1))
    (λ j. let s = has_segment (k + 1) ss ls h.2 t j in (s.0, in_cons r ss s.0 s.1, s.2)) (from_cons l.segment (segments_of ls) t i)

same_at : (s t : Seg) → t.a ≡ s.a → t.b ≡ s.b → (k l : ℤ) (z : Point) → IsAt s.a s.b k l z → IsAt t.a t.b k l z
same_at s t e f k l z h = subst (λ (p : Pt). IsAt p t.b k l z) (sym e) (subst (λ (p : Pt). IsAt s.a p k l z) (sym f) h)

-- a segment with the same ends, or with its ends exchanged, has the route, or the route turned round
module _ (segments others : List Seg) (same_hot : (c : Pt) → IsHot segments c ↔ IsHot others c) where
  same_route : (s t : Seg) (route : List Pt) → t.a ≡ s.a → t.b ≡ s.b → IsRoute segments t route → IsRoute others s route
  same_route s t route e f r = record {
    exact = λ c. (
      (λ i. let k = (r.exact c).0 i in ((same_hot c).0 k.0, met_line t s c (inl (e, f)) k.1)),
      (λ i. (r.exact c).1 ((same_hot c).1 i.0, met_line s t c (inl (sym e, sym f)) i.1)),
    );
    ordered = λ i j d a b y z k l m n p q u v. r.ordered i j d a b y z k l m n (same_at s t e f k l y p) q (same_at s t e f m n z u) v;
  }

  record RouteOf (s : Seg) (part : List Pt) : Type 0 where
    pub route : List Pt
    pub is_route : IsRoute others s route
    pub as_often : (e : Edge) → joining e (neighbours route) ≡ joining e (neighbours part)

  route_of : (s t : Seg) (part : List Pt) → IsOriented s t → IsRoute segments t part → RouteOf s part
  route_of s t part o r = ⊎_elim
      (λ e. record { route = part; is_route = same_route s t part e.0 e.1 r; as_often = λ edge. refl })
      (λ e. record { route = reverse part; is_route = same_route s s (reverse part) refl refl (routes_turn segments t s part (sym e.1) (sym e.0) r); as_often = λ edge. steps_turn edge part }) o.ends

  record RoutesOf (ss : List Seg) (ls : List Line) (parts : List (List Pt)) : Type 0 where
    pub routes : List (List Pt)
    pub are_routes : AreRoutes others ss routes
    pub as_often : (layer : Source) (e : Edge) → joining e (route_steps layer ss routes) ≡ joining e (line_steps layer ls parts)

  routes_of : (cuts : List ℤ) (k : ℕ) (ss : List Seg) (ls : List Line) (parts : List (List Pt)) → AreLinesFrom k ss ls → RoutesIn (IsFrom cuts 0) segments ls parts → RoutesOf ss ls parts
  routes_of cuts k [] [] [] h r = record { routes = []; are_routes = none; as_often = λ layer e. refl }
  routes_of cuts k [] [] (p ∷ ps) h r = absurd r
  routes_of cuts k [] (l ∷ ls) parts h r = absurd h
  routes_of cuts k (s ∷ ss) [] parts h r = absurd h
  routes_of cuts k (s ∷ ss) (l ∷ ls) [] h r = absurd r
  routes_of cuts k (s ∷ ss) (l ∷ ls) (p ∷ ps) h r =
      let t = h.1 in
      let one = route_of s l.segment p t (whole l.segment p r.0) in
      let rest = routes_of cuts (k + 1) ss ls ps h.2 r.1 in record {
        routes = one.route ∷ rest.routes;
        are_routes = next one.is_route rest.are_routes;
        as_often = λ layer e. count_if e (same_source s.layer layer) (neighbours one.route) (neighbours p) (route_steps layer ss rest.routes) (line_steps layer ls ps) (one.as_often e) (rest.as_often layer e)
            ∙ ap (λ (u : Source). joining e ((if same_source u layer then neighbours p else []) ++ line_steps layer ls ps)) (sym t.layer);
      }
    where
      whole : (t : Seg) (part : List Pt) → IsRouteIn (IsFrom cuts 0) segments t part → IsRoute segments t part
      whole t part q = record { exact = λ c. ((λ i. let v = (q.exact c).0 i in (v.0, v.1)), (λ i. (q.exact c).1 (i.0, i.1, omega arith))); ordered = q.ordered }

pub strips_rounded : StripsAreRounded
strips_rounded cuts segments lines strips h short each = record {
  routes = w.routes;
  are_routes = w.are_routes;
  ascending = all.ascending;
  exact = λ c. (
    (λ i. let t = (all.exact c).0 i in (w.as_often A c.edge ∙ t.1, w.as_often B c.edge ∙ t.2, t.3)),
    (λ t. (all.exact c).1 (omega arith, sym (w.as_often A c.edge) ∙ t.0, sym (w.as_often B c.edge) ∙ t.1, t.2)),
  );
}
  where
    all : AreEdgesFrom cuts 0 lines (flat_map (λ edges. edges) strips)
    all = all_strips cuts lines (lines_ordered 0 segments lines h) strips 0 (plain (length strips) (length cuts + 1) short) (λ i at edges e f. subst (λ (n : ℕ). AreEdgesOf cuts n lines edges) (from_none i at e) (each i edges f))
      where
        plain : (m n : ℕ) → m ≡ n → 0 + m ≡ n
        plain m n h = omega arith

        from_none : (m n : ℕ) → 0 + m ≡ n → m ≡ n
        from_none m n h = omega arith

    same_hot : (c : Pt) → IsHot (segments_of lines) c ↔ IsHot segments c
    same_hot c = (hot_lines (segments_of lines) segments c (λ s i m. has_segment 0 segments lines h s i), hot_lines segments (segments_of lines) c (λ s i m. has_line 0 segments lines h s i))

    w : RoutesOf (segments_of lines) segments same_hot segments lines all.parts
    w = routes_of (segments_of lines) segments same_hot cuts 0 segments lines all.parts h all.are_parts
