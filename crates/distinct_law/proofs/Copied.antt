-- Segments with the same ends have the same route, or the route turned round: so what the kept ones count, all of them count.
use Rattle.std.proofs.Common.{◌≡◌, ◌∙◌, inl, inr, ℕ, ◌+◌, ◌*◌, List, [], ◌∷◌, Bool, true, false, cond, refl, sym, ap, subst, ⊎_elim, reverse}
use Rattle.std.proofs.lemmas.List.Sums.{sum_by-cons}
use Rattle.std.specs.Prelude.{◌↔◌, ℤ, if◌then◌else◌}
use Rattle.geom.specs.declared.edge.Counted.{Counted}
use Rattle.geom.specs.declared.edge.Edge.{Edge}
use Rattle.geom.specs.declared.point.Pt.{Pt}
use Rattle.geom.specs.declared.segment.Seg.{Seg}
use Rattle.geom.specs.declared.segment.Source.{Source}
use Rattle.geom.specs.declared.segment.Source.TheVariants.{A, B}
use Rattle.geom.specs.Hot.{IsHot}
use Rattle.geom.specs.OnSegment.{IsAt}
use Rattle.geom.specs.Pixel.{Point}
use Rattle.geom.specs.Rounded.{AreRounded, count, joins, route_steps}
use Rattle.geom.specs.Route.{AreRoutes, IsRoute}
use Rattle.geom.specs.Route.AreRoutes.{none, next}
use Rattle.geom.specs.Segments.{neighbours, same_source}
use Rattle.geom.proofs.Lists.{In, contains_in, in_contains}
use Rattle.geom.proofs.RouteLaws.{one_route}
use Rattle.hot_region.proofs.HotLaws.{met_line}
use Rattle.strips_law.proofs.Steps.{count_append, joining}
use Rattle.strips_law.proofs.Turned.{routes_turn}
use Rattle.strips_law.proofs.TurnedSteps.{steps_turn}
use Rattle.distinct.specs.declared.copies.Copies.{Copies}
use Rattle.distinct.specs.Copies.{AreCopies, AreCopiesRounded, HaveSameEnds, IsOfEnds, copies_in, count_copies, sum_in, sum_of_copies}
use Rattle.distinct.proofs.CopyLaws.{copies_hot, ends_sym, has_kept, same_ends, same_ends_equal, same_ends_of, same_ends_true}
use Rattle.distinct_law.specs.Law.{CopiesAreRounded}

-- ---- routes

same_at : (s t : Seg) → t.a ≡ s.a → t.b ≡ s.b → (k l : ℤ) (z : Point) → IsAt s.a s.b k l z → IsAt t.a t.b k l z
same_at s t e f k l z h = subst (λ (p : Pt). IsAt p t.b k l z) (sym e) (subst (λ (p : Pt). IsAt s.a p k l z) (sym f) h)

-- of a segment with the same ends the same way round, and among segments with the same hot pixels
same_route : (segments others : List Seg) → ((c : Pt) → IsHot segments c ↔ IsHot others c) → (s t : Seg) (route : List Pt) → t.a ≡ s.a → t.b ≡ s.b → IsRoute segments t route → IsRoute others s route
same_route segments others same_hot s t route e f r = record {
  exact = λ c. (
    (λ i. let k = (r.exact c).0 i in ((same_hot c).0 k.0, met_line t s c (inl (e, f)) k.1)),
    (λ i. (r.exact c).1 ((same_hot c).1 i.0, met_line s t c (inl (sym e, sym f)) i.1)),
  );
  ordered = λ i j d a b y z k l m n p q u v. r.ordered i j d a b y z k l m n (same_at s t e f k l y p) q (same_at s t e f m n z u) v;
}

module _ (segments : List Seg) where
  -- a route of s, which joins each edge as often as the other route
  record RouteLike (s : Seg) (other : List Pt) : Type 0 where
    pub route : List Pt
    pub is_route : IsRoute segments s route
    pub as_often : (e : Edge) → joining e (neighbours route) ≡ joining e (neighbours other)

  route_like : (s t : Seg) (other : List Pt) → HaveSameEnds s t → IsRoute segments t other → RouteLike s other
  route_like s t other h r = ⊎_elim
      (λ e. record { route = other; is_route = same_route segments segments (λ c. (λ i. i, λ i. i)) s t other (sym e.0) (sym e.1) r; as_often = λ edge. refl })
      (λ e. record { route = reverse other; is_route = routes_turn segments t s other e.0 e.1 r; as_often = λ edge. steps_turn edge other }) h

  -- segments with the same ends have routes that join each edge as often
  as_often : (s t : Seg) (route other : List Pt) → HaveSameEnds s t → IsRoute segments s route → IsRoute segments t other → (e : Edge) → joining e (neighbours route) ≡ joining e (neighbours other)
  as_often s t route other h r k e =
      let like = route_like s t other h k in
      ap (λ (ps : List Pt). joining e (neighbours ps)) (one_route segments s route like.route r like.is_route) ∙ like.as_often e

  -- each of the segments of a list with routes has one
  route_at : {ts : List Seg} {rs : List (List Pt)} → AreRoutes segments ts rs → (t : Seg) → In t ts → (route : List Pt) × IsRoute segments t route
  route_at none t i = absurd i
  route_at (next {s = u} {route = r} k rest) t i = ⊎_elim (λ e. (r, subst (λ (v : Seg). IsRoute segments v r) e k)) (λ j. route_at rest t j) i

-- ---- how often the routes of some segments join an edge, told by ends alone

-- how often the route of the first segment with the ends of s joins it
joins_at : Edge → List Seg → List (List Pt) → Seg → ℕ
joins_at e [] rs s = 0
joins_at e (t ∷ ts) [] s = 0
joins_at e (t ∷ ts) (r ∷ rs) s = cond (same_ends t s) (joining e (neighbours r)) (joins_at e ts rs s)

joins_of_ends : (e : Edge) (ts : List Seg) (rs : List (List Pt)) → IsOfEnds (joins_at e ts rs)
unfolding joins_at
joins_of_ends e [] rs s u h = refl
joins_of_ends e (t ∷ ts) [] s u h = refl
joins_of_ends e (t ∷ ts) (r ∷ rs) s u h =
    ap (λ (b : Bool). cond b (joining e (neighbours r)) (joins_at e ts rs s)) (same_ends_equal t s u h)
    ∙ ap (λ (n : ℕ). cond (same_ends t u) (joining e (neighbours r)) n) (joins_of_ends e ts rs s u h)

pick : (b : Bool) (m n k : ℕ) → (b ≡ true → m ≡ k) → (b ≡ false → n ≡ k) → cond b m n ≡ k
pick true m n k h l = h refl
pick false m n k h l = l refl

never : (b : Bool) → b ≡ true → b ≡ false → ⊥
never b h k = cc

-- that is what each route of s does
joins_route : (segments : List Seg) (e : Edge) {ts : List Seg} {rs : List (List Pt)} → AreRoutes segments ts rs → (s t : Seg) (route : List Pt) → In t ts → HaveSameEnds s t → IsRoute segments s route → joins_at e ts rs s ≡ joining e (neighbours route)
unfolding joins_at
joins_route segments e none s t route i h r = absurd i
joins_route segments e (next {s = u} {route = p} {ss = us} {routes = ps} k rest) s t route i h r = pick (same_ends u s) (joining e (neighbours p)) (joins_at e us ps s) (joining e (neighbours route))
    (λ f. as_often segments u s p route (same_ends_true u s f) k r e)
    (λ f. ⊎_elim (λ g. absurd (never (same_ends u s) (same_ends_of u s (subst (λ (v : Seg). HaveSameEnds v s) (sym g) (ends_sym s t h))) f)) (λ j. joins_route segments e rest s t route j h r) i)

-- ---- sums

-- the counts of routes, each with its copies, are a sum of numbers of segments
copies_summed : (segments : List Seg) (layer : Source) (e : Edge) (number : Seg → ℕ) {ss : List Seg} {rs : List (List Pt)} → AreRoutes segments ss rs
    → ((s : Seg) (route : List Pt) → In s ss → IsRoute segments s route → number s ≡ joining e (neighbours route))
    → (cs : List Copies) → count_copies layer e cs rs ≡ sum_of_copies layer number ss cs
copies_summed segments layer e number none h [] = refl
copies_summed segments layer e number none h (c ∷ cs) = refl
copies_summed segments layer e number (next k rest) h [] = refl
copies_summed segments layer e number (next {s = s} {route = r} {ss = ss} {routes = rs} k rest) h (c ∷ cs) =
    ap (λ (n : ℕ). copies_in layer c * n + count_copies layer e cs rs) (sym (h s r (inl refl) k))
    ∙ ap (λ (n : ℕ). copies_in layer c * number s + n) (copies_summed segments layer e number rest (λ t p i q. h t p (inr i) q) cs)

-- the routes of all segments, which count as the numbers of the segments do
record RoutesOf (segments : List Seg) (number : Edge → Seg → ℕ) (ss : List Seg) : Type 0 where
  pub routes : List (List Pt)
  pub are_routes : AreRoutes segments ss routes
  pub counts : (layer : Source) (e : Edge) → count layer e ss routes ≡ sum_in layer (number e) ss

one_counts : (b : Bool) (e : Edge) (steps : List (Pt × Pt)) (n : ℕ) → joining e steps ≡ n → joining e (if b then steps else []) ≡ (if b then n else 0)
one_counts true e steps n h = h
one_counts false e steps n h = refl

routes_of : (segments : List Seg) (number : Edge → Seg → ℕ) (ss : List Seg)
    → ((s : Seg) → In s ss → (route : List Pt) × IsRoute segments s route × ((e : Edge) → joining e (neighbours route) ≡ number e s)) → RoutesOf segments number ss
routes_of segments number [] h = record { routes = []; are_routes = none; counts = λ layer e. refl }
routes_of segments number (s ∷ ss) h =
    let one = h s (inl refl) in
    let rest = routes_of segments number ss (λ t i. h t (inr i)) in record {
      routes = one.0 ∷ rest.routes;
      are_routes = next one.1 rest.are_routes;
      counts = λ layer e.
          count_append (joins e) (if same_source s.layer layer then neighbours one.0 else []) (route_steps layer ss rest.routes)
          ∙ ap (λ (n : ℕ). n + count layer e ss rest.routes) (one_counts (same_source s.layer layer) e (neighbours one.0) (number e s) (one.2 e))
          ∙ ap (λ (n : ℕ). (if same_source s.layer layer then number e s else 0) + n) (rest.counts layer e)
          ∙ sym (sum_by-cons (λ (t : Seg). if same_source t.layer layer then number e t else 0) s ss);
    }

-- ---- the law

module _ (segments kept : List Seg) (copies : List Copies) (counted : List Counted) (h : AreCopies segments kept copies) (r : AreCopiesRounded kept copies counted) where
  number : Edge → Seg → ℕ
  number e = joins_at e kept r.routes

  same_hot : (c : Pt) → IsHot kept c ↔ IsHot segments c
  same_hot c = let k = copies_hot segments kept copies h c in (k.1, k.0)

  route_for : (s : Seg) → In s segments → (route : List Pt) × IsRoute segments s route × ((e : Edge) → joining e (neighbours route) ≡ number e s)
  unfolding number
  route_for s i =
      let t = has_kept segments kept copies h s (in_contains segments s i) in
      let j = contains_in kept t.0 t.1 in
      let other = route_at kept r.are_routes t.0 j in
      let like = route_like kept s t.0 other.0 t.2 other.1 in
      (like.route, same_route kept segments same_hot s s like.route refl refl like.is_route, λ e. sym (joins_route kept e r.are_routes s t.0 like.route j t.2 like.is_route))

  of_all : RoutesOf segments number segments
  of_all = routes_of segments number segments route_for

  same_count : (layer : Source) (e : Edge) → count layer e segments of_all.routes ≡ count_copies layer e copies r.routes
  unfolding number
  same_count layer e =
      of_all.counts layer e
      ∙ h.as_many layer (number e) (joins_of_ends e kept r.routes)
      ∙ sym (copies_summed kept layer e (number e) r.are_routes (λ s route i k. joins_route kept e r.are_routes s s route i (inl (refl, refl)) k) copies)

  rounded : AreRounded segments counted
  rounded = record {
    routes = of_all.routes;
    are_routes = of_all.are_routes;
    ascending = r.ascending;
    exact = λ c. (
      (λ i. let k = (r.exact c).0 i in (same_count A c.edge ∙ k.0, same_count B c.edge ∙ k.1, k.2)),
      (λ k. (r.exact c).1 (sym (same_count A c.edge) ∙ k.0, sym (same_count B c.edge) ∙ k.1, k.2)),
    );
  }

pub copies_rounded : CopiesAreRounded
copies_rounded segments kept copies counted h r = rounded segments kept copies counted h r
