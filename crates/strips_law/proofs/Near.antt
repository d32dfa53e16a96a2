-- What lies in a strip of the rounded edges of lines, and of one line's route.
use Rattle.std.proofs.Common.{◌≡◌, ◌∙◌, ◌⊎◌, inl, inr, ℕ, zero, suc, ◌+◌, List, [], ◌∷◌, None, Some, Option, refl, sym, ap, subst, arith, ⊎_elim}
use Rattle.std.specs.List.{last_or}
use Rattle.std.specs.Prelude.{◌<◌, ◌≤◌, ◌↔◌, ℤ, AllPairs, Contains, slice_get}
use Rattle.geom.specs.declared.edge.Counted.{Counted}
use Rattle.geom.specs.declared.edge.Edge.{Edge}
use Rattle.geom.specs.declared.point.Pt.{Pt}
use Rattle.geom.specs.declared.segment.Seg.{Seg}
use Rattle.geom.specs.declared.segment.Source.{Source}
use Rattle.geom.specs.declared.segment.Source.TheVariants.{A, B}
use Rattle.geom.specs.EdgeOrder.{IsEdgeBefore}
use Rattle.geom.specs.Hot.{IsHot}
use Rattle.geom.specs.Rounded.{AreRounded}
use Rattle.geom.specs.Route.{AreRoutes, IsEarlier, IsRoute, Meets}
use Rattle.geom.specs.Route.AreRoutes.{none, next}
use Rattle.geom.proofs.Pixels.{meets_in, piece}
use Rattle.geom.proofs.RouteLaws.{earlier_in}
use Rattle.geom.proofs.Routes.{not_both}
use Rattle.hot_region.proofs.ListLaws.{from_cons, head_pair, here, in_cons, none_in, tail_pairs}
use Rattle.strips_law.specs.declared.line.Line.{Line}
use Rattle.strips_law.specs.Strips.{AreCountsOf, AreOrdered, AreRoutesIn, IsFrom, IsInStrip, IsRouteIn, line_steps, segments_of, strip_at}
use Rattle.strips_law.proofs.Edges.{edge_in, one_is_made}
use Rattle.strips_law.proofs.Parts.{AreParted, Oriented, RoutesIn, all_parted}
use Rattle.strips_law.proofs.Steps.{all_behind, all_inside, joining}

-- ---- the routes of lines

whole : (cuts : List ℤ) (segments : List Seg) (s : Seg) (route : List Pt) → IsRoute segments s route → IsRouteIn (IsFrom cuts 0) segments s route
whole cuts segments s route r = record { exact = λ c. ((λ i. let k = (r.exact c).0 i in (k.0, k.1, omega arith)), (λ i. (r.exact c).1 (i.0, i.1))); ordered = r.ordered }

all_whole : (cuts : List ℤ) (segments : List Seg) (lines : List Line) (routes : List (List Pt)) → AreRoutes segments (segments_of lines) routes → RoutesIn (IsFrom cuts 0) segments lines routes
all_whole cuts segments [] [] none = tt
all_whole cuts segments [] (r ∷ rs) x = elim x [ ]
all_whole cuts segments (l ∷ ls) [] x = elim x [ ]
all_whole cuts segments (l ∷ ls) (r ∷ rs) (next h k) = (whole cuts segments l.segment r h, all_whole cuts segments ls rs k)

module _ (cuts : List ℤ) (lines : List Line) (o : Oriented lines) (routes : List (List Pt)) (are : RoutesIn (IsFrom cuts 0) (segments_of lines) lines routes) where
  -- what the routes have from a strip on, and the edges that they make there
  record Behind (strip : ℕ) : Type 0 where
    pub parts : List (List Pt)
    pub are_parts : RoutesIn (IsFrom cuts strip) (segments_of lines) lines parts
    pub as_often : (layer : Source) (e : Edge) → strip ≤ strip_at cuts e.p → strip ≤ strip_at cuts e.q → joining e (line_steps layer lines routes) ≡ joining e (line_steps layer lines parts)

  one_further : (strip : ℕ) → Behind strip → Behind (strip + 1)
  one_further strip b = record {
    parts = split.backs;
    are_parts = split.behind;
    as_often = λ layer e p q.
        b.as_often layer e (later (strip_at cuts e.p) p) (later (strip_at cuts e.q) q)
        ∙ ap (λ parts. joining e (line_steps layer lines parts)) split.both
        ∙ all_behind cuts strip (segments_of lines) e layer lines split.fronts split.backs split.in_strip split.behind p q;
  }
    where
      split : AreParted cuts strip (segments_of lines) lines b.parts
      split = all_parted cuts strip (segments_of lines) lines b.parts o b.are_parts

      later : (n : ℕ) → strip + 1 ≤ n → strip ≤ n
      later n h = omega arith

  behind : (strip : ℕ) → Behind strip
  behind zero = record { parts = routes; are_parts = are; as_often = λ layer e p q. refl }
  behind (suc strip) = subst (λ (n : ℕ). Behind n) (one_more strip) (one_further strip (behind strip))
    where
      one_more : (n : ℕ) → n + 1 ≡ suc n
      one_more n = omega arith

-- the parts of routes in a strip, and the edges that they make
pub record HasParts (cuts : List ℤ) (strip : ℕ) (lines : List Line) (inner : List Counted) : Type 0 where
  pub parts : List (List Pt)
  pub are_parts : AreRoutesIn (IsInStrip cuts strip) lines parts
  pub inner_is : AreCountsOf (line_steps A lines parts) (line_steps B lines parts) inner

-- the rounded edges with both ends in a strip are those that the parts make
pub strip_of_rounded : (cuts : List ℤ) (strip : ℕ) (lines : List Line) (edges inner : List Counted) → AreOrdered lines → AreRounded (segments_of lines) edges → AllPairs (λ (c d : Counted). IsEdgeBefore c.edge d.edge) inner
    → ((c : Counted) → Contains inner c ↔ (Contains edges c × ((strip_at cuts c.edge.p ≡ strip) × (strip_at cuts c.edge.q ≡ strip)))) → HasParts cuts strip lines inner
strip_of_rounded cuts strip lines edges inner o r up exact = record { parts = split.fronts; are_parts = split.in_strip; inner_is = record { ascending = up; exact = λ c. (to c, from c) } }
  where
    segments : List Seg
    segments = segments_of lines

    are : RoutesIn (IsFrom cuts 0) segments lines r.routes
    are = all_whole cuts segments lines r.routes r.are_routes

    b : Behind cuts lines o.oriented r.routes are strip
    b = behind cuts lines o.oriented r.routes are strip

    split : AreParted cuts strip segments lines b.parts
    split = all_parted cuts strip segments lines b.parts o.oriented b.are_parts

    here_too : (n : ℕ) → n ≡ strip → strip ≤ n
    here_too n e = omega arith

    counts : (layer : Source) (e : Edge) → strip_at cuts e.p ≡ strip → strip_at cuts e.q ≡ strip → joining e (line_steps layer lines r.routes) ≡ joining e (line_steps layer lines split.fronts)
    counts layer e p q =
        b.as_often layer e (here_too (strip_at cuts e.p) p) (here_too (strip_at cuts e.q) q)
        ∙ ap (λ parts. joining e (line_steps layer lines parts)) split.both
        ∙ all_inside cuts strip segments e layer lines split.fronts split.backs split.in_strip split.behind p q

    to : (c : Counted) → Contains inner c → (joining c.edge (line_steps A lines split.fronts) ≡ c.in_a) × (joining c.edge (line_steps B lines split.fronts) ≡ c.in_b) × (0 < c.in_a + c.in_b)
    to c i =
        let h = (exact c).0 i in
        let k = (r.exact c).0 h.0 in
        (sym (counts A c.edge h.1.0 h.1.1) ∙ k.0, sym (counts B c.edge h.1.0 h.1.1) ∙ k.1, k.2)

    from : (c : Counted) → (joining c.edge (line_steps A lines split.fronts) ≡ c.in_a) × (joining c.edge (line_steps B lines split.fronts) ≡ c.in_b) × (0 < c.in_a + c.in_b) → Contains inner c
    from c h =
        let k = ⊎_elim
        (λ n. edge_in (IsInStrip cuts strip) segments A lines split.fronts split.in_strip c.edge n)
        (λ n. edge_in (IsInStrip cuts strip) segments B lines split.fronts split.in_strip c.edge n) (one_is_made _ _ c.in_a c.in_b h.0 h.1 h.2) in
        (exact c).1 ((r.exact c).1 (counts A c.edge k.0 k.1 ∙ h.0, counts B c.edge k.0 k.1 ∙ h.1, h.2), k)

-- ---- the first and the last pixel of a part

-- the last of a list comes after all others
last_of_all : {X : Type 0} (R : X → X → Type 0) (o : Option X) (x : X) (xs : List X) → AllPairs R (x ∷ xs) → (y : X) × (last_or o (x ∷ xs) ≡ Some y) × Contains (x ∷ xs) y × ((z : X) → Contains (x ∷ xs) z → (z ≡ y) ⊎ R z y)
last_of_all R o x [] h = (x, refl, here x [], λ z i. ⊎_elim (λ e. inl (sym e)) (λ j. absurd (none_in z j)) (from_cons x [] z i))
last_of_all R o x (w ∷ ws) h =
    let r = last_of_all R (Some x) w ws (tail_pairs R x (w ∷ ws) h) in
    (r.0, r.1, in_cons x (w ∷ ws) r.0 r.2, λ z i. ⊎_elim (λ e. inr (subst (λ v. R v r.0) e (head_pair R x (w ∷ ws) r.0 h r.2))) (λ j. r.3 z j) (from_cons x (w ∷ ws) z i))

module _ (In : Pt → Type 0) (segments : List Seg) (s : Seg) (part : List Pt) (h : IsRouteIn In segments s part) where
  never_both : (c d : Pt) → Contains part c → Contains part d → IsEarlier s c d → IsEarlier s d c → ⊥
  never_both c d i j k l = not_both (piece s) c d (meets_in s c ((h.exact c).0 i).1) (meets_in s d ((h.exact d).0 j).1) (earlier_in s c d k) (earlier_in s d c l)

  -- where no hot pixel is met there is none
  pub none_is : ((c : Pt) → IsHot segments c → Meets s c → In c → ⊥) → part ≡ []
  none_is never = at part (λ c i. let k = (h.exact c).0 i in never c k.0 k.1 k.2)
    where
      at : (ps : List Pt) → ((c : Pt) → Contains ps c → ⊥) → ps ≡ []
      at [] n = refl
      at (p ∷ ps) n = absurd (n p (here p ps))

  -- the one that is before all others
  pub first_is : (c : Pt) → IsHot segments c → Meets s c → In c → ((d : Pt) → IsHot segments d → Meets s d → In d → (d ≡ c) ⊎ IsEarlier s c d) → slice_get part 0 ≡ Some c
  first_is c hot met in' before = at part (λ d i. i) h.ordered ((h.exact c).1 (hot, met, in'))
    where
      at : (ps : List Pt) → ((d : Pt) → Contains ps d → Contains part d) → AllPairs (IsEarlier s) ps → Contains ps c → slice_get ps 0 ≡ Some c
      at [] sub up i = absurd (none_in c i)
      at (p ∷ ps) sub up i =
          let k = (h.exact p).0 (sub p (here p ps)) in ⊎_elim
          (λ e. ap (λ (q : Pt). Some q) e)
          (λ f. ⊎_elim (λ e. ap (λ (q : Pt). Some q) e) (λ j. absurd (never_both p c (sub p (here p ps)) (sub c i) (head_pair (IsEarlier s) p ps c up j) f)) (from_cons p ps c i))
          (before p k.0 k.1 k.2)

  -- the one that is behind all others
  pub last_is : (c : Pt) → IsHot segments c → Meets s c → In c → ((d : Pt) → IsHot segments d → Meets s d → In d → (d ≡ c) ⊎ IsEarlier s d c) → last_or None part ≡ Some c
  last_is c hot met in' behind' = at part (λ d i. i) h.ordered ((h.exact c).1 (hot, met, in'))
    where
      at : (ps : List Pt) → ((d : Pt) → Contains ps d → Contains part d) → AllPairs (IsEarlier s) ps → Contains ps c → last_or None ps ≡ Some c
      at [] sub up i = absurd (none_in c i)
      at (p ∷ ps) sub up i =
          let r = last_of_all (IsEarlier s) None p ps up in
          let k = (h.exact r.0).0 (sub r.0 r.2) in
          r.1 ∙ ap (λ (q : Pt). Some q) (⊎_elim (λ e. e) (λ f. ⊎_elim (λ e. sym e) (λ j. absurd (never_both r.0 c (sub r.0 r.2) (sub c i) f j)) (r.3 c i)) (behind' r.0 k.0 k.1 k.2))
