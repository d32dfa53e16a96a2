-- The edges of a strip, and those of all strips.
use Rattle.std.proofs.Common.{◌≡◌, ◌∙◌, ◌⊎◌, inl, inr, ℕ, suc, ◌+◌, List, [], ◌∷◌, ◌++◌, true, false, Bool, refl, sym, ap, subst, arith, ⊎_elim, length, Some}
use Rattle.std.proofs.lemmas.Bool.{cases_eq}
use Rattle.std.proofs.lemmas.List.Elements.{Contains-append_cases, Contains-append_left, Contains-append_right}
use Rattle.std.specs.Prelude.{◌<◌, ◌≤◌, ℤ, Contains, flat_map, if◌then◌else◌, slice_get}
use Rattle.geom.specs.declared.edge.Counted.{Counted}
use Rattle.geom.specs.declared.edge.Edge.{Edge}
use Rattle.geom.specs.declared.point.Pt.{Pt}
use Rattle.geom.specs.declared.segment.Seg.{Seg}
use Rattle.geom.specs.declared.segment.Source.{Source}
use Rattle.geom.specs.declared.segment.Source.TheVariants.{A, B}
use Rattle.geom.specs.EdgeOrder.{IsEdgeBefore}
use Rattle.geom.specs.Rounded.{joins}
use Rattle.geom.specs.Segments.{neighbours, same_source}
use Rattle.geom.proofs.Lists.{In, in_append, some_passes}
use Rattle.geom.proofs.Steps.{joined}
use Rattle.hot_region.proofs.ListLaws.{here, in_cons, none_in}
use Rattle.strips_law.specs.declared.line.Line.{Line}
use Rattle.strips_law.specs.declared.line.Open.{Open}
use Rattle.strips_law.specs.Law.{EdgesOfStrip, NoEdgeIsBoth}
use Rattle.strips_law.specs.Strips.{AreEdgesBehind, AreEdgesOf, AreOrdered, IsFrom, IsInStrip, IsRoundedStrip, line_steps, segments_of, strip_at}
use Rattle.strips_law.proofs.Columns.{before_by_strip, strip_by_before, within_cuts}
use Rattle.strips_law.proofs.Last.{empties, none_behind}
use Rattle.strips_law.proofs.Parts.{AreParted, RoutesIn, all_parted, pairs_append, same_parts}
use Rattle.strips_law.proofs.Steps.{all_behind, all_inside, joining}

-- both ends of a step are among the points
pub in_neighbours : (ps : List Pt) (step : Pt × Pt) → In step (neighbours ps) → Contains ps step.0 × Contains ps step.1
in_neighbours [] step i = absurd i
in_neighbours (a ∷ []) step i = absurd i
in_neighbours (a ∷ b ∷ ps) step (inl e) = (subst (λ (t : Pt × Pt). Contains (a ∷ b ∷ ps) t.0) e (here a (b ∷ ps)), subst (λ (t : Pt × Pt). Contains (a ∷ b ∷ ps) t.1) e (in_cons a (b ∷ ps) b (here b ps)))
in_neighbours (a ∷ b ∷ ps) step (inr i) = let h = in_neighbours (b ∷ ps) step i in (in_cons a (b ∷ ps) step.0 h.0, in_cons a (b ∷ ps) step.1 h.1)

pub in_if : {X : Type 0} (t : Bool) (xs : List X) (x : X) → In x (if t then xs else []) → In x xs
in_if true xs x i = i
in_if false xs x i = absurd i

-- steps in a region lie in it
pub step_in : (Region : Pt → Type 0) (segments : List Seg) (layer : Source) (lines : List Line) (parts : List (List Pt)) → RoutesIn Region segments lines parts → (step : Pt × Pt) → In step (line_steps layer lines parts) → Region step.0 × Region step.1
step_in Region segments layer [] parts h step i = absurd i
step_in Region segments layer (l ∷ ls) [] h step i = absurd h
step_in Region segments layer (l ∷ ls) (p ∷ ps) h step i = ⊎_elim
    (λ j. let k = in_neighbours p step (in_if (same_source l.segment.layer layer) (neighbours p) step j) in let exact = h.0.exact in (((exact step.0).0 k.0).2, ((exact step.1).0 k.1).2))
    (λ j. step_in Region segments layer ls ps h.1 step j) (in_append (if same_source l.segment.layer layer then neighbours p else []) (line_steps layer ls ps) step i)

-- an edge that is made in a region lies in it
pub edge_in : (Region : Pt → Type 0) (segments : List Seg) (layer : Source) (lines : List Line) (parts : List (List Pt)) → RoutesIn Region segments lines parts → (e : Edge) → 0 < joining e (line_steps layer lines parts) → Region e.p × Region e.q
edge_in Region segments layer lines parts h e n =
    let found = some_passes (joins e) (line_steps layer lines parts) n in
    let k = step_in Region segments layer lines parts h found.0 found.1 in ⊎_elim
    (λ t. (subst Region t.0 k.0, subst Region t.1 k.1))
    (λ t. (subst Region t.1 k.1, subst Region t.0 k.0)) (joined e found.0 found.2)

pub one_is_made : (a b m n : ℕ) → a ≡ m → b ≡ n → 0 < m + n → (0 < a) ⊎ (0 < b)
one_is_made a b m n h k l = ⊎_elim (λ e. inr (other a b m n h k l e)) (λ e. inl (some a e)) (cases_eq a 0)
  where
    other : (a b m n : ℕ) → a ≡ m → b ≡ n → 0 < m + n → a ≡ 0 → 0 < b
    other a b m n h k l e = omega arith

    some : (a : ℕ) → (a ≡ 0 → ⊥) → 0 < a
    some a e = omega arith

-- the counts of an edge are those of the steps
abbrev HasCounts : List Line → List (List Pt) → Counted → Type 0
HasCounts lines parts c = (joining c.edge (line_steps A lines parts) ≡ c.in_a) × (joining c.edge (line_steps B lines parts) ≡ c.in_b) × (0 < c.in_a + c.in_b)

-- ---- the edges of a strip

-- both ends of an inner edge lie in the strip
inner_ends : (cuts : List ℤ) (strip : ℕ) (lines : List Line) (inner : List Counted) (left right : List Open) → IsRoundedStrip cuts strip lines inner left right → (c : Counted) → Contains inner c
    → (strip_at cuts c.edge.p ≡ strip) × (strip_at cuts c.edge.q ≡ strip)
inner_ends cuts strip lines inner left right r c i =
    let h = (r.inner_is.exact c).0 i in ⊎_elim
    (λ n. edge_in (IsInStrip cuts strip) (segments_of lines) A lines r.parts r.are_parts c.edge n)
    (λ n. edge_in (IsInStrip cuts strip) (segments_of lines) B lines r.parts r.are_parts c.edge n) (one_is_made _ _ c.in_a c.in_b h.0 h.1 h.2)

pub not_both : NoEdgeIsBoth
not_both cuts strip lines inner across left right r x c d i j e =
    never (strip_at cuts d.edge.q) (subst (λ (f : Edge). strip_at cuts f.q ≡ strip) e (inner_ends cuts strip lines inner left right r c i).1) ((x.exact d).0 j).0.1
  where
    never : (n : ℕ) → n ≡ strip → strip < n → ⊥
    never n h k = omega arith

pub edges_of : EdgesOfStrip
edges_of cuts strip lines inner across edges left right o r x up exact = record { parts = x.parts; are_parts = x.are_parts; ascending = up; exact = λ c. ((λ i. let t = to c i in (t.0, t.1.0, t.1.1, t.1.2)), (λ t. from c (t.0, (t.1, t.2, t.3)))) }
  where
    split : AreParted cuts strip (segments_of lines) lines x.parts
    split = all_parted cuts strip (segments_of lines) lines x.parts o.oriented x.are_parts

    fronts_are : split.fronts ≡ r.parts
    fronts_are = same_parts (IsInStrip cuts strip) (segments_of lines) lines split.fronts r.parts split.in_strip r.are_parts

    counts : (layer : Source) (e : Edge) → strip_at cuts e.p ≡ strip → strip_at cuts e.q ≡ strip → joining e (line_steps layer lines x.parts) ≡ joining e (line_steps layer lines r.parts)
    counts layer e p q =
        ap (λ parts. joining e (line_steps layer lines parts)) split.both
        ∙ all_inside cuts strip (segments_of lines) e layer lines split.fronts split.backs split.in_strip split.behind p q
        ∙ ap (λ parts. joining e (line_steps layer lines parts)) fronts_are

    to : (c : Counted) → Contains edges c → (strip_at cuts c.edge.p ≡ strip) × HasCounts lines x.parts c
    to c i = ⊎_elim
        (λ j.
        let h = (r.inner_is.exact c).0 j in
        let k = inner_ends cuts strip lines inner left right r c j in
        (k.0, (counts A c.edge k.0 k.1 ∙ h.0, counts B c.edge k.0 k.1 ∙ h.1, h.2)))
        (λ j. let h = (x.exact c).0 j in (h.0.0, (h.1, h.2, h.3))) ((exact c).0 i)

    from : (c : Counted) → (strip_at cuts c.edge.p ≡ strip) × HasCounts lines x.parts c → Contains edges c
    from c h = (exact c).1 (⊎_elim
        (λ q. inl ((r.inner_is.exact c).1 (sym (counts A c.edge h.0 q) ∙ h.1.0, sym (counts B c.edge h.0 q) ∙ h.1.1, h.1.2)))
        (λ q. inr ((x.exact c).1 ((h.0, later (strip_at cuts c.edge.p) (strip_at cuts c.edge.q) h.0 (strip_by_before cuts c.edge.p c.edge.q c.edge.ordered) q), h.1.0, h.1.1, h.1.2)))
        (cases_eq (strip_at cuts c.edge.q) strip))
      where
        later : (m n : ℕ) → m ≡ strip → m ≤ n → (n ≡ strip → ⊥) → strip < n
        later m n h k l = omega arith

-- ---- the edges of all strips from one on

abbrev pub AreEdgesFrom : List ℤ → ℕ → List Line → List Counted → Type 0
AreEdgesFrom cuts strip lines edges = AreEdgesBehind (λ e. strip ≤ strip_at cuts e.p) cuts strip lines edges

module _ (cuts : List ℤ) (lines : List Line) (o : AreOrdered lines) where
  none_from : AreEdgesFrom cuts (length cuts + 1) lines []
  none_from = record {
    parts = empties lines;
    are_parts = none_behind cuts (segments_of lines) lines;
    ascending = λ i j d k l. absurd (omega arith);
    exact = λ c. ((λ i. absurd (none_in c i)), (λ h. absurd (never (within_cuts cuts c.edge.p) h.0)));
  }
    where
      never : {m n : ℕ} → m ≤ n → n + 1 ≤ m → ⊥
      never {m} {n} h k = omega arith

  pub with_strip : (strip : ℕ) (first rest : List Counted) → AreEdgesOf cuts strip lines first → AreEdgesFrom cuts (strip + 1) lines rest → AreEdgesFrom cuts strip lines (first ++ rest)
  with_strip strip first rest h k = record {
    parts = h.parts;
    are_parts = h.are_parts;
    ascending = pairs_append (λ (c d : Counted). IsEdgeBefore c.edge d.edge) first rest h.ascending k.ascending
        (λ c d i j. inl (before_by_strip cuts c.edge.p d.edge.p (below (strip_at cuts c.edge.p) (strip_at cuts d.edge.p) ((h.exact c).0 i).0 ((k.exact d).0 j).0)));
    exact = λ c. ((λ i. let t = to c i in (t.0, t.1.0, t.1.1, t.1.2)), (λ t. from c (t.0, (t.1, t.2, t.3))));
  }
    where
      below : (m n : ℕ) → m ≡ strip → strip + 1 ≤ n → m < n
      below m n h k = omega arith

      split : AreParted cuts strip (segments_of lines) lines h.parts
      split = all_parted cuts strip (segments_of lines) lines h.parts o.oriented h.are_parts

      backs_are : split.backs ≡ k.parts
      backs_are = same_parts (IsFrom cuts (strip + 1)) (segments_of lines) lines split.backs k.parts split.behind k.are_parts

      beyond : (p q : ℕ) → strip + 1 ≤ p → p ≤ q → strip + 1 ≤ q
      beyond p q h k = omega arith

      counts : (layer : Source) (e : Edge) → strip + 1 ≤ strip_at cuts e.p → joining e (line_steps layer lines h.parts) ≡ joining e (line_steps layer lines k.parts)
      counts layer e p =
          ap (λ parts. joining e (line_steps layer lines parts)) split.both
          ∙ all_behind cuts strip (segments_of lines) e layer lines split.fronts split.backs split.in_strip split.behind p (beyond (strip_at cuts e.p) (strip_at cuts e.q) p (strip_by_before cuts e.p e.q e.ordered))
          ∙ ap (λ parts. joining e (line_steps layer lines parts)) backs_are

      same_strip : (n : ℕ) → n ≡ strip → strip ≤ n
      same_strip n e = omega arith

      later_strip : (n : ℕ) → strip + 1 ≤ n → strip ≤ n
      later_strip n e = omega arith

      next_strip : (n : ℕ) → strip ≤ n → (n ≡ strip → ⊥) → strip + 1 ≤ n
      next_strip n e f = omega arith

      to : (c : Counted) → Contains (first ++ rest) c → (strip ≤ strip_at cuts c.edge.p) × HasCounts lines h.parts c
      to c i = ⊎_elim
          (λ j. let t = (h.exact c).0 j in (same_strip (strip_at cuts c.edge.p) t.0, (t.1, t.2, t.3)))
          (λ j. let t = (k.exact c).0 j in (later_strip (strip_at cuts c.edge.p) t.0, (counts A c.edge t.0 ∙ t.1, counts B c.edge t.0 ∙ t.2, t.3))) (Contains-append_cases first rest c i)

      from : (c : Counted) → (strip ≤ strip_at cuts c.edge.p) × HasCounts lines h.parts c → Contains (first ++ rest) c
      from c t = ⊎_elim
          (λ e. Contains-append_left first rest c ((h.exact c).1 (e, t.1.0, t.1.1, t.1.2)))
          (λ e. let n = next_strip (strip_at cuts c.edge.p) t.0 e in Contains-append_right first rest c ((k.exact c).1 (n, sym (counts A c.edge n) ∙ t.1.0, sym (counts B c.edge n) ∙ t.1.1, t.1.2)))
          (cases_eq (strip_at cuts c.edge.p) strip)

  pub all_strips : (strips : List (List Counted)) (strip : ℕ) → strip + length strips ≡ length cuts + 1 → ((i at : ℕ) (edges : List Counted) → strip + i ≡ at → slice_get strips i ≡ Some edges → AreEdgesOf cuts at lines edges)
      → AreEdgesFrom cuts strip lines (flat_map (λ edges. edges) strips)
  all_strips [] strip h each = subst (λ (n : ℕ). AreEdgesFrom cuts n lines []) (plain strip (length cuts + 1) h) none_from
    where
      plain : (m n : ℕ) → m + 0 ≡ n → n ≡ m
      plain m n h = omega arith
  all_strips (edges ∷ strips) strip h each = with_strip strip edges (flat_map (λ edges. edges) strips) (each 0 strip edges (omega arith) refl)
      (all_strips strips (strip + 1) (moved strip (length strips) (length (edges ∷ strips)) (length cuts + 1) (omega arith) h) (λ i at more e f. each (suc i) at more (omega arith) f))
    where
      moved : (k m n all : ℕ) → n ≡ m + 1 → k + n ≡ all → k + 1 + m ≡ all
      moved k m n all h l = omega arith
