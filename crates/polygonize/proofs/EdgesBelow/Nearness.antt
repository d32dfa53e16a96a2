-- Gaps that are at most others, and the nearest edge among those at some numbers.
use Rattle.std.proofs.Common.{◌≡◌, ℕ, ◌+◌, ◌<◌, inl, inr, sym, ◌∙◌, ap, subst, Option, Some, None, List, length, get_or, arith}
use Rattle.std.specs.Prelude.{Contains, IfSome, MatchOption, ℤ, pos, ◌*ℤ◌, ◌<ℤ◌, ◌≤ℤ◌}
use Rattle.std.proofs.lemmas.Int.{by_lt_z}
use Rattle.std.proofs.lemmas.Bool.{cases_lt}
use Rattle.std.proofs.lemmas.List.{get_or_default}
use Rattle.geom.specs.declared.point.Pt.{Pt}
use Rattle.geom.specs.declared.edge.Edge.{Edge}
use Rattle.geom.specs.declared.directed.DirectedEdge.{DirectedEdge}
use Rattle.geom.specs.Holes.{height, left_of, run_of}
use Rattle.geom.proofs.Integers.{expand, linear, scale_le, unscale_le}
use Rattle.geom.proofs.Numbers.{weak, itself}
use Rattle.geom.proofs.Edges.{one_run}
use Rattle.polygonize.specs.Below.{HasGapRoom, IsAsNear, IsGap, IsGapOf, IsLesserGap, RunsBelow, gap_height}
use Rattle.polygonize.specs.Next.{edge_at}
use Rattle.polygonize.specs.declared.below.Gap.{Gap}
use Rattle.polygonize.proofs.EdgesBelow.GapsBelow.{run_right}

-- ---- heights are compared by their products with runs
pub nearer : (hy hm hf ry rm rf : ℤ) → pos 0 <ℤ rm → pos 0 ≤ℤ ry → pos 0 ≤ℤ rf → (hy *ℤ rm) ≤ℤ (hm *ℤ ry) → (hm *ℤ rf) ≤ℤ (hf *ℤ rm) → (hy *ℤ rf) ≤ℤ (hf *ℤ ry)
nearer hy hm hf ry rm rf m y f h k =
    let a : (rf *ℤ (hy *ℤ rm)) ≤ℤ (rf *ℤ (hm *ℤ ry)) = scale_le (hy *ℤ rm) (hm *ℤ ry) rf h f in
    let b : (ry *ℤ (hm *ℤ rf)) ≤ℤ (ry *ℤ (hf *ℤ rm)) = scale_le (hm *ℤ rf) (hf *ℤ rm) ry k y in
    unscale_le (hy *ℤ rf) (hf *ℤ ry) rm (simp expand (omega (arith, linear, simp expand at a, simp expand at b))) m

pub not_less : (a b : ℤ) → ¬ (a <ℤ b) → b ≤ℤ a
not_less a b n = by_lt_z a b (λ h. absurd (n h)) (λ h. h)

-- ---- gaps of edges
pub room_of : (ds : List DirectedEdge) (v : Pt) (best : Option Gap) → IfSome best (IsGapOf ds v) → IfSome best HasGapRoom
room_of ds v None h = tt
room_of ds v (Some g) h = h.gap.room

-- the gap's edge is the only one along d
pub gap_edge : (d : DirectedEdge) (v : Pt) (g : Gap) → IsGap d v g → (f : Edge) → RunsBelow d (left_of v) f → (height f (left_of v) ≡ gap_height g) × (run_of f ≡ g.run)
gap_edge d v g h f b = (ap (λ e. height e (left_of v)) same ∙ h.height_is, ap run_of same ∙ h.run_is)
  where
    same : f ≡ h.edge
    same = one_run d f h.edge b.runs h.below.runs

-- where d isn't below, every gap is as near
pub nothing_below : (d : DirectedEdge) (v : Pt) (best : Option Gap) → ((f : Edge) → ¬ (RunsBelow d (left_of v) f)) → IsAsNear d v best
nothing_below d v None n = n
nothing_below d v (Some g) n = λ f r. absurd (n f r)

-- the gap that was found for an edge is as near as that edge
pub near_itself : (d : DirectedEdge) (v : Pt) (found : Option Gap) → MatchOption found ((e : Edge) → ¬ (RunsBelow d (left_of v) e)) (λ g. IsGap d v g) → IsAsNear d v found
near_itself d v None h = h
near_itself d v (Some g) h = λ f r. let s = gap_edge d v g h f r in
    let P : ℤ → Type 0 = λ t. (gap_height g *ℤ t) ≤ℤ (height f (left_of v) *ℤ g.run) in subst P (sym s.1)
    (let Q : ℤ → Type 0 = λ t. (gap_height g *ℤ g.run) ≤ℤ (t *ℤ g.run) in subst Q (sym s.0) (itself (gap_height g *ℤ g.run)))

pub known_itself : (ds : List DirectedEdge) (v : Pt) (k : ℕ) (found : Option Gap) → k < length ds → IfSome found (λ g. g.number ≡ k) → MatchOption found ((e : Edge) → ¬ (RunsBelow (edge_at ds k) (left_of v) e)) (λ g. IsGap (edge_at ds k) v g) → IfSome found (IsGapOf ds v)
known_itself ds v k None i e h = tt
known_itself ds v k (Some g) i e h = record {
  inside = (let P : ℕ → Type 0 = λ t. t < length ds in subst P (sym e) i);
  gap = (let P : ℕ → Type 0 = λ t. IsGap (edge_at ds t) v g in subst P (sym e) h);
}

-- ---- the lesser of two gaps
near_along : (d : DirectedEdge) (v : Pt) {a b : Option Gap} → b ≡ a → IsAsNear d v a → IsAsNear d v b
near_along d v e h = let P : Option Gap → Type 0 = IsAsNear d v in subst P (sym e) h

known_along : (ds : List DirectedEdge) (v : Pt) {a b : Option Gap} → b ≡ a → IfSome a (IsGapOf ds v) → IfSome b (IsGapOf ds v)
known_along ds v e h = let P : Option Gap → Type 0 = λ t. IfSome t (IsGapOf ds v) in subst P (sym e) h

pub known_lesser : (ds : List DirectedEdge) (v : Pt) (best found now : Option Gap) → IfSome best (IsGapOf ds v) → IfSome found (IsGapOf ds v) → IsLesserGap best found now → IfSome now (IsGapOf ds v)
known_lesser ds v None found now b f l = known_along ds v l f
known_lesser ds v (Some e) None now b f l = known_along ds v l b
known_lesser ds v (Some e) (Some g) now b f (inl l) = known_along ds v l.0 f
known_lesser ds v (Some e) (Some g) now b f (inr l) = known_along ds v l.0 b

-- the gap h is at most g's, which is at most that of d
through : (ds : List DirectedEdge) (v : Pt) (d : DirectedEdge) (g h : Gap) → IsGapOf ds v g → IsGapOf ds v h → (gap_height h *ℤ g.run) ≤ℤ (gap_height g *ℤ h.run) → IsAsNear d v (Some g) → IsAsNear d v (Some h)
through ds v d g h k m l n = λ f r. nearer (gap_height h) (gap_height g) (height f (left_of v)) h.run g.run (run_of f) k.gap.room.some (weak (pos 0) h.run m.gap.room.some)
    (weak (pos 0) (run_of f) (run_right d v f r.over)) l (n f r)

pub near_first : (ds : List DirectedEdge) (v : Pt) (best found now : Option Gap) → IfSome best (IsGapOf ds v) → IfSome found (IsGapOf ds v) → IsLesserGap best found now → (d : DirectedEdge) → IsAsNear d v best → IsAsNear d v now
near_first ds v None found now b f l d n = nothing_below d v now n
near_first ds v (Some e) None now b f l d n = near_along d v l n
near_first ds v (Some e) (Some g) now b f (inl l) d n = near_along d v l.0 (through ds v d e g b f (weak (gap_height g *ℤ e.run) (gap_height e *ℤ g.run) l.1) n)
near_first ds v (Some e) (Some g) now b f (inr l) d n = near_along d v l.0 n

pub near_second : (ds : List DirectedEdge) (v : Pt) (best found now : Option Gap) → IfSome best (IsGapOf ds v) → IfSome found (IsGapOf ds v) → IsLesserGap best found now → (d : DirectedEdge) → IsAsNear d v found → IsAsNear d v now
near_second ds v None found now b f l d n = near_along d v l n
near_second ds v (Some e) None now b f l d n = nothing_below d v now n
near_second ds v (Some e) (Some g) now b f (inl l) d n = near_along d v l.0 n
near_second ds v (Some e) (Some g) now b f (inr l) d n = near_along d v l.0 (through ds v d g e f b (not_less (gap_height g *ℤ e.run) (gap_height e *ℤ g.run) l.1) n)

-- ---- one edge after another
-- best is as near as each of the first n
pub record NearestSoFar (ds : List DirectedEdge) (v : Pt) (numbers : List ℕ) (n : ℕ) (best : Option Gap) : Type 0 where
  pub known : IfSome best (IsGapOf ds v)
  pub near : (m : ℕ) → m < n → IsAsNear (edge_at ds (get_or numbers m 0)) v best

pub none_yet : (ds : List DirectedEdge) (v : Pt) (numbers : List ℕ) → NearestSoFar ds v numbers 0 None
none_yet ds v numbers = record { known = tt; near = λ m h. absurd (omega arith) }

pub one_more : (ds : List DirectedEdge) (v : Pt) (numbers : List ℕ) (n : ℕ) (best found now : Option Gap) → get_or numbers n 0 < length ds → IfSome found (λ g. g.number ≡ get_or numbers n 0)
    → MatchOption found ((e : Edge) → ¬ (RunsBelow (edge_at ds (get_or numbers n 0)) (left_of v) e)) (λ g. IsGap (edge_at ds (get_or numbers n 0)) v g) → IsLesserGap best found now → NearestSoFar ds v numbers n best → NearestSoFar ds v numbers (n + 1) now
one_more ds v numbers n best found now i e h l b = record {
  known = known_lesser ds v best found now b.known known l;
  near = λ m k. elim (cases_lt m n) [
    | inl j ↦ near_first ds v best found now b.known known l (edge_at ds (get_or numbers m 0)) (b.near m j)
    | inr j ↦ (let same : m ≡ n = omega arith in let P : ℕ → Type 0 = λ t. IsAsNear (edge_at ds (get_or numbers t 0)) v now in
        subst P (sym same) (near_second ds v best found now b.known known l (edge_at ds (get_or numbers n 0)) (near_itself (edge_at ds (get_or numbers n 0)) v found h)))
  ];
}
  where
    known : IfSome found (IsGapOf ds v)
    known = known_itself ds v (get_or numbers n 0) found i e h

-- from places in the list to its numbers
pub by_number : (P : ℕ → Type 0) (numbers : List ℕ) → ((m : ℕ) → m < length numbers → P (get_or numbers m 0)) → (k : ℕ) → Contains numbers k → P k
by_number P numbers h k c = subst P (sym (get_or_default numbers c.0 k 0 c.1) ∙ c.2) (h c.0 c.1)
