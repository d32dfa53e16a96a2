-- The nearest edges below many vertices, by parts of the vertices and of the edges.
use Rattle.std.proofs.Common.{◌≡◌, ◌≢◌, ◌⊎◌, ℕ, zero, suc, [], ◌+◌, ◌-◌, ◌<◌, ◌≤◌, inl, inr, refl, sym, ◌∙◌, ap, subst, Option, Some, None, List, ◌++◌, ◌∷◌, length, get_or, set, map, take, drop, replicate, flat_map, arith, length-append, ◌↔◌, Bool, true, false, cond, ◌&&◌}
use Rattle.std.specs.Prelude.{All, Contains, IfSome, ℤ, ◌*ℤ◌, ◌≤ℤ◌, slice_range, int_lt}
use Rattle.std.specs.List.{AllZip}
use Rattle.std.proofs.lemmas.Bool.{cases_eq, cases_lt}
use Rattle.std.proofs.lemmas.Int.{ints}
use Rattle.std.proofs.lemmas.Nat.Bits.{bit_at-zero}
use Rattle.std.proofs.lemmas.List.{get_or-set_same, get_or-set_other, get_or_default, get_or_past, get_or-map, get_or_append_left, length-map, length-set, append-nil, drop-drop, drop_all, take_all}
use Rattle.std.proofs.Math.Seq.{get_or-append_right, take-add}
use Rattle.std.proofs.lemmas.List.Elements.{All-contains, All-map, Contains-append_cases, Contains-get_or}
use Rattle.box_lanes.specs.Places.{IsPlace}
use Rattle.box_lanes.specs.Sides.{sixteen}
use Rattle.box_lanes.proofs.LaneLaws.{sixteen_bit}
use Rattle.geom.specs.declared.point.Pt.{Pt}
use Rattle.geom.specs.declared.edge.Edge.{Edge}
use Rattle.geom.specs.declared.directed.DirectedEdge.{DirectedEdge}
use Rattle.geom.specs.Directed.{RunsAlong}
use Rattle.geom.specs.Limit.{AreInLimit, InLimit}
use Rattle.geom.specs.Holes.{IsHole, LiesBelow, height, left_of, run_of}
use Rattle.polygonize.specs.Below.{AreFoundBelow, AreGapsBelow, AreKnown, AreNearer, AreNearerFor, AreNearerSpanning, AreNearerWithin, AreTakenBut, IsAsNear, IsFloor, IsFoundBelow, IsGapOf, IsLesserGap, RunsBelow, StandAt, best_at, gap_height, highest_row, lowest_row, vertex_at}
use Rattle.polygonize.specs.Column.{AreColumnsOf, IsIn, Meets, Spans}
use Rattle.polygonize.specs.Next.{edge_at, first_vertex, nothing, ring_of}
use Rattle.polygonize.specs.Reaching.{reaches}
use Rattle.polygonize.specs.declared.below.Gap.{Gap}
use Rattle.polygonize.specs.declared.column.Columns.{Columns}
use Rattle.polygonize.specs.declared.short.Rows.{Rows}
use Rattle.polygonize.specs.Written.{ArePlaces}
use Rattle.hands.specs.declared.part.Part.{Part}
use Rattle.hands.specs.Consecutive.{ArePartsOf}
use Rattle.hands.proofs.Consecutive.{behind_one_another}
use Rattle.polygonize.proofs.EdgesBelow.Columns.{below_meets, meets_or_not, spans_or_not}
use Rattle.polygonize.proofs.EdgesBelow.Floors.{near_above, near_below}
use Rattle.polygonize.proofs.EdgesBelow.Nearness.{known_lesser, near_first, near_second, nothing_below}

-- ---- one vertex after another

module _ (ds : List DirectedEdge) (vertices : List Pt) (P : ℕ → Type 0) where
  pub nobody_asked : (Asked : ℕ → Type 0) (old : List (Option Gap)) → ((r : ℕ) → ¬ (Asked r)) → AreKnown ds vertices old → AreNearerFor ds vertices Asked P old old
  nobody_asked Asked old n k = record { same_length = refl; known = k; kept = λ r d h. h; near = λ r a. absurd (n r a) }

  module _ (Asked Next : ℕ → Type 0) (place : ℕ) (old best now : List (Option Gap)) (found least : Option Gap) (then : (r : ℕ) → Next r → Asked r ⊎ (r ≡ place)) (within : place < length best) (is : now ≡ set best place least) (known : IfSome found (IsGapOf ds (vertex_at vertices place)))
      (near : (k : ℕ) → P k → IsAsNear (edge_at ds k) (vertex_at vertices place) found) (lesser : IsLesserGap (best_at best place) found least) (s : AreNearerFor ds vertices Asked P old best) where
    at_place : best_at now place ≡ least
    at_place = ap (λ t. best_at t place) is ∙ get_or-set_same best place least None within

    elsewhere : (r : ℕ) → r ≢ place → best_at now r ≡ best_at best r
    elsewhere r d = ap (λ t. best_at t r) is ∙ get_or-set_other best place r least None d

    -- what holds at the place, and of what was kept elsewhere
    by_place : (Q : ℕ → Option Gap → Type 0) (r : ℕ) → (r ≡ place → Q place least) → (r ≢ place → Q r (best_at best r)) → Q r (best_at now r)
    by_place Q r h k = elim (cases_eq r place) [
      | inl same ↦ (let R : ℕ → Type 0 = λ t. Q t (best_at now t) in subst R (sym same) (let R : Option Gap → Type 0 = Q place in subst R (sym at_place) (h same)))
      | inr other ↦ (let R : Option Gap → Type 0 = Q r in subst R (sym (elsewhere r other)) (k other))
    ]

    first : (d : DirectedEdge) → IsAsNear d (vertex_at vertices place) (best_at best place) → IsAsNear d (vertex_at vertices place) least
    first = near_first ds (vertex_at vertices place) (best_at best place) found least (s.known place) known lesser

    second : (d : DirectedEdge) → IsAsNear d (vertex_at vertices place) found → IsAsNear d (vertex_at vertices place) least
    second = near_second ds (vertex_at vertices place) (best_at best place) found least (s.known place) known lesser

    kept_here : (r : ℕ) (d : DirectedEdge) → IsAsNear d (vertex_at vertices r) (best_at best r) → IsAsNear d (vertex_at vertices r) (best_at now r)
    kept_here r d h = by_place (λ t g. IsAsNear d (vertex_at vertices t) g) r (λ same. first d (let R : ℕ → Type 0 = λ t. IsAsNear d (vertex_at vertices t) (best_at best t) in subst R same h)) (λ other. h)

    pub one_asked : AreNearerFor ds vertices Next P old now
    one_asked = record {
      same_length = ap length is ∙ length-set best place least ∙ s.same_length;
      known = λ r. by_place (λ t g. IfSome g (IsGapOf ds (vertex_at vertices t))) r (λ same. known_lesser ds (vertex_at vertices place) (best_at best place) found least (s.known place) known lesser) (λ other. s.known r);
      kept = λ r d h. kept_here r d (s.kept r d h);
      near = λ r n k p. elim (then r n) [
        | inl a ↦ kept_here r (edge_at ds k) (s.near r a k p)
        | inr same ↦ (let R : ℕ → Type 0 = λ t. IsAsNear (edge_at ds k) (vertex_at vertices t) (best_at now t) in
            subst R (sym same) (let R : Option Gap → Type 0 = IsAsNear (edge_at ds k) (vertex_at vertices place) in subst R (sym at_place) (second (edge_at ds k) (near k p))))
      ];
    }

  -- some vertices after others
  pub then_asked : (First Second Asked : ℕ → Type 0) (old one two : List (Option Gap)) → ((r : ℕ) → Asked r → First r ⊎ Second r)
      → AreNearerFor ds vertices First P old one → AreNearerFor ds vertices Second P one two → AreNearerFor ds vertices Asked P old two
  then_asked First Second Asked old one two then a b = record {
    same_length = b.same_length ∙ a.same_length;
    known = b.known;
    kept = λ r d h. b.kept r d (a.kept r d h);
    near = λ r n k p. elim (then r n) [
      | inl f ↦ b.kept r (edge_at ds k) (a.near r f k p)
      | inr f ↦ b.near r f k p
    ];
  }

-- ---- sixteen vertices, by bits

-- no gap grows, and each of the sixteen vertices from one place on, but before another one, is left, by its bit, or its gap is now at most that of the edge
pub record AreNearerBut (ds : List DirectedEdge) (vertices : List Pt) (number at past left : ℕ) (old best : List (Option Gap)) : Type 0 where
  pub nearer : AreNearerFor ds vertices (λ r. ⊥) (λ k. k ≡ number) old best
  pub others : (k : ℕ) → k < 16 → at + k < past → IsPlace left k ⊎ IsAsNear (edge_at ds number) (vertex_at vertices (at + k)) (best_at best (at + k))

module _ (ds : List DirectedEdge) (vertices : List Pt) (number at past : ℕ) (old best : List (Option Gap)) where
  -- one bit after another
  pub but_added : (left rest lane : ℕ) (now : List (Option Gap)) → ((k : ℕ) → IsPlace rest k ↔ (IsPlace left k × (k ≢ lane)))
      → AreNearerWithin ds vertices number (at + lane) (at + lane + 1) best now → AreNearerBut ds vertices number at past left old best
      → AreNearerBut ds vertices number at past rest old now
  but_added left rest lane now others a s = record {
    nearer = then_asked ds vertices (λ k. k ≡ number) (λ r. ⊥) (λ r. (at + lane ≤ r) × (r < at + lane + 1)) (λ r. ⊥) old best now (λ r e. inl e) s.nearer a;
    others = λ k l h. elim (s.others k l h) [
      | inl p ↦ elim (cases_eq k lane) [
        | inl same ↦ inr (subst (λ (m : ℕ). IsAsNear (edge_at ds number) (vertex_at vertices (at + m)) (best_at now (at + m))) (sym same)
            (a.near (at + lane) (omega arith, omega arith) number refl))
        | inr other ↦ inl ((others k).1 (p, other))
      ]
      | inr n ↦ inr (a.kept (at + k) (edge_at ds number) n)
    ];
  }

  -- no bit is left
  pub but_none : AreNearerBut ds vertices number at past 0 old best → AreNearerFor ds vertices (λ r. (at ≤ r) × (r < at + 16) × (r < past)) (λ k. k ≡ number) old best
  but_none s = record {
    same_length = s.nearer.same_length;
    known = s.nearer.known;
    kept = s.nearer.kept;
    near = λ r h k e. (
        let from = h.0 in
        let is : at + (r - at) ≡ r = omega (arith, from) in
        elim (s.others (r - at) (let l = h.1 in omega (arith, l)) (let l = h.2 in omega (arith, is, l))) [
          | inl p ↦ absurd (let b = p.bit in let z = bit_at-zero (r - at) in omega (arith, b, z))
          | inr n ↦ subst (λ (m : ℕ). IsAsNear (edge_at ds m) (vertex_at vertices r) (best_at best r)) (sym e)
              (subst (λ (m : ℕ). IsAsNear (edge_at ds number) (vertex_at vertices m) (best_at best m)) is n)
        ]);
  }

one_untold : (a b : Bool) → a && b ≡ false → (a ≡ false) ⊎ (b ≡ false)
one_untold true b e = inr e
one_untold false b e = inl refl

-- an edge that doesn't reach a vertex isn't below it, or isn't nearer
pub near_unreached : (ds : List DirectedEdge) (d : DirectedEdge) (v : Pt) (best : Option Gap) (rows : Rows) (high floor : ℤ) → AreInLimit d.from d.to → IfSome best (IsGapOf ds v)
    → IsFloor ds best floor → rows.low ≡ lowest_row d → rows.high ≡ highest_row d → high ≡ v.y → reaches rows high floor ≡ false → IsAsNear d v best
near_unreached ds d v best rows high floor l known is e f g untold = elim (one_untold (int_lt rows.low high) (int_lt floor rows.high) untold) [
  | inl h ↦ near_above d v best (let t = lt_untold rows.low high h in omega (arith, ints, e, g, t))
  | inr h ↦ near_below ds d v best floor l known is (let t = lt_untold floor rows.high h in omega (arith, ints, f, t))
]
  where
    lt_untold : (a b : ℤ) → int_lt a b ≡ false → b ≤ℤ a
    lt_untold a b h = omega (arith, ints)

bit_told : (bit : ℕ) (b : Bool) → bit ≡ cond b 1 0 → (bit ≡ 1) ⊎ (b ≡ false)
bit_told bit true e = inl e
bit_told bit false e = inr refl

-- the bit of a test is set, or the test says no
pub reached_or : (p : ℕ → Bool) (at k : ℕ) → k < 16 → IsPlace (sixteen p at) k ⊎ (p (at + k) ≡ false)
reached_or p at k l = elim (bit_told _ (p (at + k)) (sixteen_bit p at k l)) [
  | inl b ↦ inl (record { bit = b })
  | inr b ↦ inr b
]

-- the place is one of the first n that are asked for
abbrev pub IsOneOfFirst : List ℕ → ℕ → ℕ → Type 0
IsOneOfFirst asked n r = (m : ℕ) × (m < n) × (get_or asked m 0 ≡ r)

pub one_more_first : (asked : List ℕ) (n r : ℕ) → IsOneOfFirst asked (n + 1) r → IsOneOfFirst asked n r ⊎ (r ≡ get_or asked n 0)
one_more_first asked n r i = elim (cases_lt i.0 n) [
  | inl h ↦ inl (i.0, h, i.2)
  | inr h ↦ inr (let l = i.1 in let same : i.0 ≡ n = omega (arith, l, h) in sym i.2 ∙ ap (λ t. get_or asked t 0) same)
]

pub all_first : (asked : List ℕ) (n : ℕ) → length asked ≤ n → (r : ℕ) → Contains asked r → IsOneOfFirst asked n r
all_first asked n l r c = (c.0, (let i = c.1 in omega (arith, i, l)), sym (get_or_default asked c.0 r 0 c.1) ∙ c.2)

-- ---- parts of the edges, and of the vertices

pub for_fewer : (ds : List DirectedEdge) (vertices : List Pt) (Asked Fewer P Q : ℕ → Type 0) (old new : List (Option Gap)) → ((r : ℕ) → Fewer r → Asked r) → ((k : ℕ) → Q k → P k) → AreNearerFor ds vertices Asked P old new → AreNearerFor ds vertices Fewer Q old new
for_fewer ds vertices Asked Fewer P Q old new a f n = record { same_length = n.same_length; known = n.known; kept = n.kept; near = λ r c k q. n.near r (a r c) k (f k q) }

-- of a half of the vertices, those of the edges that don't span all columns
half_near : (ds : List DirectedEdge) (vertices : List Pt) (half numbers part : List ℕ) (all columns : Columns) (old new : List (Option Gap)) → ((k : ℕ) → Contains numbers k → ¬ (Spans (edge_at ds k) all) → Meets (edge_at ds k) columns → Contains part k)
    → AreColumnsOf vertices half columns → AreNearer ds vertices half part old new → (r : ℕ) → Contains half r → (k : ℕ) → Contains numbers k → ¬ (Spans (edge_at ds k) all) → IsAsNear (edge_at ds k) (vertex_at vertices r) (best_at new r)
half_near ds vertices half numbers part all columns old new complete are n r c k m s = elim (meets_or_not (edge_at ds k) columns) [
  | inl h ↦ n.near r c k (complete k m s h)
  | inr h ↦ nothing_below (edge_at ds k) (vertex_at vertices r) (best_at new r) (λ f b. h (below_meets (edge_at ds k) columns (vertex_at vertices r) (All-contains (λ r. IsIn columns (vertex_at vertices r)) half r are.each c) f b))
]

module _ (ds : List DirectedEdge) (vertices : List Pt) (asked first second numbers part rest : List ℕ) (all left right : Columns) (old one two new : List (Option Gap)) where
  pub halves_near : asked ≡ first ++ second → ((k : ℕ) → Contains numbers k → ¬ (Spans (edge_at ds k) all) → Meets (edge_at ds k) left → Contains part k) → ((k : ℕ) → Contains numbers k → ¬ (Spans (edge_at ds k) all) → Meets (edge_at ds k) right → Contains rest k)
      → AreColumnsOf vertices first left → AreColumnsOf vertices second right → AreNearerSpanning ds vertices asked numbers all old one → AreNearer ds vertices first part one two → AreNearer ds vertices second rest two new → AreNearer ds vertices asked numbers old new
  halves_near e p q l r a b c = record {
    same_length = c.same_length ∙ b.same_length ∙ a.same_length;
    known = c.known;
    kept = λ r d h. c.kept r d (b.kept r d (a.kept r d h));
    near = λ s m k n. elim (spans_or_not (edge_at ds k) all) [
      | inl h ↦ c.kept s (edge_at ds k) (b.kept s (edge_at ds k) (a.near s m k (n, h)))
      | inr h ↦ elim (Contains-append_cases first second s (let P : List ℕ → Type 0 = λ t. Contains t s in subst P e m)) [
        | inl i ↦ c.kept s (edge_at ds k) (half_near ds vertices first numbers part all left one two p l b s i k n h)
        | inr i ↦ half_near ds vertices second numbers rest all right two new q r c s i k n h
      ]
    ];
  }

take_and_drop : {X : Type 0} (n : ℕ) (xs : List X) → xs ≡ take n xs ++ drop n xs
take_and_drop zero xs = refl
take_and_drop (suc n) [] = refl
take_and_drop (suc n) (x ∷ xs) = ap (λ t. x ∷ t) (take_and_drop n xs)

pub two_parts : {X : Type 0} (xs : List X) (n : ℕ) (first second : List X) → first ≡ take n xs → second ≡ drop n xs → xs ≡ first ++ second
two_parts xs n first second h k = take_and_drop n xs ∙ (λ i. sym h i ++ sym k i)

-- ---- the beginning and the end

-- only None is what no gap is
pub none_of : (Q : Option Gap → Type 0) → ((g : Gap) → ¬ (Q (Some g))) → (best : Option Gap) → Q best → best ≡ None
none_of Q n None q = refl
none_of Q n (Some g) q = absurd (n g q)

pub none_known : (ds : List DirectedEdge) (vertices : List Pt) (n : ℕ) → AreKnown ds vertices (replicate n None)
none_known ds vertices n r = let P : Option Gap → Type 0 = λ t. IfSome t (IsGapOf ds (vertex_at vertices r)) in subst P (sym (always_none n r)) tt
  where
    always_none : (n r : ℕ) → best_at (replicate n None) r ≡ None
    always_none zero r = get_or_past [] r None (omega arith)
    always_none (suc n) zero = refl
    always_none (suc n) (suc r) = always_none n r

at_found : (ds : List DirectedEdge) (v : Pt) (best : Option Gap) → IfSome best (IsGapOf ds v) → ((k : ℕ) → k < length ds → IsAsNear (edge_at ds k) v best) → IsFoundBelow ds v best
at_found ds v None h n = λ e b. n b.inside.0 b.inside.1 e (there e b)
  where
    there : (e : Edge) (b : LiesBelow ds (left_of v) e) → RunsBelow (edge_at ds b.inside.0) (left_of v) e
    there e b = record { runs = (let P : DirectedEdge → Type 0 = λ t. RunsAlong t e in subst P (sym b.inside.2 ∙ get_or_default ds b.inside.0 b.edge nothing b.inside.1) b.runs); over = b.over; below = b.below }
at_found ds v (Some g) h n = (
  h.inside,
  record {
    inside = Contains-get_or ds g.number nothing h.inside;
    edge = h.gap.edge;
    runs = h.gap.below.runs;
    below = record { edge = edge_at ds g.number; inside = Contains-get_or ds g.number nothing h.inside; runs = h.gap.below.runs; over = h.gap.below.over; below = h.gap.below.below };
    nearest = λ e b. (let P : ℤ → Type 0 = λ t. (t *ℤ run_of e) ≤ℤ (height e (left_of v) *ℤ run_of h.gap.edge) in subst P (sym h.gap.height_is)
        (let Q : ℤ → Type 0 = λ t. (gap_height g *ℤ run_of e) ≤ℤ (height e (left_of v) *ℤ t) in subst Q (sym h.gap.run_is) (n b.inside.0 b.inside.1 e (there e b))));
  },
)
  where
    there : (e : Edge) (b : LiesBelow ds (left_of v) e) → RunsBelow (edge_at ds b.inside.0) (left_of v) e
    there e b = record { runs = (let P : DirectedEdge → Type 0 = λ t. RunsAlong t e in subst P (sym b.inside.2 ∙ get_or_default ds b.inside.0 b.edge nothing b.inside.1) b.runs); over = b.over; below = b.below }

-- the edges that were left are looked for, and the others were taken into account before
pub found_all : (ds : List DirectedEdge) (vertices : List Pt) (asked left : List ℕ) (old short new : List (Option Gap)) → ((r : ℕ) → r < length vertices → Contains asked r) → AreTakenBut ds vertices (length ds) left old short → AreNearer ds vertices asked left short new
    → (r : ℕ) → r < length vertices → IsFoundBelow ds (vertex_at vertices r) (best_at new r)
found_all ds vertices asked left old short new complete taken n r h = at_found ds (vertex_at vertices r) (best_at new r) (n.known r) (λ k i. elim (taken.each k i) [
  | inl l ↦ n.near r (complete r h) k l
  | inr t ↦ n.kept r (edge_at ds k) (t r h)
])

-- the room of a list is written back whole
pub written_back : {X : Type 0} (n : ℕ) (old new : List X) → n ≡ length new → length new ≡ length old → take n (new ++ drop (length new) old) ≡ new
written_back n old new e h = ap (λ t. take n (new ++ t)) (drop_all (length new) old (omega (arith, h))) ∙ ap (λ t. take n t) (append-nil new) ∙ take_all n new (omega (arith, e))

-- ---- holes

-- the gaps of the vertices where holes begin, put where the cycles of these stand
pub below_all : (ds : List DirectedEdge) (cycles : List (List ℕ)) (vertices : List Pt) (holes : List ℕ) (gaps best : List (Option Gap)) → vertices ≡ map (first_vertex ds cycles) holes → ((r : ℕ) → r < length cycles → IsHole (ring_of ds (get_or cycles r [])) → Contains holes r)
    → AreGapsBelow ds vertices gaps → length best ≡ length cycles → StandAt holes gaps best → AreFoundBelow ds cycles best
below_all ds cycles vertices holes gaps best e complete found same stand = record {
  same_length = same;
  each = λ r h q. (let c = complete r h q in let k = c.0 in let is : get_or holes k 0 ≡ r = get_or_default holes k 0 r c.1 ∙ c.2 in
      let inside : k < length vertices = (let m = ap length e ∙ length-map holes (first_vertex ds cycles) in let i = c.1 in omega (arith, m, i)) in
      let vertex_is : vertex_at vertices k ≡ first_vertex ds cycles r = ap (λ t. vertex_at t k) e ∙ get_or-map (first_vertex ds cycles) holes k 0 nothing.from c.1 ∙ ap (first_vertex ds cycles) is in
      let gap_is : best_at gaps k ≡ best_at best r = sym (stand k c.1) ∙ ap (best_at best) is in
      subst (λ (t : Pt). IsFoundBelow ds t (best_at best r)) vertex_is (subst (λ (g : Option Gap). IsFoundBelow ds (vertex_at vertices k) g) gap_is (found.each k inside)));
}

-- where cycles begin is in the limit
pub begin_in_limit : (ds : List DirectedEdge) (cycles : List (List ℕ)) (numbers : List ℕ) → All (λ d. AreInLimit d.from d.to) ds → All (ArePlaces ds) cycles → All (λ r. r < length cycles) numbers → All InLimit (map (first_vertex ds cycles) numbers)
begin_in_limit ds cycles numbers limit places inside = All-map InLimit (first_vertex ds cycles) numbers (λ k d h. let p = places (get_or numbers k d) [] (inside k d h) in (limit _ nothing (p.inside 0 0 p.some)).a_in)

-- ---- parts of the vertices

none_found : (ds : List DirectedEdge) (vertices : List Pt) (at : ℕ) → AreGapsBelow ds (slice_range vertices at at) []
none_found ds vertices at =
    let none : at - at ≡ 0 = omega arith in
    subst (λ (vs : List Pt). AreGapsBelow ds vs []) (sym (ap (λ (n : ℕ). take n (drop at vertices)) none)) (record { same_length = refl; each = λ r h. absurd (omega arith) })

one_behind : (ds : List DirectedEdge) (front back : List Pt) (gaps more : List (Option Gap)) → AreGapsBelow ds front gaps → AreGapsBelow ds back more → AreGapsBelow ds (front ++ back) (gaps ++ more)
one_behind ds front back gaps more a b = record { same_length = (let l = length-append gaps more in let m = length-append front back in let p = a.same_length in let q = b.same_length in omega (arith, l, m, p, q)); each = each }
  where
    each : (r : ℕ) → r < length (front ++ back) → IsFoundBelow ds (vertex_at (front ++ back) r) (best_at (gaps ++ more) r)
    each r h = elim (cases_lt r (length front)) [
      | inl l ↦ (let p = a.same_length in
          subst (λ (v : Pt). IsFoundBelow ds v (best_at (gaps ++ more) r)) (sym (get_or_append_left front back nothing.from r l))
          (subst (λ (g : Option Gap). IsFoundBelow ds (vertex_at front r) g) (sym (get_or_append_left gaps more None r (omega (arith, l, p)))) (a.each r l)))
      | inr l ↦ (let p = a.same_length in let m = length-append front back in let there : r - length front < length back = omega (arith, l, m, h) in let same : r - length gaps ≡ r - length front = omega (arith, p) in
          subst (λ (v : Pt). IsFoundBelow ds v (best_at (gaps ++ more) r)) (sym (get_or-append_right front back r nothing.from l))
          (subst (λ (g : Option Gap). IsFoundBelow ds (vertex_at back (r - length front)) g) (sym (get_or-append_right gaps more r None (omega (arith, l, p)) ∙ ap (best_at more) same)) (b.each (r - length front) there)))
    ]

both_ranges : {X : Type 0} (xs : List X) (from middle past : ℕ) → from ≤ middle → middle ≤ past → slice_range xs from past ≡ slice_range xs from middle ++ slice_range xs middle past
both_ranges xs from middle past first second =
    let many : past - from ≡ (middle - from) + (past - middle) = omega (arith, first, second) in
    let there : from + (middle - from) ≡ middle = omega (arith, first) in
    ap (λ (n : ℕ). take n (drop from xs)) many
    ∙ take-add (middle - from) (past - middle) (drop from xs)
    ∙ ap (λ (ys : List _). take (middle - from) (drop from xs) ++ take (past - middle) ys) (drop-drop (middle - from) from xs ∙ ap (λ (n : ℕ). drop n xs) there)

-- the gaps of parts one behind another are those of all vertices
pub parts_found : {V : Type 0} (items : V → List (Option Gap)) (ds : List DirectedEdge) (vertices : List Pt) (parts : List Part) (lists : List V) → ArePartsOf 0 (length vertices) parts
    → AllZip (λ (p : Part) v. AreGapsBelow ds (slice_range vertices p.from p.past) (items v)) parts lists → AreGapsBelow ds vertices (flat_map items lists)
parts_found items ds vertices parts lists are zip =
    let n = length vertices in
    let all : n - 0 ≡ n = omega arith in
    subst (λ (vs : List Pt). AreGapsBelow ds vs (flat_map items lists)) (ap (λ (m : ℕ). take m vertices) all ∙ take_all n vertices (omega arith))
    (behind_one_another items (λ a b gaps. AreGapsBelow ds (slice_range vertices a b) gaps) (none_found ds vertices)
    (λ a b c gaps more p q f g. subst (λ (vs : List Pt). AreGapsBelow ds vs (gaps ++ more)) (sym (both_ranges vertices a b c p q)) (one_behind ds (slice_range vertices a b) (slice_range vertices b c) gaps more f g)) 0 n parts lists are zip)
