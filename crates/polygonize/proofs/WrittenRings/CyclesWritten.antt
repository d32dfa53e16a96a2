-- What is known once the rings of some cycles are written, and that one more ring keeps it.
use Rattle.std.proofs.Common.{◌≡◌, ◌⊎◌, ℕ, ◌+◌, ◌<◌, ◌≤◌, Bool, List, [], ◌∷◌, ◌++◌, length, map, get_or, refl, sym, ◌∙◌, ap, subst, inl, inr, arith, Option, Some, None}
use Rattle.std.specs.Prelude.{All, Contains, flat_map, is_some, unwrap_or}
use Rattle.std.proofs.lemmas.Bool.{cases_eq, cases_lt}
use Rattle.std.proofs.lemmas.List.{get_or-map, length-map}
use Rattle.std.proofs.lemmas.List.Elements.{All-contains, All-contains_itself, All-get_or, All-weaker, Contains-get_or}
use Rattle.geom.specs.declared.point.Pt.{Pt}
use Rattle.geom.specs.declared.directed.DirectedEdge.{DirectedEdge}
use Rattle.geom.specs.Canonical.{IsFirstPiece}
use Rattle.geom.specs.Directed.{AreDirected}
use Rattle.geom.specs.Holes.{AreGrounded, IsHole, IsLeastVertex, IsNearestBelow, IsOwner, left_of}
use Rattle.geom.specs.Holes.IsOwner.{itself, below}
use Rattle.geom.specs.ListOrder.{IsListBefore, IsLeastRotation}
use Rattle.geom.specs.NodedEdges.{AreNodedEdges}
use Rattle.geom.specs.Order.{IsBefore}
use Rattle.geom.specs.Rings.{ring_edges, AreRings, Closes, IsCut}
use Rattle.geom.proofs.Lists.{In, contains_in, in_contains, in_map, map_in}
use Rattle.geom.proofs.OneOwner.{one_nearest}
use Rattle.geom.proofs.OneRing.{directed_simple, one_ring}
use Rattle.geom.proofs.Orders.{before_trans}
use Rattle.geom.proofs.RingEdges.{flat_in, in_permutation}
use Rattle.geom.proofs.Owners.{ends_on, starts_on}
use Rattle.geom.proofs.SameRings.{split_at}
use Rattle.polygonize.specs.declared.written.Opening.{Opening}
use Rattle.polygonize.specs.Next.{nothing, edge_at, ring_of, rings_of}
use Rattle.polygonize.specs.Owning.{IsOwnerFound, IsRingPlaced}
use Rattle.polygonize.specs.Placed.{PlacedRing, opening_of, IsPlaced, IsShellWritten, IsWrittenAmong, AreWritten, rings_in}
use Rattle.polygonize.specs.Written.{ArePlaces, HasItsEdges, HaveEdges, IsCanonical}
use Rattle.polygonize.proofs.TextOrder.Entries.{owner_of}
use Rattle.polygonize.proofs.WrittenRings.Writing.{unmapped}
use Rattle.polygonize.proofs.Holes.{least_point}
use Rattle.polygonize.proofs.WrittenRings.Keeping.{kept_or_as_before}
use Rattle.polygonize.proofs.WrittenRings.Owning.{Law, among, index_of, law_of_hole, law_of_shell, placed, ring_cut, shell_written}

-- ---- orders
head_least : (r : List Pt) → IsLeastRotation r r → (p d : Pt) → In p r → ¬ (IsBefore p (get_or r 0 d))
head_least [] l p d i h = i
head_least (x ∷ xs) l p d i h = let s = split_at p (x ∷ xs) i in l.none_less ((p ∷ s.back) ++ s.front) (record { front = s.front; back = p ∷ s.back; was = s.is; is = refl }) (inl h)

heads : (r s : List Pt) (p d : Pt) → IsListBefore r s → 0 < length r → IsBefore p (get_or r 0 d) → IsBefore p (get_or s 0 d)
heads [] s p d l h b = absurd (omega arith)
heads (x ∷ xs) [] p d l h b = absurd l
heads (x ∷ xs) (y ∷ ys) p d (inl l) h b = before_trans p x y b l
heads (x ∷ xs) (y ∷ ys) p d (inr l) h b = let P : Pt → Type 0 = IsBefore p in subst P l.0 b

one_number : (ds : List DirectedEdge) → AreDirected ds → (j k : ℕ) → j < length ds → k < length ds → edge_at ds j ≡ edge_at ds k → j ≡ k
one_number ds a j k h l e = elim (cases_lt j k) [
  | inl m ↦ absurd (directed_simple ds a j k nothing m l e)
  | inr m ↦ elim (cases_lt k j) [ inl n ↦ absurd (directed_simple ds a k j nothing n h (sym e)) | inr n ↦ omega (arith, m, n) ]
]

-- ---- what is known
pub record AreFilled (ds : List DirectedEdge) (cycles : List (List ℕ)) (i : ℕ) (shell_of : List (Option Opening)) (ws : List PlacedRing) : Type 0 where
  pub placed : (w : PlacedRing) → Contains ws w → IsPlaced ds (map (ring_of ds) cycles) w
  pub each : (j : ℕ) → j < i → (qs : List (List Pt)) → IsCut (ring_of ds (get_or cycles j [])) qs → (piece : List Pt) → Contains qs piece → IsWrittenAmong ds ws piece
  pub shells : (j : ℕ) → j < i → (k : ℕ) → Contains (get_or cycles j []) k → (shell : List Pt) × (first : List ℕ) × (get_or shell_of k None ≡ Some (opening_of first)) × IsOwner ds (map (ring_of ds) cycles) (ring_of ds (get_or cycles j [])) shell × IsShellWritten ds shell first

pub nothing_filled : (ds : List DirectedEdge) (cycles : List (List ℕ)) (shell_of : List (Option Opening)) → AreFilled ds cycles 0 shell_of []
nothing_filled ds cycles shell_of = record { placed = λ w c. absurd (contains_in [] w c); each = λ j h. absurd (omega arith); shells = λ j h. absurd (omega arith) }

module _ (ds : List DirectedEdge) (closes : Closes ds) (noded : AreNodedEdges ds) (cycles : List (List ℕ)) (are : AreRings ds (map (ring_of ds) cycles)) (grounded : AreGrounded ds (map (ring_of ds) cycles))
    (edges : All (HasItsEdges ds) cycles) (inside : All (λ c. All (λ k. k < length ds) c) cycles) where
  rings : List (List Pt)
  rings = map (ring_of ds) cycles

  cycle_at : (j : ℕ) → j < length cycles → Contains (map (ring_of ds) cycles) (ring_of ds (get_or cycles j []))
  cycle_at j h = in_contains (map (ring_of ds) cycles) (ring_of ds (get_or cycles j [])) (map_in (ring_of ds) cycles (get_or cycles j []) (contains_in cycles (get_or cycles j []) (Contains-get_or cycles j [] h)))

  edge_in : (j : ℕ) → j < length cycles → (k : ℕ) → Contains (get_or cycles j []) k → Contains (ring_edges (ring_of ds (get_or cycles j []))) (edge_at ds k)
  edge_in j h k c = let P : List DirectedEdge → Type 0 = λ t. Contains t (edge_at ds k) in
      subst P (sym (All-get_or (HasItsEdges ds) cycles j [] h edges)) (in_contains (map (edge_at ds) (get_or cycles j [])) (edge_at ds k) (map_in (edge_at ds) (get_or cycles j []) k (contains_in (get_or cycles j []) k c)))

  -- the cycle of an edge
  record Found (k : ℕ) : Type 0 where
    pub j : ℕ
    pub low : j < length cycles
    pub has : Contains (get_or cycles j []) k

  found : (k : ℕ) → k < length ds → Found k
  found k h = record { j = n.0; low = n.1; has = (let P : List ℕ → Type 0 = λ t. Contains t k in subst P (sym n.2) (in_contains m.0 k (let Q : ℕ → Type 0 = λ t. In t m.0 in subst Q number q.1))) }
    where
      f : (r : List Pt) × In r (map (ring_of ds) cycles) × In (edge_at ds k) (ring_edges r)
      f = flat_in ring_edges (map (ring_of ds) cycles) (edge_at ds k) (in_permutation ds (flat_map ring_edges (map (ring_of ds) cycles)) (edge_at ds k) are.together (contains_in ds (edge_at ds k) (Contains-get_or ds k nothing h)))

      m : (c : List ℕ) × In c cycles × (ring_of ds c ≡ f.0)
      m = in_map (ring_of ds) cycles f.0 f.1

      n : (j : ℕ) × (j < length cycles) × (get_or cycles j [] ≡ m.0)
      n = index_of cycles m.0 [] m.1

      own : HasItsEdges ds m.0
      own = All-contains (HasItsEdges ds) cycles m.0 edges (in_contains cycles m.0 m.1)

      q : (x : ℕ) × In x m.0 × (edge_at ds x ≡ edge_at ds k)
      q = in_map (edge_at ds) m.0 (edge_at ds k) (let P : List DirectedEdge → Type 0 = In (edge_at ds k) in subst P (ap ring_edges (sym m.2) ∙ own) f.2)

      number : q.0 ≡ k
      number = one_number ds closes.are_directed q.0 k (All-contains (λ x. x < length ds) m.0 q.0 (All-contains (λ c. All (λ x. x < length ds) c) cycles m.0 inside (in_contains cycles m.0 m.1)) (in_contains m.0 q.0 q.1)) h q.2

  module _ (i : ℕ) (low : i < length cycles) (shells_old shells_new : List (Option Opening)) (old new : List PlacedRing) (f : AreFilled ds cycles i shells_old old) (r : IsRingPlaced ds (get_or cycles i []) shells_old shells_new old new) where
    on : Contains (map (ring_of ds) cycles) (ring_of ds r.ring)
    on = let P : List Pt → Type 0 = Contains (map (ring_of ds) cycles) in subst P (sym r.same) (cycle_at i low)

    least : IsLeastVertex (ring_of ds r.ring) (edge_at ds (get_or r.ring 0 0)).from
    least = least_point ds closes.are_directed r.ring r.vertices r.least_first r.some

    -- a ring that reaches further left than this one comes earlier
    earlier : (j : ℕ) → j < length cycles → (p : Pt) → In p (ring_of ds (get_or cycles j [])) → IsBefore p (edge_at ds (get_or r.ring 0 0)).from → j < i
    earlier j h p c b = elim (cases_lt j i) [
      | inl l ↦ l
      | inr l ↦ elim (cases_eq i j) [
        | inl e ↦ absurd (All-contains (λ q. ¬ (IsBefore q (edge_at ds (get_or r.ring 0 0)).from)) (ring_of ds r.ring) p least.least
            (in_contains (ring_of ds r.ring) p (let P : List Pt → Type 0 = In p in subst P (ap (λ t. ring_of ds (get_or cycles t [])) (sym e) ∙ sym r.same) c)) b)
        | inr n ↦ absurd (head_least (ring_of ds (get_or cycles j [])) (All-contains (λ t. IsLeastRotation t t) (map (ring_of ds) cycles) (ring_of ds (get_or cycles j [])) are.least (cycle_at j h)) p nothing.from c
            (heads (ring_of ds (get_or cycles i [])) (ring_of ds (get_or cycles j [])) p nothing.from (ascends (over i j l n)) some_points head))
      ]
    ]
      where
        over : (i j : ℕ) → i ≤ j → ¬ (i ≡ j) → i < j
        over i j l n = omega arith

        ascends : i < j → IsListBefore (ring_of ds (get_or cycles i [])) (ring_of ds (get_or cycles j []))
        ascends l = let e = length-map cycles (ring_of ds) in
            let P : List Pt → Type 0 = λ t. IsListBefore t (ring_of ds (get_or cycles j [])) in subst P (get_or-map (ring_of ds) cycles i [] [] low)
            (let Q : List Pt → Type 0 = IsListBefore (get_or (map (ring_of ds) cycles) i []) in subst Q (get_or-map (ring_of ds) cycles j [] [] h) (are.ascending i j [] l (omega (arith, e, h))))

        some_points : 0 < length (ring_of ds (get_or cycles i []))
        some_points = let P : List Pt → Type 0 = λ t. 0 < length t in subst P r.same (let e = length-map r.ring (λ k. (edge_at ds k).from) in let s = r.some in omega (arith, e, s))

        head : IsBefore p (get_or (ring_of ds (get_or cycles i [])) 0 nothing.from)
        head = let P : Pt → Type 0 = IsBefore p in subst P (sym (get_or-map (λ k. (edge_at ds k).from) r.ring 0 0 nothing.from r.some) ∙ ap (λ t. get_or t 0 nothing.from) r.same) b

    -- ---- whose ring it is
    record IsOwned : Type 0 where
      pub shell : List Pt
      pub firsts : List ℕ
      pub owner : IsOwner ds (map (ring_of ds) cycles) (ring_of ds r.ring) shell
      pub is_first : IsShellWritten ds shell firsts
      pub opening : r.shell ≡ opening_of firsts
      pub law : Law ds closes noded (map (ring_of ds) cycles) are r.ring r.some r.vertices r.least_first on r.pieces r.cut r.sound (is_some r.owner) r.first firsts

    owned_below : (k : ℕ) → k < length ds → IsHole (ring_of ds r.ring) → IsNearestBelow ds (left_of (edge_at ds (get_or r.ring 0 0)).from) (edge_at ds k) → r.owner ≡ get_or shells_old k None → IsOwned
    owned_below k l h d e = record {
      shell = s.0;
      firsts = s.1;
      owner = owner;
      is_first = s.4;
      opening = r.written.shell_is ∙ ap (λ o. unwrap_or o (opening_of (get_or r.pieces r.first []))) some;
      law = let P : Bool → Type 0 = λ b. Law ds closes noded (map (ring_of ds) cycles) are r.ring r.some r.vertices r.least_first on r.pieces r.cut r.sound b r.first s.1 in
          subst P (sym (ap is_some some)) (law_of_hole ds closes noded (map (ring_of ds) cycles) are r.ring r.some r.vertices r.least_first on r.pieces r.cut r.sound r.first s.0 s.1 h owner s.4);
    }
      where
        v : Pt
        v = (edge_at ds (get_or r.ring 0 0)).from

        g : (d : DirectedEdge) × IsNearestBelow ds (left_of v) d × (IsBefore d.from v ⊎ IsBefore d.to v)
        g = grounded (ring_of ds r.ring) on h v least

        left : IsBefore (edge_at ds k).from v ⊎ IsBefore (edge_at ds k).to v
        left = let P : DirectedEdge → Type 0 = λ t. IsBefore t.from v ⊎ IsBefore t.to v in subst P (one_nearest ds closes.are_directed noded v g.0 (edge_at ds k) g.1 d) g.2

        c : Found k
        c = found k l

        edge : Contains (ring_edges (ring_of ds (get_or cycles c.j []))) (edge_at ds k)
        edge = edge_in c.j c.low k c.has

        before : c.j < i
        before = elim left [
          | inl b ↦ earlier c.j c.low (edge_at ds k).from (starts_on (ring_of ds (get_or cycles c.j [])) (edge_at ds k) (contains_in (ring_edges (ring_of ds (get_or cycles c.j []))) (edge_at ds k) edge)) b
          | inr b ↦ earlier c.j c.low (edge_at ds k).to (ends_on (ring_of ds (get_or cycles c.j [])) (edge_at ds k) (contains_in (ring_edges (ring_of ds (get_or cycles c.j []))) (edge_at ds k) edge)) b
        ]

        s : (shell : List Pt) × (first : List ℕ) × (get_or shells_old k None ≡ Some (opening_of first)) × IsOwner ds (map (ring_of ds) cycles) (ring_of ds (get_or cycles c.j [])) shell × IsShellWritten ds shell first
        s = f.shells c.j before k c.has

        some : r.owner ≡ Some (opening_of s.1)
        some = e ∙ s.2

        owner : IsOwner ds (map (ring_of ds) cycles) (ring_of ds r.ring) s.0
        owner = below v (edge_at ds k) (ring_of ds (get_or cycles c.j [])) on h least d (cycle_at c.j c.low) edge s.3

    owned : IsOwnerFound ds r.ring shells_old r.owner → IsOwned
    owned (inl (s, e)) = record {
      shell = ring_of ds r.ring;
      firsts = get_or r.pieces r.first [];
      owner = itself on s;
      is_first = shell_written ds closes noded (map (ring_of ds) cycles) are r.ring r.some r.vertices r.least_first on r.pieces r.cut r.sound r.first r.inside first;
      opening = r.written.shell_is ∙ ap (λ o. unwrap_or o (opening_of (get_or r.pieces r.first []))) e;
      law = let P : Bool → Type 0 = λ b. Law ds closes noded (map (ring_of ds) cycles) are r.ring r.some r.vertices r.least_first on r.pieces r.cut r.sound b r.first (get_or r.pieces r.first []) in
          subst P (sym (ap is_some e)) (law_of_shell ds closes noded (map (ring_of ds) cycles) are r.ring r.some r.vertices r.least_first on r.pieces r.cut r.sound r.first r.inside first);
    }
      where
        first : IsFirstPiece (ring_of ds r.ring) (ring_of ds (get_or r.pieces r.first []))
        first = r.is_first r.ring closes (ring_cut ds closes noded (map (ring_of ds) cycles) are r.ring r.some r.vertices r.least_first on r.pieces r.cut r.sound)
    owned (inr (inl (b, h, e))) = owned_below b h.inside h.is_hole h.nearest e
    owned (inr (inr (h, _))) = absurd (let g = grounded (ring_of ds r.ring) on h.is_hole (edge_at ds (get_or r.ring 0 0)).from least in h.none g.1.edge g.1.below)

    pub filled : AreFilled ds cycles (i + 1) shells_new new
    filled = record {
      placed = λ w c. elim (r.written.all.only w c) [
        | inl b ↦ f.placed w b
        | inr b ↦ placed ds closes noded (map (ring_of ds) cycles) are r.ring r.some r.vertices r.least_first on r.pieces r.cut r.sound o.shell o.firsts o.owner o.is_first r.shell o.opening (is_some r.owner) r.first o.law b.0 b.1 w b.2
      ];
      each = λ j h qs c piece p. elim (cases_lt j i) [
        | inl l ↦ let b = f.each j l qs c piece p in record { placed = b.placed; inside = r.written.all.kept b.placed b.inside; least = b.least }
        | inr l ↦ among ds closes noded (map (ring_of ds) cycles) are r.ring r.some r.vertices r.least_first on r.pieces r.cut r.sound r.shell (is_some r.owner) r.first old new r.written.all qs
            (let P : List Pt → Type 0 = λ t. IsCut t qs in subst P (ap (λ t. ring_of ds (get_or cycles t [])) (this j h l) ∙ sym r.same) c) piece p
      ];
      shells = λ j h k c. elim (cases_lt j i) [
        | inl l ↦ elim (kept_or_as_before (get_or cycles i []) r.shell shells_old shells_new r.kept k) [
          | inl e ↦ let b = f.shells j l k c in (b.0, b.1, e ∙ b.2, b.3, b.4)
          | inr b ↦ (
            o.shell,
            o.firsts,
            b.1 ∙ ap Some o.opening,
            (let P : List Pt → Type 0 = λ t. IsOwner ds (map (ring_of ds) cycles) t o.shell in
                subst P (r.same ∙ one_ring ds (map (ring_of ds) cycles) closes.are_directed are (ring_of ds (get_or cycles i [])) (ring_of ds (get_or cycles j [])) (edge_at ds k) (cycle_at i low) (cycle_at j (under j l)) (edge_in i low k b.0) (edge_in j (under j l) k c)) o.owner),
            o.is_first,
          )
        ]
        | inr l ↦ (
          o.shell,
          o.firsts,
          r.kept.kept k (let P : ℕ → Type 0 = λ t. Contains (get_or cycles t []) k in subst P (this j h l) c) ∙ ap Some o.opening,
          (let P : List Pt → Type 0 = λ t. IsOwner ds (map (ring_of ds) cycles) t o.shell in subst P (r.same ∙ ap (λ t. ring_of ds (get_or cycles t [])) (sym (this j h l))) o.owner),
          o.is_first,
        )
      ];
    }
      where
        o : IsOwned
        o = owned r.found

        this : (j : ℕ) → j < i + 1 → i ≤ j → j ≡ i
        this j h l = omega arith

        under : (j : ℕ) → j < i → j < length cycles
        under j l = omega (arith, low, l)

-- ---- the loop over the cycles
pub next_filled : (ds : List DirectedEdge) → Closes ds → AreNodedEdges ds → (cycles : List (List ℕ)) → AreRings ds (rings_of ds cycles) → AreGrounded ds (rings_of ds cycles) → All (HasItsEdges ds) cycles → All (ArePlaces ds) cycles
    → (i : ℕ) (cycle : List ℕ) (shells_old shells_new : List (Option Opening)) (old new : List PlacedRing) → i < length cycles → cycle ≡ get_or cycles i [] → IsRingPlaced ds cycle shells_old shells_new old new
    → AreFilled ds cycles i shells_old old → AreFilled ds cycles (i + 1) shells_new new
next_filled ds c n cycles are grounded e p i cycle so sn old new low k r f = filled ds c n cycles are grounded e (All-weaker (ArePlaces ds) (λ c. All (λ k. k < length ds) c) (λ c q. q.inside) cycles p)
    i low so sn old new f (let P : List ℕ → Type 0 = λ t. IsRingPlaced ds t so sn old new in subst P k r)

pub all_filled : (ds : List DirectedEdge) (cycles : List (List ℕ)) (i : ℕ) (shell_of : List (Option Opening)) (ws : List PlacedRing) → AreRings ds (rings_of ds cycles) → length cycles ≤ i → HaveEdges ds (rings_in ws) → All (IsCanonical ds) (rings_in ws)
    → AreFilled ds cycles i shell_of ws → AreWritten ds (rings_of ds cycles) ws
all_filled ds cycles i shell_of ws are l e c f = record {
  are_rings = are;
  placed = All-weaker (Contains ws) (IsPlaced ds (rings_of ds cycles)) (λ w h. f.placed w h) ws (All-contains_itself ws);
  each = λ ring shell o pieces k piece h.
      let m = in_map (ring_of ds) cycles ring (contains_in (rings_of ds cycles) ring (owner_of o)) in
      let n = index_of cycles m.0 [] m.1 in
      f.each n.0 (let u = n.1 in omega (arith, u, l)) pieces (let P : List Pt → Type 0 = λ t. IsCut t pieces in subst P (sym (ap (ring_of ds) n.2 ∙ m.2)) k) piece h;
  canonical = unmapped (IsCanonical ds) (λ w. w.ring) ws c;
  edges = e;
}
