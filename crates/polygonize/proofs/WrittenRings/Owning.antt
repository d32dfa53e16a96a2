-- What the pieces of one ring add to the written rings: each is placed under the shell that owns the ring.
use Rattle.std.proofs.Common.{◌≡◌, ◌≢◌, ℕ, zero, suc, ◌<◌, ◌≤◌, Bool, true, false, List, [], ◌∷◌, length, map, get_or, refl, sym, ◌∙◌, ap, subst, inl, inr, arith}
use Rattle.std.specs.Prelude.{All, Contains, flat_map, ◌↔◌}
use Rattle.std.proofs.lemmas.List.{map-append}
use Rattle.std.proofs.lemmas.List.Elements.{All-get_or, All-contains, Contains-get_or}
use Rattle.std.proofs.lemmas.List.Sorted.{IsPermutation-sym}
use Rattle.geom.specs.declared.point.Pt.{Pt}
use Rattle.geom.specs.declared.directed.DirectedEdge.{DirectedEdge}
use Rattle.geom.specs.Canonical.{IsFirstPiece}
use Rattle.geom.specs.Directed.{from_to, AreDirected}
use Rattle.geom.specs.Holes.{IsHole, IsOwner}
use Rattle.geom.specs.ListOrder.{IsLeastRotation, IsRotation}
use Rattle.geom.specs.NodedEdges.{AreNodedEdges}
use Rattle.geom.specs.Rings.{ring_edges, AreRings, Closes, IsCut}
use Rattle.geom.proofs.Lists.{In, contains_in, in_contains, in_map, map_in}
use Rattle.geom.proofs.OneRing.{one_least_vertex, ring_simple, simple_permutation}
use Rattle.geom.proofs.OneRotation.{rotation_back, rotation_trans}
use Rattle.geom.proofs.RingEdges.{cut_edges, in_flat, in_permutation}
use Rattle.geom.proofs.Owners.{ends_on}
use Rattle.polygonize.specs.declared.written.Opening.{Opening}
use Rattle.polygonize.specs.Next.{edge_at, ring_of}
use Rattle.polygonize.specs.Number.{IsVertex}
use Rattle.polygonize.specs.Piece.{IsRingCut}
use Rattle.polygonize.specs.Owning.{IsPieceWritten, AreWrittenUnder}
use Rattle.polygonize.specs.Placed.{PlacedRing, opening_of, IsPlaced, IsShellWritten, IsWrittenAmong}
use Rattle.polygonize.specs.Written.{IsCanonical, IsSound, IsTurned}
use Rattle.polygonize.proofs.TextOrder.Assembled.{are_one}
use Rattle.polygonize.proofs.RingPieces.Beginnings.{BeginsWith, holders_begin}
use Rattle.polygonize.proofs.TextOrder.Entries.{AreOne, one_whole, owner_inside, owner_shell}
use Rattle.polygonize.proofs.Holes.{least_point}
use Rattle.polygonize.proofs.Least.{own_least}
use Rattle.polygonize.proofs.RingPieces.Mapping.{cut_all}
use Rattle.polygonize.proofs.Numbers.{same_vertex}
use Rattle.polygonize.proofs.TextOrder.Openings.{first_edge, first_inside, same_numbers}
use Rattle.polygonize.proofs.TextOrder.Places.{pairs_ascend}
use Rattle.polygonize.proofs.Sorted.{Ascend, ascend_across, ascend_right}
use Rattle.polygonize.proofs.WrittenRings.Turning.{turned_edges, turned_sound}
use Rattle.polygonize.proofs.WrittenRings.Writing.{pieces_of_points}

-- ---- lists
pub index_of : {X : Type 0} (xs : List X) (x d : X) → In x xs → (k : ℕ) × (k < length xs) × (get_or xs k d ≡ x)
index_of [] x d i = absurd i
index_of (y ∷ ys) x d (inl e) = (0, omega arith, e)
index_of (y ∷ ys) x d (inr i) = let c = index_of ys x d i in (suc c.0, (let l = c.1 in omega arith), c.2)

at_in : {X : Type 0} (xs : List X) (k : ℕ) (d : X) → k < length xs → In (get_or xs k d) xs
at_in xs k d h = contains_in xs (get_or xs k d) (Contains-get_or xs k d h)

-- what stands in the lists of two elements stands in one
two_places : {X Y Z : Type 0} (f : Y → List Z) (g : X → Y) (xs : List X) → Ascend (λ y z. y ≢ z) (flat_map f (map g xs)) → (k m : ℕ) (d : X) → k < length xs → m < length xs → (z : Z) → In z (f (g (get_or xs k d))) → In z (f (g (get_or xs m d))) → k ≡ m
two_places f g [] a k m d h l z i j = absurd (omega arith)
two_places f g (x ∷ xs) a zero zero d h l z i j = refl
two_places f g (x ∷ xs) a zero (suc m) d h l z i j = absurd (ascend_across (λ y z. y ≢ z) (f (g x)) (flat_map f (map g xs)) a z z i (in_flat f (map g xs) (g (get_or xs m d)) z (map_in g xs (get_or xs m d) (at_in xs m d (omega (arith, l)))) j) refl)
two_places f g (x ∷ xs) a (suc k) zero d h l z i j = absurd (ascend_across (λ y z. y ≢ z) (f (g x)) (flat_map f (map g xs)) a z z j (in_flat f (map g xs) (g (get_or xs k d)) z (map_in g xs (get_or xs k d) (at_in xs k d (omega (arith, h)))) i) refl)
two_places f g (x ∷ xs) a (suc k) (suc m) d h l z i j = ap suc (two_places f g xs (ascend_right (λ y z. y ≢ z) (f (g x)) (flat_map f (map g xs)) a) k m d (omega (arith, h)) (omega (arith, l)) z i j)

module _ (ds : List DirectedEdge) (closes : Closes ds) (noded : AreNodedEdges ds) (rings : List (List Pt)) (are : AreRings ds rings) where
  a : AreDirected ds
  a = closes.are_directed

  one : AreOne ds rings
  one = are_one ds rings closes.are_directed noded are

  -- ---- a piece begun at its least vertex
  least_turned : (piece turned : List ℕ) → IsSound ds piece → IsTurned piece turned → IsLeastRotation (ring_of ds piece) (ring_of ds turned)
  least_turned piece turned s t = record { rotation = rotation; none_less = λ other r. own.none_less other (rotation_trans (ring_of ds turned) (ring_of ds piece) other (rotation_back (ring_of ds piece) (ring_of ds turned) rotation) r) }
    where
      own : IsLeastRotation (ring_of ds turned) (ring_of ds turned)
      own = own_least ds a turned (turned_sound ds piece turned t s) t.least

      rotation : IsRotation (ring_of ds piece) (ring_of ds turned)
      rotation = record {
        front = ring_of ds t.front;
        back = ring_of ds t.back;
        was = ap (ring_of ds) t.was ∙ map-append (λ i. (edge_at ds i).from) t.front t.back;
        is = ap (ring_of ds) t.is ∙ map-append (λ i. (edge_at ds i).from) t.back t.front;
      }

  itself_turned : (piece turned : List ℕ) → IsCanonical ds piece → IsTurned piece turned → turned ≡ piece
  itself_turned piece turned c t = same_numbers ds turned piece (turned_sound ds piece turned t c.sound).vertices c.sound.vertices
      (one.rotation (ring_of ds piece) (ring_of ds turned) (ring_of ds piece) (least_turned piece turned c.sound t) (own_least ds a piece c.sound c.least))

  module _ (ring : List ℕ) (some : 0 < length ring) (vertices : All (IsVertex ds) ring) (lowest : All (λ k. get_or ring 0 0 ≤ k) ring) (on : Contains rings (ring_of ds ring)) (pieces : List (List ℕ)) (cut : IsCut ring pieces) (sound : All (IsSound ds) pieces) where
    sound_at : (k : ℕ) → k < length pieces → IsSound ds (get_or pieces k [])
    sound_at k h = All-get_or (IsSound ds) pieces k [] h sound

    point_cut : IsCut (ring_of ds ring) (map (ring_of ds) pieces)
    point_cut = pieces_of_points ds ring pieces vertices cut

    piece_in : (k : ℕ) → k < length pieces → Contains (map (ring_of ds) pieces) (ring_of ds (get_or pieces k []))
    piece_in k h = in_contains (map (ring_of ds) pieces) (ring_of ds (get_or pieces k [])) (map_in (ring_of ds) pieces (get_or pieces k []) (at_in pieces k [] h))

    one_place : (k m : ℕ) → k < length pieces → m < length pieces → (d : DirectedEdge) → In d (ring_edges (ring_of ds (get_or pieces k []))) → In d (ring_edges (ring_of ds (get_or pieces m []))) → k ≡ m
    one_place k m h l d i j = two_places ring_edges (ring_of ds) pieces (pairs_ascend (λ y z. y ≢ z) (flat_map ring_edges (map (ring_of ds) pieces)) (simple_permutation (ring_edges (ring_of ds ring)) (flat_map ring_edges (map (ring_of ds) pieces)) (cut_edges point_cut) (ring_simple ds rings a.ascending are (ring_of ds ring) on)))
        k m [] h l d i j

    pub ring_cut : IsRingCut ds (get_or ring 0 0) ring pieces
    ring_cut = record {
      some = some;
      begins = refl;
      vertices = vertices;
      least_first = lowest;
      among = λ d c. in_contains ds d (in_permutation (flat_map ring_edges rings) ds d (IsPermutation-sym _ _ are.together) (in_flat ring_edges rings (ring_of ds ring) d (contains_in rings (ring_of ds ring) on) (contains_in (ring_edges (ring_of ds ring)) d c)));
      cut = cut;
    }

    -- ---- the first piece begins where the ring does
    first_canonical : (first : ℕ) → first < length pieces → IsFirstPiece (ring_of ds ring) (ring_of ds (get_or pieces first [])) → IsCanonical ds (get_or pieces first [])
    first_canonical first h f = record { sound = sound_at first h; least = least }
      where
        begin : BeginsWith (get_or ring 0 0) ring
        begin = parts ring some
          where
            parts : (xs : List ℕ) → 0 < length xs → BeginsWith (get_or xs 0 0) xs
            parts [] h = absurd (omega arith)
            parts (x ∷ xs) h = record { rest = xs; is = refl }

        at_is : f.at ≡ (edge_at ds (get_or ring 0 0)).from
        at_is = one_least_vertex (ring_of ds ring) f.at (edge_at ds (get_or ring 0 0)).from f.least (least_point ds a ring vertices lowest some)

        held : (n : ℕ) × In n (get_or pieces first []) × ((edge_at ds n).from ≡ f.at)
        held = in_map (λ n. (edge_at ds n).from) (get_or pieces first []) f.at (ends_on (ring_of ds (get_or pieces first [])) (from_to f.from f.at) (contains_in (ring_edges (ring_of ds (get_or pieces first []))) (from_to f.from f.at) f.arrives))

        vertex_of : (xs : List ℕ) → All (IsVertex ds) xs → (n : ℕ) → In n xs → IsVertex ds n
        vertex_of xs v n i = All-contains (IsVertex ds) xs n v (in_contains xs n i)

        number_is : held.0 ≡ get_or ring 0 0
        number_is = same_vertex ds held.0 (get_or ring 0 0) (vertex_of (get_or pieces first []) (sound_at first h).vertices held.0 held.1) (vertex_of ring vertices (get_or ring 0 0) (at_in ring 0 0 some)) (held.2 ∙ at_is)

        begins : BeginsWith (get_or ring 0 0) (get_or pieces first [])
        begins = holders_begin cut (get_or ring 0 0) begin (get_or pieces first []) (at_in pieces first [] h) (let P : ℕ → Type 0 = λ n. In n (get_or pieces first []) in subst P number_is held.1)

        above : All (λ k. get_or ring 0 0 ≤ k) (get_or pieces first [])
        above = All-get_or (All (λ k. get_or ring 0 0 ≤ k)) pieces first [] h (cut_all (λ k. get_or ring 0 0 ≤ k) cut lowest)

        least : All (λ k. get_or (get_or pieces first []) 0 0 ≤ k) (get_or pieces first [])
        least = let P : ℕ → Type 0 = λ n. All (λ k. n ≤ k) (get_or pieces first []) in subst P (sym (ap (λ t. get_or t 0 0) begins.is)) above

    pub shell_written : (first : ℕ) → first < length pieces → IsFirstPiece (ring_of ds ring) (ring_of ds (get_or pieces first [])) → IsShellWritten ds (ring_of ds ring) (get_or pieces first [])
    shell_written first h f = let c = first_canonical first h f in record { pieces = map (ring_of ds) pieces; cut = point_cut; piece = ring_of ds (get_or pieces first []); one = piece_in first h; is_first = f; least = own_least ds a (get_or pieces first []) c.sound c.least; canonical = c }

    -- ---- which of the pieces is written as the shell
    turned_edge : (k : ℕ) → k < length pieces → (w : List ℕ) → IsTurned (get_or pieces k []) w → In (first_edge ds (opening_of w)) (ring_edges (ring_of ds (get_or pieces k [])))
    turned_edge k h w t = in_permutation (ring_edges (ring_of ds w)) (ring_edges (ring_of ds (get_or pieces k []))) (first_edge ds (opening_of w)) (IsPermutation-sym _ _ (turned_edges ds (get_or pieces k []) w t)) (first_inside ds w (turned_sound ds (get_or pieces k []) w t (sound_at k h)).long)

    abbrev pub Law : Bool → ℕ → List ℕ → Type 0
    Law owned first firsts = (k : ℕ) → k < length pieces → (w : List ℕ) → IsTurned (get_or pieces k []) w → ((owned ≡ false) × (k ≡ first)) ↔ (w ≡ firsts)

    pub law_of_shell : (first : ℕ) → first < length pieces → IsFirstPiece (ring_of ds ring) (ring_of ds (get_or pieces first [])) → Law false first (get_or pieces first [])
    law_of_shell first h f = λ k l w t. (
      (λ e. itself_turned (get_or pieces first []) w (first_canonical first h f) (let P : ℕ → Type 0 = λ n. IsTurned (get_or pieces n []) w in subst P e.1 t)),
      (λ e. (
        refl,
        one_place k first l h (first_edge ds (opening_of w)) (turned_edge k l w t)
            (let P : List ℕ → Type 0 = λ p. In (first_edge ds (opening_of w)) (ring_edges (ring_of ds p)) in subst P e (first_inside ds w (turned_sound ds (get_or pieces k []) w t (sound_at k l)).long)),
      )),
    )

    pub law_of_hole : (first : ℕ) (shell : List Pt) (firsts : List ℕ) → IsHole (ring_of ds ring) → IsOwner ds rings (ring_of ds ring) shell → IsShellWritten ds shell firsts → Law true first firsts
    law_of_hole first shell firsts hole o s = λ k l w t. (
      (λ e. absurd (let z : true ≡ false = e.0 in cc)),
      (λ e. absurd (not_shell (one_whole ds rings one (ring_of ds ring) shell on (owner_inside o) (map (ring_of ds) pieces) s.pieces point_cut s.cut (ring_of ds (get_or pieces k [])) s.piece (piece_in k l) s.one w (turned_sound ds (get_or pieces k []) w t (sound_at k l)).long
          (least_turned (get_or pieces k []) w (sound_at k l) t) (let P : List ℕ → Type 0 = λ p. IsLeastRotation s.piece (ring_of ds p) in subst P (sym e) s.least)))),
    )
      where
        not_shell : ring_of ds ring ≡ shell → ⊥
        not_shell e = owner_shell o (let P : List Pt → Type 0 = IsHole in subst P e hole)

    -- ---- what was written
    pub placed : (shell : List Pt) (firsts : List ℕ) → IsOwner ds rings (ring_of ds ring) shell → IsShellWritten ds shell firsts → (o : Opening) → o ≡ opening_of firsts → (owned : Bool) (first : ℕ) → Law owned first firsts
        → (k : ℕ) → k < length pieces → (w : PlacedRing) → IsPieceWritten o owned first k (get_or pieces k []) w → IsPlaced ds rings w
    placed shell firsts own s o e owned first law k h w p = record {
      shell = shell;
      is_piece = record {
        ring = ring_of ds ring;
        owner = own;
        pieces = map (ring_of ds) pieces;
        cut = point_cut;
        piece = ring_of ds (get_or pieces k []);
        one = piece_in k h;
        least = least_turned (get_or pieces k []) w.ring (sound_at k h) p.turned;
      };
      first = firsts;
      is_first = s;
      under = p.under ∙ e;
      opening = p.opening;
      hole = (λ q. (law k h w.ring p.turned).0 (p.hole.0 q), λ q. p.hole.1 ((law k h w.ring p.turned).1 q));
    }

    pub among : (o : Opening) (owned : Bool) (first : ℕ) (old new : List PlacedRing) → AreWrittenUnder o owned first pieces old new → (qs : List (List Pt)) → IsCut (ring_of ds ring) qs → (piece : List Pt) → Contains qs piece → IsWrittenAmong ds new piece
    among o owned first old new w qs c piece i =
        let m = in_map (ring_of ds) pieces piece (contains_in (map (ring_of ds) pieces) piece (let P : List (List Pt) → Type 0 = λ t. Contains t piece in subst P (one.cut (ring_of ds ring) qs (map (ring_of ds) pieces) c point_cut) i)) in
        let n = index_of pieces m.0 [] m.1 in
        let e = w.each n.0 n.1 in
        record { placed = e.0; inside = e.1; least = (let P : List Pt → Type 0 = λ t. IsLeastRotation t (ring_of ds e.0.ring) in subst P (ap (ring_of ds) n.2 ∙ m.2) (least_turned (get_or pieces n.0 []) e.0.ring (sound_at n.0 n.1) e.2.turned)) }
