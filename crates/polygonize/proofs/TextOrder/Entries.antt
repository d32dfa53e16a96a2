-- The written rings in the order of the text: whose shell is whose, and where it stands.
use Rattle.std.proofs.Common.{◌≡◌, ℕ, ◌≤◌, true, false, List, [], ◌∷◌, length, map, refl, sym, ◌∙◌, ap, subst, inl, inr}
use Rattle.std.specs.Prelude.{Contains, IsPermutation, flat_map}
use Rattle.std.specs.List.Sorted.{IsSortedByKey}
use Rattle.std.proofs.lemmas.List.Elements.{All-contains}
use Rattle.std.proofs.lemmas.List.Sorted.{Contains-permutation, IsPermutation-sym}
use Rattle.geom.specs.declared.point.Pt.{Pt}
use Rattle.geom.specs.declared.directed.DirectedEdge.{DirectedEdge}
use Rattle.geom.specs.Canonical.{IsFirstPiece}
use Rattle.geom.specs.Directed.{AreDirected}
use Rattle.geom.specs.Holes.{IsOwner, IsShell}
use Rattle.geom.specs.Holes.IsOwner.{itself, below}
use Rattle.geom.specs.ListOrder.{IsLeastRotation}
use Rattle.geom.specs.Rings.{ring_edges, IsCut}
use Rattle.geom.proofs.Lists.{In, contains_in, in_contains, in_map}
use Rattle.geom.proofs.RingEdges.{in_flat, flat_in, in_permutation, cut_edges, rotated_edges}
use Rattle.polygonize.specs.Grouped.{BeginsWithShell}
use Rattle.polygonize.specs.Next.{ring_of}
use Rattle.polygonize.specs.Placed.{PlacedRing, opening_of, IsShellWritten, IsPlaced, IsWrittenAmong, AreWritten}
use Rattle.polygonize.specs.Written.{IsCanonical}
use Rattle.polygonize.proofs.TextOrder.Openings.{first_edge, first_inside, same_numbers, strictly_sorted}
use Rattle.polygonize.proofs.TextOrder.Places.{PlaceLess, place_cmp, place_one_way}
use Rattle.polygonize.proofs.Sorted.{Ascend, compare}

-- each of what the definitions name is one value
pub record AreOne (ds : List DirectedEdge) (rings : List (List Pt)) : Type 0 where
  pub ring : (r s : List Pt) (d : DirectedEdge) → Contains rings r → Contains rings s → Contains (ring_edges r) d → Contains (ring_edges s) d → r ≡ s
  pub cut : (r : List Pt) (ps qs : List (List Pt)) → IsCut r ps → IsCut r qs → ps ≡ qs
  pub rotation : (r x y : List Pt) → IsLeastRotation r x → IsLeastRotation r y → x ≡ y
  pub first : (r : List Pt) → Contains rings r → (pieces : List (List Pt)) → IsCut r pieces → (p q : List Pt) → Contains pieces p → Contains pieces q → IsFirstPiece r p → IsFirstPiece r q → p ≡ q
  pub owner : (r s t : List Pt) → IsOwner ds rings r s → IsOwner ds rings r t → s ≡ t

-- ---- owners
pub owner_inside : {ds : List DirectedEdge} {rings : List (List Pt)} {r s : List Pt} → IsOwner ds rings r s → Contains rings s
owner_inside (itself c h) = c
owner_inside (below v d ring c h l n k o w) = owner_inside w

pub owner_shell : {ds : List DirectedEdge} {rings : List (List Pt)} {r s : List Pt} → IsOwner ds rings r s → IsShell s
owner_shell (itself c h) = h
owner_shell (below v d ring c h l n k o w) = owner_shell w

pub owner_of : {ds : List DirectedEdge} {rings : List (List Pt)} {r s : List Pt} → IsOwner ds rings r s → Contains rings r
owner_of (itself c h) = c
owner_of (below v d ring c h l n k o w) = c

-- ---- the edges of a written piece

pub written_edge : (ring : List Pt) (pieces : List (List Pt)) (piece written : List Pt) → IsCut ring pieces → Contains pieces piece → IsLeastRotation piece written → (d : DirectedEdge) → In d (ring_edges written) → Contains (ring_edges ring) d
written_edge ring pieces piece written c o l d i = in_contains (ring_edges ring) d (in_permutation (flat_map ring_edges pieces) (ring_edges ring) d (IsPermutation-sym _ _ (cut_edges c))
    (in_flat ring_edges pieces piece d (contains_in pieces piece o) (in_permutation (ring_edges written) (ring_edges piece) d (IsPermutation-sym _ _ (rotated_edges piece written l.rotation)) i)))

-- ---- the rings in the order of the text
pub record AreEntries (ds : List DirectedEdge) (rings : List (List Pt)) (ws : List PlacedRing) : Type 0 where
  pub placed : (w : PlacedRing) → In w ws → IsPlaced ds rings w
  pub each : (ring shell : List Pt) → IsOwner ds rings ring shell → (pieces : List (List Pt)) → IsCut ring pieces → (piece : List Pt) → Contains pieces piece → IsWrittenAmong ds ws piece
  pub canonical : (w : PlacedRing) → In w ws → IsCanonical ds w.ring
  pub has_edge : (d : DirectedEdge) → Contains ds d → (w : PlacedRing) × In w ws × In d (ring_edges (ring_of ds w.ring))
  pub sorted : Ascend (λ v w. PlaceLess v.place w.place) ws

pub entries : (ds : List DirectedEdge) → AreDirected ds → (rings : List (List Pt)) (written ws : List PlacedRing) → AreWritten ds rings written → IsPermutation written ws → IsSortedByKey (λ w. w.place) place_cmp ws → AreEntries ds rings ws
entries ds a rings written ws w p s = record {
  placed = placed;
  each = λ ring shell o pieces c piece i. let b = w.each ring shell o pieces c piece i in record { placed = b.placed; inside = Contains-permutation written ws b.placed p b.inside; least = b.least };
  canonical = canonical;
  has_edge = λ d c. has_edge d c;
  sorted = strictly_sorted ds a written ws w.edges p canonical (λ v i. (placed v i).opening) s;
}
  where
    back : (v : PlacedRing) → In v ws → Contains written v
    back v i = Contains-permutation ws written v (IsPermutation-sym written ws p) (in_contains ws v i)

    placed : (v : PlacedRing) → In v ws → IsPlaced ds rings v
    placed v i = All-contains (IsPlaced ds rings) written v w.placed (back v i)

    canonical : (v : PlacedRing) → In v ws → IsCanonical ds v.ring
    canonical v i = All-contains (λ v. IsCanonical ds v.ring) written v w.canonical (back v i)

    has_edge : (d : DirectedEdge) → Contains ds d → (v : PlacedRing) × In v ws × In d (ring_edges (ring_of ds v.ring))
    has_edge d c =
        let f = flat_in ring_edges (map (ring_of ds) (map (λ w. w.ring) written)) d (in_permutation ds (flat_map ring_edges (map (ring_of ds) (map (λ w. w.ring) written))) d w.edges (contains_in ds d c)) in
        let m = in_map (ring_of ds) (map (λ w. w.ring) written) f.0 f.1 in
        let n = in_map (λ (w : PlacedRing). w.ring) written m.0 m.1 in
        let P : List Pt → Type 0 = λ t. In d (ring_edges t) in
        (n.0, in_permutation written ws n.0 p n.1, subst P (sym m.2 ∙ ap (ring_of ds) (sym n.2)) f.2)

module _ (ds : List DirectedEdge) (rings : List (List Pt)) (one : AreOne ds rings) where
  -- what is written from pieces of two rings is of one ring
  pub one_whole : (r s : List Pt) → Contains rings r → Contains rings s → (ps qs : List (List Pt)) → IsCut r ps → IsCut s qs → (p q : List Pt) → Contains ps p → Contains qs q → (written : List ℕ) → 3 ≤ length written
      → IsLeastRotation p (ring_of ds written) → IsLeastRotation q (ring_of ds written) → r ≡ s
  one_whole r s c d ps qs x y p q i j written long l m = one.ring r s (first_edge ds (opening_of written)) c d
      (written_edge r ps p (ring_of ds written) x i l _ (first_inside ds written long)) (written_edge s qs q (ring_of ds written) y j m _ (first_inside ds written long))

  -- the first piece of a shell is written in one way
  pub one_first : (shell : List Pt) → Contains rings shell → (f g : List ℕ) → IsShellWritten ds shell f → IsShellWritten ds shell g → f ≡ g
  one_first shell c f g x y = same_numbers ds f g x.canonical.sound.vertices y.canonical.sound.vertices (one.rotation y.piece (ring_of ds f) (ring_of ds g) (let P : List Pt → Type 0 = λ t. IsLeastRotation t (ring_of ds f) in subst P same x.least) y.least)
    where
      same : x.piece ≡ y.piece
      same = one.first shell c y.pieces y.cut x.piece y.piece (let P : List (List Pt) → Type 0 = λ t. Contains t x.piece in subst P (one.cut shell x.pieces y.pieces x.cut y.cut) x.one) y.one x.is_first y.is_first

  -- where the shell stands
  pub record IsEntry (ws : List PlacedRing) (first : List ℕ) (s : PlacedRing) : Type 0 where
    pub inside : In s ws
    pub is : s.ring ≡ first
    pub is_shell : s.place.is_hole ≡ false
    pub under : s.place.shell ≡ opening_of first

  module _ (ws : List PlacedRing) (written : AreEntries ds rings ws) where
    pub entry : (shell : List Pt) → Contains rings shell → IsShell shell → (first : List ℕ) → IsShellWritten ds shell first → (s : PlacedRing) × IsEntry ws first s
    entry shell c h first f = (s, record { inside = inside; is = is; is_shell = q.hole.1 (is ∙ sym firsts); under = q.under ∙ ap opening_of firsts })
      where
        found : IsWrittenAmong ds ws f.piece
        found = written.each shell shell (itself c h) f.pieces f.cut f.piece f.one

        s : PlacedRing
        s = found.placed

        inside : In s ws
        inside = contains_in ws s found.inside

        is : s.ring ≡ first
        is = same_numbers ds s.ring first (written.canonical s inside).sound.vertices f.canonical.sound.vertices (one.rotation f.piece (ring_of ds s.ring) (ring_of ds first) found.least f.least)

        q : IsPlaced ds rings s
        q = written.placed s inside

        ring_is : q.is_piece.ring ≡ shell
        ring_is = one_whole q.is_piece.ring shell (owner_of q.is_piece.owner) c q.is_piece.pieces f.pieces q.is_piece.cut f.cut q.is_piece.piece f.piece q.is_piece.one f.one s.ring (written.canonical s inside).sound.long q.is_piece.least found.least

        shell_is : q.shell ≡ shell
        shell_is = one.owner shell q.shell shell (let P : List Pt → Type 0 = λ t. IsOwner ds rings t q.shell in subst P ring_is q.is_piece.owner) (itself c h)

        firsts : q.first ≡ first
        firsts = one_first shell c q.first first (let P : List Pt → Type 0 = λ t. IsShellWritten ds t q.first in subst P shell_is q.is_first) f

    -- a shell's place names its own opening
    pub own_opening : (s : PlacedRing) → In s ws → s.place.is_hole ≡ false → s.place.shell ≡ opening_of s.ring
    own_opening s i h = let q = written.placed s i in q.under ∙ ap opening_of (sym (q.hole.0 h))

    pub one_shell : (s t : PlacedRing) → In s ws → In t ws → s.place.is_hole ≡ false → t.place.is_hole ≡ false → s.place.shell ≡ t.place.shell → s ≡ t
    one_shell s t i j h k e = elim (compare (λ v w. PlaceLess v.place w.place) ws written.sorted s t i j) [
      | inl p ↦ p
      | inr l ↦ elim l [
        | inl m ↦ absurd (never s t m same)
        | inr m ↦ absurd (never t s m (sym same))
      ]
    ]
      where
        openings : s.place.opening ≡ t.place.opening
        openings = (written.placed s i).opening ∙ sym (own_opening s i h) ∙ e ∙ own_opening t j k ∙ sym (written.placed t j).opening

        holes : s.place.is_hole ≡ t.place.is_hole
        holes = h ∙ sym k

        same : s.place ≡ t.place
        same = λ n. record { shell = e n; is_hole = holes n; opening = openings n }

        never : (v w : PlacedRing) → PlaceLess v.place w.place → v.place ≡ w.place → ⊥
        never v w l e = let P : _ → Type 0 = λ t. PlaceLess t w.place in let r = subst P e l in place_one_way w.place w.place r r

    -- rings under one opening are under one shell
    pub same_first : (v w : PlacedRing) → In v ws → In w ws → (p : IsPlaced ds rings v) (q : IsPlaced ds rings w) → v.place.shell ≡ w.place.shell → p.first ≡ q.first
    same_first v w i j p q e = sym s.1.is ∙ ap (λ t. t.ring) (one_shell s.0 t.0 s.1.inside t.1.inside s.1.is_shell t.1.is_shell (s.1.under ∙ sym p.under ∙ e ∙ q.under ∙ sym t.1.under)) ∙ t.1.is
      where
        s : (s : PlacedRing) × IsEntry ws p.first s
        s = entry p.shell (owner_inside p.is_piece.owner) (owner_shell p.is_piece.owner) p.first p.is_first

        t : (s : PlacedRing) × IsEntry ws q.first s
        t = entry q.shell (owner_inside q.is_piece.owner) (owner_shell q.is_piece.owner) q.first q.is_first

    pub same_shell : (v w : PlacedRing) → In v ws → In w ws → (p : IsPlaced ds rings v) (q : IsPlaced ds rings w) → v.place.shell ≡ w.place.shell → p.shell ≡ q.shell
    same_shell v w i j p q e = one_whole p.shell q.shell (owner_inside p.is_piece.owner) (owner_inside q.is_piece.owner) p.is_first.pieces q.is_first.pieces p.is_first.cut q.is_first.cut p.is_first.piece q.is_first.piece p.is_first.one q.is_first.one
        q.first q.is_first.canonical.sound.long (let P : List ℕ → Type 0 = λ t. IsLeastRotation p.is_first.piece (ring_of ds t) in subst P (same_first v w i j p q e) p.is_first.least) q.is_first.least

    -- the other way round
    pub one_under : (v w : PlacedRing) (p : IsPlaced ds rings v) (q : IsPlaced ds rings w) → p.shell ≡ q.shell → p.first ≡ q.first
    one_under v w p q e = one_first q.shell (owner_inside q.is_piece.owner) p.first q.first (let P : List Pt → Type 0 = λ t. IsShellWritten ds t p.first in subst P e p.is_first) q.is_first

  -- the text begins with a shell
  pub begins : (ws : List PlacedRing) → AreEntries ds rings ws → BeginsWithShell (λ w. w.place.is_hole) ws
  begins [] written = tt
  begins (w ∷ ws) written = by w.place.is_hole refl
    where
      p : IsPlaced ds rings w
      p = written.placed w (inl refl)

      s : (s : PlacedRing) × IsEntry (w ∷ ws) p.first s
      s = entry (w ∷ ws) written p.shell (owner_inside p.is_piece.owner) (owner_shell p.is_piece.owner) p.first p.is_first

      later : w.place.is_hole ≡ true → In s.0 (w ∷ ws) → ⊥
      later h (inl e) = let f : false ≡ true = sym s.1.is_shell ∙ ap (λ t. t.place.is_hole) (sym e) ∙ h in cc
      later h (inr i) = place_one_way w.place s.0.place (written.sorted.0 s.0 i) (inr (s.1.under ∙ sym p.under, inl (s.1.is_shell, h)))

      by : (b : _) → w.place.is_hole ≡ b → w.place.is_hole ≡ false
      by false h = h
      by true h = absurd (later h s.1.inside)
