-- The edges near a tile.
use Rattle.std.proofs.Common.{◌≡◌, ℕ, ◌+◌, ◌<◌, List, [], ◌∷◌, ◌++◌, refl, sym, ◌∙◌, ap, arith, subst, length, get_or, take, ◌↔◌, ⊎_elim}
use Rattle.std.specs.Prelude.{All, AllPairs, Contains, Option, Some, None, slice_get}
use Rattle.std.specs.Option.{option_map}
use Rattle.std.proofs.lemmas.List.{take_more}
use Rattle.std.proofs.lemmas.List.Elements.{All-contains, Contains-get_or, filter_map-append}
use Rattle.std.proofs.lemmas.Option.{slice_get-get_or, get_or_from_slice_get, slice_get_within}
use Rattle.geom.specs.declared.point.Pt.{Pt}
use Rattle.geom.specs.declared.rect.Rect.{Rect}
use Rattle.geom.specs.declared.edge.Edge.{Edge}
use Rattle.geom.specs.declared.edge.Counted.{Counted}
use Rattle.geom.specs.Box.{IsInBox, greatest_corner, least_corner}
use Rattle.geom.specs.Limit.{AreInLimit}
use Rattle.geom.specs.EdgeOrder.{IsEdgeBefore}
use Rattle.geom.specs.Rounded.{edges_of}
use Rattle.grid.specs.Tiles.{Tiling, Owns}
use Rattle.hot_region.specs.Rects.{IsIn}
use Rattle.hot_region.proofs.ListLaws.{in_cons, from_cons, here, none_in, head_pair, tail_pairs, pairs_cons, in_map}
use Rattle.noding_test.specs.Verdicts.{common_corner, chosen_edges, AreNear, IsOwnBad, IsLeastPair}
use Rattle.noding_test.proofs.VerdictLaws.{corner_is_common}

-- ---- the edges of some numbers
pub first_chosen : (counted : List Counted) (n : ℕ) (ns : List ℕ) (c : Counted) → slice_get counted n ≡ Some c → chosen_edges counted (n ∷ ns) ≡ c.edge ∷ chosen_edges counted ns
first_chosen counted n ns c e = rw e refl

none_chosen : (counted : List Counted) (n : ℕ) (ns : List ℕ) → slice_get counted n ≡ None → chosen_edges counted (n ∷ ns) ≡ chosen_edges counted ns
none_chosen counted n ns e = rw e refl

-- e is the edge of one of the numbers
pub record IsChosen (counted : List Counted) (numbers : List ℕ) (e : Edge) : Type 0 where
  pub number : ℕ
  pub listed : Contains numbers number
  pub item : Counted
  pub is_at : slice_get counted number ≡ Some item
  pub edge_is : item.edge ≡ e

chosen_later : (counted : List Counted) (n : ℕ) (ns : List ℕ) (e : Edge) → IsChosen counted ns e → IsChosen counted (n ∷ ns) e
chosen_later counted n ns e h = record { number = h.number; listed = in_cons n ns h.number h.listed; item = h.item; is_at = h.is_at; edge_is = h.edge_is }

out_cons : (counted : List Counted) (n : ℕ) (ns : List ℕ) (e : Edge) (o : Option Counted) → slice_get counted n ≡ o → (Contains (chosen_edges counted ns) e → IsChosen counted ns e) → Contains (chosen_edges counted (n ∷ ns)) e → IsChosen counted (n ∷ ns) e
out_cons counted n ns e None at rest h = chosen_later counted n ns e (rest (subst (λ (es : List Edge). Contains es e) (none_chosen counted n ns at) h))
out_cons counted n ns e (Some c) at rest h = ⊎_elim
    (λ f. record { number = n; listed = here n ns; item = c; is_at = at; edge_is = f })
    (λ k. chosen_later counted n ns e (rest k))
    (from_cons c.edge (chosen_edges counted ns) e (subst (λ (es : List Edge). Contains es e) (first_chosen counted n ns c at) h))

pub out_of_chosen : (counted : List Counted) (numbers : List ℕ) (e : Edge) → Contains (chosen_edges counted numbers) e → IsChosen counted numbers e
out_of_chosen counted [] e h = absurd (none_in e h)
out_of_chosen counted (n ∷ ns) e h = out_cons counted n ns e (slice_get counted n) refl (out_of_chosen counted ns e) h

into_cons : (counted : List Counted) (n : ℕ) (ns : List ℕ) (e : Edge) (o : Option Counted) → slice_get counted n ≡ o → Contains (chosen_edges counted ns) e → Contains (chosen_edges counted (n ∷ ns)) e
into_cons counted n ns e None at h = subst (λ (es : List Edge). Contains es e) (sym (none_chosen counted n ns at)) h
into_cons counted n ns e (Some c) at h = subst (λ (es : List Edge). Contains es e) (sym (first_chosen counted n ns c at)) (in_cons c.edge (chosen_edges counted ns) e h)

pub into_chosen : (counted : List Counted) (numbers : List ℕ) (k : ℕ) (c : Counted) → Contains numbers k → slice_get counted k ≡ Some c → Contains (chosen_edges counted numbers) c.edge
into_chosen counted [] k c h at = absurd (none_in k h)
into_chosen counted (n ∷ ns) k c h at = ⊎_elim
    (λ e. subst (λ (es : List Edge). Contains es c.edge) (sym (first_chosen counted n ns c (ap (slice_get counted) e ∙ at))) (here c.edge (chosen_edges counted ns)))
    (λ m. into_cons counted n ns c.edge (slice_get counted n) refl (into_chosen counted ns k c m at))
    (from_cons n ns k h)

pub chosen_more : (counted : List Counted) (numbers : List ℕ) (i k : ℕ) (c : Counted) → i < length numbers → k ≡ get_or numbers i k → slice_get counted k ≡ Some c → chosen_edges counted (take (i + 1) numbers) ≡ chosen_edges counted (take i numbers) ++ c.edge ∷ []
chosen_more counted numbers i k c l e at =
    let f : take (i + 1) numbers ≡ take i numbers ++ k ∷ [] = take_more numbers i k l ∙ ap (λ (n : ℕ). take i numbers ++ n ∷ []) (sym e) in
    ap (chosen_edges counted) f ∙ filter_map-append (λ n. option_map (λ (d : Counted). d.edge) (slice_get counted n)) (take i numbers) (k ∷ []) ∙ ap (λ (es : List Edge). chosen_edges counted (take i numbers) ++ es) (first_chosen counted k [] c at)

-- ---- they ascend
counted_before : (counted : List Counted) → AllPairs (λ c d. IsEdgeBefore c.edge d.edge) counted → (i j : ℕ) (c d : Counted) → i < j → slice_get counted i ≡ Some c → slice_get counted j ≡ Some d → IsEdgeBefore c.edge d.edge
counted_before counted up i j c d l a b =
    subst (λ (x : Counted). IsEdgeBefore x.edge d.edge) (get_or_from_slice_get counted i c c a)
    (subst (λ (y : Counted). IsEdgeBefore (get_or counted i c).edge y.edge) (get_or_from_slice_get counted j d c b) (up i j c l (slice_get_within counted j d b)))

ascend_cons : (counted : List Counted) (n : ℕ) (ns : List ℕ) (o : Option Counted) → slice_get counted n ≡ o → AllPairs (λ c d. IsEdgeBefore c.edge d.edge) counted → AllPairs (λ i j. i < j) (n ∷ ns) → AllPairs IsEdgeBefore (chosen_edges counted ns) → AllPairs IsEdgeBefore (chosen_edges counted (n ∷ ns))
ascend_cons counted n ns None at up p rest = subst (AllPairs IsEdgeBefore) (sym (none_chosen counted n ns at)) rest
ascend_cons counted n ns (Some c) at up p rest = subst (AllPairs IsEdgeBefore) (sym (first_chosen counted n ns c at)) (pairs_cons IsEdgeBefore c.edge (chosen_edges counted ns) above rest)
  where
    above : (e : Edge) → Contains (chosen_edges counted ns) e → IsEdgeBefore c.edge e
    above e h =
        let k = out_of_chosen counted ns e h in
        subst (λ (x : Edge). IsEdgeBefore c.edge x) k.edge_is (counted_before counted up n k.number c k.item (head_pair (λ i j. i < j) n ns k.number p k.listed) at k.is_at)

pub chosen_ascend : (counted : List Counted) (numbers : List ℕ) → AllPairs (λ c d. IsEdgeBefore c.edge d.edge) counted → AllPairs (λ i j. i < j) numbers → AllPairs IsEdgeBefore (chosen_edges counted numbers)
chosen_ascend counted [] up p = λ i j d a b. absurd (omega arith)
chosen_ascend counted (n ∷ ns) up p = ascend_cons counted n ns (slice_get counted n) refl up p (chosen_ascend counted ns up (tail_pairs (λ i j. i < j) n ns p))

among : (counted : List Counted) (k : ℕ) (c : Counted) → slice_get counted k ≡ Some c → Contains counted c
among counted k c at = (k, slice_get_within counted k c at, get_or_from_slice_get counted k c c at)

pub chosen_limits : (counted : List Counted) (numbers : List ℕ) → All (λ c. AreInLimit c.edge.p c.edge.q) counted → All (λ e. AreInLimit e.p e.q) (chosen_edges counted numbers)
chosen_limits counted numbers h = λ i d l.
    let e = get_or (chosen_edges counted numbers) i d in
    let k = out_of_chosen counted numbers e (Contains-get_or (chosen_edges counted numbers) i d l) in
    subst (λ (x : Edge). AreInLimit x.p x.q) k.edge_is (All-contains (λ (c : Counted). AreInLimit c.edge.p c.edge.q) counted k.item h (among counted k.number k.item k.is_at))

-- ---- the tile's bad pairs are among them
pub least_by : (P Q : Edge → Edge → Type 0) (found : Option (Edge × Edge)) → ((e f : Edge) → P e f ↔ Q e f) → IsLeastPair P found → IsLeastPair Q found
least_by P Q None same h = λ e f q. h e f ((same e f).1 q)
least_by P Q (Some pair) same h = ((same pair.0 pair.1).0 h.0, λ e f q. h.1 e f ((same e f).1 q))

module _ (g : Tiling) (k : ℕ) (tile : Rect) (counted : List Counted) (numbers : List ℕ) (exact : (p : Pt) → IsIn tile p ↔ Owns g k p) (near : AreNear g k counted numbers) where
  wider : (e : Edge) → Contains (chosen_edges counted numbers) e → Contains (edges_of counted) e
  wider e h = let c = out_of_chosen counted numbers e h in (in_map (λ (d : Counted). d.edge) counted e).1 (c.item, among counted c.number c.item c.is_at, c.edge_is)

  -- an edge whose box has the corner
  narrower : (e : Edge) (p : Pt) → Contains (edges_of counted) e → IsInBox (least_corner e.p e.q) (greatest_corner e.p e.q) p → Owns g k p → Contains (chosen_edges counted numbers) e
  narrower e p h inside owned =
      let (c, (i, l, is), same) = (in_map (λ (d : Counted). d.edge) counted e).0 h in
      let at : slice_get counted i ≡ Some c = slice_get-get_or counted i c l ∙ ap Some is in
      subst (λ (x : Edge). Contains (chosen_edges counted numbers) x) same (into_chosen counted numbers i c (near.complete i c p at (subst (λ (x : Edge). IsInBox (least_corner x.p x.q) (greatest_corner x.p x.q) p) (sym same) inside) owned) at)

  pub same_bad : (e f : Edge) → IsOwnBad (IsIn tile) (chosen_edges counted numbers) e f ↔ IsOwnBad (Owns g k) (edges_of counted) e f
  same_bad e f = (
    (λ h. record { e_in = wider e h.e_in; f_in = wider f h.f_in; ordered = h.ordered; bad = h.bad; owned = (exact (common_corner e f)).0 h.owned }),
    (λ h.
        let c = corner_is_common e f h.bad in
        record {
          e_in = narrower e (common_corner e f) h.e_in c.in_first h.owned;
          f_in = narrower f (common_corner e f) h.f_in c.in_second h.owned;
          ordered = h.ordered;
          bad = h.bad;
          owned = (exact (common_corner e f)).1 h.owned;
        }),
  )
