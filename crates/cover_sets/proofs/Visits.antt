-- Past an edge: the numbers that are written are those of its cover sets, and those of other edges stay.
use Rattle.std.proofs.Common.{◌≡◌, ◌⊎◌, inl, inr, ℕ, ◌-◌, ◌<◌, List, map, refl, sym, ap, ◌∙◌, arith, subst, ⊎_elim, length, get_or, set, drop, Some}
use Rattle.std.specs.Prelude.{Option, slice_get, slice_range}
use Rattle.std.specs.List.{All, Contains, HoldsAt}
use Rattle.std.proofs.lemmas.Grind.{get_or-set_at}
use Rattle.std.proofs.lemmas.List.{get_or-map, get_or_default, get_or-set_other, length-map}
use Rattle.std.proofs.lemmas.List.Elements.{All-drop, All-take}
use Rattle.geom.specs.declared.edge.Edge.{Edge}
use Rattle.geom.specs.declared.point.Pt.{Pt}
use Rattle.geom.specs.Pixel.{Point}
use Rattle.geom.specs.ResultEdges.{left_side, right_side}
use Rattle.geom.proofs.Lists.{in_contains}
use Rattle.geom.proofs.Owners.{all_in}
use Rattle.label_sweep.specs.declared.swept.SweptEdge.{SweptEdge}
use Rattle.label_sweep.specs.Swept.{IsBeside}
use Rattle.cover_law.specs.Cover.{AreBorders, Bordered, bordered, cover, edges_in}
use Rattle.cover_law.specs.Rows.{beyond}
use Rattle.cover_law.specs.declared.border.Border.{Border}
use Rattle.cover_law.proofs.Covers.{cover_is_exact}
use Rattle.cover_law.proofs.Beyond.{cover_is_beyond}
use Rattle.cover_sets.specs.Sets.{IsBeyond, IsListed, Keeps, set_of}
use Rattle.cover_sets.specs.Visited.{IsBesideVisited, IsVisited, cover_beside}
use Rattle.cover_sets.proofs.Besides.{left_is_beside}
use Rattle.cover_sets.proofs.BorderLists.{ascending, border_at, border_is, border_within, one_number, some_border, unequal}
use Rattle.cover_sets.proofs.Numbered.{listed_stays}

same_place : (m n : ℕ) → (m ≡ n) ⊎ (¬ (m ≡ n))
same_place m n = ⊎_elim (λ e. inl e) (λ o. inr (λ e. ⊎_elim (λ l. omega arith) (λ l. omega arith) o)) (unequal m n)

abbrev Below : ℕ → List ℕ → Type 0
Below count fs = All (λ (f : ℕ). f < count) fs

pub below_part : (count : ℕ) (fs : List ℕ) (from to : ℕ) → Below count fs → Below count (slice_range fs from to)
below_part count fs from to h = All-take (λ (f : ℕ). f < count) (to - from) (drop from fs) (All-drop (λ (f : ℕ). f < count) from fs h)

below_cover : (count : ℕ) (edges : List Bordered) (z : Point) → Below count (cover count edges z)
below_cover count edges z = all_in (λ (f : ℕ). f < count) (cover count edges z) (λ f i. (((cover_is_exact count edges z).1 f).0 (in_contains (cover count edges z) f i)).0)

-- ---- the edge beside another one
module _ (fs : List ℕ) (S : List (List ℕ)) (L R : List ℕ) where
  beside_at : (bs : List Border) (n r : ℕ) (d : Border) (f : Edge) → n < length bs → (get_or bs n d).edge ≡ f → r ≡ get_or R n 0 → IsVisited fs (map (bordered fs) bs) S L R f
      → (count : ℕ) → Below count fs → IsListed S (cover count (map (bordered fs) bs) (right_side f.p f.q)) r
  beside_at bs n r d f l e q v count b = subst (IsListed S (cover count (map (bordered fs) bs) (right_side f.p f.q))) (sym q) (v.right_is count b n (bordered fs (get_or bs n d)) (border_at fs bs n d l) e)

  pub beside_listed : (bs : List Border) (n r : ℕ) (o : Option Edge) (f : Edge) → o ≡ Some f → n < length bs → HoldsAt (λ (b : Border). b.edge ≡ f) bs n → n < length R → r ≡ get_or R n r
      → IsBesideVisited fs (map (bordered fs) bs) S L R o → (count : ℕ) → Below count fs → IsListed S (cover_beside count (map (bordered fs) bs) o) r
  beside_listed bs n r o f e l h m q v count b = subst (λ (p : Option Edge). IsListed S (cover_beside count (map (bordered fs) bs) p) r) (sym e)
      (beside_at bs n r (some_border bs n l) f l (h (some_border bs n l)) (q ∙ get_or_default R n r 0 m) (subst (IsBesideVisited fs (map (bordered fs) bs) S L R) e v) count b)

-- ---- past an edge: S are the sets before, and U those with what lies beyond it
module _ (fs : List ℕ) (bs : List Border) (borders : AreBorders (map (bordered fs) bs)) (s : SweptEdge) (swept : IsBeside (edges_in (map (bordered fs) bs)) s)
    (n : ℕ) (border : Border) (within : n < length bs) (is : border ≡ get_or bs n border) (edge : border.edge ≡ s.edge)
    (S U : List (List ℕ)) (left right : ℕ) (keeps : Keeps S U)
    (known : (count : ℕ) → Below count fs → IsListed S (cover_beside count (map (bordered fs) bs) s.beside) left)
    (above : IsBeyond S left (slice_range fs border.from border.to) U right) where
  abbrev edges : List Bordered
  edges = map (bordered fs) bs

  left_listed : (count : ℕ) → Below count fs → IsListed U (cover count edges (left_side s.edge.p s.edge.q)) left
  left_listed count b = subst (λ (set : List ℕ). IsListed U set left) (sym (left_is_beside count edges borders s swept)) (listed_stays S U (cover_beside count edges s.beside) left keeps (known count b))

  in_edges : Contains edges (bordered fs border)
  in_edges = (n, (let e = length-map bs (bordered fs) in omega arith), get_or-map (bordered fs) bs n border (bordered fs border) within ∙ ap (bordered fs) (sym is))

  crossed : (count : ℕ) → cover count edges (right_side s.edge.p s.edge.q) ≡ beyond count (cover count edges (left_side s.edge.p s.edge.q)) (slice_range fs border.from border.to)
  crossed count = subst (λ (e : Edge). cover count edges (right_side e.p e.q) ≡ beyond count (cover count edges (left_side e.p e.q)) (slice_range fs border.from border.to)) edge (cover_is_beyond count edges borders (bordered fs border) in_edges)

  right_listed : (count : ℕ) → Below count fs → IsListed U (cover count edges (right_side s.edge.p s.edge.q)) right
  right_listed count b = (above.0, reached ∙ sym (crossed count))
    where
      at_left : set_of S left ≡ cover count edges (left_side s.edge.p s.edge.q)
      at_left = (known count b).1 ∙ sym (left_is_beside count edges borders s swept)

      reached : set_of U right ≡ beyond count (cover count edges (left_side s.edge.p s.edge.q)) (slice_range fs border.from border.to)
      reached = above.1 count (subst (Below count) (sym at_left) (below_cover count edges (left_side s.edge.p s.edge.q))) (below_part count fs border.from border.to b)
          ∙ ap (λ (x : List ℕ). beyond count x (slice_range fs border.from border.to)) at_left

  -- ---- one side, whose number is written at the edge's place
  abbrev Known : (Pt → Pt → Point) → List (List ℕ) → List ℕ → Edge → Type 0
  Known side V L e = (count : ℕ) → Below count fs → (k : ℕ) (b : Bordered) → slice_get edges k ≡ Some b → b.edge ≡ e → IsListed V (cover count edges (side e.p e.q)) (get_or L k 0)

  edge_at : (k : ℕ) (b : Bordered) → slice_get edges k ≡ Some b → b.edge ≡ (get_or bs k border).edge
  edge_at k b h = ap (λ (x : Bordered). x.edge) (border_is fs bs k b border h)

  own_edge : (get_or bs n border).edge ≡ s.edge
  own_edge = ap (λ (x : Border). x.edge) (sym is) ∙ edge

  module _ (side : Pt → Pt → Point) (L : List ℕ) (new : ℕ) (room : n < length L) (told : (count : ℕ) → Below count fs → IsListed U (cover count edges (side s.edge.p s.edge.q)) new) where
    here : (e : Edge) (count k : ℕ) → Below count fs → k ≡ n → s.edge ≡ e → IsListed U (cover count edges (side e.p e.q)) (get_or (set L n new) k 0)
    here e count k b j q = subst (λ (x : Edge). IsListed U (cover count edges (side x.p x.q)) (get_or (set L n new) k 0)) q
        (subst (IsListed U (cover count edges (side s.edge.p s.edge.q))) (sym (get_or-set_at L n k new 0 j room)) (told count b))

    visited_side : Known side U (set L n new) s.edge
    visited_side count b k c h q = here s.edge count k b
        (one_number bs (ascending fs bs borders.ascending) k n border (border_within fs bs k c h) within (sym (edge_at k c h) ∙ q ∙ sym own_edge)) refl

    kept_side : (e : Edge) → Known side S L e → Known side U (set L n new) e
    kept_side e v count b k c h q = ⊎_elim
        (λ j. here e count k b j (sym own_edge ∙ ap (λ (m : ℕ). (get_or bs m border).edge) (sym j) ∙ sym (edge_at k c h) ∙ q))
        (λ o. subst (IsListed U (cover count edges (side e.p e.q))) (sym (get_or-set_other L n k new 0 o)) (listed_stays S U (cover count edges (side e.p e.q)) (get_or L k 0) keeps (v count b k c h q)))
        (same_place k n)

  module _ (L R : List ℕ) (room_left : n < length L) (room_right : n < length R) where
    pub visited : IsVisited fs edges U (set L n left) (set R n right) s.edge
    visited = record { left_is = visited_side left_side L left room_left left_listed; right_is = visited_side right_side R right room_right right_listed }

    pub kept : (e : Edge) → IsVisited fs edges S L R e → IsVisited fs edges U (set L n left) (set R n right) e
    kept e v = record { left_is = kept_side left_side L left room_left left_listed e v.left_is; right_is = kept_side right_side R right room_right right_listed e v.right_is }
