-- What the tests decide of edges says that they are borders.
use Rattle.std.proofs.Common.{ℕ, ◌+◌, ◌<◌, List, map, sym, arith, subst, ⊎_elim, length, get_or, take}
use Rattle.std.specs.List.{All, AllPairs}
use Rattle.std.proofs.lemmas.List.{get_or-map, get_or-take, get_or_default, length-map, length-take}
use Rattle.std.proofs.lemmas.List.Elements.{All-map}
use Rattle.geom.specs.declared.edge.Edge.{Edge}
use Rattle.geom.specs.EdgeOrder.{IsEdgeBefore}
use Rattle.geom.specs.Limit.{AreInLimit}
use Rattle.geom.specs.Noded.{IsNoded}
use Rattle.geom.proofs.Lists.{In, contains_in, in_map}
use Rattle.cover_law.specs.declared.border.Border.{Border}
use Rattle.cover_law.specs.Cover.{AreBorders, Bordered, bordered, edges_in}
use Rattle.cover_sets.proofs.BorderLists.{edges_are, some_border, unequal}
use Rattle.cover_sets.proofs.Lists.{of_all}
use Rattle.cover_sets_tests.specs.Deciding.{AreApart, HasEvenEnds, MeetAll}
use Rattle.cover_sets_tests.proofs.Evens.{all_even}

abbrev pub Ascend : List Border → ℕ → Type 0
Ascend bs n = (i j : ℕ) (d : Border) → i < j → j < n → IsEdgeBefore (get_or bs i d).edge (get_or bs j d).edge

pub one_more_ascends : (bs : List Border) (k : ℕ) (own : Border) → k < length bs → All (λ b. IsEdgeBefore b.edge (get_or bs k own).edge) (take k bs) → Ascend bs k → Ascend bs (k + 1)
one_more_ascends bs k own l all h i j d a m = ⊎_elim
    (λ e. subst (λ (n : ℕ). IsEdgeBefore (get_or bs i d).edge (get_or bs n d).edge) (sym e)
    (subst (λ (b : Border). IsEdgeBefore (get_or bs i d).edge b.edge) (get_or_default bs k own d l)
    (subst (λ (b : Border). IsEdgeBefore b.edge (get_or bs k own).edge) (get_or-take k bs i d (omega arith)) (all i d (let t = length-take k bs in omega arith)))))
    (λ o. ⊎_elim (λ b. h i j d a b) (λ b. absurd (omega arith)) o) (unequal j k)

module _ (fs : List ℕ) (bs : List Border) where
  pairs : Ascend bs (length bs) → AllPairs (λ b c. IsEdgeBefore b.edge c.edge) (map (bordered fs) bs)
  pairs h i j d l m =
      let k : j < length bs = (let e = length-map bs (bordered fs) in omega arith) in
      let c = some_border bs j k in
      subst (λ (b : Bordered). IsEdgeBefore b.edge (get_or (map (bordered fs) bs) j d).edge) (sym (get_or-map (bordered fs) bs i c d (omega arith)))
      (subst (λ (b : Bordered). IsEdgeBefore (get_or bs i c).edge b.edge) (sym (get_or-map (bordered fs) bs j c d k)) (h i j c l k))

  in_limit : All (λ b. AreInLimit b.edge.p b.edge.q) bs → All (λ e. AreInLimit e.p e.q) (edges_in (map (bordered fs) bs))
  in_limit h = subst (λ (es : List Edge). All (λ (e : Edge). AreInLimit e.p e.q) es) (sym (edges_are fs bs)) (All-map (λ (e : Edge). AreInLimit e.p e.q) (λ (b : Border). b.edge) bs h)

  apart : All (λ b. MeetAll bs b.edge) bs → (e f : Edge) → In e (map (λ b. b.edge) bs) → In f (map (λ b. b.edge) bs) → AreApart e f
  apart h e f i j =
      let b = in_map (λ (x : Border). x.edge) bs e i in
      let c = in_map (λ (x : Border). x.edge) bs f j in
      subst (λ (x : Edge). AreApart x f) b.2 (subst (AreApart b.0.edge) c.2 (of_all (λ (x : Border). AreApart b.0.edge x.edge) bs (of_all (λ (x : Border). MeetAll bs x.edge) bs h b.0 b.1).each c.0 c.1))

  noded : All (λ b. MeetAll bs b.edge) bs → IsNoded (edges_in (map (bordered fs) bs))
  noded h = subst (λ (es : List Edge). IsNoded es) (sym (edges_are fs bs))
      (λ e f c d. (apart h e f (contains_in (map (λ b. b.edge) bs) e c) (contains_in (map (λ b. b.edge) bs) f d)).apart)

  pub are_borders : AllPairs (λ b c. IsEdgeBefore b.edge c.edge) bs → All (λ b. AreInLimit b.edge.p b.edge.q) bs → All (λ b. MeetAll bs b.edge) bs → All (HasEvenEnds fs bs) fs → AreBorders (map (bordered fs) bs)
  are_borders up limit meet even = record { ascending = pairs up; in_limit = in_limit limit; noded = noded meet; even = all_even fs bs even }
