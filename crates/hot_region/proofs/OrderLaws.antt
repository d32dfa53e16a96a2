-- Items that ascend are those of lines that run side by side.
use Rattle.std.proofs.Common.{◌≡◌, ◌⊎◌, inl, inr, ◌<◌, List, [], sym, ◌∙◌, ap, arith, subst, length, get_or, ⊎_elim}
use Rattle.std.proofs.Math.IntN.{ℤ}
use Rattle.std.specs.Prelude.{◌≤ℤ◌, AllPairs, Contains, IfSome, Some, slice_get}
use Rattle.std.specs.List.{AllAdjacentBelow}
use Rattle.std.specs.List.Sorted.{IsPermutation}
use Rattle.std.proofs.lemmas.Bool.{cases_lt}
use Rattle.std.proofs.lemmas.List.{get_or_default}
use Rattle.std.proofs.lemmas.List.Sorted.{Contains-permutation}
use Rattle.geom.specs.declared.rect.Rect.{Rect}
use Rattle.hot_region.specs.declared.bundle.Course.{Course}
use Rattle.hot_region.specs.declared.bundle.Strand.{Strand}
use Rattle.hot_region.specs.declared.carrier.Carried.{Carried}
use Rattle.hot_region.specs.declared.lines.Line.{Line}
use Rattle.hot_region.specs.Beside.{AreAscending, AreInOrder}
use Rattle.hot_region.specs.Bundle.{seen_point, IsFollowedBy, IsStrandSeen}
use Rattle.hot_region.specs.Carriers.{AreCarried, IsCarried}
use Rattle.hot_region.specs.Halving.{edges_of, HasHot}
use Rattle.hot_region.specs.Rects.{IsIn}
use Rattle.hot_region.proofs.BundleLaws.{all_in_turn, apart_has_no_hot, follows_on, nothing_hot, HaveStrands, StandApart}
use Rattle.hot_region.proofs.CarrierLaws.{after_low, some_one, up_to_high}

in_order_on : (c d e : Carried) → AreInOrder c d → AreInOrder d e → AreInOrder c e
in_order_on c d e h k = record { s = h.s; t = k.t; first = h.first; second = k.second; follows = follows_on h.s h.t k.t h.follows (subst (λ s. IsFollowedBy s k.t) (some_one d.strand k.s h.t k.first h.second) k.follows) }

pub items_ascend : (items : List Carried) → AllAdjacentBelow AreInOrder items (length items) → AllPairs AreInOrder items
items_ascend = all_in_turn AreInOrder in_order_on

module _ (course : Course) (low high : ℤ) (lines : List Line) (items sorted : List Carried) (are : AreCarried course low high lines items) (moved : IsPermutation items sorted) (up : AreAscending sorted) where
  item_at : (c d : Carried) (i : Contains sorted c) → get_or sorted i.0 d ≡ c
  item_at c d i = get_or_default sorted i.0 d c i.1 ∙ i.2

  before : (c d : Carried) (i : Contains sorted c) (j : Contains sorted d) → i.0 < j.0 → AreInOrder c d
  before c d i j l = subst (λ x. AreInOrder x d) (item_at c c i) (subst (λ y. AreInOrder (get_or sorted i.0 c) y) (item_at d c j) (up.in_order i.0 j.0 c l j.1))

  two_items : (c d : Carried) → Contains sorted c → Contains sorted d → (c ≡ d) ⊎ (AreInOrder c d ⊎ AreInOrder d c)
  two_items c d i j = ⊎_elim
      (λ l. inr (inl (before c d i j l)))
      (λ l. ⊎_elim
      (λ m. inr (inr (before d c j i m)))
      (λ m. let e : i.0 ≡ j.0 = omega arith in inl (sym (item_at c c i) ∙ ap (λ k. get_or sorted k c) e ∙ item_at d c j))
      (cases_lt j.0 i.0))
      (cases_lt i.0 j.0)

  -- the item of a line
  item_of : (l : Line) → Contains lines l → (c : Carried) × Contains sorted c × IsCarried course low high lines c l
  item_of l k = let r = are.all l k in (r.0, Contains-permutation items sorted r.0 moved r.1, r.2)

  strand_is : (l : Line) (c : Carried) (s : Strand) → IsCarried course low high lines c l → c.strand ≡ Some s → IsStrandSeen course low high l.edge s
  strand_is l c s is e = subst (λ o. IfSome o (λ t. IsStrandSeen course low high l.edge t)) e is.strand

  has_strand : (c : Carried) → Contains sorted c → (s : Strand) × (c.strand ≡ Some s)
  has_strand c i = ⊎_elim
      (λ l. let h = up.in_order 0 i.0 c l i.1 in (h.t, subst (λ (x : Carried). x.strand ≡ Some h.t) i.2 h.second))
      (λ l. let h = up.in_order i.0 1 c (omega arith) up.several in (h.s, subst (λ (x : Carried). x.strand ≡ Some h.s) i.2 h.first))
      (cases_lt 0 i.0)

  have_strands : HaveStrands course low high lines
  have_strands l k =
      let r = item_of l k in
      let s = has_strand r.0 r.1 in
      (s.0, strand_is l r.0 s.0 r.2 s.1)

  stand_apart : StandApart course low high lines
  stand_apart l m i j =
      let r = item_of l i in
      let u = item_of m j in ⊎_elim
      (λ e. inl (some_one (slice_get lines r.0.place) l m r.2.at (ap (λ (x : Carried). slice_get lines x.place) e ∙ u.2.at)))
      (λ o. inr (⊎_elim
      (λ h. record { s = h.s; t = h.t; first = strand_is l r.0 h.s r.2 h.first; second = strand_is m u.0 h.t u.2 h.second; order = inl h.follows })
      (λ h. record { s = h.t; t = h.s; first = strand_is l r.0 h.t r.2 h.second; second = strand_is m u.0 h.s u.2 h.first; order = inr h.follows })
      o))
      (two_items r.0 u.0 r.1 u.1)

  pub ascending_has_no_hot : (rect : Rect) → low ≡ (seen_point course rect.lo).x → high ≡ (seen_point course rect.hi).x → HasHot rect (edges_of lines) [] []
  ascending_has_no_hot rect is_low is_high = nothing_hot (IsIn rect) lines [] (λ c t.
      apart_has_no_hot course low high lines have_strands stand_apart c (subst (λ n. n ≤ℤ (seen_point course c).x) (sym is_low) (after_low course rect c t)) (subst (λ n. (seen_point course c).x ≤ℤ n) (sym is_high) (up_to_high course rect c t)))
