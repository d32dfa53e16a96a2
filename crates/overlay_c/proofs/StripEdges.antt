-- The edges of a strip that come from outside: what is known of them in place, and what is told of them.
use Rattle.std.proofs.Common.{◌≡◌, inl, inr, ℕ, ◌<◌, ◌+◌, Bool, true, false, List, arith, get_or, length, map, subst}
use Rattle.std.proofs.Math.IntN.{ℤ}
use Rattle.std.specs.Prelude.{◌<ℤ◌, ◌≤ℤ◌, All, AllPairs, MatchBool}
use Rattle.std.proofs.lemmas.Bool.{cases_lt}
use Rattle.std.proofs.lemmas.List.{get_or_default}
use Rattle.geom.proofs.Integers.{linear}
use Rattle.geom.proofs.Lists.{in_map, map_in}
use Rattle.geom.specs.declared.op.Op.{Op}
use Rattle.geom.specs.declared.edge.Edge.{Edge}
use Rattle.geom.specs.declared.edge.Counted.{Counted}
use Rattle.geom.specs.declared.directed.DirectedEdge.{DirectedEdge}
use Rattle.geom.specs.Directed.{IsDirectedBefore}
use Rattle.geom.specs.Limit.{AreInLimit}
use Rattle.geom.specs.Rounded.{edges_of}
use Rattle.label_sweep.specs.StripLabels.{AreResultEdgesAlong}
use Rattle.label_sweep.proofs.Members.{all_of_in, in_of_all}
use Rattle.phases.specs.Labels.{ComeInto, TellLabels}
use Rattle.overlay_c.specs.declared.strip_items.OverlayCounted.{OverlayCounted}
use Rattle.overlay_c.specs.declared.strip_items.OverlayDirected.{OverlayDirected}
use Rattle.overlay_c.specs.Strips.{AreInPlace, IsCounted, IsCountedBefore, one_list, told_counted}
use Rattle.overlay_c.specs.StripLabels.{AreGoingLists, AreGoingOn, AreLabelLists, AreLabelsOf, BeginsLeft, ComesIn, IsLimited, IsOwn, told_directed}
use Rattle.overlay_c.proofs.StripLists.{all_pairs, each_item}
use Rattle.overlay_c.proofs.StripSearch.{counted_trans}

-- ---- in place
module _ (items : List OverlayCounted) (h : AreInPlace IsLimited IsCountedBefore items) where
  limited : All IsLimited items
  limited = each_item IsLimited IsCountedBefore items h

  pub are_counted : All IsCounted items
  are_counted k d inside = (limited k d inside).ordered

  pub told_in_limit : (cs : List Counted) → items ≡ map told_counted cs → All (λ (e : Edge). AreInLimit e.p e.q) (edges_of cs)
  told_in_limit cs is = all_of_in (λ (e : Edge). AreInLimit e.p e.q) (edges_of cs) (λ e i.
      let c = in_map (λ (c : Counted). c.edge) cs e i in
      let P : List OverlayCounted → Type 0 = All IsLimited in
      let l = in_of_all IsLimited (map told_counted cs) (subst P is limited) (told_counted c.0) (map_in told_counted cs c.0 c.1) in
      subst (λ (e : Edge). AreInLimit e.p e.q) c.2 l.in_limit)

  not_right : (x y : OverlayCounted) → IsCountedBefore x y → x.px ≤ℤ y.px
  not_right x y (inl h) = h.column
  not_right x y (inr h) = let e = h.0 in subst (λ (z : ℤ). x.px ≤ℤ z) (λ i. (e i).x) (omega (arith, linear))

  -- the first one begins farthest to the left
  first_is_left : (k : ℕ) (d : OverlayCounted) → k < length items → (get_or items 0 d).px ≤ℤ (get_or items k d).px
  first_is_left k d inside = elim (cases_lt 0 k) [
    | inl l ↦ not_right (get_or items 0 d) (get_or items k d) (all_pairs IsLimited IsCountedBefore items h counted_trans 0 k d l inside)
    | inr m ↦ let e : 0 ≡ k = omega (arith, m) in subst (λ (n : ℕ). (get_or items 0 d).px ≤ℤ (get_or items n d).px) e (omega (arith, linear))
  ]

  left_of_all : (c d : OverlayCounted) → 0 < length items → c.px <ℤ (get_or items 0 d).px → BeginsLeft items c
  left_of_all c d some less k e inside =
      let a = first_is_left k e inside in
      let b : c.px <ℤ (get_or items 0 e).px = subst (λ (x : OverlayCounted). c.px <ℤ x.px) (get_or_default items 0 d e some) less in
      omega (arith, linear, a, b)

  -- the first one tells
  pub left_or_not : (c d : OverlayCounted) → 0 < length items → (r : Bool) → MatchBool r (c.px <ℤ (get_or items 0 d).px) (c.px <ℤ (get_or items 0 d).px → ⊥) → MatchBool r (BeginsLeft items c) (BeginsLeft items c → ⊥)
  left_or_not c d some true less = left_of_all c d some less
  left_or_not c d some false never = λ all. never (all 0 d some)

pub crossing_counted : (cuts : List ℤ) (strip : ℕ) (items : List OverlayCounted) → AreInPlace (ComesIn cuts strip) IsCountedBefore items → All IsCounted items
crossing_counted cuts strip items h k d inside = (each_item (ComesIn cuts strip) IsCountedBefore items h k d inside).ordered

pub own_counted : (cuts : List ℤ) (strip : ℕ) (items : List OverlayCounted) → AreInPlace (IsOwn cuts strip) IsCountedBefore items → All IsCounted items
own_counted cuts strip items h k d inside = (each_item (IsOwn cuts strip) IsCountedBefore items h k d inside).ordered

-- ---- as they are told
pub told_labels : (op : Op) (passed_crossing passed_own : List OverlayCounted) → AreLabelLists passed_crossing passed_own → (crossing own : List Counted) (edges : List DirectedEdge)
    → passed_crossing ≡ map told_counted crossing → passed_own ≡ map told_counted own → AllPairs IsDirectedBefore edges
    → ((counted : List Counted) (cuts : List ℤ) (strip : ℕ) → TellLabels counted cuts strip crossing own → AreResultEdgesAlong op counted own edges)
    → (told : List OverlayDirected) → told ≡ map told_directed edges → AreLabelsOf op passed_crossing passed_own (one_list told)
told_labels op passed_crossing passed_own sound crossing own edges crossing_is own_is ascending along told edges_are = record {
  sound = sound;
  crossing = crossing;
  crossing_is = crossing_is;
  own = own;
  own_is = own_is;
  edges = edges;
  edges_are = edges_are;
  ascending = ascending;
  along = along;
}

pub told_going : (cuts : List ℤ) (strip : ℕ) (passed_crossing passed_own : List OverlayCounted) → AreGoingLists cuts strip passed_crossing passed_own → (crossing own going : List Counted)
    → passed_crossing ≡ map told_counted crossing → passed_own ≡ map told_counted own
    → ((counted : List Counted) → TellLabels counted cuts strip crossing own → ComeInto cuts (strip + 1) counted going)
    → (told : List OverlayCounted) → told ≡ map told_counted going → AreGoingOn cuts strip passed_crossing passed_own (one_list told)
told_going cuts strip passed_crossing passed_own sound crossing own going crossing_is own_is go told going_is = record {
  sound = sound;
  crossing = crossing;
  crossing_is = crossing_is;
  own = own;
  own_is = own_is;
  going = going;
  going_is = going_is;
  go = go;
}
