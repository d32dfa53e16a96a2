-- Links that occur an odd number of times: those of parts behind one another, and of links in another order.
use Rattle.std.proofs.Common.{◌≡◌, ◌⊎◌, inl, inr, ◌<◌, List, ◌++◌, Bool, true, false, Ordering, Less, Equal, Greater, cond, get_or, refl, sym, ap, ◌∙◌, arith, subst, ⊎_elim}
use Rattle.std.proofs.lemmas.Cmp.{nat_cmp_total, on_total, ranked, then_total}
use Rattle.std.proofs.lemmas.Grind.{flat_map-append}
use Rattle.std.proofs.lemmas.List.{append-nil}
use Rattle.std.proofs.lemmas.List.Elements.{Contains-append_cases, Contains-append_left, Contains-append_right}
use Rattle.std.proofs.lemmas.List.Sorted.{ranks_by, sorted_far, sum_by-IsPermutation}
use Rattle.std.specs.Cmp.{IsTotalOrder}
use Rattle.std.specs.List.{AllZip}
use Rattle.std.specs.List.Sorted.{IsPermutation, IsSorted}
use Rattle.std.specs.Ordering.{MatchOrdering, is_lt, nat_cmp, ordering_then}
use Rattle.std.specs.Prelude.{Contains, None, count_by, flat_map}
use Rattle.geom.specs.EdgeOrder.{IsEdgeBefore}
use Rattle.geom.specs.Rounded.{is_odd}
use Rattle.geom.proofs.Lists.{In, in_contains}
use Rattle.geom.proofs.Orders.{edge_before_itself, edge_cmp, edge_ranks, edge_total}
use Rattle.points_law.proofs.Choices.{◌⊕◌, par}
use Rattle.points_law.proofs.Degrees.{par-append}
use Rattle.points_law.proofs.Even.{not_true}
use Rattle.points_law.proofs.Layers.{odd_is}
use Rattle.cover_law.proofs.InRow.{some_odd}
use Rattle.feature_links.specs.declared.link.FeatureLink.{FeatureLink}
use Rattle.feature_links.specs.Odd.{AreInOrder, AreOdd, IsLinkBefore, same_link}
use Rattle.feature_links.proofs.OddLaws.{link_path, same_true}
use Rattle.linking.specs.Orders.{feature_link_order}
use Rattle.linking.specs.Shares.{AreKeysBelow, AreSharesFrom, feature_column_of}
use Rattle.linking.specs.Spans.{within}
use Rattle.linking.specs.declared.span.Share.{Share}
use Rattle.linking.proofs.Counted.{pairs_append}
use Rattle.linking.proofs.LinkParts.{left_of}
use Rattle.linking.proofs.ShareLaws.{all_shared, zip_weaker}

none_left : (a b : Bool) → a ≡ true → b ≡ false → a ⊕ b ≡ true
none_left a b h k = grind arith

none_before : (a b : Bool) → a ≡ false → b ≡ true → a ⊕ b ≡ true
none_before a b h k = grind arith

the_other : (a b : Bool) → a ≡ false → a ⊕ b ≡ true → b ≡ true
the_other a b h k = grind arith

abbrev odd_in : FeatureLink → List FeatureLink → Bool
odd_in l links = is_odd (count_by (same_link l) links)

-- a link that occurs an odd number of times occurs
pub odd_occurs : (l : FeatureLink) (links : List FeatureLink) → odd_in l links ≡ true → Contains links l
odd_occurs l links t =
    let o = some_odd (same_link l) links (sym (odd_is (same_link l) links) ∙ t) in
    in_contains links l (subst (λ (m : FeatureLink). In m links) (sym (same_true l o.0 o.2)) o.1)

-- the edges of the one part go before those of the other
module _ (front back odd rest : List FeatureLink) (parted : (l m : FeatureLink) → Contains front l → Contains back m → IsEdgeBefore l.edge m.edge) (f : AreOdd front odd) (b : AreOdd back rest) where
  whole : (l : FeatureLink) → odd_in l (front ++ back) ≡ odd_in l front ⊕ odd_in l back
  whole l =
      odd_is (same_link l) (front ++ back) ∙ par-append (same_link l) front back
      ∙ ap (λ (t : Bool). t ⊕ par (same_link l) back) (sym (odd_is (same_link l) front)) ∙ ap (λ (t : Bool). odd_in l front ⊕ t) (sym (odd_is (same_link l) back))

  in_one : (l : FeatureLink) → odd_in l front ≡ true → odd_in l back ≡ true → ⊥
  in_one l t u = edge_before_itself l.edge (parted l l (odd_occurs l front t) (odd_occurs l back u))

  to : (l : FeatureLink) → Contains (odd ++ rest) l → odd_in l (front ++ back) ≡ true
  to l c = ⊎_elim
      (λ i. let t = (f.exact l).0 i in whole l ∙ none_left (odd_in l front) (odd_in l back) t (not_true (odd_in l back) (in_one l t)))
      (λ i. let u = (b.exact l).0 i in whole l ∙ none_before (odd_in l front) (odd_in l back) (not_true (odd_in l front) (λ t. in_one l t u)) u)
      (Contains-append_cases odd rest l c)

  from : (l : FeatureLink) → odd_in l (front ++ back) ≡ true → Contains (odd ++ rest) l
  from l t = by_front (odd_in l front) refl
    where
      by_front : (a : Bool) → odd_in l front ≡ a → Contains (odd ++ rest) l
      by_front true e = Contains-append_left odd rest l ((f.exact l).1 e)
      by_front false e = Contains-append_right odd rest l ((b.exact l).1 (the_other (odd_in l front) (odd_in l back) e (sym (whole l) ∙ t)))

  pub odd_append : AreOdd (front ++ back) (odd ++ rest)
  odd_append = record {
    ascending = pairs_append IsLinkBefore odd rest f.ascending b.ascending (λ l m i j. inl (parted l m (odd_occurs l front ((f.exact l).0 i)) (odd_occurs m back ((b.exact m).0 j))));
    exact = λ l. (to l, from l);
  }

-- of links in another order
pub odd_moved : (links sorted odd : List FeatureLink) → IsPermutation links sorted → AreOdd sorted odd → AreOdd links odd
odd_moved links sorted odd moved h = record {
  ascending = h.ascending;
  exact = λ l. ((λ c. ap is_odd (sym (same l)) ∙ (h.exact l).0 c), (λ t. (h.exact l).1 (ap is_odd (same l) ∙ t)));
}
  where
    same : (l : FeatureLink) → count_by (same_link l) sorted ≡ count_by (same_link l) links
    same l = sum_by-IsPermutation (λ m. cond (same_link l m) 1 0) links sorted moved

-- ---- links that are sorted
feature_link_total : IsTotalOrder feature_link_order
feature_link_total = then_total (on_total (λ (l : FeatureLink). l.edge) edge_total) (on_total (λ (l : FeatureLink). l.feature) nat_cmp_total)

pub features_in_order : (links : List FeatureLink) → IsSorted feature_link_order links → AreInOrder links
features_in_order links up i j d l k = judge (get_or links i d) (get_or links j d) (sorted_far (λ l m. is_lt (feature_link_order l m)) (ranks_by feature_link_total (λ (l : FeatureLink). l)) links up i j d (omega arith) k)
  where
    tell : (l m : FeatureLink) (o c : Ordering) → MatchOrdering o (IsEdgeBefore m.edge l.edge) (m.edge ≡ l.edge) (IsEdgeBefore l.edge m.edge) → MatchOrdering c (m.feature < l.feature) (m.feature ≡ l.feature) (l.feature < m.feature) → is_lt (ordering_then o c) ≡ false → (l ≡ m) ⊎ IsLinkBefore l m
    tell l m Less c g k h = absurd (cc)
    tell l m Equal Less g k h = absurd (cc)
    tell l m Equal Equal g k h = inl (link_path l m (sym g) (sym k))
    tell l m Equal Greater g k h = inr (inr (sym g, k))
    tell l m Greater c g k h = inr (inl g)

    judge : (l m : FeatureLink) → is_lt (feature_link_order m l) ≡ false → (l ≡ m) ⊎ IsLinkBefore l m
    judge l m h = tell l m (edge_cmp m.edge l.edge) (nat_cmp m.feature l.feature) (edge_ranks m.edge l.edge) (ranked m.feature l.feature (nat_cmp m.feature l.feature) refl) h

-- ---- shares
-- what is left of shares, one behind another
module _ {V : Type 0} (odd_of : V → List FeatureLink) where
  abbrev HaveOdd : List FeatureLink → List V → Type 0
  HaveOdd found vs = AreOdd found (flat_map odd_of vs)

  both_odd : (found low high : List FeatureLink) (front behind : List V) → IsPermutation found (low ++ high) → AreKeysBelow feature_column_of low high → HaveOdd low front → HaveOdd high behind → HaveOdd found (front ++ behind)
  both_odd found low high front behind moved apart f b = subst (λ (ls : List FeatureLink). AreOdd found ls) (sym (flat_map-append odd_of front behind))
      (odd_moved found (low ++ high) (flat_map odd_of front ++ flat_map odd_of behind) moved
      (odd_append low high (flat_map odd_of front) (flat_map odd_of behind) (λ l m i j. left_of l.edge m.edge (apart l m i j)) f b))

  pub shared_odd : (found : List FeatureLink) (shares : List Share) (vs : List V) → AreSharesFrom None shares → AllZip (λ s v. AreOdd (within feature_column_of s.span found) (odd_of v)) shares vs → AreOdd found (flat_map odd_of vs)
  shared_odd found shares vs all zip = all_shared feature_column_of HaveOdd both_odd found shares vs all
      (zip_weaker _ _ (λ s v h. subst (λ (ls : List FeatureLink). AreOdd (within feature_column_of s.span found) ls) (sym (append-nil (odd_of v))) h) shares vs zip)
