-- Links that are sorted: their parts, and the counts of these behind one another.
use Rattle.std.proofs.Common.{◌≡◌, inl, inr, ℕ, zero, suc, ◌+◌, ◌<◌, List, ◌++◌, refl, sym, ◌∙◌, arith, subst, ⊎_elim}
use Rattle.std.proofs.lemmas.Int.{ints}
use Rattle.std.specs.Prelude.{◌<ℤ◌, Contains, None, flat_map}
use Rattle.std.specs.List.{AllZip}
use Rattle.std.specs.List.Sorted.{IsPermutation, IsSorted}
use Rattle.std.proofs.lemmas.Bool.{cases_lt}
use Rattle.std.proofs.lemmas.Grind.{flat_map-append}
use Rattle.std.proofs.lemmas.List.{append-nil}
use Rattle.std.proofs.lemmas.List.Elements.{Contains-append_cases, Contains-append_left, Contains-append_right}
use Rattle.std.proofs.lemmas.List.Sorted.{sum_by-IsPermutation}
use Rattle.std.proofs.lemmas.List.Sums.{sum_by-append}
use Rattle.geom.specs.declared.segment.Source.{Source}
use Rattle.geom.specs.declared.segment.Source.TheVariants.{A, B}
use Rattle.geom.specs.declared.edge.Edge.{Edge}
use Rattle.geom.specs.declared.edge.Counted.{Counted}
use Rattle.geom.specs.Rounded.{IsEdgeBefore}
use Rattle.geom.proofs.Orders.{edge_before_itself}
use Rattle.linking.specs.declared.link.Link.{Link}
use Rattle.linking.specs.Links.{AreCounts, AreInOrder, GoBefore, copies_of, count_links}
use Rattle.linking.specs.Orders.{link_order}
use Rattle.linking.specs.Shares.{AreKeysBelow, AreSharesFrom, column_of}
use Rattle.linking.specs.Spans.{within}
use Rattle.linking.specs.declared.span.Share.{Share}
use Rattle.linking.proofs.Counted.{pairs_append}
use Rattle.linking.proofs.ShareLaws.{all_shared, zip_weaker}
use Rattle.linking.proofs.Tally.{IsExact, link_total, linked, sorted_edges}

pub sorted_in_order : (links : List Link) → IsSorted link_order links → AreInOrder links
sorted_in_order links up i j d l k = sorted_edges link_order link_total (λ l m. (_, refl)) links up i j d (omega arith) k

-- ---- parts
pub left_of : (e f : Edge) → e.p.x <ℤ f.p.x → IsEdgeBefore e f
left_of e f h = inl (record { column = omega (arith, ints); row = λ is. absurd (let a = h in let b = is in omega (arith, ints)) })

-- the first ends of the links of one part lie left of those of the other
pub parted_columns : (front back : List Link) → AreKeysBelow column_of front back → GoBefore front back
parted_columns front back apart l k a b = left_of l.edge k.edge (apart l k a b)

-- ---- counts
module _ (front back : List Link) (cs ds : List Counted) (parted : GoBefore front back) (f : AreCounts front cs) (b : AreCounts back ds) where
  abbrev total : List Link → Edge → ℕ
  total links e = count_links e A links + count_links e B links

  both : (e : Edge) (layer : Source) → count_links e layer (front ++ back) ≡ count_links e layer front + count_links e layer back
  both e layer = sum_by-append (copies_of e layer) front back

  -- no edge has links in both parts
  in_one : (e : Edge) → 0 < total front e → 0 < total back e → ⊥
  in_one e p q =
      let (l, k, is) = linked front e p in
      let (m, n, too) = linked back e q in
      edge_before_itself e (subst (λ (x : Edge × Edge). IsEdgeBefore x.0 x.1) (λ t. (sym is t, sym too t)) (parted l m k n))

  none : (n : ℕ) → (0 < n → ⊥) → n ≡ 0
  none zero never = refl
  none (suc n) never = absurd (never (omega arith))

  front_total : (c : Counted) → IsExact front c → 0 < total front c.edge
  front_total c (p, q, r) = omega arith

  back_total : (c : Counted) → IsExact back c → 0 < total back c.edge
  back_total c (p, q, r) = omega arith

  from_front : (c : Counted) → IsExact front c → IsExact (front ++ back) c
  from_front c h =
      let z = none (total back c.edge) (in_one c.edge (front_total c h)) in
      let x = both c.edge A in
      let y = both c.edge B in
      let (p, q, r) = h in
      (omega arith, omega arith, r)

  from_back : (c : Counted) → IsExact back c → IsExact (front ++ back) c
  from_back c h =
      let z = none (total front c.edge) (λ p. in_one c.edge p (back_total c h)) in
      let x = both c.edge A in
      let y = both c.edge B in
      let (p, q, r) = h in
      (omega arith, omega arith, r)

  to_part : (c : Counted) → IsExact (front ++ back) c → Contains (cs ++ ds) c
  to_part c (p, q, r) =
      let x = both c.edge A in
      let y = both c.edge B in
      elim (cases_lt 0 (total front c.edge)) [
        | inl some ↦
            let z = none (total back c.edge) (in_one c.edge some) in
            Contains-append_left cs ds c ((f.exact c).1 (omega arith, omega arith, r))
        | inr at_most ↦ Contains-append_right cs ds c ((b.exact c).1 (omega arith, omega arith, r))
      ]

  before : (c d : Counted) → Contains cs c → Contains ds d → IsEdgeBefore c.edge d.edge
  before c d k n =
      let (l, i, is) = linked front c.edge (front_total c ((f.exact c).0 k)) in
      let (m, j, too) = linked back d.edge (back_total d ((b.exact d).0 n)) in
      subst (λ (x : Edge × Edge). IsEdgeBefore x.0 x.1) (λ t. (sym is t, sym too t)) (parted l m i j)

  pub counts_append : AreCounts (front ++ back) (cs ++ ds)
  counts_append = record {
    ascending = pairs_append (λ c d. IsEdgeBefore c.edge d.edge) cs ds f.ascending b.ascending before;
    exact = λ c. (λ k. ⊎_elim (λ i. from_front c ((f.exact c).0 i)) (λ i. from_back c ((b.exact c).0 i)) (Contains-append_cases cs ds c k), to_part c);
  }

-- the counts of links are those of the links in another order
pub counts_moved : (links sorted : List Link) (cs : List Counted) → IsPermutation links sorted → AreCounts sorted cs → AreCounts links cs
counts_moved links sorted cs moved h = record {
  ascending = h.ascending;
  exact = λ c. (
    (λ k. let (a, b, p) = (h.exact c).0 k in (same c.edge A ∙ a, same c.edge B ∙ b, p)),
    (λ (a, b, p). (h.exact c).1 (sym (same c.edge A) ∙ a, sym (same c.edge B) ∙ b, p)),
  );
}
  where
    same : (e : Edge) (layer : Source) → count_links e layer links ≡ count_links e layer sorted
    same e layer = sym (sum_by-IsPermutation (copies_of e layer) links sorted moved)

-- the counts of shares, one behind another
module _ {V : Type 0} (counts_of : V → List Counted) where
  abbrev HaveCounts : List Link → List V → Type 0
  HaveCounts found vs = AreCounts found (flat_map counts_of vs)

  both_counts : (found low high : List Link) (front behind : List V) → IsPermutation found (low ++ high) → AreKeysBelow column_of low high → HaveCounts low front → HaveCounts high behind → HaveCounts found (front ++ behind)
  both_counts found low high front behind moved apart f b = subst (λ (cs : List Counted). AreCounts found cs) (sym (flat_map-append counts_of front behind))
      (counts_moved found (low ++ high) (flat_map counts_of front ++ flat_map counts_of behind) moved (counts_append low high (flat_map counts_of front) (flat_map counts_of behind) (parted_columns low high apart) f b))

  pub shared_counts : (found : List Link) (shares : List Share) (vs : List V) → AreSharesFrom None shares → AllZip (λ s v. AreCounts (within column_of s.span found) (counts_of v)) shares vs → AreCounts found (flat_map counts_of vs)
  shared_counts found shares vs all zip = all_shared column_of HaveCounts both_counts found shares vs all
      (zip_weaker _ _ (λ s v h. subst (λ (cs : List Counted). AreCounts (within column_of s.span found) cs) (sym (append-nil (counts_of v))) h) shares vs zip)
