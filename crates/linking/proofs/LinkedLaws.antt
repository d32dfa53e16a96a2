-- What is found in shares of the records, one behind another.
use Rattle.std.proofs.Common.{◌≡◌, ◌≢◌, ℕ, ◌+◌, ◌-◌, ◌<◌, List, [], ◌∷◌, ◌++◌, Less, Equal, cond, length, get_or, refl, sym, ap, subst, ◌∙◌, arith, ⊎_elim}
use Rattle.std.proofs.Math.Logic.{∥∥₁_elim, ∥∥₁_map}
use Rattle.std.proofs.Props.{props}
use Rattle.std.proofs.lemmas.Int.{ints}
use Rattle.std.proofs.lemmas.List.{get_or-append-add, get_or-map, get_or_append_left, length-append, length-map}
use Rattle.std.proofs.lemmas.List.Elements.{Contains-append_cases, Contains-append_left, Contains-append_right, Contains-get_or}
use Rattle.std.proofs.lemmas.List.Sorted.{length_permutation, sum_by-IsPermutation}
use Rattle.std.proofs.lemmas.List.Sums.{sum_by-append, sum_by-cons}
use Rattle.std.proofs.lemmas.Option.{get_or_from_slice_get, slice_get-get_or, slice_get_within}
use Rattle.std.proofs.lemmas.Cmp.{tied_itself}
use Rattle.std.specs.Prelude.{◌<ℤ◌, All, AllPairs, Contains, None, count_by, flat_map, map, pos, sum_by}
use Rattle.std.specs.List.{AllZip}
use Rattle.std.specs.List.Sorted.{IsPermutation}
use Rattle.geom.specs.declared.point.Pt.{Pt}
use Rattle.geom.specs.declared.edge.Edge.{Edge}
use Rattle.geom.specs.declared.segment.Seg.{Seg}
use Rattle.grid.specs.Tiles.{HasTile, Owns, Tiling, tile_count}
use Rattle.hot_region.proofs.HotLaws.{hot_meets}
use Rattle.hot_region.proofs.ListLaws.{none_in, tail_pairs}
use Rattle.routing.specs.declared.record.Record.{Record}
use Rattle.routing.specs.Pieces.{IsRecord}
use Rattle.routing.proofs.RecordOrder.{record_total}
use Rattle.linking.specs.Links.{AreApart, AreNeighbourLinks, ChangesSegment, times_at}
use Rattle.linking.specs.Numbers.{AreTileCounts, IsCountOf}
use Rattle.linking.specs.declared.span.Share.{Share}
use Rattle.linking.specs.Orders.{record_order}
use Rattle.linking.specs.Shares.{AreKeysBelow, AreLinked, AreOrdered, AreSharesFrom, AreSums, HasLinked, HasRoutes, segment_of}
use Rattle.linking.specs.Spans.{within}
use Rattle.linking.proofs.Counted.{known_tile, pairs_append}
use Rattle.linking.proofs.Gathering.{AreCovered, record_before}
use Rattle.linking.proofs.Walk.{pixels_differ}
use Rattle.linking.proofs.RecordParts.{neighbour_links_append, pairs_across, pairs_back}
use Rattle.linking.proofs.ShareLaws.{all_shared, first_apart, ordered_append, ordered_one, zip_all, zip_append, zip_mapped, zip_weaker}

-- ---- counts of two lists that share no item
module _ {X : Type 0} (weight : X → ℕ) (xs ys : List X) (apart : (x y : X) → Contains xs x → Contains ys y → x ≢ y) where
  pub count_append : (P : X → Type 0) (m n : ℕ) → IsCountOf weight xs P m → IsCountOf weight ys P n → IsCountOf weight (xs ++ ys) P (m + n)
  count_append P m n h k = record {
    those = h.those ++ k.those;
    once = pairs_append (λ x y. x ≢ y) h.those k.those h.once k.once (λ x y a b. apart x y ((h.exact x).0 a).0 ((k.exact y).0 b).0);
    exact = λ x. (
      (λ c. ⊎_elim
          (λ i. let a = (h.exact x).0 i in (Contains-append_left xs ys x a.0, a.1))
          (λ i. let a = (k.exact x).0 i in (Contains-append_right xs ys x a.0, a.1)) (Contains-append_cases h.those k.those x c)),
      (λ c. ⊎_elim
          (λ i. Contains-append_left h.those k.those x ((h.exact x).1 (i, c.1)))
          (λ i. Contains-append_right h.those k.those x ((k.exact x).1 (i, c.1))) (Contains-append_cases xs ys x c.0)),
    );
    number_is = let l = sum_by-append weight h.those k.those in let a = h.number_is in let b = k.number_is in omega (arith, l, a, b);
  }

-- ---- the counts of lists that share no item, added
module _ {S X : Type 0} (g : Tiling) (pixel_of : X → Pt) (weight : X → ℕ) (items_of : S → List X) where
  abbrev pub AreCounted : List S → List (List ℕ) → Type 0
  AreCounted shares lists = AllZip (λ s counts. AreTileCounts g pixel_of weight (items_of s) counts) shares lists

  each_sum : (k : ℕ) → k < tile_count g → (shares : List S) (lists : List (List ℕ)) → AllPairs (λ x y. x ≢ y) (flat_map items_of shares) → AreCounted shares lists → IsCountOf weight (flat_map items_of shares) (λ x. Owns g k (pixel_of x)) (sum_by (λ counts. get_or counts k 0) lists)
  each_sum k l [] [] once zip = record { those = []; once = once; exact = λ x. (λ h. absurd (none_in x h), λ h. absurd (none_in x h.0)); number_is = refl }
  each_sum k l [] (c ∷ cs) once zip = absurd zip
  each_sum k l (s ∷ ss) [] once zip = absurd zip
  each_sum k l (s ∷ ss) (c ∷ cs) once zip =
      let size = zip.0.one_each in
      let front = zip.0.each k (get_or c k 0) (slice_get-get_or c k 0 (omega (arith, l, size))) in
      let back = each_sum k l ss cs (pairs_back (λ x y. x ≢ y) (items_of s) (flat_map items_of ss) once) zip.1 in
      subst (λ (n : ℕ). IsCountOf weight (items_of s ++ flat_map items_of ss) (λ x. Owns g k (pixel_of x)) n) (sym (sum_by-cons (λ counts. get_or counts k 0) c cs))
      (count_append weight (items_of s) (flat_map items_of ss) (pairs_across (λ x y. x ≢ y) (items_of s) (flat_map items_of ss) once) (λ x. Owns g k (pixel_of x)) (get_or c k 0) (sum_by (λ counts. get_or counts k 0) cs) front back)

  pub sums_are : (shares : List S) (lists : List (List ℕ)) (sums : List ℕ) → AllPairs (λ x y. x ≢ y) (flat_map items_of shares) → AreCounted shares lists → AreSums (tile_count g) lists sums → AreTileCounts g pixel_of weight (flat_map items_of shares) sums
  sums_are shares lists sums once zip h = record {
    one_each = h.one_each;
    each = λ k n at.
        let w = slice_get_within sums k n at in
        let size = h.one_each in
        let l : k < tile_count g = omega (arith, w, size) in
        subst (λ (m : ℕ). IsCountOf weight (flat_map items_of shares) (λ x. Owns g k (pixel_of x)) m) (sym (h.each k l) ∙ get_or_from_slice_get sums k n 0 at) (each_sum k l shares lists once zip);
  }

-- what lists have, taken out of them
pub all_unmapped : {X Y : Type 0} (P : Y → Type 0) (f : X → Y) (xs : List X) → All P (map f xs) → All (λ x. P (f x)) xs
all_unmapped P f xs h k d l = subst P (get_or-map f xs k d (f d) l) (h k (f d) (let e = length-map xs f in omega (arith, l, e)))

pub sum_by_mapped : {X Y : Type 0} (n : Y → ℕ) (f : X → Y) (xs : List X) → sum_by n (map f xs) ≡ sum_by (λ x. n (f x)) xs
sum_by_mapped n f [] = refl
sum_by_mapped n f (x ∷ xs) = sum_by-cons n (f x) (map f xs) ∙ ap (λ (m : ℕ). n (f x) + m) (sum_by_mapped n f xs) ∙ sym (sum_by-cons (λ y. n (f y)) x xs)

-- ---- links of two lists of records, whose segments are apart
pub links_append : {M L : Type 0} (link_of : M → Edge → L) (makers : List M) (front back : List Record) (links rest : List L) → AreKeysBelow segment_of front back → AreNeighbourLinks link_of makers front links → AreNeighbourLinks link_of makers back rest → AreNeighbourLinks link_of makers (front ++ back) (links ++ rest)
links_append link_of makers [] back links rest apart f b = record {
  few = let n = length-append links rest in let p = f.few in let q = b.few in omega (arith, n, p, q);
  count_is = λ e wanted test pass.
      let both : count_by test (links ++ rest) ≡ count_by test links + count_by test rest = sum_by-append (λ m. cond (test m) 1 0) links rest in
      let none : count_by test links ≡ 0 = f.count_is e wanted test pass in
      let q = b.count_is e wanted test pass in
      omega (arith, both, none, q);
}
links_append link_of makers (r ∷ rs) back links rest apart f b = neighbour_links_append link_of makers (r ∷ rs) back links rest (omega arith) changes f b
  where
    changes : ChangesSegment ((r ∷ rs) ++ back) (length (r ∷ rs))
    changes d l e =
        let n = length-append (r ∷ rs) back in
        let i = length (r ∷ rs) - 1 in
        let within : i < length (r ∷ rs) = omega arith in
        let some : 0 < length back = omega (arith, l, n) in
        let x = get_or (r ∷ rs) i d in
        let y = get_or back 0 d in
        let a : get_or ((r ∷ rs) ++ back) i d ≡ x = get_or_append_left (r ∷ rs) back d i within in
        let at : length (r ∷ rs) + 0 ≡ length (r ∷ rs) = omega arith in
        let b : get_or ((r ∷ rs) ++ back) (length (r ∷ rs)) d ≡ y = subst (λ (m : ℕ). get_or ((r ∷ rs) ++ back) m d ≡ y) at (get_or-append-add (r ∷ rs) back 0 d) in
        let below : pos x.segment <ℤ pos y.segment = apart x y (Contains-get_or (r ∷ rs) i d within) (Contains-get_or back 0 d some) in
        let same : x.segment ≡ y.segment = sym (ap (λ (q : Record). q.segment) a) ∙ e ∙ ap (λ (q : Record). q.segment) b in
        omega (arith, ints, below, same)

-- ---- links in another order
module _ {M L : Type 0} (g : Tiling) (link_of : M → Edge → L) (times_of : M → ℕ) (makers : List M) (links sorted : List L) (counts : List ℕ) (moved : IsPermutation links sorted) where
  linked_moved : (records : List Record) → AreLinked g link_of times_of makers records links counts → AreLinked g link_of times_of makers records sorted counts
  linked_moved records h = record {
    links_are = record {
      few = let n = length_permutation links sorted moved in let f = h.links_are.few in omega (arith, n, f);
      count_is = λ e wanted test pass. sum_by-IsPermutation (λ m. cond (test m) 1 0) links sorted moved ∙ h.links_are.count_is e wanted test pass;
    };
    counts_are = h.counts_are;
  }

  pub routes_moved : (segments : List Seg) (first past : ℕ) (inner : List Record) → HasRoutes g link_of times_of segments makers first past inner links counts → HasRoutes g link_of times_of segments makers first past inner sorted counts
  routes_moved segments first past inner h = record { records = h.records; ascending = h.ascending; has = h.has; linked = linked_moved h.records h.linked }

-- ---- links of shares, one behind another
module _ {K V M L : Type 0} (link_of : M → Edge → L) (makers : List M) (items_of : K → List Record) (links_of : V → List L) where
  pub all_links : (shares : List K) (vs : List V) → AllPairs (λ s t. AreKeysBelow segment_of (items_of s) (items_of t)) shares → AllZip (λ s v. AreNeighbourLinks link_of makers (items_of s) (links_of v)) shares vs → AreNeighbourLinks link_of makers (flat_map items_of shares) (flat_map links_of vs)
  all_links [] [] up zip = record { few = omega arith; count_is = λ e wanted test pass. refl }
  all_links [] (v ∷ vs) up zip = absurd zip
  all_links (s ∷ ss) [] up zip = absurd zip
  all_links (s ∷ ss) (v ∷ vs) up zip = links_append link_of makers (items_of s) (flat_map items_of ss) (links_of v) (flat_map links_of vs) (first_apart items_of segment_of s ss up) zip.0
      (all_links ss vs (tail_pairs (λ s t. AreKeysBelow segment_of (items_of s) (items_of t)) s ss up) zip.1)

pub records_differ : (records : List Record) → AllPairs (λ r q. record_order r q ≡ Less) records → AllPairs (λ r q. r ≢ q) records
records_differ records up i j d a b e = never_itself (get_or records j d) (subst (λ (q : Record). record_order q (get_or records j d) ≡ Less) e (up i j d a b))
  where
    never_itself : (r : Record) → record_order r r ≡ Less → ⊥
    never_itself r l = let o : record_order r r ≡ Equal = tied_itself record_total r in absurd (cc)

-- what was found in shares of records
module _ {K V M L : Type 0} (g : Tiling) (link_of : M → Edge → L) (times_of : M → ℕ) (makers : List M) (items_of : K → List Record) (links_of : V → List L) (counts_of : V → List ℕ) (shares : List K) (vs : List V)
    (zip : AllZip (λ s v. AreLinked g link_of times_of makers (items_of s) (links_of v) (counts_of v)) shares vs) where
  counted : AllZip (λ s counts. AreTileCounts g (λ r. r.pixel) (λ r. times_at times_of makers r.segment) (items_of s) counts) shares (map counts_of vs)
  counted = zip_mapped (λ s counts. AreTileCounts g (λ r. r.pixel) (λ r. times_at times_of makers r.segment) (items_of s) counts) counts_of shares vs (zip_weaker _ _ (λ s v h. h.counts_are) shares vs zip)

  pub same_sizes : All (λ counts. length counts ≡ tile_count g) (map counts_of vs)
  same_sizes = zip_all (λ counts. length counts ≡ tile_count g) shares (map counts_of vs) (zip_weaker _ _ (λ s counts h. h.one_each) shares (map counts_of vs) counted)

  pub all_linked : (links : List L) (sums : List ℕ) → AllPairs (λ s t. AreKeysBelow segment_of (items_of s) (items_of t)) shares → AllPairs (λ r q. r ≢ q) (flat_map items_of shares)
      → links ≡ flat_map links_of vs → AreSums (tile_count g) (map counts_of vs) sums → AreLinked g link_of times_of makers (flat_map items_of shares) links sums
  all_linked links sums up once are h = record {
    links_are = subst (λ (ls : List L). AreNeighbourLinks link_of makers (flat_map items_of shares) ls) (sym are) (all_links link_of makers items_of links_of shares vs up (zip_weaker _ _ (λ s v h. h.links_are) shares vs zip));
    counts_are = sums_are g (λ r. r.pixel) (λ r. times_at times_of makers r.segment) items_of shares (map counts_of vs) sums once counted h;
  }

-- ---- what was found in shares of all records
-- so many lists of these, in order, of which each is linked
pub record AreLinkedInShares {V M L : Type 0} (g : Tiling) (link_of : M → Edge → L) (times_of : M → ℕ) (makers : List M) (links_of : V → List L) (counts_of : V → List ℕ) (found : List Record) (vs : List V) : Type 0 where
  pub lists : List (List Record)
  pub ordered : AreOrdered (λ l. l) found lists
  pub zip : AllZip (λ l v. AreLinked g link_of times_of makers l (links_of v) (counts_of v)) lists vs

module _ {V M L : Type 0} (g : Tiling) (link_of : M → Edge → L) (times_of : M → ℕ) (makers : List M) (links_of : V → List L) (counts_of : V → List ℕ) where
  abbrev InShares : List Record → List V → Type 0
  InShares found vs = AreLinkedInShares g link_of times_of makers links_of counts_of found vs

  one_share : (found : List Record) (v : V) → HasLinked g link_of times_of makers found (links_of v) (counts_of v) → InShares found (v ∷ [])
  one_share found v h = record { lists = h.records ∷ []; ordered = ordered_one (λ l. l) h.records found h.once; zip = (h.linked, tt) }

  shares_append : (found low high : List Record) (front back : List V) → IsPermutation found (low ++ high) → AreKeysBelow segment_of low high → InShares low front → InShares high back → InShares found (front ++ back)
  shares_append found low high front back moved apart f b = record {
    lists = f.lists ++ b.lists;
    ordered = ordered_append (λ l. l) found low high f.lists b.lists moved apart f.ordered b.ordered;
    zip = zip_append (λ l v. AreLinked g link_of times_of makers l (links_of v) (counts_of v)) f.lists b.lists front back f.zip b.zip;
  }

  pub shares_linked : (found : List Record) (shares : List Share) (vs : List V) → AreSharesFrom None shares → AllZip (λ s v. HasLinked g link_of times_of makers (within segment_of s.span found) (links_of v) (counts_of v)) shares vs → InShares found vs
  shares_linked found shares vs all zip = all_shared segment_of InShares shares_append found shares vs all (zip_weaker _ _ (λ s v h. one_share (within segment_of s.span found) v h) shares vs zip)

  module _ (found : List Record) (vs : List V) (h : InShares found vs) where
    pub share_sizes : All (λ counts. length counts ≡ tile_count g) (map counts_of vs)
    share_sizes = same_sizes g link_of times_of makers (λ l. l) links_of counts_of h.lists vs h.zip

    pub shares_joined : (links : List L) (sums : List ℕ) → links ≡ flat_map links_of vs → AreSums (tile_count g) (map counts_of vs) sums → HasLinked g link_of times_of makers found links sums
    shares_joined links sums are k = record {
      records = flat_map (λ l. l) h.lists;
      once = h.ordered.sorted;
      linked = all_linked g link_of times_of makers (λ l. l) links_of counts_of h.lists vs h.zip links sums h.ordered.ascending (records_differ (flat_map (λ l. l) h.lists) h.ordered.sorted.ascending) are k;
    }

-- ---- records of segments, in order and each once
module _ (segments : List Seg) (records : List Record) (known : (r : Record) → Contains records r → ∥ IsRecord segments r ∥₁) where
  pub known_tiles : (g : Tiling) → AreCovered g segments → All (λ r. HasTile g r.pixel) records
  known_tiles g covered k d l = known_tile g (get_or records k d).pixel (∥∥₁_map (known (get_or records k d) (Contains-get_or records k d l)) (λ h. let m = hot_meets segments (get_or records k d).pixel h.hot in covered.tile m.0 (get_or records k d).pixel m.1 m.2))

  pub known_apart : AllPairs (λ r q. record_order r q ≡ Less) records → AreApart records
  known_apart up i j d a b e f =
      ∥∥₁_elim (known (get_or records i d) (Contains-get_or records i d (omega arith))) (hlevel props) (λ u.
      ∥∥₁_elim (known (get_or records j d) (Contains-get_or records j d b)) (hlevel props) (λ v. pixels_differ segments (get_or records i d) (get_or records j d) u v (record_before segments (get_or records i d) (get_or records j d) u v (up i j d a b)) e f))
