-- Counting links that are sorted.
use Rattle.std.proofs.Common.{◌≡◌, ◌⊎◌, inl, inr, ℕ, zero, suc, ◌+◌, ◌<◌, ◌≤◌, List, [], ◌∷◌, ◌++◌, Bool, true, false, cond, Ordering, Less, Equal, Greater, refl, sym, ◌∙◌, ap, arith, subst, length, get_or, take, ⊎_elim}
use Rattle.std.specs.Prelude.{AllPairs, Contains, not, sum_by}
use Rattle.std.specs.Cmp.{IsTotalOrder}
use Rattle.std.specs.List.Sorted.{IsSorted}
use Rattle.std.specs.Ordering.{ordering_then, MatchOrdering, is_lt}
use Rattle.std.proofs.lemmas.Bool.{cases_lt}
use Rattle.std.proofs.lemmas.List.{get_or_default, take_all, take_more}
use Rattle.std.proofs.lemmas.List.Elements.{Contains-get_or, Contains-push, Contains-push_cases}
use Rattle.std.proofs.lemmas.List.Quantifiers.{all_pairs_push}
use Rattle.std.proofs.lemmas.List.Sums.{sum_by-cons, sum_by_push}
use Rattle.std.proofs.lemmas.List.Sorted.{sorted_far, ranks_by}
use Rattle.std.proofs.lemmas.Cmp.{nat_cmp_total, on_total, then_total}
use Rattle.geom.specs.declared.segment.Source.{Source}
use Rattle.geom.specs.declared.segment.Source.TheVariants.{A, B}
use Rattle.geom.specs.declared.edge.Edge.{Edge}
use Rattle.geom.specs.declared.edge.Counted.{Counted}
use Rattle.geom.specs.Rounded.{IsEdgeBefore}
use Rattle.geom.proofs.Points.{same_point_refl}
use Rattle.hot_region.proofs.ListLaws.{in_cons, here, none_in, in_push, in_take_more, no_true}
use Rattle.linking.specs.Orders.{link_order}
use Rattle.geom.proofs.Orders.{edge_cmp, edge_total, edge_ranks, edge_before_itself, edge_before_trans, same_edge_true}
use Rattle.distinct.specs.Copies.{copies_in}
use Rattle.linking.specs.declared.link.Link.{Link}
use Rattle.linking.specs.Links.{same_edge, copies_of, count_links, AreCounts, AreInOrder}

-- the k-th link
pub record IsAt {X : Type 0} (xs : List X) (k : ℕ) (x : X) : Type 0 where
  pub below : k < length xs
  pub item : get_or xs k x ≡ x

pub edge_refl : (e : Edge) → same_edge e e ≡ true
edge_refl e = rw (same_point_refl e.p, same_point_refl e.q) refl

-- ---- links that are sorted
abbrev pub IsUpTo : Edge → Edge → Type 0
IsUpTo e f = (e ≡ f) ⊎ IsEdgeBefore e f

pub sorted_edges : (R : Link → Link → Ordering) (total : IsTotalOrder R) → ((l m : Link) → (o : Ordering) × (R l m ≡ ordering_then (edge_cmp l.edge m.edge) o)) → (links : List Link) → IsSorted R links
    → (i j : ℕ) (d : Link) → i ≤ j → j < length links → IsUpTo (get_or links i d).edge (get_or links j d).edge
sorted_edges R total by links up i j d h k = judge (get_or links i d) (get_or links j d) (sorted_far (λ l m. is_lt (R l m)) (ranks_by total (λ (l : Link). l)) links up i j d h k)
  where
    tell : (e f : Edge) (o c : Ordering) → c ≡ edge_cmp f e → MatchOrdering c (IsEdgeBefore f e) (f ≡ e) (IsEdgeBefore e f) → is_lt (ordering_then c o) ≡ false → IsUpTo e f
    tell e f o Less g m h = absurd (cc)
    tell e f o Equal g m h = inl (sym m)
    tell e f o Greater g m h = inr m

    judge : (l m : Link) → is_lt (R m l) ≡ false → IsUpTo l.edge m.edge
    judge l m h = let b = by m l in tell l.edge m.edge b.0 (edge_cmp m.edge l.edge) refl (edge_ranks m.edge l.edge) (rw b.1 at h)

other_edge : (e f : Edge) → (e ≡ f → ⊥) → same_edge e f ≡ false
other_edge e f h = no_true (same_edge e f) (λ k. h (same_edge_true e f k))

-- ---- a count that grows by one link
count_push : (e : Edge) (layer : Source) (links : List Link) (l : Link) → count_links e layer (links ++ l ∷ []) ≡ count_links e layer links + copies_of e layer l
count_push e layer links l = sum_by_push (copies_of e layer) links l

count_other : (e : Edge) (layer : Source) (links : List Link) (l : Link) → (e ≡ l.edge → ⊥) → count_links e layer (links ++ l ∷ []) ≡ count_links e layer links
count_other e layer links l h = let a = count_push e layer links l in let b : copies_of e layer l ≡ 0 = rw (other_edge e l.edge h) refl in omega arith

count_same : (e : Edge) (layer : Source) (links : List Link) (l : Link) → e ≡ l.edge → count_links e layer (links ++ l ∷ []) ≡ count_links e layer links + copies_in layer l.copies
count_same e layer links l h = count_push e layer links l ∙ ap (λ (b : Bool). count_links e layer links + cond b (copies_in layer l.copies) 0) (subst (λ (f : Edge). same_edge e f ≡ true) h (edge_refl e))

-- a sum above 0 has a term above 0
pub sum_has : {X : Type 0} (f : X → ℕ) (xs : List X) → 0 < sum_by f xs → (x : X) × Contains xs x × (0 < f x)
sum_has f [] h = absurd (omega arith)
sum_has {X = X} f (x ∷ xs) h = elim (cases_lt 0 (f x)) [
  | inl some ↦ (x, here x xs, some)
  | inr none ↦ let c = sum_by-cons f x xs in let (y, k, more) = sum_has f xs (omega arith) in (y, in_cons x xs y k, more)
]

-- a link that has copies of the edge is of the edge
of_edge : (e : Edge) (layer : Source) (l : Link) → 0 < copies_of e layer l → e ≡ l.edge
of_edge e layer l h = by_test (same_edge e l.edge) refl
  where
    by_test : (b : Bool) → same_edge e l.edge ≡ b → e ≡ l.edge
    by_test true is = same_edge_true e l.edge is
    by_test false is = let none : copies_of e layer l ≡ 0 = rw is refl in absurd (omega arith)

-- an edge with a count has a link
pub linked : (links : List Link) (e : Edge) → 0 < count_links e A links + count_links e B links → (m : Link) × Contains links m × (e ≡ m.edge)
linked links e p = by_count (count_links e A links) refl
  where
    found : (layer : Source) → 0 < count_links e layer links → (m : Link) × Contains links m × (e ≡ m.edge)
    found layer q = let (m, k, some) = sum_has (copies_of e layer) links q in (m, k, of_edge e layer m some)

    by_count : (n : ℕ) → count_links e A links ≡ n → (m : Link) × Contains links m × (e ≡ m.edge)
    by_count zero is = found B (omega arith)
    by_count (suc n) is = found A (omega arith)

-- ---- the loop
abbrev pub IsExact : List Link → Counted → Type 0
IsExact links c = (count_links c.edge A links ≡ c.in_a) × (count_links c.edge B links ≡ c.in_b) × (0 < c.in_a + c.in_b)

-- the first i links are counted: in the list those of the edges before the current one, which has its own counts
pub record IsTally (links : List Link) (i : ℕ) (list : List Counted) (current : Counted) : Type 0 where
  pub ascending : AllPairs (λ c d. IsEdgeBefore c.edge d.edge) list
  pub below : (c : Counted) → Contains list c → IsEdgeBefore c.edge current.edge
  pub counted : (c : Counted) → Contains list c → IsExact (take i links) c
  pub in_a : count_links current.edge A (take i links) ≡ current.in_a
  pub in_b : count_links current.edge B (take i links) ≡ current.in_b
  pub known : (l : Link) → Contains (take i links) l → ((c : Counted) × Contains list c × (c.edge ≡ l.edge)) ⊎ (current.edge ≡ l.edge)
  pub ahead : (j : ℕ) (l : Link) → i ≤ j → IsAt links j l → IsUpTo current.edge l.edge

-- the current edge has a link, or is that of the first link, which is next
abbrev pub HasBegun : List Link → ℕ → Counted → Type 0
HasBegun links i current = ((i ≡ 0) × ((l : Link) → IsAt links 0 l → current.edge ≡ l.edge)) ⊎ (0 < current.in_a + current.in_b)

abbrev pub AreAscending : List Link → Type 0
AreAscending links = (i j : ℕ) (l m : Link) → i ≤ j → IsAt links i l → IsAt links j m → IsUpTo l.edge m.edge

-- the order of links is total
pub link_total : IsTotalOrder link_order
link_total = then_total (on_total (λ (l : Link). l.edge) edge_total) (then_total (on_total (λ (l : Link). l.copies.in_a) nat_cmp_total) (on_total (λ (l : Link). l.copies.in_b) nat_cmp_total))

pub ascending_in_order : (links : List Link) → AreInOrder links → AreAscending links
ascending_in_order links up i j l m h at at' = elim (cases_lt i j) [
  | inl below ↦
      let a : get_or links j l ≡ m = get_or_default links j l m at'.below ∙ at'.item in
      subst (λ (p : Link × Link). IsUpTo p.0.edge p.1.edge) (λ t. (at.item t, a t)) (up i j l below at'.below)
  | inr same ↦
      let e : i ≡ j = omega arith in
      inl (ap (λ (n : Link). n.edge) (sym at.item ∙ get_or_default links i l m at.below ∙ ap (λ (n : ℕ). get_or links n m) e ∙ at'.item))
]

-- what `!=` says of two edges
pub ne_apart : (e f : Edge) (b : Bool) → b ≡ not (same_edge e f) → b ≡ true → e ≡ f → ⊥
ne_apart e f b g h k = let t = edge_refl e in let u : same_edge e e ≡ same_edge e f = ap (same_edge e) k in cc

pub ne_same : (e f : Edge) (b : Bool) → b ≡ not (same_edge e f) → b ≡ false → e ≡ f
ne_same e f b g h = same_edge_true e f (by_not (same_edge e f) (sym g ∙ h))
  where
    by_not : (x : Bool) → not x ≡ false → x ≡ true
    by_not true k = refl
    by_not false k = sym k

pub IsTally-none : (links : List Link) (first : Link) (current : Counted) → AreAscending links → IsAt links 0 first → current.edge ≡ first.edge → current.in_a ≡ 0 → current.in_b ≡ 0 → IsTally links 0 [] current × HasBegun links 0 current
IsTally-none links first current up at e a b = (
  record {
    ascending = λ i j d h k. absurd (omega arith);
    below = λ c h. absurd (none_in c h);
    counted = λ c h. absurd (none_in c h);
    in_a = sym a;
    in_b = sym b;
    known = λ l h. absurd (none_in l h);
    ahead = λ j l h k. subst (λ (f : Edge). IsUpTo f l.edge) (sym e) (up 0 j first l h at k);
  },
  inl (refl, λ l h. e ∙ ap (λ (m : Link). m.edge) (sym at.item ∙ get_or_default links 0 first l at.below ∙ h.item)),
)

-- the current edge goes to the list
module _ (links : List Link) (i : ℕ) (list : List Counted) (current next : Counted) (x : Link) (up : AreAscending links) (at : IsAt links i x) (h : IsTally links i list current) (begun : HasBegun links i current) (apart : current.edge ≡ x.edge → ⊥) (is : next.edge ≡ x.edge) (no_a : next.in_a ≡ 0) (no_b : next.in_b ≡ 0) where
  positive : 0 < current.in_a + current.in_b
  positive = ⊎_elim (λ p. absurd (apart (p.1 x (subst (λ (n : ℕ). IsAt links n x) p.0 at)))) (λ p. p) begun

  before : IsEdgeBefore current.edge x.edge
  before = ⊎_elim (λ p. absurd (apart p)) (λ p. p) (h.ahead i x (omega arith) at)

  all_before : (c : Counted) → Contains (list ++ current ∷ []) c → IsEdgeBefore c.edge x.edge
  all_before c k = ⊎_elim (λ m. edge_before_trans c.edge current.edge x.edge (h.below c m) before) (λ e. subst (λ (d : Counted). IsEdgeBefore d.edge x.edge) e before) (Contains-push_cases list current c k)

  absent : (l : Link) → Contains (take i links) l → l.edge ≡ x.edge → ⊥
  absent l k e = ⊎_elim
      (λ (c, m, f). edge_before_itself x.edge (subst (λ (g : Edge). IsEdgeBefore g x.edge) (f ∙ e) (all_before c (in_push list c current m))))
      (λ f. apart (f ∙ e)) (h.known l k)

  no_count : (layer : Source) → count_links x.edge layer (take i links) ≡ 0
  no_count layer = zero_count (count_links x.edge layer (take i links)) (λ p. let (l, c, some) = sum_has (copies_of x.edge layer) (take i links) p in absent l c (sym (of_edge x.edge layer l some)))
    where
      zero_count : (n : ℕ) → (0 < n → ⊥) → n ≡ 0
      zero_count zero f = refl
      zero_count (suc n) f = absurd (f (omega arith))

  pub IsTally-next : IsTally links i (list ++ current ∷ []) next
  IsTally-next = record {
    ascending = all_pairs_push (λ c d. IsEdgeBefore c.edge d.edge) list current h.ascending (λ k d a. h.below (get_or list k d) (Contains-get_or list k d a));
    below = λ c k. subst (λ (f : Edge). IsEdgeBefore c.edge f) (sym is) (all_before c k);
    counted = λ c k. ⊎_elim (λ m. h.counted c m) (λ e. subst (λ (d : Counted). IsExact (take i links) d) e (h.in_a, h.in_b, positive)) (Contains-push_cases list current c k);
    in_a = ap (λ (f : Edge). count_links f A (take i links)) is ∙ no_count A ∙ sym no_a;
    in_b = ap (λ (f : Edge). count_links f B (take i links)) is ∙ no_count B ∙ sym no_b;
    known = λ l k. inl (⊎_elim (λ (c, m, e). (c, in_push list c current m, e)) (λ e. (current, Contains-push list current, e)) (h.known l k));
    ahead = λ j l k a. subst (λ (f : Edge). IsUpTo f l.edge) (sym is) (up i j x l k at a);
  }

-- one more link of the current edge
module _ (links : List Link) (i : ℕ) (list : List Counted) (current more : Counted) (x : Link) (below : i < length links) (item : x ≡ get_or links i x) (h : IsTally links i list current) (same : current.edge ≡ x.edge) (kept : more.edge ≡ current.edge)
    (more_a : more.in_a ≡ current.in_a + x.copies.in_a) (more_b : more.in_b ≡ current.in_b + x.copies.in_b) where
  longer : take (i + 1) links ≡ take i links ++ x ∷ []
  longer = take_more links i x below ∙ ap (λ (m : Link). take i links ++ m ∷ []) (sym item)

  still : (c : Counted) → Contains list c → IsExact (take i links) c → IsExact (take (i + 1) links) c
  still c m (a, b, p) =
      let other : c.edge ≡ x.edge → ⊥ = λ e. edge_before_itself x.edge (subst (λ (f : Edge). IsEdgeBefore f x.edge) e (subst (λ (f : Edge). IsEdgeBefore c.edge f) same (h.below c m))) in
      rw longer (count_other c.edge A (take i links) x other ∙ a, count_other c.edge B (take i links) x other ∙ b, p)

  grown : (layer : Source) → count_links more.edge layer (take (i + 1) links) ≡ count_links current.edge layer (take i links) + copies_in layer x.copies
  grown layer = ap (λ (f : Edge). count_links f layer (take (i + 1) links)) kept ∙ ap (λ (ls : List Link). count_links current.edge layer ls) longer ∙ count_same current.edge layer (take i links) x same

  pub IsTally-more : IsTally links (i + 1) list more × HasBegun links (i + 1) more
  IsTally-more = (
    record {
      ascending = h.ascending;
      below = λ c m. subst (λ (f : Edge). IsEdgeBefore c.edge f) (sym kept) (h.below c m);
      counted = λ c m. still c m (h.counted c m);
      in_a = grown A ∙ ap (λ (n : ℕ). n + x.copies.in_a) h.in_a ∙ sym more_a;
      in_b = grown B ∙ ap (λ (n : ℕ). n + x.copies.in_b) h.in_b ∙ sym more_b;
      known = λ l k. ⊎_elim (λ m. ⊎_elim (λ r. inl r) (λ e. inr (kept ∙ e)) (h.known l m)) (λ e. inr (kept ∙ same ∙ ap (λ (m : Link). m.edge) e)) ((in_take_more links i x below item l).0 k);
      ahead = λ j l k a. subst (λ (f : Edge). IsUpTo f l.edge) (sym kept) (h.ahead j l (omega arith) a);
    },
    inr (let some = x.copies.some in omega arith),
  )

-- all are counted
pub counts_are : (sorted : List Link) (i : ℕ) (list : List Counted) (current : Counted) → length sorted ≤ i → 0 < length sorted → IsTally sorted i list current → HasBegun sorted i current → AreCounts sorted (list ++ current ∷ [])
counts_are sorted i list current l n h begun = record {
  ascending = all_pairs_push (λ c d. IsEdgeBefore c.edge d.edge) list current h.ascending (λ k d a. h.below (get_or list k d) (Contains-get_or list k d a));
  exact = λ c. (to c, from c);
}
  where
    whole : take i sorted ≡ sorted
    whole = take_all i sorted l

    whole_count : (e : Edge) (layer : Source) → count_links e layer sorted ≡ count_links e layer (take i sorted)
    whole_count e layer = ap (λ (ls : List Link). count_links e layer ls) (sym whole)

    each : (c : Counted) → Contains (list ++ current ∷ []) c → IsExact (take i sorted) c
    each c k = ⊎_elim (λ m. h.counted c m) (λ e. subst (λ (d : Counted). IsExact (take i sorted) d) e (h.in_a, h.in_b, ⊎_elim (λ p. absurd (let q = p.0 in omega arith)) (λ p. p) begun)) (Contains-push_cases list current c k)

    to : (c : Counted) → Contains (list ++ current ∷ []) c → IsExact sorted c
    to c k = let (a, b, p) = each c k in (whole_count c.edge A ∙ a, whole_count c.edge B ∙ b, p)

    -- the list has an entry for the edge of each link
    entry : (m : Link) → Contains (take i sorted) m → (d : Counted) × Contains (list ++ current ∷ []) d × (d.edge ≡ m.edge)
    entry m k = ⊎_elim (λ (d, g, e). (d, in_push list d current g, e)) (λ e. (current, Contains-push list current, e)) (h.known m k)

    same_entry : (c d : Counted) → IsExact (take i sorted) c → IsExact (take i sorted) d → d.edge ≡ c.edge → d ≡ c
    same_entry c d (a, b, p) (a', b', p') e =
        let f : d.in_a ≡ c.in_a = sym a' ∙ ap (λ (g : Edge). count_links g A (take i sorted)) e ∙ a in
        let g : d.in_b ≡ c.in_b = sym b' ∙ ap (λ (g : Edge). count_links g B (take i sorted)) e ∙ b in
        λ j. record { edge = e j; in_a = f j; in_b = g j }

    from : (c : Counted) → IsExact sorted c → Contains (list ++ current ∷ []) c
    from c (a, b, p) =
        let exact : IsExact (take i sorted) c = (sym (whole_count c.edge A) ∙ a, sym (whole_count c.edge B) ∙ b, p) in
        let (m, k, e) = linked (take i sorted) c.edge (let a = exact.0 in let b = exact.1 in omega arith) in
        let (d, g, f) = entry m k in
        subst (λ (u : Counted). Contains (list ++ current ∷ []) u) (same_entry c d exact (each d g) (f ∙ sym e)) g

pub no_counts : (links : List Link) → length links ≡ 0 → AreCounts links []
no_counts [] e = record {
  ascending = λ i j d h k. absurd (omega arith);
  exact = λ c. (λ h. absurd (none_in c h), λ (a, b, p). absurd (omega arith));
}
no_counts (l ∷ ls) e = absurd (omega arith)
