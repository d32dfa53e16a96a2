-- Numbers that links lead to from one another, and the forest that keeps their classes.
use Rattle.std.proofs.Common.{◌≡◌, ◌⊎◌, ℕ, ◌+◌, ◌<◌, ◌≤◌, List, [], ◌∷◌, ◌++◌, length, get_or, take, refl, sym, ◌∙◌, ap, subst, inl, inr, arith}
use Rattle.std.specs.Prelude.{All, Contains, slice_index}
use Rattle.std.specs.List.{range_with_len}
use Rattle.std.proofs.lemmas.Bool.{cases_eq, cases_lt}
use Rattle.std.proofs.lemmas.List.{get_or_past, map-id, take_all}
use Rattle.std.proofs.lemmas.List.Elements.{All-contains, All-contains_itself, All-from_get_or, All-more, All-nil, All-weaker, Contains-get_or}
use Rattle.std.proofs.lemmas.List.FromFn.{get_or-range_with_len, length-range_with_len, map-range_with_len_more}
use Rattle.strip_polygons.specs.declared.classes.Link.{Link}
use Rattle.strip_polygons.specs.Classes.{AreChained, AreLinksBelow, AreRoots, IsForest, IsJoined, IsRoot, itself, none, step}
use Rattle.strip_polygons.proofs.Roots.{one_root, root_not_greater}

-- ---- chains of links
pub chained_on : (links : List Link) (i j k : ℕ) → AreChained links i j → AreChained links j k → AreChained links i k
chained_on links i _ k none rest = rest
chained_on links i j k (step l c ends on) rest = step l c ends (chained_on links _ j k on rest)

pub chained_back : (links : List Link) (i j : ℕ) → AreChained links i j → AreChained links j i
chained_back links i _ none = none
chained_back links i j (step l c ends on) = chained_on links j _ i (chained_back links _ j on) (step l c (turned l i _ ends) none)
  where
    turned : (l : Link) (i j : ℕ) → ((l.first ≡ i) × (l.second ≡ j)) ⊎ ((l.first ≡ j) × (l.second ≡ i))
        → ((l.first ≡ j) × (l.second ≡ i)) ⊎ ((l.first ≡ i) × (l.second ≡ j))
    turned l i j (inl e) = inr e
    turned l i j (inr e) = inl e

-- ---- two numbers of one tree
abbrev pub AreOne : List ℕ → ℕ → ℕ → Type 0
AreOne above i j = (r : ℕ) × IsRoot above i r × IsRoot above j r

-- two numbers of one tree are of one after two trees have become one
one_kept : (old new : List ℕ) (a b : ℕ) → IsJoined old new a b → (i j : ℕ) → AreOne old i j → AreOne new i j
one_kept old new a b w i j (r, x, y) = elim (cases_eq r w.greater) [
  | inl e ↦ (w.lesser, w.joined i (rw e at x), w.joined j (rw e at y))
  | inr o ↦ (r, w.others i r o x, w.others j r o y)
]

-- and so are the ends of the link that made them one
one_made : (old new : List ℕ) (a b : ℕ) → IsJoined old new a b → AreOne new a b
one_made old new a b w = elim w.ends [
  | inl e ↦ (w.lesser, w.joined a e.0, below b e.1)
  | inr e ↦ (w.lesser, below a e.0, w.joined b e.1)
]
  where
    below : (k : ℕ) → IsRoot old k w.lesser → IsRoot new k w.lesser
    below k r = elim (cases_eq w.lesser w.greater) [ inl e ↦ w.joined k (rw e at r) | inr o ↦ w.others k w.lesser o r ]

-- ---- the classes by the links so far
-- the ends of each link before one are in one tree, and links lead from each number to its root
pub record AreClasses (links : List Link) (count n : ℕ) (above : List ℕ) : Type 0 where
  pub same_length : length above ≡ count
  pub forest : IsForest above
  pub linked : All (λ l. AreOne above l.first l.second) (take n links)
  pub chained : (i : ℕ) → i < count → (r : ℕ) × IsRoot above i r × AreChained links i r

-- one more number that is its own root
pub one_more_alone : (n : ℕ) → range_with_len 0 (n + 1) ≡ range_with_len 0 n ++ n ∷ []
one_more_alone n = sym (map-id (range_with_len 0 (n + 1)))
    ∙ map-range_with_len_more (λ k. k) 0 n n (omega arith) ∙ ap (λ xs. xs ++ n ∷ []) (map-id (range_with_len 0 n))

-- before the first link each number is a class
pub all_alone : (links : List Link) (count : ℕ) → AreClasses links count 0 (range_with_len 0 count)
all_alone links count = record {
  same_length = length-range_with_len 0 count;
  forest = λ k. elim (cases_lt k count) [
    | inl h ↦ omega (arith, get_or-range_with_len 0 count k 0 h)
    | inr h ↦ omega (arith, get_or_past (range_with_len 0 count) k 0 (omega (arith, h, length-range_with_len 0 count)))
  ];
  linked = All-nil (λ l. AreOne (range_with_len 0 count) l.first l.second);
  chained = λ i h. (i, itself (get_or-range_with_len 0 count i 0 h ∙ omega arith), none);
}

-- by one more link, which the two trees of its ends have been joined for
pub one_more_link : (links : List Link) (count n : ℕ) (d : Link) (old new : List ℕ) → AreLinksBelow count links → n < length links
    → AreClasses links count n old → length new ≡ length old → IsForest new → IsJoined old new (get_or links n d).first (get_or links n d).second → AreClasses links count (n + 1) new
one_more_link links count n d old new inside before w len forest joined = record {
  same_length = len ∙ w.same_length;
  forest = forest;
  linked = All-more (λ l. AreOne new l.first l.second) links n d before kept (one_made old new l.first l.second joined);
  chained = λ i h. on i (w.chained i h);
}
  where
    l : Link
    l = get_or links n d

    kept : All (λ l. AreOne new l.first l.second) (take n links)
    kept = All-weaker (λ l. AreOne old l.first l.second) (λ l. AreOne new l.first l.second)
        (λ x. one_kept old new l.first l.second joined x.first x.second) (take n links) w.linked

    here : Contains links l
    here = Contains-get_or links n d before

    both : (l.first < count) × (l.second < count)
    both = All-contains (λ l. (l.first < count) × (l.second < count)) links l inside here

    to_root : (i r : ℕ) → i < count → IsRoot old i r → AreChained links i r
    to_root i r h x = let own = w.chained i h in let P : ℕ → Type 0 = AreChained links i in subst P (one_root old i own.0 r own.1 x) own.2

    down : AreChained links joined.greater joined.lesser
    down = elim joined.ends [
      | inl e ↦ chained_on links joined.greater l.first joined.lesser
          (chained_back links l.first joined.greater (to_root l.first joined.greater both.0 e.0))
          (step l here (inl (refl, refl)) (to_root l.second joined.lesser both.1 e.1))
      | inr e ↦ chained_on links joined.greater l.second joined.lesser
          (chained_back links l.second joined.greater (to_root l.second joined.greater both.1 e.1))
          (step l here (inr (refl, refl)) (to_root l.first joined.lesser both.0 e.0))
    ]

    on : (i : ℕ) → (r : ℕ) × IsRoot old i r × AreChained links i r → (r : ℕ) × IsRoot new i r × AreChained links i r
    on i (r, x, c) = elim (cases_eq r joined.greater) [
      | inl e ↦ (joined.lesser, joined.joined i (rw e at x), chained_on links i joined.greater joined.lesser (rw e at c) down)
      | inr o ↦ (r, joined.others i r o x, c)
    ]

-- the roots of all numbers, when there is no more link
pub classes_found : (links : List Link) (count n : ℕ) (above roots : List ℕ) → AreLinksBelow count links → length links ≤ n
    → AreClasses links count n above → length roots ≡ length above → ((k : ℕ) → k < length above → IsRoot above k (slice_index roots k)) → AreRoots count links roots
classes_found links count n above roots inside all w len found = record {
  same_length = len ∙ w.same_length;
  inside = All-from_get_or (λ r. r < count) roots 0 (λ i h. root_inside i (omega (arith, h, len, w.same_length)));
  linked = All-weaker (Contains links) (λ l. slice_index roots l.first ≡ slice_index roots l.second) same links (All-contains_itself links);
  chained = λ i h. (let own = w.chained i h in
      let P : ℕ → Type 0 = AreChained links i in subst P (one_root above i own.0 (get_or roots i 0) own.1 (root i h)) own.2);
}
  where
    root : (i : ℕ) → i < count → IsRoot above i (get_or roots i 0)
    root i h = found i (omega (arith, h, w.same_length))

    root_inside : (i : ℕ) → i < count → get_or roots i 0 < count
    root_inside i h = omega (arith, root_not_greater above i (get_or roots i 0) (root i h), h)

    same : (l : Link) → Contains links l → slice_index roots l.first ≡ slice_index roots l.second
    same l c = let both = All-contains (λ l. (l.first < count) × (l.second < count)) links l inside c in
        let one = All-contains (λ l. AreOne above l.first l.second) links l (rw (take_all n links all) at w.linked) c in
        one_root above l.first (get_or roots l.first 0) one.0 (root l.first both.0) one.1
        ∙ one_root above l.second one.0 (get_or roots l.second 0) one.2 (root l.second both.1)
