-- What stands by the numbers of its slots: the edges in slots, and slots that are freed, taken and added.
use Rattle.std.proofs.Common.{◌≡◌, ◌⊎◌, ⊎_elim, inl, inr, ℕ, zero, suc, ◌+◌, ◌-◌, ◌<◌, ◌≤◌, Bool, true, false, eqb, List, [], ◌∷◌, ◌++◌, length, get_or, map, take, drop, refl, sym, ap, ◌∙◌, subst, arith, append_assoc}
use Rattle.std.specs.List.{All, AllPairs, AllWithin, Contains, range_with_len}
use Rattle.std.specs.Prelude.{Option, None, Some, slice_range}
use Rattle.std.specs.List.Sorted.{IsPartitionedBy, IsPermutation}
use Rattle.std.proofs.lemmas.Bool.{cases_lt}
use Rattle.std.proofs.lemmas.Bool.Decides.{Decides-eqb, same_from_decides}
use Rattle.std.proofs.lemmas.List.{append-nil, drop-map, get_or-map, get_or_default, length-map, map-append, take-append-drop, take-map}
use Rattle.std.proofs.lemmas.List.Folds.{drop_split}
use Rattle.std.proofs.lemmas.List.Elements.{All-drop, All-take, Contains-get_or}
use Rattle.std.proofs.lemmas.List.Kept.{AllPairs-cons}
use Rattle.std.proofs.lemmas.List.Sorted.{All-permutation, Contains-permutation, IsPermutation-append_left, IsPermutation-append_right, IsPermutation-to_front, IsPermutation-trans}
use Rattle.std.proofs.lemmas.Map.Keys.{IsDistinct-IsPermutation}
use Rattle.std.proofs.lemmas.Map.Made.{AllPairs-from_IsDistinct, IsDistinct-from_AllPairs}
use Rattle.geom.proofs.Lists.{Distinct, In, contains_in, in_append, in_back, in_contains, in_front, map_in}
use Rattle.geom.proofs.OneCut.{simple_distinct}
use Rattle.geom.proofs.RingEdges.{same_order, to_front}
use Rattle.label_sweep.specs.declared.standing.StandingEdge.{StandingEdge}
use Rattle.label_sweep.specs.declared.status.Place.{Place}
use Rattle.label_sweep.specs.declared.status.Status.{Status}
use Rattle.label_sweep.specs.Chunks.{number_of}
use Rattle.label_sweep.specs.Labels.{lowest_of}
use Rattle.label_sweep.specs.Slots.{IsKept, IsPlaceBetween, in_slot, nowhere, numbers, passes}
use Rattle.label_sweep.proofs.Members.{all_of_in, in_drop, in_of_all, in_take}
use Rattle.label_sweep.proofs.Places.{IsFound}

-- ---- tests and edges of slots
-- a slot passes as its edge does
pub passes_in_slot : (p : StandingEdge → Bool) (slots : List StandingEdge) (i : ℕ) → i < length slots → passes p slots i ≡ p (in_slot slots i)
passes_in_slot p [] i l = absurd (omega arith)
passes_in_slot p (s ∷ slots) zero l = refl
passes_in_slot p (s ∷ slots) (suc i) l = passes_in_slot p slots i (omega arith)

module _ (p : StandingEdge → Bool) (slots : List StandingEdge) (ns : List ℕ) (inside : All (λ i. i < length slots) ns) where
  -- the edge in the slot with the number at k
  edge_at : (k : ℕ) (d : StandingEdge) → k < length ns → get_or (map (in_slot slots) ns) k d ≡ in_slot slots (get_or ns k 0)
  edge_at k d l = get_or-map (in_slot slots) ns k 0 d l

  passes_at : (k : ℕ) (d : StandingEdge) (e : ℕ) → k < length ns → passes p slots (get_or ns k e) ≡ p (get_or (map (in_slot slots) ns) k d)
  passes_at k d e l = ap (passes p slots) (get_or_default ns k e 0 l) ∙ passes_in_slot p slots (get_or ns k 0) (inside k 0 l) ∙ ap p (sym (edge_at k d l))

  -- where the first edges pass, the first numbers do
  pub numbers_parted : IsPartitionedBy p (map (in_slot slots) ns) → IsPartitionedBy (passes p slots) ns
  numbers_parted parted i j e o l t =
      let long = length-map ns (in_slot slots) in
      passes_at i nowhere e (omega (arith, o, l)) ∙ parted i j nowhere o (omega (arith, long, l)) (sym (passes_at j nowhere e l) ∙ t)

  -- and where numbers pass or not, so do the edges
  pub edges_pass : (b : Bool) (low high : ℕ) → high ≤ length ns → AllWithin (λ i. passes p slots i ≡ b) ns low high → AllWithin (λ s. p s ≡ b) (map (in_slot slots) ns) low high
  edges_pass b low high h all k d l m = sym (passes_at k d 0 (omega (arith, h, m))) ∙ all k 0 l m

  pub numbers_pass : (b : Bool) (low high : ℕ) → high ≤ length ns → AllWithin (λ s. p s ≡ b) (map (in_slot slots) ns) low high → AllWithin (λ i. passes p slots i ≡ b) ns low high
  numbers_pass b low high h all k e l m = passes_at k nowhere e (omega (arith, h, m)) ∙ all k nowhere l m

-- the numbers that a list begins with are below what all are below
pub front_inside : (xs ys : List ℕ) (n : ℕ) → All (λ i. i < n) (xs ++ ys) → All (λ i. i < n) xs
front_inside xs ys n h = all_of_in (λ i. i < n) xs (λ i j. in_of_all (λ i. i < n) (xs ++ ys) h i (in_front xs ys i j))

-- and so are those of a part
pub part_inside : (xs : List ℕ) (m k n : ℕ) → All (λ i. i < n) xs → All (λ i. i < n) (slice_range xs m k)
part_inside xs m k n h = All-take (λ i. i < n) (k - m) (drop m xs) (All-drop (λ i. i < n) m xs h)

-- a place that a search among the numbers finds is one between edges
pub between_edges : {A : Type 0} (p : StandingEdge → Bool) (status : Status A) (at : Place) → IsKept status → IsFound (passes p status.slots.items) status.chunks.items at → IsPlaceBetween (λ s. p s ≡ true) (λ s. p s ≡ false) status at
between_edges p status at kept found =
    let slots = status.slots.items in
    let ns = numbers status in
    let inside = front_inside ns status.free.items (length slots) kept.inside in
    let long : length (map (in_slot slots) ns) ≡ length ns = length-map ns (in_slot slots) in
    let w = found.within in
    let P : ℕ → Type 0 = λ n. AllWithin (λ s. p s ≡ false) (map (in_slot slots) ns) (number_of status.chunks.items at) n in
    record {
      place = found.place;
      within = omega (arith, long, w);
      before = edges_pass p slots ns inside true 0 (number_of status.chunks.items at) w found.before;
      behind = subst P (sym long) (edges_pass p slots ns inside false (number_of status.chunks.items at) (length ns) (omega arith) found.rest);
    }

-- numbers whose slots have the same edges
pub same_edges : (slots others : List StandingEdge) (ns : List ℕ) → ((i : ℕ) → In i ns → in_slot slots i ≡ in_slot others i) → map (in_slot slots) ns ≡ map (in_slot others) ns
same_edges slots others [] h = refl
same_edges slots others (n ∷ ns) h = let a = h n (inl refl) in let b = same_edges slots others ns (λ i j. h i (inr j)) in cc

-- ---- the lowest edge from a place on
-- what is found in a slot that there is
slot_is : (r : Option StandingEdge) (slots : List StandingEdge) (n : ℕ) → ((s : StandingEdge) → r ≡ Some s → (n < length slots) × (in_slot slots n ≡ s)) → (r ≡ None → length slots ≤ n) → n < length slots → r ≡ Some (in_slot slots n)
slot_is None slots n some none l = let m = none refl in absurd (omega (arith, l, m))
slot_is (Some s) slots n some none l = ap Some (sym (some s refl).1)

lowest_front : (xs ys : List StandingEdge) → 0 < length xs → lowest_of xs ≡ lowest_of (xs ++ ys)
lowest_front [] ys h = absurd (omega arith)
lowest_front (x ∷ xs) ys h = refl

module _ (slots : List StandingEdge) (ns : List ℕ) (inside : All (λ i. i < length slots) ns) (n : ℕ) where
  pub lowest_here : (r : Option StandingEdge) (x : ℕ) (rest : List ℕ) → drop n ns ≡ x ∷ rest → ((s : StandingEdge) → r ≡ Some s → (x < length slots) × (in_slot slots x ≡ s)) → (r ≡ None → length slots ≤ x)
      → r ≡ lowest_of (drop n (map (in_slot slots) ns))
  lowest_here r x rest e some none =
      let P : List ℕ → Type 0 = λ t. In x t in
      slot_is r slots x some none (in_of_all (λ i. i < length slots) ns inside x (in_drop n ns x (subst P (sym e) (inl refl))))
      ∙ sym (ap lowest_of (drop-map (in_slot slots) n ns ∙ ap (map (in_slot slots)) e))

  pub lowest_next : (r : Option StandingEdge) (xs rest : List ℕ) → drop n ns ≡ xs ++ rest → 0 < length xs → (All (λ i. i < length slots) xs → r ≡ lowest_of (map (in_slot slots) xs)) → r ≡ lowest_of (drop n (map (in_slot slots) ns))
  lowest_next r xs rest e some is =
      let long = length-map xs (in_slot slots) in
      let P : ℕ → List ℕ → Type 0 = λ x t. In x t in
      is (all_of_in (λ i. i < length slots) xs (λ i j. in_of_all (λ i. i < length slots) ns inside i (in_drop n ns i (subst (P i) (sym e) (in_front xs rest i j)))))
      ∙ lowest_front (map (in_slot slots) xs) (map (in_slot slots) rest) (omega (arith, long, some)) ∙ sym (ap lowest_of (drop-map (in_slot slots) n ns ∙ ap (map (in_slot slots)) e ∙ map-append (in_slot slots) xs rest))

-- ---- numbers that are different
module _ {X : Type 0} where
  pub distinct_pairs : (xs : List X) → Distinct xs → AllPairs (λ x y. ¬ (x ≡ y)) xs
  distinct_pairs [] d = λ i j e l k. absurd (omega arith)
  distinct_pairs (x ∷ xs) d = AllPairs-cons (λ (p q : X). ¬ (p ≡ q)) x xs (λ k e l q. d.0 (contains_in xs x (subst (Contains xs) (sym q) (Contains-get_or xs k e l)))) (distinct_pairs xs d.1)

  pub distinct_append : (xs ys : List X) → Distinct xs → Distinct ys → ((x : X) → In x xs → In x ys → ⊥) → Distinct (xs ++ ys)
  distinct_append [] ys d e apart = e
  distinct_append (x ∷ xs) ys d e apart = ((λ i. ⊎_elim d.0 (apart x (inl refl)) (in_append xs ys x i)), distinct_append xs ys d.1 e (λ z i j. apart z (inr i) j))

  pub distinct_front : (xs ys : List X) → Distinct (xs ++ ys) → Distinct xs
  distinct_front [] ys d = tt
  distinct_front (x ∷ xs) ys d = ((λ i. d.0 (in_front xs ys x i)), distinct_front xs ys d.1)

  pub distinct_back : (xs ys : List X) → Distinct (xs ++ ys) → Distinct ys
  distinct_back [] ys d = d
  distinct_back (x ∷ xs) ys d = distinct_back xs ys d.1

  pub not_both_in : (xs ys : List X) → Distinct (xs ++ ys) → (x : X) → In x xs → In x ys → ⊥
  not_both_in [] ys d x i j = i
  not_both_in (z ∷ xs) ys d x (inl e) j = d.0 (in_back xs ys z (subst (λ t. In t ys) (sym e) j))
  not_both_in (z ∷ xs) ys d x (inr i) j = not_both_in xs ys d.1 x i j

eqb_flips : (x y : ℕ) → eqb x y ≡ eqb y x
eqb_flips x y = same_from_decides (eqb x y) (eqb y x) (Decides-eqb x y) (let d = Decides-eqb y x in ((λ e. sym (d.0 e)), (λ e. d.1 (sym e))))

pub distinct_permutation : (xs ys : List ℕ) → IsPermutation xs ys → Distinct xs → Distinct ys
distinct_permutation xs ys p d = simple_distinct ys (AllPairs-from_IsDistinct Decides-eqb ys (IsDistinct-IsPermutation eqb eqb_flips xs ys p (IsDistinct-from_AllPairs Decides-eqb xs (distinct_pairs xs d))))

-- ---- numbers from one on
pub in_range : (a n i : ℕ) → In i (range_with_len a n) → (a ≤ i) × (i < a + n)
in_range a zero i h = absurd h
in_range a (suc n) i (inl e) = (omega (arith, e), omega (arith, e))
in_range a (suc n) i (inr h) = let r = in_range (a + 1) n i h in (omega (arith, r.0), omega (arith, r.1))

pub range_in : (a n i : ℕ) → a ≤ i → i < a + n → In i (range_with_len a n)
range_in a zero i l h = absurd (omega arith)
range_in a (suc n) i l h = ⊎_elim (λ e. inl e) (λ m. inr (range_in (a + 1) n i m (omega (arith, h)))) (first_or_later l)
  where
    first_or_later : a ≤ i → (a ≡ i) ⊎ (a + 1 ≤ i)
    first_or_later l = ⊎_elim (λ m. inr (omega (arith, m))) (λ m. inl (omega (arith, l, m))) (cases_lt a i)

pub range_distinct : (a n : ℕ) → Distinct (range_with_len a n)
range_distinct a zero = tt
range_distinct a (suc n) = ((λ i. let r = in_range (a + 1) n a i in absurd (omega (arith, r.0))), range_distinct (a + 1) n)

range_append : (a n m : ℕ) → range_with_len a n ++ range_with_len (a + n) m ≡ range_with_len a (n + m)
range_append a zero m = let e : a + 0 ≡ a = omega arith in let f : m ≡ 0 + m = omega arith in ap (λ b. range_with_len b m) e ∙ ap (range_with_len a) f
range_append a (suc n) m = let e : a + suc n ≡ (a + 1) + n = omega arith in let f : suc (n + m) ≡ suc n + m = omega arith in
    ap (λ t. a ∷ t) (ap (λ b. range_with_len (a + 1) n ++ range_with_len b m) e ∙ range_append (a + 1) n m) ∙ ap (range_with_len a) f

-- from one number to another
abbrev pub range_to : ℕ → ℕ → List ℕ
range_to a b = range_with_len a (b - a)

pub range_to_append : (a b c : ℕ) → a ≤ b → b ≤ c → range_to a b ++ range_to b c ≡ range_to a c
range_to_append a b c l m =
    let n : ℕ = b - a in
    let k : ℕ = c - b in
    let e : b ≡ a + n = omega arith in
    let f : n + k ≡ c - a = omega arith in
    ap (λ t. range_to a b ++ range_with_len t k) e ∙ range_append a n k ∙ ap (range_with_len a) f

-- ---- numbers below one, and those from there on
module _ (n m : ℕ) (grown : n ≤ m) (xs : List ℕ) (inside : All (λ i. i < n) xs) where
  pub more_inside : All (λ i. i < m) (xs ++ range_to n m)
  more_inside = all_of_in (λ i. i < m) (xs ++ range_to n m) (λ i j. ⊎_elim
      (λ k. let l = in_of_all (λ i. i < n) xs inside i k in omega (arith, l, grown))
      (λ k. let r = in_range n (m - n) i k in omega (arith, r.1, grown))
      (in_append xs (range_to n m) i j))

  pub more_distinct : Distinct xs → Distinct (xs ++ range_to n m)
  more_distinct d = distinct_append xs (range_to n m) d (range_distinct n (m - n)) (λ i j k. let l = in_of_all (λ i. i < n) xs inside i j in let r = in_range n (m - n) i k in absurd (omega (arith, l, r.0)))

  pub more_all : ((i : ℕ) → i < n → In i xs) → (i : ℕ) → i < m → In i (xs ++ range_to n m)
  more_all all i l = ⊎_elim (λ k. in_front xs (range_to n m) i (all i k)) (λ k. in_back xs (range_to n m) i (range_in n (m - n) i k (omega (arith, l, grown)))) (cases_lt i n)

-- ---- slots that are taken: those that were free, and then new ones
-- the last free one is taken
pub taken_free : (old left : List ℕ) (number n m : ℕ) → old ≡ left ++ number ∷ [] → m ≡ n → IsPermutation (old ++ range_to n m) (number ∷ left)
taken_free old left number n m e f =
    let none : m - n ≡ 0 = omega (arith, f) in
    let nothing : range_to n m ≡ [] = ap (range_with_len n) none in
    IsPermutation-trans _ _ _ (same_order (old ++ range_to n m) (left ++ number ∷ []) (ap (λ t. old ++ t) nothing ∙ append-nil old ∙ e)) (IsPermutation-to_front left number)

-- one more is taken
pub taken_more : (old seated free left : List ℕ) (number a b c : ℕ) → a ≤ b → b ≤ c → IsPermutation (old ++ range_to a b) (seated ++ free) → IsPermutation (free ++ range_to b c) (number ∷ left)
    → IsPermutation (old ++ range_to a c) ((seated ++ number ∷ []) ++ left)
taken_more old seated free left number a b c l m p q =
    IsPermutation-trans _ _ _ (same_order (old ++ range_to a c) ((old ++ range_to a b) ++ range_to b c) (ap (λ t. old ++ t) (sym (range_to_append a b c l m)) ∙ sym (append_assoc old (range_to a b) (range_to b c))))
    (IsPermutation-trans _ _ _ (IsPermutation-append_left (range_to b c) (old ++ range_to a b) (seated ++ free) p)
    (IsPermutation-trans _ _ _ (same_order ((seated ++ free) ++ range_to b c) (seated ++ (free ++ range_to b c)) (append_assoc seated free (range_to b c)))
    (IsPermutation-trans _ _ _ (IsPermutation-append_right seated (free ++ range_to b c) (number ∷ left) q) (same_order (seated ++ (number ∷ left)) ((seated ++ number ∷ []) ++ left) (sym (append_assoc seated (number ∷ []) left))))))

-- after one more edge has a slot, each of those seated does
pub seated_more : (before after : List StandingEdge) (old seated left : List ℕ) (number : ℕ) (one : StandingEdge) (edges : List StandingEdge) (n : ℕ) → n ≤ length after → All (λ i. i < n) old → AllPairs (λ i j. ¬ (i ≡ j)) old
    → IsPermutation (old ++ range_to n (length after)) ((seated ++ number ∷ []) ++ left) → (number < length after → in_slot after number ≡ one)
    → ((i : ℕ) → ¬ (i ≡ number) → in_slot after i ≡ in_slot before i) → map (in_slot before) seated ≡ edges → map (in_slot after) (seated ++ number ∷ []) ≡ edges ++ one ∷ []
seated_more before after old seated left number one edges n grown inside apart taken here others is =
    map-append (in_slot after) seated (number ∷ []) ∙ ap (λ t. t ++ in_slot after number ∷ []) (same_edges after before seated (λ i j. others i (other i j)) ∙ is) ∙ ap (λ s. edges ++ s ∷ []) (here below)
  where
    now : List ℕ
    now = (seated ++ number ∷ []) ++ left

    among : In number now
    among = in_front (seated ++ number ∷ []) left number (in_back seated (number ∷ []) number (inl refl))

    below : number < length after
    below = in_of_all (λ i. i < length after) now (All-permutation (λ i. i < length after) (old ++ range_to n (length after)) now taken (more_inside n (length after) grown old inside)) number among

    distinct : Distinct (seated ++ (number ∷ left))
    distinct = subst Distinct (append_assoc seated (number ∷ []) left) (distinct_permutation (old ++ range_to n (length after)) now taken (more_distinct n (length after) grown old inside (simple_distinct old apart)))

    other : (i : ℕ) → In i seated → ¬ (i ≡ number)
    other i j e = not_both_in seated (number ∷ left) distinct i j (inl (sym e))

-- ---- numbers m to n of those that stand are freed, and others stand in their place
-- a part of what a function gives
pub part_of_map : {X Y : Type 0} (f : X → Y) (xs : List X) (m n : ℕ) → slice_range (map f xs) m n ≡ map f (slice_range xs m n)
part_of_map f xs m n = ap (take (n - m)) (drop-map f m xs) ∙ take-map f (n - m) (drop m xs)

module _ (old : List StandingEdge) (standing free given : List ℕ) (m n : ℕ) (order : m ≤ n) (inside : All (λ i. i < length old) (standing ++ free)) (apart : AllPairs (λ i j. ¬ (i ≡ j)) (standing ++ free))
    (freed : given ≡ free ++ slice_range standing m n) where
  abbrev front : List ℕ
  front = take m standing

  abbrev part : List ℕ
  part = slice_range standing m n

  abbrev back : List ℕ
  back = drop n standing

  parts : standing ≡ front ++ (part ++ back)
  parts = sym (take-append-drop m standing) ∙ ap (λ t. front ++ t) (drop_split standing m n order)

  -- all that there were, with more after them, in another order
  with_more : (more : List ℕ) → IsPermutation ((standing ++ free) ++ more) (front ++ (back ++ (given ++ more)))
  with_more more =
      IsPermutation-trans _ _ _ (same_order ((standing ++ free) ++ more) (front ++ (part ++ (back ++ (free ++ more)))) (ap (λ t. (t ++ free) ++ more) parts ∙ simp append_assoc))
      (IsPermutation-trans _ _ _ (IsPermutation-append_right front (part ++ (back ++ (free ++ more))) (back ++ (part ++ (free ++ more))) (to_front part back (free ++ more)))
      (IsPermutation-trans _ _ _ (IsPermutation-append_right front (back ++ (part ++ (free ++ more))) (back ++ (free ++ (part ++ more))) (IsPermutation-append_right back (part ++ (free ++ more)) (free ++ (part ++ more)) (to_front part free more)))
      (same_order (front ++ (back ++ (free ++ (part ++ more)))) (front ++ (back ++ (given ++ more))) (ap (λ t. front ++ (back ++ t)) (sym (append_assoc free part more) ∙ ap (λ t. t ++ more) (sym freed))))))

  pub given_inside : All (λ i. i < length old) given
  given_inside = all_of_in (λ i. i < length old) given (λ i j. in_of_all (λ i. i < length old) (standing ++ free) inside i (there i (let P : List ℕ → Type 0 = In i in subst P freed j)))
    where
      there : (i : ℕ) → In i (free ++ part) → In i (standing ++ free)
      there i j = ⊎_elim (λ k. in_back standing free i k) (λ k. in_front standing free i (in_drop m standing i (in_take (n - m) (drop m standing) i k))) (in_append free part i j)

  pub given_apart : AllPairs (λ i j. ¬ (i ≡ j)) given
  given_apart =
      let all : Distinct ((standing ++ free) ++ []) = subst Distinct (sym (append-nil (standing ++ free))) (simple_distinct (standing ++ free) apart) in
      let moved = distinct_permutation ((standing ++ free) ++ []) (front ++ (back ++ (given ++ []))) (with_more []) all in
      distinct_pairs given (distinct_front given [] (distinct_back back (given ++ []) (distinct_back front (back ++ (given ++ [])) moved)))

  module _ (new : List StandingEdge) (seated left : List ℕ) (grown : length old ≤ length new) (taken : IsPermutation (given ++ range_to (length old) (length new)) (seated ++ left))
      (others : (i : ℕ) → ¬ (Contains seated i) → in_slot new i ≡ in_slot old i) where
    abbrev added : List ℕ
    added = range_to (length old) (length new)

    abbrev pub now : List ℕ
    now = front ++ seated ++ back

    moved : IsPermutation ((standing ++ free) ++ added) (front ++ (seated ++ (back ++ left)))
    moved =
        IsPermutation-trans _ _ _ (with_more added)
        (IsPermutation-trans _ _ _ (IsPermutation-append_right front (back ++ (given ++ added)) (back ++ (seated ++ left)) (IsPermutation-append_right back (given ++ added) (seated ++ left) taken))
        (IsPermutation-append_right front (back ++ (seated ++ left)) (seated ++ (back ++ left)) (to_front back seated left)))

    to_now : IsPermutation ((standing ++ free) ++ added) (now ++ left)
    to_now = IsPermutation-trans _ _ _ moved (same_order (front ++ (seated ++ (back ++ left))) (now ++ left) (sym (simp append_assoc)))

    distinct : Distinct ((standing ++ free) ++ added)
    distinct = more_distinct (length old) (length new) grown (standing ++ free) inside (simple_distinct (standing ++ free) apart)

    not_seated : (i : ℕ) → In i (front ++ (back ++ left)) → ¬ (Contains seated i)
    not_seated i j k = not_both_in seated (front ++ (back ++ left)) (distinct_permutation ((standing ++ free) ++ added) (seated ++ (front ++ (back ++ left)))
        (IsPermutation-trans _ _ _ moved (to_front front seated (back ++ left))) distinct) i (contains_in seated i k) j

    same_front : map (in_slot new) front ≡ map (in_slot old) front
    same_front = same_edges new old front (λ i j. others i (not_seated i (in_front front (back ++ left) i j)))

    same_back : map (in_slot new) back ≡ map (in_slot old) back
    same_back = same_edges new old back (λ i j. others i (not_seated i (in_back front (back ++ left) i (in_front back left i j))))

    pub now_inside : All (λ i. i < length new) (now ++ left)
    now_inside = All-permutation (λ i. i < length new) ((standing ++ free) ++ added) (now ++ left) to_now (more_inside (length old) (length new) grown (standing ++ free) inside)

    pub now_apart : AllPairs (λ i j. ¬ (i ≡ j)) (now ++ left)
    now_apart = distinct_pairs (now ++ left) (distinct_permutation ((standing ++ free) ++ added) (now ++ left) to_now distinct)

    pub now_all : ((i : ℕ) → i < length old → Contains (standing ++ free) i) → (i : ℕ) → i < length new → Contains (now ++ left) i
    now_all all i l = Contains-permutation ((standing ++ free) ++ added) (now ++ left) i to_now
        (in_contains ((standing ++ free) ++ added) i (more_all (length old) (length new) grown (standing ++ free) inside (λ j k. contains_in (standing ++ free) j (all j k)) i l))

    pub now_standing : (edges : List StandingEdge) → map (in_slot new) seated ≡ edges → map (in_slot new) now ≡ take m (map (in_slot old) standing) ++ edges ++ drop n (map (in_slot old) standing)
    now_standing edges is =
        map-append (in_slot new) (front ++ seated) back ∙ ap (λ t. t ++ map (in_slot new) back) (map-append (in_slot new) front seated)
        ∙ ap (λ t. t ++ map (in_slot new) seated ++ map (in_slot new) back) (same_front ∙ sym (take-map (in_slot old) m standing))
        ∙ ap (λ t. take m (map (in_slot old) standing) ++ t ++ map (in_slot new) back) is
        ∙ ap (λ t. take m (map (in_slot old) standing) ++ edges ++ t) (same_back ∙ sym (drop-map (in_slot old) n standing))

    -- what holds of the edges that free slots had, and of those that ended
    pub left_hold : (P : StandingEdge → Type 0) → ((i : ℕ) → Contains left i → Contains given i) → All (λ i. P (in_slot old i)) free → All P (slice_range (map (in_slot old) standing) m n) → All (λ i. P (in_slot new i)) left
    left_hold P from of_free of_part = all_of_in (λ i. P (in_slot new i)) left (λ i j. subst P (sym (others i (not_seated i (in_back front (back ++ left) i (in_back back left i j))))) (before i (given_in i j)))
      where
        given_in : (i : ℕ) → In i left → In i (free ++ part)
        given_in i j = let Q : List ℕ → Type 0 = In i in subst Q freed (contains_in given i (from i (in_contains left i j)))

        before : (i : ℕ) → In i (free ++ part) → P (in_slot old i)
        before i j = ⊎_elim (λ k. in_of_all (λ i. P (in_slot old i)) free of_free i k)
            (λ k. let Q : List StandingEdge → Type 0 = In (in_slot old i) in in_of_all P (slice_range (map (in_slot old) standing) m n) of_part (in_slot old i) (subst Q (sym (part_of_map (in_slot old) standing m n)) (map_in (in_slot old) part i k)))
            (in_append free part i j)
